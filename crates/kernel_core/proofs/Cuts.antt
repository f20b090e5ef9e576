-- A turn of the clock and a cut keep what holds.
use Rattle.kernel_core.proofs.Common.{◌≡◌, ◌⊎◌, inl, inr, ℕ, suc, ◌+◌, ◌-◌, ◌<◌, ◌^◌, List, length, get_or, set, replicate, Some, refl, sym, ap, ◌∙◌, subst, arith, length-set, cases_lt, length-replicate, get_or-replicate, get_or_past, Entry, Tick, Clock, Memory, perform, Add, memory_of, performed, store-same, performed_there, performed_length, valid, below, Row, first_row, Kept, kept_step, Model, after, moved, noted, Lasts, after-noted, StandsPrivate, Background, SamePrivate, IsPrivate, follow_private, boot_begins, first_kernel, ChargeRecord, charge_of, journal_of, begun, with_tick, Setup, Board, shape, sides, journal, clock_access, clock_turn, cut, row_of, seen, IsSetup, memory, state, KernelHolds, HasSize, Holds}
use Rattle.source_laws.specs.Steps as steps
use Rattle.kernel_core.proofs.Sides.{within, shared_of}
use Rattle.kernel_core.proofs.Quiet.{quiet, perform_other}
use Rattle.kernel_core.proofs.Charges.{noted_last, fresh, others_stay, charged_journal, charged_later}
use Rattle.kernel_core.proofs.KernelTurns.{noted_sound}
use Rattle.kernel_core.proofs.Others.{kernel_drifts, tick_follows}
use Rattle.kernel_core.proofs.Turns.{Goes, goes_on, background_of}

module _ (s : Setup) (count : ℕ) (b : Board) (by : ℕ) (g : IsSetup s) (h : Holds s count b) (room : (state s b).clock + by < 2 ^ 47) where
  abbrev ticked : Memory
  ticked = perform (memory s b) (Add Clock by)

  abbrev next_state : Model
  next_state = moved s.program s.readings (state s b) (Some (Tick by))

  same : SamePrivate (memory s b) ticked
  same q own = perform_other (memory s b) (Add Clock by) q (λ e. subst IsPrivate (sym e) own)

  words_ticked : (next : Board) → next.words ≡ performed (clock_access s by) b.words → memory s next ≡ ticked
  words_ticked next is =
      ap (λ w. memory_of (shape s) w) is ∙ performed_there (shape s) b.words (Add Clock by) (valid s.program Clock tt) (rw h.size.words (below s.program Clock tt))

  kept_ticked : (rows : ℕ → Row) → ((i : ℕ) → (rows i ≡ row_of b i) ⊎ (rows i ≡ first_row)) → Kept (sides s) (seen ticked next_state rows)
  kept_ticked rows is =
      kept_step (sides s) (seen (memory s b) (state s b) (row_of b)) (seen ticked next_state rows) (within s g) h.kept
      (steps.Apart (quiet (memory s b) (Add Clock by) (λ x. x)) refl is)

  clock_ticked : ticked Clock ≡ next_state.clock
  clock_ticked = store-same (memory s b) Clock (memory s b Clock + by) ∙ ap (λ n. n + by) h.clock

  private_ticked : StandsPrivate ticked s.program next_state
  private_ticked = follow_private (memory s b) ticked s.program (state s b) next_state same (tick_follows s (state s b) by) h.private

  registers_ticked : KernelHolds s.program ticked next_state b.kernel
  registers_ticked = kernel_drifts s.program (memory s b) ticked (state s b) next_state b.kernel same (tick_follows s (state s b) by) h.registers

  -- what is known beside the registers
  background_ticked : Background s.program s.readings ticked next_state
  background_ticked =
      let bg = background_of s count b g h in
      let sound = noted_sound s (state s b) (Some (Tick by)) g bg.sound room in
      record {
        accepted = g.accepted;
        private = private_ticked;
        shared = shared_of s ticked next_state (row_of b) g sound (kept_ticked (row_of b) (λ i. inl refl)) clock_ticked;
        sound = sound;
      }

pub clock_goes : (s : Setup) (count : ℕ) (b : Board) → IsSetup s → Holds s count b → 0 < b.begun → (state s b).clock + 1 < 2 ^ 47 → Goes s count b (clock_turn s b) 1
clock_goes s count b g h some room =
    let words = words_ticked s count b 1 g h room (clock_turn s b) refl in
    goes_on s count b (clock_turn s b) (Some (Tick 1)) 1 h
    (record {
      words = performed_length (clock_access s 1) b.words ∙ h.size.words;
      rows = h.size.rows;
      charges_count = length-set b.charges (b.begun - 1) _ ∙ h.size.charges_count;
      begun = h.size.begun;
      later = charged_later s count b with_tick h.size some;
    })
    (charged_journal s count b with_tick (Some (Tick 1)) h.size some refl)
    room
    (subst (λ (n : Memory). StandsPrivate n s.program (next_state s count b 1 g h room)) (sym words) (private_ticked s count b 1 g h room))
    (ap (λ (n : Memory). n Clock) words ∙ clock_ticked s count b 1 g h room)
    (subst (λ (n : Memory). Kept (sides s) (seen n (next_state s count b 1 g h room) (row_of b))) (sym words) (kept_ticked s count b 1 g h room (row_of b) (λ i. inl refl)))
    (subst (λ (n : Memory). KernelHolds s.program n (next_state s count b 1 g h room) b.kernel) (sym words) (registers_ticked s count b 1 g h room))
    (omega arith)

pub first_rows : (n i : ℕ) → get_or (replicate n first_row) i first_row ≡ first_row
first_rows n i =
    elim (cases_lt i n) [
      | inl lt ↦ get_or-replicate n i first_row first_row lt
      | inr past ↦ get_or_past (replicate n first_row) i first_row (rw (length-replicate n first_row) past)
    ]

-- the charge that begins notes its tick
pub cut_journal : (s : Setup) (count : ℕ) (b : Board) (off : ℕ) → HasSize s count b → b.begun < count → journal (cut s b off) ≡ noted (journal b) (Some (Tick off))
cut_journal s count b off h left =
    let lt : b.begun < length b.charges = rw h.charges_count left in
    let one_more : suc b.begun ≡ b.begun + 1 = omega arith in
    subst (λ n. journal_of (set b.charges b.begun (begun off (charge_of b.charges b.begun))) n ≡ noted (journal b) (Some (Tick off))) one_more
    (noted_last b.charges b.begun (begun off (charge_of b.charges b.begun)) (Some (Tick off)) lt refl
    ∙ ap (λ l. noted l (Some (Tick off))) (fresh b.charges b.begun (h.later b.begun (omega arith))))

-- a cut counts nothing
pub cut_lasts : (s : Setup) (count : ℕ) (b : Board) (off left : ℕ) → Holds s count b → b.begun < count → Lasts left (state s b) → Lasts left (state s (cut s b off))
cut_lasts s count b off left h more lasts =
    let is : state s (cut s b off) ≡ moved s.program s.readings (state s b) (Some (Tick off)) =
    ap (λ (l : List Entry). after s.program s.readings s.first l) (cut_journal s count b off h.size more) ∙ after-noted s.program s.readings s.first (journal b) (Some (Tick off)) in
    subst (Lasts left) (sym is) (record { commits = lasts.commits; threads = lasts.threads; taken = lasts.taken })

pub cut_goes : (s : Setup) (count : ℕ) (b : Board) (off : ℕ) → IsSetup s → Holds s count b → b.begun < count → (state s b).clock + off < 2 ^ 47 → Goes s count b (cut s b off) off
cut_goes s count b off g h left room =
    let words = words_ticked s count b off g h room (cut s b off) refl in
    goes_on s count b (cut s b off) (Some (Tick off)) off h
    (record {
      words = performed_length (clock_access s off) b.words ∙ h.size.words;
      rows = length-replicate (length s.program.sources) first_row;
      charges_count = length-set b.charges b.begun _ ∙ h.size.charges_count;
      begun = omega arith;
      later = λ k le. ap (λ (c : ChargeRecord). c.entries) (others_stay b.charges b.begun k (begun off (charge_of b.charges b.begun)) (λ e. absurd (omega arith))) ∙ h.size.later k (omega arith);
    })
    (cut_journal s count b off h.size left)
    room
    (subst (λ (n : Memory). StandsPrivate n s.program (next_state s count b off g h room)) (sym words) (private_ticked s count b off g h room))
    (ap (λ (n : Memory). n Clock) words ∙ clock_ticked s count b off g h room)
    (subst (λ (n : Memory). Kept (sides s) (seen n (next_state s count b off g h room) (row_of (cut s b off)))) (sym words)
    (kept_ticked s count b off g h room (row_of (cut s b off)) (λ i. inr (first_rows (length s.program.sources) i))))
    (subst (λ (n : Memory). KernelHolds s.program n (next_state s count b off g h room) first_kernel) (sym words)
    (boot_begins s.program s.readings (ticked s count b off g h room) (next_state s count b off g h room) (background_ticked s count b off g h room), refl))
    (omega arith)
