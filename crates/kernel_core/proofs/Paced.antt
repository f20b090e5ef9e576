-- Every turn and every cut keeps each charge to the bound.
use Rattle.kernel_core.proofs.Common.{◌≡◌, ◌≢◌, inl, inr, ℕ, zero, suc, ◌+◌, ◌-◌, ◌<◌, ◌≤◌, cond, Bool, true, false, List, [], ◌∷◌, ◌++◌, length, set, replicate, Option, Some, refl, sym, ap, ◌∙◌, subst, arith, append-nil, append_assoc, get_or-set_same, cases_lt, Actor, Entry, answer, place_of, is_valid, finds_there, valid, entry_of_point, Point, Row, is_left, point_of, port_of, readings_of, Model, after, moved, noted, after-noted, Lasts, lasts_less, source_thread, Kernel, wants, point_found, ChargeRecord, charge_of, journal_of, not_begun, with_kernel, with_source, with_tick, begun, Setup, Board, Move, Cut, Turn, shape, sides, journal, charged, finds, kernel_turn, source_access, source_made, source_turn, row_of, entry_of_source, clock_turn, turn, cut, moved_by, first_board, IsSetup, AreMoves, IsActor, ticks, turns, IsInRange, memory, state, Holds, JobParts, IsJob, AreFirstWords, moves, run, setup_of}
use Rattle.ink_base.specs.declared.actor.Actor.TheVariants as actors
use Rattle.ink_base.specs.declared.entry.Entry.TheVariants as entries
use Rattle.push_core.specs.declared.point.Point.TheVariants as points
use Rattle.reboot.proofs.LeftFalls.{boot_left-begins}
use Rattle.kernel_core.specs.Answered.{IsPaced, ChargesArePaced, EveryChargePaced}
use Rattle.kernel_core.proofs.Answers.{none_answered}
use Rattle.kernel_core.proofs.Charges.{others_stay, charged_journal}
use Rattle.kernel_core.proofs.Cuts.{cut_goes}
use Rattle.kernel_core.proofs.Firsts.{first_holds}
use Rattle.kernel_core.proofs.JobMoves.{job_moves, job_setup, job_first, job_range}
use Rattle.kernel_core.proofs.KernelPlaces.{kernel_on}
use Rattle.kernel_core.proofs.KernelTurns.{kernel_steps}
use Rattle.kernel_core.proofs.Others.{point_follows, tick_follows}
use Rattle.kernel_core.proofs.Runs.{moves_hold, turn_begun, turn_goes, after_turn, after_cut}
use Rattle.kernel_core.proofs.Turns.{background_of, turned}
use Rattle.kernel_core.proofs.Paces.{Paced}
use Rattle.kernel_core.proofs.KernelPaces.{kernel_paces}
use Rattle.kernel_core.proofs.PacedCharges.{paced_now, paced_beside}

-- the journal of the first so many charges is no matter of the later ones
journal_before : (cs : List ChargeRecord) (n i : ℕ) (x : ChargeRecord) → n ≤ i → journal_of (set cs i x) n ≡ journal_of cs n
journal_before cs zero i x le = refl
journal_before [] (suc n) i x le = refl
journal_before (c ∷ cs) (suc n) zero x le = absurd (omega arith)
journal_before (c ∷ cs) (suc n) (suc i) x le = ap (λ (l : List Entry). c.entries ++ l) (journal_before cs n i x (omega arith))

-- and one charge more adds its entries
journal_last : (cs : List ChargeRecord) (n : ℕ) → n < length cs → journal_of cs n ++ (charge_of cs n).entries ≡ journal_of cs (suc n)
journal_last [] n lt = absurd (omega arith)
journal_last (c ∷ cs) zero lt = sym (append-nil c.entries)
journal_last (c ∷ cs) (suc n) lt = append_assoc c.entries (journal_of cs n) (charge_of cs n).entries ∙ ap (λ (l : List Entry). c.entries ++ l) (journal_last cs n (omega arith))

-- Every charge keeps to the bound so far; one that has not begun has no access.
record Paces (s : Setup) (b : Board) : Type 0 where
  unused : (k : ℕ) → b.begun ≤ k → (charge_of b.charges k).kernel_steps ≡ 0
  passed : (n : ℕ) → n + 1 < b.begun → IsPaced s (journal_of b.charges n) (charge_of b.charges n)
  here : 0 < b.begun →
      Paced s (journal_of b.charges (b.begun - 1)) (charge_of b.charges (b.begun - 1)).entries (state s b) b.kernel (charge_of b.charges (b.begun - 1)).kernel_steps

-- a charge before the one that is replaced
paced_other : (s : Setup) (cs : List ChargeRecord) (n i : ℕ) (x : ChargeRecord) → n < i → IsPaced s (journal_of cs n) (charge_of cs n) →
    IsPaced s (journal_of (set cs i x) n) (charge_of (set cs i x) n)
paced_other s cs n i x lt h =
    subst (λ (l : List Entry). IsPaced s l (charge_of (set cs i x) n)) (sym (journal_before cs n i x (omega arith)))
    (subst (λ (c : ChargeRecord). IsPaced s (journal_of cs n) c) (sym (others_stay cs i n x (λ e. omega arith))) h)

-- what is so of the one that is
paced_same : (s : Setup) (cs : List ChargeRecord) (i : ℕ) (x : ChargeRecord) (m : Model) (kernel : Kernel) → i < length cs → Paced s (journal_of cs i) x.entries m kernel x.kernel_steps →
    Paced s (journal_of (set cs i x) i) (charge_of (set cs i x) i).entries m kernel (charge_of (set cs i x) i).kernel_steps
paced_same s cs i x m kernel lt h =
    subst (λ (l : List Entry). Paced s l (charge_of (set cs i x) i).entries m kernel (charge_of (set cs i x) i).kernel_steps) (sym (journal_before cs i i x (omega arith)))
    (subst (λ (c : ChargeRecord). Paced s (journal_of cs i) c.entries m kernel c.kernel_steps) (sym (get_or-set_same cs i x (not_begun 0) lt)) h)

module _ (s : Setup) (count : ℕ) (b : Board) (g : IsSetup s) (h : Holds s count b) (some : 0 < b.begun) where
  abbrev now : ChargeRecord
  now = charge_of b.charges (b.begun - 1)

  abbrev before : List Entry
  before = journal_of b.charges (b.begun - 1)

  there : b.begun - 1 < length b.charges
  there = let e = h.size.charges_count in let le = h.size.begun in omega arith

  state_now : after s.program s.readings s.first (before ++ now.entries) ≡ state s b
  state_now =
      let one_more : suc (b.begun - 1) ≡ b.begun = omega arith in
      ap (λ (l : List Entry). after s.program s.readings s.first l) (journal_last b.charges (b.begun - 1) there ∙ ap (λ n. journal_of b.charges n) one_more)

  -- the board with an entry or none noted in the charge at hand
  abbrev with_noted : List ℕ → Kernel → List Row → (ChargeRecord → ChargeRecord) → Board
  with_noted words kernel rows f = record { words = words; kernel = kernel; rows = rows; charges = charged b f; begun = b.begun }

  noted_paces : (words : List ℕ) (kernel : Kernel) (rows : List Row) (f : ChargeRecord → ChargeRecord) (o : Option Entry) → Paces s b →
      (f now).entries ≡ noted now.entries o → Paced s before (noted now.entries o) (moved s.program s.readings (state s b) o) kernel (f now).kernel_steps →
      Paces s (with_noted words kernel rows f)
  noted_paces words kernel rows f o p is paced =
      let next : state s (with_noted words kernel rows f) ≡ moved s.program s.readings (state s b) o =
      ap (λ (l : List Entry). after s.program s.readings s.first l) (charged_journal s count b f o h.size some is) ∙ after-noted s.program s.readings s.first (journal b) o in
      record {
        unused = λ k le. ap (λ (c : ChargeRecord). c.kernel_steps) (others_stay b.charges (b.begun - 1) k (f now) (λ e. omega arith)) ∙ p.unused k le;
        passed = λ n lt. paced_other s b.charges n (b.begun - 1) (f now) (omega arith) (p.passed n lt);
        here = λ more.
            paced_same s b.charges (b.begun - 1) (f now) (state s (with_noted words kernel rows f)) kernel there
            (subst (λ (l : List Entry). Paced s before l (state s (with_noted words kernel rows f)) kernel (f now).kernel_steps) (sym is)
            (subst (λ (m : Model). Paced s before (noted now.entries o) m kernel (f now).kernel_steps) (sym next) paced));
      }

  -- a turn of the kernel
  kernel_paced : Lasts 0 (state s b) → Paces s b → Paces s (kernel_turn s b)
  kernel_paced room p =
      let bg = background_of s count b g h in
      let a = wants s.program b.kernel in
      let on = kernel_on s (memory s b) (state s b) b.kernel g bg room h.registers in
      let valid_there : is_valid (shape s) (place_of (wants s.program b.kernel)) ≡ true = valid s.program (place_of (wants s.program b.kernel)) on in
      let word : ℕ = answer (memory s b) (wants s.program b.kernel) in
      let o : Option Entry = entry_of_point (point_found s.program b.kernel (answer (memory s b) (wants s.program b.kernel))) in
      let legal = (kernel_steps s (memory s b) (state s b) (row_of b) b.kernel g bg room h.registers).kept.legal in
      let paced = kernel_paces s before now.entries (memory s b) (state s b) g bg room state_now b.kernel now.kernel_steps h.registers legal (p.here some) in
      subst (λ (v : ℕ). Paces s (turned s b v)) (sym (finds_there (shape s) b.words (wants s.program b.kernel) valid_there))
      (noted_paces (turned s b word).words (turned s b word).kernel b.rows (with_kernel o) o p refl paced)

  -- and of the others
  source_paced : (i : ℕ) → i < length s.program.sources → Paces s b → Paces s (source_turn s b i)
  source_paced i lt p = by_left (is_left (length (readings_of s.readings i)) (row_of b i))
    where
      not_scan : (point : Point) → entry_of_source i point ≢ Some entries.Scan
      not_scan points.Nothing is = cc
      not_scan points.Pushed is = cc
      not_scan points.Refused is = cc
      not_scan points.Skipped is = cc

      by_left : (left : Bool) → Paces s (cond left (source_made s b i) b)
      by_left true =
          let bg = background_of s count b g h in
          let fed : source_thread s.program i < length (state s b).threads = rw bg.sound.shape.threads (g.accepted.sources i lt) in
          let point : Point = point_of (port_of (sides s) i).queue.places (row_of b i).stage (finds b (source_access s b i)) in
          let o : Option Entry = entry_of_source i point in
          let next : Model = moved s.program s.readings (state s b) (entry_of_source i point) in
          noted_paces (source_made s b i).words b.kernel (source_made s b i).rows (with_source i o) o p refl
          (paced_beside s before now.entries (state s b) next o b.kernel now.kernel_steps (not_scan point) (point_follows s (state s b) i point fed) (p.here some))
      by_left false = p

  clock_paced : Paces s b → Paces s (clock_turn s b)
  clock_paced p =
      let next : Model = moved s.program s.readings (state s b) (Some (entries.Tick 1)) in
      noted_paces (clock_turn s b).words b.kernel b.rows with_tick (Some (entries.Tick 1)) p refl
      (paced_beside s before now.entries (state s b) next (Some (entries.Tick 1)) b.kernel now.kernel_steps (λ is. cc) (tick_follows s (state s b) 1) (p.here some))

turn_paced : (s : Setup) (count : ℕ) (b : Board) (actor : Actor) → IsSetup s → Holds s count b → 0 < b.begun → IsActor s actor → Lasts 0 (state s b) → Paces s b → Paces s (turn s b actor)
turn_paced s count b actors.Kernel g h some is room p = kernel_paced s count b g h some room p
turn_paced s count b (actors.Source i) g h some is room p = source_paced s count b g h some i.0 is p
turn_paced s count b actors.Clock g h some is room p = clock_paced s count b g h some p

-- the charge at hand before a cut
paced_before : (s : Setup) (count : ℕ) (b : Board) (n : ℕ) → IsSetup s → Holds s count b → Lasts 0 (state s b) → Paces s b → n < b.begun → IsPaced s (journal_of b.charges n) (charge_of b.charges n)
paced_before s count b n g h room p lt =
    elim (cases_lt (n + 1) b.begun) [
      | inl earlier ↦ p.passed n earlier
      | inr last ↦
          let is : b.begun - 1 ≡ n = omega arith in
          subst (λ (k : ℕ). IsPaced s (journal_of b.charges k) (charge_of b.charges k)) is
          (paced_now s (journal_of b.charges (b.begun - 1)) (charge_of b.charges (b.begun - 1)) (memory s b) (state s b) b.kernel (background_of s count b g h) room h.registers (p.here (omega arith)))
    ]

-- a cut begins a charge, with the kernel back in its boot
cut_paced : (s : Setup) (count : ℕ) (b : Board) (off : ℕ) → IsSetup s → Holds s count b → Holds s count (cut s b off) → b.begun < count → Lasts 0 (state s b) → Paces s b → Paces s (cut s b off)
cut_paced s count b off g h after left room p =
    let new : ChargeRecord = begun off (charge_of b.charges b.begun) in
    let bg = background_of s count (cut s b off) g after in
    let few = boot_left-begins s.program (state s (cut s b off)) g.accepted.counts.threads_least bg.sound.one in
    let fresh : (charge_of b.charges b.begun).kernel_steps ≡ 0 = p.unused b.begun (omega arith) in
    let last : b.begun ≡ b.begun + 1 - 1 = omega arith in
    let there : b.begun < length b.charges = rw h.size.charges_count left in
    record {
      unused = λ k le. ap (λ (c : ChargeRecord). c.kernel_steps) (others_stay b.charges b.begun k new (λ e. omega arith)) ∙ p.unused k (omega arith);
      passed = λ n lt. paced_other s b.charges n b.begun new (omega arith) (paced_before s count b n g h room p (omega arith));
      here = λ some.
          subst (λ (k : ℕ). Paced s (journal_of (cut s b off).charges k) (charge_of (cut s b off).charges k).entries (state s (cut s b off)) (cut s b off).kernel (charge_of (cut s b off).charges k).kernel_steps) last
          (paced_same s b.charges b.begun new (state s (cut s b off)) (cut s b off).kernel there
          (record { answered = 0; has = none_answered s (journal_of b.charges b.begun) new.entries; within = omega arith }));
    }

moves_paced : (s : Setup) (count : ℕ) (b : Board) (moves : List Move) → IsSetup s → Holds s count b → AreMoves s count b.begun moves → IsInRange (state s b) (ticks moves) (turns moves) → Paces s b →
    Paces s (moved_by s b moves)
moves_paced s count b [] g h are range p = p
moves_paced s count b (Cut off ∷ moves) g h are range p =
    let go = cut_goes s count b off g h are.0 (let c = range.clock in omega arith) in
    let room = lasts_less (turns (Cut off ∷ moves)) 0 (state s b) (omega arith) range.counts in
    moves_paced s count (cut s b off) moves g go.holds are.1
    (after_cut s count b off (ticks moves) (turns moves) go h are.0 (record { clock = range.clock; counts = lasts_less (turns (Cut off ∷ moves)) (turns moves) (state s b) (omega arith) range.counts }))
    (cut_paced s count b off g h go.holds are.0 room p)
moves_paced s count b (Turn actor ∷ moves) g h are range p =
    let go = turn_goes s count b actor (ticks moves) (turns moves) g h are.0 are.1 range in
    let room = lasts_less (1 + turns moves) 0 (state s b) (omega arith) range.counts in
    moves_paced s count (turn s b actor) moves g go.holds
    (subst (λ n. AreMoves s count n moves) (sym (turn_begun s b actor)) are.2)
    (after_turn s count b (turn s b actor) (ticks moves) (turns moves) go range)
    (turn_paced s count b actor g h are.0 are.1 room p)

first_unused : (count sources k : ℕ) → (charge_of (replicate count (not_begun sources)) k).kernel_steps ≡ 0
first_unused zero sources k = refl
first_unused (suc count) sources zero = refl
first_unused (suc count) sources (suc k) = first_unused count sources k

pub every_charge_paced : EveryChargePaced
every_charge_paced s words charges moves g stands are range n =
    let first : Board = first_board s words charges in
    let begins = first_holds s words charges g stands in
    let held = moves_hold s charges (first_board s words charges) moves g begins are range in
    let p : Paces s (moved_by s (first_board s words charges) moves) =
    moves_paced s charges (first_board s words charges) moves g begins are range
    (record { unused = λ k le. first_unused charges (length s.program.sources) k; passed = λ n lt. absurd (omega arith); here = λ some. absurd (omega arith) }) in
    let end : Board = moved_by s (first_board s words charges) moves in
    elim (cases_lt n (moved_by s (first_board s words charges) moves).begun) [
      | inl begun ↦ paced_before s charges (moved_by s (first_board s words charges) moves) n g held.0 held.1 p begun
      | inr later ↦ let none = p.unused n later in record { boots = λ more. absurd (omega arith); answers = λ count enough. absurd (omega arith) }
    ]

-- each charge of a job's run
pub run_paced : (job : JobParts) (words : List ℕ) → IsJob job → AreFirstWords job.program job.start words → ChargesArePaced (setup_of job) (run (setup_of job) words job.charges).charges
run_paced job words is image =
    every_charge_paced (setup_of job) words (length job.charges) (moves job.charges) (job_setup job is) (job_first job words is image) (job_moves job is) (job_range job is)
