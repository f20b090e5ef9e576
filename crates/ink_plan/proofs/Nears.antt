-- Every turn and every cut keeps each charge near its first answered scan.
use Rattle.fram_words.proofs.Accesses.{finds_there}
use Rattle.fram_words.specs.Places.{answer, place_of}
use Rattle.fram_words.specs.Shape.{is_valid}
use Rattle.ink_base.specs.declared.actor.Actor.{Actor}
use Rattle.ink_base.specs.declared.entry.Entry.{Entry}
use Rattle.ink_layout.proofs.Regions.{valid}
use Rattle.ink_layout.specs.Points.{entry_of_point}
use Rattle.kernel_core.specs.Board.{Setup, Board, Move, Cut, Turn, shape, sides, journal, charged, finds, kernel_access, kernel_turn, source_access, source_made, source_turn, row_of, entry_of_source, clock_turn, turn, cut, moved_by, first_board}
use Rattle.kernel_core.specs.First.{IsSetup, StandsFirst}
use Rattle.kernel_core.specs.Kernel.{wants, takes, point_found}
use Rattle.kernel_core.specs.Moves.{AreMoves, IsActor, ticks, turns, IsInRange}
use Rattle.kernel_core.specs.Record.{charge_of, journal_of, not_begun, with_kernel, with_source, with_tick, begun}
use Rattle.kernel_core.specs.Stands.{memory, state}
use Rattle.kernel_core.specs.declared.kernel.Kernel.{Kernel}
use Rattle.kernel_core.specs.declared.kernel.Kernel.TheVariants.{Boot, Scan, Task}
use Rattle.kernel_core.specs.kept.Holds.{Holds}
use Rattle.never_cut.proofs.Journals.{after-noted}
use Rattle.never_cut.proofs.Lasting.{lasts_less}
use Rattle.never_cut.specs.Entries.{readings_of}
use Rattle.never_cut.specs.Journal.{after, moved, noted}
use Rattle.never_cut.specs.Within.{Lasts}
use Rattle.never_cut.specs.declared.model.Model.{Model}
use Rattle.prog_check.specs.Lookup.{source_thread}
use Rattle.push_core.specs.Table.{is_left, point_of}
use Rattle.push_core.specs.declared.point.Point.{Point}
use Rattle.push_core.specs.declared.row.Row.{Row}
use Rattle.source_laws.specs.Rows.{port_of}
use Rattle.std.proofs.Common.{◌≡◌, ◌≢◌, inl, inr, ℕ, zero, suc, ◌+◌, ◌*◌, ◌-◌, ◌<◌, ◌≤◌, cond, Bool, true, false, List, [], ◌∷◌, ◌++◌, length, set, replicate, Option, Some, refl, sym, ap, ◌∙◌, subst, arith, append-nil, append_assoc, get_or-set_same}
use Rattle.std.proofs.lemmas.Bool.{cases_lt}
use Rattle.ink_base.specs.declared.actor.Actor.TheVariants as actors
use Rattle.ink_base.specs.declared.entry.Entry.TheVariants as entries
use Rattle.ink_layout.specs.declared.pick.Pick.{Pick}
use Rattle.never_cut.specs.Bounds.{boot_bound, scan_bound, round_bound}
use Rattle.push_core.specs.declared.point.Point.TheVariants as points
use Rattle.priority_sched.specs.kept.LeftMost.{scan_left}
use Rattle.reboot.specs.kept.LeftMost.{boot_left}
use Rattle.reboot.proofs.LeftFalls.{boot_left-begins}
use Rattle.kernel_core.specs.Answered.{HasAnswered}
use Rattle.kernel_core.specs.Costed.{IsServed}
use Rattle.kernel_core.proofs.Answers.{none_answered, answers_stay, fewer_answered}
use Rattle.kernel_core.proofs.Charges.{others_stay, charged_journal}
use Rattle.kernel_core.proofs.Costed.{turn_counts}
use Rattle.kernel_core.proofs.Cuts.{cut_goes}
use Rattle.kernel_core.proofs.Firsts.{first_holds}
use Rattle.kernel_core.proofs.KernelPlaces.{kernel_on}
use Rattle.kernel_core.proofs.KernelTurns.{kernel_steps}
use Rattle.kernel_core.proofs.Others.{point_follows, tick_follows}
use Rattle.kernel_core.proofs.Runs.{turn_begun, turn_goes, after_turn, after_cut}
use Rattle.kernel_core.proofs.Turns.{background_of}
use Rattle.kernel_core.proofs.Paces.{Paced, service_most}
use Rattle.kernel_core.proofs.KernelPaces.{kernel_paces}
use Rattle.kernel_core.proofs.PacedCharges.{paced_beside}
use Rattle.kernel_core.specs.declared.charge_record.ChargeRecord.{ChargeRecord}
use Rattle.ink_plan.specs.Charges.{Suffices}
use Rattle.ink_plan.proofs.Counted.{CostsWithin, Counts, NearBy, kernel_near}

-- the journal of the first so many charges is no matter of the later ones
journal_before : (cs : List ChargeRecord) (n i : ℕ) (x : ChargeRecord) → n ≤ i → journal_of (set cs i x) n ≡ journal_of cs n
journal_before cs zero i x le = refl
journal_before [] (suc n) i x le = refl
journal_before (c ∷ cs) (suc n) zero x le = absurd (omega arith)
journal_before (c ∷ cs) (suc n) (suc i) x le = ap (λ (l : List Entry). c.entries ++ l) (journal_before cs n i x (omega arith))

-- and one charge more adds its entries
journal_last : (cs : List ChargeRecord) (n : ℕ) → n < length cs → journal_of cs n ++ (charge_of cs n).entries ≡ journal_of cs (suc n)
journal_last [] n lt = absurd (omega arith)
journal_last (c ∷ cs) zero lt = sym (append-nil c.entries)
journal_last (c ∷ cs) (suc n) lt = append_assoc c.entries (journal_of cs n) (charge_of cs n).entries ∙ ap (λ (l : List Entry). c.entries ++ l) (journal_last cs n (omega arith))

-- what a charge is to have
abbrev least_by : Setup → (most : ℕ) → ℕ
least_by s most = boot_bound s.program + (scan_bound s.program + 2) + most

-- the charge is near its first answered scan, or past it
abbrev IsNear : Setup → (most : ℕ) → Board → (before : List Entry) → ChargeRecord → Type 0
IsNear s most b before c = NearBy s most b before c.entries c.kernel_steps b.kernel

-- Every charge keeps to the bound so far; one that has not begun has no access.
record Paces (s : Setup) (most : ℕ) (b : Board) : Type 0 where
  unused : (k : ℕ) → b.begun ≤ k → (charge_of b.charges k).kernel_steps ≡ 0
  passed : (n : ℕ) → n + 1 < b.begun → Suffices s (least_by s most) (journal_of b.charges n) (charge_of b.charges n)
  near : 0 < b.begun → IsNear s most b (journal_of b.charges (b.begun - 1)) (charge_of b.charges (b.begun - 1))
  here : 0 < b.begun →
      Paced s (journal_of b.charges (b.begun - 1)) (charge_of b.charges (b.begun - 1)).entries (state s b) b.kernel (charge_of b.charges (b.begun - 1)).kernel_steps

-- a charge before the one that is replaced
paced_other : (s : Setup) (least : ℕ) (cs : List ChargeRecord) (n i : ℕ) (x : ChargeRecord) → n < i → Suffices s least (journal_of cs n) (charge_of cs n) →
    Suffices s least (journal_of (set cs i x) n) (charge_of (set cs i x) n)
paced_other s least cs n i x lt h =
    subst (λ (l : List Entry). Suffices s least l (charge_of (set cs i x) n)) (sym (journal_before cs n i x (omega arith)))
    (subst (λ (c : ChargeRecord). Suffices s least (journal_of cs n) c) (sym (others_stay cs i n x (λ e. omega arith))) h)

-- a board whose charge is near keeps so with the charge written back
near_same : (s : Setup) (most : ℕ) (b : Board) (cs : List ChargeRecord) (i : ℕ) (x : ChargeRecord) → i < length cs → IsNear s most b (journal_of cs i) x →
    IsNear s most b (journal_of (set cs i x) i) (charge_of (set cs i x) i)
near_same s most b cs i x lt h =
    subst (λ (l : List Entry). IsNear s most b l (charge_of (set cs i x) i)) (sym (journal_before cs i i x (omega arith)))
    (subst (λ (c : ChargeRecord). IsNear s most b (journal_of cs i) c) (sym (get_or-set_same cs i x (not_begun 0) lt)) h)

-- what is so of the one that is
paced_same : (s : Setup) (cs : List ChargeRecord) (i : ℕ) (x : ChargeRecord) (m : Model) (kernel : Kernel) → i < length cs → Paced s (journal_of cs i) x.entries m kernel x.kernel_steps →
    Paced s (journal_of (set cs i x) i) (charge_of (set cs i x) i).entries m kernel (charge_of (set cs i x) i).kernel_steps
paced_same s cs i x m kernel lt h =
    subst (λ (l : List Entry). Paced s l (charge_of (set cs i x) i).entries m kernel (charge_of (set cs i x) i).kernel_steps) (sym (journal_before cs i i x (omega arith)))
    (subst (λ (c : ChargeRecord). Paced s (journal_of cs i) c.entries m kernel c.kernel_steps) (sym (get_or-set_same cs i x (not_begun 0) lt)) h)

module _ (s : Setup) (most count : ℕ) (b : Board) (g : IsSetup s) (h : Holds s count b) (some : 0 < b.begun) (costs : CostsWithin s most) where
  abbrev now : ChargeRecord
  now = charge_of b.charges (b.begun - 1)

  abbrev before : List Entry
  before = journal_of b.charges (b.begun - 1)

  there : b.begun - 1 < length b.charges
  there = let e = h.size.charges_count in let le = h.size.begun in omega arith

  state_now : after s.program s.readings s.first (before ++ now.entries) ≡ state s b
  state_now =
      let one_more : suc (b.begun - 1) ≡ b.begun = omega arith in
      ap (λ (l : List Entry). after s.program s.readings s.first l) (journal_last b.charges (b.begun - 1) there ∙ ap (λ n. journal_of b.charges n) one_more)

  -- the board with an entry or none noted in the charge at hand
  abbrev with_noted : List ℕ → Kernel → List Row → (ChargeRecord → ChargeRecord) → Board
  with_noted words kernel rows f = record { words = words; kernel = kernel; rows = rows; charges = charged b f; begun = b.begun }

  noted_paces : (words : List ℕ) (kernel : Kernel) (rows : List Row) (f : ChargeRecord → ChargeRecord) (o : Option Entry) → Paces s most b →
      (f now).entries ≡ noted now.entries o → Paced s before (noted now.entries o) (moved s.program s.readings (state s b) o) kernel (f now).kernel_steps →
      NearBy s most (with_noted words kernel rows f) before (noted now.entries o) (f now).kernel_steps kernel → Paces s most (with_noted words kernel rows f)
  noted_paces words kernel rows f o p is paced near =
      let next : state s (with_noted words kernel rows f) ≡ moved s.program s.readings (state s b) o =
      ap (λ (l : List Entry). after s.program s.readings s.first l) (charged_journal s count b f o h.size some is) ∙ after-noted s.program s.readings s.first (journal b) o in
      record {
        unused = λ k le. ap (λ (c : ChargeRecord). c.kernel_steps) (others_stay b.charges (b.begun - 1) k (f now) (λ e. omega arith)) ∙ p.unused k le;
        passed = λ n lt. paced_other s (least_by s most) b.charges n (b.begun - 1) (f now) (omega arith) (p.passed n lt);
        near = λ more.
            near_same s most (with_noted words kernel rows f) b.charges (b.begun - 1) (f now) there
            (subst (λ (l : List Entry). NearBy s most (with_noted words kernel rows f) before l (f now).kernel_steps kernel) (sym is) near);
        here = λ more.
            paced_same s b.charges (b.begun - 1) (f now) (state s (with_noted words kernel rows f)) kernel there
            (subst (λ (l : List Entry). Paced s before l (state s (with_noted words kernel rows f)) kernel (f now).kernel_steps) (sym is)
            (subst (λ (m : Model). Paced s before (noted now.entries o) m kernel (f now).kernel_steps) (sym next) paced));
      }

  -- what is left of a service outlasts the accesses of the others
  counts_on : (next : Board) → ((pick : Pick) (rest : ℕ) → IsServed s b pick rest → IsServed s next pick rest) → (steps : ℕ) (k : Kernel) → Counts s most b steps k → Counts s most next steps k
  counts_on next goes steps (Task r) (pick, n, served, positive, within) = (pick, n, goes pick n served, positive, within)
  counts_on next goes steps (Boot boot) counts = tt
  counts_on next goes steps (Scan stamp machine) counts = tt

  near_on : (next : Board) (o : Option Entry) → (Counts s most b now.kernel_steps b.kernel → Counts s most next now.kernel_steps b.kernel) →
      NearBy s most b before now.entries now.kernel_steps b.kernel → NearBy s most next before (noted now.entries o) now.kernel_steps b.kernel
  near_on next o goes (inl has) = inl (answers_stay s before now.entries o 1 has)
  near_on next o goes (inr counts) = inr (goes counts)

  -- a turn of the kernel
  kernel_paced : Lasts 0 (state s b) → Paces s most b → Paces s most (kernel_turn s b)
  kernel_paced room p =
      let bg = background_of s count b g h in
      let on = kernel_on s (memory s b) (state s b) b.kernel g bg room h.registers in
      let valid_there : is_valid (shape s) (place_of (wants s.program b.kernel)) ≡ true = valid s.program (place_of (wants s.program b.kernel)) on in
      let found : finds b (kernel_access s b) ≡ answer (memory s b) (wants s.program b.kernel) = finds_there (shape s) b.words (wants s.program b.kernel) valid_there in
      let o : Option Entry = entry_of_point (point_found s.program b.kernel (finds b (kernel_access s b))) in
      let legal = (kernel_steps s (memory s b) (state s b) (row_of b) b.kernel g bg room h.registers).kept.legal in
      let paced = kernel_paces s before now.entries (memory s b) (state s b) g bg room state_now b.kernel now.kernel_steps h.registers legal (p.here some) in
      let here =
      subst (λ (v : ℕ). Paced s before (noted now.entries (entry_of_point (point_found s.program b.kernel v))) (moved s.program s.readings (state s b) (entry_of_point (point_found s.program b.kernel v))) (takes s.program b.kernel v) (now.kernel_steps + 1))
      (sym found) paced
      in
      let near = kernel_near s count b most g h some room costs before now.entries now.kernel_steps b.kernel refl (p.near some) (p.here some) in
      noted_paces (kernel_turn s b).words (kernel_turn s b).kernel b.rows (with_kernel o) o p refl here near

  -- and of the others
  source_paced : (i : ℕ) → i < length s.program.sources → Lasts 0 (state s b) → Paces s most b → Paces s most (source_turn s b i)
  source_paced i lt room p =
      by_left (is_left (length (readings_of s.readings i)) (row_of b i))
      (counts_on (source_turn s b i) (turn_counts s count b (actors.Source (record { 0 = i })) g h room lt) now.kernel_steps b.kernel)
    where
      not_scan : (point : Point) → entry_of_source i point ≢ Some entries.Scan
      not_scan points.Nothing is = cc
      not_scan points.Pushed is = cc
      not_scan points.Refused is = cc
      not_scan points.Skipped is = cc

      by_left : (left : Bool) → (Counts s most b now.kernel_steps b.kernel → Counts s most (cond left (source_made s b i) b) now.kernel_steps b.kernel) → Paces s most (cond left (source_made s b i) b)
      by_left true goes =
          let bg = background_of s count b g h in
          let fed : source_thread s.program i < length (state s b).threads = rw bg.sound.shape.threads (g.accepted.sources i lt) in
          let point : Point = point_of (port_of (sides s) i).queue.places (row_of b i).stage (finds b (source_access s b i)) in
          let o : Option Entry = entry_of_source i point in
          let next : Model = moved s.program s.readings (state s b) (entry_of_source i point) in
          noted_paces (source_made s b i).words b.kernel (source_made s b i).rows (with_source i o) o p refl
          (paced_beside s before now.entries (state s b) next o b.kernel now.kernel_steps (not_scan point) (point_follows s (state s b) i point fed) (p.here some))
          (near_on (source_made s b i) o goes (p.near some))
      by_left false goes = p

  clock_paced : Lasts 0 (state s b) → Paces s most b → Paces s most (clock_turn s b)
  clock_paced room p =
      let next : Model = moved s.program s.readings (state s b) (Some (entries.Tick 1)) in
      noted_paces (clock_turn s b).words b.kernel b.rows with_tick (Some (entries.Tick 1)) p refl
      (paced_beside s before now.entries (state s b) next (Some (entries.Tick 1)) b.kernel now.kernel_steps (λ is. cc) (tick_follows s (state s b) 1) (p.here some))
      (near_on (clock_turn s b) (Some (entries.Tick 1)) (counts_on (clock_turn s b) (turn_counts s count b actors.Clock g h room tt) now.kernel_steps b.kernel) (p.near some))

turn_paced : (s : Setup) (most count : ℕ) (b : Board) (actor : Actor) → IsSetup s → Holds s count b → 0 < b.begun → CostsWithin s most → IsActor s actor → Lasts 0 (state s b) → Paces s most b →
    Paces s most (turn s b actor)
turn_paced s most count b actors.Kernel g h some costs is room p = kernel_paced s most count b g h some costs room p
turn_paced s most count b (actors.Source i) g h some costs is room p = source_paced s most count b g h some costs i.0 is room p
turn_paced s most count b actors.Clock g h some costs is room p = clock_paced s most count b g h some costs room p

-- with enough accesses the charge at hand has an answered scan
near_enough : (s : Setup) (most : ℕ) (b : Board) (before es : List Entry) (m : Model) (steps : ℕ) (k : Kernel) → Paced s before es m k steps → NearBy s most b before es steps k →
    least_by s most ≤ steps → HasAnswered s before es 1
near_enough s most b before es m steps k paced (inl has) enough = has
near_enough s most b before es m steps (Task r) paced (inr (pick, n, served, positive, within)) enough = absurd (omega arith)
near_enough s most b before es m steps (Boot boot) h (inr counts) enough = by_answered h.answered h.has h.within
  where
    by_answered : (n : ℕ) → HasAnswered s before es n → steps + boot_left s.program m boot ≤ boot_bound s.program + n * round_bound s.program → HasAnswered s before es 1
    by_answered zero has within = absurd (omega arith)
    by_answered (suc n) has within = fewer_answered s before es (suc n) 1 (omega arith) has
near_enough s most b before es m steps (Scan stamp machine) (inl (h, clock)) (inr counts) enough = by_answered h.answered h.has h.within
  where
    by_answered : (n : ℕ) → HasAnswered s before es n → steps + 0 ≤ boot_bound s.program + n * round_bound s.program → HasAnswered s before es 1
    by_answered zero has within = absurd (omega arith)
    by_answered (suc n) has within = fewer_answered s before es (suc n) 1 (omega arith) has
near_enough s most b before es m steps (Scan stamp machine) (inr (w, looks)) (inr counts) enough = by_answered w.answered w.waits.has w.within
  where
    by_answered : (n : ℕ) → HasAnswered s before es n → steps + (scan_left s.program machine + service_most s.program) ≤ boot_bound s.program + n * round_bound s.program + round_bound s.program →
        HasAnswered s before es 1
    by_answered zero has within = absurd (omega arith)
    by_answered (suc n) has within = fewer_answered s before es (suc n) 1 (omega arith) has

-- the charge at hand before a cut
suffices_before : (s : Setup) (most : ℕ) (b : Board) (n : ℕ) → Paces s most b → n < b.begun → Suffices s (least_by s most) (journal_of b.charges n) (charge_of b.charges n)
suffices_before s most b n p lt =
    elim (cases_lt (n + 1) b.begun) [
      | inl earlier ↦ p.passed n earlier
      | inr last ↦
          let is : b.begun - 1 ≡ n = omega arith in
          subst (λ (k : ℕ). Suffices s (least_by s most) (journal_of b.charges k) (charge_of b.charges k)) is
          (near_enough s most b (journal_of b.charges (b.begun - 1)) (charge_of b.charges (b.begun - 1)).entries (state s b) (charge_of b.charges (b.begun - 1)).kernel_steps b.kernel (p.here (omega arith))
          (p.near (omega arith)))
    ]

-- a cut begins a charge, with the kernel back in its boot
cut_paced : (s : Setup) (most count : ℕ) (b : Board) (off : ℕ) → IsSetup s → Holds s count b → Holds s count (cut s b off) → b.begun < count → Paces s most b → Paces s most (cut s b off)
cut_paced s most count b off g h after left p =
    let new : ChargeRecord = begun off (charge_of b.charges b.begun) in
    let bg = background_of s count (cut s b off) g after in
    let few = boot_left-begins s.program (state s (cut s b off)) g.accepted.counts.threads_least bg.sound.one in
    let fresh : (charge_of b.charges b.begun).kernel_steps ≡ 0 = p.unused b.begun (omega arith) in
    let last : b.begun ≡ b.begun + 1 - 1 = omega arith in
    let there : b.begun < length b.charges = rw h.size.charges_count left in
    record {
      unused = λ k le. ap (λ (c : ChargeRecord). c.kernel_steps) (others_stay b.charges b.begun k new (λ e. omega arith)) ∙ p.unused k (omega arith);
      passed = λ n lt. paced_other s (least_by s most) b.charges n b.begun new (omega arith) (suffices_before s most b n p (omega arith));
      near = λ some. inr tt;
      here = λ some.
          subst (λ (k : ℕ). Paced s (journal_of (cut s b off).charges k) (charge_of (cut s b off).charges k).entries (state s (cut s b off)) (cut s b off).kernel (charge_of (cut s b off).charges k).kernel_steps) last
          (paced_same s b.charges b.begun new (state s (cut s b off)) (cut s b off).kernel there
          (record { answered = 0; has = none_answered s (journal_of b.charges b.begun) new.entries; within = omega arith }));
    }

moves_paced : (s : Setup) (most count : ℕ) (b : Board) (moves : List Move) → IsSetup s → CostsWithin s most → Holds s count b → AreMoves s count b.begun moves →
    IsInRange (state s b) (ticks moves) (turns moves) → Paces s most b → Paces s most (moved_by s b moves)
moves_paced s most count b [] g costs h are range p = p
moves_paced s most count b (Cut off ∷ moves) g costs h are range p =
    let go = cut_goes s count b off g h are.0 (let c = range.clock in omega arith) in
    moves_paced s most count (cut s b off) moves g costs go.holds are.1
    (after_cut s count b off (ticks moves) (turns moves) go h are.0 (record { clock = range.clock; counts = lasts_less (turns (Cut off ∷ moves)) (turns moves) (state s b) (omega arith) range.counts }))
    (cut_paced s most count b off g h go.holds are.0 p)
moves_paced s most count b (Turn actor ∷ moves) g costs h are range p =
    let go = turn_goes s count b actor (ticks moves) (turns moves) g h are.0 are.1 range in
    let room = lasts_less (1 + turns moves) 0 (state s b) (omega arith) range.counts in
    moves_paced s most count (turn s b actor) moves g costs go.holds
    (subst (λ n. AreMoves s count n moves) (sym (turn_begun s b actor)) are.2)
    (after_turn s count b (turn s b actor) (ticks moves) (turns moves) go range)
    (turn_paced s most count b actor g h are.0 costs are.1 room p)

first_unused : (count sources k : ℕ) → (charge_of (replicate count (not_begun sources)) k).kernel_steps ≡ 0
first_unused zero sources k = refl
first_unused (suc count) sources zero = refl
first_unused (suc count) sources (suc k) = first_unused count sources k

-- so each charge of a run has an answered scan where it has enough accesses
pub charges_suffice : (s : Setup) (most : ℕ) (words : List ℕ) (charges : ℕ) (moves : List Move) → IsSetup s → CostsWithin s most → StandsFirst s words → AreMoves s charges 0 moves →
    IsInRange s.first (ticks moves) (turns moves) → (n : ℕ) →
    Suffices s (least_by s most) (journal_of (moved_by s (first_board s words charges) moves).charges n) (charge_of (moved_by s (first_board s words charges) moves).charges n)
charges_suffice s most words charges moves g costs stands are range n =
    let begins = first_holds s words charges g stands in
    let p : Paces s most (moved_by s (first_board s words charges) moves) =
    moves_paced s most charges (first_board s words charges) moves g costs begins are range (record {
      unused = λ k le. first_unused charges (length s.program.sources) k;
      passed = λ n lt. absurd (omega arith);
      near = λ some. absurd (omega arith);
      here = λ some. absurd (omega arith);
    })
    in
    elim (cases_lt n (moved_by s (first_board s words charges) moves).begun) [
      | inl begun ↦ suffices_before s most (moved_by s (first_board s words charges) moves) n p begun
      | inr later ↦ let none = p.unused n later in λ enough. absurd (omega arith)
    ]
