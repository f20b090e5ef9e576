-- The turns of the kernel and the clock on the fields of a core.
use Rattle.kernel_core.proofs.Common.{◌≡◌, ◌≢◌, inl, inr, ℕ, zero, suc, ◌+◌, ◌-◌, ◌<◌, ◌≤◌, ◌^◌, List, [], ◌∷◌, length, map, get_or, set, slice_index, Option, Some, refl, sym, ap, ◌∙◌, subst, arith, get_or-set_same, get_or-set_other, cases_eq, length-map, get_or_read, Entry, Memory, answer, place_of, address, Access, Layout, performed, address_of, FitsWords, at_address, finds_there, word_there, address_same, Program, at_layout, IsLayout, entry_of_point, IsOnBoard, valid, below, Model, IsAllowed, Lasts, lasts_less, Pusher, JobParts, scan_in_range, every_task_fits, Kernel, wants, takes, point_found, ChargeRecord, charge_of, with_kernel, with_tick, Recorded, KeepsRoom, Setup, Board, shape, finds, charged, kernel_access, kernel_turn, clock_turn, BoardStands, memory, state, kernel_made, clock_made, setup_of, turns_in, IsCore, IsPusher, AreRecords, CanCount, StaysInRange, charge_in, row_in, none_recorded, no_pusher, turns_from}
use Rattle.ink_base.specs.declared.actor.Actor.TheVariants as actors
use Rattle.fram_words.specs.Places as places
use Rattle.fram_words.specs.declared.access.Access.TheVariants as fram
use Rattle.reboot.proofs.Ranges.{boot_in_range}
use Rattle.kernel_core.specs.declared.kernel.Kernel.TheVariants as kernels
use Rattle.kernel_core.specs.Fits.{CanWant, CanTake}
use Rattle.kernel_core.specs.kept.Paces.{Settles}
use Rattle.kernel_core.proofs.Turns.{Goes, kernel_goes, background_of}
use Rattle.kernel_core.proofs.Cuts.{clock_goes}
use Rattle.kernel_core.proofs.KernelPlaces.{kernel_on}
use Rattle.kernel_core.proofs.KernelTurns.{kernel_steps}
use Rattle.kernel_core.proofs.Standing.{board_stands}
use Rattle.kernel_core.proofs.Settled.{turn_settles}

-- an access to a place of the board stands at the same address by layout and by shape
pub same_access : (program : Program) (l : Layout) (a : places.Access) → IsLayout program l → IsOnBoard program (place_of a) → at_layout l a ≡ at_address (Rattle.ink_layout.specs.Shape.shape_of program) a
same_access program l (places.Load p) h on = ap (λ n. fram.Load n) (h.addresses p on)
same_access program l (places.Store p v) h on = ap (λ n. fram.Store n v) (h.addresses p on)
same_access program l (places.Exchange p e v) h on = ap (λ n. fram.Exchange n e v) (h.addresses p on)
same_access program l (places.Add p k) h on = ap (λ n. fram.Add n k) (h.addresses p on)

pub map-set : (xs : List Recorded) (i : ℕ) (x : Recorded) → map charge_in (set xs i x) ≡ set (map charge_in xs) i (charge_in x)
map-set [] i x = refl
map-set (y ∷ ys) zero x = refl
map-set (y ∷ ys) (suc i) x = ap (λ l. charge_in y ∷ l) (map-set ys i x)

pub charge_at : (xs : List Recorded) (i : ℕ) → charge_of (map charge_in xs) i ≡ (get_or xs i none_recorded).charge
charge_at [] i = refl
charge_at (y ∷ ys) zero = refl
charge_at (y ∷ ys) (suc i) = charge_at ys i

-- the kernel adds nothing
allowed_fits : (s : Setup) (words : List ℕ) (m : Model) (a : places.Access) (memory : Memory) → IsAllowed s.program memory m a → FitsWords words (at_address (shape s) a)
allowed_fits s words m (places.Load p) memory h = tt
allowed_fits s words m (places.Store p v) memory h = tt
allowed_fits s words m (places.Exchange p e v) memory h = absurd h
allowed_fits s words m (places.Add p n) memory h = absurd h

-- the charge of a record that a turn has changed
pub charged_is : (b : Board) (records : List Recorded) (x : Recorded) (f : ChargeRecord → ChargeRecord) → b.charges ≡ map charge_in records → x.charge ≡ f (get_or records (b.begun - 1) none_recorded).charge →
    map charge_in (set records (b.begun - 1) x) ≡ charged b f
charged_is b records x f is counts =
    map-set records (b.begun - 1) x
    ∙ (ap (λ z. set (map charge_in records) (b.begun - 1) z) (counts ∙ ap f (sym (charge_at records (b.begun - 1))))
    ∙ ap (λ z. set z (b.begun - 1) (f (charge_of z (b.begun - 1)))) (sym is))

module _ (job : JobParts) (l : Layout) (b : Board) (room : ℕ) (ps : List Pusher) (records : List Recorded) (h : IsCore job l b room ps records) where
  abbrev S : Setup
  S = setup_of job

  pub stands : BoardStands (setup_of job) b
  stands = board_stands (setup_of job) (length job.charges) b h.is_setup h.holds (lasts_less (room + turns_from job b.begun) 0 (state (setup_of job) b) (omega arith) h.range.counts)

  counts_room : 0 < room → Lasts 0 (state (setup_of job) b)
  counts_room some = lasts_less (room + turns_from job b.begun) 0 (state (setup_of job) b) (omega arith) h.range.counts

  on_board : 0 < room → IsOnBoard job.program (place_of (wants job.program b.kernel))
  on_board some = kernel_on (setup_of job) (memory (setup_of job) b) (state (setup_of job) b) b.kernel h.is_setup (background_of (setup_of job) (length job.charges) b h.is_setup h.holds) (counts_room some) h.holds.registers

  pub access_is : 0 < room → at_layout l (wants job.program b.kernel) ≡ kernel_access (setup_of job) b
  access_is some = same_access job.program l (wants job.program b.kernel) h.layout_is (on_board some)

  ranges : 0 < room → (k : Kernel) → b.kernel ≡ k → CanWant job.program k × CanTake job.program k (answer (memory (setup_of job) b) (wants job.program k))
  ranges some k is =
      let bg = background_of (setup_of job) (length job.charges) b h.is_setup h.holds in
      by_kernel k (subst (λ z. Rattle.kernel_core.specs.kept.Holds.KernelHolds job.program (memory (setup_of job) b) (state (setup_of job) b) z) is h.holds.registers) bg
    where
      by_kernel : (k : Kernel) → Rattle.kernel_core.specs.kept.Holds.KernelHolds job.program (memory (setup_of job) b) (state (setup_of job) b) k →
          Rattle.never_cut.specs.kept.Steps.Background job.program job.readings (memory (setup_of job) b) (state (setup_of job) b) →
          CanWant job.program k × CanTake job.program k (answer (memory (setup_of job) b) (wants job.program k))
      by_kernel (kernels.Boot boot) r bg =
          let in_range = boot_in_range job.program job.readings (memory (setup_of job) b) (state (setup_of job) b) boot bg r.0 in (in_range.row, (in_range.row, in_range.word))
      by_kernel (kernels.Scan stamp scan) r bg =
          let in_range = scan_in_range job.program job.readings (memory (setup_of job) b) (state (setup_of job) b) scan bg (counts_room some) r.1 in (in_range.row, (in_range.row, in_range.word))
      by_kernel (kernels.Task machine) r bg =
          let can = every_task_fits job.program job.readings (memory (setup_of job) b) (state (setup_of job) b) machine bg (counts_room some) r.0 r.1 in (can.wants, (can.wants, can.takes))

  pub can_want : 0 < room → CanWant job.program b.kernel
  can_want some = (ranges some b.kernel refl).0

  pub within : (a : Access) → 0 < room → a ≡ at_layout l (wants job.program b.kernel) → address_of a < length b.words
  within a some is =
      subst (λ z. address_of z < length b.words) (sym (is ∙ access_is some))
      (rw (address_same (shape (setup_of job)) (wants job.program b.kernel), h.holds.size.words) (below job.program (place_of (wants job.program b.kernel)) (on_board some)))

  pub adds_nothing : (a : Access) → 0 < room → a ≡ at_layout l (wants job.program b.kernel) → FitsWords b.words a
  adds_nothing a some is =
      let bg = background_of (setup_of job) (length job.charges) b h.is_setup h.holds in
      let step = kernel_steps (setup_of job) (memory (setup_of job) b) (state (setup_of job) b) (Rattle.kernel_core.specs.Board.row_of b) b.kernel h.is_setup bg (counts_room some) h.holds.registers in
      subst (λ z. FitsWords b.words z) (sym (is ∙ access_is some)) (allowed_fits (setup_of job) b.words (state (setup_of job) b) (wants job.program b.kernel) (memory (setup_of job) b) step.kept.allowed)

  pub can_take : (a : Access) (w : ℕ) → 0 < room → a ≡ at_layout l (wants job.program b.kernel) → w ≡ slice_index b.words (address_of a) → CanTake job.program b.kernel w
  can_take a w some is found =
      let there = valid job.program (place_of (wants job.program b.kernel)) (on_board some) in
      subst (λ z. CanTake job.program b.kernel z)
      (sym (found ∙ (ap (λ z. slice_index b.words (address_of z)) (is ∙ access_is some) ∙ finds_there (shape (setup_of job)) b.words (wants job.program b.kernel) there)))
      (ranges some b.kernel refl).1

  -- the fields after the kernel's turn
  abbrev After : List ℕ → Kernel → Recorded → Board
  After words k x = record { words = words; kernel = k; rows = b.rows; charges = map charge_in (set records (b.begun - 1) x); begun = b.begun }

  module _ (a : Access) (w : ℕ) (some : 0 < room) (is : a ≡ at_layout l (wants job.program b.kernel)) (found : w ≡ slice_index b.words (address_of a)) where
    word_is : w ≡ finds b (kernel_access (setup_of job) b)
    word_is = found ∙ ap (λ z. slice_index b.words (address_of z)) (is ∙ access_is some)

    pub kernel_turn_is : (words : List ℕ) (k : Kernel) (o : Option Entry) (x : Recorded) →
        words ≡ performed a b.words → k ≡ takes job.program b.kernel w →
        o ≡ entry_of_point (point_found job.program b.kernel w) → x.charge ≡ with_kernel o (get_or records (b.begun - 1) none_recorded).charge → After words k x ≡ kernel_turn (setup_of job) b
    kernel_turn_is words k o x made taken noted counts =
        let charges : map charge_in (set records (b.begun - 1) x) ≡ charged b (with_kernel (entry_of_point (point_found job.program b.kernel (finds b (kernel_access (setup_of job) b))))) =
        charged_is b records x (with_kernel (entry_of_point (point_found job.program b.kernel (finds b (kernel_access (setup_of job) b))))) h.charges
        (counts ∙ ap (λ z. with_kernel z (get_or records (b.begun - 1) none_recorded).charge) (noted ∙ ap (λ z. entry_of_point (point_found job.program b.kernel z)) word_is)) in
        λ i. record {
          words = (made ∙ ap (λ z. performed z b.words) (is ∙ access_is some)) i;
          kernel = (taken ∙ ap (λ z. takes job.program b.kernel z) word_is) i;
          rows = b.rows;
          charges = charges i;
          begun = b.begun;
        }

    pub kernel_made_is : (o : Option Entry) → o ≡ entry_of_point (point_found job.program b.kernel w) → record { access = Some a; word = w; entry = o } ≡ kernel_made (setup_of job) b
    kernel_made_is o noted = λ i. record {
      access = Some ((is ∙ access_is some) i);
      word = word_is i;
      entry = (noted ∙ ap (λ z. entry_of_point (point_found job.program b.kernel z)) word_is) i;
    }

  pub records_count : length records ≡ length job.charges
  records_count = sym (ap length h.charges ∙ length-map records charge_in) ∙ h.holds.size.charges_count

  -- the records after a turn that changes the one at hand
  pub records_after : (x : Recorded) → 0 < b.begun → 0 < room → CanCount (room - 1) x.charge → KeepsRoom (get_or records (b.begun - 1) none_recorded) x →
      length x.charge.source_steps ≡ length (get_or records (b.begun - 1) none_recorded).charge.source_steps →
      AreRecords job b.begun (room - 1) (set records (b.begun - 1) x)
  records_after x begun some can spare steps =
      let r = h.records_are in
      let lt : b.begun - 1 < length records = let c = records_count in let e = h.holds.size.begun in omega arith in
      let here : get_or (set records (b.begun - 1) x) (b.begun - 1) none_recorded ≡ x = get_or-set_same records (b.begun - 1) x none_recorded lt in
      record {
        counts = subst (λ (z : Recorded). CanCount (room - 1) z.charge) (sym here) can;
        has_room = subst (λ (z : Recorded). room - 1 ≤ z.spare) (sym here) (let e = r.has_room in let taken = spare.spare in omega arith);
        later = λ k le known. subst (λ (z : Recorded). turns_in job k < z.spare) (sym (elsewhere k (λ e. absurd (omega arith)))) (r.later k le known);
        whole = λ k known. elim (cases_eq k (b.begun - 1)) [
          | inl e ↦ subst (λ n. turns_in job n < (get_or (set records (b.begun - 1) x) n none_recorded).capacity) (sym e)
              (subst (λ (z : Recorded). turns_in job (b.begun - 1) < z.capacity) (sym here)
              (let w = r.whole (b.begun - 1) (let c = records_count in omega arith) in let same = spare.capacity in omega arith))
          | inr ne ↦ subst (λ (z : Recorded). turns_in job k < z.capacity) (sym (elsewhere k ne)) (r.whole k known)
        ];
        unused = λ k le known. ap (λ (z : Recorded). z.charge) (elsewhere k (λ e. absurd (omega arith))) ∙ r.unused k le known;
        steps = λ k known. elim (cases_eq k (b.begun - 1)) [
          | inl e ↦ ap (λ n. length (get_or (set records (b.begun - 1) x) n none_recorded).charge.source_steps) e
              ∙ (ap (λ (z : Recorded). length z.charge.source_steps) here ∙ (steps ∙ r.steps (b.begun - 1) (let c = records_count in omega arith)))
          | inr ne ↦ ap (λ (z : Recorded). length z.charge.source_steps) (elsewhere k ne) ∙ r.steps k known
        ];
      }
    where
      elsewhere : (k : ℕ) → k ≢ b.begun - 1 → get_or (set records (b.begun - 1) x) k none_recorded ≡ get_or records k none_recorded
      elsewhere k ne = get_or-set_other records (b.begun - 1) k x none_recorded ne

  -- the ranges after a turn
  pub range_after : (next : Board) → next.begun ≡ b.begun → 0 < room → Goes (setup_of job) (length job.charges) b next 1 → StaysInRange job (state (setup_of job) next) next.begun (room - 1)
  range_after next same some go =
      subst (λ n. StaysInRange job (state (setup_of job) next) n (room - 1)) (sym same)
      (record {
        clock = let e = h.range.clock in let c = go.clock in omega arith;
        counts = go.counts (room - 1 + turns_from job b.begun) (lasts_less (room + turns_from job b.begun) (room - 1 + turns_from job b.begun + 1) (state (setup_of job) b) (omega arith) h.range.counts);
        turns = let e = h.range.turns in omega arith;
      })

  -- the core after a turn that leaves the rows
  pub core_after : (next made : Board) (qs : List Pusher) (x : Recorded) → next ≡ made → Goes (setup_of job) (length job.charges) b made 1 → Settles (setup_of job) made → next.rows ≡ map row_in qs → next.charges ≡ map charge_in (set records (b.begun - 1) x) → next.begun ≡ b.begun →
      ((i : ℕ) → i < length job.program.sources → IsPusher (setup_of job) i (get_or qs i no_pusher)) → 0 < b.begun → 0 < room → CanCount (room - 1) x.charge → KeepsRoom (get_or records (b.begun - 1) none_recorded) x →
      length x.charge.source_steps ≡ length (get_or records (b.begun - 1) none_recorded).charge.source_steps → IsCore job l next (room - 1) qs (set records (b.begun - 1) x)
  core_after next made qs x is go settling rows charges begun_is machines begun some can spare steps =
      let goes = subst (λ z. Goes (setup_of job) (length job.charges) b z 1) (sym is) go in
      record {
        is_setup = h.is_setup;
        layout_is = h.layout_is;
        rows = rows;
        machines = machines;
        holds = goes.holds;
        settling = subst (λ z. Settles (setup_of job) z) (sym is) settling;
        range = range_after next begun_is some goes;
        charges = charges;
        records_are = subst (λ n. AreRecords job n (room - 1) (set records (b.begun - 1) x)) (sym begun_is) (records_after x begun some can spare steps);
      }

  pub kernel_turn_core : (a : Access) (w : ℕ) (words : List ℕ) (k : Kernel) (o : Option Entry) (x : Recorded) → 0 < b.begun → 0 < room →
      a ≡ at_layout l (wants job.program b.kernel) → w ≡ slice_index b.words (address_of a) → words ≡ performed a b.words → k ≡ takes job.program b.kernel w →
      o ≡ entry_of_point (point_found job.program b.kernel w) → x.charge ≡ with_kernel o (get_or records (b.begun - 1) none_recorded).charge → KeepsRoom (get_or records (b.begun - 1) none_recorded) x →
      IsCore job l (After words k x) (room - 1) ps (set records (b.begun - 1) x)
  kernel_turn_core a w words k o x begun some is found made taken noted counts spare =
      let go = kernel_goes (setup_of job) (length job.charges) b h.is_setup h.holds begun (counts_room some) in
      core_after (After words k x) (kernel_turn (setup_of job) b) ps x (kernel_turn_is a w some is found words k o x made taken noted counts)
      go (turn_settles (setup_of job) (length job.charges) b actors.Kernel h.is_setup h.holds go.holds h.settling begun tt (counts_room some)) h.rows refl refl h.machines begun some
      (subst (λ z. CanCount (room - 1) z) (sym counts) (let c = h.records_are.counts in record { kernel = let e = c.kernel in omega arith; sources = λ i. let e = c.sources i in omega arith; ticks = let e = c.ticks in omega arith }))
      spare (ap (λ (z : ChargeRecord). length z.source_steps) counts)

  -- the clock's turn
  clock_at : l.clock ≡ address (shape (setup_of job)) places.Clock
  clock_at = h.layout_is.addresses places.Clock tt

  pub clock_within : l.clock < length b.words
  clock_within = subst (λ n. n < length b.words) (sym clock_at) (rw h.holds.size.words (below job.program places.Clock tt))

  pub clock_word : slice_index b.words l.clock ≡ (state (setup_of job) b).clock
  clock_word = ap (λ n. slice_index b.words n) clock_at ∙ (word_there (shape (setup_of job)) b.words places.Clock (valid job.program places.Clock tt) ∙ h.holds.clock)

  pub clock_fits : 0 < room → slice_index b.words l.clock + 1 < 2 ^ 64
  clock_fits some = let w = clock_word in let e = h.range.clock in omega arith

  pub clock_turn_is : (words : List ℕ) (x : Recorded) → words ≡ performed (fram.Add l.clock 1) b.words → x.charge ≡ with_tick (get_or records (b.begun - 1) none_recorded).charge →
      record { words = words; kernel = b.kernel; rows = b.rows; charges = map charge_in (set records (b.begun - 1) x); begun = b.begun } ≡ clock_turn (setup_of job) b
  clock_turn_is words x made counts =
      let charges : map charge_in (set records (b.begun - 1) x) ≡ charged b with_tick = charged_is b records x with_tick h.charges counts in
      λ i. record { words = (made ∙ ap (λ n. performed (fram.Add n 1) b.words) clock_at) i; kernel = b.kernel; rows = b.rows; charges = charges i; begun = b.begun }

  pub clock_made_is : (w : ℕ) → w ≡ slice_index b.words l.clock → record { access = Some (fram.Add l.clock 1); word = w; entry = Some (Rattle.ink_base.specs.declared.entry.Entry.TheVariants.Tick 1) } ≡ clock_made (setup_of job) b
  clock_made_is w found = λ i. record {
    access = Some (fram.Add (clock_at i) 1);
    word = (found ∙ ap (λ n. slice_index b.words n) clock_at) i;
    entry = Some (Rattle.ink_base.specs.declared.entry.Entry.TheVariants.Tick 1);
  }

  pub clock_turn_core : (words : List ℕ) (x : Recorded) → 0 < b.begun → 0 < room → words ≡ performed (fram.Add l.clock 1) b.words → x.charge ≡ with_tick (get_or records (b.begun - 1) none_recorded).charge →
      KeepsRoom (get_or records (b.begun - 1) none_recorded) x →
      IsCore job l (record { words = words; kernel = b.kernel; rows = b.rows; charges = map charge_in (set records (b.begun - 1) x); begun = b.begun }) (room - 1) ps (set records (b.begun - 1) x)
  clock_turn_core words x begun some made counts spare =
      let go = clock_goes (setup_of job) (length job.charges) b h.is_setup h.holds begun (let e = h.range.clock in omega arith) in
      core_after (record { words = words; kernel = b.kernel; rows = b.rows; charges = map charge_in (set records (b.begun - 1) x); begun = b.begun }) (clock_turn (setup_of job) b) ps x (clock_turn_is words x made counts)
      go (turn_settles (setup_of job) (length job.charges) b actors.Clock h.is_setup h.holds go.holds h.settling begun tt (counts_room some)) h.rows refl refl h.machines begun some
      (subst (λ z. CanCount (room - 1) z) (sym counts) (let c = h.records_are.counts in record { kernel = let e = c.kernel in omega arith; sources = λ i. let e = c.sources i in omega arith; ticks = let e = c.ticks in omega arith }))
      spare (ap (λ (z : ChargeRecord). length z.source_steps) counts)

  -- the record at hand, as a call on an element of the vector gives it
  module _ (begun : 0 < b.begun) (x : Recorded) (is : x ≡ get_or records (b.begun - 1) x) where
    pub at_hand : x ≡ get_or records (b.begun - 1) none_recorded
    at_hand = get_or_read records (b.begun - 1) x (let c = records_count in let e = h.holds.size.begun in omega arith) is none_recorded

    pub has_spare : 0 < room → 0 < x.spare
    has_spare some = subst (λ (z : Recorded). 0 < z.spare) (sym at_hand) (let e = h.records_are.has_room in omega arith)

    pub kernel_counts : 0 < room → x.charge.kernel_steps + 1 < 2 ^ 32
    kernel_counts some = subst (λ (z : Recorded). z.charge.kernel_steps + 1 < 2 ^ 32) (sym at_hand) (let e = h.records_are.counts.kernel in omega arith)

    pub tick_counts : 0 < room → x.charge.tick_steps + 1 < 2 ^ 32
    tick_counts some = subst (λ (z : Recorded). z.charge.tick_steps + 1 < 2 ^ 32) (sym at_hand) (let e = h.records_are.counts.ticks in omega arith)

    pub source_counts : (i : ℕ) → 0 < room → slice_index x.charge.source_steps i + 1 < 2 ^ 32
    source_counts i some = subst (λ (z : Recorded). slice_index z.charge.source_steps i + 1 < 2 ^ 32) (sym at_hand) (let e = h.records_are.counts.sources i in omega arith)

    pub source_known : (i : ℕ) → i < length job.program.sources → i < length x.charge.source_steps
    source_known i lt = subst (λ (z : Recorded). i < length z.charge.source_steps) (sym at_hand) (let e = h.records_are.steps (b.begun - 1) (let c = h.holds.size.begun in omega arith) in omega arith)
