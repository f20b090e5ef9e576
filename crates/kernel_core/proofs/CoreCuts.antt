-- A cut on the fields of a core.
use Rattle.kernel_core.proofs.Common.{◌≡◌, ◌≢◌, inl, inr, ℕ, zero, suc, ◌+◌, ◌-◌, ◌<◌, ◌≤◌, ◌^◌, List, [], ◌∷◌, length, map, replicate, get_or, set, slice_index, refl, sym, ap, ◌∙◌, subst, arith, get_or-set_same, get_or-set_other, cases_eq, cases_lt, length-map, get_or_read, get_or_past, get_or-replicate, length-replicate, address, Layout, performed, first_row, Pusher, JobParts, Kernel, first_kernel, ChargeRecord, charge_of, not_begun, begun, Recorded, KeepsRoom, Lasts, lasts_less, Board, shape, cut, state, setup_of, turns_in, IsCore, AreRecords, CanCount, StaysInRange, charge_in, row_in, rebooted, none_recorded, no_pusher, turns_from}
use Rattle.fram_words.specs.Places as places
use Rattle.fram_words.specs.declared.access.Access.TheVariants as fram
use Rattle.kernel_core.specs.kept.Paces.{Settles}
use Rattle.kernel_core.proofs.CoreJobs.{turns_split}
use Rattle.kernel_core.proofs.Turns.{Goes}
use Rattle.kernel_core.proofs.Cuts.{cut_goes, cut_lasts}
use Rattle.kernel_core.proofs.Settled.{cut_settles}
use Rattle.kernel_core.proofs.CoreSteps.{map-set, charge_at, clock_word, records_count}

rows_lost : (ps : List Pusher) → map row_in (map rebooted ps) ≡ replicate (length ps) first_row
rows_lost [] = refl
rows_lost (p ∷ ps) = ap (λ l. first_row ∷ l) (rows_lost ps)

ports_kept : (ps : List Pusher) (i : ℕ) → (get_or (map rebooted ps) i no_pusher).port ≡ (get_or ps i no_pusher).port
ports_kept [] i = refl
ports_kept (p ∷ ps) zero = refl
ports_kept (p ∷ ps) (suc i) = ports_kept ps i

pub nothing_counted : (n i : ℕ) → slice_index (replicate n 0) i ≡ 0
nothing_counted n i =
    elim (cases_lt i n) [
      | inl lt ↦ get_or-replicate n i 0 0 lt
      | inr past ↦ get_or_past (replicate n 0) i 0 (let long : length (replicate n 0) ≡ n = length-replicate {A = ℕ} n 0 in omega arith)
    ]

module _ (job : JobParts) (l : Layout) (b : Board) (room : ℕ) (ps : List Pusher) (records : List Recorded) (h : IsCore job l b room ps records) (more : b.begun < length job.charges) (off : ℕ) (small : off < 2 ^ 32) where
  clock_at : l.clock ≡ address (shape (setup_of job)) places.Clock
  clock_at = h.layout_is.addresses places.Clock tt

  pub cut_fits : slice_index b.words l.clock + off < 2 ^ 64
  cut_fits = let w = clock_word job l b room ps records h in let e = h.range.clock in omega arith

  clock_room : (state (setup_of job) b).clock + off < 2 ^ 47
  clock_room = let e = h.range.clock in omega arith

  -- the record of the charge that begins, as a call on an element of the vector gives it
  pub at_next : (x : Recorded) → x ≡ get_or records b.begun x → x ≡ get_or records b.begun none_recorded
  at_next x is = get_or_read records b.begun x (let c = records_count job l b room ps records h in omega arith) is none_recorded

  pub next_spare : (x : Recorded) → x ≡ get_or records b.begun x → 0 < x.spare
  next_spare x is = subst (λ (z : Recorded). 0 < z.spare) (sym (at_next x is)) (let e = h.records_are.later b.begun (omega arith) more in omega arith)

  -- the fields after the cut
  abbrev After : List ℕ → Recorded → Board
  After words x = record { words = words; kernel = first_kernel; rows = map row_in (map rebooted ps); charges = map charge_in (set records b.begun x); begun = b.begun + 1 }

  rows_are : map row_in (map rebooted ps) ≡ replicate (length job.program.sources) first_row
  rows_are = rows_lost ps ∙ ap (λ n. replicate n first_row) (sym (ap length h.rows ∙ length-map ps row_in) ∙ h.holds.size.rows)

  pub cut_is : (words : List ℕ) (x : Recorded) → words ≡ performed (fram.Add l.clock off) b.words → x.charge ≡ begun off (get_or records b.begun none_recorded).charge → After words x ≡ cut (setup_of job) b off
  cut_is words x made counts =
      let charges : map charge_in (set records b.begun x) ≡ set b.charges b.begun (begun off (charge_of b.charges b.begun)) =
      map-set records b.begun x
      ∙ (ap (λ z. set (map charge_in records) b.begun z) (counts ∙ ap (λ z. begun off z) (sym (charge_at records b.begun)))
      ∙ ap (λ z. set z b.begun (begun off (charge_of z b.begun))) (sym h.charges)) in
      λ i. record {
        words = (made ∙ ap (λ n. performed (fram.Add n off) b.words) clock_at) i;
        kernel = first_kernel;
        rows = rows_are i;
        charges = charges i;
        begun = b.begun + 1;
      }

  -- the ranges after the cut
  range_after : (next : Board) → next.begun ≡ b.begun + 1 → next ≡ cut (setup_of job) b off → Goes (setup_of job) (length job.charges) b next off →
      StaysInRange job (state (setup_of job) next) next.begun (turns_in job b.begun)
  range_after next same is go =
      let split : turns_from job b.begun ≡ turns_in job b.begun + turns_from job (b.begun + 1) = turns_split job b.begun more in
      subst (λ n. StaysInRange job (state (setup_of job) next) n (turns_in job b.begun)) (sym same)
      (record {
        clock = let e = h.range.clock in let c = go.clock in omega arith;
        counts = subst (λ z. Lasts (turns_in job b.begun + turns_from job (b.begun + 1)) (state (setup_of job) z)) (sym is)
            (cut_lasts (setup_of job) (length job.charges) b off (turns_in job b.begun + turns_from job (b.begun + 1)) h.holds more
            (lasts_less (room + turns_from job b.begun) (turns_in job b.begun + turns_from job (b.begun + 1)) (state (setup_of job) b) (omega arith) h.range.counts));
        turns = let e = h.range.turns in omega arith;
      })

  -- the record of the charge that has begun
  begun_charge : (x : Recorded) → x.charge ≡ begun off (get_or records b.begun none_recorded).charge → x.charge ≡ begun off (not_begun (length job.program.sources))
  begun_charge x counts = counts ∙ ap (λ z. begun off z) (h.records_are.unused b.begun (omega arith) more)

  records_after : (x : Recorded) → x.charge ≡ begun off (get_or records b.begun none_recorded).charge → KeepsRoom (get_or records b.begun none_recorded) x → AreRecords job (b.begun + 1) (turns_in job b.begun) (set records b.begun x)
  records_after x counts spare =
      let r = h.records_are in
      let few : turns_in job b.begun < 2 ^ 32 = let split = turns_split job b.begun more in let e = h.range.turns in omega arith in
      let index : b.begun + 1 - 1 ≡ b.begun = omega arith in
      record {
        counts = subst (λ n. CanCount (turns_in job b.begun) (get_or (set records b.begun x) n none_recorded).charge) (sym index)
            (subst (λ (z : Recorded). CanCount (turns_in job b.begun) z.charge) (sym here)
            (subst (λ z. CanCount (turns_in job b.begun) z) (sym (begun_charge x counts))
            (record { kernel = omega arith; sources = λ i. let none = nothing_counted (length job.program.sources) i in omega arith; ticks = omega arith })));
        has_room = subst (λ n. turns_in job b.begun ≤ (get_or (set records b.begun x) n none_recorded).spare) (sym index)
            (subst (λ (z : Recorded). turns_in job b.begun ≤ z.spare) (sym here) (let e = r.later b.begun (omega arith) more in let taken = spare.spare in omega arith));
        later = λ k le known. subst (λ (z : Recorded). turns_in job k < z.spare) (sym (elsewhere k (λ e. absurd (omega arith)))) (r.later k (omega arith) known);
        whole = λ k known. elim (cases_eq k b.begun) [
          | inl e ↦ subst (λ n. turns_in job n < (get_or (set records b.begun x) n none_recorded).capacity) (sym e)
              (subst (λ (z : Recorded). turns_in job b.begun < z.capacity) (sym here)
              (let w = r.whole b.begun more in let same = spare.capacity in omega arith))
          | inr ne ↦ subst (λ (z : Recorded). turns_in job k < z.capacity) (sym (elsewhere k ne)) (r.whole k known)
        ];
        unused = λ k le known. ap (λ (z : Recorded). z.charge) (elsewhere k (λ e. absurd (omega arith))) ∙ r.unused k (omega arith) known;
        steps = λ k known. elim (cases_eq k b.begun) [
          | inl e ↦ ap (λ n. length (get_or (set records b.begun x) n none_recorded).charge.source_steps) e
              ∙ (ap (λ (z : Recorded). length z.charge.source_steps) here ∙ (ap (λ (z : ChargeRecord). length z.source_steps) (begun_charge x counts) ∙ length-replicate {A = ℕ} (length job.program.sources) 0))
          | inr ne ↦ ap (λ (z : Recorded). length z.charge.source_steps) (elsewhere k ne) ∙ r.steps k known
        ];
      }
    where
      here : get_or (set records b.begun x) b.begun none_recorded ≡ x
      here = get_or-set_same records b.begun x none_recorded (let c = records_count job l b room ps records h in omega arith)

      elsewhere : (k : ℕ) → k ≢ b.begun → get_or (set records b.begun x) k none_recorded ≡ get_or records k none_recorded
      elsewhere k ne = get_or-set_other records b.begun k x none_recorded ne

  pub cut_core : (words : List ℕ) (x : Recorded) → words ≡ performed (fram.Add l.clock off) b.words → x.charge ≡ begun off (get_or records b.begun none_recorded).charge → KeepsRoom (get_or records b.begun none_recorded) x →
      IsCore job l (After words x) (turns_in job b.begun) (map rebooted ps) (set records b.begun x)
  cut_core words x made counts spare =
      let cuts = cut_goes (setup_of job) (length job.charges) b off h.is_setup h.holds more clock_room in
      let go = subst (λ z. Goes (setup_of job) (length job.charges) b z off) (sym (cut_is words x made counts)) cuts in
      record {
        is_setup = h.is_setup;
        layout_is = h.layout_is;
        rows = refl;
        machines = λ i lt. record { port = ports_kept ps i ∙ (h.machines i lt).port; right = (h.machines i lt).right };
        holds = go.holds;
        settling = subst (λ z. Settles (setup_of job) z) (sym (cut_is words x made counts)) (cut_settles (setup_of job) (length job.charges) b off h.holds cuts.holds h.settling more);
        range = range_after (After words x) refl (cut_is words x made counts) go;
        charges = refl;
        records_are = records_after x counts spare;
      }

  -- the same of fields that equal those
  abbrev Made : List ℕ → Kernel → List Pusher → Recorded → Board
  Made words k qs x = record { words = words; kernel = k; rows = map row_in qs; charges = map charge_in (set records b.begun x); begun = b.begun + 1 }

  made_is : (words : List ℕ) (k : Kernel) (qs : List Pusher) (x : Recorded) → k ≡ first_kernel → qs ≡ map rebooted ps → Made words k qs x ≡ After words x
  made_is words k qs x kernel lost = λ i. record { words = words; kernel = kernel i; rows = map row_in (lost i); charges = map charge_in (set records b.begun x); begun = b.begun + 1 }

  pub board_of : (words : List ℕ) (k : Kernel) (qs : List Pusher) (x : Recorded) → words ≡ performed (fram.Add l.clock off) b.words → k ≡ first_kernel → qs ≡ map rebooted ps →
      x.charge ≡ begun off (get_or records b.begun none_recorded).charge → Made words k qs x ≡ cut (setup_of job) b off
  board_of words k qs x made kernel lost counts = made_is words k qs x kernel lost ∙ cut_is words x made counts

  pub core_of : (words : List ℕ) (k : Kernel) (qs : List Pusher) (x : Recorded) (turns : ℕ) → words ≡ performed (fram.Add l.clock off) b.words → k ≡ first_kernel → qs ≡ map rebooted ps →
      x.charge ≡ begun off (get_or records b.begun none_recorded).charge → KeepsRoom (get_or records b.begun none_recorded) x → turns ≡ turns_in job b.begun →
      IsCore job l (Made words k qs x) turns qs (set records b.begun x)
  core_of words k qs x turns made kernel lost counts spare count =
      let all = cut_core words x made counts spare in
      subst (λ (z : Kernel × List Pusher × ℕ). IsCore job l (Made words z.0 z.1 x) z.2 z.1 (set records b.begun x)) (λ i. (sym kernel i, sym lost i, sym count i)) all
