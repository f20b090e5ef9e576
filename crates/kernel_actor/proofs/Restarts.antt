-- The sources of a board begin again, so that one has just one reading left and the others none: the state stays sound.
use Rattle.std.proofs.Common.{◌≡◌, ◌≢◌, ◌⊎◌, inl, inr, ℕ, zero, suc, ◌+◌, ◌-◌, ◌^◌, ◌<◌, ◌≤◌, ◌==◌, Bool, true, false, List, [], ◌∷◌, ◌++◌, length, length-append, length-set, replicate, get_or, get_or-set_same, get_or-set_other, set, refl, sym, ap, ◌∙◌, subst, arith, ne_eqb, slice_index}
use Rattle.std.specs.Prelude.{if◌then◌else◌}
use Rattle.std.proofs.lemmas.Bool.{cases_eq}
use Rattle.std.proofs.lemmas.List.{length-replicate}
use Rattle.task_isa.specs.declared.program.Program.{Program}
use Rattle.prog_check.specs.Lookup.{source_thread}
use Rattle.push_core.specs.Queue.{Source, published, unsettled_into}
use Rattle.push_core.specs.Table.{greatest_tail}
use Rattle.never_cut.specs.declared.model.Model.{Model}
use Rattle.never_cut.specs.declared.source_model.SourceModel.{SourceModel}
use Rattle.never_cut.specs.State.{thread_of, source_of, no_source, queue_of}
use Rattle.never_cut.specs.Entries.{Readings, readings_of}
use Rattle.never_cut.specs.Sound.{IsSound, IsSoundThread, IsSoundSource, sources_in}
use Rattle.never_cut.specs.Sound as sounds
use Rattle.never_cut.specs.Within.{AreShort}

-- the readings of a source of which all but the last are settled
abbrev pub last_reading : (count value : ℕ) → List ℕ
last_reading count value = replicate count 0 ++ value ∷ []

-- of so many sources, one has them, and the others none
abbrev pub one_reading : (sources i count value : ℕ) → Readings
one_reading n i count value = set (replicate n []) i (last_reading count value)

-- that source has accepted and settled so many, and the others none
abbrev pub source_at : ℕ → SourceModel
source_at count = record { next = count; accepted = count; refused = false }

-- the sources as they are then
abbrev pub restarted_sources : (sources i count : ℕ) → List SourceModel
restarted_sources n i count = set (replicate n no_source) i (source_at count)

-- the state with its sources begun again
abbrev pub restarted : Model → (i count : ℕ) → Model
restarted m i count = record m { sources = restarted_sources (length m.sources) i count }

pub last_at : (count value : ℕ) → slice_index (last_reading count value) count ≡ value
last_at zero value = refl
last_at (suc count) value = last_at count value

last_below : (count value k : ℕ) → value < 2 ^ 32 → slice_index (last_reading count value) k < 2 ^ 32
last_below zero value zero lt = lt
last_below zero value (suc k) lt = omega arith
last_below (suc count) value zero lt = omega arith
last_below (suc count) value (suc k) lt = last_below count value k lt

pub last_length : (count value : ℕ) → length (last_reading count value) ≡ count + 1
last_length count value = omega (arith, length-append (replicate count 0) (value ∷ []), length-replicate {A = ℕ} count 0)

-- a list of one value has no other
all_same : {A : Type 0} (n j : ℕ) (x : A) → get_or (replicate n x) j x ≡ x
all_same zero j x = refl
all_same (suc n) zero x = refl
all_same (suc n) (suc j) x = all_same n j x

module _ (n i count value : ℕ) (known : i < n) where
  pub readings_here : readings_of (one_reading n i count value) i ≡ last_reading count value
  readings_here = get_or-set_same (replicate n []) i (last_reading count value) [] (omega (arith, length-replicate {A = List ℕ} n []))

  pub readings_else : (j : ℕ) → j ≢ i → readings_of (one_reading n i count value) j ≡ []
  readings_else j other = get_or-set_other (replicate n []) i j (last_reading count value) [] other ∙ all_same n j []

  pub one_short : count < 64 → value < 2 ^ 32 → AreShort (one_reading n i count value)
  one_short small lt = record {
    few = λ j. elim (cases_eq j i) [
      | inl is ↦ omega (arith, ap (λ k. length (readings_of (one_reading n i count value) k)) is, ap length readings_here, last_length count value)
      | inr other ↦ omega (arith, ap length (readings_else j other))
    ];
    values = λ j k. elim (cases_eq j i) [
      | inl is ↦
          let same = ap (λ u. slice_index (readings_of (one_reading n i count value) u) k) is ∙ ap (λ l. slice_index l k) readings_here in
          let below = last_below count value k lt in omega arith
      | inr other ↦ let same = ap (λ l. slice_index l k) (readings_else j other) in omega arith
    ];
  }

  source_here : get_or (restarted_sources n i count) i no_source ≡ source_at count
  source_here = get_or-set_same (replicate n no_source) i (source_at count) no_source (omega (arith, length-replicate {A = SourceModel} n no_source))

  source_else : (j : ℕ) → j ≢ i → get_or (restarted_sources n i count) j no_source ≡ no_source
  source_else j other = get_or-set_other (replicate n no_source) i j (source_at count) no_source other ∙ all_same n j no_source

-- none of the first so many sources has a reading left for the queue
none_left : (queue_of : ℕ → ℕ) (readings : ℕ → List ℕ) (source : ℕ → Source) (t n : ℕ) → ((j : ℕ) → j < n → (queue_of j ≢ t) ⊎ (length (readings j) ≤ (source j).next)) → unsettled_into queue_of readings source t n ≡ 0
none_left queue_of readings source t zero h = refl
none_left queue_of readings source t (suc n) h =
    let here : (if queue_of n == t then length (readings n) - (source n).next else 0) ≡ 0 =
    elim (h n (omega arith)) [
      | inl other ↦ ap (λ (b : Bool). if b then length (readings n) - (source n).next else 0) (ne_eqb (queue_of n) t other)
      | inr none ↦ by_test (queue_of n == t) none
    ] in
    let before = none_left queue_of readings source t n (λ j lt. h j (omega arith)) in
    omega arith
  where
    by_test : (b : Bool) → length (readings n) ≤ (source n).next → (if b then length (readings n) - (source n).next else 0) ≡ 0
    by_test true le = omega arith
    by_test false le = refl

-- where one has one, at most one is left
one_left : (queue_of : ℕ → ℕ) (readings : ℕ → List ℕ) (source : ℕ → Source) (t n i : ℕ) → ((j : ℕ) → j ≢ i → length (readings j) ≤ (source j).next) → length (readings i) ≤ (source i).next + 1 →
    unsettled_into queue_of readings source t n ≤ 1
one_left queue_of readings source t zero i none one = omega arith
one_left queue_of readings source t (suc n) i none one =
    elim (cases_eq n i) [
      | inl is ↦
          let before = none_left queue_of readings source t n (λ j lt. inr (none j (λ same. absurd (omega (arith, same, is))))) in
          let here : (if queue_of n == t then length (readings n) - (source n).next else 0) ≤ 1 = by_one (queue_of n == t) (subst (λ k. length (readings k) ≤ (source k).next + 1) (sym is) one) in
          omega arith
      | inr other ↦
          let before = one_left queue_of readings source t n i none one in
          let here : (if queue_of n == t then length (readings n) - (source n).next else 0) ≡ 0 = by_none (queue_of n == t) (none n other) in
          omega arith
    ]
  where
    by_one : (b : Bool) → length (readings n) ≤ (source n).next + 1 → (if b then length (readings n) - (source n).next else 0) ≤ 1
    by_one true le = omega arith
    by_one false le = omega arith

    by_none : (b : Bool) → length (readings n) ≤ (source n).next → (if b then length (readings n) - (source n).next else 0) ≡ 0
    by_none true le = omega arith
    by_none false le = refl

module _ (program : Program) (m : Model) (i count value : ℕ) (known : i < length program.sources) (same : length m.sources ≡ length program.sources) where
  abbrev n : ℕ
  n = length m.sources

  abbrev readings : Readings
  readings = one_reading n i count value

  abbrev state : Model
  state = restarted m i count

  there : i < length m.sources
  there = omega arith

  here_length : length (readings_of (one_reading (length m.sources) i count value) i) ≡ count + 1
  here_length = ap length (readings_here (length m.sources) i count value there) ∙ last_length count value

  here_next : (source_of (restarted m i count) i).next ≡ count
  here_next = ap (λ (s : SourceModel). s.next) (source_here (length m.sources) i count value there)

  pub next_here : source_of (restarted m i count) i ≡ source_at count
  next_here = source_here (length m.sources) i count value there

  else_none : (j : ℕ) → j ≢ i → length (readings_of (one_reading (length m.sources) i count value) j) ≤ (source_of (restarted m i count) j).next
  else_none j other = omega (arith, ap length (readings_else (length m.sources) i count value there j other))

  left_most : (t : ℕ) → sounds.unsettled_into program (one_reading (length m.sources) i count value) (restarted m i count) t (length program.sources) ≤ 1
  left_most t = one_left (source_thread program) (readings_of (one_reading (length m.sources) i count value)) (sources_in (restarted m i count)) t (length program.sources) i else_none (omega (arith, here_length, here_next))

  left_else : (t : ℕ) → source_thread program i ≢ t → sounds.unsettled_into program (one_reading (length m.sources) i count value) (restarted m i count) t (length program.sources) ≡ 0
  left_else t other =
      none_left (source_thread program) (readings_of (one_reading (length m.sources) i count value)) (sources_in (restarted m i count)) t (length program.sources)
      (λ j lt. elim (cases_eq j i) [ inl is ↦ inl (λ of. other (ap (source_thread program) (sym is) ∙ of)) | inr apart ↦ inr (else_none j apart) ])

  source_sound : (j : ℕ) → j < length program.sources → IsSoundSource (one_reading (length m.sources) i count value) (restarted m i count) j
  source_sound j lt =
      elim (cases_eq j i) [
        | inl is ↦
            subst (IsSoundSource (one_reading (length m.sources) i count value) (restarted m i count)) (sym is)
            (record {
              ordered = subst (λ (s : SourceModel). s.accepted ≤ s.next) (sym next_here) (omega arith);
              within = omega (arith, here_length, here_next);
              refused = λ yes. absurd (let clash : false ≡ true = sym (ap (λ (s : SourceModel). s.refused) next_here) ∙ yes in cc);
            })
        | inr other ↦
            let none = source_else (length m.sources) i count value there j other in
            record {
              ordered = subst (λ (s : SourceModel). s.accepted ≤ s.next) (sym none) (omega arith);
              within = subst (λ (s : SourceModel). s.next ≤ length (readings_of (one_reading (length m.sources) i count value) j)) (sym none) (omega arith);
              refused = λ yes. absurd (let clash : false ≡ true = sym (ap (λ (s : SourceModel). s.refused) none) ∙ yes in cc);
            }
      ]

  -- the state stays sound, where the source's queue has a position left
  pub restarted_sound : (old : Readings) → IsSound program old m → published (queue_of (thread_of m (source_thread program i))) < greatest_tail →
      IsSound program (one_reading (length m.sources) i count value) (restarted m i count)
  restarted_sound old h room = record {
    shape = record {
      threads = h.shape.threads;
      pipes = h.shape.pipes;
      timers = h.shape.timers;
      sources = length-set (replicate (length m.sources) no_source) i (source_at count) ∙ length-replicate (length m.sources) no_source ∙ h.shape.sources;
      states = h.shape.states;
    };
    threads = λ t lt.
        let x = h.threads t lt in
        record {
          positions = elim (cases_eq (source_thread program i) t) [
            | inl of ↦ let most = left_most t in omega (arith, ap (λ (u : ℕ). published (queue_of (thread_of m u))) of)
            | inr other ↦ let none = left_else t other in let fits = x.positions in omega arith
          ];
          queued = x.queued;
          finished = x.finished;
          idle = x.idle;
          chain = λ task is. let c = x.chain task is in record { known = c.known; own = c.own; event = c.event; is = c.is; served = c.served; unfinished = c.unfinished };
          outputs = x.outputs;
          first = x.first;
          values = x.values;
        };
    pipes = λ q lt. let p = h.pipes q lt in record { room = p.room; values = p.values };
    timers = λ j lt. let x = h.timers j lt in record { due = x.due; period = x.period };
    sources = source_sound;
    clock = h.clock;
    scan = h.scan;
    begun = h.begun;
    calm = h.calm;
    one = h.one;
    stamps = h.stamps;
    values = h.values;
  }
