-- The lists of the two sources can be put together in the room of their job.
use Rattle.std.proofs.Common.{◌≡◌, ◌≢◌, ◌⊎◌, inl, inr, ℕ, zero, suc, ◌+◌, ◌<◌, ◌≤◌, ◌==◌, Bool, cond, true, false, List, [], ◌∷◌, length, refl, sym, ap, ◌∙◌, subst, arith}
use mathlib.Core.Option.{some, some-ne-none, some-injective}
use lib.ListN.{get_elem?}
use Rattle.prog_check.specs.Lookup.{source_thread}
use Rattle.never_cut.specs.Entries.{readings_of}
use Rattle.job_parts.specs.Job.{JobParts}
use Rattle.irq_source.specs.declared.lists.Published.{Published}
use Rattle.queue_lists.specs.Gathers.{HavePlaces, HaveRoom}
use Rattle.queue_lists.specs.Lists.{Lists, accepted_into, all_into, sum_below}
use Rattle.queue_lists.specs.Puts.{HavePositions}
use Rattle.queue_lists.specs.Rooms.{IsRoomOf, Rooms, readings_for, readings_into, refusals_from, refusals_room}
use Rattle.queue_lists.proofs.Ends.{is_into}
use Rattle.list_rows.specs.Rows.{first_lists, second_lists, IsOfTwo}

abbrev lists : List Lists
lists = first_lists ∷ second_lists ∷ []

-- where the first source's events stand
of_first : (n : ℕ) (p : Published) → get_elem? first_lists.accepted n ≡ some p → ((n ≡ 0) × (p.position ≡ 0)) ⊎ ((n ≡ 1) × (p.position ≡ 2))
of_first zero p at = inl (refl, ap (λ (x : Published). x.position) (sym (some-injective _ p at)))
of_first (suc zero) p at = inr (refl, ap (λ (x : Published). x.position) (sym (some-injective _ p at)))
of_first (suc (suc n)) p at = absurd (some-ne-none p (sym at))

-- and the second's
of_second : (n : ℕ) (p : Published) → get_elem? second_lists.accepted n ≡ some p → (n ≡ 0) × (p.position ≡ 1)
of_second zero p at = (refl, ap (λ (x : Published). x.position) (sym (some-injective _ p at)))
of_second (suc n) p at = absurd (some-ne-none p (sym at))

none_placed : (places : ℕ) → HavePositions [] places
none_placed places = record { below = λ n p at. absurd (some-ne-none p (sym at)); rise = λ j n p q lt at_p at_q. absurd (some-ne-none p (sym at_p)) }

-- if it is thread 0 they have three places
first_placed : (b : Bool) → HavePositions (cond {A = List Published} b first_lists.accepted []) (0 + length (cond {A = List Published} b first_lists.accepted []) + length (cond {A = List Published} b second_lists.accepted []))
first_placed false = none_placed _
first_placed true = record {
  below = λ n p at. elim (of_first n p at) [ inl x ↦ omega (arith, x.1) | inr x ↦ omega (arith, x.1) ];
  rise = λ j n p q lt at_p at_q. elim (of_first j p at_p) [
    | inl x ↦ elim (of_first n q at_q) [ inl y ↦ absurd (omega (arith, lt, x.0, y.0)) | inr y ↦ omega (arith, x.1, y.1) ]
    | inr x ↦ elim (of_first n q at_q) [ inl y ↦ absurd (omega (arith, lt, x.0, y.0)) | inr y ↦ absurd (omega (arith, lt, x.0, y.0)) ]
  ];
}

second_placed : (b : Bool) → HavePositions (cond {A = List Published} b second_lists.accepted []) (0 + length (cond {A = List Published} b first_lists.accepted []) + length (cond {A = List Published} b second_lists.accepted []))
second_placed false = none_placed _
second_placed true = record {
  below = λ n p at. (let x = of_second n p at in omega (arith, x.1));
  rise = λ j n p q lt at_p at_q. (let x = of_second j p at_p in let y = of_second n q at_q in absurd (omega (arith, lt, x.0, y.0)));
}

-- a list that is taken or not is no longer than another
no_longer : {A B : Type 0} (b : Bool) (xs : List A) (ys : List B) → length xs ≤ length ys → length (cond {A = List A} b xs []) ≤ length (cond {A = List B} b ys [])
no_longer true xs ys le = le
no_longer false xs ys le = omega arith

module _ {job : JobParts} (two : IsOfTwo job) where
  positions : (t i : ℕ) → HavePositions (accepted_into job.program lists t i) (all_into job.program lists t)
  positions t zero =
      subst (λ (z : ℕ × ℕ). HavePositions (cond {A = List Published} (z.0 == t) first_lists.accepted []) (0 + length (cond {A = List Published} (z.0 == t) first_lists.accepted []) + length (cond {A = List Published} (z.1 == t) second_lists.accepted [])))
      (λ j. (sym two.first j, sym two.second j)) (first_placed (0 == t))
  positions t (suc zero) =
      subst (λ (z : ℕ × ℕ). HavePositions (cond {A = List Published} (z.1 == t) second_lists.accepted []) (0 + length (cond {A = List Published} (z.0 == t) first_lists.accepted []) + length (cond {A = List Published} (z.1 == t) second_lists.accepted [])))
      (λ j. (sym two.first j, sym two.second j)) (second_placed (0 == t))
  positions t (suc (suc i)) = record {
    below = λ n p at. absurd (past (is_into job.program lists t (suc (suc i)) n p at).2);
    rise = λ j n p q lt at_p at_q. absurd (past (is_into job.program lists t (suc (suc i)) j p at_p).2);
  }
    where
      past : suc (suc i) < length lists → ⊥
      past lt = omega arith

  -- where an event of either stands
  stands : (t i n : ℕ) (p : Published) → get_elem? (accepted_into job.program lists t i) n ≡ some p → ((i ≡ 0) × ((p.position ≡ 0) ⊎ (p.position ≡ 2))) ⊎ ((i ≡ 1) × (p.position ≡ 1))
  stands t zero n p at = elim (of_first n p (is_into job.program lists t 0 n p at).1) [ inl x ↦ inl (refl, inl x.1) | inr x ↦ inl (refl, inr x.1) ]
  stands t (suc zero) n p at = inr (refl, (of_second n p (is_into job.program lists t 1 n p at).1).1)
  stands t (suc (suc i)) n p at = let lt = (is_into job.program lists t (suc (suc i)) n p at).2 in absurd (omega (arith, lt))

  apart : (t i j m n : ℕ) (p q : Published) → i ≢ j → get_elem? (accepted_into job.program lists t i) m ≡ some p → get_elem? (accepted_into job.program lists t j) n ≡ some q → p.position ≢ q.position
  apart t i j m n p q other at_p at_q same = elim (stands t i m p at_p) [
    | inl x ↦ elim (stands t j n q at_q) [
      | inl y ↦ other (x.0 ∙ sym y.0)
      | inr y ↦ elim x.1 [ inl z ↦ omega (arith, same, z, y.1) | inr z ↦ omega (arith, same, z, y.1) ]
    ]
    | inr x ↦ elim (stands t j n q at_q) [
      | inl y ↦ elim y.1 [ inl z ↦ omega (arith, same, z, x.1) | inr z ↦ omega (arith, same, z, x.1) ]
      | inr y ↦ other (x.0 ∙ sym y.0)
    ]
  ]

  pub have_places : HavePlaces job.program lists
  have_places = record { sources = sym two.sources; positions = positions; apart = apart }

  events_few : (t : ℕ) → all_into job.program lists t ≤ readings_into job t
  events_few t =
      let first = no_longer (source_thread job.program 0 == t) first_lists.accepted (readings_of job.readings 0) (omega (arith, two.three)) in
      let second = no_longer (source_thread job.program 1 == t) second_lists.accepted (readings_of job.readings 1) (omega (arith, two.one)) in
      let all : readings_into job t ≡ 0 + length (readings_for job t 0) + length (readings_for job t 1) = ap (λ (n : ℕ). sum_below (λ i. length (readings_for job t i)) n) two.sources in
      omega (arith, first, second, all)

  refusals_few : 1 ≤ refusals_room job
  refusals_few =
      let all : refusals_room job ≡ 0 + refusals_from job 0 + refusals_from job 1 = ap (sum_below (refusals_from job)) two.sources in
      omega (arith, all, two.three)

  pub have_room : (rooms : Rooms) → IsRoomOf job rooms → HaveRoom job.program lists rooms
  have_room rooms room = record {
    queues = room.queues;
    events = λ t there. (let space = room.events t there in let few = events_few t in record { events = omega (arith, few, space.events); charges = omega (arith, few, space.charges) });
    refused = omega (arith, refusals_few, room.refused);
  }
