-- The second run goes on as the whole does.
use Rattle.going_on.proofs.Common.{◌≡◌, ◌⊎◌, inl, inr, ℕ, zero, suc, ◌+◌, ◌<◌, List, [], ◌∷◌, ◌++◌, length, take, if◌then◌else◌, refl, sym, ap, ◌∙◌, subst, arith, take_all, append-nil, length-set, length-replicate, slice_index, Actor, Access, Charge, Board, Cut, Move, Setup, readings_of, access_at, is_left, point_of, port_of, Port, Stage, LoadSrc, LoadSlots, LoadAck, LoadTail, LoadSlot, Publish, MoveTail, HelpTail, StoreSkip, StoreAccepted, publication, KnowsAt, near, source_of, cut, finds, first_board, first_kernel, journal, made_by, moved_by, moves, row_of, sides, AreMoves, IsActor, ChargeRecord, begun, charge_of, journal_of, not_begun, entry_of_source, memory, state, EndsAsWhole, GoesAsWhole, IsAsWhole, IsWhole, Division, IsDivided, first_run, second_after, second_run, whole_run}
use Rattle.ink_base.specs.declared.actor.Actor.TheVariants as actors
use Rattle.source_laws.specs.Model.{places_for}
use Rattle.kernel_core.specs.declared.made.Made.{Made}
use Rattle.kernel_core.specs.Made.{nothing_made}
use Rattle.kernel_core.specs.Views.{seen}
use Rattle.kernel_core.proofs.Runs.{moves_taken}
use Rattle.std.specs.Prelude.{Some}
use Rattle.going_on.proofs.Parts.{widened, other, AllAgree, part_cut, part_moves, joined_journal}
use Rattle.going_on.proofs.Wholes.{s, at_split, behind, unbegun, whole_is, end_is, holds, back_moves, first_begun}
use Rattle.going_on.proofs.Starts.{above_floor, lengths_are, agree_from, split_charges, split_begun, start_words}

-- a row's access looks at its next reading alone, and at that only where it publishes it
same_access : (port : Port) (one two : List ℕ) (a k : ℕ) (stage : Stage) → ((p : ℕ) → stage ≡ Publish p → slice_index one k ≡ slice_index two k) →
    access_at port one a k stage ≡ access_at port two a k stage
same_access port one two a k LoadSrc same = refl
same_access port one two a k (LoadSlots n seen) same = refl
same_access port one two a k (LoadAck seen) same = refl
same_access port one two a k LoadTail same = refl
same_access port one two a k (LoadSlot p) same = refl
same_access port one two a k (Publish p) same = ap (λ v. publication port a p v) (same p refl)
same_access port one two a k (MoveTail p) same = refl
same_access port one two a k (HelpTail p) same = refl
same_access port one two a k StoreSkip same = refl
same_access port one two a k StoreAccepted same = refl

-- the first of the first ones are some of the first
take_twice : (k n : ℕ) (ms : List Move) → (j : ℕ) × (take k (take n ms) ≡ take j ms)
take_twice zero n ms = (0, refl)
take_twice (suc k) zero ms = (0, refl)
take_twice (suc k) (suc n) [] = (0, refl)
take_twice (suc k) (suc n) (m ∷ ms) = let more = take_twice k n ms in (suc more.0, ap (λ l. m ∷ l) more.1)

-- charges begin with a cut
moves_shape : (charges : List Charge) → (moves charges ≡ []) ⊎ ((off : ℕ) × (rest : List Move) × (moves charges ≡ Cut off ∷ rest))
moves_shape [] = inl refl
moves_shape (c ∷ charges) = inr (c.off, _, refl)

module _ (d : Division) (h : IsDivided d) where
  -- a source that publishes a reading publishes the next one
  publishes : (n i p : ℕ) → (row_of (behind d n) i).stage ≡ Publish p → (source_of (state (s d) (behind d n)) i).next ≡ (row_of (behind d n) i).next
  publishes n i p is =
      let part = (holds d h.split n).kept.sources i in
      let knows = subst (λ (stage : Stage). KnowsAt i (places_for (sides (s d)) i) (length (readings_of d.job.readings i))
      (near (sides (s d)) (seen (memory (s d) (behind d n)) (state (s d) (behind d n)) (row_of (behind d n))) i) (row_of (behind d n) i).accepted
      (row_of (behind d n) i).next stage) is part.knows in
      knows.0.next

  pub all_agree : (n : ℕ) → AllAgree (s d) d.readings (behind d n)
  all_agree n i lt = (
    lengths_are d h i lt,
    same_access (port_of (sides (s d)) i) (readings_of d.readings i) (readings_of d.job.readings i) (row_of (behind d n) i).accepted
        (row_of (behind d n) i).next (row_of (behind d n) i).stage
        (λ p is. sym (agree_from d h i (row_of (behind d n) i).next (let le = above_floor d h n i in omega (arith, publishes n i p is, le)))),
  )

  -- the second part's setup, and its board before its first charge
  abbrev pub t : Setup
  t = other (s d) d.readings d.start.model

  abbrev pub anew : Board
  anew = first_board t d.start.words (length d.back)

  abbrev pub old : List ChargeRecord
  old = (first_run d).charges

  -- a cut loses all but words and records
  cut_same : (off : ℕ) → cut (s d) (at_split d) off ≡ cut (s d) (widened old [] anew) off
  cut_same off =
      let words = start_words d h in
      let charges : (at_split d).charges ≡ old ++ (unbegun d d.back ++ []) = split_charges d h.split ∙ ap (λ l. old ++ l) (sym (append-nil (unbegun d d.back))) in
      λ k. cut (s d) (record { words = words k; kernel = first_kernel; rows = []; charges = charges k; begun = split_begun d h.split k }) off

  module _ (off : ℕ) (rest : List Move) (is : moves d.back ≡ Cut off ∷ rest) where
    back_are : AreMoves (s d) (length d.back) 0 (Cut off ∷ rest)
    back_are = subst (λ (ms : List Move). AreMoves (s d) (length d.back) 0 ms) is (back_moves d h.split)

    abbrev begins : Board
    begins = cut t anew off

    count_is : length begins.charges ≡ length d.back
    count_is = length-set anew.charges 0 (begun off (charge_of anew.charges 0)) ∙ length-replicate (length d.back) (not_begun (length (s d).program.sources))

    first_cut : cut (s d) (at_split d) off ≡ widened old [] begins
    first_cut = cut_same off ∙ part_cut old [] (s d) d.readings d.start.model anew off
        (let some = back_are.0 in omega (arith, length-replicate (length d.back) (not_begun (length (s d).program.sources))))

    agree_behind : (n k : ℕ) → AllAgree (s d) d.readings (moved_by (s d) (widened old [] begins) (take k (take n rest)))
    agree_behind n k =
        let twice = take_twice k n rest in
        subst (λ (b : Board). AllAgree (s d) d.readings (moved_by (s d) b (take k (take n rest)))) first_cut
        (subst (λ (ms : List Move). AllAgree (s d) d.readings (moved_by (s d) (cut (s d) (at_split d) off) ms)) (sym twice.1)
        (subst (λ (ms : List Move). AllAgree (s d) d.readings (moved_by (s d) (at_split d) (take (suc twice.0) ms))) is (all_agree (suc twice.0))))

    pub goes_on : (n : ℕ) → behind d (suc n) ≡ widened old [] (second_after d (suc n))
    goes_on n =
        subst (λ (ms : List Move). moved_by (s d) (at_split d) (take (suc n) ms) ≡ widened old [] (moved_by t anew (take (suc n) ms))) (sym is)
        (ap (λ (b : Board). moved_by (s d) b (take n rest)) first_cut
        ∙ part_moves old [] (s d) d.readings d.start.model begins (take n rest) (let some = back_are.0 in omega (arith, count_is))
        (subst (λ c. AreMoves (s d) c 1 (take n rest)) (sym count_is) (moves_taken (s d) (length d.back) 1 n rest back_are.1))
        (agree_behind n))

  -- after each cut and turn: nothing has begun yet, or the whole's board is the second's behind the first's charges
  abbrev pub Goes : ℕ → Type 0
  Goes n = ((behind d n ≡ at_split d) × (second_after d n ≡ anew)) ⊎ (behind d n ≡ widened old [] (second_after d n))

  pub goes : (n : ℕ) → Goes n
  goes zero = inl (refl, refl)
  goes (suc n) = elim (moves_shape d.back) [
    | inl none ↦ inl (
      ap (λ (ms : List Move). moved_by (s d) (at_split d) (take (suc n) ms)) none,
      ap (λ (ms : List Move). moved_by t anew (take (suc n) ms)) none,
    )
    | inr some ↦ inr (goes_on some.0 some.1 some.2 n)
  ]

  same_words : (n : ℕ) → (second_after d n).words ≡ (behind d n).words
  same_words n = elim (goes n) [
    | inl none ↦ ap (λ (b : Board). b.words) none.1 ∙ (sym (start_words d h) ∙ sym (ap (λ (b : Board). b.words) none.0))
    | inr is ↦ sym (ap (λ (b : Board). b.words) is)
  ]

  same_charges : (n : ℕ) → (behind d n).charges ≡ old ++ (second_after d n).charges
  same_charges n = elim (goes n) [
    | inl none ↦ ap (λ (b : Board). b.charges) none.0 ∙ (split_charges d h.split ∙ sym (ap (λ (b : Board). old ++ b.charges) none.1))
    | inr is ↦ ap (λ (b : Board). b.charges) is ∙ ap (λ l. old ++ l) (append-nil (second_after d n).charges)
  ]

  same_begun : (n : ℕ) → (behind d n).begun ≡ length old + (second_after d n).begun
  same_begun n = elim (goes n) [
    | inl none ↦ ap (λ (b : Board). b.begun) none.0 ∙ (split_begun d h.split ∙ sym (ap (λ (b : Board). length old + b.begun) none.1))
    | inr is ↦ ap (λ (b : Board). b.begun) is
  ]

  pub same_journal : (n : ℕ) → journal (behind d n) ≡ journal (first_run d) ++ journal (second_after d n)
  same_journal n =
      (λ k. journal_of (same_charges n k) (same_begun n k))
      ∙ (joined_journal old (second_after d n).charges (second_after d n).begun
      ∙ ap (λ m. journal_of old m ++ journal (second_after d n)) (sym (first_begun d h.split)))

  -- what a source makes by this access, with so many readings
  abbrev access_makes : Board → ℕ → (number : ℕ) → Access → Made
  access_makes b i number a =
      if is_left number (row_of b i)
      then record {
        access = Some a;
        word = finds b a;
        entry = entry_of_source i (point_of (port_of (sides (s d)) i).queue.places (row_of b i).stage (finds b a));
      }
      else nothing_made

  made_same : (b : Board) (actor : Actor) → IsActor (s d) actor → AllAgree (s d) d.readings (widened old [] b) →
      made_by t b actor ≡ made_by (s d) (widened old [] b) actor
  made_same b actors.Kernel is agree = refl
  made_same b (actors.Source i) is agree = let same = agree i.0 is in λ k. access_makes b i.0 (same.0 k) (same.1 k)
  made_same b actors.Clock is agree = refl

  same_made : (n : ℕ) (actor : Actor) → IsActor (s d) actor → 0 < (second_after d n).begun → made_by t (second_after d n) actor ≡ made_by (s d) (behind d n) actor
  same_made n actor is some = elim (goes n) [
    | inl none ↦ absurd (let zero = ap (λ (b : Board). b.begun) none.1 in omega arith)
    | inr same ↦ made_same (second_after d n) actor is (subst (λ (b : Board). AllAgree (s d) d.readings b) same (all_agree n))
        ∙ ap (λ (b : Board). made_by (s d) b actor) (sym same)
  ]

  as_whole : (n : ℕ) → IsAsWhole d n
  as_whole n = record {
    words = same_words n ∙ ap (λ (b : Board). b.words) (sym (whole_is d h.split n));
    journal_is = ap journal (whole_is d h.split n) ∙ same_journal n;
    made = λ actor is some. same_made n actor is some ∙ ap (λ (b : Board). made_by (s d) b actor) (sym (whole_is d h.split n));
  }

  -- the end is what all cuts and turns lead to
  second_end : second_after d (length (moves d.back)) ≡ second_run d
  second_end = ap (λ (ms : List Move). moved_by t anew ms) (take_all (length (moves d.back)) (moves d.back) (omega arith))

  whole_end : behind d (length (moves d.back)) ≡ whole_run d
  whole_end = ap (λ (ms : List Move). moved_by (s d) (at_split d) ms) (take_all (length (moves d.back)) (moves d.back) (omega arith)) ∙ sym (end_is d h.split)

  is_whole : IsWhole (first_run d) (second_run d) (whole_run d)
  is_whole =
      let n : ℕ = length (moves d.back) in
      subst (λ (z : Board × Board). IsWhole (first_run d) z.0 z.1) (λ k. (second_end k, whole_end k))
      (record { words = same_words (length (moves d.back)); records = same_charges (length (moves d.back)); journal_is = same_journal (length (moves d.back)) })

pub ends_as_whole : EndsAsWhole
ends_as_whole d h = is_whole d h

pub goes_as_whole : GoesAsWhole
goes_as_whole d h n = as_whole d h n
