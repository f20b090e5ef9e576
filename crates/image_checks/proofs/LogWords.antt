-- Logs: what the two parts of their check make of each other.
use Rattle.std.proofs.Common.{◌≡◌, ℕ, zero, suc, ◌+◌, ◌-◌, ◌<◌, ◌≤◌, inl, inr, ap, refl, subst, arith, below_more}
use Rattle.std.proofs.lemmas.Bool.{cases_lt}
use Rattle.task_isa.specs.declared.program.Program.{Program}
use Rattle.fram_words.specs.Places.{Memory}
use Rattle.fram_words.specs.Header as header
use Rattle.thread_state.specs.Pages.{committed}
use Rattle.never_cut.specs.Image.{IsLogWord, stamp_at}
use Rattle.image_checks.specs.Failing.{BlocksHold, HoldsBelow}
use Rattle.image_checks.specs.kept.Logs.{AreLower, AreRising, IsApart, IsApartFromFirst, IsEnd, IsInOrder, IsLeast, IsPast, OutputsFit}

-- where the blocks are right, outputs fit their logs
pub outputs_fit : (program : Program) (words : Memory) → BlocksHold program words → OutputsFit program words
outputs_fit program words blocks t lt = (blocks t lt header.outputs (omega arith)).outputs refl

module _ (words : Memory) where
  -- a stamp that is neither less than the least one nor more than the thread's own is in order
  pub in_order : (t n least : ℕ) → IsLeast words t n least → least ≤ stamp_at words t n → stamp_at words t n ≤ committed words t header.stamp → IsInOrder words t n
  in_order t n least is low high = record { least = omega (arith, is.first); most = high; ordered = λ k e. omega (arith, is.before k e) }

  -- one that is less isn't
  pub too_low : (t n least : ℕ) → IsLeast words t n least → stamp_at words t n < least → ¬ IsInOrder words t n
  too_low t zero least is low order = omega (arith, is.only refl, order.least)
  too_low t (suc n) least is low order = omega (arith, is.before n (omega arith), order.ordered n (omega arith))

  -- the stamp of an output in order is the least one of the next output
  pub next_least : (t n : ℕ) → IsInOrder words t n → IsLeast words t (n + 1) (stamp_at words t n)
  next_least t n order = record {
    first = order.least;
    only = λ e. absurd (omega arith);
    before = λ k e. ap (stamp_at words t) (omega arith);
  }

  -- outputs in order rise
  pub rising : (t count : ℕ) → HoldsBelow (IsInOrder words t) count → AreRising words t count
  rising t count order k lt = (order (k + 1) lt).ordered k refl

  -- so that a later one hasn't a lower stamp
  rising_far : (t count i d : ℕ) → AreRising words t count → i + d < count → stamp_at words t i ≤ stamp_at words t (i + d)
  rising_far t count i zero rises lt = omega (arith, ap (stamp_at words t) (let same : i ≡ i + 0 = omega arith in same))
  rising_far t count i (suc d) rises lt =
      let far : stamp_at words t i ≤ stamp_at words t (i + d) = rising_far t count i d rises (omega arith) in
      let step : stamp_at words t (i + d) ≤ stamp_at words t (i + d + 1) = rises (i + d) (omega arith) in
      omega (arith, ap (stamp_at words t) (let same : i + d + 1 ≡ i + suc d = omega arith in same))

  pub rising_to : (t count i j : ℕ) → AreRising words t count → i ≤ j → j < count → stamp_at words t i ≤ stamp_at words t j
  rising_to t count i j rises le lt =
      let far : stamp_at words t i ≤ stamp_at words t (i + (j - i)) = rising_far t count i (j - i) rises (omega arith) in
      omega (arith, ap (stamp_at words t) (let same : i + (j - i) ≡ j = omega arith in same))

  -- what the search for an output's stamp has passed is lower
  pub past_all : (u t n end from count sought next : ℕ) → sought ≡ stamp_at words t n → n < end → AreLower words u from t n end →
      IsPast words u from count sought next → (k : ℕ) → k < next → stamp_at words u k < stamp_at words t n
  past_all u t n end from count sought next is lt lower past k before =
      elim (cases_lt k from) [
        | inl known ↦ lower k n known (omega arith) lt
        | inr new ↦ omega (arith, past.lower k new before)
      ]

  -- the output's stamp lies between two that stand next to each other in the other log
  pub apart_between : (u t n from : ℕ) → AreRising words u (committed words u header.outputs) →
      ((k : ℕ) → k < from → stamp_at words u k < stamp_at words t n) →
      (from < committed words u header.outputs → stamp_at words t n < stamp_at words u from) → IsApart words u t n
  apart_between u t n from rises lower higher k lt e =
      elim (cases_lt k from) [
        | inl before ↦ omega (arith, lower k before)
        | inr behind ↦ omega (arith, rising_to u (committed words u header.outputs) from k rises behind lt, higher (omega arith))
      ]

  -- what is lower than an output's stamp is lower than those of the outputs behind it
  pub lower_behind : (u t n from end : ℕ) → AreRising words t end → n < end → ((k : ℕ) → k < from → stamp_at words u k < stamp_at words t n) →
      AreLower words u from t (n + 1) end
  lower_behind u t n from end rises lt lower k m before least within =
      omega (arith, lower k before, rising_to t end n m rises (omega arith) within)

  -- the next earlier log may shorten what is apart from those before it
  pub end_more : (u t end until next : ℕ) → IsEnd (IsApartFromFirst words u t) end until → IsEnd (IsApart words u t) until next →
      IsEnd (IsApartFromFirst words (u + 1) t) end next
  end_more u t end until next all one = record {
    within = omega (arith, all.within, one.within);
    before = λ n lt. below_more (λ v. IsApart words v t n) u (all.before n (omega (arith, one.within))) (one.before n lt);
    fails = λ lt apart. elim (cases_lt next until) [
      | inl shorter ↦ one.fails shorter (apart u (omega arith))
      | inr same ↦ all.fails (omega (arith, one.within)) (λ v less. subst (IsApart words v t) (omega (arith, one.within)) (apart v (omega arith)))
    ];
  }

module _ (program : Program) (words : Memory) (t count ordered end : ℕ) (rises : IsEnd (IsInOrder words t) count ordered)
    (apart : IsEnd (IsApartFromFirst words t t) ordered end) where
  -- the outputs before the end are right
  pub right_before : HoldsBelow (IsLogWord program words t) end
  right_before n lt =
      let order : IsInOrder words t n = rises.before n (omega (arith, apart.within)) in
      record { least = order.least; most = order.most; ordered = order.ordered; own = λ u k less within. apart.before n lt u less k within }

  -- and the one at the end isn't, where there is one
  pub wrong_at : end < count → ¬ IsLogWord program words t end
  wrong_at lt is =
      elim (cases_lt end ordered) [
        | inl shorter ↦ apart.fails shorter (λ u less k within. is.own u k less within)
        | inr same ↦ rises.fails (omega (arith, apart.within)) (subst (IsInOrder words t) (omega (arith, apart.within)) (record { least = is.least; most = is.most; ordered = is.ordered }))
      ]
