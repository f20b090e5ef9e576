-- Words whose parts have room aren't worn, and a fresh source has few readings.
use Rattle.old_image.proofs.Common.{◌≡◌, ◌≢◌, ◌↔◌, IsTrue, inl, inr, ℕ, suc, ◌+◌, ◌^◌, ◌<◌, ◌≤◌, Bool, true, false, List, length, refl, sym, subst, arith, leb-true, nat_le, nat_lt, cases_Bool, cases_eq, cases_lt, slice_index, Memory, Clock, Program, committed, greatest_tail, taken_of, written_of, listed_into, old_published, IsOldWorn, IsFresh, old_next}
use Rattle.std.proofs.lemmas.Bool.{leb-false}
use Rattle.std.specs.Bool.{MatchBool}
use Rattle.ink_base.specs.declared.limits.TheConstants as limits
use Rattle.fram_words.specs.Header as header
use Rattle.old_image.specs.Worn as worn
use Rattle.old_image.specs.kept.Unworn.{IsUnwornSource, IsUnwornThread, IsUnwornPipe}

-- a test of whether a number is as great as another one tells which of two facts holds
pub by_size : (n m : ℕ) {A B : Type 0} → (n ≤ m → A) → (m < n → B) → MatchBool (nat_le n m) A B
by_size n m {A} {B} great small =
    elim (cases_Bool (nat_le n m)) [
      | inl is ↦ subst (λ b. MatchBool b A B) (sym is) (great (leb-true n m is))
      | inr isnt ↦ subst (λ b. MatchBool b A B) (sym isnt) (small (leb-false n m isnt))
    ]

-- what holds is so
pub surely : {P : Type 0} → P → (IsTrue true ↔ P)
surely p = (λ yes. p, λ holds. refl)

-- a pipe whose written count is below half its range, by the test of the other one
pub pipe_worn : (program : Program) (words : Memory) (q written taken : ℕ) → q < length program.pipes → written ≡ written_of program words q → taken ≡ taken_of program words q →
    written < 2 ^ 31 → MatchBool (nat_le (2 ^ 31) taken) ((listed : List ℕ) → IsOldWorn program listed words) (IsUnwornPipe program words q)
pipe_worn program words q written taken known is_written is_taken few =
    by_size (2 ^ 31) taken (λ many listed. worn.ManyTaken q known (omega arith)) (λ small. record { written = omega arith; taken = omega arith })

-- and one whose written count isn't
pub pipe_over : (program : Program) (words : Memory) (q written : ℕ) → q < length program.pipes → written ≡ written_of program words q → 2 ^ 31 ≤ written →
    MatchBool (nat_le (2 ^ 31) written) ((listed : List ℕ) → IsOldWorn program listed words) (IsUnwornPipe program words q)
pipe_over program words q written known is_written many =
    by_size (2 ^ 31) written (λ le listed. worn.ManyWritten q known (omega arith)) (λ small. absurd (omega arith))

module _ (program : Program) (listed : List ℕ) (words : Memory) where
  -- the three counts of services
  services : (t : ℕ) → IsUnwornThread program listed words t → (w : ℕ) → header.served ≤ w → w ≤ header.expired → committed words t w < 2 ^ 31
  services t h w from to =
      elim (cases_eq w header.served) [
        | inl first ↦ subst (λ n. committed words t n < 2 ^ 31) (sym first) h.served
        | inr other ↦ elim (cases_eq w header.trapped) [
          | inl second ↦ subst (λ n. committed words t n < 2 ^ 31) (sym second) h.trapped
          | inr neither ↦ subst (λ n. committed words t n < 2 ^ 31) (let last : header.expired ≡ w = omega arith in last) h.expired
        ]
      ]

  pub unworn : words Clock < 2 ^ 46 → ((i : ℕ) → i < length program.sources → IsUnwornSource program listed words i) →
      ((t : ℕ) → t < length program.threads → IsUnwornThread program listed words t) → ((q : ℕ) → q < length program.pipes → IsUnwornPipe program words q) →
      ¬ IsOldWorn program listed words
  unworn clock sources threads pipes (worn.ManyReadings i known many) = let le = sources i known in omega arith
  unworn clock sources threads pipes (worn.LateClock late) = omega arith
  unworn clock sources threads pipes (worn.ManyCommits t known many) = let lt = (threads t known).stamp in omega arith
  unworn clock sources threads pipes (worn.ManyServices t w known from to many) =
      let lt = services t (threads t known) w from to in omega arith
  unworn clock sources threads pipes (worn.ManyWritten q known many) = let lt = (pipes q known).written in omega arith
  unworn clock sources threads pipes (worn.ManyTaken q known many) = let lt = (pipes q known).taken in omega arith
  unworn clock sources threads pipes (worn.ManyPositions t known many) = let le = (threads t known).positions in omega arith

-- a thread whose counts are below half their range, by the test of its queue
module _ (program : Program) (listed : List ℕ) (words : Memory) (t : ℕ) (known : t < length program.threads) where
  pub queue_worn : {r : Bool} → committed words t header.stamp < 2 ^ 31 → committed words t header.served < 2 ^ 31 → committed words t header.trapped < 2 ^ 31 →
      committed words t header.expired < 2 ^ 31 →
      r ≡ nat_lt greatest_tail (old_published program words t + listed_into program listed t (length program.sources)) →
      MatchBool r (IsOldWorn program listed words) (IsUnwornThread program listed words t)
  queue_worn {r} stamp served trapped expired test =
      subst (λ b. MatchBool b (IsOldWorn program listed words) (IsUnwornThread program listed words t)) (sym test)
      (by_size (suc greatest_tail) (old_published program words t + listed_into program listed t (length program.sources))
      (λ many. worn.ManyPositions t known (omega arith))
      (λ few. record { stamp = stamp; served = served; trapped = trapped; expired = expired; positions = omega arith }))

-- where it isn't worn, a source has settled as many readings as it can have at most
pub few_settled : (program : Program) (words : Memory) (i : ℕ) → IsFresh program words → i < length program.sources → old_next program words i ≤ limits.READINGS
few_settled program words i fresh known =
    elim (cases_lt limits.READINGS (old_next program words i + slice_index fresh.0 i)) [
      | inl many ↦ absurd (fresh.1 (worn.ManyReadings i known many))
      | inr few ↦ omega arith
    ]

-- where nothing else is worn, by the test of the pipes
pub by_pipes : (program : Program) (listed : List ℕ) (words : Memory) (r : Bool) → words Clock < 2 ^ 46 →
    ((i : ℕ) → i < length program.sources → IsUnwornSource program listed words i) → ((t : ℕ) → t < length program.threads → IsUnwornThread program listed words t) →
    MatchBool r ((given : List ℕ) → IsOldWorn program given words) ((q : ℕ) → q < length program.pipes → IsUnwornPipe program words q) → (IsTrue r ↔ IsOldWorn program listed words)
by_pipes program listed words true clock sources threads pipes = (λ yes. pipes listed, λ is. refl)
by_pipes program listed words false clock sources threads pipes =
    (λ yes. absurd (let clash : false ≡ true = yes in cc), λ is. absurd (unworn program listed words clock sources threads pipes is))
