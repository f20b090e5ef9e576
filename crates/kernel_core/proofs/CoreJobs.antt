-- The turns that a charge lists.
use Rattle.kernel_core.proofs.Common.{◌≡◌, ℕ, zero, suc, ◌+◌, ◌<◌, ◌≤◌, List, [], ◌∷◌, length, take, get_or, sum_by, refl, ap, arith, get_or_read, sum_by-take-drop, sum_by-drop_more, Charge, JobParts, IsJob, item_turns, charge_turns, no_charge, turns_in, turns_from}
use Rattle.ink_base.specs.declared.limits.TheConstants as limits

-- no more turns stand in the charges from one on than in all
pub turns_few : (job : JobParts) (k : ℕ) → IsJob job → turns_from job k ≤ limits.TURNS
turns_few job k is = let all = sum_by-take-drop (λ (c : Charge). item_turns c.items) job.charges k in let few = is.charges.turns in omega arith

pub turns_split : (job : JobParts) (k : ℕ) → k < length job.charges → turns_from job k ≡ turns_in job k + turns_from job (k + 1)
turns_split job k lt = sum_by-drop_more (λ (c : Charge). item_turns c.items) job.charges k no_charge lt

pub turns_small : (charges : List Charge) (k : ℕ) → charge_turns charges ≤ limits.TURNS → k < length charges → item_turns (get_or charges k no_charge).items ≤ limits.TURNS
turns_small charges k few lt =
    let all = sum_by-take-drop (λ (c : Charge). item_turns c.items) charges k in let split = sum_by-drop_more (λ (c : Charge). item_turns c.items) charges k no_charge lt in omega arith

-- a charge as a call on an element gives it
pub charge_is : (charges : List Charge) (k : ℕ) (c : Charge) → k < length charges → c ≡ get_or charges k c → item_turns c.items ≡ item_turns (get_or charges k no_charge).items
charge_is charges k c lt is = ap (λ (z : Charge). item_turns z.items) (get_or_read charges k c lt is no_charge)

-- all elements, where the index is at the end
pub taken : {X : Type 0} (xs : List X) (n : ℕ) → length xs ≤ n → take n xs ≡ xs
taken [] zero le = refl
taken [] (suc n) le = refl
taken (x ∷ xs) zero le = absurd (omega arith)
taken (x ∷ xs) (suc n) le = ap (λ l. x ∷ l) (taken xs n (omega arith))

pub taken_all : {X : Type 0} (f : X → ℕ) (xs : List X) (n : ℕ) → length xs ≤ n → sum_by f (take n xs) ≡ sum_by f xs
taken_all f xs n le = ap (λ l. sum_by f l) (taken xs n le)
