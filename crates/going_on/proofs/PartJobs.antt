-- The parts of a divided job are jobs.
use Rattle.going_on.proofs.Common.{◌≡◌, ℕ, ◌+◌, ◌-◌, ◌^◌, ◌<◌, ◌≤◌, List, ◌++◌, length, drop, replicate, get_or, ap, ◌∙◌, subst, arith, All, All-append, All-drop, length-append, length-drop, length-replicate, get_or-append-add, get_or-append_right, get_or-drop, get_or_append_left, sum_by-append, Charge, AreCharges, AreReadings, IsRightCharge, charge_turns, item_turns, readings_of, behind_settled, []}
use Rattle.std.proofs.lemmas.List.{get_or_default}
use Rattle.std.proofs.lemmas.List.Elements.{All-replicate}

-- the first and the last elements of a list of which something holds
first_of_all : {X : Type 0} (P : X → Type 0) (xs ys : List X) → All P (xs ++ ys) → All P xs
first_of_all P xs ys all k d lt = subst P (get_or_append_left xs ys d k lt) (all k d (omega (arith, length-append xs ys)))

last_of_all : {X : Type 0} (P : X → Type 0) (xs ys : List X) → All P (xs ++ ys) → All P ys
last_of_all P xs ys all k d lt = subst P (get_or-append-add xs ys k d) (all (length xs + k) d (omega (arith, length-append xs ys)))

turns_of_both : (xs ys : List Charge) → charge_turns (xs ++ ys) ≡ charge_turns xs + charge_turns ys
turns_of_both xs ys = sum_by-append (λ (c : Charge). item_turns c.items) xs ys

module _ (sources : ℕ) (xs ys : List Charge) (are : AreCharges sources (xs ++ ys)) where
  pub front_charges : 1 ≤ length xs → AreCharges sources xs
  front_charges some = record {
    least = some;
    count = let most = are.count in omega (arith, length-append xs ys, most);
    right = first_of_all (IsRightCharge sources) xs ys are.right;
    turns = let most = are.turns in omega (arith, turns_of_both xs ys, most);
  }

  pub back_charges : 1 ≤ length ys → AreCharges sources ys
  back_charges some = record {
    least = some;
    count = let most = are.count in omega (arith, length-append xs ys, most);
    right = last_of_all (IsRightCharge sources) xs ys are.right;
    turns = let most = are.turns in omega (arith, turns_of_both xs ys, most);
  }

-- as many readings as before, those that are left being the same
pub settled_length : (next : ℕ) (readings : List ℕ) → next ≤ length readings → length (behind_settled next readings) ≡ length readings
settled_length next readings le =
    let none : ℕ = 0 in
    let zeros : length (replicate next none) ≡ next = length-replicate next none in
    omega (arith, length-append (replicate next none) (drop next readings), zeros, length-drop next readings)

pub settled_at : (next : ℕ) (readings : List ℕ) (k : ℕ) → next ≤ k → get_or (behind_settled next readings) k 0 ≡ get_or readings k 0
settled_at next readings k le =
    get_or-append_right (replicate next 0) (drop next readings) next k 0 (length-replicate next 0) le
    ∙ (get_or-drop next readings (k - next) 0 ∙ ap (λ n. get_or readings n 0) (let e : next + (k - next) ≡ k = omega arith in e))

pub settled_right : (next : ℕ) (readings : List ℕ) → next ≤ length readings → AreReadings readings → AreReadings (behind_settled next readings)
settled_right next readings le are = record {
  count = let most = are.count in omega (arith, settled_length next readings le, most);
  below = All-append (λ value. value < 2 ^ 32) (replicate next 0) (drop next readings) (All-replicate (λ value. value < 2 ^ 32) next 0 (omega arith))
      (All-drop (λ value. value < 2 ^ 32) next readings are.below);
}

-- each list of readings is right, if it is at the number of a source
pub all_right : (readings : List (List ℕ)) → ((i : ℕ) → i < length readings → AreReadings (readings_of readings i)) → All AreReadings readings
all_right readings each k d lt = subst AreReadings (get_or_default readings k [] d lt) (each k lt)
