-- The turns that items list for an actor.
use Rattle.std.proofs.Common.{◌≡◌, ℕ, ◌+◌, ◌<◌, ◌≤◌, cond, Bool, true, false, List, [], ◌∷◌, length, drop, get_or, arith}
use Rattle.std.specs.Prelude.{sum_by}
use Rattle.std.proofs.lemmas.List.Sums.{sum_by-cons, sum_by-drop_more}
use Rattle.ink_base.specs.declared.actor.Actor.{Actor}
use Rattle.job_parts.specs.declared.item.Item.{Item}
use Rattle.job_parts.specs.declared.charge.Charge.{Charge}
use Rattle.job_parts.specs.Job.{item_turns, charge_turns}
use Rattle.live_account.specs.Turns.{is_same, turns_in, turns_for}

one_at_most : (b : Bool) (n : ℕ) → cond b n 0 ≤ n
one_at_most true n = omega arith
one_at_most false n = omega arith

-- no actor has more turns than there are
pub turns_at_most : (actor : Actor) (items : List Item) → sum_by (turns_in actor) items ≤ item_turns items
turns_at_most actor [] = omega arith
turns_at_most actor (item ∷ items) =
    let one = one_at_most (is_same item.actor actor) item.count in
    let rest = turns_at_most actor items in
    let mine = sum_by-cons (turns_in actor) item items in
    let all = sum_by-cons (λ (i : Item). i.count) item items in omega (arith, one, rest, mine, all)

-- in all charges neither
pub all_turns_at_most : (actor : Actor) (charges : List Charge) → sum_by (turns_for actor) charges ≤ charge_turns charges
all_turns_at_most actor [] = omega arith
all_turns_at_most actor (charge ∷ charges) =
    let one = turns_at_most actor charge.items in
    let rest = all_turns_at_most actor charges in
    let mine = sum_by-cons (turns_for actor) charge charges in
    let all = sum_by-cons (λ (c : Charge). item_turns c.items) charge charges in omega (arith, one, rest, mine, all)

-- an item's turns are no more than there are
pub turns_fit : (actor : Actor) (items : List Item) (n turns : ℕ) (d : Item) → n < length items → turns + sum_by (turns_in actor) (drop n items) ≡ sum_by (turns_in actor) items →
    turns + turns_in actor (get_or items n d) ≤ item_turns items
turns_fit actor items n turns d lt all = let more = sum_by-drop_more (turns_in actor) items n d lt in let most = turns_at_most actor items in omega (arith, more, most, all)
