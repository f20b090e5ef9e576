-- The moves of a run, one after another.
use Rattle.kernel_core.proofs.Common.{◌≡◌, ℕ, zero, suc, ◌+◌, ◌<◌, List, [], ◌∷◌, ◌++◌, length, take, drop, replicate, get_or, refl, sym, ap, ◌∙◌, subst, arith, flat_map, take_more, flat_map_more, All-get_or, sum_by-drop_more, Actor, Charge, Item, JobParts, IsJob, IsRightCharge, item_turns, Setup, Board, Move, Turn, turn, move, moved_by, turns_of, moves_of, IsActor, setup_of, charge_def, no_charge, no_item}
use Rattle.job_parts.specs.Job.{IsOnBoard}
use Rattle.ink_base.specs.declared.actor.Actor.TheVariants as actors

pub moved_append : (s : Setup) (b : Board) (xs ys : List Move) → moved_by s b (xs ++ ys) ≡ moved_by s (moved_by s b xs) ys
moved_append s b [] ys = refl
moved_append s b (x ∷ xs) ys = moved_append s (move s b x) xs ys

pub turn_more : (s : Setup) (b : Board) (n : ℕ) (a : Actor) → moved_by s b (replicate (n + 1) (Turn a)) ≡ turn s (moved_by s b (replicate n (Turn a))) a
turn_more s b n a = let e : suc n ≡ n + 1 = omega arith in subst (λ k. moved_by s b (replicate k (Turn a)) ≡ turn s (moved_by s b (replicate n (Turn a))) a) e (one_more b n)
  where
    one_more : (b : Board) (n : ℕ) → moved_by s b (replicate (suc n) (Turn a)) ≡ turn s (moved_by s b (replicate n (Turn a))) a
    one_more b zero = refl
    one_more b (suc n) = one_more (turn s b a) n

pub items_more : (s : Setup) (b : Board) (items : List Item) (k : ℕ) → k < length items →
    moved_by s b (flat_map turns_of (take (k + 1) items)) ≡ moved_by s (moved_by s b (flat_map turns_of (take k items))) (turns_of (get_or items k no_item))
items_more s b items k lt =
    ap (λ l. moved_by s b (flat_map turns_of l)) (take_more items k no_item lt)
    ∙ (ap (λ l. moved_by s b l) (sym (flat_map_more turns_of [] (take k items) (get_or items k no_item)))
    ∙ moved_append s b (flat_map turns_of (take k items)) (turns_of (get_or items k no_item)))

pub charges_more : (s : Setup) (b : Board) (charges : List Charge) (n : ℕ) → n < length charges →
    moved_by s b (flat_map moves_of (take (n + 1) charges)) ≡ moved_by s (moved_by s b (flat_map moves_of (take n charges))) (moves_of (get_or charges n no_charge))
charges_more s b charges n lt =
    ap (λ l. moved_by s b (flat_map moves_of l)) (take_more charges n no_charge lt)
    ∙ (ap (λ l. moved_by s b l) (sym (flat_map_more moves_of [] (take n charges) (get_or charges n no_charge)))
    ∙ moved_append s b (flat_map moves_of (take n charges)) (moves_of (get_or charges n no_charge)))

pub item_room : (items : List Item) (k : ℕ) → k < length items → item_turns (drop k items) ≡ (get_or items k no_item).count + item_turns (drop (k + 1) items)
item_room items k lt = sum_by-drop_more (λ (item : Item). item.count) items k no_item lt

pub actor_on : (s : Setup) (a : Actor) → IsOnBoard (length s.program.sources) a → IsActor s a
actor_on s actors.Kernel on = tt
actor_on s (actors.Source i) on = on
actor_on s actors.Clock on = tt

pub item_known : (job : JobParts) (n k : ℕ) → IsJob job → n < length job.charges → k < length (charge_def job n).items → IsActor (setup_of job) (get_or (charge_def job n).items k no_item).actor
item_known job n k is lt inside =
    let right = All-get_or (IsRightCharge (length job.program.sources)) job.charges n no_charge lt is.charges.right in
    actor_on (setup_of job) (get_or (charge_def job n).items k no_item).actor
    (All-get_or (λ (item : Item). IsOnBoard (length job.program.sources) item.actor) (charge_def job n).items k no_item inside right.actors)
