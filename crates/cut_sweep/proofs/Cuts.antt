-- A job whose first charge is cut.
use Rattle.std.proofs.Common.{◌≡◌, ℕ, zero, suc, ◌+◌, ◌-◌, ◌<◌, ◌≤◌, min, List, [], ◌∷◌, ◌++◌, length, take, drop, replicate, get_or, refl, sym, ap, ◌∙◌, arith}
use Rattle.std.proofs.lemmas.List.{flat_map_more, length-drop, take_all, take_more}
use Rattle.std.proofs.lemmas.List.Elements.{All-cons, All-head, All-tail}
use Rattle.std.proofs.lemmas.List.Sums.{sum_by-cons, sum_by_more, sum_by-take-drop}
use Rattle.std.specs.List.{All, flat_map}
use Rattle.ink_base.specs.declared.limits.TheConstants as limits
use Rattle.job_parts.specs.Job.{IsOnBoard, IsRightCharge, AreCharges, item_turns, charge_turns}
use Rattle.job_parts.specs.declared.item.Item.{Item}
use Rattle.job_parts.specs.declared.charge.Charge.{Charge}
use Rattle.kernel_core.specs.Board.{Setup, Board, Cut, Turn, moved_by}
use Rattle.kernel_core.specs.Core.{no_charge, no_item}
use Rattle.kernel_core.specs.Listed.{moves, moves_of, turns_of}
use Rattle.kernel_core.proofs.CoreJobs.{turns_small}
use Rattle.kernel_core.proofs.CoreRuns.{moved_append}
use Rattle.cut_sweep.specs.Cut.{cut_item, first_turns, cut_charge, cut_first, CutsTake, AllIsWhole, CutsAreJobs}

-- the first so many of equal turns and of those behind them
take_turns : {X : Type 0} (n k : ℕ) (x : X) (rest : List X) → take n (replicate k x ++ rest) ≡ replicate (min n k) x ++ take (n - k) rest
take_turns zero k x rest =
    let e : min 0 k ≡ 0 = omega arith in
    let f : 0 - k ≡ 0 = omega arith in sym (λ i. replicate (e i) x ++ take (f i) rest)
take_turns (suc n) zero x rest =
    let e : min (suc n) 0 ≡ 0 = omega arith in
    let f : suc n - 0 ≡ suc n = omega arith in sym (λ i. replicate (e i) x ++ take (f i) rest)
take_turns (suc n) (suc k) x rest =
    let e : min (suc n) (suc k) ≡ suc (min n k) = omega arith in
    let f : suc n - suc k ≡ n - k = omega arith in
    ap (λ l. x ∷ l) (take_turns n k x rest) ∙ sym (λ i. replicate (e i) x ++ take (f i) rest)

take_none : {X : Type 0} (n : ℕ) → take {A = X} n [] ≡ []
take_none zero = refl
take_none (suc n) = refl

turns_cut : (n : ℕ) (items : List Item) → flat_map turns_of (first_turns n items) ≡ take n (flat_map turns_of items)
turns_cut n [] = sym (take_none n)
turns_cut n (item ∷ items) =
    ap (λ l. turns_of (cut_item n item) ++ l) (turns_cut (n - item.count) items)
    ∙ sym (take_turns n item.count (Turn item.actor) (flat_map turns_of items))

pub cuts_take : CutsTake
cuts_take turns charge =
    let s : suc turns ≡ turns + 1 = omega arith in
    ap (λ l. Cut charge.off ∷ l) (turns_cut turns charge.items) ∙ ap (λ k. take k (moves_of charge)) s

-- behind the last turn nothing is cut
all_turns : (n : ℕ) (items : List Item) → item_turns items ≤ n → first_turns n items ≡ items
all_turns n [] le = refl
all_turns n (item ∷ items) le =
    let sum = sum_by-cons (λ (x : Item). x.count) item items in
    let e : min n item.count ≡ item.count = omega arith in
    let rest : first_turns (n - item.count) items ≡ items = all_turns (n - item.count) items (omega arith) in
    λ i. record item { count = e i } ∷ rest i

pub charge_whole : (n : ℕ) (charge : Charge) → item_turns charge.items ≤ n → cut_charge n charge ≡ charge
charge_whole n charge le = λ i. record charge { items = all_turns n charge.items le i }

first_whole : (charges : List Charge) → cut_first (item_turns (get_or charges 0 no_charge).items) charges ≡ charges
first_whole [] = refl
first_whole (charge ∷ charges) = ap (λ c. c ∷ charges) (charge_whole (item_turns charge.items) charge (omega arith))

pub all_is_whole : AllIsWhole
all_is_whole job = λ i. record job { charges = first_whole job.charges i }

turns_few : (n : ℕ) (items : List Item) → item_turns (first_turns n items) ≤ item_turns items
turns_few n [] = omega arith
turns_few n (item ∷ items) =
    let cut = sum_by-cons (λ (x : Item). x.count) (cut_item n item) (first_turns (n - item.count) items) in
    let whole = sum_by-cons (λ (x : Item). x.count) item items in
    let rest = turns_few (n - item.count) items in omega arith

-- an item's actor is one of the board
abbrev IsOn : ℕ → Item → Type 0
IsOn sources item = IsOnBoard sources item.actor

actors_cut : (sources n : ℕ) (items : List Item) → All (IsOn sources) items → All (IsOn sources) (first_turns n items)
actors_cut sources n [] on = on
actors_cut sources n (item ∷ items) on =
    All-cons (IsOn sources) (cut_item n item) (first_turns (n - item.count) items) (All-head (IsOn sources) item items on)
    (actors_cut sources (n - item.count) items (All-tail (IsOn sources) item items on))

charges_cut : (sources turns : ℕ) (charges : List Charge) → AreCharges sources charges → AreCharges sources (cut_first turns charges)
charges_cut sources turns [] are = are
charges_cut sources turns (charge ∷ charges) are =
    let right = All-head (IsRightCharge sources) charge charges are.right in
    let cut = sum_by-cons (λ (c : Charge). item_turns c.items) (cut_charge turns charge) charges in
    let whole = sum_by-cons (λ (c : Charge). item_turns c.items) charge charges in
    let few = turns_few turns charge.items in
    record {
      least = are.least;
      count = are.count;
      right = All-cons (IsRightCharge sources) (cut_charge turns charge) charges
          (record { off = right.off; actors = actors_cut sources turns charge.items right.actors })
          (All-tail (IsRightCharge sources) charge charges are.right);
      turns = let all = are.turns in omega arith;
    }

pub cuts_are_jobs : CutsAreJobs
cuts_are_jobs job turns is = record {
  accepted = is.accepted;
  sources = is.sources;
  readings = is.readings;
  charges = charges_cut (length job.program.sources) turns job.charges is.charges;
  start = is.start;
}

-- as many charges
pub cut_length : (turns : ℕ) (charges : List Charge) → length (cut_first turns charges) ≡ length charges
cut_length turns [] = refl
cut_length turns (charge ∷ charges) = refl

first_more : (n : ℕ) (xs ys : List Item) → first_turns n (xs ++ ys) ≡ first_turns n xs ++ first_turns (n - item_turns xs) ys
first_more n [] ys = let e : n ≡ n - 0 = omega arith in ap (λ k. first_turns k ys) e
first_more n (x ∷ xs) ys =
    let sum = sum_by-cons (λ (x : Item). x.count) x xs in
    let e : n - x.count - item_turns xs ≡ n - item_turns (x ∷ xs) = omega arith in
    ap (λ l. cut_item n x ∷ l) (first_more (n - x.count) xs ys)
    ∙ ap (λ k. (cut_item n x ∷ first_turns (n - x.count) xs) ++ first_turns k ys) e

-- the board behind one item more, of which as many turns are made as are left
pub items_more : (s : Setup) (b : Board) (n : ℕ) (items : List Item) (k : ℕ) → k < length items →
    moved_by s b (flat_map turns_of (first_turns n (take (k + 1) items)))
    ≡ moved_by s (moved_by s b (flat_map turns_of (first_turns n (take k items)))) (turns_of (cut_item (n - item_turns (take k items)) (get_or items k no_item)))
items_more s b n items k lt =
    let item : Item = cut_item (n - item_turns (take k items)) (get_or items k no_item) in
    ap (λ l. moved_by s b (flat_map turns_of (first_turns n l))) (take_more items k no_item lt)
    ∙ (ap (λ l. moved_by s b (flat_map turns_of l)) (first_more n (take k items) (get_or items k no_item ∷ []))
    ∙ (ap (λ l. moved_by s b l) (sym (flat_map_more turns_of [] (first_turns n (take k items)) item))
    ∙ moved_append s b (flat_map turns_of (first_turns n (take k items))) (turns_of item)))

-- how many turns are left behind it
pub left_more : (n : ℕ) (items : List Item) (k : ℕ) → k < length items → n - item_turns (take k items) - (get_or items k no_item).count ≡ n - item_turns (take (k + 1) items)
left_more n items k lt = let more = sum_by_more (λ (x : Item). x.count) items k no_item lt in omega arith

-- the board behind the first charge, which is cut, and behind the others
pub first_and_others : (s : Setup) (b : Board) (turns : ℕ) (charges : List Charge) → 0 < length charges →
    moved_by s b (moves (cut_first turns charges)) ≡ moved_by s (moved_by s b (moves_of (cut_charge turns (get_or charges 0 no_charge)))) (flat_map moves_of (drop 1 charges))
first_and_others s b turns [] some = absurd (omega arith)
first_and_others s b turns (charge ∷ charges) some = moved_append s b (moves_of (cut_charge turns charge)) (flat_map moves_of charges)

-- all behind the first
pub all_others : (charges : List Charge) → take (length charges - 1) (drop 1 charges) ≡ drop 1 charges
all_others charges = take_all (length charges - 1) (drop 1 charges) (simp length-drop (omega arith))

-- each of them lists few turns
pub other_few : (charges : List Charge) (k : ℕ) → charge_turns charges ≤ limits.TURNS → k < length (drop 1 charges) → item_turns (get_or (drop 1 charges) k no_charge).items ≤ limits.TURNS
other_few charges k few lt =
    let all = sum_by-take-drop (λ (c : Charge). item_turns c.items) charges 1 in
    turns_small (drop 1 charges) k (omega arith) lt
