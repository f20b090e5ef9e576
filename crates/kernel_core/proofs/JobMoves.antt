-- What a job lists: its board can make the moves, clock and stamps fit their words to the end, and the board stands after each move.
use Rattle.kernel_core.proofs.Common.{◌≡◌, inl, inr, ℕ, zero, suc, ◌+◌, ◌-◌, ◌*◌, ◌^◌, ◌<◌, ◌≤◌, List, [], ◌∷◌, ◌++◌, length, replicate, get_or, refl, sym, ap, ◌∙◌, subst, arith, append_assoc, All, flat_map, cases_lt, get_or_past, All-get_or, All-head, All-tail, sum_by-cons, Actor, AreFirstWords, first_of, Charge, Item, JobParts, IsJob, IsRightCharge, AreReadings, item_turns, charge_turns, readings_of, AreShort, lasts_less, Setup, Move, Turn, IsSetup, StandsFirst, BoardStands, turns_of, moves_of, moves, run_first, IsActor, AreMoves, ticks, turns, IsInRange, setup_of}
use Rattle.job_parts.specs.Job.{IsOnBoard}
use Rattle.kernel_core.proofs.CoreRuns.{actor_on}
use Rattle.kernel_core.proofs.FirstWords.{can_begin, words_stand, clock_half}
use Rattle.kernel_core.proofs.Firsts.{every_prefix}

-- an item's actor is one of the board
abbrev IsOn : ℕ → Item → Type 0
IsOn sources item = IsOnBoard sources item.actor

-- turns of one actor, and what follows them
actor_moves : (s : Setup) (count begun n : ℕ) (actor : Actor) (rest : List Move) → 0 < begun → IsActor s actor → AreMoves s count begun rest → AreMoves s count begun (replicate n (Turn actor) ++ rest)
actor_moves s count begun zero actor rest some on are = are
actor_moves s count begun (suc n) actor rest some on are = (some, on, actor_moves s count begun n actor rest some on are)

-- the turns of items, and what follows them
items_moves : (s : Setup) (count begun : ℕ) (items : List Item) (rest : List Move) → 0 < begun → All (IsOn (length s.program.sources)) items → AreMoves s count begun rest →
    AreMoves s count begun (flat_map turns_of items ++ rest)
items_moves s count begun [] rest some on are = are
items_moves s count begun (item ∷ items) rest some on are =
    let sources = length s.program.sources in
    let later = items_moves s count begun items rest some (All-tail (IsOn sources) item items on) are in
    subst (λ (l : List Move). AreMoves s count begun l) (sym (append_assoc (turns_of item) (flat_map turns_of items) rest))
    (actor_moves s count begun item.count item.actor (flat_map turns_of items ++ rest) some (actor_on s item.actor (All-head (IsOn sources) item items on)) later)

charges_moves : (s : Setup) (count begun : ℕ) (charges : List Charge) → begun + length charges ≤ count → All (IsRightCharge (length s.program.sources)) charges → AreMoves s count begun (moves charges)
charges_moves s count begun [] room all = tt
charges_moves s count begun (charge ∷ charges) room all =
    let right = All-head (IsRightCharge (length s.program.sources)) charge charges all in
    let later = charges_moves s count (begun + 1) charges (omega arith) (All-tail (IsRightCharge (length s.program.sources)) charge charges all) in
    (omega arith, items_moves s count (begun + 1) charge.items (moves charges) (omega arith) right.actors later)

-- the board can make what the job lists
pub job_moves : (job : JobParts) → IsJob job → AreMoves (setup_of job) (length job.charges) 0 (moves job.charges)
job_moves job is = charges_moves (setup_of job) (length job.charges) 0 job.charges (omega arith) is.charges.right

ticks_append : (xs ys : List Move) → ticks (xs ++ ys) ≡ ticks xs + ticks ys
ticks_append [] ys = omega arith
ticks_append (x ∷ xs) ys = let h = ticks_append xs ys in omega arith

turns_append : (xs ys : List Move) → turns (xs ++ ys) ≡ turns xs + turns ys
turns_append [] ys = omega arith
turns_append (x ∷ xs) ys = let h = turns_append xs ys in omega arith

actor_ticks : (n : ℕ) (actor : Actor) → ticks (replicate n (Turn actor)) ≡ n
actor_ticks zero actor = refl
actor_ticks (suc n) actor = let h = actor_ticks n actor in omega arith

actor_turns : (n : ℕ) (actor : Actor) → turns (replicate n (Turn actor)) ≡ n
actor_turns zero actor = refl
actor_turns (suc n) actor = let h = actor_turns n actor in omega arith

items_ticks : (items : List Item) → ticks (flat_map turns_of items) ≡ item_turns items
items_ticks [] = refl
items_ticks (item ∷ items) =
    ticks_append (turns_of item) (flat_map turns_of items)
    ∙ (ap (λ n. n + ticks (flat_map turns_of items)) (actor_ticks item.count item.actor)
    ∙ (ap (λ n. item.count + n) (items_ticks items) ∙ sym (sum_by-cons (λ (x : Item). x.count) item items)))

items_turns : (items : List Item) → turns (flat_map turns_of items) ≡ item_turns items
items_turns [] = refl
items_turns (item ∷ items) =
    turns_append (turns_of item) (flat_map turns_of items)
    ∙ (ap (λ n. n + turns (flat_map turns_of items)) (actor_turns item.count item.actor)
    ∙ (ap (λ n. item.count + n) (items_turns items) ∙ sym (sum_by-cons (λ (x : Item). x.count) item items)))

-- each charge begins after less than 2 ^ 31 ticks, and each turn adds one at most
pub charges_ticks : (sources : ℕ) (charges : List Charge) → All (IsRightCharge sources) charges → ticks (moves charges) ≤ length charges * 2 ^ 31 + charge_turns charges
charges_ticks sources [] all = omega arith
charges_ticks sources (charge ∷ charges) all =
    let right = All-head (IsRightCharge sources) charge charges all in
    let off = right.off in
    let later = charges_ticks sources charges (All-tail (IsRightCharge sources) charge charges all) in
    let first : ticks (moves_of charge) ≡ charge.off + item_turns charge.items = ap (λ n. charge.off + n) (items_ticks charge.items) in
    let split : ticks (moves (charge ∷ charges)) ≡ ticks (moves_of charge) + ticks (moves charges) = ticks_append (moves_of charge) (moves charges) in
    let all_turns : charge_turns (charge ∷ charges) ≡ item_turns charge.items + charge_turns charges = sum_by-cons (λ (c : Charge). item_turns c.items) charge charges in
    omega arith

pub charges_turns : (charges : List Charge) → turns (moves charges) ≡ charge_turns charges
charges_turns [] = refl
charges_turns (charge ∷ charges) =
    let first : turns (moves_of charge) ≡ item_turns charge.items = omega (arith, items_turns charge.items) in
    turns_append (moves_of charge) (moves charges)
    ∙ (ap (λ n. n + turns (moves charges)) first
    ∙ (ap (λ n. item_turns charge.items + n) (charges_turns charges) ∙ sym (sum_by-cons (λ (c : Charge). item_turns c.items) charge charges)))

-- the clock fits its word to the job's end
pub job_ticks : (job : JobParts) → IsJob job → ticks (moves job.charges) < 2 ^ 46
job_ticks job is = omega (arith, charges_ticks (length job.program.sources) job.charges is.charges.right, is.charges.count, is.charges.turns)

-- and the stamps fit theirs
pub job_turns : (job : JobParts) → IsJob job → turns (moves job.charges) + 1 < 2 ^ 32
job_turns job is = omega (arith, charges_turns job.charges, is.charges.turns)

-- the readings of a source; a number that no source has gets none
readings_at : (job : JobParts) (i : ℕ) → IsJob job → AreReadings (readings_of job.readings i)
readings_at job i is =
    elim (cases_lt i (length job.readings)) [
      | inl lt ↦ All-get_or AreReadings job.readings i [] lt is.readings
      | inr past ↦ subst AreReadings (sym (get_or_past job.readings i [] past)) (record { count = omega arith; below = λ k d lt. absurd (omega arith) })
    ]

reading_below : (values : List ℕ) (k : ℕ) → AreReadings values → get_or values k 0 < 2 ^ 32
reading_below values k are =
    elim (cases_lt k (length values)) [
      | inl lt ↦ All-get_or (λ value. value < 2 ^ 32) values k 0 lt are.below
      | inr past ↦ omega (arith, get_or_past values k 0 past)
    ]

-- the readings of a job are within the limits
pub job_short : (job : JobParts) → IsJob job → AreShort job.readings
job_short job is = record {
  few = λ i. (readings_at job i is).count;
  values = λ i k. reading_below (readings_of job.readings i) k (readings_at job i is);
}

-- what a job sets up
pub job_setup : (job : JobParts) → IsJob job → IsSetup (setup_of job)
job_setup job is = record { accepted = is.accepted; short = job_short job is; start = can_begin job.program job.readings job.start is.accepted (job_short job is) is.start }

-- the first words stand for the state at which a job's run begins
pub job_first : (job : JobParts) (words : List ℕ) → IsJob job → AreFirstWords job.program job.start words → StandsFirst (setup_of job) words
job_first job words is image = words_stand job.program job.readings job.start words is.accepted (job_short job is) is.start image

-- clock and counts fit their words to the job's end
pub job_range : (job : JobParts) → IsJob job → IsInRange (first_of job) (ticks (moves job.charges)) (turns (moves job.charges))
job_range job is = record {
  clock = let few = job_ticks job is in let half = clock_half job.program job.readings job.start is.start in omega arith;
  counts = lasts_less (2 ^ 32 - 1) (turns (moves job.charges)) (first_of job) (let few = job_turns job is in omega arith) (job_setup job is).start.counts;
}

-- after every cut and turn that the job lists
pub job_prefixes_stand : (job : JobParts) (words : List ℕ) → IsJob job → AreFirstWords job.program job.start words → (n : ℕ) →
    BoardStands (setup_of job) (run_first (setup_of job) words job.charges n)
job_prefixes_stand job words is image n =
    let g = job_setup job is in
    every_prefix (setup_of job) words (length job.charges) (moves job.charges) g (job_first job words is image) (job_moves job is) (job_range job is) n
