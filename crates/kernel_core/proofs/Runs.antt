-- What holds outlasts every list of turns and cuts.
use Rattle.kernel_core.proofs.Common.{◌≡◌, ℕ, zero, suc, ◌+◌, ◌<◌, ◌≤◌, cond, Bool, true, false, List, [], ◌∷◌, length, take, refl, sym, subst, arith, Actor, is_left, readings_of, Lasts, lasts_less, Setup, Board, Move, Cut, Turn, turn, cut, source_made, row_of, moved_by, IsSetup, state, Holds, IsActor, AreMoves, ticks, turns, IsInRange}
use Rattle.ink_base.specs.declared.actor.Actor.TheVariants as actors
use Rattle.kernel_core.proofs.Turns.{Goes, kernel_goes, source_goes}
use Rattle.kernel_core.proofs.Cuts.{clock_goes, cut_goes, cut_lasts}

pub turn_begun : (s : Setup) (b : Board) (a : Actor) → (turn s b a).begun ≡ b.begun
turn_begun s b actors.Kernel = refl
turn_begun s b (actors.Source i) = by_left (is_left (length (readings_of s.readings i.0)) (row_of b i.0))
  where
    by_left : (t : Bool) → (cond t (source_made s b i.0) b).begun ≡ b.begun
    by_left true = refl
    by_left false = refl
turn_begun s b actors.Clock = refl

pub turn_goes : (s : Setup) (count : ℕ) (b : Board) (a : Actor) (ticks turns : ℕ) → IsSetup s → Holds s count b → 0 < b.begun → IsActor s a → IsInRange (state s b) (1 + ticks) (1 + turns) →
    Goes s count b (turn s b a) 1
turn_goes s count b actors.Kernel ticks turns g h some is range = kernel_goes s count b g h some (lasts_less (1 + turns) 0 (state s b) (omega arith) range.counts)
turn_goes s count b (actors.Source i) ticks turns g h some is range = source_goes s count b i.0 g h some is
turn_goes s count b actors.Clock ticks turns g h some is range = clock_goes s count b g h some (let c = range.clock in omega arith)

-- what is left of the range after a turn, and after a cut
pub after_turn : (s : Setup) (count : ℕ) (b next : Board) (ticks turns : ℕ) → Goes s count b next 1 → IsInRange (state s b) (1 + ticks) (1 + turns) → IsInRange (state s next) ticks turns
after_turn s count b next ticks turns go range = record {
  clock = let a = go.clock in let c = range.clock in omega arith;
  counts = go.counts turns (lasts_less (1 + turns) (turns + 1) (state s b) (omega arith) range.counts);
}

pub after_cut : (s : Setup) (count : ℕ) (b : Board) (off ticks turns : ℕ) → Goes s count b (cut s b off) off → Holds s count b → b.begun < count → IsInRange (state s b) (off + ticks) turns →
    IsInRange (state s (cut s b off)) ticks turns
after_cut s count b off ticks turns go h left range = record {
  clock = let a = go.clock in let c = range.clock in omega arith;
  counts = cut_lasts s count b off turns h left range.counts;
}

-- the board after all moves holds, and its counts fit their words
pub moves_hold : (s : Setup) (count : ℕ) (b : Board) (moves : List Move) → IsSetup s → Holds s count b → AreMoves s count b.begun moves → IsInRange (state s b) (ticks moves) (turns moves) →
    Holds s count (moved_by s b moves) × Lasts 0 (state s (moved_by s b moves))
moves_hold s count b [] g h are range = (h, range.counts)
moves_hold s count b (Cut off ∷ moves) g h are range =
    let go = cut_goes s count b off g h are.0 (let c = range.clock in omega arith) in
    moves_hold s count (cut s b off) moves g go.holds are.1 (after_cut s count b off (ticks moves) (turns moves) go h are.0 (record { clock = range.clock; counts = lasts_less (turns (Cut off ∷ moves)) (turns moves) (state s b) (omega arith) range.counts }))
moves_hold s count b (Turn actor ∷ moves) g h are range =
    let go = turn_goes s count b actor (ticks moves) (turns moves) g h are.0 are.1 range in
    moves_hold s count (turn s b actor) moves g go.holds
    (subst (λ n. AreMoves s count n moves) (sym (turn_begun s b actor)) are.2)
    (after_turn s count b (turn s b actor) (ticks moves) (turns moves) go range)

pub moves_taken : (s : Setup) (count begun n : ℕ) (moves : List Move) → AreMoves s count begun moves → AreMoves s count begun (take n moves)
moves_taken s count begun zero moves are = tt
moves_taken s count begun (suc n) [] are = tt
moves_taken s count begun (suc n) (Cut off ∷ moves) are = (are.0, moves_taken s count (begun + 1) n moves are.1)
moves_taken s count begun (suc n) (Turn actor ∷ moves) are = (are.0, are.1, moves_taken s count begun n moves are.2)

pub ticks_taken : (n : ℕ) (moves : List Move) → ticks (take n moves) ≤ ticks moves
ticks_taken zero moves = omega arith
ticks_taken (suc n) [] = omega arith
ticks_taken (suc n) (m ∷ moves) = let h = ticks_taken n moves in omega arith

pub turns_taken : (n : ℕ) (moves : List Move) → turns (take n moves) ≤ turns moves
turns_taken zero moves = omega arith
turns_taken (suc n) [] = omega arith
turns_taken (suc n) (m ∷ moves) = let h = turns_taken n moves in omega arith
