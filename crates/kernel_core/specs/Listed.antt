-- The cuts and turns that a job lists, and the board after them.
use Rattle.std.specs.Prelude.{ℕ, List, ◌∷◌, length, take, replicate}
use Rattle.std.specs.List.{flat_map}
use Rattle.job_parts.specs.declared.charge.Charge.{Charge}
use Rattle.job_parts.specs.declared.item.Item.{Item}
use Rattle.kernel_core.specs.Board.{Setup, Board, Move, Cut, Turn, moved_by, first_board}

-- the turns of an item, all of one actor
abbrev pub turns_of : Item → List Move
turns_of item = replicate item.count (Turn item.actor)

-- a charge is a cut, and then the turns of its items
abbrev pub moves_of : Charge → List Move
moves_of charge = Cut charge.off ∷ flat_map turns_of charge.items

-- the cuts and turns of all charges, in order
abbrev pub moves : List Charge → List Move
moves charges = flat_map moves_of charges

-- the board after the first so many cuts and turns that the charges list, and after all
abbrev pub run_first : Setup → List ℕ → List Charge → ℕ → Board
run_first s words charges n = moved_by s (first_board s words (length charges)) (take n (moves charges))

-- the board after all that the charges list
abbrev pub run : Setup → List ℕ → List Charge → Board
run s words charges = moved_by s (first_board s words (length charges)) (moves charges)
