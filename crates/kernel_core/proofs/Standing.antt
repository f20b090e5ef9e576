-- A board that holds stands for the never-cut kernel after its journal, and is an image.
use Rattle.kernel_core.proofs.Common.{ℕ, tells, Lasts, Stands, Setup, Board, sides, row_of, seen, IsSetup, memory, state, BoardStands, Holds}
use Rattle.never_cut.proofs.StatesImage.{every_state}
use Rattle.kernel_core.proofs.Sides.{within}
use Rattle.kernel_core.proofs.Turns.{background_of}

pub board_stands : (s : Setup) (count : ℕ) (b : Board) → IsSetup s → Holds s count b → Lasts 0 (state s b) → BoardStands s b
board_stands s count b g h lasts =
    let bg = background_of s count b g h in
    let stands : Stands (memory s b) s.program (state s b) = record {
      private = h.private;
      shared = record {
        queues = bg.shared.queues;
        clock = h.clock;
        sources = λ i lt. tells (sides s) (seen (memory s b) (state s b) (row_of b)) i (within s g) lt h.kept;
      };
    } in
    record {
      legal = h.legal;
      stands = stands;
      image = every_state s.program s.readings (memory s b) (state s b) g.accepted bg.sound lasts stands (λ i lt. (h.kept.sources i).stands);
    }
