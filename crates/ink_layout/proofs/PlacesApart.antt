-- The words of a program's layout lie apart, and the private ones come first.
use Rattle.ink_layout.proofs.Common.{◌≡◌, ◌<◌, ◌≤◌, true, false, sym, ◌∙◌, arith, Program, Layout, Place, Code, Commit, Page, Log, Ring, Tail, Slot, Ack, Clock, Src, region, regions, words_before, same_address, layout_address, IsLayout, queues_from, shape_of, words_of, IsOnBoard}
use Rattle.fram_words.specs.Shape.{address}
use Rattle.ink_layout.specs.Apart.{LieApart, LieWithin, AreDivided, is_shared}
use Rattle.ink_layout.proofs.Regions.{valid, below, earlier, later, region_is}

pub lie_apart : (program : Program) (layout : Layout) → IsLayout program layout → LieApart program layout
lie_apart program layout is p q on_p on_q e =
    same_address (shape_of program) p q (valid program p on_p) (valid program q on_q) (sym (is.addresses p on_p) ∙ (e ∙ is.addresses q on_q))

pub lie_within : (program : Program) (layout : Layout) → IsLayout program layout → LieWithin program layout
lie_within program layout is p on =
    let a : layout_address layout p ≡ address (shape_of program) p = is.addresses p on in
    let b : address (shape_of program) p < words_of (shape_of program) = below program p on in
    omega (arith, is.words)

-- the region of a private place comes before those of the queues
private_first : (program : Program) (p : Place) → IsOnBoard program p → is_shared p ≡ false → region (shape_of program) p < queues_from program
private_first program (Code x n) on is = omega arith
private_first program (Commit t) on is = omega (arith, region_is program (Commit t))
private_first program (Page t page copy k) on is = omega (arith, region_is program (Page t page copy k))
private_first program (Log t n) on is = omega (arith, region_is program (Log t n))
private_first program (Ring q n) on is = omega (arith, region_is program (Ring q n))
private_first program _ on is = cc

-- and that of a shared place doesn't
shared_last : (program : Program) (p : Place) → is_shared p ≡ true → queues_from program ≤ region (shape_of program) p
shared_last program (Tail t) is = omega (arith, region_is program (Tail t))
shared_last program (Slot t n) is = omega (arith, region_is program (Slot t n))
shared_last program (Ack i) is = omega (arith, region_is program (Ack i))
shared_last program Clock is = omega (arith, region_is program Clock)
shared_last program (Src i) is = omega (arith, region_is program (Src i))
shared_last program _ is = cc

-- the first shared word begins the regions of the queues
shared_from : (program : Program) (layout : Layout) → IsLayout program layout → layout.private ≡ words_before (regions (shape_of program)) (queues_from program)
unfolding address
shared_from program layout is =
    let first : region (shape_of program) (Tail 0) ≡ queues_from program = let r = region_is program (Tail 0) in omega arith in
    is.private ∙ rw first (omega arith)

pub are_divided : (program : Program) (layout : Layout) → IsLayout program layout → AreDivided program layout
are_divided program layout is =
    record {
      private = λ p on own.
          let a : layout_address layout p ≡ address (shape_of program) p = is.addresses p on in
          let b : address (shape_of program) p < words_before (regions (shape_of program)) (queues_from program) = earlier program p (queues_from program) on (private_first program p on own) in
          omega (arith, shared_from program layout is);
      shared = λ p on own.
          let a : layout_address layout p ≡ address (shape_of program) p = is.addresses p on in
          let b : words_before (regions (shape_of program)) (queues_from program) ≤ address (shape_of program) p = later program p (queues_from program) (shared_last program p own) in
          omega (arith, shared_from program layout is);
    }
