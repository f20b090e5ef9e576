-- Every word of the board has an address below the limit of its words.
use Rattle.ink_layout.proofs.Common.{◌≡◌, ◌<◌, arith, Program, Layout, Place, address, IsAccepted, layout_address, shape_of, words_of, IsOnBoard, IsLayout}
use Rattle.ink_base.specs.declared.limits.TheConstants as limits
use Rattle.ink_layout.proofs.Regions.{below}
use Rattle.ink_layout.proofs.Bounds.{few_words}

-- a place on the board has an address below it
pub address_below : (program : Program) (layout : Layout) (p : Place) → IsAccepted program → IsLayout program layout → IsOnBoard program p →
    layout_address layout p < limits.BOARD_WORDS
address_below program layout p accepted is there =
    let a : layout_address layout p ≡ address (shape_of program) p = is.addresses p there in
    let b : address (shape_of program) p < words_of (shape_of program) = below program p there in
    let c : words_of (shape_of program) < limits.BOARD_WORDS = few_words program accepted in
    omega arith
