-- No word of a pipe's ring stands at or behind address 2 ^ 32.
use Rattle.priority_sched.proofs.Common.{◌≡◌, ℕ, ◌+◌, ◌-◌, ◌^◌, ◌<◌, ◌≤◌, length, arith, slice_index, Program, Ring, pipe_def, IsAccepted}
use Rattle.ink_base.specs.declared.limits.TheConstants as limits
use Rattle.fram_words.specs.declared.layout.Layout.{Layout}
use Rattle.fram_words.specs.Shape.{address}
use Rattle.ink_layout.specs.Shape.{shape_of, words_of}
use Rattle.ink_layout.specs.Addresses.{layout_address}
use Rattle.ink_layout.specs.Layouts.{IsLayout}
use Rattle.ink_layout.proofs.Regions.{below}
use Rattle.ink_layout.proofs.Bounds.{few_words}

pub ring_fits : (program : Program) (layout : Layout) (q : ℕ) → IsAccepted program → IsLayout program layout → q < length program.pipes →
    slice_index layout.rings q + (pipe_def program q).places ≤ 2 ^ 32
ring_fits program layout q accepted is within =
    let pipe = accepted.pipes q within in
    let some : 1 ≤ (pipe_def program q).places = pipe.places_least in
    let last : ℕ = (pipe_def program q).places - 1 in
    let at : layout_address layout (Ring q last) ≡ address (shape_of program) (Ring q last) = is.addresses (Ring q last) (within, omega arith) in
    let lt : address (shape_of program) (Ring q last) < words_of (shape_of program) = below program (Ring q last) (within, omega arith) in
    let few : words_of (shape_of program) < limits.BOARD_WORDS = few_words program accepted in
    omega arith
