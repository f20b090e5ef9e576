-- The word of a place stands at its address.
use Rattle.std.proofs.Common.{◌≡◌, ◌<◌, ℕ, List, get_or, refl, arith}
use Rattle.task_isa.specs.declared.program.Program.{Program}
use Rattle.fram_words.specs.declared.layout.Layout.{Layout}
use Rattle.fram_words.specs.Places.{Place}
use Rattle.fram_words.specs.Shape.{address, memory_of}
use Rattle.ink_layout.specs.Addresses.{layout_address}
use Rattle.ink_layout.specs.Layouts.{IsLayout}
use Rattle.ink_layout.specs.Shape.{IsOnBoard, shape_of, words_of}
use Rattle.ink_layout.proofs.Regions.{below, valid}

pub address_within : (program : Program) (layout : Layout) (p : Place) → IsLayout program layout → IsOnBoard program p → layout_address layout p < words_of (shape_of program)
address_within program layout p is there =
    let at = is.addresses p there in
    let within : address (shape_of program) p < words_of (shape_of program) = below program p there in omega arith

pub word_read : (program : Program) (layout : Layout) (words : List ℕ) (p : Place) → IsLayout program layout → IsOnBoard program p →
    get_or words (layout_address layout p) 0 ≡ memory_of (shape_of program) words p
word_read program layout words p is there = rw (is.addresses p there, valid program p there) refl
