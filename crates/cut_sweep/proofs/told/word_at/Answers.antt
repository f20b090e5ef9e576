-- The word of a place stands at its address.
use Rattle.std.proofs.Common.{◌≡◌, ℕ, List, get_or, refl, ap, ◌∙◌}
use Rattle.task_isa.specs.declared.program.Program.{Program}
use Rattle.fram_words.specs.declared.layout.Layout.{Layout}
use Rattle.fram_words.specs.Places.{Place}
use Rattle.fram_words.specs.Shape.{memory_of}
use Rattle.fram_words.specs.Steps.{place_of}
use Rattle.ink_layout.specs.Addresses.{layout_address}
use Rattle.ink_layout.specs.Layouts.{IsLayout}
use Rattle.ink_layout.specs.Shape.{IsOnBoard, shape_of}
use Rattle.ink_layout.proofs.Regions.{valid}
use Rattle.cut_sweep.proofs.told.word_at.Goals as goal

word_read : (program : Program) (layout : Layout) (words : List ℕ) (p : Place) → IsLayout program layout → IsOnBoard program p →
    get_or words (layout_address layout p) 0 ≡ memory_of (shape_of program) words p
word_read program layout words p is there = rw (is.addresses p there, valid program p there) refl

pub returns : goal.returns
returns c =
    c.word.ensures
    ∙ (ap (λ a. get_or c.args.words.now a 0) c.address.ensures
    ∙ word_read c.args.plan.now.accepted c.args.plan.now.layout c.args.words.now (place_of c.args.place) c.program-program.ensures.layout c.requires)
