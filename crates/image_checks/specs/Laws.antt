-- What a place at which words fail tells.
use Rattle.task_isa.specs.declared.program.Program.{Program}
use Rattle.fram_words.specs.Places.{Place, Memory}
use Rattle.never_cut.specs.Image.{IsImage}
use Rattle.image_checks.specs.Failing.{IsFirstFailing}

-- words that are an image fail at no place
abbrev pub NoImageFails : Type 0
NoImageFails = (program : Program) (words : Memory) (p : Place) → IsImage program words → ¬ IsFirstFailing program words p
