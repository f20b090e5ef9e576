-- What holds of the jobs of all texts.
use Rattle.std.specs.Prelude.{◌≡◌, ◌↔◌, ◌||◌, Bool, false, ℕ, List, [], ◌∷◌, Result, Ok, Err, codes}
use Rattle.std.specs.List.{All}
use Rattle.std.specs.Str.{bytes_eq}
use Rattle.ink_base.specs.Lines.{Word, Line, lines_of}
use Rattle.ink_base.specs.declared.fault.JobFault.{JobFault}
use Rattle.job_parts.specs.Job.{JobParts}
use Rattle.power_trace.specs.Parse.{job_at}
use Rattle.ink_image.specs.Whole.{IsJobOf}

-- a line begins with the header of an image
abbrev pub begins_image : List Word → Bool
begins_image [] = false
begins_image (w ∷ ws) = bytes_eq w (codes "[image1]") || bytes_eq w (codes "[image2]")

-- no line of the text does
abbrev pub HasNoImage : List ℕ → Type 0
HasNoImage text = All (λ (line : Line). begins_image line.words ≡ false) (lines_of text)

-- A text without an image has the job that ends with its charges, or the first fault up to there.
abbrev pub EveryPlainText : Type 0
EveryPlainText = (text : List ℕ) (answer : Result JobParts JobFault) → HasNoImage text → IsJobOf text answer ↔ (job_at text ≡ answer)

-- A text has a job or a fault, and never both.
abbrev pub EveryTextIsOne : Type 0
EveryTextIsOne = (text : List ℕ) (job : JobParts) (fault : JobFault) → IsJobOf text (Ok job) → ¬ IsJobOf text (Err fault)
