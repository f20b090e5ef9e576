-- What the answers of `job_before` tell of a text, whatever it is.
use Rattle.std.specs.Prelude.{◌≡◌, ℕ, true, false, List, Option, Some, None, Result, Ok, Err}
use Rattle.std.specs.List.{All, Contains}
use Rattle.ink_base.specs.Lines.{Line, lines_of}
use Rattle.ink_base.specs.declared.fault.JobFault.{JobFault}
use Rattle.job_parts.specs.Job.{JobParts}
use Rattle.power_trace.specs.declared.tails.Tails.{Tails}
use Rattle.ink_image.specs.Whole.{image_tails, IsJobOf}
use Rattle.ink_image.specs.Before.{line_end, judged_text, is_last, by_itself, IsJobBefore}

-- A line of the text is the header of a section that may stand last, and this is the offset behind it.
pub record BeginsAt (tails : Tails) (text : List ℕ) (at : ℕ) : Type 0 where
  pub line : Line
  pub there : Contains (lines_of text) line
  pub header : is_last tails line.words ≡ true
  pub ends : at ≡ line_end text line.number

-- no line of the text is such a header
abbrev pub NoneBegins : Tails → List ℕ → Type 0
NoneBegins tails text = All (λ (line : Line). is_last tails line.words ≡ false) (lines_of text)

-- there is an offset exactly where a line is such a header
abbrev pub TellsLast : Tails → List ℕ → Option ℕ → Type 0
TellsLast tails text (Some at) = BeginsAt tails text at
TellsLast tails text None = NoneBegins tails text

-- where a job is told, its text has a last section exactly where an offset is told, and that is where the section's bytes begin
abbrev pub EveryLastBegins : Type 0
EveryLastBegins = (tails : Tails) (text : List ℕ) (job : JobParts) (last : Option ℕ) → IsJobBefore tails text (Ok (job, last)) → TellsLast tails (judged_text tails text) last

-- a text has a job before its last section or a fault, and never both
abbrev pub EveryBeforeIsOne : Type 0
EveryBeforeIsOne = (tails : Tails) (text : List ℕ) (x : JobParts × Option ℕ) (fault : JobFault) → IsJobBefore tails text (Ok x) → ¬ IsJobBefore tails text (Err fault)

-- where nothing may stand last, the job is that of the whole text
abbrev pub EveryWholeIsBefore : Type 0
EveryWholeIsBefore = (text : List ℕ) (answer : Result (JobParts × Option ℕ) JobFault) → IsJobBefore image_tails text answer → IsJobOf text (by_itself answer)
