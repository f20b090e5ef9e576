-- The job of a text that may end with an image.
use Rattle.std.specs.Prelude.{◌≡◌, ℕ, ◌<◌, true, List, [], ◌∷◌, ◌++◌, length, map, replicate, slice_index_or, if◌then◌else◌, Option, Some, None, Result, Ok, Err}
use Rattle.ink_base.specs.Lines.{Line}
use Rattle.ink_base.specs.Tokens.{Entry}
use Rattle.ink_base.specs.declared.fault.Cause.TheVariants as causes
use Rattle.ink_base.specs.declared.fault.JobFault.{JobFault}
use Rattle.ink_base.specs.declared.fault.JobAnswer.{JobAnswer}
use Rattle.ink_base.specs.declared.fault.JobAnswer.TheVariants as job_answers
use Rattle.ink_text.specs.Section.{is_header}
use Rattle.never_cut.specs.declared.source_model.SourceModel.{SourceModel}
use Rattle.job_parts.specs.declared.start.Start.{Start}
use Rattle.job_parts.specs.Job.{JobParts}
use Rattle.power_trace.specs.declared.tails.Tails.{Tails}
use Rattle.power_trace.specs.Tails.{no_tails}
use Rattle.power_trace.specs.Parse.{whole_at}
use Rattle.ink_image.specs.declared.form.Form.{Form}
use Rattle.ink_image.specs.declared.image.ImageAnswer.{ImageAnswer}
use Rattle.ink_image.specs.declared.image.ImageAnswer.TheVariants as answers
use Rattle.ink_image.specs.Reading.{section_entries}
use Rattle.ink_image.specs.Form.{form_of}
use Rattle.ink_image.specs.Image.{JudgesSection}

-- an image of either form may follow the charges
abbrev pub image_tails : Tails
image_tails = record no_tails { image1 = true; image2 = true }

-- how many readings the job lists for each source
abbrev pub listed_of : JobParts → List ℕ
listed_of job = map (λ (values : List ℕ). length values) job.readings

-- In front of the readings that are listed for a source stand as many zeros as the source has settled readings, so that numbers of readings go on.
abbrev pub behind_settled : List SourceModel → List (List ℕ) → List (List ℕ)
behind_settled [] readings = []
behind_settled (source ∷ sources) [] = []
behind_settled (source ∷ sources) (values ∷ readings) = (replicate source.next 0 ++ values) ∷ behind_settled sources readings

-- the job with its start
abbrev pub job_from : JobParts → Start → JobParts
job_from job start = record job { readings = behind_settled start.model.sources job.readings; start = Some start }

-- the number of the first header's line
abbrev pub first_header : List Line → Option ℕ
first_header [] = None
first_header (line ∷ lines) = if is_header line.words then Some line.number else first_header lines

-- the line of a word of a section, by its number from 0
abbrev pub line_of_word : List Entry → ℕ → ℕ
line_of_word section n = (slice_index_or section n (0, [])).0

-- an address that is named is that of a word, of so many
abbrev pub IsWithin : ℕ → ImageAnswer → Type 0
IsWithin count (answers.NotStanding addr) = addr < count
IsWithin count _ = Unit {0}

-- The fault of a section behind a header at this line. A bad word and one that a check names have lines of their own.
abbrev pub fault_at : (header : ℕ) → List Entry → ImageAnswer → JobAnswer
fault_at header section (answers.BadWord line) = job_answers.Fault (record { line = line; cause = causes.BadWord })
fault_at header section answers.WrongShape = job_answers.Fault (record { line = header; cause = causes.WrongShape })
fault_at header section (answers.NotStanding addr) = job_answers.Fault (record { line = line_of_word section addr; cause = causes.NotStanding })
fault_at header section answers.Worn = job_answers.Fault (record { line = header; cause = causes.Worn })
fault_at header section answers.NoMemory = job_answers.NoMemory

-- an image's section makes of the job before it a job with a start, or a fault
abbrev pub IsJobAt : JobParts → Form → (header : ℕ) → List Entry → Result JobParts JobFault → Type 0
IsJobAt job form header section (Ok whole) = (start : Start) × JudgesSection form job.program (listed_of job) section (Ok start) × (whole ≡ job_from job start)
IsJobAt job form header section (Err fault) =
    (e : ImageAnswer) × JudgesSection form job.program (listed_of job) section (Err e) × (fault_at header section e ≡ job_answers.Fault fault)

-- a further header is refused before the image is judged
abbrev pub IsJudged : Option ℕ → JobParts → Form → (header : ℕ) → List Entry → Result JobParts JobFault → Type 0
IsJudged (Some further) job form header section answer = answer ≡ Err (record { line = further; cause = causes.BadSection })
IsJudged None job form header section answer = IsJobAt job form header section answer

-- what is left of a text behind its charges makes this of the job before it
abbrev pub IsMadeOf : JobParts → List Line → Result JobParts JobFault → Type 0
IsMadeOf job [] answer = answer ≡ Ok job
IsMadeOf job (header ∷ lines) answer = IsJudged (first_header lines) job (form_of header.words) header.number (section_entries lines) answer

-- the same where the text up to there may have had a fault
abbrev pub IsJobBehind : Result (JobParts × List Line) JobFault → Result JobParts JobFault → Type 0
IsJobBehind (Err fault) answer = answer ≡ Err fault
IsJobBehind (Ok x) answer = IsMadeOf x.0 x.1 answer

-- The text has this job, or this first fault.
abbrev pub IsJobOf : List ℕ → Result JobParts JobFault → Type 0
IsJobOf text answer = IsJobBehind (whole_at image_tails text) answer

-- the code's answer is one of these, unless memory ran out
abbrev pub Answers : {A : Type 0} → (Result A JobFault → Type 0) → Result A JobAnswer → Type 0
Answers P (Ok x) = P (Ok x)
Answers P (Err (job_answers.Fault fault)) = P (Err fault)
Answers P (Err job_answers.NoMemory) = Unit {0}
