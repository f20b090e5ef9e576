-- The job of a text behind which a last section may stand, a claim or a script, and where the bytes of that section begin.
use Rattle.std.specs.Prelude.{◌≡◌, ℕ, zero, suc, ◌+◌, ◌==◌, Bool, true, false, List, [], ◌∷◌, take, codes, if◌then◌else◌, Option, Some, None, Result, Ok, Err}
use Rattle.std.specs.Str.{bytes_eq}
use Rattle.ink_base.specs.Lines.{Word, Line, lines_of}
use Rattle.ink_base.specs.Tokens.{Entry}
use Rattle.ink_base.specs.Gives.{◌>>◌, at_line}
use Rattle.ink_base.specs.declared.fault.Cause.TheVariants.{BadSection}
use Rattle.ink_base.specs.declared.fault.JobFault.{JobFault}
use Rattle.ink_text.specs.Section.{is_header, header_end}
use Rattle.job_parts.specs.Job.{JobParts}
use Rattle.power_trace.specs.declared.tails.Tails.{Tails}
use Rattle.power_trace.specs.Tails.{allows}
use Rattle.power_trace.specs.Parse.{whole_at}
use Rattle.ink_image.specs.declared.form.Form.{Form}
use Rattle.ink_image.specs.Reading.{section_entries}
use Rattle.ink_image.specs.Form.{form_of}
use Rattle.ink_image.specs.Whole.{IsJobAt}

-- where the line of this number ends: behind its line feed, or with the text
abbrev pub line_end : (text : List ℕ) → (number : ℕ) → ℕ
line_end text zero = 0
line_end [] (suc number) = 0
line_end (b ∷ bytes) (suc number) = 1 + line_end bytes (if b == 10 then number else suc number)

-- the line begins with the header of a claim
abbrev pub is_claim : List Word → Bool
is_claim [] = false
is_claim (w ∷ ws) = bytes_eq w (codes "[claim]")

-- the number of the first such line
abbrev pub claim_line : List Line → Option ℕ
claim_line [] = None
claim_line (line ∷ lines) = if is_claim line.words then Some line.number else claim_line lines

-- a text up to the end of a line, or all of it
abbrev pub up_to_line : (text : List ℕ) → Option ℕ → List ℕ
up_to_line text None = text
up_to_line text (Some number) = take (line_end text number) text

-- The bytes that are judged: all, unless a claim may follow. The bytes of a claim are free, so the text then ends with the line of its header.
abbrev pub judged_text : Tails → List ℕ → List ℕ
judged_text tails text = if tails.claim then up_to_line text (claim_line (lines_of text)) else text

-- the sections that may stand last, behind an image too: all but the images
abbrev pub last_tails : Tails → Tails
last_tails tails = record tails { image1 = false; image2 = false }

-- the line is the header of a section that may stand last
abbrev pub is_last : Tails → List Word → Bool
is_last tails [] = false
is_last tails (w ∷ ws) = allows (last_tails tails) w

-- the number of a header's line, in which the header has to stand alone
abbrev pub header_alone : (number : ℕ) → List Word → Result (Option ℕ) JobFault
header_alone number words = at_line number (header_end words) >> (λ alone. Ok (Some number))

-- The number of the line of the last section's header, among those behind the header of an image. Another header is refused.
unfoldable pub last_line : Tails → List Line → Result (Option ℕ) JobFault
last_line tails [] = Ok None
last_line tails (line ∷ lines) =
    if is_last tails line.words then header_alone line.number line.words
    else (if is_header line.words then Err (record { line = line.number; cause = BadSection }) else last_line tails lines)

-- the offset of the first byte behind the header's line
abbrev pub behind_line : (text : List ℕ) → Option ℕ → Option ℕ
behind_line text None = None
behind_line text (Some number) = Some (line_end text number)

-- a job, or a fault, by itself, with the offset at which the last section's bytes begin
abbrev pub WithLast : Option ℕ → (Result JobParts JobFault → Type 0) → Result (JobParts × Option ℕ) JobFault → Type 0
WithLast last P (Ok x) = P (Ok x.0) × (x.1 ≡ last)
WithLast last P (Err fault) = P (Err fault)

-- what a section of an image makes of the job before it, once the header behind it is judged
abbrev pub IsJudgedBefore : (text : List ℕ) → Result (Option ℕ) JobFault → JobParts → Form → (header : ℕ) → List Entry → Result (JobParts × Option ℕ) JobFault → Type 0
IsJudgedBefore text (Err fault) job form header section answer = answer ≡ Err fault
IsJudgedBefore text (Ok last) job form header section answer = WithLast (behind_line text last) (IsJobAt job form header section) answer

-- the header behind the charges is that of the last section, or that of an image
abbrev pub IsMadeBehind : Bool → Tails → (text : List ℕ) → JobParts → Line → List Line → Result (JobParts × Option ℕ) JobFault → Type 0
IsMadeBehind true tails text job header lines answer = answer ≡ Ok (job, Some (line_end text header.number))
IsMadeBehind false tails text job header lines answer =
    IsJudgedBefore text (last_line tails lines) job (form_of header.words) header.number (section_entries lines) answer

-- what is left of a text behind its charges makes this of the job before it
abbrev pub IsMadeBefore : Tails → (text : List ℕ) → JobParts → List Line → Result (JobParts × Option ℕ) JobFault → Type 0
IsMadeBefore tails text job [] answer = answer ≡ Ok (job, None)
IsMadeBefore tails text job (header ∷ lines) answer = IsMadeBehind (is_last tails header.words) tails text job header lines answer

-- the same where the text up to there may have had a fault
abbrev pub IsBefore : Tails → (text : List ℕ) → Result (JobParts × List Line) JobFault → Result (JobParts × Option ℕ) JobFault → Type 0
IsBefore tails text (Err fault) answer = answer ≡ Err fault
IsBefore tails text (Ok x) answer = IsMadeBefore tails text x.0 x.1 answer

-- The text has this job before its last section, whose bytes begin at this offset, or this first fault.
abbrev pub IsJobBefore : Tails → List ℕ → Result (JobParts × Option ℕ) JobFault → Type 0
IsJobBefore tails text answer = IsBefore tails (judged_text tails text) (whole_at tails (judged_text tails text)) answer

-- the job, or the fault, by itself
abbrev pub by_itself : Result (JobParts × Option ℕ) JobFault → Result JobParts JobFault
by_itself (Ok x) = Ok x.0
by_itself (Err fault) = Err fault
