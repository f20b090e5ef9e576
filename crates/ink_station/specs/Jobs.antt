-- The jobs of a station's text, or its first fault.
use Rattle.std.specs.Prelude.{◌≡◌, ℕ, ◌+◌, ◌<◌, List, [], ◌∷◌, length, take, slice_index_or, Result, Ok, Err, nat_lt, if◌then◌else◌}
use Rattle.std.specs.List.{AllZip}
use Rattle.ink_base.specs.declared.limits.TheConstants as limits
use Rattle.ink_base.specs.declared.fault.Cause.TheVariants.{OverLimit}
use Rattle.ink_base.specs.declared.fault.JobFault.{JobFault}
use Rattle.ink_base.specs.declared.fault.JobAnswer.{JobAnswer}
use Rattle.ink_base.specs.declared.fault.JobAnswer.TheVariants as answers
use Rattle.ink_base.specs.Gives.{◌>>◌}
use Rattle.job_parts.specs.Job.{JobParts, item_turns}
use Rattle.job_parts.specs.declared.charge.Charge.{Charge}
use Rattle.power_trace.specs.Parse.{parts_at}
use Rattle.ink_image.specs.Whole.{image_tails, IsJobOf}
use Rattle.ink_station.specs.declared.parts.Part.{Part}
use Rattle.ink_station.specs.Parts.{parts_of, job_text}

-- the part has this job, or this first fault
abbrev pub HasJob : List ℕ → Part → Result JobParts JobFault → Type 0
HasJob text part answer = IsJobOf (job_text text part) answer

-- each of the parts has its job
abbrev pub HaveJobs : List ℕ → List Part → List JobParts → Type 0
HaveJobs text parts jobs = AllZip (λ part job. HasJob text part (Ok job)) parts jobs

-- one of the parts has this fault, and each of those before it has its job
pub record FailsFirst (text : List ℕ) (parts : List Part) (fault : JobFault) : Type 0 where
  pub n : ℕ
  pub known : n < length parts
  pub jobs : List JobParts
  pub before : HaveJobs text (take n parts) jobs
  pub fails : (d : Part) → HasJob text (slice_index_or parts n d) (Err fault)

-- all jobs, or the first fault of one
abbrev pub AreJobsOf : List ℕ → List Part → Result (List JobParts) JobFault → Type 0
AreJobsOf text parts (Ok jobs) = HaveJobs text parts jobs
AreJobsOf text parts (Err fault) = FailsFirst text parts fault

-- the turns behind these charges, of so many before them; the first charge with which they are too many is at fault, at its line
abbrev pub turns_behind : (turns : ℕ) → List Charge → (lines : List ℕ) → Result ℕ JobFault
turns_behind turns [] lines = Ok turns
turns_behind turns (charge ∷ charges) [] = Ok turns
turns_behind turns (charge ∷ charges) (line ∷ lines) =
    if nat_lt limits.TURNS (turns + item_turns charge.items) then Err (record { line = line; cause = OverLimit }) else turns_behind (turns + item_turns charge.items) charges lines

-- the same by the text of a job
abbrev pub turns_in : (turns : ℕ) → List ℕ → Result ℕ JobFault
turns_in turns text = parts_at image_tails text >> (λ x. turns_behind turns x.0.job.charges x.0.charge_lines)

-- and by the parts of a text, one after another
abbrev pub turns_of : (turns : ℕ) → List ℕ → List Part → Result ℕ JobFault
turns_of turns text [] = Ok turns
turns_of turns text (part ∷ parts) = turns_in turns (job_text text part) >> (λ more. turns_of more text parts)

-- What parts give: the jobs, where they have no fault and their turns together aren't too many.
abbrev pub PartsGive : List ℕ → List Part → Result (List JobParts) JobFault → Type 0
PartsGive text parts answer = (jobs : Result (List JobParts) JobFault) × AreJobsOf text parts jobs × (answer ≡ (jobs >> (λ all. turns_of 0 text parts >> (λ turns. Ok all))))

-- the same behind the faults of bytes and headers
abbrev pub Gives : List ℕ → Result (List Part) JobFault → Result (List JobParts) JobFault → Type 0
Gives text (Err fault) answer = answer ≡ Err fault
Gives text (Ok parts) answer = PartsGive text parts answer

-- The text of a station has these jobs, or this first fault.
abbrev pub IsStation : List ℕ → Result (List JobParts) JobFault → Type 0
IsStation text answer = Gives text (parts_of text) answer

-- what the code returned, seen by view, is one of these answers, unless memory ran out
abbrev pub Answers : {X Y : Type 0} → (X → Y) → (Result Y JobFault → Type 0) → Result X JobAnswer → Type 0
Answers view P (Ok x) = P (Ok (view x))
Answers view P (Err (answers.Fault fault)) = P (Err fault)
Answers view P (Err answers.NoMemory) = Unit {0}
