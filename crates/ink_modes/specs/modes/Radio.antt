-- `radio`: the board of the job is run, the script behind it is played over the outputs of the run, and what the base has then is written.
use Rattle.std.specs.Prelude.{◌≡◌, ℕ, Bool, true, false, List, [], ◌∷◌, length, codes, Option, Result, Ok, if◌then◌else◌}
use Rattle.std.specs.Str.{bytes_eq}
use Rattle.ink_base.specs.Gives.{◌>>◌}
use Rattle.ink_base.specs.Lines.{Word, Line, lines, lines_of}
use Rattle.ink_base.specs.TokenLines.{with_words}
use Rattle.ink_base.specs.declared.fault.JobFault.{JobFault}
use Rattle.ink_base.specs.declared.output.Output.{Output}
use Rattle.job_parts.specs.Job.{JobParts}
use Rattle.power_trace.specs.declared.tails.Tails.{Tails}
use Rattle.kernel_core.specs.declared.run_record.RunRecord.{RunRecord}
use Rattle.ink_report.specs.declared.flags.Flags.{Flags}
use Rattle.ink_report.specs.Radio.{radio_text}
use Rattle.ink_image.specs.Whole.{image_tails}
use Rattle.ink_image.specs.Before.{IsJobBefore}
use Rattle.ink_radio.specs.declared.event.RadioEvent.{RadioEvent}
use Rattle.ink_radio.specs.declared.record.RadioRecord.{RadioRecord}
use Rattle.ink_radio.specs.Script.{script_in}
use Rattle.ink_radio.specs.Radio.{played, record_of}
use Rattle.ink_radio.specs.Keeps.{EveryPrefixKeeps}
use Rattle.ink_modes.specs.declared.given.Given.{Given}
use Rattle.ink_modes.specs.declared.given.Given.TheVariants.{Scripted}
use Rattle.ink_modes.specs.declared.finish.Record.{Record}
use Rattle.ink_modes.specs.declared.finish.Record.TheVariants.{Radio}
use Rattle.ink_modes.specs.Run.{IsRunOf, state_in}
use Rattle.ink_modes.specs.Form.{ModeForm}

-- a script may follow the charges, or an image
abbrev pub radio_tails : Tails
radio_tails = record image_tails { radio = true }

-- the line begins with the header of a script
abbrev pub is_radio : List Word → Bool
is_radio [] = false
is_radio (w ∷ ws) = bytes_eq w (codes "[radio]")

-- the lines from the first such line on
abbrev pub from_radio : List Line → List Line
from_radio [] = []
from_radio (line ∷ rest) = if is_radio line.words then line ∷ rest else from_radio rest

-- the script of a text, or its first fault
abbrev pub script_of : List ℕ → Result (List RadioEvent) JobFault
script_of text = script_in (length (lines text)) (from_radio (with_words (lines_of text)))

-- a job with a script
abbrev pub with_script : JobParts → List RadioEvent → Result Given JobFault
with_script job script = Ok (Scripted job script)

-- the job before the script and the script, or the first fault, all faults of the job first
abbrev pub Gives : List ℕ → Result Given JobFault → Type 0
Gives text answer =
    (before : Result (JobParts × Option ℕ) JobFault) × IsJobBefore radio_tails text before × (answer ≡ (before >> (λ x. script_of text >> with_script x.0)))

-- what a run put out
abbrev pub outputs_of : RunRecord → List Output
outputs_of r = (state_in r).outputs

-- The record of the job's run, and what the script made of its outputs. After every prefix of the script the base had a beginning of the outputs that had
-- grown, and the node counted no more as saved than were.
pub record IsRadioOf (job : JobParts) (script : List RadioEvent) (r : RunRecord) (told : RadioRecord) : Type 0 where
  pub run : IsRunOf job r
  pub played : told ≡ record_of (played (outputs_of r) script)
  pub keeps : EveryPrefixKeeps (outputs_of r) script

-- both records
abbrev pub Makes : Given → Record → Type 0
Makes (Scripted job script) (Radio r told) = IsRadioOf job script r told
Makes _ _ = ⊥

-- the outputs that the base has saved, and a line of numbers
abbrev pub text : Flags → Given → Record → List ℕ
text flags given (Radio r told) = radio_text r.job.program told
text flags given _ = []

-- it has no flags
abbrev pub radio : ModeForm
radio = record {
  word = codes "radio";
  allowed = record { journal = false; json = false; bounds = false; image = false; seed = false };
  gives = Gives;
  makes = Makes;
  text = text;
}
