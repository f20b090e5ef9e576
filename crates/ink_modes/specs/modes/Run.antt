-- `run`: the board of the job is run, and the text of the run is written, with the image that it leaves where that is asked for.
use Rattle.std.specs.Prelude.{ℕ, true, false, if◌then◌else◌, List, [], ◌++◌, codes}
use Rattle.kernel_core.specs.declared.run_record.RunRecord.{RunRecord}
use Rattle.ink_report.specs.declared.flags.Flags.{Flags}
use Rattle.ink_image.specs.Text.{image_text}
use Rattle.ink_image.specs.Whole.{IsJobOf}
use Rattle.ink_modes.specs.declared.finish.Record.{Record}
use Rattle.ink_modes.specs.declared.finish.Record.TheVariants.{Run}
use Rattle.ink_modes.specs.declared.given.Given.{Given}
use Rattle.ink_modes.specs.declared.given.Given.TheVariants.{Job}
use Rattle.ink_modes.specs.Given.{Alone}
use Rattle.ink_modes.specs.Form.{ModeForm}
use Rattle.ink_modes.specs.Run.{IsRunOf, run_text_of}

-- the record of the job's run
abbrev pub Makes : Given → Record → Type 0
Makes (Job job) (Run r) = IsRunOf job r
Makes _ _ = ⊥

-- the image of the words that the run left, where it is asked for
abbrev pub image_part : RunRecord → Flags → List ℕ
image_part r flags = if flags.image then image_text r.words else []

-- the text of the run, with what is shown besides, and the image behind it
abbrev pub text : Flags → Given → Record → List ℕ
text flags given (Run r) = run_text_of r flags ++ image_part r flags
text flags given _ = []

-- it may show the journal, JSON, the bounds of a charge and the image
abbrev pub run : ModeForm
run = record {
  word = codes "run";
  allowed = record { journal = true; json = true; bounds = true; image = true; seed = false };
  gives = λ text. Alone (IsJobOf text);
  makes = Makes;
  text = text;
}
