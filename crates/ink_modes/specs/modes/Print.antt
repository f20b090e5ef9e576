-- `print`: the canonical text of the program of the job on the source is written.
use Rattle.std.specs.Prelude.{◌≡◌, ℕ, false, List, [], codes}
use Rattle.program_text.specs.Print.{print_of}
use Rattle.ink_report.specs.declared.flags.Flags.{Flags}
use Rattle.ink_image.specs.Whole.{IsJobOf}
use Rattle.ink_modes.specs.declared.finish.Record.{Record}
use Rattle.ink_modes.specs.declared.finish.Record.TheVariants.{Print}
use Rattle.ink_modes.specs.declared.given.Given.{Given}
use Rattle.ink_modes.specs.declared.given.Given.TheVariants.{Job}
use Rattle.ink_modes.specs.Given.{Alone}
use Rattle.ink_modes.specs.Form.{ModeForm}

-- the job's program
abbrev pub Makes : Given → Record → Type 0
Makes (Job job) (Print program) = program ≡ job.program
Makes _ _ = ⊥

-- its canonical text
abbrev pub text : Flags → Given → Record → List ℕ
text flags given (Print program) = print_of program
text flags given _ = []

-- it has no flags
abbrev pub print : ModeForm
print = record {
  word = codes "print";
  allowed = record { journal = false; json = false; bounds = false; image = false; seed = false };
  gives = λ text. Alone (IsJobOf text);
  makes = Makes;
  text = text;
}
