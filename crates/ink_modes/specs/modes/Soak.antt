-- `soak`: the board of the job that is generated from the seed is run, and the text of the run is written without its outputs.
use Rattle.std.specs.Prelude.{true, false, codes}
use Rattle.ink_image.specs.Whole.{IsJobOf}
use Rattle.ink_modes.specs.Given.{Alone}
use Rattle.ink_modes.specs.Form.{ModeForm}
use Rattle.ink_modes.specs.modes.Run.{Makes, text}

-- it has a seed, and may show the journal, JSON and the bounds of a charge
abbrev pub soak : ModeForm
soak = record {
  word = codes "soak";
  allowed = record { journal = true; json = true; bounds = true; image = false; seed = true };
  gives = λ text. Alone (IsJobOf text);
  makes = Makes;
  text = text;
}
