-- The two forms of an image's words.
use Rattle.std.specs.Prelude.{◌≡◌, ℕ, if◌then◌else◌, List, [], ◌∷◌, length, codes}
use Rattle.std.specs.Str.{bytes_eq}
use Rattle.ink_base.specs.Lines.{Word}
use Rattle.task_isa.specs.declared.program.Program.{Program}
use Rattle.fram_words.specs.Places.{Memory, Place}
use Rattle.fram_words.specs.Shape.{memory_of}
use Rattle.ink_layout.specs.Shape.{shape_of, words_of}
use Rattle.never_cut.specs.Image.{IsImage}
use Rattle.never_cut.specs.Worn.{IsWorn}
use Rattle.image_checks.specs.Failing.{IsFirstFailing}
use Rattle.old_image.specs.Image.{IsOldImage}
use Rattle.old_image.specs.Worn.{IsOldWorn}
use Rattle.old_image.specs.Failing.{IsFirstFailingOld}
use Rattle.old_image.specs.Renewed.{IsRenewed}
use Rattle.ink_image.specs.declared.form.Form.{Form}
use Rattle.ink_image.specs.declared.form.Form.TheVariants.{Earlier, Today}

-- the form of the words behind a header
abbrev pub form_named : Word → Form
form_named header = if bytes_eq header (codes "[image1]") then Earlier else Today

-- the header is the first word of its line
abbrev pub form_of : List Word → Form
form_of [] = Today
form_of (header ∷ rest) = form_named header

-- words of the program's board, by place
abbrev pub memory_in : Program → List ℕ → Memory
memory_in program words = memory_of (shape_of program) words

-- as many words as the program's board has
abbrev pub HasWords : Program → List ℕ → Type 0
HasWords program words = length words ≡ words_of (shape_of program)

-- the words of this form are an image of the program
abbrev pub IsImageIn : Form → Program → Memory → Type 0
IsImageIn Today program words = IsImage program words
IsImageIn Earlier program words = IsOldImage program words

-- the first check of an image that fails names this place
abbrev pub FailsFirst : Form → Program → Memory → Place → Type 0
FailsFirst Today program words place = IsFirstFailing program words place
FailsFirst Earlier program words place = IsFirstFailingOld program words place

-- the image is worn, with so many readings listed for each source
abbrev pub IsWornIn : Form → Program → (listed : List ℕ) → Memory → Type 0
IsWornIn Today program listed words = IsWorn program listed words
IsWornIn Earlier program listed words = IsOldWorn program listed words

-- these are the words in today's form
abbrev pub AreToday : Form → Program → (said words : List ℕ) → Type 0
AreToday Today program said words = words ≡ said
AreToday Earlier program said words = IsRenewed program (memory_in program said) (memory_in program words)

-- They are today's words of an image: an image too, which isn't worn where the other one isn't.
pub record IsToday (form : Form) (program : Program) (said words : List ℕ) : Type 0 where
  pub count : HasWords program words
  pub today : AreToday form program said words
  pub image : IsImage program (memory_in program words)
  pub fresh : (listed : List ℕ) → ¬ IsWornIn form program listed (memory_in program said) → ¬ IsWorn program listed (memory_in program words)
