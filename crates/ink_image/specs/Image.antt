-- What the section of an image tells: where a run begins, or why none begins there.
use Rattle.std.specs.Prelude.{◌≡◌, ℕ, List, Result, Ok, Err}
use Rattle.ink_base.specs.Tokens.{Entry}
use Rattle.task_isa.specs.declared.program.Program.{Program}
use Rattle.fram_words.specs.Places.{Place}
use Rattle.fram_words.specs.Shape.{address}
use Rattle.ink_layout.specs.Shape.{shape_of, IsOnBoard}
use Rattle.never_cut.specs.Image.{IsImage}
use Rattle.never_cut.specs.ReadOff.{IsReadOff}
use Rattle.never_cut.specs.Stands.{Stands}
use Rattle.never_cut.specs.Worn.{IsWorn}
use Rattle.job_parts.specs.declared.start.Start.{Start}
use Rattle.job_parts.specs.Job.{words_in}
use Rattle.ink_image.specs.declared.form.Form.{Form}
use Rattle.ink_image.specs.declared.image.ImageAnswer.{ImageAnswer}
use Rattle.ink_image.specs.declared.image.ImageAnswer.TheVariants.{BadWord, WrongShape, NotStanding, Worn, NoMemory}
use Rattle.ink_image.specs.declared.reading.WordsAnswer.{WordsAnswer}
use Rattle.ink_image.specs.declared.reading.WordsAnswer.TheVariants as reading
use Rattle.ink_image.specs.Reading.{read}
use Rattle.ink_image.specs.Form.{memory_in, HasWords, IsImageIn, FailsFirst, IsWornIn, AreToday}

-- the first check that fails names the word of this address
pub record NamesFailing (form : Form) (program : Program) (words : List ℕ) (addr : ℕ) : Type 0 where
  pub count : HasWords program words
  pub place : Place
  pub on_board : IsOnBoard program place
  pub failing : FailsFirst form program (memory_in program words) place
  pub stands_at : addr ≡ address (shape_of program) place

-- the words are an image, but a worn one
pub record IsWornOut (form : Form) (program : Program) (listed words : List ℕ) : Type 0 where
  pub count : HasWords program words
  pub image : IsImageIn form program (memory_in program words)
  pub worn : IsWornIn form program listed (memory_in program words)

-- The words are an image that isn't worn. The start has these words in today's form, as many as the board has, and the state that is read off them.
pub record GivesStart (form : Form) (program : Program) (listed words : List ℕ) (start : Start) : Type 0 where
  pub count : HasWords program words
  pub count_today : HasWords program start.words
  pub image : IsImageIn form program (memory_in program words)
  pub fresh : ¬ IsWornIn form program listed (memory_in program words)
  pub today : AreToday form program words start.words
  pub read : IsReadOff program (words_in program start) start.model

-- What is answered of words, in the order in which they are judged: that they are too few or too many, that a check fails, that they are worn, or a start.
abbrev pub Judges : Form → Program → (listed words : List ℕ) → Result Start ImageAnswer → Type 0
Judges form program listed words (Err WrongShape) = ¬ HasWords program words
Judges form program listed words (Err (NotStanding addr)) = NamesFailing form program words addr
Judges form program listed words (Err Worn) = IsWornOut form program listed words
Judges form program listed words (Ok start) = GivesStart form program listed words start
Judges form program listed words (Err (BadWord line)) = ⊥
Judges form program listed words (Err NoMemory) = ⊥

-- before that a word is refused that isn't one
abbrev pub JudgesRead : Form → Program → (listed : List ℕ) → Result (List ℕ) ℕ → Result Start ImageAnswer → Type 0
JudgesRead form program listed (Err line) answer = answer ≡ Err (BadWord line)
JudgesRead form program listed (Ok words) answer = Judges form program listed words answer

-- what is answered of the words of a section
abbrev pub JudgesSection : Form → Program → (listed : List ℕ) → List Entry → Result Start ImageAnswer → Type 0
JudgesSection form program listed section answer = JudgesRead form program listed (read section) answer

-- the code's answer is one of these, unless memory ran out
abbrev pub UnlessMemory : (Result Start ImageAnswer → Type 0) → Result Start ImageAnswer → Type 0
UnlessMemory P (Err NoMemory) = Unit {0}
UnlessMemory P answer = P answer

-- the answer where words weren't read
abbrev pub answer_of : WordsAnswer → ImageAnswer
answer_of (reading.BadWord line) = BadWord line
answer_of reading.NoMemory = NoMemory

-- A run can begin at the start: its words are an image in today's form, not worn with so many readings listed, and stand for its state, which is read off them.
pub record IsReady (program : Program) (listed : List ℕ) (start : Start) : Type 0 where
  pub count : HasWords program start.words
  pub image : IsImage program (words_in program start)
  pub fresh : ¬ IsWorn program listed (words_in program start)
  pub read : IsReadOff program (words_in program start) start.model
  pub stands : Stands (words_in program start) program start.model
