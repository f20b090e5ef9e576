-- What a job is made of, and what it keeps.
use Rattle.std.specs.Prelude.{◌≡◌, ℕ, ◌<◌, ◌≤◌, ◌^◌, List, length, sum_by, Option, Some, None}
use Rattle.std.specs.List.{All}
use Rattle.std.specs.Option.{ForSome}
use Rattle.ink_base.specs.declared.limits.TheConstants as limits
use Rattle.ink_base.specs.declared.actor.Actor.{Actor}
use Rattle.ink_base.specs.declared.actor.Actor.TheVariants.{Kernel, Source, Clock}
use Rattle.task_isa.specs.declared.program.Program.{Program}
use Rattle.prog_check.specs.Accepted.{IsAccepted}
use Rattle.fram_words.specs.Places.{Memory}
use Rattle.fram_words.specs.Shape.{memory_of}
use Rattle.ink_layout.specs.Image.{IsFirstImage}
use Rattle.ink_layout.specs.Shape.{shape_of, words_of}
use Rattle.never_cut.specs.declared.model.Model.{Model}
use Rattle.never_cut.specs.State.{open_model}
use Rattle.never_cut.specs.Image.{IsImage}
use Rattle.never_cut.specs.ReadOff.{IsReadOff}
use Rattle.never_cut.specs.Worn.{IsWorn}
use Rattle.never_cut.specs.Images.{AreListed}
use Rattle.job_parts.specs.declared.item.Item.{Item}
use Rattle.job_parts.specs.declared.charge.Charge.{Charge}
use Rattle.job_parts.specs.declared.start.Start.{Start}

-- a program, the readings of each source, the charges, and where the run begins if not at the first image of the program
pub record JobParts : Type 0 where
  pub program : Program
  pub readings : List (List ℕ)
  pub charges : List Charge
  pub start : Option Start

-- the readings of one source are within the limits
pub record AreReadings (values : List ℕ) : Type 0 where
  pub count : length values ≤ limits.READINGS
  pub below : All (λ value. value < 2 ^ 32) values

-- the actor is one of a board of so many sources
abbrev pub IsOnBoard : ℕ → Actor → Type 0
IsOnBoard sources Kernel = Unit {0}
IsOnBoard sources Clock = Unit {0}
IsOnBoard sources (Source source) = source.0 < sources

-- the charge names actors of a board of so many sources, and its ticks are within the limit
pub record IsRightCharge (sources : ℕ) (charge : Charge) : Type 0 where
  pub off : charge.off ≤ limits.TICKS
  pub actors : All (λ (item : Item). IsOnBoard sources item.actor) charge.items

-- the turns that items list
abbrev pub item_turns : List Item → ℕ
item_turns items = sum_by (λ (item : Item). item.count) items

-- the turns that all charges list
abbrev pub charge_turns : List Charge → ℕ
charge_turns charges = sum_by (λ (charge : Charge). item_turns charge.items) charges

-- the charges of a job are within the limits
pub record AreCharges (sources : ℕ) (charges : List Charge) : Type 0 where
  pub least : 1 ≤ length charges
  pub count : length charges ≤ limits.CHARGES
  pub right : All (IsRightCharge sources) charges
  pub turns : charge_turns charges ≤ limits.TURNS

-- the words of a start, by place
abbrev pub words_in : Program → Start → Memory
words_in program start = memory_of (shape_of program) start.words

-- The words are those of an image of the program, and the state is the one that is read off them. Each source has some readings listed behind those that
-- the state has settled, and with so many the image isn't worn.
pub record IsStart (program : Program) (readings : List (List ℕ)) (start : Start) : Type 0 where
  pub count : length start.words ≡ words_of (shape_of program)
  pub image : IsImage program (words_in program start)
  pub read : IsReadOff program (words_in program start) start.model
  pub listed : List ℕ
  pub are_listed : AreListed program listed start.model readings
  pub fresh : ¬ IsWorn program listed (words_in program start)

-- the state at which a run of the program begins: that of the start, else that of the first image
abbrev pub first_model : Program → Option Start → Model
first_model program None = open_model program
first_model program (Some start) = start.model

-- the state at which the run of a job begins
abbrev pub first_of : JobParts → Model
first_of job = first_model job.program job.start

-- the words with which a run of the program begins: those of the start, else those of the first image
abbrev pub AreFirstWords : Program → Option Start → List ℕ → Type 0
AreFirstWords program None words = IsFirstImage program words
AreFirstWords program (Some start) words = words ≡ start.words

-- A job: its program is accepted, each source has its list of readings, readings and charges are within the limits, and a run can begin at its start.
pub record IsJob (job : JobParts) : Type 0 where
  pub accepted : IsAccepted job.program
  pub sources : length job.readings ≡ length job.program.sources
  pub readings : All AreReadings job.readings
  pub charges : AreCharges (length job.program.sources) job.charges
  pub start : ForSome job.start (IsStart job.program job.readings)
