-- What each status tells.
use Rattle.std.specs.Prelude.{◌≡◌, ℕ, ◌≤◌, ◌⊎◌, List, length, Ok, Err, Option, Some, None}
use Rattle.ink_base.specs.declared.limits.TheConstants as limits
use Rattle.ink_base.specs.Lines.{Word}
use Rattle.ink_base.specs.declared.status.Status.{Status}
use Rattle.ink_base.specs.declared.status.Status.TheVariants.{Done, Usage, Refused, ReadFault, WriteFault, NoMemory, TooLong}
use Rattle.ink_io.specs.declared.answers.ReadAnswer.TheVariants as reading
use Rattle.ink_io.specs.Counts.{Rose}
use Rattle.ink_io.specs.States.{SourceState, SinkState}
use Rattle.ink_io.specs.Whole.{GaveText, StopsRead, WroteText, WrotePart}
use Rattle.ink_modes.specs.declared.command.Command.{Command}
use Rattle.ink_modes.specs.declared.given.Given.{Given}
use Rattle.ink_modes.specs.declared.finish.Record.{Record}
use Rattle.ink_modes.specs.declared.modes.Mode.{Mode}
use Rattle.ink_modes.specs.modes.{form_of}
use Rattle.ink_modes.specs.Words.{IsCommand}
use Rattle.ink_modes.specs.Made.{OfText, Makes}

-- why a text gave nothing to a mode: it refuses the text with this fault, or memory is refused
abbrev pub StopsText : Mode → List ℕ → Status → Type 0
StopsText mode text (Refused fault) = (form_of mode).gives text (Err fault)
StopsText mode text NoMemory = Unit {0}
StopsText mode text _ = ⊥

-- Why a command that reads its job stopped before its text was made. Memory may be refused while the job is read, or behind that.
abbrev pub StopsReading : Mode → SourceState → SourceState → Status → Type 0
StopsReading mode before now ReadFault = StopsRead before now reading.ReadFault
StopsReading mode before now TooLong = StopsRead before now reading.TooLong
StopsReading mode before now (Refused fault) = OfText before now (λ text. (form_of mode).gives text (Err fault))
StopsReading mode before now NoMemory = StopsRead before now reading.NoMemory ⊎ ((text : List ℕ) × GaveText before now text)
StopsReading mode before now _ = ⊥

-- why a command stopped before its text was made; one with a seed reads nothing, and has memory alone to want
abbrev pub Stops : Mode → Option ℕ → SourceState → SourceState → Status → Type 0
Stops mode (Some number) before now status = (status ≡ NoMemory) × (now ≡ before)
Stops mode None before now status = StopsReading mode before now status

-- what became of the text
abbrev pub Wrote : SinkState → SinkState → List ℕ → Status → Type 0
Wrote before now text Done = WroteText before now text
Wrote before now text WriteFault = WrotePart before now text
Wrote before now text _ = ⊥

-- What a command tells by its status and by what it kept. Where it kept nothing, it made and wrote nothing.
abbrev pub TellsCommand : Command → (before now : SourceState) → (sink sink_now : SinkState) → Status → Option Record → Type 0
TellsCommand command before now sink sink_now status None = Stops command.mode command.flags.seed before now status × (sink_now ≡ sink)
TellsCommand command before now sink sink_now status (Some made) =
    (text : List ℕ) × Makes command before now made text × Wrote sink sink_now text status

-- Words that are no command do nothing at all.
abbrev pub DoesNothing : (before now : SourceState) → (sink sink_now : SinkState) → Status → Option Record → Type 0
DoesNothing before now sink sink_now status kept = (status ≡ Usage) × (kept ≡ None) × (now ≡ before) × (sink_now ≡ sink)

-- What a call tells, by the command that its words are, if they are one.
pub record Tells (words : List Word) (before now : SourceState) (sink sink_now : SinkState) (status : Status) (kept : Option Record) : Type 0 where
  pub command : (command : Command) → IsCommand words command → TellsCommand command before now sink sink_now status kept
  pub usage : ((command : Command) → ¬ IsCommand words command) → DoesNothing before now sink sink_now status kept

-- the source has a text that gives the mode its job, with all that it reads behind it, and tells it
abbrev pub HasJob : Mode → SourceState → Type 0
HasJob mode source = (text : List ℕ) × (source.left ≡ Some text) × (length text ≤ limits.TEXT_BYTES) × ((given : Given) × (form_of mode).gives text (Ok given))

-- what a command needs of its source: nothing, where it has a seed
abbrev pub Needs : Mode → Option ℕ → SourceState → Type 0
Needs mode (Some number) source = Unit {0}
Needs mode None source = HasJob mode source

-- Words that are a command are done, unless memory is wanted, where the source has what the command needs and no read or write failed.
abbrev pub IsComplete : List Word → (before now : SourceState) → (sink sink_now : SinkState) → Status → Type 0
IsComplete words before now sink sink_now status =
    (command : Command) → IsCommand words command → Needs command.mode command.flags.seed before → ¬ Rose before.faults now.faults → ¬ Rose sink.faults sink_now.faults →
    (status ≡ Done) ⊎ (status ≡ NoMemory)
