-- What single words hold: the word of a value, and the value of a word.
use Rattle.std.specs.Prelude.{ℕ, ◌+◌, ◌-◌, ◌*◌, ◌/◌, ◌%◌, ◌^◌, ◌<◌, ◌==◌, if◌then◌else◌, Option, Some, None}
use Rattle.ink_base.specs.declared.ids.TaskId.{TaskId}
use Rattle.ink_base.specs.declared.ids.ThreadId.{ThreadId}
use Rattle.ink_base.specs.declared.event.Origin.{Origin}
use Rattle.ink_base.specs.declared.event.Origin.TheVariants.{Source, Pipe, Timer}
use Rattle.ink_base.specs.declared.output.Output.{Output}
use Rattle.fram_words.specs.declared.held.Src.{Src}

-- 0 for idle, else 1 plus the task that the chain goes on with
abbrev pub next_word : Option TaskId → ℕ
next_word None = 0
next_word (Some task) = task.0 + 1

-- the next task of a running chain, none where the thread is idle
abbrev pub running_of : (word : ℕ) → Option TaskId
running_of word = if word == 0 then None else Some (record { 0 = word - 1 })

-- the kind of an origin in bits 56 up, and below it its numbers
abbrev pub origin_word : Origin → ℕ
origin_word (Source source count) = 1 * 2 ^ 56 + source.0 * 2 ^ 16 + count
origin_word (Pipe pipe item) = 2 * 2 ^ 56 + pipe.0 * 2 ^ 32 + item
origin_word (Timer timer deadline) = 3 * 2 ^ 56 + timer.0 * 2 ^ 48 + deadline

-- the origin in a word: its kind in bits 56 up
abbrev pub origin_of : (word : ℕ) → Origin
origin_of word =
    if word / 2 ^ 56 == 1 then Source (record { 0 = word / 2 ^ 16 % 2 ^ 8 }) (word % 2 ^ 8)
    else (if word / 2 ^ 56 == 2 then Pipe (record { 0 = word / 2 ^ 32 % 2 ^ 8 }) (word % 2 ^ 32)
    else Timer (record { 0 = word / 2 ^ 48 % 2 ^ 8 }) (word % 2 ^ 48))

-- a timer's deadline has 48 bits; the other numbers of an origin fit by their types
abbrev pub FitsOrigin : Origin → Type 0
FitsOrigin (Source source count) = Unit {0}
FitsOrigin (Pipe pipe item) = Unit {0}
FitsOrigin (Timer timer deadline) = deadline < 2 ^ 48

-- the numbers of an origin have the bits that its word gives them
abbrev pub HasOriginBits : Origin → Type 0
HasOriginBits (Source source count) = (source.0 < 2 ^ 8) × (count < 2 ^ 8)
HasOriginBits (Pipe pipe item) = (pipe.0 < 2 ^ 8) × (item < 2 ^ 32)
HasOriginBits (Timer timer deadline) = (timer.0 < 2 ^ 8) × (deadline < 2 ^ 48)

-- 0 for off, else the tick at which a timer is due, plus 1
abbrev pub due_word : Option ℕ → ℕ
due_word None = 0
due_word (Some due) = due + 1

-- the tick at which a timer with this word is due
abbrev pub due_of : (word : ℕ) → Option ℕ
due_of word = if word == 0 then None else Some (word - 1)

-- the stamp of an output in bits 32 up, its value below
abbrev pub output_word : Output → ℕ
output_word o = o.stamp * 2 ^ 32 + o.value

-- the output in a word of a thread's log
abbrev pub output_of : ThreadId → (word : ℕ) → Output
output_of thread word = record { stamp = word / 2 ^ 32; thread = thread; value = word % 2 ^ 32 }

-- stamp and value of an output have 32 bits each
pub record HasOutputBits (o : Output) : Type 0 where
  pub stamp : o.stamp < 2 ^ 32
  pub value : o.value < 2 ^ 32

-- SRC: the next reading in bits 32 to 63, the accepted number in 0 to 31
abbrev pub src_word : ℕ → ℕ → ℕ
src_word accepted next = next * 2 ^ 32 + accepted

-- the numbers in a SRC
abbrev pub src_of : (word : ℕ) → Src
src_of word = record { accepted = word % 2 ^ 32; next = word / 2 ^ 32 }
