-- What the reading of a whole job and the writing of a whole text tell.
use Rattle.std.specs.Prelude.{◌≡◌, ℕ, ◌+◌, ◌≤◌, ◌<◌, List, length, take}
use Rattle.std.specs.Io.KnownBytes.{Appends, Consumes, IsAtEnd}
use Rattle.ink_base.specs.declared.limits.TheConstants as limits
use Rattle.ink_io.specs.declared.answers.ReadAnswer.{ReadAnswer}
use Rattle.ink_io.specs.declared.answers.ReadAnswer.TheVariants.{ReadFault, TooLong, NoMemory}
use Rattle.ink_io.specs.Counts.{Rose}
use Rattle.ink_io.specs.States.{SourceState, SinkState}

-- the text was read to the end of the source, without a fault; each successful read but the last took at least one byte of it
pub record GaveText (before now : SourceState) (text : List ℕ) : Type 0 where
  pub bytes : Consumes before.left now.left text
  pub end : IsAtEnd now.left
  pub short : length text ≤ limits.TEXT_BYTES
  pub clean : now.faults ≡ before.faults
  pub reads : now.reads ≤ before.reads + length text + 1

-- these bytes were taken, and each successful read took at least one of them
pub record Took (before now : SourceState) (bytes : List ℕ) : Type 0 where
  pub taken : Consumes before.left now.left bytes
  pub reads : now.reads ≤ before.reads + length bytes

-- so many bytes were taken
abbrev pub TookCount : SourceState → SourceState → ℕ → Type 0
TookCount before now n = (bytes : List ℕ) × Took before now bytes × (length bytes ≡ n)

-- at most so many bytes were taken
abbrev pub TookAtMost : SourceState → SourceState → ℕ → Type 0
TookAtMost before now n = (bytes : List ℕ) × Took before now bytes × (length bytes ≤ n)

-- Why a job wasn't read: a call failed, before more bytes were taken than a job may have; or one byte more than that was taken; or memory
-- was refused.
abbrev pub StopsRead : SourceState → SourceState → ReadAnswer → Type 0
StopsRead before now ReadFault = Rose before.faults now.faults × TookAtMost before now limits.TEXT_BYTES
StopsRead before now TooLong = (now.faults ≡ before.faults) × TookCount before now (limits.TEXT_BYTES + 1)
StopsRead before now NoMemory = (now.faults ≡ before.faults) × TookAtMost before now (limits.TEXT_BYTES + 1)

-- the whole text was appended, and no call failed
abbrev pub WroteText : SinkState → SinkState → List ℕ → Type 0
WroteText before now text = (now.faults ≡ before.faults) × Appends before.held now.held text

-- a call failed, and a part of the text from its beginning was appended, and not the whole
abbrev pub WrotePart : SinkState → SinkState → List ℕ → Type 0
WrotePart before now text = Rose before.faults now.faults × ((n : ℕ) × (n < length text) × Appends before.held now.held (take n text))
