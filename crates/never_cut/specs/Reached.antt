-- What is known of the states that legal journals reach.
use Rattle.std.specs.Prelude.{ℕ, ◌+◌, ◌-◌, ◌^◌, ◌<◌, ◌≤◌, List, length}
use Rattle.ink_base.specs.declared.entry.Entry.{Entry}
use Rattle.task_isa.specs.declared.program.Program.{Program}
use Rattle.push_core.specs.Table.{greatest_tail}
use Rattle.push_core.specs.Queue.{published}
use Rattle.prog_check.specs.Accepted.{IsAccepted}
use Rattle.never_cut.specs.declared.model.Model.{Model}
use Rattle.never_cut.specs.State.{thread_of, queue_of}
use Rattle.never_cut.specs.Entries.{Readings, Legal, effect}
use Rattle.never_cut.specs.Journal.{after, IsLegal}
use Rattle.never_cut.specs.Sound.{IsSound}
use Rattle.never_cut.specs.kept.Actors.{IsOther, Follows}
use Rattle.never_cut.specs.Within.{AreReadings, AreShort, HasRoom, Lasts}
use Rattle.never_cut.specs.Laws.{ReadingsInOrder, EachEventOnce, StatesByCommits, StampsByCommits}
use Rattle.never_cut.specs.Start.{CanStart}

-- from a sound state a legal journal leads to sound ones
abbrev pub EveryStateSound : Type 0
EveryStateSound =
    (program : Program) (readings : Readings) (first : Model) (journal : List Entry) → IsAccepted program → AreShort readings → IsSound program readings first →
    IsLegal program readings first journal → IsSound program readings (after program readings first journal)

-- a legal entry keeps a state sound
abbrev pub EveryEntryKeeps : Type 0
EveryEntryKeeps =
    (program : Program) (readings : Readings) (m : Model) (e : Entry) → IsAccepted program → AreShort readings → IsSound program readings m →
    Legal program readings m e → IsSound program readings (effect program readings m e)

-- the positions of a sound state's queues are at most the greatest tail
abbrev pub EveryPositionFits : Type 0
EveryPositionFits =
    (program : Program) (readings : Readings) (m : Model) (t : ℕ) → IsSound program readings m → t < length program.threads → published (queue_of (thread_of m t)) ≤ greatest_tail

-- after a legal journal of fewer than 2^32 entries, from a state at which a run can begin, there is room for one more
abbrev pub EveryStateHasRoom : Type 0
EveryStateHasRoom =
    (program : Program) (readings : Readings) (first : Model) (journal : List Entry) → IsAccepted program → AreReadings program readings → CanStart program readings first →
    IsLegal program readings first journal → length journal < 2 ^ 32 → HasRoom program (after program readings first journal)

-- where the counts have room for a legal journal and for as many entries as 32 bits count behind it, a run can begin at the state after it
abbrev pub EveryStateStarts : Type 0
EveryStateStarts =
    (program : Program) (readings : Readings) (first : Model) (journal : List Entry) → IsAccepted program → AreShort readings → IsSound program readings first →
    Lasts (2 ^ 32 - 1 + length journal) first → IsLegal program readings first journal → CanStart program readings (after program readings first journal)

-- each reading is settled once and in order; each event of a queue is finished once and in order, or is still held; a thread's state is what its own
-- commits made of it; each output is stamped with the number of a commit of its thread
pub record JournalTells (program : Program) (readings : Readings) (first : Model) (journal : List Entry) : Type 0 where
  pub in_order : ReadingsInOrder program readings first journal
  pub each_once : EachEventOnce program readings first journal
  pub states : StatesByCommits program readings first journal
  pub stamps : StampsByCommits program readings first journal

-- every legal journal from a state at which a run can begin tells so
abbrev pub EveryJournalTells : Type 0
EveryJournalTells =
    (program : Program) (readings : Readings) (first : Model) (journal : List Entry) → CanStart program readings first → IsLegal program readings first journal →
    JournalTells program readings first journal

-- a legal push, refusal, skip or tick changes nothing of the state but what the kernel leaves to sources and clock
abbrev pub EveryOtherFollows : Type 0
EveryOtherFollows =
    (program : Program) (readings : Readings) (m : Model) (e : Entry) → IsAccepted program → IsSound program readings m → IsOther e →
    Legal program readings m e → Follows m (effect program readings m e)
