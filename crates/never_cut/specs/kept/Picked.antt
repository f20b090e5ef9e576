-- What the pick of a scan tells of the state, when the service of its event begins.
use Rattle.std.specs.Prelude.{◌≡◌, ◌+◌, ◌<◌, true, length, Some, None}
use Rattle.std.specs.Option.{ForSome}
use Rattle.ink_base.specs.declared.event.Event.{Event}
use Rattle.ink_base.specs.declared.event.Origin.TheVariants as origins
use Rattle.task_isa.specs.declared.program.Program.{Program}
use Rattle.fram_words.specs.Places.{Memory, Commit}
use Rattle.prog_check.specs.Lookup.{thread_def}
use Rattle.ink_layout.specs.declared.pick.Pick.{Pick}
use Rattle.never_cut.specs.declared.model.Model.{Model}
use Rattle.never_cut.specs.declared.scan_model.ScanModel.{ScanModel}
use Rattle.never_cut.specs.State.{thread_of}
use Rattle.never_cut.specs.Pending.{pending}
use Rattle.never_cut.specs.Commit.{is_of_queue}
use Rattle.never_cut.specs.Entries.{IsCalm, ArePassed}
use Rattle.never_cut.specs.kept.Actors.{IsFirstHeld}

-- the words that tell how an event is consumed: as many items were taken as its number says, and a timer's word is its deadline plus 1
abbrev pub IsLoaded : Pick → Event → Type 0
IsLoaded pick e = elim e.origin [
  | origins.Source source count ↦ Unit {0}
  | origins.Pipe pipe item ↦ pick.taken ≡ item
  | origins.Timer timer deadline ↦ pick.due_word ≡ deadline + 1
]

-- The pick: the pending event of a thread; every thread of a higher priority was passed, and no thread has a finished event. Running task, position,
-- time and commit word are those of the state and the words; so is the time of a chain's first commit, where its thread expires, and of an event
-- whose service begins, how it is consumed.
pub record IsPicked (program : Program) (words : Memory) (m : Model) (pick : Pick) : Type 0 where
  pub known : pick.thread.0 < length program.threads
  pub calm : IsCalm program m
  pub scan : ScanModel
  pub scanned : m.scan ≡ Some scan
  pub time : pick.time ≡ scan.time
  pub passed : ArePassed program m scan pick.thread.0
  pub pending_is : pending program m pick.thread.0 ≡ Some pick.event
  pub held : is_of_queue pick.event ≡ true → IsFirstHeld m pick.thread.0 pick.event
  pub running : pick.running ≡ (thread_of m pick.thread.0).running
  pub position : pick.position ≡ (thread_of m pick.thread.0).released
  pub commit_word : pick.commit_word ≡ words (Commit pick.thread.0)
  pub first : ForSome pick.running (λ task. ForSome (thread_def program pick.thread.0).expires (λ ticks. pick.first ≡ (thread_of m pick.thread.0).first))
  pub loaded : pick.running ≡ None → IsLoaded pick pick.event
