-- What the service of a pick costs: how many accesses the kernel makes from the access that picks, which isn't counted, to the store of the commit word,
-- which is.
use Rattle.std.specs.Prelude.{ℕ, zero, suc, ◌+◌, ◌*◌, ◌/◌, ◌==◌, nat_lt, Bool, if◌then◌else◌, List, [], ◌∷◌, ◌++◌, length, Some, None}
use Rattle.std.specs.List.{list_any}
use Rattle.ink_base.specs.declared.event.Event.{Event}
use Rattle.ink_base.specs.declared.event.Origin.{Origin}
use Rattle.ink_base.specs.declared.event.Origin.TheVariants as origins
use Rattle.fram_words.specs.Header as header
use Rattle.task_isa.specs.declared.instr.Instr.{Instr}
use Rattle.task_isa.specs.declared.outcome.Outcome.{Outcome}
use Rattle.task_isa.specs.declared.outcome.Outcome.TheVariants as outcomes
use Rattle.task_isa.specs.declared.act.Act.{Act}
use Rattle.task_isa.specs.declared.act.Act.TheVariants.{Loads, Saves, Puts, Sends, Arms, Stops}
use Rattle.task_isa.specs.declared.program.Program.{Program}
use Rattle.task_isa.specs.Acts.{Given, act_of}
use Rattle.task_isa.specs.Meaning.{Effects, Config, Room, GoesOn, IsOver, HasTrapped, has_room, execute, instr_at, first_config, given_of, room_of}
use Rattle.prog_check.specs.Lookup.{task_def}
use Rattle.never_cut.specs.declared.model.Model.{Model}
use Rattle.never_cut.specs.State.{thread_of, is_running}
use Rattle.never_cut.specs.Pending.{pending}
use Rattle.never_cut.specs.Commit.{is_of_queue, is_expired, task_at, start_at, end_at}

-- so many accesses, copies of pages aside, and the words of the thread's block that they write, in order
pub record Spent : Type 0 where
  pub accesses : ℕ
  pub writes : List ℕ

-- reads of words, and accesses beside the block
abbrev pub reads : ℕ → Spent
reads n = record { accesses = n; writes = [] }

-- one after the other
abbrev pub followed_by : Spent → Spent → Spent
followed_by x y = record { accesses = x.accesses + y.accesses; writes = x.writes ++ y.writes }

-- on how many pages these words lie, each page counted once, and none of those that were written before
abbrev pub pages_more : (written words : List ℕ) → ℕ
pages_more written [] = 0
pages_more written (w ∷ words) =
    if list_any (λ (page : ℕ). page == w / 8) written then pages_more written words else 1 + pages_more (w / 8 ∷ written) words

-- with the copies: 16 accesses for each page that is written
abbrev pub with_copies : Spent → ℕ
with_copies x = x.accesses + 16 * pages_more [] x.writes

-- the start of a service writes its time, and the event's origin and value; it counts a pipe's item as taken, and reads a timer's period and sets it on
abbrev pub consuming : Origin → Spent
consuming (origins.Source source count) = record { accesses = 3; writes = header.first ∷ header.origin ∷ header.value ∷ [] }
consuming (origins.Pipe pipe item) = record { accesses = 4; writes = header.first ∷ header.origin ∷ header.value ∷ header.taken pipe.0 ∷ [] }
consuming (origins.Timer timer deadline) = record { accesses = 5; writes = header.first ∷ header.origin ∷ header.value ∷ header.due timer.0 ∷ [] }

-- a running chain's service has started
abbrev pub starting : (running : Bool) → Origin → Spent
starting running o = if running then reads 0 else consuming o

-- what the act of an instruction takes beside its fetch, by the effects so far: a load or store of a state number beyond the last traps at once, an output
-- reads the number of outputs and stores the word and the number where there is room, and a send reads whether there is
abbrev pub acting : Act → Room → Effects → Spent
acting (Loads a n) room e = if nat_lt n (length e.state) then reads 1 else reads 0
acting (Saves n v) room e = if nat_lt n (length e.state) then record { accesses = 1; writes = header.state n ∷ [] } else reads 0
acting (Puts v) room e = if nat_lt (length e.outs) room.log then record { accesses = 3; writes = header.outputs ∷ [] } else reads 1
acting (Sends q a v) room e = if has_room room q e.sends then record { accesses = 5; writes = header.written q ∷ [] } else reads 3
acting (Arms j delay period) room e = record { accesses = 2; writes = header.due j ∷ header.period j ∷ [] }
acting (Stops j) room e = record { accesses = 1; writes = header.due j ∷ [] }
acting _ room e = reads 0

-- the instructions of a run from a configuration on, to its end or its trap; at the limit none is fetched
abbrev pub running_on : List Instr → Given → Room → ℕ → Config → Spent
running_on code given room zero c = reads 0
running_on code given room (suc left) c =
    let act = act_of (instr_at code c.cpu.at) given c.cpu in
    followed_by (reads 1) (followed_by (acting act room c.effects) (elim (execute act given room c) [
      | GoesOn next ↦ running_on code given room left next
      | IsOver outcome ↦ reads 0
      | HasTrapped code ↦ reads 0
    ]))

-- the whole run of the task that serves a thread's event
abbrev pub running_at : Program → Model → (t : ℕ) → Event → (time : ℕ) → Spent
running_at program m t e time =
    let task = task_def program (task_at program m t) in
    let start = start_at program m t e time in
    running_on task.code (given_of start) (room_of start) task.limit (first_config start.state)

-- the end of a task whose chain goes on writes the next task and the stamp
abbrev pub continuing : Spent
continuing = record { accesses = 2; writes = header.next ∷ header.stamp ∷ [] }

-- the end of a service writes that no chain runs, that a queue's event is finished, one more in its total, which it reads, and the stamp
abbrev pub ending : (total : ℕ) → Event → Spent
ending total e = if is_of_queue e then record { accesses = 5; writes = header.next ∷ header.finished ∷ total ∷ header.stamp ∷ [] } else record { accesses = 4; writes = header.next ∷ total ∷ header.stamp ∷ [] }

-- start, run and end of a task's service; after a trap all writes are given up, and the service starts once more
abbrev pub serving : Outcome → (start run : Spent) → Event → ℕ
serving (outcomes.Next task) start run e = with_copies (followed_by start (followed_by run continuing))
serving outcomes.Done start run e = with_copies (followed_by start (followed_by run (ending header.served e)))
serving (outcomes.Trap code) start run e = with_copies (followed_by start run) + with_copies (followed_by start (ending header.trapped e))

-- the service of a thread's event at a scan's time, and the store of the commit word; an expired chain only ends
abbrev pub cost_of : Program → Model → (t : ℕ) → Event → (time : ℕ) → ℕ
cost_of program m t e time =
    (if is_expired program m t time
    then with_copies (ending header.expired e)
    else serving (end_at program m t e time).outcome (starting (is_running (thread_of m t)) e.origin) (running_at program m t e time) e)
    + 1

-- the cost of the commit of a thread with its pending event
abbrev pub cost : Program → Model → ℕ → ℕ
cost program m t =
    elim m.scan [
      | None ↦ 0
      | Some scan ↦ elim (pending program m t) [ None ↦ 0 | Some e ↦ cost_of program m t e scan.time ]
    ]
