-- How much of a service is left in each of its phases, by the meaning of its task.
use Rattle.std.specs.Prelude.{ℕ, ◌+◌, ◌-◌, ◌*◌, ◌/◌, ◌==◌, ◌||◌, nat_lt, Bool, if◌then◌else◌, List, [], ◌∷◌, length, Some, None}
use Rattle.ink_base.specs.declared.event.Event.{Event}
use Rattle.ink_base.specs.declared.event.Origin.{Origin}
use Rattle.ink_base.specs.declared.event.Origin.TheVariants as origins
use Rattle.fram_words.specs.Header as header
use Rattle.thread_state.specs.Pages.{Buffer, Copying, Loading, Storing, is_dirty}
use Rattle.task_isa.specs.declared.outcome.Outcome.TheVariants as outcomes
use Rattle.task_isa.specs.Acts.{number_of}
use Rattle.task_isa.specs.Meaning.{Config, RunEnd, Ended, Trapped, Stepped, GoesOn, IsOver, HasTrapped, first_config, has_room}
use Rattle.task_isa.specs.declared.program.Program.{Program}
use Rattle.ink_layout.specs.declared.pick.Pick.{Pick}
use Rattle.never_cut.specs.declared.model.Model.{Model}
use Rattle.never_cut.specs.Cost as costs
use Rattle.never_cut.specs.Cost.{Spent, reads, followed_by}
use Rattle.never_cut.specs.Stands.{Saved, saved}
use Rattle.task_run.specs.declared.ending.Ending.{Ending}
use Rattle.task_run.specs.declared.ending.Ending.TheVariants as endings
use Rattle.task_run.specs.declared.execution.Execution.{Execution}
use Rattle.task_run.specs.declared.phase.Phase.{Phase}
use Rattle.task_run.specs.declared.phase.Phase.TheVariants.{WriteFirst, WriteOrigin, WriteValue, WriteTaken, ReadPeriod, WriteDue, Resume, Fetch, ReadState, WriteState, ReadCount, StoreLog, WriteCount, LoadReader, LoadTaken, ReadWritten, StoreItem, WriteWritten, WriteArmed, WritePeriod, WriteStopped, WriteNext, WriteFinished, ReadTotal, WriteTotal, WriteStamp, StoreCommit}
use Rattle.task_run.specs.declared.machine.TaskMachine.{TaskMachine}
use Rattle.task_run.specs.Endings.{total_word}
use Rattle.task_run.specs.kept.Trace.{config_after}
use Rattle.task_run.specs.kept.Served.{Assignment, assignment, whole}

-- these pages, and one more
abbrev pub with_page : ℕ → (ℕ → Bool) → ℕ → Bool
with_page page dirty q = (page == q) || dirty q

-- on how many pages these words lie that aren't dirty, each page counted once
unfoldable pub clean_pages : (ℕ → Bool) → List ℕ → ℕ
clean_pages dirty [] = 0
clean_pages dirty (w ∷ words) = if dirty (w / 8) then clean_pages dirty words else 1 + clean_pages (with_page (w / 8) dirty) words

-- how many of the sixteen accesses of a page's copying were made
abbrev pub copied : Copying → ℕ
copied (Loading k) = 2 * k
copied (Storing k v) = 2 * k + 1

-- What is left: up to the trap or the commit, copies aside, with the words that are written; and all accesses behind the trap.
pub record Rest : Type 0 where
  pub spent : Spent
  pub behind : ℕ

-- with the copies of pages that aren't dirty yet
unfoldable pub left_in : Buffer → Rest → ℕ
left_in b x = x.spent.accesses + 16 * clean_pages (is_dirty b) x.spent.writes + x.behind - copied b.copying

-- something more before the rest
abbrev pub before : Spent → Rest → Rest
before s x = record { spent = followed_by s x.spent; behind = x.behind }

-- one write
abbrev pub writing : (accesses word : ℕ) → Spent
writing n w = record { accesses = n; writes = w ∷ [] }

-- the writes of an end, and the store of the commit word
abbrev pub end_spent : Ending → Event → Spent
end_spent (endings.Next task) e = followed_by costs.continuing (reads 1)
end_spent ending e = followed_by (costs.ending (total_word ending) e) (reads 1)

-- only the end is left
abbrev pub ending_rest : Ending → Event → Rest
ending_rest ending e = record { spent = end_spent ending e; behind = 0 }

-- the start of a service, or none of a running chain's
abbrev pub start_spent : Pick → Spent
start_spent pick = elim pick.running [ None ↦ costs.consuming pick.event.origin | Some task ↦ reads 0 ]

-- the service once more, without a task
abbrev pub again : Pick → ℕ
again pick = costs.with_copies (followed_by (start_spent pick) (end_spent endings.Trapped pick.event))

-- what a run has behind it
abbrev pub behind_run : RunEnd → Pick → Rest
behind_run (Ended (outcomes.Next task) e left) pick = ending_rest (endings.Next task.0) pick.event
behind_run (Ended outcomes.Done e left) pick = ending_rest endings.Done pick.event
behind_run (Ended (outcomes.Trap code) e left) pick = record { spent = reads 0; behind = again pick }
behind_run (Trapped code left) pick = record { spent = reads 0; behind = again pick }

-- the configuration in which a run goes on; the first of a run that doesn't
abbrev pub going : Config → Stepped → Config
going first (GoesOn c) = c
going first (IsOver outcome) = first
going first (HasTrapped trap) = first

-- the configuration after so many instructions of the task
abbrev pub config_at : Assignment → Saved → ℕ → Config
config_at a x n = let first = first_config x.state in going first (config_after a.code a.given a.room n first)

-- the run behind so many instructions
abbrev pub run_spent : Assignment → Saved → ℕ → Spent
run_spent a x n = costs.running_on a.code a.given a.room (a.limit - n) (config_at a x n)

-- and all that is left then
abbrev pub run_rest : Assignment → Saved → Pick → ℕ → Rest
run_rest a x pick n = before (run_spent a x n) (behind_run (whole a x) pick)

-- within an instruction
abbrev pub act_rest : Assignment → Saved → Pick → Execution → Spent → Rest
act_rest a x pick e s = before s (run_rest a x pick (e.executed + 1))

-- behind the event: the task, or after a trap the end
abbrev pub task_rest : Assignment → Saved → Pick → Ending → Rest
task_rest a x pick endings.Done = run_rest a x pick 0
task_rest a x pick ending = ending_rest ending pick.event

-- how an item or a timer is consumed
abbrev pub consuming_rest : Origin → Spent
consuming_rest (origins.Source source count) = reads 0
consuming_rest (origins.Pipe pipe item) = writing 1 (header.taken pipe.0)
consuming_rest (origins.Timer timer deadline) = writing 2 (header.due timer.0)

-- so many words of the event, and how it is consumed
abbrev pub event_rest : Assignment → Saved → Pick → Ending → (words : List ℕ) → Rest
event_rest a x pick ending words =
    before (record { accesses = length words; writes = words }) (before (consuming_rest pick.event.origin) (task_rest a x pick ending))

-- an output, which the log has room for or not
abbrev pub output_rest : Assignment → Saved → Pick → Execution → Rest
output_rest a x pick e =
    if nat_lt (length (config_at a x e.executed).effects.outs) a.room.log
    then act_rest a x pick e (writing 3 header.outputs)
    else before (reads 1) (behind_run (whole a x) pick)

-- a send, of which so many accesses were made, and which the pipe has room for or not
abbrev pub send_rest : Assignment → Saved → Pick → Execution → (pipe full room : ℕ) → Rest
send_rest a x pick e q full room =
    if has_room a.room q (config_at a x e.executed).effects.sends then act_rest a x pick e (writing room (header.written q)) else act_rest a x pick e (reads full)

-- what is left in a phase
abbrev pub rest : Assignment → Saved → Pick → Ending → Execution → Phase → Rest
rest a x pick ending e WriteFirst = event_rest a x pick ending (header.first ∷ header.origin ∷ header.value ∷ [])
rest a x pick ending e WriteOrigin = event_rest a x pick ending (header.origin ∷ header.value ∷ [])
rest a x pick ending e WriteValue = event_rest a x pick ending (header.value ∷ [])
rest a x pick ending e WriteTaken = before (writing 1 (header.taken (number_of pick.event.origin))) (task_rest a x pick ending)
rest a x pick ending e ReadPeriod = before (writing 2 (header.due (number_of pick.event.origin))) (task_rest a x pick ending)
rest a x pick ending e (WriteDue w) = before (writing 1 (header.due (number_of pick.event.origin))) (task_rest a x pick ending)
rest a x pick ending e Resume = if a.late then ending_rest endings.Expired pick.event else run_rest a x pick e.executed
rest a x pick ending e Fetch = run_rest a x pick e.executed
rest a x pick ending e (ReadState c n) = act_rest a x pick e (reads 1)
rest a x pick ending e (WriteState n v) = act_rest a x pick e (writing 1 (header.state n))
rest a x pick ending e (ReadCount v) = output_rest a x pick e
rest a x pick ending e (StoreLog n v) = act_rest a x pick e (writing 2 header.outputs)
rest a x pick ending e (WriteCount n) = act_rest a x pick e (writing 1 header.outputs)
rest a x pick ending e (LoadReader s) = send_rest a x pick e s.pipe 3 5
rest a x pick ending e (LoadTaken s commit) = send_rest a x pick e s.pipe 2 4
rest a x pick ending e (ReadWritten s taken) = send_rest a x pick e s.pipe 1 3
rest a x pick ending e (StoreItem s written) = act_rest a x pick e (writing 2 (header.written s.pipe))
rest a x pick ending e (WriteWritten s written) = act_rest a x pick e (writing 1 (header.written s.pipe))
rest a x pick ending e (WriteArmed timer delay period) =
    act_rest a x pick e (record { accesses = 2; writes = header.due timer ∷ header.period timer ∷ [] })
rest a x pick ending e (WritePeriod timer period) = act_rest a x pick e (writing 1 (header.period timer))
rest a x pick ending e (WriteStopped timer) = act_rest a x pick e (writing 1 (header.due timer))
rest a x pick ending e WriteNext = ending_rest ending pick.event
rest a x pick ending e WriteFinished =
    record { spent = record { accesses = 5; writes = header.finished ∷ total_word ending ∷ header.stamp ∷ [] }; behind = 0 }
rest a x pick ending e ReadTotal = record { spent = record { accesses = 4; writes = total_word ending ∷ header.stamp ∷ [] }; behind = 0 }
rest a x pick ending e (WriteTotal n) = record { spent = record { accesses = 3; writes = total_word ending ∷ header.stamp ∷ [] }; behind = 0 }
rest a x pick ending e WriteStamp = record { spent = writing 2 header.stamp; behind = 0 }
rest a x pick ending e StoreCommit = record { spent = reads 1; behind = 0 }
rest a x pick ending e _ = record { spent = reads 0; behind = 0 }

-- the accesses that are left up to the commit
abbrev pub left : Program → Model → TaskMachine → ℕ
left program m r = left_in r.buffer (rest (assignment program m r.pick) (saved program m r.pick.thread.0) r.pick r.ending r.execution r.phase)
