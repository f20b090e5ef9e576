-- Pipes and timers by their words are those of the state that the words stand for.
use Rattle.std.specs.Prelude.{◌≡◌, ℕ, ◌+◌, ◌<◌, nat_lt, length, slice_index, Some}
use Rattle.task_isa.specs.declared.program.Program.{Program}
use Rattle.task_isa.specs.declared.timer_set.TimerSet.{TimerSet}
use Rattle.fram_words.specs.Places.{Memory, Ring}
use Rattle.fram_words.specs.Header as header
use Rattle.fram_words.specs.Held.{due_word}
use Rattle.thread_state.specs.Pages.{committed}
use Rattle.event_pipe.specs.Ring as ring
use Rattle.persist_timer.specs.Due as timers
use Rattle.prog_check.specs.Accepted.{IsAccepted}
use Rattle.prog_check.specs.Lookup.{pipe_def, timer_def}
use Rattle.never_cut.specs.declared.model.Model.{Model}
use Rattle.never_cut.specs.State.{thread_of, pipe_of, timer_of}
use Rattle.never_cut.specs.Pending.{has_item, is_due_by}
use Rattle.never_cut.specs.Commit.{room_in, is_overdue, next_due, set_by}
use Rattle.never_cut.specs.Stands.{StandsPrivate}
use Rattle.never_cut.specs.Image.{taken_of, written_of}

-- the counts of a pipe tell whether it has an item and, after so many own sends, room; and where each item stands
pub record IsPipeTold (program : Program) (words : Memory) (m : Model) (q : ℕ) : Type 0 where
  pub item : ring.has_item (written_of program words q) (taken_of program words q) ≡ has_item program m (pipe_def program q).reader.0 q
  pub room : (sent : ℕ) → ring.has_room (pipe_def program q).places (written_of program words q + sent) (taken_of program words q) ≡ nat_lt sent (room_in m (q, pipe_def program q))
  pub place : (k : ℕ) → k < length (pipe_of m q).items →
      words (Ring q (ring.ring_index (pipe_def program q).places (taken_of program words q + k))) ≡ slice_index (pipe_of m q).items k

-- the word of a timer and its period, in the block of its thread
abbrev pub due_of_timer : Program → Memory → (j : ℕ) → ℕ
due_of_timer program words j = committed words (timer_def program j).thread.0 (header.due j)

-- and its period
abbrev pub period_of_timer : Program → Memory → (j : ℕ) → ℕ
period_of_timer program words j = committed words (timer_def program j).thread.0 (header.period j)

-- the words of a timer tell whether it is due, and what its service leaves; a timer that is set has the word of its due time
pub record IsTimerTold (program : Program) (words : Memory) (m : Model) (j : ℕ) : Type 0 where
  pub due : (time : ℕ) → timers.is_due (due_of_timer program words j) time ≡ is_due_by (timer_of m j).due time
  pub service : (deadline : ℕ) → (timer_of m j).due ≡ Some deadline →
      timers.after_service (due_of_timer program words j) (period_of_timer program words j) ≡ due_word (next_due deadline (timer_of m j))
  pub armed : (set : TimerSet) (time delay : ℕ) → set.due ≡ Some (time + delay) → timers.armed time delay ≡ due_word (set_by set (timer_of m j)).due

-- the time of its first commit tells whether a chain has expired
abbrev pub IsExpiryTold : Memory → Model → (t : ℕ) → Type 0
IsExpiryTold words m t =
    (ticks time : ℕ) → timers.is_expired ticks (committed words t header.first) time ≡ is_overdue (Some ticks) (thread_of m t).first time

-- each pipe, each timer and each chain of words that stand
pub record AreDevicesTold (program : Program) (words : Memory) (m : Model) : Type 0 where
  pub pipes : (q : ℕ) → q < length program.pipes → IsPipeTold program words m q
  pub timers : (j : ℕ) → j < length program.timers → IsTimerTold program words m j
  pub chains : (t : ℕ) → t < length program.threads → IsExpiryTold words m t

-- the private words of a board that stand for a state tell all of its devices
abbrev pub EveryDeviceTold : Type 0
EveryDeviceTold = (program : Program) (words : Memory) (m : Model) → IsAccepted program → StandsPrivate words program m → AreDevicesTold program words m
