-- The state that the words of an image tell, part by part.
use Rattle.std.specs.Prelude.{◌≡◌, ◌⊎◌, ℕ, zero, suc, ◌+◌, ◌-◌, ◌%◌, ◌<◌, ◌≤◌, ◌==◌, if◌then◌else◌, List, [], ◌++◌, length, map, Option, Some, None}
use Rattle.std.specs.List.{range_with_len}
use Rattle.std.specs.List.Sorted.{IsNonDecreasingBy, IsPermutation}
use Rattle.ink_base.specs.declared.limits.TheConstants as limits
use Rattle.ink_base.specs.declared.event.Event.{Event}
use Rattle.ink_base.specs.declared.output.Output.{Output}
use Rattle.task_isa.specs.declared.program.Program.{Program}
use Rattle.fram_words.specs.Places.{Memory, Log, Ring, Clock}
use Rattle.fram_words.specs.Header as header
use Rattle.fram_words.specs.Held.{running_of, origin_of, due_of, output_of}
use Rattle.thread_state.specs.Pages.{committed}
use Rattle.ink_layout.specs.Shape.{shape_of, words_of}
use Rattle.prog_check.specs.Lookup.{thread_def, pipe_def, timer_def}
use Rattle.never_cut.specs.declared.model.Model.{Model}
use Rattle.never_cut.specs.declared.thread_model.ThreadModel.{ThreadModel}
use Rattle.never_cut.specs.declared.pipe_model.PipeModel.{PipeModel}
use Rattle.never_cut.specs.declared.timer_model.TimerModel.{TimerModel}
use Rattle.never_cut.specs.declared.source_model.SourceModel.{SourceModel}
use Rattle.never_cut.specs.State.{source_model}
use Rattle.never_cut.specs.Outputs.{outputs_in}
use Rattle.never_cut.specs.Image.{IsImage, taken_of, written_of}
use Rattle.never_cut.specs.ReadOff.{told_held, told_finished, told_released, told_source}
use Rattle.image_state.specs.Words.{by_place}

-- The words are those of an image of the program.
pub record IsImageOf (program : Program) (words : List ℕ) : Type 0 where
  pub count : length words ≡ words_of (shape_of program)
  pub image : IsImage program (by_place program words)

-- Each source has settled no more readings than it may have.
abbrev pub HasFewSettled : Program → Memory → Type 0
HasFewSettled program words = (i : ℕ) → i < length program.sources → (told_source program words i).next ≤ limits.READINGS

-- the value of f at each number below a count
abbrev pub each_below : {X : Type 0} → (ℕ → X) → (count : ℕ) → List X
each_below f count = map f (range_with_len 0 count)

-- a number of a thread's state
abbrev pub state_number : Memory → (t k : ℕ) → ℕ
state_number words t k = committed words t (header.state k)

-- the event that a running chain serves
abbrev pub told_event : Memory → (t : ℕ) → Option Event
told_event words t =
    if committed words t header.next == 0 then None
    else Some (record { origin = origin_of (committed words t header.origin); value = committed words t header.value })

-- a thread
abbrev pub told_thread : Program → Memory → (t : ℕ) → ThreadModel
told_thread program words t =
    record {
      state = each_below (state_number words t) (thread_def program t).state;
      running = running_of (committed words t header.next);
      event = told_event words t;
      first = committed words t header.first;
      held = told_held program words t;
      finished = told_finished program words t;
      released = told_released program words t;
      served = committed words t header.served;
      trapped = committed words t header.trapped;
      expired = committed words t header.expired;
    }

-- the item of a pipe that stands so many places behind the one that was taken last
abbrev pub told_item : Program → Memory → (q k : ℕ) → ℕ
told_item program words q k = words (Ring q ((taken_of program words q + k) % (pipe_def program q).places))

-- a pipe: the items that were written and not taken
abbrev pub told_pipe : Program → Memory → (q : ℕ) → PipeModel
told_pipe program words q =
    record { items = each_below (told_item program words q) (written_of program words q - taken_of program words q); taken = taken_of program words q }

-- a timer, in the block of its thread
abbrev pub told_timer : Program → Memory → (j : ℕ) → TimerModel
told_timer program words j =
    record {
      due = due_of (committed words (timer_def program j).thread.0 (header.due j));
      period = committed words (timer_def program j).thread.0 (header.period j);
    }

-- a source
abbrev pub told_source_model : Program → Memory → (i : ℕ) → SourceModel
told_source_model program words i = source_model (told_source program words i)

-- the output at an index of a thread's log
abbrev pub told_output : Memory → (t n : ℕ) → Output
told_output words t n = output_of (record { 0 = t }) (words (Log t n))

-- the outputs of a thread, as they stand in its log
abbrev pub told_outputs : Memory → (t : ℕ) → List Output
told_outputs words t = each_below (told_output words t) (committed words t header.outputs)

-- those of the first so many threads, one thread's behind the other's
abbrev pub outputs_until : Memory → (count : ℕ) → List Output
outputs_until words zero = []
outputs_until words (suc t) = outputs_until words t ++ told_outputs words t

-- These outputs in the order of their stamps: those of a thread in the order that they had, if their stamps don't fall in it.
pub record AreInOrder (logged outputs : List Output) : Type 0 where
  pub same : IsPermutation logged outputs
  pub ordered : IsNonDecreasingBy (λ (o : Output). o.stamp) outputs
  pub kept : (t : ℕ) → IsNonDecreasingBy (λ (o : Output). o.stamp) (outputs_in t logged) → outputs_in t outputs ≡ outputs_in t logged

-- the greatest stamp of the first so many threads, 0 where there is none
pub record IsNewest (words : Memory) (count stamp : ℕ) : Type 0 where
  pub most : (t : ℕ) → t < count → committed words t header.stamp ≤ stamp
  pub one : (stamp ≡ 0) ⊎ ((t : ℕ) × (t < count) × (committed words t header.stamp ≡ stamp))

-- the state that the words tell
pub record IsTold (program : Program) (words : Memory) (m : Model) : Type 0 where
  pub threads : m.threads ≡ each_below (told_thread program words) (length program.threads)
  pub pipes : m.pipes ≡ each_below (told_pipe program words) (length program.pipes)
  pub timers : m.timers ≡ each_below (told_timer program words) (length program.timers)
  pub sources : m.sources ≡ each_below (told_source_model program words) (length program.sources)
  pub clock : m.clock ≡ words Clock
  pub outputs : AreInOrder (outputs_until words (length program.threads)) m.outputs
  pub commits : IsNewest words (length program.threads) m.commits
  pub scan : m.scan ≡ None
