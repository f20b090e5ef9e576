-- The numbers that the words of a board tell.
use Rattle.std.specs.Prelude.{ℕ, zero, suc, ◌+◌, ◌^◌, ◌<◌, ◌≤◌, max, Bool, true, false, Option, Some, length}
use Rattle.ink_base.specs.declared.limits.TheConstants as limits
use Rattle.task_isa.specs.declared.program.Program.{Program}
use Rattle.prog_check.specs.Lookup.{thread_def}
use Rattle.fram_words.specs.Places.{Memory, Slot}
use Rattle.fram_words.specs.Header as header
use Rattle.thread_state.specs.Pages.{committed}
use Rattle.push_core.specs.Slots.{slot_in}
use Rattle.push_core.specs.declared.slot.Slot as slot
use Rattle.push_core.specs.declared.slot.Slot.TheVariants.{Full}
use Rattle.never_cut.specs.Stands.{flag}
use Rattle.ink_report.specs.declared.sweep.SweepRow.{SweepRow}

-- the sum of the first so many numbers
abbrev pub sum_to : (ℕ → ℕ) → ℕ → ℕ
sum_to f zero = 0
sum_to f (suc n) = sum_to f n + f n

-- the greatest of the first so many
abbrev pub max_to : (ℕ → ℕ) → ℕ → ℕ
max_to f zero = 0
max_to f (suc n) = max (max_to f n) (f n)

-- how many outputs a thread counts
abbrev pub outputs_told : Memory → (t : ℕ) → ℕ
outputs_told words t = committed words t header.outputs

-- the stamp of its last commit
abbrev pub stamp_told : Memory → (t : ℕ) → ℕ
stamp_told words t = committed words t header.stamp

-- the slot holds an event
abbrev pub is_full : Option slot.Slot → Bool
is_full (Some (Full position source count value)) = true
is_full _ = false

-- one for a slot of a thread's queue that does
abbrev pub full_slot : Memory → (t n : ℕ) → ℕ
full_slot words t n = flag (is_full (slot_in (words (Slot t n))))

-- how many of its slots do
abbrev pub full_slots : Program → Memory → (t : ℕ) → ℕ
full_slots program words t = sum_to (full_slot words t) (thread_def program t).queue

-- the row that the first so many threads tell: their outputs, the greatest of their stamps, and the slots of their queues that hold an event
abbrev pub told_row : Program → Memory → (cut count : ℕ) → SweepRow
told_row program words cut count =
    record {
      cut = cut;
      outputs = sum_to (outputs_told words) count;
      commits = max_to (stamp_told words) count;
      held = sum_to (full_slots program words) count;
    }

-- no thread has more outputs than a log has places, and each stamp has 32 bits
pub record AreTold (program : Program) (words : Memory) : Type 0 where
  pub outputs : (t : ℕ) → t < length program.threads → outputs_told words t ≤ limits.LOG_PLACES
  pub stamps : (t : ℕ) → t < length program.threads → stamp_told words t < 2 ^ 32
