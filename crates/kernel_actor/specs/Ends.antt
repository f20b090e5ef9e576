-- What a kernel leaves behind stands for the state after its account.
use Rattle.std.specs.Prelude.{◌≡◌, ℕ, ◌<◌, true, List, length}
use Rattle.ink_base.specs.declared.event.Event.{Event}
use Rattle.task_isa.specs.declared.program.Program.{Program}
use Rattle.fram_words.specs.Shape.{memory_of}
use Rattle.ink_layout.specs.Shape.{shape_of, words_of}
use Rattle.never_cut.specs.declared.model.Model.{Model}
use Rattle.never_cut.specs.State.{thread_of}
use Rattle.never_cut.specs.Entries.{Readings}
use Rattle.never_cut.specs.Stands.{StandsPrivate}
use Rattle.never_cut.specs.Sound.{IsSound}
use Rattle.never_cut.specs.Within.{Lasts}
use Rattle.kernel_account.specs.Account.{open_account, account_after}
use Rattle.kernel_account.specs.Follows.{IsBeside}
use Rattle.kernel_account.specs.declared.entry.KernelEntry.{KernelEntry}
use Rattle.event_queue.specs.Calls.{released_of, seen_of, acked_of, clock_of}
use Rattle.event_queue.specs.declared.view.Call.{Call}
use Rattle.kernel_actor.specs.Accounts.{AreFound}
use Rattle.kernel_actor.specs.Held.{IsHeld}

-- The own words stand for a sound state that has released what its calls have released, and in which each queue holds at most what they have seen. It is
-- the state after the account, whatever events the queues are to have, if those that were found are among them.
pub record EndsAs (program : Program) (words : List ℕ) (calls : List Call) (charges : List (List KernelEntry)) : Type 0 where
  pub state : Model
  pub readings : Readings
  pub count : length words ≡ words_of (shape_of program)
  pub private : StandsPrivate (memory_of (shape_of program) words) program state
  pub sound : IsSound program readings state
  pub lasts : Lasts 0 state
  pub clock : state.clock ≡ clock_of calls
  pub released : (t : ℕ) → t < length program.threads → (thread_of state t).released ≡ released_of t calls
  pub held : (t : ℕ) → t < length program.threads → IsHeld (seen_of t calls) (released_of t calls) (thread_of state t).held
  pub finished : (t : ℕ) → t < length program.threads → acked_of t calls ≡ true → (thread_of state t).finished ≡ true
  pub beside : (events : ℕ → List Event) → AreFound events calls → IsBeside program events (account_after program (open_account program events) charges) state
