-- What an actor of the kernel keeps between two accesses.
use Rattle.std.specs.Prelude.{ℕ, List}
use Rattle.ink_base.specs.declared.event.Event.{Event}
use Rattle.task_isa.specs.declared.program.Program.{Program}
use Rattle.fram_words.specs.declared.layout.Layout.{Layout}
use Rattle.ink_layout.specs.Layouts.{IsLayout}
use Rattle.never_cut.specs.declared.model.Model.{Model}
use Rattle.kernel_account.specs.Account.{open_account, account_after, IsAccount}
use Rattle.kernel_account.specs.Follows.{IsBeside}
use Rattle.kernel_account.specs.declared.entry.KernelEntry.{KernelEntry}
use Rattle.kernel_core.specs.declared.kernel.Kernel.{Kernel}
use Rattle.event_queue.specs.declared.view.Call.{Call}
use Rattle.event_queue.specs.declared.view.View.{View}
use Rattle.event_queue.specs.Views.{calls_of}
use Rattle.kernel_actor.specs.Accounts.{AreFound}
use Rattle.kernel_actor.specs.Lays.{IsLayOf}
use Rattle.kernel_actor.specs.kept.Imagines.{Imagines}

-- whatever events the queues are to have, the charges are an account that stands beside the state
abbrev pub Accounts : Program → List Call → List (List KernelEntry) → Model → Type 0
Accounts program calls charges m =
    (events : ℕ → List Event) → AreFound events calls →
    IsAccount program (open_account program events) charges × IsBeside program events (account_after program (open_account program events) charges) m

-- The kernel imagines a board from its own words and what its seat has seen, and its account stands beside that board's state; so many accesses are left.
pub record Standing (program : Program) (layout : Layout) (fram : List ℕ) (kernel : Kernel) (v : View) (left : ℕ) (charges : List (List KernelEntry)) : Type 0 where
  pub layout_is : IsLayout program layout
  pub lay : IsLayOf program v.lay
  pub state : Model
  pub imagines : Imagines program fram (calls_of v) kernel left state
  pub accounts : Accounts program (calls_of v) charges state
