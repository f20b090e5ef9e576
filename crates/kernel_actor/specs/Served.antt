-- The kernel serves no event of a queue that it has not seen.
use Rattle.std.specs.Prelude.{◌≡◌, ◌⊎◌, ℕ, ◌<◌, ◌≤◌, true, List, take, Some}
use mathlib.Core.Option.{some}
use lib.ListN.{get_elem?}
use Rattle.ink_base.specs.declared.event.Event.{Event}
use Rattle.task_isa.specs.declared.program.Program.{Program}
use Rattle.never_cut.specs.declared.model.Model.{Model}
use Rattle.never_cut.specs.Commit.{is_of_queue}
use Rattle.never_cut.specs.Pending.{pending}
use Rattle.never_cut.specs.State.{thread_of}
use Rattle.kernel_account.specs.Account.{open_account, account_after, charge_after, next_charge}
use Rattle.kernel_account.specs.declared.entry.KernelEntry.{KernelEntry}
use Rattle.kernel_account.specs.declared.entry.KernelEntry.TheVariants.{Scan, Look, Commit, Release}
use Rattle.event_queue.specs.Views.{known_of}
use Rattle.event_queue.specs.declared.view.Call.{Call}
use Rattle.kernel_actor.specs.Accounts.{AreFound}
use Rattle.kernel_actor.specs.Rows.{Place}

-- An event of its queue that a thread serves in this state is at one of the positions that the calls have seen as published; a look is at one of
-- them, or at the next.
abbrev pub IsSeenBy : Program → List Call → Model → KernelEntry → Type 0
IsSeenBy program calls m (Scan clock) = Unit {0}
IsSeenBy program calls m (Look t p) = p ≤ known_of t.0 calls
IsSeenBy program calls m (Commit t) = (e : Event) → pending program m t.0 ≡ Some e → is_of_queue e ≡ true → (thread_of m t.0).released < known_of t.0 calls
IsSeenBy program calls m (Release t) = Unit {0}

-- the state of the account over these events, behind the charges that are over and the first n entries of the next
abbrev pub state_before : Program → (ℕ → List Event) → (done : List (List KernelEntry)) → (entries : List KernelEntry) → (n : ℕ) → Model
state_before program events done entries n = charge_after program (next_charge (account_after program (open_account program events) done)) (take n entries)

-- Each entry that was added to a charge is so, whatever events the queues are to have, if those that were found are among them.
pub record KeepsSeen (program : Program) (done : List (List KernelEntry)) (old new : Place) : Type 0 where
  pub each : (events : ℕ → List Event) → AreFound events new.calls → (n : ℕ) (e : KernelEntry) → get_elem? new.entries n ≡ some e →
      (get_elem? old.entries n ≡ some e) ⊎ IsSeenBy program new.calls (state_before program events done new.entries n) e
