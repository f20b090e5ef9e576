-- The kernel of a live board, charge after charge.
use Rattle.std.specs.Prelude.{◌≡◌, ℕ, ◌+◌, ◌-◌, ◌<◌, ◌≤◌, true, List, [], ◌∷◌, ◌++◌, length, drop, slice_index, slice_index_or, take, sum_by}
use mathlib.Core.Option.{some}
use lib.ListN.{get_elem?}
use Rattle.ink_base.specs.declared.event.Event.{Event}
use Rattle.ink_base.specs.declared.actor.Actor.TheVariants as actors
use Rattle.task_isa.specs.declared.program.Program.{Program}
use Rattle.never_cut.specs.declared.model.Model.{Model}
use Rattle.job_parts.specs.Job.{JobParts}
use Rattle.kernel_account.specs.declared.entry.KernelEntry.{KernelEntry}
use Rattle.kernel_account.specs.declared.entry.KernelEntry.TheVariants.{Scan}
use Rattle.kernel_core.specs.Kernel.{first_kernel}
use Rattle.event_queue.specs.declared.view.Call.{Call}
use Rattle.event_queue.specs.Seats.{kernel_view, IsSameKernelSeat}
use Rattle.event_queue.specs.Views.{calls_of}
use Rattle.kernel_actor.specs.Accounts.{AreFound}
use Rattle.kernel_actor.specs.Acting.{Acting, place_of, IsSame, IsBeside, KeepsAccount, LeavesState}
use Rattle.kernel_actor.specs.Books.{charges_in}
use Rattle.kernel_actor.specs.Rows.{Leads}
use Rattle.kernel_actor.specs.Served.{IsSeenBy, KeepsSeen, state_before}
use Rattle.kernel_actor.specs.Timely.{AddsTimely}
use Rattle.live_account.specs.Turns.{turns_for, charge_at, ticks_before}

-- entry n of charge c is this one
abbrev pub IsEntry : List (List KernelEntry) → (c n : ℕ) → KernelEntry → Type 0
IsEntry charges c n e = get_elem? (slice_index_or charges c []) n ≡ some e

-- the state before it, over these events
abbrev pub state_at : Program → (ℕ → List Event) → List (List KernelEntry) → (c n : ℕ) → Model
state_at program events charges c n = state_before program events (take c charges) (slice_index_or charges c []) n

-- Each entry of each charge looked at, or served, no position but those that the calls have seen as published, and the next.
abbrev pub SeesAll : Program → List Call → List (List KernelEntry) → Type 0
SeesAll program calls charges =
    (events : ℕ → List Event) → AreFound events calls → (c n : ℕ) (e : KernelEntry) → IsEntry charges c n e → IsSeenBy program calls (state_at program events charges c n) e

-- each scan saw the ticks that are sure to have gone by
abbrev pub ScansInTime : JobParts → List (List KernelEntry) → Type 0
ScansInTime job charges = (c n clock : ℕ) → IsEntry charges c n (Scan clock) → ticks_before job.charges c ≤ clock

-- what the kernel has called, and what it tells of the charges
abbrev pub calls : Acting → List Call
calls a = calls_of (kernel_view a.seat)

-- the turns that the charges from number count on list for the kernel
abbrev pub turns_left : JobParts → (count : ℕ) → ℕ
turns_left job count = sum_by (turns_for actors.Kernel) (drop count job.charges)

-- the charges from number count on have room for an entry of each turn, the next one last
pub record HaveRoomLeft (job : JobParts) (count : ℕ) (rooms : List ℕ) : Type 0 where
  pub number : length rooms + count ≡ length job.charges
  pub each : (k : ℕ) → k < length rooms → turns_for actors.Kernel (charge_at job.charges (length job.charges - 1 - k)) ≤ slice_index rooms k

-- what holds of the kernel when the first so many charges are over
pub record IsKernelAfter (job : JobParts) (count : ℕ) (a : Acting) : Type 0 where
  pub program : a.program ≡ job.program
  pub charges : length (charges_in a.book) ≡ count
  pub scans : ScansInTime job (charges_in a.book)
  pub sees : SeesAll job.program (calls a) (charges_in a.book)
  pub left : turns_left job count ≤ a.left
  pub rooms : HaveRoomLeft job count a.book.rooms
  pub account : KeepsAccount a
  pub ends : LeavesState a

-- its next charge has begun: its registers are lost, and it has heard that so many ticks have gone by
pub record HasBegun (passed : ℕ) (old new : Acting) : Type 0 where
  pub beside : IsBeside old new
  pub calls : calls new ≡ calls old
  pub done : new.book.done ≡ charges_in old.book
  pub entries : new.book.entries ≡ []
  pub begun : new.book.begun ≡ true
  pub rooms : old.book.rooms ≡ new.book.rooms ++ new.book.spare ∷ []
  pub ticks : passed ≤ (kernel_view new.seat).told.clock

-- it has made so many accesses of a charge
pub record HasRun (budget : ℕ) (old new : Acting) : Type 0 where
  pub same : IsSame old new
  pub leads : Leads old.program budget (place_of old) (place_of new)
  pub left : old.left ≡ new.left + budget
  pub timely : AddsTimely (kernel_view old.seat).told old.book.entries new.book.entries
  pub account : KeepsAccount new
  pub ends : LeavesState new
  pub served : KeepsSeen old.program old.book.done (place_of old) (place_of new)
