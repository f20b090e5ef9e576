-- The account of the kernel: what it tells of itself, over the events that the queues have had.
use Rattle.std.specs.Prelude.{◌≡◌, ℕ, ◌<◌, ◌≤◌, List, [], length, slice_index_or, take, map, Option, Some}
use Rattle.std.specs.List.{range_with_len}
use mathlib.Core.Option.{some}
use lib.ListN.{get_elem?}
use Rattle.ink_base.specs.declared.event.Event.{Event}
use Rattle.task_isa.specs.declared.program.Program.{Program}
use Rattle.never_cut.specs.declared.model.Model.{Model}
use Rattle.never_cut.specs.Commit.{is_of_queue}
use Rattle.never_cut.specs.State.{thread_of}
use Rattle.never_cut.specs.Pending.{pending}
use Rattle.job_parts.specs.Job.{JobParts}
use Rattle.kernel_account.specs.Account.{open_account, account_after, charge_after, next_charge}
use Rattle.kernel_account.specs.declared.entry.KernelEntry.{KernelEntry}
use Rattle.kernel_account.specs.declared.entry.KernelEntry.TheVariants.{Scan, Look, Commit, Release}
use Rattle.live_account.specs.declared.record.LiveRecord.{LiveRecord}
use Rattle.live_account.specs.Turns.{ticks_before, all_ticks}
use Rattle.live_account.specs.Events.{events_of}
use Rattle.live_account.specs.Queues.{accepted_in, WasAccepted, source_state}

-- the events of each queue, as the kernel holds them
abbrev pub events_in : LiveRecord → ℕ → List Event
events_in r t = events_of (accepted_in r t)

-- the entries of charge c
abbrev pub entries_in : LiveRecord → ℕ → List KernelEntry
entries_in r c = slice_index_or r.kernel c []

-- entry n of charge c is this one
abbrev pub HasEntry : LiveRecord → (c n : ℕ) → KernelEntry → Type 0
HasEntry r c n e = get_elem? (entries_in r c) n ≡ some e

-- the program's state before anything has happened, with all events that its queues will have
abbrev pub opened : Program → LiveRecord → Model
opened program r = open_account program (events_in r)

-- the state after the charges before charge c and the first n entries of its own
abbrev pub state_at : Program → LiveRecord → (c n : ℕ) → Model
state_at program r c n = charge_after program (next_charge (account_after program (opened program r) (take c r.kernel))) (take n (entries_in r c))

-- the state after all
abbrev pub state_after : Program → LiveRecord → Model
state_after program r = account_after program (opened program r) r.kernel

-- No event is passed over that was there: a look that found none is at a position of which no event, nor any behind it, was accepted in an earlier charge.
pub record PassesNone (r : LiveRecord) (c t p : ℕ) : Type 0 where
  pub known : p ≤ length (accepted_in r t)
  pub later : (q d : ℕ) → p ≤ q → WasAccepted r t q d → c ≤ d

-- no event is served before it was there: that which thread t serves in the state, if it is its queue's, was accepted in charge c or an earlier one
abbrev pub ServesInTime : Program → LiveRecord → (c t : ℕ) → Model → Type 0
ServesInTime program r c t m =
    (e : Event) → pending program m t ≡ Some e → is_of_queue e ≡ Rattle.std.specs.Prelude.true → (d : ℕ) → WasAccepted r t (thread_of m t).released d → d ≤ c

-- an entry of charge c stands at its time: a scan sees all ticks that are sure to have gone by, and none that the job doesn't list
abbrev pub IsInTime : JobParts → LiveRecord → (c : ℕ) → Model → KernelEntry → Type 0
IsInTime job r c m (Scan clock) = (ticks_before job.charges c ≤ clock) × (clock ≤ all_ticks job.charges)
IsInTime job r c m (Look t p) = PassesNone r c t.0 p
IsInTime job r c m (Commit t) = ServesInTime job.program r c t.0 m
IsInTime job r c m (Release t) = Unit {0}

-- so does each entry
abbrev pub AreInTime : JobParts → LiveRecord → Type 0
AreInTime job r = (c n : ℕ) (e : KernelEntry) → HasEntry r c n e → IsInTime job r c (state_at job.program r c n) e

-- The state at the end: the kernel's, with what each source has accepted and settled, and at the clock after all ticks.
abbrev pub last_state : JobParts → LiveRecord → Model
last_state job r = record (state_after job.program r) { sources = map (source_state job.program r) (range_with_len 0 (length job.program.sources)); clock = all_ticks job.charges }
