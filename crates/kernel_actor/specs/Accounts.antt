-- The account that a kernel keeps of itself.
use Rattle.std.specs.Prelude.{◌≡◌, ℕ, List, [], ◌∷◌, ◌++◌, Option, Some, None}
use mathlib.Core.Option.{some}
use lib.ListN.{get_elem?}
use Rattle.ink_base.specs.declared.event.Event.{Event}
use Rattle.task_isa.specs.declared.program.Program.{Program}
use Rattle.ink_layout.specs.declared.kernel_point.KernelPoint.{KernelPoint}
use Rattle.ink_layout.specs.declared.kernel_point.KernelPoint.TheVariants as points
use Rattle.push_core.specs.Slots.{slot_in}
use Rattle.priority_sched.specs.Scan.{event_at}
use Rattle.kernel_account.specs.Account.{open_account, IsAccount}
use Rattle.kernel_account.specs.declared.entry.KernelEntry.{KernelEntry}
use Rattle.kernel_account.specs.declared.entry.KernelEntry.TheVariants.{Scan, Look, Commit, Release}
use Rattle.event_queue.specs.declared.view.Call.{Call}
use Rattle.event_queue.specs.declared.view.Call.TheVariants as made
use Rattle.kernel_actor.specs.declared.kind.Kind.{Kind}
use Rattle.kernel_actor.specs.declared.kind.Kind.TheVariants as kinds

-- an event that a look has found, if any, is the one of its position
abbrev pub IsFoundAt : (ℕ → List Event) → (t p : ℕ) → Option Event → Type 0
IsFoundAt events t p None = Unit {0}
IsFoundAt events t p (Some e) = get_elem? (events t) p ≡ some e

-- every event that the looks among these calls have found is the one of its position
abbrev pub AreFound : (ℕ → List Event) → List Call → Type 0
AreFound events [] = Unit {0}
AreFound events (made.Look t p w ∷ calls) = IsFoundAt events t p (event_at p (slot_in w)) × AreFound events calls
AreFound events (call ∷ calls) = AreFound events calls

-- The charges are an account of the kernel, whatever events the queues are to have, if those that were found are among them.
abbrev pub IsAccountOf : Program → List Call → List (List KernelEntry) → Type 0
IsAccountOf program calls charges = (events : ℕ → List Event) → AreFound events calls → IsAccount program (open_account program events) charges

-- The entry that an access of a kind makes, where it found this word.
abbrev pub entry_made : Kind → (word : ℕ) → KernelPoint → Option KernelEntry
entry_made kind word points.Nothing = None
entry_made kind word points.Scan = Some (Scan word)
entry_made (kinds.Look at) word (points.Look t) = Some (Look t at.position)
entry_made kind word (points.Look t) = None
entry_made kind word (points.Commit t) = Some (Commit t)
entry_made kind word (points.Release t) = Some (Release t)

-- the entries of a charge with this one, or none
abbrev pub noted : List KernelEntry → Option KernelEntry → List KernelEntry
noted entries None = entries
noted entries (Some e) = entries ++ e ∷ []
