-- What a source's lists and the kernel's account tell of each other.
use Rattle.std.specs.Prelude.{◌≡◌, ◌⊎◌, ℕ, ◌+◌, ◌<◌, ◌≤◌, true, List, take, Some}
use mathlib.Core.Option.{some}
use lib.ListN.{get_elem?}
use Rattle.ink_base.specs.declared.event.Event.{Event}
use Rattle.ink_base.specs.declared.ids.ThreadId.{ThreadId}
use Rattle.task_isa.specs.declared.program.Program.{Program}
use Rattle.never_cut.specs.Commit.{is_of_queue}
use Rattle.never_cut.specs.Pending.{pending}
use Rattle.never_cut.specs.State.{thread_of}
use Rattle.kernel_account.specs.declared.entry.KernelEntry.{KernelEntry}
use Rattle.kernel_account.specs.declared.entry.KernelEntry.TheVariants.{Look, Commit}
use Rattle.event_queue.specs.declared.view.Call.{Call}
use Rattle.event_queue.specs.Calls.{released_of}
use Rattle.event_queue.specs.Views.{known_of}
use Rattle.irq_source.specs.declared.lists.Published.{Published}
use Rattle.irq_source.specs.declared.lists.Declined.{Declined}
use Rattle.kernel_actor.specs.Accounts.{AreFound}
use Rattle.live_account.specs.Queues.{releases_of}
use Rattle.live_board.specs.kept.Kernels.{IsEntry, state_at}

-- no look that found nothing was below a reading that was published in an earlier charge
abbrev pub LooksBehind : (t : ℕ) → List (List KernelEntry) → List Published → Type 0
LooksBehind t charges accepted =
    (c n p k : ℕ) (u : ThreadId) (q : Published) → u.0 ≡ t → IsEntry charges c n (Look u p) → get_elem? accepted k ≡ some q → p ≤ q.position → c ≤ q.charge

-- no event was served in a charge before that in which it was published
abbrev pub ServesBehind : Program → (t : ℕ) → (ℕ → List Event) → List (List KernelEntry) → List Published → Type 0
ServesBehind program t events charges accepted =
    (c n k : ℕ) (u : ThreadId) (e : Event) (q : Published) → u.0 ≡ t → IsEntry charges c n (Commit u) → pending program (state_at program events charges c n) t ≡ Some e → is_of_queue e ≡ true →
    get_elem? accepted k ≡ some q → q.position ≡ (thread_of (state_at program events charges c n) t).released → q.charge ≤ c

-- a refused reading lies a turn of the ring above all that was released in the charges before its own
abbrev pub RefusesBehind : (t places : ℕ) → List (List KernelEntry) → List Declined → Type 0
RefusesBehind t places charges refused = (k : ℕ) (d : Declined) → get_elem? refused k ≡ some d → releases_of t (take d.charge charges) + places ≤ d.position

-- of a source of thread t and the kernel, whatever events the queues are to have, if those that were found are among them
pub record AreDated (program : Program) (t places : ℕ) (calls : List Call) (charges : List (List KernelEntry)) (accepted : List Published) (refused : List Declined) : Type 0 where
  pub looks : LooksBehind t charges accepted
  pub serves : (events : ℕ → List Event) → AreFound events calls → ServesBehind program t events charges accepted
  pub refuses : (events : ℕ → List Event) → AreFound events calls → RefusesBehind t places charges refused

-- What a charge adds: the kernel's looks at the thread are at no position below those that the source had published; what the source has published now is at
-- no position that the kernel knew to be published, and what was refused now is a turn of the ring above what the kernel had released.
pub record AddsDates (t places count : ℕ) (calls : List Call) (entries : List KernelEntry) (accepted accepted' : List Published) (refused refused' : List Declined) : Type 0 where
  pub looks : (n p k : ℕ) (u : ThreadId) (q : Published) → u.0 ≡ t → get_elem? entries n ≡ some (Look u p) → get_elem? accepted k ≡ some q → q.position < p
  pub published : (k : ℕ) (q : Published) → get_elem? accepted' k ≡ some q → (get_elem? accepted k ≡ some q) ⊎ ((q.charge ≡ count) × (known_of t calls ≤ q.position))
  pub charges : (k : ℕ) (q : Published) → get_elem? accepted' k ≡ some q → q.charge ≤ count
  pub declined : (k : ℕ) (d : Declined) → get_elem? refused' k ≡ some d → (get_elem? refused k ≡ some d) ⊎ ((d.charge ≡ count) × (released_of t calls + places ≤ d.position))
  pub refusals : (k : ℕ) (d : Declined) → get_elem? refused' k ≡ some d → d.charge ≤ count
