-- How an account goes beside the kernel's own state, and how it grows.
use Rattle.std.specs.Prelude.{◌≡◌, ℕ, ◌<◌, ◌≤◌, List, [], ◌∷◌, ◌++◌, map, length, drop, Option, Some, None}
use mathlib.Core.Option.{some}
use lib.ListN.{get_elem?}
use Rattle.ink_base.specs.declared.event.Event.{Event}
use Rattle.task_isa.specs.declared.program.Program.{Program}
use Rattle.ink_layout.specs.Points.{entry_of_point}
use Rattle.ink_layout.specs.declared.kernel_point.KernelPoint.{KernelPoint}
use Rattle.ink_layout.specs.declared.kernel_point.KernelPoint.TheVariants as points
use Rattle.never_cut.specs.declared.model.Model.{Model}
use Rattle.never_cut.specs.State.{thread_of, open_model}
use Rattle.never_cut.specs.Pending.{first_of}
use Rattle.never_cut.specs.Entries.{Readings}
use Rattle.never_cut.specs.Journal.{moved, MayNote}
use Rattle.never_cut.specs.Sound.{IsSound}
use Rattle.never_cut.specs.kept.Actors.{without_held}
use Rattle.kernel_account.specs.Account.{open_account, account_effect, AccountLegal, next_charge, account_after, IsAccount}
use Rattle.kernel_account.specs.declared.entry.KernelEntry.{KernelEntry}
use Rattle.kernel_account.specs.declared.entry.KernelEntry.TheVariants.{Scan, Look, Commit, Release}

-- a state without what others do to it: the queues' events, the sources and the clock
abbrev pub kernels_part : Model → Model
kernels_part m = record m { threads = map without_held m.threads; sources = []; clock = 0 }

-- The account over these events stands beside the kernel's own state: the kernel's part is the same, each queue holds what isn't released of
-- its events, and no scan was later than the clock.
pub record IsBeside (program : Program) (events : ℕ → List Event) (account m : Model) : Type 0 where
  pub same : kernels_part account ≡ kernels_part m
  pub held : (t : ℕ) → t < length program.threads → (thread_of account t).held ≡ drop (thread_of m t).released (events t)
  pub clock : account.clock ≤ m.clock

-- the first event that the kernel's own state holds of a queue is the one of its position
abbrev pub AreSeen : Program → (ℕ → List Event) → Model → Type 0
AreSeen program events m =
    (t : ℕ) → t < length program.threads → (e : Event) → first_of (thread_of m t).held ≡ Some e → get_elem? (events t) (thread_of m t).released ≡ some e

-- the entry of the account that an access of the kernel makes in this state
abbrev pub entry_at : Model → KernelPoint → Option KernelEntry
entry_at m points.Nothing = None
entry_at m points.Scan = Some (Scan m.clock)
entry_at m (points.Look t) = Some (Look t (thread_of m t.0).released)
entry_at m (points.Commit t) = Some (Commit t)
entry_at m (points.Release t) = Some (Release t)

-- the account's state after an entry, or none
abbrev pub account_moved : Program → Model → Option KernelEntry → Model
account_moved program m None = m
account_moved program m (Some e) = account_effect program m e

-- the entry, if any, is legal
abbrev pub AccountMay : Program → Model → Option KernelEntry → Type 0
AccountMay program m None = Unit {0}
AccountMay program m (Some e) = AccountLegal program m e

-- at the start they stand beside each other
abbrev pub FirstBeside : Type 0
FirstBeside = (program : Program) (events : ℕ → List Event) → IsBeside program events (open_account program events) (open_model program)

-- what is legal in the kernel's own state is legal in the account, and they stay beside each other
abbrev pub EveryEntryFollows : Type 0
EveryEntryFollows =
    (program : Program) (readings : Readings) (events : ℕ → List Event) (account m : Model) (point : KernelPoint) → IsSound program readings m → AreSeen program events m →
    IsBeside program events account m → MayNote program readings m (entry_of_point point) →
    AccountMay program account (entry_at m point) × IsBeside program events (account_moved program account (entry_at m point)) (moved program readings m (entry_of_point point))

-- the scan is lost from both
abbrev pub EveryCutFollows : Type 0
EveryCutFollows =
    (program : Program) (events : ℕ → List Event) (account m : Model) → IsBeside program events account m → IsBeside program events (next_charge account) (next_charge m)

-- an account of which the last charge has an entry more
pub record GrowsBy (program : Program) (first : Model) (done : List (List KernelEntry)) (entries : List KernelEntry) (e : KernelEntry) : Type 0 where
  pub legal : IsAccount program first (done ++ (entries ++ e ∷ []) ∷ [])
  pub after : account_after program first (done ++ (entries ++ e ∷ []) ∷ []) ≡ account_effect program (account_after program first (done ++ entries ∷ [])) e

-- an account grows at its end by an entry that is legal there
abbrev pub EveryChargeGrows : Type 0
EveryChargeGrows =
    (program : Program) (first : Model) (done : List (List KernelEntry)) (entries : List KernelEntry) (e : KernelEntry) → IsAccount program first (done ++ entries ∷ []) →
    AccountLegal program (account_after program first (done ++ entries ∷ [])) e → GrowsBy program first done entries e

-- an account of which a new charge has begun
pub record BeginsBy (program : Program) (first : Model) (charges : List (List KernelEntry)) : Type 0 where
  pub legal : IsAccount program first (charges ++ [] ∷ [])
  pub after : account_after program first (charges ++ [] ∷ []) ≡ next_charge (account_after program first charges)

-- an account grows by a charge without entries
abbrev pub EveryChargeBegins : Type 0
EveryChargeBegins = (program : Program) (first : Model) (charges : List (List KernelEntry)) → IsAccount program first charges → BeginsBy program first charges
