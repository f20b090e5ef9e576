-- The account of a kernel: when its entries are legal, and the state that they lead to.
use Rattle.std.specs.Prelude.{◌≡◌, ℕ, ◌<◌, ◌≤◌, false, List, [], ◌∷◌, map, length, None}
use Rattle.std.specs.List.{enumerate_from}
use Rattle.ink_base.specs.declared.event.Event.{Event}
use Rattle.ink_base.specs.declared.entry.Entry.TheVariants as entries
use Rattle.task_isa.specs.declared.program.Program.{Program}
use Rattle.task_isa.specs.declared.program.ThreadDef.{ThreadDef}
use Rattle.never_cut.specs.declared.model.Model.{Model}
use Rattle.never_cut.specs.declared.scan_model.ScanModel.{ScanModel}
use Rattle.never_cut.specs.declared.thread_model.ThreadModel.{ThreadModel}
use Rattle.never_cut.specs.State.{thread_of, is_looked, open_model, open_thread}
use Rattle.never_cut.specs.Entries.{IsCalm, InScan, Legal, effect}
use Rattle.kernel_account.specs.declared.entry.KernelEntry.{KernelEntry}
use Rattle.kernel_account.specs.declared.entry.KernelEntry.TheVariants.{Scan, Look, Commit, Release}

-- a thread at the start, whose queue holds all the events that it will ever have
abbrev pub filled : (ℕ → List Event) → ℕ × ThreadDef → ThreadModel
filled events (t, d) = record (open_thread d) { held = events t }

-- the state at the start, where these are the events of each queue
abbrev pub open_account : Program → (ℕ → List Event) → Model
open_account program events = record (open_model program) { threads = map (filled events) (enumerate_from 0 program.threads) }

-- the clock is the one that the latest scan named
abbrev pub at_time : ℕ → Model → Model
at_time c m = record m { clock = c }

-- what an entry makes of the state
abbrev pub account_effect : Program → Model → KernelEntry → Model
account_effect program m (Scan c) = effect program [] (at_time c m) entries.Scan
account_effect program m (Look t p) = effect program [] m (entries.Look t)
account_effect program m (Commit t) = effect program [] m (entries.Commit t)
account_effect program m (Release t) = effect program [] m (entries.Release t)

-- the scan hasn't looked at the thread, and the thread has no chain; what its queue holds, the kernel may not have seen
abbrev pub MayVisit : Model → ScanModel → ℕ → Type 0
MayVisit m scan t = (is_looked scan.looked t ≡ false) × ((thread_of m t).running ≡ None)

-- what an entry asks of the state before it: a scan's clock isn't before that of the last one, and a look is at the next position to be released
abbrev pub AccountLegal : Program → Model → KernelEntry → Type 0
AccountLegal program m (Scan c) = IsCalm program m × (m.clock ≤ c)
AccountLegal program m (Look t p) = (t.0 < length program.threads) × (p ≡ (thread_of m t.0).released) × InScan m (λ scan. MayVisit m scan t.0)
AccountLegal program m (Commit t) = Legal program [] m (entries.Commit t)
AccountLegal program m (Release t) = Legal program [] m (entries.Release t)

-- the state after the entries of a charge
abbrev pub charge_after : Program → Model → List KernelEntry → Model
charge_after program m [] = m
charge_after program m (e ∷ rest) = charge_after program (account_effect program m e) rest

-- each entry of a charge is legal in its place
abbrev pub IsChargeLegal : Program → Model → List KernelEntry → Type 0
IsChargeLegal program m [] = Unit {0}
IsChargeLegal program m (e ∷ rest) = AccountLegal program m e × IsChargeLegal program (account_effect program m e) rest

-- the scan of the charge before is gone
abbrev pub next_charge : Model → Model
next_charge m = record m { scan = None }

-- the state after charges
abbrev pub account_after : Program → Model → List (List KernelEntry) → Model
account_after program m [] = m
account_after program m (charge ∷ rest) = account_after program (charge_after program (next_charge m) charge) rest

-- every entry of every charge is legal in its place
abbrev pub IsAccount : Program → Model → List (List KernelEntry) → Type 0
IsAccount program m [] = Unit {0}
IsAccount program m (charge ∷ rest) = IsChargeLegal program (next_charge m) charge × IsAccount program (charge_after program (next_charge m) charge) rest
