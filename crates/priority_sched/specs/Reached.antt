-- The registers that a scan comes to from words in their ranges.
use Rattle.std.specs.Prelude.{◌≡◌, ℕ, ◌^◌, ◌<◌, ◌≤◌, true, false, Some, None}
use Rattle.std.specs.Option.{ForSome}
use Rattle.task_isa.specs.declared.program.Program.{Program}
use Rattle.push_core.specs.Table.{greatest_tail}
use Rattle.prog_check.specs.Lookup.{pipe_def, timer_def}
use Rattle.never_cut.specs.Ranges.{Loaded, IsTaskOf, IsOwnOrigin, IsOwnEvent, IsPickOf}
use Rattle.priority_sched.specs.declared.chain.Chain.{Chain}
use Rattle.priority_sched.specs.declared.idle.Waiting.{Waiting}
use Rattle.priority_sched.specs.declared.scan_at.ScanAt.{ScanAt}
use Rattle.priority_sched.specs.declared.scan_at.ScanAt.TheVariants.{Finished, Origin, Value, First, Slot, Taken, Writer, Written, Item, Timer, Picked}
use Rattle.priority_sched.specs.declared.scanned.Scanned.{Scanned}
use Rattle.priority_sched.specs.declared.scanned.Scanned.TheVariants as scanned
use Rattle.priority_sched.specs.declared.machine.ScanMachine.{ScanMachine}
use Rattle.priority_sched.specs.Scan.{IsScan}

-- what was loaded before the word of a row: the time, that the thread's chain runs, and the count of taken items
abbrev pub scan_loaded : (time : ℕ) → ScanAt → Loaded
scan_loaded time (Origin chain) = record { time = time; running = true; taken = None }
scan_loaded time (Value chain o) = record { time = time; running = true; taken = None }
scan_loaded time (Written w c) = record { time = time; running = false; taken = Some w.taken }
scan_loaded time at = record { time = time; running = false; taken = None }

-- the chain goes on with a task of the thread
abbrev pub IsChainOf : Program → (t : ℕ) → Chain → Type 0
IsChainOf program t chain = IsTaskOf program t chain.running.0 × (chain.position ≤ greatest_tail)

-- the thread reads the pipe
abbrev pub IsWaitingOf : Program → (t : ℕ) → Waiting → Type 0
IsWaitingOf program t w = (w.idle.position ≤ greatest_tail) × ((pipe_def program w.pipe.0).reader.0 ≡ t)

-- what each row has from the words before it: tasks, events, pipes and timers of the thread, and positions up to the greatest tail
abbrev pub IsRowOf : Program → (t : ℕ) → ScanAt → Type 0
IsRowOf program t (Finished c running) = ForSome running (λ task. IsTaskOf program t task.0)
IsRowOf program t (Origin chain) = IsChainOf program t chain
IsRowOf program t (Value chain o) = IsChainOf program t chain × IsOwnOrigin program t o
IsRowOf program t (First chain e) = IsChainOf program t chain × IsOwnEvent program t e
IsRowOf program t (Slot c p) = p ≤ greatest_tail
IsRowOf program t (Taken idle pipe) = (idle.position ≤ greatest_tail) × ((pipe_def program pipe.0).reader.0 ≡ t)
IsRowOf program t (Writer w) = IsWaitingOf program t w
IsRowOf program t (Written w c) = IsWaitingOf program t w
IsRowOf program t (Item w) = IsWaitingOf program t w
IsRowOf program t (Timer idle timer) = (idle.position ≤ greatest_tail) × ((timer_def program timer.0).thread.0 ≡ t)
IsRowOf program t (Picked pick) = IsPickOf program pick
IsRowOf program t at = Unit {0}

-- registers that a scan comes to, where every word that it took was in the range of its place
pub record IsScanOf (program : Program) (scan : ScanMachine) : Type 0 where
  pub fits : IsScan program scan
  pub time : scan.time < 2 ^ 47
  pub row : IsRowOf program scan.thread.0 scan.at

-- a scan ends with nothing, or with such a pick
abbrev pub IsResultOf : Program → Scanned → Type 0
IsResultOf program (scanned.Pick pick) = IsPickOf program pick
IsResultOf program scanned.Quiet = Unit {0}
