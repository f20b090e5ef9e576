-- What the registers of a scan know of the words and the state.
use Rattle.std.specs.Prelude.{◌≡◌, ℕ, ◌+◌, ◌<◌, ◌≤◌, true, false, length, Some, None}
use Rattle.ink_base.specs.declared.event.Event.{Event}
use Rattle.ink_base.specs.declared.event.Origin as origin
use Rattle.task_isa.specs.declared.program.Program.{Program}
use Rattle.fram_words.specs.Places.{Memory, perform, answer}
use Rattle.fram_words.specs.Places as places
use Rattle.ink_layout.specs.Points.{entry_of_point}
use Rattle.never_cut.specs.declared.model.Model.{Model}
use Rattle.never_cut.specs.declared.scan_model.ScanModel.{ScanModel}
use Rattle.never_cut.specs.State.{thread_of, pipe_of, is_looked}
use Rattle.never_cut.specs.Pending.{has_item, has_due}
use Rattle.never_cut.specs.Entries.{Readings, IsCalm, IsPassed, ArePassed}
use Rattle.never_cut.specs.Journal.{moved}
use Rattle.never_cut.specs.kept.Steps.{IsKept}
use Rattle.never_cut.specs.kept.Picked.{IsPicked}
use Rattle.priority_sched.specs.declared.chain.Chain.{Chain}
use Rattle.priority_sched.specs.declared.idle.Idle.{Idle}
use Rattle.priority_sched.specs.declared.idle.Waiting.{Waiting}
use Rattle.priority_sched.specs.declared.scan_at.ScanAt.{ScanAt}
use Rattle.priority_sched.specs.declared.scan_at.ScanAt.TheVariants.{Clock, Commit, Running, Finished, Origin, Value, First, Slot, Taken, Writer, Written, Item, Timer, Picked, Quiet}
use Rattle.priority_sched.specs.declared.machine.ScanMachine.{ScanMachine}
use Rattle.priority_sched.specs.Order.{priority_of}
use Rattle.priority_sched.specs.Scan.{scan_wants, scan_takes, scan_point, writer_of, is_reader, is_owner}

-- the scan of the state has this time; the threads of at least this priority were passed, and no other was looked at
pub record IsReached (program : Program) (m : Model) (priority time : ℕ) : Type 0 where
  pub scan : ScanModel
  pub scanned : m.scan ≡ Some scan
  pub time_is : time ≡ scan.time
  pub passed : (u : ℕ) → u < length program.threads → priority ≤ priority_of program u → IsPassed program m scan u
  pub rest : (u : ℕ) → u < length program.threads → priority_of program u < priority → is_looked scan.looked u ≡ false

-- exactly the threads above thread t were passed
abbrev pub IsBefore : Program → Model → (t time : ℕ) → Type 0
IsBefore program m t time = IsReached program m (priority_of program t + 1) time

-- every thread was passed
abbrev pub ArePassedAll : Program → Model → (time : ℕ) → Type 0
ArePassedAll program m time = IsReached program m 0 time

-- the registers of a running chain are those of thread t; exactly the threads above it were passed
pub record KnowsChain (program : Program) (words : Memory) (m : Model) (t time : ℕ) (chain : Chain) : Type 0 where
  pub before : IsBefore program m t time
  pub commit_word : chain.commit_word ≡ words (places.Commit t)
  pub running : (thread_of m t).running ≡ Some chain.running
  pub position : chain.position ≡ (thread_of m t).released

-- thread t has an event of this origin
abbrev pub HasOrigin : Model → (t : ℕ) → origin.Origin → Type 0
HasOrigin m t o = (e : Event) × ((thread_of m t).event ≡ Some e) × (o ≡ e.origin)

-- thread t is idle and was looked at, and the registers are its; exactly the threads above it were passed, and no other was looked at
pub record KnowsIdle (program : Program) (words : Memory) (m : Model) (t time : ℕ) (idle : Idle) : Type 0 where
  pub scan : ScanModel
  pub scanned : m.scan ≡ Some scan
  pub time_is : time ≡ scan.time
  pub passed : ArePassed program m scan t
  pub rest : (u : ℕ) → u < length program.threads → priority_of program u < priority_of program t → is_looked scan.looked u ≡ false
  pub looked : is_looked scan.looked t ≡ true
  pub running : (thread_of m t).running ≡ None
  pub commit_word : idle.commit_word ≡ words (places.Commit t)
  pub position : idle.position ≡ (thread_of m t).released

-- of the pipes below a number, none that thread t reads has an item
abbrev pub AreEmptyBelow : Program → Model → (t q : ℕ) → Type 0
AreEmptyBelow program m t q = (k : ℕ) → k < q → has_item program m t k ≡ false

-- of the timers below a number, none of thread t is due
abbrev pub AreOffBelow : Program → Model → (t time j : ℕ) → Type 0
AreOffBelow program m t time j = (k : ℕ) → k < j → has_due program m t time k ≡ false

-- the pipe is the first that thread t reads behind those that have no item
pub record KnowsPipe (program : Program) (words : Memory) (m : Model) (t time : ℕ) (idle : Idle) (q : ℕ) : Type 0 where
  pub idle_is : KnowsIdle program words m t time idle
  pub known : q < length program.pipes
  pub reads : is_reader program t q ≡ true
  pub empty : AreEmptyBelow program m t q

-- and as many of its items were taken
pub record KnowsWaiting (program : Program) (words : Memory) (m : Model) (t time : ℕ) (w : Waiting) : Type 0 where
  pub pipe : KnowsPipe program words m t time w.idle w.pipe.0
  pub taken : w.taken ≡ (pipe_of m w.pipe.0).taken

-- the timer is the first of thread t behind those that aren't due, and no pipe gives the thread an item
pub record KnowsTimer (program : Program) (words : Memory) (m : Model) (t time : ℕ) (idle : Idle) (j : ℕ) : Type 0 where
  pub idle_is : KnowsIdle program words m t time idle
  pub known : j < length program.timers
  pub own : is_owner program t j ≡ true
  pub empty : AreEmptyBelow program m t (length program.pipes)
  pub off : AreOffBelow program m t time j

-- what is known of thread t in each row
abbrev pub ScanKnows : Program → Memory → Model → (t time : ℕ) → ScanAt → Type 0
ScanKnows program words m t time Clock = Unit {0}
ScanKnows program words m t time Commit = IsBefore program m t time
ScanKnows program words m t time (Running c) = IsBefore program m t time × (c ≡ words (places.Commit t))
ScanKnows program words m t time (Finished c running) = IsBefore program m t time × (c ≡ words (places.Commit t)) × (running ≡ (thread_of m t).running)
ScanKnows program words m t time (Origin chain) = KnowsChain program words m t time chain
ScanKnows program words m t time (Value chain o) = KnowsChain program words m t time chain × HasOrigin m t o
ScanKnows program words m t time (First chain e) = KnowsChain program words m t time chain × ((thread_of m t).event ≡ Some e)
ScanKnows program words m t time (Slot c p) =
    IsBefore program m t time × (c ≡ words (places.Commit t)) × (p ≡ (thread_of m t).released) × ((thread_of m t).running ≡ None)
ScanKnows program words m t time (Taken idle pipe) = KnowsPipe program words m t time idle pipe.0
ScanKnows program words m t time (Writer w) = KnowsWaiting program words m t time w
ScanKnows program words m t time (Written w c) = KnowsWaiting program words m t time w × (c ≡ words (places.Commit (writer_of program w.pipe.0)))
ScanKnows program words m t time (Item w) = KnowsWaiting program words m t time w × (0 < length (pipe_of m w.pipe.0).items)
ScanKnows program words m t time (Timer idle timer) = KnowsTimer program words m t time idle timer.0
ScanKnows program words m t time (Picked pick) = IsPicked program words m pick
ScanKnows program words m t time Quiet = ArePassedAll program m time

-- no thread has a finished event
pub record ScanHolds (program : Program) (words : Memory) (m : Model) (scan : ScanMachine) : Type 0 where
  pub known : scan.thread.0 < length program.threads
  pub calm : IsCalm program m
  pub knows : ScanKnows program words m scan.thread.0 scan.time scan.at

-- the wanted access is kept, and the registers after it know the words and the state after it
pub record ScanStep (program : Program) (readings : Readings) (words : Memory) (m : Model) (scan : ScanMachine) : Type 0 where
  pub kept :
      let access = scan_wants program scan.thread.0 scan.at in
      IsKept program readings words m access (entry_of_point (scan_point scan.thread scan.at (answer words access)))
  pub holds :
      let access = scan_wants program scan.thread.0 scan.at in
      let entry = entry_of_point (scan_point scan.thread scan.at (answer words access)) in
      ScanHolds program (perform words access) (moved program readings m entry)
      (scan_takes program scan.thread scan.time scan.at (answer words access))
