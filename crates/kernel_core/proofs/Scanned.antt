-- Each commit of a charge stands behind a scan of the same charge, after every list of turns and cuts.
use Rattle.kernel_core.proofs.Common.{◌≡◌, ◌⊎◌, inl, inr, ℕ, zero, suc, ◌-◌, ◌<◌, ◌≤◌, cond, Bool, true, false, List, [], ◌∷◌, ◌++◌, length, set, replicate, Option, Some, None, refl, sym, ap, ◌∙◌, subst, arith, length-set, get_or-set_same, length-replicate, ThreadId, Actor, Event, Entry, Program, entry_of_point, slot_in, is_left, point_of, Point, port_of, JobParts, IsJob, readings_of, noted, BootAt, BootMachine, boot_takes, boot_point, boot_stamp, ScanAt, scan_point, look_point, event_at, Kernel, Boot, Scan, Task, after_boot, takes, point_found, ChargeRecord, charge_of, not_begun, with_kernel, with_source, with_tick, begun, Setup, Board, Move, Cut, Turn, sides, charged, finds, kernel_access, source_access, source_made, row_of, entry_of_source, turn, cut, moved_by, first_board, AreMoves, moves, run, setup_of}
use Rattle.ink_base.specs.declared.actor.Actor.TheVariants as actors
use Rattle.ink_base.specs.declared.entry.Entry.TheVariants as entries
use Rattle.push_core.specs.declared.point.Point.TheVariants as sources
use Rattle.reboot.specs.declared.boot_at.BootAt.TheVariants as boots
use Rattle.priority_sched.specs.declared.scan_at.ScanAt.TheVariants as scans
use Rattle.kernel_core.specs.Scanned.{entry_at, CommitsAreScanned, ChargesAreScanned, EveryCommitScanned}
use Rattle.kernel_core.proofs.Runs.{turn_begun}
use Rattle.kernel_core.proofs.JobMoves.{job_moves}

-- a scan is among the entries
abbrev HasScan : List Entry → Type 0
HasScan es = (j : ℕ) × (j < length es) × (entry_at es j ≡ entries.Scan)

-- an entry stays where it is
pub stays : (es : List Entry) (e : Entry) (j : ℕ) → j < length es → entry_at (es ++ e ∷ []) j ≡ entry_at es j
stays [] e j lt = absurd (omega arith)
stays (x ∷ es) e zero lt = refl
stays (x ∷ es) e (suc j) lt = stays es e j (omega arith)

scan_stays : (es : List Entry) (e : Entry) → HasScan es → HasScan (es ++ e ∷ [])
scan_stays [] e has = let lt = has.1 in absurd (omega arith)
scan_stays (x ∷ es) e has = (has.0, more (x ∷ es) has.0 has.1, stays (x ∷ es) e has.0 has.1 ∙ has.2)
  where
    more : (l : List Entry) (j : ℕ) → j < length l → j < length (l ++ e ∷ [])
    more [] j lt = absurd (omega arith)
    more (y ∷ l) zero lt = omega arith
    more (y ∷ l) (suc j) lt = let below = more l j (omega arith) in omega arith

scan_added : (es : List Entry) → HasScan (es ++ entries.Scan ∷ [])
scan_added [] = (0, omega arith, refl)
scan_added (x ∷ es) = let has = scan_added es in (suc has.0, (let lt = has.1 in omega arith), has.2)

-- a commit is an old one or the new entry
commit_at : (es : List Entry) (e : Entry) (k : ℕ) (t : ThreadId) → entry_at (es ++ e ∷ []) k ≡ entries.Commit t → (entry_at es k ≡ entries.Commit t) ⊎ ((e ≡ entries.Commit t) × (k ≡ length es))
commit_at [] e zero t is = inr (is, refl)
commit_at [] e (suc k) t is = inl is
commit_at (x ∷ es) e zero t is = inl is
commit_at (x ∷ es) e (suc k) t is = elim (commit_at es e k t is) [ inl old ↦ inl old | inr new ↦ inr (new.0, (let at = new.1 in omega arith)) ]

-- a commit is within the entries
within : (es : List Entry) (k : ℕ) (t : ThreadId) → entry_at es k ≡ entries.Commit t → k < length es
within [] k t is = cc
within (x ∷ es) zero t is = omega arith
within (x ∷ es) (suc k) t is = let lt = within es k t is in omega arith

-- so an entry may be added that is no commit, or behind a scan
scanned_more : (es : List Entry) (e : Entry) → CommitsAreScanned es → ((t : ThreadId) → e ≡ entries.Commit t → HasScan es) → CommitsAreScanned (es ++ e ∷ [])
scanned_more es e all new k t is = by_place (commit_at es e k t is)
  where
    by_place : ((entry_at es k ≡ entries.Commit t) ⊎ ((e ≡ entries.Commit t) × (k ≡ length es))) → (j : ℕ) × (j < k) × (entry_at (es ++ e ∷ []) j ≡ entries.Scan)
    by_place (inl old) =
        let s = all k t old in
        let before = s.1 in
        let lt = within es k t old in
        (s.0, before, stays es e s.0 (omega arith) ∙ s.2)
    by_place (inr last) =
        let s = new t last.0 in
        let before = s.1 in
        let at = last.1 in
        (s.0, omega arith, stays es e s.0 before ∙ s.2)

-- a list of charges with one replaced has the old ones and the new one
set_keeps : (cs : List ChargeRecord) (i : ℕ) (x : ChargeRecord) → ChargesAreScanned cs → CommitsAreScanned x.entries → ChargesAreScanned (set cs i x)
set_keeps [] i x all here n = all n
set_keeps (c ∷ cs) zero x all here zero = here
set_keeps (c ∷ cs) zero x all here (suc n) = all (suc n)
set_keeps (c ∷ cs) (suc i) x all here zero = all zero
set_keeps (c ∷ cs) (suc i) x all here (suc n) = set_keeps cs i x (λ k. all (suc k)) here n

none_yet : (count n k : ℕ) (t : ThreadId) (sources : ℕ) → entry_at (charge_of (replicate count (not_begun sources)) n).entries k ≡ entries.Commit t → ⊥
none_yet zero n k t sources is = cc
none_yet (suc count) zero k t sources is = cc
none_yet (suc count) (suc n) k t sources is = none_yet count n k t sources is

-- the scan at this row has loaded the clock, and so noted that it began
abbrev IsUnderWay : ScanAt → Type 0
IsUnderWay scans.Clock = ⊥
IsUnderWay _ = Unit {0}

-- the kernel is in a scan that is under way, or serves its pick
abbrev HasScanned : Kernel → Type 0
HasScanned (Boot boot) = ⊥
HasScanned (Scan stamp scan) = IsUnderWay scan.at
HasScanned (Task machine) = Unit {0}

-- only such a kernel commits
boot_commits : (thread t : ThreadId) (at : BootAt) → entry_of_point (boot_point thread at) ≡ Some (entries.Commit t) → ⊥
boot_commits thread t boots.Commit is = cc
boot_commits thread t (boots.Stamp c) is = cc
boot_commits thread t (boots.Finished c) is = cc
boot_commits thread t (boots.Slot p) is = cc
boot_commits thread t (boots.Ack p source count) is = cc
boot_commits thread t (boots.Empty p) is = cc
boot_commits thread t boots.Over is = cc

look_commits : (thread t : ThreadId) (o : Option Event) → entry_of_point (look_point thread o) ≡ Some (entries.Commit t) → ⊥
look_commits thread t None is = cc
look_commits thread t (Some e) is = cc

scan_commits : (thread t : ThreadId) (at : ScanAt) (word : ℕ) → entry_of_point (scan_point thread at word) ≡ Some (entries.Commit t) → ⊥
scan_commits thread t scans.Clock word is = cc
scan_commits thread t (scans.Slot c p) word is = look_commits thread t (event_at p (slot_in word)) is
scan_commits thread t _ word is = cc

kernel_commits : (program : Program) (kernel : Kernel) (word : ℕ) (t : ThreadId) → entry_of_point (point_found program kernel word) ≡ Some (entries.Commit t) → HasScanned kernel
kernel_commits program (Boot boot) word t is = absurd (boot_commits boot.thread t boot.at is)
kernel_commits program (Scan stamp scan) word t is = absurd (scan_commits scan.thread t scan.at word is)
kernel_commits program (Task machine) word t is = tt

-- and it has been one before, or its access is the load of the clock that begins a scan
not_booted : (boot : BootMachine) (o : Option ℕ) → HasScanned (after_boot boot o) → ⊥
not_booted boot None has = has
not_booted boot (Some stamp) has = has

under_way : (thread : ThreadId) (at : ScanAt) (word : ℕ) → IsUnderWay at ⊎ (entry_of_point (scan_point thread at word) ≡ Some entries.Scan)
under_way thread scans.Clock word = inr refl
under_way thread _ word = inl tt

kernel_scans : (program : Program) (kernel : Kernel) (word : ℕ) → HasScanned (takes program kernel word) → HasScanned kernel ⊎ (entry_of_point (point_found program kernel word) ≡ Some entries.Scan)
kernel_scans program (Boot boot) word has =
    let next : BootMachine = boot_takes program boot.thread boot.stamp boot.at word in
    absurd (not_booted next (boot_stamp next) has)
kernel_scans program (Scan stamp scan) word has = under_way scan.thread scan.at word
kernel_scans program (Task machine) word has = inl tt

-- a source notes no commit
source_commits : (i : ℕ) (p : Point) (t : ThreadId) → entry_of_source i p ≡ Some (entries.Commit t) → ⊥
source_commits i sources.Nothing t is = cc
source_commits i sources.Pushed t is = cc
source_commits i sources.Refused t is = cc
source_commits i sources.Skipped t is = cc

-- the commits of each charge are scanned, and where the kernel has scanned, it did so in the charge at hand
record Scans (count : ℕ) (b : Board) : Type 0 where
  size : length b.charges ≡ count
  few : b.begun ≤ count
  scanned : ChargesAreScanned b.charges
  scan : HasScanned b.kernel → HasScan (charge_of b.charges (b.begun - 1)).entries

-- what a turn may note
record MayNote (now next : Kernel) (o : Option Entry) : Type 0 where
  commit : (t : ThreadId) → o ≡ Some (entries.Commit t) → HasScanned now
  scan : HasScanned next → HasScanned now ⊎ (o ≡ Some entries.Scan)

noted_scanned : (es : List Entry) (o : Option Entry) → CommitsAreScanned es → ((t : ThreadId) → o ≡ Some (entries.Commit t) → HasScan es) → CommitsAreScanned (noted es o)
noted_scanned es None all new = all
noted_scanned es (Some e) all new = scanned_more es e all (λ t is. new t (ap (λ x. Some x) is))

noted_has : (es : List Entry) (o : Option Entry) → HasScan es → HasScan (noted es o)
noted_has es None has = has
noted_has es (Some e) has = scan_stays es e has

-- a turn that notes an entry in the charge at hand
notes : (count : ℕ) (b next : Board) (f : ChargeRecord → ChargeRecord) (o : Option Entry) → Scans count b → 0 < b.begun → next.charges ≡ charged b f → next.begun ≡ b.begun →
    (f (charge_of b.charges (b.begun - 1))).entries ≡ noted (charge_of b.charges (b.begun - 1)).entries o → MayNote b.kernel next.kernel o → Scans count next
notes count b next f o h some charges begun is may =
    let size = h.size in
    let few = h.few in
    let old : List Entry = (charge_of b.charges (b.begun - 1)).entries in
    let new : ChargeRecord = f (charge_of b.charges (b.begun - 1)) in
    let at : charge_of next.charges (next.begun - 1) ≡ new =
    ap (λ (l : List ChargeRecord). charge_of l (next.begun - 1)) charges ∙ (ap (λ n. charge_of (charged b f) (n - 1)) begun ∙ get_or-set_same b.charges (b.begun - 1) new (not_begun 0) (omega arith)) in
    record {
      size = ap (λ l. length l) charges ∙ (length-set b.charges (b.begun - 1) new ∙ size);
      few = omega arith;
      scanned = subst (λ l. ChargesAreScanned l) (sym charges)
          (set_keeps b.charges (b.begun - 1) new h.scanned
          (subst (λ l. CommitsAreScanned l) (sym is) (noted_scanned old o (h.scanned (b.begun - 1)) (λ t commit. h.scan (may.commit t commit)))));
      scan = λ has. subst (λ (c : ChargeRecord). HasScan c.entries) (sym at) (subst (λ l. HasScan l) (sym is) (by_scan old (may.scan has) h.scan));
    }
  where
    by_scan : (es : List Entry) → (HasScanned b.kernel ⊎ (o ≡ Some entries.Scan)) → (HasScanned b.kernel → HasScan es) → HasScan (noted es o)
    by_scan es (inl has) scan = noted_has es o (scan has)
    by_scan es (inr begins) scan = subst (λ x. HasScan (noted es x)) (sym begins) (scan_added es)

turn_scans : (s : Setup) (count : ℕ) (b : Board) (a : Actor) → Scans count b → 0 < b.begun → Scans count (turn s b a)
turn_scans s count b actors.Kernel h some =
    let word = finds b (kernel_access s b) in
    let o = entry_of_point (point_found s.program b.kernel word) in
    notes count b (turn s b actors.Kernel) (with_kernel o) o h some refl refl refl (record { commit = λ t is. kernel_commits s.program b.kernel word t is; scan = λ has. kernel_scans s.program b.kernel word has })
turn_scans s count b (actors.Source i) h some = by_left (is_left (length (readings_of s.readings i.0)) (row_of b i.0))
  where
    by_left : (left : Bool) → Scans count (cond left (source_made s b i.0) b)
    by_left true =
        let p = point_of (port_of (sides s) i.0).queue.places (row_of b i.0).stage (finds b (source_access s b i.0)) in
        notes count b (source_made s b i.0) (with_source i.0 (entry_of_source i.0 p)) (entry_of_source i.0 p) h some refl refl refl
        (record { commit = λ t is. absurd (source_commits i.0 p t is); scan = λ has. inl has })
    by_left false = h
turn_scans s count b actors.Clock h some =
    notes count b (turn s b actors.Clock) with_tick (Some (entries.Tick 1)) h some refl refl refl (record { commit = λ t is. cc; scan = λ has. inl has })

-- a cut begins a charge, with the kernel back in its boot
cut_scans : (s : Setup) (count : ℕ) (b : Board) (off : ℕ) → Scans count b → b.begun < count → Scans count (cut s b off)
cut_scans s count b off h left =
    let new : ChargeRecord = begun off (charge_of b.charges b.begun) in
    record {
      size = length-set b.charges b.begun new ∙ h.size;
      few = omega arith;
      scanned = set_keeps b.charges b.begun new h.scanned (scanned_more (charge_of b.charges b.begun).entries (entries.Tick off) (h.scanned b.begun) (λ t is. cc));
      scan = λ has. absurd has;
    }

moves_scan : (s : Setup) (count : ℕ) (b : Board) (moves : List Move) → Scans count b → AreMoves s count b.begun moves → Scans count (moved_by s b moves)
moves_scan s count b [] h are = h
moves_scan s count b (Cut off ∷ moves) h are = moves_scan s count (cut s b off) moves (cut_scans s count b off h are.0) are.1
moves_scan s count b (Turn actor ∷ moves) h are =
    moves_scan s count (turn s b actor) moves (turn_scans s count b actor h are.0) (subst (λ n. AreMoves s count n moves) (sym (turn_begun s b actor)) are.2)

pub every_commit_scanned : EveryCommitScanned
every_commit_scanned s words charges moves are =
    (moves_scan s charges (first_board s words charges) moves
    (record {
      size = length-replicate charges (not_begun (length s.program.sources));
      few = omega arith;
      scanned = λ n k t is. absurd (none_yet charges n k t (length s.program.sources) is);
      scan = λ has. absurd has;
    })
    are).scanned

-- each charge of a job's run
pub run_scanned : (job : JobParts) (words : List ℕ) → IsJob job → ChargesAreScanned (run (setup_of job) words job.charges).charges
run_scanned job words is = every_commit_scanned (setup_of job) words (length job.charges) (moves job.charges) (job_moves job is)
