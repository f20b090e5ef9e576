-- Behind a pick the kernel's accesses count down to its commit.
use Rattle.kernel_core.proofs.Common.{◌≡◌, ℕ, zero, suc, ◌+◌, ◌-◌, ◌<◌, cond, Bool, true, false, List, [], ◌∷◌, ◌++◌, length, refl, sym, ap, ◌∙◌, subst, arith, Actor, Memory, perform, answer, place_of, at_address, performed, performed_there, finds_there, is_valid, valid, below, memory_of, Option, Some, None, Model, Lasts, lasts_less, access, access_of-port, is_left, readings_of, SamePrivate, TaskMachine, Knows, KnowsAt, is_over, first_phase, Task, wants, takes, point_found, begin_scan, Setup, Board, Move, Cut, Turn, shape, sides, finds, kernel_access, kernel_turn, source_made, source_turn, clock_turn, row_of, turn, cut, moved_by, first_board, IsSetup, memory, state, KernelHolds, Holds, IsActor, AreMoves, ticks, turns, IsInRange}
use Rattle.ink_base.specs.declared.actor.Actor.TheVariants as actors
use Rattle.ink_base.specs.declared.ids.TaskId.{TaskId}
use Rattle.ink_layout.specs.declared.pick.Pick.{Pick}
use Rattle.ink_layout.specs.declared.kernel_point.KernelPoint.TheVariants as points
use Rattle.ink_layout.specs.Shape.{IsOnBoard}
use Rattle.never_cut.specs.Cost.{cost}
use Rattle.never_cut.specs.kept.Actors.{IsPrivate}
use Rattle.never_cut.specs.kept.Picked.{IsPicked}
use Rattle.task_run.specs.Machine.{begin, want, point}
use Rattle.task_run.specs.Remaining.{IsRemaining}
use Rattle.task_run.proofs.Counting.{every_access_counts, every_count_outlasts, machine_next, words_next}
use Rattle.task_run.proofs.LastAccesses.{every_last_commits, every_commit_is_last}
use Rattle.task_run.proofs.Remains.{every_pick_costs, is_over-false}
use Rattle.task_run.proofs.SamePicks.{take_pick}
use Rattle.kernel_core.specs.Costed.{kernel_turns, HasNoCut, HasPicked, next_point, IsServed, PickCosts, CountsDown, PicksCommit, EveryPickCommits}
use Rattle.kernel_core.proofs.Cuts.{cut_goes}
use Rattle.kernel_core.proofs.Firsts.{first_holds}
use Rattle.kernel_core.proofs.KernelPlaces.{kernel_on}
use Rattle.kernel_core.proofs.Others.{private_beside, source_beside}
use Rattle.kernel_core.proofs.Quiet.{perform_other}
use Rattle.kernel_core.proofs.Runs.{turn_begun, turn_goes, after_turn, after_cut}
use Rattle.kernel_core.proofs.SourcePlaces.{source_on}
use Rattle.kernel_core.proofs.Turns.{background_of}
use Rattle.fram_words.specs.Places as places

-- a board that holds, with these moves before it
pub record Ready (s : Setup) (count : ℕ) (b : Board) (moves : List Move) : Type 0 where
  pub holds : Holds s count b
  pub listed : AreMoves s count b.begun moves
  pub range : IsInRange (state s b) (ticks moves) (turns moves)

-- behind the first of them
ready_next : (s : Setup) (count : ℕ) (b : Board) (actor : Actor) (moves : List Move) → IsSetup s → Ready s count b (Turn actor ∷ moves) → Ready s count (turn s b actor) moves
ready_next s count b actor moves g k =
    let go = turn_goes s count b actor (ticks moves) (turns moves) g k.holds k.listed.0 k.listed.1 k.range in
    record {
      holds = go.holds;
      listed = subst (λ n. AreMoves s count n moves) (sym (turn_begun s b actor)) k.listed.2;
      range = after_turn s count b (turn s b actor) (ticks moves) (turns moves) go k.range;
    }

ready_behind : (s : Setup) (count : ℕ) (b : Board) (moves more : List Move) → IsSetup s → Ready s count b (moves ++ more) → Ready s count (moved_by s b moves) more
ready_behind s count b [] more g k = k
ready_behind s count b (Cut off ∷ moves) more g k =
    let go = cut_goes s count b off g k.holds k.listed.0 (let c = k.range.clock in omega arith) in
    ready_behind s count (cut s b off) moves more g (record {
      holds = go.holds;
      listed = k.listed.1;
      range = after_cut s count b off (ticks (moves ++ more)) (turns (moves ++ more)) go k.holds k.listed.0
          (record { clock = k.range.clock; counts = lasts_less (turns (Cut off ∷ (moves ++ more))) (turns (moves ++ more)) (state s b) (omega arith) k.range.counts });
    })
ready_behind s count b (Turn actor ∷ moves) more g k = ready_behind s count (turn s b actor) moves more g (ready_next s count b actor (moves ++ more) g k)

module _ (s : Setup) (count : ℕ) (b : Board) (g : IsSetup s) (h : Holds s count b) where
  -- the words after an access to a place of the board
  words_after : (a : places.Access) → is_valid (shape s) (place_of a) ≡ true → IsOnBoard s.program (place_of a) →
      memory_of (shape s) (performed (at_address (shape s) a) b.words) ≡ perform (memory s b) a
  words_after a there on = performed_there (shape s) b.words a there (rw h.size.words (below s.program (place_of a) on))

  -- a turn of the kernel performs its access
  kernel_words : Lasts 0 (state s b) → (memory s (kernel_turn s b) ≡ perform (memory s b) (wants s.program b.kernel)) × (finds b (kernel_access s b) ≡ answer (memory s b) (wants s.program b.kernel))
  kernel_words room =
      let on = kernel_on s (memory s b) (state s b) b.kernel g (background_of s count b g h) room h.registers in
      let there = valid s.program (place_of (wants s.program b.kernel)) on in
      (words_after (wants s.program b.kernel) there on, finds_there (shape s) b.words (wants s.program b.kernel) there)

  -- a turn of a source leaves the kernel's own words
  source_same : (i : ℕ) → i < length s.program.sources → SamePrivate (memory s b) (memory s (source_turn s b i))
  source_same i known = by_left (is_left (length (readings_of s.readings i)) (row_of b i))
    where
      made : SamePrivate (memory s b) (memory s (source_made s b i))
      made =
          let on = source_on s (memory s b) (state s b) (row_of b) i g known h.kept in
          let there = valid s.program (place_of (access (sides s) i (row_of b i))) on in
          let words : memory s (source_made s b i) ≡ perform (memory s b) (access (sides s) i (row_of b i)) =
          ap (λ a. memory_of (shape s) (performed a b.words)) (access_of-port (sides s) i (row_of b i)) ∙ words_after (access (sides s) i (row_of b i)) there on
          in
          λ q own. ap (λ (n : Memory). n q) words ∙ source_beside (sides s) (memory s b) i (row_of b i).accepted (row_of b i).next (row_of b i).stage q (private_beside q own)

      by_left : (c : Bool) → SamePrivate (memory s b) (memory s (cond c (source_made s b i) b))
      by_left true = made
      by_left false = λ q own. refl

  clock_same : SamePrivate (memory s b) (memory s (clock_turn s b))
  clock_same =
      let words : memory s (clock_turn s b) ≡ perform (memory s b) (places.Add places.Clock 1) = words_after (places.Add places.Clock 1) (valid s.program places.Clock tt) tt in
      λ q own. ap (λ (n : Memory). n q) words ∙ perform_other (memory s b) (places.Add places.Clock 1) q (λ e. subst IsPrivate (sym e) own)

-- a service of which so many accesses remain
pub record Serves (s : Setup) (b : Board) (pick : Pick) (n : ℕ) : Type 0 where
  pub machine : TaskMachine
  pub is : b.kernel ≡ Task machine
  pub pick_is : machine.pick ≡ pick
  pub remains : IsRemaining s.program (memory s b) machine n

serves_beside : (s : Setup) (b next : Board) (pick : Pick) (n : ℕ) → next.kernel ≡ b.kernel → SamePrivate (memory s b) (memory s next) → Serves s b pick n → Serves s next pick n
serves_beside s b next pick n kernel same h =
    record { machine = h.machine; is = kernel ∙ h.is; pick_is = h.pick_is; remains = every_count_outlasts s.program (memory s b) (memory s next) h.machine n same h.remains }

-- an access that isn't the last
serves_next : (s : Setup) (count : ℕ) (b : Board) (pick : Pick) (n : ℕ) → IsSetup s → Holds s count b → Lasts 0 (state s b) → Serves s b pick (suc (suc n)) → Serves s (kernel_turn s b) pick (suc n)
serves_next s count b pick n g holds room h =
    let words = kernel_words s count b g holds room in
    let r : TaskMachine = h.machine in
    let next : TaskMachine = machine_next s.program (memory s b) r in
    let rest : IsRemaining s.program (words_next s.program (memory s b) r) next (suc n) = every_access_counts s.program (memory s b) r (suc n) h.remains in
    let open_next : is_over next.phase ≡ false = is_over-false next.phase (rest.before 0 (omega arith)) in
    record {
      machine = next;
      is = ap (λ w. takes s.program b.kernel w) words.1 ∙ (ap (λ k. takes s.program k (answer (memory s b) (wants s.program k))) h.is ∙ ap (λ c. cond c (begin_scan (next.stamp + 1)) (Task next)) open_next);
      pick_is = take_pick s.program r (answer (memory s b) (want s.program r)) ∙ h.pick_is;
      remains = subst (λ (m : Memory). IsRemaining s.program m next (suc n)) (sym (words.0 ∙ ap (λ k. perform (memory s b) (wants s.program k)) h.is)) rest;
    }

-- what the next access means
served_is : (s : Setup) (b : Board) (pick : Pick) (n : ℕ) → Serves s b pick n → IsServed s b pick n
served_is s b pick n h =
    let r : TaskMachine = h.machine in
    let word : ℕ = finds b (kernel_access s b) in
    let means : next_point s b ≡ point r = ap (λ k. point_found s.program k word) h.is in
    let own : points.Commit r.pick.thread ≡ points.Commit pick.thread = ap (λ (p : Pick). points.Commit p.thread) h.pick_is in
    record {
      machine = r;
      serves = h.is;
      pick_is = h.pick_is;
      remains = h.remains;
      commits = (
        λ is. every_commit_is_last s.program (memory s b) r n h.remains (sym means ∙ (is ∙ sym own)),
        λ one. means ∙ (every_last_commits s.program (memory s b) r (subst (λ k. IsRemaining s.program (memory s b) r k) one h.remains) ∙ own),
      );
    }

-- a turn of another actor leaves the service
serves_source : (s : Setup) (count : ℕ) (b : Board) (i : ℕ) (pick : Pick) (n : ℕ) → IsSetup s → Holds s count b → i < length s.program.sources → Serves s b pick n → Serves s (source_turn s b i) pick n
serves_source s count b i pick n g holds known h =
    serves_beside s b (source_turn s b i) pick n (same_kernel (is_left (length (readings_of s.readings i)) (row_of b i))) (source_same s count b g holds i known) h
  where
    same_kernel : (c : Bool) → (cond c (source_made s b i) b).kernel ≡ b.kernel
    same_kernel true = refl
    same_kernel false = refl

serves_clock : (s : Setup) (count : ℕ) (b : Board) (pick : Pick) (n : ℕ) → IsSetup s → Holds s count b → Serves s b pick n → Serves s (clock_turn s b) pick n
serves_clock s count b pick n g holds h = serves_beside s b (clock_turn s b) pick n refl (clock_same s count b g holds) h

-- the moves behind a pick count down
counts_down : (s : Setup) (count : ℕ) (b : Board) (more rest : List Move) (pick : Pick) (n : ℕ) → IsSetup s → Ready s count b (more ++ rest) → HasNoCut more → Serves s b pick n → kernel_turns more < n →
    IsServed s (moved_by s b more) pick (n - kernel_turns more)
counts_down s count b [] rest pick n g k uncut h lt = let all : n ≡ n - 0 = omega arith in subst (λ z. IsServed s b pick z) all (served_is s b pick n h)
counts_down s count b (Cut off ∷ more) rest pick n g k uncut h lt = absurd uncut
counts_down s count b (Turn actors.Kernel ∷ more) rest pick zero g k uncut h lt = absurd (omega arith)
counts_down s count b (Turn actors.Kernel ∷ more) rest pick (suc zero) g k uncut h lt = absurd (omega arith)
counts_down s count b (Turn actors.Kernel ∷ more) rest pick (suc (suc n)) g k uncut h lt =
    let room : Lasts 0 (state s b) = lasts_less (turns (Turn actors.Kernel ∷ (more ++ rest))) 0 (state s b) (omega arith) k.range.counts in
    let less : suc n - kernel_turns more ≡ suc (suc n) - suc (kernel_turns more) = omega arith in
    subst (λ z. IsServed s (moved_by s (kernel_turn s b) more) pick z) less
    (counts_down s count (kernel_turn s b) more rest pick (suc n) g (ready_next s count b actors.Kernel (more ++ rest) g k) uncut (serves_next s count b pick n g k.holds room h) (omega arith))
counts_down s count b (Turn (actors.Source i) ∷ more) rest pick n g k uncut h lt =
    counts_down s count (source_turn s b i.0) more rest pick n g (ready_next s count b (actors.Source i) (more ++ rest) g k) uncut (serves_source s count b i.0 pick n g k.holds k.listed.1 h) lt
counts_down s count b (Turn actors.Clock ∷ more) rest pick n g k uncut h lt =
    counts_down s count (clock_turn s b) more rest pick n g (ready_next s count b actors.Clock (more ++ rest) g k) uncut (serves_clock s count b pick n g k.holds h) lt

-- what the registers know where a pick begins
picked_at : (s : Setup) (words : Memory) (m : Model) (pick : Pick) (stamp : ℕ) → Knows s.program words m (begin pick stamp) → IsPicked s.program words m pick × (stamp ≡ m.commits)
picked_at s words m pick stamp knows = by_running pick.running knows
  where
    by_running : (running : Option TaskId) → KnowsAt s.program words m (begin pick stamp) (first_phase running) → IsPicked s.program words m pick × (stamp ≡ m.commits)
    by_running None h = (h.picked, h.stamp)
    by_running (Some task) h = (h.picked, h.stamp)

-- a service that begins
serves_first : (s : Setup) (count : ℕ) (b : Board) (pick : Pick) → IsSetup s → Holds s count b → HasPicked b pick → Serves s b pick (cost s.program (state s b) pick.thread.0)
serves_first s count b pick g holds picked =
    let knows = subst (λ kernel. KernelHolds s.program (memory s b) (state s b) kernel) picked.1 holds.registers in
    let at = picked_at s (memory s b) (state s b) pick picked.0 knows.0 in
    record {
      machine = begin pick picked.0;
      is = picked.1;
      pick_is = refl;
      remains = every_pick_costs s.program s.readings (memory s b) (state s b) pick picked.0 (background_of s count b g holds) at.0 at.1;
    }

pub pick_costs : (s : Setup) (count : ℕ) (b : Board) → IsSetup s → Holds s count b → PickCosts s b
pick_costs s count b g holds pick picked = served_is s b pick (cost s.program (state s b) pick.thread.0) (serves_first s count b pick g holds picked)

-- the service that is said to be served
serves_said : (s : Setup) (b : Board) (pick : Pick) (n : ℕ) → IsServed s b pick n → Serves s b pick n
serves_said s b pick n h = record { machine = h.machine; is = h.serves; pick_is = h.pick_is; remains = h.remains }

-- each turn counts
pub turn_counts : (s : Setup) (count : ℕ) (b : Board) (actor : Actor) → IsSetup s → Holds s count b → Lasts 0 (state s b) → IsActor s actor → CountsDown s b actor (turn s b actor)
turn_counts s count b actors.Kernel g holds room on = λ pick rest served more. by_rest pick rest served more
  where
    by_rest : (pick : Pick) (rest : ℕ) → IsServed s b pick rest → 1 < rest → IsServed s (kernel_turn s b) pick (rest - 1)
    by_rest pick zero served more = absurd (omega arith)
    by_rest pick (suc zero) served more = absurd (omega arith)
    by_rest pick (suc (suc n)) served more =
        let less : suc n ≡ suc (suc n) - 1 = omega arith in
        subst (λ z. IsServed s (kernel_turn s b) pick z) less (served_is s (kernel_turn s b) pick (suc n) (serves_next s count b pick n g holds room (serves_said s b pick (suc (suc n)) served)))
turn_counts s count b (actors.Source i) g holds room on = λ pick rest served. served_is s (source_turn s b i.0) pick rest (serves_source s count b i.0 pick rest g holds on (serves_said s b pick rest served))
turn_counts s count b actors.Clock g holds room on = λ pick rest served. served_is s (clock_turn s b) pick rest (serves_clock s count b pick rest g holds (serves_said s b pick rest served))

pub moves_commit : (s : Setup) (count : ℕ) (first : Board) (listed : List Move) → IsSetup s → Ready s count first listed → PicksCommit s first listed
moves_commit s count first listed g ready moves more rest pick split uncut picked lt =
    let k = ready_behind s count first moves (more ++ rest) g (subst (λ (l : List Move). Ready s count first l) split ready) in
    let b : Board = moved_by s first moves in
    counts_down s count b more rest pick (cost s.program (state s b) pick.thread.0) g k uncut (serves_first s count b pick g k.holds picked) lt

pub every_pick_commits : EveryPickCommits
every_pick_commits s words charges moves g stands are range =
    moves_commit s charges (first_board s words charges) moves g (record { holds = first_holds s words charges g stands; listed = are; range = range })
