-- In a whole run each pick commits when the meaning of its task says.
use Rattle.kernel_core.proofs.Common.{Actor, ◌<◌, turn, IsActor, turns_from, ◌≡◌, ℕ, ◌+◌, List, length, refl, subst, sym, arith, Layout, AreFirstWords, JobParts, IsJob, charge_turns, Pusher, Lasts, lasts_less, Board, first_board, AreMoves, turns, state, moves, setup_of, Recorded, IsCore}
use Rattle.kernel_core.specs.Costed.{CountsDown, PicksCommit}
use Rattle.kernel_core.proofs.Costed.{turn_counts, moves_commit, every_pick_commits}
use Rattle.kernel_core.proofs.JobMoves.{charges_ticks, charges_turns, job_first, job_moves, job_range, job_setup}

-- each turn of a core counts
pub core_counts : (job : JobParts) (l : Layout) (b : Board) (room : ℕ) (ps : List Pusher) (records : List Recorded) (actor : Actor) → IsCore job l b room ps records → 0 < room → IsActor (setup_of job) actor →
    CountsDown (setup_of job) b actor (turn (setup_of job) b actor)
core_counts job l b room ps records actor h some on =
    turn_counts (setup_of job) (length job.charges) b actor h.is_setup h.holds (lasts_less (room + turns_from job b.begun) 0 (state (setup_of job) b) (omega arith) h.range.counts) on

-- from a core that has begun no charge
pub core_commits : (job : JobParts) (l : Layout) (b : Board) (room : ℕ) (ps : List Pusher) (records : List Recorded) → IsCore job l b room ps records → IsJob job → b.begun ≡ 0 →
    PicksCommit (setup_of job) b (moves job.charges)
core_commits job l b room ps records h is none =
    let few = charges_ticks (length job.program.sources) job.charges is.charges.right in
    let all = charges_turns job.charges in
    let clock = h.range.clock in
    let left : turns_from job b.begun ≡ charge_turns job.charges = subst (λ n. turns_from job n ≡ charge_turns job.charges) (sym none) refl in
    moves_commit (setup_of job) (length job.charges) b (moves job.charges) h.is_setup (record {
      holds = h.holds;
      listed = subst (λ n. AreMoves (setup_of job) (length job.charges) n (moves job.charges)) (sym none) (job_moves job is);
      range = record {
        clock = omega arith;
        counts = lasts_less (room + charge_turns job.charges) (turns (moves job.charges)) (state (setup_of job) b) (omega arith) (subst (λ n. Lasts (room + n) (state (setup_of job) b)) left h.range.counts);
      };
    })

-- from the words of a job's start on
pub run_commits : (job : JobParts) (words : List ℕ) → IsJob job → AreFirstWords job.program job.start words → PicksCommit (setup_of job) (first_board (setup_of job) words (length job.charges)) (moves job.charges)
run_commits job words is image =
    every_pick_commits (setup_of job) words (length job.charges) (moves job.charges) (job_setup job is) (job_first job words is image) (job_moves job is) (job_range job is)
