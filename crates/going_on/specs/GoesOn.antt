-- What the two runs of a divided job are to the run of the whole.
use Rattle.std.specs.Prelude.{◌≡◌, ℕ, ◌<◌, ◌≤◌, List, ◌++◌, length}
use Rattle.ink_base.specs.declared.actor.Actor.{Actor}
use Rattle.ink_base.specs.declared.entry.Entry.{Entry}
use Rattle.job_parts.specs.Job.{AreFirstWords, IsJob, JobParts, first_of, words_in}
use Rattle.job_parts.specs.declared.charge.Charge.{Charge}
use Rattle.never_cut.specs.Journal.{IsLegal, after}
use Rattle.never_cut.specs.Images.{AreListed}
use Rattle.never_cut.specs.Worn.{IsWorn}
use Rattle.kernel_core.specs.Board.{Board, journal}
use Rattle.kernel_core.specs.Core.{setup_of}
use Rattle.kernel_core.specs.Made.{made_by}
use Rattle.kernel_core.specs.Moves.{IsActor}
use Rattle.kernel_core.specs.Stands.{state}
use Rattle.going_on.specs.Lost.{without_scan}
use Rattle.going_on.specs.Divided.{Division, IsDivided, divided, first_part, second_part, whole_run, first_run, second_run, whole_after, second_after}

-- the whole ends with the second run's words, and the first run's records and journal are followed by the second's
pub record IsWhole (first second whole : Board) : Type 0 where
  pub words : second.words ≡ whole.words
  pub records : whole.charges ≡ first.charges ++ second.charges
  pub journal_is : journal whole ≡ journal first ++ journal second

-- each job can be divided behind any of its charges
abbrev pub EveryJobDivides : Type 0
EveryJobDivides =
    (job : JobParts) (words : List ℕ) (front back : List Charge) → IsJob job → AreFirstWords job.program job.start words → job.charges ≡ front ++ back →
    IsDivided (divided job words front back)

-- every divided job's runs end as the run of the whole
abbrev pub EndsAsWhole : Type 0
EndsAsWhole = (d : Division) → IsDivided d → IsWhole (first_run d) (second_run d) (whole_run d)

-- after so many cuts and turns of the second part words and journal are those of the whole, and so is what each actor makes next, once a charge has begun
pub record IsAsWhole (d : Division) (n : ℕ) : Type 0 where
  pub words : (second_after d n).words ≡ (whole_after d n).words
  pub journal_is : journal (whole_after d n) ≡ journal (first_run d) ++ journal (second_after d n)
  pub made : (actor : Actor) → IsActor (setup_of d.job) actor → 0 < (second_after d n).begun →
      made_by (setup_of (second_part d)) (second_after d n) actor ≡ made_by (setup_of d.job) (whole_after d n) actor

-- so it is after any number of them
abbrev pub GoesAsWhole : Type 0
GoesAsWhole = (d : Division) → IsDivided d → (n : ℕ) → IsAsWhole d n

-- the second part begins with the state that the whole has there, without what a cut loses
abbrev pub StartsFromWhole : Type 0
StartsFromWhole = (d : Division) → IsDivided d → d.start.model ≡ without_scan (state (setup_of d.job) (whole_after d 0))

-- these entries follow the first part's journal legally, and the state after them is the same as from the start, but for what a cut loses
pub record FollowsFirst (d : Division) (entries : List Entry) : Type 0 where
  pub legal : IsLegal d.job.program d.job.readings (first_of d.job) (journal (first_run d) ++ entries)
  pub state_is :
      without_scan (after d.job.program d.readings d.start.model entries)
      ≡ without_scan (after d.job.program d.job.readings (first_of d.job) (journal (first_run d) ++ entries))

-- so it is of whatever follows the start legally
abbrev pub ContinuesWhole : Type 0
ContinuesWhole = (d : Division) → IsDivided d → (entries : List Entry) → IsLegal d.job.program d.readings d.start.model entries → FollowsFirst d entries

-- after any number of cuts and turns of the second part, where it is a job, its state is the whole's but for that
abbrev pub StandsAsWhole : Type 0
StandsAsWhole =
    (d : Division) → IsDivided d → IsJob (second_part d) → (n : ℕ) →
    without_scan (state (setup_of (second_part d)) (second_after d n)) ≡ without_scan (state (setup_of d.job) (whole_after d n))

-- The first part is a job where it has a charge. So is the second, where its words aren't worn by the readings that are left.
abbrev pub AreJobs : Type 0
AreJobs =
    (d : Division) → IsDivided d → (1 ≤ length d.front → IsJob (first_part d)) ×
    ((listed : List ℕ) → 1 ≤ length d.back → AreListed d.job.program listed d.start.model d.readings →
    ¬ IsWorn d.job.program listed (words_in d.job.program d.start) → IsJob (second_part d))
