-- The records of a station are those of runs, and how their texts follow one another.
use Rattle.ink_modes.proofs.Common.{◌≡◌, ℕ, suc, ◌+◌, ◌<◌, List, [], ◌∷◌, ◌++◌, length, drop, drop-cons, get_or, sym, ap, ◌∙◌, subst, All, JobParts, RunRecord, IsRunOf}
use Rattle.std.specs.List.{AllZip}
use Rattle.std.proofs.lemmas.List.Elements.{All-nil, All-cons}
use Rattle.ink_report.specs.declared.flags.Flags.{Flags}
use Rattle.ink_station.specs.Running.{IsWholeRun, AreRunsOf}
use Rattle.ink_modes.specs.modes.Station.{board_text, boards_text, numbered}
use Rattle.ink_modes.specs.Run.{run_text_of}
use Rattle.std.specs.Prelude.{Result, Ok, Err, Vec, IsOk, IfOk}
use Rattle.std.specs.declared.alloc.Global.{Global}
use Rattle.std.proofs.Common.{arith, append_assoc}
use Rattle.ink_base.specs.declared.memory.NoMemory.{NoMemory}
use Rattle.ink_modes.proofs.Runs.{run_of}

-- what a board of a station leaves is the record of its job's run
run_whole : (job : JobParts) (r : RunRecord) → IsWholeRun job r → IsRunOf job r
run_whole job r whole = run_of job whole.first r whole.limits whole.image whole.charges whole.job_is whole.words

pub runs_of : (jobs : List JobParts) (records : List RunRecord) → AreRunsOf jobs records → AllZip IsRunOf jobs records
runs_of [] [] are = tt
runs_of [] (r ∷ records) are = absurd are
runs_of (job ∷ jobs) [] are = absurd are
runs_of (job ∷ jobs) (r ∷ records) are = (run_whole job r are.0, runs_of jobs records are.1)

-- the record is that of the run of its own job
abbrev pub IsOwnRun : RunRecord → Type 0
IsOwnRun r = IsRunOf r.job r

pub own_runs : (jobs : List JobParts) (records : List RunRecord) → AllZip IsRunOf jobs records → All IsOwnRun records
own_runs [] [] are = All-nil IsOwnRun
own_runs [] (r ∷ records) are = absurd are
own_runs (job ∷ jobs) [] are = absurd are
own_runs (job ∷ jobs) (r ∷ records) are =
    All-cons IsOwnRun r records (subst (λ (j : JobParts). IsRunOf j r) (sym are.0.job_is) are.0) (own_runs jobs records are.1)

-- the text of the boards from one on, and of those behind it
pub boards_more : (flags : Flags) (number : ℕ) (records : List RunRecord) (n : ℕ) (r : RunRecord) → n < length records → r ≡ get_or records n r →
    boards_text flags number (drop n records) ≡ board_text flags number r ++ boards_text flags (number + 1) (drop (suc n) records)
boards_more flags number records n r lt is =
    ap (boards_text flags number) (drop-cons records n r lt) ∙ ap (λ (x : RunRecord). board_text flags number x ++ boards_text flags (number + 1) (drop (suc n) records)) (sym is)

-- one of the records
first_of : (records : List RunRecord) → 0 < length records → RunRecord
first_of [] lt = absurd (omega arith)
first_of (r ∷ records) lt = r

-- the text of one board more
pub told_more : (flags : Flags) (number : ℕ) (records : List RunRecord) (before after : List ℕ) (answer : Result (Vec ℕ Global) NoMemory) → number < length records →
    before ++ boards_text flags number (drop number records) ≡ boards_text flags 0 records → IsOk answer → IfOk answer (λ run. after ≡ before ++ numbered number run.items) →
    ((r : RunRecord) → IfOk answer (λ run. run.items ≡ run_text_of (get_or records number r) flags)) → after ++ boards_text flags (number + 1) (drop (number + 1) records) ≡ boards_text flags 0 records
told_more flags number records before after (Err e) lt so_far made put told = absurd (cc)
told_more flags number records before after (Ok run) lt so_far made put told =
    let d = first_of records (omega (arith, lt)) in
    let r = get_or records number d in
    let rest = boards_text flags (number + 1) (drop (number + 1) records) in
    let next : suc number ≡ number + 1 = omega arith in
    let split : boards_text flags number (drop number records) ≡ board_text flags number r ++ rest = ap (boards_text flags number) (drop-cons records number d lt) ∙ ap (λ n. board_text flags number r ++ boards_text flags (number + 1) (drop n records)) next in
    ap (λ (l : List ℕ). l ++ rest) (put ∙ ap (λ (l : List ℕ). before ++ numbered number l) (told d))
    ∙ (append_assoc before (board_text flags number r) rest ∙ (ap (λ (l : List ℕ). before ++ l) (sym split) ∙ so_far))
