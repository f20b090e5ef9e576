-- A text has one answer: jobs or one fault.
use Rattle.std.proofs.Common.{◌≡◌, ℕ, zero, suc, ◌<◌, List, [], ◌∷◌, length, get_or, arith, Result, Ok, Err}
use Rattle.ink_base.specs.Gives.{◌>>◌}
use Rattle.ink_base.specs.declared.fault.JobFault.{JobFault}
use Rattle.job_parts.specs.Job.{JobParts}
use Rattle.ink_image.proofs.Once.{one_answer}
use Rattle.ink_station.specs.declared.parts.Part.{Part}
use Rattle.ink_station.specs.Jobs.{HasJob, HaveJobs, AreJobsOf, turns_of, Gives, IsStation}
use Rattle.ink_station.specs.Parts.{parts_of, job_text}

-- parts don't have their jobs where one of them has a fault
jobs_once : (text : List ℕ) (parts : List Part) (jobs : List JobParts) (fault : JobFault) (n : ℕ) → n < length parts → HaveJobs text parts jobs →
    ((d : Part) → HasJob text (get_or parts n d) (Err fault)) → ⊥
jobs_once text [] jobs fault n lt have fails = absurd (omega (arith, lt))
jobs_once text (part ∷ parts) [] fault n lt have fails = have
jobs_once text (part ∷ parts) (job ∷ jobs) fault zero lt have fails = one_answer (job_text text part) job fault have.0 (fails part)
jobs_once text (part ∷ parts) (job ∷ jobs) fault (suc n) lt have fails = jobs_once text parts jobs fault n (omega (arith, lt)) have.1 fails

-- nor do they give both, whatever their turns
parts_once : (text : List ℕ) (parts : List Part) (one other : Result (List JobParts) JobFault) (turns : Result ℕ JobFault) (jobs : List JobParts) (fault : JobFault) →
    AreJobsOf text parts one → AreJobsOf text parts other → Ok jobs ≡ (one >> (λ all. turns >> (λ n. Ok all))) → Err fault ≡ (other >> (λ all. turns >> (λ n. Ok all))) → ⊥
parts_once text parts (Err f) other turns jobs fault is there gives refuses = let clash : Ok jobs ≡ Err f = gives in absurd cc
parts_once text parts (Ok a) (Err f) turns jobs fault is there gives refuses = jobs_once text parts a f there.n there.known is there.fails
parts_once text parts (Ok a) (Ok b) (Err f) jobs fault is there gives refuses = let clash : Ok jobs ≡ Err f = gives in absurd cc
parts_once text parts (Ok a) (Ok b) (Ok n) jobs fault is there gives refuses = let clash : Err fault ≡ Ok b = refuses in absurd cc

given_once : (text : List ℕ) (parts : Result (List Part) JobFault) (jobs : List JobParts) (fault : JobFault) → Gives text parts (Ok jobs) → Gives text parts (Err fault) → ⊥
given_once text (Err f) jobs fault is refused = let clash : Ok jobs ≡ Err f = is in absurd cc
given_once text (Ok parts) jobs fault is refused = parts_once text parts is.0 refused.0 (turns_of 0 text parts) jobs fault is.1 refused.1 is.2 refused.2

pub one_station : (text : List ℕ) (jobs : List JobParts) (fault : JobFault) → IsStation text (Ok jobs) → IsStation text (Err fault) → ⊥
one_station text jobs fault is refused = given_once text (parts_of text) jobs fault is refused
