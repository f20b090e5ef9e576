-- A text gives a mode what it reads or a fault, and not both.
use Rattle.ink_modes.proofs.Common.{◌≡◌, ℕ, List, Option, Some, None, Ok, Err, sym, ◌∙◌, JobParts, form_of}
use Rattle.std.specs.Prelude.{Result}
use Rattle.ink_base.specs.Gives.{◌>>◌}
use Rattle.ink_base.specs.declared.fault.JobFault.{JobFault}
use Rattle.ink_image.specs.Whole.{IsJobOf}
use Rattle.ink_image.specs.Before.{IsJobBefore}
use Rattle.ink_image.proofs.Once.{one_answer, one_before, one_last}
use Rattle.ink_radio.specs.declared.event.RadioEvent.{RadioEvent}
use Rattle.ink_modes.specs.declared.given.Given.{Given}
use Rattle.ink_modes.specs.declared.given.Given.TheVariants.{Job, Claimed, Scripted, Boards}
use Rattle.ink_modes.specs.Given.{Alone}
use Rattle.ink_modes.specs.declared.modes.Mode.{Mode}
use Rattle.ink_modes.specs.declared.modes.Mode.TheVariants as mode
use Rattle.ink_modes.specs.modes.Audit.{claim_tails, with_claim}
use Rattle.ink_modes.specs.modes.Radio.{radio_tails, script_of, with_script}
use Rattle.ink_modes.specs.modes.Plan as plan
use Rattle.ink_modes.specs.modes.Station as station
use Rattle.ink_modes.specs.modes.Sweep as sweep
use Rattle.ink_modes.specs.modes.Sweep.{past_at, unless_past}
use Rattle.ink_station.proofs.Once.{one_station}

-- the answer of a text to a sweep, by the line where its turns are too many
abbrev swept : Result (Option ℕ) JobFault → Result JobParts JobFault → Result JobParts JobFault
swept past whole = whole >> (λ job. past >> (λ line. unless_past job line))

swept_once : (past : Result (Option ℕ) JobFault) (text : List ℕ) (one other : Result JobParts JobFault) (job : JobParts) (fault : JobFault) → IsJobOf text one → IsJobOf text other →
    Ok job ≡ swept past one → Err fault ≡ swept past other → ⊥
swept_once past text (Err f) other job fault is there gives refuses = let clash : Ok job ≡ Err f = gives in absurd cc
swept_once (Err f) text (Ok a) other job fault is there gives refuses = let clash : Ok job ≡ Err f = gives in absurd cc
swept_once (Ok (Some line)) text (Ok a) other job fault is there gives refuses = let clash : Ok job ≡ unless_past a (Some line) = gives in absurd cc
swept_once (Ok None) text (Ok a) (Ok b) job fault is there gives refuses = let clash : Err fault ≡ Ok b = refuses in absurd cc
swept_once (Ok None) text (Ok a) (Err f) job fault is there gives refuses = one_answer text a f is there

-- the answer of a text to an audit
claimed_once : (text : List ℕ) (one other : Result (JobParts × Option ℕ) JobFault) (given : Given) (fault : JobFault) → IsJobBefore claim_tails text one → IsJobBefore claim_tails text other →
    Ok given ≡ (one >> with_claim text) → Err fault ≡ (other >> with_claim text) → ⊥
claimed_once text (Err f) other given fault is there gives refuses = let clash : Ok given ≡ Err f = gives in absurd cc
claimed_once text (Ok a) (Err f) given fault is there gives refuses = one_before claim_tails text a f is there
claimed_once text (Ok (a, None)) (Ok b) given fault is there gives refuses = let clash : Ok given ≡ with_claim text (a, None) = gives in absurd cc
claimed_once text (Ok (a, Some at)) (Ok (b, Some other)) given fault is there gives refuses = let clash : Err fault ≡ with_claim text (b, Some other) = refuses in absurd cc
claimed_once text (Ok (a, Some at)) (Ok (b, None)) given fault is there gives refuses = let clash : Some at ≡ None = one_last claim_tails text (a, Some at) (b, None) is there in absurd cc

-- and to a radio, by the script that it has
scripted_once : (script : Result (List RadioEvent) JobFault) (text : List ℕ) (one other : Result (JobParts × Option ℕ) JobFault) (given : Given) (fault : JobFault) → IsJobBefore radio_tails text one →
    IsJobBefore radio_tails text other → Ok given ≡ (one >> (λ x. script >> with_script x.0)) → Err fault ≡ (other >> (λ x. script >> with_script x.0)) → ⊥
scripted_once script text (Err f) other given fault is there gives refuses = let clash : Ok given ≡ Err f = gives in absurd cc
scripted_once script text (Ok a) (Err f) given fault is there gives refuses = one_before radio_tails text a f is there
scripted_once (Err f) text (Ok a) (Ok b) given fault is there gives refuses = let clash : Ok given ≡ Err f = gives in absurd cc
scripted_once (Ok events) text (Ok a) (Ok b) given fault is there gives refuses = let clash : Err fault ≡ with_script b.0 events = refuses in absurd cc

-- where a mode is given a job and no more, its answer is that about the job
alone_once : (P : Result JobParts JobFault → Type 0) (fault : JobFault) → ((job : JobParts) → P (Ok job) → P (Err fault) → ⊥) → (given : Given) → Alone P (Ok given) → P (Err fault) → ⊥
alone_once P fault once (Job job) is refused = once job is refused
alone_once P fault once (Claimed job claim) is refused = is
alone_once P fault once (Scripted job script) is refused = is
alone_once P fault once (Boards jobs) is refused = is

-- to a plan
planned_once : (text : List ℕ) (fault : JobFault) (job : JobParts) → plan.Gives text (Ok job) → plan.Gives text (Err fault) → ⊥
planned_once text fault job is refused = let clash : Ok job ≡ Err fault = sym is ∙ refused in absurd cc

-- and to a station
station_once : (text : List ℕ) (given : Given) (fault : JobFault) → station.Gives text (Ok given) → station.Gives text (Err fault) → ⊥
station_once text (Boards jobs) fault is refused = one_station text jobs.items fault is refused
station_once text (Job job) fault is refused = is
station_once text (Claimed job claim) fault is refused = is
station_once text (Scripted job script) fault is refused = is

pub gives_once : (m : Mode) (text : List ℕ) (given : Given) (fault : JobFault) → (form_of m).gives text (Ok given) → (form_of m).gives text (Err fault) → ⊥
gives_once mode.Run text given fault is refused = alone_once (IsJobOf text) fault (λ job. one_answer text job fault) given is refused
gives_once mode.Soak text given fault is refused = alone_once (IsJobOf text) fault (λ job. one_answer text job fault) given is refused
gives_once mode.Print text given fault is refused = alone_once (IsJobOf text) fault (λ job. one_answer text job fault) given is refused
gives_once mode.Sweep text given fault is refused =
    alone_once (sweep.Gives text) fault (λ job here there. swept_once (past_at text) text here.0 there.0 job fault here.1 there.1 here.2 there.2) given is refused
gives_once mode.Plan text given fault is refused = alone_once (plan.Gives text) fault (planned_once text fault) given is refused
gives_once mode.Station text given fault is refused = station_once text given fault is refused
gives_once mode.Audit text given fault is refused = claimed_once text is.0 refused.0 given fault is.1 refused.1 is.2 refused.2
gives_once mode.Radio text given fault is refused = scripted_once (script_of text) text is.0 refused.0 given fault is.1 refused.1 is.2 refused.2
