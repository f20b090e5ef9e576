-- How many outputs a state can have: no more than all logs have places.
use Rattle.ink_modes.proofs.Common.{◌≡◌, inl, inr, ℕ, zero, suc, ◌+◌, ◌<◌, ◌≤◌, List, [], ◌∷◌, length, refl, arith, All, Program, RunRecord, IsJob, IsRunOf, first_of, NamesThread, state_in, journal_in, job_setup}
use Rattle.std.specs.Prelude.{◌*◌, true, false, cond, not, ◌==◌, filter}
use Rattle.std.proofs.Common.{eq-eqb, ne_eqb, get_or, suc-mul}
use Rattle.std.proofs.lemmas.List.Elements.{All-cons, All-head, All-nil, All-tail}
use Rattle.std.proofs.lemmas.Bool.{cases_eq}
use Rattle.ink_base.specs.declared.output.Output.{Output}
use Rattle.ink_base.specs.declared.limits.TheConstants as limits
use Rattle.ink_radio.specs.declared.limits.TheConstants as radio_limits
use Rattle.prog_check.specs.Accepted.{IsAccepted}
use Rattle.never_cut.specs.declared.model.Model.{Model}
use Rattle.never_cut.specs.Outputs.{outputs_in}
use Rattle.never_cut.specs.Sound.{IsSound}
use Rattle.never_cut.proofs.SoundStates.{sound_after}
use Rattle.kernel_core.proofs.JobMoves.{job_short}
use Rattle.ink_modes.proofs.Tellable.{tellable}

-- those of other threads
abbrev others : ℕ → List Output → List Output
others t outputs = filter (λ (o : Output). not (o.thread.0 == t)) outputs

-- each output is of thread t, or of another
parted : (t : ℕ) (outputs : List Output) → length outputs ≡ length (outputs_in t outputs) + length (others t outputs)
parted t [] = refl
parted t (o ∷ outputs) =
    let h = parted t outputs in
    elim (o.thread.0 == t) as (λ e. suc (length outputs) ≡ length (cond e (o ∷ outputs_in t outputs) (outputs_in t outputs)) + length (cond (not e) (o ∷ others t outputs) (others t outputs))) [
      | true ↦ omega (arith, h)
      | false ↦ omega (arith, h)
    ]

-- of another thread there are no more among them
fewer : (t u : ℕ) (outputs : List Output) → length (outputs_in u (others t outputs)) ≤ length (outputs_in u outputs)
fewer t u [] = omega arith
fewer t u (o ∷ outputs) =
    let h = fewer t u outputs in
    elim (o.thread.0 == t) as (λ e. length (outputs_in u (cond (not e) (o ∷ others t outputs) (others t outputs))) ≤ length (cond (o.thread.0 == u) (o ∷ outputs_in u outputs) (outputs_in u outputs))) [
      | true ↦ elim (o.thread.0 == u) as (λ e. length (outputs_in u (others t outputs)) ≤ length (cond e (o ∷ outputs_in u outputs) (outputs_in u outputs))) [ true ↦ omega (arith, h) | false ↦ omega (arith, h) ]
      | false ↦ elim (o.thread.0 == u) as (λ e. length (cond e (o ∷ outputs_in u (others t outputs)) (outputs_in u (others t outputs))) ≤ length (cond e (o ∷ outputs_in u outputs) (outputs_in u outputs))) [ true ↦ omega (arith, h) | false ↦ omega (arith, h) ]
    ]

-- the threads of all are below a number
abbrev Below : ℕ → Output → Type 0
Below n o = o.thread.0 < n

others_below : (n : ℕ) (outputs : List Output) → All (Below (suc n)) outputs → All (Below n) (others n outputs)
others_below n [] all = All-nil (Below n)
others_below n (o ∷ outputs) all =
    let rest = others_below n outputs (All-tail (Below (suc n)) o outputs all) in
    let here : o.thread.0 < suc n = All-head (Below (suc n)) o outputs all in
    elim (cases_eq o.thread.0 n) [
      | inl same ↦ let is : (o.thread.0 == n) ≡ true = eq-eqb o.thread.0 n same in rw is rest
      | inr other ↦ let is : (o.thread.0 == n) ≡ false = ne_eqb o.thread.0 n other in rw is (All-cons (Below n) o (others n outputs) (omega arith) rest)
    ]

-- where each thread has at most so many
all_few : (n most : ℕ) (outputs : List Output) → All (Below n) outputs → ((t : ℕ) → t < n → length (outputs_in t outputs) ≤ most) → length outputs ≤ n * most
all_few zero most [] all few = omega arith
all_few zero most (o ∷ outputs) all few = let none : o.thread.0 < 0 = All-head (Below 0) o outputs all in absurd (omega arith)
all_few (suc n) most outputs all few =
    let rest = all_few n most (others n outputs) (others_below n outputs all) (λ t lt. let f = fewer n t outputs in let g = few t (omega arith) in omega arith) in
    let own = few n (omega arith) in
    let parts = parted n outputs in
    let product : suc n * most ≡ n * most + most = suc-mul n most in
    omega arith

-- a sound state, whose outputs are of the program's threads
few_sound : (program : Program) (readings : List (List ℕ)) (m : Model) → IsAccepted program → IsSound program readings m → All (NamesThread program) m.outputs → length m.outputs ≤ radio_limits.OUTPUTS
few_sound program readings m accepted sound named =
    let threads : length program.threads ≤ limits.THREADS = accepted.counts.threads in
    let few = all_few (length program.threads) limits.LOG_PLACES m.outputs named
    (λ t lt. let within = (sound.threads t lt).outputs in let log = (accepted.threads t lt).log in omega arith) in
    omega arith

-- what a run has put out: no more than a radio takes, each of a thread that there may be
pub run_outputs : (r : RunRecord) → IsJob r.job → IsRunOf r.job r → (length (state_in r).outputs ≤ radio_limits.OUTPUTS) × All (λ (o : Output). o.thread.0 < limits.THREADS) (state_in r).outputs
run_outputs r job ran =
    let named : All (NamesThread r.job.program) (state_in r).outputs = (tellable r r.charges (state_in r) job ran refl refl).state.outputs in
    let threads : length r.job.program.threads ≤ limits.THREADS = job.accepted.counts.threads in
    let sound = sound_after r.job.program r.job.readings (first_of r.job) (journal_in r) job.accepted (job_short r.job job) (job_setup r.job job).start.sound ran.legal in
    (few_sound r.job.program r.job.readings (state_in r) job.accepted sound named, λ k d lt. let own : (get_or (state_in r).outputs k d).thread.0 < length r.job.program.threads = named k d lt in omega arith)
