use Rattle.ink_modes.proofs.Common.{◌≡◌, ℕ, List, Option, Ok, Err, refl, sym, ap, ◌∙◌, subst, JobParts}
use Rattle.std.specs.Prelude.{Result, length, None}
use Rattle.std.specs.Result.{IsErr, IsErrAnd}
use Rattle.ink_base.specs.Gives.{◌>>◌}
use Rattle.ink_base.specs.Gives as given
use Rattle.ink_base.specs.Lines.{Line, lines}
use Rattle.ink_base.specs.Tokens.{bytes_in}
use Rattle.ink_base.specs.declared.fault.JobAnswer.{JobAnswer}
use Rattle.ink_base.specs.declared.fault.JobAnswer.TheVariants as job_answers
use Rattle.ink_base.specs.declared.fault.JobFault.{JobFault}
use Rattle.power_trace.specs.declared.parse.Parts.{Parts}
use Rattle.power_trace.specs.declared.tails.Tails.{Tails}
use Rattle.power_trace.specs.Parse.{checked, parts_at, whole_at}
use Rattle.power_trace.specs.Sensors.{sensors_in}
use Rattle.power_trace.specs.Power.{power_in}
use Rattle.task_asm.specs.Section.{program_at}
use Rattle.ink_image.specs.Whole.{Answers}
use Rattle.ink_image.specs.Before.{IsBefore, IsJobBefore}
use Rattle.ink_modes.specs.declared.given.Given.{Given}
use Rattle.ink_modes.specs.kept.Script.{judged_script}
use Rattle.ink_modes.specs.modes.Radio.{Gives, radio_tails, script_of, with_script}
use Rattle.ink_modes.proofs.modes.radio.given.Goals as goal

-- a text whose bytes aren't allowed has no job
bytes_first : (tails : Tails) (text : List ℕ) (b : Result (Unit {0}) JobFault) (next : Unit {0} → Result (Parts × List Line) JobFault) (x : JobParts × Option ℕ) →
    IsBefore tails text ((b >> next) >> (λ p. Ok (p.0.job, p.1))) (Ok x) → b ≡ Ok tt
bytes_first tails text (Ok good) next x is = refl
bytes_first tails text (Err fault) next x is = absurd (let clash : Ok x ≡ Err fault = is in cc)

bytes_allowed : (text : List ℕ) (x : JobParts × Option ℕ) → IsJobBefore radio_tails text (Ok x) → bytes_in text ≡ Ok tt
unfolding whole_at parts_at
bytes_allowed text x is =
    bytes_first radio_tails text (bytes_in text)
    (λ good.
    program_at text >> (λ p.
    checked p.0 p.1 >> (λ program.
    sensors_in (length (lines text)) (length program.sources) p.2 >> (λ s.
    power_in (length (lines text)) radio_tails (length program.sources) s.1 >> (λ y.
    Ok (record { job = record { program = program; readings = s.0; charges = y.0.list; start = None }; charge_lines = y.0.lines }, y.1))))))
    x is

-- so the fault of its script is the fault of the text
script_fault : (text : List ℕ) (x : JobParts × Option ℕ) (answer : JobAnswer) → IsJobBefore radio_tails text (Ok x) → given.Answers answer (judged_script text) → Answers (Gives text) (Err answer)
script_fault text x job_answers.NoMemory is told = tt
script_fault text x (job_answers.Fault fault) is told =
    let script : script_of text ≡ Err fault = sym (ap (λ (b : Result (Unit {0}) JobFault). b >> (λ good. script_of text)) (bytes_allowed text x is)) ∙ told in
    (Ok x, is, sym (ap (λ (r : Result (List Rattle.ink_radio.specs.declared.event.RadioEvent.RadioEvent) JobFault). r >> with_script x.0) script))

-- an error that is handed on
handed : (r : Result Given JobAnswer) (answer : JobAnswer) → IsErr r × IsErrAnd r (λ e. e ≡ answer) → r ≡ Err answer
handed (Ok job) answer is = absurd is.1
handed (Err e) answer is = ap Err is.1

pub returns-in_err-script-clause-given : goal.returns-in_err-script-clause-given
returns-in_err-script-clause-given c =
    subst (Answers (Gives c.args.text.now)) (sym (handed c.from_residual-in_err-script.result c.in_err-script.field-0.0 c.from_residual-in_err-script.ensures))
    (script_fault c.args.text.now (c.in_ok-job.job, c.in_ok-job._behind) c.in_err-script.field-0.0
    (subst (λ (t : Tails). IsJobBefore t c.args.text.now (Ok (c.in_ok-job.job, c.in_ok-job._behind))) c.radio_tails.ensures c.in_ok-job.ensures.told) c.in_err-script.ensures.given)
