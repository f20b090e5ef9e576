-- The registers after a word in its range, by the machine at hand.
use Rattle.kernel_core.proofs.Common.{◌<◌, Some, ap, ◌∙◌, sym, subst, Kernel, wants}
use Rattle.never_cut.specs.Ranges.{IsAnswerTo, IsPickOf}
use Rattle.priority_sched.specs.declared.scanned.Scanned.TheVariants.{Pick}
use Rattle.priority_sched.specs.Reached.{IsScanOf}
use Rattle.task_run.specs.Reached.{IsServiceOf}
use Rattle.kernel_core.specs.Reached.{loaded, stamp_of, IsKernelOf}
use Rattle.kernel_core.proofs.kernel.Kernel.take.Goals as goal

pub returns-in-Some-Pick-clause-reached : goal.returns-in-Some-Pick-clause-reached
returns-in-Some-Pick-clause-reached c = λ reached range low.
    let before = subst (IsKernelOf c.args.plan.now.accepted) c.in-Scan.is reached in
    let found = subst (λ (k : Kernel). IsAnswerTo c.args.plan.now.accepted (loaded k) (wants c.args.plan.now.accepted k) c.args.word) c.in-Scan.is range in
    let early = subst (λ (k : Kernel). stamp_of k < 4294967295) c.in-Scan.is low in
    let scan : IsScanOf c.args.plan.now.accepted c.take-point-in-Scan.new.self = c.take-point-in-Scan.ensures.reached before.reached found in
    let pick : IsPickOf c.args.plan.now.accepted c.in-Some-Pick.pick =
    c.result.ensures.pick c.args.plan.now.accepted scan (Pick c.in-Some-Pick.pick) (c.in-Some-Pick.is ∙ ap Some c.in-Some-Pick.field-0-is) in
    let service : IsServiceOf c.args.plan.now.accepted c.begin.result =
    c.begin.ensures.reached c.args.plan.now.accepted c.program-program.ensures.accepted pick early in
    record { can_want = service.fits; reached = service }

pub returns-in-None-clause-reached : goal.returns-in-None-clause-reached
returns-in-None-clause-reached c = λ reached range low.
    let before = subst (IsKernelOf c.args.plan.now.accepted) c.in-Scan.is reached in
    let found = subst (λ (k : Kernel). IsAnswerTo c.args.plan.now.accepted (loaded k) (wants c.args.plan.now.accepted k) c.args.word) c.in-Scan.is range in
    let scan : IsScanOf c.args.plan.now.accepted c.take-point-in-Scan.new.self = c.take-point-in-Scan.ensures.reached before.reached found in
    record { can_want = scan.fits; reached = scan }

pub returns-else-is_over-clause-reached : goal.returns-else-is_over-clause-reached
returns-else-is_over-clause-reached c = λ reached range low.
    let before = subst (IsKernelOf c.args.plan.now.accepted) c.in-Task.is reached in
    let found = subst (λ (k : Kernel). IsAnswerTo c.args.plan.now.accepted (loaded k) (wants c.args.plan.now.accepted k) c.args.word) c.in-Task.is range in
    let service : IsServiceOf c.args.plan.now.accepted c.take-point-in-Task.new.self =
    c.take-point-in-Task.ensures.reached before.reached found (sym c.is_over.ensures ∙ c.if-is_over.false) in
    record { can_want = service.fits; reached = service }
