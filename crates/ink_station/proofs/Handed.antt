-- An error that is handed on.
use Rattle.std.proofs.Common.{◌≡◌, ap, Result, Ok, Err}
use Rattle.std.specs.Result.{IsErr, IsErrAnd}
use Rattle.ink_base.specs.declared.fault.JobAnswer.{JobAnswer}

pub handed : {X : Type 0} (r : Result X JobAnswer) (answer : JobAnswer) → IsErr r × IsErrAnd r (λ e. e ≡ answer) → r ≡ Err answer
handed (Ok x) answer is = absurd is.1
handed (Err e) answer is = ap Err is.1
