use Rattle.task_asm.proofs.StayingTexts as staying
use Rattle.task_asm.proofs.laws.faults_stay.Goals as goal

pub returns : goal.returns
returns c = staying.faults_stay
