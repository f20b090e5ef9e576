-- A service that finds each word in the range of its place goes on to its commit.
use Rattle.task_run.proofs.Common.{◌≡◌, ℕ, zero, suc, true, false, refl, ◌∙◌, sym, inl, inr, false≢true, cases_Bool, Memory, answer, Program, IsAccepted, TaskMachine, is_over, want, IsServiceOf}
use Rattle.task_run.specs.Knows.{CanGoOn}
use Rattle.task_run.specs.Remaining.{alone, is_committed, FindsInRange, EveryRangeGoesOn}
use Rattle.task_run.proofs.Alone.{service_goes}
use Rattle.task_run.proofs.Counting.{words_next, machine_next}
use Rattle.task_run.proofs.Remains.{stays, is_over-false}
use Rattle.task_run.proofs.TaskWords.{task_word}

in_range_from : (program : Program) → IsAccepted program → (n : ℕ) (words : Memory) (r : TaskMachine) → IsServiceOf program r → FindsInRange program words r →
    (let b = alone program n (record { words = words; machine = r }) in is_committed b.machine.phase ≡ false → CanGoOn program b.words b.machine)
in_range_from program accepted zero words r service finds alive = record {
  wants = service.fits;
  takes = task_word program r.pick r.stamp r.buffer r.ending r.execution r.phase (answer words (want program r)) accepted service.fits.phase (finds 0 alive);
}
in_range_from program accepted (suc n) words r service finds alive =
    let next : TaskMachine = machine_next program words r in
    let later = λ (over : is_committed next.phase ≡ true). stays program n (words_next program words r) next.pick next.stamp next.buffer next.ending next.execution next.phase over in
    elim (cases_Bool (is_committed next.phase)) [
      | inl over ↦ absurd (false≢true (sym alive ∙ later over))
      | inr more ↦
          elim (cases_Bool (is_committed r.phase)) [
            | inl past ↦ absurd (false≢true (sym alive ∙ stays program (suc n) words r.pick r.stamp r.buffer r.ending r.execution r.phase past))
            | inr open_now ↦
                in_range_from program accepted n (words_next program words r) next
                (service_goes program r next (answer words (want program r)) accepted service (finds 0 open_now) refl (is_over-false next.phase more)) (λ k. finds (suc k)) alive
          ]
    ]

pub every_range_goes_on : EveryRangeGoesOn
every_range_goes_on program words r accepted service finds n alive = in_range_from program accepted n words r service finds alive
