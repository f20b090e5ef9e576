use Rattle.std.proofs.Common.{ℕ, List, take, get_or, sym, ◌∙◌, subst, Ok}
use Rattle.std.proofs.lemmas.List.{take_more}
use Rattle.ink_image.specs.Whole.{IsJobOf}
use Rattle.ink_station.specs.declared.parts.Part.{Part}
use Rattle.ink_station.specs.Jobs.{HasJob, HaveJobs}
use Rattle.ink_station.proofs.Pairs.{grown}
use Rattle.ink_station.proofs.reading.jobs_of.Goals as goal

no_part : Part
no_part = record { header = 0; stop = 0 }

pub loop-part-preserved : goal.loop-part-preserved
unfolding no_part
loop-part-preserved c =
    let text = c.args.text.now in
    let part = get_or c.args.parts.now c.loop-part.part-index no_part in
    let has : HasJob text part (Ok c.in_ok-whole_job.field-0) =
    subst (λ (t : List ℕ). IsJobOf t (Ok c.in_ok-whole_job.field-0)) (c.as_slice.ensures.value ∙ c.in_ok-job.ensures.text) c.in_ok-whole_job.ensures in
    subst (λ (parts : List Part). HaveJobs text parts c.push.new.self.items) (sym (take_more c.args.parts.now c.loop-part.part-index no_part c.loop-part-test.true))
    (grown (λ p job. HasJob text p (Ok job)) (take c.loop-part.part-index c.args.parts.now) c.loop-part.jobs.items c.push.new.self.items part c.in_ok-whole_job.field-0 c.in_ok-push.ensures.items
    c.loop-part.invariant has)
