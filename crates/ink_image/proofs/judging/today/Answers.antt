use Rattle.ink_image.proofs.Common.{ℕ, List, Vec, sym, subst}
use Rattle.std.specs.Prelude.{IfOk}
use Rattle.std.specs.declared.alloc.Global.{Global}
use Rattle.ink_image.specs.declared.form.Form.{Form}
use Rattle.ink_image.specs.declared.form.Form.TheVariants.{Earlier}
use Rattle.ink_image.specs.Form.{HasWords, memory_in, IsImageIn, IsWornIn, IsToday}
use Rattle.ink_image.proofs.Forms.{renewed_today, same_today}
use Rattle.ink_image.proofs.judging.today.Goals as goal

pub renew-requires-clause-image : goal.renew-requires-clause-image
renew-requires-clause-image c =
    let program = c.args.plan.now.accepted in
    subst (λ (z : Form × List ℕ). IsImageIn z.0 program (memory_in program z.1)) (λ i. (c.in-Earlier.is i, sym c.as_slice.ensures.value i)) c.requires.image

pub renew-requires-clause-fresh : goal.renew-requires-clause-fresh
renew-requires-clause-fresh c =
    let program = c.args.plan.now.accepted in
    let listed = c.requires.fresh.0 in
    (listed, λ worn. c.requires.fresh.1 (subst (λ (z : Form × List ℕ). IsWornIn z.0 program listed (memory_in program z.1)) (λ i. (sym c.in-Earlier.is i, c.as_slice.ensures.value i)) worn))

pub returns-in-Earlier : goal.returns-in-Earlier
returns-in-Earlier c =
    let program = c.args.plan.now.accepted in
    let r = c.renew.result in
    let same = c.as_slice.ensures.value in
    subst (λ (form : Form). IfOk r (λ (new : Vec ℕ Global). IsToday form program c.args.words.items new.items)) (sym c.in-Earlier.is)
    (subst (λ (ws : List ℕ). IfOk r (λ (new : Vec ℕ Global). IsToday Earlier program ws new.items)) same
    (renewed_today program c.as_slice.result.now r (subst (HasWords program) (sym same) c.requires.count) c.renew.ensures.count c.renew.ensures.changed c.renew.ensures.image c.renew.ensures.fresh))

pub returns-in-Today : goal.returns-in-Today
returns-in-Today c =
    let program = c.args.plan.now.accepted in
    let words = c.args.words.items in
    subst (λ (form : Form). IsToday form program words words) (sym c.in-Today.is)
    (same_today program words c.requires.count (subst (λ (form : Form). IsImageIn form program (memory_in program words)) c.in-Today.is c.requires.image))
