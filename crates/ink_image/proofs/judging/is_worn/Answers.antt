use Rattle.ink_image.proofs.Common.{sym, subst}
use Rattle.std.specs.Prelude.{◌↔◌, IsTrue}
use Rattle.ink_image.specs.declared.form.Form.{Form}
use Rattle.ink_image.specs.Form.{IsWornIn, memory_in}
use Rattle.ink_image.proofs.judging.is_worn.Goals as goal

pub returns-in-Today : goal.returns-in-Today
returns-in-Today c =
    let program = c.args.plan.now.accepted in
    subst (λ (form : Form). IsTrue c.is_worn.result ↔ IsWornIn form program c.args.listed.now (memory_in program c.args.words.now)) (sym c.in-Today.is) c.is_worn.ensures

pub returns-in-Earlier : goal.returns-in-Earlier
returns-in-Earlier c =
    let program = c.args.plan.now.accepted in
    subst (λ (form : Form). IsTrue c.is_worn_old.result ↔ IsWornIn form program c.args.listed.now (memory_in program c.args.words.now)) (sym c.in-Earlier.is) c.is_worn_old.ensures
