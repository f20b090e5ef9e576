use Rattle.ink_image.proofs.Common.{◌≡◌, ℕ, List, sym, subst, ◌∙◌}
use Rattle.never_cut.specs.Image.{IsImage}
use Rattle.never_cut.specs.ReadOff.{IsReadOff}
use Rattle.never_cut.specs.Stands.{Stands}
use Rattle.never_cut.specs.Worn.{IsWorn}
use Rattle.ink_image.specs.Form.{HasWords, memory_in}
use Rattle.ink_image.proofs.image.start_of.Goals as goal

pub read_off-requires-clause-fresh : goal.read_off-requires-clause-fresh
read_off-requires-clause-fresh c =
    let program = c.args.plan.now.accepted in
    let listed = c.args.listed.now in
    (listed, λ worn. c.in_ok-words.ensures.fresh listed c.requires.fresh (subst (λ (ws : List ℕ). IsWorn program listed (memory_in program ws)) c.as_slice.ensures.value worn))

pub returns-clause-ready : goal.returns-clause-ready
returns-clause-ready c =
    let program = c.args.plan.now.accepted in
    let listed = c.args.listed.now in
    let model = c.in_ok-model.model in
    let items : c.in_ok-words.words.items ≡ c.from_vec.result = sym c.from_vec.ensures in
    let same : c.as_slice.result.now ≡ c.from_vec.result = c.as_slice.ensures.value ∙ items in
    record {
      count = subst (HasWords program) items c.in_ok-words.ensures.count;
      image = subst (λ (ws : List ℕ). IsImage program (memory_in program ws)) items c.in_ok-words.ensures.image;
      fresh = λ worn. c.in_ok-words.ensures.fresh listed c.requires.fresh (subst (λ (ws : List ℕ). IsWorn program listed (memory_in program ws)) (sym items) worn);
      read = subst (λ (ws : List ℕ). IsReadOff program (memory_in program ws) model) same c.in_ok-model.ensures.read;
      stands = subst (λ (ws : List ℕ). Stands (memory_in program ws) program model) same c.in_ok-model.ensures.stands;
    }
