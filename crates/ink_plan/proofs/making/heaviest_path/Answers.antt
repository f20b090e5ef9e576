use Rattle.std.proofs.Common.{◌≡◌, ℕ, ◌+◌, true, List, [], ◌∷◌, ◌++◌, get_or, sym, ap, ◌∙◌, subst, arith, append-nil}
use Rattle.prog_check.specs.Lookup.{instr_at}
use Rattle.ink_plan.specs.Code.{ends_task}
use Rattle.ink_plan.specs.Plans.{walks, is_path, weight_of, rest_behind}
use Rattle.ink_plan.specs.Lowest.{GoesLowest, IsLowestPath}
use Rattle.ink_plan.proofs.Paths.{path_goes, path_lowest, path_weight}
use Rattle.ink_plan.proofs.Rests.{rest_at}
use Rattle.ink_plan.proofs.making.heaviest_path.Goals as goal

pub loop-at-init : goal.loop-at-init
loop-at-init c =
    let path : c.push.new.self ≡ 0 ∷ [] = c.in_ok-push.ensures.ok ∙ ap (λ (l : List ℕ). l ++ 0 ∷ []) c.new-path.ensures in
    let is = rest_at c.args.task.now c.args.rest.now 0 c.requires.rests c.requires.closed.some in
    record {
      inside = c.requires.closed.some;
      goes = λ more on. subst (λ (l : List ℕ). is_path c.args.task.now (l ++ more) ≡ true) (sym path) on;
      lowest = λ more on. subst (λ (l : List ℕ). IsLowestPath c.args.task.now c.args.rest.now (l ++ more)) (sym path) on;
      weight = subst (λ (l : List ℕ). weight_of c.args.task.now l + rest_behind c.args.rest.now 0 (instr_at c.args.task.now 0) ≡ get_or c.args.rest.now 0 0) (sym path) (omega arith);
    }

pub loop-at-preserved : goal.loop-at-preserved
loop-at-preserved c =
    let next : ℕ = c.heaviest_next-at.result in
    let k = c.heaviest_next-at.ensures in
    let at : ℕ = c.loop-at.at in
    let path : c.push-in-loop-at.new.self ≡ c.loop-at.path ++ next ∷ [] = c.in_ok-push-2.ensures.ok in
    record {
      inside = k.inside;
      goes = subst (λ (l : List ℕ). (more : List ℕ) → walks c.args.task.now next more ≡ true → is_path c.args.task.now (l ++ more) ≡ true) (sym path)
          (path_goes c.args.task.now c.loop-at.path at next k.follows c.loop-at.invariant.goes);
      lowest = subst (λ (l : List ℕ). (more : List ℕ) → GoesLowest c.args.task.now c.args.rest.now next more → IsLowestPath c.args.task.now c.args.rest.now (l ++ more)) (sym path)
          (path_lowest c.args.task.now c.args.rest.now c.loop-at.path at next k.lowest c.loop-at.invariant.lowest);
      weight = subst (λ (l : List ℕ). weight_of c.args.task.now l + rest_behind c.args.rest.now next (instr_at c.args.task.now next) ≡ get_or c.args.rest.now 0 0) (sym path)
          (path_weight c.args.task.now c.args.rest.now c.loop-at.path at next k.heaviest (rest_at c.args.task.now c.args.rest.now next c.requires.rests k.inside) c.loop-at.invariant.weight);
    }

pub returns-clause-path : goal.returns-clause-path
returns-clause-path c =
    let over : ends_task (instr_at c.args.task.now c.loop-at.at) ≡ true = sym (c.loop-at-test.ensures ∙ ap ends_task (c.instr_at.ensures ∙ ap (instr_at c.args.task.now) c.from.ensures)) in
    subst (λ (l : List ℕ). is_path c.args.task.now l ≡ true) (append-nil c.loop-at.path) (c.loop-at.invariant.goes [] over)

pub returns-clause-lowest : goal.returns-clause-lowest
returns-clause-lowest c = subst (λ (l : List ℕ). IsLowestPath c.args.task.now c.args.rest.now l) (append-nil c.loop-at.path) (c.loop-at.invariant.lowest [] tt)
