use Rattle.std.proofs.Common.{◌≡◌, ℕ, ◌+◌, ◌-◌, ◌*◌, ◌≤◌, true, List, length, get_or, refl, sym, ap, ◌∙◌, subst, arith, length-set}
use Rattle.task_isa.specs.declared.instr.Instr.{Instr}
use Rattle.prog_check.specs.Lookup.{instr_at}
use Rattle.ink_plan.specs.Code.{weight}
use Rattle.ink_plan.specs.Plans.{rest_behind, is_rest}
use Rattle.ink_plan.proofs.Rests.{rests_more, rests_few, rests_all, behind_few}
use Rattle.ink_plan.proofs.making.rests.Goals as goal

pub overflow_add-heaviest : goal.overflow_add-heaviest
overflow_add-heaviest c =
    let rest : List ℕ = c.as_slice.result.now in
    let each : (k : ℕ) → get_or rest k 0 ≤ 6 * c.loop-behind.behind = λ k. subst (λ (l : List ℕ). get_or l k 0 ≤ 6 * c.loop-behind.behind) (sym c.as_slice.ensures) (c.loop-behind.invariant.few k) in
    let few = behind_few rest (c.len-count.result - 1 - c.loop-behind.behind) (6 * c.loop-behind.behind) c.instr_at-instr.result each in
    let most = c.weight.ensures.few in
    omega arith

pub loop-behind-preserved : goal.loop-behind-preserved
loop-behind-preserved c =
    let place : ℕ = c.len-count.result - 1 - c.loop-behind.behind in
    let task = c.args.task.now in
    let instr : Instr = c.instr_at-instr.result in
    let v : ℕ = c.weight.result + c.rest_behind.result in
    let rest : List ℕ = c.loop-behind.rest in
    let few = behind_few rest place (6 * c.loop-behind.behind) instr c.loop-behind.invariant.few in
    let behind : c.rest_behind.result ≡ rest_behind rest place instr = c.rest_behind.ensures ∙ ap (λ (l : List ℕ). rest_behind l place instr) c.as_slice.ensures in
    let here : v ≡ weight (instr_at task place) + rest_behind rest place (instr_at task place) =
    (λ i. c.weight.ensures.same i + behind i) ∙ ap (λ (j : Instr). weight j + rest_behind rest place j) c.instr_at-instr.ensures in
    let all = rests_more rest place v task c.len-count.result c.loop-behind.behind c.requires.up c.loop-behind.invariant.long (sym c.len-count.ensures) c.loop-behind-test.true refl here c.loop-behind.invariant.right in
    let most = c.weight.ensures.few in
    let each = rests_few rest place v (6 * (c.loop-behind.behind + 1)) (omega arith) (λ k. let few = c.loop-behind.invariant.few k in omega arith) in
    record {
      long = ap length c.set.ensures ∙ length-set rest place v ∙ c.loop-behind.invariant.long;
      right = λ k from inside. subst (λ (l : List ℕ). is_rest task l k ≡ true) (sym c.set.ensures) (all k from inside);
      few = λ k. subst (λ (l : List ℕ). get_or l k 0 ≤ 6 * (c.loop-behind.behind + 1)) (sym c.set.ensures) (each k);
    }

pub returns-clause-right : goal.returns-clause-right
returns-clause-right c =
    rests_all c.args.task.now c.loop-behind.rest (c.loop-behind.invariant.long ∙ c.len-count.ensures)
    (λ k inside. c.loop-behind.invariant.right k (omega arith) (omega arith))
