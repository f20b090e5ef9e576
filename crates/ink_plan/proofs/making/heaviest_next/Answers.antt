use Rattle.std.proofs.Common.{◌≡◌, ℕ, ◌+◌, ◌<◌, ◌≤◌, true, get_or, Option, Some, sym, ap, ◌∙◌, subst, inl, inr, arith, ltb-true, ltb-false}
use Rattle.prog_check.specs.Lookup.{instr_at}
use Rattle.ink_plan.specs.Code.{jumps_up, target_of}
use Rattle.ink_plan.proofs.Paths.{follows_parts}
use Rattle.ink_plan.proofs.Rests.{up_at}
use Rattle.ink_plan.proofs.making.heaviest_next.Goals as goal
use Rattle.ink_plan.proofs.making.heaviest_next.Goals.{then-ends_code, else-ends_code}

pub returns-then-rest-from-clause-later : goal.returns-then-rest-from-clause-later
returns-then-rest-from-clause-later c =
    let target : target_of (instr_at c.args.task.now c.args.at) ≡ Some c.in-Some.i = sym (c.in-Some.ensures ∙ ap target_of (c.instr_at-instr.ensures ∙ ap (instr_at c.args.task.now) c.from.ensures)) in
    ltb-true _ _ (subst (λ (o : Option ℕ). jumps_up c.args.at o ≡ true) target (up_at c.args.task.now c.args.at c.requires.up c.requires.inside))

pub returns-else-rest-from-clause-lowest : goal.returns-else-rest-from-clause-lowest
returns-else-rest-from-clause-lowest c = λ other follows.
    let target : target_of (instr_at c.args.task.now c.args.at) ≡ Some c.in-Some.i = sym (c.in-Some.ensures ∙ ap target_of (c.instr_at-instr.ensures ∙ ap (instr_at c.args.task.now) c.from.ensures)) in
    let later : c.args.at < c.in-Some.i = ltb-true _ _ (subst (λ (o : Option ℕ). jumps_up c.args.at o ≡ true) target (up_at c.args.task.now c.args.at c.requires.up c.requires.inside)) in
    let few : get_or c.args.rest.now c.in-Some.i 0 ≤ get_or c.args.rest.now (c.args.at + 1) 0 = elim c.if-ends_code.branch [
      | then-ends_code w ↦ absurd cc
      | else-ends_code w ↦
          let le = ltb-false _ _ (sym w.value-is ∙ c.if-rest-from.false) in
          subst (λ n. get_or c.args.rest.now c.in-Some.i 0 ≤ get_or c.args.rest.now (n + 1) 0) w.from-else-ends_code.ensures le
    ] in
    elim (follows_parts c.args.task.now c.args.at other follows) [
      | inl on ↦ let is = on.1 in (subst (λ n. get_or c.args.rest.now n 0 ≤ get_or c.args.rest.now (c.args.at + 1) 0) (sym is) (omega arith), λ below. absurd (omega arith))
      | inr jump ↦
          let same : c.in-Some.i ≡ other = (let both : Some c.in-Some.i ≡ Some other = sym target ∙ jump in cc) in
          (subst (λ n. get_or c.args.rest.now n 0 ≤ get_or c.args.rest.now (c.args.at + 1) 0) same few, λ below. absurd (omega arith))
    ]
