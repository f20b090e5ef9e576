use Rattle.ink_audit.proofs.Common.{◌≡◌, ◌≢◌, ℕ, ◌+◌, ◌<◌, Bool, cond, List, length, take, inl, inr, sym, ap, ◌∙◌, arith, rules, eq-eqb, ne_eqb, cases_lt, feeds}
use Rattle.std.proofs.lemmas.List.{length_push}
use Rattle.std.proofs.lemmas.Slice.Zip.{zip_turn, zip_end}
use Rattle.ink_audit.proofs.Differences.{differ_behind, bytes_differ, lengths_differ, lengths_differ_too, feeds_front, same_more, counted_more}
use Rattle.ink_audit.proofs.comparing.compare.Goals as goal

pub returns-then-left-right : goal.returns-then-left-right
returns-then-left-right c =
    let i : ℕ = length c.loop-left.yielded in
    let a : List ℕ = c.args.claim.now in
    let b : List ℕ = c.args.text.now in
    let turn = zip_turn a b c.loop-left.yielded c.into_iter-left-iterator.result c.loop-left.left-iterator c.next.new.self c.next.result (search rules) (search rules) c.loop-left.yielded_by _ c.in-Some.is c.next.ensures.steps in
    record {
      same = feeds (take i a);
      differ = differ_behind a b i c.loop-left.invariant.same (bytes_differ a b i c.in-Some.left.now c.in-Some.right.now turn.0 turn.1 (turn.2 0) (turn.3 0) c.if-left-right.true);
      number = c.loop-left.invariant.counted;
    }

pub overflow_add-line : goal.overflow_add-line
overflow_add-line c =
    let i : ℕ = length c.loop-left.yielded in
    let a : List ℕ = c.args.claim.now in
    let turn = zip_turn a c.args.text.now c.loop-left.yielded c.into_iter-left-iterator.result c.loop-left.left-iterator c.next.new.self c.next.result (search rules) (search rules) c.loop-left.yielded_by _ c.in-Some.is c.next.ensures.steps in
    let within : i < length a = turn.0 in
    omega (arith, feeds_front a i)

pub loop-left-preserved-then-left-eq10 : goal.loop-left-preserved-then-left-eq10
loop-left-preserved-then-left-eq10 c =
    let i : ℕ = length c.loop-left.yielded in
    let a : List ℕ = c.args.claim.now in
    let b : List ℕ = c.args.text.now in
    let turn = zip_turn a b c.loop-left.yielded c.into_iter-left-iterator.result c.loop-left.left-iterator c.next.new.self c.next.result (search rules) (search rules) c.loop-left.yielded_by _ c.in-Some.is c.next.ensures.steps in
    let next = length_push c.loop-left.yielded (c.in-Some.left, c.in-Some.right) in
    record {
      same = same_more a b i _ c.in-Some.left.now next turn.0 turn.1 (turn.2 0) (c.if-left-right.false ∙ turn.3 0) c.loop-left.invariant.same;
      counted =
          ap (λ (t : Bool). c.loop-left.line + cond t 1 0) (sym (eq-eqb c.in-Some.left.now 10 c.if-left-eq10.true))
          ∙ counted_more a i _ c.in-Some.left.now c.loop-left.line next turn.0 (turn.2 0) c.loop-left.invariant.counted;
    }

pub loop-left-preserved : goal.loop-left-preserved
loop-left-preserved c =
    let i : ℕ = length c.loop-left.yielded in
    let a : List ℕ = c.args.claim.now in
    let b : List ℕ = c.args.text.now in
    let turn = zip_turn a b c.loop-left.yielded c.into_iter-left-iterator.result c.loop-left.left-iterator c.next.new.self c.next.result (search rules) (search rules) c.loop-left.yielded_by _ c.in-Some.is c.next.ensures.steps in
    let next = length_push c.loop-left.yielded (c.in-Some.left, c.in-Some.right) in
    record {
      same = same_more a b i _ c.in-Some.left.now next turn.0 turn.1 (turn.2 0) (c.if-left-right.false ∙ turn.3 0) c.loop-left.invariant.same;
      counted =
          let same : c.loop-left.line ≡ c.loop-left.line + 0 = omega arith in
          same
          ∙ ap (λ (t : Bool). c.loop-left.line + cond t 1 0) (sym (ne_eqb c.in-Some.left.now 10 c.if-left-eq10.false))
          ∙ counted_more a i _ c.in-Some.left.now c.loop-left.line next turn.0 (turn.2 0) c.loop-left.invariant.counted;
    }

pub returns-else-claim-text : goal.returns-else-claim-text
returns-else-claim-text c =
    let i : ℕ = length c.loop-left.yielded in
    let a : List ℕ = c.args.claim.now in
    let b : List ℕ = c.args.text.now in
    let end = zip_end a b c.loop-left.yielded c.into_iter-left-iterator.result c.loop-left.left-iterator c.next.new.self c.next.result (search rules) (search rules) c.loop-left.yielded_by c.in-None.is c.next.ensures.steps in
    record {
      same = feeds (take i a);
      differ = differ_behind a b i c.loop-left.invariant.same
          (elim (cases_lt (length a) (length b)) [
            | inl shorter ↦ lengths_differ a b i (omega (arith, end)) (omega (arith, end))
            | inr longer ↦ let ne : length a ≢ length b = c.if-claim-text.false in lengths_differ_too a b i (omega (arith, end)) (omega (arith, end))
          ]);
      number = c.loop-left.invariant.counted;
    }
