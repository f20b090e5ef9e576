use Rattle.ink_base.proofs.Common.{◌≡◌, ◌++◌, length, get_or, refl, sym, arith, eq-eqb, ne_eqb, append-nil}
use Rattle.ink_base.proofs.Loop.{starts, steps, ends, ends_stand, closing, number_after}
use Rattle.ink_base.proofs.split.words.Goals as goal
use Rattle.ink_base.proofs.split.words.Goals.{in-Some+in_ok-push, in_default, then-b-eq10, else-b-eq10, in-Some-closed+in_ok-push-2, in_default-closed}

pub loop-i-init : goal.loop-i-init
loop-i-init c = rw c.new-tokens.ensures.items (starts c.args.text.now)

pub loop-i-preserved : goal.loop-i-preserved
loop-i-preserved c =
    let t : c.match-closed.tokens.items ≡ c.loop-i.tokens.items ++ closing c.closed.result c.loop-i.line c.loop-i.i =
    elim c.match-closed.branch [
      | in-Some+in_ok-push w ↦ rw (w.in-Some.is, w.tokens-is) w.in_ok-push.ensures.items
      | in_default w ↦ rw (w.in_default.is, w.tokens-is) (sym (append-nil c.loop-i.tokens.items))
    ] in
    let n : c.if-b-eq10.line ≡ number_after c.loop-i.line (get_or c.args.text.now c.loop-i.i 0) =
    elim c.if-b-eq10.branch [
      | then-b-eq10 w ↦ rw (eq-eqb _ _ w.if-b-eq10.true) w.line-is
      | else-b-eq10 w ↦ rw (ne_eqb _ _ w.if-b-eq10.false) w.line-is
    ] in
    rw (t, c.closed.ensures, c.place_after-place.ensures, n)
    (steps c.args.text.now c.loop-i.tokens.items c.loop-i.place c.loop-i.line c.loop-i.i _ (omega arith) refl c.loop-i.invariant)

pub returns : goal.returns
returns c =
    let t : c.match-closed-2.tokens.items ≡ c.loop-i.tokens.items ++ closing c.closed-2.result c.loop-i.line (length c.args.text.now) =
    elim c.match-closed-2.branch [
      | in-Some-closed+in_ok-push-2 w ↦ rw (w.in-Some-closed.is, w.tokens-is) w.in_ok-push-2.ensures.items
      | in_default-closed w ↦ rw (w.in_default-closed.is, w.tokens-is) (sym (append-nil c.loop-i.tokens.items))
    ] in
    let i : c.loop-i.i ≡ length c.args.text.now = omega arith in
    rw (t, c.closed-2.ensures, ← i) (record {
      words = ends c.args.text.now c.loop-i.tokens.items c.loop-i.place c.loop-i.line c.loop-i.i i c.loop-i.invariant;
      places = ends_stand c.args.text.now c.loop-i.tokens.items c.loop-i.place c.loop-i.line c.loop-i.i c.loop-i.invariant;
    })
