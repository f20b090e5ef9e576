use Rattle.std.proofs.Common.{◌-◌, length, take, drop, subst, List, ℕ, arith}
use Rattle.std.specs.Io.KnownBytes.{Appends}
use Rattle.std.proofs.KnownBytes.{Appends-trans}
use Rattle.std.proofs.lemmas.List.{take_rest, length-take, length-drop}
use Rattle.ink_io.proofs.Pieces.{take-more}
use Rattle.ink_io.proofs.whole.write_all_text.Goals as goal

pub loop-at-preserved : goal.loop-at-preserved
loop-at-preserved g c =
    let state = g.K.Sink.state in
    let text = c.args.text.now in
    let both = Appends-trans (state c.args.sink.now).held (state c.loop-at.sink).held (state c.write.new.self).held (take c.loop-at.at text) (take c.in-Ok.count (drop c.loop-at.at text)) c.loop-at.invariant.1.1 (rw take_rest at c.in-Ok.ensures.bytes) in (
      omega (arith, c.in-Ok.ensures.bound, length-take (length text - c.loop-at.at) (drop c.loop-at.at text), length-drop c.loop-at.at text),
      (
        omega (arith, c.in-Ok.ensures.cause.kept),
        subst (λ (xs : List ℕ). Appends (state c.args.sink.now).held (state c.write.new.self).held xs) (take-more c.loop-at.at c.in-Ok.count text) both,
      ),
    )
