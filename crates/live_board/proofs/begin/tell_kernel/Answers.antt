use Rattle.std.proofs.Common.{◌≡◌, ◌≤◌, subst, sym, arith}
use Rattle.std.specs.Prelude.{slice_index_or}
use Rattle.irq_source.specs.Acting.{Acting}
use Rattle.live_board.specs.kept.Begins.{IsOfSet, IsMet, KnowsOf}
use Rattle.live_board.proofs.Begins.{met_noting, kernel_hearing, kernel_met_then, hears_source, knows_more}
use Rattle.live_board.proofs.Slices.{changed_more}
use Rattle.live_board.proofs.begin.tell_kernel.Goals as goal

pub loop-i-preserved : goal.loop-i-preserved
loop-i-preserved c =
    let i = c.loop-i.i in
    let e = c.index-sources-i.result in
    let old = slice_index_or c.loop-i.sources i e in
    let was = c.loop-i.invariant.0.others i e (omega arith) in
    let of : IsOfSet c.args.set.now old = subst (IsOfSet c.args.set.now) (sym was) (c.requires.sources i e c.loop-i-test.true) in
    let told = c.note-note.ensures in
    let heard = c.hear.ensures in
    let met = kernel_hearing c.args.set.now c.note-note.result c.loop-i.kernel c.hear.new.self c.loop-i.invariant.1.seat heard.beside heard.kernel heard.book heard.seat in (
      changed_more (IsMet c.args.set.now) i c.args.sources.now c.loop-i.sources c.note-note.new.self e c.loop-i-test.true c.loop-i.invariant.0
          (met_noting c.args.set.now old c.note-note.new.self of.seat told.same.0 told.same.1 told.seat told.calls told.place),
      kernel_met_then c.args.set.now c.args.kernel.now c.loop-i.kernel c.hear.new.self c.loop-i.invariant.1 met,
      knows_more c.args.set.now c.loop-i.kernel c.hear.new.self i e c.args.sources.now met c.loop-i.invariant.2
          (subst (KnowsOf c.hear.new.self) was (hears_source c.args.set.now c.note-note.result old c.loop-i.kernel c.hear.new.self told.note heard.seat)),
    )
