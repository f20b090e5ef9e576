use Rattle.std.proofs.Common.{◌≡◌, ◌≤◌, List, subst, sym, arith}
use Rattle.std.specs.Prelude.{slice_index_or}
use Rattle.event_queue.specs.declared.view.Call.{Call}
use Rattle.event_queue.specs.Calls.{released_of}
use Rattle.event_queue.specs.Views.{known_of}
use Rattle.irq_source.specs.Acting.{knows}
use Rattle.live_board.specs.kept.Begins as begins
use Rattle.live_board.specs.kept.Begins.{IsOfSet, HearsOf}
use Rattle.live_board.proofs.Begins.{hears_kernel, kernel_noting, kernel_met_then}
use Rattle.live_board.proofs.Slices.{changed_more}
use Rattle.live_board.proofs.begin.tell_sources.Goals as goal

pub loop-i-preserved : goal.loop-i-preserved
loop-i-preserved c =
    let i = c.loop-i.i in
    let e = c.index-sources-i.result in
    let old = slice_index_or c.loop-i.sources i e in
    let was = c.loop-i.invariant.0.others i e (omega arith) in
    let of : IsOfSet c.args.set.now old = subst (IsOfSet c.args.set.now) (sym was) (c.requires.sources i e c.loop-i-test.true) in
    let told = c.note-note.ensures in
    let heard = c.hear.ensures in
    let hears = hears_kernel c.args.set.now c.loop-i.kernel c.note-note.result old c.hear.new.self c.loop-i.invariant.1.seat of told.note heard.same.0 heard.same.1 heard.seat heard.place in
    let first : HearsOf c.args.set.now c.args.kernel.now old c.hear.new.self = record {
      met = hears.met;
      published = subst (λ (l : List Call). known_of (begins.queue old) l ≤ (knows c.hear.new.self).out) c.loop-i.invariant.1.calls hears.published;
      released = subst (λ (l : List Call). released_of (begins.queue old) l ≤ (knows c.hear.new.self).gone) c.loop-i.invariant.1.calls hears.released;
    } in (
      changed_more (HearsOf c.args.set.now c.args.kernel.now) i c.args.sources.now c.loop-i.sources c.hear.new.self e c.loop-i-test.true c.loop-i.invariant.0 first,
      kernel_met_then c.args.set.now c.args.kernel.now c.loop-i.kernel c.note-note.new.self c.loop-i.invariant.1
          (kernel_noting c.args.set.now c.loop-i.kernel c.note-note.new.self c.loop-i.invariant.1.seat told.same told.place told.room),
    )
