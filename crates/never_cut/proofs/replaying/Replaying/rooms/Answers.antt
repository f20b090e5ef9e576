use Rattle.never_cut.proofs.Common.{◌∷◌, [], ◌++◌, take, map, ap, sym, ◌∙◌, enumerate_from, room_in, model_of}
use Rattle.never_cut.proofs.Rooms.{map-enumerate_from-more}
use Rattle.never_cut.proofs.replaying.Replaying.rooms.Goals as goal

pub loop-q-preserved : goal.loop-q-preserved
loop-q-preserved c =
    let m = model_of c.args.self.now in
    let pipes = c.as_slice-pipes.result.now in
    let more = map-enumerate_from-more (room_in m) pipes c.loop-q.q c.index-pipes-q.result c.loop-q-test.true in
    rw (c.in_ok-push.ensures.items, c.loop-q.invariant, c.room_in.ensures)
    (ap (λ pipe. map (room_in m) (enumerate_from 0 (take c.loop-q.q pipes)) ++ room_in m (c.loop-q.q, pipe) ∷ []) c.index-pipes-q.is ∙ sym more)
