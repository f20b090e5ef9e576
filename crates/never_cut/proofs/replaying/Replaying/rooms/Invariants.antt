use Rattle.never_cut.proofs.Common.{◌≡◌, map, take, enumerate_from, room_in, model_of}
use Rattle.never_cut.proofs.replaying.Replaying.rooms.Given as goal

abbrev pub invariant-loop-q : goal.invariant-loop-q
invariant-loop-q l = l.rooms.items ≡ map (room_in (model_of l.self)) (enumerate_from 0 (take l.q l.pipes))
