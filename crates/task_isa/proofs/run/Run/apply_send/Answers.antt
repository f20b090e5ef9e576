use Rattle.task_isa.proofs.Common.{◌<◌, arith, given_of, room_of}
use Rattle.task_isa.proofs.Sends.{makes_send, makes_no_send}
use Rattle.task_isa.proofs.run.Run.apply_send.Goals as goal

pub returns-in_ok-send : goal.returns-in_ok-send
returns-in_ok-send c =
    let free : 0 < c.free.result = c.if-free-gt0.true in
    rw c.in_ok-send.ensures (makes_send (given_of c.args.start.now) (room_of c.args.start.now) c.args.self.now c.args.pipe c.args.register c.args.value c.requires.room (c.free.ensures.within free) (omega arith))

pub returns-else-free-gt0 : goal.returns-else-free-gt0
returns-else-free-gt0 c =
    rw c.set.ensures (makes_no_send (given_of c.args.start.now) (room_of c.args.start.now) c.args.self.now c.args.pipe c.args.register c.args.value c.requires.room (omega arith))
