use Rattle.std.proofs.Common.{◌++◌, take, length-append, arith}
use Rattle.std.proofs.KnownBytes.{Consumes-trans}
use Rattle.std.proofs.lemmas.List.{length-take}
use Rattle.ink_io.proofs.whole.read_job.Goals as goal

-- the piece that found no memory was taken too
pub returns-then-is_err-clause-stops : goal.returns-then-is_err-clause-stops
returns-then-is_err-clause-stops g c =
    let state = g.S.Source.state in
    let job = c.loop-piece.job.items in
    let piece = take c.in-Ok.count c.read.new.into in (
      omega (arith, c.in-Ok.ensures.cause.kept, c.loop-piece.invariant.2),
      (
        job ++ piece,
        record {
          taken = Consumes-trans (state c.args.source.now).left (state c.loop-piece.source).left (state c.read.new.self).left job piece c.loop-piece.invariant.1.taken c.in-Ok.ensures.bytes.0;
          reads = omega (arith, c.loop-piece.invariant.1.reads, c.in-Ok.ensures.counted, length-append job piece, length-take c.in-Ok.count c.read.new.into, length-take c.min-room.result c.loop-piece.piece);
        },
        omega (arith, length-append job piece, length-take c.in-Ok.count c.read.new.into, length-take c.min-room.result c.loop-piece.piece),
      ),
    )
