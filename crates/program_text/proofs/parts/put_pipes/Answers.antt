use Rattle.program_text.proofs.Common.{◌≡◌, get_or, ◌<◌, length, rules, get_or_read, no_pipe_def, PipeDef, pipe_text}
use Rattle.program_text.proofs.Printing.{parts_more, named_more}
use Rattle.program_text.proofs.parts.put_pipes.Goals as goal

pub loop-pipe-preserved : goal.loop-pipe-preserved
loop-pipe-preserved c =
    let at = c.loop-pipe.pipe-index in
    let lt : at < length c.args.pipes.now = search rules in
    let item : c.pipe-item.result ≡ get_or c.args.pipes.now at no_pipe_def = get_or_read c.args.pipes.now at c.pipe-item.result lt c.pipe-item.is no_pipe_def in
    (parts_more (pipe_text c.args.program.now) c.args.pipes.now at no_pipe_def _ _ _ _ lt item c.in_ok-put_pipe.ensures.text c.loop-pipe.invariant.0, named_more (λ (x : PipeDef). x.name) c.args.pipes.now at no_pipe_def _ lt item c.in_ok-put_pipe.ensures.named c.loop-pipe.invariant.1)
