use Rattle.program_text.proofs.Common.{◌≡◌, get_or, ◌<◌, length, rules, get_or_read, no_thread_def, ThreadDef, thread_text}
use Rattle.program_text.proofs.Printing.{parts_more, named_more}
use Rattle.program_text.proofs.parts.put_threads.Goals as goal

pub loop-thread-preserved : goal.loop-thread-preserved
loop-thread-preserved c =
    let at = c.loop-thread.thread-index in
    let lt : at < length c.args.threads.now = search rules in
    let item : c.thread-item.result ≡ get_or c.args.threads.now at no_thread_def = get_or_read c.args.threads.now at c.thread-item.result lt c.thread-item.is no_thread_def in
    (parts_more thread_text c.args.threads.now at no_thread_def _ _ _ _ lt item c.in_ok-put_thread.ensures.text c.loop-thread.invariant.0, named_more (λ (x : ThreadDef). x.name) c.args.threads.now at no_thread_def _ lt item c.in_ok-put_thread.ensures.named c.loop-thread.invariant.1)
