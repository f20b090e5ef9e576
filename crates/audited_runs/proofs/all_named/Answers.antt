use Rattle.std.proofs.Common.{◌≡◌, ◌<◌, get_or, length, subst, rules}
use Rattle.std.proofs.lemmas.List.{get_or_read}
use Rattle.std.proofs.lemmas.List.Elements.{All-more}
use Rattle.task_isa.specs.Lookup.{no_thread_def}
use Rattle.audited_runs.specs.Audited.{IsNamed}
use Rattle.audited_runs.proofs.all_named.Goals as goal

pub loop-thread-preserved : goal.loop-thread-preserved
loop-thread-preserved c =
    let at = c.loop-thread.thread-index in
    let lt : at < length c.args.threads.now = search rules in
    let item : c.thread-item.result ≡ get_or c.args.threads.now at no_thread_def = get_or_read c.args.threads.now at c.thread-item.result lt c.thread-item.is no_thread_def in
    All-more IsNamed c.args.threads.now at no_thread_def lt c.loop-thread.invariant (subst IsNamed item c.as_bytes-name.ensures.name)
