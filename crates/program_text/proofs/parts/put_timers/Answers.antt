use Rattle.program_text.proofs.Common.{◌≡◌, get_or, ◌<◌, length, rules, get_or_read, no_timer_def, TimerDef, timer_text}
use Rattle.program_text.proofs.Printing.{parts_more, named_more}
use Rattle.program_text.proofs.parts.put_timers.Goals as goal

pub loop-timer-preserved : goal.loop-timer-preserved
loop-timer-preserved c =
    let at = c.loop-timer.timer-index in
    let lt : at < length c.args.timers.now = search rules in
    let item : c.timer-item.result ≡ get_or c.args.timers.now at no_timer_def = get_or_read c.args.timers.now at c.timer-item.result lt c.timer-item.is no_timer_def in
    (parts_more (timer_text c.args.program.now) c.args.timers.now at no_timer_def _ _ _ _ lt item c.in_ok-put_timer.ensures.text c.loop-timer.invariant.0, named_more (λ (x : TimerDef). x.name) c.args.timers.now at no_timer_def _ lt item c.in_ok-put_timer.ensures.named c.loop-timer.invariant.1)
