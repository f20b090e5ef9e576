-- From the zeros over the code, the queues and the timers to the first image.
use Rattle.ink_layout.proofs.Common.{ℕ, List, length, subst, sym, Holds, timed_word, code_until, slots_until, with_blocks}
use Rattle.ink_layout.proofs.Images.{holds_as, holds_zeros, holds_first}
use Rattle.ink_layout.proofs.Stages.{slots_none, blocks_none}
use Rattle.ink_layout.proofs.image.write_first_image.Goals as goal

pub store_code-requires-clause-before : goal.store_code-requires-clause-before
store_code-requires-clause-before c =
    subst (λ (words : List ℕ). Holds c.args.program.now words (code_until c.args.program.now 0 0)) (sym c.clear.ensures)
    (holds_zeros c.args.program.now (length c.args.fram.now) c.requires.count)

pub empty_queues-requires-clause-before : goal.empty_queues-requires-clause-before
empty_queues-requires-clause-before c =
    holds_as c.args.program.now c.store_code.new.fram (code_until c.args.program.now (length c.args.program.now.tasks) 0)
    (slots_until c.args.program.now 0 0) c.store_code.ensures (slots_none c.args.program.now)

pub start_timers-requires-clause-before : goal.start_timers-requires-clause-before
start_timers-requires-clause-before c =
    holds_as c.args.program.now c.empty_queues.new.fram (slots_until c.args.program.now (length c.args.program.now.threads) 0)
    (with_blocks c.args.program.now (timed_word c.args.program.now 0)) c.empty_queues.ensures (blocks_none c.args.program.now)

pub returns : goal.returns
returns c = holds_first c.args.program.now c.start_timers.new.fram c.start_timers.ensures
