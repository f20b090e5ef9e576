-- The fields are those of a core before its first charge.
use Rattle.kernel_core.proofs.Common.{length, ap, ◌∙◌, first_board, View, setup_of}
use Rattle.kernel_core.proofs.Again.{core_again, board_again}
use Rattle.kernel_core.proofs.board.Core.forget_run.Goals as goal

pub write_first_words-requires-clause-start : goal.write_first_words-requires-clause-start
write_first_words-requires-clause-start c = λ s is. (c.self.invariant.0.0.start s is).count

pub write_first_words-requires-clause-count : goal.write_first_words-requires-clause-count
write_first_words-requires-clause-count c = c.self.invariant.1.holds.size.words

pub invariant_of-self : goal.invariant_of-self
invariant_of-self c = (
  c.self.invariant.0,
  core_again _ _ _ _ _ _ c.self.invariant.1 c.self.invariant.0.0 c.write_first_words.new.fram c.boot-self-inside.result c.lose_rows.new.pushers.items c.clear_records.new.charges.items
      c.write_first_words.ensures c.boot-self-inside.ensures.begun c.lose_rows.ensures c.clear_records.ensures,
)

pub returns-clause-board : goal.returns-clause-board
returns-clause-board c =
    board_again _ _ _ _ _ _ c.self.invariant.1 c.self.invariant.0.0 c.write_first_words.new.fram c.boot-self-inside.result c.lose_rows.new.pushers.items c.clear_records.new.charges.items
    c.write_first_words.ensures c.boot-self-inside.ensures.begun c.lose_rows.ensures c.clear_records.ensures
    ∙ ap (λ (z : View). first_board (setup_of z.job) c.write_first_words.new.fram (length z.job.charges)) c.self.view_is
