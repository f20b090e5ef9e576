-- Both parts are within the words, and the words are final.
use Rattle.std.proofs.Common.{length, arith, subst, ap, List, ℕ}
use Rattle.live_words.specs.Puts.{IsPut}
use Rattle.live_words.proofs.Joins.{private_is, srcs_are_at, board_words, are_final}
use Rattle.live_words.proofs.finals.final_words.Goals as goal

pub put_words-requires : goal.put_words-requires
put_words-requires c =
    let can = c.requires in
    omega (arith, private_is _ _ c.program-program.ensures.layout, board_words _ can.lay can.is_lay, can.set_words, can.own_words, ap length c.deref.ensures.value)

pub put_words-requires-2 : goal.put_words-requires-2
put_words-requires-2 c =
    let can = c.requires in
    omega (arith, srcs_are_at _ _ can.lay c.program-program.ensures.layout can.is_lay, board_words _ can.lay can.is_lay, can.src_words, can.own_words, c.put_words.ensures.count)

pub returns : goal.returns
returns c =
    are_final c.args.plan.now.accepted c.args.plan.now.layout c.args.words.items c.args.closed.now.words.items c.args.srcs.now c.put_words.new.words.items c.put_words-2.new.words.items
    c.program-program.ensures.layout c.requires (subst (λ (l : List ℕ). IsPut c.args.plan.now.layout.private l c.args.words.items c.put_words.new.words.items) c.deref.ensures.value c.put_words.ensures) c.put_words-2.ensures
