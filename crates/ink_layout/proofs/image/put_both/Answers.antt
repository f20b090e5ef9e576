-- Both copies hold the word once both are stored.
use Rattle.ink_layout.proofs.Common.{◌/◌, ◌%◌, ◌<◌, length, arith, ℕ, Program, Page, store, IsOnBoard, with_blocks, put_word}
use Rattle.ink_layout.proofs.Images.{holds_as}
use Rattle.ink_layout.proofs.Stages.{blocks_put}
use Rattle.ink_layout.proofs.image.put_both.Goals as goal

on_board : (program : Program) (t word copy : ℕ) → t < length program.threads → word < 48 → copy < 2 → IsOnBoard program (Page t (word / 8) copy (word % 8))
on_board program t word copy known within two = (known, omega arith, two, omega arith)

pub put-requires-clause-on_board : goal.put-requires-clause-on_board
put-requires-clause-on_board c = on_board c.args.program.now c.args.thread.0 c.args.word 0 c.requires.known c.requires.within (omega arith)

pub put-requires-2-clause-on_board : goal.put-requires-2-clause-on_board
put-requires-2-clause-on_board c = on_board c.args.program.now c.args.thread.0 c.args.word 1 c.requires.known c.requires.within (omega arith)

pub returns-clause-stored : goal.returns-clause-stored
returns-clause-stored c block before =
    holds_as c.args.program.now c.put-2.new.fram
    (store (store (with_blocks c.args.program.now block) (Page c.args.thread.0 (c.args.word / 8) 0 (c.args.word % 8)) c.args.value) (Page c.args.thread.0 (c.args.word / 8) 1 (c.args.word % 8)) c.args.value)
    (with_blocks c.args.program.now (put_word block c.args.thread.0 c.args.word c.args.value))
    (c.put-2.ensures.stored _ (c.put.ensures.stored _ before))
    (blocks_put c.args.program.now block c.args.thread.0 c.args.word c.args.value)
