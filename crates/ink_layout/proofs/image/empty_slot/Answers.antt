-- The slot holds its empty word once that is stored.
use Rattle.ink_layout.proofs.Common.{◌+◌, Slot, slots_until}
use Rattle.ink_layout.proofs.Images.{holds_put}
use Rattle.ink_layout.proofs.Stages.{slots_next}
use Rattle.ink_layout.proofs.image.empty_slot.Goals as goal

pub returns : goal.returns
returns c =
    holds_put c.args.program.now c.put.new.fram (slots_until c.args.program.now c.args.t c.args.n) (slots_until c.args.program.now c.args.t (c.args.n + 1))
    (Slot c.args.t c.args.n) c.empty.result _ (c.put.ensures.stored _ c.requires.before) c.empty.ensures
    (λ q on. slots_next c.args.program.now c.args.t c.args.n q)
