use Rattle.old_image.proofs.Common.{arith}
use Rattle.fram_words.specs.Steps.{place_of}
use Rattle.image_told.proofs.Addresses.{address_within}
use Rattle.old_image.proofs.Puts.{stored}
use Rattle.old_image.proofs.renewing.put.Goals as goal

pub bounds-new-address : goal.bounds-new-address
bounds-new-address c =
    let within = address_within c.args.plan.now.accepted c.args.plan.now.layout (place_of c.args.place) c.program-program.ensures.layout c.requires.there in
    let at = c.address.ensures in omega (arith, within, at)

pub returns : goal.returns
returns c =
    rw c.address.ensures
    (stored c.args.plan.now.accepted c.args.plan.now.layout c.args.new.now (place_of c.args.place) c.args.word c.program-program.ensures.layout c.requires.there c.requires.size)
