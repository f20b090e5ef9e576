use Rattle.std.proofs.Common.{arith}
use Rattle.fram_words.specs.Steps.{place_of}
use Rattle.image_told.proofs.Addresses.{address_within, word_read}
use Rattle.image_told.proofs.words.word_at.Goals as goal

pub bounds-words-address : goal.bounds-words-address
bounds-words-address c =
    let within = address_within c.args.plan.now.accepted c.args.plan.now.layout (place_of c.args.place) c.program-program.ensures.layout c.requires.there in
    let at = c.address.ensures in omega (arith, within, at)

pub returns : goal.returns
returns c = rw c.address.ensures (word_read c.args.plan.now.accepted c.args.plan.now.layout c.args.words.now (place_of c.args.place) c.program-program.ensures.layout c.requires.there)
