-- The word has its address, and the memory has it once it is stored.
use Rattle.ink_layout.proofs.Common.{ℕ, List, length, ap, ◌∙◌, sym, subst, refl, length-set, performed, store, layout_address, Holds}
use Rattle.fram_words.specs.declared.access.Access.TheVariants.{Store}
use Rattle.fram_words.specs.Steps.{place_of}
use Rattle.ink_layout.proofs.Images.{within_words, holds_store}
use Rattle.ink_layout.proofs.image.put.Goals as goal

pub perform-requires-clause-within : goal.perform-requires-clause-within
perform-requires-clause-within c =
    within_words c.args.program.now c.args.layout.now c.args.fram.now (place_of c.args.place) _ c.requires.layout c.requires.count c.requires.on_board
    c.address_of.ensures

pub perform-requires-clause-fits : goal.perform-requires-clause-fits
perform-requires-clause-fits c = tt

pub returns-clause-stored : goal.returns-clause-stored
returns-clause-stored c memory before =
    subst (λ (words : List ℕ). Holds c.args.program.now words (store memory (place_of c.args.place) c.args.word))
    (sym (c.perform.ensures.after ∙ ap (λ (a : ℕ). performed (Store a c.args.word) c.args.fram.now) c.address_of.ensures))
    (holds_store c.args.program.now c.args.layout.now c.args.fram.now memory (place_of c.args.place) _ c.args.word c.requires.layout before c.requires.on_board refl)

pub returns-clause-count : goal.returns-clause-count
returns-clause-count c =
    ap length (c.perform.ensures.after ∙ ap (λ (a : ℕ). performed (Store a c.args.word) c.args.fram.now) c.address_of.ensures)
    ∙ (length-set c.args.fram.now (layout_address c.args.layout.now (place_of c.args.place)) c.args.word ∙ c.requires.count)
