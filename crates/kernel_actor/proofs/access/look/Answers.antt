-- The look's answer tells the word that it found.
use Rattle.std.proofs.Common.{◌≡◌, ◌∷◌, ℕ, sym, ap, ◌∙◌, subst}
use Rattle.event_queue.specs.Answers.{IsLook}
use Rattle.event_queue.specs.Seats.{kernel_view}
use Rattle.event_queue.specs.Views.{calls_of}
use Rattle.event_queue.specs.declared.view.Call.TheVariants.{Look}
use Rattle.kernel_actor.specs.Looks.{word_seen, CanTell}
use Rattle.kernel_actor.proofs.Words.{tells_word}
use Rattle.kernel_actor.proofs.access.look.Goals as goal

pub word_seen-requires : goal.word_seen-requires
word_seen-requires c =
    let look = c.look-seen.ensures.look in
    subst (CanTell c.args.at.position) (sym look.3) (tells_word (kernel_view c.args.seat.now) c.args.at.thread.0 c.args.at.position look.0 look.2).can_tell

pub returns-clause-calls : goal.returns-clause-calls
returns-clause-calls c =
    let look = c.look-seen.ensures.look in
    let same : c.word_seen.result ≡ look.0 = c.word_seen.ensures ∙ ap (word_seen c.args.at.position) look.3 ∙ (tells_word (kernel_view c.args.seat.now) c.args.at.thread.0 c.args.at.position look.0 look.2).same in
    look.1 ∙ ap (λ (w : ℕ). Look c.args.at.thread.0 c.args.at.position w ∷ calls_of (kernel_view c.args.seat.now)) (sym same)

pub returns-clause-look : goal.returns-clause-look
returns-clause-look c =
    let look = c.look-seen.ensures.look in
    let same : c.word_seen.result ≡ look.0 = c.word_seen.ensures ∙ ap (word_seen c.args.at.position) look.3 ∙ (tells_word (kernel_view c.args.seat.now) c.args.at.thread.0 c.args.at.position look.0 look.2).same in
    subst (IsLook (kernel_view c.args.seat.now) c.args.at.thread.0 c.args.at.position) (sym same) look.2
