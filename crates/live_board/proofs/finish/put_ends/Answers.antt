use Rattle.std.proofs.Common.{◌≡◌, ℕ, ◌+◌, ◌≤◌, [], ◌∷◌, ◌++◌, List, length, ap, ◌∙◌, sym, subst, append_assoc}
use Rattle.event_queue.specs.declared.seat.SourceSeat.{SourceSeat}
use Rattle.irq_source.specs.declared.lists.Declined.{Declined}
use Rattle.queue_lists.specs.Lists.{Lists}
use Rattle.live_board.specs.kept.Ends.{AreLeft}
use Rattle.live_board.proofs.Leaving.{left_more}
use Rattle.live_board.proofs.finish.put_ends.Goals as goal

pub loop-source-preserved : goal.loop-source-preserved
loop-source-preserved c =
    let before = c.loop-source.invariant in
    let x = c.in-Some.source in
    let parts = c.into_parts-seat in
    let rest = c.next.new.self.rest.items in
    let is = before.rest ∙ ap (λ l. c.loop-source.yielded ++ l) c.in-Some.ensures.steps.0 in
    let lists = c.new.ensures ∙ (λ j. record { accepted = parts.ensures.lists.0 j; refused = parts.ensures.lists.1 j }) in
    record {
      rest = is ∙ sym (append_assoc c.loop-source.yielded (x ∷ []) rest);
      rooms = (c.push_reserved.ensures.capacity ∙ before.rooms.0, c.push_reserved-in-loop-source.ensures.capacity ∙ before.rooms.1, c.push_reserved-in-loop-source-2.ensures.capacity ∙ before.rooms.2);
      left =
          subst (λ (z : List SourceSeat × (List ℕ × List Lists)). AreLeft (length (c.loop-source.yielded ++ x ∷ [])) c.args.sources.items z.0 z.1.0 z.1.1)
          (λ j. (sym c.push_reserved.ensures.items j, (sym c.push_reserved-in-loop-source.ensures.items j, sym c.push_reserved-in-loop-source-2.ensures.items j)))
          (left_more c.args.sources.items c.loop-source.yielded rest x c.loop-source.seats.items c.loop-source.srcs.items c.loop-source.ends.items parts.result.seat parts.result.src c.new.result before.left is parts.ensures.seat parts.ensures.src lists parts.ensures.account (subst (λ (l : List Declined). length l ≤ length x.readings + x.begun) parts.ensures.lists.1 parts.ensures.few));
    }
