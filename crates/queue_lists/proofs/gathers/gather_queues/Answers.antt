use Rattle.std.proofs.Common.{◌≡◌, ◌+◌, ℕ, [], ◌∷◌, ◌++◌, List, get_or, length, length-append, ap, ◌∙◌, sym, subst, append_assoc, arith}
use Rattle.ink_base.specs.declared.accept.Accept.{Accept}
use Rattle.queue_lists.specs.Gathers.{ArePlaced}
use Rattle.queue_lists.proofs.Gathering.{pairs_next}
use Rattle.queue_lists.proofs.gathers.gather_queues.Goals as goal

pub loop-queue-preserved : goal.loop-queue-preserved
loop-queue-preserved c =
    let before = c.loop-queue.invariant in
    let queue : ℕ → List Accept → List ℕ → Type 0 = λ t events charges. ArePlaced c.args.program.now c.args.lists.now t (length c.args.lists.now) events charges in
    let n = length-append c.loop-queue.yielded (c.in-Some.queue ∷ []) in
    let number : length (c.loop-queue.yielded ++ c.in-Some.queue ∷ []) ≡ length c.loop-queue.yielded + 1 = omega (arith, n) in
    let thread : c.len.result ≡ length c.loop-queue.yielded = omega (arith, c.len.ensures, before.number, c.loop-queue.accepted.ok) in
    let here : queue (length c.loop-queue.yielded) c.from_vec.result c.from_vec-in-loop-queue.result =
    subst (λ (t : ℕ). queue t c.from_vec.result c.from_vec-in-loop-queue.result) thread
    (subst (λ (l : List ℕ). queue c.len.result c.from_vec.result l) (sym c.from_vec-in-loop-queue.ensures)
    (subst (λ (l : List Accept). queue c.len.result l c.gather_queue-events.result.1.items) (sym c.from_vec.ensures) c.gather_queue-events.ensures)) in
    let each = pairs_next queue (length c.loop-queue.yielded) c.loop-queue.accepted.items c.loop-queue.charges.items c.from_vec.result [] c.from_vec-in-loop-queue.result [] before.number before.dated before.each here in
    record {
      number = omega (arith, number, before.number, ap length c.push_reserved.ensures.items, length-append c.loop-queue.accepted.items (c.from_vec.result ∷ []));
      dated = omega (arith, number, before.dated, ap length c.push_reserved-in-loop-queue.ensures.items, length-append c.loop-queue.charges.items (c.from_vec-in-loop-queue.result ∷ []));
      event_room = c.push_reserved.ensures.capacity ∙ before.event_room;
      charge_room = c.push_reserved-in-loop-queue.ensures.capacity ∙ before.charge_room;
      rest = before.rest ∙ (ap (λ l. c.loop-queue.yielded ++ l) c.in-Some.ensures.steps.0 ∙ sym (append_assoc c.loop-queue.yielded (c.in-Some.queue ∷ []) c.next.new.self.rest.items));
      each = λ t lt.
          subst (λ (l : List (List ℕ)). queue t (get_or c.push_reserved.new.self.items t []) (get_or l t [])) (sym c.push_reserved-in-loop-queue.ensures.items)
          (subst (λ (l : List (List Accept)). queue t (get_or l t []) (get_or (c.loop-queue.charges.items ++ c.from_vec-in-loop-queue.result ∷ []) t [])) (sym c.push_reserved.ensures.items)
          (each t (omega arith)));
    }
