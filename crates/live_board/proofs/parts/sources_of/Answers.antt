use Rattle.std.proofs.Common.{◌≡◌, ◌∷◌, ◌++◌, List, [], length, sym, ap, ◌∙◌, subst, arith, append_assoc}
use Rattle.irq_source.specs.Acting.{Acting}
use Rattle.live_board.specs.kept.Parts.{AreFirstSources, IsFirstSeat, IsFirstSource}
use Rattle.live_board.proofs.Firsts.{no_sources, one_source_more, seat_here}
use Rattle.live_board.proofs.parts.sources_of.Goals as goal

pub source_of-requires-clause-number : goal.source_of-requires-clause-number
source_of-requires-clause-number c =
    let before = c.loop-seat.invariant in
    let here = seat_here c.args.job.now.program c.args.seats.items c.loop-seat.yielded c.next.new.self.rest.items c.in-Some.seat (before.rest ∙ ap (λ l. c.loop-seat.yielded ++ l) c.in-Some.ensures.steps.0) c.requires.seats in
    omega (arith, here.0, c.len-in-loop-seat.ensures, before.made.number, c.loop-seat.sources.ok)

pub source_of-requires-clause-seat : goal.source_of-requires-clause-seat
source_of-requires-clause-seat c =
    let before = c.loop-seat.invariant in
    let here = seat_here c.args.job.now.program c.args.seats.items c.loop-seat.yielded c.next.new.self.rest.items c.in-Some.seat (before.rest ∙ ap (λ l. c.loop-seat.yielded ++ l) c.in-Some.ensures.steps.0) c.requires.seats in
    let number : length c.loop-seat.yielded ≡ c.len-in-loop-seat.result = omega (arith, c.len-in-loop-seat.ensures, before.made.number, c.loop-seat.sources.ok) in
    subst (λ i. IsFirstSeat c.args.job.now.program i c.in-Some.seat) number here.1

pub loop-seat-init : goal.loop-seat-init
loop-seat-init c = record {
  made = subst (AreFirstSources c.args.job.now []) (sym c.in_ok-sources.ensures.items) (no_sources c.args.job.now);
  room = omega (arith, c.len.ensures, c.args.seats.ok, c.in_ok-sources.ensures.capacity);
  rest = sym c.into_iter-seat-iterator.ensures.into_iter_gives.0;
}

pub loop-seat-preserved : goal.loop-seat-preserved
loop-seat-preserved c =
    let before = c.loop-seat.invariant in
    let number : c.len-in-loop-seat.result ≡ length c.loop-seat.yielded = omega (arith, c.len-in-loop-seat.ensures, before.made.number, c.loop-seat.sources.ok) in
    record {
      made = subst (AreFirstSources c.args.job.now (c.loop-seat.yielded ++ c.in-Some.seat ∷ [])) (sym {A = List Acting} c.push_reserved.ensures.items)
          (one_source_more c.args.job.now c.loop-seat.yielded c.loop-seat.sources.items c.in-Some.seat c.in_ok-source_of.field-0 before.made
          (subst (λ i. IsFirstSource c.args.job.now i c.in-Some.seat c.in_ok-source_of.field-0) number c.in_ok-source_of.ensures));
      room = omega (arith, before.room, c.push_reserved.ensures.capacity);
      rest = before.rest ∙ (ap (λ l. c.loop-seat.yielded ++ l) c.in-Some.ensures.steps.0 ∙ sym (append_assoc c.loop-seat.yielded (c.in-Some.seat ∷ []) c.next.new.self.rest.items));
    }
