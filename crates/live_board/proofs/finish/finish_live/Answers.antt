use Rattle.std.proofs.Common.{◌≡◌, ℕ, List, ap, ◌∙◌, sym, subst, refl}
use Rattle.task_isa.specs.declared.program.Program.{Program}
use Rattle.event_queue.specs.Seats.{lay_in}
use Rattle.kernel_actor.specs.Lays.{IsLayOf}
use Rattle.live_words.specs.Finals.{AreFinal}
use Rattle.queue_lists.specs.Gathers.{AreGathered, HavePlaces, HaveRoom}
use Rattle.queue_lists.specs.Lists.{Lists}
use Rattle.live_board.specs.kept.Ends.{AreOver}
use Rattle.live_board.proofs.Finishing.{ends, is_live_record, over_of, seats_of}
use Rattle.live_board.proofs.finish.finish_live.Goals as goal

pub finish-closed-requires-clause-sources : goal.finish-closed-requires-clause-sources
finish-closed-requires-clause-sources c = seats_of c.args.parts.job c.args.parts.set c.args.parts.sources.items c.args.parts.kernel c.args.parts.clock c.put_ends.new.seats.items c.put_ends.new.srcs.items c.put_ends.new.ends.items c.requires.board c.put_ends.ensures

pub gather-accepted-requires-clause-places : goal.gather-accepted-requires-clause-places
gather-accepted-requires-clause-places c =
    let over : AreOver c.args.parts.job c.args.parts.set c.args.parts.sources.items c.args.parts.kernel c.args.parts.clock =
    over_of c.args.parts.job c.args.parts.set c.args.parts.sources.items c.args.parts.kernel c.args.parts.clock c.into_parts-plan.result.seat c.put_ends.new.seats.items c.put_ends.new.srcs.items c.put_ends.new.ends.items c.finish-closed.result.words.items
    c.requires.board c.put_ends.ensures c.into_parts-plan.ensures.seat c.finish-closed.ensures in
    subst (HavePlaces c.args.parts.job.program) (sym c.as_slice-2.ensures.value)
    (c.gathered_are_accounted.ensures.fits c.args.parts.job c.put_ends.new.srcs.items c.put_ends.new.ends.items c.args.parts.room.lists (ends over) c.requires.room.lists).0

pub gather-accepted-requires-clause-room : goal.gather-accepted-requires-clause-room
gather-accepted-requires-clause-room c =
    let over : AreOver c.args.parts.job c.args.parts.set c.args.parts.sources.items c.args.parts.kernel c.args.parts.clock =
    over_of c.args.parts.job c.args.parts.set c.args.parts.sources.items c.args.parts.kernel c.args.parts.clock c.into_parts-plan.result.seat c.put_ends.new.seats.items c.put_ends.new.srcs.items c.put_ends.new.ends.items c.finish-closed.result.words.items
    c.requires.board c.put_ends.ensures c.into_parts-plan.ensures.seat c.finish-closed.ensures in
    subst (λ (l : List Lists). HaveRoom c.args.parts.job.program l c.args.parts.room.lists) (sym c.as_slice-2.ensures.value)
    (c.gathered_are_accounted.ensures.fits c.args.parts.job c.put_ends.new.srcs.items c.put_ends.new.ends.items c.args.parts.room.lists (ends over) c.requires.room.lists).1

pub returns : goal.returns
returns c =
    let over : AreOver c.args.parts.job c.args.parts.set c.args.parts.sources.items c.args.parts.kernel c.args.parts.clock =
    over_of c.args.parts.job c.args.parts.set c.args.parts.sources.items c.args.parts.kernel c.args.parts.clock c.into_parts-plan.result.seat c.put_ends.new.seats.items c.put_ends.new.srcs.items c.put_ends.new.ends.items c.finish-closed.result.words.items
    c.requires.board c.put_ends.ensures c.into_parts-plan.ensures.seat c.finish-closed.ensures in
    let program : c.into_parts-plan.result.plan.accepted ≡ c.args.parts.job.program = c.into_parts-plan.ensures.plan ∙ c.requires.board.kernel_after.program in
    is_live_record (record {
      over = over;
      job_is = refl;
      gathered = subst (λ (l : List Lists). AreGathered c.args.parts.job.program l c.gather-accepted.result.accepted c.gather-accepted.result.charges c.gather-accepted.result.refused) c.as_slice-2.ensures.value c.gather-accepted.ensures;
      kernel = c.from_vec.ensures ∙ c.into_parts-plan.ensures.charges;
      words =
          subst (λ (z : List ℕ × (List ℕ × List ℕ)). AreFinal c.args.parts.job.program (lay_in c.args.parts.set) z.0 c.finish-closed.result.words.items z.1.0 z.1.1)
          (λ j. (c.into_parts-plan.ensures.words j, (c.as_slice.ensures.value j, sym c.from_vec-2.ensures j)))
          (subst (λ (p : Program). AreFinal p (lay_in c.args.parts.set) c.into_parts-plan.result.words.items c.finish-closed.result.words.items c.as_slice.result.now c.final_words-words.result.items) program
          (c.final_words-words.ensures (lay_in c.args.parts.set) (subst (λ (p : Program). IsLayOf p (lay_in c.args.parts.set)) (sym program) c.requires.board.lay)));
    })
    c.ends_stand.ensures
