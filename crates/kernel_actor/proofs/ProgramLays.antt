-- The queues of an accepted program are within the limits of a set.
use Rattle.std.proofs.Common.{◌≡◌, inl, inr, ℕ, ◌<◌, List, length, map, slice_index, sym, subst, arith}
use Rattle.std.proofs.lemmas.Bool.{cases_lt}
use Rattle.std.proofs.lemmas.List.{length-map, get_or_past, get_or-map}
use Rattle.ink_base.specs.declared.ids.ThreadId.{ThreadId}
use Rattle.task_isa.specs.declared.program.Program.{Program}
use Rattle.prog_check.specs.Accepted.{IsAccepted}
use Rattle.prog_check.specs.Lookup.{thread_def, source_thread, no_thread_def, no_thread}
use Rattle.event_queue.specs.Rule.{IsLay}
use Rattle.event_queue.specs.Views.{lay_of}
use Rattle.event_queue.specs.declared.view.Lay.{Lay}
use Rattle.event_queue.specs.declared.view.Shape.{Shape}
use Rattle.kernel_actor.specs.Lays.{IsLayOf, places_in}

-- its places and sources are the program's
pub record IsProgramLay (program : Program) (lay : Lay) : Type 0 where
  pub of : IsLayOf program lay
  pub limits_are : IsLay lay

places_here : (program : Program) (t : ℕ) → t < length program.threads → slice_index (map places_in program.threads) t ≡ (thread_def program t).queue
places_here program t lt = get_or-map places_in program.threads t no_thread_def 0 lt

queue_here : (program : Program) (i : ℕ) → i < length program.sources → slice_index (map (λ (t : ThreadId). t.0) program.sources) i ≡ source_thread program i
queue_here program i lt = get_or-map (λ (t : ThreadId). t.0) program.sources i no_thread 0 lt

program_lay_by : (program : Program) → IsAccepted program → IsProgramLay program (record { queues = map places_in program.threads; sources = map (λ (t : ThreadId). t.0) program.sources })
program_lay_by program accepted =
    let threads = length-map program.threads places_in in
    let sources = length-map program.sources (λ (t : ThreadId). t.0) in
    record {
      of = record { queues = threads; sources = sources; queue = queue_here program; places = places_here program };
      limits_are = record {
        threads = let few = accepted.counts.threads in omega arith;
        sources = let few = accepted.counts.sources in omega arith;
        some = λ t lt. let right = accepted.threads t (omega (arith, lt, threads)) in let least = right.queue_least in omega (arith, places_here program t (omega (arith, lt, threads)));
        no_more = λ t. elim (cases_lt t (length program.threads)) [
          | inl lt ↦ let right = accepted.threads t lt in let most = right.queue in omega (arith, places_here program t lt)
          | inr past ↦ let none : slice_index (map places_in program.threads) t ≡ 0 = get_or_past (map places_in program.threads) t 0 (omega (arith, threads)) in omega arith
        ];
        queues = λ i lt. let right = accepted.sources i (omega (arith, lt, sources)) in omega (arith, queue_here program i (omega (arith, lt, sources)), threads);
      };
    }

pub program_lay : (program : Program) (shape : Shape) → IsAccepted program → shape.places.items ≡ map places_in program.threads → shape.sources.items ≡ program.sources → IsProgramLay program (lay_of shape)
program_lay program shape accepted places sources =
    subst (λ (z : List ℕ × List ThreadId). IsProgramLay program (record { queues = z.0; sources = map (λ (t : ThreadId). t.0) z.1 })) (sym (λ j. (places j, sources j))) (program_lay_by program accepted)
