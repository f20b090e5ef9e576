-- An image that isn't worn stands for the state that is read off it, and a run can begin there.
use Rattle.never_cut.proofs.Common.{◌≡◌, ℕ, ◌<◌, List, length, sym, ap, subst, arith, Event, Program, Memory, Tail, Ack, Src, Queue, Source, StandsQueue, StandsSource, KeepsNumbers, IsAccepted, thread_def, source_thread, Model, thread_of, source_of, queue_of, source_in, StandsShared, slots_of, told_held, IsReadOff, IsImage, KeepTheirNumbers, EveryImageStands}
use Rattle.never_cut.proofs.SoundStates.{published_bound}
use Rattle.never_cut.proofs.ReadQueues.{queue_read}
use Rattle.never_cut.proofs.ReadSources.{source_read, source_keeps}
use Rattle.never_cut.proofs.ReadStates.{read_sound}
use Rattle.never_cut.proofs.ReadCounts.{read_lasts}

module _ (program : Program) (words : Memory) (m : Model) (accepted : IsAccepted program) (image : IsImage program words) (read : IsReadOff program words m) where
  shared : StandsShared words program m
  shared = record {
    queues = λ t known. subst (StandsQueue (thread_def program t).queue (slots_of words t) (words (Tail t))) (sym (read.queues t known)) (queue_read program words t (image.queues t known));
    clock = sym read.clock;
    sources = λ i known.
        let held : (thread_of m (source_thread program i)).held ≡ told_held program words (source_thread program i) = ap (λ (q : Queue). q.held) (read.queues (source_thread program i) (accepted.sources i known)) in
        subst (λ (z : List Event × Source). StandsSource i (words (Src i)) (words (Ack i)) z.0 z.1) (λ k. (sym held k, sym (read.sources i known) k))
        (source_read program words i (let few = accepted.counts.sources in omega arith));
  }

  numbers : KeepTheirNumbers program words m
  numbers i known =
      let queue = read.queues (source_thread program i) (accepted.sources i known) in
      subst (λ (z : Queue × Source). KeepsNumbers i (words (Src i)) (words (Ack i)) z.0 z.1) (λ k. (sym queue k, sym (read.sources i known) k)) (source_keeps program words i (image.sources i known))

pub every_image : EveryImageStands
every_image program readings listed words m accepted image fresh read are =
    let sound = read_sound program readings listed words m accepted image fresh read are in
    record {
      stands = record { private = read.private; shared = shared program words m accepted image read };
      numbers = numbers program words m accepted image read;
      start = record {
        sound = sound;
        counts = read_lasts program listed words m accepted image fresh read (λ t known. published_bound program readings m t sound known);
      };
    }
