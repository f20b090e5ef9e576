-- Words that stand for a sound state, and in which the sources keep their numbers, are an image.
use Rattle.never_cut.proofs.Common.{◌≡◌, ◌⊎◌, inl, inr, ℕ, ◌+◌, ◌-◌, ◌%◌, ◌^◌, ◌<◌, ◌≤◌, ◌==◌, Bool, true, false, List, length, take, get_or, refl, sym, ap, ◌∙◌, subst, arith, slice_index, All, eqb-true, cases_Bool, get_or-map, All-filter, filter_passes, Event, Output, Program, Memory, Log, Ring, Tail, Slot, Ack, Src, next_word, output_word, committed, empty_word, Queue, published, event_at, event_source, event_count, StandsSource, IsAccepted, thread_def, pipe_def, source_thread, Model, thread_of, pipe_of, source_of, queue_of, source_in, outputs_of, Readings, flag, Stands, IsSound, Lasts, told_queue, told_source, is_one_more, IsPipeRight, stamp_at, IsLogWord, IsQueueRight, own_events, held_for, IsSourceRight, taken_of, written_of, KeepTheirNumbers, EveryStateIsImage}
use Rattle.push_core.specs.Queue.{IsFinishing}
use Rattle.std.proofs.lemmas.List.Kept.{IsNonDecreasingBy-filter}
use Rattle.fram_words.specs.Header as header
use Rattle.never_cut.proofs.Blocks.{stamp_word, running_word, outputs_word, taken_count, written_count}
use Rattle.never_cut.proofs.ReadSources.{counted, more_found, more_is}
use Rattle.never_cut.proofs.ToldQueues.{is_readable, queue_told}
use Rattle.never_cut.proofs.BlockImages.{block_right, first_right}

module _ (program : Program) (readings : Readings) (words : Memory) (m : Model) (accepted : IsAccepted program) (sound : IsSound program readings m) (lasts : Lasts 0 m)
    (stands : Stands words program m) (numbers : KeepTheirNumbers program words m) where
  module _ (t : ℕ) (known : t < length program.threads) where
    told : told_queue program words t ≡ queue_of (thread_of m t)
    told = queue_told program readings words m accepted sound stands t known

    log_right : (n : ℕ) → n < committed words t header.outputs → IsLogWord program words t n
    log_right n lt =
        let count = outputs_word program words m t known stands.private in
        let here : n < length (outputs_of m t) = omega (arith, count, lt) in
        let d : Output = record { stamp = 0; thread = record { 0 = 0 }; value = 0 } in
        let is = stamp_is t known n here in
        record {
          least = let least = (of_thread_all (λ (o : Output). (1 ≤ o.stamp) × (o.stamp ≤ m.commits)) t sound.stamps.made n d here).0 in omega (arith, is, least);
          most =
              let reached = (stands.private.threads t known).reached n d here in
              let stamp = stamp_word program words m t known stands.private in
              omega (arith, is, stamp, reached);
          ordered = λ k next.
              let le = IsNonDecreasingBy-filter (λ (o : Output). o.stamp) (λ (o : Output). o.thread.0 == t) m.outputs sound.stamps.ordered k n d (omega arith) here in
              let first = stamp_is t known k (omega arith) in omega (arith, first, is, le);
          own = λ u k less there same.
              let other : u < length program.threads = omega arith in
              let size = outputs_word program words m u other stands.private in
              let at : k < length (outputs_of m u) = omega (arith, size, there) in
              let agree = of_thread_all (λ (o : Output). All (λ (x : Output). x.stamp ≡ o.stamp → x.thread.0 ≡ o.thread.0) m.outputs) t sound.stamps.own n d here in
              let one = of_thread_all (λ (x : Output). x.stamp ≡ (get_or (outputs_of m t) n d).stamp → x.thread.0 ≡ (get_or (outputs_of m t) n d).thread.0) u agree k d at
              (sym (stamp_is u other k at) ∙ (same ∙ is)) in
              let mine = thread_is t n d here in
              let its = thread_is u k d at in
              omega (arith, one, mine, its, less);
        }
      where
        of_thread_all : (P : Output → Type 0) (u : ℕ) → All P m.outputs → All P (outputs_of m u)
        of_thread_all P u all = All-filter (λ (o : Output). o.thread.0 == u) P m.outputs all

        thread_is : (u k : ℕ) (d : Output) → k < length (outputs_of m u) → (get_or (outputs_of m u) k d).thread.0 ≡ u
        thread_is u k d lt = eqb-true _ _ (filter_passes (λ (o : Output). o.thread.0 == u) m.outputs k d lt)

        stamp_is : (u : ℕ) → u < length program.threads → (k : ℕ) → k < length (outputs_of m u) →
            stamp_at words u k ≡ (get_or (outputs_of m u) k (record { stamp = 0; thread = record { 0 = 0 }; value = 0 })).stamp
        stamp_is u there k lt =
            let d : Output = record { stamp = 0; thread = record { 0 = 0 }; value = 0 } in
            let o : Output = get_or (outputs_of m u) k d in
            let word : words (Log u k) ≡ output_word o = (stands.private.threads u there).log k lt ∙ get_or-map output_word (outputs_of m u) k d 0 lt in
            let small : o.value < 2 ^ 32 = of_thread_all (λ (x : Output). x.value < 2 ^ 32) u sound.values k d lt in
            omega (arith, word, small)

    -- no earlier thread has a finished event beside this one's
    unfinished_before : (u : ℕ) → u < t → (thread_of m t).finished ≡ true → (thread_of m u).finished ≡ false
    unfinished_before u less mine =
        elim (cases_Bool (thread_of m u).finished) [
          | inl its ↦ absurd (let same = sound.one t u known (omega arith) mine its in omega (arith, same, less))
          | inr none ↦ none
        ]

    queue_right : IsQueueRight program words t
    queue_right =
        let stood = is_readable program readings words m accepted sound stands t known in
        record {
          slots = λ k lt. record {
            empty = subst (λ (q : Queue). length q.held ≤ k → words (Slot t ((q.released + k) % (thread_def program t).queue)) ≡ empty_word (q.released + k)) (sym told)
                (λ behind. stood.stands.empty_slots ((thread_of m t).released + k) (omega arith) (omega arith));
            fits = subst (λ (q : Queue). length q.held ≤ k → q.released + k < 2 ^ 21) (sym told)
                (λ behind. let small = stood.small in let few = stood.few in omega arith);
          };
          tail = subst (λ (q : Queue). (words (Tail t) ≡ published q) ⊎ (words (Tail t) + 1 ≡ published q)) (sym told) stood.stands.tail_near;
          only = λ done u less.
              let other : u < length program.threads = omega arith in
              let mine : (thread_of m t).finished ≡ true = sym (ap (λ (q : Queue). q.finished) told) ∙ done in
              ap (λ (q : Queue). q.finished) (queue_told program readings words m accepted sound stands u other) ∙ unfinished_before u less mine;
          idle = λ done.
              let mine : (thread_of m t).finished ≡ true = sym (ap (λ (q : Queue). q.finished) told) ∙ done in
              running_word program words m t known stands.private ∙ ap next_word ((sound.threads t known).finished mine).1;
          served = λ chain. first_right program readings words m accepted sound lasts stands t known chain;
        }

  pipe_right : (q : ℕ) → q < length program.pipes → IsPipeRight program words q
  pipe_right q known =
      let pipe = accepted.pipes q known in
      let taken : taken_of program words q ≡ (pipe_of m q).taken = taken_count program words m (pipe_def program q).reader.0 q accepted pipe.reader stands.private known refl in
      let written : written_of program words q ≡ (pipe_of m q).taken + length (pipe_of m q).items = written_count program words m q accepted stands.private known in
      record {
        counts = record {
          ordered = omega (arith, taken, written);
          room = let le = (sound.pipes q known).room in omega (arith, taken, written, le);
        };
        items = λ n from below.
            let k : ℕ = n - (pipe_of m q).taken in
            let same : (pipe_of m q).taken + k ≡ n = omega (arith, taken, from) in
            let lt : k < length (pipe_of m q).items = omega (arith, taken, written, from, below) in
            let word = subst (λ z. words (Ring q (z % (pipe_def program q).places)) ≡ slice_index (pipe_of m q).items k) same (stands.private.pipes q known k lt) in
            let small = (sound.pipes q known).values k in
            omega (arith, word, small);
      }

  module _ (i : ℕ) (known : i < length program.sources) where
    fed : source_thread program i < length program.threads
    fed = accepted.sources i known

    queue_is : told_queue program words (source_thread program i) ≡ queue_of (thread_of m (source_thread program i))
    queue_is = told (source_thread program i) fed

    few : i < 256
    few = let most = accepted.counts.sources in omega arith

    -- the source's words stand for it, by the events that are told
    stood : StandsSource i (words (Src i)) (words (Ack i)) (held_for program words i) (source_in (source_of m i))
    stood = subst (λ (q : Queue). StandsSource i (words (Src i)) (words (Ack i)) q.held (source_in (source_of m i))) (sym queue_is) (stands.shared.sources i known)

    -- so its numbers are those that are told
    numbers_told : (b : Bool) → is_one_more program words i ≡ b →
        ((source_of m i).accepted ≡ (told_source program words i).accepted) × ((source_of m i).next ≡ (told_source program words i).next)
    numbers_told true is =
        let more = stood.one_more (more_is program words i few is) in
        let one : flag (is_one_more program words i) ≡ 1 = ap flag is in (omega (arith, more.0, one), omega (arith, more.1, one))
    numbers_told false is =
        let kept = stood.as_many (λ more. absurd (let clash : false ≡ true = sym is ∙ more_found program words i few more in cc)) in
        let none : flag (is_one_more program words i) ≡ 0 = ap flag is in (omega (arith, kept.0, none), omega (arith, kept.1, none))

    source_right : IsSourceRight program words i
    source_right =
        let same = numbers_told (is_one_more program words i) refl in
        let kept = numbers i known in
        let back = counted i (thread_of m (source_thread program i)).held kept.gone (source_of m i).accepted kept.numbered in
        let held_is : held_for program words i ≡ (thread_of m (source_thread program i)).held = ap (λ (q : Queue). q.held) queue_is in
        let count : own_events i (held_for program words i) ≡ own_events i (thread_of m (source_thread program i)).held = ap (own_events i) held_is in
        let gone_is : kept.gone ≡ (told_source program words i).accepted - own_events i (held_for program words i) = omega (arith, same.0, back.0, count) in
        record {
          src = let le = (sound.sources i known).ordered in omega (arith, same.0, same.1, le);
          counts = λ j lt own. (
            omega (arith, same.0, back.0, count),
            subst (λ (l : List Event). j < length l → event_source (event_at l j) ≡ i → event_count (event_at l j) ≡ (kept.gone + own_events i (take j l)) % 64) (sym held_is) (back.1 j) lt own
                ∙ ap (λ n. (n + own_events i (take j (held_for program words i))) % 64) gone_is,
          );
          ack = elim kept.ack_is [
            | inl is ↦ inl (is ∙ ap (λ n. n % 64) gone_is)
            | inr done ↦ inr (subst (λ (z : ℕ × Queue). IsFinishing i z.0 z.1) (λ k. (gone_is k % 64, sym queue_is k)) done.0, done.1 ∙ ap (λ n. (n + 1) % 64) gone_is)
          ];
        }

pub every_state : EveryStateIsImage
every_state program readings words m accepted sound lasts stands numbers = record {
  code = stands.private.code;
  commit_words = λ t known. (stands.private.threads t known).pages;
  blocks = λ t w known lt. block_right program readings words m accepted sound lasts stands t known w;
  pipes = pipe_right program readings words m accepted sound lasts stands numbers;
  logs = λ t n known lt. log_right program readings words m accepted sound lasts stands numbers t known n lt;
  queues = λ t known. queue_right program readings words m accepted sound lasts stands numbers t known;
  sources = λ i known. source_right program readings words m accepted sound lasts stands numbers i known;
}
