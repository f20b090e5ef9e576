-- The queues of a record that has the lists of all sources.
use Rattle.std.proofs.Common.{◌≡◌, ℕ, ◌+◌, ◌-◌, ◌<◌, List, map, slice_index, length, refl, sym, ap, ◌∙◌, subst, arith}
use Rattle.std.proofs.lemmas.List.{length-map}
use mathlib.Core.Option.{some}
use lib.ListN.{get_elem?}
use Rattle.ink_base.specs.declared.accept.Accept.{Accept}
use Rattle.ink_base.specs.declared.event.Event.{Event}
use Rattle.ink_base.specs.declared.ids.SourceId.{SourceId}
use Rattle.fram_words.specs.Held.{src_of}
use Rattle.prog_check.specs.Lookup.{source_thread}
use Rattle.never_cut.specs.Entries.{readings_of}
use Rattle.job_parts.specs.Job.{JobParts}
use Rattle.event_queue.specs.Calls.{Won, acked_of, mine_of, released_of}
use Rattle.event_queue.specs.Events.{Entry}
use Rattle.event_queue.specs.Places.{Ack, word_at}
use Rattle.event_queue.proofs.Basics.{same_element}
use Rattle.irq_source.specs.declared.lists.Published.{Published}
use Rattle.irq_source.specs.Account.{IsWithin, publication}
use Rattle.live_account.specs.declared.record.LiveRecord.{LiveRecord}
use Rattle.live_account.specs.Kernel.{events_in}
use Rattle.live_account.specs.Matches.{AreOf, accept_of, event_of}
use Rattle.live_account.specs.Queues.{AreEvents, HasEvent, IsReadingFor, ListsTurn, WasAccepted, accepted_in, charges_in, events_from, source_state}
use Rattle.queue_lists.specs.Accounts.{TellsNumbers, source_with}
use Rattle.queue_lists.specs.Ends.{IsGathered, PublishInTurns}
use Rattle.queue_lists.specs.Gathers.{source}
use Rattle.queue_lists.specs.Laws.{AreEnds, IsNumbered}
use Rattle.queue_lists.specs.Lists.{Lists, lists_at, accepted_into}
use Rattle.queue_lists.proofs.Elements.{unmapped, same_lists}
use Rattle.queue_lists.proofs.Ends.{into_own, every_account, keeps_src, tells, published_are, within, size_is}
use Rattle.queue_lists.proofs.Queues.{every_list_tells, every_number_tells, every_source_tells}

-- Event p of thread t's queue, an entry's, is a source's published reading, and was accepted in its charge.
pub record IsPlaced (job : JobParts) (r : LiveRecord) (lists : List Lists) (t p : ℕ) (e : Entry) : Type 0 where
  pub known : e.source < length job.program.sources
  pub queue : source_thread job.program e.source ≡ t
  pub number : ℕ
  pub listed : Published
  pub at : get_elem? (lists_at lists e.source).accepted number ≡ some listed
  pub position : listed.position ≡ p
  pub reading : listed.reading ≡ e.reading
  pub begun : listed.charge < length job.charges
  pub event : HasEvent r t p (accept_of e)
  pub date : WasAccepted r t p listed.charge

module _ {job : JobParts} {r : LiveRecord} {srcs : List ℕ} {lists : List Lists} (e : AreEnds job srcs lists) (g : IsGathered job r srcs lists) where
  pub placed : (t : ℕ) → t < length job.program.threads → (p : ℕ) (x : Entry) → get_elem? (e.finished.entries t) p ≡ some x → IsPlaced job r lists t p x
  placed t there p x at =
      let is = (e.finished.kept.events t).events p x at in
      let i : ℕ = x.source in
      let known : i < length job.program.sources = omega (arith, is.source, e.ends.sources) in
      let queue : source_thread job.program i ≡ t = sym (e.ends.queue i known) ∙ is.queue in
      let mine = (e.finished.kept.sources i).own p x (subst (λ (u : ℕ). get_elem? (e.finished.entries u) p ≡ some x) (sym is.queue) at) refl in
      let own = unmapped publication (lists_at lists i).accepted mine.number _ (ap (λ (ms : List Won). get_elem? ms mine.number) (published_are e i known) ∙ mine.at) in
      let listed : Published = own.0 in
      let position : listed.position ≡ p = ap (λ (w : Won). w.position) own.2 in
      let reading : listed.reading ≡ x.reading = ap (λ (w : Won). w.reading) own.2 in
      let value : listed.value ≡ x.value = ap (λ (w : Won). w.value) own.2 in
      let into : get_elem? (accepted_into job.program lists t i) mine.number ≡ some listed = ap (λ (l : List Published). get_elem? l mine.number) (into_own job.program lists t i queue) ∙ own.1 in
      let put = g.gathered.events.events t there in
      let first : i < length lists = omega (arith, known, e.ends.number) in
      record {
        known = known;
        queue = queue;
        number = mine.number;
        listed = listed;
        at = own.1;
        position = position;
        reading = reading;
        begun = ((every_account e i known).lists.published mine.number listed own.1).charge;
        event = ap (λ (q : ℕ). get_elem? (accepted_in r t) q) (sym position) ∙ (put.here i mine.number listed first into ∙ (λ j. some (record { source = source i; reading = reading j; value = value j })));
        date = ap (λ (q : ℕ). get_elem? (charges_in r t) q) (sym position) ∙ put.date i mine.number listed first into;
      }

  pub is_of_entries : (t : ℕ) → t < length job.program.threads → AreOf (e.finished.entries t) (accepted_in r t)
  is_of_entries t there =
      same_lists (accepted_in r t) (map accept_of (e.finished.entries t)) ((g.gathered.events.events t there).size ∙ (sym (size_is e t) ∙ sym (length-map (e.finished.entries t) accept_of)))
      (λ n y at. let x = unmapped accept_of (e.finished.entries t) n y at in (placed t there n x.0 x.1).event ∙ ap some x.2)

  -- a source's queue is one of the threads'
  pub thread_known : (i : ℕ) → i < length job.program.sources → source_thread job.program i < length job.program.threads
  thread_known i known = let there = e.finished.limits.queues i (omega (arith, known, e.ends.sources)) in omega (arith, there, e.ends.queue i known, e.ends.queues)

  pub events_number : (i : ℕ) → i < length job.program.sources → events_from job.program r i ≡ length (mine_of (e.finished.calls.source i))
  events_number i known =
      every_number_tells e.lay e.words e.kernel e.clock e.seats e.finished i (accepted_in r (source_thread job.program i))
      (subst (λ (t : ℕ). AreOf (e.finished.entries t) (accepted_in r (source_thread job.program i))) (sym (e.ends.queue i known)) (is_of_entries (source_thread job.program i) (thread_known i known)))

  pub is_numbered : (i : ℕ) → i < length job.program.sources → IsNumbered job r e.finished.calls.kernel (e.finished.calls.source i) i (slice_index srcs i) (word_at e.lay e.words (Ack i))
  is_numbered i known =
      let t : ℕ = source_thread job.program i in
      let src : ℕ = slice_index srcs i in
      let events : events_in r t ≡ map event_of (e.finished.entries t) = every_list_tells e.lay e.words e.kernel e.clock e.seats e.finished t (accepted_in r t) (is_of_entries t (thread_known i known)) in
      let number = events_number i known in
      let numbers = every_source_tells e.lay e.words e.kernel e.clock e.seats e.finished i (length (readings_of job.readings i)) src (omega (arith, known, e.ends.sources)) (keeps_src e i known) in
      record {
        tells = subst (λ (z : ℕ × List Event × ℕ). TellsNumbers i src (word_at e.lay e.words (Ack i)) z.1 (released_of z.0 e.finished.calls.kernel) (acked_of z.0 e.finished.calls.kernel) z.2)
            (λ j. (e.ends.queue i known j, (ap (λ (u : ℕ). map event_of (e.finished.entries u)) (e.ends.queue i known) ∙ sym events) j, sym number j)) numbers;
        published = number;
        within = subst (λ (n : ℕ). IsWithin (length (readings_of job.readings i)) src n) (sym number) (within e i known);
      }

  -- what the record tells that a source has settled is what its own numbers tell
  pub next_is : (i : ℕ) → i < length job.program.sources → (source_state job.program r i).next ≡ (source_with (slice_index srcs i) (length (mine_of (e.finished.calls.source i)))).next
  next_is i known = λ j. (src_of (g.words i known j)).next + (events_number i known j - (src_of (g.words i known j)).accepted)

  -- the entry of an event
  pub entry_of : (t : ℕ) → t < length job.program.threads → (p : ℕ) (a : Accept) → HasEvent r t p a → (x : Entry) × (get_elem? (e.finished.entries t) p ≡ some x) × (accept_of x ≡ a)
  entry_of t there p a has = unmapped accept_of (e.finished.entries t) p a (ap (λ (l : List Accept). get_elem? l p) (sym (is_of_entries t there)) ∙ has)

  pub are_events : ((i : ℕ) → i < length job.program.sources → PublishInTurns job i (lists_at lists i)) → (t : ℕ) → t < length job.program.threads → AreEvents job r t
  are_events turns t there = record { readings = readings; rise = rise; dated = dated; charges = charges }
    where
      -- an entry of the queue is one of its source's
      at_own : (i p : ℕ) (x : Entry) → source_thread job.program i ≡ t → get_elem? (e.finished.entries t) p ≡ some x → get_elem? (e.finished.entries (source_thread job.program i)) p ≡ some x
      at_own i p x queue at = subst (λ (u : ℕ). get_elem? (e.finished.entries u) p ≡ some x) (sym queue) at

      readings : (p : ℕ) (a : Accept) → HasEvent r t p a → IsReadingFor job t a
      readings p a has =
          let x = entry_of t there p a has in
          let put = placed t there p x.0 x.1 in
          let told = (tells e x.0.source put.known).events p x.0 (at_own x.0.source p x.0 put.queue x.1) refl in
          subst (λ (b : Accept). IsReadingFor job t b) x.2 (record { source = put.known; queue = put.queue; reading = told.within; value = told.value })

      rise : (p q : ℕ) (a b : Accept) → p < q → HasEvent r t p a → HasEvent r t q b → a.source ≡ b.source → a.reading < b.reading
      rise p q a b lt has_a has_b same =
          let x = entry_of t there p a has_a in
          let y = entry_of t there q b has_b in
          let put = placed t there p x.0 x.1 in
          let one : y.0.source ≡ x.0.source = ap (λ (c : Accept). c.source.0) y.2 ∙ (ap (λ (s : SourceId). s.0) (sym same) ∙ sym (ap (λ (c : Accept). c.source.0) x.2)) in
          let less = (tells e x.0.source put.known).rise p q x.0 y.0 lt (at_own x.0.source p x.0 put.queue x.1) (at_own x.0.source q y.0 put.queue y.1) refl one in
          omega (arith, less, ap (λ (c : Accept). c.reading) x.2, ap (λ (c : Accept). c.reading) y.2)

      dated : length (charges_in r t) ≡ length (accepted_in r t)
      dated = let put = g.gathered.events.events t there in put.dated ∙ sym put.size

      charges : (p c : ℕ) (a : Accept) → HasEvent r t p a → WasAccepted r t p c → ListsTurn job a.source.0 c
      charges p c a has was =
          let x = entry_of t there p a has in
          let put = placed t there p x.0 x.1 in
          let date : put.listed.charge ≡ c = same_element (charges_in r t) p put.listed.charge c put.date was in
          subst (λ (z : ℕ × ℕ). ListsTurn job z.0 z.1) (λ j. ((x.2 j).source.0, date j)) (turns x.0.source put.known put.number put.listed put.at)
