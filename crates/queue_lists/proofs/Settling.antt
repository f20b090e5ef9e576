-- The refusals of a record that has the lists of all sources, and the readings that each source has settled.
use Rattle.std.proofs.Common.{◌≡◌, inl, inr, ℕ, ◌<◌, ◌≤◌, List, slice_index, length, refl, sym, ap, ◌∙◌, subst, arith}
use mathlib.Core.Option.{some}
use lib.ListN.{get_elem?}
use Rattle.ink_base.specs.declared.accept.Accept.{Accept}
use Rattle.ink_base.specs.declared.ids.SourceId.{SourceId}
use Rattle.prog_check.specs.Lookup.{source_thread}
use Rattle.never_cut.specs.Entries.{readings_of}
use Rattle.job_parts.specs.Job.{JobParts}
use Rattle.event_queue.specs.Calls.{mine_of}
use Rattle.irq_source.specs.declared.lists.Declined.{Declined}
use Rattle.irq_source.specs.Acting.{knows}
use Rattle.irq_source.specs.Pace.{KnowsOthers, enough_for}
use Rattle.live_account.specs.declared.record.LiveRecord.{LiveRecord}
use Rattle.live_account.specs.declared.record.Refusal.{Refusal}
use Rattle.live_account.specs.Matches.{accept_of}
use Rattle.live_account.specs.Queues.{AreRefusals, HasEvent, HasRefusal, IsRefusal, Parted, SettledBy, Settles, others_beside, places_for, source_state}
use Rattle.live_account.specs.Turns.{charge_at, source, turns_for}
use Rattle.queue_lists.specs.Ends.{IsGathered, IsSettledBy, RefuseInTurns, SettlesInTime}
use Rattle.queue_lists.specs.Gathers.{refusals_of}
use Rattle.queue_lists.specs.Gathers as gathers
use Rattle.queue_lists.specs.Laws.{AreEnds}
use Rattle.queue_lists.specs.Lists.{Lists, lists_at, accepted_into}
use Rattle.queue_lists.specs.Puts.{accepted_as, refusal_of}
use Rattle.queue_lists.proofs.Ends.{calls_are, every_account, into_own, out_is, settled_next, size_is, tells}
use Rattle.queue_lists.proofs.Placed.{entry_of, events_number, next_is, placed, thread_known}
use Rattle.queue_lists.proofs.Refusals.{in_order, is_among, is_from}

module _ {job : JobParts} {r : LiveRecord} {srcs : List ℕ} {lists : List Lists} (e : AreEnds job srcs lists) (g : IsGathered job r srcs lists) where
  -- a refusal of the record is one of the lists
  among : (n : ℕ) (d : Refusal) → HasRefusal r n d → get_elem? (refusals_of lists (length lists)) n ≡ some d
  among n d has = ap (λ (l : List Refusal). get_elem? l n) (sym g.gathered.refusals) ∙ has

  is_refusal : (i : ℕ) (known : i < length job.program.sources) (n : ℕ) (x : Declined) → RefuseInTurns job r.kernel i (lists_at lists i) → get_elem? (lists_at lists i).refused n ≡ some x → IsRefusal job r (refusal_of (gathers.source i) x)
  is_refusal i known n x turns at =
      let told = tells e i known in
      let turn = turns n x at in
      let t : ℕ = source_thread job.program i in
      record {
        source = known;
        published = omega (arith, (told.refusals n x at).published, size_is e t, (g.gathered.events.events t (thread_known e g i known)).size);
        released = turn.released;
        parted = λ p a has same. (
            let y = entry_of e g t (thread_known e g i known) p a has in
            let own : y.0.source ≡ i = ap (λ (c : Accept). c.source.0) y.2 ∙ ap (λ (s : SourceId). s.0) same in
            subst (λ (b : Accept). Parted (refusal_of (gathers.source i) x) p b) y.2 (told.parted p n y.0 x y.1 own at));
        charge = turn.charge;
      }

  pub are_refusals : ((i : ℕ) → i < length job.program.sources → RefuseInTurns job r.kernel i (lists_at lists i)) → AreRefusals job r
  are_refusals turns = record {
    each = λ n d has. (
        let x = is_from lists (length lists) n d (among n d has) in
        let known : x.owner < length job.program.sources = omega (arith, x.known, e.ends.number) in
        subst (IsRefusal job r) x.same (is_refusal x.owner known x.number x.declined (turns x.owner known) x.at));
    sources = λ j n a b lt has_a has_b. elim (in_order lists (length lists) j n a b lt (among j a has_a) (among n b has_b)) [
      | inl earlier ↦ omega (arith, earlier)
      | inr x ↦ omega (arith, ap (λ (d : Refusal). d.source.0) x.same_one, ap (λ (d : Refusal). d.source.0) x.same_other)
    ];
    rise = λ j n a b lt has_a has_b same. elim (in_order lists (length lists) j n a b lt (among j a has_a) (among n b has_b)) [
      | inl earlier ↦ absurd (omega (arith, earlier, ap (λ (s : SourceId). s.0) same))
      | inr x ↦
          let known : x.owner < length job.program.sources = omega (arith, x.known, e.ends.number) in
          let rises = (every_account e x.owner known).lists.rise x.first x.second x.one x.other x.before x.at_one x.at_other in
          omega (arith, rises, ap (λ (d : Refusal). d.reading) x.same_one, ap (λ (d : Refusal). d.reading) x.same_other)
    ];
  }

  -- what the lists have of a reading the record has
  settled_by : (i : ℕ) → i < length job.program.sources → (k c : ℕ) → IsSettledBy (lists_at lists i) k c → SettledBy job.program r i k c
  settled_by i known k c (inl (n, p, at, reading, charge)) =
      let t : ℕ = source_thread job.program i in
      let put = g.gathered.events.events t (thread_known e g i known) in
      let first : i < length lists = omega (arith, known, e.ends.number) in
      let into : get_elem? (accepted_into job.program lists t i) n ≡ some p = ap (λ l. get_elem? l n) (into_own job.program lists t i refl) ∙ at in
      inl (p.position, accepted_as (gathers.source i) p, p.charge, put.here i n p first into, refl, reading, put.date i n p first into, charge)
  settled_by i known k c (inr (n, d, at, reading, charge)) =
      let first : i < length lists = omega (arith, known, e.ends.number) in
      let there = is_among lists (length lists) i n d first at in
      inr (there.0, refusal_of (gathers.source i) d, ap (λ (l : List Refusal). get_elem? l there.0) g.gathered.refusals ∙ there.1, refl, reading, charge)

  pub settles : (i : ℕ) (known : i < length job.program.sources) → SettlesInTime job i (slice_index srcs i) (knows (e.ends.each i known).actor) (lists_at lists i) → Settles job r i
  settles i known in_time = record { within = within; settled = settled; accepted = accepted; refused = refused; enough = enough }
    where
      within : (source_state job.program r i).next ≤ length (readings_of job.readings i)
      within = omega (arith, next_is e g i known, (tells e i known).within)

      settled : (k : ℕ) → k < (source_state job.program r i).next → SettledBy job.program r i k (length job.charges)
      settled k lt = elim ((tells e i known).settled k (omega (arith, lt, next_is e g i known))) [
        | inl x ↦
            let put = placed e g (source_thread job.program i) (thread_known e g i known) x.0 x.1 x.2 in
            inl (x.0, accept_of x.1, put.listed.charge, put.event, x.3, x.4, put.date, omega (arith, put.begun))
        | inr x ↦ settled_by i known k (length job.charges) (inr (x.0, x.1, x.2, x.3, omega (arith, ((tells e i known).refusals x.0 x.1 x.2).charge)))
      ]

      accepted : (p : ℕ) (a : Accept) → HasEvent r (source_thread job.program i) p a → a.source.0 ≡ i → a.reading < (source_state job.program r i).next
      accepted p a has own =
          let x = entry_of e g (source_thread job.program i) (thread_known e g i known) p a has in
          let listed = (tells e i known).events p x.0 x.1 (ap (λ (c : Accept). c.source.0) x.2 ∙ own) in
          omega (arith, listed.settled, next_is e g i known, ap (λ (c : Accept). c.reading) x.2)

      refused : (n : ℕ) (d : Refusal) → HasRefusal r n d → d.source.0 ≡ i → d.reading ≤ (source_state job.program r i).next
      refused n d has own =
          let x = is_from lists (length lists) n d (among n d has) in
          let same : x.owner ≡ i = ap (λ (c : Refusal). c.source.0) x.same ∙ own in
          let told = (tells e i known).refusals x.number x.declined (subst (λ (j : ℕ). get_elem? (lists_at lists j).refused x.number ≡ some x.declined) same x.at) in
          omega (arith, told.reading, next_is e g i known, ap (λ (c : Refusal). c.reading) x.same)

      -- the events of other sources are what the source knows to be published beside its own
      others : KnowsOthers (others_beside job.program r i) (knows (e.ends.each i known).actor)
      others =
          let put = g.gathered.events.events (source_thread job.program i) (thread_known e g i known) in
          let own = ap length (ap mine_of (calls_are e i known)) in
          let all = ap (λ (t : ℕ). length (e.finished.entries t)) (e.ends.queue i known) in
          omega (arith, out_is e i known, all, own, events_number e g i known, put.size, size_is e (source_thread job.program i))

      enough : (c m k : ℕ) → c < length job.charges → enough_for (places_for job.program i) (others_beside job.program r i) m ≤ turns_for (source i) (charge_at job.charges c) →
          k < m → k < length (readings_of job.readings i) → (k < (source_state job.program r i).next) × SettledBy job.program r i k c
      enough c m k in_job turns less there =
          let x = in_time c m k (others_beside job.program r i) in_job others turns less there in
          (omega (arith, x.0, settled_next e i known, next_is e g i known), settled_by i known k c x.1)
