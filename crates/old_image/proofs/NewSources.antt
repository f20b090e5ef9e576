-- The sources that the renewed words tell: as many accepted as are held, and the next reading of the earlier form.
use Rattle.old_image.proofs.Common.{◌≡◌, ◌≢◌, ◌⊎◌, inl, inr, ℕ, ◌+◌, ◌-◌, ◌*◌, ◌/◌, ◌%◌, ◌^◌, ◌<◌, ◌≤◌, ◌==◌, ◌&&◌, ◌||◌, max, Bool, true, false, List, length, take, refl, sym, ap, ◌∙◌, subst, arith, eqb-true, ne_eqb, list_any, Memory, Ack, Src, Program, thread_def, source_thread, Event, src_of, src_word, event_at, event_count, event_source, IsAccepted, has_number, is_one_more, told_held, told_source, held_for, own_events, flag, IsSourceRight, OldEvent, own_old, after_held, old_event_at, old_held, old_held_for, old_next, IsOldImage, IsRenewed}
use Rattle.old_image.proofs.Lists.{AreLike, own_like, own_all, own_before, own_few, own_most, Rise, rise_bound, none_pass}
use Rattle.old_image.proofs.OldQueues.{held_few}
use Rattle.old_image.proofs.NewQueues.{held_count, held_event, held_like, both_false}

either_false : (a b : Bool) → a ≡ false → b ≡ false → (a || b) ≡ false
either_false true b h k = absurd (let clash : true ≡ false = h in cc)
either_false false b h k = k

module _ (program : Program) (old new : Memory) (renewed : IsRenewed program old new) (accepted : IsAccepted program) (image : IsOldImage program old)
    (i : ℕ) (known : i < length program.sources) where
  fed : source_thread program i < length program.threads
  fed = accepted.sources i known

  abbrev held : List OldEvent
  held = old_held_for program old i

  abbrev told : List Event
  told = held_for program new i

  few : own_old i held ≤ 32
  few =
      let most = own_most i held in let le = held_few program old (source_thread program i) in
      let places = (accepted.threads (source_thread program i) fed).queue in omega arith

  accepted_in : (src_of (new (Src i))).accepted ≡ own_old i held
  accepted_in = let is = renewed.srcs i known in omega (arith, is, few)

  next_in : (src_of (new (Src i))).next ≡ old_next program old i
  next_in = let is = renewed.srcs i known in omega (arith, is, few)

  like : AreLike told held
  like = held_like program old new renewed accepted image (source_thread program i) fed

  -- the count of one of its events is the number of those before it
  count_is : (k : ℕ) → k < length held → event_source (event_at told k) ≡ i → event_count (event_at told k) ≡ own_old i (take k held)
  count_is k lt own =
      let source : (old_event_at held k).source.0 ≡ i = sym (like.sources k lt) ∙ own in
      ap event_count (held_event program old new renewed accepted image (source_thread program i) fed k lt)
      ∙ ap (λ s. own_old s (take k held)) source

  other_number : (k : ℕ) → k < length told → has_number i (src_of (new (Src i))).accepted (event_at told k) ≡ false
  other_number k lt =
      let there : k < length held = omega (arith, like.count) in
      both_false (event_source (event_at told k) == i) (event_count (event_at told k) == (src_of (new (Src i))).accepted % 64) (λ is.
      let own : event_source (event_at told k) ≡ i = eqb-true _ _ is in
      let less = own_before i k held there (sym (like.sources k there) ∙ own) in
      ne_eqb _ _ (λ e. let count = count_is k there own in omega (arith, accepted_in, few)))

  -- no event is held beside those that SRC counts
  none_more : is_one_more program new i ≡ false
  none_more =
      let zero_ack = renewed.acks i known in
      either_false (list_any (has_number i (src_of (new (Src i))).accepted) told) (new (Ack i) == ((src_of (new (Src i))).accepted + 1) % 64)
      (none_pass (has_number i (src_of (new (Src i))).accepted) told other_number)
      (ne_eqb _ _ (λ e. omega (arith, accepted_in, few)))

  accepted_told : (told_source program new i).accepted ≡ own_old i held
  accepted_told = let none = ap flag none_more in omega (arith, accepted_in, none)

  pub next_told : (told_source program new i).next ≡ old_next program old i
  next_told = let none = ap flag none_more in omega (arith, next_in, none)

  own_told : own_events i told ≡ own_old i held
  own_told = own_all i told held like

  rise : Rise i 0 held
  rise = record {
    least = λ j lt own. omega arith;
    rising = λ j lt own k less its. (image.sources i known).rising j lt own k less its;
  }

  -- no more are held than were settled
  ordered : own_old i held ≤ old_next program old i
  ordered = elim (rise_bound i 0 held rise) [ inl none ↦ omega arith | inr some ↦ omega arith ]

  pub source_right : IsSourceRight program new i
  source_right = record {
    src = omega (arith, accepted_in, next_in, ordered);
    counts = λ j lt own.
        let there : j < length held = omega (arith, like.count) in
        let count = count_is j there own in
        let before = own_like i j told held like in
        let less = own_few i j held in
        let places = (accepted.threads (source_thread program i) fed).queue in
        let le = held_few program old (source_thread program i) in
        (omega (arith, own_told, accepted_told), omega (arith, own_told, accepted_told));
    ack = inl (let zero_ack = renewed.acks i known in omega (arith, own_told, accepted_told));
  }
