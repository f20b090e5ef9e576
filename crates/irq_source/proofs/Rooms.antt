-- There is room for each entry of the lists.
use Rattle.irq_source.proofs.Common.{◌≡◌, ℕ, ◌+◌, ◌/◌, ◌^◌, ◌<◌, ◌≤◌, ◌==◌, cond, Bool, true, false, List, ◌++◌, length, length-append, length-map, refl, sym, ap, ◌∙◌, arith, append-nil, Port, Stage, Option, Some, None, Slot, slot_in, empty_word, row_at, is_full_at, point_of, after_slot, take_of, SourceSeat, QueueSet, Knows, view, known, Stands, HasMade, declines, tail_in}
use Rattle.push_core.specs.declared.stage.Stage.TheVariants as stages
use Rattle.push_core.specs.declared.point.Point.TheVariants as points
use Rattle.push_core.specs.declared.slot.Slot.TheVariants as slots
use Rattle.irq_source.specs.declared.lists.Published.{Published}
use Rattle.irq_source.specs.declared.lists.Declined.{Declined}
use Rattle.irq_source.specs.Account.{publication, Accounts}
use Rattle.irq_source.specs.kept.Actors.{unskipped}

-- a refusal that is added is the one that isn't skipped yet: by what is read from the slot
more_by : (b : Bool) (charge p k n : ℕ) (refused : List Declined) → length refused ≤ n → length (refused ++ declines charge p k (cond b points.Refused points.Nothing)) ≤ n + unskipped (cond b stages.StoreSkip (stages.HelpTail p))
more_by true charge p k n refused le = omega (arith, length-append refused (declines charge p k points.Refused))
more_by false charge p k n refused le = omega (arith, ap length (append-nil refused))

-- the same for each kind of word
more_slot : (places charge p k n : ℕ) (refused : List Declined) (x : Option Slot) → length refused ≤ n → length (refused ++ declines charge p k (cond (is_full_at places p x) points.Refused points.Nothing)) ≤ n + unskipped (after_slot places p x)
more_slot places charge p k n refused None le = omega (arith, ap length (append-nil refused))
more_slot places charge p k n refused (Some (slots.Empty q)) le = omega (arith, ap length (append-nil refused))
more_slot places charge p k n refused (Some (slots.Full q i c v)) le = more_by (q + places == p) charge p k n refused le

-- a publication adds no refusal
push_adds : (b : Bool) (charge p k : ℕ) (refused : List Declined) → length (refused ++ declines charge p k (cond b points.Pushed points.Nothing)) ≡ length refused
push_adds true charge p k refused = ap length (append-nil refused)
push_adds false charge p k refused = ap length (append-nil refused)

module _ {set : QueueSet} {port : Port} {readings : List ℕ} {a k src : ℕ} {old new : SourceSeat} {word src' : ℕ} where
  -- each refusal but the one at hand was followed by its skip or a cut
  pub few_refused : (begun charge : ℕ) (refused : List Declined) (st : Stage) → HasMade set port readings (row_at a k st) src old new word src' → Stands port (length readings) src (known (view old) old.source.0) (row_at a k st)
      → length refused ≤ src / 2 ^ 32 + begun + unskipped st
      → length (refused ++ declines charge (tail_in st) k (point_of port.queue.places st word)) ≤ src' / 2 ^ 32 + begun + unskipped (take_of port (length readings) (row_at a k st) word).stage
  few_refused begun charge refused stages.LoadSrc made stands few = let same = ap (λ (n : ℕ). n / 2 ^ 32) made.found.1 in omega (arith, ap length (append-nil refused))
  few_refused begun charge refused (stages.LoadSlots n seen) made stands few = let same = ap (λ (n : ℕ). n / 2 ^ 32) made.found.0 in omega (arith, ap length (append-nil refused))
  few_refused begun charge refused (stages.LoadAck seen) made stands few = let same = ap (λ (n : ℕ). n / 2 ^ 32) made.found.0 in omega (arith, ap length (append-nil refused))
  few_refused begun charge refused stages.LoadTail made stands few = let same = ap (λ (n : ℕ). n / 2 ^ 32) made.found.0 in omega (arith, ap length (append-nil refused))
  few_refused begun charge refused (stages.LoadSlot p) made stands few =
      let same = ap (λ (n : ℕ). n / 2 ^ 32) made.found.0 in
      more_slot port.queue.places charge p k (src' / 2 ^ 32 + begun) refused (slot_in word) (omega arith)
  few_refused begun charge refused (stages.Publish p) made stands few = let same = ap (λ (n : ℕ). n / 2 ^ 32) made.found.0 in omega (arith, push_adds (word == empty_word p) charge p k refused)
  few_refused begun charge refused (stages.MoveTail p) made stands few = let same = ap (λ (n : ℕ). n / 2 ^ 32) made.found.0 in omega (arith, ap length (append-nil refused))
  few_refused begun charge refused (stages.HelpTail p) made stands few = let same = ap (λ (n : ℕ). n / 2 ^ 32) made.found.0 in omega (arith, ap length (append-nil refused))
  few_refused begun charge refused stages.StoreSkip made stands few = omega (arith, stands.at.0.next, made.stands.at.0.next, ap length (append-nil refused))
  few_refused begun charge refused stages.StoreAccepted made stands few = omega (arith, stands.at.0.next, made.stands.at.0.next, ap length (append-nil refused))

-- a load pushes nothing, and an exchange refuses nothing
never_pushed : (b : Bool) → cond b points.Refused points.Nothing ≡ points.Pushed → ⊥
never_pushed true e = absurd cc
never_pushed false e = absurd cc

never_refused : (b : Bool) → cond b points.Pushed points.Nothing ≡ points.Refused → ⊥
never_refused true e = absurd cc
never_refused false e = absurd cc

module _ {port : Port} {number a k src : ℕ} {s : Knows} where
  -- a reading that was pushed is one of the readings, and there are fewer publications than readings
  pub pushed_fits : (st : Stage) (word : ℕ) → Stands port number src s (row_at a k st) → point_of port.queue.places st word ≡ points.Pushed → (k < number) × (length s.mine < number)
  pushed_fits stages.LoadSrc word stands is = absurd cc
  pushed_fits (stages.LoadSlots n seen) word stands is = absurd cc
  pushed_fits (stages.LoadAck seen) word stands is = absurd cc
  pushed_fits stages.LoadTail word stands is = absurd cc
  pushed_fits (stages.LoadSlot p) word stands is = absurd (never_pushed _ is)
  pushed_fits (stages.Publish p) word stands is = (stands.row_for.stage.0, omega (arith, stands.src_kept.ordered, stands.at.0.accepted, stands.at.0.next, stands.at.1, stands.row_for.stage.0))
  pushed_fits (stages.MoveTail p) word stands is = absurd cc
  pushed_fits (stages.HelpTail p) word stands is = absurd cc
  pushed_fits stages.StoreSkip word stands is = absurd cc
  pushed_fits stages.StoreAccepted word stands is = absurd cc

  -- a reading that was refused is the one that SRC has as next
  pub refused_fits : (st : Stage) (word : ℕ) → Stands port number src s (row_at a k st) → point_of port.queue.places st word ≡ points.Refused → (src / 2 ^ 32 < number) × (unskipped st ≡ 0)
  refused_fits stages.LoadSrc word stands is = absurd cc
  refused_fits (stages.LoadSlots n seen) word stands is = absurd cc
  refused_fits (stages.LoadAck seen) word stands is = absurd cc
  refused_fits stages.LoadTail word stands is = absurd cc
  refused_fits (stages.LoadSlot p) word stands is = (omega (arith, stands.at.0.next, stands.row_for.stage.0), refl)
  refused_fits (stages.Publish p) word stands is = absurd (never_refused _ is)
  refused_fits (stages.MoveTail p) word stands is = absurd cc
  refused_fits (stages.HelpTail p) word stands is = absurd cc
  refused_fits stages.StoreSkip word stands is = absurd cc
  refused_fits stages.StoreAccepted word stands is = absurd cc

-- of the readings, those that SRC counts as settled and one that is refused and not skipped yet
pub settled_few : (port : Port) (number a k src : ℕ) (s : Knows) (st : Stage) → Stands port number src s (row_at a k st) → src / 2 ^ 32 + unskipped st ≤ number
settled_few port number a k src s stages.LoadSrc stands = omega (arith, stands.src_kept.within)
settled_few port number a k src s (stages.LoadSlots n seen) stands = omega (arith, stands.src_kept.within)
settled_few port number a k src s (stages.LoadAck seen) stands = omega (arith, stands.src_kept.within)
settled_few port number a k src s stages.LoadTail stands = omega (arith, stands.src_kept.within)
settled_few port number a k src s (stages.LoadSlot p) stands = omega (arith, stands.src_kept.within)
settled_few port number a k src s (stages.Publish p) stands = omega (arith, stands.src_kept.within)
settled_few port number a k src s (stages.MoveTail p) stands = omega (arith, stands.src_kept.within)
settled_few port number a k src s (stages.HelpTail p) stands = omega (arith, stands.src_kept.within)
settled_few port number a k src s stages.StoreSkip stands = omega (arith, stands.at.0.next, stands.row_for.stage)
settled_few port number a k src s stages.StoreAccepted stands = omega (arith, stands.src_kept.within)

-- as many readings are accepted as are published
pub accepted_count : {readings : List ℕ} {places begun src : ℕ} {s : Knows} {accepted : List Published} {refused : List Declined} → Accounts readings places begun src s accepted refused → length accepted ≡ length s.mine
accepted_count {accepted = accepted} h = sym (length-map accepted publication) ∙ ap length h.mine
