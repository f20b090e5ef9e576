-- The events that a queue holds, position by position.
use Rattle.std.proofs.Common.{◌≡◌, inl, inr, ℕ, zero, suc, ◌+◌, ◌/◌, ◌%◌, ◌<◌, ◌≤◌, ◌^◌, ◌==◌, ◌&&◌, nat_lt, Bool, true, false, cond, if◌then◌else◌, List, [], ◌∷◌, length, take, Option, Some, None, refl, sym, ap, ◌∙◌, subst, arith, eqb-true}
use mir.Val.{bool_byte}
use Rattle.std.proofs.lemmas.Bool.{and_parts, cases_lt}
use Rattle.std.proofs.lemmas.Option.{same_Some}
use Rattle.std.specs.Option.{is_some}
use Rattle.ink_base.specs.declared.ids.SourceId.{SourceId}
use Rattle.ink_base.specs.declared.event.Origin.TheVariants as origins
use Rattle.push_core.specs.declared.slot.Slot as slot
use Rattle.push_core.specs.declared.slot.Slot.TheVariants.{Empty, Full}
use Rattle.push_core.specs.Slots.{full_in, slot_in}
use Rattle.ink_base.specs.declared.event.Event.{Event}
use Rattle.task_isa.specs.declared.program.Program.{Program}
use Rattle.fram_words.specs.Places.{Memory, Slot}
use Rattle.push_core.specs.Queue.{event_at, event_source}
use Rattle.prog_check.specs.Lookup.{source_thread, thread_def}
use Rattle.never_cut.specs.Stands.{flag}
use Rattle.never_cut.specs.Image.{own_events}
use Rattle.never_cut.specs.ReadOff.{slot_of, event_in, events_from, told_held, told_released}
use Rattle.never_cut.proofs.ReadQueues.{followed, events_few}

abbrev position_in : slot.Slot → ℕ
position_in (Empty p) = p
position_in (Full p i c v) = p

-- the position of a full word has 21 bits
full_small : (word p : ℕ) (i : SourceId) (c v : ℕ) → slot_in word ≡ Some (Full p i c v) → p < 2 ^ 21
full_small word p i c v e = by_flag (word / 2 ^ 63 == 1) (word % 2 ^ 42 == 0) e
  where
    by_flag : (b d : Bool) → cond b (Some (full_in word)) (cond d (Some (Empty (word / 2 ^ 42))) None) ≡ Some (Full p i c v) → p < 2 ^ 21
    by_flag true d e = let is : word / 2 ^ 42 % 2 ^ 21 ≡ p = ap position_in (same_Some _ _ e) in omega arith
    by_flag false true e = absurd (let clash : Some (Empty (word / 2 ^ 42)) ≡ Some (Full p i c v) = e in cc)
    by_flag false false e = absurd (let clash : None ≡ Some (Full p i c v) = e in cc)

-- an event stands at a position of 21 bits
event_small : (program : Program) (t word p : ℕ) (e : Event) (s : Option slot.Slot) → slot_in word ≡ s → event_in program t p s ≡ Some e → p < 2 ^ 21
event_small program t word p e None at is = absurd (let clash : None ≡ Some e = is in cc)
event_small program t word p e (Some (Empty q)) at is = absurd (let clash : None ≡ Some e = is in cc)
event_small program t word p e (Some (Full q source count value)) at is =
    by_test ((q == p) && (nat_lt source.0 (length program.sources) && (source_thread program source.0 == t))) refl is
  where
    by_test : (b : Bool) → ((q == p) && (nat_lt source.0 (length program.sources) && (source_thread program source.0 == t))) ≡ b →
        (if b then Some (record { origin = origins.Source source count; value = value }) else None) ≡ Some e → p < 2 ^ 21
    by_test true test is =
        let same : q ≡ p = eqb-true _ _ ((and_parts (q == p) (nat_lt source.0 (length program.sources) && (source_thread program source.0 == t)) test).0) in
        let small : q < 2 ^ 21 = full_small word q source count value at in omega arith
    by_test false test is = absurd (let clash : None ≡ Some e = is in cc)

module _ (program : Program) (words : Memory) (t : ℕ) where
  -- the event that stands at a position
  abbrev pub seen : (p : ℕ) → Option Event
  seen p = event_in program t p (slot_of program words t p)

  pub seen_small : (p : ℕ) (e : Event) → seen p ≡ Some e → p < 2 ^ 21
  seen_small p e is = event_small program t (words (Slot t (p % (thread_def program t).queue))) p e (slot_of program words t p) refl is

  first_seen : (p most : ℕ) →
      ((k : ℕ) → k < length (events_from program words t (p + 1) most) → seen (p + 1 + k) ≡ Some (event_at (events_from program words t (p + 1) most) k)) →
      (o : Option Event) → seen p ≡ o → (k : ℕ) → k < length (followed program words t p most o) →
      seen (p + k) ≡ Some (event_at (followed program words t p most o) k)
  first_seen p most rest None is k lt = absurd (omega arith)
  first_seen p most rest (Some e) is zero lt = subst (λ n. seen n ≡ Some e) (let z : p ≡ p + 0 = omega arith in z) is
  first_seen p most rest (Some e) is (suc k) lt =
      subst (λ n. seen n ≡ Some (event_at (events_from program words t (p + 1) most) k)) (let s : p + 1 + k ≡ p + suc k = omega arith in s) (rest k (omega arith))

  -- each of them stands at its position
  events_seen : (most p k : ℕ) → k < length (events_from program words t p most) → seen (p + k) ≡ Some (event_at (events_from program words t p most) k)
  events_seen zero p k lt = absurd (omega arith)
  events_seen (suc most) p k lt = first_seen p most (λ j less. events_seen most (p + 1) j less) (seen p) refl k lt

  first_behind : (p most : ℕ) →
      (length (events_from program words t (p + 1) most) < most → seen (p + 1 + length (events_from program words t (p + 1) most)) ≡ None) →
      (o : Option Event) → seen p ≡ o → length (followed program words t p most o) < suc most →
      seen (p + length (followed program words t p most o)) ≡ None
  first_behind p most rest None is lt = subst (λ n. seen n ≡ None) (let z : p ≡ p + 0 = omega arith in z) is
  first_behind p most rest (Some e) is lt =
      subst (λ n. seen n ≡ None) (let s : p + 1 + length (events_from program words t (p + 1) most) ≡ p + suc (length (events_from program words t (p + 1) most)) = omega arith in s)
      (rest (omega arith))

  -- behind the last there is none, where it has a place
  events_end : (most p : ℕ) → length (events_from program words t p most) < most → seen (p + length (events_from program words t p most)) ≡ None
  events_end zero p lt = absurd (omega arith)
  events_end (suc most) p lt = first_behind p most (λ less. events_end most (p + 1) less) (seen p) refl lt

  -- each held event stands at its position
  pub held_seen : (k : ℕ) → k < length (told_held program words t) → seen (told_released program words t + k) ≡ Some (event_at (told_held program words t) k)
  held_seen k lt = events_seen (thread_def program t).queue (told_released program words t) k lt

  pub held_small : (k : ℕ) → k < length (told_held program words t) → told_released program words t + k < 2 ^ 21
  held_small k lt = seen_small (told_released program words t + k) (event_at (told_held program words t) k) (held_seen k lt)

  seen_more : (k : ℕ) (o : Option Event) → seen (told_released program words t + k) ≡ o → is_some o ≡ true → k < (thread_def program t).queue →
      k ≤ length (told_held program words t) → k + 1 ≤ length (told_held program words t)
  seen_more k None at is room le = absurd (let clash : false ≡ true = is in cc)
  seen_more k (Some e) at is room le =
      elim (cases_lt k (length (told_held program words t))) [
        | inl lt ↦ omega arith
        | inr past ↦
            let all : length (told_held program words t) ≡ k = omega arith in
            let none : seen (told_released program words t + length (told_held program words t)) ≡ None =
            events_end (thread_def program t).queue (told_released program words t) (omega arith) in
            absurd (let clash : None ≡ Some e = sym none ∙ (ap (λ n. seen (told_released program words t + n)) all ∙ at) in cc)
      ]

  seen_all : (k : ℕ) (o : Option Event) → seen (told_released program words t + k) ≡ o → is_some o ≡ false → k ≤ length (told_held program words t) →
      k ≡ length (told_held program words t)
  seen_all k (Some e) at is le = absurd (let clash : true ≡ false = is in cc)
  seen_all k None at is le =
      elim (cases_lt k (length (told_held program words t))) [
        | inl lt ↦ absurd (let clash : None ≡ Some (event_at (told_held program words t) k) = sym at ∙ held_seen k lt in cc)
        | inr past ↦ omega arith
      ]

  -- an event behind those that are known to be held is held too
  pub one_more : (first k : ℕ) (o : Option Event) → first ≡ told_released program words t → o ≡ seen (first + k) → is_some o ≡ true → k < (thread_def program t).queue →
      k ≤ length (told_held program words t) → k + 1 ≤ length (told_held program words t)
  one_more first k o from at is room le = seen_more k o (sym (at ∙ ap (λ n. seen (n + k)) from)) is room le

  -- where there is none, all of them are known
  pub all_known : (first k : ℕ) (o : Option Event) → first ≡ told_released program words t → o ≡ seen (first + k) → is_some o ≡ false →
      k ≤ length (told_held program words t) → k ≡ length (told_held program words t)
  all_known first k o from at is le = seen_all k o (sym (at ∙ ap (λ n. seen (n + k)) from)) is le

  -- the event of a place stands at its position
  pub event_here : (first k : ℕ) → first ≡ told_released program words t → k < length (told_held program words t) → seen (first + k) ≡ Some (event_at (told_held program words t) k)
  event_here first k from lt = ap (λ n. seen (n + k)) from ∙ held_seen k lt

  -- a position up to the end of them fits a word, where the first one does
  pub position_fits : (k : ℕ) → told_released program words t < 2 ^ 64 → k ≤ length (told_held program words t) → told_released program words t + k < 2 ^ 64
  position_fits zero released le = omega arith
  position_fits (suc k) released le = let small = held_small k (omega arith) in omega arith

  -- no queue holds more than it has places
  pub held_few : length (told_held program words t) ≤ (thread_def program t).queue
  held_few = events_few program words t (thread_def program t).queue (told_released program words t)

-- the own events among one more of the first ones
pub own-more : (i : ℕ) (held : List Event) (k : ℕ) → k < length held →
    own_events i (take (k + 1) held) ≡ own_events i (take k held) + flag (event_source (event_at held k) == i)
own-more i [] k lt = absurd (omega arith)
own-more i (e ∷ held) zero lt = omega arith
own-more i (e ∷ held) (suc k) lt =
    let more = own-more i held k (omega arith) in
    let s : suc k + 1 ≡ suc (k + 1) = omega arith in
    rw s (omega (arith, more))

flag_few : (b : Bool) (own k : ℕ) → own ≤ k → flag b + own ≤ suc k
flag_few true own k le = omega arith
flag_few false own k le = omega arith

-- no more are its own than there are
pub own_few : (i : ℕ) (held : List Event) (k : ℕ) → own_events i (take k held) ≤ k
own_few i held zero = omega arith
own_few i [] (suc k) = omega arith
own_few i (e ∷ held) (suc k) = flag_few (event_source e == i) (own_events i (take k held)) k (own_few i held k)

pub byte_few : (b : Bool) → bool_byte b ≤ 1
byte_few true = omega arith
byte_few false = omega arith

byte_flag : (b : Bool) → bool_byte b ≡ flag b
byte_flag true = refl
byte_flag false = refl

-- one event more, of which a test tells whether it is an own one
pub one_own : (i : ℕ) (held : List Event) (k own : ℕ) (b : Bool) → k < length held → own ≡ own_events i (take k held) → b ≡ (event_source (event_at held k) == i) →
    own + bool_byte b ≡ own_events i (take (k + 1) held)
one_own i held k own b lt so_far is =
    let more = own-more i held k lt in
    let byte : bool_byte b ≡ flag (event_source (event_at held k) == i) = byte_flag b ∙ ap flag is in omega arith
