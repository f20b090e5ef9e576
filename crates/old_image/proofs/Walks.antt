-- The events that a queue of the earlier form holds, position by position.
use Rattle.old_image.proofs.Common.{◌≡◌, inl, inr, ℕ, zero, suc, ◌+◌, ◌<◌, ◌≤◌, ◌^◌, ◌==◌, max, Bool, true, false, List, [], ◌∷◌, length, take, Option, Some, None, refl, sym, ap, ◌∙◌, subst, arith, cases_lt, Memory, Program, thread_def, flag, OldEvent, is_of, old_slot_of, old_event_in, old_events_from, old_event_at, old_released, old_held, own_old, after_event, after_held}
use mir.Val.{bool_byte}
use Rattle.std.specs.Option.{is_some}
use Rattle.old_image.proofs.OldQueues.{old_followed, old_events_told, old_event_read}

module _ (program : Program) (words : Memory) (t : ℕ) where
  -- the event that stands at a position
  abbrev pub seen : (p : ℕ) → Option OldEvent
  seen p = old_event_in program t p (old_slot_of program words t p)

  pub seen_small : (p : ℕ) (e : OldEvent) → seen p ≡ Some e → p < 2 ^ 21
  seen_small p e is = (old_event_read program words t p e is).fits.position_fits

  first_behind : (p most : ℕ) →
      (length (old_events_from program words t (p + 1) most) < most → seen (p + 1 + length (old_events_from program words t (p + 1) most)) ≡ None) →
      (o : Option OldEvent) → seen p ≡ o → length (old_followed program words t p most o) < suc most →
      seen (p + length (old_followed program words t p most o)) ≡ None
  first_behind p most rest None is lt = subst (λ n. seen n ≡ None) (let z : p ≡ p + 0 = omega arith in z) is
  first_behind p most rest (Some e) is lt =
      subst (λ n. seen n ≡ None) (let s : p + 1 + length (old_events_from program words t (p + 1) most) ≡ p + suc (length (old_events_from program words t (p + 1) most)) = omega arith in s)
      (rest (omega arith))

  -- behind the last there is none, where it has a place
  events_end : (most p : ℕ) → length (old_events_from program words t p most) < most → seen (p + length (old_events_from program words t p most)) ≡ None
  events_end zero p lt = absurd (omega arith)
  events_end (suc most) p lt = first_behind p most (λ less. events_end most (p + 1) less) (seen p) refl lt

  -- each held event stands at its position
  pub held_seen : (k : ℕ) → k < length (old_held program words t) → seen (old_released program words t + k) ≡ Some (old_event_at (old_held program words t) k)
  held_seen k lt = old_events_told program words t (thread_def program t).queue (old_released program words t) k lt

  pub held_small : (k : ℕ) → k < length (old_held program words t) → old_released program words t + k < 2 ^ 21
  held_small k lt = seen_small (old_released program words t + k) (old_event_at (old_held program words t) k) (held_seen k lt)

  seen_more : (k : ℕ) (o : Option OldEvent) → seen (old_released program words t + k) ≡ o → is_some o ≡ true → k < (thread_def program t).queue →
      k ≤ length (old_held program words t) → k + 1 ≤ length (old_held program words t)
  seen_more k None at is room le = absurd (let clash : false ≡ true = is in cc)
  seen_more k (Some e) at is room le =
      elim (cases_lt k (length (old_held program words t))) [
        | inl lt ↦ omega arith
        | inr past ↦
            let all : length (old_held program words t) ≡ k = omega arith in
            let none : seen (old_released program words t + length (old_held program words t)) ≡ None =
            events_end (thread_def program t).queue (old_released program words t) (omega arith) in
            absurd (let clash : None ≡ Some e = sym none ∙ (ap (λ n. seen (old_released program words t + n)) all ∙ at) in cc)
      ]

  seen_all : (k : ℕ) (o : Option OldEvent) → seen (old_released program words t + k) ≡ o → is_some o ≡ false → k ≤ length (old_held program words t) →
      k ≡ length (old_held program words t)
  seen_all k (Some e) at is le = absurd (let clash : true ≡ false = is in cc)
  seen_all k None at is le =
      elim (cases_lt k (length (old_held program words t))) [
        | inl lt ↦ absurd (let clash : None ≡ Some (old_event_at (old_held program words t) k) = sym at ∙ held_seen k lt in cc)
        | inr past ↦ omega arith
      ]

  -- an event behind those that are known to be held is held too
  pub one_more : (first k : ℕ) (o : Option OldEvent) → first ≡ old_released program words t → o ≡ seen (first + k) → is_some o ≡ true → k < (thread_def program t).queue →
      k ≤ length (old_held program words t) → k + 1 ≤ length (old_held program words t)
  one_more first k o from at is room le = seen_more k o (sym (at ∙ ap (λ n. seen (n + k)) from)) is room le

  -- where there is none, all of them are known
  pub all_known : (first k : ℕ) (o : Option OldEvent) → first ≡ old_released program words t → o ≡ seen (first + k) → is_some o ≡ false →
      k ≤ length (old_held program words t) → k ≡ length (old_held program words t)
  all_known first k o from at is le = seen_all k o (sym (at ∙ ap (λ n. seen (n + k)) from)) is le

  -- the event of a place stands at its position
  pub event_here : (first k : ℕ) → first ≡ old_released program words t → k < length (old_held program words t) → seen (first + k) ≡ Some (old_event_at (old_held program words t) k)
  event_here first k from lt = ap (λ n. seen (n + k)) from ∙ held_seen k lt

  -- a position up to the end of them fits a word, where the first one does
  pub position_fits : (k : ℕ) → old_released program words t < 2 ^ 64 → k ≤ length (old_held program words t) → old_released program words t + k < 2 ^ 64
  position_fits zero released le = omega arith
  position_fits (suc k) released le = let small = held_small k (omega arith) in omega arith

-- the own events among one more of the first ones
pub own-more : (i : ℕ) (held : List OldEvent) (k : ℕ) → k < length held → own_old i (take (k + 1) held) ≡ own_old i (take k held) + flag (is_of i (old_event_at held k))
own-more i [] k lt = absurd (omega arith)
own-more i (e ∷ held) zero lt = omega arith
own-more i (e ∷ held) (suc k) lt =
    let more = own-more i held k (omega arith) in
    let s : suc k + 1 ≡ suc (k + 1) = omega arith in
    rw s (omega (arith, more))

pub byte_few : (b : Bool) → bool_byte b ≤ 1
byte_few true = omega arith
byte_few false = omega arith

byte_flag : (b : Bool) → bool_byte b ≡ flag b
byte_flag true = refl
byte_flag false = refl

-- one event more, of which a test tells whether it is an own one
pub one_own : (i : ℕ) (held : List OldEvent) (k own : ℕ) (b : Bool) → k < length held → own ≡ own_old i (take k held) → b ≡ is_of i (old_event_at held k) →
    own + bool_byte b ≡ own_old i (take (k + 1) held)
one_own i held k own b lt so_far is =
    let more = own-more i held k lt in
    let byte : bool_byte b ≡ flag (is_of i (old_event_at held k)) = byte_flag b ∙ ap flag is in omega arith

-- and the number after their readings
pub after-more : (i : ℕ) (held : List OldEvent) (k : ℕ) → k < length held →
    after_held i (take (k + 1) held) ≡ max (after_held i (take k held)) (after_event i (old_event_at held k))
after-more i [] k lt = absurd (omega arith)
after-more i (e ∷ held) zero lt = omega arith
after-more i (e ∷ held) (suc k) lt =
    let more = after-more i held k (omega arith) in
    let s : suc k + 1 ≡ suc (k + 1) = omega arith in
    rw s (omega (arith, more))
