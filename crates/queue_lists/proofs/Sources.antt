-- What SRC, ACK and the held events tell of a source.
use Rattle.std.proofs.Common.{◌≡◌, ◌⊎◌, inl, inr, ℕ, zero, suc, ◌+◌, ◌-◌, ◌/◌, ◌%◌, ◌^◌, ◌<◌, ◌≤◌, Bool, cond, true, false, List, [], ◌∷◌, map, take, drop, length, refl, sym, ap, ◌∙◌, subst, arith, eq-eqb, ne_eqb, length-drop}
use Rattle.std.specs.Bool.{MatchBool}
use Rattle.std.proofs.lemmas.Bool.{cases_eq, cases_lt}
use Rattle.std.proofs.lemmas.List.{length-map}
use mathlib.Core.Option.{some, some-ne-none, some-injective}
use lib.ListN.{get_elem?}
use Rattle.ink_base.specs.declared.event.Event.{Event}
use Rattle.ink_base.specs.declared.event.Origin.TheVariants as origins
use Rattle.ink_base.specs.declared.limits.TheConstants as limits
use Rattle.push_core.specs.Queue.{Numbered, IsFinishing, KeepsNumbers, event_at}
use Rattle.push_core.proofs.Events.{number_source, number_count}
use Rattle.source_laws.proofs.Sources.{own_count, ack_behind, last_one}
use Rattle.event_queue.specs.Calls.{Knows, won_below}
use Rattle.event_queue.specs.Events.{Entry}
use Rattle.event_queue.specs.Rule.{SourceKept}
use Rattle.event_queue.proofs.Basics.{element}
use Rattle.live_account.specs.Matches.{event_of}
use Rattle.queue_lists.specs.Accounts.{source_with, queue_with, KeepsSrc, TellsNumbers}
use Rattle.queue_lists.proofs.Numbers.{own_number, number_one, number_none, number_cons, number_here, not_at, number_at, number_all, counts_of}

-- an entry of what is left is one of all
get_left : {A : Type 0} (r : ℕ) (xs : List A) (n : ℕ) (x : A) → get_elem? (drop r xs) n ≡ some x → get_elem? xs (r + n) ≡ some x
get_left zero xs n x at = subst (λ (q : ℕ). get_elem? xs q ≡ some x) (let same : n ≡ 0 + n = omega arith in same) at
get_left (suc r) [] n x at = absurd (some-ne-none x (sym at))
get_left (suc r) (y ∷ xs) n x at = subst (λ (q : ℕ). get_elem? (y ∷ xs) q ≡ some x) (let same : suc (r + n) ≡ suc r + n = omega arith in same) (get_left r xs n x at)

own_further : (i r n : ℕ) (xs : List Entry) → own_number i (take (r + n) xs) ≡ own_number i (take r xs) + own_number i (take n (drop r xs))
own_further i zero n xs =
    let front : own_number i (take 0 xs) ≡ 0 = refl in
    let left : own_number i (take n (drop 0 xs)) ≡ own_number i (take n xs) = refl in
    omega (arith, front, left, ap (λ (q : ℕ). own_number i (take q xs)) (let same : 0 + n ≡ n = omega arith in same))
own_further i (suc r) n [] =
    let front : own_number i (take (suc r) []) ≡ 0 = refl in
    let left : own_number i (take n (drop (suc r) [])) ≡ 0 = none n in
    omega (arith, front, left, none (suc r + n))
  where
    none : (m : ℕ) → own_number i (take m []) ≡ 0
    none zero = refl
    none (suc m) = refl
own_further i (suc r) n (x ∷ xs) =
    let all : own_number i (take (suc (r + n)) (x ∷ xs)) ≡ own_number i (x ∷ []) + own_number i (take (r + n) xs) = number_cons i x (take (r + n) xs) in
    let front : own_number i (take (suc r) (x ∷ xs)) ≡ own_number i (x ∷ []) + own_number i (take r xs) = number_cons i x (take r xs) in
    let left : own_number i (take n (drop (suc r) (x ∷ xs))) ≡ own_number i (take n (drop r xs)) = refl in
    omega (arith, own_further i r n xs, all, front, left, ap (λ (q : ℕ). own_number i (take q (x ∷ xs))) (let same : suc r + n ≡ suc (r + n) = omega arith in same))

own_split : (i r : ℕ) (xs : List Entry) → own_number i xs ≡ own_number i (take r xs) + own_number i (drop r xs)
own_split i zero xs =
    let front : own_number i (take 0 xs) ≡ 0 = refl in
    let left : own_number i (drop 0 xs) ≡ own_number i xs = refl in
    omega (arith, front, left)
own_split i (suc r) [] =
    let all : own_number i [] ≡ 0 = refl in
    let front : own_number i (take (suc r) []) ≡ 0 = refl in
    let left : own_number i (drop (suc r) []) ≡ 0 = refl in
    omega (arith, all, front, left)
own_split i (suc r) (x ∷ xs) =
    let front : own_number i (take (suc r) (x ∷ xs)) ≡ own_number i (x ∷ []) + own_number i (take r xs) = number_cons i x (take r xs) in
    let left : own_number i (drop (suc r) (x ∷ xs)) ≡ own_number i (drop r xs) = refl in
    omega (arith, own_split i r xs, number_cons i x xs, front, left)

drop_map : (r : ℕ) (xs : List Entry) → map event_of (drop r xs) ≡ drop r (map event_of xs)
drop_map zero xs = refl
drop_map (suc r) [] = refl
drop_map (suc r) (x ∷ xs) = drop_map r xs

-- what is left from an entry on begins with its event
first_left : (xs : List Entry) (r : ℕ) (e : Entry) → get_elem? xs r ≡ some e → drop r (map event_of xs) ≡ event_of e ∷ drop (suc r) (map event_of xs)
first_left [] r e at = absurd (some-ne-none e (sym at))
first_left (x ∷ xs) zero e at = ap (λ (z : Entry). event_of z ∷ map event_of xs) (some-injective x e at)
first_left (x ∷ xs) (suc r) e at = first_left xs r e at

-- entries that count on from a number
numbered_from : (i : ℕ) (es : List Entry) (first : ℕ) → ((n : ℕ) (e : Entry) → get_elem? es n ≡ some e → e.source ≡ i → e.count ≡ (first + own_number i (take n es)) % 64) → Numbered i (map event_of es) first (first + own_number i es)
numbered_from i [] first h = omega arith
numbered_from i (e ∷ es) first h =
    elim (cases_eq e.source i) [
      | inl own ↦
          let here : e.count ≡ first % 64 = h 0 e refl own ∙ ap (λ (m : ℕ). m % 64) (let same : first + own_number i [] ≡ first = omega arith in same) in
          let one = number_one i e own in
          let rest = numbered_from i es (first + 1) (λ n x at mine. h (suc n) x at mine ∙ ap (λ (m : ℕ). m % 64) (let same : first + own_number i (e ∷ take n es) ≡ first + 1 + own_number i (take n es) = omega (arith, one, number_cons i e (take n es)) in same)) in
          let rest' = subst (λ (last : ℕ). Numbered i (map event_of es) (first + 1) last) (let same : first + 1 + own_number i es ≡ first + own_number i (e ∷ es) = omega (arith, one, number_cons i e es) in same) rest in
          subst (λ (b : Bool). MatchBool b ((e.count ≡ first % 64) × Numbered i (map event_of es) (first + 1) (first + own_number i (e ∷ es))) (Numbered i (map event_of es) first (first + own_number i (e ∷ es)))) (sym (eq-eqb e.source i own)) (here, rest')
      | inr other ↦
          let none = number_none i e other in
          let rest = numbered_from i es first (λ n x at mine. h (suc n) x at mine ∙ ap (λ (m : ℕ). m % 64) (let same : first + own_number i (e ∷ take n es) ≡ first + own_number i (take n es) = omega (arith, none, number_cons i e (take n es)) in same)) in
          let rest' = subst (λ (last : ℕ). Numbered i (map event_of es) first last) (let same : first + own_number i es ≡ first + own_number i (e ∷ es) = omega (arith, none, number_cons i e es) in same) rest in
          subst (λ (b : Bool). MatchBool b ((e.count ≡ first % 64) × Numbered i (map event_of es) (first + 1) (first + own_number i (e ∷ es))) (Numbered i (map event_of es) first (first + own_number i (e ∷ es)))) (sym (ne_eqb e.source i other)) rest'
    ]

module _ {i tail : ℕ} {entries : List Entry} {released : ℕ} {k : Knows} (h : SourceKept i tail entries released k) (behind : released ≤ length entries) where
  abbrev gone : ℕ
  gone = own_number i (take released entries)

  gone_is : gone ≡ won_below released k.mine
  gone_is = number_at h released behind

  -- the held events count on from those that were released
  numbered : Numbered i (drop released (map event_of entries)) gone (length k.mine)
  numbered =
      let counts = numbered_from i (drop released entries) gone (λ n e at own. counts_of h (released + n) e (get_left released entries n e at) own ∙ ap (λ (m : ℕ). m % 64) (own_further i released n entries)) in
      let last : gone + own_number i (drop released entries) ≡ length k.mine = omega (arith, own_split i released entries, number_all h) in
      subst (λ (held : List Event). Numbered i held gone (length k.mine)) (drop_map released entries) (subst (λ (m : ℕ). Numbered i (map event_of (drop released entries)) gone m) last counts)

  -- ACK is where they begin, or one more where the first is acknowledged
  ack_is : (ack : ℕ) (acked finished : Bool) → ack ≡ won_below (cond acked (released + 1) released) k.mine % 64 → (acked ≡ true → released < length entries) → (acked ≡ true → finished ≡ true)
      → (ack ≡ gone % 64) ⊎ (IsFinishing i (gone % 64) (queue_with (map event_of entries) released finished) × (ack ≡ (gone + 1) % 64))
  ack_is ack false finished is there done = inl (is ∙ ap (λ (m : ℕ). m % 64) (sym gone_is))
  ack_is ack true finished is there done =
      let got = element entries released (there refl) in
      let e : Entry = got.0 in
      let is' : ack ≡ won_below (suc released) k.mine % 64 = is ∙ ap (λ (m : ℕ). won_below m k.mine % 64) (let same : released + 1 ≡ suc released = omega arith in same) in
      elim (cases_eq e.source i) [
        | inl own ↦
            let here = number_here h released e got.1 own in
            let count : e.count ≡ gone % 64 = counts_of h released e got.1 own in
            inr (
              record {
                value = e.value;
                first = (drop (suc released) (map event_of entries), first_left entries released e got.1 ∙ (λ j. (record { origin = origins.Source (record { 0 = own j }) (count j); value = e.value }) ∷ drop (suc released) (map event_of entries)));
                finished = done refl;
              },
              is' ∙ ap (λ (m : ℕ). m % 64) (let same : won_below (suc released) k.mine ≡ gone + 1 = omega (arith, gone_is, here.0, here.1) in same),
            )
        | inr other ↦ inl (is' ∙ ap (λ (m : ℕ). m % 64) (not_at h released e got.1 other ∙ sym gone_is))
      ]

  -- SRC counts all publications, or all but the last
  counted : (readings src : ℕ) → KeepsSrc readings src k → ((length k.mine ≡ src % 2 ^ 32) × (src / 2 ^ 32 + (length k.mine - src % 2 ^ 32) ≡ src / 2 ^ 32)) ⊎ ((length k.mine ≡ src % 2 ^ 32 + 1) × (src / 2 ^ 32 + (length k.mine - src % 2 ^ 32) ≡ src / 2 ^ 32 + 1))
  counted readings src kept = elim (cases_eq (length k.mine) (src % 2 ^ 32)) [
    | inl all ↦ inl (all, omega (arith, all))
    | inr less ↦ let one : length k.mine ≡ src % 2 ^ 32 + 1 = by_cases kept.least kept.most less in inr (one, omega (arith, one))
  ]
    where
      by_cases : {a b : ℕ} → a ≤ b → b ≤ a + 1 → (b ≡ a → ⊥) → b ≡ a + 1
      by_cases {a} {b} le ge other = elim (cases_lt a b) [ inl lt ↦ omega arith | inr under ↦ absurd (other (omega arith)) ]

  keeps_numbers : (readings src ack : ℕ) (acked finished : Bool) → KeepsSrc readings src k → ack ≡ won_below (cond acked (released + 1) released) k.mine % 64 → (acked ≡ true → released < length entries) → (acked ≡ true → finished ≡ true)
      → KeepsNumbers i src ack (queue_with (map event_of entries) released finished) (source_with src (length k.mine))
  keeps_numbers readings src ack acked finished kept is there done = record {
    gone = gone;
    numbered = numbered;
    ack_is = ack_is ack acked finished is there done;
    stored = (src % 2 ^ 32, src / 2 ^ 32, omega arith, counted readings src kept);
  }

  pub tells_numbers : (places readings src ack : ℕ) (acked : Bool) → i < 256 → places ≤ limits.QUEUE_PLACES → length entries ≤ released + places → KeepsSrc readings src k → ack ≡ won_below (cond acked (released + 1) released) k.mine % 64 → (acked ≡ true → released < length entries)
      → TellsNumbers i src ack (map event_of entries) released acked (length k.mine)
  tells_numbers places readings src ack acked known small room kept is there =
      let all : KeepsNumbers i src ack (queue_with (map event_of entries) released true) (source_with src (length k.mine)) = keeps_numbers readings src ack acked true kept is there (λ a. refl) in
      let few : length (drop released (map event_of entries)) ≤ limits.QUEUE_PLACES = omega (arith, length-drop released (map event_of entries), length-map entries event_of) in
      record {
        numbers = λ finished done. keeps_numbers readings src ack acked finished kept is there done;
        stands = record {
          one_more = λ seen. elim (counted readings src kept) [
            | inl same ↦ absurd (elim seen [
              | inl held ↦ own_count all (src % 2 ^ 32) held.0 few held.1 (number_source i (src % 2 ^ 32) (event_at (drop released (map event_of entries)) held.0) held.2)
                  (number_count i (src % 2 ^ 32) (event_at (drop released (map event_of entries)) held.0) held.2) same.0
              | inr there_ack ↦ ack_behind all (src % 2 ^ 32) few there_ack same.0
            ])
            | inr more ↦ more
          ];
          as_many = λ unseen. elim (counted readings src kept) [
            | inl same ↦ same
            | inr more ↦ absurd (unseen (last_one all (src % 2 ^ 32) known more.0))
          ];
        };
      }
