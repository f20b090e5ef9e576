-- How many of a source's events stand before a position of its queue.
use Rattle.std.proofs.Common.{◌≡◌, ◌≢◌, inl, inr, ℕ, zero, suc, ◌+◌, ◌%◌, ◌==◌, ◌≤◌, Bool, cond, List, [], ◌∷◌, ◌++◌, map, take, length, refl, sym, ap, ◌∙◌, subst, arith, append_assoc, eq-eqb, ne_eqb}
use Rattle.std.proofs.lemmas.Bool.{cases_eq}
use Rattle.std.proofs.lemmas.List.{map-append}
use Rattle.std.proofs.lemmas.List.Sums.{sum_by-cons}
use mathlib.Core.Option.{some, some-ne-none, some-injective}
use lib.ListN.{get_elem?}
use Rattle.ink_base.specs.declared.accept.Accept.{Accept}
use Rattle.event_queue.specs.Calls.{Knows, won_below}
use Rattle.event_queue.specs.Events.{Entry}
use Rattle.event_queue.specs.Rule.{SourceKept}
use Rattle.event_queue.proofs.Basics.{below, element, same_element}
use Rattle.event_queue.proofs.Acks.{Rises, won_below-none, won_below-all, won_below-at, won_below-here, won_below-skip}
use Rattle.live_account.specs.Events.{is_of, number_of, events_behind}
use Rattle.live_account.specs.Matches.{accept_of, event_of}

pub take_all : {A : Type 0} (xs : List A) → take (length xs) xs ≡ xs
take_all [] = refl
take_all (x ∷ xs) = ap (λ (ys : List _). x ∷ ys) (take_all xs)

pub take_more : {A : Type 0} (xs : List A) (k : ℕ) (x : A) → get_elem? xs k ≡ some x → take (suc k) xs ≡ take k xs ++ x ∷ []
take_more [] k x at = absurd (some-ne-none x (sym at))
take_more (y ∷ xs) zero x at = ap (λ z. z ∷ []) (some-injective y x at)
take_more (y ∷ xs) (suc k) x at = ap (λ (ys : List _). y ∷ ys) (take_more xs k x at)

-- how many of these entries are of source i
abbrev pub own_number : ℕ → List Entry → ℕ
own_number i entries = number_of i (map accept_of entries)

-- 1 where the entry is of source i
abbrev own_one : ℕ → Entry → ℕ
own_one i e = cond {A = ℕ} (e.source == i) 1 0

pub number_one : (i : ℕ) (e : Entry) → e.source ≡ i → own_number i (e ∷ []) ≡ 1
number_one i e own = ap (λ (b : Bool). 0 + cond {A = ℕ} b 1 0) (eq-eqb e.source i own)

pub number_none : (i : ℕ) (e : Entry) → e.source ≢ i → own_number i (e ∷ []) ≡ 0
number_none i e other = ap (λ (b : Bool). 0 + cond {A = ℕ} b 1 0) (ne_eqb e.source i other)

pub number_cons : (i : ℕ) (e : Entry) (es : List Entry) → own_number i (e ∷ es) ≡ own_number i (e ∷ []) + own_number i es
number_cons i e es =
    let all : own_number i (e ∷ es) ≡ own_one i e + own_number i es = sum_by-cons (λ a. cond {A = ℕ} (is_of i a) 1 0) (accept_of e) (map accept_of es) in
    let one : own_number i (e ∷ []) ≡ own_one i e + 0 = sum_by-cons (λ a. cond {A = ℕ} (is_of i a) 1 0) (accept_of e) [] in
    omega (arith, all, one)

pub number_snoc : (i : ℕ) (es : List Entry) (e : Entry) → own_number i (es ++ e ∷ []) ≡ own_number i es + own_number i (e ∷ [])
number_snoc i [] e = let none : own_number i [] ≡ 0 = refl in let same : own_number i ([] ++ e ∷ []) ≡ own_number i (e ∷ []) = refl in omega (arith, none, same)
number_snoc i (x ∷ es) e =
    let longer : own_number i ((x ∷ es) ++ e ∷ []) ≡ own_number i (x ∷ []) + own_number i (es ++ e ∷ []) = number_cons i x (es ++ e ∷ []) in
    omega (arith, number_snoc i es e, longer, number_cons i x es)

module _ {i tail : ℕ} {entries : List Entry} {released : ℕ} {k : Knows} (h : SourceKept i tail entries released k) where
  pub rising : Rises k.mine
  rising j n a b lt at_a at_b = (h.rises j n a b lt at_a at_b).0

  -- no publication stands at another source's entry
  pub not_at : (n : ℕ) (e : Entry) → get_elem? entries n ≡ some e → e.source ≢ i → won_below (suc n) k.mine ≡ won_below n k.mine
  not_at n e at other = won_below-skip n k.mine (λ j m here p. other (ap (λ (x : Entry). x.source) (same_element entries n e _ at (subst (λ (q : ℕ). get_elem? entries q ≡ some (record { source = i; count = j % 64; reading = m.reading; value = m.value })) p (h.back j m here)))))

  -- an own entry is the publication of its number
  pub number_here : (n : ℕ) (e : Entry) (at : get_elem? entries n ≡ some e) (own : e.source ≡ i) → (won_below n k.mine ≡ (h.own n e at own).number) × (won_below (suc n) k.mine ≡ suc (h.own n e at own).number)
  number_here n e at own = let mine = h.own n e at own in (won_below-here k.mine mine.number _ rising mine.at, won_below-at k.mine mine.number _ rising mine.at)

  -- as many own entries stand below a position as publications
  pub number_at : (n : ℕ) → n ≤ length entries → own_number i (take n entries) ≡ won_below n k.mine
  number_at zero le = sym (won_below-none 0 k.mine (λ j m at. omega arith))
  number_at (suc n) le =
      let got = element entries n (omega arith) in
      let e : Entry = got.0 in
      let before = number_at n (omega arith) in
      let longer = ap (own_number i) (take_more entries n e got.1) ∙ number_snoc i (take n entries) e in
      elim (cases_eq e.source i) [
        | inl own ↦ let here = number_here n e got.1 own in omega (arith, longer, before, here.0, here.1, number_one i e own)
        | inr other ↦ omega (arith, longer, before, not_at n e got.1 other, number_none i e other)
      ]

  pub number_all : own_number i entries ≡ length k.mine
  number_all = sym (ap (own_number i) (take_all entries)) ∙ number_at (length entries) (omega arith) ∙ won_below-all (length entries) k.mine (λ j m at. below entries m.position _ (h.back j m at))

-- each entry counts those of its source before it
abbrev pub Counts : List Entry → Type 0
Counts entries = (n : ℕ) (e : Entry) → get_elem? entries n ≡ some e → e.count ≡ own_number e.source (take n entries) % 64

pub counts_of : {i tail : ℕ} {entries : List Entry} {released : ℕ} {k : Knows} → SourceKept i tail entries released k → (n : ℕ) (e : Entry) → get_elem? entries n ≡ some e → e.source ≡ i → e.count ≡ own_number i (take n entries) % 64
counts_of {i} {tail} {entries} h n e at own =
    let mine = h.own n e at own in
    mine.count ∙ ap (λ (m : ℕ). m % 64) (sym (number_at h n (let lt = below entries n e at in omega arith) ∙ (number_here h n e at own).0))

take_front : {A : Type 0} (xs ys : List A) → take (length xs) (xs ++ ys) ≡ xs
take_front [] ys = refl
take_front (x ∷ xs) ys = ap (λ (zs : List _). x ∷ zs) (take_front xs ys)

get_front : {A : Type 0} (xs ys : List A) (y : A) → get_elem? (xs ++ y ∷ ys) (length xs) ≡ some y
get_front [] ys y = refl
get_front (x ∷ xs) ys y = get_front xs ys y

-- the events behind some entries are those of the entries
pub events_are : (entries : List Entry) → Counts entries → (before es : List Entry) → entries ≡ before ++ es → events_behind (map accept_of before) (map accept_of es) ≡ map event_of es
events_are entries h before [] is = refl
events_are entries h before (e ∷ es) is =
    let at : get_elem? entries (length before) ≡ some e = ap (λ (xs : List Entry). get_elem? xs (length before)) is ∙ get_front before es e in
    let front : take (length before) entries ≡ before = ap (λ (xs : List Entry). take (length before) xs) is ∙ take_front before (e ∷ es) in
    let count : e.count ≡ own_number e.source before % 64 = h (length before) e at ∙ ap (λ (xs : List Entry). own_number e.source xs % 64) front in
    let rest = events_are entries h (before ++ e ∷ []) es (is ∙ sym (append_assoc before (e ∷ []) es)) in
    let rest' = ap (λ (bs : List Accept). events_behind bs (map accept_of es)) (sym (map-append accept_of before (e ∷ []))) ∙ rest in
    λ j. (record { origin = Rattle.ink_base.specs.declared.event.Origin.TheVariants.Source (record { 0 = e.source }) (sym count j); value = e.value }) ∷ rest' j
