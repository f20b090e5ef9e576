-- The refusals of all sources, behind one another.
use Rattle.std.proofs.Common.{◌≡◌, ◌⊎◌, inl, inr, ℕ, zero, suc, ◌+◌, ◌<◌, List, map, length, sym, ap, subst, arith}
use Rattle.std.proofs.lemmas.Bool.{cases_lt}
use mathlib.Core.Option.{some, some-ne-none}
use lib.ListN.{get_elem?}
use Rattle.irq_source.specs.declared.lists.Declined.{Declined}
use Rattle.irq_source.proofs.Basics.{at_longer, at_map}
use Rattle.event_queue.proofs.Basics.{below}
use Rattle.live_account.specs.declared.record.Refusal.{Refusal}
use Rattle.queue_lists.specs.Gathers.{source, refusals_of}
use Rattle.queue_lists.specs.Lists.{Lists, lists_at}
use Rattle.queue_lists.specs.Puts.{refusal_of}
use Rattle.queue_lists.proofs.Elements.{unmapped, at_parts, at_behind}

-- a refusal is one of source `owner`, one of the first n
pub record IsFrom (lists : List Lists) (n : ℕ) (d : Refusal) : Type 0 where
  pub owner : ℕ
  pub known : owner < n
  pub number : ℕ
  pub declined : Declined
  pub at : get_elem? (lists_at lists owner).refused number ≡ some declined
  pub same : refusal_of (source owner) declined ≡ d

-- the refusals of source n
abbrev refusals_at : List Lists → (n : ℕ) → List Refusal
refusals_at lists n = map (refusal_of (source n)) (lists_at lists n).refused

pub is_from : (lists : List Lists) (n k : ℕ) (d : Refusal) → get_elem? (refusals_of lists n) k ≡ some d → IsFrom lists n d
is_from lists zero k d at = absurd (some-ne-none d (sym at))
is_from lists (suc n) k d at = elim (at_parts (refusals_of lists n) (refusals_at lists n) k d at) [
  | inl front ↦ let x = is_from lists n k d front in record { owner = x.owner; known = omega (arith, x.known); number = x.number; declined = x.declined; at = x.at; same = x.same }
  | inr back ↦ let x = unmapped (refusal_of (source n)) (lists_at lists n).refused back.0 d back.1 in record { owner = n; known = omega arith; number = back.0; declined = x.0; at = x.1; same = x.2 }
]

-- and each one of a source is among them
pub is_among : (lists : List Lists) (n i m : ℕ) (x : Declined) → i < n → get_elem? (lists_at lists i).refused m ≡ some x → (k : ℕ) × (get_elem? (refusals_of lists n) k ≡ some (refusal_of (source i) x))
is_among lists zero i m x lt at = absurd (omega arith)
is_among lists (suc n) i m x lt at = elim (cases_lt i n) [
  | inl less ↦ let k = is_among lists n i m x less at in (k.0, at_longer (refusals_of lists n) (refusals_at lists n) k.0 (refusal_of (source i) x) k.1)
  | inr ge ↦
      let same : i ≡ n = omega arith in
      let own = at_map (refusal_of (source i)) (lists_at lists i).refused m x at in
      (length (refusals_of lists n) + m, at_behind (refusals_of lists n) (refusals_at lists n) m (refusal_of (source i) x) (subst (λ (j : ℕ). get_elem? (refusals_at lists j) m ≡ some (refusal_of (source i) x)) same own))
]

-- two refusals of one source, the one before the other
pub record AreInOrder (lists : List Lists) (n : ℕ) (a b : Refusal) : Type 0 where
  pub owner : ℕ
  pub known : owner < n
  pub first : ℕ
  pub second : ℕ
  pub before : first < second
  pub one : Declined
  pub other : Declined
  pub at_one : get_elem? (lists_at lists owner).refused first ≡ some one
  pub at_other : get_elem? (lists_at lists owner).refused second ≡ some other
  pub same_one : refusal_of (source owner) one ≡ a
  pub same_other : refusal_of (source owner) other ≡ b

-- Of two refusals, the one before the other, the first is of an earlier source, or both are of one in its order.
pub in_order : (lists : List Lists) (n j k : ℕ) (a b : Refusal) → j < k → get_elem? (refusals_of lists n) j ≡ some a → get_elem? (refusals_of lists n) k ≡ some b → (a.source.0 < b.source.0) ⊎ AreInOrder lists n a b
in_order lists zero j k a b lt at_a at_b = absurd (some-ne-none a (sym at_a))
in_order lists (suc n) j k a b lt at_a at_b =
    elim (at_parts (refusals_of lists n) (refusals_at lists n) k b at_b) [
      | inl front_b ↦ elim (at_parts (refusals_of lists n) (refusals_at lists n) j a at_a) [
        | inl front_a ↦ elim (in_order lists n j k a b lt front_a front_b) [
          | inl earlier ↦ inl earlier
          | inr x ↦ inr (record { owner = x.owner; known = omega (arith, x.known); first = x.first; second = x.second; before = x.before; one = x.one; other = x.other; at_one = x.at_one; at_other = x.at_other; same_one = x.same_one; same_other = x.same_other })
        ]
        | inr back_a ↦ absurd (omega (arith, back_a.2, below (refusals_of lists n) k b front_b))
      ]
      | inr back_b ↦
          let y = unmapped (refusal_of (source n)) (lists_at lists n).refused back_b.0 b back_b.1 in
          elim (at_parts (refusals_of lists n) (refusals_at lists n) j a at_a) [
            | inl front_a ↦
                let x = is_from lists n j a front_a in
                inl (omega (arith, x.known, ap (λ (d : Refusal). d.source.0) x.same, ap (λ (d : Refusal). d.source.0) y.2))
            | inr back_a ↦
                let x = unmapped (refusal_of (source n)) (lists_at lists n).refused back_a.0 a back_a.1 in
                inr (record { owner = n; known = omega arith; first = back_a.0; second = back_b.0; before = omega (arith, back_a.2, back_b.2); one = x.0; other = y.0; at_one = x.1; at_other = y.1; same_one = x.2; same_other = y.2 })
          ]
    ]
