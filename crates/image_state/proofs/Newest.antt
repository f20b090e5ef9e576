-- The greatest stamp of one thread more.
use Rattle.image_state.proofs.Common.{◌≡◌, inl, inr, ℕ, ◌+◌, ◌≤◌, sym, ◌∙◌, subst, arith, cases_lt, Memory, committed, IsNewest}
use Rattle.std.proofs.Common.{max}
use Rattle.std.specs.Ordering.{nat_cmp, ord_max}
use Rattle.fram_words.specs.Header as header
use Rattle.image_state.proofs.Merged.{is_less, not_less}

-- the greater of two numbers, as a comparison tells it
greater : (a b : ℕ) → ord_max nat_cmp a b ≡ max a b
greater a b =
    elim (cases_lt b a) [
      | inl less ↦ rw (is_less b a less) (omega (arith, less))
      | inr ge ↦ rw (not_less b a ge) (omega (arith, ge))
    ]

pub newest_more : (words : Memory) (count old new : ℕ) → new ≡ ord_max nat_cmp old (committed words count header.stamp) → IsNewest words count old →
    IsNewest words (count + 1) new
newest_more words count old new from h =
    let is : new ≡ max old (committed words count header.stamp) = from ∙ greater old (committed words count header.stamp) in
    record {
      most = λ t lt. elim (cases_lt t count) [
        | inl before ↦ let le = h.most t before in omega (arith, is, le)
        | inr here ↦ let same : count ≡ t = omega (arith, lt, here) in subst (λ (u : ℕ). committed words u header.stamp ≤ new) same (omega (arith, is))
      ];
      one = elim (cases_lt old (committed words count header.stamp)) [
        | inl newer ↦ inr (count, omega arith, omega (arith, is, newer))
        | inr older ↦
            let same : old ≡ new = omega (arith, is, older) in
            elim h.one [
              | inl none ↦ inl (sym same ∙ none)
              | inr made ↦ inr (made.0, omega (arith, made.1), made.2 ∙ same)
            ]
      ];
    }
