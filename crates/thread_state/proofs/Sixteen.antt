-- A clean page is copied by sixteen accesses.
use Rattle.thread_state.proofs.Common.{◌≡◌, ℕ, ◌+◌, ◌-◌, ◌*◌, ◌^◌, ◌<◌, false, bit_or, List, [], ◌∷◌, length, arith, refl, inl, inr, Some, ◌==◌, IsSome, eqb-true, ne_eqb, eqb-false, cases_Bool, Block, Copying, Loading, Storing, is_dirty, Writes, taken_all, resting, SixteenCopy}

-- a copying under way
abbrev pub under : Block → ℕ → ℕ → ℕ → Copying → Writes
under block commit dirty page x = record { block = block; buffer = record { commit = commit; dirty = dirty; copying = x }; under_way = Some page }

-- how many accesses are left
abbrev pub left : Copying → ℕ
left (Loading k) = 16 - 2 * k
left (Storing k v) = 15 - 2 * k

more_left : (block : Block) (c d page : ℕ) (x : Copying) (words : List ℕ) → length words < left x → IsSome (taken_all (under block c d page x) words).under_way
more_left block c d page x [] lt = refl
more_left block c d page (Loading k) (word ∷ words) lt = more_left block c d page (Storing k word) words (omega arith)
more_left block c d page (Storing k v) (word ∷ words) lt =
    elim (cases_Bool (k == 7)) [
      | inl e ↦ let seven : k ≡ 7 = eqb-true k 7 e in absurd (omega arith)
      | inr e ↦ rw (e, taken_all) (more_left block c d page (Loading (k + 1)) words (omega arith))
    ]

none_left : (block : Block) (c d page : ℕ) (x : Copying) (words : List ℕ) → length words ≡ left x → 0 < left x →
    taken_all (under block c d page x) words ≡ resting block c (bit_or d (2 ^ page))
none_left block c d page x [] e pos = absurd (omega arith)
none_left block c d page (Loading k) (word ∷ words) e pos = none_left block c d page (Storing k word) words (omega arith) (omega arith)
none_left block c d page (Storing k v) (word ∷ words) e pos =
    elim (cases_Bool (k == 7)) [
      | inl is ↦ let seven : k ≡ 7 = eqb-true k 7 is in rw (is, taken_all) (over block c d page words (omega arith))
      | inr is ↦
          let ne : k ≡ 7 → ⊥ = eqb-false k 7 is in
          rw (is, taken_all) (none_left block c d page (Loading (k + 1)) words (omega arith) (omega arith))
    ]
  where
    over : (block : Block) (c d page : ℕ) (words : List ℕ) → length words ≡ 0 → taken_all (resting block c (bit_or d (2 ^ page))) words ≡ resting block c (bit_or d (2 ^ page))
    over block c d page [] e = refl
    over block c d page (word ∷ words) e = absurd (omega arith)

pub sixteen_copy : SixteenCopy
sixteen_copy block c d page clean =
    let is : is_dirty (record { commit = c; dirty = d; copying = Loading 0 }) page ≡ false = ne_eqb _ 1 λ e. omega arith in
    record {
      more = λ words lt. rw is (more_left block c d page (Loading 0) words lt);
      over = λ words e. rw is (none_left block c d page (Loading 0) words e (omega arith));
    }
