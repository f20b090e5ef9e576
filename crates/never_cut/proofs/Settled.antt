-- Every legal journal settles the readings of each source in order.
use Rattle.never_cut.proofs.Common.{◌≡◌, ◌⊎◌, inl, inr, ℕ, suc, ◌+◌, ◌-◌, ◌<◌, ◌==◌, cond, Bool, List, [], ◌∷◌, ◌++◌, length, get_or, set, refl, sym, ap, ◌∙◌, subst, arith, length-set, eq-eqb, ne_eqb, get_or-set_same, get_or-set_other, range_with_len, cases_eq, Entry, Push, Refuse, Skip, Tick, Scan, Look, Commit, Release, Program, Model, SourceModel, source_of, no_source, Readings, Legal, effect, with_accepted, with_refused, with_skipped, after, IsLegal, settled_by, gathered, ReadingsInOrder}
use Rattle.never_cut.proofs.Commits.{commit-sources}

-- an entry settles the next reading of source i, or none of it
Settles : ℕ → Entry → Model → Model → Type 0
Settles i e m next = ((settled_by i e m ≡ []) × ((source_of next i).next ≡ (source_of m i).next)) ⊎ ((settled_by i e m ≡ (source_of m i).next ∷ []) × ((source_of next i).next ≡ suc (source_of m i).next))

-- source j of a list becomes one that has settled one more
settles_one : (i j : ℕ) (s : SourceModel) (xs : List SourceModel) → j < length xs → s.next ≡ (get_or xs j no_source).next + 1 →
    ((cond (j == i) ((get_or xs i no_source).next ∷ []) [] ≡ []) × ((get_or (set xs j s) i no_source).next ≡ (get_or xs i no_source).next))
    ⊎ ((cond (j == i) ((get_or xs i no_source).next ∷ []) [] ≡ (get_or xs i no_source).next ∷ []) × ((get_or (set xs j s) i no_source).next ≡ suc (get_or xs i no_source).next))
settles_one i j s xs lt more =
    elim (cases_eq j i) [
      | inl same ↦ inr (
        ap (λ (b : Bool). cond b ((get_or xs i no_source).next ∷ []) []) (eq-eqb j i same),
        subst (λ (k : ℕ). (get_or (set xs j s) k no_source).next ≡ suc (get_or xs k no_source).next) same
            (ap (λ (z : SourceModel). z.next) (get_or-set_same xs j s no_source lt) ∙ (let e : s.next ≡ suc (get_or xs j no_source).next = omega (arith, more) in e)),
      )
      | inr other ↦ inl (
        ap (λ (b : Bool). cond b ((get_or xs i no_source).next ∷ []) []) (ne_eqb j i other),
        ap (λ (z : SourceModel). z.next) (get_or-set_other xs j i s no_source (λ e. other (sym e))),
      )
    ]

-- and one that has settled as many
settles_none : (i j : ℕ) (s : SourceModel) (xs : List SourceModel) → j < length xs → s.next ≡ (get_or xs j no_source).next →
    (get_or (set xs j s) i no_source).next ≡ (get_or xs i no_source).next
settles_none i j s xs lt as_many =
    elim (cases_eq i j) [
      | inl same ↦ subst (λ (k : ℕ). (get_or (set xs j s) k no_source).next ≡ (get_or xs k no_source).next) (sym same) (ap (λ (z : SourceModel). z.next) (get_or-set_same xs j s no_source lt) ∙ as_many)
      | inr other ↦ ap (λ (z : SourceModel). z.next) (get_or-set_other xs j i s no_source other)
    ]

-- as many sources as the program has
HasSources : Program → Model → Type 0
HasSources program m = length m.sources ≡ length program.sources

settles : (program : Program) (readings : Readings) (i : ℕ) (m : Model) (e : Entry) → HasSources program m → Legal program readings m e →
    Settles i e m (effect program readings m e) × HasSources program (effect program readings m e)
unfolding Settles HasSources
settles program readings i m (Push j) count legal = (settles_one i j.0 (with_accepted (source_of m j.0)) m.sources (omega (arith, legal.0)) refl, length-set m.sources j.0 _ ∙ count)
settles program readings i m (Refuse j) count legal = (inl (refl, settles_none i j.0 (with_refused (source_of m j.0)) m.sources (omega (arith, legal.0)) refl), length-set m.sources j.0 _ ∙ count)
settles program readings i m (Skip j) count legal = (settles_one i j.0 (with_skipped (source_of m j.0)) m.sources (omega (arith, legal.0)) refl, length-set m.sources j.0 _ ∙ count)
settles program readings i m (Tick by) count legal = (inl (refl, refl), count)
settles program readings i m Scan count legal = (inl (refl, refl), count)
settles program readings i m (Look t) count legal = (inl (refl, refl), count)
settles program readings i m (Commit t) count legal =
    let same = commit-sources program t.0 m in (inl (refl, ap (λ (xs : List SourceModel). (get_or xs i no_source).next) same), ap length same ∙ count)
settles program readings i m (Release t) count legal = (inl (refl, refl), count)

-- the settled readings are so many numbers from the first one on
settled_are : (program : Program) (readings : Readings) (i : ℕ) (m : Model) (entries : List Entry) → HasSources program m → IsLegal program readings m entries →
    (n : ℕ) × ((source_of (after program readings m entries) i).next ≡ (source_of m i).next + n) × (gathered (settled_by i) program readings m entries ≡ range_with_len (source_of m i).next n)
unfolding Settles
settled_are program readings i m [] count legal = (0, (let e : (source_of m i).next ≡ (source_of m i).next + 0 = omega arith in e), refl)
settled_are program readings i m (e ∷ entries) count legal =
    let one = settles program readings i m e count legal.0 in
    joined one.0 (settled_are program readings i (effect program readings m e) entries one.1 legal.1)
  where
    joined : Settles i e m (effect program readings m e) →
        (n : ℕ) × ((source_of (after program readings (effect program readings m e) entries) i).next ≡ (source_of (effect program readings m e) i).next + n) × (gathered (settled_by i) program readings (effect program readings m e) entries ≡ range_with_len (source_of (effect program readings m e) i).next n) →
        (n : ℕ) × ((source_of (after program readings (effect program readings m e) entries) i).next ≡ (source_of m i).next + n) × (settled_by i e m ++ gathered (settled_by i) program readings (effect program readings m e) entries ≡ range_with_len (source_of m i).next n)
    joined (inl none) rest = (
      rest.0,
      omega (arith, none.1, rest.1),
      ap (λ (xs : List ℕ). xs ++ gathered (settled_by i) program readings (effect program readings m e) entries) none.0 ∙ (rest.2 ∙ ap (λ (k : ℕ). range_with_len k rest.0) none.1),
    )
    joined (inr one) rest = (
      suc rest.0,
      omega (arith, one.1, rest.1),
      ap (λ (xs : List ℕ). xs ++ gathered (settled_by i) program readings (effect program readings m e) entries) one.0
          ∙ ap (λ (xs : List ℕ). (source_of m i).next ∷ xs) (rest.2 ∙ ap (λ (k : ℕ). range_with_len k rest.0) (let h : (source_of (effect program readings m e) i).next ≡ (source_of m i).next + 1 = omega (arith, one.1) in h)),
    )

-- those from the first state's next reading up to the next one then
pub readings_in_order : (program : Program) (readings : Readings) (first : Model) (journal : List Entry) → length first.sources ≡ length program.sources →
    IsLegal program readings first journal → ReadingsInOrder program readings first journal
unfolding HasSources
readings_in_order program readings first journal count legal i lt =
    let h = settled_are program readings i first journal count legal in
    let start : ℕ = (source_of first i).next in
    let n : h.0 ≡ (source_of (after program readings first journal) i).next - (source_of first i).next = omega (arith, h.1) in
    (omega (arith, h.1), h.2 ∙ ap (range_with_len start) n)
