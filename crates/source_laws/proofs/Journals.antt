-- The readings that legal entries settle are the next one and those after it.
use Rattle.source_laws.proofs.Common.{◌≡◌, ◌⊎◌, inl, inr, ℕ, suc, ◌+◌, ◌-◌, ◌≤◌, ◌==◌, cond, Bool, List, [], ◌∷◌, ◌++◌, refl, sym, ap, ◌∙◌, subst, arith, eq-eqb, ne_eqb, cases_eq, Becomes, Source, Board, Model, Entry, Push, Refuse, Skip, Finish, Release, Follows}
use Rattle.std.specs.List.{range_with_len}
use Rattle.source_laws.specs.Journals.{Leads, settled, settled_by}

-- an entry settles the next reading of source i, or none of it
Settles : ℕ → Entry → Model → Model → Type 0
Settles i e old new = ((settled_by i e old ≡ []) × ((new.source i).next ≡ (old.source i).next)) ⊎ ((settled_by i e old ≡ (old.source i).next ∷ []) × ((new.source i).next ≡ (old.source i).next + 1))

-- source j becomes one that has settled one more
settles_one : (i j : ℕ) (s : Source) (old new : ℕ → Source) → Becomes j s old new → s.next ≡ (old j).next + 1
    → ((cond (j == i) ((old i).next ∷ []) [] ≡ []) × ((new i).next ≡ (old i).next)) ⊎ ((cond (j == i) ((old i).next ∷ []) [] ≡ (old i).next ∷ []) × ((new i).next ≡ (old i).next + 1))
settles_one i j s old new becomes more =
    elim (cases_eq j i) [
      | inl same ↦ inr (ap (λ (b : Bool). cond b ((old i).next ∷ []) []) (eq-eqb j i same), subst (λ (k : ℕ). (new k).next ≡ (old k).next + 1) same (ap (λ (z : Source). z.next) becomes.here ∙ more))
      | inr other ↦ inl (ap (λ (b : Bool). cond b ((old i).next ∷ []) []) (ne_eqb j i other), ap (λ (z : Source). z.next) (becomes.elsewhere i (λ e. other (sym e))))
    ]

-- and one that has settled as many
settles_none : (i j : ℕ) (s : Source) (old new : ℕ → Source) → Becomes j s old new → s.next ≡ (old j).next → (new i).next ≡ (old i).next
settles_none i j s old new becomes as_many =
    elim (cases_eq i j) [
      | inl same ↦ subst (λ (k : ℕ). (new k).next ≡ (old k).next) (sym same) (ap (λ (z : Source). z.next) becomes.here ∙ as_many)
      | inr other ↦ ap (λ (z : Source). z.next) (becomes.elsewhere i other)
    ]

settles : (board : Board) (i : ℕ) (e : Entry) (old new : Model) → Follows board e old new → Settles i e old new
unfolding Settles
settles board i (Push j) old new f = settles_one i j _ old.source new.source f.source refl
settles board i (Skip j) old new f = settles_one i j _ old.source new.source f.source refl
settles board i (Refuse j) old new f = inl (refl, settles_none i j _ old.source new.source f.source refl)
settles board i (Finish t) old new f = inl (refl, ap (λ (g : ℕ → Source). (g i).next) f.source)
settles board i (Release t) old new f = inl (refl, ap (λ (g : ℕ → Source). (g i).next) f.source)

-- the settled readings are so many numbers from the first one on
pub settled-is : (board : Board) (i : ℕ) (entries : List Entry) (old new : Model) (leads : Leads board entries old new)
    → (n : ℕ) × ((new.source i).next ≡ (old.source i).next + n) × (settled board i entries old new leads ≡ range_with_len (old.source i).next n)
unfolding Settles
settled-is board i [] old new leads = (0, ap (λ (m : Model). (m.source i).next) leads ∙ (let e : (old.source i).next ≡ (old.source i).next + 0 = omega arith in e), refl)
settled-is board i (e ∷ entries) old new leads = joined (settles board i e old leads.0 leads.2) (settled-is board i entries leads.0 new leads.3)
  where
    joined : Settles i e old leads.0 → (n : ℕ) × ((new.source i).next ≡ (leads.0.source i).next + n) × (settled board i entries leads.0 new leads.3 ≡ range_with_len (leads.0.source i).next n)
        → (n : ℕ) × ((new.source i).next ≡ (old.source i).next + n) × (settled_by i e old ++ settled board i entries leads.0 new leads.3 ≡ range_with_len (old.source i).next n)
    joined (inl none) rest = (rest.0, omega (arith, none.1, rest.1), ap (λ (xs : List ℕ). xs ++ settled board i entries leads.0 new leads.3) none.0 ∙ (rest.2 ∙ ap (λ (k : ℕ). range_with_len k rest.0) none.1))
    joined (inr one) rest = (
      suc rest.0,
      omega (arith, one.1, rest.1),
      ap (λ (xs : List ℕ). xs ++ settled board i entries leads.0 new leads.3) one.0
          ∙ ap (λ (xs : List ℕ). (old.source i).next ∷ xs) (rest.2 ∙ ap (λ (k : ℕ). range_with_len k rest.0) (let h : (leads.0.source i).next ≡ (old.source i).next + 1 = omega (arith, one.1) in h)),
    )

-- those from the old next reading up to the new one
pub settled_in_order : (board : Board) (i : ℕ) (entries : List Entry) (old new : Model) (leads : Leads board entries old new)
    → ((old.source i).next ≤ (new.source i).next) × (settled board i entries old new leads ≡ range_with_len (old.source i).next ((new.source i).next - (old.source i).next))
settled_in_order board i entries old new leads =
    let h = settled-is board i entries old new leads in
    let n : h.0 ≡ (new.source i).next - (old.source i).next = omega (arith, h.1) in
    (omega (arith, h.1), h.2 ∙ ap (range_with_len (old.source i).next) n)
