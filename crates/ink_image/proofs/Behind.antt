-- Readings behind zeros, source by source.
use Rattle.ink_image.proofs.Common.{◌≡◌, ℕ, zero, suc, ◌+◌, ◌<◌, ◌≤◌, List, [], ◌∷◌, ◌++◌, length, get_or, drop, replicate, refl, sym, ap, ◌∙◌, append_assoc, append-nil, add-one, arith, length-drop, nil_from_length, SourceModel, behind_settled}
use Rattle.std.proofs.Math.Seq.{drop-cons}

-- as many lists as there were
pub length-behind : (sources : List SourceModel) (readings : List (List ℕ)) → length sources ≡ length readings → length (behind_settled sources readings) ≡ length readings
length-behind [] [] h = refl
length-behind [] (r ∷ rs) h = absurd (omega arith)
length-behind (s ∷ ss) [] h = absurd (omega arith)
length-behind (s ∷ ss) (r ∷ rs) h = ap suc (length-behind ss rs (omega arith))

-- the list of a source
pub behind_at : (sources : List SourceModel) (readings : List (List ℕ)) (i : ℕ) (s : SourceModel) (d r : List ℕ) → i < length sources → length sources ≡ length readings →
    get_or (behind_settled sources readings) i d ≡ replicate (get_or sources i s).next 0 ++ get_or readings i r
behind_at [] rs i s d r lt h = absurd (omega arith)
behind_at (x ∷ ss) [] i s d r lt h = absurd (omega arith)
behind_at (x ∷ ss) (y ∷ rs) zero s d r lt h = refl
behind_at (x ∷ ss) (y ∷ rs) (suc i) s d r lt h = behind_at ss rs i s d r (omega arith) (omega arith)

-- one list is put behind the others
pub behind_goes_on : (sources : List SourceModel) (readings lists more : List (List ℕ)) (i : ℕ) (s : SourceModel) (r : List ℕ) → i < length readings → length sources ≡ length readings →
    more ≡ lists ++ (replicate (get_or sources i s).next 0 ++ get_or readings i r) ∷ [] →
    more ++ behind_settled (drop (i + 1) sources) (drop (i + 1) readings) ≡ lists ++ behind_settled (drop i sources) (drop i readings)
behind_goes_on sources readings lists more i s r lt h put =
    let here : i < length sources = omega arith in
    let item : List ℕ = replicate (get_or sources i s).next 0 ++ get_or readings i r in
    let rest : List (List ℕ) = behind_settled (drop (i + 1) sources) (drop (i + 1) readings) in
    let first : behind_settled (drop i sources) (drop i readings) ≡ item ∷ rest = rw (add-one, drop-cons sources i s here, drop-cons readings i r lt) refl in
    ap (λ (x : List (List ℕ)). x ++ rest) put ∙ append_assoc lists (item ∷ []) rest ∙ ap (λ (x : List (List ℕ)). lists ++ x) (sym first)

-- no list is left
pub behind_over : (sources : List SourceModel) (readings lists : List (List ℕ)) (i : ℕ) → length readings ≤ i → length sources ≡ length readings →
    lists ++ behind_settled (drop i sources) (drop i readings) ≡ lists
behind_over sources readings lists i le h =
    let none : drop i sources ≡ [] = nil_from_length (drop i sources) (omega (arith, length-drop i sources)) in
    ap (λ (ss : List SourceModel). lists ++ behind_settled ss (drop i readings)) none ∙ append-nil lists
