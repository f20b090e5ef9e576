-- What is drawn from a later state.
use Rattle.power_trace.proofs.Common.{◌≡◌, ℕ, zero, suc, ◌+◌, ◌*◌, ◌/◌, ◌^◌, List, [], ◌∷◌, ◌++◌, refl, sym, ap, ◌∙◌, add-one, zero-add, Charge, next_state, draw, drawn_charge}
use Rattle.std.proofs.Math.Nat.{add-zero, add-suc}
use Rattle.power_trace.specs.Soak.{state_after, draws, drawn_charges}

state_after-add : (x m n : ℕ) → state_after (state_after x m) n ≡ state_after x (m + n)
unfolding state_after
state_after-add x m zero = ap (state_after x) (sym (add-zero m))
state_after-add x m (suc n) = ap next_state (state_after-add x m n) ∙ ap (state_after x) (sym (add-suc m n))

-- the state behind some draws and then more, so many in all
pub state_more : (x s t m n k : ℕ) → s ≡ state_after x m → t ≡ state_after s n → m + n ≡ k → t ≡ state_after x k
state_more x s t m n k before more all = more ∙ ap (λ (z : ℕ). state_after z n) before ∙ state_after-add x m n ∙ ap (state_after x) all

-- the state behind one more draw
pub state_next : (x s t n : ℕ) → s ≡ state_after x n → t ≡ next_state s → t ≡ state_after x (n + 1)
unfolding state_after
state_next x s t n before more = rw add-one (more ∙ ap next_state before)

draw_from : (x m n : ℕ) → draw (state_after x m) n ≡ draw x (m + n)
draw_from x m n = ap (λ (z : ℕ). z / 2 ^ 16) (state_after-add x m (suc n) ∙ ap (state_after x) (add-suc m n))

draws_from : (x m n : ℕ) → draws (state_after x m) 0 n ≡ draws x m n
unfolding draws
draws_from x m zero = refl
draws_from x m (suc n) =
    let last : draw (state_after x m) (0 + n) ≡ draw x (m + n) = ap (draw (state_after x m)) (zero-add n) ∙ draw_from x m n in
    rw (draws_from x m n, last) refl

-- what is drawn from the state behind some draws
pub draws_behind : (x s m n : ℕ) (values : List ℕ) → s ≡ state_after x m → values ≡ draws s 0 n → values ≡ draws x m n
draws_behind x s m n values before are = are ∙ ap (λ (z : ℕ). draws z 0 n) before ∙ draws_from x m n

-- one more draw
pub draws_more : (x s v n : ℕ) (values : List ℕ) → s ≡ state_after x n → v ≡ next_state s / 2 ^ 16 → values ≡ draws x 0 n → values ++ v ∷ [] ≡ draws x 0 (n + 1)
unfolding draws state_after
draws_more x s v n values before value are =
    let drawn : v ≡ draw x (0 + n) = value ∙ ap (λ (z : ℕ). next_state z / 2 ^ 16) (before ∙ ap (state_after x) (sym (zero-add n))) in
    rw (add-one, are, drawn) refl

charge_from : (x m : ℕ) → drawn_charge (state_after x m) 0 ≡ drawn_charge x m
charge_from x m =
    let off : draw (state_after x m) 0 ≡ draw x m = draw_from x m 0 ∙ ap (draw x) (add-zero m) in
    rw (off, draw_from x m 1, draw_from x m 2, draw_from x m 3, draw_from x m 4) refl

-- one more charge
pub charges_more : (x s n : ℕ) (charge : Charge) (charges : List Charge) → s ≡ state_after x (1000 + 5 * n) → charge ≡ drawn_charge s 0 → charges ≡ drawn_charges x n
    → charges ++ charge ∷ [] ≡ drawn_charges x (n + 1)
unfolding drawn_charges
charges_more x s n charge charges before value are =
    let drawn : charge ≡ drawn_charge x (1000 + 5 * n) = value ∙ ap (λ (z : ℕ). drawn_charge z 0) before ∙ charge_from x (1000 + 5 * n) in
    rw (add-one, are, drawn) refl
