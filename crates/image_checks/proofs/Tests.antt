-- What a test that came out tells.
use Rattle.std.proofs.Common.{◌≡◌, ◌↔◌, IsTrue, true, false, refl}

-- it was passed
pub granted : {P : Type 0} → (IsTrue true ↔ P) → P
granted test = test.0 refl

-- it wasn't
pub refused : {P : Type 0} → (IsTrue false ↔ P) → ¬ P
refused test holds = let clash : false ≡ true = test.1 holds in absurd (let never : ⊥ = cc in never)
