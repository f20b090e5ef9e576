-- A journal over charges: an entry is noted in the charge at hand.
use Rattle.kernel_core.proofs.Common.{◌≡◌, ◌≢◌, ℕ, zero, suc, ◌-◌, ◌<◌, ◌≤◌, List, [], ◌∷◌, ◌++◌, length, set, Option, Some, None, refl, sym, ap, ◌∙◌, subst, arith, append-nil, append_assoc, get_or-set_other, Entry, noted, ChargeRecord, journal_of, charge_of, not_begun, Setup, Board, journal, charged, HasSize}

pub noted-behind : (xs ys : List Entry) (o : Option Entry) → xs ++ noted ys o ≡ noted (xs ++ ys) o
noted-behind xs ys None = refl
noted-behind xs ys (Some e) = sym (append_assoc xs ys (e ∷ []))

at_end : (es : List Entry) (o : Option Entry) → noted es o ++ [] ≡ noted (es ++ []) o
at_end es None = refl
at_end es (Some e) = append-nil (es ++ e ∷ []) ∙ ap (λ l. l ++ e ∷ []) (sym (append-nil es))

-- an entry is noted in the last of the charges that have begun
pub noted_last : (cs : List ChargeRecord) (n : ℕ) (x : ChargeRecord) (o : Option Entry) → n < length cs → x.entries ≡ noted (charge_of cs n).entries o →
    journal_of (set cs n x) (suc n) ≡ noted (journal_of cs (suc n)) o
noted_last [] n x o lt e = absurd (omega arith)
noted_last (c ∷ cs) zero x o lt e = ap (λ l. l ++ []) e ∙ at_end c.entries o
noted_last (c ∷ cs) (suc n) x o lt e = ap (λ l. c.entries ++ l) (noted_last cs n x o (omega arith) e) ∙ noted-behind c.entries (journal_of cs (suc n)) o

-- a charge without entries adds nothing
pub fresh : (cs : List ChargeRecord) (n : ℕ) → (charge_of cs n).entries ≡ [] → journal_of cs (suc n) ≡ journal_of cs n
fresh [] zero e = refl
fresh [] (suc n) e = refl
fresh (c ∷ cs) zero e = ap (λ l. l ++ []) e
fresh (c ∷ cs) (suc n) e = ap (λ l. c.entries ++ l) (fresh cs n e)

-- the other charges stay
pub others_stay : (cs : List ChargeRecord) (n k : ℕ) (x : ChargeRecord) → k ≢ n → charge_of (set cs n x) k ≡ charge_of cs k
others_stay cs n k x ne = get_or-set_other cs n k x (not_begun 0) ne

-- the charge at hand notes an entry
pub charged_journal : (s : Setup) (count : ℕ) (b : Board) (f : ChargeRecord → ChargeRecord) (o : Option Entry) → HasSize s count b → 0 < b.begun →
    (f (charge_of b.charges (b.begun - 1))).entries ≡ noted (charge_of b.charges (b.begun - 1)).entries o → journal_of (charged b f) b.begun ≡ noted (journal b) o
charged_journal s count b f o h some is =
    let one_more : suc (b.begun - 1) ≡ b.begun = omega arith in
    let lt : b.begun - 1 < length b.charges = let e = h.charges_count in let le = h.begun in omega arith in
    subst (λ n. journal_of (charged b f) n ≡ noted (journal_of b.charges n) o) one_more
    (noted_last b.charges (b.begun - 1) (f (charge_of b.charges (b.begun - 1))) o lt is)

pub charged_later : (s : Setup) (count : ℕ) (b : Board) (f : ChargeRecord → ChargeRecord) → HasSize s count b → 0 < b.begun → (k : ℕ) → b.begun ≤ k → (charge_of (charged b f) k).entries ≡ []
charged_later s count b f h some k le =
    ap (λ (c : ChargeRecord). c.entries) (others_stay b.charges (b.begun - 1) k (f (charge_of b.charges (b.begun - 1))) (λ e. absurd (omega arith))) ∙ h.later k le
