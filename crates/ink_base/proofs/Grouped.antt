-- The first line that tokens make up.
use Rattle.ink_base.proofs.Common.{◌≡◌, ℕ, suc, ◌+◌, ◌<◌, ◌≤◌, true, false, eqb, List, [], ◌∷◌, length, get_or, take, drop, refl, sym, ap, ◌∙◌, inl, inr, arith, eq-eqb, eqb-true, ne_eqb, prefix_len, eqb-false, cases_Bool, cond_both, Line, entry_of, Token, join, token_lines}
use Rattle.ink_base.specs.Checks.{words_of}

abbrev pub line_prefix : ℕ → List Token → ℕ
line_prefix n tokens = prefix_len (λ (t : Token). eqb t.line n) tokens

-- the line that the first k tokens make up
abbrev pub line_of : List ℕ → ℕ → ℕ → List Token → Line
line_of text number k tokens = record { number = number; words = words_of text (take k tokens) }

one_more : (k : ℕ) → 1 + k ≡ suc k
one_more k = omega arith

cut_cons : (text : List ℕ) (t : Token) (ts : List Token) → token_lines text (t ∷ ts) ≡ line_of text t.line (suc (line_prefix t.line ts)) (t ∷ ts) ∷ token_lines text (drop (line_prefix t.line ts) ts)
cut_cons text t [] = refl
cut_cons text t (u ∷ us) =
    let h = cut_cons text u us in
    elim (cases_Bool (eqb t.line u.line)) [
      | inl e ↦
          let same : t.line ≡ u.line = eqb-true _ _ e in
          let back : eqb u.line t.line ≡ true = eq-eqb _ _ (sym same) in
          let k : line_prefix t.line (u ∷ us) ≡ suc (line_prefix u.line us) = rw back (one_more (line_prefix t.line us) ∙ ap (λ (n : ℕ). suc (line_prefix n us)) same) in
          ap (join (entry_of text t)) h ∙ rw (e, k) refl
      | inr e ↦
          let back : eqb u.line t.line ≡ false = ne_eqb _ _ (λ s. eqb-false _ _ e (sym s)) in
          let k : line_prefix t.line (u ∷ us) ≡ 0 = rw back refl in
          ap (join (entry_of text t)) h ∙ rw (e, k) (ap (λ (ls : List Line). line_of text t.line 1 (t ∷ u ∷ us) ∷ ls) (sym h))
    ]

pub line_prefix_le : (n : ℕ) (tokens : List Token) → line_prefix n tokens ≤ length tokens
line_prefix_le n [] = omega arith
line_prefix_le n (t ∷ ts) = cond_both (eqb t.line n) (1 + line_prefix n ts) 0 (λ k. k ≤ suc (length ts)) (λ _. omega (arith, line_prefix_le n ts)) (λ _. omega arith)

-- the first line of tokens, where there are any
pub cut : (text : List ℕ) (tokens : List Token) (d : Token) (k : ℕ) → 0 < length tokens → k ≡ line_prefix (get_or tokens 0 d).line tokens
    → token_lines text tokens ≡ line_of text (get_or tokens 0 d).line k tokens ∷ token_lines text (drop k tokens)
cut text [] d k some at = absurd (omega arith)
cut text (u ∷ us) d k some at =
    let n : k ≡ suc (line_prefix u.line us) = at ∙ rw (eq-eqb u.line u.line refl) (one_more (line_prefix u.line us)) in
    rw n (cut_cons text u us)

pub some_prefix : (tokens : List Token) (d : Token) (k : ℕ) → 0 < length tokens → k ≡ line_prefix (get_or tokens 0 d).line tokens → 0 < k
some_prefix [] d k some at = absurd (omega arith)
some_prefix (u ∷ us) d k some at =
    let n : k ≡ suc (line_prefix u.line us) = at ∙ rw (eq-eqb u.line u.line refl) (one_more (line_prefix u.line us)) in
    omega arith
