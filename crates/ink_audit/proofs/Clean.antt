-- Pieces of a text in which no line ends.
use Rattle.ink_audit.proofs.Common.{◌≡◌, ◌≢◌, ℕ, zero, suc, ◌+◌, ◌<◌, ◌≤◌, Bool, true, false, cond, List, [], ◌∷◌, ◌++◌, length, map, decimal, inl, inr, refl, sym, ap, ◌∙◌, arith, eqb, ltb, leb, ne_eqb, ltb-true, ltb-false, not-true, ◌⊎◌, cases_lt, cases_Bool, and_parts, append_assoc, All-get_or, Program, thread_def, no_thread_def, lines, ended, is_feed, not, IsTrue}
use Rattle.std.specs.Prelude.{◌&&◌, ◌/◌, ◌%◌}
use Rattle.std.specs.List.{flat_map, list_all}
use Rattle.std.specs.Fmt.{digits, digits_onto, digit_glyph}
use Rattle.std.proofs.lemmas.Bool.{and_from}
use Rattle.std.proofs.lemmas.List.{get_or_past}
use Rattle.std.proofs.lemmas.List.Folds.{list_all-append}
use Rattle.task_isa.specs.Names.{is_letter, goes_on_name, is_name}
use Rattle.task_isa.specs.declared.program.ThreadDef.{ThreadDef}
use Rattle.ink_audit.specs.Laws.{HasNames}

-- a byte that doesn't end a line
abbrev pub goes_on : ℕ → Bool
goes_on b = not (is_feed b)

abbrev pub IsClean : List ℕ → Type 0
IsClean w = list_all goes_on w ≡ true

pub clean_append : (v w : List ℕ) → IsClean v → IsClean w → IsClean (v ++ w)
clean_append v w first second = list_all-append goes_on v w ∙ and_from (list_all goes_on v) (list_all goes_on w) first second

-- the same, as a fact of its own
pub record GoesOn (w : List ℕ) : Type 0 where
  pub clean : IsClean w

pub fixed : (w : List ℕ) → IsClean w → GoesOn w
fixed w clean = record { clean = clean }

infixl 10 ◌also◌
pub ◌also◌ : {v w : List ℕ} → GoesOn v → GoesOn w → GoesOn (v ++ w)
◌also◌ {v} {w} first second = record { clean = clean_append v w first.clean second.clean }

passing : (p q : ℕ → Bool) → ((b : ℕ) → p b ≡ true → q b ≡ true) → (w : List ℕ) → list_all p w ≡ true → list_all q w ≡ true
passing p q more [] all = refl
passing p q more (b ∷ w) all = let parts = and_parts (p b) (list_all p w) all in and_from (q b) (list_all q w) (more b parts.0) (passing p q more w parts.1)

-- a test that a line feed doesn't pass
no_feed : (p : ℕ → Bool) → p 10 ≡ false → (b : ℕ) → p b ≡ true → goes_on b ≡ true
no_feed p fails b passes = ap not (ne_eqb b 10 (λ same. let e : p b ≡ p 10 = ap p same in absurd (cc)))

clean_name : (name : List ℕ) → IsTrue (is_name name) → IsClean name
clean_name [] is = refl
clean_name (b ∷ w) is =
    let parts = and_parts (is_letter b && leb (length w) 15) (list_all goes_on_name w) is in
    let first = and_parts (is_letter b) (leb (length w) 15) parts.0 in
    and_from (goes_on b) (list_all goes_on w) (no_feed is_letter refl b first.0) (passing goes_on_name goes_on (no_feed goes_on_name refl) w parts.1)

pub thread_clean : (program : Program) → HasNames program → (t : ℕ) → IsClean (thread_def program t).name
thread_clean program named t =
    elim (cases_lt t (length program.threads)) [
      | inl known ↦ clean_name (thread_def program t).name (All-get_or (λ (d : ThreadDef). IsTrue (is_name d.name)) program.threads t no_thread_def known named)
      | inr past ↦ ap (λ (d : ThreadDef). list_all goes_on d.name) (get_or_past program.threads t no_thread_def past)
    ]

-- digits pass a test that each of them passes
digits_pass : (p : ℕ → Bool) → ((d : ℕ) → p (digit_glyph false d) ≡ true) → (k n : ℕ) (acc : List ℕ) → list_all p acc ≡ true → list_all p (digits_onto k 10 false n acc) ≡ true
digits_pass p each zero n acc all = all
digits_pass p each (suc k) n acc all =
    let more : list_all p (digit_glyph false (n % 10) ∷ acc) ≡ true = and_from (p (digit_glyph false (n % 10))) (list_all p acc) (each (n % 10)) all in
    elim (eqb (n / 10) 0) as (λ e. list_all p (cond e (digit_glyph false (n % 10) ∷ acc) (digits_onto k 10 false (n / 10) (digit_glyph false (n % 10) ∷ acc))) ≡ true) [
      | true ↦ more
      | false ↦ digits_pass p each k (n / 10) (digit_glyph false (n % 10) ∷ acc) more
    ]

-- a digit is neither a line feed nor a bracket
glyph_not : (c d : ℕ) → c < 48 ⊎ ((57 < c) × (c < 97)) → digit_glyph false d ≢ c
glyph_not c d out same =
    elim (cases_Bool (ltb d 10)) [
      | inl low ↦
          let small : d < 10 = ltb-true d 10 low in
          let is : 48 + d ≡ c = ap (λ (b : Bool). cond b (48 + d) (87 + d)) (sym low) ∙ same in
          elim out [ inl below ↦ absurd (omega arith) | inr between ↦ absurd (omega arith) ]
      | inr high ↦
          let large : 10 ≤ d = ltb-false d 10 high in
          let is : 87 + d ≡ c = ap (λ (b : Bool). cond b (48 + d) (87 + d)) (sym high) ∙ same in
          elim out [ inl below ↦ absurd (omega arith) | inr between ↦ absurd (omega arith) ]
    ]

pub decimal_clean : (n : ℕ) → IsClean (decimal n)
unfolding digits
decimal_clean n = digits_pass goes_on (λ d. ap not (ne_eqb (digit_glyph false d) 10 (glyph_not 10 d (inl (omega arith))))) 64 n [] refl

-- a byte that isn't the bracket of a header
abbrev pub is_plain : ℕ → Bool
is_plain b = not (eqb b 91)

pub decimal_plain : (n : ℕ) → list_all is_plain (decimal n) ≡ true
unfolding digits
decimal_plain n = digits_pass is_plain (λ d. ap not (ne_eqb (digit_glyph false d) 91 (glyph_not 91 d (inr (omega arith, omega arith))))) 64 n [] refl

-- lines that go on to their ends
abbrev pub AreClean : List (List ℕ) → Type 0
AreClean [] = Unit {0}
AreClean (l ∷ ls) = IsClean l × AreClean ls

pub are_clean_append : (ls ms : List (List ℕ)) → AreClean ls → AreClean ms → AreClean (ls ++ ms)
are_clean_append [] ms first second = second
are_clean_append (l ∷ ls) ms first second = (first.0, are_clean_append ls ms first.1 second)

pub are_clean_map : {X : Type 0} (f : X → List ℕ) → ((x : X) → IsClean (f x)) → (xs : List X) → AreClean (map f xs)
are_clean_map f clean [] = tt
are_clean_map f clean (x ∷ xs) = (clean x, are_clean_map f clean xs)

line_clean : (w rest : List ℕ) → IsClean w → lines (w ++ 10 ∷ rest) ≡ w ∷ lines rest
line_clean [] rest clean = refl
line_clean (b ∷ w) rest clean =
    let parts = and_parts (goes_on b) (list_all goes_on w) clean in
    let other : eqb b 10 ≡ false = not-true (eqb b 10) parts.0 in
    rw (other, line_clean w rest parts.1) refl

-- they are the lines of what they make up
pub lines_clean : (ls : List (List ℕ)) → AreClean ls → lines (flat_map ended ls) ≡ ls
lines_clean [] clean = refl
lines_clean (l ∷ ls) clean = ap lines (append_assoc l (10 ∷ []) (flat_map ended ls)) ∙ line_clean l (flat_map ended ls) clean.0 ∙ ap (λ (ms : List (List ℕ)). l ∷ ms) (lines_clean ls clean.1)

pub ended_map : {X : Type 0} (f g : X → List ℕ) → ((x : X) → f x ≡ ended (g x)) → (xs : List X) → flat_map f xs ≡ flat_map ended (map g xs)
ended_map f g same [] = refl
ended_map f g same (x ∷ xs) = λ k. same x k ++ ended_map f g same xs k
