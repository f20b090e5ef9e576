-- Names of sources and threads, and ticks, as the words that they are written as.
use Rattle.ink_audit.proofs.Common.{◌≡◌, ◌≢◌, ℕ, ◌+◌, ◌-◌, ◌*◌, ◌<◌, ◌≤◌, ◌^◌, Bool, true, false, cond, List, [], ◌∷◌, ◌++◌, length, Option, Some, None, Result, Ok, Err, decimal, inl, inr, refl, sym, ap, ◌∙◌, arith, eqb, eqb-true, ltb, ltb-true, lt-ltb, leb-true, le-leb, cases_lt, cases_Bool, and_parts, Program, thread_def, no_thread_def, bytes_eq, eq-eqb, subst}
use Rattle.std.specs.Prelude.{MatchResult, ◌/◌, ◌%◌, ◌&&◌, not, nat_le, ◌==◌}
use Rattle.std.specs.Result.{result_ok}
use Rattle.std.specs.Str.{IsUtf8}
use Rattle.std.specs.Str.Parse.{ParsesUnsigned}
use Rattle.std.specs.List.{position, position_or_len}
use Rattle.std.proofs.lemmas.Fmt.{decimal_digit, decimal_step, parse-decimal, IsAscii-decimal}
use Rattle.std.proofs.lemmas.Str.{IsUtf8-from_ascii}
use Rattle.std.proofs.lemmas.List.Quantifiers.{position-Some}
use Rattle.std.proofs.lemmas.List.Sums.{fails_before_first}
use Rattle.std.proofs.lemmas.Slice.Eq.{bytes_eq-Decides}
use Rattle.ink_base.specs.Numbers.{is_digit}
use Rattle.ink_text.specs.Names.{index_of, below, source_of}

-- a number from 10 to 15
teen : (n : ℕ) → 10 ≤ n → n < 16 → decimal n ≡ 49 ∷ (38 + n) ∷ []
teen n low high =
    let tens : n / 10 ≡ 1 = omega arith in
    let ones : 48 + n % 10 ≡ 38 + n = omega arith in
    decimal_step n low (omega arith)
    ∙ (λ k. decimal (tens k) ++ ones k ∷ [])
    ∙ ap (λ (w : List ℕ). w ++ (38 + n) ∷ []) (decimal_digit 1 (omega arith))

-- the number is read back
one_digit : (n : ℕ) → n < 10 → index_of ((48 + n) ∷ []) ≡ Some n
one_digit n lt = rw (le-leb 48 (48 + n) (omega arith), le-leb (48 + n) 57 (omega arith)) (ap Some (omega arith))

two_digits : (n : ℕ) → 10 ≤ n → n < 16 → index_of (49 ∷ (38 + n) ∷ []) ≡ Some n
two_digits n low high = rw (le-leb 48 (38 + n) (omega arith), le-leb (38 + n) 57 (omega arith)) (ap Some (omega arith))

index_again : (n : ℕ) → n < 16 → index_of (decimal n) ≡ Some n
index_again n lt = elim (cases_lt n 10) [
  | inl low ↦ ap index_of (decimal_digit n low) ∙ one_digit n low
  | inr high ↦ ap index_of (teen n high lt) ∙ two_digits n high lt
]

source_again : (count n : ℕ) → count ≤ 16 → n < count → source_of count (83 ∷ decimal n) ≡ Some n
source_again count n few lt = ap (below count) (index_again n (omega arith)) ∙ ap (λ (b : Bool). cond b (Some n) None) (lt-ltb n count lt)

-- what a test of two outcomes tells
only_true : {X : Type 0} (b : Bool) (x y : X) → cond b (Some x) None ≡ Some y → (b ≡ true) × (x ≡ y)
only_true true x y is = (refl, cc)
only_true false x y is = absurd (cc)

below_parts : (count : ℕ) (o : Option ℕ) (n : ℕ) → below count o ≡ Some n → (o ≡ Some n) × (n < count)
below_parts count None n is = absurd (cc)
below_parts count (Some m) n is =
    let parts = only_true (ltb m count) m n is in
    let same : m ≡ n = parts.1 in
    (ap Some same, let lt = ltb-true m count parts.0 in omega arith)

index_written : (digits : List ℕ) (n : ℕ) → n < 16 → index_of digits ≡ Some n → digits ≡ decimal n
index_written [] n few is = absurd (cc)
index_written (d ∷ []) n few is =
    let parts = only_true (is_digit d) (d - 48) n is in
    let digit = and_parts (nat_le 48 d) (nat_le d 57) parts.0 in
    let low : 48 ≤ d = leb-true 48 d digit.0 in
    let high : d ≤ 57 = leb-true d 57 digit.1 in
    let number : d - 48 ≡ n = parts.1 in
    ap (λ (x : ℕ). x ∷ []) (omega arith) ∙ sym (decimal_digit n (omega arith))
index_written (d ∷ e ∷ []) n few is =
    let parts = only_true ((is_digit d && is_digit e) && not (d == 48)) (10 * (d - 48) + (e - 48)) n is in
    let tests = and_parts (is_digit d && is_digit e) (not (d == 48)) parts.0 in
    let digits = and_parts (is_digit d) (is_digit e) tests.0 in
    let first = and_parts (nat_le 48 d) (nat_le d 57) digits.0 in
    let second = and_parts (nat_le 48 e) (nat_le e 57) digits.1 in
    let low : 48 ≤ d = leb-true 48 d first.0 in
    let least : 48 ≤ e = leb-true 48 e second.0 in
    let most : e ≤ 57 = leb-true e 57 second.1 in
    let some : d ≢ 48 = λ same. let e : not (eqb d 48) ≡ true = tests.1 in let f : eqb d 48 ≡ true = eq-eqb d 48 same in absurd (cc) in
    let number : 10 * (d - 48) + (e - 48) ≡ n = parts.1 in
    let one : d ≡ 49 = omega arith in
    let two : e ≡ 38 + n = omega arith in
    (λ k. one k ∷ two k ∷ []) ∙ sym (teen n (omega arith) few)
index_written (d ∷ e ∷ f ∷ rest) n few is = absurd (cc)

pub source_written : (count : ℕ) (word : List ℕ) (n : ℕ) → count ≤ 16 → source_of count word ≡ Some n → (n < count) × (word ≡ 83 ∷ decimal n)
source_written count [] n few is = absurd (cc)
source_written count (b ∷ digits) n few is =
    elim (cases_Bool (eqb b 83)) [
      | inl is_s ↦
          let parts = below_parts count (index_of digits) n (ap (λ (t : Bool). cond t (below count (index_of digits)) None) (sym is_s) ∙ is) in
          let front : b ≡ 83 = eqb-true b 83 is_s in
          let rest : digits ≡ decimal n = index_written digits n (let lt = parts.1 in omega arith) parts.0 in
          (parts.1, λ k. front k ∷ rest k)
      | inr other ↦ absurd (let e : None ≡ Some n = ap (λ (t : Bool). cond t (below count (index_of digits)) None) (sym other) ∙ is in cc)
    ]

pub source_unwritten : (count : ℕ) (word : List ℕ) (n : ℕ) → count ≤ 16 → source_of count word ≡ None → n < count → word ≢ 83 ∷ decimal n
source_unwritten count word n few none lt is = absurd (let e = source_again count n few lt in let f = ap (source_of count) is in cc)

-- threads
abbrev names : Program → List ℕ → Option ℕ
names program word = position (λ t. bytes_eq t.name word) program.threads

pub thread_written : (program : Program) (word : List ℕ) (n : ℕ) → names program word ≡ Some n → word ≡ (thread_def program n).name
thread_written program word n is = sym ((bytes_eq-Decides (thread_def program n).name word).0 (position-Some (λ t. bytes_eq t.name word) program.threads n _ is).1)

pub thread_unwritten : (program : Program) (word : List ℕ) (n : ℕ) → names program word ≡ None → n < length program.threads → word ≢ (thread_def program n).name
thread_unwritten program word n none lt is =
    let first : ℕ = position_or_len (λ t. bytes_eq t.name word) program.threads in
    elim (cases_lt first (length program.threads)) [
      | inl there ↦ absurd (let e : names program word ≡ Some first = ap (λ (b : Bool). cond b (Some first) None) (lt-ltb first (length program.threads) there) in cc)
      | inr past ↦ absurd (let e : bytes_eq (thread_def program n).name word ≡ false = fails_before_first (λ t. bytes_eq t.name word) program.threads n no_thread_def (omega arith) in let f = (bytes_eq-Decides (thread_def program n).name word).1 (sym is) in cc)
    ]

-- ticks
pub no_text : {A E : Type 0} (P : A → Type 0) (Q : Type 0) (R : E → Type 0) (r : Result A E) → MatchResult r P (λ e. (¬ Q) × R e) → result_ok r ≡ None → ¬ Q
no_text P Q R (Ok x) h none = absurd (cc)
no_text P Q R (Err e) h none = h.0

pub some_text : {A E : Type 0} (P : A → Type 0) (Q : E → Type 0) (r : Result A E) (x : A) → MatchResult r P Q → result_ok r ≡ Some x → P x
some_text P Q (Ok y) x h some = let e : y ≡ x = cc in subst P e h
some_text P Q (Err e) x h some = absurd (cc)

pub decimal_text : (n : ℕ) (word : List ℕ) → n < 2 ^ 64 → word ≡ decimal n → IsUtf8 word
decimal_text n word lt is = subst IsUtf8 (sym is) (IsUtf8-from_ascii (decimal n) (IsAscii-decimal n lt))

pub decimal_read : {E : Type 0} (n : ℕ) (word : List ℕ) (r : Result ℕ E) → n < 2 ^ 64 → word ≡ decimal n → ParsesUnsigned 64 10 word r → result_ok r ≡ Some n
decimal_read n word r lt is parsed = ap result_ok (parse-decimal 64 n word r lt lt is parsed)
