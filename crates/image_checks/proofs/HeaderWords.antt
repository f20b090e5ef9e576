-- The check of blocks at one word, from what is asked of the header's word that it is, or of a word behind the header.
use Rattle.std.proofs.Common.{◌≡◌, ℕ, zero, suc, ◌+◌, ◌<◌, ◌≤◌, List, [], ◌∷◌, refl, sym, ◌∙◌, ap, subst, arith, inl, inr}
use Rattle.std.specs.Prelude.{slice_index_or}
use Rattle.std.proofs.lemmas.Bool.{cases_lt}
use Rattle.task_isa.specs.declared.program.Program.{Program}
use Rattle.fram_words.specs.Places.{Memory}
use Rattle.fram_words.specs.Header.{IsHeader, word_of, due, words}
use Rattle.fram_words.specs.declared.header.Header.{Header}
use Rattle.fram_words.specs.declared.header.Header.TheVariants.{Stamp, Next, First, Origin, Value, Finished, Served, Trapped, Expired, Outputs, Written, Taken, Due, Period}
use Rattle.prog_check.specs.Lookup.{thread_def}
use Rattle.never_cut.specs.Image.{IsBlockWord}
use Rattle.image_checks.specs.kept.Headers.{IsRightBehind, IsRightHeader}

-- the header's words in order
abbrev table : List Header
table =
    Stamp ∷ Next ∷ First ∷ Origin ∷ Value ∷ Finished ∷ Served ∷ Trapped ∷ Expired ∷ Outputs ∷ Written 0 ∷ Written 1 ∷ Written 2 ∷ Written 3 ∷ Written 4
    ∷ Written 5 ∷ Written 6 ∷ Written 7 ∷ Taken 0 ∷ Taken 1 ∷ Taken 2 ∷ Taken 3 ∷ Taken 4 ∷ Taken 5 ∷ Taken 6 ∷ Taken 7 ∷ Due 0 ∷ Period 0 ∷ Due 1
    ∷ Period 1 ∷ Due 2 ∷ Period 2 ∷ Due 3 ∷ Period 3 ∷ Due 4 ∷ Period 4 ∷ Due 5 ∷ Period 5 ∷ Due 6 ∷ Period 6 ∷ Due 7 ∷ Period 7 ∷ []

-- the one at a number
abbrev named : ℕ → Header
named w = slice_index_or table w Stamp

-- eight cases
below_eight : (P : ℕ → Type 0) → P 0 → P 1 → P 2 → P 3 → P 4 → P 5 → P 6 → P 7 → (n : ℕ) → n < 8 → P n
below_eight P a b c d e f g h zero k = a
below_eight P a b c d e f g h (suc zero) k = b
below_eight P a b c d e f g h (suc (suc zero)) k = c
below_eight P a b c d e f g h (suc (suc (suc zero))) k = d
below_eight P a b c d e f g h (suc (suc (suc (suc zero)))) k = e
below_eight P a b c d e f g h (suc (suc (suc (suc (suc zero))))) k = f
below_eight P a b c d e f g h (suc (suc (suc (suc (suc (suc zero)))))) k = g
below_eight P a b c d e f g h (suc (suc (suc (suc (suc (suc (suc zero))))))) k = h
below_eight P a b c d e f g h (suc (suc (suc (suc (suc (suc (suc (suc n)))))))) k = absurd (omega arith)

-- a header word is the one at its number
named-word_of : (x : Header) → IsHeader x → named (word_of x) ≡ x
named-word_of Stamp k = refl
named-word_of Next k = refl
named-word_of First k = refl
named-word_of Origin k = refl
named-word_of Value k = refl
named-word_of Finished k = refl
named-word_of Served k = refl
named-word_of Trapped k = refl
named-word_of Expired k = refl
named-word_of Outputs k = refl
named-word_of (Written q) k = below_eight (λ n. named (word_of (Written n)) ≡ Written n) refl refl refl refl refl refl refl refl q k
named-word_of (Taken q) k = below_eight (λ n. named (word_of (Taken n)) ≡ Taken n) refl refl refl refl refl refl refl refl q k
named-word_of (Due j) k = below_eight (λ n. named (word_of (Due n)) ≡ Due n) refl refl refl refl refl refl refl refl j k
named-word_of (Period j) k = below_eight (λ n. named (word_of (Period n)) ≡ Period n) refl refl refl refl refl refl refl refl j k

-- so two with one number are one
same_word : (x y : Header) → IsHeader x → IsHeader y → word_of x ≡ word_of y → x ≡ y
same_word x y a b e = sym (named-word_of x a) ∙ (ap named e ∙ named-word_of y b)

-- and none stands behind the last timer
header_below : (x : Header) → IsHeader x → word_of x < due 8
header_below Stamp k = omega arith
header_below Next k = omega arith
header_below First k = omega arith
header_below Origin k = omega arith
header_below Value k = omega arith
header_below Finished k = omega arith
header_below Served k = omega arith
header_below Trapped k = omega arith
header_below Expired k = omega arith
header_below Outputs k = omega arith
header_below (Written q) k = omega arith
header_below (Taken q) k = omega arith
header_below (Due j) k = omega arith
header_below (Period j) k = omega arith

module _ (program : Program) (memory : Memory) (t : ℕ) where
  -- a word of which each header word that has its number is right
  from_headers : (w : ℕ) → w < due 8 → ((x : Header) → IsHeader x → w ≡ word_of x → IsRightHeader program memory t x) → IsBlockWord program memory t w
  from_headers w below right = record {
    next = λ e. right Next tt e;
    first = λ e. right First tt e;
    origin = λ e. right Origin tt e;
    value = λ e. right Value tt e;
    outputs = λ e. right Outputs tt e;
    written = λ q k e. right (Written q) k e;
    taken = λ q k e. right (Taken q) k e;
    due = λ j k e. (right (Due j) k e).0;
    period = λ j k e. (right (Period j) k e).0;
    foreign_due = λ j k e. (right (Due j) k e).1;
    foreign_period = λ j k e. (right (Period j) k e).1;
    unused = λ a b. absurd (omega arith);
    state = λ a. absurd (omega arith);
    rest = λ a. absurd (omega arith);
  }

  -- a header word that is right is a right word of the block
  pub from_header : (x : Header) → IsHeader x → IsRightHeader program memory t x → IsBlockWord program memory t (word_of x)
  from_header x k right =
      from_headers (word_of x) (header_below x k) (λ y l e. subst (λ z. IsRightHeader program memory t z) (same_word x y k l e) right)

  -- and the other way round
  pub to_header : (x : Header) → IsHeader x → IsBlockWord program memory t (word_of x) → IsRightHeader program memory t x
  to_header Stamp k b = tt
  to_header Next k b = b.next refl
  to_header First k b = b.first refl
  to_header Origin k b = b.origin refl
  to_header Value k b = b.value refl
  to_header Finished k b = tt
  to_header Served k b = tt
  to_header Trapped k b = tt
  to_header Expired k b = tt
  to_header Outputs k b = b.outputs refl
  to_header (Written q) k b = b.written q k refl
  to_header (Taken q) k b = b.taken q k refl
  to_header (Due j) k b = (b.due j k refl, b.foreign_due j k refl)
  to_header (Period j) k b = (b.period j k refl, b.foreign_period j k refl)

  -- a word behind the header's timers, of which that is known, is right
  pub from_behind : (w : ℕ) → due 8 ≤ w → IsRightBehind program memory t w → IsBlockWord program memory t w
  from_behind w least behind = record {
    next = λ e. absurd (omega arith);
    first = λ e. absurd (omega arith);
    origin = λ e. absurd (omega arith);
    value = λ e. absurd (omega arith);
    outputs = λ e. absurd (omega arith);
    written = λ q k e. absurd (omega arith);
    taken = λ q k e. absurd (omega arith);
    due = λ j k e. absurd (omega arith);
    period = λ j k e. absurd (omega arith);
    foreign_due = λ j k e. absurd (omega arith);
    foreign_period = λ j k e. absurd (omega arith);
    unused = λ a b. omega (arith, behind);
    state = λ a. omega (arith, behind);
    rest = λ a. omega (arith, behind);
  }

  -- and the other way round
  pub to_behind : (w : ℕ) → due 8 ≤ w → IsBlockWord program memory t w → IsRightBehind program memory t w
  to_behind w least b =
      elim (cases_lt w words) [
        | inl before ↦ inl (b.unused least before)
        | inr behind ↦ elim (cases_lt w (words + (thread_def program t).state)) [
          | inl within ↦ inr (behind, within, b.state behind)
          | inr past ↦ inl (b.rest past)
        ]
      ]
