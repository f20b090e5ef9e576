-- The headers among lines, and the parts between them.
use Rattle.std.proofs.Common.{◌≡◌, ℕ, suc, ◌+◌, ◌<◌, ◌≤◌, nat_lt, codes, List, [], ◌∷◌, ◌++◌, length, refl, sym, ap, ◌∙◌, subst, inl, inr, arith, Result, Ok, Err}
use Rattle.std.specs.List.{All}
use Rattle.std.proofs.lemmas.Bool.{cases_Bool, ltb-true}
use Rattle.std.proofs.lemmas.List.Elements.{All-nil, All-cons}
use Rattle.ink_base.specs.Lines.{Line, lines, lines_of, numbered, words, before_comment}
use Rattle.ink_base.specs.TokenLines.{with_words, has_words, token_lines}
use Rattle.ink_base.specs.Tokens.{AreTokens, bytes_in}
use Rattle.ink_base.specs.Gives.{◌>>◌, at_line, Answers}
use Rattle.ink_base.specs.declared.fault.JobFault.{JobFault}
use Rattle.ink_base.specs.declared.fault.JobAnswer.{JobAnswer}
use Rattle.ink_base.specs.declared.token.Token.{Token}
use Rattle.ink_base.proofs.Failing.{Answers-step}
use Rattle.ink_base.proofs.Whole.{whole_lines}
use Rattle.ink_text.specs.Section.{next_header}
use Rattle.ink_station.specs.declared.limits.TheConstants as limits
use Rattle.ink_station.specs.declared.parts.Part.{Part}
use Rattle.ink_station.specs.Parts.{begins_board, header_in, headers_in, headers_of, parts_between, parts_of}
use Rattle.ink_station.specs.kept.Within.{IsWithin}

-- the headers that were found, and those that the lines have
abbrev pub with_found : List ℕ → List Line → Result (List ℕ) JobFault
with_found found ls = headers_in (length found) ls >> (λ more. Ok (found ++ more))

-- from low on and below high, each above the one before it
abbrev pub Rising : ℕ → ℕ → List ℕ → Type 0
Rising low high [] = Unit {0}
Rising low high (h ∷ hs) = (low ≤ h) × (h < high) × Rising (h + 1) high hs

-- what a header and those behind it come to, where they have no fault
record Taken (alone : Result (Unit {0}) JobFault) (behind : Result (List ℕ) JobFault) (h : ℕ) (hs : List ℕ) : Type 0 where
  more : List ℕ
  stands : alone ≡ Ok tt
  behind_is : behind ≡ Ok more
  all : h ∷ more ≡ hs

taken : (alone : Result (Unit {0}) JobFault) (behind : Result (List ℕ) JobFault) (h : ℕ) (hs : List ℕ) → (alone >> (λ a. behind >> (λ more. Ok (h ∷ more)))) ≡ Ok hs → Taken alone behind h hs
taken (Ok u) (Ok more) h hs is = record { more = more; stands = refl; behind_is = refl; all = let same : Ok (h ∷ more) ≡ Ok hs = is in cc }
taken (Ok u) (Err e) h hs is = absurd (let clash : Err e ≡ Ok hs = is in cc)
taken (Err e) behind h hs is = absurd (let clash : Err e ≡ Ok hs = is in cc)

nothing : (r : Result (List ℕ) JobFault) (hs : List ℕ) → r ≡ Ok [] → r ≡ Ok hs → hs ≡ []
nothing r hs none is = cc

lower : (low least high : ℕ) (hs : List ℕ) → least ≤ low → Rising low high hs → Rising least high hs
lower low least high [] le r = tt
lower low least high (h ∷ hs) le r = (omega (arith, le, r.0), r.1, r.2)

-- one header below others
on_top : (n high : ℕ) (more hs : List ℕ) → n ∷ more ≡ hs → n < high → Rising (n + 1) high more → Rising n high hs
on_top n high more hs all lt r = subst (Rising n high) all (omega arith, lt, r)

-- the headers of numbered lines
pub headers_rise : (before n : ℕ) (ls : List (List ℕ)) (high : ℕ) (hs : List ℕ) → high ≡ n + length ls → headers_in before (with_words (numbered n ls)) ≡ Ok hs → Rising n high hs
headers_rise before n [] high hs all is = subst (Rising n high) (sym (nothing (headers_in before []) hs refl is)) tt
headers_rise before n (l ∷ ls) high hs all is = elim (cases_Bool (has_words (words (before_comment l)))) [
  | inr none ↦ lower (n + 1) n high hs (omega arith) (headers_rise before (n + 1) ls high hs (omega (arith, all)) (rw none at is))
  | inl some ↦ elim (cases_Bool (begins_board (words (before_comment l)))) [
    | inr other ↦ lower (n + 1) n high hs (omega arith) (headers_rise before (n + 1) ls high hs (omega (arith, all)) (rw (some, other) at is))
    | inl header ↦
        let t = taken (at_line n (header_in before (words (before_comment l)))) (headers_in (before + 1) (with_words (numbered (n + 1) ls))) n hs (rw (some, header) at is) in
        on_top n high t.more hs t.all (omega (arith, all)) (headers_rise (before + 1) (n + 1) ls high t.more (omega (arith, all)) t.behind_is)
  ]
]

-- a header that stands has room
has_room : (before n : ℕ) (line : Line) → at_line n (header_in before line.words) ≡ Ok tt → before < limits.BOARDS
has_room before n line is = elim (cases_Bool (nat_lt before limits.BOARDS)) [
  | inl room ↦ ltb-true before limits.BOARDS room
  | inr full ↦ absurd (let clash = rw full at is in cc)
]

-- there are no more than a station may have
pub headers_few : (before : ℕ) (ls : List Line) (hs : List ℕ) → before ≤ limits.BOARDS → headers_in before ls ≡ Ok hs → before + length hs ≤ limits.BOARDS
headers_few before [] hs le is = omega (arith, le, ap length (nothing (headers_in before []) hs refl is))
headers_few before (line ∷ rest) hs le is = elim (cases_Bool (begins_board line.words)) [
  | inr other ↦ headers_few before rest hs le (rw other at is)
  | inl header ↦
      let t = taken (at_line line.number (header_in before line.words)) (headers_in (before + 1) rest) line.number hs (rw header at is) in
      let room = has_room before line.number line t.stands in
      omega (arith, headers_few (before + 1) rest t.more (omega (arith, room)) t.behind_is, ap length t.all)
]

pub as_many : (end : ℕ) (hs : List ℕ) → length (parts_between end hs) ≡ length hs
as_many end [] = refl
as_many end (h ∷ []) = refl
as_many end (h ∷ next ∷ rest) = ap suc (as_many end (next ∷ rest))

pub all_within : (text : List ℕ) (low count : ℕ) (hs : List ℕ) → count ≡ length (lines text) → Rising low (count + 1) hs → All (IsWithin text) (parts_between (count + 1) hs)
all_within text low count [] are r = All-nil (IsWithin text)
all_within text low count (h ∷ []) are r =
    All-cons (IsWithin text) (record { header = h; stop = count + 1 }) [] (record { above = r.1; last = omega (arith, are) }) (All-nil (IsWithin text))
all_within text low count (h ∷ next ∷ rest) are r =
    All-cons (IsWithin text) (record { header = h; stop = next }) (parts_between (count + 1) (next ∷ rest)) (record { above = omega (arith, r.2.0); last = omega (arith, are, r.2.1) })
    (all_within text (h + 1) count (next ∷ rest) are r.2)

-- what was found behind a first header that stands
found : (first : Result (Unit {0}) JobFault) (all : Result (List ℕ) JobFault) (hs : List ℕ) → (first >> (λ f. all)) ≡ Ok hs → all ≡ Ok hs
found (Ok f) all hs is = is
found (Err e) all hs is = absurd (let clash : Err e ≡ Ok hs = is in cc)

-- by the tokens of a text
module _ (text : List ℕ) (tokens all : List Token) (count : ℕ) (are : AreTokens text tokens count) (same : all ≡ tokens) where
  same_headers : headers_of count (token_lines text all) ≡ headers_of (length (lines text)) (with_words (lines_of text))
  same_headers =
      ap (λ (ts : List Token). headers_of count (token_lines text ts)) same
      ∙ ap (λ n. headers_of n (token_lines text tokens)) are.lines
      ∙ ap (headers_of (length (lines text))) (whole_lines text tokens count are)

  abbrev behind : Result (List ℕ) JobFault → Result (List Part) JobFault
  behind r = r >> (λ headers. Ok (parts_between (length (lines text) + 1) headers))

  good_bytes : bytes_in text ≡ Ok tt → parts_of text ≡ behind (headers_of count (token_lines text all))
  good_bytes good = ap (λ r. r >> (λ g. behind (headers_of (length (lines text)) (with_words (lines_of text))))) good ∙ ap behind (sym same_headers)

  pub parts_rise : (hs : List ℕ) → headers_of count (token_lines text all) ≡ Ok hs → Rising 1 (count + 1) hs
  parts_rise hs is =
      headers_rise 0 1 (lines text) (count + 1) hs (omega (arith, are.lines)) (found (next_header (length (lines text)) (codes "[board]") (with_words (lines_of text))) (headers_in 0 (with_words (lines_of text))) hs (sym same_headers ∙ is))

  pub parts_few : (hs : List ℕ) → headers_of count (token_lines text all) ≡ Ok hs → length hs ≤ limits.BOARDS
  parts_few hs is =
      let few = headers_few 0 (with_words (lines_of text)) hs (omega arith) (found (next_header (length (lines text)) (codes "[board]") (with_words (lines_of text))) (headers_in 0 (with_words (lines_of text))) hs (sym same_headers ∙ is)) in
      omega (arith, few)

  pub parts_are : (hs : List ℕ) → bytes_in text ≡ Ok tt → headers_of count (token_lines text all) ≡ Ok hs → parts_of text ≡ Ok (parts_between (count + 1) hs)
  parts_are hs good is = good_bytes good ∙ ap behind is ∙ ap (λ n. Ok (parts_between (n + 1) hs)) (sym are.lines)

  pub parts_fail : (e : JobAnswer) → bytes_in text ≡ Ok tt → Answers e (headers_of count (token_lines text all)) → Answers e (parts_of text)
  parts_fail e good fails = Answers-step e (headers_of count (token_lines text all)) (λ headers. Ok (parts_between (length (lines text) + 1) headers)) (parts_of text) fails (sym (good_bytes good))
