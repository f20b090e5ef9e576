-- What a walk over a text still has to give, and how one byte changes it.
use Rattle.ink_base.proofs.Common.{◌≡◌, ℕ, ◌+◌, Bool, true, false, cond, eqb, List, [], ◌∷◌, ◌++◌, map, refl, ap, ◌∙◌, append_assoc, Option, Some, None, append-nil, flat_map, AllByRecursion, or_parts, map-append, Word, onto_first, lines, before_comment, is_blank, words, numbered, Entry, entries, ends_word}

-- the rest of the line, and what comes after it
abbrev pub first_line : List ℕ → List ℕ
first_line [] = []
first_line (b ∷ bytes) = cond (eqb b 10) [] (b ∷ first_line bytes)

abbrev pub after_line : List ℕ → List ℕ
after_line [] = []
after_line (b ∷ bytes) = cond (eqb b 10) bytes (after_line bytes)

abbrev pub numbers : ℕ → List Word → List Entry
numbers n ws = map (λ (w : Word). (n, w)) ws

abbrev pub from_line : ℕ → List ℕ → List Entry
from_line n bytes = flat_map entries (numbered n (lines bytes))

-- what is left to give: nothing of this line in a comment, else the words that begin with the piece that is held
abbrev pub left : Option (List ℕ) → ℕ → List ℕ → List Entry
left None n bytes = from_line (n + 1) (after_line bytes)
left (Some held) n bytes = numbers n (words (held ++ before_comment (first_line bytes))) ++ from_line (n + 1) (after_line bytes)

-- a piece, if it isn't empty
abbrev pub piece : List ℕ → List Word
piece [] = []
piece (b ∷ held) = (b ∷ held) ∷ []

abbrev pub IsPlain : List ℕ → Type 0
IsPlain held = AllByRecursion (λ b. ends_word b ≡ false) held

blank_false : (b : ℕ) → ends_word b ≡ false → is_blank b ≡ false
blank_false b h = (or_parts _ _ h).1

onto_step : (t : Bool) (b c : ℕ) (bytes : List ℕ) → onto_first c (lines bytes) ≡ (c ∷ first_line bytes) ∷ lines (after_line bytes)
    → onto_first b (cond t ([] ∷ lines bytes) (onto_first c (lines bytes))) ≡ (b ∷ cond t [] (c ∷ first_line bytes)) ∷ lines (cond t bytes (after_line bytes))
onto_step true b c bytes h = refl
onto_step false b c bytes h = ap (onto_first b) h

onto_lines : (b : ℕ) (bytes : List ℕ) → onto_first b (lines bytes) ≡ (b ∷ first_line bytes) ∷ lines (after_line bytes)
onto_lines b [] = refl
onto_lines b (c ∷ bytes) = onto_step (eqb c 10) b c bytes (onto_lines c bytes)

whole_step : (t : Bool) (n b : ℕ) (bytes : List ℕ) → flat_map entries (numbered n (cond t ([] ∷ lines bytes) (onto_first b (lines bytes))))
    ≡ numbers n (words (before_comment (cond t [] (b ∷ first_line bytes)))) ++ from_line (n + 1) (cond t bytes (after_line bytes))
whole_step true n b bytes = refl
whole_step false n b bytes = ap (λ (ls : List (List ℕ)). flat_map entries (numbered n ls)) (onto_lines b bytes)

-- a line is left whole where none of it is read
pub whole : (n : ℕ) (bytes : List ℕ) → from_line n bytes ≡ left (Some []) n bytes
whole n [] = refl
whole n (b ∷ bytes) = whole_step (eqb b 10) n b bytes

words_next : (b c : ℕ) (bytes : List ℕ) → is_blank b ≡ false → is_blank c ≡ false → words (b ∷ c ∷ bytes) ≡ onto_first b (words (c ∷ bytes))
words_next b c bytes e d = rw (e, d) refl

pub words_end : (held : List ℕ) → IsPlain held → words held ≡ piece held
words_end [] h = refl
words_end (b ∷ []) h = rw (blank_false b h.0) refl
words_end (b ∷ c ∷ held) h = words_next b c held (blank_false b h.0) (blank_false c h.1.0) ∙ ap (onto_first b) (words_end (c ∷ held) h.1)

pub words_blank : (held : List ℕ) (b : ℕ) (rest : List ℕ) → IsPlain held → is_blank b ≡ true → words (held ++ b ∷ rest) ≡ piece held ++ words rest
words_blank [] b rest h e = rw e refl
words_blank (c ∷ []) b rest h e = rw (blank_false c h.0, e) refl
words_blank (c ∷ d ∷ held) b rest h e = words_next c d (held ++ b ∷ rest) (blank_false c h.0) (blank_false d h.1.0) ∙ ap (onto_first c) (words_blank (d ∷ held) b rest h.1 e)

-- what one byte does
pub line_ends : (held : List ℕ) (n b : ℕ) (bytes : List ℕ) → IsPlain held → eqb b 10 ≡ true → left (Some held) n (b ∷ bytes) ≡ numbers n (piece held) ++ left (Some []) (n + 1) bytes
line_ends held n b bytes h e = rw (e, append-nil held, words_end held h, whole (n + 1) bytes) refl

pub comment_ends : (n b : ℕ) (bytes : List ℕ) → eqb b 10 ≡ true → left None n (b ∷ bytes) ≡ left (Some []) (n + 1) bytes
comment_ends n b bytes e = rw (e, whole (n + 1) bytes) refl

pub comment_goes_on : (n b : ℕ) (bytes : List ℕ) → eqb b 10 ≡ false → left None n (b ∷ bytes) ≡ left None n bytes
comment_goes_on n b bytes e = rw e refl

pub comment_begins : (held : List ℕ) (n b : ℕ) (bytes : List ℕ) → IsPlain held → eqb b 10 ≡ false → eqb b 35 ≡ true → left (Some held) n (b ∷ bytes) ≡ numbers n (piece held) ++ left None n bytes
comment_begins held n b bytes h e d = rw (e, d, append-nil held, words_end held h) refl

pub blank_comes : (held : List ℕ) (n b : ℕ) (bytes : List ℕ) → IsPlain held → eqb b 10 ≡ false → eqb b 35 ≡ false → is_blank b ≡ true → left (Some held) n (b ∷ bytes) ≡ numbers n (piece held) ++ left (Some []) n bytes
blank_comes held n b bytes h e d t = rw (e, d, words_blank held b (before_comment (first_line bytes)) h t, map-append, append_assoc) refl

pub word_goes_on : (held : List ℕ) (n b : ℕ) (bytes : List ℕ) → eqb b 10 ≡ false → eqb b 35 ≡ false → left (Some held) n (b ∷ bytes) ≡ left (Some (held ++ b ∷ [])) n bytes
word_goes_on held n b bytes e d = rw (e, d, append_assoc held (b ∷ []) (before_comment (first_line bytes))) refl

pub text_ends : (held : List ℕ) (n : ℕ) → IsPlain held → left (Some held) n [] ≡ numbers n (piece held)
text_ends held n h = rw (append-nil held, words_end held h, append-nil (numbers n (piece held))) refl
