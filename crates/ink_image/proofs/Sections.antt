-- Words that are read one after the other.
use Rattle.ink_image.proofs.Common.{◌≡◌, ℕ, ◌+◌, ◌<◌, ◌≤◌, Bool, true, false, not, cond, List, [], ◌∷◌, ◌++◌, length, drop, get_or, Option, Some, None, Result, Ok, Err, refl, sym, ap, ◌∙◌, append_assoc, add-one, length-drop, arith, append-nil, flat_map, nil_from_length, Word, Line, words_of, is_header, said, section_lines, line_entries, section_entries, onto, with_said, Reads, ReadsOn}
use Rattle.ink_image.specs.Reading.{read}
use Rattle.std.proofs.Math.Seq.{drop-cons}
use Rattle.std.proofs.lemmas.List.Sums.{take_while-cons}
use Rattle.ink_base.specs.declared.token.Token.{Token}
use Rattle.ink_base.specs.Tokens.{Entry, entries, word_of}
use Rattle.ink_image.specs.declared.reading.WordsAnswer.{WordsAnswer}
use Rattle.ink_image.specs.declared.reading.WordsAnswer.TheVariants as answers

pub read_nil : read [] ≡ Ok []
unfolding read
read_nil = refl

-- the first word and those behind it
pub read_cons : (e : Entry) (es : List Entry) → read (e ∷ es) ≡ with_said e.0 (said e.1) (read es)
unfolding read
read_cons e es = refl

pub onto_onto : (a b : List ℕ) (r : Result (List ℕ) ℕ) → onto a (onto b r) ≡ onto (a ++ b) r
onto_onto a b (Ok c) = ap (λ (x : List ℕ). Ok x) (sym (append_assoc a b c))
onto_onto a b (Err line) = refl

-- what fails behind some numbers fails
pub onto_fails : (a : List ℕ) (r : Result (List ℕ) ℕ) (line : ℕ) → onto a r ≡ Err line → r ≡ Err line
onto_fails a (Ok c) line h = absurd (cc)
onto_fails a (Err other) line h = h

pub section_header : (l : Line) (ls : List Line) → is_header l.words ≡ true → section_entries (l ∷ ls) ≡ []
section_header l ls h =
    ap (flat_map entries) (take_while-cons (λ (k : Line). not (is_header k.words)) l ls ∙ ap (λ (b : Bool). cond (not b) (l ∷ section_lines ls) []) h)

pub section_line : (l : Line) (ls : List Line) → is_header l.words ≡ false → section_entries (l ∷ ls) ≡ entries l ++ section_entries ls
section_line l ls h =
    ap (flat_map entries) (take_while-cons (λ (k : Line). not (is_header k.words)) l ls ∙ ap (λ (b : Bool). cond (not b) (l ∷ section_lines ls) []) h)

onto_nil : (r : Result (List ℕ) ℕ) → onto [] r ≡ r
onto_nil (Ok a) = refl
onto_nil (Err line) = refl

-- what a part says, and then the words behind it
then_read : Result (List ℕ) ℕ → List Entry → Result (List ℕ) ℕ
then_read (Ok a) fs = onto a (read fs)
then_read (Err line) fs = Err line

said_then : (line : ℕ) (s : Option ℕ) (r : Result (List ℕ) ℕ) (fs : List Entry) → with_said line s (then_read r fs) ≡ then_read (with_said line s r) fs
unfolding then_read
said_then line None r fs = refl
said_then line (Some n) (Ok a) fs = onto_onto (n ∷ []) a (read fs)
said_then line (Some n) (Err other) fs = refl

two_parts : (es fs : List Entry) → read (es ++ fs) ≡ then_read (read es) fs
unfolding read then_read
two_parts [] fs = sym (onto_nil (read fs))
two_parts (e ∷ es) fs = ap (with_said e.0 (said e.1)) (two_parts es fs) ∙ said_then e.0 (said e.1) (read es) fs

pub read_append : (es fs : List Entry) (a : List ℕ) → read es ≡ Ok a → read (es ++ fs) ≡ onto a (read fs)
unfolding then_read
read_append es fs a h = two_parts es fs ∙ ap (λ r. then_read r fs) h

onto_then : (old new : List ℕ) (r : Result (List ℕ) ℕ) (fs : List Entry) → onto old r ≡ Ok new → onto old (then_read r fs) ≡ onto new (read fs)
unfolding then_read
onto_then old new (Ok a) fs h = let same : old ++ a ≡ new = cc in onto_onto old a (read fs) ∙ ap (λ xs. onto xs (read fs)) same
onto_then old new (Err line) fs h = absurd (cc)

-- a section ends at a header, and where nothing is left
onto_none : (words : List ℕ) → onto words (read []) ≡ Ok words
onto_none words = ap (onto words) read_nil ∙ ap (λ (x : List ℕ). Ok x) (append-nil words)

pub section_ends : (words : List ℕ) (l : Line) (ls : List Line) → is_header l.words ≡ true → onto words (read (section_entries (l ∷ ls))) ≡ Ok words
section_ends words l ls h = ap (λ (es : List Entry). onto words (read es)) (section_header l ls h) ∙ onto_none words

pub section_over : (words : List ℕ) → onto words (read (section_entries [])) ≡ Ok words
section_over words = onto_none words

-- a line that was read, and one that fails
pub line_goes_on : (old new : List ℕ) (l : Line) (ls : List Line) → is_header l.words ≡ false → onto old (read (entries l)) ≡ Ok new →
    onto new (read (section_entries ls)) ≡ onto old (read (section_entries (l ∷ ls)))
line_goes_on old new l ls h here =
    sym (ap (λ (es : List Entry). onto old (read es)) (section_line l ls h) ∙ ap (onto old) (two_parts (entries l) (section_entries ls))
    ∙ onto_then old new (read (entries l)) (section_entries ls) here)

pub line_fails : (words : List ℕ) (l : Line) (ls : List Line) (line : ℕ) → is_header l.words ≡ false → read (entries l) ≡ Err line →
    onto words (read (section_entries (l ∷ ls))) ≡ Err line
unfolding then_read
line_fails words l ls line h here =
    ap (λ (es : List Entry). onto words (read es)) (section_line l ls h) ∙ ap (onto words) (two_parts (entries l) (section_entries ls) ∙ ap (λ r. then_read r (section_entries ls)) here)

pub answer_fails : {X : Type 0} (view : X → List ℕ) (old new : List ℕ) (e : WordsAnswer) (part all : Result (List ℕ) ℕ) → ReadsOn old new (Err e) part →
    ((line : ℕ) → part ≡ Err line → all ≡ Err line) → Reads view (Err e) all
answer_fails view old new (answers.BadWord line) part all h fails = fails line h
answer_fails view old new answers.NoMemory part all h fails = tt

-- the words of a line from one of its tokens on
line_cons : (text : List ℕ) (line i : ℕ) (tokens : List Token) (d : Token) → i < length tokens →
    line_entries line (words_of text (drop i tokens)) ≡ (line, word_of text (get_or tokens i d)) ∷ line_entries line (words_of text (drop (i + 1) tokens))
line_cons text line i tokens d lt = rw (add-one, drop-cons tokens i d lt) refl

reads_cons : (text : List ℕ) (line i : ℕ) (tokens : List Token) (d : Token) (w : Word) → i < length tokens → w ≡ word_of text (get_or tokens i d) →
    read (line_entries line (words_of text (drop i tokens))) ≡ with_said line (said w) (read (line_entries line (words_of text (drop (i + 1) tokens))))
reads_cons text line i tokens d w lt is =
    ap read (line_cons text line i tokens d lt)
    ∙ read_cons (line, word_of text (get_or tokens i d)) (line_entries line (words_of text (drop (i + 1) tokens)))
    ∙ ap (λ (v : Word). with_said line (said v) (read (line_entries line (words_of text (drop (i + 1) tokens))))) (sym is)

pub word_read : (text : List ℕ) (line i n : ℕ) (tokens : List Token) (d : Token) (w : Word) (old new : List ℕ) → i < length tokens →
    w ≡ word_of text (get_or tokens i d) → said w ≡ Some n → new ≡ old ++ n ∷ [] →
    onto new (read (line_entries line (words_of text (drop (i + 1) tokens)))) ≡ onto old (read (line_entries line (words_of text (drop i tokens))))
word_read text line i n tokens d w old new lt is says put =
    let rest : Result (List ℕ) ℕ = read (line_entries line (words_of text (drop (i + 1) tokens))) in
    ap (λ (x : List ℕ). onto x rest) put ∙ sym (onto_onto old (n ∷ []) rest)
    ∙ sym (ap (onto old) (reads_cons text line i tokens d w lt is ∙ ap (λ s. with_said line s rest) says))

pub word_fails : (text : List ℕ) (line i : ℕ) (tokens : List Token) (d : Token) (w : Word) (old : List ℕ) → i < length tokens →
    w ≡ word_of text (get_or tokens i d) → said w ≡ None → onto old (read (line_entries line (words_of text (drop i tokens)))) ≡ Err line
word_fails text line i tokens d w old lt is says =
    let rest : Result (List ℕ) ℕ = read (line_entries line (words_of text (drop (i + 1) tokens))) in
    ap (onto old) (reads_cons text line i tokens d w lt is ∙ ap (λ s. with_said line s rest) says)

pub line_over : (text : List ℕ) (line i : ℕ) (tokens : List Token) (words : List ℕ) → length tokens ≤ i →
    onto words (read (line_entries line (words_of text (drop i tokens)))) ≡ Ok words
line_over text line i tokens words le =
    let none : drop i tokens ≡ [] = nil_from_length (drop i tokens) (omega (arith, length-drop i tokens)) in
    ap (λ (ts : List Token). onto words (read (line_entries line (words_of text ts)))) none ∙ onto_none words
