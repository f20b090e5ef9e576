-- The text of an image says its words when it is read again.
use Rattle.ink_image.proofs.Common.{◌≡◌, ℕ, zero, suc, ◌+◌, ◌*◌, ◌/◌, ◌%◌, ◌^◌, ◌<◌, eqb, Bool, true, false, List, [], ◌∷◌, ◌++◌, length, map, get_or, Some, Ok, refl, sym, ap, subst, ◌∙◌, append_assoc, length-append, arith, codes, fold, eq-eqb, ne_eqb, append-nil, list_all, flat_map, AllByRecursion, pow-succ', Word, Line, lines_of, is_header, digit_byte, word_text, next_text, image_text, is_digit, digit_value, value, said, line_entries, section_entries, onto, with_said, read, Says}
use Rattle.ink_image.specs.Text.{digits, rows}
use Rattle.std.proofs.lemmas.Bool.{and_from, and_parts}
use Rattle.program_text.proofs.Rendering.{goes_on, is_word, are_words, behind, line_text, text_of, with_numbers, lines_again}
use Rattle.ink_image.specs.Text as text
use Rattle.ink_image.specs.Reading as reading
use Rattle.ink_image.proofs.Sections.{read_nil, read_cons, read_append, section_line}

-- a digit's byte is a digit, and counts what the digit is
digit_again : (d : ℕ) → d < 16 → (is_digit (digit_byte d) ≡ true) × (digit_value (digit_byte d) ≡ d)
digit_again zero lt = (refl, refl)
digit_again (suc zero) lt = (refl, refl)
digit_again (suc (suc zero)) lt = (refl, refl)
digit_again (suc (suc (suc zero))) lt = (refl, refl)
digit_again (suc (suc (suc (suc zero)))) lt = (refl, refl)
digit_again (suc (suc (suc (suc (suc zero))))) lt = (refl, refl)
digit_again (suc (suc (suc (suc (suc (suc zero)))))) lt = (refl, refl)
digit_again (suc (suc (suc (suc (suc (suc (suc zero))))))) lt = (refl, refl)
digit_again (suc (suc (suc (suc (suc (suc (suc (suc zero)))))))) lt = (refl, refl)
digit_again (suc (suc (suc (suc (suc (suc (suc (suc (suc zero))))))))) lt = (refl, refl)
digit_again (suc (suc (suc (suc (suc (suc (suc (suc (suc (suc zero)))))))))) lt = (refl, refl)
digit_again (suc (suc (suc (suc (suc (suc (suc (suc (suc (suc (suc zero))))))))))) lt = (refl, refl)
digit_again (suc (suc (suc (suc (suc (suc (suc (suc (suc (suc (suc (suc zero)))))))))))) lt = (refl, refl)
digit_again (suc (suc (suc (suc (suc (suc (suc (suc (suc (suc (suc (suc (suc zero))))))))))))) lt = (refl, refl)
digit_again (suc (suc (suc (suc (suc (suc (suc (suc (suc (suc (suc (suc (suc (suc zero)))))))))))))) lt = (refl, refl)
digit_again (suc (suc (suc (suc (suc (suc (suc (suc (suc (suc (suc (suc (suc (suc (suc zero))))))))))))))) lt = (refl, refl)
digit_again (suc (suc (suc (suc (suc (suc (suc (suc (suc (suc (suc (suc (suc (suc (suc (suc d)))))))))))))))) lt = absurd (omega arith)

list_all-push : (p : ℕ → Bool) (xs : List ℕ) (x : ℕ) → list_all p xs ≡ true → p x ≡ true → list_all p (xs ++ x ∷ []) ≡ true
list_all-push p [] x h k = and_from (p x) true k refl
list_all-push p (y ∷ xs) x h k = let both = and_parts (p y) (list_all p xs) h in and_from (p y) _ both.0 (list_all-push p xs x both.1 k)

length-digits : (n number : ℕ) → length (digits n number) ≡ n
unfolding digits
length-digits zero number = refl
length-digits (suc n) number = omega (arith, length-append (digits n (number / 16)) (digit_byte (number % 16) ∷ []), length-digits n (number / 16))

are_digits : (n number : ℕ) → list_all is_digit (digits n number) ≡ true
unfolding digits
are_digits zero number = refl
are_digits (suc n) number = list_all-push is_digit (digits n (number / 16)) (digit_byte (number % 16)) (are_digits n (number / 16)) (digit_again (number % 16) (omega arith)).0

value-push : (w : Word) (b n : ℕ) → fold (λ m c. 16 * m + digit_value c) n (w ++ b ∷ []) ≡ 16 * fold (λ m c. 16 * m + digit_value c) n w + digit_value b
value-push [] b n = refl
value-push (c ∷ w) b n = value-push w b (16 * n + digit_value c)

value-digits : (n number : ℕ) → number < 16 ^ n → value (digits n number) ≡ number
unfolding digits
value-digits zero number lt = omega arith
value-digits (suc n) number lt =
    let power : 16 ^ suc n ≡ 16 * 16 ^ n = pow-succ' 16 n in
    let front : value (digits n (number / 16)) ≡ number / 16 = value-digits n (number / 16) (omega arith) in
    let last : digit_value (digit_byte (number % 16)) ≡ number % 16 = (digit_again (number % 16) (omega arith)).1 in
    value-push (digits n (number / 16)) (digit_byte (number % 16)) 0 ∙ omega arith

-- a word's text says the word
said_again : (word : ℕ) → word < 2 ^ 64 → said (word_text word) ≡ Some word
said_again word lt =
    let long : eqb (length (word_text word)) 16 ≡ true = eq-eqb _ _ (length-digits 16 word) in
    let test : reading.is_word (word_text word) ≡ true = and_from (eqb (length (word_text word)) 16) _ long (are_digits 16 word) in
    rw test (ap (λ n. Some n) (value-digits 16 word lt))

-- a digit is no other byte
other_byte : (b k : ℕ) → is_digit b ≡ true → is_digit k ≡ false → eqb b k ≡ false
other_byte b k h other = ne_eqb b k (λ e. let at : is_digit k ≡ true = sym (ap is_digit e) ∙ h in cc)

digit_goes_on : (b : ℕ) → is_digit b ≡ true → goes_on b ≡ true
digit_goes_on b h = rw (other_byte b 10 h refl, other_byte b 35 h refl, other_byte b 32 h refl, other_byte b 9 h refl, other_byte b 13 h refl) refl

digits_go_on : (w : Word) → list_all is_digit w ≡ true → list_all goes_on w ≡ true
digits_go_on [] h = refl
digits_go_on (b ∷ w) h = let both = and_parts (is_digit b) (list_all is_digit w) h in and_from (goes_on b) _ (digit_goes_on b both.0) (digits_go_on w both.1)

word_again : (w : Word) → 0 < length w → list_all is_digit w ≡ true → is_word w ≡ true
word_again [] some h = absurd (omega arith)
word_again (b ∷ w) some h = digits_go_on (b ∷ w) h

are_words_again : (ws : List ℕ) → list_all is_word (map word_text ws) ≡ true
are_words_again [] = refl
are_words_again (w ∷ ws) =
    and_from (is_word (word_text w)) _ (word_again (word_text w) (let n = length-digits 16 w in omega arith) (are_digits 16 w)) (are_words_again ws)

row_again : (w : ℕ) (ws : List ℕ) → are_words (map word_text (w ∷ ws)) ≡ true
row_again w ws = are_words_again (w ∷ ws)

rows_again : (words : List ℕ) → list_all are_words (map (map word_text) (rows words)) ≡ true
unfolding rows
rows_again [] = refl
rows_again (a ∷ []) = and_from _ true (row_again a []) refl
rows_again (a ∷ b ∷ []) = and_from _ true (row_again a (b ∷ [])) refl
rows_again (a ∷ b ∷ c ∷ []) = and_from _ true (row_again a (b ∷ c ∷ [])) refl
rows_again (a ∷ b ∷ c ∷ d ∷ []) = and_from _ true (row_again a (b ∷ c ∷ d ∷ [])) refl
rows_again (a ∷ b ∷ c ∷ d ∷ e ∷ []) = and_from _ true (row_again a (b ∷ c ∷ d ∷ e ∷ [])) refl
rows_again (a ∷ b ∷ c ∷ d ∷ e ∷ f ∷ []) = and_from _ true (row_again a (b ∷ c ∷ d ∷ e ∷ f ∷ [])) refl
rows_again (a ∷ b ∷ c ∷ d ∷ e ∷ f ∷ g ∷ []) = and_from _ true (row_again a (b ∷ c ∷ d ∷ e ∷ f ∷ g ∷ [])) refl
rows_again (a ∷ b ∷ c ∷ d ∷ e ∷ f ∷ g ∷ h ∷ words) =
    and_from _ (list_all are_words (map (map word_text) (rows words))) (row_again a (b ∷ c ∷ d ∷ e ∷ f ∷ g ∷ h ∷ [])) (rows_again words)

-- the lines, one after another, have all words
rows_flat : (words : List ℕ) → flat_map (λ row. row) (rows words) ≡ words
unfolding rows
rows_flat [] = refl
rows_flat (a ∷ []) = refl
rows_flat (a ∷ b ∷ []) = refl
rows_flat (a ∷ b ∷ c ∷ []) = refl
rows_flat (a ∷ b ∷ c ∷ d ∷ []) = refl
rows_flat (a ∷ b ∷ c ∷ d ∷ e ∷ []) = refl
rows_flat (a ∷ b ∷ c ∷ d ∷ e ∷ f ∷ []) = refl
rows_flat (a ∷ b ∷ c ∷ d ∷ e ∷ f ∷ g ∷ []) = refl
rows_flat (a ∷ b ∷ c ∷ d ∷ e ∷ f ∷ g ∷ h ∷ words) = ap (λ (x : List ℕ). a ∷ b ∷ c ∷ d ∷ e ∷ f ∷ g ∷ h ∷ x) (rows_flat words)

-- the text of a line and of lines, by their words
behind_text : (ws : List ℕ) (rest : List ℕ) → behind (map word_text ws) rest ≡ flat_map next_text ws ++ rest
behind_text [] rest = refl
behind_text (w ∷ ws) rest =
    ap (λ (x : List ℕ). 32 ∷ (word_text w ++ x)) (behind_text ws rest) ∙ ap (λ (x : List ℕ). 32 ∷ x) (sym (append_assoc (word_text w) (flat_map next_text ws) rest))

row_text : (ws : List ℕ) → line_text (map word_text ws) ≡ text.line_text ws
row_text [] = refl
row_text (w ∷ ws) = ap (λ (x : List ℕ). word_text w ++ x) (behind_text ws (10 ∷ [])) ∙ sym (append_assoc (word_text w) (flat_map next_text ws) (10 ∷ []))

rows_text : (rs : List (List ℕ)) → text_of (map (map word_text) rs) ≡ flat_map text.line_text rs
rows_text [] = refl
rows_text (row ∷ rs) = ap (λ (x : List ℕ). x ++ text_of (map (map word_text) rs)) (row_text row) ∙ ap (λ (x : List ℕ). text.line_text row ++ x) (rows_text rs)

Below : List ℕ → Type 0
Below ws = AllByRecursion (λ w. w < 2 ^ 64) ws

below_parts : (xs ys : List ℕ) → Below (xs ++ ys) → Below xs × Below ys
unfolding Below
below_parts [] ys h = (tt, h)
below_parts (x ∷ xs) ys h = let both = below_parts xs ys h.1 in ((h.0, both.0), both.1)

-- what a line says, and lines
row_said : (n : ℕ) (ws : List ℕ) → Below ws → read (line_entries n (map word_text ws)) ≡ Ok ws
unfolding Below
row_said n [] h = read_nil
row_said n (w ∷ ws) h =
    read_cons (n, word_text w) (line_entries n (map word_text ws))
    ∙ ap (λ s. with_said n s (read (line_entries n (map word_text ws)))) (said_again w h.0)
    ∙ ap (onto (w ∷ [])) (row_said n ws h.1)

not_header : (w : Word) (ws : List Word) → list_all is_digit w ≡ true → is_header (w ∷ ws) ≡ false
not_header [] ws h = refl
not_header (b ∷ w) ws h = other_byte b 91 (and_parts (is_digit b) (list_all is_digit w) h).0 refl

no_header : (ws : List ℕ) → is_header (map word_text ws) ≡ false
no_header [] = refl
no_header (w ∷ ws) = not_header (word_text w) (map word_text ws) (are_digits 16 w)

rows_said : (n : ℕ) (rs : List (List ℕ)) → Below (flat_map (λ row. row) rs) → read (section_entries (with_numbers n (map (map word_text) rs))) ≡ Ok (flat_map (λ row. row) rs)
rows_said n [] h = read_nil
rows_said n (row ∷ rs) h =
    let both = below_parts row (flat_map (λ row. row) rs) h in
    let line : Line = record { number = n; words = map word_text row } in
    ap read (section_line line (with_numbers (n + 1) (map (map word_text) rs)) (no_header row))
    ∙ read_append (line_entries n (map word_text row)) (section_entries (with_numbers (n + 1) (map (map word_text) rs))) row (row_said n row both.0)
    ∙ ap (onto row) (rows_said (n + 1) rs both.1)

below_from : (ws : List ℕ) → ((k : ℕ) → k < length ws → get_or ws k 0 < 2 ^ 64) → Below ws
unfolding Below
below_from [] h = tt
below_from (w ∷ ws) h = (h 0 (omega arith), below_from ws (λ k lt. h (suc k) (omega arith)))

pub says_again : (words : List ℕ) → ((k : ℕ) → k < length words → get_or words k 0 < 2 ^ 64) → Says (image_text words) words
says_again words below =
    let lss : List (List Word) = (codes "[image2]" ∷ []) ∷ map (map word_text) (rows words) in
    let whole : image_text words ≡ text_of lss = ap (λ (x : List ℕ). codes "[image2]\n" ++ x) (sym (rows_text (rows words))) in
    let right : list_all are_words lss ≡ true = rows_again words in
    record {
      behind = with_numbers 2 (map (map word_text) (rows words));
      header = ap lines_of (whole ∙ sym (append-nil (text_of lss))) ∙ lines_again 1 lss [] right ∙ append-nil (with_numbers 1 lss);
      section = rows_said 2 (rows words) (subst Below (sym (rows_flat words)) (below_from words below)) ∙ ap (λ (x : List ℕ). Ok x) (rows_flat words);
    }
