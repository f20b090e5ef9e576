-- What a reading that went well says of its parts, and what its steps keep.
use Rattle.power_trace.proofs.Common.{◌≡◌, ℕ, Bool, true, false, cond, List, [], ◌∷◌, Result, Ok, Err, refl, ap, subst, inl, inr, cases_Bool, Word, Line, Cause, JobFault, ◌>>=◌, ◌>>◌, at_line, is_header, header_end}
use Rattle.ink_text.specs.Section.{section_in, lines_in}
use Rattle.ink_text.specs.Words.{words_in}

pub bound : {A B : Type 0} (r : Result A Cause) (f : A → Result B Cause) (y : B) → (r >>= f) ≡ Ok y → (x : A) × (r ≡ Ok x) × (f x ≡ Ok y)
bound (Ok x) f y h = (x, refl, h)
bound (Err e) f y h = absurd (cc)

pub bound_line : {A B : Type 0} (r : Result A JobFault) (f : A → Result B JobFault) (y : B) → (r >> f) ≡ Ok y → (x : A) × (r ≡ Ok x) × (f x ≡ Ok y)
bound_line (Ok x) f y h = (x, refl, h)
bound_line (Err e) f y h = absurd (cc)

pub in_line : {A : Type 0} (number : ℕ) (r : Result A Cause) (x : A) → at_line number r ≡ Ok x → r ≡ Ok x
in_line number (Ok y) x h = let same : y ≡ x = cc in ap Ok same
in_line number (Err e) x h = absurd (cc)

-- a test behind which a reading goes well
pub tested : {A E : Type 0} (b : Bool) (x y : A) (e : E) → cond b (Ok x) (Err e) ≡ Ok y → (b ≡ true) × (x ≡ y)
tested true x y e h = (refl, cc)
tested false x y e h = absurd (cc)

pub tested_not : {A E : Type 0} (b : Bool) (x y : A) (e : E) → cond b (Err e) (Ok x) ≡ Ok y → (b ≡ false) × (x ≡ y)
tested_not true x y e h = absurd (cc)
tested_not false x y e h = (refl, cc)

-- what each word keeps, all words keep
pub words_keep : {S : Type 0} (P : S → Type 0) (f : S → Word → Result S Cause) → ((s : S) (w : Word) (t : S) → P s → f s w ≡ Ok t → P t)
    → (ws : List Word) (s t : S) → P s → words_in f s ws ≡ Ok t → P t
unfolding words_in
words_keep P f step [] s t p h = let same : s ≡ t = cc in subst P same p
words_keep P f step (w ∷ ws) s t p h =
    let first = bound (f s w) (λ next. words_in f next ws) t h in
    words_keep P f step ws first.0 t (step s w first.0 p first.1) first.2

pub first_same : {S : Type 0} (s t : S) (xs ys : List Line) → ◌≡◌ {A = Result (S × List Line) JobFault} (Ok (s, xs)) (Ok (t, ys)) → s ≡ t
first_same {S} s t xs ys h = let pairs : ◌≡◌ {A = S × List Line} (s, xs) (t, ys) = cc in ap (λ (x : S × List Line). x.0) pairs

-- what each line keeps, all lines keep
pub lines_keep : {S : Type 0} (P : S → Type 0) (f : S → ℕ → List Word → Result S Cause) → ((s : S) (number : ℕ) (ws : List Word) (t : S) → P s → f s number ws ≡ Ok t → P t)
    → (ls : List Line) (s t : S) (rest : List Line) → P s → lines_in f s ls ≡ Ok (t, rest) → P t
unfolding lines_in
lines_keep P f step [] s t rest p h = subst P (first_same s t [] rest h) p
lines_keep P f step (line ∷ ls) s t rest p h =
    elim (cases_Bool (is_header line.words)) [
      | inl header ↦
          subst P (first_same s t (line ∷ ls) rest (rw header at h)) p
      | inr other ↦
          let k = rw other at h in
          let first = bound_line (at_line line.number (f s line.number line.words)) (λ next. lines_in f next ls) (t, rest) k in
          lines_keep P f step ls first.0 t rest (step s line.number line.words first.0 p (in_line line.number (f s line.number line.words) first.0 first.1)) first.2
    ]

-- so does a section
pub section_keeps : {S : Type 0} (P : S → Type 0) (f : S → ℕ → List Word → Result S Cause) → ((s : S) (number : ℕ) (ws : List Word) (t : S) → P s → f s number ws ≡ Ok t → P t)
    → (count : ℕ) (ls : List Line) (s : S) (x : S × List Line) → P s → section_in count f s ls ≡ Ok x → P x.0
unfolding section_in
section_keeps P f step count [] s x p h = absurd (cc)
section_keeps P f step count (header ∷ ls) s x p h =
    let read = bound_line (at_line header.number (header_end header.words)) (λ e. lines_in f s ls) x h in
    lines_keep P f step ls s x.0 x.1 p read.2
