-- How the reading of lines goes on from the first, where all of it is total.
use Rattle.std.proofs.Common.{◌≡◌, ℕ, true, false, List, [], ◌∷◌, Result, Ok, refl, sym, ap, ◌∙◌}
use Rattle.ink_base.specs.Lines.{Word, Line}
use Rattle.ink_base.specs.declared.fault.Cause.{Cause}
use Rattle.ink_base.specs.declared.fault.JobFault.{JobFault}
use Rattle.ink_base.specs.declared.fault.JobAnswer.{JobAnswer}
use Rattle.ink_base.specs.Gives.{◌>>◌, at_line, Answers}
use Rattle.ink_base.proofs.Failing.{Answers-step}
use Rattle.ink_text.specs.Section.{is_header, lines_in}

pub at_header : {S : Type 0} (f : S → ℕ → List Word → Result S Cause) (s : S) (line : Line) (rest : List Line) → is_header line.words ≡ true → lines_in f s (line ∷ rest) ≡ Ok (s, line ∷ rest)
unfolding lines_in
at_header f s line rest h = rw h refl

pub at_other : {S : Type 0} (f : S → ℕ → List Word → Result S Cause) (s : S) (line : Line) (rest : List Line) → is_header line.words ≡ false
    → lines_in f s (line ∷ rest) ≡ (at_line line.number (f s line.number line.words) >> (λ next. lines_in f next rest))
unfolding lines_in
at_other f s line rest h = rw h refl

pub lines_end : {S : Type 0} (f : S → ℕ → List Word → Result S Cause) (s : S) → lines_in f s [] ≡ Ok (s, [])
unfolding lines_in
lines_end f s = refl

pub header_ends : {S : Type 0} (f : S → ℕ → List Word → Result S Cause) (s : S) (line : Line) (rest : List Line) (total : Result (S × List Line) JobFault) → is_header line.words ≡ true
    → lines_in f s (line ∷ rest) ≡ total → total ≡ Ok (s, line ∷ rest)
header_ends f s line rest total h so = sym so ∙ at_header f s line rest h

pub line_fails : {S : Type 0} (f : S → ℕ → List Word → Result S Cause) (s : S) (line : Line) (rest : List Line) (total : Result (S × List Line) JobFault) (e : JobAnswer) → is_header line.words ≡ false
    → lines_in f s (line ∷ rest) ≡ total → Answers e (at_line line.number (f s line.number line.words)) → Answers e total
line_fails f s line rest total e h so err = Answers-step e (at_line line.number (f s line.number line.words)) (λ next. lines_in f next rest) total err (sym (at_other f s line rest h) ∙ so)

pub line_more : {S : Type 0} (f : S → ℕ → List Word → Result S Cause) (s : S) (line : Line) (rest : List Line) (total : Result (S × List Line) JobFault) (next : S) → is_header line.words ≡ false
    → lines_in f s (line ∷ rest) ≡ total → at_line line.number (f s line.number line.words) ≡ Ok next → lines_in f next rest ≡ total
line_more {S} f s line rest total next h so ok = sym (at_other f s line rest h ∙ ap (λ (r : Result S JobFault). r >> (λ x. lines_in f x rest)) ok) ∙ so
