-- A fault of the section stays where a text goes on otherwise.
use Rattle.std.proofs.Common.{◌≡◌, ◌≢◌, ℕ, zero, suc, ◌+◌, ◌<◌, ◌≤◌, List, [], ◌∷◌, ◌++◌, length, take, drop, Err, refl, sym, ap, ◌∙◌, inl, inr, arith, take-append-drop, length-take, length-take-le}
use Rattle.std.proofs.lemmas.Bool.{cases_Bool, cases_lt}
use Rattle.ink_base.specs.Lines.{Line, words, before_comment, lines, numbered, lines_of}
use Rattle.ink_base.specs.TokenLines.{has_words, with_words}
use Rattle.ink_base.specs.declared.fault.JobFault.{JobFault}
use Rattle.task_asm.specs.Section.{program_in, program_at}
use Rattle.std.proofs.lemmas.List.Elements.{filter-append}
use Rattle.task_asm.specs.FaultLaw.{AgreeUpTo, FaultsStay}
use Rattle.task_asm.proofs.Staying.{AreBehind, kept_program}

numbered_append : (n : ℕ) (xs ys : List (List ℕ)) → numbered n (xs ++ ys) ≡ numbered n xs ++ numbered (n + length xs) ys
numbered_append n [] ys = let at : n ≡ n + 0 = omega arith in ap (λ (k : ℕ). numbered k ys) at
numbered_append n (x ∷ xs) ys =
    let at : n + 1 + length xs ≡ n + length (x ∷ xs) = omega arith in
    ap (λ (ls : List Line). record { number = n; words = words (before_comment x) } ∷ ls) (numbered_append (n + 1) xs ys ∙ ap (λ (k : ℕ). numbered (n + 1) xs ++ numbered k ys) at)

are_behind : (n first : ℕ) (ls : List (List ℕ)) → n < first → AreBehind n (with_words (numbered first ls))
are_behind n first [] lt = tt
are_behind n first (l ∷ ls) lt = elim (cases_Bool (has_words (words (before_comment l)))) [
  | inl some ↦ rw some (lt, are_behind n (first + 1) ls (omega (arith, lt)))
  | inr none ↦ rw none (are_behind n (first + 1) ls (omega (arith, lt)))
]

-- the lines with words behind so many lines
abbrev behind_lines : ℕ → List (List ℕ) → List Line
behind_lines n ls = with_words (numbered (1 + length (take n ls)) (drop n ls))

cut_at : (n : ℕ) (ls : List (List ℕ)) → with_words (numbered 1 ls) ≡ with_words (numbered 1 (take n ls)) ++ behind_lines n ls
cut_at n ls =
    ap (λ (xs : List (List ℕ)). with_words (numbered 1 xs)) (sym (take-append-drop n ls)) ∙ ap with_words (numbered_append 1 (take n ls) (drop n ls))
    ∙ filter-append (λ (l : Line). has_words l.words) (numbered 1 (take n ls)) (numbered (1 + length (take n ls)) (drop n ls))

take_all : (n : ℕ) (ls : List (List ℕ)) → length ls ≤ n → take n ls ≡ ls
take_all zero [] le = refl
take_all (suc n) [] le = refl
take_all zero (l ∷ ls) le = absurd (omega arith)
take_all (suc n) (l ∷ ls) le = ap (λ (xs : List (List ℕ)). l ∷ xs) (take_all n ls (omega arith))

pub faults_stay : FaultsStay
faults_stay text other fault ne agree is = elim (cases_lt (length (lines text)) fault.line) [
  | inl short ↦
      let whole : take fault.line (lines text) ≡ lines text = take_all fault.line (lines text) (omega (arith, short)) in
      let few : length (lines other) < fault.line = omega (arith, short, length-take fault.line (lines other), ap (λ (ls : List (List ℕ)). length ls) (sym agree ∙ whole)) in
      let same : lines text ≡ lines other = sym whole ∙ agree ∙ take_all fault.line (lines other) (omega (arith, few)) in
      ap (λ (ls : List (List ℕ)). program_in (length ls) (with_words (numbered 1 ls))) (sym same) ∙ is
  | inr long ↦
      let n = fault.line in
      let size : length (take n (lines text)) ≡ n = length-take-le n (lines text) long in
      let behind : AreBehind n (behind_lines n (lines text)) = are_behind n (1 + length (take n (lines text))) (drop n (lines text)) (omega (arith, size)) in
      let front = with_words (numbered 1 (take n (lines text))) in
      let otherwise : with_words (lines_of other) ≡ front ++ behind_lines n (lines other) = cut_at n (lines other) ∙ ap (λ (ls : List (List ℕ)). with_words (numbered 1 ls) ++ behind_lines n (lines other)) (sym agree) in
      ap (program_in (length (lines other))) otherwise
      ∙ kept_program n (length (lines text)) (length (lines other)) (behind_lines n (lines text)) (behind_lines n (lines other)) behind long front fault ne (omega arith) (sym (ap (program_in (length (lines text))) (cut_at n (lines text))) ∙ is)
]
