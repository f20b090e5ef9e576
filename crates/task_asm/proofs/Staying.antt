-- A fault of the section stays where other lines follow its own.
use Rattle.std.proofs.Common.{◌≡◌, ◌≢◌, ℕ, suc, ◌+◌, ◌<◌, ◌≤◌, Bool, true, false, List, [], ◌∷◌, ◌++◌, length, Option, Some, None, Result, Ok, Err, refl, sym, ap, ◌∙◌, inl, inr, ◌⊎◌, arith, codes}
use Rattle.std.proofs.lemmas.Bool.{cases_Bool}
use Rattle.ink_base.specs.Lines.{Word, Line}
use Rattle.ink_base.specs.declared.fault.JobFault.{JobFault}
use Rattle.ink_base.specs.Gives.{◌>>◌, at_line, each}
use Rattle.task_lines.specs.declared.draft.DraftTask.{DraftTask}
use Rattle.task_asm.specs.Section.{empty_draft, lines_of_draft, draft_end, program_in}
use Rattle.task_asm.specs.Targets.{aimed, unless_lost, instr_of, task_of, program_of}
use Rattle.std.specs.Option.{is_some}
use Rattle.ink_base.specs.declared.fault.Cause.{Cause}
use Rattle.ink_base.specs.declared.fault.Cause.TheVariants.{BadTarget}
use Rattle.ink_text.specs.Section.{is_header, header_in, header_end, next_number, missing, next_header, lines_in, section_in}
use Rattle.ink_text.proofs.Lines.{at_header, at_other, lines_end}
use Rattle.task_isa.specs.declared.instr.Instr.{Instr}
use Rattle.task_isa.specs.declared.lines.Lines.{Lines}
use Rattle.task_isa.specs.declared.program.Program.{Program}
use Rattle.task_lines.specs.declared.draft.DraftLine.{DraftLine}
use Rattle.task_lines.specs.declared.draft.Draft.{Draft}
use Rattle.task_lines.specs.Task.{line_in}

-- each fault is behind this line, or a target that isn't there
abbrev pub IsLate : {A : Type 0} → ℕ → Result A JobFault → Type 0
IsLate n r = (e : JobFault) → e.cause ≢ BadTarget → r ≡ Err e → n < e.line

-- a fault of this line or of one before it is the other's too, but for a target that isn't there
abbrev pub IsKept : {A : Type 0} → ℕ → Result A JobFault → Result A JobFault → Type 0
IsKept n r other = (e : JobFault) → e.cause ≢ BadTarget → e.line ≤ n → r ≡ Err e → other ≡ Err e

-- lines behind this one
abbrev pub AreBehind : ℕ → List Line → Type 0
AreBehind n [] = Unit {0}
AreBehind n (line ∷ rest) = (n < line.number) × AreBehind n rest

late_then : {A B : Type 0} (n : ℕ) (r : Result A JobFault) (f : A → Result B JobFault) → IsLate n r → ((x : A) → r ≡ Ok x → IsLate n (f x)) → IsLate n (r >> f)
late_then n (Ok x) f here next = next x refl
late_then n (Err e) f here next = λ fault other is. let same : e ≡ fault = cc is in here fault other (ap (λ (z : JobFault). Err z) same)

late_kept : {A : Type 0} (n : ℕ) (r other : Result A JobFault) → IsLate n r → IsKept n r other
late_kept n r other late = λ e ne le is. let lt = late e ne is in absurd (omega (arith, le, lt))

kept_then : {A B : Type 0} (n : ℕ) (r : Result A JobFault) (f g : A → Result B JobFault) → ((x : A) → IsKept n (f x) (g x)) → IsKept n (r >> f) (r >> g)
kept_then n (Ok x) f g next = next x
kept_then n (Err fault) f g next = λ e ne le is. cc is

-- the same where a reading of two parts goes on
kept_both : {A B C : Type 0} (n : ℕ) (r : Result A JobFault) (f g : A → Result B JobFault) (h k : B → Result C JobFault) → ((x : A) → IsKept n (f x >> h) (g x >> k)) → IsKept n ((r >> f) >> h) ((r >> g) >> k)
kept_both n (Ok x) f g h k next = next x
kept_both n (Err fault) f g h k next = λ e ne le is. cc is

-- only a target is lost where the targets are found
abbrev IsLost : {A : Type 0} → Result A JobFault → Type 0
IsLost r = (e : JobFault) → r ≡ Err e → e.cause ≡ BadTarget

lost_then : {A B : Type 0} (r : Result A JobFault) (f : A → Result B JobFault) → IsLost r → ((x : A) → IsLost (f x)) → IsLost (r >> f)
lost_then (Ok x) f here next = next x
lost_then (Err e) f here next = λ fault is. let same : e ≡ fault = cc is in here fault (ap (λ (z : JobFault). Err z) same)

lost_ok : {A : Type 0} (x : A) → IsLost (Ok x)
lost_ok x = λ e is. absurd (cc is)

lost_each : {A B : Type 0} (f : A → Result B JobFault) → ((x : A) → IsLost (f x)) → (xs : List A) → IsLost (each f xs)
unfolding each
lost_each f one [] = lost_ok []
lost_each f one (x ∷ xs) = lost_then (f x) _ (one x) (λ y. lost_then (each f xs) _ (lost_each f one xs) (λ ys. lost_ok (y ∷ ys)))

lost_line : (line : ℕ) (o : Option Instr) → IsLost (unless_lost line o)
lost_line line None = λ e is. let same : record { line = line; cause = BadTarget } ≡ e = cc is in sym (ap (λ (z : JobFault). z.cause) same)
lost_line line (Some instr) = lost_ok instr

lost_task : (tasks : List DraftTask) (t : DraftTask) → IsLost (task_of tasks t)
unfolding task_of
lost_task tasks t = lost_then (each (instr_of tasks t.labels) t.code) _ (lost_each (instr_of tasks t.labels) (λ l. lost_line l.line (aimed tasks t.labels l.instr)) t.code) (λ code. lost_ok _)

lost_program : (d : Draft) → IsLost (program_of d)
unfolding program_of
lost_program d = lost_then (each (task_of d.tasks) d.tasks) _ (lost_each (task_of d.tasks) (lost_task d.tasks) d.tasks) (λ tasks. lost_ok _)

-- the lines behind this one have later faults
late_line : {A : Type 0} (n number : ℕ) (r : Result A Cause) → n < number → IsLate n (at_line number r)
late_line n number (Ok x) lt = λ e ne is. absurd (cc is)
late_line n number (Err cause) lt = λ e ne is. let same : record { line = number; cause = cause } ≡ e = cc is in omega (arith, lt, ap (λ (z : JobFault). z.line) same)

module _ (f : Draft → ℕ → List Word → Result Draft Cause) (n : ℕ) where
  late_lines : (d : Draft) (ls : List Line) → AreBehind n ls → IsLate n (lines_in f d ls)
  late_lines d [] behind = rw (lines_end f d) (λ e ne is. absurd (cc is))
  late_lines d (line ∷ rest) behind = elim (cases_Bool (is_header line.words)) [
    | inl header ↦ rw (at_header f d line rest header) (λ e ne is. absurd (cc is))
    | inr other ↦ rw (at_other f d line rest other) (late_then n (at_line line.number (f d line.number line.words)) (λ next. lines_in f next rest) (late_line n line.number _ behind.0) (λ next is. late_lines next rest behind.1))
  ]

  -- so are the lines that are left
  left_behind : (d : Draft) (ls : List Line) (x : Draft × List Line) → AreBehind n ls → lines_in f d ls ≡ Ok x → AreBehind n x.1
  left_behind d [] x behind is = let same : (d, []) ≡ x = cc (sym (lines_end f d) ∙ is) in rw (← same) tt
  left_behind d (line ∷ rest) x behind is = elim (cases_Bool (is_header line.words)) [
    | inl header ↦ let same : (d, line ∷ rest) ≡ x = cc (sym (at_header f d line rest header) ∙ is) in rw (← same) behind
    | inr other ↦ left_then (at_line line.number (f d line.number line.words)) rest x behind.1 (λ next so. left_behind next rest x behind.1 so) (sym (at_other f d line rest other) ∙ is)
  ]
    where
      left_then : (r : Result Draft JobFault) (rest : List Line) (x : Draft × List Line) → AreBehind n rest → ((next : Draft) → lines_in f next rest ≡ Ok x → AreBehind n x.1) → (r >> (λ next. lines_in f next rest)) ≡ Ok x → AreBehind n x.1
      left_then (Ok next) rest x behind go is = go next is
      left_then (Err e) rest x behind go is = absurd (cc is)

-- what is judged once the lines of the section are read
abbrev rest_of : ℕ → ℕ → Draft × List Line → Result (Program × Lines × List Line) JobFault
rest_of count header x = draft_end count x.0 x.1 >> (λ closed. program_of x.0 >> (λ program. Ok (program, lines_of_draft header x.0, x.1)))

late_lost : {A : Type 0} (n : ℕ) (r : Result A JobFault) → IsLost r → IsLate n r
late_lost n r lost = λ e ne is. absurd (ne (lost e is))

late_program : (n header : ℕ) (d : Draft) (ls : List Line) → IsLate {A = Program × Lines × List Line} n (program_of d >> (λ program. Ok (program, lines_of_draft header d, ls)))
late_program n header d ls = late_lost n _ (lost_then (program_of d) _ (lost_program d) (λ program. lost_ok _))

late_missing : {A : Type 0} (n count : ℕ) (ls : List Line) → AreBehind n ls → n ≤ count → IsLate {A = A} n (Err (missing count ls))
late_missing n count [] behind le = λ e ne is. let same : missing count [] ≡ e = cc is in omega (arith, le, ap (λ (z : JobFault). z.line) same)
late_missing n count (line ∷ rest) behind le = λ e ne is. let same : missing count (line ∷ rest) ≡ e = cc is in omega (arith, behind.0, ap (λ (z : JobFault). z.line) same)

late_header : (n count : ℕ) (expected : Word) (ls : List Line) → AreBehind n ls → n ≤ count → IsLate n (next_header count expected ls)
unfolding next_header
late_header n count expected [] behind le = late_missing n count [] tt le
late_header n count expected (line ∷ rest) behind le = late_line n line.number (header_in expected line.words) behind.0

late_end : (n count : ℕ) (d : Draft) (ls : List Line) → AreBehind n ls → n ≤ count → IsLate n (draft_end count d ls)
unfolding draft_end
late_end n count d ls behind le = elim (cases_Bool (is_some d.current)) [
  | inl unclosed ↦ rw unclosed (late_missing n count ls behind le)
  | inr closed ↦ rw closed (late_header n count (codes "[sensors]") ls behind le)
]

late_rest : (n count header : ℕ) (x : Draft × List Line) → AreBehind n x.1 → n ≤ count → IsLate n (rest_of count header x)
late_rest n count header x behind le = late_then n (draft_end count x.0 x.1) _ (late_end n count x.0 x.1 behind le) (λ closed is. late_program n header x.0 x.1)

late_section : (n count header : ℕ) (d : Draft) (ls : List Line) → AreBehind n ls → n ≤ count → IsLate n (lines_in line_in d ls >> rest_of count header)
late_section n count header d ls behind le =
    late_then n (lines_in line_in d ls) (rest_of count header) (late_lines line_in n d ls behind) (λ x is. late_rest n count header x (left_behind line_in n d ls x behind is) le)

late_all : (n count : ℕ) (ls : List Line) → AreBehind n ls → n ≤ count → IsLate n (program_in count ls)
unfolding program_in next_header section_in
late_all n count [] behind le = late_missing n count [] tt le
late_all n count (line ∷ rest) behind le =
    late_then n (at_line line.number (header_in (codes "[program]") line.words)) _ (late_line n line.number _ behind.0)
    (λ e is. late_both (at_line line.number (header_end line.words)) (late_line n line.number _ behind.0))
  where
    late_both : (r : Result (Unit {0}) JobFault) → IsLate n r → IsLate n ((r >> (λ e. lines_in line_in empty_draft rest)) >> rest_of count line.number)
    late_both (Ok x) late = late_section n count line.number empty_draft rest behind.1 le
    late_both (Err e) late = λ fault ne is. let same : e ≡ fault = cc is in late fault ne (ap (λ (z : JobFault). Err z) same)

same_end : (first second : ℕ) (d : Draft) (line : Line) (more other : List Line) → draft_end first d (line ∷ more) ≡ draft_end second d (line ∷ other)
unfolding draft_end next_header
same_end first second d line more other = refl

module _ (n first second : ℕ) (more other : List Line) (behind : AreBehind n more) (le : n ≤ first) where
  kept_rest : (header : ℕ) (d : Draft) (line : Line) (ls : List Line) → IsKept n (rest_of first header (d, line ∷ ls ++ more)) (rest_of second header (d, line ∷ ls ++ other))
  kept_rest header d line ls =
      rw (same_end first second d line (ls ++ more) (ls ++ other))
      (kept_then n (draft_end second d (line ∷ ls ++ other)) _ _ (λ closed. late_kept n _ _ (late_program n header d (line ∷ ls ++ more))))

  kept_lines : (header : ℕ) (d : Draft) (front : List Line) → IsKept n (lines_in line_in d (front ++ more) >> rest_of first header) (lines_in line_in d (front ++ other) >> rest_of second header)
  kept_lines header d [] = late_kept n _ _ (late_section n first header d more behind le)
  kept_lines header d (line ∷ ls) = elim (cases_Bool (is_header line.words)) [
    | inl stops ↦ rw (at_header line_in d line (ls ++ more) stops, at_header line_in d line (ls ++ other) stops) (kept_rest header d line ls)
    | inr goes ↦
        rw (at_other line_in d line (ls ++ more) goes, at_other line_in d line (ls ++ other) goes)
        (kept_both n (at_line line.number (line_in d line.number line.words)) _ _ _ _ (λ next. kept_lines header next ls))
  ]

  -- other lines may follow
  pub kept_program : (front : List Line) → IsKept n (program_in first (front ++ more)) (program_in second (front ++ other))
  unfolding program_in next_header section_in
  kept_program [] = late_kept n _ _ (late_all n first more behind le)
  kept_program (line ∷ ls) =
      kept_then n (at_line line.number (header_in (codes "[program]") line.words)) _ _
      (λ e. kept_both n (at_line line.number (header_end line.words)) _ _ _ _ (λ x. kept_lines line.number empty_draft ls))
