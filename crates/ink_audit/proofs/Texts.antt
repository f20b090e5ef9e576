-- The lines of the text of a run, with its journal.
use Rattle.ink_audit.proofs.Common.{◌≡◌, ℕ, true, List, [], ◌∷◌, ◌++◌, length, map, All, codes, decimal, refl, sym, ap, ◌∙◌, arith, append_assoc, All-append, All-cons, All-nil, and_parts, Program, thread_def, Entry, Push, Refuse, Skip, Tick, Scan, Look, Commit, Release, entry_line, ended, header, lines, eqb, not, IsOther, HasJournal, IsEntryOf, AreLinesOf}
use Rattle.std.specs.List.{flat_map, list_all, range_with_len}
use Rattle.std.proofs.lemmas.List.Concat.{flat_map-append}
use Rattle.ink_base.specs.declared.output.Output.{Output}
use Rattle.never_cut.specs.declared.model.Model.{Model}
use Rattle.never_cut.specs.Entries.{Readings, Legal, effect}
use Rattle.never_cut.specs.Journal.{IsLegal}
use Rattle.ink_report.specs.declared.summary.Summary.{Summary}
use Rattle.ink_report.specs.declared.summary.ThreadSummary.{ThreadSummary}
use Rattle.ink_report.specs.declared.summary.SourceSummary.{SourceSummary}
use Rattle.ink_report.specs.Lines.{output_line, thread_line, source_line, totals_line}
use Rattle.ink_report.specs.Report.{run_text}
use Rattle.ink_report.specs.Summary.{summary_of, thread_summary}
use Rattle.ink_audit.specs.Laws.{HasNames}
use Rattle.ink_audit.specs.Verdicts.{with_journal}
use Rattle.ink_audit.proofs.Entries.{spelled, line_spelled}
use Rattle.ink_audit.proofs.Clean.{IsClean, GoesOn, fixed, ◌also◌, AreClean, clean_append, are_clean_append, are_clean_map, thread_clean, decimal_clean, decimal_plain, is_plain, lines_clean, ended_map}

-- the lines of a text but for their line feeds
abbrev pub output_words : Program → Output → List ℕ
output_words program o = decimal o.stamp ++ codes " " ++ (thread_def program o.thread.0).name ++ codes " " ++ decimal o.value

abbrev pub thread_words : ThreadSummary → List ℕ
thread_words x = codes "thread " ++ x.name ++ codes " served " ++ decimal x.served ++ codes " trapped " ++ decimal x.trapped ++ codes " expired " ++ decimal x.expired ++ codes " held " ++ decimal x.held

abbrev pub source_words : SourceSummary → List ℕ
source_words x = codes "source S" ++ decimal x.source.0 ++ codes " next " ++ decimal x.next ++ codes " pushed " ++ decimal x.pushed ++ codes " refused " ++ decimal x.refused

abbrev pub totals_words : Summary → List ℕ
totals_words s = codes "clock " ++ decimal s.clock ++ codes " commits " ++ decimal s.commits ++ codes " charges " ++ decimal s.charges

-- those in front of the header
abbrev pub head_words : Program → List Output → Summary → List (List ℕ)
head_words program outputs s = map (output_words program) outputs ++ (map thread_words s.threads ++ (map source_words s.sources ++ totals_words s ∷ []))

regrouped : (o t s c h e : List ℕ) → ((o ++ (((t ++ s) ++ c) ++ [])) ++ h) ++ e ≡ (o ++ (t ++ (s ++ (c ++ [])))) ++ (h ++ e)
regrouped o t s c h e = simp append_assoc

head_ended : (program : Program) (outputs : List Output) (s : Summary) → flat_map ended (head_words program outputs s)
    ≡ flat_map (output_line program) outputs ++ (flat_map thread_line s.threads ++ (flat_map source_line s.sources ++ (totals_line s ++ [])))
head_ended program outputs s =
    let first = sym (ended_map (output_line program) (output_words program) (λ o. refl) outputs) in
    let second = sym (ended_map thread_line thread_words (λ x. refl) s.threads) in
    let third = sym (ended_map source_line source_words (λ x. refl) s.sources) in
    flat_map-append ended (map (output_words program) outputs) (map thread_words s.threads ++ (map source_words s.sources ++ totals_words s ∷ []))
    ∙ ap (λ (l : List ℕ). flat_map ended (map (output_words program) outputs) ++ l) (flat_map-append ended (map thread_words s.threads) (map source_words s.sources ++ totals_words s ∷ []))
    ∙ ap (λ (l : List ℕ). flat_map ended (map (output_words program) outputs) ++ (flat_map ended (map thread_words s.threads) ++ l)) (flat_map-append ended (map source_words s.sources) (totals_words s ∷ []))
    ∙ (λ k. first k ++ (second k ++ (third k ++ (totals_line s ++ []))))

-- the text is made of these lines, the header, and those of the entries
abbrev pub lines_told : Program → Model → List Entry → ℕ → List (List ℕ)
lines_told program m journal charges = head_words program m.outputs (summary_of program m journal charges)

text_ended : (program : Program) (m : Model) (journal : List Entry) (charges : ℕ) →
    run_text program m journal charges with_journal ≡ flat_map ended (lines_told program m journal charges ++ header ∷ map (spelled program) journal)
text_ended program m journal charges =
    let s : Summary = summary_of program m journal charges in
    let entries = ended_map (entry_line program) (spelled program) (line_spelled program) journal in
    regrouped (flat_map (output_line program) m.outputs) (flat_map thread_line s.threads) (flat_map source_line s.sources) (totals_line s) (codes "[journal]\n") (flat_map (entry_line program) journal)
    ∙ (λ k. sym (head_ended program m.outputs s) k ++ (codes "[journal]\n" ++ entries k))
    ∙ sym (flat_map-append ended (lines_told program m journal charges) (header ∷ map (spelled program) journal))

-- no line ends within one of them
module _ (program : Program) (named : HasNames program) where
  number : (n : ℕ) → GoesOn (decimal n)
  number n = fixed (decimal n) (decimal_clean n)

  name : (t : ℕ) → GoesOn (thread_def program t).name
  name t = fixed (thread_def program t).name (thread_clean program named t)

  output_clean : (o : Output) → IsClean (output_words program o)
  output_clean o = (number o.stamp also fixed (codes " ") refl also name o.thread.0 also fixed (codes " ") refl also number o.value).clean

  summary_clean : (m : Model) (t : ℕ) → IsClean (thread_words (thread_summary program m t))
  summary_clean m t =
      let x : ThreadSummary = thread_summary program m t in
      (fixed (codes "thread ") refl also name t also fixed (codes " served ") refl also number x.served also fixed (codes " trapped ") refl also number x.trapped
      also fixed (codes " expired ") refl also number x.expired also fixed (codes " held ") refl also number x.held).clean

  source_clean : (x : SourceSummary) → IsClean (source_words x)
  source_clean x =
      (fixed (codes "source S") refl also number x.source.0 also fixed (codes " next ") refl also number x.next also fixed (codes " pushed ") refl also number x.pushed
      also fixed (codes " refused ") refl also number x.refused).clean

  totals_clean : (s : Summary) → IsClean (totals_words s)
  totals_clean s = (fixed (codes "clock ") refl also number s.clock also fixed (codes " commits ") refl also number s.commits also fixed (codes " charges ") refl also number s.charges).clean

  spelled_clean : (e : Entry) → IsClean (spelled program e)
  spelled_clean (Push i) = clean_append (codes "Push S") (decimal i.0) refl (decimal_clean i.0)
  spelled_clean (Refuse i) = clean_append (codes "Refuse S") (decimal i.0) refl (decimal_clean i.0)
  spelled_clean (Skip i) = clean_append (codes "Skip S") (decimal i.0) refl (decimal_clean i.0)
  spelled_clean (Tick by) = clean_append (codes "Tick ") (decimal by) refl (decimal_clean by)
  spelled_clean Scan = refl
  spelled_clean (Look t) = clean_append (codes "Look ") (thread_def program t.0).name refl (thread_clean program named t.0)
  spelled_clean (Commit t) = clean_append (codes "Commit ") (thread_def program t.0).name refl (thread_clean program named t.0)
  spelled_clean (Release t) = clean_append (codes "Release ") (thread_def program t.0).name refl (thread_clean program named t.0)

  summaries_clean : (m : Model) (ts : List ℕ) → AreClean (map thread_words (map (thread_summary program m) ts))
  summaries_clean m [] = tt
  summaries_clean m (t ∷ ts) = (summary_clean m t, summaries_clean m ts)

  told_clean : (m : Model) (journal : List Entry) (charges : ℕ) → AreClean (lines_told program m journal charges ++ header ∷ map (spelled program) journal)
  told_clean m journal charges =
      let s : Summary = summary_of program m journal charges in
      are_clean_append (lines_told program m journal charges) (header ∷ map (spelled program) journal)
      (are_clean_append (map (output_words program) m.outputs) _ (are_clean_map (output_words program) output_clean m.outputs)
      (are_clean_append (map thread_words s.threads) _ (summaries_clean m (range_with_len 0 (length program.threads)))
      (are_clean_append (map source_words s.sources) (totals_words s ∷ []) (are_clean_map source_words source_clean s.sources) (totals_clean s, tt))))
      (refl, are_clean_map (spelled program) spelled_clean journal)

  lines_of_text : (m : Model) (journal : List Entry) (charges : ℕ) →
      lines (run_text program m journal charges with_journal) ≡ lines_told program m journal charges ++ header ∷ map (spelled program) journal
  lines_of_text m journal charges =
      ap lines (text_ended program m journal charges) ∙ lines_clean (lines_told program m journal charges ++ header ∷ map (spelled program) journal) (told_clean m journal charges)

-- none of those in front of the header begins with a bracket
abbrev FirstPlain : List ℕ → Type 0
FirstPlain [] = ⊥
FirstPlain (b ∷ w) = is_plain b ≡ true

first_append : (v w : List ℕ) → FirstPlain v → FirstPlain (v ++ w)
first_append [] w first = absurd first
first_append (b ∷ v) w first = first

first_spaced : (v : List ℕ) → list_all is_plain v ≡ true → FirstPlain (v ++ codes " ")
first_spaced [] plain = refl
first_spaced (b ∷ v) plain = (and_parts (is_plain b) (list_all is_plain v) plain).0

first_other : (w : List ℕ) → FirstPlain w → IsOther w
first_other [] first same = first
first_other (b ∷ w) first same = let is : b ≡ 91 = cc in let e : not (eqb b 91) ≡ not (eqb 91 91) = ap (λ (x : ℕ). not (eqb x 91)) is in absurd (cc)

output_other : (program : Program) (o : Output) → IsOther (output_words program o)
output_other program o =
    first_other (output_words program o)
    (first_append _ (decimal o.value) (first_append _ (codes " ") (first_append _ (thread_def program o.thread.0).name (first_spaced (decimal o.stamp) (decimal_plain o.stamp)))))

all_other : {X : Type 0} (f : X → List ℕ) → ((x : X) → IsOther (f x)) → (xs : List X) → All IsOther (map f xs)
all_other f other [] = All-nil IsOther
all_other f other (x ∷ xs) = All-cons IsOther (f x) (map f xs) (other x) (all_other f other xs)

told_other : (program : Program) (m : Model) (journal : List Entry) (charges : ℕ) → All IsOther (lines_told program m journal charges)
told_other program m journal charges =
    let s : Summary = summary_of program m journal charges in
    All-append IsOther (map (output_words program) m.outputs) _ (all_other (output_words program) (output_other program) m.outputs)
    (All-append IsOther (map thread_words s.threads) _ (all_other thread_words (λ x. first_other (thread_words x) refl) s.threads)
    (All-append IsOther (map source_words s.sources) (totals_words s ∷ []) (all_other source_words (λ x. first_other (source_words x) refl) s.sources)
    (All-cons IsOther (totals_words s) [] (first_other (totals_words s) refl) (All-nil IsOther))))

-- so the text has its journal
pub text_has_journal : (program : Program) (m : Model) (journal : List Entry) (charges : ℕ) → HasNames program →
    HasJournal (run_text program m journal charges with_journal) (lines_told program m journal charges) (map (spelled program) journal)
text_has_journal program m journal charges named = record { lines = lines_of_text program named m journal charges; first = told_other program m journal charges }

-- the entries of a legal journal are those of the program
legal_entry : (program : Program) (readings : Readings) (m : Model) (e : Entry) → Legal program readings m e → IsEntryOf program e
legal_entry program readings m (Push i) legal = record { names = legal.0; ticks = tt }
legal_entry program readings m (Refuse i) legal = record { names = legal.0; ticks = tt }
legal_entry program readings m (Skip i) legal = record { names = legal.0; ticks = tt }
legal_entry program readings m (Tick by) legal = record { names = tt; ticks = omega arith }
legal_entry program readings m Scan legal = record { names = tt; ticks = tt }
legal_entry program readings m (Look t) legal = record { names = legal.0; ticks = tt }
legal_entry program readings m (Commit t) legal = record { names = legal.0; ticks = tt }
legal_entry program readings m (Release t) legal = record { names = legal.0; ticks = tt }

legal_entries : (program : Program) (readings : Readings) (m : Model) (journal : List Entry) → IsLegal program readings m journal → All (IsEntryOf program) journal
legal_entries program readings m [] legal = All-nil (IsEntryOf program)
legal_entries program readings m (e ∷ journal) legal =
    All-cons (IsEntryOf program) e journal (legal_entry program readings m e legal.0) (legal_entries program readings (effect program readings m e) journal legal.1)

spelled_lines : (program : Program) (journal : List Entry) → map (entry_line program) journal ≡ map ended (map (spelled program) journal)
spelled_lines program [] = refl
spelled_lines program (e ∷ journal) = λ k. line_spelled program e k ∷ spelled_lines program journal k

pub legal_lines : (program : Program) (readings : Readings) (m : Model) (journal : List Entry) → IsLegal program readings m journal → AreLinesOf program journal (map (spelled program) journal)
legal_lines program readings m journal legal = record { each = legal_entries program readings m journal legal; same = spelled_lines program journal }
