-- What is judged of a section, with its lines.
use Rattle.ink_image.proofs.Common.{◌≡◌, ℕ, ◌<◌, ◌≤◌, List, [], ◌∷◌, ◌++◌, length, map, Option, Some, None, Result, Ok, Err, refl, sym, ap, subst, ◌∙◌, inl, inr, arith, append_assoc, length-append, flat_map, eqb, eqb-true, Program, JobParts, Word, Line, Entry, entries, is_header, said, section_entries, with_said, listed_of}
use Rattle.std.proofs.lemmas.Bool.{cases_Bool}
use Rattle.std.proofs.lemmas.List.{length-map}
use Rattle.ink_base.specs.declared.fault.JobAnswer.{JobAnswer}
use Rattle.ink_base.specs.declared.fault.JobFault.{JobFault}
use Rattle.ink_base.specs.declared.token.Token.{Token}
use Rattle.ink_base.specs.Tokens.{entry_of}
use Rattle.ink_base.specs.TokenLines.{join, grouped, token_lines}
use Rattle.ink_layout.proofs.Regions.{below}
use Rattle.std.proofs.Math.ListN.{get_or-append}
use Rattle.ink_base.specs.declared.fault.Cause.TheVariants as causes
use Rattle.ink_base.specs.declared.fault.JobAnswer.TheVariants as job_answers
use Rattle.ink_image.proofs.Sections.{section_header, section_line}
use Rattle.ink_image.specs.declared.form.Form.{Form}
use Rattle.ink_image.specs.declared.image.ImageAnswer.{ImageAnswer}
use Rattle.ink_image.specs.declared.image.ImageAnswer.TheVariants.{BadWord, WrongShape, NotStanding, Worn, NoMemory}
use Rattle.ink_image.specs.Image.{JudgesRead, JudgesSection, UnlessMemory}
use Rattle.ink_image.specs.Reading.{read}
use Rattle.power_trace.specs.declared.tails.Tails.{Tails}
use Rattle.power_trace.specs.Parse.{whole_at}
use Rattle.ink_image.specs.Before.{judged_text, IsMadeBefore, IsBefore, IsJobBefore}
use Rattle.ink_image.specs.Whole.{fault_at, IsWithin, IsJobAt, Answers}

-- what words that are read begin with
first_read : (line : ℕ) (s : Option ℕ) (r : Result (List ℕ) ℕ) (ws : List ℕ) → with_said line s r ≡ Ok ws → (n : ℕ) × (rest : List ℕ) × (r ≡ Ok rest) × (n ∷ rest ≡ ws)
first_read line None r ws h = absurd (cc)
first_read line (Some n) (Err other) ws h = absurd (cc)
first_read line (Some n) (Ok rest) ws h = (n, rest, refl, cc)

-- as many words are read as there are
pub length-read : (es : List Entry) (ws : List ℕ) → read es ≡ Ok ws → length ws ≡ length es
unfolding read
length-read [] ws h = let none : [] ≡ ws = cc in sym (ap (λ (x : List ℕ). length x) none)
length-read (e ∷ es) ws h =
    let first = first_read e.0 (said e.1) (read es) ws h in
    let rest : length first.1 ≡ length es = length-read es first.1 first.2 in
    omega (arith, ap (λ (x : List ℕ). length x) first.3)

-- an address that is named is that of a word
named_in : (form : Form) (program : Program) (listed : List ℕ) (section : List Entry) (r : Result (List ℕ) ℕ) (addr : ℕ) → read section ≡ r →
    JudgesRead form program listed r (Err (NotStanding addr)) → addr < length section
named_in form program listed section (Err line) addr is h = absurd (cc)
named_in form program listed section (Ok words) addr is h =
    let inside = below program h.place h.on_board in
    omega (arith, length-read section words is, h.count, h.stands_at)

pub named_within : (form : Form) (program : Program) (listed : List ℕ) (section : List Entry) (e : ImageAnswer) → UnlessMemory (JudgesSection form program listed section) (Err e) →
    IsWithin (length section) e
named_within form program listed section (BadWord line) h = tt
named_within form program listed section WrongShape h = tt
named_within form program listed section (NotStanding addr) h = named_in form program listed section (read section) addr refl h
named_within form program listed section Worn h = tt
named_within form program listed section NoMemory h = tt

-- what is refused is a fault with its line
pub refused : (job : JobParts) (form : Form) (header : ℕ) (section : List Entry) (e : ImageAnswer) →
    UnlessMemory (JudgesSection form job.program (listed_of job) section) (Err e) → Answers (IsJobAt job form header section) (Err (fault_at header section e))
refused job form header section (BadWord line) h = (BadWord line, h, refl)
refused job form header section WrongShape h = (WrongShape, h, refl)
refused job form header section (NotStanding addr) h = (NotStanding addr, h, refl)
refused job form header section Worn h = (Worn, h, refl)
refused job form header section NoMemory h = tt

-- the words of lines that entries make up are the entries
joined : (e : Entry) (ls : List Line) → flat_map entries (join e ls) ≡ e ∷ flat_map entries ls
joined e [] = refl
joined e (l ∷ ls) =
    elim (cases_Bool (eqb e.0 l.number)) [
      | inl same ↦ let is : e.0 ≡ l.number = eqb-true _ _ same in rw same (ap (λ n. e ∷ (map (λ (w : Word). (n, w)) l.words ++ flat_map entries ls)) is)
      | inr other ↦ rw other refl
    ]

ungrouped : (es : List Entry) → flat_map entries (grouped es) ≡ es
ungrouped [] = refl
ungrouped (e ∷ es) = joined e (grouped es) ∙ ap (λ (x : List Entry). e ∷ x) (ungrouped es)

-- the words of a section are the first of all that are left
section_first : (ls : List Line) → (behind : List Entry) × (section_entries ls ++ behind ≡ flat_map entries ls)
section_first [] = ([], refl)
section_first (l ∷ ls) =
    elim (cases_Bool (is_header l.words)) [
      | inl header ↦ (flat_map entries (l ∷ ls), ap (λ (x : List Entry). x ++ flat_map entries (l ∷ ls)) (section_header l ls header))
      | inr other ↦
          let rest = section_first ls in
          (rest.0, ap (λ (x : List Entry). x ++ rest.0) (section_line l ls other) ∙ append_assoc (entries l) (section_entries ls) rest.0 ∙ ap (λ (x : List Entry). entries l ++ x) rest.1)
    ]

tokens_first : (text : List ℕ) (tokens : List Token) → (behind : List Entry) × (section_entries (token_lines text tokens) ++ behind ≡ map (entry_of text) tokens)
tokens_first text tokens = let first = section_first (token_lines text tokens) in (first.0, first.1 ∙ ungrouped (map (entry_of text) tokens))

-- an address that is named is that of a token
within_more : (n m : ℕ) (e : ImageAnswer) → n ≤ m → IsWithin n e → IsWithin m e
within_more n m (BadWord line) le h = tt
within_more n m WrongShape le h = tt
within_more n m (NotStanding addr) le h = omega (arith, h)
within_more n m Worn le h = tt
within_more n m NoMemory le h = tt

pub token_named : (text : List ℕ) (tokens : List Token) (form : Form) (program : Program) (listed : List ℕ) (e : ImageAnswer) →
    UnlessMemory (JudgesSection form program listed (section_entries (token_lines text tokens))) (Err e) → IsWithin (length tokens) e
token_named text tokens form program listed e told =
    let section : List Entry = section_entries (token_lines text tokens) in
    let first = tokens_first text tokens in
    let count = length-append section first.0 in
    let all = ap (λ (es : List Entry). length es) first.1 in
    within_more (length section) (length tokens) e (omega (arith, count, all, length-map tokens (entry_of text))) (named_within form program listed section e told)

-- the fault of a section is told by the tokens that are left
fault_first : (header : ℕ) (section behind : List Entry) (e : ImageAnswer) → IsWithin (length section) e → fault_at header section e ≡ fault_at header (section ++ behind) e
fault_first header section behind (BadWord line) h = refl
fault_first header section behind WrongShape h = refl
fault_first header section behind (NotStanding addr) h =
    ap (λ (entry : Entry). job_answers.Fault (record { line = entry.0; cause = causes.NotStanding })) (sym (get_or-append section behind (0, []) addr h))
fault_first header section behind Worn h = refl
fault_first header section behind NoMemory h = refl

pub fault_told : (text : List ℕ) (tokens : List Token) (job : JobParts) (form : Form) (header : ℕ) (e : ImageAnswer) →
    UnlessMemory (JudgesSection form job.program (listed_of job) (section_entries (token_lines text tokens))) (Err e) →
    Answers (IsJobAt job form header (section_entries (token_lines text tokens))) (Err (fault_at header (map (entry_of text) tokens) e))
fault_told text tokens job form header e told =
    let section : List Entry = section_entries (token_lines text tokens) in
    let first = tokens_first text tokens in
    let same = fault_first header section first.0 e (named_within form job.program (listed_of job) section e told) ∙ ap (λ (es : List Entry). fault_at header es e) first.1 in
    subst (λ (answer : JobAnswer). Answers (IsJobAt job form header section) (Err answer)) same (refused job form header section e told)

-- an answer by what the text was up to the header behind its charges
pub before_told : (tails : Tails) (text judged : List ℕ) (job : JobParts) (ls : List Line) (answer : Result (JobParts × Option ℕ) JobAnswer) →
    judged ≡ judged_text tails text → whole_at tails judged ≡ Ok (job, ls) → Answers (IsMadeBefore tails judged job ls) answer → Answers (IsJobBefore tails text) answer
before_told tails text judged job ls answer is_judged is_whole told =
    subst (λ (bytes : List ℕ). Answers (IsBefore tails bytes (whole_at tails bytes)) answer) is_judged
    (subst (λ (r : Result (JobParts × List Line) JobFault). Answers (IsBefore tails judged r) answer) (sym is_whole) told)
