-- A claim has one verdict.
use Rattle.ink_audit.proofs.Common.{◌≡◌, ◌≢◌, ℕ, zero, suc, ◌+◌, ◌<◌, List, [], ◌∷◌, ◌++◌, length, get_or, length-append, header, take, All, Some, inl, inr, refl, sym, ap, ◌∙◌, subst, arith, cases_lt, Entry, Program, lines, IsOther, HasJournal, IsEntryOf, IsNoLine, AreLinesOf, All-head, All-tail, full_lines, DifferBehind}
use Rattle.std.specs.Prelude.{slice_get}
use Rattle.never_cut.specs.declared.model.Model.{Model}
use Rattle.never_cut.specs.Entries.{Readings, effect}
use Rattle.never_cut.specs.Replay.{IsFirstIllegal}
use Rattle.job_parts.specs.Job.{JobParts, IsJob, first_of}
use Rattle.ink_audit.specs.declared.verdict.Verdict.TheVariants.{No}
use Rattle.ink_audit.specs.Laws.{OneVerdict}
use Rattle.ink_audit.specs.Verdicts.{text_of, IsLegalIn, NoJournal, NoEntry, Illegal, OtherText, Right}
use Rattle.ink_audit.proofs.Read.{same_journal, same_entries}
use Rattle.std.proofs.lemmas.List.{get_or_at}
use Rattle.never_cut.specs.Entries.{Legal}
use Rattle.never_cut.specs.Journal.{after, IsLegal}

-- each entry of a legal journal is legal in its place
legal_at : (program : Program) (readings : Readings) (m : Model) (journal : List Entry) (n : ℕ) (d : Entry) → IsLegal program readings m journal → n < length journal →
    Legal program readings (after program readings m (take n journal)) (get_or journal n d)
legal_at program readings m [] n d legal lt = absurd (omega arith)
legal_at program readings m (e ∷ journal) zero d legal lt = legal.0
legal_at program readings m (e ∷ journal) (suc n) d legal lt = legal_at program readings (effect program readings m e) journal n d legal.1 (omega arith)

-- each line of a journal is that of an entry
line_at : (program : Program) (journal : List Entry) (front back : List (List ℕ)) (line : List ℕ) → AreLinesOf program journal (front ++ line ∷ back) → ¬ IsNoLine program line
line_at program [] [] back line are none = absurd (let same = are.same in cc)
line_at program [] (l ∷ front) back line are none = absurd (let same = are.same in cc)
line_at program (e ∷ journal) [] back line are none = none e (record { entry = All-head (IsEntryOf program) e journal are.each; same = let same = are.same in cc })
line_at program (e ∷ journal) (l ∷ front) back line are none =
    line_at program journal front back line (record { each = All-tail (IsEntryOf program) e journal are.each; same = let same = are.same in cc }) none

-- the header stands among the lines
header_there : (ls before journal : List (List ℕ)) → ls ≡ before ++ header ∷ journal → ¬ All IsOther ls
header_there ls before journal same none =
    subst (All IsOther) same none (length before) header (omega (arith, length-append before (header ∷ journal)))
    (get_or_at before header journal header (length before) refl)

-- lists that begin with the same so many have the same one at each place of these
same_place : (ls ms : List (List ℕ)) (n i : ℕ) → i < n → take n ls ≡ take n ms → slice_get ls i ≡ slice_get ms i
same_place ls ms zero i lt same = absurd (omega (arith, lt))
same_place [] [] (suc n) i lt same = refl
same_place [] (m ∷ ms) (suc n) i lt same = absurd (cc)
same_place (l ∷ ls) [] (suc n) i lt same = absurd (cc)
same_place (l ∷ ls) (m ∷ ms) (suc n) zero lt same = let first : l ≡ m = cc in ap Some first
same_place (l ∷ ls) (m ∷ ms) (suc n) (suc i) lt same = same_place ls ms n i (omega (arith, lt)) (cc)

not_behind : (a b : List ℕ) (n m : ℕ) → DifferBehind a b n → DifferBehind a b m → ¬ (n < m)
not_behind a b n m first second lt = first.next (same_place (full_lines a) (full_lines b) m n lt second.same)

-- two numbers of which neither is less than the other
neither : (n m : ℕ) → ¬ (n < m) → ¬ (m < n) → n ≡ m
neither n m not nor = elim (cases_lt n m) [ inl below ↦ absurd (not below) | inr above ↦ elim (cases_lt m n) [ inl below ↦ absurd (nor below) | inr same ↦ omega (arith, above, same) ] ]

differ_once : (a b : List ℕ) (n m : ℕ) → DifferBehind a b n → DifferBehind a b m → n ≡ m
differ_once a b n m first second = neither n m (not_behind a b n m first second) (not_behind a b m n second first)

-- the first entry that isn't legal in its place is one
illegal_once : (program : Program) (readings : Readings) (s : Model) (es : List Entry) (n m : ℕ) → IsFirstIllegal program readings s es n → IsFirstIllegal program readings s es m → n ≡ m
illegal_once program readings s [] n m first second = absurd (let there = first.there in omega (arith, there))
illegal_once program readings s (e ∷ es) zero zero first second = refl
illegal_once program readings s (e ∷ es) zero (suc m) first second = absurd (first.illegal second.before.0)
illegal_once program readings s (e ∷ es) (suc n) zero first second = absurd (second.illegal first.before.0)
illegal_once program readings s (e ∷ es) (suc n) (suc m) first second =
    let here = first.there in let there = second.there in
    ap suc (
    illegal_once program readings (effect program readings s e) es n m
    (record { there = omega (arith, here); before = first.before.1; illegal = first.illegal })
    (record { there = omega (arith, there); before = second.before.1; illegal = second.illegal })
    )

-- the first line that is no entry's is one
stop_once : (program : Program) (read more rest behind : List (List ℕ)) (line other : List ℕ) (es fs : List Entry) → read ++ line ∷ rest ≡ more ++ other ∷ behind → AreLinesOf program es read → AreLinesOf program fs more →
    IsNoLine program line → IsNoLine program other → length read ≡ length more
stop_once program [] [] rest behind line other es fs same are too none nor = refl
stop_once program [] (m ∷ more) rest behind line other es fs same are too none nor =
    absurd (line_at program fs [] more m too (subst (IsNoLine program) (cc) none))
stop_once program (l ∷ read) [] rest behind line other es fs same are too none nor =
    absurd (line_at program es [] read l are (subst (IsNoLine program) (cc) nor))
stop_once program (l ∷ read) (m ∷ more) rest behind line other [] fs same are too none nor = absurd (let e = are.same in cc)
stop_once program (l ∷ read) (m ∷ more) rest behind line other (e ∷ es) [] same are too none nor = absurd (let e = too.same in cc)
stop_once program (l ∷ read) (m ∷ more) rest behind line other (e ∷ es) (f ∷ fs) same are too none nor =
    ap suc (
    stop_once program read more rest behind line other es fs (cc)
    (record { each = All-tail (IsEntryOf program) e es are.each; same = let same = are.same in cc })
    (record { each = All-tail (IsEntryOf program) f fs too.each; same = let same = too.same in cc }) none nor
    )

module _ (job : JobParts) (claim : List ℕ) (is : IsJob job) where
  no_header : (before journal : List (List ℕ)) → HasJournal claim before journal → ¬ All IsOther (lines claim)
  no_header before journal parts none = header_there (lines claim) before journal parts.lines none

  -- a journal that has a line which is no entry's isn't read as entries
  not_read : (b c read rest journal : List (List ℕ)) (line : List ℕ) (entries : List Entry) → HasJournal claim b (read ++ line ∷ rest) → IsNoLine job.program line → HasJournal claim c journal →
      ¬ AreLinesOf job.program entries journal
  not_read b c read rest journal line entries parts none others are =
      let same = (same_journal claim b c (read ++ line ∷ rest) journal parts others).journal in
      line_at job.program entries read rest line (subst (AreLinesOf job.program entries) (sym same) are) none

  -- the entries of a claim are read in one way
  read_once : (b c x y : List (List ℕ)) (es fs : List Entry) → HasJournal claim b x → HasJournal claim c y → AreLinesOf job.program es x → AreLinesOf job.program fs y → es ≡ fs
  read_once b c x y es fs parts others are too =
      same_entries job.program is.accepted es fs x y (same_journal claim b c x y parts others).journal are too

  all_legal : (es fs : List Entry) (n : ℕ) → es ≡ fs → IsFirstIllegal job.program job.readings (first_of job) es n → ¬ IsLegalIn job fs
  all_legal es fs n same illegal legal =
      illegal.illegal (legal_at job.program job.readings (first_of job) es n _ (subst (λ (js : List Entry). IsLegalIn job js) (sym same) legal) illegal.there)

  not_same : (es fs : List Entry) (n : ℕ) → es ≡ fs → DifferBehind claim (text_of job es) n → claim ≢ text_of job fs
  not_same es fs n same differ text = differ.next (ap (λ (t : List ℕ). slice_get (full_lines t) n) (text ∙ ap (text_of job) (sym same)))

  same_stop : (b c read more rest behind : List (List ℕ)) (line other : List ℕ) (es fs : List Entry) → HasJournal claim b (read ++ line ∷ rest) → HasJournal claim c (more ++ other ∷ behind) →
      AreLinesOf job.program es read → AreLinesOf job.program fs more → IsNoLine job.program line → IsNoLine job.program other → No (length b + 2 + length read) ≡ No (length c + 2 + length more)
  same_stop b c read more rest behind line other es fs parts others are too none nor =
      let same = same_journal claim b c (read ++ line ∷ rest) (more ++ other ∷ behind) parts others in
      let stop = stop_once job.program read more rest behind line other es fs same.journal are too none nor in
      λ k. No (length (same.before k) + 2 + stop k)

  same_illegal : (b c x y : List (List ℕ)) (es fs : List Entry) (n m : ℕ) → HasJournal claim b x → HasJournal claim c y → AreLinesOf job.program es x → AreLinesOf job.program fs y →
      IsFirstIllegal job.program job.readings (first_of job) es n → IsFirstIllegal job.program job.readings (first_of job) fs m → No (length b + 2 + n) ≡ No (length c + 2 + m)
  same_illegal b c x y es fs n m parts others are too illegal other =
      let before = (same_journal claim b c x y parts others).before in
      let same : es ≡ fs = read_once b c x y es fs parts others are too in
      let place = illegal_once job.program job.readings (first_of job) fs n m (subst (λ (js : List Entry). IsFirstIllegal job.program job.readings (first_of job) js n) same illegal) other in
      λ k. No (length (before k) + 2 + place k)

  same_other : (es fs : List Entry) (n m : ℕ) → es ≡ fs → DifferBehind claim (text_of job es) n → DifferBehind claim (text_of job fs) m → No (n + 1) ≡ No (m + 1)
  same_other es fs n m same differ other =
      let place = differ_once claim (text_of job fs) n m (subst (λ (js : List Entry). DifferBehind claim (text_of job js) n) same differ) other in
      λ k. No (place k + 1)

pub one_verdict : OneVerdict
one_verdict job claim v w is (NoJournal n) (NoJournal n′) = refl
one_verdict job claim v w is (NoJournal n) (NoEntry b′ r′ s′ l′ es′ p′ a′ n′) = absurd (no_header job claim is b′ (r′ ++ l′ ∷ s′) p′ n)
one_verdict job claim v w is (NoJournal n) (Illegal b′ j′ es′ i′ p′ a′ g′) = absurd (no_header job claim is b′ j′ p′ n)
one_verdict job claim v w is (NoJournal n) (OtherText b′ j′ es′ i′ p′ a′ g′ d′) = absurd (no_header job claim is b′ j′ p′ n)
one_verdict job claim v w is (NoJournal n) (Right b′ j′ es′ p′ a′ g′ t′) = absurd (no_header job claim is b′ j′ p′ n)
one_verdict job claim v w is (NoEntry b r s l es p a n) (NoJournal n′) = absurd (no_header job claim is b (r ++ l ∷ s) p n′)
one_verdict job claim v w is (NoEntry b r s l es p a n) (NoEntry b′ r′ s′ l′ es′ p′ a′ n′) = same_stop job claim is b b′ r r′ s s′ l l′ es es′ p p′ a a′ n n′
one_verdict job claim v w is (NoEntry b r s l es p a n) (Illegal b′ j′ es′ i′ p′ a′ g′) = absurd (not_read job claim is b b′ r s j′ l es′ p n p′ a′)
one_verdict job claim v w is (NoEntry b r s l es p a n) (OtherText b′ j′ es′ i′ p′ a′ g′ d′) = absurd (not_read job claim is b b′ r s j′ l es′ p n p′ a′)
one_verdict job claim v w is (NoEntry b r s l es p a n) (Right b′ j′ es′ p′ a′ g′ t′) = absurd (not_read job claim is b b′ r s j′ l es′ p n p′ a′)
one_verdict job claim v w is (Illegal b j es i p a g) (NoJournal n′) = absurd (no_header job claim is b j p n′)
one_verdict job claim v w is (Illegal b j es i p a g) (NoEntry b′ r′ s′ l′ es′ p′ a′ n′) = absurd (not_read job claim is b′ b r′ s′ j l′ es p′ n′ p a)
one_verdict job claim v w is (Illegal b j es i p a g) (Illegal b′ j′ es′ i′ p′ a′ g′) = same_illegal job claim is b b′ j j′ es es′ i i′ p p′ a a′ g g′
one_verdict job claim v w is (Illegal b j es i p a g) (OtherText b′ j′ es′ i′ p′ a′ g′ d′) = absurd (all_legal job claim is es es′ i (read_once job claim is b b′ j j′ es es′ p p′ a a′) g g′)
one_verdict job claim v w is (Illegal b j es i p a g) (Right b′ j′ es′ p′ a′ g′ t′) = absurd (all_legal job claim is es es′ i (read_once job claim is b b′ j j′ es es′ p p′ a a′) g g′)
one_verdict job claim v w is (OtherText b j es i p a g d) (NoJournal n′) = absurd (no_header job claim is b j p n′)
one_verdict job claim v w is (OtherText b j es i p a g d) (NoEntry b′ r′ s′ l′ es′ p′ a′ n′) = absurd (not_read job claim is b′ b r′ s′ j l′ es p′ n′ p a)
one_verdict job claim v w is (OtherText b j es i p a g d) (Illegal b′ j′ es′ i′ p′ a′ g′) = absurd (all_legal job claim is es′ es i′ (sym (read_once job claim is b b′ j j′ es es′ p p′ a a′)) g′ g)
one_verdict job claim v w is (OtherText b j es i p a g d) (OtherText b′ j′ es′ i′ p′ a′ g′ d′) = same_other job claim is es es′ i i′ (read_once job claim is b b′ j j′ es es′ p p′ a a′) d d′
one_verdict job claim v w is (OtherText b j es i p a g d) (Right b′ j′ es′ p′ a′ g′ t′) = absurd (not_same job claim is es es′ i (read_once job claim is b b′ j j′ es es′ p p′ a a′) d t′)
one_verdict job claim v w is (Right b j es p a g t) (NoJournal n′) = absurd (no_header job claim is b j p n′)
one_verdict job claim v w is (Right b j es p a g t) (NoEntry b′ r′ s′ l′ es′ p′ a′ n′) = absurd (not_read job claim is b′ b r′ s′ j l′ es p′ n′ p a)
one_verdict job claim v w is (Right b j es p a g t) (Illegal b′ j′ es′ i′ p′ a′ g′) = absurd (all_legal job claim is es′ es i′ (sym (read_once job claim is b b′ j j′ es es′ p p′ a a′)) g′ g)
one_verdict job claim v w is (Right b j es p a g t) (OtherText b′ j′ es′ i′ p′ a′ g′ d′) = absurd (not_same job claim is es′ es i′ (sym (read_once job claim is b b′ j j′ es es′ p p′ a a′)) d′ t)
one_verdict job claim v w is (Right b j es p a g t) (Right b′ j′ es′ p′ a′ g′ t′) = refl
