-- How the reading of a journal goes on, and which entries have the same lines.
use Rattle.ink_audit.proofs.Common.{◌≡◌, ℕ, ◌<◌, ◌≤◌, List, [], ◌∷◌, ◌++◌, length, map, get_or, All, decimal, inl, inr, refl, sym, ap, ◌∙◌, arith, append_assoc, length-map, map-append, All-push, All-head, All-tail, cases_lt, Program, IsAccepted, thread_def, Entry, Push, Refuse, Skip, Tick, Scan, Look, Commit, Release, entry_line, ended, header, lines, IsOther, HasJournal, IsEntryOf, IsLineOf, AreLinesOf, append_cancel_right, codes}
use Rattle.std.proofs.lemmas.Fmt.{decimal_injective}
use Rattle.ink_base.specs.declared.ids.SourceId.{SourceId}
use Rattle.ink_base.specs.declared.ids.ThreadId.{ThreadId}
use Rattle.ink_audit.proofs.Lines.{few_lines}
use Rattle.ink_audit.proofs.Entries.{spelled, line_spelled}

-- one line more
pub are_push : (program : Program) (entries : List Entry) (read : List (List ℕ)) (e : Entry) (line : List ℕ) → AreLinesOf program entries read → IsLineOf program e line →
    AreLinesOf program (entries ++ e ∷ []) (read ++ line ∷ [])
are_push program entries read e line are is = record {
  each = All-push (IsEntryOf program) entries e are.each is.entry;
  same = map-append (entry_line program) entries (e ∷ []) ∙ (λ k. are.same k ++ is.same k ∷ []) ∙ sym (map-append ended read (line ∷ []));
}

pub parts_push : (whole front rest : List (List ℕ)) (behind : List (List ℕ)) (line : List ℕ) → whole ≡ front ++ rest → rest ≡ line ∷ behind → whole ≡ (front ++ line ∷ []) ++ behind
parts_push whole front rest behind line parts next = parts ∙ ap (λ (l : List (List ℕ)). front ++ l) next ∙ sym (append_assoc front (line ∷ []) behind)

-- there are no more entries than bytes
pub few_entries : (program : Program) (entries : List Entry) (text : List ℕ) → AreLinesOf program entries (lines text) → length entries ≤ length text
few_entries program entries text are =
    omega (arith, length-map entries (entry_line program), length-map (lines text) ended, ap (λ (ls : List (List ℕ)). length ls) are.same, few_lines text)

-- a claim's lines are parted in one way
pub record SameParts (a b x y : List (List ℕ)) : Type 0 where
  pub before : a ≡ b
  pub journal : x ≡ y

pub parted : (a b x y : List (List ℕ)) → All IsOther a → All IsOther b → a ++ header ∷ x ≡ b ++ header ∷ y → SameParts a b x y
parted [] [] x y first other same = record { before = refl; journal = cc }
parted [] (l ∷ b) x y first other same = absurd (All-head IsOther l b other (cc))
parted (l ∷ a) [] x y first other same = absurd (All-head IsOther l a first (cc))
parted (l ∷ a) (m ∷ b) x y first other same =
    let rest = parted a b x y (All-tail IsOther l a first) (All-tail IsOther m b other) (cc) in
    let front : l ≡ m = cc in
    record { before = λ k. front k ∷ rest.before k; journal = rest.journal }

pub same_journal : (claim : List ℕ) (a b x y : List (List ℕ)) → HasJournal claim a x → HasJournal claim b y → SameParts a b x y
same_journal claim a b x y first second = parted a b x y first.first second.first (sym first.lines ∙ second.lines)

-- entries with the same line are the same
module _ (program : Program) (accepted : IsAccepted program) where
  same_source : (i j : SourceId) → i.0 < length program.sources → j.0 < length program.sources → decimal i.0 ≡ decimal j.0 → i ≡ j
  same_source i j known other same =
      let few = accepted.counts.sources in
      ap (λ (n : ℕ). record { 0 = n }) (decimal_injective i.0 j.0 (omega arith) (omega arith) same)

  same_thread : (t u : ThreadId) → t.0 < length program.threads → u.0 < length program.threads → (thread_def program t.0).name ≡ (thread_def program u.0).name → t ≡ u
  same_thread t u known other same =
      elim (cases_lt t.0 u.0) [
        | inl below ↦ absurd (accepted.distinct.threads t.0 u.0 below other same)
        | inr above ↦ elim (cases_lt u.0 t.0) [
          | inl below ↦ absurd (accepted.distinct.threads u.0 t.0 below known (sym same))
          | inr neither ↦ ap (λ (n : ℕ). record { 0 = n }) (omega arith)
        ]
      ]

  same_spelled : (e f : Entry) → IsEntryOf program e → IsEntryOf program f → spelled program e ≡ spelled program f → e ≡ f
  same_spelled (Push i) (Push j) known other same = ap Push (same_source i j known.names other.names (cc))
  same_spelled (Refuse i) (Refuse j) known other same = ap Refuse (same_source i j known.names other.names (cc))
  same_spelled (Skip i) (Skip j) known other same = ap Skip (same_source i j known.names other.names (cc))
  same_spelled (Tick by) (Tick more) known other same = ap Tick (decimal_injective by more known.ticks other.ticks (cc))
  same_spelled Scan Scan known other same = refl
  same_spelled (Look t) (Look u) known other same = ap Look (same_thread t u known.names other.names (cc))
  same_spelled (Commit t) (Commit u) known other same = ap Commit (same_thread t u known.names other.names (cc))
  same_spelled (Release t) (Release u) known other same = ap Release (same_thread t u known.names other.names (cc))
  same_spelled e f known other same = absurd (let third : get_or (spelled program e) 2 0 ≡ get_or (spelled program f) 2 0 = ap (λ (w : List ℕ). get_or w 2 0) same in omega (arith, third))

  same_line : (e f : Entry) → IsEntryOf program e → IsEntryOf program f → entry_line program e ≡ entry_line program f → e ≡ f
  same_line e f known other same =
      same_spelled e f known other (append_cancel_right (spelled program e) (spelled program f) (codes "\n") (sym (line_spelled program e) ∙ same ∙ line_spelled program f))

  same_lines : (es fs : List Entry) → All (IsEntryOf program) es → All (IsEntryOf program) fs → map (entry_line program) es ≡ map (entry_line program) fs → es ≡ fs
  same_lines [] [] known other same = refl
  same_lines [] (f ∷ fs) known other same = absurd (cc)
  same_lines (e ∷ es) [] known other same = absurd (cc)
  same_lines (e ∷ es) (f ∷ fs) known other same =
      let first : e ≡ f = same_line e f (All-head (IsEntryOf program) e es known) (All-head (IsEntryOf program) f fs other) (cc) in
      let rest : es ≡ fs = same_lines es fs (All-tail (IsEntryOf program) e es known) (All-tail (IsEntryOf program) f fs other) (cc) in
      λ k. first k ∷ rest k

  -- the lines of a journal are those of one list of entries
  pub same_entries : (es fs : List Entry) (ls ms : List (List ℕ)) → ls ≡ ms → AreLinesOf program es ls → AreLinesOf program fs ms → es ≡ fs
  same_entries es fs ls ms same are other = same_lines es fs are.each other.each (are.same ∙ ap (map ended) same ∙ sym other.same)
