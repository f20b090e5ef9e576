-- One entry more in a summary.
use Rattle.ink_report.proofs.Common.{◌≡◌, ◌≢◌, ℕ, ◌+◌, ◌^◌, ◌<◌, ◌≤◌, ◌==◌, Bool, true, false, if◌then◌else◌, List, [], ◌∷◌, ◌++◌, map, length, get_or, set, refl, sym, ap, ◌∙◌, subst, arith, All, append_assoc, inl, inr, length-set, get_or-set_other, range_with_len, cases_eq, cases_lt, nat_tests, All-set, set_past, fill_by_all, get_or-map-range_with_len, length-map-range_with_len, Entry, Push, Refuse, Skip, Tick, Scan, Look, Commit, Release, Program, Model, source_of, Summary, is_push, is_refusal, source_summary, summary_of, HasRoomFor}
use Rattle.std.proofs.lemmas.List.Sums.{sum_by_push, count_by-le-length}
use Rattle.std.proofs.lemmas.Grind.{get_or-set_at}
use Rattle.ink_report.specs.declared.summary.SourceSummary.{SourceSummary}
use Rattle.ink_report.specs.kept.Noted.{no_source, source_with_more, with_more, noted}

abbrev flag : Bool → ℕ
flag b = if b then 1 else 0

-- what is told of a source with one entry more
one_more : (m : Model) (journal : List Entry) (e : Entry) (k : ℕ) →
    source_summary m (journal ++ e ∷ []) k ≡ source_with_more (flag (is_push k e)) (flag (is_refusal k e)) (source_summary m journal k)
one_more m journal e k = λ i. record {
  source = record { 0 = k };
  next = (source_of m k).next;
  pushed = sum_by_push (λ x. if is_push k x then 1 else 0) journal e i;
  refused = sum_by_push (λ x. if is_refusal k x then 1 else 0) journal e i;
}

none_more : (x : SourceSummary) → source_with_more 0 0 x ≡ x
none_more x =
    let pushed : x.pushed + 0 ≡ x.pushed = omega arith in
    let refused : x.refused + 0 ≡ x.refused = omega arith in
    λ i. record { source = x.source; next = x.next; pushed = pushed i; refused = refused i }

same_source : (m : Model) (journal : List Entry) (e : Entry) (k : ℕ) → is_push k e ≡ false → is_refusal k e ≡ false → source_summary m (journal ++ e ∷ []) k ≡ source_summary m journal k
same_source m journal e k push refusal =
    one_more m journal e k ∙ (λ i. source_with_more (flag (push i)) (flag (refusal i)) (source_summary m journal k)) ∙ none_more (source_summary m journal k)

-- what is told of the first n sources
abbrev told_before : Model → List Entry → ℕ → List SourceSummary
told_before m journal n = map (source_summary m journal) (range_with_len 0 n)

told_at : (m : Model) (journal : List Entry) (n k : ℕ) → k < n → get_or (told_before m journal n) k no_source ≡ source_summary m journal k
told_at m journal n k lt = get_or-map-range_with_len (source_summary m journal) 0 n k k no_source lt (omega arith)

-- an entry of no source changes nothing
others : (m : Model) (journal : List Entry) (e : Entry) (n : ℕ) → ((k : ℕ) → is_push k e ≡ false) → ((k : ℕ) → is_refusal k e ≡ false) →
    told_before m journal n ≡ told_before m (journal ++ e ∷ []) n
others m journal e n push refusal =
    fill_by_all (source_summary m (journal ++ e ∷ [])) (told_before m journal n) n no_source (length-map-range_with_len (source_summary m journal) 0 n)
    (λ k lt. told_at m journal n k lt ∙ sym (same_source m journal e k (push k) (refusal k)))

-- an entry of source i changes what is told of it alone
module _ (m : Model) (journal : List Entry) (e : Entry) (n i : ℕ) (push refusal : Bool) (pushes : is_push i e ≡ push) (refuses : is_refusal i e ≡ refusal) where
  abbrev more : SourceSummary
  more = source_with_more (flag push) (flag refusal) (get_or (told_before m journal n) i no_source)

  here : (k : ℕ) → k < n → k ≡ i → get_or (set (told_before m journal n) i more) k no_source ≡ source_summary m (journal ++ e ∷ []) k
  here k lt same =
      let inside : i < n = omega arith in
      get_or-set_at (told_before m journal n) i k more no_source same (omega (arith, length-map-range_with_len (source_summary m journal) 0 n))
      ∙ ap (source_with_more (flag push) (flag refusal)) (told_at m journal n i inside)
      ∙ (λ j. source_with_more (flag (sym pushes j)) (flag (sym refuses j)) (source_summary m journal i))
      ∙ sym (one_more m journal e i)
      ∙ ap (source_summary m (journal ++ e ∷ [])) (sym same)

  of_source : ((k : ℕ) → k ≢ i → is_push k e ≡ false) → ((k : ℕ) → k ≢ i → is_refusal k e ≡ false) → set (told_before m journal n) i more ≡ told_before m (journal ++ e ∷ []) n
  of_source no_push no_refusal =
      fill_by_all (source_summary m (journal ++ e ∷ [])) (set (told_before m journal n) i more) n no_source
      (length-set (told_before m journal n) i more ∙ length-map-range_with_len (source_summary m journal) 0 n)
      (λ k lt. elim (cases_eq k i) [
        | inl same ↦ here k lt same
        | inr other ↦
            get_or-set_other (told_before m journal n) i k more no_source other ∙ told_at m journal n k lt
            ∙ sym (same_source m journal e k (no_push k other) (no_refusal k other))
      ])

-- the numbers of sources as tests
differ : (a b : ℕ) → b ≢ a → (a == b) ≡ false
differ a b other = grind (arith, nat_tests)

itself : (a : ℕ) → (a == a) ≡ true
itself a = grind (arith, nat_tests)

sources_noted : (program : Program) (m : Model) (journal : List Entry) (charges : ℕ) (e : Entry) →
    (noted e (summary_of program m journal charges)).sources ≡ (summary_of program m (journal ++ e ∷ []) charges).sources
sources_noted program m journal charges (Push i) =
    of_source m journal (Push i) (length program.sources) i.0 true false (itself i.0) refl (λ k other. differ i.0 k other) (λ k other. refl)
sources_noted program m journal charges (Refuse i) =
    of_source m journal (Refuse i) (length program.sources) i.0 false true refl (itself i.0) (λ k other. refl) (λ k other. differ i.0 k other)
sources_noted program m journal charges (Skip i) = others m journal (Skip i) (length program.sources) (λ k. refl) (λ k. refl)
sources_noted program m journal charges (Tick by) = others m journal (Tick by) (length program.sources) (λ k. refl) (λ k. refl)
sources_noted program m journal charges Scan = others m journal Scan (length program.sources) (λ k. refl) (λ k. refl)
sources_noted program m journal charges (Look t) = others m journal (Look t) (length program.sources) (λ k. refl) (λ k. refl)
sources_noted program m journal charges (Commit t) = others m journal (Commit t) (length program.sources) (λ k. refl) (λ k. refl)
sources_noted program m journal charges (Release t) = others m journal (Release t) (length program.sources) (λ k. refl) (λ k. refl)

-- an entry changes nothing but the sources
noted_keeps : (e : Entry) (s : Summary) → noted e s ≡ record s { sources = (noted e s).sources }
noted_keeps (Push i) s = refl
noted_keeps (Refuse i) s = refl
noted_keeps (Skip i) s = refl
noted_keeps (Tick by) s = refl
noted_keeps Scan s = refl
noted_keeps (Look t) s = refl
noted_keeps (Commit t) s = refl
noted_keeps (Release t) s = refl

-- the summary of a state and a journal becomes that of the journal with the entry
pub noted_is : (program : Program) (m : Model) (journal : List Entry) (charges : ℕ) (e : Entry) (s : Summary) → s ≡ summary_of program m journal charges →
    noted e s ≡ summary_of program m (journal ++ e ∷ []) charges
noted_is program m journal charges e s is =
    ap (noted e) is ∙ noted_keeps e (summary_of program m journal charges)
    ∙ ap (λ (sources : List SourceSummary). record (summary_of program m journal charges) { sources = sources }) (sources_noted program m journal charges e)

-- an entry takes up room for one
more_room : (n i p r : ℕ) (s : Summary) → p ≤ 1 → r ≤ 1 → HasRoomFor (n + 1) s → HasRoomFor n (with_more i p r s)
more_room n i p r s few none room =
    let rest : HasRoomFor n s = λ k d lt. let x = room k d lt in (omega arith, omega arith) in
    let more : SourceSummary = source_with_more p r (get_or s.sources i no_source) in
    elim (cases_lt i (length s.sources)) [
      | inl known ↦ let x = room i no_source known in All-set (λ (x : SourceSummary). (x.pushed + n < 2 ^ 64) × (x.refused + n < 2 ^ 64)) s.sources i more (omega arith, omega arith) rest
      | inr past ↦ subst (λ (xs : List SourceSummary). All (λ (x : SourceSummary). (x.pushed + n < 2 ^ 64) × (x.refused + n < 2 ^ 64)) xs) (sym (set_past s.sources i more past)) rest
    ]

pub noted_room : (n : ℕ) (e : Entry) (s : Summary) → HasRoomFor (n + 1) s → HasRoomFor n (noted e s)
noted_room n (Push i) s room = more_room n i.0 1 0 s (omega arith) (omega arith) room
noted_room n (Refuse i) s room = more_room n i.0 0 1 s (omega arith) (omega arith) room
noted_room n e s room = λ k d lt. let x = room k d lt in (omega arith, omega arith)

-- a summary of so few entries has room for so many more
pub summary_has_room : (program : Program) (m : Model) (journal : List Entry) (charges n : ℕ) → length journal + n < 2 ^ 64 → HasRoomFor n (summary_of program m journal charges)
summary_has_room program m journal charges n few = λ k d lt.
    let inside : k < length program.sources = omega (arith, length-map-range_with_len (source_summary m journal) 0 (length program.sources)) in
    subst (λ (x : SourceSummary). (x.pushed + n < 2 ^ 64) × (x.refused + n < 2 ^ 64))
    (sym (get_or-map-range_with_len (source_summary m journal) 0 (length program.sources) k k d inside (omega arith)))
    (omega (arith, count_by-le-length (is_push k) journal), omega (arith, count_by-le-length (is_refusal k) journal))

-- a summary in which these entries are counted, and that has room for so many more
pub record Counts (old now : Summary) (entries : List Entry) (left : ℕ) : Type 0 where
  pub room : HasRoomFor left now
  pub told : (program : Program) → (m : Model) → (journal : List Entry) → (charges : ℕ) → old ≡ summary_of program m journal charges → now ≡ summary_of program m (journal ++ entries) charges

-- one entry more
pub counts_more : (old now new : Summary) (entries more : List Entry) (e : Entry) (room left : ℕ) → room ≡ left + 1 → more ≡ entries ++ e ∷ [] → new ≡ noted e now → Counts old now entries room →
    Counts old new more left
counts_more old now new entries more e room left one longer makes counts = record {
  room = subst (HasRoomFor left) (sym makes) (noted_room left e now (subst (λ n. HasRoomFor n now) one counts.room));
  told = λ program m journal charges is.
      makes ∙ noted_is program m (journal ++ entries) charges e now (counts.told program m journal charges is)
      ∙ ap (λ (l : List Entry). summary_of program m l charges) (append_assoc journal entries (e ∷ []) ∙ ap (λ (l : List Entry). journal ++ l) (sym longer));
}
