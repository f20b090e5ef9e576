-- Answered scans stay so while entries are added, and each round adds one.
use Rattle.kernel_core.proofs.Common.{◌≡◌, ◌≢◌, ◌⊎◌, inl, inr, ℕ, ◌+◌, ◌<◌, ◌≤◌, true, false, List, [], ◌∷◌, ◌++◌, length, Option, Some, None, refl, sym, ap, ◌∙◌, subst, arith, take_all, length-append, cases_eq, cases_lt, eq-eqb, ne_eqb, ◌==◌, if◌then◌else◌, ThreadId, Entry, Model, ScanModel, pending, after, noted, Setup}
use Rattle.std.proofs.lemmas.List.{take-append-le}
use Rattle.ink_base.specs.declared.entry.Entry.TheVariants as entries
use Rattle.never_cut.specs.State.{is_looked}
use Rattle.kernel_core.specs.Scanned.{entry_at}
use Rattle.kernel_core.specs.Answered.{state_after, HasCommit, HasLook, IsAllQuiet, IsAnswered, HasAnswered}
use Rattle.kernel_core.proofs.Scanned.{stays}

-- the entry that is added stands last
pub last_entry : (es : List Entry) (e : Entry) → entry_at (es ++ e ∷ []) (length es) ≡ e
last_entry [] e = refl
last_entry (x ∷ es) e = last_entry es e

pub longer : (es : List Entry) (e : Entry) → length (es ++ e ∷ []) ≡ length es + 1
longer es e = length-append es (e ∷ [])

commit_stays : (es : List Entry) (e : Entry) (from to : ℕ) → to ≤ length es → HasCommit es from to → HasCommit (es ++ e ∷ []) from to
commit_stays es e from to within h = let below : h.0 < to = h.2 in (h.0, h.1, h.2, h.3, stays es e h.0 (omega arith) ∙ h.4)

pub look_stays : (es : List Entry) (e : Entry) (from to t : ℕ) → to ≤ length es → HasLook es from to t → HasLook (es ++ e ∷ []) from to t
look_stays es e from to t within h = let below : h.0 < to = h.2 in (h.0, h.1, h.2, stays es e h.0 (omega arith) ∙ h.3)

-- and to a later place
pub look_later : (es : List Entry) (from to more t : ℕ) → to ≤ more → HasLook es from to t → HasLook es from more t
look_later es from to more t le h = let below : h.0 < to = h.2 in (h.0, h.1, omega arith, h.3)

quiet_stays : (s : Setup) (before es : List Entry) (e : Entry) (from to : ℕ) → to ≤ length es → IsAllQuiet s before es from to → IsAllQuiet s before (es ++ e ∷ []) from to
quiet_stays s before es e from to within h = record {
  looks = λ t known. look_stays es e from to t within (h.looks t known);
  nothing = λ t known.
      subst (λ (l : List Entry). pending s.program (after s.program s.readings s.first (before ++ l)) t ≡ None) (sym (take-append-le to es (e ∷ []) within)) (h.nothing t known);
}

answer_stays : (s : Setup) (before es : List Entry) (e : Entry) (at : ℕ) → IsAnswered s before es at → IsAnswered s before (es ++ e ∷ []) at
answer_stays s before es e at h =
    let behind = h.behind in
    let within = h.within in
    let more = longer es e in
    record {
      scan = stays es e at (omega arith) ∙ h.scan;
      to = h.to;
      behind = h.behind;
      within = omega arith;
      last = λ j above below is. h.last j above below (sym (stays es e j (omega arith)) ∙ is);
      answer = elim h.answer [ inl commit ↦ inl (commit_stays es e at h.to within commit) | inr quiet ↦ inr (quiet_stays s before es e at h.to within quiet) ];
    }

-- answered scans stay so, whatever is noted behind them
pub answers_stay : (s : Setup) (before es : List Entry) (o : Option Entry) (count : ℕ) → HasAnswered s before es count → HasAnswered s before (noted es o) count
answers_stay s before es None count h = h
answers_stay s before es (Some e) count h = record { place = h.place; rising = h.rising; answered = λ a below. answer_stays s before es e (h.place a) (h.answered a below) }

-- no scan at first
pub none_answered : (s : Setup) (before es : List Entry) → HasAnswered s before es 0
none_answered s before es = record { place = λ a. a; rising = λ a b lt below. absurd (omega arith); answered = λ a below. absurd (omega arith) }

-- fewer are answered too
pub fewer_answered : (s : Setup) (before es : List Entry) (count fewer : ℕ) → fewer ≤ count → HasAnswered s before es count → HasAnswered s before es fewer
fewer_answered s before es count fewer le h = record {
  place = h.place;
  rising = λ a b lt below. h.rising a b lt (omega arith);
  answered = λ a below. h.answered a (omega arith);
}

-- the places with one more
abbrev one_more : (ℕ → ℕ) → (count at : ℕ) → ℕ → ℕ
one_more place count at a = if a == count then at else place a

-- one more is answered, behind them
pub more_answered : (s : Setup) (before es : List Entry) (count at : ℕ) (h : HasAnswered s before es count) → ((a : ℕ) → a < count → h.place a < at) →
    IsAnswered s before es at → HasAnswered s before es (count + 1)
more_answered s before es count at h behind answered = record { place = one_more h.place count at; rising = rising; answered = all }
  where
    rising : (a b : ℕ) → a < b → b < count + 1 → one_more h.place count at a < one_more h.place count at b
    rising a b lt below =
        elim (cases_eq b count) [
          | inl last ↦ rw (ne_eqb a count (λ e. omega arith), eq-eqb b count last) (behind a (omega arith))
          | inr other ↦ rw (ne_eqb a count (λ e. omega arith), ne_eqb b count other) (h.rising a b lt (omega arith))
        ]

    all : (a : ℕ) → a < count + 1 → IsAnswered s before es (one_more h.place count at a)
    all a below =
        elim (cases_eq a count) [
          | inl last ↦ rw (eq-eqb a count last) answered
          | inr other ↦ rw (ne_eqb a count other) (h.answered a (omega arith))
        ]

-- A scan at a place is the last so far, and behind the answered ones.
pub record Waits (s : Setup) (before es : List Entry) (count at : ℕ) : Type 0 where
  pub has : HasAnswered s before es count
  pub behind : (a : ℕ) → a < count → has.place a < at
  pub scan : entry_at es at ≡ entries.Scan
  pub within : at < length es
  pub last : (j : ℕ) → at < j → j < length es → entry_at es j ≢ entries.Scan

-- a scan that begins
pub waits_begin : (s : Setup) (before es : List Entry) (count : ℕ) → HasAnswered s before es count → Waits s before (es ++ entries.Scan ∷ []) count (length es)
unfolding answers_stay
waits_begin s before es count h =
    let more = longer es entries.Scan in
    record {
      has = answers_stay s before es (Some entries.Scan) count h;
      behind = λ a below. let answered = h.answered a below in let lt = answered.behind in let le = answered.within in omega arith;
      scan = last_entry es entries.Scan;
      within = omega arith;
      last = λ j above below. absurd (omega arith);
    }

not_scan_more : (es : List Entry) (e : Entry) (at : ℕ) → e ≢ entries.Scan → ((j : ℕ) → at < j → j < length es → entry_at es j ≢ entries.Scan) →
    (j : ℕ) → at < j → j < length (es ++ e ∷ []) → entry_at (es ++ e ∷ []) j ≢ entries.Scan
not_scan_more es e at other last j above below is =
    let more = longer es e in
    elim (cases_lt j (length es)) [
      | inl lt ↦ last j above lt (sym (stays es e j lt) ∙ is)
      | inr end ↦ let here : j ≡ length es = omega arith in other (sym (last_entry es e) ∙ (ap (λ n. entry_at (es ++ e ∷ []) n) (sym here) ∙ is))
    ]

-- and waits while others follow
pub waits_stay : (s : Setup) (before es : List Entry) (o : Option Entry) (count at : ℕ) → o ≢ Some entries.Scan → Waits s before es count at → Waits s before (noted es o) count at
unfolding answers_stay
waits_stay s before es None count at other h = h
waits_stay s before es (Some e) count at other h =
    let within = h.within in
    let more = longer es e in
    record {
      has = answers_stay s before es (Some e) count h.has;
      behind = h.behind;
      scan = stays es e at within ∙ h.scan;
      within = omega arith;
      last = not_scan_more es e at (λ is. other (ap (λ x. Some x) is)) h.last;
    }

-- a commit answers it
pub commit_answers : (s : Setup) (before es : List Entry) (thread : ThreadId) (count at : ℕ) → Waits s before es count at → HasAnswered s before (es ++ entries.Commit thread ∷ []) (count + 1)
commit_answers s before es thread count at h =
    let waits = waits_stay s before es (Some (entries.Commit thread)) count at (λ is. cc) h in
    let within = h.within in
    let more = longer es (entries.Commit thread) in
    more_answered s before (es ++ entries.Commit thread ∷ []) count at waits.has waits.behind
    (record {
      scan = waits.scan;
      to = length (es ++ entries.Commit thread ∷ []);
      behind = waits.within;
      within = omega arith;
      last = waits.last;
      answer = inl (length es, within, omega arith, thread, last_entry es (entries.Commit thread));
    })

-- and so does the end of a scan that has looked at every thread, where none has a pending event
pub quiet_answers : (s : Setup) (before es : List Entry) (m : Model) (count at : ℕ) → Waits s before es count at → after s.program s.readings s.first (before ++ es) ≡ m →
    ((t : ℕ) → t < length s.program.threads → HasLook es at (length es) t) → ((t : ℕ) → t < length s.program.threads → pending s.program m t ≡ None) → HasAnswered s before es (count + 1)
quiet_answers s before es m count at h is looks nothing =
    let state : state_after s before es (length es) ≡ m = ap (λ (l : List Entry). after s.program s.readings s.first (before ++ l)) (take_all (length es) es (omega arith)) ∙ is in
    more_answered s before es count at h.has h.behind
    (record {
      scan = h.scan;
      to = length es;
      behind = h.within;
      within = omega arith;
      last = h.last;
      answer = inr (record { looks = looks; nothing = λ t known. subst (λ (z : Model). pending s.program z t ≡ None) (sym state) (nothing t known) });
    })

-- the looks of the scan that is there have their entries behind a place
abbrev pub AreNoted : (es : List Entry) → (at : ℕ) → Option ScanModel → Type 0
AreNoted es at o = (scan : ScanModel) → o ≡ Some scan → (t : ℕ) → is_looked scan.looked t ≡ true → HasLook es at (length es) t

pub looks_stay : (es : List Entry) (o : Option Entry) (at : ℕ) (now next : Option ScanModel) → next ≡ now → AreNoted es at now → AreNoted (noted es o) at next
looks_stay es None at now next same h scan is t looked = h scan (sym same ∙ is) t looked
looks_stay es (Some e) at now next same h scan is t looked =
    let more = longer es e in
    look_later (es ++ e ∷ []) at (length es) (length (es ++ e ∷ [])) t (omega arith) (look_stays es e at (length es) t (omega arith) (h scan (sym same ∙ is) t looked))

-- a thread that was looked at is one of before or the last
looked_either : (looked : List ThreadId) (thread : ThreadId) (t : ℕ) → is_looked (looked ++ thread ∷ []) t ≡ true → (is_looked looked t ≡ true) ⊎ (thread.0 ≡ t)
looked_either [] thread t is =
    elim (cases_eq thread.0 t) [ inl same ↦ inr same | inr other ↦ absurd (let none : is_looked (thread ∷ []) t ≡ false = rw (ne_eqb thread.0 t other) refl in cc) ]
looked_either (u ∷ looked) thread t is =
    elim (cases_eq u.0 t) [
      | inl same ↦ inl (rw (eq-eqb u.0 t same) refl)
      | inr other ↦ rw (ne_eqb u.0 t other) (looked_either looked thread t (rw (ne_eqb u.0 t other) at is))
    ]

-- with one more look
pub looks_more : (es : List Entry) (thread : ThreadId) (at : ℕ) (now : Option ScanModel) → at < length es → AreNoted es at now →
    AreNoted (es ++ entries.Look thread ∷ []) at (elim now [ None ↦ None | Some scan ↦ Some (record scan { looked = scan.looked ++ thread ∷ [] }) ])
looks_more es thread at None within h scan is t looked = absurd cc
looks_more es thread at (Some old) within h scan is t looked =
    let e : Entry = entries.Look thread in
    let more = longer es (entries.Look thread) in
    let same : record old { looked = old.looked ++ thread ∷ [] } ≡ scan = cc in
    elim (looked_either old.looked thread t (subst (λ (z : ScanModel). is_looked z.looked t ≡ true) (sym same) looked)) [
      | inl before ↦ look_later (es ++ entries.Look thread ∷ []) at (length es) (length (es ++ entries.Look thread ∷ [])) t (omega arith) (look_stays es (entries.Look thread) at (length es) t (omega arith) (h old refl t before))
      | inr here ↦ (length es, within, omega arith, last_entry es (entries.Look thread) ∙ ap (λ (n : ℕ). entries.Look (record { 0 = n })) here)
    ]
