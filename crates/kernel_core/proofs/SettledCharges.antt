-- The pace of the sources in the charge at hand, and that each charge has settled enough.
use Rattle.kernel_core.proofs.Common.{◌≡◌, inl, inr, ℕ, ◌+◌, ◌-◌, ◌<◌, ◌≤◌, cond, Bool, List, length, set, slice_index, Option, Some, None, refl, sym, ap, ◌∙◌, subst, arith, eq-eqb, ne_eqb, cases_eq, get_or-set_same, Entry, Tail, source_thread, Row, Point, places_for, Step, readings_of, noted, ChargeRecord, charge_of, not_begun, Setup, Board, sides, entry_of_source, row_of, sides_of, memory, state, Holds}
use Rattle.std.specs.List.{count_by}
use Rattle.std.proofs.lemmas.List.Sums.{sum_by_push}
use Rattle.push_core.specs.Queue.{published}
use Rattle.push_core.specs.declared.point.Point.TheVariants as points
use Rattle.source_laws.specs.Stands.{near}
use Rattle.kernel_core.specs.Settled.{settles, pushes_beside, SettlesEnough}
use Rattle.kernel_core.specs.kept.Paces.{IsPaced, IsPacedIn, IsFresh, Settles}
use Rattle.kernel_core.proofs.Charges.{others_stay}
use Rattle.kernel_core.proofs.SourcePaces.{paced_enough, others_pace}
use Rattle.kernel_core.proofs.PaceSteps.{settled_at, pushed_at, step_tails, step_events}
use Rattle.kernel_core.proofs.TurnViews.{viewed}

-- how often a test passes by an entry that may be noted
abbrev pub counted : (Entry → Bool) → Option Entry → ℕ
counted test None = 0
counted test (Some e) = cond (test e) 1 0

pub count_noted : (test : Entry → Bool) (es : List Entry) (o : Option Entry) → count_by test (noted es o) ≡ count_by test es + counted test o
count_noted test es None = omega arith
count_noted test es (Some e) = sum_by_push (λ x. cond (test x) 1 0) es e

-- a source's entry settles as many of its readings as the access did
pub own_counts : (i : ℕ) (p : Point) → counted (settles i) (entry_of_source i p) ≡ settled_at p
own_counts i points.Nothing = refl
own_counts i points.Pushed = rw (eq-eqb i i refl) refl
own_counts i points.Refused = refl
own_counts i points.Skipped = rw (eq-eqb i i refl) refl

-- and pushes as many events beside another source
pub beside_counts : (s : Setup) (i j : ℕ) (p : Point) → (j ≡ i → ⊥) → counted (pushes_beside s.program i) (entry_of_source j p) ≡ pushed_at (sides s) (source_thread s.program i) j p
beside_counts s i j points.Nothing other = refl
beside_counts s i j points.Pushed other = rw (ne_eqb j i other) refl
beside_counts s i j points.Refused other = refl
beside_counts s i j points.Skipped other = refl

enough_in : (s : Setup) (count : ℕ) (b : Board) (i : ℕ) (c : ChargeRecord) → Holds s count b → IsPacedIn s b i c → SettlesEnough s.program i c
enough_in s count b i c h p m enough =
    let near_tail = (h.kept.queues (source_thread s.program i)).tail_near in
    paced_enough i (places_for (sides s) i) (length (readings_of s.readings i)) (row_of b i).accepted (row_of b i).next (near (sides s) (viewed s b) i) (row_of b i).stage
    (slice_index c.source_steps i) (count_by (settles i) c.entries) (count_by (pushes_beside s.program i) c.entries) m
    (h.kept.sources i).knows (omega (arith, near_tail)) p enough

pub fresh_enough : (s : Setup) (i : ℕ) (c : ChargeRecord) → IsFresh c → SettlesEnough s.program i c
fresh_enough s i c fresh m enough = absurd (let none = fresh.steps i in omega arith)

-- a board whose charge at hand is replaced
pub set_settles : (s : Setup) (count : ℕ) (b next : Board) (k : ℕ) (new : ChargeRecord) → Holds s count next → Settles s b → next.charges ≡ set b.charges k new → k < length b.charges →
    next.begun ≡ k + 1 → b.begun ≤ next.begun → ((i : ℕ) → i < length s.program.sources → IsPacedIn s next i new) → Settles s next
set_settles s count b next k new holds h charges lt at begun paced =
    let here : charge_of next.charges k ≡ new = ap (λ l. charge_of l k) charges ∙ get_or-set_same b.charges k new (not_begun 0) lt in
    let last : next.begun - 1 ≡ k = omega arith in
    record {
      all = λ n i known. elim (cases_eq n k) [
        | inl same ↦ subst (λ (z : ℕ). SettlesEnough s.program i (charge_of next.charges z)) (sym same) (subst (SettlesEnough s.program i) (sym here) (enough_in s count next i new holds (paced i known)))
        | inr other ↦ subst (SettlesEnough s.program i) (sym (ap (λ l. charge_of l n) charges ∙ others_stay b.charges k n new other)) (h.all n i known)
      ];
      later = λ n le. subst IsFresh (sym (ap (λ l. charge_of l n) charges ∙ others_stay b.charges k n new (λ e. absurd (omega arith)))) (h.later n (omega arith));
      paced = λ some i known. subst (IsPacedIn s next i) (sym (ap (λ n. charge_of next.charges n) last ∙ here)) (paced i known);
    }

-- a turn that is no source's leaves the pace of each
pub still_paced : (s : Setup) (b next : Board) (i : ℕ) (c new : ChargeRecord) (o : Option Entry) → Step (sides s) (viewed s b) (viewed s next) → row_of next ≡ row_of b → new.source_steps ≡ c.source_steps →
    new.entries ≡ noted c.entries o → IsPacedIn s b i c → IsPacedIn s next i new
still_paced s b next i c new o step rows counts is p =
    let t : ℕ = source_thread s.program i in
    let settled = ap (λ es. count_by (settles i) es) is ∙ count_noted (settles i) c.entries o in
    let beside = ap (λ es. count_by (pushes_beside s.program i) es) is ∙ count_noted (pushes_beside s.program i) c.entries o in
    let made = ap (λ l. slice_index l i) counts in
    let events = step_events (sides s) (viewed s b) (viewed s next) step rows t in
    subst (λ (r : ℕ → Row). IsPaced (places_for (sides s) i) (slice_index new.source_steps i) (count_by (settles i) new.entries) (count_by (pushes_beside s.program i) new.entries)
    (memory s next (Tail t)) (published ((sides_of (state s next)).queue t)) (r i).stage) (sym rows)
    (others_pace (places_for (sides s) i) (slice_index c.source_steps i) (count_by (settles i) c.entries) (count_by (pushes_beside s.program i) c.entries) (memory s b (Tail t))
    (published ((sides_of (state s b)).queue t)) (row_of b i).stage
    (slice_index new.source_steps i) (count_by (settles i) new.entries) (count_by (pushes_beside s.program i) new.entries) (memory s next (Tail t)) (published ((sides_of (state s next)).queue t))
    (omega arith) (omega arith) (step_tails (sides s) (viewed s b) (viewed s next) step t) (omega arith) p)
