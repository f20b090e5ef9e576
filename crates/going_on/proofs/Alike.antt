-- Two states that differ by what a cut loses alone do so after the same legal entries too.
use Rattle.going_on.proofs.Common.{◌≡◌, ◌⊎◌, inl, inr, ℕ, zero, suc, ◌+◌, ◌<◌, ◌≤◌, Bool, true, false, List, [], ◌∷◌, length, map, get_or, set, cond, Option, Some, None, refl, sym, ap, ◌∙◌, subst, arith, slice_index, length-map, map-set, Entry, Program, Model, SourceModel, thread_of, source_of, no_source, Readings, readings_of, Legal, effect, IsLegal, after}
use Rattle.ink_base.specs.declared.entry.Entry.TheVariants.{Push, Refuse, Skip, Tick, Scan, Look, Commit, Release}
use Rattle.ink_base.specs.declared.event.Event.{Event}
use Rattle.std.specs.Prelude.{IsSome}
use Rattle.ink_base.specs.declared.ids.ThreadId.{ThreadId}
use Rattle.push_core.specs.Queue.{reading_event}
use Rattle.prog_check.specs.Lookup.{source_thread}
use Rattle.never_cut.specs.declared.scan_model.ScanModel.{ScanModel}
use Rattle.never_cut.specs.State.{is_running}
use Rattle.never_cut.specs.Pending.{pending}
use Rattle.never_cut.specs.Commit.{commit, committed, consumed, ended, end_at, expired, is_expired}
use Rattle.never_cut.specs.Entries.{ArePassed, InScan, MayLook, fed_by, next_event, looked, pushed, with_accepted, with_refused, with_skipped}
use Rattle.never_cut.proofs.Commits.{commit-sources}
use Rattle.going_on.specs.Lost.{unmarked, without_scan}
use Rattle.going_on.proofs.Rises.{AgreeFrom, IsAbove, AreMarked, IsAlike, set_marks, rises}

-- an element's image
pub image_at : (xs : List SourceModel) (i : ℕ) → get_or (map unmarked xs) i no_source ≡ unmarked (get_or xs i no_source)
image_at [] i = refl
image_at (x ∷ xs) zero = refl
image_at (x ∷ xs) (suc i) = image_at xs i

-- a commit takes no notice of sources
abbrev with_sources : List SourceModel → Model → Model
with_sources sources m = record m { sources = sources }

commit_apart : (program : Program) (t : ℕ) (sources : List SourceModel) (m : Model) →
    commit program t (with_sources sources m) ≡ with_sources sources (commit program t m)
commit_apart program t sources m = by_scan m.scan
  where
    by_end : (late running : Bool) (e : Event) (time : ℕ) →
        (record (cond late (expired t e (with_sources sources m))
        (ended t e time (end_at program m t e time) (consumed running e (with_sources sources m)))) { commits = m.commits + 1; scan = None })
        ≡ with_sources sources
        (record (cond late (expired t e m) (ended t e time (end_at program m t e time) (consumed running e m))) { commits = m.commits + 1; scan = None })
    by_end true running e time = refl
    by_end false true e time = refl
    by_end false false e time = refl

    by_pending : (scan : ScanModel) (q : Option Event) →
        elim q [ None ↦ with_sources sources m | Some e ↦ committed program t e scan.time (with_sources sources m) ]
        ≡ with_sources sources (elim q [ None ↦ m | Some e ↦ committed program t e scan.time m ])
    by_pending scan None = refl
    by_pending scan (Some e) = by_end (is_expired program m t scan.time) (is_running (thread_of m t)) e scan.time

    by_scan : (o : Option ScanModel) →
        elim o [
          | None ↦ with_sources sources m
          | Some scan ↦ elim
              (pending program m t) [ None ↦ with_sources sources m | Some e ↦ committed program t e scan.time (with_sources sources m) ]
        ]
        ≡ with_sources sources (elim o [ None ↦ m | Some scan ↦ elim (pending program m t) [ None ↦ m | Some e ↦ committed program t e scan.time m ] ])
    by_scan None = refl
    by_scan (Some scan) = by_pending scan (pending program m t)

-- a scan, if there is one, that has looked at one thread more
abbrev looked_on : ThreadId → Option ScanModel → Option ScanModel
looked_on t o = elim o [ None ↦ None | Some scan ↦ Some (looked t scan) ]

-- the first state with other sources and another scan
abbrev with_both : Model → List SourceModel → Option ScanModel → Model
with_both m sources scan = record m { sources = sources; scan = scan }

-- what a scan allows, if there is one
in_scan : (o : Option ScanModel) (P Q : ScanModel → Type 0) → ((x : ScanModel) → P x → Q x) → elim o as (λ _. Type 0) [ None ↦ ⊥ | Some x ↦ P x ] →
    elim o as (λ _. Type 0) [ None ↦ ⊥ | Some x ↦ Q x ]
in_scan None P Q all may = may
in_scan (Some x) P Q all may = all x may

-- each source has as many readings
abbrev pub AreAsMany : Program → (one two : Readings) → Type 0
AreAsMany program one two = (i : ℕ) → i < length program.sources → length (readings_of two i) ≡ length (readings_of one i)

module _ (program : Program) (one two : Readings) (floor : ℕ → ℕ) (agree : AgreeFrom floor one two) (many : AreAsMany program one two) where
  module _ (a : Model) (bs : List SourceModel) (sc : Option ScanModel) (same : map unmarked a.sources ≡ map unmarked bs)
      (scan : (sc ≡ None) ⊎ (sc ≡ a.scan)) (marks : AreMarked a.sources bs) where
    abbrev b : Model
    b = with_both a bs sc

    source_same : (i : ℕ) → unmarked (source_of a i) ≡ unmarked (source_of b i)
    source_same i = sym (image_at a.sources i) ∙ (ap (λ (l : List SourceModel). get_or l i no_source) same ∙ image_at bs i)

    -- sources that are set alike
    sources_set : (i : ℕ) (x y : SourceModel) → unmarked x ≡ unmarked y → map unmarked (set a.sources i x) ≡ map unmarked (set bs i y)
    sources_set i x y is = map-set unmarked a.sources i x ∙ ((λ k. set (same k) i (is k)) ∙ sym (map-set unmarked bs i y))

    long : length a.sources ≡ length bs
    long = sym (length-map a.sources unmarked) ∙ (ap (λ (l : List SourceModel). length l) same ∙ length-map bs unmarked)

    -- a reading is there with both
    has_reading : (i : ℕ) → i < length program.sources → (source_of b i).next < length (readings_of two i) → (source_of a i).next < length (readings_of one i)
    has_reading i lt there = let next = ap (λ (x : SourceModel). x.next) (source_same i) in omega (arith, many i lt, next, there)

    -- what is legal in the second state is so in the first
    legal_alike : (e : Entry) → Legal program two b e → Legal program one a e
    legal_alike (Push i) legal = (legal.0, has_reading i.0 legal.0 legal.1, legal.2)
    legal_alike (Refuse i) legal = (legal.0, has_reading i.0 legal.0 legal.1, legal.2)
    legal_alike (Skip i) legal = (legal.0, marks i.0 legal.1)
    legal_alike (Tick by) legal = legal
    legal_alike Scan legal = legal
    legal_alike (Look t) legal = (legal.0, by_scan scan legal.1)
      where
        by_scan : (sc ≡ None) ⊎ (sc ≡ a.scan) → InScan b (λ x. MayLook a x t.0) → InScan a (λ x. MayLook a x t.0)
        by_scan (inl none) may = absurd (subst (λ (o : Option ScanModel). InScan (with_both a bs o) (λ x. MayLook a x t.0)) none may)
        by_scan (inr is) may = subst (λ (o : Option ScanModel). InScan (with_both a bs o) (λ x. MayLook a x t.0)) is may
    legal_alike (Commit t) legal = let both = by_scan scan legal.1 legal.2 in (legal.0, both.0, both.1)
      where
        passed : (x : ScanModel) → ArePassed program b x t.0 → ArePassed program a x t.0
        passed x all u lt higher = let one = all u lt higher in record { looked = one.looked; idle = one.idle; nothing = one.nothing }

        by_scan : (sc ≡ None) ⊎ (sc ≡ a.scan) → InScan b (λ x. ArePassed program b x t.0) → IsSome (pending program b t.0) →
            InScan a (λ x. ArePassed program a x t.0) × IsSome (pending program a t.0)
        by_scan (inl none) may waits = absurd (subst (λ (o : Option ScanModel). InScan (with_both a bs o) (λ x. ArePassed program b x t.0)) none may)
        by_scan (inr is) may waits = (
          in_scan a.scan (λ x. ArePassed program b x t.0) (λ x. ArePassed program a x t.0) passed
              (subst (λ (o : Option ScanModel). InScan (with_both a bs o) (λ x. ArePassed program b x t.0)) is may),
          subst (λ (o : Option ScanModel). IsSome (pending program (with_both a bs o) t.0)) is waits,
        )
    legal_alike (Release t) legal = legal

    event_same : (i : ℕ) → floor i ≤ (source_of b i).next → next_event one a i ≡ next_event two b i
    event_same i above =
        let s = source_same i in
        (λ k. reading_event i (s k).accepted (slice_index (readings_of one i) (s k).next))
        ∙ ap (λ v. reading_event i (source_of b i).accepted v) (agree i (source_of b i).next above)

    step_alike : (e : Entry) → IsAbove floor b → Legal program two b e → IsAlike (effect program one a e) (effect program two b e)
    step_alike (Push i) above legal =
        let event = event_same i.0 (above i.0) in
        let s = source_same i.0 in
        let sources = sources_set i.0 (with_accepted (source_of a i.0)) (with_accepted (source_of b i.0))
        (λ k. record { next = (s k).next + 1; accepted = (s k).accepted + 1; refused = false }) in
        record {
          same = λ k. record (without_scan (effect program one a (Push i))) {
            threads = set a.threads (source_thread program i.0) (pushed (event k) (fed_by program a i.0));
            sources = sources k;
          };
          scan = scan;
          marks = set_marks a.sources bs i.0 (with_accepted (source_of a i.0)) (with_accepted (source_of b i.0)) long marks (λ is. is);
        }
    step_alike (Refuse i) above legal =
        let s = source_same i.0 in
        let sources = sources_set i.0 (with_refused (source_of a i.0)) (with_refused (source_of b i.0)) s in
        record {
          same = λ k. record (without_scan a) { sources = sources k };
          scan = scan;
          marks = set_marks a.sources bs i.0 (with_refused (source_of a i.0)) (with_refused (source_of b i.0)) long marks (λ is. is);
        }
    step_alike (Skip i) above legal =
        let s = source_same i.0 in
        let sources = sources_set i.0 (with_skipped (source_of a i.0)) (with_skipped (source_of b i.0))
        (λ k. record { next = (s k).next + 1; accepted = (s k).accepted; refused = false }) in
        record {
          same = λ k. record (without_scan a) { sources = sources k };
          scan = scan;
          marks = set_marks a.sources bs i.0 (with_skipped (source_of a i.0)) (with_skipped (source_of b i.0)) long marks (λ is. is);
        }
    step_alike (Tick by) above legal =
        record { same = λ k. record (without_scan (effect program one a (Tick by))) { sources = same k }; scan = scan; marks = marks }
    step_alike Scan above legal = record { same = λ k. record (without_scan a) { sources = same k }; scan = inr refl; marks = marks }
    step_alike (Look t) above legal = record { same = λ k. record (without_scan a) { sources = same k }; scan = by_scan scan legal.1; marks = marks }
      where
        by_scan : (sc ≡ None) ⊎ (sc ≡ a.scan) → InScan b (λ x. MayLook b x t.0) → (looked_on t sc ≡ None) ⊎ (looked_on t sc ≡ looked_on t a.scan)
        by_scan (inl none) legal = inl (ap (looked_on t) none)
        by_scan (inr is) legal = inr (ap (looked_on t) is)
    step_alike (Commit t) above legal = by_scan scan legal
      where
        by_scan : (sc ≡ None) ⊎ (sc ≡ a.scan) → Legal program two b (Commit t) → IsAlike (effect program one a (Commit t)) (effect program two b (Commit t))
        by_scan (inl none) legal = absurd (subst (λ (o : Option ScanModel). InScan (with_both a bs o) (λ x. ArePassed program b x t.0)) none legal.1)
        by_scan (inr is) legal =
            subst (λ (o : Option ScanModel). IsAlike (commit program t.0 a) (commit program t.0 (with_both a bs o))) (sym is)
            (subst (λ (m : Model). IsAlike (commit program t.0 a) m) (sym (commit_apart program t.0 bs a))
            (record {
              same = λ k. record (without_scan (commit program t.0 a)) { sources = (ap (map unmarked) (commit-sources program t.0 a) ∙ same) k };
              scan = inr refl;
              marks = subst (λ (l : List SourceModel). AreMarked l bs) (sym (commit-sources program t.0 a)) marks;
            }))
    step_alike (Release t) above legal =
        record { same = λ k. record (without_scan (effect program one a (Release t))) { sources = same k }; scan = scan; marks = marks }

  step : (a b : Model) (e : Entry) → IsAlike a b → IsAbove floor b → Legal program two b e →
      Legal program one a e × IsAlike (effect program one a e) (effect program two b e)
  step a b e alike above legal =
      let is : with_both a b.sources b.scan ≡ b = λ k. record {
        threads = (alike.same k).threads;
        pipes = (alike.same k).pipes;
        timers = (alike.same k).timers;
        sources = b.sources;
        clock = (alike.same k).clock;
        outputs = (alike.same k).outputs;
        commits = (alike.same k).commits;
        scan = b.scan;
      } in
      let sources = ap (λ (m : Model). m.sources) alike.same in
      subst (λ (m : Model). IsAbove floor m → Legal program two m e → Legal program one a e × IsAlike (effect program one a e) (effect program two m e)) is
      (λ over may.
      (legal_alike a b.sources b.scan sources alike.scan alike.marks e may, step_alike a b.sources b.scan sources alike.scan alike.marks e over may)) above legal

  -- what follows the second state legally follows the first one legally, and leads to states that are alike
  pub after_alike : (a b : Model) (entries : List Entry) → IsAlike a b → IsAbove floor b → IsLegal program two b entries →
      IsLegal program one a entries × IsAlike (after program one a entries) (after program two b entries)
  after_alike a b [] alike above legal = (tt, alike)
  after_alike a b (e ∷ entries) alike above legal =
      let one_more = step a b e alike above legal.0 in
      let rest = after_alike (effect program one a e) (effect program two b e) entries one_more.1
      (λ i. let more = rises program two b e i in let low = above i in omega arith) legal.1 in
      ((one_more.0, rest.0), rest.1)
