-- The sources of a sound state; a reading that is refused or passed over keeps a state sound.
use Rattle.never_cut.proofs.Common.{◌≡◌, ◌≢◌, ℕ, ◌<◌, ◌≤◌, true, false, List, length, get_or, sym, ap, ◌∙◌, arith, subst, inl, inr, length-set, get_or-set_same, get_or-set_other, cases_eq, SourceId, Refuse, Skip, Program, Model, SourceModel, thread_of, source_of, no_source, with_source, Readings, readings_of, Legal, effect, with_refused, with_skipped, IsSoundSource, sources_in, unsettled_least, source_thread}
use Rattle.never_cut.proofs.SoundThreads.{settled_at}
use Rattle.never_cut.proofs.SoundParts.{HasSoundParts, taken_in}

pub source_same : (m : Model) (i : ℕ) (s : SourceModel) → i < length m.sources → source_of (with_source m i s) i ≡ s
source_same m i s lt = get_or-set_same m.sources i s no_source lt

pub source_other : (m : Model) (i j : ℕ) (s : SourceModel) → j ≢ i → source_of (with_source m i s) j ≡ source_of m j
source_other m i j s ne = get_or-set_other m.sources i j s no_source ne

-- a source that was changed is sound, and so are the others
pub sources_with : (readings : Readings) (m : Model) (i n : ℕ) (s : SourceModel) → i < length m.sources →
    ((j : ℕ) → j < n → IsSoundSource readings m j) → IsSoundSource readings (with_source m i s) i → (j : ℕ) → j < n → IsSoundSource readings (with_source m i s) j
sources_with readings m i n s lt old new j less =
    elim (cases_eq j i) [
      | inl same ↦ subst (λ k. IsSoundSource readings (with_source m i s) k) (sym same) new
      | inr apart ↦ let h = old j less in let e = source_other m i j s apart in record {
        ordered = subst (λ (z : SourceModel). z.accepted ≤ z.next) (sym e) h.ordered;
        within = subst (λ (z : SourceModel). z.next ≤ length (readings_of readings j)) (sym e) h.within;
        refused = subst (λ (z : SourceModel). z.refused ≡ true → z.next < length (readings_of readings j)) (sym e) h.refused;
      }
    ]

pub source_made : (readings : Readings) (m : Model) (i : ℕ) (s : SourceModel) → i < length m.sources → s.accepted ≤ s.next → s.next ≤ length (readings_of readings i) →
    (s.refused ≡ true → s.next < length (readings_of readings i)) → IsSoundSource readings (with_source m i s) i
source_made readings m i s lt ordered within refused =
    let e = source_same m i s lt in record {
      ordered = subst (λ (z : SourceModel). z.accepted ≤ z.next) (sym e) ordered;
      within = subst (λ (z : SourceModel). z.next ≤ length (readings_of readings i)) (sym e) within;
      refused = subst (λ (z : SourceModel). z.refused ≡ true → z.next < length (readings_of readings i)) (sym e) refused;
    }

-- the next reading of one source
abbrev pub next_of : Model → ℕ → ℕ
next_of m i = (source_of m i).next

-- a source that has settled no fewer readings
pub settles_more : (m : Model) (i : ℕ) (s : SourceModel) → i < length m.sources → next_of m i ≤ s.next → (j : ℕ) → next_of m j ≤ next_of (with_source m i s) j
settles_more m i s lt more j =
    elim (cases_eq j i) [
      | inl is ↦ subst (λ (k : ℕ). next_of m k ≤ next_of (with_source m i s) k) (sym is) (omega (arith, more, ap (λ (z : SourceModel). z.next) (source_same m i s lt)))
      | inr apart ↦ omega (arith, ap (λ (z : SourceModel). z.next) (source_other m i j s apart))
    ]

-- a source that accepts nothing, and has settled no fewer readings
accepts_nothing : (program : Program) (readings : Readings) (m : Model) (i : ℕ) (s : SourceModel) → i < length program.sources → HasSoundParts program readings m →
    next_of m i ≤ s.next → IsSoundSource readings (with_source m i s) i → HasSoundParts program readings (with_source m i s)
accepts_nothing program readings m i s lt h more new =
    let known : i < length m.sources = rw h.sources_count lt in
    record {
      threads_count = h.threads_count;
      pipes_count = h.pipes_count;
      timers_count = h.timers_count;
      sources_count = length-set m.sources i s ∙ h.sources_count;
      threads = λ t within. settled_at program (taken_in m.pipes) t (thread_of m t) _ _ _ _
          (unsettled_least (source_thread program) (readings_of readings) (sources_in m) (sources_in (with_source m i s)) t (length program.sources) (settles_more m i s known more)) (h.threads t within);
      pipes = h.pipes;
      timers = h.timers;
      sources = sources_with readings m i (length program.sources) s known h.sources new;
      clock = h.clock;
      scan = h.scan;
      begun = h.begun;
      calm = h.calm;
      stamps = h.stamps;
      words = h.words;
    }

pub refuse_sound : (program : Program) (readings : Readings) (m : Model) (i : SourceId) → HasSoundParts program readings m → Legal program readings m (Refuse i) →
    HasSoundParts program readings (effect program readings m (Refuse i))
refuse_sound program readings m i h legal =
    let s = h.sources i.0 legal.0 in
    let known : i.0 < length m.sources = rw h.sources_count legal.0 in
    accepts_nothing program readings m i.0 (with_refused (source_of m i.0)) legal.0 h (omega arith)
    (source_made readings m i.0 (with_refused (source_of m i.0)) known s.ordered s.within (λ _. legal.1))

pub skip_sound : (program : Program) (readings : Readings) (m : Model) (i : SourceId) → HasSoundParts program readings m → Legal program readings m (Skip i) →
    HasSoundParts program readings (effect program readings m (Skip i))
skip_sound program readings m i h legal =
    let s = h.sources i.0 legal.0 in
    let known : i.0 < length m.sources = rw h.sources_count legal.0 in
    let left = s.refused legal.1 in
    accepts_nothing program readings m i.0 (with_skipped (source_of m i.0)) legal.0 h (omega arith)
    (source_made readings m i.0 (with_skipped (source_of m i.0)) known (omega (arith, s.ordered)) (omega arith) (λ e. absurd (let clash : false ≡ true = e in cc)))

-- the sources of a state that has the same ones
pub sources_same : (readings : Readings) (m next : Model) (n : ℕ) → next.sources ≡ m.sources → ((i : ℕ) → i < n → IsSoundSource readings m i) →
    (i : ℕ) → i < n → IsSoundSource readings next i
sources_same readings m next n same h i lt =
    let s = h i lt in
    let e : source_of m i ≡ source_of next i = ap (λ (l : List SourceModel). get_or l i no_source) (sym same) in
    record {
      ordered = subst (λ (z : SourceModel). z.accepted ≤ z.next) e s.ordered;
      within = subst (λ (z : SourceModel). z.next ≤ length (readings_of readings i)) e s.within;
      refused = subst (λ (z : SourceModel). z.refused ≡ true → z.next < length (readings_of readings i)) e s.refused;
    }
