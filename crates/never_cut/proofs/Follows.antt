-- What the accesses of the other actors leave as it is.
use Rattle.never_cut.proofs.Common.{◌≡◌, inl, inr, ℕ, ◌+◌, ◌<◌, ◌≤◌, ◌==◌, cond, List, [], ◌∷◌, ◌++◌, length, get_or, set, refl, sym, ap, ◌∙◌, subst, arith, eq-eqb, ne_eqb, append-nil, length-set, cases_eq, Event, Output, Entry, Push, Refuse, Skip, Tick, Scan, Look, Commit, Release, Program, Memory, IsAccepted, source_thread, Model, ThreadModel, PipeModel, TimerModel, SourceModel, thread_of, source_of, no_thread, with_thread, with_source, Readings, IsCalm, Legal, effect, pushed, next_event, with_accepted, with_refused, with_skipped, IsSound, flag, StandsPrivate, SamePrivate, IsOther, Follows, IsFirstHeld, IsFinishing, without_held}
use Rattle.never_cut.proofs.Privates.{SamePrivately, private_stays, blocks_same}
use Rattle.never_cut.proofs.Releases.{saved_by}
use Rattle.never_cut.proofs.Threads.{thread_of-with_same, thread_of-with_other}

pub follow_finished : (m next : Model) (t : ℕ) → Follows m next → (thread_of next t).finished ≡ (thread_of m t).finished
follow_finished m next t f = ap (λ (x : ThreadModel). x.finished) (f.threads t)

pub follow_released : (m next : Model) (t : ℕ) → Follows m next → (thread_of next t).released ≡ (thread_of m t).released
follow_released m next t f = ap (λ (x : ThreadModel). x.released) (f.threads t)

pub follow_running : (m next : Model) (t : ℕ) → Follows m next → (thread_of next t).running ≡ (thread_of m t).running
follow_running m next t f = ap (λ (x : ThreadModel). x.running) (f.threads t)

pub follow_calm : (program : Program) (m next : Model) → Follows m next → IsCalm program m → IsCalm program next
follow_calm program m next f calm = λ t known. follow_finished m next t f ∙ calm t known

pub follow_event : (m next : Model) (t : ℕ) → Follows m next → (thread_of next t).event ≡ (thread_of m t).event
follow_event m next t f = ap (λ (x : ThreadModel). x.event) (f.threads t)

pub follow_first_commit : (m next : Model) (t : ℕ) → Follows m next → (thread_of next t).first ≡ (thread_of m t).first
follow_first_commit m next t f = ap (λ (x : ThreadModel). x.first) (f.threads t)

pub follow_first : (m next : Model) (t : ℕ) (e : Event) → Follows m next → IsFirstHeld m t e → IsFirstHeld next t e
follow_first m next t e f h = (h.0 ++ f.more t, f.held t ∙ ap (λ l. l ++ f.more t) h.1)

pub follow_finishing : (m next : Model) (t i count : ℕ) → Follows m next → IsFinishing m t i count → IsFinishing next t i count
follow_finishing m next t i count f h = record {
  value = h.value;
  first = follow_first m next t _ f h.first;
  finished = follow_finished m next t f ∙ h.finished;
}

-- the state with these pipes, timers and outputs
abbrev pub with_parts : Model → List PipeModel → List TimerModel → List Output → Model
with_parts m pipes timers outputs = record m { pipes = pipes; timers = timers; outputs = outputs }

pub follow_privately : (program : Program) (m next : Model) → Follows m next → SamePrivately program m next
follow_privately program m next f = record {
  saves = λ t.
      ap (λ (x : ThreadModel). saved_by program next t x (x.released + flag x.finished)) (f.threads t)
      ∙ (let y : ThreadModel = without_held (thread_of m t) in
      let ended : ℕ = (thread_of m t).released + flag (thread_of m t).finished in
      ap (λ (p : List PipeModel). saved_by program (with_parts m p next.timers next.outputs) t y ended) f.pipes
      ∙ (ap (λ (j : List TimerModel). saved_by program (with_parts m m.pipes j next.outputs) t y ended) f.timers
      ∙ ap (λ (o : List Output). saved_by program (with_parts m m.pipes m.timers o) t y ended) f.outputs));
  event = λ t. ap (λ (x : ThreadModel). x.event) (f.threads t);
  pipes = f.pipes;
  outputs = f.outputs;
  commits = f.commits;
}

pub follow_private : (words new : Memory) (program : Program) (m next : Model) → SamePrivate words new → Follows m next → StandsPrivate words program m → StandsPrivate new program next
follow_private words new program m next same f h =
    private_stays words new program m next (blocks_same words new same) (follow_privately program m next f) h

-- nothing that the kernel knows of changes
pub same_follows : (m next : Model) → next.threads ≡ m.threads → next.pipes ≡ m.pipes → next.timers ≡ m.timers → next.outputs ≡ m.outputs → next.commits ≡ m.commits → next.scan ≡ m.scan →
    m.clock ≤ next.clock → Follows m next
same_follows m next threads pipes timers outputs commits scan clock = record {
  threads = λ t. ap (λ (l : List ThreadModel). without_held (get_or l t no_thread)) threads;
  more = λ t. [];
  held = λ t. ap (λ (l : List ThreadModel). (get_or l t no_thread).held) threads ∙ sym (append-nil (thread_of m t).held);
  count = ap length threads;
  pipes = pipes;
  timers = timers;
  outputs = outputs;
  commits = commits;
  scan = scan;
  clock = clock;
}

-- a queue gets one more event
pub push_follows : (m : Model) (t i : ℕ) (e : Event) (s : SourceModel) → t < length m.threads →
    Follows m (with_source (with_thread m t (pushed e (thread_of m t))) i s)
push_follows m t i e s lt = record {
  threads = λ u. elim (cases_eq u t) [
    | inl is ↦ subst (λ v. without_held (get_or (set m.threads t (pushed e (thread_of m t))) v no_thread) ≡ without_held (thread_of m v)) (sym is)
        (ap without_held (thread_of-with_same m t (pushed e (thread_of m t)) lt))
    | inr ne ↦ ap without_held (thread_of-with_other m t u (pushed e (thread_of m t)) ne)
  ];
  more = λ u. cond (u == t) (e ∷ []) [];
  held = λ u. elim (cases_eq u t) [
    | inl is ↦ rw (eq-eqb u t is) (subst (λ v. (get_or (set m.threads t (pushed e (thread_of m t))) v no_thread).held ≡ (thread_of m v).held ++ e ∷ []) (sym is)
        (ap (λ (z : ThreadModel). z.held) (thread_of-with_same m t (pushed e (thread_of m t)) lt)))
    | inr ne ↦ rw (ne_eqb u t ne) (ap (λ (z : ThreadModel). z.held) (thread_of-with_other m t u (pushed e (thread_of m t)) ne) ∙ sym (append-nil (thread_of m u).held))
  ];
  count = length-set m.threads t (pushed e (thread_of m t));
  pipes = refl;
  timers = refl;
  outputs = refl;
  commits = refl;
  scan = refl;
  clock = omega arith;
}

-- the entries of sources and clock are such steps
pub other_follows : (program : Program) (readings : Readings) (m : Model) (e : Entry) → IsAccepted program → IsSound program readings m → IsOther e → Legal program readings m e →
    Follows m (effect program readings m e)
other_follows program readings m (Push i) accepted sound other legal =
    let fed : source_thread program i.0 < length m.threads = rw sound.shape.threads (accepted.sources i.0 legal.0) in
    push_follows m (source_thread program i.0) i.0 (next_event readings m i.0) (with_accepted (source_of m i.0)) fed
other_follows program readings m (Refuse i) accepted sound other legal = same_follows m (with_source m i.0 (with_refused (source_of m i.0))) refl refl refl refl refl refl (omega arith)
other_follows program readings m (Skip i) accepted sound other legal = same_follows m (with_source m i.0 (with_skipped (source_of m i.0))) refl refl refl refl refl refl (omega arith)
other_follows program readings m (Tick by) accepted sound other legal = same_follows m (effect program readings m (Tick by)) refl refl refl refl refl refl (omega arith)
other_follows program readings m Scan accepted sound other legal = absurd other
other_follows program readings m (Look t) accepted sound other legal = absurd other
other_follows program readings m (Commit t) accepted sound other legal = absurd other
other_follows program readings m (Release t) accepted sound other legal = absurd other
