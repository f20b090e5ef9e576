-- At most one thread has a finished event, from one legal entry to the next.
use Rattle.never_cut.proofs.Common.{◌≡◌, ◌≢◌, ℕ, ◌<◌, true, false, length, Option, Some, None, refl, ap, ◌∙◌, sym, inl, inr, ForSome, cases_eq, Entry, Push, Refuse, Skip, Tick, Scan, Look, Commit, Release, Program, source_thread, IsAccepted, Model, ScanModel, ThreadModel, thread_of, Readings, Legal, effect, IsCalm, ArePassed, pushed, fed_by, next_event, moved, MayNote, IsSound, Follows, AtMostOneFinished}
use Rattle.never_cut.proofs.Follows.{follow_finished}
use Rattle.never_cut.proofs.Releases.{after_release, release_other, release_calm}
use Rattle.never_cut.proofs.SoundQueues.{thread_changes}
use Rattle.never_cut.proofs.Commits.{commit-other}

-- as many threads have one
same_finished : (program : Program) (m next : Model) → ((u : ℕ) → u < length program.threads → (thread_of next u).finished ≡ (thread_of m u).finished) →
    AtMostOneFinished program m → AtMostOneFinished program next
same_finished program m next same one t u known there here other = one t u known there (sym (same t known) ∙ here) (sym (same u there) ∙ other)

-- all threads but one have none
alone_finished : (program : Program) (next : Model) (t : ℕ) → ((u : ℕ) → u < length program.threads → u ≢ t → (thread_of next u).finished ≡ false) → AtMostOneFinished program next
alone_finished program next t others u v known there here other = is_alone u known here ∙ sym (is_alone v there other)
  where
    is_alone : (u : ℕ) → u < length program.threads → (thread_of next u).finished ≡ true → u ≡ t
    is_alone u known here = elim (cases_eq u t) [ inl e ↦ e | inr apart ↦ absurd (let clash : true ≡ false = sym here ∙ others u known apart in cc) ]

-- what a scan allows, where there is one
abbrev Allowed : (ScanModel → Type 0) → Option ScanModel → Type 0
Allowed P o = elim o [ None ↦ ⊥ | Some scan ↦ P scan ]

-- a scan that is there began with nothing finished
calm_in : (program : Program) (m : Model) (P : ScanModel → Type 0) (o : Option ScanModel) → m.scan ≡ o → ForSome m.scan (λ scan. IsCalm program m) → Allowed P o → IsCalm program m
calm_in program m P None is calm there = absurd there
calm_in program m P (Some scan) is calm there = calm scan is

-- a legal entry keeps it
pub one_step : (program : Program) (readings : Readings) (m : Model) (e : Entry) → IsAccepted program → IsSound program readings m → Legal program readings m e →
    AtMostOneFinished program m → AtMostOneFinished program (effect program readings m e)
one_step program readings m (Push i) accepted sound legal one =
    let changes = thread_changes program m (effect program readings m (Push i)) (source_thread program i.0) (pushed (next_event readings m i.0) (fed_by program m i.0))
    (rw sound.shape.threads (accepted.sources i.0 legal.0)) refl in
    same_finished program m (effect program readings m (Push i))
    (λ u known. elim (cases_eq u (source_thread program i.0)) [
      | inl e ↦ ap (λ v. (thread_of (effect program readings m (Push i)) v).finished) e ∙ (ap (λ (x : ThreadModel). x.finished) changes.0 ∙ ap (λ v. (thread_of m v).finished) (sym e))
      | inr apart ↦ ap (λ (x : ThreadModel). x.finished) (changes.1 u apart)
    ])
    one
one_step program readings m (Refuse i) accepted sound legal one = one
one_step program readings m (Skip i) accepted sound legal one = one
one_step program readings m (Tick by) accepted sound legal one = one
one_step program readings m Scan accepted sound legal one = one
one_step program readings m (Look t) accepted sound legal one = one
one_step program readings m (Commit t) accepted sound legal one =
    let calm : IsCalm program m = calm_in program m (λ scan. ArePassed program m scan t.0) m.scan refl sound.calm legal.1 in
    alone_finished program (effect program readings m (Commit t)) t.0
    (λ u known apart. ap (λ (x : ThreadModel). x.finished) (commit-other program t.0 u m apart) ∙ calm u known)
one_step program readings m (Release t) accepted sound legal one =
    let lt : t.0 < length m.threads = rw sound.shape.threads legal.0 in
    let others : (u : ℕ) → u < length program.threads → (thread_of (after_release m t.0) u).finished ≡ true → (u ≢ t.0) × ((thread_of m u).finished ≡ true) =
    (λ u known is. elim (cases_eq u t.0) [
      | inl e ↦ absurd (let clash : true ≡ false = sym is ∙ (ap (λ v. (thread_of (after_release m t.0) v).finished) e ∙ release_calm m t.0 lt) in cc)
      | inr apart ↦ (apart, ap (λ (x : ThreadModel). x.finished) (sym (release_other m t.0 u apart)) ∙ is)
    ]) in
    λ u v known there here other. one u v known there (others u known here).1 (others v there other).1

-- and so does a step that may note one
pub one_moved : (program : Program) (readings : Readings) (m : Model) (noted : Option Entry) → IsAccepted program → IsSound program readings m → MayNote program readings m noted →
    AtMostOneFinished program m → AtMostOneFinished program (moved program readings m noted)
one_moved program readings m None accepted sound may one = one
one_moved program readings m (Some e) accepted sound may one = one_step program readings m e accepted sound may one

-- the accesses of sources and clock keep it
pub one_follows : (program : Program) (m next : Model) → Follows m next → AtMostOneFinished program m → AtMostOneFinished program next
one_follows program m next f one = same_finished program m next (λ u known. follow_finished m next u f) one
