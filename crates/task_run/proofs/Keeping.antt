-- An access of a task keeps what the words stand for: those before the commit, the commit, and those of the release.
use Rattle.task_run.proofs.Common.{◌≡◌, ℕ, ◌+◌, ◌/◌, ◌%◌, ◌<◌, false, length, arith, refl, ap, ◌∙◌, sym, inl, inr, subst, cases_Bool, cases_eq, Commit, Slot, Ack, Memory, Access, store, perform, answer, store-same, Buffer, Copying, Loading, Storing, IsUnderWay, is_dirty, put_access, copy_access, Program, thread_def, Pick, Model, thread_of, commit, Readings, StandsPrivate, StandsForKernel, IsAllowed, Background, private_stays, ack_blocks, Ending, Execution, Phase, StoreCommit, StoreAck, StoreEmpty, Over, TaskMachine, want, take, after_commit, at_phase, Serving, Releasing, Knows, KnowsAt, SameCommitted, KeepsAll}
use Rattle.ink_base.specs.declared.ids.SourceId.{SourceId}
use Rattle.push_core.specs.Slots.{empty_word}
use Rattle.never_cut.proofs.Releases.{after_release, release_private, release_queues, release_calm, release_other}
use Rattle.task_run.proofs.Accesses.{machine_at, Steps}
use Rattle.task_run.proofs.Kept.{kernel_frame, put_step_private, put_step_kernel, put_step_committed}
use Rattle.task_run.proofs.Commits.{next_model, commit-picked}
use Rattle.task_run.proofs.Committing.{next_words, commit_private, commit_kernel, commit_knows, commit_legal}

-- an access that keeps the state and every committed copy
pub record IsCalmly (program : Program) (words : Memory) (m : Model) (access : Access) : Type 0 where
  pub private : StandsPrivate (perform words access) program m
  pub shared : StandsForKernel (perform words access) program m
  pub allowed : IsAllowed program words m access
  pub copies : SameCommitted words (perform words access)

copy_allowed : (program : Program) (words : Memory) (m : Model) (t commit page : ℕ) (x : Copying) → IsAllowed program words m (copy_access t commit page x)
copy_allowed program words m t commit page (Loading k) = tt
copy_allowed program words m t commit page (Storing k v) = tt

put_allowed : (program : Program) (words : Memory) (m : Model) (t : ℕ) (b : Buffer) (u v : ℕ) → IsAllowed program words m (put_access t b u v)
put_allowed program words m t b u v =
    elim (cases_Bool (is_dirty b (u / 8))) [ inl e ↦ rw e tt | inr e ↦ rw e (copy_allowed program words m t b.commit (u / 8) b.copying) ]

pub put_calmly : (program : Program) (words : Memory) (m : Model) (t : ℕ) (b : Buffer) (u v : ℕ) → b.commit ≡ words (Commit t) → IsUnderWay words t b (u / 8) →
    StandsPrivate words program m → StandsForKernel words program m → IsCalmly program words m (put_access t b u v)
put_calmly program words m t b u v is under private shared = record {
  private = put_step_private program words m t b u v is under private;
  shared = put_step_kernel program words m t b u v shared;
  allowed = put_allowed program words m t b u v;
  copies = put_step_committed words t b u v is under;
}

-- before the commit
abbrev pub IsBefore : Phase → Type 0
IsBefore StoreCommit = ⊥
IsBefore (StoreAck source count) = ⊥
IsBefore StoreEmpty = ⊥
IsBefore Over = ⊥
IsBefore _ = Unit {0}

-- a task that is served is in a phase up to the commit
serving_knows : (program : Program) (words : Memory) (m : Model) (pick : Pick) (stamp : ℕ) (b : Buffer) (ending : Ending) (e : Execution) (phase : Phase) →
    Serving program words m (machine_at pick stamp b ending e phase) → KnowsAt program words m (machine_at pick stamp b ending e phase) phase
serving_knows program words m pick stamp b ending e (StoreAck source count) h = absurd h.progress
serving_knows program words m pick stamp b ending e StoreEmpty h = absurd h.progress
serving_knows program words m pick stamp b ending e Over h = absurd h.progress
serving_knows program words m pick stamp b ending e _ h = h

knows_of : (program : Program) (words : Memory) (m : Model) (r : TaskMachine) → Serving program words m r → Knows program words m r
knows_of program words m r h = serving_knows program words m r.pick r.stamp r.buffer r.ending r.execution r.phase h

pub before_keeps : (program : Program) (readings : Readings) (words : Memory) (m : Model) (pick : Pick) (stamp : ℕ) (b : Buffer) (ending : Ending) (e : Execution) (phase : Phase) →
    IsBefore phase → IsCalmly program words m (want program (machine_at pick stamp b ending e phase)) → Steps program m words (machine_at pick stamp b ending e phase) →
    KeepsAll program readings words m (machine_at pick stamp b ending e phase)
before_keeps program readings words m pick stamp b ending e StoreCommit before calmly steps = absurd before
before_keeps program readings words m pick stamp b ending e (StoreAck source count) before calmly steps = absurd before
before_keeps program readings words m pick stamp b ending e StoreEmpty before calmly steps = absurd before
before_keeps program readings words m pick stamp b ending e Over before calmly steps = absurd before
before_keeps program readings words m pick stamp b ending e phase before calmly steps =
    let r : TaskMachine = machine_at pick stamp b ending e phase in
    record {
      kept = record { legal = tt; allowed = calmly.allowed; private = calmly.private; shared = calmly.shared };
      copies = calmly.copies;
      knows = knows_of program (perform words (want program r)) m (take program r (answer words (want program r))) steps;
    }

module _ (program : Program) (readings : Readings) (words : Memory) (m : Model) (pick : Pick) (stamp : ℕ) (b : Buffer) (ending : Ending) (e : Execution)
    (g : Background program readings words m) where
  -- the store that commits
  pub commit_keeps : Serving program words m (machine_at pick stamp b ending e StoreCommit) → KeepsAll program readings words m (machine_at pick stamp b ending e StoreCommit)
  commit_keeps h =
      let new : Memory = next_words program readings m words pick stamp b ending e g.accepted g.sound h in
      let is : commit program pick.thread.0 m ≡ next_model program m pick = commit-picked program words m pick h.picked in
      record {
        kept = record {
          legal = commit_legal program readings m words pick stamp b ending e g.accepted g.sound h;
          allowed = tt;
          private = subst (λ k. StandsPrivate new program k) (sym is) (commit_private program readings m words pick stamp b ending e g.accepted g.sound h g.private);
          shared = subst (λ k. StandsForKernel new program k) (sym is) (commit_kernel program readings m words pick stamp b ending e g.accepted g.sound h g.shared);
        };
        copies = tt;
        knows =
            subst (λ k. Knows program new k (at_phase (machine_at pick stamp b ending e StoreCommit) (after_commit ending pick.event.origin))) (sym is)
            (commit_knows program readings m words pick stamp b ending e g.accepted g.sound h);
      }

  -- the store of the acknowledgement
  pub ack_keeps : (source : SourceId) (count : ℕ) → Releasing program m pick stamp source.0 count → KeepsAll program readings words m (machine_at pick stamp b ending e (StoreAck source count))
  ack_keeps source count h =
      let v : ℕ = (count + 1) % 64 in
      let new : Memory = store words (Ack source.0) v in
      record {
        kept = record {
          legal = tt;
          allowed = (pick.thread.0, h.known, count, h.finishing, refl);
          private = private_stays words new program m m (ack_blocks words source.0 v) (record { saves = λ t. refl; event = λ t. refl; pipes = refl; outputs = refl; commits = refl }) g.private;
          shared = kernel_frame program words new m (λ t. refl) (λ t n. refl) refl g.shared;
        };
        copies = λ t w. refl;
        knows = (source.0, count, h, store-same words (Ack source.0) v);
      }

  -- the store of the empty slot
  pub release_keeps : (i count : ℕ) → Releasing program m pick stamp i count → words (Ack i) ≡ (count + 1) % 64 → KeepsAll program readings words m (machine_at pick stamp b ending e StoreEmpty)
  release_keeps i count h ack =
      let t : ℕ = pick.thread.0 in
      let places : ℕ = (thread_def program t).queue in
      let lt : t < length m.threads = rw g.sound.shape.threads h.known in
      let some : 0 < length (thread_of m t).held = rw h.finishing.first.1 (omega arith) in
      let new : ℕ → Memory = λ (p : ℕ). store words (Slot t (p % places)) (empty_word (p + places)) in
      record {
        kept = record {
          legal = (h.known, h.finishing.finished);
          allowed = (h.known, i, count, h.finishing, ack, ap (λ p. p % places) h.position, ap (λ p. empty_word (p + places)) h.position);
          private = release_private words program m t (pick.position % places) (empty_word (pick.position + places)) lt h.finishing.finished g.private;
          shared = subst (λ p. StandsForKernel (new p) program (after_release m t)) (sym h.position) (release_queues words program m t lt some g.shared h.known);
        };
        copies = λ u w. refl;
        knows = (
          h.commits,
          λ u known.
              elim (cases_eq u t) [
                | inl same ↦ subst (λ z. (thread_of (after_release m t) z).finished ≡ false) (sym same) (release_calm m t lt)
                | inr ne ↦ ap (λ x. x.finished) (release_other m t u ne) ∙ h.others u known ne
              ],
        );
      }
