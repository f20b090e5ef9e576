-- What remains of a service, an access at a time: one less behind each, and the same whatever sources and clock do.
use Rattle.task_run.proofs.Common.{◌≡◌, ℕ, zero, suc, ◌+◌, ◌/◌, ◌<◌, ◌==◌, true, false, cond, arith, refl, ap, ◌∙◌, sym, inl, inr, subst, false≢true, cases_Bool, Memory, Access, Load, Store, store, perform, answer, Buffer, Copying, Loading, Storing, is_dirty, put_access, copy_access, Program, Pick, Model, Readings, SamePrivate, Background, Ending, Execution, Origin, Phase, Resume, StoreCommit, StoreAck, StoreEmpty, Over, TaskMachine, Action, Put, Get, Make, action, is_late, want, take, after_commit, release_phase, Knows, KnowsAt}
use Rattle.fram_words.specs.Places.{Exchange, Add, place_of, same_place}
use Rattle.ink_base.specs.declared.event.Origin.TheVariants as origins
use Rattle.never_cut.specs.kept.Actors.{IsPrivate}
use Rattle.task_run.specs.declared.ending.Ending.TheVariants as endings
use Rattle.task_run.specs.Actions as actions
use Rattle.task_run.specs.Remaining.{is_committed, phase_after, IsRemaining, EveryAccessCounts, EveryCountOutlasts}
use Rattle.task_run.proofs.Accesses.{machine_at}
use Rattle.task_run.proofs.Keeping.{IsBefore}
use Rattle.task_run.proofs.Keeps.{every_task_commits}

-- the machine and its words after its next access
abbrev pub words_next : Program → Memory → TaskMachine → Memory
words_next program words r = perform words (want program r)

abbrev pub machine_next : Program → Memory → TaskMachine → TaskMachine
machine_next program words r = take program r (answer words (want program r))

pub every_access_counts : EveryAccessCounts
every_access_counts program words r n h = record { commits = h.commits; before = λ k lt. h.before (suc k) (omega arith) }

-- one more access before those that remain
pub remaining_more : (program : Program) (words : Memory) (r : TaskMachine) (n : ℕ) → is_committed r.phase ≡ false →
    IsRemaining program (words_next program words r) (machine_next program words r) n → IsRemaining program words r (suc n)
remaining_more program words r n alive h = record { commits = h.commits; before = before }
  where
    before : (k : ℕ) → k < suc n → is_committed (phase_after program words r k) ≡ false
    before zero lt = alive
    before (suc k) lt = h.before k (omega arith)

-- nothing remains behind the commit
pub remaining_none : (program : Program) (words : Memory) (r : TaskMachine) → is_committed r.phase ≡ true → IsRemaining program words r 0
remaining_none program words r over = record { commits = over; before = λ k lt. absurd (omega arith) }

-- an access to a private place finds the same word in the same private words, and leaves the same
same_performed : (words new : Memory) (a : Access) → IsPrivate (place_of a) → SamePrivate words new → SamePrivate (perform words a) (perform new a)
same_performed words new (Load p) own same = same
same_performed words new (Store p v) own same = λ q private. ap (λ n. cond (same_place p q) v n) (same q private)
same_performed words new (Exchange p e v) own same =
    λ q private. ap (λ n. cond (n == e) (store new p v) new q) (same p own)
    ∙ elim (cases_Bool (words p == e)) [
      | inl is ↦ rw is (ap (λ n. cond (same_place p q) v n) (same q private))
      | inr is ↦ rw is (same q private)
    ]
same_performed words new (Add p n) own same =
    λ q private. ap (λ k. cond (same_place p q) (new p + n) k) (same q private)
    ∙ ap (λ k. cond (same_place p q) (k + n) (words q)) (same p own)

copy_private : (t commit page : ℕ) (c : Copying) → IsPrivate (place_of (copy_access t commit page c))
copy_private t commit page (Loading k) = tt
copy_private t commit page (Storing k v) = tt

put_private : (t : ℕ) (b : Buffer) (w v : ℕ) → IsPrivate (place_of (put_access t b w v))
put_private t b w v = elim (cases_Bool (is_dirty b (w / 8))) [ inl is ↦ rw is tt | inr is ↦ rw is (copy_private t b.commit (w / 8) b.copying) ]

-- an action that makes accesses to private places alone
abbrev IsPrivateAction : Action → Type 0
IsPrivateAction (Put w v) = Unit {0}
IsPrivateAction (Get w) = Unit {0}
IsPrivateAction (Make access) = IsPrivate (place_of access)

access_private : (r : TaskMachine) (a : Action) → IsPrivateAction a → IsPrivate (place_of (actions.access_of r a))
access_private r (Put w v) own = put_private r.pick.thread.0 r.buffer w v
access_private r (Get w) own = tt
access_private r (Make access) own = own

action_private : (program : Program) (r : TaskMachine) (phase : Phase) → is_committed phase ≡ false → IsPrivateAction (action program r phase)
action_private program r Resume alive = elim (cases_Bool (is_late program r)) [ inl late ↦ rw late tt | inr early ↦ rw early tt ]
action_private program r (StoreAck source count) alive = absurd (false≢true (sym alive))
action_private program r StoreEmpty alive = absurd (false≢true (sym alive))
action_private program r Over alive = absurd (false≢true (sym alive))
action_private program r _ alive = tt

-- up to the commit the machine makes accesses to private places alone
pub want_private : (program : Program) (r : TaskMachine) → is_committed r.phase ≡ false → IsPrivate (place_of (want program r))
want_private program r alive = access_private r (action program r r.phase) (action_private program r r.phase alive)

outlasts_from : (program : Program) (n : ℕ) (words new : Memory) (r : TaskMachine) → SamePrivate words new → IsRemaining program words r n → IsRemaining program new r n
outlasts_from program zero words new r same h = remaining_none program new r h.commits
outlasts_from program (suc n) words new r same h =
    let alive : is_committed r.phase ≡ false = h.before 0 (omega arith) in
    let own : IsPrivate (place_of (want program r)) = want_private program r alive in
    let next = every_access_counts program words r n h in
    let found : answer new (want program r) ≡ answer words (want program r) = same (place_of (want program r)) own in
    remaining_more program new r n alive
    (subst (λ k. IsRemaining program (words_next program new r) (take program r k) n) (sym found)
    (outlasts_from program n (words_next program words r) (words_next program new r) (machine_next program words r) (same_performed words new (want program r) own same) next))

pub every_count_outlasts : EveryCountOutlasts
every_count_outlasts program words new r n same h = outlasts_from program n words new r same h

-- What the registers know, and the words, after an access before the commit.
pub record Knowing (program : Program) (readings : Readings) (words : Memory) (m : Model) (r : TaskMachine) : Type 0 where
  pub background : Background program readings words m
  pub knows : Knows program words m r

before_goes : (program : Program) (readings : Readings) (words : Memory) (m : Model) (pick : Pick) (stamp : ℕ) (b : Buffer) (ending : Ending) (e : Execution) (phase : Phase) →
    IsBefore phase → Background program readings words m → KnowsAt program words m (machine_at pick stamp b ending e phase) phase →
    (let r = machine_at pick stamp b ending e phase in Knowing program readings (words_next program words r) m (machine_next program words r))
before_goes program readings words m pick stamp b ending e StoreCommit before g h = absurd before
before_goes program readings words m pick stamp b ending e (StoreAck source count) before g h = absurd before
before_goes program readings words m pick stamp b ending e StoreEmpty before g h = absurd before
before_goes program readings words m pick stamp b ending e Over before g h = absurd before
before_goes program readings words m pick stamp b ending e phase before g h =
    let keeps = every_task_commits program readings words m (machine_at pick stamp b ending e phase) g h refl in
    record { background = record { accepted = g.accepted; private = keeps.kept.private; shared = keeps.kept.shared; sound = g.sound }; knows = keeps.knows }

pub knowing_next : (program : Program) (readings : Readings) (words : Memory) (m : Model) (r : TaskMachine) → IsBefore r.phase → Knowing program readings words m r →
    Knowing program readings (words_next program words r) m (machine_next program words r)
knowing_next program readings words m r before k =
    before_goes program readings words m r.pick r.stamp r.buffer r.ending r.execution r.phase before k.background k.knows

-- the store of the commit word commits
release_committed : (o : Origin) → is_committed (release_phase o) ≡ true
release_committed (origins.Source source count) = refl
release_committed (origins.Pipe pipe item) = refl
release_committed (origins.Timer timer deadline) = refl

pub commit_committed : (ending : Ending) (o : Origin) → is_committed (after_commit ending o) ≡ true
commit_committed (endings.Next task) o = refl
commit_committed endings.Done o = release_committed o
commit_committed endings.Trapped o = release_committed o
commit_committed endings.Expired o = release_committed o
