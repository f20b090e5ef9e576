-- What the accesses of sources and clock leave of what the kernel knows.
use Rattle.kernel_core.proofs.Common.{◌≡◌, ℕ, ◌+◌, ◌<◌, length, Some, refl, sym, ◌∙◌, subst, arith, Place, Tail, Slot, Src, Memory, Exchange, Store, perform, Program, source_thread, Stage, LoadSrc, LoadSlots, LoadAck, LoadTail, LoadSlot, Publish, MoveTail, HelpTail, StoreSkip, StoreAccepted, Point, src_word, empty_word, event_word, access_at, event_of, slot_place, Adds, MayAdd, Model, thread_of, source_of, effect, pushed, next_event, with_accepted, with_refused, with_skipped, moved, MayNote, SamePrivate, IsPrivate, Follows, same_follows, push_follows, Kernel, Boot, Scan, Task, Setup, sides, entry_of_source, sides_of, KernelHolds}
use Rattle.never_cut.specs.State.{with_source}
use Rattle.ink_base.specs.declared.entry.Entry.TheVariants as entries
use Rattle.push_core.specs.declared.point.Point.TheVariants as points
use Rattle.source_laws.specs.Model as sources
use Rattle.source_laws.specs.Rows as rows_of
use Rattle.reboot.proofs.Drifts.{boot_drifts}
use Rattle.priority_sched.proofs.Drifts.{scan_drifts}
use Rattle.task_run.proofs.Outlasts.{every_task_outlasts}
use Rattle.kernel_core.proofs.Sides.{Becomes-queue, Becomes-source}
use Rattle.kernel_core.proofs.Quiet.{perform_other}

-- what the kernel's registers know outlasts the others' accesses
pub kernel_drifts : (program : Program) (words new : Memory) (m next : Model) (kernel : Kernel) → SamePrivate words new → Follows m next → KernelHolds program words m kernel →
    KernelHolds program new next kernel
kernel_drifts program words new m next (Boot boot) same f h = (boot_drifts program words new m next boot same f h.0, h.1)
kernel_drifts program words new m next (Scan stamp scan) same f h = (h.0 ∙ sym f.commits, scan_drifts program words new m next scan same f h.1, h.2)
kernel_drifts program words new m next (Task r) same f h = (every_task_outlasts program words new m next r same f h.0, h.1)

-- a word that no source writes
abbrev pub IsBeside : Place → Type 0
IsBeside (Tail t) = ⊥
IsBeside (Slot t n) = ⊥
IsBeside (Src i) = ⊥
IsBeside _ = Unit {0}

pub private_beside : (q : Place) → IsPrivate q → IsBeside q
private_beside (Tail t) h = h
private_beside (Slot t n) h = h
private_beside (Src i) h = h
private_beside _ h = tt

-- a source's access leaves it
pub source_beside : (board : sources.Board) (words : Memory) (i a k : ℕ) (stage : Stage) (q : Place) → IsBeside q → perform words (access_at board i a k stage) q ≡ words q
source_beside board words i a k LoadSrc q h = refl
source_beside board words i a k (LoadSlots n seen) q h = refl
source_beside board words i a k (LoadAck seen) q h = refl
source_beside board words i a k LoadTail q h = refl
source_beside board words i a k (LoadSlot p) q h = refl
source_beside board words i a k (Publish p) q h =
    perform_other words (Exchange (slot_place board i p) (empty_word p) (event_word p (event_of board i a k))) q (λ e. subst IsBeside (sym e) h)
source_beside board words i a k (MoveTail p) q h = perform_other words (Exchange (Tail (board.queue_of i)) p (p + 1)) q (λ e. subst IsBeside (sym e) h)
source_beside board words i a k (HelpTail p) q h = perform_other words (Exchange (Tail (board.queue_of i)) p (p + 1)) q (λ e. subst IsBeside (sym e) h)
source_beside board words i a k StoreSkip q h = perform_other words (Store (Src i) (src_word a (k + 1))) q (λ e. subst IsBeside (sym e) h)
source_beside board words i a k StoreAccepted q h = perform_other words (Store (Src i) (src_word (a + 1) (k + 1))) q (λ e. subst IsBeside (sym e) h)

module _ (s : Setup) (m : Model) (i : ℕ) (known : i < length m.sources) (fed : source_thread s.program i < length m.threads) where
  -- a point of a source is an entry of the sources' side
  pub point_adds : (p : Point) → Adds (sides s) (rows_of.entry_of i p) (sides_of m) (sides_of (moved s.program s.readings m (entry_of_source i p)))
  point_adds points.Nothing = refl
  point_adds points.Pushed = record {
    queue = Becomes-queue m (source_thread s.program i) (pushed (next_event s.readings m i) (thread_of m (source_thread s.program i))) fed;
    source = Becomes-source m i (with_accepted (source_of m i)) known;
  }
  point_adds points.Refused = record { queue = refl; source = Becomes-source m i (with_refused (source_of m i)) known }
  point_adds points.Skipped = record { queue = refl; source = Becomes-source m i (with_skipped (source_of m i)) known }

  pub point_legal : (p : Point) → i < length s.program.sources → MayAdd (sides s) (rows_of.entry_of i p) (sides_of m) → MayNote s.program s.readings m (entry_of_source i p)
  point_legal points.Nothing lt h = tt
  point_legal points.Pushed lt h = (lt, h.0, h.1)
  point_legal points.Refused lt h = (lt, h.0, h.1)
  point_legal points.Skipped lt h = (lt, h)

  -- it leaves the clock alone
  pub point_clock : (p : Point) → (moved s.program s.readings m (entry_of_source i p)).clock ≡ m.clock
  point_clock points.Nothing = refl
  point_clock points.Pushed = refl
  point_clock points.Refused = refl
  point_clock points.Skipped = refl

pub point_follows : (s : Setup) (m : Model) (i : ℕ) (p : Point) → source_thread s.program i < length m.threads → Follows m (moved s.program s.readings m (entry_of_source i p))
point_follows s m i points.Nothing fed = same_follows m m refl refl refl refl refl refl (omega arith)
point_follows s m i points.Pushed fed = push_follows m (source_thread s.program i) i (next_event s.readings m i) (with_accepted (source_of m i)) fed
point_follows s m i points.Refused fed = same_follows m (with_source m i (with_refused (source_of m i))) refl refl refl refl refl refl (omega arith)
point_follows s m i points.Skipped fed = same_follows m (with_source m i (with_skipped (source_of m i))) refl refl refl refl refl refl (omega arith)

pub tick_follows : (s : Setup) (m : Model) (by : ℕ) → Follows m (moved s.program s.readings m (Some (entries.Tick by)))
tick_follows s m by = same_follows m (effect s.program s.readings m (entries.Tick by)) refl refl refl refl refl refl (omega arith)
