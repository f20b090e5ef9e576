-- A refused push and its skip on the words of a board, and the room that a turn takes.
use Rattle.kernel_core.proofs.Common.{◌≡◌, ◌≢◌, ℕ, ◌+◌, ◌≤◌, ◌==◌, cond, Bool, true, false, List, length, Option, Some, None, refl, subst, arith, length-set, get_or-set_other, Actor, Entry, Refuse, Skip, Access, performed, KernelPoint, entry_of_point, empty_word, slot_in, Stage, LoadSrc, LoadSlots, LoadAck, LoadTail, LoadSlot, Publish, MoveTail, HelpTail, StoreSkip, StoreAccepted, point_of, is_full_at, is_left, src_word, port_of, readings_of, point_found, Setup, Board, sides, finds, kernel_access, source_access, row_of, turn, source_made, entry_of_source, Made, made_by, access_made, nothing_made, one_if, accesses_in, IsSameBut, RefusalsKeep, SkipsStore, src_of}
use Rattle.push_core.specs.Table.{access_at}
use Rattle.ink_base.specs.declared.ids.SourceId.{SourceId}
use Rattle.ink_base.specs.declared.actor.Actor.TheVariants as actors
use Rattle.ink_layout.specs.declared.kernel_point.KernelPoint.TheVariants as points
use Rattle.push_core.specs.declared.point.Point.TheVariants as found

-- a turn makes one access at most
pub one_at_most : (made : Made) → accesses_in made ≤ 1
one_at_most made = by_access made.access
  where
    by_access : (access : Option Access) → one_if access ≤ 1
    by_access (Some access) = omega arith
    by_access None = omega arith

-- the kernel refuses and skips nothing
kernel_never_refuses : (point : KernelPoint) (source : SourceId) → entry_of_point point ≢ Some (Refuse source)
kernel_never_refuses points.Nothing source e = cc
kernel_never_refuses points.Scan source e = cc
kernel_never_refuses (points.Look thread) source e = cc
kernel_never_refuses (points.Commit thread) source e = cc
kernel_never_refuses (points.Release thread) source e = cc

kernel_never_skips : (point : KernelPoint) (source : SourceId) → entry_of_point point ≢ Some (Skip source)
kernel_never_skips points.Nothing source e = cc
kernel_never_skips points.Scan source e = cc
kernel_never_skips (points.Look thread) source e = cc
kernel_never_skips (points.Commit thread) source e = cc
kernel_never_skips (points.Release thread) source e = cc

module _ (s : Setup) (words : List ℕ) (i a k word : ℕ) where
  -- the entry and the words of a stage
  abbrev Entered : Stage → Option Entry
  Entered stage = entry_of_source i (point_of (port_of (sides s) i).queue.places stage word)

  abbrev After : Stage → List ℕ
  After stage = performed (access_at (port_of (sides s) i) (readings_of s.readings i) a k stage) words

  slot_skip : (p : ℕ) (full : Bool) (source : SourceId) → entry_of_source i (cond full found.Refused found.Nothing) ≡ Some (Skip source) → ⊥
  slot_skip p true source e = cc
  slot_skip p false source e = cc

  publish_refused : (won : Bool) (source : SourceId) → entry_of_source i (cond won found.Pushed found.Nothing) ≡ Some (Refuse source) → ⊥
  publish_refused true source e = cc
  publish_refused false source e = cc

  publish_skip : (won : Bool) (source : SourceId) → entry_of_source i (cond won found.Pushed found.Nothing) ≡ Some (Skip source) → ⊥
  publish_skip true source e = cc
  publish_skip false source e = cc

  refused_at : (stage : Stage) (source : SourceId) → Entered stage ≡ Some (Refuse source) → After stage ≡ words
  refused_at LoadSrc source e = refl
  refused_at (LoadSlots n seen) source e = refl
  refused_at (LoadAck seen) source e = refl
  refused_at LoadTail source e = refl
  refused_at (LoadSlot p) source e = refl
  refused_at (Publish p) source e = absurd (publish_refused (word == empty_word p) source e)
  refused_at (MoveTail p) source e = cc
  refused_at (HelpTail p) source e = cc
  refused_at StoreSkip source e = cc
  refused_at StoreAccepted source e = cc

  named : (source : SourceId) → entry_of_source i found.Skipped ≡ Some (Skip source) → i ≡ source.0
  named source e = cc

  skipped_at : (stage : Stage) (source : SourceId) → Entered stage ≡ Some (Skip source) → IsSameBut (src_of s source) words (After stage)
  skipped_at LoadSrc source e = cc
  skipped_at (LoadSlots n seen) source e = cc
  skipped_at (LoadAck seen) source e = cc
  skipped_at LoadTail source e = cc
  skipped_at (LoadSlot p) source e = absurd (slot_skip p (is_full_at (port_of (sides s) i).queue.places p (slot_in word)) source e)
  skipped_at (Publish p) source e = absurd (publish_skip (word == empty_word p) source e)
  skipped_at (MoveTail p) source e = cc
  skipped_at (HelpTail p) source e = cc
  skipped_at StoreSkip source e = subst (λ n. IsSameBut (src_of s (record { 0 = n })) words (After StoreSkip)) (named source e) (record {
    count = length-set words (port_of (sides s) i).src (src_word a (k + 1));
    others = λ n ne. get_or-set_other words (port_of (sides s) i).src n (src_word a (k + 1)) 0 ne;
  })
  skipped_at StoreAccepted source e = cc

module _ (s : Setup) (b : Board) where
  source_refused : (i : ℕ) (left : Bool) (source : SourceId) → (cond left (access_made s b i) nothing_made).entry ≡ Some (Refuse source) → (cond left (source_made s b i) b).words ≡ b.words
  source_refused i true source e = refused_at s b.words i (row_of b i).accepted (row_of b i).next (finds b (source_access s b i)) (row_of b i).stage source e
  source_refused i false source e = refl

  -- a turn that refuses a push leaves the words
  pub refusals_keep : (actor : Actor) → RefusalsKeep (made_by s b actor) b.words (turn s b actor).words
  refusals_keep actors.Kernel source e = absurd (kernel_never_refuses (point_found s.program b.kernel (finds b (kernel_access s b))) source e)
  refusals_keep (actors.Source i) source e = source_refused i.0 (is_left (length (readings_of s.readings i.0)) (row_of b i.0)) source e
  refusals_keep actors.Clock source e = cc

  source_skipped : (i : ℕ) (left : Bool) (source : SourceId) → (cond left (access_made s b i) nothing_made).entry ≡ Some (Skip source) →
      IsSameBut (src_of s source) b.words (cond left (source_made s b i) b).words
  source_skipped i true source e = skipped_at s b.words i (row_of b i).accepted (row_of b i).next (finds b (source_access s b i)) (row_of b i).stage source e
  source_skipped i false source e = cc

  -- a turn that skips stores SRC of that source
  pub skips_store : (actor : Actor) → SkipsStore s (made_by s b actor) b.words (turn s b actor).words
  skips_store actors.Kernel source e = absurd (kernel_never_skips (point_found s.program b.kernel (finds b (kernel_access s b))) source e)
  skips_store (actors.Source i) source e = source_skipped i.0 (is_left (length (readings_of s.readings i.0)) (row_of b i.0)) source e
  skips_store actors.Clock source e = cc
