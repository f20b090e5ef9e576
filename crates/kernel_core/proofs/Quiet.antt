-- An access changes its own place alone.
use Rattle.kernel_core.proofs.Common.{◌≡◌, ◌≢◌, ℕ, ◌+◌, ◌/◌, ◌==◌, cond, Bool, true, false, refl, sym, subst, Place, IsShared, Memory, Load, Store, Exchange, Add, store, perform, place_of, store-other, Buffer, Copying, Loading, Storing, put_access, copy_access, write_access, is_dirty}
use Rattle.fram_words.specs.Places.{Access}

pub perform_other : (m : Memory) (a : Access) (q : Place) → place_of a ≢ q → perform m a q ≡ m q
perform_other m (Load p) q ne = refl
perform_other m (Store p v) q ne = store-other m p q v ne
perform_other m (Add p n) q ne = store-other m p q (m p + n) ne
perform_other m (Exchange p e v) q ne = by_test (m p == e)
  where
    by_test : (b : Bool) → cond b (store m p v) m q ≡ m q
    by_test true = store-other m p q v ne
    by_test false = refl

-- a place of which neither a source nor another actor than the kernel knows
abbrev pub IsUnshared : Place → Type 0
IsUnshared p = IsShared p → ⊥

pub quiet : (m : Memory) (a : Access) → IsUnshared (place_of a) → (q : Place) → IsShared q → perform m a q ≡ m q
quiet m a own q shared = perform_other m a q (λ e. own (subst IsShared (sym e) shared))

-- the access of a write is one to a page
pub put_unshared : (t : ℕ) (b : Buffer) (w v : ℕ) → IsUnshared (place_of (put_access t b w v))
put_unshared t b w v = by_test (is_dirty b (w / 8))
  where
    copying : (c : Copying) → IsUnshared (place_of (copy_access t b.commit (w / 8) c))
    copying (Loading k) h = h
    copying (Storing k x) h = h

    by_test : (dirty : Bool) → IsUnshared (place_of (cond dirty (write_access t b w v) (copy_access t b.commit (w / 8) b.copying)))
    by_test true h = h
    by_test false h = copying b.copying h
