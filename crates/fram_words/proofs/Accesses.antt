-- An access at its address is the access at its place.
use Rattle.std.proofs.Common.{◌≡◌, ℕ, ◌+◌, ◌<◌, ◌==◌, cond, Bool, true, false, List, length, set, get_or, slice_index, refl, sym, ap, ◌∙◌, subst, MatchBool, length-set}
use Rattle.fram_words.specs.Places.{Place, Access, Load, Store, Exchange, Add, place_of, Memory, store, perform, answer}
use Rattle.fram_words.specs.Shape.{Shape, address, is_valid, memory_of}
use Rattle.fram_words.proofs.Frames.{store-same, store-other}
use Rattle.fram_words.proofs.Addresses.{store_word}
use Rattle.fram_words.specs.Words.{performed, address_of}
use Rattle.fram_words.specs.declared.access.Access.TheVariants as fram
use Rattle.fram_words.specs.Changes.{Becomes}
use Rattle.fram_words.specs.Accesses.{Makes, at_address}

pub stored : (m : Memory) (p : Place) (v : ℕ) → Becomes p v m (store m p v)
stored m p v = record { here = store-same m p v; elsewhere = λ q other. store-other m p q v (λ e. other (sym e)) }

-- the function of an access is in the relation
pub performs : (m : Memory) (a : Access) → Makes a m (perform m a)
performs m (Load p) = refl
performs m (Store p v) = stored m p v
performs m (Add p n) = stored m p (m p + n)
performs m (Exchange p e v) = by_test (m p == e)
  where
    by_test : (b : Bool) → MatchBool b (Becomes p v m (cond b (store m p v) m)) (cond b (store m p v) m ≡ m)
    by_test true = stored m p v
    by_test false = refl

-- the word at a place of the board
pub word_there : (s : Shape) (words : List ℕ) (p : Place) → is_valid s p ≡ true → slice_index words (address s p) ≡ memory_of s words p
word_there s words p valid = sym (ap (λ (b : Bool). cond b (get_or words (address s p) 0) 0) valid)

pub address_same : (s : Shape) (a : Access) → address_of (at_address s a) ≡ address s (place_of a)
address_same s (Load p) = refl
address_same s _ = refl

pub finds_there : (s : Shape) (words : List ℕ) (a : Access) → is_valid s (place_of a) ≡ true → slice_index words (address_of (at_address s a)) ≡ answer (memory_of s words) a
finds_there s words a valid = ap (λ (n : ℕ). get_or words n 0) (address_same s a) ∙ word_there s words (place_of a) valid

pub performed_there : (s : Shape) (words : List ℕ) (a : Access) → is_valid s (place_of a) ≡ true → address s (place_of a) < length words →
    memory_of s (performed (at_address s a) words) ≡ perform (memory_of s words) a
performed_there s words (Load p) valid lt = refl
performed_there s words (Store p v) valid lt = store_word s words p v valid lt
performed_there s words (Add p n) valid lt = store_word s words p (get_or words (address s p) 0 + n) valid lt ∙ ap (λ (w : ℕ). store (memory_of s words) p (w + n)) (word_there s words p valid)
performed_there s words (Exchange p e v) valid lt =
    subst (λ (w : ℕ). memory_of s (cond (get_or words (address s p) 0 == e) (set words (address s p) v) words) ≡ cond (w == e) (store (memory_of s words) p v) (memory_of s words))
    (word_there s words p valid) (by_test (get_or words (address s p) 0 == e))
  where
    by_test : (b : Bool) → memory_of s (cond b (set words (address s p) v) words) ≡ cond b (store (memory_of s words) p v) (memory_of s words)
    by_test true = store_word s words p v valid lt
    by_test false = refl

pub performed_length : (a : Rattle.fram_words.specs.declared.access.Access.Access) (words : List ℕ) → length (performed a words) ≡ length words
performed_length (fram.Load addr) words = refl
performed_length (fram.Store addr word) words = length-set words addr word
performed_length (fram.Add addr by) words = length-set words addr (get_or words addr 0 + by)
performed_length (fram.Exchange addr expect word) words = by_test (slice_index words addr == expect)
  where
    by_test : (b : Bool) → length (cond b (set words addr word) words) ≡ length words
    by_test true = length-set words addr word
    by_test false = refl
