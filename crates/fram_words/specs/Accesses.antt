-- An access to a place: what it changes, and the access to the place's address.
use Rattle.std.specs.Prelude.{◌≡◌, ℕ, ◌+◌, ◌==◌}
use Rattle.std.specs.Bool.{MatchBool}
use Rattle.fram_words.specs.declared.access.Access as declared
use Rattle.fram_words.specs.declared.access.Access.TheVariants as fram
use Rattle.fram_words.specs.Places.{Place, Access, Load, Store, Exchange, Add}
use Rattle.fram_words.specs.Shape.{Shape, address}
use Rattle.fram_words.specs.Changes.{Becomes}

-- the access makes new words of the old ones
abbrev pub Makes : Access → (Place → ℕ) → (Place → ℕ) → Type 0
Makes (Load place) old new = new ≡ old
Makes (Store place word) old new = Becomes place word old new
Makes (Add place by) old new = Becomes place (old place + by) old new
Makes (Exchange place expect word) old new = MatchBool (old place == expect) (Becomes place word old new) (new ≡ old)

-- the access to the address of its place
abbrev pub at_address : Shape → Access → declared.Access
at_address shape (Load p) = fram.Load (address shape p)
at_address shape (Store p v) = fram.Store (address shape p) v
at_address shape (Exchange p e v) = fram.Exchange (address shape p) e v
at_address shape (Add p n) = fram.Add (address shape p) n
