-- Words of a thread's pages.
use Rattle.std.specs.Prelude.{◌≡◌, ℕ, ◌<◌}
use Rattle.fram_words.specs.Places as places

-- a word of a page of the thread
abbrev pub IsWordOfPage : (thread page : ℕ) → places.Place → Type 0
IsWordOfPage thread page (places.Page t p copy word) = (t ≡ thread) × (p ≡ page) × (copy < 2) × (word < 8)
IsWordOfPage thread page _ = ⊥

-- the access is to one
abbrev pub IsOnPage : (thread page : ℕ) → places.Access → Type 0
IsOnPage thread page access = IsWordOfPage thread page (places.place_of access)
