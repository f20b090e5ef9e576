-- What a refused push and its skip leave of the words.
use Rattle.std.specs.Prelude.{◌≡◌, ◌≢◌, ℕ, List, length, slice_index, Some}
use Rattle.ink_base.specs.declared.ids.SourceId.{SourceId}
use Rattle.ink_base.specs.declared.entry.Entry.TheVariants.{Refuse, Skip}
use Rattle.fram_words.specs.Places.{Src}
use Rattle.fram_words.specs.Shape.{address}
use Rattle.kernel_core.specs.declared.made.Made.{Made}
use Rattle.kernel_core.specs.Board.{Setup, shape}

-- the address of a source's SRC
abbrev pub src_of : Setup → SourceId → ℕ
src_of s source = address (shape s) (Src source.0)

-- as many words, the same at every address but this one
pub record IsSameBut (addr : ℕ) (old new : List ℕ) : Type 0 where
  pub count : length new ≡ length old
  pub others : (n : ℕ) → n ≢ addr → slice_index new n ≡ slice_index old n

-- where a turn's entry is a refusal, the words are what they were
abbrev pub RefusalsKeep : Made → (old new : List ℕ) → Type 0
RefusalsKeep made old new = (source : SourceId) → made.entry ≡ Some (Refuse source) → new ≡ old

-- where it is a skip, they differ at most in SRC of the source that skips
abbrev pub SkipsStore : Setup → Made → (old new : List ℕ) → Type 0
SkipsStore s made old new = (source : SourceId) → made.entry ≡ Some (Skip source) → IsSameBut (src_of s source) old new
