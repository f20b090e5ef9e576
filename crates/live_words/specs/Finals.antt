-- The words of a live board at the end: the kernel's own, those of the set of queues, and the sources' SRCs, each in its place.
use Rattle.std.specs.Prelude.{◌≡◌, ℕ, ◌<◌, List, length, slice_index}
use Rattle.task_isa.specs.declared.program.Program.{Program}
use Rattle.fram_words.specs.Places.{Place, Tail, Slot, Ack, Clock, Src}
use Rattle.fram_words.specs.Shape.{memory_of}
use Rattle.prog_check.specs.Lookup.{thread_def}
use Rattle.ink_layout.specs.Shape.{shape_of, words_of}
use Rattle.event_queue.specs.declared.view.Lay.{Lay}
use Rattle.event_queue.specs.Places as set
use Rattle.event_queue.specs.Places.{word_at, word_count}
use Rattle.kernel_actor.specs.Kinds.{IsOwn}
use Rattle.kernel_actor.specs.Lays.{IsLayOf}

-- these can be put together: as many own words as the board has, as many words as a set of the program's queues has, and a SRC of each source
pub record CanJoin (program : Program) (own closed srcs : List ℕ) : Type 0 where
  pub own_words : length own ≡ words_of (shape_of program)
  pub lay : Lay
  pub is_lay : IsLayOf program lay
  pub set_words : length closed ≡ word_count lay
  pub src_words : length srcs ≡ length program.sources

-- the word at a place of the program's board
abbrev pub word_of : Program → List ℕ → Place → ℕ
word_of program words p = memory_of (shape_of program) words p

-- The kernel's own words are in their places; tails, slots, ACKs and the clock are those of the set; each source has its own SRC.
pub record AreFinal (program : Program) (lay : Lay) (own closed srcs words : List ℕ) : Type 0 where
  pub count : length words ≡ length own
  pub own_same : (p : Place) → IsOwn p → word_of program words p ≡ word_of program own p
  pub tails : (t : ℕ) → t < length program.threads → word_of program words (Tail t) ≡ word_at lay closed (set.Tail t)
  pub slots : (t n : ℕ) → t < length program.threads → n < (thread_def program t).queue → word_of program words (Slot t n) ≡ word_at lay closed (set.Slot t n)
  pub acks : (i : ℕ) → i < length program.sources → word_of program words (Ack i) ≡ word_at lay closed (set.Ack i)
  pub clock : word_of program words Clock ≡ word_at lay closed set.Clock
  pub srcs_same : (i : ℕ) → i < length program.sources → word_of program words (Src i) ≡ slice_index srcs i
