-- The steps of a board, as far as its queues and sources go.
use Rattle.std.specs.Prelude.{◌≡◌, ◌⊎◌, ℕ, suc, ◌+◌, ◌%◌, ◌<◌, length, Option, Some, None}
use Rattle.fram_words.specs.Changes.{Becomes}
use Rattle.fram_words.specs.Accesses.{Makes}
use Rattle.push_core.specs.Slots.{empty_word}
use Rattle.push_core.specs.Queue.{open_queue, open_source, IsFinishing, KeepsNumbers}
use Rattle.fram_words.specs.Places.{Place, Tail, Ack, Src, IsShared}
use Rattle.fram_words.specs.Places as places
use Rattle.source_laws.specs.Model.{Board, Model, Entry, Finish, Release, IsLegal, Follows}
use Rattle.push_core.specs.Table.{IsLeft, first_row}
use Rattle.source_laws.specs.Rows.{access, take, entry, found}
use Rattle.source_laws.specs.Stands.{State, QueueKept, EventsKept, IsOrdered}

-- the entry, if there is one, may be made
abbrev pub MayAdd : Board → Option Entry → Model → Type 0
MayAdd board None m = Unit {0}
MayAdd board (Some e) m = IsLegal board m e

-- and is made
abbrev pub Adds : Board → Option Entry → Model → Model → Type 0
Adds board None old new = new ≡ old
Adds board (Some e) old new = Follows board e old new

-- source i makes the access of its row
pub record SourceStep (board : Board) (i : ℕ) (x y : State) : Type 0 where
  pub left : IsLeft (length (board.readings i)) (x.row i)
  pub word : Makes (access board i (x.row i)) x.word y.word
  pub row : Becomes i (take board i (x.row i) (found board x.word i (x.row i))) x.row y.row
  pub model : Adds board (entry board i (x.row i) (found board x.word i (x.row i))) x.model y.model

-- the steps of the others that matter to queues and sources
pub data Step (board : Board) (x y : State) : Type 0 where
  Source : (i : ℕ) → i < board.shape.sources → SourceStep board i x y → Step board x y
  -- a commit finishes the first event of queue t; it stores a private word
  Commit : (t : ℕ) → IsLegal board x.model (Finish t) → ((p : Place) → IsShared p → y.word p ≡ x.word p) → Follows board (Finish t) x.model y.model →
      y.row ≡ x.row → Step board x y
  -- the kernel stores ACK of the finished event's source
  Acknowledge : (t i count : ℕ) → IsFinishing i count (x.model.queue t) → Becomes (Ack i) ((count + 1) % 64) x.word y.word → y.model ≡ x.model →
      y.row ≡ x.row → Step board x y
  -- and then the empty slot
  Empties : (t i count : ℕ) → IsFinishing i count (x.model.queue t) → x.word (Ack i) ≡ (count + 1) % 64 →
      Becomes (places.Slot t ((x.model.queue t).released % board.places t)) (empty_word ((x.model.queue t).released + board.places t)) x.word y.word →
      Follows board (Release t) x.model y.model → y.row ≡ x.row → Step board x y
  -- any other access of the kernel or the clock, or a cut, after which each source begins at its first row
  Apart : ((p : Place) → IsShared p → y.word p ≡ x.word p) → y.model ≡ x.model → ((i : ℕ) → (y.row i ≡ x.row i) ⊎ (y.row i ≡ first_row)) → Step board x y

-- the first image, nothing accepted, and each source at its first row
pub record IsFirst (board : Board) (x : State) : Type 0 where
  pub slots : (t n : ℕ) → n < board.places t → x.word (places.Slot t n) ≡ empty_word n
  pub tails : (t : ℕ) → x.word (Tail t) ≡ 0
  pub acks : (i : ℕ) → x.word (Ack i) ≡ 0
  pub srcs : (i : ℕ) → x.word (Src i) ≡ 0
  pub queues : (t : ℕ) → x.model.queue t ≡ open_queue
  pub sources : (i : ℕ) → x.model.source i ≡ open_source
  pub rows : (i : ℕ) → x.row i ≡ first_row

-- Words that stand for a model, as a run that was cut left them, and each source at its first row. The model may have accepted,
-- released and settled any number before.
pub record IsStart (board : Board) (x : State) : Type 0 where
  pub queues : (t : ℕ) → QueueKept board x t
  pub events : (t : ℕ) → EventsKept board x.model.queue x.model.source t
  pub stands : (i : ℕ) → KeepsNumbers i (x.word (Src i)) (x.word (Ack i)) (x.model.queue (board.queue_of i)) (x.model.source i)
  pub ordered : (i : ℕ) → IsOrdered (length (board.readings i)) (x.model.source i)
  pub rows : (i : ℕ) → x.row i ≡ first_row

-- any order of accesses and cuts, from words that stand on
pub record IsRun (board : Board) (at : ℕ → State) : Type 0 where
  pub first : IsStart board (at 0)
  pub steps : (n : ℕ) → Step board (at n) (at (suc n))
