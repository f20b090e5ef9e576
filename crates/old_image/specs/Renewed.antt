-- What today's words are made of those of the earlier form.
use Rattle.std.specs.Prelude.{◌≡◌, ◌≢◌, ℕ, ◌+◌, ◌*◌, ◌/◌, ◌%◌, ◌^◌, ◌<◌, ◌≤◌, List, length, take}
use Rattle.task_isa.specs.declared.program.Program.{Program}
use Rattle.fram_words.specs.Places.{Place, Memory, Page, Slot, Ack, Src, Commit}
use Rattle.fram_words.specs.Header as header
use Rattle.fram_words.specs.Held.{src_word}
use Rattle.thread_state.specs.Pages.{committed, place_in}
use Rattle.push_core.specs.Slots.{full_word, empty_word}
use Rattle.prog_check.specs.Lookup.{thread_def}
use Rattle.never_cut.specs.Image.{IsImage}
use Rattle.never_cut.specs.Worn.{IsWorn}
use Rattle.old_image.specs.declared.old_event.OldEvent.{OldEvent}
use Rattle.old_image.specs.Told.{old_released, old_held, old_held_for, old_event_at, own_old, old_next}
use Rattle.old_image.specs.Image.{HasSourceChain}
use Rattle.old_image.specs.Worn.{IsOldWorn}

-- the slot at k places behind the first of a queue's positions
abbrev pub place_behind : Program → Memory → (t k : ℕ) → Place
place_behind program words t k = Slot t ((old_released program words t + k) % (thread_def program t).queue)

-- today's word of the k-th of some held events, at a position: its count is its place among the events of its source, from 0
abbrev pub renewed_word : (position : ℕ) → List OldEvent → (k : ℕ) → ℕ
renewed_word position held k =
    full_word position (old_event_at held k).source (own_old (old_event_at held k).source.0 (take k held)) (old_event_at held k).value

-- the word of the origin of a source's event without the number of its reading, which has bits 0 to 15: so its count is 0
abbrev pub without_reading : (word : ℕ) → ℕ
without_reading word = word / 2 ^ 16 * 2 ^ 16

-- where the origin stands in a thread's committed copy
abbrev pub origin_place : Memory → (t : ℕ) → Place
origin_place words t = place_in t (words (Commit t)) header.origin

-- A word that stays: all but the slots, SRCs and ACKs, and the origin of a running chain of a source's event.
abbrev pub Stays : Memory → Place → Type 0
Stays words (Slot t n) = ⊥
Stays words (Ack i) = ⊥
Stays words (Src i) = ⊥
Stays words (Page t p b k) = HasSourceChain words t → Page t p b k ≢ origin_place words t
Stays words _ = Unit {0}

-- The new words are today's of the old ones.
pub record IsRenewed (program : Program) (old new : Memory) : Type 0 where
  -- a held event has its place among the held events of its source, and a slot without one is empty for its position
  pub held : (t k : ℕ) → t < length program.threads → k < length (old_held program old t) →
      new (place_behind program old t k) ≡ renewed_word (old_released program old t + k) (old_held program old t) k
  pub empty : (t k : ℕ) → t < length program.threads → length (old_held program old t) ≤ k → k < (thread_def program t).queue →
      new (place_behind program old t k) ≡ empty_word (old_released program old t + k)
  -- SRC has the number of the source's held events, and its next reading; ACK is 0
  pub srcs : (i : ℕ) → i < length program.sources → new (Src i) ≡ src_word (own_old i (old_held_for program old i)) (old_next program old i)
  pub acks : (i : ℕ) → i < length program.sources → new (Ack i) ≡ 0
  -- the event of a running chain of a source's event has count 0
  pub origins : (t : ℕ) → t < length program.threads → HasSourceChain old t → new (origin_place old t) ≡ without_reading (committed old t header.origin)
  -- every other word stays
  pub same : (p : Place) → Stays old p → new p ≡ old p

-- words that aren't worn in the earlier form aren't worn in today's
pub record StayFresh (program : Program) (old new : Memory) : Type 0 where
  pub fresh : (listed : List ℕ) → ¬ IsOldWorn program listed old → ¬ IsWorn program listed new
