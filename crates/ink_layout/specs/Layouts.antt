-- When a layout is a program's.
use Rattle.std.specs.Prelude.{◌≡◌, ℕ, ◌+◌, ◌*◌, ◌<◌, List, length, slice_index, slice_index_or}
use Rattle.task_isa.specs.declared.program.ThreadDef.{ThreadDef}
use Rattle.task_isa.specs.declared.program.Program.{Program}
use Rattle.prog_check.specs.Lookup.{thread_def, no_thread_def}
use Rattle.fram_words.specs.declared.layout.Layout.{Layout}
use Rattle.fram_words.specs.declared.layout.ThreadPlace.{ThreadPlace}
use Rattle.fram_words.specs.declared.layout.QueuePlace.{QueuePlace}
use Rattle.fram_words.specs.Places.{Place, Tail}
use Rattle.fram_words.specs.Shape.{words_before, address}
use Rattle.ink_layout.specs.Shape.{block_words, queue_words, shape_of, words_of, IsOnBoard}
use Rattle.ink_layout.specs.Addresses.{no_thread_place, no_queue_place, thread_place, queue_place, layout_address}

-- The layout is the program's: each place of the board has its address; the private words are those before the first tail; the
-- ACKs end at the clock, and the SRCs begin behind it; each block has the words of its thread, and each queue its places.
pub record IsLayout (program : Program) (layout : Layout) : Type 0 where
  pub addresses : (p : Place) → IsOnBoard program p → layout_address layout p ≡ address (shape_of program) p
  pub tasks : length layout.tasks ≡ length program.tasks
  pub threads : length layout.threads ≡ length program.threads
  pub rings : length layout.rings ≡ length program.pipes
  pub queues : length layout.queues ≡ length program.threads
  pub private : layout.private ≡ address (shape_of program) (Tail 0)
  pub acks : layout.acks + length program.sources ≡ layout.clock
  pub srcs : layout.srcs ≡ layout.clock + 1
  pub words : layout.words ≡ words_of (shape_of program)
  pub blocks : (t : ℕ) → t < length program.threads → (thread_place layout t).words ≡ block_words (thread_def program t)
  pub places : (t : ℕ) → t < length program.threads → (queue_place layout t).places ≡ queue_words (thread_def program t)

-- the starts of some regions that stand one after another from address 0 on, and the end of the last
pub record AreStarts (lengths starts : List ℕ) : Type 0 where
  pub count : length starts ≡ length lengths + 1
  pub each : (n : ℕ) → n < length lengths + 1 → slice_index starts n ≡ words_before lengths n

-- some numbers of a list, from an index on
pub record IsPart (numbers : List ℕ) (from count : ℕ) (part : List ℕ) : Type 0 where
  pub length_is : length part ≡ count
  pub each : (i : ℕ) → i < count → slice_index part i ≡ slice_index numbers (from + i)

-- the first places of some threads, of which each has the starts of its three regions
pub record AreThreadPlaces (threads : List ThreadDef) (starts : List ℕ) (from count : ℕ) (places : List ThreadPlace) : Type 0 where
  pub length_is : length places ≡ count
  pub each : (t : ℕ) → t < count →
      slice_index_or places t no_thread_place
      ≡ record {
        commit = slice_index starts (from + 3 * t);
        first = slice_index starts (from + 3 * t + 1);
        words = block_words (slice_index_or threads t no_thread_def);
        log = slice_index starts (from + 3 * t + 2);
      }

-- and of their queues, of which each has the starts of its two regions
pub record AreQueuePlaces (threads : List ThreadDef) (starts : List ℕ) (from count : ℕ) (places : List QueuePlace) : Type 0 where
  pub length_is : length places ≡ count
  pub each : (t : ℕ) → t < count →
      slice_index_or places t no_queue_place
      ≡ record {
        tail = slice_index starts (from + 2 * t);
        slots = slice_index starts (from + 2 * t + 1);
        places = queue_words (slice_index_or threads t no_thread_def);
      }

-- the numbers of the first regions of the threads, the rings, the queues and the sources: those of the threads behind one region of each task
abbrev pub blocks_from : Program → ℕ
blocks_from program = length program.tasks

-- behind three regions of each thread
abbrev pub rings_from : Program → ℕ
rings_from program = length program.tasks + 3 * length program.threads

-- behind one region of each pipe
abbrev pub queues_from : Program → ℕ
queues_from program = length program.tasks + 3 * length program.threads + length program.pipes

-- behind two regions of each queue
abbrev pub sources_from : Program → ℕ
sources_from program = length program.tasks + 3 * length program.threads + length program.pipes + 2 * length program.threads

-- a layout of the starts of the program's regions
pub record IsMadeOf (program : Program) (starts : List ℕ) (layout : Layout) : Type 0 where
  pub tasks : IsPart starts 0 (length program.tasks) layout.tasks
  pub threads : AreThreadPlaces program.threads starts (blocks_from program) (length program.threads) layout.threads
  pub rings : IsPart starts (rings_from program) (length program.pipes) layout.rings
  pub private : layout.private ≡ slice_index starts (queues_from program)
  pub queues : AreQueuePlaces program.threads starts (queues_from program) (length program.threads) layout.queues
  pub acks : layout.acks ≡ slice_index starts (sources_from program)
  pub clock : layout.clock ≡ slice_index starts (sources_from program + 1)
  pub srcs : layout.srcs ≡ slice_index starts (sources_from program + 2)
  pub words : layout.words ≡ slice_index starts (sources_from program + 3)
