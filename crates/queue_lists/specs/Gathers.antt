-- The lists of all sources, put together queue by queue.
use Rattle.std.specs.Prelude.{◌≡◌, ◌≢◌, ℕ, zero, suc, ◌<◌, ◌≤◌, List, [], ◌++◌, length, map, slice_index_or}
use mathlib.Core.Option.{some}
use lib.ListN.{get_elem?}
use Rattle.ink_base.specs.declared.accept.Accept.{Accept}
use Rattle.ink_base.specs.declared.ids.SourceId.{SourceId}
use Rattle.task_isa.specs.declared.program.Program.{Program}
use Rattle.irq_source.specs.declared.lists.Published.{Published}
use Rattle.live_account.specs.declared.record.Refusal.{Refusal}
use Rattle.queue_lists.specs.Lists.{Lists, accepted_into, all_into, lists_at}
use Rattle.queue_lists.specs.Puts.{HavePositions, accepted_as, refusal_of}
use Rattle.queue_lists.specs.Rooms.{HasSpace, Rooms, space_at}

-- source number i
abbrev pub source : ℕ → SourceId
source i = record { 0 = i }

-- the refusals of the first n sources, source by source
abbrev pub refusals_of : List Lists → (n : ℕ) → List Refusal
refusals_of lists zero = []
refusals_of lists (suc n) = refusals_of lists n ++ map (refusal_of (source n)) (lists_at lists n).refused

-- Each source has its lists. Its published readings rise in its queue, whose positions are as many as all that are published there, and no two sources
-- have published at the same position.
pub record HavePlaces (program : Program) (lists : List Lists) : Type 0 where
  pub sources : length lists ≡ length program.sources
  pub positions : (t i : ℕ) → HavePositions (accepted_into program lists t i) (all_into program lists t)
  pub apart : (t i j m n : ℕ) (p q : Published) → i ≢ j → get_elem? (accepted_into program lists t i) m ≡ some p → get_elem? (accepted_into program lists t j) n ≡ some q → p.position ≢ q.position

-- the lists of all sources have room
pub record HaveRoom (program : Program) (lists : List Lists) (rooms : Rooms) : Type 0 where
  pub queues : length rooms.queues ≡ length program.threads
  pub events : (t : ℕ) → t < length program.threads → HasSpace (all_into program lists t) (space_at rooms t)
  pub refused : length (refusals_of lists (length lists)) ≤ rooms.refused

-- Thread t's queue has as many places as events were published in it, and those of the first n sources stand at their positions, their charges beside them.
pub record ArePlaced (program : Program) (lists : List Lists) (t n : ℕ) (accepts : List Accept) (charges : List ℕ) : Type 0 where
  pub size : length accepts ≡ all_into program lists t
  pub dated : length charges ≡ all_into program lists t
  pub here : (i k : ℕ) (p : Published) → i < n → get_elem? (accepted_into program lists t i) k ≡ some p → get_elem? accepts p.position ≡ some (accepted_as (source i) p)
  pub date : (i k : ℕ) (p : Published) → i < n → get_elem? (accepted_into program lists t i) k ≡ some p → get_elem? charges p.position ≡ some p.charge

-- Each queue has the events of all its sources at their positions, their charges beside them.
pub record AreQueues (program : Program) (lists : List Lists) (accepted : List (List Accept)) (charges : List (List ℕ)) : Type 0 where
  pub queues : (length accepted ≡ length program.threads) × (length charges ≡ length program.threads)
  pub events : (t : ℕ) → t < length program.threads → ArePlaced program lists t (length lists) (slice_index_or accepted t []) (slice_index_or charges t [])

-- So has each queue of a record, and its refusals stand source by source, each with its source.
pub record AreGathered (program : Program) (lists : List Lists) (accepted : List (List Accept)) (charges : List (List ℕ)) (refused : List Refusal) : Type 0 where
  pub events : AreQueues program lists accepted charges
  pub refusals : refused ≡ refusals_of lists (length lists)
