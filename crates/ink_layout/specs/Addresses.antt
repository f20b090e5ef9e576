-- The addresses that a layout gives to the places of a board.
use Rattle.std.specs.Prelude.{ℕ, ◌+◌, ◌*◌, slice_index, slice_index_or}
use Rattle.fram_words.specs.declared.access.Access as declared
use Rattle.fram_words.specs.declared.access.Access.TheVariants as fram
use Rattle.fram_words.specs.declared.layout.Layout.{Layout}
use Rattle.fram_words.specs.declared.layout.ThreadPlace.{ThreadPlace}
use Rattle.fram_words.specs.declared.layout.QueuePlace.{QueuePlace}
use Rattle.fram_words.specs.Places.{Place, Code, Commit, Page, Log, Ring, Tail, Slot, Ack, Clock, Src, Access, Load, Store, Exchange, Add}

-- what stands for the words of a thread or a queue that isn't there
abbrev pub no_thread_place : ThreadPlace
no_thread_place = record { commit = 0; first = 0; words = 0; log = 0 }

-- and for those of a queue
abbrev pub no_queue_place : QueuePlace
no_queue_place = record { tail = 0; slots = 0; places = 0 }

-- where the words of a thread stand
abbrev pub thread_place : Layout → ℕ → ThreadPlace
thread_place layout t = slice_index_or layout.threads t no_thread_place

-- where the words of a queue stand
abbrev pub queue_place : Layout → ℕ → QueuePlace
queue_place layout t = slice_index_or layout.queues t no_queue_place

-- the address of a place
abbrev pub layout_address : Layout → Place → ℕ
layout_address layout (Code x n) = slice_index layout.tasks x + n
layout_address layout (Commit t) = (thread_place layout t).commit
layout_address layout (Page t page copy word) = (thread_place layout t).first + 16 * page + 8 * copy + word
layout_address layout (Log t n) = (thread_place layout t).log + n
layout_address layout (Ring q n) = slice_index layout.rings q + n
layout_address layout (Tail t) = (queue_place layout t).tail
layout_address layout (Slot t n) = (queue_place layout t).slots + n
layout_address layout (Ack i) = layout.acks + i
layout_address layout Clock = layout.clock
layout_address layout (Src i) = layout.srcs + i

-- the access to the address of its place
abbrev pub at_layout : Layout → Access → declared.Access
at_layout layout (Load p) = fram.Load (layout_address layout p)
at_layout layout (Store p v) = fram.Store (layout_address layout p) v
at_layout layout (Exchange p e v) = fram.Exchange (layout_address layout p) e v
at_layout layout (Add p n) = fram.Add (layout_address layout p) n
