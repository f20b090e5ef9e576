-- Where the places stand: regions of words, one after another.
use Rattle.std.specs.Prelude.{ℕ, zero, suc, ◌+◌, ◌*◌, nat_lt, ◌&&◌, Bool, true, cond, List, [], ◌∷◌, ◌++◌, length, slice_index}
use Rattle.fram_words.specs.Places.{Place, Code, Commit, Page, Log, Ring, Tail, Slot, Ack, Clock, Src, Memory}

-- the private words of a thread
pub record ThreadShape : Type 0 where
  pub pages : ℕ
  pub log : ℕ

-- how many words each part has: the code of each task, each thread, the ring of each pipe, the slots of each queue, and the sources
pub record Shape : Type 0 where
  pub tasks : List ℕ
  pub threads : List ThreadShape
  pub pipes : List ℕ
  pub queues : List ℕ
  pub sources : ℕ

-- of each thread its commit word, both copies of its pages, and its outputs
abbrev pub thread_regions : List ThreadShape → List ℕ
thread_regions [] = []
thread_regions (x ∷ xs) = 1 ∷ 16 * x.pages ∷ x.log ∷ thread_regions xs

-- of each queue its tail and its slots
abbrev pub queue_regions : List ℕ → List ℕ
queue_regions [] = []
queue_regions (n ∷ ns) = 1 ∷ n ∷ queue_regions ns

-- the lengths of all regions in the order of their addresses
abbrev pub regions : Shape → List ℕ
regions s = s.tasks ++ (thread_regions s.threads ++ (s.pipes ++ (queue_regions s.queues ++ (s.sources ∷ 1 ∷ s.sources ∷ []))))

-- the region of a place, and its place in it
abbrev pub region : Shape → Place → ℕ
region s (Code x n) = x
region s (Commit t) = length s.tasks + 3 * t
region s (Page t p b k) = length s.tasks + 3 * t + 1
region s (Log t n) = length s.tasks + 3 * t + 2
region s (Ring q n) = length s.tasks + 3 * length s.threads + q
region s (Tail t) = length s.tasks + 3 * length s.threads + length s.pipes + 2 * t
region s (Slot t n) = length s.tasks + 3 * length s.threads + length s.pipes + 2 * t + 1
region s (Ack i) = length s.tasks + 3 * length s.threads + length s.pipes + 2 * length s.queues
region s Clock = length s.tasks + 3 * length s.threads + length s.pipes + 2 * length s.queues + 1
region s (Src i) = length s.tasks + 3 * length s.threads + length s.pipes + 2 * length s.queues + 2

-- how far a place lies behind the first word of its region
abbrev pub offset : Place → ℕ
offset (Code x n) = n
offset (Commit t) = 0
offset (Page t p b k) = 16 * p + 8 * b + k
offset (Log t n) = n
offset (Ring q n) = n
offset (Tail t) = 0
offset (Slot t n) = n
offset (Ack i) = i
offset Clock = 0
offset (Src i) = i

-- the indices of a place are those of the shape
abbrev pub has_indices : Shape → Place → Bool
has_indices s (Code x n) = nat_lt x (length s.tasks)
has_indices s (Commit t) = nat_lt t (length s.threads)
has_indices s (Page t p b k) = nat_lt t (length s.threads) && (nat_lt b 2 && nat_lt k 8)
has_indices s (Log t n) = nat_lt t (length s.threads)
has_indices s (Ring q n) = nat_lt q (length s.pipes)
has_indices s (Tail t) = nat_lt t (length s.queues)
has_indices s (Slot t n) = nat_lt t (length s.queues)
has_indices s (Ack i) = true
has_indices s Clock = true
has_indices s (Src i) = true

-- the board has the place: its indices are those of the shape, and it lies within its region
abbrev pub is_valid : Shape → Place → Bool
is_valid s p = has_indices s p && nat_lt (offset p) (slice_index (regions s) (region s p))

-- the number of words before a region
abbrev pub words_before : List ℕ → ℕ → ℕ
words_before xs zero = 0
words_before [] (suc i) = 0
words_before (x ∷ xs) (suc i) = x + words_before xs i

-- regions stand one after another from address 0
unfoldable pub address : Shape → Place → ℕ
address s p = words_before (regions s) (region s p) + offset p

-- the words as a memory
abbrev pub memory_of : Shape → List ℕ → Memory
memory_of s words p = cond (is_valid s p) (slice_index words (address s p)) 0
