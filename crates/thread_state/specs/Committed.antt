-- A thread's block of words on pages of eight words, each in two copies, and the copy that is committed.
use Rattle.std.specs.Prelude.{ℕ, ◌/◌, ◌%◌}
use Rattle.std.specs.Int.{bit_at}
use Rattle.fram_words.specs.Places.{Place, Commit, Page, Memory}

-- where a word of the thread's block stands in the copies that a mask names
abbrev pub place_in : ℕ → ℕ → ℕ → Place
place_in thread mask word = Page thread (word / 8) (bit_at mask (word / 8)) (word % 8)

-- the word of the block in those copies
abbrev pub word_in : Memory → ℕ → ℕ → ℕ → ℕ
word_in m thread mask word = m (place_in thread mask word)

-- the word of the committed copy
abbrev pub committed : Memory → ℕ → ℕ → ℕ
committed m thread word = word_in m thread (m (Commit thread)) word
