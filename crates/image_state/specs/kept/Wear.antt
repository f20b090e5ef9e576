-- When an image is worn, as a test.
use Rattle.std.specs.Prelude.{ℕ, zero, suc, ◌+◌, ◌^◌, ◌||◌, nat_le, nat_lt, Bool, false, List, length, slice_index}
use Rattle.ink_base.specs.declared.limits.TheConstants as limits
use Rattle.task_isa.specs.declared.program.Program.{Program}
use Rattle.fram_words.specs.Places.{Memory, Clock}
use Rattle.fram_words.specs.Header as header
use Rattle.thread_state.specs.Pages.{committed}
use Rattle.push_core.specs.Table.{greatest_tail}
use Rattle.push_core.specs.Queue.{published}
use Rattle.never_cut.specs.Image.{taken_of, written_of}
use Rattle.never_cut.specs.ReadOff.{told_queue, told_source}
use Rattle.never_cut.specs.Worn.{listed_into}

-- one of the numbers below a count passes
abbrev pub any_below : (ℕ → Bool) → (count : ℕ) → Bool
any_below test zero = false
any_below test (suc n) = any_below test n || test n

-- the readings that are listed for a source don't fit behind those that it has settled
abbrev pub wears_source : Program → (listed : List ℕ) → Memory → (i : ℕ) → Bool
wears_source program listed words i = nat_lt limits.READINGS ((told_source program words i).next + slice_index listed i)

-- a count has half of its range behind it
abbrev pub is_high : (count : ℕ) → Bool
is_high count = nat_le (2 ^ 31) count

-- the queue of a thread has no position for each reading that is listed
abbrev pub wears_queue : Program → (listed : List ℕ) → Memory → (t : ℕ) → Bool
wears_queue program listed words t = nat_lt greatest_tail (published (told_queue program words t) + listed_into program listed t (length program.sources))

-- the stamp of a thread or a count of its services is high, or its queue is worn
abbrev pub wears_thread : Program → (listed : List ℕ) → Memory → (t : ℕ) → Bool
wears_thread program listed words t =
    is_high (committed words t header.stamp) || (is_high (committed words t header.served) || (is_high (committed words t header.trapped)
    || (is_high (committed words t header.expired) || wears_queue program listed words t)))

-- a count of a pipe's items is high
abbrev pub wears_pipe : Program → Memory → (q : ℕ) → Bool
wears_pipe program words q = is_high (written_of program words q) || is_high (taken_of program words q)

-- the clock is late, or a source, a thread or a pipe is worn
abbrev pub wears : Program → (listed : List ℕ) → Memory → Bool
wears program listed words =
    nat_le (2 ^ 46) (words Clock) || (any_below (wears_source program listed words) (length program.sources)
    || (any_below (wears_thread program listed words) (length program.threads) || any_below (wears_pipe program words) (length program.pipes)))
