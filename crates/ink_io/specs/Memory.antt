-- What the kinds in memory do at each call.
use Rattle.std.specs.Prelude.{ℕ, ◌-◌, ◌||◌, min, Bool, true, false, not, nat_eq, nat_le, if◌then◌else◌, List, ◌++◌, length, take, drop}
use Rattle.std.specs.List.{list_any}
use Rattle.ink_io.specs.Counts.{next_count}

-- the numbers of the calls that are to fail, and how many calls there were and how many failed
pub record CallLog : Type 0 where
  pub fail_at : List ℕ
  pub made : ℕ
  pub faults : ℕ

-- no call yet
abbrev pub no_calls : List ℕ → CallLog
no_calls fail_at = record { fail_at = fail_at; made = 0; faults = 0 }

-- the next call is one of those that are to fail: calls are numbered from 1
abbrev pub fails_next : CallLog → Bool
fails_next log = list_any (λ n. nat_eq n (next_count log.made)) log.fail_at

-- one more call, which failed or not
abbrev pub one_call : CallLog → Bool → CallLog
one_call log fails = record log { made = next_count log.made; faults = (if fails then next_count log.faults else log.faults) }

-- a source in memory: the bytes that are left, the most that a call gives, its calls, and how many were answered with Ok
pub record MemorySource : Type 0 where
  pub left : List ℕ
  pub chunk : ℕ
  pub calls : CallLog
  pub reads : ℕ

-- how many bytes a successful read into so much room gives
abbrev pub read_count : MemorySource → ℕ → ℕ
read_count source room = min source.chunk (min room (length source.left))

-- the source after one read into so much room
abbrev pub after_read : MemorySource → ℕ → MemorySource
after_read source room = if fails_next source.calls
    then record source { calls = one_call source.calls true }
    else record source { calls = one_call source.calls false; left = drop (read_count source room) source.left; reads = next_count source.reads }

-- a sink in memory: the bytes that it holds, the most that it can hold, the most that a call takes, and its calls
pub record MemorySink : Type 0 where
  pub held : List ℕ
  pub capacity : ℕ
  pub chunk : ℕ
  pub calls : CallLog

-- how many bytes a successful write of a piece of this length takes
abbrev pub write_count : MemorySink → ℕ → ℕ
write_count sink size = min sink.chunk size

-- a write fails where it is one of those that are to fail, and where what it would take is more than the room that is left
abbrev pub write_fails : MemorySink → ℕ → Bool
write_fails sink size = fails_next sink.calls || not (nat_le (write_count sink size) (sink.capacity - length sink.held))

-- the sink after one write of a piece
abbrev pub after_write : MemorySink → List ℕ → MemorySink
after_write sink piece = if write_fails sink (length piece)
    then record sink { calls = one_call sink.calls true }
    else record sink { held = sink.held ++ take (write_count sink (length piece)) piece; calls = one_call sink.calls false }
