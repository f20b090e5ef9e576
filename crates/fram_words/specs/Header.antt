-- The numbers of the words of a thread's block: the header, and the state behind it.
use Rattle.std.specs.Prelude.{ℕ, ◌+◌, ◌*◌, ◌<◌}
use Rattle.ink_base.specs.declared.limits.TheConstants as limits
use Rattle.fram_words.specs.declared.header.Header.{Header}
use Rattle.fram_words.specs.declared.header.Header.TheVariants as headers

-- the stamp of the thread's last commit
abbrev pub stamp : ℕ
stamp = 0

-- the word of the next task
abbrev pub next : ℕ
next = 1

-- the time of the chain's first commit
abbrev pub first : ℕ
first = 2

-- the origin of the chain's event
abbrev pub origin : ℕ
origin = 3

-- the value of that event
abbrev pub value : ℕ
value = 4

-- the number of queue events that the thread has finished
abbrev pub finished : ℕ
finished = 5

-- the number of services that were served to their end
abbrev pub served : ℕ
served = 6

-- the number of those that a trap ended
abbrev pub trapped : ℕ
trapped = 7

-- the number of those that expired
abbrev pub expired : ℕ
expired = 8

-- the number of outputs
abbrev pub outputs : ℕ
outputs = 9

-- the number of items written to a pipe
abbrev pub written : (pipe : ℕ) → ℕ
written pipe = 10 + pipe

-- the number of items taken from a pipe
abbrev pub taken : (pipe : ℕ) → ℕ
taken pipe = 18 + pipe

-- the due word of a timer
abbrev pub due : (timer : ℕ) → ℕ
due timer = 26 + 2 * timer

-- the period of a timer
abbrev pub period : (timer : ℕ) → ℕ
period timer = 27 + 2 * timer

-- the number of words of the header
abbrev pub words : ℕ
words = 48

-- a number of the state, which stands behind the header
abbrev pub state : (index : ℕ) → ℕ
state index = words + index

-- the number of a header word
abbrev pub word_of : Header → ℕ
word_of headers.Stamp = stamp
word_of headers.Next = next
word_of headers.First = first
word_of headers.Origin = origin
word_of headers.Value = value
word_of headers.Finished = finished
word_of headers.Served = served
word_of headers.Trapped = trapped
word_of headers.Expired = expired
word_of headers.Outputs = outputs
word_of (headers.Written pipe) = written pipe
word_of (headers.Taken pipe) = taken pipe
word_of (headers.Due timer) = due timer
word_of (headers.Period timer) = period timer

-- the numbers of pipes and timers are within their limits
abbrev pub IsHeader : Header → Type 0
IsHeader (headers.Written pipe) = pipe < limits.PIPES
IsHeader (headers.Taken pipe) = pipe < limits.PIPES
IsHeader (headers.Due timer) = timer < limits.TIMERS
IsHeader (headers.Period timer) = timer < limits.TIMERS
IsHeader _ = Unit {0}
