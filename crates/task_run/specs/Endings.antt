-- What an ending writes to the header.
use Rattle.std.specs.Prelude.{ℕ, Some, None}
use Rattle.fram_words.specs.Header as header
use Rattle.fram_words.specs.Held.{next_word}
use Rattle.task_run.specs.declared.ending.Ending.{Ending}
use Rattle.task_run.specs.declared.ending.Ending.TheVariants as endings

-- the word of the task that the chain goes on with, or of an idle thread
abbrev pub next_by : Ending → ℕ
next_by (endings.Next task) = next_word (Some (record { 0 = task }))
next_by _ = next_word None

-- the header word that counts the services that end so
abbrev pub total_word : Ending → ℕ
total_word endings.Trapped = header.trapped
total_word endings.Expired = header.expired
total_word _ = header.served
