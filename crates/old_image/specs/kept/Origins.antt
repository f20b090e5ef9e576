-- What the check of an origin of the earlier form, and that of a queue's parts, are made of.
use Rattle.std.specs.Prelude.{◌≡◌, ℕ, ◌^◌, ◌<◌, length}
use Rattle.ink_base.specs.declared.ids.SourceId.{SourceId}
use Rattle.ink_base.specs.declared.event.Origin.TheVariants as origins
use Rattle.task_isa.specs.declared.program.Program.{Program}
use Rattle.fram_words.specs.Held.{origin_word}
use Rattle.prog_check.specs.Lookup.{source_thread}

-- the word is that of the origin of an event of a source of the thread
pub record IsSourceWord (program : Program) (t word : ℕ) : Type 0 where
  pub source : SourceId
  pub reading : ℕ
  pub is : word ≡ origin_word (origins.Source source reading)
  pub known : source.0 < length program.sources
  pub own : source_thread program source.0 ≡ t
  pub fits : reading < 2 ^ 16
