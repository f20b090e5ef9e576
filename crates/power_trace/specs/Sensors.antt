-- The section of the readings.
use Rattle.std.specs.Prelude.{ℕ, List, [], ◌∷◌, ◌++◌, length, replicate, Ok, Err, Result, nat_lt, slice_index_or, slice_set, codes, if◌then◌else◌}
use Rattle.ink_base.specs.Lines.{Word, Line}
use Rattle.ink_base.specs.declared.limits.TheConstants as limits
use Rattle.ink_base.specs.declared.fault.Cause.{Cause}
use Rattle.ink_base.specs.declared.fault.Cause.TheVariants.{OverLimit}
use Rattle.ink_base.specs.declared.fault.JobFault.{JobFault}
use Rattle.ink_base.specs.Gives.{◌>>=◌, ◌>>◌}
use Rattle.ink_base.specs.Checks.{word_in}
use Rattle.ink_text.specs.Words.{words_in, up_to, found}
use Rattle.ink_text.specs.Names.{source_of}
use Rattle.ink_text.specs.Section.{next_header, section_in}

-- one more value of a source, below 2^32
abbrev pub value_in : List ℕ → Word → Result (List ℕ) Cause
value_in values w = up_to 4294967295 w >>= (λ value. if nat_lt (length values) limits.READINGS then Ok (values ++ value ∷ []) else Err OverLimit)

-- the values of a line are appended to those of its source
unfoldable pub sensor_line : List (List ℕ) → (number : ℕ) → List Word → Result (List (List ℕ)) Cause
sensor_line readings number ws = do
  w ← word_in ws
  i ← found (source_of (length readings) w.0)
  values ← words_in value_in (slice_index_or readings i []) w.1
  Ok (slice_set readings i values)

-- the readings of each source, by the lines from the section's header on, and the lines from the next header on, which is that of the power trace; count is
-- the number of all lines
unfoldable pub sensors_in : ℕ → (sources : ℕ) → List Line → Result (List (List ℕ) × List Line) JobFault
sensors_in count sources ls =
    section_in count sensor_line (replicate sources []) ls >> (λ x.
    next_header count (codes "[power]") x.1 >> (λ e. Ok x))
