-- A section of a text: a header, and the lines up to the next header, which are read one after another.
use Rattle.std.specs.Prelude.{ℕ, ◌+◌, Bool, false, List, [], ◌∷◌, Result, Ok, Err, ◌==◌, if◌then◌else◌}
use Rattle.std.specs.Str.{bytes_eq}
use Rattle.ink_base.specs.Lines.{Word, Line}
use Rattle.ink_base.specs.declared.fault.Cause.{Cause}
use Rattle.ink_base.specs.declared.fault.Cause.TheVariants.{Missing, BadSection}
use Rattle.ink_base.specs.declared.fault.JobFault.{JobFault}
use Rattle.ink_base.specs.Gives.{◌>>◌, at_line}
use Rattle.ink_base.specs.Checks.{end_in}

-- the header of a section begins with a bracket
abbrev pub is_header : List Word → Bool
is_header [] = false
is_header ([] ∷ ws) = false
is_header ((b ∷ w) ∷ ws) = b == 91

-- a line that begins with the header that is expected
unfoldable pub header_in : Word → List Word → Result (Unit {0}) Cause
header_in expected [] = Err BadSection
header_in expected (w ∷ ws) = if bytes_eq w expected then Ok tt else Err BadSection

-- a header stands alone in its line
unfoldable pub header_end : List Word → Result (Unit {0}) Cause
header_end [] = Ok tt
header_end (w ∷ ws) = end_in ws

-- the number of the next line; one more than the count of all lines where the text has ended
abbrev pub next_number : ℕ → List Line → ℕ
next_number count [] = count + 1
next_number count (line ∷ rest) = line.number

-- what has to stand in the next line isn't there
abbrev pub missing : ℕ → List Line → JobFault
missing count lines = record { line = next_number count lines; cause = Missing }

-- the next line has to begin with this header; what follows it there is judged with the section that it begins
unfoldable pub next_header : ℕ → Word → List Line → Result (Unit {0}) JobFault
next_header count expected [] = Err (missing count [])
next_header count expected (line ∷ rest) = at_line line.number (header_in expected line.words)

-- a state after each line up to the next header, and the lines from there on
unfoldable pub lines_in : {S : Type 0} → (S → ℕ → List Word → Result S Cause) → S → List Line → Result (S × List Line) JobFault
lines_in f s [] = Ok (s, [])
lines_in f s (line ∷ rest) = if is_header line.words then Ok (s, line ∷ rest) else at_line line.number (f s line.number line.words) >> (λ next. lines_in f next rest)

-- the same by the lines from the section's header on; count is the number of all lines
unfoldable pub section_in : {S : Type 0} → ℕ → (S → ℕ → List Word → Result S Cause) → S → List Line → Result (S × List Line) JobFault
section_in count f s [] = Err (missing count [])
section_in count f s (header ∷ rest) = at_line header.number (header_end header.words) >> (λ e. lines_in f s rest)
