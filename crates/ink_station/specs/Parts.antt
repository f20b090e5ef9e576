-- The parts of a station's text: the headers of its boards, and what stands behind each.
use Rattle.std.specs.Prelude.{◌≡◌, ℕ, ◌+◌, ◌-◌, ◌<◌, Bool, false, List, [], ◌∷◌, ◌++◌, length, take, drop, replicate, slice_range, Result, Ok, Err, nat_lt, ◌==◌, codes, zero, suc, if◌then◌else◌}
use Rattle.std.specs.Str.{bytes_eq}
use Rattle.ink_base.specs.Lines.{Word, Line, lines, lines_of}
use Rattle.ink_base.specs.TokenLines.{with_words}
use Rattle.ink_base.specs.Tokens.{bytes_in}
use Rattle.ink_base.specs.declared.fault.Cause.{Cause}
use Rattle.ink_base.specs.declared.fault.Cause.TheVariants.{OverLimit}
use Rattle.ink_base.specs.declared.fault.JobFault.{JobFault}
use Rattle.ink_base.specs.Gives.{◌>>◌, at_line}
use Rattle.ink_text.specs.Section.{header_end, next_header}
use Rattle.ink_station.specs.declared.limits.TheConstants as limits
use Rattle.ink_station.specs.declared.parts.Part.{Part}

-- a line is the header of a board where its first word says so
abbrev pub begins_board : List Word → Bool
begins_board [] = false
begins_board (w ∷ ws) = bytes_eq w (codes "[board]")

-- a header behind so many: there is room for one more board, and it stands alone in its line
abbrev pub header_in : (before : ℕ) → List Word → Result (Unit {0}) Cause
header_in before words = if nat_lt before limits.BOARDS then header_end words else Err OverLimit

-- behind so many headers: the lines of those that these lines have, or the first fault of one
abbrev pub headers_in : (before : ℕ) → List Line → Result (List ℕ) JobFault
headers_in before [] = Ok []
headers_in before (line ∷ rest) =
    if begins_board line.words
    then at_line line.number (header_in before line.words) >> (λ alone. headers_in (before + 1) rest >> (λ more. Ok (line.number ∷ more)))
    else headers_in before rest

-- the lines of all headers; the first line with words has to be one, and count is the number of all lines
abbrev pub headers_of : (count : ℕ) → List Line → Result (List ℕ) JobFault
headers_of count ls = next_header count (codes "[board]") ls >> (λ first. headers_in 0 ls)

-- each part begins behind its header's line, and ends before the next header's or behind the last line
abbrev pub parts_between : (end : ℕ) → List ℕ → List Part
parts_between end [] = []
parts_between end (header ∷ []) = record { header = header; stop = end } ∷ []
parts_between end (header ∷ next ∷ rest) = record { header = header; stop = next } ∷ parts_between end (next ∷ rest)

-- the parts of a text, or the first fault of its bytes or else of its headers
abbrev pub parts_of : List ℕ → Result (List Part) JobFault
parts_of text =
    bytes_in text >> (λ good.
    headers_of (length (lines text)) (with_words (lines_of text)) >> (λ headers.
    Ok (parts_between (length (lines text) + 1) headers)))

-- how many bytes the first so many lines of a text have, with the line feeds that end them
abbrev pub lines_len : ℕ → List ℕ → ℕ
lines_len zero text = 0
lines_len (suc n) [] = 0
lines_len (suc n) (b ∷ bytes) = suc (if b == 10 then lines_len n bytes else lines_len (suc n) bytes)

-- The text of a part's job: the lines behind its header and before its stop. In place of each line before them stands an empty one, so that a line of this
-- text is that of the whole text.
abbrev pub job_text : List ℕ → Part → List ℕ
job_text text part = replicate part.header 10 ++ slice_range text (lines_len part.header text) (lines_len (part.stop - 1) text)

-- Of a part whose stop stands behind its header, the lines of its job's text are as many empty ones as there are up to the header, and then those of the whole
-- text between header and stop.
abbrev pub LinesStay : Type 0
LinesStay =
    (text : List ℕ) (part : Part) → part.header < part.stop → lines (job_text text part) ≡ replicate part.header [] ++ take (part.stop - 1 - part.header) (drop part.header (lines text))
