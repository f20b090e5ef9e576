-- The section of a radio's script.
use Rattle.std.specs.Prelude.{ℕ, List, [], ◌∷◌, ◌++◌, length, Option, Some, None, Result, Ok, Err, nat_lt, codes, if◌then◌else◌}
use Rattle.std.specs.Option.{option_map}
use Rattle.std.specs.Str.{bytes_eq}
use Rattle.ink_base.specs.Lines.{Word, Line}
use Rattle.ink_base.specs.declared.fault.Cause.{Cause}
use Rattle.ink_base.specs.declared.fault.Cause.TheVariants.{UnknownWord, OverLimit}
use Rattle.ink_base.specs.declared.fault.JobFault.{JobFault}
use Rattle.ink_base.specs.Gives.{◌>>=◌, ◌>>◌}
use Rattle.ink_base.specs.Checks.{word_in, number_in, end_in}
use Rattle.ink_text.specs.Words.{found}
use Rattle.ink_text.specs.Section.{section_in}
use Rattle.ink_radio.specs.declared.limits.TheConstants as limits
use Rattle.ink_radio.specs.declared.event.RadioEvent.{RadioEvent}
use Rattle.ink_radio.specs.declared.event.RadioEvent.TheVariants as event
use Rattle.ink_radio.specs.declared.forms.Form.{Form}
use Rattle.ink_radio.specs.declared.forms.Form.TheVariants.{Alone, Grow, ToBase, ToNode}

-- the event that a word alone says
unfoldable pub alone : Word → Option RadioEvent
alone w =
    if bytes_eq w (codes "send") then Some event.Send
    else (if bytes_eq w (codes "rewind") then Some event.Rewind
    else (if bytes_eq w (codes "nodecut") then Some event.NodeCut
    else (if bytes_eq w (codes "save") then Some event.Save
    else (if bytes_eq w (codes "basecut") then Some event.BaseCut
    else None))))

-- the form of a line by its first word: a word alone, or one with a number behind it
unfoldable pub form_of : Word → Option Form
form_of w =
    if bytes_eq w (codes "grow") then Some Grow
    else (if bytes_eq w (codes "tobase") then Some ToBase
    else (if bytes_eq w (codes "tonode") then Some ToNode
    else option_map Alone (alone w)))

-- a number, and no further word
unfoldable pub last_number : List Word → Result ℕ Cause
last_number ws = do
  n ← number_in 0 limits.SCRIPT_NUMBER ws
  e ← end_in n.1
  Ok n.0

-- what a line of a form says
unfoldable pub event_in : Form → List Word → Result RadioEvent Cause
event_in (Alone x) ws = end_in ws >>= (λ e. Ok x)
event_in Grow ws = last_number ws >>= (λ n. Ok (event.Grow n))
event_in ToBase ws = last_number ws >>= (λ n. Ok (event.ToBase n))
event_in ToNode ws = last_number ws >>= (λ n. Ok (event.ToNode n))

-- room for one more event
abbrev pub room_in : List RadioEvent → Result (Unit {0}) Cause
room_in events = if nat_lt (length events) limits.SCRIPT_LINES then Ok tt else Err OverLimit

-- one more event
unfoldable pub script_line : List RadioEvent → (number : ℕ) → List Word → Result (List RadioEvent) Cause
script_line events number ws = do
  w ← word_in ws
  form ← found (form_of w.0)
  room ← room_in events
  event ← event_in form w.1
  Ok (events ++ event ∷ [])

-- no line of a script begins with a bracket
unfoldable pub script_end : List Line → Result (Unit {0}) JobFault
script_end [] = Ok tt
script_end (line ∷ rest) = Err (record { line = line.number; cause = UnknownWord })

-- the events of a script, by the lines from the section's header on; count is the number of all lines
unfoldable pub script_in : ℕ → List Line → Result (List RadioEvent) JobFault
script_in count ls =
    section_in count script_line [] ls >> (λ x.
    script_end x.1 >> (λ e. Ok x.0))
