-- The script of a text that may have bytes that aren't allowed.
use Rattle.std.specs.Prelude.{List, ℕ, Result}
use Rattle.ink_base.specs.Gives.{◌>>◌}
use Rattle.ink_base.specs.Tokens.{bytes_in}
use Rattle.ink_base.specs.declared.fault.JobFault.{JobFault}
use Rattle.ink_radio.specs.declared.event.RadioEvent.{RadioEvent}
use Rattle.ink_modes.specs.modes.Radio.{script_of}

-- the bytes are judged first
abbrev pub judged_script : List ℕ → Result (List RadioEvent) JobFault
judged_script text = bytes_in text >> (λ good. script_of text)
