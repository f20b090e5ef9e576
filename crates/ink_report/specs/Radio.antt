-- The text of a radio, as bytes.
use Rattle.std.specs.Prelude.{List, ◌++◌, ℕ, length, codes, decimal}
use Rattle.task_isa.specs.declared.program.Program.{Program}
use Rattle.ink_radio.specs.declared.record.RadioRecord.{RadioRecord}
use Rattle.ink_report.specs.Lines.{output_lines}

-- base B fresh F acked A sent S air R
abbrev pub base_line : RadioRecord → List ℕ
base_line r =
    codes "base " ++ decimal (length r.saved) ++ codes " fresh " ++ decimal (length r.fresh) ++ codes " acked " ++ decimal r.acked
    ++ codes " sent " ++ decimal r.sent ++ codes " air " ++ decimal (length r.air) ++ codes "\n"

-- a line for each output that the base has saved, in order, and the line of the base
abbrev pub radio_text : Program → RadioRecord → List ℕ
radio_text program r = output_lines program r.saved ++ base_line r
