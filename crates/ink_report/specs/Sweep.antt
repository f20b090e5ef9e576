-- The text of a table of runs that are cut, as bytes.
use Rattle.std.specs.Prelude.{List, ◌++◌, ℕ, flat_map, codes, decimal}
use Rattle.ink_report.specs.declared.sweep.SweepRow.{SweepRow}
use Rattle.ink_report.specs.declared.sweep.SweepTable.{SweepTable}

-- cut N outputs O commits C held H
abbrev pub row_line : SweepRow → List ℕ
row_line r =
    codes "cut " ++ decimal r.cut ++ codes " outputs " ++ decimal r.outputs ++ codes " commits " ++ decimal r.commits ++ codes " held " ++ decimal r.held ++ codes "\n"

-- a line for each row, in order
abbrev pub sweep_text : SweepTable → List ℕ
sweep_text table = flat_map row_line table.rows
