-- The text of a run, as bytes.
use Rattle.std.specs.Prelude.{ℕ, List, [], ◌++◌, None, Some, if◌then◌else◌, codes}
use Rattle.ink_base.specs.declared.entry.Entry.{Entry}
use Rattle.ink_base.specs.declared.output.Output.{Output}
use Rattle.task_isa.specs.declared.program.Program.{Program}
use Rattle.never_cut.specs.declared.model.Model.{Model}
use Rattle.ink_report.specs.declared.flags.Flags.{Flags}
use Rattle.ink_report.specs.declared.summary.Summary.{Summary}
use Rattle.ink_report.specs.Bounds.{bounds_shown}
use Rattle.ink_report.specs.Summary.{summary_of}
use Rattle.ink_report.specs.Lines.{output_lines, summary_lines, bounds_lines}
use Rattle.ink_report.specs.Json.{json_line}
use Rattle.ink_report.specs.Journal.{entry_lines}

-- the outputs in order, or nothing where the job was generated from a seed
abbrev pub outputs_part : Program → List Output → Flags → List ℕ
outputs_part program outputs flags = elim flags.seed [ None ↦ output_lines program outputs | Some seed ↦ [] ]

-- the summary and the bounds, where these are asked for, as lines or as JSON
abbrev pub summary_part : Program → Summary → Flags → List ℕ
summary_part program summary flags =
    let bounds = bounds_shown program flags in
    if flags.json then json_line bounds summary else summary_lines summary ++ bounds_lines bounds

-- the line [journal], where the journal is asked for
abbrev pub header_part : Flags → List ℕ
header_part flags = if flags.journal then codes "[journal]\n" else []

-- what stands before the entries: the outputs, the summary with the bounds, and the header
abbrev pub head : Program → List Output → Summary → Flags → List ℕ
head program outputs summary flags = outputs_part program outputs flags ++ summary_part program summary flags ++ header_part flags

-- the entries, where the journal is asked for
abbrev pub entries_part : Program → List Entry → Flags → List ℕ
entries_part program journal flags = if flags.journal then entry_lines program journal else []

-- the outputs, the summary, and the journal
abbrev pub run_text : Program → Model → List Entry → ℕ → Flags → List ℕ
run_text program m journal charges flags =
    head program m.outputs (summary_of program m journal charges) flags ++ entries_part program journal flags
