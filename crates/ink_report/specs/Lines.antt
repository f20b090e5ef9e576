-- The lines of a text, as bytes.
use Rattle.std.specs.Prelude.{List, [], ◌++◌, ℕ, Option, Some, None, flat_map, codes, decimal}
use Rattle.ink_base.specs.declared.output.Output.{Output}
use Rattle.task_isa.specs.declared.program.Program.{Program}
use Rattle.prog_check.specs.Lookup.{thread_def}
use Rattle.ink_report.specs.declared.charge_bounds.ChargeBounds.{ChargeBounds}
use Rattle.ink_report.specs.declared.summary.Summary.{Summary}
use Rattle.ink_report.specs.declared.summary.ThreadSummary.{ThreadSummary}
use Rattle.ink_report.specs.declared.summary.SourceSummary.{SourceSummary}

-- STAMP THREAD VALUE
abbrev pub output_line : Program → Output → List ℕ
output_line program o =
    decimal o.stamp ++ codes " " ++ (thread_def program o.thread.0).name ++ codes " " ++ decimal o.value ++ codes "\n"

-- a line for each output, in order
abbrev pub output_lines : Program → List Output → List ℕ
output_lines program outputs = flat_map (output_line program) outputs

-- thread NAME served A trapped B expired C held D
abbrev pub thread_line : ThreadSummary → List ℕ
thread_line x =
    codes "thread " ++ x.name ++ codes " served " ++ decimal x.served ++ codes " trapped " ++ decimal x.trapped
    ++ codes " expired " ++ decimal x.expired ++ codes " held " ++ decimal x.held ++ codes "\n"

-- source Si next K pushed P refused R
abbrev pub source_line : SourceSummary → List ℕ
source_line x =
    codes "source S" ++ decimal x.source.0 ++ codes " next " ++ decimal x.next ++ codes " pushed " ++ decimal x.pushed
    ++ codes " refused " ++ decimal x.refused ++ codes "\n"

-- clock C commits M charges N
abbrev pub totals_line : Summary → List ℕ
totals_line s = codes "clock " ++ decimal s.clock ++ codes " commits " ++ decimal s.commits ++ codes " charges " ++ decimal s.charges ++ codes "\n"

-- a line for each thread, one for each source, and the totals
abbrev pub summary_lines : Summary → List ℕ
summary_lines s = flat_map thread_line s.threads ++ flat_map source_line s.sources ++ totals_line s

-- bounds boot B round R
abbrev pub bounds_line : ChargeBounds → List ℕ
bounds_line b = codes "bounds boot " ++ decimal b.boot ++ codes " round " ++ decimal b.round ++ codes "\n"

-- the line of the bounds, where they are shown
abbrev pub bounds_lines : Option ChargeBounds → List ℕ
bounds_lines None = []
bounds_lines (Some b) = bounds_line b
