-- What a text tells of a run, in numbers.
use Rattle.std.specs.Prelude.{ℕ, ◌+◌, ◌^◌, ◌<◌, ◌==◌, Bool, false, List, All, length, map, count_by}
use Rattle.std.specs.List.{range_with_len}
use Rattle.ink_base.specs.declared.entry.Entry.{Entry}
use Rattle.ink_base.specs.declared.entry.Entry.TheVariants.{Push, Refuse}
use Rattle.task_isa.specs.declared.program.Program.{Program}
use Rattle.prog_check.specs.Lookup.{thread_def}
use Rattle.never_cut.specs.declared.model.Model.{Model}
use Rattle.never_cut.specs.State.{thread_of, source_of}
use Rattle.ink_report.specs.declared.summary.Summary.{Summary}
use Rattle.ink_report.specs.declared.summary.ThreadSummary.{ThreadSummary}
use Rattle.ink_report.specs.declared.summary.SourceSummary.{SourceSummary}

-- the entry tells that source i pushed a reading
abbrev pub is_push : ℕ → Entry → Bool
is_push i (Push source) = source.0 == i
is_push i _ = false

-- the entry tells that source i found its queue full
abbrev pub is_refusal : ℕ → Entry → Bool
is_refusal i (Refuse source) = source.0 == i
is_refusal i _ = false

-- a thread's name, its services by their end, and how many events of its queue aren't released, a finished one among them
abbrev pub thread_summary : Program → Model → ℕ → ThreadSummary
thread_summary program m t =
    let x = thread_of m t in record {
      name = (thread_def program t).name;
      served = x.served;
      trapped = x.trapped;
      expired = x.expired;
      held = length x.held;
    }

-- a source's next reading, how many entries of the journal tell of a push of it, and how many that it found its queue full
abbrev pub source_summary : Model → List Entry → ℕ → SourceSummary
source_summary m journal i =
    record { source = record { 0 = i }; next = (source_of m i).next; pushed = count_by (is_push i) journal; refused = count_by (is_refusal i) journal }

-- the program's threads and sources in order, the clock and the commits of the state, and the charges of the run
abbrev pub summary_of : Program → Model → List Entry → ℕ → Summary
summary_of program m journal charges =
    record {
      threads = map (thread_summary program m) (range_with_len 0 (length program.threads));
      sources = map (source_summary m journal) (range_with_len 0 (length program.sources));
      clock = m.clock;
      commits = m.commits;
      charges = charges;
    }

-- the counts of a source stay below 2^64 with so many more pushes and refusals
abbrev pub HasRoom : ℕ → ℕ → Summary → Type 0
HasRoom pushed refused s = All (λ (x : SourceSummary). (x.pushed + pushed < 2 ^ 64) × (x.refused + refused < 2 ^ 64)) s.sources

-- and with so many more entries
abbrev pub HasRoomFor : ℕ → Summary → Type 0
HasRoomFor entries s = HasRoom entries entries s
