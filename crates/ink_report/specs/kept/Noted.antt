-- A summary in which one entry more is counted.
use Rattle.std.specs.Prelude.{ℕ, ◌+◌, slice_index_or, slice_set}
use Rattle.ink_base.specs.declared.entry.Entry.{Entry}
use Rattle.ink_base.specs.declared.entry.Entry.TheVariants.{Push, Refuse}
use Rattle.ink_report.specs.declared.summary.Summary.{Summary}
use Rattle.ink_report.specs.declared.summary.SourceSummary.{SourceSummary}

-- what stands for a source that isn't told of
abbrev pub no_source : SourceSummary
no_source = record { source = record { 0 = 0 }; next = 0; pushed = 0; refused = 0 }

-- with so many more pushes and refusals
abbrev pub source_with_more : ℕ → ℕ → SourceSummary → SourceSummary
source_with_more pushed refused x = record x { pushed = x.pushed + pushed; refused = x.refused + refused }

-- the same of source i of a summary
abbrev pub with_more : ℕ → ℕ → ℕ → Summary → Summary
with_more i pushed refused s = record s { sources = slice_set s.sources i (source_with_more pushed refused (slice_index_or s.sources i no_source)) }

-- the summary with one entry more
abbrev pub noted : Entry → Summary → Summary
noted (Push source) s = with_more source.0 1 0 s
noted (Refuse source) s = with_more source.0 0 1 s
noted _ s = s
