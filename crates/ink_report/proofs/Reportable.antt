-- The state after a legal journal can be reported.
use Rattle.ink_report.proofs.Common.{ℕ, zero, suc, ◌+◌, ◌<◌, Bool, true, false, if◌then◌else◌, List, [], ◌∷◌, length, Option, Some, None, ◌∙◌, arith, slice_index_or, length-set, length-map, All-nil, All-append, Entry, Push, Refuse, Skip, Tick, Scan, Look, Commit, Release, Program, Model, thread_of, source_of, is_running, open_model, open_thread, open_source}
use Rattle.ink_base.specs.declared.event.Event.{Event}
use Rattle.ink_base.specs.declared.output.Output.{Output}
use Rattle.task_isa.specs.declared.task_end.TaskEnd.{TaskEnd}
use Rattle.prog_check.specs.Lookup.{source_thread}
use Rattle.never_cut.specs.declared.scan_model.ScanModel.{ScanModel}
use Rattle.never_cut.specs.Pending.{pending}
use Rattle.never_cut.specs.Commit.{stamped, thread_after, with_first, expired_after, consumed, ended, expired, is_expired, end_at, committed, commit}
use Rattle.never_cut.specs.Entries.{Readings, Legal, effect, pushed, released, next_event, fed_by, with_accepted, with_refused, with_skipped}
use Rattle.never_cut.specs.Journal.{after, IsLegal}
use Rattle.ink_report.specs.Conditions.{NamesPart, NamesThread, FitsProgram, IsReportable}

-- what a task puts out names its thread
stamped_known : (stamp t n : ℕ) (outs : List ℕ) → t < n → (k : ℕ) (d : Output) → k < length (stamped stamp t outs) → (slice_index_or (stamped stamp t outs) k d).thread.0 < n
stamped_known stamp t n [] known k d lt = absurd (omega arith)
stamped_known stamp t n (x ∷ outs) known zero d lt = known
stamped_known stamp t n (x ∷ outs) known (suc k) d lt = stamped_known stamp t n outs known k d (omega arith)

consumed_parts : (program : Program) (m : Model) (running : Bool) (e : Event) → FitsProgram program m → FitsProgram program (consumed running e m)
consumed_parts program m true e h = h
consumed_parts program m false e h = record { threads = h.threads; sources = h.sources; outputs = h.outputs }

ended_parts : (program : Program) (m : Model) (t : ℕ) (e : Event) (time : ℕ) (end : TaskEnd) → t < length program.threads → FitsProgram program m → FitsProgram program (ended t e time end m)
ended_parts program m t e time end known h = record {
  threads = length-set m.threads t (thread_after e end.outcome end.state (with_first time (thread_of m t))) ∙ h.threads;
  sources = h.sources;
  outputs = All-append (NamesThread program) m.outputs (stamped (m.commits + 1) t end.outs) h.outputs
      (λ k d lt. stamped_known (m.commits + 1) t (length program.threads) end.outs known k d lt);
}

expired_parts : (program : Program) (m : Model) (t : ℕ) (e : Event) → FitsProgram program m → FitsProgram program (expired t e m)
expired_parts program m t e h = record {
  threads = length-set m.threads t (expired_after e (thread_of m t)) ∙ h.threads;
  sources = h.sources;
  outputs = h.outputs;
}

-- the count of commits and the scan are no part of it
counted_parts : (program : Program) (m : Model) (commits : ℕ) → FitsProgram program m → FitsProgram program (record m { commits = commits; scan = None })
counted_parts program m commits h = record { threads = h.threads; sources = h.sources; outputs = h.outputs }

committed_parts : (program : Program) (m : Model) (t : ℕ) (e : Event) (time : ℕ) → t < length program.threads → FitsProgram program m → FitsProgram program (committed program t e time m)
committed_parts program m t e time known h = by_expiry (is_expired program m t time)
  where
    by_expiry : (b : Bool) →
        FitsProgram program (record (if b then expired t e m else ended t e time (end_at program m t e time) (consumed (is_running (thread_of m t)) e m)) { commits = m.commits + 1; scan = None })
    by_expiry true = counted_parts program (expired t e m) (m.commits + 1) (expired_parts program m t e h)
    by_expiry false =
        counted_parts program (ended t e time (end_at program m t e time) (consumed (is_running (thread_of m t)) e m)) (m.commits + 1)
        (ended_parts program (consumed (is_running (thread_of m t)) e m) t e time (end_at program m t e time) known (consumed_parts program m (is_running (thread_of m t)) e h))

commit_parts : (program : Program) (m : Model) (t : ℕ) → t < length program.threads → FitsProgram program m → FitsProgram program (commit program t m)
commit_parts program m t known h = by_scan m.scan
  where
    by_pending : (scan : ScanModel) (q : Option Event) → FitsProgram program (elim q [ None ↦ m | Some e ↦ committed program t e scan.time m ])
    by_pending scan None = h
    by_pending scan (Some e) = committed_parts program m t e scan.time known h

    by_scan : (o : Option ScanModel) →
        FitsProgram program (elim o [ None ↦ m | Some scan ↦ elim (pending program m t) [ None ↦ m | Some e ↦ committed program t e scan.time m ] ])
    by_scan None = h
    by_scan (Some scan) = by_pending scan (pending program m t)

effect_parts : (program : Program) (readings : Readings) (m : Model) (e : Entry) → Legal program readings m e → FitsProgram program m → FitsProgram program (effect program readings m e)
effect_parts program readings m (Push i) legal h = record {
  threads = length-set m.threads (source_thread program i.0) (pushed (next_event readings m i.0) (fed_by program m i.0)) ∙ h.threads;
  sources = length-set m.sources i.0 (with_accepted (source_of m i.0)) ∙ h.sources;
  outputs = h.outputs;
}
effect_parts program readings m (Refuse i) legal h = record {
  threads = h.threads;
  sources = length-set m.sources i.0 (with_refused (source_of m i.0)) ∙ h.sources;
  outputs = h.outputs;
}
effect_parts program readings m (Skip i) legal h = record {
  threads = h.threads;
  sources = length-set m.sources i.0 (with_skipped (source_of m i.0)) ∙ h.sources;
  outputs = h.outputs;
}
effect_parts program readings m (Tick by) legal h = record { threads = h.threads; sources = h.sources; outputs = h.outputs }
effect_parts program readings m Scan legal h = record { threads = h.threads; sources = h.sources; outputs = h.outputs }
effect_parts program readings m (Look t) legal h = record { threads = h.threads; sources = h.sources; outputs = h.outputs }
effect_parts program readings m (Commit t) legal h = commit_parts program m t.0 legal.0 h
effect_parts program readings m (Release t) legal h = record {
  threads = length-set m.threads t.0 (released (thread_of m t.0)) ∙ h.threads;
  sources = h.sources;
  outputs = h.outputs;
}

after_parts : (program : Program) (readings : Readings) (m : Model) (journal : List Entry) → IsLegal program readings m journal → FitsProgram program m →
    FitsProgram program (after program readings m journal)
after_parts program readings m [] legal h = h
after_parts program readings m (e ∷ journal) legal h =
    after_parts program readings (effect program readings m e) journal legal.1 (effect_parts program readings m e legal.0 h)

pub open_parts : (program : Program) → FitsProgram program (open_model program)
open_parts program = record {
  threads = length-map program.threads open_thread;
  sources = length-map program.sources open_source;
  outputs = All-nil (NamesThread program);
}

-- a legal entry names parts of the program
legal_names : (program : Program) (readings : Readings) (m : Model) (e : Entry) → Legal program readings m e → NamesPart program e
legal_names program readings m (Push i) legal = legal.0
legal_names program readings m (Refuse i) legal = legal.0
legal_names program readings m (Skip i) legal = legal.0
legal_names program readings m (Tick by) legal = tt
legal_names program readings m Scan legal = tt
legal_names program readings m (Look t) legal = legal.0
legal_names program readings m (Commit t) legal = legal.0
legal_names program readings m (Release t) legal = legal.0

journal_names : (program : Program) (readings : Readings) (m : Model) (journal : List Entry) → IsLegal program readings m journal →
    (k : ℕ) (d : Entry) → k < length journal → NamesPart program (slice_index_or journal k d)
journal_names program readings m [] legal k d lt = absurd (omega arith)
journal_names program readings m (e ∷ journal) legal zero d lt = legal_names program readings m e legal.0
journal_names program readings m (e ∷ journal) legal (suc k) d lt =
    journal_names program readings (effect program readings m e) journal legal.1 k d (omega arith)

-- so a run's text can be asked for wherever its journal is legal
pub legal_reportable : (program : Program) (readings : Readings) (first : Model) (journal : List Entry) → FitsProgram program first → IsLegal program readings first journal →
    IsReportable program (after program readings first journal) journal
legal_reportable program readings first journal start legal =
    record {
      state = after_parts program readings first journal legal start;
      entries = λ k d lt. journal_names program readings first journal legal k d lt;
    }
