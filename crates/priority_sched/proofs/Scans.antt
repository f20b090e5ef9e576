-- The accesses of a scan.
use Rattle.priority_sched.proofs.Common.{◌≡◌, ℕ, ◌+◌, ◌*◌, ◌<◌, ◌≤◌, [], length, Option, Some, None, arith, refl, ap, ◌∙◌, sym, ThreadId, TaskId, Program, Memory, Load, ring_index, place_in, pipe_def, Model, ScanModel, thread_of, Readings, IsCalm, flag, Background, IsKept, Lasts, with_scan, scan_private, scan_queues, running_word, finished_word, ScanAt, Clock, Commit, Running, Finished, Origin, Value, First, Slot, Taken, Writer, Written, Item, Timer, Picked, Quiet, ScanMachine, priority_of, scan_at, scan_begun, after_finished, writer_of, ScanHolds, ScanStep, running_of-next_word, running_of}
use Rattle.ink_base.specs.declared.limits.TheConstants as limits
use Rattle.fram_words.specs.Places as places
use Rattle.fram_words.specs.Header as header
use Rattle.priority_sched.proofs.Nexts.{goes_on}
use Rattle.priority_sched.proofs.Looks.{slot_step}
use Rattle.never_cut.proofs.Loads.{load_kept}
use Rattle.priority_sched.proofs.Chains.{origin_holds, value_holds, first_holds}
use Rattle.priority_sched.proofs.Items.{taken_holds, writer_holds, written_holds, item_holds}
use Rattle.priority_sched.proofs.Timers.{timer_holds}

pub scan_begins : (program : Program) (readings : Readings) (words : Memory) (m : Model) → Background program readings words m → IsCalm program m →
    ScanHolds program words m scan_begun
scan_begins program readings words m b calm = record {
  known = let counts = b.accepted.counts in omega (arith, counts.threads_least);
  calm = calm;
  knows = tt;
}

-- the load of the clock
clock_step : (program : Program) (readings : Readings) (words : Memory) (m : Model) (thread : ThreadId) (time : ℕ) → Background program readings words m →
    ScanHolds program words m (scan_at thread time Clock) → ScanStep program readings words m (scan_at thread time Clock)
clock_step program readings words m thread time b h =
    let begun : Option ScanModel = Some (record { time = m.clock; looked = [] }) in
    record {
      kept = record {
        legal = h.calm;
        allowed = tt;
        private = scan_private words program m begun b.private;
        shared = scan_queues words program m begun b.shared;
      };
      holds = goes_on program words (with_scan m begun) thread (words places.Clock) (limits.PRIORITY + 1) h.known h.calm (record {
        scan = record { time = m.clock; looked = [] };
        scanned = refl;
        time_is = b.shared.clock;
        passed = λ u within out. let def = b.accepted.threads u within in let small : priority_of program u ≤ limits.PRIORITY = def.priority in absurd (omega arith);
        rest = λ u within low. refl;
      });
    }

-- the word that tells the next task
pub running_is : (program : Program) (readings : Readings) (words : Memory) (m : Model) (t c : ℕ) → Background program readings words m → t < length program.threads →
    c ≡ words (places.Commit t) → running_of (words (place_in t c header.next)) ≡ (thread_of m t).running
running_is program readings words m t c b known is =
    ap (λ k. running_of (words (place_in t k header.next))) is
    ∙ (ap running_of (running_word program words m t known b.private) ∙ running_of-next_word (thread_of m t).running)

-- in a calm state all finished events are released
pub calm_word : (program : Program) (readings : Readings) (words : Memory) (m : Model) (t c : ℕ) → Background program readings words m → t < length program.threads →
    IsCalm program m → c ≡ words (places.Commit t) → words (place_in t c header.finished) ≡ (thread_of m t).released
calm_word program readings words m t c b known calm is =
    ap (λ k. words (place_in t k header.finished)) is
    ∙ (finished_word program words m t known b.private
    ∙ (ap (λ z. (thread_of m t).released + flag z) (calm t known) ∙ (let e : (thread_of m t).released + 0 ≡ (thread_of m t).released = omega arith in e)))

-- the number of finished events
finished_holds : (program : Program) (readings : Readings) (words : Memory) (m : Model) (thread : ThreadId) (time c : ℕ) (running : Option TaskId) → Background program readings words m →
    ScanHolds program words m (scan_at thread time (Finished c running)) → ScanHolds program words m (after_finished thread time c (words (place_in thread.0 c header.finished)) running)
finished_holds program readings words m thread time c (Some task) b h = record {
  known = h.known;
  calm = h.calm;
  knows = record {
    before = h.knows.0;
    commit_word = h.knows.1;
    running = sym h.knows.2;
    position = calm_word program readings words m thread.0 c b h.known h.calm h.knows.1;
  };
}
finished_holds program readings words m thread time c None b h = record {
  known = h.known;
  calm = h.calm;
  knows = (h.knows.0, h.knows.1, calm_word program readings words m thread.0 c b h.known h.calm h.knows.1, sym h.knows.2);
}

-- each access of a scan is kept
pub scan_keeps : (program : Program) (readings : Readings) (words : Memory) (m : Model) (scan : ScanMachine) → Background program readings words m →
    Lasts 0 m → ScanHolds program words m scan → ScanStep program readings words m scan
scan_keeps program readings words m scan b few h = by_row scan.at h
  where
    kept : (p : places.Place) → IsKept program readings words m (Load p) None
    kept p = load_kept program readings words m p b

    by_row : (at : ScanAt) → ScanHolds program words m (scan_at scan.thread scan.time at) → ScanStep program readings words m (scan_at scan.thread scan.time at)
    by_row Clock h = clock_step program readings words m scan.thread scan.time b h
    by_row Commit h = record { kept = kept (places.Commit scan.thread.0); holds = record { known = h.known; calm = h.calm; knows = (h.knows, refl) } }
    by_row (Running c) h = record {
      kept = kept (place_in scan.thread.0 c header.next);
      holds = record { known = h.known; calm = h.calm; knows = (h.knows.0, h.knows.1, running_is program readings words m scan.thread.0 c b h.known h.knows.1) };
    }
    by_row (Finished c running) h = record {
      kept = kept (place_in scan.thread.0 c header.finished);
      holds = finished_holds program readings words m scan.thread scan.time c running b h;
    }
    by_row (Origin chain) h = record {
      kept = kept (place_in scan.thread.0 chain.commit_word header.origin);
      holds = origin_holds program readings words m scan.thread scan.time chain b few h;
    }
    by_row (Value chain o) h = record {
      kept = kept (place_in scan.thread.0 chain.commit_word header.value);
      holds = value_holds program readings words m scan.thread scan.time chain o b h;
    }
    by_row (First chain e) h = record {
      kept = kept (place_in scan.thread.0 chain.commit_word header.first);
      holds = first_holds program readings words m scan.thread scan.time chain e b h;
    }
    by_row (Slot c p) h = slot_step program readings words m scan.thread scan.time c p b h
    by_row (Taken idle pipe) h = record {
      kept = kept (place_in scan.thread.0 idle.commit_word (header.taken pipe.0));
      holds = taken_holds program readings words m scan.thread scan.time idle pipe b h;
    }
    by_row (Writer w) h = record {
      kept = kept (places.Commit (writer_of program w.pipe.0));
      holds = writer_holds program words m scan.thread scan.time w h;
    }
    by_row (Written w c) h = record {
      kept = kept (place_in (writer_of program w.pipe.0) c (header.written w.pipe.0));
      holds = written_holds program readings words m scan.thread scan.time w c b h;
    }
    by_row (Item w) h = record {
      kept = kept (places.Ring w.pipe.0 (ring_index (pipe_def program w.pipe.0).places w.taken));
      holds = item_holds program readings words m scan.thread scan.time w b h;
    }
    by_row (Timer idle timer) h = record {
      kept = kept (place_in scan.thread.0 idle.commit_word (header.due timer.0));
      holds = timer_holds program readings words m scan.thread scan.time idle timer b h;
    }
    by_row (Picked pick) h = record { kept = kept places.Clock; holds = h }
    by_row Quiet h = record { kept = kept places.Clock; holds = h }
