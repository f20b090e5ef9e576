-- What a scan knows outlasts the accesses of the other actors.
use Rattle.priority_sched.proofs.Common.{◌≡◌, ℕ, ◌<◌, false, List, length, sym, ap, ◌∙◌, subst, slice_index_or, Program, Memory, Model, thread_of, pipe_of, no_pipe, has_item, has_due, SamePrivate, Follows, passed_follows, picked_follows, Chain, Idle, Waiting, ScanAt, Clock, Commit, Running, Finished, Origin, Value, First, Slot, Taken, Writer, Written, Item, Timer, Picked, Quiet, ScanMachine, writer_of, IsReached, KnowsChain, KnowsIdle, KnowsPipe, KnowsWaiting, KnowsTimer, AreEmptyBelow, AreOffBelow, ScanKnows, ScanHolds}
use Rattle.fram_words.specs.Places as places
use Rattle.never_cut.specs.declared.thread_model.ThreadModel.{ThreadModel}
use Rattle.never_cut.specs.declared.pipe_model.PipeModel.{PipeModel}
use Rattle.never_cut.specs.declared.timer_model.TimerModel.{TimerModel}
use Rattle.never_cut.proofs.Follows.{follow_released, follow_running, follow_calm}

module _ (program : Program) (words new : Memory) (m next : Model) (same : SamePrivate words new) (f : Follows m next) where
  -- commit words, and the parts of a state that other actors leave
  commit_same : (t c : ℕ) → c ≡ words (places.Commit t) → c ≡ new (places.Commit t)
  commit_same t c is = is ∙ sym (same (places.Commit t) tt)

  event_same : (t : ℕ) → (thread_of next t).event ≡ (thread_of m t).event
  event_same t = ap (λ (x : ThreadModel). x.event) (f.threads t)

  pipe_same : (q : ℕ) → pipe_of next q ≡ pipe_of m q
  pipe_same q = ap (λ (l : List PipeModel). slice_index_or l q no_pipe) f.pipes

  empty_same : (t q : ℕ) → AreEmptyBelow program m t q → AreEmptyBelow program next t q
  empty_same t q h = λ k lt. subst (λ (l : List PipeModel). has_item program (record m { pipes = l }) t k ≡ false) (sym f.pipes) (h k lt)

  off_same : (t time j : ℕ) → AreOffBelow program m t time j → AreOffBelow program next t time j
  off_same t time j h = λ k lt. subst (λ (l : List TimerModel). has_due program (record m { timers = l }) t time k ≡ false) (sym f.timers) (h k lt)

  reached_drifts : (priority time : ℕ) → IsReached program m priority time → IsReached program next priority time
  reached_drifts priority time r = record {
    scan = r.scan;
    scanned = f.scan ∙ r.scanned;
    time_is = r.time_is;
    passed = λ u within above. passed_follows program m next r.scan u f (r.passed u within above);
    rest = r.rest;
  }

  chain_drifts : (t time : ℕ) (chain : Chain) → KnowsChain program words m t time chain → KnowsChain program new next t time chain
  chain_drifts t time chain k = record {
    before = reached_drifts _ time k.before;
    commit_word = commit_same t chain.commit_word k.commit_word;
    running = follow_running m next t f ∙ k.running;
    position = k.position ∙ sym (follow_released m next t f);
  }

  idle_drifts : (t time : ℕ) (idle : Idle) → KnowsIdle program words m t time idle → KnowsIdle program new next t time idle
  idle_drifts t time idle k = record {
    scan = k.scan;
    scanned = f.scan ∙ k.scanned;
    time_is = k.time_is;
    passed = λ u within above. passed_follows program m next k.scan u f (k.passed u within above);
    rest = k.rest;
    looked = k.looked;
    running = follow_running m next t f ∙ k.running;
    commit_word = commit_same t idle.commit_word k.commit_word;
    position = k.position ∙ sym (follow_released m next t f);
  }

  pipe_drifts : (t time : ℕ) (idle : Idle) (q : ℕ) → KnowsPipe program words m t time idle q → KnowsPipe program new next t time idle q
  pipe_drifts t time idle q k = record { idle_is = idle_drifts t time idle k.idle_is; known = k.known; reads = k.reads; empty = empty_same t q k.empty }

  waiting_drifts : (t time : ℕ) (w : Waiting) → KnowsWaiting program words m t time w → KnowsWaiting program new next t time w
  waiting_drifts t time w k = record {
    pipe = pipe_drifts t time w.idle w.pipe.0 k.pipe;
    taken = k.taken ∙ sym (ap (λ (p : PipeModel). p.taken) (pipe_same w.pipe.0));
  }

  timer_drifts : (t time : ℕ) (idle : Idle) (j : ℕ) → KnowsTimer program words m t time idle j → KnowsTimer program new next t time idle j
  timer_drifts t time idle j k = record {
    idle_is = idle_drifts t time idle k.idle_is;
    known = k.known;
    own = k.own;
    empty = empty_same t (length program.pipes) k.empty;
    off = off_same t time j k.off;
  }

  row_drifts : (t time : ℕ) (at : ScanAt) → ScanKnows program words m t time at → ScanKnows program new next t time at
  row_drifts t time Clock h = tt
  row_drifts t time Commit h = reached_drifts _ time h
  row_drifts t time (Running c) h = (reached_drifts _ time h.0, commit_same t c h.1)
  row_drifts t time (Finished c running) h = (reached_drifts _ time h.0, commit_same t c h.1, h.2 ∙ sym (follow_running m next t f))
  row_drifts t time (Origin chain) h = chain_drifts t time chain h
  row_drifts t time (Value chain o) h = (chain_drifts t time chain h.0, (h.1.0, event_same t ∙ h.1.1, h.1.2))
  row_drifts t time (First chain e) h = (chain_drifts t time chain h.0, event_same t ∙ h.1)
  row_drifts t time (Slot c p) h =
      (reached_drifts _ time h.0, commit_same t c h.1, h.2 ∙ sym (follow_released m next t f), follow_running m next t f ∙ h.3)
  row_drifts t time (Taken idle pipe) h = pipe_drifts t time idle pipe.0 h
  row_drifts t time (Writer w) h = waiting_drifts t time w h
  row_drifts t time (Written w c) h = (waiting_drifts t time w h.0, commit_same (writer_of program w.pipe.0) c h.1)
  row_drifts t time (Item w) h =
      (waiting_drifts t time w h.0, subst (λ (p : PipeModel). 0 < length p.items) (sym (pipe_same w.pipe.0)) h.1)
  row_drifts t time (Timer idle timer) h = timer_drifts t time idle timer.0 h
  row_drifts t time (Picked pick) h = picked_follows program words new m next pick same f h
  row_drifts t time Quiet h = reached_drifts _ time h

pub scan_drifts : (program : Program) (words new : Memory) (m next : Model) (scan : ScanMachine) → SamePrivate words new → Follows m next →
    ScanHolds program words m scan → ScanHolds program new next scan
scan_drifts program words new m next scan same f h = record {
  known = h.known;
  calm = follow_calm program m next f h.calm;
  knows = row_drifts program words new m next same f scan.thread.0 scan.time scan.at h.knows;
}
