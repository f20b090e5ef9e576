-- What the registers of a task tell outlasts the accesses of sources and clock.
use Rattle.task_run.proofs.Common.{◌≡◌, ℕ, ◌-◌, ◌/◌, List, length, ap, ◌∙◌, sym, inl, inr, subst, filter, ◌==◌, ◌&&◌, Some, None, bit_at, fun_ext, Output, Commit, Page, Log, Ring, Ack, Memory, place_in, working_mask, Buffer, Copying, Loading, Storing, IsCopied, Program, thread_def, task_def, first_task, Pick, Model, PipeModel, thread_of, is_running, rooms, outputs_of, is_overdue, log_of, AreLogged, SamePrivate, Follows, ThreadModel, Phase, StoreAck, StoreEmpty, Over, TaskMachine, Action, Put, Get, Make, action, Assignment, assignment, rings_of, AreSent, Told, told, Progress, IsReady, Serving, Releasing, KnowsAt, EveryTaskOutlasts}
use Rattle.never_cut.proofs.Follows.{with_parts, follow_finished, follow_released, follow_calm, follow_finishing, follow_privately}
use Rattle.never_cut.proofs.Picks.{picked_follows}
use Rattle.task_run.proofs.Accesses.{progress_frame, sent_frame}

-- a copy under way
follow_copied : (words new : Memory) (t c p : ℕ) (x : Copying) → SamePrivate words new → IsCopied words t c p x → IsCopied new t c p x
follow_copied words new t c p (Loading k) same h =
    (h.0, λ j l. same (Page t p (1 - bit_at c p) j) tt ∙ (h.1 j l ∙ sym (same (Page t p (bit_at c p) j) tt)))
follow_copied words new t c p (Storing k v) same h =
    (h.0, (λ j l. same (Page t p (1 - bit_at c p) j) tt ∙ (h.1 j l ∙ sym (same (Page t p (bit_at c p) j) tt))), h.2 ∙ sym (same (Page t p (bit_at c p) k) tt))

follow_ready : (words new : Memory) (t : ℕ) (b : Buffer) (a : Action) → SamePrivate words new → IsReady words t b a → IsReady new t b a
follow_ready words new t b (Put w v) same h = elim h [ inl e ↦ inl (e.0, follow_copied words new t b.commit (w / 8) b.copying same e.1) | inr e ↦ inr e ]
follow_ready words new t b (Get w) same h = h
follow_ready words new t b (Make x) same h = h

-- the task has the same to run
assignment-follows : (program : Program) (m next : Model) (pick : Pick) → Follows m next → assignment program next pick ≡ assignment program m pick
assignment-follows program m next pick f =
    let t : ℕ = pick.thread.0 in
    let made : ThreadModel → List ℕ → List Output → Assignment = λ x pipes outputs. record {
      task = elim x.running [ Some task ↦ task.0 | None ↦ first_task program t ];
      code = (task_def program (elim x.running [ Some task ↦ task.0 | None ↦ first_task program t ])).code;
      limit = (task_def program (elim x.running [ Some task ↦ task.0 | None ↦ first_task program t ])).limit;
      given = (assignment program m pick).given;
      room = record { pipes = pipes; log = (thread_def program t).log - length outputs };
      late = is_running x && is_overdue (thread_def program t).expires x.first pick.time;
    } in
    ap (λ (x : ThreadModel). made x (rooms program next) (outputs_of next t)) (f.threads t)
    ∙ (ap (λ (p : List PipeModel). made (thread_of m t) (rooms program (with_parts m p m.timers m.outputs)) (outputs_of next t)) f.pipes
    ∙ ap (λ (l : List Output). made (thread_of m t) (rooms program m) (filter (λ (o : Output). o.thread.0 == t) l)) f.outputs)

follow_serving : (program : Program) (words new : Memory) (m next : Model) (r : TaskMachine) → SamePrivate words new → Follows m next → Serving program words m r → Serving program new next r
follow_serving program words new m next r same f h =
    let t : ℕ = r.pick.thread.0 in
    let log : log_of words t ≡ log_of new t = fun_ext (λ k. sym (same (Log t k) tt)) in
    let old : Told = told program m r h.y h.sends h.s h.o h.v in
    let ring : (q n : ℕ) → new (Ring q n) ≡ words (Ring q n) = λ q n. same (Ring q n) tt in
    record {
      y = h.y;
      sends = h.sends;
      s = h.s;
      o = h.o;
      v = h.v;
      picked = picked_follows program words new m next r.pick same f h.picked;
      stamp = h.stamp ∙ sym f.commits;
      buffered = record {
        commit = h.buffered.commit ∙ sym (same (Commit t) tt);
        words = λ k. same (place_in t (working_mask r.buffer) k) tt ∙ h.buffered.words k;
      };
      ready = follow_ready words new t r.buffer (action program r r.phase) same h.ready;
      logged = subst (λ l. AreLogged l h.y.outputs) log h.logged;
      sent = subst (λ p. AreSent (rings_of new) program p h.sends) (sym f.pipes) (sent_frame words new program m h.sends ring h.sent);
      size = h.size;
      pages = h.pages;
      progress =
          subst (λ x. Progress new (record old { x = x; a = assignment program next r.pick; pipes = next.pipes }) r.phase) (sym ((follow_privately program m next f).saves t))
          (subst (λ a. Progress new (record old { a = a; pipes = next.pipes }) r.phase) (sym (assignment-follows program m next r.pick f))
          (subst (λ p. Progress new (record old { pipes = p }) r.phase) (sym f.pipes)
          (progress_frame words new old r.phase (λ u. same (Commit u) tt) ring (λ n. same (Log t n) tt) h.progress)));
    }

follow_releasing : (program : Program) (m next : Model) (pick : Pick) (stamp i count : ℕ) → Follows m next → Releasing program m pick stamp i count → Releasing program next pick stamp i count
follow_releasing program m next pick stamp i count f h = record {
  known = h.known;
  commits = h.commits ∙ sym f.commits;
  time = h.time;
  position = h.position ∙ sym (follow_released m next pick.thread.0 f);
  finishing = follow_finishing m next pick.thread.0 i count f h.finishing;
  others = λ u known ne. follow_finished m next u f ∙ h.others u known ne;
}

outlasts : (program : Program) (words new : Memory) (m next : Model) (r : TaskMachine) (phase : Phase) → SamePrivate words new → Follows m next →
    KnowsAt program words m r phase → KnowsAt program new next r phase
outlasts program words new m next r (StoreAck source count) same f h = follow_releasing program m next r.pick r.stamp source.0 count f h
outlasts program words new m next r StoreEmpty same f h = (h.0, h.1, follow_releasing program m next r.pick r.stamp h.0 h.1 f h.2, same (Ack h.0) tt ∙ h.3)
outlasts program words new m next r Over same f h = (h.0 ∙ sym f.commits, follow_calm program m next f h.1)
outlasts program words new m next r _ same f h = follow_serving program words new m next r same f h

pub every_task_outlasts : EveryTaskOutlasts
every_task_outlasts program words new m next r same f h = outlasts program words new m next r r.phase same f h
