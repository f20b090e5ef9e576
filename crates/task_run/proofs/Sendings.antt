-- The accesses that send an item.
use Rattle.task_run.proofs.Common.{◌≡◌, ℕ, ◌+◌, ◌-◌, ◌/◌, ◌<◌, ◌≤◌, true, [], ◌∷◌, ◌++◌, length, arith, refl, ap, ◌∙◌, sym, inl, inr, subst, ltb-true, cases_Bool, Commit, Ring, Memory, store, perform, store-same, store-other, ring_index, place_in, working, working_mask, Buffer, is_dirty-true, Sends, Program, Sent, Cpu, Effects, advance_with, sent_to, has_room, pipe_def, IsAccepted, Pick, Model, PipeModel, pipe_of, with_sends, HasShape, Saved, saved, StandsPrivate, Ending, Execution, Sending, LoadReader, LoadTaken, ReadWritten, StoreItem, WriteWritten, TaskMachine, want, after_written, proceed, cpu_of, assignment, begun, with_effects, changed, rings_of, Told, told, Serving}
use Rattle.ink_base.specs.declared.limits.TheConstants as limits
use Rattle.fram_words.specs.Header as header
use Rattle.event_pipe.specs.Ring as by_counts
use Rattle.task_run.proofs.Accesses.{machine_at, Steps, picked_at, put_step, holding_load, holding_put, serving_at}
use Rattle.task_run.proofs.Traps.{proceed_serving}
use Rattle.task_run.proofs.Words.{words-written, words-of_written, words-of_taken}
use Rattle.task_run.proofs.Runs.{going_from, going_same}
use Rattle.task_run.proofs.SentItems.{pipe_in, written_append, sent_append}
use Rattle.task_run.proofs.Rooms.{taken_of, has_sent, room_is, sent_count, room_left, room_more, free_word}

-- the count of taken items in the committed copy of the reader
pub taken_found : (program : Program) (m : Model) (words : Memory) (q commit : ℕ) → IsAccepted program → StandsPrivate words program m → q < length program.pipes →
    (let reader = (pipe_def program q).reader.0 in commit ≡ words (Commit reader) → words (place_in reader commit (header.taken q)) ≡ (pipe_of m q).taken)
taken_found program m words q commit accepted stands known is =
    let few : length program.pipes ≤ limits.PIPES = accepted.counts.pipes in
    let reader : ℕ = (pipe_def program q).reader.0 in
    let x = stands.threads reader (accepted.pipes q known).reader in
    ap (λ c. words (place_in reader c (header.taken q))) is
    ∙ (x.block (header.taken q)
    ∙ (words-of_taken (saved program m reader) x.stamp x.origin x.value q (omega arith) ∙ taken_of program m reader q known refl))

module _ (program : Program) (m : Model) (words : Memory) (pick : Pick) (stamp : ℕ) (b : Buffer) (ending : Ending) (e : Execution) where
  pub step-load_reader : (s : Sending) → Serving program words m (machine_at pick stamp b ending e (LoadReader s)) → Steps program m words (machine_at pick stamp b ending e (LoadReader s))
  step-load_reader s h =
      let r : TaskMachine = machine_at pick stamp b ending e (LoadReader s) in
      serving_at program m words r e (LoadTaken s (words (Commit (pipe_def program s.pipe).reader.0))) h.y h.sends h.s h.o h.v (holding_load program m words r h h.ready) (h.progress, refl)

  pub step-load_taken : (s : Sending) (commit : ℕ) → IsAccepted program → StandsPrivate words program m →
      Serving program words m (machine_at pick stamp b ending e (LoadTaken s commit)) → Steps program m words (machine_at pick stamp b ending e (LoadTaken s commit))
  step-load_taken s commit accepted stands h =
      let r : TaskMachine = machine_at pick stamp b ending e (LoadTaken s commit) in
      let q : ℕ = s.pipe in
      let reader : ℕ = (pipe_def program q).reader.0 in
      serving_at program m words r e (ReadWritten s (words (place_in reader commit (header.taken q)))) h.y h.sends h.s h.o h.v (holding_load program m words r h h.ready)
      (h.progress.0, taken_found program m words q commit accepted stands h.progress.0.pipe h.progress.1)

  -- so many items were written: the item is stored, or the register says that there is no room
  written_serving : (s : Sending) (taken : ℕ) → StandsPrivate words program m → HasShape program m →
      (h : Serving program words m (machine_at pick stamp b ending e (ReadWritten s taken))) →
      Serving program words m (after_written program (machine_at pick stamp b ending e (ReadWritten s taken)) s taken (h.y.written s.pipe))
  written_serving s taken stands shape h =
      let r : TaskMachine = machine_at pick stamp b ending e (ReadWritten s taken) in
      let p : Told = told program m r h.y h.sends h.s h.o h.v in
      let q : ℕ = s.pipe in
      let to = h.progress.0 in
      let g = to.executing.running in
      let sent = has_sent program m r h.y h.sends h.s h.o h.v q shape g to.pipe to.writer in
      let places : ℕ = (pipe_def program q).places in
      let written : ℕ = h.y.written q in
      let taken_is : taken ≡ (pipe_of m q).taken = h.progress.1 in
      let written_is : written ≡ (pipe_of m q).taken + length (pipe_of m q).items + sent_to q g.effects.sends = sent.written in
      let same : has_room (assignment program m pick).room q g.effects.sends ≡ by_counts.has_room places written taken =
      room_is program m q written taken (sent_to q g.effects.sends) to.pipe taken_is written_is
      in
      elim (cases_Bool (by_counts.has_room places written taken)) [
        | inl t ↦
            let below : written - taken < places = ltb-true (written - taken) places t in
            rw t (serving_at program m words r e (StoreItem s written) h.y h.sends h.s h.o h.v (holding_load program m words r h h.ready)
            (record { sending = to; count = refl; room = let lt : written < (pipe_of m q).taken + places = omega arith in lt }))
        | inr f ↦
            rw f (proceed_serving program m words r (advance_with (cpu_of e) s.register 0) h.y h.sends h.s h.o h.v stands shape (holding_load program m words r h h.ready)
            (going_same p g (Sends q s.register s.value) to.executing.is_act (advance_with (cpu_of e) s.register 0) (rw (same, f) refl) to.executing.goes_on))
      ]

  pub step-read_written : (s : Sending) (taken : ℕ) → IsAccepted program → StandsPrivate words program m → HasShape program m →
      Serving program words m (machine_at pick stamp b ending e (ReadWritten s taken)) → Steps program m words (machine_at pick stamp b ending e (ReadWritten s taken))
  step-read_written s taken accepted stands shape h =
      let known : s.pipe < length program.pipes = h.progress.0.pipe in
      let few : length program.pipes ≤ limits.PIPES = accepted.counts.pipes in
      let found : working words pick.thread.0 b (header.written s.pipe) ≡ h.y.written s.pipe =
      h.buffered.words (header.written s.pipe) ∙ words-of_written h.y h.s h.o h.v s.pipe (omega arith)
      in
      subst (λ n. Serving program words m (after_written program (machine_at pick stamp b ending e (ReadWritten s taken)) s taken n)) (sym found)
      (written_serving s taken stands shape h)

  pub step-store_item : (s : Sending) (written : ℕ) → HasShape program m → Serving program words m (machine_at pick stamp b ending e (StoreItem s written)) →
      Steps program m words (machine_at pick stamp b ending e (StoreItem s written))
  step-store_item s written shape h =
      let r : TaskMachine = machine_at pick stamp b ending e (StoreItem s written) in
      let q : ℕ = s.pipe in
      let to = h.progress.sending in
      let g = to.executing.running in
      let sent = has_sent program m r h.y h.sends h.s h.o h.v q shape g to.pipe to.writer in
      let places : ℕ = (pipe_def program q).places in
      let n : Memory = store words (Ring q (ring_index places written)) s.value in
      serving_at program m n r e (WriteWritten s written) h.y h.sends h.s h.o h.v
      (record {
        picked = picked_at program words n m pick refl h.picked;
        stamp = h.stamp;
        buffered = record { commit = h.buffered.commit; words = h.buffered.words };
        fresh = h.ready;
        logged = h.logged;
        sent = λ u k known within.
            let p : PipeModel = pipe_in (with_sends h.sends m.pipes) u in
            store-other words (Ring q (ring_index places written)) (Ring u (ring_index (pipe_def program u).places (p.taken + k))) s.value
            (λ path.
            let same : q ≡ u = cc in
            let index : ring_index places written ≡ ring_index (pipe_def program u).places (p.taken + k) = cc in
            free_word program m h.y h.sends q u k written (sent_to q g.effects.sends) sent h.progress.count h.progress.room within same index)
            ∙ h.sent u k known within;
        size = h.size;
        pages = h.pages;
      })
      (h.progress, store-same words (Ring q (ring_index places written)) s.value)

  pub step-write_written : (s : Sending) (written : ℕ) → IsAccepted program → StandsPrivate (perform words (want program (machine_at pick stamp b ending e (WriteWritten s written)))) program m →
      HasShape program m → Serving program words m (machine_at pick stamp b ending e (WriteWritten s written)) → Steps program m words (machine_at pick stamp b ending e (WriteWritten s written))
  step-write_written s written accepted stands shape h =
      let r : TaskMachine = machine_at pick stamp b ending e (WriteWritten s written) in
      let p : Told = told program m r h.y h.sends h.s h.o h.v in
      let q : ℕ = s.pipe in
      let to = h.progress.0.sending in
      let g = to.executing.running in
      let sent = has_sent program m r h.y h.sends h.s h.o h.v q shape g to.pipe to.writer in
      let few : length program.pipes ≤ limits.PIPES = accepted.counts.pipes in
      let known : q < length program.pipes = to.pipe in
      let item : Sent = record { pipe = record { 0 = q }; value = s.value } in
      let y : Saved = record (h.y) { written = changed h.y.written q (written + 1) } in
      let effects : Effects = record (g.effects) { sends = g.effects.sends ++ item ∷ [] } in
      let z : Saved = with_effects (stamp + 1) pick.thread.0 g.effects (begun pick p.x) in
      let next : Cpu = advance_with (cpu_of e) s.register 1 in
      let room : has_room (assignment program m pick).room q g.effects.sends ≡ true =
      room_left program m q written (sent_to q g.effects.sends) known h.progress.0.room (h.progress.0.count ∙ sent.written)
      in
      put_step program m words r (header.written q) (written + 1) (proceed program r next) h (omega arith) (λ c. refl) λ dirty fresh.
      let n : Memory = store words (place_in pick.thread.0 (working_mask b) (header.written q)) (written + 1) in
      let stands' : StandsPrivate n program m = rw (is_dirty-true b (header.written q / 8) dirty) at stands in
      proceed_serving program m n r next y (h.sends ++ item ∷ []) h.s h.o h.v stands' shape
      (holding_put program m words r (header.written q) (written + 1) y (h.sends ++ item ∷ []) h.s h.o h.v h dirty fresh
      (λ k. words-written h.y h.s h.o h.v q (written + 1) k (omega arith)) h.logged
      (sent_append (rings_of words) program m.pipes h.sends item shape.pipes h.sent
      (ap (λ k. words (Ring q (ring_index (pipe_def program q).places k))) (sent_count program m h.y h.sends q (sent_to q g.effects.sends) sent ∙ sym h.progress.0.count) ∙ h.progress.1))
      h.size)
      (going_from p g (Sends q s.register s.value) to.executing.is_act next y (h.sends ++ item ∷ []) effects (rw room refl) to.executing.goes_on
      (ap (λ k. record (h.y) { written = changed h.y.written q (k + 1) }) h.progress.0.count
      ∙ (ap (λ (c : Saved). record c { written = changed c.written q (c.written q + 1) }) g.made
      ∙ ap (λ f. record z { written = f }) (sym (written_append g.effects.sends item (begun pick p.x).written))))
      (ap (λ l. l ++ item ∷ []) g.sent) (room_more g.effects.sends item (assignment program m pick).room room g.few))
