-- The accesses of state numbers and of outputs.
use Rattle.task_run.proofs.Common.{◌≡◌, ℕ, ◌+◌, ◌-◌, ◌*◌, ◌/◌, ◌%◌, ◌^◌, ◌<◌, ◌≤◌, false, List, [], ◌∷◌, ◌++◌, length, map, get_or, set, arith, refl, ap, ◌∙◌, sym, inl, inr, subst, nat_lt, ltb-true, ltb-false, le-ltb, lt-ltb, length-append, length-set, append_assoc, cases_Bool, cases_eq, length-map, map-append, get_or_append_left, get_or_at, Output, Log, Memory, store, perform, store-same, store-other, output_word, place_in, working, working_mask, Buffer, put, is_dirty-true, Loads, Saves, Puts, LogFull, Program, Cpu, Effects, advance, advance_with, thread_def, Pick, Model, stamped, HasShape, Saved, saved, thread_words, log_of, AreLogged, StandsPrivate, Ending, Execution, ReadState, WriteState, ReadCount, StoreLog, WriteCount, TaskMachine, want, after, proceed, cpu_of, Assignment, assignment, begun, with_effects, Told, told, RunningIn, Serving}
use Rattle.fram_words.specs.Header as header
use Rattle.task_run.proofs.Accesses.{machine_at, Steps, picked_at, put_step, holding_load, holding_put, serving_at}
use Rattle.task_run.proofs.Traps.{begun-keeps, proceed_serving}
use Rattle.task_run.proofs.Words.{words-outputs, words-state, words-of_outputs, words-of_state}
use Rattle.task_run.proofs.Runs.{going_from, going_same}
use Rattle.task_run.proofs.Instrs.{state_is, traps_serving}

-- how many outputs there are within a run
pub outputs_length : (p : Told) (g : RunningIn p) → length p.y.outputs ≡ length p.x.outputs + length g.effects.outs
outputs_length p g =
    let z : Saved = begun p.pick p.x in
    ap (λ (y : Saved). length y.outputs) g.made
    ∙ (length-append z.outputs (stamped (p.stamp + 1) p.pick.thread.0 g.effects.outs)
    ∙ (ap (λ n. length z.outputs + n) (length-map g.effects.outs (λ v. record { stamp = p.stamp + 1; thread = record { 0 = p.pick.thread.0 }; value = v }))
    ∙ ap (λ (l : List Output). length l + length g.effects.outs) (begun-keeps p.pick p.x).outputs))

-- one more output in the log
logged_more : (log : ℕ → ℕ) (outputs : List Output) (o : Output) → AreLogged log outputs → log (length outputs) ≡ output_word o → AreLogged log (outputs ++ o ∷ [])
logged_more log outputs o logged last n lt =
    let more : length (outputs ++ o ∷ []) ≡ length outputs + 1 = length-append outputs (o ∷ []) in
    rw (map-append output_word outputs (o ∷ []))
    elim (cases_eq n (length outputs)) [
      | inl e ↦ ap log e ∙ (last ∙ sym (get_or_at (map output_word outputs) (output_word o) [] 0 n (length-map outputs output_word ∙ sym e)))
      | inr ne ↦
          let below : n < length outputs = omega arith in
          logged n below ∙ sym (get_or_append_left (map output_word outputs) (output_word o ∷ []) 0 n (rw (length-map outputs output_word) below))
    ]

module _ (program : Program) (m : Model) (words : Memory) (pick : Pick) (stamp : ℕ) (b : Buffer) (ending : Ending) (e : Execution) where
  pub step-read_state : (c n : ℕ) → StandsPrivate words program m → HasShape program m →
      Serving program words m (machine_at pick stamp b ending e (ReadState c n)) → Steps program m words (machine_at pick stamp b ending e (ReadState c n))
  step-read_state c n stands shape h =
      let r : TaskMachine = machine_at pick stamp b ending e (ReadState c n) in
      let p : Told = told program m r h.y h.sends h.s h.o h.v in
      let g = h.progress.0.running in
      let state : h.y.state ≡ g.effects.state = state_is p g in
      let within : n < length g.effects.state = subst (λ (l : List ℕ). n < length l) state h.progress.1 in
      let word : working words pick.thread.0 b (header.state n) ≡ get_or g.effects.state n 0 =
      h.buffered.words (header.state n) ∙ (words-of_state h.y h.s h.o h.v n ∙ ap (λ (l : List ℕ). get_or l n 0) state)
      in
      let next : Cpu = advance_with (cpu_of e) c (get_or g.effects.state n 0 % 2 ^ 32) in
      subst (λ w. Serving program words m (proceed program r (advance_with (cpu_of e) c (w % 2 ^ 32)))) (sym word)
      (proceed_serving program m words r next h.y h.sends h.s h.o h.v stands shape (holding_load program m words r h h.ready)
      (going_same p g (Loads c n) h.progress.0.is_act next (rw (lt-ltb n (length g.effects.state) within) refl) h.progress.0.goes_on))

  pub step-write_state : (n v : ℕ) → StandsPrivate (perform words (want program (machine_at pick stamp b ending e (WriteState n v)))) program m → HasShape program m →
      Serving program words m (machine_at pick stamp b ending e (WriteState n v)) → Steps program m words (machine_at pick stamp b ending e (WriteState n v))
  step-write_state n v stands shape h =
      let r : TaskMachine = machine_at pick stamp b ending e (WriteState n v) in
      let p : Told = told program m r h.y h.sends h.s h.o h.v in
      let g = h.progress.0.running in
      let state : h.y.state ≡ g.effects.state = state_is p g in
      let within : n < length g.effects.state = subst (λ (l : List ℕ). n < length l) state h.progress.1 in
      let next : Cpu = advance (cpu_of e) in
      let y : Saved = record (h.y) { state = set h.y.state n v } in
      let effects : Effects = record (g.effects) { state = set g.effects.state n v } in
      put_step program m words r (header.state n) v (proceed program r next) h (let lt = h.progress.1 in let size = h.size in omega arith) (λ k. refl) λ dirty fresh.
      let n' : Memory = store words (place_in pick.thread.0 (working_mask b) (header.state n)) v in
      let stands' : StandsPrivate n' program m = rw (is_dirty-true b (header.state n / 8) dirty) at stands in
      proceed_serving program m n' r next y h.sends h.s h.o h.v stands' shape
      (holding_put program m words r (header.state n) v y h.sends h.s h.o h.v h dirty fresh (λ k. words-state h.y h.s h.o h.v n v k h.progress.1) h.logged h.sent
      (length-set h.y.state n v ∙ h.size))
      (going_from p g (Saves n v) h.progress.0.is_act next y h.sends effects (rw (lt-ltb n (length g.effects.state) within) refl) h.progress.0.goes_on
      (ap (λ (z : Saved). record z { state = set z.state n v }) g.made) g.sent g.few)

  -- an output, or a full log
  count_serving : (w : ℕ) → StandsPrivate words program m → HasShape program m → (h : Serving program words m (machine_at pick stamp b ending e (ReadCount w))) →
      Serving program words m (after program (machine_at pick stamp b ending e (ReadCount w)) (ReadCount w) (length h.y.outputs))
  count_serving w stands shape h =
      let r : TaskMachine = machine_at pick stamp b ending e (ReadCount w) in
      let p : Told = told program m r h.y h.sends h.s h.o h.v in
      let a : Assignment = assignment program m pick in
      let x : Saved = saved program m pick.thread.0 in
      let g = h.progress.running in
      let log : ℕ = (thread_def program pick.thread.0).log in
      let room : a.room.log ≡ log - length x.outputs = refl in
      let count : length h.y.outputs ≡ length x.outputs + length g.effects.outs = outputs_length p g in
      elim (cases_Bool (nat_lt (length h.y.outputs) log)) [
        | inl t ↦
            let below : length h.y.outputs < log = ltb-true (length h.y.outputs) log t in
            rw t (serving_at program m words r e (StoreLog (length h.y.outputs) w) h.y h.sends h.s h.o h.v (holding_load program m words r h h.ready)
            (h.progress, refl, omega arith))
        | inr f ↦
            let full : log ≤ length h.y.outputs = ltb-false (length h.y.outputs) log f in
            let no_room : nat_lt (length g.effects.outs) a.room.log ≡ false = le-ltb (length g.effects.outs) a.room.log (omega arith) in
            rw f (traps_serving program m words r h.y h.sends h.s h.o h.v stands shape (holding_load program m words r h h.ready) g (Puts w) h.progress.is_act LogFull
            (rw no_room refl))
      ]

  pub step-read_count : (w : ℕ) → StandsPrivate words program m → HasShape program m →
      Serving program words m (machine_at pick stamp b ending e (ReadCount w)) → Steps program m words (machine_at pick stamp b ending e (ReadCount w))
  step-read_count w stands shape h =
      subst (λ n. Serving program words m (after program (machine_at pick stamp b ending e (ReadCount w)) (ReadCount w) n))
      (sym (h.buffered.words 9 ∙ words-of_outputs h.y h.s h.o h.v))
      (count_serving w stands shape h)

  pub step-store_log : (n w : ℕ) → Serving program words m (machine_at pick stamp b ending e (StoreLog n w)) → Steps program m words (machine_at pick stamp b ending e (StoreLog n w))
  step-store_log n w h =
      let r : TaskMachine = machine_at pick stamp b ending e (StoreLog n w) in
      let t : ℕ = pick.thread.0 in
      let word : ℕ = (stamp + 1) * 2 ^ 32 + w in
      let n' : Memory = store words (Log t n) word in
      let is : n ≡ length h.y.outputs = h.progress.1 in
      serving_at program m n' r e (WriteCount (n + 1)) h.y h.sends h.s h.o h.v
      (record {
        picked = picked_at program words n' m pick refl h.picked;
        stamp = h.stamp;
        buffered = record { commit = h.buffered.commit; words = h.buffered.words };
        fresh = h.ready;
        logged = λ k lt. store-other words (Log t n) (Log t k) word (λ q. let at : n ≡ k = cc in absurd (omega arith)) ∙ h.logged k lt;
        sent = h.sent;
        size = h.size;
        pages = h.pages;
      })
      (w, h.progress.0, ap (λ k. k + 1) is, h.progress.2, ap (λ k. n' (Log t k)) (sym is) ∙ store-same words (Log t n) word)

  pub step-write_count : (k : ℕ) → StandsPrivate (perform words (want program (machine_at pick stamp b ending e (WriteCount k)))) program m → HasShape program m →
      Serving program words m (machine_at pick stamp b ending e (WriteCount k)) → Steps program m words (machine_at pick stamp b ending e (WriteCount k))
  step-write_count k stands shape h =
      let r : TaskMachine = machine_at pick stamp b ending e (WriteCount k) in
      let p : Told = told program m r h.y h.sends h.s h.o h.v in
      let x : Saved = saved program m pick.thread.0 in
      let a : Assignment = assignment program m pick in
      let t : ℕ = pick.thread.0 in
      let w : ℕ = h.progress.0 in
      let executing = h.progress.1 in
      let g = executing.running in
      let outs : List ℕ = g.effects.outs in
      let old : List Output = h.y.outputs in
      let o : Output = record { stamp = stamp + 1; thread = record { 0 = t }; value = w } in
      let y : Saved = record (h.y) { outputs = old ++ o ∷ [] } in
      let effects : Effects = record (g.effects) { outs = outs ++ w ∷ [] } in
      let count : length old ≡ length x.outputs + length outs = outputs_length p g in
      let more : length (old ++ o ∷ []) ≡ length old + 1 = length-append old (o ∷ []) in
      let is : k ≡ length (old ++ o ∷ []) = h.progress.2 ∙ sym more in
      let room : length outs < a.room.log = let lt : length old < length x.outputs + a.room.log = h.progress.3 in omega arith in
      let next : Cpu = advance (cpu_of e) in
      let z : Saved = begun pick x in
      put_step program m words r 9 k (proceed program r next) h (omega arith) (λ c. refl) λ dirty fresh.
      let n : Memory = store words (place_in t (working_mask b) 9) k in
      let stands' : StandsPrivate n program m = rw (is_dirty-true b 1 dirty) at stands in
      proceed_serving program m n r next y h.sends h.s h.o h.v stands' shape
      (holding_put program m words r 9 k y h.sends h.s h.o h.v h dirty fresh
      (λ j. ap (λ i. put (λ l. get_or (thread_words h.y h.s h.o h.v) l 0) 9 i j) is ∙ words-outputs h.y h.s h.o h.v (old ++ o ∷ []) j)
      (logged_more (log_of words t) old o h.logged h.progress.4) h.sent
      h.size)
      (going_from p g (Puts w) executing.is_act next y h.sends effects
      (rw (lt-ltb (length outs) a.room.log room) refl) executing.goes_on
      (ap (λ (c : Saved). record c { outputs = c.outputs ++ o ∷ [] }) g.made
      ∙ ap (λ l. record (with_effects (stamp + 1) t g.effects z) { outputs = l })
      (append_assoc z.outputs (stamped (stamp + 1) t outs) (o ∷ [])
      ∙ ap (λ l. z.outputs ++ l) (sym (map-append (λ v. record { stamp = stamp + 1; thread = record { 0 = t }; value = v }) outs (w ∷ [])))))
      g.sent g.few)
