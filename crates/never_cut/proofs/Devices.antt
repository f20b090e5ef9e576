-- Pipes and timers by their words are those of the state.
use Rattle.never_cut.proofs.Common.{◌≡◌, inl, inr, ℕ, ◌+◌, ◌-◌, ◌%◌, ◌<◌, ◌==◌, ◌&&◌, Bool, true, false, length, Option, Some, None, refl, sym, ap, ◌∙◌, subst, arith, nat_lt, nat_le, if◌then◌else◌, slice_index, eq-eqb, lt-ltb, le-ltb, cases_lt, Program, TimerSet, Memory, Ring, due_word, IsAccepted, pipe_def, timer_def, Model, TimerModel, pipe_of, timer_of, is_due_by, next_due, set_by, StandsPrivate, taken_of, written_of}
use Rattle.persist_timer.specs.Due as timers
use Rattle.never_cut.specs.Devices.{IsPipeTold, IsTimerTold, EveryDeviceTold, due_of_timer, period_of_timer}
use Rattle.never_cut.proofs.Blocks.{first_word, taken_count, written_count, timer_count, period_count}

-- two comparisons that follow from each other
same_lt : (a b c d : ℕ) → (a < b → c < d) → (c < d → a < b) → nat_lt a b ≡ nat_lt c d
same_lt a b c d to from =
    elim (cases_lt a b) [
      | inl lt ↦ lt-ltb a b lt ∙ sym (lt-ltb c d (to lt))
      | inr le ↦
          elim (cases_lt c d) [
            | inl lt ↦ absurd (let less = from lt in omega arith)
            | inr other ↦ le-ltb a b le ∙ sym (le-ltb c d other)
          ]
    ]

due_told : (o : Option ℕ) (time : ℕ) → timers.is_due (due_word o) time ≡ is_due_by o time
due_told None time = refl
due_told (Some tick) time =
    let some : nat_lt 0 (tick + 1) ≡ true = lt-ltb 0 (tick + 1) (omega arith) in
    let back : tick + 1 - 1 ≡ tick = omega arith in
    ap (λ b. b && nat_le (tick + 1 - 1) time) some ∙ ap (λ n. nat_le n time) back

service_told : (deadline : ℕ) (x : TimerModel) → timers.after_service (deadline + 1) x.period ≡ due_word (next_due deadline x)
service_told deadline x = by_period (x.period == 0)
  where
    by_period : (b : Bool) → (if b then 0 else deadline + 1 + x.period) ≡ due_word (if b then None else Some (deadline + x.period))
    by_period true = refl
    by_period false = omega arith

armed_told : (o : Option ℕ) (n : ℕ) (set : TimerSet) (x : TimerModel) → set.due ≡ o → o ≡ Some n → due_word (Some n) ≡ due_word (set_by set x).due
armed_told None n set x is some = absurd (let clash : None ≡ Some n = some in cc)
armed_told (Some tick) n set x is some =
    ap due_word (sym some) ∙ sym (ap (λ (o : Option ℕ). due_word (set_by (record set { due = o }) x).due) is)

module _ (program : Program) (words : Memory) (m : Model) (accepted : IsAccepted program) (private : StandsPrivate words program m) where
  pipe_told : (q : ℕ) → q < length program.pipes → IsPipeTold program words m q
  pipe_told q known =
      let pipe = accepted.pipes q known in
      let taken : taken_of program words q ≡ (pipe_of m q).taken = taken_count program words m (pipe_def program q).reader.0 q accepted pipe.reader private known refl in
      let written : written_of program words q ≡ (pipe_of m q).taken + length (pipe_of m q).items = written_count program words m q accepted private known in
      record {
        item =
            same_lt (taken_of program words q) (written_of program words q) 0 (length (pipe_of m q).items) (λ lt. omega (arith, taken, written, lt)) (λ lt. omega (arith, taken, written, lt))
            ∙ sym (ap (λ b. b && nat_lt 0 (length (pipe_of m q).items)) (eq-eqb (pipe_def program q).reader.0 (pipe_def program q).reader.0 refl));
        room = λ sent.
            same_lt (written_of program words q + sent - taken_of program words q) (pipe_def program q).places sent ((pipe_def program q).places - length (pipe_of m q).items)
            (λ lt. omega (arith, taken, written, lt)) (λ lt. omega (arith, taken, written, lt));
        place = λ k lt.
            subst (λ n. words (Ring q ((n + k) % (pipe_def program q).places)) ≡ slice_index (pipe_of m q).items k) (sym taken) (private.pipes q known k lt);
      }

  timer_told : (j : ℕ) → j < length program.timers → IsTimerTold program words m j
  timer_told j known =
      let timer = accepted.timers j known in
      let word : due_of_timer program words j ≡ due_word (timer_of m j).due = timer_count program words m (timer_def program j).thread.0 j accepted timer.thread private known refl in
      let period : period_of_timer program words j ≡ (timer_of m j).period = period_count program words m (timer_def program j).thread.0 j accepted timer.thread private known refl in
      record {
        due = λ time. ap (λ n. timers.is_due n time) word ∙ due_told (timer_of m j).due time;
        service = λ deadline is.
            ap (λ n. timers.after_service n (period_of_timer program words j)) (word ∙ ap due_word is)
            ∙ (ap (λ n. timers.after_service (deadline + 1) n) period ∙ service_told deadline (timer_of m j));
        armed = λ set time delay is. armed_told set.due (time + delay) set (timer_of m j) refl is;
      }

pub every_device : EveryDeviceTold
every_device program words m accepted private = record {
  pipes = pipe_told program words m accepted private;
  timers = timer_told program words m accepted private;
  chains = λ t known ticks time. ap (λ n. timers.is_expired ticks n time) (first_word program words m t known private);
}
