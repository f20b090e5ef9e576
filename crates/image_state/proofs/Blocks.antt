-- When the words of a block are those of a thread.
use Rattle.image_state.proofs.Common.{◌≡◌, inl, inr, ℕ, zero, suc, ◌-◌, ◌/◌, ◌<◌, ◌≤◌, length, refl, sym, ◌∙◌, subst, arith, slice_index, cases_lt, next_word, Saved}
use Rattle.never_cut.specs.Stands.{thread_words}
use Rattle.ink_base.specs.declared.limits.TheConstants as limits
use Rattle.fram_words.specs.Header as header
use Rattle.never_cut.proofs.Blocks.{written_at, taken_at, due_at, period_at, unused_at, state_at}

-- the words of f say what is saved of a thread
pub record AreWords (f : ℕ → ℕ) (y : Saved) : Type 0 where
  pub next : f header.next ≡ next_word y.running
  pub first : f header.first ≡ y.first
  pub ended : f header.finished ≡ y.ended
  pub served : f header.served ≡ y.served
  pub trapped : f header.trapped ≡ y.trapped
  pub expired : f header.expired ≡ y.expired
  pub outputs : f header.outputs ≡ length y.outputs
  pub written : (q : ℕ) → q < limits.PIPES → f (header.written q) ≡ y.written q
  pub taken : (q : ℕ) → q < limits.PIPES → f (header.taken q) ≡ y.taken q
  pub due : (j : ℕ) → j < limits.TIMERS → f (header.due j) ≡ y.due j
  pub period : (j : ℕ) → j < limits.TIMERS → f (header.period j) ≡ y.period j
  pub unused : (w : ℕ) → header.due 8 ≤ w → w < header.words → f w ≡ 0
  pub state : (w : ℕ) → header.words ≤ w → f w ≡ slice_index y.state (w - header.words)

module _ (f : ℕ → ℕ) (y : Saved) (are : AreWords f y) where
  -- the words before the counts of pipes
  first_words : (w : ℕ) → w < 10 → f w ≡ slice_index (thread_words y (f header.stamp) (f header.origin) (f header.value)) w
  unfolding thread_words
  first_words zero lt = refl
  first_words (suc zero) lt = are.next
  first_words (suc (suc zero)) lt = are.first
  first_words (suc (suc (suc zero))) lt = refl
  first_words (suc (suc (suc (suc zero)))) lt = refl
  first_words (suc (suc (suc (suc (suc zero))))) lt = are.ended
  first_words (suc (suc (suc (suc (suc (suc zero)))))) lt = are.served
  first_words (suc (suc (suc (suc (suc (suc (suc zero))))))) lt = are.trapped
  first_words (suc (suc (suc (suc (suc (suc (suc (suc zero)))))))) lt = are.expired
  first_words (suc (suc (suc (suc (suc (suc (suc (suc (suc zero))))))))) lt = are.outputs
  first_words (suc (suc (suc (suc (suc (suc (suc (suc (suc (suc w)))))))))) lt = absurd (omega arith)

  Says : ℕ → Type 0
  Says w = f w ≡ slice_index (thread_words y (f header.stamp) (f header.origin) (f header.value)) w

  pipe_words : (w : ℕ) → header.written 0 ≤ w → w < header.due 0 → Says w
  unfolding Says
  pipe_words w from below =
      elim (cases_lt w (header.taken 0)) [
        | inl lt ↦
            let q : ℕ = w - header.written 0 in
            let few : q < limits.PIPES = omega arith in
            let at : header.written q ≡ w = omega arith in
            subst Says at (are.written q few ∙ sym (written_at y (f header.stamp) (f header.origin) (f header.value) q few))
        | inr ge ↦
            let q : ℕ = w - header.taken 0 in
            let few : q < limits.PIPES = omega arith in
            let at : header.taken q ≡ w = omega arith in
            subst Says at (are.taken q few ∙ sym (taken_at y (f header.stamp) (f header.origin) (f header.value) q few))
      ]

  timer_words : (w : ℕ) → header.due 0 ≤ w → w < header.due 8 → Says w
  unfolding Says
  timer_words w from below =
      let j : ℕ = (w - header.due 0) / 2 in
      let few : j < limits.TIMERS = omega arith in
      elim (cases_lt w (header.period j)) [
        | inl lt ↦
            let at : header.due j ≡ w = omega arith in
            subst Says at (are.due j few ∙ sym (due_at y (f header.stamp) (f header.origin) (f header.value) j few))
        | inr ge ↦
            let at : header.period j ≡ w = omega arith in
            subst Says at (are.period j few ∙ sym (period_at y (f header.stamp) (f header.origin) (f header.value) j few))
      ]

  pub block_says : (w : ℕ) → f w ≡ slice_index (thread_words y (f header.stamp) (f header.origin) (f header.value)) w
  unfolding Says
  block_says w =
      elim (cases_lt w (header.written 0)) [
        | inl few ↦ first_words w few
        | inr one ↦ elim (cases_lt w (header.due 0)) [
          | inl few ↦ pipe_words w one few
          | inr two ↦ elim (cases_lt w (header.due 8)) [
            | inl few ↦ timer_words w two few
            | inr three ↦ elim (cases_lt w header.words) [
              | inl few ↦ are.unused w three few ∙ sym (unused_at y (f header.stamp) (f header.origin) (f header.value) w three few)
              | inr behind ↦ are.state w behind ∙ sym (state_at y (f header.stamp) (f header.origin) (f header.value) w behind)
            ]
          ]
        ]
      ]
