-- The outputs that the logs tell.
use Rattle.image_state.proofs.Common.{◌≡◌, ◌≢◌, inl, inr, ℕ, zero, suc, ◌+◌, ◌<◌, ◌≤◌, ◌==◌, ◌++◌, Bool, true, false, List, [], ◌∷◌, length, get_or, refl, sym, ap, ◌∙◌, subst, arith, filter, eq-eqb, ne_eqb, cases_eq, All, All-append, All-nil, filter-append, append-nil, get_or-map-range_with_len, length-map-range_with_len, Output, Program, Memory, committed, IsImage, IsNonDecreasingBy, IsOutputOf, outputs_in, told_output, told_outputs, outputs_until}
use Rattle.std.proofs.lemmas.List.Sorted.{IsNonDecreasingBy-from_all_adjacent}
use Rattle.fram_words.specs.Header as header

-- a filter that each element passes keeps all, and one that none passes keeps none
pub keeps_all : {X : Type 0} (p : X → Bool) (xs : List X) → All (λ x. p x ≡ true) xs → filter p xs ≡ xs
keeps_all p [] each = refl
keeps_all p (x ∷ xs) each = rw (each 0 x (omega arith)) (ap (λ l. x ∷ l) (keeps_all p xs (λ k d lt. each (suc k) d (omega arith))))

pub keeps_none : {X : Type 0} (p : X → Bool) (xs : List X) → All (λ x. p x ≡ false) xs → filter p xs ≡ []
keeps_none p [] each = refl
keeps_none p (x ∷ xs) each = rw (each 0 x (omega arith)) (keeps_none p xs (λ k d lt. each (suc k) d (omega arith)))

module _ (words : Memory) where
  pub count_is : (t : ℕ) → length (told_outputs words t) ≡ committed words t header.outputs
  count_is t = length-map-range_with_len (told_output words t) 0 (committed words t header.outputs)

  pub output_is : (t n : ℕ) (d : Output) → n < length (told_outputs words t) → get_or (told_outputs words t) n d ≡ told_output words t n
  output_is t n d lt = get_or-map-range_with_len (told_output words t) 0 (committed words t header.outputs) n n d (let is = count_is t in omega (arith, is, lt)) (omega arith)

  -- what holds of each output in the log holds of all of them
  pub each_told : (P : Output → Type 0) (t : ℕ) → ((n : ℕ) → n < committed words t header.outputs → P (told_output words t n)) → All P (told_outputs words t)
  each_told P t each n d lt = subst P (sym (output_is t n d lt)) (each n (let is = count_is t in omega (arith, is, lt)))

  -- they are the thread's own
  own_outputs : (t : ℕ) → outputs_in t (told_outputs words t) ≡ told_outputs words t
  own_outputs t = keeps_all (λ (o : Output). o.thread.0 == t) (told_outputs words t) (each_told (λ (o : Output). (o.thread.0 == t) ≡ true) t (λ n lt. eq-eqb t t refl))

  other_outputs : (t u : ℕ) → u ≢ t → outputs_in t (told_outputs words u) ≡ []
  other_outputs t u other = keeps_none (λ (o : Output). o.thread.0 == t) (told_outputs words u) (each_told (λ (o : Output). (o.thread.0 == t) ≡ false) u (λ n lt. ne_eqb u t other))

  not_yet : (count t : ℕ) → count ≤ t → outputs_in t (outputs_until words count) ≡ []
  not_yet zero t le = refl
  not_yet (suc u) t le =
      filter-append (λ (o : Output). o.thread.0 == t) (outputs_until words u) (told_outputs words u)
      ∙ rw (not_yet u t (omega arith), other_outputs t u (λ e. absurd (omega (arith, e, le)))) refl

  -- of all threads' outputs those of a thread are its own
  pub in_logs : (count t : ℕ) → t < count → outputs_in t (outputs_until words count) ≡ told_outputs words t
  in_logs zero t lt = absurd (omega arith)
  in_logs (suc u) t lt =
      filter-append (λ (o : Output). o.thread.0 == t) (outputs_until words u) (told_outputs words u)
      ∙ elim (cases_eq u t) [
        | inl is ↦ ap (λ l. l ++ outputs_in t (told_outputs words u)) (not_yet u t (omega (arith, is)))
            ∙ subst (λ k. outputs_in t (told_outputs words k) ≡ told_outputs words t) (sym is) (own_outputs t)
        | inr other ↦ rw (other_outputs t u other, in_logs u t (omega (arith, other, lt))) (append-nil (told_outputs words t))
      ]

  each_until : (P : Output → Type 0) (count : ℕ) → ((t n : ℕ) → t < count → n < committed words t header.outputs → P (told_output words t n)) → All P (outputs_until words count)
  each_until P zero each = All-nil P
  each_until P (suc t) each =
      All-append P (outputs_until words t) (told_outputs words t) (each_until P t (λ u n lt less. each u n (omega arith) less))
      (each_told P t (λ n less. each t n (omega arith) less))

  -- each is of a thread of the program, and its value has 32 bits
  pub outputs_right : (program : Program) → All (IsOutputOf program) (outputs_until words (length program.threads))
  outputs_right program = each_until (IsOutputOf program) (length program.threads) (λ t n known lt. (known, omega arith))

  -- their stamps don't fall along the log of an image
  pub log_rises : (program : Program) (t : ℕ) → IsImage program words → t < length program.threads → IsNonDecreasingBy (λ (o : Output). o.stamp) (told_outputs words t)
  log_rises program t image known =
      IsNonDecreasingBy-from_all_adjacent (λ (o : Output). o.stamp) (told_outputs words t)
      (λ k d lt.
      let is = count_is t in
      let right = image.logs t (k + 1) known (omega (arith, is, lt)) in
      subst (λ (z : Output × Output). z.0.stamp ≤ z.1.stamp) (λ i. (sym (output_is t k d (omega arith)) i, sym (output_is t (k + 1) d lt) i)) (right.ordered k refl))
