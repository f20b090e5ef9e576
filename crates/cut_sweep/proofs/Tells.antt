-- The words that stand for a state tell its numbers.
use Rattle.std.proofs.Common.{◌≡◌, inl, inr, ℕ, zero, suc, ◌+◌, ◌%◌, ◌<◌, ◌==◌, Bool, List, [], ◌∷◌, length, refl, sym, ap, ◌∙◌, arith, ne_eqb, eq-eqb}
use Rattle.std.proofs.lemmas.Bool.{cases_lt}
use Rattle.std.proofs.lemmas.List.Elements.{All-head, All-tail}
use Rattle.std.proofs.lemmas.List.Sums.{length-filter, sum_by-cons}
use Rattle.std.specs.List.{All}
use Rattle.ink_base.specs.declared.output.Output.{Output}
use Rattle.task_isa.specs.declared.program.Program.{Program}
use Rattle.prog_check.specs.Accepted.{IsAccepted}
use Rattle.prog_check.specs.Lookup.{thread_def}
use Rattle.fram_words.specs.Places.{Memory, Tail}
use Rattle.never_cut.specs.declared.model.Model.{Model}
use Rattle.never_cut.specs.declared.thread_model.ThreadModel.{ThreadModel}
use Rattle.never_cut.specs.State.{thread_of, no_thread}
use Rattle.never_cut.specs.Commit.{outputs_of}
use Rattle.never_cut.specs.Outputs.{outputs_in}
use Rattle.never_cut.specs.Entries.{Readings}
use Rattle.never_cut.specs.Sound.{IsSound}
use Rattle.never_cut.specs.Stands.{Stands, flag, slots_of}
use Rattle.never_cut.specs.Within.{Lasts}
use Rattle.never_cut.proofs.Blocks.{outputs_word}
use Rattle.never_cut.proofs.Slots.{held_slot, free_slot}
use Rattle.never_cut.proofs.ToldQueues.{is_readable}
use Rattle.ink_report.specs.Conditions.{NamesThread}
use Rattle.cut_sweep.specs.Sweep.{held_in, row_of}
use Rattle.cut_sweep.specs.kept.Told.{sum_to, max_to, is_full, outputs_told, stamp_told, full_slot, full_slots, told_row, AreTold}
use Rattle.cut_sweep.proofs.Sums.{sum_same, sum_add, sum_split, turned, sum_list, max_is}

-- among the first so many numbers one is this one
once : (a n : ℕ) → a < n → sum_to (λ t. flag (a == t)) n ≡ 1
once a zero lt = absurd (omega arith)
once a (suc n) lt =
    elim (cases_lt a n) [
      | inl before ↦
          let rest = once a n before in
          let other : flag (a == n) ≡ 0 = ap flag (ne_eqb a n (λ same. omega arith)) in omega arith
      | inr here ↦
          let same : a ≡ n = omega arith in
          let one : flag (a == n) ≡ 1 = ap flag (eq-eqb a n same) in
          let rest : sum_to (λ t. flag (a == t)) n ≡ 0 = sum_split (λ t. flag (a == t)) n 0 (omega arith) (λ j less. absurd (omega arith)) (λ j above less. ap flag (ne_eqb a j (λ is. omega arith))) in omega arith
    ]

-- with one output in front, its thread has one more
one_more : (o : Output) (outputs : List Output) (t : ℕ) → length (outputs_in t (o ∷ outputs)) ≡ flag (o.thread.0 == t) + length (outputs_in t outputs)
one_more o outputs t =
    let p : Output → Bool = λ x. x.thread.0 == t in
    length-filter p (o ∷ outputs)
    ∙ (sum_by-cons (λ (x : Output). flag (p x)) o outputs
    ∙ ap (λ n. flag (p o) + n) (sym (length-filter p outputs)))

-- each output is one of a thread
counted : (n : ℕ) (outputs : List Output) → All (λ (o : Output). o.thread.0 < n) outputs → sum_to (λ t. length (outputs_in t outputs)) n ≡ length outputs
counted n [] all = sum_split (λ t. length (outputs_in t [])) n 0 (omega arith) (λ j less. absurd (omega arith)) (λ j above less. refl)
counted n (o ∷ outputs) all =
    let own = once o.thread.0 n (All-head (λ (o : Output). o.thread.0 < n) o outputs all) in
    let rest = counted n outputs (All-tail (λ (o : Output). o.thread.0 < n) o outputs all) in
    let split : sum_to (λ t. length (outputs_in t (o ∷ outputs))) n ≡ sum_to (λ t. flag (o.thread.0 == t)) n + sum_to (λ t. length (outputs_in t outputs)) n =
    sum_same (λ t. length (outputs_in t (o ∷ outputs))) (λ t. flag (o.thread.0 == t) + length (outputs_in t outputs)) n (λ t lt. one_more o outputs t)
    ∙ sum_add (λ t. flag (o.thread.0 == t)) (λ t. length (outputs_in t outputs)) n in
    omega (arith, own, rest, split)

module _ (program : Program) (readings : Readings) (words : Memory) (m : Model) (accepted : IsAccepted program) (sound : IsSound program readings m) (stands : Stands words program m) where
  outputs_at : (t : ℕ) → t < length program.threads → outputs_told words t ≡ length (outputs_of m t)
  outputs_at t known = outputs_word program words m t known stands.private

  held_at : (t : ℕ) → t < length program.threads → full_slots program words t ≡ length (thread_of m t).held
  held_at t known =
      let x : ThreadModel = thread_of m t in
      let places : ℕ = (thread_def program t).queue in
      let readable = is_readable program readings words m accepted sound stands t known in
      sym (turned (full_slot words t) places x.released readable.some)
      ∙ sum_split (λ j. full_slot words t ((x.released + j) % places)) places (length x.held) readable.stands.room
      (λ j lt. ap (λ s. flag (is_full s)) (held_slot program t places (slots_of words t) (words (Tail t)) j x readable lt))
      (λ j above lt. ap (λ s. flag (is_full s)) (free_slot program t places (slots_of words t) (words (Tail t)) (x.released + j) x readable (omega arith) (omega arith)))

  outputs_are : All (NamesThread program) m.outputs → sum_to (outputs_told words) (length program.threads) ≡ length m.outputs
  outputs_are named = sum_same (outputs_told words) (λ t. length (outputs_of m t)) (length program.threads) outputs_at ∙ counted (length program.threads) m.outputs named

  commits_are : max_to (stamp_told words) (length program.threads) ≡ m.commits
  commits_are = max_is (stamp_told words) (length program.threads) m.commits stands.private.stamps stands.private.newest

  held_are : sum_to (full_slots program words) (length program.threads) ≡ held_in m
  held_are =
      sum_same (full_slots program words) (λ t. length (thread_of m t).held) (length program.threads) held_at
      ∙ (ap (λ n. sum_to (λ t. length (thread_of m t).held) n) (sym sound.shape.threads)
      ∙ sym (sum_list (λ (x : ThreadModel). length x.held) m.threads no_thread))

  -- so the row that they tell is the state's
  pub row_told : (cut : ℕ) → All (NamesThread program) m.outputs → told_row program words cut (length program.threads) ≡ row_of cut m
  row_told cut named = λ i. record { cut = cut; outputs = outputs_are named i; commits = commits_are i; held = held_are i }

  -- and its numbers have their room
  pub are_told : Lasts 0 m → AreTold program words
  are_told lasts = record {
    outputs = λ t known. let count = outputs_at t known in let few = (sound.threads t known).outputs in let log = (accepted.threads t known).log in omega arith;
    stamps = λ t known. let stamp = stands.private.stamps t known in let few = lasts.commits in omega arith;
  }
