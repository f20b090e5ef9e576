-- A machine that goes on ahead of its board makes the accesses of the machine alone.
use Rattle.task_run.proofs.Common.{◌≡◌, ℕ, ◌+◌, false, List, length, arith, ap, ◌∙◌, sym, inl, inr, subst, false≢true, cases_eq, Memory, perform, answer, Program, IsAccepted, Pick, TaskMachine, want, take, FitsTask, FitsWord}
use Rattle.std.proofs.Common.{add-one}
use Rattle.fram_words.specs.Places.{place_of}
use Rattle.ink_layout.specs.Shape.{IsOnBoard}
use Rattle.task_run.specs.Knows.{CanGoOn}
use Rattle.task_run.specs.Remaining.{Alone, next_alone, alone, is_committed, GoesOnAlone}
use Rattle.task_run.specs.kept.Ahead.{found_by, kept_by, IsAhead, GoesAhead}
use Rattle.task_run.proofs.AheadSteps.{alone_more, takes_same, stays_ahead, fits_ahead}
use Rattle.task_run.proofs.LeftBounds.{access_lowers}
use Rattle.task_run.proofs.Remains.{phase_kind, commit_next}
use Rattle.task_run.proofs.SamePicks.{take_pick}

module _ (program : Program) (words : Memory) (self : TaskMachine) (count : ℕ) (r : TaskMachine) (block : List ℕ) (goes : GoesAhead program words self count r block)
    (on : GoesOnAlone program words self) (alive : is_committed r.phase ≡ false) where
  abbrev b : Alone
  b = alone program count (record { words = words; machine = self })

  -- the next access can be made, and the word that it finds on the board taken
  can_go : CanGoOn program b.words r
  can_go = subst (λ z. CanGoOn program b.words z) (sym goes.machine) (on count (subst (λ (z : TaskMachine). is_committed z.phase ≡ false) goes.machine alive))

  here : IsAhead program words r.pick.thread.0 block b.words
  here = subst (λ (p : Pick). IsAhead program words p.thread.0 block b.words) (sym goes.pick) (goes.ahead alive)

  pub fits_now : FitsTask program r
  fits_now = can_go.wants

  pub word_fits : IsOnBoard program (place_of (want program r)) → FitsWord program r.phase (found_by words r.pick.thread.0 block (want program r))
  word_fits there = fits_ahead program words block b.words r here alive there can_go.takes

  -- the registers after it
  next_is : IsOnBoard program (place_of (want program r)) → take program r (found_by words r.pick.thread.0 block (want program r)) ≡ take program r (answer b.words (want program r))
  next_is there = sym (takes_same program words block b.words r here alive there)

  one_more : alone program (count + 1) (record { words = words; machine = self }) ≡ next_alone program b
  one_more = ap (λ n. alone program n (record { words = words; machine = self })) (add-one count) ∙ alone_more program count (record { words = words; machine = self })

  machine_is : IsOnBoard program (place_of (want program r)) →
      take program r (found_by words r.pick.thread.0 block (want program r)) ≡ (alone program (count + 1) (record { words = words; machine = self })).machine
  machine_is there =
      next_is there ∙ (ap (λ z. take program z (answer b.words (want program z))) goes.machine ∙ ap (λ (z : Alone). z.machine) (sym one_more))

  words_are : perform b.words (want program r) ≡ (alone program (count + 1) (record { words = words; machine = self })).words
  words_are = ap (λ z. perform b.words (want program z)) goes.machine ∙ ap (λ (z : Alone). z.words) (sym one_more)

  -- the words after it, unless it was the commit
  ahead_next : IsAccepted program → length block ≡ 608 → (there : IsOnBoard program (place_of (want program r))) →
      is_committed (take program r (found_by words r.pick.thread.0 block (want program r))).phase ≡ false →
      IsAhead program words self.pick.thread.0 (kept_by r.pick.thread.0 block (want program r)) (perform b.words (want program r))
  ahead_next accepted size there more =
      elim (phase_kind r.phase) [
        | inl before ↦
            subst (λ (p : Pick). IsAhead program words p.thread.0 (kept_by r.pick.thread.0 block (want program r)) (perform b.words (want program r))) goes.pick
            (stays_ahead program words block b.words r accepted size here before there)
        | inr (inl commit) ↦
            let over = commit_next program b.words r commit in
            absurd (false≢true (sym more ∙ (ap (λ (z : TaskMachine). is_committed z.phase) (next_is there) ∙ over)))
        | inr (inr over) ↦ absurd (false≢true (sym alive ∙ over))
      ]

  pub goes_next : IsAccepted program → length block ≡ 608 → (there : IsOnBoard program (place_of (want program r))) →
      GoesAhead program words self (count + 1) (take program r (found_by words r.pick.thread.0 block (want program r))) (kept_by r.pick.thread.0 block (want program r))
  goes_next accepted size there =
      let word : ℕ = found_by words r.pick.thread.0 block (want program r) in
      let lowers = access_lowers program r word accepted fits_now there in
      let bound = goes.bound in
      record {
        machine = machine_is there;
        pick = take_pick program r word ∙ goes.pick;
        ahead = λ more. subst (λ z. IsAhead program words self.pick.thread.0 (kept_by r.pick.thread.0 block (want program r)) z) words_are (ahead_next accepted size there more);
        before = λ k lt.
            elim (cases_eq k count) [
              | inl e ↦ rw e (subst (λ (z : TaskMachine). is_committed z.phase ≡ false) goes.machine alive)
              | inr ne ↦ goes.before k (omega arith)
            ];
        bound = omega arith;
      }
