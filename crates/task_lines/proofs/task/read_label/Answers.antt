-- A label whose name is new is none of the task's.
use Rattle.task_lines.proofs.Common.{◌≡◌, ℕ, true, false, Option, Some, None, Ok, refl, sym, ap, ◌∙◌, inl, inr, is_some, cases_Bool, Word}
use Rattle.task_isa.specs.Names.{is_name}
use Rattle.task_lines.specs.Named.{fresh_of}
use Rattle.task_lines.proofs.task.read_label.Goals as goal

free : (o : Option ℕ) (name : Word) → fresh_of (is_some o) name ≡ Ok name → o ≡ None
unfolding fresh_of
free None name h = refl
free (Some offset) name h = elim (cases_Bool (is_name name)) [
  | inl named ↦ let taken = rw named at h in absurd (cc taken)
  | inr other ↦ let unknown = rw other at h in absurd (cc unknown)
]

pub insert-requires : goal.insert-requires
insert-requires c = sym c.get.ensures ∙ free c.get.result c.args.name.now (ap (λ taken. fresh_of taken c.args.name.now) (sym c.is_some.ensures) ∙ c.in_ok-fresh.ensures.given)
