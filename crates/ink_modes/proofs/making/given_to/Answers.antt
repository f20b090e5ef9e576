use Rattle.ink_modes.proofs.Common.{◌≡◌, ℕ, Option, Some, None, subst, JobParts, form_of}
use Rattle.ink_modes.specs.declared.given.Given.TheVariants.{Job}
use Rattle.ink_modes.specs.declared.modes.Mode.{Mode}
use Rattle.ink_modes.specs.declared.modes.Mode.TheVariants as mode
use Rattle.ink_modes.specs.Form.{FitsSeed}
use Rattle.ink_modes.specs.kept.Fits.{Fits}
use Rattle.ink_modes.proofs.making.given_to.Goals as goal

-- a mode that has a seed is given a job
seeded : (m : Mode) (number : ℕ) (job : JobParts) → FitsSeed (form_of m).allowed.seed (Some number) → Fits m (Job job)
seeded mode.Run number job is = tt
seeded mode.Soak number job is = tt
seeded mode.Sweep number job is = tt
seeded mode.Print number job is = tt
seeded mode.Plan number job is = tt
seeded mode.Audit number job is = absurd (let clash : Some number ≡ None = is in cc)
seeded mode.Radio number job is = absurd (let clash : Some number ≡ None = is in cc)
seeded mode.Station number job is = absurd (let clash : Some number ≡ None = is in cc)

pub returns-in-Ok-clause-fits : goal.returns-in-Ok-clause-fits
returns-in-Ok-clause-fits g c =
    seeded c.args.mode c.in-Some.number c.in-Ok.job (subst (λ (s : Option ℕ). FitsSeed (form_of c.args.mode).allowed.seed s) c.in-Some.is c.requires)
