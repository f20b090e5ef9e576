-- A job whose first charge is cut to its first turns.
use Rattle.std.specs.Prelude.{◌≡◌, ℕ, ◌+◌, ◌-◌, min, List, [], ◌∷◌, take}
use Rattle.job_parts.specs.Job.{JobParts, IsJob}
use Rattle.job_parts.specs.declared.item.Item.{Item}
use Rattle.job_parts.specs.declared.charge.Charge.{Charge}
use Rattle.kernel_core.specs.Core.{turns_in}
use Rattle.kernel_core.specs.Listed.{moves_of}

-- an item of which so many turns are left to make
abbrev pub cut_item : (left : ℕ) → Item → Item
cut_item left item = record item { count = min left item.count }

-- the first so many turns of items: the item that has the last of them is cut in its middle, and those behind it have none
abbrev pub first_turns : (left : ℕ) → List Item → List Item
first_turns left [] = []
first_turns left (item ∷ items) = cut_item left item ∷ first_turns (left - item.count) items

-- a charge cut to its first so many turns
abbrev pub cut_charge : (turns : ℕ) → Charge → Charge
cut_charge turns charge = record charge { items = first_turns turns charge.items }

-- of these charges the first one is cut, and all others are as they are listed
abbrev pub cut_first : (turns : ℕ) → List Charge → List Charge
cut_first turns [] = []
cut_first turns (charge ∷ charges) = cut_charge turns charge ∷ charges

-- the job whose first charge is cut to its first so many turns
abbrev pub cut_to : JobParts → (turns : ℕ) → JobParts
cut_to job turns = record job { charges = cut_first turns job.charges }

-- a cut charge begins with the same darkness, and makes the first so many turns that the charge lists
abbrev pub CutsTake : Type 0
CutsTake = (turns : ℕ) (charge : Charge) → moves_of (cut_charge turns charge) ≡ take (turns + 1) (moves_of charge)

-- cut to as many turns as it lists, a job is what it is
abbrev pub AllIsWhole : Type 0
AllIsWhole = (job : JobParts) → cut_to job (turns_in job 0) ≡ job

-- what is left of a job so cut is a job
abbrev pub CutsAreJobs : Type 0
CutsAreJobs = (job : JobParts) (turns : ℕ) → IsJob job → IsJob (cut_to job turns)
