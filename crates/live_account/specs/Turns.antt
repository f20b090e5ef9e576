-- The turns that a charge lists for each actor, and the ticks that go by.
use Rattle.std.specs.Prelude.{ℕ, ◌+◌, ◌==◌, Bool, true, false, if◌then◌else◌, List, [], sum_by, take, slice_index_or}
use Rattle.ink_base.specs.declared.actor.Actor.{Actor}
use Rattle.ink_base.specs.declared.actor.Actor.TheVariants.{Kernel, Source, Clock}
use Rattle.job_parts.specs.declared.item.Item.{Item}
use Rattle.job_parts.specs.declared.charge.Charge.{Charge}

-- both are the same actor
abbrev pub is_same : Actor → Actor → Bool
is_same Kernel Kernel = true
is_same Clock Clock = true
is_same (Source i) (Source j) = i.0 == j.0
is_same a b = false

-- source number i
abbrev pub source : ℕ → Actor
source i = Source (record { 0 = i })

-- the turns of an item, where it is one of the actor
abbrev pub turns_in : Actor → Item → ℕ
turns_in actor item = if is_same item.actor actor then item.count else 0

-- the turns that a charge lists for an actor
abbrev pub turns_for : Actor → Charge → ℕ
turns_for actor charge = sum_by (turns_in actor) charge.items

-- a charge that lists nothing
abbrev pub no_charge : Charge
no_charge = record { off = 0; items = [] }

-- charge c of these
abbrev pub charge_at : List Charge → ℕ → Charge
charge_at charges c = slice_index_or charges c no_charge

-- the ticks that go by in the dark before these charges
abbrev pub dark_ticks : List Charge → ℕ
dark_ticks charges = sum_by (λ (charge : Charge). charge.off) charges

-- the ticks that they list
abbrev pub lit_ticks : List Charge → ℕ
lit_ticks charges = sum_by (turns_for Clock) charges

-- the ticks that have gone by for sure when charge c has begun: all in the dark up to then, and those that the charges before it list
abbrev pub ticks_before : List Charge → ℕ → ℕ
ticks_before charges c = dark_ticks (take (c + 1) charges) + lit_ticks (take c charges)

-- all of them
abbrev pub all_ticks : List Charge → ℕ
all_ticks charges = dark_ticks charges + lit_ticks charges
