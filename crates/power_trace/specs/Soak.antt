-- The job that is generated from a number.
use Rattle.std.specs.Prelude.{ℕ, zero, suc, ◌+◌, ◌*◌, ◌/◌, ◌%◌, ◌^◌, List, [], ◌∷◌, ◌++◌, codes, None}
use Rattle.ink_base.specs.declared.actor.Actor.TheVariants.{Kernel, Source, Clock}
use Rattle.task_isa.specs.declared.instr.Instr.{Instr}
use Rattle.task_isa.specs.declared.instr.Instr.TheVariants.{Li, Ld, Ev, Add, St, Out, Done}
use Rattle.task_isa.specs.declared.program.Program.{Program}
use Rattle.job_parts.specs.declared.item.Item.{Item}
use Rattle.job_parts.specs.declared.charge.Charge.{Charge}
use Rattle.job_parts.specs.Job.{JobParts}

-- the state of the generator behind one more draw
abbrev pub next_state : ℕ → ℕ
next_state x = (x * 1664525 + 1013904223) % 2 ^ 32

-- its state behind so many draws; the number is its first one
unfoldable pub state_after : ℕ → ℕ → ℕ
state_after number zero = number
state_after number (suc n) = next_state (state_after number n)

-- draw n, counted from 0: the upper half of the state behind it
abbrev pub draw : ℕ → ℕ → ℕ
draw number n = state_after number (suc n) / 2 ^ 16

-- so many draws, from the first one on
unfoldable pub draws : ℕ → ℕ → ℕ → List ℕ
draws number first zero = []
draws number first (suc n) = draws number first n ++ draw number (first + n) ∷ []

-- 500 readings of each of two sources
abbrev pub soak_readings : ℕ → List (List ℕ)
soak_readings number = draws number 0 500 ∷ draws number 500 500 ∷ []

-- a charge takes five draws, from the first one on
abbrev pub drawn_items : ℕ → ℕ → List Item
drawn_items number first =
    record { actor = Source (record { 0 = 0 }); count = draw number (first + 1) % 16 }
    ∷ record { actor = Kernel; count = draw number (first + 2) % 512 }
    ∷ record { actor = Source (record { 0 = 1 }); count = draw number (first + 3) % 16 }
    ∷ record { actor = Clock; count = draw number (first + 4) % 4 }
    ∷ []

-- the charge of the draws from the first one on
abbrev pub drawn_charge : ℕ → ℕ → Charge
drawn_charge number first = record { off = draw number first % 8; items = drawn_items number first }

-- so many charges, behind the draws of the readings
unfoldable pub drawn_charges : ℕ → ℕ → List Charge
drawn_charges number zero = []
drawn_charges number (suc n) = drawn_charges number n ++ drawn_charge number (1000 + 5 * n) ∷ []

-- a long one at the end
abbrev pub last_charge : Charge
last_charge = record {
  off = 0;
  items =
      record { actor = Source (record { 0 = 0 }); count = 5000 }
      ∷ record { actor = Source (record { 0 = 1 }); count = 5000 }
      ∷ record { actor = Kernel; count = 2000 }
      ∷ [];
}

-- the drawn charges, and the long one
abbrev pub soak_charges : ℕ → List Charge
soak_charges number = drawn_charges number 200 ++ last_charge ∷ []

-- a task that adds up what it is given and puts out each sum
abbrev pub soak_code : List Instr
soak_code = Li 1 0 ∷ Ld 2 1 ∷ Ev 3 ∷ Add 2 2 3 ∷ St 2 1 ∷ Out 2 ∷ Done ∷ []

-- the program: a thread fed by two sources, with that task
abbrev pub soak_program : Program
soak_program = record {
  threads = record { name = codes "a"; priority = 1; queue = 4; state = 1; log = 4096; expires = None } ∷ [];
  sources = record { 0 = 0 } ∷ record { 0 = 0 } ∷ [];
  pipes = [];
  timers = [];
  tasks = record { name = codes "sum"; thread = record { 0 = 0 }; limit = 100; code = soak_code } ∷ [];
}

-- the generated job
abbrev pub soak_of : ℕ → JobParts
soak_of number = record { program = soak_program; readings = soak_readings number; charges = soak_charges number; start = None }
