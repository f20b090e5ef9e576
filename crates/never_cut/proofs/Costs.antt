-- The costs of two services and the bounds of a program, counted by hand beside the definitions.
use Rattle.never_cut.proofs.Common.{◌≡◌, ℕ, List, [], ◌∷◌, None, refl, Push, Scan, Instr, Li, Add, Divu, Ev, Ld, St, Out, Done, Program, Model, open_model, after}
use Rattle.task_isa.specs.Acts.{act_of}
use Rattle.never_cut.specs.Cost.{cost}
use Rattle.never_cut.specs.Bounds.{boot_bound, round_bound}

-- one thread with a queue of two places, one state number and eight outputs, one source, and a task with this code
abbrev one_task : List Instr → Program
one_task code = record {
  threads = record { name = []; priority = 1; queue = 2; state = 1; log = 8; expires = None } ∷ [];
  sources = record { 0 = 0 } ∷ [];
  pipes = [];
  timers = [];
  tasks = record { name = []; thread = record { 0 = 0 }; limit = 100; code = code } ∷ [];
}

-- a scan has begun, and the thread's queue holds the event of this reading
abbrev with_reading : Program → ℕ → Model
with_reading program value = after program ((value ∷ []) ∷ []) (open_model program) (Push (record { 0 = 0 }) ∷ Scan ∷ [])

-- adds the reading to the state and puts the sum out
abbrev sums : Program
sums = one_task (Li 1 0 ∷ Ld 2 1 ∷ Ev 3 ∷ Add 2 2 3 ∷ St 2 1 ∷ Out 2 ∷ Done ∷ [])

-- 3 accesses for the event, 12 for the seven instructions, 5 for the end, 1 for the commit, and 48 for the copies of three pages
sum_cost : cost sums (with_reading sums 7) 0 ≡ 69
unfolding act_of
sum_cost = refl

-- counts the event and puts the count out, and then divides by the reading
abbrev divides : Program
divides = one_task (Li 1 0 ∷ Ld 2 1 ∷ Li 3 1 ∷ Add 2 2 3 ∷ St 2 1 ∷ Out 2 ∷ Ev 0 ∷ Li 3 100 ∷ Divu 3 3 0 ∷ Out 3 ∷ Done ∷ [])

-- at 0 it traps: twice 3 accesses for the event, 14 for the nine instructions, 5 for the end, 1 for the commit, and 64 for three pages before the trap and one
-- after it
trap_cost : cost divides (with_reading divides 0) 0 ≡ 90
unfolding act_of
trap_cost = refl

boot_is : boot_bound sums ≡ 6
boot_is = refl

-- 7 for the scan, 224 for two copies of seven pages, 600 for the instructions, and 18
round_is : round_bound sums ≡ 849
round_is = refl
