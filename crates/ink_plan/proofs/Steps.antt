-- What one instruction of a task takes, where it goes, and whether it traps.
use Rattle.std.proofs.Common.{◌≡◌, ℕ, ◌+◌, ◌/◌, ◌<◌, ◌≤◌, Bool, true, false, ◌&&◌, ◌||◌, not, cond, [], ◌∷◌, length, None, refl, arith, eq-eqb, nat_lt, ltb-true, length-set}
use Rattle.std.specs.Prelude.{◌==◌, if◌then◌else◌}
use Rattle.fram_words.specs.Header as header
use Rattle.task_isa.specs.declared.instr.Instr.{Instr}
use Rattle.task_isa.specs.declared.instr.Instr.TheVariants.{Divu, Remu, Jmp, Jz, Jnz, Ld, St, Out, Send, Arm, Stop, Next, Done}
use Rattle.task_isa.specs.declared.act.Act.{Act}
use Rattle.task_isa.specs.declared.act.Act.TheVariants.{Sets, Goes, Loads, Saves, Puts, Sends, Arms, Stops, Continues, Ends, Traps}
use Rattle.task_isa.specs.declared.outcome.Outcome.{Outcome}
use Rattle.task_isa.specs.declared.outcome.Outcome.TheVariants as outcomes
use Rattle.task_isa.specs.declared.outcome.TrapCode.TheVariants.{Divisor}
use Rattle.task_isa.specs.declared.program.Program.{Program}
use Rattle.task_isa.specs.declared.program.Task.{Task}
use Rattle.task_isa.specs.Acts.{Given, Cpu, act_of, reg, divided}
use Rattle.task_isa.specs.Meaning.{Config, Effects, Room, Stepped, GoesOn, IsOver, HasTrapped, execute, has_room}
use Rattle.prog_check.specs.Accepted.{IsRightInstr, ends_code}
use Rattle.never_cut.specs.Cost.{Spent, reads, acting}
use Rattle.ink_plan.specs.Code.{weight, target_of, is_target, may_trap}
use Rattle.ink_plan.proofs.Pages.{LieWithin}

-- the most that an act takes, with the fetch
abbrev act_weight : Act → ℕ
act_weight (Sends q a v) = 6
act_weight (Puts v) = 4
act_weight (Arms j delay period) = 3
act_weight (Loads a n) = 2
act_weight (Saves n v) = 2
act_weight (Stops j) = 2
act_weight _ = 1

takes_either : (b : Bool) (x y : Spent) (most : ℕ) → x.accesses ≤ most → y.accesses ≤ most → (if b then x else y).accesses ≤ most
takes_either true x y most first second = first
takes_either false x y most first second = second

act_takes : (act : Act) (room : Room) (e : Effects) → 1 + (acting act room e).accesses ≤ act_weight act
act_takes (Sets a v) room e = omega arith
act_takes (Goes offset) room e = omega arith
act_takes (Loads a n) room e = let few = takes_either (nat_lt n (length e.state)) (reads 1) (reads 0) 1 (omega arith) (omega arith) in omega arith
act_takes (Saves n v) room e =
    let few = takes_either (nat_lt n (length e.state)) (record { accesses = 1; writes = header.state n ∷ [] }) (reads 0) 1 (omega arith) (omega arith) in omega arith
act_takes (Puts v) room e =
    let few = takes_either (nat_lt (length e.outs) room.log) (record { accesses = 3; writes = header.outputs ∷ [] }) (reads 1) 3 (omega arith) (omega arith) in omega arith
act_takes (Sends q a v) room e =
    let few = takes_either (has_room room q e.sends) (record { accesses = 5; writes = header.written q ∷ [] }) (reads 3) 5 (omega arith) (omega arith) in omega arith
act_takes (Arms j delay period) room e = omega arith
act_takes (Stops j) room e = omega arith
act_takes (Continues x) room e = omega arith
act_takes Ends room e = omega arith
act_takes (Traps code) room e = omega arith

divided_weight : (n a v : ℕ) → act_weight (divided n (Sets a v)) ≤ 1
divided_weight n a v = by_zero (n == 0)
  where
    by_zero : (b : Bool) → act_weight (cond b (Traps Divisor) (Sets a v)) ≤ 1
    by_zero true = omega arith
    by_zero false = omega arith

instr_weighs : (instr : Instr) (given : Given) (cpu : Cpu) → act_weight (act_of instr given cpu) ≤ weight instr
unfolding act_of
instr_weighs (Divu a b c) given cpu = divided_weight (reg cpu c) a _
instr_weighs (Remu a b c) given cpu = divided_weight (reg cpu c) a _
instr_weighs _ given cpu = omega arith

-- an instruction takes its weight at most
pub instr_takes : (instr : Instr) (given : Given) (room : Room) (c : Config) → 1 + (acting (act_of instr given c.cpu) room c.effects).accesses ≤ weight instr
instr_takes instr given room c = let acts = act_takes (act_of instr given c.cpu) room c.effects in let few = instr_weighs instr given c.cpu in omega arith

-- what is so of the configuration that a step goes on with
abbrev pub GoesBy : (Config → Type 0) → Stepped → Type 0
GoesBy P (GoesOn next) = P next
GoesBy P (IsOver outcome) = Unit {0}
GoesBy P (HasTrapped code) = Unit {0}

goes_either : (P : Config → Type 0) (b : Bool) (x y : Stepped) → GoesBy P x → GoesBy P y → GoesBy P (cond b x y)
goes_either P true x y first second = first
goes_either P false x y first second = second

-- the state keeps its length
pub state_stays : (act : Act) (given : Given) (room : Room) (c : Config) → GoesBy (λ (next : Config). length next.effects.state ≡ length c.effects.state) (execute act given room c)
state_stays (Sets a v) given room c = refl
state_stays (Goes offset) given room c = refl
state_stays (Loads a n) given room c = goes_either (λ (next : Config). length next.effects.state ≡ length c.effects.state) (nat_lt n (length c.effects.state)) _ _ refl tt
state_stays (Saves n v) given room c =
    goes_either (λ (next : Config). length next.effects.state ≡ length c.effects.state) (nat_lt n (length c.effects.state)) _ _ (length-set c.effects.state n v) tt
state_stays (Puts v) given room c = goes_either (λ (next : Config). length next.effects.state ≡ length c.effects.state) (nat_lt (length c.effects.outs) room.log) _ _ refl tt
state_stays (Sends q a v) given room c = goes_either (λ (next : Config). length next.effects.state ≡ length c.effects.state) (has_room room q c.effects.sends) _ _ refl refl
state_stays (Arms j delay period) given room c = refl
state_stays (Stops j) given room c = refl
state_stays (Continues x) given room c = tt
state_stays Ends given room c = tt
state_stays (Traps code) given room c = tt

-- behind an instruction of the code the run goes on where it may
abbrev pub MayGo : (at : ℕ) → Instr → Config → Type 0
MayGo at instr next = ((not (ends_code instr) && (next.cpu.at == at + 1)) || is_target (target_of instr) next.cpu.at) ≡ true

on : (at : ℕ) → ((at == at) || false) ≡ true
on at = rw (eq-eqb at at refl) refl

onward : (at : ℕ) (b : Bool) → ((at == at) || b) ≡ true
onward at b = rw (eq-eqb at at refl) refl

there : (at next : ℕ) → ((next == at) || (next == next)) ≡ true
there at next = rw (eq-eqb next next refl) (by_first (next == at))
  where
    by_first : (b : Bool) → (b || true) ≡ true
    by_first true = refl
    by_first false = refl

divided_goes : (n a v at : ℕ) (instr : Instr) (given : Given) (room : Room) (c : Config) → ends_code instr ≡ false → target_of instr ≡ None → GoesBy (MayGo c.cpu.at instr) (execute (divided n (Sets a v)) given room c)
divided_goes n a v at instr given room c falls jumps = by_zero (n == 0)
  where
    by_zero : (b : Bool) → GoesBy (MayGo c.cpu.at instr) (execute (cond b (Traps Divisor) (Sets a v)) given room c)
    by_zero true = tt
    by_zero false = rw (falls, jumps) (on (c.cpu.at + 1))

-- a jump that is made or not
jumps_by : (P : Config → Type 0) (c : Config) (b : Bool) (first second : ℕ) → P (record { cpu = record c.cpu { at = first }; effects = c.effects }) → P (record { cpu = record c.cpu { at = second }; effects = c.effects }) →
    P (record { cpu = record c.cpu { at = cond b first second }; effects = c.effects })
jumps_by P c true first second one two = one
jumps_by P c false first second one two = two

pub next_follows : (instr : Instr) (given : Given) (room : Room) (c : Config) → GoesBy (MayGo c.cpu.at instr) (execute (act_of instr given c.cpu) given room c)
unfolding act_of
next_follows (Divu a b r) given room c = divided_goes (reg c.cpu r) a _ c.cpu.at (Divu a b r) given room c refl refl
next_follows (Remu a b r) given room c = divided_goes (reg c.cpu r) a _ c.cpu.at (Remu a b r) given room c refl refl
next_follows (Jmp i) given room c = eq-eqb i i refl
next_follows (Jz a i) given room c = jumps_by (MayGo c.cpu.at (Jz a i)) c (reg c.cpu a == 0) i (c.cpu.at + 1) (there (c.cpu.at + 1) i) (onward (c.cpu.at + 1) _)
next_follows (Jnz a i) given room c = jumps_by (MayGo c.cpu.at (Jnz a i)) c (reg c.cpu a == 0) (c.cpu.at + 1) i (onward (c.cpu.at + 1) _) (there (c.cpu.at + 1) i)
next_follows (Ld a b) given room c = goes_either (MayGo c.cpu.at (Ld a b)) (nat_lt (reg c.cpu b) (length c.effects.state)) _ _ (on (c.cpu.at + 1)) tt
next_follows (St a b) given room c = goes_either (MayGo c.cpu.at (St a b)) (nat_lt (reg c.cpu b) (length c.effects.state)) _ _ (on (c.cpu.at + 1)) tt
next_follows (Out a) given room c = goes_either (MayGo c.cpu.at (Out a)) (nat_lt (length c.effects.outs) room.log) _ _ (on (c.cpu.at + 1)) tt
next_follows (Send i a b) given room c = goes_either (MayGo c.cpu.at (Send i a b)) (has_room room i c.effects.sends) _ _ (on (c.cpu.at + 1)) (on (c.cpu.at + 1))
next_follows (Next i) given room c = tt
next_follows Done given room c = tt
next_follows _ given room c = on (c.cpu.at + 1)

-- an end that is no trap
abbrev pub IsNoTrap : Outcome → Type 0
IsNoTrap (outcomes.Next task) = Unit {0}
IsNoTrap outcomes.Done = Unit {0}
IsNoTrap (outcomes.Trap code) = ⊥

-- a step doesn't trap
abbrev pub GoesWell : Stepped → Type 0
GoesWell (GoesOn next) = Unit {0}
GoesWell (IsOver outcome) = IsNoTrap outcome
GoesWell (HasTrapped code) = ⊥

well_either : (b : Bool) (x y : Stepped) → GoesWell x → GoesWell y → GoesWell (cond b x y)
well_either true x y first second = first
well_either false x y first second = second

pub step_well : (instr : Instr) (given : Given) (room : Room) (c : Config) → may_trap instr ≡ false → GoesWell (execute (act_of instr given c.cpu) given room c)
unfolding act_of
step_well (Divu a b r) given room c safe = absurd cc
step_well (Remu a b r) given room c safe = absurd cc
step_well (Ld a b) given room c safe = absurd cc
step_well (St a b) given room c safe = absurd cc
step_well (Out a) given room c safe = absurd cc
step_well (Send i a b) given room c safe = well_either (has_room room i c.effects.sends) _ _ tt tt
step_well _ given room c safe = tt

-- the pages of an instruction's writes are those of the block
within_either : (b : Bool) (x y : Spent) (pages : ℕ) → (b ≡ true → LieWithin pages x.writes) → LieWithin pages y.writes → LieWithin pages (if b then x else y).writes
within_either true x y pages first second = first refl
within_either false x y pages first second = second

-- pages enough for the header and for a state of so many numbers
abbrev pub block_of : (size : ℕ) → ℕ
block_of size = 6 + (size + 7) / 8

divided_within : (n a v pages : ℕ) (room : Room) (e : Effects) → LieWithin pages (acting (divided n (Sets a v)) room e).writes
divided_within n a v pages room e = by_zero (n == 0)
  where
    by_zero : (b : Bool) → LieWithin pages (acting (cond b (Traps Divisor) (Sets a v)) room e).writes
    by_zero true = tt
    by_zero false = tt

pub step_within : (program : Program) (task : Task) (instr : Instr) (given : Given) (room : Room) (c : Config) (size : ℕ) → length program.pipes ≤ 8 → length program.timers ≤ 8 →
    IsRightInstr program task instr → length c.effects.state ≡ size → LieWithin (block_of size) (acting (act_of instr given c.cpu) room c.effects).writes
unfolding act_of
step_within program task (Divu a b r) given room c size pipes timers right is = divided_within (reg c.cpu r) a _ (block_of size) room c.effects
step_within program task (Remu a b r) given room c size pipes timers right is = divided_within (reg c.cpu r) a _ (block_of size) room c.effects
step_within program task (Ld a b) given room c size pipes timers right is = within_either (nat_lt (reg c.cpu b) (length c.effects.state)) (reads 1) (reads 0) (block_of size) (λ _. tt) tt
step_within program task (St a b) given room c size pipes timers right is =
    within_either (nat_lt (reg c.cpu b) (length c.effects.state)) (record { accesses = 1; writes = header.state (reg c.cpu b) ∷ [] }) (reads 0) (block_of size)
    (λ less. (let inside : reg c.cpu b < length c.effects.state = ltb-true _ _ less in omega arith, tt)) tt
step_within program task (Out a) given room c size pipes timers right is =
    within_either (nat_lt (length c.effects.outs) room.log) (record { accesses = 3; writes = header.outputs ∷ [] }) (reads 1) (block_of size) (λ _. (omega arith, tt)) tt
step_within program task (Send i a b) given room c size pipes timers right is =
    within_either (has_room room i c.effects.sends) (record { accesses = 5; writes = header.written i ∷ [] }) (reads 3) (block_of size) (λ _. (let known = right.0 in omega arith, tt)) tt
step_within program task (Arm i a b) given room c size pipes timers right is = let known = right.0 in (omega arith, (omega arith, tt))
step_within program task (Stop i) given room c size pipes timers right is = let known = right.0 in (omega arith, tt)
step_within program task _ given room c size pipes timers right is = tt
