-- The section of the power trace.
use Rattle.std.specs.Prelude.{ℕ, ◌+◌, List, [], ◌∷◌, ◌++◌, length, take, drop, Result, Ok, Err, ◌==◌, nat_le, nat_lt, codes, not, if◌then◌else◌}
use Rattle.std.specs.List.{prefix_len}
use Rattle.ink_base.specs.Lines.{Word, Line}
use Rattle.ink_base.specs.declared.limits.TheConstants as limits
use Rattle.ink_base.specs.declared.actor.Actor.{Actor}
use Rattle.ink_base.specs.declared.fault.Cause.{Cause}
use Rattle.ink_base.specs.declared.fault.Cause.TheVariants.{OverLimit}
use Rattle.ink_base.specs.declared.fault.JobFault.{JobFault}
use Rattle.ink_base.specs.Gives.{◌>>=◌, ◌>>◌, at_line}
use Rattle.ink_base.specs.Checks.{fixed_in, number_in}
use Rattle.ink_text.specs.Words.{words_in, up_to, found}
use Rattle.ink_text.specs.Names.{actor_of}
use Rattle.ink_text.specs.Section.{missing, section_in}
use Rattle.job_parts.specs.declared.item.Item.{Item}
use Rattle.job_parts.specs.declared.charge.Charge.{Charge}
use Rattle.power_trace.specs.declared.charges.Charges.{Charges}
use Rattle.power_trace.specs.declared.charges.Turns.{Turns}
use Rattle.power_trace.specs.declared.tails.Tails.{Tails}
use Rattle.power_trace.specs.Tails.{no_tails, tail_header}

-- an actor of a board of so many sources
abbrev pub known_actor : ℕ → Word → Result Actor Cause
known_actor sources name = found (actor_of sources name)

-- the place of the first `*`, or the length
abbrev pub star_of : Word → ℕ
star_of w = prefix_len (λ b. not (b == 42)) w

-- the count behind a `*`; without one an item has one turn
abbrev pub count_at : Word → ℕ → Result ℕ Cause
count_at w star = if star == length w then Ok 1 else up_to limits.TURNS (drop (star + 1) w)

-- an actor, and a count behind the first `*`
unfoldable pub item_of : ℕ → Word → Result Item Cause
item_of sources w = do
  actor ← known_actor sources (take (star_of w) w)
  count ← count_at w (star_of w)
  Ok (record { actor = actor; count = count })

-- one more item, where the turns of the whole job have room for it
unfoldable pub item_in : ℕ → Turns → Word → Result Turns Cause
item_in sources t w = do
  item ← item_of sources w
  if nat_le (t.turns + item.count) limits.TURNS then Ok (record { items = t.items ++ item ∷ []; turns = t.turns + item.count }) else Err OverLimit

-- room for one more charge
abbrev pub room_in : Charges → Result (Unit {0}) Cause
room_in charges = if nat_lt (length charges.list) limits.CHARGES then Ok tt else Err OverLimit

-- one more charge, at this line
unfoldable pub charge_line : Charges → ℕ → List Word → Result Charges Cause
charge_line charges number ws = do
  rest ← fixed_in (codes "charge") ws
  room ← room_in charges
  off ← number_in 0 limits.TICKS rest
  items ← words_in (item_in charges.sources) (record { items = []; turns = charges.turns }) off.1
  Ok (record charges { list = charges.list ++ record { off = off.0; items = items.items } ∷ []; lines = charges.lines ++ number ∷ []; turns = items.turns })

-- the end of the section behind so many charges: there is one, and no header stands there but that of a section that may follow
unfoldable pub power_end : ℕ → Tails → (charges : ℕ) → List Line → Result (Unit {0}) JobFault
power_end count tails charges [] = if charges == 0 then Err (missing count []) else Ok tt
power_end count tails charges (line ∷ rest) = at_line line.number (tail_header tails charges line.words)

-- no charge on a board of so many sources
abbrev pub no_charges : (sources : ℕ) → Charges
no_charges sources = record { sources = sources; list = []; lines = []; turns = 0 }

-- the charges with their lines, by the lines from the section's header on, and the lines from the next header on; count is the number of all lines
unfoldable pub power_in : ℕ → Tails → (sources : ℕ) → List Line → Result (Charges × List Line) JobFault
power_in count tails sources ls =
    section_in count charge_line (no_charges sources) ls >> (λ x.
    power_end count tails (length x.0.list) x.1 >> (λ e. Ok x))

-- the charges of a section behind which nothing stands
abbrev pub last_power_in : ℕ → (sources : ℕ) → List Line → Result (List Charge) JobFault
last_power_in count sources ls = power_in count no_tails sources ls >> (λ x. Ok x.0.list)
