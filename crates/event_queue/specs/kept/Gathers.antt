-- How the views of seats come together in one.
use Rattle.std.specs.Prelude.{◌≡◌, ℕ, ◌≤◌, List, ◌++◌, slice_index}
use mathlib.Core.Option.{some}
use lib.ListN.{get_elem?}
use Rattle.event_queue.specs.declared.view.Role.{Role}
use Rattle.event_queue.specs.declared.view.Role.TheVariants.{Source}
use Rattle.event_queue.specs.declared.view.Call.{Call}
use Rattle.event_queue.specs.declared.view.Told.{Told}
use Rattle.event_queue.specs.declared.view.View.{View}
use Rattle.event_queue.specs.declared.seat.SourceSeat.{SourceSeat}
use Rattle.event_queue.specs.Views.{calls_of, part}
use Rattle.event_queue.specs.Seats.{view}

-- the view has this role's part, with these calls
abbrev pub HasPart : View → Role → List Call → Type 0
HasPart v r calls = (k : ℕ) × (get_elem? v.parts k ≡ some (part r calls))

-- one was told no more than the other
pub record IsToldLess (less more : Told) : Type 0 where
  pub published : (t : ℕ) → slice_index less.published t ≤ slice_index more.published t
  pub released : (t : ℕ) → slice_index less.released t ≤ slice_index more.released t
  pub clock : less.clock ≤ more.clock

-- the parts of the seats are in the view, and it was told what they were, beside what it had
pub record Gathers (seats : List SourceSeat) (old new : View) : Type 0 where
  pub kept : (r : Role) (calls : List Call) → HasPart old r calls → HasPart new r calls
  pub told : IsToldLess old.told new.told
  pub sources : (i : ℕ) (s : SourceSeat) → get_elem? seats i ≡ some s → HasPart new (Source s.source.0) (calls_of (view s))
  pub sources_told : (i : ℕ) (s : SourceSeat) → get_elem? seats i ≡ some s → IsToldLess (view s).told new.told

-- some of the seats are left, and the parts of the others are in the view
pub record Gathering (seats left : List SourceSeat) (old new : View) : Type 0 where
  pub done : List SourceSeat
  pub seats_are : seats ≡ left ++ done
  pub gathers : Gathers done old new
