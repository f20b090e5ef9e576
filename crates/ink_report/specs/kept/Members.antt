-- Members that are put into an object of JSON, which has its keys in ascending order.
use Rattle.std.specs.Prelude.{ℕ, List, Option, Some, None, codes}
use Rattle.serde_json.specs.Data.{number, unsigned, Members, put}
use Rattle.ink_report.specs.declared.charge_bounds.ChargeBounds.{ChargeBounds}

-- with a number at a key
abbrev pub with_number : (key : List ℕ) → ℕ → Members → Members
with_number key n members = put key (number (unsigned n)) members

-- with the two bounds, where they are given
abbrev pub with_bounds : Option ChargeBounds → Members → Members
with_bounds None members = members
with_bounds (Some b) members = with_number (codes "round") b.round (with_number (codes "boot") b.boot members)
