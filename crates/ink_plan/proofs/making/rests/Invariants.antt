use Rattle.std.proofs.Common.{◌≡◌, ℕ, ◌+◌, ◌*◌, ◌<◌, ◌≤◌, true, length}
use Rattle.std.specs.Prelude.{slice_index}
use Rattle.ink_plan.specs.Plans.{is_rest}
use Rattle.ink_plan.proofs.making.rests.Given as goal

abbrev pub invariant-loop-behind : goal.invariant-loop-behind
invariant-loop-behind l =
    record {
      long : length l.rest ≡ l.count;
      right : (at : ℕ) → l.count ≤ at + l.behind → at < l.count → is_rest l.task l.rest at ≡ true;
      few : (at : ℕ) → slice_index l.rest at ≤ 6 * l.behind;
    }
