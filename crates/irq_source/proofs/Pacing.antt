-- How far a source comes by its accesses.
use Rattle.irq_source.proofs.Common.{◌≡◌, ℕ, ◌+◌, ◌/◌, ◌^◌, ◌<◌, ◌≤◌, sym, subst, arith, Port, Row, Stage, first_row, FitsStage, Knows, View, calls_of, places_of, queue_of, known, StageKept, Stands, PacesOne, reach, spent}
use Rattle.push_core.specs.declared.stage.Stage.TheVariants as stages
use Rattle.irq_source.proofs.Slots.{tail_published}
use Rattle.irq_source.specs.kept.Paces.{IsPaced, helps}
use Rattle.irq_source.specs.Pace.{enough_for, KnowsOthers}

-- a cut has just been made
pub paced_first : (places number src : ℕ) (port : Port) (s : Knows) (row : Row) → row ≡ first_row → Stands port number src s row → IsPaced places 0 (src / 2 ^ 32) row.stage src s
paced_first places number src port s row is h = subst (λ (r : Row). IsPaced places 0 (src / 2 ^ 32) r.stage src s) (sym is) (record { helped = 0; accesses = omega arith; tails = omega (arith, h.mine_kept.tails) })

-- one access more
pub paced_then : (places made before src src' : ℕ) (st st' : Stage) (s s' : Knows) → PacesOne places st st' src src' s s' → IsPaced places made before st src s → IsPaced places (made + 1) before st' src' s'
paced_then places made before src src' st st' s s' one h = record {
  helped = h.helped + helps st;
  accesses = omega (arith, one.costs, h.accesses);
  tails = omega (arith, one.advances, h.tails);
}

-- the accesses of the round at hand
spent_most : (port : Port) (number k : ℕ) (st : Stage) → FitsStage port.queue.places number k st → spent port.queue.places st ≤ port.queue.places + 6
spent_most port number k stages.LoadSrc fits = omega arith
spent_most port number k (stages.LoadSlots n seen) fits = let lt : n < port.queue.places = fits in omega (arith, lt)
spent_most port number k (stages.LoadAck seen) fits = omega arith
spent_most port number k stages.LoadTail fits = omega arith
spent_most port number k (stages.LoadSlot p) fits = omega arith
spent_most port number k (stages.Publish p) fits = omega arith
spent_most port number k (stages.MoveTail p) fits = omega arith
spent_most port number k (stages.HelpTail p) fits = omega arith
spent_most port number k stages.StoreSkip fits = omega arith
spent_most port number k stages.StoreAccepted fits = omega arith

-- the positions that a source has come past are published
reach_most : (places src : ℕ) (s : Knows) (a k : ℕ) (st : Stage) → s.tail ≤ s.out → StageKept places src s a k st → reach s.tail st ≤ s.out
reach_most places src s a k stages.LoadSrc le h = le
reach_most places src s a k (stages.LoadSlots n seen) le h = le
reach_most places src s a k (stages.LoadAck seen) le h = le
reach_most places src s a k stages.LoadTail le h = le
reach_most places src s a k (stages.LoadSlot p) le h = omega (arith, h.2)
reach_most places src s a k (stages.Publish p) le h = omega (arith, h.2)
reach_most places src s a k (stages.MoveTail p) le h = omega (arith, h.2)
reach_most places src s a k (stages.HelpTail p) le h = omega (arith, h.2)
reach_most places src s a k stages.StoreSkip le h = le
reach_most places src s a k stages.StoreAccepted le h = le

-- with enough accesses so many readings more are settled
pub enough_settle : (port : Port) (number src made before m others i : ℕ) (v : View) (row : Row) → Stands port number src (known v i) row → IsPaced port.queue.places made before row.stage src (known v i) → enough_for port.queue.places others m ≤ made → KnowsOthers others (known v i)
    → before + m ≤ src / 2 ^ 32
enough_settle port number src made before m others i v row stands paced enough few =
    let shown = tail_published (places_of v.lay (queue_of v.lay i)) (calls_of v) in
    let most = spent_most port number row.next row.stage stands.row_for.stage in
    let come = reach_most port.queue.places src (known v i) row.accepted row.next row.stage (omega (arith, shown)) stands.at in
    omega (arith, paced.accesses, paced.tails, most, come, enough, few)
