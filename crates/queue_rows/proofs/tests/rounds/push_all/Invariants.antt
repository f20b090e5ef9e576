use Rattle.queue_rows.proofs.Common.{◌≡◌, ◌≤◌, length, mine_of, next_of, view, ring_of, IsSeatOf, calls_of}
use Rattle.queue_rows.proofs.tests.rounds.push_all.Given as goal

abbrev pub invariant-loop : goal.invariant-loop
invariant-loop l =
    IsSeatOf l.set l.seat × (ring_of l.seat ≡ l.places) × (l.reading ≤ l.readings) × (next_of (calls_of (view l.seat)) ≤ l.reading) × (length (mine_of (calls_of (view l.seat))) ≡ l.reading)
