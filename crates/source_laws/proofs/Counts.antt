-- The positions and the events of a queue fit their bits.
use Rattle.source_laws.proofs.Common.{ℕ, ◌+◌, ◌^◌, ◌<◌, length, arith, Queue, Source, published, event_at, FitsEvent, queued_fits, Board, IsWithin, EventsKept}

-- positions fit their bits
pub positions_fit : (board : Board) (queue : ℕ → Queue) (source : ℕ → Source) (t : ℕ) → IsWithin board → EventsKept board queue source t
    → published (queue t) + board.places t < 2 ^ 21
positions_fit board queue source t w h = omega (arith, h.positions, w.no_more t)

-- the numbers of an event fit their bits
pub event_fits : (board : Board) (queue : ℕ → Queue) (source : ℕ → Source) (t : ℕ) → IsWithin board → EventsKept board queue source t
    → (k : ℕ) → k < length (queue t).held → FitsEvent ((queue t).released + k) (event_at (queue t).held k)
event_fits board queue source t w h k lt =
    let p = positions_fit board queue source t w h in
    queued_fits board.shape.sources board.queue_of t ((queue t).released + k) (event_at (queue t).held k) w.sources (omega (arith, p)) (h.events k lt)
