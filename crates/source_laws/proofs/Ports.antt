-- The machine's table over addresses is the table over places.
use Rattle.source_laws.proofs.Common.{◌≡◌, ℕ, ◌+◌, ◌%◌, refl, ap, arith, access_of, Row, Stage, LoadSlots, LoadSlot, Publish, at_address, empty_word, event_word, places_for, Board, access, access_at, event_of, port_of}
use Rattle.push_core.specs.Table as table
use Rattle.fram_words.specs.declared.access.Access.TheVariants as fram
use Rattle.fram_words.specs.Places as places
use Rattle.fram_words.specs.Shape.{address}

slot_at : (board : Board) (t n : ℕ) → address board.shape (places.Slot t 0) + n ≡ address board.shape (places.Slot t n)
unfolding address
slot_at board t n = omega arith

pub access_at-port : (board : Board) (i a k : ℕ) (stage : Stage) → table.access_at (port_of board i) (board.readings i) a k stage ≡ at_address board.shape (access_at board i a k stage)
access_at-port board i a k (LoadSlots n seen) = ap (λ x. fram.Load x) (slot_at board (board.queue_of i) n)
access_at-port board i a k (LoadSlot p) = ap (λ x. fram.Load x) (slot_at board (board.queue_of i) (p % places_for board i))
access_at-port board i a k (Publish p) = ap (λ (x : ℕ). fram.Exchange x (empty_word p) (event_word p (event_of board i a k))) (slot_at board (board.queue_of i) (p % places_for board i))
access_at-port board i a k _ = refl

-- the access of a row, at its address
pub access_of-port : (board : Board) (i : ℕ) (row : Row) → access_of (port_of board i) (board.readings i) row ≡ at_address board.shape (access board i row)
access_of-port board i row = access_at-port board i row.accepted row.next row.stage
