-- A step of an actor keeps what it keeps.
use Rattle.irq_source.proofs.Common.{◌≡◌, ℕ, ◌-◌, ◌<◌, List, ◌++◌, length, slice_index, sym, ap, subst, arith, Row, Point, take_of, point_of, SourceSeat, QueueSet, view, known, HasMade, accepts, declines, tail_in}
use Rattle.push_core.specs.declared.point.Point.TheVariants as points
use Rattle.push_core.specs.declared.pusher.Pusher.{Pusher}
use Rattle.irq_source.specs.declared.lists.Published.{Published}
use Rattle.irq_source.specs.declared.lists.Declined.{Declined}
use Rattle.irq_source.specs.Account.{Listed, Accounts}
use Rattle.irq_source.specs.Acting.{IsAccounted, acting}
use Rattle.irq_source.specs.kept.Actors.{IsActor, SkipKept}
use Rattle.irq_source.proofs.Accounts.{account_kept, skip_kept}
use Rattle.irq_source.proofs.Rooms.{few_refused, pushed_fits, refused_fits, accepted_count}

-- the lists have what an access at this point of the journal adds
pub record HasNoted (readings : List ℕ) (charge : ℕ) (row : Row) (point : Point) (old new : Listed) : Type 0 where
  pub accepted : new.accepted ≡ old.accepted ++ accepts charge (tail_in row.stage) row.next (slice_index readings row.next) point
  pub refused : new.refused ≡ old.refused ++ declines charge (tail_in row.stage) row.next point
  pub accepted_room : new.accepted_room ≡ old.accepted_room
  pub refused_room : new.refused_room ≡ old.refused_room

module _ {pusher : Pusher} {src : ℕ} {old : SourceSeat} {readings : List ℕ} {lists : Listed} {begun charges : ℕ} where
  -- there is room for a reading that was pushed
  pub room_pushed : (word : ℕ) → IsActor pusher src old readings lists begun charges → point_of pusher.port.queue.places pusher.row.stage word ≡ points.Pushed → (pusher.row.next < length readings) × (length lists.accepted < lists.accepted_room)
  room_pushed word h is =
      let fits = pushed_fits pusher.row.stage word h.stands is in
      (fits.0, omega (arith, fits.1, accepted_count h.account, h.room.accepted))

  -- and for one that was refused
  pub room_refused : (word : ℕ) → IsActor pusher src old readings lists begun charges → point_of pusher.port.queue.places pusher.row.stage word ≡ points.Refused → length lists.refused < lists.refused_room
  room_refused word h is =
      let fits = refused_fits pusher.row.stage word h.stands is in
      omega (arith, fits.0, fits.1, h.room.few, h.room.refused, h.room.charges_left)

  -- the actor after its access
  pub actor_stepped : {set : QueueSet} {new : SourceSeat} {src' : ℕ} (word : ℕ) (then : Pusher) (lists' : Listed) → 0 < begun → HasMade set pusher.port readings pusher.row src old new word src' → then.port ≡ pusher.port → then.row ≡ take_of pusher.port (length readings) pusher.row word
      → HasNoted readings (begun - 1) pusher.row (point_of pusher.port.queue.places pusher.row.stage word) lists lists' → IsActor pusher src old readings lists begun charges → IsActor then src' new readings lists' begun charges
  actor_stepped {new = new} {src' = src'} word then lists' some made port row noted h =
      subst (λ (p : Pusher). IsActor p src' new readings lists' begun charges) (sym (λ j. record { port = port j; row = row j }))
      (record {
        few = h.few;
        port_is = made.port_is;
        stands = made.stands;
        account = subst (λ (z : List Published × List Declined). Accounts readings pusher.port.queue.places begun src' (known (view new) new.source.0) z.0 z.1) (sym (λ j. (noted.accepted j, noted.refused j)))
            (account_kept pusher.row.stage made h.stands (let lt : begun - 1 < begun = omega arith in lt) h.skip h.account);
        skip = subst (SkipKept (take_of pusher.port (length readings) pusher.row word).stage (take_of pusher.port (length readings) pusher.row word).next) (sym noted.refused)
            (skip_kept pusher.port (length readings) (begun - 1) pusher.row.stage pusher.row.accepted pusher.row.next word lists.refused);
        room = record {
          accepted = omega (arith, h.room.accepted, noted.accepted_room);
          refused = omega (arith, h.room.refused, noted.refused_room);
          few = let few = few_refused begun (begun - 1) lists.refused pusher.row.stage made h.stands h.room.few in omega (arith, ap length noted.refused);
          charges_left = h.room.charges_left;
        };
      })

-- the account of an actor
pub actor_accounted : {pusher : Pusher} {src : ℕ} {seat : SourceSeat} {readings : List ℕ} {lists : Listed} {begun charges : ℕ} → IsActor pusher src seat readings lists begun charges → IsAccounted (acting pusher src seat readings lists begun charges)
actor_accounted h = record { port = h.port_is; lists = h.account; src = h.stands.src_kept; mine = h.stands.mine_kept }
