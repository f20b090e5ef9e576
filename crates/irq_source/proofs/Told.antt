-- A source that was told more, or that has lost its registers, stands as before.
use Rattle.irq_source.proofs.Common.{◌≡◌, ℕ, zero, suc, ◌+◌, ◌<◌, ◌≤◌, max, List, [], ◌∷◌, length, slice_index, refl, sym, ap, ◌∙◌, subst, arith, Port, Row, Stage, first_row, SourceSeat, Note, Told, Knows, published_of, released_by_of, calls_of, greater, places_of, queue_of, both_told, view, told_of, out_of, mine_of, next_of, ◌/◌, ◌^◌, IsSameSeat, HearsAsSource, IsPortOf, known, StageKept, Stands}
use Rattle.push_core.specs.declared.stage.Stage.TheVariants as stages
use Rattle.push_core.specs.declared.pusher.Pusher.{Pusher}
use Rattle.irq_source.specs.Account.{Listed, Accounts}
use Rattle.irq_source.specs.kept.Actors.{IsActor, unskipped}
use Rattle.irq_source.proofs.Accounts.{account_goes_on}
use Rattle.irq_source.proofs.Arms.{known_by, src_more, mine_more, port_stays}

-- more is known to be published and released
abbrev more : Knows → ℕ → ℕ → Knows
more s out gone = record { mine = s.mine; next = s.next; tail = s.tail; out = out; gone = gone }

-- each row knows as much then
stage_more : (places src : ℕ) (s : Knows) (out gone a k : ℕ) → s.out ≤ out → s.gone ≤ gone → (st : Stage) → StageKept places src s a k st → StageKept places src (more s out gone) a k st
stage_more places src s out gone a k le_out le_gone stages.LoadSrc h = tt
stage_more places src s out gone a k le_out le_gone (stages.LoadSlots n seen) h = (h.0, h.1, λ e m at lt. let x = h.2 e m at lt in omega arith)
stage_more places src s out gone a k le_out le_gone (stages.LoadAck seen) h = (h.0, h.1, λ e m at. let x = h.2 e m at in omega arith)
stage_more places src s out gone a k le_out le_gone stages.LoadTail h = h
stage_more places src s out gone a k le_out le_gone (stages.LoadSlot p) h = h
stage_more places src s out gone a k le_out le_gone (stages.Publish p) h = (h.0, h.1, h.2, omega (arith, h.3))
stage_more places src s out gone a k le_out le_gone (stages.MoveTail p) h = (h.0, h.1, omega (arith, h.2))
stage_more places src s out gone a k le_out le_gone (stages.HelpTail p) h = (h.0, h.1, omega (arith, h.2))
stage_more places src s out gone a k le_out le_gone stages.StoreSkip h = h
stage_more places src s out gone a k le_out le_gone stages.StoreAccepted h = h

-- so the source stands as before
pub stands_more : (port : Port) (number src : ℕ) (s : Knows) (out gone : ℕ) (row : Row) → s.out ≤ out → s.gone ≤ gone → Stands port number src s row → Stands port number src (more s out gone) row
stands_more port number src s out gone row le_out le_gone h = record {
  row_for = h.row_for;
  src_kept = src_more (more s out gone) refl refl h.src_kept;
  mine_kept = mine_more (more s out gone) refl le_gone (omega arith) h.mine_kept;
  at = stage_more port.queue.places src s out gone row.accepted row.next le_out le_gone row.stage h.at;
}

-- the greater of each
pub at_greater : (xs ys : List ℕ) (t : ℕ) → slice_index (greater xs ys) t ≡ max (slice_index xs t) (slice_index ys t)
at_greater [] ys t = omega arith
at_greater (x ∷ xs) [] t = omega arith
at_greater (x ∷ xs) (y ∷ ys) zero = refl
at_greater (x ∷ xs) (y ∷ ys) (suc t) = at_greater xs ys t

-- the seat has heard a note
pub stands_heard : (port : Port) (number src : ℕ) (note : Note) (old new : SourceSeat) (row : Row) → HearsAsSource note old new → Stands port number src (known (view old) old.source.0) row → Stands port number src (known (view new) new.source.0) row
stands_heard port number src note old new row heard h =
    let i : ℕ = old.source.0 in
    let u : ℕ = queue_of (view old).lay i in
    let told : Told = (view old).told in
    let is : known (view new) new.source.0 ≡ known_by (view old).lay (both_told told (told_of note)) i (calls_of (view old)) = λ j. known_by (heard.place.lay j) (heard.place.told j) (heard.source j).0 (heard.place.calls j) in
    let out = at_greater told.published (told_of note).published u in
    let gone = at_greater told.released (told_of note).released u in
    subst (λ (z : Knows). Stands port number src z row) (sym is)
    (stands_more port number src (known (view old) i)
    (max (slice_index (greater told.published (told_of note).published) u) (published_of (places_of (view old).lay u) (calls_of (view old))))
    (max (slice_index (greater told.released (told_of note).released) u) (released_by_of (places_of (view old).lay u) (calls_of (view old)))) row (omega (arith, out)) (omega (arith, gone)) h)

-- its port is the same
pub port_heard : (port : Port) (note : Note) (old new : SourceSeat) → HearsAsSource note old new → IsPortOf port old → IsPortOf port new
port_heard port note old new heard of = record {
  source = of.source ∙ sym heard.source;
  ring = (λ j. places_of (heard.place.lay j) (queue_of (heard.place.lay j) (heard.source j).0)) ∙ of.ring;
}

-- no fewer positions are known to be published
out_heard : (note : Note) (old new : SourceSeat) → HearsAsSource note old new → out_of (view old) old.source.0 ≤ out_of (view new) new.source.0
out_heard note old new heard =
    let u : ℕ = queue_of (view old).lay old.source.0 in
    let told : Told = (view old).told in
    let is : known (view new) new.source.0 ≡ known_by (view old).lay (both_told told (told_of note)) old.source.0 (calls_of (view old)) = λ j. known_by (heard.place.lay j) (heard.place.told j) (heard.source j).0 (heard.place.calls j) in
    omega (arith, ap (λ (s : Knows). s.out) is, at_greater told.published (told_of note).published u)

-- all registers are lost
pub stands_cut : (port : Port) (number src : ℕ) (s : Knows) (row : Row) → Stands port number src s row → Stands port number src s first_row
stands_cut port number src s row h = record {
  row_for = record { place = h.row_for.place; accepted = omega arith; next = omega arith; stage = tt };
  src_kept = h.src_kept;
  mine_kept = h.mine_kept;
  at = tt;
}

-- at most one refusal isn't skipped
unskipped_most : (st : Stage) → unskipped st ≤ 1
unskipped_most stages.LoadSrc = omega arith
unskipped_most (stages.LoadSlots n seen) = omega arith
unskipped_most (stages.LoadAck seen) = omega arith
unskipped_most stages.LoadTail = omega arith
unskipped_most (stages.LoadSlot p) = omega arith
unskipped_most (stages.Publish p) = omega arith
unskipped_most (stages.MoveTail p) = omega arith
unskipped_most (stages.HelpTail p) = omega arith
unskipped_most stages.StoreSkip = omega arith
unskipped_most stages.StoreAccepted = omega arith

-- what an actor keeps outlasts a note that it hears
pub actor_heard : {pusher : Pusher} {src : ℕ} {old new : SourceSeat} {readings : List ℕ} {lists : Listed} {begun charges : ℕ} (note : Note) → HearsAsSource note old new → IsActor pusher src old readings lists begun charges → IsActor pusher src new readings lists begun charges
actor_heard {pusher} {src} {old} {new} {readings} {lists} {begun} {charges} note heard h = record {
  few = h.few;
  port_is = port_heard pusher.port note old new heard h.port_is;
  stands = stands_heard pusher.port (length readings) src note old new pusher.row heard h.stands;
  account = account_goes_on begun src (known (view new) new.source.0) (omega arith) (ap mine_of heard.place.calls) (ap (max (src / 2 ^ 32)) (ap next_of heard.place.calls)) (out_heard note old new heard) h.account;
  skip = h.skip;
  room = h.room;
}

-- and one that it makes
pub actor_noted : {pusher : Pusher} {src : ℕ} {old new : SourceSeat} {readings : List ℕ} {lists : Listed} {begun charges : ℕ} → IsSameSeat old new → calls_of (view new) ≡ calls_of (view old) → IsActor pusher src old readings lists begun charges → IsActor pusher src new readings lists begun charges
actor_noted {pusher} {src} {old} {new} {readings} {lists} {begun} {charges} same calls h =
    let is : known (view new) new.source.0 ≡ known (view old) old.source.0 = λ j. known_by (same.place.lay j) (same.place.told j) (same.source j).0 (calls j) in
    record {
      few = h.few;
      port_is = port_stays same h.port_is;
      stands = subst (λ (z : Knows). Stands pusher.port (length readings) src z pusher.row) (sym is) h.stands;
      account = subst (λ (z : Knows). Accounts readings pusher.port.queue.places begun src z lists.accepted lists.refused) (sym is) h.account;
      skip = h.skip;
      room = h.room;
    }

-- and a cut
pub actor_cut : {pusher : Pusher} {src : ℕ} {seat : SourceSeat} {readings : List ℕ} {lists : Listed} {begun charges : ℕ} (booted : Pusher) → booted.port ≡ pusher.port → booted.row ≡ first_row → begun < charges → IsActor pusher src seat readings lists begun charges
    → IsActor booted src seat readings lists (begun + 1) charges
actor_cut {pusher} {src} {seat} {readings} {lists} {begun} {charges} booted port row lt h =
    subst (λ (p : Pusher). IsActor p src seat readings lists (begun + 1) charges) (sym (λ j. record { port = port j; row = row j }))
    (record {
      few = h.few;
      port_is = h.port_is;
      stands = stands_cut pusher.port (length readings) src (known (view seat) seat.source.0) pusher.row h.stands;
      account = account_goes_on (begun + 1) src (known (view seat) seat.source.0) (omega arith) refl refl (omega arith) h.account;
      skip = tt;
      room = record { accepted = h.room.accepted; refused = h.room.refused; few = let few = h.room.few in let one = unskipped_most pusher.row.stage in omega arith; charges_left = omega arith };
    })
