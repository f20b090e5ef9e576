-- Each access of a source leaves it where its table leads.
use Rattle.irq_source.proofs.Common.{◌≡◌, ◌≢◌, ◌⊎◌, inl, inr, ⊎_elim, ℕ, suc, ◌+◌, ◌-◌, ◌/◌, ◌%◌, ◌^◌, ◌<◌, ◌≤◌, ◌==◌, ◌&&◌, ◌||◌, max, cond, nat_lt, Bool, true, false, List, [], ◌∷◌, ◌++◌, length, length-append, slice_index, refl, sym, ap, ◌∙◌, subst, arith, eqb-true, eq-eqb, ne_eqb, mod-lt, cases_lt, cases_eq, nat_tests, some, get_elem?, snoc_cases, Port, Row, Stage, empty_word, slot_in, row_at, take_of, point_of, shows_own, after_slot, FitsStage, IsRowFor, IsAnswer, IsLeft, src_word, Call, LoadTail, LoadSlot, Publish, HelpTail, LoadAck, Lay, Told, QueueSet, SourceSeat, IsTail, IsAck, ShowsSlot, Won, won, Knows, mine_of, next_of, tail_of, published_of, released_by_of, published_by, released_by, calls_of, places_of, queue_of, out_of, gone_of, view, ring_of, IsSeatOf, IsSameSeat, known, Added, SrcKept, MineKept, IsInSrc, StageKept, Stands, IsPortOf, IsReady, HasMade, Finds, tail_in, PacesOne}
use Rattle.push_core.specs.declared.stage.Stage.TheVariants as stages
use Rattle.push_core.specs.declared.point.Point.TheVariants as points
use Rattle.irq_source.proofs.Basics.{at_longer, same_count, or_left, or_right, and_left, and_right}
use Rattle.irq_source.proofs.Boots.{ack_behind, ack_shows, few_below}
use Rattle.irq_source.proofs.Slots.{SlotTells, Older, Free, Past, slot_tells, slot_past, boot_slot, own_behind, free_shows, free_out}

-- what is known by these calls
abbrev pub known_by : Lay → Told → ℕ → List Call → Knows
known_by lay told i calls = record {
  mine = mine_of calls;
  next = next_of calls;
  tail = tail_of calls;
  out = max (slice_index told.published (queue_of lay i)) (published_of (places_of lay (queue_of lay i)) calls);
  gone = max (slice_index told.released (queue_of lay i)) (released_by_of (places_of lay (queue_of lay i)) calls);
}

-- after one call more
abbrev after_call : SourceSeat → Call → Knows
after_call old call = known_by (view old).lay (view old).told old.source.0 (call ∷ calls_of (view old))

known_new : (old new : SourceSeat) (call : Call) → IsSameSeat old new → calls_of (view new) ≡ call ∷ calls_of (view old) → known (view new) new.source.0 ≡ after_call old call
known_new old new call same is = λ j. known_by (same.place.lay j) (same.place.told j) (same.source j).0 (is j)

-- a seat stays one of its set, with its port
pub seat_stays : (set : QueueSet) {old new : SourceSeat} → IsSameSeat old new → IsSeatOf set old → IsSeatOf set new
seat_stays set same of = (same.place.table ∙ of.0, same.place.lay ∙ of.1)

pub port_stays : {port : Port} {old new : SourceSeat} → IsSameSeat old new → IsPortOf port old → IsPortOf port new
port_stays same of = record {
  source = of.source ∙ sym same.source;
  ring = (λ j. places_of (same.place.lay j) (queue_of (same.place.lay j) (same.source j).0)) ∙ of.ring;
}

-- more was shown, and nothing was published
pub src_more : {number a k : ℕ} {s : Knows} (s' : Knows) → s'.mine ≡ s.mine → s'.next ≡ s.next → SrcKept number a k s → SrcKept number a k s'
src_more s' mine next h = record {
  ordered = h.ordered;
  within = h.within;
  least = omega (arith, h.least, ap length mine);
  most = omega (arith, h.most, ap length mine);
  settled = λ e. let x = h.settled (sym (ap length mine) ∙ e) in omega (arith, next);
  behind = λ e. let x = h.behind (sym (ap length mine) ∙ e) in (next ∙ x.0, x.1);
}

pub mine_more : {places : ℕ} {s : Knows} (s' : Knows) → s'.mine ≡ s.mine → s.gone ≤ s'.gone → s.tail ≤ s'.tail → MineKept places s → MineKept places s'
mine_more {places} {s} s' mine gone tail h =
    subst (λ (ms : List Won). MineKept places (record { mine = ms; next = s'.next; tail = s'.tail; out = s'.out; gone = s'.gone })) (sym mine)
    (record { rises = h.rises; recent = λ k m at. omega (arith, h.recent k m at); tails = omega (arith, h.tails) })

-- the numbers of a row stay in their ranges
row_stays : (port : Port) (number a k : ℕ) (st : Stage) → IsRowFor port number (row_at a k st) → (st' : Stage) → FitsStage port.queue.places number k st' → IsRowFor port number (row_at a k st')
row_stays port number a k st h st' fits = record { place = h.place; accepted = h.accepted; next = h.next; stage = fits }

-- a reading is left
left_is : (number a k : ℕ) → IsLeft number (row_at a k stages.LoadTail) → k < number
left_is number a k h = grind (arith, nat_tests)

-- a call that publishes nothing shows more
record IsQuiet (s s' : Knows) : Type 0 where
  pub mine : s'.mine ≡ s.mine
  pub next : s'.next ≡ s.next
  pub tail : s.tail ≤ s'.tail
  pub out : s.out ≤ s'.out
  pub gone : s.gone ≤ s'.gone

-- it adds nothing
added_more : (s s' : Knows) → IsQuiet s s' → Added s s'
added_more s s' q = record {
  kept = λ k m at. ap (λ (ms : List Won). get_elem? ms k) q.mine ∙ at;
  new_ones = λ k m at. inl (ap (λ (ms : List Won). get_elem? ms k) (sym q.mine) ∙ at);
  out = q.out;
  gone = q.gone;
  others = omega (arith, q.out, ap length q.mine);
}

-- nothing is added
pub added_none : (s : Knows) → Added s s
added_none s = record { kept = λ k m at. at; new_ones = λ k m at. inl at; out = omega arith; gone = omega arith; others = omega arith }

-- one after the other
pub added_then : (s t u : Knows) → Added s t → Added t u → Added s u
added_then s t u a b = record {
  kept = λ k m at. b.kept k m (a.kept k m at);
  new_ones = λ k m at. ⊎_elim (λ (before : get_elem? t.mine k ≡ some m). a.new_ones k m before) (λ (new : t.out ≤ m.position). inr (omega (arith, a.out))) (b.new_ones k m at);
  out = omega (arith, a.out, b.out);
  gone = omega (arith, a.gone, b.gone);
  others = omega (arith, a.others, b.others);
}

-- SRC's numbers are those of the row
src_here : (number src a k : ℕ) (s : Knows) → IsInSrc src a k → SrcKept number (src % 2 ^ 32) (src / 2 ^ 32) s → SrcKept number a k s
src_here number src a k s is h = subst (λ (z : ℕ × ℕ). SrcKept number z.0 z.1 s) (λ j. (is.accepted j, is.next j)) h

-- what an access adds to the journal, by its test
refuse_point : (b : Bool) → b ≡ false → cond b points.Refused points.Nothing ≢ points.Refused
refuse_point b is e = let no : points.Nothing ≡ points.Refused = sym (ap (λ (c : Bool). cond c points.Refused points.Nothing) is) ∙ e in absurd cc

push_point : (b : Bool) → cond b points.Pushed points.Nothing ≢ points.Refused
push_point true e = absurd cc
push_point false e = absurd cc

-- the seat has made one call more
abbrev pub Called : (old new : SourceSeat) → Call → Type 0
Called old new call = IsSameSeat old new × (calls_of (view new) ≡ call ∷ calls_of (view old))

module _ {set : QueueSet} {port : Port} {readings : List ℕ} {a k src : ℕ} {old new : SourceSeat} where
  -- the source stands at another stage, once its seat has made a call that publishes nothing
  goes_on : (st st' : Stage) (call : Call) (w : ℕ) → IsReady set port readings (row_at a k st) src old → Called old new call → IsQuiet (known (view old) old.source.0) (after_call old call)
      → Finds port readings a k src st w (calls_of (view old)) src (call ∷ calls_of (view old)) → IsAnswer (length readings) st w → take_of port (length readings) (row_at a k st) w ≡ row_at a k st'
      → (point_of port.queue.places st w ≡ points.Refused → gone_of (view old) old.source.0 + port.queue.places ≤ tail_in st) → PacesOne port.queue.places st st' src src (known (view old) old.source.0) (after_call old call)
      → FitsStage port.queue.places (length readings) k st' → StageKept port.queue.places src (after_call old call) a k st' → HasMade set port readings (row_at a k st) src old new w src
  goes_on st st' call w ready called quiet found answer takes refuses paces fits at =
      let s' : Knows = after_call old call in
      let is = known_new old new call called.0 called.1 in
      let h = ready.stands in
      record {
        of = seat_stays set called.0 ready.of;
        port_is = port_stays called.0 ready.port_is;
        found = subst (λ (cs : List Call). Finds port readings a k src st w (calls_of (view old)) src cs) (sym called.1) found;
        answer = answer;
        refuses = refuses;
        added = subst (λ (z : Knows). Added (known (view old) old.source.0) z) (sym is) (added_more (known (view old) old.source.0) s' quiet);
        paces = subst (λ (z : Knows × Row). PacesOne port.queue.places st z.1.stage src src (known (view old) old.source.0) z.0) (sym (λ j. (is j, takes j))) paces;
        stands = subst (λ (z : Knows × Row). Stands port (length readings) src z.0 z.1) (sym (λ j. (is j, takes j)))
            (record { row_for = row_stays port (length readings) a k st h.row_for st' fits; src_kept = src_more s' quiet.mine quiet.next h.src_kept; mine_kept = mine_more s' quiet.mine quiet.gone quiet.tail h.mine_kept; at = at });
      }

  pub made_tail : (w : ℕ) → IsReady set port readings (row_at a k stages.LoadTail) src old → Called old new (LoadTail w) → IsTail (tail_of (calls_of (view old))) (out_of (view old) old.source.0) w → HasMade set port readings (row_at a k stages.LoadTail) src old new w src
  made_tail w ready called shows =
      let at = ready.stands.at in
      goes_on stages.LoadTail (stages.LoadSlot w) (LoadTail w) w ready called (record { mine = refl; next = refl; tail = omega arith; out = omega arith; gone = omega arith }) (refl, refl) shows.range refl (λ e. absurd cc)
      (record { costs = omega arith; advances = omega (arith, shows.later) }) (left_is (length readings) a k ready.left, shows.range) (at.0, at.1, omega arith)

  pub made_move : (w p : ℕ) → IsReady set port readings (row_at a k (stages.MoveTail p)) src old → Called old new (HelpTail p w) → p < tail_of (HelpTail p w ∷ calls_of (view old)) → HasMade set port readings (row_at a k (stages.MoveTail p)) src old new w src
  made_move w p ready called moved =
      let at = ready.stands.at in
      let fits = ready.stands.row_for.stage in
      goes_on (stages.MoveTail p) stages.StoreAccepted (HelpTail p w) w ready called (record { mine = refl; next = refl; tail = omega arith; out = omega arith; gone = omega arith }) (refl, refl) tt refl (λ e. absurd cc)
      (record { costs = omega arith; advances = omega (arith, moved) }) fits.0 (at.0, at.1)

  pub made_help : (w p : ℕ) → IsReady set port readings (row_at a k (stages.HelpTail p)) src old → Called old new (HelpTail p w) → p < tail_of (HelpTail p w ∷ calls_of (view old)) → HasMade set port readings (row_at a k (stages.HelpTail p)) src old new w src
  made_help w p ready called moved =
      let at = ready.stands.at in
      goes_on (stages.HelpTail p) stages.LoadTail (HelpTail p w) w ready called (record { mine = refl; next = refl; tail = omega arith; out = omega arith; gone = omega arith }) (refl, refl) tt refl (λ e. absurd cc)
      (record { costs = omega arith; advances = omega (arith, moved) }) tt (at.0, at.1)

  pub made_slot : (w p : ℕ) → IsReady set port readings (row_at a k (stages.LoadSlot p)) src old → Called old new (LoadSlot (p % port.queue.places) w) → ShowsSlot (view old) old.source.0 (p % port.queue.places) w → HasMade set port readings (row_at a k (stages.LoadSlot p)) src old new w src
  made_slot w p ready called shows =
      let at = ready.stands.at in
      let fits = ready.stands.row_for.stage in
      by_told (slot_tells (view old) old.source.0 port.queue.places p w ready.port_is.ring ready.stands.row_for.place.some at.2 fits.1 shows)
    where
      call : Call
      call = LoadSlot (p % port.queue.places) w

      goes : (st' : Stage) → after_slot port.queue.places p (slot_in w) ≡ st' → (point_of port.queue.places (stages.LoadSlot p) w ≡ points.Refused → gone_of (view old) old.source.0 + port.queue.places ≤ p)
          → PacesOne port.queue.places (stages.LoadSlot p) st' src src (known (view old) old.source.0) (after_call old call) → FitsStage port.queue.places (length readings) k st' → StageKept port.queue.places src (after_call old call) a k st' → HasMade set port readings (row_at a k (stages.LoadSlot p)) src old new w src
      goes st' is refuses paces fits at =
          goes_on (stages.LoadSlot p) st' call w ready called (record { mine = refl; next = refl; tail = omega arith; out = omega arith; gone = omega arith }) (refl, refl) tt (ap (row_at a k) is) refuses paces fits at

      by_told : SlotTells port.queue.places (gone_of (view old) old.source.0) p w → HasMade set port readings (row_at a k (stages.LoadSlot p)) src old new w src
      by_told (Older is past) =
          let at = ready.stands.at in
          goes stages.StoreSkip is (λ e. past) (record { costs = omega arith; advances = omega (arith, at.2) }) ready.stands.row_for.stage.0 (at.0, at.1)
      by_told (Free is apart near) =
          let at = ready.stands.at in
          goes (stages.Publish p) is (λ e. absurd (refuse_point _ apart e)) (record { costs = omega arith; advances = omega arith }) ready.stands.row_for.stage (at.0, at.1, at.2, omega (arith, near, ap (λ (n : ℕ). released_by n (slot_in w)) ready.port_is.ring))
      by_told (Past is apart shown) =
          let at = ready.stands.at in
          goes (stages.HelpTail p) is (λ e. absurd (refuse_point _ apart e)) (record { costs = omega arith; advances = omega arith }) ready.stands.row_for.stage (at.0, at.1, omega (arith, shown, ap (λ (n : ℕ). published_by n (slot_in w)) ready.port_is.ring))

  pub made_boot_slot : (w n : ℕ) (seen : Bool) → IsReady set port readings (row_at a k (stages.LoadSlots n seen)) src old → Called old new (LoadSlot n w) → ShowsSlot (view old) old.source.0 n w → HasMade set port readings (row_at a k (stages.LoadSlots n seen)) src old new w src
  made_boot_slot w n seen ready called shows = by_last (nat_lt (n + 1) port.queue.places) refl
    where
      own : Bool
      own = seen || shows_own port.source a (slot_in w)

      now : own ≡ true → length (mine_of (calls_of (view old))) ≡ a + 1
      now is = by_seen seen refl
        where
          by_seen : (b : Bool) → seen ≡ b → length (mine_of (calls_of (view old))) ≡ a + 1
          by_seen true e = ready.stands.at.1 e
          by_seen false e =
              let h = src_here (length readings) src a k (known (view old) old.source.0) ready.stands.at.0 ready.stands.src_kept in
              let shown : shows_own port.source a (slot_in w) ≡ true = sym (ap (λ (b : Bool). b || shows_own port.source a (slot_in w)) e) ∙ is in
              own_behind (view old) old.source.0 port.queue.places n w a (length readings) port.source (ap (λ z. z.0) ready.port_is.source) ready.stands.row_for.place.no_more ready.stands.mine_kept h.least h.most shows shown

      past : own ≡ false → (m : Won) → get_elem? (mine_of (calls_of (view old))) a ≡ some m → m.position % port.queue.places < n + 1 → m.position < (after_call old (LoadSlot n w)).gone
      past is m at lt =
          elim (cases_lt (m.position % port.queue.places) n) [
            | inl before ↦ let x = ready.stands.at.2 (or_left seen _ is) m at before in omega arith
            | inr here ↦
                let x = boot_slot (view old) old.source.0 port.queue.places n w a port.source m (ap (λ z. z.0) ready.port_is.source) ready.port_is.ring at (omega arith) (ready.stands.mine_kept.recent a m at) shows (or_right seen _ is) in
                omega (arith, x, ap (λ (k : ℕ). released_by k (slot_in w)) ready.port_is.ring)
          ]

      goes : (st' : Stage) → take_of port (length readings) (row_at a k (stages.LoadSlots n seen)) w ≡ row_at a k st' → PacesOne port.queue.places (stages.LoadSlots n seen) st' src src (known (view old) old.source.0) (after_call old (LoadSlot n w))
          → FitsStage port.queue.places (length readings) k st' → StageKept port.queue.places src (after_call old (LoadSlot n w)) a k st' → HasMade set port readings (row_at a k (stages.LoadSlots n seen)) src old new w src
      goes st' takes paces fits at =
          goes_on (stages.LoadSlots n seen) st' (LoadSlot n w) w ready called (record { mine = refl; next = refl; tail = omega arith; out = omega arith; gone = omega arith }) (refl, refl) tt takes (λ e. absurd cc) paces fits at

      by_last : (b : Bool) → nat_lt (n + 1) port.queue.places ≡ b → HasMade set port readings (row_at a k (stages.LoadSlots n seen)) src old new w src
      by_last true is =
          let lt : n + 1 < port.queue.places = grind (arith, nat_tests) in
          goes (stages.LoadSlots (n + 1) own) (ap (λ (b : Bool). row_at a k (cond b (stages.LoadSlots (n + 1) own) (stages.LoadAck own))) is) (record { costs = omega arith; advances = omega arith }) lt (ready.stands.at.0, now, past)
      by_last false is =
          let ge : port.queue.places ≤ n + 1 = grind (arith, nat_tests) in
          let lt : n < port.queue.places = ready.stands.row_for.stage in
          goes (stages.LoadAck own) (ap (λ (b : Bool). row_at a k (cond b (stages.LoadSlots (n + 1) own) (stages.LoadAck own))) is) (record { costs = omega (arith, lt); advances = omega arith }) tt
          (ready.stands.at.0, now, λ none m at. past none m at (let lt = mod-lt m.position ready.stands.row_for.place.some in omega arith))

  pub made_ack : (w : ℕ) (seen : Bool) → IsReady set port readings (row_at a k (stages.LoadAck seen)) src old → Called old new (LoadAck w) → IsAck (view old) old.source.0 w → HasMade set port readings (row_at a k (stages.LoadAck seen)) src old new w src
  made_ack w seen ready called shows = by_test (nat_lt k (length readings) && (seen || w == (a + 1) % 64)) refl
    where
      mine : List Won
      mine = mine_of (calls_of (view old))

      src_kept : SrcKept (length readings) a k (known (view old) old.source.0)
      src_kept = src_here (length readings) src a k (known (view old) old.source.0) ready.stands.at.0 ready.stands.src_kept

      goes : (st' : Stage) → take_of port (length readings) (row_at a k (stages.LoadAck seen)) w ≡ row_at a k st' → PacesOne port.queue.places (stages.LoadAck seen) st' src src (known (view old) old.source.0) (after_call old (LoadAck w))
          → FitsStage port.queue.places (length readings) k st' → StageKept port.queue.places src (after_call old (LoadAck w)) a k st' → HasMade set port readings (row_at a k (stages.LoadAck seen)) src old new w src
      goes st' takes paces fits at =
          goes_on (stages.LoadAck seen) st' (LoadAck w) w ready called (record { mine = refl; next = refl; tail = omega arith; out = omega arith; gone = omega arith }) (refl, refl) tt takes (λ e. absurd cc) paces fits at

      -- the last publication isn't in SRC
      lacks : (b : Bool) → seen ≡ b → (seen || w == (a + 1) % 64) ≡ true → length mine ≡ a + 1
      lacks true e hit = ready.stands.at.1 e
      lacks false e hit =
          let kept = ready.stands.mine_kept in
          ack_behind port.queue.places a (gone_of (view old) old.source.0) shows.0 w mine ready.stands.row_for.place.no_more kept.rises kept.recent shows.1 shows.2 src_kept.least src_kept.most
          (eqb-true _ _ (sym (ap (λ (b : Bool). b || w == (a + 1) % 64) e) ∙ hit))

      -- it is, where a reading is left and neither a slot nor ACK shows it
      has_it : (nat_lt k (length readings) && (seen || w == (a + 1) % 64)) ≡ false → (length mine ≡ a + 1) ⊎ (length mine ≢ a + 1) → length mine ≡ a
      has_it is (inr other) = same_count src_kept.most src_kept.least other
      has_it is (inl behind) = by_seen seen refl
        where
          left : nat_lt k (length readings) ≡ true
          left = (let lt = (src_kept.behind behind).1 in grind (arith, nat_tests))

          by_seen : (b : Bool) → seen ≡ b → length mine ≡ a
          by_seen true e = absurd (let no : true ≡ false = sym (λ j. left j && (e j || w == (a + 1) % 64)) ∙ is in cc)
          by_seen false e =
              let ack = ack_shows a (gone_of (view old) old.source.0) shows.0 w mine ready.stands.mine_kept.rises shows.1 shows.2 behind (ready.stands.at.2 e) in
              absurd (let no : true ≡ false = sym (λ j. left j && (e j || eq-eqb w ((a + 1) % 64) ack j)) ∙ is in cc)

      by_test : (b : Bool) → (nat_lt k (length readings) && (seen || w == (a + 1) % 64)) ≡ b → HasMade set port readings (row_at a k (stages.LoadAck seen)) src old new w src
      by_test true is =
          let left : k < length readings = (let t = and_left (nat_lt k (length readings)) _ is in grind (arith, nat_tests)) in
          goes stages.StoreAccepted (ap (λ (b : Bool). row_at a k (cond b stages.StoreAccepted stages.LoadTail)) is) (record { costs = omega arith; advances = omega arith }) left
          (ready.stands.at.0, lacks seen refl (and_right (nat_lt k (length readings)) _ is))
      by_test false is =
          goes stages.LoadTail (ap (λ (b : Bool). row_at a k (cond b stages.StoreAccepted stages.LoadTail)) is) (record { costs = omega arith; advances = omega arith }) tt (ready.stands.at.0, has_it is (cases_eq (length mine) (a + 1)))

  -- the exchange was lost
  pub made_lost : (w p : ℕ) → IsReady set port readings (row_at a k (stages.Publish p)) src old → Called old new (Publish p k (slice_index readings k) w) → w ≢ empty_word p → ShowsSlot (view old) old.source.0 (p % port.queue.places) w → HasMade set port readings (row_at a k (stages.Publish p)) src old new w src
  made_lost w p ready called other shows =
      let at = ready.stands.at in
      let fits = ready.stands.row_for.stage in
      let ring = ready.port_is.ring in
      let mine : List Won = mine_of (calls_of (view old)) in
      let N : ℕ = ring_of old in
      let test : (w == empty_word p) ≡ false = ne_eqb w (empty_word p) other in
      let past = slot_past (view old) old.source.0 port.queue.places p w ring ready.stands.row_for.place.some at.2 fits.1 at.3 shows other in
      let same_mine : mine_of (Publish p k (slice_index readings k) w ∷ calls_of (view old)) ≡ mine = ap (λ (b : Bool). cond b (mine ++ won p k (slice_index readings k) ∷ []) mine) test in
      let is_out : cond (w == empty_word p) (p + 1) (published_by N (slot_in w)) ≡ published_by N (slot_in w) = ap (λ (b : Bool). cond b (p + 1) (published_by N (slot_in w))) test in
      goes_on (stages.Publish p) (stages.HelpTail p) (Publish p k (slice_index readings k) w) w ready called
      (record { mine = same_mine; next = ap (λ (b : Bool). cond b (k + 1) (next_of (calls_of (view old)))) test; tail = omega arith; out = omega arith; gone = omega arith })
      (refl, refl) tt (ap (λ (b : Bool). row_at a k (cond b (stages.MoveTail p) (stages.HelpTail p))) test) (λ e. absurd (push_point _ e)) (record { costs = omega arith; advances = omega (arith, ap length same_mine) }) fits
      (at.0, ap length same_mine ∙ at.1, omega (arith, past, is_out, ap (λ (n : ℕ). published_by n (slot_in w)) ring))

  -- the event is published
  pub made_won : (p : ℕ) → IsReady set port readings (row_at a k (stages.Publish p)) src old → Called old new (Publish p k (slice_index readings k) (empty_word p)) → ShowsSlot (view old) old.source.0 (p % port.queue.places) (empty_word p) → HasMade set port readings (row_at a k (stages.Publish p)) src old new (empty_word p) src
  made_won p ready called shows =
      let at = ready.stands.at in
      let fits = ready.stands.row_for.stage in
      let h = src_here (length readings) src a k (known (view old) old.source.0) at.0 ready.stands.src_kept in
      let kept = ready.stands.mine_kept in
      let mine : List Won = mine_of (calls_of (view old)) in
      let x : ℕ = slice_index readings k in
      let N : ℕ = ring_of old in
      let told : Told = (view old).told in
      let u : ℕ = queue_of (view old).lay old.source.0 in
      let test : (empty_word p == empty_word p) ≡ true = eq-eqb (empty_word p) (empty_word p) refl in
      let s' : Knows = record {
        mine = mine ++ won p k x ∷ [];
        next = k + 1;
        tail = tail_of (calls_of (view old));
        out = max (slice_index told.published u) (max (p + 1) (published_of N (calls_of (view old))));
        gone = max (slice_index told.released u) (max (p + 1 - N) (released_by_of N (calls_of (view old))));
      } in
      let is : known (view new) new.source.0 ≡ s' = known_new old new _ called.0 called.1 ∙ (λ j. record {
        mine = cond (test j) (mine ++ won p k x ∷ []) mine;
        next = cond (test j) (k + 1) (next_of (calls_of (view old)));
        tail = tail_of (calls_of (view old));
        out = max (slice_index told.published u) (max (cond (test j) (p + 1) (published_by N (slot_in (empty_word p)))) (published_of N (calls_of (view old))));
        gone = max (slice_index told.released u) (max (cond (test j) (p + 1 - N) (released_by N (slot_in (empty_word p)))) (released_by_of N (calls_of (view old))));
      }) in
      let takes = ap (λ (b : Bool). row_at a k (cond b (stages.MoveTail p) (stages.HelpTail p))) test in
      let len : length (mine ++ won p k x ∷ []) ≡ suc (length mine) = omega (arith, length-append mine (won p k x ∷ [])) in
      let unpublished = free_out (view old) old.source.0 (p % port.queue.places) p (let f : p < 2 ^ 21 = omega (arith, fits.1) in f) shows in
      let below_p = free_shows (view old) old.source.0 (p % port.queue.places) p (let f : p < 2 ^ 21 = omega (arith, fits.1) in f) shows in
      let few = few_below mine p kept.rises below_p in
      record {
        of = seat_stays set called.0 ready.of;
        port_is = port_stays called.0 ready.port_is;
        found = (refl, called.1);
        answer = tt;
        refuses = λ e. absurd (push_point _ e);
        added = subst (λ (z : Knows). Added (known (view old) old.source.0) z) (sym is)
            (record {
              kept = λ j m here. at_longer mine (won p k x ∷ []) j m here;
              new_ones = λ j m here. elim (snoc_cases mine (won p k x) j m here) [ inl before ↦ inl before.1 | inr last ↦ inr (omega (arith, ap (λ (z : Won). z.position) last.1, unpublished)) ];
              out = omega arith;
              gone = omega arith;
              others = omega (arith, len, unpublished);
            });
        paces = subst (λ (z : Knows × Row). PacesOne port.queue.places (stages.Publish p) z.1.stage src src (known (view old) old.source.0) z.0) (sym (λ j. (is j, takes j))) (record { costs = omega arith; advances = omega (arith, len) });
        stands = subst (λ (z : Knows × Row). Stands port (length readings) src z.0 z.1) (sym (λ j. (is j, takes j)))
            (record {
              row_for = row_stays port (length readings) a k (stages.Publish p) ready.stands.row_for (stages.MoveTail p) fits;
              src_kept = subst (λ (z : ℕ × ℕ). SrcKept (length readings) z.0 z.1 s') (sym (λ j. (at.0.accepted j, at.0.next j)))
                  (record { ordered = h.ordered; within = h.within; least = omega (arith, at.1, len); most = omega (arith, at.1, len); settled = λ e. absurd (omega (arith, at.1, len)); behind = λ e. (refl, fits.0) });
              mine_kept = record {
                rises = λ j n y z lt at_y at_z. elim (snoc_cases mine (won p k x) n z at_z) [
                  | inl before ↦ elim (snoc_cases mine (won p k x) j y at_y) [ inl early ↦ kept.rises j n y z lt early.1 before.1 | inr late ↦ absurd (omega (arith, late.0, before.0)) ]
                  | inr last ↦ elim (snoc_cases mine (won p k x) j y at_y) [
                    | inl early ↦ let less = below_p j y early.1 in omega (arith, ap (λ (m : Won). m.position) last.1)
                    | inr late ↦ absurd (omega (arith, late.0, last.0))
                  ]
                ];
                recent = λ j m here. elim (snoc_cases mine (won p k x) j m here) [
                  | inl before ↦ omega (arith, kept.recent j m before.1)
                  | inr last ↦ omega (arith, ap (λ (z : Won). z.position) last.1, ready.port_is.ring, ready.stands.row_for.place.some)
                ];
                tails = omega (arith, len, few, at.2);
              };
              at = (at.0, len ∙ ap suc at.1 ∙ (let e : suc a ≡ a + 1 = omega arith in e), omega arith);
            });
      }

-- the accesses of SRC
module _ {set : QueueSet} {port : Port} {readings : List ℕ} {a k src : ℕ} {seat : SourceSeat} where
  pub made_src : IsReady set port readings (row_at a k stages.LoadSrc) src seat → HasMade set port readings (row_at a k stages.LoadSrc) src seat seat src src
  made_src ready =
      let h = ready.stands.src_kept in
      record {
        of = ready.of;
        port_is = ready.port_is;
        found = (refl, refl, refl);
        answer = (omega (arith, h.ordered, h.within), h.within);
        refuses = λ e. absurd cc;
        added = added_none (known (view seat) seat.source.0);
        paces = record { costs = omega arith; advances = omega arith };
        stands = record {
          row_for = record { place = ready.stands.row_for.place; accepted = omega (arith, h.ordered); next = h.within; stage = ready.stands.row_for.place.some };
          src_kept = h;
          mine_kept = ready.stands.mine_kept;
          at = (record { accepted = refl; next = refl }, (λ e. absurd cc), λ e m at lt. absurd (omega arith));
        };
      }

  pub made_skip : (src' word : ℕ) → src' ≡ src_word a (k + 1) → IsReady set port readings (row_at a k stages.StoreSkip) src seat → HasMade set port readings (row_at a k stages.StoreSkip) src seat seat word src'
  made_skip src' word stored ready =
      let at = ready.stands.at in
      let fits = ready.stands.row_for.stage in
      let h = src_here (length readings) src a k (known (view seat) seat.source.0) at.0 ready.stands.src_kept in
      let small : a < 2 ^ 32 = omega (arith, h.ordered, h.within, ready.few) in
      let first : src' % 2 ^ 32 ≡ a = omega (arith, stored) in
      let second : src' / 2 ^ 32 ≡ k + 1 = omega (arith, stored) in
      record {
        of = ready.of;
        port_is = ready.port_is;
        found = (stored, refl);
        answer = tt;
        refuses = λ e. absurd cc;
        added = added_none (known (view seat) seat.source.0);
        paces = record { costs = omega (arith, second, at.0.next); advances = omega arith };
        stands = record {
          row_for = record { place = ready.stands.row_for.place; accepted = omega (arith, h.ordered); next = omega arith; stage = tt };
          src_kept = subst (λ (z : ℕ × ℕ). SrcKept (length readings) z.0 z.1 (known (view seat) seat.source.0)) (sym (λ j. (first j, second j)))
              (record { ordered = omega (arith, h.ordered); within = omega arith; least = h.least; most = h.most; settled = λ e. let x = h.settled e in omega arith; behind = λ e. absurd (omega (arith, at.1)) });
          mine_kept = ready.stands.mine_kept;
          at = (record { accepted = first; next = second }, at.1);
        };
      }

  pub made_accepted : (src' word : ℕ) → src' ≡ src_word (a + 1) (k + 1) → IsReady set port readings (row_at a k stages.StoreAccepted) src seat → HasMade set port readings (row_at a k stages.StoreAccepted) src seat seat word src'
  made_accepted src' word stored ready =
      let at = ready.stands.at in
      let fits = ready.stands.row_for.stage in
      let h = src_here (length readings) src a k (known (view seat) seat.source.0) at.0 ready.stands.src_kept in
      let behind = h.behind at.1 in
      let small : a + 1 < 2 ^ 32 = omega (arith, h.ordered, h.within, ready.few) in
      let first : src' % 2 ^ 32 ≡ a + 1 = omega (arith, stored) in
      let second : src' / 2 ^ 32 ≡ k + 1 = omega (arith, stored) in
      record {
        of = ready.of;
        port_is = ready.port_is;
        found = (stored, refl);
        answer = tt;
        refuses = λ e. absurd cc;
        added = added_none (known (view seat) seat.source.0);
        paces = record { costs = omega (arith, second, at.0.next); advances = omega arith };
        stands = record {
          row_for = record { place = ready.stands.row_for.place; accepted = omega (arith, h.ordered); next = omega arith; stage = tt };
          src_kept = subst (λ (z : ℕ × ℕ). SrcKept (length readings) z.0 z.1 (known (view seat) seat.source.0)) (sym (λ j. (first j, second j)))
              (record { ordered = omega (arith, h.ordered); within = omega arith; least = omega (arith, at.1); most = omega (arith, at.1); settled = λ e. omega (arith, behind.0); behind = λ e. absurd (omega (arith, at.1)) });
          mine_kept = ready.stands.mine_kept;
          at = (record { accepted = first; next = second }, at.1);
        };
      }

-- a row is the one of its numbers at its stage
pub at_stage : {set : QueueSet} {port : Port} {readings : List ℕ} {src src' w : ℕ} {old new : SourceSeat} (row : Row) (st : Stage) → row.stage ≡ st → IsReady set port readings row src old
    → (IsReady set port readings (row_at row.accepted row.next st) src old → HasMade set port readings (row_at row.accepted row.next st) src old new w src') → HasMade set port readings row src old new w src'
at_stage {set} {port} {readings} {src} {src'} {w} {old} {new} row st is ready made =
    subst (λ (s : Stage). HasMade set port readings (row_at row.accepted row.next s) src old new w src') (sym is)
    (made (subst (λ (s : Stage). IsReady set port readings (row_at row.accepted row.next s) src old) is ready))

-- a tail that was moved, or found moved already
pub moved_by_us : (p : ℕ) (calls : List Call) → p < tail_of (HelpTail p p ∷ calls)
moved_by_us p calls = let here = ap (λ (b : Bool). cond b (p + 1) p) (eq-eqb p p refl) in omega (arith, here)

pub moved_before : (p w out : ℕ) (calls : List Call) → w ≢ p → IsTail (tail_of calls) out w → p < out → p < tail_of (HelpTail p w ∷ calls)
moved_before p w out calls other shows lt =
    let here = ap (λ (b : Bool). cond b (p + 1) w) (ne_eqb w p other) in
    elim (cases_lt p w) [ inl less ↦ omega (arith, here) | inr ge ↦ absurd (other (omega (arith, shows.near))) ]
