-- Each access keeps the account of the readings.
use Rattle.irq_source.proofs.Common.{◌≡◌, inl, inr, ℕ, ◌+◌, ◌/◌, ◌%◌, ◌^◌, ◌<◌, ◌≤◌, ◌==◌, max, cond, Bool, true, false, List, [], ◌∷◌, ◌++◌, length, slice_index, refl, sym, ap, ◌∙◌, subst, arith, cases_eq, append-nil, some, get_elem?, snoc_cases, Port, Stage, Point, Option, Some, None, Slot, empty_word, slot_in, row_at, is_full_at, point_of, after_slot, SourceSeat, QueueSet, Won, won, Knows, mine_of, next_of, calls_of, view, known, settled_of, places_of, queue_of, out_of, below, ◌&&◌, ◌||◌, nat_lt, shows_own, take_of, Added, SrcKept, Stands, IsInSrc, HasMade, accepts, declines, tail_in}
use Rattle.push_core.specs.declared.stage.Stage.TheVariants as stages
use Rattle.push_core.specs.declared.point.Point.TheVariants as points
use Rattle.push_core.specs.declared.slot.Slot.TheVariants as slots
use Rattle.std.proofs.lemmas.List.{map-append}
use Rattle.irq_source.specs.declared.lists.Published.{Published}
use Rattle.irq_source.specs.declared.lists.Declined.{Declined}
use Rattle.irq_source.specs.Account.{publication, IsRefused, IsPublished, IsDeclined, IsWithin, Parted, Accounts}
use Rattle.irq_source.specs.kept.Actors.{SkipKept}
use Rattle.irq_source.proofs.Slots.{tail_published}
use Rattle.irq_source.proofs.Basics.{at_longer, at_last, at_map, cases_less}

module _ {readings : List ℕ} {places begun src : ℕ} {s : Knows} {accepted : List Published} {refused : List Declined} where
  -- more is known and more charges have begun, and no more readings are settled
  pub account_goes_on : (begun' src' : ℕ) (s' : Knows) → begun ≤ begun' → s'.mine ≡ s.mine → settled_of src' s' ≡ settled_of src s → s.out ≤ s'.out → Accounts readings places begun src s accepted refused
      → Accounts readings places begun' src' s' accepted refused
  account_goes_on begun' src' s' more mine settled out h = record {
    mine = h.mine ∙ sym mine;
    within = omega (arith, h.within, settled);
    published = λ n p at. let x = h.published n p at in record { reading = omega (arith, x.reading, settled); value = x.value; charge = omega (arith, x.charge, more) };
    declined = λ n d at. let x = h.declined n d at in record { turn = x.turn; published = omega (arith, x.published, out); reading = omega (arith, x.reading, settled); charge = omega (arith, x.charge, more) };
    rise = h.rise;
    parted = h.parted;
    covered = λ k lt. h.covered k (omega (arith, lt, settled));
  }

  -- the next reading was refused, and is skipped
  pub account_skipped : (src' k : ℕ) (s' : Knows) → s'.mine ≡ s.mine → settled_of src s ≡ k → settled_of src' s' ≡ k + 1 → k < length readings → s.out ≤ s'.out → IsRefused refused k → Accounts readings places begun src s accepted refused
      → Accounts readings places begun src' s' accepted refused
  account_skipped src' k s' mine was now lt out skip h = record {
    mine = h.mine ∙ sym mine;
    within = omega (arith, lt, now);
    published = λ n p at. let x = h.published n p at in record { reading = omega (arith, x.reading, was, now); value = x.value; charge = x.charge };
    declined = λ n d at. let x = h.declined n d at in record { turn = x.turn; published = omega (arith, x.published, out); reading = omega (arith, x.reading, was, now); charge = x.charge };
    rise = h.rise;
    parted = h.parted;
    covered = λ j less. elim (cases_less j k (omega (arith, less, now))) [ inl before ↦ h.covered j (omega (arith, before, was)) | inr here ↦ inr (subst (IsRefused refused) (sym here) skip) ];
  }

  -- the next reading is published
  pub account_accepted : (k p charge : ℕ) (s' : Knows) → s'.mine ≡ s.mine ++ won p k (slice_index readings k) ∷ [] → s'.next ≡ k + 1 → settled_of src s ≡ k → k < length readings → charge < begun → s.out ≤ p → s.out ≤ s'.out
      → Accounts readings places begun src s accepted refused
      → Accounts readings places begun src s' (accepted ++ record { position = p; reading = k; value = slice_index readings k; charge = charge } ∷ []) refused
  account_accepted k p charge s' mine next was lt begins free out h =
      let new : Published = record { position = p; reading = k; value = slice_index readings k; charge = charge } in
      let now : settled_of src s' ≡ k + 1 = omega (arith, was, next) in
      record {
        mine = map-append publication accepted (new ∷ []) ∙ ap (λ (ms : List Won). ms ++ publication new ∷ []) h.mine ∙ sym mine;
        within = omega (arith, lt, now);
        published = λ n x at. elim (snoc_cases accepted new n x at) [
          | inl before ↦ let y = h.published n x before.1 in record { reading = omega (arith, y.reading, was, now); value = y.value; charge = y.charge }
          | inr last ↦ subst (IsPublished readings begun (settled_of src s')) last.1 (record { reading = omega (arith, now); value = refl; charge = begins })
        ];
        declined = λ n d at. let x = h.declined n d at in record { turn = x.turn; published = omega (arith, x.published, out); reading = omega (arith, x.reading, was, now); charge = x.charge };
        rise = h.rise;
        parted = λ j n x d at_x at_d. elim (snoc_cases accepted new j x at_x) [
          | inl before ↦ h.parted j n x d before.1 at_d
          | inr last ↦ subst (λ (z : Published). Parted z d) last.1 (inr (let y = h.declined n d at_d in (omega (arith, y.published, free), omega (arith, y.reading, was))))
        ];
        covered = λ j less. elim (cases_less j k (omega (arith, less, now))) [
          | inl before ↦ elim (h.covered j (omega (arith, before, was))) [ inl a ↦ inl (a.0, a.1, at_longer accepted (new ∷ []) a.0 a.1 a.2, a.3) | inr r ↦ inr r ]
          | inr here ↦ inl (length accepted, new, at_last accepted new, sym here)
        ];
      }

  -- the next reading is refused
  pub account_refused : (k p charge : ℕ) (s' : Knows) → s'.mine ≡ s.mine → s'.next ≡ s.next → settled_of src s ≡ k → charge < begun → places ≤ p → ((n : ℕ) (m : Won) → get_elem? s.mine n ≡ some m → m.position < p) → p ≤ s'.out → s.out ≤ s'.out
      → Accounts readings places begun src s accepted refused
      → Accounts readings places begun src s' accepted (refused ++ record { reading = k; position = p; charge = charge } ∷ [])
  account_refused k p charge s' mine next was begins turn below out more h =
      let new : Declined = record { reading = k; position = p; charge = charge } in
      let now : settled_of src s' ≡ settled_of src s = ap (max (src / 2 ^ 32)) next in
      record {
        mine = h.mine ∙ sym mine;
        within = omega (arith, h.within, now);
        published = λ n x at. let y = h.published n x at in record { reading = omega (arith, y.reading, now); value = y.value; charge = y.charge };
        declined = λ n d at. elim (snoc_cases refused new n d at) [
          | inl before ↦ let x = h.declined n d before.1 in record { turn = x.turn; published = omega (arith, x.published, more); reading = omega (arith, x.reading, now); charge = x.charge }
          | inr last ↦ subst (IsDeclined places begun (settled_of src s') s'.out) last.1 (record { turn = turn; published = out; reading = omega (arith, now, was); charge = begins })
        ];
        rise = λ j n x y lt at_x at_y. elim (snoc_cases refused new n y at_y) [
          | inl before ↦ elim (snoc_cases refused new j x at_x) [ inl early ↦ h.rise j n x y lt early.1 before.1 | inr late ↦ absurd (omega (arith, late.0, before.0)) ]
          | inr last ↦ elim (snoc_cases refused new j x at_x) [
            | inl early ↦ subst (λ (z : Declined). x.reading ≤ z.reading) last.1 (let z = h.declined j x early.1 in omega (arith, z.reading, was))
            | inr late ↦ absurd (omega (arith, late.0, last.0))
          ]
        ];
        parted = λ j n x d at_x at_d. elim (snoc_cases refused new n d at_d) [
          | inl before ↦ h.parted j n x d at_x before.1
          | inr last ↦ subst (Parted x) last.1 (inl (below j (publication x) (ap (λ (ms : List Won). get_elem? ms j) (sym h.mine) ∙ at_map publication accepted j x at_x), let y = h.published j x at_x in omega (arith, y.reading, was)))
        ];
        covered = λ j less. elim (h.covered j (omega (arith, less, now))) [ inl a ↦ inl a | inr r ↦ inr (r.0, r.1, at_longer refused (new ∷ []) r.0 r.1 r.2, r.3) ];
      }

-- before it is skipped, a reading is refused: by what is read from the slot
skip_by : (b : Bool) (charge p k : ℕ) (refused : List Declined) → SkipKept (cond b stages.StoreSkip (stages.HelpTail p)) k (refused ++ declines charge p k (cond b points.Refused points.Nothing))
skip_by true charge p k refused = (length refused, _, at_last refused _, refl)
skip_by false charge p k refused = tt

-- the same for each kind of word
skip_slot : (places charge p k : ℕ) (refused : List Declined) (x : Option Slot) → SkipKept (after_slot places p x) k (refused ++ declines charge p k (cond (is_full_at places p x) points.Refused points.Nothing))
skip_slot places charge p k refused None = tt
skip_slot places charge p k refused (Some (slots.Empty q)) = free (q == p)
  where
    free : (b : Bool) → SkipKept (cond b (stages.Publish p) (stages.HelpTail p)) k (refused ++ [])
    free true = tt
    free false = tt
skip_slot places charge p k refused (Some (slots.Full q i c v)) = skip_by (q + places == p) charge p k refused

-- the row that follows knows of the refusal that it skips
pub skip_kept : (port : Port) (number charge : ℕ) (st : Stage) (a k w : ℕ) (refused : List Declined)
    → SkipKept (take_of port number (row_at a k st) w).stage (take_of port number (row_at a k st) w).next (refused ++ declines charge (tail_in st) k (point_of port.queue.places st w))
skip_kept port number charge stages.LoadSrc a k w refused = tt
skip_kept port number charge (stages.LoadSlots n seen) a k w refused = by_last (nat_lt (n + 1) port.queue.places)
  where
    own : Bool
    own = seen || shows_own port.source a (slot_in w)

    by_last : (b : Bool) → SkipKept (cond b (stages.LoadSlots (n + 1) own) (stages.LoadAck own)) k (refused ++ [])
    by_last true = tt
    by_last false = tt
skip_kept port number charge (stages.LoadAck seen) a k w refused = by_test (nat_lt k number && (seen || w == (a + 1) % 64))
  where
    by_test : (b : Bool) → SkipKept (cond b stages.StoreAccepted stages.LoadTail) k (refused ++ [])
    by_test true = tt
    by_test false = tt
skip_kept port number charge stages.LoadTail a k w refused = tt
skip_kept port number charge (stages.LoadSlot p) a k w refused = skip_slot port.queue.places charge p k refused (slot_in w)
skip_kept port number charge (stages.Publish p) a k w refused = by_test (w == empty_word p)
  where
    by_test : (b : Bool) → SkipKept (cond b (stages.MoveTail p) (stages.HelpTail p)) k (refused ++ declines charge p k (point_of port.queue.places (stages.Publish p) w))
    by_test true = tt
    by_test false = tt
skip_kept port number charge (stages.MoveTail p) a k w refused = tt
skip_kept port number charge (stages.HelpTail p) a k w refused = tt
skip_kept port number charge stages.StoreSkip a k w refused = tt
skip_kept port number charge stages.StoreAccepted a k w refused = tt

-- the number of settled readings, where all publications are in SRC
pub settled_here : (number src a k : ℕ) (s : Knows) → IsInSrc src a k → SrcKept number (src % 2 ^ 32) (src / 2 ^ 32) s → length s.mine ≡ a → settled_of src s ≡ k
settled_here number src a k s is h len = let next = h.settled (len ∙ sym is.accepted) in omega (arith, is.next, next)

-- and where the last one isn't
pub settled_behind : (number src a k : ℕ) (s : Knows) → IsInSrc src a k → SrcKept number (src % 2 ^ 32) (src / 2 ^ 32) s → length s.mine ≡ a + 1 → settled_of src s ≡ k + 1
settled_behind number src a k s is h len = let next = h.behind (len ∙ ap (λ (n : ℕ). n + 1) (sym is.accepted)) in omega (arith, is.next, next.0)

-- the account after an access at this point of the journal, with what it adds to the lists
abbrev pub AccountAfter : Port → List ℕ → (begun charge k src : ℕ) → SourceSeat → List Published → List Declined → Stage → Point → Type 0
AccountAfter port readings begun charge k src seat accepted refused st point =
    Accounts readings port.queue.places begun src (known (view seat) seat.source.0) (accepted ++ accepts charge (tail_in st) k (slice_index readings k) point) (refused ++ declines charge (tail_in st) k point)

-- nothing is added to the lists
unchanged : {readings : List ℕ} {places begun src : ℕ} {s : Knows} {accepted : List Published} {refused : List Declined} → Accounts readings places begun src s accepted refused → Accounts readings places begun src s (accepted ++ []) (refused ++ [])
unchanged {readings} {places} {begun} {src} {s} {accepted} {refused} h = subst (λ (z : List Published × List Declined). Accounts readings places begun src s z.0 z.1) (sym (λ j. (append-nil accepted j, append-nil refused j))) h

-- SRC and the publications stay
same_settled : (src src' : ℕ) (s s' : Knows) → src' ≡ src → s'.next ≡ s.next → settled_of src s ≤ settled_of src' s'
same_settled src src' s s' same next = let now : settled_of src' s' ≡ settled_of src s = λ j. max (same j / 2 ^ 32) (next j) in omega (arith, now)

-- nor to the publications
quiet : {readings : List ℕ} {places begun src : ℕ} {s : Knows} {accepted : List Published} {refused : List Declined} (src' : ℕ) (s' : Knows) → Accounts readings places begun src s accepted refused → src' ≡ src → s'.mine ≡ s.mine → s'.next ≡ s.next → Added s s'
    → Accounts readings places begun src' s' (accepted ++ []) (refused ++ [])
quiet {begun = begun} src' s' h same mine next added = unchanged (account_goes_on begun src' s' (omega arith) mine (λ j. max (same j / 2 ^ 32) (next j)) added.out h)

module _ {set : QueueSet} {port : Port} {readings : List ℕ} {a k src begun charge : ℕ} {old new : SourceSeat} {word src' : ℕ} {accepted : List Published} {refused : List Declined} where
  -- each access keeps the account
  pub account_kept : (st : Stage) → HasMade set port readings (row_at a k st) src old new word src' → Stands port (length readings) src (known (view old) old.source.0) (row_at a k st) → charge < begun → SkipKept st k refused
      → Accounts readings port.queue.places begun src (known (view old) old.source.0) accepted refused → AccountAfter port readings begun charge k src' new accepted refused st (point_of port.queue.places st word)
  account_kept stages.LoadSrc made stands begins skip h = quiet src' (known (view new) new.source.0) h made.found.1 (ap mine_of made.found.2) (ap next_of made.found.2) made.added
  account_kept (stages.LoadSlots n seen) made stands begins skip h = quiet src' (known (view new) new.source.0) h made.found.0 (ap mine_of made.found.1) (ap next_of made.found.1) made.added
  account_kept (stages.LoadAck seen) made stands begins skip h = quiet src' (known (view new) new.source.0) h made.found.0 (ap mine_of made.found.1) (ap next_of made.found.1) made.added
  account_kept stages.LoadTail made stands begins skip h = quiet src' (known (view new) new.source.0) h made.found.0 (ap mine_of made.found.1) (ap next_of made.found.1) made.added
  account_kept (stages.LoadSlot p) made stands begins skip h = by_full (is_full_at port.queue.places p (slot_in word)) refl
    where
      by_full : (b : Bool) → is_full_at port.queue.places p (slot_in word) ≡ b → AccountAfter port readings begun charge k src' new accepted refused (stages.LoadSlot p) (point_of port.queue.places (stages.LoadSlot p) word)
      by_full true is =
          let point : point_of port.queue.places (stages.LoadSlot p) word ≡ points.Refused = ap (λ (b : Bool). cond b points.Refused points.Nothing) is in
          let turn = made.refuses point in
          let was = settled_here (length readings) src a k (known (view old) old.source.0) stands.at.0 stands.src_kept stands.at.1 in
          let shown = tail_published (places_of (view old).lay (queue_of (view old).lay old.source.0)) (calls_of (view old)) in
          subst (λ (q : Point). AccountAfter port readings begun charge k src' new accepted refused (stages.LoadSlot p) q) (sym point)
          (subst (λ (z : ℕ × List Published). Accounts readings port.queue.places begun z.0 (known (view new) new.source.0) z.1 (refused ++ declines charge p k points.Refused)) (sym (λ j. (made.found.0 j, append-nil accepted j)))
          (account_refused k p charge (known (view new) new.source.0) (ap mine_of made.found.1) (ap next_of made.found.1) was begins (omega (arith, turn)) (λ n m at. omega (arith, stands.mine_kept.recent n m at, turn)) (omega (arith, stands.at.2, shown, made.added.out)) made.added.out h))
      by_full false is =
          subst (λ (q : Point). AccountAfter port readings begun charge k src' new accepted refused (stages.LoadSlot p) q) (sym (ap (λ (b : Bool). cond b points.Refused points.Nothing) is))
          (quiet src' (known (view new) new.source.0) h made.found.0 (ap mine_of made.found.1) (ap next_of made.found.1) made.added)
  account_kept (stages.Publish p) made stands begins skip h = by_test (word == empty_word p) refl
    where
      mine : List Won
      mine = mine_of (calls_of (view old))

      mine_is : (b : Bool) → (word == empty_word p) ≡ b → mine_of (calls_of (view new)) ≡ cond b (mine ++ won p k (slice_index readings k) ∷ []) mine
      mine_is b is = ap mine_of made.found.1 ∙ ap (λ (c : Bool). cond c (mine ++ won p k (slice_index readings k) ∷ []) mine) is

      next_is : (b : Bool) → (word == empty_word p) ≡ b → next_of (calls_of (view new)) ≡ cond b (k + 1) (next_of (calls_of (view old)))
      next_is b is = ap next_of made.found.1 ∙ ap (λ (c : Bool). cond c (k + 1) (next_of (calls_of (view old)))) is

      by_test : (b : Bool) → (word == empty_word p) ≡ b → AccountAfter port readings begun charge k src' new accepted refused (stages.Publish p) (point_of port.queue.places (stages.Publish p) word)
      by_test true is =
          let here : get_elem? (mine_of (calls_of (view new))) (length mine) ≡ some (won p k (slice_index readings k)) = ap (λ (ms : List Won). get_elem? ms (length mine)) (mine_is true is) ∙ at_last mine (won p k (slice_index readings k)) in
          let free : out_of (view old) old.source.0 ≤ p = elim (made.added.new_ones (length mine) (won p k (slice_index readings k)) here) [ inl before ↦ let lt = below mine (length mine) _ before in absurd (omega arith) | inr free ↦ free ] in
          let was = settled_here (length readings) src a k (known (view old) old.source.0) stands.at.0 stands.src_kept stands.at.1 in
          subst (λ (q : Point). AccountAfter port readings begun charge k src' new accepted refused (stages.Publish p) q) (sym (ap (λ (b : Bool). cond b points.Pushed points.Nothing) is))
          (subst (λ (z : ℕ × List Declined). Accounts readings port.queue.places begun z.0 (known (view new) new.source.0) (accepted ++ accepts charge p k (slice_index readings k) points.Pushed) z.1) (sym (λ j. (made.found.0 j, append-nil refused j)))
          (account_accepted k p charge (known (view new) new.source.0) (mine_is true is) (next_is true is) was stands.row_for.stage.0 begins free made.added.out h))
      by_test false is =
          subst (λ (q : Point). AccountAfter port readings begun charge k src' new accepted refused (stages.Publish p) q) (sym (ap (λ (b : Bool). cond b points.Pushed points.Nothing) is))
          (quiet src' (known (view new) new.source.0) h made.found.0 (mine_is false is) (next_is false is) made.added)
  account_kept (stages.MoveTail p) made stands begins skip h = quiet src' (known (view new) new.source.0) h made.found.0 (ap mine_of made.found.1) (ap next_of made.found.1) made.added
  account_kept (stages.HelpTail p) made stands begins skip h = quiet src' (known (view new) new.source.0) h made.found.0 (ap mine_of made.found.1) (ap next_of made.found.1) made.added
  account_kept stages.StoreSkip made stands begins skip h =
      let was = settled_here (length readings) src a k (known (view old) old.source.0) stands.at.0 stands.src_kept stands.at.1 in
      let now = settled_here (length readings) src' a (k + 1) (known (view new) new.source.0) made.stands.at.0 made.stands.src_kept made.stands.at.1 in
      unchanged (account_skipped src' k (known (view new) new.source.0) (ap mine_of made.found.1) was now stands.row_for.stage made.added.out skip h)
  account_kept stages.StoreAccepted made stands begins skip h =
      let was = settled_behind (length readings) src a k (known (view old) old.source.0) stands.at.0 stands.src_kept stands.at.1 in
      let now = settled_here (length readings) src' (a + 1) (k + 1) (known (view new) new.source.0) made.stands.at.0 made.stands.src_kept made.stands.at.1 in
      unchanged (account_goes_on begun src' (known (view new) new.source.0) (omega arith) (ap mine_of made.found.1) (now ∙ sym was) made.added.out h)

module _ {set : QueueSet} {port : Port} {readings : List ℕ} {a k src : ℕ} {old new : SourceSeat} {word src' : ℕ} where
  -- no access settles a reading less
  pub settled_kept : (st : Stage) → HasMade set port readings (row_at a k st) src old new word src' → Stands port (length readings) src (known (view old) old.source.0) (row_at a k st) → settled_of src (known (view old) old.source.0) ≤ settled_of src' (known (view new) new.source.0)
  settled_kept stages.LoadSrc made stands = same_settled src src' (known (view old) old.source.0) (known (view new) new.source.0) made.found.1 (ap next_of made.found.2)
  settled_kept (stages.LoadSlots n seen) made stands = same_settled src src' (known (view old) old.source.0) (known (view new) new.source.0) made.found.0 (ap next_of made.found.1)
  settled_kept (stages.LoadAck seen) made stands = same_settled src src' (known (view old) old.source.0) (known (view new) new.source.0) made.found.0 (ap next_of made.found.1)
  settled_kept stages.LoadTail made stands = same_settled src src' (known (view old) old.source.0) (known (view new) new.source.0) made.found.0 (ap next_of made.found.1)
  settled_kept (stages.LoadSlot p) made stands = same_settled src src' (known (view old) old.source.0) (known (view new) new.source.0) made.found.0 (ap next_of made.found.1)
  settled_kept (stages.Publish p) made stands = by_test (word == empty_word p) refl
    where
      next_is : (b : Bool) → (word == empty_word p) ≡ b → next_of (calls_of (view new)) ≡ cond b (k + 1) (next_of (calls_of (view old)))
      next_is b is = ap next_of made.found.1 ∙ ap (λ (c : Bool). cond c (k + 1) (next_of (calls_of (view old)))) is

      by_test : (b : Bool) → (word == empty_word p) ≡ b → settled_of src (known (view old) old.source.0) ≤ settled_of src' (known (view new) new.source.0)
      by_test true is =
          let was = settled_here (length readings) src a k (known (view old) old.source.0) stands.at.0 stands.src_kept stands.at.1 in
          let next = next_is true is in
          omega (arith, was, next)
      by_test false is = same_settled src src' (known (view old) old.source.0) (known (view new) new.source.0) made.found.0 (next_is false is)
  settled_kept (stages.MoveTail p) made stands = same_settled src src' (known (view old) old.source.0) (known (view new) new.source.0) made.found.0 (ap next_of made.found.1)
  settled_kept (stages.HelpTail p) made stands = same_settled src src' (known (view old) old.source.0) (known (view new) new.source.0) made.found.0 (ap next_of made.found.1)
  settled_kept stages.StoreSkip made stands =
      let was = settled_here (length readings) src a k (known (view old) old.source.0) stands.at.0 stands.src_kept stands.at.1 in
      let now = settled_here (length readings) src' a (k + 1) (known (view new) new.source.0) made.stands.at.0 made.stands.src_kept made.stands.at.1 in
      omega (arith, was, now)
  settled_kept stages.StoreAccepted made stands =
      let was = settled_behind (length readings) src a k (known (view old) old.source.0) stands.at.0 stands.src_kept stands.at.1 in
      let now = settled_here (length readings) src' (a + 1) (k + 1) (known (view new) new.source.0) made.stands.at.0 made.stands.src_kept made.stands.at.1 in
      omega (arith, was, now)

-- what SRC and the number of publications tell stays within the readings
pub told_within : (number src : ℕ) (s : Knows) → SrcKept number (src % 2 ^ 32) (src / 2 ^ 32) s → IsWithin number src (length s.mine)
told_within number src s h =
    elim (cases_eq (length s.mine) (src % 2 ^ 32)) [
      | inl all ↦ record { ordered = omega (arith, h.ordered, all); within = omega (arith, h.within, all) }
      | inr lacks ↦
          let one : length s.mine ≡ src % 2 ^ 32 + 1 = omega (arith, h.least, h.most, lacks) in
          record { ordered = omega (arith, h.ordered, one); within = omega (arith, one, (h.behind one).1) }
    ]
