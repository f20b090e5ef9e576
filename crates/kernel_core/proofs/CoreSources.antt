-- A source's turn on the fields of a core.
use Rattle.kernel_core.proofs.Common.{◌≡◌, inl, inr, ℕ, zero, suc, ◌+◌, ◌-◌, ◌<◌, ◌^◌, cond, List, [], ◌∷◌, length, map, get_or, set, slice_index, Option, Some, refl, sym, ap, ◌∙◌, subst, arith, length-set, get_or-set_same, get_or-set_other, cases_eq, cases_lt, length-map, get_or_read, get_or_past, Entry, place_of, answer, Access, Layout, performed, address_of, FitsWords, at_address, finds_there, address_same, IsOnBoard, valid, below, readings_of, first_row, take_of, point_of, want_of, IsLeft, IsFew, IsRowFor, IsAnswer, Row, Stage, LoadSrc, LoadSlots, LoadAck, LoadTail, LoadSlot, Publish, MoveTail, HelpTail, StoreSkip, StoreAccepted, Pusher, Point, JobParts, access, port_of, access_of-port, ChargeRecord, with_source, Recorded, KeepsRoom, Setup, Board, shape, sides, finds, charged, row_of, source_access, source_made, source_turn, entry_of_source, seen, memory, state, access_made, setup_of, IsCore, IsPusher, CanCount, charge_in, row_in, none_recorded, no_pusher}
use Rattle.push_core.specs.Table.{access_of}
use Rattle.source_laws.proofs.Fits.{row_fits, answer_fits}
use Rattle.kernel_core.proofs.Sides.{within}
use Rattle.kernel_core.proofs.SourcePlaces.{source_on}
use Rattle.kernel_core.proofs.Turns.{Goes, source_goes}
use Rattle.kernel_core.proofs.Settled.{source_settles}
use Rattle.kernel_core.proofs.CoreSteps.{charged_is, core_after}

pub rows-set : (xs : List Pusher) (i : ℕ) (x : Pusher) → map row_in (set xs i x) ≡ set (map row_in xs) i (row_in x)
rows-set [] i x = refl
rows-set (y ∷ ys) zero x = refl
rows-set (y ∷ ys) (suc i) x = ap (λ l. row_in y ∷ l) (rows-set ys i x)

row_at : (xs : List Pusher) (i : ℕ) → get_or (map row_in xs) i first_row ≡ (get_or xs i no_pusher).row
row_at [] i = refl
row_at (y ∷ ys) zero = refl
row_at (y ∷ ys) (suc i) = row_at ys i

never_adds : (s : Setup) (b : Board) (i a k : ℕ) (stage : Stage) → FitsWords b.words (Rattle.push_core.specs.Table.access_at (port_of (sides s) i) (readings_of s.readings i) a k stage)
never_adds s b i a k LoadSrc = tt
never_adds s b i a k (LoadSlots n seen) = tt
never_adds s b i a k (LoadAck seen) = tt
never_adds s b i a k LoadTail = tt
never_adds s b i a k (LoadSlot p) = tt
never_adds s b i a k (Publish p) = tt
never_adds s b i a k (MoveTail p) = tt
never_adds s b i a k (HelpTail p) = tt
never_adds s b i a k StoreSkip = tt
never_adds s b i a k StoreAccepted = tt

-- one count grows
counts_after : (counts : List ℕ) (i j room : ℕ) → 0 < room → ((k : ℕ) → slice_index counts k + room < 2 ^ 32) → slice_index (set counts i (slice_index counts i + 1)) j + (room - 1) < 2 ^ 32
counts_after counts i j room some can =
    elim (cases_eq j i) [
      | inl e ↦ elim (cases_lt i (length counts)) [
        | inl lt ↦
            let same : slice_index (set counts i (slice_index counts i + 1)) j ≡ slice_index counts i + 1 =
            ap (λ n. slice_index (set counts i (slice_index counts i + 1)) n) e ∙ get_or-set_same counts i (slice_index counts i + 1) 0 lt in
            let c = can i in omega arith
        | inr past ↦
            let none : slice_index (set counts i (slice_index counts i + 1)) j ≡ 0 =
            get_or_past (set counts i (slice_index counts i + 1)) j 0 (let long : length (set counts i (slice_index counts i + 1)) ≡ length counts = length-set counts i (slice_index counts i + 1) in omega arith) in
            let c = can i in omega arith
      ]
      | inr ne ↦
          let same : slice_index (set counts i (slice_index counts i + 1)) j ≡ slice_index counts j = get_or-set_other counts i j (slice_index counts i + 1) 0 ne in
          let c = can j in omega arith
    ]

module _ (job : JobParts) (l : Layout) (b : Board) (room : ℕ) (ps : List Pusher) (records : List Recorded) (h : IsCore job l b room ps records) (i : ℕ) (lt : i < length job.program.sources) where
  pub few : IsFew (readings_of job.readings i)
  few = h.is_setup.short.few i

  -- the machine as a call on an element of the vector gives it
  pub machine_is : (q : Pusher) → q ≡ get_or ps i q → q ≡ get_or ps i no_pusher
  machine_is q is =
      let long : length b.rows ≡ length ps = ap length h.rows ∙ length-map ps row_in in
      get_or_read ps i q (let e = h.holds.size.rows in omega arith) is no_pusher

  pub row_is : (q : Pusher) → q ≡ get_or ps i q → q.row ≡ row_of b i
  row_is q is = ap (λ (z : Pusher). z.row) (machine_is q is) ∙ (sym (row_at ps i) ∙ ap (λ z. get_or z i first_row) (sym h.rows))

  pub port_is : (q : Pusher) → q ≡ get_or ps i q → q.port ≡ port_of (sides (setup_of job)) i
  port_is q is = ap (λ (z : Pusher). z.port) (machine_is q is) ∙ (h.machines i lt).port

  -- the readings as a call on an element of the slice gives them
  pub fits : (q : Pusher) → q ≡ get_or ps i q → IsRowFor q.port (length (readings_of job.readings i)) q.row
  fits q is =
      subst (λ (z : Pusher). IsRowFor z.port (length (readings_of job.readings i)) z.row)
      (λ k. record { port = sym (port_is q is) k; row = sym (row_is q is) k })
      (row_fits (sides (setup_of job)) (seen (memory (setup_of job) b) (state (setup_of job) b) (row_of b)) i (within (setup_of job) h.is_setup) lt h.holds.kept (h.machines i lt).right)

  pub left_in : (q : Pusher) → q ≡ get_or ps i q → IsLeft (length (readings_of job.readings i)) (row_of b i) → IsLeft (length (readings_of job.readings i)) q.row
  left_in q is left = subst (λ (z : Row). IsLeft (length (readings_of job.readings i)) z) (sym (row_is q is)) left

  pub at_place : source_access (setup_of job) b i ≡ at_address (shape (setup_of job)) (access (sides (setup_of job)) i (row_of b i))
  at_place = access_of-port (sides (setup_of job)) i (row_of b i)

  on_board : IsOnBoard job.program (place_of (access (sides (setup_of job)) i (row_of b i)))
  on_board = source_on (setup_of job) (memory (setup_of job) b) (state (setup_of job) b) (row_of b) i h.is_setup lt h.holds.kept

  pub source_within : (a : Access) → a ≡ source_access (setup_of job) b i → address_of a < length b.words
  source_within a is =
      subst (λ z. address_of z < length b.words) (sym (is ∙ at_place))
      (rw (address_same (shape (setup_of job)) (access (sides (setup_of job)) i (row_of b i)), h.holds.size.words)
      (below job.program (place_of (access (sides (setup_of job)) i (row_of b i))) on_board))

  pub source_adds_nothing : (a : Access) → a ≡ source_access (setup_of job) b i → FitsWords b.words a
  source_adds_nothing a is = subst (λ z. FitsWords b.words z) (sym is) (never_adds (setup_of job) b i (row_of b i).accepted (row_of b i).next (row_of b i).stage)

  pub answer_in_range : (q : Pusher) → q ≡ get_or ps i q → (a : Access) → a ≡ source_access (setup_of job) b i → (w : ℕ) → w ≡ slice_index b.words (address_of a) →
      IsAnswer (length (readings_of job.readings i)) q.row.stage w
  answer_in_range q is a access_is w found =
      let there = valid job.program (place_of (access (sides (setup_of job)) i (row_of b i))) on_board in
      let word = found ∙ (ap (λ z. slice_index b.words (address_of z)) (access_is ∙ at_place) ∙ (finds_there (shape (setup_of job)) b.words (access (sides (setup_of job)) i (row_of b i)) there
      ∙ found_is (row_of b i).accepted (row_of b i).next (row_of b i).stage)) in
      subst (λ (z : Row × ℕ). IsAnswer (length (readings_of job.readings i)) z.0.stage z.1) (sym (λ k. (row_is q is k, word k)))
      (answer_fits (sides (setup_of job)) (seen (memory (setup_of job) b) (state (setup_of job) b) (row_of b)) i (within (setup_of job) h.is_setup) lt h.holds.kept)
    where
      found_is : (n k : ℕ) (stage : Stage) → answer (memory (setup_of job) b) (Rattle.source_laws.specs.Rows.access_at (sides (setup_of job)) i n k stage)
          ≡ memory (setup_of job) b (place_of (Rattle.source_laws.specs.Rows.access_at (sides (setup_of job)) i n k stage))
      found_is n k LoadSrc = refl
      found_is n k (LoadSlots m seen) = refl
      found_is n k (LoadAck seen) = refl
      found_is n k LoadTail = refl
      found_is n k (LoadSlot p) = refl
      found_is n k (Publish p) = refl
      found_is n k (MoveTail p) = refl
      found_is n k (HelpTail p) = refl
      found_is n k StoreSkip = refl
      found_is n k StoreAccepted = refl

  -- the fields after the turn
  abbrev After : List ℕ → Pusher → Recorded → Board
  After words p x = record { words = words; kernel = b.kernel; rows = map row_in (set ps i p); charges = map charge_in (set records (b.begun - 1) x); begun = b.begun }

  module _ (q : Pusher) (is : q ≡ get_or ps i q) (a : Access) (access_is : a ≡ source_access (setup_of job) b i) (w : ℕ) (found : w ≡ slice_index b.words (address_of a)) where
    word_is : w ≡ finds b (source_access (setup_of job) b i)
    word_is = found ∙ ap (λ z. slice_index b.words (address_of z)) access_is

    point_is : (point : Point) → point ≡ point_of q.port.queue.places q.row.stage w →
        point ≡ point_of (port_of (sides (setup_of job)) i).queue.places (row_of b i).stage (finds b (source_access (setup_of job) b i))
    point_is point pointed = pointed ∙ (λ k. point_of (port_is q is k).queue.places (row_is q is k).stage (word_is k))

    pub source_made_is : (p : Pusher) (words : List ℕ) (point : Point) (o : Option Entry) (x : Recorded) → words ≡ performed a b.words →
        p.row ≡ take_of q.port (length (readings_of job.readings i)) q.row w → point ≡ point_of q.port.queue.places q.row.stage w → o ≡ entry_of_source i point →
        x.charge ≡ with_source i o (get_or records (b.begun - 1) none_recorded).charge → After words p x ≡ source_made (setup_of job) b i
    source_made_is p words point o x made taken pointed noted counts =
        let rows : map row_in (set ps i p) ≡ set b.rows i (take_of (port_of (sides (setup_of job)) i) (length (readings_of job.readings i)) (row_of b i) (finds b (source_access (setup_of job) b i))) =
        rows-set ps i p ∙ ((λ k. set (sym h.rows k) i (taken k)) ∙ (λ k. set b.rows i (take_of (port_is q is k) (length (readings_of job.readings i)) (row_is q is k) (word_is k)))) in
        let charges : map charge_in (set records (b.begun - 1) x)
        ≡ charged b (with_source i (entry_of_source i (point_of (port_of (sides (setup_of job)) i).queue.places (row_of b i).stage (finds b (source_access (setup_of job) b i))))) =
        charged_is b records x (with_source i (entry_of_source i (point_of (port_of (sides (setup_of job)) i).queue.places (row_of b i).stage (finds b (source_access (setup_of job) b i))))) h.charges
        (counts ∙ ap (λ z. with_source i z (get_or records (b.begun - 1) none_recorded).charge) (noted ∙ ap (λ z. entry_of_source i z) (point_is point pointed))) in
        λ k. record { words = (made ∙ ap (λ z. performed z b.words) access_is) k; kernel = b.kernel; rows = rows k; charges = charges k; begun = b.begun }

    pub access_made_is : (point : Point) (o : Option Entry) → point ≡ point_of q.port.queue.places q.row.stage w → o ≡ entry_of_source i point → record { access = Some a; word = w; entry = o } ≡ access_made (setup_of job) b i
    access_made_is point o pointed noted =
        λ k. record { access = Some (access_is k); word = word_is k; entry = (noted ∙ ap (λ z. entry_of_source i z) (point_is point pointed)) k }

    pub source_made_core : (p : Pusher) (words : List ℕ) (point : Point) (o : Option Entry) (x : Recorded) → 0 < b.begun → 0 < room → IsLeft (length (readings_of job.readings i)) (row_of b i) → words ≡ performed a b.words →
        p.port ≡ q.port → p.row ≡ take_of q.port (length (readings_of job.readings i)) q.row w → point ≡ point_of q.port.queue.places q.row.stage w → o ≡ entry_of_source i point →
        x.charge ≡ with_source i o (get_or records (b.begun - 1) none_recorded).charge → KeepsRoom (get_or records (b.begun - 1) none_recorded) x →
        IsCore job l (After words p x) (room - 1) (set ps i p) (set records (b.begun - 1) x)
    source_made_core p words point o x begun some left made port taken pointed noted counts spare =
        let long : length b.rows ≡ length ps = ap length h.rows ∙ length-map ps row_in in
        let known : i < length ps = let e = h.holds.size.rows in omega arith in
        let turn : source_turn (setup_of job) b i ≡ source_made (setup_of job) b i = ap (λ z. cond z (source_made (setup_of job) b i) b) left in
        let go = subst (λ z. Goes (setup_of job) (length job.charges) b z 1) turn (source_goes (setup_of job) (length job.charges) b i h.is_setup h.holds begun lt) in
        core_after job l b room ps records h (After words p x) (source_made (setup_of job) b i) (set ps i p) x (source_made_is p words point o x made taken pointed noted counts)
        go (source_settles (setup_of job) (length job.charges) b i h.is_setup h.holds go.holds h.settling begun lt) refl refl refl
        (λ n inside. elim (cases_eq n i) [
          | inl e ↦ subst (λ z. IsPusher (setup_of job) z (get_or (set ps i p) z no_pusher)) (sym e)
              (subst (λ z. IsPusher (setup_of job) i z) (sym (get_or-set_same ps i p no_pusher known)) (record { port = port ∙ port_is q is; right = (h.machines i lt).right }))
          | inr ne ↦ subst (λ z. IsPusher (setup_of job) n z) (sym (get_or-set_other ps i n p no_pusher ne)) (h.machines n inside)
        ])
        begun some
        (subst (λ z. CanCount (room - 1) z) (sym counts) (let c = h.records_are.counts in record {
          kernel = let e = c.kernel in omega arith;
          sources = λ j. counts_after (get_or records (b.begun - 1) none_recorded).charge.source_steps i j room some c.sources;
          ticks = let e = c.ticks in omega arith;
        }))
        spare
        (ap (λ (z : ChargeRecord). length z.source_steps) counts ∙ length-set (get_or records (b.begun - 1) none_recorded).charge.source_steps i (slice_index (get_or records (b.begun - 1) none_recorded).charge.source_steps i + 1))

  pub wanted_is : (q : Pusher) → q ≡ get_or ps i q → want_of q.port (readings_of job.readings i) q.row ≡ want_of (port_of (sides (setup_of job)) i) (readings_of job.readings i) (row_of b i)
  wanted_is q is = λ k. want_of (port_is q is k) (readings_of job.readings i) (row_is q is k)
