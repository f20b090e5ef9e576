-- A board within a greater one: with charges before its own and charges behind them.
use Rattle.going_on.proofs.Common.{◌≡◌, ℕ, suc, ◌+◌, ◌-◌, ◌<◌, ◌≤◌, Bool, true, false, List, [], ◌∷◌, ◌++◌, length, take, set, if◌then◌else◌, refl, sym, ap, ◌∙◌, subst, arith, length-set, append_assoc, get_or-append-add, get_or_append_left, set-append_left, set-append_right, Actor, Access, performed, is_left, take_of, point_of, access_of, port_of, Readings, readings_of, Model, Setup, Board, Move, Cut, Turn, sides, charged, finds, kernel_access, kernel_turn, row_of, source_made, clock_turn, turn, cut, move, moved_by, entry_of_source, point_found, AreMoves, IsActor, ChargeRecord, begun, charge_of, journal_of, not_begun, with_kernel, with_source, with_tick}
use Rattle.ink_base.specs.declared.actor.Actor.TheVariants as actors
use Rattle.ink_layout.specs.Points.{entry_of_point}
use Rattle.kernel_core.proofs.Runs.{turn_begun}

-- the greater board
abbrev pub widened : (before behind : List ChargeRecord) → Board → Board
widened before behind b = record b { charges = before ++ (b.charges ++ behind); begun = length before + b.begun }

-- the same program with other readings and another first state
abbrev pub other : Setup → Readings → Model → Setup
other s readings first = record { program = s.program; readings = readings; first = first }

-- a source has as many readings with both, and makes the same access next
abbrev pub Agrees : Setup → Readings → Board → ℕ → Type 0
Agrees s readings b i =
    (length (readings_of readings i) ≡ length (readings_of s.readings i)) ×
    (access_of (port_of (sides s) i) (readings_of readings i) (row_of b i) ≡ access_of (port_of (sides s) i) (readings_of s.readings i) (row_of b i))

-- so it is of each source
abbrev pub AllAgree : Setup → Readings → Board → Type 0
AllAgree s readings b = (i : ℕ) → i < length s.program.sources → Agrees s readings b i

-- what a source with so many readings makes of its turn by this access
abbrev made_with : Setup → Board → ℕ → (number : ℕ) → Access → Board
made_with s b i number a =
    record {
      words = performed a b.words;
      kernel = b.kernel;
      rows = set b.rows i (take_of (port_of (sides s) i) number (row_of b i) (finds b a));
      charges = charged b (with_source i (entry_of_source i (point_of (port_of (sides s) i).queue.places (row_of b i).stage (finds b a))));
      begun = b.begun;
    }

abbrev turned_with : Setup → Board → ℕ → (number : ℕ) → Access → Board
turned_with s b i number a = if is_left number (row_of b i) then made_with s b i number a else b

-- a turn keeps the number of charges
pub turn_charges : (s : Setup) (b : Board) (a : Actor) → length (turn s b a).charges ≡ length b.charges
turn_charges s b actors.Kernel = length-set b.charges _ _
turn_charges s b (actors.Source i) = by_left (is_left (length (readings_of s.readings i.0)) (row_of b i.0))
  where
    by_left : (t : Bool) → length (if t then source_made s b i.0 else b).charges ≡ length b.charges
    by_left true = length-set b.charges _ _
    by_left false = refl
turn_charges s b actors.Clock = length-set b.charges _ _

module _ (before behind : List ChargeRecord) where
  at_part : (own : List ChargeRecord) (k : ℕ) → k < length own → charge_of (before ++ (own ++ behind)) (length before + k) ≡ charge_of own k
  at_part own k lt = get_or-append-add before (own ++ behind) k (not_begun 0) ∙ get_or_append_left own behind (not_begun 0) k lt

  set_part : (own : List ChargeRecord) (k : ℕ) (x : ChargeRecord) → k < length own →
      set (before ++ (own ++ behind)) (length before + k) x ≡ before ++ (set own k x ++ behind)
  set_part own k x lt =
      set-append_right before (own ++ behind) (length before) (length before + k) x refl (omega arith)
      ∙ (ap (λ n. before ++ set (own ++ behind) n x) (let e : length before + k - length before ≡ k = omega arith in e)
      ∙ ap (λ l. before ++ l) (set-append_left own behind k x lt))

  changed_part : (own : List ChargeRecord) (k : ℕ) (f : ChargeRecord → ChargeRecord) → k < length own →
      set (before ++ (own ++ behind)) (length before + k) (f (charge_of (before ++ (own ++ behind)) (length before + k)))
      ≡ before ++ (set own k (f (charge_of own k)) ++ behind)
  changed_part own k f lt =
      ap (λ (c : ChargeRecord). set (before ++ (own ++ behind)) (length before + k) (f c)) (at_part own k lt) ∙ set_part own k (f (charge_of own k)) lt

  charged_part : (b : Board) (f : ChargeRecord → ChargeRecord) → 0 < b.begun → b.begun ≤ length b.charges →
      charged (widened before behind b) f ≡ before ++ (charged b f ++ behind)
  charged_part b f some few =
      let at : length before + b.begun - 1 ≡ length before + (b.begun - 1) = omega arith in
      ap (λ n. set (before ++ (b.charges ++ behind)) n (f (charge_of (before ++ (b.charges ++ behind)) n))) at
      ∙ changed_part b.charges (b.begun - 1) f (omega arith)

  module _ (s : Setup) (readings : Readings) (first : Model) where
    -- each turn is that of the part
    part_made : (b : Board) (i number : ℕ) (a : Access) → 0 < b.begun → b.begun ≤ length b.charges →
        made_with s (widened before behind b) i number a ≡ widened before behind (made_with s b i number a)
    part_made b i number a some few =
        ap (λ (l : List ChargeRecord). record (made_with s b i number a) { charges = l; begun = length before + b.begun })
        (charged_part b (with_source i (entry_of_source i (point_of (port_of (sides s) i).queue.places (row_of b i).stage (finds b a)))) some few)

    part_turned : (b : Board) (i number : ℕ) (a : Access) → 0 < b.begun → b.begun ≤ length b.charges →
        turned_with s (widened before behind b) i number a ≡ widened before behind (turned_with s b i number a)
    part_turned b i number a some few = by_left (is_left number (row_of b i))
      where
        by_left : (t : Bool) → (if t then made_with s (widened before behind b) i number a else widened before behind b)
            ≡ widened before behind (if t then made_with s b i number a else b)
        by_left true = part_made b i number a some few
        by_left false = refl

    part_turn : (b : Board) (actor : Actor) → 0 < b.begun → b.begun ≤ length b.charges → IsActor s actor → AllAgree s readings (widened before behind b) →
        turn s (widened before behind b) actor ≡ widened before behind (turn (other s readings first) b actor)
    part_turn b actors.Kernel some few is agree =
        ap (λ (l : List ChargeRecord). record (kernel_turn (other s readings first) b) { charges = l; begun = length before + b.begun })
        (charged_part b (with_kernel (entry_of_point (point_found s.program b.kernel (finds b (kernel_access s b))))) some few)
    part_turn b (actors.Source i) some few is agree =
        let same = agree i.0 is in
        sym (λ k. turned_with s (widened before behind b) i.0 (same.0 k) (same.1 k))
        ∙ part_turned b i.0 (length (readings_of readings i.0)) (access_of (port_of (sides s) i.0) (readings_of readings i.0) (row_of b i.0)) some few
    part_turn b actors.Clock some few is agree =
        ap (λ (l : List ChargeRecord). record (clock_turn (other s readings first) b) { charges = l; begun = length before + b.begun })
        (charged_part b with_tick some few)

    -- and each cut
    pub part_cut : (b : Board) (off : ℕ) → b.begun < length b.charges →
        cut s (widened before behind b) off ≡ widened before behind (cut (other s readings first) b off)
    part_cut b off left =
        let more : length before + b.begun + 1 ≡ length before + (b.begun + 1) = omega arith in
        λ k. record (cut (other s readings first) b off) { charges = changed_part b.charges b.begun (begun off) left k; begun = more k }

    part_move : (b : Board) (m : Move) (rest : List Move) → b.begun ≤ length b.charges → AreMoves s (length b.charges) b.begun (m ∷ rest) →
        AllAgree s readings (widened before behind b) →
        move s (widened before behind b) m ≡ widened before behind (move (other s readings first) b m)
    part_move b (Cut off) rest few are agree = part_cut b off are.0
    part_move b (Turn actor) rest few are agree = part_turn b actor are.0 few are.1 agree

    later_moves : (b : Board) (m : Move) (rest : List Move) → b.begun ≤ length b.charges → AreMoves s (length b.charges) b.begun (m ∷ rest) →
        let next = move (other s readings first) b m in (next.begun ≤ length next.charges) × AreMoves s (length next.charges) next.begun rest
    later_moves b (Cut off) rest few are =
        let same = length-set b.charges b.begun (begun off (charge_of b.charges b.begun)) in
        (let left = are.0 in omega arith, subst (λ n. AreMoves s n (b.begun + 1) rest) (sym same) are.1)
    later_moves b (Turn actor) rest few are =
        let same = turn_charges (other s readings first) b actor in
        let at = turn_begun (other s readings first) b actor in
        (omega arith, subst (λ (z : ℕ × ℕ). AreMoves s z.0 z.1 rest) (λ k. (sym same k, sym at k)) are.2)

    -- after any moves the greater board is that of the part
    pub part_moves : (b : Board) (ms : List Move) → b.begun ≤ length b.charges → AreMoves s (length b.charges) b.begun ms →
        ((n : ℕ) → AllAgree s readings (moved_by s (widened before behind b) (take n ms))) →
        moved_by s (widened before behind b) ms ≡ widened before behind (moved_by (other s readings first) b ms)
    part_moves b [] few are agree = refl
    part_moves b (m ∷ ms) few are agree =
        let next : Board = move (other s readings first) b m in
        let here : move s (widened before behind b) m ≡ widened before behind next = part_move b m ms few are (agree 0) in
        let later = later_moves b m ms few are in
        ap (λ (x : Board). moved_by s x ms) here
        ∙ part_moves next ms later.0 later.1 (λ n. subst (λ (x : Board). AllAgree s readings (moved_by s x (take n ms))) here (agree (suc n)))

-- the journal of the greater board, where nothing stands behind
pub joined_journal : (before cs : List ChargeRecord) (n : ℕ) →
    journal_of (before ++ cs) (length before + n) ≡ journal_of before (length before) ++ journal_of cs n
joined_journal [] cs n = ap (λ k. journal_of cs k) (let e : 0 + n ≡ n = omega arith in e)
joined_journal (c ∷ before) cs n =
    ap (λ k. journal_of (c ∷ (before ++ cs)) k) (let e : suc (length before) + n ≡ suc (length before + n) = omega arith in e)
    ∙ (ap (λ l. c.entries ++ l) (joined_journal before cs n) ∙ sym (append_assoc c.entries (journal_of before (length before)) (journal_of cs n)))
