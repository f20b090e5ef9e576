-- What a source's access makes of its pace and of the others'.
use Rattle.kernel_core.proofs.Common.{◌≡◌, ℕ, ◌+◌, ◌-◌, ◌<◌, ◌≤◌, Bool, List, length, set, slice_index, sym, ap, ◌∙◌, subst, inl, inr, arith, cases_lt, get_or-set_same, get_or-set_other, get_or_past, length-set, Entry, Tail, Memory, performs, place_of, source_thread, Row, Point, first_row, take_of, point_of, access, port_of, places_for, Adds, Model, readings_of, ChargeRecord, charge_of, with_source, Setup, Board, sides, finds, source_access, source_made, entry_of_source, row_of, sides_of, IsSetup, memory, state, Holds}
use Rattle.std.specs.List.{count_by}
use Rattle.fram_words.specs.Accesses.{Makes}
use Rattle.push_core.specs.Queue.{published}
use Rattle.source_laws.specs.Rows.{entry_of}
use Rattle.kernel_core.specs.Settled.{settles, pushes_beside}
use Rattle.kernel_core.specs.kept.Paces.{IsPaced, IsPacedIn}
use Rattle.kernel_core.proofs.Others.{point_adds}
use Rattle.kernel_core.proofs.Turns.{background_of}
use Rattle.kernel_core.proofs.SourcePaces.{others_pace}
use Rattle.kernel_core.proofs.PaceSteps.{settled_at, source_tails, source_events, source_pace}
use Rattle.kernel_core.proofs.SettledCharges.{counted, count_noted, own_counts, beside_counts}
use Rattle.kernel_core.proofs.TurnViews.{viewed, source_finds, source_words, source_point, source_state}

-- one access more is counted at most
counted_up : (counts : List ℕ) (i : ℕ) → slice_index (set counts i (slice_index counts i + 1)) i ≤ slice_index counts i + 1
counted_up counts i = elim (cases_lt i (length counts)) [
  | inl lt ↦ let same = get_or-set_same counts i (slice_index counts i + 1) 0 lt in omega arith
  | inr past ↦ let none = get_or_past (set counts i (slice_index counts i + 1)) i 0 (rw (length-set counts i (slice_index counts i + 1)) past) in omega arith
]

module _ (s : Setup) (count : ℕ) (b : Board) (g : IsSetup s) (h : Holds s count b) (some : 0 < b.begun) (j : ℕ) (lt : j < length s.program.sources) where
  -- the point of the access
  abbrev point : Point
  point = source_point s count b g h some j lt

  -- the record of the charge after the access
  abbrev pub source_record : ChargeRecord
  source_record =
      let c : ChargeRecord = charge_of b.charges (b.begun - 1) in
      with_source j (entry_of_source j (point_of (port_of (sides s) j).queue.places (row_of b j).stage (finds b (source_access s b j)))) c

  noted_point : entry_of_source j (point_of (port_of (sides s) j).queue.places (row_of b j).stage (finds b (source_access s b j))) ≡ entry_of_source j point
  noted_point = ap (λ w. entry_of_source j (point_of (port_of (sides s) j).queue.places (row_of b j).stage w)) (source_finds s count b g h some j lt)

  count_point : (test : Entry → Bool) → count_by test source_record.entries ≡ count_by test (charge_of b.charges (b.begun - 1)).entries + counted test (entry_of_source j point)
  count_point test =
      count_noted test (charge_of b.charges (b.begun - 1)).entries (entry_of_source j (point_of (port_of (sides s) j).queue.places (row_of b j).stage (finds b (source_access s b j))))
      ∙ ap (λ o. count_by test (charge_of b.charges (b.begun - 1)).entries + counted test o) noted_point

  makes : Makes (access (sides s) j (row_of b j)) (memory s b) (memory s (source_made s b j))
  makes = subst (λ (w : Memory). Makes (access (sides s) j (row_of b j)) (memory s b) w) (sym (source_words s count b g h some j lt)) (performs (memory s b) (access (sides s) j (row_of b j)))

  adds : Adds (sides s) (entry_of j point) (sides_of (state s b)) (sides_of (state s (source_made s b j)))
  adds =
      let bg = background_of s count b g h in
      let known : j < length (state s b).sources = rw bg.sound.shape.sources lt in
      let fed : source_thread s.program j < length (state s b).threads = rw bg.sound.shape.threads (g.accepted.sources j lt) in
      subst (λ (m : Model). Adds (sides s) (entry_of j point) (sides_of (state s b)) (sides_of m)) (sym (source_state s count b g h some j lt)) (point_adds s (state s b) j known fed point)

  -- the source's own pace
  pub own_paced : IsPacedIn s b j (charge_of b.charges (b.begun - 1)) → IsPacedIn s (source_made s b j) j source_record
  own_paced p =
      let c : ChargeRecord = charge_of b.charges (b.begun - 1) in
      let t : ℕ = source_thread s.program j in
      let next : Board = source_made s b j in
      let row : row_of (source_made s b j) j ≡ take_of (port_of (sides s) j) (length (readings_of s.readings j)) (row_of b j) (memory s b (place_of (access (sides s) j (row_of b j)))) =
      get_or-set_same b.rows j _ first_row (rw h.size.rows lt) ∙ ap (λ w. take_of (port_of (sides s) j) (length (readings_of s.readings j)) (row_of b j) w) (source_finds s count b g h some j lt) in
      let after = source_pace (sides s) (viewed s b) (viewed s next) j h.kept (slice_index c.source_steps j) (count_by (settles j) c.entries) (count_by (pushes_beside s.program j) c.entries)
      (row_of b j).accepted (row_of b j).next (row_of b j).stage (h.kept.sources j).knows makes adds p in
      let settled = count_point (settles j) in
      let own = own_counts j point in
      let beside = count_point (pushes_beside s.program j) in
      let made = counted_up c.source_steps j in
      subst (λ (r : Row). IsPaced (places_for (sides s) j) (slice_index source_record.source_steps j) (count_by (settles j) source_record.entries) (count_by (pushes_beside s.program j) source_record.entries)
      (memory s next (Tail t)) (published ((sides_of (state s next)).queue t)) r.stage) (sym row)
      (others_pace (places_for (sides s) j) (slice_index c.source_steps j + 1) (count_by (settles j) c.entries + settled_at point) (count_by (pushes_beside s.program j) c.entries) (memory s next (Tail t))
      (published ((sides_of (state s next)).queue t)) _
      (slice_index source_record.source_steps j) (count_by (settles j) source_record.entries) (count_by (pushes_beside s.program j) source_record.entries) (memory s next (Tail t))
      (published ((sides_of (state s next)).queue t)) (omega arith) (omega arith) (omega arith) (omega arith) after)

  -- and that of another
  pub other_paced : (i : ℕ) → (i ≡ j → ⊥) → IsPacedIn s b i (charge_of b.charges (b.begun - 1)) → IsPacedIn s (source_made s b j) i source_record
  other_paced i other p =
      let c : ChargeRecord = charge_of b.charges (b.begun - 1) in
      let t : ℕ = source_thread s.program i in
      let next : Board = source_made s b j in
      let row : row_of (source_made s b j) i ≡ row_of b i = get_or-set_other b.rows j i _ first_row other in
      let settled = count_point (settles i) in
      let beside = count_point (pushes_beside s.program i) in
      let pushed = beside_counts s i j point (λ e. other (sym e)) in
      let made : slice_index source_record.source_steps i ≡ slice_index c.source_steps i = get_or-set_other c.source_steps j i (slice_index c.source_steps j + 1) 0 other in
      let events = source_events (sides s) (viewed s b) (viewed s next) j t point adds in
      subst (λ (r : Row). IsPaced (places_for (sides s) i) (slice_index source_record.source_steps i) (count_by (settles i) source_record.entries) (count_by (pushes_beside s.program i) source_record.entries)
      (memory s next (Tail t)) (published ((sides_of (state s next)).queue t)) r.stage) (sym row)
      (others_pace (places_for (sides s) i) (slice_index c.source_steps i) (count_by (settles i) c.entries) (count_by (pushes_beside s.program i) c.entries) (memory s b (Tail t))
      (published ((sides_of (state s b)).queue t)) (row_of b i).stage
      (slice_index source_record.source_steps i) (count_by (settles i) source_record.entries) (count_by (pushes_beside s.program i) source_record.entries) (memory s next (Tail t))
      (published ((sides_of (state s next)).queue t)) (omega arith) (omega arith)
      (source_tails (sides s) (viewed s b) (viewed s next) j (row_of b j).accepted (row_of b j).next t (row_of b j).stage makes) (omega arith) p)
