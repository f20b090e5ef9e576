-- What the sources' side sees of a turn.
use Rattle.kernel_core.proofs.Common.{◌≡◌, inl, ℕ, ◌-◌, ◌<◌, true, length, Option, Some, refl, sym, ap, ◌∙◌, subst, Entry, Tick, Clock, Memory, Add, memory_of, perform, performed, answer, place_of, is_valid, finds_there, performed_there, entry_of_point, valid, below, access, access_of-port, State, Step, Model, noted, moved, after, after-noted, Lasts, wants, point_found, ChargeRecord, charge_of, journal_of, with_kernel, with_tick, with_source, Point, point_of, port_of, Setup, Board, shape, sides, journal, charged, finds, kernel_access, kernel_turn, clock_turn, source_access, source_made, entry_of_source, row_of, seen, IsSetup, memory, state, Holds}
use Rattle.source_laws.specs.Steps as steps
use Rattle.kernel_core.proofs.Quiet.{quiet}
use Rattle.kernel_core.proofs.Charges.{charged_journal}
use Rattle.kernel_core.proofs.KernelTurns.{kernel_steps}
use Rattle.kernel_core.proofs.KernelPlaces.{kernel_on}
use Rattle.kernel_core.proofs.SourcePlaces.{source_on}
use Rattle.kernel_core.proofs.Turns.{background_of}

-- a board as the sources' side sees it
abbrev pub viewed : Setup → Board → State
viewed s b = seen (memory s b) (state s b) (row_of b)

module _ (s : Setup) (count : ℕ) (b : Board) (g : IsSetup s) (h : Holds s count b) (some : 0 < b.begun) where
  -- the state after a turn that notes an entry in the charge at hand
  noted_state : (next : Board) (f : ChargeRecord → ChargeRecord) (o : Option Entry) → next.charges ≡ charged b f → next.begun ≡ b.begun →
      (f (charge_of b.charges (b.begun - 1))).entries ≡ noted (charge_of b.charges (b.begun - 1)).entries o → state s next ≡ moved s.program s.readings (state s b) o
  noted_state next f o charges begun is =
      let grown : journal next ≡ noted (journal b) o = (λ k. journal_of (charges k) (begun k)) ∙ charged_journal s count b f o h.size some is in
      ap (λ l. after s.program s.readings s.first l) grown ∙ after-noted s.program s.readings s.first (journal b) o

  -- a turn of the kernel
  pub kernel_view : Lasts 0 (state s b) → Step (sides s) (viewed s b) (viewed s (kernel_turn s b))
  kernel_view room =
      let bg = background_of s count b g h in
      let on = kernel_on s (memory s b) (state s b) b.kernel g bg room h.registers in
      let there : is_valid (shape s) (place_of (wants s.program b.kernel)) ≡ true = valid s.program (place_of (wants s.program b.kernel)) on in
      let found = finds_there (shape s) b.words (wants s.program b.kernel) there in
      let words : memory s (kernel_turn s b) ≡ perform (memory s b) (wants s.program b.kernel) =
      performed_there (shape s) b.words (wants s.program b.kernel) there (rw h.size.words (below s.program (place_of (wants s.program b.kernel)) on)) in
      let noted_one : Option Entry = entry_of_point (point_found s.program b.kernel (finds b (kernel_access s b))) in
      let model : state s (kernel_turn s b) ≡ moved s.program s.readings (state s b) (entry_of_point (point_found s.program b.kernel (answer (memory s b) (wants s.program b.kernel)))) =
      noted_state (kernel_turn s b) (with_kernel noted_one) noted_one refl refl refl
      ∙ ap (λ w. moved s.program s.readings (state s b) (entry_of_point (point_found s.program b.kernel w))) found in
      subst (λ (z : Memory × Model). Step (sides s) (viewed s b) (seen z.0 z.1 (row_of b))) (sym (λ k. (words k, model k)))
      (kernel_steps s (memory s b) (state s b) (row_of b) b.kernel g bg room h.registers).step

  -- a turn of the clock
  pub clock_view : Step (sides s) (viewed s b) (viewed s (clock_turn s b))
  clock_view =
      let words : memory s (clock_turn s b) ≡ perform (memory s b) (Add Clock 1) =
      performed_there (shape s) b.words (Add Clock 1) (valid s.program Clock tt) (rw h.size.words (below s.program Clock tt)) in
      let model = noted_state (clock_turn s b) with_tick (Some (Tick 1)) refl refl refl in
      subst (λ (z : Memory × Model). Step (sides s) (viewed s b) (seen z.0 z.1 (row_of b))) (sym (λ k. (words k, model k)))
      (steps.Apart (quiet (memory s b) (Add Clock 1) (λ x. x)) refl (λ i. inl refl))

  module _ (i : ℕ) (lt : i < length s.program.sources) where
    there : is_valid (shape s) (place_of (access (sides s) i (row_of b i))) ≡ true
    there = valid s.program (place_of (access (sides s) i (row_of b i))) (source_on s (memory s b) (state s b) (row_of b) i g lt h.kept)

    -- the word that a source's access finds, and the words that it leaves
    pub source_finds : finds b (source_access s b i) ≡ memory s b (place_of (access (sides s) i (row_of b i)))
    source_finds = ap (λ z. finds b z) (access_of-port (sides s) i (row_of b i)) ∙ finds_there (shape s) b.words (access (sides s) i (row_of b i)) there

    pub source_words : memory s (source_made s b i) ≡ perform (memory s b) (access (sides s) i (row_of b i))
    source_words =
        ap (λ z. memory_of (shape s) (performed z b.words)) (access_of-port (sides s) i (row_of b i))
        ∙ performed_there (shape s) b.words (access (sides s) i (row_of b i)) there
        (rw h.size.words (below s.program (place_of (access (sides s) i (row_of b i))) (source_on s (memory s b) (state s b) (row_of b) i g lt h.kept)))

    -- the point of its access, and the state after it
    abbrev pub source_point : Point
    source_point = point_of (port_of (sides s) i).queue.places (row_of b i).stage (memory s b (place_of (access (sides s) i (row_of b i))))

    pub source_state : state s (source_made s b i) ≡ moved s.program s.readings (state s b) (entry_of_source i source_point)
    source_state =
        let o : Option Entry = entry_of_source i (point_of (port_of (sides s) i).queue.places (row_of b i).stage (finds b (source_access s b i))) in
        noted_state (source_made s b i) (with_source i o) o refl refl refl
        ∙ ap (λ w. moved s.program s.readings (state s b) (entry_of_source i (point_of (port_of (sides s) i).queue.places (row_of b i).stage w))) source_finds
