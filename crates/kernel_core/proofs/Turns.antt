-- A turn of the kernel and a turn of a source keep what holds.
use Rattle.kernel_core.proofs.Common.{◌≡◌, ℕ, ◌+◌, ◌-◌, ◌<◌, ◌≤◌, cond, Bool, true, false, length, set, Option, Some, None, refl, sym, ap, ◌∙◌, subst, arith, length-set, if◌then◌else◌, Event, Entry, Place, Clock, Memory, perform, answer, place_of, is_valid, Access, performed, at_address, performs, finds_there, performed_there, performed_length, entry_of_point, KernelPoint, valid, below, source_thread, Row, Point, first_row, take_of, point_of, is_left, IsLeft, access, port_of, Kept, SourceStep, source_step, kept_step, access_of-port, Model, ScanModel, thread_of, pending, committed, commit, expired, ended, end_at, consumed, is_expired, readings_of, noted, moved, MayNote, IsLegal, after, StandsPrivate, Background, after-noted, IsLegal-noted, Lasts, lasts_step, lasts_less, sound_after, follow_private, wants, takes, point_found, with_kernel, with_source, Setup, Board, shape, sides, journal, charged, finds, kernel_access, kernel_turn, source_made, source_turn, entry_of_source, row_of, seen, IsSetup, memory, state, KernelHolds, HasSize, Holds}
use Rattle.ink_layout.specs.declared.kernel_point.KernelPoint.TheVariants as points
use Rattle.kernel_core.proofs.Sides.{within, shared_of, Becomes-set}
use Rattle.kernel_core.proofs.Charges.{charged_journal, charged_later}
use Rattle.kernel_core.proofs.KernelTurns.{kernel_steps}
use Rattle.kernel_core.proofs.KernelPlaces.{kernel_on}
use Rattle.kernel_core.proofs.SourcePlaces.{source_on}
use Rattle.kernel_core.proofs.Others.{kernel_drifts, private_beside, source_beside, point_adds, point_legal, point_clock, point_follows}

-- the next board holds too; the clock has grown by at most so much, and the counts have used the room of one entry at most
pub record Goes (s : Setup) (count : ℕ) (b next : Board) (cost : ℕ) : Type 0 where
  pub holds : Holds s count next
  pub clock : (state s next).clock ≤ (state s b).clock + cost
  pub counts : (left : ℕ) → Lasts (left + 1) (state s b) → Lasts left (state s next)

-- what is known beside the registers, on a board that holds
pub background_of : (s : Setup) (count : ℕ) (b : Board) → IsSetup s → Holds s count b → Background s.program s.readings (memory s b) (state s b)
background_of s count b g h =
    let sound = sound_after s.program s.readings s.first (journal b) g.accepted g.short g.start.sound h.legal in
    record { accepted = g.accepted; private = h.private; shared = shared_of s (memory s b) (state s b) (row_of b) g sound h.kept h.clock; sound = sound }

-- an entry or none uses the room of one at most
noted_lasts : (s : Setup) (m : Model) (o : Option Entry) (left : ℕ) → MayNote s.program s.readings m o → Lasts (left + 1) m → Lasts left (moved s.program s.readings m o)
noted_lasts s m None left may h = lasts_less (left + 1) left m (omega arith) h
noted_lasts s m (Some e) left may h = lasts_step s.program s.readings left m e h may

-- a board whose journal has at most one entry more
pub goes_on : (s : Setup) (count : ℕ) (b next : Board) (o : Option Entry) (cost : ℕ) → Holds s count b → HasSize s count next → journal next ≡ noted (journal b) o → MayNote s.program s.readings (state s b) o →
    StandsPrivate (memory s next) s.program (moved s.program s.readings (state s b) o) → memory s next Clock ≡ (moved s.program s.readings (state s b) o).clock →
    Kept (sides s) (seen (memory s next) (moved s.program s.readings (state s b) o) (row_of next)) →
    KernelHolds s.program (memory s next) (moved s.program s.readings (state s b) o) next.kernel →
    (moved s.program s.readings (state s b) o).clock ≤ (state s b).clock + cost → Goes s count b next cost
goes_on s count b next o cost h size journal_is legal private clock kept registers later =
    let m : state s next ≡ moved s.program s.readings (state s b) o =
    ap (λ l. after s.program s.readings s.first l) journal_is ∙ after-noted s.program s.readings s.first (journal b) o in
    record {
      holds = record {
        size = size;
        legal = subst (λ l. IsLegal s.program s.readings s.first l) (sym journal_is) (IsLegal-noted s.program s.readings s.first (journal b) o h.legal legal);
        private = subst (λ (z : Model). StandsPrivate (memory s next) s.program z) (sym m) private;
        clock = subst (λ (z : Model). memory s next Clock ≡ z.clock) (sym m) clock;
        kept = subst (λ (z : Model). Kept (sides s) (seen (memory s next) z (row_of next))) (sym m) kept;
        registers = subst (λ (z : Model). KernelHolds s.program (memory s next) z next.kernel) (sym m) registers;
      };
      clock = subst (λ (z : Model). z.clock ≤ (state s b).clock + cost) (sym m) later;
      counts = λ left lasts. subst (λ (z : Model). Lasts left z) (sym m) (noted_lasts s (state s b) o left legal lasts);
    }

-- the clock is as it was
abbrev KeepsClock : Model → Model → Type 0
KeepsClock m next = next.clock ≡ m.clock

-- a commit leaves the clock
commit_clock : (s : Setup) (m : Model) (t : ℕ) → KeepsClock m (commit s.program t m)
commit_clock s m t = by_scan m.scan
  where
    running_clock : (r : Bool) (e : Event) → (consumed r e m).clock ≡ m.clock
    running_clock true e = refl
    running_clock false e = refl

    either : (late : Bool) (e : Event) (time : ℕ) →
        (if late then expired t e m else ended t e time (end_at s.program m t e time) (consumed (Rattle.never_cut.specs.State.is_running (thread_of m t)) e m)).clock ≡ m.clock
    either true e time = refl
    either false e time = running_clock (Rattle.never_cut.specs.State.is_running (thread_of m t)) e

    by_pending : (scan : ScanModel) (q : Option Event) → KeepsClock m (elim q [ None ↦ m | Some e ↦ committed s.program t e scan.time m ])
    by_pending scan None = refl
    by_pending scan (Some e) = either (is_expired s.program m t scan.time) e scan.time

    by_scan : (o : Option ScanModel) → KeepsClock m (elim o [ None ↦ m | Some scan ↦ elim (pending s.program m t) [ None ↦ m | Some e ↦ committed s.program t e scan.time m ] ])
    by_scan None = refl
    by_scan (Some scan) = by_pending scan (pending s.program m t)

-- and so does each entry of the kernel
kernel_clock : (s : Setup) (m : Model) (p : KernelPoint) → KeepsClock m (moved s.program s.readings m (entry_of_point p))
kernel_clock s m points.Nothing = refl
kernel_clock s m points.Scan = refl
kernel_clock s m (points.Look t) = refl
kernel_clock s m (points.Commit t) = commit_clock s m t.0
kernel_clock s m (points.Release t) = refl

-- the kernel's turn where its access finds this word
abbrev pub turned : Setup → Board → ℕ → Board
turned s b word =
    record {
      words = performed (kernel_access s b) b.words;
      kernel = takes s.program b.kernel word;
      rows = b.rows;
      charges = charged b (with_kernel (entry_of_point (point_found s.program b.kernel word)));
      begun = b.begun;
    }

pub kernel_goes : (s : Setup) (count : ℕ) (b : Board) → IsSetup s → Holds s count b → 0 < b.begun → Lasts 0 (state s b) → Goes s count b (kernel_turn s b) 1
kernel_goes s count b g h some room =
    let m : Model = state s b in
    let bg = background_of s count b g h in
    let a = wants s.program b.kernel in
    let word : ℕ = answer (memory s b) (wants s.program b.kernel) in
    let on = kernel_on s (memory s b) (state s b) b.kernel g bg room h.registers in
    let there : is_valid (shape s) (place_of (wants s.program b.kernel)) ≡ true = valid s.program (place_of (wants s.program b.kernel)) on in
    let words : memory s (turned s b (answer (memory s b) (wants s.program b.kernel))) ≡ perform (memory s b) (wants s.program b.kernel) =
    performed_there (shape s) b.words (wants s.program b.kernel) there (rw h.size.words (below s.program (place_of (wants s.program b.kernel)) on)) in
    let step = kernel_steps s (memory s b) (state s b) (row_of b) b.kernel g bg room h.registers in
    let p : KernelPoint = point_found s.program b.kernel (answer (memory s b) (wants s.program b.kernel)) in
    let o : Option Entry = entry_of_point (point_found s.program b.kernel (answer (memory s b) (wants s.program b.kernel))) in
    let next : Model = moved s.program s.readings (state s b) (entry_of_point (point_found s.program b.kernel (answer (memory s b) (wants s.program b.kernel)))) in
    let same_clock = kernel_clock s (state s b) (point_found s.program b.kernel (answer (memory s b) (wants s.program b.kernel))) in
    subst (λ (v : ℕ). Goes s count b (turned s b v) 1) (sym (finds_there (shape s) b.words (wants s.program b.kernel) there))
    (goes_on s count b (turned s b word) o 1 h
    (record {
      words = performed_length (kernel_access s b) b.words ∙ h.size.words;
      rows = h.size.rows;
      charges_count = length-set b.charges (b.begun - 1) _ ∙ h.size.charges_count;
      begun = h.size.begun;
      later = charged_later s count b (with_kernel o) h.size some;
    })
    (charged_journal s count b (with_kernel o) o h.size some refl)
    step.kept.legal
    (subst (λ (n : Memory). StandsPrivate n s.program next) (sym words) step.kept.private)
    (ap (λ (n : Memory). n Clock) words ∙ step.kept.shared.clock)
    (subst (λ (n : Memory). Kept (sides s) (seen n next (row_of b))) (sym words)
    (kept_step (sides s) (seen (memory s b) (state s b) (row_of b)) (seen (perform (memory s b) (wants s.program b.kernel)) next (row_of b)) (within s g) h.kept step.step))
    (subst (λ (n : Memory). KernelHolds s.program n next (takes s.program b.kernel word)) (sym words) step.holds)
    (omega (arith, same_clock)))

-- the source's turn where its access finds this word
abbrev source_turned : Setup → Board → ℕ → Access → ℕ → Board
source_turned s b i a word =
    record {
      words = performed a b.words;
      kernel = b.kernel;
      rows = set b.rows i (take_of (port_of (sides s) i) (length (readings_of s.readings i)) (row_of b i) word);
      charges = charged b (with_source i (entry_of_source i (point_of (port_of (sides s) i).queue.places (row_of b i).stage word)));
      begun = b.begun;
    }

source_made_goes : (s : Setup) (count : ℕ) (b : Board) (i : ℕ) → IsSetup s → Holds s count b → 0 < b.begun → i < length s.program.sources → IsLeft (length (readings_of s.readings i)) (row_of b i) →
    Goes s count b (source_made s b i) 1
source_made_goes s count b i g h some lt left =
    let m : Model = state s b in
    let bg = background_of s count b g h in
    let row : Row = row_of b i in
    let a = access (sides s) i (row_of b i) in
    let word : ℕ = answer (memory s b) (access (sides s) i (row_of b i)) in
    let p : Point = point_of (port_of (sides s) i).queue.places (row_of b i).stage (answer (memory s b) (access (sides s) i (row_of b i))) in
    let o : Option Entry = entry_of_source i p in
    let next : Model = moved s.program s.readings (state s b) (entry_of_source i p) in
    let on = source_on s (memory s b) (state s b) (row_of b) i g lt h.kept in
    let there : is_valid (shape s) (place_of (access (sides s) i (row_of b i))) ≡ true = valid s.program (place_of (access (sides s) i (row_of b i))) on in
    let board : Board = source_turned s b i (at_address (shape s) (access (sides s) i (row_of b i))) (answer (memory s b) (access (sides s) i (row_of b i))) in
    let words : memory s board ≡ perform (memory s b) (access (sides s) i (row_of b i)) =
    performed_there (shape s) b.words (access (sides s) i (row_of b i)) there (rw h.size.words (below s.program (place_of (access (sides s) i (row_of b i))) on)) in
    let known : i < length (state s b).sources = rw bg.sound.shape.sources lt in
    let fed : source_thread s.program i < length (state s b).threads = rw bg.sound.shape.threads (g.accepted.sources i lt) in
    let there_row : i < length b.rows = rw h.size.rows lt in
    let step : SourceStep (sides s) i (seen (memory s b) (state s b) (row_of b)) (seen (perform (memory s b) (access (sides s) i (row_of b i))) next (row_of board)) =
    record {
      left = left;
      word = performs (memory s b) (access (sides s) i (row_of b i));
      row = Becomes-set b.rows i _ first_row there_row;
      model = point_adds s (state s b) i known fed p;
    } in
    let kept = source_step (sides s) (seen (memory s b) (state s b) (row_of b)) (seen (perform (memory s b) (access (sides s) i (row_of b i))) next (row_of board)) i (within s g) lt h.kept step in
    let legal : MayNote s.program s.readings (state s b) (entry_of_source i p) = point_legal s (state s b) i known fed p lt kept.0 in
    let same = λ (q : Place) (own : Rattle.never_cut.specs.kept.Actors.IsPrivate q). source_beside (sides s) (memory s b) i (row_of b i).accepted (row_of b i).next (row_of b i).stage q (private_beside q own) in
    let follows = point_follows s (state s b) i p fed in
    subst (λ (z : Access × ℕ). Goes s count b (source_turned s b i z.0 z.1) 1)
    (sym (λ k. (
      access_of-port (sides s) i (row_of b i) k,
      (ap (λ z. finds b z) (access_of-port (sides s) i (row_of b i)) ∙ finds_there (shape s) b.words (access (sides s) i (row_of b i)) there) k,
    )))
    (goes_on s count b board o 1 h
    (record {
      words = performed_length (at_address (shape s) (access (sides s) i (row_of b i))) b.words ∙ h.size.words;
      rows = length-set b.rows i _ ∙ h.size.rows;
      charges_count = length-set b.charges (b.begun - 1) _ ∙ h.size.charges_count;
      begun = h.size.begun;
      later = charged_later s count b (with_source i o) h.size some;
    })
    (charged_journal s count b (with_source i o) o h.size some refl)
    legal
    (subst (λ (n : Memory). StandsPrivate n s.program next) (sym words)
    (follow_private (memory s b) (perform (memory s b) (access (sides s) i (row_of b i))) s.program (state s b) next same follows h.private))
    (ap (λ (n : Memory). n Clock) words
    ∙ (source_beside (sides s) (memory s b) i (row_of b i).accepted (row_of b i).next (row_of b i).stage Clock tt ∙ (h.clock ∙ sym (point_clock s (state s b) i known fed p))))
    (subst (λ (n : Memory). Kept (sides s) (seen n next (row_of board))) (sym words) kept.1)
    (subst (λ (n : Memory). KernelHolds s.program n next b.kernel) (sym words)
    (kernel_drifts s.program (memory s b) (perform (memory s b) (access (sides s) i (row_of b i))) (state s b) next b.kernel same follows h.registers))
    (omega (arith, point_clock s (state s b) i known fed p)))

pub source_goes : (s : Setup) (count : ℕ) (b : Board) (i : ℕ) → IsSetup s → Holds s count b → 0 < b.begun → i < length s.program.sources → Goes s count b (source_turn s b i) 1
source_goes s count b i g h some lt = by_left (is_left (length (readings_of s.readings i)) (row_of b i)) refl
  where
    by_left : (t : Bool) → is_left (length (readings_of s.readings i)) (row_of b i) ≡ t → Goes s count b (cond t (source_made s b i) b) 1
    by_left true left = source_made_goes s count b i g h some lt left
    by_left false none = record { holds = h; clock = omega arith; counts = λ left lasts. lasts_less (left + 1) left (state s b) (omega arith) lasts }
