-- The accesses that look for an item of a pipe.
use Rattle.priority_sched.proofs.Common.{◌≡◌, ℕ, ◌+◌, ◌<◌, true, false, length, Option, Some, arith, refl, ap, ◌∙◌, sym, inl, inr, subst, ◌&&◌, Bool, nat_lt, slice_index, lt-ltb, le-ltb, eqb-true, cases_eq, cases_lt, ThreadId, Program, Memory, Ring, ring_index, place_in, IsAccepted, pipe_def, Model, pipe_of, first_number, pending, has_item, has_due, item_event, Readings, IsCalm, StandsPrivate, Background, pending-later, Idle, Waiting, Taken, Writer, Written, Item, Picked, item_pick, scan_at, after_taken, after_writer, after_written, is_reader, writer_of, KnowsIdle, KnowsPipe, KnowsWaiting, AreEmptyBelow, ScanHolds}
use Rattle.ink_base.specs.declared.ids.PipeId.{PipeId}
use Rattle.ink_base.specs.declared.event.Origin.TheVariants as origins
use Rattle.fram_words.specs.Places as places
use Rattle.fram_words.specs.Header as header
use Rattle.priority_sched.proofs.Nexts.{later_by, to_pipe}
use Rattle.priority_sched.proofs.Searches.{search_finds}
use Rattle.priority_sched.proofs.Words.{taken_count, written_count, item_word}

-- the loaded count is that of the taken items
pub taken_is : (program : Program) (words : Memory) (m : Model) (t time : ℕ) (idle : Idle) (q : ℕ) → IsAccepted program → t < length program.threads →
    StandsPrivate words program m → KnowsPipe program words m t time idle q → words (place_in t idle.commit_word (header.taken q)) ≡ (pipe_of m q).taken
taken_is program words m t time idle q accepted known private k =
    ap (λ c. words (place_in t c (header.taken q))) k.idle_is.commit_word
    ∙ taken_count program words m t q accepted known private k.known (eqb-true (pipe_def program q).reader.0 t k.reads)

pub taken_holds : (program : Program) (readings : Readings) (words : Memory) (m : Model) (thread : ThreadId) (time : ℕ) (idle : Idle) (pipe : PipeId) →
    Background program readings words m → ScanHolds program words m (scan_at thread time (Taken idle pipe)) →
    ScanHolds program words m (scan_at thread time (after_taken idle pipe (words (place_in thread.0 idle.commit_word (header.taken pipe.0)))))
taken_holds program readings words m thread time idle pipe b h = record {
  known = h.known;
  calm = h.calm;
  knows = record { pipe = h.knows; taken = taken_is program words m thread.0 time idle pipe.0 b.accepted h.known b.private h.knows };
}

pub writer_holds : (program : Program) (words : Memory) (m : Model) (thread : ThreadId) (time : ℕ) (w : Waiting) → ScanHolds program words m (scan_at thread time (Writer w)) →
    ScanHolds program words m (scan_at thread time (after_writer w (words (places.Commit (writer_of program w.pipe.0)))))
writer_holds program words m thread time w h = record { known = h.known; calm = h.calm; knows = (h.knows, refl) }

-- the loaded count is that of the written items
pub written_is : (program : Program) (words : Memory) (m : Model) (t time : ℕ) (w : Waiting) (c : ℕ) → IsAccepted program → StandsPrivate words program m →
    KnowsWaiting program words m t time w → c ≡ words (places.Commit (writer_of program w.pipe.0)) →
    words (place_in (writer_of program w.pipe.0) c (header.written w.pipe.0)) ≡ w.taken + length (pipe_of m w.pipe.0).items
written_is program words m t time w c accepted private k is =
    ap (λ z. words (place_in (writer_of program w.pipe.0) z (header.written w.pipe.0))) is
    ∙ (written_count program words m w.pipe.0 accepted private k.pipe.known ∙ ap (λ z. z + length (pipe_of m w.pipe.0).items) (sym k.taken))

-- a pipe without items has none for its reader
no_item : (program : Program) (m : Model) (t q : ℕ) → length (pipe_of m q).items ≡ 0 → has_item program m t q ≡ false
no_item program m t q none = by_reader (is_reader program t q)
  where
    by_reader : (b : Bool) → (b && nat_lt 0 (length (pipe_of m q).items)) ≡ false
    by_reader true = le-ltb 0 (length (pipe_of m q).items) (omega arith)
    by_reader false = refl

-- of the pipes below one more, those below it and it have no item
empty_below : (program : Program) (m : Model) (t q : ℕ) → AreEmptyBelow program m t q → has_item program m t q ≡ false → AreEmptyBelow program m t (q + 1)
empty_below program m t q below here k lt = elim (cases_eq k q) [ inl e ↦ subst (λ z. has_item program m t z ≡ false) (sym e) here | inr ne ↦ below k (omega arith) ]

-- more items were written than taken, or as many
written_by : (program : Program) (words : Memory) (m : Model) (thread : ThreadId) (time : ℕ) (w : Waiting) (written : ℕ) → IsAccepted program →
    thread.0 < length program.threads → IsCalm program m → KnowsWaiting program words m thread.0 time w → written ≡ w.taken + length (pipe_of m w.pipe.0).items →
    ScanHolds program words m (after_written program thread time w written)
written_by program words m thread time w written accepted known calm k is =
    elim (cases_lt w.taken written) [
      | inl more ↦
          rw (lt-ltb w.taken written more) (record { known = known; calm = calm; knows = (k, (let some : 0 < length (pipe_of m w.pipe.0).items = omega arith in some)) })
      | inr as_many ↦
          let none : length (pipe_of m w.pipe.0).items ≡ 0 = omega arith in
          let within : w.pipe.0 < length program.pipes = k.pipe.known in
          rw (le-ltb w.taken written as_many)
          (to_pipe program words m thread time w.idle (w.pipe.0 + 1) accepted known calm k.pipe.idle_is
          (empty_below program m thread.0 w.pipe.0 k.pipe.empty (no_item program m thread.0 w.pipe.0 none)) (omega arith))
    ]

pub written_holds : (program : Program) (readings : Readings) (words : Memory) (m : Model) (thread : ThreadId) (time : ℕ) (w : Waiting) (c : ℕ) →
    Background program readings words m → ScanHolds program words m (scan_at thread time (Written w c)) →
    ScanHolds program words m (after_written program thread time w (words (place_in (writer_of program w.pipe.0) c (header.written w.pipe.0))))
written_holds program readings words m thread time w c b h =
    written_by program words m thread time w _ b.accepted h.known h.calm h.knows.0 (written_is program words m thread.0 time w c b.accepted b.private h.knows.0 h.knows.1)

-- the first item is the pending event
item_pending : (program : Program) (words : Memory) (m : Model) (t time : ℕ) (idle : Idle) (q : ℕ) → KnowsPipe program words m t time idle q →
    0 < length (pipe_of m q).items → pending program m t ≡ Some (item_event m q)
item_pending program words m t time idle q k some =
    let here : has_item program m t q ≡ true = rw (k.reads, lt-ltb 0 (length (pipe_of m q).items) some) refl in
    pending-later program m t k.idle_is.scan k.idle_is.scanned k.idle_is.running k.idle_is.looked
    ∙ ap (λ (o : Option ℕ). later_by m o (first_number (has_due program m t k.idle_is.scan.time) 0 (length program.timers)))
    (search_finds (has_item program m t) (length program.pipes) q k.known here k.empty)

-- the loaded word is the item
pub item_is : (program : Program) (words : Memory) (m : Model) (t time : ℕ) (w : Waiting) → StandsPrivate words program m → KnowsWaiting program words m t time w →
    0 < length (pipe_of m w.pipe.0).items →
    words (Ring w.pipe.0 (ring_index (pipe_def program w.pipe.0).places w.taken)) ≡ slice_index (pipe_of m w.pipe.0).items 0
item_is program words m t time w private k some =
    ap (λ n. words (Ring w.pipe.0 (ring_index (pipe_def program w.pipe.0).places n))) k.taken ∙ item_word program words m w.pipe.0 private k.pipe.known some

pub item_holds : (program : Program) (readings : Readings) (words : Memory) (m : Model) (thread : ThreadId) (time : ℕ) (w : Waiting) →
    Background program readings words m → ScanHolds program words m (scan_at thread time (Item w)) →
    ScanHolds program words m
    (scan_at thread time (Picked (item_pick thread time w (words (Ring w.pipe.0 (ring_index (pipe_def program w.pipe.0).places w.taken))))))
item_holds program readings words m thread time w b h =
    let k : KnowsWaiting program words m thread.0 time w = h.knows.0 in
    let i : KnowsIdle program words m thread.0 time w.idle = k.pipe.idle_is in
    let value = item_is program words m thread.0 time w b.private k h.knows.1 in
    record {
      known = h.known;
      calm = h.calm;
      knows = record {
        known = h.known;
        calm = h.calm;
        scan = i.scan;
        scanned = i.scanned;
        time = i.time_is;
        passed = i.passed;
        pending_is =
            item_pending program words m thread.0 time w.idle w.pipe.0 k.pipe h.knows.1
            ∙ (ap (λ (v : ℕ). Some (record { origin = origins.Pipe w.pipe (pipe_of m w.pipe.0).taken; value = v })) (sym value)
            ∙ ap (λ (n : ℕ). Some (record { origin = origins.Pipe w.pipe n; value = words (Ring w.pipe.0 (ring_index (pipe_def program w.pipe.0).places w.taken)) })) (sym k.taken));
        held = λ of_queue. absurd cc;
        running = sym i.running;
        position = i.position;
        commit_word = i.commit_word;
        first = λ task runs. absurd cc;
        loaded = λ idle. refl;
      };
    }
