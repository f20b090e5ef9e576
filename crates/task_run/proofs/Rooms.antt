-- The counts of a pipe within a run, and the room that they leave.
use Rattle.task_run.proofs.Common.{◌≡◌, ◌≢◌, ℕ, ◌+◌, ◌-◌, ◌%◌, ◌<◌, ◌≤◌, true, List, [], ◌∷◌, ◌++◌, length, get_or, arith, refl, ap, ◌∙◌, sym, inl, inr, subst, nat_lt, eq-eqb, ne_eqb, ltb-true, ltb-false, lt-ltb, le-ltb, cases_Bool, cases_eq, sum_by_push, ring_index, Program, Sent, Room, sent_to, has_room, pipe_def, Model, PipeModel, pipe_of, rooms, with_sends, HasShape, Saved, saved, written_word, taken_word, TaskMachine, begun, told, RunningIn}
use Rattle.event_pipe.specs.Ring as by_counts
use Rattle.push_core.proofs.Rings.{apart}
use Rattle.task_run.proofs.Traps.{begun-keeps}
use Rattle.task_run.proofs.SentItems.{pipe_in, one_to, HasMore, sends_more, written_more, room_at}

-- the counts of a pipe in the blocks of its two threads
pub written_of : (program : Program) (m : Model) (t q : ℕ) → q < length program.pipes → (pipe_def program q).writer.0 ≡ t →
    written_word program m t q ≡ (pipe_of m q).taken + length (pipe_of m q).items
written_of program m t q known writer = rw (lt-ltb q (length program.pipes) known, eq-eqb (pipe_def program q).writer.0 t writer) refl

pub taken_of : (program : Program) (m : Model) (t q : ℕ) → q < length program.pipes → (pipe_def program q).reader.0 ≡ t → taken_word program m t q ≡ (pipe_of m q).taken
taken_of program m t q known reader = rw (lt-ltb q (length program.pipes) known, eq-eqb (pipe_def program q).reader.0 t reader) refl

-- what the run has sent to a pipe: the pipe's items with it, and the count of written items in the working copy
pub record HasSent (program : Program) (m : Model) (y : Saved) (sends : List Sent) (q n : ℕ) : Type 0 where
  pub more : HasMore (pipe_of m q) (pipe_in (with_sends sends m.pipes) q) n
  pub written : y.written q ≡ (pipe_of m q).taken + length (pipe_of m q).items + n

pub has_sent : (program : Program) (m : Model) (r : TaskMachine) (y : Saved) (sends : List Sent) (s o v q : ℕ) → HasShape program m →
    (g : RunningIn (told program m r y sends s o v)) → q < length program.pipes → (pipe_def program q).writer.0 ≡ r.pick.thread.0 →
    HasSent program m y sends q (sent_to q g.effects.sends)
has_sent program m r y sends s o v q shape g known writer =
    let x : Saved = saved program m r.pick.thread.0 in
    record {
      more =
          subst (λ (l : List Sent). HasMore (pipe_of m q) (pipe_in (with_sends l m.pipes) q) (sent_to q g.effects.sends)) (sym g.sent)
          (sends_more g.effects.sends m.pipes q (rw shape.pipes known));
      written =
          ap (λ (z : Saved). z.written q) g.made
          ∙ (written_more g.effects.sends (begun r.pick x).written q
          ∙ ap (λ n. n + sent_to q g.effects.sends) (ap (λ f. f q) (begun-keeps r.pick x).written ∙ written_of program m r.pick.thread.0 q known writer));
    }

-- the room by the counts is the room of the meaning
pub room_is : (program : Program) (m : Model) (q written taken n : ℕ) → q < length program.pipes → taken ≡ (pipe_of m q).taken →
    written ≡ (pipe_of m q).taken + length (pipe_of m q).items + n →
    nat_lt n (get_or (rooms program m) q 0) ≡ by_counts.has_room (pipe_def program q).places written taken
room_is program m q written taken n known taken_is written_is =
    let places : ℕ = (pipe_def program q).places in
    let room : get_or (rooms program m) q 0 ≡ places - length (pipe_of m q).items = room_at program m q known in
    elim (cases_Bool (nat_lt (written - taken) places)) [
      | inl t ↦
          let below : written - taken < places = ltb-true (written - taken) places t in
          lt-ltb n (get_or (rooms program m) q 0) (omega arith) ∙ sym t
      | inr f ↦
          let full : places ≤ written - taken = ltb-false (written - taken) places f in
          le-ltb n (get_or (rooms program m) q 0) (omega arith) ∙ sym f
    ]

-- the next item's number is that of the items with what was sent
pub sent_count : (program : Program) (m : Model) (y : Saved) (sends : List Sent) (q n : ℕ) → HasSent program m y sends q n →
    let p = pipe_in (with_sends sends m.pipes) q in p.taken + length p.items ≡ y.written q
sent_count program m y sends q n sent =
    let p : PipeModel = pipe_in (with_sends sends m.pipes) q in
    let taken : p.taken ≡ (pipe_of m q).taken = sent.more.taken in
    let count : length p.items ≡ length (pipe_of m q).items + n = sent.more.count in
    let written : y.written q ≡ (pipe_of m q).taken + length (pipe_of m q).items + n = sent.written in
    omega arith

-- an item with room has its place, so the meaning has room for it
pub room_left : (program : Program) (m : Model) (q written n : ℕ) → q < length program.pipes → written < (pipe_of m q).taken + (pipe_def program q).places →
    written ≡ (pipe_of m q).taken + length (pipe_of m q).items + n → nat_lt n (get_or (rooms program m) q 0) ≡ true
room_left program m q written n known room is =
    let at : get_or (rooms program m) q 0 ≡ (pipe_def program q).places - length (pipe_of m q).items = room_at program m q known in
    lt-ltb n (get_or (rooms program m) q 0) (omega arith)

-- numbers less than a turn apart have different ring words
ring_apart : (places k n : ℕ) → k < n → n < k + places → ring_index places n ≢ ring_index places k
ring_apart places k n below within e =
    let at : k + (n - k) ≡ n = omega arith in
    apart k (n - k) places (omega arith) (omega arith) (ap (λ z. z % places) at ∙ e)

-- the ring word of the next item holds none of the pipe's items
pub item_apart : (program : Program) (m : Model) (y : Saved) (sends : List Sent) (q k written n : ℕ) → HasSent program m y sends q n → written ≡ y.written q →
    written < (pipe_of m q).taken + (pipe_def program q).places → k < length (pipe_of m q).items →
    ring_index (pipe_def program q).places written ≢ ring_index (pipe_def program q).places ((pipe_of m q).taken + k)
item_apart program m y sends q k written n sent is room within =
    let count : y.written q ≡ (pipe_of m q).taken + length (pipe_of m q).items + n = sent.written in
    ring_apart (pipe_def program q).places ((pipe_of m q).taken + k) written (omega arith) (omega arith)

-- and none that was sent
pub free_word : (program : Program) (m : Model) (y : Saved) (sends : List Sent) (q u k written n : ℕ) → HasSent program m y sends q n → written ≡ y.written q →
    written < (pipe_of m q).taken + (pipe_def program q).places →
    (let p = pipe_in (with_sends sends m.pipes) u in k < length p.items → q ≡ u →
    ring_index (pipe_def program q).places written ≡ ring_index (pipe_def program u).places (p.taken + k) → ⊥)
free_word program m y sends q u k written n sent is room within same index =
    let p : PipeModel = pipe_in (with_sends sends m.pipes) q in
    let lt : k < length p.items = subst (λ z. k < length (pipe_in (with_sends sends m.pipes) z).items) (sym same) within in
    let at : ring_index (pipe_def program q).places written ≡ ring_index (pipe_def program q).places (p.taken + k) =
    subst (λ z. ring_index (pipe_def program q).places written ≡ ring_index (pipe_def program z).places ((pipe_in (with_sends sends m.pipes) z).taken + k)) (sym same) index
    in
    let taken : p.taken ≡ (pipe_of m q).taken = sent.more.taken in
    let next : p.taken + length p.items ≡ y.written q = sent_count program m y sends q n sent in
    ring_apart (pipe_def program q).places (p.taken + k) written (omega arith) (omega arith) at

-- no pipe is sent more than it has room for
pub room_more : (sends : List Sent) (s : Sent) (room : Room) → has_room room s.pipe.0 sends ≡ true → ((q : ℕ) → sent_to q sends ≤ get_or room.pipes q 0) →
    (q : ℕ) → sent_to q (sends ++ s ∷ []) ≤ get_or room.pipes q 0
room_more sends s room has few q =
    let all : sent_to q (sends ++ s ∷ []) ≡ sent_to q sends + one_to q s = sum_by_push (λ (x : Sent). one_to q x) sends s in
    let here : sent_to q sends ≤ get_or room.pipes q 0 = few q in
    elim (cases_eq s.pipe.0 q) [
      | inl e ↦
          let less : sent_to q sends < get_or room.pipes q 0 = subst (λ k. sent_to k sends < get_or room.pipes k 0) e (ltb-true (sent_to s.pipe.0 sends) (get_or room.pipes s.pipe.0 0) has) in
          let one : one_to q s ≡ 1 = rw (eq-eqb s.pipe.0 q e) refl in
          omega arith
      | inr ne ↦ let none : one_to q s ≡ 0 = rw (ne_eqb s.pipe.0 q ne) refl in omega arith
    ]
