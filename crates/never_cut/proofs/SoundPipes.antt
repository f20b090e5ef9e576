-- The pipes stay sound where a service takes an item and a task sends some.
use Rattle.never_cut.proofs.Common.{◌≡◌, ℕ, zero, suc, ◌+◌, ◌-◌, ◌^◌, ◌<◌, ◌≤◌, ◌==◌, Bool, cond, List, [], ◌∷◌, ◌++◌, length, drop, get_or, set, refl, sym, ap, ◌∙◌, arith, subst, inl, inr, length-append, length-drop, length-set, get_or-set_other, slice_index, All, eq-eqb, enumerate_from, cases_eq, get_or-set_at, get_or_after_one, get_or-map, sum_by-cons, Origin, Program, Sent, sent_to, pipe_def, no_pipe_def, Model, PipeModel, pipe_of, no_pipe, room_in, rooms, taken_from, with_item, with_sends}
use Rattle.std.proofs.lemmas.List.FromFn.{get_or-enumerate_from, length-enumerate_from}
use Rattle.ink_base.specs.declared.event.Origin.TheVariants as origins
use Rattle.never_cut.proofs.Threads.{kept-at}
use Rattle.never_cut.proofs.Values.{last_below}
use Rattle.never_cut.proofs.RightActs.{IsRightItem}
use Rattle.never_cut.proofs.TaskRuns.{counted}
use Rattle.never_cut.proofs.SoundParts.{IsSoundPipeAt, PipesSound, taken_in}

abbrev items_in : List PipeModel → ℕ → ℕ
items_in pipes q = length (get_or pipes q no_pipe).items

-- taking and sending keep the number of pipes
pub taken_count : (o : Origin) (pipes : List PipeModel) → length (taken_from o pipes) ≡ length pipes
taken_count (origins.Source s c) pipes = refl
taken_count (origins.Pipe q n) pipes = length-set pipes q.0 _
taken_count (origins.Timer j d) pipes = refl

pub sent_count : (sends : List Sent) (pipes : List PipeModel) → length (with_sends sends pipes) ≡ length pipes
sent_count [] pipes = refl
sent_count (s ∷ sends) pipes = sent_count sends (with_item s pipes) ∙ length-set pipes s.pipe.0 _

-- the room of each pipe that there is
pub rooms_at : (program : Program) (m : Model) (q : ℕ) → q < length program.pipes → slice_index (rooms program m) q ≡ (pipe_def program q).places - length (pipe_of m q).items
rooms_at program m q known =
    get_or-map (room_in m) (enumerate_from 0 program.pipes) q (0, no_pipe_def) 0 (rw (length-enumerate_from 0 program.pipes) known)
    ∙ ap (room_in m) (get_or-enumerate_from 0 program.pipes q (0, no_pipe_def) known)
    ∙ ap (λ k. (pipe_def program q).places - length (pipe_of m k).items) (let e : 0 + q ≡ q = omega arith in e)

-- a pipe whose first item was taken
without_first : (places : ℕ) (p : PipeModel) → IsSoundPipeAt places p → IsSoundPipeAt places (record { items = drop 1 p.items; taken = p.taken + 1 })
without_first places p h = record {
  room = let room = h.room in omega (arith, length-drop 1 p.items);
  values = λ k. subst (λ v. v < 2 ^ 32) (sym (get_or_after_one p.items k 0)) (h.values (1 + k));
}

-- the pipes after an event's service has begun
pub taken_sound : (program : Program) (o : Origin) (pipes : List PipeModel) → length pipes ≡ length program.pipes → PipesSound program pipes →
    PipesSound program (taken_from o pipes)
taken_sound program (origins.Source source count) pipes same h = h
taken_sound program (origins.Timer timer deadline) pipes same h = h
taken_sound program (origins.Pipe pipe item) pipes same h = λ q known.
    let p : PipeModel = get_or pipes pipe.0 no_pipe in
    let new : PipeModel = record { items = drop 1 p.items; taken = p.taken + 1 } in
    elim (cases_eq q pipe.0) [
      | inl e ↦
          subst (λ (x : PipeModel). IsSoundPipeAt (pipe_def program q).places x) (sym (get_or-set_at pipes pipe.0 q new no_pipe e (let below = known in omega arith)))
          (subst (λ k. IsSoundPipeAt (pipe_def program q).places (record { items = drop 1 (get_or pipes k no_pipe).items; taken = (get_or pipes k no_pipe).taken + 1 })) e
          (without_first (pipe_def program q).places (get_or pipes q no_pipe) (h q known)))
      | inr apart ↦
          subst (λ (x : PipeModel). IsSoundPipeAt (pipe_def program q).places x) (sym (get_or-set_other pipes pipe.0 q new no_pipe apart))
          (h q known)
    ]

-- no pipe has more items than before
pub taken_fewer : (o : Origin) (pipes : List PipeModel) (q : ℕ) → q < length pipes → items_in (taken_from o pipes) q ≤ items_in pipes q
taken_fewer (origins.Source source count) pipes q known = omega arith
taken_fewer (origins.Timer timer deadline) pipes q known = omega arith
taken_fewer (origins.Pipe pipe item) pipes q known =
    let p : PipeModel = get_or pipes pipe.0 no_pipe in
    let new : PipeModel = record { items = drop 1 p.items; taken = p.taken + 1 } in
    elim (cases_eq q pipe.0) [
      | inl e ↦
          let here : items_in (set pipes pipe.0 new) q ≡ length (drop 1 p.items) = ap (λ (x : PipeModel). length x.items) (get_or-set_at pipes pipe.0 q new no_pipe e (omega arith)) in
          let was : items_in pipes q ≡ length p.items = ap (items_in pipes) e in
          omega (arith, here, was, length-drop 1 p.items)
      | inr apart ↦
          let here : items_in (set pipes pipe.0 new) q ≡ items_in pipes q = ap (λ (x : PipeModel). length x.items) (get_or-set_other pipes pipe.0 q new no_pipe apart) in
          omega arith
    ]

-- a send takes nothing
pub sent_taken : (sends : List Sent) (pipes : List PipeModel) (q : ℕ) → taken_in (with_sends sends pipes) q ≡ taken_in pipes q
sent_taken [] pipes q = refl
sent_taken (s ∷ sends) pipes q = sent_taken sends (with_item s pipes) q ∙ kept-at no_pipe (λ (p : PipeModel). p.taken) pipes s.pipe.0 q _ refl

-- the pipes hold no more than their places, with what is still to be sent
abbrev Fits : Program → List PipeModel → List Sent → Type 0
Fits program pipes sends = (q : ℕ) → q < length program.pipes → items_in pipes q + sent_to q sends ≤ (pipe_def program q).places

sent_to-cons : (q : ℕ) (s : Sent) (sends : List Sent) → sent_to q (s ∷ sends) ≡ counted (s.pipe.0 == q) + sent_to q sends
sent_to-cons q s sends = sum_by-cons (λ (x : Sent). counted (x.pipe.0 == q)) s sends

-- one item moves from those that are still to be sent into its pipe
item_fits : (program : Program) (pipes : List PipeModel) (s : Sent) (sends : List Sent) → s.pipe.0 < length pipes → Fits program pipes (s ∷ sends) → Fits program (with_item s pipes) sends
item_fits program pipes s sends there fits q known =
    let p : PipeModel = get_or pipes s.pipe.0 no_pipe in
    let new : PipeModel = record p { items = p.items ++ s.value ∷ [] } in
    let old : items_in pipes q + sent_to q (s ∷ sends) ≤ (pipe_def program q).places = fits q known in
    elim (cases_eq q s.pipe.0) [
      | inl e ↦
          let here : items_in (set pipes s.pipe.0 new) q ≡ length (p.items ++ s.value ∷ []) = ap (λ (x : PipeModel). length x.items) (get_or-set_at pipes s.pipe.0 q new no_pipe e there) in
          let was : items_in pipes q ≡ length p.items = ap (items_in pipes) e in
          let one : counted (s.pipe.0 == q) ≡ 1 = ap counted (eq-eqb s.pipe.0 q (sym e)) in
          omega (arith, here, was, one, old, length-append p.items (s.value ∷ []), sent_to-cons q s sends)
      | inr apart ↦
          let here : items_in (set pipes s.pipe.0 new) q ≡ items_in pipes q = ap (λ (x : PipeModel). length x.items) (get_or-set_other pipes s.pipe.0 q new no_pipe apart) in
          omega (arith, here, old, sent_to-cons q s sends)
    ]

-- a pipe with an item more
item_sound : (program : Program) (pipes : List PipeModel) (s : Sent) → s.pipe.0 < length pipes → s.value < 2 ^ 32 →
    ((q : ℕ) → q < length program.pipes → items_in (with_item s pipes) q ≤ (pipe_def program q).places) → PipesSound program pipes → PipesSound program (with_item s pipes)
item_sound program pipes s there small room h q known =
    let p : PipeModel = get_or pipes s.pipe.0 no_pipe in
    let new : PipeModel = record p { items = p.items ++ s.value ∷ [] } in
    record {
      room = room q known;
      values = elim (cases_eq q s.pipe.0) [
        | inl e ↦ subst (λ (x : PipeModel). (k : ℕ) → slice_index x.items k < 2 ^ 32) (sym (get_or-set_at pipes s.pipe.0 q new no_pipe e there))
            (last_below p.items s.value small (subst (λ j. (k : ℕ) → slice_index (get_or pipes j no_pipe).items k < 2 ^ 32) e (h q known).values))
        | inr apart ↦ subst (λ (x : PipeModel). (k : ℕ) → slice_index x.items k < 2 ^ 32) (sym (get_or-set_other pipes s.pipe.0 q new no_pipe apart)) (h q known).values
      ];
    }

-- the pipes with what a task sent
pub sends_sound : (program : Program) (t : ℕ) (sends : List Sent) (pipes : List PipeModel) → length pipes ≡ length program.pipes → All (IsRightItem program t) sends →
    Fits program pipes sends → PipesSound program pipes → PipesSound program (with_sends sends pipes)
sends_sound program t [] pipes same right fits h = h
sends_sound program t (s ∷ sends) pipes same right fits h =
    let item : IsRightItem program t s = right 0 s (omega arith) in
    let there : s.pipe.0 < length pipes = rw same item.known in
    let more : Fits program (with_item s pipes) sends = item_fits program pipes s sends there fits in
    sends_sound program t sends (with_item s pipes) (length-set pipes s.pipe.0 _ ∙ same) (λ k d lt. right (suc k) d (omega arith)) more
    (item_sound program pipes s there item.value (λ q known. let all = more q known in omega arith) h)
