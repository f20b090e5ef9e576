-- The items that a task has sent, in its pipes, in the counts of its block, and in the rings.
use Rattle.task_run.proofs.Common.{◌≡◌, ◌≢◌, ℕ, ◌+◌, ◌-◌, ◌<◌, ◌==◌, cond, Bool, List, [], ◌∷◌, ◌++◌, length, get_or, set, arith, refl, ap, ◌∙◌, sym, inl, inr, subst, eq-eqb, ne_eqb, length-append, length-set, get_or-set_same, get_or-set_other, enumerate_from, cases_eq, get_or_append_left, get_or_at, get_or-map, sum_by-cons, ring_index, Program, Sent, sent_to, pipe_def, no_pipe_def, Model, PipeModel, pipe_of, no_pipe, room_in, rooms, with_item, with_sends, changed, written_with, AreSent}
use Rattle.std.proofs.lemmas.List.FromFn.{length-enumerate_from, get_or-enumerate_from}

-- a pipe by its number
abbrev pub pipe_in : List PipeModel → ℕ → PipeModel
pipe_in pipes q = get_or pipes q no_pipe

-- a function at the changed number and at another one
pub changed_same : (f : ℕ → ℕ) (at value k : ℕ) → k ≡ at → changed f at value k ≡ value
changed_same f at value k e = rw (eq-eqb k at e) refl

pub changed_other : (f : ℕ → ℕ) (at value k : ℕ) → k ≢ at → changed f at value k ≡ f k
changed_other f at value k ne = rw (ne_eqb k at ne) refl

-- one more item
pub item_same : (s : Sent) (pipes : List PipeModel) (q : ℕ) → q ≡ s.pipe.0 → q < length pipes →
    pipe_in (with_item s pipes) q ≡ record (pipe_in pipes q) { items = (pipe_in pipes q).items ++ s.value ∷ [] }
item_same s pipes q e within =
    let full : PipeModel → PipeModel = λ p. record p { items = p.items ++ s.value ∷ [] } in
    subst (λ k. pipe_in (set pipes s.pipe.0 (full (pipe_in pipes s.pipe.0))) k ≡ full (pipe_in pipes k)) (sym e)
    (get_or-set_same pipes s.pipe.0 (full (pipe_in pipes s.pipe.0)) no_pipe (subst (λ k. k < length pipes) e within))

pub item_other : (s : Sent) (pipes : List PipeModel) (q : ℕ) → q ≢ s.pipe.0 → pipe_in (with_item s pipes) q ≡ pipe_in pipes q
item_other s pipes q ne = get_or-set_other pipes s.pipe.0 q _ no_pipe ne

pub sends_length : (sends : List Sent) (pipes : List PipeModel) → length (with_sends sends pipes) ≡ length pipes
sends_length [] pipes = refl
sends_length (s ∷ sends) pipes = sends_length sends (with_item s pipes) ∙ length-set pipes s.pipe.0 _

-- how many items of one sending go to a pipe
abbrev pub one_to : ℕ → Sent → ℕ
one_to q s = cond (s.pipe.0 == q) 1 0

-- a pipe has so many items more, and as many taken
pub record HasMore (old new : PipeModel) (n : ℕ) : Type 0 where
  pub taken : new.taken ≡ old.taken
  pub count : length new.items ≡ length old.items + n

item_more : (s : Sent) (pipes : List PipeModel) (q : ℕ) → q < length pipes → HasMore (pipe_in pipes q) (pipe_in (with_item s pipes) q) (one_to q s)
item_more s pipes q within =
    elim (cases_eq q s.pipe.0) [
      | inl e ↦
          subst (λ p. HasMore (pipe_in pipes q) p (one_to q s)) (sym (item_same s pipes q e within))
          (record { taken = refl; count = rw (eq-eqb s.pipe.0 q (sym e)) (length-append (pipe_in pipes q).items (s.value ∷ [])) })
      | inr ne ↦
          subst (λ p. HasMore (pipe_in pipes q) p (one_to q s)) (sym (item_other s pipes q ne))
          (record { taken = refl; count = rw (ne_eqb s.pipe.0 q (λ e. ne (sym e))) (omega arith) })
    ]

pub sends_more : (sends : List Sent) (pipes : List PipeModel) (q : ℕ) → q < length pipes →
    HasMore (pipe_in pipes q) (pipe_in (with_sends sends pipes) q) (sent_to q sends)
sends_more [] pipes q within = record { taken = refl; count = omega arith }
sends_more (s ∷ sends) pipes q within =
    let one = item_more s pipes q within in
    let rest = sends_more sends (with_item s pipes) q (rw (length-set pipes s.pipe.0 _) within) in
    let all : sent_to q (s ∷ sends) ≡ one_to q s + sent_to q sends = sum_by-cons (λ (x : Sent). one_to q x) s sends in
    record { taken = rest.taken ∙ one.taken; count = omega (arith, one.count, rest.count, all) }

-- the count of written items grows by as many
pub written_more : (sends : List Sent) (f : ℕ → ℕ) (q : ℕ) → written_with sends f q ≡ f q + sent_to q sends
written_more [] f q = omega arith
written_more (s ∷ sends) f q =
    let all : sent_to q (s ∷ sends) ≡ one_to q s + sent_to q sends = sum_by-cons (λ (x : Sent). one_to q x) s sends in
    let rest : written_with (s ∷ sends) f q ≡ changed f s.pipe.0 (f s.pipe.0 + 1) q + sent_to q sends = written_more sends (changed f s.pipe.0 (f s.pipe.0 + 1)) q in
    let one : changed f s.pipe.0 (f s.pipe.0 + 1) q ≡ f q + one_to q s =
    elim (cases_eq q s.pipe.0) [
      | inl e ↦ changed_same f s.pipe.0 (f s.pipe.0 + 1) q e ∙ (ap (λ k. f k + 1) (sym e) ∙ sym (ap (λ (b : Bool). f q + cond b 1 0) (eq-eqb s.pipe.0 q (sym e))))
      | inr ne ↦ changed_other f s.pipe.0 (f s.pipe.0 + 1) q ne ∙ (omega arith ∙ sym (ap (λ (b : Bool). f q + cond b 1 0) (ne_eqb s.pipe.0 q (λ e. ne (sym e)))))
    ]
    in omega (arith, all, rest, one)

-- one sending behind the others
pub sends_append : (sends : List Sent) (s : Sent) (pipes : List PipeModel) → with_sends (sends ++ s ∷ []) pipes ≡ with_item s (with_sends sends pipes)
sends_append [] s pipes = refl
sends_append (x ∷ sends) s pipes = sends_append sends s (with_item x pipes)

pub written_append : (sends : List Sent) (s : Sent) (f : ℕ → ℕ) →
    written_with (sends ++ s ∷ []) f ≡ changed (written_with sends f) s.pipe.0 (written_with sends f s.pipe.0 + 1)
written_append [] s f = refl
written_append (x ∷ sends) s f = written_append sends s (changed f x.pipe.0 (f x.pipe.0 + 1))

-- the room of a pipe, by its number
pub room_at : (program : Program) (m : Model) (q : ℕ) → q < length program.pipes → get_or (rooms program m) q 0 ≡ (pipe_def program q).places - length (pipe_of m q).items
room_at program m q known =
    get_or-map (room_in m) (enumerate_from 0 program.pipes) q (0, no_pipe_def) 0 (rw (length-enumerate_from 0 program.pipes) known)
    ∙ ap (room_in m) (get_or-enumerate_from 0 program.pipes q (0, no_pipe_def) known)
    ∙ (let same : 0 + q ≡ q = omega arith in ap (λ k. (pipe_def program q).places - length (pipe_of m k).items) same)

-- what was sent stands in the rings, once the next item stands behind it
pub sent_append : (rings : ℕ → ℕ → ℕ) (program : Program) (pipes : List PipeModel) (sends : List Sent) (s : Sent) → length pipes ≡ length program.pipes →
    AreSent rings program pipes sends →
    (let p = pipe_in (with_sends sends pipes) s.pipe.0 in rings s.pipe.0 (ring_index (pipe_def program s.pipe.0).places (p.taken + length p.items)) ≡ s.value) →
    AreSent rings program pipes (sends ++ s ∷ [])
sent_append rings program pipes sends s count sent last = λ q k known within. by_pipe q k known within
  where
    by_item : (q k : ℕ) (p : PipeModel) → (k < length p.items → rings q (ring_index (pipe_def program q).places (p.taken + k)) ≡ get_or p.items k 0) →
        rings q (ring_index (pipe_def program q).places (p.taken + length p.items)) ≡ s.value →
        k < length (p.items ++ s.value ∷ []) → rings q (ring_index (pipe_def program q).places (p.taken + k)) ≡ get_or (p.items ++ s.value ∷ []) k 0
    by_item q k p old new within =
        let more : length (p.items ++ s.value ∷ []) ≡ length p.items + 1 = length-append p.items (s.value ∷ []) in
        elim (cases_eq k (length p.items)) [
          | inl e ↦ ap (λ n. rings q (ring_index (pipe_def program q).places (p.taken + n))) e ∙ (new ∙ sym (get_or_at p.items s.value [] 0 k (sym e)))
          | inr ne ↦
              let below : k < length p.items = omega arith in
              old below ∙ sym (get_or_append_left p.items (s.value ∷ []) 0 k below)
        ]

    by_pipe : (q k : ℕ) → q < length program.pipes → let p = pipe_in (with_sends (sends ++ s ∷ []) pipes) q in
        k < length p.items → rings q (ring_index (pipe_def program q).places (p.taken + k)) ≡ get_or p.items k 0
    by_pipe q k known =
        let old : PipeModel = pipe_in (with_sends sends pipes) q in
        let all : length (with_sends sends pipes) ≡ length program.pipes = sends_length sends pipes ∙ count in
        let is : pipe_in (with_sends (sends ++ s ∷ []) pipes) q ≡ pipe_in (with_item s (with_sends sends pipes)) q = ap (λ (l : List PipeModel). pipe_in l q) (sends_append sends s pipes) in
        elim (cases_eq q s.pipe.0) [
          | inl e ↦
              subst (λ p. k < length p.items → rings q (ring_index (pipe_def program q).places (p.taken + k)) ≡ get_or p.items k 0)
              (sym (is ∙ item_same s (with_sends sends pipes) q e (rw all known)))
              (by_item q k old (sent q k known)
              (subst (λ z. let p = pipe_in (with_sends sends pipes) z in rings z (ring_index (pipe_def program z).places (p.taken + length p.items)) ≡ s.value) (sym e) last))
          | inr ne ↦
              subst (λ p. k < length p.items → rings q (ring_index (pipe_def program q).places (p.taken + k)) ≡ get_or p.items k 0)
              (sym (is ∙ item_other s (with_sends sends pipes) q ne)) (sent q k known)
        ]
