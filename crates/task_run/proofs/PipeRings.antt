-- The rings hold the items of the pipes after a commit.
use Rattle.task_run.proofs.Common.{◌≡◌, ℕ, suc, ◌+◌, ◌<◌, Bool, true, false, List, [], ◌∷◌, ◌++◌, length, arith, refl, ap, ◌∙◌, sym, inl, inr, subst, length-set, ◌==◌, if◌then◌else◌, drop, slice_index, eq-eqb, ne_eqb, append-nil, append_assoc, get_or-set_same, get_or-set_other, cases_eq, Origin, ring_index, Program, Sent, pipe_def, Model, PipeModel, no_pipe, taken_from, with_item, with_sends, HasShape, AreSent}
use Rattle.ink_base.specs.declared.event.Origin.TheVariants as origins
use Rattle.task_run.proofs.SentItems.{pipe_in, item_same, item_other}
use Rattle.task_run.proofs.PipeWords.{sent-count}
use Rattle.task_run.proofs.Commits.{pipes_begun}
use Rattle.task_run.proofs.NextStates.{IsConsumable}

-- what was sent to a pipe, in order
abbrev pub sent_into : ℕ → List Sent → List ℕ
sent_into q [] = []
sent_into q (s ∷ sends) = if s.pipe.0 == q then s.value ∷ sent_into q sends else sent_into q sends

-- a pipe with more items
abbrev pub with_more : PipeModel → List ℕ → PipeModel
with_more p values = record p { items = p.items ++ values }

item_in : (s : Sent) (sends : List Sent) (pipes : List PipeModel) (q : ℕ) → q < length pipes →
    with_more (pipe_in (with_item s pipes) q) (sent_into q sends) ≡ with_more (pipe_in pipes q) (sent_into q (s ∷ sends))
item_in s sends pipes q lt =
    elim (cases_eq s.pipe.0 q) [
      | inl e ↦
          ap (λ p. with_more p (sent_into q sends)) (item_same s pipes q (sym e) lt)
          ∙ (ap (λ l. record (pipe_in pipes q) { items = l }) (append_assoc (pipe_in pipes q).items (s.value ∷ []) (sent_into q sends))
          ∙ ap (λ b. with_more (pipe_in pipes q) (if b then s.value ∷ sent_into q sends else sent_into q sends)) (sym (eq-eqb s.pipe.0 q e)))
      | inr ne ↦
          ap (λ p. with_more p (sent_into q sends)) (item_other s pipes q (λ e. ne (sym e)))
          ∙ ap (λ b. with_more (pipe_in pipes q) (if b then s.value ∷ sent_into q sends else sent_into q sends)) (sym (ne_eqb s.pipe.0 q ne))
    ]

-- each pipe after all sends
pub sends_in : (sends : List Sent) (pipes : List PipeModel) (q : ℕ) → q < length pipes → pipe_in (with_sends sends pipes) q ≡ with_more (pipe_in pipes q) (sent_into q sends)
sends_in [] pipes q lt = ap (λ l. record (pipe_in pipes q) { items = l }) (sym (append-nil (pipe_in pipes q).items))
sends_in (s ∷ sends) pipes q lt =
    sends_in sends (with_item s pipes) q (rw (sent-count s pipes) lt) ∙ item_in s sends pipes q lt

-- a ring holds the items of a pipe
abbrev pub StandsItems : (ring : ℕ → ℕ) (places : ℕ) → PipeModel → Type 0
StandsItems ring places p = (k : ℕ) → k < length p.items → ring (ring_index places (p.taken + k)) ≡ slice_index p.items k

abbrev first_dropped : PipeModel → PipeModel
first_dropped p = record { items = drop 1 p.items; taken = p.taken + 1 }

dropped_by : (ring : ℕ → ℕ) (places taken : ℕ) (items more : List ℕ) → 0 < length items → StandsItems ring places (with_more (record { items = items; taken = taken }) more) →
    StandsItems ring places (with_more (first_dropped (record { items = items; taken = taken })) more)
dropped_by ring places taken [] more some h k lt = absurd (omega arith)
dropped_by ring places taken (i ∷ items) more some h k lt =
    ap (λ n. ring (ring_index places n)) (omega arith) ∙ h (suc k) (omega arith)

-- without its first item
dropped_stands : (ring : ℕ → ℕ) (places : ℕ) (p : PipeModel) (more : List ℕ) → 0 < length p.items → StandsItems ring places (with_more p more) →
    StandsItems ring places (with_more (first_dropped p) more)
dropped_stands ring places p more some h = dropped_by ring places p.taken p.items more some h

-- the pipes of the state after the commit
pub begun_stands : (rings : ℕ → ℕ → ℕ) (program : Program) (m : Model) (t : ℕ) (sends : List Sent) (running : Bool) (o : Origin) → HasShape program m →
    (running ≡ false → IsConsumable program m t o) → AreSent rings program m.pipes sends → (q : ℕ) → q < length program.pipes →
    StandsItems (rings q) (pipe_def program q).places (pipe_in (with_sends sends (pipes_begun running o m.pipes)) q)
begun_stands rings program m t sends true o shape there h q lt = λ k within. h q k lt within
begun_stands rings program m t sends false (origins.Source source count) shape there h q lt = λ k within. h q k lt within
begun_stands rings program m t sends false (origins.Timer timer deadline) shape there h q lt = λ k within. h q k lt within
begun_stands rings program m t sends false (origins.Pipe pipe item) shape there h q lt =
    let known : q < length m.pipes = rw shape.pipes lt in
    let begun : List PipeModel = taken_from (origins.Pipe pipe item) m.pipes in
    let all : pipe_in (with_sends sends begun) q ≡ with_more (pipe_in begun q) (sent_into q sends) =
    sends_in sends begun q (rw (length-set m.pipes pipe.0 (first_dropped (pipe_in m.pipes pipe.0))) known)
    in
    let before : StandsItems (rings q) (pipe_def program q).places (with_more (pipe_in m.pipes q) (sent_into q sends)) =
    subst (λ p. StandsItems (rings q) (pipe_def program q).places p) (sends_in sends m.pipes q known) (λ k within. h q k lt within)
    in
    subst (λ p. StandsItems (rings q) (pipe_def program q).places p) (sym all)
    (elim (cases_eq q pipe.0) [
      | inl e ↦
          let here : pipe_in begun q ≡ first_dropped (pipe_in m.pipes q) =
          ap (λ k. pipe_in begun k) e ∙ (get_or-set_same m.pipes pipe.0 (first_dropped (pipe_in m.pipes pipe.0)) no_pipe (subst (λ k. k < length m.pipes) e known) ∙ ap (λ k. first_dropped (pipe_in m.pipes k)) (sym e))
          in
          let first = there refl in
          subst (λ p. StandsItems (rings q) (pipe_def program q).places (with_more p (sent_into q sends))) (sym here)
          (dropped_stands (rings q) (pipe_def program q).places (pipe_in m.pipes q) (sent_into q sends) (subst (λ k. 0 < length (pipe_in m.pipes k).items) (sym e) first.some) before)
      | inr ne ↦
          subst (λ p. StandsItems (rings q) (pipe_def program q).places (with_more p (sent_into q sends)))
          (sym (get_or-set_other m.pipes pipe.0 q (first_dropped (pipe_in m.pipes pipe.0)) no_pipe ne)) before
    ])
