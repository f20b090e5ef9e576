-- What a thread's words say of the pipes, after items were sent and one was taken.
use Rattle.task_run.proofs.Common.{◌≡◌, ◌≢◌, ℕ, ◌+◌, ◌<◌, Bool, true, false, List, [], ◌∷◌, ◌++◌, length, arith, refl, ap, ◌∙◌, sym, inl, inr, length-set, ◌==◌, ◌&&◌, nat_lt, if◌then◌else◌, drop, eq-eqb, ne_eqb, lt-ltb, get_or-set_same, get_or-set_other, length-append, length-drop, fun_ext, cases_eq, Program, Sent, pipe_def, PipeModel, no_pipe, taken_from, with_item, with_sends, changed, written_with}
use Rattle.ink_base.specs.declared.event.Origin.TheVariants as origins
use Rattle.ink_base.specs.declared.ids.PipeId.{PipeId}
use Rattle.task_run.proofs.SentItems.{pipe_in, changed_same, changed_other, item_same, item_other}

-- thread t is the pipe's writer, or its reader
abbrev pub is_writer : Program → ℕ → ℕ → Bool
is_writer program t q = nat_lt q (length program.pipes) && ((pipe_def program q).writer.0 == t)

abbrev pub is_reader : Program → ℕ → ℕ → Bool
is_reader program t q = nat_lt q (length program.pipes) && ((pipe_def program q).reader.0 == t)

abbrev pub count_of : PipeModel → ℕ
count_of p = p.taken + length p.items

-- the words of thread t for these pipes
abbrev pub written_in : Program → ℕ → List PipeModel → ℕ → ℕ
written_in program t pipes q = if is_writer program t q then count_of (pipe_in pipes q) else 0

abbrev pub taken_in : Program → ℕ → List PipeModel → ℕ → ℕ
taken_in program t pipes q = if is_reader program t q then (pipe_in pipes q).taken else 0

-- a pipe that thread t writes
pub record IsOwnPipe (program : Program) (t q : ℕ) : Type 0 where
  pub known : q < length program.pipes
  pub writer : (pipe_def program q).writer.0 ≡ t

abbrev pub AreOwnSends : Program → ℕ → List Sent → Type 0
AreOwnSends program t [] = Unit {0}
AreOwnSends program t (s ∷ sends) = IsOwnPipe program t s.pipe.0 × AreOwnSends program t sends

own_writer : (program : Program) (t q : ℕ) → IsOwnPipe program t q → is_writer program t q ≡ true
own_writer program t q own = rw (lt-ltb q (length program.pipes) own.known) (eq-eqb (pipe_def program q).writer.0 t own.writer)

other_writer : (program : Program) (t u q : ℕ) → IsOwnPipe program t q → u ≢ t → is_writer program u q ≡ false
other_writer program t u q own ne =
    rw (lt-ltb q (length program.pipes) own.known) (ne_eqb (pipe_def program q).writer.0 u (λ e. ne (sym e ∙ own.writer)))

pub sent-count : (s : Sent) (pipes : List PipeModel) → length (with_item s pipes) ≡ length pipes
sent-count s pipes = length-set pipes s.pipe.0 _

-- one item more
abbrev item_added : PipeModel → ℕ → PipeModel
item_added p v = record p { items = p.items ++ v ∷ [] }

count-added : (p : PipeModel) (v : ℕ) → count_of (item_added p v) ≡ count_of p + 1
count-added p v = let more = length-append p.items (v ∷ []) in omega arith

item-written : (program : Program) (t : ℕ) (s : Sent) (pipes : List PipeModel) → IsOwnPipe program t s.pipe.0 → s.pipe.0 < length pipes →
    written_in program t (with_item s pipes) ≡ changed (written_in program t pipes) s.pipe.0 (written_in program t pipes s.pipe.0 + 1)
item-written program t s pipes own lt = fun_ext λ q.
    elim (cases_eq q s.pipe.0) [
      | inl e ↦
          let mine : is_writer program t s.pipe.0 ≡ true = own_writer program t s.pipe.0 own in
          ap (λ k. written_in program t (with_item s pipes) k) e
          ∙ (ap (λ b. if b then count_of (pipe_in (with_item s pipes) s.pipe.0) else 0) mine
          ∙ (ap count_of (item_same s pipes s.pipe.0 refl lt)
          ∙ (count-added (pipe_in pipes s.pipe.0) s.value
          ∙ sym (changed_same (written_in program t pipes) s.pipe.0 (written_in program t pipes s.pipe.0 + 1) q e
          ∙ ap (λ b. (if b then count_of (pipe_in pipes s.pipe.0) else 0) + 1) mine))))
      | inr ne ↦
          ap (λ p. if is_writer program t q then count_of p else 0) (item_other s pipes q ne)
          ∙ sym (changed_other (written_in program t pipes) s.pipe.0 (written_in program t pipes s.pipe.0 + 1) q ne)
    ]

item-written_other : (program : Program) (t u : ℕ) (s : Sent) (pipes : List PipeModel) → IsOwnPipe program t s.pipe.0 → u ≢ t →
    written_in program u (with_item s pipes) ≡ written_in program u pipes
item-written_other program t u s pipes own apart = fun_ext λ q.
    elim (cases_eq q s.pipe.0) [
      | inl e ↦
          let not : is_writer program u q ≡ false = ap (λ k. is_writer program u k) e ∙ other_writer program t u s.pipe.0 own apart in
          rw not refl
      | inr ne ↦ ap (λ p. if is_writer program u q then count_of p else 0) (item_other s pipes q ne)
    ]

item-taken : (s : Sent) (pipes : List PipeModel) (q : ℕ) → s.pipe.0 < length pipes → (pipe_in (with_item s pipes) q).taken ≡ (pipe_in pipes q).taken
item-taken s pipes q lt =
    elim (cases_eq q s.pipe.0) [
      | inl e ↦ ap (λ k. (pipe_in (with_item s pipes) k).taken) e ∙ (ap (λ (p : PipeModel). p.taken) (item_same s pipes s.pipe.0 refl lt) ∙ ap (λ k. (pipe_in pipes k).taken) (sym e))
      | inr ne ↦ ap (λ (p : PipeModel). p.taken) (item_other s pipes q ne)
    ]

-- all that was sent
pub sends-written : (program : Program) (t : ℕ) (sends : List Sent) (pipes : List PipeModel) → AreOwnSends program t sends → length pipes ≡ length program.pipes →
    written_in program t (with_sends sends pipes) ≡ written_with sends (written_in program t pipes)
sends-written program t [] pipes own count = refl
sends-written program t (s ∷ sends) pipes own count =
    sends-written program t sends (with_item s pipes) own.1 (sent-count s pipes ∙ count)
    ∙ ap (λ f. written_with sends f) (item-written program t s pipes own.0 (rw count own.0.known))

pub sends-written_other : (program : Program) (t u : ℕ) (sends : List Sent) (pipes : List PipeModel) → AreOwnSends program t sends → u ≢ t →
    written_in program u (with_sends sends pipes) ≡ written_in program u pipes
sends-written_other program t u [] pipes own apart = refl
sends-written_other program t u (s ∷ sends) pipes own apart =
    sends-written_other program t u sends (with_item s pipes) own.1 apart ∙ item-written_other program t u s pipes own.0 apart

sends-pipe_taken : (program : Program) (t : ℕ) (sends : List Sent) (pipes : List PipeModel) (q : ℕ) → AreOwnSends program t sends → length pipes ≡ length program.pipes →
    (pipe_in (with_sends sends pipes) q).taken ≡ (pipe_in pipes q).taken
sends-pipe_taken program t [] pipes q own count = refl
sends-pipe_taken program t (s ∷ sends) pipes q own count =
    sends-pipe_taken program t sends (with_item s pipes) q own.1 (sent-count s pipes ∙ count) ∙ item-taken s pipes q (rw count own.0.known)

pub sends-taken : (program : Program) (t u : ℕ) (sends : List Sent) (pipes : List PipeModel) → AreOwnSends program t sends → length pipes ≡ length program.pipes →
    taken_in program u (with_sends sends pipes) ≡ taken_in program u pipes
sends-taken program t u sends pipes own count = fun_ext λ q. ap (λ n. if is_reader program u q then n else 0) (sends-pipe_taken program t sends pipes q own count)

-- the first item of a pipe, which thread t reads
pub record IsFirstItem (program : Program) (t : ℕ) (pipes : List PipeModel) (q item : ℕ) : Type 0 where
  pub known : q < length program.pipes
  pub reader : (pipe_def program q).reader.0 ≡ t
  pub number : item ≡ (pipe_in pipes q).taken
  pub some : 0 < length (pipe_in pipes q).items

abbrev item_dropped : PipeModel → PipeModel
item_dropped p = record { items = drop 1 p.items; taken = p.taken + 1 }

take-there : (pipe : PipeId) (item : ℕ) (pipes : List PipeModel) → pipe.0 < length pipes →
    pipe_in (taken_from (origins.Pipe pipe item) pipes) pipe.0 ≡ item_dropped (pipe_in pipes pipe.0)
take-there pipe item pipes lt = get_or-set_same pipes pipe.0 (item_dropped (pipe_in pipes pipe.0)) no_pipe lt

take-other : (pipe : PipeId) (item : ℕ) (pipes : List PipeModel) (q : ℕ) → q ≢ pipe.0 → pipe_in (taken_from (origins.Pipe pipe item) pipes) q ≡ pipe_in pipes q
take-other pipe item pipes q ne = get_or-set_other pipes pipe.0 q (item_dropped (pipe_in pipes pipe.0)) no_pipe ne

count-dropped : (p : PipeModel) → 0 < length p.items → count_of (item_dropped p) ≡ count_of p
count-dropped p some = let less = length-drop 1 p.items in omega arith

pub take-written : (program : Program) (t u : ℕ) (pipe : PipeId) (item : ℕ) (pipes : List PipeModel) → IsFirstItem program t pipes pipe.0 item → length pipes ≡ length program.pipes →
    written_in program u (taken_from (origins.Pipe pipe item) pipes) ≡ written_in program u pipes
take-written program t u pipe item pipes first count = fun_ext λ q.
    ap (λ n. if is_writer program u q then n else 0) (
    elim (cases_eq q pipe.0) [
      | inl e ↦
          ap (λ k. count_of (pipe_in (taken_from (origins.Pipe pipe item) pipes) k)) e
          ∙ (ap count_of (take-there pipe item pipes (rw count first.known)) ∙ (count-dropped (pipe_in pipes pipe.0) first.some ∙ ap (λ k. count_of (pipe_in pipes k)) (sym e)))
      | inr ne ↦ ap count_of (take-other pipe item pipes q ne)
    ])

own_reader : (program : Program) (t q : ℕ) (pipes : List PipeModel) (item : ℕ) → IsFirstItem program t pipes q item → is_reader program t q ≡ true
own_reader program t q pipes item first = rw (lt-ltb q (length program.pipes) first.known) (eq-eqb (pipe_def program q).reader.0 t first.reader)

pub take-taken : (program : Program) (t : ℕ) (pipe : PipeId) (item : ℕ) (pipes : List PipeModel) → IsFirstItem program t pipes pipe.0 item → length pipes ≡ length program.pipes →
    taken_in program t (taken_from (origins.Pipe pipe item) pipes) ≡ changed (taken_in program t pipes) pipe.0 (item + 1)
take-taken program t pipe item pipes first count = fun_ext λ q.
    elim (cases_eq q pipe.0) [
      | inl e ↦
          ap (λ k. taken_in program t (taken_from (origins.Pipe pipe item) pipes) k) e
          ∙ (ap (λ b. if b then (pipe_in (taken_from (origins.Pipe pipe item) pipes) pipe.0).taken else 0) (own_reader program t pipe.0 pipes item first)
          ∙ (ap (λ (p : PipeModel). p.taken) (take-there pipe item pipes (rw count first.known))
          ∙ (ap (λ n. n + 1) (sym first.number)
          ∙ sym (changed_same (taken_in program t pipes) pipe.0 (item + 1) q e))))
      | inr ne ↦
          ap (λ (p : PipeModel). if is_reader program t q then p.taken else 0) (take-other pipe item pipes q ne)
          ∙ sym (changed_other (taken_in program t pipes) pipe.0 (item + 1) q ne)
    ]

pub take-taken_other : (program : Program) (t u : ℕ) (pipe : PipeId) (item : ℕ) (pipes : List PipeModel) → IsFirstItem program t pipes pipe.0 item → u ≢ t →
    taken_in program u (taken_from (origins.Pipe pipe item) pipes) ≡ taken_in program u pipes
take-taken_other program t u pipe item pipes first apart = fun_ext λ q.
    elim (cases_eq q pipe.0) [
      | inl e ↦
          let not : is_reader program u q ≡ false =
          ap (λ k. is_reader program u k) e ∙ rw (lt-ltb pipe.0 (length program.pipes) first.known) (ne_eqb (pipe_def program pipe.0).reader.0 u (λ same. apart (sym same ∙ first.reader)))
          in rw not refl
      | inr ne ↦ ap (λ (p : PipeModel). if is_reader program u q then p.taken else 0) (take-other pipe item pipes q ne)
    ]
