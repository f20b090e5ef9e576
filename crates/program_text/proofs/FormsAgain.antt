-- The declarations of the canonical text are read as what was declared.
use Rattle.program_text.proofs.Common.{◌≡◌, ℕ, ◌<◌, ◌≤◌, true, false, List, [], ◌∷◌, ◌++◌, length, drop, get_or, Option, Some, None, Ok, codes, decimal, refl, sym, ap, arith, lt-ltb, ne_eqb, ForSome, ForNone, Word, ThreadId, is_name, no_thread_def, ThreadDef, PipeDef, TimerDef, Program, AreDistinct, IsRightThread, IsRightPipe, IsRightTimer, Draft, is_taken, thread_name, has_priority, pipe_name, timer_name}
use Rattle.task_lines.specs.Forms.{priority_in, expires_in, thread_line, source_line}
use Rattle.task_lines.specs.Devices.{reader_in, pipe_line, due_in, off_in, start_in, timer_line}
use Rattle.ink_base.specs.declared.limits.TheConstants as limits
use Rattle.ink_base.specs.Checks.{word_in, end_in}
use Rattle.program_text.proofs.Spelled.{expires_words, thread_words, source_words, pipe_words, start_words, timer_words}
use Rattle.program_text.proofs.WordsAgain.{fixed_again, number_again, field_again}
use Rattle.program_text.proofs.NamesAgain.{declared_again, new_name_again}

-- an item whose name is new, and for which there is room
pub record IsNew {X : Type 0} (name : X → Word) (most : ℕ) (before : List X) (x : X) : Type 0 where
  pub room : length before < most
  pub named : is_name (name x) ≡ true
  pub fresh : is_taken name before (name x) ≡ false

-- what a thread is that can be read behind others
pub record CanThread (before : List ThreadDef) (t : ThreadDef) : Type 0 where
  pub new : IsNew thread_name 16 before t
  pub alone : has_priority before t.priority ≡ false
  pub right : IsRightThread t

priority_again : (threads : List ThreadDef) (n : ℕ) (ws : List Word) → n ≤ limits.PRIORITY → has_priority threads n ≡ false → priority_in threads (codes "priority" ∷ decimal n ∷ ws) ≡ Ok (n, ws)
unfolding priority_in
priority_again threads n ws high alone = rw (field_again (codes "priority") 0 255 n ws (omega arith) (omega arith) (omega arith), alone) refl

expires_again : (e : Option ℕ) → ForSome e (λ d. d ≤ limits.TICKS) → expires_in (expires_words e) ≡ Ok e
unfolding expires_in end_in
expires_again None h = refl
expires_again (Some d) h = let le : d ≤ limits.TICKS = h d refl in rw (field_again (codes "expires") 0 limits.TICKS d [] (omega arith) (omega arith) (omega arith)) refl

-- a thread
pub thread_again : (d : Draft) (n : ℕ) (t : ThreadDef) → CanThread d.threads t
    → thread_line d n (drop 1 (thread_words t)) ≡ Ok (record d { threads = d.threads ++ t ∷ []; thread_lines = d.thread_lines ++ n ∷ [] })
unfolding thread_line
thread_again d n t can =
    let right = can.right in
    rw (
      lt-ltb (length d.threads) 16 can.new.room,
      new_name_again thread_name d.threads t.name _ can.new.named can.new.fresh,
      priority_again d.threads t.priority _ right.priority can.alone,
      field_again (codes "queue") 2 32 t.queue _ right.queue_least right.queue (omega (arith, right.queue)),
      field_again (codes "state") 0 256 t.state _ (omega arith) right.state (omega (arith, right.state)),
      field_again (codes "log") 1 limits.LOG_PLACES t.log _ right.log_least right.log (omega (arith, right.log)),
      expires_again t.expires right.expires,
    ) refl

-- the threads of a program are told apart by their names
abbrev pub AreApart : Program → Type 0
AreApart program = AreDistinct (λ k. (get_or program.threads k no_thread_def).name) (length program.threads)

-- a source
pub source_again : (program : Program) (d : Draft) (t : ThreadId) → d.threads ≡ program.threads → AreApart program → t.0 < length program.threads → length d.sources < 16
    → source_line d (drop 1 (source_words program t)) ≡ Ok (record d { sources = d.sources ++ t ∷ [] })
unfolding source_line end_in
source_again program d t same apart lt room =
    rw (lt-ltb (length d.sources) 16 room, same, declared_again thread_name program.threads no_thread_def t.0 [] lt apart) refl

reader_again : (program : Program) (writer reader : ℕ) → AreApart program → reader < length program.threads → (writer ≡ reader → ⊥)
    → reader_in program.threads writer ((get_or program.threads reader no_thread_def).name ∷ []) ≡ Ok (reader, [])
unfolding reader_in
reader_again program writer reader apart lt other =
    rw (declared_again thread_name program.threads no_thread_def reader [] lt apart, ne_eqb reader writer (λ e. other (sym e))) refl

-- a pipe
pub pipe_again : (program : Program) (d : Draft) (p : PipeDef) → d.threads ≡ program.threads → AreApart program → IsNew pipe_name 8 d.pipes p → IsRightPipe program p
    → pipe_line d (drop 1 (pipe_words program p)) ≡ Ok (record d { pipes = d.pipes ++ p ∷ [] })
unfolding pipe_line end_in
pipe_again program d p same apart new right =
    rw (
      lt-ltb (length d.pipes) 8 new.room,
      new_name_again pipe_name d.pipes p.name _ new.named new.fresh,
      number_again 1 64 p.places _ right.places_least right.places (omega (arith, right.places)),
      fixed_again (codes "from") _,
      same,
      declared_again thread_name program.threads no_thread_def p.writer.0 _ right.writer apart,
      fixed_again (codes "to") _,
      reader_again program p.writer.0 p.reader.0 apart right.reader right.other,
    ) refl

start_again : (due : Option ℕ) (period : ℕ) → ForSome due (λ tick. tick ≤ limits.TICKS) → period ≤ limits.TICKS → ForNone due (period ≡ 0) → start_in (start_words due period) ≡ Ok (due, period)
unfolding start_in word_in off_in due_in end_in
start_again None period within lt off = let none : period ≡ 0 = off refl in ap (λ (n : ℕ). Ok (None, n)) (sym none)
start_again (Some due) period within lt off =
    let small : due ≤ limits.TICKS = within due refl in
    rw (field_again (codes "due") 0 limits.TICKS due _ (omega arith) (omega arith) (omega arith), field_again (codes "period") 0 limits.TICKS period [] (omega arith) (omega arith) (omega arith)) refl

-- a timer
pub timer_again : (program : Program) (d : Draft) (t : TimerDef) → d.threads ≡ program.threads → AreApart program → IsNew timer_name 8 d.timers t → IsRightTimer program t
    → timer_line d (drop 1 (timer_words program t)) ≡ Ok (record d { timers = d.timers ++ t ∷ [] })
unfolding timer_line
timer_again program d t same apart new right =
    rw (
      lt-ltb (length d.timers) 8 new.room,
      new_name_again timer_name d.timers t.name _ new.named new.fresh,
      fixed_again (codes "thread") _,
      same,
      declared_again thread_name program.threads no_thread_def t.thread.0 _ right.thread apart,
      start_again t.due t.period right.due right.period right.off,
    ) refl
