-- Readings that may fail, and what it is for the code to give what a reading gives.
use Rattle.std.specs.Prelude.{◌≡◌, ℕ, List, [], ◌∷◌, Result, Ok, Err}
use Rattle.ink_base.specs.declared.fault.Cause.{Cause}
use Rattle.ink_base.specs.declared.fault.JobFault.{JobFault}
use Rattle.ink_base.specs.declared.fault.JobAnswer.{JobAnswer}
use Rattle.ink_base.specs.declared.fault.JobAnswer.TheVariants as answers
use Rattle.ink_base.specs.declared.line_error.LineError.{LineError}
use Rattle.ink_base.specs.declared.line_error.LineError.TheVariants as errors

infixl 10 ◌>>=◌
-- within a line: the first fault ends the reading
abbrev pub ◌>>=◌ : {A B : Type 0} → Result A Cause → (A → Result B Cause) → Result B Cause
(Ok x) >>= f = f x
(Err e) >>= f = Err e

infixl 10 ◌>>◌
-- from line to line: the first fault, with its line, ends the reading
abbrev pub ◌>>◌ : {A B : Type 0} → Result A JobFault → (A → Result B JobFault) → Result B JobFault
(Ok x) >> f = f x
(Err e) >> f = Err e

-- a cause becomes the fault of its line
abbrev pub at_line : {A : Type 0} → ℕ → Result A Cause → Result A JobFault
at_line number (Ok x) = Ok x
at_line number (Err cause) = Err (record { line = number; cause = cause })

-- f of each, up to the first fault
unfoldable pub each : {A B : Type 0} → (A → Result B JobFault) → List A → Result (List B) JobFault
each f [] = Ok []
each f (x ∷ xs) = f x >> (λ y. each f xs >> (λ ys. Ok (y ∷ ys)))

-- the code's error is the reading's, unless memory ran out
abbrev pub Fails : {Y : Type 0} → LineError → Result Y Cause → Type 0
Fails errors.NoMemory read = Unit {0}
Fails (errors.Fault cause) read = read ≡ Err cause

-- what the code returned, seen by view, is what the reading gives, unless memory ran out
abbrev pub Gives : {X Y : Type 0} → (X → Y) → Result X LineError → Result Y Cause → Type 0
Gives view (Ok x) read = read ≡ Ok (view x)
Gives view (Err e) read = Fails e read

-- the same where the code leaves its answer in a place
abbrev pub Leaves : {S : Type 0} → Result (Unit {0}) LineError → S → Result S Cause → Type 0
Leaves (Ok x) now read = read ≡ Ok now
Leaves (Err e) now read = Fails e read

-- the answer of a line's error
abbrev pub answer_at : ℕ → LineError → JobAnswer
answer_at number (errors.Fault cause) = answers.Fault (record { line = number; cause = cause })
answer_at number errors.NoMemory = answers.NoMemory

-- the code's answer is the reading's fault, unless memory ran out
abbrev pub Answers : {Y : Type 0} → JobAnswer → Result Y JobFault → Type 0
Answers answers.NoMemory read = Unit {0}
Answers (answers.Fault fault) read = read ≡ Err fault

-- what the code returned, seen by view, is what the reading of several lines gives, unless memory ran out
abbrev pub GivesJob : {X Y : Type 0} → (X → Y) → Result X JobAnswer → Result Y JobFault → Type 0
GivesJob view (Ok x) read = read ≡ Ok (view x)
GivesJob view (Err e) read = Answers e read

-- the same where the code leaves its answer in a place
abbrev pub LeavesJob : {S : Type 0} → Result (Unit {0}) JobAnswer → S → Result S JobFault → Type 0
LeavesJob (Ok x) now read = read ≡ Ok now
LeavesJob (Err e) now read = Answers e read
