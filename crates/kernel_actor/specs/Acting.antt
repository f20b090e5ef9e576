-- What contracts see of the kernel as an actor.
use Rattle.std.specs.Prelude.{◌≡◌, ℕ, List}
use Rattle.task_isa.specs.declared.program.Program.{Program}
use Rattle.kernel_core.specs.declared.kernel.Kernel.{Kernel}
use Rattle.event_queue.specs.declared.seat.KernelSeat.{KernelSeat}
use Rattle.event_queue.specs.Seats.{kernel_view, IsSameKernelSeat}
use Rattle.event_queue.specs.Views.{calls_of}
use Rattle.kernel_actor.specs.Accounts.{IsAccountOf}
use Rattle.kernel_actor.specs.Books.{Book, charges_in}
use Rattle.kernel_actor.specs.Ends.{EndsAs}
use Rattle.kernel_actor.specs.Rows.{Place}

-- the program, the registers, the own words, the seat and the account, and how many accesses it may still make
pub record Acting : Type 0 where
  pub program : Program
  pub kernel : Kernel
  pub words : List ℕ
  pub seat : KernelSeat
  pub book : Book
  pub left : ℕ

-- where it is
abbrev pub place_of : Acting → Place
place_of a = record { kernel = a.kernel; words = a.words; calls = calls_of (kernel_view a.seat); entries = a.book.entries }

-- the same actor in the same charge
pub record IsSame (old new : Acting) : Type 0 where
  pub program : new.program ≡ old.program
  pub seat : IsSameKernelSeat old.seat new.seat
  pub done : new.book.done ≡ old.book.done
  pub begun : new.book.begun ≡ old.book.begun
  pub rooms : new.book.rooms ≡ old.book.rooms

-- the same actor with the same own words, and as many accesses left
pub record IsBeside (old new : Acting) : Type 0 where
  pub program : new.program ≡ old.program
  pub words : new.words ≡ old.words
  pub left : new.left ≡ old.left

-- its account is one, by all that its seat has seen
abbrev pub KeepsAccount : Acting → Type 0
KeepsAccount a = IsAccountOf a.program (calls_of (kernel_view a.seat)) (charges_in a.book)

-- if it ended now, it would leave words and an account that stand for one state
abbrev pub LeavesState : Acting → Type 0
LeavesState a = EndsAs a.program a.words (calls_of (kernel_view a.seat)) (charges_in a.book)
