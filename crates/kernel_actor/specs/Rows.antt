-- The rows of the kernel's table, as an actor goes through them: own words are read and written in its own memory, shared ones by its seat.
use Rattle.std.specs.Prelude.{◌≡◌, ℕ, zero, suc, List, ◌∷◌}
use Rattle.task_isa.specs.declared.program.Program.{Program}
use Rattle.fram_words.specs.Places.{Memory, answer, perform}
use Rattle.fram_words.specs.Shape.{memory_of}
use Rattle.ink_layout.specs.Shape.{shape_of}
use Rattle.kernel_account.specs.declared.entry.KernelEntry.{KernelEntry}
use Rattle.kernel_core.specs.Kernel.{wants, takes, point_found}
use Rattle.kernel_core.specs.declared.kernel.Kernel.{Kernel}
use Rattle.event_queue.specs.declared.view.Call.{Call}
use Rattle.event_queue.specs.declared.view.Call.TheVariants as made
use Rattle.kernel_actor.specs.Accounts.{entry_made, noted}
use Rattle.kernel_actor.specs.Kinds.{kind_of}
use Rattle.kernel_actor.specs.declared.kind.Kind.{Kind}
use Rattle.kernel_actor.specs.declared.kind.Kind.TheVariants.{Own, Clock, Look, Acknowledge, Release}

-- where the actor is: its registers, its own words, the calls of its seat (the latest first), and the entries of the charge
pub record Place : Type 0 where
  pub kernel : Kernel
  pub words : List ℕ
  pub calls : List Call
  pub entries : List KernelEntry

-- its own words, by what they hold
abbrev pub own_memory : Program → Place → Memory
own_memory program p = memory_of (shape_of program) p.words

-- the call of the seat grew by this one, and no own word changed
abbrev pub Calls : Place → Place → Call → Type 0
Calls old new call = (new.calls ≡ call ∷ old.calls) × (new.words ≡ old.words)

-- Where the word comes from, by the kind of the access: from the own words, after which the access is made to them, or from the call of the seat. A
-- store of an acknowledgement or of an empty slot takes any word.
abbrev pub Finds : Program → Place → Place → Kind → (word : ℕ) → Type 0
Finds program old new Own word =
    (word ≡ answer (own_memory program old) (wants program old.kernel)) × (own_memory program new ≡ perform (own_memory program old) (wants program old.kernel)) × (new.calls ≡ old.calls)
Finds program old new Clock word = Calls old new (made.LoadClock word)
Finds program old new (Look at) word = Calls old new (made.Look at.thread.0 at.position word)
Finds program old new (Acknowledge at) word = Calls old new (made.StoreAck at.thread.0 at.position)
Finds program old new (Release at) word = Calls old new (made.Release at.thread.0 at.position)

-- one row of the table leads from the old place to the new one
pub record LeadsOne (program : Program) (old new : Place) : Type 0 where
  pub word : ℕ
  pub finds : Finds program old new (kind_of old.kernel) word
  pub kernel : new.kernel ≡ takes program old.kernel word
  pub entries : new.entries ≡ noted old.entries (entry_made (kind_of old.kernel) word (point_found program old.kernel word))

-- so many rows do
abbrev pub Leads : Program → (rows : ℕ) → Place → Place → Type 0
Leads program zero old new = new ≡ old
Leads program (suc rows) old new = (middle : Place) × Leads program rows old middle × LeadsOne program middle new
