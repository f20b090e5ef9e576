-- The numbers that are told have 32 bits.
use Rattle.std.proofs.Common.{◌≡◌, ℕ, ◌+◌, ◌*◌, ◌<◌, ◌≤◌, Bool, true, false, length, refl, ap, ◌∙◌, arith}
use mir.Val.{bool_byte}
use Rattle.ink_base.specs.declared.limits.TheConstants as limits
use Rattle.task_isa.specs.declared.program.Program.{Program}
use Rattle.prog_check.specs.Accepted.{IsAccepted}
use Rattle.prog_check.specs.Lookup.{thread_def}
use Rattle.fram_words.specs.Places.{Memory, Slot}
use Rattle.push_core.specs.Slots.{slot_in}
use Rattle.never_cut.specs.Stands.{flag}
use Rattle.cut_sweep.specs.kept.Told.{sum_to, is_full, outputs_told, full_slot, full_slots, AreTold}
use Rattle.cut_sweep.proofs.Sums.{sum_more, sum_most}

byte_flag : (b : Bool) → bool_byte b ≡ flag b
byte_flag true = refl
byte_flag false = refl

-- one slot more
pub one_slot : (words : Memory) (t n full : ℕ) (b : Bool) → full ≡ sum_to (full_slot words t) n → b ≡ is_full (slot_in (words (Slot t n))) →
    full + bool_byte b ≡ sum_to (full_slot words t) (n + 1)
one_slot words t n full b so_far is =
    let more = sum_more (full_slot words t) n in
    let byte : bool_byte b ≡ full_slot words t n = byte_flag b ∙ ap flag is in omega (arith, more, byte, so_far)

flag_few : (b : Bool) → flag b ≤ 1
flag_few true = omega arith
flag_few false = omega arith

-- of so many slots no more hold an event
pub slots_few : (words : Memory) (t n : ℕ) → sum_to (full_slot words t) n ≤ n
slots_few words t n =
    let most = sum_most (full_slot words t) n 1 (λ k lt. flag_few (is_full (slot_in (words (Slot t k))))) in omega arith

module _ (program : Program) (words : Memory) (accepted : IsAccepted program) where
  queue_few : (t : ℕ) → t < length program.threads → full_slots program words t ≤ limits.QUEUE_PLACES
  queue_few t known =
      let few = slots_few words t (thread_def program t).queue in
      let queue = (accepted.threads t known).queue in omega arith

  pub outputs_few : (t : ℕ) → t < length program.threads → AreTold program words → sum_to (outputs_told words) (t + 1) ≤ limits.THREADS * limits.LOG_PLACES
  outputs_few t known told =
      let most = sum_most (outputs_told words) (t + 1) limits.LOG_PLACES (λ k lt. told.outputs k (omega arith)) in
      let threads = accepted.counts.threads in omega arith

  pub held_few : (t : ℕ) → t < length program.threads → sum_to (full_slots program words) (t + 1) ≤ limits.THREADS * limits.QUEUE_PLACES
  held_few t known =
      let most = sum_most (full_slots program words) (t + 1) limits.QUEUE_PLACES (λ k lt. queue_few k (omega arith)) in
      let threads = accepted.counts.threads in omega arith
