-- Today's words of an image of either form.
use Rattle.ink_image.proofs.Common.{◌≡◌, ℕ, List, length, Result, Ok, Err, Vec, refl, ◌∙◌, Program}
use Rattle.std.specs.Prelude.{IfOk}
use Rattle.std.specs.declared.alloc.Global.{Global}
use Rattle.ink_base.specs.declared.memory.NoMemory.{NoMemory}
use Rattle.never_cut.specs.Image.{IsImage}
use Rattle.old_image.specs.Renewed.{IsRenewed, StayFresh}
use Rattle.ink_image.specs.declared.form.Form.TheVariants.{Earlier, Today}
use Rattle.ink_image.specs.Form.{HasWords, memory_in, IsToday}

pub renewed_today : (program : Program) (given : List ℕ) (r : Result (Vec ℕ Global) NoMemory) → HasWords program given →
    IfOk r (λ (new : Vec ℕ Global). length new.items ≡ length given) →
    IfOk r (λ (new : Vec ℕ Global). IsRenewed program (memory_in program given) (memory_in program new.items)) →
    IfOk r (λ (new : Vec ℕ Global). IsImage program (memory_in program new.items)) →
    IfOk r (λ (new : Vec ℕ Global). StayFresh program (memory_in program given) (memory_in program new.items)) →
    IfOk r (λ (new : Vec ℕ Global). IsToday Earlier program given new.items)
renewed_today program given (Ok new) has count changed image fresh = record { count = count ∙ has; today = changed; image = image; fresh = fresh.fresh }
renewed_today program given (Err e) has count changed image fresh = tt

pub same_today : (program : Program) (words : List ℕ) → HasWords program words → IsImage program (memory_in program words) → IsToday Today program words words
same_today program words has image = record { count = has; today = refl; image = image; fresh = λ listed fresh. fresh }
