-- What follows from calls stays so where calls are added.
use Rattle.std.proofs.Common.{◌≡◌, ◌⊎◌, inl, inr, ℕ, zero, suc, ◌+◌, ◌<◌, ◌≤◌, ◌==◌, ◌&&◌, max, cond, Bool, true, false, List, [], ◌∷◌, ◌++◌, length, refl, sym, ap, ◌∙◌, subst, arith, Option, Some, None}
use mathlib.Core.Option.{some, some-ne-none}
use lib.ListN.{get_elem?}
use Rattle.ink_base.specs.declared.event.Event.{Event}
use Rattle.push_core.specs.Slots.{empty_word, slot_in}
use Rattle.task_isa.specs.declared.program.Program.{Program}
use Rattle.event_queue.proofs.Basics.{snoc_cases}
use Rattle.event_queue.specs.Events.{holds_event}
use Rattle.event_queue.specs.declared.view.Call.{Call}
use Rattle.event_queue.specs.declared.view.Call.TheVariants as made
use Rattle.event_queue.specs.Calls.{Won, won, mine_of, published_of, published_by, released_of, seen_of}
use Rattle.event_queue.specs.Views.{known_of, known_published}
use Rattle.kernel_actor.specs.Accounts.{AreFound}
use Rattle.kernel_actor.specs.Rows.{Place, Finds, Leads}
use Rattle.kernel_actor.specs.Kinds.{kind_of}
use Rattle.kernel_actor.specs.declared.kind.Kind.{Kind}
use Rattle.kernel_actor.specs.declared.kind.Kind.TheVariants.{Own, Clock, Look, Acknowledge, Release}

-- these calls were made behind those
abbrev pub Behind : (old new : List Call) → Type 0
Behind old new = (more : List Call) × (new ≡ more ++ old)

-- a row of the kernel's adds a call, or none
found_adds : (program : Program) (old new : Place) (kind : Kind) (word : ℕ) → Finds program old new kind word → Behind old.calls new.calls
found_adds program old new Own word f = ([], f.2)
found_adds program old new Clock word f = (made.LoadClock word ∷ [], f.0)
found_adds program old new (Look at) word f = (made.Look at.thread.0 at.position word ∷ [], f.0)
found_adds program old new (Acknowledge at) word f = (made.StoreAck at.thread.0 at.position ∷ [], f.0)
found_adds program old new (Release at) word f = (made.Release at.thread.0 at.position ∷ [], f.0)

append_twice : (xs ys zs : List Call) → xs ++ (ys ++ zs) ≡ (xs ++ ys) ++ zs
append_twice [] ys zs = refl
append_twice (x ∷ xs) ys zs = ap (λ l. x ∷ l) (append_twice xs ys zs)

-- so do many rows
pub leads_behind : (program : Program) (rows : ℕ) (old new : Place) → Leads program rows old new → Behind old.calls new.calls
leads_behind program zero old new leads = ([], ap (λ (p : Place). p.calls) leads)
leads_behind program (suc rows) old new leads =
    let before = leads_behind program rows old leads.0 leads.1 in
    let one = found_adds program leads.0 new (kind_of leads.0.kernel) leads.2.word leads.2.finds in
    (one.0 ++ before.0, one.1 ∙ (ap (λ l. one.0 ++ l) before.1 ∙ append_twice one.0 before.0 old.calls))

-- what all looks have found, the earlier ones have
pub found_before : (events : ℕ → List Event) (more calls : List Call) → AreFound events (more ++ calls) → AreFound events calls
found_before events [] calls found = found
found_before events (made.Look t p w ∷ more) calls found = found_before events more calls found.1
found_before events (call ∷ more) calls found = found_before events more calls found

known_by : (b : Bool) (w : ℕ) (o : Option ℕ) (r : ℕ) → known_published o r ≤ known_published (cond b (Some w) o) r
known_by true w None r = omega arith
known_by true w (Some x) r = omega arith
known_by false w o r = omega arith

known_released : (b : Bool) (o : Option ℕ) (r : ℕ) → known_published o r ≤ known_published (cond b None o) (cond b (r + 1) r)
known_released true None r = omega arith
known_released true (Some x) r = omega arith
known_released false o r = omega arith

-- a call more makes no fewer positions known
known_more : (t : ℕ) (call : Call) (calls : List Call) → known_of t calls ≤ known_of t (call ∷ calls)
known_more t (made.Look u p w) calls = known_by (u == t && p == released_of t calls && holds_event p (slot_in w)) w (seen_of t calls) (released_of t calls)
known_more t (made.Release u p) calls = known_released (u == t) (seen_of t calls) (released_of t calls)
known_more t call calls = omega arith

pub known_rises : (t : ℕ) (more calls : List Call) → known_of t calls ≤ known_of t (more ++ calls)
known_rises t [] calls = omega arith
known_rises t (call ∷ more) calls = let before = known_rises t more calls in let one = known_more t call (more ++ calls) in omega (arith, before, one)

-- a publication is at a position that the calls show to be published
pub mine_published : (places : ℕ) (calls : List Call) (k : ℕ) (m : Won) → get_elem? (mine_of calls) k ≡ some m → m.position < published_of places calls
mine_published places [] k m at = absurd (some-ne-none m (sym at))
mine_published places (made.Publish p r x w ∷ calls) k m at = by_test (w == empty_word p) (mine_published places calls k m) at
  where
    by_test : (b : Bool) → (get_elem? (mine_of calls) k ≡ some m → m.position < published_of places calls) → get_elem? (cond b (mine_of calls ++ won p r x ∷ []) (mine_of calls)) k ≡ some m →
        m.position < max (cond b (p + 1) (published_by places (slot_in w))) (published_of places calls)
    by_test true below here =
        elim (snoc_cases (mine_of calls) (won p r x) k m here) [
          | inl before ↦ let less = below before.1 in omega (arith, less)
          | inr last ↦ let same = ap (λ (z : Won). z.position) last.1 in omega (arith, same)
        ]
    by_test false below here = let less = below here in omega (arith, less)
mine_published places (made.LoadTail w ∷ calls) k m at = let less = mine_published places calls k m at in omega (arith, less)
mine_published places (made.LoadSlot n w ∷ calls) k m at = let less = mine_published places calls k m at in omega (arith, less)
mine_published places (made.HelpTail p w ∷ calls) k m at = let less = mine_published places calls k m at in omega (arith, less)
mine_published places (call ∷ calls) k m at = mine_published places calls k m at
