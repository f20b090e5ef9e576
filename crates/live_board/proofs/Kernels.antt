-- The kernel's account goes on, charge after charge.
use Rattle.std.proofs.Common.{◌≡◌, ◌⊎◌, inl, inr, ℕ, suc, ◌+◌, ◌-◌, ◌<◌, ◌≤◌, Bool, true, List, [], ◌∷◌, ◌++◌, length, length-append, refl, sym, ap, ◌∙◌, subst, arith}
use Rattle.std.specs.Prelude.{slice_index}
use Rattle.std.proofs.lemmas.List.Sums.{sum_by-drop_more}
use Rattle.std.proofs.lemmas.List.{get_or_append_left, get_or_push}
use mathlib.Core.Option.{some, some-ne-none}
use lib.ListN.{get_elem?}
use Rattle.ink_base.specs.declared.actor.Actor.TheVariants as actors
use Rattle.task_isa.specs.declared.program.Program.{Program}
use Rattle.job_parts.specs.Job.{JobParts}
use Rattle.kernel_account.specs.declared.entry.KernelEntry.{KernelEntry}
use Rattle.kernel_account.specs.declared.entry.KernelEntry.TheVariants.{Scan, Look, Commit, Release}
use Rattle.event_queue.specs.Seats.{kernel_view}
use Rattle.event_queue.specs.declared.view.Call.{Call}
use Rattle.ink_base.specs.declared.event.Event.{Event}
use Rattle.never_cut.specs.declared.model.Model.{Model}
use Rattle.kernel_actor.specs.Accounts.{AreFound}
use Rattle.kernel_actor.specs.Acting.{Acting, place_of}
use Rattle.kernel_actor.specs.Rows.{Place}
use Rattle.kernel_actor.specs.Served.{IsSeenBy, KeepsSeen, state_before}
use Rattle.kernel_actor.specs.Books.{Book, charges_by, charges_in}
use Rattle.kernel_actor.specs.Timely.{IsTimely, AddsTimely}
use Rattle.live_account.specs.Turns.{turns_for, charge_at, no_charge, ticks_before}
use Rattle.live_board.specs.kept.Kernels.{state_at, SeesAll, ScansInTime, turns_left, HaveRoomLeft, IsKernelAfter, HasBegun, HasRun, calls}
use Rattle.live_board.proofs.Calls.{Behind, leads_behind, found_before, known_rises}
use Rattle.live_board.proofs.Changes.{entry_cases, state_early, state_last}

-- the charges of a book whose charge has begun
pub charges_now : (old : List (List KernelEntry)) (book : Book) → book.begun ≡ true → book.done ≡ old → charges_in book ≡ old ++ book.entries ∷ []
charges_now old book begun done = λ j. charges_by (begun j) (done j) book.entries

-- what a charge adds that had no entry is timely
pub timely_now : {budget : ℕ} {old new : Acting} (ran : HasRun budget old new) (n : ℕ) (e : KernelEntry) → old.book.entries ≡ [] → get_elem? new.book.entries n ≡ some e → IsTimely (kernel_view old.seat).told e
timely_now ran n e none at =
    elim (ran.timely.each n e at) [
      | inl before ↦ absurd (some-ne-none e (sym (subst (λ (l : List KernelEntry). get_elem? l n ≡ some e) none before)))
      | inr now ↦ now
    ]

scans_on : (job : JobParts) (c budget : ℕ) (charges : List (List KernelEntry)) (old new : Acting) → length charges ≡ c → ScansInTime job charges → old.book.entries ≡ [] → ticks_before job.charges c ≤ (kernel_view old.seat).told.clock →
    HasRun budget old new → ScansInTime job (charges ++ new.book.entries ∷ [])
scans_on job c budget charges old new count was none ticks ran d n clock entry =
    elim (entry_cases charges new.book.entries d n (Scan clock) entry) [
      | inl before ↦ was d n clock before.1
      | inr now ↦
          let late : (kernel_view old.seat).told.clock ≤ clock = timely_now ran n (Scan clock) none now.1 in
          let here : ticks_before job.charges d ≡ ticks_before job.charges c = ap (ticks_before job.charges) (now.0 ∙ count) in omega (arith, late, here, ticks)
    ]

-- what was seen is among what is seen now
seen_still : (program : Program) (more before : List Call) (m : Model) (e : KernelEntry) → IsSeenBy program before m e → IsSeenBy program (more ++ before) m e
seen_still program more before m (Scan clock) seen = tt
seen_still program more before m (Look t p) seen = let rises = known_rises t.0 more before in omega (arith, rises, seen)
seen_still program more before m (Commit t) seen = λ e serves queued. let rises = known_rises t.0 more before in let here = seen e serves queued in omega (arith, rises, here)
seen_still program more before m (Release t) seen = tt

sees_on : (program : Program) (charges : List (List KernelEntry)) (old new : Place) → old.entries ≡ [] → Behind old.calls new.calls → SeesAll program old.calls charges → KeepsSeen program charges old new →
    SeesAll program new.calls (charges ++ new.entries ∷ [])
sees_on program charges old new none grows was keeps events found c n e entry =
    elim (entry_cases charges new.entries c n e entry) [
      | inl before ↦
          let there = found_before events grows.0 old.calls (subst (AreFound events) grows.1 found) in
          subst (λ (m : Model). IsSeenBy program new.calls m e) (sym (state_early program events charges new.entries c n before.0))
          (subst (λ (l : List Call). IsSeenBy program l (state_at program events charges c n) e) (sym grows.1)
          (seen_still program grows.0 old.calls (state_at program events charges c n) e (was events there c n e before.1)))
      | inr now ↦
          let here : IsSeenBy program new.calls (state_before program events charges new.entries n) e =
          elim (keeps.each events found n e now.1) [
            | inl before ↦ absurd (some-ne-none e (sym (subst (λ (l : List KernelEntry). get_elem? l n ≡ some e) none before)))
            | inr seen ↦ seen
          ] in
          subst (λ d. IsSeenBy program new.calls (state_at program events (charges ++ new.entries ∷ []) d n) e) (sym now.0)
          (subst (λ (m : Model). IsSeenBy program new.calls m e) (sym (state_last program events charges new.entries n)) here)
    ]

-- the turns of a charge, and of those behind it
pub turns_split : (job : JobParts) (c : ℕ) → c < length job.charges → turns_left job c ≡ turns_for actors.Kernel (charge_at job.charges c) + turns_left job (c + 1)
turns_split job c lt = sum_by-drop_more (turns_for actors.Kernel) job.charges c no_charge lt

-- the room of the next charge is enough for its turns
pub room_next : (job : JobParts) (c spare : ℕ) (rooms rest : List ℕ) → HaveRoomLeft job c rooms → rooms ≡ rest ++ spare ∷ [] → turns_for actors.Kernel (charge_at job.charges c) ≤ spare
room_next job c spare rooms rest have is =
    let size = ap length is ∙ length-append rest (spare ∷ []) in
    let number = have.number in
    let here : length job.charges - 1 - length rest ≡ c = omega (arith, size, number) in
    subst (λ d. turns_for actors.Kernel (charge_at job.charges d) ≤ spare) here
    (subst (λ x. turns_for actors.Kernel (charge_at job.charges (length job.charges - 1 - length rest)) ≤ x) (ap (λ l. slice_index l (length rest)) is ∙ get_or_push rest spare 0 (length rest) refl)
    (have.each (length rest) (omega (arith, size))))

rooms_on : (job : JobParts) (c spare : ℕ) (rooms rest : List ℕ) → HaveRoomLeft job c rooms → rooms ≡ rest ++ spare ∷ [] → HaveRoomLeft job (c + 1) rest
rooms_on job c spare rooms rest have is =
    let size = ap length is ∙ length-append rest (spare ∷ []) in record {
      number = let number = have.number in omega (arith, size, number);
      each = λ k lt. subst (λ x. turns_for actors.Kernel (charge_at job.charges (length job.charges - 1 - k)) ≤ x) (ap (λ l. slice_index l k) is ∙ get_or_append_left rest (spare ∷ []) 0 k lt) (have.each k (omega (arith, size, lt)));
    }

pub kernel_on : (job : JobParts) (c : ℕ) (old began new : Acting) → c < length job.charges → IsKernelAfter job c old → HasBegun (ticks_before job.charges c) old began →
    HasRun (turns_for actors.Kernel (charge_at job.charges c)) began new → IsKernelAfter job (c + 1) new
kernel_on job c old began new known was begins ran =
    let program : new.program ≡ job.program = ran.same.program ∙ (begins.beside.program ∙ was.program) in
    let now = charges_now (charges_in old.book) new.book (ran.same.begun ∙ begins.begun) (ran.same.done ∙ begins.done) in
    record {
      program = program;
      charges = let size = ap length now ∙ length-append (charges_in old.book) (new.book.entries ∷ []) in let before = was.charges in omega (arith, size, before);
      scans = subst (ScansInTime job) (sym now) (scans_on job c (turns_for actors.Kernel (charge_at job.charges c)) (charges_in old.book) began new was.charges was.scans begins.entries begins.ticks ran);
      sees = subst (SeesAll job.program (calls new)) (sym now)
          (sees_on job.program (charges_in old.book) (place_of began) (place_of new) begins.entries (leads_behind began.program (turns_for actors.Kernel (charge_at job.charges c)) (place_of began) (place_of new) ran.leads)
          (subst (λ (l : List Call). SeesAll job.program l (charges_in old.book)) (sym begins.calls) was.sees)
          (subst (λ (z : Program × List (List KernelEntry)). KeepsSeen z.0 z.1 (place_of began) (place_of new)) (λ j. ((begins.beside.program ∙ was.program) j, begins.done j)) ran.served));
      left = let split = turns_split job c known in let before = was.left in let begun = begins.beside.left in let spent = ran.left in omega (arith, split, before, begun, spent);
      account = ran.account;
      ends = ran.ends;
      rooms = subst (HaveRoomLeft job (c + 1)) (sym ran.same.rooms) (rooms_on job c began.book.spare old.book.rooms began.book.rooms was.rooms begins.rooms);
    }
