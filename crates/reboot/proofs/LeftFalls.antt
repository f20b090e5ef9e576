-- Each access of a boot lowers how many are left at most.
use Rattle.reboot.proofs.Common.{◌≡◌, ◌≢◌, ℕ, ◌+◌, ◌<◌, ◌≤◌, ◌==◌, nat_lt, true, false, length, Option, Some, None, arith, refl, ap, inl, inr, ltb-true, cases_Bool, cases_eq, suc, Program, Memory, answer, slot_in, Model, ThreadModel, thread_of, Readings, Follows, Background, BootAt, Commit, Stamp, Finished, Slot, Ack, Empty, Over, BootMachine, boot_at, boot_begun, boot_next, boot_stamp, stamp_at, boot_wants, after_slot, BootHolds}
use Rattle.std.proofs.Common.{zero, ◌*◌}
use Rattle.ink_base.specs.declared.ids.ThreadId.{ThreadId}
use Rattle.ink_base.specs.declared.entry.Entry.{Entry}
use Rattle.push_core.specs.declared.slot.Slot as slot
use Rattle.push_core.specs.declared.slot.Slot.TheVariants as slots
use Rattle.ink_layout.specs.Points.{entry_of_point}
use Rattle.never_cut.specs.Finished.{AtMostOneFinished}
use Rattle.never_cut.specs.Journal.{moved, MayNote}
use Rattle.never_cut.specs.Within.{AreShort}
use Rattle.never_cut.specs.Sound.{IsSound}
use Rattle.never_cut.proofs.Follows.{follow_finished}
use Rattle.never_cut.proofs.Releases.{after_release, release_other, release_calm}
use Rattle.never_cut.proofs.SoundStates.{sound_step}
use Rattle.reboot.specs.Boot.{boot_takes, boot_point}
use Rattle.reboot.specs.Bounded.{IsBooting, Begins, Makes, Meets, EveryBootEnds}
use Rattle.reboot.specs.kept.LeftMost.{finished_among, threads_ahead, boot_left}
use Rattle.reboot.proofs.Boots.{boot_begins, boot_keeps}
use Rattle.reboot.proofs.Drifts.{boot_drifts}

-- none of them, where none has a finished event
finished-none : (m : Model) (n : ℕ) → ((u : ℕ) → u < n → (thread_of m u).finished ≡ false) → finished_among m n ≡ 0
finished-none m zero none = refl
finished-none m (suc t) none =
    let here : (thread_of m t).finished ≡ false = none t (omega arith) in
    let below : finished_among m t ≡ 0 = finished-none m t (λ u lt. none u (omega arith)) in
    rw (here, below) refl

-- one at most, where no two have
finished-one : (m : Model) (n : ℕ) → ((t u : ℕ) → t < n → u < n → (thread_of m t).finished ≡ true → (thread_of m u).finished ≡ true → t ≡ u) → finished_among m n ≤ 1
finished-one m zero one = omega arith
finished-one m (suc t) one =
    elim (cases_Bool (thread_of m t).finished) [
      | inl here ↦
          let none : finished_among m t ≡ 0 = finished-none m t (λ u lt. others u lt here) in
          rw (here, none) (omega arith)
      | inr clear ↦
          let below : finished_among m t ≤ 1 = finished-one m t (λ v u lt less. one v u (omega arith) (omega arith)) in
          rw clear (omega arith)
    ]
  where
    others : (u : ℕ) → u < t → (thread_of m t).finished ≡ true → (thread_of m u).finished ≡ false
    others u lt here =
        elim (cases_Bool (thread_of m u).finished) [
          | inl is ↦ absurd (let same : t ≡ u = one t u (omega arith) (omega arith) here is in omega arith)
          | inr not ↦ not
        ]

-- as many, where the same threads have one
finished-same : (m next : Model) (n : ℕ) → ((u : ℕ) → u < n → (thread_of next u).finished ≡ (thread_of m u).finished) → finished_among next n ≡ finished_among m n
finished-same m next zero same = refl
finished-same m next (suc t) same =
    let here : (thread_of next t).finished ≡ (thread_of m t).finished = same t (omega arith) in
    let below : finished_among next t ≡ finished_among m t = finished-same m next t (λ u lt. same u (omega arith)) in
    rw (here, below) refl

-- one that has one counts
finished-some : (m : Model) (n t : ℕ) → t < n → (thread_of m t).finished ≡ true → 1 ≤ finished_among m n
finished-some m zero t lt is = absurd (omega arith)
finished-some m (suc n) t lt is =
    elim (cases_eq n t) [
      | inl same ↦ let here : (thread_of m n).finished ≡ true = rw same is in rw here (omega arith)
      | inr other ↦ let below : 1 ≤ finished_among m n = finished-some m n t (omega arith) is in omega arith
    ]

-- and one less, where it has none any more
finished-less : (m next : Model) (n t : ℕ) → t < n → (thread_of m t).finished ≡ true → (thread_of next t).finished ≡ false →
    ((u : ℕ) → u ≢ t → (thread_of next u).finished ≡ (thread_of m u).finished) → finished_among next n + 1 ≡ finished_among m n
finished-less m next zero t lt is clear others = absurd (omega arith)
finished-less m next (suc n) t lt is clear others =
    elim (cases_eq n t) [
      | inl same ↦
          let here : (thread_of m n).finished ≡ true = rw same is in
          let gone : (thread_of next n).finished ≡ false = rw same clear in
          let below : finished_among next n ≡ finished_among m n = finished-same m next n (λ u less. others u (omega arith)) in
          rw (here, gone, below) (omega arith)
      | inr other ↦
          let here : (thread_of next n).finished ≡ (thread_of m n).finished = others n other in
          let below : finished_among next n + 1 ≡ finished_among m n = finished-less m next n t (omega arith) is clear others in
          rw here (omega arith)
    ]

-- the next thread, or the end
next-left : (program : Program) (m : Model) (thread : ThreadId) (stamp : ℕ) → boot_left program m (boot_next program thread stamp) ≤
    threads_ahead program thread.0 + 2 * finished_among m (length program.threads)
next-left program m thread stamp =
    elim (cases_Bool (nat_lt (thread.0 + 1) (length program.threads))) [
      | inl e ↦ let lt : thread.0 + 1 < length program.threads = ltb-true (thread.0 + 1) (length program.threads) e in rw e (omega arith)
      | inr e ↦ rw e (omega arith)
    ]

-- the load of a slot, which shows the event or another one
slot-left : (program : Program) (m : Model) (thread : ThreadId) (stamp p : ℕ) (o : Option slot.Slot) →
    boot_left program m (after_slot program thread stamp p o) < boot_left program m (boot_at thread stamp (Slot p))
slot-left program m thread stamp p (Some (slots.Full q source count value)) =
    let next = next-left program m thread stamp in
    elim (cases_Bool (q == p)) [ inl same ↦ rw same (omega arith) | inr other ↦ rw other (omega arith) ]
slot-left program m thread stamp p (Some (slots.Empty q)) = let next = next-left program m thread stamp in omega arith
slot-left program m thread stamp p None = let next = next-left program m thread stamp in omega arith

-- Each access of a boot that isn't over lowers what is left at most.
pub boot_falls : (program : Program) (readings : Readings) (words : Memory) (m : Model) (boot : BootMachine) → Background program readings words m →
    BootHolds program words m boot → boot_stamp boot ≡ None →
    boot_left program (moved program readings m (entry_of_point (boot_point boot.thread boot.at)))
    (boot_takes program boot.thread boot.stamp boot.at (answer words (boot_wants program boot.thread.0 boot.at))) < boot_left program m boot
boot_falls program readings words m boot b h more = by_row boot.thread boot.stamp boot.at h more
  where
    by_row : (thread : ThreadId) (stamp : ℕ) (at : BootAt) → BootHolds program words m (boot_at thread stamp at) → stamp_at stamp at ≡ None →
        boot_left program (moved program readings m (entry_of_point (boot_point thread at)))
        (boot_takes program thread stamp at (answer words (boot_wants program thread.0 at))) < boot_left program m (boot_at thread stamp at)
    by_row thread stamp Commit h more = omega arith
    by_row thread stamp (Stamp c) h more = omega arith
    by_row thread stamp (Finished c) h more =
        let next = next-left program m thread stamp in
        elim (cases_Bool (answer words (boot_wants program thread.0 (Finished c)) == 0)) [ inl none ↦ rw none (omega arith) | inr some ↦ rw some (omega arith) ]
    by_row thread stamp (Slot p) h more = slot-left program m thread stamp p (slot_in (answer words (boot_wants program thread.0 (Slot p))))
    by_row thread stamp (Ack p source count) h more =
        let some = finished-some m (length program.threads) thread.0 h.known h.knows.0.finishing.finished in omega arith
    by_row thread stamp (Empty p) h more =
        let lt : thread.0 < length m.threads = rw b.sound.shape.threads h.known in
        let less : finished_among (after_release m thread.0) (length program.threads) + 1 ≡ finished_among m (length program.threads) =
        finished-less m (after_release m thread.0) (length program.threads) thread.0 h.known h.knows.0.event.finishing.finished (release_calm m thread.0 lt)
        (λ u ne. ap (λ (x : ThreadModel). x.finished) (release_other m thread.0 u ne)) in
        let next = next-left program (after_release m thread.0) thread stamp in
        omega arith
    by_row thread stamp Over h more = absurd cc

-- the accesses of sources and clock leave it
pub boot_left-follows : (program : Program) (m next : Model) (boot : BootMachine) → Follows m next → boot_left program next boot ≡ boot_left program m boot
boot_left-follows program m next boot f =
    let same : finished_among next (length program.threads) ≡ finished_among m (length program.threads) =
    finished-same m next (length program.threads) (λ u lt. follow_finished m next u f) in
    rw same refl

-- a boot begins with no more than its bound
pub boot_left-begins : (program : Program) (m : Model) → 1 ≤ length program.threads → AtMostOneFinished program m →
    boot_left program m boot_begun ≤ 4 * length program.threads + 2
boot_left-begins program m some one = let few = finished-one m (length program.threads) one in omega arith

-- a state stays sound by a legal entry or none
noted_sound : (program : Program) (readings : Readings) (words : Memory) (m : Model) (o : Option Entry) → AreShort readings → Background program readings words m →
    MayNote program readings m o → IsSound program readings (moved program readings m o)
noted_sound program readings words m None short b may = b.sound
noted_sound program readings words m (Some e) short b may = sound_step program readings m e b.accepted short b.sound may

-- what is known of a boot on a board: what its registers hold, and that its accesses and those that are left are within the bound
record IsBounded (program : Program) (readings : Readings) (words : Memory) (m : Model) (boot : BootMachine) (accesses : ℕ) : Type 0 where
  background : Background program readings words m
  holds : BootHolds program words m boot
  within : accesses + boot_left program m boot ≤ 4 * length program.threads + 2

is_bounded : (program : Program) (readings : Readings) (words : Memory) (m : Model) (boot : BootMachine) (accesses : ℕ) → AreShort readings →
    IsBooting program readings words m boot accesses → IsBounded program readings words m boot accesses
is_bounded program readings words m boot accesses short (Begins _ _ b) = record {
  background = b;
  holds = boot_begins program readings words m b;
  within = let few = boot_left-begins program m b.accepted.counts.threads_least b.sound.one in omega arith;
}
is_bounded program readings words m boot accesses short (Makes words' m' boot' accesses' booting more) =
    let old = is_bounded program readings words' m' boot' accesses' short booting in
    let step = boot_keeps program readings words' m' boot' old.background old.holds in
    let falls = boot_falls program readings words' m' boot' old.background old.holds more in
    let within = old.within in
    record {
      background = record {
        accepted = old.background.accepted;
        private = step.kept.private;
        shared = step.kept.shared;
        sound = noted_sound program readings words' m' _ short old.background step.kept.legal;
      };
      holds = step.holds;
      within = omega arith;
    }
is_bounded program readings words m boot accesses short (Meets words' _ m' _ _ _ booting same follows b) =
    let old = is_bounded program readings words' m' boot accesses short booting in
    let left = boot_left-follows program m' m boot follows in
    let within = old.within in
    record { background = b; holds = boot_drifts program words' words m' m boot same follows old.holds; within = omega arith }

pub every_boot_ends : EveryBootEnds
every_boot_ends program readings words m boot accesses short booting = let within = (is_bounded program readings words m boot accesses short booting).within in omega arith
