-- What is legal in the kernel's own state is legal in its account, whatever events the queues are to have, and leaves them beside each other.
use Rattle.std.proofs.Common.{◌≡◌, ◌≢◌, inl, inr, ℕ, zero, suc, ◌+◌, ◌<◌, Bool, false, List, [], ◌∷◌, map, drop, length, set, get_or-set_same, get_or-set_other, refl, sym, ap, ◌∙◌, subst, arith, Option, Some, None, IsSome}
use Rattle.std.specs.Prelude.{if◌then◌else◌, slice_index_or}
use Rattle.std.specs.List.{enumerate_from}
use Rattle.std.proofs.lemmas.Bool.{cases_eq}
use Rattle.std.proofs.lemmas.List.{length-map}
use mathlib.Core.Option.{some, some-ne-none, some-injective}
use lib.ListN.{get_elem?}
use Rattle.ink_base.specs.declared.event.Event.{Event}
use Rattle.ink_base.specs.declared.ids.ThreadId.{ThreadId}
use Rattle.ink_base.specs.declared.entry.Entry.TheVariants as entries
use Rattle.task_isa.specs.declared.program.Program.{Program}
use Rattle.task_isa.specs.declared.program.ThreadDef.{ThreadDef}
use Rattle.ink_layout.specs.declared.kernel_point.KernelPoint.TheVariants as points
use Rattle.never_cut.specs.declared.model.Model.{Model}
use Rattle.never_cut.specs.declared.scan_model.ScanModel.{ScanModel}
use Rattle.never_cut.specs.declared.thread_model.ThreadModel.{ThreadModel}
use Rattle.never_cut.specs.State.{thread_of, no_thread, with_thread, unfinished, open_model, open_thread}
use Rattle.never_cut.specs.Pending.{pending, pending_in, later_event, first_of}
use Rattle.never_cut.specs.Entries.{Readings, InScan, MayLook, Legal, IsCalm, effect, released, looked}
use Rattle.never_cut.specs.kept.Actors.{without_held}
use Rattle.kernel_account.specs.declared.entry.KernelEntry.TheVariants.{Scan, Look, Commit, Release}
use Rattle.kernel_account.specs.Account.{account_effect, AccountLegal, MayVisit, filled}
use Rattle.kernel_account.specs.Follows.{kernels_part, IsBeside, AreSeen, FirstBeside, EveryEntryFollows, EveryCutFollows}
use Rattle.kernel_account.proofs.Parts.{thread_part, map_set, FirstSame, pending_same, commit_legal, commit_same, commit_queues, commit_clock}

thread_here : (m : Model) (t : ℕ) (x : ThreadModel) → t < length m.threads → thread_of (with_thread m t x) t ≡ x
thread_here m t x lt = get_or-set_same m.threads t x no_thread lt

thread_else : (m : Model) (t u : ℕ) (x : ThreadModel) → u ≢ t → thread_of (with_thread m t x) u ≡ thread_of m u
thread_else m t u x other = get_or-set_other m.threads t u x no_thread other

released_part : (m : Model) (t : ℕ) → kernels_part (with_thread m t (released (thread_of m t))) ≡ with_thread (kernels_part m) t (released (thread_of (kernels_part m) t))
released_part m t =
    λ j. record (kernels_part m) {
      threads = (map_set without_held m.threads t (released (thread_of m t)) ∙ ap (λ x. set (map without_held m.threads) t (released x)) (sym (thread_part m t))) j;
    }

-- the first event behind those that were dropped
drop_first : (xs : List Event) (r : ℕ) (e : Event) → get_elem? xs r ≡ some e → first_of (drop r xs) ≡ Some e
drop_first [] r e at = absurd (some-ne-none e (sym at))
drop_first (x ∷ xs) zero e at = ap Some (some-injective x e at)
drop_first (x ∷ xs) (suc r) e at = drop_first xs r e at

drop_next : (xs : List Event) (r : ℕ) → drop 1 (drop r xs) ≡ drop (suc r) xs
drop_next xs zero = refl
drop_next [] (suc r) = refl
drop_next (x ∷ xs) (suc r) = drop_next xs r

module _ {program : Program} {events : ℕ → List Event} {account m : Model} (b : IsBeside program events account m) where
  -- a part of a thread that isn't its queue's events
  same_part : {A : Type 0} (f : ThreadModel → A) (t : ℕ) → f (without_held (thread_of account t)) ≡ f (without_held (thread_of m t))
  same_part f t = ap f (sym (thread_part account t)) ∙ ap (λ (k : Model). f (thread_of k t)) b.same ∙ ap f (thread_part m t)

  pub released_same : (t : ℕ) → (thread_of account t).released ≡ (thread_of m t).released
  released_same t = same_part (λ x. x.released) t

  -- the first event of an unfinished queue, where the kernel's own state has it
  first_same : (t : ℕ) → t < length program.threads → AreSeen program events m → (thread_of m t).finished ≡ false → (e : Event) → first_of (unfinished (thread_of m t)) ≡ Some e →
      first_of (unfinished (thread_of account t)) ≡ Some e
  first_same t known seen calm e first =
      let open_m : unfinished (thread_of m t) ≡ (thread_of m t).held = ap (λ (c : Bool). if c then drop 1 (thread_of m t).held else (thread_of m t).held) calm in
      let open_a : unfinished (thread_of account t) ≡ (thread_of account t).held =
      ap (λ (c : Bool). if c then drop 1 (thread_of account t).held else (thread_of account t).held) (same_part (λ x. x.finished) t ∙ calm) in
      ap first_of (open_a ∙ b.held t known) ∙ drop_first (events t) (thread_of m t).released e (seen t known e (ap first_of (sym open_m) ∙ first))

  -- a scan begins
  scan_beside : (readings : Readings) → Legal program readings m entries.Scan →
      AccountLegal program account (Scan m.clock) × IsBeside program events (account_effect program account (Scan m.clock)) (effect program readings m entries.Scan)
  scan_beside readings calm = (
    ((λ t known. same_part (λ x. x.finished) t ∙ calm t known), b.clock),
    record { same = λ j. record (b.same j) { scan = Some (record { time = m.clock; looked = [] }) }; held = b.held; clock = omega arith },
  )

  -- a thread is looked at
  look_beside : (readings : Readings) (t : ThreadId) → Legal program readings m (entries.Look t) →
      AccountLegal program account (Look t (thread_of m t.0).released) × IsBeside program events (account_effect program account (Look t (thread_of m t.0).released)) (effect program readings m (entries.Look t))
  look_beside readings t legal = (
    (legal.0, sym (released_same t.0), visit m.scan (ap (λ (k : Model). k.scan) b.same) legal.1),
    record {
      same = λ j. record (b.same j) { scan = elim (b.same j).scan [ None ↦ None | Some scan ↦ Some (looked t scan) ] };
      held = b.held;
      clock = b.clock;
    },
  )
    where
      visit : (o : Option ScanModel) → account.scan ≡ o → InScan (record m { scan = o }) (λ scan. MayLook m scan t.0) → InScan account (λ scan. MayVisit account scan t.0)
      visit None is h = absurd h
      visit (Some scan) is h =
          subst (λ (o : Option ScanModel). InScan (record account { scan = o }) (λ s. MayVisit account s t.0)) (sym is) (h.0, same_part (λ x. x.running) t.0 ∙ h.1)

  -- the pending event of a thread that may commit is the queue's first, where no chain runs and the scan has not looked
  first_there : (readings : Readings) (t : ThreadId) → AreSeen program events m → (thread_of m t.0).finished ≡ false → Legal program readings m (entries.Commit t) → FirstSame m account t.0
  first_there readings t seen calm legal scan is looked_not idle =
      let shown : pending program m t.0 ≡ first_of (unfinished (thread_of m t.0)) =
      (λ j. elim (is j) [ None ↦ None | Some s ↦ pending_in program m t.0 s ])
      ∙ (λ j. elim (idle j) [ Some task ↦ (thread_of m t.0).event | None ↦ if looked_not j then later_event program m t.0 scan.time else first_of (unfinished (thread_of m t.0)) ]) in
      by_first (first_of (unfinished (thread_of m t.0))) refl (subst IsSome shown legal.2)
    where
      by_first : (o : Option Event) → first_of (unfinished (thread_of m t.0)) ≡ o → IsSome o → first_of (unfinished (thread_of account t.0)) ≡ first_of (unfinished (thread_of m t.0))
      by_first None is some_event = absurd cc
      by_first (Some e) is some_event = first_same t.0 legal.0 seen calm e is ∙ sym is

  -- so it serves the same event in the account
  pub pending_beside : (readings : Readings) (t : ThreadId) → AreSeen program events m → (thread_of m t.0).finished ≡ false → Legal program readings m (entries.Commit t) → pending program account t.0 ≡ pending program m t.0
  pending_beside readings t seen calm legal = pending_same program m account t.0 b.same (first_there readings t seen calm legal)

  -- a thread commits
  commit_beside : (readings : Readings) (t : ThreadId) → AreSeen program events m → (thread_of m t.0).finished ≡ false → Legal program readings m (entries.Commit t) →
      AccountLegal program account (Commit t) × IsBeside program events (account_effect program account (Commit t)) (effect program readings m (entries.Commit t))
  commit_beside readings t seen calm legal =
      let first = first_there readings t seen calm legal in (
        commit_legal program readings [] m account t b.same first legal,
        record {
          same = commit_same program m account t.0 b.same first;
          held = λ u known. (commit_queues program t.0 account).held u ∙ b.held u known ∙ ap (λ (r : ℕ). drop r (events u)) (sym ((commit_queues program t.0 m).released u));
          clock = omega (arith, b.clock, commit_clock program t.0 account, commit_clock program t.0 m);
        },
      )

  threads_same : length account.threads ≡ length m.threads
  threads_same = sym (length-map account.threads without_held) ∙ ap (λ (k : Model). length k.threads) b.same ∙ length-map m.threads without_held

  -- the first event is released
  release_beside : (readings : Readings) (t : ThreadId) → length m.threads ≡ length program.threads → Legal program readings m (entries.Release t) →
      AccountLegal program account (Release t) × IsBeside program events (account_effect program account (Release t)) (effect program readings m (entries.Release t))
  release_beside readings t shape legal = (
    (legal.0, same_part (λ x. x.finished) t.0 ∙ legal.1),
    record {
      same = released_part account t.0 ∙ (λ j. with_thread (b.same j) t.0 (released (thread_of (b.same j) t.0))) ∙ sym (released_part m t.0);
      held = λ u known. elim (cases_eq u t.0) [
        | inl is ↦
            subst (λ v. (thread_of (with_thread account t.0 (released (thread_of account t.0))) v).held ≡ drop (thread_of (with_thread m t.0 (released (thread_of m t.0))) v).released (events v)) (sym is)
            (ap (λ (x : ThreadModel). x.held) (thread_here account t.0 (released (thread_of account t.0)) (omega (arith, legal.0, threads_same, shape)))
            ∙ ap (drop 1) (b.held t.0 legal.0) ∙ drop_next (events t.0) (thread_of m t.0).released
            ∙ ap (λ (r : ℕ). drop r (events t.0)) (let n : suc (thread_of m t.0).released ≡ (thread_of m t.0).released + 1 = omega arith in n)
            ∙ ap (λ (x : ThreadModel). drop x.released (events t.0)) (sym (thread_here m t.0 (released (thread_of m t.0)) (omega (arith, legal.0, shape)))))
        | inr other ↦
            ap (λ (x : ThreadModel). x.held) (thread_else account t.0 u (released (thread_of account t.0)) other) ∙ b.held u known
            ∙ ap (λ (x : ThreadModel). drop x.released (events u)) (sym (thread_else m t.0 u (released (thread_of m t.0)) other))
      ];
      clock = b.clock;
    },
  )

-- nothing is finished in a scan
pub calm_in : (program : Program) (m : Model) (t : ℕ) (P : ScanModel → Type 0) → ((scan : ScanModel) → m.scan ≡ Some scan → IsCalm program m) → t < length program.threads → InScan m P → (thread_of m t).finished ≡ false
calm_in program m t P calm known h = by_scan m.scan refl h
  where
    by_scan : (o : Option ScanModel) → m.scan ≡ o → InScan (record m { scan = o }) P → (thread_of m t).finished ≡ false
    by_scan None is none = absurd none
    by_scan (Some scan) is some_scan = calm scan is t known

pub every_entry_follows : EveryEntryFollows
every_entry_follows program readings events account m points.Nothing sound seen b may = (tt, b)
every_entry_follows program readings events account m points.Scan sound seen b may = scan_beside b readings may
every_entry_follows program readings events account m (points.Look t) sound seen b may = look_beside b readings t may
every_entry_follows program readings events account m (points.Commit t) sound seen b may =
    commit_beside b readings t seen (calm_in program m t.0 _ sound.calm may.0 may.1) may
every_entry_follows program readings events account m (points.Release t) sound seen b may = release_beside b readings t sound.shape.threads may

pub every_cut_follows : EveryCutFollows
every_cut_follows program events account m b = record { same = λ j. record (b.same j) { scan = None }; held = b.held; clock = b.clock }

-- at the start
filled_part : (events : ℕ → List Event) (n : ℕ) (defs : List ThreadDef) → map without_held (map (filled events) (enumerate_from n defs)) ≡ map without_held (map open_thread defs)
filled_part events n [] = refl
filled_part events n (d ∷ defs) = ap (λ (l : List ThreadModel). open_thread d ∷ l) (filled_part events (n + 1) defs)

filled_held : (events : ℕ → List Event) (n t : ℕ) (defs : List ThreadDef) → t < length defs → (slice_index_or (map (filled events) (enumerate_from n defs)) t no_thread).held ≡ events (n + t)
filled_held events n t [] lt = absurd (omega arith)
filled_held events n zero (d ∷ defs) lt = ap events (let e : n ≡ n + 0 = omega arith in e)
filled_held events n (suc t) (d ∷ defs) lt = filled_held events (n + 1) t defs (omega arith) ∙ ap events (let e : n + 1 + t ≡ n + suc t = omega arith in e)

open_released : (t : ℕ) (defs : List ThreadDef) → (slice_index_or (map open_thread defs) t no_thread).released ≡ 0
open_released t [] = refl
open_released zero (d ∷ defs) = refl
open_released (suc t) (d ∷ defs) = open_released t defs

pub first_beside : FirstBeside
first_beside program events = record {
  same = λ j. record (kernels_part (open_model program)) { threads = filled_part events 0 program.threads j };
  held = λ t known. filled_held events 0 t program.threads known ∙ ap events (let e : 0 + t ≡ t = omega arith in e) ∙ ap (λ (r : ℕ). drop r (events t)) (sym (open_released t program.threads));
  clock = omega arith;
}
