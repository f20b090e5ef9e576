-- What sources and kernel tell of each other goes on, charge after charge.
use Rattle.std.proofs.Common.{◌≡◌, ◌⊎◌, inl, inr, ℕ, ◌+◌, ◌<◌, ◌≤◌, List, [], ◌∷◌, ◌++◌, length, take, refl, sym, ap, ◌∙◌, subst, arith, true, Some}
use Rattle.std.proofs.lemmas.List.{take_all}
use mathlib.Core.Option.{some}
use lib.ListN.{get_elem?}
use Rattle.ink_base.specs.declared.event.Event.{Event}
use Rattle.ink_base.specs.declared.ids.ThreadId.{ThreadId}
use Rattle.task_isa.specs.declared.program.Program.{Program}
use Rattle.never_cut.specs.declared.model.Model.{Model}
use Rattle.never_cut.specs.Commit.{is_of_queue}
use Rattle.never_cut.specs.Pending.{pending}
use Rattle.never_cut.specs.State.{thread_of}
use Rattle.kernel_account.specs.declared.entry.KernelEntry.{KernelEntry}
use Rattle.kernel_account.specs.declared.entry.KernelEntry.TheVariants.{Look, Commit}
use Rattle.event_queue.specs.declared.view.Call.{Call}
use Rattle.event_queue.specs.Calls.{released_of}
use Rattle.event_queue.specs.Views.{known_of}
use Rattle.irq_source.specs.declared.lists.Published.{Published}
use Rattle.irq_source.specs.declared.lists.Declined.{Declined}
use Rattle.kernel_actor.specs.Accounts.{AreFound}
use Rattle.live_account.specs.Queues.{releases_of}
use Rattle.live_board.specs.kept.Kernels.{SeesAll, state_at}
use Rattle.live_board.specs.kept.Dates.{LooksBehind, ServesBehind, RefusesBehind, AreDated, AddsDates}
use Rattle.live_board.proofs.Changes.{take_early, entry_cases, state_early}

module _ (t places : ℕ) (calls : List Call) (charges : List (List KernelEntry)) (entries : List KernelEntry) (accepted accepted' : List Published) (refused refused' : List Declined) (adds : AddsDates t places (length charges) calls entries accepted accepted' refused refused') where
  -- a reading that is published in this charge is behind all looks
  looks_on : LooksBehind t charges accepted → LooksBehind t (charges ++ entries ∷ []) accepted'
  looks_on was c n p k u q same entry at le =
      elim (entry_cases charges entries c n (Look u p) entry) [
        | inl before ↦ elim (adds.published k q at) [
          | inl there ↦ was c n p k u q same before.1 there le
          | inr now ↦ let lt = before.0 in let is = now.0 in omega (arith, lt, is)
        ]
        | inr last ↦ elim (adds.published k q at) [
          | inl there ↦ let above = adds.looks n p k u q same last.1 there in absurd (omega (arith, above, le))
          | inr now ↦ let e = last.0 in let is = now.0 in omega (arith, e, is)
        ]
      ]

  -- what is published in this charge is at no position that was served before
  serves_on : (program : Program) (events : ℕ → List Event) → AreFound events calls → SeesAll program calls charges → ServesBehind program t events charges accepted →
      ServesBehind program t events (charges ++ entries ∷ []) accepted'
  serves_on program events found sees was c n k u e q same entry serves queued at is =
      elim (entry_cases charges entries c n (Commit u) entry) [
        | inl before ↦
            let early = state_early program events charges entries c n before.0 in
            let there = subst (λ (m : Model). pending program m t ≡ Some e) early serves in
            let here : q.position ≡ (thread_of (state_at program events charges c n) t).released = is ∙ ap (λ (m : Model). (thread_of m t).released) early in
            elim (adds.published k q at) [
              | inl listed ↦ was c n k u e q same before.1 there queued listed here
              | inr now ↦
                  let below : (thread_of (state_at program events charges c n) t).released < known_of t calls =
                  subst (λ v. (thread_of (state_at program events charges c n) v).released < known_of v calls) same
                  (sees events found c n (Commit u) before.1 e (subst (λ v. pending program (state_at program events charges c n) v ≡ Some e) (sym same) there) queued) in
                  let above = now.1 in absurd (omega (arith, below, above, here))
            ]
        | inr last ↦ let few = adds.charges k q at in let e = last.0 in omega (arith, few, e)
      ]

  refuses_on : releases_of t charges ≡ released_of t calls → RefusesBehind t places charges refused → RefusesBehind t places (charges ++ entries ∷ []) refused'
  refuses_on released was k d at =
      let few = adds.refusals k d at in
      let early = ap (releases_of t) (take_early charges (entries ∷ []) d.charge few) in
      elim (adds.declined k d at) [
        | inl there ↦ let behind = was k d there in omega (arith, early, behind)
        | inr now ↦
            let all = ap (releases_of t) (take_all d.charge charges (let e = now.0 in omega (arith, e))) in
            let above = now.1 in omega (arith, early, all, released, above)
      ]

  pub dates_on : (program : Program) (calls' : List Call) → ((events : ℕ → List Event) → AreFound events calls' → AreFound events calls) → SeesAll program calls charges →
      ((events : ℕ → List Event) → AreFound events calls → releases_of t charges ≡ released_of t calls) → AreDated program t places calls charges accepted refused →
      AreDated program t places calls' (charges ++ entries ∷ []) accepted' refused'
  dates_on program calls' less known released was = record {
    looks = looks_on was.looks;
    serves = λ events found. serves_on program events (less events found) known (was.serves events (less events found));
    refuses = λ events found. refuses_on (released events (less events found)) (was.refuses events (less events found));
  }
