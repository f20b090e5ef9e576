-- A run of an actor, access by access.
use Rattle.irq_source.proofs.Common.{◌≡◌, inl, inr, ℕ, suc, ◌+◌, ◌-◌, ◌/◌, ◌^◌, ◌<◌, ◌≤◌, List, length, refl, sym, ap, ◌∙◌, subst, arith, cases_lt, Port, Row, IsSettled, Knows, view, Added, Stands, PacesOne, IsInSrc, StageKept, Stage, settled_of}
use Rattle.push_core.specs.Table.{phase_of}
use Rattle.irq_source.specs.Known.{KnowsItsPlace}
use Rattle.push_core.specs.declared.stage.Stage.TheVariants as stages
use Rattle.irq_source.specs.Acting.{Acting, IsAccounted, IsSame, knows}
use Rattle.irq_source.specs.Pace.{SettlesEnough, enough_for}
use Rattle.irq_source.specs.Rows.{Grows, Leads, LeadsOne}
use Rattle.irq_source.specs.kept.Paces.{IsPaced}
use Rattle.irq_source.specs.kept.Runs.{HasRun}
use Rattle.irq_source.proofs.Accounts.{settled_here, settled_behind}
use Rattle.irq_source.proofs.Arms.{added_none, added_then}
use Rattle.irq_source.proofs.Growth.{grows_none, grows_then}
use Rattle.irq_source.proofs.Pacing.{paced_first, paced_then, enough_settle}

-- no access was made
pub run_none : (a : Acting) → IsAccounted a → Stands a.port (length a.readings) a.place.src (knows a) a.place.row → HasRun a a 0
run_none a account h = record {
  same = record { port = refl; readings = refl; charges = refl };
  begun = refl;
  leads = refl;
  added = added_none (knows a);
  settles = omega arith;
  grows = grows_none a.port.queue.places (knows a).gone (a.begun - 1) a.place;
  paced = λ cut. paced_first a.port.queue.places (length a.readings) a.place.src a.port (knows a) a.place.row cut h;
  account = account;
  stands = h;
}

-- one access more
pub run_then : {old mid : Acting} (new : Acting) {n : ℕ} → HasRun old mid n → IsSame mid new → new.begun ≡ mid.begun → LeadsOne mid.port mid.readings (mid.begun - 1) mid.place new.place → Added (knows mid) (knows new)
    → settled_of mid.place.src (knows mid) ≤ settled_of new.place.src (knows new) → Grows mid.port.queue.places (knows mid).gone (mid.begun - 1) mid.place new.place → IsAccounted new → PacesOne mid.port.queue.places mid.place.row.stage new.place.row.stage mid.place.src new.place.src (knows mid) (knows new)
    → Stands new.port (length new.readings) new.place.src (knows new) new.place.row → HasRun old new (n + 1)
run_then {old} {mid} new {n} h same begun leads added settles grows account paces stands = record {
  same = record { port = same.port ∙ h.same.port; readings = same.readings ∙ h.same.readings; charges = same.charges ∙ h.same.charges };
  begun = begun ∙ h.begun;
  leads = subst (λ (k : ℕ). Leads old.port old.readings (old.begun - 1) k old.place new.place) (let e : suc n ≡ n + 1 = omega arith in e)
      (mid.place, h.leads, subst (λ (z : Port × List ℕ × ℕ). LeadsOne z.0 z.1 (z.2 - 1) mid.place new.place) (λ j. (h.same.port j, h.same.readings j, h.begun j)) leads);
  added = added_then (knows old) (knows mid) (knows new) h.added added;
  settles = omega (arith, h.settles, settles);
  grows = grows_then old.port.queue.places (knows old).gone (knows mid).gone (old.begun - 1) old.place mid.place new.place h.added.gone h.grows
      (subst (λ (z : Port × ℕ). Grows z.0.queue.places (knows mid).gone (z.1 - 1) mid.place new.place) (λ j. (h.same.port j, h.begun j)) grows);
  paced = λ cut. paced_then old.port.queue.places n (old.place.src / 2 ^ 32) mid.place.src new.place.src mid.place.row.stage new.place.row.stage (knows mid) (knows new)
      (subst (λ (p : Port). PacesOne p.queue.places mid.place.row.stage new.place.row.stage mid.place.src new.place.src (knows mid) (knows new)) h.same.port paces) (h.paced cut);
  account = account;
  stands = stands;
}

-- so many accesses settle so many readings, unless all are settled
pub run_settles : {old new : Acting} {steps budget : ℕ} → HasRun old new steps → steps ≤ budget → (steps < budget → IsSettled (length old.readings) new.place.row) → SettlesEnough old.port.queue.places (length old.readings) budget old.place new.place (knows new)
run_settles {old} {new} {steps} {budget} h most settled cut m others enough few =
    elim (cases_lt steps budget) [
      | inl less ↦ inr (settled less)
      | inr all ↦
          let all_made : enough_for new.port.queue.places others m ≤ steps = omega (arith, enough, ap (λ (p : Port). p.queue.places) h.same.port) in
          inl (enough_settle new.port (length new.readings) new.place.src steps (old.place.src / 2 ^ 32) m others new.seat.source.0 (view new.seat) new.place.row h.stands
          (subst (λ (p : Port). IsPaced p.queue.places steps (old.place.src / 2 ^ 32) new.place.row.stage new.place.src (knows new)) (sym h.same.port) (h.paced cut)) all_made few)
    ]

-- a source that stands at a row knows its place
pub place_known : {port : Port} {number src : ℕ} {s : Knows} {row : Row} → Stands port number src s row → KnowsItsPlace (phase_of row.stage) row.accepted row.next src s
place_known {port} {number} {src} {s} {row} h = by_stage row.accepted row.next row.stage h.at
  where
    here : (a k : ℕ) → IsInSrc src a k → length s.mine ≡ a → (length s.mine ≡ a) × (settled_of src s ≡ k)
    here a k is len = (len, settled_here number src a k s is h.src_kept len)

    behind : (a k : ℕ) → IsInSrc src a k → length s.mine ≡ a + 1 → (length s.mine ≡ a + 1) × (settled_of src s ≡ k + 1)
    behind a k is len = (len, settled_behind number src a k s is h.src_kept len)

    by_stage : (a k : ℕ) (st : Stage) → StageKept port.queue.places src s a k st → KnowsItsPlace (phase_of st) a k src s
    by_stage a k stages.LoadSrc at = tt
    by_stage a k (stages.LoadSlots n seen) at = tt
    by_stage a k (stages.LoadAck seen) at = tt
    by_stage a k stages.LoadTail at = here a k at.0 at.1
    by_stage a k (stages.LoadSlot p) at = here a k at.0 at.1
    by_stage a k (stages.Publish p) at = here a k at.0 at.1
    by_stage a k (stages.MoveTail p) at = behind a k at.0 at.1
    by_stage a k (stages.HelpTail p) at = here a k at.0 at.1
    by_stage a k stages.StoreSkip at = here a k at.0 at.1
    by_stage a k stages.StoreAccepted at = behind a k at.0 at.1
