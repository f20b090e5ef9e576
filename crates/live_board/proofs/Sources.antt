-- A source's account goes on, charge after charge.
use Rattle.std.proofs.Common.{◌≡◌, ◌≢◌, ◌⊎◌, inl, inr, ℕ, zero, suc, ◌+◌, ◌-◌, ◌/◌, ◌^◌, ◌<◌, ◌≤◌, max, List, length, map, refl, sym, ap, ◌∙◌, subst, arith}
use mathlib.Core.Option.{some}
use lib.ListN.{get_elem?}
use Rattle.std.proofs.lemmas.Bool.{cases_lt}
use Rattle.std.proofs.lemmas.List.{length-map}
use Rattle.event_queue.proofs.Basics.{below, same_element}
use Rattle.irq_source.proofs.Basics.{cases_less, at_map}
use Rattle.event_queue.specs.Calls.{Knows}
use Rattle.ink_base.specs.declared.ids.SourceId.{SourceId}
use Rattle.job_parts.specs.Job.{JobParts}
use Rattle.irq_source.specs.declared.lists.Published.{Published}
use Rattle.irq_source.specs.declared.lists.Declined.{Declined}
use Rattle.irq_source.specs.Account.{publication, IsAccepted, IsRefused}
use Rattle.irq_source.specs.Acting.{Acting, IsAccounted, knows}
use Rattle.irq_source.specs.Known.{Added, settled_of, KnowsItsPlace}
use Rattle.irq_source.specs.Pace.{KnowsOthers, enough_for}
use Rattle.irq_source.specs.Rows.{Place, Grows, Leads}
use Rattle.push_core.specs.Table.{IsSettled, first_row, phase_of}
use Rattle.push_core.specs.declared.port.Port.{Port}
use Rattle.push_core.specs.declared.phase.Phase.{Phase}
use Rattle.push_core.specs.declared.phase.Phase.TheVariants as phases
use Rattle.live_account.specs.Queues.{ListsTurn}
use Rattle.live_account.specs.Turns.{source, turns_for, charge_at}
use Rattle.live_board.specs.kept.Sources.{AreInTurns, SettledIn, SettlesInTime, IsSourceAfter, IsStill, HasBegun, HasRun}

-- what was settled stays so where lists grow
settled_stays : (old new : Place) (places gone charge k c : ℕ) → Grows places gone charge old new → SettledIn old.accepted old.refused k c → SettledIn new.accepted new.refused k c
settled_stays old new places gone charge k c grows is =
    elim is [
      | inl x ↦ inl (x.0, x.1, grows.accepted_kept x.0 x.1 x.2, x.3, x.4)
      | inr x ↦ inr (x.0, x.1, grows.refused_kept x.0 x.1 x.2, x.3, x.4)
    ]

-- where a charge lists no turn, no row is made
no_rows : (port : Port) (readings : List ℕ) (charge steps : ℕ) (old new : Place) → steps ≤ 0 → Leads port readings charge steps old new → new ≡ old
no_rows port readings charge zero old new few leads = leads
no_rows port readings charge (suc n) old new few leads = absurd (omega arith)

-- the row that is behind its boot knows the number of settled readings
all_settled : (phase : Phase) (accepted next src number k : ℕ) (s : Knows) → phase ≢ phases.Boot → KnowsItsPlace phase accepted next src s → next ≡ number → k < number → k < settled_of src s
all_settled phases.Boot accepted next src number k s booted knows is lt = absurd (booted refl)
all_settled phases.Ready accepted next src number k s booted knows is lt = let e = knows.1 in omega (arith, e)
all_settled phases.Refused accepted next src number k s booted knows is lt = let e = knows.1 in omega (arith, e)
all_settled phases.Published accepted next src number k s booted knows is lt = let e = knows.1 in omega (arith, e)

-- a source that stands still keeps what is settled in time
settles_still : (job : JobParts) (i c : ℕ) (old new : Acting) → IsStill old new → SettlesInTime job i c old → SettlesInTime job i c new
settles_still job i c old new still was d m others k lt enough knows_others less known =
    let mine = ap length still.mine in
    let out = still.out in
    let others_then : KnowsOthers others (knows old) = omega (arith, mine, out, knows_others) in
    let then = was d m others k lt
    (subst (λ (p : Port). enough_for p.queue.places others m ≤ turns_for (source i) (charge_at job.charges d)) still.same.port enough)
    others_then less (subst (λ (l : List ℕ). k < length l) still.same.readings known) in (
      subst (λ (z : ℕ × ℕ). k < max (z.0 / 2 ^ 32) z.1) (λ j. (sym still.src j, sym still.next j)) then.0,
      subst (λ (z : List Published × List Declined). SettledIn z.0 z.1 k d) (λ j. (sym still.accepted j, sym still.refused j)) then.1,
    )

-- a charge that lists no turn of the source leaves it where it was
ran_or_not : (job : JobParts) (i c : ℕ) (old new : Acting) → c < length job.charges → HasRun (turns_for (source i) (charge_at job.charges c)) old new →
    (new.place ≡ old.place) ⊎ ListsTurn job i c
ran_or_not job i c old new known ran =
    elim (cases_lt 0 (turns_for (source i) (charge_at job.charges c))) [
      | inl turns ↦ inr (known, turns)
      | inr free ↦ inl (no_rows old.port old.readings (old.begun - 1) ran.steps old.place new.place (let few = ran.few in omega (arith, few, free)) ran.leads)
    ]

turns_on : (job : JobParts) (i c : ℕ) (old new : Acting) → c < length job.charges → old.begun ≡ c + 1 → HasRun (turns_for (source i) (charge_at job.charges c)) old new →
    AreInTurns job i old.place.accepted old.place.refused → AreInTurns job i new.place.accepted new.place.refused
turns_on job i c old new known begun ran was =
    let at : old.begun - 1 ≡ c = omega (arith, begun) in
    record {
      published = λ n p here. elim (ran.grows.accepted n p here) [
        | inl there ↦ was.published n p there
        | inr now ↦ elim (ran_or_not job i c old new known ran) [
          | inl same ↦ was.published n p (subst (λ (q : Place). get_elem? q.accepted n ≡ some p) same here)
          | inr lists ↦ subst (ListsTurn job i) (sym (now ∙ at)) lists
        ]
      ];
      declined = λ n d here. elim (ran.grows.refused n d here) [
        | inl there ↦ was.declined n d there
        | inr now ↦ elim (ran_or_not job i c old new known ran) [
          | inl same ↦ was.declined n d (subst (λ (q : Place). get_elem? q.refused n ≡ some d) same here)
          | inr lists ↦ subst (ListsTurn job i) (sym (now.0 ∙ at)) lists
        ]
      ];
    }

-- what was settled in an earlier charge's time still is
settles_before : (job : JobParts) (i c : ℕ) (old new : Acting) (budget d m others k : ℕ) → HasRun budget old new → SettlesInTime job i c old → d < c →
    enough_for new.port.queue.places others m ≤ turns_for (source i) (charge_at job.charges d) → KnowsOthers others (knows new) → k < m → k < length new.readings →
    (k < settled_of new.place.src (knows new)) × SettledIn new.place.accepted new.place.refused k d
settles_before job i c old new budget d m others k ran was lt enough knows_others less known =
    let more = ran.added.others in
    let others_then : KnowsOthers others (knows old) = omega (arith, more, knows_others) in
    let then = was d m others k lt
    (subst (λ (p : Port). enough_for p.queue.places others m ≤ turns_for (source i) (charge_at job.charges d)) ran.same.port enough)
    others_then less (subst (λ (l : List ℕ). k < length l) ran.same.readings known) in (
      (let a = then.0 in let b = ran.settles in omega (arith, a, b)),
      settled_stays old.place new.place old.port.queue.places (knows old).gone (old.begun - 1) k d ran.grows then.1,
    )

-- what is settled when a charge is over was published or refused in it or before
settled_by : (readings : List ℕ) (c k : ℕ) (new : Acting) → new.begun ≡ c + 1 → IsAccounted new → k < settled_of new.place.src (knows new) →
    SettledIn new.place.accepted new.place.refused k c
settled_by readings c k new begun account settled =
    elim (account.lists.covered k settled) [
      | inl x ↦ inl (x.0, x.1, x.2, x.3, (let e = (account.lists.published x.0 x.1 x.2).charge in omega (arith, e, begun)))
      | inr x ↦ inr (x.0, x.1, x.2, x.3, (let e = (account.lists.declined x.0 x.1 x.2).charge in omega (arith, e, begun)))
    ]

-- with enough turns in the charge at hand
settles_now : (job : JobParts) (i c : ℕ) (old new : Acting) (m others k : ℕ) → old.begun ≡ c + 1 → old.place.row ≡ first_row → HasRun (turns_for (source i) (charge_at job.charges c)) old new →
    enough_for new.port.queue.places others m ≤ turns_for (source i) (charge_at job.charges c) → KnowsOthers others (knows new) → k < m → k < length new.readings →
    (k < settled_of new.place.src (knows new)) × SettledIn new.place.accepted new.place.refused k c
settles_now job i c old new m others k begun row ran enough knows_others less known =
    let settled : k < settled_of new.place.src (knows new) =
    elim (ran.enough row m others (subst (λ (p : Port). enough_for p.queue.places others m ≤ turns_for (source i) (charge_at job.charges c)) ran.same.port enough) knows_others) [
      | inl more ↦ omega (arith, more, less)
      | inr all ↦ all_settled (phase_of new.place.row.stage) new.place.row.accepted new.place.row.next new.place.src (length old.readings) k (knows new) all.booted ran.booted all.none_left
          (subst (λ (l : List ℕ). k < length l) ran.same.readings known)
    ] in
    (settled, settled_by new.readings c k new (ran.begun ∙ begun) ran.account settled)

settles_on : (job : JobParts) (i c : ℕ) (old new : Acting) → old.begun ≡ c + 1 → old.place.row ≡ first_row → HasRun (turns_for (source i) (charge_at job.charges c)) old new →
    SettlesInTime job i c old → SettlesInTime job i (c + 1) new
settles_on job i c old new begun row ran was d m others k lt enough knows_others less known =
    elim (cases_less d c lt) [
      | inl earlier ↦ settles_before job i c old new (turns_for (source i) (charge_at job.charges c)) d m others k ran was earlier enough knows_others less known
      | inr now ↦ subst (λ e. (k < settled_of new.place.src (knows new)) × SettledIn new.place.accepted new.place.refused k e) (sym now)
          (settles_now job i c old new m others k begun row ran (subst (λ e. enough_for new.port.queue.places others m ≤ turns_for (source i) (charge_at job.charges e)) now enough) knows_others less known)
    ]

-- a charge more
pub source_on : (job : JobParts) (i c published released : ℕ) (old began new : Acting) → c < length job.charges → IsSourceAfter job i c old → HasBegun published released old began →
    HasRun (turns_for (source i) (charge_at job.charges c)) began new → IsSourceAfter job i (c + 1) new
source_on job i c published released old began new known was begins ran =
    let begun : began.begun ≡ c + 1 = begins.begun ∙ ap (λ n. n + 1) was.begun in
    let port : new.port.source.0 ≡ i = ap (λ (p : Port). p.source.0) (ran.same.port ∙ begins.still.same.port) ∙ was.port in
    record {
      begun = ran.begun ∙ begun;
      charges = ran.same.charges ∙ (begins.still.same.charges ∙ was.charges);
      port = port;
      source = ap (λ (s : SourceId). s.0) (sym ran.account.port.source) ∙ port;
      places = ap (λ (p : Port). p.queue.places) (ran.same.port ∙ begins.still.same.port) ∙ was.places;
      readings = ran.same.readings ∙ (begins.still.same.readings ∙ was.readings);
      listed = ran.account.lists.mine;
      turns = turns_on job i c began new known begun ran (subst (λ (z : List Published × List Declined). AreInTurns job i z.0 z.1) (λ j. (sym begins.still.accepted j, sym begins.still.refused j)) was.turns);
      settles = settles_on job i c began new begun begins.row ran (settles_still job i c old began begins.still was.settles);
    }
