-- What a boot knows outlasts the accesses of the other actors.
use Rattle.reboot.proofs.Common.{◌≡◌, ℕ, ◌+◌, sym, ap, ◌∙◌, Program, Memory, Model, ThreadModel, flag, SamePrivate, Follows, committed-same, BootAt, BootMachine, finished_events, greatest, shown, IsCounted, KnowsEvent, BootKnows, BootHolds}
use Rattle.fram_words.specs.Places.{Commit, Ack}
use Rattle.never_cut.proofs.Follows.{follow_finished, follow_released, follow_finishing}
use Rattle.reboot.specs.declared.boot_at.BootAt.TheVariants as rows

counted_drifts : (words new : Memory) (t stamp : ℕ) → SamePrivate words new → IsCounted words t stamp → IsCounted new t stamp
counted_drifts words new t stamp same h = rw (committed-same words new t 0 same) h

event_drifts : (m next : Model) (t p i count : ℕ) → Follows m next → KnowsEvent m t p i count → KnowsEvent next t p i count
event_drifts m next t p i count f h = record {
  position = h.position ∙ sym (follow_released m next t f);
  finishing = follow_finishing m next t i count f h.finishing;
}

events_drift : (m next : Model) (t : ℕ) → Follows m next → finished_events next t ≡ finished_events m t
events_drift m next t f = ap (λ (x : ThreadModel). x.released + flag x.finished) (f.threads t)

row_drifts : (program : Program) (words new : Memory) (m next : Model) (t stamp : ℕ) (at : BootAt) → SamePrivate words new → Follows m next →
    BootKnows program words m t stamp at → BootKnows program new next t stamp at
row_drifts program words new m next t stamp rows.Commit same f h = tt
row_drifts program words new m next t stamp (rows.Stamp c) same f h = h ∙ sym (same (Commit t) tt)
row_drifts program words new m next t stamp (rows.Finished c) same f h = (h.0 ∙ sym (same (Commit t) tt), counted_drifts words new t stamp same h.1)
row_drifts program words new m next t stamp (rows.Slot p) same f h = (h.0 ∙ sym (events_drift m next t f), counted_drifts words new t stamp same h.1)
row_drifts program words new m next t stamp (rows.Ack p source count) same f h = (event_drifts m next t p source.0 count f h.0, counted_drifts words new t stamp same h.1)
row_drifts program words new m next t stamp (rows.Empty p) same f h = (
  record {
    source = h.0.source;
    count = h.0.count;
    event = event_drifts m next t p h.0.source h.0.count f h.0.event;
    stored = same (Ack h.0.source) tt ∙ h.0.stored;
  },
  counted_drifts words new t stamp same h.1,
)
row_drifts program words new m next t stamp rows.Over same f h =
    (record { last = h.0.last; clear = follow_finished m next t f ∙ h.0.clear }, counted_drifts words new t stamp same h.1)

pub boot_drifts : (program : Program) (words new : Memory) (m next : Model) (boot : BootMachine) → SamePrivate words new → Follows m next →
    BootHolds program words m boot → BootHolds program new next boot
boot_drifts program words new m next boot same f h = record {
  known = h.known;
  passed = λ u l. follow_finished m next u f ∙ h.passed u l;
  counted = λ u l. counted_drifts words new u boot.stamp same (h.counted u l);
  below = rw f.commits h.below;
  greatest_is = h.greatest_is ∙ (λ i. greatest (λ u. sym (committed-same words new u 0 same) i) (shown boot.thread.0 boot.at));
  knows = row_drifts program words new m next boot.thread.0 boot.stamp boot.at same f h.knows;
}
