-- What the closed set of queues keeps, told of the lists.
use Rattle.std.proofs.Common.{◌≡◌, ◌∙◌, ap, refl, ℕ, [], arith, take, subst, ◌%◌}
use Rattle.event_queue.specs.Views.{queue_of, places_of}
use Rattle.event_queue.specs.Calls.{released_of, acked_of, knows_of}
use Rattle.event_queue.specs.Events.{Entry}
use Rattle.event_queue.specs.Rule.{SourceKept}
use mathlib.Core.Option.{some}
use lib.ListN.{get_elem?}
use Rattle.event_queue.specs.Places.{Ack, Tail, word_at}
use Rattle.live_account.specs.Events.{events_of, number_of}
use Rattle.queue_lists.specs.Accounts.{EveryListTells, EveryNumberTells, EverySourceTells}
use Rattle.queue_lists.proofs.Numbers.{own_number, Counts, counts_of, events_are, number_all}
use Rattle.queue_lists.proofs.Sources.{tells_numbers}
use Rattle.queue_lists.proofs.Tellings.{tells_readings}
use Rattle.queue_lists.specs.Tellings.{EveryAccountTells}

pub every_list_tells : EveryListTells
every_list_tells lay words kernel clock seats f t accepts is =
    let counts : Counts (f.entries t) = λ n e at. counts_in e.source ((f.kept.events t).events n e at).queue n e at refl in
    ap events_of is ∙ events_are (f.entries t) counts [] (f.entries t) refl
  where
    counts_in : (i : ℕ) → queue_of lay i ≡ t → (n : ℕ) (e : Entry) → get_elem? (f.entries t) n ≡ some e → e.source ≡ i → e.count ≡ own_number i (take n (f.entries t)) % 64
    counts_in i q n e at own =
        let kept = subst (λ (u : ℕ). SourceKept i (word_at lay words (Tail u)) (f.entries u) (released_of u f.calls.kernel) (knows_of (places_of lay u) (f.calls.source i))) q (f.kept.sources i) in
        counts_of kept n e at own

pub every_number_tells : EveryNumberTells
every_number_tells lay words kernel clock seats f i accepts is = ap (number_of i) is ∙ number_all (f.kept.sources i)

pub every_source_tells : EverySourceTells
every_source_tells lay words kernel clock seats f i readings src known kept =
    let t = queue_of lay i in
    let queue = f.kept.queues t in
    tells_numbers (f.kept.sources i) queue.behind (places_of lay t) readings src (word_at lay words (Ack i)) (acked_of t f.calls.kernel) (let few = f.limits.sources in omega arith) (f.limits.no_more t) queue.room kept (f.kept.acks i) (f.kept.kernel.acked t)

pub every_account_tells : EveryAccountTells
every_account_tells lay words kernel clock seats f i places begun src readings accepted refused a = tells_readings (places_of lay (queue_of lay i)) (f.kept.sources i) a
