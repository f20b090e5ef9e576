use Rattle.ink_report.proofs.Common.{◌≡◌, map, List, Option, Some, None, codes, refl, ap, ◌∙◌, Data, view, items_of, Summary, source_data, thread_data}
use Rattle.std.proofs.Common.{Vec, Global}
use Rattle.serde_json.specs.Data.{Items, array, object, Members, no_members, member, put}
use Rattle.serde_json.specs.View.{members_view}
use Rattle.serde_json.specs.declared.value.Value.{Value, Array}
use Rattle.serde_json.proofs.Views.{view-Array, view-Object}
use Rattle.ink_report.specs.declared.charge_bounds.ChargeBounds.{ChargeBounds}
use Rattle.ink_report.specs.Json.{count, boot_member, round_member}
use Rattle.ink_report.specs.kept.Members.{with_number, with_bounds}
use Rattle.ink_report.proofs.json.summary_value.Goals as goal

-- the members of an object, in the order of their keys
abbrev ordered : Option ChargeBounds → Summary → (sources threads : Items) → Members
ordered bounds s sources threads =
    boot_member bounds (count (codes "charges") s.charges (count (codes "clock") s.clock (count (codes "commits") s.commits
    (round_member bounds (member (codes "sources") (array sources) (member (codes "threads") (array threads) no_members))))))

-- they come into this order, whatever the order in which they are put
in_order : (bounds : Option ChargeBounds) (s : Summary) (sources threads : Items) →
    with_bounds bounds (put (codes "threads") (array threads) (put (codes "sources") (array sources)
    (with_number (codes "commits") s.commits (with_number (codes "clock") s.clock (with_number (codes "charges") s.charges no_members)))))
    ≡ ordered bounds s sources threads
in_order None s sources threads = refl
in_order (Some b) s sources threads = refl

-- a list of values, as data
list_view : {X : Type 0} (values : Vec Value Global) (part : X → Data) (xs ys : List X) → map view values.items ≡ map part xs → xs ≡ ys → view (Array values) ≡ array (items_of (map part ys))
list_view values part xs ys are same = view-Array values ∙ ap (λ (l : List Data). array (items_of l)) (are ∙ ap (map part) same)

pub returns : goal.returns
returns c =
    let s = c.args.summary.now in
    let sources = list_view c.in_ok-sources.sources source_data c.as_slice.result.now s.sources c.in_ok-sources.ensures c.as_slice.ensures in
    let threads = list_view c.in_ok-threads.threads thread_data c.as_slice-2.result.now s.threads c.in_ok-threads.ensures c.as_slice-2.ensures in
    let first : members_view c.new-members.result.entries ≡ no_members = ap members_view c.new-members.ensures.empty in
    let charges = c.in_ok-put_number.ensures ∙ (λ i. with_number (codes "charges") (c.from.ensures i) (first i)) in
    let clock = c.in_ok-put_number-2.ensures ∙ ap (with_number (codes "clock") s.clock) charges in
    let commits = c.in_ok-put_number-3.ensures ∙ ap (with_number (codes "commits") s.commits) clock in
    let with_sources = c.in_ok-put.ensures.ok ∙ (λ i. put (codes "sources") (sources i) (commits i)) in
    let with_threads = c.in_ok-put-2.ensures.ok ∙ (λ i. put (codes "threads") (threads i) (with_sources i)) in
    let all = c.in_ok-put_bounds.ensures ∙ ap (with_bounds c.args.bounds) with_threads in
    view-Object c.put_bounds.new.members ∙ ap object (all ∙ in_order c.args.bounds s (items_of (map source_data s.sources)) (items_of (map thread_data s.threads)))
