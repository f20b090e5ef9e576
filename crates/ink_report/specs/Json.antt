-- The summary as one line of compact JSON, its keys in ascending order.
use Rattle.std.specs.Prelude.{ℕ, List, ◌++◌, Option, Some, None, map, codes}
use Rattle.serde_json.specs.Data.{Data, number, unsigned, string, array, object, Members, no_members, member}
use Rattle.serde_json.specs.View.{items_of}
use Rattle.serde_json.specs.Written.{compact_text}
use Rattle.ink_report.specs.declared.charge_bounds.ChargeBounds.{ChargeBounds}
use Rattle.ink_report.specs.declared.summary.Summary.{Summary}
use Rattle.ink_report.specs.declared.summary.ThreadSummary.{ThreadSummary}
use Rattle.ink_report.specs.declared.summary.SourceSummary.{SourceSummary}

-- "KEY":N, before the members that follow
abbrev pub count : List ℕ → ℕ → Members → Members
count key n rest = member key (number (unsigned n)) rest

-- {"next":K,"pushed":P,"refused":R}
abbrev pub source_data : SourceSummary → Data
source_data x = object (count (codes "next") x.next (count (codes "pushed") x.pushed (count (codes "refused") x.refused no_members)))

-- {"expired":C,"held":D,"name":"NAME","served":A,"trapped":B}
abbrev pub thread_data : ThreadSummary → Data
thread_data x =
    object (count (codes "expired") x.expired (count (codes "held") x.held
    (member (codes "name") (string x.name)
    (count (codes "served") x.served (count (codes "trapped") x.trapped no_members)))))

-- "boot":B, where the bounds are shown
abbrev pub boot_member : Option ChargeBounds → Members → Members
boot_member None rest = rest
boot_member (Some b) rest = count (codes "boot") b.boot rest

-- "round":R, where the bounds are shown
abbrev pub round_member : Option ChargeBounds → Members → Members
round_member None rest = rest
round_member (Some b) rest = count (codes "round") b.round rest

-- {"boot":B,"charges":N,"clock":C,"commits":M,"round":R,"sources":[the sources],"threads":[the threads]}
abbrev pub summary_data : Option ChargeBounds → Summary → Data
summary_data bounds s =
    object (boot_member bounds
    (count (codes "charges") s.charges (count (codes "clock") s.clock (count (codes "commits") s.commits
    (round_member bounds
    (member (codes "sources") (array (items_of (map source_data s.sources)))
    (member (codes "threads") (array (items_of (map thread_data s.threads))) no_members)))))))

-- its compact text and a newline
unfoldable pub json_line : Option ChargeBounds → Summary → List ℕ
json_line bounds s = compact_text (summary_data bounds s) ++ codes "\n"
