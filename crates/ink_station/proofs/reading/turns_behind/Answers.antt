use Rattle.std.proofs.Common.{◌≡◌, ap, ◌∙◌, get_or}
use Rattle.job_parts.specs.Job.{item_turns}
use Rattle.ink_station.proofs.Turns.{turns_go_on}
use Rattle.ink_station.proofs.reading.turns_behind.Goals as goal

pub loop-n-preserved : goal.loop-n-preserved
loop-n-preserved c =
    let here : c.turns_listed-turns.result ≡ item_turns (get_or c.args.charges.now c.loop-n.n c.index-charges-n.result).items =
    c.turns_listed-turns.ensures ∙ ap (λ items. item_turns items) c.as_slice.ensures in (
      c.if-turns-gt-TURNS.false,
      c.loop-n.invariant.1
          ∙ turns_go_on c.args.charges.now c.args.lines.now c.loop-n.n c.loop-n.turns c.turns_listed-turns.result c.index-charges-n.result c.loop-n-test.true c.requires.lines here c.if-turns-gt-TURNS.false,
    )
