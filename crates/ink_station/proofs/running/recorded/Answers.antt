use Rattle.std.proofs.Common.{◌≡◌, ◌+◌, [], ◌∷◌, ◌++◌, length, length-append, sym, ap, ◌∙◌, append_assoc, arith}
use Rattle.ink_station.specs.kept.Cores.{IsRecordOf}
use Rattle.ink_station.proofs.Pairs.{grown}
use Rattle.ink_station.proofs.running.recorded.Goals as goal

pub push_reserved-requires : goal.push_reserved-requires
push_reserved-requires c =
    let all : length c.args.cores.items ≡ length c.loop-core.yielded + length c.loop-core.core-iterator.rest.items =
    ap length c.loop-core.invariant.3 ∙ length-append c.loop-core.yielded c.loop-core.core-iterator.rest.items in
    let one : length c.loop-core.core-iterator.rest.items ≡ length (c.in-Some.core ∷ c.next.new.self.rest.items) = ap length c.in-Some.ensures.steps.0 in
    omega (arith, c.loop-core.invariant.1, c.loop-core.invariant.2, c.requires.room, all, one)

pub loop-core-preserved : goal.loop-core-preserved
loop-core-preserved c =
    let e = c.into_record.ensures in (
      grown IsRecordOf c.loop-core.yielded c.loop-core.records.items c.push_reserved.new.self.items c.in-Some.core c.into_record.result c.push_reserved.ensures.items c.loop-core.invariant.0
          (record { job_is = e.job; charges = e.charges; words = e.words }),
      (let l = length-append c.loop-core.yielded (c.in-Some.core ∷ []) in omega (arith, l, c.push_reserved.ensures.len, c.loop-core.invariant.1)),
      c.push_reserved.ensures.capacity ∙ c.loop-core.invariant.2,
      c.loop-core.invariant.3 ∙ (ap (λ l. c.loop-core.yielded ++ l) c.in-Some.ensures.steps.0 ∙ sym (append_assoc c.loop-core.yielded (c.in-Some.core ∷ []) c.next.new.self.rest.items)),
    )
