use Rattle.std.proofs.Common.{rules}
use Rattle.std.proofs.lemmas.List.Sorted.{IsNonDecreasingBy-from_sort_by_key, answers_always}
use Rattle.ink_base.specs.declared.output.Output.{Output}
use Rattle.image_state.proofs.Merged.{sorted_stably}
use Rattle.image_state.proofs.outputs.in_order.Goals as goal

pub returns : goal.returns
returns c =
    sorted_stably c.args.outputs.items c.sort_by_key.new.self.items c.in_ok-sort_by_key.ensures.permutation
    (IsNonDecreasingBy-from_sort_by_key (λ (o : Output). o.stamp) _ c.in_ok-sort_by_key.ensures.sorted (λ a r q k. search rules))
    (c.in_ok-sort_by_key.ensures.stable (λ (o : Output). o.stamp) (answers_always _ _ _ (λ f a r g h. search rules)))
