-- What the map finds is what the list finds.
use Rattle.task_lines.proofs.Common.{◌≡◌, ℕ, List, Option, sym, ap, ◌∙◌, option_map, Word, offset_of, Label}
use Rattle.task_lines.proofs.LabelMap.{lookup_seen}
use Rattle.task_lines.proofs.labels.Labels.get.Goals as goal

pub returns-in-Some : goal.returns-in-Some
returns-in-Some c =
    ap (option_map (λ (l : Label). l.offset)) (c.in-Some.ensures.value ∙ lookup_seen (λ k. k.items) c.args.name.now c.self.inside.labels.entries)
    ∙ sym (c.self.invariant.agree c.args.name.now) ∙ ap (λ (l : List (Word × ℕ)). offset_of l c.args.name.now) c.self.view_is

pub returns-in-None : goal.returns-in-None
returns-in-None c =
    ap (option_map (λ (l : Label). l.offset)) (c.in-None.ensures.value ∙ lookup_seen (λ k. k.items) c.args.name.now c.self.inside.labels.entries)
    ∙ sym (c.self.invariant.agree c.args.name.now) ∙ ap (λ (l : List (Word × ℕ)). offset_of l c.args.name.now) c.self.view_is
