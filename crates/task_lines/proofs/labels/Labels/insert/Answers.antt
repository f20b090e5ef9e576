-- The map with one more label: each name but the new one keeps its place.
use Rattle.task_lines.proofs.Common.{◌≡◌, ℕ, List, length, None, sym, ap, ◌∙◌, nat_cmp, slice_cmp, insert_entry, length-map, Word, offset_of, with_label, Label, seen, listed}
use Rattle.task_lines.proofs.LabelMap.{insert_seen, listed_insert, kept_insert}
use Rattle.task_lines.proofs.labels.Labels.insert.Goals as goal

module _ (c : goal.In_ok-insert) where
  abbrev before : List (Word × Label)
  before = seen (λ k. k.items) c.self.inside.labels.entries

  abbrev label : Label
  label = record { place = c.len-place.result; offset = c.args.offset }

  entries : seen (λ k. k.items) c.insert.new.self.entries ≡ insert_entry (slice_cmp nat_cmp) before c.args.name.now label
  entries =
      ap (seen (λ k. k.items)) c.in_ok-insert.ensures.entries ∙ insert_seen (λ k. k.items) c.self.inside.labels.entries _ label
      ∙ ap (λ (name : Word). insert_entry (slice_cmp nat_cmp) before name label) c.in_ok-key.ensures.items

  last : label.place ≡ length before
  last = c.len-place.ensures.len ∙ sym (length-map c.self.inside.labels.entries (λ e. (e.0.items, e.1)))

  free : offset_of (listed before) c.args.name.now ≡ None
  free = ap (λ (l : List (Word × ℕ)). offset_of l c.args.name.now) c.self.view_is ∙ c.requires

pub invariant_of-self-2 : goal.invariant_of-self-2
invariant_of-self-2 c = rw (entries c) (kept_insert (before c) c.args.name.now (label c) c.self.invariant (free c) (last c))

pub returns : goal.returns
returns c =
    ap listed (entries c) ∙ listed_insert (before c) c.args.name.now (label c) c.self.invariant (free c) (last c)
    ∙ ap (λ (l : List (Word × ℕ)). with_label l c.args.name.now c.args.offset) c.self.view_is
