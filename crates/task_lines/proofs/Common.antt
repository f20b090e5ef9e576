-- The names that several proofs of this crate cite, passed on from one place. Declares nothing.
pub use Rattle.std.proofs.Common.{Bool, List, None, Ok, Option, Some, [], ap, arith, cond, false, inl, inr, length, length-append, lt-ltb, ltb, ltb-true, map, refl, suc, sym, true, ℕ, ◌++◌, ◌<◌, ◌∙◌, ◌∷◌, ◌≡◌, ◌≤◌}
pub use Rattle.std.proofs.lemmas.Bool.{cases_Bool}
pub use Rattle.std.proofs.lemmas.List.{length-map, map-append}
pub use Rattle.std.specs.BTreeMap.{insert_entry}
pub use Rattle.std.specs.Cmp.Lexicographic.{slice_cmp}
pub use Rattle.std.specs.Option.{is_some, option_map, option_or}
pub use Rattle.std.specs.Ordering.{is_eq, match_ordering, nat_cmp}
pub use Rattle.ink_base.specs.Lines.{Word}
pub use Rattle.task_lines.specs.Labels.{offset_of, with_label}
pub use Rattle.task_lines.specs.declared.labels.Label.{Label}
pub use Rattle.task_lines.specs.kept.Placed.{AreKept, ArePlaced, by_place, listed, put, seen}
