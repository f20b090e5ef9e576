-- The names that several proofs of this crate cite, passed on from one place. Declares nothing.
pub use Rattle.std.proofs.Common.{Bool, Err, List, None, Ok, Option, Result, Some, [], add-one, ap, append-nil, append_assoc, arith, cond, drop, drop-drop, eq-eqb, eqb, eqb-true, false, get_or, get_or-drop, inl, inr, le-leb, length, length-append, length-drop, length-take, map, ne_eqb, refl, slice_range, subst, suc, sym, take, take-append-drop, take_all, true, ℕ, ◌*◌, ◌++◌, ◌+◌, ◌-◌, ◌<◌, ◌^◌, ◌∙◌, ◌∷◌, ◌≡◌, ◌≤◌}
pub use Rattle.std.proofs.lemmas.Bool.{cases_Bool, cases_lt, cond_both, eqb-false, or_parts}
pub use Rattle.std.proofs.lemmas.List.{at_drop_all, drop_all, drop_more, get_or_append_left, get_or_push, length-map, map-append, take_more}
pub use Rattle.std.specs.List.{AllByRecursion, flat_map, prefix_len}
pub use Rattle.ink_base.specs.Gives.{Answers, Fails, answer_at, at_line, ◌>>◌}
pub use Rattle.ink_base.specs.Lines.{Line, Word, before_comment, begins_blank, is_blank, lines, lines_of, numbered, onto_first, words}
pub use Rattle.ink_base.specs.TokenLines.{grouped, has_words, join, token_lines, with_words}
pub use Rattle.ink_base.specs.Tokens.{AreTokens, Entry, StandsBehind, all_entries, entries, entry_of, line_number}
pub use Rattle.ink_base.specs.Walk.{closed, ends_word, place_after}
pub use Rattle.ink_base.specs.declared.fault.JobAnswer.{JobAnswer}
pub use Rattle.ink_base.specs.declared.fault.JobFault.{JobFault}
pub use Rattle.ink_base.specs.declared.token.Token.{Token}
