-- The names that several proofs of this crate cite, passed on from one place. Declares nothing.
pub use Rattle.std.proofs.Common.{All, Bool, Err, IsTrue, List, None, Ok, Option, Result, Some, [], add-one, ap, append-nil, append_assoc, arith, codes, cond, decimal, drop, eq-eqb, eqb, eqb-true, false, get_or, inl, inr, length, length-append, length-take, lt-ltb, ltb, map, ne_eqb, refl, subst, suc, sym, take, take-append-drop, take_all, true, zero, ℕ, ◌++◌, ◌+◌, ◌-◌, ◌<◌, ◌≢◌, ◌^◌, ◌∙◌, ◌∷◌, ◌≡◌, ◌≤◌, ◌⊎◌}
pub use Rattle.std.proofs.Common.{le-leb, leb, leb-true, ltb-true, not, rules, ◌*◌}
pub use Rattle.std.proofs.lemmas.Bool.{and_parts, cases_Bool, cases_lt, eqb-false, ltb-false, not-true}
pub use Rattle.std.specs.Str.{bytes_eq}
pub use Rattle.prog_check.specs.Accepted.{IsAccepted}
pub use Rattle.prog_check.specs.Lookup.{no_thread_def, thread_def}
pub use Rattle.std.proofs.lemmas.List.{append_cancel_right, drop_all, drop_more, length-map, map-append, take_more}
pub use Rattle.std.proofs.lemmas.List.Elements.{All-append, All-cons, All-get_or, All-head, All-nil, All-push, All-tail}
pub use Rattle.ink_base.specs.Lines.{lines, onto_first}
pub use Rattle.ink_base.specs.declared.entry.Entry.{Entry}
pub use Rattle.ink_base.specs.declared.entry.Entry.TheVariants.{Commit, Look, Push, Refuse, Release, Scan, Skip, Tick}
pub use Rattle.ink_report.specs.Journal.{entry_line}
pub use Rattle.task_isa.specs.declared.program.Program.{Program}
pub use Rattle.ink_audit.specs.Claim.{AreLinesOf, HasJournal, IsEntryOf, IsLineOf, IsNoLine, IsOther, ended, header}
pub use Rattle.ink_audit.specs.Differences.{DifferBehind, full_lines}
pub use Rattle.ink_audit.specs.kept.Feeds.{feeds, is_feed}
pub use Rattle.ink_audit.specs.kept.Told.{source_word, thread_word}
