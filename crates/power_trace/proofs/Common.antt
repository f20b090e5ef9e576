-- The names that several proofs of this crate cite, passed on from one place. Declares nothing.
pub use Rattle.std.proofs.Common.{Bool, Err, List, None, Ok, Option, Result, Some, [], add-one, ap, arith, codes, cond, drop, false, get_or, if◌then◌else◌, inl, inr, leb-true, length, length-append, length-set, ltb-true, nat_le, nat_lt, not, refl, replicate, set, subst, suc, sym, take, true, zero, zero-add, ℕ, ◌&&◌, ◌*◌, ◌++◌, ◌+◌, ◌/◌, ◌<◌, ◌==◌, ◌^◌, ◌∙◌, ◌∷◌, ◌≡◌, ◌≤◌}
pub use Rattle.std.proofs.lemmas.Bool.{and_parts, cases_Bool}
pub use Rattle.std.proofs.lemmas.List.Elements.{All-from_recursion, All-nil, All-push, All-replicate, All-set}
pub use Rattle.std.proofs.lemmas.List.Sums.{sum_by-append, sum_by_push}
pub use Rattle.std.specs.List.{All}
pub use Rattle.ink_base.proofs.Sizes.{count_le, tokens_le}
pub use Rattle.ink_base.specs.Checks.{fixed_in, number_of, word_in, words_of}
pub use Rattle.ink_base.specs.Gives.{at_line, ◌>>=◌, ◌>>◌}
pub use Rattle.ink_base.specs.Lines.{Line, Word}
pub use Rattle.ink_base.specs.declared.fault.Cause.{Cause}
pub use Rattle.ink_base.specs.declared.fault.Cause.TheVariants.{OverLimit}
pub use Rattle.ink_base.specs.declared.fault.JobFault.{JobFault}
pub use Rattle.ink_text.proofs.Words.{word_fails, word_more, words_end}
pub use Rattle.ink_text.specs.Names.{actor_of, below, index_of, source_of}
pub use Rattle.ink_text.specs.Section.{header_end, is_header, missing, next_header, section_in}
pub use Rattle.ink_text.specs.Words.{found, up_to, words_in}
pub use Rattle.job_parts.specs.Job.{AreCharges, AreReadings, IsJob, IsOnBoard, IsRightCharge, JobParts, charge_turns, item_turns}
pub use Rattle.job_parts.specs.declared.charge.Charge.{Charge}
pub use Rattle.job_parts.specs.declared.item.Item.{Item}
pub use Rattle.power_trace.specs.Power.{count_at, item_in, known_actor, no_charges, room_in, star_of}
pub use Rattle.power_trace.specs.Sensors.{value_in}
pub use Rattle.power_trace.specs.Soak.{draw, drawn_charge, drawn_charges, drawn_items, draws, last_charge, next_state, soak_charges, soak_program, soak_readings, state_after}
