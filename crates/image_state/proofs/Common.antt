-- The names that several proofs of this crate cite, passed on from one place. Declares nothing.
pub use Rattle.std.proofs.Common.{All, Bool, List, None, Option, Some, [], ap, append-nil, append_assoc, arith, cond, eqb-true, false, filter, get_or, if◌then◌else◌, inl, inr, le-ltb, length, lt-ltb, ltb-true, map, nat_le, nat_lt, refl, replicate, rules, slice_index, subst, suc, sym, take, true, zero, ℕ, ◌%◌, ◌&&◌, ◌*◌, ◌++◌, ◌+◌, ◌-◌, ◌/◌, ◌<◌, ◌==◌, ◌^◌, ◌∙◌, ◌∷◌, ◌≡◌, ◌≢◌, ◌≤◌, ◌⊎◌, ◌||◌}
pub use Rattle.std.proofs.lemmas.Bool.{and_parts, cases_Bool, cases_eq, cases_lt, eq-eqb, le-leb, leb-true, ne_eqb, or_cases, or_from, or_left, or_right}
pub use Rattle.std.proofs.lemmas.List.{get_or-map, get_or_past, length-replicate}
pub use Rattle.std.proofs.lemmas.List.Elements.{All-append, All-nil, filter-append}
pub use Rattle.std.proofs.lemmas.List.FromFn.{get_or-map-range_with_len, length-map-range_with_len, map-range_with_len_more}
pub use Rattle.std.proofs.lemmas.List.Sorted.{All-permutation}
pub use Rattle.std.specs.List.{range_with_len}
pub use Rattle.std.specs.List.Sorted.{IsNonDecreasingBy, IsPermutation}
pub use Rattle.std.specs.Option.{ForNone, ForSome}
pub use Rattle.fram_words.proofs.ReadBack.{origin_of-origin_word}
pub use Rattle.fram_words.specs.Held.{due_of, due_word, next_word, origin_of, origin_word, output_word, running_of}
pub use Rattle.fram_words.specs.Places.{Clock, Commit, Log, Memory, Page, Ring}
pub use Rattle.ink_base.specs.declared.event.Event.{Event}
pub use Rattle.ink_base.specs.declared.event.Origin.{Origin}
pub use Rattle.ink_base.specs.declared.ids.TaskId.{TaskId}
pub use Rattle.ink_base.specs.declared.output.Output.{Output}
pub use Rattle.ink_layout.specs.Shape.{pages_of, shape_of, thread_shape, words_of}
pub use Rattle.never_cut.proofs.ReadStates.{own_bits}
pub use Rattle.never_cut.specs.Commit.{outputs_of}
pub use Rattle.never_cut.specs.Image.{HasChain, IsBlockWord, IsChainValue, IsImage, taken_of, written_of}
pub use Rattle.never_cut.specs.Images.{AreListed, EveryImageStands}
pub use Rattle.never_cut.specs.Outputs.{outputs_in}
pub use Rattle.never_cut.specs.Ranges.{IsOwnOrigin}
pub use Rattle.never_cut.specs.ReadOff.{HasEventOf, IsOutputOf, IsReadOff, told_finished, told_queue, told_released, told_source}
pub use Rattle.never_cut.specs.Sound.{HasShape}
pub use Rattle.never_cut.specs.Stands.{AreLogged, Saved, Stands, StandsPipe, StandsPrivate, StandsThread, flag, log_of, owns_timer, period_word, reads_pipe, saved, taken_word, timer_word, writes_pipe, written_word}
pub use Rattle.never_cut.specs.State.{no_pipe, no_source, no_thread, no_timer, pipe_of, queue_of, source_in, source_of, thread_of, timer_of}
pub use Rattle.never_cut.specs.Worn.{IsWorn, LateClock, ManyCommits, ManyPositions, ManyReadings, ManyServices, ManyTaken, ManyWritten, listed_into}
pub use Rattle.never_cut.specs.declared.model.Model.{Model}
pub use Rattle.never_cut.specs.declared.pipe_model.PipeModel.{PipeModel}
pub use Rattle.never_cut.specs.declared.source_model.SourceModel.{SourceModel}
pub use Rattle.never_cut.specs.declared.thread_model.ThreadModel.{ThreadModel}
pub use Rattle.never_cut.specs.declared.timer_model.TimerModel.{TimerModel}
pub use Rattle.prog_check.specs.Accepted.{IsAccepted}
pub use Rattle.prog_check.specs.Lookup.{no_thread_def, pipe_def, thread_def, timer_def}
pub use Rattle.push_core.specs.Queue.{published}
pub use Rattle.push_core.specs.Table.{greatest_tail}
pub use Rattle.task_isa.specs.declared.program.Program.{Program}
pub use Rattle.task_isa.specs.declared.program.ThreadDef.{ThreadDef}
pub use Rattle.thread_state.specs.Pages.{committed, place_in}
pub use Rattle.image_state.specs.Words.{by_place}
pub use Rattle.image_state.specs.kept.Told.{AreInOrder, HasFewSettled, IsImageOf, IsNewest, IsTold, each_below, outputs_until, state_number, told_event, told_item, told_output, told_outputs, told_pipe, told_source_model, told_thread, told_timer}
pub use Rattle.image_state.specs.kept.Wear.{any_below, is_high, wears, wears_pipe, wears_queue, wears_source, wears_thread}
