-- The names that several proofs of this crate cite, passed on from one place. Declares nothing.
pub use Rattle.std.proofs.Common.{Bool, List, None, Option, Some, [], ap, arith, eq-eqb, eqb-true, false, inl, inr, length, ltb-false, ltb-true, max, nat_lt, ne_eqb, refl, subst, suc, sym, true, ℕ, ◌%◌, ◌+◌, ◌-◌, ◌<◌, ◌==◌, ◌^◌, ◌∙◌, ◌∷◌, ◌≡◌, ◌≢◌, ◌≤◌}
pub use Rattle.std.proofs.lemmas.Bool.{cases_Bool, cases_eq, cases_lt, eqb-false}
pub use Rattle.fram_words.specs.Places.{Load, Memory, answer, store}
pub use Rattle.ink_base.specs.declared.event.Event.{Event}
pub use Rattle.never_cut.proofs.Blocks.{finished_word}
pub use Rattle.never_cut.proofs.Privates.{ack_blocks, committed-same, private_stays}
pub use Rattle.never_cut.proofs.Slots.{IsReadable, ShowsOther, first_slot, free_slot, held_slot, old_slot, readable}
pub use Rattle.never_cut.specs.Entries.{IsCalm, Readings}
pub use Rattle.never_cut.specs.Sound.{IsQueued}
pub use Rattle.never_cut.specs.Stands.{StandsPrivate, flag}
pub use Rattle.never_cut.specs.State.{queue_of, thread_of}
pub use Rattle.never_cut.specs.declared.model.Model.{Model}
pub use Rattle.never_cut.specs.declared.thread_model.ThreadModel.{ThreadModel}
pub use Rattle.never_cut.specs.kept.Actors.{Follows, IsFinishing, IsFirstHeld, SamePrivate, StandsForKernel}
pub use Rattle.never_cut.specs.kept.Steps.{Background, IsKept}
pub use Rattle.prog_check.specs.Lookup.{source_thread, thread_def}
pub use Rattle.push_core.specs.Queue.{event_at, event_slot, published}
pub use Rattle.push_core.specs.Slots.{empty_word, slot_in}
pub use Rattle.task_isa.specs.declared.program.Program.{Program}
pub use Rattle.thread_state.specs.Pages.{committed, place_in}
pub use Rattle.reboot.specs.Boot.{IsBootRow, IsBootWord, IsOfSource, after_slot, boot_at, boot_begun, boot_next, boot_stamp, boot_wants, stamp_at}
pub use Rattle.reboot.specs.Knows.{BootHolds, BootKnows, BootStep, IsCounted, KnowsEvent, finished_events, greatest, last_stamp, shown}
pub use Rattle.reboot.specs.declared.boot_at.BootAt.{BootAt}
pub use Rattle.reboot.specs.declared.boot_at.BootAt.TheVariants.{Ack, Commit, Empty, Finished, Over, Slot, Stamp}
pub use Rattle.reboot.specs.declared.machine.BootMachine.{BootMachine}
