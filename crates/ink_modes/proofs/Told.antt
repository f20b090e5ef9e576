-- What a call tells of its words, from what its command tells.
use Rattle.ink_modes.proofs.Common.{◌≡◌, ◌⊎◌, inl, inr, IfSome, ℕ, ◌+◌, ◌≤◌, Option, Some, None, Err, List, ◌++◌, length, length-append, refl, sym, ap, ◌∙◌, subst, arith, append-nil, Word, Command, form_of, IsCommand}
use Rattle.std.specs.Io.KnownBytes.{Consumes, IsAtEnd}
use Rattle.ink_base.specs.declared.status.Status.{Status}
use Rattle.ink_base.specs.declared.status.Status.TheVariants.{Done, Usage, Refused, ReadFault, WriteFault, NoMemory, TooLong}
use Rattle.ink_io.specs.Counts.{Rose}
use Rattle.ink_io.specs.States.{SourceState, SinkState}
use Rattle.ink_modes.specs.declared.finish.Record.{Record}
use Rattle.ink_modes.specs.declared.modes.Mode.{Mode}
use Rattle.ink_modes.specs.Answers.{Stops, Wrote, TellsCommand, DoesNothing, Tells, Needs, IsComplete}
use Rattle.ink_modes.proofs.Gives.{gives_once}
use Rattle.ink_base.specs.declared.limits.TheConstants as limits

-- the command of words is the one that was found
same_command : (words : List Word) (result : Option Command) (command other : Command) → result ≡ Some command →
    ((any : Command) → IsCommand words any → result ≡ Some any) → IsCommand words other → command ≡ other
same_command words result command other found exact is = let same : Some command ≡ Some other = sym found ∙ exact other is in cc

-- where a command was found, it is told
pub told_some : (words : List Word) (result : Option Command) (command : Command) (before now : SourceState) (sink sink_now : SinkState) (status : Status) (kept : Option Record) →
    result ≡ Some command → ((any : Command) → IsCommand words any → result ≡ Some any) → IfSome result (IsCommand words) →
    TellsCommand command before now sink sink_now status kept → Tells words before now sink sink_now status kept
told_some words result command before now sink sink_now status kept found exact is tells = record {
  command = λ other other_is. subst (λ (c : Command). TellsCommand c before now sink sink_now status kept) (same_command words result command other found exact other_is) tells;
  usage = λ none. absurd (none command (subst (λ (r : Option Command). IfSome r (IsCommand words)) found is));
}

-- where none was found, the words are none
pub told_none : (words : List Word) (result : Option Command) (before now : SourceState) (sink sink_now : SinkState) (status : Status) (kept : Option Record) →
    result ≡ None → ((any : Command) → IsCommand words any → result ≡ Some any) →
    DoesNothing before now sink sink_now status kept → Tells words before now sink sink_now status kept
told_none words result before now sink sink_now status kept none exact nothing = record {
  command = λ command is. absurd (let clash : None ≡ Some command = sym none ∙ exact command is in cc);
  usage = λ _. nothing;
}

-- no source gives more bytes than it has
no_more : (left now : Option (List ℕ)) (bytes text : List ℕ) → Consumes left now bytes → left ≡ Some text → length text ≤ limits.TEXT_BYTES → length bytes ≡ limits.TEXT_BYTES + 1 → ⊥
no_more None now bytes text took is short long = let clash : None ≡ Some text = is in absurd cc
no_more (Some xs) None bytes text took is short long = took
no_more (Some xs) (Some ys) bytes text took is short long =
    let same : Some xs ≡ Some text = is in
    let inner : xs ≡ text = cc in
    let sum : length text ≡ length bytes + length ys = ap length (sym inner ∙ took) ∙ length-append bytes ys in
    omega arith

-- and to its end it gives just those
to_end : (left now : Option (List ℕ)) (bytes text : List ℕ) → Consumes left now bytes → IsAtEnd now → left ≡ Some text → bytes ≡ text
to_end None now bytes text took end is = let clash : None ≡ Some text = is in absurd cc
to_end (Some xs) None bytes text took end is = absurd took
to_end (Some xs) (Some ys) bytes text took end is =
    let same : Some xs ≡ Some text = is in
    let inner : xs ≡ text = cc in
    sym (append-nil bytes) ∙ (ap (λ (l : List ℕ). bytes ++ l) (sym end) ∙ (sym took ∙ inner))

-- a command that has what it needs stops only where memory is wanted
wants_memory : (m : Mode) (seed : Option ℕ) (before now : SourceState) (status : Status) → Stops m seed before now status → Needs m seed before → ¬ Rose before.faults now.faults →
    status ≡ NoMemory
wants_memory m (Some number) before now status stops needs clean = stops.0
wants_memory m None before now NoMemory stops needs clean = refl
wants_memory m None before now ReadFault stops needs clean = absurd (clean stops.0)
wants_memory m None before now TooLong stops needs clean = absurd (no_more before.left now.left stops.1.0 needs.0 stops.1.1.taken needs.1 needs.2 stops.1.2)
wants_memory m None before now (Refused fault) stops needs clean = absurd (gives_once m needs.0 needs.3.0 fault needs.3.1
    (subst (λ (text : List ℕ). (form_of m).gives text (Err fault)) (to_end before.left now.left stops.0 needs.0 stops.1.bytes stops.1.end needs.1) stops.2))
wants_memory m None before now Done stops needs clean = absurd stops
wants_memory m None before now Usage stops needs clean = absurd stops
wants_memory m None before now WriteFault stops needs clean = absurd stops

-- a text is written whole where no write fails
is_done : (before now : SinkState) (text : List ℕ) (status : Status) → Wrote before now text status → ¬ Rose before.faults now.faults → status ≡ Done
is_done before now text Done wrote clean = refl
is_done before now text WriteFault wrote clean = absurd (clean wrote.0)
is_done before now text Usage wrote clean = absurd wrote
is_done before now text (Refused fault) wrote clean = absurd wrote
is_done before now text ReadFault wrote clean = absurd wrote
is_done before now text NoMemory wrote clean = absurd wrote
is_done before now text TooLong wrote clean = absurd wrote

done_or_memory : (command : Command) (before now : SourceState) (sink sink_now : SinkState) (status : Status) (kept : Option Record) →
    TellsCommand command before now sink sink_now status kept → Needs command.mode command.flags.seed before → ¬ Rose before.faults now.faults → ¬ Rose sink.faults sink_now.faults →
    (status ≡ Done) ⊎ (status ≡ NoMemory)
done_or_memory command before now sink sink_now status None tells needs clean sink_clean = inr (wants_memory command.mode command.flags.seed before now status tells.0 needs clean)
done_or_memory command before now sink sink_now status (Some made) tells needs clean sink_clean =
    inl (is_done sink sink_now tells.0 status tells.2 sink_clean)

-- so what is told is complete
pub complete_told : (words : List Word) (before now : SourceState) (sink sink_now : SinkState) (status : Status) (kept : Option Record) →
    Tells words before now sink sink_now status kept → IsComplete words before now sink sink_now status
complete_told words before now sink sink_now status kept tells = λ command is needs clean sink_clean.
    done_or_memory command before now sink sink_now status kept (tells.command command is) needs clean sink_clean
