-- The words that a task's accesses are made at are on the board.
use Rattle.task_run.proofs.Common.{◌≡◌, ℕ, ◌+◌, ◌-◌, ◌*◌, ◌/◌, ◌%◌, ◌<◌, ◌≤◌, length, arith, refl, subst, Buffer, Program, number_of, IsAccepted, pipe_def, Pick, Ending, Execution, Phase, WriteFirst, WriteOrigin, WriteValue, WriteTaken, ReadPeriod, WriteDue, Resume, Fetch, ReadState, WriteState, StoreLog, WriteCount, LoadReader, LoadTaken, ReadWritten, StoreItem, WriteWritten, WriteArmed, WritePeriod, WriteStopped, ReadTotal, StoreAck, Over, total_word, want, FitsPhase, FitsWord, task_loaded, IsPhaseOf}
use Rattle.ink_base.specs.declared.limits.TheConstants as limits
use Rattle.fram_words.specs.Header as header
use Rattle.never_cut.specs.Ranges.{IsAnswerTo}
use Rattle.task_run.proofs.Accesses.{machine_at}
use Rattle.task_run.proofs.Words.{total_low, total_high}
use Rattle.fram_words.proofs.Addresses.{whole_word}

-- a word in the range of its place is one that the phase takes
pub task_word : (program : Program) (pick : Pick) (stamp : ℕ) (b : Buffer) (ending : Ending) (e : Execution) (phase : Phase) (word : ℕ) → IsAccepted program →
    FitsPhase program (machine_at pick stamp b ending e phase) phase →
    IsAnswerTo program (task_loaded (machine_at pick stamp b ending e phase)) (want program (machine_at pick stamp b ending e phase)) word → FitsWord program phase word
task_word program pick stamp b ending e ReadPeriod word accepted fits h = h.period (number_of pick.event.origin) fits.0 (whole_word (header.period (number_of pick.event.origin)))
task_word program pick stamp b ending e (LoadTaken s commit) word accepted fits h =
    let most : length program.pipes ≤ limits.PIPES = accepted.counts.pipes in
    let known : s.pipe < length program.pipes = fits.1 in
    let low : word < 4294967295 = h.taken (rw (whole_word (header.taken s.pipe)) (omega arith)) (rw (whole_word (header.taken s.pipe)) (omega arith)) in omega arith
task_word program pick stamp b ending e (ReadWritten s taken) word accepted fits h =
    let most : length program.pipes ≤ limits.PIPES = accepted.counts.pipes in
    let known : s.pipe < length program.pipes = fits.0.1 in
    let at : 8 * (header.written s.pipe / 8) + header.written s.pipe % 8 - header.written 0 ≡ s.pipe = omega arith in
    subst (λ q. (taken ≤ word) × (word ≤ taken + (pipe_def program q).places)) at
    (h.written (rw (whole_word (header.written s.pipe)) (omega arith)) (rw (whole_word (header.written s.pipe)) (omega arith)) taken refl)
task_word program pick stamp b ending e ReadTotal word accepted fits h =
    let low : header.served ≤ total_word ending = total_low ending in
    let high : total_word ending ≤ header.expired = total_high ending in
    let small : word < 4294967295 = h.totals (rw (whole_word (total_word ending)) low) (rw (whole_word (total_word ending)) high) in omega arith
task_word program pick stamp b ending e _ word accepted fits h = tt

-- the range of a phase reads the pick and the execution alone
pub any_buffer : (program : Program) (pick : Pick) (stamp : ℕ) (b c : Buffer) (ending : Ending) (e : Execution) (phase : Phase) →
    FitsPhase program (machine_at pick stamp b ending e phase) phase × IsPhaseOf program (machine_at pick stamp b ending e phase) phase →
    FitsPhase program (machine_at pick stamp c ending e phase) phase × IsPhaseOf program (machine_at pick stamp c ending e phase) phase
any_buffer program pick stamp b c ending e WriteFirst h = h
any_buffer program pick stamp b c ending e WriteOrigin h = h
any_buffer program pick stamp b c ending e WriteValue h = h
any_buffer program pick stamp b c ending e WriteTaken h = h
any_buffer program pick stamp b c ending e ReadPeriod h = h
any_buffer program pick stamp b c ending e (WriteDue w) h = h
any_buffer program pick stamp b c ending e Resume h = h
any_buffer program pick stamp b c ending e Fetch h = h
any_buffer program pick stamp b c ending e (ReadState a n) h = h
any_buffer program pick stamp b c ending e (WriteState n v) h = h
any_buffer program pick stamp b c ending e (StoreLog n v) h = h
any_buffer program pick stamp b c ending e (WriteCount n) h = h
any_buffer program pick stamp b c ending e (LoadReader s) h = h
any_buffer program pick stamp b c ending e (LoadTaken s commit) h = h
any_buffer program pick stamp b c ending e (ReadWritten s taken) h = h
any_buffer program pick stamp b c ending e (StoreItem s written) h = h
any_buffer program pick stamp b c ending e (WriteWritten s written) h = h
any_buffer program pick stamp b c ending e (WriteArmed timer delay period) h = h
any_buffer program pick stamp b c ending e (WritePeriod timer period) h = h
any_buffer program pick stamp b c ending e (WriteStopped timer) h = h
any_buffer program pick stamp b c ending e (StoreAck source count) h = h
any_buffer program pick stamp b c ending e Over h = h
any_buffer program pick stamp b c ending e _ h = h
