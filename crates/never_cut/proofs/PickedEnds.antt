-- How the task of a pick ends, where its chain isn't expired.
use Rattle.never_cut.proofs.Common.{Program, room_of, Memory, IsAccepted, thread_def, Pick, Model, start_at, end_at, Readings, IsSound, IsPicked}
use Rattle.never_cut.proofs.TaskRuns.{IsFittingEnd}
use Rattle.never_cut.proofs.SoundParts.{parts_of}
use Rattle.never_cut.proofs.SoundCommits.{end_fits_at}

-- it goes on with a task of its thread or ends; what it sends, sets and puts out is of its thread, within its bits and the room that there is
pub picked_end : (program : Program) (readings : Readings) (words : Memory) (m : Model) (pick : Pick) → IsAccepted program → IsSound program readings m → (h : IsPicked program words m pick) →
    IsFittingEnd program pick.thread.0 (thread_def program pick.thread.0).state (room_of (start_at program m pick.thread.0 pick.event h.scan.time))
    (end_at program m pick.thread.0 pick.event h.scan.time)
picked_end program readings words m pick accepted sound h =
    end_fits_at program readings m pick.thread.0 pick.event h.scan accepted (parts_of program readings m sound) h.known h.scanned h.pending_is
