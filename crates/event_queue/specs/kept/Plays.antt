-- What a step tells the seat that makes it.
use Rattle.std.specs.Prelude.{◌≡◌, ℕ, ◌%◌, ◌≤◌, []}
use Rattle.atomic_table.specs.Table.{Me}
use Rattle.event_queue.specs.declared.view.Call.{Call}
use Rattle.event_queue.specs.declared.view.Call.TheVariants.{LoadTail, LoadSlot, Publish, HelpTail, Look, Release, LoadAck, StoreAck, LoadClock, AddClock}
use Rattle.event_queue.specs.declared.view.View.{View}
use Rattle.event_queue.specs.Answers.{IsTail, ShowsSlot, IsLook, IsAck, IsClock}
use Rattle.event_queue.specs.Calls.{tail_of}
use Rattle.event_queue.specs.Views.{places_of, queue_of, calls_of, source_of, out_of, with_call}

-- what an answer shows to the seat that made the call
abbrev pub Tells : View → Call → Type 0
Tells v (LoadTail w) = IsTail (tail_of (calls_of v)) (out_of v (source_of v)) w
Tells v (LoadSlot n w) = ShowsSlot v (source_of v) n w
Tells v (Publish p k x w) = ShowsSlot v (source_of v) (p % places_of v.lay (queue_of v.lay (source_of v))) w
Tells v (HelpTail p w) = IsTail (tail_of (calls_of v)) (out_of v (source_of v)) w
Tells v (Look t p w) = IsLook v t p w
Tells v (LoadAck w) = IsAck v (source_of v) w
Tells v (LoadClock w) = IsClock v w
Tells v call = 0 ≤ 0

-- the call, with the word that it found
abbrev pub found : Call → ℕ → Call
found (LoadTail x) w = LoadTail w
found (LoadSlot n x) w = LoadSlot n w
found (Publish p k value x) w = Publish p k value w
found (HelpTail p x) w = HelpTail p w
found (Look t p x) w = Look t p w
found (Release t p) w = Release t p
found (LoadAck x) w = LoadAck w
found (StoreAck t p) w = StoreAck t p
found (LoadClock x) w = LoadClock w
found (AddClock by) w = AddClock by

-- the call was made: the seat's view has it, and knows what its answer shows
abbrev pub Made : (ℕ → Call) → Me ℕ View → ℕ → Me ℕ View → Type 0
Made call m w n = (n ≡ (with_call m.0 (call w), [])) × Tells m.0 (call w)
