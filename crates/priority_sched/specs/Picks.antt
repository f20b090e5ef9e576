-- What a scan picks, by what it has loaded.
use Rattle.std.specs.Prelude.{ℕ, ◌-◌, ◌%◌, ◌^◌, Some, None}
use Rattle.ink_base.specs.declared.ids.ThreadId.{ThreadId}
use Rattle.ink_base.specs.declared.ids.TimerId.{TimerId}
use Rattle.ink_base.specs.declared.event.Event.{Event}
use Rattle.ink_base.specs.declared.event.Origin.TheVariants as origins
use Rattle.ink_layout.specs.declared.pick.Pick.{Pick}
use Rattle.priority_sched.specs.declared.chain.Chain.{Chain}
use Rattle.priority_sched.specs.declared.idle.Idle.{Idle}
use Rattle.priority_sched.specs.declared.idle.Waiting.{Waiting}

-- the pick of a running chain
abbrev pub chain_pick : ThreadId → (time : ℕ) → Chain → (first : ℕ) → Event → Pick
chain_pick thread time chain first e =
    record {
      thread = thread;
      event = e;
      running = Some chain.running;
      position = chain.position;
      time = time;
      commit_word = chain.commit_word;
      first = first;
      due_word = 0;
      taken = 0;
    }

-- the pick of a queue's event
abbrev pub queue_pick : ThreadId → (time c p : ℕ) → Event → Pick
queue_pick thread time c p e =
    record { thread = thread; event = e; running = None; position = p; time = time; commit_word = c; first = 0; due_word = 0; taken = 0 }

-- the pick of the first item of a pipe that isn't taken
abbrev pub item_pick : ThreadId → (time : ℕ) → Waiting → (value : ℕ) → Pick
item_pick thread time w value =
    record {
      thread = thread;
      event = record { origin = origins.Pipe w.pipe w.taken; value = value };
      running = None;
      position = w.idle.position;
      time = time;
      commit_word = w.idle.commit_word;
      first = 0;
      due_word = 0;
      taken = w.taken;
    }

-- the pick of a timer with this word, which is its deadline plus 1
abbrev pub timer_pick : ThreadId → (time : ℕ) → Idle → TimerId → (word : ℕ) → Pick
timer_pick thread time idle timer word =
    record {
      thread = thread;
      event = record { origin = origins.Timer timer (word - 1); value = (word - 1) % 2 ^ 32 };
      running = None;
      position = idle.position;
      time = time;
      commit_word = idle.commit_word;
      first = 0;
      due_word = word;
      taken = 0;
    }
