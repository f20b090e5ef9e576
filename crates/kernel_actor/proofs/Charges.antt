-- An actor stands before its first charge, and after a cut.
use Rattle.std.proofs.Common.{◌≡◌, ℕ, zero, suc, ◌-◌, ◌^◌, ◌<◌, Bool, true, false, List, [], ◌∷◌, ◌++◌, map, refl, sym, subst, arith, Some, None}
use Rattle.std.specs.Prelude.{slice_index_or}
use Rattle.task_isa.specs.declared.program.Program.{Program}
use Rattle.task_isa.specs.declared.program.ThreadDef.{ThreadDef}
use Rattle.prog_check.specs.Accepted.{IsAccepted}
use Rattle.fram_words.specs.Places.{Memory}
use Rattle.fram_words.specs.Shape.{memory_of}
use Rattle.fram_words.specs.declared.layout.Layout.{Layout}
use Rattle.ink_layout.specs.Image.{IsFirstImage}
use Rattle.ink_layout.specs.Layouts.{IsLayout}
use Rattle.ink_layout.specs.Shape.{shape_of}
use Rattle.ink_layout.specs.declared.slot_at.SlotAt.{SlotAt}
use Rattle.never_cut.specs.declared.model.Model.{Model}
use Rattle.never_cut.specs.declared.thread_model.ThreadModel.{ThreadModel}
use Rattle.never_cut.specs.State.{thread_of, no_thread, open_model, open_thread}
use Rattle.never_cut.specs.Entries.{Readings}
use Rattle.never_cut.specs.Stands.{StandsPrivate}
use Rattle.never_cut.specs.Sound.{IsSound}
use Rattle.never_cut.specs.Within.{AreShort, Lasts, LastsThread, is_scanning}
use Rattle.never_cut.specs.kept.Steps.{Background}
use Rattle.never_cut.proofs.Lasting.{open_lasts}
use Rattle.reboot.proofs.Boots.{boot_begins}
use Rattle.kernel_account.specs.Account.{open_account, next_charge}
use Rattle.kernel_account.specs.declared.entry.KernelEntry.{KernelEntry}
use Rattle.kernel_account.proofs.Besides.{first_beside, every_cut_follows}
use Rattle.kernel_account.proofs.Growing.{every_charge_begins}
use Rattle.kernel_core.specs.Kernel.{first_kernel}
use Rattle.kernel_core.specs.declared.kernel.Kernel.{Kernel}
use Rattle.kernel_core.proofs.Firsts.{first_stands, first_holds}
use Rattle.kernel_core.proofs.Turns.{background_of}
use Rattle.event_queue.specs.declared.view.Call.{Call}
use Rattle.event_queue.specs.declared.view.View.{View}
use Rattle.event_queue.specs.Views.{calls_of}
use Rattle.kernel_actor.specs.Kinds.{kind_of}
use Rattle.kernel_actor.specs.Lays.{IsLayOf}
use Rattle.kernel_actor.specs.kept.Imagines.{Imagines}
use Rattle.kernel_actor.specs.kept.Standing.{Standing}
use Rattle.kernel_actor.specs.declared.kind.Kind.TheVariants.{Own, Release}
use Rattle.kernel_actor.proofs.Turns.{setup, is_setup}

-- a state whose scan is lost is sound, stands for the same words and has as much room
lost_private : (words : Memory) (program : Program) (m : Model) → StandsPrivate words program m → StandsPrivate words program (next_charge m)
lost_private words program m h = record {
  code = h.code;
  threads = λ t lt.
      let x = h.threads t lt in
      record { stamp = x.stamp; origin = x.origin; value = x.value; block = x.block; event = x.event; log = x.log; reached = x.reached; pages = x.pages };
  stamps = h.stamps;
  newest = h.newest;
  pipes = h.pipes;
}

lost_sound : (program : Program) (readings : Readings) (m : Model) → IsSound program readings m → IsSound program readings (next_charge m)
lost_sound program readings m h = record {
  shape = record { threads = h.shape.threads; pipes = h.shape.pipes; timers = h.shape.timers; sources = h.shape.sources; states = h.shape.states };
  threads = λ t lt.
      let x = h.threads t lt in
      record {
        positions = x.positions;
        queued = x.queued;
        finished = x.finished;
        idle = x.idle;
        chain = λ task is. let c = x.chain task is in record { known = c.known; own = c.own; event = c.event; is = c.is; served = c.served; unfinished = c.unfinished };
        outputs = x.outputs;
        first = x.first;
        values = x.values;
      };
  pipes = λ q lt. let p = h.pipes q lt in record { room = p.room; values = p.values };
  timers = λ j lt. let x = h.timers j lt in record { due = x.due; period = x.period };
  sources = λ i lt. let x = h.sources i lt in record { ordered = x.ordered; within = x.within; refused = x.refused };
  clock = h.clock;
  scan = λ scan is. absurd (let clash : None ≡ Some scan = is in cc);
  begun = λ scan is. absurd (let clash : None ≡ Some scan = is in cc);
  calm = λ scan is. absurd (let clash : None ≡ Some scan = is in cc);
  one = h.one;
  stamps = h.stamps;
  values = h.values;
}

lost_thread : (left : ℕ) (b : Bool) (x : ThreadModel) → LastsThread left b x → LastsThread left false x
lost_thread left b x h = record {
  ended = let r = h.ended in omega arith;
  served = let r = h.served in omega arith;
  trapped = let r = h.trapped in omega arith;
  expired = let r = h.expired in omega arith;
}

lost_lasts : (left : ℕ) (m : Model) → Lasts left m → Lasts left (next_charge m)
lost_lasts left m h = record {
  commits = let r = h.commits in omega arith;
  threads = λ t. lost_thread left (is_scanning m) (thread_of m t) (h.threads t);
  taken = λ q. let r = h.taken q in omega arith;
}

-- a boot's first access is to an own word
boot_is_own : (at : SlotAt) → kind_of first_kernel ≡ Release at → ⊥
boot_is_own at is = absurd (let clash : Own ≡ Release at = is in cc)

-- after a cut, a new charge has begun
pub stands_cut : (program : Program) (layout : Layout) (fram : List ℕ) (kernel : Kernel) (v : View) (left : ℕ) (charges : List (List KernelEntry)) → Standing program layout fram kernel v left charges →
    Standing program layout fram first_kernel v left (charges ++ [] ∷ [])
stands_cut program layout fram kernel v left charges h =
    let i = h.imagines in
    let b = i.background in
    let background : Background program i.readings i.words (next_charge h.state) = record {
      accepted = b.accepted;
      private = lost_private i.words program h.state b.private;
      shared = record { queues = b.shared.queues; small = b.shared.small; clock = b.shared.clock };
      sound = lost_sound program i.readings h.state b.sound;
    } in
    record {
      layout_is = h.layout_is;
      lay = h.lay;
      state = next_charge h.state;
      imagines = record {
        words = i.words;
        readings = i.readings;
        short = i.short;
        background = background;
        registers = (boot_begins program i.readings i.words (next_charge h.state) background, refl);
        lasts = lost_lasts left h.state i.lasts;
        count = i.count;
        own = i.own;
        released = i.released;
        held = i.held;
        clock = i.clock;
        acked = λ at is. absurd (boot_is_own at is);
        finished = i.finished;
      };
      accounts = λ events found.
          let old = h.accounts events found in
          let begins = every_charge_begins program (open_account program events) charges old.0 in
          (begins.legal, subst (λ (z : Model). Rattle.kernel_account.specs.Follows.IsBeside program events z (next_charge h.state)) (sym begins.after) (every_cut_follows program events _ h.state old.1));
    }

-- nothing has happened to a thread at the start
open_held : (defs : List ThreadDef) (t : ℕ) → (slice_index_or (map open_thread defs) t no_thread).held ≡ []
open_held [] t = refl
open_held (d ∷ defs) zero = refl
open_held (d ∷ defs) (suc t) = open_held defs t

open_released : (defs : List ThreadDef) (t : ℕ) → (slice_index_or (map open_thread defs) t no_thread).released ≡ 0
open_released [] t = refl
open_released (d ∷ defs) zero = refl
open_released (d ∷ defs) (suc t) = open_released defs t

no_readings : AreShort []
no_readings = record { few = λ i. omega arith; values = λ i k. omega arith }

-- before the first charge
pub stands_first : (program : Program) (layout : Layout) (fram : List ℕ) (v : View) (left : ℕ) → IsAccepted program → IsLayout program layout → IsLayOf program v.lay → IsFirstImage program fram → calls_of v ≡ [] → left < 2 ^ 33 - 2 →
    Standing program layout fram first_kernel v left []
stands_first program layout fram v left accepted layout_is lay image none few =
    let g = is_setup program [] accepted no_readings in
    let stands = first_stands (setup program []) fram accepted no_readings refl image in
    let holds = first_holds (setup program []) fram 0 g stands in
    let background = background_of (setup program []) 0 _ g holds in
    record {
      layout_is = layout_is;
      lay = lay;
      state = open_model program;
      imagines = subst (λ (calls : List Call). Imagines program fram calls first_kernel left (open_model program)) (sym none)
          (record {
            words = memory_of (shape_of program) fram;
            readings = [];
            short = no_readings;
            background = record { accepted = accepted; private = background.private; shared = background.shared; sound = background.sound };
            registers = holds.registers;
            lasts = open_lasts program left few;
            count = image.count;
            own = λ p own. refl;
            released = λ t lt. open_released program.threads t;
            held = λ t lt. open_held program.threads t;
            clock = refl;
            acked = λ at is. absurd (boot_is_own at is);
            finished = λ t lt is. absurd (let clash : false ≡ true = is in cc);
          });
      accounts = λ events found. (tt, first_beside program events);
    }
