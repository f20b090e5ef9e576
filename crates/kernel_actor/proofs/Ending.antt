-- What an actor keeps is what it leaves behind.
use Rattle.std.proofs.Common.{◌≡◌, ℕ, List, refl, sym, ap, ◌∙◌, arith}
use Rattle.task_isa.specs.declared.program.Program.{Program}
use Rattle.fram_words.specs.Places.{Place, Memory, Code, Commit, Log, Ring}
use Rattle.fram_words.specs.Shape.{memory_of}
use Rattle.fram_words.specs.declared.layout.Layout.{Layout}
use Rattle.thread_state.specs.Pages.{place_in}
use Rattle.ink_layout.specs.Shape.{shape_of}
use Rattle.never_cut.specs.declared.model.Model.{Model}
use Rattle.never_cut.proofs.Lasting.{lasts_less}
use Rattle.never_cut.proofs.Privates.{SameBlocks, SamePrivately, private_stays}
use Rattle.kernel_account.specs.declared.entry.KernelEntry.{KernelEntry}
use Rattle.kernel_core.specs.declared.kernel.Kernel.{Kernel}
use Rattle.event_queue.specs.Views.{calls_of}
use Rattle.event_queue.specs.declared.view.View.{View}
use Rattle.kernel_actor.specs.Ends.{EndsAs}
use Rattle.kernel_actor.specs.Kinds.{IsOwn}
use Rattle.kernel_actor.specs.kept.Standing.{Standing}

-- commit words, blocks, logs, rings and code are own words
pub own_blocks : (old new : Memory) → ((p : Place) → IsOwn p → new p ≡ old p) → SameBlocks old new
own_blocks old new same = record {
  code = λ x n. same (Code x n) tt;
  commit_word = λ t. same (Commit t) tt;
  committed_word = λ t w. ap (λ (c : ℕ). new (place_in t c w)) (same (Commit t) tt) ∙ same (place_in t (old (Commit t)) w) tt;
  log = λ t n. same (Log t n) tt;
  ring = λ q n. same (Ring q n) tt;
}

same_privately : (program : Program) (m : Model) → SamePrivately program m m
same_privately program m = record { saves = λ t. refl; event = λ t. refl; pipes = refl; outputs = refl; commits = refl }

-- the own words stand for the state of the board that was imagined
pub ends_now : (program : Program) (layout : Layout) (fram : List ℕ) (kernel : Kernel) (v : View) (left : ℕ) (charges : List (List KernelEntry)) → Standing program layout fram kernel v left charges → EndsAs program fram (calls_of v) charges
ends_now program layout fram kernel v left charges h =
    let i = h.imagines in
    record {
      state = h.state;
      readings = i.readings;
      count = i.count;
      private =
          private_stays i.words (memory_of (shape_of program) fram) program h.state h.state (own_blocks i.words (memory_of (shape_of program) fram) (λ p own. sym (i.own p own))) (same_privately program h.state) i.background.private;
      sound = i.background.sound;
      lasts = lasts_less left 0 h.state (omega arith) i.lasts;
      clock = i.clock;
      released = i.released;
      held = i.held;
      finished = i.finished;
      beside = λ events found. (h.accounts events found).1;
    }
