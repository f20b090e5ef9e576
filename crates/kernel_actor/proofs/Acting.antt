-- The facts of an actor's step, in the words of its fields.
use Rattle.std.proofs.Common.{◌≡◌, ℕ, suc, ◌+◌, ◌-◌, ◌<◌, Bool, true, false, List, [], ◌∷◌, ◌++◌, refl, sym, ap, ◌∙◌, subst, arith, Option}
use Rattle.task_isa.specs.declared.program.Program.{Program}
use Rattle.fram_words.specs.Shape.{memory_of}
use Rattle.fram_words.specs.declared.layout.Layout.{Layout}
use Rattle.fram_words.proofs.Accesses.{finds_there, performed_there}
use Rattle.ink_layout.specs.Shape.{shape_of}
use Rattle.kernel_account.specs.declared.entry.KernelEntry.{KernelEntry}
use Rattle.kernel_core.specs.Fits.{CanTake}
use Rattle.kernel_core.specs.Kernel.{first_kernel, wants, takes, point_found}
use Rattle.kernel_core.specs.declared.kernel.Kernel.{Kernel}
use Rattle.event_queue.specs.Views.{calls_of}
use Rattle.event_queue.specs.declared.view.View.{View}
use Rattle.kernel_actor.specs.Accounts.{IsAccountOf, entry_made, noted}
use Rattle.kernel_actor.specs.Books.{Book, charges_by, charges_in}
use Rattle.kernel_actor.specs.Kinds.{kind_of}
use Rattle.kernel_actor.specs.Lays.{IsLayOf}
use Rattle.kernel_actor.specs.Rows.{Place, Finds, Leads, LeadsOne}
use Rattle.kernel_actor.specs.Served.{KeepsSeen}
use Rattle.kernel_actor.specs.Timely.{AddsTimely}
use Rattle.kernel_actor.specs.kept.Answered.{CanMake, Answered}
use Rattle.kernel_actor.specs.kept.Imagines.{Imagines}
use Rattle.kernel_actor.specs.kept.Standing.{Standing}
use Rattle.kernel_actor.specs.declared.kind.Kind.{Kind}
use Rattle.kernel_actor.specs.declared.kind.Kind.TheVariants.{Own, Clock, Look, Acknowledge, Release}
use Rattle.kernel_actor.proofs.Standings.{can_make, can_take, there, within}
use Rattle.kernel_actor.proofs.Steps.{stands_next}
use Rattle.kernel_actor.proofs.Timing.{step_timely}
use Rattle.kernel_actor.proofs.Serving.{leads_later, step_seen}
use Rattle.kernel_actor.proofs.Charges.{stands_cut, stands_first}
use Rattle.prog_check.specs.Accepted.{IsAccepted}
use Rattle.ink_layout.specs.Image.{IsFirstImage}
use Rattle.ink_layout.specs.Layouts.{IsLayout}

-- the place of these parts
abbrev pub placed : Kernel → List ℕ → View → Book → Place
placed kernel words v book = record { kernel = kernel; words = words; calls = calls_of v; entries = book.entries }

module _ (program : Program) (layout : Layout) (fram : List ℕ) (kernel : Kernel) (v : View) (left : ℕ) (book : Book) (h : Standing program layout fram kernel v left (charges_in book)) (begun : book.begun ≡ true) (some : 0 < left) where
  -- one access at least is left, and a charge has begun
  ready : Standing program layout fram kernel v (suc (left - 1)) (book.done ++ book.entries ∷ [])
  ready =
      let one : left ≡ suc (left - 1) = omega (arith, some) in
      subst (λ (z : ℕ × Bool). Standing program layout fram kernel v z.0 (charges_by z.1 book.done book.entries)) (λ j. (one j, begun j)) h

  pub can_make_now : (kind : Kind) → kind ≡ kind_of kernel → CanMake program layout fram kernel v kind
  can_make_now kind is = subst (CanMake program layout fram kernel v) (sym is) (can_make ready)

  pub can_take_now : (kind : Kind) (fram' : List ℕ) (v' : View) (w : ℕ) → kind ≡ kind_of kernel → Answered program kernel fram fram' v v' kind w → CanTake program kernel w
  can_take_now kind fram' v' w is a = can_take ready fram' v' w (subst (λ k. Answered program kernel fram fram' v v' k w) is a)

  finds_by : (fram' : List ℕ) (v' : View) (w : ℕ) (old new : Place) (k : Kind) → old.kernel ≡ kernel → old.words ≡ fram → old.calls ≡ calls_of v → new.words ≡ fram' → new.calls ≡ calls_of v' →
      Answered program kernel fram fram' v v' k w → Finds program (record { kernel = kernel; words = fram; calls = calls_of v; entries = old.entries }) (record { kernel = new.kernel; words = fram'; calls = calls_of v'; entries = new.entries }) k w
  finds_by fram' v' w old new Own a b c d e is = (
    is.0 ∙ finds_there (shape_of program) fram (wants program kernel) (there ready),
    ap (memory_of (shape_of program)) is.1 ∙ performed_there (shape_of program) fram (wants program kernel) (there ready) (within ready),
    ap calls_of is.2,
  )
  finds_by fram' v' w old new Clock a b c d e is = (is.0, is.2)
  finds_by fram' v' w old new (Look at) a b c d e is = (is.0, is.2)
  finds_by fram' v' w old new (Acknowledge at) a b c d e is = (is.0, is.1)
  finds_by fram' v' w old new (Release at) a b c d e is = (is.0, is.1)

  module _ (kind : Kind) (is : kind ≡ kind_of kernel) (fram' : List ℕ) (kernel' : Kernel) (v' : View) (book' : Book) (w : ℕ) (o : Option KernelEntry) (answered : Answered program kernel fram fram' v v' kind w)
      (registers : kernel' ≡ takes program kernel w) (entry : o ≡ entry_made kind w (point_found program kernel w)) (noted_is : book'.entries ≡ noted book.entries o) where
    answer_here : Answered program kernel fram fram' v v' (kind_of kernel) w
    answer_here = subst (λ k. Answered program kernel fram fram' v v' k w) is answered

    entries_here : book'.entries ≡ noted book.entries (entry_made (kind_of kernel) w (point_found program kernel w))
    entries_here = noted_is ∙ ap (noted book.entries) (entry ∙ ap (λ k. entry_made k w (point_found program kernel w)) is)

    pub stands_now : v'.lay ≡ v.lay → book'.done ≡ book.done → book'.begun ≡ book.begun → Standing program layout fram' kernel' v' (left - 1) (charges_in book')
    stands_now lay done begun' =
        subst (λ (z : Kernel × Bool × List (List KernelEntry) × List KernelEntry). Standing program layout fram' z.0 v' (left - 1) (charges_by z.1 z.2 z.3))
        (sym (λ j. (registers j, (begun' ∙ begun) j, done j, entries_here j)))
        (stands_next program layout fram kernel v (left - 1) book.done book.entries ready fram' v' w lay answer_here)

    pub leads_now : LeadsOne program (placed kernel fram v book) (placed kernel' fram' v' book')
    leads_now = record {
      word = w;
      finds = finds_by fram' v' w (placed kernel fram v book) (placed kernel' fram' v' book') (kind_of kernel) refl refl refl refl refl answer_here;
      kernel = registers;
      entries = entries_here;
    }

    pub timely_now : AddsTimely v.told book.entries book'.entries
    timely_now = subst (AddsTimely v.told book.entries) (sym entries_here) (step_timely ready fram' v' w book.entries answer_here)

    pub seen_now : KeepsSeen program book.done (placed kernel fram v book) (placed kernel' fram' v' book')
    seen_now =
        subst (λ (es : List KernelEntry). KeepsSeen program book.done (placed kernel fram v book) (record { kernel = kernel'; words = fram'; calls = calls_of v'; entries = es })) (sym entries_here)
        (record { each = step_seen book.done book.entries ready fram' v' w (leads_later program (placed kernel fram v book) (placed kernel' fram' v' book') leads_now) answer_here })

-- what stands is an account
pub keeps_account : (program : Program) (layout : Layout) (fram : List ℕ) (kernel : Kernel) (v : View) (left : ℕ) (charges : List (List KernelEntry)) → Standing program layout fram kernel v left charges → IsAccountOf program (calls_of v) charges
keeps_account program layout fram kernel v left charges h events found = (h.accounts events found).0

-- a seat that has heard or made a note has made the same calls
pub stands_same : (program : Program) (layout : Layout) (fram : List ℕ) (kernel : Kernel) (v v' : View) (left : ℕ) (charges : List (List KernelEntry)) → v'.lay ≡ v.lay → calls_of v' ≡ calls_of v →
    Standing program layout fram kernel v left charges → Standing program layout fram kernel v' left charges
stands_same program layout fram kernel v v' left charges lay calls h = record {
  layout_is = h.layout_is;
  lay = subst (IsLayOf program) (sym lay) h.lay;
  state = h.state;
  imagines = subst (λ c. Imagines program fram c kernel left h.state) (sym calls) h.imagines;
  accounts = subst (λ c. Rattle.kernel_actor.specs.kept.Standing.Accounts program c charges h.state) (sym calls) h.accounts;
}

-- one row more
pub leads_then : (program program' : Program) (rows : ℕ) (first old new : Place) → Leads program rows first old → program' ≡ program → LeadsOne program' old new → Leads program (rows + 1) first new
leads_then program program' rows first old new leads same one =
    let more : suc rows ≡ rows + 1 = omega arith in
    subst (λ n. Leads program n first new) more (old, leads, subst (λ p. LeadsOne p old new) same one)

-- after a cut a new charge has begun in the account
pub cut_now : (program : Program) (layout : Layout) (fram : List ℕ) (kernel kernel' : Kernel) (v : View) (left : ℕ) (book book' : Book) → Standing program layout fram kernel v left (charges_in book) → kernel' ≡ first_kernel →
    book'.done ≡ charges_in book → book'.entries ≡ [] → book'.begun ≡ true → Standing program layout fram kernel' v left (charges_in book')
cut_now program layout fram kernel kernel' v left book book' h registers done entries begun =
    subst (λ (z : Kernel × Bool × List (List KernelEntry) × List KernelEntry). Standing program layout fram z.0 v left (charges_by z.1 z.2 z.3)) (sym (λ j. (registers j, begun j, done j, entries j)))
    (stands_cut program layout fram kernel v left (charges_in book) h)

-- before the first charge there is none
pub first_now : (program : Program) (layout : Layout) (fram : List ℕ) (kernel : Kernel) (v : View) (book : Book) → IsAccepted program → IsLayout program layout → IsLayOf program v.lay → IsFirstImage program fram → calls_of v ≡ [] →
    kernel ≡ first_kernel → book.done ≡ [] → book.begun ≡ false → Standing program layout fram kernel v 4194304 (charges_in book)
first_now program layout fram kernel v book accepted layout_is lay image none registers done begun =
    subst (λ (z : Kernel × Bool × List (List KernelEntry)). Standing program layout fram z.0 v 4194304 (charges_by z.1 z.2 book.entries)) (sym (λ j. (registers j, begun j, done j)))
    (stands_first program layout fram v 4194304 accepted layout_is lay image none (omega arith))
