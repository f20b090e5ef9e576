-- What notes carry.
use Rattle.queue_rows.proofs.Common.{◌≡◌, ℕ, ◌<◌, ◌≤◌, max, List, length, slice_index, sym, ap, ◌∙◌, subst, arith, QueueSet, SourceSeat, KernelSeat, released_of, queue_of, calls_of, gone_of, raised, tabulated, both_told, kernel_told, source_told, view, kernel_view, Noted, HearsAsSource, HearsAsKernel}
use Rattle.event_queue.specs.declared.view.Told.{Told}
use Rattle.event_queue.specs.declared.view.View.{View}
use Rattle.event_queue.specs.declared.seat.Note.{Note}
use Rattle.event_queue.proofs.Joins.{greater_left, greater_right, tabulated_at, raised_at}

-- a source that hears a note of the kernel knows the kernel's releases
pub source_hears : (set : QueueSet) (k : View) (note : Note) (old new : SourceSeat) → Noted set (kernel_told k) note → HearsAsSource note old new → queue_of (view old).lay old.source.0 ≡ 0 → 0 < length k.lay.queues
    → released_of 0 (calls_of k) ≤ gone_of (view new) new.source.0
source_hears set k note old new noted heard queue some =
    let r : ℕ = released_of 0 (calls_of k) in
    let rs : List ℕ = tabulated (λ t. released_of t (calls_of k)) (length k.lay.queues) in
    let at : queue_of (view new).lay new.source.0 ≡ 0 = (λ j. queue_of (heard.place.lay j) (heard.source j).0) ∙ queue in
    let told : (view new).told ≡ both_told (view old).told (kernel_told k) = heard.place.told ∙ ap (both_told (view old).told) noted.told in
    let here : r ≤ slice_index (both_told (view old).told (kernel_told k)).released 0 =
    omega (arith, tabulated_at (λ t. released_of t (calls_of k)) (length k.lay.queues) 0 some, greater_left rs k.told.released 0, greater_right (view old).told.released (kernel_told k).released 0) in
    let there : r ≤ slice_index (view new).told.released (queue_of (view new).lay new.source.0) = subst (λ (z : Told × ℕ). r ≤ slice_index z.0.released z.1) (sym (λ j. (told j, at j))) here in
    omega (arith, there)

-- the kernel that hears a note of a source was told what the source knows to be released
pub kernel_hears : (set : QueueSet) (s : SourceSeat) (note : Note) (old new : KernelSeat) → Noted set (source_told (view s) s.source.0) note → HearsAsKernel note old new → queue_of (view s).lay s.source.0 ≡ 0
    → gone_of (view s) s.source.0 ≤ slice_index (kernel_view new).told.released 0
kernel_hears set s note old new noted heard queue =
    let g : ℕ = gone_of (view s) s.source.0 in
    let q : ℕ = queue_of (view s).lay s.source.0 in
    let xs : List ℕ = raised q g (view s).told.released in
    let told : (kernel_view new).told ≡ both_told (kernel_view old).told (source_told (view s) s.source.0) = heard.place.told ∙ ap (both_told (kernel_view old).told) noted.told in
    let first : g ≤ slice_index xs 0 = subst (λ (n : ℕ). g ≤ slice_index xs n) queue (raised_at q g (view s).told.released) in
    let here : g ≤ slice_index (both_told (kernel_view old).told (source_told (view s) s.source.0)).released 0 = omega (arith, first, greater_right (kernel_view old).told.released xs 0) in
    subst (λ (z : Told). g ≤ slice_index z.released 0) (sym told) here
