-- The account of the queues: what each accepted and when, and what was refused.
use Rattle.std.specs.Prelude.{◌≡◌, ◌⊎◌, ℕ, ◌+◌, ◌-◌, ◌<◌, ◌≤◌, List, [], length, slice_index, slice_index_or, sum_by, count_by, take, Bool, false, ◌==◌}
use mathlib.Core.Option.{some}
use lib.ListN.{get_elem?}
use Rattle.ink_base.specs.declared.accept.Accept.{Accept}
use Rattle.task_isa.specs.declared.program.Program.{Program}
use Rattle.fram_words.specs.Places.{Memory, Src}
use Rattle.fram_words.specs.Held.{src_of}
use Rattle.fram_words.specs.Shape.{memory_of}
use Rattle.prog_check.specs.Lookup.{thread_def, source_thread}
use Rattle.ink_layout.specs.Shape.{shape_of}
use Rattle.never_cut.specs.declared.source_model.SourceModel.{SourceModel}
use Rattle.never_cut.specs.Entries.{readings_of}
use Rattle.job_parts.specs.Job.{JobParts}
use Rattle.kernel_account.specs.declared.entry.KernelEntry.{KernelEntry}
use Rattle.kernel_account.specs.declared.entry.KernelEntry.TheVariants.{Release}
use Rattle.irq_source.specs.Pace.{enough_for}
use Rattle.live_account.specs.declared.record.LiveRecord.{LiveRecord}
use Rattle.live_account.specs.declared.record.Refusal.{Refusal}
use Rattle.live_account.specs.Turns.{source, turns_for, charge_at}
use Rattle.live_account.specs.Events.{number_of}

-- the events of thread t's queue
abbrev pub accepted_in : LiveRecord → ℕ → List Accept
accepted_in r t = slice_index_or r.accepted t []

-- the charges in which they were accepted
abbrev pub charges_in : LiveRecord → ℕ → List ℕ
charges_in r t = slice_index_or r.charges t []

-- event p of thread t's queue is this one
abbrev pub HasEvent : LiveRecord → (t p : ℕ) → Accept → Type 0
HasEvent r t p a = get_elem? (accepted_in r t) p ≡ some a

-- it was accepted in charge c
abbrev pub WasAccepted : LiveRecord → (t p c : ℕ) → Type 0
WasAccepted r t p c = get_elem? (charges_in r t) p ≡ some c

-- refusal n is this one
abbrev pub HasRefusal : LiveRecord → ℕ → Refusal → Type 0
HasRefusal r n d = get_elem? r.refused n ≡ some d

-- the charge is one of the job's, and lists a turn of source i
abbrev pub ListsTurn : JobParts → (i c : ℕ) → Type 0
ListsTurn job i c = (c < length job.charges) × (0 < turns_for (source i) (charge_at job.charges c))

-- an event of thread t's queue is a reading of one of its sources, with its value
pub record IsReadingFor (job : JobParts) (t : ℕ) (a : Accept) : Type 0 where
  pub source : a.source.0 < length job.program.sources
  pub queue : source_thread job.program a.source.0 ≡ t
  pub reading : a.reading < length (readings_of job.readings a.source.0)
  pub value : a.value ≡ slice_index (readings_of job.readings a.source.0) a.reading

-- Each event is a reading for the queue and names a charge that lists a turn of its source; the readings of one source rise with the position.
pub record AreEvents (job : JobParts) (r : LiveRecord) (t : ℕ) : Type 0 where
  pub readings : (p : ℕ) (a : Accept) → HasEvent r t p a → IsReadingFor job t a
  pub rise : (p q : ℕ) (a b : Accept) → p < q → HasEvent r t p a → HasEvent r t q b → a.source ≡ b.source → a.reading < b.reading
  pub dated : length (charges_in r t) ≡ length (accepted_in r t)
  pub charges : (p c : ℕ) (a : Accept) → HasEvent r t p a → WasAccepted r t p c → ListsTurn job a.source.0 c

-- the entry is a release of thread t
abbrev pub is_release : ℕ → KernelEntry → Bool
is_release t (Release thread) = thread.0 == t
is_release t _ = false

-- how many events of thread t's queue were released in these charges
abbrev pub releases_of : ℕ → List (List KernelEntry) → ℕ
releases_of t charges = sum_by (count_by (is_release t)) charges

-- the places of the queue that source i feeds
abbrev pub places_for : Program → ℕ → ℕ
places_for program i = (thread_def program (source_thread program i)).queue

-- an event at this position, of the refusal's source: it lies below it and has a lower reading, or has none lower
abbrev pub Parted : Refusal → ℕ → Accept → Type 0
Parted d p a = ((p < d.position) × (a.reading < d.reading)) ⊎ ((d.position ≤ p) × (d.reading ≤ a.reading))

-- A refusal met a full queue: all positions below its own were published, and of those at most all but a turn of the ring were released in the charges
-- before its own. It names a charge that lists a turn of its source, and parts the source's events by their readings.
pub record IsRefusal (job : JobParts) (r : LiveRecord) (d : Refusal) : Type 0 where
  pub source : d.source.0 < length job.program.sources
  pub published : d.position ≤ length (accepted_in r (source_thread job.program d.source.0))
  pub released : releases_of (source_thread job.program d.source.0) (take d.charge r.kernel) + places_for job.program d.source.0 ≤ d.position
  pub parted : (p : ℕ) (a : Accept) → HasEvent r (source_thread job.program d.source.0) p a → a.source ≡ d.source → Parted d p a
  pub charge : ListsTurn job d.source.0 d.charge

-- the refusals stand source by source, those of one source with readings that don't fall
pub record AreRefusals (job : JobParts) (r : LiveRecord) : Type 0 where
  pub each : (n : ℕ) (d : Refusal) → HasRefusal r n d → IsRefusal job r d
  pub sources : (j n : ℕ) (a b : Refusal) → j < n → HasRefusal r j a → HasRefusal r n b → a.source.0 ≤ b.source.0
  pub rise : (j n : ℕ) (a b : Refusal) → j < n → HasRefusal r j a → HasRefusal r n b → a.source ≡ b.source → a.reading ≤ b.reading

-- the words at the end, by place
abbrev pub words_at : Program → LiveRecord → Memory
words_at program r = memory_of (shape_of program) r.words

-- the number of source i's events
abbrev pub events_from : Program → LiveRecord → ℕ → ℕ
events_from program r i = number_of i (accepted_in r (source_thread program i))

-- What source i has accepted and settled: its events, and the readings that its word SRC counts as settled, with one more where it counts an event less.
abbrev pub source_state : Program → LiveRecord → ℕ → SourceModel
source_state program r i =
    let src = src_of (words_at program r (Src i)) in
    record { next = src.next + (events_from program r i - src.accepted); accepted = events_from program r i; refused = false }

-- reading k of source i was accepted or refused, in charge c or an earlier one
abbrev pub SettledBy : Program → LiveRecord → (i k c : ℕ) → Type 0
SettledBy program r i k c =
    ((p : ℕ) × (a : Accept) × (d : ℕ) × HasEvent r (source_thread program i) p a × (a.source.0 ≡ i) × (a.reading ≡ k) × WasAccepted r (source_thread program i) p d × (d ≤ c))
    ⊎ ((n : ℕ) × (d : Refusal) × HasRefusal r n d × (d.source.0 ≡ i) × (d.reading ≡ k) × (d.charge ≤ c))

-- how many events of its queue are of other sources
abbrev pub others_beside : Program → LiveRecord → ℕ → ℕ
others_beside program r i = length (accepted_in r (source_thread program i)) - events_from program r i

-- Each settled reading of source i was accepted or refused; those that were accepted are settled, and those that were refused too, or the next. With
-- enough turns in a charge the first m readings, or all, are settled in it or before.
pub record Settles (job : JobParts) (r : LiveRecord) (i : ℕ) : Type 0 where
  pub within : (source_state job.program r i).next ≤ length (readings_of job.readings i)
  pub settled : (k : ℕ) → k < (source_state job.program r i).next → SettledBy job.program r i k (length job.charges)
  pub accepted : (p : ℕ) (a : Accept) → HasEvent r (source_thread job.program i) p a → a.source.0 ≡ i → a.reading < (source_state job.program r i).next
  pub refused : (n : ℕ) (d : Refusal) → HasRefusal r n d → d.source.0 ≡ i → d.reading ≤ (source_state job.program r i).next
  pub enough : (c m k : ℕ) → c < length job.charges → enough_for (places_for job.program i) (others_beside job.program r i) m ≤ turns_for (source i) (charge_at job.charges c) →
      k < m → k < length (readings_of job.readings i) → (k < (source_state job.program r i).next) × SettledBy job.program r i k c
