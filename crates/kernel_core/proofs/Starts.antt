-- The fields of a core before its first charge.
use Rattle.kernel_core.proofs.Common.{◌≡◌, inl, inr, ℕ, zero, suc, ◌+◌, ◌-◌, ◌^◌, ◌<◌, List, [], ◌∷◌, ◌++◌, length, map, replicate, get_or, length-append, refl, sym, ap, ◌∙◌, subst, arith, cases_eq, length-replicate, Program, Layout, first_row, IsPort, Pusher, port_of, IsAccepted, source_thread, Tail, Slot, Ack, Src, address, shape_of, words_of, queue_place, below, IsLayout, JobParts, IsJob, first_kernel, ChargeRecord, not_begun, Recorded, Board, sides, first_board, IsSetup, StandsFirst, Holds, setup_of, IsCore, AreRecords, CanCount, charge_in, row_in, none_recorded, no_pusher, turns_from, first_pusher, AreFirstPushers, IsFirstRecord, AreFirstRecords, lasts_less, first_of}
use Rattle.std.proofs.Math.ListN.{get_or-append}
use Rattle.std.proofs.Math.Seq.{get_or-append_seam}
use Rattle.ink_layout.proofs.Bounds.{few_words}
use Rattle.kernel_core.specs.kept.Paces.{Settles}
use Rattle.kernel_core.proofs.CoreJobs.{turns_few}
use Rattle.kernel_core.proofs.CoreCuts.{nothing_counted}
use Rattle.kernel_core.proofs.Firsts.{first_holds}
use Rattle.kernel_core.proofs.Settled.{first_settles}
use Rattle.kernel_core.proofs.FirstWords.{clock_half}

-- a list of which each element has the same image
map_same : {X Y : Type 0} (f : X → Y) (y : Y) (xs : List X) (n : ℕ) (none : X) → length xs ≡ n → ((k : ℕ) → k < n → f (get_or xs k none) ≡ y) → map f xs ≡ replicate n y
map_same f y [] zero none e each = refl
map_same f y [] (suc n) none e each = absurd (omega arith)
map_same f y (x ∷ xs) zero none e each = absurd (omega arith)
map_same f y (x ∷ xs) (suc n) none e each = λ i. each 0 (omega arith) i ∷ map_same f y xs n none (omega arith) (λ k lt. each (suc k) (omega arith)) i

-- the port of a source is within the limits
pub right_port : (job : JobParts) → IsAccepted job.program → (i : ℕ) → i < length job.program.sources → IsPort (port_of (sides (setup_of job)) i)
right_port job accepted i known =
    let there = accepted.sources i known in
    let queue = accepted.threads (source_thread job.program i) there in
    record {
      source = let few = accepted.counts.sources in omega arith;
      some = omega (arith, queue.queue_least);
      no_more = queue.queue;
      slots =
          let low : address (shape_of job.program) (Slot (source_thread job.program i) 0) < words_of (shape_of job.program) = below job.program (Slot (source_thread job.program i) 0) (there, omega (arith, queue.queue_least)) in
          let few = few_words job.program accepted in
          omega (arith, queue.queue);
    }

-- where the words of a source stand, by the layout of its program
module _ (job : JobParts) (l : Layout) (i : ℕ) (accepted : IsAccepted job.program) (layout : IsLayout job.program l) (known : i < length job.program.sources) where
  abbrev pub t : ℕ
  t = source_thread job.program i

  queue_is : queue_place l t ≡ (port_of (sides (setup_of job)) i).queue
  queue_is =
      let there = accepted.sources i known in
      let slots : (queue_place l t).slots ≡ address (shape_of job.program) (Slot t 0) =
      (let e : (queue_place l t).slots ≡ (queue_place l t).slots + 0 = omega arith in e) ∙ layout.addresses (Slot t 0) (there, let some = (accepted.threads t there).queue_least in omega arith) in
      λ k. record { tail = layout.addresses (Tail t) there k; slots = slots k; places = layout.places t there k }

  pub port_is : record { source = record { 0 = i }; queue = queue_place l t; ack = l.acks + i; src = l.srcs + i } ≡ port_of (sides (setup_of job)) i
  port_is = λ k. record { source = record { 0 = i }; queue = queue_is k; ack = layout.addresses (Ack i) known k; src = layout.addresses (Src i) known k }

-- the machines that a loop over the sources makes
pub no_pushers : (program : Program) → AreFirstPushers program 0 []
no_pushers program = record { length_is = refl; each = λ i lt. absurd (omega arith) }

pub one_pusher_more : (program : Program) (n : ℕ) (pushers : List Pusher) (p : Pusher) → AreFirstPushers program n pushers → p ≡ first_pusher program n → AreFirstPushers program (n + 1) (pushers ++ p ∷ [])
one_pusher_more program n pushers p h is = record {
  length_is = length-append pushers (p ∷ []) ∙ ap (λ k. k + 1) h.length_is;
  each = λ i lt. elim (cases_eq i n) [
    | inl e ↦ ap (λ z. get_or (pushers ++ p ∷ []) z no_pusher) (e ∙ sym h.length_is) ∙ (get_or-append_seam pushers p [] no_pusher ∙ (is ∙ ap (λ z. first_pusher program z) (sym e)))
    | inr ne ↦ get_or-append pushers (p ∷ []) no_pusher i (let e = h.length_is in omega arith) ∙ h.each i (omega arith)
  ];
}

-- the records that a loop over the charges makes
pub no_records : (job : JobParts) → AreFirstRecords job 0 []
no_records job = record { length_is = refl; each = λ k lt. absurd (omega arith) }

pub one_record_more : (job : JobParts) (n : ℕ) (records : List Recorded) (r : Recorded) → AreFirstRecords job n records → IsFirstRecord job n r → AreFirstRecords job (n + 1) (records ++ r ∷ [])
one_record_more job n records r h is = record {
  length_is = length-append records (r ∷ []) ∙ ap (λ k. k + 1) h.length_is;
  each = λ k lt. elim (cases_eq k n) [
    | inl e ↦ subst (λ z. IsFirstRecord job z (get_or (records ++ r ∷ []) z none_recorded)) (sym e)
        (subst (λ z. IsFirstRecord job n z) (sym (ap (λ z. get_or (records ++ r ∷ []) z none_recorded) (sym h.length_is) ∙ get_or-append_seam records r [] none_recorded)) is)
    | inr ne ↦ subst (λ z. IsFirstRecord job k z) (sym (get_or-append records (r ∷ []) none_recorded k (let e = h.length_is in omega arith))) (h.each k (omega arith))
  ];
}

module _ (job : JobParts) (words : List ℕ) (pushers : List Pusher) (records : List Recorded) (g : IsSetup (setup_of job)) (is : IsJob job) (first : StandsFirst (setup_of job) words)
    (ps : AreFirstPushers job.program (length job.program.sources) pushers) (rs : AreFirstRecords job (length job.charges) records) where
  abbrev Fields : Board
  Fields = record { words = words; kernel = first_kernel; rows = map row_in pushers; charges = map charge_in records; begun = 0 }

  pub first_fields : Fields ≡ first_board (setup_of job) words (length job.charges)
  first_fields = λ i. record {
    words = words;
    kernel = first_kernel;
    rows = map_same row_in first_row pushers (length job.program.sources) no_pusher ps.length_is (λ k lt. ap row_in (ps.each k lt)) i;
    charges = map_same charge_in (not_begun (length job.program.sources)) records (length job.charges) none_recorded rs.length_is (λ k lt. (rs.each k lt).charge) i;
    begun = 0;
  }

  record_at : (k : ℕ) → k < length job.charges → (get_or records k none_recorded).charge ≡ not_begun (length job.program.sources)
  record_at k lt = (rs.each k lt).charge

  first_records_are : AreRecords job 0 0 records
  first_records_are = record {
    counts = subst (λ (c : ChargeRecord). CanCount 0 c) (sym (record_at 0 (let e = is.charges.least in omega arith)))
        (record { kernel = omega arith; sources = λ i. let none = nothing_counted (length job.program.sources) i in omega arith; ticks = omega arith });
    has_room = omega arith;
    later = λ k le lt. (rs.each k lt).room;
    whole = λ k lt. (rs.each k lt).whole;
    unused = λ k le lt. record_at k lt;
    steps = λ k lt. ap (λ (c : ChargeRecord). length c.source_steps) (record_at k lt) ∙ length-replicate {A = ℕ} (length job.program.sources) 0;
  }

  pub first_core : (l : Layout) → IsLayout job.program l → IsCore job l Fields 0 pushers records
  first_core l layout = record {
    is_setup = g;
    layout_is = layout;
    rows = refl;
    machines = λ i lt. record { port = ap (λ (p : Pusher). p.port) (ps.each i lt); right = right_port job g.accepted i lt };
    holds = subst (λ b. Holds (setup_of job) (length job.charges) b) (sym first_fields) (first_holds (setup_of job) words (length job.charges) g first);
    settling = subst (λ b. Settles (setup_of job) b) (sym first_fields) (first_settles (setup_of job) words (length job.charges));
    range = let turns = turns_few job 0 is in let few = is.charges.count in record {
      clock = let half = clock_half job.program job.readings job.start is.start in omega arith;
      counts = lasts_less (2 ^ 32 - 1) (0 + turns_from job 0) (first_of job) (omega arith) g.start.counts;
      turns = omega arith;
    };
    charges = refl;
    records_are = first_records_are;
  }
