-- A scan that finds words in the ranges of their places stays within its own.
use Rattle.priority_sched.proofs.Common.{◌≡◌, ◌≢◌, ℕ, ◌+◌, ◌-◌, ◌*◌, ◌/◌, ◌%◌, ◌^◌, ◌<◌, ◌≤◌, length, Option, Some, None, arith, refl, ap, ◌∙◌, sym, inl, inr, subst, ◌==◌, nat_lt, nat_le, eqb-true, ne_eqb, lt-ltb, le-ltb, ForSome, cases_Bool, cases_eq, cases_lt, same_Some, ThreadId, TaskId, Event, Program, slot_in, IsAccepted, pipe_def, timer_def, Chain, Idle, ScanAt, Clock, Commit, Running, Finished, Origin, Value, First, Slot, Taken, Writer, Written, Item, Timer, Picked, Quiet, ScanMachine, next_below, priority_of, chain_pick, event_at, is_reader, is_owner, next_pipe, next_timer, scan_next, at_pipe, at_timer, after_finished, after_value, after_look, after_timer, scan_wants, scan_takes, IsScanRow, IsScan, origin_of-origin_word, running_of, origin_of, HasOriginBits}
use Rattle.ink_base.specs.declared.limits.TheConstants as limits
use Rattle.ink_base.specs.declared.event.Origin as origin
use Rattle.ink_base.specs.declared.event.Origin.TheVariants as origins
use Rattle.push_core.specs.Table.{greatest_tail}
use Rattle.push_core.specs.declared.slot.Slot as slot
use Rattle.push_core.specs.declared.slot.Slot.TheVariants as slots
use Rattle.never_cut.specs.Ranges.{IsOwnOrigin, IsTaskOf, IsSlotOf, IsAnswerTo, IsPickOf}
use Rattle.priority_sched.specs.Reached.{scan_loaded, IsChainOf, IsRowOf, IsScanOf}
use Rattle.fram_words.specs.Header as header
use Rattle.priority_sched.proofs.Searches.{IsSearched, searched}
use Rattle.fram_words.proofs.Addresses.{whole_word}

-- of a program's pipe or timer there are at most eight
few_pipes : (program : Program) (q : ℕ) → IsAccepted program → q < length program.pipes → q < limits.PIPES
few_pipes program q accepted known = let most : length program.pipes ≤ limits.PIPES = accepted.counts.pipes in omega arith

few_timers : (program : Program) (j : ℕ) → IsAccepted program → j < length program.timers → j < limits.TIMERS
few_timers program j accepted known = let most : length program.timers ≤ limits.TIMERS = accepted.counts.timers in omega arith

-- what the registers have from the words before
abbrev IsIn : Program → ScanMachine → Type 0
IsIn program scan = (scan.time < 2 ^ 47) × IsRowOf program scan.thread.0 scan.at

to_next : (program : Program) (thread : ThreadId) (time : ℕ) (next : Option ThreadId) → time < 2 ^ 47 → IsIn program (scan_next thread time next)
to_next program thread time None early = (early, tt)
to_next program thread time (Some next) early = (early, tt)

to_timer_by : (program : Program) (thread : ThreadId) (time : ℕ) (idle : Idle) (from count : ℕ) (found : Option ℕ) → time < 2 ^ 47 → idle.position ≤ greatest_tail →
    IsSearched (is_owner program thread.0) from count found → IsIn program (at_timer program thread time idle found)
to_timer_by program thread time idle from count (Some j) early low h = (early, (low, eqb-true (timer_def program j).thread.0 thread.0 h.2))
to_timer_by program thread time idle from count None early low h = to_next program thread time (next_below program (priority_of program thread.0)) early

to_timer : (program : Program) (thread : ThreadId) (time : ℕ) (idle : Idle) (from : ℕ) → time < 2 ^ 47 → idle.position ≤ greatest_tail →
    IsIn program (at_timer program thread time idle (next_timer program thread.0 from))
to_timer program thread time idle from early low =
    to_timer_by program thread time idle from (length program.timers - from) (next_timer program thread.0 from) early low
    (searched (is_owner program thread.0) from (length program.timers - from))

to_pipe_by : (program : Program) (thread : ThreadId) (time : ℕ) (idle : Idle) (from count : ℕ) (found : Option ℕ) → time < 2 ^ 47 → idle.position ≤ greatest_tail →
    IsSearched (is_reader program thread.0) from count found → IsIn program (at_pipe program thread time idle found)
to_pipe_by program thread time idle from count (Some q) early low h = (early, (low, eqb-true (pipe_def program q).reader.0 thread.0 h.2))
to_pipe_by program thread time idle from count None early low h = to_timer program thread time idle 0 early low

to_pipe : (program : Program) (thread : ThreadId) (time : ℕ) (idle : Idle) (from : ℕ) → time < 2 ^ 47 → idle.position ≤ greatest_tail →
    IsIn program (at_pipe program thread time idle (next_pipe program thread.0 from))
to_pipe program thread time idle from early low =
    to_pipe_by program thread time idle from (length program.pipes - from) (next_pipe program thread.0 from) early low
    (searched (is_reader program thread.0) from (length program.pipes - from))

-- the next task of a chain is one of the thread
running_row : (program : Program) (t word : ℕ) → (word ≢ 0 → IsTaskOf program t (word - 1)) → ForSome (running_of word) (λ task. IsTaskOf program t task.0)
running_row program t word h =
    elim (cases_eq word 0) [
      | inl none ↦ rw none (λ task e. absurd cc)
      | inr some ↦ rw (ne_eqb word 0 some) (λ task e. subst (λ (x : TaskId). IsTaskOf program t x.0) (same_Some _ _ e) (h some))
    ]

-- an event's numbers have the bits of its word
has_bits : (program : Program) (t : ℕ) (o : origin.Origin) → IsAccepted program → IsOwnOrigin program t o → HasOriginBits o
has_bits program t (origins.Source source count) accepted h =
    let few : length program.sources ≤ limits.SOURCES = accepted.counts.sources in
    let known : source.0 < length program.sources = h.0 in
    let low : count < 64 = h.2 in (omega arith, omega arith)
has_bits program t (origins.Pipe pipe item) accepted h = let few = few_pipes program pipe.0 accepted h.0 in (omega arith, h.2)
has_bits program t (origins.Timer timer deadline) accepted h = let few = few_timers program timer.0 accepted h.0 in (omega arith, h.2)

-- count and value of a slot's event have their bits
abbrev HasBits : Option slot.Slot → Type 0
HasBits None = Unit {0}
HasBits (Some (slots.Empty p)) = Unit {0}
HasBits (Some (slots.Full p source count value)) = (count < 64) × (value < 2 ^ 32)

slot_bits : (word : ℕ) → HasBits (slot_in word)
slot_bits word =
    elim (cases_Bool (word / 2 ^ 63 == 1)) [
      | inl full ↦ rw full ((let a : word / 2 ^ 32 % 2 ^ 6 < 64 = omega arith in a), (let b : word % 2 ^ 32 < 2 ^ 32 = omega arith in b))
      | inr other ↦ rw other (elim (cases_Bool (word % 2 ^ 42 == 0)) [ inl empty ↦ rw empty tt | inr none ↦ rw none tt ])
    ]

module _ (program : Program) (thread : ThreadId) (time : ℕ) (accepted : IsAccepted program) (known : thread.0 < length program.threads) (early : time < 2 ^ 47) where
  chain_in : (chain : Chain) (first : ℕ) (e : Event) → IsChainOf program thread.0 chain → IsOwnOrigin program thread.0 e.origin → e.value < 2 ^ 32 → first ≤ time →
      IsPickOf program (chain_pick thread time chain first e)
  chain_in chain first e own event value before = record {
    known = known;
    event = (event, value);
    task = λ task is. subst (λ (x : TaskId). IsTaskOf program thread.0 x.0) (same_Some _ _ is) own.0;
    first = before;
    time = early;
    position = own.1;
    taken = omega arith;
    due = λ idle. absurd cc;
  }

  value_in : (chain : Chain) (e : Event) (expires : Option ℕ) → IsChainOf program thread.0 chain → IsOwnOrigin program thread.0 e.origin → e.value < 2 ^ 32 →
      IsIn program (after_value thread time chain e expires)
  value_in chain e None own event value = (early, chain_in chain 0 e own event value (omega arith))
  value_in chain e (Some ticks) own event value = (early, (own, (event, value)))

  finished_in : (c p : ℕ) (running : Option TaskId) → ForSome running (λ task. IsTaskOf program thread.0 task.0) → p ≤ greatest_tail →
      IsIn program (after_finished thread time c p running)
  finished_in c p None row low = (early, low)
  finished_in c p (Some task) row low = (early, (row task refl, low))

  look_in : (c p n : ℕ) (found : Option slot.Slot) → p ≤ greatest_tail → IsSlotOf program thread.0 n found → HasBits found →
      IsIn program (after_look program thread time c p (event_at p found))
  look_in c p n None low h bits = absurd h
  look_in c p n (Some (slots.Empty q)) low h bits = to_pipe program thread time (record { commit_word = c; position = p }) 0 early low
  look_in c p n (Some (slots.Full q source count value)) low h bits =
      elim (cases_Bool (q == p)) [
        | inl here ↦ rw here (
          early,
          record {
            known = known;
            event = ((h.1, h.2, bits.0), bits.1);
            task = λ task e. absurd cc;
            first = omega arith;
            time = early;
            position = low;
            taken = omega arith;
            due = λ idle. tt;
          },
        )
        | inr other ↦ rw other (to_pipe program thread time (record { commit_word = c; position = p }) 0 early low)
      ]

  row_in : (at : ScanAt) (word : ℕ) → IsScanRow program at → IsRowOf program thread.0 at → IsAnswerTo program (scan_loaded time at) (scan_wants program thread.0 at) word →
      IsIn program (scan_takes program thread time at word)
  row_in Clock word fits row h = to_next program thread word (next_below program (limits.PRIORITY + 1)) h
  row_in Commit word fits row h = (early, tt)
  row_in (Running c) word fits row h = (early, running_row program thread.0 word (h.next refl))
  row_in (Finished c running) word fits row h = finished_in c word running row (h.finished refl)
  row_in (Origin chain) word fits row h =
      let found = h.origin refl refl in
      let back : origin_of word ≡ found.0 = ap origin_of found.1 ∙ origin_of-origin_word found.0 (has_bits program thread.0 found.0 accepted found.2) in
      (early, (row, subst (IsOwnOrigin program thread.0) (sym back) found.2))
  row_in (Value chain o) word fits row h =
      value_in chain (record { origin = o; value = word }) _ row.0 row.1 (h.value refl refl)
  row_in (First chain e) word fits row h = (early, chain_in chain word e row.0 row.1.0 row.1.1 (h.first refl))
  row_in (Slot c p) word fits row h = look_in c p _ (slot_in word) row h (slot_bits word)
  row_in (Taken idle pipe) word fits row h = (early, row)
  row_in (Writer w) word fits row h = (early, row)
  row_in (Written w c) word fits row h =
      elim (cases_Bool (nat_lt w.taken word)) [
        | inl more ↦ rw more (early, row)
        | inr none ↦ rw none (to_pipe program thread time w.idle (w.pipe.0 + 1) early row.0)
      ]
  row_in (Item w) word fits row h = (
    early,
    record {
      known = known;
      event = ((fits.0, row.1, fits.1), h);
      task = λ task e. absurd cc;
      first = omega arith;
      time = early;
      position = row.0;
      taken = fits.1;
      due = λ idle. tt;
    },
  )
  row_in (Timer idle timer) word fits row h = timer_in
    where
      low : word ≤ 2 ^ 48
      low = h.due timer.0 (few_timers program timer.0 accepted fits) (whole_word (header.due timer.0))

      timer_in : IsIn program (after_timer program thread time idle timer word)
      timer_in =
          elim (cases_lt 0 word) [
            | inl some ↦ rw (lt-ltb 0 word some) (
                elim (cases_Bool (nat_le (word - 1) time)) [
                  | inl due ↦ rw due (
                    early,
                    record {
                      known = known;
                      event = ((fits, row.1, (let below : word ≤ 2 ^ 48 = low in omega arith)), omega arith);
                      task = λ task e. absurd cc;
                      first = omega arith;
                      time = early;
                      position = row.0;
                      taken = omega arith;
                      due = λ idle. (some, low);
                    },
                  )
                  | inr not ↦ rw not (to_timer program thread time idle (timer.0 + 1) early row.0)
                ]
                )
            | inr off ↦ rw (le-ltb 0 word off) (to_timer program thread time idle (timer.0 + 1) early row.0)
          ]
  row_in (Picked pick) word fits row h = (early, row)
  row_in Quiet word fits row h = (early, tt)

-- the registers after a word in its range
pub scan_goes : (program : Program) (scan next : ScanMachine) (word : ℕ) → IsAccepted program → IsScanOf program scan →
    IsAnswerTo program (scan_loaded scan.time scan.at) (scan_wants program scan.thread.0 scan.at) word →
    next ≡ scan_takes program scan.thread scan.time scan.at word → IsScan program next → IsScanOf program next
scan_goes program scan next word accepted reached h is fits =
    let now = row_in program scan.thread scan.time accepted reached.fits.known reached.time scan.at word reached.fits.row reached.row h in
    let here : IsIn program next = subst (IsIn program) (sym is) now in
    record { fits = fits; time = here.0; row = here.1 }
