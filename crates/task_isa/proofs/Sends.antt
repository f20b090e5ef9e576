-- The room of each pipe after a send.
use Rattle.task_isa.proofs.Common.{inl, inr, ◌≡◌, ℕ, ◌+◌, ◌-◌, ◌<◌, ◌≤◌, true, false, cond, List, [], ◌∷◌, ◌++◌, length, refl, sym, ◌∙◌, ap, arith, nat_lt, slice_index, slice_set, get_or-set_other, ◌==◌, lt-ltb, eq-eqb, cases_eq, Sends, Run, Given, bit_of, Room, sent_to, has_room, KeepsRoom, Makes}
use Rattle.std.proofs.lemmas.List.Sums.{sum_by-append}
use Rattle.std.proofs.lemmas.Grind.{get_or-set_at}
use Rattle.std.proofs.lemmas.Bool.Decides.{nat_tests}
use Rattle.task_isa.specs.declared.flow.Flow.TheVariants as flows
use Rattle.task_isa.specs.declared.sent.Sent.{Sent}

sent_to-push : (q : ℕ) (sends : List Sent) (s : Sent) → sent_to q (sends ++ s ∷ []) ≡ sent_to q sends + bit_of (s.pipe.0 == q)
sent_to-push q sends s =
    rw (sum_by-append (λ (x : Sent). cond (x.pipe.0 == q) 1 0) sends (s ∷ [])) (omega arith)

-- the run's own count of the room tells whether there is room
pub has_room_by : (room : Room) (r : Run) (q : ℕ) → KeepsRoom room.pipes r → has_room room q r.sends ≡ nat_lt 0 (slice_index r.room q)
has_room_by room r q keeps = let left = keeps.left q in grind (arith, nat_tests)

-- a pipe's room after a send: one less for the pipe that it goes to
room_after : (room : Room) (r : Run) (q a v k : ℕ) → KeepsRoom room.pipes r → q < length r.room → 0 < slice_index r.room q →
    slice_index (slice_set r.room q (slice_index r.room q - 1)) k ≡ slice_index room.pipes k - sent_to k (r.sends ++ record { pipe = record { 0 = q }; value = v } ∷ [])
room_after room r q a v k keeps there free =
    let left = keeps.left k in
    let more = sent_to-push k r.sends (record { pipe = record { 0 = q }; value = v }) in
    elim (cases_eq k q) [
      | inl same ↦
          let here = get_or-set_at r.room q k (slice_index r.room q - 1) 0 same there in
          let one : bit_of (q == k) ≡ 1 = ap bit_of (eq-eqb q k (sym same)) in
          let was : slice_index r.room q ≡ slice_index r.room k = ap (λ n. slice_index r.room n) (sym same) in
          omega (arith, here, one, was, more, left)
      | inr other ↦
          let there = get_or-set_other r.room q k (slice_index r.room q - 1) 0 other in
          let apart : (q == k) ≡ false = grind (arith, nat_tests) in
          let zero : bit_of (q == k) ≡ 0 = ap bit_of apart in
          omega (arith, there, zero, more, left)
    ]

-- the run after a send
abbrev pub sent : Run → (q a v : ℕ) → Run
sent r q a v =
    record r {
      at = r.at + 1;
      registers = slice_set r.registers a 1;
      room = slice_set r.room q (slice_index r.room q - 1);
      sends = r.sends ++ record { pipe = record { 0 = q }; value = v } ∷ [];
    }

pub makes_send : (given : Given) (room : Room) (r : Run) (q a v : ℕ) → KeepsRoom room.pipes r → q < length r.room → 0 < slice_index r.room q →
    Makes (Sends q a v) given room r (sent r q a v) flows.GoesOn
makes_send given room r q a v keeps there free =
    let has : has_room room q r.sends ≡ true = has_room_by room r q keeps ∙ lt-ltb 0 (slice_index r.room q) free in
    record {
      stepped = rw has refl;
      stays = tt;
      room_kept = record { left = λ k. room_after room r q a v k keeps there free };
    }

pub makes_no_send : (given : Given) (room : Room) (r : Run) (q a v : ℕ) → KeepsRoom room.pipes r → slice_index r.room q ≤ 0 →
    Makes (Sends q a v) given room r (record r { at = r.at + 1; registers = slice_set r.registers a 0 }) flows.GoesOn
makes_no_send given room r q a v keeps none =
    let has : has_room room q r.sends ≡ false = let by = has_room_by room r q keeps in grind (arith, nat_tests) in
    record {
      stepped = rw has refl;
      stays = tt;
      room_kept = record { left = keeps.left };
    }
