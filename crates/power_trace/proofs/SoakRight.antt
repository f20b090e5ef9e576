-- A generated job is within the limits of jobs.
use Rattle.power_trace.proofs.Common.{◌≡◌, None, sym, ◌∙◌, ℕ, zero, suc, ◌+◌, ◌*◌, ◌^◌, ◌<◌, ◌≤◌, [], ◌∷◌, length, refl, arith, length-append, All, All-nil, All-push, All-from_recursion, sum_by_push, Item, Charge, JobParts, AreReadings, IsOnBoard, IsRightCharge, item_turns, charge_turns, AreCharges, IsJob, draw, drawn_items, drawn_charge, last_charge, soak_readings, soak_charges, soak_program}
use Rattle.std.proofs.lemmas.Option.{none-some}
use Rattle.std.proofs.lemmas.Nat.{mod_below, shr_below}
use Rattle.prog_check.specs.Accepted.{IsAccepted}
use Rattle.power_trace.specs.Soak.{state_after, draws, drawn_charges}
use Rattle.ink_base.specs.declared.limits.TheConstants as limits

draw_below : (x n : ℕ) → draw x n < 2 ^ 16
unfolding state_after
draw_below x n = shr_below (state_after x (suc n)) 16 16 (mod_below _ (2 ^ 32) (omega arith))

length-draws : (x first n : ℕ) → length (draws x first n) ≡ n
unfolding draws
length-draws x first zero = refl
length-draws x first (suc n) = omega (arith, length-append (draws x first n) (draw x (first + n) ∷ []), length-draws x first n)

draws_below : (x first n : ℕ) → All (λ value. value < 2 ^ 32) (draws x first n)
unfolding draws
draws_below x first zero = All-nil (λ value. value < 2 ^ 32)
draws_below x first (suc n) =
    let small = draw_below x (first + n) in
    All-push (λ value. value < 2 ^ 32) (draws x first n) (draw x (first + n)) (draws_below x first n) (omega arith)

draws_right : (x first n : ℕ) → n ≤ limits.READINGS → AreReadings (draws x first n)
draws_right x first n le = record { count = omega (arith, length-draws x first n); below = draws_below x first n }

readings_right : (x : ℕ) → All AreReadings (soak_readings x)
readings_right x = All-from_recursion AreReadings (soak_readings x) (draws_right x 0 500 (omega arith), (draws_right x 500 500 (omega arith), tt))

charge_right : (x first : ℕ) → IsRightCharge 2 (drawn_charge x first)
charge_right x first =
    let below = mod_below (draw x first) 8 (omega arith) in
    record {
      off = omega arith;
      actors = All-from_recursion (λ (item : Item). IsOnBoard 2 item.actor) (drawn_items x first) (omega arith, (tt, (omega arith, (tt, tt))));
    }

last_right : IsRightCharge 2 last_charge
last_right = record {
  off = omega arith;
  actors = All-from_recursion (λ (item : Item). IsOnBoard 2 item.actor) last_charge.items (omega arith, (omega arith, (tt, tt)));
}

-- the greatest counts are 15, 511, 15 and 3
turns_le : (x first : ℕ) → item_turns (drawn_items x first) ≤ 544
turns_le x first =
    let a = mod_below (draw x (first + 1)) 16 (omega arith) in
    let b = mod_below (draw x (first + 2)) 512 (omega arith) in
    let c = mod_below (draw x (first + 3)) 16 (omega arith) in
    let d = mod_below (draw x (first + 4)) 4 (omega arith) in
    omega arith

length-drawn_charges : (x n : ℕ) → length (drawn_charges x n) ≡ n
unfolding drawn_charges
length-drawn_charges x zero = refl
length-drawn_charges x (suc n) = omega (arith, length-append (drawn_charges x n) (drawn_charge x (1000 + 5 * n) ∷ []), length-drawn_charges x n)

drawn_right : (x n : ℕ) → All (IsRightCharge 2) (drawn_charges x n)
unfolding drawn_charges
drawn_right x zero = All-nil (IsRightCharge 2)
drawn_right x (suc n) = All-push (IsRightCharge 2) (drawn_charges x n) (drawn_charge x (1000 + 5 * n)) (drawn_right x n) (charge_right x (1000 + 5 * n))

drawn_turns_le : (x n : ℕ) → charge_turns (drawn_charges x n) ≤ 544 * n
unfolding drawn_charges
drawn_turns_le x zero = omega arith
drawn_turns_le x (suc n) =
    let more = sum_by_push (λ (charge : Charge). item_turns charge.items) (drawn_charges x n) (drawn_charge x (1000 + 5 * n)) in
    omega (arith, more, drawn_turns_le x n, turns_le x (1000 + 5 * n))

charges_right : (x : ℕ) → AreCharges 2 (soak_charges x)
charges_right x =
    let count = length-append (drawn_charges x 200) (last_charge ∷ []) in
    let turns = sum_by_push (λ (charge : Charge). item_turns charge.items) (drawn_charges x 200) last_charge in
    record {
      least = omega (arith, count);
      count = omega (arith, count, length-drawn_charges x 200);
      right = All-push (IsRightCharge 2) (drawn_charges x 200) last_charge (drawn_right x 200) last_right;
      turns = omega (arith, turns, drawn_turns_le x 200);
    }

pub soak_right : (x : ℕ) (job : JobParts) → IsAccepted job.program → job.program ≡ soak_program → job.readings ≡ soak_readings x → job.charges ≡ soak_charges x → job.start ≡ None → IsJob job
soak_right x job accepted program readings charges none = record {
  accepted = accepted;
  sources = rw (program, readings) refl;
  readings = rw readings (readings_right x);
  charges = rw (program, charges) (charges_right x);
  start = λ s is. absurd (none-some s (sym none ∙ is));
}
