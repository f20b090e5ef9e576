-- The charges of a section are within the limits, and their actors are on the board.
use Rattle.power_trace.proofs.Common.{◌≡◌, ℕ, ◌+◌, ◌<◌, ◌≤◌, List, [], ◌∷◌, ◌++◌, length, take, Option, Some, None, Result, Ok, Err, refl, ap, subst, inl, inr, arith, length-append, if◌then◌else◌, nat_lt, nat_le, ◌&&◌, not, ◌==◌, codes, All, cases_Bool, and_parts, leb-true, ltb-true, All-push, sum_by-append, Word, Line, Cause, OverLimit, JobFault, ◌>>=◌, ◌>>◌, number_of, word_in, fixed_in, Item, Charge, words_in, source_of, actor_of, missing, section_in, known_actor, star_of, count_at, room_in, no_charges, IsOnBoard, IsRightCharge, item_turns, charge_turns, AreCharges}
use Rattle.std.specs.Option.{option_map}
use Rattle.std.specs.Str.{bytes_eq}
use Rattle.std.proofs.lemmas.Bool.Decides.{nat_tests}
use Rattle.ink_base.specs.declared.limits.TheConstants as limits
use Rattle.ink_base.specs.declared.actor.Actor.{Actor}
use Rattle.ink_base.specs.declared.actor.Actor.TheVariants.{Kernel, Source, Clock}
use Rattle.ink_base.specs.Checks.{number_in}
use Rattle.power_trace.specs.declared.charges.Charges.{Charges}
use Rattle.power_trace.specs.declared.charges.Turns.{Turns}
use Rattle.power_trace.specs.declared.tails.Tails.{Tails}
use Rattle.power_trace.specs.Tails.{allows, tail_header}
use Rattle.power_trace.specs.Power.{item_of, item_in, charge_line, power_end, power_in}
use Rattle.power_trace.proofs.Inverted.{bound, bound_line, in_line, tested, tested_not, words_keep, section_keeps}
use Rattle.power_trace.proofs.Kept.{source_below, found_is}

mapped : (sources : ℕ) (o : Option ℕ) (actor : Actor) → ((i : ℕ) → o ≡ Some i → i < sources) → option_map (λ i. Source (record { 0 = i })) o ≡ Some actor → IsOnBoard sources actor
mapped sources None actor below h = absurd (cc)
mapped sources (Some i) actor below h = let same : Source (record { 0 = i }) ≡ actor = cc in subst (IsOnBoard sources) same (below i refl)

on_board : (sources : ℕ) (w : Word) (actor : Actor) → actor_of sources w ≡ Some actor → IsOnBoard sources actor
on_board sources w actor h =
    elim (cases_Bool (bytes_eq w (codes "K"))) [
      | inl kernel ↦ let k = rw kernel at h in let same : Kernel ≡ actor = cc in subst (IsOnBoard sources) same tt
      | inr other ↦
          let k = rw other at h in
          elim (cases_Bool (bytes_eq w (codes "T"))) [
            | inl clock ↦ let l = rw clock at k in let same : Clock ≡ actor = cc in subst (IsOnBoard sources) same tt
            | inr source ↦ mapped sources (source_of sources w) actor (source_below sources w) (rw source at k)
          ]
    ]

item_right : (sources : ℕ) (w : Word) (item : Item) → item_of sources w ≡ Ok item → IsOnBoard sources item.actor
unfolding item_of
item_right sources w item h =
    let made : Actor → ℕ → Result Item Cause = λ actor count. Ok (record { actor = actor; count = count }) in
    let counted : Actor → Result Item Cause = λ actor. count_at w (star_of w) >>= made actor in
    let named = bound (known_actor sources (take (star_of w) w)) counted item h in
    let count = bound (count_at w (star_of w)) (made named.0) item named.2 in
    let made_is : ◌≡◌ {A = Item} (record { actor = named.0; count = count.0 }) item = cc in
    subst (λ (x : Item). IsOnBoard sources x.actor) made_is (on_board sources (take (star_of w) w) named.0 (found_is _ named.0 named.1))

-- the items of a charge, where so many turns stand before it
record AreTurns (sources before : ℕ) (t : Turns) : Type 0 where
  pub sum : before + item_turns t.items ≡ t.turns
  pub actors : All (λ (item : Item). IsOnBoard sources item.actor) t.items
  pub within : t.turns ≤ limits.TURNS

item_keeps : (sources before : ℕ) (t : Turns) (w : Word) (next : Turns) → AreTurns sources before t → item_in sources t w ≡ Ok next → AreTurns sources before next
unfolding item_in
item_keeps sources before t w next are h =
    let more : Item → Turns = λ (item : Item). record { items = t.items ++ item ∷ []; turns = t.turns + item.count } in
    let f : Item → Result Turns Cause = λ (item : Item). if nat_le (t.turns + item.count) limits.TURNS then Ok (more item) else Err OverLimit in
    let read = bound (item_of sources w) f next h in
    let ok = tested (nat_le (t.turns + read.0.count) limits.TURNS) (more read.0) next OverLimit read.2 in
    let kept : AreTurns sources before (more read.0) = record {
      sum = omega (arith, are.sum, sum_by-append (λ (item : Item). item.count) t.items (read.0 ∷ []));
      actors = All-push (λ (item : Item). IsOnBoard sources item.actor) t.items read.0 are.actors (item_right sources w read.0 read.1);
      within = leb-true _ _ ok.0;
    } in
    subst (AreTurns sources before) ok.1 kept

number_le : (greatest : ℕ) (ws : List Word) (x : ℕ × List Word) → number_in 0 greatest ws ≡ Ok x → x.0 ≤ greatest
unfolding number_in
number_le greatest ws x h =
    let made : List Word → ℕ → Result (ℕ × List Word) Cause = λ rest n. if nat_le 0 n && nat_le n greatest then Ok (n, rest) else Err OverLimit in
    let read : Word × List Word → Result (ℕ × List Word) Cause = λ w. number_of w.0 >>= made w.1 in
    let first = bound (word_in ws) read x h in
    let number = bound (number_of first.0.0) (made first.0.1) x first.2 in
    let ok = tested (nat_le 0 number.0 && nat_le number.0 greatest) (number.0, first.0.1) x OverLimit number.2 in
    subst (λ (y : ℕ × List Word). y.0 ≤ greatest) ok.1 (leb-true _ _ (and_parts _ _ ok.0).1)

-- the charges so far
record AreCharged (board : ℕ) (c : Charges) : Type 0 where
  pub sources : c.sources ≡ board
  pub lines : length c.lines ≡ length c.list
  pub count : length c.list ≤ limits.CHARGES
  pub right : All (IsRightCharge board) c.list
  pub sum : charge_turns c.list ≡ c.turns
  pub within : c.turns ≤ limits.TURNS

-- one more charge at a line, and the turns of all
abbrev with_charge : Charges → (number off : ℕ) → Turns → Charges
with_charge c number off t = record c { list = c.list ++ record { off = off; items = t.items } ∷ []; lines = c.lines ++ number ∷ []; turns = t.turns }

charge_more : (sources number off : ℕ) (c : Charges) (t : Turns) (next : Charges) → AreCharged sources c → length c.list < limits.CHARGES → off ≤ limits.TICKS → AreTurns sources c.turns t → with_charge c number off t ≡ next
    → AreCharged sources next
charge_more sources number off c t next are room within turns same =
    let charge : Charge = record { off = off; items = t.items } in
    let more = length-append c.list (charge ∷ []) in
    let kept : AreCharged sources (with_charge c number off t) = record {
      sources = are.sources;
      lines = omega (arith, are.lines, more, length-append c.lines (number ∷ []));
      count = omega (arith, more);
      right = All-push (IsRightCharge sources) c.list charge are.right (record { off = omega arith; actors = turns.actors });
      sum = omega (arith, are.sum, turns.sum, sum_by-append (λ (x : Charge). item_turns x.items) c.list (charge ∷ []));
      within = turns.within;
    } in
    subst (AreCharged sources) same kept

charge_keeps : (sources : ℕ) (c : Charges) (number : ℕ) (ws : List Word) (next : Charges) → AreCharged sources c → charge_line c number ws ≡ Ok next → AreCharged sources next
unfolding charge_line
charge_keeps sources c number ws next are h =
    let begun : Turns = record { items = []; turns = c.turns } in
    let made : ℕ → Turns → Result Charges Cause = λ off t. Ok (with_charge c number off t) in
    let listed : ℕ × List Word → Result Charges Cause = λ off. words_in (item_in c.sources) begun off.1 >>= made off.0 in
    let timed : List Word → Unit {0} → Result Charges Cause = λ rest room. number_in 0 limits.TICKS rest >>= listed in
    let counted : List Word → Result Charges Cause = λ rest. room_in c >>= timed rest in
    let first = bound (fixed_in (codes "charge") ws) counted next h in
    let room = bound (room_in c) (timed first.0) next first.2 in
    let off = bound (number_in 0 limits.TICKS first.0) listed next room.2 in
    let turns = bound (words_in (item_in c.sources) begun off.0.1) (made off.0.0) next off.2 in
    let roomy = tested (nat_lt (length c.list) limits.CHARGES) tt room.0 OverLimit room.1 in
    let none : AreTurns c.sources c.turns begun = record { sum = omega arith; actors = λ k d lt. absurd (omega arith); within = are.within } in
    let kept = words_keep (AreTurns c.sources c.turns) (item_in c.sources) (item_keeps c.sources c.turns) off.0.1 begun turns.0 none turns.1 in
    let board = subst (λ (n : ℕ). AreTurns n c.turns turns.0) are.sources kept in
    let same : with_charge c number off.0.0 turns.0 ≡ next = cc in
    charge_more sources number off.0.0 c turns.0 next are (ltb-true _ _ roomy.0) (number_le limits.TICKS first.0 off.0 off.1) board same

-- charges within the limits, each with a line
pub record KeepsCharges (sources : ℕ) (c : Charges) : Type 0 where
  pub charges : AreCharges sources c.list
  pub lines : length c.lines ≡ length c.list

some_kept : (sources : ℕ) (c next : Charges) → AreCharged sources c → 0 < length c.list → c ≡ next → KeepsCharges sources next
some_kept sources c next are some same =
    let right : AreCharges sources c.list = record {
      least = omega (arith, some);
      count = are.count;
      right = are.right;
      turns = omega (arith, are.sum, are.within);
    } in
    subst (KeepsCharges sources) same (record { charges = right; lines = are.lines })

tail_keeps : (tails : Tails) (charges : ℕ) (ws : List Word) (x : Unit {0}) → tail_header tails charges ws ≡ Ok x → 0 < charges
unfolding tail_header
tail_keeps tails charges [] x h = absurd (cc)
tail_keeps tails charges (w ∷ ws) x h =
    elim (cases_Bool (not (allows tails w))) [
      | inl other ↦ let k = rw other at h in absurd (cc)
      | inr allowed ↦
          let k = rw allowed at h in
          elim (cases_Bool (charges == 0)) [
            | inl none ↦ let l = rw none at k in absurd (cc)
            | inr some ↦ grind (arith, nat_tests, some)
          ]
    ]

end_keeps : (count : ℕ) (tails : Tails) (charges : ℕ) (ls : List Line) (x : Unit {0}) → power_end count tails charges ls ≡ Ok x → 0 < charges
unfolding power_end
end_keeps count tails charges [] x h =
    let some = tested_not (charges == 0) tt x (missing count []) h in
    grind (arith, nat_tests, some.0)
end_keeps count tails charges (line ∷ ls) x h = tail_keeps tails charges line.words x (in_line line.number (tail_header tails charges line.words) x h)

-- the section's charges are within the limits, and each has its line
pub power_keep : (count : ℕ) (tails : Tails) (sources : ℕ) (ls : List Line) (x : Charges × List Line) → power_in count tails sources ls ≡ Ok x → KeepsCharges sources x.0
unfolding power_in
power_keep count tails sources ls x h =
    let close : Charges × List Line → Result (Charges × List Line) JobFault = λ y. power_end count tails (length y.0.list) y.1 >> (λ e. Ok y) in
    let read = bound_line (section_in count charge_line (no_charges sources) ls) close x h in
    let closed = bound_line (power_end count tails (length read.0.0.list) read.0.1) (λ e. Ok read.0) x read.2 in
    let same : read.0 ≡ x = cc in
    let none : AreCharged sources (no_charges sources) = record { sources = refl; lines = refl; count = omega arith; right = λ k d lt. absurd (omega arith); sum = refl; within = omega arith } in
    let kept = section_keeps (AreCharged sources) charge_line (charge_keeps sources) count ls (no_charges sources) read.0 none read.1 in
    some_kept sources read.0.0 x.0 kept (end_keeps count tails (length read.0.0.list) read.0.1 closed.0 closed.1) (ap (λ (y : Charges × List Line). y.0) same)
