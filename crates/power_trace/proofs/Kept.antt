-- The readings of a section are within the limits, one list for each source.
use Rattle.power_trace.proofs.Common.{◌≡◌, ℕ, ◌<◌, ◌≤◌, ◌^◌, List, [], ◌∷◌, ◌++◌, length, get_or, set, Option, Some, None, Result, Ok, Err, ap, ◌∙◌, subst, inl, inr, arith, length-append, if◌then◌else◌, replicate, nat_lt, nat_le, ◌==◌, codes, All, cases_Bool, leb-true, ltb-true, All-push, All-set, All-replicate, length-set, Word, Line, Cause, OverLimit, JobFault, ◌>>=◌, ◌>>◌, number_of, word_in, words_in, up_to, found, index_of, below, source_of, next_header, section_in, value_in, AreReadings}
use Rattle.std.proofs.lemmas.List.{length-replicate}
use Rattle.ink_base.specs.declared.limits.TheConstants as limits
use Rattle.power_trace.specs.Sensors.{sensor_line, sensors_in}
use Rattle.power_trace.proofs.Inverted.{bound, bound_line, tested, words_keep, section_keeps}

pub up_to-le : (greatest : ℕ) (w : Word) (n : ℕ) → up_to greatest w ≡ Ok n → n ≤ greatest
up_to-le greatest w n h =
    let f : ℕ → Result ℕ Cause = λ n. if nat_le n greatest then Ok n else Err OverLimit in
    let read = bound (number_of w) f n h in
    let t = tested (nat_le read.0 greatest) read.0 n OverLimit read.2 in
    omega (arith, leb-true _ _ t.0)

value_keeps : (values : List ℕ) (w : Word) (next : List ℕ) → AreReadings values → value_in values w ≡ Ok next → AreReadings next
value_keeps values w next are h =
    let f : ℕ → Result (List ℕ) Cause = λ value. if nat_lt (length values) limits.READINGS then Ok (values ++ value ∷ []) else Err OverLimit in
    let read = bound (up_to 4294967295 w) f next h in
    let t = tested (nat_lt (length values) limits.READINGS) (values ++ read.0 ∷ []) next OverLimit read.2 in
    let more : AreReadings (values ++ read.0 ∷ []) = record {
      count = omega (arith, ltb-true _ _ t.0, length-append values (read.0 ∷ []));
      below = All-push (λ v. v < 2 ^ 32) values read.0 are.below (omega (arith, up_to-le 4294967295 w read.0 read.1));
    } in
    subst AreReadings t.1 more

below_is : (count : ℕ) (o : Option ℕ) (i : ℕ) → below count o ≡ Some i → i < count
below_is count None i h = absurd (cc)
below_is count (Some n) i h =
    elim (cases_Bool (nat_lt n count)) [
      | inl lt ↦ let k = rw lt at h in let same : n ≡ i = cc in omega (arith, ltb-true _ _ lt)
      | inr ge ↦ let k = rw ge at h in absurd (cc)
    ]

pub source_below : (count : ℕ) (w : Word) (i : ℕ) → source_of count w ≡ Some i → i < count
source_below count [] i h = absurd (cc)
source_below count (b ∷ digits) i h =
    elim (cases_Bool (b == 83)) [
      | inl is ↦ below_is count (index_of digits) i (rw is at h)
      | inr other ↦ let k = rw other at h in absurd (cc)
    ]

pub found_is : {X : Type 0} (o : Option X) (x : X) → found o ≡ Ok x → o ≡ Some x
found_is None x h = absurd (cc)
found_is (Some y) x h = let same : y ≡ x = cc in ap Some same

-- one list for each source, each within the limits
pub record AreSensors (sources : ℕ) (readings : List (List ℕ)) : Type 0 where
  pub lists : length readings ≡ sources
  pub each : All AreReadings readings

set_keeps : (sources : ℕ) (readings : List (List ℕ)) (i : ℕ) (values : List ℕ) (next : List (List ℕ)) → AreSensors sources readings → AreReadings values → set readings i values ≡ next → AreSensors sources next
set_keeps sources readings i values next are right same =
    let kept : AreSensors sources (set readings i values) = record {
      lists = length-set readings i values ∙ are.lists;
      each = All-set AreReadings readings i values right are.each;
    } in
    subst (AreSensors sources) same kept

line_keeps : (sources : ℕ) (readings : List (List ℕ)) (number : ℕ) (ws : List Word) (next : List (List ℕ)) → AreSensors sources readings → sensor_line readings number ws ≡ Ok next → AreSensors sources next
unfolding sensor_line
line_keeps sources readings number ws next are h =
    let store : ℕ → List ℕ → Result (List (List ℕ)) Cause = λ i values. Ok (set readings i values) in
    let values : List Word → ℕ → Result (List (List ℕ)) Cause = λ rest i. words_in value_in (get_or readings i []) rest >>= store i in
    let line : Word × List Word → Result (List (List ℕ)) Cause = λ w. found (source_of (length readings) w.0) >>= values w.1 in
    let first = bound (word_in ws) line next h in
    let source = bound (found (source_of (length readings) first.0.0)) (values first.0.1) next first.2 in
    let read = bound (words_in value_in (get_or readings source.0 []) first.0.1) (store source.0) next source.2 in
    let lt = source_below (length readings) first.0.0 source.0 (found_is _ source.0 source.1) in
    let kept = words_keep AreReadings value_in value_keeps first.0.1 (get_or readings source.0 []) read.0 (are.each source.0 [] lt) read.1 in
    let same : set readings source.0 read.0 ≡ next = cc in
    set_keeps sources readings source.0 read.0 next are kept same

start : (sources : ℕ) → AreSensors sources (replicate sources [])
start sources = record {
  lists = length-replicate sources [];
  each = All-replicate AreReadings sources [] (record { count = omega arith; below = λ k d lt. absurd (omega arith) });
}

-- the section's readings are within the limits
pub sensors_keep : (count sources : ℕ) (ls : List Line) (x : List (List ℕ) × List Line) → sensors_in count sources ls ≡ Ok x → AreSensors sources x.0
unfolding sensors_in
sensors_keep count sources ls x h =
    let close : List (List ℕ) × List Line → Result (List (List ℕ) × List Line) JobFault = λ y. next_header count (codes "[power]") y.1 >> (λ e. Ok y) in
    let read = bound_line (section_in count sensor_line (replicate sources []) ls) close x h in
    let closed = bound_line (next_header count (codes "[power]") read.0.1) (λ e. Ok read.0) x read.2 in
    let same : read.0 ≡ x = cc in
    subst (λ (y : List (List ℕ) × List Line). AreSensors sources y.0) same (section_keeps (AreSensors sources) sensor_line (line_keeps sources) count ls (replicate sources []) read.0 (start sources) read.1)
