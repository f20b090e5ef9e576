-- A packet that is read has the bytes that it was read from, and what was written is read again.
use Rattle.ink_radio.proofs.Common.{◌≡◌, ◌≢◌, ◌⊎◌, inl, inr, ℕ, suc, ◌+◌, ◌^◌, ◌<◌, ◌≤◌, Bool, true, false, cond, eqb, ltb, List, [], ◌∷◌, ◌++◌, length, get_or, take, drop, Option, Some, None, IfSome, refl, sym, ap, subst, ◌∙◌, arith}
use Rattle.std.specs.Int.{Width, w32, w64, byte_len, from_be_bytes, to_be_bytes}
use Rattle.std.proofs.lemmas.Bool.{cases_lt, eqb-true, ltb-false, ltb-true, le-ltb, lt-ltb}
use Rattle.std.proofs.lemmas.List.{append-nil, take_at, drop_at, take-append-drop, length-append, length-take, get_or-drop, get_or-take, get_or_past}
use Rattle.std.proofs.lemmas.Nat.{be_bytes_4, be_bytes_8, from_be_bytes-to_be_bytes_4, from_be_bytes-to_be_bytes_8}
use Rattle.ink_base.specs.declared.ids.ThreadId.{ThreadId}
use Rattle.ink_base.specs.declared.limits.TheConstants as limits
use Rattle.ink_base.specs.declared.output.Output.{Output}
use Rattle.ink_radio.specs.declared.packet.Packet.{Packet}
use Rattle.ink_radio.specs.declared.packet.Packet.TheVariants.{Data, Ack}
use Rattle.ink_radio.specs.Packets.{IsOutput, IsPacket, output_bytes, packet_bytes}
use Rattle.ink_radio.specs.kept.Decoding.{◌>>=◌, number_at, thread_at, ended, output_at, data_at, ack_at, packet_in}

-- ---- bytes, and steps of a reading

abbrev pub IsBytes : List ℕ → Type 0
IsBytes bytes = (i : ℕ) → get_or bytes i 0 < 256

IsBytes-drop : (n : ℕ) (bytes : List ℕ) → IsBytes bytes → IsBytes (drop n bytes)
IsBytes-drop n bytes h i = rw get_or-drop (h (n + i))

IsBytes-take : (n : ℕ) (bytes : List ℕ) → IsBytes bytes → IsBytes (take n bytes)
IsBytes-take n bytes h i =
    elim (cases_lt i n) [
      | inl lt ↦ rw (get_or-take n bytes i 0 lt) (h i)
      | inr le ↦ rw (get_or_past (take n bytes) i 0 (omega (arith, length-take n bytes))) (omega arith)
    ]

IsBytes-rest : (b : ℕ) (bytes : List ℕ) → IsBytes (b ∷ bytes) → IsBytes bytes
IsBytes-rest b bytes h i = h (suc i)

-- the value of a step that gave one
bind_some : {A B : Type 0} (o : Option A) (f : A → Option B) (y : B) → (o >>= f) ≡ Some y → (x : A) × (o ≡ Some x) × (f x ≡ Some y)
bind_some (Some x) f y e = (x, refl, e)
bind_some None f y e = absurd cc

-- a step that gives a value, and what follows it
goes_on : {A B : Type 0} (o : Option A) (f : A → Option B) (x : A) (y : Option B) → o ≡ Some x → f x ≡ y → (o >>= f) ≡ y
goes_on o f x y e h = ap (λ (p : Option _). p >>= f) e ∙ h

-- a test that was passed
passed : {A : Type 0} (b : Bool) (x y : A) → cond b None (Some x) ≡ Some y → (b ≡ false) × (x ≡ y)
passed true x y e = absurd cc
passed false x y e = (refl, cc)

met : {A : Type 0} (b : Bool) (x y : A) → cond b (Some x) None ≡ Some y → (b ≡ true) × (x ≡ y)
met true x y e = (refl, cc)
met false x y e = absurd cc

-- which way a test went
chosen : {A : Type 0} (b : Bool) (x y z : A) → cond b x y ≡ z → ((b ≡ true) × (x ≡ z)) ⊎ ((b ≡ false) × (y ≡ z))
chosen true x y z e = inl (refl, e)
chosen false x y z e = inr (refl, e)

-- what was read up to the end
end_takes : {A : Type 0} (x y : A) (rest : List ℕ) → ended x rest ≡ Some y → (rest ≡ []) × (x ≡ y)
end_takes x y [] e = (refl, cc)
end_takes x y (b ∷ rest) e = absurd cc

-- what a reader took from the front
record Takes (bytes text rest : List ℕ) : Type 0 where
  parts : bytes ≡ text ++ rest
  rest_fits : IsBytes rest

-- where nothing is left
takes_all : (bytes text rest : List ℕ) → bytes ≡ text ++ rest → rest ≡ [] → bytes ≡ text
takes_all bytes text rest parts none = parts ∙ ap (λ (r : List ℕ). text ++ r) none ∙ append-nil text

-- where this is left
takes_then : (bytes text rest more : List ℕ) → bytes ≡ text ++ rest → rest ≡ more → bytes ≡ text ++ more
takes_then bytes text rest more parts same = parts ∙ ap (λ (r : List ℕ). text ++ r) same

-- ---- numbers

record IsWide (w : Width) (limit : ℕ) : Type 0 where
  len : (n : ℕ) → length (to_be_bytes w n) ≡ byte_len w
  back : (bytes : List ℕ) → length bytes ≡ byte_len w → IsBytes bytes → to_be_bytes w (from_be_bytes w bytes) ≡ bytes
  again : (n : ℕ) → n < limit → from_be_bytes w (to_be_bytes w n) ≡ n
  below : (bytes : List ℕ) → IsBytes bytes → from_be_bytes w bytes < limit

wide32 : IsWide w32 (2 ^ 32)
wide32 = record {
  len = λ n. refl;
  back = λ bytes len fits. be_bytes_4 bytes _ len fits refl;
  again = λ n lt. from_be_bytes-to_be_bytes_4 n lt;
  below = λ bytes fits. omega (arith, fits 0, fits 1, fits 2, fits 3);
}

wide64 : IsWide w64 (2 ^ 64)
wide64 = record {
  len = λ n. refl;
  back = λ bytes len fits. be_bytes_8 bytes _ len fits refl;
  again = λ n lt. from_be_bytes-to_be_bytes_8 n lt;
  below = λ bytes fits. omega (arith, fits 0, fits 1, fits 2, fits 3, fits 4, fits 5, fits 6, fits 7);
}

number_takes : (w : Width) (limit : ℕ) (wide : IsWide w limit) (bytes : List ℕ) (n : ℕ) (rest : List ℕ) → IsBytes bytes → number_at w bytes ≡ Some (n, rest)
    → Takes bytes (to_be_bytes w n) rest × (n < limit)
number_takes w limit wide bytes n rest fits e =
    let g = passed (ltb (length bytes) (byte_len w)) (from_be_bytes w (take (byte_len w) bytes), drop (byte_len w) bytes) (n, rest) e in
    let long : byte_len w ≤ length bytes = ltb-false _ _ g.0 in
    let n-is : from_be_bytes w (take (byte_len w) bytes) ≡ n = ap (λ (p : ℕ × List ℕ). p.0) g.1 in
    let rest-is : drop (byte_len w) bytes ≡ rest = ap (λ (p : ℕ × List ℕ). p.1) g.1 in
    let front : to_be_bytes w n ≡ take (byte_len w) bytes =
    rw (← n-is) (wide.back (take (byte_len w) bytes) (omega (arith, length-take (byte_len w) bytes)) (IsBytes-take (byte_len w) bytes fits)) in (
      record { parts = rw (front, ← rest-is) (sym (take-append-drop (byte_len w) bytes)); rest_fits = rw (← rest-is) (IsBytes-drop (byte_len w) bytes fits) },
      rw (← n-is) (wide.below (take (byte_len w) bytes) (IsBytes-take (byte_len w) bytes fits)),
    )

number_again : (w : Width) (limit : ℕ) (wide : IsWide w limit) (n : ℕ) (rest : List ℕ) → n < limit → number_at w (to_be_bytes w n ++ rest) ≡ Some (n, rest)
number_again w limit wide n rest lt =
    let len = wide.len n in
    let long : ltb (length (to_be_bytes w n ++ rest)) (byte_len w) ≡ false = le-ltb _ _ (omega (arith, length-append (to_be_bytes w n) rest)) in
    rw (long, take_at (to_be_bytes w n) rest (byte_len w) len, drop_at (to_be_bytes w n) rest (byte_len w) len, wide.again n lt) refl

number_alone : (w : Width) (limit : ℕ) (wide : IsWide w limit) (n : ℕ) → n < limit → number_at w (to_be_bytes w n) ≡ Some (n, [])
number_alone w limit wide n lt = ap (number_at w) (sym (append-nil (to_be_bytes w n))) ∙ number_again w limit wide n [] lt

-- ---- threads

thread_takes : (bytes : List ℕ) (t : ThreadId) (rest : List ℕ) → IsBytes bytes → thread_at bytes ≡ Some (t, rest) → Takes bytes (t.0 ∷ []) rest × (t.0 < limits.THREADS)
thread_takes [] t rest fits e = absurd cc
thread_takes (b ∷ bytes) t rest fits e =
    let g = met (ltb b limits.THREADS) (record { 0 = b }, bytes) (t, rest) e in
    subst (λ (x : ThreadId × List ℕ). Takes (b ∷ bytes) (x.0.0 ∷ []) x.1 × (x.0.0 < limits.THREADS)) g.1
    (record { parts = refl; rest_fits = IsBytes-rest b bytes fits }, ltb-true b limits.THREADS g.0)

thread_again : (t : ThreadId) (rest : List ℕ) → t.0 < limits.THREADS → thread_at (t.0 ∷ rest) ≡ Some (t, rest)
thread_again t rest lt = rw (lt-ltb t.0 limits.THREADS lt) refl

-- ---- outputs

output_takes : (bytes : List ℕ) (output : Output) → IsBytes bytes → output_at bytes ≡ Some output → (bytes ≡ output_bytes output) × IsOutput output
unfolding output_at
output_takes bytes output fits e =
    let a = bind_some (number_at w64 bytes) (λ stamp. thread_at stamp.1 >>= λ thread. number_at w32 thread.1 >>= λ value. ended (record { stamp = stamp.0; thread = thread.0; value = value.0 }) value.1) output e in
    let b = bind_some (thread_at a.0.1) (λ thread. number_at w32 thread.1 >>= λ value. ended (record { stamp = a.0.0; thread = thread.0; value = value.0 }) value.1) output a.2 in
    let c = bind_some (number_at w32 b.0.1) (λ value. ended (record { stamp = a.0.0; thread = b.0.0; value = value.0 }) value.1) output b.2 in
    let d = end_takes (record { stamp = a.0.0; thread = b.0.0; value = c.0.0 }) output c.0.1 c.2 in
    let stamp = number_takes w64 (2 ^ 64) wide64 bytes a.0.0 a.0.1 fits a.1 in
    let thread = thread_takes a.0.1 b.0.0 b.0.1 stamp.0.rest_fits b.1 in
    let value = number_takes w32 (2 ^ 32) wide32 b.0.1 c.0.0 c.0.1 thread.0.rest_fits c.1 in
    let last : b.0.1 ≡ to_be_bytes w32 c.0.0 = takes_all b.0.1 (to_be_bytes w32 c.0.0) c.0.1 value.0.parts d.0 in
    let behind : a.0.1 ≡ b.0.0.0 ∷ to_be_bytes w32 c.0.0 = takes_then a.0.1 (b.0.0.0 ∷ []) b.0.1 (to_be_bytes w32 c.0.0) thread.0.parts last in
    let whole : bytes ≡ to_be_bytes w64 a.0.0 ++ b.0.0.0 ∷ to_be_bytes w32 c.0.0 = takes_then bytes (to_be_bytes w64 a.0.0) a.0.1 (b.0.0.0 ∷ to_be_bytes w32 c.0.0) stamp.0.parts behind in
    subst (λ (o : Output). (bytes ≡ output_bytes o) × IsOutput o) d.1 (whole, record { stamp = stamp.1; thread = thread.1; value = value.1 })

output_again : (output : Output) → IsOutput output → output_at (output_bytes output) ≡ Some output
unfolding output_at
output_again output is =
    let behind = output.thread.0 ∷ to_be_bytes w32 output.value in
    goes_on (number_at w64 (to_be_bytes w64 output.stamp ++ behind)) (λ stamp. thread_at stamp.1 >>= λ thread. number_at w32 thread.1 >>= λ value. ended (record { stamp = stamp.0; thread = thread.0; value = value.0 }) value.1)
    (output.stamp, behind) (Some output) (number_again w64 (2 ^ 64) wide64 output.stamp behind is.stamp)
    (goes_on (thread_at behind) (λ thread. number_at w32 thread.1 >>= λ value. ended (record { stamp = output.stamp; thread = thread.0; value = value.0 }) value.1)
    (output.thread, to_be_bytes w32 output.value) (Some output) (thread_again output.thread (to_be_bytes w32 output.value) is.thread)
    (goes_on (number_at w32 (to_be_bytes w32 output.value)) (λ value. ended (record { stamp = output.stamp; thread = output.thread; value = value.0 }) value.1)
    (output.value, []) (Some output) (number_alone w32 (2 ^ 32) wide32 output.value is.value) refl))

-- ---- packets

data_takes : (bytes : List ℕ) (packet : Packet) → IsBytes bytes → data_at bytes ≡ Some packet → (68 ∷ bytes ≡ packet_bytes packet) × IsPacket packet
unfolding data_at
data_takes bytes packet fits e =
    let a = bind_some (number_at w32 bytes) (λ number. output_at number.1 >>= λ output. Some (Data number.0 output)) packet e in
    let b = bind_some (output_at a.0.1) (λ output. Some (Data a.0.0 output)) packet a.2 in
    let number = number_takes w32 (2 ^ 32) wide32 bytes a.0.0 a.0.1 fits a.1 in
    let output = output_takes a.0.1 b.0 number.0.rest_fits b.1 in
    let whole : bytes ≡ to_be_bytes w32 a.0.0 ++ output_bytes b.0 = takes_then bytes (to_be_bytes w32 a.0.0) a.0.1 (output_bytes b.0) number.0.parts output.0 in
    let is : Data a.0.0 b.0 ≡ packet = cc in
    subst (λ (p : Packet). (68 ∷ bytes ≡ packet_bytes p) × IsPacket p) is (ap (λ (r : List ℕ). 68 ∷ r) whole, (number.1, output.1))

ack_takes : (bytes : List ℕ) (packet : Packet) → IsBytes bytes → ack_at bytes ≡ Some packet → (65 ∷ bytes ≡ packet_bytes packet) × IsPacket packet
unfolding ack_at
ack_takes bytes packet fits e =
    let a = bind_some (number_at w32 bytes) (λ count. ended (Ack count.0) count.1) packet e in
    let d = end_takes (Ack a.0.0) packet a.0.1 a.2 in
    let count = number_takes w32 (2 ^ 32) wide32 bytes a.0.0 a.0.1 fits a.1 in
    let whole : bytes ≡ to_be_bytes w32 a.0.0 = takes_all bytes (to_be_bytes w32 a.0.0) a.0.1 count.0.parts d.0 in
    subst (λ (p : Packet). (65 ∷ bytes ≡ packet_bytes p) × IsPacket p) d.1 (ap (λ (r : List ℕ). 65 ∷ r) whole, count.1)

-- what follows the first byte, by the tests of it
kind_takes : (b : ℕ) (rest : List ℕ) (packet : Packet) → IsBytes rest → cond (eqb b 68) (data_at rest) (cond (eqb b 65) (ack_at rest) None) ≡ Some packet
    → (b ∷ rest ≡ packet_bytes packet) × IsPacket packet
kind_takes b rest packet fits e =
    elim (chosen (eqb b 68) (data_at rest) (cond (eqb b 65) (ack_at rest) None) (Some packet) e) [
      | inl is ↦
          let r = data_takes rest packet fits is.1 in
          (ap (λ (x : ℕ). x ∷ rest) (eqb-true b 68 is.0) ∙ r.0, r.1)
      | inr other ↦
          elim (chosen (eqb b 65) (ack_at rest) None (Some packet) other.1) [
            | inl is ↦
                let r = ack_takes rest packet fits is.1 in
                (ap (λ (x : ℕ). x ∷ rest) (eqb-true b 65 is.0) ∙ r.0, r.1)
            | inr none ↦ absurd (let h : None ≡ Some packet = none.1 in cc)
          ]
    ]

pub packet_takes : (bytes : List ℕ) (packet : Packet) → IsBytes bytes → packet_in bytes ≡ Some packet → (bytes ≡ packet_bytes packet) × IsPacket packet
unfolding packet_in
packet_takes [] packet fits e = absurd cc
packet_takes (b ∷ rest) packet fits e = kind_takes b rest packet (IsBytes-rest b rest fits) e

data_again : (number : ℕ) (output : Output) → number < 2 ^ 32 → IsOutput output → data_at (to_be_bytes w32 number ++ output_bytes output) ≡ Some (Data number output)
unfolding data_at
data_again number output lt is =
    goes_on (number_at w32 (to_be_bytes w32 number ++ output_bytes output)) (λ number. output_at number.1 >>= λ output. Some (Data number.0 output)) (number, output_bytes output) (Some (Data number output))
    (number_again w32 (2 ^ 32) wide32 number (output_bytes output) lt)
    (goes_on (output_at (output_bytes output)) (λ output. Some (Data number output)) output (Some (Data number output)) (output_again output is) refl)

ack_again : (count : ℕ) → count < 2 ^ 32 → ack_at (to_be_bytes w32 count) ≡ Some (Ack count)
unfolding ack_at
ack_again count lt = goes_on (number_at w32 (to_be_bytes w32 count)) (λ count. ended (Ack count.0) count.1) (count, []) (Some (Ack count)) (number_alone w32 (2 ^ 32) wide32 count lt) refl

pub packet_again : (packet : Packet) → IsPacket packet → packet_in (packet_bytes packet) ≡ Some packet
unfolding packet_in
packet_again (Data number output) is = data_again number output is.0 is.1
packet_again (Ack count) is = ack_again count is

-- ---- the clauses of decoding

pub is_found : (bytes : List ℕ) (r : Option Packet) → IsBytes bytes → r ≡ packet_in bytes → IfSome r (λ packet. IsPacket packet × (bytes ≡ packet_bytes packet))
is_found bytes (Some packet) fits e = let t = packet_takes bytes packet fits (sym e) in (t.1, t.0)
is_found bytes None fits e = tt

pub is_read : (bytes : List ℕ) (packet : Packet) → IsPacket packet → bytes ≡ packet_bytes packet → packet_in bytes ≡ Some packet
is_read bytes packet is e = ap packet_in e ∙ packet_again packet is

pub none_has : (r : Option Packet) (bytes : List ℕ) → IfSome r (λ packet. IsPacket packet × (bytes ≡ packet_bytes packet))
    → ((packet : Packet) → IsPacket packet → bytes ≢ packet_bytes packet) → r ≡ None
none_has (Some packet) bytes found none = absurd (none packet found.0 found.1)
none_has None bytes found none = refl
