-- The outputs, and those of each thread, after some of one thread were appended.
use Rattle.never_cut.proofs.Common.{◌≡◌, ◌≢◌, inl, inr, ℕ, suc, ◌+◌, ◌-◌, ◌^◌, ◌<◌, ◌≤◌, ◌==◌, true, false, List, [], ◌∷◌, ◌++◌, length, get_or, refl, sym, ap, ◌∙◌, arith, length-append, All, filter, eq-eqb, ne_eqb, append-nil, IsNonDecreasingBy, cases_lt, All-append, All-nil, All-cons, filter-append, get_or_append_left, get_or-append_right, Output, stamped, HasStamps}
use Rattle.never_cut.proofs.Values.{HaveBits}

-- those of thread u among some outputs
abbrev pub of_thread : ℕ → List Output → List Output
of_thread u outputs = filter (λ (o : Output). o.thread.0 == u) outputs

pub of_thread-own : (stamp t : ℕ) (outs : List ℕ) → of_thread t (stamped stamp t outs) ≡ stamped stamp t outs
of_thread-own stamp t [] = refl
of_thread-own stamp t (v ∷ outs) =
    let is : (t == t) ≡ true = eq-eqb t t refl in
    rw is (ap (λ rest. record { stamp = stamp; thread = record { 0 = t }; value = v } ∷ rest) (of_thread-own stamp t outs))

pub of_thread-other : (stamp t u : ℕ) (outs : List ℕ) → t ≢ u → of_thread u (stamped stamp t outs) ≡ []
of_thread-other stamp t u [] apart = refl
of_thread-other stamp t u (v ∷ outs) apart =
    let is : (t == u) ≡ false = ne_eqb t u apart in
    rw is (of_thread-other stamp t u outs apart)

pub outputs-own : (stamp t : ℕ) (outputs : List Output) (outs : List ℕ) → of_thread t (outputs ++ stamped stamp t outs) ≡ of_thread t outputs ++ stamped stamp t outs
outputs-own stamp t outputs outs =
    filter-append (λ (o : Output). o.thread.0 == t) outputs (stamped stamp t outs) ∙ ap (λ rest. of_thread t outputs ++ rest) (of_thread-own stamp t outs)

pub outputs-other : (stamp t u : ℕ) (outputs : List Output) (outs : List ℕ) → t ≢ u → of_thread u (outputs ++ stamped stamp t outs) ≡ of_thread u outputs
outputs-other stamp t u outputs outs apart =
    filter-append (λ (o : Output). o.thread.0 == u) outputs (stamped stamp t outs)
    ∙ ap (λ rest. of_thread u outputs ++ rest) (of_thread-other stamp t u outs apart) ∙ append-nil (of_thread u outputs)

pub length-stamped : (stamp t : ℕ) (outs : List ℕ) → length (stamped stamp t outs) ≡ length outs
length-stamped stamp t [] = refl
length-stamped stamp t (v ∷ outs) = ap (λ n. suc n) (length-stamped stamp t outs)

-- what is put out at one commit has its stamp and its thread
stamped_own : (stamp t : ℕ) (outs : List ℕ) → All (λ (o : Output). (o.stamp ≡ stamp) × (o.thread.0 ≡ t)) (stamped stamp t outs)
stamped_own stamp t [] = All-nil (λ (o : Output). (o.stamp ≡ stamp) × (o.thread.0 ≡ t))
stamped_own stamp t (v ∷ outs) =
    All-cons (λ (o : Output). (o.stamp ≡ stamp) × (o.thread.0 ≡ t)) (record { stamp = stamp; thread = record { 0 = t }; value = v }) (stamped stamp t outs) (refl, refl) (stamped_own stamp t outs)

-- and the bits of its values
pub stamped_values : (stamp t : ℕ) (outs : List ℕ) → HaveBits outs → All (λ (o : Output). o.value < 2 ^ 32) (stamped stamp t outs)
stamped_values stamp t [] bits = All-nil (λ (o : Output). o.value < 2 ^ 32)
stamped_values stamp t (v ∷ outs) bits =
    All-cons (λ (o : Output). o.value < 2 ^ 32) (record { stamp = stamp; thread = record { 0 = t }; value = v }) (stamped stamp t outs) (bits 0) (stamped_values stamp t outs (λ k. bits (suc k)))

-- numbers that don't fall, with larger ones behind them that are all the same
ordered-append : {X : Type 0} (n : X → ℕ) (xs ys : List X) (most : ℕ) → IsNonDecreasingBy n xs → All (λ x. n x ≤ most) xs → All (λ y. n y ≡ most) ys →
    IsNonDecreasingBy n (xs ++ ys)
ordered-append n xs ys most ordered below same i j d le lt =
    elim (cases_lt j (length xs)) [
      | inl left ↦ rw (get_or_append_left xs ys d i (omega arith), get_or_append_left xs ys d j left) (ordered i j d le left)
      | inr past ↦
          let last : n (get_or (xs ++ ys) j d) ≡ most = ap n (get_or-append_right xs ys (length xs) j d refl past) ∙ same (j - length xs) d (omega (arith, length-append xs ys)) in
          elim (cases_lt i (length xs)) [
            | inl left ↦ let first = below i d left in let e = ap n (get_or_append_left xs ys d i left) in omega (arith, first, e, last)
            | inr also ↦
                let first : n (get_or (xs ++ ys) i d) ≡ most = ap n (get_or-append_right xs ys (length xs) i d refl also) ∙ same (i - length xs) d (omega (arith, length-append xs ys)) in
                omega (arith, first, last)
          ]
    ]

-- the outputs of a state have stamps of its commits after one more commit
pub later_stamps : (commits : ℕ) (outputs : List Output) → HasStamps commits outputs → HasStamps (commits + 1) outputs
later_stamps commits outputs h = record { made = λ k d lt. let o = h.made k d lt in (o.0, let le = o.1 in omega arith); ordered = h.ordered; own = h.own }

-- an output with the stamp of another is of its thread
abbrev Agrees : Output → Output → Type 0
Agrees o other = other.stamp ≡ o.stamp → other.thread.0 ≡ o.thread.0

-- and so have they with those of that commit behind them
pub more_stamps : (commits t : ℕ) (outputs : List Output) (outs : List ℕ) → HasStamps commits outputs → HasStamps (commits + 1) (outputs ++ stamped (commits + 1) t outs)
more_stamps commits t outputs outs h =
    let new : List Output = stamped (commits + 1) t outs in
    let fresh = stamped_own (commits + 1) t outs in
    record {
      made = All-append (λ (o : Output). (1 ≤ o.stamp) × (o.stamp ≤ commits + 1)) outputs new (later_stamps commits outputs h).made
          (λ k d lt. let is = (fresh k d lt).0 in (omega arith, omega arith));
      ordered = ordered-append (λ (o : Output). o.stamp) outputs new (commits + 1) h.ordered (λ k d lt. let le = (h.made k d lt).1 in omega arith) (λ k d lt. (fresh k d lt).0);
      own = All-append (λ (o : Output). All (Agrees o) (outputs ++ new)) outputs new
          (λ k d lt. let old = (h.made k d lt).1 in
          All-append (Agrees (get_or outputs k d)) outputs new (h.own k d lt) (λ j e less same. let is = (fresh j e less).0 in absurd (omega arith)))
          (λ k d lt. let is = fresh k d lt in
          All-append (Agrees (get_or new k d)) outputs new (λ j e less same. let old = (h.made j e less).1 in let now = is.0 in absurd (omega arith))
          (λ j e less same. (fresh j e less).1 ∙ sym is.1));
    }
