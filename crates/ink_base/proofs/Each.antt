-- A loop that takes each item in turn, up to the first fault.
use Rattle.ink_base.proofs.Common.{◌≡◌, ℕ, ◌+◌, ◌<◌, ◌≤◌, List, [], ◌∷◌, ◌++◌, length, get_or, drop, Result, Ok, Err, refl, sym, ap, ◌∙◌, append_assoc, append-nil, drop_more, drop_all, JobFault, JobAnswer, ◌>>◌, Answers}
use Rattle.ink_base.specs.Gives.{each}
use Rattle.ink_base.specs.declared.fault.JobAnswer.TheVariants as answers
use Rattle.ink_base.proofs.Failing.{Answers-same}

abbrev pub with_front : {B : Type 0} → List B → Result (List B) JobFault → Result (List B) JobFault
with_front front read = read >> (λ ys. Ok (front ++ ys))

-- the items so far and what is left give what all give
pub record Goes {A B : Type 0} (f : A → Result B JobFault) (front : List B) (xs : List A) (i : ℕ) (total : Result (List B) JobFault) : Type 0 where
  pub so : with_front front (each f (drop i xs)) ≡ total

regroup : {B : Type 0} (front : List B) (y : B) (r : Result (List B) JobFault) → with_front front (r >> (λ ys. Ok (y ∷ ys))) ≡ with_front (front ++ y ∷ []) r
regroup front y (Ok ys) = ap Ok (sym (append_assoc front (y ∷ []) ys))
regroup front y (Err e) = refl

whole : {B : Type 0} (r : Result (List B) JobFault) → with_front [] r ≡ r
whole (Ok ys) = refl
whole (Err e) = refl

pub Goes-none : {A B : Type 0} (f : A → Result B JobFault) (xs : List A) → Goes f [] xs 0 (each f xs)
Goes-none f xs = record { so = whole (each f xs) }

pub Goes-more : {A B : Type 0} (f : A → Result B JobFault) (front : List B) (xs : List A) (i : ℕ) (total : Result (List B) JobFault) (y : B) (d : A) → i < length xs → f (get_or xs i d) ≡ Ok y
    → Goes f front xs i total → Goes f (front ++ y ∷ []) xs (i + 1) total
unfolding each
Goes-more f front xs i total y d lt ok h = record {
  so = sym (regroup front y (each f (drop (i + 1) xs)))
      ∙ ap (λ r. with_front front (r >> (λ y. each f (drop (i + 1) xs) >> (λ ys. Ok (y ∷ ys))))) (sym ok)
      ∙ ap (λ ys. with_front front (each f ys)) (sym (drop_more xs i d lt))
      ∙ h.so;
}

fails : {A B : Type 0} (front : List A) (e : JobAnswer) (r : Result B JobFault) (k : B → Result (List A) JobFault) → Answers e r → Answers e (with_front front (r >> k))
fails front answers.NoMemory r k h = tt
fails front (answers.Fault x) r k h = ap (λ s. with_front front (s >> k)) h

pub Goes-fails : {A B : Type 0} (f : A → Result B JobFault) (front : List B) (xs : List A) (i : ℕ) (total : Result (List B) JobFault) (e : JobAnswer) (d : A) → i < length xs → Answers e (f (get_or xs i d))
    → Goes f front xs i total → Answers e total
unfolding each
Goes-fails f front xs i total e d lt err h =
    Answers-same e _ total (ap (λ ys. with_front front (each f ys)) (sym (drop_more xs i d lt)) ∙ h.so)
    (fails front e (f (get_or xs i d)) (λ y. each f (drop (i + 1) xs) >> (λ ys. Ok (y ∷ ys))) err)

pub Goes-all : {A B : Type 0} (f : A → Result B JobFault) (front : List B) (xs : List A) (i : ℕ) (total : Result (List B) JobFault) → length xs ≤ i → Goes f front xs i total → total ≡ Ok front
unfolding each
Goes-all f front xs i total le h = sym h.so ∙ ap (λ ys. with_front front (each f ys)) (drop_all i xs le) ∙ ap Ok (append-nil front)
