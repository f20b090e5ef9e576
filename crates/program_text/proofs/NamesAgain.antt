-- The place of a name among items whose names differ.
use Rattle.program_text.proofs.Common.{◌≡◌, ℕ, ◌<◌, Bool, true, false, List, ◌∷◌, length, get_or, take, Some, Ok, refl, ap, ◌∙◌, arith, lt-ltb, get_or-take, length-take-le, bytes_eq, list_any, position_or_len, false_from_ne_true, get_or_default, list_any_none, bytes_eq-Decides, Word, AreDistinct, differ, place_of, is_taken, is_name}
use Rattle.task_lines.specs.Named.{fresh_of, new_name_in, declared_in}
use Rattle.std.proofs.lemmas.List.Sums.{position_or_len_is}
use Rattle.ink_base.specs.Checks.{word_in}

pub same : (w : Word) → bytes_eq w w ≡ true
same w = (bytes_eq-Decides w w).1 refl

pub place_again : {X : Type 0} (name : X → Word) (xs : List X) (d : X) (i : ℕ) → i < length xs → AreDistinct (λ k. name (get_or xs k d)) (length xs) → place_of name xs (name (get_or xs i d)) ≡ Some i
place_again name xs d i lt apart =
    let p = λ (x : _). bytes_eq (name x) (name (get_or xs i d)) in
    let at : position_or_len p xs ≡ i =
    position_or_len_is p xs i d (omega arith) (λ k below. differ (name (get_or xs k d)) (name (get_or xs i d)) (apart k i below lt)) (λ _. same (name (get_or xs i d))) in
    rw (at, lt-ltb i (length xs) lt) refl

-- the name of the item at a place is read as that place
pub declared_again : {X : Type 0} (name : X → Word) (xs : List X) (d : X) (i : ℕ) (ws : List Word) → i < length xs → AreDistinct (λ k. name (get_or xs k d)) (length xs)
    → declared_in name xs (name (get_or xs i d) ∷ ws) ≡ Ok (i, ws)
unfolding declared_in word_in
declared_again name xs d i ws lt apart = rw (place_again name xs d i lt apart) refl

pub new_name_again : {X : Type 0} (name : X → Word) (items : List X) (w : Word) (ws : List Word) → is_name w ≡ true → is_taken name items w ≡ false → new_name_in name items (w ∷ ws) ≡ Ok (w, ws)
unfolding new_name_in word_in fresh_of
new_name_again name items w ws named fresh = rw (named, fresh) refl
