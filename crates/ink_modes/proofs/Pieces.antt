-- What is asked for by pieces, one after another, is what they say in any order.
use Rattle.ink_modes.proofs.Common.{◌≡◌, IfSome, sym, ◌∙◌, ℕ, Bool, true, false, List, [], ◌∷◌, map, filter, Option, Some, None, if◌then◌else◌, ap, subst, refl, filter_map, cons_option, Word, Command, Asked, pieces, piece_said, named_in, seed_in, is_journal, is_json, is_bounds, is_image, once, IsCommand, form_of, nothing, asked_from}
use Rattle.ink_modes.specs.declared.modes.Mode.{Mode}
use Rattle.ink_modes.specs.declared.words.Piece.{Piece}
use Rattle.ink_modes.specs.declared.words.Piece.TheVariants.{Named, Journal, Json, Bounds, Image, Seed}
use Rattle.ink_modes.specs.Form.{IsAllowed}

-- what was asked for, by its parts
abbrev asked : Option Mode → Option ℕ → Bool → Bool → Bool → Bool → Asked
asked mode seed journal json bounds image =
    record { mode = mode; flags = record { journal = journal; json = json; bounds = bounds; image = image; seed = seed } }

-- a flag that was there before, and those of it that follow
abbrev onto : Bool → Piece → List Piece → List Piece
onto given piece rest = if given then piece ∷ rest else rest

-- what was asked for before, with these pieces in any order, is what is asked for behind them
abbrev pub Adds : Asked → List Piece → Asked → Type 0
Adds a parts b =
    (cons_option a.mode (filter_map named_in parts) ≡ cons_option b.mode [])
    × (cons_option a.flags.seed (filter_map seed_in parts) ≡ cons_option b.flags.seed [])
    × (onto a.flags.journal Journal (filter is_journal parts) ≡ once b.flags.journal Journal)
    × (onto a.flags.json Json (filter is_json parts) ≡ once b.flags.json Json)
    × (onto a.flags.bounds Bounds (filter is_bounds parts) ≡ once b.flags.bounds Bounds)
    × (onto a.flags.image Image (filter is_image parts) ≡ once b.flags.image Image)

-- each of these says something, and adds it
abbrev pub Says : Asked → List (Option Piece) → Asked → Type 0
Says a said b = (parts : List Piece) × (said ≡ map Some parts) × Adds a parts b

-- with one more piece in front
says_more : (a b c : Asked) (piece : Piece) (said : List (Option Piece)) → ((parts : List Piece) → Adds b parts c → Adds a (piece ∷ parts) c) → Says b said c →
    Says a (Some piece ∷ said) c
says_more a b c piece said adds says = (piece ∷ says.0, ap (λ (l : List (Option Piece)). Some piece ∷ l) says.1, adds says.0 says.2)

-- pieces that were taken one after another say what they add
pub says_of : (said : List (Option Piece)) (mode : Option Mode) (seed : Option ℕ) (journal json bounds image : Bool) (b : Asked) →
    asked_from (asked mode seed journal json bounds image) said ≡ Some b → Says (asked mode seed journal json bounds image) said b
says_of [] mode seed journal json bounds image b is =
    let same : asked mode seed journal json bounds image ≡ b = cc in
    ([], refl, subst (λ (c : Asked). Adds (asked mode seed journal json bounds image) [] c) same (refl, refl, refl, refl, refl, refl))
says_of (None ∷ said) mode seed journal json bounds image b is = absurd (let clash : None ≡ Some b = is in cc)
says_of (Some (Named m) ∷ said) None seed journal json bounds image b is = says_more (asked None seed journal json bounds image) (asked (Some m) seed journal json bounds image) b (Named m) said (λ parts adds. adds) (says_of said (Some m) seed journal json bounds image b is)
says_of (Some (Named m) ∷ said) (Some named) seed journal json bounds image b is = absurd (let clash : None ≡ Some b = is in cc)
says_of (Some (Seed n) ∷ said) mode None journal json bounds image b is = says_more (asked mode None journal json bounds image) (asked mode (Some n) journal json bounds image) b (Seed n) said (λ parts adds. adds) (says_of said mode (Some n) journal json bounds image b is)
says_of (Some (Seed n) ∷ said) mode (Some given) journal json bounds image b is = absurd (let clash : None ≡ Some b = is in cc)
says_of (Some Journal ∷ said) mode seed false json bounds image b is = says_more (asked mode seed false json bounds image) (asked mode seed true json bounds image) b Journal said (λ parts adds. adds) (says_of said mode seed true json bounds image b is)
says_of (Some Journal ∷ said) mode seed true json bounds image b is = absurd (let clash : None ≡ Some b = is in cc)
says_of (Some Json ∷ said) mode seed journal false bounds image b is = says_more (asked mode seed journal false bounds image) (asked mode seed journal true bounds image) b Json said (λ parts adds. adds) (says_of said mode seed journal true bounds image b is)
says_of (Some Json ∷ said) mode seed journal true bounds image b is = absurd (let clash : None ≡ Some b = is in cc)
says_of (Some Bounds ∷ said) mode seed journal json false image b is = says_more (asked mode seed journal json false image) (asked mode seed journal json true image) b Bounds said (λ parts adds. adds) (says_of said mode seed journal json true image b is)
says_of (Some Bounds ∷ said) mode seed journal json true image b is = absurd (let clash : None ≡ Some b = is in cc)
says_of (Some Image ∷ said) mode seed journal json bounds false b is = says_more (asked mode seed journal json bounds false) (asked mode seed journal json bounds true) b Image said (λ parts adds. adds) (says_of said mode seed journal json bounds true b is)
says_of (Some Image ∷ said) mode seed journal json bounds true b is = absurd (let clash : None ≡ Some b = is in cc)

-- what is there once or not at all tells which
option_same : {X : Type 0} (a b : Option X) → cons_option a [] ≡ cons_option b [] → a ≡ b
option_same None None is = refl
option_same None (Some y) is = absurd (let clash : [] ≡ y ∷ [] = is in cc)
option_same (Some x) None is = absurd (let clash : x ∷ [] ≡ [] = is in cc)
option_same (Some x) (Some y) is = let same : x ∷ [] ≡ y ∷ [] = is in let inner : x ≡ y = cc in ap Some inner

flag_same : (piece : Piece) (a b : Bool) → once a piece ≡ once b piece → a ≡ b
flag_same piece true true is = refl
flag_same piece false false is = refl
flag_same piece true false is = absurd (let clash : piece ∷ [] ≡ [] = is in cc)
flag_same piece false true is = absurd (let clash : [] ≡ piece ∷ [] = is in cc)

-- and nothing is there twice
option_twice : {X : Type 0} (x y : X) (rest : List X) (b : Option X) → x ∷ y ∷ rest ≡ cons_option b [] → ⊥
option_twice x y rest None is = let clash : x ∷ y ∷ rest ≡ [] = is in absurd cc
option_twice x y rest (Some z) is = let clash : x ∷ y ∷ rest ≡ z ∷ [] = is in absurd cc

flag_twice : (piece : Piece) (rest : List Piece) (b : Bool) → piece ∷ piece ∷ rest ≡ once b piece → ⊥
flag_twice piece rest true is = let clash : piece ∷ piece ∷ rest ≡ piece ∷ [] = is in absurd cc
flag_twice piece rest false is = let clash : piece ∷ piece ∷ rest ≡ [] = is in absurd cc

-- pieces that add to what was asked for are taken
pub taken_of : (parts : List Piece) (mode : Option Mode) (seed : Option ℕ) (journal json bounds image : Bool) (b : Asked) →
    Adds (asked mode seed journal json bounds image) parts b → asked_from (asked mode seed journal json bounds image) (map Some parts) ≡ Some b
taken_of [] mode seed journal json bounds image b adds = λ i. Some (asked (option_same mode b.mode adds.0 i) (option_same seed b.flags.seed adds.1 i)
    (flag_same Journal journal b.flags.journal adds.2 i) (flag_same Json json b.flags.json adds.3 i)
    (flag_same Bounds bounds b.flags.bounds adds.4 i) (flag_same Image image b.flags.image adds.5 i))
taken_of (Named m ∷ parts) None seed journal json bounds image b adds = taken_of parts (Some m) seed journal json bounds image b adds
taken_of (Named m ∷ parts) (Some named) seed journal json bounds image b adds = absurd (option_twice named m (filter_map named_in parts) b.mode adds.0)
taken_of (Seed n ∷ parts) mode None journal json bounds image b adds = taken_of parts mode (Some n) journal json bounds image b adds
taken_of (Seed n ∷ parts) mode (Some given) journal json bounds image b adds = absurd (option_twice given n (filter_map seed_in parts) b.flags.seed adds.1)
taken_of (Journal ∷ parts) mode seed false json bounds image b adds = taken_of parts mode seed true json bounds image b adds
taken_of (Journal ∷ parts) mode seed true json bounds image b adds = absurd (flag_twice Journal (filter is_journal parts) b.flags.journal adds.2)
taken_of (Json ∷ parts) mode seed journal false bounds image b adds = taken_of parts mode seed journal true bounds image b adds
taken_of (Json ∷ parts) mode seed journal true bounds image b adds = absurd (flag_twice Json (filter is_json parts) b.flags.json adds.3)
taken_of (Bounds ∷ parts) mode seed journal json false image b adds = taken_of parts mode seed journal json true image b adds
taken_of (Bounds ∷ parts) mode seed journal json true image b adds = absurd (flag_twice Bounds (filter is_bounds parts) b.flags.bounds adds.4)
taken_of (Image ∷ parts) mode seed journal json bounds false b adds = taken_of parts mode seed journal json bounds true b adds
taken_of (Image ∷ parts) mode seed journal json bounds true b adds = absurd (flag_twice Image (filter is_image parts) b.flags.image adds.5)

-- what words ask for is a command of theirs
pub found_of : (words : List Word) (a : Asked) (result : Option Command) → asked_from nothing (map piece_said (pieces words)) ≡ Some a →
    IfSome result (λ command. (a.mode ≡ Some command.mode) × (command.flags ≡ a.flags) × IsAllowed (form_of command.mode).allowed command.flags) →
    IfSome result (IsCommand words)
found_of words a None is found = tt
found_of words a (Some command) is found =
    let says = says_of (map piece_said (pieces words)) None None false false false false a is in record {
      parts = says.0;
      said = says.1;
      mode = says.2.0 ∙ ap (λ (m : Option Mode). cons_option m []) found.0;
      seed = says.2.1 ∙ sym (λ i. cons_option (found.1 i).seed []);
      journal = says.2.2 ∙ sym (λ i. once (found.1 i).journal Journal);
      json = says.2.3 ∙ sym (λ i. once (found.1 i).json Json);
      bounds = says.2.4 ∙ sym (λ i. once (found.1 i).bounds Bounds);
      image = says.2.5 ∙ sym (λ i. once (found.1 i).image Image);
      allowed = found.2;
    }

-- and a command of words is what they ask for
pub asked_of : (words : List Word) (command : Command) → IsCommand words command →
    asked_from nothing (map piece_said (pieces words)) ≡ Some (record { mode = Some command.mode; flags = command.flags })
asked_of words command is = ap (asked_from nothing) is.said
    ∙ taken_of is.parts None None false false false false (record { mode = Some command.mode; flags = command.flags }) (is.mode, is.seed, is.journal, is.json, is.bounds, is.image)

-- an answer is one answer
pub none_asked : (o : Option Asked) (b : Asked) → o ≡ None → o ≡ Some b → ⊥
none_asked o b none is = let clash : None ≡ Some b = sym none ∙ is in absurd cc

pub same_asked : (o : Option Asked) (a b : Asked) → o ≡ Some a → o ≡ Some b → a ≡ b
same_asked o a b is also = let same : Some a ≡ Some b = sym is ∙ also in cc
