-- An account of which one charge more is over.
use Rattle.std.proofs.Common.{◌≡◌, ◌⊎◌, inl, inr, ℕ, zero, suc, ◌+◌, ◌<◌, ◌≤◌, List, [], ◌∷◌, ◌++◌, length, take, refl, sym, ap, ◌∙◌, arith}
use Rattle.std.specs.Prelude.{slice_index_or}
use Rattle.std.proofs.lemmas.List.{take_all}
use mathlib.Core.Option.{some, some-ne-none}
use lib.ListN.{get_elem?}
use Rattle.ink_base.specs.declared.event.Event.{Event}
use Rattle.task_isa.specs.declared.program.Program.{Program}
use Rattle.kernel_account.specs.declared.entry.KernelEntry.{KernelEntry}
use Rattle.kernel_actor.specs.Served.{state_before}
use Rattle.live_board.specs.kept.Kernels.{IsEntry, state_at}

-- the first of a list that has grown
pub take_early : {A : Type 0} (xs more : List A) (c : ℕ) → c ≤ length xs → take c (xs ++ more) ≡ take c xs
take_early xs more zero few = refl
take_early [] more (suc c) few = absurd (omega arith)
take_early (x ∷ xs) more (suc c) few = ap (λ l. x ∷ l) (take_early xs more c (omega arith))

-- one of its elements from before
index_early : {A : Type 0} (xs more : List A) (c : ℕ) (d : A) → c < length xs → slice_index_or (xs ++ more) c d ≡ slice_index_or xs c d
index_early [] more c d few = absurd (omega arith)
index_early (x ∷ xs) more zero d few = refl
index_early (x ∷ xs) more (suc c) d few = index_early xs more c d (omega arith)

-- and the one that was added
index_last : {A : Type 0} (xs : List A) (x d : A) → slice_index_or (xs ++ x ∷ []) (length xs) d ≡ x
index_last [] x d = refl
index_last (y ∷ xs) x d = index_last xs x d

-- an entry is one of before, or of the charge that was added
pub entry_cases : (charges : List (List KernelEntry)) (entries : List KernelEntry) (c n : ℕ) (e : KernelEntry) → IsEntry (charges ++ entries ∷ []) c n e →
    ((c < length charges) × IsEntry charges c n e) ⊎ ((c ≡ length charges) × (get_elem? entries n ≡ some e))
entry_cases [] entries zero n e is = inr (refl, is)
entry_cases [] entries (suc c) n e is = absurd (some-ne-none e (sym is))
entry_cases (x ∷ charges) entries zero n e is = inl (omega arith, is)
entry_cases (x ∷ charges) entries (suc c) n e is = elim (entry_cases charges entries c n e is) [ inl h ↦ inl ((let lt = h.0 in omega (arith, lt)), h.1) | inr h ↦ inr (ap suc h.0, h.1) ]

-- the states of the charges before stay
pub state_early : (program : Program) (events : ℕ → List Event) (charges : List (List KernelEntry)) (entries : List KernelEntry) (c n : ℕ) → c < length charges →
    state_at program events (charges ++ entries ∷ []) c n ≡ state_at program events charges c n
state_early program events charges entries c n lt = λ j.
    state_before program events (take_early charges (entries ∷ []) c (omega (arith, lt)) j) (index_early charges (entries ∷ []) c [] lt j) n

-- and those of the charge that was added follow them
pub state_last : (program : Program) (events : ℕ → List Event) (charges : List (List KernelEntry)) (entries : List KernelEntry) (n : ℕ) →
    state_at program events (charges ++ entries ∷ []) (length charges) n ≡ state_before program events charges entries n
state_last program events charges entries n = λ j. state_before program events (take_before charges j) (index_last charges entries [] j) n
  where
    take_before : (xs : List (List KernelEntry)) → take (length xs) (xs ++ entries ∷ []) ≡ xs
    take_before xs = take_early xs (entries ∷ []) (length xs) (omega arith) ∙ take_all (length xs) xs (omega arith)
