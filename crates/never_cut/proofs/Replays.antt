-- What a replay keeps from entry to entry.
use Rattle.never_cut.proofs.Common.{◌≡◌, ℕ, ◌+◌, ◌-◌, ◌^◌, ◌<◌, ◌≤◌, List, [], ◌∷◌, ◌++◌, length, take, get_or, sym, ◌∙◌, ap, subst, arith, take_all, take_more, Entry, Program, IsAccepted, Model, Readings, readings_of, Legal, effect, IsLegal, after, CanStart}
use Rattle.ink_base.specs.declared.limits.TheConstants as limits
use Rattle.never_cut.proofs.Journals.{after-append, IsLegal-append}
use Rattle.never_cut.proofs.Starts.{GoesOn, goes_on_step, starts}

-- the first n entries are legal, and the state is that after them
pub record Replays (program : Program) (readings : Readings) (first : Model) (entries : List Entry) (n : ℕ) (m : Model) : Type 0 where
  pub legal : IsLegal program readings first (take n entries)
  pub state : m ≡ after program readings first (take n entries)
  pub goes : GoesOn program readings (2 ^ 32 - 1 - n) m

pub replays_none : (program : Program) (readings : Readings) (first : Model) (entries : List Entry) → ((j : ℕ) → length (readings_of readings j) ≤ limits.READINGS) → CanStart program readings first →
    Replays program readings first entries 0 first
replays_none program readings first entries few start = record { legal = tt; state = Rattle.std.proofs.Common.refl; goes = starts program readings first few start }

pub replays_more : (program : Program) (readings : Readings) (first : Model) (entries : List Entry) (n : ℕ) (old new : Model) (d : Entry) → IsAccepted program →
    ((j : ℕ) → length (readings_of readings j) ≤ limits.READINGS) → length entries < 2 ^ 32 → Replays program readings first entries n old → n < length entries →
    Legal program readings old (get_or entries n d) → new ≡ effect program readings old (get_or entries n d) → Replays program readings first entries (n + 1) new
replays_more program readings first entries n old new d accepted few short replays inside may makes =
    let e : Entry = get_or entries n d in
    let more : take (n + 1) entries ≡ take n entries ++ e ∷ [] = take_more entries n d inside in
    let here : Legal program readings (after program readings first (take n entries)) e = subst (λ m. Legal program readings m e) replays.state may in
    let left : 2 ^ 32 - 1 - n ≡ 2 ^ 32 - 1 - (n + 1) + 1 = omega arith in
    record {
      legal = subst (IsLegal program readings first) (sym more) (IsLegal-append program readings first (take n entries) e replays.legal here);
      state =
          makes ∙ ap (λ m. effect program readings m e) replays.state
          ∙ sym (after-append program readings first (take n entries) e)
          ∙ ap (after program readings first) (sym more);
      goes = subst (GoesOn program readings (2 ^ 32 - 1 - (n + 1))) (sym makes)
          (goes_on_step program readings (2 ^ 32 - 1 - (n + 1)) old e accepted few (subst (λ k. GoesOn program readings k old) left replays.goes) may);
    }

-- all entries are legal, once all were replayed
pub replayed : (program known : Program) (readings : Readings) (first : Model) (entries : List Entry) (n : ℕ) (m : Model) → program ≡ known → Replays program readings first entries n m →
    length entries ≤ n → IsLegal known readings first entries
replayed program known readings first entries n m same replays all =
    subst (λ p. IsLegal p readings first entries) same (subst (IsLegal program readings first) (take_all n entries all) replays.legal)
