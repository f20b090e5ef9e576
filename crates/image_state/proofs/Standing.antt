-- What is read off an image that isn't worn: it is in its range, and the words stand for it.
use Rattle.image_state.proofs.Common.{inl, inr, ℕ, ◌+◌, List, [], length, replicate, ap, ◌∙◌, arith, cases_lt, slice_index, get_or-map-range_with_len, length-replicate, Program, Memory, by_place, IsAccepted, Model, source_of, told_source, IsImage, IsReadOff, IsWorn, ManyReadings, IsTold, HasFewSettled, each_below, Stands, AreListed, EveryImageStands}
use Rattle.ink_base.specs.declared.limits.TheConstants as limits
use Rattle.image_state.proofs.Pages.{beyond_pages}
use Rattle.image_state.proofs.States.{reads_off}

-- where an image isn't worn, no source has settled too many readings
pub few_settled : (program : Program) (listed : List ℕ) (words : Memory) → ¬ IsWorn program listed words → HasFewSettled program words
few_settled program listed words fresh i known =
    elim (cases_lt limits.READINGS ((told_source program words i).next + slice_index listed i)) [
      | inl many ↦ absurd (fresh (ManyReadings i known many))
      | inr few ↦ omega arith
    ]

-- the state that the words tell is read off them
pub off_words : (program : Program) (words : List ℕ) (m : Model) → IsAccepted program → IsImage program (by_place program words) → IsTold program (by_place program words) m →
    IsReadOff program (by_place program words) m
off_words program words m accepted image told = reads_off program (by_place program words) m accepted image (λ t w known past. beyond_pages program words t w known past) told

-- readings enough for a state, with so many behind those that it has settled
readings_behind : Model → List ℕ → ℕ → List ℕ
readings_behind m listed i = replicate ((source_of m i).next + slice_index listed i) 0

are_listed : (program : Program) (listed : List ℕ) (m : Model) → AreListed program listed m (each_below (readings_behind m listed) (length program.sources))
unfolding readings_behind
are_listed program listed m i known =
    ap (λ (l : List ℕ). length l) (get_or-map-range_with_len (readings_behind m listed) 0 (length program.sources) i i [] known (omega arith))
    ∙ length-replicate ((source_of m i).next + slice_index listed i) 0

-- and by the law of images they stand for it
pub words_stand : EveryImageStands → (program : Program) (listed : List ℕ) (words : Memory) (m : Model) → IsAccepted program → IsImage program words →
    ¬ IsWorn program listed words →
    IsReadOff program words m → Stands words program m
words_stand law program listed words m accepted image fresh read =
    (law program (each_below (readings_behind m listed) (length program.sources)) listed words m accepted image fresh read (are_listed program listed m)).stands
