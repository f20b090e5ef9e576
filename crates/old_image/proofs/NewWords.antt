-- The numbers of the renewed words have their bits.
use Rattle.old_image.proofs.Common.{◌≡◌, inl, inr, ℕ, ◌+◌, ◌^◌, ◌<◌, ◌≤◌, List, length, take, full_word, renewed_word, sym, ap, ◌∙◌, subst, arith, cases_lt, Memory, Program, thread_def, source_thread, IsAccepted, IsOldImage, OldEvent, old_event_at, old_held, old_held_for, old_released, own_old}
use Rattle.old_image.proofs.Lists.{own_few}
use Rattle.old_image.proofs.OldQueues.{IsOldReadAt, held_few, held_read}
use Rattle.old_image.proofs.Walks.{held_small}

-- each position of a queue has 21 bits
pub position_small : (program : Program) (words : Memory) (t k : ℕ) → IsOldImage program words → t < length program.threads → k < (thread_def program t).queue →
    old_released program words t + k < 2 ^ 21
position_small program words t k image known lt =
    elim (cases_lt k (length (old_held program words t))) [
      | inl held ↦ held_small program words t k held
      | inr behind ↦ ((image.queues t known).slots k lt).fits (omega arith)
    ]

-- a place of a held event is one of the queue
pub inside : (program : Program) (words : Memory) (t k : ℕ) → k < length (old_held program words t) → k < (thread_def program t).queue
inside program words t k lt = let few = held_few program words t in omega arith

-- a queue has few places
pub places_few : (program : Program) (t : ℕ) → IsAccepted program → t < length program.threads → (thread_def program t).queue < 33
places_few program t accepted known = let few = (accepted.threads t known).queue in omega arith

-- what was read of the event at a place among the held ones
pub read_at : (program : Program) (words : Memory) (t k : ℕ) (e : OldEvent) → k < length (old_held program words t) → e ≡ old_event_at (old_held program words t) k →
    IsOldReadAt program words t (old_released program words t + k) e
read_at program words t k e lt is = subst (IsOldReadAt program words t (old_released program words t + k)) (sym is) (held_read program words t k lt)

-- the word that is made of it
pub made : (p q count k : ℕ) (e : OldEvent) (held : List OldEvent) → p ≡ q → e ≡ old_event_at held k → count ≡ own_old e.source.0 (take k held) →
    full_word p e.source count e.value ≡ renewed_word q held k
made p q count k e held at is own =
    ap (λ n. full_word n e.source count e.value) at
    ∙ (ap (λ n. full_word q e.source n e.value) own ∙ ap (λ (x : OldEvent). full_word q x.source (own_old x.source.0 (take k held)) x.value) is)
