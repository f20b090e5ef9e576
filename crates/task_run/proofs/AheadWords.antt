-- The words that a machine finds that goes on ahead of its board.
use Rattle.task_run.proofs.Common.{◌≡◌, ℕ, ◌+◌, ◌<◌, ◌≤◌, List, length, get_or, arith, refl, ap, ◌∙◌, sym, ◌≢◌, ne_eqb, Place, Page, Memory, Program, IsAccepted, thread_def, pages_of}
use Rattle.ink_base.specs.declared.limits.TheConstants as limits
use Rattle.fram_words.specs.declared.layout.Layout.{Layout}
use Rattle.fram_words.specs.declared.place.Place as declared
use Rattle.fram_words.specs.declared.place.Place.TheVariants as variants
use Rattle.fram_words.specs.Shape.{memory_of}
use Rattle.fram_words.specs.Steps.{place_of}
use Rattle.ink_base.specs.declared.ids.ThreadId.{ThreadId}
use Rattle.ink_layout.specs.Addresses.{layout_address}
use Rattle.ink_layout.specs.Layouts.{IsLayout}
use Rattle.ink_layout.specs.Shape.{IsOnBoard, shape_of}
use Rattle.ink_layout.proofs.Regions.{valid}
use Rattle.task_run.specs.kept.Ahead.{block_index, found_at, IsAhead}

-- a thread has at most as many pages as the largest block
pub page_few : (program : Program) (t page : ℕ) → IsAccepted program → t < length program.threads → page < pages_of (thread_def program t) → page < 38
page_few program t page accepted known within = let few : (thread_def program t).state ≤ limits.STATE_NUMBERS = (accepted.threads t known).state in omega arith

-- the word of a place stands at its address
pub word_read : (program : Program) (layout : Layout) (words : List ℕ) (p : Place) → IsLayout program layout → IsOnBoard program p →
    get_or words (layout_address layout p) 0 ≡ memory_of (shape_of program) words p
word_read program layout words p is there = rw (is.addresses p there, valid program p there) refl

-- the word at the address of a place, which is this one
pub read_at : (program : Program) (layout : Layout) (words : List ℕ) (q p : declared.Place) → q ≡ p → IsLayout program layout → IsOnBoard program (place_of p) →
    get_or words (layout_address layout (place_of q)) 0 ≡ memory_of (shape_of program) words (place_of p)
read_at program layout words q p same is there = ap (λ z. get_or words (layout_address layout (place_of z)) 0) same ∙ word_read program layout words (place_of p) is there

-- a place on no page of the thread
pub other_page : (words : Memory) (t : ℕ) (block : List ℕ) (p : declared.Place) (u : ThreadId) (page copy word : ℕ) → p ≡ variants.Page u page copy word → u.0 ≢ t →
    words (place_of p) ≡ found_at words t block (place_of p)
other_page words t block p u page copy word is ne =
    ap (λ z. words (place_of z)) is ∙ (rw (ne_eqb u.0 t ne) refl ∙ ap (λ z. found_at words t block (place_of z)) (sym is))

pub no_page : (words : Memory) (t : ℕ) (block : List ℕ) (p : declared.Place) → ((u : ThreadId) (page copy word : ℕ) → p ≡ variants.Page u page copy word → ⊥) →
    words (place_of p) ≡ found_at words t block (place_of p)
no_page words t block (variants.Page u page copy word) none = absurd (none u page copy word refl)
no_page words t block _ none = refl

-- the words of a block, read from its first address on, are those of the board
pub begins_ahead : (program : Program) (layout : Layout) (words : List ℕ) (t : ℕ) (block : List ℕ) → IsAccepted program → IsLayout program layout → t < length program.threads →
    ((n : ℕ) → n < 608 → get_or block n 0 ≡ get_or words (layout_address layout (Page t 0 0 0) + n) 0) →
    IsAhead program (memory_of (shape_of program) words) t block (memory_of (shape_of program) words)
begins_ahead program layout words t block accepted is known read = record {
  elsewhere = λ p out. refl;
  pages = λ page copy word within two eight.
      let few : page < 38 = page_few program t page accepted known within in
      let n : ℕ = block_index page copy word in
      let at : layout_address layout (Page t page copy word) ≡ layout_address layout (Page t 0 0 0) + n = omega arith in
      sym (word_read program layout words (Page t page copy word) is (known, within, two, eight)) ∙ (ap (λ a. get_or words a 0) at ∙ sym (read n (omega arith)));
}
