-- A store to the word of a place.
use Rattle.old_image.proofs.Common.{◌≡◌, ◌≢◌, ℕ, ◌<◌, List, length, refl, sym, ap, ◌∙◌, subst, arith, Memory, Place, Program}
use Rattle.std.proofs.Common.{set}
use Rattle.fram_words.specs.Changes.{Becomes}
use Rattle.fram_words.specs.Places.{store}
use Rattle.fram_words.specs.Shape.{address, memory_of}
use Rattle.fram_words.specs.declared.layout.Layout.{Layout}
use Rattle.fram_words.proofs.Addresses.{store_word}
use Rattle.fram_words.proofs.Frames.{store-same, store-other}
use Rattle.ink_layout.specs.Addresses.{layout_address}
use Rattle.ink_layout.specs.Layouts.{IsLayout}
use Rattle.ink_layout.specs.Shape.{IsOnBoard, shape_of, words_of}
use Rattle.ink_layout.proofs.Regions.{valid, below}

pub stored : (program : Program) (layout : Layout) (words : List ℕ) (p : Place) (v : ℕ) → IsLayout program layout → IsOnBoard program p →
    length words ≡ words_of (shape_of program) →
    Becomes p v (memory_of (shape_of program) words) (memory_of (shape_of program) (set words (layout_address layout p) v))
stored program layout words p v is on count =
    let at : layout_address layout p ≡ address (shape_of program) p = is.addresses p on in
    let lt = below program p on in
    let becomes : memory_of (shape_of program) (set words (layout_address layout p) v) ≡ store (memory_of (shape_of program) words) p v =
    ap (λ a. memory_of (shape_of program) (set words a v)) at ∙ store_word (shape_of program) words p v (valid program p on) (omega (arith, count, lt)) in
    record {
      here = ap (λ (m : Memory). m p) becomes ∙ store-same (memory_of (shape_of program) words) p v;
      elsewhere = λ q ne. ap (λ (m : Memory). m q) becomes ∙ store-other (memory_of (shape_of program) words) p q v (λ e. ne (sym e));
    }
