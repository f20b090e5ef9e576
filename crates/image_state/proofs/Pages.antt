-- What the words tell of a page that a thread doesn't have.
use Rattle.image_state.proofs.Common.{◌≡◌, ℕ, zero, suc, ◌*◌, ◌/◌, ◌%◌, ◌<◌, ◌≤◌, ◌&&◌, ◌++◌, Bool, true, false, List, [], ◌∷◌, length, map, get_or, refl, sym, ◌∙◌, subst, arith, le-ltb, slice_index, Program, ThreadDef, thread_def, no_thread_def, Page, Commit, place_in, committed, pages_of, thread_shape, shape_of, by_place}
use Rattle.std.specs.Int.{bit_at}
use Rattle.fram_words.specs.Shape.{is_valid, regions, region, has_indices, thread_regions, queue_regions}
use Rattle.ink_layout.proofs.Regions.{at_right}
use Rattle.never_cut.proofs.FirstImages.{nothing_at}

-- the words of a thread's pages
pages_at : (defs : List ThreadDef) (rest : List ℕ) (t : ℕ) → t < length defs →
    get_or (thread_regions (map thread_shape defs) ++ rest) (suc (3 * t)) 0 ≡ 16 * pages_of (get_or defs t no_thread_def)
pages_at [] rest t lt = absurd (omega arith)
pages_at (d ∷ defs) rest zero lt = refl
pages_at (d ∷ defs) rest (suc t) lt =
    let e : suc (3 * suc t) ≡ suc (suc (suc (suc (3 * t)))) = omega arith in
    subst (λ n. get_or (thread_regions (map thread_shape (d ∷ defs)) ++ rest) n 0 ≡ 16 * pages_of (get_or defs t no_thread_def)) (sym e) (pages_at defs rest t (omega arith))

-- two tests fail where the second does
false_second : (a c : Bool) → c ≡ false → (a && c) ≡ false
false_second true c is = is
false_second false c is = refl

-- such a page is none of the board's words
no_page : (program : Program) (t p b k : ℕ) → t < length program.threads → pages_of (thread_def program t) ≤ p → is_valid (shape_of program) (Page t p b k) ≡ false
no_page program t p b k known past =
    let behind : List ℕ = (shape_of program).pipes ++ (queue_regions (shape_of program).queues ++ (length program.sources ∷ 1 ∷ length program.sources ∷ [])) in
    let size : slice_index (regions (shape_of program)) (region (shape_of program) (Page t p b k)) ≡ 16 * pages_of (thread_def program t) =
    at_right (shape_of program).tasks (thread_regions (shape_of program).threads ++ behind) (suc (3 * t)) (region (shape_of program) (Page t p b k)) (omega arith)
    ∙ pages_at program.threads behind t known in
    false_second (has_indices (shape_of program) (Page t p b k)) _ (le-ltb _ _ (omega (arith, size)))

-- a word of a committed copy beyond the thread's pages is 0
pub beyond_pages : (program : Program) (words : List ℕ) (t w : ℕ) → t < length program.threads → 8 * pages_of (thread_def program t) ≤ w →
    committed (by_place program words) t w ≡ 0
beyond_pages program words t w known past =
    let mask : ℕ = by_place program words (Commit t) in
    nothing_at program words (place_in t mask w) (no_page program t (w / 8) (bit_at mask (w / 8)) (w % 8) known (omega arith))
