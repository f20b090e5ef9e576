-- The pages that aren't dirty, and the accesses that copy them.
use Rattle.task_run.proofs.Common.{◌≡◌, ◌≢◌, ℕ, zero, suc, ◌+◌, ◌-◌, ◌*◌, ◌^◌, ◌<◌, ◌≤◌, bit_or, arith, refl, inl, inr, cases_eq, ne_eqb, bit_at, Copying, Loading, Storing, after_copy}
use Rattle.std.proofs.lemmas.Nat.Bits.{bit_at-zero}
use Rattle.thread_state.proofs.Pages.{marked_same, marked_other}
use Rattle.task_run.specs.kept.LeftMost.{copied, IsInPage, clean_pages}

-- no page is dirty before the first write
pub clean-none : (pages : ℕ) → clean_pages 0 pages ≡ pages
clean-none zero = refl
clean-none (suc n) = rw (bit_at-zero n, clean-none n) (omega arith)

-- one that isn't dirty counts
clean-some : (dirty page pages : ℕ) → bit_at dirty page ≢ 1 → page < pages → 1 ≤ clean_pages dirty pages
clean-some dirty page zero clean lt = absurd (omega arith)
clean-some dirty page (suc n) clean lt =
    elim (cases_eq n page) [
      | inl same ↦ rw (same, ne_eqb _ 1 clean) (omega arith)
      | inr other ↦ let more : 1 ≤ clean_pages dirty n = clean-some dirty page n clean (omega arith) in omega arith
    ]

-- those before a page that becomes dirty
clean-below : (dirty page pages : ℕ) → pages ≤ page → clean_pages (bit_or dirty (2 ^ page)) pages ≡ clean_pages dirty pages
clean-below dirty page zero le = refl
clean-below dirty page (suc n) le = let ne : n ≢ page = omega arith in rw (marked_other dirty page n ne, clean-below dirty page n (omega arith)) refl

-- a page that becomes dirty is one less
clean-marked : (dirty page pages : ℕ) → bit_at dirty page ≢ 1 → page < pages → clean_pages (bit_or dirty (2 ^ page)) pages + 1 ≡ clean_pages dirty pages
clean-marked dirty page zero clean lt = absurd (omega arith)
clean-marked dirty page (suc n) clean lt =
    elim (cases_eq n page) [
      | inl same ↦ rw (same, marked_same dirty page, clean-below dirty page page (omega arith), ne_eqb _ 1 clean) (omega arith)
      | inr other ↦ let ne : n ≢ page = other in let more = clean-marked dirty page n clean (omega arith) in rw (marked_other dirty page n ne) (omega arith)
    ]

-- each access of the copying of a page is one of its sixteen, and stays at a word of the page
pub copy-falls : (c dirty page pages word : ℕ) (x : Copying) → bit_at dirty page ≢ 1 → page < pages → IsInPage x →
    let next = after_copy (record { commit = c; dirty = dirty; copying = x }) page x word in
    (16 * clean_pages next.dirty pages - copied next.copying < 16 * clean_pages dirty pages - copied x) × IsInPage next.copying
copy-falls c dirty page pages word (Loading k) clean lt inside = let some : 1 ≤ clean_pages dirty pages = clean-some dirty page pages clean lt in (omega arith, inside)
copy-falls c dirty page pages word (Storing k v) clean lt inside =
    let some : 1 ≤ clean_pages dirty pages = clean-some dirty page pages clean lt in
    let marked : clean_pages (bit_or dirty (2 ^ page)) pages + 1 ≡ clean_pages dirty pages = clean-marked dirty page pages clean lt in
    elim (cases_eq k 7) [ inl last ↦ rw last (omega arith, omega arith) | inr more ↦ rw (ne_eqb k 7 more) (omega arith, omega arith) ]
