-- On how many clean pages words lie, and what an access takes off what is left.
use Rattle.task_run.proofs.Common.{◌≡◌, ℕ, suc, ◌+◌, ◌-◌, ◌*◌, ◌/◌, ◌<◌, ◌==◌, Bool, true, false, cond, List, [], ◌∷◌, arith, refl, ap, ◌∙◌, sym, inl, inr, fun_ext, cases_Bool, cases_eq, eqb-true, eq-eqb, ne_eqb, bit_at, Memory, Buffer, Copying, Loading, Storing, IsCopied, IsUnderWay, no_writes, is_dirty, is_dirty-true, is_dirty-false, after_copy}
use Rattle.std.specs.List.{list_any}
use Rattle.std.proofs.lemmas.Nat.Bits.{bit_at-zero}
use Rattle.thread_state.proofs.Pages.{marked_same, marked_other}
use Rattle.never_cut.specs.Cost.{pages_more}
use Rattle.task_run.specs.kept.Left.{with_page, clean_pages, copied, Rest, left_in}

pub pages_same : (f g : ℕ → Bool) (words : List ℕ) → ((q : ℕ) → f q ≡ g q) → clean_pages f words ≡ clean_pages g words
pages_same f g words same = ap (λ h. clean_pages h words) (fun_ext same)

pages_dirty : (f : ℕ → Bool) (w : ℕ) (words : List ℕ) → f (w / 8) ≡ true → clean_pages f (w ∷ words) ≡ clean_pages f words
unfolding clean_pages
pages_dirty f w words is = rw is refl

pages_clean : (f : ℕ → Bool) (w : ℕ) (words : List ℕ) → f (w / 8) ≡ false → clean_pages f (w ∷ words) ≡ 1 + clean_pages (with_page (w / 8) f) words
unfolding clean_pages
pages_clean f w words is = rw is refl

-- the pages that are written, and not yet in a list, are those that aren't dirty
pub pages_listed : (written words : List ℕ) → pages_more written words ≡ clean_pages (λ q. list_any (λ (page : ℕ). page == q) written) words
unfolding clean_pages
pages_listed written [] = refl
pages_listed written (w ∷ words) =
    elim (cases_Bool (list_any (λ (page : ℕ). page == w / 8) written)) [
      | inl is ↦ rw is (pages_listed written words)
      | inr is ↦ rw is (ap (λ n. 1 + n) (pages_listed (w / 8 ∷ written) words))
    ]

-- without writes no page is dirty
pub pages_fresh : (commit : ℕ) (words : List ℕ) → clean_pages (is_dirty (no_writes commit)) words ≡ pages_more [] words
pages_fresh commit words =
    pages_same (is_dirty (no_writes commit)) (λ q. false) words (λ q. is_dirty-false (no_writes commit) q (bit_at-zero q)) ∙ sym (pages_listed [] words)

-- a page that was copied is dirty
page_copied : (b : Buffer) (p v word q : ℕ) → is_dirty (after_copy b p (Storing 7 v) word) q ≡ with_page p (is_dirty b) q
page_copied b p v word q =
    elim (cases_eq p q) [
      | inl e ↦ rw (eq-eqb p q e) (is_dirty-true (after_copy b p (Storing 7 v) word) q (ap (λ k. bit_at (after_copy b p (Storing 7 v) word).dirty k) (sym e) ∙ marked_same b.dirty p))
      | inr ne ↦ rw (ne_eqb p q ne) (ap (λ (n : ℕ). n == 1) (marked_other b.dirty p q (λ e. ne (sym e))))
    ]

pub left_is : (b : Buffer) (x : Rest) → left_in b x ≡ x.spent.accesses + 16 * clean_pages (is_dirty b) x.spent.writes + x.behind - copied b.copying
unfolding left_in
left_is b x = refl

-- the same rest
pub left_same : (b : Buffer) (x y : Rest) → x.spent.accesses ≡ y.spent.accesses → x.spent.writes ≡ y.spent.writes → x.behind ≡ y.behind → left_in b x ≡ left_in b y
unfolding left_in
left_same b x y accesses writes behind = rw (accesses, writes, behind) refl

-- an access that is no write of the block
pub plain_left : (b : Buffer) (x y : Rest) → b.copying ≡ Loading 0 → x.spent.accesses ≡ suc y.spent.accesses → x.spent.writes ≡ y.spent.writes → x.behind ≡ y.behind →
    left_in b x ≡ suc (left_in b y)
unfolding left_in
plain_left b x y fresh accesses writes behind =
    let none : copied b.copying ≡ 0 = ap copied fresh in
    let pages : clean_pages (is_dirty b) x.spent.writes ≡ clean_pages (is_dirty b) y.spent.writes = ap (clean_pages (is_dirty b)) writes in
    omega arith

-- a write, on a page that is dirty
dirty_left : (b : Buffer) (w : ℕ) (x y : Rest) → b.copying ≡ Loading 0 → is_dirty b (w / 8) ≡ true → x.spent.accesses ≡ suc y.spent.accesses →
    x.spent.writes ≡ w ∷ y.spent.writes → x.behind ≡ y.behind → left_in b x ≡ suc (left_in b y)
unfolding left_in
dirty_left b w x y fresh dirty accesses writes behind =
    let none : copied b.copying ≡ 0 = ap copied fresh in
    let pages : clean_pages (is_dirty b) x.spent.writes ≡ clean_pages (is_dirty b) y.spent.writes =
    ap (clean_pages (is_dirty b)) writes ∙ pages_dirty (is_dirty b) w y.spent.writes dirty
    in omega arith

-- and one access of the copying of a page that isn't
copy_left : (b : Buffer) (w word : ℕ) (c : Copying) (x : Rest) (words : List ℕ) → b.copying ≡ c → copied c < 16 → is_dirty b (w / 8) ≡ false → x.spent.writes ≡ w ∷ words →
    left_in b x ≡ suc (left_in (after_copy b (w / 8) c word) x)
unfolding left_in
copy_left b w word (Loading k) x words is few clean writes =
    let so_far : copied b.copying ≡ 2 * k = ap copied is in
    let pages : clean_pages (is_dirty b) x.spent.writes ≡ 1 + clean_pages (with_page (w / 8) (is_dirty b)) words =
    ap (clean_pages (is_dirty b)) writes ∙ pages_clean (is_dirty b) w words clean
    in omega arith
copy_left b w word (Storing k v) x words is few clean writes =
    let so_far : copied b.copying ≡ 2 * k + 1 = ap copied is in
    let pages : clean_pages (is_dirty b) x.spent.writes ≡ 1 + clean_pages (with_page (w / 8) (is_dirty b)) words =
    ap (clean_pages (is_dirty b)) writes ∙ pages_clean (is_dirty b) w words clean
    in
    elim (cases_Bool (k == 7)) [
      | inl last ↦
          let seven : k ≡ 7 = eqb-true k 7 last in
          let next : Buffer = after_copy b (w / 8) (Storing 7 v) word in
          let here : with_page (w / 8) (is_dirty b) (w / 8) ≡ true = rw (eq-eqb (w / 8) (w / 8) refl) refl in
          let after : clean_pages (is_dirty next) x.spent.writes ≡ clean_pages (with_page (w / 8) (is_dirty b)) words =
          pages_same (is_dirty next) (with_page (w / 8) (is_dirty b)) x.spent.writes (page_copied b (w / 8) v word)
          ∙ (ap (clean_pages (with_page (w / 8) (is_dirty b))) writes ∙ pages_dirty (with_page (w / 8) (is_dirty b)) w words here)
          in
          let all : left_in b x ≡ suc (left_in next x) = omega arith in
          all ∙ ap (λ n. suc (left_in (after_copy b (w / 8) (Storing n v) word) x)) (sym seven)
      | inr more ↦ rw more (omega arith)
    ]

copy_few : (m : Memory) (t commit page : ℕ) (c : Copying) → IsCopied m t commit page c → copied c < 16
copy_few m t commit page (Loading k) is = let few : k < 8 = is.0 in omega arith
copy_few m t commit page (Storing k v) is = let few : k < 8 = is.0 in omega arith

-- an access of a write: one of the copying of its page, where the page isn't dirty
pub put_left : (m : Memory) (t : ℕ) (b : Buffer) (w word next : ℕ) (x y : Rest) → IsUnderWay m t b (w / 8) → x.spent.accesses ≡ suc y.spent.accesses →
    x.spent.writes ≡ w ∷ y.spent.writes → x.behind ≡ y.behind → (b.copying ≡ Loading 0 → left_in b y ≡ next) →
    left_in b x ≡ suc (cond (is_dirty b (w / 8)) next (left_in (after_copy b (w / 8) b.copying word) x))
put_left m t b w word next x y under accesses writes behind goes =
    elim under [
      | inl c ↦ rw (is_dirty-false b (w / 8) c.0) (copy_left b w word b.copying x y.spent.writes refl (copy_few m t b.commit (w / 8) b.copying c.1) (is_dirty-false b (w / 8) c.0) writes)
      | inr d ↦ rw (is_dirty-true b (w / 8) d.0) (dirty_left b w x y d.1 (is_dirty-true b (w / 8) d.0) accesses writes behind ∙ ap (λ n. suc n) (goes d.1))
    ]
