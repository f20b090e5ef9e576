-- A machine that goes on ahead of its board finds what it would find there, and comes to the same registers.
use Rattle.task_run.proofs.Common.{◌≡◌, ℕ, zero, suc, ◌-◌, ◌/◌, ◌%◌, ◌<◌, Bool, true, false, List, length, get_or, set, get_or-set_same, get_or-set_other, arith, refl, ap, ◌∙◌, sym, inl, inr, subst, eq-eqb, ne_eqb, false≢true, cases_Bool, cases_eq, Place, Page, Log, Ring, Memory, Load, Store, store, perform, answer, store-same, store-other, place_in, working_mask, Buffer, Copying, Loading, Storing, is_dirty, put_access, copy_access, after_copy, Program, IsAccepted, FitsWord, pages_of, thread_def, Phase, Resume, StoreCommit, StoreAck, StoreEmpty, Over, TaskMachine, Action, Put, Get, Make, action, want, take, after, after_action, is_late, bit_at, next_word, None, ReadPeriod, Fetch, ReadState, ReadCount, LoadReader, LoadTaken, ReadWritten, ReadTotal, if◌then◌else◌}
use Rattle.fram_words.specs.Places.{Exchange, Add, place_of}
use Rattle.ink_layout.specs.Shape.{IsOnBoard}
use Rattle.fram_words.specs.Header as header
use Rattle.task_run.specs.Actions as actions
use Rattle.task_run.specs.Machine.{after_resume}
use Rattle.task_run.specs.Remaining.{Alone, next_alone, alone, is_committed}
use Rattle.task_run.specs.kept.Ahead.{block_index, found_at, found_by, kept_at, kept_by, IsElsewhere, IsAhead}
use Rattle.task_run.proofs.AheadWords.{page_few}
use Rattle.task_run.proofs.Keeping.{IsBefore}

-- one more access behind the others
pub alone_more : (program : Program) (n : ℕ) (b : Alone) → alone program (suc n) b ≡ next_alone program (alone program n b)
alone_more program zero b = refl
alone_more program (suc n) b = alone_more program n (next_alone program b)

-- no word of a log or a ring
abbrev IsRead : Place → Type 0
IsRead (Log u n) = ⊥
IsRead (Ring q n) = ⊥
IsRead _ = Unit {0}

-- a word of a log or a ring
abbrev IsUnread : Place → Type 0
IsUnread (Log u n) = Unit {0}
IsUnread (Ring q n) = Unit {0}
IsUnread _ = ⊥

-- what an action beside the block loads is read, and what a write or another store finds is not looked at
abbrev Looks : Program → TaskMachine → Phase → Action → Type 0
Looks program r phase (Put w v) = (x y : ℕ) → after program r phase x ≡ after program r phase y
Looks program r phase (Get w) = Unit {0}
Looks program r phase (Make (Load p)) = IsRead p
Looks program r phase (Make (Store p v)) = (x y : ℕ) → after program r phase x ≡ after program r phase y
Looks program r phase (Make (Exchange p e v)) = ⊥
Looks program r phase (Make (Add p n)) = ⊥

resumes_alike : (program : Program) (r : TaskMachine) (late : Bool) → late ≡ is_late program r →
    Looks program r Resume (if late then Put header.next (next_word None) else actions.fetch r)
resumes_alike program r true is = λ x y. ap (λ c. after_resume program r c x) (sym is) ∙ ap (λ c. after_resume program r c y) is
resumes_alike program r false is = tt

looks : (program : Program) (r : TaskMachine) (phase : Phase) → is_committed phase ≡ false → Looks program r phase (action program r phase)
looks program r Resume alive = resumes_alike program r (is_late program r) refl
looks program r (StoreAck source count) alive = absurd (false≢true (sym alive))
looks program r StoreEmpty alive = absurd (false≢true (sym alive))
looks program r Over alive = absurd (false≢true (sym alive))
looks program r ReadPeriod alive = tt
looks program r Fetch alive = tt
looks program r (ReadState a n) alive = tt
looks program r (ReadCount v) alive = tt
looks program r (LoadReader s) alive = tt
looks program r (LoadTaken s commit) alive = tt
looks program r (ReadWritten s taken) alive = tt
looks program r ReadTotal alive = tt
looks program r phase alive = λ x y. refl

-- which words fit a phase whose write or store doesn't look at what it finds
abbrev FitsAlike : Program → Phase → Action → Type 0
FitsAlike program phase (Put w v) = (x y : ℕ) → FitsWord program phase x → FitsWord program phase y
FitsAlike program phase (Make (Store p v)) = (x y : ℕ) → FitsWord program phase x → FitsWord program phase y
FitsAlike program phase _ = Unit {0}

fits_alike : (program : Program) (r : TaskMachine) (phase : Phase) → FitsAlike program phase (action program r phase)
fits_alike program r Resume = elim (cases_Bool (is_late program r)) [ inl late ↦ rw late (λ x y h. h) | inr early ↦ rw early tt ]
fits_alike program r ReadPeriod = tt
fits_alike program r Fetch = tt
fits_alike program r (ReadState a n) = tt
fits_alike program r (ReadCount v) = tt
fits_alike program r (LoadReader s) = tt
fits_alike program r (LoadTaken s commit) = tt
fits_alike program r (ReadWritten s taken) = tt
fits_alike program r ReadTotal = tt
fits_alike program r Over = tt
fits_alike program r phase = λ x y h. h

-- before the commit a store beside the block is one to a log or a ring
abbrev Keeps : Action → Type 0
Keeps (Put w v) = Unit {0}
Keeps (Get w) = Unit {0}
Keeps (Make (Load p)) = Unit {0}
Keeps (Make (Store p v)) = IsUnread p
Keeps (Make (Exchange p e v)) = ⊥
Keeps (Make (Add p n)) = ⊥

keeps : (program : Program) (r : TaskMachine) (phase : Phase) → IsBefore phase → Keeps (action program r phase)
keeps program r Resume before = elim (cases_Bool (is_late program r)) [ inl late ↦ rw late tt | inr early ↦ rw early tt ]
keeps program r StoreCommit before = absurd before
keeps program r (StoreAck source count) before = absurd before
keeps program r StoreEmpty before = absurd before
keeps program r Over before = absurd before
keeps program r phase before = tt

module _ (program : Program) (words : Memory) (t : ℕ) (block : List ℕ) (now : Memory) (known : IsAhead program words t block now) where
  -- a word that is loaded
  loads : (p : Place) → IsOnBoard program p → IsRead p → now p ≡ found_at words t block p
  loads (Page u page copy word) there read =
      elim (cases_eq u t) [
        | inl e ↦
            rw (eq-eqb u t e)
            (ap (λ z. now (Page z page copy word)) e
            ∙ known.pages page copy word (subst (λ z. page < pages_of (thread_def program z)) e there.1) there.2 there.3)
        | inr ne ↦ rw (ne_eqb u t ne) (known.elsewhere (Page u page copy word) ne)
      ]
  loads (Log u n) there read = absurd read
  loads (Ring q n) there read = absurd read
  loads p there read = known.elsewhere p tt

  copies_alike : (b : Buffer) (u page : ℕ) (c : Copying) → IsOnBoard program (place_of (copy_access u b.commit page c)) →
      after_copy b page c (answer now (copy_access u b.commit page c)) ≡ after_copy b page c (found_by words t block (copy_access u b.commit page c))
  copies_alike b u page (Loading k) there = ap (after_copy b page (Loading k)) (loads (Page u page (bit_at b.commit page) k) there tt)
  copies_alike b u page (Storing k v) there = refl

  -- the registers after an access are those that the words of the board would lead to
  takes_alike : (r : TaskMachine) (a : Action) → Looks program r r.phase a → IsOnBoard program (place_of (actions.access_of r a)) →
      after_action program r a (answer now (actions.access_of r a)) ≡ after_action program r a (found_by words t block (actions.access_of r a))
  takes_alike r (Put w v) look there =
      elim (cases_Bool (is_dirty r.buffer (w / 8))) [
        | inl dirty ↦ rw dirty (look _ _)
        | inr clean ↦
            let on = rw clean at there in
            rw clean (ap (λ b. record r { buffer = b }) (copies_alike r.buffer r.pick.thread.0 (w / 8) r.buffer.copying on))
      ]
  takes_alike r (Get w) look there = ap (after program r r.phase) (loads (place_in r.pick.thread.0 (working_mask r.buffer) w) there tt)
  takes_alike r (Make (Load p)) look there = ap (after program r r.phase) (loads p there look)
  takes_alike r (Make (Store p v)) look there = look (now p) 0
  takes_alike r (Make (Exchange p e v)) look there = absurd look
  takes_alike r (Make (Add p n)) look there = absurd look

  -- a word that fits on the board fits ahead of it
  fits_there : (r : TaskMachine) (a : Action) → Looks program r r.phase a → FitsAlike program r.phase a → IsOnBoard program (place_of (actions.access_of r a)) →
      FitsWord program r.phase (answer now (actions.access_of r a)) → FitsWord program r.phase (found_by words t block (actions.access_of r a))
  fits_there r (Put w v) look alike there h = alike _ _ h
  fits_there r (Get w) look alike there h =
      subst (λ n. FitsWord program r.phase n) (loads (place_in r.pick.thread.0 (working_mask r.buffer) w) there tt) h
  fits_there r (Make (Load p)) look alike there h = subst (λ n. FitsWord program r.phase n) (loads p there look) h
  fits_there r (Make (Store p v)) look alike there h = alike (now p) 0 h
  fits_there r (Make (Exchange p e v)) look alike there h = absurd look
  fits_there r (Make (Add p n)) look alike there h = absurd look

  -- a store in the block
  store_own : (page copy word v : ℕ) → IsOnBoard program (Page t page copy word) → block_index page copy word < length block →
      IsAhead program words t (set block (block_index page copy word) v) (store now (Page t page copy word) v)
  store_own page copy word v there inside = record {
    elsewhere = beside;
    pages = λ q c k within two eight.
        elim (cases_eq (block_index q c k) (block_index page copy word)) [
          | inl e ↦
              let low : copy < 2 = there.2 in
              let few : word < 8 = there.3 in
              let same_page : q ≡ page = omega arith in
              let same_copy : c ≡ copy = omega arith in
              let same_word : k ≡ word = omega arith in
              let here : Page t q c k ≡ Page t page copy word = ap (λ z. Page t z c k) same_page ∙ (ap (λ z. Page t page z k) same_copy ∙ ap (Page t page copy) same_word) in
              ap (store now (Page t page copy word) v) here
              ∙ (store-same now (Page t page copy word) v ∙ sym (ap (λ n. get_or (set block (block_index page copy word) v) n 0) e ∙ get_or-set_same block (block_index page copy word) v 0 inside))
          | inr ne ↦
              store-other now (Page t page copy word) (Page t q c k) v (λ path. let a : page ≡ q = cc in let b : copy ≡ c = cc in let d : word ≡ k = cc in ne (omega arith))
              ∙ (known.pages q c k within two eight ∙ sym (get_or-set_other block (block_index page copy word) (block_index q c k) v 0 ne))
        ];
  }
    where
      beside : (p : Place) → IsElsewhere t p → store now (Page t page copy word) v p ≡ words p
      beside (Page u q c k) out = store-other now (Page t page copy word) (Page u q c k) v (λ path. out (cc)) ∙ known.elsewhere (Page u q c k) out
      beside (Log u n) out = absurd out
      beside (Ring q n) out = absurd out
      beside p out = known.elsewhere p out

  -- and one that is never read before the commit
  store_unread : (p : Place) (v : ℕ) → IsUnread p → IsAhead program words t block (store now p v)
  store_unread (Log u n) v unread = record { elsewhere = beside; pages = λ q c k within two eight. known.pages q c k within two eight }
    where
      beside : (p : Place) → IsElsewhere t p → store now (Log u n) v p ≡ words p
      beside (Log w k) out = absurd out
      beside (Ring q k) out = absurd out
      beside p out = known.elsewhere p out
  store_unread (Ring q n) v unread = record { elsewhere = beside; pages = λ q c k within two eight. known.pages q c k within two eight }
    where
      beside : (p : Place) → IsElsewhere t p → store now (Ring q n) v p ≡ words p
      beside (Log w k) out = absurd out
      beside (Ring r k) out = absurd out
      beside p out = known.elsewhere p out
  store_unread _ v unread = absurd unread

  unread_kept : (p : Place) (v : ℕ) → IsUnread p → kept_at t block p v ≡ block
  unread_kept (Log u n) v unread = refl
  unread_kept (Ring q n) v unread = refl
  unread_kept _ v unread = absurd unread

  -- a store to the thread's page
  page_kept : IsAccepted program → length block ≡ 608 → (page copy word v : ℕ) → IsOnBoard program (Page t page copy word) →
      IsAhead program words t (kept_at t block (Page t page copy word) v) (store now (Page t page copy word) v)
  page_kept accepted size page copy word v there =
      let few : page < 38 = page_few program t page accepted there.0 there.1 in
      let low : copy < 2 = there.2 in
      let small : word < 8 = there.3 in
      rw (eq-eqb t t refl) (store_own page copy word v there (omega arith))

  copies_kept : IsAccepted program → length block ≡ 608 → (b : Buffer) (page : ℕ) (c : Copying) → IsOnBoard program (place_of (copy_access t b.commit page c)) →
      IsAhead program words t (kept_by t block (copy_access t b.commit page c)) (perform now (copy_access t b.commit page c))
  copies_kept accepted size b page (Loading k) there = known
  copies_kept accepted size b page (Storing k v) there = page_kept accepted size page (1 - bit_at b.commit page) k v there

  -- the words after an access before the commit
  keeps_ahead : IsAccepted program → length block ≡ 608 → (r : TaskMachine) (a : Action) → t ≡ r.pick.thread.0 → Keeps a → IsOnBoard program (place_of (actions.access_of r a)) →
      IsAhead program words t (kept_by t block (actions.access_of r a)) (perform now (actions.access_of r a))
  keeps_ahead accepted size r (Put w v) own keep there =
      let b : Buffer = r.buffer in
      let at : IsOnBoard program (place_of (put_access t b w v)) = subst (λ u. IsOnBoard program (place_of (put_access u b w v))) (sym own) there in
      subst (λ u. IsAhead program words t (kept_by t block (put_access u b w v)) (perform now (put_access u b w v))) own
      (elim (cases_Bool (is_dirty b (w / 8))) [
        | inl dirty ↦ let on = rw dirty at at in rw dirty (page_kept accepted size (w / 8) (bit_at (working_mask b) (w / 8)) (w % 8) v on)
        | inr clean ↦ let on = rw clean at at in rw clean (copies_kept accepted size b (w / 8) b.copying on)
      ])
  keeps_ahead accepted size r (Get w) own keep there = known
  keeps_ahead accepted size r (Make (Load p)) own keep there = known
  keeps_ahead accepted size r (Make (Store p v)) own keep there = rw (unread_kept p v keep) (store_unread p v keep)
  keeps_ahead accepted size r (Make (Exchange p e v)) own keep there = absurd keep
  keeps_ahead accepted size r (Make (Add p n)) own keep there = absurd keep

-- the registers after an access up to the commit
pub takes_same : (program : Program) (words : Memory) (block : List ℕ) (now : Memory) (r : TaskMachine) → IsAhead program words r.pick.thread.0 block now → is_committed r.phase ≡ false →
    IsOnBoard program (place_of (want program r)) → take program r (answer now (want program r)) ≡ take program r (found_by words r.pick.thread.0 block (want program r))
takes_same program words block now r known alive there =
    takes_alike program words r.pick.thread.0 block now known r (action program r r.phase) (looks program r r.phase alive) there

-- and the words, where the commit wasn't made
pub stays_ahead : (program : Program) (words : Memory) (block : List ℕ) (now : Memory) (r : TaskMachine) → IsAccepted program → length block ≡ 608 →
    IsAhead program words r.pick.thread.0 block now → IsBefore r.phase → IsOnBoard program (place_of (want program r)) →
    IsAhead program words r.pick.thread.0 (kept_by r.pick.thread.0 block (want program r)) (perform now (want program r))
stays_ahead program words block now r accepted size known before there =
    keeps_ahead program words r.pick.thread.0 block now known accepted size r (action program r r.phase) refl (keeps program r r.phase before) there

-- the word that an access finds ahead fits, as that on the board does
pub fits_ahead : (program : Program) (words : Memory) (block : List ℕ) (now : Memory) (r : TaskMachine) → IsAhead program words r.pick.thread.0 block now → is_committed r.phase ≡ false →
    IsOnBoard program (place_of (want program r)) → FitsWord program r.phase (answer now (want program r)) →
    FitsWord program r.phase (found_by words r.pick.thread.0 block (want program r))
fits_ahead program words block now r known alive there h =
    fits_there program words r.pick.thread.0 block now known r (action program r r.phase) (looks program r r.phase alive) (fits_alike program r r.phase) there h
