-- The calls of a source: each is one step that the rule allows.
use Rattle.event_queue.proofs.Common.{◌≡◌, ◌≢◌, inl, inr, ℕ, ◌+◌, ◌-◌, ◌%◌, ◌^◌, ◌<◌, ◌≤◌, ◌==◌, max, cond, Bool, false, List, [], ◌∷◌, ◌++◌, length, set, slice_index, refl, sym, ap, ◌∙◌, subst, arith, eq-eqb, ne_eqb, length-append, length-set, mod-lt, le_refl, eqb, cases_eq, some, either, keeps, Allows, exchanged, empty_word, slot_in, Call, LoadTail, LoadSlot, Publish, HelpTail, Source, Lay, Told, View, Becomes, put, with_source, Entry, full, Tail, Slot, address, word_at, won, knows_of, mine_of, next_of, tail_of, published_of, released_by_of, published_by, released_by, places_of, queue_of, sole, Tells, Made, found, Kept, Queues}
use Rattle.ink_base.specs.declared.limits.TheConstants as limits
use Rattle.event_queue.proofs.Basics.{put_here, put_else, below}
use Rattle.event_queue.proofs.Sources.{source_more, own_entry}
use Rattle.event_queue.proofs.Moves.{kept_call, kept_tail, kept_push}
use Rattle.event_queue.proofs.Shows.{shows_tail, shows_slot, slot_counts, free_next}
use Rattle.event_queue.proofs.Calls.{has_tail, has_slot, word_there, Goes, source_queues, source_load, told_kept, stored, with_key}

-- the tail of the source's queue, or one of its slots
abbrev pub Own : ℕ → Lay → Type 0
Own i lay = i < length lay.sources

pub allows_load_tail : (key lay : Lay) (n id i : ℕ) (calls : List Call) (told : Told) → Own i lay
    → Allows (Queues key) n id (sole lay (Source i) calls told, []) (address lay (Tail (queue_of lay i))) (λ x. x) (Made (found (LoadTail 0)) (sole lay (Source i) calls told, []))
allows_load_tail key lay n id i calls told own s q len at lim =
    with_key q id (λ (z : Lay) (c : List Call). Own i z → Goes key s (address z (Tail (queue_of z i))) id (slice_index s.words (address z (Tail (queue_of z i)))) (sole z (Source i) c told) (found (LoadTail 0))) at
    (λ at own.
    let t : ℕ = queue_of key i in
    let w : ℕ = word_at key s.words (Tail t) in
    let near = (q.kept.queues t).tail_near in
    let room = (q.kept.queues t).room in
    let old = q.kept.sources i in
    source_load q id i told (Tail t) (found (LoadTail 0)) at (has_tail key t (q.limits.queues i own)) (shows_tail q.limits q.kept i told (told_kept q id (Source i) _ told t at))
    (kept_call q.kept i (LoadTail w ∷ q.calls.source i) refl (source_more (knows_of (places_of key t) (LoadTail w ∷ q.calls.source i)) old refl refl (omega (arith, old.tail_was)) (omega (arith, old.out)) (omega (arith, old.gone)))))
    own

pub allows_load_slot : (key lay : Lay) (n id i slot : ℕ) (calls : List Call) (told : Told) → Own i lay → slot < places_of lay (queue_of lay i)
    → Allows (Queues key) n id (sole lay (Source i) calls told, []) (address lay (Slot (queue_of lay i) slot)) (λ x. x) (Made (found (LoadSlot slot 0)) (sole lay (Source i) calls told, []))
allows_load_slot key lay n id i slot calls told own lt s q len at lim =
    with_key q id (λ (z : Lay) (c : List Call). Own i z → slot < places_of z (queue_of z i)
    → Goes key s (address z (Slot (queue_of z i) slot)) id (slice_index s.words (address z (Slot (queue_of z i) slot))) (sole z (Source i) c told) (found (LoadSlot slot 0))) at
    (λ at own lt.
    let t : ℕ = queue_of key i in
    let w : ℕ = word_at key s.words (Slot t slot) in
    let old = q.kept.sources i in
    let counts = slot_counts q.limits q.kept i slot lt in
    source_load q id i told (Slot t slot) (found (LoadSlot slot 0)) at (has_slot key t slot (q.limits.queues i own) lt) (shows_slot q.limits q.kept i slot told (told_kept q id (Source i) _ told t at) own lt)
    (kept_call q.kept i (LoadSlot slot w ∷ q.calls.source i) refl (source_more (knows_of (places_of key t) (LoadSlot slot w ∷ q.calls.source i)) old refl refl old.tail_was (omega (arith, old.out, counts.0)) (omega (arith, old.gone, counts.1)))))
    own lt

-- the tail that a move shows
moved_tail : (w p : ℕ) → w ≡ p → cond (w == p) (p + 1) w ≡ p + 1
moved_tail w p e = ap (λ (b : Bool). cond b (p + 1) w) (eq-eqb w p e)

unmoved_tail : (w p : ℕ) → w ≢ p → cond (w == p) (p + 1) w ≡ w
unmoved_tail w p e = ap (λ (b : Bool). cond b (p + 1) w) (ne_eqb w p e)

pub allows_help_tail : (key lay : Lay) (n id i p : ℕ) (calls : List Call) (told : Told) → Own i lay → p < max (slice_index told.published (queue_of lay i)) (published_of (places_of lay (queue_of lay i)) calls)
    → Allows (Queues key) n id (sole lay (Source i) calls told, []) (address lay (Tail (queue_of lay i))) (λ x. either (eqb x p) (p + 1) x) (Made (found (HelpTail p 0)) (sole lay (Source i) calls told, []))
allows_help_tail key lay n id i p calls told own lt s q len at lim =
    with_key q id (λ (z : Lay) (c : List Call). Own i z → p < max (slice_index told.published (queue_of z i)) (published_of (places_of z (queue_of z i)) c)
    → Goes key s (address z (Tail (queue_of z i))) id (either (eqb (slice_index s.words (address z (Tail (queue_of z i)))) p) (p + 1) (slice_index s.words (address z (Tail (queue_of z i))))) (sole z (Source i) c told) (found (HelpTail p 0))) at
    (λ at own lt.
    let t : ℕ = queue_of key i in
    let N : ℕ = places_of key t in
    let has = has_tail key t (q.limits.queues i own) in
    let a : ℕ = address key (Tail t) in
    let w : ℕ = word_at key s.words (Tail t) in
    let x : ℕ = slice_index s.words a in
    let there : w ≡ x = word_there key s.words (Tail t) has in
    let old = q.kept.sources i in
    let near = (q.kept.queues t).tail_near in
    let room = (q.kept.queues t).room in
    let k = told_kept q id (Source i) _ told t at in
    let below : p < length (q.entries t) = omega (arith, old.out, k.published) in
    let tells = shows_tail q.limits q.kept i told k in
    let v : View = sole key (Source i) (q.calls.source i) told in
    exchanged x p (p + 1) (λ (y : ℕ). Goes key s a id y v (found (HelpTail p 0)))
    (λ hit.
    let words' : List ℕ = set s.words a (p + 1) in
    let is : w ≡ p = there ∙ hit in
    let b = stored q id (Tail t) (p + 1) has in
    let now : List Call = HelpTail p x ∷ q.calls.source i in
    let shown = moved_tail x p hit in
    let kept1 = kept_tail q.kept (word_at key words') t (omega arith) (record { here = b.here ∙ ap (λ (y : ℕ). y + 1) (sym is); elsewhere = b.elsewhere }) in
    let at_t : word_at key words' (Tail t) ≡ p + 1 = b.here in
    let old1 = kept1.sources i in (
      sole key (Source i) now told,
      keeps,
      tt,
      source_queues q id i told (HelpTail p x) at words' (length-set s.words a (p + 1)) q.entries (λ u. le_refl (length (q.entries u)))
          (kept_call kept1 i now refl (source_more (knows_of N now) old1 refl refl (omega (arith, shown, old.tail_was)) (omega (arith, shown, old.out)) (omega (arith, shown, old.gone)))),
      (refl, subst (λ (y : ℕ). Tells v (HelpTail p y)) there tells),
    ))
    (λ miss.
    let now : List Call = HelpTail p w ∷ q.calls.source i in
    let shown = unmoved_tail w p (λ e. miss (sym there ∙ e)) in
    source_load q id i told (Tail t) (found (HelpTail p 0)) at has tells
    (kept_call q.kept i now refl (source_more (knows_of N now) old refl refl (omega (arith, shown, old.tail_was)) (omega (arith, shown, old.out)) (omega (arith, shown, old.gone))))))
    own lt

-- the same for a slot of the tail
abbrev pub pushed_word : ℕ → ℕ → List Call → ℕ → ℕ
pushed_word p i calls x = full p (own_entry i (length (mine_of calls)) 0 x)

pub allows_publish : (key lay : Lay) (n id i p r x : ℕ) (calls : List Call) (told : Told) → Own i lay → p ≤ tail_of calls → next_of calls ≤ r → r < limits.READINGS → x < 2 ^ 32
    → Allows (Queues key) n id (sole lay (Source i) calls told, []) (address lay (Slot (queue_of lay i) (p % places_of lay (queue_of lay i)))) (λ y. either (eqb y (empty_word p)) (pushed_word p i calls x) y)
    (Made (found (Publish p r x 0)) (sole lay (Source i) calls told, []))
allows_publish key lay n id i p r x calls told own seen next limit fits s q len at lim =
    with_key q id (λ (z : Lay) (c : List Call). Own i z → p ≤ tail_of c → next_of c ≤ r
    → Goes key s (address z (Slot (queue_of z i) (p % places_of z (queue_of z i)))) id (either (eqb (slice_index s.words (address z (Slot (queue_of z i) (p % places_of z (queue_of z i))))) (empty_word p)) (pushed_word p i c x) (slice_index s.words (address z (Slot (queue_of z i) (p % places_of z (queue_of z i)))))) (sole z (Source i) c told) (found (Publish p r x 0))) at
    (λ at own seen next.
    let t : ℕ = queue_of key i in
    let N : ℕ = places_of key t in
    let real = q.limits.queues i own in
    let pos : 0 < N = q.limits.some t real in
    let cs : List Call = q.calls.source i in
    let T : ℕ = length (q.entries t) in
    let v : View = sole key (Source i) cs told in
    let old = q.kept.sources i in
    let near = (q.kept.queues t).tail_near in
    let lt : p % N < N = mod-lt p pos in
    let has = has_slot key t (p % N) real lt in
    let a : ℕ = address key (Slot t (p % N)) in
    let w : ℕ = word_at key s.words (Slot t (p % N)) in
    let y : ℕ = slice_index s.words a in
    let there : w ≡ y = word_there key s.words (Slot t (p % N)) has in
    let k = told_kept q id (Source i) _ told t at in
    let tells : Tells v (Publish p r x w) = shows_slot q.limits q.kept i (p % N) told k own lt in
    let le : p ≤ T = omega (arith, old.tail_was) in
    exchanged y (empty_word p) (pushed_word p i cs x) (λ (z : ℕ). Goes key s a id z v (found (Publish p r x 0)))
    (λ hit.
    let free = free_next q.limits q.kept t p pos le (there ∙ hit) in
    let words' : List ℕ = set s.words a (pushed_word p i cs x) in
    let b = stored q id (Slot t (p % N)) (pushed_word p i cs x) has in
    let tail_is : word_at key s.words (Tail t) ≡ T = omega (arith, old.tail_was, free.0) in
    let e : Entry = own_entry i (length (mine_of cs)) r x in
    let b' = subst (λ (z : ℕ). Becomes (Slot t (z % N)) (full z e) (word_at key s.words) (word_at key words')) free.0 b in
    let kept = kept_push q.kept (word_at key words') i r x own next limit fits tail_is free.1 b' in
    let call_is : Publish T r x (empty_word T) ≡ Publish p r x y = (λ j. Publish (sym free.0 j) r x (empty_word (sym free.0 j))) ∙ ap (Publish p r x) (sym hit) in (
      sole key (Source i) (Publish p r x y ∷ cs) told,
      keeps,
      tt,
      source_queues q id i told (Publish p r x y) at words' (length-set s.words a (pushed_word p i cs x)) (put q.entries t (q.entries t ++ e ∷ [])) (grown q.entries t e)
          (subst (λ (z : Call). Kept key (word_at key words') (put q.entries t (q.entries t ++ e ∷ [])) (with_source q.calls i (z ∷ cs))) call_is kept),
      (refl, subst (λ (z : ℕ). Tells v (Publish p r x z)) there tells),
    ))
    (λ miss.
    let test : (w == empty_word p) ≡ false = ne_eqb w (empty_word p) (λ e. miss (sym there ∙ e)) in
    let now : List Call = Publish p r x w ∷ cs in
    let counts = slot_counts q.limits q.kept i (p % N) lt in
    let is_mine : mine_of now ≡ mine_of cs = ap (λ (c : Bool). cond c (mine_of cs ++ won p r x ∷ []) (mine_of cs)) test in
    let is_next : next_of now ≡ next_of cs = ap (λ (c : Bool). cond c (r + 1) (next_of cs)) test in
    let is_out : published_of N now ≡ max (published_by N (slot_in w)) (published_of N cs) = ap (λ (c : Bool). max (cond c (p + 1) (published_by N (slot_in w))) (published_of N cs)) test in
    let is_gone : released_by_of N now ≡ max (released_by N (slot_in w)) (released_by_of N cs) = ap (λ (c : Bool). max (cond c (p + 1 - N) (released_by N (slot_in w))) (released_by_of N cs)) test in
    source_load q id i told (Slot t (p % N)) (found (Publish p r x 0)) at has tells
    (kept_call q.kept i now is_mine (source_more (knows_of N now) old is_mine is_next old.tail_was (omega (arith, is_out, old.out, counts.0)) (omega (arith, is_gone, old.gone, counts.1))))))
    own seen next
  where
    grown : (entries : ℕ → List Entry) (t : ℕ) (e : Entry) (u : ℕ) → length (entries u) ≤ length (put entries t (entries t ++ e ∷ []) u)
    grown entries t e u = elim (cases_eq u t) [
      | inl is ↦ omega (arith, ap (λ (v : ℕ). length (entries v)) is, ap length (ap (put entries t (entries t ++ e ∷ [])) is ∙ put_here entries t (entries t ++ e ∷ [])), length-append (entries t) (e ∷ []))
      | inr other ↦ omega (arith, ap length (put_else entries t (entries t ++ e ∷ []) u other))
    ]
