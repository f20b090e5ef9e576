-- One source more leaves its seat, its SRC and its lists.
use Rattle.std.proofs.Common.{◌≡◌, inl, inr, ℕ, suc, ◌+◌, ◌<◌, ◌≤◌, List, [], ◌∷◌, ◌++◌, length, length-append, refl, sym, ap, ◌∙◌, subst, arith}
use Rattle.std.specs.Prelude.{slice_index, slice_index_or}
use Rattle.std.proofs.lemmas.List.{get_or_append_left, get_or_push}
use mathlib.Core.Option.{some}
use lib.ListN.{get_elem?}
use Rattle.irq_source.proofs.Basics.{at_longer, at_last, cases_less}
use Rattle.event_queue.specs.declared.seat.SourceSeat.{SourceSeat}
use Rattle.irq_source.specs.Acting.{Acting, IsAccounted}
use Rattle.live_board.specs.kept.Ends.{IsLeftAt, AreLeft}
use Rattle.queue_lists.specs.Lists.{Lists, no_lists, lists_at}

-- what stands behind those that were given out
index_here : (before rest : List Acting) (x a : Acting) → slice_index_or (before ++ x ∷ rest) (length before) a ≡ x
index_here [] rest x a = refl
index_here (y ∷ before) rest x a = index_here before rest x a

module _ (sources yielded rest : List Acting) (x : Acting) (seats : List SourceSeat) (srcs : List ℕ) (lists : List Lists) (seat : SourceSeat) (src : ℕ) (l : Lists) (was : AreLeft (length yielded) sources seats srcs lists) where
  left_still : (i : ℕ) (a : Acting) → i < length yielded → IsLeftAt (slice_index_or sources i a) i (seats ++ seat ∷ []) (srcs ++ src ∷ []) (lists ++ l ∷ [])
  left_still i a lt =
      let one = was.each i a lt in record {
        account = one.account;
        few = one.few;
        seat = at_longer seats (seat ∷ []) i (slice_index_or sources i a).seat one.seat;
        src = get_or_append_left srcs (src ∷ []) 0 i (let size = was.srcs_count in omega (arith, lt, size)) ∙ one.src;
        listed = get_or_append_left lists (l ∷ []) no_lists i (let size = was.lists_count in omega (arith, lt, size)) ∙ one.listed;
      }

  left_now : (a : Acting) → sources ≡ yielded ++ x ∷ rest → seat ≡ x.seat → src ≡ x.place.src → l ≡ record { accepted = x.place.accepted; refused = x.place.refused } → IsAccounted x → length x.place.refused ≤ length x.readings + x.begun →
      IsLeftAt (slice_index_or sources (length yielded) a) (length yielded) (seats ++ seat ∷ []) (srcs ++ src ∷ []) (lists ++ l ∷ [])
  left_now a is seat_is src_is lists_are account few =
      subst (λ (y : Acting). IsLeftAt y (length yielded) (seats ++ seat ∷ []) (srcs ++ src ∷ []) (lists ++ l ∷ [])) (sym (ap (λ (s : List Acting). slice_index_or s (length yielded) a) is ∙ index_here yielded rest x a)) (record {
        account = account;
        few = few;
        seat = subst (λ n. get_elem? (seats ++ seat ∷ []) n ≡ some x.seat) was.seats_count (at_last seats seat ∙ ap some seat_is);
        src = get_or_push srcs src 0 (length yielded) was.srcs_count ∙ src_is;
        listed = get_or_push lists l no_lists (length yielded) was.lists_count ∙ lists_are;
      })

  pub left_more : sources ≡ yielded ++ x ∷ rest → seat ≡ x.seat → src ≡ x.place.src → l ≡ record { accepted = x.place.accepted; refused = x.place.refused } → IsAccounted x → length x.place.refused ≤ length x.readings + x.begun →
      AreLeft (length (yielded ++ x ∷ [])) sources (seats ++ seat ∷ []) (srcs ++ src ∷ []) (lists ++ l ∷ [])
  left_more is seat_is src_is lists_are account few =
      let n = length-append yielded (x ∷ []) in record {
        seats_count = let size = was.seats_count in let more = length-append seats (seat ∷ []) in omega (arith, n, size, more);
        srcs_count = let size = was.srcs_count in let more = length-append srcs (src ∷ []) in omega (arith, n, size, more);
        lists_count = let size = was.lists_count in let more = length-append lists (l ∷ []) in omega (arith, n, size, more);
        each = λ i a lt. elim (cases_less i (length yielded) (omega (arith, lt, n))) [
          | inl before ↦ left_still i a before
          | inr here ↦ subst (λ j. IsLeftAt (slice_index_or sources j a) j (seats ++ seat ∷ []) (srcs ++ src ∷ []) (lists ++ l ∷ [])) (sym here) (left_now a is seat_is src_is lists_are account few)
        ];
      }
