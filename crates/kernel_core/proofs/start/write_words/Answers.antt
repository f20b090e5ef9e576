-- One word more is that of the list.
use Rattle.kernel_core.proofs.Common.{◌≡◌, inl, inr, ℕ, ◌+◌, ◌<◌, List, length, get_or, set, sym, ◌∙◌, subst, arith, cases_eq, length-set, get_or-set_same, get_or-set_other}
use Rattle.kernel_core.proofs.start.write_words.Goals as goal

-- a list that is the same as another up to a place is so behind it where that place gets the other's word
one_more : (fram words : List ℕ) (n : ℕ) → n < length fram → ((k : ℕ) → k < n → get_or fram k 0 ≡ get_or words k 0) → (k : ℕ) → k < n + 1 →
    get_or (set fram n (get_or words n 0)) k 0 ≡ get_or words k 0
one_more fram words n lt same k below = elim (cases_eq k n) [
  | inl e ↦ subst (λ z. get_or (set fram n (get_or words n 0)) z 0 ≡ get_or words z 0) (sym e) (get_or-set_same fram n (get_or words n 0) 0 lt)
  | inr other ↦ get_or-set_other fram n k (get_or words n 0) 0 other ∙ same k (omega arith)
]

pub loop-addr-preserved : goal.loop-addr-preserved
loop-addr-preserved c =
    let lt : c.loop-addr.addr < length c.loop-addr.fram = omega (arith, c.len-addr-end.ensures, c.loop-addr-test.true) in
    let is : c.perform.new.self ≡ set c.loop-addr.fram c.loop-addr.addr (get_or c.args.words.now c.loop-addr.addr 0) = c.perform.ensures.after in (
      rw is (length-set c.loop-addr.fram c.loop-addr.addr (get_or c.args.words.now c.loop-addr.addr 0) ∙ c.loop-addr.invariant.0),
      λ k below. rw is (one_more c.loop-addr.fram c.args.words.now c.loop-addr.addr lt c.loop-addr.invariant.1 k below),
    )
