-- A put of a word is the calls that make its page ready, copy it and write.
use Rattle.thread_state.proofs.Common.{◌≡◌, ℕ, zero, suc, ◌+◌, ◌/◌, ◌^◌, ◌<◌, Bool, true, false, cond, bit_or, List, [], ◌∷◌, ◌++◌, arith, refl, ap, ◌∙◌, sym, subst, inl, inr, Option, Some, None, ◌==◌, not, replicate, IsNone, bit_at, eqb-true, eqb-false, eq-eqb, cases_Bool, Commit, Memory, perform, answer, Block, Buffer, Copying, Loading, Storing, committed, is_dirty, copy_access, write_access, put_access, after_copy, put, Writes, begun, prepared, IsAtRest, Call, Prepare, Copy, Write, CanCallAll, memory_after_all, registers_after_all, last_written, IsLeft, resting}
use Rattle.thread_state.specs.Puts.{Written, put_taken, put_by, put_whole, calls_of_put, IsPut, PutsAreCalls}
use Rattle.thread_state.proofs.Pages.{marked_same}
use Rattle.thread_state.proofs.Calls.{IsGoing, Goes, begun_goes, calls_go, calls_leave}
use Rattle.thread_state.proofs.Sixteen.{under, left}

-- one access of a put to a clean page is one of the copying
copy_first : (t word value n : ℕ) (m : Memory) (b : Buffer) → is_dirty b (word / 8) ≡ false →
    let a = copy_access t b.commit (word / 8) b.copying in
    put_by t word value (suc n) (record { memory = m; buffer = b })
    ≡ put_by t word value n (record { memory = perform m a; buffer = after_copy b (word / 8) b.copying (answer m a) })
copy_first t word value n m b clean = λ i.
    put_by t word value n
    (record {
      memory = perform m (cond (clean i) (write_access t b word value) (copy_access t b.commit (word / 8) b.copying));
      buffer = cond (clean i) b (after_copy b (word / 8) b.copying (answer m (cond (clean i) (write_access t b word value) (copy_access t b.commit (word / 8) b.copying))));
    })

-- one more access at the end
one_more : (t word value n : ℕ) (x : Written) → put_by t word value (n + 1) x ≡ put_by t word value 1 (put_by t word value n x)
one_more t word value zero x = refl
one_more t word value (suc n) x =
    let e : suc n + 1 ≡ suc (n + 1) = omega arith in
    ap (λ k. put_by t word value k x) e
    ∙ one_more t word value n
    (record {
      memory = perform x.memory (put_access t x.buffer word value);
      buffer = put_taken x.buffer word (answer x.memory (put_access t x.buffer word value));
    })

-- so many calls that copy come to memory and registers at rest, with the page dirty
record Copies (t : ℕ) (m : Memory) (w : Writes) (n : ℕ) (d : ℕ) (z : Written) : Type 0 where
  buffer : z.buffer ≡ record { commit = w.buffer.commit; dirty = d; copying = Loading 0 }
  calls : (rest : List Call) → CanCallAll t z.memory (resting w.block w.buffer.commit d) rest → CanCallAll t m w (replicate n Copy ++ rest)
  memory : (rest : List Call) → memory_after_all t m w (replicate n Copy ++ rest) ≡ memory_after_all t z.memory (resting w.block w.buffer.commit d) rest
  registers : (rest : List Call) → registers_after_all t m w (replicate n Copy ++ rest) ≡ registers_after_all t z.memory (resting w.block w.buffer.commit d) rest

-- after a store of the copying, whether it was the last
stored : (t word value n : ℕ) (m : Memory) (block : Block) (c d k : ℕ) (last : Bool) → (last ≡ true → n ≡ 0) →
    (last ≡ false → Copies t m (under block c d (word / 8) (Loading (k + 1))) n (bit_or d (2 ^ (word / 8))) (put_by t word value n (record { memory = m; buffer = record { commit = c; dirty = d; copying = Loading (k + 1) } }))) →
    let b : Buffer = record { commit = c; dirty = cond last (bit_or d (2 ^ (word / 8))) d; copying = cond last (Loading 0) (Loading (k + 1)) } in
    Copies t m (record { block = block; buffer = b; under_way = cond (not last) (Some (word / 8)) None }) n (bit_or d (2 ^ (word / 8))) (put_by t word value n (record { memory = m; buffer = b }))
stored t word value n m block c d k true none more =
    let D : ℕ = bit_or d (2 ^ (word / 8)) in
    let b : Buffer = record { commit = c; dirty = D; copying = Loading 0 } in
    subst (λ j. Copies t m (resting block c (bit_or d (2 ^ (word / 8)))) j (bit_or d (2 ^ (word / 8))) (put_by t word value j (record { memory = m; buffer = record { commit = c; dirty = bit_or d (2 ^ (word / 8)); copying = Loading 0 } })))
    (sym (none refl))
    (record { buffer = refl; calls = λ rest can. can; memory = λ rest. refl; registers = λ rest. refl })
stored t word value n m block c d k false none more = more refl

-- the copying of a page from where it stands
copies : (t word value n : ℕ) (m : Memory) (block : Block) (c d : ℕ) (x : Copying) → ((bit_at d (word / 8) == 1) ≡ false) → n ≡ left x → 0 < n →
    Copies t m (under block c d (word / 8) x) n (bit_or d (2 ^ (word / 8))) (put_by t word value n (record { memory = m; buffer = record { commit = c; dirty = d; copying = x } }))
copies t word value zero m block c d x clean e some = absurd (omega arith)
copies t word value (suc n) m block c d (Loading k) clean e some =
    let b : Buffer = record { commit = c; dirty = d; copying = Loading k } in
    let a = copy_access t c (word / 8) (Loading k) in
    let next = copies t word value n (perform m a) block c d (Storing k (answer m a)) clean (omega arith) (omega arith) in
    subst (λ z. Copies t m (under block c d (word / 8) (Loading k)) (suc n) (bit_or d (2 ^ (word / 8))) z) (sym (copy_first t word value n m b clean))
    (record { buffer = next.buffer; calls = λ rest can. (refl, next.calls rest can); memory = next.memory; registers = next.registers })
copies t word value (suc n) m block c d (Storing k v) clean e some =
    let b : Buffer = record { commit = c; dirty = d; copying = Storing k v } in
    let a = copy_access t c (word / 8) (Storing k v) in
    let next = stored t word value n (perform m a) block c d k (k == 7)
    (λ is. let seven : k ≡ 7 = eqb-true k 7 is in omega arith)
    (λ is. let ne : k ≡ 7 → ⊥ = eqb-false k 7 is in copies t word value n (perform m a) block c d (Loading (k + 1)) clean (omega arith) (omega arith)) in
    subst (λ z. Copies t m (under block c d (word / 8) (Storing k v)) (suc n) (bit_or d (2 ^ (word / 8))) z) (sym (copy_first t word value n m b clean))
    (record { buffer = next.buffer; calls = λ rest can. (refl, next.calls rest can); memory = next.memory; registers = next.registers })

-- the last access of a put is the write, once the page is dirty
write_last : (t word value : ℕ) (m : Memory) (b : Buffer) → is_dirty b (word / 8) ≡ true →
    put_by t word value 1 (record { memory = m; buffer = b }) ≡ record { memory = perform m (write_access t b word value); buffer = b }
write_last t word value m b dirty = λ i. record {
  memory = perform m (cond (dirty i) (write_access t b word value) (copy_access t b.commit (word / 8) b.copying));
  buffer = cond (dirty i) b (after_copy b (word / 8) b.copying (answer m (cond (dirty i) (write_access t b word value) (copy_access t b.commit (word / 8) b.copying))));
}

-- calls that may be made, and leave at rest what a put has left
record Same (t : ℕ) (block : Block) (m : Memory) (w : Writes) (calls : List Call) (z : Written) : Type 0 where
  can : CanCallAll t m w calls
  memory : z.memory ≡ memory_after_all t m w calls
  registers : record { block = block; buffer = z.buffer; under_way = None } ≡ registers_after_all t m w calls

-- the page is made ready, and the other calls follow
prepared_same : (t : ℕ) (block : Block) (m : Memory) (w to : Writes) (word : ℕ) (calls same : List Call) (z : Written) → IsAtRest w →
    prepared w (word / 8) ≡ to → calls ≡ same → Same t block m to same z → Same t block m w (Prepare word ∷ calls) z
prepared_same t block m w to word calls same z rest is are s = record {
  can = (rest, subst (λ v. CanCallAll t m v calls) (sym is) (subst (λ l. CanCallAll t m to l) (sym are) s.can));
  memory = s.memory ∙ (ap (λ l. memory_after_all t m to l) (sym are) ∙ ap (λ v. memory_after_all t m v calls) (sym is));
  registers = s.registers ∙ (ap (λ l. registers_after_all t m to l) (sym are) ∙ ap (λ v. registers_after_all t m v calls) (sym is));
}

module _ (t word value : ℕ) (m : Memory) (block : Block) (c d : ℕ) where
  abbrev B : Buffer
  B = record { commit = c; dirty = d; copying = Loading 0 }

  abbrev W : Writes
  W = record { block = block; buffer = B; under_way = None }

  abbrev X : Written
  X = record { memory = m; buffer = B }

  abbrev Last : List Call
  Last = Write word value ∷ []

  -- on a dirty page a put is its write
  dirty_same : is_dirty B (word / 8) ≡ true → Same t block m W (calls_of_put B word value) (put_whole t word value X)
  dirty_same dirty =
      let is : put_whole t word value X ≡ record { memory = perform m (write_access t B word value); buffer = B } =
      (λ i. put_by t word value (cond (dirty i) 1 17) X) ∙ write_last t word value m B dirty in
      prepared_same t block m W W word (cond (is_dirty B (word / 8)) [] (replicate 16 Copy) ++ Last) Last (put_whole t word value X) refl
      (λ i. cond (dirty i) W (under block c d (word / 8) (Loading 0)))
      (λ i. cond (dirty i) [] (replicate 16 Copy) ++ Last)
      (record {
        can = ((refl, dirty), tt);
        memory = ap (λ (z : Written). z.memory) is;
        registers = λ i. record { block = block; buffer = (is i).buffer; under_way = None };
      })

  -- on a clean page sixteen accesses copy it before
  clean_same : is_dirty B (word / 8) ≡ false → Same t block m W (calls_of_put B word value) (put_whole t word value X)
  clean_same clean =
      let D : ℕ = bit_or d (2 ^ (word / 8)) in
      let E : Buffer = record { commit = c; dirty = bit_or d (2 ^ (word / 8)); copying = Loading 0 } in
      let y : Written = put_by t word value 16 X in
      let copied = copies t word value 16 m block c d (Loading 0) clean refl (omega arith) in
      let dirty : is_dirty (record { commit = c; dirty = bit_or d (2 ^ (word / 8)); copying = Loading 0 }) (word / 8) ≡ true = eq-eqb _ 1 (marked_same d (word / 8)) in
      let is : put_whole t word value X ≡ record { memory = perform y.memory (write_access t E word value); buffer = E } =
      (λ i. put_by t word value (cond (clean i) 1 17) X)
      ∙ (one_more t word value 16 X
      ∙ ((λ i. put_by t word value 1 (record { memory = (put_by t word value 16 X).memory; buffer = copied.buffer i }))
      ∙ write_last t word value (put_by t word value 16 X).memory (record { commit = c; dirty = bit_or d (2 ^ (word / 8)); copying = Loading 0 }) dirty)) in
      prepared_same t block m W (under block c d (word / 8) (Loading 0)) word (cond (is_dirty B (word / 8)) [] (replicate 16 Copy) ++ Last) (replicate 16 Copy ++ Last)
      (put_whole t word value X) refl
      (λ i. cond (clean i) W (under block c d (word / 8) (Loading 0)))
      (λ i. cond (clean i) [] (replicate 16 Copy) ++ Last)
      (record {
        can = copied.calls Last ((refl, dirty), tt);
        memory = ap (λ (z : Written). z.memory) is ∙ sym (copied.memory Last);
        registers = (λ i. record { block = block; buffer = (is i).buffer; under_way = None }) ∙ sym (copied.registers Last);
      })

  put_same : Same t block m W (calls_of_put B word value) (put_whole t word value X)
  put_same = elim (cases_Bool (is_dirty B (word / 8))) [ inl dirty ↦ dirty_same dirty | inr clean ↦ clean_same clean ]

  -- of those calls the write alone changes the contents
  contents_put : (start contents : ℕ → ℕ) (is : Bool) → last_written start contents (cond is [] (replicate 16 Copy) ++ Last) ≡ put contents word value
  contents_put start contents true = refl
  contents_put start contents false = refl

  put_is : (start : Memory) (contents : ℕ → ℕ) → Goes t start m W contents → IsPut t start m W contents word value
  put_is start contents g = record {
    can = put_same.can;
    memory = put_same.memory;
    registers = put_same.registers;
    left = subst (λ (z : Memory × Writes × (ℕ → ℕ)). IsLeft t start z.0 z.1 z.2)
        (λ i. (sym put_same.memory i, sym put_same.registers i, contents_put (committed start t) contents (is_dirty B (word / 8)) i))
        (calls_leave t start m W contents (calls_of_put B word value) put_same.can g);
  }

-- no copying is under way
put_at : (t : ℕ) (start m : Memory) (block : Block) (b : Buffer) (under : Option ℕ) (contents : ℕ → ℕ) (word value : ℕ) → IsNone under →
    IsGoing t start m b under contents → IsPut t start m (record { block = block; buffer = b; under_way = under }) contents word value
put_at t start m block b None contents word value rest g =
    subst (λ x. IsPut t start m (record { block = block; buffer = record { commit = b.commit; dirty = b.dirty; copying = x }; under_way = None }) contents word value) (sym g.copying)
    (put_is t word value m block b.commit b.dirty start contents
    (subst (λ x. IsGoing t start m (record { commit = b.commit; dirty = b.dirty; copying = x }) None contents) g.copying g))
put_at t start m block b (Some page) contents word value rest g = cc

pub puts_are_calls : PutsAreCalls
puts_are_calls t block m calls word value can rest =
    let w : Writes = registers_after_all t m (begun block (m (Commit t))) calls in
    put_at t m (memory_after_all t m (begun block (m (Commit t))) calls) w.block w.buffer w.under_way (last_written (committed m t) (committed m t) calls) word value rest
    (calls_go t m m (begun block (m (Commit t))) (committed m t) calls can (begun_goes t block m))
