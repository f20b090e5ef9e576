use Rattle.std.proofs.Common.{◌≡◌, ◌⊎◌, ℕ, ◌+◌, ◌<◌, ◌≤◌, length, get_or}
use Rattle.live_words.proofs.finals.put_words.Given as goal

abbrev pub invariant-loop-i : goal.invariant-loop-i
invariant-loop-i l = record {
  count : length l.words.items ≡ length l.initial.words.items;
  here : (k : ℕ) → k < l.i → get_or l.words.items (l.from + k) 0 ≡ get_or l.parts k 0;
  elsewhere : (n : ℕ) → (n < l.from) ⊎ (l.from + l.i ≤ n) → get_or l.words.items n 0 ≡ get_or l.initial.words.items n 0;
}
