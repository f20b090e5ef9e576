use Rattle.ink_image.proofs.Common.{◌≡◌, ◌++◌, take, flat_map, next_text}
use Rattle.ink_image.proofs.writing.put_others.Given as goal

abbrev pub invariant-loop-word : goal.invariant-loop-word
invariant-loop-word l = l.text.items ≡ l.fn.text.items ++ flat_map next_text (take l.word-index l.words)
