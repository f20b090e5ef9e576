use Rattle.ink_image.proofs.Common.{◌≡◌, drop, words_of, line_entries, onto, read}
use Rattle.ink_image.proofs.reading.read_line.Given as goal

abbrev pub invariant-loop-token : goal.invariant-loop-token
invariant-loop-token l =
    onto l.words.items (read (line_entries l.line (words_of l.text (drop l.token-index l.tokens))))
    ≡ onto l.fn.words.items (read (line_entries l.line (words_of l.text l.tokens)))
