use Rattle.ink_image.proofs.Common.{◌≡◌, length, token_lines, section_entries, onto, read}
use Rattle.ink_image.proofs.reading.read_words.Given as goal

abbrev pub invariant-lines : goal.invariant-lines
invariant-lines l = onto l.words.items (read (section_entries (token_lines l.text l.rest))) ≡ read (section_entries (token_lines l.text l.fn.tokens))

abbrev pub decreases-lines : goal.decreases-lines
decreases-lines l = length l.rest
