use Rattle.ink_image.proofs.Common.{◌≡◌, ◌++◌, length, flat_map, line_text, rows}
use Rattle.ink_image.proofs.writing.put_rows.Given as goal

abbrev pub invariant-rows : goal.invariant-rows
invariant-rows l = l.text.items ++ flat_map line_text (rows l.rest) ≡ l.fn.text.items ++ flat_map line_text (rows l.fn.words)

abbrev pub decreases-rows : goal.decreases-rows
decreases-rows l = length l.rest
