use Rattle.std.proofs.Common.{◌≡◌, ℕ, ◌-◌, ◌≤◌, ◌<◌, List, drop, length-take, length-drop, arith}
use Rattle.ink_station.specs.declared.parts.Part.{Part}
use Rattle.ink_station.specs.Parts.{lines_len}
use Rattle.ink_station.proofs.LineLengths.{len_le, len_grows, len_some}
use Rattle.ink_station.proofs.parts.job_text.Goals as goal

-- behind so many lines there are no more bytes than behind fewer
in_order : (text : List ℕ) (part : Part) (start stop : ℕ) → part.header < part.stop → start ≡ lines_len part.header text → stop ≡ lines_len (part.stop - 1) text → start ≤ stop
in_order text part start stop above is so = omega (arith, is, so, len_grows part.header (part.stop - 1) text (omega (arith, above)))

pub slice_bounds-lines-count : goal.slice_bounds-lines-count
slice_bounds-lines-count c =
    in_order c.args.text.now c.args.part c.lines_len-start.result c.lines_len-stop.result c.requires.within.above c.lines_len-start.ensures c.lines_len-stop.ensures

pub slice_bounds-lines-start : goal.slice_bounds-lines-start
slice_bounds-lines-start c =
    in_order c.args.text.now c.args.part c.lines_len-start.result c.lines_len-stop.result c.requires.within.above c.lines_len-start.ensures c.lines_len-stop.ensures

pub slice_bounds-lines-end : goal.slice_bounds-lines-end
slice_bounds-lines-end c = omega (arith, c.lines_len-stop.ensures, len_le (c.args.part.stop - 1) c.args.text.now)

pub returns-clause-short : goal.returns-clause-short
returns-clause-short c =
    let text = c.args.text.now in
    let start = c.lines_len-start.result in
    let count = c.lines_len-stop.result - start in
    let some = len_some c.args.part.header text (let w = c.requires.within in omega (arith, w.above, w.last)) in
    let all = c.extend_from_slice.new.self.ok in
    omega (arith, all, c.in_ok-extend_from_slice.ensures.len, c.in_ok-resize.ensures.len, c.requires.short, some, len_le c.args.part.header text, c.lines_len-start.ensures, length-take count (drop start text), length-drop start text)
