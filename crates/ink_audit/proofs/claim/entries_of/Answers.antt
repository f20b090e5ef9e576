use Rattle.ink_audit.proofs.Common.{◌≡◌, ℕ, ◌+◌, List, [], ◌∷◌, ◌++◌, length, sym, subst, arith, Entry, AreLinesOf}
use Rattle.std.proofs.lemmas.List.{length_push}
use Rattle.ink_audit.proofs.Read.{are_push, parts_push}
use Rattle.ink_audit.proofs.claim.entries_of.Goals as goal

pub lines-preserved : goal.lines-preserved
lines-preserved c =
    let so_far = c.lines.invariant in
    let line : List ℕ = c.first_line.result.0.now in
    let size : length (so_far.read ++ line ∷ []) ≡ length so_far.read + 1 = length_push so_far.read line in
    record {
      read = so_far.read ++ line ∷ [];
      parts = parts_push _ so_far.read _ _ line so_far.parts c.first_line.ensures.lines;
      are = subst (λ (es : List Entry). AreLinesOf c.args.program.now es (so_far.read ++ line ∷ [])) (sym c.in_ok-push-in-Some.ensures.items)
          (are_push c.args.program.now c.lines.entries.items so_far.read c.in-Some.entry line so_far.are c.in-Some.ensures);
      counted = omega (arith, size, so_far.counted);
      room = omega (arith, c.first_line.ensures.shorter, so_far.room);
    }
