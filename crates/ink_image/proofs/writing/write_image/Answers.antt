use Rattle.ink_image.proofs.Common.{◌≡◌, List, ℕ, sym, subst, arith, common_steps, image_text, Says}
use Rattle.ink_image.proofs.Again.{says_again}
use Rattle.ink_image.proofs.writing.write_image.Goals as goal

pub returns-clause-again : goal.returns-clause-again
returns-clause-again c =
    let text : c.put_rows.new.text.items ≡ image_text c.args.words.now = grind (arith, common_steps) in
    subst (λ (t : List ℕ). Says t c.args.words.now) (sym text) (says_again c.args.words.now (λ k lt. omega (arith, c.type_inv.words k)))
