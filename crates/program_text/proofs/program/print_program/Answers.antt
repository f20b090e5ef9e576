use Rattle.program_text.proofs.Common.{◌≡◌, sym, subst, rules, IsAccepted, print_of, ReadsBack}
use Rattle.program_text.proofs.ReadBack.{reads_back}
use Rattle.program_text.proofs.program.print_program.Goals as goal

pub returns-clause-back : goal.returns-clause-back
returns-clause-back c =
    let is : IsAccepted c.args.program.now = search rules in
    let text : c.put_program.new.out.items ≡ print_of c.args.program.now = search rules in
    subst (λ bytes. ReadsBack bytes c.args.program.now) (sym text) (reads_back c.args.program.now is (search rules))
