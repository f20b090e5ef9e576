-- What holds of every layout of a program.
use Rattle.ink_layout.proofs.Common.{◌≡◌, subst, Program, Layout, IsLayout}
use Rattle.ink_layout.proofs.PlacesApart.{lie_apart, lie_within, are_divided}
use Rattle.ink_layout.proofs.making.make_layout.Goals as goal

-- the layout of the program that was taken is that of the one that was given
same_layout : (taken given : Program) (layout : Layout) → taken ≡ given → IsLayout taken layout → IsLayout given layout
same_layout taken given layout same is = subst (λ (program : Program). IsLayout program layout) same is

pub returns-clause-apart : goal.returns-clause-apart
returns-clause-apart c =
    lie_apart c.args.program.now c.in_ok-layout.layout (same_layout c.program.result.now c.args.program.now c.in_ok-layout.layout c.program.ensures.same c.in_ok-layout.ensures.layout)

pub returns-clause-within : goal.returns-clause-within
returns-clause-within c =
    lie_within c.args.program.now c.in_ok-layout.layout (same_layout c.program.result.now c.args.program.now c.in_ok-layout.layout c.program.ensures.same c.in_ok-layout.ensures.layout)

pub returns-clause-divided : goal.returns-clause-divided
returns-clause-divided c =
    are_divided c.args.program.now c.in_ok-layout.layout (same_layout c.program.result.now c.args.program.now c.in_ok-layout.layout c.program.ensures.same c.in_ok-layout.ensures.layout)
