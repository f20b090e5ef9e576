use Rattle.std.proofs.Common.{◌+◌, List, length, sym, ap, ◌∙◌, subst, arith, Ok}
use Rattle.std.specs.List.{All}
use Rattle.ink_base.specs.Gives.{GivesJob}
use Rattle.ink_base.proofs.Sizes.{count_le}
use Rattle.ink_station.specs.Parts.{parts_of, parts_between}
use Rattle.ink_station.specs.declared.parts.Part.{Part}
use Rattle.ink_station.specs.kept.Within.{IsWithin}
use Rattle.ink_station.proofs.Handed.{handed}
use Rattle.ink_station.proofs.Headers.{parts_are, parts_fail, parts_rise, parts_few, all_within, as_many}
use Rattle.ink_station.proofs.parts.parts_of.Goals as goal

pub headers_of-requires : goal.headers_of-requires
headers_of-requires c = omega (arith, c.requires, count_le c.args.text.now c.in_ok-tokens.tokens.list.items c.in_ok-tokens.tokens.lines c.in_ok-tokens.ensures.tokens)

pub overflow_add-tokens : goal.overflow_add-tokens
overflow_add-tokens c = let few = count_le c.args.text.now c.in_ok-tokens.tokens.list.items c.in_ok-tokens.tokens.lines c.in_ok-tokens.ensures.tokens in omega (arith, c.requires, few)

pub returns-in_err-headers-clause-given : goal.returns-in_err-headers-clause-given
returns-in_err-headers-clause-given c =
    subst (λ r. GivesJob (λ parts. parts.items) r (parts_of c.args.text.now)) (sym (handed c.from_residual-in_err-headers.result c.in_err-headers.field-0.0 c.from_residual-in_err-headers.ensures))
    (parts_fail c.args.text.now c.in_ok-tokens.tokens.list.items c.as_slice.result.now c.in_ok-tokens.tokens.lines c.in_ok-tokens.ensures.tokens c.as_slice.ensures.value c.in_err-headers.field-0.0
    c.in_ok-tokens.ensures.given c.in_err-headers.ensures)

pub returns-clause-given : goal.returns-clause-given
returns-clause-given c =
    parts_are c.args.text.now c.in_ok-tokens.tokens.list.items c.as_slice.result.now c.in_ok-tokens.tokens.lines c.in_ok-tokens.ensures.tokens c.as_slice.ensures.value c.in_ok-headers.headers.items
    c.in_ok-tokens.ensures.given c.in_ok-headers.ensures
    ∙ (λ i. Ok (parts_between (c.in_ok-tokens.tokens.lines + 1) (sym c.as_slice-2.ensures.value i)))
    ∙ ap Ok (sym c.in_ok-parts_between.ensures)

pub returns-clause-within : goal.returns-clause-within
returns-clause-within c =
    let are = c.in_ok-tokens.ensures.tokens in
    subst (λ (l : List Part). All (IsWithin c.args.text.now) l) (ap (parts_between (c.in_ok-tokens.tokens.lines + 1)) (sym c.as_slice-2.ensures.value) ∙ sym c.in_ok-parts_between.ensures)
    (all_within c.args.text.now 1 c.in_ok-tokens.tokens.lines c.in_ok-headers.headers.items are.lines
    (parts_rise c.args.text.now c.in_ok-tokens.tokens.list.items c.as_slice.result.now c.in_ok-tokens.tokens.lines are c.as_slice.ensures.value c.in_ok-headers.headers.items c.in_ok-headers.ensures))

pub returns-clause-few : goal.returns-clause-few
returns-clause-few c =
    let are = c.in_ok-tokens.ensures.tokens in
    let few = parts_few c.args.text.now c.in_ok-tokens.tokens.list.items c.as_slice.result.now c.in_ok-tokens.tokens.lines are c.as_slice.ensures.value c.in_ok-headers.headers.items c.in_ok-headers.ensures in
    omega (arith, few, ap length c.in_ok-parts_between.ensures, as_many (c.in_ok-tokens.tokens.lines + 1) c.as_slice-2.result.now, ap length c.as_slice-2.ensures.value)
