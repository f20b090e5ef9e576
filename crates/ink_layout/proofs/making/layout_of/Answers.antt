-- The layout of the starts is the program's, and its words are few.
use Rattle.ink_layout.proofs.Common.{◌≡◌, ℕ, ◌<◌, ◌^◌, List, length, subst, sym, ◌∙◌, arith, Program, words_before, regions, shape_of, words_of, AreStarts, IsLayout}
use Rattle.ink_base.specs.declared.limits.TheConstants as limits
use Rattle.ink_layout.proofs.Bounds.{few_words}
use Rattle.ink_layout.proofs.Layouts.{is_layout}
use Rattle.ink_layout.proofs.Regions.{regions_count}
use Rattle.ink_layout.proofs.making.layout_of.Goals as goal

-- the starts of the lengths that were made, as the slice that is handed on
starts_are : (program : Program) (given starts taken : List ℕ) → given ≡ regions (shape_of program) → AreStarts given starts → taken ≡ starts →
    AreStarts (regions (shape_of program)) taken
starts_are program given starts taken is all same =
    subst (λ (xs : List ℕ). AreStarts (regions (shape_of program)) xs) (sym same) (subst (λ (xs : List ℕ). AreStarts xs starts) is all)

pub starts_of-requires : goal.starts_of-requires
starts_of-requires c =
    let few : words_of (shape_of c.args.program.now) < limits.BOARD_WORDS = few_words c.args.program.now c.requires in
    subst (λ (xs : List ℕ). words_before xs (length xs) < 2 ^ 32) (sym (c.as_slice.ensures.value ∙ c.in_ok-lengths.ensures)) (omega arith)

pub layout_at-requires : goal.layout_at-requires
layout_at-requires c =
    let n = regions_count c.args.program.now in
    let all = starts_are c.args.program.now _ _ _ (c.as_slice.ensures.value ∙ c.in_ok-lengths.ensures) c.in_ok-starts.ensures c.as_slice-2.ensures.value in
    omega (arith, n, all.count)

-- of a thread at least
made : (c : goal.After-drop-lengths-2) → IsLayout c.args.program.now c.in_ok-layout.layout
made c =
    let all = starts_are c.args.program.now _ _ _ (c.as_slice.ensures.value ∙ c.in_ok-lengths.ensures) c.in_ok-starts.ensures c.as_slice-2.ensures.value in
    is_layout c.args.program.now c.as_slice-2.result.now c.in_ok-layout.layout all c.in_ok-layout.ensures c.requires.counts.threads_least

pub returns-clause-layout : goal.returns-clause-layout
returns-clause-layout c = made c

pub returns-clause-few : goal.returns-clause-few
returns-clause-few c =
    let few : words_of (shape_of c.args.program.now) < limits.BOARD_WORDS = few_words c.args.program.now c.requires in
    omega (arith, (made c).words)
