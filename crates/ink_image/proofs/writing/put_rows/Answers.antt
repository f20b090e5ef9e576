use Rattle.ink_image.proofs.Common.{sym, ◌∙◌, arith, eqb-true, nil_from_length}
use Rattle.ink_image.proofs.Rows.{rows_more, rows_over}
use Rattle.ink_image.proofs.writing.put_rows.Goals as goal

pub rows-preserved : goal.rows-preserved
rows-preserved c =
    rows_more c.rows.rest.now c.split_at.result.0.now c.split_at.result.1.now c.rows.text.items c.put_row.new.text.items c.min.result
    (sym c.is_empty.ensures ∙ c.rows-test.true) (omega (arith, c.min.ensures)) c.split_at.ensures.front c.split_at.ensures.back c.in_ok-put_row.ensures
    ∙ c.rows.invariant

pub returns : goal.returns
returns c = rows_over c.rows.rest.now _ _ (nil_from_length c.rows.rest.now (eqb-true _ _ (sym c.is_empty.ensures ∙ c.rows-test.false))) c.rows.invariant
