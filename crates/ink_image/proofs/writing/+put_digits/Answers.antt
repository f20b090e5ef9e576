use Rattle.ink_image.proofs.Rows.{digits_more, digits_over}
use Rattle.ink_image.proofs.writing.+put_digits.Goals as goal

pub returns-then-count-eq0 : goal.returns-then-count-eq0
returns-then-count-eq0 t c = digits_over c.args.count c.args.number c.args.text.now.items c.if-count-eq0.true

pub returns : goal.returns
returns t c =
    digits_more c.args.count c.args.number c.digit_byte.result c.args.text.now.items c.put_digits.new.text.items c.push.new.self.items
    c.if-count-eq0.false c.in_ok-put_digits.ensures c.digit_byte.ensures c.in_ok-push.ensures.items
