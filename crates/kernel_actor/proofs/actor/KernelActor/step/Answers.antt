-- The access can be made and its answer taken; the actor stands after it, one row further.
use Rattle.std.proofs.Common.{◌<◌, sym, ap, ◌∙◌, subst, arith}
use Rattle.ink_layout.specs.declared.kernel_point.KernelPoint.{KernelPoint}
use Rattle.event_queue.specs.Seats.{kernel_view}
use Rattle.kernel_actor.specs.Accounts.{entry_made}
use Rattle.kernel_actor.specs.Acting.{Acting, place_of}
use Rattle.kernel_actor.specs.Rows.{LeadsOne}
use Rattle.kernel_actor.specs.Served.{KeepsSeen}
use Rattle.kernel_actor.specs.Timely.{AddsTimely}
use Rattle.kernel_actor.proofs.Acting.{can_make_now, can_take_now, stands_now, leads_now, timely_now, seen_now, placed}
use Rattle.kernel_actor.proofs.actor.KernelActor.step.Goals as goal

pub make_access-word-requires-clause-can : goal.make_access-word-requires-clause-can
make_access-word-requires-clause-can c =
    can_make_now _ _ _ _ _ _ c.self.inside.book c.self.invariant.0 (ap (λ (a : Acting). a.book.begun) c.self.view_is ∙ c.requires.begun) (subst (λ (a : Acting). 0 < a.left) (sym c.self.view_is) c.requires.left)
    c.kind_of-kind.result c.kind_of-kind.ensures

pub take-point-requires : goal.take-point-requires
take-point-requires c =
    can_take_now _ _ _ _ _ _ c.self.inside.book c.self.invariant.0 (ap (λ (a : Acting). a.book.begun) c.self.view_is ∙ c.requires.begun) (subst (λ (a : Acting). 0 < a.left) (sym c.self.view_is) c.requires.left)
    c.kind_of-kind.result c.make_access-word.new.fram (kernel_view c.make_access-word.new.seat) c.make_access-word.result c.kind_of-kind.ensures c.make_access-word.ensures.answered

pub invariant_of-self : goal.invariant_of-self
invariant_of-self c = (
  stands_now _ _ _ _ _ _ c.self.inside.book c.self.invariant.0 (ap (λ (a : Acting). a.book.begun) c.self.view_is ∙ c.requires.begun) (subst (λ (a : Acting). 0 < a.left) (sym c.self.view_is) c.requires.left)
      c.kind_of-kind.result c.kind_of-kind.ensures c.make_access-word.new.fram c.take-point.new.self (kernel_view c.make_access-word.new.seat) c.note.new.self c.make_access-word.result c.entry_made.result
      c.make_access-word.ensures.answered c.take-point.ensures.registers
      (c.entry_made.ensures ∙ ap (λ (p : KernelPoint). entry_made c.kind_of-kind.result c.make_access-word.result p) c.take-point.ensures.point)
      c.note.ensures.entries c.make_access-word.ensures.seat.place.lay c.note.ensures.done c.note.ensures.begun,
  let few = c.self.invariant.1 in
      let some : 0 < c.self.inside.left = subst (λ (a : Acting). 0 < a.left) (sym c.self.view_is) c.requires.left in
      omega (arith, few, some, c.commits_of.ensures),
)

pub returns-clause-leads : goal.returns-clause-leads
returns-clause-leads c =
    subst (λ (a : Acting). LeadsOne a.program (place_of a) (placed c.take-point.new.self c.make_access-word.new.fram (kernel_view c.make_access-word.new.seat) c.note.new.self)) c.self.view_is
    (leads_now _ _ _ _ _ _ c.self.inside.book c.self.invariant.0 (ap (λ (a : Acting). a.book.begun) c.self.view_is ∙ c.requires.begun) (subst (λ (a : Acting). 0 < a.left) (sym c.self.view_is) c.requires.left)
    c.kind_of-kind.result c.kind_of-kind.ensures c.make_access-word.new.fram c.take-point.new.self (kernel_view c.make_access-word.new.seat) c.note.new.self c.make_access-word.result c.entry_made.result
    c.make_access-word.ensures.answered c.take-point.ensures.registers
    (c.entry_made.ensures ∙ ap (λ (p : KernelPoint). entry_made c.kind_of-kind.result c.make_access-word.result p) c.take-point.ensures.point)
    c.note.ensures.entries)

pub returns-clause-timely : goal.returns-clause-timely
returns-clause-timely c =
    subst (λ (a : Acting). AddsTimely (kernel_view a.seat).told a.book.entries c.note.new.self.entries) c.self.view_is
    (timely_now _ _ _ _ _ _ c.self.inside.book c.self.invariant.0 (ap (λ (a : Acting). a.book.begun) c.self.view_is ∙ c.requires.begun) (subst (λ (a : Acting). 0 < a.left) (sym c.self.view_is) c.requires.left)
    c.kind_of-kind.result c.kind_of-kind.ensures c.make_access-word.new.fram c.take-point.new.self (kernel_view c.make_access-word.new.seat) c.note.new.self c.make_access-word.result c.entry_made.result
    c.make_access-word.ensures.answered c.take-point.ensures.registers
    (c.entry_made.ensures ∙ ap (λ (p : KernelPoint). entry_made c.kind_of-kind.result c.make_access-word.result p) c.take-point.ensures.point)
    c.note.ensures.entries)

pub returns-clause-served : goal.returns-clause-served
returns-clause-served c =
    subst (λ (a : Acting). KeepsSeen a.program a.book.done (place_of a) (placed c.take-point.new.self c.make_access-word.new.fram (kernel_view c.make_access-word.new.seat) c.note.new.self)) c.self.view_is
    (seen_now _ _ _ _ _ _ c.self.inside.book c.self.invariant.0 (ap (λ (a : Acting). a.book.begun) c.self.view_is ∙ c.requires.begun) (subst (λ (a : Acting). 0 < a.left) (sym c.self.view_is) c.requires.left)
    c.kind_of-kind.result c.kind_of-kind.ensures c.make_access-word.new.fram c.take-point.new.self (kernel_view c.make_access-word.new.seat) c.note.new.self c.make_access-word.result c.entry_made.result
    c.make_access-word.ensures.answered c.take-point.ensures.registers
    (c.entry_made.ensures ∙ ap (λ (p : KernelPoint). entry_made c.kind_of-kind.result c.make_access-word.result p) c.take-point.ensures.point)
    c.note.ensures.entries)
