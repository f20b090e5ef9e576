use Rattle.kernel_core.proofs.Common.{◌≡◌, ◌+◌, [], ◌∷◌, ◌++◌, length, map, length-append, refl, sym, ap, ◌∙◌, arith, rules, append_assoc, append-nil, map-append, nil_from_length, charge_in}
use Rattle.kernel_core.proofs.run_record.finished.Goals as goal

pub loop-recording-init : goal.loop-recording-init
loop-recording-init c = (c.requires.empty, search rules, refl, search rules)

pub push_reserved-requires : goal.push_reserved-requires
push_reserved-requires c =
    let all : length c.args.recordings.items ≡ length c.loop-recording.yielded + length c.loop-recording.recording-iterator.rest.items =
    ap length c.loop-recording.invariant.3 ∙ length-append c.loop-recording.yielded c.loop-recording.recording-iterator.rest.items in
    let one : length c.loop-recording.recording-iterator.rest.items ≡ length (c.in-Some.recording ∷ c.next.new.self.rest.items) = ap length c.in-Some.ensures.steps.0 in
    omega (arith, c.loop-recording.invariant.1, c.loop-recording.invariant.2, c.requires.room, all, one)

pub loop-recording-preserved : goal.loop-recording-preserved
loop-recording-preserved c = (
  c.push_reserved.ensures.items ∙ ((λ i. c.loop-recording.invariant.0 i ++ c.finish.ensures i ∷ []) ∙ sym (map-append charge_in c.loop-recording.yielded (c.in-Some.recording ∷ []))),
  (let e = length-append c.loop-recording.yielded (c.in-Some.recording ∷ []) in omega (arith, e, c.push_reserved.ensures.len, c.loop-recording.invariant.1)),
  c.push_reserved.ensures.capacity ∙ c.loop-recording.invariant.2,
  c.loop-recording.invariant.3 ∙ (ap (λ l. c.loop-recording.yielded ++ l) c.in-Some.ensures.steps.0 ∙ sym (append_assoc c.loop-recording.yielded (c.in-Some.recording ∷ []) c.next.new.self.rest.items)),
)

pub returns : goal.returns
returns c =
    let none : c.loop-recording.recording-iterator.rest.items ≡ [] = nil_from_length c.loop-recording.recording-iterator.rest.items (let e = c.loop-recording.recording-iterator.rest.ok in let f = c.in-None.ensures.steps.0 in omega (arith, e, f)) in
    c.from_vec.ensures ∙ (c.loop-recording.invariant.0 ∙ ap (λ l. map charge_in l) (sym (c.loop-recording.invariant.3 ∙ (ap (λ l. c.loop-recording.yielded ++ l) none ∙ append-nil c.loop-recording.yielded))))
