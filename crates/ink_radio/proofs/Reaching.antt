-- What holds of each state that a script reaches: at the beginning, and after each event.
use Rattle.ink_radio.proofs.Common.{◌≡◌, ℕ, ◌+◌, ◌<◌, ◌≤◌, min, Bool, true, false, cond, eqb, ltb, List, [], ◌∷◌, ◌++◌, length, get_or, take, drop, fold, slice_get, Option, Some, None, refl, sym, ap, subst, ◌∙◌, append_assoc, arith}
use Rattle.std.specs.List.{AllByRecursion}
use Rattle.std.proofs.lemmas.Bool.{eqb-true, ltb-true}
use Rattle.std.proofs.lemmas.List.{append-nil, length-append, take-append-drop, take-take, take_at, take_more, length_push}
use Rattle.std.proofs.lemmas.List.Sums.{fold_more}
use Rattle.std.proofs.lemmas.Option.{slice_get_within, get_or_from_slice_get}
use Rattle.ink_base.specs.declared.output.Output.{Output}
use Rattle.ink_radio.specs.declared.packet.Packet.{Packet}
use Rattle.ink_radio.specs.declared.packet.Packet.TheVariants.{Data, Ack}
use Rattle.ink_radio.specs.declared.event.RadioEvent.{RadioEvent}
use Rattle.ink_radio.specs.declared.event.RadioEvent.TheVariants.{Grow, Send, Rewind, NodeCut, ToBase, ToNode, Save, BaseCut}
use Rattle.ink_radio.specs.declared.state.RadioState.{RadioState}
use Rattle.ink_radio.specs.Radio.{quiet, next_output, after_send, at_base, at_node, after_event, played}
use Rattle.ink_radio.specs.Keeps.{Keeps, EveryPrefixKeeps}
use Rattle.ink_radio.specs.kept.Reached.{IsSent, IsReached}
use Rattle.ink_radio.proofs.Coded.{all_push, all_at, all_then}

-- a packet stays one that was sent while more grows and is saved
sent_then : (outputs : List Output) (grown saved grown' saved' : ℕ) → grown ≤ grown' → saved ≤ saved' → (packet : Packet) → IsSent outputs grown saved packet → IsSent outputs grown' saved' packet
sent_then outputs grown saved grown' saved' more further (Data number output) is = (omega (arith, is.0), is.1)
sent_then outputs grown saved grown' saved' more further (Ack count) is = omega (arith, is)

all_sent_then : (outputs : List Output) (grown saved grown' saved' : ℕ) (air : List Packet) → grown ≤ grown' → saved ≤ saved' → AllByRecursion (IsSent outputs grown saved) air
    → AllByRecursion (IsSent outputs grown' saved') air
all_sent_then outputs grown saved grown' saved' air more further all =
    all_then (IsSent outputs grown saved) (IsSent outputs grown' saved') air (sent_then outputs grown saved grown' saved' more further) all

-- one more output at the end of those that begin the list
front_more : (outputs : List Output) (saved fresh : List Output) (output : Output) → saved ++ fresh ≡ take (length saved + length fresh) outputs
    → slice_get outputs (length saved + length fresh) ≡ Some output → saved ++ (fresh ++ output ∷ []) ≡ take (length saved + length (fresh ++ output ∷ [])) outputs
front_more outputs saved fresh output front at =
    let n = length saved + length fresh in
    let within : n < length outputs = slice_get_within outputs n output at in
    let more = take_more outputs n output within in
    let here : get_or outputs n output ≡ output = get_or_from_slice_get outputs n output output at in
    let count : length saved + length (fresh ++ output ∷ []) ≡ n + 1 = omega (arith, length_push fresh output) in
    sym (append_assoc saved fresh (output ∷ [])) ∙ ap (λ xs. xs ++ output ∷ []) front ∙ ap (λ x. take n outputs ++ x ∷ []) (sym here) ∙ sym more ∙ ap (λ k. take k outputs) (sym count)

-- the saved ones alone
front_saved : (outputs : List Output) (saved fresh : List Output) → saved ++ fresh ≡ take (length saved + length fresh) outputs → saved ++ [] ≡ take (length saved + 0) outputs
front_saved outputs saved fresh front =
    append-nil saved ∙ sym (take_at saved fresh (length saved) refl) ∙ ap (take (length saved)) front ∙ take-take (length saved) (length saved + length fresh) outputs (omega arith)
    ∙ ap (λ k. take k outputs) (omega arith)

-- an option that a test let through
let_through : {A : Type 0} (b : Bool) (o : Option A) (x : A) → cond b o None ≡ Some x → (b ≡ true) × (o ≡ Some x)
let_through true o x e = (refl, e)
let_through false o x e = absurd cc

send_reaches : (outputs : List Output) (s : RadioState) (next : Option Output) → IsReached outputs s → next_output outputs s ≡ next → IsReached outputs (after_send s next)
send_reaches outputs s None is e = is
send_reaches outputs s (Some output) is e =
    let t = let_through (ltb s.cursor s.grown) (slice_get outputs s.cursor) output e in
    record {
      grown = is.grown;
      count = is.count;
      front = is.front;
      acked = is.acked;
      sent = all_push (IsSent outputs s.grown (length s.saved)) s.air (Data s.cursor output) is.sent (ltb-true s.cursor s.grown t.0, t.1);
    }

-- an output that comes to the base, where it follows those that the base has and where it doesn't
output_reaches : (outputs : List Output) (s : RadioState) (output : Output) (follows : Bool) → IsReached outputs s
    → (follows ≡ true → (length s.saved + length s.fresh < s.grown) × (slice_get outputs (length s.saved + length s.fresh) ≡ Some output))
    → IsReached outputs (cond follows (record s { fresh = s.fresh ++ output ∷ [] }) s)
output_reaches outputs s output false is here = is
output_reaches outputs s output true is here = record {
  grown = is.grown;
  sent = is.sent;
  acked = is.acked;
  count = omega (arith, (here refl).0, length_push s.fresh output);
  front = front_more outputs s.saved s.fresh output is.front (here refl).1;
}

base_reaches : (outputs : List Output) (s : RadioState) (packet : Option Packet) → IsReached outputs s → ((p : Packet) → packet ≡ Some p → IsSent outputs s.grown (length s.saved) p)
    → IsReached outputs (at_base s packet)
base_reaches outputs s None is sent = is
base_reaches outputs s (Some (Ack count)) is sent = is
base_reaches outputs s (Some (Data number output)) is sent =
    output_reaches outputs s output (eqb number (length s.saved + length s.fresh)) is
    (λ e.
    let same = eqb-true number (length s.saved + length s.fresh) e in
    subst (λ n. (n < s.grown) × (slice_get outputs n ≡ Some output)) same (sent (Data number output) refl))

node_reaches : (outputs : List Output) (s : RadioState) (packet : Option Packet) → IsReached outputs s → ((p : Packet) → packet ≡ Some p → IsSent outputs s.grown (length s.saved) p)
    → IsReached outputs (at_node s packet)
node_reaches outputs s None is sent = is
node_reaches outputs s (Some (Data number output)) is sent = is
node_reaches outputs s (Some (Ack count)) is sent =
    let counted : count ≤ length s.saved = sent (Ack count) refl in
    record { grown = is.grown; count = is.count; front = is.front; sent = is.sent; acked = omega (arith, is.acked, counted) }

save_reaches : (outputs : List Output) (s : RadioState) → IsReached outputs s → IsReached outputs (after_event outputs s Save)
save_reaches outputs s is =
    let all = length-append s.saved s.fresh in
    record {
      grown = is.grown;
      count = omega (arith, is.count, all);
      front = append-nil (s.saved ++ s.fresh) ∙ is.front ∙ ap (λ n. take n outputs) (omega (arith, all));
      sent =
          all_push (IsSent outputs s.grown (length (s.saved ++ s.fresh))) s.air (Ack (length s.saved + length s.fresh))
          (all_sent_then outputs s.grown (length s.saved) s.grown (length (s.saved ++ s.fresh)) s.air (omega arith) (omega (arith, all)) is.sent) (omega (arith, all));
      acked = omega (arith, is.acked, all);
    }

-- what the state holds goes on after each event
pub event_reaches : (outputs : List Output) (s : RadioState) (event : RadioEvent) → IsReached outputs s → IsReached outputs (after_event outputs s event)
event_reaches outputs s (Grow count) is =
    let grown = min (s.grown + count) (length outputs) in
    record {
      grown = omega (arith, is.grown);
      count = omega (arith, is.grown, is.count);
      front = is.front;
      acked = is.acked;
      sent = all_sent_then outputs s.grown (length s.saved) grown (length s.saved) s.air (omega (arith, is.grown)) (omega arith) is.sent;
    }
event_reaches outputs s Send is = send_reaches outputs s (next_output outputs s) is refl
event_reaches outputs s Rewind is = record { grown = is.grown; count = is.count; front = is.front; sent = is.sent; acked = is.acked }
event_reaches outputs s NodeCut is = record { grown = is.grown; count = is.count; front = is.front; sent = is.sent; acked = is.acked }
event_reaches outputs s (ToBase number) is = base_reaches outputs s (slice_get s.air number) is (λ p e. all_at (IsSent outputs s.grown (length s.saved)) s.air number p is.sent e)
event_reaches outputs s (ToNode number) is = node_reaches outputs s (slice_get s.air number) is (λ p e. all_at (IsSent outputs s.grown (length s.saved)) s.air number p is.sent e)
event_reaches outputs s Save is = save_reaches outputs s is
event_reaches outputs s BaseCut is =
    record { grown = is.grown; count = omega (arith, is.count); front = front_saved outputs s.saved s.fresh is.front; sent = is.sent; acked = is.acked }

from_reaches : (outputs : List Output) (s : RadioState) (script : List RadioEvent) → IsReached outputs s → IsReached outputs (fold (after_event outputs) s script)
from_reaches outputs s [] is = is
from_reaches outputs s (event ∷ script) is = from_reaches outputs (after_event outputs s event) script (event_reaches outputs s event is)

quiet_reached : (outputs : List Output) → IsReached outputs quiet
quiet_reached outputs = record { grown = omega arith; count = omega arith; front = refl; sent = tt; acked = omega arith }

pub played_reaches : (outputs : List Output) (script : List RadioEvent) → IsReached outputs (played outputs script)
played_reaches outputs script = from_reaches outputs quiet script (quiet_reached outputs)

-- what is claimed of such a state
reached_keeps : (outputs : List Output) (s : RadioState) → IsReached outputs s → Keeps outputs s
reached_keeps outputs s is =
    let n = length s.saved + length s.fresh in
    let all = take s.grown outputs in
    record {
      prefix = (drop n all, ap (λ xs. xs ++ drop n all) (is.front ∙ sym (take-take n s.grown outputs is.count)) ∙ take-append-drop n all);
      acked = is.acked;
    }

pub every_prefix : (outputs : List Output) (script : List RadioEvent) → EveryPrefixKeeps outputs script
every_prefix outputs script n = reached_keeps outputs (played outputs (take n script)) (played_reaches outputs (take n script))

-- one more event of a script
pub played_more : (outputs : List Output) (script : List RadioEvent) (i : ℕ) (event : RadioEvent) → i < length script
    → played outputs (take (i + 1) script) ≡ after_event outputs (played outputs (take i script)) (get_or script i event)
played_more outputs script i event lt = fold_more (after_event outputs) quiet script i event lt
