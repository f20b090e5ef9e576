-- What the kernel serves it has seen.
use Rattle.std.proofs.Common.{◌≡◌, ◌⊎◌, inl, inr, ℕ, suc, ◌+◌, ◌<◌, ◌≤◌, ◌==◌, ◌&&◌, cond, Bool, true, false, List, [], ◌∷◌, ◌++◌, take, length, refl, sym, ap, ◌∙◌, subst, arith, Option, Some, None}
use Rattle.std.proofs.Math.Seq.{take-append_seam}
use Rattle.std.proofs.lemmas.List.{take-append-le}
use Rattle.std.proofs.lemmas.Option.{same_Some}
use mathlib.Core.Option.{some}
use lib.ListN.{get_elem?}
use Rattle.ink_base.specs.declared.event.Event.{Event}
use Rattle.ink_base.specs.declared.event.Origin.{Origin}
use Rattle.ink_base.specs.declared.event.Origin.TheVariants as origins
use Rattle.ink_base.specs.declared.ids.TaskId.{TaskId}
use Rattle.ink_base.specs.declared.ids.ThreadId.{ThreadId}
use Rattle.task_isa.specs.declared.program.Program.{Program}
use Rattle.push_core.specs.Slots.{slot_in}
use Rattle.push_core.specs.Queue.{event_at}
use Rattle.fram_words.specs.declared.layout.Layout.{Layout}
use Rattle.fram_words.specs.Places.{answer}
use Rattle.ink_layout.specs.Points.{entry_of_point}
use Rattle.ink_layout.specs.declared.slot_at.SlotAt.{SlotAt}
use Rattle.ink_layout.specs.declared.kernel_point.KernelPoint.{KernelPoint}
use Rattle.ink_layout.specs.declared.kernel_point.KernelPoint.TheVariants as points
use Rattle.never_cut.specs.declared.model.Model.{Model}
use Rattle.never_cut.specs.declared.scan_model.ScanModel.{ScanModel}
use Rattle.never_cut.specs.Commit.{is_of_queue}
use Rattle.never_cut.specs.Entries.{Readings, InScan, ArePassed}
use Rattle.never_cut.specs.Journal.{MayNote}
use Rattle.never_cut.specs.Pending.{pending, first_of}
use Rattle.never_cut.specs.Sound.{IsSound, IsServed}
use Rattle.never_cut.specs.State.{thread_of}
use Rattle.never_cut.proofs.Turns.{IsInTurn, pending_of}
use Rattle.kernel_account.specs.Account.{open_account, account_after, charge_after, next_charge}
use Rattle.kernel_account.specs.declared.entry.KernelEntry.{KernelEntry}
use Rattle.kernel_account.specs.declared.entry.KernelEntry.TheVariants as told
use Rattle.kernel_account.proofs.Besides.{released_same, pending_beside}
use Rattle.kernel_core.specs.Kernel.{wants, point_found}
use Rattle.kernel_core.specs.declared.kernel.Kernel.{Kernel}
use Rattle.event_queue.proofs.Basics.{below, snoc_cases}
use Rattle.event_queue.specs.Calls.{released_of, seen_of}
use Rattle.event_queue.specs.Events.{holds_event}
use Rattle.event_queue.specs.Views.{calls_of, known_of, known_published}
use Rattle.event_queue.specs.declared.view.Call.{Call}
use Rattle.event_queue.specs.declared.view.Call.TheVariants as made
use Rattle.event_queue.specs.declared.view.View.{View}
use Rattle.kernel_actor.specs.Accounts.{AreFound, entry_made, noted}
use Rattle.kernel_actor.specs.Held.{IsHeld}
use Rattle.kernel_actor.specs.Kinds.{kind_of}
use Rattle.kernel_actor.specs.Rows.{Place, Finds, LeadsOne}
use Rattle.kernel_actor.specs.Served.{IsSeenBy, KeepsSeen, state_before}
use Rattle.kernel_actor.specs.kept.Answered.{Answered}
use Rattle.kernel_actor.specs.kept.Standing.{Standing}
use Rattle.kernel_actor.specs.declared.kind.Kind.{Kind}
use Rattle.kernel_actor.specs.declared.kind.Kind.TheVariants.{Own, Clock, Look, Acknowledge, Release}
use Rattle.kernel_actor.proofs.Besides.{are_seen}
use Rattle.kernel_actor.proofs.Rows.{IsPointOf, LooksAt, Tells}
use Rattle.kernel_actor.proofs.Standings.{board, tells, own_found}
use Rattle.kernel_actor.proofs.Turns.{turn_legal}

-- what is known to be published is released, or the next
known_least : (o : Option ℕ) (r : ℕ) → r ≤ known_published o r
known_least None r = omega arith
known_least (Some w) r = omega arith

known_most : (o : Option ℕ) (r : ℕ) → known_published o r ≤ r + 1
known_most None r = omega arith
known_most (Some w) r = omega arith

-- with a call more no less is known
known_more : (t : ℕ) (call : Call) (calls : List Call) → known_of t calls ≤ known_of t (call ∷ calls)
known_more t (made.Look u p w) calls = by_test (u == t && p == released_of t calls && holds_event p (slot_in w))
  where
    by_test : (b : Bool) → known_of t calls ≤ known_published (cond b (Some w) (seen_of t calls)) (released_of t calls)
    by_test true = known_most (seen_of t calls) (released_of t calls)
    by_test false = omega arith
known_more t (made.Release u p) calls = by_test (u == t)
  where
    by_test : (b : Bool) → known_of t calls ≤ known_published (cond b None (seen_of t calls)) (cond b (released_of t calls + 1) (released_of t calls))
    by_test true = known_most (seen_of t calls) (released_of t calls)
    by_test false = omega arith
known_more t _ calls = omega arith

-- what was found with a call more was found before it
found_before : (events : ℕ → List Event) (call : Call) (calls : List Call) → AreFound events (call ∷ calls) → AreFound events calls
found_before events (made.Look t p w) calls found = found.1
found_before events _ calls found = found

-- later calls: what was found by them was found before, and no less is known
pub record AreLater (old new : List Call) : Type 0 where
  pub found : (events : ℕ → List Event) → AreFound events new → AreFound events old
  pub known : (t : ℕ) → known_of t old ≤ known_of t new

later_same : (old new : List Call) → new ≡ old → AreLater old new
later_same old new same = record { found = λ events found. subst (AreFound events) same found; known = λ t. let e = ap (known_of t) same in omega arith }

later_call : (old new : List Call) (call : Call) → new ≡ call ∷ old → AreLater old new
later_call old new call is = record {
  found = λ events found. found_before events call old (subst (AreFound events) is found);
  known = λ t. let more = known_more t call old in let e = ap (known_of t) is in omega arith;
}

pub leads_later : (program : Program) (old new : Place) → LeadsOne program old new → AreLater old.calls new.calls
leads_later program old new one = by_kind (kind_of old.kernel) one.finds
  where
    by_kind : (k : Kind) → Finds program old new k one.word → AreLater old.calls new.calls
    by_kind Own f = later_same old.calls new.calls f.2
    by_kind Clock f = later_call old.calls new.calls (made.LoadClock one.word) f.0
    by_kind (Look at) f = later_call old.calls new.calls (made.Look at.thread.0 at.position one.word) f.0
    by_kind (Acknowledge at) f = later_call old.calls new.calls (made.StoreAck at.thread.0 at.position) f.0
    by_kind (Release at) f = later_call old.calls new.calls (made.Release at.thread.0 at.position) f.0

-- what was seen stays seen
seen_later : (program : Program) (old new : List Call) (m : Model) (e : KernelEntry) → AreLater old new → IsSeenBy program old m e → IsSeenBy program new m e
seen_later program old new m (told.Scan c) later h = tt
seen_later program old new m (told.Look t p) later h = let more = later.known t.0 in omega (arith, h)
seen_later program old new m (told.Commit t) later h = λ e is queue. let more = later.known t.0 in let less = h e is queue in omega arith
seen_later program old new m (told.Release t) later h = tt

-- the first entries stay when one is noted
take_noted : (entries : List KernelEntry) (o : Option KernelEntry) (n : ℕ) → n < length entries → take n (noted entries o) ≡ take n entries
take_noted entries None n lt = refl
take_noted entries (Some e) n lt = take-append-le n entries (e ∷ []) (omega arith)

-- nothing was added
pub seen_none : (program : Program) (done : List (List KernelEntry)) (p : Place) → KeepsSeen program done p p
seen_none program done p = record { each = λ events found n e at. inl at }

-- one row more
pub seen_then : (program program' : Program) (done done' : List (List KernelEntry)) (first old new : Place) → KeepsSeen program done first old → program' ≡ program → done' ≡ done → LeadsOne program' old new → KeepsSeen program' done' old new →
    KeepsSeen program done first new
seen_then program program' done done' first old new before same same_done one after =
    let last = subst (λ (z : Program × List (List KernelEntry)). KeepsSeen z.0 z.1 old new) (λ j. (same j, same_done j)) after in
    record { each = λ events found n e at. elim (last.each events found n e at) [ inl early ↦ by_first events found n e early (before.each events (later.found events found) n e early) | inr late ↦ inr late ] }
  where
    later : AreLater old.calls new.calls
    later = leads_later program' old new one

    by_first : (events : ℕ → List Event) → AreFound events new.calls → (n : ℕ) (e : KernelEntry) → get_elem? old.entries n ≡ some e →
        (get_elem? first.entries n ≡ some e) ⊎ IsSeenBy program old.calls (state_before program events done old.entries n) e →
        (get_elem? first.entries n ≡ some e) ⊎ IsSeenBy program new.calls (state_before program events done new.entries n) e
    by_first events found n e at (inl there) = inl there
    by_first events found n e at (inr h) =
        let kept : take n new.entries ≡ take n old.entries =
        ap (take n) one.entries ∙ take_noted old.entries (entry_made (kind_of old.kernel) one.word (point_found program' old.kernel one.word)) n (below old.entries n e at) in
        inr (seen_later program old.calls new.calls (state_before program events done new.entries n) e later
        (subst (λ (l : List KernelEntry). IsSeenBy program old.calls (charge_after program (next_charge (account_after program (open_account program events) done)) l) e) (sym kept) h))

-- the account behind the last charge
account_last : (program : Program) (m : Model) (done : List (List KernelEntry)) (entries : List KernelEntry) → account_after program m (done ++ entries ∷ []) ≡ charge_after program (next_charge (account_after program m done)) entries
account_last program m [] entries = refl
account_last program m (charge ∷ done) entries = account_last program (charge_after program (next_charge m) charge) done entries

-- a thread of a sound state is served in its turn
runs_task : (o : Option TaskId) → elim o as (λ _. Bool) [ Some task ↦ true | None ↦ false ] ≡ true → (task : TaskId) × (o ≡ Some task)
runs_task None is = absurd (let clash : false ≡ true = is in cc)
runs_task (Some task) is = (task, refl)

first_is : (held : List Event) (e : Event) → 0 < length held → event_at held 0 ≡ e → first_of held ≡ Some e
first_is [] e least is = absurd (omega arith)
first_is (x ∷ held) e least is = ap Some is

in_turn : (program : Program) (readings : Readings) (m : Model) (t : ℕ) → t < length program.threads → IsSound program readings m → IsInTurn (thread_of m t)
in_turn program readings m t known sound = record {
  finished = λ is. ((sound.threads t known).finished is).0;
  clear = λ runs. let task = runs_task (thread_of m t).running runs in ((sound.threads t known).chain task.0 task.1).unfinished;
  chain = λ runs e is queue.
      let task = runs_task (thread_of m t).running runs in
      let chain = (sound.threads t known).chain task.0 task.1 in
      let same : chain.event ≡ e = same_Some chain.event e (sym chain.is ∙ is) in
      by_origin e.origin e.value queue (subst (IsServed program m t) same chain.served);
}
  where
    by_origin : (o : Origin) (value : ℕ) → is_of_queue (record { origin = o; value = value }) ≡ true → IsServed program m t (record { origin = o; value = value }) → first_of (thread_of m t).held ≡ Some (record { origin = o; value = value })
    by_origin (origins.Source source count) value queue served = first_is (thread_of m t).held _ served.0 served.1
    by_origin (origins.Pipe pipe item) value queue served = absurd (let clash : false ≡ true = queue in cc)
    by_origin (origins.Timer timer deadline) value queue served = absurd (let clash : false ≡ true = queue in cc)

-- a held event was seen
seen_held : (o : Option ℕ) (r : ℕ) (held : List Event) (e : Event) → IsHeld o r held → first_of held ≡ Some e → r < known_published o r
seen_held None r held e none is = absurd (let clash : None ≡ Some e = sym (ap first_of none) ∙ is in cc)
seen_held (Some w) r held e one is = omega arith

module _ {program : Program} {layout : Layout} {fram : List ℕ} {kernel : Kernel} {v : View} {left : ℕ} (done : List (List KernelEntry)) (entries : List KernelEntry)
    (h : Standing program layout fram kernel v (suc left) (done ++ entries ∷ [])) where
  -- the account's state
  abbrev account : (ℕ → List Event) → Model
  account events = account_after program (open_account program events) (done ++ entries ∷ [])

  -- a thread that commits serves an event of its queue only where it was seen
  commit_seen : (events : ℕ → List Event) (found : AreFound events (calls_of v)) (t : ThreadId) → MayNote program h.imagines.readings h.state (entry_of_point (points.Commit t)) → IsSeenBy program (calls_of v) (account events) (told.Commit t)
  commit_seen events found t legal e is queue = by_scan h.state.scan refl legal.1
    where
      by_scan : (o : Option ScanModel) → h.state.scan ≡ o → InScan (record h.state { scan = o }) (λ scan. ArePassed program h.state scan t.0) → (thread_of (account events) t.0).released < known_of t.0 (calls_of v)
      by_scan None none in_scan = absurd in_scan
      by_scan (Some scan) scanned in_scan =
          let sound = h.imagines.background.sound in
          let beside = (h.accounts events found).1 in
          let calm : (thread_of h.state t.0).finished ≡ false = sound.calm scan scanned t.0 legal.0 in
          let own : pending program h.state t.0 ≡ Some e = sym (pending_beside beside h.imagines.readings t (are_seen h.imagines events found) calm legal) ∙ is in
          let first = pending_of program h.state t.0 scan e (in_turn program h.imagines.readings h.state t.0 legal.0 sound) calm scanned own queue in
          let less = seen_held (seen_of t.0 (calls_of v)) (released_of t.0 (calls_of v)) (thread_of h.state t.0).held e (h.imagines.held t.0 legal.0) first in
          omega (arith, less, released_same beside t.0, h.imagines.released t.0 legal.0)

  own_seen : (w : ℕ) → w ≡ answer h.imagines.words (wants program kernel) → (events : ℕ → List Event) → AreFound events (calls_of v) → (p : KernelPoint) → point_found program kernel w ≡ p → IsPointOf Own p → (e : KernelEntry) → entry_made Own w p ≡ Some e →
      IsSeenBy program (calls_of v) (account events) e
  own_seen w is events found points.Nothing same of e made_is = absurd (let clash : None ≡ Some e = made_is in cc)
  own_seen w is events found (points.Commit t) same of e made_is =
      let legal : MayNote program h.imagines.readings h.state (entry_of_point (points.Commit t)) =
      subst (λ (p : KernelPoint). MayNote program h.imagines.readings h.state (entry_of_point p)) (ap (point_found program kernel) (sym is) ∙ same) (turn_legal h.imagines) in
      subst (IsSeenBy program (calls_of v) (account events)) (same_Some (told.Commit t) e made_is) (commit_seen events found t legal)
  own_seen w is events found _ same of e made_is = absurd of

  look_seen : (calls : List Call) (at : SlotAt) (w : ℕ) (m : Model) (e : KernelEntry) → calls ≡ made.Look at.thread.0 at.position w ∷ calls_of v → LooksAt program h.state kernel at →
      (p : KernelPoint) → point_found program kernel w ≡ p → IsPointOf (Look at) p → entry_made (Look at) w p ≡ Some e → IsSeenBy program calls m e
  look_seen calls at w m e is looks points.Nothing same of made_is = absurd (let clash : None ≡ Some e = made_is in cc)
  look_seen calls at w m e is looks (points.Look t) same of made_is =
      let next : at.position ≡ released_of at.thread.0 (calls_of v) =
      elim looks.position [
        | inl next ↦ next ∙ (board h).released at.thread.0 looks.known
        | inr past ↦ absurd (let clash : points.Nothing ≡ points.Look t = sym (past.nothing w) ∙ same in cc)
      ] in
      let least = known_least (seen_of at.thread.0 (calls_of v)) (released_of at.thread.0 (calls_of v)) in
      let more = known_more at.thread.0 (made.Look at.thread.0 at.position w) (calls_of v) in
      let there : at.position ≤ known_of at.thread.0 calls = let e = ap (known_of at.thread.0) is in omega arith in
      subst (IsSeenBy program calls m) (same_Some (told.Look t at.position) e made_is) (subst (λ (u : ThreadId). at.position ≤ known_of u.0 calls) (sym of) there)
  look_seen calls at w m e is looks _ same of made_is = absurd of

  clock_seen : (calls : List Call) (w : ℕ) (m : Model) (p : KernelPoint) → IsPointOf Clock p → (e : KernelEntry) → entry_made Clock w p ≡ Some e → IsSeenBy program calls m e
  clock_seen calls w m points.Nothing of e made_is = absurd (let clash : None ≡ Some e = made_is in cc)
  clock_seen calls w m points.Scan of e made_is = subst (IsSeenBy program calls m) (same_Some (told.Scan w) e made_is) tt
  clock_seen calls w m _ of e made_is = absurd of

  ack_seen : (calls : List Call) (at : SlotAt) (w : ℕ) (m : Model) (p : KernelPoint) → IsPointOf (Acknowledge at) p → (e : KernelEntry) → entry_made (Acknowledge at) w p ≡ Some e → IsSeenBy program calls m e
  ack_seen calls at w m points.Nothing of e made_is = absurd (let clash : None ≡ Some e = made_is in cc)
  ack_seen calls at w m _ of e made_is = absurd of

  seen_by : (fram' : List ℕ) (v' : View) (w : ℕ) (events : ℕ → List Event) → AreFound events (calls_of v) → (k : Kind) → Tells program h.state kernel (wants program kernel) (point_found program kernel) k →
      Answered program kernel fram fram' v v' k w → (e : KernelEntry) → entry_made k w (point_found program kernel w) ≡ Some e → IsSeenBy program (calls_of v') (account events) e
  seen_by fram' v' w events found Own t a e made_is =
      subst (λ (z : View). IsSeenBy program (calls_of z) (account events) e) (sym a.2) (own_seen w (a.0 ∙ own_found h t.0) events found (point_found program kernel w) refl (t.1 w) e made_is)
  seen_by fram' v' w events found Clock t a e made_is = clock_seen (calls_of v') w (account events) (point_found program kernel w) (t.1 w) e made_is
  seen_by fram' v' w events found (Look at) t a e made_is = look_seen (calls_of v') at w (account events) e a.0 t.2 (point_found program kernel w) refl (t.1 w) made_is
  seen_by fram' v' w events found (Acknowledge at) t a e made_is = ack_seen (calls_of v') at w (account events) (point_found program kernel w) (t.3 w) e made_is
  seen_by fram' v' w events found (Release at) t a e made_is =
      subst (IsSeenBy program (calls_of v') (account events)) (same_Some (told.Release at.thread) e (ap (entry_made (Release at) w) (sym (t.1 w)) ∙ made_is)) tt

  noted_seen : (calls : List Call) (o : Option KernelEntry) (events : ℕ → List Event) → ((e : KernelEntry) → o ≡ Some e → IsSeenBy program calls (account events) e) → (n : ℕ) (e : KernelEntry) → get_elem? (noted entries o) n ≡ some e →
      (get_elem? entries n ≡ some e) ⊎ IsSeenBy program calls (state_before program events done (noted entries o) n) e
  noted_seen calls None events each n e at = inl at
  noted_seen calls (Some x) events each n e at =
      elim (snoc_cases entries x n e at) [
        | inl before ↦ inl before.1
        | inr last ↦ inr (subst (λ (z : ℕ × KernelEntry). IsSeenBy program calls (state_before program events done (entries ++ x ∷ []) z.0) z.1) (λ j. (last.0 j, last.1 j)) here)
      ]
    where
      here : IsSeenBy program calls (state_before program events done (entries ++ x ∷ []) (length entries)) x
      here =
          subst (λ (m : Model). IsSeenBy program calls m x)
          (account_last program (open_account program events) done entries
          ∙ ap (charge_after program (next_charge (account_after program (open_account program events) done))) (sym (take-append_seam entries (x ∷ []))))
          (each x refl)

  -- what an access adds was seen
  pub step_seen : (fram' : List ℕ) (v' : View) (w : ℕ) → AreLater (calls_of v) (calls_of v') → Answered program kernel fram fram' v v' (kind_of kernel) w → (events : ℕ → List Event) → AreFound events (calls_of v') → (n : ℕ) (e : KernelEntry) →
      get_elem? (noted entries (entry_made (kind_of kernel) w (point_found program kernel w))) n ≡ some e →
      (get_elem? entries n ≡ some e) ⊎ IsSeenBy program (calls_of v') (state_before program events done (noted entries (entry_made (kind_of kernel) w (point_found program kernel w))) n) e
  step_seen fram' v' w later a events found n e at =
      noted_seen (calls_of v') (entry_made (kind_of kernel) w (point_found program kernel w)) events (λ x made_is. seen_by fram' v' w events (later.found events found) (kind_of kernel) (tells h) a x made_is) n e at
