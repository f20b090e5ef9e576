-- What a source's own lists tell of the events of its queue.
use Rattle.std.proofs.Common.{◌≡◌, ◌⊎◌, inl, inr, ℕ, ◌+◌, ◌-◌, ◌/◌, ◌%◌, ◌^◌, ◌<◌, ◌≤◌, List, map, length, slice_index, refl, sym, ap, ◌∙◌, subst, arith}
use Rattle.std.proofs.lemmas.Bool.{cases_eq, cases_lt}
use mathlib.Core.Option.{some}
use lib.ListN.{get_elem?}
use Rattle.event_queue.specs.declared.view.Call.{Call}
use Rattle.event_queue.specs.Calls.{Knows, Won, mine_of, won, knows_of}
use Rattle.event_queue.specs.Events.{Entry}
use Rattle.event_queue.specs.Rule.{SourceKept}
use Rattle.event_queue.proofs.Basics.{same_element}
use Rattle.irq_source.specs.declared.lists.Published.{Published}
use Rattle.irq_source.specs.declared.lists.Declined.{Declined}
use Rattle.irq_source.specs.Account.{IsDeclined, IsRefused, publication}
use Rattle.irq_source.specs.Known.{settled_of}
use Rattle.irq_source.proofs.Basics.{at_map}
use Rattle.queue_lists.specs.Accounts.{KeepsSrc, source_with}
use Rattle.queue_lists.specs.Tellings.{IsAccountOver, IsListed, HasReading, Parts, TellsReadings}
use Rattle.queue_lists.proofs.Elements.{unmapped}

-- what is settled, by SRC and the number of publications
pub settled_is : (number src : ℕ) (s : Knows) → KeepsSrc number src s → settled_of src s ≡ src / 2 ^ 32 + (length s.mine - src % 2 ^ 32)
settled_is number src s kept = elim (cases_eq (length s.mine) (src % 2 ^ 32)) [
  | inl all ↦ let last = kept.settled all in omega arith
  | inr less ↦ let one : length s.mine ≡ src % 2 ^ 32 + 1 = by_cases kept.least kept.most less in let last = (kept.behind one).0 in omega arith
]
  where
    by_cases : {a b : ℕ} → a ≤ b → b ≤ a + 1 → (b ≡ a → ⊥) → b ≡ a + 1
    by_cases {a} {b} le ge other = elim (cases_lt a b) [ inl lt ↦ omega arith | inr under ↦ absurd (other (omega arith)) ]

-- the next reading, by SRC and the calls
abbrev next_by : ℕ → List Call → ℕ
next_by src calls = (source_with src (length (mine_of calls))).next

module _ (ring : ℕ) {i tail released : ℕ} {entries : List Entry} {calls : List Call} (h : SourceKept i tail entries released (knows_of ring calls)) {places begun src : ℕ} {readings : List ℕ} {accepted : List Published} {refused : List Declined}
    (a : IsAccountOver entries calls places begun src readings accepted refused) where
  next_is : settled_of src a.knows ≡ (next_by src calls)
  next_is = settled_is (length readings) src a.knows a.src_kept ∙ ap (λ (ms : List Won). src / 2 ^ 32 + (length ms - src % 2 ^ 32)) a.mine

  published : map publication accepted ≡ mine_of calls
  published = a.lists.mine ∙ a.mine

  listed : (p : ℕ) (e : Entry) → get_elem? entries p ≡ some e → e.source ≡ i → IsListed begun (next_by src calls) readings accepted p e
  listed p e at own =
      let mine = h.own p e at own in
      let x = unmapped publication accepted mine.number (won p e.reading e.value) (ap (λ (ms : List Won). get_elem? ms mine.number) published ∙ mine.at) in
      let facts = a.lists.published mine.number x.0 x.1 in
      let reading : x.0.reading ≡ e.reading = ap (λ (w : Won). w.reading) x.2 in
      let value : x.0.value ≡ e.value = ap (λ (w : Won). w.value) x.2 in
      record {
        number = mine.number;
        listed = x.0;
        at = x.1;
        same = x.2;
        charge = facts.charge;
        settled = omega (arith, facts.reading, next_is, reading);
        within = omega (arith, facts.reading, a.lists.within, reading);
        value = sym value ∙ facts.value ∙ ap (slice_index readings) reading;
      }

  rise : (p q : ℕ) (x y : Entry) → p < q → get_elem? entries p ≡ some x → get_elem? entries q ≡ some y → x.source ≡ i → y.source ≡ i → x.reading < y.reading
  rise p q x y lt at_x at_y own_x own_y =
      let m = h.own p x at_x own_x in
      let n = h.own q y at_y own_y in
      elim (cases_lt m.number n.number) [
        | inl before ↦ (h.rises m.number n.number _ _ before m.at n.at).1
        | inr behind ↦ absurd (elim (cases_eq m.number n.number) [
          | inl same ↦ let p_is : p ≡ q = ap (λ (w : Won). w.position) (same_element (mine_of calls) n.number _ _ (subst (λ (c : ℕ). get_elem? (mine_of calls) c ≡ some (won p x.reading x.value)) same m.at) n.at) in omega arith
          | inr apart ↦ let under : n.number < m.number = by_cases behind apart in let back = (h.rises n.number m.number _ _ under n.at m.at).0 in omega arith
        ])
      ]
    where
      by_cases : {b c : ℕ} → c ≤ b → (b ≡ c → ⊥) → c < b
      by_cases {b} {c} le other = elim (cases_lt c b) [ inl less ↦ less | inr ge ↦ absurd (other (omega arith)) ]

  covered : (k : ℕ) → k < (next_by src calls) → HasReading entries i k ⊎ IsRefused refused k
  covered k lt = elim (a.lists.covered k (omega (arith, next_is))) [
    | inl there ↦
        let at : get_elem? (mine_of calls) there.0 ≡ some (publication there.1) = ap (λ (ms : List Won). get_elem? ms there.0) (sym published) ∙ at_map publication accepted there.0 there.1 there.2 in
        inl (there.1.position, record { source = i; count = there.0 % 64; reading = there.1.reading; value = there.1.value }, h.back there.0 (publication there.1) at, refl, there.3)
    | inr there ↦ inr there
  ]

  refusals : (n : ℕ) (d : Declined) → get_elem? refused n ≡ some d → IsDeclined places begun (next_by src calls) (length entries) d
  refusals n d at =
      let facts = a.lists.declined n d at in
      record { turn = facts.turn; published = omega (arith, facts.published, a.out); reading = omega (arith, facts.reading, next_is); charge = facts.charge }

  parted : (p n : ℕ) (e : Entry) (d : Declined) → get_elem? entries p ≡ some e → e.source ≡ i → get_elem? refused n ≡ some d → Parts d p e
  parted p n e d at own at_d =
      let x = listed p e at own in
      let position : x.listed.position ≡ p = ap (λ (w : Won). w.position) x.same in
      let reading : x.listed.reading ≡ e.reading = ap (λ (w : Won). w.reading) x.same in
      elim (a.lists.parted x.number n x.listed d x.at at_d) [
        | inl under ↦ inl (omega (arith, under.0, position), omega (arith, under.1, reading))
        | inr over ↦ inr (omega (arith, over.0, position), omega (arith, over.1, reading))
      ]

  pub tells_readings : TellsReadings entries i places begun (next_by src calls) readings accepted refused
  tells_readings = record { events = listed; rise = rise; within = omega (arith, a.lists.within, next_is); settled = covered; refusals = refusals; parted = parted }
