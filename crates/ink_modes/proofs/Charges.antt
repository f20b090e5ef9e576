-- The journal of a record, charge by charge.
use Rattle.ink_modes.proofs.Common.{◌≡◌, ℕ, zero, suc, ◌+◌, ◌^◌, ◌<◌, List, [], ◌∷◌, ◌++◌, length, take, drop, get_or, sym, ap, ◌∙◌, subst, arith, All, append_assoc, length-append, take-append-drop, drop-cons, refl, append-nil, flat_map, length-flat_map-take, Entry, Program, JobParts, IsJob, Model, after, IsLegal, first_of, HasRoom, ChargeRecord, job_setup, entries_of}
use Rattle.std.proofs.lemmas.List.{take_more}
use Rattle.std.proofs.lemmas.List.Concat.{get_or-flat_map, flat_map-append}
use Rattle.never_cut.specs.declared.entered.Entered.{Entered}
use Rattle.never_cut.specs.declared.entered.Entered.TheVariants.{Made, Illegal}
use Rattle.never_cut.specs.Entries.{Readings, Legal, effect}
use Rattle.never_cut.specs.Replay.{TellsEntry}
use Rattle.never_cut.proofs.Journals.{after-append}
use Rattle.never_cut.proofs.Starts.{has_room_after}

-- entries in two parts
pub after-++ : (program : Program) (readings : Readings) (m : Model) (front back : List Entry) →
    after program readings m (front ++ back) ≡ after program readings (after program readings m front) back
after-++ program readings m [] back = refl
after-++ program readings m (e ∷ front) back = after-++ program readings (effect program readings m e) front back

legal_parts : (program : Program) (readings : Readings) (m : Model) (front back : List Entry) → IsLegal program readings m (front ++ back) →
    IsLegal program readings m front × IsLegal program readings (after program readings m front) back
legal_parts program readings m [] back legal = (tt, legal)
legal_parts program readings m (e ∷ front) back legal =
    let parts = legal_parts program readings (effect program readings m e) front back legal.1 in
    ((legal.0, parts.0), parts.1)

-- each entry of a legal journal is legal in its place
legal_at : (program : Program) (readings : Readings) (m : Model) (journal : List Entry) (n : ℕ) (d : Entry) → IsLegal program readings m journal → n < length journal →
    Legal program readings (after program readings m (take n journal)) (get_or journal n d)
legal_at program readings m [] n d legal lt = absurd (omega arith)
legal_at program readings m (e ∷ journal) zero d legal lt = legal.0
legal_at program readings m (e ∷ journal) (suc n) d legal lt = legal_at program readings (effect program readings m e) journal n d legal.1 (omega arith)

-- so a replay makes each
module _ (p program : Program) (r readings : Readings) (first old new : Model) (entries : List Entry) (k : ℕ) (d : Entry) (answer : Entered) (program_same : p ≡ program) (readings_same : r ≡ readings)
    (legal : IsLegal program readings first entries) (inside : k < length entries) (reached : old ≡ after program readings first (take k entries)) (told : TellsEntry p r old (get_or entries k d) new answer) where
  told_so : TellsEntry program readings old (get_or entries k d) new answer
  told_so = subst (λ (z : Program × Readings). TellsEntry z.0 z.1 old (get_or entries k d) new answer) (λ i. (program_same i, readings_same i)) told

  pub never_refused : answer ≡ Illegal → ⊥
  never_refused is =
      (subst (TellsEntry program readings old (get_or entries k d) new) is told_so).0
      (subst (λ (m : Model). Legal program readings m (get_or entries k d)) (sym reached) (legal_at program readings first entries k d legal inside))

  pub one_entered : answer ≡ Made → new ≡ after program readings first (take (k + 1) entries)
  one_entered is =
      (subst (TellsEntry program readings old (get_or entries k d) new) is told_so).1
      ∙ ap (λ (m : Model). effect program readings m (get_or entries k d)) reached
      ∙ sym (after-append program readings first (take k entries) (get_or entries k d))
      ∙ ap (after program readings first) (sym (take_more entries k d inside))

module _ (charges : List ChargeRecord) (k : ℕ) (d : ChargeRecord) (inside : k < length charges) where
  -- the charges before one, itself, and those behind it
  in_parts : flat_map entries_of charges ≡ flat_map entries_of (take k charges) ++ ((get_or charges k d).entries ++ flat_map entries_of (drop (suc k) charges))
  in_parts =
      ap (flat_map entries_of) (sym (take-append-drop k charges))
      ∙ flat_map-append entries_of (take k charges) (drop k charges)
      ∙ ap (λ (l : List ChargeRecord). flat_map entries_of (take k charges) ++ flat_map entries_of l) (drop-cons charges k d inside)

  -- with one charge more
  pub one_more : flat_map entries_of (take (k + 1) charges) ≡ flat_map entries_of (take k charges) ++ (get_or charges k d).entries
  one_more =
      ap (flat_map entries_of) (take_more charges k d inside)
      ∙ flat_map-append entries_of (take k charges) (get_or charges k d ∷ [])
      ∙ ap (λ (l : List Entry). flat_map entries_of (take k charges) ++ l) (append-nil (get_or charges k d).entries)

  -- the entries of a charge name what those of all charges name
  pub names_of : (P : Entry → Type 0) → All P (flat_map entries_of charges) → All P (get_or charges k d).entries
  names_of P all = λ j e lt.
      subst P (get_or-flat_map entries_of charges k j d e inside lt)
      (all (length (flat_map entries_of (take k charges)) + j) e (omega (arith, length-flat_map-take entries_of charges k d inside)))

  module _ (job : JobParts) (legal : IsLegal job.program job.readings (first_of job) (flat_map entries_of charges)) where
    -- the state after the charges before it
    abbrev before : Model
    before = after job.program job.readings (first_of job) (flat_map entries_of (take k charges))

    behind : IsLegal job.program job.readings before ((get_or charges k d).entries ++ flat_map entries_of (drop (suc k) charges))
    behind =
        (legal_parts job.program job.readings (first_of job) (flat_map entries_of (take k charges)) _
        (subst (IsLegal job.program job.readings (first_of job)) in_parts legal)).1

    -- the entries of a charge are legal there
    pub charge_legal : IsLegal job.program job.readings before (get_or charges k d).entries
    charge_legal = (legal_parts job.program job.readings before (get_or charges k d).entries (flat_map entries_of (drop (suc k) charges)) behind).0

    -- and each finds room
    pub charge_room : IsJob job → length (flat_map entries_of charges) < 2 ^ 32 → (n : ℕ) → n < length (get_or charges k d).entries →
        HasRoom job.program (after job.program job.readings before (take n (get_or charges k d).entries))
    charge_room is few n lt =
        let setup = job_setup job is in
        let first : Model = first_of job in
        let front : List Entry = flat_map entries_of (take k charges) in
        let entries : List Entry = (get_or charges k d).entries in
        let rest : List Entry = flat_map entries_of (drop (suc k) charges) in
        let whole : flat_map entries_of charges ≡ (front ++ take n entries) ++ (drop n entries ++ rest) =
        in_parts ∙ ap (λ (l : List Entry). front ++ (l ++ rest)) (sym (take-append-drop n entries))
        ∙ ap (λ (l : List Entry). front ++ l) (append_assoc (take n entries) (drop n entries) rest)
        ∙ sym (append_assoc front (take n entries) (drop n entries ++ rest)) in
        subst (HasRoom job.program) (after-++ job.program job.readings first front (take n entries))
        (has_room_after job.program job.readings first (front ++ take n entries) setup.accepted (record { count = is.sources; few = setup.short.few }) setup.start
        (legal_parts job.program job.readings first (front ++ take n entries) _ (subst (IsLegal job.program job.readings first) whole legal)).0
        (omega (arith, ap length whole, length-append (front ++ take n entries) (drop n entries ++ rest), few)))
