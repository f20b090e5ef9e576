-- The words of a record stand as those of its board.
use Rattle.kernel_core.proofs.Common.{◌≡◌, ℕ, zero, suc, ◌≤◌, List, [], ◌∷◌, ◌++◌, refl, sym, ap, ◌∙◌, subst, arith, flat_map, Entry, JobParts, Layout, Pusher, first_of, after, IsLegal, Stands, ChargeRecord, charge_of, journal_of, Recorded, Board, journal, memory, setup_of, IsCore, RecordStands, entries_of}
use Rattle.kernel_core.proofs.CoreSteps.{stands}

no_entries : (charges : List ChargeRecord) → ((k : ℕ) → (charge_of charges k).entries ≡ []) → flat_map entries_of charges ≡ []
no_entries [] none = refl
no_entries (c ∷ charges) none = ap (λ l. l ++ flat_map entries_of charges) (none 0) ∙ no_entries charges (λ k. none (suc k))

-- the charges that have not begun add nothing
all_entries : (charges : List ChargeRecord) (begun : ℕ) → ((k : ℕ) → begun ≤ k → (charge_of charges k).entries ≡ []) → journal_of charges begun ≡ flat_map entries_of charges
all_entries charges zero later = sym (no_entries charges (λ k. later k (omega arith)))
all_entries [] (suc n) later = refl
all_entries (c ∷ charges) (suc n) later = ap (λ l. c.entries ++ l) (all_entries charges n (λ k le. later (suc k) (omega arith)))

module _ (job : JobParts) (l : Layout) (b : Board) (room : ℕ) (ps : List Pusher) (records : List Recorded) (h : IsCore job l b room ps records) where
  pub record_stands : RecordStands (record { job = job; charges = b.charges; words = b.words })
  record_stands =
      let board = stands job l b room ps records h in
      let same : journal b ≡ flat_map entries_of b.charges = all_entries b.charges b.begun h.holds.size.later in
      record {
        legal = subst (λ (es : List Entry). IsLegal job.program job.readings (first_of job) es) same board.legal;
        stands = subst (λ (es : List Entry). Stands (memory (setup_of job) b) job.program (after job.program job.readings (first_of job) es)) same board.stands;
        image = board.image;
      }
