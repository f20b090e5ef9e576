-- Two states that differ by what a cut loses alone; and no entry unsettles a reading.
use Rattle.going_on.proofs.Common.{◌≡◌, ◌⊎◌, ℕ, zero, suc, ◌≤◌, true, List, [], ◌∷◌, length, get_or, set, None, ap, arith, slice_index, Entry, Program, Model, SourceModel, source_of, no_source, Readings, readings_of, effect, after}
use Rattle.ink_base.specs.declared.entry.Entry.TheVariants.{Push, Refuse, Skip, Tick, Scan, Look, Commit, Release}
use Rattle.never_cut.specs.Entries.{with_accepted, with_refused, with_skipped}
use Rattle.never_cut.proofs.Commits.{commit-sources}
use Rattle.going_on.specs.Lost.{without_scan}

-- from its floor on, each reading of a source is the same
abbrev pub AgreeFrom : (floor : ℕ → ℕ) → (one two : Readings) → Type 0
AgreeFrom floor one two = (i k : ℕ) → floor i ≤ k → slice_index (readings_of one i) k ≡ slice_index (readings_of two i) k

-- each source has settled the readings below its floor
abbrev pub IsAbove : (floor : ℕ → ℕ) → Model → Type 0
IsAbove floor m = (i : ℕ) → floor i ≤ (source_of m i).next

-- a source that has a mark in the second list has it in the first one too
abbrev pub AreMarked : (xs ys : List SourceModel) → Type 0
AreMarked xs ys = (i : ℕ) → (get_or ys i no_source).refused ≡ true → (get_or xs i no_source).refused ≡ true

-- the states differ by what a cut loses alone: the second has the scan of the first, or none, and no mark that the first hasn't
pub record IsAlike (a b : Model) : Type 0 where
  pub same : without_scan a ≡ without_scan b
  pub scan : (b.scan ≡ None) ⊎ (b.scan ≡ a.scan)
  pub marks : AreMarked a.sources b.sources

pub set_marks : (xs ys : List SourceModel) (j : ℕ) (x y : SourceModel) → length xs ≡ length ys → AreMarked xs ys → (y.refused ≡ true → x.refused ≡ true) →
    AreMarked (set xs j x) (set ys j y)
set_marks [] [] j x y long marks mark i is = marks i is
set_marks [] (b ∷ ys) j x y long marks mark i is = absurd (omega arith)
set_marks (a ∷ xs) [] j x y long marks mark i is = absurd (omega arith)
set_marks (a ∷ xs) (b ∷ ys) zero x y long marks mark zero is = mark is
set_marks (a ∷ xs) (b ∷ ys) zero x y long marks mark (suc i) is = marks (suc i) is
set_marks (a ∷ xs) (b ∷ ys) (suc j) x y long marks mark zero is = marks 0 is
set_marks (a ∷ xs) (b ∷ ys) (suc j) x y long marks mark (suc i) is = set_marks xs ys j x y (omega arith) (λ k. marks (suc k)) mark i is

-- a source that has settled more
set_rises : (xs : List SourceModel) (i j : ℕ) (s : SourceModel) → (get_or xs j no_source).next ≤ s.next →
    (get_or xs i no_source).next ≤ (get_or (set xs j s) i no_source).next
set_rises [] i j s le = omega arith
set_rises (x ∷ xs) zero zero s le = le
set_rises (x ∷ xs) zero (suc j) s le = omega arith
set_rises (x ∷ xs) (suc i) zero s le = omega arith
set_rises (x ∷ xs) (suc i) (suc j) s le = set_rises xs i j s le

-- no entry unsettles a reading
pub rises : (program : Program) (readings : Readings) (m : Model) (e : Entry) (i : ℕ) → (source_of m i).next ≤ (source_of (effect program readings m e) i).next
rises program readings m (Push j) i = set_rises m.sources i j.0 (with_accepted (source_of m j.0)) (omega arith)
rises program readings m (Refuse j) i = set_rises m.sources i j.0 (with_refused (source_of m j.0)) (omega arith)
rises program readings m (Skip j) i = set_rises m.sources i j.0 (with_skipped (source_of m j.0)) (omega arith)
rises program readings m (Tick by) i = omega arith
rises program readings m Scan i = omega arith
rises program readings m (Look t) i = omega arith
rises program readings m (Commit t) i = let same = ap (λ (xs : List SourceModel). (get_or xs i no_source).next) (commit-sources program t.0 m) in omega arith
rises program readings m (Release t) i = omega arith

pub rises_after : (program : Program) (readings : Readings) (m : Model) (entries : List Entry) (i : ℕ) →
    (source_of m i).next ≤ (source_of (after program readings m entries) i).next
rises_after program readings m [] i = omega arith
rises_after program readings m (e ∷ entries) i =
    let one = rises program readings m e i in
    let more = rises_after program readings (effect program readings m e) entries i in
    omega arith
