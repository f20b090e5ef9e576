-- Entries one after another, and the readings that they settle.
use Rattle.std.specs.Prelude.{◌≡◌, ℕ, ◌==◌, List, [], ◌∷◌, ◌++◌, if◌then◌else◌}
use Rattle.source_laws.specs.Model.{Board, Model, Entry, Push, Refuse, Skip, Finish, Release, IsLegal, Follows}

-- the entries, each of them legal in its place, lead from the old model to the new one
abbrev pub Leads : Board → List Entry → Model → Model → Type 0
Leads board [] old new = new ≡ old
Leads board (e ∷ entries) old new = (next : Model) × IsLegal board old e × Follows board e old next × Leads board entries next new

-- the next reading of source i, where the entry settles one of it
abbrev pub settled_by : ℕ → Entry → Model → List ℕ
settled_by i (Push j) m = if j == i then (m.source i).next ∷ [] else []
settled_by i (Skip j) m = if j == i then (m.source i).next ∷ [] else []
settled_by i (Refuse j) m = []
settled_by i (Finish t) m = []
settled_by i (Release t) m = []

-- the readings of source i that the entries settle, in order
abbrev pub settled : (board : Board) (i : ℕ) (entries : List Entry) (old new : Model) → Leads board entries old new → List ℕ
settled board i [] old new leads = []
settled board i (e ∷ entries) old new leads = settled_by i e old ++ settled board i entries leads.0 new leads.3
