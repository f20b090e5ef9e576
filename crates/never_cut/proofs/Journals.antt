-- A journal grows at its end.
use Rattle.never_cut.proofs.Common.{◌≡◌, List, [], ◌∷◌, ◌++◌, Option, Some, None, refl, Entry, Program, Model, Readings, Legal, effect, after, IsLegal, noted, moved, MayNote}

pub after-append : (program : Program) (readings : Readings) (m : Model) (journal : List Entry) (e : Entry) →
    after program readings m (journal ++ e ∷ []) ≡ effect program readings (after program readings m journal) e
after-append program readings m [] e = refl
after-append program readings m (x ∷ journal) e = after-append program readings (effect program readings m x) journal e

pub IsLegal-append : (program : Program) (readings : Readings) (m : Model) (journal : List Entry) (e : Entry) →
    IsLegal program readings m journal → Legal program readings (after program readings m journal) e → IsLegal program readings m (journal ++ e ∷ [])
IsLegal-append program readings m [] e legal may = (may, tt)
IsLegal-append program readings m (x ∷ journal) e legal may =
    (legal.0, IsLegal-append program readings (effect program readings m x) journal e legal.1 may)

pub after-noted : (program : Program) (readings : Readings) (m : Model) (journal : List Entry) (o : Option Entry) →
    after program readings m (noted journal o) ≡ moved program readings (after program readings m journal) o
after-noted program readings m journal None = refl
after-noted program readings m journal (Some e) = after-append program readings m journal e

pub IsLegal-noted : (program : Program) (readings : Readings) (m : Model) (journal : List Entry) (o : Option Entry) →
    IsLegal program readings m journal → MayNote program readings (after program readings m journal) o → IsLegal program readings m (noted journal o)
IsLegal-noted program readings m journal None legal may = legal
IsLegal-noted program readings m journal (Some e) legal may = IsLegal-append program readings m journal e legal may
