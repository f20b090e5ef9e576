-- Each output that a journal makes has the number of a commit of its thread.
use Rattle.never_cut.proofs.Common.{◌≡◌, inl, inr, ℕ, zero, suc, ◌+◌, ◌-◌, ◌≤◌, List, [], ◌∷◌, ◌++◌, length, get_or, Some, None, refl, sym, ap, ◌∙◌, subst, arith, length-append, append_assoc, All, slice_get, append-nil, IsNonDecreasingBy, cases_lt, get_or_append_left, get_or-append_right, All-append, All-nil, All-cons, ThreadId, Output, Entry, Push, Refuse, Skip, Tick, Scan, Look, Commit, Release, Program, Model, stamped, Readings, Legal, effect, after, IsLegal, committing, commits_in, IsStamped, StampsByCommits, HasStamps}
use Rattle.never_cut.proofs.Commits.{committed-outputs, outs_of, serves}
use Rattle.never_cut.proofs.Outputs.{more_stamps}

get-append : {X : Type 0} (xs ys : List X) (n : ℕ) (x : X) → slice_get xs n ≡ Some x → slice_get (xs ++ ys) n ≡ Some x
get-append [] ys n x is = absurd (let clash : None ≡ Some x = is in cc)
get-append (y ∷ xs) ys zero x is = is
get-append (y ∷ xs) ys (suc n) x is = get-append xs ys n x is

get-last : {X : Type 0} (xs : List X) (x : X) → slice_get (xs ++ x ∷ []) (length xs) ≡ Some x
get-last [] x = refl
get-last (y ∷ xs) x = get-last xs x

-- the outputs of a state, and those of the commits since
record AreNumbered (first : Model) (commits : List ThreadId) (m : Model) : Type 0 where
  pub count : first.commits + length commits ≡ m.commits
  pub made : List Output
  pub outputs : m.outputs ≡ first.outputs ++ made
  pub each : All (IsStamped first.commits commits) made
  pub stamps : HasStamps m.commits m.outputs

more_numbered : (earlier : ℕ) (commits more : List ThreadId) (outputs : List Output) → All (IsStamped earlier commits) outputs → All (IsStamped earlier (commits ++ more)) outputs
more_numbered earlier commits more outputs each k d lt =
    let o = each k d lt in record { before = o.before; number = o.number; own = get-append commits more o.before _ o.own }

-- those of a new commit
stamped_numbered : (earlier : ℕ) (commits : List ThreadId) (t : ThreadId) (outs : List ℕ) →
    All (IsStamped earlier (commits ++ t ∷ [])) (stamped (earlier + length commits + 1) t.0 outs)
stamped_numbered earlier commits t [] = All-nil (IsStamped earlier (commits ++ t ∷ []))
stamped_numbered earlier commits t (v ∷ outs) =
    All-cons (IsStamped earlier (commits ++ t ∷ [])) (record { stamp = earlier + length commits + 1; thread = t; value = v }) (stamped (earlier + length commits + 1) t.0 outs)
    (record { before = length commits; number = refl; own = get-last commits t }) (stamped_numbered earlier commits t outs)

commit_numbered : (program : Program) (readings : Readings) (first : Model) (commits : List ThreadId) (m : Model) (t : ThreadId) → AreNumbered first commits m →
    Legal program readings m (Commit t) → AreNumbered first (commits ++ t ∷ []) (effect program readings m (Commit t))
commit_numbered program readings first commits m t h legal =
    let s = serves program readings m t legal in
    let outs : List ℕ = outs_of program t.0 s.event s.scan.time m in
    let stamp : ℕ = first.commits + length commits + 1 in
    let new : List Output = stamped stamp t.0 outs in
    let is : (effect program readings m (Commit t)).outputs ≡ m.outputs ++ new =
    ap (λ (next : Model). next.outputs) s.makes ∙ committed-outputs program t.0 s.event s.scan.time m ∙ ap (λ n. m.outputs ++ stamped (n + 1) t.0 outs) (sym h.count) in
    let after_is : (effect program readings m (Commit t)).commits ≡ m.commits + 1 = ap (λ (next : Model). next.commits) s.makes in
    record {
      count = omega (arith, length-append commits (t ∷ []), h.count, after_is);
      made = h.made ++ new;
      outputs = is ∙ (ap (λ l. l ++ new) h.outputs ∙ append_assoc first.outputs h.made new);
      each = All-append (IsStamped first.commits (commits ++ t ∷ [])) h.made new (more_numbered first.commits commits (t ∷ []) h.made h.each) (stamped_numbered first.commits commits t outs);
      stamps = subst (λ (z : ℕ × List Output). HasStamps z.0 z.1) (λ k. (sym after_is k, sym (ap (λ (next : Model). next.outputs) s.makes ∙ committed-outputs program t.0 s.event s.scan.time m) k))
          (more_stamps m.commits t.0 m.outputs outs h.stamps);
    }

same_outputs : (first : Model) (commits : List ThreadId) (m next : Model) → next.outputs ≡ m.outputs → next.commits ≡ m.commits → AreNumbered first commits m → AreNumbered first (commits ++ []) next
same_outputs first commits m next outputs count h =
    subst (λ c. AreNumbered first c next) (sym (append-nil commits))
    (record {
      count = h.count ∙ sym count;
      made = h.made;
      outputs = outputs ∙ h.outputs;
      each = h.each;
      stamps = subst (λ (z : ℕ × List Output). HasStamps z.0 z.1) (sym (λ k. (count k, outputs k))) h.stamps;
    })

numbered_step : (program : Program) (readings : Readings) (first : Model) (commits : List ThreadId) (m : Model) (e : Entry) → AreNumbered first commits m → Legal program readings m e →
    AreNumbered first (commits ++ committing e) (effect program readings m e)
numbered_step program readings first commits m (Push i) h legal = same_outputs first commits m (effect program readings m (Push i)) refl refl h
numbered_step program readings first commits m (Refuse i) h legal = same_outputs first commits m (effect program readings m (Refuse i)) refl refl h
numbered_step program readings first commits m (Skip i) h legal = same_outputs first commits m (effect program readings m (Skip i)) refl refl h
numbered_step program readings first commits m (Tick by) h legal = same_outputs first commits m (effect program readings m (Tick by)) refl refl h
numbered_step program readings first commits m Scan h legal = same_outputs first commits m (effect program readings m Scan) refl refl h
numbered_step program readings first commits m (Look t) h legal = same_outputs first commits m (effect program readings m (Look t)) refl refl h
numbered_step program readings first commits m (Commit t) h legal = commit_numbered program readings first commits m t h legal
numbered_step program readings first commits m (Release t) h legal = same_outputs first commits m (effect program readings m (Release t)) refl refl h

numbered_after : (program : Program) (readings : Readings) (first : Model) (commits : List ThreadId) (m : Model) (entries : List Entry) → AreNumbered first commits m →
    IsLegal program readings m entries → AreNumbered first (commits ++ commits_in entries) (after program readings m entries)
numbered_after program readings first commits m [] h legal = same_outputs first commits m m refl refl h
numbered_after program readings first commits m (e ∷ entries) h legal =
    subst (λ c. AreNumbered first c (after program readings (effect program readings m e) entries)) (append_assoc commits (committing e) (commits_in entries))
    (numbered_after program readings first (commits ++ committing e) (effect program readings m e) entries (numbered_step program readings first commits m e h legal.0) legal.1)

numbered_first : (program : Program) (readings : Readings) (first : Model) (journal : List Entry) → HasStamps first.commits first.outputs → IsLegal program readings first journal →
    AreNumbered first (commits_in journal) (after program readings first journal)
numbered_first program readings first journal stamps legal =
    numbered_after program readings first [] first journal
    (record {
      count = omega arith;
      made = [];
      outputs = sym (append-nil first.outputs);
      each = All-nil (IsStamped first.commits []);
      stamps = stamps;
    }) legal

pub stamps_by_commits : (program : Program) (readings : Readings) (first : Model) (journal : List Entry) → HasStamps first.commits first.outputs → IsLegal program readings first journal →
    StampsByCommits program readings first journal
stamps_by_commits program readings first journal stamps legal =
    let h = numbered_first program readings first journal stamps legal in
    record { commits = h.count; made = h.made; outputs = h.outputs; each = h.each; ordered = h.stamps.ordered }
