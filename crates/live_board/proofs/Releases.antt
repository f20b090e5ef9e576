-- The account's state counts the releases.
use Rattle.std.proofs.Common.{◌≡◌, ◌≢◌, inl, inr, ℕ, zero, suc, ◌+◌, ◌<◌, ◌==◌, cond, Bool, true, false, List, [], ◌∷◌, ◌++◌, length, map, length-set, refl, sym, ap, ◌∙◌, subst, arith, eq-eqb, ne_eqb}
use Rattle.std.specs.Prelude.{sum_by, count_by, slice_index_or}
use Rattle.std.specs.List.{enumerate_from}
use Rattle.std.proofs.lemmas.Bool.{cases_eq}
use Rattle.std.proofs.lemmas.List.Sums.{sum_by-cons}
use Rattle.ink_base.specs.declared.event.Event.{Event}
use Rattle.task_isa.specs.declared.program.Program.{Program}
use Rattle.task_isa.specs.declared.program.ThreadDef.{ThreadDef}
use Rattle.never_cut.specs.declared.model.Model.{Model}
use Rattle.never_cut.specs.declared.thread_model.ThreadModel.{ThreadModel}
use Rattle.never_cut.specs.State.{thread_of, no_thread}
use Rattle.never_cut.proofs.Commits.{commit-count}
use Rattle.never_cut.proofs.Releases.{release_same, release_other}
use Rattle.kernel_account.specs.Account.{filled, open_account, account_effect, AccountLegal, charge_after, IsChargeLegal, next_charge, account_after, IsAccount}
use Rattle.kernel_account.specs.declared.entry.KernelEntry.{KernelEntry}
use Rattle.kernel_account.specs.declared.entry.KernelEntry.TheVariants.{Scan, Look, Commit, Release}
use Rattle.kernel_account.proofs.Parts.{commit_queues}
use Rattle.live_account.specs.Queues.{is_release, releases_of}

-- an entry leaves as many threads as there were
count_kept : (program : Program) (m : Model) (e : KernelEntry) → length (account_effect program m e).threads ≡ length m.threads
count_kept program m (Scan c) = refl
count_kept program m (Look t p) = refl
count_kept program m (Commit t) = commit-count program t.0 m
count_kept program m (Release t) = length-set m.threads t.0 _

-- how much an entry adds to the releases of thread t
abbrev added : ℕ → KernelEntry → ℕ
added t e = cond (is_release t e) 1 0

entry_releases : (program : Program) (m : Model) (e : KernelEntry) (t : ℕ) → length m.threads ≡ length program.threads → AccountLegal program m e →
    (thread_of (account_effect program m e) t).released ≡ (thread_of m t).released + added t e
entry_releases program m (Scan c) t count legal = let none : added t (Scan c) ≡ 0 = refl in let same : (thread_of (account_effect program m (Scan c)) t).released ≡ (thread_of m t).released = refl in omega (arith, none, same)
entry_releases program m (Look u p) t count legal = let none : added t (Look u p) ≡ 0 = refl in let same : (thread_of (account_effect program m (Look u p)) t).released ≡ (thread_of m t).released = refl in omega (arith, none, same)
entry_releases program m (Commit u) t count legal = let none : added t (Commit u) ≡ 0 = refl in let same : (thread_of (account_effect program m (Commit u)) t).released ≡ (thread_of m t).released = (commit_queues program u.0 m).released t in omega (arith, none, same)
entry_releases program m (Release u) t count legal =
    elim (cases_eq u.0 t) [
      | inl same ↦
          let one : added t (Release u) ≡ 1 = ap (λ b. cond b 1 0) (eq-eqb u.0 t same) in
          let here : (thread_of (account_effect program m (Release u)) u.0).released ≡ (thread_of m u.0).released + 1 = ap (λ (x : ThreadModel). x.released) (release_same m u.0 (let known = legal.0 in omega (arith, known, count))) in
          let there = subst (λ v. (thread_of (account_effect program m (Release u)) v).released ≡ (thread_of m v).released + 1) same here in
          omega (arith, one, there)
      | inr apart ↦
          let none : added t (Release u) ≡ 0 = ap (λ b. cond b 1 0) (ne_eqb u.0 t apart) in
          let here : (thread_of (account_effect program m (Release u)) t).released ≡ (thread_of m t).released = ap (λ (x : ThreadModel). x.released) (release_other m u.0 t (λ is. apart (sym is))) in
          omega (arith, none, here)
    ]

count_more : (t : ℕ) (e : KernelEntry) (entries : List KernelEntry) → count_by (is_release t) (e ∷ entries) ≡ added t e + count_by (is_release t) entries
count_more t e entries = sum_by-cons (added t) e entries

-- the entries of a charge
charge_releases : (program : Program) (m : Model) (entries : List KernelEntry) (t : ℕ) → length m.threads ≡ length program.threads → IsChargeLegal program m entries →
    ((thread_of (charge_after program m entries) t).released ≡ (thread_of m t).released + count_by (is_release t) entries) × (length (charge_after program m entries).threads ≡ length program.threads)
charge_releases program m [] t count legal = (omega arith, count)
charge_releases program m (e ∷ entries) t count legal =
    let one = entry_releases program m e t count legal.0 in
    let rest = charge_releases program (account_effect program m e) entries t (count_kept program m e ∙ count) legal.1 in
    ((let all = rest.0 in let sum = count_more t e entries in omega (arith, one, all, sum)), rest.1)

charges_release : (program : Program) (m : Model) (charges : List (List KernelEntry)) (t : ℕ) → length m.threads ≡ length program.threads → IsAccount program m charges →
    (thread_of (account_after program m charges) t).released ≡ (thread_of m t).released + releases_of t charges
charges_release program m [] t count legal = omega arith
charges_release program m (charge ∷ rest) t count legal =
    let one = charge_releases program (next_charge m) charge t count legal.0 in
    let all = charges_release program (charge_after program (next_charge m) charge) rest t one.1 legal.1 in
    let first : (thread_of (charge_after program (next_charge m) charge) t).released ≡ (thread_of m t).released + count_by (is_release t) charge = one.0 in
    let sum = sum_by-cons (count_by (is_release t)) charge rest in omega (arith, first, all, sum)

filled_count : (events : ℕ → List Event) (n : ℕ) (defs : List ThreadDef) → length (map (filled events) (enumerate_from n defs)) ≡ length defs
filled_count events n [] = refl
filled_count events n (d ∷ defs) = ap suc (filled_count events (n + 1) defs)

filled_released : (events : ℕ → List Event) (n t : ℕ) (defs : List ThreadDef) → (slice_index_or (map (filled events) (enumerate_from n defs)) t no_thread).released ≡ 0
filled_released events n t [] = refl
filled_released events n zero (d ∷ defs) = refl
filled_released events n (suc t) (d ∷ defs) = filled_released events (n + 1) t defs

-- nothing was released before the first charge
pub releases_counted : (program : Program) (events : ℕ → List Event) (charges : List (List KernelEntry)) (t : ℕ) → IsAccount program (open_account program events) charges →
    (thread_of (account_after program (open_account program events) charges) t).released ≡ releases_of t charges
releases_counted program events charges t legal =
    let all = charges_release program (open_account program events) charges t (filled_count events 0 program.threads) legal in
    let none = filled_released events 0 t program.threads in omega (arith, all, none)
