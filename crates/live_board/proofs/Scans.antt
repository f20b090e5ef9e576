-- No scan of an account is later than its end.
use Rattle.std.proofs.Common.{◌≡◌, ℕ, zero, suc, ◌+◌, ◌<◌, ◌≤◌, List, [], ◌∷◌, take, refl, sym, ap, subst, arith}
use Rattle.std.specs.Prelude.{slice_index_or}
use mathlib.Core.Option.{some, some-injective, some-ne-none}
use lib.ListN.{get_elem?}
use Rattle.task_isa.specs.declared.program.Program.{Program}
use Rattle.never_cut.specs.declared.model.Model.{Model}
use Rattle.kernel_account.specs.Account.{account_effect, AccountLegal, charge_after, IsChargeLegal, next_charge, account_after, IsAccount}
use Rattle.kernel_account.specs.declared.entry.KernelEntry.{KernelEntry}
use Rattle.kernel_account.specs.declared.entry.KernelEntry.TheVariants.{Scan, Look, Commit, Release}
use Rattle.kernel_account.proofs.Parts.{commit_clock}
use Rattle.live_board.specs.kept.Kernels.{IsEntry}

-- an entry takes the clock no way back
clock_on : (program : Program) (m : Model) (e : KernelEntry) → AccountLegal program m e → m.clock ≤ (account_effect program m e).clock
clock_on program m (Scan c) legal = legal.1
clock_on program m (Look t p) legal = let same : (account_effect program m (Look t p)).clock ≡ m.clock = refl in omega (arith, same)
clock_on program m (Commit t) legal = let same : (account_effect program m (Commit t)).clock ≡ m.clock = commit_clock program t.0 m in omega (arith, same)
clock_on program m (Release t) legal = let same : (account_effect program m (Release t)).clock ≡ m.clock = refl in omega (arith, same)

charge_clock : (program : Program) (m : Model) (entries : List KernelEntry) → IsChargeLegal program m entries → m.clock ≤ (charge_after program m entries).clock
charge_clock program m [] legal = omega arith
charge_clock program m (e ∷ entries) legal =
    let one = clock_on program m e legal.0 in let rest = charge_clock program (account_effect program m e) entries legal.1 in omega (arith, one, rest)

account_clock : (program : Program) (m : Model) (charges : List (List KernelEntry)) → IsAccount program m charges → m.clock ≤ (account_after program m charges).clock
account_clock program m [] legal = omega arith
account_clock program m (charge ∷ rest) legal =
    let one = charge_clock program (next_charge m) charge legal.0 in
    let all = account_clock program (charge_after program (next_charge m) charge) rest legal.1 in
    let same : (next_charge m).clock ≡ m.clock = refl in omega (arith, one, all, same)

scan_in_charge : (program : Program) (m : Model) (entries : List KernelEntry) (n clock : ℕ) → IsChargeLegal program m entries → get_elem? entries n ≡ some (Scan clock) → clock ≤ (charge_after program m entries).clock
scan_in_charge program m [] n clock legal at = absurd (some-ne-none (Scan clock) (sym at))
scan_in_charge program m (e ∷ entries) zero clock legal at =
    let here : (account_effect program m e).clock ≡ clock = ap (λ (x : KernelEntry). (account_effect program m x).clock) (some-injective e (Scan clock) at) in
    let rest = charge_clock program (account_effect program m e) entries legal.1 in omega (arith, here, rest)
scan_in_charge program m (e ∷ entries) (suc n) clock legal at = scan_in_charge program (account_effect program m e) entries n clock legal.1 at

-- so it is over all charges
pub scans_until : (program : Program) (m : Model) (charges : List (List KernelEntry)) (c n clock : ℕ) → IsAccount program m charges → IsEntry charges c n (Scan clock) → clock ≤ (account_after program m charges).clock
scans_until program m [] zero n clock legal at = absurd (some-ne-none (Scan clock) (sym at))
scans_until program m [] (suc c) n clock legal at = absurd (some-ne-none (Scan clock) (sym at))
scans_until program m (charge ∷ rest) zero n clock legal at =
    let one = scan_in_charge program (next_charge m) charge n clock legal.0 at in
    let all = account_clock program (charge_after program (next_charge m) charge) rest legal.1 in omega (arith, one, all)
scans_until program m (charge ∷ rest) (suc c) n clock legal at = scans_until program (charge_after program (next_charge m) charge) rest c n clock legal.1 at

legal_in_charge : (program : Program) (m : Model) (entries : List KernelEntry) (n : ℕ) (e : KernelEntry) → IsChargeLegal program m entries → get_elem? entries n ≡ some e → AccountLegal program (charge_after program m (take n entries)) e
legal_in_charge program m [] n e legal at = absurd (some-ne-none e (sym at))
legal_in_charge program m (x ∷ entries) zero e legal at = subst (AccountLegal program m) (some-injective x e at) legal.0
legal_in_charge program m (x ∷ entries) (suc n) e legal at = legal_in_charge program (account_effect program m x) entries n e legal.1 at

-- each entry is legal in its place
pub legal_at : (program : Program) (m : Model) (charges : List (List KernelEntry)) (c n : ℕ) (e : KernelEntry) → IsAccount program m charges → IsEntry charges c n e →
    AccountLegal program (charge_after program (next_charge (account_after program m (take c charges))) (take n (slice_index_or charges c []))) e
legal_at program m [] zero n e legal at = absurd (some-ne-none e (sym at))
legal_at program m [] (suc c) n e legal at = absurd (some-ne-none e (sym at))
legal_at program m (charge ∷ rest) zero n e legal at = legal_in_charge program (next_charge m) charge n e legal.0 at
legal_at program m (charge ∷ rest) (suc c) n e legal at = legal_at program (charge_after program (next_charge m) charge) rest c n e legal.1 at
