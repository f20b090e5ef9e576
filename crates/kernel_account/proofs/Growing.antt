-- An account grows at its end.
use Rattle.std.proofs.Common.{◌≡◌, List, [], ◌∷◌, ◌++◌, refl}
use Rattle.task_isa.specs.declared.program.Program.{Program}
use Rattle.never_cut.specs.declared.model.Model.{Model}
use Rattle.kernel_account.specs.declared.entry.KernelEntry.{KernelEntry}
use Rattle.kernel_account.specs.Account.{account_effect, AccountLegal, charge_after, IsChargeLegal, next_charge}
use Rattle.kernel_account.specs.Follows.{EveryChargeGrows, EveryChargeBegins}

charge_more : (program : Program) (m : Model) (entries : List KernelEntry) (e : KernelEntry) → charge_after program m (entries ++ e ∷ []) ≡ account_effect program (charge_after program m entries) e
charge_more program m [] e = refl
charge_more program m (x ∷ entries) e = charge_more program (account_effect program m x) entries e

charge_legal : (program : Program) (m : Model) (entries : List KernelEntry) (e : KernelEntry) → IsChargeLegal program m entries → AccountLegal program (charge_after program m entries) e →
    IsChargeLegal program m (entries ++ e ∷ [])
charge_legal program m [] e h may = (may, tt)
charge_legal program m (x ∷ entries) e h may = (h.0, charge_legal program (account_effect program m x) entries e h.1 may)

pub every_charge_grows : EveryChargeGrows
every_charge_grows program first [] entries e h may =
    record { legal = (charge_legal program (next_charge first) entries e h.0 may, tt); after = charge_more program (next_charge first) entries e }
every_charge_grows program first (c ∷ done) entries e h may =
    let rest = every_charge_grows program (charge_after program (next_charge first) c) done entries e h.1 may in
    record { legal = (h.0, rest.legal); after = rest.after }

pub every_charge_begins : EveryChargeBegins
every_charge_begins program first [] h = record { legal = (tt, tt); after = refl }
every_charge_begins program first (c ∷ charges) h =
    let rest = every_charge_begins program (charge_after program (next_charge first) c) charges h.1 in
    record { legal = (h.0, rest.legal); after = rest.after }
