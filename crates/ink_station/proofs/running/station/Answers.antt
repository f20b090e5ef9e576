use Rattle.std.proofs.Common.{◌≡◌, ℕ, List, length, take, drop, ◌++◌, sym, ap, ◌∙◌, subst, arith, append-nil, take_all}
use Rattle.std.proofs.lemmas.List.{drop_all}
use Rattle.std.specs.List.{All, AllZip}
use Rattle.kernel_core.specs.Core.{View}
use Rattle.ink_station.specs.kept.Cores.{IsPrepared, HasNotBegun, HasRun, IsRecordOf}
use Rattle.ink_station.proofs.Pairs.{all_places, as_long}
use Rattle.ink_station.proofs.Runs.{whole_runs, none_begun}
use Rattle.ink_station.proofs.running.station.Goals as goal

-- what was written over all of a vector is what it has
written : {A : Type 0} (xs ys : List A) (n : ℕ) → length ys ≡ length xs → n ≡ length xs → take n (ys ++ drop (length ys) xs) ≡ ys
written xs ys n same all =
    ap (λ l. take n (ys ++ l)) (drop_all (length ys) xs (omega (arith, same))) ∙ ap (take n) (append-nil ys) ∙ take_all n ys (omega (arith, same, all))

pub run_all-requires-after_bounds : goal.run_all-requires-after_bounds
run_all-requires-after_bounds g c κs within =
    subst (λ (l : List View). All HasNotBegun l) (sym c.as_mut_slice.ensures.value) (none_begun c.args.jobs.items c.in_ok-cores.cores.items c.in_ok-cores.ensures)

pub recorded-requires-clause-room : goal.recorded-requires-clause-room
recorded-requires-clause-room g c =
    let v = c.as_mut_slice.ensures.value in
    let e = written c.in_ok-cores.cores.items c.run_all.new.cores c.in_ok-cores.cores.len (c.run_all.auto.cores ∙ ap length v) (sym c.as_mut_slice.ensures.len ∙ ap length v) in
    let l = as_long IsPrepared c.args.jobs.items c.in_ok-cores.cores.items c.in_ok-cores.ensures in
    let n = ap length v in
    omega (arith, ap length e, c.run_all.auto.cores, n, l, c.in_ok-records.ensures.capacity, c.len.ensures)

pub returns : goal.returns
returns g c =
    let v = c.as_mut_slice.ensures.value in
    let e = written c.in_ok-cores.cores.items c.run_all.new.cores c.in_ok-cores.cores.len (c.run_all.auto.cores ∙ ap length v) (sym c.as_mut_slice.ensures.len ∙ ap length v) in
    whole_runs c.args.jobs.items c.in_ok-cores.cores.items c.run_all.new.cores c.recorded.result.items c.in_ok-cores.ensures
    (subst (λ (l : List View). AllZip HasRun l c.run_all.new.cores) v (all_places HasRun c.as_mut_slice.result.now c.run_all.new.cores (sym c.run_all.auto.cores) c.run_all.ensures))
    (subst (λ (l : List View). AllZip IsRecordOf l c.recorded.result.items) e c.recorded.ensures)
