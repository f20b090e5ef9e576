use Rattle.task_isa.proofs.Common.{◌≡◌, refl, arith, get_or_past, Done, given_of, instr_at, config_of}
use Rattle.task_isa.specs.Acts.{act_of}
use Rattle.task_isa.proofs.Fitting.{act_of_fits}
use Rattle.task_isa.proofs.run.Run.step.Goals as goal

pub apply-requires-clause-ids : goal.apply-requires-clause-ids
apply-requires-clause-ids c =
    rw (c.act-act.ensures, c.fetch.ensures)
    (act_of_fits (instr_at c.args.code.now c.args.self.now.at) (given_of c.args.start.now) (config_of c.args.self.now).cpu (c.requires.runnable.fitting c.args.self.now.at (omega arith)))

pub returns-then-self-code : goal.returns-then-self-code
unfolding act_of
returns-then-self-code c =
    let past : instr_at c.args.code.now c.args.self.now.at ≡ Done = get_or_past c.args.code.now c.args.self.now.at Done (omega arith) in
    rw past (record { stepped = refl; stays = refl; room_kept = c.requires.room })
