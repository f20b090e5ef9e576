use Rattle.ink_modes.proofs.Common.{map, string_bytes, Global, refl}
use Rattle.ink_modes.proofs.Told.{told_some, told_none, complete_told}
use Rattle.ink_modes.proofs.top.board.Goals as goal

pub returns-in-Some-clause-told : goal.returns-in-Some-clause-told
returns-in-Some-clause-told g c = told_some (map (string_bytes {Z = Global}) c.args.words.now) c.command_of.result c.in-Some.command
    (g.S.Source.state c.args.source.now) (g.S.Source.state c.carry_out.new.source) (g.K.Sink.state c.args.sink.now) (g.K.Sink.state c.carry_out.new.sink)
    c.carry_out.result.status c.carry_out.result.kept c.in-Some.is c.command_of.ensures.exact c.command_of.ensures.found c.carry_out.ensures

pub returns-in-Some-clause-complete : goal.returns-in-Some-clause-complete
returns-in-Some-clause-complete g c = complete_told (map (string_bytes {Z = Global}) c.args.words.now)
    (g.S.Source.state c.args.source.now) (g.S.Source.state c.carry_out.new.source) (g.K.Sink.state c.args.sink.now) (g.K.Sink.state c.carry_out.new.sink)
    c.carry_out.result.status c.carry_out.result.kept (returns-in-Some-clause-told g c)

pub returns-in-None-clause-told : goal.returns-in-None-clause-told
returns-in-None-clause-told g c = told_none (map (string_bytes {Z = Global}) c.args.words.now) c.command_of.result
    (g.S.Source.state c.args.source.now) (g.S.Source.state c.args.source.now) (g.K.Sink.state c.args.sink.now) (g.K.Sink.state c.args.sink.now)
    c.stop.result.status c.stop.result.kept c.in-None.is c.command_of.ensures.exact ((λ i. (c.stop.ensures i).status), (λ i. (c.stop.ensures i).kept), refl, refl)

pub returns-in-None-clause-complete : goal.returns-in-None-clause-complete
returns-in-None-clause-complete g c = complete_told (map (string_bytes {Z = Global}) c.args.words.now)
    (g.S.Source.state c.args.source.now) (g.S.Source.state c.args.source.now) (g.K.Sink.state c.args.sink.now) (g.K.Sink.state c.args.sink.now)
    c.stop.result.status c.stop.result.kept (returns-in-None-clause-told g c)
