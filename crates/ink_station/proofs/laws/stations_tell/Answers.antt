use Rattle.ink_station.proofs.Once.{one_station}
use Rattle.ink_station.proofs.laws.stations_tell.Goals as goal

pub returns : goal.returns
returns c = record { one = one_station }
