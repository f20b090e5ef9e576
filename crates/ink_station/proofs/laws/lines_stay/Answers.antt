use Rattle.ink_station.proofs.LinesStay.{lines_stay}
use Rattle.ink_station.proofs.laws.lines_stay.Goals as goal

pub returns : goal.returns
returns c = record { lines = lines_stay }
