-- The law of pipes and timers.
use Rattle.never_cut.proofs.Devices.{every_device}
use Rattle.never_cut.proofs.laws.devices_stand.Goals as goal

pub returns : goal.returns
returns c = every_device
