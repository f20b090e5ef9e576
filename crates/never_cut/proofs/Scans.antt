-- An entry that touches the scan alone keeps what the words stand for.
use Rattle.never_cut.proofs.Common.{refl, Option, Program, Memory, Model, ScanModel, StandsPrivate, StandsForKernel}
use Rattle.never_cut.proofs.Privates.{SamePrivately, private_stays, same_blocks}

abbrev pub with_scan : Model → Option ScanModel → Model
with_scan m scan = record m { scan = scan }

pub scan_privately : (program : Program) (m : Model) (scan : Option ScanModel) → SamePrivately program m (with_scan m scan)
scan_privately program m scan = record { saves = λ t. refl; event = λ t. refl; pipes = refl; outputs = refl; commits = refl }

pub scan_private : (words : Memory) (program : Program) (m : Model) (scan : Option ScanModel) → StandsPrivate words program m → StandsPrivate words program (with_scan m scan)
scan_private words program m scan h =
    private_stays words words program m (with_scan m scan) (same_blocks words) (scan_privately program m scan) h

pub scan_queues : (words : Memory) (program : Program) (m : Model) (scan : Option ScanModel) → StandsForKernel words program m → StandsForKernel words program (with_scan m scan)
scan_queues words program m scan h = record { queues = h.queues; small = h.small; clock = h.clock }
