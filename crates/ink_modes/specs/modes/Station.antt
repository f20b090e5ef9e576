-- `station`: the boards of the jobs on the source are run at once, and the text of each run is written, in the order of the jobs.
use Rattle.std.specs.Prelude.{ℕ, ◌+◌, true, false, List, [], ◌∷◌, ◌++◌, codes, decimal, Result, Ok, Err}
use Rattle.std.specs.List.{AllZip}
use Rattle.ink_base.specs.declared.fault.JobFault.{JobFault}
use Rattle.kernel_core.specs.declared.run_record.RunRecord.{RunRecord}
use Rattle.ink_report.specs.declared.flags.Flags.{Flags}
use Rattle.ink_station.specs.Jobs.{IsStation}
use Rattle.ink_modes.specs.declared.given.Given.{Given}
use Rattle.ink_modes.specs.declared.given.Given.TheVariants.{Boards}
use Rattle.ink_modes.specs.declared.finish.Record.{Record}
use Rattle.ink_modes.specs.declared.finish.Record.TheVariants.{Station}
use Rattle.ink_modes.specs.Run.{IsRunOf, run_text_of}
use Rattle.ink_modes.specs.Form.{ModeForm}

-- the jobs of a station's text, or its first fault
abbrev pub Gives : List ℕ → Result Given JobFault → Type 0
Gives text (Ok (Boards jobs)) = IsStation text (Ok jobs.items)
Gives text (Ok _) = ⊥
Gives text (Err fault) = IsStation text (Err fault)

-- record n is that of the run of job n, the same as where the job is run alone
abbrev pub Makes : Given → Record → Type 0
Makes (Boards jobs) (Station records) = AllZip IsRunOf jobs.items records
Makes _ _ = ⊥

-- a text behind the number of its board
abbrev pub numbered : ℕ → List ℕ → List ℕ
numbered number text = codes "board " ++ decimal number ++ codes "\n" ++ text

-- the number of a board, and the text of its run
abbrev pub board_text : Flags → ℕ → RunRecord → List ℕ
board_text flags number r = numbered number (run_text_of r flags)

-- the boards in order, the first of which has this number
abbrev pub boards_text : Flags → ℕ → List RunRecord → List ℕ
boards_text flags number [] = []
boards_text flags number (r ∷ rest) = board_text flags number r ++ boards_text flags (number + 1) rest

-- they are numbered from 0 on
abbrev pub text : Flags → Given → Record → List ℕ
text flags given (Station records) = boards_text flags 0 records
text flags given _ = []

-- it may show the journal and JSON
abbrev pub station : ModeForm
station = record {
  word = codes "station";
  allowed = record { journal = true; json = true; bounds = false; image = false; seed = false };
  gives = Gives;
  makes = Makes;
  text = text;
}
