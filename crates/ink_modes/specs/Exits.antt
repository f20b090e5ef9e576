-- What the user is told of each answer: the exit status, and the line on standard error.
use Rattle.std.specs.Prelude.{ℕ, List, [], ◌++◌, codes, decimal}
use Rattle.ink_base.specs.declared.fault.Cause.{Cause}
use Rattle.ink_base.specs.declared.fault.Cause.TheVariants.{BadByte, UnknownWord, BadNumber, Duplicate, Missing, OverLimit, BadTarget, BadOwner, BadSection, BadWord, WrongShape, NotStanding, Worn}
use Rattle.ink_base.specs.declared.status.Status.{Status}
use Rattle.ink_base.specs.declared.status.Status.TheVariants.{Done, Usage, Refused, ReadFault, WriteFault, NoMemory, TooLong}

-- each answer has an exit status of its own
abbrev pub exit_code : Status → ℕ
exit_code Done = 0
exit_code Usage = 2
exit_code (Refused fault) = 3
exit_code ReadFault = 4
exit_code WriteFault = 5
exit_code NoMemory = 6
exit_code TooLong = 7

-- a cause's name
abbrev pub cause_name : Cause → List ℕ
cause_name BadByte = codes "BadByte"
cause_name UnknownWord = codes "UnknownWord"
cause_name BadNumber = codes "BadNumber"
cause_name Duplicate = codes "Duplicate"
cause_name Missing = codes "Missing"
cause_name OverLimit = codes "OverLimit"
cause_name BadTarget = codes "BadTarget"
cause_name BadOwner = codes "BadOwner"
cause_name BadSection = codes "BadSection"
cause_name BadWord = codes "BadWord"
cause_name WrongShape = codes "WrongShape"
cause_name NotStanding = codes "NotStanding"
cause_name Worn = codes "Worn"

-- the line on standard error, without its end; after `Done` there is none
abbrev pub complaint_of : Status → List ℕ
complaint_of Done = []
complaint_of Usage = codes "usage: ink_board MODE [--journal] [--json] [--bounds] [--image] [--seed N]"
complaint_of (Refused fault) = codes "ink_board: line " ++ decimal fault.line ++ codes ": " ++ cause_name fault.cause
complaint_of ReadFault = codes "ink_board: read fault"
complaint_of WriteFault = codes "ink_board: write fault"
complaint_of NoMemory = codes "ink_board: no memory"
complaint_of TooLong = codes "ink_board: job too long"
