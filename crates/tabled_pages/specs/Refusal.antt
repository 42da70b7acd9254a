-- What each refusal of the program says, and the status that the program ends with.
use Rattle.std.specs.Prelude.{ℕ, List, codes, Option, Some, None, Result, Ok, Err}
use Rattle.std.specs.declared.io.ErrorKind.{ErrorKind}
use Rattle.std.specs.declared.io.ErrorKind.TheVariants as io
use Rattle.tabled_pages.specs.declared.error.ShowError.{ShowError}
use Rattle.tabled_pages.specs.declared.error.ShowError.TheVariants.{Usage, ReadFailed, TooLong, ByteOutOfRange, UnequalRows, OutOfMemory, WriteFailed}

-- the text of a refusal
abbrev pub text_of : ShowError → List ℕ
text_of Usage = codes "usage: tabled_show STYLE"
text_of ReadFailed = codes "read failed"
text_of TooLong = codes "input too long"
text_of ByteOutOfRange = codes "byte out of range"
text_of UnequalRows = codes "rows of unequal count"
text_of OutOfMemory = codes "out of memory"
text_of WriteFailed = codes "write failed"

-- the status of a refusal
abbrev pub status_of : ShowError → ℕ
status_of Usage = 2
status_of ReadFailed = 1
status_of TooLong = 5
status_of ByteOutOfRange = 4
status_of UnequalRows = 3
status_of OutOfMemory = 1
status_of WriteFailed = 1

-- the status of what is returned: 0 where nothing was refused
abbrev pub exit_status : Result (Unit {0}) ShowError → ℕ
exit_status (Ok _) = 0
exit_status (Err refusal) = status_of refusal

-- what is returned for this refusal, or for none
abbrev pub answer_of : Option ShowError → Result (Unit {0}) ShowError
answer_of None = Ok tt
answer_of (Some refusal) = Err refusal

-- of which kind a refusal is among the errors of input and output
abbrev pub kind_of : ShowError → ErrorKind
kind_of Usage = io.InvalidInput
kind_of ReadFailed = io.Other
kind_of TooLong = io.InvalidInput
kind_of ByteOutOfRange = io.InvalidInput
kind_of UnequalRows = io.InvalidInput
kind_of OutOfMemory = io.OutOfMemory
kind_of WriteFailed = io.Other
