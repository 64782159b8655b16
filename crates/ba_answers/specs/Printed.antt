-- THE END OF THE PROGRAM with an answer: the status, its number, and the text that is printed, with its line
-- feed.

use Rattle.std.specs.Prelude.{ℕ, Option, None, Some, List, [], ◌++◌, codes, decimal}
use Rattle.ba_numbers.specs.declared.ids.At.{At}
use Rattle.ba_answers.specs.declared.answers.Answer.{Answer}
use Rattle.ba_answers.specs.declared.answers.Answer.TheVariants as answer
use Rattle.ba_answers.specs.Limits.{limit_of}
use Rattle.ba_answers.specs.declared.answers.Claim.{Claim}
use Rattle.ba_answers.specs.declared.answers.Claim.TheVariants as claim
use Rattle.ba_answers.specs.declared.answers.InputFault.{InputFault}
use Rattle.ba_answers.specs.declared.answers.InputFault.TheVariants as input
use Rattle.ba_answers.specs.declared.fault.Cause.{Cause}
use Rattle.ba_answers.specs.declared.fault.Cause.TheVariants as cause
use Rattle.ba_answers.specs.declared.file.File.{File}
use Rattle.ba_answers.specs.declared.file.File.TheVariants as file
use Rattle.ba_answers.specs.declared.status.Status.{Status}
use Rattle.ba_answers.specs.declared.status.Status.TheVariants as status

-- the status of an answer that was printed whole
abbrev pub status_of : Answer → Status
status_of (answer.Located bytes) = status.Ok
status_of (answer.Accepted claimed) = status.Ok
status_of (answer.Sampled additions weight sets) = status.Ok
status_of (answer.AssertFails at) = status.Ok
status_of (answer.Trap at) = status.Ok
status_of (answer.Ranked bytes) = status.Ok
status_of (answer.Edits bytes) = status.Ok
status_of (answer.NotFailing line) = status.NotFailing
status_of answer.BadWords = status.BadWords
status_of (answer.BadProgram fault) = status.BadProgram
status_of (answer.BadInput which fault line) = status.BadInput
status_of answer.TooLarge = status.TooLarge
status_of (answer.BeyondBound at line) = status.BeyondBound
status_of (answer.PassingFails line) = status.PassingFails
status_of answer.NoRepair = status.NoRepair
status_of (answer.TooManySets weight most line) = status.TooManySets
status_of (answer.BudgetSpent conflicts line) = status.BudgetSpent
status_of (answer.BadCertificate code line) = status.BadCertificate
status_of (answer.Unreadable which) = status.ReadFault
status_of (answer.TooLong which) = status.TooLong
status_of (answer.BadWeights line) = status.BadWeights

-- the number that the program ends with
abbrev pub number_of : Status → ℕ
number_of status.Ok = 0
number_of status.NotFailing = 1
number_of status.BadWords = 2
number_of status.BadProgram = 3
number_of status.BadInput = 4
number_of status.TooLarge = 5
number_of status.BeyondBound = 6
number_of status.NoRepair = 7
number_of status.TooManySets = 8
number_of status.BudgetSpent = 9
number_of status.BadCertificate = 10
number_of status.ReadFault = 11
number_of status.WriteFault = 12
number_of status.Memory = 13
number_of status.TooLong = 14
number_of status.BadWeights = 15
number_of status.PassingFails = 17

-- PARTS of the texts

-- the stage (1 tokens, 2 their tree, 3 typing) and the number of the error
abbrev pub code_of : Cause → List ℕ
code_of cause.BadByte = codes "1.1"
code_of cause.BadToken = codes "1.2"
code_of cause.NotInProfile = codes "1.3"
code_of cause.BadDirective = codes "1.4"
code_of cause.MacroOrder = codes "1.5"
code_of cause.Redefined = codes "1.6"
code_of cause.TooMany = codes "1.7"
code_of cause.Syntax = codes "2.1"
code_of cause.TooDeep = codes "2.2"
code_of cause.UnknownName = codes "3.1"
code_of cause.Twice = codes "3.2"
code_of cause.WrongKind = codes "3.3"
code_of cause.WrongCount = codes "3.4"
code_of cause.NoMain = codes "3.5"
code_of cause.BadLength = codes "3.6"
code_of cause.BreakOutside = codes "3.7"
code_of cause.CallInIndex = codes "3.8"
code_of cause.Limit = codes "3.9"

-- a position, and `end` if there is none
abbrev pub at_text : At → List ℕ
at_text at = decimal at.line ++ codes ":" ++ decimal at.column

-- a position, or `end` without one
abbrev pub position_text : Option At → List ℕ
position_text None = codes "end"
position_text (Some at) = at_text at

-- the number of the error of an input, and of its piece
abbrev pub input_text : InputFault → List ℕ
input_text (input.NotANumber number) = codes "1 at number " ++ decimal number
input_text (input.OutOfRange number) = codes "2 at number " ++ decimal number
input_text input.WrongCount = codes "3"
input_text input.NoInput = codes "4"
input_text input.TooMany = codes "5"

-- the line of the input, if there are several inputs
abbrev pub behind_colon : Option ℕ → List ℕ
behind_colon None = []
behind_colon (Some line) = codes ": line " ++ decimal line

-- the line that a message names at its end, if it names one
abbrev pub behind_comma : Option ℕ → List ℕ
behind_comma None = []
behind_comma (Some line) = codes ", line " ++ decimal line

-- the word for a file of a call
abbrev pub file_word : File → List ℕ
file_word file.Program = codes "program"
file_word file.Input = codes "input"
file_word file.Inputs = codes "inputs"
file_word file.Failing = codes "failing"
file_word file.Passing = codes "passing"
file_word file.Weights = codes "weights"
file_word file.Certificate = codes "certificate"

-- the words for what a certificate claims
abbrev pub claim_text : Claim → List ℕ
claim_text claim.Located = codes "located"
claim_text claim.NoRepair = codes "no repair"
claim_text claim.TooManySets = codes "too many sets"
claim_text claim.BudgetSpent = codes "budget spent"

-- THE TEXT of an answer
abbrev pub text_of : Answer → List ℕ
text_of (answer.Located bytes) = bytes
text_of (answer.Ranked bytes) = bytes
text_of (answer.Edits bytes) = bytes
text_of (answer.Accepted claimed) = codes "accepted: " ++ claim_text claimed ++ codes "\n"
text_of (answer.Sampled additions weight sets) =
    codes "sample " ++ decimal additions ++ codes ": weight " ++ decimal weight ++ codes ", sets " ++
    decimal sets
    ++ codes "\n"
text_of (answer.AssertFails at) = codes "assertion fails at " ++ at_text at ++ codes "\n"
text_of (answer.Trap at) = codes "trap at " ++ at_text at ++ codes "\n"
text_of (answer.NotFailing line) = codes "not failing" ++ behind_colon line ++ codes "\n"
text_of answer.BadWords = codes "refused: words\n"
text_of (answer.BadProgram fault) =
    codes "refused: program, error " ++ code_of fault.cause ++ codes " at " ++ position_text fault.at
    ++ codes "\n"
text_of (answer.BadInput which fault line) =
    codes "refused: " ++ file_word which ++ codes ", error " ++ input_text fault ++ behind_comma line
    ++ codes "\n"
text_of answer.TooLarge = codes "refused: too large\n"
text_of (answer.BeyondBound at line) =
    codes "beyond bound at " ++ at_text at ++ behind_colon line ++ codes "\n"
text_of (answer.PassingFails line) = codes "fails: line " ++ decimal line ++ codes "\n"
text_of answer.NoRepair = codes "no repair\n"
text_of (answer.TooManySets weight most line) =
    codes "too many sets: weight " ++ decimal weight ++ codes ", more than " ++ decimal most
    ++ behind_comma line ++ codes "\n"
text_of (answer.BudgetSpent conflicts line) =
    codes "budget spent: " ++ decimal conflicts ++ codes " conflicts" ++ behind_comma line ++ codes "\n"
text_of (answer.BadCertificate code line) =
    codes "refused: certificate, error " ++ decimal code ++ codes " at line " ++ decimal line ++ codes "\n"
text_of (answer.Unreadable which) = codes "refused: " ++ file_word which ++ codes " cannot be read\n"
text_of (answer.TooLong which) =
    codes "refused: " ++ file_word which ++ codes " is longer than " ++ decimal (limit_of which)
    ++ codes " bytes\n"
text_of (answer.BadWeights line) = codes "refused: weights, line " ++ decimal line ++ codes "\n"
