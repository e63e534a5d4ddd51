-- What is told of a sheet, and how the program then ends. Assumes nothing.
--     numbers k                     how many numbers a time of the kind has
--     Prints s old new              a stream of contents `old`, where these are known, grows by the summary, or by the E line of the fault, and a newline
--     said s                        what is said on standard error: nothing of a summary, and of a fault which line shows it and what is wrong
--     status s                      the status with which the program ends
--     SurveyedIn k known s          the input, where its bytes are known, is a sheet of the kind k with this summary, or has this first fault
--     Ran k known code o p e f      what the input holds as a sheet of the kind k is told on an output of contents o, then p, and on errors of contents e, then f, and the program ends with the code
--     help_text                     what the program does, its arguments and an example
--     Helped code o p e f           the help is printed, nothing is said, and the program ends with status 0
--     usage                         the line that says how to call the program
--     Declined code o p e f         the usage line is said, nothing else, and the program ends with status 1
--     Answers q known code o p e f  the answer to the request q, with an input whose bytes are known or not
use Rattle.std.specs.Prelude.{◌≡◌, ℕ, List, [], ◌++◌, codes, Ok, Err, Result, Option, IfSome}
use Rattle.std.specs.Io.KnownBytes.{Appends, Keeps}
use Rattle.std.specs.Process.{exit_status}
use Rattle.std.specs.declared.process.ExitCode.{ExitCode}
use Rattle.programs.specs.declared.request.Kind.{Kind}
use Rattle.programs.specs.declared.request.Request.{Request}
use Rattle.reader.specs.Faults.{TextFaultLine, fault_words}
use Rattle.reader.specs.Summaries.{Surveyed, summary_text}
use Rattle.reader.specs.declared.fault.Fault.{Fault}
use Rattle.reader.specs.declared.summary.Summary.{Summary}

abbrev pub numbers : Kind → ℕ
numbers Kind.Plain = 1
numbers Kind.Guarded = 2

abbrev pub Prints : Result Summary Fault → Option (List ℕ) → Option (List ℕ) → Type 0
Prints (Ok summary) old new = Appends old new (summary_text summary ++ codes "\n")
Prints (Err fault) old new = (line : List ℕ) × TextFaultLine fault line × Appends old new (line ++ codes "\n")

abbrev pub said : Result Summary Fault → List ℕ
said (Ok summary) = []
said (Err fault) = codes "sheetcheck: " ++ (fault_words fault ++ codes "\n")

abbrev pub status : Result Summary Fault → ℕ
status (Ok summary) = 0
status (Err fault) = 1

abbrev pub SurveyedIn : Kind → Option (List ℕ) → Result Summary Fault → Type 0
SurveyedIn k known sheet = IfSome known (λ text. Surveyed (numbers k) text sheet)

pub record Ran (k : Kind) (known : Option (List ℕ)) (code : ExitCode) (o p e f : Option (List ℕ)) : Type 0 where
  pub sheet : Result Summary Fault
  pub surveyed : SurveyedIn k known sheet
  pub status : exit_status code ≡ status sheet
  pub prints : Prints sheet o p
  pub says : Appends e f (said sheet)

abbrev pub help_text : List ℕ
help_text =
    codes "sheetcheck: what a sheet of bounds holds, or its first fault\n" ++ (
    codes "\n" ++ (
    codes "usage: sheetcheck [plain|guarded|--help]\n" ++ (
    codes "\n" ++ (
    codes "The sheet is read from standard input. The argument says of which kind its times\n" ++ (
    codes "are; where there is none, they are plain. Without a fault, four counts are printed.\n" ++ (
    codes "With one, its E line is printed, standard error says what is wrong and on which\n" ++ (
    codes "line, and the status is 1.\n" ++ (
    codes "\n" ++ (
    codes "example: sheetcheck plain < examples/feeder.sheet\n")))))))))

pub record Helped (code : ExitCode) (o p e f : Option (List ℕ)) : Type 0 where
  pub status : exit_status code ≡ 0
  pub prints : Appends o p help_text
  pub says : Keeps e f

abbrev pub usage : List ℕ
usage = codes "usage: sheetcheck [plain|guarded|--help]\n"

pub record Declined (code : ExitCode) (o p e f : Option (List ℕ)) : Type 0 where
  pub status : exit_status code ≡ 1
  pub prints : Keeps o p
  pub says : Appends e f usage

abbrev pub Answers : Request → Option (List ℕ) → ExitCode → Option (List ℕ) → Option (List ℕ) → Option (List ℕ) → Option (List ℕ) → Type 0
Answers (Request.Run k) known code o p e f = Ran k known code o p e f
Answers Request.Help known code o p e f = Helped code o p e f
Answers Request.NotUnderstood known code o p e f = Declined code o p e f
