-- What a line asks for. Assumes nothing.
use Rattle.std.specs.Prelude.{cond, ℕ, Bool, ltb, eqb, List, length, get_or, Option, Some, None, Result, Ok, Err}
use Rattle.script.specs.Lines.{bad_line, items_of}
use Rattle.script.specs.declared.lines.BadLine.{BadLine}
use Rattle.script.specs.declared.lines.Line.{Line}
use Rattle.script.specs.declared.requests.Request.{Request}
use Rattle.script.specs.declared.requests.Request.TheVariants.{PowerOn, SetLines, Controller, Rows, View}
use Rattle.script.specs.declared.requests.Call.TheVariants.{Load, Read, ByteTime, Run, SetPosition, SetLength}
use Rattle.script.specs.declared.requests.Task.TheVariants.{SetCount, Fill, SetCells, Show, Swap}

-- "A register number or a byte above FF, .. and a density or a chip above 1 are errors of the script"
unfoldable pub byte_of : ℕ → Result ℕ BadLine
byte_of number = cond (ltb 0xFF number) (Err bad_line) (Ok number)

unfoldable pub flag_of : ℕ → Result Bool BadLine
flag_of number = cond (ltb 1 number) (Err bad_line) (Ok (eqb number 1))

unfoldable pub power_on_request : ℕ → ℕ → ℕ → Result Request BadLine
power_on_request density length chip =
    cond (ltb 1 density) (Err bad_line) (cond (ltb 1 chip) (Err bad_line) (Ok (PowerOn (eqb density 1) length (eqb chip 1))))

-- "drive lines above F" are too
unfoldable pub lines_request : ℕ → Result Request BadLine
lines_request bits = cond (ltb 0xF bits) (Err bad_line) (Ok (SetLines bits))

unfoldable pub load_request : ℕ → ℕ → Result Request BadLine
load_request register byte =
    cond (ltb 0xFF register) (Err bad_line) (cond (ltb 0xFF byte) (Err bad_line) (Ok (Controller (Load register byte))))

unfoldable pub read_request : ℕ → Result Request BadLine
read_request register = cond (ltb 0xFF register) (Err bad_line) (Ok (Controller (Read register)))

unfoldable pub view_request : ℕ → ℕ → ℕ → Result Request BadLine
view_request density track sector =
    cond (ltb 1 density) (Err bad_line)
    (cond (ltb 0xFF track) (Err bad_line)
    (cond (ltb 0xFF sector) (Err bad_line) (Ok (View (eqb density 1) track sector))))

-- "those named, 1 to 64 (decimal) of them": a line has no more than 65 numbers
unfoldable pub cells_request : ℕ → ℕ → Result Request BadLine
cells_request count place = cond (ltb count 2) (Err bad_line) (Ok (Rows (SetCells place)))

-- the letters, by how many numbers they take
unfoldable pub of_none : ℕ → Result Request BadLine
of_none letter = cond (eqb letter 0x42) (Ok (Controller ByteTime)) (cond (eqb letter 0x55) (Ok (Rows Swap)) (Err bad_line))

unfoldable pub of_one : ℕ → ℕ → Result Request BadLine
of_one letter a =
    cond (eqb letter 0x4E) (lines_request a)
    (cond (eqb letter 0x52) (read_request a)
    (cond (eqb letter 0x47) (Ok (Controller (Run a)))
    (cond (eqb letter 0x58) (Ok (Controller (SetPosition a)))
    (cond (eqb letter 0x59) (Ok (Controller (SetLength a)))
    (cond (eqb letter 0x4B) (Ok (Rows (SetCount a)))
    (Err bad_line))))))

unfoldable pub of_two : ℕ → ℕ → ℕ → Result Request BadLine
of_two letter a b =
    cond (eqb letter 0x50) (power_on_request a b 0)
    (cond (eqb letter 0x57) (load_request a b)
    (cond (eqb letter 0x56) (Ok (Rows (Show a b)))
    (Err bad_line)))

unfoldable pub of_three : ℕ → ℕ → ℕ → ℕ → Result Request BadLine
of_three letter a b c =
    cond (eqb letter 0x46) (Ok (Rows (Fill a b c)))
    (cond (eqb letter 0x50) (power_on_request a b c)
    (cond (eqb letter 0x51) (view_request a b c)
    (Err bad_line)))

-- "an unknown letter, a missing or extra or too large number": an error of the script
unfoldable pub asked_of : ℕ → List ℕ → Result Request BadLine
asked_of letter numbers =
    cond (eqb letter 0x43) (cells_request (length numbers) (get_or numbers 0 0))
    (cond (eqb (length numbers) 0) (of_none letter)
    (cond (eqb (length numbers) 1) (of_one letter (get_or numbers 0 0))
    (cond (eqb (length numbers) 2) (of_two letter (get_or numbers 0 0) (get_or numbers 1 0))
    (cond (eqb (length numbers) 3)
    (of_three letter (get_or numbers 0 0) (get_or numbers 1 0) (get_or numbers 2 0))
    (Err bad_line)))))

abbrev pub something : Result Request BadLine → Result (Option Request) BadLine
something (Ok request) = Ok (Some request)
something (Err bad) = Err bad

-- "A line with nothing else in it is skipped": it asks for nothing
abbrev pub asked_by : Option ℕ → List ℕ → Result (Option Request) BadLine
asked_by (Some letter) numbers = something (asked_of letter numbers)
asked_by None numbers = cond (eqb (length numbers) 0) (Ok None) (Err bad_line)

unfoldable pub request_of : Line → Result (Option Request) BadLine
request_of l = asked_by l.letter (items_of l.numbers)
