-- The program's first line is `k b`: how many steps to take, and how wide the patches of the report are.
-- k is a number from 1 to 65,535 and b one from 1 to 64, parted by one blank and ended by byte 10; the job file follows.
-- k is what stands before the line's first blank, b what stands behind it up to the line's end. Where k is no such number
-- the first argument is at fault; then, where b is none or the line has no end, the second.
use Rattle.std.specs.Prelude.{ℕ, ◌+◌, List, [], take, drop, position, Some, None, Ok, Err, Option, Result, ◌==◌}
use Rattle.faults.specs.declared.call.CallFault.{CallFault}
use Rattle.faults.specs.declared.call.CallFault.TheVariants.{Argument}
use Rattle.front.specs.Numbers.{number_up_to}

-- where the byte b stands first
abbrev pub place_of : ℕ → List ℕ → Option ℕ
place_of b bytes = position (λ c. c == b) bytes

-- what stands before that place, or all
abbrev pub before : Option ℕ → List ℕ → List ℕ
before None bytes = bytes
before (Some n) bytes = take n bytes

-- what stands behind it, if there is such a place
abbrev pub rest_behind : Option ℕ → List ℕ → Option (List ℕ)
rest_behind None bytes = None
rest_behind (Some n) bytes = Some (drop (n + 1) bytes)

-- or nothing
abbrev pub behind : Option ℕ → List ℕ → List ℕ
behind None bytes = []
behind (Some n) bytes = drop (n + 1) bytes

abbrev pub line_of : List ℕ → List ℕ
line_of input = before (place_of 10 input) input

abbrev pub steps_text : List ℕ → List ℕ
steps_text input = before (place_of 32 (line_of input)) (line_of input)

abbrev pub patch_text : List ℕ → List ℕ
patch_text input = behind (place_of 32 (line_of input)) (line_of input)

abbrev pub most_steps : ℕ
most_steps = 65535

abbrev pub widest_patch : ℕ
widest_patch = 64

abbrev pub file_text : List ℕ → Option (List ℕ)
file_text input = rest_behind (place_of 10 input) input

-- what the line asks for and the file behind it, from the number of steps, that of the patch's cells and the file
abbrev pub line_judged : Option ℕ → Option ℕ → Option (List ℕ) → Result ((ℕ × ℕ) × List ℕ) CallFault
line_judged None patch file = Err (Argument 1)
line_judged (Some k) None file = Err (Argument 2)
line_judged (Some k) (Some b) None = Err (Argument 2)
line_judged (Some k) (Some b) (Some bytes) = Ok ((k, b), bytes)

abbrev pub first_line : List ℕ → Result ((ℕ × ℕ) × List ℕ) CallFault
first_line input = line_judged (number_up_to most_steps (steps_text input)) (number_up_to widest_patch (patch_text input)) (file_text input)
