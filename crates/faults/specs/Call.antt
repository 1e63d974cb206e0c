-- The faults of a call: the buffers and arguments that it was handed.
-- Those of its own are of layer 3; a fault of a layer below comes up whole, with that layer's numbers.
use Rattle.std.specs.Prelude.{ℕ, List, ◌++◌, codes, decimal}
use Rattle.faults.specs.declared.call.CallFault.{CallFault}
use Rattle.faults.specs.declared.call.CallFault.TheVariants.{Job, ShortMap, ShortField, ShortSpare, MapByte, FieldByte, Argument, TooManySteps, ShortOutput}
use Rattle.faults.specs.Job.{job_number, job_layer, job_record, job_offset}

-- 15 a buffer is shorter than the grid; 16 a byte of the map or the field is out of range; 17 an argument breaks its
-- call's rule; 18 the step count would pass its limit; 19 the output buffer is too short
abbrev pub number : CallFault → ℕ
number (Job f) = job_number f
number ShortMap = 15
number ShortField = 15
number ShortSpare = 15
number (MapByte o) = 16
number (FieldByte o) = 16
number (Argument p) = 17
number TooManySteps = 18
number ShortOutput = 19

abbrev pub layer : CallFault → ℕ
layer (Job f) = job_layer f
layer ShortMap = 3
layer ShortField = 3
layer ShortSpare = 3
layer (MapByte o) = 3
layer (FieldByte o) = 3
layer (Argument p) = 3
layer TooManySteps = 3
layer ShortOutput = 3

-- the map counts as record 1, the field as 2 and the spare as 3
abbrev pub record_of : CallFault → ℕ
record_of (Job f) = job_record f
record_of ShortMap = 1
record_of ShortField = 2
record_of ShortSpare = 3
record_of (MapByte o) = 1
record_of (FieldByte o) = 2
record_of (Argument p) = 0
record_of TooManySteps = 0
record_of ShortOutput = 0

-- the byte that is out of range, or the position of the argument, from 1
abbrev pub offset : CallFault → ℕ
offset (Job f) = job_offset f
offset ShortMap = 0
offset ShortField = 0
offset ShortSpare = 0
offset (MapByte o) = o
offset (FieldByte o) = o
offset (Argument p) = p
offset TooManySteps = 0
offset ShortOutput = 0

-- how a refusal is printed: `refused`, and then the fault's number, layer, record and offset
abbrev pub refusal : CallFault → List ℕ
refusal f =
    codes "refused " ++ (decimal (number f) ++ (codes " " ++ (decimal (layer f) ++ (codes " " ++ (decimal (record_of f) ++ (codes " " ++ decimal (offset f)))))))
