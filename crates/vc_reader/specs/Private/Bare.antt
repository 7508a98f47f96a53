-- Reading what may be absent.
use Rattle.std.specs.Prelude.{Option, Some, Result, Ok}
use Rattle.vc_reader.specs.declared.fault.Fault.{Fault}
use Rattle.vc_reader.specs.Reading.{◌>>=◌}

-- what was read, as something that might have been absent
abbrev pub some_of : {A : Type 0} → Result A Fault → Result (Option A) Fault
some_of read = read >>= λ x. Ok (Some x)
