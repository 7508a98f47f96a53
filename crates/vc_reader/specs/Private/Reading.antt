-- Reading a JSON value part by part, up to its first fault.
use Rattle.std.specs.Prelude.{◌≡◌, ◌+◌, List, [], ◌∷◌, ◌++◌, length, Result, Ok, Err}
use Rattle.vc_reader.specs.declared.path.Step.TheVariants.{Index}
use Rattle.vc_reader.specs.declared.fault.Fault.{Fault}
use Rattle.vc_reader.specs.declared.fault.Stop.{Stop}
use Rattle.vc_reader.specs.declared.fault.Stop.TheVariants as stop
use Rattle.vc_reader.specs.Reading.{◌>>=◌, under}

-- what a function answered, seen by view, is what reading gives, unless there was no memory
abbrev pub Fails : {Y : Type 0} → Stop → Result Y Fault → Type 0
Fails stop.Memory read = Unit {0}
Fails (stop.Fault f) read = read ≡ Err f

abbrev pub Gives : {X Y : Type 0} → (X → Y) → Result X Stop → Result Y Fault → Type 0
Gives view (Ok x) read = read ≡ Ok (view x)
Gives view (Err e) read = Fails e read

-- what was read before, beside what is read next
abbrev pub beside : {A B : Type 0} → A → Result B Fault → Result (A × B) Fault
beside a read = read >>= λ b. Ok (a, b)

-- what was read before, and the item behind it
abbrev pub joins : {A : Type 0} → List A → Result A Fault → Result (List A) Fault
joins before read = under (Index (length before)) read >>= λ x. Ok (before ++ x ∷ [])
