-- What two parts of a PAR share that they may not, from a list of all their uses.
use Rattle.std.specs.Prelude.{◌≡◌, ◌≢◌, ◌⊎◌, ◌<◌, false, List, [], ◌∷◌, Option, Some, None, Result, Ok, Err}
use Rattle.std.specs.List.{Contains}
use Rattle.vc_process.specs.declared.use_fault.UseFault.{UseFault}
use Rattle.vc_process.specs.declared.use_fault.UseFault.TheVariants as fault
use Rattle.vc_process.specs.declared.used.Used.{Used}
use Rattle.vc_process.specs.declared.used.Used.TheVariants.{Output, Input, Variable}
use Rattle.vc_process.specs.declared.used.PartUsage.{PartUsage}
use Rattle.vc_process.specs.Lawful.{Offence, channel, variable}

-- the order in which offenders are told
abbrev pub Before : Used → Used → Type 0
Before (Output c) (Output d) = c < d
Before (Output c) (Input d) = Unit {0}
Before (Output c) (Variable w) = Unit {0}
Before (Input c) (Output d) = ⊥
Before (Input c) (Input d) = c < d
Before (Input c) (Variable w) = Unit {0}
Before (Variable v) (Output d) = ⊥
Before (Variable v) (Input d) = ⊥
Before (Variable v) (Variable w) = v < w

-- one use stands before another: by what is used, and then changes before the rest
abbrev pub NotAfter : PartUsage → PartUsage → Type 0
NotAfter a b = Before a.used b.used ⊎ ((a.used ≡ b.used) × (b.reads ≡ false → a.reads ≡ false))

abbrev pub AllNotBefore : PartUsage → List PartUsage → Type 0
AllNotBefore x [] = Unit {0}
AllNotBefore x (y ∷ ys) = NotAfter x y × AllNotBefore x ys

abbrev pub Ascending : List PartUsage → Type 0
Ascending [] = Unit {0}
Ascending (x ∷ xs) = AllNotBefore x xs × Ascending xs

-- two parts use this, and one of them changes it or communicates on it
pub record Clash (xs : List PartUsage) (n : Used) : Type 0 where
  pub first : PartUsage
  pub second : PartUsage
  pub has_first : Contains xs first
  pub has_second : Contains xs second
  pub by_first : first.used ≡ n
  pub by_second : second.used ≡ n
  pub changed : first.reads ≡ false
  pub apart : first.part ≢ second.part

-- the first of two uses clashes with the second
abbrev pub Clashes : PartUsage → PartUsage → Type 0
Clashes a b = (a.used ≡ b.used) × (a.reads ≡ false) × (a.part ≢ b.part)

-- the first such use in this order, if there is one
abbrev pub IsFirstClash : List PartUsage → Option Used → Type 0
IsFirstClash xs None = (n : Used) → Clash xs n → ⊥
IsFirstClash xs (Some n) = Clash xs n × ((m : Used) → Before m n → Clash xs m → ⊥)

-- an offender told as a fault
abbrev pub fault_of : Used → UseFault
fault_of (Output c) = fault.Chan c
fault_of (Input c) = fault.Chan c
fault_of (Variable v) = fault.Var v

-- it is so, or this offends; without memory nothing is known
abbrev pub Judges : Result (Unit {0}) UseFault → Type 0 → (Offence → Type 0) → Type 0
Judges (Ok x) So Offends = So
Judges (Err (fault.Chan c)) So Offends = Offends (channel c)
Judges (Err (fault.Var v)) So Offends = Offends (variable v)
Judges (Err fault.Memory) So Offends = Unit {0}
