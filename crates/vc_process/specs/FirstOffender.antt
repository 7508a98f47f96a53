-- What holds of the first offender: where there is one the use is not lawful, and there is one only.
use Rattle.std.specs.Prelude.{◌≡◌}
use Rattle.vc_process.specs.Syntax.{Proc}
use Rattle.vc_process.specs.Lawful.{Lawfully, Offence, FirstOffence}

-- a process that uses its channels and variables lawfully has no first offender
abbrev pub OffendersAreUnlawful : Type 0
OffendersAreUnlawful = (p : Proc) (x : Offence) → FirstOffence p x → Lawfully p → ⊥

-- a process has only one
abbrev pub OneOffenderIsFirst : Type 0
OneOffenderIsFirst = (p : Proc) (x y : Offence) → FirstOffence p x → FirstOffence p y → x ≡ y
