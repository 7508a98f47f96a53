-- What a use that isn't lawful is called.
use Rattle.vc_process.specs.declared.use_fault.UseFault.{UseFault}
use Rattle.vc_process.specs.declared.use_fault.UseFault.TheVariants as fault
use Rattle.vc_process.specs.Lawful.{FirstOffence, channel, variable}
use Rattle.vc_process.specs.Syntax.{Proc}

-- the first offender is this channel or variable; without memory nothing is known
abbrev pub IsUseFault : Proc → UseFault → Type 0
IsUseFault p (fault.Chan c) = FirstOffence p (channel c)
IsUseFault p (fault.Var v) = FirstOffence p (variable v)
IsUseFault p fault.Memory = Unit {0}
