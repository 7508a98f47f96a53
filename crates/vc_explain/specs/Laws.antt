-- What holds of the two places of a use that is not lawful.
use Rattle.std.specs.Prelude.{◌≡◌, List, Some, None, IsSome}
use Rattle.vc_process.specs.Lawful.{FirstOffence, Lawfully, Offence, channel, variable}
use Rattle.vc_process.specs.Syntax.{Proc}
use Rattle.vc_reader.specs.declared.path.Step.{Step}
use Rattle.vc_explain.specs.declared.offence.Named.{Named}
use Rattle.vc_explain.specs.Offences.{offence}

-- the channel or the variable of an offence is named
abbrev pub Names : Named → Offence → Type 0
Names n (channel c) = n.chan ≡ Some c
Names n (variable v) = n.var ≡ Some v

-- of each process that does not use its channels and variables lawfully there are two places to tell, wherever it stands
abbrev pub OffencesAreFound : Type 0
OffencesAreFound = (p : Proc) (x : Offence) (n : Named) (at : List Step) → FirstOffence p x → Names n x → IsSome (offence n p at)

-- and of each process that uses them lawfully there are none, whatever is named
abbrev pub NothingOfLawful : Type 0
NothingOfLawful = (p : Proc) (n : Named) (at : List Step) → Lawfully p → offence n p at ≡ None
