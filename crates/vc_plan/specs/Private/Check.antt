-- What `check` asks of a plan, and the first thing that it can find wrong.
use Rattle.std.specs.Prelude.{◌≡◌, None}
use Rattle.vc_plan.specs.declared.plan.Plan.{Plan}
use Rattle.vc_plan.specs.declared.fault.Fault.TheVariants as fault
use Rattle.vc_plan.specs.declared.labelling.FaultyPath.{FaultyPath}
use Rattle.vc_plan.specs.declared.check_refused.CheckRefused.{CheckRefused}
use Rattle.vc_plan.specs.declared.check_refused.CheckRefused.TheVariants as why
use Rattle.vc_plan.specs.Accepted.{AreLawful}
use Rattle.vc_plan.specs.Check.{PassesChannels, astray}

-- and each process keeps to its use
pub record PassesUse (p : Plan) : Type 0 where
  pub before : PassesChannels p
  pub lawful : AreLawful p

-- a path with its fault is refused so
abbrev pub IsRefusedPath : FaultyPath → CheckRefused → Type 0
IsRefusedPath a (why.NoInterval f) = a ≡ astray f f.value fault.NoInterval
IsRefusedPath a (why.WrongEnd f) = a ≡ astray f f.value fault.WrongEnd
IsRefusedPath a (why.StackEmpty f) = a ≡ astray f f.value fault.StackEmpty
IsRefusedPath a (why.StackFull f) = (f.value ≡ None) × (a ≡ astray f a.value fault.StackFull)
IsRefusedPath a (why.Hops f) = a ≡ astray f f.value fault.Hops
IsRefusedPath a r = ⊥
