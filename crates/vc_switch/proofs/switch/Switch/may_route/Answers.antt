use Rattle.vc_switch.specs.State.{plan_of}
use Rattle.vc_switch.specs.SwitchView.{seen}
use Rattle.vc_switch.proofs.Routes.{in_group_free, out_of_group, no_group}
use Rattle.vc_switch.proofs.switch.Switch.may_route.Goals as goal

pub returns-then-is_within : goal.returns-then-is_within
returns-then-is_within c =
    in_group_free (plan_of c.args.self.now) (seen c.args.self.now) c.args.input c.args.output c.in-Some.first c.in-Some.last c.free.result c.free.ensures c.in-Some.ensures.1 c.in-Some.ensures.2 (c.is_within.ensures.0 c.if-is_within.true)

pub returns-else-is_within : goal.returns-else-is_within
returns-else-is_within c =
    out_of_group (plan_of c.args.self.now) (seen c.args.self.now) c.args.input c.args.output c.in-Some.first c.in-Some.last c.is_within.result c.in-Some.ensures.2 c.is_within.ensures c.if-is_within.false

pub returns-in-None : goal.returns-in-None
returns-in-None c =
    no_group (plan_of c.args.self.now) (seen c.args.self.now) c.args.input c.args.output c.in-None.ensures
