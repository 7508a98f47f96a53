use Rattle.std.proofs.Common.{◌∙◌, ap}
use Rattle.vc_occam.specs.declared.frame.Construct.TheVariants as run
use Rattle.vc_occam.specs.declared.frame.Frame.TheViews.{out-Frame}
use Rattle.vc_occam.specs.First.{own}
use Rattle.vc_occam.specs.Remains.{Rest}
use Rattle.vc_process.specs.Terms.{store}
use Rattle.vc_occam.proofs.AtItself.{shown_rest}
use Rattle.vc_occam.proofs.frame.Frame.offers_on.Goals as goal

pub returns-then-not-self : goal.returns-then-not-self
returns-then-not-self c = λ h.
    let f = c.args.self.now in
    ap (λ (r : Rest). own r (store c.args.vars.now)) (shown_rest f (run.Send c.in-Send.output) c.if-not-self.true c.in-Send.is)
    ∙ c.begins_on.ensures h (out-Frame f).site
