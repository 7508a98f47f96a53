use Rattle.std.proofs.Common.{◌∙◌, Bool, ap}
use Rattle.vc_occam.specs.declared.frame.Construct.TheVariants as run
use Rattle.vc_occam.specs.declared.frame.Frame.TheViews.{out-Frame}
use Rattle.vc_occam.specs.First.{own}
use Rattle.vc_occam.specs.Frames.{receive, rest_of}
use Rattle.vc_occam.specs.Remains.{Rest}
use Rattle.vc_occam.proofs.AtItself.{shown_rest}
use Rattle.vc_occam.proofs.frame.Frame.wanted_on.Goals as goal

pub returns-in-Receive : goal.returns-in-Receive
returns-in-Receive c = λ e.
    let f = c.args.self.now in
    let n = c.in-Receive.input in
    ap (λ (r : Rest). own r e) (shown_rest f (run.Receive n) c.if-not-self.true c.in-Receive.is)
    ∙ ap (λ (b : Bool). own (rest_of (out-Frame f).site (receive n.chan n.var b)) e) c.if-not-input.true
