use Rattle.std.proofs.Common.{◌∙◌, ap, sym}
use Rattle.vc_occam.specs.declared.frame.Frame.TheViews.{out-Frame}
use Rattle.vc_occam.specs.Frames.{Shape, view_of}
use Rattle.vc_occam.proofs.Views.{view_out, view_roll}
use Rattle.vc_occam.proofs.+copying.Goals as goal

pub frame::Frame::copy-returns : goal.frame::Frame::copy-returns
frame::Frame::copy-returns t c =
    let o = out-Frame c.args.self.now in
    view_roll (record { site = o.site; stopped = o.stopped; construct = c.in_ok-construct.construct }) ∙ ap (λ (s : Shape). view_of o.site o.stopped s) c.in_ok-construct.ensures ∙ sym (view_out c.args.self.now)
