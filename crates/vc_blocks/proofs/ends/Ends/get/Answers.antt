use Rattle.std.proofs.Common.{sym, ap, ◌∙◌, slice_get}
use Rattle.vc_blocks.proofs.Logs.{get-multiple, get-other}
use Rattle.vc_blocks.proofs.ends.Ends.get.Goals as goal

pub returns-then-at-self : goal.returns-then-at-self
returns-then-at-self c = let x = c.self.inside in sym (get-multiple x.step x.even c.args.at x.others c.if-at-self.true) ∙ ap (λ xs. slice_get xs c.args.at) c.self.view_is

pub returns : goal.returns
returns c =
    let x = c.self.inside in
    c.copied.ensures ∙ c.get.ensures.value ∙ sym (get-other x.step x.even c.args.at x.others c.if-at-self.false) ∙ ap (λ xs. slice_get xs c.args.at) c.self.view_is
