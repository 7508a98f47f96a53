use Rattle.std.proofs.Common.{◌+◌, sym, ap, ◌∙◌, length}
use Rattle.vc_blocks.proofs.Logs.{length-multiples}
use Rattle.vc_blocks.proofs.ends.Ends.len.Goals as goal

pub returns : goal.returns
returns c = let x = c.self.inside in ap (λ n. x.even + n) c.len.ensures ∙ sym (length-multiples x.step x.even x.others) ∙ ap length c.self.view_is
