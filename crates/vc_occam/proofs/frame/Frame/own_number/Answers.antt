use Rattle.std.proofs.Common.{◌≡◌, ◌∙◌, ap, List, Option, None, Some, ℕ, ℤ}
use Rattle.std.specs.Prelude.{IfSome}
use Rattle.vc_occam.specs.declared.frame.Construct.TheVariants as run
use Rattle.vc_occam.specs.Frames.{rest_of}
use Rattle.vc_occam.specs.Private.Frames.{output_shape}
use Rattle.vc_occam.specs.Remains.{Rest}
use Rattle.vc_occam.specs.States.{carried, output_at}
use Rattle.vc_process.specs.Messages.{number_bytes}
use Rattle.vc_process.specs.Terms.{store}
use Rattle.vc_occam.proofs.AtItself.{shown_rest}
use Rattle.vc_occam.proofs.frame.Frame.own_number.Goals as goal

-- what it is at every site it is at one
at_one : (o : Option ℤ) (F : ℕ → Option (List ℕ)) (i : ℕ) (x : Option (List ℕ)) → x ≡ F i → IfSome o (λ z. (j : ℕ) → F j ≡ Some (number_bytes z)) → IfSome o (λ z. x ≡ Some (number_bytes z))
at_one (Some z) F i x h k = h ∙ k i
at_one None F i x h k = k

pub returns-in-Send : goal.returns-in-Send
returns-in-Send c =
    let f = c.args.self.now in
    let i = c.args.site in
    let e = store c.args.vars.now in
    let sent : ℕ → Option (List ℕ) = λ j. carried (output_at j (rest_of j (output_shape c.in-Send.output)) e) in
    let here = ap (λ (r : Rest). carried (output_at i r e)) (shown_rest f (run.Send c.in-Send.output) c.if-self.false c.in-Send.is) ∙ ap (λ (j : ℕ). carried (output_at i (rest_of j (output_shape c.in-Send.output)) e)) c.if-self-site.false in
    at_one c.number.result sent i _ here c.number.ensures
