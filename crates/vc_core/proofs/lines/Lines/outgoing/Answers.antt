use Rattle.std.proofs.Common.{◌<◌, length, sym, ap, ◌∙◌, subst}
use Rattle.vc_core.specs.Lines.{Lined}
use Rattle.vc_core.specs.Wiring.{out_at}
use Rattle.vc_core.proofs.LineBits.{some_all}
use Rattle.vc_core.proofs.lines.Lines.outgoing.Goals as goal

pub returns-clause-way : goal.returns-clause-way
returns-clause-way c = c.outgoing.ensures.way ∙ ap (λ (z : Lined). out_at z.wiring c.args.actor c.args.link) c.self.view_is

pub returns-clause-real : goal.returns-clause-real
returns-clause-real c =
    some_all (λ w. w < length c.args.self.now.ways) c.outgoing.result
    (λ w e. subst (λ (z : Lined). w < length z.ways) c.self.view_is (c.self.invariant.0.real c.args.actor c.args.link w (sym c.outgoing.ensures.way ∙ e)))
