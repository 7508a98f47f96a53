use Rattle.std.proofs.Common.{◌≡◌, subst, sym, ◌∙◌}
use Rattle.vc_vcp.specs.State.{IsWired}
use Rattle.vc_vcp.specs.VcpView.{seen, ends_of}
use Rattle.vc_vcp.proofs.OpeningState.{begun, begun_wired, begun_seen, begun_ends}
use Rattle.vc_vcp.proofs.vcp.Vcp.new.Goals as goal

pub invariant_of-result : goal.invariant_of-result
invariant_of-result c =
    let is : begun c.args.ends.now c.args.body_limit ≡ record { outputs = c.in_ok-outputs.outputs.items; inputs = c.in_ok-inputs.inputs.items; outs = c.in_ok-outs.field-0.items; ins = c.in_ok-ins.field-0.items; strays = 0 } =
    (λ i. record { outputs = sym c.in_ok-outputs.ensures i; inputs = sym c.in_ok-inputs.ensures i; outs = sym c.in_ok-outs.ensures i; ins = sym c.in_ok-ins.ensures i; strays = 0 }) in
    subst IsWired is (begun_wired c.args.ends.now c.args.body_limit c.requires.links c.requires.distinct)

pub returns-clause-seen : goal.returns-clause-seen
returns-clause-seen c =
    (λ i. seen (record { outputs = c.in_ok-outputs.ensures i; inputs = c.in_ok-inputs.ensures i; outs = c.in_ok-outs.ensures i; ins = c.in_ok-ins.ensures i; strays = 0 })) ∙ begun_seen c.args.ends.now c.args.body_limit

pub returns-clause-ends : goal.returns-clause-ends
returns-clause-ends c =
    (λ i. ends_of (record { outputs = c.in_ok-outputs.ensures i; inputs = c.in_ok-inputs.ensures i; outs = c.in_ok-outs.ensures i; ins = c.in_ok-ins.ensures i; strays = 0 })) ∙ begun_ends c.args.ends.now c.args.body_limit
