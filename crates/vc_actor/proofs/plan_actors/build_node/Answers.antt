use Rattle.std.proofs.Common.{◌≡◌, ◌<◌, length, arith, sym, subst, ap, ◌∙◌}
use Rattle.std.specs.List.{AllByRecursion}
use Rattle.vc_occam.specs.Opening.{Fits, opening}
use Rattle.vc_occam.specs.Runnings.{state, inner_channels}
use Rattle.vc_process.specs.Usage.{among}
use Rattle.vc_plan.specs.Limits.{kinds_of}
use Rattle.vc_vcp.specs.declared.end.End.{End as Given}
use Rattle.vc_vcp.specs.Opening.{AreDistinct}
use Rattle.vc_vcp.specs.VcpView.{seen, ends_of}
use Rattle.vc_vcp.specs.State.{State, limit_of}
use Rattle.vc_accepted.specs.NodeEnds.{ends_of_node}
use Rattle.vc_accepted.proofs.NodeEnds.{given_small, given_distinct}
use Rattle.vc_accepted.specs.Begin.{numbers_inside}
use Rattle.vc_actor.specs.Private.Inside.{opened_inside}
use Rattle.vc_actor.proofs.OpeningState.{begins}
use Rattle.vc_actor.proofs.ChannelWays.{ends_are, few_channels}
use Rattle.vc_actor.proofs.WithinLimits.{node_runs}
use Rattle.vc_actor.proofs.plan_actors.build_node.Goals as goal

pub new-requires-clause-links : goal.new-requires-clause-links
new-requires-clause-links c =
    let given : c.deref.result.now ≡ ends_of_node c.args.plan.now c.args.number =
    c.deref.ensures.value ∙ c.in_ok-ends.ensures ∙ ends_are c.args.plan.now c.args.ways.now c.requires.ways c.args.number in
    subst (λ es. AllByRecursion (λ (e : Given). e.link < 4) es) (sym given) (given_small c.args.plan.now c.requires.accepted c.args.number)

pub new-requires-clause-distinct : goal.new-requires-clause-distinct
new-requires-clause-distinct c =
    let given : c.deref.result.now ≡ ends_of_node c.args.plan.now c.args.number =
    c.deref.ensures.value ∙ c.in_ok-ends.ensures ∙ ends_are c.args.plan.now c.args.ways.now c.requires.ways c.args.number in
    subst AreDistinct (sym given) (given_distinct c.args.plan.now c.requires.accepted c.args.number)

pub inside_of-requires : goal.inside_of-requires
inside_of-requires c =
    let few = few_channels c.args.plan.now c.requires.accepted in
    let same = ap length c.as_slice.ensures in
    omega arith

pub new-requires-2-clause-lawful : goal.new-requires-2-clause-lawful
new-requires-2-clause-lawful c = (node_runs c.args.plan.now c.requires.accepted c.args.number c.args.node.now c.requires.node).lawful

pub new-requires-2-clause-sites : goal.new-requires-2-clause-sites
new-requires-2-clause-sites c = (node_runs c.args.plan.now c.requires.accepted c.args.number c.args.node.now c.requires.node).sites

pub new-requires-2-clause-fits : goal.new-requires-2-clause-fits
new-requires-2-clause-fits c =
    let runs = node_runs c.args.plan.now c.requires.accepted c.args.number c.args.node.now c.requires.node in
    let kinds : c.as_slice-2.result.now ≡ kinds_of c.args.node.now.vars = c.as_slice-2.ensures ∙ c.in_ok-kinds.ensures in
    subst (λ k. Fits k c.args.node.now.process) (sym kinds) runs.fits

pub new-requires-3 : goal.new-requires-3
new-requires-3 c =
    let few = few_channels c.args.plan.now c.requires.accepted in
    let same = ap length c.as_slice-3.ensures in
    omega arith

pub returns : goal.returns
returns c =
    let p = c.args.plan.now in
    let k = c.args.number in
    let es = c.deref.result.now in
    let n = c.new-4.result in
    let given : es ≡ ends_of_node p k = c.deref.ensures.value ∙ c.in_ok-ends.ensures ∙ ends_are p c.args.ways.now c.requires.ways k in
    let kinds : c.as_slice-2.result.now ≡ kinds_of c.args.node.now.vars = c.as_slice-2.ensures ∙ c.in_ok-kinds.ensures in
    let chans : c.deref-2.result.now ≡ numbers_inside k 0 p.channels = c.deref-2.ensures.value ∙ c.in_ok-chans.ensures ∙ ap (numbers_inside k 0) c.as_slice.ensures in
    let vcp : n.vcp ≡ c.in_ok-vcp.vcp = c.new-4.ensures.0 in
    let runs : n.process ≡ c.in_ok-process.process = c.new-4.ensures.1 in
    let inside : n.inside ≡ c.in_ok-inside.inside = c.new-4.ensures.2 in
    let starts : state c.in_ok-process.process ≡ opening c.as_slice-2.result.now c.args.node.now.process = c.in_ok-process.ensures.state in
    let channels : inner_channels c.in_ok-process.process ≡ among c.deref-2.result.now = c.in_ok-process.ensures.inside in
    let opened : c.in_ok-inside.inside ≡ opened_inside k 0 c.as_slice-3.result.now = c.in_ok-inside.ensures in
    let limit : limit_of c.in_ok-vcp.vcp.ins ≡ c.body_limit.result = c.in_ok-vcp.ensures.limit in
    begins p c.requires.accepted k c.args.node.now c.requires.node es n (record {
      given = given;
      shows = ap seen vcp ∙ c.in_ok-vcp.ensures.seen;
      ends = ap ends_of vcp ∙ c.in_ok-vcp.ensures.ends;
      limit = ap (λ (z : State). limit_of z.ins) vcp ∙ limit ∙ c.body_limit.ensures;
      starts = ap state runs ∙ starts ∙ ap (λ ks. opening ks c.args.node.now.process) kinds;
      channels = ap inner_channels runs ∙ channels ∙ ap among chans;
      inside = inside ∙ opened ∙ ap (opened_inside k 0) c.as_slice-3.ensures;
    })
