use Rattle.std.proofs.Common.{◌*◌, length, refl, sym, ap, subst, ◌∙◌}
use Rattle.std.proofs.lemmas.List.{length-map}
use Rattle.vc_plan.specs.Accepted.{IsAccepted}
use Rattle.vc_plan.specs.declared.plan.Plan.{Plan}
use Rattle.vc_tokens.specs.CodeTokens.{tokens as all_spelt}
use Rattle.vc_core.specs.Channels.{AreChannelsOf}
use Rattle.vc_core.specs.State.{State}
use Rattle.vc_core.specs.Wiring.{AreWaysAt}
use Rattle.vc_core.proofs.TokensOnWays.{made_of}
use Rattle.vc_core.proofs.network.Network.of_parts.Goals as goal

pub with_tokens-requires : goal.with_tokens-requires
with_tokens-requires c =
    let same = c.plan-plan.ensures.plan in
    record { plan = subst IsAccepted (sym same) c.plan-plan.ensures.accepted; count = c.requires.ways ∙ ap (λ (z : Plan). 2 * length z.wires) (sym same) }

pub returns : goal.returns
returns c =
    let p = c.args.accepted.now in
    let same = c.plan-plan.ensures.plan in
    let lines = c.in_ok-with_tokens.field-0 in
    let laid = c.in_ok-with_tokens.ensures.ways in
    let s : State = record { actors = c.args.actors.items; nodes = c.len.result; ways = lines.ways; wiring = lines.wiring; wires = c.in_ok-from_slice.field-0; channels = c.in_ok-channels_of.field-0.items } in
    record {
      is = made_of p s c.plan-plan.ensures.accepted c.requires.count c.requires.actors (c.len.ensures ∙ ap (λ (z : Plan). length z.nodes) same)
          (ap length laid ∙ (length-map c.args.tokens.now (λ line. all_spelt line.items) ∙ c.requires.ways)) (subst (λ z. AreWaysAt z lines.wiring) same c.in_ok-with_tokens.ensures.wired)
          (c.in_ok-from_slice.ensures ∙ (c.as_slice.ensures ∙ ap (λ (z : Plan). z.wires) same)) (subst (λ z. AreChannelsOf z c.in_ok-channels_of.field-0.items) same c.in_ok-channels_of.ensures);
      actors = refl;
      ways = laid;
    }
