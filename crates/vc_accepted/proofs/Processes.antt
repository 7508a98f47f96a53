-- The processes of an accepted plan begin well: they use their channels and variables lawfully, and keep to kinds.
use Rattle.std.proofs.Common.{◌≡◌, ℕ, zero, suc, ◌<◌, true, false, ◌&&◌, refl, sym, ◌∙◌, List, [], ◌∷◌, length, get_or, slice_get, Option, Some, None, arith}
use Rattle.std.proofs.lemmas.Bool.{and_parts}
use Rattle.std.specs.List.{list_all}
use Rattle.vc_process.specs.declared.channel_use.ChannelUse.{ChannelUse}
use Rattle.vc_process.specs.declared.value_kind.ValueKind.{ValueKind}
use Rattle.vc_process.specs.declared.value_kind.ValueKind.TheVariants as kind
use Rattle.vc_process.specs.Numbering.{written}
use Rattle.vc_process.specs.ProcessLimits.{names_fit}
use Rattle.vc_occam.proofs.ValueKinds.{kinds_same, IsKinded, AreKinded, kinded, empty_kinded}
use Rattle.vc_occam.proofs.Preservation.{begins}
use Rattle.vc_occam.proofs.KindPreservation.{begins_sound}
use Rattle.vc_plan.specs.declared.channel.Channel.{Channel}
use Rattle.vc_plan.specs.declared.node_plan.NodePlan.{NodePlan}
use Rattle.vc_plan.specs.declared.plan.Plan.{Plan}
use Rattle.vc_plan.specs.Accepted.{IsAccepted, uses_of}
use Rattle.vc_plan.specs.Check.{has_end, kind_fits, channel_used, use_ok}
use Rattle.vc_plan.specs.Limits.{kinds_of, wire_there, ends_there, home_there, process_names}
use Rattle.vc_plan.proofs.Limits.{passes}
use Rattle.vc_plan.proofs.Tests.{uses_are_ok}
use Rattle.vc_accepted.proofs.Limits.{kept}
use Rattle.vc_accepted.specs.Begin.{node_plan, no_node, begin_of}
use Rattle.vc_accepted.proofs.StepTraces.{IsGood}

-- the kind of channel c
abbrev kind_at : Option Channel → ValueKind
kind_at (Some c) = c.kind
kind_at None = kind.Int

abbrev pub kind_on : Plan → ℕ → ValueKind
kind_on p c = kind_at (slice_get p.channels c)

there : (p : Plan) (n : ℕ) (nodes : List NodePlan) → n < length nodes → slice_get nodes n ≡ Some (get_or nodes n no_node)
there p n [] h = absurd (omega arith)
there p zero (x ∷ xs) h = refl
there p (suc n) (x ∷ xs) h = there p n xs (omega arith)

-- a use that the plan allows is of its channel's kind
fits : (o : Option ValueKind) (j k : ValueKind) → kind_fits o j ≡ true → o ≡ Some k → k ≡ j
fits None j k h e = absurd (cc)
fits (Some i) j k h e = let is : i ≡ k = cc in sym is ∙ kinds_same i j h

use_kinded : (p : Plan) (n : ℕ) (u : ChannelUse) → use_ok p n u ≡ true → IsKinded (kind_on p) u
use_kinded p n u h k e = by_channel (slice_get p.channels u.chan) h
  where
    by_channel : (o : Option Channel) → channel_used p n u o ≡ true → k ≡ kind_at o
    by_channel None h = absurd (let z : false ≡ true = h in cc)
    by_channel (Some c) h = fits u.kind c.kind k (and_parts (has_end p c.home u.is_output n) (kind_fits u.kind c.kind) h).1 e

uses_kinded : (p : Plan) (n : ℕ) (us : List ChannelUse) → ((k : ℕ) (u : ChannelUse) → slice_get us k ≡ Some u → use_ok p n u ≡ true) → AreKinded (kind_on p) us
uses_kinded p n [] h = tt
uses_kinded p n (u ∷ us) h = (use_kinded p n u (h 0 u refl), uses_kinded p n us (λ k v e. h (suc k) v e))

pub named : (p : Plan) → IsAccepted p → (n : ℕ) (node : NodePlan) → slice_get p.nodes n ≡ Some node → names_fit (written node.process) (kinds_of node.vars) (length p.channels) ≡ true
named p acc n node e =
    let a = (and_parts (list_all (wire_there p) p.wires) (list_all (ends_there p) p.vlinks && (list_all (λ (x : Channel). home_there p x.home) p.channels && list_all (process_names p) p.nodes)) (kept p acc).number).1 in
    let b = (and_parts (list_all (ends_there p) p.vlinks) (list_all (λ (x : Channel). home_there p x.home) p.channels && list_all (process_names p) p.nodes) a).1 in
    passes (process_names p) p.nodes n node (and_parts (list_all (λ (x : Channel). home_there p x.home) p.channels) (list_all (process_names p) p.nodes) b).1 e

pub begins_good : (p : Plan) → IsAccepted p → (n : ℕ) → n < length p.nodes → IsGood (kind_on p) (kinds_of (node_plan p n).vars) (begin_of p n)
begins_good p acc n less =
    let node = node_plan p n in
    let here = there p n p.nodes less in
    let kinds = kinds_of node.vars in
    record {
      lawful = begins (written node.process) (acc.lawful_use n node here);
      sound = begins_sound (kind_on p) kinds (written node.process)
          (kinded (kind_on p) kinds (length p.channels) (written node.process) (named p acc n node here) (uses_kinded p n (uses_of node) (λ k u e. uses_are_ok p acc n k node u here e)));
      store = empty_kinded (kind_on p) kinds;
    }
