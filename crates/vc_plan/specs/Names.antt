-- The names of a plan, each at its number; no bytes where the plan has nothing of this number.
use Rattle.std.specs.Prelude.{ℕ, List, [], ◌-◌, length, nat_lt, if◌then◌else◌, slice_get}
use Rattle.std.specs.Option.{option_map_or}
use Rattle.vc_plan.specs.declared.plan.Plan.{Plan}
use Rattle.vc_plan.specs.declared.port.Spot.{Spot}
use Rattle.vc_plan.specs.declared.port.Spot.TheVariants.{Node, Switch}

abbrev pub node_name : Plan → ℕ → List ℕ
node_name plan n = option_map_or (λ node. node.name) (slice_get plan.nodes n) []

abbrev pub switch_name : Plan → ℕ → List ℕ
switch_name plan n = option_map_or (λ switch. switch.name) (slice_get plan.switches n) []

abbrev pub vlink_name : Plan → ℕ → List ℕ
vlink_name plan n = option_map_or (λ vlink. vlink.name) (slice_get plan.vlinks n) []

abbrev pub channel_name : Plan → ℕ → List ℕ
channel_name plan n = option_map_or (λ channel. channel.name) (slice_get plan.channels n) []

abbrev pub spot_name : Plan → Spot → List ℕ
spot_name plan (Node n) = node_name plan n
spot_name plan (Switch n) = switch_name plan n

-- the actors are the nodes, and behind them the switches
abbrev pub actor_name : Plan → ℕ → List ℕ
actor_name plan n =
    let nodes = length plan.nodes in
    if nat_lt n nodes then node_name plan n else switch_name plan (n - nodes)
