-- The places of a channel that is on a way with another, or that a process uses as it may not.
use Rattle.std.specs.Prelude.{ℕ, suc, List, [], ◌∷◌, Option, None, take, true, false}
use Rattle.std.specs.List.{position_from}
use Rattle.std.specs.Option.{option_or}
use Rattle.vc_plan.specs.Check.{has_end, same_way}
use Rattle.vc_plan.specs.Limits.{kinds_of}
use Rattle.vc_plan.specs.declared.channel.Channel.{Channel}
use Rattle.vc_plan.specs.declared.channel.Home.{Home}
use Rattle.vc_plan.specs.declared.node_plan.NodePlan.{NodePlan}
use Rattle.vc_plan.specs.declared.plan.Plan.{Plan}
use Rattle.vc_process.specs.Numbering.{written}
use Rattle.vc_reader.specs.declared.path.Step.{Step}
use Rattle.vc_explain.specs.declared.wanted.Rights.{Rights}
use Rattle.vc_explain.specs.declared.wanted.Wanted.TheVariants.{Misuse}
use Rattle.vc_explain.specs.Offences.{process_path}
use Rattle.vc_explain.specs.Uses.{place}

-- the first channel before number c that is on this way
abbrev pub earlier_on_way : List Channel → ℕ → Home → Option ℕ
earlier_on_way channels c home = position_from (λ d. same_way home d.home) 0 (take c channels)

-- what node n may do with channel c
abbrev pub rights : Plan → ℕ → Channel → ℕ → Rights
rights p c channel n = record { chan = c; may_output = has_end p channel.home true n; may_input = has_end p channel.home false n; kind = channel.kind }

-- where the process of node n uses it as it may not
abbrev pub misuse_by : Plan → ℕ → Channel → ℕ → NodePlan → Option (List Step)
misuse_by p c channel n node = place (Misuse (rights p c channel n)) (kinds_of node.vars) (written node.process) (process_path n)

-- the first such place in these nodes, which are numbered from n on
abbrev pub misuse : Plan → ℕ → Channel → ℕ → List NodePlan → Option (List Step)
misuse p c channel n [] = None
misuse p c channel n (node ∷ nodes) = option_or (misuse_by p c channel n node) (misuse p c channel (suc n) nodes)
