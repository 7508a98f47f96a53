-- The two places of a use that is not lawful.
use Rattle.std.specs.Prelude.{ℕ, suc, ◌==◌, if◌then◌else◌, List, [], ◌∷◌, ◌++◌, Option, Some, None, option_map, slice_get}
use Rattle.std.specs.List.{position_from}
use Rattle.std.specs.Option.{option_or}
use Rattle.std.specs.Str.{bytes_eq}
use Rattle.vc_plan.specs.declared.channel.Channel.{Channel}
use Rattle.vc_plan.specs.declared.node_plan.NodePlan.{NodePlan}
use Rattle.vc_plan.specs.declared.node_plan.Variable.{Variable}
use Rattle.vc_plan.specs.declared.plan.Plan.{Plan}
use Rattle.vc_process.specs.Numbering.{written}
use Rattle.vc_process.specs.Syntax.{Proc, PAR, COUNT, Procs, no_parts, part}
use Rattle.vc_reader.specs.declared.path.Step.{Step}
use Rattle.vc_reader.specs.declared.path.Step.TheVariants.{Field, Index}
use Rattle.vc_reader.specs.declared.word.Word.TheVariants as word
use Rattle.vc_explain.specs.declared.offence.Named.{Named}
use Rattle.vc_explain.specs.declared.offence.PartPlace.{PartPlace}
use Rattle.vc_explain.specs.declared.offence.Places.{Places}
use Rattle.vc_explain.specs.declared.wanted.Wanted.{Wanted}
use Rattle.vc_explain.specs.declared.wanted.Wanted.TheVariants as wanted
use Rattle.vc_explain.specs.Uses.{Located, first_of, place, within}

-- where part k of the PAR at this path stands
abbrev pub in_par : List Step → ℕ → List Step
in_par at k = at ++ Field word.Par ∷ Index k ∷ []

abbrev pub in_part : ℕ → List Step → PartPlace
in_part k path = record { part = k; path = path }

-- the first place in the parts of a PAR, from part k on
abbrev pub first_in : Wanted → List Step → ℕ → Procs → Option PartPlace
first_in w at k no_parts = None
first_in w at k (part p ps) = option_or (option_map (in_part k) (place w [] p (in_par at k))) (first_in w at (suc k) ps)

-- the first place in these parts but part j
abbrev pub first_beside : Wanted → ℕ → List Step → ℕ → Procs → Option (List Step)
first_beside w j at k no_parts = None
first_beside w j at k (part p ps) = option_or (if k == j then None else place w [] p (in_par at k)) (first_beside w j at (suc k) ps)

abbrev pub both : List Step → List Step → Places
both s t = record { first = s; second = t }

-- a place, and the first in another part
abbrev pub with_another : Wanted → List Step → Procs → Option PartPlace → Option Places
with_another w at ps None = None
with_another w at ps (Some one) = option_map (both one.path) (first_beside w one.part at 0 ps)

-- the first place where a part changes it or communicates on it, and the first where another part uses it
abbrev pub clash : (change other : Wanted) → List Step → Procs → Option Places
clash change other at ps = with_another other at ps (first_in change at 0 ps)

-- the two outputs on a channel, or else the two inputs
abbrev pub channel_clash : Option ℕ → List Step → Procs → Option Places
channel_clash None at ps = None
channel_clash (Some c) at ps = option_or (clash (wanted.Output c) (wanted.Output c) at ps) (clash (wanted.Input c) (wanted.Input c) at ps)

-- a change of a variable, and another use
abbrev pub variable_clash : Option ℕ → List Step → Procs → Option Places
variable_clash None at ps = None
variable_clash (Some v) at ps = clash (wanted.Change v) (wanted.Use v) at ps

-- the index of a replicated SEQ that has this one, and the first place in its body that changes it
abbrev pub index_change : Option ℕ → List Step → ℕ → Proc → Option Places
index_change None at v p = None
index_change (Some w) at v p =
    if v == w then option_map (both (at ++ Field word.For ∷ Index 0 ∷ [])) (place (wanted.Change v) [] p (at ++ Field word.For ∷ Index 3 ∷ [])) else None

-- what a PAR or a replicated SEQ does wrong with a channel or a variable
abbrev pub own_offence : Named → Located → Option Places
own_offence n (PAR i ps, at) = option_or (channel_clash n.chan at ps) (variable_clash n.var at ps)
own_offence n (COUNT i v a k p, at) = index_change n.var at v p
own_offence n (p, at) = None

-- the first that does, by site
abbrev pub offence : Named → Proc → List Step → Option Places
offence n p at = first_of (own_offence n) (within p at)

-- the first channel and the first variable of a name
abbrev pub channel_named : List Channel → List ℕ → Option ℕ
channel_named channels name = position_from (λ c. bytes_eq name c.name) 0 channels

abbrev pub variable_named : List Variable → List ℕ → Option ℕ
variable_named vars name = position_from (λ v. bytes_eq name v.name) 0 vars

-- both
abbrev pub named : List Channel → List Variable → List ℕ → Named
named channels vars name = record { chan = channel_named channels name; var = variable_named vars name }

-- where the process of a node stands
abbrev pub process_path : ℕ → List Step
process_path n = Field word.Nodes ∷ Index n ∷ Field word.Process ∷ []

abbrev pub offence_by : List Channel → ℕ → List ℕ → Option NodePlan → Option Places
offence_by channels n name None = None
offence_by channels n name (Some node) = offence (named channels node.vars name) (written node.process) (process_path n)

-- the two places in the process of node n
abbrev pub offence_of : Plan → ℕ → List ℕ → Option Places
offence_of plan n name = offence_by plan.channels n name (slice_get plan.nodes n)
