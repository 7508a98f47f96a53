-- What each node is given of a plan: its ends of virtual links, with the channels on their ways.
use Rattle.std.specs.Prelude.{ℕ, suc, Bool, true, false, not, ◌&&◌, ◌==◌, List, [], ◌∷◌, Option, Some, None, if◌then◌else◌}
use Rattle.vc_plan.specs.declared.plan.Plan.{Plan}
use Rattle.vc_plan.specs.declared.vlink.Vlink.{Vlink}
use Rattle.vc_plan.specs.declared.channel.Channel.{Channel}
use Rattle.vc_plan.specs.declared.channel.Home.{Home}
use Rattle.vc_plan.specs.declared.channel.Home.TheVariants.{Way, Inside}
use Rattle.vc_plan.specs.Accepted.{end_of}
use Rattle.vc_plan.specs.Check.{same_bool}
use Rattle.vc_vcp.specs.declared.end.End.{End as Given}

-- the channel is on the way of virtual link v that leaves end a, or end b
abbrev pub is_on : ℕ → Bool → Home → Bool
is_on v from_a (Way u f) = u == v && same_bool f from_a
is_on v from_a (Inside node) = false

-- the first channel on the way, of these that are numbered from c on
abbrev pub first_on : ℕ → List Channel → ℕ → Bool → Option ℕ
first_on c [] v from_a = None
first_on c (x ∷ xs) v from_a = if is_on v from_a x.home then Some c else first_on (suc c) xs v from_a

-- the channel on the way of virtual link v that leaves end a, or end b
abbrev pub chan_on : Plan → ℕ → Bool → Option ℕ
chan_on p v from_a = first_on 0 p.channels v from_a

-- an end as its node is given it: the channel on the way that leaves it is its output, and that on the way that comes is its input
abbrev pub end_given : (ℕ → Bool → Option ℕ) → ℕ → Vlink → Bool → Given
end_given on v x is_a = record {
  link = (end_of x is_a).link;
  block = (end_of x is_a).block;
  route = (end_of x is_a).route;
  output = on v is_a;
  input = on v (not is_a);
}

-- the end stands in front where it is the node's
abbrev pub with_end : (ℕ → Bool → Option ℕ) → ℕ → ℕ → Vlink → Bool → List Given → List Given
with_end on n v x is_a rest = if (end_of x is_a).node == n then end_given on v x is_a ∷ rest else rest

-- the node's ends of these virtual links, which are numbered from v on, by the channel on each way
abbrev pub ends_among : (ℕ → Bool → Option ℕ) → ℕ → ℕ → List Vlink → List Given
ends_among on n v [] = []
ends_among on n v (x ∷ xs) = with_end on n v x true (with_end on n v x false (ends_among on n (suc v) xs))

-- the ends of node n, in the order of the virtual links, end a before end b
abbrev pub ends_of_node : Plan → ℕ → List Given
ends_of_node p n = ends_among (chan_on p) n 0 p.vlinks
