-- How the actors of an accepted plan begin.
use Rattle.std.specs.Prelude.{◌≡◌, ℕ, Bool, true, false, ◌==◌, List, [], ◌∷◌, map, get_or, slice_get, slice_set, Option, Some, None, if◌then◌else◌}
use Rattle.vc_plan.specs.declared.channel.Home.{Home}
use Rattle.vc_plan.specs.declared.channel.Home.TheVariants.{Way, Inside}
use Rattle.vc_plan.specs.declared.plan.Plan.{Plan}
use Rattle.vc_plan.specs.declared.vlink.End.{End}
use Rattle.vc_vcp.specs.declared.end.End.{End as Given}
use Rattle.vc_accepted.specs.NodeEnds.{chan_on}
use Rattle.vc_accepted.specs.NetworkOf.{switch_of}
use Rattle.vc_plan.specs.declared.switch_plan.SwitchPlan.{SwitchPlan}
use Rattle.vc_plan.specs.declared.switch_plan.RandomInput.{RandomInput}
use Rattle.vc_switch.specs.declared.switch_plan.RandomInput.{RandomInput as RandomGiven}
use Rattle.vc_switch.specs.SwitchView.{seen}
use Rattle.vc_switch.specs.State.{State as SwitchState, plan_of, limit_of}
use Rattle.vc_switch.specs.Switch.{new_switch}
use Rattle.vc_actor.specs.declared.plan_actors.Ways.{Ways}

-- the random ranges, as a switch is given them
abbrev pub range_of : RandomInput → RandomGiven
range_of r = record { link = r.link; lower = r.lower; limit = r.limit }

abbrev pub ranges_given : List RandomInput → List RandomGiven
ranges_given rs = map range_of rs

-- the code's switch is given what the plan says of it, and begins
pub record IsBuilt (given : SwitchPlan) (most : ℕ) (s : SwitchState) : Type 0 where
  pub empty : seen s ≡ new_switch
  pub plan : plan_of s ≡ switch_of given
  pub limit : limit_of s.inputs ≡ most

-- the channels on the two ways of a virtual link: that on the way that leaves end a, or end b
abbrev pub on_way : Option Ways → Bool → Option ℕ
on_way None from_a = None
on_way (Some w) true = w.from_a
on_way (Some w) false = w.from_b

abbrev pub on_link : List Ways → ℕ → Bool → Option ℕ
on_link ways v from_a = on_way (slice_get ways v) from_a

-- the table of ways tells the channel on each way of the plan
pub record AreWaysOf (p : Plan) (ways : List Ways) : Type 0 where
  pub tells : (v : ℕ) (from_a : Bool) → on_link ways v from_a ≡ chan_on p v from_a

abbrev pub empty_ways : Ways
empty_ways = record { from_a = None; from_b = None }

-- channel c is on the way
abbrev pub carrying : Ways → Bool → ℕ → Ways
carrying w true c = record w { from_a = Some c }
carrying w false c = record w { from_b = Some c }

abbrev pub carried : List Ways → Home → ℕ → List Ways
carried ways (Way v from_a) c = slice_set ways v (carrying (get_or ways v empty_ways) from_a c)
carried ways (Inside n) c = ways

-- an end as its node is given it
abbrev pub given : End → Option ℕ → Option ℕ → Given
given e output input = record { link = e.link; block = e.block; route = e.route; output = output; input = input }

-- the end, where it is node n's
abbrev pub given_to : ℕ → End → Option ℕ → Option ℕ → List Given
given_to n e output input = if e.node == n then given e output input ∷ [] else []
