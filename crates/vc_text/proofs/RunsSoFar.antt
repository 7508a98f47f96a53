-- A run before its first event.
use Rattle.std.proofs.Common.{ℕ, [], arith, refl}
use Rattle.vc_network.specs.Network.{begins}
use Rattle.vc_network.proofs.Main.{headline}
use Rattle.vc_accepted.specs.Begin.{begin_of}
use Rattle.vc_accepted.specs.NetworkOf.{network_of}
use Rattle.vc_accepted.specs.Process.{does}
use Rattle.vc_accepted.proofs.AcceptedNetwork.{accepted}
use Rattle.vc_switch.specs.Waiting.{Wormhole}
use Rattle.vc_placement.proofs.Networks.{invisible}
use Rattle.vc_placement.proofs.OneNodeRuns.{one_node_runs}
use Rattle.vc_core.specs.PossibleEvents.{NetworkState}
use Rattle.vc_plan.specs.Accepted.{IsAccepted}
use Rattle.vc_plan.specs.declared.plan.Plan.{Plan}
use Rattle.vc_threads.specs.Runs.{generator}
use Rattle.vc_text.specs.RunText.{IsRunSoFar}
use Rattle.vc_text.specs.Schedules.{IsInOrder, drawer}
use Rattle.vc_text.specs.declared.schedule.Schedule.{Schedule}
use Rattle.vc_text.specs.declared.schedule.Schedule.TheVariants.{InTurn, Random}

first_order : (p : Plan) (schedule : Schedule) → IsInOrder p schedule [] (begins (network_of p) (begin_of p))
first_order p InTurn = tt
first_order p (Random seed) = (drawer seed, (refl, refl))

-- it is a run so far, of no events
pub none_yet : (p : Plan) (schedule : Schedule) (limit : ℕ) → IsAccepted p → (x : NetworkState) × IsRunSoFar p schedule limit [] x
none_yet p schedule limit acc =
    let x : NetworkState = begins (network_of p) (begin_of p) in
    let found = invisible p Wormhole [] x acc (record { states = λ a. refl; ways = λ w. refl }) in (
      x,
      record {
        few = omega arith;
        runs = record {
          accepted = acc;
          happen = record { states = λ a. refl; ways = λ w. refl };
          headline = (headline (network_of p) Wormhole does (begin_of p) [] x (accepted p acc) (record { states = λ a. refl; ways = λ w. refl })).0;
          linearizes = found.0;
          follows = found.1;
          on_one_node = λ one is one_accepted. one_node_runs p one Wormhole x found.0.atomics acc is one_accepted found.0.linearization;
        };
        order = first_order p schedule;
        words = λ k less. (generator 0 k, refl);
      },
    )
