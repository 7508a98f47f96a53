-- A run of a network that never stops does not end quiet.
use Rattle.std.proofs.Common.{◌≡◌, ◌≢◌, ℕ, List, length, map, refl, sym, ap, subst}
use Rattle.vc_accepted.specs.NetworkOf.{network_of}
use Rattle.vc_accepted.specs.Process.{does}
use Rattle.vc_actor.specs.ActorView.{act_of, move_of}
use Rattle.vc_actor.specs.declared.act.Act.{Act}
use Rattle.vc_actor.specs.declared.act.Act.TheVariants as act
use Rattle.vc_core.specs.PossibleEvents.{NetworkState}
use Rattle.vc_core.specs.State.{event_of}
use Rattle.vc_core.specs.declared.close.Close.{Close}
use Rattle.vc_core.specs.declared.close.Close.TheVariants.{Quiet}
use Rattle.vc_core.specs.declared.event.Event.{Event}
use Rattle.vc_free.specs.NeverStuck.{NeverStops}
use Rattle.vc_network.specs.Actors.{ActBy}
use Rattle.vc_network.specs.EnabledEvents.{IsEnabled}
use Rattle.vc_network.specs.Network as net
use Rattle.vc_network.specs.Processes as made
use Rattle.vc_occam.specs.declared.moves.Move.{Move}
use Rattle.vc_occam.specs.declared.moves.Move.TheVariants as move
use Rattle.vc_plan.specs.declared.plan.Plan.{Plan}
use Rattle.vc_switch.specs.Waiting.{Wormhole}
use Rattle.vc_text.specs.Close.{Closes}
use Rattle.vc_text.specs.RunText.{IsRunWithin}
use Rattle.vc_text.specs.declared.schedule.Schedule.TheVariants.{InTurn}

-- each act of the definitions is one of the code
code_move : (m : made.Move) → (k : Move) × (move_of k ≡ m)
code_move (made.Offer i c) = (move.Offer i c, refl)
code_move (made.Want i c) = (move.Want i c, refl)
code_move (made.Choose i k c) = (move.Choose i k c, refl)
code_move (made.Stopch i c) = (move.Stopch i c, refl)
code_move (made.Inner i j k c) = (move.Inner i j k c, refl)
code_move (made.Quiet i) = (move.Quiet i, refl)

code_act : (a : net.Act) → (k : Act) × (act_of k ≡ a)
code_act (net.Proc m) = let (k, is) = code_move m in (act.Proc k, ap net.Proc is)
code_act (net.Take link word) = (act.Take link word, refl)
code_act (net.Put link) = (act.Put link, refl)
code_act (net.Route input output) = (act.Route input output, refl)
code_act (net.Fct link) = (act.Fct link, refl)
code_act (net.Pass link) = (act.Pass link, refl)

-- a run of a network that never stops is not quiet
pub never_quiet : (p : Plan) (limit : ℕ) (events : List Event) (x : NetworkState) (close : Close) → NeverStops p → IsRunWithin p InTurn limit events x close → close ≢ Quiet
never_quiet p limit events x close never run is =
    let quiet = subst (Closes p x (length events) limit) is run.closes in
    quiet.1 (never Wormhole (map event_of events) x run.so_far.runs.happen (λ e can.
    let (a, same) = code_act e.act in
    let here : ActBy net.Act = record { actor = e.actor; act = act_of a } in
    let is : here ≡ e = ap (λ z. record { actor = e.actor; act = z }) same in
    quiet.0 (record { actor = e.actor; act = a }) (subst (IsEnabled (network_of p) Wormhole does x) (sym is) can)))
