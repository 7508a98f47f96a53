-- Where a free placement of a program that never gets stuck is at rest, all its processes have ended: else they would be stuck.
use Rattle.std.proofs.Common.{◌≡◌, ◌≢◌, ◌↔◌, ◌⊎◌, ℕ, ◌<◌, inl, inr, refl, sym, ap₂, subst, length, arith}
use Rattle.vc_accepted.specs.Begin.{begin_of}
use Rattle.vc_accepted.specs.NetworkOf.{network_of}
use Rattle.vc_accepted.specs.OneList.{by}
use Rattle.vc_free.proofs.Quiet.{quiet_networks}
use Rattle.vc_free.proofs.Schedules.{is_quiet, lists_are_schedules, never_by_lists}
use Rattle.vc_free.specs.NeverStuck.{ComesTo, IsScheduled, NeverStuckAnywhere, FreePlacementsNeverStop, QuietNetworksAreOutcomes}
use Rattle.vc_free.specs.Placements.{SameProgram}
use Rattle.vc_free.specs.Rest.{NothingGoesOn, StepsAtOnce}
use Rattle.vc_network.specs.Views.{view}
use Rattle.vc_machine.specs.Rendezvous.{View}
use Rattle.vc_occam.specs.Opening.{opening}
use Rattle.vc_occam.specs.Remains.{Rest, Done, Stopped, Fresh, Finishing, Getting, Then, Turns, Beside}
use Rattle.vc_occam.specs.States.{State}
use Rattle.vc_placement.specs.Linearization.{all_comms, completed}
use Rattle.vc_plan.specs.declared.plan.Plan.{Plan}

-- a process has ended or not
is_done : (r : Rest) → (r ≡ Done) ⊎ (r ≢ Done)
is_done Done = inl refl
is_done (Stopped i) = inr (λ h. cc)
is_done (Fresh p) = inr (λ h. cc)
is_done (Finishing i c) = inr (λ h. cc)
is_done (Getting i c v) = inr (λ h. cc)
is_done (Then r ps) = inr (λ h. cc)
is_done (Turns r v b n p) = inr (λ h. cc)
is_done (Beside mine r q) = inr (λ h. cc)

-- the processes of two plans of one program begin alike
begins_alike : (p q : Plan) (n : ℕ) → SameProgram p q → n < length p.nodes → (begin_of p n).state ≡ (begin_of q n).state
begins_alike p q n same less = ap₂ (λ k r. opening k r) (same.kinds n less) (same.process n less)

pub never_stuck_anywhere : NeverStuckAnywhere
never_stuck_anywhere p q waiting es s never same acc ranks happen rests n less =
    let quiet = quiet_networks q waiting es s acc ranks happen rests in
    let hs = quiet.0 in
    let lin = quiet.1 in
    let still = quiet.2 in
    let there = still.begun n less in
    let nodes = same.nodes in
    let channels = same.channels in
    elim (is_done (still.stands n).rest) [
      | inl done ↦ (there.0, there.1, (still.ended n less there.0 there.1).0 done)
      | inr goes_on ↦ absurd (never hs (record {
        stands = still.stands;
        shown = λ c. completed (view (network_of q) s c);
        comes = record {
          made = λ m l. subst (λ z. StepsAtOnce z (by m (all_comms hs)) (still.stands m)) (sym (begins_alike p q m same.program l)) (still.made m (omega arith));
          by_no_other = λ m past. lin.by_no_other m (omega arith);
          faithful = lin.faithful;
          on_channel = λ c l. lin.on_channel c (omega arith);
        };
        rest = subst (λ k. NothingGoesOn k still.stands (λ c. (view (network_of q) s c).stopped)) (sym nodes) still.rest;
        waits = (n, omega arith, goes_on);
      }))
    ]

pub free_placements_never_stop : FreePlacementsNeverStop
free_placements_never_stop p q acc never same accepted ranks waiting es s happen rests =
    never_stuck_anywhere p q waiting es s (never_by_lists p acc never) same accepted ranks happen rests

pub quiet_networks_are_outcomes : QuietNetworksAreOutcomes
quiet_networks_are_outcomes p waiting es s acc ranks happen rests =
    let quiet = quiet_networks p waiting es s acc ranks happen rests in
    let hs = quiet.0 in
    let lin = quiet.1 in
    let still = quiet.2 in
    let shown : ℕ → View = λ c. completed (view (network_of p) s c) in
    let comes : ComesTo p hs still.stands shown = record { made = still.made; by_no_other = lin.by_no_other; faithful = lin.faithful; on_channel = lin.on_channel } in
    let r = lists_are_schedules p hs still.stands shown acc comes in
    record {
      moves = r.moves;
      state = r.state;
      reaches = r.reaches;
      quiet = is_quiet p acc still.stands shown r still.rest;
      passed = r.passed;
      stopped = r.stopped;
      ended = λ n few a e. subst (λ (z : State). (z.rest ≡ Done) ↔ (a.process.state.rest ≡ Done)) (sym (r.parts n few)) (still.ended n few a e);
    }
