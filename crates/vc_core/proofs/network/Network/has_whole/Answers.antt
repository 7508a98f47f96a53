use Rattle.std.proofs.Common.{◌<◌, refl, sym, subst}
use Rattle.vc_switch.specs.SwitchView.{seen}
use Rattle.vc_switch.specs.Switch.{new_switch}
use Rattle.vc_core.specs.State.{state_of}
use Rattle.vc_core.proofs.PortPlaces.{switch_shown, no_switch_shown}
use Rattle.vc_core.proofs.Ways.{within, none_within}
use Rattle.vc_core.proofs.network.Network.has_whole.Goals as goal

pub returns-in-Some-mark : goal.returns-in-Some-mark
returns-in-Some-mark c = λ p c' way is owned ends less there.
    let s = state_of c.args.self.now in
    let x = c.in-Some.switch.now in
    let real = subst (λ k. way < k) is.ways less in
    within p s c' way c.args.number c.args.link (seen x) c.passed.result.now c.in-Some-mark.mark c.is_its_inside.result owned real there (switch_shown p s c.args.number x is c.in-Some.ensures) (sym c.passed.ensures) (sym c.in-Some-mark.ensures)
    (λ o. c.is_its_inside.ensures p c' way c.args.link is ends there o)

pub returns-in-None : goal.returns-in-None
returns-in-None c = λ p c' way is owned ends less there.
    let s = state_of c.args.self.now in
    let x = c.in-Some.switch.now in
    none_within p s c' way c.args.number c.args.link (seen x) there (switch_shown p s c.args.number x is c.in-Some.ensures) (sym c.in-None.ensures)

pub returns-in_default : goal.returns-in_default
returns-in_default c = λ p c' way is owned ends less there.
    let s = state_of c.args.self.now in
    none_within p s c' way c.args.number c.args.link new_switch there (no_switch_shown p s c.args.number is c.in_default.ensures) refl
