use Rattle.std.proofs.Common.{◌%◌, ◌==◌, refl, ap}
use Rattle.std.proofs.lemmas.Bool.{false≢true}
use Rattle.vc_core.specs.State.{state_of}
use Rattle.vc_core.specs.declared.place.Place.TheVariants as name
use Rattle.vc_core.proofs.PortPlaces.{few_wires}
use Rattle.vc_core.proofs.network.Network.place_along.Goals as goal

pub returns-in_default : goal.returns-in_default
returns-in_default c = λ p c' is owned ends less there has. c.in_default.ensures (few_wires p (state_of c.args.self.now) c.args.way is less)

pub returns-then-carries : goal.returns-then-carries
returns-then-carries c = λ p c' is owned ends less there.
    ((c.if-carries.ensures p c' is owned ends less there).0 refl, ap (λ n. name.Wire n (c.args.way % 2 == 0)) c.in-Ok.ensures.1)

pub returns-else-carries : goal.returns-else-carries
returns-else-carries c = λ p c' is owned ends less there has. false≢true ((c.if-carries.ensures p c' is owned ends less there).1 has)
