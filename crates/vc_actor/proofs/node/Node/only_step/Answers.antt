use Rattle.std.proofs.Common.{◌≡◌, ◌∷◌, [], List, arith, refl, subst, sym}
use Rattle.std.proofs.lemmas.List.Elements.{Contains-get_or}
use Rattle.std.specs.List.{Contains}
use Rattle.vc_occam.specs.Runnings.{moves}
use Rattle.vc_occam.specs.declared.moves.Move.{Move}
use Rattle.vc_occam.specs.declared.moves.Move.TheVariants.{Quiet}
use Rattle.vc_actor.proofs.AbleMoves.{half_can}
use Rattle.vc_actor.proofs.node.Node.only_step.Goals as goal

pub returns-clause-finds : goal.returns-clause-finds
returns-clause-finds c = λ plan k is.
    let n = c.args.self.now in
    let made = Quiet c.in_ok-site.site in
    let all : moves n.process ≡ made ∷ [] = c.in_ok-site.ensures in
    let there : Contains (made ∷ []) made = Contains-get_or (made ∷ []) 0 made (omega arith) in
    (made, refl, half_can plan k n made is (subst (λ (ms : List Move). Contains ms made) (sym all) there) tt)

pub returns-clause-may : goal.returns-clause-may
returns-clause-may c =
    let made = Quiet c.in_ok-site.site in
    let there : Contains (made ∷ []) made = Contains-get_or (made ∷ []) 0 made (omega arith) in
    record { listed = subst (λ (ms : List Move). Contains ms made) (sym c.in_ok-site.ensures) there; answers = tt }
