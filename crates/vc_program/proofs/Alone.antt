-- A step that is one by itself is never taken away.
use Rattle.std.proofs.Common.{◌≡◌, inl, inr, refl, ap}
use Rattle.std.proofs.lemmas.Bool.{cases_eq}
use Rattle.vc_program.proofs.Commuting.{commute}
use Rattle.vc_program.proofs.OneKind.{one_kind}
use Rattle.vc_program.specs.SiteSteps.{SameKind, quiet, offer, finish, want, choose, message, stop, IsAlone, NothingTakesItAway}
use Rattle.vc_occam.proofs.Determinate.{step_one}
use Rattle.vc_occam.proofs.Preservation.{lawful}
use Rattle.vc_occam.specs.SiteActions.{SiteAction}

one_action : {d f : SiteAction} → SameKind d f → IsAlone d → d ≡ f
one_action quiet a = refl
one_action offer a = refl
one_action finish a = refl
one_action stop a = refl
one_action want a = absurd a
one_action choose a = absurd a
one_action message a = absurd a

pub stays : NothingTakesItAway
stays s t u i j d f ks ls law own alone st st2 = elim (cases_eq i j) [
  | inl here ↦ (let same = one_action (one_kind st st2 here own) alone in
      let n = step_one st st2 here same own in
      inl (record { site = here; action = same; comms = ap (λ z. z.0) n; state = λ k. record { rest = (n k).1; store = (n k).2 } }))
  | inr other ↦ inr (commute s t u i j d f ks ls (lawful s.rest law) other st st2)
]
