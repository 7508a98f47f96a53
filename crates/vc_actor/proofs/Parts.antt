-- What holds of an actor's part holds of the actor.
use Rattle.std.proofs.Common.{◌≡◌, subst, Result, Ok, Err, OnOk}
use Rattle.vc_actor.specs.ActorView.{Acting}

-- the same, of equal actors before and after
pub alike : (P : Acting → Acting → Type 0) (x a y b : Acting) → x ≡ a → y ≡ b → P x y → P a b
alike P x a y b before after h = subst (P a) after (subst (λ z. P z y) before h)

-- what holds in any case holds of a success
pub on_ok_of : {X E A : Type 0} (r : Result X E) → A → OnOk r A
on_ok_of (Ok x) h = h
on_ok_of (Err e) h = tt
