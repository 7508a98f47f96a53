-- An actor as the code reads it of a list, and the network where it is written again as it was.
use Rattle.std.proofs.Common.{◌≡◌, ℕ, ◌<◌, length, get_or, slice_get, Some, refl, sym, ap, ◌∙◌, subst}
use Rattle.std.proofs.lemmas.Option.{slice_get_read, slice_get_within}
use Rattle.vc_actor.specs.Acts.{MayAct}
use Rattle.vc_actor.specs.ActorView.{Acting}
use Rattle.vc_actor.specs.declared.act.Act.{Act}
use Rattle.vc_core.specs.State.{State, MayActAt}
use Rattle.vc_core.specs.Private.State.{with_actor}
use Rattle.vc_vcp.proofs.ListWrites.{set_back}

pub unchanged : (s : State) (k : ℕ) (a b : Acting) → k < length s.actors → a ≡ get_or s.actors k a → b ≡ a → with_actor s k b ≡ s
unchanged s k a b less read same = ap (λ xs. record s { actors = xs }) (set_back s.actors k a b (slice_get_read s.actors (length s.actors) k a refl less read) same)

pub is_there : (s : State) (k i : ℕ) (a : Act) → MayActAt s k a → i ≡ k → i < length s.actors
is_there s k i a may is = subst (λ z. z < length s.actors) (sym is) (slice_get_within s.actors k may.actor may.here)

pub may_there : (s : State) (k i : ℕ) (x : Acting) (a : Act) → MayActAt s k a → i ≡ k → x ≡ get_or s.actors i x → MayAct x a
may_there s k i x a may is read =
    let here = subst (λ z. slice_get s.actors z ≡ Some x) is (slice_get_read s.actors (length s.actors) i x refl (is_there s k i a may is) read) in
    let both : Some may.actor ≡ Some x = sym may.here ∙ here in
    let same : may.actor ≡ x = cc in
    subst (λ z. MayAct z a) same may.may
