-- Each take of a worker is from the least link from which it can take.
use Rattle.std.proofs.Common.{◌≡◌, ℕ, List, [], ◌∷◌, ◌++◌, refl, ap, sym, ◌∙◌, arith}
use Rattle.std.specs.List.{AllZip}
use Rattle.std.proofs.lemmas.List.{append-nil}
use Rattle.rtrb.specs.Ring.{received}
use Rattle.vc_network.specs.Actors.{Label}
use Rattle.vc_network.specs.Actors.Label.{Own, Takes, Puts}
use Rattle.vc_network.specs.LocalRun as local
use Rattle.vc_network.specs.LocalRun.{Turn, all_taken}
use Rattle.vc_network.specs.Plan.{Plan}
use Rattle.vc_tokens.specs.declared.token.Token.{Token}
use Rattle.vc_actor.specs.Acts.{HasLink}
use Rattle.vc_actor.specs.OfPlan.{IsActorOf}
use Rattle.vc_actor.specs.declared.act.Act.{Act}
use Rattle.vc_actor.specs.ActorView.{Acting, OfNode, OfSwitch}
use Rattle.vc_threads.specs.Stamps.{all_stamped}
use Rattle.vc_threads.specs.Wires.{InLooked}
use Rattle.vc_threads.specs.Works.{In, IsFromLeast, Passed, TakeFromLeast}
use Rattle.vc_threads.proofs.Zips.{zip_same, zip_then}
use Rattle.vc_threads.proofs.Looks.{in_looked_same, in_looked_then}

-- after a look
pub least_looked : (x : Acting) (a b : List In) (ts : List (Turn Act Token)) (c : List In) → AllZip InLooked a b → TakeFromLeast x b ts c → TakeFromLeast x a ts c
least_looked x a b [] c l p = zip_then InLooked InLooked InLooked in_looked_then a b c l p
least_looked x a b (t ∷ ts) c l p = (p.0, p.1, zip_then InLooked InLooked InLooked in_looked_then a b p.0 l p.2, p.3, p.4, p.5)

-- before a look
pub least_end : (x : Acting) (a : List In) (ts : List (Turn Act Token)) (b c : List In) → TakeFromLeast x a ts b → AllZip InLooked b c → TakeFromLeast x a ts c
least_end x a [] b c p l = zip_then InLooked InLooked InLooked in_looked_then a b c p l
least_end x a (t ∷ ts) b c p l = (p.0, p.1, p.2, p.3, p.4, least_end x p.1 ts b c p.5 l)

-- some steps after others
pub least_then : (x : Acting) (a : List In) (ts us : List (Turn Act Token)) (b c : List In) → TakeFromLeast x a ts b → TakeFromLeast x b us c → TakeFromLeast x a (ts ++ us) c
least_then x a [] us b c p q = least_looked x a b us c p q
least_then x a (t ∷ ts) us b c p q = (p.0, p.1, p.2, p.3, p.4, least_then x p.1 ts us b c p.5 q)

-- one step
pub least_one : (x : Acting) (a : List In) (t : Turn Act Token) (b : List In) → IsFromLeast x a t.it → AllZip (Passed t) a b → TakeFromLeast x a (t ∷ []) b
least_one x a t b least z = (a, b, zip_same InLooked in_looked_same a, least, z, zip_same InLooked in_looked_same b)

-- one step that takes nothing
pub least_quiet : (x : Acting) (a : List In) (t : Turn Act Token) → ((l : ℕ) → all_taken l (t ∷ []) ≡ []) → IsFromLeast x a t.it → TakeFromLeast x a (t ∷ []) a
least_quiet x a t q least = least_one x a t a least (zip_same (Passed t) (λ i.
    let l = in_looked_same i in
    ((l.0, l.1.0, sym (append-nil (all_stamped (received i.1))) ∙ ap (λ w. all_stamped (received i.1) ++ w) (sym (q i.0))), refl)) a)

-- an actor of the same links
from_least_of : (x y : Acting) → ((link : ℕ) → HasLink y link → HasLink x link) → (seen : List In) (l : Label Act (local.Stamped Token)) → IsFromLeast x seen l → IsFromLeast y seen l
from_least_of x y links seen (Takes act link s) h = λ i c can. h i c (links i.0 can.0, can.1)
from_least_of x y links seen (Own act) h = tt
from_least_of x y links seen (Puts act link s) h = tt

pub least_of : (x y : Acting) → ((link : ℕ) → HasLink y link → HasLink x link) → (a : List In) (ts : List (Turn Act Token)) (b : List In) → TakeFromLeast x a ts b → TakeFromLeast y a ts b
least_of x y links a [] b p = p
least_of x y links a (t ∷ ts) b p = (p.0, p.1, p.2, from_least_of x y links p.0 t.it p.3, p.4, least_of x y links p.1 ts b p.5)

-- both are one actor of the plan
pub same_actor_links : (plan : Plan) (k : ℕ) (x y : Acting) → IsActorOf plan k x → IsActorOf plan k y → (link : ℕ) → HasLink y link → HasLink x link
same_actor_links plan k (OfNode n) (OfNode m) p q link h = h
same_actor_links plan k (OfSwitch s) (OfSwitch t) p q link h = h
same_actor_links plan k (OfNode n) (OfSwitch t) p q link h = let less = p.0 in let is = q.1 in absurd (omega (arith, less, is))
same_actor_links plan k (OfSwitch s) (OfNode m) p q link h = let less = q.0 in let is = p.1 in absurd (omega (arith, less, is))
