-- The end from which a worker takes.
use Rattle.std.proofs.Common.{◌≡◌, ℕ, ◌<◌, ◌≤◌, List, [], ◌∷◌, ◌++◌, length, get_or, Some, refl, ap, sym, subst, ◌∙◌, append_assoc}
use Rattle.std.specs.List.{AllZip}
use Rattle.std.proofs.Math.ListN.{set}
use Rattle.rtrb.specs.Ring.{received, known_items, SameConsumer}
use Rattle.vc_network.specs.Actors.Label.{Takes}
use Rattle.vc_network.specs.LocalRun.{Turn}
use Rattle.vc_tokens.specs.declared.token.Token.{Token}
use Rattle.vc_actor.specs.declared.act.Act.{Act}
use Rattle.vc_actor.specs.ActorView.{Acting}
use Rattle.vc_threads.specs.declared.link.Stamped.{Stamped}
use Rattle.vc_threads.specs.Stamps.{stamped}
use Rattle.vc_threads.specs.Wires.{Distinct, Receives, in_links}
use Rattle.vc_threads.specs.Works.{In, CanTake, Passed, seen_in}
use Rattle.vc_threads.specs.Private.Least.{TakesLeast}
use Rattle.vc_threads.proofs.Zips.{zip_one}
use Rattle.vc_threads.proofs.Goings.{any_default, receives_one}

zip_and : {A B : Type 0} (R Q : A → B → Type 0) (xs : List A) (ys : List B) → AllZip R xs ys → AllZip Q xs ys → AllZip (λ x y. R x y × Q x y) xs ys
zip_and R Q [] [] r q = tt
zip_and R Q [] (y ∷ ys) r q = absurd r
zip_and R Q (x ∷ xs) [] r q = absurd r
zip_and R Q (x ∷ xs) (y ∷ ys) r q = ((r.0, q.0), zip_and R Q xs ys r.1 q.1)

-- one place has received the item that was known there first, and no other ring was seen
pub passed_one : (ins : List In) (k : ℕ) (r y : In) (at : ℕ) (act : Act) (x : Stamped)
    → Distinct (in_links ins) → k < length ins → r ≡ get_or ins k r → y.0 ≡ r.0 → SameConsumer r.1 y.1
    → received y.1 ≡ received r.1 ++ x ∷ [] → known_items r.1 ≡ x ∷ known_items y.1
    → AllZip (Passed (record { at = at; it = Takes act r.0 (stamped x) })) ins (set ins k y)
passed_one ins k r y at act x dist within is link ring got known =
    let t : Turn Act Token = record { at = at; it = Takes act r.0 (stamped x) } in
    let seen : seen_in y ≡ seen_in r =
    ap (λ w. w ++ known_items y.1) got ∙ (append_assoc (received r.1) (x ∷ []) (known_items y.1) ∙ ap (λ w. received r.1 ++ w) (sym known)) in
    zip_and (Receives (t ∷ [])) (λ a b. seen_in b ≡ seen_in a) ins (set ins k y)
    (receives_one ins k r y at act x dist within is link ring got)
    (zip_one (λ a b. seen_in b ≡ seen_in a) ins k y within (λ d. seen ∙ ap seen_in (is ∙ any_default ins k r d within)) (λ j d l ne. refl))

-- the place that was found has the least link
pub from_least : (x : Acting) (ins : List In) (k : ℕ) (r : In) → k < length ins → r ≡ get_or ins k r → TakesLeast x ins (Some k)
    → (i : In) → (j : ℕ) × (j < length ins) × (get_or ins j i ≡ i) → CanTake x i → r.0 ≤ i.0
from_least x ins k r within is least i there can =
    let found = least there.0 i there.1 (subst (CanTake x) (sym there.2) can) in
    let same : k ≡ found.0 = (let e = found.1 in cc) in
    let here : r ≡ get_or ins found.0 i = is ∙ (any_default ins k r i within ∙ ap (λ n. get_or ins n i) same) in
    subst (λ (v : In). v.0 ≤ i.0) (sym here) (subst (λ (v : In). (get_or ins found.0 i).0 ≤ v.0) there.2 found.2)
