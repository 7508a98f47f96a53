-- Where the headers of a body lead it: hop by hop, whatever path it takes.
use Rattle.std.proofs.Common.{◌≡◌, ◌↔◌, ℕ, suc, Bool, IsTrue, List, [], ◌∷◌, ◌++◌, Option, refl, ap, ◌∙◌, subst}
use Rattle.vc_packets.specs.declared.mark.Mark.{Mark}
use Rattle.vc_packets.specs.Headers.{spelled}
use Rattle.vc_switch.specs.Forward.{IsDrawn, behind}
use Rattle.vc_machine.specs.Machine.{BodyLeaves}
use Rattle.vc_machine.specs.Paths.{AtNode, AtSwitch, End, Net, Delivers, GoesOn, IsWellAt, IsAccepted}
use Rattle.vc_machine.proofs.Cover.{at_node, follows, spelled_behind}
use Rattle.vc_core.specs.Private.Targets.{IsTarget, IsTargetAt, ComesTo, target_at}
use Rattle.vc_core.specs.declared.channels.Ends.{Ends}

-- at a node
pub sought_there : (net : Net) (hops w : ℕ) (body load : List ℕ) (e : End) (n i : ℕ) (ends : Ends) (m : Mark) (t : Bool) → net.far w ≡ AtNode n i → ComesTo net hops w body e load →
    IsTrue t ↔ IsTarget (target_at ends n) (record { body = body; mark = m }) → IsTrue t ↔ IsTargetAt ends e load m
sought_there net hops w body load e n i ends m t far c told =
    let at = at_node net hops w c.stack e n i far c.delivers in
    let is : body ≡ spelled (e.block ∷ []) ++ load = c.is ∙ ap (λ z. spelled z ++ load) at.1 in
    subst (λ b. IsTrue t ↔ IsTarget (target_at ends e.node) (record { body = b; mark = m })) is (subst (λ k. IsTrue t ↔ IsTarget (target_at ends k) (record { body = body; mark = m })) at.0 told)

-- at a switch, behind what is put in front
pub goes_on : (net : Net) (hops w : ℕ) (s : List ℕ) (e : End) (k i : ℕ) (v : Option ℕ) → net.far w ≡ AtSwitch k i → IsDrawn ((net.switch k).random i) v → Delivers net (suc hops) w s e →
    GoesOn net (λ w2 s2. Delivers net hops w2 s2 e) k (behind v s)
goes_on net hops w s e k i v far draw d = ((subst (λ q. IsWellAt net (λ w2 s2. Delivers net hops w2 s2 e) q s e) far d) v draw).1

-- no hop is left
pub no_hop : (net : Net) (w : ℕ) (s : List ℕ) (e : End) (k i : ℕ) → IsAccepted net → net.far w ≡ AtSwitch k i → Delivers net 0 w s e → ⊥
no_hop net w s e k i acc far d =
    let range = acc.ranges k i in
    let g = ((subst (λ q. IsWellAt net (λ w2 s2. ⊥) q s e) far d) range.0 range.1).1 in
    g.1 g.0.0 g.0.1 g.0.2

-- it leaves, whatever way it leaves by, for the same end
pub leaves_for : (net : Net) (hops k : ℕ) (s load b : List ℕ) (e : End) (out : ℕ) (left : List ℕ) → GoesOn net (λ w2 s2. Delivers net hops w2 s2 e) k s → b ≡ spelled s ++ load → BodyLeaves net k b out left →
    ComesTo net hops out left e load
leaves_for net hops k s load b e out left g is leaves =
    let f = follows net k s load b g.0.0 g.0.1 out left g.0.2 is leaves in
    record { stack = f.after; is = f.body; delivers = g.1 out f.after f.leaves }

-- and there is a way by which it may leave
pub some_way : (net : Net) (hops k : ℕ) (s load b : List ℕ) (e : End) → GoesOn net (λ w2 s2. Delivers net hops w2 s2 e) k s → b ≡ spelled s ++ load → ((out : ℕ) (left : List ℕ) → BodyLeaves net k b out left → ⊥) → ⊥
some_way net hops k s load b e g is none =
    none g.0.0 (spelled g.0.1 ++ load) (record { stack = s; after = g.0.1; rest = load; before_is = is; leaves = g.0.2; after_is = refl })

-- one hop, behind the header that is put in front
pub hop_for : (net : Net) (hops w : ℕ) (body load headed : List ℕ) (e : End) (k i : ℕ) (v : Option ℕ) (out : ℕ) (left : List ℕ) → net.far w ≡ AtSwitch k i → IsDrawn ((net.switch k).random i) v →
    headed ≡ spelled (behind v []) ++ body → ComesTo net (suc hops) w body e load → BodyLeaves net k headed out left → ComesTo net hops out left e load
hop_for net hops w body load headed e k i v out left far draw is c leaves =
    leaves_for net hops k (behind v c.stack) load headed e out left (goes_on net hops w c.stack e k i v far draw c.delivers) (is ∙ spelled_behind v c.stack load body c.is) leaves

pub some_hop : (net : Net) (hops w : ℕ) (body load headed : List ℕ) (e : End) (k i : ℕ) (v : Option ℕ) → net.far w ≡ AtSwitch k i → IsDrawn ((net.switch k).random i) v →
    headed ≡ spelled (behind v []) ++ body → ComesTo net (suc hops) w body e load → ((out : ℕ) (left : List ℕ) → BodyLeaves net k headed out left → ⊥) → ⊥
some_hop net hops w body load headed e k i v far draw is c none =
    some_way net hops k (behind v c.stack) load headed e (goes_on net hops w c.stack e k i v far draw c.delivers) (is ∙ spelled_behind v c.stack load body c.is) none
