-- What may be accepted passes each test of the checker.
use Rattle.std.proofs.Common.{◌≡◌, ℕ, zero, suc, ◌<◌, ◌+◌, Bool, true, false, ◌||◌, ◌==◌, List, [], ◌∷◌, ◌++◌, Option, Some, None, refl, sym, ap, ap₂, ◌∙◌, subst, arith, zero-add, if◌then◌else◌}
use Rattle.std.proofs.lemmas.Bool.{eqb-true}
use Rattle.std.specs.Prelude.{slice_get, IsSome, is_some}
use Rattle.std.specs.List.{list_any}
use Rattle.std.specs.Option.{option_or}
use Rattle.vc_process.specs.declared.channel_use.ChannelUse.{ChannelUse}
use Rattle.vc_plan.specs.declared.plan.Plan.{Plan}
use Rattle.vc_plan.specs.declared.port.Port.{Port}
use Rattle.vc_plan.specs.declared.port.Wire.{Wire}
use Rattle.vc_plan.specs.declared.vlink.Vlink.{Vlink}
use Rattle.vc_plan.specs.declared.channel.Channel.{Channel}
use Rattle.vc_plan.specs.declared.channel.Home.{Home}
use Rattle.vc_plan.specs.declared.channel.Home.TheVariants.{Way, Inside}
use Rattle.vc_plan.specs.declared.node_plan.NodePlan.{NodePlan}
use Rattle.vc_plan.specs.Accepted.{IsAccepted, port_of, end_of, uses_of}
use Rattle.vc_plan.specs.Private.Check.{PassesUse}
use Rattle.vc_plan.specs.Check.{repeated, ports, port_twice, unwired_port, port_missing, block_of, same_block, blocks, block_twice, same_bool, same_way, way_twice_from, way_twice, misused_from, misused, wrong_use, use_ok, channel_fault}
use Rattle.vc_plan.specs.Wires.{across, same_port, sending_port}
use Rattle.vc_plan.proofs.Acceptance.{homes, neither, none-else, place}
use Rattle.vc_plan.proofs.Frontier.{port-same}
use Rattle.vc_plan.proofs.KeptLimits.{limits_of}
use Rattle.vc_plan.proofs.Limits.{both}
use Rattle.vc_plan.proofs.Uses.{right_use}

any-more : {X : Type 0} (test : X → Bool) (xs : List X) (x : X) → list_any test xs ≡ false → test x ≡ false → list_any test (xs ++ x ∷ []) ≡ false
any-more test [] x h t = ap (λ b. b || false) t
any-more test (y ∷ ys) x h t =
    let n = neither (test y) (list_any test ys) h in
    ap (λ b. b || list_any test (ys ++ x ∷ [])) n.0 ∙ any-more test ys x n.1 t

-- where nothing stood before and no two are the same, nothing is repeated
unrepeated : {X : Type 0} (same : X → X → Bool) (seen xs : List X) → ((j : ℕ) (y : X) → slice_get xs j ≡ Some y → list_any (same y) seen ≡ false) →
    ((i j : ℕ) (x y : X) → i < j → slice_get xs i ≡ Some x → slice_get xs j ≡ Some y → same y x ≡ false) → repeated same seen xs ≡ None
unrepeated same seen [] new differ = refl
unrepeated same seen (x ∷ xs) new differ =
    ap (λ b. if b then Some x else repeated same (seen ++ x ∷ []) xs) (new 0 x refl)
    ∙ unrepeated same (seen ++ x ∷ []) xs
    (λ j y e. any-more (same y) seen x (new (suc j) y e) (differ 0 (suc j) x y (omega arith) refl e))
    (λ i j y z l e f. differ (suc i) (suc j) y z (omega (arith, l)) e f)

not-true : (b : Bool) → (b ≡ true → ⊥) → b ≡ false
not-true true h = absurd (h refl)
not-true false h = refl

-- one port of one wire is at each place of the ports
record IsPortAt (ws : List Wire) (k : ℕ) (x : Port) : Type 0 where
  at : ℕ
  side : Bool
  wire : Wire
  there : slice_get ws at ≡ Some wire
  is : port_of wire side ≡ x
  placed : k ≡ place at side

port-from : (ws : List Wire) (k : ℕ) (x : Port) → slice_get (ports ws) k ≡ Some x → IsPortAt ws k x
port-from [] k x e = absurd cc
port-from (w ∷ ws) zero x e = record { at = 0; side = true; wire = w; there = refl; is = cc; placed = refl }
port-from (w ∷ ws) (suc zero) x e = record { at = 0; side = false; wire = w; there = refl; is = cc; placed = refl }
port-from (w ∷ ws) (suc (suc k)) x e =
    let r = port-from ws k x e in
    record { at = suc r.at; side = r.side; wire = r.wire; there = r.there; is = r.is; placed = ap (λ n. suc (suc n)) r.placed }

ports-once : (p : Plan) → IsAccepted p → port_twice p.wires ≡ None
ports-once p acc = unrepeated same_port [] (ports p.wires) (λ j y e. refl) (λ i j x y l e f. not-true (same_port y x) (λ h. one i j x y l (port-from p.wires i x e) (port-from p.wires j y f) h))
  where
    one : (i j : ℕ) (x y : Port) → i < j → IsPortAt p.wires i x → IsPortAt p.wires j y → same_port y x ≡ true → ⊥
    one i j x y l a b h =
        let same = acc.one_port a.at b.at a.wire b.wire a.side b.side a.there b.there (a.is ∙ sym (port-same y x h) ∙ sym b.is) in
        let e : i ≡ j = a.placed ∙ ap₂ place same.0 same.1 ∙ sym b.placed in
        omega (arith, l, e)

-- the same for blocks
record IsBlockAt (vs : List Vlink) (k : ℕ) (x : ℕ × ℕ) : Type 0 where
  at : ℕ
  side : Bool
  vlink : Vlink
  there : slice_get vs at ≡ Some vlink
  is : block_of (end_of vlink side) ≡ x
  placed : k ≡ place at side

block-from : (vs : List Vlink) (k : ℕ) (x : ℕ × ℕ) → slice_get (blocks vs) k ≡ Some x → IsBlockAt vs k x
block-from [] k x e = absurd cc
block-from (v ∷ vs) zero x e = record { at = 0; side = true; vlink = v; there = refl; is = cc; placed = refl }
block-from (v ∷ vs) (suc zero) x e = record { at = 0; side = false; vlink = v; there = refl; is = cc; placed = refl }
block-from (v ∷ vs) (suc (suc k)) x e =
    let r = block-from vs k x e in
    record { at = suc r.at; side = r.side; vlink = r.vlink; there = r.there; is = r.is; placed = ap (λ n. suc (suc n)) r.placed }

block-same : (x y : ℕ × ℕ) → same_block x y ≡ true → (x.0 ≡ y.0) × (x.1 ≡ y.1)
block-same x y h = let t = both (x.0 == y.0) (x.1 == y.1) h in (eqb-true x.0 y.0 t.0, eqb-true x.1 y.1 t.1)

blocks-once : (p : Plan) → IsAccepted p → block_twice p.vlinks ≡ None
blocks-once p acc = unrepeated same_block [] (blocks p.vlinks) (λ j y e. refl) (λ i j x y l e f. not-true (same_block y x) (λ h. one i j x y l (block-from p.vlinks i x e) (block-from p.vlinks j y f) h))
  where
    one : (i j : ℕ) (x y : ℕ × ℕ) → i < j → IsBlockAt p.vlinks i x → IsBlockAt p.vlinks j y → same_block y x ≡ true → ⊥
    one i j x y l a b h =
        let s = block-same y x h in
        let node = ap (λ (z : ℕ × ℕ). z.0) a.is ∙ sym s.0 ∙ ap (λ (z : ℕ × ℕ). z.0) (sym b.is) in
        let block = ap (λ (z : ℕ × ℕ). z.1) a.is ∙ sym s.1 ∙ ap (λ (z : ℕ × ℕ). z.1) (sym b.is) in
        let same = acc.one_end a.at b.at a.vlink b.vlink a.side b.side a.there b.there node block in
        let e : i ≡ j = a.placed ∙ ap₂ place same.0 same.1 ∙ sym b.placed in
        omega (arith, l, e)

-- each end sends by a wire
none-or : {X : Type 0} (a b : Option X) → a ≡ None → b ≡ None → option_or a b ≡ None
none-or a b e f = ap (λ o. option_or o b) e ∙ f

none-if : {X : Type 0} (o : Option X) (p : Port) → IsSome o → (if is_some o then None else Some p) ≡ None
none-if (Some x) p h = refl
none-if None p h = absurd cc

none-missing : (ws : List Wire) (vs : List Vlink) → ((k : ℕ) (v : Vlink) (a : Bool) → slice_get vs k ≡ Some v → IsSome (across ws (sending_port (end_of v a)))) → port_missing ws vs ≡ None
none-missing ws [] h = refl
none-missing ws (v ∷ vs) h =
    none-or (unwired_port ws v.a) _ (none-if (across ws (sending_port v.a)) (sending_port v.a) (h 0 v true refl))
    (none-or (unwired_port ws v.b) _ (none-if (across ws (sending_port v.b)) (sending_port v.b) (h 0 v false refl))
    (none-missing ws vs (λ k u a e. h (suc k) u a e)))

-- no two channels are on one way
ways-once : (n : ℕ) (seen : List Home) (cs : List Channel) → repeated same_way seen (homes cs) ≡ None → way_twice_from n seen cs ≡ None
ways-once n seen [] h = refl
ways-once n seen (c ∷ cs) h =
    let m = none-else (list_any (same_way c.home) seen) c.home (repeated same_way (seen ++ c.home ∷ []) (homes cs)) h in
    ap (λ b. if b then Some n else way_twice_from (suc n) (seen ++ c.home ∷ []) cs) m.0 ∙ ways-once (suc n) (seen ++ c.home ∷ []) cs m.1

home-from : (cs : List Channel) (k : ℕ) (h : Home) → slice_get (homes cs) k ≡ Some h → (c : Channel) × (slice_get cs k ≡ Some c) × (c.home ≡ h)
home-from [] k h e = absurd cc
home-from (c ∷ cs) zero h e = (c, refl, cc)
home-from (c ∷ cs) (suc k) h e = home-from cs k h e

bool-same : (a b : Bool) → same_bool a b ≡ true → a ≡ b
bool-same true true h = refl
bool-same true false h = absurd cc
bool-same false true h = absurd cc
bool-same false false h = refl

way-same : (x y : Home) → same_way x y ≡ true → (v : ℕ) × (f : Bool) × (x ≡ Way v f) × (y ≡ Way v f)
way-same (Way v f) (Way w g) h =
    let t = both (v == w) (same_bool f g) h in
    (v, f, refl, ap₂ (λ u s. Way u s) (sym (eqb-true v w t.0)) (sym (bool-same f g t.1)))
way-same (Way v f) (Inside n) h = absurd cc
way-same (Inside n) y h = absurd cc

no-way-twice : (p : Plan) → IsAccepted p → way_twice p.channels ≡ None
no-way-twice p acc =
    ways-once 0 [] p.channels (unrepeated same_way [] (homes p.channels) (λ j y e. refl) (λ i j x y l e f. not-true (same_way y x) (λ h. one i j x y l (home-from p.channels i x e) (home-from p.channels j y f) (way-same y x h))))
  where
    one : (i j : ℕ) (x y : Home) → i < j → (c : Channel) × (slice_get p.channels i ≡ Some c) × (c.home ≡ x) → (d : Channel) × (slice_get p.channels j ≡ Some d) × (d.home ≡ y) →
        (v : ℕ) × (f : Bool) × (y ≡ Way v f) × (x ≡ Way v f) → ⊥
    one i j x y l (c, at, is) (d, there, his) (v, f, b, a) =
        let e : i ≡ j = acc.one_channel i j c d v f at there (is ∙ a) (his ∙ b) in
        omega (arith, l, e)

-- each use is right
none-wrong : (p : Plan) (n : ℕ) (us : List ChannelUse) → ((k : ℕ) (u : ChannelUse) → slice_get us k ≡ Some u → use_ok p n u ≡ true) → wrong_use p n us ≡ None
none-wrong p n [] h = refl
none-wrong p n (u ∷ us) h = ap (λ b. if b then wrong_use p n us else Some u.chan) (h 0 u refl) ∙ none-wrong p n us (λ k w e. h (suc k) w e)

none-misused : (p : Plan) (m : ℕ) (nodes : List NodePlan) → ((n k : ℕ) (node : NodePlan) (u : ChannelUse) → slice_get nodes n ≡ Some node → slice_get (uses_of node) k ≡ Some u → use_ok p (m + n) u ≡ true) → misused_from p m nodes ≡ None
none-misused p m [] h = refl
none-misused p m (x ∷ xs) h =
    none-or (wrong_use p m (uses_of x)) _
    (none-wrong p m (uses_of x) (λ k u e. subst (λ j. use_ok p j u ≡ true) (omega arith) (h 0 k x u refl e)))
    (none-misused p (suc m) xs (λ n k node u e g. subst (λ j. use_ok p j u ≡ true) (omega arith) (h (suc n) k node u e g)))

pub uses_are_ok : (p : Plan) → IsAccepted p → (n k : ℕ) (node : NodePlan) (u : ChannelUse) → slice_get p.nodes n ≡ Some node → slice_get (uses_of node) k ≡ Some u → use_ok p n u ≡ true
uses_are_ok p acc n k node u e g = right_use p n u (acc.uses n k node u e g)

no-channel-fault : (p : Plan) → IsAccepted p → channel_fault p ≡ None
no-channel-fault p acc = none-or (way_twice p.channels) (misused p) (no-way-twice p acc) (none-misused p 0 p.nodes (λ n k node u e g. subst (λ j. use_ok p j u ≡ true) (sym (zero-add n)) (uses_are_ok p acc n k node u e g)))

pub passes_all : (p : Plan) → IsAccepted p → PassesUse p
passes_all p acc = record {
  before = record {
    before = record {
      before = record {
        before = record {
          before = record {
            before = record {
              before = record {
                before = record { limits = limits_of p acc };
                once = ports-once p acc;
              };
              ports = none-missing p.wires p.vlinks acc.sends;
            };
            blocks = blocks-once p acc;
          };
          tables = acc.tables;
        };
        labelled = acc.labelled;
      };
      apart = acc.apart;
    };
    channels = no-channel-fault p acc;
  };
  lawful = acc.lawful_use;
}
