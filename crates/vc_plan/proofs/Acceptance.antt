-- What follows of the checker's tests.
use Rattle.std.proofs.Common.{◌≡◌, ℕ, zero, suc, ◌<◌, ◌+◌, Bool, true, false, ◌||◌, List, [], ◌∷◌, ◌++◌, Option, Some, None, refl, ap, ◌∙◌, subst, arith, zero-add, if◌then◌else◌}
use Rattle.std.proofs.lemmas.Bool.Decides.{nat_tests}
use Rattle.std.specs.Prelude.{slice_get, IsSome, is_some}
use Rattle.std.specs.List.{list_any}
use Rattle.std.specs.Option.{option_or}
use Rattle.vc_process.specs.declared.channel_use.ChannelUse.{ChannelUse}
use Rattle.vc_plan.specs.declared.plan.Plan.{Plan}
use Rattle.vc_plan.specs.declared.port.Port.{Port}
use Rattle.vc_plan.specs.declared.port.Spot.{Spot}
use Rattle.vc_plan.specs.declared.port.Spot.TheVariants.{Node, Switch}
use Rattle.vc_plan.specs.declared.port.Wire.{Wire}
use Rattle.vc_plan.specs.declared.vlink.Vlink.{Vlink}
use Rattle.vc_plan.specs.declared.channel.Channel.{Channel}
use Rattle.vc_plan.specs.declared.channel.Home.{Home}
use Rattle.vc_plan.specs.declared.channel.Home.TheVariants.{Way}
use Rattle.vc_plan.specs.declared.node_plan.NodePlan.{NodePlan}
use Rattle.vc_plan.specs.Accepted.{IsAccepted, port_of, end_of, uses_of}
use Rattle.vc_plan.specs.Private.Check.{PassesUse}
use Rattle.vc_plan.specs.Check.{repeated, ports, port_twice, unwired_port, port_missing, block_of, same_block, blocks, block_twice, same_bool, same_way, way_twice_from, way_twice, misused_from, misused, wrong_use, use_ok}
use Rattle.vc_plan.specs.Wires.{across, same_port, same_spot, sending_port}
use Rattle.vc_plan.proofs.KeptLimits.{tests_are}
use Rattle.vc_plan.proofs.Limits.{keeps}
use Rattle.vc_plan.proofs.Uses.{use_right}

pub none-else : {X : Type 0} (b : Bool) (x : X) (o : Option X) → (if b then Some x else o) ≡ None → (b ≡ false) × (o ≡ None)
none-else true x o h = absurd cc
none-else false x o h = (refl, h)

pub neither : (a b : Bool) → (a || b) ≡ false → (a ≡ false) × (b ≡ false)
neither true b h = absurd cc
neither false b h = (refl, h)

any-append : {X : Type 0} (test : X → Bool) (xs : List X) (x : X) → list_any test (xs ++ x ∷ []) ≡ false → (list_any test xs ≡ false) × (test x ≡ false)
any-append test [] x h = (refl, (neither (test x) false h).0)
any-append test (y ∷ ys) x h =
    let n = neither (test y) (list_any test (ys ++ x ∷ [])) h in
    let m = any-append test ys x n.1 in
    (ap (λ b. b || list_any test ys) n.0 ∙ m.0, m.1)

-- nothing of a list without a repetition stood before
unseen : {X : Type 0} (same : X → X → Bool) (seen xs : List X) → repeated same seen xs ≡ None → (j : ℕ) (y : X) → slice_get xs j ≡ Some y → list_any (same y) seen ≡ false
unseen same seen [] h j y e = absurd cc
unseen same seen (x ∷ xs) h zero y e =
    let n = none-else (list_any (same x) seen) x (repeated same (seen ++ x ∷ []) xs) h in
    let is : x ≡ y = cc in
    subst (λ z. list_any (same z) seen ≡ false) is n.0
unseen same seen (x ∷ xs) h (suc j) y e =
    let n = none-else (list_any (same x) seen) x (repeated same (seen ++ x ∷ []) xs) h in
    (any-append (same y) seen x (unseen same (seen ++ x ∷ []) xs n.1 j y e)).0

-- two of a list without a repetition differ
differ : {X : Type 0} (same : X → X → Bool) (seen xs : List X) → repeated same seen xs ≡ None → (i j : ℕ) (x y : X) → i < j →
    slice_get xs i ≡ Some x → slice_get xs j ≡ Some y → same y x ≡ false
differ same seen [] h i j x y l e f = absurd cc
differ same seen (z ∷ zs) h zero zero x y l e f = absurd (omega arith)
differ same seen (z ∷ zs) h zero (suc j) x y l e f =
    let n = none-else (list_any (same z) seen) z (repeated same (seen ++ z ∷ []) zs) h in
    let is : z ≡ x = cc in
    subst (λ w. same y w ≡ false) is (any-append (same y) seen z (unseen same (seen ++ z ∷ []) zs n.1 j y f)).1
differ same seen (z ∷ zs) h (suc i) zero x y l e f = absurd (omega arith)
differ same seen (z ∷ zs) h (suc i) (suc j) x y l e f =
    let n = none-else (list_any (same z) seen) z (repeated same (seen ++ z ∷ []) zs) h in
    differ same (seen ++ z ∷ []) zs n.1 i j x y (omega arith) e f

-- the place of the first or second of a pair, where pairs stand in a row
abbrev pub place : ℕ → Bool → ℕ
place zero true = 0
place zero false = 1
place (suc i) a = suc (suc (place i a))

data Order (i : ℕ) (a : Bool) (j : ℕ) (b : Bool) : Type 0 where
  before : place i a < place j b → Order i a j b
  after : place j b < place i a → Order i a j b
  same : i ≡ j → a ≡ b → Order i a j b

next-order : (i : ℕ) (a : Bool) (j : ℕ) (b : Bool) → Order i a j b → Order (suc i) a (suc j) b
next-order i a j b (before l) = before (omega (arith, l))
next-order i a j b (after l) = after (omega (arith, l))
next-order i a j b (same e f) = same (ap suc e) f

small : (a : Bool) (j : ℕ) (b : Bool) → place zero a < place (suc j) b
small true j b = omega arith
small false j b = omega arith

order : (i : ℕ) (a : Bool) (j : ℕ) (b : Bool) → Order i a j b
order zero true zero true = same refl refl
order zero true zero false = before (omega arith)
order zero false zero true = after (omega arith)
order zero false zero false = same refl refl
order zero a (suc j) b = before (small a j b)
order (suc i) a zero b = after (small b i a)
order (suc i) a (suc j) b = next-order i a j b (order i a j b)

true-false : (b : Bool) → b ≡ true → b ≡ false → ⊥
true-false true h k = cc
true-false false h k = cc

same-spot-self : (s : Spot) → same_spot s s ≡ true
same-spot-self (Node n) = grind (arith, nat_tests)
same-spot-self (Switch n) = grind (arith, nat_tests)

same-port-self : (p : Port) → same_port p p ≡ true
same-port-self p = let s = same-spot-self p.spot in grind (arith, nat_tests)

port-at : (ws : List Wire) (i : ℕ) (a : Bool) (w : Wire) → slice_get ws i ≡ Some w → slice_get (ports ws) (place i a) ≡ Some (port_of w a)
port-at [] i a w e = absurd cc
port-at (v ∷ vs) zero true w e = let is : v ≡ w = cc in ap (λ (x : Wire). Some x.one) is
port-at (v ∷ vs) zero false w e = let is : v ≡ w = cc in ap (λ (x : Wire). Some x.two) is
port-at (v ∷ vs) (suc i) a w e = port-at vs i a w e

ports-differ : (ws : List Wire) → port_twice ws ≡ None → (i j : ℕ) (v w : Wire) (a b : Bool) → slice_get ws i ≡ Some v → slice_get ws j ≡ Some w →
    port_of v a ≡ port_of w b → Order i a j b → (i ≡ j) × (a ≡ b)
ports-differ ws h i j v w a b e f is (same p q) = (p, q)
ports-differ ws h i j v w a b e f is (before l) =
    let d = differ same_port [] (ports ws) h (place i a) (place j b) (port_of v a) (port_of w b) l (port-at ws i a v e) (port-at ws j b w f) in
    absurd (true-false (same_port (port_of w b) (port_of v a)) (ap (λ x. same_port (port_of w b) x) is ∙ same-port-self (port_of w b)) d)
ports-differ ws h i j v w a b e f is (after l) =
    let d = differ same_port [] (ports ws) h (place j b) (place i a) (port_of w b) (port_of v a) l (port-at ws j b w f) (port-at ws i a v e) in
    absurd (true-false (same_port (port_of v a) (port_of w b)) (ap (λ x. same_port x (port_of w b)) is ∙ same-port-self (port_of w b)) d)

-- the same for blocks
same-block-self : (x : ℕ × ℕ) → same_block x x ≡ true
same-block-self (a, b) = grind (arith, nat_tests)

block-at : (vs : List Vlink) (i : ℕ) (a : Bool) (v : Vlink) → slice_get vs i ≡ Some v → slice_get (blocks vs) (place i a) ≡ Some (block_of (end_of v a))
block-at [] i a v e = absurd cc
block-at (u ∷ us) zero true v e = let is : u ≡ v = cc in ap (λ (x : Vlink). Some (block_of x.a)) is
block-at (u ∷ us) zero false v e = let is : u ≡ v = cc in ap (λ (x : Vlink). Some (block_of x.b)) is
block-at (u ∷ us) (suc i) a v e = block-at us i a v e

blocks-differ : (vs : List Vlink) → block_twice vs ≡ None → (i j : ℕ) (v w : Vlink) (a b : Bool) → slice_get vs i ≡ Some v → slice_get vs j ≡ Some w →
    block_of (end_of v a) ≡ block_of (end_of w b) → Order i a j b → (i ≡ j) × (a ≡ b)
blocks-differ vs h i j v w a b e f is (same p q) = (p, q)
blocks-differ vs h i j v w a b e f is (before l) =
    let x = block_of (end_of v a) in
    let y = block_of (end_of w b) in
    let d = differ same_block [] (blocks vs) h (place i a) (place j b) x y l (block-at vs i a v e) (block-at vs j b w f) in
    absurd (true-false (same_block y x) (ap (λ z. same_block y z) is ∙ same-block-self y) d)
blocks-differ vs h i j v w a b e f is (after l) =
    let x = block_of (end_of v a) in
    let y = block_of (end_of w b) in
    let d = differ same_block [] (blocks vs) h (place j b) (place i a) y x l (block-at vs j b w f) (block-at vs i a v e) in
    absurd (true-false (same_block x y) (ap (λ z. same_block z y) is ∙ same-block-self y) d)

-- each end sends by a wire
none-first : {X : Type 0} (a b : Option X) → option_or a b ≡ None → (a ≡ None) × (b ≡ None)
none-first (Some x) b h = absurd cc
none-first None b h = (refl, h)

wired-if : {X : Type 0} (o : Option X) (p : Port) → (if is_some o then None else Some p) ≡ None → IsSome o
wired-if (Some x) p h = refl
wired-if None p h = absurd cc

end-sends : (ws : List Wire) (vs : List Vlink) → port_missing ws vs ≡ None → (k : ℕ) (v : Vlink) (a : Bool) → slice_get vs k ≡ Some v → IsSome (across ws (sending_port (end_of v a)))
end-sends ws [] h k v a e = absurd cc
end-sends ws (u ∷ us) h zero v true e =
    let is : u ≡ v = cc in
    let n = none-first (unwired_port ws u.a) _ h in
    subst (λ (x : Vlink). IsSome (across ws (sending_port x.a))) is (wired-if (across ws (sending_port u.a)) (sending_port u.a) n.0)
end-sends ws (u ∷ us) h zero v false e =
    let is : u ≡ v = cc in
    let n = none-first (unwired_port ws u.a) _ h in
    let m = none-first (unwired_port ws u.b) _ n.1 in
    subst (λ (x : Vlink). IsSome (across ws (sending_port x.b))) is (wired-if (across ws (sending_port u.b)) (sending_port u.b) m.0)
end-sends ws (u ∷ us) h (suc k) v a e =
    let n = none-first (unwired_port ws u.a) _ h in
    let m = none-first (unwired_port ws u.b) _ n.1 in
    end-sends ws us m.1 k v a e

-- no two channels are on one way
abbrev pub homes : List Channel → List Home
homes [] = []
homes (c ∷ cs) = c.home ∷ homes cs

ways-repeated : (n : ℕ) (seen : List Home) (cs : List Channel) → way_twice_from n seen cs ≡ None → repeated same_way seen (homes cs) ≡ None
ways-repeated n seen [] h = refl
ways-repeated n seen (c ∷ cs) h =
    let m = none-else (list_any (same_way c.home) seen) n (way_twice_from (suc n) (seen ++ c.home ∷ []) cs) h in
    ap (λ b. if b then Some c.home else repeated same_way (seen ++ c.home ∷ []) (homes cs)) m.0 ∙ ways-repeated (suc n) (seen ++ c.home ∷ []) cs m.1

home-at : (cs : List Channel) (k : ℕ) (c : Channel) → slice_get cs k ≡ Some c → slice_get (homes cs) k ≡ Some c.home
home-at [] k c e = absurd cc
home-at (d ∷ ds) zero c e = let is : d ≡ c = cc in ap (λ (x : Channel). Some x.home) is
home-at (d ∷ ds) (suc k) c e = home-at ds k c e

same-bool-self : (b : Bool) → same_bool b b ≡ true
same-bool-self true = refl
same-bool-self false = refl

same-way-self : (v : ℕ) (f : Bool) → same_way (Way v f) (Way v f) ≡ true
same-way-self v f = let s = same-bool-self f in grind (arith, nat_tests)

not-before : (cs : List Channel) → way_twice cs ≡ None → (c d : ℕ) (x y : Channel) (v : ℕ) (f : Bool) → slice_get cs c ≡ Some x → slice_get cs d ≡ Some y →
    x.home ≡ Way v f → y.home ≡ Way v f → c < d → ⊥
not-before cs h c d x y v f e g p q l =
    let k = differ same_way [] (homes cs) (ways-repeated 0 [] cs h) c d x.home y.home l (home-at cs c x e) (home-at cs d y g) in
    let t : same_way y.home x.home ≡ true = ap (λ z. same_way z x.home) q ∙ ap (λ z. same_way (Way v f) z) p ∙ same-way-self v f in
    true-false (same_way y.home x.home) t k

one-way : (cs : List Channel) → way_twice cs ≡ None → (c d : ℕ) (x y : Channel) (v : ℕ) (f : Bool) → slice_get cs c ≡ Some x → slice_get cs d ≡ Some y →
    x.home ≡ Way v f → y.home ≡ Way v f → c ≡ d
one-way cs h c d x y v f e g p q =
    let a = not-before cs h c d x y v f e g p q in
    let b = not-before cs h d c y x v f g e q p in
    omega (arith, a, b)

-- each use is right
right-use : (p : Plan) (n : ℕ) (us : List ChannelUse) → wrong_use p n us ≡ None → (k : ℕ) (u : ChannelUse) → slice_get us k ≡ Some u → use_ok p n u ≡ true
right-use p n [] h k u e = absurd cc
right-use p n (w ∷ ws) h k u e = by (use_ok p n w) refl h (right-use p n ws) k u e
  where
    by : (b : Bool) → use_ok p n w ≡ b → (if b then wrong_use p n ws else Some w.chan) ≡ None →
        (wrong_use p n ws ≡ None → (k : ℕ) (u : ChannelUse) → slice_get ws k ≡ Some u → use_ok p n u ≡ true) →
        (k : ℕ) (u : ChannelUse) → slice_get (w ∷ ws) k ≡ Some u → use_ok p n u ≡ true
    by true t h rest zero u e = let is : w ≡ u = cc in subst (λ x. use_ok p n x ≡ true) is t
    by true t h rest (suc k) u e = rest h k u e
    by false t h rest k u e = absurd cc

right-uses : (p : Plan) (m : ℕ) (nodes : List NodePlan) → misused_from p m nodes ≡ None → (n k : ℕ) (node : NodePlan) (u : ChannelUse) → slice_get nodes n ≡ Some node →
    slice_get (uses_of node) k ≡ Some u → use_ok p (m + n) u ≡ true
right-uses p m [] h n k node u e g = absurd cc
right-uses p m (x ∷ xs) h zero k node u e g =
    let is : x ≡ node = cc in
    let s = none-first (wrong_use p m (uses_of x)) _ h in
    let r : use_ok p m u ≡ true = right-use p m (uses_of node) (subst (λ y. wrong_use p m (uses_of y) ≡ None) is s.0) k u g in
    subst (λ j. use_ok p j u ≡ true) (omega arith) r
right-uses p m (x ∷ xs) h (suc n) k node u e g =
    let s = none-first (wrong_use p m (uses_of x)) _ h in
    subst (λ j. use_ok p j u ≡ true) (omega arith) (right-uses p (suc m) xs s.1 n k node u e g)

pub accepted : (p : Plan) → PassesUse p → IsAccepted p
accepted p h =
    let used = h.before in
    let paths = used.before.before in
    let tables = paths.before in
    let blocks = tables.before in
    let ports = blocks.before in
    let wires = ports.before in
    let channels = none-first (way_twice p.channels) (misused p) used.channels in
    record {
      limits = tests_are p (keeps p wires.before.limits);
      one_port = λ i j v w a b e f is. ports-differ p.wires wires.once i j v w a b e f is (order i a j b);
      sends = end-sends p.wires p.vlinks ports.ports;
      one_end = λ i j v w a b e f m n. blocks-differ p.vlinks blocks.blocks i j v w a b e f (λ k. (m k, n k)) (order i a j b);
      tables = tables.tables;
      labelled = paths.labelled;
      apart = used.before.apart;
      one_channel = one-way p.channels channels.0;
      uses = λ n k node u e g. use_right p n u (subst (λ j. use_ok p j u ≡ true) (zero-add n) (right-uses p 0 p.nodes channels.1 n k node u e g));
      lawful_use = h.lawful;
    }
