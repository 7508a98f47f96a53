-- Places from which nothing shows after so many hops: by one hop, and by what a switch looks up.
use Rattle.std.proofs.Common.{◌≡◌, ℕ, ◌+◌, ◌≤◌, ◌<◌, false, List, [], ◌∷◌, length, Option, Some, None, sym, ap, ◌∙◌, arith}
use Rattle.vc_plan.specs.declared.fault.Fault.{Fault}
use Rattle.vc_plan.specs.declared.path_fault.Hop.{Hop}
use Rattle.vc_plan.specs.declared.plan.Plan.{Plan}
use Rattle.vc_plan.specs.declared.port.Port.{Port}
use Rattle.vc_plan.specs.declared.port.Spot.{Spot}
use Rattle.vc_plan.specs.declared.port.Spot.TheVariants.{Node, Switch}
use Rattle.vc_plan.specs.declared.stack.Passage.TheVariants.{Leaves, Stops}
use Rattle.vc_plan.specs.Faults.{IsDrawnAt, Path}
use Rattle.vc_plan.specs.Hops.{IsDrawn, IsHop, left_by, passage_at, range_in}
use Rattle.vc_plan.specs.Private.Following.{IsClearAt, IsClearIn, IsQuiet, Sight, looked}
use Rattle.vc_plan.specs.Wires.{across, switch_at}

module _ (net : Plan) (shows : Sight) (j n : ℕ) where
  -- past the hops that are looked at
  pub clear-past : (p : Port) (s : List ℕ) → j < n → IsClearAt net shows j n p s
  clear-past p s lt = record { clear = λ hops q t v path sum d. absurd (omega (arith, lt, sum)) }

  pub clear-in-past : (m : ℕ) (t : List ℕ) → j < n → IsClearIn net shows j n m t
  clear-in-past m t lt = record {
    here = λ v s same by. absurd (omega (arith, lt, same));
    onward = λ first last link out q goes low high far.
        record { clear = λ hops r u v path sum d. absurd (omega (arith, lt, sum)) };
  }

  -- by no hop, and by one
  pub clear-by : (p : Port) (s : List ℕ) → (n ≡ j → (v : Option ℕ) → IsDrawnAt net p.link p.spot v → shows j p.spot v s ≡ false) →
      ((h : Hop) (r : Port) (u : List ℕ) → IsHop net p s h r u → IsClearAt net shows j (n + 1) r u) → IsClearAt net shows j n p s
  clear-by p s here on = record { clear = go }
    where
      go : (hops : List Hop) (q : Port) (t : List ℕ) (v : Option ℕ) → Path net p s hops q t → n + length hops ≡ j → IsDrawnAt net q.link q.spot v → shows j q.spot v t ≡ false
      go [] q t v path sum d =
          let same : n ≡ j = omega (arith, sum) in
          rw (← path.0, ← path.1) (here same v (rw path.0 d))
      go (h ∷ hops) q t v path sum d =
          let sum-on : (n + 1) + length hops ≡ j = omega (arith, sum) in
          (on h path.0 path.1 path.2).clear hops q t v path.3 sum-on d

  node-here : (p : Port) (s : List ℕ) (m : ℕ) (v : Option ℕ) (spot : Spot) → spot ≡ Node m → shows j (Node m) None s ≡ false → IsDrawnAt net p.link spot v → shows j spot v s ≡ false
  node-here p s m v (Node k) at is d = rw d (ap (λ (x : Spot). shows j x None s) at ∙ is)
  node-here p s m v (Switch k) at is d = absurd cc

  -- at a node
  pub clear-node : (p : Port) (s : List ℕ) (m : ℕ) → p.spot ≡ Node m → (n ≡ j → shows j (Node m) None s ≡ false) → IsClearAt net shows j n p s
  clear-node p s m at here =
      clear-by p s (λ same v d. node-here p s m v p.spot at (here same) d)
      (λ h r u i. absurd (let c : Node m ≡ Switch h.switch = sym at ∙ i.at in cc))

  -- in a switch, by the value that is drawn
  pub record IsClearBy (m : ℕ) (v : Option ℕ) (s : List ℕ) : Type 0 where
    pub here : n ≡ j → shows j (Switch m) v s ≡ false
    pub onward : (first last link : ℕ) (out : List ℕ) (q : Port) → passage_at (switch_at net m) v s ≡ Leaves first last out → first ≤ link → link ≤ last →
        across net.wires (record { spot = Switch m; link = link }) ≡ Some q → IsClearAt net shows j (n + 1) q (left_by (switch_at net m) link out)

  -- where the packet is looked up
  pub clear-looked : (m : ℕ) (v : Option ℕ) (s t : List ℕ) → passage_at (switch_at net m) v s ≡ looked (switch_at net m) t → IsClearIn net shows j n m t → IsClearBy m v s
  clear-looked m v s t is c = record {
    here = λ same. c.here v s same is;
    onward = λ first last link out q goes low high far. c.onward first last link out q (sym is ∙ goes) low high far;
  }

  -- where it stops, before the last hop
  pub clear-stopped : (m : ℕ) (v : Option ℕ) (s : List ℕ) (f : Fault) → passage_at (switch_at net m) v s ≡ Stops f → (n ≡ j → ⊥) → IsClearBy m v s
  clear-stopped m v s f is early = record {
    here = λ same. absurd (early same);
    onward = λ first last link out q goes low high far. absurd (let c : Stops f ≡ Leaves first last out = sym is ∙ goes in cc);
  }

  switch-here : (p : Port) (s : List ℕ) (m : ℕ) (v : Option ℕ) (spot : Spot) → spot ≡ Switch m → (IsDrawn (range_in (switch_at net m) p.link) v → shows j (Switch m) v s ≡ false) →
      IsDrawnAt net p.link spot v → shows j spot v s ≡ false
  switch-here p s m v (Switch k) at is d = let same : k ≡ m = cc in rw same (is (rw same at d))
  switch-here p s m v (Node k) at is d = absurd cc

  hop-clear : (p : Port) (s : List ℕ) (m : ℕ) (h : Hop) (r : Port) (u : List ℕ) → h.switch ≡ m →
      ((v : Option ℕ) → IsDrawn (range_in (switch_at net m) p.link) v → IsClearBy m v s) → IsHop net p s h r u → IsClearAt net shows j (n + 1) r u
  hop-clear p s m h r u same by i =
      let c = by h.value (rw same at i.drawn) in
      rw i.left (rw (← same) at (c.onward i.first i.last h.link i.out r (rw same at i.goes) i.low i.high (rw same at i.far)))

  -- at a switch
  pub clear-switch : (p : Port) (s : List ℕ) (m : ℕ) → p.spot ≡ Switch m → ((v : Option ℕ) → IsDrawn (range_in (switch_at net m) p.link) v → IsClearBy m v s) → IsClearAt net shows j n p s
  clear-switch p s m at by =
      clear-by p s (λ same v d. switch-here p s m v p.spot at (λ drawn. (by v drawn).here same) d)
      (λ h r u i. hop-clear p s m h r u (let c : Switch h.switch ≡ Switch m = sym i.at ∙ at in cc) by i)

  -- in a switch, by what it looks up
  pub clear-same : (m : ℕ) (t u : List ℕ) → looked (switch_at net m) t ≡ looked (switch_at net m) u → IsClearIn net shows j n m u → IsClearIn net shows j n m t
  clear-same m t u is c = record {
    here = λ v s same by. c.here v s same (by ∙ is);
    onward = λ first last link out q goes low high far. c.onward first last link out q (sym is ∙ goes) low high far;
  }

  pub clear-none : (m : ℕ) (t : List ℕ) (f : Fault) → looked (switch_at net m) t ≡ Stops f → (n ≡ j → ⊥) → IsClearIn net shows j n m t
  clear-none m t f is early = record {
    here = λ v s same by. absurd (early same);
    onward = λ first last link out q goes low high far. absurd (let c : Stops f ≡ Leaves first last out = sym is ∙ goes in cc);
  }

  pub clear-leaves : IsQuiet net shows → (m : ℕ) (t : List ℕ) (first last : ℕ) (out : List ℕ) → looked (switch_at net m) t ≡ Leaves first last out → (n ≡ j → j < 32) →
      ((link : ℕ) (q : Port) → first ≤ link → link ≤ last → across net.wires (record { spot = Switch m; link = link }) ≡ Some q →
      IsClearAt net shows j (n + 1) q (left_by (switch_at net m) link out)) → IsClearIn net shows j n m t
  clear-leaves quiet m t first last out is room on = record {
    here = λ v s same by. quiet.leaves j m v s first last out (by ∙ is) (room same);
    onward = λ a b link o q goes low high far.
        let same : Leaves first last out ≡ Leaves a b o = sym is ∙ goes in
        let e : first ≡ a = cc in
        let f : last ≡ b = cc in
        let g : out ≡ o = cc in
        rw (← g) (on link q (rw e low) (rw f high) far);
  }
