-- Labels by dimension have ranks and deliver: of a wire between switches the rank is the number of its step, and of one to a node as many
-- blocks as there are axes; the hops left are the steps left and one to the node.
use Rattle.std.proofs.Common.{◌≡◌, ◌⊎◌, inl, inr, ℕ, zero, suc, ◌+◌, ◌-◌, ◌<◌, ◌≤◌, not, refl, sym, ap, subst, ◌∙◌, arith}
use Rattle.std.proofs.Math.Nat.{eq-or-lt_of_le}
use Rattle.vc_plan.specs.declared.plan.Plan.{Plan}
use Rattle.vc_plan.specs.declared.port.Port.{Port}
use Rattle.vc_plan.specs.declared.port.Spot.{Spot}
use Rattle.vc_plan.specs.declared.port.Spot.TheVariants.{Node, Switch}
use Rattle.vc_plan.specs.Accepted.{end_of}
use Rattle.vc_label_laws.proofs.Blocks.{three_ways, place, place_below, place_rises, differs, not_there, blocks, more_blocks, number, number_is}
use Rattle.vc_label_laws.proofs.Delivery.{served_labelled}
use Rattle.vc_label_laws.proofs.WireRanks.{HasWireRanks, wires_rank_ports}
use Rattle.vc_label_laws.specs.Dimension.{DimensionIsFree, DimensionIsLabelled, IsByDimension, IsTaken, Nearer, Step, steps, TakesOn}
use Rattle.vc_label_laws.specs.OneHeader.{Everywhere, LeadsTo}
use Rattle.vc_label_laws.specs.Served.{IsOnWay, IsServed}

module _ (net : Plan) (On : ℕ → Type 0) (d : IsByDimension net On) where
  abbrev Steps : ℕ → ℕ → ℕ → Type 0
  Steps n h m = Step d.coordinate d.want d.axes n h m

  abbrev rank : ℕ → Spot → ℕ
  rank n (Node m) = blocks d.most d.axes
  rank n (Switch m) = number d.coordinate d.most d.axes n m

  abbrev its_place : ℕ → ℕ → ℕ → ℕ
  its_place i n m = place d.most (d.coordinate n i) (d.coordinate m i)

  its_number : (n h m : ℕ) (s : Steps n h m) → rank n (Switch m) + (blocks d.most s.axis + d.most) ≡ blocks d.most d.axes + its_place s.axis n m
  its_number n h m s =
      number_is d.coordinate d.most d.axes n m s.axis s.is_axis (λ j a b. s.same j b (λ e. omega (arith, e, a)))
      (differs (d.coordinate n s.axis) (d.coordinate m s.axis) (d.want n h s.axis) s.nearer)

  its_bound : (n h m : ℕ) (s : Steps n h m) → its_place s.axis n m < d.most
  its_bound n h m s = place_below d.most (d.coordinate n s.axis) (d.coordinate m s.axis) (d.want n h s.axis) s.nearer (d.within n s.axis)

  -- the step before one on a later axis is none: that axis is right, and stays so
  never_back : (n h m q : ℕ) (s : Steps n h m) (t : Steps m h q) → s.axis < t.axis → ⊥
  never_back n h m q s t lt =
      not_there (d.coordinate m t.axis) (d.coordinate q t.axis) (d.want m h t.axis) t.nearer
      (s.same t.axis t.is_axis (λ e. omega (arith, e, lt)) ∙ s.later t.axis lt t.is_axis ∙ sym (s.still t.axis t.is_axis))

  by_steps : (n h m q : ℕ) → Steps n h m → Steps m h q → rank n (Switch m) < rank m (Switch q)
  by_steps n h m q s t = go (three_ways s.axis t.axis)
    where
      go : (s.axis < t.axis) ⊎ (s.axis ≡ t.axis) ⊎ (t.axis < s.axis) → rank n (Switch m) < rank m (Switch q)
      go (inl lt) = absurd (never_back n h m q s t lt)
      go (inr (inl e)) =
          let x = its_number n h m s in let y = its_number m h q t in
          let f : blocks d.most s.axis ≡ blocks d.most t.axis = ap (λ i. blocks d.most i) e in
          let k : Nearer (d.coordinate m s.axis) (d.coordinate q s.axis) (d.want n h s.axis) =
          subst (λ w. Nearer (d.coordinate m s.axis) (d.coordinate q s.axis) w) (s.still s.axis s.is_axis)
          (subst (λ i. Nearer (d.coordinate m i) (d.coordinate q i) (d.want m h i)) (sym e) t.nearer) in
          let r = place_rises d.most (d.coordinate n s.axis) (d.coordinate m s.axis) (d.coordinate q s.axis) (d.want n h s.axis) s.nearer k (d.within n s.axis) in
          let p : its_place s.axis m q ≡ its_place t.axis m q = ap (λ i. its_place i m q) e in
          omega (arith, x, y, f, r, p)
      go (inr (inr lt)) =
          let x = its_number n h m s in let y = its_number m h q t in
          let b = its_bound n h m s in
          let f = more_blocks d.most t.axis s.axis lt in
          omega (arith, x, y, b, f)

  to_node : (n h m : ℕ) → Steps n h m → rank n (Switch m) < blocks d.most d.axes
  to_node n h m s = let x = its_number n h m s in let b = its_bound n h m s in omega (arith, x, b)

  rises : (n h link m next : ℕ) (far next_far : Port) → On n → On m → LeadsTo net n h link far → far.spot ≡ Switch m → LeadsTo net m h next next_far → rank n (Switch m) < rank m next_far.spot
  rises n h link m next far next_far a b l at k = by next_far.spot refl
    where
      by : (spot : Spot) → next_far.spot ≡ spot → rank n (Switch m) < rank m spot
      by (Node q) is = to_node n h m (d.goes n h link m far a l at)
      by (Switch q) is = by_steps n h m q (d.goes n h link m far a l at) (d.goes m h next q next_far b k is)

  -- the steps left
  abbrev left : ℕ → ℕ → ℕ → ℕ
  left k n h = steps d.coordinate d.want k n h

  same_before : (n h m : ℕ) (s : Steps n h m) (k : ℕ) → k ≤ s.axis → left k m h ≡ left k n h
  same_before n h m s zero le = refl
  same_before n h m s (suc k) le =
      let a = s.is_axis in
      let e = s.same k (omega (arith, le, a)) (λ e. omega (arith, e, le)) in
      let w = s.still k (omega (arith, le, a)) in
      let r = same_before n h m s k (omega (arith, le)) in
      omega (arith, e, w, r)

  one_off : (a b w : ℕ) → Nearer a b w → (a - w) + (w - a) ≡ suc ((b - w) + (w - b))
  one_off a b w (inl g) = let x = g.0 in let y = g.1 in omega (arith, x, y)
  one_off a b w (inr g) = let x = g.0 in let y = g.1 in omega (arith, x, y)

  one_less : (n h m : ℕ) (s : Steps n h m) (k : ℕ) → s.axis < k → k ≤ d.axes → left k n h ≡ suc (left k m h)
  one_less n h m s zero lt le = absurd (omega (arith, lt))
  one_less n h m s (suc k) lt le = go (λ less. one_less n h m s k less (omega (arith, le))) (eq-or-lt_of_le (omega (arith, lt)))
    where
      go : (s.axis < k → left k n h ≡ suc (left k m h)) → (s.axis ≡ k) ⊎ (s.axis < k) → left (suc k) n h ≡ suc (left (suc k) m h)
      go rest (inl e) =
          let x = one_off (d.coordinate n k) (d.coordinate m k) (d.want n h k) (subst (λ i. Nearer (d.coordinate n i) (d.coordinate m i) (d.want n h i)) e s.nearer) in
          let w = s.still k (omega (arith, le)) in
          let r = same_before n h m s k (omega (arith, e)) in
          omega (arith, x, w, r)
      go rest (inr less) =
          let e = s.same k (omega (arith, le)) (λ e. omega (arith, e, less)) in
          let w = s.still k (omega (arith, le)) in
          let r = rest less in
          omega (arith, e, w, r)

module _ (net : Plan) (d : IsByDimension net Everywhere) (t : TakesOn net d) where
  abbrev hops : ℕ → ℕ → ℕ
  hops n h = suc (steps d.coordinate d.want d.axes n h)

  on_way : (n h link most : ℕ) (far : Port) → hops n h ≤ suc most → LeadsTo net n h link far → (spot : Spot) → far.spot ≡ spot → IsTaken t.serves (t.node h) h spot →
      IsOnWay t.serves hops (t.node h) h most spot
  on_way n h link most far few l (Node m) at x = x
  on_way n h link most far few l (Switch m) at x =
      let s = d.goes n h link m far tt l at in
      let e = one_less net Everywhere d n h m s d.axes s.is_axis (omega arith) in
      (x, omega (arith, few, e))

  from_end : (h : ℕ) (spot : Spot) → IsTaken t.serves (t.node h) h spot → IsOnWay t.serves hops (t.node h) h 32 spot
  from_end h (Node m) x = x
  from_end h (Switch m) x = (x, t.near m h x)

  served : IsServed net
  served = record {
    node = t.node;
    serves = t.serves;
    left = hops;
    some_left = λ n h x. omega arith;
    some_link = t.some_link;
    on = λ n h link most far x few l. on_way n h link most far few l far.spot refl (t.on n h link far x l);
    sends = t.sends;
    ends = t.ends;
    begins = λ k v a far there comes. from_end (end_of v (not a)).block far.spot (t.begins k v a far there comes);
  }

pub dimension_ranks : (net : Plan) (On : ℕ → Type 0) → IsByDimension net On → HasWireRanks net On
dimension_ranks net On d = record { plain = d.plain; one_header = d.one_header; rank = rank net On d; rises = rises net On d }

pub dimension_free : DimensionIsFree
dimension_free net d = wires_rank_ports net (dimension_ranks net Everywhere d)

pub dimension_labelled : DimensionIsLabelled
dimension_labelled net d t = served_labelled net d.plain (served net d t)
