-- Labels that go up and then down have ranks: of a wire up it falls with the place of the switch before it, of a wire down it rises with it.
use Rattle.std.proofs.Common.{◌≡◌, ◌⊎◌, inl, inr, ℕ, suc, ◌+◌, ◌-◌, ◌<◌, Bool, true, false, nat_lt, refl, sym, ◌∙◌, arith}
use Rattle.std.proofs.lemmas.Bool.Decides.{Decides-ltb}
use Rattle.vc_plan.specs.declared.plan.Plan.{Plan}
use Rattle.vc_plan.specs.declared.port.Port.{Port}
use Rattle.vc_plan.specs.declared.port.Spot.{Spot}
use Rattle.vc_plan.specs.declared.port.Spot.TheVariants.{Node, Switch}
use Rattle.vc_label_laws.proofs.WireRanks.{HasWireRanks, wires_rank_ports}
use Rattle.vc_label_laws.specs.OneHeader.{Everywhere, LeadsTo}
use Rattle.vc_label_laws.specs.UpAndDown.{Goes, IsUpAndDown, UpAndDownIsFree}

module _ (net : Plan) (On : ℕ → Type 0) (u : IsUpAndDown net On) where
  abbrev top : ℕ
  top = u.most + (u.most + 2)

  -- of a wire from switch n to what is across: up the less the greater n's place is, and down the more
  abbrev by_side : Bool → ℕ → ℕ
  by_side true n = u.most - u.place n
  by_side false n = suc (u.most + u.place n)

  abbrev rank : ℕ → Spot → ℕ
  rank n (Node m) = top
  rank n (Switch m) = by_side (nat_lt (u.place m) (u.place n)) n

  -- what the rank of a wire from switch n is, by which packets with the header h leave
  abbrev IsRank : ℕ → ℕ → ℕ → Type 0
  IsRank n h r = (r ≡ top) ⊎ ((r + u.place n ≡ u.most) × (u.down n h ≡ false)) ⊎ ((r ≡ suc (u.most + u.place n)) × (u.down n h ≡ true))

  up_rank : (n m : ℕ) → u.place m < u.place n → rank n (Switch m) + u.place n ≡ u.most
  up_rank n m lt = rw ((Decides-ltb (u.place m) (u.place n)).1 lt) (let b = u.places n in omega (arith, b))

  down_side : (n m : ℕ) (b : Bool) → nat_lt (u.place m) (u.place n) ≡ b → u.place n < u.place m → by_side b n ≡ suc (u.most + u.place n)
  down_side n m true e lt = absurd (let less = (Decides-ltb (u.place m) (u.place n)).0 e in omega (arith, less, lt))
  down_side n m false e lt = refl

  down_rank : (n m : ℕ) → u.place n < u.place m → rank n (Switch m) ≡ suc (u.most + u.place n)
  down_rank n m lt = down_side n m (nat_lt (u.place m) (u.place n)) refl lt

  goes_rank : (n h m : ℕ) → Goes u.place u.down n h m → IsRank n h (rank n (Switch m))
  goes_rank n h m (inl g) = inr (inl (up_rank n m g.0, g.1))
  goes_rank n h m (inr g) = inr (inr (down_rank n m g.0, g.1))

  -- a switch's wire has such a rank
  out_rank : (n h link : ℕ) (q : Port) → On n → LeadsTo net n h link q → (spot : Spot) → q.spot ≡ spot → IsRank n h (rank n spot)
  out_rank n h link q on l (Node m) at = inl refl
  out_rank n h link q on l (Switch m) at = goes_rank n h m (u.goes n h link m q on l at)

  -- up before up or down, down before down, and all before a node
  rises_on : (n m h r : ℕ) → Goes u.place u.down n h m → IsRank m h r → rank n (Switch m) < r
  rises_on n m h r (inl g) k = let x = up_rank n m g.0 in let lt = g.0 in go x lt k
    where
      go : rank n (Switch m) + u.place n ≡ u.most → u.place m < u.place n → IsRank m h r → rank n (Switch m) < r
      go x lt (inl e) = omega (arith, x, e)
      go x lt (inr (inl e)) = let y = e.0 in omega (arith, x, lt, y)
      go x lt (inr (inr e)) = let y = e.0 in omega (arith, x, y)
  rises_on n m h r (inr g) k = let x = down_rank n m g.0 in let lt = g.0 in let b = u.places n in go x lt b g.2 k
    where
      go : rank n (Switch m) ≡ suc (u.most + u.place n) → u.place n < u.place m → u.place n < u.most → u.down m h ≡ true → IsRank m h r → rank n (Switch m) < r
      go x lt b d (inl e) = omega (arith, x, b, e)
      go x lt b d (inr (inl e)) = absurd (let f : true ≡ false = sym d ∙ e.1 in cc)
      go x lt b d (inr (inr e)) = let y = e.0 in omega (arith, x, lt, y)

  rises : (n h link m next : ℕ) (far next_far : Port) → On n → On m → LeadsTo net n h link far → far.spot ≡ Switch m → LeadsTo net m h next next_far → rank n (Switch m) < rank m next_far.spot
  rises n h link m next far next_far a b l at k = rises_on n m h (rank m next_far.spot) (u.goes n h link m far a l at) (out_rank m h next next_far b k next_far.spot refl)

pub up_and_down_ranks : (net : Plan) (On : ℕ → Type 0) → IsUpAndDown net On → HasWireRanks net On
up_and_down_ranks net On u = record { plain = u.plain; one_header = u.one_header; rank = rank net On u; rises = rises net On u }

pub up_and_down_free : UpAndDownIsFree
up_and_down_free net u = wires_rank_ports net (up_and_down_ranks net Everywhere u)
