-- Where parts of both kinds have ranks of wires, all have them: each wire its kind's.
use Rattle.std.proofs.Common.{◌≡◌, ℕ, ◌<◌, Bool, true, false, refl, ap, ◌∙◌, arith}
use Rattle.vc_plan.specs.declared.plan.Plan.{Plan}
use Rattle.vc_plan.specs.declared.port.Port.{Port}
use Rattle.vc_plan.specs.declared.port.Spot.{Spot}
use Rattle.vc_plan.specs.declared.port.Spot.TheVariants.{Switch}
use Rattle.vc_label_laws.proofs.Dimension.{dimension_ranks}
use Rattle.vc_label_laws.proofs.UpAndDown.{up_and_down_ranks}
use Rattle.vc_label_laws.proofs.WireRanks.{HasWireRanks, wires_rank_ports}
use Rattle.vc_label_laws.specs.OneHeader.{LeadsTo}
use Rattle.vc_label_laws.specs.Parts.{AreApart, PartsAreFree}

abbrev pick : Bool → ℕ → ℕ → ℕ
pick true x y = x
pick false x y = y

module _ (net : Plan) (kind : ℕ → Bool) (apart : AreApart net kind) (a : HasWireRanks net (λ n. kind n ≡ true)) (b : HasWireRanks net (λ n. kind n ≡ false)) where
  abbrev rank : ℕ → Spot → ℕ
  rank n spot = pick (kind n) (a.rank n spot) (b.rank n spot)

  rises : (n h link m next : ℕ) (far next_far : Port) → LeadsTo net n h link far → far.spot ≡ Switch m → LeadsTo net m h next next_far → rank n (Switch m) < rank m next_far.spot
  rises n h link m next far next_far l at k = by (kind n) refl
    where
      by : (t : Bool) → kind n ≡ t → rank n (Switch m) < rank m next_far.spot
      by true e =
          let f : kind m ≡ true = apart n h link m far l at ∙ e in
          let r = a.rises n h link m next far next_far e f l at k in
          let x : rank n (Switch m) ≡ a.rank n (Switch m) = ap (λ z. pick z (a.rank n (Switch m)) (b.rank n (Switch m))) e in
          let y : rank m next_far.spot ≡ a.rank m next_far.spot = ap (λ z. pick z (a.rank m next_far.spot) (b.rank m next_far.spot)) f in
          omega (arith, r, x, y)
      by false e =
          let f : kind m ≡ false = apart n h link m far l at ∙ e in
          let r = b.rises n h link m next far next_far e f l at k in
          let x : rank n (Switch m) ≡ b.rank n (Switch m) = ap (λ z. pick z (a.rank n (Switch m)) (b.rank n (Switch m))) e in
          let y : rank m next_far.spot ≡ b.rank m next_far.spot = ap (λ z. pick z (a.rank m next_far.spot) (b.rank m next_far.spot)) f in
          omega (arith, r, x, y)

pub parts_free : PartsAreFree
parts_free net kind apart d u =
    let a = dimension_ranks net (λ n. kind n ≡ true) d in
    let b = up_and_down_ranks net (λ n. kind n ≡ false) u in
    wires_rank_ports net (record {
      plain = d.plain;
      one_header = d.one_header;
      rank = rank net kind apart a b;
      rises = λ n h link m next far next_far _ _ l at k. rises net kind apart a b n h link m next far next_far l at k;
    })
