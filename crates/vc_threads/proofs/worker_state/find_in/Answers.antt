use Rattle.std.proofs.Common.{◌≡◌, ℕ, ◌+◌, ◌<◌, ◌≤◌, List, length, get_or, refl, subst, sym, ap, ◌∙◌, arith, inl, inr}
use Rattle.std.proofs.Math.ListN.{set}
use Rattle.std.proofs.lemmas.List.{get_or-set_same, get_or-set_other}
use Rattle.std.proofs.lemmas.Bool.Decides.{eqb_tells}
use Rattle.vc_actor.specs.ActorView.{Acting}
use Rattle.vc_threads.specs.Wires.{InLooked}
use Rattle.vc_threads.specs.Works.{In, CanTake}
use Rattle.vc_threads.specs.Private.Least.{IsFound, IsLeast}
use Rattle.vc_threads.proofs.Zips.{zip_same, zip_step}
use Rattle.vc_threads.proofs.Looks.{in_looked_same, in_looked_then}
use Rattle.vc_threads.proofs.worker_state.find_in.Goals as goal
use Rattle.vc_threads.proofs.worker_state.find_in.Goals.{then-can_take_below, else-can_take_below}

-- the k-th end was looked at, and is this one now
module _ (x : Acting) (ins : List In) (k : ℕ) (y : In) (within : k < length ins) where
  itself : (j : ℕ) (d : In) → j ≡ k → get_or (set ins k y) j d ≡ y
  itself j d same = ap (λ n. get_or (set ins k y) n d) same ∙ get_or-set_same ins k y d within

  found_now : CanTake x y → (least : ℕ) → least ≡ y.0 → IsFound x (set ins k y) (k + 1) k least
  found_now can least is low = (
    omega arith,
    λ d. subst (λ (e : In). (e.0 ≡ least) × CanTake x e) (sym (get_or-set_same ins k y d within)) (sym is, can),
  )

  found_before : (place least : ℕ) → IsFound x ins k place least → IsFound x (set ins k y) (k + 1) place least
  found_before place least had low =
      let found = had low in
      let before = found.0 in (
        omega (arith, before),
        λ d. subst (λ (e : In). (e.0 ≡ least) × CanTake x e) (sym (get_or-set_other ins k place y d (λ same. absurd (omega (arith, before, same))))) (found.1 d),
      )

  least_of : (least next : ℕ) → IsLeast x ins k least → next ≤ least → (CanTake x y → next ≤ y.0) → IsLeast x (set ins k y) (k + 1) next
  least_of least next had below own j d less can =
      elim (eqb_tells j k) [
        | inl t ↦
            let is = itself j d t.1 in
            subst (λ (e : In). next ≤ e.0) (sym is) (own (subst (CanTake x) is can))
        | inr f ↦
            let apart = f.1 in
            let is = get_or-set_other ins k j y d apart in
            let least_is = had j d (omega (arith, less, apart)) (subst (CanTake x) is can) in
            subst (λ (e : In). next ≤ e.0) (sym is) (omega (arith, below, least_is))
      ]

pub loop-k-init : goal.loop-k-init
loop-k-init c = (zip_same InLooked in_looked_same c.args.ins.now, λ low. absurd (omega (arith, low)), λ j d less can. absurd (omega (arith, less)))

pub loop-k-preserved : goal.loop-k-preserved
loop-k-preserved c =
    let x = c.args.actor.now in
    let ins = c.loop-k.ins in
    let k = c.loop-k.k in
    let y = c.can_take_below.new.end in
    let within : k < length ins = omega arith in
    let had = c.loop-k.invariant in
    let new = set ins k y in
    let place = c.if-can_take_below.place in
    let least = c.if-can_take_below.least in
    let looked = zip_step InLooked in_looked_then c.args.ins.now ins k c.index-ins-k.result y had.0 within c.can_take_below.ensures.looked in
    elim c.if-can_take_below.branch [
      | then-can_take_below w ↦
          let at = w.index-ins-k-then-can_take_below in
          let is : least ≡ y.0 = w.least-is ∙ ap (λ (e : In). e.0) (itself x ins k y within k at.result refl) in
          let below = c.can_take_below.ensures.below w.if-can_take_below.true in
          let found = subst (λ p. IsFound x new (k + 1) p least) (sym w.place-is) (found_now x ins k y within below.1 least is) in
          let less = below.0 in
          (looked, found, least_of x ins k y within c.loop-k.least least had.2 (omega (arith, is, less)) (λ can. omega (arith, is)))
      | else-can_take_below w ↦
          let found = subst (λ l. IsFound x new (k + 1) place l) (sym w.least-is) (subst (λ p. IsFound x new (k + 1) p c.loop-k.least) (sym w.place-is) (found_before x ins k y within c.loop-k.place c.loop-k.least had.1)) in
          let same = w.least-is in
          (looked, found, least_of x ins k y within c.loop-k.least least had.2 (omega (arith, same)) (λ can. subst (λ l. l ≤ y.0) (sym same) (c.can_take_below.ensures.not_below w.if-can_take_below.false can)))
    ]
