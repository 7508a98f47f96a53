-- A switch of an accepted plan can be built, and is what the plan says of it.
use Rattle.std.proofs.Common.{◌≡◌, ℕ, ◌<◌, Bool, true, false, ◌&&◌, ◌||◌, ◌==◌, nat_le, List, [], ◌∷◌, slice_get, Some, Result, Ok, Err, IfOk, refl, ap, ◌∙◌, arith, if◌then◌else◌}
use Rattle.std.proofs.lemmas.Bool.Decides.{nat_tests}
use Rattle.std.proofs.lemmas.Bool.{and_parts}
use Rattle.std.specs.List.{list_all, AllByRecursion}
use mathlib.Core.Path.{fun_ext}
use Rattle.vc_labels.specs.Fault.{table_fault}
use Rattle.vc_labels.proofs.Tables.{faultless_are_lawful}
use Rattle.std.specs.Prelude.{None}
use Rattle.vc_plan.specs.declared.plan.Plan.{Plan}
use Rattle.vc_plan.specs.declared.switch_plan.RandomInput.{RandomInput}
use Rattle.vc_plan.specs.declared.switch_plan.SwitchPlan.{SwitchPlan}
use Rattle.vc_plan.specs.Accepted.{IsAccepted}
use Rattle.vc_plan.specs.Hops.{random_at}
use Rattle.vc_plan.specs.Hops as hops
use Rattle.vc_plan.specs.Limits.{wire_ok, ends_ok, switch_links_ok, range_ok, random_ok, links_differ}
use Rattle.vc_plan.proofs.Limits.{passes}
use Rattle.vc_accepted.specs.NetworkOf.{switch_of}
use Rattle.vc_accepted.specs.NetworkOf as to
use Rattle.vc_accepted.proofs.Limits.{kept}
use Rattle.vc_switch.specs.Opening.{IsRandomInput, range_given, plan_given}
use Rattle.vc_switch.specs.Opening as opening
use Rattle.vc_switch.specs.SwitchView.{seen}
use Rattle.vc_switch.specs.State.{State, interval_of, plan_of, limit_of}
use Rattle.vc_switch.specs.Switch.{new_switch}
use Rattle.vc_switch.specs.declared.switch_plan.SwitchPlan.{SwitchPlan as Given}
use Rattle.vc_actor.specs.Private.Begin.{IsBuilt, range_of, ranges_given}

-- its links are links of a switch, and its ranges have headers

pub links_small : (ls : List ℕ) → list_all (λ l. nat_le l 31) ls ≡ true → AllByRecursion (λ link. link < 32) ls
links_small [] h = tt
links_small (l ∷ ls) h =
    let t = and_parts (nat_le l 31) (list_all (λ k. nat_le k 31) ls) h in
    let few = t.0 in
    (grind (arith, nat_tests), links_small ls t.1)

range_fits : (r : RandomInput) → range_ok r ≡ true → nat_le r.link 31 ≡ true → IsRandomInput (range_of r)
range_fits r h few = record { link = grind (arith, nat_tests); some = grind (arith, nat_tests); small = grind (arith, nat_tests) }

pub ranges_fit : (rs : List RandomInput) → list_all range_ok rs ≡ true → list_all (λ (r : RandomInput). nat_le r.link 31) rs ≡ true → AllByRecursion IsRandomInput (ranges_given rs)
ranges_fit [] h few = tt
ranges_fit (r ∷ rs) h few =
    let a = and_parts (range_ok r) (list_all range_ok rs) h in
    let b = and_parts (nat_le r.link 31) (list_all (λ (x : RandomInput). nat_le x.link 31) rs) few in
    (range_fits r a.0 b.0, ranges_fit rs a.1 b.1)

-- an accepted plan's switch is so
pub given_links : (p : Plan) → IsAccepted p → (k : ℕ) (s : SwitchPlan) → slice_get p.switches k ≡ Some s → switch_links_ok s ≡ true
given_links p acc k s e =
    passes switch_links_ok p.switches k s (and_parts (list_all ends_ok p.vlinks) (list_all switch_links_ok p.switches) (and_parts (list_all wire_ok p.wires) (list_all ends_ok p.vlinks && list_all switch_links_ok p.switches) (kept p acc).links).1).1 e

pub given_ranges : (p : Plan) → IsAccepted p → (k : ℕ) (s : SwitchPlan) → slice_get p.switches k ≡ Some s → list_all range_ok s.random ≡ true
given_ranges p acc k s e = (and_parts (list_all range_ok s.random) (links_differ s.random) (passes random_ok p.switches k s (kept p acc).random e)).0

pub given_table : (p : Plan) → IsAccepted p → (k : ℕ) (s : SwitchPlan) → slice_get p.switches k ≡ Some s → table_fault s.rows ≡ None
given_table p acc k s e = (faultless_are_lawful s.rows).1 (acc.tables k s e).table

-- what it is given is what the plan says

range_same : (rs : List RandomInput) (link : ℕ) → interval_of (range_given (ranges_given rs) link) ≡ to.interval_of (random_at rs link)
range_same [] link = refl
range_same (r ∷ rs) link = by_test (r.link == link) (range_same rs link)
  where
    by_test : (b : Bool) → interval_of (range_given (ranges_given rs) link) ≡ to.interval_of (random_at rs link) →
        interval_of (if b then Some (record { lower = r.lower; limit = r.limit }) else range_given (ranges_given rs) link) ≡ to.interval_of (if b then Some r else random_at rs link)
    by_test true h = refl
    by_test false h = h

deletes_same : (ls : List ℕ) (link : ℕ) → opening.deletes ls link ≡ hops.deletes ls link
deletes_same [] link = refl
deletes_same (l ∷ ls) link = ap (λ b. l == link || b) (deletes_same ls link)

pub plan_same : (given : Given) (s : SwitchPlan) → given.table ≡ s.rows → given.delete.now ≡ s.delete → given.random.now ≡ ranges_given s.random → plan_given given ≡ switch_of s
plan_same given s table delete random = λ i. record {
  table = table i;
  random = fun_ext (λ link. ap (λ rs. interval_of (range_given rs link)) random ∙ range_same s.random link) i;
  deletes = fun_ext (λ link. ap (λ ls. opening.deletes ls link) delete ∙ deletes_same s.delete link) i;
}

pub built : {E : Type 0} (p : SwitchPlan) (given : Given) (most : ℕ) (r : Result State E) → given.table ≡ p.rows → given.delete.now ≡ p.delete → given.random.now ≡ ranges_given p.random →
    IfOk r (λ s. seen s ≡ new_switch) → IfOk r (λ s. plan_of s ≡ plan_given given) → IfOk r (λ s. limit_of s.inputs ≡ most) → IfOk r (IsBuilt p most)
built p given most (Ok s) table delete random empty plan limit = record { empty = empty; plan = plan ∙ plan_same given p table delete random; limit = limit }
built p given most (Err e) table delete random empty plan limit = tt
