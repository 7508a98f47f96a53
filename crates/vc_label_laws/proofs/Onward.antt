-- At a switch that is plain a packet with one header keeps it, and leaves by a link of the header's group. The answer that it leaves by
-- links f to l is written as what comes of the action `Out f l`, since vc_plan does not show its type.
use Rattle.std.proofs.Common.{◌≡◌, ℕ, List, [], ◌∷◌, Option, Some, None, refl, ap, subst, ◌∙◌}
use Rattle.vc_labels.specs.declared.action.Action.{Action}
use Rattle.vc_labels.specs.declared.action.Action.TheVariants.{Out, Portal}
use Rattle.vc_labels.specs.Interval.{action_for}
use Rattle.vc_plan.specs.declared.path_fault.Hop.{Hop}
use Rattle.vc_plan.specs.declared.plan.Plan.{Plan}
use Rattle.vc_plan.specs.declared.port.Port.{Port}
use Rattle.vc_plan.specs.declared.switch_plan.RandomInput.{RandomInput}
use Rattle.vc_plan.specs.declared.switch_plan.SwitchPlan.{SwitchPlan}
use Rattle.vc_plan.specs.Hops.{IsHop, IsDrawn, random_at, range_in, passage, passage_at, by_action, look_up, left_by, after_link}
use Rattle.vc_plan.specs.Wires.{switch_at}
use Rattle.vc_label_laws.specs.OneHeader.{ArePlain, Leads}

pub none_drawn : (rs : List RandomInput) (link : ℕ) (v : Option ℕ) → rs ≡ [] → IsDrawn (random_at rs link) v → v ≡ None
none_drawn rs link v e d = go v (subst (λ xs. IsDrawn (random_at xs link) v) e d)
  where
    go : (v : Option ℕ) → IsDrawn None v → v ≡ None
    go None d = refl
    go (Some x) d = absurd d

-- the header's group, and the same header behind the switch
record Passed (rows : SwitchPlan) (h first last : ℕ) (out : List ℕ) : Type 0 where
  group : action_for rows.rows h ≡ Some (Out first last)
  same : out ≡ h ∷ []

passed_by : (sp : SwitchPlan) (h f l : ℕ) (out : List ℕ) (a : Option Action) → action_for sp.rows h ≡ a → by_action a (h ∷ []) (look_up [] []) ≡ by_action (Some (Out f l)) out (look_up [] []) → Passed sp h f l out
passed_by sp h f l out None e g = absurd cc
passed_by sp h f l out (Some Portal) e g = absurd cc
passed_by sp h f l out (Some (Out i j)) e g =
    let a : i ≡ f = cc in
    let b : j ≡ l = cc in
    record { group = e ∙ ap (λ z. Some (Out z j)) a ∙ ap (λ z. Some (Out f z)) b; same = cc }

plain_passes : (sp : SwitchPlan) (h f l : ℕ) (out : List ℕ) (v : Option ℕ) → v ≡ None → passage sp.rows v (h ∷ []) ≡ by_action (Some (Out f l)) out (look_up [] []) → Passed sp h f l out
plain_passes sp h f l out v e g =
    passed_by sp h f l out (action_for sp.rows h) refl (subst (λ w. passage sp.rows w (h ∷ []) ≡ by_action (Some (Out f l)) out (look_up [] [])) e g)

-- a packet with one header keeps it, and leaves by its group
pub record Onward (net : Plan) (h : ℕ) (hop : Hop) (t : List ℕ) : Type 0 where
  pub same : t ≡ h ∷ []
  pub leads : Leads net hop.switch h hop.link

pub onward : (net : Plan) → ArePlain net → (p : Port) (s : List ℕ) (hop : Hop) (q : Port) (t : List ℕ) (h : ℕ) → s ≡ h ∷ [] → IsHop net p s hop q t → Onward net h hop t
onward net plains p s hop q t h e i = go (switch_at net hop.switch) refl
  where
    go : (o : Option SwitchPlan) → switch_at net hop.switch ≡ o → Onward net h hop t
    go None at = absurd (let c : passage_at None hop.value s ≡ by_action (Some (Out i.first i.last)) i.out (look_up [] []) = subst (λ z. passage_at z hop.value s ≡ by_action (Some (Out i.first i.last)) i.out (look_up [] [])) at i.goes in cc)
    go (Some sp) at =
        let plain = plains hop.switch sp at in
        let drawn : IsDrawn (random_at sp.random p.link) hop.value = subst (λ z. IsDrawn (range_in z p.link) hop.value) at i.drawn in
        let none = none_drawn sp.random p.link hop.value plain.random drawn in
        let here : passage sp.rows hop.value s ≡ by_action (Some (Out i.first i.last)) i.out (look_up [] []) = subst (λ z. passage_at z hop.value s ≡ by_action (Some (Out i.first i.last)) i.out (look_up [] [])) at i.goes in
        let passed = plain_passes sp h i.first i.last i.out hop.value none (subst (λ z. passage sp.rows hop.value z ≡ by_action (Some (Out i.first i.last)) i.out (look_up [] [])) e here) in
        let left : t ≡ after_link sp.delete hop.link i.out = i.left ∙ ap (λ z. left_by z hop.link i.out) at in
        let kept : after_link sp.delete hop.link i.out ≡ h ∷ [] = ap (λ z. after_link z hop.link i.out) plain.delete ∙ ap (λ z. after_link [] hop.link z) passed.same in
        record {
          same = left ∙ kept;
          leads = record { switch = sp; first = i.first; last = i.last; there = at; group = passed.group; low = i.low; high = i.high };
        }
