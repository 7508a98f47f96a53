use Rattle.std.proofs.Common.{◌≡◌, ◌∙◌, ◌+◌, ◌<◌, ℕ, List, [], ◌∷◌, ◌++◌, refl, sym, ap, append_assoc, arith}
use Rattle.std.proofs.lemmas.List.{append-nil, nil_from_length}
use Rattle.vc_process.specs.declared.process.Process.{Process}
use Rattle.vc_plan.specs.declared.node_plan.NodePlan.{NodePlan}
use Rattle.vc_plan.specs.declared.node_plan.Variable.{Variable}
use Rattle.vc_reader.specs.declared.node.Head.{Head}
use Rattle.vc_reader.specs.NetworkText.{node_plans}
use Rattle.vc_reader.proofs.network.joined.Goals as goal

abbrev node : Head → Process → List Variable → NodePlan
node h p vars = record { name = h.name; vars = vars; process = p }

-- one more node is made
one-more : (nodes more all : List NodePlan) (heads heads' : List Head) (ps ps' : List Process) (h : Head) (p : Process) (vars : List Variable) →
    heads ≡ h ∷ heads' → ps ≡ p ∷ ps' → vars ≡ h.vars → more ≡ nodes ++ node h p vars ∷ [] → nodes ++ node_plans heads ps ≡ all → more ++ node_plans heads' ps' ≡ all
one-more nodes more all heads heads' ps ps' h p vars eh ep ev em r =
    ap (λ m. m ++ node_plans heads' ps') em ∙ append_assoc nodes (node h p vars ∷ []) (node_plans heads' ps') ∙ ap (λ v. nodes ++ node h p v ∷ node_plans heads' ps') ev
    ∙ sym (ap (λ xs. nodes ++ node_plans xs ps) eh ∙ ap (λ ys. nodes ++ node_plans (h ∷ heads') ys) ep) ∙ r

pub loop-head-preserved : goal.loop-head-preserved
loop-head-preserved c =
    one-more c.loop-head.nodes c.push.new.self _ _ _ _ _ c.in-Some.head c.in-Some-next.process c.into_items.result
    c.in-Some.ensures.items c.in-Some-next.ensures.items c.into_items.ensures c.in_ok-push.ensures.ok c.loop-head.invariant

-- nothing is made at first
begins : (nodes : List NodePlan) (heads hs : List Head) (processes ps : List Process) → nodes ≡ [] → hs ≡ heads → ps ≡ processes → nodes ++ node_plans hs ps ≡ node_plans heads processes
begins nodes heads hs processes ps en eh ep = ap (λ n. n ++ node_plans hs ps) en ∙ ap (λ h. node_plans h ps) eh ∙ ap (λ p. node_plans heads p) ep

-- no head or no process is left
no-head : (nodes all : List NodePlan) (hs : List Head) (ps : List Process) → hs ≡ [] → nodes ++ node_plans hs ps ≡ all → nodes ≡ all
no-head nodes all hs ps e r = sym (append-nil nodes) ∙ sym (ap (λ h. nodes ++ node_plans h ps) e) ∙ r

without : (hs : List Head) → node_plans hs [] ≡ []
without [] = refl
without (h ∷ hs) = refl

no-process : (nodes all : List NodePlan) (hs : List Head) (ps : List Process) → ps ≡ [] → nodes ++ node_plans hs ps ≡ all → nodes ≡ all
no-process nodes all hs ps e r = sym (append-nil nodes) ∙ sym (ap (λ m. nodes ++ m) (ap (λ p. node_plans hs p) e ∙ without hs)) ∙ r

fewer : (after before : ℕ) → after + 1 ≡ before → after < before
fewer after before e = omega arith

pub loop-head-init : goal.loop-head-init
loop-head-init c =
    begins c.new-nodes.result c.args.heads _ c.args.processes _ c.new-nodes.ensures (c.into_iter-heads.ensures.rest ∙ c.in_ok-taken_apart.ensures) (c.into_iter-processes.ensures.rest ∙ c.in_ok-taken_apart-2.ensures)

pub loop-head-smaller : goal.loop-head-smaller
loop-head-smaller c = fewer _ _ c.in-Some.ensures.len

pub returns-in_default-next : goal.returns-in_default-next
returns-in_default-next c = no-process _ _ _ _ (nil_from_length _ (sym c.loop-head.processes.rest.ok.0 ∙ c.in_default-next.ensures.cases.0)) c.loop-head.invariant

pub returns : goal.returns
returns c = no-head _ _ _ _ (nil_from_length _ (sym c.loop-head.heads.rest.ok.0 ∙ c.in_default.ensures.cases.0)) c.loop-head.invariant
