-- Processes, branches and guards, as they are numbered.
use Rattle.std.proofs.Common.{◌≡◌, ℕ, refl, ap, subst, sym, ◌∙◌, List, map}
use Rattle.vc_process.specs.declared.condition.Cond.{Cond}
use Rattle.vc_process.specs.declared.expression.Expr.{Expr}
use Rattle.vc_process.specs.declared.process.Process.{Process}
use Rattle.vc_process.specs.declared.process.Branch.{Branch}
use Rattle.vc_process.specs.declared.process.Guard.{Guard}
use Rattle.vc_process.specs.declared.value.Value.{Value}
use Rattle.vc_process.specs.declared.process.Process.TheVariants as process
use Rattle.vc_process.specs.declared.process.Process.TheViews.{out-Branch, out-Guard, out-Process, roll-Process, roll-out-Process}
use Rattle.vc_process.specs.declared.process.Process.TheOpen as layer
use Rattle.vc_process.specs.declared.process.Process.TheFolds.{fold-roll-Process, fold_out-Branch, fold_out-Guard}
use Rattle.vc_process.specs.InOrder.{branch_layer, guard_layer, number}
use Rattle.vc_process.specs.Private.InOrder.{number_branch, number_guard}
use Rattle.vc_process.specs.Numbering.{Numbered, NumberedBranch, NumberedGuard, numbered, written}
use Rattle.vc_process.specs.Terms.{as_test}

-- a process that is written begins with site 0
pub written_is : (p : Process) → written p ≡ (number p).tree 0
unfolding written number
written_is p = refl

pub number_skip : (p : Process) → p ≡ process.Skip → number p ≡ numbered layer.Skip
unfolding number
number_skip p h = ap number (h ∙ sym process.rolls-Skip) ∙ fold-roll-Process Numbered NumberedBranch NumberedGuard numbered branch_layer guard_layer layer.Skip

pub number_stop : (p : Process) → p ≡ process.Stop → number p ≡ numbered layer.Stop
unfolding number
number_stop p h = ap number (h ∙ sym process.rolls-Stop) ∙ fold-roll-Process Numbered NumberedBranch NumberedGuard numbered branch_layer guard_layer layer.Stop

pub number_set : (p : Process) (v : ℕ) (a : Value) → p ≡ process.Set v a → number p ≡ numbered (layer.Set v a)
unfolding number
number_set p v a h = ap number (h ∙ sym (process.rolls-Set v a)) ∙ fold-roll-Process Numbered NumberedBranch NumberedGuard numbered branch_layer guard_layer (layer.Set v a)

pub number_send : (p : Process) (c : ℕ) (a : Value) → p ≡ process.Send c a → number p ≡ numbered (layer.Send c a)
unfolding number
number_send p c a h = ap number (h ∙ sym (process.rolls-Send c a)) ∙ fold-roll-Process Numbered NumberedBranch NumberedGuard numbered branch_layer guard_layer (layer.Send c a)

pub number_receive : (p : Process) (c v : ℕ) → p ≡ process.Receive c v → number p ≡ numbered (layer.Receive c v)
unfolding number
number_receive p c v h = ap number (h ∙ sym (process.rolls-Receive c v)) ∙ fold-roll-Process Numbered NumberedBranch NumberedGuard numbered branch_layer guard_layer (layer.Receive c v)

pub number_stopch : (p : Process) (c : ℕ) → p ≡ process.Stopch c → number p ≡ numbered (layer.Stopch c)
unfolding number
number_stopch p c h = ap number (h ∙ sym (process.rolls-Stopch c)) ∙ fold-roll-Process Numbered NumberedBranch NumberedGuard numbered branch_layer guard_layer (layer.Stopch c)

pub number_seq : (p : Process) (ps : List Process) → p ≡ process.Seq ps → number p ≡ numbered (layer.Seq (map number ps))
unfolding number
number_seq p ps h = ap number (h ∙ sym (process.rolls-Seq ps)) ∙ fold-roll-Process Numbered NumberedBranch NumberedGuard numbered branch_layer guard_layer (layer.Seq ps)

pub number_par : (p : Process) (ps : List Process) → p ≡ process.Par ps → number p ≡ numbered (layer.Par (map number ps))
unfolding number
number_par p ps h = ap number (h ∙ sym (process.rolls-Par ps)) ∙ fold-roll-Process Numbered NumberedBranch NumberedGuard numbered branch_layer guard_layer (layer.Par ps)

pub number_if : (p : Process) (bs : List Branch) → p ≡ process.If bs → number p ≡ numbered (layer.If (map number_branch bs))
unfolding number number_branch
number_if p bs h = ap number (h ∙ sym (process.rolls-If bs)) ∙ fold-roll-Process Numbered NumberedBranch NumberedGuard numbered branch_layer guard_layer (layer.If bs)

pub number_while : (p : Process) (b : Cond) (q : Process) → p ≡ process.While b q → number p ≡ numbered (layer.While b (number q))
unfolding number
number_while p b q h = ap number (h ∙ sym (process.rolls-While b q)) ∙ fold-roll-Process Numbered NumberedBranch NumberedGuard numbered branch_layer guard_layer (layer.While b q)

pub number_count : (p : Process) (v : ℕ) (a n : Expr) (q : Process) → p ≡ process.Count v a n q → number p ≡ numbered (layer.Count v a n (number q))
unfolding number
number_count p v a n q h = ap number (h ∙ sym (process.rolls-Count v a n q)) ∙ fold-roll-Process Numbered NumberedBranch NumberedGuard numbered branch_layer guard_layer (layer.Count v a n q)

pub number_alt : (p : Process) (gs : List Guard) → p ≡ process.Alt gs → number p ≡ numbered (layer.Alt (map number_guard gs))
unfolding number number_guard
number_alt p gs h = ap number (h ∙ sym (process.rolls-Alt gs)) ∙ fold-roll-Process Numbered NumberedBranch NumberedGuard numbered branch_layer guard_layer (layer.Alt gs)

pub number_branch_out : (b : Branch) → number_branch b ≡ record { when = as_test (out-Branch b).cond; then_do = number (out-Branch b).body }
unfolding number number_branch
number_branch_out = fold_out-Branch Numbered NumberedBranch NumberedGuard numbered branch_layer guard_layer

pub number_guard_out : (g : Guard) → number_guard g ≡ record { when = as_test (out-Guard g).cond; chan = (out-Guard g).chan; var = (out-Guard g).var; then_do = number (out-Guard g).body }
unfolding number number_guard
number_guard_out = fold_out-Guard Numbered NumberedBranch NumberedGuard numbered branch_layer guard_layer

-- a process that has no part, branch, guard or body, by its variant
pub otherwise : (Q : Numbered → Type 0) (p : Process) → ((ps : List Process) → p ≡ process.Seq ps → ⊥) → ((ps : List Process) → p ≡ process.Par ps → ⊥) → ((bs : List Branch) → p ≡ process.If bs → ⊥) → ((t : Cond) (q : Process) → p ≡ process.While t q → ⊥) → ((v : ℕ) (a n : Expr) (q : Process) → p ≡ process.Count v a n q → ⊥) → ((gs : List Guard) → p ≡ process.Alt gs → ⊥) →
    Q (numbered layer.Skip) → Q (numbered layer.Stop) → ((v : ℕ) (a : Value) → p ≡ process.Set v a → Q (numbered (layer.Set v a))) → ((c : ℕ) (a : Value) → p ≡ process.Send c a → Q (numbered (layer.Send c a))) → ((c v : ℕ) → p ≡ process.Receive c v → Q (numbered (layer.Receive c v))) → ((c : ℕ) → p ≡ process.Stopch c → Q (numbered (layer.Stopch c))) → Q (number p)
otherwise Q p no_seq no_par no_if no_while no_count no_alt skip stop assigns outputs inputs stops = by (out-Process p) (sym (roll-out-Process p))
  where
    by : (l : layer.Process-F Process Branch Guard) → p ≡ roll-Process l → Q (number p)
    by layer.Skip h = subst Q (sym (number_skip p (h ∙ process.rolls-Skip))) skip
    by layer.Stop h = subst Q (sym (number_stop p (h ∙ process.rolls-Stop))) stop
    by (layer.Set v a) h = subst Q (sym (number_set p v a (h ∙ process.rolls-Set v a))) (assigns v a (h ∙ process.rolls-Set v a))
    by (layer.Send c a) h = subst Q (sym (number_send p c a (h ∙ process.rolls-Send c a))) (outputs c a (h ∙ process.rolls-Send c a))
    by (layer.Receive c v) h = subst Q (sym (number_receive p c v (h ∙ process.rolls-Receive c v))) (inputs c v (h ∙ process.rolls-Receive c v))
    by (layer.Stopch c) h = subst Q (sym (number_stopch p c (h ∙ process.rolls-Stopch c))) (stops c (h ∙ process.rolls-Stopch c))
    by (layer.Seq ps) h = absurd (no_seq ps (h ∙ process.rolls-Seq ps))
    by (layer.Par ps) h = absurd (no_par ps (h ∙ process.rolls-Par ps))
    by (layer.If bs) h = absurd (no_if bs (h ∙ process.rolls-If bs))
    by (layer.While t q) h = absurd (no_while t q (h ∙ process.rolls-While t q))
    by (layer.Count v a n q) h = absurd (no_count v a n q (h ∙ process.rolls-Count v a n q))
    by (layer.Alt gs) h = absurd (no_alt gs (h ∙ process.rolls-Alt gs))
