-- A process that is numbered, by its word.
use Rattle.std.proofs.Common.{◌≡◌, ℕ, subst, sym, ◌∙◌, List, map}
use Rattle.vc_process.specs.declared.condition.Cond.{Cond}
use Rattle.vc_process.specs.declared.expression.Expr.{Expr}
use Rattle.vc_process.specs.declared.process.Branch.{Branch}
use Rattle.vc_process.specs.declared.process.Guard.{Guard}
use Rattle.vc_process.specs.declared.process.Process.{Process}
use Rattle.vc_process.specs.declared.process.Process.TheOpen as layer
use Rattle.vc_process.specs.declared.process.Process.TheVariants as process
use Rattle.vc_process.specs.declared.process.Process.TheViews.{out-Process, roll-Process, roll-out-Process}
use Rattle.vc_process.specs.declared.value.Value.{Value}
use Rattle.vc_process.specs.InOrder.{number}
use Rattle.vc_process.specs.Private.InOrder.{number_branch, number_guard}
use Rattle.vc_process.specs.Numbering.{Numbered, numbered}
use Rattle.vc_process.proofs.Numbers.{number_alt, number_count, number_if, number_par, number_receive, number_send, number_seq, number_set, number_skip, number_stop, number_stopch, number_while}

-- what holds of each word holds of a process
pub record Each (Q : Numbered → Type 0) (p : Process) : Type 0 where
  pub skip : p ≡ process.Skip → Q (numbered layer.Skip)
  pub stop : p ≡ process.Stop → Q (numbered layer.Stop)
  pub assign : (v : ℕ) (a : Value) → p ≡ process.Set v a → Q (numbered (layer.Set v a))
  pub output : (c : ℕ) (a : Value) → p ≡ process.Send c a → Q (numbered (layer.Send c a))
  pub input : (c v : ℕ) → p ≡ process.Receive c v → Q (numbered (layer.Receive c v))
  pub stops : (c : ℕ) → p ≡ process.Stopch c → Q (numbered (layer.Stopch c))
  pub seq : (ps : List Process) → p ≡ process.Seq ps → Q (numbered (layer.Seq (map number ps)))
  pub par : (ps : List Process) → p ≡ process.Par ps → Q (numbered (layer.Par (map number ps)))
  pub choice : (bs : List Branch) → p ≡ process.If bs → Q (numbered (layer.If (map number_branch bs)))
  pub loop : (t : Cond) (q : Process) → p ≡ process.While t q → Q (numbered (layer.While t (number q)))
  pub count : (v : ℕ) (a n : Expr) (q : Process) → p ≡ process.Count v a n q → Q (numbered (layer.Count v a n (number q)))
  pub alt : (gs : List Guard) → p ≡ process.Alt gs → Q (numbered (layer.Alt (map number_guard gs)))

pub by_word : (Q : Numbered → Type 0) (p : Process) → Each Q p → Q (number p)
by_word Q p e = by (out-Process p) (sym (roll-out-Process p))
  where
    by : (l : layer.Process-F Process Branch Guard) → p ≡ roll-Process l → Q (number p)
    by layer.Skip h = subst Q (sym (number_skip p (h ∙ process.rolls-Skip))) (e.skip (h ∙ process.rolls-Skip))
    by layer.Stop h = subst Q (sym (number_stop p (h ∙ process.rolls-Stop))) (e.stop (h ∙ process.rolls-Stop))
    by (layer.Set v a) h = subst Q (sym (number_set p v a (h ∙ process.rolls-Set v a))) (e.assign v a (h ∙ process.rolls-Set v a))
    by (layer.Send c a) h = subst Q (sym (number_send p c a (h ∙ process.rolls-Send c a))) (e.output c a (h ∙ process.rolls-Send c a))
    by (layer.Receive c v) h = subst Q (sym (number_receive p c v (h ∙ process.rolls-Receive c v))) (e.input c v (h ∙ process.rolls-Receive c v))
    by (layer.Stopch c) h = subst Q (sym (number_stopch p c (h ∙ process.rolls-Stopch c))) (e.stops c (h ∙ process.rolls-Stopch c))
    by (layer.Seq ps) h = subst Q (sym (number_seq p ps (h ∙ process.rolls-Seq ps))) (e.seq ps (h ∙ process.rolls-Seq ps))
    by (layer.Par ps) h = subst Q (sym (number_par p ps (h ∙ process.rolls-Par ps))) (e.par ps (h ∙ process.rolls-Par ps))
    by (layer.If bs) h = subst Q (sym (number_if p bs (h ∙ process.rolls-If bs))) (e.choice bs (h ∙ process.rolls-If bs))
    by (layer.While t q) h = subst Q (sym (number_while p t q (h ∙ process.rolls-While t q))) (e.loop t q (h ∙ process.rolls-While t q))
    by (layer.Count v a n q) h = subst Q (sym (number_count p v a n q (h ∙ process.rolls-Count v a n q))) (e.count v a n q (h ∙ process.rolls-Count v a n q))
    by (layer.Alt gs) h = subst Q (sym (number_alt p gs (h ∙ process.rolls-Alt gs))) (e.alt gs (h ∙ process.rolls-Alt gs))
