-- What is asked of each process within a process that was read.
use Rattle.std.proofs.Common.{◌≡◌, ◌∙◌, ℕ, zero, suc, ◌+◌, List, [], ◌∷◌, ◌++◌, map, refl, sym, ap, subst, Bool, true, false, ◌&&◌, if◌then◌else◌, Option, Some, None, Result, Ok}
use Rattle.std.specs.List.{AllByRecursion}
use Rattle.std.specs.Str.{bytes_eq}
use Rattle.std.specs.Prelude.{codes}
use Rattle.serde_json.specs.Data.{Data, string}
use Rattle.vc_process.specs.declared.condition.Cond.{Cond}
use Rattle.vc_process.specs.declared.expression.Expr.{Expr}
use Rattle.vc_process.specs.declared.process.Branch.{Branch}
use Rattle.vc_process.specs.declared.process.Guard.{Guard}
use Rattle.vc_process.specs.declared.process.Process.{Process}
use Rattle.vc_process.specs.declared.process.Process.TheVariants as process
use Rattle.vc_process.specs.declared.value_kind.ValueKind.{ValueKind}
use Rattle.vc_process.specs.declared.value_kind.ValueKind.TheVariants as kind
use Rattle.vc_process.specs.Private.Questions.{Asking, everywhere, in_parts, in_branches, in_guards}
use Rattle.vc_process.specs.InOrder.{number}
use Rattle.vc_process.specs.Private.InOrder.{number_branch, number_guard}
use Rattle.vc_process.specs.Numbering.{Numbered, NumberedBranch, NumberedGuard, parts_from, branches_from, guards_from}
use Rattle.vc_process.specs.Syntax.{Proc, SKIP, STOP, SEQ, PAR, IF, WHILE, COUNT, ALT, Procs, Branches, Guards}
use Rattle.vc_process.specs.Terms.{exp, as_test}
use Rattle.vc_process.proofs.Numbers.{number_skip, number_stop, number_seq, number_par, number_if, number_while, number_count, number_alt, number_branch_out, number_guard_out}
use Rattle.vc_plan.specs.declared.channel.Channel.{Channel}
use Rattle.vc_plan.specs.declared.node_plan.Variable.{Variable}
use Rattle.vc_reader.specs.declared.fault.Fault.{Fault}
use Rattle.vc_reader.specs.declared.fault.Why.TheVariants as why
use Rattle.vc_reader.specs.declared.path.Step.TheVariants.{Field}
use Rattle.vc_reader.specs.declared.process.ProcessWord.{ProcessWord}
use Rattle.vc_reader.specs.declared.process.ProcessWord.TheVariants as head
use Rattle.vc_reader.specs.Reading.{wrong, cell, row, read_list, only, by_only, read_text}
use Rattle.vc_reader.specs.Bytes.{read_variable}
use Rattle.vc_reader.specs.Expressions.{whole_expr}
use Rattle.vc_reader.specs.Conditions.{whole_cond}
use Rattle.vc_reader.specs.Processes.{channel_named, read_set, read_send, read_receive, read_stopch, read_plain, read_branch, read_while, read_count, read_guard, process_word, field_word, worded_process, named_process, process_step, read_process}
use Rattle.vc_reader.proofs.Read.{ok_is, then_ok, under_ok, cell_ok, list_keeps}
use Rattle.vc_reader.proofs.Versions.{both_true}

-- it is answered with yes wherever the process stands
abbrev pub IsFine : Asking → Process → Type 0
IsFine a p = (site : ℕ) → everywhere a ((number p).tree site) ≡ true

-- whatever is read over these variables and channels is answered with yes
pub record Suits (vars : List Variable) (channels : List Channel) (a : Asking) : Type 0 where
  pub condition : (d : Data) (c : Cond) → whole_cond vars d ≡ Ok c → a.condition (as_test c) ≡ true
  pub channel : (d : Data) (c : ℕ × ValueKind) → channel_named channels d ≡ Ok c → a.channel c.0 ≡ true
  pub variable : (k : ValueKind) (d : Data) (v : ℕ) → read_variable k vars d ≡ Ok v → a.variable v ≡ true
  pub skip : (i : ℕ) → a.itself (SKIP i) ≡ true
  pub stop : (i : ℕ) → a.itself (STOP i) ≡ true
  pub sets : (d : Data) (p : Process) → read_set vars d ≡ Ok p → IsFine a p
  pub sends : (d : Data) (p : Process) → read_send vars channels d ≡ Ok p → IsFine a p
  pub receives : (d : Data) (p : Process) → read_receive vars channels d ≡ Ok p → IsFine a p
  pub stops : (d : Data) (p : Process) → read_stopch channels d ≡ Ok p → IsFine a p
  pub in_turn : (i : ℕ) (ps : Procs) → a.itself (SEQ i ps) ≡ true
  pub abreast : (i : ℕ) (ps : Procs) → a.itself (PAR i ps) ≡ true
  pub one_of : (i : ℕ) (bs : Branches) → a.itself (IF i bs) ≡ true
  pub chooses : (i : ℕ) (gs : Guards) → a.itself (ALT i gs) ≡ true
  pub again : (i : ℕ) (c : Cond) (p : Proc) → a.condition (as_test c) ≡ true → a.itself (WHILE i (as_test c) p) ≡ true
  pub counts : (x y z : Data) (v : ℕ) (base many : Expr) (i : ℕ) (p : Proc) → read_variable kind.Int vars x ≡ Ok v → whole_expr vars y ≡ Ok base → whole_expr vars z ≡ Ok many → a.itself (COUNT i v (exp base) (exp many) p) ≡ true

pub by_only_ok : {A : Type 0} (read : List ℕ → Data → Result A Fault) (o : Option (List ℕ × Data)) (x : A) → by_only read o ≡ Ok x → (k : List ℕ × Data) × (read k.0 k.1 ≡ Ok x)
by_only_ok read None x e = absurd cc
by_only_ok read (Some k) x e = (k, e)

all_push : {A : Type 0} (P : A → Type 0) (xs : List A) (x : A) → AllByRecursion P xs → P x → AllByRecursion P (xs ++ x ∷ [])
all_push P [] x all is = (is, tt)
all_push P (y ∷ ys) x all is = (all.0, all_push P ys x all.1 is)

branch_is : (c : Cond) (p : Process) → number_branch (record { cond = c; body = p }) ≡ record { when = as_test c; then_do = number p }
branch_is c p = number_branch_out (record { cond = c; body = p })

guard_is : (c : Cond) (chan var : ℕ) (p : Process) → number_guard (record { cond = c; chan = chan; var = var; body = p }) ≡ record { when = as_test c; chan = chan; var = var; then_do = number p }
guard_is c chan var p = number_guard_out (record { cond = c; chan = chan; var = var; body = p })

module _ (vars : List Variable) (channels : List Channel) (a : Asking) (s : Suits vars channels a) where
  abbrev FineBranch : NumberedBranch → Type 0
  FineBranch b = (a.condition b.when ≡ true) × ((site : ℕ) → everywhere a (b.then_do.tree site) ≡ true)

  abbrev FineGuard : NumberedGuard → Type 0
  FineGuard g = (a.condition g.when ≡ true) × (a.channel g.chan ≡ true) × (a.variable g.var ≡ true) × ((site : ℕ) → everywhere a (g.then_do.tree site) ≡ true)

  parts_fine : (ps : List Process) (site : ℕ) → AllByRecursion (IsFine a) ps → in_parts a (parts_from site (map number ps)) ≡ true
  parts_fine [] site all = refl
  parts_fine (p ∷ ps) site all =
      both_true (everywhere a ((number p).tree site)) (in_parts a (parts_from (site + (number p).sites) (map number ps))) (all.0 site) (parts_fine ps (site + (number p).sites) all.1)

  branches_fine : (bs : List Branch) (site : ℕ) → AllByRecursion (λ (b : Branch). FineBranch (number_branch b)) bs → in_branches a (branches_from site (map number_branch bs)) ≡ true
  branches_fine [] site all = refl
  branches_fine (b ∷ bs) site all =
      let n = number_branch b in
      both_true (a.condition n.when && everywhere a (n.then_do.tree site)) (in_branches a (branches_from (site + n.then_do.sites) (map number_branch bs)))
      (both_true (a.condition n.when) (everywhere a (n.then_do.tree site)) all.0.0 (all.0.1 site))
      (branches_fine bs (site + n.then_do.sites) all.1)

  guards_fine : (gs : List Guard) (site : ℕ) → AllByRecursion (λ (g : Guard). FineGuard (number_guard g)) gs → in_guards a (guards_from site (map number_guard gs)) ≡ true
  guards_fine [] site all = refl
  guards_fine (g ∷ gs) site all =
      let n = number_guard g in
      both_true (a.condition n.when && a.channel n.chan && a.variable n.var && everywhere a (n.then_do.tree site)) (in_guards a (guards_from (site + n.then_do.sites) (map number_guard gs)))
      (both_true (a.condition n.when && a.channel n.chan && a.variable n.var) (everywhere a (n.then_do.tree site))
      (both_true (a.condition n.when && a.channel n.chan) (a.variable n.var) (both_true (a.condition n.when) (a.channel n.chan) all.0.0 all.0.1) all.0.2)
      (all.0.3 site))
      (guards_fine gs (site + n.then_do.sites) all.1)

  -- one process over its parts
  seq_fine : (ps : List Process) → AllByRecursion (IsFine a) ps → IsFine a (process.Seq ps)
  seq_fine ps all site =
      ap (λ (n : Numbered). everywhere a (n.tree site)) (number_seq (process.Seq ps) ps refl)
      ∙ both_true (a.itself (SEQ site (parts_from (suc site) (map number ps)))) (in_parts a (parts_from (suc site) (map number ps))) (s.in_turn site (parts_from (suc site) (map number ps))) (parts_fine ps (suc site) all)

  par_fine : (ps : List Process) → AllByRecursion (IsFine a) ps → IsFine a (process.Par ps)
  par_fine ps all site =
      ap (λ (n : Numbered). everywhere a (n.tree site)) (number_par (process.Par ps) ps refl)
      ∙ both_true (a.itself (PAR site (parts_from (suc site) (map number ps)))) (in_parts a (parts_from (suc site) (map number ps))) (s.abreast site (parts_from (suc site) (map number ps))) (parts_fine ps (suc site) all)

  if_fine : (bs : List Branch) → AllByRecursion (λ (b : Branch). FineBranch (number_branch b)) bs → IsFine a (process.If bs)
  if_fine bs all site =
      ap (λ (n : Numbered). everywhere a (n.tree site)) (number_if (process.If bs) bs refl)
      ∙ both_true (a.itself (IF site (branches_from (suc site) (map number_branch bs)))) (in_branches a (branches_from (suc site) (map number_branch bs))) (s.one_of site (branches_from (suc site) (map number_branch bs))) (branches_fine bs (suc site) all)

  alt_fine : (gs : List Guard) → AllByRecursion (λ (g : Guard). FineGuard (number_guard g)) gs → IsFine a (process.Alt gs)
  alt_fine gs all site =
      ap (λ (n : Numbered). everywhere a (n.tree site)) (number_alt (process.Alt gs) gs refl)
      ∙ both_true (a.itself (ALT site (guards_from (suc site) (map number_guard gs)))) (in_guards a (guards_from (suc site) (map number_guard gs))) (s.chooses site (guards_from (suc site) (map number_guard gs))) (guards_fine gs (suc site) all)

  while_fine : (c : Cond) (p : Process) → a.condition (as_test c) ≡ true → IsFine a p → IsFine a (process.While c p)
  while_fine c p is fine site =
      ap (λ (n : Numbered). everywhere a (n.tree site)) (number_while (process.While c p) c p refl)
      ∙ both_true (a.itself (WHILE site (as_test c) ((number p).tree (suc site)))) (everywhere a ((number p).tree (suc site))) (s.again site c ((number p).tree (suc site)) is) (fine (suc site))

  count_fine : (x y z : Data) (v : ℕ) (base many : Expr) (p : Process) → read_variable kind.Int vars x ≡ Ok v → whole_expr vars y ≡ Ok base → whole_expr vars z ≡ Ok many → IsFine a p → IsFine a (process.Count v base many p)
  count_fine x y z v base many p ex ey ez fine site =
      ap (λ (n : Numbered). everywhere a (n.tree site)) (number_count (process.Count v base many p) v base many p refl)
      ∙ both_true (a.itself (COUNT site v (exp base) (exp many) ((number p).tree (suc site)))) (everywhere a ((number p).tree (suc site))) (s.counts x y z v base many site ((number p).tree (suc site)) ex ey ez) (fine (suc site))

  plain_fine : (t : List ℕ) (p : Process) → read_plain t ≡ Ok p → IsFine a p
  plain_fine t p e = go (bytes_eq t (codes "skip")) (bytes_eq t (codes "stop")) e
    where
      go : (x y : Bool) → (if x then Ok process.Skip else (if y then Ok process.Stop else wrong why.Kind)) ≡ Ok p → IsFine a p
      go true y e = subst (IsFine a) (ok_is process.Skip p e) (λ site. ap (λ (n : Numbered). everywhere a (n.tree site)) (number_skip process.Skip refl) ∙ s.skip site)
      go false true e = subst (IsFine a) (ok_is process.Stop p e) (λ site. ap (λ (n : Numbered). everywhere a (n.tree site)) (number_stop process.Stop refl) ∙ s.stop site)
      go false false e = absurd cc

  -- a process of which each part that is read is fine
  module _ (part : Data → Result Process Fault) (fine : (d : Data) (p : Process) → part d ≡ Ok p → IsFine a p) where
    all_fine : (d : Data) (ps : List Process) → read_list (λ _. part) d ≡ Ok ps → AllByRecursion (IsFine a) ps
    all_fine d ps e = list_keeps (AllByRecursion (IsFine a)) (λ _. part) (λ before c x all r. all_push (IsFine a) before x all (fine c x r)) d ps tt e

    branch_fine : (d : Data) (b : Branch) → read_branch part vars d ≡ Ok b → FineBranch (number_branch b)
    branch_fine d b e =
        let r = then_ok (row 2 d) _ b e in
        let c = then_ok (cell 0 (whole_cond vars) d) _ b r.2 in
        let p = then_ok (cell 1 part d) _ b c.2 in
        let cd = cell_ok 0 (whole_cond vars) d c.0 c.1 in
        let pd = cell_ok 1 part d p.0 p.1 in
        subst (λ (x : Branch). FineBranch (number_branch x)) (ok_is (record { cond = c.0; body = p.0 }) b p.2)
        (subst FineBranch (sym (branch_is c.0 p.0)) (s.condition cd.0 c.0 cd.2, fine pd.0 p.0 pd.2))

    guard_fine : (d : Data) (g : Guard) → read_guard part vars channels d ≡ Ok g → FineGuard (number_guard g)
    guard_fine d g e =
        let r = then_ok (row 4 d) _ g e in
        let c = then_ok (cell 0 (whole_cond vars) d) _ g r.2 in
        let ch = then_ok (cell 1 (channel_named channels) d) _ g c.2 in
        let v = then_ok (cell 2 (read_variable ch.0.1 vars) d) _ g ch.2 in
        let p = then_ok (cell 3 part d) _ g v.2 in
        let cd = cell_ok 0 (whole_cond vars) d c.0 c.1 in
        let chd = cell_ok 1 (channel_named channels) d ch.0 ch.1 in
        let vd = cell_ok 2 (read_variable ch.0.1 vars) d v.0 v.1 in
        let pd = cell_ok 3 part d p.0 p.1 in
        subst (λ (x : Guard). FineGuard (number_guard x)) (ok_is (record { cond = c.0; chan = ch.0.0; var = v.0; body = p.0 }) g p.2)
        (subst FineGuard (sym (guard_is c.0 ch.0.0 v.0 p.0)) (s.condition cd.0 c.0 cd.2, s.channel chd.0 ch.0 chd.2, s.variable ch.0.1 vd.0 v.0 vd.2, fine pd.0 p.0 pd.2))

    while_of_fine : (d : Data) (p : Process) → read_while part vars d ≡ Ok p → IsFine a p
    while_of_fine d p e =
        let r = then_ok (row 2 d) _ p e in
        let c = then_ok (cell 0 (whole_cond vars) d) _ p r.2 in
        let b = then_ok (cell 1 part d) _ p c.2 in
        let cd = cell_ok 0 (whole_cond vars) d c.0 c.1 in
        let bd = cell_ok 1 part d b.0 b.1 in
        subst (IsFine a) (ok_is (process.While c.0 b.0) p b.2) (while_fine c.0 b.0 (s.condition cd.0 c.0 cd.2) (fine bd.0 b.0 bd.2))

    count_of_fine : (d : Data) (p : Process) → read_count part vars d ≡ Ok p → IsFine a p
    count_of_fine d p e =
        let r = then_ok (row 4 d) _ p e in
        let v = then_ok (cell 0 (read_variable kind.Int vars) d) _ p r.2 in
        let x = then_ok (cell 1 (whole_expr vars) d) _ p v.2 in
        let y = then_ok (cell 2 (whole_expr vars) d) _ p x.2 in
        let b = then_ok (cell 3 part d) _ p y.2 in
        let vd = cell_ok 0 (read_variable kind.Int vars) d v.0 v.1 in
        let xd = cell_ok 1 (whole_expr vars) d x.0 x.1 in
        let yd = cell_ok 2 (whole_expr vars) d y.0 y.1 in
        let bd = cell_ok 3 part d b.0 b.1 in
        subst (IsFine a) (ok_is (process.Count v.0 x.0 y.0 b.0) p b.2) (count_fine vd.0 xd.0 yd.0 v.0 x.0 y.0 b.0 vd.2 xd.2 yd.2 (fine bd.0 b.0 bd.2))

    worded_fine : (w : ProcessWord) (d : Data) (p : Process) → worded_process part vars channels w d ≡ Ok p → IsFine a p
    worded_fine head.Set d p e = s.sets d p e
    worded_fine head.Send d p e = s.sends d p e
    worded_fine head.Receive d p e = s.receives d p e
    worded_fine head.Stopch d p e = s.stops d p e
    worded_fine head.Seq d p e =
        let l = then_ok (read_list (λ _. part) d) _ p e in
        subst (IsFine a) (ok_is (process.Seq l.0) p l.2) (seq_fine l.0 (all_fine d l.0 l.1))
    worded_fine head.Par d p e =
        let l = then_ok (read_list (λ _. part) d) _ p e in
        subst (IsFine a) (ok_is (process.Par l.0) p l.2) (par_fine l.0 (all_fine d l.0 l.1))
    worded_fine head.If d p e =
        let l = then_ok (read_list (λ _. read_branch part vars) d) _ p e in
        subst (IsFine a) (ok_is (process.If l.0) p l.2)
        (if_fine l.0 (list_keeps (AllByRecursion (λ (b : Branch). FineBranch (number_branch b))) (λ _. read_branch part vars)
        (λ before c x all r. all_push (λ (b : Branch). FineBranch (number_branch b)) before x all (branch_fine c x r)) d l.0 tt l.1))
    worded_fine head.While d p e = while_of_fine d p e
    worded_fine head.Count d p e = count_of_fine d p e
    worded_fine head.Alt d p e =
        let l = then_ok (read_list (λ _. read_guard part vars channels) d) _ p e in
        subst (IsFine a) (ok_is (process.Alt l.0) p l.2)
        (alt_fine l.0 (list_keeps (AllByRecursion (λ (g : Guard). FineGuard (number_guard g))) (λ _. read_guard part vars channels)
        (λ before c x all r. all_push (λ (g : Guard). FineGuard (number_guard g)) before x all (guard_fine c x r)) d l.0 tt l.1))

    named_fine : (o : Option (List ℕ × Data)) (p : Process) → by_only (named_process part vars channels) o ≡ Ok p → IsFine a p
    named_fine o p e =
        let k = by_only_ok (named_process part vars channels) o p e in
        let w = then_ok (process_word k.0.0) _ p k.1 in
        worded_fine w.0 k.0.1 p (under_ok (Field (field_word w.0)) (worded_process part vars channels w.0 k.0.1) p w.2)

    step_fine : (d : Data) (p : Process) → process_step part vars channels d ≡ Ok p → IsFine a p
    step_fine (string t) p e = plain_fine t p e
    step_fine v p e = named_fine (only v) p e

  pub process_fine : (depth : ℕ) (d : Data) (p : Process) → read_process depth vars channels d ≡ Ok p → IsFine a p
  process_fine zero d p e = let t = then_ok (read_text d) read_plain p e in plain_fine t.0 p t.2
  process_fine (suc depth) d p e = step_fine (read_process depth vars channels) (process_fine depth) d p e
