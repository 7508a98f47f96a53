-- What a process that was read names is there.
use Rattle.std.proofs.Common.{◌≡◌, ◌∙◌, ℕ, zero, suc, ◌<◌, ◌≤◌, List, length, refl, sym, ap, subst, arith, Bool, true, false, ◌&&◌, if◌then◌else◌, nat_lt, slice_get, Option, Some, None, Result, Ok}
use Rattle.std.specs.Prelude.{codes, min, option_map, option_and_then}
use Rattle.std.specs.Str.{bytes_eq}
use Rattle.std.proofs.Math.Nat.{min-le_left, min-eq_left}
use Rattle.std.proofs.lemmas.Bool.Decides.{nat_tests}
use Rattle.std.proofs.lemmas.Option.{slice_get_within, slice_get-map}
use Rattle.serde_json.specs.Data.{Data, boolean, number as number_data, string, array}
use Rattle.vc_process.specs.declared.bytes_expression.BytesExpr.{BytesExpr}
use Rattle.vc_process.specs.declared.bytes_expression.BytesExpr.TheVariants as bytes
use Rattle.vc_process.specs.declared.condition.Cond.{Cond}
use Rattle.vc_process.specs.declared.condition.Cond.TheVariants as cond
use Rattle.vc_process.specs.declared.expression.Expr.{Expr}
use Rattle.vc_process.specs.declared.expression.Expr.TheVariants as expr
use Rattle.vc_process.specs.declared.operator.Op.{Op}
use Rattle.vc_process.specs.declared.process.Process.{Process}
use Rattle.vc_process.specs.declared.process.Process.TheVariants as process
use Rattle.vc_process.specs.declared.relation.Rel.{Rel}
use Rattle.vc_process.specs.declared.value.Value.{Value}
use Rattle.vc_process.specs.declared.value.Value.TheVariants as value
use Rattle.vc_process.specs.declared.value_kind.ValueKind.{ValueKind}
use Rattle.vc_process.specs.declared.value_kind.ValueKind.TheVariants as kind
use Rattle.vc_process.specs.Private.Questions.{Asking, everywhere, names_itself}
use Rattle.vc_process.specs.InOrder.{number}
use Rattle.vc_process.specs.Limits.{exp_fits, given_fits, given_kind, holds_kind, is_kind, same_kind}
use Rattle.vc_process.specs.Numbering.{Numbered, written}
use Rattle.vc_process.specs.ProcessLimits.{names_fit, test_fits}
use Rattle.vc_process.specs.Terms.{exp, as_test, given}
use Rattle.vc_process.proofs.Questions.{names_is}
use Rattle.vc_process.proofs.Numbers.{written_is, number_set, number_send, number_receive, number_stopch}
use Rattle.vc_process.proofs.Trees.{exp_num, exp_var, exp_bin, exp_size, test_always, test_cmp, test_and, test_or, test_not}
use Rattle.vc_plan.specs.declared.channel.Channel.{Channel}
use Rattle.vc_plan.specs.declared.node_plan.Variable.{Variable}
use Rattle.vc_plan.specs.Limits.{kinds_of}
use Rattle.vc_reader.specs.declared.condition.CondWord.{CondWord}
use Rattle.vc_reader.specs.declared.condition.CondWord.TheVariants as cond_head
use Rattle.vc_reader.specs.declared.expression.ExprWord.{ExprWord}
use Rattle.vc_reader.specs.declared.expression.ExprWord.TheVariants as expr_head
use Rattle.vc_reader.specs.declared.fault.Fault.{Fault}
use Rattle.vc_reader.specs.declared.fault.Why.TheVariants as why
use Rattle.vc_reader.specs.declared.path.Step.TheVariants.{Field}
use Rattle.vc_reader.specs.declared.word.Word.TheVariants as word
use Rattle.vc_reader.specs.Reading.{◌>>=◌, wrong, cell, row, only, by_only, under, read_text}
use Rattle.vc_reader.specs.Names.{position_of, with_number, found_of, known_or_not, one_of}
use Rattle.vc_reader.specs.Bytes.{of_kind, read_variable, hex_bytes, no_longer, read_hex, read_literal, read_fill, formed_bytes, read_bytes}
use Rattle.vc_reader.specs.Expressions.{read_int, read_leaf, head, expr_word, read_size, read_operation, worded_expr, expr_step, read_expr, whole_expr}
use Rattle.vc_reader.specs.Conditions.{cond_word, plain_cond, read_comparison, read_both, read_either, read_not, worded_cond, cond_step, read_cond}
use Rattle.vc_reader.specs.Processes.{variable_named, channel_named, read_value, read_set, read_send, read_receive, read_stopch, whole_process}
use Rattle.vc_reader.proofs.Questions.{IsFine, Suits, by_only_ok, process_fine}
use Rattle.vc_reader.proofs.Read.{ok_is, then_ok, under_ok, cell_ok}
use Rattle.vc_reader.proofs.Versions.{both_true}

-- whether names fit, of so many channels and variables of these kinds
abbrev names : List ValueKind → ℕ → Asking
names kinds n = record { condition = λ t. test_fits t kinds; channel = λ c. nat_lt c n; variable = λ v. nat_lt v (length kinds); itself = names_itself kinds n }

-- what is found by its name is there, at its number
numbered_is : {A : Type 0} (known : List A) (n : ℕ) (f : ℕ × A) → with_number known n ≡ Some f → slice_get known f.0 ≡ Some f.1
numbered_is known n f e = go (slice_get known n) refl e
  where
    go : (o : Option _) → slice_get known n ≡ o → option_map (λ x. (n, x)) o ≡ Some f → slice_get known f.0 ≡ Some f.1
    go None is e = absurd cc
    go (Some x) is e = let same : (n, x) ≡ f = cc in subst (λ (g : ℕ × _). slice_get known g.0 ≡ Some g.1) same is

pub found_is : {A : Type 0} (name_of : A → List ℕ) (known : List A) (name : List ℕ) (f : ℕ × A) → found_of name_of known name ≡ Some f → slice_get known f.0 ≡ Some f.1
found_is name_of known name f e = go (position_of name_of known name) e
  where
    go : (o : Option ℕ) → option_and_then (with_number known) o ≡ Some f → slice_get known f.0 ≡ Some f.1
    go None e = absurd cc
    go (Some n) e = numbered_is known n f e

pub known_is : {A : Type 0} (o : Option A) (x : A) → known_or_not o ≡ Ok x → o ≡ Some x
known_is None x e = absurd cc
known_is (Some y) x e = ap (λ z. Some z) (ok_is y x e)

pub one_is : {A : Type 0} (name_of : A → List ℕ) (known : List A) (d : Data) (f : ℕ × A) → one_of name_of known d ≡ Ok f → slice_get known f.0 ≡ Some f.1
one_is name_of known d f e =
    let t = then_ok (read_text d) (λ s. known_or_not (found_of name_of known s)) f e in
    found_is name_of known t.0 f (known_is (found_of name_of known t.0) f t.2)

-- a number that is cut is no greater
pub cut_below : (n most m : ℕ) → n < m → nat_lt (min n most) m ≡ true
cut_below n most m lt = let le = min-le_left n most in grind (arith, nat_tests)

same_is : (k l : ValueKind) → same_kind k l ≡ true → k ≡ l
same_is kind.Int kind.Int e = refl
same_is kind.Bytes kind.Bytes e = refl
same_is kind.Int kind.Bytes e = absurd (let c : false ≡ true = e in cc)
same_is kind.Bytes kind.Int e = absurd (let c : false ≡ true = e in cc)

same_self : (k : ValueKind) → same_kind k k ≡ true
same_self kind.Int = refl
same_self kind.Bytes = refl

module _ (vars : List Variable) (small : length vars ≤ 64) where
  -- the variable that is named, of the kind that is wanted
  held : (k : ValueKind) (d : Data) (v : ℕ) → read_variable k vars d ≡ Ok v → slice_get (kinds_of vars) v ≡ Some k
  held k d v e =
      let f = then_ok (one_of (λ (x : Variable). x.name) vars d) (of_kind k) v e in
      go f.0 (one_is (λ (x : Variable). x.name) vars d f.0 f.1) (same_kind k (f.0.1).kind) refl f.2
    where
      at : (f : ℕ × Variable) → slice_get vars f.0 ≡ Some f.1 → min f.0 255 ≡ f.0
      at f is = let lt = slice_get_within vars f.0 f.1 is in min-eq_left (omega (arith, lt, small))

      go : (f : ℕ × Variable) → slice_get vars f.0 ≡ Some f.1 → (b : Bool) → same_kind k (f.1).kind ≡ b → (if b then Ok (min f.0 255) else wrong why.Kind) ≡ Ok v → slice_get (kinds_of vars) v ≡ Some k
      go f is true same r =
          ap (slice_get (kinds_of vars)) (sym (ok_is (min f.0 255) v r) ∙ at f is)
          ∙ slice_get-map (λ (x : Variable). x.kind) vars f.0
          ∙ ap (λ o. option_map (λ (x : Variable). x.kind) o) is
          ∙ ap (λ (z : ValueKind). Some z) (sym (same_is k (f.1).kind same))
      go f is false same r = absurd cc

  holds : (k : ValueKind) (d : Data) (v : ℕ) → read_variable k vars d ≡ Ok v → holds_kind (kinds_of vars) v k ≡ true
  holds k d v e = ap (λ o. is_kind o k) (held k d v e) ∙ same_self k

  there : (k : ValueKind) (d : Data) (v : ℕ) → read_variable k vars d ≡ Ok v → nat_lt v (length (kinds_of vars)) ≡ true
  there k d v e = let lt = slice_get_within (kinds_of vars) v k (held k d v e) in grind (arith, nat_tests)

  named_kind : (d : Data) (f : ℕ × ValueKind) → variable_named vars d ≡ Ok f → holds_kind (kinds_of vars) f.0 f.1 ≡ true
  named_kind d f e =
      let x = then_ok (one_of (λ (y : Variable). y.name) vars d) (λ found. Ok (min found.0 255, (found.1).kind)) f e in
      let is = one_is (λ (y : Variable). y.name) vars d x.0 x.1 in
      let lt = slice_get_within vars x.0.0 x.0.1 is in
      let at : min x.0.0 255 ≡ x.0.0 = min-eq_left (omega (arith, lt, small)) in
      subst (λ (g : ℕ × ValueKind). holds_kind (kinds_of vars) g.0 g.1 ≡ true) (ok_is (min x.0.0 255, (x.0.1).kind) f x.2)
      (ap (λ n. holds_kind (kinds_of vars) n (x.0.1).kind) at
      ∙ ap (λ o. is_kind o (x.0.1).kind) (slice_get-map (λ (y : Variable). y.kind) vars x.0.0 ∙ ap (λ o. option_map (λ (y : Variable). y.kind) o) is)
      ∙ same_self (x.0.1).kind)

  -- expressions
  abbrev Fits : Expr → Type 0
  Fits x = exp_fits (exp x) (kinds_of vars) ≡ true

  leaf_fits : (d : Data) (x : Expr) → read_leaf vars d ≡ Ok x → Fits x
  leaf_fits (number_data n) x e =
      let z = then_ok (read_int (number_data n)) (λ y. Ok (expr.Num y)) x e in
      ap (λ t. exp_fits t (kinds_of vars)) (exp_num x z.0 (sym (ok_is (expr.Num z.0) x z.2)))
  leaf_fits (string s) x e =
      let v = then_ok (read_variable kind.Int vars (string s)) (λ n. Ok (expr.Var n)) x e in
      ap (λ t. exp_fits t (kinds_of vars)) (exp_var x v.0 (sym (ok_is (expr.Var v.0) x v.2))) ∙ holds kind.Int (string s) v.0 v.1
  leaf_fits v x e = absurd cc

  size_fits : (d : Data) (x : Expr) → read_size vars d ≡ Ok x → Fits x
  size_fits d x e =
      let r = then_ok (row 2 d) _ x e in
      let v = then_ok (cell 1 (read_variable kind.Bytes vars) d) _ x r.2 in
      let vd = cell_ok 1 (read_variable kind.Bytes vars) d v.0 v.1 in
      ap (λ t. exp_fits t (kinds_of vars)) (exp_size x v.0 (sym (ok_is (expr.Size v.0) x v.2))) ∙ holds kind.Bytes vd.0 v.0 vd.2

  module _ (part : Data → Result Expr Fault) (fits : (d : Data) (x : Expr) → part d ≡ Ok x → Fits x) where
    operation_fits : (op : Op) (d : Data) (x : Expr) → read_operation part op d ≡ Ok x → Fits x
    operation_fits op d x e =
        let r = then_ok (row 3 d) _ x e in
        let a = then_ok (cell 1 part d) _ x r.2 in
        let b = then_ok (cell 2 part d) _ x a.2 in
        let ad = cell_ok 1 part d a.0 a.1 in
        let bd = cell_ok 2 part d b.0 b.1 in
        ap (λ t. exp_fits t (kinds_of vars)) (exp_bin x op a.0 b.0 (sym (ok_is (expr.Bin op a.0 b.0) x b.2)))
        ∙ both_true (exp_fits (exp a.0) (kinds_of vars)) (exp_fits (exp b.0) (kinds_of vars)) (fits ad.0 a.0 ad.2) (fits bd.0 b.0 bd.2)

    worded_fits : (w : ExprWord) (d : Data) (x : Expr) → worded_expr part vars w d ≡ Ok x → Fits x
    worded_fits expr_head.SizeOf d x e = size_fits d x e
    worded_fits (expr_head.Operator op) d x e = operation_fits op d x e

    step_fits : (d : Data) (x : Expr) → expr_step part vars d ≡ Ok x → Fits x
    step_fits (array ds) x e = let w = then_ok (head expr_word (array ds)) (λ u. worded_expr part vars u (array ds)) x e in worded_fits w.0 (array ds) x w.2
    step_fits v x e = leaf_fits v x e

  expr_fits : (depth : ℕ) (d : Data) (x : Expr) → read_expr depth vars d ≡ Ok x → Fits x
  expr_fits zero d x e = leaf_fits d x e
  expr_fits (suc depth) d x e = step_fits (read_expr depth vars) (expr_fits depth) d x e

  whole_fits : (d : Data) (x : Expr) → whole_expr vars d ≡ Ok x → Fits x
  whole_fits d x e = expr_fits 127 d x e

  -- conditions
  abbrev Tests : Cond → Type 0
  Tests c = test_fits (as_test c) (kinds_of vars) ≡ true

  plain_tests : (d : Data) (c : Cond) → plain_cond d ≡ Ok c → Tests c
  plain_tests (boolean b) c e = ap (λ t. test_fits t (kinds_of vars)) (test_always c b (sym (ok_is (cond.Always b) c e)))
  plain_tests v c e = absurd cc

  comparison_tests : (rel : Rel) (d : Data) (c : Cond) → read_comparison vars rel d ≡ Ok c → Tests c
  comparison_tests rel d c e =
      let r = then_ok (row 3 d) _ c e in
      let a = then_ok (cell 1 (whole_expr vars) d) _ c r.2 in
      let b = then_ok (cell 2 (whole_expr vars) d) _ c a.2 in
      let ad = cell_ok 1 (whole_expr vars) d a.0 a.1 in
      let bd = cell_ok 2 (whole_expr vars) d b.0 b.1 in
      ap (λ t. test_fits t (kinds_of vars)) (test_cmp c rel a.0 b.0 (sym (ok_is (cond.Cmp rel a.0 b.0) c b.2)))
      ∙ both_true (exp_fits (exp a.0) (kinds_of vars)) (exp_fits (exp b.0) (kinds_of vars)) (whole_fits ad.0 a.0 ad.2) (whole_fits bd.0 b.0 bd.2)

  module _ (part : Data → Result Cond Fault) (tests : (d : Data) (c : Cond) → part d ≡ Ok c → Tests c) where
    both_tests : (d : Data) (c : Cond) → read_both part d ≡ Ok c → Tests c
    both_tests d c e =
        let r = then_ok (row 3 d) _ c e in
        let a = then_ok (cell 1 part d) _ c r.2 in
        let b = then_ok (cell 2 part d) _ c a.2 in
        let ad = cell_ok 1 part d a.0 a.1 in
        let bd = cell_ok 2 part d b.0 b.1 in
        ap (λ t. test_fits t (kinds_of vars)) (test_and c a.0 b.0 (sym (ok_is (cond.And a.0 b.0) c b.2)))
        ∙ both_true (test_fits (as_test a.0) (kinds_of vars)) (test_fits (as_test b.0) (kinds_of vars)) (tests ad.0 a.0 ad.2) (tests bd.0 b.0 bd.2)

    either_tests : (d : Data) (c : Cond) → read_either part d ≡ Ok c → Tests c
    either_tests d c e =
        let r = then_ok (row 3 d) _ c e in
        let a = then_ok (cell 1 part d) _ c r.2 in
        let b = then_ok (cell 2 part d) _ c a.2 in
        let ad = cell_ok 1 part d a.0 a.1 in
        let bd = cell_ok 2 part d b.0 b.1 in
        ap (λ t. test_fits t (kinds_of vars)) (test_or c a.0 b.0 (sym (ok_is (cond.Or a.0 b.0) c b.2)))
        ∙ both_true (test_fits (as_test a.0) (kinds_of vars)) (test_fits (as_test b.0) (kinds_of vars)) (tests ad.0 a.0 ad.2) (tests bd.0 b.0 bd.2)

    not_tests : (d : Data) (c : Cond) → read_not part d ≡ Ok c → Tests c
    not_tests d c e =
        let r = then_ok (row 2 d) _ c e in
        let a = then_ok (cell 1 part d) _ c r.2 in
        let ad = cell_ok 1 part d a.0 a.1 in
        ap (λ t. test_fits t (kinds_of vars)) (test_not c a.0 (sym (ok_is (cond.Not a.0) c a.2))) ∙ tests ad.0 a.0 ad.2

    worded_tests : (w : CondWord) (d : Data) (c : Cond) → worded_cond part vars w d ≡ Ok c → Tests c
    worded_tests (cond_head.Compare rel) d c e = comparison_tests rel d c e
    worded_tests cond_head.Both d c e = both_tests d c e
    worded_tests cond_head.Either d c e = either_tests d c e
    worded_tests cond_head.Neither d c e = not_tests d c e

    step_tests : (d : Data) (c : Cond) → cond_step part vars d ≡ Ok c → Tests c
    step_tests (array ds) c e = let w = then_ok (head cond_word (array ds)) (λ u. worded_cond part vars u (array ds)) c e in worded_tests w.0 (array ds) c w.2
    step_tests v c e = plain_tests v c e

  cond_tests : (depth : ℕ) (d : Data) (c : Cond) → read_cond depth vars d ≡ Ok c → Tests c
  cond_tests zero d c e = plain_tests d c e
  cond_tests (suc depth) d c e = step_tests (read_cond depth vars) (cond_tests depth) d c e

  -- values
  record IsGiven (k : ValueKind) (v : Value) : Type 0 where
    fits : given_fits (given v) (kinds_of vars) ≡ true
    kind_is : given_kind (given v) ≡ k

  literal_given : (b : BytesExpr) (xs : List ℕ) → bytes.Lit xs ≡ b → IsGiven kind.Bytes (value.Bytes b)
  literal_given b xs e = subst (λ (z : BytesExpr). IsGiven kind.Bytes (value.Bytes z)) e (record { fits = refl; kind_is = refl })

  formed_given : (form : List ℕ) (d : Data) (b : BytesExpr) → formed_bytes form d ≡ Ok b → IsGiven kind.Bytes (value.Bytes b)
  formed_given form d b e = go (bytes_eq form (codes "hex")) (bytes_eq form (codes "text")) (bytes_eq form (codes "fill")) e
    where
      fill : read_fill d ≡ Ok b → IsGiven kind.Bytes (value.Bytes b)
      fill e =
          let r = then_ok (row 2 d) _ b e in
          let x = then_ok (cell 0 _ d) _ b r.2 in
          let n = then_ok (cell 1 _ d) _ b x.2 in
          subst (λ (z : BytesExpr). IsGiven kind.Bytes (value.Bytes z)) (ok_is (bytes.Fill x.0 n.0) b n.2) (record { fits = refl; kind_is = refl })

      go : (x y z : Bool) → (if x then under (Field word.Hex) (read_hex d) else (if y then under (Field word.Text) (read_literal d) else (if z then under (Field word.Fill) (read_fill d) else wrong why.Unknown))) ≡ Ok b → IsGiven kind.Bytes (value.Bytes b)
      go true y z e =
          let l = then_ok (read_text d >>= hex_bytes >>= no_longer) (λ xs. Ok (bytes.Lit xs)) b (under_ok (Field word.Hex) (read_hex d) b e) in
          literal_given b l.0 (ok_is (bytes.Lit l.0) b l.2)
      go false true z e =
          let l = then_ok (read_text d >>= no_longer) (λ xs. Ok (bytes.Lit xs)) b (under_ok (Field word.Text) (read_literal d) b e) in
          literal_given b l.0 (ok_is (bytes.Lit l.0) b l.2)
      go false false true e = fill (under_ok (Field word.Fill) (read_fill d) b e)
      go false false false e = absurd cc

  form_given : (o : Option (List ℕ × Data)) (b : BytesExpr) → by_only formed_bytes o ≡ Ok b → IsGiven kind.Bytes (value.Bytes b)
  form_given o b e = let k = by_only_ok formed_bytes o b e in formed_given k.0.0 k.0.1 b k.1

  bytes_given : (d : Data) (b : BytesExpr) → read_bytes vars d ≡ Ok b → IsGiven kind.Bytes (value.Bytes b)
  bytes_given (string s) b e =
      let v = then_ok (read_variable kind.Bytes vars (string s)) (λ n. Ok (bytes.Var n)) b e in
      subst (λ (z : BytesExpr). IsGiven kind.Bytes (value.Bytes z)) (ok_is (bytes.Var v.0) b v.2) (record { fits = holds kind.Bytes (string s) v.0 v.1; kind_is = refl })
  bytes_given v b e = form_given (only v) b e

  value_given : (k : ValueKind) (d : Data) (v : Value) → read_value k vars d ≡ Ok v → IsGiven k v
  value_given kind.Int d v e =
      let x = then_ok (whole_expr vars d) (λ y. Ok (value.Int y)) v e in
      subst (IsGiven kind.Int) (ok_is (value.Int x.0) v x.2) (record { fits = whole_fits d x.0 x.1; kind_is = refl })
  value_given kind.Bytes d v e =
      let x = then_ok (read_bytes vars d) (λ y. Ok (value.Bytes y)) v e in
      subst (IsGiven kind.Bytes) (ok_is (value.Bytes x.0) v x.2) (bytes_given d x.0 x.1)

  -- processes
  module _ (channels : List Channel) where
    channel_there : (d : Data) (c : ℕ × ValueKind) → channel_named channels d ≡ Ok c → nat_lt c.0 (length channels) ≡ true
    channel_there d c e =
        let x = then_ok (one_of (λ (y : Channel). y.name) channels d) (λ found. Ok (min found.0 65535, (found.1).kind)) c e in
        let lt = slice_get_within channels x.0.0 x.0.1 (one_is (λ (y : Channel). y.name) channels d x.0 x.1) in
        subst (λ (g : ℕ × ValueKind). nat_lt g.0 (length channels) ≡ true) (ok_is (min x.0.0 65535, (x.0.1).kind) c x.2) (cut_below x.0.0 65535 (length channels) lt)

    set_fits : (d : Data) (p : Process) → read_set vars d ≡ Ok p → IsFine (names (kinds_of vars) (length channels)) p
    set_fits d p e site =
        let r = then_ok (row 2 d) _ p e in
        let v = then_ok (cell 0 (variable_named vars) d) _ p r.2 in
        let x = then_ok (cell 1 (read_value v.0.1 vars) d) _ p v.2 in
        let vd = cell_ok 0 (variable_named vars) d v.0 v.1 in
        let xd = cell_ok 1 (read_value v.0.1 vars) d x.0 x.1 in
        let g = value_given v.0.1 xd.0 x.0 xd.2 in
        ap (λ (n : Numbered). everywhere (names (kinds_of vars) (length channels)) (n.tree site)) (number_set p v.0.0 x.0 (sym (ok_is (process.Set v.0.0 x.0) p x.2)))
        ∙ both_true (holds_kind (kinds_of vars) v.0.0 (given_kind (given x.0))) (given_fits (given x.0) (kinds_of vars))
        (ap (holds_kind (kinds_of vars) v.0.0) g.kind_is ∙ named_kind vd.0 v.0 vd.2) g.fits

    send_fits : (d : Data) (p : Process) → read_send vars channels d ≡ Ok p → IsFine (names (kinds_of vars) (length channels)) p
    send_fits d p e site =
        let r = then_ok (row 2 d) _ p e in
        let c = then_ok (cell 0 (channel_named channels) d) _ p r.2 in
        let x = then_ok (cell 1 (read_value c.0.1 vars) d) _ p c.2 in
        let cd = cell_ok 0 (channel_named channels) d c.0 c.1 in
        let xd = cell_ok 1 (read_value c.0.1 vars) d x.0 x.1 in
        ap (λ (n : Numbered). everywhere (names (kinds_of vars) (length channels)) (n.tree site)) (number_send p c.0.0 x.0 (sym (ok_is (process.Send c.0.0 x.0) p x.2)))
        ∙ both_true (nat_lt c.0.0 (length channels)) (given_fits (given x.0) (kinds_of vars)) (channel_there cd.0 c.0 cd.2) (value_given c.0.1 xd.0 x.0 xd.2).fits

    receive_fits : (d : Data) (p : Process) → read_receive vars channels d ≡ Ok p → IsFine (names (kinds_of vars) (length channels)) p
    receive_fits d p e site =
        let r = then_ok (row 2 d) _ p e in
        let c = then_ok (cell 0 (channel_named channels) d) _ p r.2 in
        let v = then_ok (cell 1 (read_variable c.0.1 vars) d) _ p c.2 in
        let cd = cell_ok 0 (channel_named channels) d c.0 c.1 in
        let vd = cell_ok 1 (read_variable c.0.1 vars) d v.0 v.1 in
        ap (λ (n : Numbered). everywhere (names (kinds_of vars) (length channels)) (n.tree site)) (number_receive p c.0.0 v.0 (sym (ok_is (process.Receive c.0.0 v.0) p v.2)))
        ∙ both_true (nat_lt c.0.0 (length channels)) (nat_lt v.0 (length (kinds_of vars))) (channel_there cd.0 c.0 cd.2) (there c.0.1 vd.0 v.0 vd.2)

    stop_fits : (d : Data) (p : Process) → read_stopch channels d ≡ Ok p → IsFine (names (kinds_of vars) (length channels)) p
    stop_fits d p e site =
        let c = then_ok (channel_named channels d) (λ x. Ok (process.Stopch x.0)) p e in
        ap (λ (n : Numbered). everywhere (names (kinds_of vars) (length channels)) (n.tree site)) (number_stopch p c.0.0 (sym (ok_is (process.Stopch c.0.0) p c.2)))
        ∙ channel_there d c.0 c.1

    suits : Suits vars channels (names (kinds_of vars) (length channels))
    suits = record {
      condition = λ d c e. cond_tests 127 d c e;
      channel = channel_there;
      variable = there;
      skip = λ i. refl;
      stop = λ i. refl;
      sets = set_fits;
      sends = send_fits;
      receives = receive_fits;
      stops = stop_fits;
      in_turn = λ i ps. refl;
      abreast = λ i ps. refl;
      one_of = λ i bs. refl;
      chooses = λ i gs. refl;
      again = λ i c p e. e;
      counts = λ x y z v base many i p ex ey ez.
          both_true (holds_kind (kinds_of vars) v kind.Int && exp_fits (exp base) (kinds_of vars)) (exp_fits (exp many) (kinds_of vars))
          (both_true (holds_kind (kinds_of vars) v kind.Int) (exp_fits (exp base) (kinds_of vars)) (holds kind.Int x v ex) (whole_fits y base ey)) (whole_fits z many ez);
    }

    pub names_are_there : (d : Data) (p : Process) → whole_process vars channels d ≡ Ok p → names_fit (written p) (kinds_of vars) (length channels) ≡ true
    names_are_there d p e =
        ap (λ t. names_fit t (kinds_of vars) (length channels)) (written_is p) ∙ sym (names_is (kinds_of vars) (length channels) ((number p).tree 0))
        ∙ process_fine vars channels (names (kinds_of vars) (length channels)) suits 127 d p e 0
