-- The faults of processes lead to what is wrong.
use Rattle.std.proofs.Common.{◌≡◌, ◌∙◌, ℕ, zero, suc, ◌+◌, ◌<◌, ◌≤◌, List, [], ◌∷◌, ◌++◌, length, refl, sym, ap, subst, arith, Bool, true, false, ◌||◌, ◌==◌, if◌then◌else◌, nat_le, nat_lt, Some, Result, Ok}
use Rattle.std.specs.Prelude.{min, ◌^◌, ◌-◌, ◌*◌, pos}
use Rattle.std.specs.Str.{bytes_eq}
use Rattle.std.specs.Cmp.Lexicographic.{bytes_decides}
use Rattle.std.proofs.lemmas.Bool.Decides.{nat_tests}
use Rattle.serde_json.specs.Data.{Data, boolean, number, string, array, object, unsigned, negative, Items, no_members, member}
use Rattle.serde_json.specs.Find.{get_member}
use Rattle.vc_process.specs.declared.bytes_expression.BytesExpr.TheVariants as bytes
use Rattle.vc_process.specs.declared.condition.Cond.{Cond}
use Rattle.vc_process.specs.declared.condition.Cond.TheVariants as cond
use Rattle.vc_process.specs.declared.expression.Expr.{Expr}
use Rattle.vc_process.specs.declared.expression.Expr.TheVariants as expr
use Rattle.vc_process.specs.declared.operator.Op.{Op}
use Rattle.vc_process.specs.declared.operator.Op.TheVariants.{Add, Sub, Mul, Div, Rem}
use Rattle.vc_process.specs.declared.process.Branch.{Branch}
use Rattle.vc_process.specs.declared.process.Guard.{Guard}
use Rattle.vc_process.specs.declared.process.Process.{Process}
use Rattle.vc_process.specs.declared.process.Process.TheVariants as process
use Rattle.vc_process.specs.declared.relation.Rel.{Rel}
use Rattle.vc_process.specs.declared.relation.Rel.TheVariants.{Eq, Ne, Lt, Gt, Le, Ge}
use Rattle.vc_process.specs.declared.value.Value.TheVariants as value
use Rattle.vc_process.specs.declared.value_kind.ValueKind.{ValueKind}
use Rattle.vc_process.specs.declared.value_kind.ValueKind.TheVariants as kind
use Rattle.vc_process.specs.Limits.{same_kind}
use Rattle.vc_plan.specs.declared.channel.Channel.{Channel}
use Rattle.vc_plan.specs.declared.node_plan.Variable.{Variable}
use Rattle.vc_reader.specs.declared.condition.CondWord.{CondWord}
use Rattle.vc_reader.specs.declared.condition.CondWord.TheVariants as cond_head
use Rattle.vc_reader.specs.declared.expression.ExprWord.{ExprWord}
use Rattle.vc_reader.specs.declared.expression.ExprWord.TheVariants as expr_head
use Rattle.vc_reader.specs.declared.fault.Fault.{Fault}
use Rattle.vc_reader.specs.declared.fault.Why.TheVariants as why
use Rattle.vc_reader.specs.declared.path.Step.{Step}
use Rattle.vc_reader.specs.declared.path.Step.TheVariants.{Field, Index}
use Rattle.vc_reader.specs.declared.process.ProcessWord.{ProcessWord}
use Rattle.vc_reader.specs.declared.process.ProcessWord.TheVariants as head_of
use Rattle.vc_reader.specs.declared.word.Word.{Word}
use Rattle.vc_reader.specs.declared.word.Word.TheVariants as word
use Rattle.vc_reader.specs.Faulty.{Fields, Wants, InProcess, part, process_words, integer, message, fill_byte, fill_count, too_great, too_long, unknown_field}
use Rattle.vc_reader.specs.Faulty as faulty
use Rattle.vc_reader.specs.Bytes.{of_kind, read_variable, no_longer, hex_digit, hex_bytes, read_hex, read_literal, read_fill, formed_bytes, read_bytes}
use Rattle.vc_reader.specs.Conditions.{cond_word, plain_cond, read_comparison, read_both, read_either, read_not, worded_cond, cond_step, read_cond, whole_cond}
use Rattle.vc_reader.specs.Expressions.{read_int, read_leaf, expr_word, head, read_size, read_operation, worded_expr, expr_step, read_expr, whole_expr}
use Rattle.vc_reader.specs.Names.{one_of}
use Rattle.vc_reader.specs.Processes.{channel_named, variable_named, read_value, read_set, read_send, read_receive, read_stopch, read_plain, read_branch, read_while, read_count, read_guard, field_word, worded_process, named_process, process_step, read_process, whole_process}
use Rattle.vc_reader.specs.Reading.{◌>>=◌, wrong, under, cell, read_list, count, is_word, read_number, only, by_only}
use Rattle.vc_reader.specs.Words.{word_text}
use Rattle.vc_reader.proofs.FaultPaths.{IsTold, here, ok_told, kind_told, then_told, under_told, list_told, cell_told, row_told, text_told, if_told, number_told, one_of_told, first_member}
use Rattle.vc_reader.proofs.Read.{then_ok}
use Rattle.vc_reader.proofs.Told.{cell_then}

-- ---- variables, channels and bytes

variable_told : {p : List Step} (k : ValueKind) (vars : List Variable) (d : Data) → IsTold p d (read_variable k vars d)
variable_told k vars d = then_told d (one_of (λ (v : Variable). v.name) vars d) (of_kind k) (one_of_told (λ (v : Variable). v.name) vars d)
    (λ found _. if_told d (same_kind k (found.1).kind) (Ok (min found.0 255)) (wrong why.Kind) (ok_told d (min found.0 255)) (kind_told d))

channel_told : {p : List Step} (channels : List Channel) (d : Data) → IsTold p d (channel_named channels d)
channel_told channels d = then_told d (one_of (λ (c : Channel). c.name) channels d) (λ found. Ok (min found.0 65535, (found.1).kind)) (one_of_told (λ (c : Channel). c.name) channels d)
    (λ found _. ok_told d (min found.0 65535, (found.1).kind))

named_told : {p : List Step} (vars : List Variable) (d : Data) → IsTold p d (variable_named vars d)
named_told vars d = then_told d (one_of (λ (v : Variable). v.name) vars d) (λ found. Ok (min found.0 255, (found.1).kind)) (one_of_told (λ (v : Variable). v.name) vars d)
    (λ found _. ok_told d (min found.0 255, (found.1).kind))

-- where a message stands, no text is longer than 65,535 bytes
longer_told : {p : List Step} (s xs : List ℕ) → InProcess p → length xs ≤ length s → IsTold p (string s) (no_longer xs)
longer_told {p} s xs at less = go (nat_le (length xs) 65535) refl
  where
    go : (b : Bool) → nat_le (length xs) 65535 ≡ b → IsTold p (string s) (if b then Ok xs else wrong why.Range)
    go true is = ok_told (string s) xs
    go false is = let more : 65535 < length xs = grind (arith, nat_tests) in here (string s) why.Range (too_long p s (message p at) (omega (arith, less, more)))

digit_told : {p : List Step} (d : Data) (c : ℕ) → IsTold p d (hex_digit c)
digit_told d c = if_told d _ (Ok (c - 48)) _ (ok_told d (c - 48)) (if_told d _ (Ok (c - 87)) (wrong why.Kind) (ok_told d (c - 87)) (kind_told d))

hex_bytes_told : {p : List Step} (d : Data) (xs : List ℕ) → IsTold p d (hex_bytes xs)
hex_bytes_told d [] = ok_told d []
hex_bytes_told d (a ∷ []) = kind_told d
hex_bytes_told d (a ∷ b ∷ rest) =
    then_told d (hex_digit a) (λ h. hex_digit b >>= λ l. hex_bytes rest >>= λ o. Ok ((16 * h + l) ∷ o)) (digit_told d a) (λ h _.
    then_told d (hex_digit b) (λ l. hex_bytes rest >>= λ o. Ok ((16 * h + l) ∷ o)) (digit_told d b) (λ l _.
    then_told d (hex_bytes rest) (λ o. Ok ((16 * h + l) ∷ o)) (hex_bytes_told d rest) (λ o _. ok_told d ((16 * h + l) ∷ o))))

-- there are no more bytes than digits
no_more_bytes : (xs ys : List ℕ) → hex_bytes xs ≡ Ok ys → length ys ≤ length xs
no_more_bytes [] ys e = let is : [] ≡ ys = cc in subst (λ zs. length zs ≤ 0) is (omega arith)
no_more_bytes (a ∷ []) ys e = absurd cc
no_more_bytes (a ∷ b ∷ rest) ys e =
    let h = then_ok (hex_digit a) (λ h. hex_digit b >>= λ l. hex_bytes rest >>= λ o. Ok ((16 * h + l) ∷ o)) ys e in
    let l = then_ok (hex_digit b) (λ l. hex_bytes rest >>= λ o. Ok ((16 * h.0 + l) ∷ o)) ys h.2 in
    let o = then_ok (hex_bytes rest) (λ o. Ok ((16 * h.0 + l.0) ∷ o)) ys l.2 in
    let is : ((16 * h.0 + l.0) ∷ o.0) ≡ ys = let last = o.2 in cc in
    let fewer = no_more_bytes rest o.0 o.1 in
    subst (λ zs. length zs ≤ suc (suc (length rest))) is (omega (arith, fewer))

hex_told : {p : List Step} → InProcess p → (d : Data) → IsTold p d (read_hex d)
hex_told at (string s) =
    then_told (string s) (hex_bytes s >>= no_longer) (λ xs. Ok (bytes.Lit xs))
    (then_told (string s) (hex_bytes s) no_longer (hex_bytes_told (string s) s) (λ xs e. longer_told s xs at (no_more_bytes s xs e)))
    (λ xs _. ok_told (string s) (bytes.Lit xs))
hex_told at v = kind_told v

literal_told : {p : List Step} → InProcess p → (d : Data) → IsTold p d (read_literal d)
literal_told at (string s) = then_told (string s) (no_longer s) (λ xs. Ok (bytes.Lit xs)) (longer_told s s at (omega arith)) (λ xs _. ok_told (string s) (bytes.Lit xs))
literal_told at v = kind_told v

fill_told : {p : List Step} → InProcess p → (d : Data) → IsTold p d (read_fill d)
fill_told {p} at = row_told 2 (λ d. cell 0 (read_number 0 255) d >>= λ b. cell 1 (read_number 0 65535) d >>= λ n. Ok (bytes.Fill b n)) (λ ds c.
    cell_then 0 (read_number 0 255) ds (λ b. cell 1 (read_number 0 65535) (array ds) >>= λ n. Ok (bytes.Fill b n)) (omega (arith, c)) (number_told 0 255 (fill_byte p at)) (λ b.
    cell_then 1 (read_number 0 65535) ds (λ n. Ok (bytes.Fill b n)) (omega (arith, c)) (number_told 0 65535 (fill_count p at)) (λ n. ok_told (array ds) (bytes.Fill b n))))

-- the one field of an object of one field
abbrev TellsOnly : {A : Type 0} → List Step → (List ℕ → Data → Result A Fault) → Type 0
TellsOnly p read = (key : List ℕ) (d : Data) → IsTold p (object (member key d no_members)) (read key d)

only_told : {A : Type 0} {p : List Step} (read : List ℕ → Data → Result A Fault) → TellsOnly p read → (d : Data) → IsTold p d (by_only read (only d))
only_told read told (object (member key d no_members)) = told key d
only_told read told v = kind_told v

-- what is read under the word that the field has, or else, where it has another
word_told : {A : Type 0} {p : List Step} (w : Word) (key : List ℕ) (d : Data) (r other : Result A Fault) → IsTold (p ++ Field w ∷ []) d r →
    (bytes_eq key (word_text w) ≡ false → IsTold p (object (member key d no_members)) other) →
    IsTold p (object (member key d no_members)) (if bytes_eq key (word_text w) then under (Field w) r else other)
word_told {A} {p} w key d r other told rest = go (bytes_eq key (word_text w)) refl
  where
    go : (b : Bool) → bytes_eq key (word_text w) ≡ b → IsTold p (object (member key d no_members)) (if b then under (Field w) r else other)
    go true is = under_told (Field w) (object (member key d no_members)) d r
        (subst (λ k. get_member k (member key d no_members) ≡ Some d) ((bytes_decides key (word_text w)).0 is) (first_member key d no_members)) told
    go false is = rest is

-- the key is none of the words
abbrev IsNone : List Word → List ℕ → Type 0
IsNone [] key = Unit {0}
IsNone (w ∷ ws) key = (bytes_eq key (word_text w) ≡ false) × IsNone ws key

turned : (a b : List ℕ) → bytes_eq a b ≡ false → bytes_eq b a ≡ false
turned a b e = go (bytes_eq b a) refl
  where
    go : (c : Bool) → bytes_eq b a ≡ c → bytes_eq b a ≡ false
    go false is = is
    go true is = absurd (let same = (bytes_decides b a).0 is in let c : true ≡ false = sym ((bytes_decides a b).1 (sym same)) ∙ e in cc)

no_word : (ws : List Word) (key : List ℕ) → IsNone ws key → is_word ws key ≡ false
no_word [] key none = refl
no_word (w ∷ ws) key none = ap (λ b. b || is_word ws key) (turned key (word_text w) none.0) ∙ no_word ws key none.1

unknown_told : {A : Type 0} {p : List Step} (ws : List Word) (key : List ℕ) (d : Data) → Wants p (Fields ws) → IsNone ws key →
    IsTold {A = A} p (object (member key d no_members)) (wrong why.Unknown)
unknown_told {A} {p} ws key d wants none =
    here (object (member key d no_members)) why.Unknown (unknown_field p ws (member key d no_members) key d wants (first_member key d no_members) (no_word ws key none))

formed_told : {p : List Step} → InProcess p → TellsOnly p formed_bytes
formed_told {p} at key d =
    word_told word.Hex key d (read_hex d) _ (hex_told (part p (Field word.Hex) at) d) (λ a.
    word_told word.Text key d (read_literal d) _ (literal_told (part p (Field word.Text) at) d) (λ b.
    word_told word.Fill key d (read_fill d) (wrong why.Unknown) (fill_told (part p (Field word.Fill) at) d) (λ c.
    unknown_told (word.Hex ∷ word.Text ∷ word.Fill ∷ []) key d (faulty.bytes p at) (a, (b, (c, tt))))))

bytes_told : {p : List Step} (vars : List Variable) → InProcess p → (d : Data) → IsTold p d (read_bytes vars d)
bytes_told vars at (string s) = then_told (string s) (read_variable kind.Bytes vars (string s)) (λ n. Ok (bytes.Var n)) (variable_told kind.Bytes vars (string s)) (λ n _. ok_told (string s) (bytes.Var n))
bytes_told vars at (object ms) = only_told formed_bytes (formed_told at) (object ms)
bytes_told vars at v = kind_told v

-- ---- expressions

int_told : {p : List Step} → InProcess p → (d : Data) → IsTold p d (read_int d)
int_told {p} at (number (unsigned n)) = go (nat_lt n (2 ^ 63)) refl
  where
    go : (b : Bool) → nat_lt n (2 ^ 63) ≡ b → IsTold p (number (unsigned n)) (if b then Ok (pos n) else wrong why.Range)
    go true is = ok_told (number (unsigned n)) (pos n)
    go false is = here (number (unsigned n)) why.Range (too_great p n (integer p at) (grind (arith, nat_tests)))
int_told at (number (negative z)) = ok_told (number (negative z)) z
int_told at v = kind_told v

leaf_told : {p : List Step} (vars : List Variable) → InProcess p → (d : Data) → IsTold p d (read_leaf vars d)
leaf_told vars at (number n) = then_told (number n) (read_int (number n)) (λ z. Ok (expr.Num z)) (int_told at (number n)) (λ z _. ok_told (number n) (expr.Num z))
leaf_told vars at (string s) = then_told (string s) (read_variable kind.Int vars (string s)) (λ n. Ok (expr.Var n)) (variable_told kind.Int vars (string s)) (λ n _. ok_told (string s) (expr.Var n))
leaf_told vars at v = kind_told v

-- the word at the head of a list
head_told : {A : Type 0} {p : List Step} (read : Data → Result A Fault) (ds : Items) → ((d : Data) → IsTold (p ++ Index 0 ∷ []) d (read d)) → IsTold p (array ds) (head read (array ds))
head_told {A} {p} read ds told = go (count ds == 0) refl
  where
    go : (b : Bool) → (count ds == 0) ≡ b → IsTold p (array ds) (if b then wrong why.Kind else cell 0 read (array ds))
    go true is = kind_told (array ds)
    go false is = cell_told 0 read ds (grind (arith, nat_tests)) told

expr_word_told : {p : List Step} (d : Data) → IsTold p d (expr_word d)
expr_word_told (string s) =
    if_told (string s) _ (Ok expr_head.SizeOf) _ (ok_told (string s) expr_head.SizeOf)
    (if_told (string s) _ (Ok (expr_head.Operator Add)) _ (ok_told (string s) (expr_head.Operator Add))
    (if_told (string s) _ (Ok (expr_head.Operator Sub)) _ (ok_told (string s) (expr_head.Operator Sub))
    (if_told (string s) _ (Ok (expr_head.Operator Mul)) _ (ok_told (string s) (expr_head.Operator Mul))
    (if_told (string s) _ (Ok (expr_head.Operator Div)) _ (ok_told (string s) (expr_head.Operator Div))
    (if_told (string s) _ (Ok (expr_head.Operator Rem)) (wrong why.Kind) (ok_told (string s) (expr_head.Operator Rem)) (kind_told (string s)))))))
expr_word_told v = kind_told v

size_told : {p : List Step} (vars : List Variable) (d : Data) → IsTold p d (read_size vars d)
size_told vars = row_told 2 (λ d. cell 1 (read_variable kind.Bytes vars) d >>= λ v. Ok (expr.Size v)) (λ ds c.
    cell_then 1 (read_variable kind.Bytes vars) ds (λ v. Ok (expr.Size v)) (omega (arith, c)) (variable_told kind.Bytes vars) (λ v. ok_told (array ds) (expr.Size v)))

module _ (vars : List Variable) (read : Data → Result Expr Fault) (told : (p : List Step) → InProcess p → (d : Data) → IsTold p d (read d)) where
  operation_told : {p : List Step} (op : Op) → InProcess p → (d : Data) → IsTold p d (read_operation read op d)
  operation_told {p} op at = row_told 3 (λ d. cell 1 read d >>= λ a. cell 2 read d >>= λ b. Ok (expr.Bin op a b)) (λ ds c.
      cell_then 1 read ds (λ a. cell 2 read (array ds) >>= λ b. Ok (expr.Bin op a b)) (omega (arith, c)) (told (p ++ Index 1 ∷ []) (part p (Index 1) at)) (λ a.
      cell_then 2 read ds (λ b. Ok (expr.Bin op a b)) (omega (arith, c)) (told (p ++ Index 2 ∷ []) (part p (Index 2) at)) (λ b. ok_told (array ds) (expr.Bin op a b))))

  worded_expr_told : {p : List Step} (w : ExprWord) → InProcess p → (d : Data) → IsTold p d (worded_expr read vars w d)
  worded_expr_told expr_head.SizeOf at d = size_told vars d
  worded_expr_told (expr_head.Operator op) at d = operation_told op at d

  expr_step_told : {p : List Step} → InProcess p → (d : Data) → IsTold p d (expr_step read vars d)
  expr_step_told at (array ds) = then_told (array ds) (head expr_word (array ds)) (λ w. worded_expr read vars w (array ds)) (head_told expr_word ds expr_word_told) (λ w _. worded_expr_told w at (array ds))
  expr_step_told at v = leaf_told vars at v

expr_told : (depth : ℕ) (vars : List Variable) {p : List Step} → InProcess p → (d : Data) → IsTold p d (read_expr depth vars d)
expr_told zero vars at d = leaf_told vars at d
expr_told (suc depth) vars at d = expr_step_told vars (read_expr depth vars) (λ q in_q e. expr_told depth vars in_q e) at d

whole_told : (vars : List Variable) {p : List Step} → InProcess p → (d : Data) → IsTold p d (whole_expr vars d)
whole_told vars at d = expr_told 127 vars at d

-- ---- conditions

cond_word_told : {p : List Step} (d : Data) → IsTold p d (cond_word d)
cond_word_told (string s) =
    if_told (string s) _ (Ok (cond_head.Compare Eq)) _ (ok_told (string s) (cond_head.Compare Eq))
    (if_told (string s) _ (Ok (cond_head.Compare Ne)) _ (ok_told (string s) (cond_head.Compare Ne))
    (if_told (string s) _ (Ok (cond_head.Compare Lt)) _ (ok_told (string s) (cond_head.Compare Lt))
    (if_told (string s) _ (Ok (cond_head.Compare Gt)) _ (ok_told (string s) (cond_head.Compare Gt))
    (if_told (string s) _ (Ok (cond_head.Compare Le)) _ (ok_told (string s) (cond_head.Compare Le))
    (if_told (string s) _ (Ok (cond_head.Compare Ge)) _ (ok_told (string s) (cond_head.Compare Ge))
    (if_told (string s) _ (Ok cond_head.Both) _ (ok_told (string s) cond_head.Both)
    (if_told (string s) _ (Ok cond_head.Either) _ (ok_told (string s) cond_head.Either)
    (if_told (string s) _ (Ok cond_head.Neither) (wrong why.Kind) (ok_told (string s) cond_head.Neither) (kind_told (string s))))))))))
cond_word_told v = kind_told v

plain_cond_told : {p : List Step} (d : Data) → IsTold p d (plain_cond d)
plain_cond_told (boolean b) = ok_told (boolean b) (cond.Always b)
plain_cond_told v = kind_told v

comparison_told : {p : List Step} (vars : List Variable) (rel : Rel) → InProcess p → (d : Data) → IsTold p d (read_comparison vars rel d)
comparison_told {p} vars rel at = row_told 3 (λ d. cell 1 (whole_expr vars) d >>= λ a. cell 2 (whole_expr vars) d >>= λ b. Ok (cond.Cmp rel a b)) (λ ds c.
    cell_then 1 (whole_expr vars) ds (λ a. cell 2 (whole_expr vars) (array ds) >>= λ b. Ok (cond.Cmp rel a b)) (omega (arith, c)) (whole_told vars (part p (Index 1) at)) (λ a.
    cell_then 2 (whole_expr vars) ds (λ b. Ok (cond.Cmp rel a b)) (omega (arith, c)) (whole_told vars (part p (Index 2) at)) (λ b. ok_told (array ds) (cond.Cmp rel a b))))

module _ (vars : List Variable) (read : Data → Result Cond Fault) (told : (p : List Step) → InProcess p → (d : Data) → IsTold p d (read d)) where
  both_told : {p : List Step} → InProcess p → (d : Data) → IsTold p d (read_both read d)
  both_told {p} at = row_told 3 (λ d. cell 1 read d >>= λ a. cell 2 read d >>= λ b. Ok (cond.And a b)) (λ ds c.
      cell_then 1 read ds (λ a. cell 2 read (array ds) >>= λ b. Ok (cond.And a b)) (omega (arith, c)) (told (p ++ Index 1 ∷ []) (part p (Index 1) at)) (λ a.
      cell_then 2 read ds (λ b. Ok (cond.And a b)) (omega (arith, c)) (told (p ++ Index 2 ∷ []) (part p (Index 2) at)) (λ b. ok_told (array ds) (cond.And a b))))

  either_told : {p : List Step} → InProcess p → (d : Data) → IsTold p d (read_either read d)
  either_told {p} at = row_told 3 (λ d. cell 1 read d >>= λ a. cell 2 read d >>= λ b. Ok (cond.Or a b)) (λ ds c.
      cell_then 1 read ds (λ a. cell 2 read (array ds) >>= λ b. Ok (cond.Or a b)) (omega (arith, c)) (told (p ++ Index 1 ∷ []) (part p (Index 1) at)) (λ a.
      cell_then 2 read ds (λ b. Ok (cond.Or a b)) (omega (arith, c)) (told (p ++ Index 2 ∷ []) (part p (Index 2) at)) (λ b. ok_told (array ds) (cond.Or a b))))

  not_told : {p : List Step} → InProcess p → (d : Data) → IsTold p d (read_not read d)
  not_told {p} at = row_told 2 (λ d. cell 1 read d >>= λ a. Ok (cond.Not a)) (λ ds c.
      cell_then 1 read ds (λ a. Ok (cond.Not a)) (omega (arith, c)) (told (p ++ Index 1 ∷ []) (part p (Index 1) at)) (λ a. ok_told (array ds) (cond.Not a)))

  worded_cond_told : {p : List Step} (w : CondWord) → InProcess p → (d : Data) → IsTold p d (worded_cond read vars w d)
  worded_cond_told (cond_head.Compare rel) at d = comparison_told vars rel at d
  worded_cond_told cond_head.Both at d = both_told at d
  worded_cond_told cond_head.Either at d = either_told at d
  worded_cond_told cond_head.Neither at d = not_told at d

  cond_step_told : {p : List Step} → InProcess p → (d : Data) → IsTold p d (cond_step read vars d)
  cond_step_told at (array ds) = then_told (array ds) (head cond_word (array ds)) (λ w. worded_cond read vars w (array ds)) (head_told cond_word ds cond_word_told) (λ w _. worded_cond_told w at (array ds))
  cond_step_told at v = plain_cond_told v

cond_told : (depth : ℕ) (vars : List Variable) {p : List Step} → InProcess p → (d : Data) → IsTold p d (read_cond depth vars d)
cond_told zero vars at d = plain_cond_told d
cond_told (suc depth) vars at d = cond_step_told vars (read_cond depth vars) (λ q in_q e. cond_told depth vars in_q e) at d

whole_cond_told : (vars : List Variable) {p : List Step} → InProcess p → (d : Data) → IsTold p d (whole_cond vars d)
whole_cond_told vars at d = cond_told 127 vars at d

-- ---- processes

value_told : (k : ValueKind) (vars : List Variable) {p : List Step} → InProcess p → (d : Data) → IsTold p d (read_value k vars d)
value_told kind.Int vars at d = then_told d (whole_expr vars d) (λ e. Ok (value.Int e)) (whole_told vars at d) (λ e _. ok_told d (value.Int e))
value_told kind.Bytes vars at d = then_told d (read_bytes vars d) (λ b. Ok (value.Bytes b)) (bytes_told vars at d) (λ b _. ok_told d (value.Bytes b))

set_told : {p : List Step} (vars : List Variable) → InProcess p → (d : Data) → IsTold p d (read_set vars d)
set_told {p} vars at = row_told 2 (λ d. cell 0 (variable_named vars) d >>= λ v. cell 1 (read_value v.1 vars) d >>= λ x. Ok (process.Set v.0 x)) (λ ds c.
    cell_then 0 (variable_named vars) ds (λ v. cell 1 (read_value v.1 vars) (array ds) >>= λ x. Ok (process.Set v.0 x)) (omega (arith, c)) (named_told vars) (λ v.
    cell_then 1 (read_value v.1 vars) ds (λ x. Ok (process.Set v.0 x)) (omega (arith, c)) (value_told v.1 vars (part p (Index 1) at)) (λ x. ok_told (array ds) (process.Set v.0 x))))

send_told : {p : List Step} (vars : List Variable) (channels : List Channel) → InProcess p → (d : Data) → IsTold p d (read_send vars channels d)
send_told {p} vars channels at = row_told 2 (λ d. cell 0 (channel_named channels) d >>= λ n. cell 1 (read_value n.1 vars) d >>= λ x. Ok (process.Send n.0 x)) (λ ds c.
    cell_then 0 (channel_named channels) ds (λ n. cell 1 (read_value n.1 vars) (array ds) >>= λ x. Ok (process.Send n.0 x)) (omega (arith, c)) (channel_told channels) (λ n.
    cell_then 1 (read_value n.1 vars) ds (λ x. Ok (process.Send n.0 x)) (omega (arith, c)) (value_told n.1 vars (part p (Index 1) at)) (λ x. ok_told (array ds) (process.Send n.0 x))))

receive_told : {p : List Step} (vars : List Variable) (channels : List Channel) (d : Data) → IsTold p d (read_receive vars channels d)
receive_told vars channels = row_told 2 (λ d. cell 0 (channel_named channels) d >>= λ n. cell 1 (read_variable n.1 vars) d >>= λ v. Ok (process.Receive n.0 v)) (λ ds c.
    cell_then 0 (channel_named channels) ds (λ n. cell 1 (read_variable n.1 vars) (array ds) >>= λ v. Ok (process.Receive n.0 v)) (omega (arith, c)) (channel_told channels) (λ n.
    cell_then 1 (read_variable n.1 vars) ds (λ v. Ok (process.Receive n.0 v)) (omega (arith, c)) (variable_told n.1 vars) (λ v. ok_told (array ds) (process.Receive n.0 v))))

stopch_told : {p : List Step} (channels : List Channel) (d : Data) → IsTold p d (read_stopch channels d)
stopch_told channels d = then_told d (channel_named channels d) (λ n. Ok (process.Stopch n.0)) (channel_told channels d) (λ n _. ok_told d (process.Stopch n.0))

plain_told : {p : List Step} (d : Data) (s : List ℕ) → IsTold p d (read_plain s)
plain_told d s = if_told d _ (Ok process.Skip) _ (ok_told d process.Skip) (if_told d _ (Ok process.Stop) (wrong why.Kind) (ok_told d process.Stop) (kind_told d))

abbrev a_branch : Cond → Process → Branch
a_branch c p = record { cond = c; body = p }

abbrev a_guard : Cond → ℕ → ℕ → Process → Guard
a_guard c n v p = record { cond = c; chan = n; var = v; body = p }

module _ (vars : List Variable) (channels : List Channel) (read : Data → Result Process Fault)
    (told : (p : List Step) → InProcess p → (d : Data) → IsTold p d (read d)) where
  branch_told : {p : List Step} → InProcess p → (d : Data) → IsTold p d (read_branch read vars d)
  branch_told {p} at = row_told 2 (λ d. cell 0 (whole_cond vars) d >>= λ b. cell 1 read d >>= λ p. Ok (a_branch b p)) (λ ds c.
      cell_then 0 (whole_cond vars) ds (λ b. cell 1 read (array ds) >>= λ p. Ok (a_branch b p)) (omega (arith, c)) (whole_cond_told vars (part p (Index 0) at)) (λ b.
      cell_then 1 read ds (λ p. Ok (a_branch b p)) (omega (arith, c)) (told (p ++ Index 1 ∷ []) (part p (Index 1) at)) (λ p. ok_told (array ds) (a_branch b p))))

  while_told : {p : List Step} → InProcess p → (d : Data) → IsTold p d (read_while read vars d)
  while_told {p} at = row_told 2 (λ d. cell 0 (whole_cond vars) d >>= λ b. cell 1 read d >>= λ p. Ok (process.While b p)) (λ ds c.
      cell_then 0 (whole_cond vars) ds (λ b. cell 1 read (array ds) >>= λ p. Ok (process.While b p)) (omega (arith, c)) (whole_cond_told vars (part p (Index 0) at)) (λ b.
      cell_then 1 read ds (λ p. Ok (process.While b p)) (omega (arith, c)) (told (p ++ Index 1 ∷ []) (part p (Index 1) at)) (λ p. ok_told (array ds) (process.While b p))))

  count_told : {p : List Step} → InProcess p → (d : Data) → IsTold p d (read_count read vars d)
  count_told {p} at = row_told 4 (λ d. cell 0 (read_variable kind.Int vars) d >>= λ v. cell 1 (whole_expr vars) d >>= λ a. cell 2 (whole_expr vars) d >>= λ n. cell 3 read d >>= λ p. Ok (process.Count v a n p)) (λ ds c.
      cell_then 0 (read_variable kind.Int vars) ds (λ v. cell 1 (whole_expr vars) (array ds) >>= λ a. cell 2 (whole_expr vars) (array ds) >>= λ n. cell 3 read (array ds) >>= λ p. Ok (process.Count v a n p)) (omega (arith, c)) (variable_told kind.Int vars) (λ v.
      cell_then 1 (whole_expr vars) ds (λ a. cell 2 (whole_expr vars) (array ds) >>= λ n. cell 3 read (array ds) >>= λ p. Ok (process.Count v a n p)) (omega (arith, c)) (whole_told vars (part p (Index 1) at)) (λ a.
      cell_then 2 (whole_expr vars) ds (λ n. cell 3 read (array ds) >>= λ p. Ok (process.Count v a n p)) (omega (arith, c)) (whole_told vars (part p (Index 2) at)) (λ n.
      cell_then 3 read ds (λ p. Ok (process.Count v a n p)) (omega (arith, c)) (told (p ++ Index 3 ∷ []) (part p (Index 3) at)) (λ p. ok_told (array ds) (process.Count v a n p))))))

  guard_told : {p : List Step} → InProcess p → (d : Data) → IsTold p d (read_guard read vars channels d)
  guard_told {p} at = row_told 4 (λ d. cell 0 (whole_cond vars) d >>= λ b. cell 1 (channel_named channels) d >>= λ n. cell 2 (read_variable n.1 vars) d >>= λ v. cell 3 read d >>= λ p. Ok (a_guard b n.0 v p)) (λ ds c.
      cell_then 0 (whole_cond vars) ds (λ b. cell 1 (channel_named channels) (array ds) >>= λ n. cell 2 (read_variable n.1 vars) (array ds) >>= λ v. cell 3 read (array ds) >>= λ p. Ok (a_guard b n.0 v p)) (omega (arith, c)) (whole_cond_told vars (part p (Index 0) at)) (λ b.
      cell_then 1 (channel_named channels) ds (λ n. cell 2 (read_variable n.1 vars) (array ds) >>= λ v. cell 3 read (array ds) >>= λ p. Ok (a_guard b n.0 v p)) (omega (arith, c)) (channel_told channels) (λ n.
      cell_then 2 (read_variable n.1 vars) ds (λ v. cell 3 read (array ds) >>= λ p. Ok (a_guard b n.0 v p)) (omega (arith, c)) (variable_told n.1 vars) (λ v.
      cell_then 3 read ds (λ p. Ok (a_guard b n.0 v p)) (omega (arith, c)) (told (p ++ Index 3 ∷ []) (part p (Index 3) at)) (λ p. ok_told (array ds) (a_guard b n.0 v p))))))

  worded_told : {p : List Step} (w : ProcessWord) → InProcess p → (d : Data) → IsTold p d (worded_process read vars channels w d)
  worded_told head_of.Set at d = set_told vars at d
  worded_told head_of.Send at d = send_told vars channels at d
  worded_told head_of.Receive at d = receive_told vars channels d
  worded_told head_of.Stopch at d = stopch_told channels d
  worded_told {p} head_of.Seq at d = then_told d (read_list (λ _. read) d) (λ ps. Ok (process.Seq ps)) (list_told (λ _. read) (λ others. told (p ++ Index (length others) ∷ []) (part p (Index (length others)) at)) d) (λ ps _. ok_told d (process.Seq ps))
  worded_told {p} head_of.Par at d = then_told d (read_list (λ _. read) d) (λ ps. Ok (process.Par ps)) (list_told (λ _. read) (λ others. told (p ++ Index (length others) ∷ []) (part p (Index (length others)) at)) d) (λ ps _. ok_told d (process.Par ps))
  worded_told {p} head_of.If at d =
      then_told d (read_list (λ _. read_branch read vars) d) (λ bs. Ok (process.If bs)) (list_told (λ _. read_branch read vars) (λ others. branch_told (part p (Index (length others)) at)) d) (λ bs _. ok_told d (process.If bs))
  worded_told head_of.While at d = while_told at d
  worded_told head_of.Count at d = count_told at d
  worded_told {p} head_of.Alt at d =
      then_told d (read_list (λ _. read_guard read vars channels) d) (λ gs. Ok (process.Alt gs)) (list_told (λ _. read_guard read vars channels) (λ others. guard_told (part p (Index (length others)) at)) d) (λ gs _. ok_told d (process.Alt gs))

  -- a process of the word that the field has, or else, where it has another
  process_word_told : {p : List Step} (w : ProcessWord) (key : List ℕ) (d : Data) (other : Result ProcessWord Fault) → InProcess p →
      (bytes_eq key (word_text (field_word w)) ≡ false → IsTold p (object (member key d no_members)) (other >>= λ u. under (Field (field_word u)) (worded_process read vars channels u d))) →
      IsTold p (object (member key d no_members)) ((if bytes_eq key (word_text (field_word w)) then Ok w else other) >>= λ u. under (Field (field_word u)) (worded_process read vars channels u d))
  process_word_told {p} w key d other at rest = go (bytes_eq key (word_text (field_word w))) refl
    where
      go : (b : Bool) → bytes_eq key (word_text (field_word w)) ≡ b → IsTold p (object (member key d no_members)) ((if b then Ok w else other) >>= λ u. under (Field (field_word u)) (worded_process read vars channels u d))
      go true is = under_told (Field (field_word w)) (object (member key d no_members)) d (worded_process read vars channels w d)
          (subst (λ k. get_member k (member key d no_members) ≡ Some d) ((bytes_decides key (word_text (field_word w))).0 is) (first_member key d no_members))
          (worded_told w (part p (Field (field_word w)) at) d)
      go false is = rest is

  process_named_told : {p : List Step} → InProcess p → TellsOnly p (named_process read vars channels)
  process_named_told {p} at key d =
      process_word_told head_of.Set key d _ at (λ a. process_word_told head_of.Send key d _ at (λ b. process_word_told head_of.Receive key d _ at (λ c.
      process_word_told head_of.Stopch key d _ at (λ e. process_word_told head_of.Seq key d _ at (λ f. process_word_told head_of.Par key d _ at (λ g.
      process_word_told head_of.If key d _ at (λ h. process_word_told head_of.While key d _ at (λ i. process_word_told head_of.Count key d _ at (λ j.
      process_word_told head_of.Alt key d (wrong why.Unknown) at (λ k.
      unknown_told process_words key d (faulty.process p at) (a, (b, (c, (e, (f, (g, (h, (i, (j, (k, tt))))))))))))))))))))

  process_step_told : {p : List Step} → InProcess p → (d : Data) → IsTold p d (process_step read vars channels d)
  process_step_told at (string s) = plain_told (string s) s
  process_step_told at (object ms) = only_told (named_process read vars channels) (process_named_told at) (object ms)
  process_step_told at v = kind_told v

process_told : (depth : ℕ) (vars : List Variable) (channels : List Channel) {p : List Step} → InProcess p → (d : Data) → IsTold p d (read_process depth vars channels d)
process_told zero vars channels at d = text_told read_plain (λ s. plain_told (string s) s) d
process_told (suc depth) vars channels at d = process_step_told vars channels (read_process depth vars channels) (λ q in_q e. process_told depth vars channels in_q e) at d

pub whole_process_told : (vars : List Variable) (channels : List Channel) {p : List Step} → InProcess p → (d : Data) → IsTold p d (whole_process vars channels d)
whole_process_told vars channels at d = process_told 127 vars channels at d
