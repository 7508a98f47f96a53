-- No literal or fill that was read is over 65,535 bytes.
use Rattle.std.proofs.Common.{◌≡◌, ◌∙◌, ℕ, List, [], length, refl, sym, ap, subst, Bool, true, false, ◌&&◌, if◌then◌else◌, nat_le, Option, Ok}
use Rattle.std.specs.Prelude.{codes}
use Rattle.std.specs.Str.{bytes_eq}
use Rattle.serde_json.specs.Data.{Data, number as number_data, string, unsigned}
use Rattle.vc_process.specs.declared.bytes_expression.BytesExpr.{BytesExpr}
use Rattle.vc_process.specs.declared.bytes_expression.BytesExpr.TheVariants as bytes
use Rattle.vc_process.specs.declared.process.Process.{Process}
use Rattle.vc_process.specs.declared.process.Process.TheVariants as process
use Rattle.vc_process.specs.declared.value.Value.{Value}
use Rattle.vc_process.specs.declared.value.Value.TheVariants as value
use Rattle.vc_process.specs.declared.value_kind.ValueKind.{ValueKind}
use Rattle.vc_process.specs.declared.value_kind.ValueKind.TheVariants as kind
use Rattle.vc_process.specs.Private.Questions.{Asking, everywhere, in_length_itself}
use Rattle.vc_process.specs.InOrder.{number}
use Rattle.vc_process.specs.Limits.{given_in_length}
use Rattle.vc_process.specs.Numbering.{Numbered, written}
use Rattle.vc_process.specs.ProcessLimits.{in_length}
use Rattle.vc_process.specs.Terms.{given}
use Rattle.vc_process.proofs.Questions.{length_is}
use Rattle.vc_process.proofs.Numbers.{written_is, number_set, number_send, number_receive, number_stopch}
use Rattle.vc_plan.specs.declared.channel.Channel.{Channel}
use Rattle.vc_plan.specs.declared.node_plan.Variable.{Variable}
use Rattle.vc_reader.specs.declared.fault.Why.TheVariants as why
use Rattle.vc_reader.specs.declared.path.Step.TheVariants.{Field}
use Rattle.vc_reader.specs.declared.word.Word.TheVariants as word
use Rattle.vc_reader.specs.Reading.{◌>>=◌, wrong, cell, row, only, by_only, under, read_text, read_number}
use Rattle.vc_reader.specs.Bytes.{read_variable, no_longer, hex_bytes, read_hex, read_literal, read_fill, formed_bytes, read_bytes}
use Rattle.vc_reader.specs.Expressions.{whole_expr}
use Rattle.vc_reader.specs.Processes.{variable_named, channel_named, read_value, read_set, read_send, read_receive, read_stopch, whole_process}
use Rattle.vc_reader.proofs.Questions.{IsFine, Suits, by_only_ok, process_fine}
use Rattle.vc_reader.proofs.Read.{ok_is, then_ok, under_ok, cell_ok}

-- whether messages are short enough
abbrev lengths : Asking
lengths = record { condition = λ t. true; channel = λ c. true; variable = λ v. true; itself = in_length_itself }

abbrev IsShort : BytesExpr → Type 0
IsShort b = given_in_length (given (value.Bytes b)) ≡ true

short_list : (xs ys : List ℕ) → no_longer xs ≡ Ok ys → nat_le (length ys) 65535 ≡ true
short_list xs ys e = go (nat_le (length xs) 65535) refl e
  where
    go : (b : Bool) → nat_le (length xs) 65535 ≡ b → (if b then Ok xs else wrong why.Range) ≡ Ok ys → nat_le (length ys) 65535 ≡ true
    go true is r = subst (λ (l : List ℕ). nat_le (length l) 65535 ≡ true) (ok_is xs ys r) is
    go false is r = absurd cc

and_right : (a b : Bool) → (a && b) ≡ true → b ≡ true
and_right true b e = e
and_right false b e = absurd cc

few : (most : ℕ) (d : Data) (n : ℕ) → read_number 0 most d ≡ Ok n → nat_le n most ≡ true
few most (number_data (unsigned k)) n e = go (nat_le 0 k && nat_le k most) refl e
  where
    go : (b : Bool) → (nat_le 0 k && nat_le k most) ≡ b → (if b then Ok k else wrong why.Range) ≡ Ok n → nat_le n most ≡ true
    go true is r = subst (λ m. nat_le m most ≡ true) (ok_is k n r) (and_right (nat_le 0 k) (nat_le k most) is)
    go false is r = absurd cc
few most v n e = absurd cc

hex_short : (d : Data) (b : BytesExpr) → read_hex d ≡ Ok b → IsShort b
hex_short d b e =
    let l = then_ok (read_text d >>= hex_bytes >>= no_longer) (λ xs. Ok (bytes.Lit xs)) b e in
    let x = then_ok (read_text d >>= hex_bytes) no_longer l.0 l.1 in
    subst IsShort (ok_is (bytes.Lit l.0) b l.2) (short_list x.0 l.0 x.2)

literal_short : (d : Data) (b : BytesExpr) → read_literal d ≡ Ok b → IsShort b
literal_short d b e =
    let l = then_ok (read_text d >>= no_longer) (λ xs. Ok (bytes.Lit xs)) b e in
    let x = then_ok (read_text d) no_longer l.0 l.1 in
    subst IsShort (ok_is (bytes.Lit l.0) b l.2) (short_list x.0 l.0 x.2)

fill_short : (d : Data) (b : BytesExpr) → read_fill d ≡ Ok b → IsShort b
fill_short d b e =
    let r = then_ok (row 2 d) _ b e in
    let x = then_ok (cell 0 (read_number 0 255) d) _ b r.2 in
    let n = then_ok (cell 1 (read_number 0 65535) d) _ b x.2 in
    let nd = cell_ok 1 (read_number 0 65535) d n.0 n.1 in
    subst IsShort (ok_is (bytes.Fill x.0 n.0) b n.2) (few 65535 nd.0 n.0 nd.2)

formed_short : (form : List ℕ) (d : Data) (b : BytesExpr) → formed_bytes form d ≡ Ok b → IsShort b
formed_short form d b e = go (bytes_eq form (codes "hex")) (bytes_eq form (codes "text")) (bytes_eq form (codes "fill")) e
  where
    go : (x y z : Bool) → (if x then under (Field word.Hex) (read_hex d) else (if y then under (Field word.Text) (read_literal d) else (if z then under (Field word.Fill) (read_fill d) else wrong why.Unknown))) ≡ Ok b → IsShort b
    go true y z e = hex_short d b (under_ok (Field word.Hex) (read_hex d) b e)
    go false true z e = literal_short d b (under_ok (Field word.Text) (read_literal d) b e)
    go false false true e = fill_short d b (under_ok (Field word.Fill) (read_fill d) b e)
    go false false false e = absurd cc

form_short : (o : Option (List ℕ × Data)) (b : BytesExpr) → by_only formed_bytes o ≡ Ok b → IsShort b
form_short o b e = let k = by_only_ok formed_bytes o b e in formed_short k.0.0 k.0.1 b k.1

bytes_short : (vars : List Variable) (d : Data) (b : BytesExpr) → read_bytes vars d ≡ Ok b → IsShort b
bytes_short vars (string s) b e =
    let v = then_ok (read_variable kind.Bytes vars (string s)) (λ n. Ok (bytes.Var n)) b e in
    subst IsShort (ok_is (bytes.Var v.0) b v.2) refl
bytes_short vars v b e = form_short (only v) b e

value_short : (k : ValueKind) (vars : List Variable) (d : Data) (v : Value) → read_value k vars d ≡ Ok v → given_in_length (given v) ≡ true
value_short kind.Int vars d v e =
    let x = then_ok (whole_expr vars d) (λ y. Ok (value.Int y)) v e in
    ap (λ (z : Value). given_in_length (given z)) (sym (ok_is (value.Int x.0) v x.2))
value_short kind.Bytes vars d v e =
    let x = then_ok (read_bytes vars d) (λ y. Ok (value.Bytes y)) v e in
    subst (λ (z : Value). given_in_length (given z) ≡ true) (ok_is (value.Bytes x.0) v x.2) (bytes_short vars d x.0 x.1)

module _ (vars : List Variable) (channels : List Channel) where
  set_short : (d : Data) (p : Process) → read_set vars d ≡ Ok p → IsFine lengths p
  set_short d p e site =
      let r = then_ok (row 2 d) _ p e in
      let v = then_ok (cell 0 (variable_named vars) d) _ p r.2 in
      let x = then_ok (cell 1 (read_value v.0.1 vars) d) _ p v.2 in
      let xd = cell_ok 1 (read_value v.0.1 vars) d x.0 x.1 in
      ap (λ (n : Numbered). everywhere lengths (n.tree site)) (number_set p v.0.0 x.0 (sym (ok_is (process.Set v.0.0 x.0) p x.2))) ∙ value_short v.0.1 vars xd.0 x.0 xd.2

  send_short : (d : Data) (p : Process) → read_send vars channels d ≡ Ok p → IsFine lengths p
  send_short d p e site =
      let r = then_ok (row 2 d) _ p e in
      let c = then_ok (cell 0 (channel_named channels) d) _ p r.2 in
      let x = then_ok (cell 1 (read_value c.0.1 vars) d) _ p c.2 in
      let xd = cell_ok 1 (read_value c.0.1 vars) d x.0 x.1 in
      ap (λ (n : Numbered). everywhere lengths (n.tree site)) (number_send p c.0.0 x.0 (sym (ok_is (process.Send c.0.0 x.0) p x.2))) ∙ value_short c.0.1 vars xd.0 x.0 xd.2

  receive_short : (d : Data) (p : Process) → read_receive vars channels d ≡ Ok p → IsFine lengths p
  receive_short d p e site =
      let r = then_ok (row 2 d) _ p e in
      let c = then_ok (cell 0 (channel_named channels) d) _ p r.2 in
      let v = then_ok (cell 1 (read_variable c.0.1 vars) d) _ p c.2 in
      ap (λ (n : Numbered). everywhere lengths (n.tree site)) (number_receive p c.0.0 v.0 (sym (ok_is (process.Receive c.0.0 v.0) p v.2)))

  stop_short : (d : Data) (p : Process) → read_stopch channels d ≡ Ok p → IsFine lengths p
  stop_short d p e site =
      let c = then_ok (channel_named channels d) (λ x. Ok (process.Stopch x.0)) p e in
      ap (λ (n : Numbered). everywhere lengths (n.tree site)) (number_stopch p c.0.0 (sym (ok_is (process.Stopch c.0.0) p c.2)))

  suits : Suits vars channels lengths
  suits = record {
    condition = λ d c e. refl;
    channel = λ d c e. refl;
    variable = λ k d v e. refl;
    skip = λ i. refl;
    stop = λ i. refl;
    sets = set_short;
    sends = send_short;
    receives = receive_short;
    stops = stop_short;
    in_turn = λ i ps. refl;
    abreast = λ i ps. refl;
    one_of = λ i bs. refl;
    chooses = λ i gs. refl;
    again = λ i c p e. refl;
    counts = λ x y z v base many i p ex ey ez. refl;
  }

  -- its messages are no longer
  pub messages_short : (d : Data) (p : Process) → whole_process vars channels d ≡ Ok p → in_length (written p) ≡ true
  messages_short d p e = ap in_length (written_is p) ∙ sym (length_is [] ((number p).tree 0)) ∙ process_fine vars channels lengths suits 127 d p e 0
