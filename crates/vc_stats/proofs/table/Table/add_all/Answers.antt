use Rattle.std.proofs.Common.{◌<◌, inl, inr, length, ap, arith, ◌∙◌}
use Rattle.std.proofs.Math.ListN.{set}
use Rattle.std.proofs.lemmas.Bool.{cases_eq, cases_lt}
use Rattle.std.proofs.lemmas.List.{length-set}
use Rattle.vc_stats.specs.Tallies.{cell}
use Rattle.vc_stats.proofs.Cells.{cell_in, row_past, row_set, row_set_other, row_there}
use Rattle.vc_stats.proofs.table.Table.add_all.Goals as goal

pub loop-row-init : goal.loop-row-init
loop-row-init c =
    let many = c.in_ok-reach.ensures.many in
    let counted = c.len.ensures in
    let len = c.args.other.now.rows.ok.0 in
    record {
      many = omega (arith, many, counted, len);
      before = λ k n less small. absurd (omega (arith, less));
      behind = λ k n le. c.in_ok-reach.ensures.same k n;
    }

pub loop-row-preserved : goal.loop-row-preserved
loop-row-preserved c =
    let xs = c.loop-row.self.rows.items in
    let ys = c.args.other.now.rows.items in
    let row = c.loop-row.row in
    let t = c.add_all.new.self in
    let inv = c.loop-row.invariant in
    let many = inv.many in
    let counted = c.len-row-end.ensures in
    let len = c.args.other.now.rows.ok.0 in
    let test = c.loop-row-test.true in
    let there : row < length ys = omega (arith, counted, len, test) in
    let within : row < length xs = omega (arith, many, there) in
    let longer = length-set xs row t in
    record {
      many = omega (arith, longer, many);
      before = λ k n less small. elim (cases_eq k row) [
        | inl same ↦
            let at = row_set xs row n t within in
            let was = inv.behind row n (omega arith) in
            let a = row_there xs row n c.index_mut.result.now within c.index_mut.ensures.value in
            let b = row_there ys row n c.index.result.now there c.index.ensures in
            let mine = ap (λ j. cell c.args.self.now j n) same in
            let its = ap (λ j. cell c.args.other.now j n) same in
            let sum = c.in_ok-add_all.ensures n (omega (arith, was, a, b, mine, its, small)) in
            ap (λ j. cell_in (set xs row t) j n) same ∙ omega (arith, at, was, a, b, mine, its, sum)
        | inr ne ↦ row_set_other xs row k n t ne ∙ inv.before k n (omega (arith, less, ne)) small
      ];
      behind = λ k n le. row_set_other xs row k n t (λ same. absurd (omega (arith, le, same))) ∙ inv.behind k n (omega (arith, le));
    }

pub returns : goal.returns
returns c =
    let ys = c.args.other.now.rows.items in
    let counted = c.len-row-end.ensures in
    let len = c.args.other.now.rows.ok.0 in
    let test = c.loop-row-test.false in
    let inv = c.loop-row.invariant in
    λ k n small. elim (cases_lt k c.loop-row.row) [
      | inl less ↦ inv.before k n less small
      | inr past ↦
          let none = row_past ys k n (omega (arith, past, counted, len, test)) in
          let was = inv.behind k n past in
          omega (arith, none, was)
    ]
