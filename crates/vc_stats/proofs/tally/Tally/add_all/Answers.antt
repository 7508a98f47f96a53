use Rattle.std.proofs.Common.{◌<◌, inl, inr, length, get_or, ap, ◌∙◌, arith}
use Rattle.std.proofs.Math.ListN.{set}
use Rattle.std.proofs.lemmas.Bool.{cases_eq, cases_lt}
use Rattle.std.proofs.lemmas.List.{get_or-set_other, get_or-set_same, get_or_past, length-set}
use Rattle.vc_stats.specs.Tallies.{entry}
use Rattle.vc_stats.proofs.Cells.{entry_there}
use Rattle.vc_stats.proofs.tally.Tally.add_all.Goals as goal

pub loop-place-init : goal.loop-place-init
loop-place-init c =
    let many = c.in_ok-reach.ensures.many in
    let counted = c.len.ensures in
    let len = c.args.other.now.entries.ok.0 in
    record {
      many = omega (arith, many, counted, len);
      before = λ n less small. absurd (omega (arith, less));
      behind = λ n le. c.in_ok-reach.ensures.same n;
    }

pub loop-place-preserved : goal.loop-place-preserved
loop-place-preserved c =
    let xs = c.loop-place.self.entries.items in
    let ys = c.args.other.now.entries.items in
    let place = c.loop-place.place in
    let v = c.saturating_add.result in
    let inv = c.loop-place.invariant in
    let many = inv.many in
    let counted = c.len-place-end.ensures in
    let len = c.args.other.now.entries.ok.0 in
    let test = c.loop-place-test.true in
    let there : place < length ys = omega (arith, counted, len, test) in
    let within : place < length xs = omega (arith, many, there) in
    let a = entry_there xs place 0 c.index.result.now within c.index.ensures in
    let b = entry_there ys place 0 c.index-in-loop-place.result.now there c.index-in-loop-place.ensures in
    let longer = length-set xs place v in
    record {
      many = omega (arith, longer, many);
      before = λ n less small. elim (cases_eq n place) [
        | inl same ↦
            let at = get_or-set_same xs place v 0 within in
            let was = inv.behind place (omega arith) in
            let mine = ap (entry c.args.self.now) same in
            let its = ap (entry c.args.other.now) same in
            let sum = c.saturating_add.ensures in
            ap (λ k. get_or (set xs place v) k 0) same ∙ omega (arith, at, was, mine, its, sum, small, a, b)
        | inr ne ↦ get_or-set_other xs place n v 0 ne ∙ inv.before n (omega (arith, less, ne)) small
      ];
      behind = λ n le. get_or-set_other xs place n v 0 (λ same. absurd (omega (arith, le, same))) ∙ inv.behind n (omega (arith, le));
    }

pub returns : goal.returns
returns c =
    let ys = c.args.other.now.entries.items in
    let counted = c.len-place-end.ensures in
    let len = c.args.other.now.entries.ok.0 in
    let test = c.loop-place-test.false in
    let inv = c.loop-place.invariant in
    λ n small. elim (cases_lt n c.loop-place.place) [
      | inl less ↦ inv.before n less small
      | inr past ↦
          let none = get_or_past ys n 0 (omega (arith, past, counted, len, test)) in
          let was = inv.behind n past in
          omega (arith, none, was)
    ]
