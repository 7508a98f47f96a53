use Rattle.std.proofs.Common.{◌≡◌, ◌*◌, ◌∙◌, ap, length, arith}
use Rattle.vc_core.specs.PossibleEvents.{NetworkState}
use Rattle.vc_stats.proofs.peaks.Peaks.new.Goals as goal

pub returns : goal.returns
returns c = λ x begun.
    let zero = c.in_ok-most.ensures in
    record {
      ways = c.in_ok-ways.ensures;
      count = zero.count ∙ ap (λ n. 2 * n) c.len.ensures;
      each = λ way less. (let none : length (x.way way) ≡ 0 = ap (λ (z : NetworkState). length (z.way way)) begun in record { is = zero.each way; over = omega (arith, none) });
    }
