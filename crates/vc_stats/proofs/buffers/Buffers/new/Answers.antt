use Rattle.std.proofs.Common.{◌≡◌, ◌+◌, ◌*◌, [], get_or, nat_lt, refl, sym, ap, ◌∙◌, subst, arith}
use Rattle.vc_accepted.specs.Begin.{begin_of}
use Rattle.vc_accepted.specs.NetworkOf.{network_of}
use Rattle.vc_core.specs.Links.{buffered_in}
use Rattle.vc_stats.specs.Buffers.{IsOccupancyOf, unused}
use Rattle.vc_stats.proofs.Busy.{idle_of}
use Rattle.vc_stats.proofs.BufferEvents.{empty_first}
use Rattle.vc_stats.proofs.buffers.Buffers.new.Goals as goal

pub returns : goal.returns
returns c = λ p x begun actor link few.
    let none : buffered_in x actor link ≡ 0 = ap (λ y. buffered_in y actor link) begun ∙ empty_first (network_of p) (begin_of p) actor link in
    subst (IsOccupancyOf (λ y. buffered_in y actor link) [] x) (sym (ap (λ os. get_or os (32 * actor + link) unused) c.new.ensures.items)) (record {
      peak = record { is = refl; over = omega (arith, none) };
      time = idle_of (λ y. nat_lt 0 (buffered_in y actor link)) x unused.time refl (ap (nat_lt 0) none);
    })
