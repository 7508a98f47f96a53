use Rattle.std.proofs.Common.{◌≡◌, ◌+◌, List, [], ◌∷◌, length, length-append, take, sym, subst, ◌∙◌, ap, arith}
use Rattle.std.specs.List.{AllZip}
use Rattle.vc_plan.specs.declared.plan.Plan.{Plan}
use Rattle.vc_plan.specs.declared.vlink_length.VlinkLength.{VlinkLength}
use Rattle.vc_plan.specs.WayLengths.{IsVlinkLength}
use Rattle.vc_plan.proofs.Arrivals.{lengths-more}
use Rattle.vc_plan.proofs.Summaries.{no-summaries}
use Rattle.vc_plan.proofs.vlink_length.vlink_lengths.Goals as goal

pub loop-vlink-init : goal.loop-vlink-init
loop-vlink-init c = record {
  known = no-summaries c.args.accepted.now c.new-known.result.items c.new-known.ensures.items;
  count = ap length c.new-lengths.ensures.items;
  lengths = rw c.new-lengths.ensures.items tt;
}

pub length_after-requires-clause-known : goal.length_after-requires-clause-known
length_after-requires-clause-known c = rw (c.in_ok-net.ensures ∙ c.plan-plan.ensures.plan) c.loop-vlink.invariant.known

pub length_after-requires-clause-before : goal.length_after-requires-clause-before
length_after-requires-clause-before c =
    let acc = c.args.accepted.now in
    let ls = c.loop-vlink.lengths.items in
    subst (λ (p : Plan). AllZip (IsVlinkLength p) (take (length c.deref.result.now) p.vlinks) c.deref.result.now) (sym (c.in_ok-net.ensures ∙ c.plan-plan.ensures.plan))
    (subst (λ (xs : List VlinkLength). AllZip (IsVlinkLength acc) (take (length xs) acc.vlinks) xs) (sym c.deref.ensures.value)
    (subst (λ k. AllZip (IsVlinkLength acc) (take k acc.vlinks) ls) (sym c.loop-vlink.invariant.count) c.loop-vlink.invariant.lengths))

pub loop-vlink-preserved : goal.loop-vlink-preserved
loop-vlink-preserved c =
    let items = c.as_slice-vlink-items.ensures ∙ ap (λ (p : Plan). p.vlinks) c.plan-plan.ensures.plan in
    let net = c.in_ok-net.ensures ∙ c.plan-plan.ensures.plan in
    record {
      known = rw net at c.in_ok-length.ensures.known;
      count =
          let i = c.loop-vlink.invariant.count in
          let l : length c.push.new.self.items ≡ length c.loop-vlink.lengths.items + 1 = ap length c.in_ok-push.ensures.items ∙ length-append c.loop-vlink.lengths.items (c.in_ok-length.length ∷ []) in
          omega (arith, i, l);
      lengths = rw c.in_ok-push.ensures.items
          (lengths-more (IsVlinkLength c.args.accepted.now) c.args.accepted.now.vlinks c.loop-vlink.vlink-index c.vlink-item.result c.loop-vlink.lengths.items c.in_ok-length.length
          (rw items at c.loop-vlink-test.true) (rw items at c.vlink-item.is) c.loop-vlink.invariant.lengths (rw net at c.in_ok-length.ensures.length));
    }
