use Rattle.std.proofs.Common.{◌≤◌, ◌^◌, ◌+◌, ◌-◌, ◌*◌, ◌%◌, sym, subst, arith}
use Rattle.std.proofs.Math.Pow.{pow_mono}
use Rattle.vc_switch.proofs.RequestMasks.{group_bits, small_pow}
use Rattle.vc_switch.proofs.front.Front.links.Goals as goal

pub overflow_sub-result : goal.overflow_sub-result
overflow_sub-result c =
    let f = c.args.self.now in
    let group = c.requires.group in
    let few = c.requires.few in
    let less : f.first ≤ f.last + 1 = omega (arith, group) in
    subst (λ n. n ≤ 1 * 2 ^ (f.last + 1) % 18446744073709551616) (sym (small_pow f.first (omega (arith, group, few)))) (subst (λ n. 2 ^ f.first ≤ n) (sym (small_pow (f.last + 1) (omega (arith, few)))) (pow_mono less))

pub returns : goal.returns
returns c = λ l.
    let f = c.args.self.now in
    let group = c.requires.group in
    let few = c.requires.few in
    let past = small_pow (f.last + 1) (omega (arith, few)) in
    let below = small_pow f.first (omega (arith, group, few)) in
    group_bits f.first f.last _ l (λ i. past i - below i)
