use Rattle.std.proofs.Common.{◌≡◌, ◌∷◌, [], ap, sym, ◌∙◌, inl, inr, ◌⊎◌, arith, length, length-append}
use Rattle.vc_blocks.proofs.Logs.{length-multiples, one-more, product_is, room}
use Rattle.vc_blocks.proofs.ends.Ends.push.Goals.{then-len-eq0, else-len-eq0}
use Rattle.vc_blocks.proofs.ends.Ends.push.Goals as goal

pub overflow_add-self-inside : goal.overflow_add-self-inside
overflow_add-self-inside c =
    let x = c.self.inside in
    omega (arith, room c.args.self.now _ c.len-len.result x.even (length x.others) c.len-len.ensures c.self.view_is (length-multiples x.step x.even x.others) c.len-len.type_inv c.if-len.false)

pub overflow_add-self : goal.overflow_add-self
overflow_add-self c =
    let x = c.self.inside in
    omega (arith, room c.args.self.now _ c.len-len.result x.even (length x.others) c.len-len.ensures c.self.view_is (length-multiples x.step x.even x.others) c.len-len.type_inv c.if-len.false)

pub invariant_of-self : goal.invariant_of-self
invariant_of-self c =
    let x = c.self.inside in
    let p = product_is c.checked_mul.result c.args.number _ _ c.checked_mul.ensures (sym c.eq.ensures ∙ c.if-eq.true) in
    record {
      last = omega (arith, p.0);
      count = room c.args.self.now _ c.len-len.result x.even (length x.others) c.len-len.ensures c.self.view_is (length-multiples x.step x.even x.others) c.len-len.type_inv c.if-len.false;
    }

-- the step is new only where there are no multiples
kept : (c : goal.After-self-then-eq-1) → (c.self.inside.even ≡ 0) ⊎ (c.if-len-eq0.step ≡ c.self.inside.step)
kept c =
    let x = c.self.inside in
    let long = sym (length-multiples x.step x.even x.others) ∙ ap length c.self.view_is in
    elim c.if-len-eq0.branch [
      | then-len-eq0 w ↦ inl (omega (arith, long, c.len-len.ensures, w.if-len-eq0.true))
      | else-len-eq0 w ↦ inr w.step-is
    ]

pub returns-then-eq-clause-ok : goal.returns-then-eq-clause-ok
returns-then-eq-clause-ok c =
    let x = c.self.inside in
    let p = product_is c.checked_mul.result c.args.number _ _ c.checked_mul.ensures (sym c.eq.ensures ∙ c.if-eq.true) in
    one-more c.if-len-eq0.step x.step x.even c.args.number x.others c.args.self.now (c.is_empty.ensures.0 c.if-is_empty.true) c.self.view_is (kept c) p.1

pub invariant_of-self-2 : goal.invariant_of-self-2
invariant_of-self-2 c =
    let x = c.self.inside in
    let r = room c.args.self.now _ c.len-len.result x.even (length x.others) c.len-len.ensures c.self.view_is (length-multiples x.step x.even x.others) c.len-len.type_inv c.if-len.false in
    record { last = c.self.invariant.last; count = omega (arith, r, ap length c.in_ok-push.ensures.ok, length-append x.others (c.args.number ∷ [])) }
