use Rattle.std.proofs.Common.{◌≡◌, List, [], ◌∷◌, ◌++◌, length, sym, ap, subst, arith}
use Rattle.std.specs.List.{AllByRecursion}
use Rattle.std.proofs.lemmas.List.{length-append}
use Rattle.vc_core.proofs.ways_by_end.empty_ways.Goals as goal

all_more : {X : Type 0} (P : X → Type 0) (xs : List X) (x : X) → AllByRecursion P xs → P x → AllByRecursion P (xs ++ x ∷ [])
all_more P [] x all here = (here, tt)
all_more P (y ∷ ys) x (first, rest) here = (first, all_more P ys x rest here)

pub loop-init : goal.loop-init
loop-init c = record { count = ap length c.new-ways.ensures.items; empty = subst (AllByRecursion (λ way. way ≡ [])) (sym c.new-ways.ensures.items) tt }

pub loop-preserved : goal.loop-preserved
loop-preserved c =
    let more = c.in_ok-push.ensures.items in
    let old = c.loop.invariant in
    record {
      count = (let is = ap length more in let one = length-append c.loop.ways.items (c.new.result ∷ []) in let before = old.count in omega arith);
      empty = subst (AllByRecursion (λ way. way ≡ [])) (sym more) (all_more (λ way. way ≡ []) c.loop.ways.items c.new.result old.empty c.new.ensures);
    }

pub returns-clause-count : goal.returns-clause-count
returns-clause-count c =
    let count = c.loop.invariant.count in
    let past = c.loop-test.false in
    let end = c.loop.auto.counter-end in
    omega arith

pub returns-clause-empty : goal.returns-clause-empty
returns-clause-empty c = c.loop.invariant.empty
