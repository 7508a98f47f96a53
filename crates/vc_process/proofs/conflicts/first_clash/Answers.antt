use Rattle.std.proofs.Common.{◌≡◌, ◌+◌, ◌<◌, ◌∷◌, ◌∙◌, true, false, sym, ap, subst, drop, get_or, length, List, ℕ, add-one}
use Rattle.std.proofs.Math.Seq.{drop-cons}
use Rattle.std.proofs.lemmas.List.{drop_all}
use Rattle.vc_process.specs.declared.used.Used.TheVariants.{Output}
use Rattle.vc_process.specs.declared.used.PartUsage.{PartUsage}
use Rattle.vc_process.proofs.Clashes.{Narrowed, at_first, told, none_left, on_next}
use Rattle.vc_process.proofs.conflicts.first_clash.Goals as goal

abbrev empty : PartUsage
empty = record { used = Output 0; reads = false; part = 0 }

one_and_rest : (uses : List PartUsage) (k : ℕ) → k < length uses → drop k uses ≡ get_or uses k empty ∷ drop (k + 1) uses
one_and_rest uses k l = drop-cons uses k empty l ∙ ap (λ j. get_or uses k empty ∷ drop j uses) (sym (add-one k))

pub loop-usage-init : goal.loop-usage-init
loop-usage-init c = at_first c.args.uses.now c.in-Some.first.now c.requires (sym c.in-Some.ensures.value)

pub returns-then-clashes : goal.returns-then-clashes
returns-then-clashes c =
    let uses = c.args.uses.now in
    let k = c.loop-usage.usage-index in
    told uses c.loop-usage.first (get_or uses k empty) (drop (k + 1) uses) (subst (Narrowed uses c.loop-usage.first) (one_and_rest uses k c.loop-usage-test.true) c.loop-usage.invariant) (c.clashes.ensures.0 c.if-clashes.true)

pub loop-usage-preserved : goal.loop-usage-preserved
loop-usage-preserved c =
    let uses = c.args.uses.now in
    let k = c.loop-usage.usage-index in
    on_next uses c.loop-usage.first (get_or uses k empty) (drop (k + 1) uses) (λ q. absurd (let z : true ≡ false = sym (c.clashes.ensures.1 q) ∙ c.if-clashes.false in cc))
    (subst (Narrowed uses c.loop-usage.first) (one_and_rest uses k c.loop-usage-test.true) c.loop-usage.invariant) c.first_of_same-first.result c.first_of_same-first.ensures

pub returns : goal.returns
returns c = none_left c.args.uses.now c.loop-usage.first (subst (Narrowed c.args.uses.now c.loop-usage.first) (drop_all c.loop-usage.usage-index c.args.uses.now c.loop-usage-test.false) c.loop-usage.invariant)
