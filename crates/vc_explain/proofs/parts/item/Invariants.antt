use Rattle.std.proofs.Common.{◌≡◌, ◌-◌, [], get_or}
use Rattle.vc_explain.specs.Parts.{item, parts}
use Rattle.vc_explain.proofs.parts.item.Given as goal

abbrev pub invariant-loop : goal.invariant-loop
invariant-loop l = get_or (parts l.part) (l.n - l.counter) [] ≡ item l.n l.text
