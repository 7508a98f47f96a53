use Rattle.std.proofs.Common.{◌≡◌, ◌-◌, suc}
use Rattle.vc_explain.specs.Details.{loose_link}
use Rattle.vc_explain.proofs.detail.loose_link.Given as goal

abbrev pub invariant-loop-link : goal.invariant-loop-link
invariant-loop-link l = loose_link l.wires l.n (suc l.last - l.link) l.link ≡ loose_link l.wires l.n (suc l.last - l.first) l.first
