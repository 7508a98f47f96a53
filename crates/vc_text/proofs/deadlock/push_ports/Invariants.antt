use Rattle.std.proofs.Common.{◌≡◌, ◌++◌, take}
use Rattle.vc_text.specs.Deadlock.{ports_text}
use Rattle.vc_text.proofs.deadlock.push_ports.Given as goal

abbrev pub invariant-loop-port : goal.invariant-loop-port
invariant-loop-port l =
    l.out.items ≡ l.fn.out.items ++ ports_text l.plan (take l.port-index l.ports)
