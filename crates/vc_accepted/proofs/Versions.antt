-- A plan of version 2 leaves more room for headers, and nothing else is different.
use Rattle.std.proofs.Common.{◌≡◌, ℕ, ◌≤◌, Bool, true, false, ◌==◌, refl, arith, if◌then◌else◌}
use Rattle.vc_accepted.specs.NetworkOf.{network_of}
use Rattle.vc_accepted.proofs.AcceptedNetwork.{accepted}
use Rattle.vc_network.specs.Actors.{Network}
use Rattle.vc_network.specs.Network.{Actor}
use Rattle.vc_network.specs.Plan.{Home, Way, Inside, home}
use Rattle.vc_network.specs.Views.{view_at}
use Rattle.vc_network.proofs.Headers.{more_headers}
use Rattle.vc_plan.specs.Versions.{version_two}
use Rattle.vc_plan.specs.declared.plan.Plan.{Plan}
use Rattle.vc_tokens.specs.Tokens.{Token}
use Rattle.vc_accepted.specs.Begin.{begin_of}
use Rattle.vc_accepted.specs.Process.{Process, does}
use Rattle.vc_accepted.specs.Versions.{VersionsRunAlike}

at_most_six : (is_one : Bool) → (if is_one then 4 else 6) ≤ 6
at_most_six true = omega arith
at_most_six false = omega arith

view_same : (p : Plan) (s : Network (Actor Process) Token) (c : ℕ) (h : Home) → view_at (network_of (version_two p)) s c h ≡ view_at (network_of p) s c h
view_same p s c (Way v ab) = refl
view_same p s c (Inside n) = refl

pub run_alike : VersionsRunAlike
run_alike = record {
  runs = λ p waiting es s acc. more_headers (network_of p) waiting does (begin_of p) 6 es s (accepted p acc) (at_most_six (p.version == 1));
  views = λ p s c. view_same p s c (home (network_of p) c);
}
