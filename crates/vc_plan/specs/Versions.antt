-- A plan of version 1, and the same network as a plan of version 2.
use Rattle.std.specs.Prelude.{◌≡◌, ◌↔◌, ℕ, true, List}
use Rattle.std.specs.List.{list_all}
use Rattle.vc_plan.specs.declared.path_fault.Hop.{Hop}
use Rattle.vc_plan.specs.declared.plan.Plan.{Plan}
use Rattle.vc_plan.specs.declared.port.Port.{Port}
use Rattle.vc_plan.specs.declared.vlink.End.{End}
use Rattle.vc_plan.specs.Accepted.{IsAccepted}
use Rattle.vc_plan.specs.Delivery.{Delivers}
use Rattle.vc_plan.specs.Hops.{IsHop}
use Rattle.vc_plan.specs.Limits.{switch_in_version_one}

-- it has no portal and no random input
abbrev pub IsVersionOne : Plan → Type 0
IsVersionOne p = (p.version ≡ 1) × (list_all switch_in_version_one p.switches ≡ true)

abbrev pub version_two : Plan → Plan
version_two p = record p { version = 2 }

-- Packets make the same hops and are delivered alike, and the one plan is accepted exactly where the other is.
pub record VersionsAgree : Type 0 where
  pub hops : (p : Plan) (from : Port) (before : List ℕ) (h : Hop) (to : Port) (after : List ℕ) → IsHop p from before h to after ↔ IsHop (version_two p) from before h to after
  pub delivery : (p : Plan) (e : End) (most : ℕ) (from : Port) (headers : List ℕ) → Delivers p e most from headers ↔ Delivers (version_two p) e most from headers
  pub accepted : (p : Plan) → IsVersionOne p → IsAccepted p ↔ IsAccepted (version_two p)
