-- The ports of a plan, as PLACE.LINK.
use Rattle.std.specs.Prelude.{ℕ, List, ◌++◌, codes, decimal}
use Rattle.vc_plan.specs.Names.{spot_name}
use Rattle.vc_plan.specs.declared.plan.Plan.{Plan}
use Rattle.vc_plan.specs.declared.port.Port.{Port}

abbrev pub port_text : Plan → Port → List ℕ
port_text plan p = spot_name plan p.spot ++ codes "." ++ decimal p.link
