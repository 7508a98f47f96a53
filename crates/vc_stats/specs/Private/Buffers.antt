-- How full receive buffers are, and for how long.
use Rattle.std.specs.Prelude.{ℕ, nat_lt, max, Option, Some, None}
use Rattle.vc_actor.specs.declared.act.Act.{Act}
use Rattle.vc_actor.specs.declared.act.Act.TheVariants.{Take, Pass}
use Rattle.vc_stats.specs.Private.Times.{turned}
use Rattle.vc_stats.specs.declared.occupancy.Occupancy.{Occupancy}

-- from the next event on it holds so many tokens
abbrev pub holding : (tokens events : ℕ) → Occupancy → Occupancy
holding tokens events o = record { most = max o.most tokens; time = turned (nat_lt 0 tokens) events o.time }

-- the link whose buffer may hold another number of tokens after the act
abbrev pub buffer_in : Act → Option ℕ
buffer_in (Take link word) = Some link
buffer_in (Pass link) = Some link
buffer_in act = None
