-- The counts of a run, as lines or as JSON: its events, and then the sections of its actors, its wires and its channels.
use Rattle.std.specs.Prelude.{ℕ, ◌+◌, ◌*◌, List, [], ◌++◌, length, codes, decimal, None, Some}
use Rattle.std.specs.List.{enumerate_from, flat_map}
use Rattle.vc_core.specs.declared.event.Event.{Event}
use Rattle.vc_plan.specs.Names.{actor_name}
use Rattle.vc_plan.specs.declared.plan.Plan.{Plan}
use Rattle.vc_plan.specs.declared.port.Port.{Port}
use Rattle.vc_plan.specs.declared.port.Wire.{Wire}
use Rattle.vc_waits.specs.Ports.{port_text}
use Rattle.vc_text.specs.Traffic.{ChannelTraffic}
use Rattle.vc_stats.specs.Fields.{actors_of, begun_text, bound_text, figures_text, kinds_text, packets_text, puts_text, taken_text, text_in, unfinished_text}
use Rattle.vc_stats.specs.Json.{line_start, named}
use Rattle.vc_stats.specs.StateFigures.{Figures}
use Rattle.vc_stats.specs.declared.form.Form.{Form}
use Rattle.vc_stats.specs.declared.form.Form.TheVariants.{Lines, Json}
use Rattle.vc_stats.specs.declared.state_figures.WayFigures.{WayFigures}

-- the n-th thing of a section begins with its name, behind the words of its line
abbrev pub start_text : Form → (words : List ℕ) → ℕ → List ℕ → List ℕ
start_text Lines words n name = words ++ name
start_text Json words n name = named n name

-- and it ends
abbrev pub end_text : Form → List ℕ
end_text form = text_in form (codes "\n") (codes "}")

-- how many events there are, and how many of each kind
unfoldable pub events_text : Form → List Event → List ℕ
events_text form events =
    text_in form (codes "stats events ") (codes ",\"stats\":{\"events\":") ++ decimal (length events) ++ kinds_text form None events

-- how many events of each kind are of the actor of this number
unfoldable pub actor_text : Form → Plan → List Event → ℕ → List ℕ
actor_text form p events k = start_text form (codes "stats actor ") k (actor_name p k) ++ kinds_text form (Some k) events ++ end_text form

-- the way of this number goes from one port to the other
abbrev pub ports_text : Form → Plan → ℕ → Port → Port → List ℕ
ports_text Lines p way from to = codes "stats wire " ++ port_text p from ++ codes " " ++ port_text p to
ports_text Json p way from to = line_start way ++ codes "{\"from\":\"" ++ port_text p from ++ codes "\",\"to\":\"" ++ port_text p to ++ codes "\""

-- what the first port put on it, and its figures in the states, if they are known
unfoldable pub way_text : Form → Plan → List Event → List WayFigures → ℕ → Port → Port → List ℕ
way_text form p events ways way from to =
    ports_text form p way from to ++ puts_text form events (length p.nodes) from.spot from.link ++ packets_text form ways way
    ++ bound_text form events (length p.nodes) from.spot from.link ++ figures_text form ways way ++ end_text form

-- both ways of the n-th wire
abbrev pub wire_text : Form → Plan → List Event → List WayFigures → ℕ × Wire → List ℕ
wire_text form p events ways (n, w) = way_text form p events ways (2 * n) w.one w.two ++ way_text form p events ways (2 * n + 1) w.two w.one

-- what began on the n-th channel, what was taken, and after how many events its outputs were unfinished, if that is known
unfoldable pub channel_text : Form → List Event → List ℕ → ℕ × ChannelTraffic → List ℕ
channel_text form events unfinished (n, c) =
    start_text form (codes "stats channel ") n c.name ++ begun_text form events n ++ taken_text form c.taken ++ unfinished_text form unfinished n
    ++ end_text form

-- the counts of a run: of its events, of each actor, of both ways of each wire, and of each channel
unfoldable pub stats_text : Form → Plan → List Event → Figures → List ChannelTraffic → List ℕ
stats_text form p events states channels =
    events_text form events
    ++ text_in form (codes "\n") (codes ",\"actors\":[") ++ flat_map (actor_text form p events) (actors_of p)
    ++ text_in form [] (codes "],\"wires\":[") ++ flat_map (wire_text form p events states.ways) (enumerate_from 0 p.wires)
    ++ text_in form [] (codes "],\"channels\":[") ++ flat_map (channel_text form events states.unfinished) (enumerate_from 0 channels)
    ++ text_in form [] (codes "]}")
