-- Counts with their names.
use Rattle.std.specs.Prelude.{ℕ, ◌+◌, ◌-◌, ◌^◌, List, [], ◌++◌, length, min, slice_get, sum_by, codes, decimal, Option}
use Rattle.std.specs.List.{flat_map, range_with_len}
use Rattle.std.specs.Option.{option_map_or}
use Rattle.vc_core.specs.declared.event.Event.{Event}
use Rattle.vc_plan.specs.declared.plan.Plan.{Plan}
use Rattle.vc_plan.specs.declared.port.Spot.{Spot}
use Rattle.vc_plan.specs.declared.port.Spot.TheVariants.{Node, Switch}
use Rattle.vc_stats.specs.Counts.{actor_count_at, count_at, fct_in, kind_count, offer_in, output_in, put_in, want_in}
use Rattle.vc_stats.specs.Kinds.{kinds, word_of}
use Rattle.vc_stats.specs.declared.form.Form.{Form}
use Rattle.vc_stats.specs.declared.form.Form.TheVariants.{Lines, Json}
use Rattle.vc_stats.specs.declared.kind.Kind.{Kind}
use Rattle.vc_stats.specs.declared.state_figures.WayFigures.{WayFigures}

-- the text for lines, or that for JSON
abbrev pub text_in : Form → (lines json : List ℕ) → List ℕ
text_in Lines lines json = lines
text_in Json lines json = json

-- a count with its name
abbrev pub field_text : Form → List ℕ → ℕ → List ℕ
field_text form name n = text_in form (codes " ") (codes ",\"") ++ name ++ text_in form (codes " ") (codes "\":") ++ decimal n

-- how many events of a kind there are, of all actors' or of one's
abbrev pub kind_text : Form → Option ℕ → List Event → Kind → List ℕ
kind_text form actor events kind = field_text form (word_of kind) (kind_count actor kind events)

-- so of each kind
unfoldable pub kinds_text : Form → Option ℕ → List Event → List ℕ
kinds_text form actor events = flat_map (kind_text form actor events) kinds

-- tokens of packets and flow control tokens that an actor put by a link
abbrev pub tokens_text : Form → List Event → ℕ → ℕ → List ℕ
tokens_text form events actor link =
    field_text form (codes "tokens") (actor_count_at put_in actor link events)
    ++ field_text form (codes "fcts") (actor_count_at fct_in actor link events)

-- so of the actor at a spot of a plan of so many nodes
abbrev pub puts_text : Form → List Event → (nodes : ℕ) → Spot → ℕ → List ℕ
puts_text form events nodes (Node n) link = tokens_text form events n link
puts_text form events nodes (Switch n) link = tokens_text form events (nodes + n) link

-- and the packets that it bound to the link, if it is a switch
abbrev pub bound_text : Form → List Event → (nodes : ℕ) → Spot → ℕ → List ℕ
bound_text form events nodes (Node n) link = []
bound_text form events nodes (Switch n) link = field_text form (codes "bound") (actor_count_at output_in (nodes + n) link events)

-- the numbers of a plan's actors: the nodes, and behind them the switches
abbrev pub actors_of : Plan → List ℕ
actors_of p = range_with_len 0 (length p.nodes + length p.switches)

-- the packets that were put whole on a way, and how many of them are acknowledges
abbrev pub whole_text : Form → WayFigures → List ℕ
whole_text form w = field_text form (codes "packets") w.packets ++ field_text form (codes "acks") w.acks

-- so of the way of this number, if they are known
abbrev pub packets_text : Form → List WayFigures → ℕ → List ℕ
packets_text form ways n = option_map_or (whole_text form) (slice_get ways n) []

-- the most tokens that stood on a way at once and that its end's buffer held, and after how many events it held one
abbrev pub way_figures_text : Form → WayFigures → List ℕ
way_figures_text form w =
    field_text form (codes "most") w.most ++ field_text form (codes "buffered") w.buffered ++ field_text form (codes "waited") w.waited

-- the other figures of the way of this number, if they are known
abbrev pub figures_text : Form → List WayFigures → ℕ → List ℕ
figures_text form ways n = option_map_or (way_figures_text form) (slice_get ways n) []

-- after how many events of the run an output on the channel of this number was not finished, if that is known
abbrev pub unfinished_text : Form → List ℕ → ℕ → List ℕ
unfinished_text form unfinished n = option_map_or (field_text form (codes "unfinished")) (slice_get unfinished n) []

-- outputs and inputs that began on a channel
abbrev pub begun_text : Form → List Event → ℕ → List ℕ
begun_text form events chan =
    field_text form (codes "outputs") (count_at offer_in chan events) ++ field_text form (codes "inputs") (count_at want_in chan events)

-- how many bytes messages have together; of more than 2^64 - 1 so many are told
abbrev pub bytes_of : List (List ℕ) → ℕ
bytes_of messages = min (sum_by length messages) (2 ^ 64 - 1)

-- messages that were taken, with their bytes
abbrev pub taken_text : Form → List (List ℕ) → List ℕ
taken_text form messages = field_text form (codes "messages") (length messages) ++ field_text form (codes "bytes") (bytes_of messages)
