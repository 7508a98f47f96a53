-- How many events of a run are so.
use Rattle.std.specs.Prelude.{◌≡◌, ℕ, ◌-◌, ◌^◌, ◌≤◌, ◌==◌, ◌&&◌, List, length, count_by, Option, Some, None}
use Rattle.vc_actor.specs.declared.act.Act.{Act}
use Rattle.vc_actor.specs.declared.act.Act.TheVariants.{Proc, Put, Route, Fct}
use Rattle.vc_core.specs.declared.event.Event.{Event}
use Rattle.vc_occam.specs.declared.moves.Move.TheVariants.{Offer, Want, Choose, Inner}
use Rattle.vc_stats.specs.Kinds.{kind_of, number_of}
use Rattle.vc_stats.specs.Tallies.{cell, entry, is_at}
use Rattle.vc_stats.specs.declared.kind.Kind.{Kind}
use Rattle.vc_stats.specs.declared.stats.Stats.{Stats}

-- how many events have this number
abbrev pub count_at : (Act → Option ℕ) → ℕ → List Event → ℕ
count_at number_in n = count_by (λ e. is_at n (number_in e.act))

-- and how many of the actor's
abbrev pub actor_count_at : (Act → Option ℕ) → ℕ → ℕ → List Event → ℕ
actor_count_at number_in actor n = count_by (λ e. e.actor == actor && is_at n (number_in e.act))

-- the number of an act's kind
abbrev pub kind_in : Act → Option ℕ
kind_in act = Some (number_of (kind_of act))

-- the link by which a token of a packet is put, if one is
abbrev pub put_in : Act → Option ℕ
put_in (Put link) = Some link
put_in act = None

-- the link by which a flow control token is put, if one is
abbrev pub fct_in : Act → Option ℕ
fct_in (Fct link) = Some link
fct_in act = None

-- the output to which a packet is bound, if one is
abbrev pub output_in : Act → Option ℕ
output_in (Route input output) = Some output
output_in act = None

-- the channel on which an output begins, if one does
abbrev pub offer_in : Act → Option ℕ
offer_in (Proc (Offer site chan)) = Some chan
offer_in (Proc (Inner sender receiver guard chan)) = Some chan
offer_in act = None

-- the channel on which an input begins, if one does
abbrev pub want_in : Act → Option ℕ
want_in (Proc (Want site chan)) = Some chan
want_in (Proc (Choose site guard chan)) = Some chan
want_in (Proc (Inner sender receiver guard chan)) = Some chan
want_in act = None

-- how many events are of the kind, of all actors' or of one's
abbrev pub kind_count : Option ℕ → Kind → List Event → ℕ
kind_count None kind = count_at kind_in (number_of kind)
kind_count (Some actor) kind = actor_count_at kind_in actor (number_of kind)

-- the counts of a run are those of its events
pub record AreCounts (stats : Stats) (es : List Event) : Type 0 where
  pub events : stats.events ≡ length es
  pub all : (kind : ℕ) → entry stats.all kind ≡ count_at kind_in kind es
  pub kinds : (actor kind : ℕ) → cell stats.kinds actor kind ≡ actor_count_at kind_in actor kind es
  pub puts : (actor link : ℕ) → cell stats.puts actor link ≡ actor_count_at put_in actor link es
  pub fcts : (actor link : ℕ) → cell stats.fcts actor link ≡ actor_count_at fct_in actor link es
  pub routes : (actor link : ℕ) → cell stats.routes actor link ≡ actor_count_at output_in actor link es
  pub offers : (chan : ℕ) → entry stats.offers chan ≡ count_at offer_in chan es
  pub wants : (chan : ℕ) → entry stats.wants chan ≡ count_at want_in chan es

-- at most so many events are counted
abbrev pub most_events : ℕ
most_events = 2 ^ 64 - 1

-- of more events nothing is said
abbrev pub Counts : Stats → List Event → Type 0
Counts stats events = length events ≤ most_events → AreCounts stats events
