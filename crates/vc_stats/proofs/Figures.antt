-- A monitor of a run that goes on, and the figures that it tells.
use Rattle.std.proofs.Common.{◌≡◌, ◌<◌, ◌+◌, ◌*◌, ◌/◌, ◌%◌, ◌==◌, ℕ, Bool, not, List, [], ◌∷◌, ◌++◌, length, length-append, map, refl, sym, ap, ◌∙◌, subst, arith}
use Rattle.std.proofs.lemmas.List.{map-append}
use Rattle.std.specs.List.{range_with_len}
use Rattle.vc_accepted.specs.Begin.{begin_of}
use Rattle.vc_accepted.specs.NetworkOf.{network_of, port_at, port_of}
use Rattle.vc_core.specs.PossibleEvents.{NetworkState}
use Rattle.vc_core.specs.Links.{buffered_in}
use Rattle.vc_core.specs.State.{MakesEvent, State, shown}
use Rattle.vc_core.specs.declared.close.Close.{Close}
use Rattle.vc_core.specs.declared.event.Event.{Event}
use Rattle.vc_network.specs.Network.{actor_at, begins}
use Rattle.vc_network.specs.Plan.{near}
use Rattle.vc_network.specs.Plan as network
use Rattle.vc_plan.specs.declared.plan.Plan.{Plan}
use Rattle.vc_plan.specs.declared.port.Port.{Port}
use Rattle.vc_plan.specs.declared.port.Spot.{Spot}
use Rattle.vc_plan.specs.declared.port.Spot.TheVariants.{Node, Switch}
use Rattle.vc_stats.specs.Buffers.{AreBuffersOf, occupancy_at}
use Rattle.vc_stats.specs.Counts.{AreCounts, Counts, most_events}
use Rattle.vc_stats.specs.Monitor.{IsMonitorOf, Monitors}
use Rattle.vc_stats.specs.Packets.{ArePacketsOf, PacketCount, count_at, link_at}
use Rattle.vc_stats.specs.Peaks.{ArePeaksOf, peak_at}
use Rattle.vc_stats.specs.Times.{AreTimesOf, busy_of, time_at}
use Rattle.vc_stats.specs.Texts.{IsCountedText, IsStatsText}
use Rattle.vc_stats.specs.StateFigures.{Figures, Visits, buffered_at, count_some, figures_of, greatest, unfinished_in, way_figures}
use Rattle.vc_stats.specs.declared.form.Form.{Form}
use Rattle.vc_stats.specs.declared.monitor.Monitor.{Monitor}
use Rattle.vc_stats.specs.declared.occupancy.Occupancy.{Occupancy}
use Rattle.vc_stats.specs.declared.state_figures.WayFigures.{WayFigures}
use Rattle.vc_stats.proofs.Busy.{numbered}
use Rattle.vc_stats.proofs.Numbers.{range_more}
use Rattle.vc_stats.proofs.Visits.{as_many, leads_more}

-- one event more
pub monitor_more : (p : Plan) (old new : Monitor) (es : List Event) (s t : State) (e : Event) → Monitors old p es (shown s) → MakesEvent p s e t →
    (Counts old.stats es → Counts new.stats (es ++ e ∷ [])) →
    ((xs : List NetworkState) → AreTimesOf old.unfinished p xs (shown s) → AreCounts old.stats es → length es ≡ length xs → AreTimesOf new.unfinished p (xs ++ shown t ∷ []) (shown t)) →
    ((xs : List NetworkState) → ArePeaksOf old.peaks p xs (shown s) → ArePeaksOf new.peaks p (xs ++ shown t ∷ []) (shown t)) →
    ((xs : List NetworkState) → AreBuffersOf old.buffers xs (shown s) → AreCounts old.stats es → length es ≡ length xs → AreBuffersOf new.buffers (xs ++ shown t ∷ []) (shown t)) →
    ((xs : List NetworkState) → ArePacketsOf old.packets p es xs → length es ≡ length xs → length es < most_events → ArePacketsOf new.packets p (es ++ e ∷ []) (xs ++ shown t ∷ [])) → Monitors new p (es ++ e ∷ []) (shown t)
monitor_more p old new es s t e monitors made count times peaks buffers packets = λ few.
    let long = length-append es (e ∷ []) in
    let before = monitors (omega (arith, few, long)) in
    let xs = before.0 in
    let was = before.1 in
    let many = sym (as_many p (begins (network_of p) (begin_of p)) es xs (shown s) was.visits) in (
      xs ++ shown t ∷ [],
      record {
        counts = count (λ less. was.counts) few;
        visits = leads_more p (begins (network_of p) (begin_of p)) es xs (shown s) e (shown t) was.visits made.happens;
        times = times xs was.times was.counts many;
        peaks = peaks xs was.peaks;
        buffers = buffers xs was.buffers was.counts many;
        packets = packets xs was.packets many (omega (arith, few, long));
      },
    )

-- there are as many states as events
pub states_many : (p : Plan) (monitor : Monitor) (es : List Event) (xs : List NetworkState) (x : NetworkState) → IsMonitorOf monitor p es xs x → (n : ℕ) → n ≡ length es → n ≡ length xs
states_many p monitor es xs x is n same = same ∙ sym (as_many p (begins (network_of p) (begin_of p)) es xs x is.visits)

-- the numbers of the channels
pub unfinished_are : (p : Plan) (monitor : Monitor) (es : List Event) (xs : List NetworkState) (x : NetworkState) → IsMonitorOf monitor p es xs x → (n : ℕ) → n ≡ length es →
    map (λ time. busy_of time n) monitor.unfinished.times.items ≡ map (unfinished_in p xs) (range_with_len 0 (length p.channels))
unfinished_are p monitor es xs x is n same =
    let many = states_many p monitor es xs x is n same in
    numbered (λ time. busy_of time n) (unfinished_in p xs) monitor.unfinished.times.items 0
    (λ k less. ap (busy_of (time_at monitor.unfinished.times.items k)) many ∙ (is.times.each k).told ∙ ap (unfinished_in p xs) (let e : k ≡ 0 + k = omega arith in e))
    ∙ ap (λ m. map (unfinished_in p xs) (range_with_len 0 m)) is.times.count

-- ---- the ways

link_is : (spot : Spot) (link : ℕ) → link_at (port_at spot link) ≡ link
link_is (Node n) link = refl
link_is (Switch n) link = refl

-- one of the two ports of a wire
abbrev pub IsPortOn : Plan → ℕ → Bool → Port → Type 0
IsPortOn p way one port = network.port_of (network.wire (network_of p) (way / 2)) one ≡ port_of port

-- the figures of a way
pub way_is : (p : Plan) (monitor : Monitor) (es : List Event) (xs : List NetworkState) (x : NetworkState) (way : ℕ) (start end : Port) (source sink : ℕ) (o : Occupancy) (figures : WayFigures) (n : ℕ) → IsMonitorOf monitor p es xs x →
    way < 2 * length p.wires → IsPortOn p way (way % 2 == 0) start → IsPortOn p way (not (way % 2 == 0)) end → end.link < 32 → source ≡ actor_at (network_of p) (port_of start) → sink ≡ actor_at (network_of p) (port_of end) →
    o ≡ occupancy_at monitor.buffers sink end.link → n ≡ length es →
    figures.packets ≡ (count_at monitor.packets source start.link).packets → figures.acks ≡ (count_at monitor.packets source start.link).acks →
    figures.most ≡ peak_at monitor.peaks.most.items way → figures.buffered ≡ o.most → figures.waited ≡ busy_of o.time n → figures ≡ way_figures p es xs way
way_is p monitor es xs x way start end source sink o figures n is less begins ends few from to held same packets acks most buffered waited = (
    let here = is.buffers sink end.link few in
    let f : NetworkState → ℕ = λ y. buffered_in y sink end.link in
    let g : buffered_at p way ≡ f = ap (λ q y. buffered_in y (actor_at (network_of p) q) (link_at q)) ends
    ∙ ap (λ l y. buffered_in y (actor_at (network_of p) (port_of end)) l) (link_is end.spot end.link) ∙ ap (λ k y. buffered_in y k end.link) (sym to) in
    let many = states_many p monitor es xs x is n same in
    let whole = is.packets way less in
    let c : count_at monitor.packets source start.link ≡ count_at monitor.packets (actor_at (network_of p) (near (network_of p) way)) (link_at (near (network_of p) way)) =
    ap (λ k. count_at monitor.packets k start.link) from ∙ ap (count_at monitor.packets (actor_at (network_of p) (port_of start))) (sym (link_is start.spot start.link))
    ∙ ap (λ q. count_at monitor.packets (actor_at (network_of p) q) (link_at q)) (sym begins) in
    λ i. record {
      packets = (packets ∙ ap (λ (z : PacketCount). z.packets) c ∙ whole.packets) i;
      acks = (acks ∙ ap (λ (z : PacketCount). z.acks) c ∙ whole.acks) i;
      most = (most ∙ (is.peaks.each way less).is) i;
      buffered = (buffered ∙ ap (λ (z : Occupancy). z.most) held ∙ here.peak.is ∙ ap (λ h. greatest h xs) (sym g)) i;
      waited = (waited ∙ ap (λ (z : Occupancy). busy_of z.time n) held ∙ ap (busy_of (occupancy_at monitor.buffers sink end.link).time) many ∙ here.time.told ∙ ap (λ h. count_some h xs) (sym g)) i;
    })

-- one way more
pub ways_are : (p : Plan) (es : List Event) (xs : List NetworkState) (old new : List WayFigures) (figures : WayFigures) (n : ℕ) → old ≡ map (way_figures p es xs) (range_with_len 0 n) → new ≡ old ++ figures ∷ [] → figures ≡ way_figures p es xs n →
    new ≡ map (way_figures p es xs) (range_with_len 0 (n + 1))
ways_are p es xs old new figures n before grown is =
    grown ∙ ap (λ fs. fs ++ figures ∷ []) before ∙ ap (λ f. map (way_figures p es xs) (range_with_len 0 n) ++ f ∷ []) is
    ∙ sym (ap (map (way_figures p es xs)) (range_more n) ∙ map-append (way_figures p es xs) (range_with_len 0 n) (n ∷ []))

-- a text of the states that are visited
pub counted_text : (form : Form) (why : Bool) (p : Plan) (es : List Event) (xs : List NetworkState) (x : NetworkState) (close : Close) (text : List ℕ) (states : Figures) → Visits p es xs x →
    states ≡ figures_of p es xs → IsCountedText form why states p es x close text → IsStatsText form why p es x close text
counted_text form why p es xs x close text states visits same is = (xs, visits, subst (λ s. IsCountedText form why s p es x close text) same is)
