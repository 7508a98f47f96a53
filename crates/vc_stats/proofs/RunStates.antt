-- What is kept of the states that a run visits, after one event more.
use Rattle.std.proofs.Common.{◌≡◌, ◌≤◌, ◌<◌, ◌*◌, ◌==◌, ◌&&◌, nat_lt, ℕ, zero, suc, Bool, true, false, cond, List, [], ◌∷◌, ◌++◌, length, max, Option, Some, None, refl, sym, ap, ◌∙◌, subst, inl, inr, arith}
use Rattle.std.proofs.lemmas.Bool.{cases_lt}
use Rattle.std.proofs.lemmas.Bool.Decides.{nat_tests}
use Rattle.std.proofs.lemmas.Option.{slice_get_past, same_Some}
use Rattle.vc_accepted.specs.NetworkOf.{home_in, network_of}
use Rattle.vc_accepted.specs.Process.{does}
use Rattle.vc_accepted.proofs.Elements.{made, made_or}
use Rattle.vc_core.specs.PossibleEvents.{NetworkState}
use Rattle.vc_core.specs.Links.{buffered_in}
use Rattle.vc_network.specs.Actors.{ActBy}
use Rattle.vc_network.specs.Network.{Happens}
use Rattle.vc_network.specs.Network as net
use Rattle.vc_network.specs.Plan.{home}
use Rattle.vc_network.specs.Plan as network
use Rattle.vc_plan.specs.declared.plan.Plan.{Plan}
use Rattle.vc_switch.specs.Waiting.{Wormhole}
use Rattle.vc_stats.specs.Buffers.{AreBuffersOf, IsOccupancyOf, occupancy_at}
use Rattle.vc_stats.specs.Private.Buffers.{holding}
use Rattle.vc_stats.specs.Private.Peaks.{AreRaised}
use Rattle.vc_stats.specs.Peaks.{AreWaysOf, IsPeakOf, peak_at}
use Rattle.vc_stats.specs.Rows.{has, is_in, row_of}
use Rattle.vc_stats.specs.Times.{AreOutputsOf, IsTimeOf, source_on, time_at}
use Rattle.vc_stats.specs.Private.Times.{AreTurned, turned}
use Rattle.vc_stats.specs.StateFigures.{is_unfinished, tokens_on}
use Rattle.vc_stats.specs.declared.busy_time.BusyTime.{BusyTime}
use Rattle.vc_stats.specs.declared.busy_time.BusyTime.TheVariants.{Idle}
use Rattle.vc_stats.specs.declared.buffers.Buffers.{Buffers}
use Rattle.vc_stats.specs.declared.occupancy.Occupancy.{Occupancy}
use Rattle.vc_stats.specs.declared.rows.Rows.{Rows}
use Rattle.vc_stats.proofs.Busy.{still, turns as turns_on}
use Rattle.vc_stats.proofs.WayTokens.{no_more, puts}
use Rattle.vc_stats.proofs.Finishes.{stays, turns}
use Rattle.vc_stats.proofs.BufferEvents.{buffer_by, same_buffer}
use Rattle.vc_stats.proofs.Visits.{greatest_more}

-- a test, and that it holds or not
pub by_test : {X : Type 0} (P : X → Type 0) (b : Bool) (x y : X) → (b ≡ true → P x) → (b ≡ false → P y) → P (cond b x y)
by_test P true x y held failed = held refl
by_test P false x y held failed = failed refl

not_both : (b : Bool) → b ≡ true → b ≡ false → ⊥
not_both b held failed = cc

-- two numbers are two others
pub both_eq : (a b c d : ℕ) → (a == b && c == d) ≡ true → (a ≡ b) × (c ≡ d)
both_eq a b c d is = grind (arith, nat_tests)

not_eq : (a b c d : ℕ) → a ≡ b → d ≡ c → (a == b && c == d) ≡ false → ⊥
not_eq a b c d e f is = grind (arith, nat_tests)

-- ---- the times of channels

-- no channel past the list is on a virtual link
past_home : (p : Plan) (c : ℕ) → length p.channels ≤ c → source_on (network_of p) (home (network_of p) c) ≡ None
past_home p c past = ap (source_on (network_of p)) (made home_in p.channels c (network.Inside (length p.nodes)) ∙ ap (made_or (network.Inside (length p.nodes)) home_in) (slice_get_past p.channels c past))

none_some : (o : Option ℕ) (k : ℕ) → o ≡ None → o ≡ Some k → ⊥
none_some o k none some = cc

past_of : (times : List BusyTime) (c : ℕ) → length times ≤ c → time_at times c ≡ Idle 0
past_of [] c past = refl
past_of (t ∷ ts) zero past = absurd (omega (arith, past))
past_of (t ∷ ts) (suc c) past = past_of ts c (omega (arith, past))

past_same : (old new : List BusyTime) (n c : ℕ) → length old ≡ n → length new ≡ length old → n ≤ c → time_at old c ≡ time_at new c
past_same old new n c count same past = past_of old c (omega (arith, count, past)) ∙ sym (past_of new c (omega (arith, count, same, past)))

-- the act turns no channel
pub times_still : (p : Plan) (times : List BusyTime) (xs : List NetworkState) (x y : NetworkState) (e : ActBy net.Act) → ((c : ℕ) → IsTimeOf (is_unfinished p c) xs x (time_at times c)) →
    Happens (network_of p) Wormhole does x e y → turns e.act ≡ false → (c : ℕ) → IsTimeOf (is_unfinished p c) (xs ++ y ∷ []) y (time_at times c)
times_still p times xs x y e each h not c =
    still (is_unfinished p c) xs x y (time_at times c) (each c) (stays (network_of p) Wormhole does x y e c h (λ t own. not_both (turns e.act) t not))

-- the channels of the event's actor have turned
pub times_turn : (p : Plan) (outputs : Rows) (old new : List BusyTime) (xs : List NetworkState) (x y : NetworkState) (e : ActBy net.Act) (events : ℕ) → AreOutputsOf p outputs →
    length old ≡ length p.channels → ((c : ℕ) → IsTimeOf (is_unfinished p c) xs x (time_at old c)) → events ≡ length xs → Happens (network_of p) Wormhole does x e y →
    AreTurned p y events (row_of outputs e.actor) old new → (c : ℕ) → IsTimeOf (is_unfinished p c) (xs ++ y ∷ []) y (time_at new c)
times_turn p outputs old new xs x y e events rows count each now h turn c =
    let u = is_unfinished p c in
    let Right = IsTimeOf u (xs ++ y ∷ []) y in
    let same : (source_on (network_of p) (home (network_of p) c) ≡ Some e.actor → ⊥) → Right (time_at old c) =
    λ away. still u xs x y (time_at old c) (each c) (stays (network_of p) Wormhole does x y e c h (λ t own. away own)) in
    elim (cases_lt c (length p.channels)) [
      | inl less ↦ subst Right (sym (turn.each c less))
          (by_test Right (is_in c (row_of outputs e.actor)) (turned (u y) events (time_at old c)) (time_at old c)
          (λ held. subst (λ n. Right (turned (u y) n (time_at old c))) (sym now) (turns_on u xs x y (time_at old c) (each c)))
          (λ failed. same (λ own. not_both (has outputs e.actor c) (rows c e.actor own) failed)))
      | inr past ↦ subst Right (past_same old new (length p.channels) c count turn.count past) (same (λ own. none_some _ e.actor (past_home p c past) own))
    ]

-- ---- peaks

peak_more : {X : Type 0} (f : X → ℕ) (xs : List X) (x y : X) (n : ℕ) → IsPeakOf f xs x n → f y ≤ f x → IsPeakOf f (xs ++ y ∷ []) y n
peak_more f xs x y n peak fewer =
    let is = peak.is in
    let over = peak.over in
    let more = greatest_more f xs y in
    record { is = omega (arith, is, over, more, fewer); over = omega (arith, over, fewer) }

peak_raised : {X : Type 0} (f : X → ℕ) (xs : List X) (x y : X) (n : ℕ) → IsPeakOf f xs x n → IsPeakOf f (xs ++ y ∷ []) y (max n (f y))
peak_raised f xs x y n peak =
    let is = peak.is in
    let more = greatest_more f xs y in
    record { is = omega (arith, is, more); over = omega arith }

-- the act puts no token
pub peaks_still : (p : Plan) (most : List ℕ) (xs : List NetworkState) (x y : NetworkState) (e : ActBy net.Act) (way : ℕ) → IsPeakOf (tokens_on way) xs x (peak_at most way) →
    Happens (network_of p) Wormhole does x e y → puts e.act ≡ false → IsPeakOf (tokens_on way) (xs ++ y ∷ []) y (peak_at most way)
peaks_still p most xs x y e way is h not = peak_more (tokens_on way) xs x y (peak_at most way) is (no_more (network_of p) Wormhole does x y e way h (λ t own. not_both (puts e.act) t not))

-- the ways of the event's actor were raised
pub peaks_raise : (p : Plan) (ways : Rows) (old new : List ℕ) (xs : List NetworkState) (x y : NetworkState) (e : ActBy net.Act) (way : ℕ) → AreWaysOf p ways → length old ≡ 2 * length p.wires →
    way < 2 * length p.wires → IsPeakOf (tokens_on way) xs x (peak_at old way) → Happens (network_of p) Wormhole does x e y → AreRaised y (row_of ways e.actor) old new →
    IsPeakOf (tokens_on way) (xs ++ y ∷ []) y (peak_at new way)
peaks_raise p ways old new xs x y e way rows count less is h raised =
    let Right = IsPeakOf (tokens_on way) (xs ++ y ∷ []) y in
    subst Right (sym (raised.each way (omega (arith, less, count))))
    (by_test Right (is_in way (row_of ways e.actor)) (max (peak_at old way) (length (y.way way))) (peak_at old way)
    (λ held. peak_raised (tokens_on way) xs x y (peak_at old way) is)
    (λ failed. peak_more (tokens_on way) xs x y (peak_at old way) is (no_more (network_of p) Wormhole does x y e way h (λ t own.
    not_both (has ways e.actor way) (subst (λ k. has ways k way ≡ true) own (rows way less)) failed))))

-- ---- receive buffers

-- the buffer holds as many tokens as before
occupancy_still : {X : Type 0} (f : X → ℕ) (xs : List X) (x y : X) (o : Occupancy) → IsOccupancyOf f xs x o → f y ≡ f x → IsOccupancyOf f (xs ++ y ∷ []) y o
occupancy_still f xs x y o is same = record {
  peak = peak_more f xs x y o.most is.peak (omega (arith, same));
  time = still (λ z. nat_lt 0 (f z)) xs x y o.time is.time (ap (nat_lt 0) same);
}

-- it holds so many
occupancy_held : {X : Type 0} (f : X → ℕ) (xs : List X) (x y : X) (o : Occupancy) (tokens events : ℕ) → IsOccupancyOf f xs x o → tokens ≡ f y → events ≡ length xs → IsOccupancyOf f (xs ++ y ∷ []) y (holding tokens events o)
occupancy_held f xs x y o tokens events is now many =
    subst (λ t. IsOccupancyOf f (xs ++ y ∷ []) y (holding t events o)) (sym now)
    (subst (λ n. IsOccupancyOf f (xs ++ y ∷ []) y (holding (f y) n o)) (sym many) (record {
      peak = peak_raised f xs x y o.most is.peak;
      time = turns_on (λ z. nat_lt 0 (f z)) xs x y o.time is.time;
    }))

-- the act changes no buffer of a link under 32
pub buffers_still : (p : Plan) (all : Buffers) (xs : List NetworkState) (x y : NetworkState) (e : ActBy net.Act) → AreBuffersOf all xs x → Happens (network_of p) Wormhole does x e y →
    ((l : ℕ) → l < 32 → buffer_by e.act ≡ Some l → ⊥) → AreBuffersOf all (xs ++ y ∷ []) y
buffers_still p all xs x y e are h not = λ k l less.
    occupancy_still (λ z. buffered_in z k l) xs x y (occupancy_at all k l) (are k l less) (same_buffer (network_of p) Wormhole does x y e k l h (λ own is. not l less is))

-- the buffer of the event's actor and link holds so many tokens now
pub buffers_hold : (p : Plan) (old new : Buffers) (xs : List NetworkState) (x y : NetworkState) (e : ActBy net.Act) (link tokens events : ℕ) → AreBuffersOf old xs x → Happens (network_of p) Wormhole does x e y →
    buffer_by e.act ≡ Some link → tokens ≡ buffered_in y e.actor link → events ≡ length xs →
    ((k l : ℕ) → l < 32 → occupancy_at new k l ≡ cond (k == e.actor && l == link) (holding tokens events (occupancy_at old k l)) (occupancy_at old k l)) → AreBuffersOf new (xs ++ y ∷ []) y
buffers_hold p old new xs x y e link tokens events are h by now many after = λ k l less.
    let f : NetworkState → ℕ = λ z. buffered_in z k l in
    let Right = IsOccupancyOf f (xs ++ y ∷ []) y in
    subst Right (sym (after k l less)) (by_test Right (k == e.actor && l == link) (holding tokens events (occupancy_at old k l)) (occupancy_at old k l)
    (λ held. let own = both_eq k e.actor l link held in
    occupancy_held f xs x y (occupancy_at old k l) tokens events (are k l less) (now ∙ ap (λ j. buffered_in y j link) (sym own.0) ∙ ap (buffered_in y k) (sym own.1)) many)
    (λ failed. occupancy_still f xs x y (occupancy_at old k l) (are k l less) (same_buffer (network_of p) Wormhole does x y e k l h (λ own is.
    not_eq k e.actor l link (sym own) (same_Some link l (sym by ∙ is)) failed))))
