-- Only so many moves, so much that is to come, so many that can begin alone, and so many tokens' events: each event leaves fewer of the first
-- that it changes.
use Rattle.std.proofs.Common.{◌≡◌, ℕ, zero, suc, ◌+◌, ◌≤◌, List, [], ◌∷◌, ◌++◌, length, refl, sym, subst, arith, length-append}
use Rattle.vc_accepted.proofs.AcceptedNetwork.{accepted}
use Rattle.vc_accepted.specs.Begin.{begin_of}
use Rattle.vc_accepted.specs.NetworkOf.{network_of}
use Rattle.vc_accepted.specs.Process.{does}
use Rattle.vc_core.specs.PossibleEvents.{NetworkState}
use Rattle.vc_free.proofs.Schedules.{after_all}
use Rattle.vc_meaning.proofs.Events.{event_of, then_happens}
use Rattle.vc_meaning.proofs.Measures.{all_late, all_alone, few_alone}
use Rattle.vc_meaning.proofs.Opening.{opening_means}
use Rattle.vc_meaning.proofs.Steps.{Nearer, makes_move, begins_one, comes_nearer, carries_on}
use Rattle.vc_meaning.specs.Endings.{Ends, ends, EndsAnywhere}
use Rattle.vc_meaning.specs.Meaning.{Means}
use Rattle.vc_network.proofs.Descent.{ends as runs_end}
use Rattle.vc_network.specs.Actors.{ActBy}
use Rattle.vc_network.specs.Network.{Act, begins, Happens, HappenAll}
use Rattle.vc_network.specs.Still.{IsNoMove, BoundsRuns}
use Rattle.vc_plan.specs.Accepted.{IsAccepted}
use Rattle.vc_plan.specs.Dependencies.{HasRanks}
use Rattle.vc_plan.specs.declared.plan.Plan.{Plan}
use Rattle.vc_program.specs.Program.{Program, program_of, Move, MakesAll, no_more, Reaches, EndsWithin}
use Rattle.vc_switch.specs.Waiting.{Waiting}
use Rattle.vc_accepted.proofs.Ranks.{ranked}

module _ (p : Plan) (rule : Waiting) (limit : ℕ) (acc : IsAccepted p) (ranks : HasRanks p) (few : EndsWithin p limit) where
  -- wherever a run has come
  record Come (es : List (ActBy Act)) (x : NetworkState) : Type 0 where
    happen : HappenAll (network_of p) rule does (begins (network_of p) (begin_of p)) es x
    schedule : List Move
    state : Program
    reaches : Reaches p schedule state
    means : Means p x state

  bound_at : (es : List (ActBy Act)) (x : NetworkState) → Come es x → (bound : ℕ) × BoundsRuns (network_of p) rule does x bound
  bound_at es x c = runs_end (network_of p) rule does (begin_of p) es x (accepted p acc) (ranked p acc ranks) c.happen

  abbrev on : {es : List (ActBy Act)} {x y : NetworkState} {e : ActBy Act} → (c : Come es x) → Happens (network_of p) rule does x e y → Means p y c.state → Come (es ++ e ∷ []) y
  on {es} {x} {y} {e} c h m = record { happen = then_happens p rule es e (begins (network_of p) (begin_of p)) x y c.happen h; schedule = c.schedule; state = c.state; reaches = c.reaches; means = m }

  -- with so many moves left, so much to come, so many to begin alone, and so many events of tokens
  abbrev Goal : ℕ → ℕ → ℕ → ℕ → Type 0
  Goal k t b u =
      (es : List (ActBy Act)) (x : NetworkState) (c : Come es x) → limit ≤ length c.schedule + k → all_late p x ≤ t → length p.channels ≤ all_alone p x + b → BoundsRuns (network_of p) rule does x u → Ends p rule x

  -- what is known of fewer moves, of as many and less to come, of as much and fewer to begin alone, and of as many and fewer events of tokens
  record Known (k t b u : ℕ) : Type 0 where
    moves : (j : ℕ) → suc j ≤ k → (t b u : ℕ) → Goal j t b u
    late : (j : ℕ) → suc j ≤ t → (b u : ℕ) → Goal k j b u
    alone : (j : ℕ) → suc j ≤ b → (u : ℕ) → Goal k t j u
    tokens : (j : ℕ) → suc j ≤ u → Goal k t b j

  one_step : (k t b u : ℕ) → Known k t b u → Goal k t b u
  one_step k t b u known es x c l1 l2 l3 l4 = ends (λ e y h. by_event k t b u known l1 l2 l3 l4 e y h (event_of p rule es x y e c.schedule c.state acc c.happen h c.reaches c.means))
    where
      by_event : (k t b u : ℕ) → Known k t b u → limit ≤ length c.schedule + k → all_late p x ≤ t → length p.channels ≤ all_alone p x + b → BoundsRuns (network_of p) rule does x u → (e : ActBy Act) (y : NetworkState) → Happens (network_of p) rule does x e y → Nearer p c.state x e.act y → Ends p rule y
      by_event zero t b u known l1 l2 l3 l4 e y h (makes_move never m s st w) =
          absurd (let f = few (c.schedule ++ m ∷ []) s (after_all c.reaches st) in let g = length-append c.schedule (m ∷ []) in omega arith)
      by_event (suc k) t b u known l1 l2 l3 l4 e y h (makes_move never m s st w) =
          let d : Come (es ++ e ∷ []) y = record { happen = then_happens p rule es e (begins (network_of p) (begin_of p)) x y c.happen h; schedule = c.schedule ++ m ∷ []; state = s; reaches = after_all c.reaches st; means = w } in
          let r = bound_at (es ++ e ∷ []) y d in
          known.moves k (omega arith) (all_late p y) (length p.channels) r.0 (es ++ e ∷ []) y d (let g = length-append c.schedule (m ∷ []) in omega arith) (omega arith) (omega arith) r.1
      by_event k zero b u known l1 l2 l3 l4 e y h (comes_nearer w f) = absurd (omega arith)
      by_event k (suc t) b u known l1 l2 l3 l4 e y h (comes_nearer w f) =
          let d = on c h w in
          let r = bound_at (es ++ e ∷ []) y d in
          known.late t (omega arith) (length p.channels) r.0 (es ++ e ∷ []) y d l1 (omega arith) (omega arith) r.1
      by_event k t zero u known l1 l2 l3 l4 e y h (begins_one w f) = absurd (let g = f.alone in let j = few_alone p y in omega arith)
      by_event k t (suc b) u known l1 l2 l3 l4 e y h (begins_one w f) =
          let d = on c h w in
          let r = bound_at (es ++ e ∷ []) y d in
          known.alone b (omega arith) r.0 (es ++ e ∷ []) y d l1 (let g = f.late in omega arith) (let g = f.alone in omega arith) r.1
      by_event k t b zero known l1 l2 l3 l4 e y h (carries_on none w f g) = absurd (let j : 1 ≤ 0 = l4 (e ∷ []) y (none, tt) (y, h, record { states = λ n. refl; ways = λ w. refl }) in omega arith)
      by_event k t b (suc u) known l1 l2 l3 l4 e y h (carries_on none w f g) =
          let d = on c h w in
          known.tokens u (omega arith) (es ++ e ∷ []) y d l1 (omega arith) (omega arith)
          (λ later z n more. (let j : suc (length later) ≤ suc u = l4 (e ∷ later) z (none, n) (y, h, more) in omega arith))

  -- what holds if it holds below, holds
  below : (P : ℕ → Type 0) → ((n : ℕ) → ((j : ℕ) → suc j ≤ n → P j) → P n) → (n j : ℕ) → suc j ≤ n → P j
  below P step zero j l = absurd (omega arith)
  below P step (suc n) j l = step j (λ i k. below P step n i (omega arith))

  always : (P : ℕ → Type 0) → ((n : ℕ) → ((j : ℕ) → suc j ≤ n → P j) → P n) → (n : ℕ) → P n
  always P step n = step n (below P step n)

  ends_by : (k t b u : ℕ) → Goal k t b u
  ends_by = always (λ k. (t b u : ℕ) → Goal k t b u)
      (λ k moves. always (λ t. (b u : ℕ) → Goal k t b u)
      (λ t late. always (λ b. (u : ℕ) → Goal k t b u) (λ b alone. always (λ u. Goal k t b u) (λ u tokens. one_step k t b u (record { moves = moves; late = late; alone = alone; tokens = tokens })))))

pub ends_anywhere : EndsAnywhere
ends_anywhere p limit acc ranks few rule =
    let o = begins (network_of p) (begin_of p) in
    let c : Come p rule limit acc ranks few [] o = record { happen = record { states = λ n. refl; ways = λ w. refl }; schedule = []; state = program_of p; reaches = no_more; means = opening_means p acc } in
    let r = bound_at p rule limit acc ranks few [] o c in
    ends_by p rule limit acc ranks few limit (all_late p o) (length p.channels) r.0 [] o c (omega arith) (omega arith) (omega arith) r.1
