-- The opening state: no output is unfinished.
use Rattle.std.proofs.Common.{◌≡◌, ℕ, Bool, true, false, [], nat_lt, refl, ap, if◌then◌else◌}
use Rattle.vc_machine.specs.Rendezvous.{nothing_yet}
use Rattle.vc_network.specs.Network.{Actor, IsNode, IsSwitch, begins}
use Rattle.vc_network.specs.Plan.{Plan, Home, Way, Inside, home}
use Rattle.vc_network.specs.Views.{inner_of, source_node, vcp_of, view, view_at}
use Rattle.vc_switch.specs.Switch.{new_switch}
use Rattle.vc_vcp.specs.Links.{new_vcp}
use Rattle.vc_stats.specs.StateFigures.{is_open}

-- a node or a switch about to begin
abbrev fresh : {P : Type 0} → (ℕ → P) → ℕ → Bool → Actor P
fresh begin k b = if b then IsNode (record { vcp = new_vcp; process = begin k; inner = λ c. nothing_yet }) else IsSwitch new_switch

fresh_vcp : {P : Type 0} (begin : ℕ → P) (k : ℕ) (b : Bool) → vcp_of (fresh begin k b) ≡ new_vcp
fresh_vcp begin k true = refl
fresh_vcp begin k false = refl

fresh_inner : {P : Type 0} (begin : ℕ → P) (k c : ℕ) (b : Bool) → inner_of (fresh begin k b) c ≡ nothing_yet
fresh_inner begin k c true = refl
fresh_inner begin k c false = refl

closed_at : {P : Type 0} (plan : Plan) (begin : ℕ → P) (c : ℕ) (h : Home) → is_open (view_at plan (begins plan begin) c h) ≡ false
closed_at plan begin c (Way v ab) = (let n = source_node plan (Way v ab) in
    ap (λ s. let x = s.carrier.out c in is_open (record { offered = x.offered; taken = []; finished = x.finished; stopped = false })) (fresh_vcp begin n (nat_lt n plan.nodes)))
closed_at plan begin c (Inside n) = ap is_open (fresh_inner begin n c (nat_lt n plan.nodes))

pub closed : {P : Type 0} (plan : Plan) (begin : ℕ → P) (c : ℕ) → is_open (view plan (begins plan begin) c) ≡ false
closed plan begin c = closed_at plan begin c (home plan c)
