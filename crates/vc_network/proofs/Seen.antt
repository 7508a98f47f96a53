-- The nodes of the network of ways as they are seen in each node's halves and queues.
use Rattle.std.proofs.Common.{◌≡◌, ℕ, ◌<◌, List, refl, sym, ap, subst, ◌∙◌, inl, inr}
use Rattle.std.proofs.lemmas.Bool.{cases_eq}
use Rattle.vc_packets.specs.declared.packet.Packet.{Packet}
use Rattle.vc_machine.specs.Paths.{Port, AtNode, AtSwitch}
use Rattle.vc_machine.specs.Machine.{State, ChanState, set_way, set_chan}
use Rattle.vc_packets.specs.Functions.{put}
use Rattle.vc_machine.proofs.Basics.{put-same, put-other, every_put}
use Rattle.vc_vcp.specs.Carrier.{Carrier, OutHalf, InHalf, set_out, set_in}
use Rattle.vc_network.proofs.Wires.{one_near}
use Rattle.vc_network.specs.Plan.{Plan, home, ways, near, IsAccepted}
use Rattle.vc_network.specs.Packets.{of_halves}
use Rattle.vc_network.specs.Views.{source_node, sink_node, queue_at}

pub record Sees (plan : Plan) (car : ℕ → Carrier) (sw : ℕ → ℕ) (t : State) : Type 0 where
  pub queue : (w : ℕ) → w < ways plan → (t.ways w).queue ≡ queue_at car (near plan w)
  pub chan : (c : ℕ) → t.chans c ≡ of_halves ((car (source_node plan (home plan c))).out c) ((car (sink_node plan (home plan c))).into c)
  pub strays : t.strays ≡ 0 → (n : ℕ) → (car n).strays ≡ 0
  pub lost : t.lost ≡ 0 → (k : ℕ) → sw k ≡ 0

-- what a change at one place leaves alone
pub keep : {X Y : Type 0} (f : X → Y) (g : ℕ → X) (n : ℕ) (x : X) → f x ≡ f (g n) → (m : ℕ) → f (put g n x m) ≡ f (g m)
keep f g n x e = every_put (λ m y. f y ≡ f (g m)) g n x e (λ m ne. refl)

pub put_twice : {X : Type 0} (g : ℕ → X) (n : ℕ) (x y : X) → put (put g n x) n y ≡ put g n y
put_twice g n x y = λ i m. (every_put (λ j z. z ≡ put g n y j) (put g n x) n y (sym (put-same g n y)) (λ j ne. put-other g n x j ne ∙ sym (put-other g n y j ne)) m) i

pub same_queues : (car : ℕ → Carrier) (n : ℕ) (b : Carrier) → b.queue ≡ (car n).queue → (q : Port) → queue_at (put car n b) q ≡ queue_at car q
same_queues car n b e (AtNode m link) = ap (λ f. f link) (keep (λ a. a.queue) car n b e m)
same_queues car n b e (AtSwitch k link) = refl

queue_here : (car : ℕ → Carrier) (n link : ℕ) (b : Carrier) (x : List Packet) → b.queue ≡ put (car n).queue link x → queue_at (put car n b) (AtNode n link) ≡ x
queue_here car n link b x e = ap (λ a. a.queue link) (put-same car n b) ∙ ap (λ f. f link) e ∙ put-same (car n).queue link x

queue_there : (car : ℕ → Carrier) (n link : ℕ) (b : Carrier) (x : List Packet) → b.queue ≡ put (car n).queue link x → (q : Port) → (q ≡ AtNode n link → ⊥) →
    queue_at (put car n b) q ≡ queue_at car q
queue_there car n link b x e (AtNode m j) ne =
    elim (cases_eq m n) [
      | inl s ↦ subst (λ z. (put car n b z).queue j ≡ (car z).queue j) (sym s)
          (ap (λ a. a.queue j) (put-same car n b) ∙ ap (λ f. f j) e ∙ put-other (car n).queue link x j (λ k. ne (λ i. AtNode (s i) (k i))))
      | inr o ↦ ap (λ a. a.queue j) (put-other car n b m o)
    ]
queue_there car n link b x e (AtSwitch k j) ne = refl

-- an out half changes
pub out_seen : (plan : Plan) (car : ℕ → Carrier) (sw : ℕ → ℕ) (t : State) (n c : ℕ) (f : OutHalf → OutHalf) (F : ChanState → ChanState) →
    ((x : OutHalf) (y : InHalf) → F (of_halves x y) ≡ of_halves (f x) y) → source_node plan (home plan c) ≡ n → Sees plan car sw t →
    Sees plan (put car n (set_out (car n) c (f ((car n).out c)))) sw (set_chan t c (F (t.chans c)))
out_seen plan car sw t n c f F fits from s =
    let b = set_out (car n) c (f ((car n).out c)) in
    let into : (m d : ℕ) → (put car n b m).into d ≡ (car m).into d = λ m d. ap (λ g. g d) (keep (λ a. a.into) car n b refl m) in
    let out : (m d : ℕ) → (d ≡ c → ⊥) → (put car n b m).out d ≡ (car m).out d = λ m d ne. keep (λ a. a.out d) car n b (put-other (car n).out c (f ((car n).out c)) d ne) m in
    let here : (put car n b (source_node plan (home plan c))).out c ≡ f ((car (source_node plan (home plan c))).out c) =
    subst (λ m. (put car n b m).out c ≡ f ((car m).out c)) (sym from) (ap (λ a. a.out c) (put-same car n b) ∙ put-same (car n).out c (f ((car n).out c))) in
    record {
      queue = λ w r. s.queue w r ∙ sym (same_queues car n b refl (near plan w));
      chan = every_put (λ d x. x ≡ of_halves ((put car n b (source_node plan (home plan d))).out d) ((put car n b (sink_node plan (home plan d))).into d)) t.chans c (F (t.chans c))
          (ap F (s.chan c) ∙ fits ((car (source_node plan (home plan c))).out c) ((car (sink_node plan (home plan c))).into c)
          ∙ (sym (λ i. of_halves (here i) (into (sink_node plan (home plan c)) c i))))
          (λ d ne. s.chan d ∙ (sym (λ i. of_halves (out (source_node plan (home plan d)) d ne i) (into (sink_node plan (home plan d)) d i))));
      strays = λ e m. keep (λ a. a.strays) car n b refl m ∙ s.strays e m;
      lost = s.lost;
    }

-- an in half changes
pub in_seen : (plan : Plan) (car : ℕ → Carrier) (sw : ℕ → ℕ) (t : State) (n c : ℕ) (f : InHalf → InHalf) (F : ChanState → ChanState) →
    ((x : OutHalf) (y : InHalf) → F (of_halves x y) ≡ of_halves x (f y)) → sink_node plan (home plan c) ≡ n → Sees plan car sw t →
    Sees plan (put car n (set_in (car n) c (f ((car n).into c)))) sw (set_chan t c (F (t.chans c)))
in_seen plan car sw t n c f F fits to s =
    let b = set_in (car n) c (f ((car n).into c)) in
    let out : (m d : ℕ) → (put car n b m).out d ≡ (car m).out d = λ m d. ap (λ g. g d) (keep (λ a. a.out) car n b refl m) in
    let into : (m d : ℕ) → (d ≡ c → ⊥) → (put car n b m).into d ≡ (car m).into d = λ m d ne. keep (λ a. a.into d) car n b (put-other (car n).into c (f ((car n).into c)) d ne) m in
    let here : (put car n b (sink_node plan (home plan c))).into c ≡ f ((car (sink_node plan (home plan c))).into c) =
    subst (λ m. (put car n b m).into c ≡ f ((car m).into c)) (sym to) (ap (λ a. a.into c) (put-same car n b) ∙ put-same (car n).into c (f ((car n).into c))) in
    record {
      queue = λ w r. s.queue w r ∙ sym (same_queues car n b refl (near plan w));
      chan = every_put (λ d x. x ≡ of_halves ((put car n b (source_node plan (home plan d))).out d) ((put car n b (sink_node plan (home plan d))).into d)) t.chans c (F (t.chans c))
          (ap F (s.chan c) ∙ fits ((car (source_node plan (home plan c))).out c) ((car (sink_node plan (home plan c))).into c)
          ∙ (sym (λ i. of_halves (out (source_node plan (home plan c)) c i) (here i))))
          (λ d ne. s.chan d ∙ (sym (λ i. of_halves (out (source_node plan (home plan d)) d i) (into (sink_node plan (home plan d)) d ne i))));
      strays = λ e m. keep (λ a. a.strays) car n b refl m ∙ s.strays e m;
      lost = s.lost;
    }

-- a send queue changes
pub queue_seen : (plan : Plan) (car : ℕ → Carrier) (sw : ℕ → ℕ) (t : State) (n link w : ℕ) (x : List Packet) →
    IsAccepted plan → w < ways plan → near plan w ≡ AtNode n link → Sees plan car sw t →
    Sees plan (put car n (record (car n) { queue = put (car n).queue link x })) sw (set_way t w (record (t.ways w) { queue = x }))
queue_seen plan car sw t n link w x acc real at s =
    let b = record (car n) { queue = put (car n).queue link x } in
    record {
      queue = every_put (λ v y. v < ways plan → y.queue ≡ queue_at (put car n b) (near plan v)) t.ways w (record (t.ways w) { queue = x })
          (λ r. sym (ap (queue_at (put car n b)) at ∙ queue_here car n link b x refl))
          (λ v ne r. s.queue v r ∙ sym (queue_there car n link b x refl (near plan v) (λ e. ne (one_near plan acc v w r real (e ∙ sym at)))));
      chan = λ c. s.chan c ∙ (sym (λ i. of_halves (keep (λ a. a.out c) car n b refl (source_node plan (home plan c)) i) (keep (λ a. a.into c) car n b refl (sink_node plan (home plan c)) i)));
      strays = λ e m. keep (λ a. a.strays) car n b refl m ∙ s.strays e m;
      lost = s.lost;
    }
