-- After any events one list tells all that the nodes communicate, and each node's part of it is made by its process step by step, as if
-- each input had begun where it has its message.
use Rattle.std.proofs.Common.{◌≡◌, ◌≢◌, ℕ, suc, ◌+◌, ◌≤◌, ◌<◌, inl, inr, ◌⊎◌, Bool, true, false, refl, sym, ap, subst, ◌∙◌, List, [], ◌∷◌, ◌++◌, length, Option, Some, None, arith, append-nil, if◌then◌else◌, ◌==◌, eq-eqb, ne_eqb}
use Rattle.std.proofs.lemmas.Bool.{cases_eq}
use Rattle.std.proofs.lemmas.List.{map-append}
use Rattle.vc_machine.proofs.Basics.{put-same, put-other, every_put}
use Rattle.vc_packets.specs.Kind.{kind}
use Rattle.vc_packets.specs.declared.kind.Kind.TheVariants.{Ack, Piece}
use Rattle.vc_packets.specs.declared.mark.Mark.{Mark}
use Rattle.vc_packets.specs.declared.mark.Mark.TheVariants.{Eop, Eom}
use Rattle.vc_process.specs.declared.datum.Datum.{Datum}
use Rattle.vc_network.specs.Actors.{Label, Network, ActBy, Step}
use Rattle.vc_network.specs.Actors.Label.{Own, Takes, Puts}
use Rattle.vc_machine.specs.Links.{Tokens, no_tokens}
use Rattle.vc_machine.specs.Rendezvous as rendezvous
use Rattle.vc_machine.specs.Rendezvous.{View, DoesAll, part, nothing_yet}
use Rattle.vc_network.specs.Network.{Act, Proc, Take, Put, Fct, Pass, Node, Actor, IsNode, IsSwitch, Local, Moves, GoesOn, NodeStep, SwitchStep, HappenAll, begins}
use Rattle.vc_network.specs.Processes as moves
use Rattle.vc_network.specs.Processes.{comms, input_of}
use Rattle.vc_network.specs.Views.{Said, view, said_by, all_said}
use Rattle.vc_network.specs.Plan as network
use Rattle.vc_network.proofs.Main.{good_start, first_node, first_view, part_append, does_append}
use Rattle.vc_network.proofs.NodeLinks.{said_by_pass}
use Rattle.vc_network.proofs.Steps.{Good}
use Rattle.vc_free.proofs.Nexts.{said_in, node_next, switch_next}
use Rattle.vc_packets.specs.Functions.{put}
use Rattle.vc_process.specs.ProcessStep.{ProcessStep, Offers, Wants, Chooses, Stops, Meets, Rests, Finishes, Receives}
use Rattle.vc_process.specs.declared.value_kind.ValueKind.{ValueKind}
use Rattle.vc_process.specs.Numbering.{written}
use Rattle.vc_occam.specs.Sites.{OwnSites}
use Rattle.vc_occam.proofs.Sites.{doing_keeps}
use Rattle.vc_occam.proofs.Preorder.{at_first}
use Rattle.vc_occam.specs.States as occam
use Rattle.vc_occam.specs.States.{waiting, output, input}
use Rattle.vc_occam.specs.Traces.{Comm, Fin, In}
use Rattle.vc_free.proofs.Begun.{Path, still}
use Rattle.vc_free.proofs.PutOff.{total, total_inserted, is_out, is_in, Waits, no_wait, waits_map, goes_with}
use Rattle.vc_occam.proofs.StepWaits.{begin_waits, step_waits}
use Rattle.vc_plan.specs.Limits.{kinds_of}
use Rattle.vc_plan.specs.declared.plan.Plan.{Plan}
use Rattle.vc_accepted.specs.NetworkOf.{network_of}
use Rattle.vc_accepted.specs.Begin.{node_plan, begin_of}
use Rattle.vc_accepted.specs.OneList.{by}
use Rattle.vc_accepted.specs.Process.{Process, Goes, does}
use Rattle.vc_free.proofs.StepsSaid.{goes_of, step_said, good_after}
use Rattle.vc_accepted.proofs.StepTraces.{AreSaid, IsGood}
use Rattle.vc_accepted.proofs.Concatenation.{AllSaid}
use Rattle.vc_switch.specs.Switch.{Switch}
use Rattle.vc_switch.specs.Waiting.{Waiting}
use Rattle.vc_tokens.specs.Tokens.{Token}
use Rattle.vc_tokens.specs.Tokens as tokens
use Rattle.vc_packets.specs.declared.packet.Packet.{Packet}
use Rattle.vc_vcp.specs.Carrier.{End, OutHalf, InHalf, Carrier}
use Rattle.vc_vcp.specs.Links as links
use Rattle.vc_vcp.specs.Links.{Vcp, new_vcp}
use Rattle.vc_vcp.specs.Steps as node

-- ---- lists of communications

push_if : (b : Bool) (k : Comm) (xs ys : List Comm) → (if b then k ∷ xs ++ ys else xs ++ ys) ≡ (if b then k ∷ xs else xs) ++ ys
push_if true k xs ys = refl
push_if false k xs ys = refl

pub by_append : (n : ℕ) (ks ls : List (ℕ × Comm)) → by n (ks ++ ls) ≡ by n ks ++ by n ls
by_append n [] ls = refl
by_append n ((m, k) ∷ ks) ls = ap (λ z. if m == n then k ∷ z else z) (by_append n ks ls) ∙ push_if (m == n) k (by n ks) (by n ls)

tagged : ℕ → List (ℕ × rendezvous.Comm) → List Said
tagged n [] = []
tagged n (k ∷ ks) = (n, k) ∷ tagged n ks

tagged_here : (n : ℕ) (xs : List (ℕ × rendezvous.Comm)) → said_by n (tagged n xs) ≡ xs
unfolding tagged
tagged_here n [] = refl
tagged_here n (k ∷ xs) = ap (λ b. if b then k ∷ said_by n (tagged n xs) else said_by n (tagged n xs)) (eq-eqb n n refl) ∙ ap (λ z. k ∷ z) (tagged_here n xs)

tagged_there : (m n : ℕ) (xs : List (ℕ × rendezvous.Comm)) → (m ≡ n → ⊥) → said_by n (tagged m xs) ≡ []
unfolding tagged
tagged_there m n [] ne = refl
tagged_there m n (k ∷ xs) ne = ap (λ b. if b then k ∷ said_by n (tagged m xs) else said_by n (tagged m xs)) (ne_eqb m n ne) ∙ tagged_there m n xs ne

tagged_all : (n : ℕ) (xs : List (ℕ × rendezvous.Comm)) → all_said (tagged n xs) ≡ xs
unfolding tagged
tagged_all n [] = refl
tagged_all n (k ∷ xs) = ap (λ z. k ∷ z) (tagged_all n xs)

-- ---- what waits, and the halves that are busy

abbrev pub bit : Bool → ℕ
bit true = 1
bit false = 0

abbrev pub under : List (List ℕ) → ℕ
under [] = 0
under (x ∷ xs) = 1

under_small : (xs : List (List ℕ)) → under xs ≤ 1
under_small [] = omega arith
under_small (x ∷ xs) = omega arith

bit_small : (b : Bool) → bit b ≤ 1
bit_small true = omega arith
bit_small false = omega arith

-- a process waits exactly where the halves of its channels count on it
pub record Matches (a : Carrier) (p : Process) : Type 0 where
  pub ins : (c : ℕ) → total (is_in c) (waiting p.state.rest) ≡ bit (a.into c).wants
  pub outs : (c : ℕ) → total (is_out c) (waiting p.state.rest) ≡ under (a.out c).unacked

-- of a message that a guard takes some bytes are stored
abbrev pub Stored : Carrier → ℕ → Type 0
Stored a c = (a.into c).stored ≢ []

-- ---- how many wait after a step of a process

abbrev pub at : ℕ → ℕ → ℕ
at d c = if d == c then 1 else 0

pub at_same : (c : ℕ) → at c c ≡ 1
at_same c = ap (λ b. if b then 1 else 0) (eq-eqb c c refl)

pub at_other : (d c : ℕ) → (d ≡ c → ⊥) → at d c ≡ 0
at_other d c ne = ap (λ b. if b then 1 else 0) (ne_eqb d c ne)

abbrev pub gained_out : ℕ → ProcessStep → ℕ
gained_out c (Offers i d m) = at d c
gained_out c d = 0

abbrev pub lost_out : ℕ → ProcessStep → ℕ
lost_out c (Finishes d) = at d c
lost_out c d = 0

abbrev pub gained_in : ℕ → ProcessStep → ℕ
gained_in c (Wants i d None) = at d c
gained_in c (Chooses i k d None) = at d c
gained_in c d = 0

abbrev pub lost_in : ℕ → ProcessStep → ℕ
lost_in c (Receives d m) = at d c
lost_in c d = 0

by_chan : (c j : ℕ) {P : Type 0} → (c ≡ j → P) → ((c ≡ j → ⊥) → P) → P
by_chan c j f g = elim (cases_eq c j) [ inl e ↦ f e | inr ne ↦ g ne ]

gained_want : (i c j : ℕ) (answer : Option (List ℕ)) → (c ≡ j → ⊥) → gained_in j (Wants i c answer) ≡ 0
gained_want i c j (Some m) ne = refl
gained_want i c j None ne = at_other c j ne

gained_choose : (i k c j : ℕ) (answer : Option (List ℕ)) → (c ≡ j → ⊥) → gained_in j (Chooses i k c answer) ≡ 0
gained_choose i k c j (Some m) ne = refl
gained_choose i k c j None ne = at_other c j ne

fin_chan : (c d : ℕ) → Fin c ∷ [] ≡ Fin d ∷ [] → d ≡ c
fin_chan c d h = cc

in_chan : (c d : ℕ) (x y : Datum) → In c x ∷ [] ≡ In d y ∷ [] → d ≡ c
in_chan c d x y h = cc

pub did_outs : (c : ℕ) (s t : occam.State) (d : ProcessStep) (ks : List Comm) → occam.Does s d ks t → total (is_out c) (waiting t.rest) + lost_out c d ≡ total (is_out c) (waiting s.rest) + gained_out c d
did_outs c s t (Offers i e m) ks h = let q = total_inserted (is_out c) (step_waits h.3) in omega arith
did_outs c s t (Wants i e None) ks h = let q = total_inserted (is_out c) (step_waits h.1) in omega arith
did_outs c s t (Wants i e (Some m)) ks h = let q = ap (total (is_out c)) (step_waits h.2) in omega arith
did_outs c s t (Chooses i k e None) ks h = let q = total_inserted (is_out c) (step_waits h.1) in omega arith
did_outs c s t (Chooses i k e (Some m)) ks h = let q = ap (total (is_out c)) (step_waits h.2) in omega arith
did_outs c s t (Stops i e) ks h = let q = ap (total (is_out c)) (step_waits h.1) in omega arith
did_outs c s t (Meets i j None e m) ks h =
    let q1 = total_inserted (is_out c) (step_waits h.6) in
    let q2 = ap (total (is_out c)) (step_waits h.7) in
    let n = step_waits h.8 in
    let q3 = total_inserted (is_out c) n.2 in
    let f : at n.0 c ≡ at e c = ap (λ z. at z c) (fin_chan e n.0 n.1) in
    omega arith
did_outs c s t (Meets i j (Some k) e m) ks h =
    let q1 = total_inserted (is_out c) (step_waits h.6) in
    let q2 = ap (total (is_out c)) (step_waits h.7) in
    let n = step_waits h.8 in
    let q3 = total_inserted (is_out c) n.2 in
    let f : at n.0 c ≡ at e c = ap (λ z. at z c) (fin_chan e n.0 n.1) in
    omega arith
did_outs c s t (Rests i) ks h = let q = ap (total (is_out c)) (step_waits h.1) in omega arith
did_outs c s t (Finishes e) ks h =
    let n = step_waits h.2 in
    let q = total_inserted (is_out c) n.2 in
    let f : at n.0 c ≡ at e c = ap (λ z. at z c) (fin_chan e n.0 (sym h.1 ∙ n.1)) in
    omega arith
did_outs c s t (Receives e m) ks h =
    let n = step_waits h.3 in
    let q = total_inserted (is_out c) n.3 in
    omega arith

pub did_ins : (c : ℕ) (s t : occam.State) (d : ProcessStep) (ks : List Comm) → occam.Does s d ks t → total (is_in c) (waiting t.rest) + lost_in c d ≡ total (is_in c) (waiting s.rest) + gained_in c d
did_ins c s t (Offers i e m) ks h = let q = total_inserted (is_in c) (step_waits h.3) in omega arith
did_ins c s t (Wants i e None) ks h = let q = total_inserted (is_in c) (step_waits h.1) in omega arith
did_ins c s t (Wants i e (Some m)) ks h = let q = ap (total (is_in c)) (step_waits h.2) in omega arith
did_ins c s t (Chooses i k e None) ks h = let q = total_inserted (is_in c) (step_waits h.1) in omega arith
did_ins c s t (Chooses i k e (Some m)) ks h = let q = ap (total (is_in c)) (step_waits h.2) in omega arith
did_ins c s t (Stops i e) ks h = let q = ap (total (is_in c)) (step_waits h.1) in omega arith
did_ins c s t (Meets i j None e m) ks h =
    let q1 = total_inserted (is_in c) (step_waits h.6) in
    let q2 = ap (total (is_in c)) (step_waits h.7) in
    let n = step_waits h.8 in
    let q3 = total_inserted (is_in c) n.2 in
    omega arith
did_ins c s t (Meets i j (Some k) e m) ks h =
    let q1 = total_inserted (is_in c) (step_waits h.6) in
    let q2 = ap (total (is_in c)) (step_waits h.7) in
    let n = step_waits h.8 in
    let q3 = total_inserted (is_in c) n.2 in
    omega arith
did_ins c s t (Rests i) ks h = let q = ap (total (is_in c)) (step_waits h.1) in omega arith
did_ins c s t (Finishes e) ks h =
    let n = step_waits h.2 in
    let q = total_inserted (is_in c) n.2 in
    omega arith
did_ins c s t (Receives e m) ks h =
    let n = step_waits h.3 in
    let q = total_inserted (is_in c) n.3 in
    let f : at n.0 c ≡ at e c = ap (λ z. at z c) (in_chan e n.0 h.1 n.1 (sym h.2 ∙ n.2)) in
    omega arith

-- the halves and the process go on together
abbrev OutsGo : Carrier → Carrier → ProcessStep → Type 0
OutsGo a b d = (c : ℕ) → under (b.out c).unacked + lost_out c d ≡ under (a.out c).unacked + gained_out c d

abbrev InsGo : Carrier → Carrier → ProcessStep → Type 0
InsGo a b d = (c : ℕ) → bit (b.into c).wants + lost_in c d ≡ bit (a.into c).wants + gained_in c d

matched : (a b : Carrier) (p q : Process) (d : ProcessStep) → Goes p d q → OutsGo a b d → InsGo a b d → Matches a p → Matches b q
matched a b p q d g o i m = record {
  ins = λ c. (let x = did_ins c p.state q.state d g.comms g.does in let y = i c in let z = m.ins c in omega arith);
  outs = λ c. (let x = did_outs c p.state q.state d g.comms g.does in let y = o c in let z = m.outs c in omega arith);
}

outs_same : (a b : Carrier) → b.out ≡ a.out → (c : ℕ) → under (b.out c).unacked ≡ under (a.out c).unacked
outs_same a b e c = ap (λ f. under (f c).unacked) e

ins_same : (a b : Carrier) → b.into ≡ a.into → (c : ℕ) → bit (b.into c).wants ≡ bit (a.into c).wants
ins_same a b e c = ap (λ f. bit (f c).wants) e

-- one half changes
out_at : (a b : Carrier) (e : ℕ) (x : OutHalf) (P : ℕ → OutHalf → Type 0) → b.out ≡ put a.out e x → P e x → ((c : ℕ) → (c ≡ e → ⊥) → P c (a.out c)) → (c : ℕ) → P c (b.out c)
out_at a b e x P is here there c = subst (λ f. P c (f c)) (sym is) (every_put P a.out e x here (λ j ne. there j ne) c)

in_at : (a b : Carrier) (e : ℕ) (x : InHalf) (P : ℕ → InHalf → Type 0) → b.into ≡ put a.into e x → P e x → ((c : ℕ) → (c ≡ e → ⊥) → P c (a.into c)) → (c : ℕ) → P c (b.into c)
in_at a b e x P is here there c = subst (λ f. P c (f c)) (sym is) (every_put P a.into e x here (λ j ne. there j ne) c)

-- a piece that is not the last has bytes
piece_bytes : (load : List ℕ) (m : Mark) → kind load m ≡ Piece false → load ≡ [] → ⊥
piece_bytes load Eop h e = (let k : Ack ≡ Piece false = sym (ap (λ l. kind l Eop) e) ∙ h in cc)
piece_bytes load Eom h e = (let k : Piece true ≡ Piece false = sym (ap (λ l. kind l Eom) e) ∙ h in cc)

some_more : (xs ys : List ℕ) → xs ≢ [] → xs ++ ys ≢ []
some_more [] ys h e = h refl
some_more (x ∷ xs) ys h e = cc

pub some_after : (xs ys : List ℕ) → ys ≢ [] → xs ++ ys ≢ []
some_after [] ys h e = h e
some_after (x ∷ xs) ys h e = cc

-- ---- a node, and what its process has made

module _ (p : Plan) (kind_on : ℕ → ValueKind) where
  abbrev kinds : ℕ → List ValueKind
  kinds n = kinds_of (node_plan p n).vars

  -- the channel is output, or input, by an end of the node
  abbrev pub OutEnd : ℕ → ℕ → Type 0
  OutEnd n c = (e : End) × ((network.ends (network_of p) n).output c ≡ Some e)

  abbrev pub InEnd : ℕ → ℕ → Type 0
  InEnd n c = (e : End) × ((network.ends (network_of p) n).input c ≡ Some e)

  pub record Ready (n : ℕ) (a : Node Process) (made : List Comm) : Type 0 where
    pub good : IsGood kind_on (kinds n) a.process
    pub inside : a.process.inside ≡ (begin_of p n).inside
    pub sites : OwnSites a.process.state.rest
    pub hat : occam.State
    pub path : Path (begin_of p n).state made hat
    pub waits : Waits (Stored a.vcp.carrier) hat a.process.state
    pub matches : Matches a.vcp.carrier a.process
    pub out_home : (c : ℕ) → under (a.vcp.carrier.out c).unacked ≡ 1 → OutEnd n c
    pub in_home : (c : ℕ) → bit (a.vcp.carrier.into c).wants ≡ 1 → InEnd n c

  module _ (n : ℕ) (first_good : IsGood kind_on (kinds n) (begin_of p n)) where
    none_first : (c : ℕ) → total (is_in c) (waiting (begin_of p n).state.rest) ≡ 0
    none_first c = ap (total (is_in c)) (begin_waits (written (node_plan p n).process))

    module _ (a b : Node Process) (before : List Comm) (r : Ready n a before) where
      abbrev A : Carrier
      A = a.vcp.carrier

      abbrev B : Carrier
      B = b.vcp.carrier

      abbrev Keeps : Type 0
      Keeps = (c : ℕ) → Stored A c → total (is_in c) (waiting b.process.state.rest) ≡ 0 ⊎ Stored B c

      -- by a step of its process
      by_step : (d : ProcessStep) (h : does a.process d b.process) → ((c : ℕ) → gained_out c d ≡ 0 ⊎ OutEnd n c) → ((c : ℕ) → gained_in c d ≡ 0 ⊎ InEnd n c) → OutsGo A B d → InsGo A B d → ((m : Matches B b.process) → Keeps) → ((i k c : ℕ) → d ≡ Chooses i k c None → Stored B c) → Ready n b (before ++ (goes_of a.process b.process d h).comms)
      by_step d h new_out new_in outs ins keeps guard =
          let g = goes_of a.process b.process d h in
          let m = matched A B a.process b.process d g outs ins r.matches in
          let w = goes_with before r.path (waits_map {H = λ c. Stored A c ⊎ Stored B c} r.waits (λ c x. inr (inl x))) first_good.lawful none_first d g.comms (λ i k c e. inr (guard i k c e)) g.does in
          record {
            good = good_after kind_on (kinds n) a.process b.process d h r.good;
            inside = g.inside ∙ r.inside;
            sites = doing_keeps a.process.state b.process.state d g.comms g.does r.sites;
            hat = w.hat;
            path = w.path;
            waits = waits_map w.waits (λ c x. elim x [ inl y ↦ keeps m c y | inr y ↦ inr y ]);
            matches = m;
            out_home = λ c one. elim (new_out c) [
              | inl z ↦ r.out_home c (let x = outs c in let l = under_small (A.out c).unacked in omega arith)
              | inr y ↦ y
            ];
            in_home = λ c one. elim (new_in c) [
              | inl z ↦ r.in_home c (let x = ins c in let l = bit_small (A.into c).wants in omega arith)
              | inr y ↦ y
            ];
          }

      -- its process stays
      by_none : b.process ≡ a.process → ((c : ℕ) → under (B.out c).unacked ≡ under (A.out c).unacked) → ((c : ℕ) → bit (B.into c).wants ≡ bit (A.into c).wants) → ((c : ℕ) → Stored A c → Stored B c) → Ready n b before
      by_none e outs ins keeps = record {
        good = subst (IsGood kind_on (kinds n)) (sym e) r.good;
        inside = ap (λ (q : Process). q.inside) e ∙ r.inside;
        sites = subst (λ (q : Process). OwnSites q.state.rest) (sym e) r.sites;
        hat = r.hat;
        path = r.path;
        waits = subst (λ (q : Process). Waits (Stored B) r.hat q.state) (sym e) (waits_map r.waits (λ c x. inr (keeps c x)));
        matches = record {
          ins = λ c. ap (λ (q : Process). total (is_in c) (waiting q.state.rest)) e ∙ r.matches.ins c ∙ sym (ins c);
          outs = λ c. ap (λ (q : Process). total (is_out c) (waiting q.state.rest)) e ∙ r.matches.outs c ∙ sym (outs c);
        };
        out_home = λ c one. r.out_home c (sym (outs c) ∙ one);
        in_home = λ c one. r.in_home c (sym (ins c) ∙ one);
      }

      same_outs : B.out ≡ A.out → (d : ProcessStep) → ((c : ℕ) → gained_out c d ≡ 0) → ((c : ℕ) → lost_out c d ≡ 0) → OutsGo A B d
      same_outs e d g l c = let x = outs_same A B e c in let y = g c in let z = l c in omega arith

      same_ins : B.into ≡ A.into → (d : ProcessStep) → ((c : ℕ) → gained_in c d ≡ 0) → ((c : ℕ) → lost_in c d ≡ 0) → InsGo A B d
      same_ins e d g l c = let x = ins_same A B e c in let y = g c in let z = l c in omega arith

      stored_same : B.into ≡ A.into → (c : ℕ) → Stored A c → Stored B c
      stored_same e c x = subst (λ f. (f c).stored ≢ []) (sym e) x

      -- a piece is fetched
      module _ (c : ℕ) (end : End) (answer : Option (List ℕ)) (f : node.Fetches A c end answer B) (idle : (A.into c).wants ≡ false) where
        into_is : B.into ≡ put A.into c (node.store (A.into c) f.load f.last)
        into_is = ap (λ z. z.into) f.after

        fetched_ins : (D : Option (List ℕ) → ProcessStep) → ((j : ℕ) (m : List ℕ) → gained_in j (D (Some m)) ≡ 0) → ((j : ℕ) (o : Option (List ℕ)) → lost_in j (D o) ≡ 0) → ((j : ℕ) → gained_in j (D None) ≡ at c j) → InsGo A B (D answer)
        fetched_ins D some lost one = subst (λ o. InsGo A B (D o)) (sym f.answer_is) (by_last f.last into_is)
          where
            by_last : (last : Bool) → B.into ≡ put A.into c (node.store (A.into c) f.load last) → InsGo A B (D (node.message (A.into c) f.load last))
            by_last true e = in_at A B c _ (λ j x. bit x.wants + lost_in j (D (Some ((A.into c).stored ++ f.load))) ≡ bit (A.into j).wants + gained_in j (D (Some ((A.into c).stored ++ f.load)))) e
                (let x = some c ((A.into c).stored ++ f.load) in let y = lost c (Some ((A.into c).stored ++ f.load)) in let z = ap bit idle in omega arith)
                (λ j ne. let x = some j ((A.into c).stored ++ f.load) in let y = lost j (Some ((A.into c).stored ++ f.load)) in omega arith)
            by_last false e = in_at A B c _ (λ j x. bit x.wants + lost_in j (D None) ≡ bit (A.into j).wants + gained_in j (D None)) e
                (let x = one c in let y = lost c None in let z = ap bit idle in let o = at_same c in omega arith)
                (λ j ne. let x = one j in let y = lost j None in let o = at_other c j (λ q. ne (sym q)) in omega arith)

        fetched_keeps : Matches B b.process → Keeps
        fetched_keeps m = by_last f.last into_is
          where
            by_last : (last : Bool) → B.into ≡ put A.into c (node.store (A.into c) f.load last) → Keeps
            by_last true e j x = elim (cases_eq j c) [
              | inl q ↦ inl (m.ins j ∙ ap (λ g. bit (g j).wants) e ∙ ap (λ z. bit (put A.into c (node.store (A.into c) f.load true) z).wants) q ∙ ap (λ (y : InHalf). bit y.wants) (put-same A.into c (node.store (A.into c) f.load true)))
              | inr ne ↦ inr (subst (λ g. (g j).stored ≢ []) (sym e) (subst (λ (y : InHalf). y.stored ≢ []) (sym (put-other A.into c (node.store (A.into c) f.load true) j ne)) x))
            ]
            by_last false e j x = inr (subst (λ g. (g j).stored ≢ []) (sym e) (elim (cases_eq j c) [
              | inl q ↦ subst (λ z. (put A.into c (node.store (A.into c) f.load false) z).stored ≢ []) (sym q)
                  (subst (λ (y : InHalf). y.stored ≢ []) (sym (put-same A.into c (node.store (A.into c) f.load false))) (some_more (A.into c).stored f.load (subst (λ z. Stored A z) q x)))
              | inr ne ↦ subst (λ (y : InHalf). y.stored ≢ []) (sym (put-other A.into c (node.store (A.into c) f.load false) j ne)) x
            ]))

        fetched_guard : answer ≡ None → Stored B c
        fetched_guard none = by_last f.last f.piece.kind into_is (sym f.answer_is ∙ none)
          where
            by_last : (last : Bool) → kind f.load f.packet.mark ≡ Piece last → B.into ≡ put A.into c (node.store (A.into c) f.load last) → node.message (A.into c) f.load last ≡ None → Stored B c
            by_last true k e h = absurd (cc)
            by_last false k e h = subst (λ g. (g c).stored ≢ []) (sym e) (subst (λ (y : InHalf). y.stored ≢ []) (sym (put-same A.into c (node.store (A.into c) f.load false))) (some_after (A.into c).stored f.load (piece_bytes f.load f.packet.mark k)))

        fetched_outs : (D : Option (List ℕ) → ProcessStep) → ((j : ℕ) (o : Option (List ℕ)) → gained_out j (D o) ≡ 0) → ((j : ℕ) (o : Option (List ℕ)) → lost_out j (D o) ≡ 0) → OutsGo A B (D answer)
        fetched_outs D g l = same_outs (ap (λ z. z.out) f.after) (D answer) (λ j. g j answer) (λ j. l j answer)

  -- what a step of the node makes
  abbrev pub plan : network.Plan
  plan = network_of p

  pub record After (n : ℕ) (a b : Node Process) (label : Label Act Token) (h : NodeStep plan does n a label b) (before : List Comm) : Type 0 where
    pub made : List Comm
    pub said : AreSaid kind_on (said_in plan does n a b label h) made
    pub ready : Ready n b (before ++ made)

  module _ (n : ℕ) (first_good : IsGood kind_on (kinds n) (begin_of p n)) (a b : Node Process) (before : List Comm) (r : Ready n a before) where
    abbrev A0 : Carrier
    A0 = a.vcp.carrier

    abbrev B0 : Carrier
    B0 = b.vcp.carrier

    stays : Ready n b before → Ready n b (before ++ [])
    stays x = subst (Ready n b) (sym (append-nil before)) x

    -- by a step of the process
    went : (label : Label Act Token) (h : NodeStep plan does n a label b) (d : ProcessStep) (k : does a.process d b.process) → said_in plan does n a b label h ≡ comms d → ((c : ℕ) → gained_out c d ≡ 0 ⊎ OutEnd n c) → ((c : ℕ) → gained_in c d ≡ 0 ⊎ InEnd n c) → OutsGo A0 B0 d → InsGo A0 B0 d → ((m : Matches B0 b.process) → Keeps n first_good a b before r) →
        ((i k c : ℕ) → d ≡ Chooses i k c None → Stored B0 c) → After n a b label h before
    went label h d k e new_out new_in outs ins keeps guard = record {
      made = (goes_of a.process b.process d k).comms;
      said = subst (λ z. AreSaid kind_on z (goes_of a.process b.process d k).comms) (sym e) (step_said kind_on (kinds n) a.process b.process d k r.good);
      ready = by_step n first_good a b before r d k new_out new_in outs ins keeps guard;
    }

    -- the process stays
    idle : (label : Label Act Token) (h : NodeStep plan does n a label b) → said_in plan does n a b label h ≡ [] → Ready n b before → After n a b label h before
    idle label h e x = record { made = []; said = subst (λ z. AreSaid kind_on z []) (sym e) tt; ready = stays x }

    same_halves : B0.into ≡ A0.into → B0.out ≡ A0.out → b.process ≡ a.process → Ready n b before
    same_halves i o e = by_none n first_good a b before r e (outs_same A0 B0 o) (ins_same A0 B0 i) (stored_same n first_good a b before r i)

    same_keeps : B0.into ≡ A0.into → (m : Matches B0 b.process) → Keeps n first_good a b before r
    same_keeps i m c x = inr (stored_same n first_good a b before r i c x)

    inside_only : (label : Label Act Token) (h : NodeStep plan does n a label b) (d : ProcessStep) (k : does a.process d b.process) → said_in plan does n a b label h ≡ comms d → b.vcp ≡ a.vcp →
        ((c : ℕ) → gained_out c d ≡ 0) → ((c : ℕ) → lost_out c d ≡ 0) → ((c : ℕ) → gained_in c d ≡ 0) → ((c : ℕ) → lost_in c d ≡ 0) → ((i k c : ℕ) → d ≡ Chooses i k c None → ⊥) → After n a b label h before
    inside_only label h d k e v go lo gi li never =
        went label h d k e (λ j. inl (go j)) (λ j. inl (gi j)) (same_outs n first_good a b before r (ap (λ z. z.carrier.out) v) d go lo) (same_ins n first_good a b before r (ap (λ z. z.carrier.into) v) d gi li) (same_keeps (ap (λ z. z.carrier.into) v)) (λ i k c e. absurd (never i k c e))

    -- a packet arrives
    arrived : (l : ℕ) (taken : Option node.Taken) (pass : links.Passes (network.body_limit plan) (network.ends plan n) a.vcp l taken b.vcp) (goes : GoesOn does a.process taken b.process) (inner : b.inner ≡ a.inner) (pk : Packet) (what : node.Taken) → taken ≡ Some what →
        node.Arrives (network.ends plan n) A0 pk what B0 → After n a b (Own (Pass l)) (taken, pass, goes, inner) before
    arrived l taken pass goes inner pk what is (node.takes (node.stores c end load true here piece wants says after)) =
        let m = (A0.into c).stored ++ load in
        let t : taken ≡ Some (node.Complete c m) = is ∙ ap Some says in
        let k : does a.process (Receives c m) b.process = subst (λ z. GoesOn does a.process z b.process) t goes in
        let i : B0.into ≡ put A0.into c (node.store (A0.into c) load true) = ap (λ z. z.into) after in
        went (Own (Pass l)) (taken, pass, goes, inner) (Receives c m) k (ap said_by_pass t) (λ j. inl refl) (λ j. inl refl) (same_outs n first_good a b before r (ap (λ z. z.out) after) (Receives c m) (λ j. refl) (λ j. refl))
        (in_at A0 B0 c _ (λ j x. bit x.wants + lost_in j (Receives c m) ≡ bit (A0.into j).wants + gained_in j (Receives c m)) i
        (let w = ap bit wants in let o = at_same c in omega arith) (λ j ne. let o = at_other c j (λ q. ne (sym q)) in omega arith))
        (λ x j y. elim (cases_eq j c) [
          | inl q ↦ inl (x.ins j ∙ ap (λ g. bit (g j).wants) i ∙ ap (λ z. bit (put A0.into c (node.store (A0.into c) load true) z).wants) q ∙ ap (λ (y : InHalf). bit y.wants) (put-same A0.into c (node.store (A0.into c) load true)))
          | inr ne ↦ inr (subst (λ g. (g j).stored ≢ []) (sym i) (subst (λ (y : InHalf). y.stored ≢ []) (sym (put-other A0.into c (node.store (A0.into c) load true) j ne)) y))
        ])
        (λ i k c e. absurd (cc))
    arrived l taken pass goes inner pk what is (node.takes (node.stores c end load false here piece wants says after)) =
        let t : taken ≡ Some (node.Stored c) = is ∙ ap Some says in
        let k : b.process ≡ a.process = subst (λ z. GoesOn does a.process z b.process) t goes in
        let i : B0.into ≡ put A0.into c (node.store (A0.into c) load false) = ap (λ z. z.into) after in
        idle (Own (Pass l)) (taken, pass, goes, inner) (ap said_by_pass t)
        (by_none n first_good a b before r k (outs_same A0 B0 (ap (λ z. z.out) after))
        (in_at A0 B0 c _ (λ j x. bit x.wants ≡ bit (A0.into j).wants) i (sym (ap bit wants)) (λ j ne. refl))
        (in_at A0 B0 c _ (λ j x. Stored A0 j → x.stored ≢ []) i (λ y. some_more (A0.into c).stored load y) (λ j ne y. y)))
    arrived l taken pass goes inner pk what is (node.takes (node.holds c end load last here piece unasked empty says after)) =
        let t : taken ≡ Some (node.Held c) = is ∙ ap Some says in
        let k : b.process ≡ a.process = subst (λ z. GoesOn does a.process z b.process) t goes in
        let i : B0.into ≡ put A0.into c (record (A0.into c) { held = Some pk }) = ap (λ z. z.into) after in
        idle (Own (Pass l)) (taken, pass, goes, inner) (ap said_by_pass t)
        (by_none n first_good a b before r k (outs_same A0 B0 (ap (λ z. z.out) after))
        (in_at A0 B0 c _ (λ j x. bit x.wants ≡ bit (A0.into j).wants) i refl (λ j ne. refl))
        (in_at A0 B0 c _ (λ j x. Stored A0 j → x.stored ≢ []) i (λ y. y) (λ j ne y. y)))
    arrived l taken pass goes inner pk what is (node.takes (node.advances c end now [] here ack was says after)) =
        let t : taken ≡ Some (node.Finished c) = is ∙ ap Some says in
        let k : does a.process (Finishes c) b.process = subst (λ z. GoesOn does a.process z b.process) t goes in
        let o : B0.out ≡ put A0.out c (record (A0.out c) { unacked = []; finished = suc (A0.out c).finished }) = ap (λ z. z.out) after in
        went (Own (Pass l)) (taken, pass, goes, inner) (Finishes c) k (ap said_by_pass t) (λ j. inl refl) (λ j. inl refl)
        (out_at A0 B0 c _ (λ j x. under x.unacked + lost_out j (Finishes c) ≡ under (A0.out j).unacked + gained_out j (Finishes c)) o
        (let w = ap under was in let q = at_same c in omega arith) (λ j ne. let q = at_other c j (λ q. ne (sym q)) in omega arith))
        (same_ins n first_good a b before r (ap (λ z. z.into) after) (Finishes c) (λ j. refl) (λ j. refl)) (same_keeps (ap (λ z. z.into) after)) (λ i k c e. absurd (cc))
    arrived l taken pass goes inner pk what is (node.takes (node.advances c end now (d ∷ later) here ack was says after)) =
        let t : taken ≡ Some (node.More c) = is ∙ ap Some says in
        let k : b.process ≡ a.process = subst (λ z. GoesOn does a.process z b.process) t goes in
        let o : B0.out ≡ put A0.out c (record (A0.out c) { unacked = d ∷ later }) = ap (λ z. z.out) after in
        idle (Own (Pass l)) (taken, pass, goes, inner) (ap said_by_pass t)
        (by_none n first_good a b before r k
        (out_at A0 B0 c _ (λ j x. under x.unacked ≡ under (A0.out j).unacked) o (sym (ap under was)) (λ j ne. refl))
        (ins_same A0 B0 (ap (λ z. z.into) after)) (stored_same n first_good a b before r (ap (λ z. z.into) after)))
    arrived l taken pass goes inner pk what is (node.stray none says after) =
        let t : taken ≡ Some node.Stray = is ∙ ap Some says in
        let k : b.process ≡ a.process = subst (λ z. GoesOn does a.process z b.process) t goes in
        idle (Own (Pass l)) (taken, pass, goes, inner) (ap said_by_pass t) (same_halves (ap (λ z. z.into) after) (ap (λ z. z.out) after) k)

    passed : (l : ℕ) (h : NodeStep plan does n a (Own (Pass l)) b) → After n a b (Own (Pass l)) h before
    passed l (taken, links.passes_byte x rest front none within after, goes, inner) =
        idle (Own (Pass l)) (taken, links.passes_byte x rest front none within after, goes, inner) (ap said_by_pass none)
        (same_halves (ap (λ z. z.carrier.into) after) (ap (λ z. z.carrier.out) after) (subst (λ z. GoesOn does a.process z b.process) none goes))
    passed l (taken, links.drops_byte x rest front none past after, goes, inner) =
        idle (Own (Pass l)) (taken, links.drops_byte x rest front none past after, goes, inner) (ap said_by_pass none)
        (same_halves (ap (λ z. z.carrier.into) after) (ap (λ z. z.carrier.out) after) (subst (λ z. GoesOn does a.process z b.process) none goes))
    passed l (taken, links.passes_mark m rest what carrier front is arrives after, goes, inner) =
        arrived l taken (links.passes_mark m rest what carrier front is arrives after) goes inner _ what is (subst (node.Arrives (network.ends plan n) A0 _ what) (sym (ap (λ z. z.carrier) after)) arrives)

    -- a move of the process
    moved : (m : moves.Move) (h : Moves plan does n a m b) → After n a b (Own (Proc m)) h before
    moved (moves.Offer i c) (m, k, o, rest) =
        let half : OutHalf = record (A0.out c) { unacked = o.now ∷ o.later; offered = (A0.out c).offered ++ m ∷ [] } in
        went (Own (Proc (moves.Offer i c))) (m, k, o, rest) (Offers i c m) k refl (λ j. by_chan c j (λ e. inr (o.end, subst (λ z. (network.ends plan n).output z ≡ Some o.end) e o.here)) (λ ne. inl (at_other c j ne))) (λ j. inl refl)
        (out_at A0 B0 c half (λ j x. under x.unacked + lost_out j (Offers i c m) ≡ under (A0.out j).unacked + gained_out j (Offers i c m)) (ap (λ z. z.out) o.after)
        (let w = ap under o.idle in let q = at_same c in omega arith) (λ j ne. let q = at_other c j (λ q. ne (sym q)) in omega arith))
        (same_ins n first_good a b before r (ap (λ z. z.into) o.after) (Offers i c m) (λ j. refl) (λ j. refl)) (same_keeps (ap (λ z. z.into) o.after)) (λ i k c e. absurd (cc))
    moved (moves.Want i c) (answer, end, k, may, node.fetches f, rest) =
        went (Own (Proc (moves.Want i c))) (answer, end, k, may, node.fetches f, rest) (Wants i c answer) k refl (λ j. inl refl) (λ j. by_chan c j (λ e. inr (end, subst (λ z. (network.ends plan n).input z ≡ Some end) e may.here)) (λ ne. inl (gained_want i c j answer ne)))
        (fetched_outs n first_good a b before r c end answer f may.idle (λ o. Wants i c o) (λ j o. refl) (λ j o. refl))
        (fetched_ins n first_good a b before r c end answer f may.idle (λ o. Wants i c o) (λ j m. refl) (λ j o. refl) (λ j. refl))
        (fetched_keeps n first_good a b before r c end answer f may.idle) (λ i k c e. absurd (cc))
    moved (moves.Want i c) (answer, end, k, may, node.waits empty none after, rest) =
        let half : InHalf = record (A0.into c) { wants = true } in
        let e : B0.into ≡ put A0.into c half = ap (λ z. z.into) after in
        went (Own (Proc (moves.Want i c))) (answer, end, k, may, node.waits empty none after, rest) (Wants i c answer) k refl (λ j. inl refl) (λ j. by_chan c j (λ e. inr (end, subst (λ z. (network.ends plan n).input z ≡ Some end) e may.here)) (λ ne. inl (gained_want i c j answer ne)))
        (same_outs n first_good a b before r (ap (λ z. z.out) after) (Wants i c answer) (λ j. refl) (λ j. refl))
        (subst (λ o. InsGo A0 B0 (Wants i c o)) (sym none)
        (in_at A0 B0 c half (λ j x. bit x.wants + lost_in j (Wants i c None) ≡ bit (A0.into j).wants + gained_in j (Wants i c None)) e
        (let w = ap bit may.idle in let q = at_same c in omega arith) (λ j ne. let q = at_other c j (λ q. ne (sym q)) in omega arith)))
        (λ m j x. inr (in_at A0 B0 c half (λ j x. Stored A0 j → x.stored ≢ []) e (λ y. y) (λ j ne y. y) j x)) (λ i k c e. absurd (cc))
    moved (moves.Choose i g c) (answer, end, k, may, f, rest) =
        went (Own (Proc (moves.Choose i g c))) (answer, end, k, may, f, rest) (Chooses i g c answer) k refl (λ j. inl refl) (λ j. by_chan c j (λ e. inr (end, subst (λ z. (network.ends plan n).input z ≡ Some end) e may.here)) (λ ne. inl (gained_choose i g c j answer ne)))
        (fetched_outs n first_good a b before r c end answer f may.idle (λ o. Chooses i g c o) (λ j o. refl) (λ j o. refl))
        (fetched_ins n first_good a b before r c end answer f may.idle (λ o. Chooses i g c o) (λ j m. refl) (λ j o. refl) (λ j. refl))
        (fetched_keeps n first_good a b before r c end answer f may.idle)
        (λ j h d e. let is : c ≡ d = chan_of e in let none : answer ≡ None = answer_of e in subst (Stored B0) is (fetched_guard n first_good a b before r c end answer f may.idle none))
      where
        chan_of : {j h d : ℕ} → Chooses i g c answer ≡ Chooses j h d None → c ≡ d
        chan_of e = cc

        answer_of : {j h d : ℕ} → Chooses i g c answer ≡ Chooses j h d None → answer ≡ None
        answer_of e = cc
    moved (moves.Stopch i c) (k, inl (st, rest)) =
        let half : InHalf = record (A0.into c) { stopped = true } in
        let e : B0.into ≡ put A0.into c half = ap (λ z. z.into) st.after in
        went (Own (Proc (moves.Stopch i c))) (k, inl (st, rest)) (Stops i c) k refl (λ j. inl refl) (λ j. inl refl)
        (same_outs n first_good a b before r (ap (λ z. z.out) st.after) (Stops i c) (λ j. refl) (λ j. refl))
        (in_at A0 B0 c half (λ j x. bit x.wants + lost_in j (Stops i c) ≡ bit (A0.into j).wants + gained_in j (Stops i c)) e refl (λ j ne. refl))
        (λ m j x. inr (in_at A0 B0 c half (λ j x. Stored A0 j → x.stored ≢ []) e (λ y. y) (λ j ne y. y) j x)) (λ i k c e. absurd (cc))
    moved (moves.Stopch i c) (k, inr (within, v, inner)) =
        inside_only (Own (Proc (moves.Stopch i c))) (k, inr (within, v, inner)) (Stops i c) k refl v (λ j. refl) (λ j. refl) (λ j. refl) (λ j. refl) (λ i k c e. cc)
    moved (moves.Inner i j g c) (m, k, within, going, v, inner) =
        inside_only (Own (Proc (moves.Inner i j g c))) (m, k, within, going, v, inner) (Meets i j g c m) k refl v (λ j. refl) (λ j. refl) (λ j. refl) (λ j. refl) (λ i k c e. cc)
    moved (moves.Quiet i) (k, v, inner) =
        inside_only (Own (Proc (moves.Quiet i))) (k, v, inner) (Rests i) k refl v (λ j. refl) (λ j. refl) (λ j. refl) (λ j. refl) (λ i k c e. cc)

    came : (l : ℕ) (k : Token) → links.Comes a.vcp l k b.vcp → b.process ≡ a.process → Ready n b before
    came l k (links.due due after) e = same_halves (ap (λ z. z.carrier.into) after) (ap (λ z. z.carrier.out) after) e
    came l k (links.not_due due after) e = same_halves (ap (λ z. z.carrier.into) after) (ap (λ z. z.carrier.out) after) e

    unqueued_halves : (x : Carrier) (l : ℕ) (rest : List Packet) (k : Token) → ((links.unqueued x l rest k).into ≡ x.into) × ((links.unqueued x l rest k).out ≡ x.out)
    unqueued_halves x l rest (tokens.EndMark m) = (refl, refl)
    unqueued_halves x l rest t = (refl, refl)

    pub after : (label : Label Act Token) (h : NodeStep plan does n a label b) → After n a b label h before
    after (Own (Proc m)) h = moved m h
    after (Own (Pass l)) h = passed l h
    after (Takes (Take l word) w k) h = idle (Takes (Take l word) w k) h refl (came l k h.1 h.2.process)
    after (Puts (Put l) w k) h =
        let u = unqueued_halves A0 l h.1.rest k in
        idle (Puts (Put l) w k) h refl (same_halves (ap (λ z. z.carrier.into) h.1.after ∙ u.0) (ap (λ z. z.carrier.out) h.1.after ∙ u.1) h.2.process)
    after (Puts (Fct l) w k) h = idle (Puts (Fct l) w k) h refl (same_halves (ap (λ z. z.carrier.into) h.2.after) (ap (λ z. z.carrier.out) h.2.after) h.3.process)
    after d h = absurd h

-- ---- all nodes, event by event

tag : ℕ → List Comm → List (ℕ × Comm)
tag n [] = []
tag n (k ∷ ks) = (n, k) ∷ tag n ks

tag_here : (n : ℕ) (xs : List Comm) → by n (tag n xs) ≡ xs
unfolding tag
tag_here n [] = refl
tag_here n (k ∷ xs) = ap (λ b. if b then k ∷ by n (tag n xs) else by n (tag n xs)) (eq-eqb n n refl) ∙ ap (λ z. k ∷ z) (tag_here n xs)

tag_there : (m n : ℕ) (xs : List Comm) → (m ≡ n → ⊥) → by n (tag m xs) ≡ []
unfolding tag
tag_there m n [] ne = refl
tag_there m n (k ∷ xs) ne = ap (λ b. if b then k ∷ by n (tag m xs) else by n (tag m xs)) (ne_eqb m n ne) ∙ tag_there m n xs ne

pub same_node : (a b : Node Process) → IsNode a ≡ IsNode b → a ≡ b
same_node a b e = cc

module _ (p : Plan) (waiting : Waiting) (ok : network.IsAccepted (network_of p)) (kind_on : ℕ → ValueKind) (first_good : (n : ℕ) → n < length p.nodes → IsGood kind_on (kinds_of (node_plan p n).vars) (begin_of p n)) where
  abbrev M : network.Plan
  M = network_of p

  tag_said : (n : ℕ) (xs : List (ℕ × rendezvous.Comm)) (ys : List Comm) → AreSaid kind_on xs ys → AllSaid kind_on (tagged n xs) (tag n ys)
  unfolding tagged tag
  tag_said n [] [] h = tt
  tag_said n (x ∷ xs) (y ∷ ys) h = (refl, h.0, tag_said n xs ys h.1)
  tag_said n [] (y ∷ ys) h = absurd h
  tag_said n (x ∷ xs) [] h = absurd h

  all_append : (ks ls : List Said) (xs ys : List (ℕ × Comm)) → AllSaid kind_on ks xs → AllSaid kind_on ls ys → AllSaid kind_on (ks ++ ls) (xs ++ ys)
  all_append [] ls [] ys h k = k
  all_append (l ∷ ks) ls (x ∷ xs) ys h k = (h.0, h.1, all_append ks ls xs ys h.2 k)
  all_append [] ls (x ∷ xs) ys h k = absurd h
  all_append (l ∷ ks) ls [] ys h k = absurd h

  pub record SoFar (s : Network (Actor Process) Token) (ks : List (ℕ × Comm)) : Type 0 where
    pub tokens : Tokens
    pub good : Good M s tokens
    pub said : List Said
    pub told : AllSaid kind_on said ks
    pub nodes : (n : ℕ) → n < length p.nodes → (a : Node Process) × (s.state n ≡ IsNode a) × Ready p kind_on n a (by n ks)
    pub by_no_other : (n : ℕ) → length p.nodes ≤ n → by n ks ≡ []
    pub views : (c : ℕ) → DoesAll nothing_yet (part c (all_said said)) (view M s c)

  -- one event more
  module _ (s mid : Network (Actor Process) Token) (ks : List (ℕ × Comm)) (x : SoFar s ks) (n : ℕ) (label : Label Act Token) (step : Step (Local M waiting does) s n label mid) where
    more_views : (said : List (ℕ × rendezvous.Comm)) → ((c : ℕ) → DoesAll (view M s c) (part c said) (view M mid c)) → (c : ℕ) → DoesAll nothing_yet (part c (all_said (x.said ++ tagged n said))) (view M mid c)
    more_views said h c =
        subst (λ z. DoesAll nothing_yet z (view M mid c))
        (sym (ap (part c) (map-append (λ k. k.1) x.said (tagged n said)) ∙ part_append c (all_said x.said) (all_said (tagged n said)) ∙ ap (λ z. part c (all_said x.said) ++ part c z) (tagged_all n said)))
        (does_append nothing_yet (view M s c) (view M mid c) (part c (all_said x.said)) (part c said) (x.views c) (h c))

    others_ready : (m : ℕ) → (m ≡ n → ⊥) → m < length p.nodes → (more : List (ℕ × Comm)) → by m more ≡ [] → (a : Node Process) × (mid.state m ≡ IsNode a) × Ready p kind_on m a (by m (ks ++ more))
    others_ready m ne less more none =
        let r = x.nodes m less in
        (r.0, step.others m ne ∙ r.1, subst (Ready p kind_on m r.0) (sym (by_append m ks more ∙ ap (λ z. by m ks ++ z) none ∙ append-nil (by m ks))) r.2)

    by_node : (a b : Node Process) → s.state n ≡ IsNode a → mid.state n ≡ IsNode b → n < length p.nodes → NodeStep M does n a label b → (more : List (ℕ × Comm)) × SoFar mid (ks ++ more)
    by_node a b ea eb less h =
        let y = node_next M waiting does ok s mid x.tokens x.good n step.others less a b ea eb label step.ways h in
        let was = x.nodes n less in
        let r : Ready p kind_on n a (by n ks) = subst (λ z. Ready p kind_on n z (by n ks)) (same_node was.0 a (sym was.1 ∙ ea)) was.2 in
        let w = after p kind_on n (first_good n less) a b (by n ks) r label h in
        let more = tag n w.made in (
          more,
          record {
            tokens = y.new;
            good = y.good;
            said = x.said ++ tagged n (said_in M does n a b label h);
            told = all_append x.said (tagged n (said_in M does n a b label h)) ks more x.told (tag_said n (said_in M does n a b label h) w.made w.said);
            nodes = λ m l. elim (cases_eq m n) [
              | inl e ↦ subst (λ z. (c : Node Process) × (mid.state z ≡ IsNode c) × Ready p kind_on z c (by z (ks ++ more))) (sym e)
                  (b, eb, subst (Ready p kind_on n b) (sym (by_append n ks more ∙ ap (λ z. by n ks ++ z) (tag_here n w.made))) w.ready)
              | inr ne ↦ others_ready m ne l more (tag_there n m w.made (λ q. ne (sym q)))
            ];
            by_no_other = λ m past. by_append m ks more ∙ ap (λ z. z ++ by m more) (x.by_no_other m past) ∙ tag_there n m w.made (λ q. omega arith);
            views = more_views (said_in M does n a b label h) y.views;
          },
        )

    by_switch : (k : ℕ) (a b : Switch) → n ≡ M.nodes + k → s.state n ≡ IsSwitch a → mid.state n ≡ IsSwitch b → SwitchStep M waiting k a label b → (more : List (ℕ × Comm)) × SoFar mid (ks ++ more)
    unfolding tag
    by_switch k a b here ea eb h =
        let y = switch_next M waiting does ok s mid x.tokens x.good n step.others k here a b ea eb label step.ways h in (
          [],
          record {
            tokens = y.new;
            good = y.good;
            said = x.said ++ tagged n [];
            told = all_append x.said (tagged n []) ks [] x.told (tag_said n [] [] tt);
            nodes = λ m l. others_ready m (λ e. omega arith) l [] refl;
            by_no_other = λ m past. by_append m ks [] ∙ ap (λ z. z ++ []) (x.by_no_other m past);
            views = more_views [] y.views;
          },
        )

    goes_on : (more : List (ℕ × Comm)) × SoFar mid (ks ++ more)
    goes_on = by_kind (s.state n) (mid.state n) refl refl step.local
      where
        by_kind : (y z : Actor Process) → s.state n ≡ y → mid.state n ≡ z → Local M waiting does n y label z → (more : List (ℕ × Comm)) × SoFar mid (ks ++ more)
        by_kind (IsNode a) (IsNode b) ea eb l = by_node a b ea eb l.0 l.1
        by_kind (IsSwitch a) (IsSwitch b) ea eb l = by_switch l.0 a b l.1 ea eb l.2
        by_kind (IsNode a) (IsSwitch b) ea eb l = absurd l
        by_kind (IsSwitch a) (IsNode b) ea eb l = absurd l

  starts : SoFar (begins M (begin_of p)) []
  starts = record {
    tokens = no_tokens;
    good = good_start M (begin_of p);
    said = [];
    told = tt;
    nodes = λ n less. (
      record { vcp = new_vcp; process = begin_of p n; inner = λ c. nothing_yet },
      first_node M (begin_of p) n less,
      record {
        good = first_good n less;
        inside = refl;
        sites = at_first (node_plan p n).process;
        hat = (begin_of p n).state;
        path = still;
        waits = no_wait;
        matches = record {
          ins = λ c. ap (total (is_in c)) (begin_waits (written (node_plan p n).process));
          outs = λ c. ap (total (is_out c)) (begin_waits (written (node_plan p n).process));
        };
        out_home = λ c one. absurd (cc);
        in_home = λ c one. absurd (cc);
      },
    );
    by_no_other = λ n past. refl;
    views = λ c. first_view M (begin_of p) c;
  }

  follows : (es : List (ActBy Act)) (s t : Network (Actor Process) Token) (ks : List (ℕ × Comm)) → SoFar s ks → HappenAll M waiting does s es t → (whole : List (ℕ × Comm)) × SoFar t whole
  follows [] s t ks x h =
      let same : s ≡ t = λ i. record { state = λ n. sym (h.states n) i; way = λ w. sym (h.ways w) i } in
      (ks, subst (λ z. SoFar z ks) same x)
  follows (e ∷ es) s t ks x h =
      let m = goes_on s h.0 ks x e.actor h.1.0 h.1.2 in
      follows es h.0 t (ks ++ m.0) m.1 h.2

  pub all_run : (es : List (ActBy Act)) (s : Network (Actor Process) Token) → HappenAll M waiting does (begins M (begin_of p)) es s → (whole : List (ℕ × Comm)) × SoFar s whole
  all_run es s h = follows es (begins M (begin_of p)) s [] starts h
