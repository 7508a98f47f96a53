-- What an accepted plan's processes begin with is known.
use Rattle.std.proofs.Common.{◌≡◌, ℕ, zero, suc, ◌+◌, ◌<◌, ◌≤◌, Bool, true, false, not, ◌&&◌, ◌||◌, List, [], ◌∷◌, ◌++◌, length, map, get_or, nat_eq, slice_get, Some, inl, inr, refl, sym, ap, ap₂, subst, ◌∙◌, arith, if◌then◌else◌, eq-eqb, eqb-true}
use Rattle.std.proofs.lemmas.Bool.{cases_lt, or_right}
use Rattle.std.proofs.lemmas.Option.{slice_get-get_or}
use Rattle.vc_accepted.proofs.AcceptedNetwork.{accepted, end_is}
use Rattle.vc_accepted.proofs.Elements.{made_at}
use Rattle.vc_accepted.proofs.Processes.{kind_on, begins_good}
use Rattle.vc_accepted.proofs.StepTraces.{IsGood}
use Rattle.vc_accepted.specs.Begin.{node_plan, no_node, begin_of, is_inside, numbers_inside}
use Rattle.vc_accepted.specs.NetworkOf.{network_of, home_in, home_of}
use Rattle.vc_network.specs.Plan as network
use Rattle.vc_network.specs.Plan.{Way, Inside, home}
use Rattle.vc_network.specs.Views.{source_node, sink_node}
use Rattle.vc_placement.proofs.Ends.{HasUse, output_use, input_use}
use Rattle.vc_plan.specs.Accepted.{IsAccepted, IsAtEnd}
use Rattle.vc_plan.specs.Accepted as plan
use Rattle.vc_plan.specs.Limits.{kinds_of}
use Rattle.vc_plan.specs.declared.channel.Channel.{Channel}
use Rattle.vc_plan.specs.declared.channel.Home.{Home}
use Rattle.vc_plan.specs.declared.channel.Home.TheVariants as home_plan
use Rattle.vc_plan.specs.declared.plan.Plan.{Plan}
use Rattle.vc_process.specs.Lawful.{inputs, outputs, Lawfully}
use Rattle.vc_process.specs.Numbering.{written}
use Rattle.vc_process.specs.Usage.{among}
use Rattle.vc_process.specs.declared.value_kind.ValueKind.{ValueKind}

pub one_more : (b : Bool) (k c : ℕ) (l : List ℕ) → among ((if b then k ∷ [] else []) ++ l) c ≡ ((b && nat_eq k c) || among l c)
one_more true k c l = refl
one_more false k c l = refl

home_inside : (n : ℕ) (h : Home) → is_inside n h ≡ true → home_of h ≡ Inside n
home_inside n (home_plan.Way v ab) e = absurd (cc)
home_inside n (home_plan.Inside m) e = ap Inside (eqb-true m n e)

inside_home : (n : ℕ) (h : Home) → home_of h ≡ Inside n → is_inside n h ≡ true
inside_home n (home_plan.Way v ab) e = absurd (cc)
inside_home n (home_plan.Inside m) e = eq-eqb m n (let q : m ≡ n = cc in q)

abbrev InsideAt : ℕ → List Channel → ℕ → ℕ → network.Home → Type 0
InsideAt n cs k c o = (i : ℕ) × (c ≡ k + i) × (get_or (map home_in cs) i o ≡ Inside n)

found_inside : (n : ℕ) (x : Channel) (xs : List Channel) (k c : ℕ) (o : network.Home) (b e : Bool) → is_inside n x.home ≡ b → nat_eq k c ≡ e → ((b && e) || among (numbers_inside n (suc k) xs) c) ≡ true →
    (among (numbers_inside n (suc k) xs) c ≡ true → InsideAt n xs (suc k) c o) → InsideAt n (x ∷ xs) k c o
found_inside n x xs k c o true true is at h rest = (zero, (let e = eqb-true k c at in omega arith), home_inside n x.home is)
found_inside n x xs k c o true false is at h rest = let r = rest h in let e = r.1 in (suc r.0, omega arith, r.2)
found_inside n x xs k c o false true is at h rest = let r = rest h in let e = r.1 in (suc r.0, omega arith, r.2)
found_inside n x xs k c o false false is at h rest = let r = rest h in let e = r.1 in (suc r.0, omega arith, r.2)

inside_there : (n : ℕ) (cs : List Channel) (k c : ℕ) (o : network.Home) → among (numbers_inside n k cs) c ≡ true → InsideAt n cs k c o
inside_there n [] k c o h = absurd (let z : false ≡ true = h in cc)
inside_there n (x ∷ xs) k c o h =
    found_inside n x xs k c o (is_inside n x.home) (nat_eq k c) refl refl (sym (one_more (is_inside n x.home) k c (numbers_inside n (suc k) xs)) ∙ h) (λ g. inside_there n xs (suc k) c o g)

there_inside : (n : ℕ) (cs : List Channel) (k i : ℕ) (o : network.Home) → i < length cs → get_or (map home_in cs) i o ≡ Inside n → among (numbers_inside n k cs) (k + i) ≡ true
there_inside n [] k i o less h = absurd (omega arith)
there_inside n (x ∷ xs) k zero o less h =
    let e : k ≡ k + 0 = omega arith in
    one_more (is_inside n x.home) k (k + 0) (numbers_inside n (suc k) xs) ∙ ap₂ (λ a b. (a && b) || among (numbers_inside n (suc k) xs) (k + 0)) (inside_home n x.home h) (eq-eqb k (k + 0) e)
there_inside n (x ∷ xs) k (suc i) o less h =
    let e : suc k + i ≡ k + suc i = omega arith in
    let r = subst (λ z. among (numbers_inside n (suc k) xs) z ≡ true) e (there_inside n xs (suc k) i o (omega arith) h) in
    one_more (is_inside n x.home) k (k + suc i) (numbers_inside n (suc k) xs) ∙ or_right (is_inside n x.home && nat_eq k (k + suc i)) (among (numbers_inside n (suc k) xs) (k + suc i)) r

-- the node outputs on the channel, or inputs, over a virtual link or inside
pub data OutOf (N : network.Plan) (n c : ℕ) : Type 0 where
  out_way : (v : ℕ) (ab : Bool) → home N c ≡ Way v ab → source_node N (Way v ab) ≡ n → OutOf N n c
  out_inside : home N c ≡ Inside n → OutOf N n c

pub data InTo (N : network.Plan) (n c : ℕ) : Type 0 where
  in_way : (v : ℕ) (ab : Bool) → home N c ≡ Way v ab → sink_node N (Way v ab) ≡ n → InTo N n c
  in_inside : home N c ≡ Inside n → InTo N n c

-- what is known of the processes of an accepted plan as they begin
pub record Known (p : Plan) (kind_on : ℕ → ValueKind) : Type 0 where
  pub ok : network.IsAccepted (network_of p)
  pub good : (n : ℕ) → n < length p.nodes → IsGood kind_on (kinds_of (node_plan p n).vars) (begin_of p n)
  pub lawfully : (n : ℕ) → n < length p.nodes → Lawfully (written (node_plan p n).process)
  pub outs : (n c : ℕ) → n < length p.nodes → outputs (written (node_plan p n).process) c ≡ true → OutOf (network_of p) n c
  pub ins : (n c : ℕ) → n < length p.nodes → inputs (written (node_plan p n).process) c ≡ true → InTo (network_of p) n c
  pub outside : (n c v : ℕ) (ab : Bool) → home (network_of p) c ≡ Way v ab → (begin_of p n).inside c ≡ false
  pub within : (n c : ℕ) → home (network_of p) c ≡ Inside n → n < length p.nodes → (begin_of p n).inside c ≡ true

module _ (p : Plan) (acc : IsAccepted p) where
  abbrev N : network.Plan
  N = network_of p

  record Use (n c : ℕ) (is_output : Bool) : Type 0 where
    channel : Channel
    home_is : home N c ≡ home_of channel.home
    at_end : IsAtEnd p channel.home is_output n

  use_of : (n c : ℕ) (o : Bool) → n < length p.nodes → HasUse o c (plan.uses_of (node_plan p n)) → Use n c o
  use_of n c o few (k, u, there, chan, is) =
      let r = acc.uses n k (node_plan p n) u (slice_get-get_or p.nodes n no_node few) there in
      let there : slice_get p.channels c ≡ Some r.channel = subst (λ z. slice_get p.channels z ≡ Some r.channel) chan r.there in
      record {
        channel = r.channel;
        home_is = made_at home_in p.channels c (Inside (length p.nodes)) r.channel there;
        at_end = subst (λ z. IsAtEnd p r.channel.home z n) is r.at_end;
      }

  out_of : (n c : ℕ) → Use n c true → OutOf N n c
  out_of n c u = by_home u.channel.home u.home_is u.at_end
    where
      by_home : (h : Home) → home N c ≡ home_of h → IsAtEnd p h true n → OutOf N n c
      by_home (home_plan.Way v ab) e (x, there, at) = out_way v ab e (ap (λ (z : network.End). z.node) (end_is p v x ab there) ∙ at)
      by_home (home_plan.Inside m) e at = out_inside (e ∙ ap Inside at)

  into : (n c : ℕ) → Use n c false → InTo N n c
  into n c u = by_home u.channel.home u.home_is u.at_end
    where
      by_home : (h : Home) → home N c ≡ home_of h → IsAtEnd p h false n → InTo N n c
      by_home (home_plan.Way v ab) e (x, there, at) = in_way v ab e (ap (λ (z : network.End). z.node) (end_is p v x (not ab) there) ∙ at)
      by_home (home_plan.Inside m) e at = in_inside (e ∙ ap Inside at)

  outside : (n c v : ℕ) (ab : Bool) → home N c ≡ Way v ab → (begin_of p n).inside c ≡ false
  outside n c v ab e = by_test ((begin_of p n).inside c) refl
    where
      by_test : (b : Bool) → (begin_of p n).inside c ≡ b → (begin_of p n).inside c ≡ false
      by_test false t = t
      by_test true t =
          let r = inside_there n p.channels 0 c (Inside (length p.nodes)) t in
          let i = r.1 in
          let same : c ≡ r.0 = omega arith in
          absurd (let z : Way v ab ≡ Inside n = sym e ∙ ap (home N) same ∙ r.2 in cc)

  past_home : (cs : List Channel) (c : ℕ) (o : network.Home) → length cs ≤ c → get_or (map home_in cs) c o ≡ o
  past_home [] c o h = refl
  past_home (x ∷ cs) zero o h = absurd (omega arith)
  past_home (x ∷ cs) (suc c) o h = past_home cs c o (omega arith)

  inside_here : (n c : ℕ) → home N c ≡ Inside n → n < length p.nodes → (begin_of p n).inside c ≡ true
  inside_here n c e less = elim (cases_lt c (length p.channels)) [
    | inl l ↦ (let z : 0 + c ≡ c = omega arith in subst (λ j. among (numbers_inside n 0 p.channels) j ≡ true) z (there_inside n p.channels 0 c (Inside (length p.nodes)) l e))
    | inr past ↦ absurd (let h : Inside (length p.nodes) ≡ Inside n = sym (past_home p.channels c (Inside (length p.nodes)) past) ∙ e in let q : length p.nodes ≡ n = cc in omega arith)
  ]

  pub known_of : Known p (kind_on p)
  known_of = record {
    ok = accepted p acc;
    good = λ n l. begins_good p acc n l;
    lawfully = λ n l. acc.lawful_use n (node_plan p n) (slice_get-get_or p.nodes n no_node l);
    outs = λ n c l h. out_of n c (use_of n c true l (output_use (kinds_of (node_plan p n).vars) c (written (node_plan p n).process) h));
    ins = λ n c l h. into n c (use_of n c false l (input_use (kinds_of (node_plan p n).vars) c (written (node_plan p n).process) h));
    outside = outside;
    within = inside_here;
  }
