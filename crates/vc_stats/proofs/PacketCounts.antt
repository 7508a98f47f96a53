-- The packets that are put on a way, after one event more.
use Rattle.std.proofs.Common.{◌≡◌, ◌≤◌, ◌<◌, ◌+◌, ◌-◌, ◌*◌, ◌^◌, ◌/◌, ◌%◌, ◌==◌, ◌&&◌, nat_lt, ℕ, Bool, true, false, cond, List, [], ◌∷◌, ◌++◌, length, length-append, count_by, append-nil, append_assoc, Option, Some, None, refl, sym, ap, ◌∙◌, subst, arith, eq-eqb, if◌then◌else◌}
use Rattle.std.proofs.lemmas.List.{length-map}
use Rattle.std.proofs.lemmas.List.Sums.{count_by-le-length}
use Rattle.std.proofs.lemmas.Bool.{and_from}
use Rattle.std.proofs.Math.Bool.{and-false}
use Rattle.std.specs.Option.{option_to_list}
use Rattle.vc_accepted.specs.NetworkOf.{network_of, port_at, port_of, wire_of}
use Rattle.vc_accepted.specs.ActorWays.{link_port}
use Rattle.vc_accepted.proofs.Across.{wire_is}
use Rattle.vc_accepted.proofs.Elements.{there}
use Rattle.vc_accepted.proofs.Ports.{side_of}
use Rattle.vc_accepted.proofs.WayPorts.{link_is_at, wired}
use Rattle.vc_core.specs.PossibleEvents.{NetworkState}
use Rattle.vc_core.specs.Links.{last_of}
use Rattle.vc_core.specs.declared.event.Event.{Event}
use Rattle.vc_machine.specs.PacketsOfTokens.{read}
use Rattle.vc_network.specs.Network.{actor_at}
use Rattle.vc_network.specs.Plan.{IsOutOf, near}
use Rattle.vc_network.specs.Plan as network
use Rattle.vc_packets.specs.declared.mark.Mark.{Mark}
use Rattle.vc_packets.specs.declared.packet.Packet.{Packet}
use Rattle.vc_plan.specs.Accepted.{IsAccepted, port_of as side_port}
use Rattle.vc_plan.specs.Limits.{spot_there}
use Rattle.vc_plan.specs.declared.plan.Plan.{Plan}
use Rattle.vc_plan.specs.declared.port.Port.{Port}
use Rattle.vc_plan.specs.declared.port.Spot.{Spot}
use Rattle.vc_plan.specs.declared.port.Spot.TheVariants.{Node, Switch}
use Rattle.vc_tokens.specs.Tokens.{Token, Byte, Fct, EndMark}
use Rattle.vc_stats.specs.Counts.{most_events, put_in}
use Rattle.vc_stats.specs.Packets.{ArePacketsOf, IsCountOf, PacketCount, count_at, is_ack, is_eop, link_at, puts_on, rest_of, tokens_put}
use Rattle.vc_stats.specs.Private.Packets.{with_token}
use Rattle.vc_stats.specs.Tallies.{counted, is_at}
use Rattle.vc_stats.specs.declared.packets.Packets.{Packets}
use Rattle.vc_stats.proofs.Busy.{count_more, one_if}
use Rattle.vc_stats.proofs.RunStates.{both_eq, by_test}

-- ---- tokens

-- one token more
packets_more : (body : List ℕ) (ts : List Token) (k : Token) → read body (ts ++ k ∷ []) ≡ read body ts ++ read (rest_of body ts) (k ∷ [])
packets_more body [] k = refl
packets_more body (Byte b ∷ ts) k = packets_more (body ++ b ∷ []) ts k
packets_more body (EndMark m ∷ ts) k = ap (λ ps. record { body = body; mark = m } ∷ ps) (packets_more [] ts k)
packets_more body (Fct ∷ ts) k = packets_more body ts k

rest_more : (body : List ℕ) (ts : List Token) (k : Token) → rest_of body (ts ++ k ∷ []) ≡ rest_of (rest_of body ts) (k ∷ [])
rest_more body [] k = refl
rest_more body (Byte b ∷ ts) k = rest_more (body ++ b ∷ []) ts k
rest_more body (EndMark m ∷ ts) k = rest_more [] ts k
rest_more body (Fct ∷ ts) k = rest_more body ts k

-- there are no more packets and bytes than tokens
few_packets : (body : List ℕ) (ts : List Token) → length (read body ts) + length (rest_of body ts) ≤ length body + length ts
few_packets body [] = omega arith
few_packets body (Byte b ∷ ts) = let few = few_packets (body ++ b ∷ []) ts in let long = length-append body (b ∷ []) in omega (arith, few, long)
few_packets body (EndMark m ∷ ts) = let few = few_packets [] ts in omega (arith, few)
few_packets body (Fct ∷ ts) = let few = few_packets body ts in omega (arith, few)

counted_more : (b : Bool) (c n : ℕ) → c ≡ n → n < 2 ^ 64 - 1 → counted b c ≡ n + one_if b
counted_more true c n is few = omega (arith, is, few)
counted_more false c n is few = omega (arith, is)

count_byte : (ts : List Token) (c : PacketCount) (b : ℕ) → IsCountOf ts c → length ts < 2 ^ 64 - 1 → IsCountOf (ts ++ Byte b ∷ []) (with_token (Byte b) c)
count_byte ts c b is less =
    let few = few_packets [] ts in
    let more = packets_more [] ts (Byte b) ∙ append-nil (read [] ts) in
    let long = ap length (rest_more [] ts (Byte b)) ∙ length-append (rest_of [] ts) (b ∷ []) in
    let bytes = is.bytes in
    record {
      packets = is.packets ∙ ap length (sym more);
      acks = is.acks ∙ ap (count_by is_ack) (sym more);
      bytes = omega (arith, few, long, bytes, less);
    }

count_mark : (ts : List Token) (c : PacketCount) (m : Mark) → IsCountOf ts c → length ts < 2 ^ 64 - 1 → IsCountOf (ts ++ EndMark m ∷ []) (with_token (EndMark m) c)
count_mark ts c m is less =
    let whole : Packet = record { body = rest_of [] ts; mark = m } in
    let few = few_packets [] ts in
    let fewer = count_by-le-length is_ack (read [] ts) in
    let more = packets_more [] ts (EndMark m) in
    let long = ap length more ∙ length-append (read [] ts) (whole ∷ []) in
    let packets = is.packets in
    record {
      packets = omega (arith, few, long, packets, less);
      acks = ap (λ b. counted (is_eop m && nat_lt b 32) c.acks) is.bytes ∙ counted_more (is_ack whole) c.acks (count_by is_ack (read [] ts)) is.acks (omega (arith, few, fewer, less))
          ∙ sym (ap (count_by is_ack) more ∙ count_more is_ack (read [] ts) whole);
      bytes = ap length (sym (rest_more [] ts (EndMark m)));
    }

count_fct : (ts : List Token) (c : PacketCount) → IsCountOf ts c → IsCountOf (ts ++ Fct ∷ []) c
count_fct ts c is = record {
  packets = is.packets ∙ ap length (sym (packets_more [] ts Fct ∙ append-nil (read [] ts)));
  acks = is.acks ∙ ap (count_by is_ack) (sym (packets_more [] ts Fct ∙ append-nil (read [] ts)));
  bytes = is.bytes ∙ ap length (sym (rest_more [] ts Fct));
}

-- one token more
count_token : (ts : List Token) (c : PacketCount) (k : Token) → IsCountOf ts c → length ts < 2 ^ 64 - 1 → IsCountOf (ts ++ k ∷ []) (with_token k c)
count_token ts c (Byte b) is less = count_byte ts c b is less
count_token ts c (EndMark m) is less = count_mark ts c m is less
count_token ts c Fct is less = count_fct ts c is

-- ---- events

abbrev last_listed : Bool → NetworkState → ℕ → List Token
last_listed b y way = if b then option_to_list (last_of (y.way way)) else []

tokens_more : (p : Plan) (way : ℕ) (es : List Event) (xs : List NetworkState) (e : Event) (y : NetworkState) → length es ≡ length xs →
    tokens_put p way (es ++ e ∷ []) (xs ++ y ∷ []) ≡ tokens_put p way es xs ++ last_listed (puts_on p way e) y way
tokens_more p way [] [] e y same = append-nil (last_listed (puts_on p way e) y way)
tokens_more p way (f ∷ es) (x ∷ xs) e y same =
    let a = last_listed (puts_on p way f) x way in
    let b = tokens_put p way es xs in
    let c = last_listed (puts_on p way e) y way in
    ap (λ ts. a ++ ts) (tokens_more p way es xs e y (omega (arith, same))) ∙ (let both : a ++ (b ++ c) ≡ (a ++ b) ++ c = grind (arith, append_assoc) in both)
tokens_more p way [] (x ∷ xs) e y same = absurd (omega (arith, same))
tokens_more p way (f ∷ es) [] e y same = absurd (omega (arith, same))

few_listed : (b : Bool) (o : Option Token) → length (if b then option_to_list o else []) ≤ 1
few_listed true None = omega arith
few_listed true (Some k) = omega arith
few_listed false o = omega arith

few_tokens : (p : Plan) (way : ℕ) (es : List Event) (xs : List NetworkState) → length (tokens_put p way es xs) ≤ length es
few_tokens p way [] [] = omega arith
few_tokens p way [] (x ∷ xs) = omega arith
few_tokens p way (e ∷ es) [] = omega arith
few_tokens p way (e ∷ es) (x ∷ xs) =
    let a = last_listed (puts_on p way e) x way in
    let one : length a ≤ 1 = few_listed (puts_on p way e) (last_of (x.way way)) in
    let few = few_tokens p way es xs in
    let long = length-append a (tokens_put p way es xs) in
    omega (arith, one, few, long)

-- the event puts no token on the way
pub none_put : (p : Plan) (way : ℕ) (es : List Event) (xs : List NetworkState) (e : Event) (y : NetworkState) (c : PacketCount) → length es ≡ length xs → IsCountOf (tokens_put p way es xs) c → puts_on p way e ≡ false →
    IsCountOf (tokens_put p way (es ++ e ∷ []) (xs ++ y ∷ [])) c
none_put p way es xs e y c same is not =
    subst (λ ts. IsCountOf ts c) (sym (tokens_more p way es xs e y same ∙ ap (λ b. tokens_put p way es xs ++ last_listed b y way) not ∙ append-nil (tokens_put p way es xs))) is

-- no token stands on the way then
pub none_there : (p : Plan) (way : ℕ) (es : List Event) (xs : List NetworkState) (e : Event) (y : NetworkState) (c : PacketCount) → length es ≡ length xs → IsCountOf (tokens_put p way es xs) c → puts_on p way e ≡ true → None ≡ last_of (y.way way) →
    IsCountOf (tokens_put p way (es ++ e ∷ []) (xs ++ y ∷ [])) c
none_there p way es xs e y c same is put none =
    subst (λ ts. IsCountOf ts c) (sym (tokens_more p way es xs e y same ∙ ap (λ b. tokens_put p way es xs ++ last_listed b y way) put ∙ ap (λ o. tokens_put p way es xs ++ option_to_list o) (sym none) ∙ append-nil (tokens_put p way es xs))) is

-- it puts this token on the way
pub one_put : (p : Plan) (way : ℕ) (es : List Event) (xs : List NetworkState) (e : Event) (y : NetworkState) (c : PacketCount) (k : Token) → length es ≡ length xs → length es < most_events → IsCountOf (tokens_put p way es xs) c →
    puts_on p way e ≡ true → Some k ≡ last_of (y.way way) → IsCountOf (tokens_put p way (es ++ e ∷ []) (xs ++ y ∷ [])) (with_token k c)
one_put p way es xs e y c k same few is put one =
    let fewer = few_tokens p way es xs in
    subst (λ ts. IsCountOf ts (with_token k c)) (sym (tokens_more p way es xs e y same ∙ ap (λ b. tokens_put p way es xs ++ last_listed b y way) put ∙ ap (λ o. tokens_put p way es xs ++ option_to_list o) (sym one)))
    (count_token (tokens_put p way es xs) c k is (omega (arith, fewer, few)))

-- ---- the way that goes out by a link

port_link : (p : Plan) (port : Port) → spot_there p port.spot ≡ true → port_of port ≡ link_port p (actor_at (network_of p) (port_of port)) (link_at (port_of port))
port_link p port there = by_spot port.spot port.link there
  where
    by_spot : (s : Spot) (l : ℕ) → spot_there p s ≡ true → port_at s l ≡ link_port p (actor_at (network_of p) (port_at s l)) (link_at (port_at s l))
    by_spot (Node n) l there = link_is_at p n l (record { spot = Node n; link = l }) there (and_from (n == n) (l == l) (eq-eqb n n refl) (eq-eqb l l refl))
    by_spot (Switch i) l there = link_is_at p (length p.nodes + i) l (record { spot = Switch i; link = l }) there
        (and_from (length p.nodes + i == length p.nodes + i) (l == l) (eq-eqb (length p.nodes + i) (length p.nodes + i) refl) (eq-eqb l l refl))

-- a way of the plan goes out by the link of the port where it begins
pub goes_out : (p : Plan) (way : ℕ) → IsAccepted p → way < 2 * length p.wires →
    IsOutOf (network_of p) way (link_port p (actor_at (network_of p) (near (network_of p) way)) (link_at (near (network_of p) way)))
goes_out p way accepted less =
    let many = length-map p.wires wire_of in
    let found = there wire_of p.wires (way / 2) (omega (arith, less, many)) in
    let side = way % 2 == 0 in
    let port = side_port found.0 side in
    let at : near (network_of p) way ≡ port_of port = ap (λ w. network.port_of w side) (wire_is p (way / 2) found.0 found.1) ∙ side_of found.0 side in
    (omega (arith, less, many), at ∙ subst (λ q. port_of port ≡ link_port p (actor_at (network_of p) q) (link_at q)) (sym at) (port_link p port (wired p accepted (way / 2) found.0 side found.1)))

-- the event puts a token on the way, or on none or another one
pub by_event : (p : Plan) (way actor link : ℕ) (e : Event) → e.actor ≡ actor → put_in e.act ≡ Some link → puts_on p way e ≡ (actor == actor_at (network_of p) (near (network_of p) way) && link == link_at (near (network_of p) way))
by_event p way actor link e own put =
    let k = actor_at (network_of p) (near (network_of p) way) in
    let l = link_at (near (network_of p) way) in
    (λ i. own i == k && is_at l (put i))

-- the count after one token more, if there is one
abbrev pub count_with : Option Token → PacketCount → PacketCount
count_with None c = c
count_with (Some k) c = with_token k c

-- the event puts no token of a packet
no_put : (p : Plan) (way : ℕ) (e : Event) → put_in e.act ≡ None → puts_on p way e ≡ false
no_put p way e none = ap (λ o. e.actor == actor_at (network_of p) (near (network_of p) way) && is_at (link_at (near (network_of p) way)) o) none ∙ and-false (e.actor == actor_at (network_of p) (near (network_of p) way))

pub packets_still : (p : Plan) (all : Packets) (es : List Event) (xs : List NetworkState) (e : Event) (y : NetworkState) → ArePacketsOf all p es xs → length es ≡ length xs → put_in e.act ≡ None →
    ArePacketsOf all p (es ++ e ∷ []) (xs ++ y ∷ [])
packets_still p all es xs e y are same none = λ way less.
    none_put p way es xs e y (count_at all (actor_at (network_of p) (near (network_of p) way)) (link_at (near (network_of p) way))) same (are way less) (no_put p way e none)

-- it puts one by a link of its actor
pub packets_step : (p : Plan) (old new : Packets) (es : List Event) (xs : List NetworkState) (e : Event) (y : NetworkState) (link : ℕ) (o : Option Token) → IsAccepted p → ArePacketsOf old p es xs →
    length es ≡ length xs → length es < most_events → put_in e.act ≡ Some link → ((way : ℕ) → IsOutOf (network_of p) way (link_port p e.actor link) → o ≡ last_of (y.way way)) →
    ((k l : ℕ) → count_at new k l ≡ cond (e.actor == k && link == l) (count_with o (count_at old k l)) (count_at old k l)) → ArePacketsOf new p (es ++ e ∷ []) (xs ++ y ∷ [])
packets_step p old new es xs e y link o accepted are same few put last after = λ way less.
    let k = actor_at (network_of p) (near (network_of p) way) in
    let l = link_at (near (network_of p) way) in
    let c = count_at old k l in
    let Right = IsCountOf (tokens_put p way (es ++ e ∷ []) (xs ++ y ∷ [])) in
    let puts : puts_on p way e ≡ (e.actor == k && link == l) = by_event p way e.actor link e refl put in
    let with_one : (q : Option Token) → q ≡ last_of (y.way way) → puts_on p way e ≡ true → Right (count_with q c) = λ q is held. (elim q as (λ r. r ≡ last_of (y.way way) → Right (count_with r c)) [
      | None ↦ (λ none. none_there p way es xs e y c same (are way less) held none)
      | Some t ↦ (λ one. one_put p way es xs e y c t same few (are way less) held one)
    ]) is in
    subst Right (sym (after k l)) (by_test Right (e.actor == k && link == l) (count_with o c) c
    (λ held. let own = both_eq e.actor k link l held in
    with_one o (last way (subst (λ j. IsOutOf (network_of p) way (link_port p j link)) (sym own.0) (subst (λ m. IsOutOf (network_of p) way (link_port p k m)) (sym own.1) (goes_out p way accepted less)))) (puts ∙ held))
    (λ failed. none_put p way es xs e y c same (are way less) (puts ∙ failed)))

-- an act that puts by no link
pub none_in : (o : Option ℕ) → ((link : ℕ) → o ≡ Some link → ⊥) → o ≡ None
none_in None not = refl
none_in (Some link) not = absurd (not link refl)

pub same_with : (t : Bool) (c : PacketCount) → c ≡ cond t (count_with None c) c
same_with true c = refl
same_with false c = refl
