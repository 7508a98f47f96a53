-- The example is accepted, and the exchange runs.
use Rattle.std.proofs.Common.{◌≡◌, ℕ, zero, suc, ◌<◌, ◌≤◌, ◌⊎◌, inl, inr, true, List, [], ◌∷◌, ◌++◌, refl, sym, ap, subst, ◌∙◌, arith, Option, Some, None}
use Rattle.std.proofs.lemmas.Bool.{cases_eq}
use Rattle.vc_packets.specs.declared.packet.Packet.{Packet}
use Rattle.vc_packets.specs.declared.mark.Mark.TheVariants.{Eop, Eom}
use Rattle.vc_packets.specs.Spellings.{piece_packet}
use Rattle.vc_machine.specs.Paths.{AtSwitch, Leaves, GoesOn, Delivers, IsAccepted}
use Rattle.vc_labels.specs.declared.action.Action.TheVariants.{Out}
use Rattle.vc_labels.specs.Interval.{action_for}
use Rattle.vc_switch.specs.Forward.{without_portals, IsDrawn, behind, HasRoom}
use Rattle.vc_machine.specs.Machine.{State, WayState, Input, Empty, Full, start, set_way, set_chan, enqueue, accept, advance, emptied, carry, BodyLeaves, IsPieceFor, IsAckFor, holds, advances, taken, fills, fetches, Run}
use Rattle.vc_packets.specs.Functions.{put}
use Rattle.vc_machine.proofs.Basics.{put-other}
use Rattle.vc_machine.proofs.Heads.{group_of}
use Rattle.vc_machine.specs.Example.{near, switch, channel, example, exchange}

-- a header that isn't a portal, in front
leaves_is : (h : ℕ) (rest s : List ℕ) (f g : ℕ) (w : ℕ) (t : List ℕ) → without_portals switch.table s ≡ h ∷ rest → action_for switch.table h ≡ Some (Out f g) → f ≡ g →
    Leaves example 0 s w t → (near w ≡ AtSwitch 0 f) × (t ≡ h ∷ rest)
leaves_is h rest s f g w t front group one l =
    let heads : l.header ≡ h = (let a = l.front in cc) in
    let rests : l.rest ≡ rest = (let a = l.front in cc) in
    let actions : Some (Out l.first l.last) ≡ Some (Out f g) = sym l.group ∙ ap (action_for switch.table) heads ∙ group in
    let a : l.first ≡ f = cc in
    let b : l.last ≡ g = cc in
    let low = l.low in
    let high = l.high in
    let link : l.link ≡ f = omega arith in
    (l.near ∙ ap (AtSwitch 0) link, l.left ∙ (λ i. heads i ∷ rests i))

link_same : (n m a b : ℕ) → AtSwitch n a ≡ AtSwitch m b → a ≡ b
link_same n m a b e = cc

way_two : (w : ℕ) → near w ≡ AtSwitch 0 1 → w ≡ 2
way_two zero e = absurd (cc)
way_two (suc zero) e = (let h = link_same 0 0 0 1 e in absurd (omega arith))
way_two (suc (suc zero)) e = refl
way_two (suc (suc (suc w))) e = absurd (cc)

way_one : (w : ℕ) → near w ≡ AtSwitch 0 0 → w ≡ 1
way_one zero e = absurd (cc)
way_one (suc zero) e = refl
way_one (suc (suc zero)) e = (let h = link_same 0 0 1 0 e in absurd (omega arith))
way_one (suc (suc (suc w))) e = absurd (cc)

out_to_one : (x : ℕ) → (x ≡ 101) ⊎ (x ≡ 102) → without_portals switch.table (x ∷ 50 ∷ []) ≡ 50 ∷ []
out_to_one x (inl e) = ap (λ k. without_portals switch.table (k ∷ 50 ∷ [])) e
out_to_one x (inr e) = ap (λ k. without_portals switch.table (k ∷ 50 ∷ [])) e

which : (x : ℕ) → 101 ≤ x → x < 103 → (x ≡ 101) ⊎ (x ≡ 102)
which x a b = elim (cases_eq x 101) [ inl e ↦ inl e | inr ne ↦ inr (omega arith) ]

there : (v : Option ℕ) → IsDrawn (switch.random 0) v → HasRoom v (50 ∷ []) × GoesOn example (λ w t. Delivers example 31 w t channel.to) 0 (behind v (50 ∷ []))
there None draw = absurd draw
there (Some x) draw =
    let front = out_to_one x (which x draw.0 draw.1) in (
      omega arith,
      (
        (2, 50 ∷ [], record { header = 50; rest = []; first = 1; last = 1; link = 1; front = front; group = refl; low = omega arith; high = omega arith; real = omega arith; near = refl; left = refl }),
        λ w t l. (let h = leaves_is 50 [] (x ∷ 50 ∷ []) 1 1 w t front refl refl l in
            let e = way_two w h.0 in
            subst (λ k. Delivers example 31 k t channel.to) (sym e) (subst (λ k. Delivers example 31 2 k channel.to) (sym h.1) (refl, refl))),
      ),
    )

back : (v : Option ℕ) → IsDrawn (switch.random 1) v → HasRoom v (7 ∷ []) × GoesOn example (λ w t. Delivers example 31 w t channel.from) 0 (behind v (7 ∷ []))
back (Some x) draw = absurd draw
back None draw = (
  tt,
  (
    (1, 7 ∷ [], record { header = 7; rest = []; first = 0; last = 0; link = 0; front = refl; group = refl; low = omega arith; high = omega arith; real = omega arith; near = refl; left = refl }),
    λ w t l. (let h = leaves_is 7 [] (7 ∷ []) 0 0 w t refl refl refl l in
        let e = way_one w h.0 in
        subst (λ k. Delivers example 31 k t channel.from) (sym e) (subst (λ k. Delivers example 31 1 k channel.from) (sym h.1) (refl, refl))),
  ),
)

only_one : (c d : ℕ) → c < 1 → d < 1 → c ≡ d
only_one c d a b = omega arith

draws : (i : ℕ) → (v : Option ℕ) × IsDrawn (switch.random i) v
draws zero = (Some 101, (omega arith, omega arith))
draws (suc i) = (None, tt)

pub accepted : IsAccepted example
accepted = record {
  ways = λ c h. (omega arith, omega arith);
  there = λ c h. there;
  back = λ c h. back;
  one_in = λ c d a b same. only_one c d a.0 b.0;
  one_out = λ c d a b same. only_one c d a.0 b.0;
  ranges = λ n i. draws i;
}

-- the states of the exchange
abbrev message : List ℕ
message = 104 ∷ 105 ∷ []

abbrev s1 : State
s1 = enqueue (set_chan start 0 (record (start.chans 0) { unacked = message ∷ []; offered = (start.chans 0).offered ++ message ∷ [] })) 0 (piece_packet (50 ∷ []) (message ∷ []))

abbrev bare : Packet
bare = record { body = 0 ∷ 50 ∷ 104 ∷ 105 ∷ []; mark = Eom }

abbrev fronted : Packet
fronted = record { body = 0 ∷ 101 ∷ 0 ∷ 50 ∷ 104 ∷ 105 ∷ []; mark = Eom }

abbrev acknowledge : Packet
acknowledge = record { body = 0 ∷ 7 ∷ []; mark = Eop }

abbrev s2 : State
s2 = set_way s1 0 (record (s1.ways 0) { queue = []; line = (s1.ways 0).line ++ bare ∷ [] })

abbrev s3 : State
s3 = set_way s2 0 (record (s2.ways 0) { line = []; input = Full fronted None })

abbrev s4 : State
s4 = set_way s3 0 (record (s3.ways 0) { input = Full fronted (Some 2) })

abbrev s5 : State
s5 = carry (emptied s4 0) 2 bare

abbrev s5' : State
s5' = set_way s5 2 (record (s5.ways 2) { line = [] })

abbrev s6 : State
s6 = set_chan s5' 0 (record (s5'.chans 0) { held = Some bare })

abbrev s7 : State
s7 = accept example s6 0 message true

abbrev s8 : State
s8 = set_way s7 3 (record (s7.ways 3) { queue = []; line = (s7.ways 3).line ++ acknowledge ∷ [] })

abbrev s9 : State
s9 = set_way s8 3 (record (s8.ways 3) { line = []; input = Full acknowledge None })

abbrev s10 : State
s10 = set_way s9 3 (record (s9.ways 3) { input = Full acknowledge (Some 1) })

abbrev s11 : State
s11 = carry (emptied s10 3) 1 acknowledge

abbrev s11' : State
s11' = set_way s11 1 (record (s11.ways 1) { line = [] })

abbrev s12 : State
s12 = advance example s11' 0 []

body_over : BodyLeaves example 0 fronted.body 2 bare.body
body_over = record {
  stack = 101 ∷ 50 ∷ [];
  after = 50 ∷ [];
  rest = message;
  before_is = refl;
  after_is = refl;
  leaves = record { header = 50; rest = []; first = 1; last = 1; link = 1; front = refl; group = refl; low = omega arith; high = omega arith; real = omega arith; near = refl; left = refl };
}

body_back : BodyLeaves example 0 acknowledge.body 1 acknowledge.body
body_back = record {
  stack = 7 ∷ [];
  after = 7 ∷ [];
  rest = [];
  before_is = refl;
  after_is = refl;
  leaves = record { header = 7; rest = []; first = 0; last = 0; link = 0; front = refl; group = refl; low = omega arith; high = omega arith; real = omega arith; near = refl; left = refl };
}

past : (f : ℕ → WayState) (i : ℕ) (a : WayState) (j : ℕ) → (j ≡ i → ⊥) → (put f i a j).input ≡ (f j).input
past f i a j ne = ap (λ k. k.input) (put-other f i a j ne)

not_full : (i : Input) (q : Packet) (out : ℕ) → i ≡ Empty → i ≡ Full q (Some out) → ⊥
not_full i q out e h = cc

empty3 : (j : ℕ) → (j ≡ 0 → ⊥) → (s3.ways j).input ≡ Empty
empty3 j ne = past s2.ways 0 (s3.ways 0) j ne ∙ past s1.ways 0 (s2.ways 0) j ne ∙ past start.ways 0 (s1.ways 0) j ne

free3 : (v : ℕ) (q : Packet) → (s3.ways v).input ≡ Full q (Some 2) → ⊥
free3 zero q e = let h : Full fronted None ≡ Full q (Some 2) = e in cc
free3 (suc v) q e = not_full (s3.ways (suc v)).input q 2 (empty3 (suc v) (λ z. omega arith)) e

empty9 : (j : ℕ) → 3 < j → (s9.ways j).input ≡ Empty
empty9 j h =
    past s8.ways 3 (s9.ways 3) j (λ z. omega arith) ∙ past s7.ways 3 (s8.ways 3) j (λ z. omega arith) ∙ past s6.ways 3 (s7.ways 3) j (λ z. omega arith)
    ∙ past s5.ways 2 (s6.ways 2) j (λ z. omega arith) ∙ past (emptied s4 0).ways 2 (s5.ways 2) j (λ z. omega arith) ∙ past s4.ways 0 ((emptied s4 0).ways 0) j (λ z. omega arith)
    ∙ past s3.ways 0 (s4.ways 0) j (λ z. omega arith) ∙ empty3 j (λ z. omega arith)

free9 : (v : ℕ) (q : Packet) → (s9.ways v).input ≡ Full q (Some 1) → ⊥
free9 zero q e = not_full Empty q 1 refl e
free9 (suc zero) q e = not_full Empty q 1 refl e
free9 (suc (suc zero)) q e = not_full Empty q 1 refl e
free9 (suc (suc (suc zero))) q e = let h : Full acknowledge None ≡ Full q (Some 1) = e in cc
free9 (suc (suc (suc (suc v)))) q e = not_full (s9.ways (suc (suc (suc (suc v))))).input q 1 (empty9 (suc (suc (suc (suc v)))) (omega arith)) e

for_piece : IsPieceFor example 1 bare 0 message true
for_piece = record { real = (omega arith, refl); node = refl; body = refl; kind = refl }

for_ack : IsAckFor example 0 acknowledge 0
for_ack = record { real = (omega arith, refl); node = refl; body = refl; kind = refl }

pub runs : Run example start exchange s12
runs = (
  s1,
  record { now = message; later = []; real = (omega arith, refl); idle = refl; pieces = record { whole = refl; cut = omega arith; end = λ e. absurd (cc) }; after = refl },
  (
    s2,
    record { packet = bare; rest = []; node = 0; link = 0; real = omega arith; near = refl; front = refl; after = refl },
    (
      s3,
      record { packet = bare; rest = []; switch = 0; link = 0; real = omega arith; far = refl; draw = (omega arith, omega arith); front = refl; free = refl; after = fills (group_of example 0 fronted.body 2 bare.body body_over) refl },
      (
        s4,
        record { packet = fronted; body = bare.body; switch = 0; link = 0; real = omega arith; far = refl; full = refl; group = body_over; free = λ v q less. free3 v q; after = refl },
        (
          s5,
          record { packet = fronted; out = 2; body = bare.body; switch = 0; link = 0; real = omega arith; far = refl; full = refl; leaves = body_over; after = refl },
          (
            s6,
            record { packet = bare; rest = []; node = 1; link = 0; real = omega arith; far = refl; front = refl; after = taken (holds 0 message true for_piece refl refl refl) },
            (
              s7,
              (record { real = (omega arith, refl); idle = refl; not_stopped = refl }, fetches (record { packet = bare; load = message; last = true; held = refl; piece = for_piece; after = refl })),
              (
                s8,
                record { packet = acknowledge; rest = []; node = 1; link = 0; real = omega arith; near = refl; front = refl; after = refl },
                (
                  s9,
                  record { packet = acknowledge; rest = []; switch = 0; link = 1; real = omega arith; far = refl; draw = tt; front = refl; free = refl; after = fills (group_of example 0 acknowledge.body 1 acknowledge.body body_back) refl },
                  (
                    s10,
                    record { packet = acknowledge; body = acknowledge.body; switch = 0; link = 1; real = omega arith; far = refl; full = refl; group = body_back; free = λ v q less. free9 v q; after = refl },
                    (
                      s11,
                      record { packet = acknowledge; out = 1; body = acknowledge.body; switch = 0; link = 1; real = omega arith; far = refl; full = refl; leaves = body_back; after = refl },
                      (
                        s12,
                        record { packet = acknowledge; rest = []; node = 0; link = 0; real = omega arith; far = refl; front = refl; after = taken (advances 0 message [] for_ack refl refl) },
                        refl,
                      ),
                    ),
                  ),
                ),
              ),
            ),
          ),
        ),
      ),
    ),
  ),
)

pub exchanged : (s : State) × Run example start exchange s × ((s.chans 0).taken ≡ (104 ∷ 105 ∷ []) ∷ []) × ((s.chans 0).finished ≡ 1)
exchanged = (s12, runs, refl, refl)
