-- A packet's first bytes, as a run of the token machine: a header is put in front, and falls away at its portal.
use Rattle.std.proofs.Common.{◌≡◌, ℕ, zero, suc, ◌+◌, ◌<◌, [], ◌∷◌, ◌++◌, refl, subst, arith, Some, None}
use Rattle.vc_packets.specs.Headers.{spelled}
use Rattle.vc_packets.specs.Spellings.{piece_packet}
use Rattle.vc_machine.specs.Paths.{Net}
use Rattle.vc_machine.specs.Example.{example}
use Rattle.vc_machine.specs.Machine.{enqueue, set_chan, Offer}
use Rattle.vc_tokens.specs.Tokens.{Byte, Fct}
use Rattle.vc_machine.specs.Links.{Tokens, no_tokens, set_wire, set_receiver}
use Rattle.vc_machine.specs.TokenExample.{back, piece, first_passes, goes_on}
use Rattle.vc_switch.specs.Waiting.{Waiting, StoreAndForward, Wormhole, MayGo}
use Rattle.vc_machine.specs.TokenMachine.{TokenEvent, Proc, Take, Pass, Put, PutFct, TokenStep, TokenRun, arrive, with_header, node_byte, switch_byte, put_byte}

abbrev t0 : Tokens
t0 = no_tokens

abbrev t1 : Tokens
t1 = record t0 { nodes = enqueue (set_chan t0.nodes 0 (record (t0.nodes.chans 0) { unacked = (9 ∷ []) ∷ []; offered = (t0.nodes.chans 0).offered ++ (9 ∷ []) ∷ [] })) 0 (piece_packet (50 ∷ []) ((9 ∷ []) ∷ [])) }

s1 : (waiting : Waiting) → TokenStep example back waiting t0 (Proc (Offer 0 (9 ∷ []))) t1
s1 waiting = (tt, (enqueue (set_chan t0.nodes 0 (record (t0.nodes.chans 0) { unacked = (9 ∷ []) ∷ []; offered = (t0.nodes.chans 0).offered ++ (9 ∷ []) ∷ [] })) 0 (piece_packet (50 ∷ []) ((9 ∷ []) ∷ [])), record { now = (9 ∷ []); later = []; real = (omega arith, refl); idle = refl; pieces = record { whole = refl; cut = omega arith; end = λ e. absurd (cc) }; after = refl }, refl))

abbrev t2 : Tokens
t2 = set_wire (set_receiver t1 0 (record (t1.receiver 0) { promised = (t1.receiver 0).promised + 8 })) 1 (t1.wire 1 ++ Fct ∷ [])

s2 : (waiting : Waiting) → TokenStep example back waiting t1 (PutFct 0) t2
s2 waiting = record { real = omega arith; room = omega arith; after = refl }

abbrev t3 : Tokens
t3 = arrive back (set_wire t2 1 ([])) 1 0 Fct

s3 : (waiting : Waiting) → TokenStep example back waiting t2 (Take 1 0) t3
s3 waiting = record { token = Fct; rest = ([]); real = omega arith; front = refl; after = refl }

abbrev t4 : Tokens
t4 = put_byte t3 0 0

s4 : (waiting : Waiting) → TokenStep example back waiting t3 (Put 0) t4
s4 waiting = (omega arith, omega arith, node_byte 0 0 piece [] 0 (50 ∷ 9 ∷ []) refl refl refl refl)

abbrev t5 : Tokens
t5 = put_byte t4 0 50

s5 : (waiting : Waiting) → TokenStep example back waiting t4 (Put 0) t5
s5 waiting = (omega arith, omega arith, node_byte 0 0 piece [] 50 (9 ∷ []) refl refl refl refl)

abbrev t6 : Tokens
t6 = arrive back (set_wire t5 0 (Byte 50 ∷ [])) 0 7 (Byte 0)

s6 : (waiting : Waiting) → TokenStep example back waiting t5 (Take 0 7) t6
s6 waiting = record { token = (Byte 0); rest = (Byte 50 ∷ []); real = omega arith; front = refl; after = refl }

abbrev t7 : Tokens
t7 = set_receiver t6 0 (record (t6.receiver 0) { buffer = ([]); got = with_header example 0 0 (t6.receiver 0) ++ 0 ∷ [] })

s7 : (waiting : Waiting) → TokenStep example back waiting t6 (Pass 0) t7
s7 waiting = (omega arith, switch_byte 0 0 0 ([]) refl refl refl refl)

abbrev t8 : Tokens
t8 = arrive back (set_wire t7 0 ([])) 0 1 (Byte 50)

s8 : TokenStep example back Wormhole t7 (Take 0 1) t8
s8 = record { token = (Byte 50); rest = ([]); real = omega arith; front = refl; after = refl }

abbrev t9 : Tokens
t9 = set_receiver t8 0 (record (t8.receiver 0) { buffer = ([]); got = with_header example 0 0 (t8.receiver 0) ++ 50 ∷ [] })

s9 : TokenStep example back Wormhole t8 (Pass 0) t9
s9 = (omega arith, switch_byte 0 0 50 ([]) refl refl refl refl)

nothing_is : {n : ℕ} → None ≡ Some n → ⊥
nothing_is e = cc

-- nothing is bound yet
not_bound : (v : ℕ) → v < example.ways → (t9.receiver v).bound ≡ Some 2 → ⊥
not_bound zero real e = nothing_is (let f : None ≡ Some 2 = e in f)
not_bound (suc zero) real e = nothing_is (let f : None ≡ Some 2 = e in f)
not_bound (suc (suc zero)) real e = nothing_is (let f : None ≡ Some 2 = e in f)
not_bound (suc (suc (suc zero))) real e = nothing_is (let f : None ≡ Some 2 = e in f)
not_bound (suc (suc (suc (suc v)))) real e = absurd (omega arith)

abbrev t10 : Tokens
t10 = set_receiver t9 0 (record (t9.receiver 0) { bound = Some 2 })

s10 : TokenStep example back Wormhole t9 (TokenEvent.Route 0 2) t10
s10 = record { body = (0 ∷ 50 ∷ []); switch = 0; link = 0; real = omega arith; far = refl; unbound = refl; group = record { stack = 102 ∷ 50 ∷ []; after = 50 ∷ []; rest = []; before_is = refl; leaves = record { header = 50; rest = []; first = 1; last = 1; link = 1; front = refl; group = refl; low = omega arith; high = omega arith; real = omega arith; near = refl; left = refl }; after_is = refl }; may_go = tt; free = not_bound; after = refl }

abbrev t11 : Tokens
t11 = set_wire (set_receiver t10 2 (record (t10.receiver 2) { promised = (t10.receiver 2).promised + 8 })) 3 (t10.wire 3 ++ Fct ∷ [])

s11 : TokenStep example back Wormhole t10 (PutFct 2) t11
s11 = record { real = omega arith; room = omega arith; after = refl }

abbrev t12 : Tokens
t12 = arrive back (set_wire t11 3 ([])) 3 0 Fct

s12 : TokenStep example back Wormhole t11 (Take 3 0) t12
s12 = record { token = Fct; rest = ([]); real = omega arith; front = refl; after = refl }

abbrev t13 : Tokens
t13 = put_byte t12 2 0

s13 : TokenStep example back Wormhole t12 (Put 2) t13
s13 = (omega arith, omega arith, switch_byte 0 0 (0 ∷ 50 ∷ []) 0 (50 ∷ []) (record { real = omega arith; link = 0; far = refl; bound = refl; leaves = record { stack = 102 ∷ 50 ∷ []; after = 50 ∷ []; rest = ([]); before_is = refl; leaves = record { header = 50; rest = []; first = 1; last = 1; link = 1; front = refl; group = refl; low = omega arith; high = omega arith; real = omega arith; near = refl; left = refl }; after_is = refl }; may_go = tt }) refl refl)

-- word 7 draws 102 from the range 101 to 103, with the packet's first token
pub drawn_header : (waiting : Waiting) → (u : Tokens) × TokenRun example back waiting no_tokens first_passes u × ((u.receiver 0).got ≡ spelled (102 ∷ []) ++ 0 ∷ [])
drawn_header waiting = (t7, (t1, s1 waiting, (t2, s2 waiting, (t3, s3 waiting, (t4, s4 waiting, (t5, s5 waiting, (t6, s6 waiting, (t7, s7 waiting, refl))))))), refl)

pub goes_before_its_mark : (u : Tokens) × TokenRun example back Wormhole no_tokens (first_passes ++ goes_on) u × (u.wire 2 ≡ Byte 0 ∷ []) × ((u.receiver 0).mark ≡ None) × ((u.nodes.ways 0).queue ≡ piece ∷ [])
goes_before_its_mark = (
  t13,
  (t1, s1 Wormhole, (t2, s2 Wormhole, (t3, s3 Wormhole, (t4, s4 Wormhole, (t5, s5 Wormhole, (t6, s6 Wormhole, (t7, s7 Wormhole, (t8, s8, (t9, s9, (t10, s10, (t11, s11, (t12, s12, (t13, s13, refl))))))))))))),
  refl,
  refl,
  refl,
)

-- in store and forward a packet waits for its mark
pub waits_for_its_mark : (net : Net) (back : ℕ → ℕ) (t u : Tokens) (w out : ℕ) → TokenStep net back StoreAndForward t (TokenEvent.Route w out) u → (t.receiver w).mark ≡ None → ⊥
waits_for_its_mark net back t u w out h none = subst (MayGo StoreAndForward) none h.may_go
