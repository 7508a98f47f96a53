-- The ghost labels of the packets, and the invariant.
use Rattle.std.proofs.Common.{◌≡◌, ℕ, zero, suc, ◌+◌, ◌<◌, ◌≤◌, inl, inr, true, false, nat_eq, List, [], ◌∷◌, ◌++◌, length, refl, sym, ap, subst, arith, if◌then◌else◌, Option, Some, None}
use Rattle.std.specs.List.{AllZip}
use Rattle.std.proofs.lemmas.Bool.{cases_eq}
use Rattle.vc_packets.specs.declared.packet.Packet.{Packet}
use Rattle.vc_packets.specs.Pieces.{joined, IsCut}
use Rattle.vc_packets.specs.Spellings.{piece_packet, ack_packet}
use Rattle.vc_machine.specs.Paths.{Carries, AtSwitch, End, Channel, Net, Delivers}
use Rattle.vc_switch.specs.Forward.{IsDrawn, behind}
use Rattle.vc_machine.specs.Machine.{State, WayState, ChanState, Input, Empty, Full}
use Rattle.vc_packets.specs.Functions.{put}
use Rattle.vc_machine.proofs.Basics.{put-same, put-other}

-- where a channel's packet is: nowhere; a piece on its way; a piece held; an acknowledge on its way
pub data Phase : Type 0 where
  Calm : Phase
  Coming : Phase
  Waiting : Phase
  Returning : Phase

-- what a packet on its way is: its channel, and the headers that it has left
pub record Label : Type 0 where
  pub chan : ℕ
  pub stack : List ℕ

pub record Labels : Type 0 where
  pub queue : List Label
  pub line : List Label
  pub input : List Label

abbrev pub number : ℕ → List Label → ℕ
number c [] = 0
number c (l ∷ ls) = (if nat_eq l.chan c then 1 else 0) + number c ls

abbrev pub in_way : ℕ → Labels → ℕ
in_way c a = number c a.queue + number c a.line + number c a.input

abbrev pub tally : ℕ → ℕ → (ℕ → Labels) → ℕ
tally c zero L = 0
tally c (suc w) L = in_way c (L w) + tally c w L

abbrev pub goal_end : Phase → Channel → End
goal_end Returning ch = ch.from
goal_end q ch = ch.to

abbrev pub carried : Phase → List (List ℕ) → List ℕ → Packet
carried Returning cs s = ack_packet s
carried q cs s = piece_packet s cs

-- the label fits the packet, which is behind v's header at way w
pub record On (net : Net) (ph : ℕ → Phase) (chans : ℕ → ChanState) (w : ℕ) (v : Option ℕ) (l : Label) (p : Packet) : Type 0 where
  pub real : Carries net l.chan
  pub fuel : ℕ
  pub small : fuel ≤ 32
  pub delivers : Delivers net fuel w l.stack (goal_end (ph l.chan) (net.chan l.chan))
  pub is : p ≡ carried (ph l.chan) (chans l.chan).unacked (behind v l.stack)

pub record In (net : Net) (ph : ℕ → Phase) (chans : ℕ → ChanState) (w : ℕ) (p : Packet) (l : Label) : Type 0 where
  pub switch : ℕ
  pub link : ℕ
  pub drawn : Option ℕ
  pub far : net.far w ≡ AtSwitch switch link
  pub draw : IsDrawn ((net.switch switch).random link) drawn
  pub on : On net ph chans w drawn l p

abbrev pub InputFits : Net → (ℕ → Phase) → (ℕ → ChanState) → ℕ → Input → List Label → Type 0
InputFits net ph chans w Empty ls = ls ≡ []
InputFits net ph chans w (Full p bound) ls = (l : Label) × (ls ≡ l ∷ []) × In net ph chans w p l

pub record WayFits (net : Net) (ph : ℕ → Phase) (chans : ℕ → ChanState) (w : ℕ) (a : WayState) (b : Labels) : Type 0 where
  pub queue : AllZip (On net ph chans w None) b.queue a.queue
  pub line : AllZip (On net ph chans w None) b.line a.line
  pub input : InputFits net ph chans w a.input b.input

pub record IsCalm (x : ChanState) : Type 0 where
  pub unacked : x.unacked ≡ []
  pub stored : x.stored ≡ []
  pub same : x.taken ≡ x.offered
  pub count : x.finished ≡ length x.taken

-- a piece is on its way or held
pub record IsGoing (x : ChanState) : Type 0 where
  pub message : List ℕ
  pub now : List ℕ
  pub later : List (List ℕ)
  pub unacked : x.unacked ≡ now ∷ later
  pub cut : IsCut (now ∷ later)
  pub whole : x.stored ++ joined (now ∷ later) ≡ message
  pub offered : x.offered ≡ x.taken ++ message ∷ []
  pub count : x.finished ≡ length x.taken

abbrev pub LeftAfter : ChanState → List (List ℕ) → Type 0
LeftAfter x [] = (x.stored ≡ []) × (x.taken ≡ x.offered) × (length x.taken ≡ suc x.finished)
LeftAfter x (d ∷ later) =
    (m : List ℕ) × IsCut (d ∷ later) × (x.stored ++ joined (d ∷ later) ≡ m) × (x.offered ≡ x.taken ++ m ∷ []) × (x.finished ≡ length x.taken)

-- an acknowledge is on its way
pub record IsBack (x : ChanState) : Type 0 where
  pub now : List ℕ
  pub later : List (List ℕ)
  pub unacked : x.unacked ≡ now ∷ later
  pub left : LeftAfter x later

-- n packets of the channel are in queues, on ways and in switches
abbrev pub PhaseFits : Channel → Phase → ChanState → ℕ → Type 0
PhaseFits ch Calm x n = (n ≡ 0) × (x.held ≡ None) × IsCalm x
PhaseFits ch Coming x n = (n ≡ 1) × (x.held ≡ None) × IsGoing x
PhaseFits ch Waiting x n = (n ≡ 0) × (x.held ≡ Some (piece_packet (ch.to.block ∷ []) x.unacked)) × (x.wants ≡ false) × IsGoing x
PhaseFits ch Returning x n = (n ≡ 1) × (x.held ≡ None) × IsBack x

pub record ChanFits (ch : Channel) (f : Phase) (x : ChanState) (n : ℕ) : Type 0 where
  pub «open» : x.wants ≡ true → x.stopped ≡ false
  pub phase : PhaseFits ch f x n

pub record Inv (net : Net) (s : State) : Type 0 where
  pub labels : ℕ → Labels
  pub phases : ℕ → Phase
  pub ways : (w : ℕ) → w < net.ways → WayFits net phases s.chans w (s.ways w) (labels w)
  pub chans : (c : ℕ) → Carries net c → ChanFits (net.chan c) (phases c) (s.chans c) (tally c net.ways labels)
  pub strays : s.strays ≡ 0
  pub lost : s.lost ≡ 0

-- counts

pub number-append : (c : ℕ) (xs ys : List Label) → number c (xs ++ ys) ≡ number c xs + number c ys
number-append c [] ys = omega arith
number-append c (x ∷ xs) ys = omega (arith, number-append c xs ys)

pub in_way_le_tally : (c w n : ℕ) (L : ℕ → Labels) → w < n → in_way c (L w) ≤ tally c n L
in_way_le_tally c w zero L h = omega arith
in_way_le_tally c w (suc n) L h =
    elim (cases_eq w n) [
      | inl e ↦ subst (λ k. in_way c (L k) ≤ in_way c (L n) + tally c n L) (sym e) (omega arith)
      | inr ne ↦ (let h2 : w < n = omega arith in omega (arith, in_way_le_tally c w n L h2))
    ]

pub tally_put_past : (c w n : ℕ) (L : ℕ → Labels) (a : Labels) → n ≤ w → tally c n (put L w a) ≡ tally c n L
tally_put_past c w zero L a h = refl
tally_put_past c w (suc n) L a h =
    let ne : n ≡ w → ⊥ = omega arith in
    let e = ap (in_way c) (put-other L w a n ne) in
    omega (arith, e, tally_put_past c w n L a (omega arith))

pub tally_put : (c w n : ℕ) (L : ℕ → Labels) (a : Labels) → w < n → tally c n (put L w a) + in_way c (L w) ≡ tally c n L + in_way c a
tally_put c w zero L a h = omega arith
tally_put c w (suc n) L a h =
    elim (cases_eq w n) [
      | inl e ↦ tally_put_here c w n L a e
      | inr ne ↦ (let h2 : w < n = omega arith in
          let ne2 : n ≡ w → ⊥ = omega arith in
          omega (arith, ap (in_way c) (put-other L w a n ne2), tally_put c w n L a h2))
    ]
  where
    tally_put_here : (c w n : ℕ) (L : ℕ → Labels) (a : Labels) → w ≡ n → in_way c (put L w a n) + tally c n (put L w a) + in_way c (L w) ≡ in_way c (L n) + tally c n L + in_way c a
    tally_put_here c w n L a e =
        let e1 : in_way c (put L w a n) ≡ in_way c a = ap (in_way c) (subst (λ k. put L w a k ≡ a) e (put-same L w a)) in
        let e2 : in_way c (L w) ≡ in_way c (L n) = ap (λ k. in_way c (L k)) e in
        omega (arith, e1, e2, tally_put_past c w n L a (omega arith))
