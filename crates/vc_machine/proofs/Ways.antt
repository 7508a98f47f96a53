-- What becomes of the labels of the ways as packets come and go.
use Rattle.std.proofs.Common.{◌≡◌, ℕ, suc, ◌<◌, ◌⊎◌, inl, inr, nat_eq, List, [], ◌∷◌, ◌++◌, refl, sym, ap, subst, arith, eq-eqb, ne_eqb, Option, None}
use Rattle.std.specs.List.{AllZip}
use Rattle.std.proofs.lemmas.Bool.{cases_eq, cond-true, cond-false}
use Rattle.vc_packets.specs.declared.packet.Packet.{Packet}
use Rattle.vc_machine.specs.Paths.{Net}
use Rattle.vc_machine.specs.Machine.{WayState, ChanState, Input, Empty, Full}
use Rattle.vc_packets.specs.Functions.{put}
use Rattle.vc_machine.proofs.Basics.{put-other, every_put₂}
use Rattle.vc_machine.proofs.Labels.{Phase, Label, Labels, number, in_way, tally, On, InputFits, WayFits, in_way_le_tally}

abbrev pub WaysFit : (net : Net) → (ℕ → Phase) → (ℕ → ChanState) → (ℕ → WayState) → (ℕ → Labels) → Type 0
WaysFit net ph chans A L = (w : ℕ) → w < net.ways → WayFits net ph chans w (A w) (L w)

pub set_fits : (net : Net) (ph : ℕ → Phase) (chans : ℕ → ChanState) (A : ℕ → WayState) (L : ℕ → Labels) (w : ℕ) (a : WayState) (b : Labels) →
    WaysFit net ph chans A L → WayFits net ph chans w a b → WaysFit net ph chans (put A w a) (put L w b)
set_fits net ph chans A L w a b fit here =
    every_put₂ (λ j x y. j < net.ways → WayFits net ph chans j x y) A L w a b (λ h. here) (λ j ne. fit j)

pub zip_front : {X Y : Type 0} (R : X → Y → Type 0) (ls : List X) (p : Y) (ps : List Y) → AllZip R ls (p ∷ ps) →
    (l : X) × (rest : List X) × (ls ≡ l ∷ rest) × R l p × AllZip R rest ps
zip_front R [] p ps h = absurd h
zip_front R (l ∷ ls) p ps h = (l, ls, refl, h.0, h.1)

pub zip_push : {X Y : Type 0} (R : X → Y → Type 0) (ls : List X) (ps : List Y) (l : X) (p : Y) → AllZip R ls ps → R l p → AllZip R (ls ++ l ∷ []) (ps ++ p ∷ [])
zip_push R [] [] l p z r = (r, tt)
zip_push R [] (q ∷ qs) l p z r = absurd z
zip_push R (k ∷ ks) [] l p z r = absurd z
zip_push R (k ∷ ks) (q ∷ qs) l p z r = (z.0, zip_push R ks qs l p z.1 r)

-- a label and the rest of its list, where the list of packets is not empty
pub record Front (net : Net) (ph : ℕ → Phase) (chans : ℕ → ChanState) (w : ℕ) (p : Packet) (ps : List Packet) (ls : List Label) : Type 0 where
  pub label : Label
  pub rest : List Label
  pub is : ls ≡ label ∷ rest
  pub on : On net ph chans w None label p
  pub others : AllZip (On net ph chans w None) rest ps

pub front_of : (net : Net) (ph : ℕ → Phase) (chans : ℕ → ChanState) (w : ℕ) (ls : List Label) (qs : List Packet) (p : Packet) (ps : List Packet) →
    AllZip (On net ph chans w None) ls qs → qs ≡ p ∷ ps → Front net ph chans w p ps ls
front_of net ph chans w ls qs p ps h e =
    let z = zip_front (On net ph chans w None) ls p ps (subst (λ k. AllZip (On net ph chans w None) ls k) e h) in
    record { label = z.0; rest = z.1; is = z.2; on = z.3; others = z.4 }

pub push_line : (net : Net) (ph : ℕ → Phase) (chans : ℕ → ChanState) (w : ℕ) (a : WayState) (b : Labels) (l : Label) (p : Packet) →
    WayFits net ph chans w a b → On net ph chans w None l p → WayFits net ph chans w (record a { line = a.line ++ p ∷ [] }) (record b { line = b.line ++ l ∷ [] })
push_line net ph chans w a b l p fit on = record { queue = fit.queue; line = zip_push (On net ph chans w None) b.line a.line l p fit.line on; input = fit.input }

pub push_queue : (net : Net) (ph : ℕ → Phase) (chans : ℕ → ChanState) (w : ℕ) (a : WayState) (b : Labels) (l : Label) (p : Packet) →
    WayFits net ph chans w a b → On net ph chans w None l p → WayFits net ph chans w (record a { queue = a.queue ++ p ∷ [] }) (record b { queue = b.queue ++ l ∷ [] })
push_queue net ph chans w a b l p fit on = record { line = fit.line; queue = zip_push (On net ph chans w None) b.queue a.queue l p fit.queue on; input = fit.input }

-- a change of channels keeps the labels of those that it leaves alone
abbrev pub Same : (ℕ → Phase) → (ℕ → ChanState) → (ℕ → Phase) → (ℕ → ChanState) → ℕ → Type 0
Same ph chans qh dhans d = (qh d ≡ ph d) × ((dhans d).unacked ≡ (chans d).unacked)

pub on_kept : (net : Net) (ph : ℕ → Phase) (chans : ℕ → ChanState) (qh : ℕ → Phase) (dhans : ℕ → ChanState) (w : ℕ) (v : Option ℕ) (l : Label) (p : Packet) →
    Same ph chans qh dhans l.chan → On net ph chans w v l p → On net qh dhans w v l p
on_kept net ph chans qh dhans w v l p same on =
    record {
      real = on.real;
      fuel = on.fuel;
      small = on.small;
      delivers = rw same.0 on.delivers;
      is = rw (same.0, same.1) on.is;
    }

pub number_here : (l : Label) (ls : List Label) → number l.chan (l ∷ ls) ≡ suc (number l.chan ls)
number_here l ls = rw (cond-true {A = ℕ} (nat_eq l.chan l.chan) 1 0 (eq-eqb l.chan l.chan refl)) (omega arith)

pub number_other : (c : ℕ) (l : Label) (ls : List Label) → (l.chan ≡ c → ⊥) → number c (l ∷ ls) ≡ number c ls
number_other c l ls ne = rw (cond-false {A = ℕ} (nat_eq l.chan c) 1 0 (ne_eqb l.chan c ne)) (omega arith)

pub one_here : (l : Label) (ls : List Label) → number l.chan (l ∷ ls) ≡ 0 → ⊥
one_here l ls e = let h = number_here l ls in omega arith

pub zip_kept : (net : Net) (ph : ℕ → Phase) (chans : ℕ → ChanState) (qh : ℕ → Phase) (dhans : ℕ → ChanState) (w : ℕ) (v : Option ℕ) (ls : List Label) (ps : List Packet) →
    ((d : ℕ) → (number d ls ≡ 0) ⊎ Same ph chans qh dhans d) → AllZip (On net ph chans w v) ls ps → AllZip (On net qh dhans w v) ls ps
zip_kept net ph chans qh dhans w v [] [] h z = tt
zip_kept net ph chans qh dhans w v [] (p ∷ ps) h z = absurd z
zip_kept net ph chans qh dhans w v (l ∷ ls) [] h z = absurd z
zip_kept net ph chans qh dhans w v (l ∷ ls) (p ∷ ps) h z = (
  elim (h l.chan) [ inl none ↦ absurd (one_here l ls none) | inr same ↦ on_kept net ph chans qh dhans w v l p same z.0 ],
  zip_kept net ph chans qh dhans w v ls ps (λ d. elim (h d) [ inl none ↦ inl (omega arith) | inr same ↦ inr same ]) z.1,
)

pub input_kept : (net : Net) (ph : ℕ → Phase) (chans : ℕ → ChanState) (qh : ℕ → Phase) (dhans : ℕ → ChanState) (w : ℕ) (i : Input) (ls : List Label) →
    ((d : ℕ) → (number d ls ≡ 0) ⊎ Same ph chans qh dhans d) → InputFits net ph chans w i ls → InputFits net qh dhans w i ls
input_kept net ph chans qh dhans w Empty ls h z = z
input_kept net ph chans qh dhans w (Full p bound) ls h z =
    let l = z.0 in
    let h2 = subst (λ k. (d : ℕ) → (number d k ≡ 0) ⊎ Same ph chans qh dhans d) z.1 h in (
      l,
      z.1,
      record {
        switch = z.2.switch;
        link = z.2.link;
        drawn = z.2.drawn;
        far = z.2.far;
        draw = z.2.draw;
        on = elim (h2 l.chan) [ inl none ↦ absurd (one_here l [] none) | inr same ↦ on_kept net ph chans qh dhans w z.2.drawn l p same z.2.on ];
      },
    )

pub way_kept : (net : Net) (ph : ℕ → Phase) (chans : ℕ → ChanState) (qh : ℕ → Phase) (dhans : ℕ → ChanState) (w : ℕ) (a : WayState) (b : Labels) →
    ((d : ℕ) → (in_way d b ≡ 0) ⊎ Same ph chans qh dhans d) → WayFits net ph chans w a b → WayFits net qh dhans w a b
way_kept net ph chans qh dhans w a b h fit =
    record {
      queue = zip_kept net ph chans qh dhans w None b.queue a.queue (λ d. elim (h d) [ inl none ↦ inl (omega arith) | inr same ↦ inr same ]) fit.queue;
      line = zip_kept net ph chans qh dhans w None b.line a.line (λ d. elim (h d) [ inl none ↦ inl (omega arith) | inr same ↦ inr same ]) fit.line;
      input = input_kept net ph chans qh dhans w a.input b.input (λ d. elim (h d) [ inl none ↦ inl (omega arith) | inr same ↦ inr same ]) fit.input;
    }

pub ways_kept : (net : Net) (ph : ℕ → Phase) (chans : ℕ → ChanState) (qh : ℕ → Phase) (dhans : ℕ → ChanState) (A : ℕ → WayState) (L : ℕ → Labels) →
    ((d : ℕ) → (tally d net.ways L ≡ 0) ⊎ Same ph chans qh dhans d) → WaysFit net ph chans A L → WaysFit net qh dhans A L
ways_kept net ph chans qh dhans A L h fit w real =
    way_kept net ph chans qh dhans w (A w) (L w)
    (λ d. elim (h d) [ inl none ↦ inl (let le = in_way_le_tally d w net.ways L real in omega arith) | inr same ↦ inr same ])
    (fit w real)

-- one channel gets a new phase and state, and none of its packets is on the ways
pub put_same : (ph : ℕ → Phase) (chans : ℕ → ChanState) (c : ℕ) (f : Phase) (x : ChanState) (d : ℕ) → (d ≡ c → ⊥) → Same ph chans (put ph c f) (put chans c x) d
put_same ph chans c f x d ne = (put-other ph c f d ne, ap (λ k. k.unacked) (put-other chans c x d ne))

pub retied : (net : Net) (ph : ℕ → Phase) (chans : ℕ → ChanState) (c : ℕ) (f : Phase) (x : ChanState) (A : ℕ → WayState) (L : ℕ → Labels) →
    tally c net.ways L ≡ 0 → WaysFit net ph chans A L → WaysFit net (put ph c f) (put chans c x) A L
retied net ph chans c f x A L none fit =
    ways_kept net ph chans (put ph c f) (put chans c x) A L
    (λ d. elim (cases_eq d c) [
      | inl e ↦ inl (subst (λ k. tally k net.ways L ≡ 0) (sym e) none)
      | inr ne ↦ inr (put_same ph chans c f x d ne)
    ])
    fit
