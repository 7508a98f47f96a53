-- A list of communications, each message of which is output and finished where it is input.
use Rattle.std.proofs.Common.{◌≡◌, ◌≢◌, ℕ, Bool, true, false, ◌==◌, refl, sym, ap, subst, ◌∙◌, List, [], ◌∷◌, ◌++◌, eq-eqb, ne_eqb, if◌then◌else◌}
use Rattle.vc_process.specs.declared.datum.Datum.{Datum}
use Rattle.vc_process.specs.Messages.{message}
use Rattle.vc_accepted.specs.OneList.{to_channel}
use Rattle.vc_occam.specs.Traces.{Comm, Out, Fin, In, Stp}

-- what a list consists of on the way to its linearization: a message that passes, a stop, an input or an end whose output stands before
pub data Element : Type 0 where
  Exchanged : (sender receiver chan : ℕ) (sent got : Datum) → Element
  Stopped : (node chan : ℕ) → Element
  Received : (node chan : ℕ) (got : Datum) → Element
  Finished : (node chan : ℕ) → Element

abbrev pub spell_one : Element → List (ℕ × Comm)
spell_one (Exchanged n m c x y) = (n, Out c x) ∷ (m, In c y) ∷ (n, Fin c) ∷ []
spell_one (Stopped n c) = (n, Stp c) ∷ []
spell_one (Received n c y) = (n, In c y) ∷ []
spell_one (Finished n c) = (n, Fin c) ∷ []

abbrev pub spell : List Element → List (ℕ × Comm)
spell [] = []
spell (i ∷ l) = spell_one i ++ spell l

abbrev pub chan_of : Element → ℕ
chan_of (Exchanged n m c x y) = c
chan_of (Stopped n c) = c
chan_of (Received n c y) = c
chan_of (Finished n c) = c

-- without the first end on the channel
abbrev pub without : ℕ → List Element → List Element
without c [] = []
without c (Finished n d ∷ l) = if d == c then l else Finished n d ∷ without c l
without c (i ∷ l) = i ∷ without c l

-- what node n outputs passes where it is got
abbrev pub exchanged : ℕ → ℕ → Datum → List Element → List Element
exchanged n c x [] = []
exchanged n c x (Received m d y ∷ l) = if d == c then Exchanged n m c x y ∷ without c l else Received m d y ∷ exchanged n c x l
exchanged n c x (i ∷ l) = i ∷ exchanged n c x l

abbrev pub linearized : List (ℕ × Comm) → List Element
linearized [] = []
linearized ((n, Out c x) ∷ ks) = exchanged n c x (linearized ks)
linearized ((n, In c y) ∷ ks) = Received n c y ∷ linearized ks
linearized ((n, Fin c) ∷ ks) = Finished n c ∷ linearized ks
linearized ((n, Stp c) ∷ ks) = Stopped n c ∷ linearized ks

-- how a channel stands: nothing is under way, a message is offered, or it is taken and its output not finished
pub data Phase : Type 0 where
  Idle : Phase
  Offered : (sender : ℕ) (sent : List ℕ) → Phase
  Taken : (sender : ℕ) → Phase

-- from this phase on what happens on the channel comes in turn
pub data ElementsInTurn (c : ℕ) : Phase → List Element → Type 0 where
  no_more : {h : Phase} → ElementsInTurn c h []
  passes : {n m : ℕ} {x y : Datum} {l : List Element} → ElementsInTurn c Idle l → ElementsInTurn c Idle (Exchanged n m c x y ∷ l)
  receives : {n m : ℕ} {w : List ℕ} {y : Datum} {l : List Element} → w ≡ message y → ElementsInTurn c (Taken n) l → ElementsInTurn c (Offered n w) (Received m c y ∷ l)
  finishes : {n : ℕ} {l : List Element} → ElementsInTurn c Idle l → ElementsInTurn c (Taken n) (Finished n c ∷ l)
  stops : {h : Phase} {n : ℕ} {l : List Element} → ElementsInTurn c h l → ElementsInTurn c h (Stopped n c ∷ l)
  other : {h : Phase} {i : Element} {l : List Element} → chan_of i ≢ c → ElementsInTurn c h l → ElementsInTurn c h (i ∷ l)

pub data InTurn (c : ℕ) : Phase → List (ℕ × Comm) → Type 0 where
  turn_end : {h : Phase} → InTurn c h []
  turn_out : {n : ℕ} {x : Datum} {ks : List (ℕ × Comm)} → InTurn c (Offered n (message x)) ks → InTurn c Idle ((n, Out c x) ∷ ks)
  turn_in : {n m : ℕ} {w : List ℕ} {y : Datum} {ks : List (ℕ × Comm)} → w ≡ message y → InTurn c (Taken n) ks → InTurn c (Offered n w) ((m, In c y) ∷ ks)
  turn_fin : {n : ℕ} {ks : List (ℕ × Comm)} → InTurn c Idle ks → InTurn c (Taken n) ((n, Fin c) ∷ ks)
  turn_stp : {h : Phase} {n : ℕ} {ks : List (ℕ × Comm)} → InTurn c h ks → InTurn c h ((n, Stp c) ∷ ks)
  turn_other : {h : Phase} {n : ℕ} {k : Comm} {ks : List (ℕ × Comm)} → (to_channel k).0 ≢ c → InTurn c h ks → InTurn c h ((n, k) ∷ ks)

pub turn_tail : {c : ℕ} {h : Phase} {z : ℕ × Comm} {ks : List (ℕ × Comm)} → InTurn c h (z ∷ ks) → (g : Phase) × InTurn c g ks
turn_tail (turn_out {n = n} {x = x} g) = (Offered n (message x), g)
turn_tail (turn_in {n = n} e g) = (Taken n, g)
turn_tail (turn_fin g) = (Idle, g)
turn_tail {h = h} (turn_stp g) = (h, g)
turn_tail {h = h} (turn_other e g) = (h, g)

pub after_out : {c d : ℕ} {h : Phase} {n : ℕ} {x : Datum} {ks : List (ℕ × Comm)} → InTurn c h ((n, Out d x) ∷ ks) → d ≡ c → InTurn c (Offered n (message x)) ks
after_out (turn_out g) q = g
after_out (turn_other e g) q = absurd (e q)

-- an element on another channel is passed over
pub exchanged_past : (n c : ℕ) (x : Datum) (i : Element) (l : List Element) → chan_of i ≢ c → exchanged n c x (i ∷ l) ≡ i ∷ exchanged n c x l
exchanged_past n c x (Received s d y) l e = ap (λ b. if b then Exchanged n s c x y ∷ without c l else Received s d y ∷ exchanged n c x l) (ne_eqb d c e)
exchanged_past n c x y l e = refl

pub without_past : (c : ℕ) (i : Element) (l : List Element) → chan_of i ≢ c → without c (i ∷ l) ≡ i ∷ without c l
without_past c (Finished s d) l e = ap (λ b. if b then l else Finished s d ∷ without c l) (ne_eqb d c e)
without_past c x l e = refl

-- on its own channel it is met
pub exchanged_at : (n c : ℕ) (x : Datum) (s : ℕ) (y : Datum) (l : List Element) → exchanged n c x (Received s c y ∷ l) ≡ Exchanged n s c x y ∷ without c l
exchanged_at n c x s y l = ap (λ b. if b then Exchanged n s c x y ∷ without c l else Received s c y ∷ exchanged n c x l) (eq-eqb c c refl)

pub without_at : (c s : ℕ) (l : List Element) → without c (Finished s c ∷ l) ≡ l
without_at c s l = ap (λ b. if b then l else Finished s c ∷ without c l) (eq-eqb c c refl)

without_turns : {c n : ℕ} {l : List Element} → ElementsInTurn c (Taken n) l → ElementsInTurn c Idle (without c l)
without_turns no_more = no_more
without_turns {c} (finishes {n = n} {l = l} t) = subst (ElementsInTurn c Idle) (sym (without_at c n l)) t
without_turns (stops t) = stops (without_turns t)
without_turns {c} (other {i = i} {l = l} e t) = subst (ElementsInTurn c Idle) (sym (without_past c i l e)) (other e (without_turns t))

exchanged_turns : {c n : ℕ} (x : Datum) {w : List ℕ} {l : List Element} → ElementsInTurn c (Offered n w) l → ElementsInTurn c Idle (exchanged n c x l)
exchanged_turns x no_more = no_more
exchanged_turns {c} {n} x (receives {m = m} {y = y} {l = l} e t) = subst (ElementsInTurn c Idle) (sym (exchanged_at n c x m y l)) (passes (without_turns t))
exchanged_turns x (stops t) = stops (exchanged_turns x t)
exchanged_turns {c} {n} x (other {i = i} {l = l} e t) = subst (ElementsInTurn c Idle) (sym (exchanged_past n c x i l e)) (other e (exchanged_turns x t))

-- what is done on channel d changes nothing on channel c
module _ (c d : ℕ) (apart : d ≢ c) where
  swap_sides : c ≢ d
  swap_sides e = apart (sym e)

  end_apart : {h : Phase} (s f : ℕ) (l : List Element) → f ≢ c → ElementsInTurn c h l → ElementsInTurn c h (without d l) → ElementsInTurn c h (without d (Finished s f ∷ l))
  end_apart {h} s f l e t r = at (f == d)
    where
      at : (b : Bool) → ElementsInTurn c h (if b then l else Finished s f ∷ without d l)
      at true = t
      at false = other e r

  without_apart : {h : Phase} {l : List Element} → ElementsInTurn c h l → ElementsInTurn c h (without d l)
  without_apart no_more = no_more
  without_apart (passes t) = passes (without_apart t)
  without_apart (receives e t) = receives e (without_apart t)
  without_apart {h} (finishes {n = n} {l = l} t) = subst (ElementsInTurn c (Taken n)) (sym (without_past d (Finished n c) l swap_sides)) (finishes (without_apart t))
  without_apart (stops t) = stops (without_apart t)
  without_apart (other {i = Exchanged s r f y z} e t) = other e (without_apart t)
  without_apart (other {i = Stopped s f} e t) = other e (without_apart t)
  without_apart (other {i = Received s f y} e t) = other e (without_apart t)
  without_apart (other {i = Finished s f} {l = l} e t) = end_apart s f l e t (without_apart t)

  got_apart : {h : Phase} (n : ℕ) (x : Datum) (s f : ℕ) (y : Datum) (l : List Element) → f ≢ c → ElementsInTurn c h (without d l) → ElementsInTurn c h (exchanged n d x l) → ElementsInTurn c h (exchanged n d x (Received s f y ∷ l))
  got_apart {h} n x s f y l e t r = at (f == d)
    where
      at : (b : Bool) → ElementsInTurn c h (if b then Exchanged n s d x y ∷ without d l else Received s f y ∷ exchanged n d x l)
      at true = other apart t
      at false = other e r

  exchanged_apart : (n : ℕ) (x : Datum) {h : Phase} {l : List Element} → ElementsInTurn c h l → ElementsInTurn c h (exchanged n d x l)
  exchanged_apart n x no_more = no_more
  exchanged_apart n x (passes t) = passes (exchanged_apart n x t)
  exchanged_apart n x (receives {n = s} {m = m} {w = w} {y = y} {l = l} e t) = subst (ElementsInTurn c (Offered s w)) (sym (exchanged_past n d x (Received m c y) l swap_sides)) (receives e (exchanged_apart n x t))
  exchanged_apart n x (finishes t) = finishes (exchanged_apart n x t)
  exchanged_apart n x (stops t) = stops (exchanged_apart n x t)
  exchanged_apart n x (other {i = Exchanged s r f y z} e t) = other e (exchanged_apart n x t)
  exchanged_apart n x (other {i = Stopped s f} e t) = other e (exchanged_apart n x t)
  exchanged_apart n x (other {i = Received s f y} {l = l} e t) = got_apart n x s f y l e (without_apart t) (exchanged_apart n x t)
  exchanged_apart n x (other {i = Finished s f} e t) = other e (exchanged_apart n x t)

pub elements_in_turn : {c : ℕ} {h : Phase} {ks : List (ℕ × Comm)} → InTurn c h ks → ElementsInTurn c h (linearized ks)
elements_in_turn turn_end = no_more
elements_in_turn (turn_out {x = x} g) = exchanged_turns x (elements_in_turn g)
elements_in_turn (turn_in e g) = receives e (elements_in_turn g)
elements_in_turn (turn_fin g) = finishes (elements_in_turn g)
elements_in_turn (turn_stp g) = stops (elements_in_turn g)
elements_in_turn {c} (turn_other {n = n} {k = Out d x} e g) = exchanged_apart c d e n x (elements_in_turn g)
elements_in_turn (turn_other {k = In d x} e g) = other e (elements_in_turn g)
elements_in_turn (turn_other {k = Fin d} e g) = other e (elements_in_turn g)
elements_in_turn (turn_other {k = Stp d} e g) = other e (elements_in_turn g)

-- each message that passes is got as it was sent
abbrev pub IsMet : Element → Type 0
IsMet (Exchanged n m c x y) = message x ≡ message y
IsMet x = Unit {0}

abbrev pub AreMet : List Element → Type 0
AreMet [] = Unit {0}
AreMet (i ∷ l) = IsMet i × AreMet l

without_met : (c : ℕ) (l : List Element) → AreMet l → AreMet (without c l)
without_met c [] h = tt
without_met c (Exchanged s r d y z ∷ l) h = (h.0, without_met c l h.1)
without_met c (Stopped s d ∷ l) h = (tt, without_met c l h.1)
without_met c (Received s d y ∷ l) h = (tt, without_met c l h.1)
without_met c (Finished s d ∷ l) h = at (d == c) (without_met c l h.1)
  where
    at : (b : Bool) → AreMet (without c l) → AreMet (if b then l else Finished s d ∷ without c l)
    at true m = h.1
    at false m = (tt, m)

exchanged_met : {c n : ℕ} (x : Datum) {w : List ℕ} {l : List Element} → message x ≡ w → ElementsInTurn c (Offered n w) l → AreMet l → AreMet (exchanged n c x l)
exchanged_met x q no_more h = tt
exchanged_met {c} {n} x q (receives {m = m} {y = y} {l = l} e t) h = subst AreMet (sym (exchanged_at n c x m y l)) (q ∙ e, without_met c l h.1)
exchanged_met x q (stops t) h = (tt, exchanged_met x q t h.1)
exchanged_met {c} {n} x q (other {i = i} {l = l} e t) h = subst AreMet (sym (exchanged_past n c x i l e)) (h.0, exchanged_met x q t h.1)

pub all_met : (ks : List (ℕ × Comm)) → ((c : ℕ) → (h : Phase) × InTurn c h ks) → AreMet (linearized ks)
all_met [] g = tt
all_met ((n, Out c x) ∷ ks) g = exchanged_met x refl (elements_in_turn (after_out (g c).1 refl)) (all_met ks (λ d. turn_tail (g d).1))
all_met ((n, In c y) ∷ ks) g = (tt, all_met ks (λ d. turn_tail (g d).1))
all_met ((n, Fin c) ∷ ks) g = (tt, all_met ks (λ d. turn_tail (g d).1))
all_met ((n, Stp c) ∷ ks) g = (tt, all_met ks (λ d. turn_tail (g d).1))
