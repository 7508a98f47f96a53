-- What the word for a blocked part says of what remains of its process.
use Rattle.std.proofs.Common.{◌≡◌, ℕ, suc, Bool, true, false, ◌&&◌, ◌≢◌, refl, ap, sym, ◌∙◌, subst, List, [], ◌∷◌, ◌++◌, Option, Some, None, inl, inr}
use Rattle.std.specs.List.{Contains}
use Rattle.std.specs.Prelude.{is_some, if◌then◌else◌}
use Rattle.std.proofs.lemmas.List.Elements.{Contains-append_cases, Contains-append_left, Contains-append_right}
use Rattle.vc_occam.specs.BlockedParts.{blocked, blocked_fresh, open_guards, or_closed}
use Rattle.vc_occam.specs.First.{all_decided, choices, is_true, own}
use Rattle.vc_occam.specs.Remains.{Rest, Done, Stopped, Fresh, Finishing, Getting, Then, Turns, Beside, GuardAt, first, later, Step, does_choose, waits_choose}
use Rattle.vc_occam.specs.States.{input, output, waiting}
use Rattle.vc_occam.specs.Traces.{Comm, Decided}
use Rattle.vc_occam.specs.declared.blocked.Blocked.{Blocked}
use Rattle.vc_occam.specs.declared.blocked.Blocked.TheVariants as at
use Rattle.vc_occam.specs.declared.moves.Move.{Move}
use Rattle.vc_occam.specs.declared.moves.Move.TheVariants as move
use Rattle.vc_process.proofs.Lists.{at_front, none, only}
use Rattle.vc_process.specs.Syntax.{Proc, SKIP, STOP, Assign, Output, Input, StopChan, SEQ, PAR, IF, WHILE, COUNT, ALT, no_parts, part, Test, Guards, no_guards, guard}
use Rattle.vc_process.specs.Usage.{Set}
use Rattle.vc_process.specs.Values.{Store, datum_of, holds}
use Rattle.vc_accepted.specs.Alone.{GoesAlone}
use Rattle.vc_waits.specs.Meaning.{HasNoParts, HasStopped, IsSo, WordsAreSo}

-- beside another part
so_left : (mine : Set) (r q : Rest) (e : Store) (b : Blocked) → IsSo r e b → IsSo (Beside mine r q) e b
so_left mine r q e (at.Output i c) (inl h) = inl (Contains-append_left (own r e) (own q e) (move.Offer i c) h)
so_left mine r q e (at.Output i c) (inr h) = inr (Contains-append_left (waiting r) (waiting q) (output i c) h)
so_left mine r q e (at.Input i c) (inl h) = inl (Contains-append_left (own r e) (own q e) (move.Want i c) h)
so_left mine r q e (at.Input i c) (inr h) = inr (Contains-append_left (waiting r) (waiting q) (input i c) h)
so_left mine r q e (at.Guard i c) (k, h) = (k, Contains-append_left (own r e) (own q e) (move.Choose i k c) h)
so_left mine r q e b h = tt

so_right : (mine : Set) (r q : Rest) (e : Store) (b : Blocked) → IsSo q e b → IsSo (Beside mine r q) e b
so_right mine r q e (at.Output i c) (inl h) = inl (Contains-append_right (own r e) (own q e) (move.Offer i c) h)
so_right mine r q e (at.Output i c) (inr h) = inr (Contains-append_right (waiting r) (waiting q) (output i c) h)
so_right mine r q e (at.Input i c) (inl h) = inl (Contains-append_right (own r e) (own q e) (move.Want i c) h)
so_right mine r q e (at.Input i c) (inr h) = inr (Contains-append_right (waiting r) (waiting q) (input i c) h)
so_right mine r q e (at.Guard i c) (k, h) = (k, Contains-append_right (own r e) (own q e) (move.Choose i k c) h)
so_right mine r q e b h = tt

-- a guard that is shown is open, and can be taken
abbrev IsOpenAt : ℕ → ℕ → Guards → Store → Blocked → Type 0
IsOpenAt i k gs e b = (j : ℕ) × (c : ℕ) × (b ≡ at.Guard i c) × Contains (choices i k gs e) (move.Choose i j c)

open_front : (i k c : ℕ) (t : Bool) (ms : List Move) (b : Blocked) → Contains (if t then (at.Guard i c ∷ []) else []) b → (b ≡ at.Guard i c) × Contains ((if t then (move.Choose i k c ∷ []) else []) ++ ms) (move.Choose i k c)
open_front i k c true ms b h = (sym (only (at.Guard i c) b h), at_front (move.Choose i k c) ms)
open_front i k c false ms b h = absurd (none b h)

guards_open : (i k : ℕ) (gs : Guards) (e : Store) (b : Blocked) → Contains (open_guards i gs e) b → IsOpenAt i k gs e b
guards_open i k no_guards e b h = absurd (none b h)
guards_open i k (guard t c v p gs) e b h =
    let one = if is_true (holds t e) then (at.Guard i c ∷ []) else [] in
    let mine = if is_true (holds t e) then (move.Choose i k c ∷ []) else [] in
    elim (Contains-append_cases one (open_guards i gs e) b h) [
      | inl here ↦ (let o = open_front i k c (is_true (holds t e)) (choices i (suc k) gs e) b here in (k, c, o.0, o.1))
      | inr there ↦ (let o = guards_open i (suc k) gs e b there in (o.0, o.1, o.2, Contains-append_right mine (choices i (suc k) gs e) (move.Choose i o.0 o.1) o.3))
    ]

-- an ALT without a fault in a condition
or_closed_so : (r : Rest) (e : Store) (i : ℕ) (bs : List Blocked) (b : Blocked) → ((x : Blocked) → Contains bs x → IsSo r e x) → Contains (or_closed i bs) b → IsSo r e b
or_closed_so r e i [] b f h = subst (IsSo r e) (only (at.Closed i) b h) tt
or_closed_so r e i (x ∷ bs) b f h = f b h

-- an output, and an ALT, by what their values and conditions are
output_so : (i c : ℕ) (b : Blocked) (t : Bool) (r : Rest) (e : Store) → own r e ≡ (if t then move.Offer i c else move.Quiet i) ∷ [] → Contains (if t then (at.Output i c ∷ []) else []) b → IsSo r e b
output_so i c b true r e m h = subst (IsSo r e) (only (at.Output i c) b h) (inl (subst (λ ms. Contains ms (move.Offer i c)) (sym m) (at_front (move.Offer i c) [])))
output_so i c b false r e m h = absurd (none b h)

alt_so : (i : ℕ) (gs : Guards) (b : Blocked) (t : Bool) (r : Rest) (e : Store) → own r e ≡ (if t then choices i 0 gs e else []) → Contains (if t then or_closed i (open_guards i gs e) else (at.Undecided i ∷ [])) b → IsSo r e b
alt_so i gs b true r e m h = or_closed_so r e i (open_guards i gs e) b (λ x k.
    let o = guards_open i 0 gs e x k in
    subst (IsSo r e) (sym o.2) (o.0, subst (λ ms. Contains ms (move.Choose i o.0 o.1)) (sym m) o.3)) h
alt_so i gs b false r e m h = subst (IsSo r e) (only (at.Undecided i) b h) tt

fresh_so : (p : Proc) (e : Store) (b : Blocked) → Contains (blocked_fresh p e) b → IsSo (Fresh p) e b
fresh_so (STOP i) e b h = subst (IsSo (Fresh (STOP i)) e) (only (at.Stop i) b h) tt
fresh_so (Output i c a) e b h = output_so i c b (is_some (datum_of a e)) (Fresh (Output i c a)) e refl h
fresh_so (Input i c v) e b h = subst (IsSo (Fresh (Input i c v)) e) (only (at.Input i c) b h) (inl (at_front (move.Want i c) []))
fresh_so (ALT i gs) e b h = alt_so i gs b (all_decided gs e) (Fresh (ALT i gs)) e refl h
fresh_so p e b h = absurd (none b h)

so : (r : Rest) (e : Store) (b : Blocked) → Contains (blocked r e) b → IsSo r e b
so Done e b h = absurd (none b h)
so (Stopped i) e b h = subst (IsSo (Stopped i) e) (only (at.Stopped i) b h) tt
so (Fresh p) e b h = fresh_so p e b h
so (Finishing i c) e b h = subst (IsSo (Finishing i c) e) (only (at.Output i c) b h) (inr (at_front (output i c) []))
so (Getting i c v) e b h = subst (IsSo (Getting i c v) e) (only (at.Input i c) b h) (inr (at_front (input i c) []))
so (Then r ps) e b h = so_then r ps e b (so r e b h)
  where
    so_then : (r : Rest) (ps : _) (e : Store) (b : Blocked) → IsSo r e b → IsSo (Then r ps) e b
    so_then r ps e (at.Output i c) h = h
    so_then r ps e (at.Input i c) h = h
    so_then r ps e (at.Guard i c) h = h
    so_then r ps e (at.Closed i) h = tt
    so_then r ps e (at.Undecided i) h = tt
    so_then r ps e (at.Stop i) h = tt
    so_then r ps e (at.Stopped i) h = tt
so (Turns r v x n p) e b h = so_turns r v x n p e b (so r e b h)
  where
    so_turns : (r : Rest) (v : ℕ) (x : _) (n : ℕ) (p : Proc) (e : Store) (b : Blocked) → IsSo r e b → IsSo (Turns r v x n p) e b
    so_turns r v x n p e (at.Output i c) h = h
    so_turns r v x n p e (at.Input i c) h = h
    so_turns r v x n p e (at.Guard i c) h = h
    so_turns r v x n p e (at.Closed i) h = tt
    so_turns r v x n p e (at.Undecided i) h = tt
    so_turns r v x n p e (at.Stop i) h = tt
    so_turns r v x n p e (at.Stopped i) h = tt
so (Beside mine r q) e b h = elim (Contains-append_cases (blocked r e) (blocked q e) b h) [
  | inl k ↦ so_left mine r q e b (so r e b k)
  | inr k ↦ so_right mine r q e b (so q e b k)
]

-- an ALT that has stopped has a condition that is a fault, or no open guard
undecided_behind : (o : Option Bool) (t : Bool) → (is_some o && t) ≡ false → o ≢ None → t ≡ false
undecided_behind None t h n = absurd (n refl)
undecided_behind (Some x) t h n = h

not_decided : (gs : Guards) (e : Store) → all_decided gs e ≡ false → Decided gs e → ⊥
not_decided no_guards e h d = absurd (let z : true ≡ false = h in cc)
not_decided (guard b c v p gs) e h d = not_decided gs e (undecided_behind (holds b e) (all_decided gs e) h d.0) d.1

nothing_behind : (xs ys : List Blocked) → xs ++ ys ≡ [] → ys ≡ []
nothing_behind [] ys h = h
nothing_behind (x ∷ xs) ys h = absurd (let z : x ∷ (xs ++ ys) ≡ [] = h in cc)

no_open : (i : ℕ) {gs : Guards} (e : Store) {k : ℕ} {b : Test} {c v : ℕ} {p : Proc} → open_guards i gs e ≡ [] → GuardAt gs k b c v p → holds b e ≡ Some true → ⊥
no_open i e h (first {b = b} {c = c} {gs = gs}) t =
    let z : at.Guard i c ∷ open_guards i gs e ≡ [] = ap (λ (o : Option Bool). (if is_true o then (at.Guard i c ∷ []) else []) ++ open_guards i gs e) (sym t) ∙ h in
    absurd (let y : at.Guard i c ∷ open_guards i gs e ≡ [] = z in cc)
no_open i e h (later {b = b} {c = c} {gs = gs} g) t = no_open i e (nothing_behind (if is_true (holds b e) then (at.Guard i c ∷ []) else []) (open_guards i gs e) h) g t

closed_stops : (i : ℕ) (gs : Guards) (e : Store) (b : Blocked) (bs : List Blocked) → open_guards i gs e ≡ bs → Contains (or_closed i bs) b → HasStopped b → {k : ℕ} {t : Test} {c v : ℕ} {p : Proc} → GuardAt gs k t c v p → holds t e ≡ Some true → ⊥
closed_stops i gs e b [] none_open h stop g t = no_open i e none_open g t
closed_stops i gs e b (x ∷ bs) some h stop g t =
    let o = guards_open i 0 gs e b (subst (λ ys. Contains ys b) (sym some) h) in
    subst HasStopped o.2 stop

alt_stops : (i : ℕ) (gs : Guards) (e : Store) (b : Blocked) (t : Bool) → all_decided gs e ≡ t → Contains (if t then or_closed i (open_guards i gs e) else (at.Undecided i ∷ [])) b → HasStopped b → Decided gs e →
    {k : ℕ} {x : Test} {c v : ℕ} {p : Proc} → GuardAt gs k x c v p → holds x e ≡ Some true → ⊥
alt_stops i gs e b true is h stop d g w = closed_stops i gs e b (open_guards i gs e) refl h stop g w
alt_stops i gs e b false is h stop d g w = not_decided gs e is d

output_stops : (i c : ℕ) (b : Blocked) (t : Bool) → Contains (if t then (at.Output i c ∷ []) else []) b → HasStopped b → ⊥
output_stops i c b true h stop = subst HasStopped (sym (only (at.Output i c) b h)) stop
output_stops i c b false h stop = none b h

stops : (p : Proc) (e : Store) (b : Blocked) → Contains (blocked_fresh p e) b → HasStopped b → (i : ℕ) (d : _) (cs : List Comm) (q : Rest) (f : Store) → Step (Fresh p) e i d cs q f → ⊥
stops (STOP i) e b h stop j d cs q f st = elim st [ ]
stops (Output i c a) e b h stop j d cs q f st = output_stops i c b (is_some (datum_of a e)) h stop
stops (Input i c v) e b h stop j d cs q f st = subst HasStopped (sym (only (at.Input i c) b h)) stop
stops (ALT i gs) e b h stop j d cs q f (does_choose decided g w x) = alt_stops i gs e b (all_decided gs e) refl h stop decided g w
stops (ALT i gs) e b h stop j d cs q f (waits_choose decided g w) = alt_stops i gs e b (all_decided gs e) refl h stop decided g w
stops p e b h stop j d cs q f st = none b h

-- what has no line goes on by itself: an ALT always has one, and an output without one is of a fault, and stops by a step of its own
some_closed : (i : ℕ) (bs : List Blocked) → or_closed i bs ≡ [] → ⊥
some_closed i [] h = absurd (let z : at.Closed i ∷ [] ≡ [] = h in cc)
some_closed i (b ∷ bs) h = absurd (let z : b ∷ bs ≡ [] = h in cc)

output_goes : (i c : ℕ) (t : Bool) → (if t then (at.Output i c ∷ []) else []) ≡ [] → (m : Move) × GoesAlone m × Contains ((if t then move.Offer i c else move.Quiet i) ∷ []) m
output_goes i c true h = absurd (let z : at.Output i c ∷ [] ≡ [] = h in cc)
output_goes i c false h = (move.Quiet i, tt, at_front (move.Quiet i) [])

alt_has_one : (i : ℕ) (gs : Guards) (e : Store) (t : Bool) → (if t then or_closed i (open_guards i gs e) else (at.Undecided i ∷ [])) ≡ [] → ⊥
alt_has_one i gs e true h = some_closed i (open_guards i gs e) h
alt_has_one i gs e false h = absurd (let z : at.Undecided i ∷ [] ≡ [] = h in cc)

goes : (p : Proc) (e : Store) → blocked_fresh p e ≡ [] → HasNoParts p → (m : Move) × GoesAlone m × Contains (own (Fresh p) e) m
goes (STOP i) e h n = absurd (let z : at.Stop i ∷ [] ≡ [] = h in cc)
goes (Output i c a) e h n = output_goes i c (is_some (datum_of a e)) h
goes (Input i c v) e h n = absurd (let z : at.Input i c ∷ [] ≡ [] = h in cc)
goes (ALT i gs) e h n = absurd (alt_has_one i gs e (all_decided gs e) h)
goes (StopChan i c) e h n = (move.Stopch i c, tt, at_front (move.Stopch i c) [])
goes (SKIP i) e h n = (move.Quiet i, tt, at_front (move.Quiet i) [])
goes (Assign i v a) e h n = (move.Quiet i, tt, at_front (move.Quiet i) [])
goes (SEQ i no_parts) e h n = (move.Quiet i, tt, at_front (move.Quiet i) [])
goes (SEQ i (part p ps)) e h n = absurd n
goes (PAR i no_parts) e h n = (move.Quiet i, tt, at_front (move.Quiet i) [])
goes (PAR i (part p ps)) e h n = absurd n
goes (IF i bs) e h n = (move.Quiet i, tt, at_front (move.Quiet i) [])
goes (WHILE i b p) e h n = (move.Quiet i, tt, at_front (move.Quiet i) [])
goes (COUNT i v a n p) e h m = (move.Quiet i, tt, at_front (move.Quiet i) [])

pub words_are_so : WordsAreSo
words_are_so = record { waits = so; stopped = stops; others = goes }
