-- An output that is a first move has a message.
use Rattle.std.proofs.Common.{◌≡◌, ℕ, zero, suc, ◌⊎◌, inl, inr, Bool, true, false, List, [], ◌∷◌, ◌++◌, refl, sym, ap, ◌∙◌, arith, Option, Some, None, is_some, if◌then◌else◌, ◌==◌, eq-eqb}
use Rattle.std.specs.List.{Contains}
use Rattle.std.proofs.lemmas.List.Elements.{Contains-append_cases}
use Rattle.std.specs.Option.{option_or}
use Rattle.vc_process.specs.declared.datum.Datum.{Datum}
use Rattle.vc_occam.specs.declared.moves.Move.{Move}
use Rattle.vc_occam.specs.declared.moves.Move.TheVariants.{Offer, Want, Choose, Stopch, Inner, Quiet}
use Rattle.vc_occam.specs.First.{own, joined, meetings, first_moves, choices, all_decided}
use Rattle.vc_occam.specs.Remains.{Rest, Fresh, Then, Turns, Beside}
use Rattle.vc_occam.specs.States.{State, output_at, sent_by, carried}
use Rattle.vc_process.specs.Syntax.{SKIP, Assign, Output, Input, StopChan, SEQ, PAR, IF, WHILE, COUNT, ALT, no_parts, Guards, no_guards, guard}
use Rattle.vc_process.specs.Values.{Store, datum_of}

none : {X : Type 0} (y : X) → Contains {X = X} [] y → ⊥
none y (k, l, h) = omega arith

only : {X : Type 0} (x y : X) → Contains (x ∷ []) y → x ≡ y
only x y (zero, l, h) = h
only x y (suc k, l, h) = absurd (omega arith)

head_or_tail : {X : Type 0} (x : X) (xs : List X) (y : X) → Contains (x ∷ xs) y → (x ≡ y) ⊎ Contains xs y
head_or_tail x xs y (zero, l, h) = inl h
head_or_tail x xs y (suc k, l, h) = inr (k, omega arith, h)

either : (x y : Option Datum) → (is_some x ≡ true) ⊎ (is_some y ≡ true) → is_some (option_or x y) ≡ true
either (Some x) y h = refl
either None y (inl h) = absurd (cc)
either None y (inr h) = h

-- the site of a move's output
abbrev sender : Move → Option ℕ
sender (Offer i c) = Some i
sender (Inner i j k c) = Some i
sender m = None

-- a move of the list outputs at site i
abbrev Outputs : List Move → ℕ → Type 0
Outputs ms i = (m : Move) × Contains ms m × (sender m ≡ Some i)

front : {X : Type 0} (x : X) (xs : List X) → Contains (x ∷ xs) x
front x xs = (0, omega arith, refl)

behind : {X : Type 0} (x : X) (xs : List X) (y : X) → Contains xs y → Contains (x ∷ xs) y
behind x xs y (k, l, h) = (suc k, omega arith, h)

further : (x : Move) (ms : List Move) (i : ℕ) → Outputs ms i → Outputs (x ∷ ms) i
further x ms i (m, h, e) = (m, behind x ms m h, e)

not_one : {A : Type 0} (x m : Move) (i : ℕ) → sender x ≡ None → x ≡ m → sender m ≡ Some i → A
not_one x m i e same h = let f : None ≡ Some i = sym e ∙ ap sender same ∙ h in absurd (cc)

alone : {A : Type 0} (x m : Move) (i : ℕ) → sender x ≡ None → Contains (x ∷ []) m → sender m ≡ Some i → A
alone x m i e h = not_one x m i e (only x m h)

no_guard : {A : Type 0} (b : Bool) (x m : Move) (ms : List Move) (i : ℕ) → sender x ≡ None → (Contains ms m → A) → Contains ((if b then (x ∷ []) else []) ++ ms) m → sender m ≡ Some i → A
no_guard true x m ms i e go h s = elim (head_or_tail x ms m h) [ inl t ↦ not_one x m i e t s | inr t ↦ go t ]
no_guard false x m ms i e go h s = go h

no_choice : {A : Type 0} (j k : ℕ) (gs : Guards) (e : Store) (m : Move) (i : ℕ) → Contains (choices j k gs e) m → sender m ≡ Some i → A
no_choice j k no_guards e m i h s = absurd (none m h)
no_choice j k (guard b d v p gs) e m i h s = no_guard _ (Choose j k d) m (choices j (suc k) gs e) i refl (λ t. no_choice j (suc k) gs e m i t s) h s

no_alt : {A : Type 0} (b : Bool) (ms : List Move) (m : Move) → (Contains ms m → A) → Contains (if b then ms else []) m → A
no_alt true ms m go h = go h
no_alt false ms m go h = absurd (none m h)

fresh_output : (o : Option Datum) (m : Move) (i j d : ℕ) → Contains ((if is_some o then Offer j d else Quiet j) ∷ []) m → sender m ≡ Some i → is_some (if i == j then o else None) ≡ true
fresh_output (Some x) m i j d h s =
    let f : Some j ≡ Some i = ap sender (only (Offer j d) m h) ∙ s in
    let g : i ≡ j = cc in ap (λ b. is_some (if b then Some x else None)) (eq-eqb i j g)
fresh_output None m i j d h s = alone (Quiet j) m i refl h s

own_sends : (r : Rest) (e : Store) (m : Move) (i : ℕ) → Contains (own r e) m → sender m ≡ Some i → is_some (output_at i r e) ≡ true
own_sends (Fresh (Output j d a)) e m i h s = fresh_output (datum_of a e) m i j d h s
own_sends (Fresh (Input j d v)) e m i h s = alone (Want j d) m i refl h s
own_sends (Fresh (StopChan j d)) e m i h s = alone (Stopch j d) m i refl h s
own_sends (Fresh (ALT j gs)) e m i h s = no_alt (all_decided gs e) (choices j 0 gs e) m (λ t. no_choice j 0 gs e m i t s) h
own_sends (Fresh (SKIP j)) e m i h s = alone (Quiet j) m i refl h s
own_sends (Fresh (Assign j v a)) e m i h s = alone (Quiet j) m i refl h s
own_sends (Fresh (SEQ j no_parts)) e m i h s = alone (Quiet j) m i refl h s
own_sends (Fresh (PAR j no_parts)) e m i h s = alone (Quiet j) m i refl h s
own_sends (Fresh (IF j bs)) e m i h s = alone (Quiet j) m i refl h s
own_sends (Fresh (WHILE j b p)) e m i h s = alone (Quiet j) m i refl h s
own_sends (Fresh (COUNT j v a n p)) e m i h s = alone (Quiet j) m i refl h s
own_sends (Then r ps) e m i h s = own_sends r e m i h s
own_sends (Turns r v b n p) e m i h s = own_sends r e m i h s
own_sends (Beside mine r q) e m i h s =
    either (output_at i r e) (output_at i q e) (elim (Contains-append_cases (own r e) (own q e) m h) [ inl l ↦ inl (own_sends r e m i l s) | inr t ↦ inr (own_sends q e m i t s) ])
own_sends r e m i h s = absurd (none m h)

first_or : (b : Bool) (x : Move) (ms : List Move) (m : Move) → Contains ((if b then (x ∷ []) else []) ++ ms) m → (x ≡ m) ⊎ Contains ms m
first_or true x ms m h = head_or_tail x ms m h
first_or false x ms m h = inr h

met : (i c : ℕ) (ms : List Move) (m : Move) → Contains (meetings i c ms) m → sender m ≡ Some i
met i c [] m h = absurd (none m h)
met i c (Want j d ∷ ms) m h = elim (first_or (c == d) (Inner i j None c) (meetings i c ms) m h) [ inl e ↦ ap sender (sym e) | inr t ↦ met i c ms m t ]
met i c (Choose j k d ∷ ms) m h = elim (first_or (c == d) (Inner i j (Some k) c) (meetings i c ms) m h) [ inl e ↦ ap sender (sym e) | inr t ↦ met i c ms m t ]
met i c (Offer j d ∷ ms) m h = met i c ms m h
met i c (Stopch j d ∷ ms) m h = met i c ms m h
met i c (Inner j k l d ∷ ms) m h = met i c ms m h
met i c (Quiet j ∷ ms) m h = met i c ms m h

-- an output that begins, or meets an input, is one of a site's own
abbrev FromOwn : List Move → Move → Type 0
FromOwn ms m = (i : ℕ) → sender m ≡ Some i → Outputs ms i

offered_or : (b : Bool) (i c : ℕ) (xs ys ms : List Move) (m : Move) → (Contains xs m → sender m ≡ Some i) → (Contains ys m → FromOwn ms m) → Contains ((if b then xs else (Offer i c ∷ [])) ++ ys) m → FromOwn (Offer i c ∷ ms) m
offered_or true i c xs ys ms m from go h j e = elim (Contains-append_cases xs ys m h) [
  | inl t ↦ (Offer i c, front (Offer i c) ms, sym (from t) ∙ e)
  | inr t ↦ further (Offer i c) ms j (go t j e)
]
offered_or false i c xs ys ms m from go h j e = elim (head_or_tail (Offer i c) ys m h) [
  | inl t ↦ (Offer i c, front (Offer i c) ms, ap sender t ∙ e)
  | inr t ↦ further (Offer i c) ms j (go t j e)
]

alone_or : (b : Bool) (x : Move) (ys ms : List Move) (m : Move) → (Contains ys m → FromOwn ms m) → Contains ((if b then [] else (x ∷ [])) ++ ys) m → FromOwn (x ∷ ms) m
alone_or true x ys ms m go h i e = further x ms i (go h i e)
alone_or false x ys ms m go h i e = elim (head_or_tail x ys m h) [ inl t ↦ (x, front x ms, ap sender t ∙ e) | inr t ↦ further x ms i (go t i e) ]

joined_from : (inside : ℕ → Bool) (all ms : List Move) (m : Move) → Contains (joined inside all ms) m → FromOwn ms m
joined_from inside all [] m h = absurd (none m h)
joined_from inside all (Offer i c ∷ ms) m h = offered_or (inside c) i c (meetings i c all) (joined inside all ms) ms m (met i c all m) (λ t. joined_from inside all ms m t) h
joined_from inside all (Want i c ∷ ms) m h = alone_or (inside c) (Want i c) (joined inside all ms) ms m (λ t. joined_from inside all ms m t) h
joined_from inside all (Choose i k c ∷ ms) m h = alone_or (inside c) (Choose i k c) (joined inside all ms) ms m (λ t. joined_from inside all ms m t) h
joined_from inside all (Stopch i c ∷ ms) m h = alone_or false (Stopch i c) (joined inside all ms) ms m (λ t. joined_from inside all ms m t) h
joined_from inside all (Inner i j k c ∷ ms) m h = alone_or false (Inner i j k c) (joined inside all ms) ms m (λ t. joined_from inside all ms m t) h
joined_from inside all (Quiet i ∷ ms) m h = alone_or false (Quiet i) (joined inside all ms) ms m (λ t. joined_from inside all ms m t) h

sends : (inside : ℕ → Bool) (s : State) (m : Move) (i : ℕ) → Contains (first_moves inside s.rest s.store) m → sender m ≡ Some i → is_some (output_at i s.rest s.store) ≡ true
sends inside s m i h e =
    let f = joined_from inside (own s.rest s.store) (own s.rest s.store) m h i e in
    own_sends s.rest s.store f.0 i f.1 f.2

has_message : (o : Option Datum) → is_some o ≡ true → carried o ≡ None → ⊥
has_message (Some x) h e = absurd (cc)
has_message None h e = absurd (cc)

pub offer_sends : (inside : ℕ → Bool) (s : State) (i c : ℕ) → Contains (first_moves inside s.rest s.store) (Offer i c) → sent_by s (Offer i c) ≡ None → ⊥
offer_sends inside s i c h = has_message (output_at i s.rest s.store) (sends inside s (Offer i c) i h refl)

pub meeting_sends : (inside : ℕ → Bool) (s : State) (i j : ℕ) (k : Option ℕ) (c : ℕ) → Contains (first_moves inside s.rest s.store) (Inner i j k c) → sent_by s (Inner i j k c) ≡ None → ⊥
meeting_sends inside s i j k c h = has_message (output_at i s.rest s.store) (sends inside s (Inner i j k c) i h refl)
