-- Each move that is listed can be made.
use Rattle.std.proofs.Common.{◌≡◌, ◌≢◌, ℕ, zero, suc, ℤ, pos, negsuc, ◌+◌, ◌<◌, Bool, true, false, refl, sym, ap, ◌∙◌, subst, List, [], ◌∷◌, ◌++◌, Option, Some, None, ◌⊎◌, inl, inr, arith, if◌then◌else◌}
use Rattle.std.proofs.lemmas.Bool.{and_parts}
use Rattle.std.proofs.lemmas.Bool.Decides.{nat_tests}
use Rattle.std.proofs.lemmas.List.Elements.{Contains-append_left, Contains-append_right, Contains-append_cases}
use borrow.Author.Count.{below_more}
use Rattle.std.specs.Prelude.{is_some, ◌+ℤ◌, ◌==◌}
use Rattle.std.specs.List.{Contains}
use Rattle.vc_occam.specs.declared.answer.Answer.{Answer}
use Rattle.vc_process.specs.declared.datum.Datum.{Datum}
use Rattle.vc_occam.specs.SiteActions.{SiteAction}
use Rattle.vc_occam.specs.SiteActions as action
use Rattle.vc_occam.specs.declared.moves.Move.{Move}
use Rattle.vc_occam.specs.declared.moves.Move.TheVariants.{Offer, Want, Choose, Stopch, Inner, Quiet}
use Rattle.vc_process.specs.Syntax.{Exp, Test, Given, Proc, SKIP, Assign, Output, Input, StopChan, SEQ, PAR, IF, WHILE, COUNT, ALT, Procs, no_parts, Guards, no_guards, guard}
use Rattle.vc_process.specs.Values.{Store, value_of, holds, datum_of, within}
use Rattle.vc_process.specs.Usage.{Set}
use Rattle.vc_process.specs.Messages.{message, received}
use Rattle.vc_occam.specs.Traces.{Comm, Out, Fin, In, Stp, Decided}
use Rattle.vc_occam.specs.Remains.{Rest, Done, Fresh, Then, Turns, Beside, then_on, turns_on, index_on, beside_on, GuardAt, first, later, Step, does_skip, does_empty_seq, does_empty_par, does_assign, faults_assign, faults_out, does_if, does_turn, does_leave, faults_while, does_count, does_count_none, faults_count, does_offer, does_input, waits_input, does_stop, does_choose, waits_choose, in_then, in_turns, in_left, in_right}
use Rattle.vc_occam.specs.First.{all_decided, choices, own, meetings, joined}
use Rattle.vc_occam.specs.Private.Frames.{Able}
use Rattle.vc_occam.specs.MoveSites.{site_of}
use Rattle.vc_occam.specs.Private.MoveSites.{action_for, action_on, partner}
use Rattle.vc_occam.specs.Laws.{ListedMovesCanBeMade}
use Rattle.vc_occam.specs.Sites.{OwnSites}
use Rattle.vc_occam.specs.States.{IsAwaited, State, Does, meeting, output_at, carried, sent_by, bytes_or_none, came, doing, output, waiting}
use Rattle.vc_process.specs.ProcessStep.{Wants, Chooses}
use Rattle.vc_process.proofs.Lists.{only, none, at_front, behind, front_or}
use Rattle.vc_occam.proofs.Doers.{sent_value}
use Rattle.vc_occam.proofs.GoingOn.{finishes, receives}
use Rattle.vc_occam.proofs.Insertion.{is_inserted}
use Rattle.vc_occam.proofs.StepWaits.{step_waits}

-- a process that hasn't begun stands in what remains
pub data Stands (p : Proc) : Rest → Type 0 where
  itself : Stands p (Fresh p)
  within_then : {r : Rest} {ps : Procs} → Stands p r → Stands p (Then r ps)
  within_turns : {r : Rest} {v : ℕ} {b : ℤ} {n : ℕ} {q : Proc} → Stands p r → Stands p (Turns r v b n q)
  on_left : {mine : Set} {r q : Rest} → Stands p r → Stands p (Beside mine r q)
  on_right : {mine : Set} {r q : Rest} → Stands p q → Stands p (Beside mine r q)

-- a move is that of a process that hasn't begun
own_stands : (r : Rest) (e : Store) (m : Move) → Contains (own r e) m → (p : Proc) × Stands p r × Contains (own (Fresh p) e) m
own_stands (Fresh p) e m h = (p, itself, h)
own_stands (Then r ps) e m h = let n = own_stands r e m h in (n.0, within_then n.1, n.2)
own_stands (Turns r v b k p) e m h = let n = own_stands r e m h in (n.0, within_turns n.1, n.2)
own_stands (Beside mine r q) e m h = elim (Contains-append_cases (own r e) (own q e) m h) [
  | inl k ↦ let n = own_stands r e m k in (n.0, on_left n.1, n.2)
  | inr k ↦ let n = own_stands q e m k in (n.0, on_right n.1, n.2)
]
own_stands r e m h = absurd (none m h)

-- what a process that hasn't begun does, what remains does with it
lift : {p : Proc} {r r' : Rest} {e e' : Store} {i : ℕ} {d : SiteAction} {m : List Comm} → Stands p r → Step (Fresh p) e i d m r' e' → (q : Rest) × (f : Store) × Step r e i d m q f
lift {r' = r'} {e' = e'} itself st = (r', e', st)
lift (within_then {ps = ps} s) st = let n = lift s st in (then_on n.0 ps, n.1, in_then n.2)
lift (within_turns {v = v} {b = b} {n = k} {q = q} s) st = let n = lift s st in (turns_on n.0 v b k q, index_on n.0 v b k n.1, in_turns n.2)
lift (on_left {mine = mine} {q = q} s) st = let n = lift s st in (beside_on mine n.0 q, n.1, in_left n.2)
lift (on_right {mine = mine} {r = r} s) st = let n = lift s st in (beside_on mine r n.0, n.1, in_right n.2)

-- how a process that hasn't begun begins with a move
abbrev pub Begins : Move → Proc → Store → Type 0
Begins (Quiet i) p e = (r : Rest) × (f : Store) × Step (Fresh p) e i action.Quiet [] r f
Begins (Offer i c) p e = (a : Given) × (x : Datum) × (p ≡ Output i c a) × (datum_of a e ≡ Some x)
Begins (Want i c) p e = (v : ℕ) × (p ≡ Input i c v)
Begins (Choose i k c) p e = (gs : Guards) × (b : Test) × (v : ℕ) × (q : Proc) × (p ≡ ALT i gs) × Decided gs e × GuardAt gs k b c v q × (holds b e ≡ Some true)
Begins (Stopch i c) p e = p ≡ StopChan i c
Begins (Inner i j k c) p e = ⊥

quiet : {p : Proc} {e : Store} {r : Rest} {f : Store} {i : ℕ} {m : Move} → Contains (Quiet i ∷ []) m → Step (Fresh p) e i action.Quiet [] r f → Begins m p e
quiet {p} {e} {r} {f} {i} {m} h st = subst (λ x. Begins x p e) (only (Quiet i) m h) (r, f, st)

assigns : (i v : ℕ) (a : Given) (e : Store) (m : Move) (o : Option Datum) → datum_of a e ≡ o → Contains (Quiet i ∷ []) m → Begins m (Assign i v a) e
assigns i v a e m (Some x) h k = quiet k (does_assign h)
assigns i v a e m None h k = quiet k (faults_assign h)

offers : (i c : ℕ) (a : Given) (e : Store) (m : Move) (o : Option Datum) → datum_of a e ≡ o → Contains ((if is_some o then Offer i c else Quiet i) ∷ []) m → Begins m (Output i c a) e
offers i c a e m (Some x) h k = subst (λ y. Begins y (Output i c a) e) (only (Offer i c) m k) (a, x, refl, h)
offers i c a e m None h k = quiet k (faults_out h)

tests : (i : ℕ) (b : Test) (p : Proc) (e : Store) (m : Move) (o : Option Bool) → holds b e ≡ o → Contains (Quiet i ∷ []) m → Begins m (WHILE i b p) e
tests i b p e m (Some true) h k = quiet k (does_turn h)
tests i b p e m (Some false) h k = quiet k (does_leave h)
tests i b p e m None h k = quiet k (faults_while h)

-- each of the first n indexes is in range, or one isn't
is_none : (o : Option ℤ) → (o ≡ None) ⊎ (o ≢ None)
is_none None = inl refl
is_none (Some z) = inr (λ h. cc)

more_below : (b : ℤ) (n : ℕ) → ((k : ℕ) → k < n → within (b +ℤ pos k) ≢ None) → within (b +ℤ pos n) ≢ None → (k : ℕ) → k < suc n → within (b +ℤ pos k) ≢ None
more_below b n f g k l = below_more (λ j. within (b +ℤ pos j) ≢ None) n f g k (omega arith)

in_range : (b : ℤ) (n : ℕ) → ((k : ℕ) → k < n → within (b +ℤ pos k) ≢ None) ⊎ ((k : ℕ) × (k < n) × (within (b +ℤ pos k) ≡ None))
in_range b zero = inl (λ k l. absurd (omega arith))
in_range b (suc n) = elim (in_range b n) [
  | inl f ↦ elim (is_none (within (b +ℤ pos n))) [ inl h ↦ inr (n, omega arith, h) | inr g ↦ inl (more_below b n f g) ]
  | inr f ↦ inr (f.0, let l = f.1 in omega arith, f.2)
]

int_same : (x y : ℤ) → Some x ≡ Some y → x ≡ y
int_same x y h = cc

pos_same : (x y : ℕ) → Some (pos x) ≡ Some (pos y) → x ≡ y
pos_same x y h = cc

counts_range : (i v : ℕ) (a k : Exp) (p : Proc) (e : Store) (m : Move) (b : ℤ) (n : ℕ) → value_of a e ≡ Some b → value_of k e ≡ Some (pos n) → Contains (Quiet i ∷ []) m →
    ((j : ℕ) → j < n → within (b +ℤ pos j) ≢ None) ⊎ ((j : ℕ) × (j < n) × (within (b +ℤ pos j) ≡ None)) → Begins m (COUNT i v a k p) e
counts_range i v a k p e m b zero ha hk h (inl f) = quiet h (does_count_none (ha, hk, f))
counts_range i v a k p e m b (suc n) ha hk h (inl f) = quiet h (does_count (ha, hk, f))
counts_range i v a k p e m b n ha hk h (inr f) = quiet h (faults_count (λ c l q.
    let same_base : c ≡ b = int_same c b (sym q.0 ∙ ha) in
    let same_count : l ≡ n = pos_same l n (sym q.1 ∙ hk) in
    q.2 f.0 (subst (λ z. f.0 < z) (sym same_count) f.1) (ap (λ z. within (z +ℤ pos f.0)) same_base ∙ f.2)))

counts : (i v : ℕ) (a k : Exp) (p : Proc) (e : Store) (m : Move) (x y : Option ℤ) → value_of a e ≡ x → value_of k e ≡ y → Contains (Quiet i ∷ []) m → Begins m (COUNT i v a k p) e
counts i v a k p e m None y ha hk h = quiet h (faults_count (λ c l q. let z = sym ha ∙ q.0 in cc))
counts i v a k p e m (Some b) None ha hk h = quiet h (faults_count (λ c l q. let z = sym hk ∙ q.1 in cc))
counts i v a k p e m (Some b) (Some (negsuc n)) ha hk h = quiet h (faults_count (λ c l q. let z = sym hk ∙ q.1 in cc))
counts i v a k p e m (Some b) (Some (pos n)) ha hk h = counts_range i v a k p e m b n ha hk h (in_range b n)

some_not_none : {A : Type 0} (o : Option A) → is_some o ≡ true → o ≢ None
some_not_none (Some x) h = λ k. cc
some_not_none None h = absurd (let e : false ≡ true = h in cc)

decided : (gs : Guards) (e : Store) → all_decided gs e ≡ true → Decided gs e
decided no_guards e h = tt
decided (guard b c v p gs) e h =
    let n = and_parts (is_some (holds b e)) (all_decided gs e) h in
    (some_not_none (holds b e) n.0, decided gs e n.1)

-- a choice is that of a guard whose condition is true
abbrev Chosen : ℕ → ℕ → Guards → Store → Move → Type 0
Chosen i k gs e m = (j : ℕ) × (b : Test) × (c : ℕ) × (v : ℕ) × (p : Proc) × (m ≡ Choose i (k + j) c) × GuardAt gs j b c v p × (holds b e ≡ Some true)

chosen_later : (i k : ℕ) (b : Test) (c v : ℕ) (p : Proc) (gs : Guards) (e : Store) (m : Move) → Chosen i (suc k) gs e m → Chosen i k (guard b c v p gs) e m
chosen_later i k b c v p gs e m n =
    let s : suc k + n.0 ≡ k + suc n.0 = omega arith in
    (suc n.0, n.1, n.2, n.3, n.4, n.5 ∙ ap (λ z. Choose i z n.2) s, later n.6, n.7)

choice_at : (i k : ℕ) (b : Test) (c v : ℕ) (p : Proc) (gs : Guards) (e : Store) (m : Move) (o : Option Bool) → holds b e ≡ o → Contains (choices i k (guard b c v p gs) e) m → (Contains (choices i (suc k) gs e) m → Chosen i (suc k) gs e m) → Chosen i k (guard b c v p gs) e m
choice_at i k b c v p gs e m (Some true) g h f =
    let same : choices i k (guard b c v p gs) e ≡ Choose i k c ∷ choices i (suc k) gs e = rw g refl in
    elim (front_or (Choose i k c) (choices i (suc k) gs e) m (subst (λ ms. Contains ms m) same h)) [
      | inl q ↦ let z : k ≡ k + 0 = omega arith in (0, b, c, v, p, sym q ∙ ap (λ y. Choose i y c) z, first, g)
      | inr q ↦ chosen_later i k b c v p gs e m (f q)
    ]
choice_at i k b c v p gs e m (Some false) g h f =
    let same : choices i k (guard b c v p gs) e ≡ choices i (suc k) gs e = rw g refl in
    chosen_later i k b c v p gs e m (f (subst (λ ms. Contains ms m) same h))
choice_at i k b c v p gs e m None g h f =
    let same : choices i k (guard b c v p gs) e ≡ choices i (suc k) gs e = rw g refl in
    chosen_later i k b c v p gs e m (f (subst (λ ms. Contains ms m) same h))

choice_is : (i k : ℕ) (gs : Guards) (e : Store) (m : Move) → Contains (choices i k gs e) m → Chosen i k gs e m
choice_is i k no_guards e m h = absurd (none m h)
choice_is i k (guard b c v p gs) e m h = choice_at i k b c v p gs e m (holds b e) refl h (choice_is i (suc k) gs e m)

chooses : (i : ℕ) (gs : Guards) (e : Store) (m : Move) (b : Bool) → all_decided gs e ≡ b → Contains (if b then choices i 0 gs e else []) m → Begins m (ALT i gs) e
chooses i gs e m true d h =
    let n = choice_is i 0 gs e m h in
    let s : 0 + n.0 ≡ n.0 = omega arith in
    subst (λ x. Begins x (ALT i gs) e) (sym (n.5 ∙ ap (λ z. Choose i z n.2) s)) (gs, n.1, n.3, n.4, refl, decided gs e d, n.6, n.7)
chooses i gs e m false d h = absurd (none m h)

pub begins : (p : Proc) (e : Store) (m : Move) → Contains (own (Fresh p) e) m → Begins m p e
begins (SKIP i) e m h = quiet h does_skip
begins (Assign i v a) e m h = assigns i v a e m (datum_of a e) refl h
begins (Output i c a) e m h = offers i c a e m (datum_of a e) refl h
begins (Input i c v) e m h = subst (λ x. Begins x (Input i c v) e) (only (Want i c) m h) (v, refl)
begins (StopChan i c) e m h = subst (λ x. Begins x (StopChan i c) e) (only (Stopch i c) m h) refl
begins (SEQ i no_parts) e m h = quiet h does_empty_seq
begins (PAR i no_parts) e m h = quiet h does_empty_par
begins (IF i bs) e m h = quiet h does_if
begins (WHILE i b p) e m h = tests i b p e m (holds b e) refl h
begins (COUNT i v a k p) e m h = counts i v a k p e m (value_of a e) (value_of k e) refl refl h
begins (ALT i gs) e m h = chooses i gs e m (all_decided gs e) refl h
begins p e m h = absurd (none m h)

-- a move in what remains
pub own_begins : (r : Rest) (e : Store) (m : Move) → Contains (own r e) m → (p : Proc) × Stands p r × Begins m p e
own_begins r e m h = let n = own_stands r e m h in (n.0, n.1, begins n.0 e m n.2)

-- a move that is listed is a site's own, or an output that meets an input or guard
abbrev pub Meeting : List Move → List Move → Move → Type 0
Meeting all ms (Inner i j k c) = Contains ms (Offer i c) × Contains all (partner j k c)
Meeting all ms m = ⊥

meeting_more : (all ms : List Move) (x m : Move) → Meeting all ms m → Meeting all (x ∷ ms) m
meeting_more all ms x (Inner i j k c) h = (behind x ms (Offer i c) h.0, h.1)
meeting_more all ms x m h = h

abbrev pub Met : ℕ → ℕ → List Move → Move → Type 0
Met i c all m = (j : ℕ) × (k : Option ℕ) × (m ≡ Inner i j k c) × Contains all (partner j k c)

met_more : (i c : ℕ) (all : List Move) (x m : Move) → Met i c all m → Met i c (x ∷ all) m
met_more i c all x m n = (n.0, n.1, n.2, behind x all (partner n.0 n.1 c) n.3)

same_chan : (c d : ℕ) → (c == d) ≡ true → d ≡ c
same_chan c d h = grind (arith, nat_tests)

met_want : (i c j d : ℕ) (ms : List Move) (m : Move) (b : Bool) → (c == d) ≡ b → Contains ((if b then (Inner i j None c ∷ []) else []) ++ meetings i c ms) m → (Contains (meetings i c ms) m → Met i c ms m) → Met i c (Want j d ∷ ms) m
met_want i c j d ms m true e k f = elim (front_or (Inner i j None c) (meetings i c ms) m k) [
  | inl q ↦ (j, None, sym q, subst (λ z. Contains (Want j d ∷ ms) (Want j z)) (same_chan c d e) (at_front (Want j d) ms))
  | inr q ↦ met_more i c ms (Want j d) m (f q)
]
met_want i c j d ms m false e k f = met_more i c ms (Want j d) m (f k)

met_choose : (i c j k d : ℕ) (ms : List Move) (m : Move) (b : Bool) → (c == d) ≡ b → Contains ((if b then (Inner i j (Some k) c ∷ []) else []) ++ meetings i c ms) m → (Contains (meetings i c ms) m → Met i c ms m) → Met i c (Choose j k d ∷ ms) m
met_choose i c j k d ms m true e n f = elim (front_or (Inner i j (Some k) c) (meetings i c ms) m n) [
  | inl q ↦ (j, Some k, sym q, subst (λ z. Contains (Choose j k d ∷ ms) (Choose j k z)) (same_chan c d e) (at_front (Choose j k d) ms))
  | inr q ↦ met_more i c ms (Choose j k d) m (f q)
]
met_choose i c j k d ms m false e n f = met_more i c ms (Choose j k d) m (f n)

pub met : (i c : ℕ) (all : List Move) (m : Move) → Contains (meetings i c all) m → Met i c all m
met i c [] m h = absurd (none m h)
met i c (Want j d ∷ ms) m h = met_want i c j d ms m (c == d) refl h (met i c ms m)
met i c (Choose j k d ∷ ms) m h = met_choose i c j k d ms m (c == d) refl h (met i c ms m)
met i c (Offer j d ∷ ms) m h = met_more i c ms (Offer j d) m (met i c ms m h)
met i c (Stopch j d ∷ ms) m h = met_more i c ms (Stopch j d) m (met i c ms m h)
met i c (Inner j k l d ∷ ms) m h = met_more i c ms (Inner j k l d) m (met i c ms m h)
met i c (Quiet j ∷ ms) m h = met_more i c ms (Quiet j) m (met i c ms m h)

abbrev pub Listed : List Move → List Move → Move → Type 0
Listed all ms m = Contains ms m ⊎ Meeting all ms m

listed_more : (all ms : List Move) (x m : Move) → Listed all ms m → Listed all (x ∷ ms) m
listed_more all ms x m (inl h) = inl (behind x ms m h)
listed_more all ms x m (inr h) = inr (meeting_more all ms x m h)

-- a move of this, or of what follows
this_or : (inside : Set) (all ms : List Move) (x m : Move) → Contains (x ∷ joined inside all ms) m → (Contains (joined inside all ms) m → Listed all ms m) → Listed all (x ∷ ms) m
this_or inside all ms x m h f = elim (front_or x (joined inside all ms) m h) [
  | inl e ↦ inl (subst (Contains (x ∷ ms)) e (at_front x ms))
  | inr k ↦ listed_more all ms x m (f k)
]

unless : (b : Bool) (inside : Set) (all ms : List Move) (x m : Move) → Contains ((if b then [] else (x ∷ [])) ++ joined inside all ms) m → (Contains (joined inside all ms) m → Listed all ms m) → Listed all (x ∷ ms) m
unless true inside all ms x m h f = listed_more all ms x m (f h)
unless false inside all ms x m h f = this_or inside all ms x m h f

meets : (b : Bool) (inside : Set) (all ms : List Move) (i c : ℕ) (m : Move) → Contains ((if b then meetings i c all else (Offer i c ∷ [])) ++ joined inside all ms) m → (Contains (joined inside all ms) m → Listed all ms m) → Listed all (Offer i c ∷ ms) m
meets true inside all ms i c m h f = elim (Contains-append_cases (meetings i c all) (joined inside all ms) m h) [
  | inl k ↦ let n = met i c all m k in inr (subst (Meeting all (Offer i c ∷ ms)) (sym n.2) (at_front (Offer i c) ms, n.3))
  | inr k ↦ listed_more all ms (Offer i c) m (f k)
]
meets false inside all ms i c m h f = this_or inside all ms (Offer i c) m h f

pub listed : (inside : Set) (all ms : List Move) (m : Move) → Contains (joined inside all ms) m → Listed all ms m
listed inside all [] m h = absurd (none m h)
listed inside all (Offer i c ∷ ms) m h = meets (inside c) inside all ms i c m h (listed inside all ms m)
listed inside all (Want i c ∷ ms) m h = unless (inside c) inside all ms (Want i c) m h (listed inside all ms m)
listed inside all (Choose i k c ∷ ms) m h = unless (inside c) inside all ms (Choose i k c) m h (listed inside all ms m)
listed inside all (Stopch i c ∷ ms) m h = this_or inside all ms (Stopch i c) m h (listed inside all ms m)
listed inside all (Inner i j k c ∷ ms) m h = this_or inside all ms (Inner i j k c) m h (listed inside all ms m)
listed inside all (Quiet i ∷ ms) m h = this_or inside all ms (Quiet i) m h (listed inside all ms m)

-- what hasn't ended stays so in what it stands in
abbrev pub Goes : Rest → Type 0
Goes r = r ≡ Done → ⊥

then_goes : (r : Rest) (ps : Procs) → Goes r → Goes (then_on r ps)
then_goes Done ps g h = g refl
then_goes r ps g h = cc

turns_goes : (r : Rest) (v : ℕ) (b : ℤ) (n : ℕ) (p : Proc) (e : Store) → Goes r → Goes (turns_on r v b n p) × (index_on r v b n e ≡ e)
turns_goes Done v b n p e g = absurd (g refl)
turns_goes r v b n p e g = (λ h. cc, refl)

beside_left : (mine : Set) (r q : Rest) → Goes r → Goes (beside_on mine r q)
beside_left mine Done q g h = g refl
beside_left mine r q g h = cc

beside_right : (mine : Set) (r q : Rest) → Goes q → Goes (beside_on mine r q)
beside_right mine r Done g h = g refl
beside_right mine Done q g h = cc
beside_right mine r q g h = cc

-- an input or guard that could begin still can, after an output of another site began
abbrev pub IsTaking : Move → Type 0
IsTaking (Want i c) = Unit {0}
IsTaking (Choose i k c) = Unit {0}
IsTaking m = ⊥

own_then : (r : Rest) (ps : Procs) (e : Store) (w : Move) → Contains (own r e) w → Contains (own (then_on r ps) e) w
own_then Done ps e w h = absurd (none w h)
own_then r ps e w h = h

own_turns : (r : Rest) (v : ℕ) (b : ℤ) (n : ℕ) (p : Proc) (e : Store) (w : Move) → Contains (own r e) w → Contains (own (turns_on r v b n p) e) w
own_turns Done v b n p e w h = absurd (none w h)
own_turns r v b n p e w h = h

own_beside : (mine : Set) (r q : Rest) (e : Store) (w : Move) → Contains (own r e ++ own q e) w → Contains (own (beside_on mine r q) e) w
own_beside mine Done Done e w h = h
own_beside mine r q e w h = h

not_taking : (b : Bool) (i c : ℕ) (w : Move) → IsTaking w → Contains ((if b then Offer i c else Quiet i) ∷ []) w → ⊥
not_taking true i c w t h = subst IsTaking (sym (only (Offer i c) w h)) t
not_taking false i c w t h = subst IsTaking (sym (only (Quiet i) w h)) t

-- after an output began
pub record Began (r r' : Rest) (e e' : Store) : Type 0 where
  pub store : e' ≡ e
  pub goes : Goes r'
  pub taking : (w : Move) → IsTaking w → Contains (own r e) w → Contains (own r' e) w

pub began : {r r' : Rest} {e e' : Store} {i c : ℕ} {m : List Comm} → Step r e i (action.Offer c) m r' e' → Began r r' e e'
began (does_offer {s = s} {c = c} {a = a} {e = e} h) = record { store = refl; goes = λ k. cc; taking = λ w t k. absurd (not_taking (is_some (datum_of a e)) s c w t k) }
began (in_then {r' = r'} {e = e} {ps = ps} st) =
    let n = began st in
    record { store = n.store; goes = then_goes r' ps n.goes; taking = λ w t k. own_then r' ps e w (n.taking w t k) }
began (in_turns {r' = r'} {e = e} {e' = e'} {v = v} {b = b} {n = k} {p = p} st) =
    let n = began st in
    let g = turns_goes r' v b k p e' n.goes in
    record { store = g.1 ∙ n.store; goes = g.0; taking = λ w t l. own_turns r' v b k p e w (n.taking w t l) }
began (in_left {r = r} {r' = r'} {q = q} {e = e} {mine = mine} st) =
    let n = began st in
    record {
      store = n.store;
      goes = beside_left mine r' q n.goes;
      taking = λ w t k. own_beside mine r' q e w (elim (Contains-append_cases (own r e) (own q e) w k) [
        | inl l ↦ Contains-append_left (own r' e) (own q e) w (n.taking w t l)
        | inr l ↦ Contains-append_right (own r' e) (own q e) w l
      ]);
    }
began (in_right {r = r} {q = q} {q' = q'} {e = e} {mine = mine} st) =
    let n = began st in
    record {
      store = n.store;
      goes = beside_right mine r q' n.goes;
      taking = λ w t k. own_beside mine r q' e w (elim (Contains-append_cases (own r e) (own q e) w k) [
        | inl l ↦ Contains-append_left (own r e) (own q' e) w l
        | inr l ↦ Contains-append_right (own r e) (own q' e) w (n.taking w t l)
      ]);
    }

abbrev at : Rest → Store → State
at r e = record { rest = r; store = e }

-- what the receiver of an output does with its message
takes : (r : Rest) (e : Store) (j : ℕ) (k : Option ℕ) (c : ℕ) (m : List ℕ) → Contains (own r e) (partner j k c) → (y : Datum) × (q : Rest) × (f : Store) × Step r e j (meeting k c m) (In c y ∷ []) q f × (waiting q ≡ waiting r)
takes r e j None c m h =
    let n = own_begins r e (Want j c) h in
    let l = lift (subst (λ z. Stands z r) n.2.1 n.1) (does_input {s = j} {c = c} {v = n.2.0} {e = e} {m = m} refl) in
    (received (e n.2.0) m, l.0, l.1, l.2, step_waits l.2)
takes r e j (Some k) c m h =
    let n = own_begins r e (Choose j k c) h in
    let l = lift (subst (λ z. Stands z r) n.2.4 n.1) (does_choose {s = j} {e = e} {m = m} n.2.5 n.2.6 n.2.7 refl) in
    (received (e n.2.2) m, l.0, l.1, l.2, step_waits l.2)

pub taking_partner : (j : ℕ) (k : Option ℕ) (c : ℕ) → IsTaking (partner j k c)
taking_partner j None c = tt
taking_partner j (Some k) c = tt

abbrev CanBeMade : State → Move → Answer → Type 0
CanBeMade s m a = (ks : List Comm) × (s' : State) × Does s (doing m (sent_by s m) a) ks s'

quiet_made : (s : State) (i : ℕ) (a : Answer) → Contains (own s.rest s.store) (Quiet i) → CanBeMade s (Quiet i) a
quiet_made s i a h =
    let n = own_begins s.rest s.store (Quiet i) h in
    let l = lift n.1 n.2.2 in
    ([], at l.0 l.1, (refl, l.2))

stop_made : (s : State) (i c : ℕ) (a : Answer) → Contains (own s.rest s.store) (Stopch i c) → CanBeMade s (Stopch i c) a
stop_made s i c a h =
    let n = own_begins s.rest s.store (Stopch i c) h in
    let l = lift (subst (λ z. Stands z s.rest) n.2 n.1) (does_stop {s = i} {c = c} {e = s.store}) in
    (Stp c ∷ [], at l.0 l.1, (refl, l.2))

want_made : (s : State) (i c : ℕ) (came : Option (List ℕ)) → Contains (own s.rest s.store) (Want i c) → (ks : List Comm) × (s' : State) × Does s (Wants i c came) ks s'
want_made s i c (Some m) h = let n = takes s.rest s.store i None c m h in (In c n.0 ∷ [], at n.1 n.2, (n.0, refl, n.3))
want_made s i c None h =
    let n = own_begins s.rest s.store (Want i c) h in
    let l = lift (subst (λ z. Stands z s.rest) n.2.1 n.1) (waits_input {s = i} {c = c} {v = n.2.0} {e = s.store}) in
    ([], at l.0 l.1, (refl, l.2))

choose_made : (s : State) (i k c : ℕ) (came : Option (List ℕ)) → Contains (own s.rest s.store) (Choose i k c) → (ks : List Comm) × (s' : State) × Does s (Chooses i k c came) ks s'
choose_made s i k c (Some m) h = let n = takes s.rest s.store i (Some k) c m h in (In c n.0 ∷ [], at n.1 n.2, (n.0, refl, n.3))
choose_made s i k c None h =
    let n = own_begins s.rest s.store (Choose i k c) h in
    let l = lift (subst (λ z. Stands z s.rest) n.2.4 n.1) (waits_choose {s = i} {e = s.store} n.2.5 n.2.6 n.2.7) in
    ([], at l.0 l.1, (refl, l.2))

-- an output that stands there begins, and sends its value
record Sends (s : State) (i c : ℕ) : Type 0 where
  value : Datum
  sent : bytes_or_none (carried (output_at i s.rest s.store)) ≡ message value
  rest : Rest
  store : Store
  step : Step s.rest s.store i (action.Offer c) (Out c value ∷ []) rest store

sends : (s : State) (i c : ℕ) → OwnSites s.rest → Contains (own s.rest s.store) (Offer i c) → Sends s i c
sends s i c o h =
    let n = own_begins s.rest s.store (Offer i c) h in
    let stands = subst (λ z. Stands z s.rest) n.2.2 n.1 in
    let l = lift stands (does_offer n.2.3) in
    record {
      value = n.2.1;
      sent = ap (λ y. bytes_or_none (carried y)) (sent_value n.2.1 l.2 o refl);
      rest = l.0;
      store = l.1;
      step = l.2;
    }

offer_made : (s : State) (i c : ℕ) (a : Answer) → OwnSites s.rest → Contains (own s.rest s.store) (Offer i c) → CanBeMade s (Offer i c) a
offer_made s i c a o h = let n = sends s i c o h in (Out c n.value ∷ [], at n.rest n.store, (n.value, n.sent, refl, n.step))

inner_made : (s : State) (i j : ℕ) (k : Option ℕ) (c : ℕ) (a : Answer) → OwnSites s.rest → Contains (own s.rest s.store) (Offer i c) → Contains (own s.rest s.store) (partner j k c) → CanBeMade s (Inner i j k c) a
inner_made s i j k c a o h g =
    let n = sends s i c o h in
    let b = began n.step in
    let m = bytes_or_none (carried (output_at i s.rest s.store)) in
    let there : Contains (own n.rest n.store) (partner j k c) = subst (λ e. Contains (own n.rest e) (partner j k c)) (sym b.store) (b.taking (partner j k c) (taking_partner j k c) g) in
    let t = takes n.rest n.store j k c m there in
    let waits : Contains (waiting t.1) (output i c) = subst (λ ws. Contains ws (output i c)) (sym t.4) (is_inserted (step_waits n.step)) in
    let z = finishes t.1 t.2 i c waits in
    (Out c n.value ∷ In c t.0 ∷ Fin c ∷ [], at z.0 z.1, (n.value, t.0, at n.rest n.store, at t.1 t.2, n.sent, refl, n.step, t.3, z.2))

made : (s : State) (m : Move) (a : Answer) → OwnSites s.rest → Listed (own s.rest s.store) (own s.rest s.store) m → CanBeMade s m a
made s (Quiet i) a o (inl k) = quiet_made s i a k
made s (Stopch i c) a o (inl k) = stop_made s i c a k
made s (Want i c) a o (inl k) = want_made s i c (came a) k
made s (Choose i j c) a o (inl k) = choose_made s i j c (came a) k
made s (Offer i c) a o (inl k) = offer_made s i c a o k
made s (Inner i j l c) a o (inl k) = absurd (own_begins s.rest s.store (Inner i j l c) k).2
made s (Inner i j l c) a o (inr k) = inner_made s i j l c a o k.0 k.1
made s m a o (inr k) = absurd k

pub can_be_made : ListedMovesCanBeMade
can_be_made s inside m a o h f = made s m a o (listed inside (own s.rest s.store) (own s.rest s.store) m h)

able_want : (r : Rest) (e : Store) (i c : ℕ) (o : Option (List ℕ)) → Contains (own r e) (Want i c) → Able r e i (action.Want c o)
able_want r e i c (Some m) h = let n = takes r e i None c m h in (In c n.0 ∷ [], n.1, n.2, n.3)
able_want r e i c None h =
    let n = own_begins r e (Want i c) h in
    let l = lift (subst (λ z. Stands z r) n.2.1 n.1) (waits_input {s = i} {c = c} {v = n.2.0} {e = e}) in
    ([], l.0, l.1, l.2)

able_choose : (r : Rest) (e : Store) (i k c : ℕ) (o : Option (List ℕ)) → Contains (own r e) (Choose i k c) → Able r e i (action.Choose k c o)
able_choose r e i k c (Some m) h = let n = takes r e i (Some k) c m h in (In c n.0 ∷ [], n.1, n.2, n.3)
able_choose r e i k c None h =
    let n = own_begins r e (Choose i k c) h in
    let l = lift (subst (λ z. Stands z r) n.2.4 n.1) (waits_choose {s = i} {e = e} n.2.5 n.2.6 n.2.7) in
    ([], l.0, l.1, l.2)

-- what is listed and meets nothing can be done by its site
pub able : (r : Rest) (e : Store) (m : Move) (a : Answer) → Contains (own r e) m → Able r e (site_of m) (action_for m a)
able r e (Quiet i) a h = let n = own_begins r e (Quiet i) h in let l = lift n.1 n.2.2 in ([], l.0, l.1, l.2)
able r e (Stopch i c) a h =
    let n = own_begins r e (Stopch i c) h in
    let l = lift (subst (λ z. Stands z r) n.2 n.1) (does_stop {s = i} {c = c} {e = e}) in
    (Stp c ∷ [], l.0, l.1, l.2)
able r e (Offer i c) a h =
    let n = own_begins r e (Offer i c) h in
    let l = lift (subst (λ z. Stands z r) n.2.2 n.1) (does_offer n.2.3) in
    (Out c n.2.1 ∷ [], l.0, l.1, l.2)
able r e (Want i c) a h = able_want r e i c (came a) h
able r e (Choose i k c) a h = able_choose r e i k c (came a) h
able r e (Inner i j k c) a h = absurd (own_begins r e (Inner i j k c) h).2

-- a site that waits can go on
pub able_on : (r : Rest) (e : Store) (i : ℕ) (m : Option (List ℕ)) → IsAwaited r i m → Able r e i (action_on m)
able_on r e i None (c, h) = let n = finishes r e i c h in (Fin c ∷ [], n.0, n.1, n.2)
able_on r e i (Some m) (c, h) = let n = receives r e i c m h in (In c n.0 ∷ [], n.1, n.2, n.3)

-- no site meets itself
pub no_meeting : (r : Rest) (e : Store) (i j : ℕ) (k : Option ℕ) (c : ℕ) → Contains (own r e) (Inner i j k c) → ⊥
no_meeting r e i j k c h = (own_begins r e (Inner i j k c) h).2
