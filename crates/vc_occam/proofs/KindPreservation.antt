-- Values keep their kinds: what is output on a channel, and what is input from it, is of the channel's kind.
use Rattle.std.proofs.Common.{◌≡◌, ℕ, zero, suc, ℤ, Bool, true, false, refl, sym, ap, subst, ◌∙◌, List, [], ◌∷◌, slice_get, Option, Some, None, ◌⊎◌, inl, inr, eqb, arith, if◌then◌else◌}
use Rattle.std.proofs.lemmas.Bool.Decides.{nat_tests}
use Rattle.std.specs.Prelude.{option_and_then}
use Rattle.vc_process.specs.declared.datum.Datum.{Datum}
use Rattle.vc_process.specs.declared.datum.Datum.TheVariants as datum
use Rattle.vc_occam.specs.SiteActions.{SiteAction}
use Rattle.vc_occam.specs.SiteActions as action
use Rattle.vc_process.specs.declared.value_kind.ValueKind.{ValueKind}
use Rattle.vc_process.specs.declared.value_kind.ValueKind.TheVariants as kind
use Rattle.vc_process.specs.Limits.{given_kind}
use Rattle.vc_process.specs.Messages.{message, received, number_of}
use Rattle.vc_process.specs.Syntax.{Test, Given, Whole, Bytes, Proc, SKIP, STOP, Assign, Output, Input, StopChan, SEQ, PAR, IF, WHILE, COUNT, ALT, Procs, no_parts, part, Branches, no_branches, branch, Guards, no_guards, guard}
use Rattle.vc_process.specs.Values.{Store, value_of, holds, text_of, datum_of}
use Rattle.vc_occam.specs.Traces.{Comm, Out, In, Fin, Stp, set}
use Rattle.vc_occam.specs.Remains.{Rest, Done, Stopped, Fresh, Finishing, Getting, Then, Turns, Beside, and_then, begin, begin_seq, begin_par, begin_all, then_on, turns_on, index_on, beside_on, branch_on, chosen, GuardAt, first, later, Step, does_assign, does_if, does_turn, does_count, does_offer, does_input, waits_input, gets, does_choose, waits_choose, in_then, in_turns, in_left, in_right}
use Rattle.vc_occam.specs.States.{State, StepsTo, meeting, Does}
use Rattle.vc_process.specs.ProcessStep.{ProcessStep, Offers, Wants, Chooses, Stops, Meets, Finishes, Receives}
use Rattle.vc_process.proofs.Bytes.{number_again}

abbrev pub kind_of : Datum → ValueKind
kind_of (datum.Int z) = kind.Int
kind_of (datum.Bytes xs) = kind.Bytes

-- what a message is worth on a channel of this kind
abbrev pub value_as : ValueKind → List ℕ → Datum
value_as kind.Int m = datum.Int (number_of m)
value_as kind.Bytes m = datum.Bytes m

received_as : (d : Datum) (m : List ℕ) → received d m ≡ value_as (kind_of d) m
received_as (datum.Int z) m = refl
received_as (datum.Bytes xs) m = refl

received_kind : (d : Datum) (m : List ℕ) → kind_of (received d m) ≡ kind_of d
received_kind (datum.Int z) m = refl
received_kind (datum.Bytes xs) m = refl

-- a value's message, read as the value's kind, is the same message
message_again : (x : Datum) → message (value_as (kind_of x) (message x)) ≡ message x
message_again (datum.Int z) = number_again z
message_again (datum.Bytes xs) = refl

pub carries : (k : ValueKind) (x : Datum) → kind_of x ≡ k → message (value_as k (message x)) ≡ message x
carries k x e = subst (λ j. message (value_as j (message x)) ≡ message x) e (message_again x)

datum_kind : (a : Given) (e : Store) (x : Datum) → datum_of a e ≡ Some x → kind_of x ≡ given_kind a
datum_kind (Whole a) e x h = by_value (value_of a e) h
  where
    by_value : (o : Option ℤ) → option_and_then (λ z. Some (datum.Int z)) o ≡ Some x → kind_of x ≡ kind.Int
    by_value (Some z) h = let is : datum.Int z ≡ x = cc in sym (ap kind_of is)
    by_value None h = absurd (cc)
datum_kind (Bytes t) e x h = let is : datum.Bytes (text_of t e) ≡ x = cc in sym (ap kind_of is)

module _ (channel : ℕ → ValueKind) (kinds : List ValueKind) where
  -- a variable is there, and of this kind
  abbrev pub HasKind : ℕ → ValueKind → Type 0
  HasKind v k = slice_get kinds v ≡ Some k

  abbrev pub StoreHasKinds : Store → Type 0
  StoreHasKinds e = (v : ℕ) (k : ValueKind) → HasKind v k → kind_of (e v) ≡ k

  -- what is output, and what is input to, is of the channel's kind, and what is assigned of the variable's
  abbrev mutual
    pub Kinded : Proc → Type 0
    Kinded (Assign i v a) = HasKind v (given_kind a)
    Kinded (Output i c a) = given_kind a ≡ channel c
    Kinded (Input i c v) = HasKind v (channel c)
    Kinded (SEQ i ps) = AllKinded ps
    Kinded (PAR i ps) = AllKinded ps
    Kinded (IF i bs) = BranchesKinded bs
    Kinded (WHILE i b p) = Kinded p
    Kinded (COUNT i v a n p) = HasKind v kind.Int × Kinded p
    Kinded (ALT i gs) = GuardsKinded gs
    Kinded p = Unit {0}

    pub AllKinded : Procs → Type 0
    AllKinded no_parts = Unit {0}
    AllKinded (part p ps) = Kinded p × AllKinded ps

    pub BranchesKinded : Branches → Type 0
    BranchesKinded no_branches = Unit {0}
    BranchesKinded (branch b p bs) = Kinded p × BranchesKinded bs

    pub GuardsKinded : Guards → Type 0
    GuardsKinded no_guards = Unit {0}
    GuardsKinded (guard b c v p gs) = HasKind v (channel c) × Kinded p × GuardsKinded gs

  -- something remains
  abbrev pub Remains : Rest → Type 0
  Remains Done = ⊥
  Remains r = Unit {0}

  -- the same of what remains; and where something follows or stands beside, something remains
  abbrev pub Sound : Rest → Type 0
  Sound (Fresh p) = Kinded p
  Sound (Getting s c v) = HasKind v (channel c)
  Sound (Then r ps) = Remains r × Sound r × AllKinded ps
  Sound (Turns r v b n p) = Remains r × Sound r × HasKind v kind.Int × Kinded p
  Sound (Beside mine r q) = (Remains r ⊎ Remains q) × Sound r × Sound q
  Sound r = Unit {0}

  begin_remains : (p : Proc) → Remains (begin p)
  begin_remains (SEQ i (part p no_parts)) = begin_remains p
  begin_remains (PAR i no_parts) = tt
  begin_remains p = tt

  and_then_sound : (p : Proc) (ps : Procs) → Sound (begin p) → AllKinded ps → Sound (and_then (begin p) ps)
  and_then_sound p no_parts h k = h
  and_then_sound p (part q ps) h k = (begin_remains p, h, k)

  mutual
    pub begins_sound : (p : Proc) → Kinded p → Sound (begin p)
    begins_sound (SKIP i) h = tt
    begins_sound (STOP i) h = tt
    begins_sound (StopChan i c) h = tt
    begins_sound (SEQ i ps) h = seq_sound i ps h
    begins_sound (PAR i ps) h = par_sound i ps h
    begins_sound p h = h

    seq_sound : (i : ℕ) (ps : Procs) → AllKinded ps → Sound (begin_seq i ps)
    seq_sound i no_parts h = tt
    seq_sound i (part p ps) h = and_then_sound p ps (begins_sound p h.0) h.1

    par_sound : (i : ℕ) (ps : Procs) → AllKinded ps → Sound (begin_par i ps)
    par_sound i no_parts h = tt
    par_sound i (part p ps) h = (inl (begin_remains p), begins_sound p h.0, all_sound ps h.1)

    all_sound : (ps : Procs) → AllKinded ps → Sound (begin_all ps)
    all_sound no_parts h = tt
    all_sound (part p ps) h = (inl (begin_remains p), begins_sound p h.0, all_sound ps h.1)

  then_sound : (r : Rest) (ps : Procs) → Sound r → AllKinded ps → Sound (then_on r ps)
  then_sound Done no_parts h k = tt
  then_sound Done (part p ps) h k = and_then_sound p ps (begins_sound p k.0) k.1
  then_sound r ps h k = (tt, h, k)

  turns_sound : (r : Rest) (v : ℕ) (b : ℤ) (n : ℕ) (p : Proc) → Sound r → HasKind v kind.Int → Kinded p → Sound (turns_on r v b n p)
  turns_sound Done v b zero p h i k = tt
  turns_sound Done v b (suc n) p h i k = (begin_remains p, begins_sound p k, i, k)
  turns_sound r v b n p h i k = (tt, h, i, k)

  beside_sound : (mine : _) (r q : Rest) → Sound r → Sound q → Sound (beside_on mine r q)
  beside_sound mine Done Done h k = tt
  beside_sound mine Done q h k = (inr tt, h, k)
  beside_sound mine r q h k = (inl tt, h, k)

  chosen_sound : (s : ℕ) (bs : Branches) (e : Store) → BranchesKinded bs → Sound (chosen s bs e)
  chosen_sound s no_branches e h = tt
  chosen_sound s (branch b p bs) e h = pick (holds b e) (begin p) (chosen s bs e) (begins_sound p h.0) (chosen_sound s bs e h.1)
    where
      pick : (o : Option Bool) (x y : Rest) → Sound x → Sound y → Sound (branch_on s o x y)
      pick (Some true) x y h k = h
      pick (Some false) x y h k = k
      pick None x y h k = tt

  guard_sound : {gs : Guards} {n c v : ℕ} {b : Test} {p : Proc} → GuardAt gs n b c v p → GuardsKinded gs → HasKind v (channel c) × Kinded p
  guard_sound first h = (h.0, h.1)
  guard_sound (later g) h = guard_sound g h.2

  -- each step leaves it so
  pub step_sound : {r r' : Rest} {e e' : Store} {i : ℕ} {d : SiteAction} {m : List Comm} → Step r e i d m r' e' → Sound r → Sound r'
  step_sound (does_if {s = s} {bs = bs} {e = e}) o = chosen_sound s bs e o
  step_sound (does_turn {p = p} h) o = (begin_remains p, begins_sound p o, (o, tt))
  step_sound (does_count {p = p} h) o = (begin_remains p, begins_sound p o.1, o.0, o.1)
  step_sound waits_input o = o
  step_sound (does_choose {p = p} dec g h k) o = begins_sound p (guard_sound g o).1
  step_sound (waits_choose dec g h) o = let n = guard_sound g o in (tt, n.0, (n.1, tt))
  step_sound (in_then {r' = r'} {ps = ps} st) o = then_sound r' ps (step_sound st o.1) o.2
  step_sound (in_turns {r' = r'} {v = v} {b = b} {n = n} {p = p} st) o = turns_sound r' v b n p (step_sound st o.1) o.2 o.3
  step_sound (in_left {r' = r'} {q = q} {mine = mine} st) o = beside_sound mine r' q (step_sound st o.1) o.2
  step_sound (in_right {r = r} {q' = q'} {mine = mine} st) o = beside_sound mine r q' o.1 (step_sound st o.2)
  step_sound st o = tt

  -- a variable is set to a value of its kind
  set_kinds : (e : Store) (v : ℕ) (x : Datum) → StoreHasKinds e → ((k : ValueKind) → HasKind v k → kind_of x ≡ k) → StoreHasKinds (set e v x)
  set_kinds e v x h is w k there = by_test (eqb v w) refl
    where
      by_test : (b : Bool) → eqb v w ≡ b → kind_of (if b then x else e w) ≡ k
      by_test true t = let one : v ≡ w = grind (arith, nat_tests) in is k (subst (λ z. HasKind z k) (sym one) there)
      by_test false t = h w k there

  one_kind : (v : ℕ) (j k : ValueKind) → HasKind v j → HasKind v k → j ≡ k
  one_kind v j k h i = let e : Some j ≡ Some k = sym h ∙ i in cc

  set_received : (e : Store) (v : ℕ) (m : List ℕ) (x : Datum) → StoreHasKinds e → x ≡ received (e v) m → StoreHasKinds (set e v x)
  set_received e v m x h is = set_kinds e v x h (λ k there. ap kind_of is ∙ received_kind (e v) m ∙ h v k there)

  set_index : (e : Store) (v : ℕ) (b : ℤ) → StoreHasKinds e → HasKind v kind.Int → StoreHasKinds (set e v (datum.Int b))
  set_index e v b h is = set_kinds e v (datum.Int b) h (λ k there. one_kind v kind.Int k is there)

  index_kinds : (r : Rest) (v : ℕ) (b : ℤ) (n : ℕ) (e : Store) → StoreHasKinds e → HasKind v kind.Int → StoreHasKinds (index_on r v b n e)
  index_kinds Done v b (suc n) e h is = set_index e v b h is
  index_kinds Done v b zero e h is = h
  index_kinds r v b n e h is = h

  pub step_kinds : {r r' : Rest} {e e' : Store} {i : ℕ} {d : SiteAction} {m : List Comm} → Step r e i d m r' e' → Sound r → StoreHasKinds e → StoreHasKinds e'
  step_kinds (does_assign {v = v} {a = a} {e = e} {x = x} q) o h = set_kinds e v x h (λ k there. datum_kind a e x q ∙ one_kind v (given_kind a) k o there)
  step_kinds (does_count {v = v} {e = e} {b = b} q) o h = set_index e v b h o.0
  step_kinds (does_input {v = v} {e = e} {m = m} {x = x} k) o h = set_received e v m x h k
  step_kinds (gets {v = v} {e = e} {m = m} {x = x} k) o h = set_received e v m x h k
  step_kinds (does_choose {v = v} {e = e} {m = m} {x = x} dec g t k) o h = set_received e v m x h k
  step_kinds (in_then st) o h = step_kinds st o.1 h
  step_kinds (in_turns {r' = r'} {e' = e'} {v = v} {b = b} {n = n} st) o h = index_kinds r' v b n e' (step_kinds st o.1 h) o.2
  step_kinds (in_left st) o h = step_kinds st o.1 h
  step_kinds (in_right st) o h = step_kinds st o.2 h
  step_kinds st o h = h

  -- the values that are output are of their channels' kinds
  abbrev OutputsKinded : List Comm → Type 0
  OutputsKinded [] = Unit {0}
  OutputsKinded (Out c x ∷ t) = (kind_of x ≡ channel c) × OutputsKinded t
  OutputsKinded (k ∷ t) = OutputsKinded t

  step_outputs : {r r' : Rest} {e e' : Store} {i : ℕ} {d : SiteAction} {m : List Comm} → Step r e i d m r' e' → Sound r → OutputsKinded m
  step_outputs (does_offer {a = a} {e = e} {x = x} q) o = (datum_kind a e x q ∙ o, tt)
  step_outputs (in_then st) o = step_outputs st o.1
  step_outputs (in_turns st) o = step_outputs st o.1
  step_outputs (in_left st) o = step_outputs st o.1
  step_outputs (in_right st) o = step_outputs st o.2
  step_outputs st o = tt

  -- what one site does by itself
  abbrev IsAlone : Rest → Type 0
  IsAlone (Fresh p) = Unit {0}
  IsAlone (Finishing s c) = Unit {0}
  IsAlone (Getting s c v) = Unit {0}
  IsAlone r = ⊥

  abbrev Alone : Store → ℕ → SiteAction → List Comm → Type 0
  Alone e i d m = (r : Rest) × (r' : Rest) × (e' : Store) × Step r e i d m r' e' × IsAlone r × Sound r

  alone : (r : Rest) {r' : Rest} {e e' : Store} {i : ℕ} {d : SiteAction} {m : List Comm} → Step r e i d m r' e' → Sound r → Alone e i d m
  alone Done st o = elim st [ ]
  alone (Stopped i) st o = elim st [ ]
  alone (Fresh p) {r' = r'} {e' = e'} st o = (Fresh p, r', e', st, tt, o)
  alone (Finishing s c) {r' = r'} {e' = e'} st o = (Finishing s c, r', e', st, tt, o)
  alone (Getting s c v) {r' = r'} {e' = e'} st o = (Getting s c v, r', e', st, tt, o)
  alone (Then r ps) (in_then st) o = alone r st o.1
  alone (Turns r v b n p) (in_turns st) o = alone r st o.1
  alone (Beside mine r q) (in_left st) o = alone r st o.1
  alone (Beside mine r q) (in_right st) o = alone q st o.2

  input_is : (e : Store) (c v : ℕ) (m : List ℕ) (x : Datum) → StoreHasKinds e → HasKind v (channel c) → x ≡ received (e v) m → In c x ∷ [] ≡ In c (value_as (channel c) m) ∷ []
  input_is e c v m x h there is = ap (λ y. In c y ∷ []) (is ∙ received_as (e v) m ∙ ap (λ k. value_as k m) (h v (channel c) there))

  -- an input that has its message gets what the message is worth on the channel
  wants_alone : {r r' : Rest} {e e' : Store} {i : ℕ} {ks : List Comm} (c : ℕ) (m : List ℕ) → Step r e i (action.Want c (Some m)) ks r' e' → IsAlone r → Sound r → StoreHasKinds e → ks ≡ In c (value_as (channel c) m) ∷ []
  wants_alone c m (does_input {v = v} {e = e} {x = x} k) a o h = input_is e c v m x h o k
  wants_alone c m st a o h = absurd a

  chooses_alone : {r r' : Rest} {e e' : Store} {i : ℕ} {ks : List Comm} (n c : ℕ) (m : List ℕ) → Step r e i (action.Choose n c (Some m)) ks r' e' → IsAlone r → Sound r → StoreHasKinds e → ks ≡ In c (value_as (channel c) m) ∷ []
  chooses_alone n c m (does_choose {v = v} {e = e} {x = x} dec g t k) a o h = input_is e c v m x h (guard_sound g o).0 k
  chooses_alone n c m st a o h = absurd a

  gets_alone : {r r' : Rest} {e e' : Store} {i : ℕ} {ks : List Comm} (m : List ℕ) → Step r e i (action.Message m) ks r' e' → IsAlone r → Sound r → StoreHasKinds e → (c : ℕ) × (ks ≡ In c (value_as (channel c) m) ∷ [])
  gets_alone m (gets {c = c} {v = v} {e = e} {x = x} k) a o h = (c, input_is e c v m x h o k)
  gets_alone m st a o h = absurd a

  wants_value : {r r' : Rest} {e e' : Store} {i : ℕ} {ks : List Comm} (c : ℕ) (m : List ℕ) → Step r e i (action.Want c (Some m)) ks r' e' → Sound r → StoreHasKinds e → ks ≡ In c (value_as (channel c) m) ∷ []
  wants_value {r} c m st o h = let n = alone r st o in wants_alone c m n.3 n.4 n.5 h

  chooses_value : {r r' : Rest} {e e' : Store} {i : ℕ} {ks : List Comm} (n c : ℕ) (m : List ℕ) → Step r e i (action.Choose n c (Some m)) ks r' e' → Sound r → StoreHasKinds e → ks ≡ In c (value_as (channel c) m) ∷ []
  chooses_value {r} n c m st o h = let s = alone r st o in chooses_alone n c m s.3 s.4 s.5 h

  meets_value : {r r' : Rest} {e e' : Store} {i : ℕ} {ks : List Comm} (g : Option ℕ) (c : ℕ) (m : List ℕ) → Step r e i (meeting g c m) ks r' e' → Sound r → StoreHasKinds e → ks ≡ In c (value_as (channel c) m) ∷ []
  meets_value None c m st o h = wants_value c m st o h
  meets_value (Some n) c m st o h = chooses_value n c m st o h

  same_chan : (c d : ℕ) (x y : Datum) → In c x ∷ [] ≡ In d y ∷ [] → c ≡ d
  same_chan c d x y e = cc

  gets_value : {r r' : Rest} {e e' : Store} {i : ℕ} {ks : List Comm} (c : ℕ) (m : List ℕ) (x : Datum) → ks ≡ In c x ∷ [] → Step r e i (action.Message m) ks r' e' → Sound r → StoreHasKinds e → ks ≡ In c (value_as (channel c) m) ∷ []
  gets_value {r} {ks = ks} c m x is st o h =
      let s = alone r st o in
      let n = gets_alone m s.3 s.4 s.5 h in
      subst (λ d. ks ≡ In d (value_as (channel d) m) ∷ []) (same_chan n.0 c (value_as (channel n.0) m) x (sym n.1 ∙ is)) n.1

  -- the communications of what a process does: an output's value is of its channel's kind, and an input gets what its message is worth
  abbrev pub Tells : ProcessStep → List Comm → Type 0
  Tells (Offers i c m) ks = (x : Datum) × (ks ≡ Out c x ∷ []) × (m ≡ message x) × (kind_of x ≡ channel c)
  Tells (Wants i c (Some m)) ks = ks ≡ In c (value_as (channel c) m) ∷ []
  Tells (Chooses i k c (Some m)) ks = ks ≡ In c (value_as (channel c) m) ∷ []
  Tells (Stops i c) ks = ks ≡ Stp c ∷ []
  Tells (Meets i j k c m) ks = (x : Datum) × (ks ≡ Out c x ∷ In c (value_as (channel c) m) ∷ Fin c ∷ []) × (m ≡ message x) × (kind_of x ≡ channel c)
  Tells (Finishes c) ks = ks ≡ Fin c ∷ []
  Tells (Receives c m) ks = ks ≡ In c (value_as (channel c) m) ∷ []
  Tells d ks = ks ≡ []

  same_value : (c d : ℕ) (x y : Datum) → In c x ∷ [] ≡ In d y ∷ [] → x ≡ y
  same_value c d x y e = cc

  pub doing_tells : (s s' : State) (d : ProcessStep) (ks : List Comm) → Does s d ks s' → Sound s.rest → StoreHasKinds s.store → Tells d ks
  doing_tells s s' (Offers i c m) ks h o k = (h.0, h.2, h.1, (subst OutputsKinded h.2 (step_outputs h.3 o)).0)
  doing_tells s s' (Wants i c (Some m)) ks h o k = wants_value c m h.2 o k
  doing_tells s s' (Chooses i n c (Some m)) ks h o k = chooses_value n c m h.2 o k
  doing_tells s s' (Meets i j n c m) ks h o k =
      let is = same_value c c h.1 (value_as (channel c) m) (meets_value n c m h.7 (step_sound h.6 o) (step_kinds h.6 o k)) in
      (h.0, h.5 ∙ ap (λ y. Out c h.0 ∷ In c y ∷ Fin c ∷ []) is, h.4, (step_outputs h.6 o).0)
  doing_tells s s' (Finishes c) ks h o k = h.1
  doing_tells s s' (Receives c m) ks h o k = gets_value c m h.1 h.2 h.3 o k
  doing_tells s s' d ks h o k = h.0

  abbrev Stays : State → Type 0
  Stays s = Sound s.rest × StoreHasKinds s.store

  stays : {s s' : State} {i : ℕ} {d : SiteAction} {ks : List Comm} → StepsTo s i d ks s' → Stays s → Stays s'
  stays st o = (step_sound st o.0, step_kinds st o.0 o.1)

  -- whatever a process does leaves it so
  pub doing_stays : (s s' : State) (d : ProcessStep) (ks : List Comm) → Does s d ks s' → Sound s.rest × StoreHasKinds s.store → Sound s'.rest × StoreHasKinds s'.store
  doing_stays s s' (Offers i c m) ks h o = stays h.3 o
  doing_stays s s' (Wants i c (Some m)) ks h o = stays h.2 o
  doing_stays s s' (Chooses i k c (Some m)) ks h o = stays h.2 o
  doing_stays s s' (Meets i j k c m) ks h o = stays h.8 (stays h.7 (stays h.6 o))
  doing_stays s s' (Finishes c) ks h o = stays h.2 o
  doing_stays s s' (Receives c m) ks h o = stays h.3 o
  doing_stays s s' d ks h o = stays h.1 o
