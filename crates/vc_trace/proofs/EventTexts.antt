-- The events of a text, made one after another.
use Rattle.std.proofs.Common.{◌≡◌, ◌≤◌, ℕ, ◌+◌, ◌==◌, Bool, true, false, not, List, [], ◌∷◌, ◌++◌, Option, Some, None, length, length-append, codes, drop, refl, sym, ap, subst, ◌∙◌, append_assoc, append-nil, inl, inr, arith}
use Rattle.std.specs.Io.KnownBytes.{Consumes}
use Rattle.std.specs.List.{starts_with}
use Rattle.std.proofs.Math.Dec.{eqb}
use Rattle.std.proofs.lemmas.Bool.Decides.{Decides-eqb, nat_tests}
use Rattle.std.proofs.lemmas.Grind.{flat_map-append}
use Rattle.std.proofs.lemmas.Slice.Eq.{starts_is}
use Rattle.std.proofs.lemmas.Bool.{and_parts}
use Rattle.std.proofs.KnownBytes.{Consumes-trans, Consumes-nil}
use Rattle.vc_core.specs.Replay.{Reached, IsOpening}
use Rattle.vc_core.specs.State.{State, shown, MakesEvent}
use Rattle.vc_core.specs.declared.event.Event.{Event}
use Rattle.vc_core.proofs.ReplayRuns.{reached_first, reached_next}
use Rattle.vc_plan.specs.declared.plan.Plan.{Plan}
use Rattle.vc_text.specs.Streams.{IsAllOf}
use Rattle.vc_trace.specs.EventText.{event_line, events_text}
use Rattle.vc_trace.specs.Lines.{IsLineBefore, IsOnOneLine, left}
use Rattle.vc_trace.specs.Replay.{EndsEvents, IsNoEvent}
use Rattle.vc_trace.specs.Private.Replay.{MakesEvents, MakesLine}
use Rattle.vc_trace.specs.declared.refused_line.RefusedLine.{RefusedLine}

-- the lines in front of this one are those of events, which were made
pub record HasMade (p : Plan) (old new : Option (List ℕ)) (s : State) (number : ℕ) : Type 0 where
  pub events : List Event
  pub many : length events + 1 ≡ number
  pub reached : Reached p events s
  pub read : Consumes old new (events_text p events)

-- ---- what was read

all_read : (old new : Option (List ℕ)) (a : List ℕ) → Consumes old new a → IsAllOf old (a ++ left new)
all_read None new a p = tt
all_read (Some x) None a p = absurd p
all_read (Some x) (Some y) a p = sym p

pub all_with : (old mid new : Option (List ℕ)) (a b : List ℕ) → Consumes old mid a → Consumes mid new b → IsAllOf old (a ++ b ++ left new)
all_with old mid new a b p q = all_read old new (a ++ b) (Consumes-trans old mid new a b p q)

-- ---- events

pub none_made : (p : Plan) (known : Option (List ℕ)) (s : State) → IsOpening p s → HasMade p known known s 1
none_made p known s opens = record { events = []; many = omega arith; reached = reached_first p [] s opens; read = Consumes-nil known }

one_more : (p : Plan) (es : List Event) (e : Event) → events_text p (es ++ e ∷ []) ≡ events_text p es ++ event_line p e
one_more p es e = flat_map-append (event_line p) es (e ∷ []) ∙ ap (λ t. events_text p es ++ t) (append-nil (event_line p e))

pub made_more : (p : Plan) (old mid new : Option (List ℕ)) (s t : State) (n : ℕ) (line : List ℕ) (e : Event) → HasMade p old mid s n → Consumes mid new line →
    event_line p e ≡ line → MakesEvent p s e t → HasMade p old new t (n + 1)
made_more p old mid new s t n line e made read is makes =
    let es = made.events in
    record {
      events = es ++ e ∷ [];
      many = ap (λ m. m + 1) (length-append es (e ∷ []) ∙ made.many);
      reached = reached_next p es e s t made.reached makes;
      read = subst (Consumes old new) (sym (one_more p es e ∙ ap (λ u. events_text p es ++ u) is)) (Consumes-trans old mid new (events_text p es) line made.read read);
    }

-- ---- what a line begins with

unbroken : (b : ℕ) → not (b == 10) ≡ true → b ≡ 10 → ⊥
unbroken b e is = let same : not (b == 10) ≡ not (10 == 10) = ap (λ n. not (n == 10)) is in cc

heads : (x y : ℕ) (xs ys : List ℕ) → x ∷ xs ≡ y ∷ ys → x ≡ y
heads x y xs ys e = cc

tails : (x y : ℕ) (xs ys : List ℕ) → x ∷ xs ≡ y ∷ ys → xs ≡ ys
tails x y xs ys e = cc

within_line : (first front rest behind : List ℕ) → IsOnOneLine first → (front ++ 10 ∷ []) ++ rest ≡ first ++ behind → (more : List ℕ) × (front ++ 10 ∷ [] ≡ first ++ more)
within_line [] front rest behind one same = (front ++ 10 ∷ [], refl)
within_line (x ∷ xs) [] rest behind one same = absurd (unbroken x (and_parts _ _ one).0 (sym (heads 10 x rest (xs ++ behind) same)))
within_line (x ∷ xs) (y ∷ ys) rest behind one same =
    let (more, is) = within_line xs ys rest behind (and_parts _ _ one).1 (tails y x _ _ same) in
    (more, ap (λ t. y ∷ t) is ∙ ap (λ z. z ∷ (xs ++ more)) (heads y x _ _ same))

within_front : (first line rest behind : List ℕ) → length first ≤ length line → line ++ rest ≡ first ++ behind → (more : List ℕ) × (line ≡ first ++ more)
within_front [] line rest behind long same = (line, refl)
within_front (x ∷ xs) [] rest behind long same = absurd (omega (arith, long))
within_front (x ∷ xs) (y ∷ ys) rest behind long same =
    let (more, is) = within_front xs ys rest behind (omega (arith, long)) (tails y x _ _ same) in
    (more, ap (λ t. y ∷ t) is ∙ ap (λ z. z ∷ (xs ++ more)) (heads y x _ _ same))

no_line : (front : List ℕ) → front ++ 10 ∷ [] ≡ [] → ⊥
no_line [] e = cc
no_line (x ∷ xs) e = cc

-- a text begins with a word only where its first line does
begins_line : (first rest line : List ℕ) → IsOnOneLine first → length first ≤ 256 → IsLineBefore rest line → (behind : List ℕ) → line ++ rest ≡ first ++ behind → (more : List ℕ) × (line ≡ first ++ more)
begins_line first rest line one short (inl is) behind same =
    let (more, e) = within_line first is.front rest behind one (ap (λ t. t ++ rest) (sym is.ends) ∙ same) in
    (more, is.ends ∙ e)
begins_line first rest line one short (inr (whole, inl many)) behind same = within_front first line rest behind (omega (arith, many, short)) same
begins_line first rest line one short (inr (whole, inr end)) behind same = (behind, sym (append-nil line) ∙ ap (λ t. line ++ t) (sym end) ∙ same)

-- the events end in front of a text where they end in front of its first line
pub ends_there : (rest line : List ℕ) → IsLineBefore rest line → EndsEvents line → EndsEvents (line ++ rest)
ends_there rest line (inl is) (inl none) = absurd (no_line is.front (sym is.ends ∙ none))
ends_there rest line (inr (one, inl many)) (inl none) = absurd (let z : length line ≡ 0 = ap length none in omega (arith, many, z))
ends_there rest line (inr (one, inr end)) (inl none) = inl (ap (λ t. t ++ rest) none ∙ end)
ends_there rest line whole (inr (inl (more, is))) = inr (inl (more ++ rest, ap (λ t. t ++ rest) is ∙ append_assoc (codes "channel ") more rest))
ends_there rest line whole (inr (inr (more, is))) = inr (inr (more ++ rest, ap (λ t. t ++ rest) is ∙ append_assoc (codes "end ") more rest))

pub ends_here : (rest line : List ℕ) → IsLineBefore rest line → EndsEvents (line ++ rest) → EndsEvents line
ends_here rest [] whole (inl none) = inl refl
ends_here rest (x ∷ xs) whole (inl none) = absurd (cc)
ends_here rest line whole (inr (inl (behind, same))) = inr (inl (begins_line (codes "channel ") rest line refl (omega arith) whole behind same))
ends_here rest line whole (inr (inr (behind, same))) = inr (inr (begins_line (codes "end ") rest line refl (omega arith) whole behind same))

-- what the tests for it say
filled : (x : ℕ) (xs : List ℕ) → x ∷ xs ≡ [] → ⊥
filled x xs e = cc

pub empty_is : (line : List ℕ) (r : Bool) → r ≡ (length line == 0) → (r ≡ true → line ≡ []) × (line ≡ [] → r ≡ true)
empty_is [] r test = (λ h. refl, λ h. test)
empty_is (x ∷ xs) r test = (λ h. let e : (length (x ∷ xs) == 0) ≡ true = sym test ∙ h in let n : length (x ∷ xs) ≡ 0 = grind (arith, nat_tests) in absurd (omega arith), λ h. absurd (filled x xs h))

pub word_is : (line word first : List ℕ) (r : Bool) → word ≡ first → r ≡ starts_with eqb line word → (r ≡ true → (rest : List ℕ) × (line ≡ first ++ rest)) × ((rest : List ℕ) × (line ≡ first ++ rest) → r ≡ true)
word_is line word first r is test = (
  λ h. (drop (length word) line, (starts_is Decides-eqb line word r test).0 h ∙ ap (λ t. t ++ drop (length word) line) is),
  λ h. (starts_is Decides-eqb line word r test).1 h.0 (h.1 ∙ ap (λ t. t ++ h.0) (sym is)),
)

-- ---- what is answered

-- behind the events made stands nothing, or traffic
pub ends : (p : Plan) (old mid new : Option (List ℕ)) (s : State) (number : ℕ) (line : List ℕ) → HasMade p old mid s number → Consumes mid new line →
    EndsEvents (line ++ left new) → MakesEvents old p s None
ends p old mid new s number line made read end = (
  made.events,
  made.reached,
  record {
    rest = line ++ left new;
    text = subst (IsAllOf old) (append_assoc (events_text p made.events) line (left new)) (all_with old mid new (events_text p made.events) line made.read read);
    ends = end;
  },
)

-- behind them stands this line, which is refused
pub refuses : (p : Plan) (old mid new : Option (List ℕ)) (s t : State) (refused : RefusedLine) → HasMade p old mid s refused.number → Consumes mid new refused.line.items →
    (EndsEvents (refused.line.items ++ left new) → ⊥) → IsLineBefore (left new) refused.line.items → MakesLine p s refused.line.items t false → MakesEvents old p t (Some refused)
refuses p old mid new s t refused made read goes_on whole none = (
  made.events,
  subst (Reached p made.events) (sym none.0) made.reached,
  sym made.many,
  record {
    rest = left new;
    text = all_with old mid new (events_text p made.events) refused.line.items made.read read;
    goes_on = goes_on;
    whole = whole;
    none = λ named. subst (λ z. IsNoEvent p (shown z) refused.line.items) (sym none.0) (none.1 named);
  },
)
