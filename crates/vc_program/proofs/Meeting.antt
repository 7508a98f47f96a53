-- Moves that have no site and no channel in common can be made in either order.
use Rattle.std.proofs.Common.{◌≡◌, ◌≢◌, ◌⊎◌, inl, inr, ℕ, ◌<◌, Bool, true, false, nat_eq, eqb-true, if◌then◌else◌, List, [], ◌∷◌, ◌++◌, length, Option, Some, None, refl, sym, ap, subst, ◌∙◌}
use Rattle.std.proofs.lemmas.Bool.{cases_eq}
use mathlib.Core.Path.{fun_ext}
use Rattle.vc_program.proofs.Commuting.{commute}
use Rattle.vc_program.specs.Choices.{Meet, TakesPart, IsOn, AreApart}
use Rattle.vc_program.specs.Private.Lawful.{IsLawful}
use Rattle.vc_program.specs.Program.{Program, Move, Goes, Stops, Passes, Makes, goes, stops, passes}
use Rattle.vc_machine.proofs.Basics.{put-same, put-other, every_put}
use Rattle.vc_network.proofs.Seen.{put_twice}
use Rattle.vc_occam.proofs.Preservation.{step_uses, lawful}
use Rattle.vc_occam.specs.InUse.{UsesLawfully}
use Rattle.vc_occam.specs.SiteActions as action
use Rattle.vc_occam.specs.SiteActions.{SiteAction}
use Rattle.vc_occam.specs.States.{State, StepsTo, meeting}
use Rattle.vc_occam.specs.Traces.{Comm, Out, Fin, In, Stp}
use Rattle.vc_packets.specs.Functions.{put}
use Rattle.vc_plan.specs.declared.plan.Plan.{Plan}
use Rattle.vc_process.specs.Messages.{message}

-- changes at two numbers
swap_if : {X : Type 0} (b c : Bool) (x y z : X) → (b ≡ true → c ≡ true → ⊥) → (if c then y else (if b then x else z)) ≡ (if b then x else (if c then y else z))
swap_if true true x y z h = absurd (h refl refl)
swap_if true false x y z h = refl
swap_if false true x y z h = refl
swap_if false false x y z h = refl

put_swap : {X : Type 0} (f : ℕ → X) (n m : ℕ) (x y : X) → (n ≡ m → ⊥) → put (put f n x) m y ≡ put (put f m y) n x
put_swap f n m x y ne = fun_ext (λ j. swap_if (nat_eq j n) (nat_eq j m) x y (f j) (λ a b. ne (sym (eqb-true j n a) ∙ eqb-true j m b)))

append_swap : {X : Type 0} (f : ℕ → List X) (c d : ℕ) (xs ys : List X) → (c ≡ d → ⊥) →
    put (put f c (f c ++ xs)) d (put f c (f c ++ xs) d ++ ys) ≡ put (put f d (f d ++ ys)) c (put f d (f d ++ ys) c ++ xs)
append_swap f c d xs ys ne =
    ap (λ z. put (put f c (f c ++ xs)) d (z ++ ys)) (put-other f c (f c ++ xs) d (λ e. ne (sym e)))
    ∙ put_swap f c d (f c ++ xs) (f d ++ ys) ne
    ∙ ap (λ z. put (put f d (f d ++ ys)) c (z ++ xs)) (sym (put-other f d (f d ++ ys) c ne))

-- a step of one site, and several of them one after another
record Act : Type 0 where
  node : ℕ
  site : ℕ
  action : SiteAction
  comms : List Comm

abbrev act : ℕ → ℕ → SiteAction → List Comm → Act
act n i d ks = record { node = n; site = i; action = d; comms = ks }

data Run (p : Plan) : (ℕ → State) → List Act → (ℕ → State) → Type 0 where
  ends : {part : ℕ → State} → Run p part [] part
  step : {part part2 : ℕ → State} {n i : ℕ} {d : SiteAction} {ks : List Comm} {ws : List Act} (t : State) → n < length p.nodes → StepsTo (part n) i d ks t → Run p (put part n t) ws part2 → Run p part (act n i d ks ∷ ws) part2

abbrev Law : Plan → (ℕ → State) → Type 0
Law p part = (n : ℕ) → n < length p.nodes → UsesLawfully (part n).rest

law_put : (p : Plan) (part : ℕ → State) {n i : ℕ} {d : SiteAction} {ks : List Comm} {t : State} → Law p part → n < length p.nodes → StepsTo (part n) i d ks t → Law p (put part n t)
law_put p part {n} {t = t} law few st = every_put (λ j (z : State). j < length p.nodes → UsesLawfully z.rest) part n t (λ l. step_uses st (law n few)) (λ j ne. law j)

-- two steps of different sites
record JoinAt (part : ℕ → State) (n i : ℕ) (d : SiteAction) (ks : List Comm) (t : State) (m j : ℕ) (f : SiteAction) (ls : List Comm) (u : State) : Type 0 where
  second : State
  first : State
  second_on : StepsTo (put part n t m) j f ls second
  first_on : StepsTo (put part m u n) i d ks first
  one : put (put part n t) m second ≡ put (put part m u) n first

join_at : (part : ℕ → State) (n i : ℕ) (d : SiteAction) (ks : List Comm) (t : State) (m j : ℕ) (f : SiteAction) (ls : List Comm) (u : State) → UsesLawfully (part n).rest → (n ≡ m → i ≢ j) →
    StepsTo (part n) i d ks t → StepsTo (part m) j f ls u → JoinAt part n i d ks t m j f ls u
join_at part n i d ks t m j f ls u law off st st2 = elim (cases_eq n m) [
  | inl e ↦ subst (λ z. JoinAt part n i d ks t z j f ls u) e (here (off e) (subst (λ z. StepsTo (part z) j f ls u) (sym e) st2))
  | inr ne ↦ record {
    second = u;
    first = t;
    second_on = subst (λ z. StepsTo z j f ls u) (sym (put-other part n t m (λ e. ne (sym e)))) st2;
    first_on = subst (λ z. StepsTo z i d ks t) (sym (put-other part m u n ne)) st;
    one = put_swap part n m t u ne;
  }
]
  where
    here : i ≢ j → StepsTo (part n) j f ls u → JoinAt part n i d ks t n j f ls u
    here ne st3 =
        let b = commute (part n) t u i j d f ks ls (lawful (part n).rest law) ne st st3 in
        record {
          second = b.both;
          first = b.both;
          second_on = subst (λ z. StepsTo z j f ls b.both) (sym (put-same part n t)) b.j_after_i;
          first_on = subst (λ z. StepsTo z i d ks b.both) (sym (put-same part n u)) b.i_after_j;
          one = put_twice part n t b.both ∙ sym (put_twice part n u b.both);
        }

abbrev Off : ℕ → ℕ → List Act → Type 0
Off n i [] = Unit {0}
Off n i (a ∷ ws) = (n ≡ a.node → i ≢ a.site) × Off n i ws

abbrev AllOff : List Act → List Act → Type 0
AllOff [] bs = Unit {0}
AllOff (a ∷ ws) bs = Off a.node a.site bs × AllOff ws bs

-- a step beside a run of other sites
strip : {p : Plan} {part q : ℕ → State} {n i : ℕ} {d : SiteAction} {ks : List Comm} {t : State} {bs : List Act} → Law p part → n < length p.nodes → StepsTo (part n) i d ks t → Run p part bs q → Off n i bs →
    (t2 : State) × StepsTo (q n) i d ks t2 × Run p (put part n t) bs (put q n t2)
strip {t = t} law few st ends off = (t, st, ends)
strip {p} {part} {q} {n} {i} {d} {ks} {t} law few st (step {n = m} {i = j} {d = f} {ks = ls} {ws = bs} u few2 st2 rest) off =
    let b = join_at part n i d ks t m j f ls u (law n few) off.0 st st2 in
    let r = strip (law_put p part law few2 st2) few b.first_on rest off.1 in
    (r.0, r.1, step b.second few2 b.second_on (subst (λ z. Run p z bs (put q n r.0)) (sym b.one) r.2))

-- two runs of different sites
tile : {p : Plan} {part a q : ℕ → State} {ws bs : List Act} → Law p part → Run p part ws a → Run p part bs q → AllOff ws bs → (r : ℕ → State) × Run p a bs r × Run p q ws r
tile {q = q} law ends run off = (q, run, ends)
tile {p} {part} law (step t few st rest) run off =
    let s = strip law few st run off.0 in
    let r = tile (law_put p part law few st) rest s.2 off.1 in
    (r.0, r.1, step s.0 few s.1 r.2)

-- its sites take part in it
AllTake : Move → List Act → Type 0
AllTake m [] = Unit {0}
AllTake m (a ∷ ws) = TakesPart m a.node a.site × AllTake m ws

off : (a b : Move) (n i : ℕ) (bs : List Act) → AreApart a b → TakesPart a n i → AllTake b bs → Off n i bs
unfolding AllTake
off a b n i [] apart has all = tt
off a b n i (x ∷ bs) apart has all = ((λ e f. apart.sites x.node x.site (subst (λ z. TakesPart a z x.site) e (subst (TakesPart a n) f has)) all.0), off a b n i bs apart has all.1)

all_off : (a b : Move) (ws bs : List Act) → AreApart a b → AllTake a ws → AllTake b bs → AllOff ws bs
unfolding AllTake
all_off a b [] bs apart has all = tt
all_off a b (x ∷ ws) bs apart has all = (off a b x.node x.site bs apart has.0 all, all_off a b ws bs apart has.1 all)

ended : {p : Plan} {part q : ℕ → State} → Run p part [] q → part ≡ q
ended ends = refl

module _ {p : Plan} where
  acts_of : {s t : Program} {m : Move} → Makes p s m t → List Act
  acts_of (goes n i t few st) = act n i action.Quiet [] ∷ []
  acts_of (stops n i c t few st) = act n i (action.StopChannel c) (Stp c ∷ []) ∷ []
  acts_of (passes c n i m j k x y a b d few few2 free one two three) =
      act n i (action.Offer c) (Out c x ∷ []) ∷ act m j (meeting k c (message x)) (In c y ∷ []) ∷ act n i action.Finish (Fin c ∷ []) ∷ []

  run_of : {s t : Program} {m : Move} (h : Makes p s m t) → Run p s.part (acts_of h) t.part
  unfolding acts_of
  run_of (goes n i t few st) = step t few st ends
  run_of (stops n i c t few st) = step t few st ends
  run_of (passes c n i m j k x y a b d few few2 free one two three) = step a few one (step b few2 two (step d few three ends))

  -- the same move made elsewhere
  after : {s t : Program} {m : Move} → Makes p s m t → Program → (ℕ → State) → Program
  after (goes n i t few st) q r = record q { part = r }
  after (stops n i c t few st) q r = record q { part = r; stopped = put q.stopped c true }
  after (passes c n i m j k x y a b d few few2 free one two three) q r = record q { part = r; passed = put q.passed c (q.passed c ++ message x ∷ []) }

  Free : {s t : Program} {m : Move} → Makes p s m t → Program → Type 0
  Free (passes c n i m j k x y a b d few few2 free one two three) q = q.stopped c ≡ false
  Free h q = Unit {0}

  again : {s t : Program} {m : Move} (h : Makes p s m t) (q : Program) (r : ℕ → State) → Free h q → Run p q.part (acts_of h) r → Makes p q m (after h q r)
  unfolding acts_of after Free
  again (goes n i t few st) q r free (step u few2 st2 rest) = subst (λ z. Makes p q (Goes n i) (record q { part = z })) (ended rest) (goes n i u few2 st2)
  again (stops n i c t few st) q r free (step u few2 st2 rest) = subst (λ z. Makes p q (Stops n i c) (record q { part = z; stopped = put q.stopped c true })) (ended rest) (stops n i c u few2 st2)
  again (passes c n i m j k x y a b d few few2 was one two three) q r free (step u f1 st1 (step v f2 st2 (step w f3 st3 rest))) =
      subst (λ z. Makes p q (Passes c n i m j k) (record q { part = z; passed = put q.passed c (q.passed c ++ message x ∷ []) })) (ended rest) (passes c n i m j k x y u v w f1 f2 free st1 st2 st3)

  all_take : {s t : Program} {m : Move} (h : Makes p s m t) → AllTake m (acts_of h)
  unfolding acts_of AllTake
  all_take (goes n i t few st) = ((refl, refl), tt)
  all_take (stops n i c t few st) = ((refl, refl), tt)
  all_take (passes c n i m j k x y a b d few few2 free one two three) = (inl (refl, refl), (inr (refl, refl), (inl (refl, refl), tt)))

  -- it stays free, and what is stopped and what passed comes to the same
  stays_free : {s t u : Program} {a b : Move} (h : Makes p s a t) (k : Makes p s b u) → ((c : ℕ) → IsOn a c → IsOn b c → ⊥) → Free k t
  unfolding Free
  stays_free h (goes n i t few st) chans = tt
  stays_free h (stops n i c t few st) chans = tt
  stays_free (goes n i t few st) (passes c n2 i2 m j k x y a b d few1 few2 free one two three) chans = free
  stays_free (passes c2 n3 i3 m3 j3 k3 x3 y3 a3 b3 d3 few3 few4 free3 one3 two3 three3) (passes c n2 i2 m j k x y a b d few1 few2 free one two three) chans = free
  stays_free {s = s} (stops n i e t few st) (passes c n2 i2 m j k x y a b d few1 few2 free one two three) chans = put-other s.stopped e true c (λ same. chans c (sym same) refl) ∙ free

  swap_after : {s t u : Program} {a b : Move} (h : Makes p s a t) (k : Makes p s b u) (r : ℕ → State) → ((c : ℕ) → IsOn a c → IsOn b c → ⊥) → after k t r ≡ after h u r
  unfolding after
  swap_after (goes n i t few st) (goes n2 i2 t2 few2 st2) r chans = refl
  swap_after (goes n i t few st) (stops n2 i2 c2 t2 few2 st2) r chans = refl
  swap_after (goes n i t few st) (passes c n2 i2 m j k x y a b d few1 few2 free one two three) r chans = refl
  swap_after (stops n i c t few st) (goes n2 i2 t2 few2 st2) r chans = refl
  swap_after {s = s} (stops n i c t few st) (stops n2 i2 c2 t2 few2 st2) r chans =
      ap (λ z. record s { part = r; stopped = z }) (put_swap s.stopped c c2 true true (λ same. chans c2 same refl))
  swap_after (stops n i c t few st) (passes c2 n2 i2 m j k x y a b d few1 few2 free one two three) r chans = refl
  swap_after (passes c n2 i2 m j k x y a b d few1 few2 free one two three) (goes n i t few st) r chans = refl
  swap_after (passes c n2 i2 m j k x y a b d few1 few2 free one two three) (stops n i c2 t few st) r chans = refl
  swap_after {s = s} (passes c n2 i2 m j k x y a b d few1 few2 free one two three) (passes c3 n3 i3 m3 j3 k3 x3 y3 a3 b3 d3 few3 few4 free3 one3 two3 three3) r chans =
      ap (λ z. record s { part = r; passed = z }) (append_swap s.passed c c3 (message x ∷ []) (message x3 ∷ []) (λ same. chans c3 same refl))

pub apart_meet : (p : Plan) (s at_a at_b : Program) (a b : Move) → IsLawful p s → AreApart a b → Makes p s a at_a → Makes p s b at_b → Meet p a b at_a at_b
apart_meet p s at_a at_b a b law apart h k =
    let r = tile law.uses (run_of h) (run_of k) (all_off a b (acts_of h) (acts_of k) apart (all_take h) (all_take k)) in
    let chans2 : (c : ℕ) → IsOn b c → IsOn a c → ⊥ = λ c on on2. apart.chans c on2 on in
    record {
      both = after k at_a r.0;
      b_after_a = again k at_a r.0 (stays_free h k apart.chans) r.1;
      a_after_b = subst (Makes p at_b a) (sym (swap_after h k r.0 apart.chans)) (again h at_b r.0 (stays_free k h chans2) r.2);
    }
