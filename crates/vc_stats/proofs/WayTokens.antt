-- Which events put a token on a way.
use Rattle.std.proofs.Common.{◌≡◌, ◌≤◌, ◌==◌, ℕ, Bool, true, false, List, [], ◌∷◌, ◌++◌, length, length-append, refl, sym, ap, ◌∙◌, subst, arith, ne_eqb, if◌then◌else◌}
use Rattle.vc_network.specs.Actors.{Network, ActBy, Label, Step, act_of, put_on, taken_off}
use Rattle.vc_network.specs.Actors.Label.{Own, Takes, Puts}
use Rattle.vc_network.specs.Network.{Act, Proc, Take, Put, Route, Fct, Pass, Actor, IsNode, IsSwitch, Local, Happens, actor_at}
use Rattle.vc_network.specs.Plan.{Plan, near}
use Rattle.vc_network.specs.Processes.{StepRelation}
use Rattle.vc_switch.specs.Waiting.{Waiting}
use Rattle.vc_tokens.specs.Tokens.{Token}

-- a token may be put by the act
abbrev pub puts : Act → Bool
puts (Put link) = true
puts (Fct link) = true
puts act = false

-- a token is put on a way by the actor at its near end
pub record PutsBy (plan : Plan) (k : ℕ) (act : Act) (way : ℕ) : Type 0 where
  pub puts : puts act ≡ true
  pub near : actor_at plan (near plan way) ≡ k

put_by : {P : Type 0} (plan : Plan) (W : Waiting) (Does : StepRelation P) (k : ℕ) (a b : Actor P) (act : Act) (way : ℕ) (item : Token) → Local plan W Does k a (Puts act way item) b → PutsBy plan k act way
put_by plan W Does k (IsNode old) (IsNode new) (Put link) way item h = record { puts = refl; near = ap (actor_at plan) h.1.0.1 }
put_by plan W Does k (IsNode old) (IsNode new) (Fct link) way item h = record { puts = refl; near = ap (actor_at plan) h.1.0.1 }
put_by plan W Does k (IsSwitch old) (IsSwitch new) (Put link) way item h = record { puts = refl; near = ap (actor_at plan) h.2.0.1 ∙ sym h.1 }
put_by plan W Does k (IsSwitch old) (IsSwitch new) (Fct link) way item h = record { puts = refl; near = ap (actor_at plan) h.2.0.1 ∙ sym h.1 }
put_by plan W Does k (IsNode old) (IsNode new) (Proc move) way item h = absurd h.1
put_by plan W Does k (IsNode old) (IsNode new) (Take link word) way item h = absurd h.1
put_by plan W Does k (IsNode old) (IsNode new) (Route input output) way item h = absurd h.1
put_by plan W Does k (IsNode old) (IsNode new) (Pass link) way item h = absurd h.1
put_by plan W Does k (IsSwitch old) (IsSwitch new) (Proc move) way item h = absurd h.2
put_by plan W Does k (IsSwitch old) (IsSwitch new) (Take link word) way item h = absurd h.2
put_by plan W Does k (IsSwitch old) (IsSwitch new) (Route input output) way item h = absurd h.2
put_by plan W Does k (IsSwitch old) (IsSwitch new) (Pass link) way item h = absurd h.2
put_by plan W Does k (IsNode old) (IsSwitch new) act way item h = absurd h
put_by plan W Does k (IsSwitch old) (IsNode new) act way item h = absurd h

fewer : (ts xs ys us : List Token) → ts ++ ys ≡ xs ++ us → us ≡ [] → length ys ≤ length xs
fewer ts xs ys us same none =
    let all = ap length same in
    let left = length-append ts ys in
    let right = length-append xs us in
    let empty = ap length none in
    omega (arith, all, left, right, empty)

not_put : (to way : ℕ) (item : Token) → (to ≡ way → ⊥) → (if to == way then item ∷ [] else []) ≡ []
not_put to way item ne = ap (λ b. if b then item ∷ [] else []) (ne_eqb to way ne)

fewer_at : {P : Type 0} (plan : Plan) (W : Waiting) (Does : StepRelation P) (x y : Network (Actor P) Token) (k : ℕ) (label : Label Act Token) (way : ℕ) → Step (Local plan W Does) x k label y →
    (PutsBy plan k (act_of label) way → ⊥) → length (y.way way) ≤ length (x.way way)
fewer_at plan W Does x y k (Own act) way step not = fewer [] (x.way way) (y.way way) [] (step.ways way) refl
fewer_at plan W Does x y k (Takes act from item) way step not = fewer (taken_off way (Takes act from item)) (x.way way) (y.way way) [] (step.ways way) refl
fewer_at plan W Does x y k (Puts act to item) way step not =
    let by = put_by plan W Does k (x.state k) (y.state k) act to item step.local in
    fewer [] (x.way way) (y.way way) (put_on way (Puts act to item)) (step.ways way) (not_put to way item (λ e. not (subst (PutsBy plan k act) e by)))

-- no other event makes more tokens on it
pub no_more : {P : Type 0} (plan : Plan) (W : Waiting) (Does : StepRelation P) (x y : Network (Actor P) Token) (e : ActBy Act) (way : ℕ) → Happens plan W Does x e y →
    (puts e.act ≡ true → actor_at plan (near plan way) ≡ e.actor → ⊥) → length (y.way way) ≤ length (x.way way)
no_more plan W Does x y e way h not = fewer_at plan W Does x y e.actor h.0 way h.2 (λ by. not (subst (λ a. puts a ≡ true) h.1 by.puts) by.near)
