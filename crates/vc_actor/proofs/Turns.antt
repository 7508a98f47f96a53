-- What an actor does next is an act that it can have, and where it does nothing it can have none.
use Rattle.std.proofs.Common.{◌≡◌, ℕ, ◌+◌, ◌<◌, get_or, Bool, true, false, IsTrue, IfSome, Result, Ok, Err, IfOk, inl, inr, List, length, Option, Some, None, refl, sym, ap, ◌∙◌, subst, arith}
use Rattle.std.proofs.lemmas.Bool.{cases_lt}
use Rattle.std.proofs.lemmas.Option.{slice_get-get_or}
use Rattle.vc_network.specs.Plan as network
use Rattle.vc_occam.specs.declared.moves.Move.{Move}
use Rattle.vc_switch.specs.State.{State as SwitchState}
use Rattle.vc_actor.specs.Able.{NodeCan, SwitchCan, CanMove}
use Rattle.vc_actor.specs.ActorView.{Acting, OfNode, OfSwitch}
use Rattle.vc_actor.specs.Turns.{IsTurn, FindsTurn, TakesNone, MakesTurn}
use Rattle.vc_actor.specs.Private.Kinds.{kind_of, FindsOf}
use Rattle.vc_actor.specs.Private.Turns.{FindsAt, FindsRoute, FindsMove, IsTold}
use Rattle.vc_actor.specs.declared.act.Act.{Act}
use Rattle.vc_actor.specs.declared.act.Act.TheVariants as act
use Rattle.vc_actor.specs.Private.Kinds as kind
use Rattle.vc_actor.specs.declared.node.Node.{Node}
use Rattle.vc_actor.specs.declared.turn.Turn.{Turn}
use Rattle.vc_actor.specs.declared.turn.Turn.TheVariants as turn

-- An actor's own search.

pub none_more : (Can : Act → Type 0) (at : ℕ → Act) (i : ℕ) → ((j : ℕ) → j < i → Can (at j) → ⊥) → (Can (at i) → ⊥) → (j : ℕ) → j < i + 1 → Can (at j) → ⊥
none_more Can at i before now j less can = elim (cases_lt j i) [
  | inl sooner ↦ before j sooner can
  | inr later ↦ (let same : j ≡ i = omega arith in now (subst (λ z. Can (at z)) same can))
]

pub clash : (b : Bool) → b ≡ false → IsTrue b → ⊥
clash true h t = absurd (cc)
clash false h t = absurd (cc)

pub if_ok : {X E : Type 0} (P Q : X → Type 0) (r : Result X E) → ((x : X) → P x → Q x) → IfOk r P → IfOk r Q
if_ok P Q (Ok x) f h = f x h
if_ok P Q (Err e) f h = tt

-- What is found of one kind.

module _ (plan : network.Plan) (k : ℕ) (x : Acting) (room : ℕ) where
  pub puts : (o : Option Act) → FindsAt (λ l. act.Put l) (IsTurn plan k x room) o → FindsOf kind.Put plan k x room o
  puts (Some a) (l, e, can, least) = (subst (IsTurn plan k x room) (sym e) can, ap kind_of e)
  puts None none = by_act
    where
      by_act : (a : Act) → kind_of a ≡ Some kind.Put → IsTurn plan k x room a → ⊥
      by_act (act.Proc m) e t = absurd (cc)
      by_act (act.Pass l) e t = absurd (cc)
      by_act (act.Put l) e t = none l t
      by_act (act.Fct l) e t = absurd (cc)
      by_act (act.Route i o) e t = absurd (cc)
      by_act (act.Take l w) e t = absurd (cc)

  pub grants : (o : Option Act) → FindsAt (λ l. act.Fct l) (IsTurn plan k x room) o → FindsOf kind.Fct plan k x room o
  grants (Some a) (l, e, can, least) = (subst (IsTurn plan k x room) (sym e) can, ap kind_of e)
  grants None none = by_act
    where
      by_act : (a : Act) → kind_of a ≡ Some kind.Fct → IsTurn plan k x room a → ⊥
      by_act (act.Proc m) e t = absurd (cc)
      by_act (act.Pass l) e t = absurd (cc)
      by_act (act.Put l) e t = absurd (cc)
      by_act (act.Fct l) e t = none l t
      by_act (act.Route i o) e t = absurd (cc)
      by_act (act.Take l w) e t = absurd (cc)

  -- of all kinds, where nothing is found of the others
  pub of_all : (o : Option Act) → FindsOf kind.Pass plan k x room None → FindsOf kind.Route plan k x room None → FindsOf kind.Put plan k x room None → FindsOf kind.Fct plan k x room None →
      FindsOf kind.Proc plan k x room o → FindsTurn plan k x room o
  of_all (Some a) f g h i j = j.0
  of_all None f g h i j = by_act
    where
      by_act : (a : Act) → IsTurn plan k x room a → ⊥
      by_act (act.Proc m) t = j (act.Proc m) refl t
      by_act (act.Pass l) t = f (act.Pass l) refl t
      by_act (act.Put l) t = h (act.Put l) refl t
      by_act (act.Fct l) t = i (act.Fct l) refl t
      by_act (act.Route i o) t = g (act.Route i o) refl t
      by_act (act.Take l w) t = t.lets

module _ (plan : network.Plan) (k : ℕ) (n : Node) (room : ℕ) where
  pub passes : (o : Option Act) → FindsAt (λ l. act.Pass l) (NodeCan plan k n) o → FindsOf kind.Pass plan k (OfNode n) room o
  passes (Some a) (l, e, can, least) = (subst (IsTurn plan k (OfNode n) room) (sym e) (record { can = can; lets = tt }), ap kind_of e)
  passes None none = by_act
    where
      by_act : (a : Act) → kind_of a ≡ Some kind.Pass → IsTurn plan k (OfNode n) room a → ⊥
      by_act (act.Proc m) e t = absurd (cc)
      by_act (act.Pass l) e t = none l t.can
      by_act (act.Put l) e t = absurd (cc)
      by_act (act.Fct l) e t = absurd (cc)
      by_act (act.Route i o) e t = absurd (cc)
      by_act (act.Take l w) e t = absurd (cc)

  pub moves : (o : Option Act) → FindsMove plan k n o → FindsOf kind.Proc plan k (OfNode n) room o
  moves (Some a) (m, e, can) = (subst (IsTurn plan k (OfNode n) room) (sym e) (record { can = can; lets = tt }), ap kind_of e)
  moves None none = by_act
    where
      by_act : (a : Act) → kind_of a ≡ Some kind.Proc → IsTurn plan k (OfNode n) room a → ⊥
      by_act (act.Proc m) e t = none m t.can
      by_act (act.Pass l) e t = absurd (cc)
      by_act (act.Put l) e t = absurd (cc)
      by_act (act.Fct l) e t = absurd (cc)
      by_act (act.Route i o) e t = absurd (cc)
      by_act (act.Take l w) e t = absurd (cc)

  pub only_moves : (o : Option Act) → IfSome o (λ a. FindsMove plan k n (Some a)) → IfSome o (λ a. IsTurn plan k (OfNode n) room a)
  only_moves (Some a) found = (moves (Some a) found).0
  only_moves None found = tt

  pub no_route : FindsOf kind.Route plan k (OfNode n) room None
  no_route = by_act
    where
      by_act : (a : Act) → kind_of a ≡ Some kind.Route → IsTurn plan k (OfNode n) room a → ⊥
      by_act (act.Route i o) e t = t.can
      by_act a e t = absurd (cc)

  -- what a node does: it binds no packet
  pub of_node : (o : Option Act) → FindsOf kind.Pass plan k (OfNode n) room None → FindsOf kind.Put plan k (OfNode n) room None → FindsOf kind.Fct plan k (OfNode n) room None → FindsOf kind.Proc plan k (OfNode n) room o →
      FindsTurn plan k (OfNode n) room o
  of_node o f h i j = of_all plan k (OfNode n) room o f no_route h i j

module _ (plan : network.Plan) (k : ℕ) (s : SwitchState) (room : ℕ) where
  pub passes_here : (o : Option Act) → FindsAt (λ l. act.Pass l) (SwitchCan s) o → FindsOf kind.Pass plan k (OfSwitch s) room o
  passes_here (Some a) (l, e, can, least) = (subst (IsTurn plan k (OfSwitch s) room) (sym e) (record { can = can; lets = tt }), ap kind_of e)
  passes_here None none = by_act
    where
      by_act : (a : Act) → kind_of a ≡ Some kind.Pass → IsTurn plan k (OfSwitch s) room a → ⊥
      by_act (act.Proc m) e t = absurd (cc)
      by_act (act.Pass l) e t = none l t.can
      by_act (act.Put l) e t = absurd (cc)
      by_act (act.Fct l) e t = absurd (cc)
      by_act (act.Route i o) e t = absurd (cc)
      by_act (act.Take l w) e t = absurd (cc)

  pub routes_here : (o : Option Act) → FindsRoute s o → FindsOf kind.Route plan k (OfSwitch s) room o
  routes_here (Some a) (l, p, e, can, first, least) = (subst (IsTurn plan k (OfSwitch s) room) (sym e) (record { can = can; lets = tt }), ap kind_of e)
  routes_here None none = by_act
    where
      by_act : (a : Act) → kind_of a ≡ Some kind.Route → IsTurn plan k (OfSwitch s) room a → ⊥
      by_act (act.Proc m) e t = absurd (cc)
      by_act (act.Pass l) e t = absurd (cc)
      by_act (act.Put l) e t = absurd (cc)
      by_act (act.Fct l) e t = absurd (cc)
      by_act (act.Route i o) e t = none i o t.can
      by_act (act.Take l w) e t = absurd (cc)

  pub no_move : FindsOf kind.Proc plan k (OfSwitch s) room None
  no_move = by_act
    where
      by_act : (a : Act) → kind_of a ≡ Some kind.Proc → IsTurn plan k (OfSwitch s) room a → ⊥
      by_act (act.Proc m) e t = t.can
      by_act a e t = absurd (cc)

  -- what a switch does: it has no process
  pub of_switch : (o : Option Act) → FindsOf kind.Pass plan k (OfSwitch s) room None → FindsOf kind.Route plan k (OfSwitch s) room None → FindsOf kind.Put plan k (OfSwitch s) room None → FindsOf kind.Fct plan k (OfSwitch s) room o →
      FindsTurn plan k (OfSwitch s) room o
  of_switch (Some a) f g h i = i.0
  of_switch None f g h i = of_all plan k (OfSwitch s) room None f g h i no_move

-- A turn.

turn_takes_none : (plan : network.Plan) (k : ℕ) (x : Acting) (room : ℕ) (b : Act) → IsTurn plan k x room b → TakesNone b
turn_takes_none plan k x room (act.Take l w) t = t.lets
turn_takes_none plan k x room a t = tt

pub turned : (plan : network.Plan) (k : ℕ) (x y : Acting) (room : ℕ) (b : Act) (t : Turn) → IsTurn plan k x room b → IsTold plan k x b t y → MakesTurn plan k x room t y
turned plan k x y room b turn.Idle is told = absurd (told (turn_takes_none plan k x room b is))
turned plan k x y room b (turn.Local a) is (same, made) = (subst (IsTurn plan k x room) (sym same) is, made)
turned plan k x y room b (turn.Put l a item) is (same, put) = (subst (IsTurn plan k x room) (sym same) is, put)

-- what a list has at a place does not depend on what would stand past it
pub same_there : {X : Type 0} (xs : List X) (i : ℕ) (d x : X) → i < length xs → get_or xs i x ≡ x → get_or xs i d ≡ x
same_there xs i d x less e =
    let q : Some (get_or xs i d) ≡ Some (get_or xs i x) = sym (slice_get-get_or xs i d less) ∙ slice_get-get_or xs i x less in
    let r : get_or xs i d ≡ get_or xs i x = cc in
    r ∙ e

pub found_move : (plan : network.Plan) (k : ℕ) (n : Node) (o : Option Act) → IfSome o (λ a. FindsMove plan k n (Some a)) → (o ≡ None → (m : Move) → CanMove plan k n m → ⊥) → FindsMove plan k n o
found_move plan k n (Some a) some none = some
found_move plan k n None some none = none refl
