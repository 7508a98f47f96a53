-- What a loop gathers of a list, with what is still to come of it: one item on, and at the list's end.
use Rattle.std.proofs.Common.{◌≡◌, ◌∙◌, ◌<◌, ◌≤◌, ◌+◌, ◌==◌, ℕ, suc, Bool, true, false, List, [], ◌∷◌, ◌++◌, length, drop, get_or, slice_get, Option, Some, refl, sym, ap, add-one, arith, if◌then◌else◌}
use Rattle.std.specs.Prelude.{All}
use Rattle.std.proofs.lemmas.List.Elements.{All-push, All-weaker}
use Rattle.std.proofs.lemmas.Option.{slice_get_read}
use Rattle.std.proofs.lemmas.List.{append_assoc, append-nil, at_drop_more, at_drop_all}
use Rattle.vc_plan.specs.declared.channel.Channel.{Channel}
use Rattle.vc_plan.specs.declared.vlink.Vlink.{Vlink}
use Rattle.vc_vcp.specs.declared.end.End.{End as Given}
use Rattle.vc_accepted.specs.NodeEnds.{end_given, ends_among, with_end}
use Rattle.vc_accepted.specs.Begin.{is_inside, numbers_inside}
use Rattle.vc_actor.specs.Private.Begin.{given_to}
use Rattle.vc_actor.specs.Private.Inside.{opened_inside, opened_internal}
use Rattle.vc_actor.specs.declared.inside.Internal.{Internal}

-- what a loop reads of a list stands there
pub stands_at : {A : Type 0} (xs vs : List A) (i : ℕ) (a : A) → xs ≡ vs → i < length xs → a ≡ get_or xs i a → slice_get vs i ≡ Some a
stands_at xs vs i a same less is = sym (ap (λ z. slice_get z i) same) ∙ slice_get_read xs (length xs) i a refl less is

-- what is still to come of the rest of a list, whose items are numbered from i on
pub gathered_all : {A B : Type 0} (f : ℕ → List A → List B) (i : ℕ) (vs : List A) (xs all : List B) → f i [] ≡ [] → length vs ≤ i → xs ++ f i (drop i vs) ≡ all → xs ≡ all
gathered_all f i vs xs all none past so_far = sym (append-nil xs) ∙ ap (λ ys. xs ++ ys) (sym (at_drop_all (f i) vs i past ∙ none)) ∙ so_far

pub gathered_more : {A B : Type 0} (f : ℕ → List A → List B) (i : ℕ) (vs : List A) (a : A) (more xs ys all : List B) → i < length vs → a ≡ get_or vs i a →
    ((rest : List A) → f i (a ∷ rest) ≡ more ++ f (suc i) rest) → ys ≡ xs ++ more → xs ++ f i (drop i vs) ≡ all → ys ++ f (i + 1) (drop (i + 1) vs) ≡ all
gathered_more f i vs a more xs ys all less is step grows so_far =
    let rest = drop (i + 1) vs in
    let here : f i (drop i vs) ≡ more ++ f (suc i) rest = at_drop_more (f i) vs i a less ∙ ap (λ x. f i (x ∷ rest)) (sym is) ∙ step rest in
    ap (λ k. ys ++ f k rest) (add-one i) ∙ ap (λ zs. zs ++ f (suc i) rest) grows ∙ append_assoc xs more (f (suc i) rest) ∙ ap (λ zs. xs ++ zs) (sym here) ∙ so_far

-- the ends of a node
in_front : (b : Bool) (g : Given) (rest : List Given) → (if b then g ∷ rest else rest) ≡ (if b then g ∷ [] else []) ++ rest
in_front true g rest = refl
in_front false g rest = refl

pub ends_of_one : (on : ℕ → Bool → Option ℕ) (n i : ℕ) (x : Vlink) (rest : List Vlink) →
    ends_among on n i (x ∷ rest) ≡ (given_to n x.a (on i true) (on i false) ++ given_to n x.b (on i false) (on i true)) ++ ends_among on n (suc i) rest
ends_of_one on n i x rest =
    let others = ends_among on n (suc i) rest in
    let a = given_to n x.a (on i true) (on i false) in
    let b = given_to n x.b (on i false) (on i true) in
    in_front (x.a.node == n) (end_given on i x true) (with_end on n i x false others) ∙ ap (λ zs. a ++ zs) (in_front (x.b.node == n) (end_given on i x false) others) ∙ sym (append_assoc a b others)

pub ends_more : (on : ℕ → Bool → Option ℕ) (n i : ℕ) (vs : List Vlink) (x : Vlink) (xs ys zs all : List Given) (from_a from_b : Option ℕ) → i < length vs → x ≡ get_or vs i x →
    from_a ≡ on i true → from_b ≡ on i false → ys ≡ xs ++ given_to n x.a from_a from_b → zs ≡ ys ++ given_to n x.b from_b from_a →
    xs ++ ends_among on n i (drop i vs) ≡ all → zs ++ ends_among on n (i + 1) (drop (i + 1) vs) ≡ all
ends_more on n i vs x xs ys zs all from_a from_b less is a b one two so_far =
    let one_end : ys ≡ xs ++ given_to n x.a (on i true) (on i false) = one ∙ ap (λ o. xs ++ given_to n x.a o from_b) a ∙ ap (λ o. xs ++ given_to n x.a (on i true) o) b in
    let two_ends : zs ≡ ys ++ given_to n x.b (on i false) (on i true) = two ∙ ap (λ o. ys ++ given_to n x.b o from_a) b ∙ ap (λ o. ys ++ given_to n x.b (on i false) o) a in
    let both = two_ends ∙ ap (λ es. es ++ given_to n x.b (on i false) (on i true)) one_end ∙ append_assoc xs (given_to n x.a (on i true) (on i false)) (given_to n x.b (on i false) (on i true)) in
    gathered_more (ends_among on n) i vs x _ xs zs all less is (ends_of_one on n i x) both so_far

-- the channels inside a node, where a test has told of one whether it is
pub number_more : (n c : ℕ) (cs : List Channel) (x : Channel) (b : Bool) (xs ys all : List ℕ) → c < length cs → x ≡ get_or cs c x → is_inside n x.home ≡ b → ys ≡ xs ++ (if b then c ∷ [] else []) →
    xs ++ numbers_inside n c (drop c cs) ≡ all → ys ++ numbers_inside n (c + 1) (drop (c + 1) cs) ≡ all
number_more n c cs x b xs ys all less is told grows so_far =
    gathered_more (numbers_inside n) c cs x (if b then c ∷ [] else []) xs ys all less is (λ rest. ap (λ t. (if t then c ∷ [] else []) ++ numbers_inside n (suc c) rest) told) grows so_far

pub opened_more : (n c : ℕ) (cs : List Channel) (x : Channel) (b : Bool) (xs ys all : List Internal) → c < length cs → x ≡ get_or cs c x → is_inside n x.home ≡ b → ys ≡ xs ++ (if b then opened_internal c ∷ [] else []) →
    xs ++ opened_inside n c (drop c cs) ≡ all → ys ++ opened_inside n (c + 1) (drop (c + 1) cs) ≡ all
opened_more n c cs x b xs ys all less is told grows so_far =
    gathered_more (opened_inside n) c cs x (if b then opened_internal c ∷ [] else []) xs ys all less is (λ rest. ap (λ t. (if t then opened_internal c ∷ [] else []) ++ opened_inside n (suc c) rest) told) grows so_far

-- and their numbers are below the next one
pub before_more : (c : ℕ) (xs : List Internal) → All (λ x. x.chan < c) xs → All (λ x. x.chan < c + 1) xs
before_more c xs before = All-weaker (λ x. x.chan < c) (λ x. x.chan < c + 1) (λ x less. omega arith) xs before

pub before_one : (c : ℕ) (xs : List Internal) → All (λ x. x.chan < c) xs → All (λ x. x.chan < c + 1) (xs ++ opened_internal c ∷ [])
before_one c xs before = All-push (λ x. x.chan < c + 1) xs (opened_internal c) (before_more c xs before) (omega arith)
