-- A place of an output on a channel, of an input on it, of a change of a variable and of a use of it.
use Rattle.std.proofs.Common.{◌≡◌, ℕ, ◌==◌, Bool, true, false, ◌||◌, refl, ap, sym, [], List}
use Rattle.std.proofs.Math.Bool.{or-false}
use Rattle.std.specs.Option.{is_some}
use Rattle.vc_process.specs.Lawful.{inputs, inputs_all, inputs_branches, inputs_guards, outputs, outputs_all, outputs_branches, outputs_guards}
use Rattle.vc_process.specs.Syntax.{Proc}
use Rattle.vc_process.specs.Usage.{changes, changes_all, changes_branches, changes_guards, in_exp, in_given, in_test, uses, uses_all, uses_branches, uses_guards}
use Rattle.vc_reader.specs.declared.path.Step.{Step}
use Rattle.vc_explain.specs.declared.wanted.Wanted.TheVariants as wanted
use Rattle.vc_explain.specs.Uses.{place}
use Rattle.vc_explain.proofs.Coverage.{Covers, covered}

-- one thing or another
either : (a b : Bool) → (a || b) ≡ (a || (b || false))
either a b = ap (λ c. a || c) (sym (or-false b))

any_of : (a b c : Bool) → (a || (b || c)) ≡ (a || (b || (c || false)))
any_of a b c = ap (λ d. a || (b || d)) (sym (or-false c))

swapped : (v t p r : Bool) → (((v || t) || p) || r) ≡ (((t || (false || (v || false))) || p) || r)
swapped true true p r = refl
swapped true false p r = refl
swapped false true p r = refl
swapped false false p r = refl

first_false : (a : Bool) → a ≡ (a || false)
first_false a = sym (or-false a)

pub outputs_cover : (c : ℕ) → Covers (wanted.Output c) [] (λ p. outputs p c) (λ ps. outputs_all ps c) (λ bs. outputs_branches bs c) (λ gs. outputs_guards gs c)
outputs_cover c = record {
  skip = λ i. refl;
  stop = λ i. refl;
  assign = λ i v a. refl;
  outputs = λ i d a. first_false (c == d);
  inputs = λ i d v. refl;
  stops = λ i d. refl;
  seq = λ i ps. refl;
  par = λ i ps. refl;
  choice = λ i bs. refl;
  loop = λ i t p. refl;
  count = λ i v a n p. refl;
  alt = λ i gs. refl;
  no_part = refl;
  a_part = λ p ps. refl;
  no_branch = refl;
  a_branch = λ t p bs. refl;
  no_guard = refl;
  a_guard = λ t d v p gs. refl;
}

pub inputs_cover : (c : ℕ) → Covers (wanted.Input c) [] (λ p. inputs p c) (λ ps. inputs_all ps c) (λ bs. inputs_branches bs c) (λ gs. inputs_guards gs c)
inputs_cover c = record {
  skip = λ i. refl;
  stop = λ i. refl;
  assign = λ i v a. refl;
  outputs = λ i d a. refl;
  inputs = λ i d v. first_false (c == d);
  stops = λ i d. refl;
  seq = λ i ps. refl;
  par = λ i ps. refl;
  choice = λ i bs. refl;
  loop = λ i t p. refl;
  count = λ i v a n p. refl;
  alt = λ i gs. refl;
  no_part = refl;
  a_part = λ p ps. refl;
  no_branch = refl;
  a_branch = λ t p bs. refl;
  no_guard = refl;
  a_guard = λ t d v p gs. ap (λ b. (b || inputs p c) || inputs_guards gs c) (first_false (c == d));
}

pub changes_cover : (k : ℕ) → Covers (wanted.Change k) [] (λ p. changes p k) (λ ps. changes_all ps k) (λ bs. changes_branches bs k) (λ gs. changes_guards gs k)
changes_cover k = record {
  skip = λ i. refl;
  stop = λ i. refl;
  assign = λ i v a. first_false (k == v);
  outputs = λ i d a. refl;
  inputs = λ i d v. first_false (k == v);
  stops = λ i d. refl;
  seq = λ i ps. refl;
  par = λ i ps. refl;
  choice = λ i bs. refl;
  loop = λ i t p. refl;
  count = λ i v a n p. ap (λ b. b || changes p k) (first_false (k == v));
  alt = λ i gs. refl;
  no_part = refl;
  a_part = λ p ps. refl;
  no_branch = refl;
  a_branch = λ t p bs. refl;
  no_guard = refl;
  a_guard = λ t d v p gs. ap (λ b. (b || changes p k) || changes_guards gs k) (first_false (k == v));
}

pub uses_cover : (k : ℕ) → Covers (wanted.Use k) [] (λ p. uses p k) (λ ps. uses_all ps k) (λ bs. uses_branches bs k) (λ gs. uses_guards gs k)
uses_cover k = record {
  skip = λ i. refl;
  stop = λ i. refl;
  assign = λ i v a. either (k == v) (in_given a k);
  outputs = λ i d a. first_false (in_given a k);
  inputs = λ i d v. first_false (k == v);
  stops = λ i d. refl;
  seq = λ i ps. refl;
  par = λ i ps. refl;
  choice = λ i bs. refl;
  loop = λ i t p. ap (λ b. b || uses p k) (first_false (in_test t k));
  count = λ i v a n p. ap (λ b. b || uses p k) (any_of (k == v) (in_exp a k) (in_exp n k));
  alt = λ i gs. refl;
  no_part = refl;
  a_part = λ p ps. refl;
  no_branch = refl;
  a_branch = λ t p bs. ap (λ b. (b || uses p k) || uses_branches bs k) (first_false (in_test t k));
  no_guard = refl;
  a_guard = λ t d v p gs. swapped (k == v) (in_test t k) (uses p k) (uses_guards gs k);
}

pub output_place : (c : ℕ) (p : Proc) (at : List Step) → is_some (place (wanted.Output c) [] p at) ≡ outputs p c
output_place c = covered (wanted.Output c) [] (λ p. outputs p c) (λ ps. outputs_all ps c) (λ bs. outputs_branches bs c) (λ gs. outputs_guards gs c) (outputs_cover c)

pub input_place : (c : ℕ) (p : Proc) (at : List Step) → is_some (place (wanted.Input c) [] p at) ≡ inputs p c
input_place c = covered (wanted.Input c) [] (λ p. inputs p c) (λ ps. inputs_all ps c) (λ bs. inputs_branches bs c) (λ gs. inputs_guards gs c) (inputs_cover c)

pub change_place : (v : ℕ) (p : Proc) (at : List Step) → is_some (place (wanted.Change v) [] p at) ≡ changes p v
change_place v = covered (wanted.Change v) [] (λ p. changes p v) (λ ps. changes_all ps v) (λ bs. changes_branches bs v) (λ gs. changes_guards gs v) (changes_cover v)

pub use_place : (v : ℕ) (p : Proc) (at : List Step) → is_some (place (wanted.Use v) [] p at) ≡ uses p v
use_place v = covered (wanted.Use v) [] (λ p. uses p v) (λ ps. uses_all ps v) (λ bs. uses_branches bs v) (λ gs. uses_guards gs v) (uses_cover v)
