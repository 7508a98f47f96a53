use Rattle.std.proofs.Common.{◌≡◌, ◌∙◌, ℕ, List, [], ◌∷◌, ◌++◌, length, Option, Some, None, if◌then◌else◌, sym, ap}
use Rattle.std.specs.Str.{bytes_eq}
use Rattle.std.specs.Option.{option_or}
use Rattle.vc_reader.specs.Names.{position_of}
use Rattle.vc_reader.proofs.Numbers.{position_of_more}
use Rattle.vc_reader.proofs.register.Register.with.Goals as goal

-- a name's number with one more thing behind the others
with-more : {A : Type 0} (name_of : A → List ℕ) (items more : List A) (x : A) (q name : List ℕ) (n : ℕ) (after before : Option ℕ) → after ≡ option_or before (if bytes_eq q name then Some n else None) →
    before ≡ position_of name_of items q → name ≡ name_of x → n ≡ length items → more ≡ items ++ x ∷ [] → after ≡ position_of name_of more q
with-more name_of items more x q name n after before a b e l m =
    a ∙ ap (λ o. option_or o (if bytes_eq q name then Some n else None)) b
    ∙ ap (λ s. option_or (position_of name_of items q) (if bytes_eq q s then Some n else None)) e
    ∙ ap (λ k. option_or (position_of name_of items q) (if bytes_eq q (name_of x) then Some k else None)) l
    ∙ sym (position_of_more name_of items x q) ∙ sym (ap (λ ys. position_of name_of ys q) m)

pub invariant_of-result : goal.invariant_of-result
invariant_of-result g c = λ q.
    with-more g.T.Named.name_of c.self.inside.items c.push.new.self c.args.item q c.name.result.now c.len.result _ _
    (c.in_ok-numbers.ensures q) (c.self.invariant q) c.name.ensures c.len.ensures c.in_ok-push.ensures.ok
