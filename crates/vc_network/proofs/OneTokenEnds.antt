-- The next token to put is one.
use Rattle.std.proofs.Common.{◌≡◌, ℕ, ◌-◌, List, [], ◌∷◌, ◌++◌, Option, sym, ap, ◌∙◌, append-nil}
use Rattle.std.proofs.lemmas.Option.{same_Some}
use Rattle.vc_packets.specs.declared.mark.Mark.{Mark}
use Rattle.vc_machine.proofs.Basics.{head_same, append_cancel}
use Rattle.vc_tokens.specs.Tokens.{Token, Byte, EndMark}
use Rattle.vc_credit.specs.Ends.{Sender, Puts, puts_byte, puts_mark}

no_more : (b : ℕ) (more : List ℕ) → b ∷ more ≡ [] → ⊥
no_more b more e = absurd (cc)

pub puts_same : (a : Sender) (body : List ℕ) (mark : Option Mark) (k k' : Token) (x x' : Sender) → Puts a body mark k x → Puts a body mark k' x' → (k ≡ k') × (x ≡ x')
puts_same a body mark k k' x x' (puts_byte b more c e is h) (puts_byte b' more' c' e' is' h') =
    let s = head_same b b' more more' (append_cancel a.sent (b ∷ more) (b' ∷ more') (sym e ∙ e')) in
    (is ∙ ap Byte s ∙ sym is', h ∙ ap (λ z. record { sent = a.sent ++ z ∷ []; credit = a.credit - 1 }) s ∙ sym h')
puts_same a body mark k k' x x' (puts_byte b more c e is h) (puts_mark m c' e' some is' h') = absurd (no_more b more (append_cancel a.sent (b ∷ more) [] (sym e ∙ e' ∙ sym (append-nil a.sent))))
puts_same a body mark k k' x x' (puts_mark m c e some is h) (puts_byte b more c' e' is' h') = absurd (no_more b more (append_cancel a.sent (b ∷ more) [] (sym e' ∙ e ∙ sym (append-nil a.sent))))
puts_same a body mark k k' x x' (puts_mark m c e some is h) (puts_mark m' c' e' some' is' h') = (is ∙ ap EndMark (same_Some m m' (sym some ∙ some')) ∙ sym is', h ∙ sym h')
