-- The places promised are the credit, come or coming, and the tokens on the wire.
use Rattle.std.proofs.Common.{◌≡◌, ◌+◌, ◌*◌, ◌≤◌, List, [], ◌∷◌, ◌++◌, length, sym, ap, subst, ◌∙◌, arith, length-append}
use Rattle.vc_tokens.specs.Tokens.{Token, Fct, fcts, without_fcts}
use Rattle.vc_tokens.proofs.Spellings.{fcts-append, without_fcts-append}
use Rattle.vc_credit.specs.Ends.{Sender, Receiver}
use Rattle.vc_credit.specs.Credit.{IsUnderCredit}
use Rattle.vc_credit.specs.Laws.{Way, NeedsPlace, CreditStep, puts, takes, passes, puts_fct, takes_fct, other, CreditRun}

pub record Promised (a : Sender) (back wire : List Token) (r : Receiver) : Type 0 where
  pub same : r.promised ≡ a.credit + 8 * fcts back + length (without_fcts wire)
  pub fits : length r.buffer + r.promised ≤ 16

abbrev Holds : Way → Type 0
Holds w = Promised w.sender w.back w.wire w.receiver

fcts-push : (ts : List Token) → fcts (ts ++ Fct ∷ []) ≡ fcts ts + 1
fcts-push ts = fcts-append ts (Fct ∷ [])

-- a token that needs a place is one on the wire
one-more : (k : Token) (ts : List Token) → NeedsPlace k → length (without_fcts (k ∷ ts)) ≡ length (without_fcts ts) + 1
one-more k ts needs =
    let last : length (k ∷ without_fcts ts) ≡ length (without_fcts ts) + 1 = omega arith in
    ap length (without_fcts-append (k ∷ []) ts) ∙ ap (λ x. length (x ++ without_fcts ts)) needs ∙ last

pushed : (k : Token) (ts : List Token) → NeedsPlace k → length (without_fcts (ts ++ k ∷ [])) ≡ length (without_fcts ts) + 1
pushed k ts needs =
    ap length (without_fcts-append ts (k ∷ [])) ∙ ap (λ x. length (without_fcts ts ++ x)) needs ∙ length-append (without_fcts ts) (k ∷ [])

step_holds : (v w : Way) → Holds v → CreditStep v w → Holds w
step_holds v w h (puts k sender needs some credit after) =
    let one = pushed k v.wire needs in
    let P : Way → Type 0 = λ u. Holds u in
    subst P (sym after) (record { same = (let s = h.same in omega arith); fits = h.fits })
step_holds v w h (takes k rest needs front after) =
    let one = one-more k rest needs in
    let on = ap (λ ts. length (without_fcts ts)) front in
    let long = length-append v.receiver.buffer (k ∷ []) in
    let P : Way → Type 0 = λ u. Holds u in
    subst P (sym after) (record { same = (let s = h.same in omega arith); fits = (let s = h.same in let f = h.fits in omega arith) })
step_holds v w h (passes k receiver passed after) =
    let long = ap length passed.front in
    let same = passed.promised in
    let P : Way → Type 0 = λ u. Holds u in
    subst P (sym after) (record { same = (let s = h.same in omega arith); fits = (let f = h.fits in omega arith) })
step_holds v w h (puts_fct receiver grants after) =
    let one = fcts-push v.back in
    let room = grants.room in
    let promised = ap (λ (r : Receiver). r.promised) grants.after in
    let buffer = ap (λ (r : Receiver). length r.buffer) grants.after in
    let P : Way → Type 0 = λ u. Holds u in
    subst P (sym after) (record { same = (let s = h.same in omega arith); fits = (let f = h.fits in omega arith) })
step_holds v w h (takes_fct rest front after) =
    let one = ap fcts front in
    let P : Way → Type 0 = λ u. Holds u in
    subst P (sym after) (record { same = (let s = h.same in omega arith); fits = h.fits })
step_holds v w h (other back wire same_back same_wire after) =
    let one = ap length same_wire in
    let P : Way → Type 0 = λ u. Holds u in
    subst P (sym after) (record { same = (let s = h.same in omega arith); fits = h.fits })

run_holds : (before : List Way) (w : Way) → CreditRun before w → Holds w
run_holds [] w start = let P : Way → Type 0 = λ u. Holds u in subst P (sym start) (record { same = omega arith; fits = omega arith })
run_holds (v ∷ before) w run = step_holds v w (run_holds before v run.0) run.1

under : (w : Way) → Holds w → IsUnderCredit w.sender w.back w.wire w.receiver
under w h =
    let s = h.same in
    let f = h.fits in
    record {
      within = omega arith;
      place = λ k rest needs front. (let one = one-more k rest needs in let on = ap (λ ts. length (without_fcts ts)) front in (omega arith, omega arith));
      low = λ rest front. (let one = ap fcts front in omega arith);
    }

pub credit_kept : (before : List Way) (w : Way) → CreditRun before w → IsUnderCredit w.sender w.back w.wire w.receiver
credit_kept before w run = under w (run_holds before w run)
