-- The moves of a process that has one, and of two parts side by side that have one each.
use Rattle.std.proofs.Common.{◌≡◌, ◌∙◌, ◌++◌, append-nil, ap, refl, sym, ℕ, ◌==◌, true, List, [], ◌∷◌, length, get_or, Option, Some, None, arith}
use Rattle.std.proofs.lemmas.Bool.Decides.{nat_tests}
use Rattle.std.specs.Prelude.{IfSome}
use Rattle.vc_occam.specs.declared.frame.Frame.{Frame}
use Rattle.vc_occam.specs.declared.frame.Task.{Task}
use Rattle.vc_occam.specs.declared.moves.Move.{Move}
use Rattle.vc_occam.specs.declared.moves.Move.TheVariants as move
use Rattle.vc_occam.specs.First.{joined, own}
use Rattle.vc_occam.specs.Frames.{besides}
use Rattle.vc_occam.specs.Private.Frames.{shown, task_views}
use Rattle.vc_occam.specs.Private.MoveSites.{MeetAlone}
use Rattle.vc_process.specs.Usage.{Set, changes}
use Rattle.vc_process.specs.Values.{Store}
use Rattle.vc_occam.proofs.SideBySide.{beside_own}

pub met_same : (o : Option Move) (inside : Set) (xs ys : List Move) → xs ≡ ys → IfSome o (λ m. joined inside ys ys ≡ m ∷ []) → IfSome o (λ m. joined inside xs xs ≡ m ∷ [])
met_same None inside xs ys h q = tt
met_same (Some m) inside xs ys h q = ap (λ ms. joined inside ms ms) h ∙ q

-- two parts have the moves of both
pub two_own : (ts : List (Task Frame)) (t u : Task Frame) (e : Store) → length ts ≡ 2 → t ≡ get_or ts 0 t → u ≡ get_or ts 1 u → own (besides (task_views ts)) e ≡ own (shown t).rest e ++ own (shown u).rest e
two_own (x ∷ y ∷ []) t u e l a b =
    let first = ap (λ (s : Task Frame). own (shown s).rest e) (sym a) in
    let second = ap (λ (s : Task Frame). own (shown s).rest e) (sym b) in
    let ms = own (shown x).rest e in
    let ns = own (shown y).rest e in
    let alone = beside_own (changes (shown y).plan) (shown y).rest (besides []) e ∙ append-nil ns in
    beside_own (changes (shown x).plan) (shown x).rest (besides (task_views (y ∷ []))) e ∙ ap (λ zs. ms ++ zs) alone ∙ ap (λ zs. zs ++ ns) first ∙ ap (λ zs. own (shown t).rest e ++ zs) second
two_own x t u e l a b = absurd (omega (arith, l))

same_chan : (c : ℕ) → (c == c) ≡ true
same_chan c = grind (arith, nat_tests)

module _ (inside : Set) (i j c : ℕ) (within : inside c ≡ true) where
  met : List Move
  met = move.Inner i j None c ∷ []

  pub output_first : joined inside (move.Offer i c ∷ move.Want j c ∷ []) (move.Offer i c ∷ move.Want j c ∷ []) ≡ move.Inner i j None c ∷ []
  output_first = rw within (rw (same_chan c) refl)

  pub input_first : joined inside (move.Want j c ∷ move.Offer i c ∷ []) (move.Want j c ∷ move.Offer i c ∷ []) ≡ move.Inner i j None c ∷ []
  input_first = rw within (rw (same_chan c) refl)

-- an output alone and an input alone come to their meeting, whichever stands first
pub met_after : (inside : Set) (xs ys : List Move) (m : Move) → MeetAlone inside xs ys m → joined inside (xs ++ ys) (xs ++ ys) ≡ m ∷ []
met_after inside xs ys m h =
    ap (λ zs. joined inside zs zs) (ap (λ zs. zs ++ ys) h.output ∙ ap (λ zs. move.Offer h.sender h.chan ∷ zs) h.input)
    ∙ output_first inside h.sender h.receiver h.chan h.within ∙ ap (λ x. x ∷ []) (sym h.is)

pub met_before : (inside : Set) (xs ys : List Move) (m : Move) → MeetAlone inside xs ys m → joined inside (ys ++ xs) (ys ++ xs) ≡ m ∷ []
met_before inside xs ys m h =
    ap (λ zs. joined inside zs zs) (ap (λ zs. zs ++ xs) h.input ∙ ap (λ zs. move.Want h.receiver h.chan ∷ zs) h.output)
    ∙ input_first inside h.sender h.receiver h.chan h.within ∙ ap (λ x. x ∷ []) (sym h.is)

pub met_of_turned : (o : Option Move) (inside : Set) (all xs ys : List Move) → all ≡ ys ++ xs → IfSome o (MeetAlone inside xs ys) → IfSome o (λ m. joined inside all all ≡ m ∷ [])
met_of_turned None inside all xs ys h q = tt
met_of_turned (Some m) inside all xs ys h q = ap (λ zs. joined inside zs zs) h ∙ met_before inside xs ys m q
