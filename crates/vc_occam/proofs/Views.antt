-- What frames stand for.
use Rattle.std.proofs.Common.{◌≡◌, ◌∙◌, ℕ, zero, suc, ◌<◌, Bool, ap, sym, arith, get_or, length, List, [], ◌∷◌, map, Some}
use Rattle.std.specs.Prelude.{slice_get}
use Rattle.vc_occam.specs.declared.frame.Frame.{Frame}
use Rattle.vc_occam.specs.declared.frame.Frame.TheOpen.{Frame-F}
use Rattle.vc_occam.specs.declared.frame.Frame.TheViews.{out-Frame, roll-Frame, roll-out-Frame}
use Rattle.vc_occam.specs.declared.frame.Frame.TheFolds.{fold-roll-Frame}
use Rattle.vc_occam.specs.declared.frame.Construct.{Construct}
use Rattle.vc_occam.specs.declared.frame.Construct.TheVariants as run
use Rattle.vc_occam.specs.Frames.{View, view, view_of, view_step}
use Rattle.vc_occam.specs.Private.Frames.{shape}

made : (i : ℕ) (st : Bool) (c : Construct Frame) → view (roll-Frame (record { site = i; stopped = st; construct = c })) ≡ view_of i st (shape c)
unfolding view view_step
made i st run.Skip = fold-roll-Frame View view_step (record { site = i; stopped = st; construct = run.Skip })
made i st c = fold-roll-Frame View view_step (record { site = i; stopped = st; construct = c })

-- a frame stands for what it is made of
pub view_roll : (f : Frame-F Frame) → view (roll-Frame f) ≡ view_of f.site f.stopped (shape f.construct)
view_roll f = made f.site f.stopped f.construct

pub view_out : (f : Frame) → view f ≡ view_of (out-Frame f).site (out-Frame f).stopped (shape (out-Frame f).construct)
view_out f = ap view (sym (roll-out-Frame f)) ∙ view_roll (out-Frame f)

-- an element of a list, as what it stands for
pub map_get : {A B : Type 0} (m : A → B) (xs : List A) (k : ℕ) (x : A) → k < length xs → x ≡ get_or xs k x → slice_get (map m xs) k ≡ Some (m x)
map_get m [] k x l h = absurd (omega arith)
map_get m (y ∷ xs) zero x l h = ap (λ z. Some (m z)) (sym h)
map_get m (y ∷ xs) (suc k) x l h = map_get m xs k x (omega arith) h
