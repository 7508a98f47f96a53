-- Runs that grow by one step at the end, as in a loop.
use Rattle.std.proofs.Common.{List, [], ◌∷◌, ◌++◌, refl}
use Rattle.vc_network.specs.Actors.{Steps, Step, Network}
use Rattle.vc_network.specs.Private.Actors.{Run, Event}
use Rattle.vc_network.proofs.Lifts.{run_alike}
use Rattle.vc_network.proofs.Determinism.{Alike-sym}

Run-append : {State Act Item : Type 0} (Local : Steps State Act Item) (old mid new : Network State Item) (es fs : List (Event Act Item))
    → Run Local old es mid → Run Local mid fs new → Run Local old (es ++ fs) new
Run-append Local old mid new [] fs a r = run_alike Local mid old new fs (Alike-sym old mid a) r
Run-append Local old mid new (e ∷ es) fs s r = (s.0, s.1, Run-append Local s.0 mid new es fs s.2 r)

pub Run-more : {State Act Item : Type 0} (Local : Steps State Act Item) (old mid new : Network State Item) (es : List (Event Act Item)) (e : Event Act Item)
    → Run Local old es mid → Step Local mid e.actor e.label new → Run Local old (es ++ e ∷ []) new
Run-more Local old mid new es e r s = Run-append Local old mid new es (e ∷ []) r (new, s, record { states = λ actor. refl; ways = λ way. refl })
