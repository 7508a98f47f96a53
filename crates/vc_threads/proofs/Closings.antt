-- How a run closes, by why its workers ended.
use Rattle.std.proofs.Common.{◌≡◌, ◌≢◌, ℕ, ◌+◌, ◌<◌, List, length, get_or, inl, inr, Option, Some, None, IfSome, IsNone, true, false, refl, sym, subst, arith}
use Rattle.std.specs.Option.{is_some}
use Rattle.std.proofs.lemmas.Bool.{cases_eq}
use Rattle.std.proofs.lemmas.List.{get_or-map}
use Rattle.vc_core.specs.declared.close.Close.{Close}
use Rattle.vc_core.specs.declared.close.Close.TheVariants.{Done}
use Rattle.vc_threads.specs.Close.{ClosesBy, NoneStopped, SomeStopped}
use Rattle.vc_threads.specs.Private.Close.{stop_in, stop_at}
use Rattle.vc_threads.specs.declared.run.ActorRun.{ActorRun}
use Rattle.vc_threads.specs.declared.run.Stop.{Stop}
use Rattle.vc_threads.specs.declared.run.Stop.TheVariants.{Turns}

pub stop_of : {L : Type 0} (rs : List (ActorRun L)) (k : ℕ) (d : ActorRun L) → k < length rs → stop_at rs k ≡ (get_or rs k d).stop
stop_of rs k d within = get_or-map stop_in rs k d Turns within

-- one worker more did not end so
pub none_more : (n : ℕ) (stops : ℕ → Stop) (stop : Stop) → NoneStopped n stops stop → stops n ≢ stop → NoneStopped (n + 1) stops stop
none_more n stops stop none ne k less = elim (cases_eq k n) [
  | inl same ↦ subst (λ j. stops j ≢ stop) (sym same) ne
  | inr other ↦ none k (omega (arith, less, other))
]

-- such a close is not Done
pub not_done : (n : ℕ) (stops : ℕ → Stop) (close : Close) → ClosesBy n stops close → close ≢ Done
not_done n stops close by e = subst (ClosesBy n stops) e by

-- a worker ended so where one is told
pub some_stopped : (n : ℕ) (stops : ℕ → Stop) (stop : Stop) (first : Option ℕ) → is_some first ≡ true
    → IfSome first (λ k. (k < n) × (stops k ≡ stop) × NoneStopped k stops stop) → SomeStopped n stops stop
some_stopped n stops stop (Some k) is (less, at, none) = (k, less, at)
some_stopped n stops stop None is h = absurd (let f : false ≡ true = is in cc)

-- and none did where none is
pub none_stopped : (n : ℕ) (stops : ℕ → Stop) (stop : Stop) (first : Option ℕ) → is_some first ≡ false → (IsNone first → NoneStopped n stops stop) → NoneStopped n stops stop
none_stopped n stops stop None is none = none refl
none_stopped n stops stop (Some k) is none = absurd (let f : true ≡ false = is in cc)
