-- Tokens are laid on the ways, one way after another.
use Rattle.std.proofs.Common.{◌≡◌, ℕ, suc, ◌+◌, ◌*◌, ◌<◌, ◌≤◌, List, [], ◌∷◌, ◌++◌, length, map, take, slice_get, slice_set, Some, refl, sym, ap, ◌∙◌, arith, append_assoc, length-append}
use Rattle.std.specs.List.{AllByRecursion}
use Rattle.std.proofs.lemmas.List.{append-nil, set-set, map-append, length-map, length-set, length-take}
use Rattle.std.proofs.lemmas.Option.{slice_get_within}
use Rattle.std.specs.Global.{Vec}
use Rattle.vc_accepted.specs.NetworkOf.{network_of, wire_of}
use Rattle.vc_plan.specs.Accepted.{IsAccepted}
use Rattle.vc_plan.specs.declared.plan.Plan.{Plan}
use Rattle.vc_tokens.specs.Tokens.{Token}
use Rattle.vc_tokens.specs.CodeTokens.{token as spelt, tokens as all_spelt}
use Rattle.vc_tokens.specs.declared.token.Token.{Token as Made}
use Rattle.vc_vcp.proofs.ListWrites.{place-set_same, set_back}
use Rattle.vc_core.specs.Channels.{AreChannelsOf}
use Rattle.vc_core.specs.Lines.{Lined}
use Rattle.vc_core.specs.Private.Lines.{with_way}
use Rattle.vc_actor.specs.OfPlan.{IsActorOf}
use Rattle.vc_actor.specs.ActorView.{Acting}
use Rattle.vc_core.specs.State.{State, IsNetworkOf}
use Rattle.vc_core.specs.Wiring.{AreWaysAt}
use Rattle.vc_core.proofs.ReplayRuns.{take_more, all_taken}

-- to lay no token changes nothing
pub none_laid : (x : Lined) (way : ℕ) (ts : List Token) → slice_get x.ways way ≡ Some ts → x ≡ with_way x way (ts ++ [])
none_laid x way ts stand = λ i. record { ways = sym (set_back x.ways way ts (ts ++ []) stand (append-nil ts)) i; wiring = x.wiring }

-- one token more
pub one_laid : (old x new : Lined) (way n : ℕ) (ts : List Token) (line : List Made) (t : Made) → slice_get line n ≡ Some t → x ≡ with_way old way (ts ++ all_spelt (take n line))
    → new ≡ with_way x way ((ts ++ all_spelt (take n line)) ++ spelt t ∷ []) → new ≡ with_way old way (ts ++ all_spelt (take (n + 1) line))
one_laid old x new way n ts line t here is new_is =
    let so = ts ++ all_spelt (take n line) in
    let next : n + 1 ≡ suc n = omega arith in
    let more : so ++ spelt t ∷ [] ≡ ts ++ all_spelt (take (n + 1) line) =
    append_assoc ts (all_spelt (take n line)) (spelt t ∷ []) ∙ ap (λ z. ts ++ z) (sym (ap (λ k. all_spelt (take k line)) next ∙ ap all_spelt (take_more line n t here) ∙ map-append spelt (take n line) (t ∷ []))) in
    new_is ∙ ap (λ z. with_way z way (so ++ spelt t ∷ [])) is
    ∙ (λ i. record { ways = set-set old.ways way so (so ++ spelt t ∷ []) i; wiring = old.wiring })
    ∙ ap (with_way old way) more

-- the tokens stand on the way now
pub stand_now : (old x : Lined) (way : ℕ) (ts : List Token) → way < length old.ways → x ≡ with_way old way ts → slice_get x.ways way ≡ Some ts
stand_now old x way ts less is = ap (λ (z : Lined). slice_get z.ways way) is ∙ place-set_same old.ways way ts less

-- and the way is there still
pub there_still : (x new : Lined) (way w : ℕ) (ts : List Token) → way < length x.ways → new ≡ with_way x w ts → way < length new.ways
there_still x new way w ts less is = let n = length-set x.ways w ts in let m = ap (λ (z : Lined). length z.ways) is in omega (arith, less, n, m)

-- The first n lines are laid, and no token is on the ways behind them.
pub record IsLaid (lines : List (Vec Made)) (n : ℕ) (ways : List (List Token)) : Type 0 where
  pub rest : List (List Token)
  pub is : ways ≡ map (λ line. all_spelt line.items) (take n lines) ++ rest
  pub empty : AllByRecursion (λ way. way ≡ []) rest

pub none_yet : (lines : List (Vec Made)) (ways : List (List Token)) → AllByRecursion (λ way. way ≡ []) ways → IsLaid lines 0 ways
none_yet lines ways empty = record { rest = ways; is = refl; empty = empty }

seam_get : {X : Type 0} (xs : List X) (y : X) (ys : List X) → slice_get (xs ++ y ∷ ys) (length xs) ≡ Some y
seam_get [] y ys = refl
seam_get (x ∷ xs) y ys = seam_get xs y ys

seam_set : {X : Type 0} (xs : List X) (y z : X) (ys : List X) → slice_set (xs ++ y ∷ ys) (length xs) z ≡ (xs ++ z ∷ []) ++ ys
seam_set [] y z ys = refl
seam_set (x ∷ xs) y z ys = ap (λ l. x ∷ l) (seam_set xs y z ys)

-- the next way, which is empty
next_empty : (lines : List (Vec Made)) (n : ℕ) (ways : List (List Token)) (rest : List (List Token)) → n < length lines → n < length ways → ways ≡ map (λ line. all_spelt line.items) (take n lines) ++ rest
    → AllByRecursion (λ way. way ≡ []) rest → (more : List (List Token)) × (rest ≡ [] ∷ more) × AllByRecursion (λ way. way ≡ []) more
next_empty lines n ways [] within less is empty =
    absurd (let k = ap length is in let m = length-append (map (λ line. all_spelt line.items) (take n lines)) [] in let j = length-map (take n lines) (λ line. all_spelt line.items) in let i = length-take n lines in omega (arith, within, less, k, m, j, i))
next_empty lines n ways (x ∷ xs) within less is empty = (xs, ap (λ y. y ∷ xs) empty.0, empty.1)

pub one_more : (lines : List (Vec Made)) (n : ℕ) (line : Vec Made) (x new : Lined) → slice_get lines n ≡ Some line → n < length x.ways → IsLaid lines n x.ways
    → ((ts : List Token) → slice_get x.ways n ≡ Some ts → new ≡ with_way x n (ts ++ all_spelt line.items)) → IsLaid lines (n + 1) new.ways
one_more lines n line x new here less laid made =
    let so = map (λ l. all_spelt l.items) (take n lines) in
    let within = slice_get_within lines n line here in
    let e = next_empty lines n x.ways laid.rest within less laid.is laid.empty in
    let long : length so ≡ n = let i = length-map (take n lines) (λ l. all_spelt l.items) in let j = length-take n lines in omega (arith, i, j, within) in
    let is : x.ways ≡ so ++ [] ∷ e.0 = laid.is ∙ ap (λ z. so ++ z) e.1 in
    let stand : slice_get x.ways n ≡ Some [] = ap (λ z. slice_get z n) is ∙ ap (slice_get (so ++ [] ∷ e.0)) (sym long) ∙ seam_get so [] e.0 in
    let next : n + 1 ≡ suc n = omega arith in
    record {
      rest = e.0;
      is = ap (λ (z : Lined). z.ways) (made [] stand)
          ∙ ap (λ z. slice_set z n (all_spelt line.items)) is
          ∙ ap (λ k. slice_set (so ++ [] ∷ e.0) k (all_spelt line.items)) (sym long)
          ∙ seam_set so [] (all_spelt line.items) e.0
          ∙ ap (λ z. z ++ e.0) (sym (ap (λ k. map (λ l. all_spelt l.items) (take k lines)) next ∙ ap (map (λ l. all_spelt l.items)) (take_more lines n line here) ∙ map-append (λ l. all_spelt l.items) (take n lines) (line ∷ [])));
      empty = e.2;
    }

pub all_laid : (lines : List (Vec Made)) (n : ℕ) (ways : List (List Token)) → length lines ≤ n → length ways ≡ length lines → IsLaid lines n ways → ways ≡ map (λ line. all_spelt line.items) lines
all_laid lines n ways past count laid =
    let all : take n lines ≡ lines = all_taken lines n past in
    let so = map (λ line. all_spelt line.items) (take n lines) in
    let none : laid.rest ≡ [] = nothing laid.rest (let k = ap length laid.is in let m = length-append so laid.rest in let j = length-map (take n lines) (λ line. all_spelt line.items) in let i = ap length all in omega (arith, count, k, m, j, i)) in
    laid.is ∙ ap (λ z. so ++ z) none ∙ append-nil so ∙ ap (map (λ line. all_spelt line.items)) all
  where
    nothing : {X : Type 0} (xs : List X) → length xs ≡ 0 → xs ≡ []
    nothing [] e = refl
    nothing (x ∷ xs) e = absurd (omega (arith, e))

-- the network's parts, put together
pub made_of : (p : Plan) (s : State) → IsAccepted p → length s.actors ≡ length p.nodes + length p.switches → ((k : ℕ) (a : Acting) → slice_get s.actors k ≡ Some a → IsActorOf (network_of p) k a) → s.nodes ≡ length p.nodes
    → length s.ways ≡ 2 * length p.wires → AreWaysAt p s.wiring → s.wires ≡ p.wires → AreChannelsOf p s.channels → IsNetworkOf p s
made_of p s acc count actors nodes ways wiring wires channels = record {
  accepted = acc;
  count = count;
  actors = actors;
  nodes = nodes;
  ways = ways ∙ ap (λ n. 2 * n) (sym (length-map p.wires wire_of));
  wiring = wiring;
  wires = wires;
  channels = channels;
}
