-- What a step of a switch changes at its links, and what masks are of it afterwards.
use Rattle.std.proofs.Common.{◌≡◌, ◌≢◌, ◌↔◌, ◌<◌, ◌≤◌, ℕ, true, false, IsTrue, List, [], ◌∷◌, ◌++◌, length, refl, sym, ap, ◌∙◌, subst, arith, length-append, slice_get, Option, Some, None, MatchOption, ◌⊎◌, inl, inr}
use Rattle.std.proofs.lemmas.Bool.{cases_eq}
use Rattle.std.proofs.lemmas.Nat.Bits.{bit_at-zero, bit_at_ones}
use Rattle.std.specs.Int.{bit_at}
use Rattle.vc_packets.specs.Counters.{one_more}
use Rattle.vc_credit.specs.Ends.{Grants, HasRoom, received}
use Rattle.vc_packets.specs.Functions.{put}
use Rattle.vc_packets.specs.declared.mark.Mark.{Mark}
use Rattle.vc_packets.specs.declared.mark.Mark.TheVariants as mark
use Rattle.vc_tokens.specs.CodeTokens.{token}
use Rattle.vc_tokens.specs.Tokens.{Token, Byte, Fct, EndMark}
use Rattle.vc_tokens.specs.declared.token.Token.{Token as Sent}
use Rattle.vc_tokens.specs.declared.token.Token.TheVariants as sent
use Rattle.vc_switch.specs.Forward.{SwitchPlan}
use Rattle.vc_switch.specs.Waiting.{Wormhole}
use Rattle.vc_switch.specs.Switch.{Switch, Input, new_switch, set_input, with_header, passing, BodyLeaves, Comes, due, not_due, Passes, passes_byte, drops_byte, passes_mark, loses, HasGroup, Routes, Sends, SendsFct}
use Rattle.vc_switch.specs.Able.{CanPass, CanLeave, CanGrant, IsFree}
use Rattle.vc_switch.specs.Private.Ready.{IsReady, Looks, Tells, Waits}
use Rattle.vc_switch.specs.SwitchView.{seen, IsKept}
use Rattle.vc_switch.specs.State.{State, IsSwitch, plan_of, limit_of}
use Rattle.vc_switch.specs.declared.link_out.LinkOut.{LinkOut}
use Rattle.vc_switch.specs.declared.ready_switch.Ready.{Ready}
use Rattle.vc_labels.specs.declared.row.Row.{Row}
use Rattle.vc_switch.specs.declared.front.Front.{Front}
use Rattle.vc_switch.specs.Front.{front_of}
use Rattle.vc_switch.proofs.Fronts.{gone}
use Rattle.vc_switch.proofs.ListWrites.{put-same, put-other}
use Rattle.vc_switch.proofs.ListChanges.{bound_is}
use Rattle.vc_switch.proofs.Enablement.{free_none}
use Rattle.vc_switch.proofs.Puts.{source_of, source_within}

-- Which inputs a step leaves as they are, and which bound as they are.

-- all inputs but one are the same
abbrev pub SameBut : Switch → ℕ → Switch → Type 0
SameBut s link t = (l : ℕ) → l ≢ link → t.input l ≡ s.input l

-- and that one is bound as before
pub record OneElse (s : Switch) (link : ℕ) (t : Switch) : Type 0 where
  pub others : SameBut s link t
  pub bound : (t.input link).bound ≡ (s.input link).bound

set_one : (s : Switch) (link : ℕ) (x : Input) → x.bound ≡ (s.input link).bound → OneElse s link (set_input s link x)
set_one s link x same = record { others = λ l ne. put-other s.input link l x ne; bound = ap (λ z. z.bound) (put-same s.input link x) ∙ same }

comes_by : (s : Switch) (link word : ℕ) (k : Token) (t : Switch) → Comes s link word k t → OneElse s link t
comes_by s link word Fct t (due d is) = subst (OneElse s link) (sym is) (record { others = λ l ne. put-other s.input link l _ ne; bound = ap (λ z. z.bound) (put-same s.input link _) })
comes_by s link word (Byte b) t (due d is) = subst (OneElse s link) (sym is) (set_one s link _ refl)
comes_by s link word (EndMark m) t (due d is) = subst (OneElse s link) (sym is) (set_one s link _ refl)
comes_by s link word k t (not_due d is) = subst (OneElse s link) (sym is) (record { others = λ l ne. put-other s.input link l _ ne; bound = ap (λ z. z.bound) (put-same s.input link _) })

pub comes_else : (s : Switch) (link word : ℕ) (k : Token) (t : Switch) → Comes s link word k t → OneElse s link t
comes_else s link word k t h = comes_by s link word k t h

pub passes_else : (limit : ℕ) (plan : SwitchPlan) (s : Switch) (link : ℕ) (t : Switch) → Passes limit plan s link t → OneElse s link t
passes_else limit plan s link t (passes_byte b rest going front room is) = subst (OneElse s link) (sym is) (set_one s link _ refl)
passes_else limit plan s link t (drops_byte b rest going front full is) = subst (OneElse s link) (sym is) (record { others = λ l ne. put-other s.input link l _ ne; bound = ap (λ z. z.bound) (put-same s.input link _) })
passes_else limit plan s link t (passes_mark m rest going front group is) = subst (OneElse s link) (sym is) (set_one s link _ refl)
passes_else limit plan s link t (loses m rest going front none is) = subst (OneElse s link) (sym is) (record { others = λ l ne. put-other s.input link l _ ne; bound = ap (λ z. z.bound) (put-same s.input link _) })

pub grants_else : (s : Switch) (link : ℕ) (t : Switch) → SendsFct s link t → OneElse s link t
grants_else s link t h = subst (OneElse s link) (sym h.after) (set_one s link _ refl)

-- What a link can do depends on its input alone.

pub pass_same : (limit : ℕ) (plan : SwitchPlan) (s t : Switch) (l : ℕ) → s.input l ≡ t.input l → CanPass limit plan s l → CanPass limit plan t l
pass_same limit plan s t l e (new, passes_byte b rest going front room is) =
    (set_input t l (passing (t.input l) rest (with_header plan l (t.input l) ++ b ∷ []) None), passes_byte b rest (subst (λ x. x.mark ≡ None) e going) (subst (λ x. x.receiver.buffer ≡ Byte b ∷ rest) e front) (subst (λ x. length (with_header plan l x) < limit) e room) refl)
pass_same limit plan s t l e (new, drops_byte b rest going front full is) =
    (record (set_input t l (passing (t.input l) rest (with_header plan l (t.input l)) None)) { lost = one_more t.lost }, drops_byte b rest (subst (λ x. x.mark ≡ None) e going) (subst (λ x. x.receiver.buffer ≡ Byte b ∷ rest) e front) (subst (λ x. limit ≤ length (with_header plan l x)) e full) refl)
pass_same limit plan s t l e (new, passes_mark m rest going front group is) =
    (set_input t l (passing (t.input l) rest (with_header plan l (t.input l)) (Some m)), passes_mark m rest (subst (λ x. x.mark ≡ None) e going) (subst (λ x. x.receiver.buffer ≡ EndMark m ∷ rest) e front) (subst (λ x. HasGroup plan (with_header plan l x)) e group) refl)
pass_same limit plan s t l e (new, loses m rest going front none is) =
    (record (set_input t l (passing (t.input l) rest [] None)) { lost = one_more t.lost }, loses m rest (subst (λ x. x.mark ≡ None) e going) (subst (λ x. x.receiver.buffer ≡ EndMark m ∷ rest) e front) (subst (λ x. HasGroup plan (with_header plan l x) → ⊥) e none) refl)

pub grant_same : (s t : Switch) (l : ℕ) → s.input l ≡ t.input l → CanGrant s l → CanGrant t l
grant_same s t l e (new, h) =
    let g = subst (λ x. Grants x.receiver h.receiver) e h.grants in
    (set_input t l (record (t.input l) { receiver = h.receiver }), record { receiver = h.receiver; grants = g; after = refl })

-- the bytes of a packet stay as they are where a token comes
pub came_got : (s : Switch) (link word : ℕ) (k : Token) (t : Switch) → Comes s link word k t → (t.input link).got ≡ (s.input link).got
came_got s link word Fct t (due d is) = ap (λ z. (z.input link).got) is ∙ ap (λ x. x.got) (put-same s.input link _)
came_got s link word (Byte b) t (due d is) = ap (λ z. (z.input link).got) is ∙ ap (λ x. x.got) (put-same s.input link _)
came_got s link word (EndMark m) t (due d is) = ap (λ z. (z.input link).got) is ∙ ap (λ x. x.got) (put-same s.input link _)
came_got s link word k t (not_due d is) = ap (λ z. (z.input link).got) is ∙ ap (λ x. x.got) (put-same s.input link _)

room_grants : (s : Switch) (link : ℕ) → HasRoom (s.input link).receiver → CanGrant s link
room_grants s link room = (_, record { receiver = _; grants = record { room = room; after = refl }; after = refl })

fewer_wait : (s t : Switch) (link : ℕ) (k : Token) (rest : List Token) → (s.input link).receiver.buffer ≡ k ∷ rest → (t.input link).receiver ≡ record (s.input link).receiver { buffer = rest } → CanGrant s link → CanGrant t link
fewer_wait s t link k rest front same can =
    let room = can.1.grants.room in
    let long : length (s.input link).receiver.buffer ≡ length (k ∷ rest) = ap length front in
    room_grants t link (subst HasRoom (sym same) (omega (arith, room, long)))

-- where a token passes, there is room for as many as before
pub passes_grants : (limit : ℕ) (plan : SwitchPlan) (s : Switch) (link : ℕ) (t : Switch) → Passes limit plan s link t → CanGrant s link → CanGrant t link
passes_grants limit plan s link t (passes_byte b rest going front room is) can = fewer_wait s t link (Byte b) rest front (ap (λ z. (z.input link).receiver) is ∙ ap (λ x. x.receiver) (put-same s.input link _)) can
passes_grants limit plan s link t (drops_byte b rest going front full is) can = fewer_wait s t link (Byte b) rest front (ap (λ z. (z.input link).receiver) is ∙ ap (λ x. x.receiver) (put-same s.input link _)) can
passes_grants limit plan s link t (passes_mark m rest going front group is) can = fewer_wait s t link (EndMark m) rest front (ap (λ z. (z.input link).receiver) is ∙ ap (λ x. x.receiver) (put-same s.input link _)) can
passes_grants limit plan s link t (loses m rest going front none is) can = fewer_wait s t link (EndMark m) rest front (ap (λ z. (z.input link).receiver) is ∙ ap (λ x. x.receiver) (put-same s.input link _)) can

grants_by : (s t : Switch) (link : ℕ) → (t.input link).receiver ≡ (s.input link).receiver → CanGrant s link ↔ CanGrant t link
grants_by s t link same = (λ can. room_grants t link (subst HasRoom (sym same) can.1.grants.room), λ can. room_grants s link (subst HasRoom same can.1.grants.room))

grants_received : (s t : Switch) (link : ℕ) (k : Token) → 0 < (s.input link).receiver.promised → (t.input link).receiver ≡ received (s.input link).receiver k → CanGrant s link ↔ CanGrant t link
grants_received s t link k place same =
    let long = length-append (s.input link).receiver.buffer (k ∷ []) in (
      λ can. (let room = can.1.grants.room in room_grants t link (subst HasRoom (sym same) (omega (arith, long, room, place)))),
      λ can. (let room : HasRoom (received (s.input link).receiver k) = subst HasRoom same can.1.grants.room in room_grants s link (omega (arith, long, room, place))),
    )

-- an output is free where the inputs are bound as before
pub free_same : (s t : Switch) (o : ℕ) → ((i : ℕ) → (t.input i).bound ≡ Some o → (s.input i).bound ≡ Some o) → IsFree s o → IsFree t o
free_same s t o back free i e = free i (back i e)

bound_else : (s : Switch) (link : ℕ) (t : Switch) → OneElse s link t → (i : ℕ) → (t.input i).bound ≡ (s.input i).bound
bound_else s link t one i = elim (cases_eq i link) [
  | inl same ↦ subst (λ z. (t.input z).bound ≡ (s.input z).bound) (sym same) one.bound
  | inr ne ↦ ap (λ x. x.bound) (one.others i ne)
]

-- The masks after a step.

pub told_is : {P Q R : Type 0} → P ↔ Q → Q ↔ R → P ↔ R
told_is a b = (λ p. b.0 (a.0 p), λ r. a.1 (b.1 r))

-- a mask that was told of one link, where the others are as before
pub told_more : (P Q : ℕ → Type 0) (link old new : ℕ) → ((l : ℕ) → l < 32 → (bit_at old l ≡ 1) ↔ P l) → Tells (Q link) link old new → ((l : ℕ) → l ≢ link → P l → Q l) → ((l : ℕ) → l ≢ link → Q l → P l) →
    (l : ℕ) → l < 32 → (bit_at new l ≡ 1) ↔ Q l
told_more P Q link old new was tells to from l less = elim (cases_eq l link) [
  | inl same ↦ subst (λ z. (bit_at new z ≡ 1) ↔ Q z) (sym same) tells.it
  | inr ne ↦ (let kept = tells.others l less ne in
      (λ e. to l ne ((was l less).0 (sym kept ∙ e)), λ q. kept ∙ (was l less).1 (from l ne q)))
]

-- one input is another, and the masks were told of it and of the outputs
ready_by : (s t : State) (link : ℕ) (old looked new : Ready) → IsKept s t → SameBut (seen s) link (seen t) → IsReady s old → Looks t link old looked → new.passes ≡ looked.passes → new.grants ≡ looked.grants →
    ((o : ℕ) → o < 32 → (bit_at new.puts o ≡ 1) ↔ (IsFree (seen t) o → ⊥)) → IsReady t new
ready_by s t link old looked new kept others was looks e g puts = record {
  passes = subst (λ m. (l : ℕ) → l < 32 → (bit_at m l ≡ 1) ↔ CanPass (limit_of t.inputs) (plan_of t) (seen t) l) (sym e)
      (told_more (CanPass (limit_of s.inputs) (plan_of s) (seen s)) (CanPass (limit_of t.inputs) (plan_of t) (seen t)) link old.passes looked.passes was.passes looks.passes
      (λ l ne can. subst (λ p. CanPass (limit_of t.inputs) p (seen t) l) (sym kept.plan) (subst (λ m. CanPass m (plan_of s) (seen t) l) (sym kept.limit) (pass_same (limit_of s.inputs) (plan_of s) (seen s) (seen t) l (sym (others l ne)) can)))
      (λ l ne can. subst (λ p. CanPass (limit_of s.inputs) p (seen s) l) kept.plan (subst (λ m. CanPass m (plan_of t) (seen s) l) kept.limit (pass_same (limit_of t.inputs) (plan_of t) (seen t) (seen s) l (others l ne) can))));
  puts = puts;
  grants = subst (λ m. (l : ℕ) → l < 32 → (bit_at m l ≡ 1) ↔ CanGrant (seen t) l) (sym g)
      (told_more (CanGrant (seen s)) (CanGrant (seen t)) link old.grants looked.grants was.grants looks.grants (λ l ne h. grant_same (seen s) (seen t) l (sym (others l ne)) h) (λ l ne h. grant_same (seen t) (seen s) l (others l ne) h));
}

free_iff_else : (s t : State) (link m n o : ℕ) → OneElse (seen s) link (seen t) → n ≡ m → ((bit_at m o ≡ 1) ↔ (IsFree (seen s) o → ⊥)) → (bit_at n o ≡ 1) ↔ (IsFree (seen t) o → ⊥)
free_iff_else s t link m n o one same was = (
  λ e free. (was.0 (ap (λ z. bit_at z o) (sym same) ∙ e)) (free_same (seen t) (seen s) o (λ i h. bound_else (seen s) link (seen t) one i ∙ h) free),
  λ none. ap (λ z. bit_at z o) same ∙ was.1 (λ free. none (free_same (seen s) (seen t) o (λ i h. sym (bound_else (seen s) link (seen t) one i) ∙ h) free)),
)

-- a token came or passed, or an FCT went out
pub ready_else : (s t : State) (link : ℕ) (old new : Ready) → IsKept s t → OneElse (seen s) link (seen t) → IsReady s old → Looks t link old new → IsReady t new
ready_else s t link old new kept one was looks =
    ready_by s t link old new new kept one.others was looks refl refl (λ o less. free_iff_else s t link old.puts new.puts o one looks.puts (was.puts o less))

-- what came is a place less that is promised: as many may be granted as before
pub came_grants : (s : Switch) (link word : ℕ) (k : Token) (t : Switch) → Comes s link word k t → CanGrant s link ↔ CanGrant t link
came_grants s link word Fct t (due d is) = grants_by s t link (ap (λ z. (z.input link).receiver) is ∙ ap (λ x. x.receiver) (put-same s.input link _))
came_grants s link word (Byte b) t (due d is) = grants_received s t link (Byte b) d (ap (λ z. (z.input link).receiver) is ∙ ap (λ x. x.receiver) (put-same s.input link _))
came_grants s link word (EndMark m) t (due d is) = grants_received s t link (EndMark m) d (ap (λ z. (z.input link).receiver) is ∙ ap (λ x. x.receiver) (put-same s.input link _))
came_grants s link word k t (not_due d is) = grants_by s t link (ap (λ z. (z.input link).receiver) is ∙ ap (λ x. x.receiver) (put-same s.input link _))

-- a token came, and only from its buffer more may pass
pub ready_came : (s t : State) (link word n : ℕ) (k : Token) (old : Ready) → IsKept s t → Comes (seen s) link word k (seen t) → link < 32 → IsReady s old → Tells (CanPass (limit_of t.inputs) (plan_of t) (seen t) link) link old.passes n →
    IsReady t (record old { passes = n })
ready_came s t link word n k old kept comes less was tells =
    let one = comes_else (seen s) link word k (seen t) comes in
    let grants = came_grants (seen s) link word k (seen t) comes in
    ready_else s t link old (record old { passes = n }) kept one was (record {
      passes = tells;
      puts = refl;
      grants = record { it = (λ e. grants.0 ((was.grants link less).0 e), λ can. (was.grants link less).1 (grants.1 can)); others = λ l few ne. refl };
    })

-- a packet was bound to an output
pub ready_routed : (s t : State) (link output n : ℕ) (old looked : Ready) → IsKept s t → Routes (plan_of s) Wormhole (seen s) link output (seen t) → IsReady s old → Looks t link old looked → Tells (IsTrue true) output looked.puts n →
    IsReady t (record looked { puts = n })
ready_routed s t link output n old looked kept routes was looks tells =
    let is = ap (λ z. z.input) routes.after in
    let others : SameBut (seen s) link (seen t) = λ l ne. ap (λ f. f l) is ∙ put-other (seen s).input link l _ ne in
    let here : ((seen t).input link).bound ≡ Some output = ap (λ f. (f link).bound) is ∙ ap (λ x. x.bound) (put-same (seen s).input link _) in
    ready_by s t link old looked (record looked { puts = n }) kept others was looks refl refl
    (told_more (λ o. IsFree (seen s) o → ⊥) (λ o. IsFree (seen t) o → ⊥) output looked.puts n (subst (λ m. (o : ℕ) → o < 32 → (bit_at m o ≡ 1) ↔ (IsFree (seen s) o → ⊥)) (sym looks.puts) was.puts)
    (record { it = (λ e free. free link here, λ none. tells.it.1 refl); others = tells.others })
    (λ o ne none free. none (free_same (seen t) (seen s) o (λ i h. elim (cases_eq i link) [
      | inl same ↦ absurd (let e : None ≡ Some o = sym routes.unbound ∙ subst (λ z. ((seen s).input z).bound ≡ Some o) same h in cc)
      | inr far ↦ ap (λ x. x.bound) (others i far) ∙ h
    ]) free))
    (λ o ne none free. none (free_same (seen s) (seen t) o (λ i h. elim (cases_eq i link) [
      | inl same ↦ absurd (let e : Some output ≡ Some o = sym here ∙ subst (λ z. ((seen t).input z).bound ≡ Some o) same h in let q : o ≡ output = cc in ne q)
      | inr far ↦ sym (ap (λ x. x.bound) (others i far)) ∙ h
    ]) free)))

-- a mark went out, and its packet is gone
pub ready_marked : (s t : State) (link output n : ℕ) (m : Mark) (old looked : Ready) → IsKept s t → Sends (plan_of s) Wormhole (seen s) output (EndMark m) (seen t) → ((seen s).input link).bound ≡ Some output → IsReady s old → Looks t link old looked →
    Tells (IsTrue false) output looked.puts n → IsReady t (record looked { puts = n })
ready_marked s t link output n m old looked kept sends bound was looks tells =
    let same_link : sends.link ≡ link = sym (sends.only link bound) in
    let is = ap (λ z. z.input) sends.after ∙ ap (λ j. put (seen s).input j (record ((seen s).input j) { got = []; mark = None; bound = None })) same_link in
    let others : SameBut (seen s) link (seen t) = λ l ne. ap (λ f. f l) is ∙ put-other (seen s).input link l _ ne in
    let here : ((seen t).input link).bound ≡ None = ap (λ f. (f link).bound) is ∙ ap (λ x. x.bound) (put-same (seen s).input link _) in
    let free : IsFree (seen t) output = λ i h. elim (cases_eq i link) [
      | inl same ↦ absurd (let e : None ≡ Some output = sym here ∙ subst (λ z. ((seen t).input z).bound ≡ Some output) same h in cc)
      | inr far ↦ far (sends.only i (sym (ap (λ x. x.bound) (others i far)) ∙ h) ∙ same_link)
    ] in
    ready_by s t link old looked (record looked { puts = n }) kept others was looks refl refl
    (told_more (λ o. IsFree (seen s) o → ⊥) (λ o. IsFree (seen t) o → ⊥) output looked.puts n (subst (λ m. (o : ℕ) → o < 32 → (bit_at m o ≡ 1) ↔ (IsFree (seen s) o → ⊥)) (sym looks.puts) was.puts)
    (record { it = (λ e f. (let no : false ≡ true = tells.it.0 e in absurd (cc)), λ none. absurd (none free)); others = tells.others })
    (λ o ne none f. none (free_same (seen t) (seen s) o (λ i h. elim (cases_eq i link) [
      | inl same ↦ absurd (let e : Some output ≡ Some o = sym bound ∙ subst (λ z. ((seen s).input z).bound ≡ Some o) same h in let q : o ≡ output = cc in ne q)
      | inr far ↦ ap (λ x. x.bound) (others i far) ∙ h
    ]) f))
    (λ o ne none f. none (free_same (seen s) (seen t) o (λ i h. elim (cases_eq i link) [
      | inl same ↦ absurd (let e : None ≡ Some o = sym here ∙ subst (λ z. ((seen t).input z).bound ≡ Some o) same h in cc)
      | inr far ↦ sym (ap (λ x. x.bound) (others i far)) ∙ h
    ]) f)))

-- a byte went out, and all inputs are as before
pub ready_sent : (s t : State) (old : Ready) → IsKept s t → (seen t).input ≡ (seen s).input → IsReady s old → IsReady t old
ready_sent s t old kept same was =
    let at : (l : ℕ) → (seen t).input l ≡ (seen s).input l = λ l. ap (λ f. f l) same in
    record {
      passes = λ l less. (
        λ e. subst (λ p. CanPass (limit_of t.inputs) p (seen t) l) (sym kept.plan) (subst (λ m. CanPass m (plan_of s) (seen t) l) (sym kept.limit) (pass_same (limit_of s.inputs) (plan_of s) (seen s) (seen t) l (sym (at l)) ((was.passes l less).0 e))),
        λ can. (was.passes l less).1 (subst (λ p. CanPass (limit_of s.inputs) p (seen s) l) kept.plan (subst (λ m. CanPass m (plan_of t) (seen s) l) kept.limit (pass_same (limit_of t.inputs) (plan_of t) (seen t) (seen s) l (at l) can))),
      );
      puts = λ o less. (
        λ e f. (was.puts o less).0 e (free_same (seen t) (seen s) o (λ i h. ap (λ x. x.bound) (at i) ∙ h) f),
        λ none. (was.puts o less).1 (λ f. none (free_same (seen s) (seen t) o (λ i h. sym (ap (λ x. x.bound) (at i)) ∙ h) f)),
      );
      grants = λ l less. (λ e. grant_same (seen s) (seen t) l (sym (at l)) ((was.grants l less).0 e), λ h. (was.grants l less).1 (grant_same (seen t) (seen s) l (at l) h));
    }

-- the token is a byte, or an FCT
pub sent_inputs : (plan : SwitchPlan) (s t : Switch) (o : ℕ) (k : Sent) → ((x : ℕ) × (k ≡ sent.Byte x)) ⊎ (k ≡ sent.Fct) → Sends plan Wormhole s o (token k) t → t.input ≡ s.input
sent_inputs plan s t o k (inl (x, e)) h = ap (λ z. z.input) (subst (λ z. Sends plan Wormhole s o (token z) t) e h).after
sent_inputs plan s t o k (inr e) h = ap (λ z. z.input) (subst (λ z. Sends plan Wormhole s o (token z) t) e h).after

-- the token is a mark
pub sent_mark : (plan : SwitchPlan) (s t : Switch) (o : ℕ) (k : Sent) → (k ≡ sent.Eop) ⊎ (k ≡ sent.Eom) → Sends plan Wormhole s o (token k) t → (m : Mark) × Sends plan Wormhole s o (EndMark m) t
sent_mark plan s t o k (inl e) h = (mark.Eop, subst (λ z. Sends plan Wormhole s o (token z) t) e h)
sent_mark plan s t o k (inr e) h = (mark.Eom, subst (λ z. Sends plan Wormhole s o (token z) t) e h)

-- The masks as the switch begins.

-- a body with a front has its header
front_long : (table : List Row) (b : List ℕ) (f : Front) → front_of table b ≡ Some f → 2 ≤ length b
front_long table [] f is = absurd (cc)
front_long table (hi ∷ []) f is = absurd (cc)
front_long table (hi ∷ lo ∷ rest) f is = omega arith

leaving_long : (plan : SwitchPlan) (b : List ℕ) (o : ℕ) (d : List ℕ) → BodyLeaves plan b o d → 2 ≤ length b
leaving_long plan b o d h = let g = gone plan b o d h in front_long plan.table b g.front g.is

-- bytes are there of a packet that may leave
pub leaving_waits : (plan : SwitchPlan) (s : Switch) (l o : ℕ) → CanLeave plan s l o → Waits (s.input l)
leaving_waits plan s l o h = (h.unbound, leaving_long plan (s.input l).got o h.body h.leaves)

pub ready_first : (s : State) (r : Ready) → seen s ≡ new_switch → r.passes ≡ 0 → r.puts ≡ 0 → r.grants ≡ 4294967295 → IsReady s r
ready_first s r e a c d = record {
  passes = λ l less. (
    λ one. absurd (let z = bit_at-zero l in let q = ap (λ m. bit_at m l) a in cc),
    λ can. absurd (none_pass (limit_of s.inputs) (plan_of s) (seen s) l (ap (λ z. (z.input l).receiver.buffer) e) can),
  );
  puts = λ o less. (
    λ one. absurd (let z = bit_at-zero o in let q = ap (λ m. bit_at m o) c in cc),
    λ none. absurd (none (λ i h. (let q : None ≡ Some o = sym (ap (λ z. (z.input i).bound) e) ∙ h in absurd (cc)))),
  );
  grants = λ l less. (
    λ one. subst (λ z. CanGrant z l) (sym e) (_, record { receiver = _; grants = record { room = omega arith; after = refl }; after = refl }),
    λ can. ap (λ m. bit_at m l) d ∙ bit_at_ones 32 l less,
  );
}
  where
    none_pass : (limit : ℕ) (plan : SwitchPlan) (z : Switch) (l : ℕ) → (z.input l).receiver.buffer ≡ [] → CanPass limit plan z l → ⊥
    none_pass limit plan z l none (new, passes_byte b rest going front room is) = let q : Byte b ∷ rest ≡ [] = sym front ∙ none in absurd (cc)
    none_pass limit plan z l none (new, drops_byte b rest going front full is) = let q : Byte b ∷ rest ≡ [] = sym front ∙ none in absurd (cc)
    none_pass limit plan z l none (new, passes_mark m rest going front group is) = let q : EndMark m ∷ rest ≡ [] = sym front ∙ none in absurd (cc)
    none_pass limit plan z l none (new, loses m rest going front lost is) = let q : EndMark m ∷ rest ≡ [] = sym front ∙ none in absurd (cc)

-- the input that is bound to an output, by its source
pub source_tells : (s : State) (o : ℕ) (p : LinkOut) (r : Option ℕ) → IsSwitch s → slice_get s.outputs o ≡ Some p → p.source ≡ r → MatchOption r (IsFree (seen s) o) (λ i. (i < 32) × (((seen s).input i).bound ≡ Some o))
source_tells s o p None w here e = free_none s o p w here e
source_tells s o p (Some i) w here e =
    let source = source_of s o p (Some i) here e in
    (subst (λ n. i < n) w.input_links (source_within s o i w source), bound_is s i ∙ w.paired.outs o i source)
