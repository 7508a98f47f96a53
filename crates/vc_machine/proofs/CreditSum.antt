-- The credit of a way: no step brings more tokens to a way than its buffer has places.
use Rattle.std.proofs.Common.{◌≡◌, ℕ, suc, ◌+◌, ◌*◌, ◌-◌, ◌<◌, ◌≤◌, List, [], ◌∷◌, ◌++◌, length, refl, sym, ap, subst, ◌∙◌, arith, length-append}
use Rattle.vc_packets.specs.declared.mark.Mark.{Mark}
use Rattle.vc_machine.specs.Paths.{Net}
use Rattle.vc_packets.specs.Functions.{put}
use Rattle.vc_tokens.specs.Tokens.{Token, Byte, Fct, EndMark, without_fcts, fcts}
use Rattle.vc_credit.specs.Ends.{Sender}
use Rattle.vc_machine.specs.Links.{Receiver, Tokens, Wires, set_wire, no_tokens}
use Rattle.vc_switch.specs.Waiting.{Waiting}
use Rattle.vc_machine.specs.TokenMachine.{TokenEvent, Proc, Take, Pass, Put, PutFct, Route, TokenStep, arrive, Closes, keeps, loses, Passes, node_byte, node_mark, switch_byte, switch_mark, released, Puts, Grants}
use Rattle.vc_machine.specs.Private.View.{Promised, Credited}
use Rattle.vc_machine.specs.View.{IsWithinCredit}
use Rattle.vc_tokens.proofs.Spellings.{without_fcts-append, fcts-append}
use Rattle.vc_machine.proofs.Update.{Changed, changed, kept, every}
use Rattle.vc_machine.proofs.Basics.{put-same, put-other}

-- with the wires back as a function of their own
abbrev pub Counts : (ℕ → Sender) → (ℕ → List Token) → (ℕ → List Token) → (ℕ → Receiver) → Type 0
Counts a b c r = (w : ℕ) → Promised (a w) (b w) (c w) (r w)

counts_at : (w : ℕ) (a a' : ℕ → Sender) (b b' c c' : ℕ → List Token) (r r' : ℕ → Receiver) (x : Sender) (y z : List Token) (q : Receiver) →
    Counts a b c r → Changed w a a' x → Changed w b b' y → Changed w c c' z → Changed w r r' q → Promised x y z q → Counts a' b' c' r'
counts_at w a a' b b' c c' r r' x y z q all ca cb cc' cr here =
    every (λ j k l m n e. Promised k l m n) w a a' b b' c c' r r' a a' x y z q x ca cb cc' cr ca all here

-- a wire changed is changed as the one back, too
back_changed : (net : Net) (back : ℕ → ℕ) → Wires net back → (w : ℕ) (f : ℕ → List Token) (x : List Token) → Changed (back w) (λ j. f (back j)) (λ j. put f w x (back j)) x
back_changed net back wires w f x =
    record {
      here = subst (λ k. put f w x k ≡ x) (sym (wires.twice w)) (put-same f w x);
      there = λ j ne. put-other f w x (back j) (λ e. ne (sym (wires.twice j) ∙ ap back e));
    }

forward_changed : (net : Net) (back : ℕ → ℕ) → Wires net back → (w : ℕ) (f : ℕ → List Token) (x : List Token) → Changed w (λ j. f (back j)) (λ j. put f (back w) x (back j)) x
forward_changed net back wires w f x =
    record {
      here = put-same f (back w) x;
      there = λ j ne. put-other f (back w) x (back j) (λ e. ne (sym (wires.twice j) ∙ ap back e ∙ wires.twice w));
    }

-- the wire w, the sender of w and its receiver are changed, and the way back sees as many FCTs
same_fcts : (net : Net) (back : ℕ → ℕ) → Wires net back → (t u : Tokens) (w : ℕ) (a : Sender) (ts : List Token) (r : Receiver) → Credited back t →
    Changed w t.sender u.sender a → u.wire ≡ put t.wire w ts → Changed w t.receiver u.receiver r →
    fcts ts ≡ fcts (t.wire w) → Promised a (t.wire (back w)) ts r → Credited back u
same_fcts net back wires t u w a ts r all ca cw cr same here =
    let first : Counts u.sender (λ j. t.wire (back j)) (put t.wire w ts) u.receiver =
    counts_at w t.sender u.sender (λ j. t.wire (back j)) (λ j. t.wire (back j)) t.wire (put t.wire w ts) t.receiver u.receiver a (t.wire (back w)) ts r
    all.each ca (kept w (λ j. t.wire (back j))) (changed w t.wire ts) cr here in
    let p = first (back w) in
    let e : fcts (t.wire (back (back w))) ≡ fcts (t.wire w) = ap (λ k. fcts (t.wire k)) (wires.twice w) in
    record {
      each = subst (λ (f : ℕ → List Token). Counts u.sender (λ j. f (back j)) f u.receiver) (sym cw)
          (counts_at (back w) u.sender u.sender (λ j. t.wire (back j)) (λ j. put t.wire w ts (back j)) (put t.wire w ts) (put t.wire w ts) u.receiver u.receiver
          (u.sender (back w)) ts (put t.wire w ts (back w)) (u.receiver (back w))
          first (kept (back w) u.sender) (back_changed net back wires w t.wire ts) (kept (back w) (put t.wire w ts)) (kept (back w) u.receiver)
          (record { same = p.same ∙ ap (λ k. (u.sender (back w)).credit + 8 * k + length (without_fcts (put t.wire w ts (back w)))) (e ∙ sym same); fits = p.fits }));
    }

-- the receiving end of one way is changed
receiver_counts : (back : ℕ → ℕ) (t u : Tokens) (w : ℕ) (r : Receiver) → Credited back t → u.sender ≡ t.sender → u.wire ≡ t.wire → Changed w t.receiver u.receiver r →
    r.promised ≡ (t.receiver w).promised → length r.buffer ≤ length (t.receiver w).buffer → Credited back u
receiver_counts back t u w r all ea ew cr promised buffer =
    let p = all.each w in
    record {
      each = subst (λ (f : ℕ → Sender). Counts f (λ j. u.wire (back j)) u.wire u.receiver) (sym ea)
          (subst (λ (f : ℕ → List Token). Counts t.sender (λ j. f (back j)) f u.receiver) (sym ew)
          (counts_at w t.sender t.sender (λ j. t.wire (back j)) (λ j. t.wire (back j)) t.wire t.wire t.receiver u.receiver (t.sender w) (t.wire (back w)) (t.wire w) r
          all.each (kept w t.sender) (kept w (λ j. t.wire (back j))) (kept w t.wire) cr
          (record { same = promised ∙ p.same; fits = let q = p.fits in omega arith })));
    }

arrive_counts : (net : Net) (back : ℕ → ℕ) → Wires net back → (t : Tokens) (w word : ℕ) (k : Token) (rest : List Token) → Credited back t → t.wire w ≡ k ∷ rest →
    Credited back (arrive back (set_wire t w rest) w word k)
arrive_counts net back wires t w word Fct rest all e =
    let p = all.each w in
    let r : Receiver = record (t.receiver w) { word = word } in
    let no_fct_is : length (without_fcts (t.wire w)) ≡ length (without_fcts rest) = ap (λ k. length (without_fcts k)) e in
    let first : Counts t.sender (λ j. t.wire (back j)) (put t.wire w rest) (put t.receiver w r) =
    counts_at w t.sender t.sender (λ j. t.wire (back j)) (λ j. t.wire (back j)) t.wire (put t.wire w rest) t.receiver (put t.receiver w r) (t.sender w) (t.wire (back w)) rest r
    all.each (kept w t.sender) (kept w (λ j. t.wire (back j))) (changed w t.wire rest) (changed w t.receiver r)
    (record { same = p.same ∙ ap (λ k. (t.sender w).credit + 8 * fcts (t.wire (back w)) + k) no_fct_is; fits = p.fits }) in
    let q = first (back w) in
    let a : Sender = record (t.sender (back w)) { credit = (t.sender (back w)).credit + 8 } in
    let more : fcts (t.wire (back (back w))) ≡ suc (fcts rest) = ap (λ k. fcts (t.wire k)) (wires.twice w) ∙ ap fcts e in
    record {
      each = counts_at (back w) t.sender (put t.sender (back w) a) (λ j. t.wire (back j)) (λ j. put t.wire w rest (back j)) (put t.wire w rest) (put t.wire w rest)
          (put t.receiver w r) (put t.receiver w r) a rest (put t.wire w rest (back w)) (put t.receiver w r (back w))
          first (changed (back w) t.sender a) (back_changed net back wires w t.wire rest) (kept (back w) (put t.wire w rest)) (kept (back w) (put t.receiver w r))
          (record { same = let s = q.same in omega arith; fits = q.fits });
    }
arrive_counts net back wires t w word (Byte b) rest all e =
    let p = all.each w in
    let n : length (without_fcts (t.wire w)) ≡ suc (length (without_fcts rest)) = ap (λ k. length (without_fcts k)) e in
    same_fcts net back wires t _ w (t.sender w) rest _ all (kept w t.sender) refl (changed w t.receiver _) (sym (ap fcts e))
    (record { same = let s = p.same in omega arith; fits = let s = p.same in let f = p.fits in let l = length-append (t.receiver w).buffer (Byte b ∷ []) in omega arith })
arrive_counts net back wires t w word (EndMark m) rest all e =
    let p = all.each w in
    let n : length (without_fcts (t.wire w)) ≡ suc (length (without_fcts rest)) = ap (λ k. length (without_fcts k)) e in
    same_fcts net back wires t _ w (t.sender w) rest _ all (kept w t.sender) refl (changed w t.receiver _) (sym (ap fcts e))
    (record { same = let s = p.same in omega arith; fits = let s = p.same in let f = p.fits in let l = length-append (t.receiver w).buffer (EndMark m ∷ []) in omega arith })

closes_counts : (net : Net) (back : ℕ → ℕ) (t : Tokens) (n w : ℕ) (got : List ℕ) (m : Mark) (k : Token) (rest : List Token) (u : Tokens) → Credited back t →
    (t.receiver w).buffer ≡ k ∷ rest → Closes net t n w got m rest u → Credited back u
closes_counts net back t n w got m k rest u all e (keeps group after) =
    subst (Credited back) (sym after) (receiver_counts back t _ w _ all refl refl (changed w t.receiver _) refl (let l = ap length e in omega arith))
closes_counts net back t n w got m k rest u all e (loses alone after) =
    subst (Credited back) (sym after) (receiver_counts back t _ w _ all refl refl (changed w t.receiver _) refl (let l = ap length e in omega arith))

passes_counts : (net : Net) (back : ℕ → ℕ) (t : Tokens) (w : ℕ) (u : Tokens) → Credited back t → Passes net t w u → Credited back u
passes_counts net back t w u all (node_byte n i b rest far e after) =
    subst (Credited back) (sym after) (receiver_counts back t _ w _ all refl refl (changed w t.receiver _) refl (let l = ap length e in omega arith))
passes_counts net back t w u all (node_mark n i m rest k far e reach after) =
    subst (Credited back) (sym after) (receiver_counts back t _ w _ all refl refl (changed w t.receiver _) refl (let l = ap length e in omega arith))
passes_counts net back t w u all (switch_byte n i b rest far none e after) =
    subst (Credited back) (sym after) (receiver_counts back t _ w _ all refl refl (changed w t.receiver _) refl (let l = ap length e in omega arith))
passes_counts net back t w u all (switch_mark n i m rest far none e closes) = closes_counts net back t n w _ m (EndMark m) rest u all e closes

put_counts : (net : Net) (back : ℕ → ℕ) → Wires net back → (t u : Tokens) (w : ℕ) (a : Sender) (k : Token) → Credited back t → 0 < (t.sender w).credit → a.credit ≡ (t.sender w).credit - 1 →
    without_fcts (k ∷ []) ≡ k ∷ [] → fcts (k ∷ []) ≡ 0 → u.sender ≡ put t.sender w a → u.wire ≡ put t.wire w (t.wire w ++ k ∷ []) → u.receiver ≡ t.receiver → Credited back u
put_counts net back wires t u w a k all some credit no_fct_is no_fct ea ew er =
    let p = all.each w in
    let n : length (without_fcts (t.wire w ++ k ∷ [])) ≡ length (without_fcts (t.wire w)) + 1 =
    ap length (without_fcts-append (t.wire w) (k ∷ [])) ∙ length-append (without_fcts (t.wire w)) (without_fcts (k ∷ [])) ∙ ap (λ x. length (without_fcts (t.wire w)) + length x) no_fct_is in
    same_fcts net back wires t u w a (t.wire w ++ k ∷ []) (t.receiver w) all
    (subst (λ (f : ℕ → Sender). Changed w t.sender f a) (sym ea) (changed w t.sender a)) ew
    (subst (λ (f : ℕ → Receiver). Changed w t.receiver f (t.receiver w)) (sym er) (kept w t.receiver))
    (let f = fcts-append (t.wire w) (k ∷ []) in omega arith)
    (record { same = let s = p.same in omega arith; fits = p.fits })

puts_counts : (net : Net) (back : ℕ → ℕ) → Wires net back → (waiting : Waiting) (t : Tokens) (w : ℕ) (u : Tokens) → Credited back t → 0 < (t.sender w).credit →
    Puts net waiting t w u → Credited back u
puts_counts net back wires waiting t w u all some (node_byte n i p rest b more near front e after) =
    subst (Credited back) (sym after) (put_counts net back wires t _ w _ (Byte b) all some refl refl refl refl refl refl)
puts_counts net back wires waiting t w u all some (node_mark n i p rest near front e after) =
    subst (Credited back) (sym after) (put_counts net back wires t _ w _ (EndMark p.mark) all some refl refl refl refl refl refl)
puts_counts net back wires waiting t w u all some (switch_byte n v d b more h e after) =
    subst (Credited back) (sym after) (put_counts net back wires t _ w _ (Byte b) all some refl refl refl refl refl refl)
puts_counts net back wires waiting t w u all some (switch_mark n v d m h is e after) =
    let free : Credited back (released t v) = receiver_counts back t (released t v) v _ all refl refl (changed v t.receiver _) refl (omega arith) in
    subst (Credited back) (sym after) (put_counts net back wires (released t v) _ w _ (EndMark m) free some refl refl refl refl refl refl)

grants_counts : (net : Net) (back : ℕ → ℕ) → Wires net back → (t : Tokens) (w : ℕ) (u : Tokens) → Credited back t → Grants net back t w u → Credited back u
grants_counts net back wires t w u all h =
    let p = all.each w in
    let r : Receiver = record (t.receiver w) { promised = (t.receiver w).promised + 8 } in
    let ts : List Token = t.wire (back w) ++ Fct ∷ [] in
    let f : fcts ts ≡ suc (fcts (t.wire (back w))) = (let g = fcts-append (t.wire (back w)) (Fct ∷ []) in omega arith) in
    let first : Counts t.sender (λ j. put t.wire (back w) ts (back j)) t.wire (put t.receiver w r) =
    counts_at w t.sender t.sender (λ j. t.wire (back j)) (λ j. put t.wire (back w) ts (back j)) t.wire t.wire t.receiver (put t.receiver w r) (t.sender w) ts (t.wire w) r
    all.each (kept w t.sender) (forward_changed net back wires w t.wire ts) (kept w t.wire) (changed w t.receiver r)
    (record { same = let s = p.same in omega arith; fits = let room = h.room in omega arith }) in
    let q = first (back w) in
    let n : length (without_fcts ts) ≡ length (without_fcts (t.wire (back w))) =
    (let g = ap length (without_fcts-append (t.wire (back w)) (Fct ∷ [])) in let l = length-append (without_fcts (t.wire (back w))) [] in omega arith) in
    subst (Credited back) (sym h.after)
    (record {
      each = counts_at (back w) t.sender t.sender (λ j. put t.wire (back w) ts (back j)) (λ j. put t.wire (back w) ts (back j)) t.wire (put t.wire (back w) ts)
          (put t.receiver w r) (put t.receiver w r) (t.sender (back w)) (put t.wire (back w) ts (back (back w))) ts (put t.receiver w r (back w))
          first (kept (back w) t.sender) (kept (back w) (λ j. put t.wire (back w) ts (back j))) (changed (back w) t.wire ts) (kept (back w) (put t.receiver w r))
          (record { same = q.same ∙ ap (λ k. (t.sender (back w)).credit + 8 * fcts (put t.wire (back w) ts (back (back w))) + k) (sym n); fits = q.fits });
    })

pub step_counts : (net : Net) (back : ℕ → ℕ) → Wires net back → (waiting : Waiting) (t : Tokens) (e : TokenEvent) (u : Tokens) → Credited back t → TokenStep net back waiting t e u → Credited back u
step_counts net back wires waiting t (Proc e) u all h = subst (Credited back) (sym h.1.2) (record { each = all.each })
step_counts net back wires waiting t (Take w word) u all h = subst (Credited back) (sym h.after) (arrive_counts net back wires t w word h.token h.rest all h.front)
step_counts net back wires waiting t (Pass w) u all h = passes_counts net back t w u all h.1
step_counts net back wires waiting t (Put w) u all h = puts_counts net back wires waiting t w u all h.1 h.2
step_counts net back wires waiting t (PutFct w) u all h = grants_counts net back wires t w u all h
step_counts net back wires waiting t (Route w out) u all h =
    subst (Credited back) (sym h.after) (receiver_counts back t _ w _ all refl refl (changed w t.receiver _) refl (omega arith))

pub no_counts : (back : ℕ → ℕ) → Credited back no_tokens
no_counts back = record { each = λ w. record { same = omega arith; fits = omega arith } }

pub within_credit : (back : ℕ → ℕ) (t : Tokens) (w : ℕ) → Credited back t → IsWithinCredit (t.sender w) (t.wire (back w)) (t.wire w) (t.receiver w)
within_credit back t w all = let p = all.each w in let s = p.same in let f = p.fits in omega arith

-- an FCT finds a credit of at most 8
pub credit_low : (net : Net) (back : ℕ → ℕ) → Wires net back → (t : Tokens) (w : ℕ) (rest : List Token) → Credited back t → t.wire w ≡ Fct ∷ rest → (t.sender (back w)).credit ≤ 8
credit_low net back wires t w rest all e =
    let p = all.each (back w) in
    let more : fcts (t.wire (back (back w))) ≡ suc (fcts rest) = ap (λ k. fcts (t.wire k)) (wires.twice w) ∙ ap fcts e in
    let s = p.same in let f = p.fits in omega arith

-- a token finds a place that was promised to it, in a buffer that is not full
pub place_kept : (back : ℕ → ℕ) (t : Tokens) (w : ℕ) (k : Token) (rest : List Token) → Credited back t → without_fcts (k ∷ []) ≡ k ∷ [] → t.wire w ≡ k ∷ rest →
    (0 < (t.receiver w).promised) × (length (t.receiver w).buffer < 16)
place_kept back t w k rest all no_fct_is e =
    let p = all.each w in
    let n : length (without_fcts (t.wire w)) ≡ length (without_fcts (k ∷ [])) + length (without_fcts rest) =
    ap (λ x. length (without_fcts x)) e ∙ ap length (without_fcts-append (k ∷ []) rest) ∙ length-append (without_fcts (k ∷ [])) (without_fcts rest) in
    let m : length (without_fcts (k ∷ [])) ≡ 1 = ap length no_fct_is in
    let s = p.same in let f = p.fits in
    (omega arith, omega arith)
