-- What is renamed, word by word, and in lists.
use Rattle.std.proofs.Common.{◌≡◌, ℕ, ◌+◌, ◌<◌, refl, sym, ap, subst, ◌∙◌, List, [], ◌∷◌, ◌++◌, map, take, length, get_or, add-one, Result, Ok, Err, IfOk}
use Rattle.std.specs.Result.{IsOkAnd}
use Rattle.std.proofs.Math.Seq.{take-suc}
use Rattle.std.proofs.lemmas.List.{map-append}
use Rattle.vc_process.specs.declared.condition.Cond.{Cond}
use Rattle.vc_process.specs.declared.expression.Expr.{Expr}
use Rattle.vc_process.specs.declared.value.Value.{Value}
use Rattle.vc_process.specs.declared.process.Process.{Process}
use Rattle.vc_process.specs.declared.process.Process.TheVariants as process
use Rattle.vc_process.specs.declared.process.Process.TheViews.{out-Branch, out-Guard}
use Rattle.vc_process.specs.declared.process.Branch.{Branch}
use Rattle.vc_process.specs.declared.process.Guard.{Guard}
use Rattle.vc_process.specs.InOrder.{number}
use Rattle.vc_process.specs.Private.InOrder.{number_branch, number_guard}
use Rattle.vc_process.specs.Numbering.{Numbered, NumberedBranch, NumberedGuard}
use Rattle.vc_process.specs.Terms.{exp, as_test, given}
use Rattle.vc_process.proofs.Numbers.{number_skip, number_stop, number_set, number_send, number_receive, number_stopch, number_seq, number_par, number_if, number_while, number_count, number_alt, number_branch_out, number_guard_out}
use Rattle.vc_process.specs.Renaming.{renamed_exp, renamed_test, renamed_given, IsRenamed}
use Rattle.vc_process.specs.Private.Renaming.{AreRenamed, AreRenamedBranches, IsRenamedGuard, AreRenamedGuards}
use Rattle.vc_process.proofs.RenamedTrees.{skip_renamed, stop_renamed, set_renamed, send_renamed, receive_renamed, stopch_renamed, seq_renamed, par_renamed, if_renamed, while_renamed, count_renamed, alt_renamed}

pub take_more : {A : Type 0} (xs : List A) (k : ℕ) (x : A) → k < length xs → x ≡ get_or xs k x → take (k + 1) xs ≡ take k xs ++ x ∷ []
take_more xs k x l h = ap (λ j. take j xs) (add-one k) ∙ take-suc xs k x l ∙ ap (λ z. take k xs ++ z ∷ []) (sym h)

module _ (ρ : ℕ → ℕ) where
  by_numbers : (p q : Process) (m n : Numbered) → number p ≡ m → number q ≡ n → IsRenamed ρ m n → IsRenamed ρ (number p) (number q)
  by_numbers p q m n a b h = subst (λ z. IsRenamed ρ z (number q)) (sym a) (subst (IsRenamed ρ m) (sym b) h)

  pub word_skip : (p : Process) → p ≡ process.Skip → IsRenamed ρ (number p) (number process.Skip)
  word_skip p e = by_numbers p process.Skip _ _ (number_skip p e) (number_skip process.Skip refl) (skip_renamed ρ)

  pub word_stop : (p : Process) → p ≡ process.Stop → IsRenamed ρ (number p) (number process.Stop)
  word_stop p e = by_numbers p process.Stop _ _ (number_stop p e) (number_stop process.Stop refl) (stop_renamed ρ)

  pub word_set : (v w : ℕ) (a c : Value) → w ≡ ρ v → given c ≡ renamed_given ρ (given a) → IsRenamed ρ (number (process.Set v a)) (number (process.Set w c))
  word_set v w a c e f = by_numbers (process.Set v a) (process.Set w c) _ _ (number_set (process.Set v a) v a refl) (number_set (process.Set w c) w c refl) (set_renamed ρ v w a c e f)

  pub word_send : (chan : ℕ) (a c : Value) → given c ≡ renamed_given ρ (given a) → IsRenamed ρ (number (process.Send chan a)) (number (process.Send chan c))
  word_send chan a c f = by_numbers (process.Send chan a) (process.Send chan c) _ _ (number_send (process.Send chan a) chan a refl) (number_send (process.Send chan c) chan c refl) (send_renamed ρ chan a c f)

  pub word_receive : (p : Process) (chan v w : ℕ) → p ≡ process.Receive chan v → w ≡ ρ v → IsRenamed ρ (number p) (number (process.Receive chan w))
  word_receive p chan v w e f = by_numbers p (process.Receive chan w) _ _ (number_receive p chan v e) (number_receive (process.Receive chan w) chan w refl) (receive_renamed ρ chan v w f)

  pub word_stopch : (p : Process) (chan : ℕ) → p ≡ process.Stopch chan → IsRenamed ρ (number p) (number (process.Stopch chan))
  word_stopch p chan e = by_numbers p (process.Stopch chan) _ _ (number_stopch p chan e) (number_stopch (process.Stopch chan) chan refl) (stopch_renamed ρ chan)

  pub word_seq : (p : Process) (ps qs : List Process) → p ≡ process.Seq ps → AreRenamed ρ (map number ps) (map number qs) → IsRenamed ρ (number p) (number (process.Seq qs))
  word_seq p ps qs e h = by_numbers p (process.Seq qs) _ _ (number_seq p ps e) (number_seq (process.Seq qs) qs refl) (seq_renamed ρ (map number ps) (map number qs) h)

  pub word_par : (p : Process) (ps qs : List Process) → p ≡ process.Par ps → AreRenamed ρ (map number ps) (map number qs) → IsRenamed ρ (number p) (number (process.Par qs))
  word_par p ps qs e h = by_numbers p (process.Par qs) _ _ (number_par p ps e) (number_par (process.Par qs) qs refl) (par_renamed ρ (map number ps) (map number qs) h)

  pub word_if : (p : Process) (bs ds : List Branch) → p ≡ process.If bs → AreRenamedBranches ρ (map number_branch bs) (map number_branch ds) → IsRenamed ρ (number p) (number (process.If ds))
  word_if p bs ds e h = by_numbers p (process.If ds) _ _ (number_if p bs e) (number_if (process.If ds) ds refl) (if_renamed ρ (map number_branch bs) (map number_branch ds) h)

  pub word_alt : (p : Process) (gs hs : List Guard) → p ≡ process.Alt gs → AreRenamedGuards ρ (map number_guard gs) (map number_guard hs) → IsRenamed ρ (number p) (number (process.Alt hs))
  word_alt p gs hs e h = by_numbers p (process.Alt hs) _ _ (number_alt p gs e) (number_alt (process.Alt hs) hs refl) (alt_renamed ρ (map number_guard gs) (map number_guard hs) h)

  pub word_while : (b d : Cond) (p q : Process) → as_test d ≡ renamed_test ρ (as_test b) → IsRenamed ρ (number p) (number q) → IsRenamed ρ (number (process.While b p)) (number (process.While d q))
  word_while b d p q f h = by_numbers (process.While b p) (process.While d q) _ _ (number_while (process.While b p) b p refl) (number_while (process.While d q) d q refl) (while_renamed ρ b d (number p) (number q) f h)

  pub word_count : (v w : ℕ) (a c n m : Expr) (p q : Process) → w ≡ ρ v → exp c ≡ renamed_exp ρ (exp a) → exp m ≡ renamed_exp ρ (exp n) → IsRenamed ρ (number p) (number q) → IsRenamed ρ (number (process.Count v a n p)) (number (process.Count w c m q))
  word_count v w a c n m p q e f g h = by_numbers (process.Count v a n p) (process.Count w c m q) _ _ (number_count (process.Count v a n p) v a n p refl) (number_count (process.Count w c m q) w c m q refl) (count_renamed ρ v w a c n m (number p) (number q) e f g h)

  pub while_next : {E : Type 0} (o : Process) (b : Cond) (p q : Process) (cond : Result Cond E) (r : Result Process E) → o ≡ process.While b p → IfOk cond (λ d. as_test d ≡ renamed_test ρ (as_test b)) → IsRenamed ρ (number p) (number q) → IfOk r (λ made. IsOkAnd cond (λ d. made ≡ process.While d q)) →
      IfOk r (λ made. IsRenamed ρ (number o) (number made))
  while_next o b p q (Ok d) (Ok made) is f h m = subst (λ z. IsRenamed ρ (number z) (number made)) (sym is) (subst (λ z. IsRenamed ρ (number (process.While b p)) (number z)) (sym m) (word_while b d p q f h))
  while_next o b p q (Err e) (Ok made) is f h m = absurd m
  while_next o b p q cond (Err e) is f h m = tt

  pub count_next : {E : Type 0} (o : Process) (v w : ℕ) (a n : Expr) (p q : Process) (base count : Result Expr E) (r : Result Process E) → o ≡ process.Count v a n p → w ≡ ρ v → IfOk base (λ c. exp c ≡ renamed_exp ρ (exp a)) → IfOk count (λ m. exp m ≡ renamed_exp ρ (exp n)) → IsRenamed ρ (number p) (number q) → IfOk r (λ made. IsOkAnd base (λ c. IsOkAnd count (λ m. made ≡ process.Count w c m q))) →
      IfOk r (λ made. IsRenamed ρ (number o) (number made))
  count_next o v w a n p q (Ok c) (Ok m) (Ok made) is e f g h k = subst (λ z. IsRenamed ρ (number z) (number made)) (sym is) (subst (λ z. IsRenamed ρ (number (process.Count v a n p)) (number z)) (sym k) (word_count v w a c n m p q e f g h))
  count_next o v w a n p q (Ok c) (Err x) (Ok made) is e f g h k = absurd k
  count_next o v w a n p q (Err x) count (Ok made) is e f g h k = absurd k
  count_next o v w a n p q base count (Err x) is e f g h k = tt

  are_more : (ps qs : List Numbered) (p q : Numbered) → AreRenamed ρ ps qs → IsRenamed ρ p q → AreRenamed ρ (ps ++ p ∷ []) (qs ++ q ∷ [])
  are_more [] [] p q h k = (k, tt)
  are_more (x ∷ ps) (y ∷ qs) p q h k = (h.0, are_more ps qs p q h.1 k)
  are_more [] (y ∷ qs) p q h k = absurd h
  are_more (x ∷ ps) [] p q h k = absurd h

  pub parts_next : {E : Type 0} (xs : List Process) (k : ℕ) (x : Process) (now later : List Process) (r : Result Process E) → k < length xs → x ≡ get_or xs k x → IfOk r (λ y. IsRenamed ρ (number x) (number y)) → IsOkAnd r (λ y. later ≡ now ++ y ∷ []) →
      AreRenamed ρ (map number (take k xs)) (map number now) → AreRenamed ρ (map number (take (k + 1) xs)) (map number later)
  parts_next xs k x now later (Ok y) l h m p i =
      subst (λ z. AreRenamed ρ z (map number later)) (sym (ap (map number) (take_more xs k x l h) ∙ map-append number (take k xs) (x ∷ [])))
      (subst (AreRenamed ρ (map number (take k xs) ++ number x ∷ [])) (sym (ap (map number) p ∙ map-append number now (y ∷ []))) (are_more (map number (take k xs)) (map number now) (number x) (number y) i m))
  parts_next xs k x now later (Err e) l h m p i = absurd p

  branches_more : (bs ds : List NumberedBranch) (b d : NumberedBranch) → AreRenamedBranches ρ bs ds → d.when ≡ renamed_test ρ b.when → IsRenamed ρ b.then_do d.then_do → AreRenamedBranches ρ (bs ++ b ∷ []) (ds ++ d ∷ [])
  branches_more [] [] b d h w k = (w, k, tt)
  branches_more (x ∷ bs) (y ∷ ds) b d h w k = (h.0, h.1, branches_more bs ds b d h.2 w k)
  branches_more [] (y ∷ ds) b d h w k = absurd h
  branches_more (x ∷ bs) [] b d h w k = absurd h

  pub branches_next : {E : Type 0} (xs : List Branch) (k : ℕ) (x : Branch) (now later : List Branch) (r : Result Branch E) → k < length xs → x ≡ get_or xs k x →
      IfOk r (λ y. (as_test (out-Branch y).cond ≡ renamed_test ρ (as_test (out-Branch x).cond)) × IsRenamed ρ (number (out-Branch x).body) (number (out-Branch y).body)) → IsOkAnd r (λ y. later ≡ now ++ y ∷ []) →
      AreRenamedBranches ρ (map number_branch (take k xs)) (map number_branch now) → AreRenamedBranches ρ (map number_branch (take (k + 1) xs)) (map number_branch later)
  branches_next xs k x now later (Ok y) l h m p i =
      let a = number_branch_out x in
      let b = number_branch_out y in
      let when : (number_branch y).when ≡ renamed_test ρ (number_branch x).when = ap (λ (z : NumberedBranch). z.when) b ∙ m.0 ∙ sym (ap (λ (z : NumberedBranch). renamed_test ρ z.when) a) in
      let body : IsRenamed ρ (number_branch x).then_do (number_branch y).then_do = subst (λ (z : NumberedBranch). IsRenamed ρ z.then_do (number_branch y).then_do) (sym a) (subst (λ (z : NumberedBranch). IsRenamed ρ (number (out-Branch x).body) z.then_do) (sym b) m.1) in
      subst (λ z. AreRenamedBranches ρ z (map number_branch later)) (sym (ap (map number_branch) (take_more xs k x l h) ∙ map-append number_branch (take k xs) (x ∷ [])))
      (subst (AreRenamedBranches ρ (map number_branch (take k xs) ++ number_branch x ∷ [])) (sym (ap (map number_branch) p ∙ map-append number_branch now (y ∷ []))) (branches_more (map number_branch (take k xs)) (map number_branch now) (number_branch x) (number_branch y) i when body))
  branches_next xs k x now later (Err e) l h m p i = absurd p

  guards_more : (gs hs : List NumberedGuard) (g f : NumberedGuard) → AreRenamedGuards ρ gs hs → IsRenamedGuard ρ g f → AreRenamedGuards ρ (gs ++ g ∷ []) (hs ++ f ∷ [])
  guards_more [] [] g f h k = (k, tt)
  guards_more (x ∷ gs) (y ∷ hs) g f h k = (h.0, guards_more gs hs g f h.1 k)
  guards_more [] (y ∷ hs) g f h k = absurd h
  guards_more (x ∷ gs) [] g f h k = absurd h

  pub guards_next : {E : Type 0} (xs : List Guard) (k : ℕ) (x : Guard) (now later : List Guard) (r : Result Guard E) → k < length xs → x ≡ get_or xs k x → IfOk r (λ y. IsRenamedGuard ρ (number_guard x) (number_guard y)) → IsOkAnd r (λ y. later ≡ now ++ y ∷ []) →
      AreRenamedGuards ρ (map number_guard (take k xs)) (map number_guard now) → AreRenamedGuards ρ (map number_guard (take (k + 1) xs)) (map number_guard later)
  guards_next xs k x now later (Ok y) l h m p i =
      subst (λ z. AreRenamedGuards ρ z (map number_guard later)) (sym (ap (map number_guard) (take_more xs k x l h) ∙ map-append number_guard (take k xs) (x ∷ [])))
      (subst (AreRenamedGuards ρ (map number_guard (take k xs) ++ number_guard x ∷ [])) (sym (ap (map number_guard) p ∙ map-append number_guard now (y ∷ []))) (guards_more (map number_guard (take k xs)) (map number_guard now) (number_guard x) (number_guard y) i m))
  guards_next xs k x now later (Err e) l h m p i = absurd p

  pub guard_word : (x g : Guard) → as_test (out-Guard g).cond ≡ renamed_test ρ (as_test (out-Guard x).cond) → (out-Guard g).chan ≡ (out-Guard x).chan → (out-Guard g).var ≡ ρ (out-Guard x).var → IsRenamed ρ (number (out-Guard x).body) (number (out-Guard g).body) →
      IsRenamedGuard ρ (number_guard x) (number_guard g)
  guard_word x g e f h m =
      let a = number_guard_out x in
      let b = number_guard_out g in
      subst (λ (z : NumberedGuard). IsRenamedGuard ρ z (number_guard g)) (sym a)
      (subst (IsRenamedGuard ρ (record { when = as_test (out-Guard x).cond; chan = (out-Guard x).chan; var = (out-Guard x).var; then_do = number (out-Guard x).body })) (sym b) (e, f, h, m))
