-- Completions: a trace in which messages are output later and finished earlier, a pending output that was not taken is left out, and
-- one that was taken is finished (Herlihy and Wing, 1990: the completion of a history).
use Rattle.std.proofs.Common.{◌≡◌, ℕ, suc, ◌≤◌, subst, List, [], ◌∷◌, ◌++◌, arith}
use Rattle.vc_process.specs.declared.datum.Datum.{Datum}
use Rattle.vc_placement.specs.Linearization.{StaysEnded}
use Rattle.vc_process.specs.Syntax.{Proc}
use Rattle.vc_process.specs.Values.{Store}
use Rattle.vc_occam.specs.Traces.{Comm, Out, Fin, End, Open, Ended, Trace}
use Rattle.vc_occam.proofs.Counts.{outs, fins}
use Rattle.vc_occam.proofs.Balance.{Balances, balanced}
use Rattle.vc_occam.proofs.Prefixes.{StrictPrefix, strict_none, strict_more, prefixed}
use Rattle.vc_occam.proofs.Independence.{an_output, an_end, Swap, swap_here, swap_later, swapped, out_here}
use Rattle.vc_occam.proofs.Responses.{Insertion, insertion_later, insertion_within, Unfinished, finished}

-- a pending output, the last communication, is left out
pub data Withdrawal : List Comm → List Comm → Type 0 where
  withdrawal_here : {c : ℕ} {x : Datum} → Withdrawal (Out c x ∷ []) []
  withdrawal_later : {k : Comm} {l m : List Comm} → Withdrawal l m → Withdrawal (k ∷ l) (k ∷ m)

-- a pending output is finished
pub data Response : List Comm → List Comm → Type 0 where
  response_here : {c : ℕ} {x : Datum} {a l m : List Comm} → Insertion c a l m → fins c l ≡ 0 → Response (Out c x ∷ l) (Out c x ∷ m)
  response_later : {k : Comm} {l m : List Comm} → Response l m → Response (k ∷ l) (k ∷ m)

pub data Rewrites : List Comm → List Comm → Type 0 where
  stays : {l : List Comm} → Rewrites l l
  swaps : {l m n : List Comm} → Swap l m → Rewrites m n → Rewrites l n
  withdraws : {l m n : List Comm} → Withdrawal l m → Rewrites m n → Rewrites l n
  responds : {l m n : List Comm} → Response l m → Rewrites m n → Rewrites l n

pub chain : {l m n : List Comm} → Rewrites l m → Rewrites m n → Rewrites l n
chain stays g = g
chain (swaps s h) g = swaps s (chain h g)
chain (withdraws d h) g = withdraws d (chain h g)
chain (responds s h) g = responds s (chain h g)

pub behind : (k : Comm) {l m : List Comm} → Rewrites l m → Rewrites (k ∷ l) (k ∷ m)
behind k stays = stays
behind k (swaps s h) = swaps (swap_later s) (behind k h)
behind k (withdraws d h) = withdraws (withdrawal_later d) (behind k h)
behind k (responds s h) = responds (response_later s) (behind k h)

pub behind_all : (g : List Comm) {l m : List Comm} → Rewrites l m → Rewrites (g ++ l) (g ++ m)
behind_all [] h = h
behind_all (k ∷ g) h = behind k (behind_all g h)

-- an output goes behind what is no end of it, and an end before what is no output of it
pub later : (c : ℕ) (x : Datum) (g b : List Comm) → fins c g ≡ 0 → Rewrites (Out c x ∷ (g ++ b)) (g ++ Out c x ∷ b)
later c x [] b h = stays
later c x (k ∷ g) b h = swaps (swap_here (an_output (omega arith))) (behind k (later c x g b (omega arith)))

pub earlier : (c : ℕ) (g b : List Comm) → outs c g ≡ 0 → Rewrites (g ++ Fin c ∷ b) (Fin c ∷ (g ++ b))
earlier c [] b h = stays
earlier c (k ∷ g) b h = chain (behind k (earlier c g b (omega arith))) (swaps (swap_here (an_end (omega arith))) stays)

-- what is left out was begun and not finished
record Withdrawn (l m : List Comm) : Type 0 where
  pub front : StrictPrefix m l
  pub chan : ℕ
  pub begun : outs chan l ≡ suc (outs chan m)
  pub over : fins chan l ≡ fins chan m

withdrawn : {l m : List Comm} → Withdrawal l m → Withdrawn l m
withdrawn (withdrawal_here {c = c} {x = x}) = let o = out_here c x in record { front = strict_none; chan = c; begun = omega arith; over = omega arith }
withdrawn (withdrawal_later {k = k} {l = l} {m = m} d) = let r = withdrawn d in let o = r.begun in let f = r.over in record { front = strict_more r.front; chan = r.chan; begun = omega arith; over = omega arith }

not_open : {f : Store} → Open ≡ Ended f → ⊥
not_open e = cc

withdrawn_trace : {p : Proc} {e : Store} {l m : List Comm} (x : End) → Trace p e l x → Withdrawal l m → Trace p e m Open × StaysEnded x Open
withdrawn_trace {p} {e} {l} {m} x q d =
    let r = withdrawn d in
    let t : Trace p e m Open = prefixed q r.front in
    (t, λ f k. absurd (let a = subst (Balances r.chan l) k (balanced r.chan q) in let b = balanced r.chan t in let o = r.begun in let g = r.over in omega arith))

-- an output without an end, and where its end is put
record Responded (l m : List Comm) : Type 0 where
  pub chan : ℕ
  pub before : List Comm
  pub upto : List Comm
  pub front : StrictPrefix before l
  pub puts : Insertion chan upto l m
  pub over : fins chan l ≡ fins chan before
  pub begun : suc (outs chan before) ≤ outs chan upto

responded : {l m : List Comm} → Response l m → Responded l m
responded (response_here {c = c} {x = x} {a = a} {l = l} h n) =
    let o = out_here c x in
    record { chan = c; before = []; upto = Out c x ∷ a; front = strict_none; puts = insertion_later h; over = omega arith; begun = omega arith }
responded (response_later {k = k} {l = l} s) =
    let r = responded s in
    let o = r.begun in
    let f = r.over in
    record { chan = r.chan; before = k ∷ r.before; upto = k ∷ r.upto; front = strict_more r.front; puts = insertion_later r.puts; over = omega arith; begun = omega arith }

responded_trace : {p : Proc} {e : Store} {l m : List Comm} (x : End) → Trace p e l x → Response l m → (y : End) × Trace p e m y × StaysEnded x y
responded_trace {p} {e} {l} {m} x q s =
    let r = responded s in
    let w = balanced r.chan (prefixed q r.front) in
    let o = r.begun in
    let g = r.over in
    let n : Unfinished r.chan r.upto l = omega arith in
    let t = finished q r.puts n in
    (t.0, t.1, λ f k. absurd (let a = subst (Balances r.chan l) k (balanced r.chan q) in let b = insertion_within r.puts in omega arith))

pub rewritten : {p : Proc} {e : Store} {l m : List Comm} (x : End) → Trace p e l x → Rewrites l m → (y : End) × Trace p e m y × StaysEnded x y
rewritten x q stays = (x, q, λ f k. k)
rewritten x q (swaps s h) = rewritten x (swapped q s) h
rewritten x q (withdraws d h) =
    let r = withdrawn_trace x q d in
    let t = rewritten Open r.0 h in
    (t.0, t.1, λ f k. t.2 f (r.1 f k))
rewritten x q (responds s h) =
    let r = responded_trace x q s in
    let t = rewritten r.0 r.1 h in
    (t.0, t.1, λ f k. t.2 f (r.2 f k))

-- the empty list stays empty
swap_some : {l m : List Comm} → Swap l m → l ≡ [] → ⊥
swap_some (swap_here h) e = cc
swap_some (swap_later h) e = cc

withdrawal_some : {l m : List Comm} → Withdrawal l m → l ≡ [] → ⊥
withdrawal_some withdrawal_here e = cc
withdrawal_some (withdrawal_later h) e = cc

response_some : {l m : List Comm} → Response l m → l ≡ [] → ⊥
response_some (response_here h n) e = cc
response_some (response_later h) e = cc

pub empty_stays_empty : {l m : List Comm} → Rewrites l m → l ≡ [] → m ≡ []
empty_stays_empty stays e = e
empty_stays_empty (swaps s h) e = absurd (swap_some s e)
empty_stays_empty (withdraws s h) e = absurd (withdrawal_some s e)
empty_stays_empty (responds s h) e = absurd (response_some s e)
