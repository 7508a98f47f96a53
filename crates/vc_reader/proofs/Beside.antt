-- What was read before, beside what is read next.
use Rattle.std.proofs.Common.{◌≡◌, ◌∙◌, ℕ, List, refl, ap, Result, Ok, Err}
use Rattle.serde_json.specs.Data.{Data}
use Rattle.vc_process.specs.declared.condition.Cond.{Cond}
use Rattle.vc_process.specs.declared.process.Process.{Process}
use Rattle.vc_process.specs.declared.process.Process.TheVariants.{While}
use Rattle.vc_plan.specs.declared.channel.Channel.{Channel}
use Rattle.vc_plan.specs.declared.node_plan.Variable.{Variable}
use Rattle.vc_reader.specs.Reading.{◌>>=◌, cell, row}
use Rattle.vc_reader.specs.Private.Reading.{beside, Fails}
use Rattle.vc_reader.specs.Conditions.{whole_cond}
use Rattle.vc_reader.specs.Bytes.{read_variable}
use Rattle.vc_reader.specs.Processes.{read_branch, read_while, read_guard, channel_named}
use Rattle.vc_reader.specs.Private.Processes.{cond_first, guard_head}
use Rattle.vc_reader.specs.declared.fault.Fault.{Fault}
use Rattle.vc_reader.specs.declared.fault.Stop.{Stop}
use Rattle.vc_reader.specs.declared.fault.Stop.TheVariants as stop

in-turn : {R A B : Type 0} (r : Result R Fault) (m : Result A Fault) (f : A → Result B Fault) → (r >>= λ _. m >>= f) ≡ ((r >>= λ _. m) >>= f)
in-turn (Ok x) m f = refl
in-turn (Err e) m f = refl

split : {R A K C : Type 0} (r : Result R Fault) (m : Result A Fault) (n : Result (ℕ × K) Fault) (v : K → Result ℕ Fault) (f : A → ℕ → ℕ → Result C Fault) →
    (r >>= λ _. m >>= λ a. n >>= λ c. v c.1 >>= λ x. f a c.0 x) ≡ (((r >>= λ _. m) >>= λ a. beside {B = ℕ × ℕ} a (n >>= λ c. v c.1 >>= λ x. Ok (c.0, x))) >>= λ h. f h.0 h.1.0 h.1.1)
split (Err e) m n v f = refl
split (Ok t) (Err e) n v f = refl
split (Ok t) (Ok a) (Err e) v f = refl
split (Ok t) (Ok a) (Ok c) v f = by (v c.1)
  where
    by : (m : Result ℕ Fault) → (m >>= λ x. f a c.0 x) ≡ ((beside {B = ℕ × ℕ} a (m >>= λ x. Ok (c.0, x))) >>= λ h. f h.0 h.1.0 h.1.1)
    by (Ok x) = refl
    by (Err e) = refl

-- a reading whose rest is at fault
pub rest-fails : {A B C : Type 0} (all : Result C Fault) (m : Result A Fault) (n : Result B Fault) (made : A → B → C) (a : A) (why : Stop) → all ≡ (m >>= λ x. n >>= λ y. Ok (made x y)) → m ≡ Ok a →
    Fails why (beside a n) → Fails why all
rest-fails all m n made a stop.Memory e h r = tt
rest-fails all m (Ok y) made a (stop.Fault w) e h r = cc
rest-fails all m (Err v) made a (stop.Fault w) e h r =
    let q : v ≡ w = cc in
    e ∙ ap (λ x. x >>= λ c. (Err v >>= λ y. Ok (made c y))) h ∙ ap (λ u. Err u) q

-- a reading of both
pub both-read : {A B C : Type 0} (all : Result C Fault) (m : Result A Fault) (n : Result B Fault) (made : A → B → C) (a : A) (x : A) (y : B) → all ≡ (m >>= λ x. n >>= λ y. Ok (made x y)) → m ≡ Ok a →
    beside a n ≡ Ok (x, y) → all ≡ Ok (made x y)
both-read {A} {B} all m (Ok z) made a x y e h r =
    let q : (a, z) ≡ (x, y) = cc in
    e ∙ ap (λ u. u >>= λ v. Ok (made v z)) h ∙ ap (λ (u : A × B). Ok (made u.0 u.1)) q
both-read all m (Err v) made a x y e h r = cc

branch-is : (part : Data → Result Process Fault) (vars : List Variable) (d : Data) → read_branch part vars d ≡ (cond_first 2 vars d >>= λ cond. cell 1 part d >>= λ body. Ok (record { cond = cond; body = body }))
branch-is part vars d = in-turn (row 2 d) (cell 0 (whole_cond vars) d) (λ cond. cell 1 part d >>= λ body. Ok (record { cond = cond; body = body }))

pub branch-fails : (part : Data → Result Process Fault) (vars : List Variable) (d : Data) (cond : Cond) (why : Stop) → cond_first 2 vars d ≡ Ok cond → Fails why (beside cond (cell 1 part d)) → Fails why (read_branch part vars d)
branch-fails part vars d cond why h r =
    rest-fails (read_branch part vars d) (cond_first 2 vars d) (cell 1 part d) (λ c b. record { cond = c; body = b }) cond why (branch-is part vars d) h r

pub branch-read : (part : Data → Result Process Fault) (vars : List Variable) (d : Data) (cond c : Cond) (b : Process) → cond_first 2 vars d ≡ Ok cond → beside cond (cell 1 part d) ≡ Ok (c, b) → read_branch part vars d ≡ Ok (record { cond = c; body = b })
branch-read part vars d cond c b h r =
    both-read (read_branch part vars d) (cond_first 2 vars d) (cell 1 part d) (λ c b. record { cond = c; body = b }) cond c b (branch-is part vars d) h r

while-is : (part : Data → Result Process Fault) (vars : List Variable) (d : Data) → read_while part vars d ≡ (cond_first 2 vars d >>= λ cond. cell 1 part d >>= λ body. Ok (While cond body))
while-is part vars d = in-turn (row 2 d) (cell 0 (whole_cond vars) d) (λ cond. cell 1 part d >>= λ body. Ok (While cond body))

pub while-fails : (part : Data → Result Process Fault) (vars : List Variable) (d : Data) (cond : Cond) (why : Stop) → cond_first 2 vars d ≡ Ok cond → Fails why (beside cond (cell 1 part d)) → Fails why (read_while part vars d)
while-fails part vars d cond why h r =
    rest-fails (read_while part vars d) (cond_first 2 vars d) (cell 1 part d) (λ c b. While c b) cond why (while-is part vars d) h r

pub while-read : (part : Data → Result Process Fault) (vars : List Variable) (d : Data) (cond c : Cond) (b : Process) → cond_first 2 vars d ≡ Ok cond → beside cond (cell 1 part d) ≡ Ok (c, b) → read_while part vars d ≡ Ok (While c b)
while-read part vars d cond c b h r =
    both-read (read_while part vars d) (cond_first 2 vars d) (cell 1 part d) (λ c b. While c b) cond c b (while-is part vars d) h r

guard-is : (part : Data → Result Process Fault) (vars : List Variable) (channels : List Channel) (d : Data) →
    read_guard part vars channels d ≡ (guard_head vars channels d >>= λ h. cell 3 part d >>= λ body. Ok (record { cond = h.0; chan = h.1.0; var = h.1.1; body = body }))
guard-is part vars channels d =
    split (row 4 d) (cell 0 (whole_cond vars) d) (cell 1 (channel_named channels) d) (λ k. cell 2 (read_variable k vars) d) (λ cond chan var. cell 3 part d >>= λ body. Ok (record { cond = cond; chan = chan; var = var; body = body }))

pub guard-fails : (part : Data → Result Process Fault) (vars : List Variable) (channels : List Channel) (d : Data) (head : Cond × (ℕ × ℕ)) (why : Stop) → guard_head vars channels d ≡ Ok head →
    Fails why (beside head (cell 3 part d)) → Fails why (read_guard part vars channels d)
guard-fails part vars channels d head why h r =
    rest-fails (read_guard part vars channels d) (guard_head vars channels d) (cell 3 part d) (λ g b. record { cond = g.0; chan = g.1.0; var = g.1.1; body = b }) head why (guard-is part vars channels d) h r

pub guard-read : (part : Data → Result Process Fault) (vars : List Variable) (channels : List Channel) (d : Data) (head g : Cond × (ℕ × ℕ)) (b : Process) → guard_head vars channels d ≡ Ok head →
    beside head (cell 3 part d) ≡ Ok (g, b) → read_guard part vars channels d ≡ Ok (record { cond = g.0; chan = g.1.0; var = g.1.1; body = b })
guard-read part vars channels d head g b h r =
    both-read (read_guard part vars channels d) (guard_head vars channels d) (cell 3 part d) (λ g b. record { cond = g.0; chan = g.1.0; var = g.1.1; body = b }) head g b (guard-is part vars channels d) h r
