-- The parts of a value.
use Rattle.std.proofs.Common.{◌≡◌, ◌∙◌, ℕ, ◌+◌, ◌*◌, length, sym, List, [], ◌∷◌, ◌++◌, map, refl, ap, arith, append_assoc, Result, Ok, Err}
use Rattle.serde_json.specs.View.{view, items_of}
use Rattle.serde_json.specs.declared.value.Value.{Value}
use Rattle.vc_reader.specs.Reading.{count, ◌>>=◌}
use Rattle.vc_reader.specs.Private.Reading.{Fails}
use Rattle.vc_reader.specs.Bytes.{hex_digit, hex_bytes}
use Rattle.vc_reader.specs.Private.Bytes.{hex_pair, pushed}
use Rattle.vc_reader.specs.declared.fault.Stop.{Stop}
use Rattle.vc_reader.specs.declared.fault.Stop.TheVariants as stop
use Rattle.vc_reader.specs.declared.fault.Fault.{Fault}

pub count_items_of : (vs : List Value) → count (items_of (map view vs)) ≡ length vs
count_items_of [] = refl
count_items_of (v ∷ vs) = omega (arith, count_items_of vs)

-- what is read before, and what is read after it
abbrev pub with_front : List ℕ → Result (List ℕ) Fault → Result (List ℕ) Fault
with_front front read = read >>= λ xs. Ok (front ++ xs)

pub with_front_none : (read : Result (List ℕ) Fault) → with_front [] read ≡ read
with_front_none (Ok xs) = refl
with_front_none (Err f) = refl

pub with_front_one : (front : List ℕ) (x : ℕ) (read : Result (List ℕ) Fault) → with_front (front ++ x ∷ []) read ≡ with_front front (read >>= λ xs. Ok (x ∷ xs))
with_front_one front x (Ok xs) = ap Ok (append_assoc front (x ∷ []) xs)
with_front_one front x (Err f) = refl

pair-read-of : (m n : Result ℕ Fault) (more all : Result (List ℕ) Fault) (before after : List ℕ) → pushed before (m >>= λ h. n >>= λ l. Ok (16 * h + l)) ≡ Ok after →
    with_front before (m >>= λ h. n >>= λ l. more >>= λ o. Ok ((16 * h + l) ∷ o)) ≡ all → with_front after more ≡ all
pair-read-of (Ok h) (Ok l) more all before after e r =
    let q : before ++ (16 * h + l) ∷ [] ≡ after = cc in
    ap (λ f. with_front f more) (sym q) ∙ with_front_one before (16 * h + l) more ∙ r
pair-read-of (Ok h) (Err v) more all before after e r = cc
pair-read-of (Err v) n more all before after e r = cc

pair-stops-of : (m n : Result ℕ Fault) (more all : Result (List ℕ) Fault) (before : List ℕ) (why : Stop) → Fails why (pushed before (m >>= λ h. n >>= λ l. Ok (16 * h + l))) →
    with_front before (m >>= λ h. n >>= λ l. more >>= λ o. Ok ((16 * h + l) ∷ o)) ≡ all → Fails why all
pair-stops-of m n more all before stop.Memory e r = tt
pair-stops-of (Ok h) (Ok l) more all before (stop.Fault w) e r = cc
pair-stops-of (Ok h) (Err v) more all before (stop.Fault w) e r =
    let q : v ≡ w = cc in
    sym r ∙ ap (λ u. Err u) q
pair-stops-of (Err v) n more all before (stop.Fault w) e r =
    let q : v ≡ w = cc in
    sym r ∙ ap (λ u. Err u) q

-- two digits and what is read after them
pub pair-read : (before after : List ℕ) (a b : ℕ) (text rest : List ℕ) (all : Result (List ℕ) Fault) → text ≡ a ∷ b ∷ rest → pushed before (hex_pair a b) ≡ Ok after → with_front before (hex_bytes text) ≡ all →
    with_front after (hex_bytes rest) ≡ all
pair-read before after a b text rest all t e r =
    pair-read-of (hex_digit a) (hex_digit b) (hex_bytes rest) all before after e (ap (λ s. with_front before (hex_bytes s)) (sym t) ∙ r)

pub pair-stops : (before : List ℕ) (a b : ℕ) (text rest : List ℕ) (all : Result (List ℕ) Fault) (why : Stop) → text ≡ a ∷ b ∷ rest → Fails why (pushed before (hex_pair a b)) → with_front before (hex_bytes text) ≡ all →
    Fails why all
pair-stops before a b text rest all why t e r =
    pair-stops-of (hex_digit a) (hex_digit b) (hex_bytes rest) all before why e (ap (λ s. with_front before (hex_bytes s)) (sym t) ∙ r)
