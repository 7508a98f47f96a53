-- Texts that go to a writer one after another.
use Rattle.std.proofs.Common.{◌≡◌, ◌<◌, ℕ, zero, suc, ◌+◌, List, [], ◌∷◌, ◌++◌, length, take, get_or, Option, Some, None, Result, Ok, Err, OnErr, OnOk, refl, sym, ap, subst, ◌∙◌, append_assoc, append-nil, arith}
use Rattle.std.proofs.KnownBytes.{Appends-trans}
use Rattle.std.specs.List.{flat_map}
use Rattle.std.specs.Io.KnownBytes.{Appends}
use Rattle.vc_text.specs.Streams.{AppendsFront}
use Rattle.vc_text.specs.Pieces.{Passes}

-- a front of a list, behind another list
take_behind : (xs ys : List ℕ) (k : ℕ) → (n : ℕ) × (take n (xs ++ ys) ≡ xs ++ take k ys)
take_behind [] ys k = (k, refl)
take_behind (x ∷ xs) ys k = let (n, is) = take_behind xs ys k in (suc n, ap (λ t. x ∷ t) is)

-- a front of a list is a front of a longer one
take_sooner : (xs ys : List ℕ) (k : ℕ) → (n : ℕ) × (take n (xs ++ ys) ≡ take k xs)
take_sooner [] ys k = (0, nothing ys k)
  where
    nothing : (ys : List ℕ) (k : ℕ) → take 0 ys ≡ take k []
    nothing ys zero = refl
    nothing ys (suc k) = refl
take_sooner (x ∷ xs) ys zero = (0, refl)
take_sooner (x ∷ xs) ys (suc k) = let (n, is) = take_sooner xs ys k in (suc n, ap (λ t. x ∷ t) is)

-- nothing is a front of each text
pub front_none : (a : Option (List ℕ)) (text : List ℕ) → AppendsFront a a text
front_none None text = (0, tt)
front_none (Some u) text = (0, sym (append-nil u))

-- a front of a text is a front of a longer text
pub front_longer : (a b : Option (List ℕ)) (text more : List ℕ) → AppendsFront a b text → AppendsFront a b (text ++ more)
front_longer a b text more (k, front) =
    let (n, is) = take_sooner text more k in
    (n, subst (Appends a b) (sym is) front)

-- a whole text, and then a front of another
pub front_behind : (a b c : Option (List ℕ)) (xs ys : List ℕ) → Appends a b xs → AppendsFront b c ys → AppendsFront a c (xs ++ ys)
front_behind a b c xs ys all (k, front) =
    let (n, is) = take_behind xs ys k in
    (n, subst (Appends a c) (sym is) (Appends-trans a b c xs (take k ys) all front))

-- a text, and then another
pub passes_two : (old mid new : Option (List ℕ)) (held left after x y : List ℕ) → Passes old held mid left x → Passes mid left new after y → Passes old held new after (x ++ y)
passes_two old mid new held left after x y (out, all, is) (out2, all2, is2) = (
  out ++ out2,
  Appends-trans old mid new out out2 all all2,
  append_assoc out out2 after ∙ ap (λ t. out ++ t) is2 ∙ sym (append_assoc out left y) ∙ ap (λ t. t ++ y) is ∙ append_assoc held x y,
)

-- a text, and then a front of another
pub passes_front : (old mid new : Option (List ℕ)) (held left x y : List ℕ) → Passes old held mid left x → AppendsFront mid new (left ++ y) → AppendsFront old new (held ++ (x ++ y))
passes_front old mid new held left x y (out, all, is) front =
    subst (AppendsFront old new) (sym (append_assoc out left y) ∙ ap (λ t. t ++ y) is ∙ append_assoc held x y) (front_behind old mid new out (left ++ y) all front)

-- a front of a text, which more was to follow
pub front_first : (old new : Option (List ℕ)) (held x y : List ℕ) → AppendsFront old new (held ++ x) → AppendsFront old new (held ++ (x ++ y))
front_first old new held x y front = subst (AppendsFront old new) (append_assoc held x y) (front_longer old new (held ++ x) y front)

-- a text, and then all that the buffer has
pub passes_all : (old mid new : Option (List ℕ)) (held left x : List ℕ) → Passes old held mid left x → Appends mid new left → Appends old new (held ++ x)
passes_all old mid new held left x (out, all, is) last = subst (Appends old new) is (Appends-trans old mid new out left all last)

-- what the buffer had goes, and then the text itself
pub passes_whole : (old mid new : Option (List ℕ)) (held text : List ℕ) → Appends old mid held → Appends mid new text → Passes old held new [] text
passes_whole old mid new held text first then = (held ++ text, Appends-trans old mid new held text first then, append-nil (held ++ text))

-- what holds anyway holds where there is an error
pub any_err : {T E P : Type 0} (r : Result T E) → P → OnErr r P
any_err (Ok x) p = tt
any_err (Err e) p = p

-- the text of one item more
text_sooner : {X : Type 0} (f : X → List ℕ) (xs : List X) (n : ℕ) (d : X) → n < length xs → flat_map f (take (suc n) xs) ≡ flat_map f (take n xs) ++ f (get_or xs n d)
text_sooner f [] n d less = absurd (omega (arith, less))
text_sooner f (x ∷ xs) zero d less = append-nil (f x)
text_sooner f (x ∷ xs) (suc n) d less = ap (λ t. f x ++ t) (text_sooner f xs n d (omega (arith, less))) ∙ sym (append_assoc (f x) (flat_map f (take n xs)) (f (get_or xs n d)))

pub text_more : {X : Type 0} (f : X → List ℕ) (xs : List X) (n : ℕ) (d : X) → n < length xs → flat_map f (take (n + 1) xs) ≡ flat_map f (take n xs) ++ f (get_or xs n d)
text_more f xs n d less =
    let next : n + 1 ≡ suc n = omega arith in
    ap (λ m. flat_map f (take m xs)) next ∙ text_sooner f xs n d less

-- the text of all items is that of the first ones, of the next one, and of the others
pub text_rest : {X : Type 0} (f : X → List ℕ) (xs : List X) (n : ℕ) (d : X) → n < length xs →
    (more : List ℕ) × (flat_map f xs ≡ flat_map f (take n xs) ++ (f (get_or xs n d) ++ more))
text_rest f [] n d less = absurd (omega (arith, less))
text_rest f (x ∷ xs) zero d less = (flat_map f xs, refl)
text_rest f (x ∷ xs) (suc n) d less =
    let (more, is) = text_rest f xs n d (omega (arith, less)) in
    (more, ap (λ t. f x ++ t) is ∙ sym (append_assoc (f x) (flat_map f (take n xs)) (f (get_or xs n d) ++ more)))

-- a loop over items passes the text of each: one more
pub passes_more : {X : Type 0} (f : X → List ℕ) (xs : List X) (n : ℕ) (d : X) (old mid new : Option (List ℕ)) (held left after : List ℕ) → n < length xs →
    Passes old held mid left (flat_map f (take n xs)) → Passes mid left new after (f (get_or xs n d)) → Passes old held new after (flat_map f (take (n + 1) xs))
passes_more f xs n d old mid new held left after less p q =
    subst (Passes old held new after) (sym (text_more f xs n d less)) (passes_two old mid new held left after (flat_map f (take n xs)) (f (get_or xs n d)) p q)

-- and a front of one more, where the writer failed
pub fails_there : {X : Type 0} (f : X → List ℕ) (xs : List X) (n : ℕ) (d : X) (old mid new : Option (List ℕ)) (held left : List ℕ) → n < length xs →
    Passes old held mid left (flat_map f (take n xs)) → AppendsFront mid new (left ++ f (get_or xs n d)) → AppendsFront old new (held ++ flat_map f xs)
fails_there f xs n d old mid new held left less p front =
    let (more, is) = text_rest f xs n d less in
    subst (λ t. AppendsFront old new (held ++ t)) (sym is)
    (passes_front old mid new held left (flat_map f (take n xs)) (f (get_or xs n d) ++ more) p (front_first mid new left (f (get_or xs n d)) more front))

-- a text, and then a front of what the buffer has
pub passes_held : (old mid new : Option (List ℕ)) (held left x : List ℕ) → Passes old held mid left x → AppendsFront mid new left → AppendsFront old new (held ++ x)
passes_held old mid new held left x (out, all, is) front = subst (AppendsFront old new) is (front_behind old mid new out left all front)

-- a text, and then all that the buffer has with another
pub passes_last : (old mid new : Option (List ℕ)) (held left x y : List ℕ) → Passes old held mid left x → Appends mid new (left ++ y) → Appends old new (held ++ (x ++ y))
passes_last old mid new held left x y (out, all, is) last =
    subst (Appends old new) (sym (append_assoc out left y) ∙ ap (λ t. t ++ y) is ∙ append_assoc held x y) (Appends-trans old mid new out (left ++ y) all last)

-- a front of a part of a text, of which what stands before it went
pub fails_among : (old mid new : Option (List ℕ)) (held left done part more all : List ℕ) → Passes old held mid left done → done ++ (part ++ more) ≡ all → AppendsFront mid new (left ++ part) → AppendsFront old new (held ++ all)
fails_among old mid new held left done part more all p is front =
    subst (λ t. AppendsFront old new (held ++ t)) is (passes_front old mid new held left done (part ++ more) p (front_first mid new left part more front))

-- a front of the first part of a text
pub fails_first : (old new : Option (List ℕ)) (held part more all : List ℕ) → part ++ more ≡ all → AppendsFront old new (held ++ part) → AppendsFront old new (held ++ all)
fails_first old new held part more all is front = subst (λ t. AppendsFront old new (held ++ t)) is (front_first old new held part more front)

-- a loop over items, of which this one is the next
pub passes_item : {X : Type 0} (f : X → List ℕ) (xs : List X) (n : ℕ) (x : X) (old mid new : Option (List ℕ)) (held left after : List ℕ) → n < length xs → x ≡ get_or xs n x →
    Passes old held mid left (flat_map f (take n xs)) → Passes mid left new after (f x) → Passes old held new after (flat_map f (take (n + 1) xs))
passes_item f xs n x old mid new held left after less at p q = passes_more f xs n x old mid new held left after less p (subst (λ y. Passes mid left new after (f y)) at q)

pub fails_item : {X : Type 0} (f : X → List ℕ) (xs : List X) (n : ℕ) (x : X) (old mid new : Option (List ℕ)) (held left : List ℕ) → n < length xs → x ≡ get_or xs n x →
    Passes old held mid left (flat_map f (take n xs)) → AppendsFront mid new (left ++ f x) → AppendsFront old new (held ++ flat_map f xs)
fails_item f xs n x old mid new held left less at p front = fails_there f xs n x old mid new held left less p (subst (λ y. AppendsFront mid new (left ++ f y)) at front)

-- the last part of a text, of which the others went
pub ends_ok : {T E : Type 0} (r : Result T E) (old mid new : Option (List ℕ)) (held left after done last all : List ℕ) → Passes old held mid left done → done ++ last ≡ all → OnOk r (Passes mid left new after last) → OnOk r (Passes old held new after all)
ends_ok (Ok x) old mid new held left after done last all p is q = subst (Passes old held new after) is (passes_two old mid new held left after done last p q)
ends_ok (Err e) old mid new held left after done last all p is q = tt

pub ends_err : {T E : Type 0} (r : Result T E) (old mid new : Option (List ℕ)) (held left done last all : List ℕ) → Passes old held mid left done → done ++ last ≡ all → OnErr r (AppendsFront mid new (left ++ last)) → OnErr r (AppendsFront old new (held ++ all))
ends_err (Ok x) old mid new held left done last all p is front = tt
ends_err (Err e) old mid new held left done last all p is front = subst (λ t. AppendsFront old new (held ++ t)) is (passes_front old mid new held left done last p front)

-- no text went
pub passes_none : (old : Option (List ℕ)) (held : List ℕ) → Passes old held old held []
passes_none None held = ([], tt, sym (append-nil held))
passes_none (Some u) held = ([], sym (append-nil u), sym (append-nil held))
