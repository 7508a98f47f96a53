-- Lists that are read item by item.
use Rattle.std.proofs.Common.{◌≡◌, ◌∙◌, ◌<◌, ◌≤◌, ◌+◌, ℕ, length, List, [], ◌∷◌, ◌++◌, map, drop, get_or, sym, ap, subst, Result, Ok, Err}
use Rattle.std.proofs.lemmas.List.{at_drop_more, at_drop_all}
use Rattle.serde_json.specs.Data.{Data, Items, item}
use Rattle.serde_json.specs.View.{view, items_of, items_view}
use Rattle.serde_json.specs.declared.value.Value.{Value}
use Rattle.vc_reader.specs.Reading.{◌>>=◌, under, each, read_array, read_list}
use Rattle.vc_reader.specs.Private.Reading.{joins, Fails}
use Rattle.vc_reader.specs.declared.fault.Fault.{Fault}
use Rattle.vc_reader.specs.declared.fault.Stop.{Stop}
use Rattle.vc_reader.specs.declared.fault.Stop.TheVariants as stop
use Rattle.vc_reader.specs.declared.path.Step.TheVariants.{Index}

-- what is read of a list is what is read of each of its items
list_is : {A : Type 0} (f : List A → Data → Result A Fault) (d : Data) (vs : List Value) → read_array d ≡ Ok (items_view vs) → read_list f d ≡ each f [] (items_view vs)
list_is f d vs h = ap (λ r. r >>= λ ds. each f [] ds) h

-- the items from the n-th on
pub items_at : (n : ℕ) (vs : List Value) (v : Value) → n < length vs → v ≡ get_or vs n v → items_of (map view (drop n vs)) ≡ item (view v) (items_of (map view (drop (n + 1) vs)))
items_at n vs v l h = at_drop_more (λ xs. items_of (map view xs)) vs n v l ∙ ap (λ x. item (view x) (items_of (map view (drop (n + 1) vs)))) (sym h)

-- what is read of a list after an item of it
pub each_joined : {A : Type 0} (f : List A → Data → Result A Fault) (before after : List A) (d : Data) (ds : Items) → joins before (f before d) ≡ Ok after → each f before (item d ds) ≡ each f after ds
each_joined f before after d ds e = by (f before d) e
  where
    by : (m : Result _ Fault) → joins before m ≡ Ok after → (under (Index (length before)) m >>= λ x. each f (before ++ x ∷ []) ds) ≡ each f after ds
    by (Ok x) e =
        let h : before ++ x ∷ [] ≡ after = cc in
        ap (λ xs. each f xs ds) h
    by (Err w) e = cc

-- an item that is not read ends it
pub each_stopped : {A : Type 0} (f : List A → Data → Result A Fault) (before : List A) (d : Data) (ds : Items) (why : Stop) → Fails why (joins before (f before d)) → Fails why (each f before (item d ds))
each_stopped f before d ds stop.Memory e = tt
each_stopped f before d ds (stop.Fault w) e = by (f before d) e
  where
    by : (m : Result _ Fault) → joins before m ≡ Err w → (under (Index (length before)) m >>= λ x. each f (before ++ x ∷ []) ds) ≡ Err w
    by (Ok x) e = cc
    by (Err v) e = e

pub list_next : {A : Type 0} (f : List A → Data → Result A Fault) (before after : List A) (n : ℕ) (vs : List Value) (v : Value) (all : Result (List A) Fault) → n < length vs → v ≡ get_or vs n v →
    joins before (f before (view v)) ≡ Ok after → each f before (items_of (map view (drop n vs))) ≡ all → each f after (items_of (map view (drop (n + 1) vs))) ≡ all
list_next f before after n vs v all l h e r =
    sym (each_joined f before after (view v) (items_of (map view (drop (n + 1) vs))) e) ∙ ap (λ ds. each f before ds) (sym (items_at n vs v l h)) ∙ r

pub list_stops : {A : Type 0} (f : List A → Data → Result A Fault) (before : List A) (n : ℕ) (vs : List Value) (v : Value) (d : Data) (why : Stop) → read_array d ≡ Ok (items_view vs) → n < length vs → v ≡ get_or vs n v →
    Fails why (joins before (f before (view v))) → each f before (items_of (map view (drop n vs))) ≡ each f [] (items_view vs) → Fails why (read_list f d)
list_stops f before n vs v d why is l h e r =
    subst (λ m. Fails why m) (ap (λ ds. each f before ds) (sym (items_at n vs v l h)) ∙ r ∙ sym (list_is f d vs is)) (each_stopped f before (view v) (items_of (map view (drop (n + 1) vs))) why e)

pub list_ends : {A : Type 0} (f : List A → Data → Result A Fault) (read : List A) (n : ℕ) (vs : List Value) (d : Data) → read_array d ≡ Ok (items_view vs) → length vs ≤ n →
    each f read (items_of (map view (drop n vs))) ≡ each f [] (items_view vs) → read_list f d ≡ Ok read
list_ends f read n vs d is l r = list_is f d vs is ∙ sym r ∙ at_drop_all (λ xs. each f read (items_of (map view xs))) vs n l
