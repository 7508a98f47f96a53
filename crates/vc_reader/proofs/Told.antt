-- Each reader's faults lead to what is wrong.
use Rattle.std.proofs.Common.{◌≡◌, ℕ, ◌<◌, List, [], ◌∷◌, ◌++◌, length, refl, arith, Bool, true, false, ◌&&◌, ◌==◌, if◌then◌else◌, Result, Ok}
use Rattle.std.specs.Prelude.{codes}
use Rattle.std.specs.Str.{bytes_eq}
use Rattle.std.proofs.lemmas.Bool.Decides.{nat_tests}
use Rattle.serde_json.specs.Data.{Data, string, array, object, Items, Members}
use Rattle.vc_labels.specs.declared.action.Action.TheVariants.{Out, Portal}
use Rattle.vc_labels.specs.declared.row.Row.{Row}
use Rattle.vc_process.specs.declared.value_kind.ValueKind.{ValueKind}
use Rattle.vc_process.specs.declared.value_kind.ValueKind.TheVariants as kind
use Rattle.vc_plan.specs.declared.channel.Channel.{Channel}
use Rattle.vc_plan.specs.declared.channel.Home.{Home}
use Rattle.vc_plan.specs.declared.channel.Home.TheVariants.{Way, Inside}
use Rattle.vc_plan.specs.declared.node_plan.Variable.{Variable}
use Rattle.vc_plan.specs.declared.port.Spot.{Spot}
use Rattle.vc_plan.specs.declared.port.Wire.{Wire}
use Rattle.vc_plan.specs.declared.switch_plan.RandomInput.{RandomInput}
use Rattle.vc_plan.specs.declared.switch_plan.SwitchPlan.{SwitchPlan}
use Rattle.vc_plan.specs.declared.vlink.End.{End}
use Rattle.vc_plan.specs.declared.vlink.Vlink.{Vlink}
use Rattle.vc_reader.specs.declared.fault.Fault.{Fault}
use Rattle.vc_reader.specs.declared.fault.Why.TheVariants as why
use Rattle.vc_reader.specs.declared.node.Head.{Head}
use Rattle.vc_reader.specs.declared.word.Word.{Word}
use Rattle.vc_reader.specs.declared.word.Word.TheVariants as word
use Rattle.vc_reader.specs.declared.path.Step.{Step}
use Rattle.vc_reader.specs.declared.path.Step.TheVariants.{Field, Index}
use Rattle.vc_reader.specs.Faulty.{Fields, Wants}
use Rattle.vc_reader.specs.Faulty as wants
use Rattle.vc_reader.specs.Names.{new_name, has_name, known_or_not, one_of}
use Rattle.vc_reader.specs.Network.{at_most, read_kind, read_way, read_link, read_header, read_limit, read_var, read_head, read_node, portal_word, portal_row, out_row, table_row, read_random, switch_words, is_place, read_switch, place_named, read_place, read_wire, read_end, read_vlink, vlink_number, way_home, node_home, channel_words, read_home, read_channel}
use Rattle.vc_reader.specs.Reading.{◌>>=◌, wrong, field, cell, read_list, list_field, count, items_in, has_field}
use Rattle.vc_reader.proofs.FaultPaths.{IsTold, ok_told, kind_told, then_told, field_told, list_told, list_field_told, cell_told, row_told, object_told, text_told, if_told, number_told, new_name_told, known_told, one_of_told}

-- a part, and what is read then
pub cell_then : {A B : Type 0} {p : List Step} (n : ℕ) (read : Data → Result A Fault) (ds : Items) (g : A → Result B Fault) → n < count ds →
    ((v : Data) → IsTold (p ++ Index n ∷ []) v (read v)) → ((x : A) → IsTold p (array ds) (g x)) → IsTold p (array ds) (cell n read (array ds) >>= g)
cell_then n read ds g lt told rest = then_told (array ds) (cell n read (array ds)) g (cell_told n read ds lt told) (λ x _. rest x)

pub field_then : {A B : Type 0} {p : List Step} (w : Word) (read : Data → Result A Fault) (ms : Members) (g : A → Result B Fault) →
    ((v : Data) → IsTold (p ++ Field w ∷ []) v (read v)) → ((x : A) → IsTold p (object ms) (g x)) → IsTold p (object ms) (field w read (object ms) >>= g)
field_then w read ms g told rest = then_told (object ms) (field w read (object ms)) g (field_told w read ms told) (λ x _. rest x)

pub list_then : {A B : Type 0} {p : List Step} (w : Word) (read : List A → Data → Result A Fault) (ms : Members) (g : List A → Result B Fault) →
    ((before : List A) (v : Data) → IsTold ((p ++ Field w ∷ []) ++ Index (length before) ∷ []) v (read before v)) → ((xs : List A) → IsTold p (object ms) (g xs)) →
    IsTold p (object ms) (list_field w read (object ms) >>= g)
list_then w read ms g told rest = then_told (object ms) (list_field w read (object ms)) g (list_field_told w read ms told) (λ x _. rest x)

kind_of_told : {p : List Step} (d : Data) → IsTold p d (read_kind d)
kind_of_told = text_told (λ s. if bytes_eq s (codes "int") then Ok kind.Int else (if bytes_eq s (codes "bytes") then Ok kind.Bytes else wrong why.Kind))
    (λ s. if_told (string s) _ (Ok kind.Int) _ (ok_told (string s) kind.Int) (if_told (string s) _ (Ok kind.Bytes) _ (ok_told (string s) kind.Bytes) (kind_told (string s))))

way_of_told : {p : List Step} (d : Data) → IsTold p d (read_way d)
way_of_told = text_told (λ s. if bytes_eq s (codes "ab") then Ok true else (if bytes_eq s (codes "ba") then Ok false else wrong why.Kind))
    (λ s. if_told (string s) _ (Ok true) _ (ok_told (string s) true) (if_told (string s) _ (Ok false) _ (ok_told (string s) false) (kind_told (string s))))

abbrev variable : List ℕ → ValueKind → Variable
variable name kind = record { name = name; kind = kind }

var_told : {p : List Step} (before : List Variable) (d : Data) → IsTold p d (read_var before d)
var_told before = row_told 2 (λ d. cell 0 (new_name (has_name (λ (v : Variable). v.name) before)) d >>= λ name. cell 1 read_kind d >>= λ k. Ok (variable name k)) (λ ds c.
    cell_then 0 (new_name (has_name (λ (v : Variable). v.name) before)) ds (λ name. cell 1 read_kind (array ds) >>= λ k. Ok (variable name k)) (omega (arith, c)) (new_name_told (has_name (λ (v : Variable). v.name) before))
    (λ name. cell_then 1 read_kind ds (λ k. Ok (variable name k)) (omega (arith, c)) kind_of_told (λ k. ok_told (array ds) (variable name k))))

abbrev a_head : List ℕ → List Variable → Head
a_head name vars = record { name = name; vars = vars }

pub head_told : (before : List Head) (d : Data) → IsTold (Field word.Nodes ∷ Index (length before) ∷ []) d (read_head before d)
head_told before = object_told (λ _. word.Name ∷ word.Vars ∷ word.Process ∷ []) (λ d. field word.Name (new_name (has_name (λ (h : Head). h.name) before)) d >>= λ name. list_field word.Vars read_var d >>= λ vars. Ok (a_head name vars)) (λ _. wants.node (length before)) (λ ms.
    field_then word.Name (new_name (has_name (λ (h : Head). h.name) before)) ms (λ name. list_field word.Vars read_var (object ms) >>= λ vars. Ok (a_head name vars)) (new_name_told (has_name (λ (h : Head). h.name) before))
    (λ name. list_then word.Vars read_var ms (λ vars. Ok (a_head name vars)) (λ others. var_told others) (λ vars. ok_told (object ms) (a_head name vars))))

node_told : {p : List Step} (heads : List Head) (d : Data) → IsTold p d (read_node heads d)
node_told heads d = then_told d (one_of (λ (h : Head). h.name) heads d) (λ found. Ok (at_most 255 found)) (one_of_told (λ (h : Head). h.name) heads d) (λ found _. ok_told d (at_most 255 found))

-- switches
portal_word_told : {p : List Step} (d : Data) → IsTold p d (portal_word d)
portal_word_told = text_told (λ s. if bytes_eq s (codes "portal") then Ok tt else wrong why.Kind) (λ s. if_told (string s) _ (Ok tt) _ (ok_told (string s) tt) (kind_told (string s)))

abbrev portal : ℕ → ℕ → Row
portal lower limit = record { lower = lower; limit = limit; action = Portal }

-- where the rows of a switch's table stand
abbrev row_at : ℕ → ℕ → List Step
row_at n k = Field word.Switches ∷ Index n ∷ Field word.Table ∷ Index k ∷ []

portal_told : (n k : ℕ) (ds : Items) → count ds ≡ 3 → IsTold (row_at n k) (array ds) (portal_row (array ds))
portal_told n k ds c =
    cell_then 0 read_header ds (λ l. cell 1 read_limit (array ds) >>= λ m. cell 2 portal_word (array ds) >>= λ _. Ok (portal l m)) (omega (arith, c)) (number_told 0 65535 (wants.lower n k)) (λ l.
    cell_then 1 read_limit ds (λ m. cell 2 portal_word (array ds) >>= λ _. Ok (portal l m)) (omega (arith, c)) (number_told 0 65536 (wants.limit n k)) (λ m.
    cell_then 2 portal_word ds (λ _. Ok (portal l m)) (omega (arith, c)) portal_word_told (λ _. ok_told (array ds) (portal l m))))

abbrev out : ℕ → ℕ → ℕ → ℕ → Row
out lower limit first last = record { lower = lower; limit = limit; action = Out first last }

out_told : (n k : ℕ) (d : Data) → IsTold (row_at n k) d (out_row d)
out_told n k = row_told 4 (λ d. cell 0 read_header d >>= λ l. cell 1 read_limit d >>= λ m. cell 2 read_link d >>= λ f. cell 3 read_link d >>= λ t. Ok (out l m f t)) (λ ds c.
    cell_then 0 read_header ds (λ l. cell 1 read_limit (array ds) >>= λ m. cell 2 read_link (array ds) >>= λ f. cell 3 read_link (array ds) >>= λ t. Ok (out l m f t)) (omega (arith, c)) (number_told 0 65535 (wants.lower n k)) (λ l.
    cell_then 1 read_limit ds (λ m. cell 2 read_link (array ds) >>= λ f. cell 3 read_link (array ds) >>= λ t. Ok (out l m f t)) (omega (arith, c)) (number_told 0 65536 (wants.limit n k)) (λ m.
    cell_then 2 read_link ds (λ f. cell 3 read_link (array ds) >>= λ t. Ok (out l m f t)) (omega (arith, c)) (number_told 0 31 (wants.first n k)) (λ f.
    cell_then 3 read_link ds (λ t. Ok (out l m f t)) (omega (arith, c)) (number_told 0 31 (wants.last n k)) (λ t. ok_told (array ds) (out l m f t))))))

three : (a : Bool) (n : ℕ) → (a && (n == 3)) ≡ true → n ≡ 3
three true n e = grind (arith, nat_tests)
three false n e = absurd (let c : false ≡ true = e in cc)

no_list : (n k version : ℕ) (d : Data) → items_in d ≡ 0 → IsTold (row_at n k) d (table_row version d)
no_list n k version d none = go ((version == 2) && (items_in d == 3)) refl
  where
    go : (b : Bool) → ((version == 2) && (items_in d == 3)) ≡ b → IsTold (row_at n k) d (if b then portal_row d else out_row d)
    go true is = let three_in = three (version == 2) (items_in d) is in absurd (omega (arith, three_in, none))
    go false is = out_told n k d

table_told : (n k version : ℕ) (d : Data) → IsTold (row_at n k) d (table_row version d)
table_told n k version (array ds) = go ((version == 2) && (count ds == 3)) refl
  where
    go : (b : Bool) → ((version == 2) && (count ds == 3)) ≡ b → IsTold (row_at n k) (array ds) (if b then portal_row (array ds) else out_row (array ds))
    go true is = portal_told n k ds (three (version == 2) (count ds) is)
    go false is = out_told n k (array ds)
table_told n k version v = no_list n k version v refl

abbrev a_random : ℕ → ℕ → ℕ → RandomInput
a_random link lower limit = record { link = link; lower = lower; limit = limit }

random_told : (n k : ℕ) (d : Data) → IsTold (Field word.Switches ∷ Index n ∷ Field word.Random ∷ Index k ∷ []) d (read_random d)
random_told n k = row_told 3 (λ d. cell 0 read_link d >>= λ a. cell 1 read_header d >>= λ l. cell 2 read_limit d >>= λ m. Ok (a_random a l m)) (λ ds c.
    cell_then 0 read_link ds (λ a. cell 1 read_header (array ds) >>= λ l. cell 2 read_limit (array ds) >>= λ m. Ok (a_random a l m)) (omega (arith, c)) (number_told 0 31 (wants.random n k)) (λ a.
    cell_then 1 read_header ds (λ l. cell 2 read_limit (array ds) >>= λ m. Ok (a_random a l m)) (omega (arith, c)) (number_told 0 65535 (wants.random_lower n k)) (λ l.
    cell_then 2 read_limit ds (λ m. Ok (a_random a l m)) (omega (arith, c)) (number_told 0 65536 (wants.random_limit n k)) (λ m. ok_told (array ds) (a_random a l m)))))

abbrev a_switch : List ℕ → List Row → List ℕ → List RandomInput → SwitchPlan
a_switch name rows delete random = record { name = name; rows = rows; delete = delete; random = random }

pub switch_told : (version : ℕ) (heads : List Head) (before : List SwitchPlan) (d : Data) → IsTold (Field word.Switches ∷ Index (length before) ∷ []) d (read_switch version heads before d)
switch_told version heads before = object_told (λ _. switch_words version) (λ d. field word.Name (new_name (is_place heads before)) d >>= λ name. field word.Table (read_list (λ _. table_row version)) d >>= λ rows. list_field word.Delete (λ _. read_link) d >>= λ delete. list_field word.Random (λ _. read_random) d >>= λ random. Ok (a_switch name rows delete random)) (λ _. wants.switch (length before) version) (λ ms.
    field_then word.Name (new_name (is_place heads before)) ms (λ name. field word.Table (read_list (λ _. table_row version)) (object ms) >>= λ rows. list_field word.Delete (λ _. read_link) (object ms) >>= λ delete. list_field word.Random (λ _. read_random) (object ms) >>= λ random. Ok (a_switch name rows delete random)) (new_name_told (is_place heads before)) (λ name.
    field_then word.Table (read_list (λ _. table_row version)) ms (λ rows. list_field word.Delete (λ _. read_link) (object ms) >>= λ delete. list_field word.Random (λ _. read_random) (object ms) >>= λ random. Ok (a_switch name rows delete random)) (list_told (λ _. table_row version) (λ others. table_told (length before) (length others) version)) (λ rows.
    list_then word.Delete (λ _. read_link) ms (λ delete. list_field word.Random (λ _. read_random) (object ms) >>= λ random. Ok (a_switch name rows delete random)) (λ others. number_told 0 31 (wants.delete (length before) (length others))) (λ delete.
    list_then word.Random (λ _. read_random) ms (λ random. Ok (a_switch name rows delete random)) (λ others. random_told (length before) (length others)) (λ random. ok_told (object ms) (a_switch name rows delete random))))))

-- wires
place_told : {p : List Step} (heads : List Head) (switches : List SwitchPlan) (d : Data) → IsTold p d (read_place heads switches d)
place_told heads switches = text_told (λ s. known_or_not (place_named heads switches s)) (λ s. known_told s (place_named heads switches s))

abbrev a_wire : Spot → ℕ → Spot → ℕ → Wire
a_wire a m b n = record { one = record { spot = a; link = m }; two = record { spot = b; link = n } }

pub wire_told : (heads : List Head) (switches : List SwitchPlan) (k : ℕ) (d : Data) → IsTold (Field word.Wires ∷ Index k ∷ []) d (read_wire heads switches d)
wire_told heads switches k = row_told 4 (λ d. cell 0 (read_place heads switches) d >>= λ a. cell 1 read_link d >>= λ m. cell 2 (read_place heads switches) d >>= λ b. cell 3 read_link d >>= λ n. Ok (a_wire a m b n)) (λ ds c.
    cell_then 0 (read_place heads switches) ds (λ a. cell 1 read_link (array ds) >>= λ m. cell 2 (read_place heads switches) (array ds) >>= λ b. cell 3 read_link (array ds) >>= λ n. Ok (a_wire a m b n)) (omega (arith, c)) (place_told heads switches) (λ a.
    cell_then 1 read_link ds (λ m. cell 2 (read_place heads switches) (array ds) >>= λ b. cell 3 read_link (array ds) >>= λ n. Ok (a_wire a m b n)) (omega (arith, c)) (number_told 0 31 (wants.wire_from k)) (λ m.
    cell_then 2 (read_place heads switches) ds (λ b. cell 3 read_link (array ds) >>= λ n. Ok (a_wire a m b n)) (omega (arith, c)) (place_told heads switches) (λ b.
    cell_then 3 read_link ds (λ n. Ok (a_wire a m b n)) (omega (arith, c)) (number_told 0 31 (wants.wire_to k)) (λ n. ok_told (array ds) (a_wire a m b n))))))

-- virtual links
abbrev an_end : ℕ → ℕ → ℕ → List ℕ → End
an_end node link block route = record { node = node; link = link; block = block; route = route }

end_told : (heads : List Head) (k : ℕ) (w : Word) (d : Data) → IsTold (Field word.Vlinks ∷ Index k ∷ Field w ∷ []) d (read_end heads d)
end_told heads k w = row_told 4 (λ d. cell 0 (read_node heads) d >>= λ n. cell 1 read_link d >>= λ l. cell 2 read_header d >>= λ b. cell 3 (read_list (λ _. read_header)) d >>= λ r. Ok (an_end n l b r)) (λ ds c.
    cell_then 0 (read_node heads) ds (λ n. cell 1 read_link (array ds) >>= λ l. cell 2 read_header (array ds) >>= λ b. cell 3 (read_list (λ _. read_header)) (array ds) >>= λ r. Ok (an_end n l b r)) (omega (arith, c)) (node_told heads) (λ n.
    cell_then 1 read_link ds (λ l. cell 2 read_header (array ds) >>= λ b. cell 3 (read_list (λ _. read_header)) (array ds) >>= λ r. Ok (an_end n l b r)) (omega (arith, c)) (number_told 0 31 (wants.end_link k w)) (λ l.
    cell_then 2 read_header ds (λ b. cell 3 (read_list (λ _. read_header)) (array ds) >>= λ r. Ok (an_end n l b r)) (omega (arith, c)) (number_told 0 65535 (wants.end_block k w)) (λ b.
    cell_then 3 (read_list (λ _. read_header)) ds (λ r. Ok (an_end n l b r)) (omega (arith, c)) (list_told (λ _. read_header) (λ others. number_told 0 65535 (wants.end_header k (length others) w))) (λ r. ok_told (array ds) (an_end n l b r))))))

abbrev a_vlink : List ℕ → End → End → Vlink
a_vlink name a b = record { name = name; a = a; b = b }

pub vlink_told : (heads : List Head) (before : List Vlink) (d : Data) → IsTold (Field word.Vlinks ∷ Index (length before) ∷ []) d (read_vlink heads before d)
vlink_told heads before = object_told (λ _. word.Name ∷ word.A ∷ word.B ∷ []) (λ d. field word.Name (new_name (has_name (λ (v : Vlink). v.name) before)) d >>= λ name. field word.A (read_end heads) d >>= λ a. field word.B (read_end heads) d >>= λ b. Ok (a_vlink name a b)) (λ _. wants.vlink (length before)) (λ ms.
    field_then word.Name (new_name (has_name (λ (v : Vlink). v.name) before)) ms (λ name. field word.A (read_end heads) (object ms) >>= λ a. field word.B (read_end heads) (object ms) >>= λ b. Ok (a_vlink name a b)) (new_name_told (has_name (λ (v : Vlink). v.name) before)) (λ name.
    field_then word.A (read_end heads) ms (λ a. field word.B (read_end heads) (object ms) >>= λ b. Ok (a_vlink name a b)) (end_told heads (length before) word.A) (λ a.
    field_then word.B (read_end heads) ms (λ b. Ok (a_vlink name a b)) (end_told heads (length before) word.B) (λ b. ok_told (object ms) (a_vlink name a b)))))

-- channels
vlink_number_told : {p : List Step} (vlinks : List Vlink) (d : Data) → IsTold p d (vlink_number vlinks d)
vlink_number_told vlinks d = then_told d (one_of (λ (v : Vlink). v.name) vlinks d) (λ found. Ok (at_most 65535 found)) (one_of_told (λ (v : Vlink). v.name) vlinks d) (λ found _. ok_told d (at_most 65535 found))

home_told : {p : List Step} (heads : List Head) (vlinks : List Vlink) (ms : Members) → IsTold p (object ms) (read_home heads vlinks (object ms))
home_told heads vlinks ms = if_told (object ms) (has_field word.Node (object ms)) (node_home heads (object ms)) (way_home vlinks (object ms))
    (field_then word.Node (read_node heads) ms (λ n. Ok (Inside n)) (node_told heads) (λ n. ok_told (object ms) (Inside n)))
    (field_then word.Vlink (vlink_number vlinks) ms (λ v. field word.Way read_way (object ms) >>= λ w. Ok (Way v w)) (vlink_number_told vlinks) (λ v.
    field_then word.Way read_way ms (λ w. Ok (Way v w)) way_of_told (λ w. ok_told (object ms) (Way v w))))

abbrev a_channel : List ℕ → ValueKind → Home → Channel
a_channel name k home = record { name = name; kind = k; home = home }

channel_wants : (n : ℕ) (d : Data) → Wants (Field word.Channels ∷ Index n ∷ []) (Fields (channel_words d))
channel_wants n d = go (has_field word.Node d) refl
  where
    go : (b : Bool) → has_field word.Node d ≡ b →
        Wants (Field word.Channels ∷ Index n ∷ []) (Fields (if b then word.Name ∷ word.Kind ∷ word.Node ∷ [] else word.Name ∷ word.Kind ∷ word.Vlink ∷ word.Way ∷ []))
    go true is = wants.inside n
    go false is = wants.between n

pub channel_told : (heads : List Head) (vlinks : List Vlink) (before : List Channel) (d : Data) → IsTold (Field word.Channels ∷ Index (length before) ∷ []) d (read_channel heads vlinks before d)
channel_told heads vlinks before = object_told channel_words (λ d. field word.Name (new_name (has_name (λ (c : Channel). c.name) before)) d >>= λ name. field word.Kind read_kind d >>= λ k. read_home heads vlinks d >>= λ h. Ok (a_channel name k h)) (channel_wants (length before)) (λ ms.
    field_then word.Name (new_name (has_name (λ (c : Channel). c.name) before)) ms (λ name. field word.Kind read_kind (object ms) >>= λ k. read_home heads vlinks (object ms) >>= λ h. Ok (a_channel name k h)) (new_name_told (has_name (λ (c : Channel). c.name) before)) (λ name.
    field_then word.Kind read_kind ms (λ k. read_home heads vlinks (object ms) >>= λ h. Ok (a_channel name k h)) kind_of_told (λ k.
    then_told (object ms) (read_home heads vlinks (object ms)) (λ h. Ok (a_channel name k h)) (home_told heads vlinks ms) (λ h _. ok_told (object ms) (a_channel name k h)))))
