-- A file of version 1 gives switches without portals and random inputs.
use Rattle.std.proofs.Common.{◌≡◌, ◌∙◌, ℕ, List, [], ◌∷◌, ◌++◌, refl, sym, ap, subst, Bool, true, false, not, ◌&&◌, if◌then◌else◌, Some, None, Ok}
use Rattle.std.specs.Ordering.{nat_cmp, is_eq, match_ordering}
use Rattle.std.specs.declared.cmp.Ordering.{Ordering}
use Rattle.std.specs.declared.cmp.Ordering.TheVariants.{Less, Equal, Greater}
use Rattle.std.specs.Cmp.Lexicographic.{slice_cmp, bytes_decides}
use Rattle.std.specs.List.{list_all}
use Rattle.std.proofs.lemmas.List.Folds.{list_all-append}
use Rattle.std.proofs.lemmas.Map.Text.{is_eq-slice_cmp}
use Rattle.serde_json.specs.Data.{Data, number, object, unsigned, Members, no_members, member}
use Rattle.serde_json.specs.Find.{get, get_member}
use Rattle.vc_labels.specs.declared.action.Action.TheVariants.{Out}
use Rattle.vc_labels.specs.declared.row.Row.{Row}
use Rattle.vc_plan.specs.declared.plan.Plan.{Plan}
use Rattle.vc_plan.specs.declared.switch_plan.RandomInput.{RandomInput}
use Rattle.vc_plan.specs.declared.switch_plan.SwitchPlan.{SwitchPlan}
use Rattle.vc_plan.specs.Limits.{is_empty, is_portal, switch_in_version_one}
use Rattle.vc_reader.specs.declared.node.Head.{Head}
use Rattle.vc_reader.specs.declared.fault.Why.TheVariants.{Unknown}
use Rattle.vc_reader.specs.declared.word.Word.{Word}
use Rattle.vc_reader.specs.declared.word.Word.TheVariants as word
use Rattle.vc_reader.specs.Words.{word_text}
use Rattle.vc_reader.specs.Reading.{cell, row, list_field, absent_or_list, under, is_word, has_only, read_object, read_number, wrong}
use Rattle.vc_reader.specs.declared.path.Step.TheVariants.{Field}
use Rattle.vc_reader.specs.Network.{read_header, read_limit, read_link, out_row, table_row, read_random, switch_words, read_switch}
use Rattle.vc_reader.specs.NetworkText.{read_plan}
use Rattle.vc_reader.proofs.Read.{parts, ok_is, then_ok, field_ok, field_keeps, list_field_keeps, switch_parts}

pub both_true : (a b : Bool) → a ≡ true → b ≡ true → (a && b) ≡ true
both_true true b e f = f
both_true false b e f = e

-- a test that each item passes, all pass
pub all_more : {A : Type 0} (test : A → Bool) (xs : List A) (x : A) → list_all test xs ≡ true → test x ≡ true → list_all test (xs ++ x ∷ []) ≡ true
all_more test xs x e f = list_all-append test xs (x ∷ []) ∙ both_true (list_all test xs) (test x && true) e (both_true (test x) true f refl)

-- a field whose word an object lacks is not there
same_key : (k l : List ℕ) → slice_cmp nat_cmp k l ≡ Equal → k ≡ l
same_key k l e = (bytes_decides k l).0 (sym (is_eq-slice_cmp k l) ∙ ap is_eq e)

lacks : (ws : List Word) (k : List ℕ) (ms : Members) → is_word ws k ≡ false → has_only ws ms ≡ true → get_member k ms ≡ None
lacks ws k no_members none only = refl
lacks ws k (member l d ms) none only = go (is_word ws l) (slice_cmp nat_cmp k l) refl refl only (lacks ws k ms none)
  where
    go : (b : Bool) (o : Ordering) → is_word ws l ≡ b → slice_cmp nat_cmp k l ≡ o → (b && has_only ws ms) ≡ true → (has_only ws ms ≡ true → get_member k ms ≡ None) → match_ordering o (get_member k ms) (Some d) (get_member k ms) ≡ None
    go false o is at e rest = absurd cc
    go true Less is at e rest = rest e
    go true Equal is at e rest = absurd (let c : true ≡ false = sym is ∙ ap (is_word ws) (sym (same_key k l at)) ∙ none in cc)
    go true Greater is at e rest = rest e

pub lacks_field : (ws : List Word) (w : Word) (d : Data) → is_word ws (word_text w) ≡ false → read_object ws d ≡ Ok tt → get (word_text w) d ≡ None
lacks_field ws w (object ms) none e = go (has_only ws ms) refl e
  where
    go : (b : Bool) → has_only ws ms ≡ b → read_object ws (object ms) ≡ Ok tt → get_member (word_text w) ms ≡ None
    go true is e = lacks ws (word_text w) ms none is
    go false is e = absurd (let c = ap (λ b. if b then Ok tt else wrong Unknown) (sym is) ∙ e in cc)
lacks_field ws w v none e = refl

-- rows
abbrev out : ℕ → ℕ → ℕ → ℕ → Row
out lower limit first last = record { lower = lower; limit = limit; action = Out first last }

out_is_no_portal : (d : Data) (x : Row) → out_row d ≡ Ok x → not (is_portal x.action) ≡ true
out_is_no_portal d x e =
    let r = then_ok (row 4 d) _ x e in
    let a = then_ok (cell 0 read_header d) _ x r.2 in
    let b = then_ok (cell 1 read_limit d) _ x a.2 in
    let f = then_ok (cell 2 read_link d) _ x b.2 in
    let l = then_ok (cell 3 read_link d) _ x f.2 in
    ap (λ (y : Row). not (is_portal y.action)) (sym (ok_is (out a.0 b.0 f.0 l.0) x l.2))

in_version_one : (heads : List Head) (before : List SwitchPlan) (d : Data) (x : SwitchPlan) → read_switch 1 heads before d ≡ Ok x → switch_in_version_one x ≡ true
in_version_one heads before d x e =
    let q = switch_parts 1 heads before d x e in
    let rows = field_keeps (λ rs. list_all (λ (r : Row). not (is_portal r.action)) rs ≡ true) (λ _. table_row 1)
    (λ front c r h t. all_more (λ (s : Row). not (is_portal s.action)) front r h (out_is_no_portal c r t)) word.Table d x.rows refl q.has_rows in
    let gone = lacks_field (switch_words 1) word.Random d refl q.no_others in
    let empty : [] ≡ x.random = ok_is [] x.random (sym (ap (λ o. under (Field word.Random) (absent_or_list (λ _. read_random) o)) gone) ∙ q.draws) in
    both_true (is_empty x.random) (list_all (λ (r : Row). not (is_portal r.action)) x.rows) (ap (λ (rs : List RandomInput). is_empty rs) (sym empty)) rows

pub version_one : (d : Data) (p : Plan) → get (word_text word.Version) d ≡ Some (number (unsigned 1)) → read_plan d ≡ Ok p → list_all switch_in_version_one p.switches ≡ true
version_one d p is e =
    let q = parts d p e in
    let v = field_ok word.Version (read_number 1 2) d q.version q.is_version in
    let at : number (unsigned 1) ≡ v.0 = let s : Some (number (unsigned 1)) ≡ Some v.0 = sym is ∙ v.1 in cc in
    let one : 1 ≡ q.version = ok_is 1 q.version (ap (read_number 1 2) at ∙ v.2) in
    list_field_keeps (λ xs. list_all switch_in_version_one xs ≡ true) (read_switch 1 q.heads)
    (λ before c x h r. all_more switch_in_version_one before x h (in_version_one q.heads before c x r)) word.Switches d p.switches refl
    (subst (λ n. list_field word.Switches (read_switch n q.heads) d ≡ Ok p.switches) (sym one) q.are_switches)
