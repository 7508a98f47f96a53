use Rattle.std.proofs.Common.{◌≡◌, ◌∙◌, ◌∷◌, ◌++◌, [], Bool, List, Option, None, Some, suc, ap, sym, refl, map, if◌then◌else◌, slice_get}
use Rattle.std.specs.Prelude.{ℕ}
use Rattle.vc_process.specs.declared.process.Process.{Process}
use Rattle.vc_process.specs.declared.value_kind.ValueKind.{ValueKind}
use Rattle.vc_process.specs.InOrder.{number}
use Rattle.vc_process.specs.Private.InOrder.{number_branch, number_guard}
use Rattle.vc_process.specs.Limits.{given_kind}
use Rattle.vc_process.specs.Numbering.{Numbered, branches_from, guards_from}
use Rattle.vc_process.specs.Terms.{as_test, exp, given}
use Rattle.vc_process.specs.Usage.{in_given, in_test}
use Rattle.vc_process.proofs.Numbers.{number_alt, number_count, number_if, number_receive, number_send, number_set, number_stopch, number_while}
use Rattle.vc_reader.specs.declared.path.Step.{Step}
use Rattle.vc_reader.specs.declared.path.Step.TheVariants.{Field}
use Rattle.vc_reader.specs.declared.word.Word.{Word}
use Rattle.vc_reader.specs.declared.word.Word.TheVariants as word
use Rattle.vc_explain.specs.declared.wanted.Wanted.{Wanted}
use Rattle.vc_explain.specs.Uses.{branch_uses, change, expression, first_marked, first_of, guard_uses, input, items_at, output, own_place, place_if, uses_of_count, wants}
use Rattle.vc_explain.proofs.Own.{marks_one, marks_two, stop_alone}
use Rattle.vc_explain.proofs.Sought.{if_ok}
use Rattle.vc_explain.proofs.Words.{by_word}
use Rattle.vc_explain.proofs.place_of_use.own_place.Goals as goal

-- what is found in the process is its own
abbrev Own : Wanted → List ValueKind → List Step → Process → Option (List Step) → Type 0
Own w kinds at p found = (site : ℕ) → found ≡ own_place w kinds ((number p).tree site, at)

-- the first mark of a list
abbrev Marked : List Step → Word → List Bool → Option (List Step) → Type 0
Marked at list marks found = found ≡ first_marked (at ++ Field list ∷ []) 0 marks

pub returns-in-Set : goal.returns-in-Set
returns-in-Set c =
    let w = c.args.wanted in
    let kinds = c.args.kinds.now in
    let at = c.args.at.now in
    let own = marks_two w (at ++ Field word.Set ∷ []) (change c.in-Set.var) (expression (in_given (given c.in-Set.value))) c.has_change.result c.has_value.result (c.has_change.ensures) (c.has_value.ensures) in
    if_ok c.marked_at.result (Marked at word.Set (c.has_change.result ∷ c.has_value.result ∷ [])) (Own w kinds at c.args.process.now)
    (λ found h site. h ∙ own ∙ ap (λ (n : Numbered). own_place w kinds (n.tree site, at)) (sym (number_set c.args.process.now c.in-Set.var c.in-Set.value c.in-Set.is))) c.marked_at.ensures

pub returns-in-Send : goal.returns-in-Send
returns-in-Send c =
    let w = c.args.wanted in
    let kinds = c.args.kinds.now in
    let at = c.args.at.now in
    let own = marks_two w (at ++ Field word.Out ∷ []) (output c.in-Send.chan (given_kind (given c.in-Send.value))) (expression (in_given (given c.in-Send.value))) c.has_output.result c.has_value-in-Send.result (c.has_output.ensures) (c.has_value-in-Send.ensures) in
    if_ok c.marked_at-in-Send.result (Marked at word.Out (c.has_output.result ∷ c.has_value-in-Send.result ∷ [])) (Own w kinds at c.args.process.now)
    (λ found h site. h ∙ own ∙ ap (λ (n : Numbered). own_place w kinds (n.tree site, at)) (sym (number_send c.args.process.now c.in-Send.chan c.in-Send.value c.in-Send.is))) c.marked_at-in-Send.ensures

pub returns-in-Receive : goal.returns-in-Receive
returns-in-Receive c =
    let w = c.args.wanted in
    let kinds = c.args.kinds.now in
    let at = c.args.at.now in
    let own = marks_two w (at ++ Field word.In ∷ []) (input c.in-Receive.chan (slice_get kinds c.in-Receive.var)) (change c.in-Receive.var) c.has_input.result c.has_change-in-Receive.result (c.has_input.ensures ∙ ap (λ (o : Option ValueKind). wants w (input c.in-Receive.chan o)) c.kind_at-kind.ensures) (c.has_change-in-Receive.ensures) in
    if_ok c.marked_at-in-Receive.result (Marked at word.In (c.has_input.result ∷ c.has_change-in-Receive.result ∷ [])) (Own w kinds at c.args.process.now)
    (λ found h site. h ∙ own ∙ ap (λ (n : Numbered). own_place w kinds (n.tree site, at)) (sym (number_receive c.args.process.now c.in-Receive.chan c.in-Receive.var c.in-Receive.is))) c.marked_at-in-Receive.ensures

pub returns-in-While : goal.returns-in-While
returns-in-While c =
    let w = c.args.wanted in
    let kinds = c.args.kinds.now in
    let at = c.args.at.now in
    let own = marks_one w (at ++ Field word.While ∷ []) (expression (in_test (as_test c.in-While.cond))) c.has_condition.result (c.has_condition.ensures) in
    if_ok c.marked_at-in-While.result (Marked at word.While (c.has_condition.result ∷ [])) (Own w kinds at c.args.process.now)
    (λ found h site. h ∙ own ∙ ap (λ (n : Numbered). own_place w kinds (n.tree site, at)) (sym (number_while c.args.process.now c.in-While.cond c.in-While.body c.in-While.is))) c.marked_at-in-While.ensures

pub returns-in-Count : goal.returns-in-Count
returns-in-Count c =
    let w = c.args.wanted in
    let kinds = c.args.kinds.now in
    let at = c.args.at.now in
    let k = c.in-Count in
    if_ok c.place_in_count.result (λ found. found ≡ first_of (place_if w) (items_at (at ++ Field word.For ∷ []) 0 (uses_of_count k.var (exp k.base) (exp k.count)))) (Own w kinds at c.args.process.now)
    (λ found h site. h ∙ ap (λ (n : Numbered). own_place w kinds (n.tree site, at)) (sym (number_count c.args.process.now k.var k.base k.count k.body k.is))) c.place_in_count.ensures

pub returns-in-Stopch : goal.returns-in-Stopch
returns-in-Stopch c =
    let w = c.args.wanted in
    let kinds = c.args.kinds.now in
    let at = c.args.at.now in
    let path = at ++ Field word.Stopch ∷ [] in
    let own = stop_alone w (input c.in-Stopch.chan None) path c.has_input-in-Stopch.result c.has_input-in-Stopch.ensures in
    if_ok c.wanted_stop.result (λ found. found ≡ (if c.has_input-in-Stopch.result then Some path else None)) (Own w kinds at c.args.process.now)
    (λ found h site. h ∙ own ∙ ap (λ (n : Numbered). own_place w kinds (n.tree site, at)) (sym (number_stopch c.args.process.now c.in-Stopch.chan c.in-Stopch.is))) c.wanted_stop.ensures

pub returns-in-If : goal.returns-in-If
returns-in-If c =
    let w = c.args.wanted in
    let kinds = c.args.kinds.now in
    let at = c.args.at.now in
    if_ok c.wanted_condition.result (λ found. (site : ℕ) → found ≡ first_of (place_if w) (branch_uses at 0 (branches_from site (map number_branch c.in-If.branches)))) (Own w kinds at c.args.process.now)
    (λ found h site. h (suc site) ∙ ap (λ (n : Numbered). own_place w kinds (n.tree site, at)) (sym (number_if c.args.process.now c.in-If.branches c.in-If.is))) c.wanted_condition.ensures

pub returns-in-Alt : goal.returns-in-Alt
returns-in-Alt c =
    let w = c.args.wanted in
    let kinds = c.args.kinds.now in
    let at = c.args.at.now in
    if_ok c.wanted_guard.result (λ found. (site : ℕ) → found ≡ first_of (place_if w) (guard_uses kinds at 0 (guards_from site (map number_guard c.in-Alt.guards)))) (Own w kinds at c.args.process.now)
    (λ found h site. h (suc site) ∙ ap (λ (n : Numbered). own_place w kinds (n.tree site, at)) (sym (number_alt c.args.process.now c.in-Alt.guards c.in-Alt.is))) c.wanted_guard.ensures

pub returns-in_default : goal.returns-in_default
returns-in_default c =
    let d = c.in_default in
    by_word (λ (n : Numbered). (site : ℕ) → None ≡ own_place c.args.wanted c.args.kinds.now (n.tree site, c.args.at.now)) c.args.process.now record {
      skip = λ h site. refl;
      stop = λ h site. refl;
      assign = λ v a h. absurd (d.not-Set v a h);
      output = λ o a h. absurd (d.not-Send o a h);
      input = λ i v h. absurd (d.not-Receive i v h);
      stops = λ i h. absurd (d.not-Stopch i h);
      seq = λ ps h site. refl;
      par = λ ps h site. refl;
      choice = λ bs h. absurd (d.not-If bs h);
      loop = λ t q h. absurd (d.not-While t q h);
      count = λ v a k q h. absurd (d.not-Count v a k q h);
      alt = λ gs h. absurd (d.not-Alt gs h);
    }
