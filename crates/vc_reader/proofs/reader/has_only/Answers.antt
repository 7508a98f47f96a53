use Rattle.std.proofs.Common.{◌≡◌, ◌∙◌, ◌&&◌, ℕ, Bool, true, false, List, ◌∷◌, Global, sym, ap}
use Rattle.std.specs.Prelude.{String, string_bytes}
use Rattle.serde_json.specs.View.{members_view}
use Rattle.serde_json.specs.declared.value.Value.{Value}
use Rattle.vc_reader.specs.Reading.{is_word, has_only}
use Rattle.vc_reader.specs.declared.word.Word.{Word}
use Rattle.vc_reader.proofs.reader.has_only.Goals as goal

-- what is asked of an object's members, its first first
members-at : (words : List Word) (entries rest : List (String Global × Value)) (k : String Global) (v : Value) (key : List ℕ) (b : Bool) → entries ≡ (k, v) ∷ rest → key ≡ string_bytes k → b ≡ is_word words key →
    has_only words (members_view entries) ≡ (b && has_only words (members_view rest))
members-at words entries rest k v key b e s h =
    ap (λ es. has_only words (members_view es)) e ∙ sym (ap (λ x. x && has_only words (members_view rest)) (h ∙ ap (λ bs. is_word words bs) s))

pub returns-then-not-is_word : goal.returns-then-not-is_word
returns-then-not-is_word c =
    sym (members-at c.args.words.now c.loop-key.key-iterator _ _ _ _ false c.in-Some.ensures.steps c.as_str.ensures.value c.if-not-is_word.ensures) ∙ c.loop-key.invariant

pub loop-key-preserved : goal.loop-key-preserved
loop-key-preserved c =
    sym (members-at c.args.words.now c.loop-key.key-iterator _ _ _ _ true c.in-Some.ensures.steps c.as_str.ensures.value c.if-not-is_word.ensures) ∙ c.loop-key.invariant
