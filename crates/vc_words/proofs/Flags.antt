-- Whether a flag was found, from what `clap` says that it read.
use Rattle.std.proofs.Common.{◌≡◌, ◌≢◌, ◌∙◌, Bool, true, false, refl, sym, ap, Option, Some, None, Ok, codes, is_some, true≢false}
use Rattle.std.specs.Bool.{⊤}
use Rattle.std.specs.Option.{option_map_or}
use Rattle.std.specs.Str.{bytes_eq}
use Rattle.std.specs.Str.Parse.{ParsesBool}
use Rattle.std.proofs.lemmas.Slice.Eq.{bytes_eq-Decides}
use Rattle.clap.specs.Walk.{Text, rows_of}
use Rattle.clap.specs.Matches.{one_text}
use Rattle.clap.specs.declared.parser.matches.Found.{Found}
use Rattle.clap.proofs.WalkLemmas.{one_text-rows}
use Rattle.vc_words.specs.CommandLine.{has_flag}

abbrev is_true : Text → Bool
is_true text = bytes_eq text (codes "true")

module _ (f : Found) (id : Text) where
  pub found : (b : Bool) → (one_text f id ≡ None → Some b ≡ None) → ((t : Text) → one_text f id ≡ Some t → ParsesBool {E = ⊤} t (Ok b)) → b ≡ has_flag id (rows_of f)
  found b none value = go b (one_text f id) none value ∙ ap (λ o. option_map_or is_true o false) (one_text-rows f id)
    where
      go : (b : Bool) (o : Option Text) → (o ≡ None → Some b ≡ None) → ((t : Text) → o ≡ Some t → ParsesBool {E = ⊤} t (Ok b)) → b ≡ option_map_or is_true o false
      go b None none value = absurd (true≢false (ap is_some (none refl)))
      go true (Some t) none value = sym (ap is_true (value t refl))
      go false (Some t) none value = sym (ap is_true (value t refl))

  pub absent : ((t : Text) → one_text f id ≡ Some t → t ≢ codes "true") → false ≡ has_flag id (rows_of f)
  absent value = go (one_text f id) value ∙ ap (λ o. option_map_or is_true o false) (one_text-rows f id)
    where
      go : (o : Option Text) → ((t : Text) → o ≡ Some t → t ≢ codes "true") → false ≡ option_map_or is_true o false
      go None value = refl
      go (Some t) value = not_true (is_true t) refl (value t refl)
        where
          not_true : (b : Bool) → is_true t ≡ b → t ≢ codes "true" → false ≡ b
          not_true false e n = refl
          not_true true e n = absurd (n ((bytes_eq-Decides t (codes "true")).0 e))
