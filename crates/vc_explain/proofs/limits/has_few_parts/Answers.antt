use Rattle.std.proofs.Common.{◌≡◌, ◌∙◌, ℕ, ◌<◌, ◌≤◌, Option, Some, None, nat_le, arith}
use Rattle.std.specs.Prelude.{MatchOption, is_some}
use Rattle.std.proofs.lemmas.Bool.Decides.{nat_tests}
use Rattle.vc_explain.proofs.limits.has_few_parts.Goals as goal

within : (sites : Option ℕ) (n most : ℕ) → MatchOption sites (most < n) (λ s. (s ≡ n) × (s ≤ most)) → is_some sites ≡ nat_le n most
within None n most h = grind (arith, nat_tests)
within (Some s) n most h = grind (arith, nat_tests)

pub returns : goal.returns
returns c = c.is_some.ensures ∙ within c.sites.result _ 4096 c.sites.ensures
