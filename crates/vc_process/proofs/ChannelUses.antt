-- The uses of channels by parts, branches and guards.
use Rattle.std.proofs.Common.{ℕ, ◌+◌, true, refl, List, [], ◌∷◌, ◌++◌, Option, Some}
use Rattle.std.specs.Prelude.{slice_get}
use Rattle.vc_process.specs.declared.channel_use.ChannelUse.{ChannelUse}
use Rattle.vc_process.specs.declared.value_kind.ValueKind.{ValueKind}
use Rattle.vc_process.specs.ChannelUses.{channel_uses, guard_uses, inputs_on, uses_of_all, uses_of_bodies, uses_of_branches}
use Rattle.vc_process.specs.Numbering.{Numbered, NumberedBranch, NumberedGuard, branches_from, guards_from, parts_from}
use Rattle.vc_process.proofs.Walks.{Joins}

abbrev pub output_of : ℕ → ValueKind → List ChannelUse
output_of c k = record { chan = c; is_output = true; kind = Some k } ∷ []

abbrev pub input_of : ℕ → Option ValueKind → List ChannelUse
input_of c k = inputs_on c k ∷ []

module _ (kinds : List ValueKind) where
  abbrev pub all_inputs : List NumberedGuard → ℕ → List ChannelUse
  all_inputs ns s = guard_uses kinds (guards_from s ns)

  abbrev pub one_input : NumberedGuard → ℕ → List ChannelUse
  one_input g s = inputs_on g.chan (slice_get kinds g.var) ∷ []

  abbrev pub behind_input : NumberedGuard → ℕ → ℕ
  behind_input g s = s + g.then_do.sites

  pub inputs_join : Joins all_inputs one_input behind_input
  inputs_join g ns s = refl

  abbrev pub all_parts : List Numbered → ℕ → List ChannelUse
  all_parts ns s = uses_of_all kinds (parts_from s ns)

  abbrev pub one_part : Numbered → ℕ → List ChannelUse
  one_part n s = channel_uses kinds (n.tree s)

  abbrev pub behind_part : Numbered → ℕ → ℕ
  behind_part n s = s + n.sites

  pub parts_join : Joins all_parts one_part behind_part
  parts_join n ns s = refl

  abbrev pub all_branches : List NumberedBranch → ℕ → List ChannelUse
  all_branches ns s = uses_of_branches kinds (branches_from s ns)

  abbrev pub one_branch : NumberedBranch → ℕ → List ChannelUse
  one_branch b s = channel_uses kinds (b.then_do.tree s)

  abbrev pub behind_branch : NumberedBranch → ℕ → ℕ
  behind_branch b s = s + b.then_do.sites

  pub branches_join : Joins all_branches one_branch behind_branch
  branches_join b ns s = refl

  abbrev pub all_guards : List NumberedGuard → ℕ → List ChannelUse
  all_guards ns s = uses_of_bodies kinds (guards_from s ns)

  abbrev pub one_guard : NumberedGuard → ℕ → List ChannelUse
  one_guard g s = channel_uses kinds (g.then_do.tree s)

  abbrev pub behind_guard : NumberedGuard → ℕ → ℕ
  behind_guard g s = s + g.then_do.sites

  pub guards_join : Joins all_guards one_guard behind_guard
  guards_join g ns s = refl

  abbrev pub all_alternatives : List NumberedGuard → ℕ → List ChannelUse
  all_alternatives ns s = all_inputs ns s ++ all_guards ns s
