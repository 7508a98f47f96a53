-- The uses of parts, branches and guards are those of each, one after another.
use Rattle.std.proofs.Common.{ℕ, ◌+◌, ◌++◌, refl, List}
use Rattle.vc_process.specs.declared.used.Usage.{Usage}
use Rattle.vc_process.specs.Numbering.{Numbered, NumberedBranch, NumberedGuard, branches_from, guards_from, parts_from}
use Rattle.vc_process.specs.Private.Usages.{input_usages, test_usages, usages, usages_of_branches, usages_of_guards, usages_of_parts}
use Rattle.vc_process.proofs.Walks.{Joins}

abbrev pub all_parts : List Numbered → ℕ → List Usage
all_parts ns s = usages_of_parts (parts_from s ns)

abbrev pub one_part : Numbered → ℕ → List Usage
one_part n s = usages (n.tree s)

abbrev pub behind_part : Numbered → ℕ → ℕ
behind_part n s = s + n.sites

pub parts_join : Joins all_parts one_part behind_part
parts_join n ns s = refl

abbrev pub all_branches : List NumberedBranch → ℕ → List Usage
all_branches bs s = usages_of_branches (branches_from s bs)

abbrev pub one_branch : NumberedBranch → ℕ → List Usage
one_branch b s = test_usages b.when ++ usages (b.then_do.tree s)

abbrev pub behind_branch : NumberedBranch → ℕ → ℕ
behind_branch b s = s + b.then_do.sites

pub branches_join : Joins all_branches one_branch behind_branch
branches_join b bs s = refl

abbrev pub all_guards : List NumberedGuard → ℕ → List Usage
all_guards gs s = usages_of_guards (guards_from s gs)

abbrev pub one_guard : NumberedGuard → ℕ → List Usage
one_guard g s = (input_usages g.chan g.var ++ test_usages g.when) ++ usages (g.then_do.tree s)

abbrev pub behind_guard : NumberedGuard → ℕ → ℕ
behind_guard g s = s + g.then_do.sites

pub guards_join : Joins all_guards one_guard behind_guard
guards_join g gs s = refl
