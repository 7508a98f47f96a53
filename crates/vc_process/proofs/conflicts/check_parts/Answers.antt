use Rattle.std.proofs.Common.{sym, subst, map, List, Option, Some, None, Err}
use Rattle.std.specs.List.Sorted.{IsPermutation}
use Rattle.vc_process.specs.declared.used.Used.{Used}
use Rattle.vc_process.specs.declared.used.PartUsage.{PartUsage}
use Rattle.vc_process.specs.declared.use_fault.UseFault.{UseFault}
use Rattle.vc_process.specs.InOrder.{number}
use Rattle.vc_process.specs.Lawful.{Offends, SideBySide}
use Rattle.vc_process.specs.Numbering.{parts_from}
use Rattle.vc_process.specs.Private.Clashes.{IsFirstClash, Judges}
use Rattle.vc_process.proofs.PartPairs.{judged, judges_fault}
use Rattle.vc_process.proofs.conflicts.check_parts.Goals as goal

pub returns-in-Some : goal.returns-in-Some
returns-in-Some c = λ site.
    let ps = parts_from site (map number c.args.parts.now) in
    let xs = c.sort_uses.new.uses.items in
    let first : IsFirstClash xs (Some c.in-Some.used) = subst (λ (r : Option Used). IsFirstClash xs r) c.in-Some.is (subst (λ (us : List PartUsage). IsFirstClash us c.first_clash.result) c.deref.ensures.value c.first_clash.ensures) in
    let parts = subst (λ (us : List PartUsage). IsPermutation us xs) (c.in_ok-uses.ensures site) c.sort_uses.ensures.same in
    subst (λ (f : UseFault). Judges (Err f) (SideBySide ps) (Offends ps)) (sym c.fault_by.ensures) (judges_fault ps c.in-Some.used (judged ps xs parts (Some c.in-Some.used) first))

pub returns : goal.returns
returns c = λ site.
    let ps = parts_from site (map number c.args.parts.now) in
    let xs = c.sort_uses.new.uses.items in
    let first : IsFirstClash xs None = subst (λ (r : Option Used). IsFirstClash xs r) c.in-None.is (subst (λ (us : List PartUsage). IsFirstClash us c.first_clash.result) c.deref.ensures.value c.first_clash.ensures) in
    let parts = subst (λ (us : List PartUsage). IsPermutation us xs) (c.in_ok-uses.ensures site) c.sort_uses.ensures.same in
    judged ps xs parts None first
