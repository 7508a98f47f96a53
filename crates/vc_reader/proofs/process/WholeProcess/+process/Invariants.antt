use Rattle.std.proofs.Common.{◌≡◌, ◌+◌, ◌*◌, [], drop, map}
use Rattle.serde_json.specs.View.{view, items_of}
use Rattle.vc_reader.specs.Reading.{each}
use Rattle.vc_reader.specs.Processes.{read_process, read_branch, read_guard}
use Rattle.vc_reader.proofs.process.WholeProcess.+process.Given as goal

abbrev pub decreases-process : goal.decreases-process
decreases-process l = 7 * l.depth

abbrev pub decreases-part : goal.decreases-part
decreases-part l = 7 * l.depth + 1

abbrev pub decreases-boxed_part : goal.decreases-boxed_part
decreases-boxed_part l = 7 * l.depth + 2

abbrev pub decreases-branch : goal.decreases-branch
decreases-branch l = 7 * l.depth + 2

abbrev pub decreases-guard : goal.decreases-guard
decreases-guard l = 7 * l.depth + 2

abbrev pub decreases-repeated : goal.decreases-repeated
decreases-repeated l = 7 * l.depth + 3

abbrev pub decreases-counted : goal.decreases-counted
decreases-counted l = 7 * l.depth + 3

abbrev pub decreases-parts : goal.decreases-parts
decreases-parts l = 7 * l.depth + 3

abbrev pub decreases-branches : goal.decreases-branches
decreases-branches l = 7 * l.depth + 3

abbrev pub decreases-guards : goal.decreases-guards
decreases-guards l = 7 * l.depth + 3

abbrev pub decreases-worded : goal.decreases-worded
decreases-worded l = 7 * l.depth + 4

abbrev pub decreases-named : goal.decreases-named
decreases-named l = 7 * l.depth + 5

abbrev pub decreases-step : goal.decreases-step
decreases-step l = 7 * l.depth + 6

abbrev pub invariant-parts-loop-item : goal.invariant-parts-loop-item
invariant-parts-loop-item l =
    each (λ _. read_process l.depth l.self.vars.now l.self.channels.now) l.read (items_of (map view (drop l.item-index l.item-items))) ≡ each (λ _. read_process l.depth l.self.vars.now l.self.channels.now) [] (items_of (map view l.item-items))

abbrev pub invariant-branches-loop-item : goal.invariant-branches-loop-item
invariant-branches-loop-item l =
    each (λ _. read_branch (read_process l.depth l.self.vars.now l.self.channels.now) l.self.vars.now) l.read (items_of (map view (drop l.item-index l.item-items))) ≡ each (λ _. read_branch (read_process l.depth l.self.vars.now l.self.channels.now) l.self.vars.now) [] (items_of (map view l.item-items))

abbrev pub invariant-guards-loop-item : goal.invariant-guards-loop-item
invariant-guards-loop-item l =
    each (λ _. read_guard (read_process l.depth l.self.vars.now l.self.channels.now) l.self.vars.now l.self.channels.now) l.read (items_of (map view (drop l.item-index l.item-items))) ≡ each (λ _. read_guard (read_process l.depth l.self.vars.now l.self.channels.now) l.self.vars.now l.self.channels.now) [] (items_of (map view l.item-items))
