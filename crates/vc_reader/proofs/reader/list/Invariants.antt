use Rattle.std.proofs.Common.{◌≡◌, [], drop, map}
use Rattle.serde_json.specs.View.{view, items_of}
use Rattle.vc_reader.specs.Reading.{each}
use Rattle.vc_reader.proofs.reader.list.Given as goal

abbrev pub invariant-loop-item : goal.invariant-loop-item
invariant-loop-item g l =
    each (g.R.ItemReader.meaning l.reader) l.read (items_of (map view (drop l.item-index l.item-items))) ≡ each (g.R.ItemReader.meaning l.reader) [] (items_of (map view l.item-items))
