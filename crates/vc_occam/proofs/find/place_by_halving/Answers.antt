use Rattle.std.proofs.Common.{◌∙◌, rules}
use Rattle.std.specs.Prelude.{nat_le}
use Rattle.std.proofs.lemmas.List.Sorted.{IsPartitionPoint-from_clause, IsPartitionedBy-leb}
use Rattle.vc_occam.specs.declared.frame.Frame.{Frame}
use Rattle.vc_occam.specs.declared.frame.Task.{Task}
use Rattle.vc_occam.specs.Frames.{view}
use Rattle.vc_occam.specs.Sites.{site}
use Rattle.vc_occam.proofs.Places.{frame_site, halved, sites_rise}
use Rattle.vc_occam.proofs.find.place_by_halving.Goals as goal

pub returns : goal.returns
returns c =
    let ts = c.args.tasks.now in
    let i = c.args.site in
    let point = IsPartitionPoint-from_clause (λ (t : Task Frame). nat_le (site (view t.frame).plan) i) ts c.partition_point-later.result c.partition_point-later.ensures.partitioned
    (IsPartitionedBy-leb (λ (t : Task Frame). site (view t.frame).plan) ts i (sites_rise ts c.requires)) (λ a r f k. let e = frame_site a.0.now.frame in search rules) in
    c.saturating_sub.ensures ∙ halved ts c.partition_point-later.result i c.partition_point-later.ensures.bound point
