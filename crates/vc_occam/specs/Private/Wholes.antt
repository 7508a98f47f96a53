-- The frames of a process that begins.
use Rattle.std.specs.Prelude.{◌≡◌, ℕ, Bool, true, false, List, map}
use Rattle.vc_process.specs.Syntax.{Proc}
use Rattle.vc_process.specs.declared.process.Process.{Process}
use Rattle.vc_process.specs.declared.process.Process.TheOpen as layer
use Rattle.vc_process.specs.declared.process.Process.TheViews.{out-Process}
use Rattle.vc_process.specs.declared.process.Branch.{Branch}
use Rattle.vc_process.specs.declared.process.Guard.{Guard}
use Rattle.vc_process.specs.Numbering.{guard_sites}
use Rattle.vc_process.specs.Private.InOrder.{number_guard}
use Rattle.vc_occam.specs.declared.frame.Frame.{Frame}
use Rattle.vc_occam.specs.declared.frame.Task.{Task}
use Rattle.vc_occam.specs.Frames.{begun, outcome_of, view}
use Rattle.vc_occam.specs.Remains.{begin}

-- whether a process is no SEQ, PAR, IF, WHILE, replicated SEQ or ALT
abbrev pub stands_alone : layer.Process-F Process Branch Guard → Bool
stands_alone (layer.Seq parts) = false
stands_alone (layer.Par parts) = false
stands_alone (layer.If branches) = false
stands_alone (layer.While cond body) = false
stands_alone (layer.Count var base count body) = false
stands_alone (layer.Alt guards) = false
stands_alone _ = true

abbrev pub is_alone : Process → Bool
is_alone p = stands_alone (out-Process p)

-- it has begun to run this process, and what it begins with is kept
abbrev pub Begins : Task Frame → Proc → Type 0
Begins t p = (view t.frame ≡ begun p) × (t.begins ≡ outcome_of (begin p))

-- how many sites the guards of an ALT have
abbrev pub sites_of_guards : List Guard → ℕ
sites_of_guards gs = guard_sites (map number_guard gs)
