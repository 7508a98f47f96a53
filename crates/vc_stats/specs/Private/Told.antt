-- The text that a tail shows in each form.
use Rattle.std.specs.Prelude.{ℕ, List, ◌++◌, map}
use Rattle.vc_stats.specs.Json.{traffic_json}
use Rattle.vc_stats.specs.declared.form.Form.{Form}
use Rattle.vc_stats.specs.declared.form.Form.TheVariants.{Lines, Json}
use Rattle.vc_text.specs.Tail.{tail_text}
use Rattle.vc_text.specs.Views.{shown}
use Rattle.vc_text.specs.declared.tail.Tail.{Tail}

-- its traffic as JSON, and what comes after it
abbrev pub tail_json : Tail → List ℕ
tail_json tail = traffic_json (map shown tail.views.items) tail.close ++ tail.after.items

-- its lines, or its JSON
abbrev pub told_text : Form → Tail → List ℕ
told_text Lines tail = tail_text tail
told_text Json tail = tail_json tail
