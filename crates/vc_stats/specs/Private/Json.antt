-- A channel as JSON: what comes before its messages, and what comes after them.
use Rattle.std.specs.Prelude.{ℕ, List, ◌++◌, codes}
use Rattle.vc_text.specs.Traffic.{ChannelTraffic}
use Rattle.vc_stats.specs.Fields.{field_text}
use Rattle.vc_stats.specs.Json.{kind_json, named, stop_json}
use Rattle.vc_stats.specs.declared.form.Form.TheVariants.{Json}

-- its name and kind, and how many messages were offered
unfoldable pub head_json : ℕ → ChannelTraffic → List ℕ
head_json n c = named n c.name ++ kind_json c.kind ++ field_text Json (codes "offered") c.offered ++ codes ",\"taken\":["

-- how many outputs were finished, and whether it was stopped
unfoldable pub end_json : ChannelTraffic → List ℕ
end_json c = codes "]" ++ field_text Json (codes "finished") c.finished ++ stop_json c.is_stopped
