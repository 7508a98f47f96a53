-- What is written of a run, with its counts or as JSON.
use Rattle.std.specs.Prelude.{◌≡◌, ℕ, Bool, List, ◌++◌, codes}
use Rattle.vc_core.specs.PossibleEvents.{NetworkState}
use Rattle.vc_text.specs.RunText.{RunText}
use Rattle.vc_text.specs.ChannelStates.{channels_of}
use Rattle.vc_text.specs.Tail.{IsTail}
use Rattle.vc_stats.specs.Json.{traffic_json}
use Rattle.vc_stats.specs.Sections.{stats_text}
use Rattle.vc_stats.specs.StateFigures.{Figures, Visits, figures_of, no_figures}
use Rattle.vc_stats.specs.declared.form.Form.{Form}
use Rattle.vc_stats.specs.declared.form.Form.TheVariants.{Lines, Json}

-- the traffic, with who waits for what or without, and then the lines of the counts
abbrev pub IsCountedLines : (why : Bool) → Figures → RunText
IsCountedLines why states plan events x close text =
    (tail : List ℕ) × IsTail why plan events x close tail × (text ≡ tail ++ stats_text Lines plan events states (channels_of plan x))

-- one object of the traffic and the counts
abbrev pub IsCountedJson : Figures → RunText
IsCountedJson states plan events x close text =
    text ≡ traffic_json (channels_of plan x) close ++ stats_text Json plan events states (channels_of plan x) ++ codes "}\n"

-- the traffic, the counts of the events, and the figures of the states; in JSON it is not told who waits for what
abbrev pub IsCountedText : Form → (why : Bool) → Figures → RunText
IsCountedText Lines why = IsCountedLines why
IsCountedText Json why = IsCountedJson

-- the traffic and the counts of the events, and of the states that they visit one after another
abbrev pub IsStatsText : Form → (why : Bool) → RunText
IsStatsText form why plan events x close text =
    (xs : List NetworkState) × Visits plan events xs x × IsCountedText form why (figures_of plan events xs) plan events x close text

-- the traffic and the counts of the events alone
abbrev pub IsEventsText : Form → (why : Bool) → RunText
IsEventsText form why = IsCountedText form why no_figures

-- one object of the traffic alone
unfoldable pub IsTrafficJson : RunText
IsTrafficJson plan events x close text = text ≡ traffic_json (channels_of plan x) close ++ codes "}\n"
