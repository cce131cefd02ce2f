-- Which stripe is found bad.
use Rattle.std.specs.Prelude.{List, Option, Some, None}
use Rattle.fab_base.specs.Layouts.{Layout}
use Rattle.reg_model.specs.declared.marks.Mark.{Mark}
use Rattle.transcript.specs.declared.claims.StripeLine.{StripeLine}
use Rattle.audit.specs.declared.sweeps.StripeName.{StripeName}
use Rattle.audit.specs.Checks.{StripesHold, IsFirstBad}

-- none is, where those of all named stripes hold; or it is the first whose happenings do not
abbrev pub FindsBad : Layout → List Mark → List StripeLine → Option StripeName → Type 0
FindsBad layout marks lines None = StripesHold layout marks lines
FindsBad layout marks lines (Some name) = IsFirstBad layout marks lines name.group name.stripe
