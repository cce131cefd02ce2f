-- The disk that made schedules run over.
use Rattle.std.specs.Prelude.{[], ◌∷◌}
use Rattle.fab_base.specs.Layouts.{Group, Layout}
use Rattle.layout.specs.Checks.{layout_with}

-- eight stripes of two data blocks, whose members are the bricks 0 to 3
abbrev pub made_group : Group
made_group = record { members = record { 0 = 0 } ∷ (record { 0 = 1 } ∷ (record { 0 = 2 } ∷ (record { 0 = 3 } ∷ []))); m = 2; stripes = 8 }

-- six bricks with blocks of four bytes, each with room for 100,000 live records
abbrev pub made_layout : Layout
made_layout = layout_with 4 6 100000 17000 2 [] (made_group ∷ []) []
