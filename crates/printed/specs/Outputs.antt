-- What is printed for a schedule: the texts of its lines, and what closes them.
use Rattle.std.specs.Prelude.{ℕ, zero, suc, List, [], ◌∷◌, ◌++◌, codes, count_by, Option, Some, None}
use Rattle.std.specs.Fmt.{decimal}
use Rattle.reg_model.specs.declared.marks.Mark.{Mark}
use Rattle.reg_model.specs.declared.marks.Happening.{Happening}
use Rattle.fab_base.specs.Layouts.{Layout, Group, group_of, most_groups}
use Rattle.protocol.specs.Settings.{Setting}
use Rattle.protocol.specs.Worlds.{World, first_world, run}
use Rattle.protocol.specs.Happenings.{happenings_of}
use Rattle.stripe_code.specs.Codes.{coding}
use Rattle.transcript.specs.Kinds.{is_begin, is_answered, is_aborted, is_crash}
use Rattle.world.specs.Runs.{Step, all_events}
use Rattle.fab_base.specs.Texts.{newline}
use Rattle.world.specs.Texts.{step_text}

-- the most lines of a schedule
abbrev pub most_lines : ℕ
most_lines = 1048576

-- one happening
abbrev pub happening_text : Happening → List ℕ
happening_text h = codes " " ++ (decimal h.operation ++ (codes "@" ++ decimal h.position))

-- happenings, in order, to the end of the line
abbrev pub happenings_text : List Happening → List ℕ
happenings_text [] = newline
happenings_text (h ∷ happenings) = happening_text h ++ happenings_text happenings

-- the line of a stripe with happenings; a stripe without has none
abbrev pub happened_text : ℕ → ℕ → List Happening → List ℕ
happened_text group stripe [] = []
happened_text group stripe (h ∷ happenings) =
    codes "happened " ++ (decimal group ++ (codes " " ++ (decimal stripe ++ happenings_text (h ∷ happenings))))

-- the lines of a group's stripes below a number
abbrev pub stripes_text : World → ℕ → ℕ → List ℕ
stripes_text w group zero = []
stripes_text w group (suc stripe) = stripes_text w group stripe ++ happened_text group stripe (happenings_of w group stripe)

-- how many stripes a group has, where there is one
abbrev pub stripes_of : Option Group → ℕ
stripes_of None = 0
stripes_of (Some group) = group.stripes

-- the lines of the groups below a number
unfoldable pub groups_text : Layout → World → ℕ → List ℕ
groups_text layout w zero = []
groups_text layout w (suc group) = groups_text layout w group ++ stripes_text w group (stripes_of (group_of layout group))

-- the last line: how many lines of the schedule, and marks of each kind
abbrev pub count_text : ℕ → List Mark → List ℕ
count_text lines marks =
    codes "count lines " ++ (decimal lines ++ (codes " begun " ++ (decimal (count_by is_begin marks)
    ++ (codes " answered " ++ (decimal (count_by is_answered marks) ++ (codes " aborted " ++ (decimal (count_by is_aborted marks)
    ++ (codes " crashes " ++ (decimal (count_by is_crash marks) ++ newline)))))))))

-- what closes the output after this many lines
abbrev pub closing_text : Layout → World → ℕ → List ℕ
closing_text layout w lines = groups_text layout w most_groups ++ count_text lines w.marks

-- the world that steps leave over the disk of a layout
abbrev pub left_by : Layout → List Step → World
left_by layout steps = run (coding layout) (all_events steps) (first_world layout)

-- the texts of steps, one after another
abbrev pub steps_text : Setting → World → List Step → List ℕ
steps_text setting w [] = []
steps_text setting w (step ∷ steps) = step_text setting w step ++ steps_text setting (run setting step.events w) steps
