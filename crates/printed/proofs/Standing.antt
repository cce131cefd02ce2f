-- Each operation of a run that begins fits the layout, and each brick that stops is one of the layout.
use Rattle.std.proofs.Common.{◌≡◌, ℕ, ◌+◌, ◌<◌, ⊎_elim, true, not, List, [], ◌∷◌, ◌++◌, length, Some, None, is_some, subst}
use Rattle.std.specs.Prelude.{⊤, slice_get}
use Rattle.std.proofs.lemmas.Bool.{and_parts, ltb-true}
use Rattle.fab_base.specs.declared.identities.BrickId.{BrickId}
use Rattle.fab_base.specs.Layouts.{Layout}
use Rattle.reg_model.specs.declared.marks.Mark.{Mark}
use Rattle.reg_model.specs.declared.marks.Mark.TheVariants.{Begin, End, Crash}
use Rattle.protocol.specs.Settings.{Setting}
use Rattle.protocol.specs.Nodes.{refusal_of, proposed, synced_at, scrubbed_at}
use Rattle.protocol.specs.Worlds.{World, Event, is_brick, is_up, run, first_world}
use Rattle.protocol_laws.proofs.BooksEvents.{BeginFits, begin_fits}
use Rattle.reg_model.proofs.AddedMarks.{slice_get_push}
use Rattle.protocol.proofs.Events.{EventCases, step_on, world_counting, stepped_each, started_each, always}

-- a brick that is up is one of the layout
pub up_brick : (layout : Layout) (w : World) (brick : BrickId) → is_up layout w brick ≡ true → brick.0 < layout.bricks
up_brick layout w brick up = ltb-true brick.0 layout.bricks (and_parts (is_brick layout brick) (w.up brick.0) up).0

-- an operation that begins fits, and a brick that stops is the layout's
abbrev pub MarkStands : Setting → Mark → Type 0
MarkStands setting (Begin p n b ask) = (b.0 < setting.layout.bricks) × BeginFits setting ask
MarkStands setting (End p n answer) = ⊤
MarkStands setting (Crash p b) = b.0 < setting.layout.bricks

-- each of these marks
abbrev pub AllStand : Setting → List Mark → Type 0
AllStand setting marks = (k : ℕ) (mark : Mark) → slice_get marks k ≡ Some mark → MarkStands setting mark

-- one mark more
one_more : (setting : Setting) (marks : List Mark) (mark : Mark) → AllStand setting marks → MarkStands setting mark
    → AllStand setting (marks ++ (mark ∷ []))
one_more setting marks mark all new k one at = ⊎_elim
    (λ (old : slice_get marks k ≡ Some one). all k one old)
    (λ (last : (k ≡ length marks) × (mark ≡ one)). subst (λ (m : Mark). MarkStands setting m) last.1 new)
    (slice_get_push marks mark one k at)

-- of a world's marks
abbrev pub MarksStand : Setting → World → Type 0
MarksStand setting w = AllStand setting w.marks

-- what is told makes no mark, and what is answered makes Ends
stand_cases : (setting : Setting) (w : World) → MarksStand setting w → EventCases setting w (MarksStand setting)
stand_cases setting w all = record {
  begins = λ brick ask may.
      (let up = (and_parts (is_up setting.layout w brick) (not (is_some (refusal_of setting.layout (w.nodes brick.0) ask))) may).0 in
      one_more setting w.marks (Begin (length w.marks) (w.marked + 1) brick ask) all
      (up_brick setting.layout w brick up, begin_fits setting w brick ask may));
  proposes = λ brick group members may.
      stepped_each (MarksStand setting) setting brick (proposed setting brick (w.nodes brick.0) group members) (λ x seq t base holds. holds)
      (λ x seq v holds. holds) (λ x nodes call holds. holds) (λ x seq cause holds. holds)
      (λ x one holds. one_more setting x.marks (End (length x.marks) _ one.answer) holds tt)
      (λ x nodes held packets choices holds. holds) w all;
  syncs = λ brick group may.
      stepped_each (MarksStand setting) setting brick (synced_at setting brick (w.clocks brick.0) (w.nodes brick.0) group) (λ x seq t base holds. holds)
      (λ x seq v holds. holds) (λ x nodes call holds. holds) (λ x seq cause holds. holds)
      (λ x one holds. one_more setting x.marks (End (length x.marks) _ one.answer) holds tt)
      (λ x nodes held packets choices holds. holds) w all;
  scrubs = λ brick group stripe members may.
      stepped_each (MarksStand setting) setting brick (scrubbed_at setting brick (w.clocks brick.0) (w.nodes brick.0) group stripe members) (λ x seq t base holds. holds)
      (λ x seq v holds. holds) (λ x nodes call holds. holds) (λ x seq cause holds. holds)
      (λ x one holds. one_more setting x.marks (End (length x.marks) _ one.answer) holds tt)
      (λ x nodes held packets choices holds. holds) w all;
  handles = λ number packet at up.
      stepped_each (MarksStand setting) setting packet.to (step_on setting w packet) (λ x seq t base holds. holds) (λ x seq v holds. holds)
      (λ x nodes call holds. holds) (λ x seq cause holds. holds) (λ x one holds. one_more setting x.marks (End (length x.marks) _ one.answer) holds tt) (λ x nodes held packets choices holds. holds)
      (world_counting setting w number packet) all;
  sets = λ brick time is. all;
  ticks = λ brick up. all;
  stops = λ brick during up. one_more setting w.marks (Crash (length w.marks) brick) all (up_brick setting.layout w brick up);
  starts = λ brick openings found may. started_each (MarksStand setting) w brick openings all all found;
}

-- so in every run
pub always_stand : (setting : Setting) (events : List Event) → MarksStand setting (run setting events (first_world setting.layout))
always_stand setting =
    always (MarksStand setting) setting (λ k mark at. absurd (let never : None ≡ Some mark = at in cc)) (stand_cases setting)
