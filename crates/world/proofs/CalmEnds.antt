-- An operation that has run alone is over.
use Rattle.std.proofs.Common.{List, [], ◌∷◌, ◌++◌, append-nil, length, drop, map, ℕ, Bool, true, false, not, ◌≡◌, inl, refl, sym, ap, ◌∙◌, subst, arith}
use Rattle.std.proofs.lemmas.List.{drop_all}
use Rattle.std.specs.Prelude.{if◌then◌else◌}
use Rattle.fab_base.specs.Layouts.{Layout}
use Rattle.fab_base.specs.declared.identities.BrickId.{BrickId}
use Rattle.layout.specs.Limits.{IsLayout}
use Rattle.fab_disk.specs.declared.mem_disk.MemDisk.{MemDisk}
use Rattle.lines.specs.declared.forms.Line.TheVariants.{Calm}
use Rattle.protocol.specs.Settings.{Setting}
use Rattle.protocol.specs.declared.tellings.Report.{Report}
use Rattle.protocol.specs.Calms.{RunsAlone, Ended, Stuck, Next, IsCalm, operation_marked}
use Rattle.protocol.specs.Worlds.{World, Event, Delivers, first_world, happens, run}
use Rattle.rs_code.proofs.StripeLaws.{length-coded_block}
use Rattle.stripe_code.specs.Codes.{coding}
use Rattle.stripe_code.proofs.Soundness.{coding_is_sound}
use Rattle.calm_laws.specs.Laws.{IsOver, LeavesItsOwn}
use Rattle.calm_laws.proofs.Discharge.{calm_ends, marked_has_stripe}
use Rattle.calm_laws.proofs.Leaving.{collects_leave}
use Rattle.calm_laws.proofs.LoneScrubs.{scrubs_end}
use Rattle.world.specs.Runs.{Run, brick_of}
use Rattle.world.specs.Steps.{LoneScrubsEnd}
use Rattle.world.specs.Shown.{Shows, ComesTo, StopsAt, HasRun, HasBegun, IsReachedBy, is_empty}
use Rattle.world.specs.Texts.{marks_text, reports_text, new_marks, new_reports, outcome_text, text_of, line_text}
use Rattle.world.specs.declared.simulations.Outcome.TheVariants.{Marks, Idle}
use Rattle.world.specs.declared.simulations.Simulation.{Simulation}
use Rattle.world.proofs.CalmRuns.{begins_run}

-- it is over
over_alone : (layout : Layout) (is : IsLayout layout) (mark : ℕ) (bricks : List BrickId) (w last : World) (events : List Event) → IsReachedBy layout w
    → IsCalm (coding layout) w (operation_marked w mark) bricks → RunsAlone (coding layout) (operation_marked w mark) bricks w events last
    → IsOver last (operation_marked w mark)
over_alone layout is mark bricks w last events (before, reached) =
    subst (λ (v : World). IsCalm (coding layout) v (operation_marked v mark) bricks → RunsAlone (coding layout) (operation_marked v mark) bricks v events last
    → IsOver last (operation_marked v mark)) (sym reached)
    (λ calm runs. (calm_ends (coding layout) before (operation_marked (run (coding layout) before (first_world layout)) mark) bricks (coding_is_sound layout is)
    (λ m content seat. length-coded_block m layout.block content seat) is.few_records calm
    (marked_has_stripe (coding layout) before mark calm.operation calm.coordinator bricks calm.is)).over events last runs)

-- and its Collects leave its own version only
leaves_own : (layout : Layout) (is : IsLayout layout) (mark : ℕ) (bricks : List BrickId) (w last : World) (events : List Event) → IsReachedBy layout w
    → (calm : IsCalm (coding layout) w (operation_marked w mark) bricks) → RunsAlone (coding layout) (operation_marked w mark) bricks w events last
    → LeavesItsOwn (coding layout) w (operation_marked w mark) bricks calm last
leaves_own layout is mark bricks w last events (before, reached) =
    subst (λ (v : World). (calm : IsCalm (coding layout) v (operation_marked v mark) bricks)
    → RunsAlone (coding layout) (operation_marked v mark) bricks v events last → LeavesItsOwn (coding layout) v (operation_marked v mark) bricks calm last) (sym reached)
    (λ calm runs. collects_leave (coding layout) before (operation_marked (run (coding layout) before (first_world layout)) mark) bricks (coding_is_sound layout is)
    (λ m content seat. length-coded_block m layout.block content seat) is.few_records calm
    (marked_has_stripe (coding layout) before mark calm.operation calm.coordinator bricks calm.is) events last runs)

-- it leaves the world after its events
runs_run : (setting : Setting) (n : ℕ) (bricks : List BrickId) (w last : World) (events : List Event) → RunsAlone setting n bricks w events last
    → last ≡ run setting events w
runs_run setting n bricks _ _ _ (Ended w ended) = refl
runs_run setting n bricks _ _ _ (Stuck w opens none) = refl
runs_run setting n bricks _ _ _ (Next w last number events opens next more) = runs_run setting n bricks (happens setting w (Delivers number)) last events more

-- its line prints the marks that were made, or that there was nothing to do
prints_marks : (setting : Setting) (w v : World) (n : ℕ) (numbers : List ℕ) (events : List Event) (some : Bool) → some ≡ not (is_empty events)
    → text_of setting w events ≡ marks_text (new_marks w v) → new_reports w v ≡ []
    → outcome_text (if some then Marks else Idle) (new_marks w v) (new_reports w v) ≡ line_text setting w (Calm n numbers) events
prints_marks setting w v n numbers [] true is prints none = absurd (let never : true ≡ false = is in cc)
prints_marks setting w v n numbers [] false is prints none = refl
prints_marks setting w v n numbers (event ∷ events) true is prints none =
    ap (λ (reports : List (BrickId × Report)). marks_text (new_marks w v) ++ reports_text reports) none ∙ append-nil (marks_text (new_marks w v)) ∙ sym prints
prints_marks setting w v n numbers (event ∷ events) false is prints none = absurd (let never : false ≡ true = is in cc)

-- the line of an operation that has run alone
pub run_comes : (layout : Layout) (is : IsLayout layout) (w : World) (mark : ℕ) (numbers : List ℕ) (disks : List MemDisk) (state : Simulation) (some : Bool)
    → IsReachedBy layout w → IsCalm (coding layout) w (operation_marked w mark) (map brick_of numbers)
    → (events : List Event) → HasRun layout w (operation_marked w mark) (map brick_of numbers) disks state some events
    → ComesTo layout w disks state (Calm mark numbers) (if some then Marks else Idle) events
run_comes layout is w mark numbers disks state some reached may events has =
    let n : ℕ = operation_marked w mark in
    let after : has.last ≡ run (coding layout) events w = runs_run (coding layout) n (map brick_of numbers) w has.last events has.runs in
    let runs = subst (λ (v : World). RunsAlone (coding layout) n (map brick_of numbers) w events v) after has.runs in
    record {
      are = inl (record {
        may = may;
        runs = runs;
        over = over_alone layout is mark (map brick_of numbers) w (run (coding layout) events w) events reached may runs;
        leaves = leaves_own layout is mark (map brick_of numbers) w (run (coding layout) events w) events reached may runs;
      });
      shows = subst (λ (v : World). Shows layout state v) after has.shows;
      prints =
          prints_marks (coding layout) w (run (coding layout) events w) mark numbers events some has.some_is
          (subst (λ (v : World). text_of (coding layout) w events ≡ marks_text (new_marks w v)) after has.prints)
          (subst (λ (v : World). new_reports w v ≡ []) after
          (ap (drop (length w.choices.reports)) has.reports ∙ drop_all (length w.choices.reports) w.choices.reports (omega arith)));
      kept = has.kept;
    }

-- no memory was left for an operation to run alone to its end
pub begun_refused : (layout : Layout) (w : World) (disks : List MemDisk) (new : Simulation) (mark : ℕ) (numbers : List ℕ)
    → IsCalm (coding layout) w (operation_marked w mark) (map brick_of numbers)
    → (events : List Event) → HasBegun layout w (operation_marked w mark) (map brick_of numbers) disks new events
    → StopsAt layout w disks new (Calm mark numbers) events
begun_refused layout w disks new mark numbers may events has =
    let n : ℕ = operation_marked w mark in
    let after : has.last ≡ run (coding layout) events w = begins_run (coding layout) n (map brick_of numbers) w has.last events has.begins in
    record {
      are = record { may = may; last = has.last; begins = has.begins };
      shows = subst (λ (v : World). Shows layout new v) after has.shows;
      kept = has.kept;
    }

-- so every scrub of a run ends that runs alone
pub lone_scrubs_end : (r : Run) → IsLayout r.layout → LoneScrubsEnd r
lone_scrubs_end r is before events brick group stripe members all =
    scrubs_end (coding r.layout) before events brick group stripe members (coding_is_sound r.layout is)
    (λ m content seat. length-coded_block m r.layout.block content seat) is.few_records
