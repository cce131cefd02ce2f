-- Operations are numbered without gaps, in the order of their Begins.
use Rattle.std.proofs.Common.{◌≡◌, ℕ, ◌+◌, ⊎_elim, List, [], ◌∷◌, ◌++◌, length, Some, refl, sym, ap, ◌∙◌, append-nil}
use Rattle.std.specs.Prelude.{slice_get}
use Rattle.std.proofs.lemmas.List.{length_push}
use Rattle.reg_model.specs.declared.marks.Mark.{Mark}
use Rattle.reg_model.specs.declared.marks.Mark.TheVariants.{Begin, End, Crash}
use Rattle.reg_model.specs.Marks.{begun_numbers}
use Rattle.protocol.specs.Settings.{Setting}
use Rattle.protocol.specs.Nodes.{proposed, synced_at, scrubbed_at}
use Rattle.protocol.specs.Worlds.{World, Event, run, first_world}
use Rattle.reg_model.proofs.AddedMarks.{begun_numbers-append, slice_get_push}
use Rattle.protocol.proofs.Events.{EventCases, step_on, world_counting, stepped_each, started_each, always}

-- the numbers that have begun are 1, 2, 3 and so on, so many
pub record AreNumbered (marks : List Mark) (begun : ℕ) : Type 0 where
  pub count : length (begun_numbers marks) ≡ begun
  pub each : (k n : ℕ) → slice_get (begun_numbers marks) k ≡ Some n → n ≡ k + 1

-- the numbers of a world's marks
abbrev pub IsNumbered : World → Type 0
IsNumbered w = AreNumbered w.marks w.marked

-- a mark that is no Begin
numbered_on : (marks : List Mark) (mark : Mark) (begun : ℕ) → begun_numbers (mark ∷ []) ≡ [] → AreNumbered marks begun
    → AreNumbered (marks ++ (mark ∷ [])) begun
numbered_on marks mark begun none numbered =
    let same : begun_numbers (marks ++ (mark ∷ [])) ≡ begun_numbers marks
    = begun_numbers-append marks (mark ∷ []) ∙ ap (λ (l : List ℕ). begun_numbers marks ++ l) none ∙ append-nil (begun_numbers marks) in
    record {
      count = ap (λ (l : List ℕ). length l) same ∙ numbered.count;
      each = λ k n is. numbered.each k n (ap (λ (l : List ℕ). slice_get l k) (sym same) ∙ is);
    }

-- a Begin of the next number
numbered_more : (marks : List Mark) (mark : Mark) (begun : ℕ) → begun_numbers (mark ∷ []) ≡ (begun + 1) ∷ [] → AreNumbered marks begun
    → AreNumbered (marks ++ (mark ∷ [])) (begun + 1)
numbered_more marks mark begun one numbered =
    let same : begun_numbers (marks ++ (mark ∷ [])) ≡ begun_numbers marks ++ ((begun + 1) ∷ [])
    = begun_numbers-append marks (mark ∷ []) ∙ ap (λ (l : List ℕ). begun_numbers marks ++ l) one in
    record {
      count = ap (λ (l : List ℕ). length l) same ∙ length_push (begun_numbers marks) (begun + 1) ∙ ap (λ (x : ℕ). x + 1) numbered.count;
      each = λ k n is. ⊎_elim
          (λ (old : slice_get (begun_numbers marks) k ≡ Some n). numbered.each k n old)
          (λ (new : (k ≡ length (begun_numbers marks)) × (begun + 1 ≡ n)). sym new.1 ∙ ap (λ (x : ℕ). x + 1) (sym numbered.count ∙ sym new.0))
          (slice_get_push (begun_numbers marks) (begun + 1) n k (ap (λ (l : List ℕ). slice_get l k) (sym same) ∙ is));
    }

-- what a step tells marks nothing, and each answer marks an end
numbered_cases : (setting : Setting) (w : World) → IsNumbered w → EventCases setting w IsNumbered
numbered_cases setting w numbered = record {
  begins = λ brick ask may. numbered_more w.marks (Begin (length w.marks) (w.marked + 1) brick ask) w.marked refl numbered;
  proposes = λ brick group members may.
      stepped_each IsNumbered setting brick (proposed setting brick (w.nodes brick.0) group members) (λ x seq t base holds. holds)
      (λ x seq v holds. holds) (λ x nodes call holds. holds) (λ x seq cause holds. holds) (λ x one holds. numbered_on x.marks (End (length x.marks) _ one.answer) x.marked refl holds)
      (λ x nodes held packets choices holds. holds) w numbered;
  syncs = λ brick group may.
      stepped_each IsNumbered setting brick (synced_at setting brick (w.clocks brick.0) (w.nodes brick.0) group) (λ x seq t base holds. holds)
      (λ x seq v holds. holds) (λ x nodes call holds. holds) (λ x seq cause holds. holds)
      (λ x one holds. numbered_on x.marks (End (length x.marks) _ one.answer) x.marked refl holds) (λ x nodes held packets choices holds. holds) w numbered;
  scrubs = λ brick group stripe members may.
      stepped_each IsNumbered setting brick (scrubbed_at setting brick (w.clocks brick.0) (w.nodes brick.0) group stripe members) (λ x seq t base holds. holds)
      (λ x seq v holds. holds) (λ x nodes call holds. holds) (λ x seq cause holds. holds)
      (λ x one holds. numbered_on x.marks (End (length x.marks) _ one.answer) x.marked refl holds) (λ x nodes held packets choices holds. holds) w numbered;
  handles = λ number packet at up.
      stepped_each IsNumbered setting packet.to (step_on setting w packet) (λ x seq t base holds. holds) (λ x seq v holds. holds)
      (λ x nodes call holds. holds) (λ x seq cause holds. holds)
      (λ x one holds. numbered_on x.marks (End (length x.marks) _ one.answer) x.marked refl holds) (λ x nodes held packets choices holds. holds)
      (world_counting setting w number packet) numbered;
  sets = λ brick time is. numbered;
  ticks = λ brick up. numbered;
  stops = λ brick during up. numbered_on w.marks (Crash (length w.marks) brick) w.marked refl numbered;
  starts = λ brick openings found may. started_each IsNumbered w brick openings numbered numbered found;
}

-- so in every run
pub always_numbered : (setting : Setting) (events : List Event) → IsNumbered (run setting events (first_world setting.layout))
always_numbered setting events =
    always IsNumbered setting (record { count = refl; each = λ k n is. let never : ⊥ = cc in absurd never }) (numbered_cases setting) events
