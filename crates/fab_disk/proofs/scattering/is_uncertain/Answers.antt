use Rattle.std.proofs.Common.{◌≡◌, Bool, ◌||◌, ◌++◌, [], ◌∷◌, List, reverse, sym, ◌∙◌, ap}
use Rattle.std.proofs.lemmas.List.{nil_from_length}
use Rattle.fab_disk.specs.Past.{past_of}
use Rattle.fab_disk.specs.Settled.{is_uncertain}
use Rattle.fab_disk.specs.declared.medium.Step.{Step}
use Rattle.fab_disk.proofs.Uncertain.{uncertain_wrote, uncertain_synced}
use Rattle.fab_disk.proofs.scattering.is_uncertain.Goals as goal

pub loop-step-preserved : goal.loop-step-preserved
loop-step-preserved c =
    let split = c.in-Some.ensures.cases.0 ∙ ap (λ (s : Step). c.in-Some.older.now ++ s ∷ []) c.in-Wrote.is in
    let more = ap (λ (s : List Step). is_uncertain (past_of (reverse s) []) c.loop-step.end c.args.place) split
    ∙ uncertain_wrote c.in-Some.older.now c.in-Wrote.write c.loop-step.end c.args.place
    ∙ ap (λ (t : Bool). t || is_uncertain (past_of (reverse c.in-Some.older.now) []) c.in-Wrote.write.length_before c.args.place)
    (sym c.covers.ensures ∙ c.if-covers.false) in
    let so_far : is_uncertain (past_of (reverse c.loop-step.newer.now) []) c.loop-step.end c.args.place ≡ is_uncertain
    (past_of (reverse c.args.steps.now) []) c.args.size c.args.place = c.loop-step.invariant in
    sym more ∙ so_far

pub returns-in-Synced : goal.returns-in-Synced
returns-in-Synced c =
    let split = c.in-Some.ensures.cases.0 ∙ ap (λ (s : Step). c.in-Some.older.now ++ s ∷ []) c.in-Synced.is in
    let more = ap (λ (s : List Step). is_uncertain (past_of (reverse s) []) c.loop-step.end c.args.place) split
    ∙ uncertain_synced c.in-Some.older.now c.loop-step.end c.args.place in
    let so_far : is_uncertain (past_of (reverse c.loop-step.newer.now) []) c.loop-step.end c.args.place ≡ is_uncertain
    (past_of (reverse c.args.steps.now) []) c.args.size c.args.place = c.loop-step.invariant in
    sym more ∙ so_far

pub returns-then-covers : goal.returns-then-covers
returns-then-covers c =
    let split = c.in-Some.ensures.cases.0 ∙ ap (λ (s : Step). c.in-Some.older.now ++ s ∷ []) c.in-Wrote.is in
    let more = ap (λ (s : List Step). is_uncertain (past_of (reverse s) []) c.loop-step.end c.args.place) split
    ∙ uncertain_wrote c.in-Some.older.now c.in-Wrote.write c.loop-step.end c.args.place
    ∙ ap (λ (t : Bool). t || is_uncertain (past_of (reverse c.in-Some.older.now) []) c.in-Wrote.write.length_before c.args.place)
    (sym c.covers.ensures ∙ c.if-covers.true) in
    let so_far : is_uncertain (past_of (reverse c.loop-step.newer.now) []) c.loop-step.end c.args.place ≡ is_uncertain
    (past_of (reverse c.args.steps.now) []) c.args.size c.args.place = c.loop-step.invariant in
    sym more ∙ so_far

pub returns : goal.returns
returns c =
    let none : c.loop-step.newer.now ≡ [] = nil_from_length c.loop-step.newer.now c.in_default.ensures.cases in
    let so_far : is_uncertain (past_of (reverse c.loop-step.newer.now) []) c.loop-step.end c.args.place ≡ is_uncertain
    (past_of (reverse c.args.steps.now) []) c.args.size c.args.place = c.loop-step.invariant in
    sym (ap (λ (s : List Step). is_uncertain (past_of (reverse s) []) c.loop-step.end c.args.place) none) ∙ so_far
