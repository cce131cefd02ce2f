-- One frame more is folded, up to the first that can't be.
use Rattle.std.proofs.Common.{◌≡◌, ◌∙◌, ◌++◌, ◌∷◌, [], Bool, Result, Ok, Err, OnOk, rules, true, false, refl, sym, ap, subst}
use Rattle.frame_store.specs.Listed.{frame_of}
use Rattle.brick_state.specs.Folds.{Limits}
use Rattle.brick_state.specs.Indexes.{state_of, limits_of}
use Rattle.brick_store.specs.declared.old_readings.Sizes.{Sizes}
use Rattle.brick_store.specs.Images.{limits_for}
use Rattle.brick_store.specs.Openings.{EndsBefore, IsTaken, Makes}
use Rattle.brick_store.proofs.OldReading.{makes_past}
use Rattle.brick_store.proofs.Reading.{fold_more}
use Rattle.brick_store.proofs.readings.FoldedTakesFrames.take.Goals as goal

pub returns-then-not-self : goal.returns-then-not-self
returns-then-not-self c = λ first old frames so_far.
    let self = c.args.self.now in
    let ended : self.whole ≡ false = search rules in
    let makes = makes_past old first.sizes.block first.sizes.records frames (frame_of c.args.kind c.args.body.now) (limits_of self.index) (state_of self.index)
    self.blocks self.whole ended so_far.2 in
    (so_far.0, so_far.1, makes)

-- a frame of the old format
pub returns-then-self : goal.returns-then-self
returns-then-self c = if_ok c.take_old.result c.take_old.ensures.makes (λ makes first old frames so_far.
    let self = c.args.self.now in
    let new = c.take_old.new.self in
    let frame = frame_of c.args.kind c.args.body.now in
    let whole : self.whole ≡ true = search rules in
    let was : self.of_old ≡ true = search rules in
    let is : true ≡ old = sym was ∙ so_far.0 in
    let here = subst (λ (w : Bool). Makes self.sizes.block self.sizes.records true frames (limits_of self.index) (state_of self.index) self.blocks w) whole
    (subst (λ (b : Bool). Makes self.sizes.block self.sizes.records b frames (limits_of self.index) (state_of self.index) self.blocks self.whole) (sym is)
    (subst (λ (s : Sizes). Makes s.block s.records old frames (limits_of self.index) (state_of self.index) self.blocks self.whole) (sym so_far.1) so_far.2)) in (
      c.take_old.ensures.sizes.1 ∙ so_far.0,
      c.take_old.ensures.sizes.0 ∙ so_far.1,
      subst (λ (s : Sizes). Makes s.block s.records old (frames ++ frame ∷ []) (limits_of new.index) (state_of new.index) new.blocks new.whole) so_far.1
          (subst (λ (b : Bool). Makes self.sizes.block self.sizes.records b (frames ++ frame ∷ []) (limits_of new.index) (state_of new.index) new.blocks new.whole)
          is (makes frames here)),
    ))
  where
    if_ok : {E P Q : Type 0} (r : Result (Unit {0}) E) → OnOk r P → (P → Q) → OnOk r Q
    if_ok (Ok value) here then = then here
    if_ok (Err fault) here then = tt

-- a frame of the new format
pub returns : goal.returns
returns c = λ first old frames so_far.
    let self = c.args.self.now in
    let here = c.in_ok-self.ensures in
    let frame = frame_of c.args.kind c.args.body.now in
    let st = state_of self.index in
    let next = state_of c.take_frame.new.index in
    let new : self.of_old ≡ false = search rules in
    let is : false ≡ old = sym new ∙ so_far.0 in
    let before = subst (λ (b : Bool). Makes first.sizes.block first.sizes.records b frames (limits_of self.index) st self.blocks self.whole) (sym is) so_far.2 in
    let limits : limits_of self.index ≡ limits_for first.sizes.records = before.0 in
    let fold = fold_more (limits_for first.sizes.records) frames frame st next self.whole c.in_ok-self.field-0 (search rules) before.1
    (λ is. subst (λ (l : Limits). IsTaken l frame st next) limits (here.takes.taken (ap Ok is)))
    (λ is. subst (λ (l : Limits). EndsBefore l frame st next) limits (here.takes.ended (ap Ok is)))
    (here.takes.members refl before.1.members) in
    let makes = subst (λ (b : Bool). Makes first.sizes.block first.sizes.records b (frames ++ frame ∷ []) (limits_of c.take_frame.new.index) next
    self.blocks c.in_ok-self.field-0) is (here.limits ∙ limits, fold) in
    (so_far.0, so_far.1, makes)
