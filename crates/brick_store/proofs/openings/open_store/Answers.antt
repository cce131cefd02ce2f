-- What was opened is what the disk held, counted.
use Rattle.std.proofs.Common.{◌≡◌, ℕ, true, false, List, ◌∙◌, Result, Ok, Err, refl, sym, ap, subst}
use Rattle.std.specs.Prelude.{IfOk, IfErr}
use Rattle.fab_disk.specs.Changing.{End, Whole}
use Rattle.frame_store.specs.declared.shapes.Shape.{Shape}
use Rattle.frame_store.specs.Images.{OpensAs}
use Rattle.frame_store.specs.declared.shapes.Form.TheVariants.{New}
use Rattle.frame_store.specs.Layouts.{shape_of, formed, is_old}
use Rattle.frame_store.specs.Listed.{size_of}
use Rattle.frame_store.proofs.Stills.{still_none}
use Rattle.version_log.specs.Versions.{Version}
use Rattle.brick_state.specs.Entries.{Entry}
use Rattle.brick_state.specs.States.{StateOf, empty, live}
use Rattle.brick_state.specs.Indexes.{state_of}
use Rattle.brick_store.specs.Blocks.{resolved, cached}
use Rattle.brick_store.specs.Openings.{IsCounted, IsListedOnOpening, IsWornOut, Opens, Starts, disk_in, end_in, found_in, is_whole, stopped_by}
use Rattle.brick_store.specs.Images.{limits_of}
use Rattle.brick_store.specs.Lengths.{IsAppended}
use Rattle.brick_store.proofs.OldOpenings.{over_counted, over_listed_on, over_opens, over_worn}
use Rattle.brick_store.proofs.Opened.{found_there, worn_there}
use Rattle.brick_store.proofs.KeptLogs.{standing_stands}
use Rattle.brick_store.proofs.Lengths.{counted_there}
use Rattle.brick_store.proofs.Resolving.{live-resolved}
use Rattle.brick_store.proofs.OpeningLaws.{read_meant, refused_opens, started_opens}
use Rattle.brick_store.proofs.openings.open_store.Given.{Over}
use Rattle.brick_store.proofs.openings.open_store.Goals.{After-take_up}
use Rattle.brick_store.proofs.openings.open_store.Goals as goal

pub returns-in-Err-clause-opens : goal.returns-in-Err-clause-opens
returns-in-Err-clause-opens g c =
    refused_opens g.D.Disk g.met.D.Disk.only_now _ c.args.disk c.args.disk c.from.result ⊥ (still_none g.D.Disk c.args.disk) (λ is. cc)

pub returns-in-Err-opened-clause-opens : goal.returns-in-Err-opened-clause-opens
returns-in-Err-opened-clause-opens g c =
    refused_opens g.D.Disk g.met.D.Disk.only_now _ c.args.disk c.in-Err-opened.disk _ _ c.in-Err-opened.ensures.still_err
    (λ is. read_meant c.in-Err-opened.fault (sym c.from-in-Err-opened.ensures ∙ is))

-- ---- a store of the new format

-- its list has its blocks in slots
slotted_so : (g : Over) (c : After-take_up g) → is_old c.in-Ok-opened.frames.shape ≡ false
slotted_so g c = sym c.is_old.ensures ∙ c.if-is_old.false

-- its opening, in the words of what the disk stands for
opens_so : (g : Over) (c : After-take_up g) (end : End) → (let held = c.in-Ok-opened.frames in
    Starts g.D.Disk (is_whole (limits_of held.shape) held.frames empty) (found_in held.shape held.frames) held c.take_up.new.frames.disk end)
    → Opens g.D.Disk (shape_of c.args.me.0 c.args.block c.args.records) c.args.disk c.take_up.new.frames.disk end
opens_so g c end starts =
    let here = c.in-Ok-opened.ensures in
    subst (λ (s : Shape). Opens g.D.Disk s c.args.disk c.take_up.new.frames.disk end) (ap (formed New) here.shape)
    (started_opens g.D.Disk g.met.D.Disk.only_now g.met.D.Disk.counts_now c.args.disk c.take_up.new.frames.disk c.in-Ok-opened.frames _ _
    (λ told. here.read told here.runs) (slotted_so g c) here.still here.certain starts)

pub returns-in-Ok-take_up : goal.returns-in-Ok-take_up
returns-in-Ok-take_up g c =
    let at = (goal.at.returns-in-Ok-take_up g c).After-take_up in
    let held = c.in-Ok-opened.frames in
    let here = c.in-Ok-opened.ensures in
    let image = g.D.Disk.seen c.args.disk in
    let made = c.in-Ok-take_up.ensures in
    let taken = c.in-Ok-take_up.taken in
    let size = c.take_up.new.frames.shape.block in
    record {
      shape = ap (formed New) (made.shape ∙ here.shape);
      runs = made.still_runs refl;
      found = λ told. subst (λ (s : Shape). IsCounted s image (resolved (cached size taken.blocks) (state_of taken.index))) (ap (formed New) here.shape)
          (found_there g.D.Disk.seen held (here.read told here.runs) (slotted_so g at) image here.still.untouched.content taken.blocks size
          (state_of taken.index) (ap (λ (s : Shape). s.block) made.shape) (made.stored told) made.state (made.boots refl));
      stands = λ told. standing_stands g.D.Disk taken.blocks taken.zero c.take_up.new.frames taken.index made.standing told (made.still_runs refl);
      listed = λ told. counted_there held _ image c.take_up.new.frames.shape _ (slotted_so g at)
          (subst (λ (image : List ℕ). OpensAs held.shape held.frames held.closed image) here.still.untouched.content (here.read told here.runs).opens)
          made.shape (live-resolved (cached size taken.blocks) (state_of taken.index) ∙ ap (λ (s : StateOf Entry). live s) made.state) (made.listed refl);
      opens = opens_so g at Whole made.starts;
      not_a_store = tt;
      worn = tt;
    }

pub returns-in-Err-take_up-clause-opens : goal.returns-in-Err-take_up-clause-opens
returns-in-Err-take_up-clause-opens g c =
    subst (λ (last : g.row.D.Denot). Opens g.D.Disk (shape_of c.args.me.0 c.args.block c.args.records) c.args.disk last (stopped_by c.in-Err-take_up.fault))
    (sym c.into_disk.ensures) (opens_so g (goal.at.returns-in-Err-take_up-clause-opens g c).After-take_up _ c.in-Err-take_up.ensures.starts)

pub returns-in-Err-take_up-clause-worn : goal.returns-in-Err-take_up-clause-worn
returns-in-Err-take_up-clause-worn g c = λ is told.
    let seen = g.D.Disk.seen in
    let here = c.in-Ok-opened.ensures in
    subst (λ (s : Shape). IsWornOut s (seen c.args.disk)) (ap (formed New) here.shape)
    (worn_there seen c.in-Ok-opened.frames (here.read told here.runs) (slotted_so g (goal.at.returns-in-Err-take_up-clause-worn g c).After-take_up)
    (seen c.args.disk) here.still.untouched.content (c.in-Err-take_up.ensures.worn (ap Err is)))

-- ---- an old store

module _ {T E : Type 0} where
  if_both : (r : Result T E) (P Q R : T → Type 0) → IfOk r P → IfOk r Q → ((value : T) → P value → Q value → R value) → IfOk r R
  if_both (Ok value) P Q R first second then = then value first second
  if_both (Err fault) P Q R first second then = tt

  if_ok : (r : Result T E) (P R : T → Type 0) → IfOk r P → ((value : T) → P value → R value) → IfOk r R
  if_ok r P R first then = if_both r P P R first first (λ value a b. then value a)

  if_err : (r : Result T E) (P R : E → Type 0) → IfErr r P → ((fault : E) → P fault → R fault) → IfErr r R
  if_err (Ok value) P R first then = tt
  if_err (Err fault) P R first then = then fault first

pub returns-then-is_old : goal.returns-then-is_old
returns-then-is_old g c =
    let d = g.D.Disk in
    let image = d.seen c.args.disk in
    let held = c.in-Ok-opened.frames in
    let here = c.in-Ok-opened.ensures in
    let shape = ap (formed New) here.shape in
    let old : is_old held.shape ≡ true = sym c.is_old.ensures ∙ c.if-is_old.true in
    let answer = c.open_over.result in
    let over = c.open_over.ensures in
    record {
      shape = if_ok answer _ _ over.shape (λ store is. is ∙ shape);
      runs = over.runs;
      found = if_both answer _ _ _ over.state over.boots (λ store state boots told.
          subst (λ (s : Shape). IsCounted s image store.state) shape
          (over_counted d.seen held (here.read told here.runs) old image here.still.untouched.content store.state state boots));
      stands = over.stands;
      listed = if_both answer _ _ _ over.listed
          (if_both answer _ _ (λ store. (store.shape ≡ formed New held.shape) × (store.state ≡ _)) over.shape over.state (λ store shape state. (shape, state)))
          (λ store listed is told. subst (λ (s : Shape). IsListedOnOpening s image (live store.state) store.listed) (sym is.0)
          (over_listed_on d.seen held (here.read told here.runs) old image here.still.untouched.content (live store.state) store.listed
          (subst (λ (n : ℕ). IsAppended false n (size_of held.frames) 4 store.listed) (sym (ap (λ (s : StateOf Version). live s) is.1)) listed)));
      opens = subst (λ (s : Shape). Opens d s c.args.disk (disk_in answer) (end_in answer)) shape
          (over_opens d g.met.D.Disk.only_now g.met.D.Disk.counts_now c.args.disk (disk_in answer) held (end_in answer) _
          (λ told. here.read told here.runs) old here.still here.certain over.starts);
      not_a_store = if_err answer _ _ over.a_store (λ refused never is. absurd (never is));
      worn = if_err answer _ _ over.worn (λ refused worn is told. subst (λ (s : Shape). IsWornOut s image) shape
          (over_worn d.seen held (here.read told here.runs) old image here.still.untouched.content (worn is)));
    }
