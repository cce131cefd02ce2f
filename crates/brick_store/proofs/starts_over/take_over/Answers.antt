-- What an old list made is brought over and counted.
use Rattle.std.proofs.Common.{rules, ◌≡◌, ◌<◌, ℕ, List, length, sym, ap, subst, ◌∙◌, arith}
use Rattle.std.specs.Prelude.{replicate}
use Rattle.std.proofs.lemmas.Result.{err_from_is_err_and}
use Rattle.std.proofs.lemmas.Grind.{common_steps}
use Rattle.fab_disk.specs.Changing.{End}
use Rattle.frame_store.specs.declared.frames.Frame.{Frame}
use Rattle.frame_store.specs.declared.shapes.Form.TheVariants.{Moved}
use Rattle.frame_store.specs.declared.shapes.Shape.{Shape}
use Rattle.frame_store.specs.Images.{AreBlocks}
use Rattle.frame_store.specs.Layouts.{formed}
use Rattle.frame_store.specs.Listed.{size_of}
use Rattle.version_log.specs.Versions.{Version}
use Rattle.brick_state.specs.Entries.{Entry}
use Rattle.brick_state.specs.States.{StateOf}
use Rattle.brick_state.specs.Folds.{Limits}
use Rattle.brick_state.specs.Indexes.{state_of}
use Rattle.brick_state.specs.Indexes as indexes
use Rattle.brick_state.specs.KeptStates.{IsKeptState}
use Rattle.brick_store.specs.Blocks.{cached, resolved}
use Rattle.brick_store.specs.BringingOver.{IsAmong, IsBroughtTo, LiesIn, cut_block}
use Rattle.brick_store.specs.BlockTables.{SlotBlocks}
use Rattle.brick_store.specs.Openings.{StartsOver, memory_limits}
use Rattle.brick_store.specs.ReadStores.{old_state_of}
use Rattle.brick_store.specs.Standing.{AllSlots, IsCached}
use Rattle.brick_store.proofs.OldStarts.{untouched_over}
use Rattle.brick_store.proofs.OldTaken.{over_blocks, over_counted, over_fits, over_listed, over_stands}
use Rattle.brick_store.proofs.OpeningLaws.{start_ends}
use Rattle.brick_store.proofs.Resolving.{boot-resolved}
use Rattle.brick_store.proofs.starts_over.take_over.Given.{Over}
use Rattle.brick_store.proofs.starts_over.take_over.Goals.{After-deref}
use Rattle.brick_store.proofs.starts_over.take_over.Goals as goal

-- what was brought over, in words of a store of these sizes and of what its frames made
in_shape : (shape : Shape) {size records : ℕ} {st found : StateOf Version} {limits : Limits} {now : StateOf Entry} {blocks : SlotBlocks} {bytes : List ℕ}
    {frames : List Frame} → size ≡ shape.block → records ≡ shape.records → st ≡ found → IsBroughtTo size records st limits now blocks bytes frames
    → IsBroughtTo shape.block shape.records found limits now blocks bytes frames
in_shape shape {size} {records} {st} {found} {limits} {now} {blocks} {bytes} {frames} size_is records_are st_is over =
    subst (λ (s : StateOf Version). IsBroughtTo shape.block shape.records s limits now blocks bytes frames) st_is
    (subst (λ (n : ℕ). IsBroughtTo shape.block n st limits now blocks bytes frames) records_are
    (subst (λ (n : ℕ). IsBroughtTo n records st limits now blocks bytes frames) size_is over))

-- a store that was opened less often than it can be
boots_few : (block : ℕ → List ℕ) (index : StateOf Entry) (st : StateOf Version) → st ≡ resolved block index → index.boot < 4294967295 → st.boot < 4294967295
boots_few block index st is few = omega (arith, few, boot-resolved block index, ap (λ (s : StateOf Version). s.boot) is)

-- what this store is brought over to
over : (g : Over) (c : After-deref g)
    → IsBroughtTo c.args.frames.now.shape.block c.args.frames.now.shape.records
    (old_state_of c.args.frames.now) (indexes.limits_of c.in_ok-brought.brought.index)
    (state_of c.in_ok-brought.brought.index) c.in_ok-brought.brought.blocks c.in_ok-brought.brought.bytes.items c.in_ok-brought.brought.frames
over g c =
    in_shape c.args.frames.now.shape c.requires.folded.block c.requires.folded.records
    (ap (λ (n : ℕ). resolved (cached n c.args.folded.blocks) (state_of c.args.folded.index)) c.requires.folded.block ∙ sym c.requires.folded.fold.1.found)
    c.in_ok-brought.ensures.over

few : (g : Over) (c : After-deref g)
    → (old_state_of c.args.frames.now).boot < 4294967295
few g c =
    let below : (state_of c.args.folded.index).boot < 4294967295 =
    (let other = c.if-boot.false in let same = c.boot.ensures in let fits = c.boot.type_inv in omega (arith, other, same, fits)) in
    boots_few (cached c.args.frames.now.shape.block c.args.folded.blocks) (state_of c.args.folded.index) _ c.requires.folded.fold.1.found below

-- ---- refused

pub returns-then-boot-clause-starts : goal.returns-then-boot-clause-starts
returns-then-boot-clause-starts g c =
    untouched_over g.D.Disk g.met.D.Disk.only_now g.met.D.Disk.counts_now c.args.frames.now c.requires.folded.form

pub returns-then-boot-clause-worn : goal.returns-then-boot-clause-worn
returns-then-boot-clause-worn g c =
    let boot = ap (λ (s : StateOf Version). s.boot) c.requires.folded.fold.1.found in
    let same = boot-resolved (cached c.args.frames.now.shape.block c.args.folded.blocks) (state_of c.args.folded.index) in
    search (rules, boot, same)

pub returns-in_err-vec-clause-starts : goal.returns-in_err-vec-clause-starts
returns-in_err-vec-clause-starts g c =
    let p = err_from_is_err_and c.from_residual.result c.from_residual.ensures.1 in
    rw (p.1, p.2) (untouched_over g.D.Disk g.met.D.Disk.only_now g.met.D.Disk.counts_now c.args.frames.now c.requires.folded.form)

pub returns-in_err-brought-clause-starts : goal.returns-in_err-brought-clause-starts
returns-in_err-brought-clause-starts g c =
    let p = err_from_is_err_and c.from_residual-in_err-brought.result c.from_residual-in_err-brought.ensures.1 in
    rw (p.1, p.2) (untouched_over g.D.Disk g.met.D.Disk.only_now g.met.D.Disk.counts_now c.args.frames.now c.requires.folded.form)

-- ---- what it is brought over to

pub bring_over-requires : goal.bring_over-requires
bring_over-requires g c = record {
  kept = subst (λ (n : ℕ). IsKeptState (memory_limits n) (state_of c.args.folded.index)) (sym c.requires.folded.records) c.requires.folded.fold.1.kept;
  held = subst (λ (n : ℕ). AllSlots (IsCached n c.args.folded.blocks) (state_of c.args.folded.index)) (sym c.requires.folded.block) c.requires.folded.fold.1.held;
  members = c.requires.folded.fold.1.members;
  limits = c.requires.folded.fold.0 ∙ ap memory_limits (sym c.requires.folded.records);
}

-- ---- it is brought over

pub start_over-requires : goal.start_over-requires
start_over-requires g c =
    let shape = c.args.frames.now.shape in
    let at = (goal.at.start_over-requires g c).After-deref in
    let over = over g at in
    record {
      limits = over.limits_are;
      runs = c.requires.folded.runs;
      read = c.requires.folded.read;
      keeps = record {
        shape = c.requires.folded.shape;
        form = c.requires.folded.form;
        are = subst (λ (bytes : List ℕ). AreBlocks shape (length c.in_ok-brought.brought.frames) bytes) (sym c.deref.ensures.value)
            (over_blocks shape _ _ _ _ _ _ over);
        fits = over_fits shape _ _ _ _ _ _ over;
        leads = over.leads;
        slots = subst (λ (bytes : List ℕ). AllSlots (IsAmong shape.block (length bytes)) (state_of c.in_ok-brought.brought.index)) (sym c.deref.ensures.value)
            over.among;
        state = ap (λ (bytes : List ℕ). resolved (cut_block shape.block bytes) (state_of c.in_ok-brought.brought.index)) c.deref.ensures.value ∙ over.state;
        boots = omega (
          arith,
          few g at,
          boot-resolved (cut_block shape.block c.in_ok-brought.brought.bytes.items) (state_of c.in_ok-brought.brought.index),
          ap (λ (s : StateOf Version). s.boot) over.state,
        );
      };
    }

-- ---- it was brought over, or that failed

pub returns-in-Ok-clause-standing : goal.returns-in-Ok-clause-standing
returns-in-Ok-clause-standing g c =
    let old = c.args.frames.now in
    let here = c.in-Ok.ensures in
    let zero_is : c.from_vec-zero.result ≡ replicate old.shape.block 0 = grind (arith, common_steps, c.requires.folded.block) in
    over_stands old.shape _ _ _ _ _ _ (over g (goal.at.returns-in-Ok-clause-standing g c).After-deref) g.D.Disk
    c.start_over.new.frames c.start_over.new.index c.from_vec-zero.result here.shape c.requires.folded.shape zero_is c.start_over.ensures.limits here.made here.leads
    here.settled
    (λ told. subst (λ (bytes : List ℕ). AllSlots (LiesIn (formed Moved old.shape) bytes (g.D.Disk.seen c.start_over.new.frames.disk))
    (state_of c.in_ok-brought.brought.index)) c.deref.ensures.value (here.lie told))

pub returns-in-Ok-clause-boots : goal.returns-in-Ok-clause-boots
returns-in-Ok-clause-boots g c = λ ok. few g (goal.at.returns-in-Ok-clause-boots g c).After-deref

pub returns-in-Ok-clause-state : goal.returns-in-Ok-clause-state
returns-in-Ok-clause-state g c =
    over_counted c.args.frames.now.shape _ _ _ _ _ _ (over g (goal.at.returns-in-Ok-clause-state g c).After-deref) (state_of c.start_over.new.index)
    c.in-Ok.ensures.made

pub returns-in-Ok-clause-listed : goal.returns-in-Ok-clause-listed
returns-in-Ok-clause-listed g c = λ ok.
    over_listed c.args.frames.now.shape _ _ _ _ _ _ (over g (goal.at.returns-in-Ok-clause-listed g c).After-deref) (size_of c.args.frames.now.frames)
    (size_of c.start_over.new.frames.frames) c.in-Ok.ensures.listed

pub returns-in-Err-clause-starts : goal.returns-in-Err-clause-starts
returns-in-Err-clause-starts g c =
    let old = c.args.frames.now in
    rw c.refusal_of.ensures (subst (λ (end : End). StartsOver g.D.Disk (old_state_of old) old
    c.start_over.new.frames.disk end) (start_ends c.in-Err.fault) c.in-Err.ensures.starts)
