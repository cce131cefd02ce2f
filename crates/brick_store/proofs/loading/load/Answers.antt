-- What was read is what the slots say.
use Rattle.std.proofs.Common.{rules, sym, subst, arith}
use Rattle.brick_state.specs.Folds.{Limits}
use Rattle.brick_state.specs.KeptStates.{IsKeptState}
use Rattle.brick_state.specs.Indexes.{state_of}
use Rattle.brick_state.specs.Indexes as indexes
use Rattle.brick_store.proofs.Loads.{kept_in_shape, loaded_if, inside_from}
use Rattle.brick_store.proofs.loading.load.Goals as goal

pub read_blocks-requires-clause-kept : goal.read_blocks-requires-clause-kept
read_blocks-requires-clause-kept g c =
    let d = g.D.Disk in
    subst (λ (limits : Limits). IsKeptState limits (state_of c.args.folded.now.index)) (sym c.requires.folded.fold.0)
    (kept_in_shape d.tells d.seen c.args.frames.now (state_of c.args.folded.now.index) c.args.folded.now.whole c.requires.folded.fold.1)

pub returns-clause-no_slot : goal.returns-clause-no_slot
returns-clause-no_slot g c = λ told no.
    let d = g.D.Disk in
    c.read_blocks.ensures.no_slot no (inside_from d.tells d.seen c.args.frames.now (state_of c.args.folded.now.index) c.args.folded.now.whole
    c.requires.folded.fold.1 c.requires.folded.form (c.requires.folded.read told c.requires.folded.runs))

pub returns-clause-loaded : goal.returns-clause-loaded
returns-clause-loaded g c =
    let d = g.D.Disk in
    loaded_if d.tells d.seen c.args.frames.now (state_of c.args.folded.now.index) c.args.folded.now.whole c.requires.folded.fold.1
    (indexes.limits_of c.args.folded.now.index) c.read_blocks.result c.requires.folded.fold.0
    c.read_blocks.ensures.held c.read_blocks.ensures.read (λ told. c.requires.folded.read told c.requires.folded.runs) (omega arith)

pub returns-then-boot : goal.returns-then-boot
returns-then-boot g c = search rules
