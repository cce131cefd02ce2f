-- What a brick hears of a view that is synced is the machine's step.
use Rattle.std.proofs.Common.{sym, ◌∙◌}
use Rattle.messages.specs.declared.packets.Message.{Message}
use Rattle.replica.specs.Handling.{me_of, unanswered}
use Rattle.replica.proofs.Keeping.{synced_left, synced_kept}
use Rattle.replica.proofs.views.on_synced.Goals as goal

pub returns-then-not-is_to_note : goal.returns-then-not-is_to_note
returns-then-not-is_to_note g c from =
    let both = synced_left g.D.Disk g.met.D.Disk.only_now c.args.store.now c.requires.runs c.args.layout.now (me_of c.args.store.now) from c.args.group
    c.args.view (sym c.is_to_note.ensures.notes ∙ c.if-not-is_to_note.true) in
    record { handles = both.handles; change = both.change }

pub returns : goal.returns
returns g c from =
    let old = c.args.store.now in
    let to_note = sym c.is_to_note.ensures.notes ∙ c.if-not-is_to_note.false in
    let both = synced_kept g.D.Disk g.met.D.Disk.only_now old c.requires.runs c.args.layout.now (me_of old) from c.args.group c.args.view
    (c.is_to_note.ensures.few c.if-not-is_to_note.false) to_note (c.is_to_note.ensures.known c.if-not-is_to_note.false) c.synced.new.self c.synced.result
    (unanswered c.taught.result) (λ reply. Message.Synced c.args.group c.args.view) (c.taught.ensures _) c.synced.ensures.change c.synced.ensures.answer in
    record { handles = both.handles; change = both.change }
