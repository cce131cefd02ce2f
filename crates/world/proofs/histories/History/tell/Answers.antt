-- What is told is noted, of the operation of the call, or of one more.
use Rattle.std.proofs.Common.{◌≡◌, Option, Some, refl, sym, subst, ap, ◌∙◌}
use Rattle.std.specs.Prelude.{option_to_list}
use Rattle.fab_base.specs.declared.identities.BrickId.{BrickId}
use Rattle.protocol.specs.declared.tellings.Told.{Told}
use Rattle.protocol.specs.declared.tellings.Told.TheVariants.{Made, Seen, Began, Closed}
use Rattle.world.specs.Noted.{NotesOne, NotesTold}
use Rattle.world.specs.declared.histories.History.{History}
use Rattle.world.proofs.histories.History.tell.Goals as goal

-- one thing is told
noted : (told : Option Told) (brick : BrickId) (one : Told) (old new : History) → told ≡ Some one → NotesOne brick one old new
    → NotesTold brick (option_to_list told) old new
noted told brick one old new is notes =
    subst (λ (t : Option Told). NotesTold brick (option_to_list t) old new) (sym is) (new, notes, refl)

pub returns-in-None-clause-told : goal.returns-in-None-clause-told
returns-in-None-clause-told c =
    subst (λ (t : Option Told). NotesTold c.args.brick (option_to_list t) c.args.self.now c.args.self.now) (sym c.in-None.is) refl

pub returns-in-Some-Made-clause-told : goal.returns-in-Some-Made-clause-told
returns-in-Some-Made-clause-told c =
    let one : c.in-Some-Made.field-0 ≡ Made c.in-Some-Made.seq c.in-Some-Made.stamp c.in-Some-Made.base =
    rw c.in-Some-Made.is at c.in-Some-Made.field-0-is in
    noted c.args.told c.args.brick _ c.args.self.now c.made.new.self (c.in-Some-Made.is ∙ ap Some one) c.made.ensures

pub returns-in-Some-Seen-clause-told : goal.returns-in-Some-Seen-clause-told
returns-in-Some-Seen-clause-told c =
    let one : c.in-Some-Seen.field-0 ≡ Seen c.in-Some-Seen.seq c.in-Some-Seen.stamp = rw c.in-Some-Seen.is at c.in-Some-Seen.field-0-is in
    noted c.args.told c.args.brick _ c.args.self.now c.seen.new.self (c.in-Some-Seen.is ∙ ap Some one) c.seen.ensures

pub returns-in-Some-Closed-clause-told : goal.returns-in-Some-Closed-clause-told
returns-in-Some-Closed-clause-told c =
    let one : c.in-Some-Closed.field-0 ≡ Closed c.in-Some-Closed.seq c.in-Some-Closed.cause = rw c.in-Some-Closed.is at c.in-Some-Closed.field-0-is in
    noted c.args.told c.args.brick _ c.args.self.now c.closed.new.self (c.in-Some-Closed.is ∙ ap Some one) c.closed.ensures

pub returns-in-Some-Began-clause-told : goal.returns-in-Some-Began-clause-told
returns-in-Some-Began-clause-told c =
    let one : c.in-Some-Began.field-0 ≡ Began c.in-Some-Began.call = rw c.in-Some-Began.is at c.in-Some-Began.field-0-is in
    noted c.args.told c.args.brick _ c.args.self.now c.open_read.new.self (c.in-Some-Began.is ∙ ap Some one) c.open_read.ensures
