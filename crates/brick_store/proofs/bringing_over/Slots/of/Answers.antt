-- A number that has none gets the next slot.
use Rattle.std.proofs.Common.{◌≡◌, ◌<◌, length, get_or, sym, ◌∙◌}
use Rattle.std.proofs.lemmas.List.{get_or_read}
use Rattle.brick_store.proofs.MovingBlocks.{given_next, slot_next}
use Rattle.brick_store.proofs.bringing_over.Slots.of.Goals as goal

pub returns-clause-given : goal.returns-clause-given
returns-clause-given c = λ given are.
    let self = c.args.self.now in
    let within : c.args.number < length self.moved.items = c.requires.named c.if-number-eq-ZERO_SLOT.false in
    let free : get_or self.moved.items c.args.number 0 ≡ 4294967295 =
    sym (get_or_read self.moved.items c.args.number c.index-slot.result.now within c.index-slot.ensures 0) ∙ c.if-slot.false in
    given_next given self.moved.items self.next c.args.number c.if-number-eq-ZERO_SLOT.false within c.requires.few free are

pub returns-clause-slot : goal.returns-clause-slot
returns-clause-slot c = λ given are.
    let self = c.args.self.now in
    let within : c.args.number < length self.moved.items = c.requires.named c.if-number-eq-ZERO_SLOT.false in
    let free : get_or self.moved.items c.args.number 0 ≡ 4294967295 =
    sym (get_or_read self.moved.items c.args.number c.index-slot.result.now within c.index-slot.ensures 0) ∙ c.if-slot.false in
    slot_next given self.moved.items self.next c.args.number c.if-number-eq-ZERO_SLOT.false within c.requires.few free are
