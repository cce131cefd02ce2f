-- The law of a scrub that runs alone: it ends, clean or repaired.
use Rattle.std.specs.Prelude.{◌≡◌, ◌⊎◌, ◌≤◌, ℕ, true, List, [], ◌∷◌, length, Some, None, is_some, slice_get}
use Rattle.fab_base.specs.declared.identities.BrickId.{BrickId}
use Rattle.fab_base.specs.declared.identities.GroupId.{GroupId}
use Rattle.fab_base.specs.declared.identities.StripeNo.{StripeNo}
use Rattle.messages.specs.declared.calls.Call.{Call}
use Rattle.protocol.specs.Settings.{IsSound, Setting}
use Rattle.protocol.specs.Calms.{IsCalm, next_delivery, open_call}
use Rattle.protocol.specs.Worlds.{World, Event, Scrubs, Delivers, first_world, happens, may_scrub, run}
use Rattle.protocol.specs.declared.tellings.Report.{Report}
use Rattle.protocol.specs.declared.tellings.ScrubAnswer.{ScrubAnswer}
use Rattle.protocol_laws.specs.ScrubEnds.{cause_of}
use Rattle.calm_laws.specs.Laws.{EncodesBlocks, most_records}

-- These events are deliveries, each of the message of operation n among these bricks that is delivered next.
abbrev pub AreAlone : Setting → World → ℕ → List BrickId → List Event → Type 0
AreAlone setting w n bricks [] = Unit {0}
AreAlone setting w n bricks (Delivers number ∷ events) =
    (next_delivery w n bricks ≡ Some number) × AreAlone setting (happens setting w (Delivers number)) n bricks events
AreAlone setting w n bricks (event ∷ events) = ⊥

-- A brick has reported, after its first so many reports of the disk, that its scrub of these members of a stripe ended, and was not aborted: it is clean, or has repaired.
pub record EndedWell (w : World) (reports : ℕ) (brick : BrickId) (group : GroupId) (stripe : StripeNo) (members : List BrickId) : Type 0 where
  pub place : ℕ
  pub since : reports ≤ place
  pub call : Call
  pub answer : ScrubAnswer
  pub is : slice_get w.choices.reports place ≡ Some (brick, Report.Scrub call members answer)
  pub group_is : call.group ≡ group
  pub stripe_is : call.stripe ≡ stripe
  pub well : cause_of answer ≡ None

-- operation n is open, and one more of its messages among these bricks is to be delivered
abbrev pub HasNext : World → ℕ → List BrickId → Type 0
HasNext w n bricks = (is_some (open_call w n) ≡ true) × (is_some (next_delivery w n bricks) ≡ true)

-- A brick is asked in this world to scrub these members of a stripe, and these events follow. Where the scrub begins, and is calm among its members, and the events
-- are its deliveries among them alone, it is open and has a next one, or it has ended well. It is the operation that has begun last.
abbrev pub ScrubEndsAlone : Setting → World → BrickId → GroupId → StripeNo → List BrickId → List Event → Type 0
ScrubEndsAlone setting w brick group stripe members events =
    (let begun = happens setting w (Scrubs brick group stripe members) in
    let last = run setting events begun in
    may_scrub setting w brick group stripe members ≡ true → IsCalm setting begun begun.begun members → AreAlone setting begun begun.begun members events
    → HasNext last begun.begun members ⊎ EndedWell last (length begun.choices.reports) brick group stripe members)

-- so after every schedule
abbrev pub ScrubsEndAlone : Type 0
ScrubsEndAlone =
    (setting : Setting) (before events : List Event) (brick : BrickId) (group : GroupId) (stripe : StripeNo) (members : List BrickId) → IsSound setting
    → EncodesBlocks setting → setting.layout.records ≤ most_records
    → ScrubEndsAlone setting (run setting before (first_world setting.layout)) brick group stripe members events
