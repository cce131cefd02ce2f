-- What goes first of what replies tell.
use Rattle.std.specs.Prelude.{Bool, not, ◌||◌, ◌&&◌, nat_lt, if◌then◌else◌, List, [], ◌∷◌, Option, Some, None}
use Rattle.fab_base.specs.declared.stamps.Stamp.{Stamp}
use Rattle.fab_base.specs.Stamps.{stamp_below}
use Rattle.protocol.specs.declared.phases.Counted.{Counted}
use Rattle.protocol.specs.declared.phases.Refuser.{Refuser}
use Rattle.protocol.specs.declared.phases.FullMember.{FullMember}
use Rattle.protocol.specs.declared.phases.Mover.{Mover}
use Rattle.protocol.specs.declared.phases.Dropper.{Dropper}
use Rattle.protocol.specs.Coordinators.{told_stamp}

-- of two, where there are some, the first, unless it yields to the second
abbrev pub foremost_of : {X : Type 0} → (X → X → Bool) → Option X → Option X → Option X
foremost_of yields None b = b
foremost_of yields (Some a) None = Some a
foremost_of yields (Some a) (Some b) = if yields a b then Some b else Some a

-- what goes first of what the replies tell
abbrev pub foremost : {X : Type 0} → (Counted → Option X) → (X → X → Bool) → List Counted → Option X
foremost told yields [] = None
foremost told yields (c ∷ counted) = foremost_of yields (told c) (foremost told yields counted)

-- the stamp of the version that a counted reply tells
abbrev pub told_version : Counted → Option Stamp
told_version c = told_stamp c.reply

-- a refuser goes after one of a greater stamp, and after one of the same stamp at a lower seat
abbrev pub yields_refuser : Refuser → Refuser → Bool
yields_refuser a b = stamp_below a.stamp b.stamp || (not (stamp_below b.stamp a.stamp) && nat_lt b.seat a.seat)

-- a full member goes after one at a lower seat
abbrev pub yields_full : FullMember → FullMember → Bool
yields_full a b = nat_lt b.seat a.seat

-- a member that told a later view goes after one at a lower seat
abbrev pub yields_mover : Mover → Mover → Bool
yields_mover a b = nat_lt b.seat a.seat

-- a member that dropped its versions of the view before goes after one at a lower seat
abbrev pub yields_dropper : Dropper → Dropper → Bool
yields_dropper a b = nat_lt b.seat a.seat
