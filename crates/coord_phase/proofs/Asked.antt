-- Whom a phase asks.
use Rattle.std.proofs.Common.{◌≡◌, ℕ, ◌+◌, ◌<◌, ◌||◌, ◌∙◌, Bool, true, false, if◌then◌else◌, List, [], ◌∷◌, length, Option, Some, None, refl, sym, ap}
use Rattle.std.specs.Prelude.{is_some, nat_eq}
use Rattle.std.specs.List.{list_any}
use Rattle.std.specs.Option.{option_map}
use Rattle.std.proofs.lemmas.Bool.{cond_both, false≢true}
use Rattle.fab_base.specs.Layouts.{Group, seat_in}
use Rattle.fab_base.specs.declared.identities.BrickId.{BrickId}
use Rattle.fab_base.specs.declared.identities.ViewNo.{ViewNo}
use Rattle.fab_base.proofs.Seats.{seat_within}
use Rattle.messages.specs.declared.calls.Call.{Call}
use Rattle.messages.specs.declared.replies.Reply.{Reply}
use Rattle.protocol.specs.declared.phases.Phase.{Phase}
use Rattle.protocol.specs.declared.phases.Phase.TheVariants.{LooksBack}
use Rattle.protocol.specs.Views.{kept_by}
use Rattle.protocol.specs.Coordinators.{Coordinator, looks_back, asked_group, counts_at}
use Rattle.protocol.proofs.CountsAt.{counts_facts}
use Rattle.coord_phase.specs.Operations.{MayAsk}

-- the group has as many data blocks, whichever members keep it
pub asked_m : (c : Coordinator) → (asked_group c).m ≡ c.group.m
asked_m c = cond_both (looks_back c.phase) (kept_by c.prior c.group) c.group (λ (z : Group). z.m ≡ c.group.m) (λ back. refl) (λ own. refl)

-- a phase that does not look back asks the members of the operation's own view
pub asked_own : (c : Coordinator) → looks_back c.phase ≡ false → asked_group c ≡ c.group
asked_own c own = ap (λ (b : Bool). if b then kept_by c.prior c.group else c.group) own

-- and may do so in each view
pub may_ask_own : (view : ViewNo) (phase : Phase) → looks_back phase ≡ false → MayAsk view phase
may_ask_own view (LooksBack bound) own = absurd (false≢true (sym own))
may_ask_own view phase own = tt

-- a reply counts at the seat of a member that is asked
pub counted_within : (block : ℕ) (c : Coordinator) (from : ℕ) (call : Call) (reply : Reply) (seat : ℕ) → counts_at block c from call reply ≡ Some seat
    → seat < length (asked_group c).members
counted_within block c from call reply seat counts =
    seat_within (asked_group c) from seat (counts_facts block c from call reply seat counts).seat_is

-- a brick is one of some members exactly if it has a seat among them
seat_after : (o : Option ℕ) → is_some (option_map (λ (seat : ℕ). seat + 1) o) ≡ is_some o
seat_after None = refl
seat_after (Some seat) = refl

first_or_after : (here later : Bool) (o : Option ℕ) → later ≡ is_some o
    → (here || later) ≡ is_some (if here then Some 0 else option_map (λ (seat : ℕ). seat + 1) o)
first_or_after true later o same = refl
first_or_after false later o same = same ∙ sym (seat_after o)

pub stands_as_seat : (members : List BrickId) (brick : ℕ)
    → list_any (λ (member : BrickId). nat_eq member.0 brick) members ≡ is_some (seat_in members brick)
stands_as_seat [] brick = refl
stands_as_seat (member ∷ members) brick =
    first_or_after (nat_eq member.0 brick) _ (seat_in members brick) (stands_as_seat members brick)
