-- A write of a block that reads its base back finds it.
use Rattle.messages.specs.declared.replies.Reply.{Reply}
use Rattle.quorum.specs.Quorums.{quorum_of}
use Rattle.fab_base.specs.Layouts.{Group}
use Rattle.std.proofs.lemmas.Bool.{false≢true}
use Rattle.protocol.specs.declared.phases.Dropper.{Dropper}
use Rattle.protocol.specs.declared.phases.Phase.TheVariants.{Bases}
use Rattle.protocol.specs.declared.phases.Phase.{Phase}
use Rattle.protocol_laws.proofs.OwnStamps.{ahead_group}
use Rattle.std.proofs.Common.{◌≡◌, ℕ, ◌++◌, ◌∷◌, [], false, Option, Some, None, is_some, refl, sym, subst, ap, ◌∙◌, true, List, ◌≤◌, length}
use Rattle.protocol.specs.Views.{Views}
use Rattle.protocol.specs.Settings.{Setting, IsSound}
use Rattle.protocol.specs.declared.phases.Counted.{Counted}
use Rattle.protocol.specs.Coordinators.{greatest_refuser, lowest_full, lowest_mover, looks_back, lowest_dropper, lower_dropper, dropper_of, answers_phase}
use Rattle.protocol.specs.Worlds.{World}
use Rattle.protocol.proofs.CountsAt.{CountsAt, counts_facts}
use Rattle.protocol_laws.specs.Laws.{BasesAreFound}
use Rattle.protocol_laws.proofs.Books.{Books, CallBooks, IsCall}
use Rattle.protocol_laws.proofs.Said.{Stamping, Said, CallSays, CountedSays, EachCounted}
use Rattle.protocol_laws.proofs.Counting.{each_more, once_more}
use Rattle.protocol_laws.proofs.Recoveries.{base_enough}

-- what is not there
is_none : {A : Type 0} (o : Option A) → is_some o ≡ false → o ≡ None
is_none None isnt = refl
is_none (Some x) isnt = cc

pub bases_found : (setting : Setting) (views : Views) → IsSound setting → (w : World) (stamps : Stamping) → Books setting w → Said setting views w stamps
    → BasesAreFound setting w
bases_found setting views sound w stamps books said i k seat c base from reply is reads sent counts many unrefused roomy stays =
    base_enough setting views sound w stamps (record { 0 = i }) c books said call (c.counted ++ (one ∷ []))
    all (once_more c.counted one says.once facts.first)
    (subst (λ (g : Group). quorum_of g ≤ length (c.counted ++ (one ∷ []))) (sym (ahead_group c ahead)) many) base reads
    (is_none (greatest_refuser (c.counted ++ (one ∷ []))) unrefused)
    (is_none (lowest_mover (c.counted ++ (one ∷ []))) stays, none_retired (c.counted ++ (one ∷ [])) all, is_none (lowest_full (c.counted ++ (one ∷ []))) roomy)
  where
    one : Counted
    one = record { seat = seat; brick = from; reply = reply }

    its : CallBooks setting w i k c
    its = books.calls i k c is

    call : IsCall w i c.call.seq c
    call = subst (λ (l : ℕ). IsCall w i l c) (sym its.call_seq) is

    says : CallSays setting views w stamps i c.call.seq c
    says = said.calls i c.call.seq c call

    facts : CountsAt setting.layout.block c from.0 c.call reply seat
    facts = counts_facts setting.layout.block c from.0 c.call reply seat counts

    new_says : CountedSays setting views w i c one
    new_says = record {
      sent = sent;
      answers = facts.answers;
      seat = facts.seat_is;
    }

    ahead : looks_back c.phase ≡ false
    ahead = ap looks_back reads

    all : EachCounted (CountedSays setting views w i c) (c.counted ++ (one ∷ []))
    all = each_more (CountedSays setting views w i c) c.counted one says.counted new_says

    -- in a phase that reads a base back no member tells that it dropped the view before
    not_retired : (x : Counted) → CountedSays setting views w i c x → dropper_of x ≡ None
    not_retired x told =
        by x.reply (subst (λ (p : Phase). answers_phase setting.layout.block c.stamp x.seat p x.reply ≡ true) reads told.answers)
      where
        by : (r : Reply) → answers_phase setting.layout.block c.stamp x.seat (Bases base) r ≡ true
            → dropper_of (record { seat = x.seat; brick = x.brick; reply = r }) ≡ None
        by Reply.Retired answers = absurd (false≢true answers)
        by r answers = refl

    none_retired : (counted : List Counted) → EachCounted (CountedSays setting views w i c) counted → lowest_dropper counted ≡ None
    none_retired [] each = refl
    none_retired (x ∷ counted) each =
        ap (λ (d : Option Dropper). lower_dropper d (lowest_dropper counted)) (not_retired x each.0) ∙ none_retired counted each.1
