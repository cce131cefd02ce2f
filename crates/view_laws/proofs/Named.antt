-- A view has one successor, whatever names the members of a later view names the list that was chosen, and the end of a proposal shows its cause.
use Rattle.std.proofs.Common.{◌≡◌, ℕ, suc, ◌+◌, false, ◌⊎◌, inl, inr, ⊎_elim, List, [], ◌∷◌, length, map, Option, Some, None, refl, sym, ap, ◌∙◌, subst, arith, nat_eq}
use Rattle.std.specs.Prelude.{slice_get}
use Rattle.std.specs.List.{IsDistinct, AllByRecursion}
use Rattle.std.proofs.lemmas.Bool.{cond_both, or_parts}
use Rattle.std.proofs.lemmas.Option.{same_Some}
use Rattle.fab_base.specs.declared.identities.BrickId.{BrickId}
use Rattle.fab_base.specs.declared.identities.GroupId.{GroupId}
use Rattle.fab_base.specs.declared.identities.ViewNo.{ViewNo}
use Rattle.fab_base.specs.declared.member_lists.View.{View}
use Rattle.fab_base.specs.declared.stamps.Ballot.{Ballot}
use Rattle.fab_base.specs.Stamps.{ballot_below}
use Rattle.fab_base.specs.Layouts.{Group, brick_at}
use Rattle.messages.specs.declared.calls.Call.{Call}
use Rattle.messages.specs.declared.packets.Message.{Message}
use Rattle.messages.specs.declared.replies.Reply.{Reply}
use Rattle.messages.specs.declared.requests.Request.{Request}
use Rattle.quorum.specs.Quorums.{quorum_of}
use Rattle.quorum.proofs.Counts.{seat_in as is_in, AreDistinctBelow, count_some}
use Rattle.synod_laws.specs.Synods.{IsMajority, seats_of}
use Rattle.synod_laws.proofs.Agreement.{quorums_are_majorities, two_chosen}
use Rattle.protocol.specs.declared.phases.Counted.{Counted}
use Rattle.protocol.specs.declared.tellings.Report.TheVariants as report
use Rattle.protocol.specs.declared.tellings.ViewAnswer.{ViewAnswer}
use Rattle.protocol.specs.declared.tellings.ViewAnswer.TheVariants as answer
use Rattle.protocol.specs.Settings.{Setting, IsSound}
use Rattle.protocol.specs.Views.{group_in, views_in}
use Rattle.protocol.specs.Proposals.{promises, lowest, moved_view, unsynced_brick, outbid_ballot, greater_ballot, greatest_outbid, refused_by}
use Rattle.protocol.specs.Worlds.{World, first_world, run}
use Rattle.view_laws.specs.Following.{WasSent}
use Rattle.view_laws.specs.Successors.{WasChosen, WasReported, Succeeds, OneSuccessorIn, OneSuccessor, NamesAreChosenIn, NamesAreChosen}
use Rattle.view_laws.specs.Ends.{voices_of, ballot_in, IsOutbid, ShowsAnswer, ProposalsShowIn, ProposalsShow}
use Rattle.view_laws.proofs.Histories.{view_world, group_named, history, seated, ballot_asked, ReplySays, IsDecided, IsTaught, name_has_number, name_of_group, kept_is, known_taught}
use Rattle.view_laws.proofs.Agreeing.{Agreed}
use Rattle.view_laws.proofs.Deciding.{agrees_seated}
use Rattle.view_laws.proofs.Agreements.{always_agreed}
use Rattle.view_laws.proofs.Followed.{views_of_name, group_of_name, named_fits}
use Rattle.view_laws.proofs.Voices.{answer_of}
use Rattle.view_laws.proofs.Reporting.{EndSays, DecidedSays}
use Rattle.view_laws.proofs.ReportSteps.{ReportsSay, always_reports}

module _ (setting : Setting) (sound : IsSound setting) (w : World) (agreed : Agreed setting.layout (view_world w)) where
  -- the members that messages name make a quorum of more than half
  named_majority : (g e : ℕ) (group : Group) → group_in setting.layout (views_in setting.layout w.packets) g e ≡ Some group
      → IsMajority (length group.members) (quorum_of group)
  named_majority g e group is = quorums_are_majorities group.m (length group.members) (named_fits setting w g e group sound agreed is).0

  -- where a list was chosen, its view has a name
  chosen_named : (g e : ℕ) (group : Group) (members : List BrickId) → group_in setting.layout (views_in setting.layout w.packets) g e ≡ Some group
      → WasChosen w g e group members → group_named setting.layout w.packets g e ≡ Some group
  chosen_named g e group members is chosen =
      let majority = named_majority g e group is in
      let many = chosen.many in
      let voter = count_some (length group.members) chosen.seats (omega (arith, majority, many)) in
      let safe = agreed.safe g e chosen.ballot members
      (agreed.proposed (brick_at group voter.0) g e chosen.ballot members (chosen.accepted voter.0 voter.1 voter.2)) in
      let view = name_of_group setting.layout w.packets g e safe.group safe.group_is in
      let kept : group_in setting.layout (views_in setting.layout w.packets) g e ≡ Some safe.group
      = group_of_name setting.layout w.packets g e view.0 view.1 ∙ view.2 in
      safe.group_is ∙ sym kept ∙ is

  -- two lists that were chosen to follow a view are the same
  chosen_once : (g e : ℕ) (group : Group) (one other : List BrickId) → group_in setting.layout (views_in setting.layout w.packets) g e ≡ Some group
      → WasChosen w g e group one → WasChosen w g e group other → one ≡ other
  chosen_once g e group one other is first second =
      two_chosen (length group.members) (quorum_of group) (seated group (history (view_world w) g e)) first.ballot second.ballot one other
      (named_majority g e group is)
      (agrees_seated setting.layout (view_world w) g e group agreed (chosen_named g e group one is first))
      (first.seats, first.many, first.accepted) (second.seats, second.many, second.accepted)

  -- a view that is taught follows the one before it
  taught_succeeds : (g : ℕ) (view : View) → IsTaught setting.layout (view_world w) g view → Succeeds setting.layout w g view
  taught_succeeds g view taught =
      let decided : IsDecided setting.layout (view_world w) g view = taught.1 in
      let kept = kept_is setting.layout decided.before.members g decided.group decided.group_is in
      record {
        before = decided.before.number.0;
        positive = (name_has_number setting.layout w.packets g decided.before.number.0 decided.before decided.named).1;
        next = decided.next;
        group = decided.group;
        group_is = group_of_name setting.layout w.packets g decided.before.number.0 decided.before decided.named ∙ decided.group_is;
        prior = decided.prior ∙ sym (ap (λ (z : Group). z.members) kept.2);
        chosen = record { ballot = decided.ballot; seats = decided.chosen.0; many = decided.chosen.1; accepted = decided.chosen.2 };
        named = views_of_name setting.layout w.packets g view.number.0 view taught.0;
      }

  module _ (reporting : ReportsSay setting.layout w) where
    -- what an end says of its view
    end_group : (brick : BrickId) (number : GroupId) (call : Call) (ended : ViewAnswer) (k : ℕ)
        → slice_get w.choices.reports k ≡ Some (brick, report.View number (Some call) ended)
        → (end : EndSays setting.layout (view_world w) (voices_of w brick call) brick.0 number call ended)
        × (group_in setting.layout (views_in setting.layout w.packets) number.0 call.view.0 ≡ Some end.group)
    end_group brick number call ended k at =
        let end = (reporting.ends k brick number call ended at).end in (
          end,
          ap (λ (z : ViewNo). group_in setting.layout (views_in setting.layout w.packets) number.0 z.0) end.view_is
              ∙ group_of_name setting.layout w.packets number.0 end.view.number.0 end.view end.named ∙ end.group_is,
        )

    -- a refusal is no decision
    refusal_undecided : (a : Option (ℕ × ViewNo)) (b : Option (ℕ × BrickId)) (c : Option Ballot) (next : ViewNo) (members : List BrickId)
        → answer_of a b c ≡ Some (answer.Decided next members) → ⊥
    unfolding answer_of
    refusal_undecided None None None next members is = cc
    refusal_undecided None None (Some t) next members is = cc
    refusal_undecided None (Some t) c next members is = cc
    refusal_undecided (Some t) b c next members is = cc

    -- what an end that decides a list says
    end_decided : (brick : BrickId) (number : GroupId) (call : Call) (next : ViewNo) (members : List BrickId)
        → (end : EndSays setting.layout (view_world w) (voices_of w brick call) brick.0 number call (answer.Decided next members))
        → DecidedSays setting.layout (view_world w) (voices_of w brick call) number.0 end.view end.group (answer.Decided next members)
    unfolding answer_of
    end_decided brick number call next members end = ⊎_elim
        (λ (refused : refused_by (voices_of w brick call) ≡ Some (answer.Decided next members)).
        absurd (refusal_undecided (lowest moved_view (voices_of w brick call)) (lowest unsynced_brick (voices_of w brick call))
        (greatest_outbid (voices_of w brick call)) next members refused))
        (λ (decided : DecidedSays setting.layout (view_world w) (voices_of w brick call) number.0 end.view end.group (answer.Decided next members)). decided)
        end.cause

    -- equal decisions
    same_decided : (one two : ViewNo) (first second : List BrickId) → answer.Decided one first ≡ answer.Decided two second → (one ≡ two) × (first ≡ second)
    same_decided one two first second is = (cc, cc)

    -- so its list was chosen
    end_chosen : (brick : BrickId) (number : GroupId) (call : Call) (next : ViewNo) (members : List BrickId)
        → (end : EndSays setting.layout (view_world w) (voices_of w brick call) brick.0 number call (answer.Decided next members))
        → WasChosen w number.0 call.view.0 end.group members
    end_chosen brick number call next members end =
        let decided = end_decided brick number call next members end in
        let same = same_decided next (record { 0 = end.view.number.0 + 1 }) members decided.members decided.is in
        subst (λ (z : ViewNo). WasChosen w number.0 z.0 end.group members) (sym end.view_is)
        (subst (λ (l : List BrickId). WasChosen w number.0 end.view.number.0 end.group l) (sym same.1)
        (record { ballot = decided.ballot; seats = decided.chosen.0; many = decided.chosen.1; accepted = decided.chosen.2 }))

    -- so a view has one successor
    pub one_successor : OneSuccessorIn setting.layout w
    one_successor = record {
      chosen = chosen_once;
      decided = λ brick number call next members other group was found chosen.
          let end = end_group brick number call (answer.Decided next members) was.0 was.1 in
          let same : end.0.group ≡ group = same_Some end.0.group group (sym end.1 ∙ found) in
          chosen_once number.0 call.view.0 group members other found
          (subst (λ (z : Group). WasChosen w number.0 call.view.0 z members) same (end_chosen brick number call next members end.0)) chosen;
    }

    -- an end that decides a list names the next view
    decided_succeeds : (brick : BrickId) (number : GroupId) (call : Call) (next : ViewNo) (members : List BrickId)
        → WasReported w brick (report.View number (Some call) (answer.Decided next members))
        → (next.0 ≡ call.view.0 + 1)
        × Succeeds setting.layout w number.0 (record { number = next; members = members; prior = views_in setting.layout w.packets number.0 call.view.0 })
    decided_succeeds brick number call next members was =
        let found = end_group brick number call (answer.Decided next members) was.0 was.1 in
        let end = found.0 in
        let decided = end_decided brick number call next members end in
        let same = same_decided next (record { 0 = end.view.number.0 + 1 }) members decided.members decided.is in
        let view : call.view.0 ≡ end.view.number.0 = ap (λ (z : ViewNo). z.0) end.view_is in
        let next_is : next.0 ≡ call.view.0 + 1 = ap (λ (z : ViewNo). z.0) same.0 ∙ ap (λ (z : ℕ). z + 1) (sym view) in
        let prior : views_in setting.layout w.packets number.0 call.view.0 ≡ end.view.members
        = ap (λ (z : ℕ). views_in setting.layout w.packets number.0 z) view
        ∙ views_of_name setting.layout w.packets number.0 end.view.number.0 end.view end.named in
        let kept = kept_is setting.layout end.view.members number.0 end.group end.group_is in
        let some = (name_has_number setting.layout w.packets number.0 end.view.number.0 end.view end.named).1 in (
          next_is,
          record {
            before = call.view.0;
            positive = omega (arith, some, view);
            next = next_is;
            group = end.group;
            group_is = found.1;
            prior = prior ∙ sym (ap (λ (z : Group). z.members) kept.2);
            chosen = end_chosen brick number call next members end;
            named = ap (λ (z : ℕ). views_in setting.layout w.packets number.0 z) (ap (λ (z : ViewNo). z.0) same.0)
                ∙ views_of_name setting.layout w.packets number.0 (end.view.number.0 + 1)
                (record { number = record { 0 = end.view.number.0 + 1 }; members = decided.members; prior = end.view.members }) decided.next
                ∙ sym same.1;
          },
        )

    -- and what names members names those that were chosen
    pub names_are_chosen : NamesAreChosenIn setting.layout w
    names_are_chosen = record {
      taught = λ from to number view sent. taught_succeeds number.0 view (agreed.says sent.0 _ sent.1);
      moved = λ from to call later lineage sent.
          taught_succeeds call.group.0 (record { number = later; members = lineage.members; prior = lineage.prior }) (agreed.says sent.0 _ sent.1);
      accepted = λ from to call later sent.
          let says = agreed.says sent.0 _ sent.1 in (says.0, record { ballot = says.1; members = says.2; accepted = says.3 });
      decided = decided_succeeds;
      learnt = λ brick number above.
          taught_succeeds number ((w.nodes brick).learnt number).view
          (known_taught setting.layout (view_world w) number ((w.nodes brick).learnt number).view agreed.says (agreed.learnt brick number) above);
    }

    -- ---- ends

    -- seats that are distinct below a bound are distinct
    apart_from : (seat : ℕ) (seats : List ℕ) → is_in seats seat ≡ false → AllByRecursion (λ other. nat_eq seat other ≡ false) seats
    apart_from seat [] none = tt
    apart_from seat (first ∷ seats) none =
        let parts = or_parts (nat_eq seat first) (is_in seats seat) none in (parts.0, apart_from seat seats parts.1)

    -- so the seats of a list are
    seats_distinct : (n : ℕ) (seats : List ℕ) → AreDistinctBelow n seats → IsDistinct nat_eq seats
    unfolding IsDistinct
    seats_distinct n [] distinct = tt
    seats_distinct n (seat ∷ seats) distinct = (apart_from seat seats distinct.1, seats_distinct n seats distinct.2)

    -- the seats of promises are those of the replies
    seats_are : (voices : List Counted) → seats_of (promises voices) ≡ map (λ (c : Counted). c.seat) voices
    seats_are [] = refl
    seats_are (c ∷ voices) = ap (λ (l : List ℕ). c.seat ∷ l) (seats_are voices)

    -- of two ballots the greater is one of them
    greater_is : (a b : Option Ballot) (t : Ballot) → greater_ballot a b ≡ Some t → (a ≡ Some t) ⊎ (b ≡ Some t)
    greater_is None b t is = inr is
    greater_is (Some a) None t is = inl is
    greater_is (Some a) (Some b) t is =
        cond_both (ballot_below a b) (Some b) (Some a) (λ (o : Option Ballot). o ≡ Some t → (Some a ≡ Some t) ⊎ (Some b ≡ Some t)) (λ lower e. inr e) (λ isnt e. inl e) is

    -- the greatest ballot is told by a reply
    outbid_told : (voices : List Counted) (t : Ballot) → greatest_outbid voices ≡ Some t
        → (k : ℕ) × (c : Counted) × (slice_get voices k ≡ Some c) × (outbid_ballot c ≡ Some t)
    outbid_told [] t is = absurd (let never : None ≡ Some t = is in cc)
    outbid_told (c ∷ voices) t is = ⊎_elim
        (λ (here : outbid_ballot c ≡ Some t). (0, c, refl, here))
        (λ (there : greatest_outbid voices ≡ Some t). let found = outbid_told voices t there in (suc found.0, found.1, found.2, found.3))
        (greater_is (outbid_ballot c) (greatest_outbid voices) t is)

    -- that reply tells it
    outbid_reply : (seat : ℕ) (brick : BrickId) (said : Reply) (t : Ballot) → outbid_ballot (record { seat = seat; brick = brick; reply = said }) ≡ Some t
        → said ≡ Reply.Outbid t
    outbid_reply seat brick (Reply.Outbid ballot) t is = ap (λ (z : Ballot). Reply.Outbid z) (same_Some ballot t is)
    outbid_reply seat brick (Reply.Found order newest) t is = cc
    outbid_reply seat brick Reply.Ordered t is = cc
    outbid_reply seat brick (Reply.OrderedRead found) t is = cc
    outbid_reply seat brick Reply.Stored t is = cc
    outbid_reply seat brick (Reply.Behind newest) t is = cc
    outbid_reply seat brick (Reply.Later stamp) t is = cc
    outbid_reply seat brick (Reply.Full live) t is = cc
    outbid_reply seat brick (Reply.Moved view lineage) t is = cc
    outbid_reply seat brick (Reply.Old found) t is = cc
    outbid_reply seat brick Reply.Retired t is = cc
    outbid_reply seat brick (Reply.Promise accepted) t is = cc
    outbid_reply seat brick Reply.Accepted t is = cc
    outbid_reply seat brick Reply.NotSynced t is = cc

    -- the ballot that a request names, by either word
    names_ballot : (request : Request) → ballot_in request ≡ ballot_asked request
    names_ballot (Request.Read want) = refl
    names_ballot (Request.Order t) = refl
    names_ballot (Request.OrderRead t look want) = refl
    names_ballot (Request.Write t block) = refl
    names_ballot (Request.Modify t base j delta) = refl
    names_ballot (Request.Collect t) = refl
    names_ballot (Request.OldRead bound) = refl
    names_ballot (Request.Prepare ballot) = refl
    names_ballot (Request.Accept ballot members) = refl

    -- the greatest ballot that replies to a phase tell outbids it
    outbid_shows : (brick : BrickId) (call : Call) (voices : List Counted) (t : Ballot)
        → ((k : ℕ) (c : Counted) → slice_get voices k ≡ Some c → WasSent w (record { from = c.brick; to = brick; message = Message.Reply call c.reply }))
        → greatest_outbid voices ≡ Some t → IsOutbid w brick call t
    outbid_shows brick call voices t sent is =
        let found = outbid_told voices t is in
        let c : Counted = found.1 in
        let packet = sent found.0 c found.2 in
        let says : ReplySays setting.layout (view_world w) c.brick.0 brick.0 call (Reply.Outbid t)
        = subst (λ (z : Reply). ReplySays setting.layout (view_world w) c.brick.0 brick.0 call z) (outbid_reply c.seat c.brick c.reply t found.3)
        (agreed.says packet.0 _ packet.1) in
        record { to = c.brick; request = says.request; ballot = says.ballot; asked = names_ballot says.request ∙ says.asked; sent = says.sent; below = says.below }

    -- how replies refuse, they show
    refusal_shows : (brick : BrickId) (call : Call) (group : Group) (voices : List Counted)
        → ((t : Ballot) → greatest_outbid voices ≡ Some t → IsOutbid w brick call t) → (a : Option (ℕ × ViewNo)) (b : Option (ℕ × BrickId)) (c : Option Ballot)
        (ended : ViewAnswer) → lowest moved_view voices ≡ a → lowest unsynced_brick voices ≡ b → greatest_outbid voices ≡ c → answer_of a b c ≡ Some ended
        → ShowsAnswer w brick call group voices ended
    unfolding answer_of
    refusal_shows brick call group voices outbids None None None ended moved unsynced outbid is = absurd (let never : None ≡ Some ended = is in cc)
    refusal_shows brick call group voices outbids None None (Some t) ended moved unsynced outbid is =
        subst (λ (z : ViewAnswer). ShowsAnswer w brick call group voices z) (same_Some (answer.Outbid t) ended is) (moved, unsynced, outbid, outbids t outbid)
    refusal_shows brick call group voices outbids None (Some t) c ended moved unsynced outbid is =
        subst (λ (z : ViewAnswer). ShowsAnswer w brick call group voices z) (same_Some (answer.NotSynced t.1) ended is) (t.0, moved, unsynced)
    refusal_shows brick call group voices outbids (Some t) b c ended moved unsynced outbid is =
        subst (λ (z : ViewAnswer). ShowsAnswer w brick call group voices z) (same_Some (answer.Moved t.1) ended is) (t.0, moved)

    -- the cause of an end
    cause_shows : (brick : BrickId) (number : GroupId) (call : Call) (ended : ViewAnswer)
        → (end : EndSays setting.layout (view_world w) (voices_of w brick call) brick.0 number call ended)
        → ShowsAnswer w brick call end.group (voices_of w brick call) ended
    unfolding answer_of
    cause_shows brick number call ended end = ⊎_elim
        (λ (refused : refused_by (voices_of w brick call) ≡ Some ended).
        refusal_shows brick call end.group (voices_of w brick call)
        (λ t is. outbid_shows brick call (voices_of w brick call) t end.sent is) (lowest moved_view (voices_of w brick call)) (lowest unsynced_brick (voices_of w brick call))
        (greatest_outbid (voices_of w brick call)) ended refl refl refl refused)
        (λ (decided : DecidedSays setting.layout (view_world w) (voices_of w brick call) number.0 end.view end.group ended).
        let view : call.view.0 ≡ end.view.number.0 = ap (λ (z : ViewNo). z.0) end.view_is in
        let chosen : WasChosen w number.0 end.view.number.0 end.group decided.members
        = record { ballot = decided.ballot; seats = decided.chosen.0; many = decided.chosen.1; accepted = decided.chosen.2 } in
        let shows : ShowsAnswer w brick call end.group (voices_of w brick call) (answer.Decided (record { 0 = end.view.number.0 + 1 }) decided.members)
        = record {
          next_is = ap (λ (z : ℕ). z + 1) (sym view);
          accepted = decided.accepted;
          chosen = subst (λ (z : GroupId). WasChosen w z.0 call.view.0 end.group decided.members) (sym end.own)
              (subst (λ (z : ℕ). WasChosen w number.0 z end.group decided.members) (sym view) chosen);
        } in
        subst (λ (z : ViewAnswer). ShowsAnswer w brick call end.group (voices_of w brick call) z) (sym decided.is) shows)
        end.cause

    -- so ends show their causes
    pub proposals_show : ProposalsShowIn setting.layout w
    proposals_show = record {
      ended = λ brick number call ended was.
          let found = end_group brick number call ended was.0 was.1 in
          let end = found.0 in
          record {
            own = end.own;
            group = end.group;
            group_is = found.1;
            voices = λ k c at. record { sent = end.sent k c at; seat = end.seats k c at };
            distinct = subst (λ (l : List ℕ). IsDistinct nat_eq l) (seats_are (voices_of w brick call))
                (seats_distinct (length end.group.members) (seats_of (promises (voices_of w brick call))) end.distinct);
            quorum = end.enough;
            shows = cause_shows brick number call ended end;
          };
      unsent = λ brick number ended was. reporting.unsent was.0 brick number ended was.1;
    }

-- in every world that a run reaches
pub every_one_successor : OneSuccessor
every_one_successor setting events sound =
    one_successor setting sound (run setting events (first_world setting.layout)) (always_agreed setting sound events).agreed (always_reports setting sound events)

-- names are of lists that were chosen
pub every_name_is_chosen : NamesAreChosen
every_name_is_chosen setting events sound =
    names_are_chosen setting sound (run setting events (first_world setting.layout)) (always_agreed setting sound events).agreed (always_reports setting sound events)

-- and ends show their causes
pub every_proposal_shows : ProposalsShow
every_proposal_shows setting events sound =
    proposals_show setting sound (run setting events (first_world setting.layout)) (always_agreed setting sound events).agreed (always_reports setting sound events)
