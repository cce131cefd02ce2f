-- A reply counts in an open operation: the history of replies in the world that follows.
use Rattle.std.proofs.Common.{◌≡◌, ◌≢◌, ℕ, ◌+◌, ◌-◌, ◌<◌, ◌≤◌, ◌⊎◌, inl, inr, ⊎_elim, Bool, true, false, not, List, [], ◌∷◌, ◌++◌, length, Option, Some, None, is_some, refl, sym, ap, ◌∙◌, subst, append_assoc, arith}
use Rattle.std.specs.Prelude.{slice_get, if◌then◌else◌, nat_lt, nat_eq, max}
use Rattle.std.proofs.lemmas.Bool.{cond_both, cases_eq, cases_Bool, eq-eqb, false≢true, or_cases}
use Rattle.std.proofs.lemmas.List.{append-nil}
use Rattle.std.proofs.lemmas.Option.{same_Some}
use Rattle.fab_base.specs.declared.identities.BrickId.{BrickId}
use Rattle.fab_base.specs.declared.identities.ViewNo.{ViewNo}
use Rattle.fab_base.specs.declared.asks.Ask.{Ask}
use Rattle.fab_base.specs.declared.stamps.Stamp.{Stamp}
use Rattle.fab_base.specs.Stamps.{stamp_below}
use Rattle.fab_base.specs.declared.answers.Answer.{Answer}
use Rattle.fab_base.specs.declared.answers.Answer.TheVariants.{Data, Done, Aborted}
use Rattle.fab_base.specs.declared.answers.Cause.{Cause}
use Rattle.messages.specs.declared.calls.Call.{Call}
use Rattle.messages.specs.declared.packets.Message.TheVariants as Message
use Rattle.messages.specs.declared.packets.Packet.{Packet}
use Rattle.messages.specs.declared.requests.Request.{Request}
use Rattle.messages.specs.declared.replies.Reply.{Reply}
use Rattle.reg_model.specs.declared.marks.Mark.{Mark}
use Rattle.reg_model.specs.declared.marks.Mark.TheVariants.{End}
use Rattle.protocol.specs.Settings.{Setting}
use Rattle.protocol.specs.declared.phases.Phase.{Phase}
use Rattle.protocol.specs.declared.phases.Phase.TheVariants.{Looks, LooksAt, Orders, OrdersAt, Recovers, Descends, LooksBack, Modifies, Bases, Stores}
use Rattle.protocol.specs.declared.phases.Counted.{Counted}
use Rattle.protocol.specs.declared.phases.Refuser.{Refuser}
use Rattle.protocol.specs.declared.phases.FullMember.{FullMember}
use Rattle.protocol.specs.Coordinators.{Coordinator, Next, Ignores, Waits, Sends, Makes, Ends, refuser_of, greater_refuser, greatest_refuser, full_member_of, lower_full, lowest_full, mover_of, lower_mover, lowest_mover, dropper_of, lower_dropper, lowest_dropper, told_stamp, greater_stamp, greatest_found, answers_phase, looks_back, with_reply, may_count, may_count_in}
use Rattle.protocol.specs.declared.phases.Mover.{Mover}
use Rattle.protocol.specs.declared.phases.Dropper.{Dropper}
use Rattle.fab_base.specs.declared.identities.ViewNo.{ViewNo}
use Rattle.protocol.specs.Jobs.{abort_cause}
use Rattle.protocol.specs.Nodes.{Node, put, has_later_time, new_stamp, fresh_stamp, with_call, phase_packets, collect_packets, carried_out}
use Rattle.protocol.specs.Worlds.{World, Operation, number_of, known_in, with_made, with_seen, with_answer, with_closed, own_mark, mark_of, with_counted, with_held, world_stepped, choices_after}
use Rattle.protocol_laws.specs.Laws.{WasSent, RequestSent, AskedAt, IsCallOf, IsLastRound, order_of, HasNotEnded, Evidence}
use Rattle.protocol_laws.proofs.MarkNumbers.{mark_at, mark_seen}
use Rattle.protocol_laws.proofs.Books.{Replies, Books, OperationBooks, CallBooks, IsOperation, IsCall, InRound}
use Rattle.protocol_laws.proofs.BooksKept.{KeepsNumbers, calls_apart, keeps_with_call}
use Rattle.protocol_laws.proofs.BooksEvents.{keeps_put, brick_of, look_first}
use Rattle.protocol_laws.proofs.Outcomes.{IsRebuild, IsRound, IsLook, Forgets, BackFits, back_phase, first_round, ReordersFits, RecoversFits, RebuildsIn, RebuildsFits, SendsFits, MakesIn, NoRoundFits, LastFits, AbortFits, FullFits, MovedFits, GoneFits, AnswerFits, NextFits, SameOperation}
use Rattle.protocol_laws.proofs.Said.{EachCounted}
use Rattle.protocol_laws.proofs.Counting.{each_more, no_full, no_mover, no_dropper, refuser_counted, full_counted, mover_counted, dropper_counted}
use Rattle.protocol.proofs.Puts.{put_other}
use Rattle.protocol.proofs.Tables.{put_each, put_same, get_kept, get_grown, get_one}
use Rattle.protocol_laws.proofs.Steps.{sent_by}
use Rattle.protocol_laws.proofs.Tallies.{IsTally, IsAmong, BeganBack, CallTallied, CountedSent, OwnShown, Tallied, MessagesShow, OrdersAlone, GoesOn, Furthers, AskedBack, CountsAlone, NotedLagging}
use Rattle.protocol_laws.proofs.TalliesKept.{began_on, call_tallied_on, known_kept, counted_on, asked_on, not_ended, tallied_on, asked_on_back, lags_same}
use Rattle.protocol_laws.proofs.Closing.{closed_world}
use Rattle.protocol.specs.Scrubs.{Scrub, is_look, lagging_of}
use Rattle.fab_base.specs.Layouts.{seat_in, Group}

-- where there is no fresh stamp no later time is left
none_left : (me : BrickId) (view : ViewNo) (now boot known : ℕ) → fresh_stamp me view now boot known ≡ None → has_later_time known ≡ false
none_left me view now boot known is =
    cond_both (has_later_time known) (Some (new_stamp me view now boot known)) None
    (λ (z : Option Stamp). z ≡ None → has_later_time known ≡ false)
    (λ some e. absurd (let never : Some (new_stamp me view now boot known) ≡ None = e in cc))
    (λ none e. none)
    is

-- of two choices neither is one
none_parts : (a b : Option Refuser) → greater_refuser a b ≡ None → (a ≡ None) × (b ≡ None)
none_parts None b is = (refl, is)
none_parts (Some a) None is = absurd (let never : Some a ≡ None = is in cc)
none_parts (Some a) (Some b) is =
    cond_both (stamp_below a.stamp b.stamp) (Some b)
    (if stamp_below b.stamp a.stamp then Some a else (if nat_lt b.seat a.seat then Some b else Some a))
    (λ (z : Option Refuser). z ≡ None → (Some a ≡ None) × (Some b ≡ None))
    (λ under e. absurd (let never : Some b ≡ None = e in cc))
    (λ over. cond_both (stamp_below b.stamp a.stamp) (Some a) (if nat_lt b.seat a.seat then Some b else Some a)
    (λ (z : Option Refuser). z ≡ None → (Some a ≡ None) × (Some b ≡ None))
    (λ under e. absurd (let never : Some a ≡ None = e in cc))
    (λ same. cond_both (nat_lt b.seat a.seat) (Some b) (Some a) (λ (z : Option Refuser). z ≡ None → (Some a ≡ None) × (Some b ≡ None))
    (λ low e. absurd (let never : Some b ≡ None = e in cc))
    (λ high e. absurd (let never : Some a ≡ None = e in cc))))
    is

-- replies of which none told a later stamp do not change which one told the greatest
refuser_after : (forgotten counted : List Counted) → greatest_refuser forgotten ≡ None
    → greatest_refuser (forgotten ++ counted) ≡ greatest_refuser counted
refuser_after [] counted none = refl
refuser_after (x ∷ forgotten) counted none =
    let parts = none_parts (refuser_of x) (greatest_refuser forgotten) none in
    ap (λ (r : Option Refuser). greater_refuser r (greatest_refuser (forgotten ++ counted))) parts.0 ∙ refuser_after forgotten counted parts.1

-- nor which member tells of a full store
full_after : (forgotten counted : List Counted) → lowest_full forgotten ≡ None → lowest_full (forgotten ++ counted) ≡ lowest_full counted
full_after [] counted none = refl
full_after (x ∷ forgotten) counted none =
    let parts = no_full (full_member_of x) (lowest_full forgotten) none in
    ap (λ (f : Option FullMember). lower_full f (lowest_full (forgotten ++ counted))) parts.0 ∙ full_after forgotten counted parts.1

-- nor which one tells of a later view
mover_after : (forgotten counted : List Counted) → lowest_mover forgotten ≡ None → lowest_mover (forgotten ++ counted) ≡ lowest_mover counted
mover_after [] counted none = refl
mover_after (x ∷ forgotten) counted none =
    let parts = no_mover (mover_of x) (lowest_mover forgotten) none in
    ap (λ (m : Option Mover). lower_mover m (lowest_mover (forgotten ++ counted))) parts.0 ∙ mover_after forgotten counted parts.1

-- nor which one tells of versions that were dropped
dropper_after : (forgotten counted : List Counted) → lowest_dropper forgotten ≡ None → lowest_dropper (forgotten ++ counted) ≡ lowest_dropper counted
dropper_after [] counted none = refl
dropper_after (x ∷ forgotten) counted none =
    let parts = no_dropper (dropper_of x) (lowest_dropper forgotten) none in
    ap (λ (d : Option Dropper). lower_dropper d (lowest_dropper (forgotten ++ counted))) parts.0 ∙ dropper_after forgotten counted parts.1

-- of two stamps that may be none neither is one
none_greater : (a b : Option Stamp) → greater_stamp a b ≡ None → (a ≡ None) × (b ≡ None)
none_greater None b is = (refl, is)
none_greater (Some a) None is = absurd (let never : Some a ≡ None = is in cc)
none_greater (Some a) (Some b) is =
    cond_both (stamp_below a b) (Some b) (Some a) (λ (z : Option Stamp). z ≡ None → (Some a ≡ None) × (Some b ≡ None))
    (λ under e. absurd (let never : Some b ≡ None = e in cc)) (λ over e. absurd (let never : Some a ≡ None = e in cc)) is

-- nor the greatest version that they tell
found_after : (forgotten counted : List Counted) → greatest_found forgotten ≡ None → greatest_found (forgotten ++ counted) ≡ greatest_found counted
found_after [] counted none = refl
found_after (x ∷ forgotten) counted none =
    let parts = none_greater (told_stamp x.reply) (greatest_found forgotten) none in
    ap (λ (t : Option Stamp). greater_stamp t (greatest_found (forgotten ++ counted))) parts.0 ∙ found_after forgotten counted parts.1

-- a round of ordering does not look back
round_ahead : (p : Phase) → IsRound p → looks_back p ≡ false
round_ahead (LooksBack bound) is = absurd is
round_ahead p is = refl

-- nor does a phase in which a version is made
making_ahead : (d : Coordinator) → MakesIn d → looks_back d.phase ≡ false
making_ahead d (inl stores) = ap (λ (p : Phase). looks_back p) stores
making_ahead d (inr modifies) = ap (λ (p : Phase). looks_back p) modifies.2

-- a reply tells of versions that were dropped only to a phase that looks back
pub dropper_ahead : (block : ℕ) (t : Stamp) (p : Phase) (x : Counted) → looks_back p ≡ false → answers_phase block t x.seat p x.reply ≡ true
    → dropper_of x ≡ None
dropper_ahead block t p x ahead = told p x.reply ahead
  where
    told : (p : Phase) (reply : Reply) → looks_back p ≡ false → answers_phase block t x.seat p reply ≡ true
        → dropper_of (record { seat = x.seat; brick = x.brick; reply = reply }) ≡ None
    told (LooksBack bound) Reply.Retired ahead answers = absurd (false≢true (sym ahead))
    told p Reply.Retired ahead answers = absurd (false≢true answers)
    told p reply ahead answers = refl

-- a phase's number, by the rounds before it
round_of : (c : Coordinator) (p : Phase) → IsRound p → InRound c p → (c.call.phase + 1 ≡ c.round + first_round p) × (1 ≤ first_round p)
round_of c Looks is within = absurd is
round_of c (LooksAt j) is within = absurd is
round_of c Orders is within = (ap (λ (x : ℕ). x + 1) within, omega arith)
round_of c (OrdersAt j) is within = (ap (λ (x : ℕ). x + 1) within, omega arith)
round_of c Recovers is within = (omega (arith, within), omega arith)
round_of c (Descends bound) is within = absurd is
round_of c (LooksBack bound) is within = absurd is
round_of c (Modifies base j) is within = absurd is
round_of c (Bases base) is within = absurd is
round_of c Stores is within = absurd is

-- a version is made in no round of ordering
making_unordered : (d : Coordinator) → MakesIn d → IsRound d.phase → ⊥
making_unordered d makes round = ⊎_elim
    (λ (stores : d.phase ≡ Stores). subst (λ (x : Phase). IsRound x) stores round)
    (λ (modifies : (base : Stamp) × (j : ℕ) × (d.phase ≡ Modifies base j) × (d.base ≡ Some base)).
    subst (λ (x : Phase). IsRound x) modifies.2 round)
    makes

-- a phase that looks for what all keep
look_of : (p : Phase) → is_look p ≡ true → IsLook p
look_of Looks look = tt
look_of (LooksAt j) look = tt
look_of p look = absurd (false≢true look)

-- a phase that looks back
backward : (p : Phase) → looks_back p ≡ true → (bound : Option Stamp) × (p ≡ LooksBack bound)
backward (LooksBack bound) looks = (bound, refl)
backward p looks = absurd (false≢true looks)

-- brick me took a reply to the open operation at coordinator c, which counts at this seat
module _ (setting : Setting) (w : World) (me : BrickId) (now known : ℕ) (c : Coordinator) (from : BrickId) (reply : Reply) (seat : ℕ)
    (books : Books setting w) (tallied : Tallied w) (shows : MessagesShow w) (is : IsCall w me.0 c.call.seq c)
    (sent : WasSent w (record { from = from; to = me; message = Message.Reply c.call reply })) (grows : (w.nodes me.0).known ≤ known)
    (answers : answers_phase setting.layout.block c.stamp seat c.phase reply ≡ true) (may : may_count c from.0 ≡ true) where
  abbrev i : ℕ
  i = me.0

  abbrev k : ℕ
  k = c.call.seq

  abbrev n : ℕ
  n = number_of w me.0 c.call.seq

  abbrev node : Node
  node = w.nodes me.0

  abbrev one : Counted
  one = record { seat = seat; brick = from; reply = reply }

  abbrev replies : Replies
  replies = with_counted w.replies (number_of w me.0 c.call.seq) c.call.phase (record { seat = seat; brick = from; reply = reply })

  abbrev fresh : Option Stamp
  fresh = fresh_stamp me c.stamp.view now (w.nodes me.0).boot known

  abbrev mine : CallBooks setting w me.0 c.call.seq c
  mine = books.calls me.0 c.call.seq c is

  abbrev o : Operation
  o = (books.calls me.0 c.call.seq c is).operation

  own : OperationBooks setting w n o
  own = books.operations n o (books.calls i k c is).operation_is

  its : CallTallied w.packets w.replies i n (w.nodes me.0).scrub c
  its = tallied.calls i k c is

  -- the operation has not ended
  open_now : HasNotEnded w n
  open_now = not_ended setting w i k c books is

  me_is : me ≡ o.brick
  me_is = brick_of me o.brick (sym mine.brick)

  -- another operation's replies stay
  other_replies : (m : ℕ) → m ≢ n → (p : ℕ) → replies m p ≡ w.replies m p
  other_replies m other p =
      ap (λ (f : ℕ → List Counted). f p) (put_other w.replies n (put (w.replies n) c.call.phase (w.replies n c.call.phase ++ (one ∷ []))) m other)

  own_replies : (p : ℕ) → replies n p ≡ put (w.replies n) c.call.phase (w.replies n c.call.phase ++ (one ∷ [])) p
  own_replies p =
      ap (λ (f : ℕ → List Counted). f p) (put_same w.replies n (put (w.replies n) c.call.phase (w.replies n c.call.phase ++ (one ∷ []))))

  -- in another phase they stay
  pub replies_else : (p : ℕ) → p ≢ c.call.phase → replies n p ≡ w.replies n p
  replies_else p other = own_replies p ∙ put_other (w.replies n) c.call.phase (w.replies n c.call.phase ++ (one ∷ [])) p other

  pub replies_later : (p : ℕ) → c.call.phase < p → replies n p ≡ []
  replies_later p above = replies_else p (λ same. omega arith) ∙ its.later p above

  -- in the present phase it is one more
  pub replies_now : IsTally c.phase (replies n c.call.phase) (c.counted ++ (one ∷ []))
  replies_now = record {
    forgotten = its.now.forgotten;
    are = own_replies c.call.phase ∙ put_same (w.replies n) c.call.phase (w.replies n c.call.phase ++ (one ∷ []))
        ∙ ap (λ (l : List Counted). l ++ (one ∷ [])) its.now.are ∙ append_assoc its.now.forgotten c.counted (one ∷ []);
    stops = its.now.stops;
    refused = its.now.refused;
    found = its.now.found;
    whole = its.now.whole;
  }

  -- which of them told the greatest later stamp is as of those that the coordinator has, where it does not look back
  refuser_now : looks_back c.phase ≡ false → greatest_refuser (replies n c.call.phase) ≡ greatest_refuser (c.counted ++ (one ∷ []))
  refuser_now ahead =
      ap (λ (l : List Counted). greatest_refuser l) replies_now.are
      ∙ refuser_after replies_now.forgotten (c.counted ++ (one ∷ [])) (replies_now.refused ahead)

  -- and so is the member that tells of a full store
  full_now : lowest_full (replies n c.call.phase) ≡ lowest_full (c.counted ++ (one ∷ []))
  full_now =
      ap (λ (l : List Counted). lowest_full l) replies_now.are ∙ full_after replies_now.forgotten (c.counted ++ (one ∷ [])) replies_now.stops.2

  -- the one that tells of a later view
  mover_now : lowest_mover (replies n c.call.phase) ≡ lowest_mover (c.counted ++ (one ∷ []))
  mover_now =
      ap (λ (l : List Counted). lowest_mover l) replies_now.are ∙ mover_after replies_now.forgotten (c.counted ++ (one ∷ [])) replies_now.stops.0

  -- the one that tells of versions that were dropped
  dropper_now : lowest_dropper (replies n c.call.phase) ≡ lowest_dropper (c.counted ++ (one ∷ []))
  dropper_now =
      ap (λ (l : List Counted). lowest_dropper l) replies_now.are ∙ dropper_after replies_now.forgotten (c.counted ++ (one ∷ [])) replies_now.stops.1

  -- and the greatest version that they tell, where those that were forgotten told none
  found_now : greatest_found replies_now.forgotten ≡ None → greatest_found (replies n c.call.phase) ≡ greatest_found (c.counted ++ (one ∷ []))
  found_now none =
      ap (λ (l : List Counted). greatest_found l) replies_now.are ∙ found_after replies_now.forgotten (c.counted ++ (one ∷ [])) none

  -- the replies once the coordinator waits on
  tally_waits : (d : Coordinator) → (d.counted ≡ c.counted ++ (one ∷ [])) ⊎ Forgets (with_reply c seat from reply) d
      → IsTally c.phase (replies n c.call.phase) d.counted
  tally_waits d (inl same) = subst (λ (l : List Counted). IsTally c.phase (replies n c.call.phase) l) (sym same) replies_now
  tally_waits d (inr forgets) = record {
    forgotten = replies n c.call.phase;
    are = sym (ap (λ (l : List Counted). replies n c.call.phase ++ l) forgets.counted ∙ append-nil (replies n c.call.phase));
    stops = (mover_now ∙ forgets.stops.0, dropper_now ∙ forgets.stops.1, full_now ∙ forgets.stops.2);
    refused = λ ahead. refuser_now ahead ∙ forgets.refused ahead;
    found = ⊎_elim
        (λ (before : greatest_found replies_now.forgotten ≡ None). ⊎_elim
        (λ (none : greatest_found (c.counted ++ (one ∷ [])) ≡ None). inl (found_now before ∙ none))
        (λ (rebuilds : IsRebuild c.phase). inr rebuilds)
        forgets.found)
        (λ (rebuilds : IsRebuild c.phase). inr rebuilds)
        replies_now.found;
    whole = λ look. absurd (forgets.later look);
  }

  -- the replies once it is in another phase
  tally_begins : (p : ℕ) (d : Coordinator) → d.counted ≡ [] → c.call.phase < p → IsTally d.phase (replies n p) d.counted
  tally_begins p d none above = record {
    forgotten = [];
    are = replies_later p above ∙ sym none;
    stops = (refl, refl, refl);
    refused = λ ahead. refl;
    found = inl refl;
    whole = λ look. refl;
  }

  is_open : IsCall w i k c
  is_open = is

  -- where some members alone count, the replies are theirs, or the phase looks back
  pub alone_now : (more : List Packet) (d : Coordinator) → SameOperation (with_reply c seat from reply) d → (only : List BrickId) → d.only ≡ Some only
      → CountsAlone (w.packets ++ more) (replies n) i d.call only
  alone_now more d same only is p j x at = ⊎_elim
      (λ (old : slice_get (w.replies n p) j ≡ Some x). ⊎_elim
      (λ (one : is_some (seat_in only x.brick.0) ≡ true). inl one)
      (λ (back : AskedBack w.packets i c.call p). inr (stays p back))
      (its.alone only its_only p j x old))
      (λ (new : (p ≡ c.call.phase) × (one ≡ x)).
      subst (λ (z : Counted). (is_some (seat_in only z.brick.0) ≡ true) ⊎ AskedBack (w.packets ++ more) i d.call p) new.1
      (subst (λ (q : ℕ). (is_some (seat_in only from.0) ≡ true) ⊎ AskedBack (w.packets ++ more) i d.call q) (sym new.0)
      (⊎_elim
      (λ (back : looks_back c.phase ≡ true).
      let looks = backward c.phase back in
      let asked = shows.asks_back i k c is_open looks.0 looks.1 in
      inr (stays c.call.phase (c.call, refl, refl, refl, (asked.0, looks.0, asked.1))))
      (λ (named : is_some (seat_in only from.0) ≡ true). inl named)
      (or_cases (looks_back c.phase) (is_some (seat_in only from.0))
      (ap (λ (z : Option (List BrickId)). may_count_in c.phase z from.0) (sym its_only) ∙ may)))))
      (added p j x at)
    where
      its_only : c.only ≡ Some only
      its_only = sym same.only ∙ is

      stays : (q : ℕ) → AskedBack w.packets i c.call q → AskedBack (w.packets ++ more) i d.call q
      stays q = asked_on_back w.packets (w.packets ++ more) i c.call d.call q (λ packet was. (was.0, get_kept w.packets more was.0 packet was.1)) same.boot same.seq

      added : (q a : ℕ) (z : Counted) → slice_get (replies n q) a ≡ Some z → (slice_get (w.replies n q) a ≡ Some z) ⊎ ((q ≡ c.call.phase) × (one ≡ z))
      added q a z here =
          put_each (λ b l. slice_get l a ≡ Some z → (slice_get (w.replies n b) a ≡ Some z) ⊎ ((b ≡ c.call.phase) × (one ≡ z))) (w.replies n) c.call.phase
          (w.replies n c.call.phase ++ (one ∷ []))
          (λ there. ⊎_elim
          (λ (old : slice_get (w.replies n c.call.phase) a ≡ Some z). inl old)
          (λ (new : (b : ℕ) × (slice_get (one ∷ []) b ≡ Some z)). inr (refl, get_one one z new.0 new.1))
          (get_grown (w.replies n c.call.phase) (one ∷ []) a z there))
          (λ b other there. inl there) q (ap (λ (l : List Counted). slice_get l a) (sym (own_replies q)) ∙ here)

  -- a scrub names members in each phase
  named_on : (d : Coordinator) → SameOperation (with_reply c seat from reply) d → (s : Scrub) → node.scrub ≡ Some s → s.seq ≡ d.call.seq
      → is_some d.only ≡ true
  named_on d same s is seq = ap (λ (z : Option (List BrickId)). is_some z) same.only ∙ its.named s is (seq ∙ same.seq)

  -- the replies of its look, where it looks for what all keep; and it stays as it was noted who lagged, once it looks for that no longer
  pub look_replies : is_look c.phase ≡ true → replies n 1 ≡ c.counted ++ (one ∷ [])
  look_replies look =
      let first : (c.call.phase ≡ 1) × (c.round ≡ 1) = look_first c c.phase (look_of c.phase look) mine.in_round in
      ap (λ (p : ℕ). replies n p) (sym first.0) ∙ replies_now.are
      ∙ ap (λ (l : List Counted). l ++ (c.counted ++ (one ∷ []))) (replies_now.whole (look_of c.phase look))

  -- it was noted, and is so in a later phase
  pub lagged_on : (d : Coordinator) (s : Scrub) → SameOperation (with_reply c seat from reply) d → c.call.phase ≤ d.call.phase → NotedLagging (w.replies n 1) c s
      → NotedLagging (replies n 1) d s
  lagged_on d s same later noted =
      let two = noted.0 in (
        omega (arith, two, later),
        noted.1 ∙ ap (λ (l : List Counted). lagging_of c.group.members l) (sym (replies_else 1 (λ equal. omega (arith, two, equal))))
            ∙ ap (λ (g : Group). lagging_of g.members (replies n 1)) (sym same.members),
      )

  -- so it is where its next phase begins
  lagged_begins : (d : Coordinator) → SameOperation (with_reply c seat from reply) d → d.call.phase ≡ c.call.phase + 1
      → ((s : Scrub) → node.scrub ≡ Some s → s.seq ≡ c.call.seq → is_look c.phase ≡ true → s.lagging ≡ lagging_of c.group.members (c.counted ++ (one ∷ [])))
      → (s : Scrub) → node.scrub ≡ Some s → s.seq ≡ d.call.seq → is_look d.phase ≡ false → NotedLagging (replies n 1) d s
  lagged_begins d same phase noted s is seq isnt =
      let its_seq : s.seq ≡ c.call.seq = seq ∙ same.seq in
      ⊎_elim
      (λ (look : is_look c.phase ≡ true).
      let first : (c.call.phase ≡ 1) × (c.round ≡ 1) = look_first c c.phase (look_of c.phase look) mine.in_round in
      let one_is = first.0 in (
        omega (arith, phase, one_is),
        noted s is its_seq look ∙ ap (λ (l : List Counted). lagging_of c.group.members l) (sym (look_replies look))
            ∙ ap (λ (g : Group). lagging_of g.members (replies n 1)) (sym same.members),
      ))
      (λ (later : is_look c.phase ≡ false). lagged_on d s same (omega (arith, phase)) (its.lagged s is its_seq later))
      (cases_Bool (is_look c.phase))

  -- a round of ordering before the present one had counted a later stamp
  refused_before : IsRound c.phase → (p : ℕ) → first_round c.phase ≤ p → p < c.call.phase → is_some (greatest_refuser (replies n p)) ≡ true
  refused_before round p low high =
      ap (λ (l : List Counted). is_some (greatest_refuser l)) (replies_else p (λ same. omega arith)) ∙ its.refused round p low high

  -- a round that was refused is the last of those before the next
  refused_again : IsRound c.phase → is_some (greatest_refuser (c.counted ++ (one ∷ []))) ≡ true
      → (p : ℕ) → first_round c.phase ≤ p → p < c.call.phase + 1 → is_some (greatest_refuser (replies n p)) ≡ true
  refused_again round refused p low high = ⊎_elim
      (λ (last : p ≡ c.call.phase).
      ap (λ (q : ℕ). is_some (greatest_refuser (replies n q))) last ∙ ap (λ (r : Option Refuser). is_some r) (refuser_now (round_ahead c.phase round)) ∙ refused)
      (λ (before : p ≢ c.call.phase). refused_before round p low (omega arith))
      (cases_eq p c.call.phase)

  -- what is sent next was refused before, in each round of ordering
  refused_sends : (d : Coordinator) → SendsFits fresh (with_reply c seat from reply) d → d.call.phase ≡ c.call.phase + 1
      → IsRound d.phase → (p : ℕ) → first_round d.phase ≤ p → p < d.call.phase → is_some (greatest_refuser (replies n p)) ≡ true
  refused_sends d fits phase round p low high = by fits.how
    where
      recovers : (IsLook c.phase × (d.phase ≡ Recovers)) ⊎ (((bound : Stamp) × (d.phase ≡ Descends bound)) ⊎ BackFits (with_reply c seat from reply) d)
          → is_some (greatest_refuser (replies n p)) ≡ true
      recovers (inl (look, is)) =
          let first : (c.call.phase ≡ 1) × (c.round ≡ 1) = look_first c c.phase look mine.in_round in
          let two : first_round d.phase ≡ 2 = ap (λ (x : Phase). first_round x) is in
          absurd (omega (arith, first.0))
      recovers (inr (inl (bound, is))) = absurd (subst (λ (x : Phase). IsRound x) is round)
      recovers (inr (inr back)) = absurd (subst (λ (x : Phase). IsRound x) (back_phase (with_reply c seat from reply) d back).1 round)

      rebuilds : RebuildsIn (with_reply c seat from reply) d → is_some (greatest_refuser (replies n p)) ≡ true
      rebuilds (inl (u, j, was, now, base)) = absurd (subst (λ (x : Phase). IsRound x) now round)
      rebuilds (inr (u, was, now, base)) = absurd (subst (λ (x : Phase). IsRound x) now round)

      by : ReordersFits fresh (with_reply c seat from reply) d
          ⊎ (RecoversFits (with_reply c seat from reply) d ⊎ RebuildsFits (with_reply c seat from reply) d)
          → is_some (greatest_refuser (replies n p)) ≡ true
      by (inl again) =
          let same : first_round d.phase ≡ first_round c.phase = ap (λ (x : Phase). first_round x) again.phase in
          refused_again again.was again.refused p (omega arith) (omega arith)
      by (inr (inl goes)) = recovers goes.phase
      by (inr (inr builds)) = rebuilds builds.how

  -- an operation that has begun to look back goes on so, in a phase no earlier
  back_on : (more : List Packet) (call : Call) → call.boot ≡ c.call.boot → call.seq ≡ c.call.seq → c.call.phase ≤ call.phase
      → BeganBack w.packets (w.replies n) i c.call → BeganBack (w.packets ++ more) (replies n) i call
  back_on more call =
      began_on w.packets (w.packets ++ more) (w.replies n) (replies n) i c.call call (λ packet was. (was.0, get_kept w.packets more was.0 packet was.1))
      (λ p less. replies_else p (λ same. omega (arith, less)))

  -- and one that begins so found nothing before
  back_begins : (more : List Packet) (d : Coordinator) → SendsFits fresh (with_reply c seat from reply) d → (d.phase ≡ LooksBack None)
      → looks_back c.phase ≡ false → greatest_found (c.counted ++ (one ∷ [])) ≡ None → (IsRebuild c.phase → ⊥)
      → (to : BrickId) × IsAmong (w.packets ++ more) (record { from = record { 0 = i }; to = to; message = Message.Request d.call (Request.OldRead None) })
      → BeganBack (w.packets ++ more) (replies n) i d.call
  back_begins more d fits now ahead nothing other asked = record {
    first = d.call;
    before = c.call.phase;
    member = asked.0;
    boot = refl;
    seq = refl;
    most = omega arith;
    asked = asked.1;
    follows = ap (λ (x : Call). x.phase) fits.call;
    nothing = ⊎_elim
        (λ (before : greatest_found replies_now.forgotten ≡ None). found_now before ∙ nothing)
        (λ (rebuilds : IsRebuild c.phase). absurd (other rebuilds))
        replies_now.found;
  }

  -- so what is sent next
  back_sends : (more : List Packet) (d : Coordinator) → SendsFits fresh (with_reply c seat from reply) d
      → (d.phase ≡ LooksBack None
      → (to : BrickId) × IsAmong (w.packets ++ more) (record { from = record { 0 = i }; to = to; message = Message.Request d.call (Request.OldRead None) }))
      → looks_back d.phase ≡ true → BeganBack (w.packets ++ more) (replies n) i d.call
  back_sends more d fits asked looks = by fits.how
    where
      Back : Type 0
      Back = BeganBack (w.packets ++ more) (replies n) i d.call

      never : looks_back d.phase ≡ false → Back
      never ahead = absurd (false≢true (sym ahead ∙ looks))

      recovers : (IsLook c.phase × (d.phase ≡ Recovers)) ⊎ (((bound : Stamp) × (d.phase ≡ Descends bound)) ⊎ BackFits (with_reply c seat from reply) d) → Back
      recovers (inl (look, is)) = never (ap (λ (p : Phase). looks_back p) is)
      recovers (inr (inl (bound, is))) = never (ap (λ (p : Phase). looks_back p) is)
      recovers (inr (inr (inl (now, ahead, nothing, other)))) = back_begins more d fits now ahead nothing other (asked now)
      recovers (inr (inr (inr (bound, v, was, now)))) =
          let phase : d.call.phase ≡ c.call.phase + 1 = ap (λ (x : Call). x.phase) fits.call in
          back_on more d.call fits.same.boot fits.same.seq (omega (arith, phase)) (its.back (ap (λ (p : Phase). looks_back p) was))

      rebuilds : RebuildsIn (with_reply c seat from reply) d → Back
      rebuilds (inl (u, j, was, now, base)) = never (ap (λ (p : Phase). looks_back p) now)
      rebuilds (inr (u, was, now, base)) = never (ap (λ (p : Phase). looks_back p) now)

      by : ReordersFits fresh (with_reply c seat from reply) d
          ⊎ (RecoversFits (with_reply c seat from reply) d ⊎ RebuildsFits (with_reply c seat from reply) d) → Back
      by (inl again) = never (ap (λ (p : Phase). looks_back p) again.phase ∙ round_ahead c.phase again.was)
      by (inr (inl goes)) = recovers goes.phase
      by (inr (inr builds)) = rebuilds builds.how

  -- the reply was sent to the operation
  own_sent : CountedSent w n c.call.phase one
  own_sent = (
    o,
    mine.operation_is,
    (
      c.call,
      (mine.call_boot ∙ sym mine.boot, sym mine.seq),
      refl,
      subst (λ (b : BrickId). WasSent w (record { from = from; to = b; message = Message.Reply c.call reply })) me_is sent,
    ),
  )

  -- each reply of the history is an old one, or was sent
  counted_new : (m p a : ℕ) (x : Counted) → slice_get (replies m p) a ≡ Some x → (slice_get (w.replies m p) a ≡ Some x) ⊎ CountedSent w m p x
  counted_new m p a x =
      put_each (λ b f. slice_get (f p) a ≡ Some x → (slice_get (w.replies b p) a ≡ Some x) ⊎ CountedSent w b p x) w.replies n
      (put (w.replies n) c.call.phase (w.replies n c.call.phase ++ (one ∷ [])))
      (put_each (λ q l. slice_get l a ≡ Some x → (slice_get (w.replies n q) a ≡ Some x) ⊎ CountedSent w n q x) (w.replies n) c.call.phase
      (w.replies n c.call.phase ++ (one ∷ []))
      (λ at. ⊎_elim
      (λ (old : slice_get (w.replies n c.call.phase) a ≡ Some x). inl old)
      (λ (new : (j : ℕ) × (slice_get (one ∷ []) j ≡ Some x)).
      inr (subst (λ (z : Counted). CountedSent w n c.call.phase z) (get_one one x new.0 new.1) own_sent))
      (get_grown (w.replies n c.call.phase) (one ∷ []) a x at))
      (λ q other at. inl at) p)
      (λ b other at. inl at) m

  counted_next : (next : World) → Furthers w next → (m p a : ℕ) (x : Counted) → slice_get (replies m p) a ≡ Some x
      → (slice_get (w.replies m p) a ≡ Some x) ⊎ CountedSent next m p x
  counted_next next on m p a x at = ⊎_elim
      (λ (old : slice_get (w.replies m p) a ≡ Some x). inl old)
      (λ (new : CountedSent w m p x). inr (counted_on w next on m p x new))
      (counted_new m p a x at)

  unbegun : (m p : ℕ) → w.begun < m → replies m p ≡ []
  unbegun m p above = other_replies m (λ same. omega (arith, own.begun)) p ∙ tallied.unbegun m p above

  -- the open operations, where this one is at d
  call_at : (time busy : ℕ) (d : Option Coordinator) (j l : ℕ) (e : Coordinator) → (put w.nodes i (with_call node time busy k d) j).calls l ≡ Some e
      → ((j ≡ i) × (l ≡ k) × (d ≡ Some e)) ⊎ (IsCall w j l e × (j ≡ i → l ≡ k → ⊥))
  call_at time busy d j l e =
      put_each (λ a y. y.calls l ≡ Some e → ((a ≡ i) × (l ≡ k) × (d ≡ Some e)) ⊎ (IsCall w a l e × (a ≡ i → l ≡ k → ⊥))) w.nodes i
      (with_call node time busy k d)
      (put_each (λ b z. z ≡ Some e → ((i ≡ i) × (b ≡ k) × (d ≡ Some e)) ⊎ (IsCall w i b e × (i ≡ i → b ≡ k → ⊥))) node.calls k d
      (λ at. inl (refl, refl, at)) (λ b other at. inr (at, λ same seq. other seq)) l)
      (λ a other at. inr (at, λ same seq. other same)) j

  -- bricks keep their numbers
  keeps : (time busy : ℕ) (d : Option Coordinator) → node.known ≤ time → (j : ℕ)
      → KeepsNumbers (w.nodes j) (put w.nodes i (with_call node time busy k d) j)
  keeps time busy d later = keeps_put w i (with_call node time busy k d) (keeps_with_call node time busy k d later)

  -- the number of a call, once this one is at d
  abbrev number_next : ℕ → ℕ → Option Coordinator → ℕ → ℕ → ℕ
  number_next time busy d j l = w.numbers j (put w.nodes i (with_call node time busy k d) j).boot l

  -- the history of each open operation, where this one is at d, or has ended
  calls_next : (time busy : ℕ) (d : Option Coordinator) (more : List Packet) → node.known ≤ time
      → ((e : Coordinator) → d ≡ Some e → CallTallied (w.packets ++ more) replies i n node.scrub e)
      → (j l : ℕ) (e : Coordinator) → (put w.nodes i (with_call node time busy k d) j).calls l ≡ Some e
      → CallTallied (w.packets ++ more) replies j (number_next time busy d j l) (put w.nodes i (with_call node time busy k d) j).scrub e
  calls_next time busy d more later new j l e at =
      subst (λ (b : ℕ). CallTallied (w.packets ++ more) replies j (w.numbers j b l) (put w.nodes i (with_call node time busy k d) j).scrub e)
      (sym (keeps time busy d later j).boot)
      (subst (λ (s : Option Scrub). CallTallied (w.packets ++ more) replies j (number_of w j l) s e) (sym scrubs)
      (⊎_elim
      (λ (own : (j ≡ i) × (l ≡ k) × (d ≡ Some e)).
      subst (λ (a : ℕ). CallTallied (w.packets ++ more) replies a (number_of w a l) (w.nodes a).scrub e) (sym own.0)
      (subst (λ (b : ℕ). CallTallied (w.packets ++ more) replies i (number_of w i b) node.scrub e) (sym own.1) (new e own.2)))
      (λ (other : IsCall w j l e × (j ≡ i → l ≡ k → ⊥)).
      let apart : number_of w j l ≢ n = λ same.
      (let both : (j ≡ i) × (l ≡ k) = calls_apart setting w i k j l c e mine (books.calls j l e other.0) same in other.1 both.0 both.1) in
      call_tallied_on w.packets (w.packets ++ more) w.replies replies j (number_of w j l) (number_of w j l) (w.nodes j).scrub (w.nodes j).scrub e
      (λ packet was. (was.0, get_kept w.packets more was.0 packet was.1)) refl (other_replies (number_of w j l) apart)
      (lags_same (w.nodes j).scrub (w.nodes j).scrub e refl) (tallied.calls j l e other.0))
      (call_at time busy d j l e at)))
    where
      scrubs : (put w.nodes i (with_call node time busy k d) j).scrub ≡ (w.nodes j).scrub
      scrubs = put_each (λ x (y : Node). y.scrub ≡ (w.nodes x).scrub) w.nodes i (with_call node time busy k d) refl (λ x other. refl) j

  -- this one is there
  at_next : (time busy : ℕ) (d : Coordinator) → (put w.nodes i (with_call node time busy k (Some d)) i).calls k ≡ Some d
  at_next time busy d =
      ap (λ (x : Node). x.calls k) (put_same w.nodes i (with_call node time busy k (Some d))) ∙ put_same node.calls k (Some d)

  calls_by : (time busy : ℕ) (d : Coordinator) (more : List Packet) → node.known ≤ time → CallTallied (w.packets ++ more) replies i n node.scrub d
      → (j l : ℕ) (e : Coordinator) → (put w.nodes i (with_call node time busy k (Some d)) j).calls l ≡ Some e
      → CallTallied (w.packets ++ more) replies j (number_next time busy (Some d) j l) (put w.nodes i (with_call node time busy k (Some d)) j).scrub e
  calls_by time busy d more later new =
      calls_next time busy (Some d) more later (λ e at. subst (λ (z : Coordinator). CallTallied (w.packets ++ more) replies i n node.scrub z) (same_Some d e at) new)

  -- the next world goes on from this one
  furthers : (next : World) (time busy : ℕ) (d : Option Coordinator) (more : List Packet) → next.nodes ≡ put w.nodes i (with_call node time busy k d)
      → node.known ≤ time → next.packets ≡ w.packets ++ more → next.replies ≡ replies → ((j b : ℕ) → next.past j b ≡ w.past j b)
      → ((m : ℕ) (e : Operation) → IsOperation w m e
      → (p : Operation) × IsOperation next m p × GoesOn e p)
      → Furthers w next
  furthers next time busy d more nodes later packets same past operations =
      let kept : (j : ℕ) → KeepsNumbers (w.nodes j) (next.nodes j) = λ j.
      subst (λ (f : ℕ → Node). KeepsNumbers (w.nodes j) (f j)) (sym nodes) (keeps time busy d later j) in
      record {
        sent = sent_by w next more packets;
        known = known_kept w next past (λ j. (kept j).boot) (λ j. (kept j).known);
        operations = operations;
        replies = λ m. ⊎_elim
            (λ (at : m ≡ n). inr (subst (λ (x : ℕ). HasNotEnded w x) (sym at) open_now))
            (λ (other : m ≢ n). inl (λ p. ap (λ (f : Replies). f m p) same ∙ other_replies m other p))
            (cases_eq m n);
      }

  -- the world after what the coordinator decides
  abbrev after : Next → World
  after next =
      world_stepped setting (record w {
        replies = with_counted w.replies (number_of w me.0 c.call.seq) c.call.phase
            (record { seat = seat; brick = from; reply = reply });
      }) me
      (carried_out setting me (w.nodes me.0) known c next)

  -- the world after an end, with so many operations open, and these marks and operations
  abbrev ended_with : ℕ → List Mark → (ℕ → Option Operation) → Option Stamp → World
  ended_with busy marks operations stored =
      record {
        nodes = put w.nodes me.0 (with_call (w.nodes me.0) known busy c.call.seq None);
        after = w.after;
        up = w.up;
        clocks = w.clocks;
        packets = w.packets ++ collect_packets me c stored;
        marks = marks;
        marked = w.marked;
        begun = w.begun;
        operations = operations;
        numbers = w.numbers;
        choices = choices_after w.choices me (with_call (w.nodes me.0) known busy c.call.seq None) [];
        past = w.past;
        contents = w.contents;
        held = with_held w.held me.0 (with_call (w.nodes me.0) known busy c.call.seq None);
        replies = with_counted w.replies (number_of w me.0 c.call.seq) c.call.phase
            (record { seat = seat; brick = from; reply = reply });
        reached = w.reached;
      }

  same_operations : (m : ℕ) (e : Operation) → IsOperation w m e → (p : Operation) × IsOperation w m p × GoesOn e p
  same_operations m e at = (e, at, record { brick = refl; boot = refl; seq = refl; ask = refl; mark = refl })

  -- so do operations of which this one changed, and goes on as the same
  changed : (f : ℕ → Option Operation) (change : Option Operation → Option Operation)
      → ((e : Operation) → (p : Operation) × (change (Some e) ≡ Some p) × GoesOn e p)
      → (m : ℕ) (e : Operation) → f m ≡ Some e → (p : Operation) × (put f n (change (f n)) m ≡ Some p) × GoesOn e p
  changed f change to m e =
      put_each (λ a y. f a ≡ Some e → (p : Operation) × (y ≡ Some p) × GoesOn e p) f n (change (f n))
      (λ at. (let p = to e in (p.0, ap change at ∙ p.1, p.2)))
      (λ a other at. (e, at, record { brick = refl; boot = refl; seq = refl; ask = refl; mark = refl })) m

  -- each reply that counts was sent
  each_sent : EachCounted (λ y. WasSent w (record { from = y.brick; to = me; message = Message.Reply c.call y.reply })) (c.counted ++ (one ∷ []))
  each_sent =
      each_more (λ y. WasSent w (record { from = y.brick; to = me; message = Message.Reply c.call y.reply })) c.counted one
      (shows.counted i k c is) sent

  -- and tells of versions that were dropped only where the phase looks back
  each_kept : looks_back c.phase ≡ false → EachCounted (λ y. dropper_of y ≡ None) (c.counted ++ (one ∷ []))
  each_kept ahead =
      each_more (λ y. dropper_of y ≡ None) c.counted one (shows.kept i k c is ahead) (dropper_ahead setting.layout.block c.stamp c.phase one ahead answers)

  -- the brick whose full store aborts the operation told so
  full_shown : (busy : ℕ) (marks : List Mark) (operations : ℕ → Option Operation) (stored : Option Stamp) (brick : BrickId) (live : ℕ) → FullFits (with_reply c seat from reply) brick live
      → Furthers w (ended_with busy marks operations stored) → OwnShown (ended_with busy marks operations stored) n (Cause.Full brick live)
  full_shown busy marks operations stored brick live fits on =
      let P : Counted → Type 0 = λ y. WasSent w (record { from = y.brick; to = me; message = Message.Reply c.call y.reply }) in
      let f : FullMember = record { seat = fits.seat; brick = brick; live = live } in
      let found = full_counted P (c.counted ++ (one ∷ [])) f each_sent fits.told in
      let told : WasSent w (record { from = brick; to = me; message = Message.Reply c.call (Reply.Full live) })
      = subst (λ (b : BrickId). WasSent w (record { from = b; to = me; message = Message.Reply c.call (Reply.Full live) })) found.3
      (subst (λ (y : Reply). WasSent w (record { from = found.0.brick; to = me; message = Message.Reply c.call y })) found.2 found.1) in
      let goes = on.operations n o mine.operation_is in (
        goes.0,
        goes.1,
        record {
          call = c.call;
          seat = fits.seat;
          own = (mine.call_boot ∙ sym mine.boot ∙ sym goes.2.boot, sym mine.seq ∙ sym goes.2.seq);
          told = subst (λ (b : BrickId).
              WasSent (ended_with busy marks operations stored) (record { from = brick; to = b; message = Message.Reply c.call (Reply.Full live) }))
              (me_is ∙ sym goes.2.brick)
              (on.sent (record { from = brick; to = me; message = Message.Reply c.call (Reply.Full live) }) told);
          lowest = full_now ∙ fits.told;
          final = replies_later;
        },
      )

  -- the evidence of an abort for a later view
  moved_shown : (busy : ℕ) (marks : List Mark) (operations : ℕ → Option Operation) (stored : Option Stamp) (brick : BrickId) (view : ViewNo) → MovedFits (with_reply c seat from reply) brick view
      → Furthers w (ended_with busy marks operations stored) → OwnShown (ended_with busy marks operations stored) n (Cause.Moved brick view)
  moved_shown busy marks operations stored brick view fits on =
      let P : Counted → Type 0 = λ y. WasSent w (record { from = y.brick; to = me; message = Message.Reply c.call y.reply }) in
      let m : Mover = record { seat = fits.seat; brick = brick; view = view } in
      let found = mover_counted P (c.counted ++ (one ∷ [])) m each_sent fits.told in
      let told : WasSent w (record { from = brick; to = me; message = Message.Reply c.call (Reply.Moved view found.2.0) })
      = subst (λ (b : BrickId). WasSent w (record { from = b; to = me; message = Message.Reply c.call (Reply.Moved view found.2.0) })) found.3
      (subst (λ (y : Reply). WasSent w (record { from = found.0.brick; to = me; message = Message.Reply c.call y })) found.2.1 found.1) in
      let goes = on.operations n o mine.operation_is in (
        goes.0,
        goes.1,
        record {
          call = c.call;
          seat = fits.seat;
          lineage = found.2.0;
          own = (mine.call_boot ∙ sym mine.boot ∙ sym goes.2.boot, sym mine.seq ∙ sym goes.2.seq);
          told = subst (λ (b : BrickId).
              WasSent (ended_with busy marks operations stored) (record { from = brick; to = b; message = Message.Reply c.call (Reply.Moved view found.2.0) }))
              (me_is ∙ sym goes.2.brick)
              (on.sent (record { from = brick; to = me; message = Message.Reply c.call (Reply.Moved view found.2.0) }) told);
          lowest = mover_now ∙ fits.told;
          final = replies_later;
        },
      )

  -- the evidence of an abort for versions that were dropped
  gone_shown : (busy : ℕ) (marks : List Mark) (operations : ℕ → Option Operation) (stored : Option Stamp) (brick : BrickId) → GoneFits (with_reply c seat from reply) brick
      → Furthers w (ended_with busy marks operations stored) → OwnShown (ended_with busy marks operations stored) n (Cause.Gone brick)
  gone_shown busy marks operations stored brick fits on =
      let next : World = ended_with busy marks operations stored in
      let P : Counted → Type 0 = λ y. WasSent w (record { from = y.brick; to = me; message = Message.Reply c.call y.reply }) in
      let d : Dropper = record { seat = fits.seat; brick = brick } in
      let found = dropper_counted P (c.counted ++ (one ∷ [])) d each_sent fits.told in
      let told : WasSent w (record { from = brick; to = me; message = Message.Reply c.call Reply.Retired })
      = subst (λ (b : BrickId). WasSent w (record { from = b; to = me; message = Message.Reply c.call Reply.Retired })) found.3
      (subst (λ (y : Reply). WasSent w (record { from = found.0.brick; to = me; message = Message.Reply c.call y })) found.2 found.1) in
      let goes = on.operations n o mine.operation_is in
      let by : me ≡ goes.0.brick = me_is ∙ sym goes.2.brick in
      let began : BeganBack next.packets (replies n) i c.call = back_on (collect_packets me c stored) c.call refl refl (omega arith) (its.back (looked d fits.told)) in
      let own : IsCallOf c.call goes.0 = (mine.call_boot ∙ sym mine.boot ∙ sym goes.2.boot, sym mine.seq ∙ sym goes.2.seq) in (
        goes.0,
        goes.1,
        record {
          call = c.call;
          seat = fits.seat;
          first = began.first;
          before = began.before;
          member = began.member;
          own = own;
          told = subst (λ (b : BrickId). WasSent next (record { from = brick; to = b; message = Message.Reply c.call Reply.Retired })) by
              (on.sent (record { from = brick; to = me; message = Message.Reply c.call Reply.Retired }) told);
          lowest = dropper_now ∙ fits.told;
          final = replies_later;
          first_own = (began.boot ∙ own.0, began.seq ∙ own.1);
          most = began.most;
          asked = subst (λ (b : BrickId). RequestSent next began.first b began.member (Request.OldRead None)) by began.asked;
          follows = began.follows;
          nothing = began.nothing;
        },
      )
    where
      -- no reply tells so to a phase that does not look back
      looked : (d : Dropper) → lowest_dropper (c.counted ++ (one ∷ [])) ≡ Some d → looks_back c.phase ≡ true
      looked d is = ⊎_elim
          (λ (back : looks_back c.phase ≡ true). back)
          (λ (ahead : looks_back c.phase ≡ false).
          let found = dropper_counted (λ y. dropper_of y ≡ None) (c.counted ++ (one ∷ [])) d (each_kept ahead) is in
          absurd (let never : dropper_of (record { seat = found.0.seat; brick = found.0.brick; reply = Reply.Retired }) ≡ None
          = ap (λ (r : Reply). dropper_of (record { seat = found.0.seat; brick = found.0.brick; reply = r })) (sym found.2) ∙ found.1 in cc))
          (cases_Bool (looks_back c.phase))

  -- the evidence of an abort for a later stamp
  later_shown : (busy : ℕ) (marks : List Mark) (operations : ℕ → Option Operation) (stored : Option Stamp) (brick : BrickId) (x : Stamp) → AbortFits fresh (with_reply c seat from reply) brick x
      → OrdersAlone (ended_with busy marks operations stored) → Furthers w (ended_with busy marks operations stored)
      → OwnShown (ended_with busy marks operations stored) n (Cause.Later brick x)
  later_shown busy marks operations stored brick x fits later on =
      let P : Counted → Type 0 = λ y. WasSent w (record { from = y.brick; to = me; message = Message.Reply c.call y.reply }) in
      let r : Refuser = record { seat = fits.seat; brick = brick; stamp = x } in
      let found = refuser_counted P (c.counted ++ (one ∷ [])) r each_sent fits.refused in
      let told : WasSent w (record { from = brick; to = me; message = Message.Reply c.call (Reply.Later x) })
      = subst (λ (b : BrickId). WasSent w (record { from = b; to = me; message = Message.Reply c.call (Reply.Later x) })) found.3
      (subst (λ (y : Reply). WasSent w (record { from = found.0.brick; to = me; message = Message.Reply c.call y })) found.2 found.1) in
      let low = shows.later c.call brick me x told in
      let goes = on.operations n o mine.operation_is in
      let by : me ≡ goes.0.brick = me_is ∙ sym goes.2.brick in
      let boot : goes.0.boot ≡ node.boot = goes.2.boot ∙ mine.boot in
      let own : IsCallOf c.call goes.0 = (mine.call_boot ∙ sym boot, sym mine.seq ∙ sym goes.2.seq) in (
        goes.0,
        goes.1,
        record {
          call = c.call;
          stamp = low.0;
          seat = fits.seat;
          own = own;
          asked = subst (λ (b : BrickId). AskedAt (ended_with busy marks operations stored) c.call b brick low.0) by
              (asked_on w (ended_with busy marks operations stored) on c.call me brick low.0 low.1);
          told = subst (λ (b : BrickId). WasSent (ended_with busy marks operations stored)
              (record { from = brick; to = b; message = Message.Reply c.call (Reply.Later x) })) by
              (on.sent (record { from = brick; to = me; message = Message.Reply c.call (Reply.Later x) }) told);
          above = low.2;
          greatest = refuser_now (ahead c.phase refl fits.last) ∙ fits.refused;
          last = λ order. last_round goes.0 by boot (ordered_round goes.0 goes.1 by own (goes.2.ask ∙ sym mine.ask) low.0 low.1 order) fits.last;
          final = replies_later;
        },
      )
    where
      -- it does not look back
      ahead : (p : Phase) → c.phase ≡ p → LastFits fresh (with_reply c seat from reply) p → looks_back c.phase ≡ false
      ahead (LooksBack bound) at last = absurd last
      ahead p at last = ap (λ (x : Phase). looks_back x) at

      -- the time that the brick knows in its present boot
      known_now : known_in (ended_with busy marks operations stored) i node.boot ≡ known
      known_now =
          ap (λ (y : Node). if nat_eq node.boot y.boot then y.known else w.past i node.boot)
          (put_same w.nodes i (with_call node known busy k None))
          ∙ ap (λ (t : Bool). if t then known else w.past i node.boot) (eq-eqb node.boot node.boot refl)

      ends_rounds : (e : Operation) → me ≡ e.brick → e.boot ≡ node.boot → IsRound c.phase → NoRoundFits fresh (with_reply c seat from reply)
          → IsLastRound (ended_with busy marks operations stored) n e c.call.phase
      ends_rounds e by boot round (inl none) =
          inr (subst (λ (b : BrickId). has_later_time (known_in (ended_with busy marks operations stored) b.0 e.boot) ≡ false) by
          (subst (λ (b : ℕ). has_later_time (known_in (ended_with busy marks operations stored) i b) ≡ false) (sym boot)
          (ap (λ (y : ℕ). has_later_time y) known_now ∙ none_left me c.stamp.view now node.boot known none)))
      ends_rounds e by boot round (inr most) =
          let facts = round_of c c.phase round mine.in_round in
          inl (omega (arith, facts.0, facts.1), λ p few less. refused_before round p (omega (arith, facts.0)) less)

      -- the operation, which sent its order under this call, is in a round of ordering
      ordered_round : (e : Operation) → IsOperation (ended_with busy marks operations stored) n e → me ≡ e.brick → IsCallOf c.call e → e.ask ≡ c.ask
          → (t : Stamp) → AskedAt w c.call me brick t → RequestSent (ended_with busy marks operations stored) c.call e.brick brick (order_of e.ask.op t)
          → IsRound c.phase
      ordered_round e is_e by own ask t asked order =
          let sent : RequestSent (ended_with busy marks operations stored) c.call e.brick brick asked.0
          = subst (λ (b : BrickId). RequestSent (ended_with busy marks operations stored) c.call b brick asked.0) by
          (on.sent (record { from = me; to = brick; message = Message.Request c.call asked.0 }) asked.1) in
          shows.in_round i k c brick t is
          (subst (λ (r : Request). RequestSent w c.call me brick r)
          (later n e c.call brick brick asked.0 t t is_e own sent asked.2 order ∙ ap (λ (a : Ask). order_of a.op t) ask)
          asked.1)

      last_by : (e : Operation) → me ≡ e.brick → e.boot ≡ node.boot → (p : Phase) → c.phase ≡ p → IsRound p
          → LastFits fresh (with_reply c seat from reply) p → IsLastRound (ended_with busy marks operations stored) n e c.call.phase
      last_by e by boot Orders at round fits = ends_rounds e by boot (subst (λ (x : Phase). IsRound x) (sym at) round) fits
      last_by e by boot (OrdersAt j) at round fits = ends_rounds e by boot (subst (λ (x : Phase). IsRound x) (sym at) round) fits
      last_by e by boot Recovers at round fits = ends_rounds e by boot (subst (λ (x : Phase). IsRound x) (sym at) round) fits
      last_by e by boot p at round fits = absurd round

      last_round : (e : Operation) → me ≡ e.brick → e.boot ≡ node.boot → IsRound c.phase
          → LastFits fresh (with_reply c seat from reply) c.phase → IsLastRound (ended_with busy marks operations stored) n e c.call.phase
      last_round e by boot round fits = last_by e by boot c.phase refl round fits

  -- the evidence of an abort, by its cause
  abort_shown : (busy : ℕ) (marks : List Mark) (operations : ℕ → Option Operation) (stored : Option Stamp) (cause : Cause) → AnswerFits fresh (with_reply c seat from reply) (Aborted cause)
      → OrdersAlone (ended_with busy marks operations stored) → Furthers w (ended_with busy marks operations stored)
      → OwnShown (ended_with busy marks operations stored) n cause
  abort_shown busy marks operations stored (Cause.Later brick x) fits later on = later_shown busy marks operations stored brick x fits later on
  abort_shown busy marks operations stored (Cause.Full brick live) fits later on = full_shown busy marks operations stored brick live fits on
  abort_shown busy marks operations stored (Cause.Moved brick view) fits later on = moved_shown busy marks operations stored brick view fits on
  abort_shown busy marks operations stored (Cause.Gone brick) fits later on = gone_shown busy marks operations stored brick fits on

  -- and after an end, where marks and operations show no other
  tallied_ends : (busy : ℕ) (marks : List Mark) (operations : ℕ → Option Operation) (answer : Answer) (stored : Option Stamp)
      → AnswerFits fresh (with_reply c seat from reply) answer
      → ((m : ℕ) (e : Operation) → IsOperation w m e → (p : Operation) × (operations m ≡ Some p) × GoesOn e p)
      → ((a p m : ℕ) (cause : Cause) → slice_get marks a ≡ Some (End p m (Aborted cause))
      → (slice_get w.marks a ≡ Some (End p m (Aborted cause))) ⊎ ((1 ≤ o.mark) × (o.mark ≡ m) × (answer ≡ Aborted cause)))
      → ((m : ℕ) (e : Operation) (cause : Cause) → operations m ≡ Some e → e.closed ≡ Some (Some cause)
      → ((d : Operation) × IsOperation w m d × (d.closed ≡ Some (Some cause))) ⊎ ((m ≡ n) × (answer ≡ Aborted cause)))
      → OrdersAlone (ended_with busy marks operations stored) → Tallied (ended_with busy marks operations stored)
  tallied_ends busy marks operations answer stored fits goes added closes later =
      tallied_on setting w next books tallied later on
      (calls_next known busy None (collect_packets me c stored) grows (λ e at. absurd (let never : None ≡ Some e = at in cc)))
      unbegun (counted_next next on)
      (λ a p m cause at. ⊎_elim
      (λ (old : slice_get w.marks a ≡ Some (End p m (Aborted cause))). inl old)
      (λ (new : (1 ≤ o.mark) × (o.mark ≡ m) × (answer ≡ Aborted cause)).
      let its_one = own_shown cause new.2 in
      let from_one = new.0 in
      let mark = new.1 in
      inr (omega (arith, from_one, mark), (n, its_one.0, its_one.1, own_mark_is its_one.0 its_one.1 ∙ mark, its_one.2)))
      (added a p m cause at))
      (λ m e cause at ended. ⊎_elim
      (λ (old : (d : Operation) × IsOperation w m d × (d.closed ≡ Some (Some cause))). inl old)
      (λ (new : (m ≡ n) × (answer ≡ Aborted cause)).
      let its_one = own_shown cause new.1 in
      let one : its_one.0 ≡ e = same_Some its_one.0 e (sym its_one.1 ∙ ap operations (sym new.0) ∙ at) in
      inr (subst (λ (z : Operation). Evidence next m z cause) one
      (subst (λ (x : ℕ). Evidence next x its_one.0 cause) (sym new.0) its_one.2)))
      (closes m e cause at ended))
    where
      next : World
      next = ended_with busy marks operations stored

      on : Furthers w next
      on = furthers next known busy None (collect_packets me c stored) refl grows refl refl (λ j b. refl) goes

      own_shown : (cause : Cause) → answer ≡ Aborted cause → OwnShown next n cause
      own_shown cause by =
          abort_shown busy marks operations stored cause (subst (λ (z : Answer). AnswerFits fresh (with_reply c seat from reply) z) by fits) later on

      own_mark_is : (p : Operation) → operations n ≡ Some p → p.mark ≡ o.mark
      own_mark_is p at =
          (let went = goes n o mine.operation_is in
          ap (λ (z : Operation). z.mark) (same_Some p went.0 (sym at ∙ went.1)) ∙ went.2.mark)

  -- an operation that a change leaves open was as closed before
  kept_closed : (f : ℕ → Option Operation) (change : Option Operation → Option Operation)
      → ((d : Operation) → (p : Operation) × (change (Some d) ≡ Some p) × (p.closed ≡ d.closed)) → change None ≡ None
      → (m : ℕ) (e : Operation) → put f n (change (f n)) m ≡ Some e → (d : Operation) × (f m ≡ Some d) × (e.closed ≡ d.closed)
  kept_closed f change some none m e =
      put_each (λ a y. y ≡ Some e → (d : Operation) × (f a ≡ Some d) × (e.closed ≡ d.closed)) f n (change (f n)) (λ at. by (f n) refl at)
      (λ a other at. (e, at, refl)) m
    where
      by : (z : Option Operation) → f n ≡ z → change z ≡ Some e → (d : Operation) × (f n ≡ Some d) × (e.closed ≡ d.closed)
      by None is at = absurd (let never : None ≡ Some e = sym none ∙ at in cc)
      by (Some d) is at =
          let p = some d in
          (d, is, ap (λ (z : Operation). z.closed) (same_Some e p.0 (sym at ∙ p.1)) ∙ p.2)

  -- and one that is closed was, or is this one
  closed_by : (f : ℕ → Option Operation) (cause : Option Cause) (m : ℕ) (e : Operation) (why : Cause) → put f n (with_closed cause (f n)) m ≡ Some e
      → e.closed ≡ Some (Some why) → ((d : Operation) × (f m ≡ Some d) × (d.closed ≡ Some (Some why))) ⊎ ((m ≡ n) × (cause ≡ Some why))
  closed_by f cause m e why =
      put_each (λ a y. y ≡ Some e → e.closed ≡ Some (Some why)
      → ((d : Operation) × (f a ≡ Some d) × (d.closed ≡ Some (Some why))) ⊎ ((a ≡ n) × (cause ≡ Some why))) f n (with_closed cause (f n))
      (λ at ended. inr (refl, by (f n) at ended)) (λ a other at ended. inl (e, at, ended)) m
    where
      by : (z : Option Operation) → with_closed cause z ≡ Some e → e.closed ≡ Some (Some why) → cause ≡ Some why
      by None at ended = absurd (let never : None ≡ Some e = at in cc)
      by (Some d) at ended =
          same_Some cause (Some why)
          (ap (λ (z : Operation). z.closed) (same_Some (record d { closed = Some cause; answered = not (is_some cause) }) e at) ∙ ended)

  -- two changes of this one, one after the other
  goes_twice : (e d p : Operation) → GoesOn e d → GoesOn d p → GoesOn e p
  goes_twice e d p first second = record {
    brick = second.brick ∙ first.brick;
    boot = second.boot ∙ first.boot;
    seq = second.seq ∙ first.seq;
    ask = second.ask ∙ first.ask;
    mark = second.mark ∙ first.mark;
  }

  -- what it saw changes nothing of who it is, nor of how it is closed
  sees : (v : Stamp) (m : ℕ) (e : Operation) → IsOperation w m e
      → (p : Operation) × (put w.operations n (with_seen v (w.operations n)) m ≡ Some p) × GoesOn e p
  sees v = changed w.operations (with_seen v) (λ x. (_, refl, record { brick = refl; boot = refl; seq = refl; ask = refl; mark = refl }))

  saw_closed : (v : Stamp) (m : ℕ) (e : Operation) → put w.operations n (with_seen v (w.operations n)) m ≡ Some e
      → (d : Operation) × IsOperation w m d × (e.closed ≡ d.closed)
  saw_closed v = kept_closed w.operations (with_seen v) (λ d. (_, refl, refl)) refl

  -- the mark of an end
  abbrev end_mark : ℕ → Answer → Mark
  end_mark mark answer = End (length w.marks) mark answer

  -- an operation that has marks ends
  answered_added : (answer : Answer) → 1 ≤ o.mark → (a p m : ℕ) (cause : Cause)
      → slice_get (w.marks ++ (end_mark o.mark answer ∷ [])) a ≡ Some (End p m (Aborted cause))
      → (slice_get w.marks a ≡ Some (End p m (Aborted cause))) ⊎ ((1 ≤ o.mark) × (o.mark ≡ m) × (answer ≡ Aborted cause))
  answered_added answer from a p m cause at = ⊎_elim
      (λ (old : slice_get w.marks a ≡ Some (End p m (Aborted cause))). inl old)
      (λ (new : (j : ℕ) × (slice_get (end_mark o.mark answer ∷ []) j ≡ Some (End p m (Aborted cause)))).
      let mark : end_mark o.mark answer ≡ End p m (Aborted cause) = get_one (end_mark o.mark answer) (End p m (Aborted cause)) new.0 new.1 in
      let number : o.mark ≡ m = cc in
      let by : answer ≡ Aborted cause = cc in
      inr (from, number, by))
      (get_grown w.marks (end_mark o.mark answer ∷ []) a (End p m (Aborted cause)) at)

  tallied_answered : (operations : ℕ → Option Operation) (answer : Answer) (stored : Option Stamp) (mark : ℕ) → mark ≡ o.mark → 1 ≤ o.mark
      → AnswerFits fresh (with_reply c seat from reply) answer
      → ((m : ℕ) (e : Operation) → IsOperation w m e → (p : Operation) × (operations m ≡ Some p) × GoesOn e p)
      → ((m : ℕ) (e : Operation) → operations m ≡ Some e → (d : Operation) × IsOperation w m d × (e.closed ≡ d.closed))
      → OrdersAlone (ended_with (node.busy - 1) (w.marks ++ (end_mark mark answer ∷ [])) operations stored)
      → Tallied (ended_with (node.busy - 1) (w.marks ++ (end_mark mark answer ∷ [])) operations stored)
  tallied_answered operations answer stored mark own from fits goes kept =
      subst (λ (m : ℕ). OrdersAlone (ended_with (node.busy - 1) (w.marks ++ (end_mark m answer ∷ [])) operations stored)
      → Tallied (ended_with (node.busy - 1) (w.marks ++ (end_mark m answer ∷ [])) operations stored)) (sym own)
      (tallied_ends (node.busy - 1) (w.marks ++ (end_mark o.mark answer ∷ [])) operations answer stored fits goes (answered_added answer from)
      (λ m e cause at ended. let was = kept m e at in inl (was.0, was.1, sym was.2 ∙ ended)))

  -- how a read of a synchronisation is closed
  aborted_by_cause : (answer : Answer) (cause : Cause) → abort_cause answer ≡ Some cause → answer ≡ Aborted cause
  aborted_by_cause (Data bytes) cause is = absurd (let never : None ≡ Some cause = is in cc)
  aborted_by_cause Done cause is = absurd (let never : None ≡ Some cause = is in cc)
  aborted_by_cause (Aborted why) cause is = ap Aborted (same_Some why cause is)

  -- a read of a synchronisation is closed
  pub tallied_closed : (answer : Answer) (seen stored : Option Stamp) → AnswerFits fresh (with_reply c seat from reply) answer
      → (let x : World = closed_world setting (record w {
        replies = with_counted w.replies (number_of w me.0 c.call.seq) c.call.phase (record { seat = seat; brick = from; reply = reply });
      }) me known c answer seen stored in
      OrdersAlone x → Tallied x)
  tallied_closed answer None stored fits =
      tallied_ends node.busy w.marks (put w.operations n (with_closed (abort_cause answer) (w.operations n))) answer stored fits
      (changed w.operations (with_closed (abort_cause answer)) (λ x. (_, refl, record { brick = refl; boot = refl; seq = refl; ask = refl; mark = refl })))
      (λ a p m cause at. inl at)
      (λ m e cause at ended. ⊎_elim
      (λ (old : (d : Operation) × IsOperation w m d × (d.closed ≡ Some (Some cause))). inl old)
      (λ (new : (m ≡ n) × (abort_cause answer ≡ Some cause)). inr (new.0, aborted_by_cause answer cause new.1))
      (closed_by w.operations (abort_cause answer) m e cause at ended))
  tallied_closed answer (Some v) stored fits =
      let saw : ℕ → Option Operation = put w.operations n (with_seen v (w.operations n)) in
      tallied_ends node.busy w.marks (put saw n (with_closed (abort_cause answer) (saw n))) answer stored fits
      (λ m e at.
      let first = sees v m e at in
      let second = changed saw (with_closed (abort_cause answer)) (λ x. (_, refl, record { brick = refl; boot = refl; seq = refl; ask = refl; mark = refl })) m first.0 first.1 in
      (second.0, second.1, goes_twice e first.0 second.0 first.2 second.2))
      (λ a p m cause at. inl at)
      (λ m e cause at ended. ⊎_elim
      (λ (old : (d : Operation) × (saw m ≡ Some d) × (d.closed ≡ Some (Some cause))).
      let was = saw_closed v m old.0 old.1 in inl (was.0, was.1, sym was.2 ∙ old.2))
      (λ (new : (m ≡ n) × (abort_cause answer ≡ Some cause)). inr (new.0, aborted_by_cause answer cause new.1))
      (closed_by saw (abort_cause answer) m e cause at ended))

  -- the history of replies after what the coordinator decides
  pub tallied_counted : (next : Next) → NextFits fresh (with_reply c seat from reply) next
      → ((answer : Answer) (seen stored : Option Stamp) → next ≡ Ends answer seen stored → 1 ≤ o.mark)
      → ((s : Scrub) (d : Coordinator) → next ≡ Sends d → node.scrub ≡ Some s → s.seq ≡ c.call.seq → is_look c.phase ≡ true
      → s.lagging ≡ lagging_of c.group.members (c.counted ++ (one ∷ [])))
      → MessagesShow (after next) → Tallied (after next)
  tallied_counted Ignores fits marked noted later = absurd fits
  tallied_counted (Waits d) fits marked noted later =
      let on : Furthers w (after (Waits d)) = furthers (after (Waits d)) known node.busy (Some d) [] refl grows refl refl
      (λ j b. refl) same_operations in
      let phase : d.call.phase ≡ c.call.phase = ap (λ (x : Call). x.phase) fits.call in
      let first : first_round d.phase ≡ first_round c.phase = ap (λ (x : Phase). first_round x) fits.phase in
      tallied_on setting w (after (Waits d)) books tallied later.orders_alone on
      (calls_by known node.busy d [] grows (record {
        now = subst (λ (p : Phase). IsTally p (replies n d.call.phase) d.counted) (sym fits.phase)
            (subst (λ (p : ℕ). IsTally c.phase (replies n p) d.counted) (sym phase) (tally_waits d fits.counted));
        later = λ p above. replies_later p (omega arith);
        refused = λ round p low high. refused_before (subst (λ (x : Phase). IsRound x) fits.phase round) p (omega arith) (omega arith);
        back = λ looks. back_on [] d.call fits.same.boot fits.same.seq (omega (arith, phase)) (its.back (sym (ap (λ (p : Phase). looks_back p) fits.phase) ∙ looks));
        alone = alone_now [] d fits.same;
        named = named_on d fits.same;
        lagged = λ s at seq isnt.
            lagged_on d s fits.same (omega (arith, phase)) (its.lagged s at (seq ∙ fits.same.seq) (ap (λ (p : Phase). is_look p) (sym fits.phase) ∙ isnt));
      }))
      unbegun (counted_next (after (Waits d)) on) (λ a p m cause at. inl at) (λ m e cause at ended. inl (e, at, ended))
  tallied_counted (Sends d) fits marked noted later =
      let on : Furthers w (after (Sends d)) = furthers (after (Sends d)) (max known d.stamp.time) node.busy (Some d)
      (phase_packets setting me d) refl
      (omega arith) refl refl (λ j b. refl) same_operations in
      let phase : d.call.phase ≡ c.call.phase + 1 = ap (λ (x : Call). x.phase) fits.call in
      tallied_on setting w (after (Sends d)) books tallied later.orders_alone on
      (calls_by (max known d.stamp.time) node.busy d (phase_packets setting me d) (omega arith) (record {
        now = tally_begins d.call.phase d fits.counted (omega arith);
        later = λ p above. replies_later p (omega arith);
        refused = refused_sends d fits phase;
        back = back_sends (phase_packets setting me d) d fits (later.asks_back i k d (at_next (max known d.stamp.time) node.busy d) None);
        alone = alone_now (phase_packets setting me d) d fits.same;
        named = named_on d fits.same;
        lagged = lagged_begins d fits.same phase (λ s. noted s d refl);
      }))
      unbegun (counted_next (after (Sends d)) on) (λ a p m cause at. inl at) (λ m e cause at ended. inl (e, at, ended))
  tallied_counted (Makes d) fits marked noted later =
      let on : Furthers w (after (Makes d)) = furthers (after (Makes d)) known node.busy (Some d)
      (phase_packets setting me d) refl grows refl refl
      (λ j b. refl) (changed w.operations (with_made d.stamp d.base) (λ e. (_, refl, record { brick = refl; boot = refl; seq = refl; ask = refl; mark = refl }))) in
      let phase : d.call.phase ≡ c.call.phase + 1 = ap (λ (x : Call). x.phase) fits.call in
      tallied_on setting w (after (Makes d)) books tallied later.orders_alone on
      (calls_by known node.busy d (phase_packets setting me d) grows (record {
        now = tally_begins d.call.phase d fits.counted (omega arith);
        later = λ p above. replies_later p (omega arith);
        refused = λ round p low high. absurd (making_unordered d fits.phase round);
        back = λ looks. absurd (false≢true (sym (making_ahead d fits.phase) ∙ looks));
        alone = alone_now (phase_packets setting me d) d fits.same;
        named = named_on d fits.same;
        lagged = lagged_begins d fits.same phase (λ s at seq look. absurd (fits.later (look_of c.phase look)));
      }))
      unbegun (counted_next (after (Makes d)) on) (λ a p m cause at. inl at)
      (λ m e cause at ended.
      let was = kept_closed w.operations (with_made d.stamp d.base) (λ x. (_, refl, refl)) refl m e at in
      inl (was.0, was.1, sym was.2 ∙ ended))
  tallied_counted (Ends answer None stored) fits marked noted later =
      tallied_answered (put w.operations n (with_answer answer (w.operations n))) answer stored (mark_of w n) (mark_at w.operations n o mine.operation_is)
      (marked answer None stored refl) fits.1
      (changed w.operations (with_answer answer) (λ e. (_, refl, record { brick = refl; boot = refl; seq = refl; ask = refl; mark = refl })))
      (kept_closed w.operations (with_answer answer) (λ d. (_, refl, refl)) refl) later.orders_alone
  tallied_counted (Ends answer (Some v) stored) fits marked noted later =
      let seen : ℕ → Option Operation = put w.operations n (with_seen v (w.operations n)) in
      tallied_answered (put seen n (with_answer answer (seen n))) answer stored (own_mark n (seen n)) (mark_seen w.operations n v o mine.operation_is)
      (marked answer (Some v) stored refl) fits.1
      (λ m e at.
      let first = sees v m e at in
      let second = changed seen (with_answer answer) (λ x. (_, refl, record { brick = refl; boot = refl; seq = refl; ask = refl; mark = refl })) m first.0 first.1 in
      (second.0, second.1, goes_twice e first.0 second.0 first.2 second.2))
      (λ m e at.
      let second = kept_closed seen (with_answer answer) (λ d. (_, refl, refl)) refl m e at in
      let first = saw_closed v m second.0 second.1 in
      (first.0, first.1, second.2 ∙ first.2))
      later.orders_alone
