-- Where a brick's clock ticks, fresh operations stay fresh: those of the brick send their packets once more.
use Rattle.protocol_laws.proofs.BooksEvents.{brick_of}
use Rattle.std.proofs.lemmas.Option.{same_Some}
use Rattle.std.proofs.Common.{◌⊎◌, inl, inr, ◌≡◌, ◌≢◌, ℕ, zero, suc, ◌+◌, ◌≤◌, ◌<◌, Bool, true, false, List, [], ◌∷◌, ◌++◌, Option, Some, None, refl, sym, ap, ◌∙◌, subst, ⊎_elim, arith, length-append, nat_lt, lt-ltb, le-ltb, ltb-true, ltb-false}
use Rattle.std.specs.Prelude.{slice_get, nat_eq, filter, if◌then◌else◌}
use Rattle.std.proofs.lemmas.Bool.{cond_both, cond-true, cond-false, cases_Bool, cases_eq, eq-eqb, ne_eqb, cases_lt}
use Rattle.std.proofs.lemmas.List.{append-nil}
use Rattle.std.proofs.lemmas.List.Elements.{filter-append}
use Rattle.fab_base.specs.declared.identities.BrickId.{BrickId}
use Rattle.messages.specs.declared.calls.Call.{Call}
use Rattle.messages.specs.declared.packets.Message.{Message}
use Rattle.messages.specs.declared.packets.Packet.{Packet}
use Rattle.messages.specs.declared.requests.Request.{Request}
use Rattle.protocol.specs.Settings.{Setting}
use Rattle.protocol.specs.declared.phases.Counted.{Counted}
use Rattle.protocol.specs.Coordinators.{Coordinator, request_of, has_seat, asked_group}
use Rattle.fab_base.specs.declared.identities.GroupId.{GroupId}
use Rattle.fab_base.specs.declared.member_lists.View.{View}
use Rattle.protocol.specs.Nodes.{phase_packets, to_members, resent_to, resent, resent_up_to, ticked, teaching, each_taught, view_in, ballot_resent, calls_but_read, job_call, put, calls_but_scrub, scrub_call}
use Rattle.protocol.proofs.Packets.{OfEach, each_none, each_teaching, each_ballot_resent}
use Rattle.protocol.specs.Jobs.{Job}
use Rattle.view_laws.proofs.SyncReads.{each_tick}
use Rattle.protocol.proofs.Puts.{put_other}
use Rattle.view_laws.proofs.CallSteps.{Calls}
use Rattle.protocol.specs.Worlds.{World, Operation, number_of, world_ticked}
use Rattle.protocol.specs.Calms.{operation_of, IsUntouched}
use Rattle.protocol_laws.proofs.Books.{Books, CallBooks}
use Rattle.protocol.proofs.Tables.{get_grown, put_each, put_same}
use Rattle.calm_laws.proofs.Fresh.{IsMade, IsMadeBy, packets_of, repeated_more, IsFresh, IsNumbered, AreFresh, filter_none, filter_every, packets_added, packets_kept, fresh_on, IsOpenAt, opens_at, untouched_before, own_number}
use Rattle.protocol.specs.Scrubs.{Scrub}
use Rattle.std.specs.Option.{option_map}

module _ (setting : Setting) (w : World) (books : Books setting w) (calls : Calls w) (numbered : IsNumbered w) (fresh : AreFresh setting w) where
  -- a brick's clock ticks: each of its open operations sends its present phase again
  module _ (brick : BrickId) where
    abbrev ticked_packets : List Packet
    ticked_packets = ticked setting brick (w.nodes brick.0)

    abbrev ticked_world : World
    ticked_world = world_ticked setting w brick

    -- what is sent again to members is the operation's
    resent_are : (call : Call) (request : ℕ → Request) (counted : List Counted) (seat : ℕ) (members : List BrickId) (j : ℕ) (packet : Packet)
        → slice_get (resent_to brick call request counted seat members) j ≡ Some packet → operation_of w packet ≡ w.numbers brick.0 call.boot call.seq
    resent_are call request counted seat [] j packet at = let never : ⊥ = cc in absurd never
    resent_are call request counted seat (member ∷ members) j packet at =
        cond_both (has_seat seat counted) (resent_to brick call request counted (seat + 1) members)
        (record { from = brick; to = member; message = Message.Request call (request seat) } ∷ resent_to brick call request counted (seat + 1) members)
        (λ (l : List Packet). slice_get l j ≡ Some packet → operation_of w packet ≡ w.numbers brick.0 call.boot call.seq)
        (λ has here. resent_are call request counted (seat + 1) members j packet here)
        (λ hasnt here. first (λ k there. resent_are call request counted (seat + 1) members k packet there) j here) at
      where
        first : ((k : ℕ) → slice_get (resent_to brick call request counted (seat + 1) members) k ≡ Some packet
            → operation_of w packet ≡ w.numbers brick.0 call.boot call.seq) → (k : ℕ)
            → slice_get (record { from = brick; to = member; message = Message.Request call (request seat) }
            ∷ resent_to brick call request counted (seat + 1) members) k ≡ Some packet
            → operation_of w packet ≡ w.numbers brick.0 call.boot call.seq
        first rest zero here =
            let same : record { from = brick; to = member; message = Message.Request call (request seat) } ≡ packet = cc in
            subst (λ (z : Packet). operation_of w z ≡ w.numbers brick.0 call.boot call.seq) same refl
        first rest (suc k) here = rest k here

    -- where no reply counts, the whole phase
    resent_whole : (call : Call) (request : ℕ → Request) (seat : ℕ) (members : List BrickId)
        → resent_to brick call request [] seat members ≡ to_members brick call request seat members
    resent_whole call request seat [] = refl
    resent_whole call request seat (member ∷ members) =
        ap (λ (l : List Packet). record { from = brick; to = member; message = Message.Request call (request seat) } ∷ l)
        (resent_whole call request (seat + 1) members)

    -- a packet is of call k, which is an operation's, or of none
    abbrev OfCall : ℕ → Packet → Type 0
    OfCall k packet = ((operation_of w packet ≡ number_of w brick.0 k) × (1 ≤ number_of w brick.0 k)) ⊎ (operation_of w packet ≡ 0)

    -- of the operation of call k, or what teaches its view
    call_are : (k : ℕ) (z : Option Coordinator) → (w.nodes brick.0).calls k ≡ z → OfEach (OfCall k) (resent setting brick z)
    call_are k None is = each_none (OfCall k)
    call_are k (Some c) is =
        let its : CallBooks setting w brick.0 k c = books.calls brick.0 k c is in
        let some = (books.operations (number_of w brick.0 k) its.operation its.operation_is).from_one in
        each_teaching (OfCall k) c.call.group (view_in c) (λ later from to. inr refl)
        (resent_to brick c.call (request_of setting.code c) c.counted 0 (asked_group c).members)
        (λ j packet at. inl (
          resent_are c.call (request_of setting.code c) c.counted 0 (asked_group c).members j packet at
              ∙ ap (λ (b : ℕ). w.numbers brick.0 b c.call.seq) its.call_boot ∙ ap (λ (l : ℕ). number_of w brick.0 l) its.call_seq,
          some,
        ))

    -- what the proposal sends again is of no operation
    ballots_are : OfEach (λ packet. operation_of w packet ≡ 0) (ballot_resent brick (w.nodes brick.0).proposal)
    ballots_are =
        each_ballot_resent (λ (packet : Packet). operation_of w packet ≡ 0) brick (w.nodes brick.0).proposal (λ p is to. numbered.drafts brick.0 p is)
        (λ p is later from to. refl)

    -- a packet is of the operation of a call of the brick, or of none
    abbrev OfSome : Packet → Type 0
    OfSome packet = ((l : ℕ) × (operation_of w packet ≡ number_of w brick.0 l) × (1 ≤ number_of w brick.0 l)) ⊎ (operation_of w packet ≡ 0)

    -- all that is sent is
    all_are : OfEach OfSome ticked_packets
    unfolding ticked
    all_are =
        each_tick OfSome setting brick (w.nodes brick.0).calls
        (λ k c is seat to.
        let its : CallBooks setting w brick.0 k c = books.calls brick.0 k c is in
        inl (
          k,
          ap (λ (b : ℕ). w.numbers brick.0 b c.call.seq) its.call_boot ∙ ap (λ (l : ℕ). number_of w brick.0 l) its.call_seq,
          (books.operations (number_of w brick.0 k) its.operation its.operation_is).from_one,
        ))
        (λ k c is later from to. inr refl) (w.nodes brick.0).job (w.nodes brick.0).scrub (w.nodes brick.0).seq (w.nodes brick.0).proposal (λ j packet at. inr (ballots_are j packet at))

    -- its calls were made
    call_made : (k : ℕ) (c : Coordinator) → (w.nodes brick.0).calls k ≡ Some c → IsMade (w.nodes brick.0) c.call.boot c.call.seq
    call_made k c is =
        let its : CallBooks setting w brick.0 k c = books.calls brick.0 k c is in
        let boots = its.call_boot in
        let seqs = its.call_seq in
        let most : k ≤ (w.nodes brick.0).seq = ⊎_elim
        (λ (later : (w.nodes brick.0).seq < k). absurd (let never : None ≡ Some c = sym (books.fresh_calls brick.0 k later) ∙ is in cc))
        (λ (within : k ≤ (w.nodes brick.0).seq). within) (cases_lt (w.nodes brick.0).seq k) in
        ((let low : c.call.boot ≤ (w.nodes brick.0).boot = omega (arith, boots) in low), (λ same. omega (arith, seqs, most)))

    ticked_made : OfEach (IsMadeBy w.nodes) ticked_packets
    unfolding ticked
    ticked_made =
        each_tick (IsMadeBy w.nodes) setting brick (w.nodes brick.0).calls (λ k c is seat to. call_made k c is) (λ k c is later from to. tt)
        (w.nodes brick.0).job (w.nodes brick.0).scrub (w.nodes brick.0).seq (w.nodes brick.0).proposal
        (each_ballot_resent (IsMadeBy w.nodes) brick (w.nodes brick.0).proposal
        (λ p is to. let draft = calls.called.drafts brick.0 p is in let now = draft.now in
        ((let low : p.call.boot ≤ (w.nodes brick.0).boot = omega (arith, now) in low), (λ same. draft.seq)))
        (λ p is later from to. tt))

    pub ticked_numbered : IsNumbered ticked_world
    ticked_numbered = record {
      numbers = numbered.numbers;
      drafts = numbered.drafts;
      packets = λ k packet at. ⊎_elim
          (λ (old : slice_get w.packets k ≡ Some packet). numbered.packets k packet old)
          (λ (new : (j : ℕ) × (slice_get ticked_packets j ≡ Some packet)). ticked_made new.0 packet new.1)
          (get_grown w.packets ticked_packets k packet at);
      reached = λ k beyond. let longer = length-append w.packets ticked_packets in numbered.reached k (omega (arith, longer, beyond));
    }

    -- an operation of this brick, as it began: its phase is sent once more
    module _ (n : ℕ) (c : Coordinator) (at : IsOpenAt w n c) (own : at.operation.brick.0 ≡ brick.0) (its : IsFresh setting w n c) where
      abbrev o : Operation
      o = at.operation

      abbrev is_n : Packet → Bool
      is_n packet = nat_eq (operation_of w packet) n

      here : (w.nodes brick.0).calls o.seq ≡ Some c
      here = ap (λ (j : ℕ). (w.nodes j).calls o.seq) (sym own) ∙ at.call

      number : number_of w brick.0 o.seq ≡ n
      number = ap (λ (j : ℕ). number_of w j o.seq) (sym own) ∙ own_number setting w books n o at.operation_is at.boot

      call_books : CallBooks setting w brick.0 o.seq c
      call_books = books.calls brick.0 o.seq c here

      the_brick : c.stamp.brick ≡ brick
      the_brick = call_books.stamp_brick ∙ brick_of call_books.operation.brick brick call_books.brick

      -- another call of the brick is another operation's
      other_call : (k : ℕ) → k ≢ o.seq → 1 ≤ number_of w brick.0 k → number_of w brick.0 k ≢ n
      other_call k other some same =
          let was = numbered.numbers brick.0 (w.nodes brick.0).boot k some in
          let one : was.0 ≡ o = same_Some was.0 o (sym was.1 ∙ ap (λ a. w.operations a) same ∙ at.operation_is) in
          other (sym was.4 ∙ ap (λ x. x.seq) one)

      from_one : 1 ≤ n
      from_one = (books.operations n o at.operation_is).from_one

      resent_other : (k : ℕ) → k ≢ o.seq → filter is_n (resent setting brick ((w.nodes brick.0).calls k)) ≡ []
      resent_other k other =
          filter_none is_n (resent setting brick ((w.nodes brick.0).calls k))
          (λ j packet at'.
          ne_eqb (operation_of w packet) n (λ same. ⊎_elim
          (λ (of : (operation_of w packet ≡ number_of w brick.0 k) × (1 ≤ number_of w brick.0 k)). other_call k other of.1 (sym of.0 ∙ same))
          (λ (none : operation_of w packet ≡ 0). let from = from_one in omega (arith, none, same, from))
          (call_are k ((w.nodes brick.0).calls k) refl j packet at')))

      -- what teaches a view is no operation's
      learn_none : nat_eq 0 n ≡ false
      learn_none = ne_eqb 0 n (λ same. let from = from_one in omega (arith, same, from))

      teaching_none : (group : GroupId) (view : View) (packets : List Packet) → filter is_n (teaching group view packets) ≡ filter is_n packets
      teaching_none group view packets =
          cond_both (nat_lt 1 view.number.0) (each_taught group view packets) packets (λ (l : List Packet). filter is_n l ≡ filter is_n packets)
          (λ later. pairs packets) (λ isnt. refl)
        where
          pairs : (list : List Packet) → filter is_n (each_taught group view list) ≡ filter is_n list
          pairs [] = refl
          pairs (packet ∷ list) =
              ap (λ (b : Bool). if b then record { from = packet.from; to = packet.to; message = Message.Learn group view }
              ∷ filter is_n (packet ∷ each_taught group view list) else filter is_n (packet ∷ each_taught group view list)) learn_none
              ∙ ap (λ (l : List Packet). if is_n packet then packet ∷ l else l) (pairs list)

      resent_own : filter is_n (resent setting brick ((w.nodes brick.0).calls o.seq)) ≡ phase_packets setting c.stamp.brick c
      resent_own =
          ap (λ (z : Option Coordinator). filter is_n (resent setting brick z)) here
          ∙ teaching_none c.call.group (view_in c) (resent_to brick c.call (request_of setting.code c) c.counted 0 (asked_group c).members)
          ∙ filter_every is_n (resent_to brick c.call (request_of setting.code c) c.counted 0 (asked_group c).members)
          (λ j packet at'.
          eq-eqb (operation_of w packet) n
          (resent_are c.call (request_of setting.code c) c.counted 0 (asked_group c).members j packet at'
          ∙ ap (λ (b : ℕ). w.numbers brick.0 b c.call.seq) call_books.call_boot ∙ ap (λ (l : ℕ). number_of w brick.0 l) call_books.call_seq ∙ number))
          ∙ ap (λ (l : List Counted). resent_to brick c.call (request_of setting.code c) l 0 (asked_group c).members) its.counted
          ∙ resent_whole c.call (request_of setting.code c) 0 (asked_group c).members
          ∙ ap (λ (b : BrickId). phase_packets setting b c) (sym the_brick)

      -- so it is among any calls up to one that is not before it, of which the operation's sends this, and no other anything of the operation
      module _ (some_calls : ℕ → Option Coordinator) (mine : List Packet) (its_own : filter is_n (resent setting brick (some_calls o.seq)) ≡ mine)
          (others : (k : ℕ) → k ≢ o.seq → filter is_n (resent setting brick (some_calls k)) ≡ []) where
        same_side : (k : ℕ) → suc k ≢ o.seq → nat_lt k o.seq ≡ nat_lt (suc k) o.seq
        same_side k other = ⊎_elim
            (λ (less : nat_lt (suc k) o.seq ≡ true).
            lt-ltb k o.seq (let below = ltb-true (suc k) o.seq less in omega (arith, below)) ∙ sym less)
            (λ (most : nat_lt (suc k) o.seq ≡ false).
            le-ltb k o.seq (let above = ltb-false (suc k) o.seq most in ⊎_elim
            (λ (lower : k < o.seq). absurd (other (omega (arith, above, lower)))) (λ (rest : o.seq ≤ k). rest) (cases_lt k o.seq)) ∙ sym most)
            (cases_Bool (nat_lt (suc k) o.seq))

        resent_to_call : (k : ℕ) → filter is_n (resent_up_to setting brick some_calls k) ≡ (if nat_lt k o.seq then [] else mine)
        resent_to_call zero =
            sym (cond-true (nat_lt 0 o.seq) [] mine
            (lt-ltb 0 o.seq (let some = (books.operations n o at.operation_is).called.0 in omega (arith, some))))
        resent_to_call (suc k) =
            filter-append is_n (resent_up_to setting brick some_calls k) (resent setting brick (some_calls (suc k)))
            ∙ ap (λ (l : List Packet). l ++ filter is_n (resent setting brick (some_calls (suc k)))) (resent_to_call k)
            ∙ ⊎_elim
            (λ (same : suc k ≡ o.seq).
            ap (λ (b : Bool). (if b then [] else mine) ++ filter is_n (resent setting brick (some_calls (suc k)))) (lt-ltb k o.seq (omega (arith, same)))
            ∙ ap (λ (l : ℕ). filter is_n (resent setting brick (some_calls l))) same ∙ its_own
            ∙ sym (cond-false (nat_lt (suc k) o.seq) [] mine (le-ltb (suc k) o.seq (omega (arith, same)))))
            (λ (other : suc k ≢ o.seq).
            ap (λ (l : List Packet). (if nat_lt k o.seq then [] else mine) ++ l) (others (suc k) other)
            ∙ append-nil (if nat_lt k o.seq then [] else mine)
            ∙ ap (λ (b : Bool). if b then [] else mine) (same_side k other))
            (cases_eq (suc k) o.seq)

        resent_all : filter is_n (resent_up_to setting brick some_calls (w.nodes brick.0).seq) ≡ mine
        resent_all =
            resent_to_call (w.nodes brick.0).seq
            ∙ cond-false (nat_lt (w.nodes brick.0).seq o.seq) [] mine (le-ltb (w.nodes brick.0).seq o.seq within)
          where
            within : o.seq ≤ (w.nodes brick.0).seq
            within =
                let most = (books.operations n o at.operation_is).called.1 (sym at.boot) in
                subst (λ (j : ℕ). o.seq ≤ (w.nodes j).seq) own most

      -- of these calls, the operation's sends this, and no other anything of the operation
      record Sends (some_calls : ℕ → Option Coordinator) (mine : List Packet) : Type 0 where
        pub by_it : filter is_n (resent setting brick (some_calls o.seq)) ≡ mine
        pub others : (k : ℕ) → k ≢ o.seq → filter is_n (resent setting brick (some_calls k)) ≡ []

      up_to : (some_calls : ℕ → Option Coordinator) (mine : List Packet) → Sends some_calls mine
          → filter is_n (resent_up_to setting brick some_calls (w.nodes brick.0).seq) ≡ mine
      up_to some_calls mine sends = resent_all some_calls mine sends.by_it sends.others

      -- all but the call of this number
      but_others : (some_calls : ℕ → Option Coordinator) (mine : List Packet) → Sends some_calls mine → (l k : ℕ) → k ≢ o.seq
          → filter is_n (resent setting brick (put some_calls l None k)) ≡ []
      but_others some_calls mine sends l k other =
          put_each (λ j (z : Option Coordinator). j ≢ o.seq → filter is_n (resent setting brick z) ≡ []) some_calls l None
          (λ apart. refl) (λ j unlike apart. sends.others j apart) k other

      but_own : (some_calls : ℕ → Option Coordinator) (mine : List Packet) → Sends some_calls mine → (l : ℕ) → l ≡ o.seq → Sends (put some_calls l None) []
      but_own some_calls mine sends l same = record {
        by_it = ap (λ (z : Option Coordinator). filter is_n (resent setting brick z))
            (ap (λ (k : ℕ). put some_calls k None o.seq) same ∙ put_same some_calls o.seq None);
        others = but_others some_calls mine sends l;
      }

      but_another : (some_calls : ℕ → Option Coordinator) (mine : List Packet) → Sends some_calls mine → (l : ℕ) → l ≢ o.seq
          → Sends (put some_calls l None) mine
      but_another some_calls mine sends l other = record {
        by_it = ap (λ (z : Option Coordinator). filter is_n (resent setting brick z)) (put_other some_calls l None o.seq (λ same. other (sym same))) ∙ sends.by_it;
        others = but_others some_calls mine sends l;
      }

      -- the brick's own reads are sent again last: the operation is one of them, or among the others
      abbrev all_calls : ℕ → Option Coordinator
      all_calls = (w.nodes brick.0).calls

      abbrev phase : List Packet
      phase = phase_packets setting c.stamp.brick c

      sends_all : Sends all_calls phase
      sends_all = record { by_it = resent_own; others = resent_other }

      own_last : (l : ℕ) → l ≡ o.seq → filter is_n (resent setting brick (all_calls l)) ≡ phase
      own_last l same = ap (λ (k : ℕ). filter is_n (resent setting brick (all_calls k))) same ∙ resent_own

      abbrev Once : Option Job → Option Scrub → Type 0
      Once job scrub =
          filter is_n (resent_up_to setting brick (calls_but_scrub (calls_but_read all_calls job) scrub) (w.nodes brick.0).seq)
          ++ (filter is_n (resent setting brick (job_call all_calls job)) ++ filter is_n (resent setting brick (scrub_call all_calls scrub)))
          ≡ phase

      -- where the other calls send what these do, and the scrub's this
      scrub_once : (some_calls : ℕ → Option Coordinator) (mine : List Packet) → Sends some_calls mine → (scrub : Option Scrub)
          → ((s : Scrub) → scrub ≡ Some s → s.seq ≡ o.seq → mine ≡ phase)
          → filter is_n (resent_up_to setting brick (calls_but_scrub some_calls scrub) (w.nodes brick.0).seq)
          ++ filter is_n (resent setting brick (scrub_call all_calls scrub)) ≡ mine
      scrub_once some_calls mine sends None whole =
          append-nil (filter is_n (resent_up_to setting brick some_calls (w.nodes brick.0).seq)) ∙ up_to some_calls mine sends
      scrub_once some_calls mine sends (Some s) whole = ⊎_elim
          (λ (same : s.seq ≡ o.seq).
          ap (λ (l : List Packet). l ++ filter is_n (resent setting brick (all_calls s.seq)))
          (up_to (put some_calls s.seq None) [] (but_own some_calls mine sends s.seq same))
          ∙ own_last s.seq same ∙ sym (whole s refl same))
          (λ (other : s.seq ≢ o.seq).
          ap (λ (l : List Packet). filter is_n (resent_up_to setting brick (put some_calls s.seq None) (w.nodes brick.0).seq) ++ l) (resent_other s.seq other)
          ∙ append-nil (filter is_n (resent_up_to setting brick (put some_calls s.seq None) (w.nodes brick.0).seq))
          ∙ up_to (put some_calls s.seq None) mine (but_another some_calls mine sends s.seq other))
          (cases_eq s.seq o.seq)

      resent_once : (job : Option Job) (scrub : Option Scrub) → ((k : ℕ) → option_map (λ (j : Job). j.seq) job ≡ Some k
          → option_map (λ (s : Scrub). s.seq) scrub ≡ Some k → ⊥) → Once job scrub
      resent_once None scrub apart = scrub_once all_calls phase sends_all scrub (λ s is same. refl)
      resent_once (Some job) scrub apart = ⊎_elim
          (λ (same : job.seq ≡ o.seq). first same scrub apart)
          (λ (other : job.seq ≢ o.seq).
          ap (λ (l : List Packet). filter is_n (resent_up_to setting brick (calls_but_scrub but_read scrub) (w.nodes brick.0).seq)
          ++ (l ++ filter is_n (resent setting brick (scrub_call all_calls scrub)))) (resent_other job.seq other)
          ∙ scrub_once but_read phase (but_another all_calls phase sends_all job.seq other) scrub (λ s is same. refl))
          (cases_eq job.seq o.seq)
        where
          but_read : ℕ → Option Coordinator
          but_read = put all_calls job.seq None

          -- the read of the synchronisation is the operation, and so the scrub is another
          first : job.seq ≡ o.seq → (scrub : Option Scrub) → ((k : ℕ) → Some job.seq ≡ Some k → option_map (λ (s : Scrub). s.seq) scrub ≡ Some k → ⊥)
              → Once (Some job) scrub
          first same None apart =
              ap (λ (l : List Packet). l ++ (filter is_n (resent setting brick (all_calls job.seq)) ++ [])) (up_to but_read [] (but_own all_calls phase sends_all job.seq same))
              ∙ append-nil (filter is_n (resent setting brick (all_calls job.seq))) ∙ own_last job.seq same
          first same (Some s) apart =
              let other : s.seq ≢ o.seq = λ its. apart job.seq refl (ap (λ (k : ℕ). Some k) (its ∙ sym same)) in
              ap (λ (l : List Packet). l ++ (filter is_n (resent setting brick (all_calls job.seq)) ++ filter is_n (resent setting brick (all_calls s.seq))))
              (up_to (put but_read s.seq None) [] (but_another but_read [] (but_own all_calls phase sends_all job.seq same) s.seq other))
              ∙ ap (λ (l : List Packet). filter is_n (resent setting brick (all_calls job.seq)) ++ l) (resent_other s.seq other)
              ∙ append-nil (filter is_n (resent setting brick (all_calls job.seq))) ∙ own_last job.seq same

      once_more : IsFresh setting ticked_world n c
      unfolding ticked
      once_more = record {
        there = its.there;
        counted = its.counted;
        phase = its.phase;
        number = its.number;
        round = its.round;
        base = its.base;
        content = its.content;
        copies = suc its.copies;
        packets =
            packets_added w ticked_world n ticked_packets refl (λ j packet at'. refl)
            ∙ ap (λ (l : List Packet). packets_of w n ++ l) (
            filter-append is_n others (ballots ++ (reads ++ scrubs))
            ∙ ap (λ (l : List Packet). filter is_n others ++ l)
            (filter-append is_n ballots (reads ++ scrubs)
            ∙ ap (λ (l : List Packet). l ++ filter is_n (reads ++ scrubs))
            (filter_none is_n ballots
            (λ j packet at'. ne_eqb (operation_of w packet) n (λ same. let none = ballots_are j packet at' in let from = from_one in omega (arith, none, same, from))))
            ∙ filter-append is_n reads scrubs)
            ∙ resent_once (w.nodes brick.0).job (w.nodes brick.0).scrub (books.apart brick.0))
            ∙ ap (λ (l : List Packet). l ++ phase_packets setting c.stamp.brick c) its.packets
            ∙ repeated_more (suc its.copies) (phase_packets setting c.stamp.brick c);
      }
        where
          others : List Packet
          others = resent_up_to setting brick (calls_but_scrub (calls_but_read all_calls (w.nodes brick.0).job) (w.nodes brick.0).scrub) (w.nodes brick.0).seq

          ballots : List Packet
          ballots = ballot_resent brick (w.nodes brick.0).proposal

          reads : List Packet
          reads = resent setting brick (job_call all_calls (w.nodes brick.0).job)

          scrubs : List Packet
          scrubs = resent setting brick (scrub_call all_calls (w.nodes brick.0).scrub)

    pub ticked_fresh : AreFresh setting ticked_world
    ticked_fresh n c opens untouched =
        let at : IsOpenAt w n c = opens_at w n c opens in
        let was : IsUntouched w n = untouched_before w ticked_world n ticked_packets refl (λ j packet at'. refl) (λ k is. is) untouched in
        ⊎_elim
        (λ (own : at.operation.brick.0 ≡ brick.0). once_more n c at own (fresh n c opens was))
        (λ (other : at.operation.brick.0 ≢ brick.0).
        fresh_on setting w ticked_world n c
        (packets_kept w ticked_world n ticked_packets refl (λ j packet at'. refl)
        (λ j packet at' same. ⊎_elim
        (λ (of : (l : ℕ) × (operation_of w packet ≡ number_of w brick.0 l) × (1 ≤ number_of w brick.0 l)).
        let theirs = numbered.numbers brick.0 (w.nodes brick.0).boot of.0 of.2 in
        let one : theirs.0 ≡ at.operation
        = same_Some theirs.0 at.operation (sym theirs.1 ∙ ap (λ a. w.operations a) (sym of.1 ∙ same) ∙ at.operation_is) in
        other (ap (λ x. x.brick.0) (sym one) ∙ theirs.2))
        (λ (none : operation_of w packet ≡ 0).
        let from = (books.operations n at.operation at.operation_is).from_one in omega (arith, none, same, from))
        (all_are j packet at')))
        (fresh n c opens was))
        (cases_eq at.operation.brick.0 brick.0)
