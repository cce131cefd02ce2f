-- The course of a request is the step of the machine.
use Rattle.std.proofs.Common.{◌≡◌, ℕ, ◌≤◌, Bool, true, false, not, cond, eqb, Option, Some, None, List, refl, sym, ap, subst, ◌∙◌, arith, ◌-◌, length}
use Rattle.std.specs.Prelude.{◌&&◌, nat_lt, nat_le, nat_eq, is_some, IsSome}
use Rattle.std.specs.List.{list_all}
use Rattle.std.specs.Option.{ForSome, option_map}
use Rattle.std.proofs.lemmas.Bool.{and_parts, or_parts, eqb-true}
use Rattle.std.proofs.lemmas.Bool.Decides.{nat_tests}
use Rattle.fab_base.specs.declared.identities.BrickId.{BrickId}
use Rattle.fab_base.specs.declared.member_lists.View.{View}
use Rattle.fab_base.specs.declared.stamps.Ballot.{Ballot}
use Rattle.fab_base.specs.declared.stamps.Stamp.{Stamp}
use Rattle.fab_base.specs.Layouts.{Layout, Group, group_of, seat_in}
use Rattle.messages.specs.declared.calls.Call.{Call}
use Rattle.messages.specs.declared.requests.Request.{Request}
use Rattle.messages.specs.declared.requests.Request.TheVariants as request
use Rattle.messages.specs.declared.replies.Reply.{Reply}
use Rattle.messages.specs.declared.replies.Reply.TheVariants.{Old, Retired}
use Rattle.version_log.specs.Versions.{Version}
use Rattle.brick_state.specs.declared.groups.Group.{Group as KeptGroup}
use Rattle.brick_state.specs.States.{StateOf}
use Rattle.brick_state.specs.States as states
use Rattle.brick_store.specs.Blocks.{IsServed, learnt_of, first_kept}
use Rattle.quorum.specs.Memberships.{are_distinct, is_membership}
use Rattle.layout.specs.Limits.{IsLayout}
use Rattle.synod_laws.specs.Synods.{Kept}
use Rattle.stripe_code.specs.Codes.{coding}
use Rattle.protocol.specs.Views.{Learnt, first_learnt, group_kept, kept_by, is_view}
use Rattle.protocol.specs.Views as views
use Rattle.protocol.specs.Replicas.{newest_of, under}
use Rattle.protocol.specs.Nodes.{Node, NodeStep, no_step, sending, reply_packets, replica_at, group_at, is_void, requested_in, requested_as, requested_at, served_unless, seat_now, moved_at, old_reply, fits}
use Rattle.replica.specs.Members.{Member}
use Rattle.replica.specs.declared.courses.Course.{Course}
use Rattle.replica.specs.declared.courses.Course.TheVariants.{Void, Tell, TellOld, Serve, Vote}
use Rattle.replica.specs.Parts.{IsPartsOf, learnt_or, learnt_in, ballots_in}
use Rattle.replica.specs.Courses.{fits_block, seat_under, is_void_at, moved_under, served_at, served_unless_moved, old_under, course_as, course_in, course_of, course_step, ServesAs, VotesBy}

differ : {A : Type 0} → false ≡ true → A
differ h = absurd cc

-- ---- the step of the machine

module _ (layout : Layout) (me from : BrickId) (node : Node) (call : Call) where
  abbrev takes : Request → Course → NodeStep
  takes = course_step layout me from node call

  abbrev learnt_here : Learnt
  learnt_here = node.learnt call.group.0

  at_seat : (asked : Request) (m : ℕ) (seat : Option ℕ)
      → requested_at (coding layout) m me from node call asked seat ≡ takes asked (served_at layout m seat)
  at_seat asked m None = refl
  at_seat asked m (Some seat) = refl

  unless_moved : (asked : Request) (m : ℕ) (seat : Option ℕ) (moved : Option Reply)
      → served_unless (coding layout) m me from node call asked seat moved ≡ takes asked (served_unless_moved layout m seat moved)
  unless_moved asked m seat None = at_seat asked m seat
  unless_moved asked m seat (Some reply) = refl

  moved_is : moved_at node call ≡ moved_under learnt_here (node.ballots call.group.0) call
  moved_is = refl

  moves : (asked : Request) (m : ℕ) (seat : Option ℕ) → served_unless (coding layout) m me from node call asked seat (moved_at node call)
      ≡ takes asked (served_unless_moved layout m seat (moved_under learnt_here (node.ballots call.group.0) call))
  moves asked m seat =
      ap (served_unless (coding layout) m me from node call asked seat) moved_is
      ∙ unless_moved asked m seat (moved_under learnt_here (node.ballots call.group.0) call)

  -- asked for what it keeps in the call's view
  olds : (asked : Request) (bound : Option Stamp) → sending node (reply_packets me from call (old_reply node call bound))
      ≡ takes asked (old_under learnt_here (moved_at node call) call bound)
  olds asked bound = by (nat_lt call.view.0 (views.first_kept learnt_here)) (is_some (moved_at node call))
    where
      by : (gone moved : Bool)
          → sending node (reply_packets me from call
          (cond gone (Some Retired) (cond moved (Some (Old (newest_of (under bound (replica_at node call).log)))) None)))
          ≡ takes asked (cond gone (Tell Retired) (cond moved (TellOld bound) Void))
      by true moved = refl
      by false true = refl
      by false false = refl

  -- of a request that is not void
  taken_as : (group : Group) (asked : Request) → requested_as (coding layout) group me from node call asked
      ≡ takes asked (course_as layout group.m learnt_here (seat_now me node call group) (moved_under learnt_here (node.ballots call.group.0) call) call asked)
  taken_as group (request.Read want) = moves (request.Read want) group.m (seat_now me node call group)
  taken_as group (request.Order t) = moves (request.Order t) group.m (seat_now me node call group)
  taken_as group (request.OrderRead t look want) = moves (request.OrderRead t look want) group.m (seat_now me node call group)
  taken_as group (request.Write t bytes) = moves (request.Write t bytes) group.m (seat_now me node call group)
  taken_as group (request.Modify t base j delta) = moves (request.Modify t base j delta) group.m (seat_now me node call group)
  taken_as group (request.Collect t) = at_seat (request.Collect t) group.m (seat_now me node call group)
  taken_as group (request.OldRead bound) = olds (request.OldRead bound) bound
  taken_as group (request.Prepare ballot) = refl
  taken_as group (request.Accept ballot members) = refl

  -- of any
  pub taken : (asked : Request) (group : Option Group) → requested_in (coding layout) me from node call asked group
      ≡ takes asked (course_in layout me learnt_here (node.ballots call.group.0) call asked group)
  taken asked None = refl
  taken asked (Some group) = by (is_void layout me node call asked group)
    where
      by : (b : Bool) → cond b (no_step node) (requested_as (coding layout) group me from node call asked)
          ≡ takes asked (cond b Void (course_as layout group.m learnt_here (seat_now me node call group)
          (moved_under learnt_here (node.ballots call.group.0) call) call asked))
      by true = refl
      by false = taken_as group asked

-- so is that of a store at each brick that keeps what it keeps
pub course_steps : (layout : Layout) (me from : BrickId) (st : StateOf Version) (node : Node) (call : Call) (asked : Request) → IsPartsOf layout st node
    → requested_in (coding layout) me from node call asked (group_at layout node call.group.0)
    ≡ course_step layout me from node call asked (course_of layout me st call asked)
course_steps layout me from st node call asked parts =
    taken layout me from node call asked (group_at layout node call.group.0)
    ∙ (λ k. course_step layout me from node call asked
    (course_in layout me (parts.learnt call.group.0 k) (parts.ballots call.group.0 k) call asked
    (group_kept layout (parts.learnt call.group.0 k).view.members call.group.0)))

-- ---- what a course asks of the store

-- asked for what it keeps in the call's view, a brick tells something, or ignores that
old_course : (P : Course → Type 0) (learnt : Learnt) (moved : Option Reply) (call : Call) (bound : Option Stamp) → P (Tell Retired) → P (TellOld bound) → P Void
    → P (old_under learnt moved call bound)
old_course P learnt moved call bound gone told void = by (nat_lt call.view.0 (views.first_kept learnt)) (is_some moved)
  where
    by : (gone moved : Bool) → P (cond gone (Tell Retired) (cond moved (TellOld bound) Void))
    by true moved = gone
    by false true = told
    by false false = void

-- the number of the learnt view is that of the store
pub number_learnt : (layout : Layout) (st : StateOf Version) (g : ℕ) → (learnt_in layout st g).view.number.0 ≡ learnt_of (states.group_at st g)
number_learnt layout st g = by (states.group_at st g).known
  where
    numbered : Option (View × Bool) → ℕ
    numbered known = learnt_of (record { known = known; ballots = (states.group_at st g).ballots })

    by : (known : Option (View × Bool)) → (learnt_or (first_learnt layout g) known).view.number.0 ≡ numbered known
    by None = refl
    by (Some known) = refl

-- the store serves the view that it has learnt
served_now : (group : KeptGroup) (e : ℕ) → 1 ≤ e → e ≡ learnt_of group → IsServed group e
served_now group e some is = record { some = some; kept = by group.known group.ballots is; learnt = omega (arith, is) }
  where
    by : (known : Option (View × Bool)) (ballots : Kept (List BrickId)) → e ≡ learnt_of (record { known = known; ballots = ballots }) → first_kept known ≤ e
    by None ballots now = omega (arith, now)
    by (Some known) ballots now = synced known.1
      where
        synced : (b : Bool) → cond b known.0.number.0 (known.0.number.0 - 1) ≤ e
        synced true = omega (arith, now)
        synced false = omega (arith, now)

-- what fits at a seat is a block
fits_at : (layout : Layout) (m : ℕ) (call : Call) (seat : ℕ) (asked : Request) → fits layout m call asked (Some seat) ≡ true
    → fits_block layout.block m seat asked ≡ true
fits_at layout m call seat (request.Write t bytes) h = h
fits_at layout m call seat (request.Modify t base j delta) h = h
fits_at layout m call seat (request.Read want) h = refl
fits_at layout m call seat (request.Order t) h = refl
fits_at layout m call seat (request.OrderRead t look want) h = refl
fits_at layout m call seat (request.Collect t) h = refl
fits_at layout m call seat (request.OldRead bound) h = refl
fits_at layout m call seat (request.Prepare ballot) h = refl
fits_at layout m call seat (request.Accept ballot members) h = refl

not_false : (b : Bool) → not b ≡ false → b ≡ true
not_false true h = refl
not_false false h = absurd cc

-- what is known of a request that is not void
record IsGood (layout : Layout) (learnt : Learnt) (call : Call) (asked : Request) (group : Group) (seat : Option ℕ) : Type 0 where
  some : nat_eq call.view.0 0 ≡ false
  fits_so : fits layout group.m call asked seat ≡ true

good : (layout : Layout) (learnt : Learnt) (call : Call) (asked : Request) (group : Group) (seat : Option ℕ)
    → is_void_at layout learnt call asked group seat ≡ false → IsGood layout learnt call asked group seat
good layout learnt call asked group seat h =
    let a = or_parts (not (nat_lt call.stripe.0 group.stripes)) _ h in
    let b = or_parts (nat_eq call.view.0 0) _ a.1 in
    let c = or_parts (nat_lt learnt.view.number.0 call.view.0) _ b.1 in
    let d = or_parts (nat_eq call.view.0 learnt.view.number.0 && not (is_some seat)) _ c.1 in
    record { some = b.0; fits_so = not_false _ d.1 }

some_view : (e : ℕ) → eqb e 0 ≡ false → 1 ≤ e
some_view e h = grind (arith, h)

member_is : {a b : Member} → Serve a ≡ Serve b → a ≡ b
member_is e = cc

-- the member that serves does so at the seat of the learnt view
serves_at : (layout : Layout) (me : BrickId) (st : StateOf Version) (call : Call) (asked : Request) (group : Group) (member : Member)
    → is_void_at layout (learnt_in layout st call.group.0) call asked group
    (seat_under me (learnt_in layout st call.group.0) call group.members) ≡ false
    → served_at layout group.m (seat_under me (learnt_in layout st call.group.0) call group.members) ≡ Serve member
    → ServesAs layout st call asked member
serves_at layout me st call asked group member void serves =
    by (nat_eq call.view.0 learnt.view.number.0) refl void serves
  where
    learnt : Learnt
    learnt = learnt_in layout st call.group.0

    found : (seat : Option ℕ) → is_void_at layout learnt call asked group seat ≡ false → served_at layout group.m seat ≡ Serve member
        → call.view.0 ≡ learnt.view.number.0 → ServesAs layout st call asked member
    found None void' serves' now = absurd cc
    found (Some seat) void' serves' now =
        let is = good layout learnt call asked group (Some seat) void' in
        subst (λ (x : Member). ServesAs layout st call asked x) (member_is serves') (record {
          block = refl;
          view = served_now (states.group_at st call.group.0) call.view.0 (some_view call.view.0 is.some)
              (now ∙ number_learnt layout st call.group.0);
          fits = fits_at layout group.m call seat asked is.fits_so;
        })

    by : (b : Bool) → nat_eq call.view.0 learnt.view.number.0 ≡ b
        → is_void_at layout learnt call asked group (cond b (seat_in group.members me.0) None) ≡ false
        → served_at layout group.m (cond b (seat_in group.members me.0) None) ≡ Serve member → ServesAs layout st call asked member
    by true now void' serves' = found (seat_in group.members me.0) void' serves' (eqb-true call.view.0 learnt.view.number.0 now)
    by false now void' serves' = absurd cc

module _ (layout : Layout) (me : BrickId) (st : StateOf Version) (call : Call) where
  abbrev learnt_there : Learnt
  learnt_there = learnt_in layout st call.group.0

  abbrev seat_there : Group → Option ℕ
  seat_there group = seat_under me learnt_there call group.members

  abbrev moved_there : Option Reply
  moved_there = moved_under learnt_there (ballots_in st call.group.0) call

  -- the group as the members of the learnt view keep it
  abbrev kept_there : Group → Group
  kept_there group = kept_by learnt_there.view.members group

  -- a brick that handles a request as a member
  module _ (member : Member) where
    served : (asked : Request) (group : Group) → is_void_at layout learnt_there call asked group (seat_there group) ≡ false
        → course_as layout group.m learnt_there (seat_there group) moved_there call asked ≡ Serve member → ServesAs layout st call asked member
    served asked group void is = by asked void is
      where
        at : (asked : Request) → is_void_at layout learnt_there call asked group (seat_there group) ≡ false
            → served_at layout group.m (seat_there group) ≡ Serve member → ServesAs layout st call asked member
        at asked' void' is' = serves_at layout me st call asked' group member void' is'

        unless : (asked : Request) → is_void_at layout learnt_there call asked group (seat_there group) ≡ false → (moved : Option Reply)
            → served_unless_moved layout group.m (seat_there group) moved ≡ Serve member → ServesAs layout st call asked member
        unless asked' void' None is' = at asked' void' is'
        unless asked' void' (Some reply) is' = absurd cc

        by : (asked : Request) → is_void_at layout learnt_there call asked group (seat_there group) ≡ false
            → course_as layout group.m learnt_there (seat_there group) moved_there call asked ≡ Serve member → ServesAs layout st call asked member
        by (request.Read want) v i = unless (request.Read want) v moved_there i
        by (request.Order t) v i = unless (request.Order t) v moved_there i
        by (request.OrderRead t look want) v i = unless (request.OrderRead t look want) v moved_there i
        by (request.Write t bytes) v i = unless (request.Write t bytes) v moved_there i
        by (request.Modify t base j delta) v i = unless (request.Modify t base j delta) v moved_there i
        by (request.Collect t) v i = at (request.Collect t) v i
        by (request.OldRead bound) v i =
            old_course (λ (x : Course). x ≡ Serve member → ServesAs layout st call (request.OldRead bound) member) learnt_there moved_there call bound
            (λ h. absurd cc) (λ h. absurd cc) (λ h. absurd cc) i
        by (request.Prepare ballot) v i = absurd cc
        by (request.Accept ballot members) v i = absurd cc

    pub serves_of : (asked : Request) → course_of layout me st call asked ≡ Serve member → ServesAs layout st call asked member
    serves_of asked is = known (group_of layout call.group.0) is
      where
        known : (found : Option Group)
            → course_in layout me learnt_there (ballots_in st call.group.0) call asked (option_map kept_there found) ≡ Serve member
            → ServesAs layout st call asked member
        known None is' = absurd cc
        known (Some group) is' = by (is_void_at layout learnt_there call asked (kept_there group) (seat_there (kept_there group))) refl is'
          where
            by : (b : Bool) → is_void_at layout learnt_there call asked (kept_there group) (seat_there (kept_there group)) ≡ b
                → cond b Void (course_as layout group.m learnt_there (seat_there (kept_there group)) moved_there call asked) ≡ Serve member
                → ServesAs layout st call asked member
            by true void i = absurd cc
            by false void i = served asked (kept_there group) void i

  -- a brick that votes
  module _ (learnt : Learnt) (ballot : Ballot) (asks : Option (List BrickId)) where
    abbrev may_keep : Group → Option (List BrickId) → Type 0
    may_keep group asked = ForSome asked (λ members. is_membership group.m layout.bricks members ≡ true)

    -- what is known of the group gives what is known of the vote
    voted : (found : Option Group) → group_of layout call.group.0 ≡ found → (group : Group) → found ≡ Some group → (other : Option (List BrickId)) (b : Ballot)
        → Vote learnt_there b other ≡ Vote learnt ballot asks → may_keep group other → VotesBy layout st call learnt asks
    voted found at group is other b same may = record {
      learnt_is = sym (learnt_same same);
      lists = λ g here. subst (may_keep g) (asks_same same) (subst (λ (x : Group). may_keep x other) (some_same (sym (at ∙ is) ∙ here)) may);
      known = subst IsSome (sym (at ∙ is)) refl;
    }
      where
        learnt_same : {a c : Learnt} {x y : Ballot} {m n : Option (List BrickId)} → Vote a x m ≡ Vote c y n → a ≡ c
        learnt_same e = cc

        asks_same : {a c : Learnt} {x y : Ballot} {m n : Option (List BrickId)} → Vote a x m ≡ Vote c y n → m ≡ n
        asks_same e = cc

        some_same : {a c : Group} → Some a ≡ Some c → a ≡ c
        some_same e = cc

    pub votes_of : (asked : Request) → course_of layout me st call asked ≡ Vote learnt ballot asks → VotesBy layout st call learnt asks
    votes_of asked is = known (group_of layout call.group.0) refl is
      where
        known : (found : Option Group) → group_of layout call.group.0 ≡ found
            → course_in layout me learnt_there (ballots_in st call.group.0) call asked (option_map kept_there found) ≡ Vote learnt ballot asks
            → VotesBy layout st call learnt asks
        known None at is' = absurd cc
        known (Some group) at is' = by (is_void_at layout learnt_there call asked (kept_there group) (seat_there (kept_there group))) refl is'
          where
            seated : (seat : Option ℕ) → served_at layout group.m seat ≡ Vote learnt ballot asks → VotesBy layout st call learnt asks
            seated None i = absurd cc
            seated (Some seat) i = absurd cc

            unless : (seat : Option ℕ) (moved : Option Reply) → served_unless_moved layout group.m seat moved ≡ Vote learnt ballot asks
                → VotesBy layout st call learnt asks
            unless seat None i = seated seat i
            unless seat (Some reply) i = absurd cc

            going : (asked : Request) (seat : Option ℕ) → fits layout group.m call asked seat ≡ true
                → course_as layout group.m learnt_there seat moved_there call asked ≡ Vote learnt ballot asks → VotesBy layout st call learnt asks
            going (request.Read want) seat f i = unless seat moved_there i
            going (request.Order t) seat f i = unless seat moved_there i
            going (request.OrderRead t look want) seat f i = unless seat moved_there i
            going (request.Write t bytes) seat f i = unless seat moved_there i
            going (request.Modify t base j delta) seat f i = unless seat moved_there i
            going (request.Collect t) seat f i = seated seat i
            going (request.OldRead bound) seat f i =
                old_course (λ (x : Course). x ≡ Vote learnt ballot asks → VotesBy layout st call learnt asks) learnt_there moved_there call bound
                (λ h. absurd cc) (λ h. absurd cc) (λ h. absurd cc) i
            going (request.Prepare b) seat f i = voted (Some group) at group refl None b i (λ members here. absurd cc)
            going (request.Accept b members) seat f i = voted (Some group) at group refl (Some members) b i
                (λ other here. subst (λ (x : List BrickId). is_membership group.m layout.bricks x ≡ true) (list_same here) (and_parts _ _ f).1)
              where
                list_same : {a c : List BrickId} → Some a ≡ Some c → a ≡ c
                list_same e = cc

            by : (b : Bool) → is_void_at layout learnt_there call asked (kept_there group) (seat_there (kept_there group)) ≡ b
                → cond b Void (course_as layout group.m learnt_there (seat_there (kept_there group)) moved_there call asked) ≡ Vote learnt ballot asks
                → VotesBy layout st call learnt asks
            by true void i = absurd cc
            by false void i = going asked (seat_there (kept_there group))
                (good layout learnt_there call asked (kept_there group) (seat_there (kept_there group)) void).fits_so i

-- ---- lists

-- a list that may keep a group has a member
pub membership_some : (m bricks : ℕ) (members : List BrickId) → 1 ≤ m → is_membership m bricks members ≡ true → 1 ≤ length members
unfolding is_membership
membership_some m bricks members some is =
    let sizes = and_parts (nat_le m (length members) && nat_le (length members) 32) (are_distinct members && list_all (λ brick. nat_lt brick.0 bricks) members) is in
    let long = and_parts (nat_le m (length members)) (nat_le (length members) 32) sizes.0 in
    grind (arith, nat_tests, some, long.0)

-- so has one that a brick is asked to accept
pub asked_some : (layout : Layout) (st : StateOf Version) (call : Call) (learnt : Learnt) (asks : Option (List BrickId)) → IsLayout layout
    → VotesBy layout st call learnt asks → ForSome asks (λ members. 1 ≤ length members)
asked_some layout st call learnt asks limits votes members at = by (group_of layout call.group.0) refl votes.known
  where
    by : (found : Option Group) → group_of layout call.group.0 ≡ found → IsSome found → 1 ≤ length members
    by None here some = absurd cc
    by (Some group) here some =
        membership_some group.m layout.bricks members (limits.each call.group.0 group here).limits.some_block (votes.lists group here members at)

-- and so have both lists of a view that may be taught
pub taught_some : (layout : Layout) (g : ℕ) (group : Group) (view : View) → IsLayout layout → group_of layout g ≡ Some group
    → is_view group.m layout.bricks view ≡ true → (1 ≤ length view.members) × (1 ≤ length view.prior)
taught_some layout g group view limits here is =
    let lists = and_parts (is_membership group.m layout.bricks view.members) (is_membership group.m layout.bricks view.prior) is in
    let some = (limits.each g group here).limits.some_block in
    (membership_some group.m layout.bricks view.members some lists.0, membership_some group.m layout.bricks view.prior some lists.1)
