-- An operation alone, seen from its coordinator: a small machine of the coordinator, what its members keep of its stripe, and the queue of its
-- messages. What it does, the disk does with the operation's messages alone.
use Rattle.messages.specs.declared.replies.Reply.TheVariants.{Old}
use Rattle.protocol.specs.declared.phases.Phase.TheVariants.{LooksBack}
use Rattle.fab_base.specs.declared.asks.Op.TheVariants.{ReadBlock, ReadStripe, WriteBlock, WriteStripe}
use Rattle.fab_base.specs.declared.asks.Op.{Op}
use Rattle.std.proofs.Common.{List, None, Option, Some, [], false, refl, subst, sym, true, ℕ, ◌++◌, ◌+◌, ◌∷◌, ◌≡◌, Bool, ap, cond, ◌∙◌, is_some, length, ◌⊎◌, inl, inr}
use Rattle.std.specs.Prelude.{filter, max, nat_eq, ◌-◌, nat_lt, ◌||◌}
use Rattle.fab_base.specs.Layouts.{Group, seat_in}
use Rattle.fab_base.specs.declared.answers.Answer.{Answer}
use Rattle.fab_base.specs.declared.identities.BrickId.{BrickId}
use Rattle.fab_base.specs.declared.stamps.Stamp.{Stamp}
use Rattle.messages.specs.declared.calls.Call.{Call}
use Rattle.messages.specs.declared.packets.Message.{Message}
use Rattle.messages.specs.declared.packets.Packet.{Packet}
use Rattle.messages.specs.declared.replies.Reply.{Reply}
use Rattle.messages.specs.declared.requests.Request.{Request}
use Rattle.messages.specs.declared.requests.Version.{Version}
use Rattle.protocol.specs.Calms.{goes_among, is_one_of}
use Rattle.protocol.specs.Coordinators.{Coordinator, Ends, Ignores, Makes, Next, Sends, Waits, on_reply, request_of, asked_group, asked_view, looks_back, needed_of, needed, may_count_in, may_count, asks_each}
use Rattle.protocol.specs.Views.{view_told, kept_by}
use Rattle.protocol.specs.Nodes.{fits, fresh_stamp, full_at, known_after, phase_packets, put, reply_packets, first_phase}
use Rattle.protocol.specs.Replicas.{Reaction, Replica, handle, newest_of, under}
use Rattle.protocol.specs.Settings.{Setting}
use Rattle.protocol.specs.declared.phases.Phase.{Phase}
use Rattle.protocol.specs.Worlds.{is_answer}
use Rattle.protocol_laws.proofs.Outcomes.{IsLook}
use Rattle.quorum.specs.Quorums.{quorum_of}

-- a member at its seat
pub record Seated : Type 0 where
  pub seat : ℕ
  pub brick : BrickId

-- What stays as it is meanwhile: the setting, the bricks that hear one another, the coordinator's brick and its clock, the operation's call, the group, and the members
-- whose replies count: the first quorum that hears the coordinator, or all where some members alone count, and which these are. And the group as the members of the view before keep it, whether the operation may ask these, and what
-- each brick keeps of the stripe in that view.
pub record Stage : Type 0 where
  pub setting : Setting
  pub bricks : List BrickId
  pub me : BrickId
  pub now : ℕ
  pub call : Call
  pub group : Group
  pub quorum : List Seated
  pub only : Option (List BrickId)
  pub prior : Group
  pub may_ask : Bool
  pub old : ℕ → List Version

-- what a brick keeps of the stripe, and how many live records it keeps in all
pub record Part : Type 0 where
  pub replica : Replica
  pub live : ℕ

-- the open operation at its coordinator, the greatest time that its brick knows, the parts by brick, and the messages that wait to be delivered
pub record Scene : Type 0 where
  pub c : Coordinator
  pub known : ℕ
  pub parts : ℕ → Part
  pub queue : List Packet

-- a member that hears the coordinator, at its seat
abbrev pub IsSeated : Stage → Seated → Type 0
IsSeated stage x = (seat_in stage.group.members x.brick.0 ≡ Some x.seat) × (is_one_of stage.bricks x.brick ≡ true)

-- what holds of each
abbrev pub Each : {A : Type 0} → (A → Type 0) → List A → Type 0
Each P [] = Unit {0}
Each P (x ∷ xs) = P x × Each P xs

-- no two of these members sit at one seat
abbrev pub AreApart : List Seated → Type 0
AreApart [] = Unit {0}
AreApart (x ∷ xs) = Each (λ y. nat_eq x.seat y.seat ≡ false) xs × AreApart xs

-- the newest version of a log is of this stamp
abbrev pub IsNewest : Stamp → List Version → Type 0
IsNewest t log = (version : Version) × (newest_of log ≡ Some version) × (version.stamp ≡ t)

-- how an operation is answered that is in this phase, with this stamp: at a look, or with its version the newest at the members whose replies count
abbrev pub EndsAt : Stage → Phase → Stamp → (ℕ → Part) → Option Stamp → Option Stamp → Type 0
EndsAt stage phase stamp parts seen None = IsLook phase
EndsAt stage phase stamp parts None (Some t) = (t ≡ stamp) × Each (λ x. IsNewest t (parts x.brick.0).replica.log) stage.quorum
EndsAt stage phase stamp parts (Some v) (Some t) = ⊥

-- what a coordinator asks of a member
abbrev pub asked_of : Stage → Coordinator → Seated → Request
asked_of stage c x = request_of stage.setting.code c x.seat

abbrev pub asking : Stage → Coordinator → Seated → Packet
asking stage c x = record { from = stage.me; to = x.brick; message = Message.Request c.call (asked_of stage c x) }

-- a member's reply to the coordinator
abbrev pub replying : Stage → BrickId → Call → Reply → Packet
replying stage from call reply = record { from = from; to = stage.me; message = Message.Reply call reply }

-- what a member does with what it is asked
abbrev pub reaction : Stage → Coordinator → Part → Seated → Reaction
reaction stage c part x =
    handle stage.setting.code stage.group.m (full_at stage.setting.layout.records part.live) x.seat part.replica (asked_of stage c x)

-- a part after that
abbrev pub part_after : Stage → Coordinator → Part → Seated → Part
part_after stage c part x =
    record { replica = (reaction stage c part x).replica; live = part.live + (reaction stage c part x).adds - (reaction stage c part x).drops }

-- and what it replies
abbrev pub replies_from : Stage → Coordinator → Part → Seated → List Packet
replies_from stage c part x = reply_packets x.brick stage.me c.call (reaction stage c part x).reply

-- what is asked can be stored
abbrev pub Fits : Stage → Coordinator → Seated → Type 0
Fits stage c x = fits stage.setting.layout stage.group.m c.call (asked_of stage c x) (Some x.seat) ≡ true

-- the scene once a member was asked
abbrev pub asked : Stage → Scene → Seated → List Packet → Scene
asked stage s x rest =
    record s {
      parts = put s.parts x.brick.0 (part_after stage s.c (s.parts x.brick.0) x);
      queue = rest ++ replies_from stage s.c (s.parts x.brick.0) x;
    }

-- the scene once a reply was heard
abbrev pub heard : Scene → Reply → List Packet → Scene
heard s reply rest = record s { known = known_after s.known reply; queue = rest }

-- what the coordinator does with a reply
abbrev pub decision : Stage → Scene → BrickId → Call → Reply → Next
decision stage s from call reply =
    on_reply stage.setting.layout.block stage.setting.code
    (fresh_stamp stage.me s.c.stamp.view stage.now s.c.call.boot (known_after s.known reply)) s.c from call reply

-- the messages of a phase that are delivered
abbrev pub sends : Stage → Coordinator → List Packet
sends stage d = filter (goes_among stage.bricks) (phase_packets stage.setting stage.me d)

-- a phase that does not look back is of the operation's view
pub view_ahead : (t : Stamp) (phase : Phase) → looks_back phase ≡ false → asked_view t phase ≡ t.view
view_ahead t phase ahead = ap (λ (b : Bool). cond b (record { 0 = t.view.0 - 1 }) t.view) ahead

-- a first phase looks at the operation's own view
pub first_ahead : (op : Op) → looks_back (first_phase op) ≡ false
first_ahead (ReadBlock j) = refl
first_ahead (WriteBlock j bytes) = refl
first_ahead ReadStripe = refl
first_ahead (WriteStripe bytes) = refl

-- the coordinators are of one operation
pub record SameCall (c d : Coordinator) : Type 0 where
  pub group : d.group ≡ c.group
  pub prior : d.prior ≡ c.prior
  pub only : d.only ≡ c.only
  pub boot : d.call.boot ≡ c.call.boot
  pub seq : d.call.seq ≡ c.call.seq
  pub of_group : d.call.group ≡ c.call.group
  pub view : d.stamp.view ≡ c.stamp.view
  pub stripe : d.call.stripe ≡ c.call.stripe

-- A coordinator is of the stage's operation.
pub record IsOf (stage : Stage) (c : Coordinator) : Type 0 where
  pub group : c.group ≡ stage.group
  pub prior : kept_by c.prior c.group ≡ stage.prior
  pub only : c.only ≡ stage.only
  pub boot : c.call.boot ≡ stage.call.boot
  pub seq : c.call.seq ≡ stage.call.seq
  pub of_group : c.call.group ≡ stage.call.group
  pub view : c.stamp.view ≡ stage.call.view
  pub stripe : c.call.stripe ≡ stage.call.stripe

-- so is another of the same operation
pub of_same : (stage : Stage) (c d : Coordinator) → SameCall c d → IsOf stage c → IsOf stage d
of_same stage c d same is = record {
  group = same.group ∙ is.group;
  prior = ap (λ (members : List BrickId). kept_by members d.group) same.prior ∙ ap (λ (g : Group). kept_by c.prior g) same.group ∙ is.prior;
  only = same.only ∙ is.only;
  boot = same.boot ∙ is.boot;
  seq = same.seq ∙ is.seq;
  of_group = same.of_group ∙ is.of_group;
  view = same.view ∙ is.view;
  stripe = same.stripe ∙ is.stripe;
}

-- A phase is for each of the members that alone count, or every member counts.
abbrev pub IsForAll : Stage → Phase → Type 0
IsForAll stage phase = (asks_each phase ≡ true) ⊎ (stage.only ≡ None)

-- another phase, and any where every member counts, needs a quorum of those who are asked
pub quorum_needed : (c : Coordinator) → (asks_each c.phase ≡ false) ⊎ (c.only ≡ None) → needed c ≡ quorum_of (asked_group c)
quorum_needed c (inr all) = ap (λ (o : Option (List BrickId)). needed_of (asked_group c) c.phase o) all
quorum_needed c (inl isnt) = by c.only
  where
    by : (only : Option (List BrickId)) → needed_of (asked_group c) c.phase only ≡ quorum_of (asked_group c)
    by None = refl
    by (Some only) = ap (λ (b : Bool). cond b (length only) (quorum_of (asked_group c))) isnt

-- each of those who are asked may count in a phase that looks back
pub back_counts : (c : Coordinator) (bound : Option Stamp) → c.phase ≡ LooksBack bound → (brick : ℕ) → may_count c brick ≡ true
back_counts c bound is brick = by c.only
  where
    by : (only : Option (List BrickId)) → may_count_in c.phase only brick ≡ true
    by None = refl
    by (Some only) = ap (λ (p : Phase). looks_back p || is_some (seat_in only brick)) is

-- A coordinator is in a phase that asks the members of its operation's view: its call is of the view of its stamp.
pub record IsInView (stage : Stage) (c : Coordinator) : Type 0 where
  pub of : IsOf stage c
  pub ahead : looks_back c.phase ≡ false
  pub own : c.call.view ≡ c.stamp.view

-- such a phase asks the group's members
pub asks_own : (stage : Stage) (c : Coordinator) → IsInView stage c → asked_group c ≡ stage.group
asks_own stage c is = ap (λ (b : Bool). cond b (kept_by c.prior c.group) c.group) is.ahead ∙ is.of.group

-- A coordinator is in a phase that asks the members of the view before, below a bound: its call is of that view.
pub record IsBack (stage : Stage) (c : Coordinator) (bound : Option Stamp) : Type 0 where
  pub of : IsOf stage c
  pub phase : c.phase ≡ LooksBack bound
  pub own : c.call.view ≡ record { 0 = c.stamp.view.0 - 1 }

-- such a phase asks the group's members of that view
pub asks_before : (stage : Stage) (c : Coordinator) (bound : Option Stamp) → IsBack stage c bound → asked_group c ≡ stage.prior
asks_before stage c bound is = ap (λ (p : Phase). cond (looks_back p) (kept_by c.prior c.group) c.group) is.phase ∙ is.of.prior

-- a member of the view before that hears the coordinator, at its seat there
abbrev pub IsSeatedBack : Stage → Seated → Type 0
IsSeatedBack stage x = (seat_in stage.prior.members x.brick.0 ≡ Some x.seat) × (is_one_of stage.bricks x.brick ≡ true)

-- what a member finds in the view before, below a bound
abbrev pub found_back : Stage → Option Stamp → Seated → Option Version
found_back stage bound x = newest_of (under bound (stage.old x.brick.0))

-- in its own view its call is the operation's, in some phase
pub call_of : (stage : Stage) (c : Coordinator) → IsOf stage c → c.call.view ≡ c.stamp.view → c.call ≡ record stage.call { phase = c.call.phase }
call_of stage c is own = λ i. record {
  boot = is.boot i;
  seq = is.seq i;
  phase = c.call.phase;
  group = is.of_group i;
  view = (own ∙ is.view) i;
  stripe = is.stripe i;
}

-- the scene as the coordinator goes on, begins an ordered phase, or makes its version
abbrev pub waits : Scene → Coordinator → Scene
waits s d = record s { c = d }

abbrev pub sent : Stage → Scene → Coordinator → Scene
sent stage s d = record s { c = d; known = max s.known d.stamp.time; queue = s.queue ++ sends stage d }

abbrev pub made : Stage → Scene → Coordinator → Scene
made stage s d = record s { c = d; queue = s.queue ++ sends stage d }

-- the next message is this reply, which teaches no view
pub record IsNext (stage : Stage) (s : Scene) (from : BrickId) (call : Call) (reply : Reply) (rest : List Packet) : Type 0 where
  pub queue : s.queue ≡ replying stage from call reply ∷ rest
  pub seq : (call.boot ≡ s.c.call.boot) × (call.seq ≡ s.c.call.seq)
  pub plain : view_told reply ≡ None

-- From a scene the operation comes to an answer that is no abort: its messages are delivered in order.
pub data Closes (stage : Stage) : Scene → Type 0 where
  Asks : (s : Scene) (x : Seated) (rest : List Packet) → s.queue ≡ asking stage s.c x ∷ rest → IsSeated stage x → Fits stage s.c x
      → IsInView stage s.c → Closes stage (asked stage s x rest) → Closes stage s
  AsksBack : (s : Scene) (x : Seated) (rest : List Packet) (bound : Option Stamp) → s.queue ≡ asking stage s.c x ∷ rest → IsSeatedBack stage x
      → IsBack stage s.c bound → stage.may_ask ≡ true → nat_lt 1 stage.call.view.0 ≡ true
      → Closes stage (record s { queue = rest ++ (replying stage x.brick s.c.call (Old (found_back stage bound x)) ∷ []) }) → Closes stage s
  Skips : (s : Scene) (from : BrickId) (call : Call) (reply : Reply) (rest : List Packet) → IsNext stage s from call reply rest
      → decision stage s from call reply ≡ Ignores → Closes stage (heard s reply rest) → Closes stage s
  Counts : (s : Scene) (from : BrickId) (call : Call) (reply : Reply) (rest : List Packet) (d : Coordinator) → IsNext stage s from call reply rest
      → decision stage s from call reply ≡ Waits d → SameCall s.c d → Closes stage (waits (heard s reply rest) d) → Closes stage s
  Begins : (s : Scene) (from : BrickId) (call : Call) (reply : Reply) (rest : List Packet) (d : Coordinator) → IsNext stage s from call reply rest
      → decision stage s from call reply ≡ Sends d → SameCall s.c d → Closes stage (sent stage (heard s reply rest) d) → Closes stage s
  Creates : (s : Scene) (from : BrickId) (call : Call) (reply : Reply) (rest : List Packet) (d : Coordinator) → IsNext stage s from call reply rest
      → decision stage s from call reply ≡ Makes d → SameCall s.c d → Closes stage (made stage (heard s reply rest) d) → Closes stage s
  Answers : (s : Scene) (from : BrickId) (call : Call) (reply : Reply) (rest : List Packet) (answer : Answer) (seen stored : Option Stamp)
      → IsNext stage s from call reply rest → decision stage s from call reply ≡ Ends answer seen stored → is_answer answer ≡ true
      → EndsAt stage s.c.phase s.c.stamp s.parts seen stored → Closes stage s

-- what is left to show, where a coordinator decided this
abbrev pub Outcome : Stage → Scene → Next → Type 0
Outcome stage s Ignores = Closes stage s
Outcome stage s (Waits d) = SameCall s.c d × Closes stage (waits s d)
Outcome stage s (Sends d) = SameCall s.c d × Closes stage (sent stage s d)
Outcome stage s (Makes d) = SameCall s.c d × Closes stage (made stage s d)
Outcome stage s (Ends answer seen stored) = (is_answer answer ≡ true) × EndsAt stage s.c.phase s.c.stamp s.parts seen stored

-- a reply is heard, and what it decides is carried out
pub hears : (stage : Stage) (s : Scene) (from : BrickId) (call : Call) (reply : Reply) (rest : List Packet) → IsNext stage s from call reply rest
    → Outcome stage (heard s reply rest) (decision stage s from call reply) → Closes stage s
hears stage s from call reply rest next outcome = go (decision stage s from call reply) refl outcome
  where
    go : (z : Next) → decision stage s from call reply ≡ z → Outcome stage (heard s reply rest) z → Closes stage s
    go Ignores is then = Skips s from call reply rest next is then
    go (Waits d) is then = Counts s from call reply rest d next is then.0 then.1
    go (Sends d) is then = Begins s from call reply rest d next is then.0 then.1
    go (Makes d) is then = Creates s from call reply rest d next is then.0 then.1
    go (Ends answer seen stored) is then = Answers s from call reply rest answer seen stored next is then.0 then.1

-- a scene with another queue, which is the same
pub with_queue : (stage : Stage) (s : Scene) (queue : List Packet) → s.queue ≡ queue → Closes stage (record s { queue = queue }) → Closes stage s
with_queue stage s queue is closes = subst (λ (q : List Packet). Closes stage (record s { queue = q })) (sym is) closes
