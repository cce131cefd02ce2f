-- What a world's books say: operations, calls, numbers and marks agree, at every moment of every run.
use Rattle.std.proofs.Common.{◌≡◌, ℕ, ◌+◌, ◌<◌, ◌≤◌, ◌⊎◌, true, false, List, Option, Some, None, is_some}
use Rattle.std.specs.Prelude.{slice_get}
use Rattle.fab_base.specs.declared.stamps.Stamp.{Stamp}
use Rattle.fab_base.specs.declared.asks.Op.TheVariants.{ReadStripe}
use Rattle.reg_model.specs.declared.marks.Mark.{Mark}
use Rattle.reg_model.specs.Marks.{Life, life_of, IsOpen, IsWellFormed, position_of}
use Rattle.reg_model.specs.Strict.{IsAnswered}
use Rattle.protocol_laws.specs.Marked.{OwnMarks}
use Rattle.fab_base.specs.Layouts.{Group, group_of}
use Rattle.protocol.specs.Settings.{Setting}
use Rattle.protocol.specs.declared.phases.Counted.{Counted}
use Rattle.protocol.specs.declared.phases.Phase.{Phase}
use Rattle.protocol.specs.declared.phases.Phase.TheVariants.{Looks, LooksAt, Orders, OrdersAt, Recovers, Descends, Modifies, Bases, Stores, LooksBack}
use Rattle.protocol.specs.Coordinators.{Coordinator, most_rounds, asked_view, AreEnough}
use Rattle.protocol.specs.Jobs.{Job, job_ask}
use Rattle.protocol.specs.Nodes.{has_block, has_length, Node}
use Rattle.protocol.specs.Worlds.{World, Operation, number_of}
use Rattle.protocol.specs.Scrubs.{Scrub}
use Rattle.std.specs.Option.{option_map}

-- the replies that have counted, by operation and phase
abbrev pub Replies : Type 0
Replies = ℕ → ℕ → List Counted

-- operation n is o
abbrev pub IsOperation : World → ℕ → Operation → Type 0
IsOperation w n o = w.operations n ≡ Some o

-- the open operation of brick i's call k is at coordinator c
abbrev pub IsCall : World → ℕ → ℕ → Coordinator → Type 0
IsCall w i k c = (w.nodes i).calls k ≡ Some c

-- the version of an operation that ends: the one that it saw at once, or the one that it has
abbrev pub version_after : Option Stamp → Option Stamp → Option Stamp
version_after made None = made
version_after made (Some v) = Some v

-- the operation has made nothing, and read nothing
abbrev pub IsUnmade : Operation → Type 0
IsUnmade o = (o.version ≡ None) × (o.made ≡ false) × (o.base ≡ None)

-- the operation has made a version of the coordinator's stamp, on its base
abbrev pub IsMade : Coordinator → Operation → Type 0
IsMade c o = (o.version ≡ Some c.stamp) × (o.made ≡ true) × (o.base ≡ c.base)

-- a version of the coordinator's own stamp was made on its base from the phase on that stores or modifies, and none before
abbrev pub MadeInPhase : Coordinator → Operation → Phase → Type 0
MadeInPhase c o Looks = IsUnmade o
MadeInPhase c o (LooksAt j) = IsUnmade o
MadeInPhase c o Orders = IsUnmade o
MadeInPhase c o (OrdersAt j) = IsUnmade o
MadeInPhase c o Recovers = IsUnmade o
MadeInPhase c o (Descends bound) = IsUnmade o
MadeInPhase c o (LooksBack bound) = IsUnmade o
MadeInPhase c o (Modifies base j) = IsMade c o × (c.base ≡ Some base)
MadeInPhase c o (Bases base) = IsMade c o × (c.base ≡ Some base)
MadeInPhase c o Stores = IsMade c o

-- the number of a phase, by the rounds of ordering that were begun
abbrev pub InRound : Coordinator → Phase → Type 0
InRound c Looks = (c.call.phase ≡ 1) × (c.round ≡ 1)
InRound c (LooksAt j) = (c.call.phase ≡ 1) × (c.round ≡ 1)
InRound c Orders = c.call.phase ≡ c.round
InRound c (OrdersAt j) = c.call.phase ≡ c.round
InRound c Recovers = c.call.phase ≡ c.round + 1
InRound c (Descends bound) = Unit {0}
InRound c (LooksBack bound) = Unit {0}
InRound c (Modifies base j) = Unit {0}
InRound c (Bases base) = Unit {0}
InRound c Stores = Unit {0}

-- The two reads of its own that a brick may have open at a time: that of its synchronisation, and its scrub.
pub data Own : Type 0 where
  ForJob : Own
  ForScrub : Own

-- the number of such a read's call, where the brick has it
abbrev pub own_seq : Node → Own → Option ℕ
own_seq node ForJob = option_map (λ (job : Job). job.seq) node.job
own_seq node ForScrub = option_map (λ (scrub : Scrub). scrub.seq) node.scrub

-- its synchronisation and its scrub have two calls
abbrev pub AreApart : Node → Type 0
AreApart node = (k : ℕ) → own_seq node ForJob ≡ Some k → own_seq node ForScrub ≡ Some k → ⊥

-- a call is that of a read of the brick's own
abbrev pub IsOwnCall : Node → ℕ → Type 0
IsOwnCall node k = (own : Own) × (own_seq node own ≡ Some k)

-- a stripe of a group; or stripe 0, which a synchronisation reads of any group
abbrev pub IsReadable : Group → ℕ → Type 0
IsReadable group stripe = (stripe ≡ 0) ⊎ (stripe < group.stripes)

-- an operation that has marks, and its life in them: it is open while its call is
pub record LifeBooks (w : World) (o : Operation) : Type 0 where
  pub life : Life
  pub life_is : life_of w.marks o.mark ≡ Some life
  pub begin : life.begin ≡ o.begin
  pub brick : life.brick ≡ o.brick.0
  pub ask : life.ask ≡ o.ask
  pub answered : o.answered ≡ true → IsAnswered life.ending
  pub answered_only : IsAnswered life.ending → o.answered ≡ true
  pub open_call : IsOpen (Some life) → (o.boot ≡ (w.nodes o.brick.0).boot) × ((c : Coordinator) × IsCall w o.brick.0 o.seq c)
  pub unclosed : o.closed ≡ None

-- an operation that has no marks is a read of its brick's own, for its synchronisation or its scrub: it was answered where it ended without a cause
pub record UnmarkedBooks (o : Operation) : Type 0 where
  pub op : o.ask.op ≡ ReadStripe
  pub answered : o.answered ≡ true → o.closed ≡ Some None
  pub answered_only : o.closed ≡ Some None → o.answered ≡ true

-- operation n
pub record OperationBooks (setting : Setting) (w : World) (n : ℕ) (o : Operation) : Type 0 where
  pub from_one : 1 ≤ n
  pub begun : n ≤ w.begun
  pub number : w.numbers o.brick.0 o.boot o.seq ≡ n
  pub booted : (1 ≤ o.boot) × (o.boot ≤ (w.nodes o.brick.0).boot)
  pub called : (1 ≤ o.seq) × (o.boot ≡ (w.nodes o.brick.0).boot → o.seq ≤ (w.nodes o.brick.0).seq)
  pub group : Group
  pub group_is : group_of setting.layout o.ask.group.0 ≡ Some group
  pub stripe : 1 ≤ o.mark → o.ask.stripe.0 < group.stripes
  pub readable : IsReadable group o.ask.stripe.0
  pub block_fits : has_block group.m o.ask.op ≡ true
  pub length_fits : has_length group.m setting.layout.block o.ask.op ≡ true
  pub answered_version : o.answered ≡ true → (v : _) × (o.version ≡ Some v)
  pub lived : 1 ≤ o.mark → LifeBooks w o
  pub unmarked : o.mark ≡ 0 → UnmarkedBooks o

-- call k of brick i, whose coordinator is c, and its operation
pub record CallBooks (setting : Setting) (w : World) (i k : ℕ) (c : Coordinator) : Type 0 where
  pub operation : Operation
  pub operation_is : IsOperation w (number_of w i k) operation
  pub up : w.up i ≡ true
  pub brick : operation.brick.0 ≡ i
  pub boot : operation.boot ≡ (w.nodes i).boot
  pub seq : operation.seq ≡ k
  pub ask : c.ask ≡ operation.ask
  pub stamp_brick : c.stamp.brick ≡ operation.brick
  pub stamp_boot : c.stamp.boot ≡ (w.nodes i).boot
  pub stamp_known : (1 ≤ c.stamp.time) × (c.stamp.time ≤ (w.nodes i).known)
  pub call_boot : c.call.boot ≡ (w.nodes i).boot
  pub call_seq : c.call.seq ≡ k
  pub call_group : c.call.group ≡ c.ask.group
  pub call_view : c.call.view ≡ asked_view c.stamp c.phase
  pub stamp_view : operation.view ≡ c.stamp.view.0
  pub call_stripe : c.call.stripe ≡ c.ask.stripe
  pub stripes : (group : Group) → group_of setting.layout c.ask.group.0 ≡ Some group → c.group.stripes ≡ group.stripes
  pub rounds : (1 ≤ c.round) × (c.round ≤ most_rounds)
  pub in_round : InRound c c.phase
  pub made : MadeInPhase c operation c.phase
  pub unended : 1 ≤ operation.mark → (life : Life) → life_of w.marks operation.mark ≡ Some life → IsOpen (Some life)
  pub unclosed : operation.closed ≡ None
  pub unanswered : operation.answered ≡ false
  pub reads : operation.mark ≡ 0 → IsOwnCall (w.nodes i) k
  pub enough : AreEnough c.group c.only
  pub alone : is_some c.only ≡ true → own_seq (w.nodes i) ForScrub ≡ Some k

-- the read of brick i's own whose call has this number, which may have ended
pub record OwnBooks (w : World) (i k : ℕ) : Type 0 where
  pub operation : Operation
  pub operation_is : IsOperation w (number_of w i k) operation
  pub mark : operation.mark ≡ 0
  pub brick : operation.brick.0 ≡ i
  pub boot : operation.boot ≡ (w.nodes i).boot
  pub seq : operation.seq ≡ k

-- the synchronisation of brick i, and the read that it began last
pub record JobBooks (w : World) (i : ℕ) (job : Job) : Type 0 where
  pub own : OwnBooks w i job.seq
  pub ask : own.operation.ask ≡ job_ask job
  pub view : own.operation.view ≡ job.view.number.0

-- the books of a world
pub record Books (setting : Setting) (w : World) : Type 0 where
  pub well_formed : IsWellFormed w.marks
  pub places : (k : ℕ) (mark : Mark) → slice_get w.marks k ≡ Some mark → position_of mark ≡ k
  pub boots : (i : ℕ) → w.up i ≡ true → 1 ≤ (w.nodes i).boot
  pub own : OwnMarks w
  pub all_begun : (n : ℕ) → 1 ≤ n → n ≤ w.begun → (o : Operation) × IsOperation w n o
  pub operations : (n : ℕ) (o : Operation) → IsOperation w n o → OperationBooks setting w n o
  pub calls : (i k : ℕ) (c : Coordinator) → IsCall w i k c → CallBooks setting w i k c
  pub fresh_calls : (i k : ℕ) → (w.nodes i).seq < k → (w.nodes i).calls k ≡ None
  pub jobs : (i : ℕ) (job : Job) → (w.nodes i).job ≡ Some job → JobBooks w i job
  pub scrubs : (i k : ℕ) → own_seq (w.nodes i) ForScrub ≡ Some k → OwnBooks w i k
  pub apart : (i : ℕ) → AreApart (w.nodes i)
  pub lives : (n : ℕ) (life : Life) → life_of w.marks n ≡ Some life → (1 ≤ n) × (n ≤ w.marked)
