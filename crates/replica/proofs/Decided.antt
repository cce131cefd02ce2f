-- What a member decides for the part that its store shows is the step of the machine.
use Rattle.std.proofs.Common.{◌≡◌, ℕ, Bool, true, false, cond, List, [], ◌∷◌, ◌++◌, map, Option, refl, sym, ap, subst, ◌∙◌}
use Rattle.std.specs.Prelude.{replicate}
use Rattle.fab_base.specs.declared.stamps.Stamp.{Stamp}
use Rattle.fab_base.specs.Stamps.{first_stamp}
use Rattle.fab_base.proofs.StampOrder.{stamp_same_refl}
use Rattle.frame_store.specs.declared.shapes.Shape.{Shape}
use Rattle.frame_store.specs.Layouts.{shape_of}
use Rattle.brick_store.specs.Blocks.{log_of, log_at}
use Rattle.std.specs.Option.{option_map}
use Rattle.fab_base.specs.declared.identities.BrickId.{BrickId}
use Rattle.fab_base.specs.Layouts.{Layout}
use Rattle.messages.specs.declared.calls.Call.{Call}
use Rattle.messages.specs.declared.packets.Message.{Message}
use Rattle.messages.specs.declared.requests.Request.{Request}
use Rattle.messages.specs.declared.replies.Reply.{Reply}
use Rattle.version_log.specs.Versions.{Version, version}
use Rattle.brick_state.specs.States.{StripeOf, StateOf, stripe_at, live}
use Rattle.brick_store.specs.Bricks.{Brick}
use Rattle.brick_store.specs.Logs.{StripeLog}
use Rattle.protocol.specs.Nodes.{Node, full_at}
use Rattle.protocol.specs.Replicas.{Replica, Reaction, handle}
use Rattle.stripe_code.specs.Codes.{block_code}
use Rattle.replica.specs.declared.plans.Plan.{Plan}
use Rattle.replica.specs.Parts.{as_version, part_of, log_seen, part_seen, IsBegun, IsPartsOf}
use Rattle.replica.specs.Plans.{planned, is_shared, IsChange}
use Rattle.replica.specs.Reactions.{place_of, part_at, IsReacted, IsStep}
use Rattle.replica.specs.Calls.{shares_block, part_append, message_append}
use Rattle.replica.proofs.Sharing.{change_planned, append_planned}
use Rattle.replica.specs.Members.{Member}
use Rattle.replica.specs.declared.courses.Course.TheVariants.{Serve}
use Rattle.replica.proofs.Stepping.{Takes, reaction_at, step_served, append_served}

-- what is decided for the part that a store shows, by the member at this seat of stripes of m blocks of this many bytes
pub record IsDecided {D : Type 0} (store : Brick D) (layout : Layout) (call : Call) (request : Request) (m seat : ℕ) (plan : Plan) : Type 0 where
  pub size : store.shape.block ≡ layout.block
  pub records : store.shape.records ≡ layout.records
  pub reaction : (full : Option ℕ) → planned full (part_at store.shape.block store.state call) plan
      ≡ handle (block_code layout.block) m full seat (part_at store.shape.block store.state call) request
  pub change : IsChange store.shape.block (shares_block request) (part_at store.shape.block store.state call) plan

-- a look-up with this order stamp and log sees the part that they are
seen_part : (seen : StripeLog) (order : Stamp) (log : List Version) (start : Bool) → seen.order ≡ order → seen.log ≡ log
    → part_seen seen start ≡ part_of order log start
seen_part seen order log start order_is log_is =
    ap (λ (o : Stamp). part_of o seen.log start) order_is ∙ ap (λ (vs : List Version). part_of order vs start) log_is

-- where the first version is to be there, it is
begun_part : (block : ℕ) (s : StripeOf Version) → IsBegun s.from_start (map as_version (log_of block s))
begun_part block s = by s.from_start
  where
    by : (from : Bool) → IsBegun from (map as_version (cond from (version first_stamp (replicate block 0) ∷ []) [] ++ s.added))
    by true is = rw (stamp_same_refl first_stamp) refl
    by false is = absurd cc

-- as it is for the part that a look-up sees
pub decided : {D : Type 0} (store : Brick D) (layout : Layout) (call : Call) (request : Request) (m seat block : ℕ) (seen : StripeLog) (plan : Plan)
    → store.shape ≡ shape_of store.shape.me layout.block layout.records → block ≡ layout.block
    → seen.order ≡ (stripe_at store.state (place_of call)).order → seen.log ≡ log_at store.shape.block store.state (place_of call)
    → ((full : Option ℕ) (start : Bool) → IsBegun start (log_seen seen)
    → planned full (part_seen seen start) plan ≡ handle (block_code block) m full seat (part_seen seen start) request)
    → ((start : Bool) → IsChange block (shares_block request) (part_seen seen start) plan) → IsDecided store layout call request m seat plan
decided store layout call request m seat block seen plan shape long order log reaction change = record {
  size = size;
  records = ap (λ (x : Shape). x.records) shape;
  reaction = λ full.
      subst (λ (b : ℕ). planned full (part_at store.shape.block store.state call) plan
      ≡ handle (block_code b) m full seat (part_at store.shape.block store.state call) request) long
      (subst (λ (part : Replica). planned full part plan ≡ handle (block_code block) m full seat part request) shown (reaction full from begun));
  change =
      subst (λ (b : ℕ). IsChange b (shares_block request) (part_at store.shape.block store.state call) plan) (long ∙ sym size)
      (subst (λ (part : Replica). IsChange block (shares_block request) part plan) shown (change from));
}
  where
    size : store.shape.block ≡ layout.block
    size = ap (λ (x : Shape). x.block) shape

    stripe : StripeOf Version
    stripe = stripe_at store.state (place_of call)

    from : Bool
    from = stripe.from_start

    shown : part_seen seen from ≡ part_at store.shape.block store.state call
    shown = seen_part seen stripe.order (log_at store.shape.block store.state (place_of call)) from order log

    begun : IsBegun from (log_seen seen)
    begun = subst (λ (vs : List Version). IsBegun from (map as_version vs)) (sym log) (begun_part store.shape.block stripe)

module _ {D : Type 0} (store : Brick D) (layout : Layout) (me from : BrickId) (call : Call) (request : Request) (member : Member) (plan : Plan)
    (is : IsDecided store layout call request member.m member.seat plan) where
  abbrev part : Replica
  part = part_at store.shape.block store.state call

  abbrev reaction : Reaction
  reaction = planned (full_at store.shape.records (live store.state)) part plan

  -- it is the member's reaction
  reaction_is : reaction ≡ reaction_at layout me from call request store.state member.m member.seat
  reaction_is =
      is.reaction (full_at store.shape.records (live store.state))
      ∙ (λ k. handle (block_code layout.block) member.m (full_at (is.records k) (live store.state)) member.seat (part_at (is.size k) store.state call) request)

  pub change_decided : IsChange store.shape.block (is_shared plan) part plan
  change_decided = change_planned store.shape.block (shares_block request) part plan is.change

  module _ (takes : Takes layout me from call request store.state (Serve member)) where
    -- so what follows from it is a step of the machine
    pub step_decided : (reply : Option Reply) (after : StateOf Version) → IsReacted store.shape.block call store.state reaction reply after
        → IsStep layout me from (Message.Request call request) store.state (option_map (λ r. Message.Reply call r) reply) after
    step_decided reply after reacted =
        step_served layout me from call request store.state member takes reply after
        (subst (λ (b : ℕ). IsReacted b call store.state (reaction_at layout me from call request store.state member.m member.seat) reply after) is.size
        (subst (λ (r : Reaction). IsReacted store.shape.block call store.state r reply after) reaction_is reacted))

    -- which appends the same
    pub append_decided : (node : Node) → IsPartsOf layout store.state node
        → message_append layout me from node (Message.Request call request) ≡ part_append (is_shared plan) part reaction.replica
    append_decided node parts =
        append_served layout me from call request store.state node parts member takes
        ∙ sym (append_planned store.shape.block (shares_block request) part (full_at store.shape.records (live store.state)) plan is.change
        ∙ (λ k. part_append (shares_block request) (part_at (is.size k) store.state call) (reaction_is k).replica))
