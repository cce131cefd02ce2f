-- What is planned is kept by one change of the store.
use Rattle.std.proofs.Common.{◌≡◌, ℕ, Bool, true, false, Option, Some, None, List, length, Result, Ok, sym, ap, subst, ◌∙◌}
use Rattle.std.specs.Prelude.{is_none}
use Rattle.std.specs.List.Sorted.{IsStrictlySortedBy}
use Rattle.std.specs.Map.{keys_of}
use Rattle.std.specs.Option.{ForSome, option_map}
use Rattle.fab_base.specs.declared.stamps.Stamp.{Stamp}
use Rattle.fab_disk.specs.declared.disk.Disk as on_disk
use Rattle.messages.specs.declared.calls.Call.{Call}
use Rattle.messages.specs.declared.replies.Reply.{Reply}
use Rattle.messages.specs.declared.replies.Reply.TheVariants.{Stored}
use Rattle.version_log.specs.Versions.{Version}
use Rattle.brick_state.specs.States.{StateOf, place_cmp, stripe_at, ordered, collected, live}
use Rattle.brick_store.specs.declared.faults.StoreFault.{StoreFault}
use Rattle.brick_store.specs.Blocks.{HasStamp, IsNext, log_at, block_added, adds_stamp, version_stamp, with_version}
use Rattle.brick_store.specs.Bricks.{Brick}
use Rattle.brick_store.specs.Calls.{Append, append_calls, calls_of, version_calls}
use Rattle.brick_store.specs.Changes.{Answers}
use Rattle.brick_store.specs.Ends.{BrickChange, end_of}
use Rattle.brick_store.specs.Sizes.{stamped_size, version_size}
use Rattle.protocol.specs.Nodes.{full_at}
use Rattle.protocol.specs.Replicas.{Replica, Reaction, newest_of, promised, stored, unless_full}
use Rattle.replica.specs.declared.faults.ReplicaFault.{ReplicaFault}
use Rattle.replica.specs.declared.plans.Plan.{Plan}
use Rattle.replica.specs.declared.plans.Plan.TheVariants.{Ignore, Tell, Promise, Store, Collect}
use Rattle.replica.specs.Parts.{as_version}
use Rattle.replica.specs.Plans.{planned, is_shared, IsChange}
use Rattle.replica.specs.Reactions.{place_of, part_at, IsReacted}
use Rattle.replica.specs.Handling.{Runs, answered}
use Rattle.replica.specs.Calls.{part_append}
use Rattle.replica.proofs.Answering.{HandlesBy, changed_next, handles_none}
use Rattle.replica.proofs.Logs.{newest_seen, held_seen}
use Rattle.replica.proofs.Reacting.{reacted_stays, promise_grows, order_made, store_made, none_made, order_moves, store_moves, reacted_collect, collect_moves, unless_room, unless_none}
use Rattle.replica.proofs.Runs.{append_kept, append_ordered, append_stored, version_stored}
use Rattle.replica.proofs.Sharing.{has_block, own_long, stored_added, append_collected}

-- what a plan promises of the store, once it is carried out
abbrev pub PlanKept : {D : Type 0} → on_disk.Ghosts D → Brick D → Call → Plan → Result (Option Reply) ReplicaFault → Brick D → Type 0
PlanKept d old call plan result new =
    let part = part_at old.shape.block old.state call in
    let reaction = planned (full_at old.shape.records (live old.state)) part plan in
    HandlesBy d (part_append (is_shared plan) part reaction.replica) (IsReacted old.shape.block call old.state reaction) old new result

module _ {D : Type 0} (d : on_disk.Ghosts D)
    (only_now : (disk : D) (image : List ℕ) → d.left_since disk (d.moment disk) image → d.may_leave disk image) (old : Brick D) (runs : Runs d old)
    (call : Call) (plan : Plan) (change : IsChange old.shape.block (is_shared plan) (part_at old.shape.block old.state call) plan) where
  abbrev block : ℕ
  block = old.shape.block

  abbrev records : ℕ
  records = old.shape.records

  abbrev st : StateOf Version
  st = old.state

  abbrev part : Replica
  part = part_at block st call

  abbrev full : Option ℕ
  full = full_at records (live st)

  abbrev log : List Version
  log = log_at block st (place_of call)

  abbrev Reacts : Reaction → Option Reply → StateOf Version → Type 0
  Reacts reaction = IsReacted block call st reaction

  abbrev appends : Bool → Reaction → Option Append
  appends shares reaction = part_append shares part reaction.replica

  sorted : IsStrictlySortedBy place_cmp (keys_of st.stripes)
  sorted = runs.ordered.sorted

  -- this plan, which is the one that is carried out, is a change
  change_as : {is : Plan} → plan ≡ is → IsChange block (is_shared is) part is
  change_as same = subst (λ (p : Plan). IsChange block (is_shared p) part p) same change

  -- what it promises, that one does
  kept_as : {is : Plan} → plan ≡ is → (new : Brick D) (result : Result (Option Reply) ReplicaFault) → PlanKept d old call is result new
      → PlanKept d old call plan result new
  kept_as same new result = subst (λ (p : Plan). PlanKept d old call p result new) (sym same)

  -- ---- nothing is changed

  pub ignore_kept : plan ≡ Ignore → PlanKept d old call plan (Ok None) old
  ignore_kept is =
      kept_as is old (Ok None)
      (handles_none d only_now (Reacts (planned full part Ignore)) old runs _ (append_kept false part) None (reacted_stays block call None st))

  pub tell_kept : (reply : Reply) → plan ≡ Tell reply → PlanKept d old call plan (Ok (Some reply)) old
  tell_kept reply is =
      kept_as is old (Ok (Some reply))
      (handles_none d only_now (Reacts (planned full part (Tell reply))) old runs _ (append_kept false part) (Some reply)
      (reacted_stays block call (Some reply) st))

  -- ---- an order stamp

  pub promise_kept : (t : Stamp) (reply : Reply) → plan ≡ Promise t reply → (new : Brick D) (answer : Result (Unit {0}) StoreFault)
      (result : Result (Option Reply) ReplicaFault) → result ≡ answered (Some reply) answer
      → BrickChange d (calls_of old stamped_size append_calls) old (ordered (place_of call) t st) new.disk (end_of answer)
      → Answers old new (ordered (place_of call) t st) stamped_size (adds_stamp t (stripe_at st (place_of call)).order) answer
      → PlanKept d old call plan result new
  promise_kept t reply is new answer result result_is run answers =
      let later = change_as is in
      let reaction = promised part t reply in
      let follows = unless_full full part reaction in
      let grows = promise_grows block call st sorted t reply in
      kept_as is new result
      (changed_next d (Reacts follows) old new (ordered (place_of call) t st) stamped_size (adds_stamp t (stripe_at st (place_of call)).order) append_calls
      (Some reply) runs (order_made block call st sorted records t reply later) (λ adds. none_made block call st sorted records reaction (grows ∙ adds))
      (λ layout same. order_moves block call st sorted t later (same.parts call.group.0 call.view.0 call.stripe.0)) only_now (appends false follows)
      (λ room. ap (appends false) (sym (unless_room block call st sorted records part reaction (λ more. room (sym grows ∙ more))))
      ∙ append_ordered false part t later)
      (λ adds most. ap (appends false) (sym (unless_none block call st sorted records part reaction (grows ∙ adds) most)) ∙ append_kept false part)
      answer result result_is run answers)

  -- ---- a version

  module _ (t : Stamp) (own : Option (List ℕ)) (is : plan ≡ Store t own) where
    -- the store may add it
    pub version_next : IsNext t log own
    version_next = record {
      above = λ v at. (change_as is).0 (as_version v) (newest_seen log ∙ ap (option_map as_version) at);
      content = has_block block log own (change_as is).1;
    }

    pub version_long : ForSome own (λ bytes. length bytes ≡ block)
    version_long = own_long block (newest_of part.log) own (change_as is).1

    pub store_kept : (new : Brick D) (answer : Result (Unit {0}) StoreFault) (result : Result (Option Reply) ReplicaFault)
        → result ≡ answered (Some Stored) answer
        → BrickChange d (calls_of old (version_size own) (version_calls own)) old (with_version block (place_of call) t own st) new.disk (end_of answer)
        → Answers old new (with_version block (place_of call) t own st) (version_size own) true answer → PlanKept d old call plan result new
    store_kept new answer result result_is run answers =
        let shares = is_none own in
        let bytes = block_added own log in
        let over = λ (b : List ℕ). unless_full full part (stored part t b) in
        kept_as is new result
        (subst (λ (b : List ℕ). HandlesBy d (appends shares (over b)) (Reacts (over b)) old new result) (sym (stored_added log own))
        (changed_next d (Reacts (over bytes)) old new (with_version block (place_of call) t own st) (version_size own) true (version_calls own)
        (Some Stored) runs (store_made block call st sorted records t bytes) (none_made block call st sorted records (stored part t bytes))
        (λ layout same. store_moves block call st sorted t bytes (same.parts call.group.0 call.view.0 call.stripe.0)) only_now (appends shares (over bytes))
        (λ room. ap (appends shares) (sym (unless_room block call st sorted records part (stored part t bytes) room)) ∙ append_stored shares part _
        ∙ version_stored own)
        (λ adds most. ap (appends shares) (sym (unless_none block call st sorted records part (stored part t bytes) adds most)) ∙ append_kept shares part)
        answer result result_is run answers))

  -- ---- what is dropped

  module _ (t : Stamp) (is : plan ≡ Collect t) where
    -- the version that stays is there
    pub stamp_held : HasStamp t log
    stamp_held = sym (held_seen t log) ∙ (change_as is).0

    pub collect_kept : (new : Brick D) (answer : Result (Unit {0}) StoreFault) (result : Result (Option Reply) ReplicaFault)
        → result ≡ answered None answer
        → BrickChange d (calls_of old stamped_size append_calls) old (collected version_stamp (place_of call) t st) new.disk (end_of answer)
        → Answers old new (collected version_stamp (place_of call) t st) stamped_size false answer → PlanKept d old call plan result new
    collect_kept new answer result result_is run answers =
        let held = (change_as is).0 in
        let some = (change_as is).1 in
        kept_as is new result
        (changed_next d (Reacts (planned full part (Collect t))) old new (collected version_stamp (place_of call) t st) stamped_size false append_calls
        None runs (λ room. reacted_collect block call st sorted t held) (λ adds. absurd cc)
        (λ layout same. collect_moves block call st sorted t some (same.parts call.group.0 call.view.0 call.stripe.0)) only_now _
        (λ room. append_collected false part t held some) (λ adds. absurd cc) answer result result_is run answers)
