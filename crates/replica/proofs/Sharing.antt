-- What is planned shares the newest version's block where its request says so.
use Rattle.std.proofs.Common.{◌≡◌, ◌≢◌, ℕ, Bool, true, false, cond, ltb, Option, Some, None, List, [], length, map, refl, sym, ap, subst, ◌∙◌}
use Rattle.std.specs.Prelude.{is_none, is_some, IsSome, IsTrue}
use Rattle.std.specs.Option.{ForSome, option_map, unwrap_or}
use Rattle.version_log.specs.Versions.{Version as Kept, newest, block_of}
use Rattle.brick_store.specs.Blocks.{block_added}
use Rattle.replica.specs.Parts.{as_version}
use Rattle.replica.proofs.Logs.{newest_seen}
use Rattle.messages.specs.declared.requests.Version.{Version}
use Rattle.fab_base.specs.declared.stamps.Stamp.{Stamp}
use Rattle.messages.specs.declared.replies.Reply.{Reply}
use Rattle.messages.specs.declared.replies.Reply.TheVariants.{Full}
use Rattle.brick_store.specs.Calls.{Append}
use Rattle.protocol.specs.Replicas.{Replica, Reaction, is_held, below, collected, newest_of, promised, stays, unless_full}
use Rattle.replica.specs.declared.plans.Plan.{Plan}
use Rattle.replica.specs.declared.plans.Plan.TheVariants.{Ignore, Tell, Promise, Store, Collect}
use Rattle.replica.specs.Plans.{block_stored, planned, is_shared, IsStorable, IsChange}
use Rattle.replica.specs.Calls.{part_append}
use Rattle.replica.proofs.Dropping.{collected_held}
use Rattle.replica.proofs.Runs.{append_kept, append_dropped, same_long, stamped}

-- a version without a block of its own is one that shares
shares_is : (size : ℕ) (shares : Bool) (newest : Option Version) (block : Option (List ℕ)) → IsStorable size shares newest block → is_none block ≡ shares
shares_is size true newest None storable = refl
shares_is size true newest (Some bytes) storable = let none = storable.0 in absurd cc
shares_is size false newest None storable = absurd storable
shares_is size false newest (Some bytes) storable = refl

-- ---- what a store asks of a version, and what it adds

-- a version is not stored without a block where there is none to share
pub has_block : (size : ℕ) (log : List Kept) (block : Option (List ℕ)) → IsStorable size (is_none block) (newest_of (map as_version log)) block → log ≡ []
    → IsSome block
has_block size log (Some bytes) storable none = refl
has_block size log None storable none =
    let nothing : is_some (newest_of (map as_version log)) ≡ false = ap (λ (vs : List Kept). is_some (newest_of (map as_version vs))) none in
    let some = storable.1 in absurd cc

-- a block of its own has the size of one
pub own_long : (size : ℕ) (newest : Option Version) (block : Option (List ℕ)) → IsStorable size (is_none block) newest block
    → ForSome block (λ bytes. length bytes ≡ size)
own_long size newest None storable bytes at = absurd cc
own_long size newest (Some own) storable bytes at = by at
  where
    by : Some own ≡ Some bytes → length bytes ≡ size
    by h = subst (λ (xs : List ℕ). length xs ≡ size) (same h) storable
      where
        same : {a b : List ℕ} → Some a ≡ Some b → a ≡ b
        same e = cc

-- the block that is stored is the one that the store adds
pub stored_added : (log : List Kept) (block : Option (List ℕ)) → block_stored (map as_version log) block ≡ block_added block log
stored_added log (Some bytes) = refl
stored_added log None = ap (λ (found : Option Version). unwrap_or (option_map (λ (v : Version). v.block) found) []) (newest_seen log)
    ∙ same (newest log)
  where
    same : (found : Option Kept) → unwrap_or (option_map (λ (v : Version). v.block) (option_map as_version found)) []
        ≡ unwrap_or (option_map block_of found) []
    same None = refl
    same (Some v) = refl

-- ---- what is dropped

-- a shorter log takes one record, whatever a version that is stored would share
pub append_collected : (shares : Bool) (part : Replica) (t : Stamp) → IsTrue (is_held t part.log) → below t part.log ≢ []
    → part_append shares part (collected part t).replica ≡ stamped
append_collected shares part t held some =
    ap (λ (r : Reaction). part_append shares part r.replica) (collected_held part t held) ∙ append_dropped shares part t some

-- ---- what a request says

module _ (size : ℕ) (shares : Bool) (part : Replica) where
  -- a change by its request is one by itself
  pub change_planned : (plan : Plan) → IsChange size shares part plan → IsChange size (is_shared plan) part plan
  change_planned Ignore change = tt
  change_planned (Tell reply) change = tt
  change_planned (Promise t reply) change = change
  change_planned (Store t block) change = (
    change.0,
    subst (λ (b : Bool). IsStorable size b (newest_of part.log) block) (sym (shares_is size shares (newest_of part.log) block change.1)) change.1,
  )
  change_planned (Collect t) change = change

  module _ (full : Option ℕ) where
    abbrev appends : Bool → Reaction → Option Append
    appends b reaction = part_append b part reaction.replica

    -- a promise leaves the log as it is
    promise_long : (t : Stamp) (reply : Reply) → length (unless_full full part (promised part t reply)).replica.log ≡ length part.log
    promise_long t reply = by full
      where
        room : (live : ℕ) (b : Bool) → length (cond b (stays part (Full live)) (promised part t reply)).replica.log ≡ length part.log
        room live true = refl
        room live false = refl

        by : (f : Option ℕ) → length (unless_full f part (promised part t reply)).replica.log ≡ length part.log
        by None = refl
        by (Some live) = room live (ltb 0 (promised part t reply).adds)

    -- so it appends the same
    pub append_planned : (plan : Plan) → IsChange size shares part plan
        → appends (is_shared plan) (planned full part plan) ≡ appends shares (planned full part plan)
    append_planned Ignore change = append_kept false part ∙ sym (append_kept shares part)
    append_planned (Tell reply) change = append_kept false part ∙ sym (append_kept shares part)
    append_planned (Promise t reply) change =
        let after = (planned full part (Promise t reply)).replica in
        same_long false part after (promise_long t reply) ∙ sym (same_long shares part after (promise_long t reply))
    append_planned (Store t block) change =
        ap (λ (b : Bool). appends b (planned full part (Store t block))) (shares_is size shares (newest_of part.log) block change.1)
    append_planned (Collect t) change = append_collected false part t change.0 change.1 ∙ sym (append_collected shares part t change.0 change.1)
