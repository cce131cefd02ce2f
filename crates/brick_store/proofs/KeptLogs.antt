-- What holds of the logs that a store keeps, and of what a crash leaves of them.
use Rattle.std.proofs.Common.{◌≡◌, ℕ, Bool, true, false, Option, Some, None, List, [], ◌∷◌, map, sym, subst, arith}
use Rattle.std.specs.List.{AllByRecursion}
use Rattle.std.specs.Prelude.{replicate}
use Rattle.std.specs.Bool.{IsTrue}
use Rattle.std.specs.List.Sorted.{IsStrictlySortedBy}
use Rattle.std.proofs.lemmas.List.Elements.{All-from_recursion}
use Rattle.std.proofs.lemmas.List.Kept.{AllPairs-cons}
use Rattle.std.proofs.lemmas.Map.Made.{keys_of-map_values}
use Rattle.fab_base.specs.declared.stamps.Stamp.{Stamp}
use Rattle.fab_base.specs.Stamps.{stamp_below, first_stamp}
use Rattle.fab_base.proofs.StampOrder.{stamp_below_trans}
use Rattle.fab_disk.specs.declared.disk.Disk as on_disk
use Rattle.fab_disk.specs.Changing.{Stands}
use Rattle.frame_store.specs.declared.shapes.Form.{Form}
use Rattle.frame_store.specs.declared.shapes.Form.TheVariants.{New}
use Rattle.frame_store.specs.Images.{OpensAs}
use Rattle.frame_store.specs.Layouts.{formed, is_old_form}
use Rattle.frame_store.specs.Stores.{Held}
use Rattle.frame_store.proofs.Openings.{opens_in_one_form}
use Rattle.version_log.specs.Versions.{Version, version, IsRising}
use Rattle.brick_state.specs.Entries.{Entry}
use Rattle.brick_state.specs.declared.indexes.Index.{Index}
use Rattle.brick_state.specs.Indexes.{state_of}
use Rattle.brick_state.specs.States.{Place, StripeOf, StateOf, place_cmp, stripe_at}
use Rattle.brick_state.specs.Folds.{Limits}
use Rattle.brick_state.specs.Rewrites.{start_of}
use Rattle.brick_state.specs.KeptStates.{Rises, IsKeptState}
use Rattle.brick_state.proofs.SoundStripes.{sound_at}
use Rattle.brick_store.specs.BlockTables.{SlotBlocks}
use Rattle.brick_store.specs.Blocks.{resolved, resolved_stripe, cached, log_of}
use Rattle.brick_store.specs.Bricks.{IsOrdered}
use Rattle.brick_store.specs.Images.{IsSlotted, StandsFor}
use Rattle.brick_store.specs.Standing.{Standing}
use Rattle.brick_store.proofs.Changing.{stands_for}
use Rattle.brick_store.proofs.Resolving.{version_of, stripe_at-resolved}

abbrev Above : Version → Version → Type 0
Above v w = IsTrue (stamp_below v.stamp w.stamp)

-- what rises over an entry is above it
all_above : (block : ℕ → List ℕ) (limits : Limits) (t : Stamp) (u : Entry) (entries : List Entry)
    → ((e : Entry) → stamp_below u.stamp e.stamp ≡ true → stamp_below t e.stamp ≡ true)
    → Rises limits (Some u) entries → AllByRecursion (λ v. stamp_below t v.stamp ≡ true) (map (version_of block) entries)
all_above block limits t u [] over rises = tt
all_above block limits t u (e ∷ entries) over rises =
    (over e rises.0, all_above block limits t e entries (λ x above. stamp_below_trans t e.stamp x.stamp (over e rises.0) above) rises.1.1)

-- entries that rise are a log that rises
rising_nothing : IsRising {B = List ℕ} []
rising_nothing = λ i j d lt within. absurd (omega arith)

rising_entries : (block : ℕ → List ℕ) (limits : Limits) (under : Option Entry) (entries : List Entry) → Rises limits under entries
    → IsRising (map (version_of block) entries)
rising_entries block limits under [] rises = rising_nothing
rising_entries block limits under (e ∷ entries) rises =
    AllPairs-cons Above (version_of block e) (map (version_of block) entries)
    (All-from_recursion (λ (v : Version). Above (version_of block e) v) (map (version_of block) entries)
    (all_above block limits e.stamp e entries (λ x above. above) rises.1.1))
    (rising_entries block limits (Some e) entries rises.1.1)

-- and with the version that a stripe begins with
rising_log : (size : ℕ) (block : ℕ → List ℕ) (limits : Limits) (order : Stamp) (from : Bool) (entries : List Entry)
    → Rises limits (start_of from) entries
    → IsRising (log_of size (resolved_stripe block (record { order = order; from_start = from; added = entries })))
rising_log size block limits order false entries rises = rising_entries block limits None entries rises
rising_log size block limits order true entries rises =
    AllPairs-cons Above (version first_stamp (replicate size 0)) (map (version_of block) entries)
    (All-from_recursion (λ (v : Version). Above (version first_stamp (replicate size 0)) v) (map (version_of block) entries)
    (all_above block limits first_stamp (record { stamp = first_stamp; block = 4294967295 }) entries (λ x above. above) rises))
    (rising_entries block limits (Some (record { stamp = first_stamp; block = 4294967295 })) entries rises)

-- the state of a store as a clause sees it
pub kept_ordered : (size : ℕ) (block : ℕ → List ℕ) (limits : Limits) (st : StateOf Entry) → IsKeptState limits st → IsOrdered size (resolved block st)
unfolding resolved
kept_ordered size block limits st kept = record {
  groups = kept.all_groups;
  sorted = subst (λ (places : List Place). IsStrictlySortedBy place_cmp places)
      (sym (keys_of-map_values (resolved_stripe block) st.stripes)) kept.sorted;
  rising = λ p.
      let s = stripe_at st p in
      subst (λ (t : StripeOf Version). IsRising (log_of size t)) (sym (stripe_at-resolved block st p))
      (rising_log size block limits s.order s.from_start s.added (sound_at limits p st.stripes kept.stripes).rises);
}

-- what an open store keeps stands on its disk
pub standing_stands : {D : Type 0} (d : on_disk.Ghosts D) (blocks : SlotBlocks) (zero_block : List ℕ) (store : Held D) (index : Index)
    → Standing d.tells d.seen d.may_leave store index blocks zero_block → d.tells → store.halted ≡ false
    → Stands d (StandsFor (formed New store.shape) (resolved (cached store.shape.block blocks) (state_of index))) store.disk
standing_stands d blocks zero_block store index standing told runs =
    let was = standing.on_disk told runs in
    let opens : OpensAs store.shape store.frames true (d.seen store.disk) = subst
    (λ (b : Bool). OpensAs store.shape store.frames b (d.seen store.disk)) was.closed was.shows.opens in
    record {
      only = was.only;
      has = stands_for store.shape blocks (state_of index) (d.seen store.disk) standing.slotted
          (record { frames = store.frames; opens = opens; leads = standing.indexed.leads }) was.stored;
    }

-- and its disk opens in the new format alone
pub standing_slotted : {D : Type 0} (d : on_disk.Ghosts D) (blocks : SlotBlocks) (zero_block : List ℕ) (store : Held D) (index : Index)
    → Standing d.tells d.seen d.may_leave store index blocks zero_block → d.tells → store.halted ≡ false
    → IsSlotted (formed New store.shape) (d.seen store.disk)
standing_slotted d blocks zero_block store index standing told runs form frames closed there =
    let shows = (standing.on_disk told runs).shows in
    subst (λ (f : Form). is_old_form f ≡ false)
    (opens_in_one_form store.shape store.shape.form form (d.seen store.disk) store.frames frames store.closed closed shows.opens there) standing.slotted
