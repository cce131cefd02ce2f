-- When an operation may run alone: as the bricks and the history tell.
use Rattle.std.proofs.Common.{◌≡◌, ◌≢◌, ℕ, zero, suc, ◌+◌, ◌<◌, ◌≤◌, Bool, true, false, not, cond, nat_eq, nat_le, ◌&&◌, ◌||◌, ◌-◌, List, [], ◌∷◌, length, map, take, drop, take_all, Option, Some, None, is_some, nat_lt, ◌^◌, refl, sym, ap, ◌∙◌, subst, arith}
use Rattle.std.specs.Prelude.{slice_get, slice_index_or, filter, is_none, option_and_then}
use Rattle.std.specs.Bool.{Decides}
use Rattle.std.specs.List.{IsDistinct, AllByRecursion, list_any}
use Rattle.std.proofs.lemmas.Bool.{and_parts, eqb-true, eq-eqb, ne_eqb}
use Rattle.std.proofs.lemmas.Bool.Decides.{nat_tests}
use Rattle.std.proofs.lemmas.Option.{same_Some, slice_get-map, slice_get_within}
use Rattle.fab_base.specs.declared.identities.BrickId.{BrickId}
use Rattle.fab_base.specs.declared.identities.GroupId.{GroupId}
use Rattle.fab_base.specs.declared.asks.Ask.{Ask}
use Rattle.fab_base.specs.Layouts.{Layout, Group, group_of, seat_in}
use Rattle.fab_disk.specs.declared.mem_disk.MemDisk.{MemDisk}
use Rattle.brick_state.specs.States.{live, group_at}
use Rattle.brick_state.specs.Rewrites.{learnt_number}
use Rattle.brick_store.specs.Blocks.{accepted_of, learnt_of}
use Rattle.replica.specs.Parts.{learnt_or}
use Rattle.synod_laws.specs.Synods.{Kept, last_of}
use Rattle.protocol.specs.Views.{first_learnt, kept_by}
use Rattle.fab_base.specs.declared.member_lists.View.{View}
use Rattle.fab_base.specs.declared.stamps.Ballot.{Ballot}
use Rattle.node.specs.Running.{Running, state_of}
use Rattle.protocol.specs.Calms.{IsCalm, IsReady, IsEarly, IsUntouched, knows_synced, may_ask_prior, early, open_at, open_call}
use Rattle.layout.specs.Limits.{IsLayout}
use Rattle.stripe_code.specs.Codes.{coding}
use Rattle.stripe_code.proofs.Soundness.{coding_is_sound}
use Rattle.quorum.specs.Quorums.{quorum_of}
use Rattle.std.specs.Option.{option_map}
use Rattle.protocol.specs.Nodes.{Node, view_at, has_accepted}
use Rattle.protocol.specs.Coordinators.{Coordinator}
use Rattle.protocol.specs.Settings.{Setting}
use Rattle.protocol.specs.Worlds.{World, Operation, is_brick, is_up, number_of}
use Rattle.protocol_laws.proofs.Books.{Books}
use Rattle.world.specs.declared.histories.History.{History}
use Rattle.world.specs.declared.histories.OperationRecord.{OperationRecord}
use Rattle.world.proofs.Places.{slice_get_not_none}
use Rattle.world.specs.Runs.{brick_of}
use Rattle.world.specs.Shown.{ShowsBricks, IsReachedBy, Serves, IsAble, IsInTime, NodeIsAble, NodeIsInTime, Tells, TellsOperation, TellsOne, record_at, running_at, clock_at, node_knows_synced}
use Rattle.world.specs.declared.bricks.Brick.{Brick}
use Rattle.world.proofs.BrickListLemmas.{running_shown, running_not}
use Rattle.world.proofs.CallNumbers.{AreOfBricks}
use Rattle.world.proofs.KeptNumbers.{told_of}
use Rattle.world.proofs.RunLaws.{reached_group}

-- how much a brick keeps that runs
pub state_live : (node : Running MemDisk) → (state_of node).live ≡ live node.brick.state
unfolding state_of
state_live node = refl

-- so many records are used, of so many
pub room_decides : (live records used most : ℕ) → live ≡ used → most ≡ records → Decides (nat_le (used + 2) most) (live + 2 ≤ records)
room_decides live records used most same are = (
  λ on. let fits : used + 2 ≤ most = grind (arith, nat_tests, on) in omega (arith, fits, same, are),
  λ fits. (let e : nat_le (used + 2) most ≡ true = grind (arith, nat_tests, fits, same, are) in e),
)

-- a store tells which view of a group its brick has learnt, and what list that has accepted to follow it
view_told : (node : Running MemDisk) (g : ℕ) → view_at (state_of node) g ≡ learnt_of (group_at node.brick.state g)
unfolding state_of
view_told node g = by (group_at node.brick.state g).known
  where
    by : (known : Option (View × Bool)) → (learnt_or (first_learnt node.layout g) known).view.number.0 ≡ learnt_number known
    by None = refl
    by (Some known) = refl

last_told : (node : Running MemDisk) (g : ℕ) → last_of ((state_of node).ballots g) ≡ accepted_of (group_at node.brick.state g)
unfolding state_of
last_told node g = by (group_at node.brick.state g).ballots
  where
    by : (kept : Kept (List BrickId)) → last_of kept ≡ option_and_then (λ b. b.1) kept
    by None = refl
    by (Some (promised, last)) = refl

-- there is none where not some is there
pub none_is : {A : Type 0} (found : Option A) (none : Bool) → is_some found ≡ not none → is_none found ≡ none
none_is None true is = refl
none_is (Some x) false is = refl
none_is None false is = absurd (let never : false ≡ true = is in cc)
none_is (Some x) true is = absurd (let never : true ≡ false = is in cc)

-- so by what it tells the brick serves a view, or not
module _ (node : Running MemDisk) (g view learnt : ℕ) (is : learnt ≡ learnt_of (group_at node.brick.state g)) where
  told_view : view_at (state_of node) g ≡ learnt
  told_view = view_told node g ∙ sym is

  pub serves_other : learnt ≢ view → Decides false (Serves (state_of node) g view)
  serves_other other = (
    λ on. absurd (let never : false ≡ true = on in cc),
    λ serves. absurd (other (sym told_view ∙ serves.view_is)),
  )

  -- in the last view of all no list that is accepted counts
  pub serves_last : learnt ≡ view → view ≡ 2 ^ 32 - 1 → Decides true (Serves (state_of node) g view)
  serves_last same last = (
    λ on. record {
      view_is = told_view ∙ same;
      serves = ap (λ (b : Bool). b && is_some (last_of ((state_of node).ballots g)))
          (ap (λ (v : ℕ). nat_lt v (2 ^ 32 - 1)) (told_view ∙ same ∙ last));
    },
    λ serves. refl,
  )

  pub serves_told : (accepted : Option (Ballot × List BrickId)) → learnt ≡ view → view < 2 ^ 32 → view ≢ 2 ^ 32 - 1
      → accepted ≡ accepted_of (group_at node.brick.state g) → Decides (is_none accepted) (Serves (state_of node) g view)
  serves_told accepted same small early told = by accepted (last_told node g ∙ sym told)
    where
      early_view : nat_lt (view_at (state_of node) g) (2 ^ 32 - 1) ≡ true
      early_view = ap (λ v. nat_lt v (2 ^ 32 - 1)) (told_view ∙ same) ∙ (let e : nat_lt view (2 ^ 32 - 1) ≡ true = grind (arith, nat_tests, small, early) in e)

      by : (found : Option (Ballot × List BrickId)) → last_of ((state_of node).ballots g) ≡ found
          → Decides (is_none found) (Serves (state_of node) g view)
      by None none = (
        λ on. record {
          view_is = told_view ∙ same;
          serves =
              ap (λ (b : Bool). b && is_some (last_of ((state_of node).ballots g))) early_view
              ∙ ap (λ (last : Option (Ballot × List BrickId)). is_some last) none;
        },
        λ serves. refl,
      )
      by (Some last) some = (
        λ on. absurd (let never : false ≡ true = on in cc),
        λ serves.
            (let never : false ≡ true =
            sym serves.serves ∙ ap (λ (b : Bool). b && is_some (last_of ((state_of node).ballots g))) early_view
            ∙ ap (λ (found : Option (Ballot × List BrickId)). is_some found) some in cc),
      )

-- what is known of a learnt view: view 1 is synced
abbrev pub synced_of : Option (View × Bool) → Bool
synced_of None = true
synced_of (Some known) = known.1

-- a store tells whether its brick knows that all stripes of a group are kept in the learnt view
pub synced_told : (node : Running MemDisk) (g : ℕ) → ((state_of node).learnt g).synced ≡ synced_of (group_at node.brick.state g).known
unfolding state_of
synced_told node g = by (group_at node.brick.state g).known
  where
    by : (known : Option (View × Bool)) → (learnt_or (first_learnt node.layout g) known).synced ≡ synced_of known
    by None = refl
    by (Some known) = refl

-- the machine's brick is able where what runs is
pub able_shown : (layout : Layout) (group view : ℕ) (bricks : List Brick) (w : World) (b : ℕ) → ShowsBricks layout bricks w.nodes w.after w.up w.clocks
    → (NodeIsAble layout group view (running_at bricks b) → IsAble layout w group view b)
    × (IsAble layout w group view b → NodeIsAble layout group view (running_at bricks b))
able_shown layout group view bricks w b shows = by_node (running_at bricks b) refl
  where
    by_node : (found : Option (Running MemDisk)) → running_at bricks b ≡ found
        → (NodeIsAble layout group view found → IsAble layout w group view b) × (IsAble layout w group view b → NodeIsAble layout group view found)
    by_node None none = (
      λ able. absurd able,
      λ able. absurd (let never : true ≡ false = sym able.up ∙ running_not layout bricks w b shows none in cc),
    )
    by_node (Some node) is =
        let its = running_shown layout bricks w b node shows is in (
          λ able. record {
            up = its.0;
            serves = subst (λ (x : Node). Serves x group view) its.1.state_is able.0;
            room = subst (λ (x : Node). x.live + 2 ≤ layout.records) its.1.state_is able.1;
            times = subst IsEarly its.1.state_is able.2;
          },
          λ able. (
            subst (λ (x : Node). Serves x group view) (sym its.1.state_is) able.serves,
            subst (λ (x : Node). x.live + 2 ≤ layout.records) (sym its.1.state_is) able.room,
            subst IsEarly (sym its.1.state_is) able.times,
          ),
        )

-- of bricks that are up the machine's know that a view is synced where those know that run
pub synced_shown : (layout : Layout) (group : ℕ) (bricks : List Brick) (w : World) (numbers : List ℕ) → ShowsBricks layout bricks w.nodes w.after w.up w.clocks
    → ((k number : ℕ) → slice_get numbers k ≡ Some number → is_up layout w (brick_of number) ≡ true)
    → list_any (λ number. node_knows_synced group (running_at bricks number)) numbers ≡ list_any (knows_synced w group) (map brick_of numbers)
synced_shown layout group bricks w [] shows ups = refl
synced_shown layout group bricks w (number ∷ numbers) shows ups =
    ap (λ (b : Bool). b || list_any (λ n. node_knows_synced group (running_at bricks n)) numbers) (by_node (running_at bricks number) refl)
    ∙ ap (λ (b : Bool). knows_synced w group (brick_of number) || b) (synced_shown layout group bricks w numbers shows (λ k n at. ups (suc k) n at))
  where
    by_node : (found : Option (Running MemDisk)) → running_at bricks number ≡ found → node_knows_synced group found ≡ knows_synced w group (brick_of number)
    by_node None none = absurd (let never : true ≡ false = sym (ups 0 number refl) ∙ running_not layout bricks w number shows none in cc)
    by_node (Some node) is = ap (λ (x : Node). (x.learnt group).synced) (running_shown layout bricks w number node shows is).1.state_is

-- and it is in time where what runs is
pub in_time_shown : (layout : Layout) (bricks : List Brick) (w : World) (b : ℕ) → ShowsBricks layout bricks w.nodes w.after w.up w.clocks
    → (NodeIsInTime (clock_at bricks b) (running_at bricks b) → IsInTime layout w b)
    × (IsInTime layout w b → NodeIsInTime (clock_at bricks b) (running_at bricks b))
in_time_shown layout bricks w b shows = by_node (running_at bricks b) refl
  where
    by_node : (found : Option (Running MemDisk)) → running_at bricks b ≡ found
        → (NodeIsInTime (clock_at bricks b) found → IsInTime layout w b) × (IsInTime layout w b → NodeIsInTime (clock_at bricks b) found)
    by_node None none = (
      λ early_now. absurd early_now,
      λ within. absurd (let never : true ≡ false = sym within.up ∙ running_not layout bricks w b shows none in cc),
    )
    by_node (Some node) is =
        let its = running_shown layout bricks w b node shows is in (
          λ early_now. record {
            up = its.0;
            clock = subst (λ (t : ℕ). t < early) its.2 early_now.0;
            times = subst IsEarly its.1.state_is early_now.1;
          },
          λ within. (subst (λ (t : ℕ). t < early) (sym its.2) within.clock, subst IsEarly (sym its.1.state_is) within.times),
        )

-- a number that stands again among others, or does not
none_again : (x : ℕ) (ys : List ℕ) → list_any (λ y. nat_eq y x) ys ≡ false → AllByRecursion (λ y. nat_eq x y ≡ false) ys
none_again x [] none = tt
none_again x (y ∷ ys) none = (
  (let other : nat_eq y x ≡ false = (or_parts (nat_eq y x) (list_any (λ y. nat_eq y x) ys) none).0 in grind (arith, nat_tests)),
  none_again x ys (or_parts (nat_eq y x) (list_any (λ y. nat_eq y x) ys) none).1,
)
  where
    or_parts : (a b : Bool) → a || b ≡ false → (a ≡ false) × (b ≡ false)
    or_parts true b none = absurd (let never : true ≡ false = none in cc)
    or_parts false b none = (refl, none)

again : (x : ℕ) (ys : List ℕ) → AllByRecursion (λ y. nat_eq x y ≡ false) ys → list_any (λ y. nat_eq y x) ys ≡ false
again x [] all = refl
again x (y ∷ ys) all = both (nat_eq y x) (list_any (λ y. nat_eq y x) ys) (let other : nat_eq x y ≡ false = all.0 in grind (arith, nat_tests)) (again x ys all.1)
  where
    both : (a b : Bool) → a ≡ false → b ≡ false → a || b ≡ false
    both a b first second = rw (first, second) refl

pub distinct_none : (xs : List ℕ) → length xs < 1 → Decides true (IsDistinct nat_eq xs)
unfolding IsDistinct
distinct_none [] none = (λ on. tt, λ all. refl)
distinct_none (x ∷ xs) none = absurd (omega arith)

-- the first number stands no second time, and the others are distinct; or it does
pub distinct_first : (xs : List ℕ) (b : Bool) → 1 ≤ length xs
    → list_any (λ y. nat_eq y (slice_index_or xs 0 0)) (take (length xs - 1) (drop 1 xs)) ≡ false
    → Decides b (IsDistinct nat_eq (take (length xs - 1) (drop 1 xs))) → Decides b (IsDistinct nat_eq xs)
unfolding IsDistinct
distinct_first [] b some none decides = absurd (omega arith)
distinct_first (x ∷ xs) b some none decides =
    let behind : take (length (x ∷ xs) - 1) xs ≡ xs = take_all _ _ (omega arith) in
    let others : Decides b (IsDistinct nat_eq xs) = subst (λ (l : List ℕ). Decides b (IsDistinct nat_eq l)) behind decides in (
      λ on. (none_again x xs (ap (list_any (λ y. nat_eq y x)) (sym behind) ∙ none), others.0 on),
      λ all. others.1 all.1,
    )

pub distinct_not : (xs : List ℕ) (b : Bool) → 1 ≤ length xs
    → list_any (λ y. nat_eq y (slice_index_or xs 0 0)) (take (length xs - 1) (drop 1 xs)) ≡ true → b ≡ true → Decides (not b) (IsDistinct nat_eq xs)
unfolding IsDistinct
distinct_not [] b some twice is = absurd (omega arith)
distinct_not (x ∷ xs) b some twice is =
    let behind : take (length (x ∷ xs) - 1) xs ≡ xs = take_all _ _ (omega arith) in (
      λ on. absurd (let never : false ≡ true = sym (ap not is) ∙ on in cc),
      λ all. absurd (let never : true ≡ false = sym twice ∙ ap (list_any (λ y. nat_eq y x)) behind ∙ again x xs all.0 in cc),
    )

-- the operation of a number of which nothing is kept is not open
pub open_nowhere : (setting : Setting) (w : World) (history : History) (n : ℕ) → Books setting w → Tells history w
    → record_at history.operations.items n ≡ None → open_call w n ≡ None
open_nowhere setting w history n books tells none = by_operation (w.operations n) refl
  where
    at_place : (k : ℕ) → record_at history.operations.items k ≡ None → 1 ≤ k → k ≤ w.begun → ⊥
    at_place zero is least most = omega arith
    at_place (suc k) is least most = slice_get_not_none history.operations.items k (omega (arith, tells.begun)) is

    by_operation : (found : Option Operation) → w.operations n ≡ found → open_at w found ≡ None
    by_operation None is = refl
    by_operation (Some o) is = (let its = books.operations n o is in absurd (at_place n none its.from_one its.begun))

-- what is kept of the operation of a number
pub kept_at : (w : World) (history : History) (n : ℕ) (kept : OperationRecord) → Tells history w → record_at history.operations.items n ≡ Some kept
    → (o : Operation) × (w.operations n ≡ Some o) × TellsOperation kept o × (n ≢ 0)
kept_at w history zero kept tells is = absurd (let never : None ≡ Some kept = is in cc)
kept_at w history (suc n) kept tells is =
    let its = told_of kept (w.operations (suc n)) (subst (λ (r : Option OperationRecord). TellsOne r (w.operations (suc n))) is (tells.operations (suc n))) in
    (its.0, its.1, its.2, λ e. omega arith)

-- it is one of the operations so far
pub kept_within : (w : World) (history : History) (n : ℕ) (kept : OperationRecord) → Tells history w → record_at history.operations.items n ≡ Some kept
    → n ≤ w.begun
kept_within w history zero kept tells is = omega arith
kept_within w history (suc n) kept tells is =
    let within = slice_get_within history.operations.items n kept is in let count = tells.begun in omega (arith, within, count)

-- whether the operation of which this is kept is open
module _ (w : World) (n : ℕ) (o : Operation) (kept : OperationRecord) (is : w.operations n ≡ Some o) (its : TellsOperation kept o) where
  open_kept : open_call w n
      ≡ cond (w.up kept.brick.0 && nat_eq (w.nodes kept.brick.0).boot kept.boot) ((w.nodes kept.brick.0).calls kept.seq) None
  open_kept =
      ap (open_at w) is
      ∙ ap (λ (b : BrickId). cond (w.up b.0 && nat_eq (w.nodes b.0).boot o.boot) ((w.nodes b.0).calls o.seq) None) (sym its.brick)
      ∙ ap (λ (t : ℕ). cond (w.up kept.brick.0 && nat_eq (w.nodes kept.brick.0).boot t) ((w.nodes kept.brick.0).calls o.seq) None) (sym its.boot)
      ∙ ap (λ (k : ℕ). cond (w.up kept.brick.0 && nat_eq (w.nodes kept.brick.0).boot kept.boot) ((w.nodes kept.brick.0).calls k) None) (sym its.seq)

  -- its brick is down, or was started since
  pub open_down : w.up kept.brick.0 ≡ false → open_call w n ≡ None
  open_down down =
      open_kept ∙ ap (λ (b : Bool). cond (b && nat_eq (w.nodes kept.brick.0).boot kept.boot) ((w.nodes kept.brick.0).calls kept.seq) None) down

  pub open_later : w.up kept.brick.0 ≡ true → (w.nodes kept.brick.0).boot ≢ kept.boot → open_call w n ≡ None
  open_later up later =
      open_kept ∙ ap (λ (b : Bool). cond (b && nat_eq (w.nodes kept.brick.0).boot kept.boot) ((w.nodes kept.brick.0).calls kept.seq) None) up
      ∙ ap (λ (b : Bool). cond b ((w.nodes kept.brick.0).calls kept.seq) None) (ne_eqb (w.nodes kept.brick.0).boot kept.boot later)

  -- else its brick tells
  pub open_here_is : w.up kept.brick.0 ≡ true → (w.nodes kept.brick.0).boot ≡ kept.boot → open_call w n ≡ (w.nodes kept.brick.0).calls kept.seq
  open_here_is up boot =
      open_kept ∙ ap (λ (b : Bool). cond (b && nat_eq (w.nodes kept.brick.0).boot kept.boot) ((w.nodes kept.brick.0).calls kept.seq) None) up
      ∙ ap (λ (b : Bool). cond b ((w.nodes kept.brick.0).calls kept.seq) None) (eq-eqb (w.nodes kept.brick.0).boot kept.boot boot)

-- nothing that is there is none
pub none_of : {A : Type 0} (found : Option A) → is_some found ≡ false → found ≡ None
none_of None is = refl
none_of (Some x) is = absurd (let never : true ≡ false = is in cc)

-- a brick of the layout that is not found up is down
pub down_is : (layout : Layout) (w : World) (brick : BrickId) → is_brick layout brick ≡ true → is_up layout w brick ≡ false → w.up brick.0 ≡ false
down_is layout w brick there down = ap (λ (b : Bool). b && w.up brick.0) (sym there) ∙ down

-- one that is up is up
pub up_of : (layout : Layout) (w : World) (brick : BrickId) → is_up layout w brick ≡ true → w.up brick.0 ≡ true
up_of layout w brick up = (and_parts (is_brick layout brick) (w.up brick.0) up).1

-- an open operation: what it asks is what its coordinator was asked
pub record IsOpenAt (w : World) (n : ℕ) (c : Coordinator) : Type 0 where
  pub operation : Operation
  pub is : w.operations n ≡ Some operation
  pub call : (w.nodes operation.brick.0).calls operation.seq ≡ Some c
  pub up : w.up operation.brick.0 ≡ true
  pub ask : c.ask ≡ operation.ask
  pub group : c.call.group ≡ c.ask.group
  pub numbers : (1 ≤ n) × (n ≤ w.begun)

pub open_parts : (setting : Setting) (w : World) (n : ℕ) (c : Coordinator) → Books setting w → open_call w n ≡ Some c → IsOpenAt w n c
open_parts setting w n c books is = by_operation (w.operations n) refl is
  where
    by_operation : (found : Option Operation) → w.operations n ≡ found → open_at w found ≡ Some c → IsOpenAt w n c
    by_operation None none e = absurd (let never : None ≡ Some c = e in cc)
    by_operation (Some o) at e = by_up (w.up o.brick.0) refl (nat_eq (w.nodes o.brick.0).boot o.boot) refl e
      where
        by_up : (x : Bool) → w.up o.brick.0 ≡ x → (y : Bool) → nat_eq (w.nodes o.brick.0).boot o.boot ≡ y
            → cond (x && y) ((w.nodes o.brick.0).calls o.seq) None ≡ Some c → IsOpenAt w n c
        by_up true up true boot call =
            let its = books.operations n o at in
            let own = books.calls o.brick.0 o.seq c call in
            let same_boot : (w.nodes o.brick.0).boot ≡ o.boot = eqb-true (w.nodes o.brick.0).boot o.boot boot in
            let number : number_of w o.brick.0 o.seq ≡ n = ap (λ (b : ℕ). w.numbers o.brick.0 b o.seq) same_boot ∙ its.number in
            let same : own.operation ≡ o = same_Some own.operation o (sym own.operation_is ∙ ap w.operations number ∙ at) in
            record {
              operation = o;
              is = at;
              call = call;
              up = up;
              ask = own.ask ∙ ap (λ (x : Operation). x.ask) same;
              group = own.call_group;
              numbers = (its.from_one, its.begun);
            }
        by_up true up false boot e' = absurd (let never : None ≡ Some c = e' in cc)
        by_up false down y boot e' = absurd (let never : None ≡ Some c = e' in cc)

-- so many of the bricks of these numbers are among the members
abbrev pub among_numbers : List BrickId → List ℕ → ℕ
among_numbers members numbers = length (filter (λ number. list_any (λ member. nat_eq member.0 number) members) numbers)

-- what decides whether an operation may run alone among the bricks of these numbers
pub record CalmParts (layout : Layout) (w : World) (n : ℕ) (numbers : List ℕ) (o : Operation) (c : Coordinator) : Type 0 where
  pub distinct : IsDistinct nat_eq numbers
  pub members : quorum_of c.group ≤ among_numbers c.group.members numbers
  pub prior : may_ask_prior w c (map brick_of numbers) ≡ true → quorum_of (kept_by c.prior c.group) ≤ among_numbers c.prior numbers
  pub in_time : IsInTime layout w o.brick.0
  pub able : (k number : ℕ) → slice_get numbers k ≡ Some number → IsAble layout w o.ask.group.0 c.stamp.view.0 number
  pub untouched : IsUntouched w n

-- the numbers of the bricks of numbers
numbers_back : (numbers : List ℕ) → map (λ (brick : BrickId). brick.0) (map brick_of numbers) ≡ numbers
numbers_back [] = refl
numbers_back (n ∷ numbers) = ap (λ (l : List ℕ). n ∷ l) (numbers_back numbers)

-- a brick has a seat where it is a member
seated : (members : List BrickId) (n : ℕ) → is_some (seat_in members n) ≡ list_any (λ member. nat_eq member.0 n) members
seated [] n = refl
seated (member ∷ members) n = by_first (seated members n) (nat_eq member.0 n) refl
  where
    later : (found : Option ℕ) → is_some (option_map (λ seat. seat + 1) found) ≡ is_some found
    later None = refl
    later (Some seat) = refl

    by_first : is_some (seat_in members n) ≡ list_any (λ one. nat_eq one.0 n) members → (x : Bool) → nat_eq member.0 n ≡ x
        → is_some (cond x (Some 0) (option_map (λ seat. seat + 1) (seat_in members n))) ≡ x || list_any (λ one. nat_eq one.0 n) members
    by_first more true is = refl
    by_first more false is = later (seat_in members n) ∙ more

counted_members : (members : List BrickId) (numbers : List ℕ)
    → length (filter (λ (brick : BrickId). is_some (seat_in members brick.0)) (map brick_of numbers))
    ≡ length (filter (λ number. list_any (λ member. nat_eq member.0 number) members) numbers)
counted_members members [] = refl
counted_members members (n ∷ numbers) = by_seat (counted_members members numbers) (is_some (seat_in members n)) (list_any (λ member. nat_eq member.0 n) members) (seated members n)
  where
    by_seat : length (filter (λ (brick : BrickId). is_some (seat_in members brick.0)) (map brick_of numbers))
        ≡ length (filter (λ number. list_any (λ member. nat_eq member.0 number) members) numbers) → (x y : Bool) → x ≡ y
        → length (cond x (brick_of n ∷ filter (λ (brick : BrickId). is_some (seat_in members brick.0)) (map brick_of numbers))
        (filter (λ (brick : BrickId). is_some (seat_in members brick.0)) (map brick_of numbers)))
        ≡ length (cond y (n ∷ filter (λ number. list_any (λ member. nat_eq member.0 number) members) numbers)
        (filter (λ number. list_any (λ member. nat_eq member.0 number) members) numbers))
    by_seat more true true same = ap suc more
    by_seat more false false same = more
    by_seat more true false same = absurd (let never : true ≡ false = same in cc)
    by_seat more false true same = absurd (let never : false ≡ true = same in cc)

-- the brick at a place, where there is its number
brick_there : (numbers : List ℕ) (k : ℕ) (brick : BrickId) → slice_get (map brick_of numbers) k ≡ Some brick
    → (number : ℕ) × (slice_get numbers k ≡ Some number) × (brick_of number ≡ brick)
brick_there numbers k brick at = by_found (slice_get numbers k) refl (sym (slice_get-map brick_of numbers k) ∙ at)
  where
    by_found : (found : Option ℕ) → slice_get numbers k ≡ found → option_map brick_of found ≡ Some brick
        → (number : ℕ) × (slice_get numbers k ≡ Some number) × (brick_of number ≡ brick)
    by_found None is e = absurd (let never : None ≡ Some brick = e in cc)
    by_found (Some number) is e = (number, is, same_Some (brick_of number) brick e)

-- so it may where all of them hold, and only there
pub calm_of : (layout : Layout) (w : World) (n : ℕ) (numbers : List ℕ) (c : Coordinator) → open_call w n ≡ Some c
    → (at : IsOpenAt w n c) → CalmParts layout w n numbers at.operation c → IsCalm (coding layout) w n (map brick_of numbers)
calm_of layout w n numbers c opens at parts =
    let group : c.call.group.0 ≡ at.operation.ask.group.0 = ap (λ (g : GroupId). g.0) at.group ∙ ap (λ (a : Ask). a.group.0) at.ask in
    record {
      operation = at.operation;
      is = at.is;
      coordinator = c;
      open_is = opens;
      untouched = parts.untouched;
      distinct = subst (λ (l : List ℕ). IsDistinct nat_eq l) (sym (numbers_back numbers)) parts.distinct;
      ready = λ k brick found.
          (let there = brick_there numbers k brick found in
          let able = parts.able k there.0 there.1 in
          subst (λ (b : BrickId). IsReady (coding layout) w c b) there.2 (record {
            up = able.up;
            view = ap (λ g. view_at (w.nodes there.0) g) group ∙ able.serves.view_is;
            serves = ap (λ g. has_accepted (w.nodes there.0) g) group ∙ able.serves.serves;
            room = able.room;
            times = able.times;
          }));
      members = subst (λ (x : ℕ). quorum_of c.group ≤ x) (sym (counted_members c.group.members numbers)) parts.members;
      prior = λ may. subst (λ (x : ℕ). quorum_of (kept_by c.prior c.group) ≤ x) (sym (counted_members c.prior numbers)) (parts.prior may);
      clock = parts.in_time.clock;
      times = parts.in_time.times;
    }

pub parts_of : (layout : Layout) (w : World) (n : ℕ) (numbers : List ℕ) (c : Coordinator) → open_call w n ≡ Some c
    → (at : IsOpenAt w n c) → is_up layout w at.operation.brick ≡ true → IsCalm (coding layout) w n (map brick_of numbers)
    → CalmParts layout w n numbers at.operation c
parts_of layout w n numbers c opens at up calm =
    let same : calm.operation ≡ at.operation = same_Some calm.operation at.operation (sym calm.is ∙ at.is) in
    let coordinator : calm.coordinator ≡ c = same_Some calm.coordinator c (sym calm.open_is ∙ opens) in
    let group : calm.coordinator.call.group.0 ≡ at.operation.ask.group.0 =
    ap (λ (d : Coordinator). d.call.group.0) coordinator ∙ ap (λ (g : GroupId). g.0) at.group ∙ ap (λ (a : Ask). a.group.0) at.ask in
    record {
      distinct = subst (λ (l : List ℕ). IsDistinct nat_eq l) (numbers_back numbers) calm.distinct;
      members = subst (λ (d : Coordinator). quorum_of d.group ≤ among_numbers d.group.members numbers) coordinator
          (subst (λ (x : ℕ). quorum_of calm.coordinator.group ≤ x) (counted_members calm.coordinator.group.members numbers) calm.members);
      prior = subst (λ (d : Coordinator). may_ask_prior w d (map brick_of numbers) ≡ true → quorum_of (kept_by d.prior d.group) ≤ among_numbers d.prior numbers)
          coordinator
          (λ may. subst (λ (x : ℕ). quorum_of (kept_by calm.coordinator.prior calm.coordinator.group) ≤ x)
          (counted_members calm.coordinator.prior numbers) (calm.prior may));
      in_time = record {
        up = up;
        clock = subst (λ (o : Operation). w.clocks o.brick.0 < early) same calm.clock;
        times = subst (λ (o : Operation). IsEarly (w.nodes o.brick.0)) same calm.times;
      };
      able = λ k number found.
          (let ready = calm.ready k (brick_of number) (slice_get-map brick_of numbers k ∙ ap (option_map brick_of) found) in
          record {
            up = ready.up;
            serves = record {
              view_is = ap (λ g. view_at (w.nodes number) g) (sym group) ∙ ready.view ∙ ap (λ (d : Coordinator). d.stamp.view.0) coordinator;
              serves = ap (λ g. has_accepted (w.nodes number) g) (sym group) ∙ ready.serves;
            };
            room = ready.room;
            times = ready.times;
          });
      untouched = calm.untouched;
    }

-- an operation that is open, and of which this is kept
pub record Here (layout : Layout) (w : World) (n : ℕ) (kept : OperationRecord) : Type 0 where
  pub coordinator : Coordinator
  pub opens : open_call w n ≡ Some coordinator
  pub at : IsOpenAt w n coordinator
  pub up : is_up layout w at.operation.brick ≡ true
  pub same : TellsOperation kept at.operation
  pub some : n ≢ 0

pub open_here : (layout : Layout) (w : World) (n : ℕ) (history : History) (kept : OperationRecord) → Books (coding layout) w
    → AreOfBricks layout w → Tells history w
    → is_some (open_call w n) ≡ true → record_at history.operations.items n ≡ Some kept → Here layout w n kept
open_here layout w n history kept books there tells goes is = by_call (open_call w n) refl goes
  where
    by_call : (found : Option Coordinator) → open_call w n ≡ found → is_some found ≡ true → Here layout w n kept
    by_call None none e = absurd (let never : false ≡ true = e in cc)
    by_call (Some c) opens e =
        let at = open_parts (coding layout) w n c books opens in
        let its = kept_at w history n kept tells is in
        let same : its.0 ≡ at.operation = same_Some its.0 at.operation (sym its.1 ∙ at.is) in
        record {
          coordinator = c;
          opens = opens;
          at = at;
          up = ap (λ (b : Bool). b && w.up at.operation.brick.0) (there n at.operation at.is) ∙ at.up;
          same = subst (λ (o : Operation). TellsOperation kept o) same its.2;
          some = its.3;
        }

-- its group is one of the layout, of as many data blocks
pub group_is : (layout : Layout) (w : World) (n : ℕ) (kept : OperationRecord) (here : Here layout w n kept) → IsLayout layout → IsReachedBy layout w
    → (group : Group) × (group_of layout kept.group.0 ≡ Some group) × (here.coordinator.group.m ≡ group.m)
group_is layout w n kept here is reached =
    let at = here.at in
    let same : here.coordinator.call.group.0 ≡ kept.group.0 =
    ap (λ (g : GroupId). g.0) (at.group ∙ ap (λ (a : Ask). a.group) at.ask ∙ sym here.same.group) in
    subst (λ (g : ℕ). (group : Group) × (group_of layout g ≡ Some group) × (here.coordinator.group.m ≡ group.m)) same
    (reached_group layout w at.operation.brick.0 at.operation.seq here.coordinator (coding_is_sound layout is) reached at.call)
