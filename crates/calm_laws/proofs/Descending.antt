-- A recovery alone: it finds a version of which it has enough blocks, below ever lower bounds, and stores it.
use Rattle.fab_base.specs.declared.identities.ViewNo.{ViewNo}
use Rattle.std.proofs.Common.{Bool, List, None, Option, Some, [], ap, arith, cond, false, inl, inr, length, map, refl, set, subst, suc, sym, true, zero, ℕ, ⊎_elim, ◌+◌, ◌<◌, ◌∙◌, ◌∷◌, ◌≡◌, ◌≤◌, ◌⊎◌, length-append, ◌++◌}
use Rattle.std.proofs.lemmas.Bool.{and_from, cases_Bool, cond_both, eq-eqb, ltb-true, false≢true}
use Rattle.std.specs.Prelude.{filter, nat_eq, nat_lt, slice_get, ◌-◌, ◌^◌, not, ◌&&◌}
use Rattle.calm_laws.proofs.Asking.{Holds, each_then, told_all}
use Rattle.calm_laws.proofs.Counts.{Carries, counted_of, fresh_at}
use Rattle.calm_laws.proofs.Decided.{descend_decides, none_stops, none_refuses}
use Rattle.calm_laws.proofs.Finds.{Has, IsMost, filter_more, finding, greatest_has, greatest_most, has_each, pieces_length, some_of, total_below, total_falls}
use Rattle.protocol_laws.proofs.Logs.{IsWithin, LogAscends, newest_among}
use Rattle.calm_laws.proofs.Ordering.{TameWith, descends_ask, looking, orders_keep, orders_reply, read_fits, reads_so, told_below, told_facts, told_then}
use Rattle.calm_laws.proofs.PhaseRuns.{Cast, IsOpen, known_then, next_open, open_run_first, of_first}
use Rattle.calm_laws.proofs.Scenes.{Closes, Each, Part, Scene, Seated, Stage, made, sent, IsInView}
use Rattle.calm_laws.proofs.StorePhases.{AreTaking, store_phase}
use Rattle.fab_base.proofs.StampOrder.{stamp_neither_below, stamp_not_below_trans, stamp_same_refl}
use Rattle.fab_base.specs.Layouts.{Group}
use Rattle.fab_base.specs.Stamps.{first_stamp, stamp_below, stamp_same}
use Rattle.fab_base.specs.declared.stamps.Stamp.{Stamp}
use Rattle.messages.specs.declared.replies.Reply.TheVariants.{OrderedRead}
use Rattle.messages.specs.declared.requests.Look.TheVariants.{Below}
use Rattle.messages.specs.declared.requests.Version.{Version}
use Rattle.messages.specs.declared.requests.Want.{Want}
use Rattle.protocol.specs.Calms.{early}
use Rattle.protocol.specs.Coordinators.{Coordinator, Makes, Next, Sends, answers_phase, finds, greatest_found, in_phase, may_be_found, pieces_at, read_back, restoring, lower_phase, looks_back, Waits, forgetting, asks_each}
use Rattle.protocol.specs.Replicas.{below, is_held, is_wanted, newest_of, told_version}
use Rattle.protocol.specs.declared.phases.Counted.{Counted}
use Rattle.protocol.specs.declared.phases.Phase.{Phase}
use Rattle.protocol.specs.declared.phases.Phase.TheVariants.{Descends, LooksBack}
use Rattle.reg_model.specs.Registers.{after_op}
use Rattle.std.proofs.lemmas.List.Elements.{filter-append}

-- the scene once the quorum has replied
abbrev pub after_replies : Stage → Scene → ℕ → (ℕ → Part) → List Seated → (ℕ → Part) → Scene
after_replies stage s known parts others before = record s { known = known; parts = parts; queue = told_all stage s.c others before }

-- the coordinator with these replies
abbrev pub having : Coordinator → List Counted → Coordinator
having c counted = record c { counted = counted }

-- enough of some members hold one version, the floor
pub record IsFloor (m : ℕ) (xs : List Seated) (logs : ℕ → List Version) : Type 0 where
  pub floor : Stamp
  pub holders : m ≤ length (filter (λ x. is_held floor (logs x.brick.0)) xs)

-- An operation may look back: it closes once it asks the members of the view before, where so many phases are left.
pub record MayLookBack (stage : Stage) (cast : Cast stage) (logs : ℕ → List Version) (phases : ℕ) : Type 0 where
  pub later : nat_lt 1 stage.call.view.0 ≡ true
  pub closes : (s : Scene) (others : List Seated) (before parts : ℕ → Part) (known : ℕ) (counted : List Counted) → IsInView stage s.c
      → Holds (TameWith stage s.c.stamp logs) parts cast.xs → stamp_same s.c.stamp first_stamp ≡ false → s.c.call.phase + phases + 3 ≤ 2 ^ 32 - 1
      → Closes stage (sent stage (after_replies stage s known parts others before) (in_phase (having s.c counted) (LooksBack None)))

-- what a recovery comes to at the latest: the floor of the first quorum, or a look back
abbrev pub Ground : (stage : Stage) → Cast stage → (ℕ → List Version) → ℕ → Type 0
Ground stage cast logs phases = IsFloor stage.group.m cast.first logs ⊎ MayLookBack stage cast logs phases

-- a bound is above the floor, if that is what the recovery comes to
abbrev pub IsAbove : (stage : Stage) (cast : Cast stage) (logs : ℕ → List Version) (phases : ℕ) → Ground stage cast logs phases → Stamp → Type 0
IsAbove stage cast logs phases (inl at) bound = stamp_below at.floor bound ≡ true
IsAbove stage cast logs phases (inr back) bound = Unit {0}

-- What is known of the logs of the quorum's members: they ascend, and their blocks have the length of one, as those that the code encodes have; and what a recovery
-- comes to, with how many phases it takes then.
pub record Lore (stage : Stage) (cast : Cast stage) (logs : ℕ → List Version) : Type 0 where
  pub ascends : Each (λ x. LogAscends (logs x.brick.0)) cast.xs
  pub some_block : 1 ≤ stage.group.m
  pub blocks : Each (λ x. (k : ℕ) (version : Version) → slice_get (logs x.brick.0) k ≡ Some version
      → length version.block ≡ stage.setting.layout.block) cast.xs
  pub encodes : (m : ℕ) (content : List ℕ) (seat : ℕ) → length (stage.setting.code.encode m content seat) ≡ stage.setting.layout.block
  pub phases : ℕ
  pub ground : Ground stage cast logs phases

-- parts that have come to nothing above a stamp take its version
pub are_taking : (stage : Stage) (t : Stamp) (logs : ℕ → List Version) (parts : ℕ → Part) (xs : List Seated)
    → Each (λ x. LogAscends (logs x.brick.0)) xs → Holds (TameWith stage t logs) parts xs → AreTaking stage t parts xs
are_taking stage t logs parts [] ascends tame = tt
are_taking stage t logs parts (x ∷ xs) ascends tame = (
  (tame.0.tame, tame.0.room, subst (λ (l : List Version). LogAscends l) (sym tame.0.log_is) ascends.0, tt),
  are_taking stage t logs parts xs ascends.1 tame.1,
)

-- a phase begins at parts that have come to nothing above its stamp
pub record IsSet (stage : Stage) (cast : Cast stage) (logs : ℕ → List Version) (s : Scene) : Type 0 where
  pub open_is : IsOpen stage cast s
  pub tame : Holds (TameWith stage s.c.stamp logs) s.parts cast.xs
  pub later : stamp_same s.c.stamp first_stamp ≡ false

module _ (block : ℕ) (logs : ℕ → List Version) (xs : List Seated) (bound : Stamp) (want : Want)
    (blocks : Each (λ x. (k : ℕ) (version : Version) → slice_get (logs x.brick.0) k ≡ Some version → length version.block ≡ block) xs) where
  -- what is told below the bound answers the phase
  pub told_fits : Each (λ x. may_be_found (cond (is_wanted want x.seat) block 0) bound (told_below logs bound want x) ≡ true) xs
  told_fits =
      each_then (λ (x : Seated). (k : ℕ) (version : Version) → slice_get (logs x.brick.0) k ≡ Some version → length version.block ≡ block)
      (λ (x : Seated). may_be_found (cond (is_wanted want x.seat) block 0) bound (told_below logs bound want x) ≡ true) xs
      (λ x long. go x long (told_below logs bound want x) refl) blocks
    where
      long_so : (wanted : Bool) (bytes : List ℕ) → length bytes ≡ block
          → length (cond wanted bytes []) ≡ cond wanted block 0
      long_so true bytes long = long
      long_so false bytes long = refl

      go : (x : Seated) → ((k : ℕ) (version : Version) → slice_get (logs x.brick.0) k ≡ Some version → length version.block ≡ block)
          → (z : Option Version) → told_below logs bound want x ≡ z → may_be_found (cond (is_wanted want x.seat) block 0) bound z ≡ true
      go x long None is = refl
      go x long (Some version) is =
          let told = told_facts logs bound want x version is in
          and_from (nat_eq (length version.block) (cond (is_wanted want x.seat) block 0)) (stamp_below version.stamp bound)
          (eq-eqb (length version.block) (cond (is_wanted want x.seat) block 0)
          (ap (λ (l : List ℕ). length l) told.block_is
          ∙ long_so (is_wanted want x.seat) told.inner.block (long told.facts.place told.inner told.facts.stands)))
          (subst (λ (z : Stamp). stamp_below z bound ≡ true) told.stamp_is told.facts.lower)

-- in its own view a recovery looks lower
lower_ahead : (phase : Phase) (v : Stamp) → looks_back phase ≡ false → lower_phase phase v ≡ Descends v
lower_ahead (LooksBack bound) v ahead = absurd (false≢true (sym ahead))
lower_ahead phase v ahead = refl

module _ (logs : ℕ → List Version) (xs : List Seated) (bound : Stamp) (want : Want) where
  -- what they find, and what counts then
  abbrev g : Seated → Option Version
  g = told_below logs bound want

  abbrev counted : List Counted
  counted = map (counted_of (finding g)) xs

  -- what is found is below the bound, and held
  pub found_lower : (v : Stamp) → greatest_found counted ≡ Some v → (stamp_below v bound ≡ true) × Has (λ x. is_held v (logs x.brick.0) ≡ true) xs
  found_lower v is = go xs (greatest_has g v xs is)
    where
      go : (ys : List Seated) → Has (λ x. (version : Version) × (g x ≡ Some version) × (version.stamp ≡ v)) ys
          → (stamp_below v bound ≡ true) × Has (λ x. is_held v (logs x.brick.0) ≡ true) ys
      go [] has = absurd has
      go (y ∷ ys) (inl here) =
          let told = told_facts logs bound want y here.0 here.1 in
          let same : told.inner.stamp ≡ v = told.stamp_is ∙ here.2 in (
            subst (λ (z : Stamp). stamp_below z bound ≡ true) same told.facts.lower,
            inl (subst (λ (z : Stamp). is_held z (logs y.brick.0) ≡ true) same told.facts.held),
          )
      go (y ∷ ys) (inr there) = let rest = go ys there in (rest.0, inr rest.1)

  -- so fewer versions are below it
  pub found_fewer : (v : Stamp) → greatest_found counted ≡ Some v → total_below logs v xs + 1 ≤ total_below logs bound xs
  found_fewer v is = let lower = found_lower v is in total_falls logs v bound xs lower.0 lower.1

  module _ (ascends : Each (λ x. LogAscends (logs x.brick.0)) xs) (m : ℕ) (some_block : 1 ≤ m) (floor : Stamp)
      (holders : m ≤ length (filter (λ x. is_held floor (logs x.brick.0)) xs)) (above : stamp_below floor bound ≡ true) where
    -- a member that holds the floor finds nothing below it
    holder_finds : Each (λ x. is_held floor (logs x.brick.0) ≡ true
        → (version : Version) × (g x ≡ Some version) × (stamp_below version.stamp floor ≡ false)) xs
    holder_finds =
        each_then (λ (x : Seated). LogAscends (logs x.brick.0))
        (λ (x : Seated). is_held floor (logs x.brick.0) ≡ true
        → (version : Version) × (g x ≡ Some version) × (stamp_below version.stamp floor ≡ false)) xs
        (λ x ascends held. go x (newest_of (below bound (logs x.brick.0))) refl
        (newest_among (λ d. stamp_below d bound) floor (logs x.brick.0) ascends held above)) ascends
      where
        go : (x : Seated) (z : Option Version) → newest_of (below bound (logs x.brick.0)) ≡ z → IsWithin (newest_of (below bound (logs x.brick.0))) floor
            → (version : Version) × (g x ≡ Some version) × (stamp_below version.stamp floor ≡ false)
        go x None is within = absurd (subst (λ (z : Option Version). IsWithin z floor) is within)
        go x (Some inner) is within =
            let then = told_then (is_wanted want x.seat) inner in (
              then.0,
              ap (λ (z : Option Version). told_version (is_wanted want x.seat) z) is ∙ then.1,
              subst (λ (z : Stamp). stamp_below z floor ≡ false) (sym then.2)
                  (subst (λ (z : Option Version). IsWithin z floor) is within),
            )

    -- a holder tells at most the greatest, so something is found, and it is at least the floor
    holder_most : Each (λ x. is_held floor (logs x.brick.0) ≡ true → (version : Version) × (g x ≡ Some version)
        × (stamp_below version.stamp floor ≡ false) × IsMost (greatest_found counted) version.stamp) xs
    holder_most = both xs holder_finds (greatest_most g xs)
      where
        both : (ys : List Seated)
            → Each (λ x. is_held floor (logs x.brick.0) ≡ true
            → (version : Version) × (g x ≡ Some version) × (stamp_below version.stamp floor ≡ false)) ys
            → Each (λ x. (version : Version) → g x ≡ Some version → IsMost (greatest_found counted) version.stamp) ys
            → Each (λ x. is_held floor (logs x.brick.0) ≡ true → (version : Version) × (g x ≡ Some version)
            × (stamp_below version.stamp floor ≡ false) × IsMost (greatest_found counted) version.stamp) ys
        both [] finds most = tt
        both (y ∷ ys) finds most = (
          (λ held. let found = finds.0 held in (found.0, found.1, found.2, most.0 found.0 found.1)),
          both ys finds.1 most.1,
        )

    -- one holds the floor
    a_holder : Has (λ x. is_held floor (logs x.brick.0) ≡ true) xs
    a_holder =
        let many = holders in
        let one = some_block in
        some_of (λ x. is_held floor (logs x.brick.0)) xs (omega (arith, many, one))

    -- so something is found
    pub found_some : greatest_found counted ≡ None → ⊥
    found_some none =
        has_each (λ (x : Seated). is_held floor (logs x.brick.0) ≡ true)
        (λ (x : Seated). is_held floor (logs x.brick.0) ≡ true → (version : Version) × (g x ≡ Some version)
        × (stamp_below version.stamp floor ≡ false) × IsMost (greatest_found counted) version.stamp)
        ⊥ xs
        (λ x held most. subst (λ (z : Option Stamp). IsMost z (most held).0.stamp) none (most held).3) a_holder holder_most

    -- what is found is not below the floor
    found_above : (v : Stamp) → greatest_found counted ≡ Some v → stamp_below v floor ≡ false
    found_above v is =
        has_each (λ (x : Seated). is_held floor (logs x.brick.0) ≡ true)
        (λ (x : Seated). is_held floor (logs x.brick.0) ≡ true → (version : Version) × (g x ≡ Some version)
        × (stamp_below version.stamp floor ≡ false) × IsMost (greatest_found counted) version.stamp)
        (stamp_below v floor ≡ false) xs
        (λ x held most. stamp_not_below_trans floor (most held).0.stamp v (most held).2
        (subst (λ (z : Option Stamp). IsMost z (most held).0.stamp) is (most held).3)) a_holder holder_most

    -- where the floor is found, all that hold it tell it
    floor_enough : greatest_found counted ≡ Some floor → m ≤ length (pieces_at floor counted)
    floor_enough is =
        let many = holders in
        let more = filter_more (finding g) (λ x. is_held floor (logs x.brick.0)) (finds floor) xs
        (each_then (λ (x : Seated). is_held floor (logs x.brick.0) ≡ true → (version : Version) × (g x ≡ Some version)
        × (stamp_below version.stamp floor ≡ false) × IsMost (greatest_found counted) version.stamp)
        (λ (x : Seated). is_held floor (logs x.brick.0) ≡ true → finds floor (counted_of (finding g) x) ≡ true) xs
        (λ x most held.
        let found = most held in
        let same : found.0.stamp ≡ floor
        = stamp_neither_below found.0.stamp floor found.2 (subst (λ (z : Option Stamp). IsMost z found.0.stamp) is found.3) in
        ap (λ (z : Option Version). finds floor (record { seat = x.seat; brick = x.brick; reply = OrderedRead z })) found.1
        ∙ subst (λ (z : Stamp). stamp_same z floor ≡ true) (sym same) (stamp_same_refl floor))
        holder_most) in
        omega (arith, many, more, pieces_length (filter (finds floor) counted))

    -- where too few tell what is found, it is above the floor
    pub found_over : (v : Stamp) → greatest_found counted ≡ Some v → length (pieces_at v counted) < m → stamp_below floor v ≡ true
    found_over v is few =
        let not_below : stamp_below v floor ≡ false = found_above v is in
        ⊎_elim
        (λ (less : stamp_below floor v ≡ true). less)
        (λ (not_less : stamp_below floor v ≡ false).
        let same : floor ≡ v = stamp_neither_below floor v not_less not_below in
        let enough = floor_enough (is ∙ ap (λ (z : Stamp). Some z) (sym same)) in
        let as_many : length (pieces_at floor counted) ≡ length (pieces_at v counted)
        = ap (λ (z : Stamp). length (pieces_at z counted)) same in
        absurd (omega (arith, enough, as_many, few)))
        (cases_Bool (stamp_below floor v))

-- some of the first of these are some of these
has_front : {A : Type 0} (P : A → Type 0) (xs ys : List A) → Has P xs → Has P (xs ++ ys)
has_front P [] ys has = absurd has
has_front P (x ∷ xs) ys (inl here) = inl here
has_front P (x ∷ xs) ys (inr there) = inr (has_front P xs ys there)

-- enough of all of them hold the floor of the first quorum
pub all_holders : (stage : Stage) (cast : Cast stage) (logs : ℕ → List Version) (at : IsFloor stage.group.m cast.first logs)
    → stage.group.m ≤ length (filter (λ x. is_held at.floor (logs x.brick.0)) cast.xs)
all_holders stage cast logs at =
    subst (λ (l : List Seated). stage.group.m ≤ length (filter (λ x. is_held at.floor (logs x.brick.0)) l)) cast.split
    (let long : length (filter (λ x. is_held at.floor (logs x.brick.0)) (cast.first ++ cast.more))
    ≡ length (filter (λ x. is_held at.floor (logs x.brick.0)) cast.first) + length (filter (λ x. is_held at.floor (logs x.brick.0)) cast.more)
    = ap (λ (l : List Seated). length l) (filter-append (λ x. is_held at.floor (logs x.brick.0)) cast.first cast.more)
    ∙ length-append (filter (λ x. is_held at.floor (logs x.brick.0)) cast.first) (filter (λ x. is_held at.floor (logs x.brick.0)) cast.more) in
    let enough = at.holders in
    omega (arith, long, enough))

-- These are all that count in a phase for each, or the first quorum.
module _ (stage : Stage) (cast : Cast stage) (logs : ℕ → List Version) (lore : Lore stage cast logs) (s : Scene) (in_view : IsInView stage s.c)
    (bound : Stamp) (want : Want) (above : IsAbove stage cast logs lore.phases lore.ground bound) (ys : List Seated)
    (which : (ys ≡ cast.xs) ⊎ (ys ≡ cast.first)) where
  abbrev reads : List Counted
  reads = map (counted_of (finding (told_below logs bound want))) ys

  -- their logs ascend, enough of them hold the floor, and each of them is one of all
  its_ascends : Each (λ x. LogAscends (logs x.brick.0)) ys
  its_ascends = ⊎_elim
      (λ (all : ys ≡ cast.xs). subst (λ (l : List Seated). Each (λ x. LogAscends (logs x.brick.0)) l) (sym all) lore.ascends)
      (λ (first : ys ≡ cast.first).
      subst (λ (l : List Seated). Each (λ x. LogAscends (logs x.brick.0)) l) (sym first) (of_first stage cast (λ x. LogAscends (logs x.brick.0)) lore.ascends))
      which

  its_holders : (at : IsFloor stage.group.m cast.first logs) → stage.group.m ≤ length (filter (λ x. is_held at.floor (logs x.brick.0)) ys)
  its_holders at = ⊎_elim
      (λ (all : ys ≡ cast.xs).
      subst (λ (l : List Seated). stage.group.m ≤ length (filter (λ x. is_held at.floor (logs x.brick.0)) l)) (sym all) (all_holders stage cast logs at))
      (λ (first : ys ≡ cast.first).
      subst (λ (l : List Seated). stage.group.m ≤ length (filter (λ x. is_held at.floor (logs x.brick.0)) l)) (sym first) at.holders)
      which

  its_some : (P : Seated → Type 0) → Has P ys → Has P cast.xs
  its_some P has = ⊎_elim
      (λ (all : ys ≡ cast.xs). subst (λ (l : List Seated). Has P l) all has)
      (λ (first : ys ≡ cast.first).
      subst (λ (l : List Seated). Has P l) cast.split (has_front P cast.first cast.more (subst (λ (l : List Seated). Has P l) first has)))
      which

  -- where nothing is found, the operation looks back
  none_goes : (ground : Ground stage cast logs lore.phases) → IsAbove stage cast logs lore.phases ground bound → greatest_found reads ≡ None
      → (others : List Seated) (before parts : ℕ → Part) (known : ℕ) → Holds (TameWith stage s.c.stamp logs) parts cast.xs
      → stamp_same s.c.stamp first_stamp ≡ false → s.c.call.phase + lore.phases + 3 ≤ 2 ^ 32 - 1
      → Carries stage (after_replies stage s known parts others before)
      (read_back stage.setting.layout.block stage.setting.code (having s.c reads) None)
  none_goes (inl at) over none others before parts known tame later within =
      absurd (found_some logs ys bound want its_ascends stage.group.m lore.some_block at.floor (its_holders at) over none)
  none_goes (inr back) over none others before parts known tame later within =
      subst (λ (b : Bool). Carries stage (after_replies stage s known parts others before)
      (cond b (Sends (in_phase (having s.c reads) (LooksBack None))) (Waits (forgetting (having s.c reads)))))
      (sym (ap (λ (t : ℕ). nat_lt 1 t && not (looks_back s.c.phase)) (ap (λ (v : ViewNo). v.0) in_view.of.view)
      ∙ ap (λ (b : Bool). nat_lt 1 stage.call.view.0 && not b) in_view.ahead ∙ ap (λ (b : Bool). b && true) back.later)) (
        record { group = refl; prior = refl; only = refl; boot = refl; seq = refl; of_group = refl; view = refl; stripe = refl },
        back.closes s others before parts known reads in_view tame later within,
      )

  -- where too few tell what is found, that is above the floor
  still_above : (ground : Ground stage cast logs lore.phases) → IsAbove stage cast logs lore.phases ground bound → (v : Stamp) → greatest_found reads ≡ Some v
      → length (pieces_at v reads) < stage.group.m → IsAbove stage cast logs lore.phases ground v
  still_above (inl at) over v is few = found_over logs ys bound want its_ascends stage.group.m lore.some_block at.floor (its_holders at) over v is few
  still_above (inr back) over v is few = tt

  -- The version that is read back is stored; or a lower bound closes.
  pub read_back_goes : (others : List Seated) (before parts : ℕ → Part) (known : ℕ) → Holds (TameWith stage s.c.stamp logs) parts cast.xs
      → stamp_same s.c.stamp first_stamp ≡ false → s.c.call.phase + lore.phases + 3 ≤ 2 ^ 32 - 1
      → ((v : Stamp) → IsAbove stage cast logs lore.phases lore.ground v → total_below logs v cast.xs + 1 ≤ total_below logs bound cast.xs
      → Closes stage (sent stage (after_replies stage s known parts others before) (in_phase (having s.c reads) (Descends v))))
      → Carries stage (after_replies stage s known parts others before)
      (read_back stage.setting.layout.block stage.setting.code (having s.c reads) (greatest_found reads))
  read_back_goes others before parts known tame later early lower = go (greatest_found reads) refl
    where
      go : (z : Option Stamp) → greatest_found reads ≡ z
          → Carries stage (after_replies stage s known parts others before)
          (read_back stage.setting.layout.block stage.setting.code (having s.c reads) z)
      go None is = none_goes lore.ground above is others before parts known tame later early
      go (Some v) is =
          subst (λ (p : Phase). Carries stage (after_replies stage s known parts others before)
          (cond (nat_lt (length (pieces_at v reads)) s.c.group.m) (Sends (in_phase (having s.c reads) p))
          (Makes (restoring stage.setting.layout.block (having s.c reads) v (stage.setting.code.decode s.c.group.m (pieces_at v reads))))))
          (sym (lower_ahead s.c.phase v in_view.ahead))
          (cond_both (nat_lt (length (pieces_at v reads)) s.c.group.m) (Sends (in_phase (having s.c reads) (Descends v)))
          (Makes (restoring stage.setting.layout.block (having s.c reads) v (stage.setting.code.decode s.c.group.m (pieces_at v reads))))
          (λ (z : Next). Carries stage (after_replies stage s known parts others before) z)
          (λ few.
          let same : s.c.group.m ≡ stage.group.m = ap (λ (y : Group). y.m) in_view.of.group in
          let less : length (pieces_at v reads) < s.c.group.m = ltb-true (length (pieces_at v reads)) s.c.group.m few in
          let over = still_above lore.ground above v is (omega (arith, less, same)) in (
            record { group = refl; prior = refl; only = refl; boot = refl; seq = refl; of_group = refl; view = refl; stripe = refl },
            lower v over
                (let found = found_lower logs ys bound want v is in
                total_falls logs v bound cast.xs found.0 (its_some (λ x. is_held v (logs x.brick.0) ≡ true) found.1)),
          ))
          (λ enough. (
            record { group = refl; prior = refl; only = refl; boot = refl; seq = refl; of_group = refl; view = refl; stripe = refl },
            store_phase stage cast
                (made stage (after_replies stage s known parts others before)
                (restoring stage.setting.layout.block (having s.c reads) v (stage.setting.code.decode s.c.group.m (pieces_at v reads))))
                (next_open stage cast s.c
                (restoring stage.setting.layout.block (having s.c reads) v (stage.setting.code.decode s.c.group.m (pieces_at v reads)))
                others before
                (made stage (after_replies stage s known parts others before)
                (restoring stage.setting.layout.block (having s.c reads) v (stage.setting.code.decode s.c.group.m (pieces_at v reads))))
                in_view
                (record {
                  same = record { group = refl; prior = refl; only = refl; boot = refl; seq = refl; of_group = refl; view = refl; stripe = refl };
                  ahead = refl;
                  own = refl;
                  later = refl;
                  counted = refl;
                })
                refl refl)
                refl (omega (arith, early)) (λ x seated. lore.encodes s.c.group.m
                (after_op stage.setting.layout.block s.c.ask.op (stage.setting.code.decode s.c.group.m (pieces_at v reads))) x.seat)
                (are_taking stage s.c.stamp logs parts cast.xs lore.ascends tame),
          )))

-- a phase that looks below this bound closes, whose versions below are this many at most
abbrev pub DownCloses : (stage : Stage) (cast : Cast stage) (logs : ℕ → List Version) → Lore stage cast logs → ℕ → Type 0
DownCloses stage cast logs lore n =
    (s : Scene) (bound : Stamp) → IsSet stage cast logs s → s.c.phase ≡ Descends bound → IsAbove stage cast logs lore.phases lore.ground bound
    → total_below logs bound cast.xs ≤ n → s.c.call.phase + n + lore.phases + 3 ≤ 2 ^ 32 - 1 → Closes stage s

-- from one bound, where lower ones close
down_step : (stage : Stage) (cast : Cast stage) (logs : ℕ → List Version) (lore : Lore stage cast logs) (n : ℕ) (s : Scene) (bound : Stamp)
    → IsSet stage cast logs s → s.c.phase ≡ Descends bound → IsAbove stage cast logs lore.phases lore.ground bound → s.c.call.phase + n + lore.phases + 3 ≤ 2 ^ 32 - 1
    → ((later : Scene) (v : Stamp) → IsSet stage cast logs later → later.c.phase ≡ Descends v → IsAbove stage cast logs lore.phases lore.ground v
    → total_below logs v cast.xs + 1 ≤ total_below logs bound cast.xs → later.c.call.phase ≡ s.c.call.phase + 1 → Closes stage later)
    → Closes stage s
down_step stage cast logs lore n s bound set phase above early lower =
    let asks = descends_ask stage s.c bound phase in
    let so = reads_so stage s.c (Below bound) Want.All asks in
    let found : Seated → Option Version = told_below logs bound Want.All in
    let all : List Counted = map (counted_of (finding found)) cast.first in
    let others : List Seated = cast.more ++ set.open_is.others in
    open_run_first stage cast s set.open_is (ap (λ (p : Phase). asks_each p) phase) (TameWith stage s.c.stamp logs) (finding found) (omega (arith, early))
    (λ x seated. read_fits stage s.c s.c.stamp (Below bound) Want.All x (asks x))
    (orders_keep stage s.c (looking (Below bound) Want.All) logs set.later so)
    (orders_reply stage s.c (looking (Below bound) Want.All) logs so) set.tame
    (each_then (λ (x : Seated). may_be_found stage.setting.layout.block bound (found x) ≡ true)
    (λ (x : Seated). answers_phase stage.setting.layout.block s.c.stamp x.seat s.c.phase (finding found x) ≡ true) cast.first
    (λ x fits. ap (λ (p : Phase). answers_phase stage.setting.layout.block s.c.stamp x.seat p (finding found x)) phase ∙ fits)
    (told_fits stage.setting.layout.block logs cast.first bound Want.All
    (of_first stage cast (λ x. (k : ℕ) (version : Version) → slice_get (logs x.brick.0) k ≡ Some version → length version.block ≡ stage.setting.layout.block)
    lore.blocks)))
    (λ before parts tame.
    let known : ℕ = known_then stage s (finding found) cast.first set.open_is.stale in
    subst (λ (z : Next). Carries stage (after_replies stage s known parts others before) z)
    (sym (descend_decides stage.setting.layout.block stage.setting.code (fresh_at stage s.c known) (having s.c all)
    (none_stops (finding found) (record { unmoved = λ x. refl; undropped = λ x. refl; unfull = λ x. refl }) cast.first) bound phase (none_refuses (finding found) (λ x. refl) cast.first)))
    (read_back_goes stage cast logs lore s set.open_is.in_view bound Want.All above cast.first (inr refl) others before parts known tame set.later (omega (arith, early))
    (λ v over falls.
    lower (sent stage (after_replies stage s known parts others before) (in_phase (having s.c all) (Descends v))) v
    (record {
      open_is = next_open stage cast s.c (in_phase (having s.c all) (Descends v)) others before
          (sent stage (after_replies stage s known parts others before) (in_phase (having s.c all) (Descends v))) set.open_is.in_view
          (record {
            same = record { group = refl; prior = refl; only = refl; boot = refl; seq = refl; of_group = refl; view = refl; stripe = refl };
            ahead = refl;
            own = refl;
            later = refl;
            counted = refl;
          })
          refl refl;
      tame = tame;
      later = set.later;
    })
    refl over falls refl)))

-- a phase that looks below a bound closes
pub down_phase : (stage : Stage) (cast : Cast stage) (logs : ℕ → List Version) (lore : Lore stage cast logs) (n : ℕ)
    → DownCloses stage cast logs lore n
down_phase stage cast logs lore zero s bound set phase above few early =
    down_step stage cast logs lore zero s bound set phase above early (λ later v next next_phase over falls number. absurd (omega (arith, few, falls)))
down_phase stage cast logs lore (suc n) s bound set phase above few early =
    down_step stage cast logs lore (suc n) s bound set phase above early
    (λ later v next next_phase over falls number.
    down_phase stage cast logs lore n later v next next_phase over (omega (arith, few, falls)) (omega (arith, early, number)))
