-- A recovery that looks back, alone: the first quorum of the members of the view before tells what each keeps there, below ever lower bounds, until enough blocks of
-- a version are found.
use Rattle.std.proofs.Common.{Bool, List, None, Option, Some, [], ap, ap₂, arith, cond, false, length, map, refl, subst, suc, sym, true, zero, zero-add, ℕ, ◌++◌, ◌+◌, ◌<◌, ◌∙◌, ◌∷◌, ◌≡◌, ◌≤◌, inl}
use Rattle.std.proofs.lemmas.Bool.{cond_both, ltb-true}
use Rattle.std.proofs.lemmas.List.{append-nil, append_assoc}
use Rattle.std.specs.Prelude.{filter, nat_lt, slice_get, ◌-◌, ◌^◌}
use Rattle.calm_laws.proofs.Asking.{Holds, IsReply, each_then, told_all, told_replies, each_so}
use Rattle.calm_laws.proofs.BlockWrites.{below_whole}
use Rattle.calm_laws.proofs.Counts.{Carries, counted_of, fresh_at, new_from, replies_pass, told, AreNew, decides}
use Rattle.calm_laws.proofs.Decided.{back_decides, none_stops}
use Rattle.calm_laws.proofs.Descending.{IsFloor, MayLookBack, after_replies, are_taking, found_fewer, found_over, found_some, having, told_fits}
use Rattle.calm_laws.proofs.Finds.{finding, total_below}
use Rattle.calm_laws.proofs.Hearing.{IsStale, known_through, stale_pass}
use Rattle.calm_laws.proofs.Ordering.{TameWith, told_below}
use Rattle.calm_laws.proofs.PhaseRuns.{Cast, known_then, next_open_from, none_new, stale_then}
use Rattle.calm_laws.proofs.Scenes.{AreApart, AsksBack, Closes, Each, IsBack, IsSeatedBack, Scene, Seated, Stage, asking, asks_before, found_back, made, of_same, replying, sends, sent, with_queue, back_counts, quorum_needed}
use Rattle.calm_laws.proofs.StorePhases.{store_phase}
use Rattle.fab_base.specs.Layouts.{seat_in, Group}
use Rattle.fab_base.specs.Stamps.{first_stamp, stamp_below, stamp_same}
use Rattle.fab_base.specs.declared.identities.ViewNo.{ViewNo}
use Rattle.fab_base.specs.declared.stamps.Stamp.{Stamp}
use Rattle.messages.specs.declared.packets.Packet.{Packet}
use Rattle.messages.specs.declared.replies.Reply.{Reply}
use Rattle.messages.specs.declared.replies.Reply.TheVariants.{Old}
use Rattle.messages.specs.declared.requests.Version.{Version}
use Rattle.messages.specs.declared.requests.Want.{Want}
use Rattle.protocol.specs.Coordinators.{Coordinator, Makes, Next, Sends, answers_phase, finds, greater_stamp, greatest_found, in_phase, may_be_found, old_bound, pieces_at, pieces_of, read_back, restoring, told_stamp, lower_phase, may_count, asks_each}
use Rattle.protocol.specs.Replicas.{below, is_held, newest_of, told_version}
use Rattle.protocol.specs.Settings.{Piece}
use Rattle.protocol.specs.Views.{floor_of, view_told}
use Rattle.protocol.specs.declared.phases.Counted.{Counted}
use Rattle.protocol.specs.declared.phases.Phase.{Phase}
use Rattle.protocol.specs.declared.phases.Phase.TheVariants.{LooksBack}
use Rattle.protocol_laws.proofs.Logs.{LogAscends}
use Rattle.quorum.specs.Quorums.{quorum_of}
use Rattle.reg_model.specs.Registers.{after_op}

-- the members of the view before that hear the coordinator: the first quorum of them in the order of seats, and the rest
pub record BackCast (stage : Stage) : Type 0 where
  pub xs : List Seated
  pub rest : List Seated
  pub seated : Each (IsSeatedBack stage) xs
  pub rest_seated : Each (IsSeatedBack stage) rest
  pub apart : AreApart xs
  pub some : 1 ≤ length xs
  pub quorum : length xs ≡ quorum_of stage.prior
  pub sends : (d : Coordinator) (bound : Option Stamp) → IsBack stage d bound → sends stage d ≡ map (asking stage d) xs ++ map (asking stage d) rest

-- What is known of what they keep in that view: their logs ascend, and are of that view; enough of them hold one version, the floor; and their blocks have the length of one.
pub record OldLore (stage : Stage) (back : BackCast stage) : Type 0 where
  pub may : stage.may_ask ≡ true
  pub later : nat_lt 1 stage.call.view.0 ≡ true
  pub ascends : Each (λ x. LogAscends (stage.old x.brick.0)) back.xs
  pub below : Each (λ x. (d : Stamp) → is_held d (stage.old x.brick.0) ≡ true → stamp_below d (floor_of stage.call.view.0) ≡ true) back.xs
  pub blocks : Each (λ x. (k : ℕ) (version : Version) → slice_get (stage.old x.brick.0) k ≡ Some version
      → length version.block ≡ stage.setting.layout.block) back.xs
  pub some_block : 1 ≤ stage.group.m
  pub at : IsFloor stage.group.m back.xs stage.old
  pub at_below : stamp_below at.floor (floor_of stage.call.view.0) ≡ true

-- all requests are delivered, one after another, and the replies follow what was waiting
back_asks : (stage : Stage) (bound : Option Stamp) (xs : List Seated) (s : Scene) (rest : List Packet) → s.queue ≡ map (asking stage s.c) xs ++ rest
    → Each (IsSeatedBack stage) xs → IsBack stage s.c bound → stage.may_ask ≡ true → nat_lt 1 stage.call.view.0 ≡ true
    → Closes stage (record s { queue = rest ++ told stage s.c.call (λ x. Old (found_back stage bound x)) xs }) → Closes stage s
back_asks stage bound [] s rest is seated back may later closes =
    with_queue stage s rest is (subst (λ (q : List Packet). Closes stage (record s { queue = q })) (append-nil rest) closes)
back_asks stage bound (x ∷ xs) s rest is seated back may later closes =
    let reply : Packet = replying stage x.brick s.c.call (Old (found_back stage bound x)) in
    AsksBack s x (map (asking stage s.c) xs ++ rest) bound is seated.0 back may later
    (back_asks stage bound xs (record s { queue = (map (asking stage s.c) xs ++ rest) ++ (reply ∷ []) }) (rest ++ (reply ∷ []))
    (append_assoc (map (asking stage s.c) xs) rest (reply ∷ [])) seated.1 back may later
    (subst (λ (q : List Packet). Closes stage (record s { queue = q }))
    (sym (append_assoc rest (reply ∷ []) (told stage s.c.call (λ y. Old (found_back stage bound y)) xs))) closes))

-- what members tell is a reply that teaches no view
old_replies : (stage : Stage) (c : Coordinator) (g : Seated → Option Version) (xs : List Seated)
    → Each (IsReply stage c.call) (told stage c.call (λ x. Old (g x)) xs)
old_replies stage c g [] = tt
old_replies stage c g (x ∷ xs) = ((x.brick, Old (g x), refl, refl), old_replies stage c g xs)

-- what is found in the view before counts as what is found in the own
found_same : (g h : Seated → Option Version) (xs : List Seated) → Each (λ x. g x ≡ h x) xs
    → greatest_found (map (counted_of (λ x. Old (g x))) xs) ≡ greatest_found (map (counted_of (finding h)) xs)
found_same g h [] same = refl
found_same g h (x ∷ xs) same =
    ap₂ (λ (a b : Option Stamp). greater_stamp a b) (ap (λ (z : Option Version). told_stamp (Old z)) same.0) (found_same g h xs same.1)

pieces_same : (v : Stamp) (g h : Seated → Option Version) (xs : List Seated) → Each (λ x. g x ≡ h x) xs
    → pieces_at v (map (counted_of (λ x. Old (g x))) xs) ≡ pieces_at v (map (counted_of (finding h)) xs)
pieces_same v g h [] same = refl
pieces_same v g h (x ∷ xs) same =
    ap (λ (z : Option Version). pieces_of (cond (finds v (told_old z)) (told_old z ∷ old_rest) old_rest)) same.0
    ∙ either (finds v (counted_of (finding h) x)) (pieces_same v g h xs same.1)
  where
    told_old : Option Version → Counted
    told_old z = record { seat = x.seat; brick = x.brick; reply = Old z }

    old_rest : List Counted
    old_rest = filter (finds v) (map (counted_of (λ y. Old (g y))) xs)

    own_rest : List Counted
    own_rest = filter (finds v) (map (counted_of (finding h)) xs)

    either : (b : Bool) → pieces_of old_rest ≡ pieces_of own_rest
        → pieces_of (cond b (told_old (h x) ∷ old_rest) old_rest) ≡ pieces_of (cond b (counted_of (finding h) x ∷ own_rest) own_rest)
    either true rest = ap (λ (l : List Piece). (let one : Piece = record { seat = x.seat; bytes = bytes (h x) } in one) ∷ l) rest
      where
        bytes : Option Version → List ℕ
        bytes None = []
        bytes (Some version) = version.block
    either false rest = rest

-- a version that is wanted whole is told so
told_whole : (z : Option Version) → z ≡ told_version true z
told_whole None = refl
told_whole (Some version) = refl

module _ (stage : Stage) (cast : Cast stage) (logs : ℕ → List Version) (ascends : Each (λ x. LogAscends (logs x.brick.0)) cast.xs)
    (encodes : (m : ℕ) (content : List ℕ) (seat : ℕ) → length (stage.setting.code.encode m content seat) ≡ stage.setting.layout.block)
    (back : BackCast stage) (lore : OldLore stage back) where
  -- a phase that looks back begins
  record IsBackOpen (s : Scene) (bound : Option Stamp) : Type 0 where
    pub is_back : IsBack stage s.c bound
    pub counted : s.c.counted ≡ []
    pub stale : List Packet
    pub old : Each (IsStale stage s.c) stale
    pub waiting : s.queue ≡ stale ++ (map (asking stage s.c) back.xs ++ map (asking stage s.c) back.rest)
    pub tame : Holds (TameWith stage s.c.stamp logs) s.parts cast.xs
    pub later : stamp_same s.c.stamp first_stamp ≡ false

  -- what is found is the newest version below the bound
  found_is : (t : Stamp) → t.view ≡ stage.call.view → (bound : Option Stamp)
      → Each (λ x. found_back stage bound x ≡ told_below stage.old (old_bound t bound) Want.All x) back.xs
  found_is t view (Some bound) =
      each_so (λ (x : Seated). found_back stage (Some bound) x ≡ told_below stage.old bound Want.All x)
      (λ x. told_whole (newest_of (below bound (stage.old x.brick.0)))) back.xs
  found_is t view None =
      each_then (λ (x : Seated). (d : Stamp) → is_held d (stage.old x.brick.0) ≡ true → stamp_below d (floor_of stage.call.view.0) ≡ true)
      (λ (x : Seated). found_back stage None x ≡ told_below stage.old (floor_of t.view.0) Want.All x) back.xs
      (λ x lower.
      ap (λ (l : List Version). newest_of l) (sym (below_whole (floor_of stage.call.view.0) (stage.old x.brick.0) lower))
      ∙ ap (λ (e : ViewNo). newest_of (below (floor_of e.0) (stage.old x.brick.0))) (sym view)
      ∙ told_whole (newest_of (below (floor_of t.view.0) (stage.old x.brick.0)))) lore.below

  module _ (s : Scene) (bound : Option Stamp) (open_is : IsBackOpen s bound) where
    abbrev limit : Stamp
    limit = old_bound s.c.stamp bound

    abbrev g : Seated → Option Version
    g = found_back stage bound

    abbrev f : Seated → Reply
    f x = Old (g x)

    abbrev all : List Counted
    all = map (counted_of f) back.xs

    abbrev own : List Counted
    own = map (counted_of (finding (told_below stage.old limit Want.All))) back.xs

    same : Each (λ x. g x ≡ told_below stage.old limit Want.All x) back.xs
    same = found_is s.c.stamp open_is.is_back.of.view bound

    -- what is told answers the phase
    answers : Each (λ x. answers_phase stage.setting.layout.block s.c.stamp x.seat s.c.phase (f x) ≡ true) back.xs
    answers = both back.xs same (told_fits stage.setting.layout.block stage.old back.xs limit Want.All lore.blocks)
      where
        both : (ys : List Seated) → Each (λ x. g x ≡ told_below stage.old limit Want.All x) ys
            → Each (λ x. may_be_found stage.setting.layout.block limit (told_below stage.old limit Want.All x) ≡ true) ys
            → Each (λ x. answers_phase stage.setting.layout.block s.c.stamp x.seat s.c.phase (f x) ≡ true) ys
        both [] is fits = tt
        both (y ∷ ys) is fits = (
          ap (λ (p : Phase). answers_phase stage.setting.layout.block s.c.stamp y.seat p (f y)) open_is.is_back.phase
              ∙ ap (λ (z : Option Version). may_be_found stage.setting.layout.block limit z) is.0 ∙ fits.0,
          both ys is.1 fits.1,
        )

    -- the phase closes, where each lower one does
    back_closes : s.c.call.phase + 2 ≤ 2 ^ 32 - 1 → stamp_below lore.at.floor limit ≡ true
        → ((later : Scene) (v : Stamp) → IsBackOpen later (Some v) → stamp_below lore.at.floor v ≡ true
        → total_below stage.old v back.xs + 1 ≤ total_below stage.old limit back.xs → later.c.call.phase ≡ s.c.call.phase + 1 → Closes stage later)
        → Closes stage s
    back_closes early above lower =
        stale_pass stage open_is.stale s (map (asking stage s.c) back.xs ++ map (asking stage s.c) back.rest) open_is.waiting open_is.old
        (back_asks stage bound back.xs
        (record s { known = known; queue = map (asking stage s.c) back.xs ++ map (asking stage s.c) back.rest })
        (map (asking stage s.c) back.rest) refl back.seated open_is.is_back lore.may lore.later
        (back_asks stage bound back.rest
        (record s { known = known; queue = map (asking stage s.c) back.rest ++ told stage s.c.call f back.xs })
        (told stage s.c.call f back.xs) refl back.rest_seated open_is.is_back lore.may lore.later
        (replies_pass stage stage.prior f back.xs
        (record s { known = known; queue = told stage s.c.call f back.xs ++ left })
        left refl (omega (arith, early))
        (each_so (λ (x : Seated). may_count s.c x.brick.0 ≡ true) (λ x. back_counts s.c bound open_is.is_back.phase x.brick.0) back.xs)
        (asks_before stage s.c bound open_is.is_back)
        (each_then (IsSeatedBack stage) (λ (x : Seated). seat_in stage.prior.members x.brick.0 ≡ Some x.seat) back.xs (λ x seated. seated.0) back.seated)
        answers (each_so (λ (x : Seated). view_told (f x) ≡ None) (λ x. refl) back.xs)
        (subst (λ (l : List Counted). AreNewAll l) (sym open_is.counted) (new_from f [] back.xs back.apart (none_new back.xs)))
        back.some (ap (λ (l : List Counted). length l + length back.xs) open_is.counted ∙ zero-add (length back.xs) ∙ back.quorum
        ∙ ap (λ (g : Group). quorum_of g) (sym (asks_before stage s.c bound open_is.is_back)) ∙ sym (quorum_needed s.c (inl (ap (λ (p : Phase). asks_each p) open_is.is_back.phase))))
        (subst (λ (l : List Counted). Carries stage later_scene
        (decided_of (l ++ all))) (sym open_is.counted)
        (subst (λ (z : Next). Carries stage later_scene z)
        (sym (back_decides stage.setting.layout.block stage.setting.code (fresh_at stage s.c known_now) (having s.c all)
        (none_stops f (record { unmoved = λ x. refl; undropped = λ x. refl; unfull = λ x. refl }) back.xs) bound open_is.is_back.phase))
        (go (greatest_found all) refl))))))
      where
        known : ℕ
        known = known_through open_is.stale s.known

        known_now : ℕ
        known_now = known_then stage s f back.xs open_is.stale

        left : List Packet
        left = told stage s.c.call f back.rest

        later_scene : Scene
        later_scene = record s { known = known_now; queue = left }

        AreNewAll : List Counted → Type 0
        AreNewAll l = AreNew f l back.xs

        decided_of : List Counted → Next
        decided_of l = decides stage s.c known_now l

        next : (v : Stamp) → Coordinator
        next v = in_phase (having s.c all) (LooksBack (Some v))

        stores : (v : Stamp) → Coordinator
        stores v = restoring stage.setting.layout.block (having s.c all) v (stage.setting.code.decode s.c.group.m (pieces_at v all))

        go : (z : Option Stamp) → greatest_found all ≡ z
            → Carries stage later_scene (read_back stage.setting.layout.block stage.setting.code (having s.c all) z)
        go None is =
            absurd (found_some stage.old back.xs limit Want.All lore.ascends stage.group.m lore.some_block lore.at.floor lore.at.holders above
            (sym (found_same g (told_below stage.old limit Want.All) back.xs same) ∙ is))
        go (Some v) is =
            subst (λ (p : Phase). Carries stage later_scene
            (cond (nat_lt (length (pieces_at v all)) s.c.group.m) (Sends (in_phase (having s.c all) (lower_phase p v))) (Makes (stores v))))
            (sym open_is.is_back.phase)
            (cond_both (nat_lt (length (pieces_at v all)) s.c.group.m) (Sends (next v)) (Makes (stores v)) (λ (z : Next). Carries stage later_scene z)
            (λ few.
            let found : greatest_found own ≡ Some v = sym (found_same g (told_below stage.old limit Want.All) back.xs same) ∙ is in
            let few_own : length (pieces_at v own) ≡ length (pieces_at v all)
            = ap (λ (l : List Piece). length l) (sym (pieces_same v g (told_below stage.old limit Want.All) back.xs same)) in
            let m_same : s.c.group.m ≡ stage.group.m = ap (λ (y : Group). y.m) open_is.is_back.of.group in
            let less : length (pieces_at v all) < s.c.group.m = ltb-true (length (pieces_at v all)) s.c.group.m few in (
              record { group = refl; prior = refl; only = refl; boot = refl; seq = refl; of_group = refl; view = refl; stripe = refl },
              lower (sent stage later_scene (next v)) v
                  (record {
                    is_back = next_back v;
                    counted = refl;
                    stale = left;
                    old = stale_then stage s.c (next v)
                        (record { group = refl; prior = refl; only = refl; boot = refl; seq = refl; of_group = refl; view = refl; stripe = refl }) refl left
                        (old_replies stage s.c g back.rest);
                    waiting = ap (λ (q : List Packet). left ++ q) (back.sends (next v) (Some v) (next_back v));
                    tame = open_is.tame;
                    later = open_is.later;
                  })
                  (found_over stage.old back.xs limit Want.All lore.ascends stage.group.m lore.some_block lore.at.floor lore.at.holders above v found
                  (omega (arith, few_own, less, m_same)))
                  (found_fewer stage.old back.xs limit Want.All v found) refl,
            ))
            (λ enough. (
              record { group = refl; prior = refl; only = refl; boot = refl; seq = refl; of_group = refl; view = refl; stripe = refl },
              store_phase stage cast (made stage later_scene (stores v))
                  (next_open_from stage cast s.c (stores v) left (made stage later_scene (stores v)) open_is.is_back.of
                  (record {
                    same = record { group = refl; prior = refl; only = refl; boot = refl; seq = refl; of_group = refl; view = refl; stripe = refl };
                    ahead = refl;
                    own = refl;
                    later = refl;
                    counted = refl;
                  })
                  (old_replies stage s.c g back.rest) refl refl)
                  refl (omega (arith, early)) (λ x seated. encodes s.c.group.m
                  (after_op stage.setting.layout.block s.c.ask.op (stage.setting.code.decode s.c.group.m (pieces_at v all))) x.seat)
                  (are_taking stage s.c.stamp logs s.parts cast.xs ascends open_is.tame),
            )))
          where
            next_back : (u : Stamp) → IsBack stage (next u) (Some u)
            next_back u = record {
              of = of_same stage s.c (next u)
                  (record { group = refl; prior = refl; only = refl; boot = refl; seq = refl; of_group = refl; view = refl; stripe = refl }) open_is.is_back.of;
              phase = refl;
              own = refl;
            }

  -- each phase that looks back closes, where phases enough are left
  back_down : (n : ℕ) (s : Scene) (bound : Option Stamp) → IsBackOpen s bound → stamp_below lore.at.floor (old_bound s.c.stamp bound) ≡ true
      → total_below stage.old (old_bound s.c.stamp bound) back.xs ≤ n → s.c.call.phase + n + 2 ≤ 2 ^ 32 - 1 → Closes stage s
  back_down zero s bound open_is above few early =
      back_closes s bound open_is (omega (arith, early)) above (λ later v next over falls number. absurd (omega (arith, few, falls)))
  back_down (suc n) s bound open_is above few early =
      back_closes s bound open_is (omega (arith, early)) above
      (λ later v next over falls number. back_down n later (Some v) next over (omega (arith, few, falls)) (omega (arith, early, number)))

  -- so an operation may look back
  pub may_look_back : MayLookBack stage cast logs (total_below stage.old (floor_of stage.call.view.0) back.xs)
  may_look_back = record {
    later = lore.later;
    closes = λ s others before parts known counted in_view tame later early.
        let d : Coordinator = in_phase (having s.c counted) (LooksBack None) in
        let is_back : IsBack stage d None = record {
          of = of_same stage s.c d (record { group = refl; prior = refl; only = refl; boot = refl; seq = refl; of_group = refl; view = refl; stripe = refl }) in_view.of;
          phase = refl;
          own = refl;
        } in
        let same : floor_of stage.call.view.0 ≡ floor_of s.c.stamp.view.0 = ap (λ (e : ViewNo). floor_of e.0) (sym in_view.of.view) in
        back_down (total_below stage.old (floor_of stage.call.view.0) back.xs) (sent stage (after_replies stage s known parts others before) d) None
        (record {
          is_back = is_back;
          counted = refl;
          stale = told_all stage s.c others before;
          old = stale_then stage s.c d (record { group = refl; prior = refl; only = refl; boot = refl; seq = refl; of_group = refl; view = refl; stripe = refl }) refl
              (told_all stage s.c others before) (told_replies stage s.c others before);
          waiting = ap (λ (q : List Packet). told_all stage s.c others before ++ q) (back.sends d None is_back);
          tame = tame;
          later = later;
        })
        (subst (λ (t : Stamp). stamp_below lore.at.floor t ≡ true) same lore.at_below)
        (subst (λ (t : Stamp). total_below stage.old t back.xs ≤ total_below stage.old (floor_of stage.call.view.0) back.xs) same (omega arith))
        (omega (arith, early));
  }
