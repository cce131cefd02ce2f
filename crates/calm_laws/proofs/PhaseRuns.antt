-- A phase alone: what is left of earlier phases is left out, each member is asked, and the first quorum of them decides.
use Rattle.fab_base.specs.Layouts.{seat_in, Group}
use Rattle.std.proofs.Common.{None, List, [], ap, ap₂, arith, false, length, map, refl, subst, sym, true, zero-add, ℕ, ◌++◌, ◌+◌, ◌<◌, ◌∙◌, ◌∷◌, ◌≡◌, ◌≤◌, Some, Option, inl}
use Rattle.std.specs.Prelude.{◌-◌, ◌^◌}
use Rattle.calm_laws.proofs.Asking.{Gives, Holds, IsReply, Keeps, Replies, all_given, asks_pass, each_then, holds_on, reacted_all, reaction_teaches, told_all, told_exactly, told_replies, each_append}
use Rattle.calm_laws.proofs.Counts.{AreNew, Carries, counted_of, decides, new_from, replies_pass, told}
use Rattle.calm_laws.proofs.Hearing.{IsStale, known_through, stale_pass}
use Rattle.calm_laws.proofs.Queues.{waiting}
use Rattle.calm_laws.proofs.Scenes.{Closes, Each, Fits, IsSeated, Part, SameCall, Scene, Seated, Stage, asking, heard, sends, AreApart, IsInView, asks_own, IsOf, of_same, IsForAll, quorum_needed}
use Rattle.messages.specs.declared.packets.Packet.{Packet}
use Rattle.messages.specs.declared.replies.Reply.{Reply}
use Rattle.protocol.specs.Coordinators.{Coordinator, answers_phase, has_seat, looks_back, may_count, asks_each, needed, may_count_in}
use Rattle.protocol.specs.Views.{view_told}
use Rattle.protocol.specs.declared.phases.Counted.{Counted}
use Rattle.quorum.specs.Quorums.{quorum_of}
use Rattle.calm_laws.proofs.Beginnings.{map_append}
use Rattle.std.proofs.lemmas.List.{append_assoc}
use Rattle.protocol.specs.declared.phases.Phase.{Phase}
use Rattle.fab_base.specs.declared.identities.BrickId.{BrickId}

-- A phase begins at these seats, as many as it needs, which may count: nothing counts yet; what is asked can be stored; and of the part of each seat something holds that each
-- request keeps, and that tells what is replied, which answers the phase.
pub record HasBegun (stage : Stage) (s : Scene) (Inv : ℕ → Part → Type 0) (f : Seated → Reply) (xs : List Seated) : Type 0 where
  pub in_view : IsInView stage s.c
  pub counted : s.c.counted ≡ []
  pub early : s.c.call.phase < 2 ^ 32 - 1
  pub fits : (x : Seated) → IsSeated stage x → Fits stage s.c x
  pub seated : Each (IsSeated stage) xs
  pub apart : AreApart xs
  pub some : 1 ≤ length xs
  pub needs : length xs ≡ needed s.c
  pub may : Each (λ x. may_count s.c x.brick.0 ≡ true) xs
  pub keeps : Keeps stage s.c Inv
  pub replies : Replies stage s.c Inv f
  pub holds : Holds Inv s.parts xs
  pub answers : Each (λ x. answers_phase stage.setting.layout.block s.c.stamp x.seat s.c.phase (f x) ≡ true) xs

-- the time that the coordinator's brick knows once the quorum has replied
abbrev pub known_then : Stage → Scene → (Seated → Reply) → List Seated → List Packet → ℕ
known_then stage s f xs stale = known_through (told stage s.c.call f xs) (known_through stale s.known)

-- nothing counts yet
pub none_new : (xs : List Seated) → Each (λ x. has_seat x.seat [] ≡ false) xs
none_new [] = tt
none_new (x ∷ xs) = (refl, none_new xs)

-- where these seats' replies are heard, by what holds of the parts then
abbrev pub HeardBy : Stage → Scene → ((ℕ → Part) → Type 0) → (Seated → Reply) → List Seated → List Packet → List Seated → Type 0
HeardBy stage s Then f xs stale others =
    (before parts : ℕ → Part) → Then parts
    → Carries stage (record s { known = known_then stage s f xs stale; parts = parts; queue = told_all stage s.c others before })
    (decides stage s.c (known_then stage s f xs stale) (map (counted_of f) xs))

-- by what holds of their parts
abbrev pub Heard : Stage → Scene → (ℕ → Part → Type 0) → (Seated → Reply) → List Seated → List Packet → List Seated → Type 0
Heard stage s After f xs stale others = HeardBy stage s (λ parts. Holds After parts xs) f xs stale others

module _ (stage : Stage) (s : Scene) (Inv : ℕ → Part → Type 0) (Then : (ℕ → Part) → Type 0) (f : Seated → Reply) (xs : List Seated)
    (begins : HasBegun stage s Inv f xs) (stale : List Packet) (others : List Seated)
    (comes : Then (reacted_all stage s.c others (reacted_all stage s.c xs s.parts))) (heard : HeardBy stage s Then f xs stale others) where
  -- the parts once the quorum was asked, and once all were
  abbrev asked_parts : ℕ → Part
  asked_parts = reacted_all stage s.c xs s.parts

  abbrev all_parts : ℕ → Part
  all_parts = reacted_all stage s.c others asked_parts

  -- what the quorum replies teaches no view
  plain : Each (λ x. view_told (f x) ≡ None) xs
  plain =
      each_then (λ (x : Seated). Inv x.brick.0 (s.parts x.brick.0)) (λ (x : Seated). view_told (f x) ≡ None) xs
      (λ x held. reaction_teaches stage s.c (s.parts x.brick.0) x (f x) (begins.replies x (s.parts x.brick.0) held)) begins.holds

  -- the quorum's replies wait, and then those of the others
  replies_wait : Closes stage
      (record s { known = known_through stale s.known; parts = all_parts; queue = told stage s.c.call f xs ++ told_all stage s.c others asked_parts })
  replies_wait =
      replies_pass stage stage.group f xs
      (record s { known = known_through stale s.known; parts = all_parts; queue = told stage s.c.call f xs ++ told_all stage s.c others asked_parts })
      (told_all stage s.c others asked_parts) refl begins.early
      begins.may (asks_own stage s.c begins.in_view)
      (each_then (IsSeated stage) (λ (x : Seated). seat_in stage.group.members x.brick.0 ≡ Some x.seat) xs (λ x seated. seated.0) begins.seated) begins.answers plain
      (subst (λ (l : List Counted). AreNew f l xs) (sym begins.counted) (new_from f [] xs begins.apart (none_new xs)))
      begins.some (ap (λ (l : List Counted). length l + length xs) begins.counted ∙ zero-add (length xs) ∙ begins.needs)
      (subst (λ (l : List Counted). Carries stage
      (record s { known = known_then stage s f xs stale; parts = all_parts; queue = told_all stage s.c others asked_parts })
      (decides stage s.c (known_then stage s f xs stale) (l ++ map (counted_of f) xs))) (sym begins.counted)
      (heard asked_parts all_parts comes))

  -- the requests wait
  requests_wait : Each (IsSeated stage) others
      → Closes stage (record s { known = known_through stale s.known; queue = map (asking stage s.c) xs ++ map (asking stage s.c) others })
  requests_wait seated =
      asks_pass stage xs (record s { known = known_through stale s.known; queue = map (asking stage s.c) xs ++ map (asking stage s.c) others })
      (map (asking stage s.c) others) refl begins.seated begins.fits begins.in_view
      (asks_pass stage others
      (record s { known = known_through stale s.known; parts = asked_parts; queue = map (asking stage s.c) others ++ told_all stage s.c xs s.parts })
      (told_all stage s.c xs s.parts) refl seated begins.fits begins.in_view
      (subst (λ (l : List Packet). Closes stage
      (record s { known = known_through stale s.known; parts = all_parts; queue = l ++ told_all stage s.c others asked_parts }))
      (sym (told_exactly stage s.c Inv f begins.keeps begins.replies xs s.parts begins.holds)) replies_wait))

  -- the phase runs to its decision
  pub phase_run : s.queue ≡ stale ++ (map (asking stage s.c) xs ++ map (asking stage s.c) others) → Each (IsStale stage s.c) stale
      → Each (IsSeated stage) others → Closes stage s
  phase_run waiting old seated =
      stale_pass stage stale s (map (asking stage s.c) xs ++ map (asking stage s.c) others) waiting old (requests_wait seated)

-- The members that hear the coordinator, in the order of seats: those that a phase for each counts, the first quorum of which count in any other; and the rest.
pub record Cast (stage : Stage) : Type 0 where
  pub xs : List Seated
  pub rest : List Seated
  pub counts : xs ≡ stage.quorum
  pub seated : Each (IsSeated stage) xs
  pub rest_seated : Each (IsSeated stage) rest
  pub apart : AreApart xs
  pub some : 1 ≤ length xs
  pub needs : (d : Coordinator) → IsInView stage d → IsForAll stage d.phase → length xs ≡ needed d
  pub may : (phase : Phase) → Each (λ x. may_count_in phase stage.only x.brick.0 ≡ true) xs
  pub first : List Seated
  pub more : List Seated
  pub split : first ++ more ≡ xs
  pub first_apart : AreApart first
  pub first_some : 1 ≤ length first
  pub first_quorum : length first ≡ quorum_of stage.group
  pub sends : (d : Coordinator) → IsInView stage d → sends stage d ≡ map (asking stage d) xs ++ map (asking stage d) rest

-- A phase begins: nothing counts yet, and what waits are replies to earlier phases, and requests, first to the first quorum.
pub record IsOpen (stage : Stage) (cast : Cast stage) (s : Scene) : Type 0 where
  pub in_view : IsInView stage s.c
  pub counted : s.c.counted ≡ []
  pub stale : List Packet
  pub old : Each (IsStale stage s.c) stale
  pub others : List Seated
  pub others_seated : Each (IsSeated stage) others
  pub waiting : s.queue ≡ stale ++ (map (asking stage s.c) cast.xs ++ map (asking stage s.c) others)

-- what holds of the first of some holds of these
pub each_front : {A : Type 0} (P : A → Type 0) (xs ys : List A) → Each P (xs ++ ys) → Each P xs
each_front P [] ys each = tt
each_front P (x ∷ xs) ys each = (each.0, each_front P xs ys each.1)

each_behind : {A : Type 0} (P : A → Type 0) (xs ys : List A) → Each P (xs ++ ys) → Each P ys
each_behind P [] ys each = each
each_behind P (x ∷ xs) ys each = each_behind P xs ys each.1

-- so of the first quorum
pub of_first : (stage : Stage) (cast : Cast stage) (P : Seated → Type 0) → Each P cast.xs → Each P cast.first
of_first stage cast P each = each_front P cast.first cast.more (subst (λ (l : List Seated). Each P l) (sym cast.split) each)

of_more : (stage : Stage) (cast : Cast stage) (P : Seated → Type 0) → Each P cast.xs → Each P cast.more
of_more stage cast P each = each_behind P cast.first cast.more (subst (λ (l : List Seated). Each P l) (sym cast.split) each)

-- they may count
may_all : (stage : Stage) (cast : Cast stage) (c : Coordinator) → IsInView stage c → Each (λ x. may_count c x.brick.0 ≡ true) cast.xs
may_all stage cast c in_view =
    subst (λ (only : Option (List BrickId)). Each (λ x. may_count_in c.phase only x.brick.0 ≡ true) cast.xs) (sym in_view.of.only) (cast.may c.phase)

-- an open phase that a quorum decides runs to its decision by what the first quorum replies, and what the requests keep they keep
pub open_run_first : (stage : Stage) (cast : Cast stage) (s : Scene) (open_is : IsOpen stage cast s) → asks_each s.c.phase ≡ false
    → (Inv : ℕ → Part → Type 0) (f : Seated → Reply) → s.c.call.phase < 2 ^ 32 - 1 → ((x : Seated) → IsSeated stage x → Fits stage s.c x)
    → Keeps stage s.c Inv → Replies stage s.c Inv f → Holds Inv s.parts cast.xs
    → Each (λ x. answers_phase stage.setting.layout.block s.c.stamp x.seat s.c.phase (f x) ≡ true) cast.first
    → HeardBy stage s (λ parts. Holds Inv parts cast.xs) f cast.first open_is.stale (cast.more ++ open_is.others) → Closes stage s
open_run_first stage cast s open_is isnt Inv f early fits keeps replies holds answers heard =
    phase_run stage s Inv (λ parts. Holds Inv parts cast.xs) f cast.first
    (record {
      in_view = open_is.in_view;
      counted = open_is.counted;
      early = early;
      fits = fits;
      seated = of_first stage cast (IsSeated stage) cast.seated;
      apart = cast.first_apart;
      some = cast.first_some;
      needs = cast.first_quorum ∙ ap (λ (g : Group). quorum_of g) (sym (asks_own stage s.c open_is.in_view)) ∙ sym (quorum_needed s.c (inl isnt));
      may = of_first stage cast (λ x. may_count s.c x.brick.0 ≡ true) (may_all stage cast s.c open_is.in_view);
      keeps = keeps;
      replies = replies;
      holds = of_first stage cast (λ x. Inv x.brick.0 (s.parts x.brick.0)) holds;
      answers = answers;
    })
    open_is.stale (cast.more ++ open_is.others)
    (holds_on stage s.c Inv keeps cast.xs (cast.more ++ open_is.others) (reacted_all stage s.c cast.first s.parts)
    (holds_on stage s.c Inv keeps cast.xs cast.first s.parts holds))
    heard
    (open_is.waiting
    ∙ ap (λ (l : List Packet). open_is.stale ++ l)
    (ap (λ (l : List Seated). map (asking stage s.c) l ++ map (asking stage s.c) open_is.others) (sym cast.split)
    ∙ ap (λ (l : List Packet). l ++ map (asking stage s.c) open_is.others) (map_append (asking stage s.c) cast.first cast.more)
    ∙ append_assoc (map (asking stage s.c) cast.first) (map (asking stage s.c) cast.more) (map (asking stage s.c) open_is.others)
    ∙ ap (λ (l : List Packet). map (asking stage s.c) cast.first ++ l) (sym (map_append (asking stage s.c) cast.more open_is.others))))
    open_is.old (each_append (IsSeated stage) cast.more open_is.others (of_more stage cast (IsSeated stage) cast.seated) open_is.others_seated)

-- an open phase runs to its decision, by what the requests give
pub open_run_to : (stage : Stage) (cast : Cast stage) (s : Scene) (open_is : IsOpen stage cast s) → IsForAll stage s.c.phase → (Inv After : ℕ → Part → Type 0) (f : Seated → Reply)
    → s.c.call.phase < 2 ^ 32 - 1 → ((x : Seated) → IsSeated stage x → Fits stage s.c x) → Keeps stage s.c Inv → Replies stage s.c Inv f
    → Keeps stage s.c After → Gives stage s.c Inv After → Holds Inv s.parts cast.xs
    → Each (λ x. answers_phase stage.setting.layout.block s.c.stamp x.seat s.c.phase (f x) ≡ true) cast.xs
    → Heard stage s After f cast.xs open_is.stale open_is.others → Closes stage s
open_run_to stage cast s open_is all Inv After f early fits keeps replies after_keeps gives holds answers heard =
    phase_run stage s Inv (λ parts. Holds After parts cast.xs) f cast.xs
    (record {
      in_view = open_is.in_view;
      counted = open_is.counted;
      early = early;
      fits = fits;
      seated = cast.seated;
      apart = cast.apart;
      some = cast.some;
      needs = cast.needs s.c open_is.in_view all;
      may = may_all stage cast s.c open_is.in_view;
      keeps = keeps;
      replies = replies;
      holds = holds;
      answers = answers;
    })
    open_is.stale open_is.others
    (holds_on stage s.c After after_keeps cast.xs open_is.others (reacted_all stage s.c cast.xs s.parts)
    (all_given stage s.c Inv After keeps after_keeps gives cast.xs s.parts holds))
    heard open_is.waiting open_is.old open_is.others_seated

-- and by what they keep
pub open_run : (stage : Stage) (cast : Cast stage) (s : Scene) (open_is : IsOpen stage cast s) → IsForAll stage s.c.phase → (Inv : ℕ → Part → Type 0) (f : Seated → Reply)
    → s.c.call.phase < 2 ^ 32 - 1 → ((x : Seated) → IsSeated stage x → Fits stage s.c x) → Keeps stage s.c Inv → Replies stage s.c Inv f
    → Holds Inv s.parts cast.xs
    → Each (λ x. answers_phase stage.setting.layout.block s.c.stamp x.seat s.c.phase (f x) ≡ true) cast.xs
    → Heard stage s Inv f cast.xs open_is.stale open_is.others → Closes stage s
open_run stage cast s open_is all Inv f early fits keeps replies holds answers heard =
    open_run_to stage cast s open_is all Inv Inv f early fits keeps replies keeps (λ x part held. keeps x.brick.0 x part held) holds answers heard

-- a coordinator begins the phase after another, in its own view
pub record IsAfter (c d : Coordinator) : Type 0 where
  pub same : SameCall c d
  pub ahead : looks_back d.phase ≡ false
  pub own : d.call.view ≡ d.stamp.view
  pub later : d.call.phase ≡ c.call.phase + 1
  pub counted : d.counted ≡ []

-- replies to the phase before are stale
pub stale_then : (stage : Stage) (c d : Coordinator) → SameCall c d → d.call.phase ≡ c.call.phase + 1 → (packets : List Packet)
    → Each (IsReply stage c.call) packets → Each (IsStale stage d) packets
stale_then stage c d same later packets replies =
    each_then (IsReply stage c.call) (IsStale stage d) packets
    (λ packet is. (is.0, c.call, is.1, is.2, sym same.boot, sym same.seq, omega (arith, later), is.3)) replies

-- the next phase begins, while replies to the last one wait
pub next_open_from : (stage : Stage) (cast : Cast stage) (c d : Coordinator) (left : List Packet) (s : Scene) → IsOf stage c → IsAfter c d
    → Each (IsReply stage c.call) left → s.c ≡ d → s.queue ≡ left ++ sends stage d → IsOpen stage cast s
next_open_from stage cast c d left s of after replies is waiting =
    subst (λ (z : Scene). IsOpen stage cast z) (sym scene_is) (record {
      in_view = next_view;
      counted = after.counted;
      stale = left;
      old = stale_then stage c d after.same after.later left replies;
      others = cast.rest;
      others_seated = cast.rest_seated;
      waiting = ap (λ (q : List Packet). left ++ q) (cast.sends d next_view);
    })
  where
    next_view : IsInView stage d
    next_view = record { of = of_same stage c d after.same of; ahead = after.ahead; own = after.own }

    scene_is : s ≡ record s { c = d; queue = left ++ sends stage d }
    scene_is = ap₂ (λ (e : Coordinator) (q : List Packet). record s { c = e; queue = q }) is waiting

-- the same, where its other members were asked last
pub next_open : (stage : Stage) (cast : Cast stage) (c d : Coordinator) (others : List Seated) (before : ℕ → Part) (s : Scene)
    → IsInView stage c → IsAfter c d → s.c ≡ d → s.queue ≡ told_all stage c others before ++ sends stage d → IsOpen stage cast s
next_open stage cast c d others before s in_view after is waiting =
    next_open_from stage cast c d (told_all stage c others before) s in_view.of after (told_replies stage c others before) is waiting
