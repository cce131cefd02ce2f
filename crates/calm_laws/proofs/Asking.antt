-- A phase's requests are delivered before any reply to them.
use Rattle.std.proofs.Common.{Bool, List, None, Option, Some, [], ap, cond, inl, inr, map, refl, subst, sym, ℕ, ⊎_elim, ◌++◌, ◌∙◌, ◌∷◌, ◌≡◌, ◌≢◌, ◌⊎◌}
use Rattle.std.proofs.lemmas.Bool.{cases_eq, eq-eqb, ne_eqb}
use Rattle.std.proofs.lemmas.List.{append-nil, append_assoc}
use Rattle.calm_laws.proofs.Scenes.{asked_of, Asks, Closes, Each, Fits, IsSeated, Part, Scene, Seated, Stage, asked, asking, part_after, reaction, replies_from, replying, with_queue, IsInView}
use Rattle.fab_base.specs.declared.identities.BrickId.{BrickId}
use Rattle.messages.specs.declared.calls.Call.{Call}
use Rattle.messages.specs.declared.packets.Packet.{Packet}
use Rattle.messages.specs.declared.replies.Reply.{Reply}
use Rattle.protocol.specs.Coordinators.{Coordinator}
use Rattle.protocol.specs.Views.{view_told}
use Rattle.protocol.specs.Nodes.{full_at, put, reply_packets}
use Rattle.calm_laws.proofs.Telling.{TeachesNone, handle_teaches_none}
use Rattle.protocol.proofs.Tables.{put_same}
use Rattle.quorum.specs.Tallies.{fits}

-- the parts after these members were asked, in order
abbrev pub reacted_all : Stage → Coordinator → List Seated → (ℕ → Part) → ℕ → Part
reacted_all stage c [] parts = parts
reacted_all stage c (x ∷ xs) parts = reacted_all stage c xs (put parts x.brick.0 (part_after stage c (parts x.brick.0) x))

-- and what they replied
abbrev pub told_all : Stage → Coordinator → List Seated → (ℕ → Part) → List Packet
told_all stage c [] parts = []
told_all stage c (x ∷ xs) parts =
    replies_from stage c (parts x.brick.0) x ++ told_all stage c xs (put parts x.brick.0 (part_after stage c (parts x.brick.0) x))

-- all requests are delivered, one after another, and the replies follow what was waiting
pub asks_pass : (stage : Stage) (xs : List Seated) (s : Scene) (rest : List Packet) → s.queue ≡ map (asking stage s.c) xs ++ rest
    → Each (IsSeated stage) xs → ((x : Seated) → IsSeated stage x → Fits stage s.c x) → IsInView stage s.c
    → Closes stage (record s { parts = reacted_all stage s.c xs s.parts; queue = rest ++ told_all stage s.c xs s.parts }) → Closes stage s
asks_pass stage [] s rest is seated fits in_view closes =
    with_queue stage s rest is (subst (λ (q : List Packet). Closes stage (record s { queue = q })) (append-nil rest) closes)
asks_pass stage (x ∷ xs) s rest is seated fits in_view closes =
    Asks s x (map (asking stage s.c) xs ++ rest) is seated.0 (fits x seated.0) in_view
    (asks_pass stage xs (asked stage s x (map (asking stage s.c) xs ++ rest)) (rest ++ replies_from stage s.c (s.parts x.brick.0) x)
    (append_assoc (map (asking stage s.c) xs) rest (replies_from stage s.c (s.parts x.brick.0) x)) seated.1 fits in_view
    (subst (λ (q : List Packet). Closes stage (record s { parts = reacted_all stage s.c (x ∷ xs) s.parts; queue = q }))
    (sym (append_assoc rest (replies_from stage s.c (s.parts x.brick.0) x)
    (told_all stage s.c xs (put s.parts x.brick.0 (part_after stage s.c (s.parts x.brick.0) x))))) closes))

-- another brick's part, or the changed one
pub put_cases : {A : Type 0} (f : ℕ → A) (k : ℕ) (v : A) (i : ℕ) → ((i ≡ k) × (put f k v i ≡ v)) ⊎ (put f k v i ≡ f i)
put_cases f k v i = ⊎_elim
    (λ (same : i ≡ k). inl (same, ap (λ (b : Bool). cond b v (f i)) (eq-eqb i k same)))
    (λ (other : i ≢ k). inr (ap (λ (b : Bool). cond b v (f i)) (ne_eqb i k other)))
    (cases_eq i k)

-- a fact about brick i's part that no request of this phase ends
abbrev pub Keeps : Stage → Coordinator → (ℕ → Part → Type 0) → Type 0
Keeps stage c Inv = (i : ℕ) (y : Seated) (part : Part) → Inv i part → Inv i (part_after stage c part y)

-- one request keeps it
one_keeps : (stage : Stage) (c : Coordinator) (Inv : ℕ → Part → Type 0) → Keeps stage c Inv → (y : Seated) (parts : ℕ → Part) (i : ℕ)
    → Inv i (parts i) → Inv i (put parts y.brick.0 (part_after stage c (parts y.brick.0) y) i)
one_keeps stage c Inv keeps y parts i holds = ⊎_elim
    (λ (here : (i ≡ y.brick.0) × (put parts y.brick.0 (part_after stage c (parts y.brick.0) y) i ≡ part_after stage c (parts y.brick.0) y)).
    subst (λ (p : Part). Inv i p) (sym here.1)
    (subst (λ (k : ℕ). Inv i (part_after stage c (parts k) y)) here.0 (keeps i y (parts i) holds)))
    (λ (other : put parts y.brick.0 (part_after stage c (parts y.brick.0) y) i ≡ parts i). subst (λ (p : Part). Inv i p) (sym other) holds)
    (put_cases parts y.brick.0 (part_after stage c (parts y.brick.0) y) i)

-- all requests keep it
pub all_keep : (stage : Stage) (c : Coordinator) (Inv : ℕ → Part → Type 0) → Keeps stage c Inv → (ys : List Seated) (parts : ℕ → Part) (i : ℕ)
    → Inv i (parts i) → Inv i (reacted_all stage c ys parts i)
all_keep stage c Inv keeps [] parts i holds = holds
all_keep stage c Inv keeps (y ∷ ys) parts i holds =
    all_keep stage c Inv keeps ys (put parts y.brick.0 (part_after stage c (parts y.brick.0) y)) i (one_keeps stage c Inv keeps y parts i holds)

-- what is so of all is so of each of a list
pub each_so : {A : Type 0} (P : A → Type 0) → ((x : A) → P x) → (xs : List A) → Each P xs
each_so P all [] = tt
each_so P all (x ∷ xs) = (all x, each_so P all xs)

-- what follows of each
pub each_then : {A : Type 0} (P Q : A → Type 0) (xs : List A) → ((x : A) → P x → Q x) → Each P xs → Each Q xs
each_then P Q [] then each = tt
each_then P Q (x ∷ xs) then each = (then x each.0, each_then P Q xs then each.1)

-- the fact at each of these members
abbrev pub Holds : (ℕ → Part → Type 0) → (ℕ → Part) → List Seated → Type 0
Holds Inv parts xs = Each (λ x. Inv x.brick.0 (parts x.brick.0)) xs

pub holds_on : (stage : Stage) (c : Coordinator) (Inv : ℕ → Part → Type 0) → Keeps stage c Inv → (xs ys : List Seated) (parts : ℕ → Part)
    → Holds Inv parts xs → Holds Inv (reacted_all stage c ys parts) xs
holds_on stage c Inv keeps xs ys parts holds =
    each_then (λ (x : Seated). Inv x.brick.0 (parts x.brick.0)) (λ (x : Seated). Inv x.brick.0 (reacted_all stage c ys parts x.brick.0)) xs
    (λ x h. all_keep stage c Inv keeps ys parts x.brick.0 h) holds

-- a request to a member of which the one fact holds gives the other
abbrev pub Gives : Stage → Coordinator → (ℕ → Part → Type 0) → (ℕ → Part → Type 0) → Type 0
Gives stage c Inv After = (x : Seated) (part : Part) → Inv x.brick.0 part → After x.brick.0 (part_after stage c part x)

-- so once all were asked it holds of all
pub all_given : (stage : Stage) (c : Coordinator) (Inv After : ℕ → Part → Type 0) → Keeps stage c Inv → Keeps stage c After → Gives stage c Inv After
    → (xs : List Seated) (parts : ℕ → Part) → Holds Inv parts xs → Holds After (reacted_all stage c xs parts) xs
all_given stage c Inv After keeps after_keeps gives [] parts holds = tt
all_given stage c Inv After keeps after_keeps gives (x ∷ xs) parts holds = (
  all_keep stage c After after_keeps xs next x.brick.0
      (subst (λ (p : Part). After x.brick.0 p) (sym (put_same parts x.brick.0 (part_after stage c (parts x.brick.0) x)))
      (gives x (parts x.brick.0) holds.0)),
  all_given stage c Inv After keeps after_keeps gives xs next
      (each_then (λ (y : Seated). Inv y.brick.0 (parts y.brick.0)) (λ (y : Seated). Inv y.brick.0 (next y.brick.0)) xs
      (λ y h. one_keeps stage c Inv keeps x parts y.brick.0 h) holds.1),
)
  where
    next : ℕ → Part
    next = put parts x.brick.0 (part_after stage c (parts x.brick.0) x)

-- what a member replies is told by the fact about its part
abbrev pub Replies : Stage → Coordinator → (ℕ → Part → Type 0) → (Seated → Reply) → Type 0
Replies stage c Inv f = (x : Seated) (part : Part) → Inv x.brick.0 part → (reaction stage c part x).reply ≡ Some (f x)

-- so what they all reply is known
pub told_exactly : (stage : Stage) (c : Coordinator) (Inv : ℕ → Part → Type 0) (f : Seated → Reply) → Keeps stage c Inv → Replies stage c Inv f
    → (xs : List Seated) (parts : ℕ → Part) → Holds Inv parts xs
    → told_all stage c xs parts ≡ map (λ x. replying stage x.brick c.call (f x)) xs
told_exactly stage c Inv f keeps replies [] parts holds = refl
told_exactly stage c Inv f keeps replies (x ∷ xs) parts holds =
    ap (λ (z : Option Reply). reply_packets x.brick stage.me c.call z ++ told_all stage c xs next) (replies x (parts x.brick.0) holds.0)
    ∙ ap (λ (ps : List Packet). replying stage x.brick c.call (f x) ∷ ps)
    (told_exactly stage c Inv f keeps replies xs next
    (each_then (λ (y : Seated). Inv y.brick.0 (parts y.brick.0)) (λ (y : Seated). Inv y.brick.0 (next y.brick.0)) xs
    (λ y h. one_keeps stage c Inv keeps x parts y.brick.0 h) holds.1))
  where
    next : ℕ → Part
    next = put parts x.brick.0 (part_after stage c (parts x.brick.0) x)

-- a packet is some reply under this call, which teaches no view
abbrev pub IsReply : Stage → Call → Packet → Type 0
IsReply stage call packet = (from : BrickId) × (reply : Reply) × (packet ≡ replying stage from call reply) × (view_told reply ≡ None)

pub each_append : {A : Type 0} (P : A → Type 0) (xs ys : List A) → Each P xs → Each P ys → Each P (xs ++ ys)
each_append P [] ys left right = right
each_append P (x ∷ xs) ys left right = (left.0, each_append P xs ys left.1 right)

-- what a member replies teaches no view
pub reaction_teaches : (stage : Stage) (c : Coordinator) (part : Part) (x : Seated) → TeachesNone (reaction stage c part x).reply
reaction_teaches stage c part x =
    handle_teaches_none stage.setting.code stage.group.m (full_at stage.setting.layout.records part.live) x.seat part.replica (asked_of stage c x)

-- what members reply are replies
pub told_replies : (stage : Stage) (c : Coordinator) (xs : List Seated) (parts : ℕ → Part) → Each (IsReply stage c.call) (told_all stage c xs parts)
told_replies stage c [] parts = tt
told_replies stage c (x ∷ xs) parts =
    each_append (IsReply stage c.call) (replies_from stage c (parts x.brick.0) x)
    (told_all stage c xs (put parts x.brick.0 (part_after stage c (parts x.brick.0) x)))
    (one (reaction stage c (parts x.brick.0) x).reply (reaction_teaches stage c (parts x.brick.0) x))
    (told_replies stage c xs (put parts x.brick.0 (part_after stage c (parts x.brick.0) x)))
  where
    one : (z : Option Reply) → TeachesNone z → Each (IsReply stage c.call) (reply_packets x.brick stage.me c.call z)
    one None none = tt
    one (Some reply) none = ((x.brick, reply, refl, none reply refl), tt)
