-- The first replies to a phase count, and the last of them decides it.
use Rattle.std.proofs.Common.{Bool, List, None, Option, Some, [], ap, arith, cond, false, length, map, refl, subst, sym, true, ℕ, ◌&&◌, ◌++◌, ◌+◌, ◌<◌, ◌||◌, ◌∙◌, ◌∷◌, ◌≡◌, ◌≤◌}
use Rattle.std.proofs.lemmas.Bool.{or_from, or_parts}
use Rattle.std.proofs.lemmas.Bool.Decides.{nat_tests}
use Rattle.std.proofs.lemmas.List.{append_assoc, length-append}
use Rattle.std.specs.Prelude.{nat_eq, nat_lt, ◌-◌, ◌^◌}
use Rattle.calm_laws.proofs.Hearing.{known_through}
use Rattle.calm_laws.proofs.Scenes.{Closes, Each, Outcome, SameCall, Scene, Seated, Stage, decision, heard, hears, made, replying, sent, waits, AreApart, EndsAt}
use Rattle.fab_base.specs.Layouts.{Group, seat_in}
use Rattle.fab_base.specs.declared.stamps.Stamp.{Stamp}
use Rattle.messages.specs.declared.calls.Call.{Call}
use Rattle.messages.specs.declared.packets.Packet.{Packet}
use Rattle.messages.specs.declared.replies.Reply.{Reply}
use Rattle.protocol.specs.Calms.{early}
use Rattle.protocol.specs.Coordinators.{Coordinator, Ends, Ignores, Makes, Next, Sends, Waits, answering_seat, answers_phase, call_same, counted_at, counts_at, decided, has_seat, new_seat, on_reply, once_full, asked_group, needed, may_count, counting_seat}
use Rattle.protocol.specs.Views.{view_told}
use Rattle.protocol.specs.Nodes.{fresh_stamp, known_after}
use Rattle.protocol.specs.Replicas.{stored}
use Rattle.protocol.specs.Settings.{Code}
use Rattle.protocol.specs.Worlds.{is_answer}
use Rattle.protocol.specs.declared.phases.Counted.{Counted}

-- the reply of a member, as it counts
abbrev pub counted_of : (Seated → Reply) → Seated → Counted
counted_of f x = record { seat = x.seat; brick = x.brick; reply = f x }

-- none of these members has a reply that counts, nor does one have it once those before it have theirs
abbrev pub AreNew : (Seated → Reply) → List Counted → List Seated → Type 0
AreNew f counted [] = Unit {0}
AreNew f counted (x ∷ xs) = (has_seat x.seat counted ≡ false) × AreNew f (counted ++ (counted_of f x ∷ [])) xs

-- one more reply, of another seat
has_more : (k : ℕ) (counted : List Counted) (x : Counted) → has_seat k counted ≡ false → nat_eq x.seat k ≡ false
    → has_seat k (counted ++ (x ∷ [])) ≡ false
has_more k [] x isnt other = ap (λ (b : Bool). b || false) other
has_more k (y ∷ counted) x isnt other =
    let parts = or_parts (nat_eq y.seat k) (has_seat k counted) isnt in
    or_from (nat_eq y.seat k) (has_seat k (counted ++ (x ∷ []))) parts.0 (has_more k counted x parts.1 other)

pub new_from : (f : Seated → Reply) (counted : List Counted) (xs : List Seated) → AreApart xs → Each (λ x. has_seat x.seat counted ≡ false) xs
    → AreNew f counted xs
new_from f counted [] apart unseen = tt
new_from f counted (x ∷ xs) apart unseen = (
  unseen.0,
  new_from f (counted ++ (counted_of f x ∷ [])) xs apart.1 (both xs apart.0 unseen.1),
)
  where
    both : (ys : List Seated) → Each (λ y. nat_eq x.seat y.seat ≡ false) ys → Each (λ y. has_seat y.seat counted ≡ false) ys
        → Each (λ y. has_seat y.seat (counted ++ (counted_of f x ∷ [])) ≡ false) ys
    both [] other unseen = tt
    both (y ∷ ys) other unseen = (has_more y.seat counted (counted_of f x) unseen.0 other.0, both ys other.1 unseen.1)

-- what is left to show, where a coordinator decided this of a quorum's replies
abbrev pub Carries : Stage → Scene → Next → Type 0
Carries stage s Ignores = ⊥
Carries stage s (Waits d) = SameCall s.c d × Closes stage (waits s d)
Carries stage s (Sends d) = SameCall s.c d × Closes stage (sent stage s d)
Carries stage s (Makes d) = SameCall s.c d × Closes stage (made stage s d)
Carries stage s (Ends answer seen stored) = (is_answer answer ≡ true) × EndsAt stage s.c.phase s.c.stamp s.parts seen stored

same_counted : (c d : Coordinator) (counted : List Counted) → SameCall c d → SameCall (record c { counted = counted }) d
same_counted c d counted same =
    record { group = same.group; prior = same.prior; only = same.only; boot = same.boot; seq = same.seq; of_group = same.of_group; view = same.view; stripe = same.stripe }

-- it is the same for a coordinator that counted other replies
carries_counted : (stage : Stage) (s : Scene) (counted : List Counted) (next : Next) → Carries stage s next
    → Carries stage (record s { c = record s.c { counted = counted } }) next
carries_counted stage s counted Ignores then = then
carries_counted stage s counted (Waits d) then = (same_counted s.c d counted then.0, then.1)
carries_counted stage s counted (Sends d) then = (same_counted s.c d counted then.0, then.1)
carries_counted stage s counted (Makes d) then = (same_counted s.c d counted then.0, then.1)
carries_counted stage s counted (Ends answer seen stored) then = then

carries_outcome : (stage : Stage) (s : Scene) (next : Next) → Carries stage s next → Outcome stage s next
carries_outcome stage s Ignores then = absurd then
carries_outcome stage s (Waits d) then = then
carries_outcome stage s (Sends d) then = then
carries_outcome stage s (Makes d) then = then
carries_outcome stage s (Ends answer seen stored) then = then

-- the stamp of a new round, at this known time
abbrev pub fresh_at : Stage → Coordinator → ℕ → Option Stamp
fresh_at stage c known = fresh_stamp stage.me c.stamp.view stage.now c.call.boot known

-- what a coordinator decides of these replies
abbrev pub decides : Stage → Coordinator → ℕ → List Counted → Next
decides stage c known counted =
    decided stage.setting.layout.block stage.setting.code (fresh_at stage c known) (record c { counted = counted })

-- a call is the same as itself
call_itself : (a : Call) → call_same a a ≡ true
unfolding call_same
call_itself a = grind (arith, nat_tests)

-- a reply that may count, and answers the phase, counts
counts : (block : ℕ) (c : Coordinator) (from seat : ℕ) (reply : Reply) → c.call.phase < 2 ^ 32 - 1 → may_count c from ≡ true
    → seat_in (asked_group c).members from ≡ Some seat → answers_phase block c.stamp seat c.phase reply ≡ true → has_seat seat c.counted ≡ false → counts_at block c from c.call reply ≡ Some seat
unfolding counts_at
counts block c from seat reply early may seated answers new =
    let low : nat_lt c.call.phase (2 ^ 32 - 1) ≡ true = grind (arith, nat_tests) in
    ap (λ (b : Bool). cond (b && nat_lt c.call.phase (2 ^ 32 - 1))
    (new_seat c.counted (answering_seat block c reply (counting_seat c from))) None) (call_itself c.call)
    ∙ ap (λ (b : Bool). cond b (new_seat c.counted (answering_seat block c reply (counting_seat c from))) None) low
    ∙ ap (λ (b : Bool). new_seat c.counted (answering_seat block c reply (cond b (seat_in (asked_group c).members from) None))) may
    ∙ ap (λ (z : Option ℕ). new_seat c.counted (answering_seat block c reply z)) seated
    ∙ ap (λ (b : Bool). new_seat c.counted (cond b (Some seat) None)) answers
    ∙ ap (λ (b : Bool). cond b None (Some seat)) new

-- what the reply of this member decides, as it counts
counts_so : (stage : Stage) (group : Group) (s : Scene) (f : Seated → Reply) (x : Seated) → s.c.call.phase < 2 ^ 32 - 1
    → may_count s.c x.brick.0 ≡ true → asked_group s.c ≡ group → seat_in group.members x.brick.0 ≡ Some x.seat → answers_phase stage.setting.layout.block s.c.stamp x.seat s.c.phase (f x) ≡ true → has_seat x.seat s.c.counted ≡ false
    → decision stage s x.brick s.c.call (f x)
    ≡ once_full stage.setting.layout.block stage.setting.code (fresh_at stage s.c (known_after s.known (f x)))
    (record s.c { counted = s.c.counted ++ (counted_of f x ∷ []) })
unfolding on_reply
counts_so stage group s f x early may is seated answers new =
    ap (λ (z : Option ℕ). counted_at stage.setting.layout.block stage.setting.code
    (fresh_at stage s.c (known_after s.known (f x))) s.c x.brick (f x) z)
    (counts stage.setting.layout.block s.c x.brick.0 x.seat (f x) early may
    (subst (λ (g : Group). seat_in g.members x.brick.0 ≡ Some x.seat) (sym is) seated) answers new)

-- with fewer than are needed it waits, and with as many it decides
waits_for : (block : ℕ) (code : Code) (fresh : Option Stamp) (c : Coordinator) → length c.counted < needed c
    → once_full block code fresh c ≡ Waits c
waits_for block code fresh c few =
    let low : nat_lt (length c.counted) (needed c) ≡ true = grind (arith, nat_tests) in
    ap (λ (b : Bool). cond b (Waits c) (decided block code fresh c)) low

decides_at : (block : ℕ) (code : Code) (fresh : Option Stamp) (c : Coordinator) → length c.counted ≡ needed c
    → once_full block code fresh c ≡ decided block code fresh c
decides_at block code fresh c many =
    let low : nat_lt (length c.counted) (needed c) ≡ false = grind (arith, nat_tests) in
    ap (λ (b : Bool). cond b (Waits c) (decided block code fresh c)) low

-- one more in the list
length_more : (counted : List Counted) (x : Counted) → length (counted ++ (x ∷ [])) ≡ length counted + 1
length_more counted x = length-append counted (x ∷ [])

-- what was told, as packets
abbrev pub told : Stage → Call → (Seated → Reply) → List Seated → List Packet
told stage call f xs = map (λ x. replying stage x.brick call (f x)) xs

-- the replies of as many members as are needed, which may count, are heard in order, and decide
pub replies_pass : (stage : Stage) (group : Group) (f : Seated → Reply) (xs : List Seated) (s : Scene) (rest : List Packet)
    → s.queue ≡ told stage s.c.call f xs ++ rest → s.c.call.phase < 2 ^ 32 - 1 → Each (λ x. may_count s.c x.brick.0 ≡ true) xs → asked_group s.c ≡ group
    → Each (λ x. seat_in group.members x.brick.0 ≡ Some x.seat) xs
    → Each (λ x. answers_phase stage.setting.layout.block s.c.stamp x.seat s.c.phase (f x) ≡ true) xs → Each (λ x. view_told (f x) ≡ None) xs
    → AreNew f s.c.counted xs
    → 1 ≤ length xs → length s.c.counted + length xs ≡ needed s.c
    → Carries stage (record s { known = known_through (told stage s.c.call f xs) s.known; queue = rest })
    (decides stage s.c (known_through (told stage s.c.call f xs) s.known) (s.c.counted ++ map (counted_of f) xs))
    → Closes stage s
replies_pass stage group f [] s rest is early may asks seated answers plain new some many then = absurd (omega arith)
replies_pass stage group f (x ∷ []) s rest is early may asks seated answers plain new some many then =
    let full : length (s.c.counted ++ (counted_of f x ∷ [])) ≡ needed s.c = length_more s.c.counted (counted_of f x) ∙ many in
    hears stage s x.brick s.c.call (f x) rest (record { queue = is; seq = (refl, refl); plain = plain.0 })
    (carries_outcome stage (heard s (f x) rest) (decision stage s x.brick s.c.call (f x))
    (subst (λ (z : Next). Carries stage (heard s (f x) rest) z)
    (sym (counts_so stage group s f x early may.0 asks seated.0 answers.0 new.0
    ∙ decides_at stage.setting.layout.block stage.setting.code (fresh_at stage s.c (known_after s.known (f x)))
    (record s.c { counted = s.c.counted ++ (counted_of f x ∷ []) }) full)) then))
replies_pass stage group f (x ∷ (y ∷ ys)) s rest is early may asks seated answers plain new some many then =
    let now : Coordinator = record s.c { counted = s.c.counted ++ (counted_of f x ∷ []) } in
    let long : length (s.c.counted ++ (counted_of f x ∷ [])) ≡ length s.c.counted + 1 = length_more s.c.counted (counted_of f x) in
    let few : length now.counted < needed s.c = omega (arith, long, many) in
    hears stage s x.brick s.c.call (f x) (told stage s.c.call f (y ∷ ys) ++ rest) (record { queue = is; seq = (refl, refl); plain = plain.0 })
    (subst (λ (z : Next). Outcome stage (heard s (f x) (told stage s.c.call f (y ∷ ys) ++ rest)) z)
    (sym (counts_so stage group s f x early may.0 asks seated.0 answers.0 new.0
    ∙ waits_for stage.setting.layout.block stage.setting.code (fresh_at stage s.c (known_after s.known (f x))) now few)) (
      record { group = refl; prior = refl; only = refl; boot = refl; seq = refl; of_group = refl; view = refl; stripe = refl },
      replies_pass stage group f (y ∷ ys) (waits (heard s (f x) (told stage s.c.call f (y ∷ ys) ++ rest)) now) rest refl early may.1 asks seated.1 answers.1 plain.1 new.1
          (omega arith) (omega (arith, long, many))
          (carries_counted stage
          (record s { known = known_through (told stage s.c.call f (x ∷ (y ∷ ys))) s.known; queue = rest })
          now.counted
          (decides stage now (known_through (told stage s.c.call f (x ∷ (y ∷ ys))) s.known) (now.counted ++ map (counted_of f) (y ∷ ys)))
          (subst (λ (l : List Counted). Carries stage (record s { known = known_through (told stage s.c.call f (x ∷ (y ∷ ys))) s.known; queue = rest })
          (decides stage s.c (known_through (told stage s.c.call f (x ∷ (y ∷ ys))) s.known) l))
          (sym (append_assoc s.c.counted (counted_of f x ∷ []) (map (counted_of f) (y ∷ ys)))) then)),
    ))
