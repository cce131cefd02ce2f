-- The replies that count at a coordinator: how many seats they are, and what they tell together.
use Rattle.protocol.specs.declared.phases.Dropper.{Dropper}
use Rattle.protocol.specs.declared.phases.Mover.{Mover}
use Rattle.std.proofs.Common.{◌≡◌, ℕ, zero, suc, ◌+◌, ◌<◌, ◌≤◌, nat_lt, ◌⊎◌, inl, inr, Bool, true, false, not, cond, ◌||◌, List, [], ◌∷◌, ◌++◌, length, map, Option, Some, None, refl, sym, ap, ◌∙◌, subst, ⊎_elim, arith}
use Rattle.std.specs.Prelude.{slice_get, nat_eq, filter}
use Rattle.std.specs.List.{IsDistinct, AllByRecursion}
use Rattle.std.proofs.lemmas.Bool.{cond_both, cases_eq, eqb-true, eqb-false, eq-eqb, ne_eqb, false≢true, or_cases, or_parts, or_from, and_parts, not-true}
use Rattle.std.proofs.lemmas.Option.{same_Some}
use Rattle.fab_base.specs.declared.stamps.Stamp.{Stamp}
use Rattle.fab_base.specs.Stamps.{stamp_below, stamp_same}
use Rattle.fab_base.specs.declared.identities.BrickId.{BrickId}
use Rattle.fab_base.proofs.StampOrder.{stamp_below_irrefl, stamp_below_asym, stamp_not_below_trans, stamp_same_refl, stamp_same_true}
use Rattle.messages.specs.declared.requests.Version.{Version}
use Rattle.messages.specs.declared.replies.Lineage.{Lineage}
use Rattle.messages.specs.declared.replies.Reply.{Reply}
use Rattle.quorum.specs.Quorums.{count, with_seat}
use Rattle.quorum.proofs.Counts.{count_same, count_empty, count_monotone, count_with_seat}
use Rattle.fab_base.specs.Layouts.{Group}
use Rattle.quorum.specs.Quorums.{quorum_of}
use Rattle.protocol.specs.Settings.{Code, Piece, ArePiecesOf}
use Rattle.protocol.specs.declared.phases.Counted.{Counted}
use Rattle.protocol.specs.declared.phases.Refuser.{Refuser}
use Rattle.protocol.specs.declared.phases.FullMember.{FullMember}
use Rattle.protocol.specs.Coordinators.{has_seat, fast_version, fast_version_at, common_version_at, told_stamp, greater_stamp, greatest_found, tells, all_tell, told_by_all, finds, all_find, found_by_all, common_version, bytes_at, is_behind, some_behind, found_bytes, pieces_of, refuser_of, greater_refuser, greatest_refuser, full_member_of, lower_full, lowest_full, mover_of, lower_mover, lowest_mover, lowest_dropper, lower_dropper, dropper_of}
use Rattle.protocol_laws.specs.Laws.{AtQuorum}
use Rattle.protocol_laws.proofs.Said.{EachCounted, AreOnce}

-- what follows of each
pub each_then : (P Q : Counted → Type 0) (counted : List Counted) → ((x : Counted) → P x → Q x) → EachCounted P counted → EachCounted Q counted
each_then P Q [] then each = tt
each_then P Q (x ∷ counted) then each = (then x each.0, each_then P Q counted then each.1)

-- two facts of each
pub each_both : (P Q : Counted → Type 0) (counted : List Counted) → EachCounted P counted → EachCounted Q counted
    → EachCounted (λ x. P x × Q x) counted
each_both P Q [] p q = tt
each_both P Q (x ∷ counted) p q = ((p.0, q.0), each_both P Q counted p.1 q.1)

-- one more reply
pub each_more : (P : Counted → Type 0) (counted : List Counted) (x : Counted) → EachCounted P counted → P x → EachCounted P (counted ++ (x ∷ []))
each_more P [] x each here = (here, tt)
each_more P (y ∷ counted) x each here = (each.0, each_more P counted x each.1 here)

-- the seats with one more reply
has_more : (k : ℕ) (counted : List Counted) (x : Counted) → has_seat k counted ≡ false → nat_eq x.seat k ≡ false
    → has_seat k (counted ++ (x ∷ [])) ≡ false
has_more k [] x isnt other = or_from (nat_eq x.seat k) false other refl
has_more k (y ∷ counted) x isnt other =
    let parts = or_parts (nat_eq y.seat k) (has_seat k counted) isnt in
    or_from (nat_eq y.seat k) (has_seat k (counted ++ (x ∷ []))) parts.0 (has_more k counted x parts.1 other)

-- a seat with no reply yet counts once
pub once_more : (counted : List Counted) (x : Counted) → AreOnce counted → has_seat x.seat counted ≡ false → AreOnce (counted ++ (x ∷ []))
once_more [] x once isnt = (refl, tt)
once_more (y ∷ counted) x once isnt =
    let parts = or_parts (nat_eq y.seat x.seat) (has_seat x.seat counted) isnt in
    let other : nat_eq x.seat y.seat ≡ false = ne_eqb x.seat y.seat (λ e. eqb-false y.seat x.seat parts.0 (sym e)) in
    (has_more y.seat counted x once.0 other, once_more counted x once.1 parts.1)

-- a seat that counts has its reply
pub seat_reply : (P : Counted → Type 0) (counted : List Counted) (k : ℕ) → EachCounted P counted → has_seat k counted ≡ true
    → (x : Counted) × P x × (x.seat ≡ k)
seat_reply P [] k each has = absurd (false≢true has)
seat_reply P (x ∷ counted) k each has = ⊎_elim
    (λ (here : nat_eq x.seat k ≡ true). (x, each.0, eqb-true x.seat k here))
    (λ (there : has_seat k counted ≡ true). seat_reply P counted k each.1 there)
    (or_cases (nat_eq x.seat k) (has_seat k counted) has)

-- a seat is the same as another whichever is named first
same_seat : (a b : ℕ) → nat_eq a b ≡ nat_eq b a
same_seat a b = ⊎_elim
    (λ (is : a ≡ b). eq-eqb a b is ∙ sym (eq-eqb b a (sym is)))
    (λ (isnt : a ≡ b → ⊥). ne_eqb a b isnt ∙ sym (ne_eqb b a (λ e. isnt (sym e))))
    (cases_eq a b)

-- the seats are as many as the replies
count_seats : (n : ℕ) (counted : List Counted) → EachCounted (λ x. x.seat < n) counted → AreOnce counted
    → count n (λ k. has_seat k counted) ≡ length counted
count_seats n [] within once = count_empty n (λ k. has_seat k []) (λ k below. refl)
count_seats n (x ∷ counted) within once =
    let more : count n (λ k. has_seat k (x ∷ counted)) ≡ count n (with_seat x.seat (λ k. has_seat k counted))
    = count_same n (λ k. has_seat k (x ∷ counted)) (with_seat x.seat (λ k. has_seat k counted))
    (λ k below. ap (λ b. b || has_seat k counted) (same_seat x.seat k)) in
    let one : count n (with_seat x.seat (λ k. has_seat k counted)) ≡ count n (λ k. has_seat k counted) + 1
    = count_with_seat n x.seat (λ k. has_seat k counted) within.0 once.0 in
    let rest : count n (λ k. has_seat k counted) ≡ length counted = count_seats n counted within.1 once.1 in
    omega arith

-- what each reply shows of its seat holds at as many seats
pub at_seats : (n : ℕ) (counted : List Counted) (test : ℕ → Bool) → EachCounted (λ x. (x.seat < n) × (test x.seat ≡ true)) counted → AreOnce counted
    → length counted ≤ count n test
at_seats n counted test each once =
    let P : Counted → Type 0 = λ x. (x.seat < n) × (test x.seat ≡ true) in
    let seats : count n (λ k. has_seat k counted) ≡ length counted
    = count_seats n counted (each_then P (λ x. x.seat < n) counted (λ x h. h.0) each) once in
    let fewer : count n (λ k. has_seat k counted) ≤ count n test
    = count_monotone n (λ k. has_seat k counted) test (λ k below has.
    let found : (x : Counted) × P x × (x.seat ≡ k) = seat_reply P counted k each has in
    subst (λ (j : ℕ). test j ≡ true) found.2 found.1.1) in
    omega arith

-- what each of a quorum of replies shows of its seat holds at a quorum
pub at_quorum : (group : Group) (counted : List Counted) (test : ℕ → Bool)
    → EachCounted (λ x. (x.seat < length group.members) × (test x.seat ≡ true)) counted → AreOnce counted → quorum_of group ≤ length counted
    → AtQuorum group test
at_quorum group counted test each once many =
    let seats : length counted ≤ count (length group.members) test = at_seats (length group.members) counted test each once in
    omega (arith, seats, many)

-- each of those that pass a test
pub each_filter : (P : Counted → Type 0) (test : Counted → Bool) (counted : List Counted) → EachCounted P counted
    → EachCounted (λ x. P x × (test x ≡ true)) (filter test counted)
each_filter P test [] each = tt
each_filter P test (x ∷ counted) each =
    cond_both (test x) (x ∷ filter test counted) (filter test counted) (λ (l : List Counted). EachCounted (λ y. P y × (test y ≡ true)) l)
    (λ is. ((each.0, is), each_filter P test counted each.1))
    (λ isnt. each_filter P test counted each.1)

-- a seat with no reply has none among those that pass a test
none_filter : (seat : ℕ) (test : Counted → Bool) (counted : List Counted) → has_seat seat counted ≡ false
    → has_seat seat (filter test counted) ≡ false
none_filter seat test [] isnt = isnt
none_filter seat test (x ∷ counted) isnt =
    let parts = or_parts (nat_eq x.seat seat) (has_seat seat counted) isnt in
    cond_both (test x) (x ∷ filter test counted) (filter test counted) (λ (l : List Counted). has_seat seat l ≡ false)
    (λ is. or_from (nat_eq x.seat seat) (has_seat seat (filter test counted)) parts.0 (none_filter seat test counted parts.1))
    (λ no. none_filter seat test counted parts.1)

-- no seat counts twice among those that pass a test
pub once_filter : (test : Counted → Bool) (counted : List Counted) → AreOnce counted → AreOnce (filter test counted)
once_filter test [] once = tt
once_filter test (x ∷ counted) once =
    cond_both (test x) (x ∷ filter test counted) (filter test counted) (λ (l : List Counted). AreOnce l)
    (λ is. (none_filter x.seat test counted once.0, once_filter test counted once.1))
    (λ isnt. once_filter test counted once.1)

-- what is told is at most v
abbrev pub TellsAtMost : Stamp → Option Stamp → Type 0
TellsAtMost v None = Unit {0}
TellsAtMost v (Some u) = stamp_below v u ≡ false

-- what is at or above the greatest version found is at or above what each reply tells
greatest_each : (counted : List Counted) (v : Stamp) → ((u : Stamp) → greatest_found counted ≡ Some u → stamp_below v u ≡ false)
    → EachCounted (λ x. TellsAtMost v (told_stamp x.reply)) counted
greatest_each [] v most = tt
greatest_each (x ∷ counted) v most = (
  here (told_stamp x.reply) (greatest_found counted) most,
  greatest_each counted v
      (λ u is. there (told_stamp x.reply) u (λ z e. most z (ap (greater_stamp (told_stamp x.reply)) is ∙ e))),
)
  where
    here : (a b : Option Stamp) → ((u : Stamp) → greater_stamp a b ≡ Some u → stamp_below v u ≡ false) → TellsAtMost v a
    here None b h = tt
    here (Some a) None h = h a refl
    here (Some a) (Some b) h =
        cond_both (stamp_below a b) (Some b) (Some a) (λ (z : Option Stamp). ((u : Stamp) → z ≡ Some u → stamp_below v u ≡ false)
        → stamp_below v a ≡ false)
        (λ less g. stamp_not_below_trans a b v (stamp_below_asym a b less) (g b refl))
        (λ above g. g a refl)
        h

    there : (a : Option Stamp) (b : Stamp) → ((u : Stamp) → greater_stamp a (Some b) ≡ Some u → stamp_below v u ≡ false) → stamp_below v b ≡ false
    there None b h = h b refl
    there (Some a) b h =
        cond_both (stamp_below a b) (Some b) (Some a) (λ (z : Option Stamp). ((u : Stamp) → z ≡ Some u → stamp_below v u ≡ false)
        → stamp_below v b ≡ false)
        (λ less g. g b refl)
        (λ above g. stamp_not_below_trans b a v above (g a refl))
        h

-- each reply tells at most the greatest version found
pub found_most : (counted : List Counted) (v : Stamp) → greatest_found counted ≡ Some v
    → EachCounted (λ x. TellsAtMost v (told_stamp x.reply)) counted
found_most counted v is =
    greatest_each counted v (λ u e. let same : v ≡ u = same_Some v u (sym is ∙ e) in subst (λ (z : Stamp). stamp_below v z ≡ false) same
    (stamp_below_irrefl v))

-- one of two stamps is the greater
greater_stamp_one : (a b : Option Stamp) (v : Stamp) → greater_stamp a b ≡ Some v → (a ≡ Some v) ⊎ (b ≡ Some v)
greater_stamp_one None b v is = inr is
greater_stamp_one (Some a) None v is = inl is
greater_stamp_one (Some a) (Some b) v is =
    cond_both (stamp_below a b) (Some b) (Some a) (λ (z : Option Stamp). z ≡ Some v → (Some a ≡ Some v) ⊎ (Some b ≡ Some v)) (λ less e. inr e)
    (λ above e. inl e) is

-- one of the replies tells the greatest version found
pub found_one : (P : Counted → Type 0) (counted : List Counted) (v : Stamp) → EachCounted P counted → greatest_found counted ≡ Some v
    → (x : Counted) × P x × (told_stamp x.reply ≡ Some v)
found_one P [] v each is = cc
found_one P (x ∷ counted) v each is = ⊎_elim
    (λ (here : told_stamp x.reply ≡ Some v). (x, each.0, here))
    (λ (there : greatest_found counted ≡ Some v). found_one P counted v each.1 there)
    (greater_stamp_one (told_stamp x.reply) (greatest_found counted) v is)

-- a reply that tells version v
pub record TellsVersion (v : Stamp) (reply : Reply) : Type 0 where
  pub order : Stamp
  pub version : Version
  pub reply_is : reply ≡ Reply.Found order (Some version)
  pub stamp : version.stamp ≡ v
  pub not_above : stamp_below v order ≡ false

tells_version : (v : Stamp) (reply : Reply) → tells v reply ≡ true → TellsVersion v reply
tells_version v (Reply.Found order (Some version)) is =
    let parts = and_parts (stamp_same version.stamp v) (not (stamp_below v order)) is in
    record {
      order = order;
      version = version;
      reply_is = refl;
      stamp = stamp_same_true version.stamp v parts.0;
      not_above = not-true (stamp_below v order) parts.1;
    }
tells_version v reply is = absurd (false≢true is)

all_tell_each : (v : Stamp) (counted : List Counted) → all_tell v counted ≡ true → EachCounted (λ x. TellsVersion v x.reply) counted
all_tell_each v [] is = tt
all_tell_each v (x ∷ counted) is =
    let parts = and_parts (tells v x.reply) (all_tell v counted) is in
    (tells_version v x.reply parts.0, all_tell_each v counted parts.1)

told_each : (o : Option Stamp) (v : Stamp) (counted : List Counted) → told_by_all o counted ≡ Some v
    → EachCounted (λ x. TellsVersion v x.reply) counted
told_each None v counted is = cc
told_each (Some u) v counted is =
    cond_both (all_tell u counted) (Some u) None
    (λ (z : Option Stamp). z ≡ Some v → EachCounted (λ x. TellsVersion v x.reply) counted)
    (λ all e.
    let same : u ≡ v = cc in
    subst (λ (z : Stamp). EachCounted (λ x. TellsVersion z x.reply) counted) same (all_tell_each u counted all))
    (λ none e. cc)
    is

-- a version that may be answered at once is told by each reply
pub fast_each : (counted : List Counted) (v : Stamp) → fast_version counted ≡ Some v → EachCounted (λ x. TellsVersion v x.reply) counted
unfolding fast_version
fast_each [] v is = tt
fast_each (x ∷ counted) v is = told_each (told_stamp x.reply) v (x ∷ counted) is

-- a reply finds the version whose stamp it tells
pub finds_told : (v : Stamp) (seat : ℕ) (brick : BrickId) (reply : Reply) → finds v (record { seat = seat; brick = brick; reply = reply }) ≡ true
    → told_stamp reply ≡ Some v
finds_told v seat brick (Reply.Found order (Some version)) is = ap (λ (t : Stamp). Some t) (stamp_same_true version.stamp v is)
finds_told v seat brick (Reply.OrderedRead (Some version)) is = ap (λ (t : Stamp). Some t) (stamp_same_true version.stamp v is)
finds_told v seat brick (Reply.Old (Some version)) is = ap (λ (t : Stamp). Some t) (stamp_same_true version.stamp v is)
finds_told v seat brick reply is = absurd (false≢true is)

pub told_finds : (v : Stamp) (seat : ℕ) (brick : BrickId) (reply : Reply) → told_stamp reply ≡ Some v
    → finds v (record { seat = seat; brick = brick; reply = reply }) ≡ true
told_finds v seat brick (Reply.Found order (Some version)) is =
    subst (λ (t : Stamp). stamp_same t v ≡ true) (sym (same_Some version.stamp v is)) (stamp_same_refl v)
told_finds v seat brick (Reply.OrderedRead (Some version)) is =
    subst (λ (t : Stamp). stamp_same t v ≡ true) (sym (same_Some version.stamp v is)) (stamp_same_refl v)
told_finds v seat brick (Reply.Old (Some version)) is =
    subst (λ (t : Stamp). stamp_same t v ≡ true) (sym (same_Some version.stamp v is)) (stamp_same_refl v)
told_finds v seat brick reply is = cc

all_find_each : (v : Stamp) (counted : List Counted) → all_find v counted ≡ true → EachCounted (λ x. told_stamp x.reply ≡ Some v) counted
all_find_each v [] is = tt
all_find_each v (x ∷ counted) is =
    let parts = and_parts (finds v x) (all_find v counted) is in
    (finds_told v x.seat x.brick x.reply parts.0, all_find_each v counted parts.1)

found_each : (o : Option Stamp) (v : Stamp) (counted : List Counted) → found_by_all o counted ≡ Some v
    → EachCounted (λ x. told_stamp x.reply ≡ Some v) counted
found_each None v counted is = cc
found_each (Some u) v counted is =
    cond_both (all_find u counted) (Some u) None
    (λ (z : Option Stamp). z ≡ Some v → EachCounted (λ x. told_stamp x.reply ≡ Some v) counted)
    (λ all e.
    let same : u ≡ v = cc in
    subst (λ (z : Stamp). EachCounted (λ x. told_stamp x.reply ≡ Some z) counted) same (all_find_each u counted all))
    (λ none e. cc)
    is

-- a version that all find is told by each reply
pub common_each : (counted : List Counted) (v : Stamp) → common_version counted ≡ Some v → EachCounted (λ x. told_stamp x.reply ≡ Some v) counted
unfolding common_version
common_each [] v is = tt
common_each (x ∷ counted) v is = found_each (told_stamp x.reply) v (x ∷ counted) is

-- the greater of two equal stamps
greater_same : (v : Stamp) → greater_stamp (Some v) (Some v) ≡ Some v
greater_same v = cond_both (stamp_below v v) (Some v) (Some v) (λ (z : Option Stamp). z ≡ Some v) (λ is. refl) (λ isnt. refl)

-- and is the greatest that they tell
each_greatest : (v : Stamp) (x : Counted) (counted : List Counted) → EachCounted (λ y. told_stamp y.reply ≡ Some v) (x ∷ counted)
    → greatest_found (x ∷ counted) ≡ Some v
each_greatest v x [] each = ap (λ (z : Option Stamp). greater_stamp z None) each.0
each_greatest v x (y ∷ counted) each =
    ap (λ (z : Option Stamp). greater_stamp z (greatest_found (y ∷ counted))) each.0
    ∙ ap (λ (z : Option Stamp). greater_stamp (Some v) z) (each_greatest v y counted each.1) ∙ greater_same v

pub common_greatest : (counted : List Counted) (v : Stamp) → common_version counted ≡ Some v → greatest_found counted ≡ Some v
unfolding common_version
common_greatest [] v is = cc
common_greatest (x ∷ counted) v is = each_greatest v x counted (found_each (told_stamp x.reply) v (x ∷ counted) is)

-- a version that is told or found where a seat replied
if_seat : (j : ℕ) (counted : List Counted) (z : Option Stamp) (v : Stamp) → cond (has_seat j counted) z None ≡ Some v
    → (has_seat j counted ≡ true) × (z ≡ Some v)
if_seat j counted z v is =
    cond_both (has_seat j counted) z None (λ (y : Option Stamp). y ≡ Some v → (has_seat j counted ≡ true) × (z ≡ Some v))
    (λ has e. (has, e)) (λ hasnt e. cc) is

pub fast_at : (j : ℕ) (counted : List Counted) (v : Stamp) → fast_version_at j counted ≡ Some v
    → (has_seat j counted ≡ true) × (fast_version counted ≡ Some v)
unfolding fast_version_at
fast_at j counted v is = if_seat j counted (fast_version counted) v is

pub common_at : (j : ℕ) (counted : List Counted) (v : Stamp) → common_version_at j counted ≡ Some v
    → (has_seat j counted ≡ true) × (common_version counted ≡ Some v)
unfolding common_version_at
common_at j counted v is = if_seat j counted (common_version counted) v is

-- the bytes of a seat that replied are those of its reply
pub bytes_reply : (P : Counted → Type 0) (counted : List Counted) (seat : ℕ) → EachCounted P counted → has_seat seat counted ≡ true
    → (x : Counted) × P x × (x.seat ≡ seat) × (bytes_at seat counted ≡ found_bytes x.reply)
bytes_reply P [] seat each has = absurd (false≢true has)
bytes_reply P (x ∷ counted) seat each has =
    cond_both (nat_eq x.seat seat) (found_bytes x.reply) (bytes_at seat counted)
    (λ (z : List ℕ). (nat_eq x.seat seat || has_seat seat counted) ≡ true → (y : Counted) × P y × (y.seat ≡ seat) × (z ≡ found_bytes y.reply))
    (λ here h. (x, each.0, eqb-true x.seat seat here, refl))
    (λ there h. bytes_reply P counted seat each.1 (⊎_elim
    (λ (is : nat_eq x.seat seat ≡ true). absurd (false≢true (sym there ∙ is)))
    (λ (is : has_seat seat counted ≡ true). is)
    (or_cases (nat_eq x.seat seat) (has_seat seat counted) h)))
    has

-- none is behind where not one is
pub none_behind : (counted : List Counted) → some_behind counted ≡ false → EachCounted (λ x. is_behind x.reply ≡ false) counted
none_behind [] none = tt
none_behind (x ∷ counted) none =
    let parts = or_parts (is_behind x.reply) (some_behind counted) none in (parts.0, none_behind counted parts.1)

-- of two refusers one is the greater
greater_one : (a b : Refuser) → (greater_refuser (Some a) (Some b) ≡ Some a) ⊎ (greater_refuser (Some a) (Some b) ≡ Some b)
greater_one a b =
    cond_both (stamp_below a.stamp b.stamp) (Some b)
    (cond (stamp_below b.stamp a.stamp) (Some a) (cond (nat_lt b.seat a.seat) (Some b) (Some a)))
    (λ (z : Option Refuser). (z ≡ Some a) ⊎ (z ≡ Some b))
    (λ below. inr refl)
    (λ _. cond_both (stamp_below b.stamp a.stamp) (Some a) (cond (nat_lt b.seat a.seat) (Some b) (Some a))
    (λ (z : Option Refuser). (z ≡ Some a) ⊎ (z ≡ Some b))
    (λ above. inl refl)
    (λ _. cond_both (nat_lt b.seat a.seat) (Some b) (Some a) (λ (z : Option Refuser). (z ≡ Some a) ⊎ (z ≡ Some b)) (λ _. inr refl) (λ _. inl refl)))

-- no reply tells a later stamp where there is no refuser
no_refuser : (a b : Option Refuser) → greater_refuser a b ≡ None → (a ≡ None) × (b ≡ None)
no_refuser None b is = (refl, is)
no_refuser (Some a) None is = cc
no_refuser (Some a) (Some b) is =
    ⊎_elim (λ (one : greater_refuser (Some a) (Some b) ≡ Some a). let e : Some a ≡ None = sym one ∙ is in cc)
    (λ (other : greater_refuser (Some a) (Some b) ≡ Some b). let e : Some b ≡ None = sym other ∙ is in cc)
    (greater_one a b)

pub none_refuses : (counted : List Counted) → greatest_refuser counted ≡ None → EachCounted (λ x. refuser_of x ≡ None) counted
none_refuses [] is = tt
none_refuses (x ∷ counted) is =
    let both = no_refuser (refuser_of x) (greatest_refuser counted) is in
    (both.0, none_refuses counted both.1)

-- the greatest refuser is one of them
one_refuser : (a b : Option Refuser) (r : Refuser) → greater_refuser a b ≡ Some r → (a ≡ Some r) ⊎ (b ≡ Some r)
one_refuser None b r is = inr is
one_refuser (Some a) None r is = inl is
one_refuser (Some a) (Some b) r is =
    ⊎_elim (λ (one : greater_refuser (Some a) (Some b) ≡ Some a). inl (sym one ∙ is))
    (λ (other : greater_refuser (Some a) (Some b) ≡ Some b). inr (sym other ∙ is))
    (greater_one a b)

-- a refuser's reply
refuser_reply : (x : Counted) (r : Refuser) → refuser_of x ≡ Some r → (x.reply ≡ Reply.Later r.stamp) × (x.brick ≡ r.brick)
refuser_reply x r is = told x.reply refl is
  where
    told : (reply : Reply) → x.reply ≡ reply → refuser_of (record { seat = x.seat; brick = x.brick; reply = reply }) ≡ Some r
        → (x.reply ≡ Reply.Later r.stamp) × (x.brick ≡ r.brick)
    told (Reply.Later t) e is =
        let same : record { seat = x.seat; brick = x.brick; stamp = t } ≡ r = cc in
        (e ∙ ap (λ (z : Refuser). Reply.Later z.stamp) same, ap (λ (z : Refuser). z.brick) same)
    told reply e is = cc

-- the greatest refuser's reply is one of those that count
pub refuser_counted : (P : Counted → Type 0) (counted : List Counted) (r : Refuser) → EachCounted P counted → greatest_refuser counted ≡ Some r
    → (x : Counted) × P x × (x.reply ≡ Reply.Later r.stamp) × (x.brick ≡ r.brick)
refuser_counted P [] r each is = cc
refuser_counted P (x ∷ counted) r each is =
    ⊎_elim (λ (here : refuser_of x ≡ Some r). let told = refuser_reply x r here in (x, each.0, told.0, told.1))
    (λ (there : greatest_refuser counted ≡ Some r). refuser_counted P counted r each.1 there)
    (one_refuser (refuser_of x) (greatest_refuser counted) r is)

-- of two members whose stores are full one has the lower seat
lower_one : (a b : FullMember) → (lower_full (Some a) (Some b) ≡ Some a) ⊎ (lower_full (Some a) (Some b) ≡ Some b)
lower_one a b =
    cond_both (nat_lt b.seat a.seat) (Some b) (Some a) (λ (z : Option FullMember). (z ≡ Some a) ⊎ (z ≡ Some b))
    (λ less. inr refl) (λ isnt. inl refl)

-- neither of two tells that a store is full where none is the lowest
pub no_full : (a b : Option FullMember) → lower_full a b ≡ None → (a ≡ None) × (b ≡ None)
no_full None b is = (refl, is)
no_full (Some a) None is = cc
no_full (Some a) (Some b) is =
    ⊎_elim (λ (one : lower_full (Some a) (Some b) ≡ Some a). let e : Some a ≡ None = sym one ∙ is in cc)
    (λ (other : lower_full (Some a) (Some b) ≡ Some b). let e : Some b ≡ None = sym other ∙ is in cc)
    (lower_one a b)

-- no reply tells that a store is full where none is the lowest
pub none_full : (counted : List Counted) → lowest_full counted ≡ None → EachCounted (λ x. full_member_of x ≡ None) counted
none_full [] is = tt
none_full (x ∷ counted) is =
    let both = no_full (full_member_of x) (lowest_full counted) is in
    (both.0, none_full counted both.1)

-- the lowest of the members whose stores are full is one of them
one_full : (a b : Option FullMember) (f : FullMember) → lower_full a b ≡ Some f → (a ≡ Some f) ⊎ (b ≡ Some f)
one_full None b f is = inr is
one_full (Some a) None f is = inl is
one_full (Some a) (Some b) f is =
    ⊎_elim (λ (one : lower_full (Some a) (Some b) ≡ Some a). inl (sym one ∙ is))
    (λ (other : lower_full (Some a) (Some b) ≡ Some b). inr (sym other ∙ is))
    (lower_one a b)

-- its reply
full_reply : (x : Counted) (f : FullMember) → full_member_of x ≡ Some f → (x.reply ≡ Reply.Full f.live) × (x.brick ≡ f.brick)
full_reply x f is = told x.reply refl is
  where
    told : (reply : Reply) → x.reply ≡ reply → full_member_of (record { seat = x.seat; brick = x.brick; reply = reply }) ≡ Some f
        → (x.reply ≡ Reply.Full f.live) × (x.brick ≡ f.brick)
    told (Reply.Full live) e is =
        let same : record { seat = x.seat; brick = x.brick; live = live } ≡ f = cc in
        (e ∙ ap (λ (z : FullMember). Reply.Full z.live) same, ap (λ (z : FullMember). z.brick) same)
    told reply e is = cc

-- and that is one of those that count
pub full_counted : (P : Counted → Type 0) (counted : List Counted) (f : FullMember) → EachCounted P counted → lowest_full counted ≡ Some f
    → (x : Counted) × P x × (x.reply ≡ Reply.Full f.live) × (x.brick ≡ f.brick)
full_counted P [] f each is = cc
full_counted P (x ∷ counted) f each is =
    ⊎_elim (λ (here : full_member_of x ≡ Some f). let told = full_reply x f here in (x, each.0, told.0, told.1))
    (λ (there : lowest_full counted ≡ Some f). full_counted P counted f each.1 there)
    (one_full (full_member_of x) (lowest_full counted) f is)

-- of two members that moved on the lower is one of them
pub mover_one : (a b : Mover) → (lower_mover (Some a) (Some b) ≡ Some a) ⊎ (lower_mover (Some a) (Some b) ≡ Some b)
mover_one a b =
    cond_both (nat_lt b.seat a.seat) (Some b) (Some a) (λ (z : Option Mover). (z ≡ Some a) ⊎ (z ≡ Some b)) (λ lower. inr refl) (λ isnt. inl refl)

pub no_mover : (a b : Option Mover) → lower_mover a b ≡ None → (a ≡ None) × (b ≡ None)
no_mover None b is = (refl, is)
no_mover (Some a) None is = cc
no_mover (Some a) (Some b) is =
    ⊎_elim (λ (one : lower_mover (Some a) (Some b) ≡ Some a). let e : Some a ≡ None = sym one ∙ is in cc)
    (λ (other : lower_mover (Some a) (Some b) ≡ Some b). let e : Some b ≡ None = sym other ∙ is in cc)
    (mover_one a b)

-- no reply tells that its member moved on where none is the lowest
pub none_moved : (counted : List Counted) → lowest_mover counted ≡ None → EachCounted (λ x. mover_of x ≡ None) counted
none_moved [] is = tt
none_moved (x ∷ counted) is =
    let both = no_mover (mover_of x) (lowest_mover counted) is in
    (both.0, none_moved counted both.1)

-- the lowest of the members that moved on is one of them
one_mover : (a b : Option Mover) (m : Mover) → lower_mover a b ≡ Some m → (a ≡ Some m) ⊎ (b ≡ Some m)
one_mover None b m is = inr is
one_mover (Some a) None m is = inl is
one_mover (Some a) (Some b) m is =
    ⊎_elim (λ (one : lower_mover (Some a) (Some b) ≡ Some a). inl (sym one ∙ is))
    (λ (other : lower_mover (Some a) (Some b) ≡ Some b). inr (sym other ∙ is))
    (mover_one a b)

-- its reply
mover_reply : (x : Counted) (m : Mover) → mover_of x ≡ Some m → ((lineage : Option Lineage) × (x.reply ≡ Reply.Moved m.view lineage)) × (x.brick ≡ m.brick)
mover_reply x m is = told x.reply refl is
  where
    told : (reply : Reply) → x.reply ≡ reply → mover_of (record { seat = x.seat; brick = x.brick; reply = reply }) ≡ Some m
        → ((lineage : Option Lineage) × (x.reply ≡ Reply.Moved m.view lineage)) × (x.brick ≡ m.brick)
    told (Reply.Moved view lineage) e is =
        let same : record { seat = x.seat; brick = x.brick; view = view } ≡ m = cc in
        ((lineage, e ∙ ap (λ (z : Mover). Reply.Moved z.view lineage) same), ap (λ (z : Mover). z.brick) same)
    told reply e is = cc

-- and that is one of those that count
pub mover_counted : (P : Counted → Type 0) (counted : List Counted) (m : Mover) → EachCounted P counted → lowest_mover counted ≡ Some m
    → (x : Counted) × P x × ((lineage : Option Lineage) × (x.reply ≡ Reply.Moved m.view lineage)) × (x.brick ≡ m.brick)
mover_counted P [] m each is = cc
mover_counted P (x ∷ counted) m each is =
    ⊎_elim (λ (here : mover_of x ≡ Some m). let told = mover_reply x m here in (x, each.0, told.0, told.1))
    (λ (there : lowest_mover counted ≡ Some m). mover_counted P counted m each.1 there)
    (one_mover (mover_of x) (lowest_mover counted) m is)

-- of two members that dropped the view before the lower is one of them
dropper_one : (a b : Dropper) → (lower_dropper (Some a) (Some b) ≡ Some a) ⊎ (lower_dropper (Some a) (Some b) ≡ Some b)
dropper_one a b =
    cond_both (nat_lt b.seat a.seat) (Some b) (Some a) (λ (z : Option Dropper). (z ≡ Some a) ⊎ (z ≡ Some b)) (λ lower. inr refl) (λ isnt. inl refl)

pub no_dropper : (a b : Option Dropper) → lower_dropper a b ≡ None → (a ≡ None) × (b ≡ None)
no_dropper None b is = (refl, is)
no_dropper (Some a) None is = cc
no_dropper (Some a) (Some b) is =
    ⊎_elim (λ (one : lower_dropper (Some a) (Some b) ≡ Some a). let e : Some a ≡ None = sym one ∙ is in cc)
    (λ (other : lower_dropper (Some a) (Some b) ≡ Some b). let e : Some b ≡ None = sym other ∙ is in cc)
    (dropper_one a b)

-- no reply tells that its member dropped the view before where none is the lowest
pub none_dropped : (counted : List Counted) → lowest_dropper counted ≡ None → EachCounted (λ x. dropper_of x ≡ None) counted
none_dropped [] is = tt
none_dropped (x ∷ counted) is =
    let both = no_dropper (dropper_of x) (lowest_dropper counted) is in
    (both.0, none_dropped counted both.1)

-- the lowest of the members that dropped the view before is one of them
one_dropper : (a b : Option Dropper) (d : Dropper) → lower_dropper a b ≡ Some d → (a ≡ Some d) ⊎ (b ≡ Some d)
one_dropper None b d is = inr is
one_dropper (Some a) None d is = inl is
one_dropper (Some a) (Some b) d is =
    ⊎_elim (λ (one : lower_dropper (Some a) (Some b) ≡ Some a). inl (sym one ∙ is))
    (λ (other : lower_dropper (Some a) (Some b) ≡ Some b). inr (sym other ∙ is))
    (dropper_one a b)

-- its reply
dropper_reply : (x : Counted) (d : Dropper) → dropper_of x ≡ Some d → (x.reply ≡ Reply.Retired) × (x.brick ≡ d.brick)
dropper_reply x d is = told x.reply refl is
  where
    told : (reply : Reply) → x.reply ≡ reply → dropper_of (record { seat = x.seat; brick = x.brick; reply = reply }) ≡ Some d
        → (x.reply ≡ Reply.Retired) × (x.brick ≡ d.brick)
    told Reply.Retired e is =
        let same : record { seat = x.seat; brick = x.brick } ≡ d = cc in
        (e, ap (λ (z : Dropper). z.brick) same)
    told reply e is = cc

-- and that is one of those that count
pub dropper_counted : (P : Counted → Type 0) (counted : List Counted) (d : Dropper) → EachCounted P counted → lowest_dropper counted ≡ Some d
    → (x : Counted) × P x × (x.reply ≡ Reply.Retired) × (x.brick ≡ d.brick)
dropper_counted P [] d each is = cc
dropper_counted P (x ∷ counted) d each is =
    ⊎_elim (λ (here : dropper_of x ≡ Some d). let told = dropper_reply x d here in (x, each.0, told.0, told.1))
    (λ (there : lowest_dropper counted ≡ Some d). dropper_counted P counted d each.1 there)
    (one_dropper (dropper_of x) (lowest_dropper counted) d is)

-- no reply tells that its member moved on, that it dropped the view before, or that a store is full
abbrev pub NoneStops : List Counted → Type 0
NoneStops counted = (lowest_mover counted ≡ None) × (lowest_dropper counted ≡ None) × (lowest_full counted ≡ None)

-- a reply's bytes are its seat's block of the content
abbrev pub IsPieceOf : Code → ℕ → ℕ → List ℕ → Counted → Type 0
IsPieceOf code m n content x = (x.seat < n) × (found_bytes x.reply ≡ code.encode m content x.seat)

-- a seat with no reply is not among the pieces'
not_among : (counted : List Counted) (seat : ℕ) → has_seat seat counted ≡ false
    → AllByRecursion (λ y. nat_eq seat y ≡ false) (map (λ (piece : Piece). piece.seat) (pieces_of counted))
not_among [] seat isnt = tt
not_among (x ∷ counted) seat isnt =
    let parts = or_parts (nat_eq x.seat seat) (has_seat seat counted) isnt in
    (same_seat seat x.seat ∙ parts.0, not_among counted seat parts.1)

pieces_distinct : (counted : List Counted) → AreOnce counted → IsDistinct nat_eq (map (λ (piece : Piece). piece.seat) (pieces_of counted))
unfolding IsDistinct
pieces_distinct [] once = tt
pieces_distinct (x ∷ counted) once = (not_among counted x.seat once.0, pieces_distinct counted once.1)

-- a piece is that of a reply
piece_reply : (P : Counted → Type 0) (counted : List Counted) (k : ℕ) (piece : Piece) → EachCounted P counted
    → slice_get (pieces_of counted) k ≡ Some piece
    → (x : Counted) × P x × (piece ≡ record { seat = x.seat; bytes = found_bytes x.reply })
piece_reply P [] k piece each is = cc
piece_reply P (x ∷ counted) zero piece each is = (x, each.0, cc)
piece_reply P (x ∷ counted) (suc k) piece each is = piece_reply P counted k piece each.1 is

-- replies that tell blocks of one content are pieces of it
pub are_pieces : (code : Code) (m n : ℕ) (content : List ℕ) (counted : List Counted) → EachCounted (IsPieceOf code m n content) counted
    → AreOnce counted
    → ArePiecesOf code m n content (pieces_of counted)
are_pieces code m n content counted each once = record {
  distinct = pieces_distinct counted once;
  seats = λ k piece is.
      let found = piece_reply (IsPieceOf code m n content) counted k piece each is in
      subst (λ (z : Piece). z.seat < n) (sym found.2) found.1.0;
  blocks = λ k piece is.
      let found = piece_reply (IsPieceOf code m n content) counted k piece each is in
      subst (λ (z : Piece). z.bytes ≡ code.encode m content z.seat) (sym found.2) found.1.1;
}

-- there is a piece for each reply
pub pieces_length : (counted : List Counted) → length (pieces_of counted) ≡ length counted
pieces_length [] = refl
pieces_length (x ∷ counted) = ap suc (pieces_length counted)
