-- How a scrub ended: by the replies that counted, who told what.
use Rattle.std.proofs.Common.{◌≡◌, ◌≢◌, ℕ, zero, suc, ◌+◌, ◌≤◌, ◌⊎◌, inl, inr, ⊎_elim, Bool, true, false, List, [], ◌∷◌, length, Option, Some, None, is_some, refl, sym, ap, ◌∙◌, subst, arith, nat_lt, ltb-false}
use Rattle.std.specs.Prelude.{slice_get, nat_eq, ◌||◌, if◌then◌else◌}
use Rattle.std.specs.Option.{option_map}
use Rattle.std.proofs.lemmas.Bool.{cond_both, cases_Bool, and_parts, or_cases, false≢true, eqb-true, eq-eqb, ltb-false}
use Rattle.std.proofs.lemmas.Option.{same_Some}
use Rattle.fab_base.specs.declared.identities.BrickId.{BrickId}
use Rattle.fab_base.specs.declared.answers.Answer.{Answer}
use Rattle.fab_base.specs.declared.answers.Answer.TheVariants.{Aborted}
use Rattle.fab_base.specs.declared.answers.Cause.{Cause}
use Rattle.fab_base.specs.declared.asks.Op.TheVariants.{ReadBlock, ReadStripe, WriteBlock, WriteStripe}
use Rattle.fab_base.specs.declared.stamps.Stamp.{Stamp}
use Rattle.fab_base.specs.Layouts.{seat_in}
use Rattle.protocol.specs.Settings.{Code}
use Rattle.protocol.specs.declared.phases.Counted.{Counted}
use Rattle.protocol.specs.declared.phases.Phase.{Phase}
use Rattle.protocol.specs.declared.phases.Phase.TheVariants.{Looks, LooksAt, Orders, OrdersAt, Recovers, Descends, LooksBack, Modifies, Bases, Stores}
use Rattle.protocol.specs.declared.phases.Refuser.{Refuser}
use Rattle.protocol.specs.declared.phases.Mover.{Mover}
use Rattle.protocol.specs.declared.phases.Dropper.{Dropper}
use Rattle.protocol.specs.declared.phases.FullMember.{FullMember}
use Rattle.protocol.specs.Jobs.{abort_cause}
use Rattle.protocol.specs.Coordinators.{Coordinator, Next, Waits, Sends, Makes, Ends, decided, once_full, needed, tells, all_tell, told_by_all, told_stamp, fast_version, greatest_refuser, greatest_found, lowest_mover, lowest_dropper, lowest_full, unless_told_moved, unless_told_gone, unless_told_full, unless_refused, once_ordered, ordered_again, answered_fast, read_back, has_seat, most_rounds, reordering, may_look_back, in_phase, lower_phase, forgetting, pieces_at, restoring, aborted_by}
use Rattle.protocol_laws.proofs.Counting.{NoneStops}
use Rattle.protocol_laws.proofs.Said.{EachCounted, AreOnce, FitsPhase}

-- ---- where as many count as there are members, each of them does

-- a number is one of these
abbrev is_among : ℕ → List ℕ → Bool
is_among x [] = false
is_among x (y ∷ ys) = nat_eq y x || is_among x ys

-- these without the first of that number
abbrev without : ℕ → List ℕ → List ℕ
without x [] = []
without x (y ∷ ys) = if nat_eq y x then ys else y ∷ without x ys

-- that is one fewer
without_fewer : (x : ℕ) (ys : List ℕ) → is_among x ys ≡ true → length ys ≡ length (without x ys) + 1
without_fewer x [] among = absurd (false≢true among)
without_fewer x (y ∷ ys) among =
    cond_both (nat_eq y x) ys (y ∷ without x ys) (λ (l : List ℕ). length (y ∷ ys) ≡ length l + 1)
    (λ same. omega arith)
    (λ other. ⊎_elim
    (λ (here : nat_eq y x ≡ true). absurd (false≢true (sym other ∙ here)))
    (λ (there : is_among x ys ≡ true). let fewer = without_fewer x ys there in omega (arith, fewer))
    (or_cases (nat_eq y x) (is_among x ys) among))

-- and has every other number
without_other : (x z : ℕ) (ys : List ℕ) → z ≢ x → is_among z ys ≡ true → is_among z (without x ys) ≡ true
without_other x z [] other among = among
without_other x z (y ∷ ys) other among =
    cond_both (nat_eq y x) ys (y ∷ without x ys) (λ (l : List ℕ). is_among z l ≡ true)
    (λ same. ⊎_elim
    (λ (here : nat_eq y z ≡ true). absurd (other (sym (eqb-true y z here) ∙ eqb-true y x same)))
    (λ (there : is_among z ys ≡ true). there)
    (or_cases (nat_eq y z) (is_among z ys) among))
    (λ unlike. ⊎_elim
    (λ (here : nat_eq y z ≡ true). ap (λ (b : Bool). b || is_among z (without x ys)) here)
    (λ (there : is_among z ys ≡ true). more (nat_eq y z) (is_among z (without x ys)) (without_other x z ys other there))
    (or_cases (nat_eq y z) (is_among z ys) among))
  where
    more : (a b : Bool) → b ≡ true → (a || b) ≡ true
    more true b is = refl
    more false b is = is

-- none of these is there twice
abbrev AreUnlike : List ℕ → Type 0
AreUnlike [] = Unit {0}
AreUnlike (x ∷ xs) = (is_among x xs ≡ false) × AreUnlike xs

-- distinct numbers of a list are no more than that has
fewer : (xs ys : List ℕ) → AreUnlike xs → ((z : ℕ) → is_among z xs ≡ true → is_among z ys ≡ true) → length xs ≤ length ys
fewer [] ys unlike within = omega arith
fewer (x ∷ xs) ys unlike within =
    let one : length ys ≡ length (without x ys) + 1 = without_fewer x ys (within x (ap (λ (b : Bool). b || is_among x xs) (eq-eqb x x refl))) in
    let rest : length xs ≤ length (without x ys)
    = fewer xs (without x ys) unlike.1 (λ z among.
    without_other x z ys
    (λ same. false≢true (sym unlike.0 ∙ subst (λ (k : ℕ). is_among k xs ≡ true) same among))
    (within z (more (nat_eq x z) (is_among z xs) among))) in
    omega (arith, one, rest)
  where
    more : (a b : Bool) → b ≡ true → (a || b) ≡ true
    more true b is = refl
    more false b is = is

-- and where they are as many, each is one of them
each_one : (xs ys : List ℕ) → AreUnlike xs → ((z : ℕ) → is_among z xs ≡ true → is_among z ys ≡ true) → length ys ≤ length xs → (y : ℕ) → is_among y ys ≡ true
    → is_among y xs ≡ true
each_one xs ys unlike within most y among = ⊎_elim
    (λ (is : is_among y xs ≡ true). is)
    (λ (isnt : is_among y xs ≡ false).
    let one : length ys ≡ length (without y ys) + 1 = without_fewer y ys among in
    let less : length xs ≤ length (without y ys)
    = fewer xs (without y ys) unlike (λ z at.
    without_other y z ys (λ same. false≢true (sym isnt ∙ subst (λ (k : ℕ). is_among k xs ≡ true) same at)) (within z at)) in
    absurd (omega (arith, one, less, most)))
    (cases_Bool (is_among y xs))

-- the bricks of replies, and of members
abbrev bricks_of : List Counted → List ℕ
bricks_of [] = []
bricks_of (x ∷ counted) = x.brick.0 ∷ bricks_of counted

abbrev members_of : List BrickId → List ℕ
members_of [] = []
members_of (member ∷ members) = member.0 ∷ members_of members

bricks_length : (counted : List Counted) → length (bricks_of counted) ≡ length counted
bricks_length [] = refl
bricks_length (x ∷ counted) = ap suc (bricks_length counted)

members_length : (members : List BrickId) → length (members_of members) ≡ length members
members_length [] = refl
members_length (member ∷ members) = ap suc (members_length members)

-- a member has a seat
among_members : (members : List BrickId) (brick : ℕ) → is_some (seat_in members brick) ≡ true → is_among brick (members_of members) ≡ true
among_members [] brick some = absurd (false≢true some)
among_members (member ∷ members) brick some = ⊎_elim
    (λ (here : nat_eq member.0 brick ≡ true). ap (λ (b : Bool). b || is_among brick (members_of members)) here)
    (λ (other : nat_eq member.0 brick ≡ false).
    ap (λ (b : Bool). b || is_among brick (members_of members)) other
    ∙ among_members members brick (later (seat_in members brick)
    (ap (λ (b : Bool). is_some (if b then Some 0 else option_map (λ seat. seat + 1) (seat_in members brick))) (sym other) ∙ some)))
    (cases_Bool (nat_eq member.0 brick))
  where
    later : (z : Option ℕ) → is_some (option_map (λ (seat : ℕ). seat + 1) z) ≡ true → is_some z ≡ true
    later None some = some
    later (Some seat) some = refl

-- the member at a place is one of them
member_among : (members : List BrickId) (k : ℕ) (member : BrickId) → slice_get members k ≡ Some member → is_among member.0 (members_of members) ≡ true
member_among [] k member at = absurd (let never : None ≡ Some member = at in cc)
member_among (first ∷ members) zero member at =
    ap (λ (b : Bool). b || is_among member.0 (members_of members)) (eq-eqb first.0 member.0 (ap (λ (b : BrickId). b.0) (same_Some first member at)))
member_among (first ∷ members) (suc k) member at = more (nat_eq first.0 member.0) (is_among member.0 (members_of members)) (member_among members k member at)
  where
    more : (a b : Bool) → b ≡ true → (a || b) ≡ true
    more true b is = refl
    more false b is = is

-- the reply of a brick that has one
reply_of : (counted : List Counted) (brick : ℕ) → is_among brick (bricks_of counted) ≡ true
    → (k : ℕ) × (x : Counted) × (slice_get counted k ≡ Some x) × (x.brick.0 ≡ brick)
reply_of [] brick among = absurd (false≢true among)
reply_of (x ∷ counted) brick among = ⊎_elim
    (λ (here : nat_eq x.brick.0 brick ≡ true). (0, x, refl, eqb-true x.brick.0 brick here))
    (λ (there : is_among brick (bricks_of counted) ≡ true). let rest = reply_of counted brick there in (suc rest.0, rest.1, rest.2, rest.3))
    (or_cases (nat_eq x.brick.0 brick) (is_among brick (bricks_of counted)) among)

-- replies of members, by their seats
abbrev pub SeatedIn : List BrickId → Counted → Type 0
SeatedIn asked x = seat_in asked x.brick.0 ≡ Some x.seat

-- no brick's reply counts twice
bricks_unlike : (asked : List BrickId) (counted : List Counted) → EachCounted (SeatedIn asked) counted → AreOnce counted → AreUnlike (bricks_of counted)
bricks_unlike asked [] each once = tt
bricks_unlike asked (x ∷ counted) each once = (
  ⊎_elim
      (λ (twice : is_among x.brick.0 (bricks_of counted) ≡ true). absurd (false≢true (sym once.0 ∙ has counted x.brick.0 x.seat each.1 each.0 twice)))
      (λ (isnt : is_among x.brick.0 (bricks_of counted) ≡ false). isnt)
      (cases_Bool (is_among x.brick.0 (bricks_of counted))),
  bricks_unlike asked counted each.1 once.1,
)
  where
    more : (a b : Bool) → b ≡ true → (a || b) ≡ true
    more true b is = refl
    more false b is = is

    has : (list : List Counted) (brick seat : ℕ) → EachCounted (SeatedIn asked) list → seat_in asked brick ≡ Some seat → is_among brick (bricks_of list) ≡ true
        → has_seat seat list ≡ true
    has [] brick seat seats at among = absurd (false≢true among)
    has (y ∷ list) brick seat seats at among = ⊎_elim
        (λ (here : nat_eq y.brick.0 brick ≡ true).
        ap (λ (b : Bool). b || has_seat seat list)
        (eq-eqb y.seat seat
        (same_Some y.seat seat (sym seats.0 ∙ ap (λ (b : ℕ). seat_in asked b) (eqb-true y.brick.0 brick here) ∙ at))))
        (λ (there : is_among brick (bricks_of list) ≡ true). more (nat_eq y.seat seat) (has_seat seat list) (has list brick seat seats.1 at there))
        (or_cases (nat_eq y.brick.0 brick) (is_among brick (bricks_of list)) among)

-- what is known of each reply is known of one
pub each_at : (P : Counted → Type 0) (counted : List Counted) (k : ℕ) (x : Counted) → EachCounted P counted → slice_get counted k ≡ Some x → P x
each_at P [] k x each at = absurd (let never : None ≡ Some x = at in cc)
each_at P (y ∷ counted) zero x each at = subst P (same_Some y x at) each.0
each_at P (y ∷ counted) (suc k) x each at = each_at P counted k x each.1 at

-- Where the replies of members counted, no seat's twice, as many as these members, and each is one of theirs, each of these members has replied.
pub all_replied : (asked members : List BrickId) (counted : List Counted) → EachCounted (λ x. SeatedIn asked x × (is_some (seat_in members x.brick.0) ≡ true)) counted
    → AreOnce counted → length members ≤ length counted → (k : ℕ) (member : BrickId) → slice_get members k ≡ Some member
    → (j : ℕ) × (x : Counted) × (slice_get counted j ≡ Some x) × (x.brick.0 ≡ member.0)
all_replied asked members counted each once most k member at =
    let enough : length (members_of members) ≤ length (bricks_of counted)
    = (let a = bricks_length counted in let b = members_length members in omega (arith, a, b, most)) in
    reply_of counted member.0
    (each_one (bricks_of counted) (members_of members) (bricks_unlike asked counted (seated counted each) once)
    (λ brick among.
    let one = reply_of counted brick among in
    among_members members brick
    (subst (λ (b : ℕ). is_some (seat_in members b) ≡ true) one.3
    (each_at (λ x. SeatedIn asked x × (is_some (seat_in members x.brick.0) ≡ true)) counted one.0 one.1 each one.2).1))
    enough member.0 (member_among members k member at))
  where
    seated : (list : List Counted) → EachCounted (λ x. SeatedIn asked x × (is_some (seat_in members x.brick.0) ≡ true)) list → EachCounted (SeatedIn asked) list
    seated [] all = tt
    seated (x ∷ list) all = (all.0.0, seated list all.1)

-- ---- what a read of a whole stripe ends by

-- all told one version as their newest
abbrev pub SeesOne : Coordinator → Option Stamp → Type 0
SeesOne c stored = (c.phase ≡ Looks) × (stored ≡ None) × ((v : Stamp) × (fast_version c.counted ≡ Some v))

-- all stored its version
abbrev pub StoresOne : Coordinator → Option Stamp → Type 0
StoresOne c stored = (c.phase ≡ Stores) × (stored ≡ Some c.stamp) × (greatest_refuser c.counted ≡ None) × NoneStops c.counted

-- what was aborted ended by a cause
cut : (cause : Cause) (a b seen stored : Option Stamp) (answer : Answer) → Ends (Aborted cause) a b ≡ Ends answer seen stored → abort_cause answer ≡ None → ⊥
cut cause a b seen stored answer is none =
    let by : Aborted cause ≡ answer = cc in
    let never : Some cause ≡ None = ap abort_cause by ∙ none in
    cc

-- nobody told that it moved on, that it dropped the view before, or that its store is full
passes : (m : Option Mover) (g : Option Dropper) (f : Option FullMember) (next : Next) (answer : Answer) (seen stored : Option Stamp)
    → unless_told_moved m (unless_told_gone g (unless_told_full f next)) ≡ Ends answer seen stored → abort_cause answer ≡ None
    → ((m ≡ None) × (g ≡ None) × (f ≡ None)) × (next ≡ Ends answer seen stored)
passes None None None next answer seen stored is none = ((refl, refl, refl), is)
passes None None (Some f) next answer seen stored is none = absurd (cut (Cause.Full f.brick f.live) None None seen stored answer is none)
passes None (Some g) f next answer seen stored is none = absurd (cut (Cause.Gone g.brick) None None seen stored answer is none)
passes (Some m) g f next answer seen stored is none = absurd (cut (Cause.Moved m.brick m.view) None None seen stored answer is none)

module _ (block : ℕ) (code : Code) (fresh : Option Stamp) (c : Coordinator) (answer : Answer) (seen stored : Option Stamp) (whole : abort_cause answer ≡ None) where
  -- a recovery does not end so
  no_end : (z : Option Stamp) → read_back block code c z ≡ Ends answer seen stored → ⊥
  no_end None =
      cond_both (may_look_back c) (Sends (in_phase c (LooksBack None))) (Waits (forgetting c)) (λ (next : Next). next ≡ Ends answer seen stored → ⊥)
      (λ may is. cc) (λ isnt is. cc)
  no_end (Some v) =
      cond_both (nat_lt (length (pieces_at v c.counted)) c.group.m) (Sends (in_phase c (lower_phase c.phase v)))
      (Makes (restoring block c v (code.decode c.group.m (pieces_at v c.counted)))) (λ (next : Next). next ≡ Ends answer seen stored → ⊥)
      (λ few is. cc) (λ enough is. cc)

  -- nor where it orders first
  no_order : (r : Option Refuser) (next : Next) → once_ordered fresh c r next ≡ Ends answer seen stored → next ≡ Ends answer seen stored
  no_order None next is = is
  no_order (Some r) next is = again fresh is
    where
      again : (z : Option Stamp) → ordered_again z c r ≡ Ends answer seen stored → next ≡ Ends answer seen stored
      again None bad = absurd (cut (Cause.Later r.brick r.stamp) None None seen stored answer bad whole)
      again (Some t) bad =
          cond_both (nat_lt c.round most_rounds) (Sends (reordering c t)) (aborted_by r)
          (λ (n : Next). n ≡ Ends answer seen stored → next ≡ Ends answer seen stored) (λ few is. cc)
          (λ all is. absurd (cut (Cause.Later r.brick r.stamp) None None seen stored answer is whole)) bad

  unrefused : (r : Option Refuser) (next : Next) → unless_refused r next ≡ Ends answer seen stored → (r ≡ None) × (next ≡ Ends answer seen stored)
  unrefused None next is = (refl, is)
  unrefused (Some r) next is = absurd (cut (Cause.Later r.brick r.stamp) None None seen stored answer is whole)

-- how it ends in each phase
ends_in : (block : ℕ) (code : Code) (fresh : Option Stamp) (c : Coordinator) (p : Phase) → FitsPhase p ReadStripe → (answer : Answer) (seen stored : Option Stamp)
    → abort_cause answer ≡ None → decided block code fresh (record c { phase = p }) ≡ Ends answer seen stored
    → SeesOne (record c { phase = p }) stored ⊎ StoresOne (record c { phase = p }) stored
unfolding decided
ends_in block code fresh c Looks fits answer seen stored whole is =
    let goes = passes (lowest_mover c.counted) (lowest_dropper c.counted) (lowest_full c.counted) _ answer seen stored is whole in
    inl (by (fast_version c.counted) refl goes.1)
  where
    by : (z : Option Stamp) → fast_version c.counted ≡ z → answered_fast code (record c { phase = Looks }) z ≡ Ends answer seen stored
        → SeesOne (record c { phase = Looks }) stored
    by None none ends = cc
    by (Some v) some ends = (refl, (let none : None ≡ stored = cc in sym none), (v, some))
ends_in block code fresh c Recovers fits answer seen stored whole is =
    let goes = passes (lowest_mover c.counted) (lowest_dropper c.counted) (lowest_full c.counted) _ answer seen stored is whole in
    absurd (no_end block code fresh (record c { phase = Recovers }) answer seen stored whole (greatest_found c.counted)
    (no_order block code fresh (record c { phase = Recovers }) answer seen stored whole (greatest_refuser c.counted) _ goes.1))
ends_in block code fresh c (Descends bound) fits answer seen stored whole is =
    let goes = passes (lowest_mover c.counted) (lowest_dropper c.counted) (lowest_full c.counted) _ answer seen stored is whole in
    absurd (no_end block code fresh (record c { phase = Descends bound }) answer seen stored whole (greatest_found c.counted)
    (unrefused block code fresh (record c { phase = Descends bound }) answer seen stored whole (greatest_refuser c.counted) _ goes.1).1)
ends_in block code fresh c (LooksBack bound) fits answer seen stored whole is =
    let goes = passes (lowest_mover c.counted) (lowest_dropper c.counted) (lowest_full c.counted) _ answer seen stored is whole in
    absurd (no_end block code fresh (record c { phase = LooksBack bound }) answer seen stored whole (greatest_found c.counted) goes.1)
ends_in block code fresh c Stores fits answer seen stored whole is =
    let goes = passes (lowest_mover c.counted) (lowest_dropper c.counted) (lowest_full c.counted) _ answer seen stored is whole in
    let ends = unrefused block code fresh (record c { phase = Stores }) answer seen stored whole (greatest_refuser c.counted) _ goes.1 in
    let last = ends.1 in
    inr (refl, (let same : Some c.stamp ≡ stored = cc in sym same), ends.0, goes.0)
ends_in block code fresh c (LooksAt j) fits answer seen stored whole is = absurd (let never : ReadStripe ≡ ReadBlock j = fits in cc)
ends_in block code fresh c Orders fits answer seen stored whole is = absurd (let never : ReadStripe ≡ WriteStripe fits.0 = fits.1 in cc)
ends_in block code fresh c (OrdersAt j) fits answer seen stored whole is = absurd (let never : ReadStripe ≡ WriteBlock j fits.0 = fits.1 in cc)
ends_in block code fresh c (Modifies base j) fits answer seen stored whole is = absurd (let never : ReadStripe ≡ WriteBlock j fits.0 = fits.1 in cc)
ends_in block code fresh c (Bases base) fits answer seen stored whole is = absurd (let never : ReadStripe ≡ WriteBlock fits.0 fits.1 = fits.2 in cc)

-- the read of a whole stripe ends without an abort where as many replies count as are needed, and all told one version, or all stored its own
pub whole_end : (block : ℕ) (code : Code) (fresh : Option Stamp) (c : Coordinator) → FitsPhase c.phase ReadStripe → (answer : Answer) (seen stored : Option Stamp)
    → abort_cause answer ≡ None → once_full block code fresh c ≡ Ends answer seen stored
    → (needed c ≤ length c.counted) × (SeesOne c stored ⊎ StoresOne c stored)
whole_end block code fresh c fits answer seen stored whole =
    cond_both (nat_lt (length c.counted) (needed c)) (Waits c) (decided block code fresh c)
    (λ (next : Next). next ≡ Ends answer seen stored → (needed c ≤ length c.counted) × (SeesOne c stored ⊎ StoresOne c stored))
    (λ few is. cc)
    (λ enough is. (ltb-false (length c.counted) (needed c) enough, ends_in block code fresh c c.phase fits answer seen stored whole is))

-- where all told one version, each did
pub each_tells : (counted : List Counted) (v : Stamp) → fast_version counted ≡ Some v → EachCounted (λ x. tells v x.reply ≡ true) counted
unfolding fast_version
each_tells [] v is = tt
each_tells (x ∷ counted) v is = by (told_stamp x.reply) is
  where
    all : (u : Stamp) (list : List Counted) → all_tell u list ≡ true → EachCounted (λ y. tells u y.reply ≡ true) list
    all u [] is = tt
    all u (y ∷ list) is = (let parts = and_parts (tells u y.reply) (all_tell u list) is in (parts.0, all u list parts.1))

    by : (z : Option Stamp) → told_by_all z (x ∷ counted) ≡ Some v → EachCounted (λ y. tells v y.reply ≡ true) (x ∷ counted)
    by None bad = absurd (let never : None ≡ Some v = bad in cc)
    by (Some u) e =
        cond_both (all_tell u (x ∷ counted)) (Some u) None (λ (z : Option Stamp). z ≡ Some v → EachCounted (λ y. tells v y.reply ≡ true) (x ∷ counted))
        (λ told is. subst (λ (t : Stamp). EachCounted (λ y. tells t y.reply ≡ true) (x ∷ counted)) (same_Some u v is) (all u (x ∷ counted) told))
        (λ isnt is. absurd (let never : None ≡ Some v = is in cc)) e
