-- A tally is that of the replies that count.
use Rattle.std.proofs.Common.{◌≡◌, ◌≢◌, ℕ, zero, suc, ◌<◌, Bool, true, false, not, cond, if◌then◌else◌, ◌||◌, List, [], ◌∷◌, ◌++◌, length, Option, Some, None, get_or, refl, sym, ◌∙◌, ap, subst, ⊎_elim, arith}
use Rattle.std.specs.Prelude.{nat_eq, nat_lt, filter, replicate}
use Rattle.std.specs.List.{list_all}
use Rattle.std.proofs.lemmas.Bool.{and_parts, and_from, or_parts, or_from, not-true, lt-ltb, ltb-true, eqb-false, ne_eqb, eq-eqb, cases_eq, cases_Bool, false≢true}
use Rattle.std.specs.Option.{MatchOption}
use Rattle.std.proofs.lemmas.List.{get_or-set_same, get_or-set_other, length-set, length-replicate}
use Rattle.fab_base.specs.declared.stamps.Stamp.{Stamp}
use Rattle.fab_base.proofs.StampOrder.{stamp_same_refl, stamp_same_true}
use Rattle.messages.specs.declared.replies.Reply.{Reply}
use Rattle.messages.specs.declared.replies.Reply.TheVariants.{Found, OrderedRead, Old}
use Rattle.protocol.specs.declared.phases.Counted.{Counted}
use Rattle.protocol.specs.Coordinators.{has_seat, told_stamp, finds, pieces_at}
use Rattle.quorum.specs.declared.seats.Seat.{Seat}
use Rattle.quorum.specs.declared.seats.Seat.TheVariants as seat
use Rattle.quorum.specs.Quorums.{Scheme, count, with_seat}
use Rattle.quorum.specs.Tallies.{Votes, is_counted, reports, is_stamp, seat_of, counted, counted_with, after_reply, with_vote, without_vote, no_votes, IsUnanimous}
use Rattle.quorum.proofs.Counts.{count_empty, count_same, count_with_seat, with_seat_same, with_seat_other}
use Rattle.coord_phase.specs.Operations.{are_apart}
use Rattle.coord_phase.specs.Tallies.{said_by, IsTallyOf, IsAgreed}
use Rattle.coord_phase.proofs.PhaseReplies.{all-more, apart-more}
use Rattle.coord_phase.proofs.Pieces.{length-pieces_of}

-- the first of the replies is of the seat, or of another
said_first : (c : Counted) (more : List Counted) (k : ℕ) → c.seat ≡ k → said_by k (c ∷ more) ≡ seat.Counted (told_stamp c.reply)
said_first c more k same = ap (λ b. if b then seat.Counted (told_stamp c.reply) else said_by k more) (eq-eqb c.seat k same)

said_other : (c : Counted) (more : List Counted) (k : ℕ) → nat_eq c.seat k ≡ false → said_by k (c ∷ more) ≡ said_by k more
said_other c more k apart = ap (λ b. if b then seat.Counted (told_stamp c.reply) else said_by k more) apart

-- a seat has said something exactly where it has a reply
counted_if : (b : Bool) (mark : Option Stamp) (rest : Seat) (has : Bool) → is_counted rest ≡ has
    → is_counted (if b then seat.Counted mark else rest) ≡ (b || has)
counted_if true mark rest has is = refl
counted_if false mark rest has is = is

pub said_counted : (k : ℕ) (replies : List Counted) → is_counted (said_by k replies) ≡ has_seat k replies
said_counted k [] = refl
said_counted k (c ∷ more) = counted_if (nat_eq c.seat k) (told_stamp c.reply) (said_by k more) (has_seat k more) (said_counted k more)

-- a seat without a reply has said nothing
said_nothing : (k : ℕ) (replies : List Counted) → has_seat k replies ≡ false → said_by k replies ≡ seat.Silent
said_nothing k [] none = refl
said_nothing k (c ∷ more) none =
    let parts = or_parts (nat_eq c.seat k) (has_seat k more) none in said_other c more k parts.0 ∙ said_nothing k more parts.1

-- the first of replies of distinct seats has its seat for itself, and the others are such
first_apart : (c : Counted) (more : List Counted) → are_apart (c ∷ more) ≡ true → has_seat c.seat more ≡ false
first_apart c more apart = not-true (has_seat c.seat more) (and_parts (not (has_seat c.seat more)) (are_apart more) apart).0

rest_apart : (c : Counted) (more : List Counted) → are_apart (c ∷ more) ≡ true → are_apart more ≡ true
rest_apart c more apart = (and_parts (not (has_seat c.seat more)) (are_apart more) apart).1

-- the seats that have replied are as many as the replies
same_or : (a k : ℕ) (b : Bool) → (nat_eq a k || b) ≡ (nat_eq k a || b)
same_or a k b = ⊎_elim
    (λ (same : a ≡ k). ap (λ t. t || b) (eq-eqb a k same ∙ sym (eq-eqb k a (sym same))))
    (λ (other : a ≢ k). ap (λ t. t || b) (ne_eqb a k other ∙ sym (ne_eqb k a (λ e. other (sym e)))))
    (cases_eq a k)

pub count_replied : (n : ℕ) (replies : List Counted) → list_all (λ c. nat_lt c.seat n) replies ≡ true → are_apart replies ≡ true
    → count n (λ k. has_seat k replies) ≡ length replies
count_replied n [] seats apart = count_empty n (λ k. has_seat k []) (λ k below. refl)
count_replied n (c ∷ more) seats apart =
    let parts = and_parts (nat_lt c.seat n) (list_all (λ c. nat_lt c.seat n) more) seats in
    let rest = count_replied n more parts.1 (rest_apart c more apart) in
    let with_first = count_same n (λ k. has_seat k (c ∷ more)) (with_seat c.seat (λ k. has_seat k more)) (λ k below. same_or c.seat k (has_seat k more)) in
    let one = count_with_seat n c.seat (λ k. has_seat k more) (ltb-true c.seat n parts.0) (first_apart c more apart) in
    omega (arith, rest, with_first, one)

-- a reply reports the stamp of the version that it tells
reports_found : (v : Stamp) (k : ℕ) (c : Counted) (reply : Reply) → c.reply ≡ reply → reports v (seat.Counted (told_stamp reply)) ≡ finds v (record c { reply = reply })
reports_found v k c (Found order None) is = refl
reports_found v k c (Found order (Some version)) is = refl
reports_found v k c (OrderedRead None) is = refl
reports_found v k c (OrderedRead (Some version)) is = refl
reports_found v k c (Old None) is = refl
reports_found v k c (Old (Some version)) is = refl
reports_found v k c reply is = refl

pub reports_finds : (v : Stamp) (c : Counted) → reports v (seat.Counted (told_stamp c.reply)) ≡ finds v c
reports_finds v c = reports_found v 0 c c.reply refl

-- the seats that report a version are as many as the replies that tell it
abbrev telling : Stamp → List Counted → ℕ → Bool
telling v replies k = reports v (said_by k replies)

telling_other : (v : Stamp) (c : Counted) (more : List Counted) (k : ℕ) → k ≢ c.seat → telling v (c ∷ more) k ≡ telling v more k
telling_other v c more k other = ap (reports v) (said_other c more k (ne_eqb c.seat k (λ e. other (sym e))))

telling_first : (v : Stamp) (c : Counted) (more : List Counted) (k : ℕ) → k ≡ c.seat → telling v (c ∷ more) k ≡ finds v c
telling_first v c more k same = ap (reports v) (said_first c more k (sym same)) ∙ reports_finds v c

telling_none : (v : Stamp) (more : List Counted) (k : ℕ) → has_seat k more ≡ false → telling v more k ≡ false
telling_none v more k none = ap (reports v) (said_nothing k more none)

pub count_tells : (v : Stamp) (n : ℕ) (replies : List Counted) → list_all (λ c. nat_lt c.seat n) replies ≡ true → are_apart replies ≡ true
    → count n (telling v replies) ≡ length (filter (finds v) replies)
count_tells v n [] seats apart = count_empty n (telling v []) (λ k below. refl)
count_tells v n (c ∷ more) seats apart =
    let parts = and_parts (nat_lt c.seat n) (list_all (λ c. nat_lt c.seat n) more) seats in
    let rest = count_tells v n more parts.1 (rest_apart c more apart) in
    let none = telling_none v more c.seat (first_apart c more apart) in
    ⊎_elim
    (λ (is : finds v c ≡ true).
    let with_first = count_same n (telling v (c ∷ more)) (with_seat c.seat (telling v more)) (λ k below. ⊎_elim
    (λ (same : k ≡ c.seat). telling_first v c more k same ∙ is ∙ sym (with_seat_same k c.seat (telling v more) same))
    (λ (other : k ≢ c.seat). telling_other v c more k other ∙ sym (with_seat_other k c.seat (telling v more) other))
    (cases_eq k c.seat)) in
    let one = count_with_seat n c.seat (telling v more) (ltb-true c.seat n parts.0) none in
    let long : length (filter (finds v) (c ∷ more)) ≡ suc (length (filter (finds v) more)) =
    ap (λ b. length (cond b (c ∷ filter (finds v) more) (filter (finds v) more))) is in
    omega (arith, rest, with_first, one, long))
    (λ (isnt : finds v c ≡ false).
    let without = count_same n (telling v (c ∷ more)) (telling v more) (λ k below. ⊎_elim
    (λ (same : k ≡ c.seat). telling_first v c more k same ∙ isnt ∙ sym none ∙ ap (telling v more) (sym same))
    (λ (other : k ≢ c.seat). telling_other v c more k other)
    (cases_eq k c.seat)) in
    let long : length (filter (finds v) (c ∷ more)) ≡ length (filter (finds v) more) =
    ap (λ b. length (cond b (c ∷ filter (finds v) more) (filter (finds v) more))) isnt in
    omega (arith, rest, without, long))
    (cases_Bool (finds v c))

module _ (replies : List Counted) (votes : Votes) (is : IsTallyOf replies votes) where
  -- whether a seat is counted, and how many are
  pub has_so : (k : ℕ) → k < votes.n → counted votes k ≡ has_seat k replies
  has_so k below = ap is_counted (is.said k below) ∙ said_counted k replies

  pub count_so : count votes.n (counted votes) ≡ length replies
  count_so = count_same votes.n (counted votes) (λ k. has_seat k replies) has_so ∙ count_replied votes.n replies is.seats is.apart

  -- how many report a version
  pub tells_so : (v : Stamp) → count votes.n (counted_with votes v) ≡ length (pieces_at v replies)
  tells_so v =
      count_same votes.n (counted_with votes v) (telling v replies) (λ k below. ap (reports v) (is.said k below))
      ∙ count_tells v votes.n replies is.seats is.apart ∙ sym (length-pieces_of (filter (finds v) replies))

-- no reply makes no vote
silent_seats : (n k : ℕ) → get_or (replicate n seat.Silent) k seat.Silent ≡ seat.Silent
silent_seats zero k = refl
silent_seats (suc n) zero = refl
silent_seats (suc n) (suc k) = silent_seats n k

-- a reply more, of a seat that had none
said_more_other : (k : ℕ) (replies : List Counted) (x : Counted) → nat_eq x.seat k ≡ false → said_by k (replies ++ (x ∷ [])) ≡ said_by k replies
said_more_other k [] x other = said_other x [] k other
said_more_other k (c ∷ more) x other =
    ap (λ rest. if nat_eq c.seat k then seat.Counted (told_stamp c.reply) else rest) (said_more_other k more x other)

said_more_first : (k : ℕ) (replies : List Counted) (x : Counted) → has_seat k replies ≡ false → x.seat ≡ k
    → said_by k (replies ++ (x ∷ [])) ≡ seat.Counted (told_stamp x.reply)
said_more_first k [] x none same = said_first x [] k same
said_more_first k (c ∷ more) x none same =
    let parts = or_parts (nat_eq c.seat k) (has_seat k more) none in
    said_other c (more ++ (x ∷ [])) k parts.0 ∙ said_more_first k more x parts.1 same

-- the last of distinct seats has none of the others
last_other : (s : ℕ) (front : List Counted) (x : Counted) → has_seat s (front ++ (x ∷ [])) ≡ false → nat_eq x.seat s ≡ false
last_other s [] x none = (or_parts (nat_eq x.seat s) false none).0
last_other s (c ∷ front) x none = last_other s front x (or_parts (nat_eq c.seat s) (has_seat s (front ++ (x ∷ []))) none).1

last_apart : (front : List Counted) (x : Counted) → are_apart (front ++ (x ∷ [])) ≡ true → has_seat x.seat front ≡ false
last_apart [] x apart = refl
last_apart (c ∷ front) x apart =
    let other = last_other c.seat front x (first_apart c (front ++ (x ∷ [])) apart) in
    or_from (nat_eq c.seat x.seat) (has_seat x.seat front) (ne_eqb c.seat x.seat (λ e. eqb-false x.seat c.seat other (sym e)))
    (last_apart front x (rest_apart c (front ++ (x ∷ [])) apart))

front_apart : (front : List Counted) (x : Counted) → are_apart (front ++ (x ∷ [])) ≡ true → are_apart front ≡ true
front_apart [] x apart = refl
front_apart (c ∷ front) x apart =
    and_from (not (has_seat c.seat front)) (are_apart front) (ap not (seat_front c.seat front x (first_apart c (front ++ (x ∷ [])) apart)))
    (front_apart front x (rest_apart c (front ++ (x ∷ [])) apart))
  where
    seat_front : (s : ℕ) (front : List Counted) (x : Counted) → has_seat s (front ++ (x ∷ [])) ≡ false → has_seat s front ≡ false
    seat_front s [] x none = refl
    seat_front s (c ∷ front) x none =
        let parts = or_parts (nat_eq c.seat s) (has_seat s (front ++ (x ∷ []))) none in
        or_from (nat_eq c.seat s) (has_seat s front) parts.0 (seat_front s front x parts.1)

front_all : (p : Counted → Bool) (front : List Counted) (x : Counted) → list_all p (front ++ (x ∷ [])) ≡ true → list_all p front ≡ true
front_all p [] x all = refl
front_all p (c ∷ front) x all =
    let parts = and_parts (p c) (list_all p (front ++ (x ∷ []))) all in and_from (p c) (list_all p front) parts.0 (front_all p front x parts.1)

-- no reply, one more, and one fewer
pub none_of : (scheme : Scheme) → IsTallyOf [] (no_votes scheme)
none_of scheme =
    record { len = length-replicate scheme.n seat.Silent; said = λ k below. silent_seats scheme.n k; seats = refl; apart = refl }

pub more_of : (replies : List Counted) (votes : Votes) (x : Counted) → IsTallyOf replies votes → x.seat < votes.n → has_seat x.seat replies ≡ false
    → IsTallyOf (replies ++ (x ∷ [])) (with_vote votes x.seat (told_stamp x.reply))
more_of replies votes x is within first =
    let mark = told_stamp x.reply in
    let now = with_vote votes x.seat mark in
    let inside : x.seat < length votes.seats = omega (arith, is.len) in
    let nothing : seat_of votes x.seat ≡ seat.Silent = is.said x.seat within ∙ said_nothing x.seat replies first in
    let at_seat : seat_of now x.seat ≡ said_by x.seat (replies ++ (x ∷ [])) =
    get_or-set_same votes.seats x.seat (after_reply (seat_of votes x.seat) mark) seat.Silent inside
    ∙ ap (λ s. after_reply s mark) nothing ∙ sym (said_more_first x.seat replies x first refl) in
    record {
      len = length-set votes.seats x.seat (after_reply (seat_of votes x.seat) mark) ∙ is.len;
      said = λ k below. ⊎_elim
          (λ (same : k ≡ x.seat). subst (λ (z : ℕ). seat_of now z ≡ said_by z (replies ++ (x ∷ []))) (sym same) at_seat)
          (λ (other : k ≢ x.seat).
          get_or-set_other votes.seats x.seat k (after_reply (seat_of votes x.seat) mark) seat.Silent other ∙ is.said k below
          ∙ sym (said_more_other k replies x (ne_eqb x.seat k (λ e. other (sym e)))))
          (cases_eq k x.seat);
      seats = all-more (λ c. nat_lt c.seat votes.n) replies x is.seats (lt-ltb x.seat votes.n within);
      apart = apart-more replies x is.apart first;
    }

pub back_of : (front : List Counted) (votes : Votes) (x : Counted) → IsTallyOf (front ++ (x ∷ [])) votes → x.seat < votes.n
    → IsTallyOf front (without_vote votes x.seat)
back_of front votes x is within =
    let now = without_vote votes x.seat in
    let free = last_apart front x is.apart in
    let inside : x.seat < length votes.seats = omega (arith, is.len) in
    let at_seat : seat_of now x.seat ≡ said_by x.seat front =
    get_or-set_same votes.seats x.seat seat.Silent seat.Silent inside ∙ sym (said_nothing x.seat front free) in
    record {
      len = length-set votes.seats x.seat seat.Silent ∙ is.len;
      said = λ k below. ⊎_elim
          (λ (same : k ≡ x.seat). subst (λ (z : ℕ). seat_of now z ≡ said_by z front) (sym same) at_seat)
          (λ (other : k ≢ x.seat).
          get_or-set_other votes.seats x.seat k seat.Silent seat.Silent other ∙ is.said k below
          ∙ said_more_other k front x (ne_eqb x.seat k (λ e. other (sym e))))
          (cases_eq k x.seat);
      seats = front_all (λ c. nat_lt c.seat votes.n) front x is.seats;
      apart = front_apart front x is.apart;
    }

-- the last of the replies is of a seat
pub last_within : (n : ℕ) (front : List Counted) (x : Counted) → list_all (λ c. nat_lt c.seat n) (front ++ (x ∷ [])) ≡ true → x.seat < n
last_within n [] x all = ltb-true x.seat n (and_parts (nat_lt x.seat n) true all).0
last_within n (c ∷ front) x all = last_within n front x (and_parts (nat_lt c.seat n) (list_all (λ c. nat_lt c.seat n) (front ++ (x ∷ []))) all).1

-- a reply that tells a version has its stamp
stamp_is : (v : Stamp) (o : Option Stamp) → is_stamp v o ≡ true → o ≡ Some v
stamp_is v None is = absurd (false≢true is)
stamp_is v (Some w) is = ap (λ (stamp : Stamp). Some stamp) (stamp_same_true w v is)

pub found_stamp : (v : Stamp) (c : Counted) → finds v c ≡ true → told_stamp c.reply ≡ Some v
found_stamp v c is = stamp_is v (told_stamp c.reply) (reports_finds v c ∙ is)

-- where all that seats have said is one version, all replies tell it, and the other way round
all_find : (v : Stamp) (n : ℕ) (replies : List Counted) → list_all (λ c. nat_lt c.seat n) replies ≡ true → are_apart replies ≡ true
    → ((k : ℕ) → k < n → is_counted (said_by k replies) ≡ true → said_by k replies ≡ seat.Counted (Some v)) → list_all (finds v) replies ≡ true
all_find v n [] seats apart each = refl
all_find v n (c ∷ more) seats apart each =
    let parts = and_parts (nat_lt c.seat n) (list_all (λ c. nat_lt c.seat n) more) seats in
    let first = said_first c more c.seat refl in
    let says : seat.Counted (told_stamp c.reply) ≡ seat.Counted (Some v) =
    sym first ∙ each c.seat (ltb-true c.seat n parts.0) (ap is_counted first) in
    and_from (finds v c) (list_all (finds v) more) (sym (reports_finds v c) ∙ ap (reports v) says ∙ stamp_same_refl v)
    (all_find v n more parts.1 (rest_apart c more apart) (λ k below has.
    let other = ne_eqb c.seat k (λ e. false≢true (sym (subst (λ (z : ℕ). has_seat z more ≡ false) e (first_apart c more apart)) ∙ sym (said_counted k more) ∙ has)) in
    sym (said_other c more k other) ∙ each k below (ap is_counted (said_other c more k other) ∙ has)))

said_found : (v : Stamp) (k : ℕ) (replies : List Counted) → list_all (finds v) replies ≡ true → is_counted (said_by k replies) ≡ true
    → said_by k replies ≡ seat.Counted (Some v)
said_found v k [] all has = absurd (false≢true has)
said_found v k (c ∷ more) all has =
    let parts = and_parts (finds v c) (list_all (finds v) more) all in ⊎_elim
    (λ (same : c.seat ≡ k). said_first c more k same ∙ ap (λ (o : Option Stamp). seat.Counted o) (found_stamp v c parts.0))
    (λ (other : c.seat ≢ k).
    let apart = said_other c more k (ne_eqb c.seat k other) in apart ∙ said_found v k more parts.1 (ap is_counted (sym apart) ∙ has))
    (cases_eq c.seat k)

module _ (replies : List Counted) (votes : Votes) (is : IsTallyOf replies votes) (v : Stamp) where
  -- a unanimous tally's replies agree, and those that agree make a unanimous tally
  pub agreed_of : IsUnanimous votes v → IsAgreed replies v
  agreed_of u =
      record {
        some = omega (arith, u.some, count_so replies votes is);
        all = all_find v votes.n replies is.seats is.apart
            (λ k below has. sym (is.said k below) ∙ u.all k below (ap is_counted (is.said k below) ∙ has));
      }

  pub unanimous_of : IsAgreed replies v → IsUnanimous votes v
  unanimous_of agreed =
      record {
        some = omega (arith, agreed.some, count_so replies votes is);
        all = λ k below has. is.said k below ∙ said_found v k replies agreed.all (ap is_counted (sym (is.said k below)) ∙ has);
      }

-- where two claims on stamps are one, a stamp answers both
pub answers_both : (P Q : Stamp → Type 0) (o : Option Stamp) → ((v : Stamp) → P v → Q v) → ((v : Stamp) → Q v → P v)
    → MatchOption o ((v : Stamp) → ¬ (P v)) P → MatchOption o ((v : Stamp) → ¬ (Q v)) Q
answers_both P Q None forth back none = λ v q. none v (back v q)
answers_both P Q (Some v) forth back is = forth v is
