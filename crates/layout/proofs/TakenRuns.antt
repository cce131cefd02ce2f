-- The runs of stripes that segments have taken, in a map of each run's end at its start.
use Rattle.std.proofs.Common.{◌≡◌, ◌⊎◌, inl, inr, ℕ, ◌+◌, ◌<◌, ◌≤◌, nat_eq, nat_lt, Bool, true, false, not, ◌&&◌, ◌||◌, List, [], ◌∷◌, ◌++◌, length, take, drop, get_or, zero, suc, Some, None, IsSome, is_some, refl, sym, ap, subst, ◌∙◌, true≢false, Less, append-nil, append_assoc, take_all, drop_of_length-le, arith}
use Rattle.std.specs.BTreeMap.{BTreeMap, get, is_at}
use Rattle.std.specs.BTreeMap.Range.{IsRangeOf}
use Rattle.std.specs.declared.ops.Bound.TheVariants.{Excluded, Unbounded}
use Rattle.std.specs.List.{AllByRecursion}
use Rattle.std.specs.Map.{lookup}
use Rattle.std.specs.Ordering.{nat_cmp}
use Rattle.std.proofs.lemmas.Bool.{and_parts, and_from, or_cases, cases_lt, cases_order, cases_eq, not-true}
use Rattle.std.proofs.lemmas.Bool.Decides.{nat_tests}
use Rattle.std.proofs.lemmas.List.{at_drop_more, take_more}
use Rattle.std.proofs.lemmas.List.Folds.{list_any-append}
use Rattle.std.proofs.lemmas.Cmp.{ranked}
use Rattle.std.proofs.lemmas.Map.Keys.{ge_from_not_lt}
use Rattle.fab_base.specs.declared.segments.Segment.{Segment}
use Rattle.layout.specs.Segments.{shares_stripe, is_taken, are_free}
use Rattle.layout.specs.Runs.{start_of, end_of, reaches, one_reaches, HasOwnPlaces, HasRuns, TellsTaken, Takes, TakesAll}

-- ---- tests

below_from : (a b : ℕ) → nat_lt a b ≡ true → a < b
below_from a b is = grind (arith, nat_tests, is)

test_below : (a b : ℕ) → a < b → nat_lt a b ≡ true
test_below a b below = grind (arith, nat_tests, below)

equal_from : (a b : ℕ) → nat_eq a b ≡ true → a ≡ b
equal_from a b is = grind (arith, nat_tests, is)

test_equal : (a b : ℕ) → a ≡ b → nat_eq a b ≡ true
test_equal a b same = grind (arith, nat_tests, same)

-- two tests of which each passes where the other does
same_test : (a b : Bool) → (a ≡ true → b ≡ true) → (b ≡ true → a ≡ true) → a ≡ b
same_test true b to from = sym (to refl)
same_test false true to from = from refl
same_test false false to from = refl

first_passes : (a b : Bool) → a ≡ true → (a || b) ≡ true
first_passes a b passes = ap (λ (x : Bool). x || b) passes

second_passes : (a b : Bool) → b ≡ true → (a || b) ≡ true
second_passes true b passes = refl
second_passes false b passes = passes

-- ---- segments as runs of places

-- two segments that are runs have a stripe in common where the one reaches into the run of the other
shares_reach : (s t : Segment) → HasOwnPlaces s → HasOwnPlaces t → shares_stripe s t ≡ reaches (start_of t) (end_of t) s
shares_reach s t run other = same_test (shares_stripe s t) (reaches (start_of t) (end_of t) s) to from
  where
    to : shares_stripe s t ≡ true → reaches (start_of t) (end_of t) s ≡ true
    to all =
        let outer =
        and_parts (nat_eq s.group.0 t.group.0) (nat_lt s.first.0 (t.first.0 + t.stripes) && nat_lt t.first.0 (s.first.0 + s.stripes)) all in
        let inner = and_parts (nat_lt s.first.0 (t.first.0 + t.stripes)) (nat_lt t.first.0 (s.first.0 + s.stripes)) outer.1 in
        let same : s.group.0 ≡ t.group.0 = equal_from s.group.0 t.group.0 outer.0 in
        let low : s.first.0 < t.first.0 + t.stripes = below_from s.first.0 (t.first.0 + t.stripes) inner.0 in
        let high : t.first.0 < s.first.0 + s.stripes = below_from t.first.0 (s.first.0 + s.stripes) inner.1 in
        and_from (nat_lt (start_of s) (end_of t)) (nat_lt (start_of t) (end_of s))
        (test_below (start_of s) (end_of t) (omega (arith, same, low))) (test_below (start_of t) (end_of s) (omega (arith, same, high)))

    from : reaches (start_of t) (end_of t) s ≡ true → shares_stripe s t ≡ true
    from both =
        let parts = and_parts (nat_lt (start_of s) (end_of t)) (nat_lt (start_of t) (end_of s)) both in
        let low : start_of s < end_of t = below_from (start_of s) (end_of t) parts.0 in
        let high : start_of t < end_of s = below_from (start_of t) (end_of s) parts.1 in
        let same : s.group.0 ≡ t.group.0 = omega (arith, low, high, run.near, run.few_stripes, other.near, other.few_stripes) in
        let first : s.first.0 < t.first.0 + t.stripes = omega (arith, same, low) in
        let second : t.first.0 < s.first.0 + s.stripes = omega (arith, same, high) in
        and_from (nat_eq s.group.0 t.group.0) (nat_lt s.first.0 (t.first.0 + t.stripes) && nat_lt t.first.0 (s.first.0 + s.stripes))
        (test_equal s.group.0 t.group.0 same)
        (and_from (nat_lt s.first.0 (t.first.0 + t.stripes)) (nat_lt t.first.0 (s.first.0 + s.stripes))
        (test_below s.first.0 (t.first.0 + t.stripes) first) (test_below t.first.0 (s.first.0 + s.stripes) second))

-- a stripe of a run is taken where one of the segments reaches into the run
taken_reach : (segments : List Segment) (t : Segment) → AllByRecursion HasOwnPlaces segments → HasOwnPlaces t
    → is_taken segments t ≡ one_reaches (start_of t) (end_of t) segments
taken_reach [] t runs run = refl
taken_reach (s ∷ segments) t runs run =
    ap (λ (b : Bool). b || is_taken segments t) (shares_reach s t runs.0 run)
    ∙ ap (λ (b : Bool). reaches (start_of t) (end_of t) s || b) (taken_reach segments t runs.1 run)

-- ---- what the last run before an end tells

-- a run that starts no later ends no later
ends_first : (ends : BTreeMap ℕ ℕ) (segments : List Segment) (first last f l : ℕ) → HasRuns ends segments → get nat_cmp ends first ≡ Some last
    → get nat_cmp ends f ≡ Some l → f ≤ first → l ≤ last
ends_first ends segments first last f l has here there upto = by_order (cases_order f first)
  where
    by_order : ((f ≡ first) ⊎ ((f < first) ⊎ (first < f))) → l ≤ last
    by_order (inl same) =
        let values : Some l ≡ Some last = sym there ∙ ap (λ (k : ℕ). get nat_cmp ends k) same ∙ here in
        let l_is : l ≡ last = cc in
        omega (arith, l_is)
    by_order (inr (inl before)) =
        let apart : l ≤ first = has.apart f l first last there here before in
        let long : first < last = has.long first last here in
        omega (arith, apart, long)
    by_order (inr (inr after)) = omega (arith, after, upto)

-- the run that starts last before the end is the only one that need be looked at
pub told : (ends : BTreeMap ℕ ℕ) (start end first last : ℕ) → get nat_cmp ends first ≡ Some last → first < end
    → ((q : ℕ) → q < end → IsSome (get nat_cmp ends q) → q ≤ first) → TellsTaken ends start end (nat_lt start last)
told ends start end first last here before greatest =
    λ segments has. same_test (nat_lt start last) (one_reaches start end segments)
    (λ short. has.only start end first last here before (below_from start last short))
    (λ one. test_below start last (within segments has (has.each start end one)))
  where
    within : (segments : List Segment) → HasRuns ends segments
        → ((f : ℕ) × (l : ℕ) × (get nat_cmp ends f ≡ Some l) × (f < end) × (start < l)) → start < last
    within segments has (f, l, there, low, high) =
        let found : IsSome (get nat_cmp ends f) = ap is_some there in
        let upto : l ≤ last = ends_first ends segments first last f l has here there (greatest f low found) in
        omega (arith, upto, high)

-- where no run starts before the end, none of the places is taken
pub told_none : (ends : BTreeMap ℕ ℕ) (start end : ℕ) → ((q : ℕ) → q < end → get nat_cmp ends q ≡ None) → TellsTaken ends start end false
told_none ends start end none =
    λ segments has. same_test false (one_reaches start end segments) (λ (e : false ≡ true). absurd (true≢false (sym e)))
    (λ one. absurd (missing (has.each start end one)))
  where
    missing : ((f : ℕ) × (l : ℕ) × (get nat_cmp ends f ≡ Some l) × (f < end) × (start < l)) → ⊥
    missing (f, l, there, low, high) = let never : None ≡ Some l = sym (none f low) ∙ there in cc

-- ---- one run more

-- the map has one entry more
pub record IsPut (old new : BTreeMap ℕ ℕ) (k e : ℕ) : Type 0 where
  pub here : get nat_cmp new k ≡ Some e
  pub others : (q : ℕ) → (q ≡ k → ⊥) → get nat_cmp new q ≡ get nat_cmp old q

-- an entry is the new one, or was there
entry_of : (old new : BTreeMap ℕ ℕ) (k e : ℕ) → IsPut old new k e → (q v : ℕ) → get nat_cmp new q ≡ Some v
    → ((q ≡ k) × (v ≡ e)) ⊎ (get nat_cmp old q ≡ Some v)
entry_of old new k e put q v is = by_key (cases_eq q k)
  where
    by_key : ((q ≡ k) ⊎ (q ≡ k → ⊥)) → ((q ≡ k) × (v ≡ e)) ⊎ (get nat_cmp old q ≡ Some v)
    by_key (inl same) =
        let values : Some v ≡ Some e = sym is ∙ ap (λ (j : ℕ). get nat_cmp new j) same ∙ put.here in
        let v_is : v ≡ e = cc in
        inl (same, v_is)
    by_key (inr apart) = inr (sym (put.others q apart) ∙ is)

-- no run reaches into one that is free
no_meeting : (old : BTreeMap ℕ ℕ) (segments : List Segment) (k e : ℕ) → HasRuns old segments → one_reaches k e segments ≡ false
    → (q v : ℕ) → get nat_cmp old q ≡ Some v → q < e → k < v → ⊥
no_meeting old segments k e has free q v here low high = true≢false (sym (has.only k e q v here low high) ∙ free)

-- the segments and one more, whose run is free
put_run : (old new : BTreeMap ℕ ℕ) (segments : List Segment) (s : Segment) → HasRuns old segments → HasOwnPlaces s
    → one_reaches (start_of s) (end_of s) segments ≡ false → IsPut old new (start_of s) (end_of s) → HasRuns new (segments ++ (s ∷ []))
put_run old new segments s has run free put = record { runs = all_runs segments has.runs; long = long; apart = apart; only = only; each = each }
  where
    all_runs : (xs : List Segment) → AllByRecursion HasOwnPlaces xs → AllByRecursion HasOwnPlaces (xs ++ (s ∷ []))
    all_runs [] all = (run, tt)
    all_runs (x ∷ xs) all = (all.0, all_runs xs all.1)

    one_long : (q v : ℕ) → (((q ≡ start_of s) × (v ≡ end_of s)) ⊎ (get nat_cmp old q ≡ Some v)) → q < v
    one_long q v (inl is) = omega (arith, is.0, is.1, run.some_stripe)
    one_long q v (inr is) = has.long q v is

    long : (q v : ℕ) → get nat_cmp new q ≡ Some v → q < v
    long q v is = one_long q v (entry_of old new (start_of s) (end_of s) put q v is)

    before_old : (next last : ℕ) → get nat_cmp old next ≡ Some last → start_of s < next → ((next < end_of s) ⊎ (end_of s ≤ next)) → end_of s ≤ next
    before_old next last is low (inl below) =
        let last_long : next < last = has.long next last is in
        let meet : start_of s < last = omega (arith, low, last_long) in
        absurd (no_meeting old segments (start_of s) (end_of s) has free next last is below meet)
    before_old next last is low (inr above) = above

    after_old : (start end : ℕ) → get nat_cmp old start ≡ Some end → start < start_of s → ((start_of s < end) ⊎ (end ≤ start_of s)) → end ≤ start_of s
    after_old start end is low (inl below) =
        let meet : start < end_of s = omega (arith, low, run.some_stripe) in
        absurd (no_meeting old segments (start_of s) (end_of s) has free start end is meet below)
    after_old start end is low (inr above) = above

    two_apart : (start end next last : ℕ) → start < next → (((start ≡ start_of s) × (end ≡ end_of s)) ⊎ (get nat_cmp old start ≡ Some end))
        → (((next ≡ start_of s) × (last ≡ end_of s)) ⊎ (get nat_cmp old next ≡ Some last)) → end ≤ next
    two_apart start end next last low (inl a) (inl b) = omega (arith, low, a.0, b.0)
    two_apart start end next last low (inl a) (inr b) =
        let here : start_of s < next = omega (arith, low, a.0) in
        let upto : end_of s ≤ next = before_old next last b here (cases_lt next (end_of s)) in
        omega (arith, a.1, upto)
    two_apart start end next last low (inr a) (inl b) =
        let here : start < start_of s = omega (arith, low, b.0) in
        let upto : end ≤ start_of s = after_old start end a here (cases_lt (start_of s) end) in
        omega (arith, b.0, upto)
    two_apart start end next last low (inr a) (inr b) = has.apart start end next last a b low

    apart : (start end next last : ℕ) → get nat_cmp new start ≡ Some end → get nat_cmp new next ≡ Some last → start < next → end ≤ next
    apart start end next last a b low =
        two_apart start end next last low (entry_of old new (start_of s) (end_of s) put start end a)
        (entry_of old new (start_of s) (end_of s) put next last b)

    one_only : (start end first last : ℕ) → first < end → start < last
        → (((first ≡ start_of s) × (last ≡ end_of s)) ⊎ (get nat_cmp old first ≡ Some last))
        → (one_reaches start end segments || one_reaches start end (s ∷ [])) ≡ true
    one_only start end first last low high (inl is) =
        let starts : start_of s < end = omega (arith, low, is.0) in
        let stops : start < end_of s = omega (arith, high, is.1) in
        second_passes (one_reaches start end segments) (one_reaches start end (s ∷ []))
        (first_passes (reaches start end s) false
        (and_from (nat_lt (start_of s) end) (nat_lt start (end_of s)) (test_below (start_of s) end starts) (test_below start (end_of s) stops)))
    one_only start end first last low high (inr is) =
        first_passes (one_reaches start end segments) (one_reaches start end (s ∷ [])) (has.only start end first last is low high)

    only : (start end first last : ℕ) → get nat_cmp new first ≡ Some last → first < end → start < last
        → one_reaches start end (segments ++ (s ∷ [])) ≡ true
    only start end first last is low high =
        list_any-append (reaches start end) segments (s ∷ [])
        ∙ one_only start end first last low high (entry_of old new (start_of s) (end_of s) put first last is)

    stays : (start end f l : ℕ) → get nat_cmp old f ≡ Some l → ((f ≡ start_of s) ⊎ (f ≡ start_of s → ⊥)) → get nat_cmp new f ≡ Some l
    stays start end f l is (inl same) =
        let long_old : f < l = has.long f l is in
        let low : f < end_of s = omega (arith, same, run.some_stripe) in
        let high : start_of s < l = omega (arith, same, long_old) in
        absurd (no_meeting old segments (start_of s) (end_of s) has free f l is low high)
    stays start end f l is (inr other) = put.others f other ∙ is

    from_old : (start end : ℕ) → ((f : ℕ) × (l : ℕ) × (get nat_cmp old f ≡ Some l) × (f < end) × (start < l))
        → (f : ℕ) × (l : ℕ) × (get nat_cmp new f ≡ Some l) × (f < end) × (start < l)
    from_old start end (f, l, is, low, high) = (f, l, stays start end f l is (cases_eq f (start_of s)), low, high)

    from_last : (start end : ℕ) → ((reaches start end s ≡ true) ⊎ (false ≡ true))
        → (f : ℕ) × (l : ℕ) × (get nat_cmp new f ≡ Some l) × (f < end) × (start < l)
    from_last start end (inl here) =
        let parts = and_parts (nat_lt (start_of s) end) (nat_lt start (end_of s)) here in
        (start_of s, end_of s, put.here, below_from (start_of s) end parts.0, below_from start (end_of s) parts.1)
    from_last start end (inr never) = absurd (true≢false (sym never))

    one_each : (start end : ℕ) → ((one_reaches start end segments ≡ true) ⊎ (one_reaches start end (s ∷ []) ≡ true))
        → (f : ℕ) × (l : ℕ) × (get nat_cmp new f ≡ Some l) × (f < end) × (start < l)
    one_each start end (inl was) = from_old start end (has.each start end was)
    one_each start end (inr is) = from_last start end (or_cases (reaches start end s) false is)

    each : (start end : ℕ) → one_reaches start end (segments ++ (s ∷ [])) ≡ true
        → (f : ℕ) × (l : ℕ) × (get nat_cmp new f ≡ Some l) × (f < end) × (start < l)
    each start end one =
        one_each start end (or_cases (one_reaches start end segments) (one_reaches start end (s ∷ []))
        (sym (list_any-append (reaches start end) segments (s ∷ [])) ∙ one))

-- a query for a number is at its own key
is_at_number : (k q : ℕ) → is_at (nat_cmp k) q ≡ nat_eq q k
is_at_number k q = grind (arith, nat_tests)

other_key : (k q : ℕ) → (q ≡ k → ⊥) → is_at (nat_cmp k) q ≡ false
other_key k q apart = is_at_number k q ∙ by_test (nat_eq q k) refl
  where
    by_test : (b : Bool) → nat_eq q k ≡ b → nat_eq q k ≡ false
    by_test true is = absurd (apart (equal_from q k is))
    by_test false is = is

-- what an insertion says
pub put_from : (old new : BTreeMap ℕ ℕ) (k e : ℕ) → get nat_cmp new k ≡ Some e
    → ((q : ℕ) → is_at (nat_cmp k) q ≡ false → get nat_cmp new q ≡ get nat_cmp old q) → IsPut old new k e
put_from old new k e here others = record { here = here; others = λ q apart. others q (other_key k q apart) }

-- a free run is taken
pub took : (old new : BTreeMap ℕ ℕ) (s : Segment) → HasOwnPlaces s → TellsTaken old (start_of s) (end_of s) false
    → IsPut old new (start_of s) (end_of s) → Takes old new s true
took old new s run tells put =
    λ segments has. let free : is_taken segments s ≡ false = taken_reach segments s has.runs run ∙ sym (tells segments has) in
    (sym (ap (λ (b : Bool). not b) free), λ _. put_run old new segments s has run (sym (tells segments has)) put)

-- a run that is not free is left
pub left : (old : BTreeMap ℕ ℕ) (new : BTreeMap ℕ ℕ) (s : Segment) → HasOwnPlaces s → TellsTaken old (start_of s) (end_of s) true → Takes old new s false
left old new s run tells =
    λ segments has. let taken : is_taken segments s ≡ true = taken_reach segments s has.runs run ∙ sym (tells segments has) in
    (sym (ap (λ (b : Bool). not b) taken), λ (never : false ≡ true). absurd (true≢false (sym never)))

-- the same, of a run by its numbers
test_at : (old : BTreeMap ℕ ℕ) (s : Segment) (start end : ℕ) (free taken : Bool) → start ≡ start_of s → end ≡ start + s.stripes
    → TellsTaken old start end taken → taken ≡ free → TellsTaken old (start_of s) (end_of s) free
test_at old s start end free taken start_is end_is tells taken_is =
    subst (λ (n : ℕ). TellsTaken old n (n + s.stripes) free) start_is
    (subst (λ (n : ℕ). TellsTaken old start n free) end_is (subst (λ (b : Bool). TellsTaken old start end b) taken_is tells))

pub left_at : (old new : BTreeMap ℕ ℕ) (s : Segment) (start end : ℕ) (taken : Bool) → HasOwnPlaces s → start ≡ start_of s
    → end ≡ start + s.stripes → TellsTaken old start end taken → taken ≡ true → Takes old new s false
left_at old new s start end taken run start_is end_is tells is =
    left old new s run (test_at old s start end true taken start_is end_is tells is)

pub took_at : (old new : BTreeMap ℕ ℕ) (s : Segment) (start end : ℕ) (taken : Bool) → HasOwnPlaces s → start ≡ start_of s
    → end ≡ start + s.stripes → TellsTaken old start end taken → taken ≡ false → get nat_cmp new start ≡ Some end
    → ((q : ℕ) → is_at (nat_cmp start) q ≡ false → get nat_cmp new q ≡ get nat_cmp old q) → Takes old new s true
took_at old new s start end taken run start_is end_is tells is here others =
    took old new s run (test_at old s start end false taken start_is end_is tells is)
    (subst (λ (n : ℕ). IsPut old new n (n + s.stripes)) start_is
    (subst (λ (n : ℕ). IsPut old new start n) end_is (put_from old new start end here others)))

-- ---- what a range of the map says

less : (a b : ℕ) → a < b → nat_cmp a b ≡ Less
less a b below = grind (arith, nat_tests, below)

-- the last entry before the end
pub told_last : (ends : BTreeMap ℕ ℕ) (start end : ℕ) (r t : List (ℕ × ℕ)) (e : ℕ × ℕ) → IsRangeOf nat_cmp Unbounded (Excluded end) ends r
    → r ≡ t ++ (e ∷ []) → TellsTaken ends start end (nat_lt start e.1)
told_last ends start end r t e range steps =
    let here = range.3 e t steps in
    told ends start end e.0 e.1 here.1 (ranked e.0 end Less (sym here.0.1))
    (λ q below found. ge_from_not_lt e.0 q (range.4 e t steps q (tt, less q end below) found))

-- no entry before the end
pub told_empty : (ends : BTreeMap ℕ ℕ) (start end : ℕ) (r : List (ℕ × ℕ)) → IsRangeOf nat_cmp Unbounded (Excluded end) ends r → r ≡ []
    → TellsTaken ends start end false
told_empty ends start end r range empty = told_none ends start end (λ q below. range.5 empty q (tt, less q end below))

-- ---- some segments, one after another

-- what is true of each of some elements is true at a place
pub at_place : {X : Type 0} (P : X → Type 0) (xs : List X) (i : ℕ) (d : X) → AllByRecursion P xs → i < length xs → P (get_or xs i d)
at_place P [] i d all below = absurd (omega (arith, below))
at_place P (x ∷ xs) zero d all below = all.0
at_place P (x ∷ xs) (suc i) d all below = at_place P xs i d all.1 (omega (arith, below))

-- the segment at a place comes before the rest
free_at : (before segments : List Segment) (i : ℕ) (d : Segment) → i < length segments
    → are_free (before ++ take i segments) (drop i segments)
    ≡ (not (is_taken (before ++ take i segments) (get_or segments i d)) && are_free (before ++ take (i + 1) segments) (drop (i + 1) segments))
free_at before segments i d below =
    let so_far : List Segment = before ++ take i segments in
    let here : Segment = get_or segments i d in
    let longer : so_far ++ (here ∷ []) ≡ before ++ take (i + 1) segments =
    append_assoc before (take i segments) (here ∷ []) ∙ ap (λ (xs : List Segment). before ++ xs) (sym (take_more segments i d below)) in
    at_drop_more (are_free so_far) segments i d below
    ∙ ap (λ (xs : List Segment). not (is_taken so_far here) && are_free xs (drop (i + 1) segments)) longer

-- what the loop over the segments keeps: so many are taken, and the rest decides
abbrev pub SoFar : BTreeMap ℕ ℕ → BTreeMap ℕ ℕ → List Segment → ℕ → Type 0
SoFar old now more i =
    (segments : List Segment) → HasRuns old segments
    → HasRuns now (segments ++ take i more) × (are_free segments more ≡ are_free (segments ++ take i more) (drop i more))

-- nothing is taken at first
pub none_yet : (ends : BTreeMap ℕ ℕ) (more : List Segment) → SoFar ends ends more 0
none_yet ends more =
    λ segments has. (
      subst (HasRuns ends) (sym (append-nil segments)) has,
      ap (λ (xs : List Segment). are_free xs more) (sym (append-nil segments)),
    )

-- one more was free
pub more_taken : (old now next : BTreeMap ℕ ℕ) (more : List Segment) (i : ℕ) (d : Segment) → i < length more → SoFar old now more i
    → Takes now next (get_or more i d) true → SoFar old next more (i + 1)
more_taken old now next more i d below so_far takes =
    λ segments has.
    let was = so_far segments has in
    let one = takes (segments ++ take i more) was.0 in
    let longer : (segments ++ take i more) ++ (get_or more i d ∷ []) ≡ segments ++ take (i + 1) more =
    append_assoc segments (take i more) (get_or more i d ∷ [])
    ∙ ap (λ (xs : List Segment). segments ++ xs) (sym (take_more more i d below)) in
    let free : is_taken (segments ++ take i more) (get_or more i d) ≡ false = not-true (is_taken (segments ++ take i more) (get_or more i d)) (sym one.0) in (
      subst (HasRuns next) longer (one.1 refl),
      was.1 ∙ free_at segments more i d below
          ∙ ap (λ (b : Bool). not b && are_free (segments ++ take (i + 1) more) (drop (i + 1) more)) free,
    )

taken_from : (b : Bool) → false ≡ not b → b ≡ true
taken_from true is = refl
taken_from false is = absurd (true≢false (sym is))

-- one was not
pub one_taken : (old now next : BTreeMap ℕ ℕ) (more : List Segment) (i : ℕ) (d : Segment) → i < length more → SoFar old now more i
    → Takes now next (get_or more i d) false → TakesAll old next more false
one_taken old now next more i d below so_far takes =
    λ segments has.
    let was = so_far segments has in
    let one = takes (segments ++ take i more) was.0 in
    let taken : is_taken (segments ++ take i more) (get_or more i d) ≡ true = taken_from (is_taken (segments ++ take i more) (get_or more i d)) one.0 in (
      sym (was.1 ∙ free_at segments more i d below
          ∙ ap (λ (b : Bool). not b && are_free (segments ++ take (i + 1) more) (drop (i + 1) more)) taken),
      λ (never : false ≡ true). absurd (true≢false (sym never)),
    )

-- all were free
pub all_taken : (old now : BTreeMap ℕ ℕ) (more : List Segment) (i : ℕ) → length more ≤ i → SoFar old now more i → TakesAll old now more true
all_taken old now more i past so_far =
    λ segments has.
    let was = so_far segments has in
    let all : take i more ≡ more = take_all i more past in (
      sym (was.1 ∙ ap (λ (xs : List Segment). are_free (segments ++ take i more) xs) (drop_of_length-le more past)),
      λ _. subst (λ (xs : List Segment). HasRuns now (segments ++ xs)) all was.0,
    )

-- an empty map has the runs of no segments
pub no_runs : (ends : BTreeMap ℕ ℕ) → ends.entries ≡ [] → HasRuns ends []
no_runs ends empty =
    record {
      runs = tt;
      long = λ start end is. absurd (nothing start end is);
      apart = λ start end next last is other low. absurd (nothing start end is);
      only = λ start end first last is low high. absurd (nothing first last is);
      each = λ start end (one : false ≡ true). absurd (true≢false (sym one));
    }
  where
    nothing : (k e : ℕ) → get nat_cmp ends k ≡ Some e → ⊥
    nothing k e is =
        let never : None ≡ Some e = sym (ap (λ (es : List (ℕ × ℕ)). lookup (is_at (nat_cmp k)) es) empty) ∙ is in
        cc
