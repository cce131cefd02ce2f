-- The records that are written of a state bring it back.
use Rattle.std.proofs.Common.{◌≡◌, ℕ, suc, ◌+◌, ◌<◌, ◌≤◌, Bool, ◌&&◌, cond, leb, Option, Some, None, List, [], ◌∷◌, ◌++◌, length, set, refl, sym, ap, subst, ◌∙◌, append_assoc, arith}
use Rattle.std.specs.Prelude.{replicate}
use Rattle.std.specs.declared.cmp.Ordering.TheVariants.{Less}
use Rattle.std.specs.List.{AllByRecursion, sum_by}
use Rattle.std.specs.List.Sorted.{IsStrictlySortedBy}
use Rattle.std.specs.Map.{keys_of, values_of}
use Rattle.std.proofs.Math.Seq.{get_or-append_seam, set-append_seam}
use Rattle.std.proofs.lemmas.Bool.{lt-ltb, le-leb}
use Rattle.std.proofs.lemmas.List.{append-nil, length_push, map-append}
use Rattle.std.proofs.lemmas.List.Sums.{sum_by-cons, sum_by-append}
use Rattle.std.proofs.lemmas.Map.Keys.{sorted_head, sorted_tail}
use Rattle.fab_base.specs.declared.identities.BrickId.{BrickId}
use Rattle.fab_base.specs.declared.member_lists.View.{View}
use Rattle.fab_base.specs.declared.stamps.Ballot.{Ballot}
use Rattle.brick_state.specs.declared.groups.Group.{Group}
use Rattle.brick_state.specs.Entries.{Entry}
use Rattle.brick_state.specs.States.{Place, StripeOf, StateOf, place_cmp, weight, live_in, no_group, group_at, with_view, with_ballots, viewed, balloted, empty}
use Rattle.brick_state.specs.Folds.{Limits, applied, folded}
use Rattle.brick_state.specs.Rewrites.{learnt_number, view_record, view_records, ballot_record, ballot_records, group_records, groups_records, stripe_records, stripes_records, live_records}
use Rattle.brick_state.specs.KeptStates.{IsKeptStripe, IsLearnt, IsKeptState}
use Rattle.brick_state.proofs.Rewriting.{Leads, leads_append, leads_one, leads_folded}
use Rattle.brick_state.proofs.Growing.{Stripes, parts, IsPast}
use Rattle.brick_state.proofs.StripeRewrites.{stripe_lead}

-- ---- stripes

all_at : (P : Place → Type 0) (p : Place) (s : StripeOf Entry) (done rest : Stripes) → AllByRecursion P (keys_of (done ++ (p, s) ∷ rest)) → P p
all_at P p s [] rest all = all.0
all_at P p s (e ∷ done) rest all = all_at P p s done rest all.1

past_from_sorted : (p : Place) (s : StripeOf Entry) (done rest : Stripes) → IsStrictlySortedBy place_cmp (keys_of (done ++ (p, s) ∷ rest))
    → IsPast p done
past_from_sorted p s [] rest sorted = tt
past_from_sorted p s (e ∷ done) rest sorted = (
  all_at (λ (q : Place). place_cmp e.0 q ≡ Less) p s done rest (sorted_head place_cmp e.0 (keys_of (done ++ (p, s) ∷ rest)) sorted),
  past_from_sorted p s done rest (sorted_tail place_cmp e.0 (keys_of (done ++ (p, s) ∷ rest)) sorted),
)

live_push : (done : Stripes) (e : Place × StripeOf Entry) → live_in (done ++ e ∷ []) ≡ live_in done + weight e.1
live_push done e =
    ap (sum_by weight) (map-append (λ (f : Place × StripeOf Entry). f.1) done (e ∷ []))
    ∙ sum_by-append weight (values_of done) (e.1 ∷ []) ∙ ap (λ n. live_in done + n) (sum_by-cons weight e.1 [] ∙ omega arith)

stripes_lead : (limits : Limits) (n : ℕ) (groups : List Group) (stripes done : Stripes) → IsStrictlySortedBy place_cmp (keys_of (done ++ stripes))
    → AllByRecursion (λ e. IsKeptStripe limits e.0 e.1) stripes
    → live_in done + live_in stripes ≤ limits.records → Leads limits (stripes_records stripes) (parts n groups done)
    (parts n groups (done ++ stripes))
unfolding Leads stripes_records
stripes_lead limits n groups [] done sorted kept room = ap (parts n groups) (sym (append-nil done))
stripes_lead limits n groups (e ∷ stripes) done sorted kept room =
    let more : live_in (e ∷ stripes) ≡ weight e.1 + live_in stripes = sum_by-cons weight e.1 (values_of stripes) in
    let assoc : (done ++ e ∷ []) ++ stripes ≡ done ++ e ∷ stripes = append_assoc done (e ∷ []) stripes in
    let first = stripe_lead limits n groups e.0 e.1 done kept.0 (past_from_sorted e.0 e.1 done stripes sorted) (omega arith) in
    let sorted_on = subst (λ (xs : Stripes). IsStrictlySortedBy place_cmp (keys_of xs)) (sym assoc) sorted in
    let rest = stripes_lead limits n groups stripes (done ++ e ∷ []) sorted_on kept.1 (omega (arith, live_push done e)) in
    let both = leads_append limits (stripe_records e.0 e.1) (stripes_records stripes) (parts n groups done) (parts n groups (done ++ e ∷ []))
    (parts n groups ((done ++ e ∷ []) ++ stripes)) first rest in
    subst (λ (xs : Stripes). Leads limits (stripe_records e.0 e.1 ++ stripes_records stripes) (parts n groups done) (parts n groups xs)) assoc both

-- ---- groups

-- the groups that are done, one more, and the others
abbrev around : ℕ → List Group → Group → List Group → StateOf Entry
around n before group after = parts n (before ++ group ∷ after) []

group_of : Option (View × Bool) → Option (Ballot × Option (Ballot × List BrickId)) → Group
group_of known ballots = record { known = known; ballots = ballots }

module _ (limits : Limits) (n : ℕ) (before after : List Group) (room : length before < 64) where
  view_lead : (known : Option (View × Bool)) → IsLearnt known → Leads limits (view_records (length before) known) (around n before no_group after)
      (around n before (group_of known None) after)
  unfolding Leads applied group_of
  view_lead None learnt = refl
  view_lead (Some known) learnt = leads_one limits (view_record (length before) known) (around n before no_group after)
      (around n before (group_of (Some known) None) after) taken
    where
      taken : applied limits (view_record (length before) known) (around n before no_group after) ≡ Some
          (around n before (group_of (Some known) None) after)
      taken =
          let st = around n before no_group after in
          let at : group_at st (length before) ≡ no_group = get_or-append_seam before no_group after no_group in
          ap (λ (b : Bool). cond (b && leb 2 known.0.number.0) (Some (viewed (length before) known.0 known.1 st)) None)
          (lt-ltb (length before) 64 room)
          ∙ ap (λ (b : Bool). cond b (Some (viewed (length before) known.0 known.1 st)) None) (le-leb 2 known.0.number.0 learnt)
          ∙ ap (λ (group : Group). Some (parts n (set (before ++ no_group ∷ after) (length before) (with_view known.0 known.1 group)) [])) at
          ∙ ap (λ (groups : List Group). Some (parts n groups [])) (set-append_seam before no_group after (with_view known.0 known.1 no_group))

  ballots_lead : (known : Option (View × Bool)) (v : ℕ) (ballots : Option (Ballot × Option (Ballot × List BrickId)))
      → Leads limits (ballot_records (length before) v ballots) (around n before (group_of known None) after)
      (around n before (group_of known ballots) after)
  unfolding Leads applied group_of
  ballots_lead known v None = refl
  ballots_lead known v (Some b) = leads_one limits (ballot_record (length before) v b) (around n before (group_of known None) after)
      (around n before (group_of known (Some b)) after) taken
    where
      taken : applied limits (ballot_record (length before) v b) (around n before (group_of known None) after) ≡ Some
          (around n before (group_of known (Some b)) after)
      taken =
          let st = around n before (group_of known None) after in
          let at : group_at st (length before) ≡ group_of known None = get_or-append_seam before (group_of known None) after no_group in
          ap (λ (c : Bool). cond c (Some (balloted (length before) b.0 b.1 st)) None) (lt-ltb (length before) 64 room)
          ∙ ap (λ (group : Group). Some (parts n (set (before ++ group_of known None ∷ after) (length before) (with_ballots b.0 b.1 group)) [])) at
          ∙ ap (λ (groups : List Group). Some (parts n groups []))
          (set-append_seam before (group_of known None) after (with_ballots b.0 b.1 (group_of known None)))

  group_lead : (group : Group) → IsLearnt group.known → Leads limits (group_records (length before) group) (around n before no_group after)
      (around n before group after)
  unfolding group_of
  group_lead group learnt =
      leads_append limits (view_records (length before) group.known) (ballot_records (length before) (learnt_number group.known) group.ballots)
      (around n before no_group after) (around n before (group_of group.known None) after) (around n before group after)
      (view_lead group.known learnt) (ballots_lead group.known (learnt_number group.known) group.ballots)

groups_lead : (limits : Limits) (n g : ℕ) (groups before : List Group) → g ≡ length before → length before + length groups ≤ 64
    → AllByRecursion (λ group. IsLearnt group.known) groups
    → Leads limits (groups_records g groups) (parts n (before ++ replicate (length groups) no_group) []) (parts n (before ++ groups) [])
unfolding Leads groups_records
groups_lead limits n g [] before at room learnt = refl
groups_lead limits n g (group ∷ groups) before at room learnt =
    let others = replicate (length groups) no_group in
    let first = subst (λ (k : ℕ). Leads limits (group_records k group) (around n before no_group others) (around n before group others)) (sym at)
    (group_lead limits n before others (omega arith) group learnt.0) in
    let rest = groups_lead limits n (suc g) groups (before ++ group ∷ []) (omega (arith, length_push before group))
    (omega (arith, length_push before group)) learnt.1 in
    let moved = subst (λ (xs : List Group). Leads limits (groups_records (suc g) groups) (parts n xs [])
    (parts n ((before ++ group ∷ []) ++ groups) [])) (append_assoc before (group ∷ []) others) rest in
    let onto = subst (λ (xs : List Group). Leads limits (groups_records (suc g) groups) (around n before group others) (parts n xs []))
    (append_assoc before (group ∷ []) groups) moved in
    leads_append limits (group_records g group) (groups_records (suc g) groups) (around n before no_group others) (around n before group others)
    (parts n (before ++ group ∷ groups) []) first onto

-- ---- all of it

-- from nothing, and each of them can be
pub records_lead : (limits : Limits) (st : StateOf Entry) → IsKeptState limits st → Leads limits (live_records st) empty st
unfolding Leads applied
records_lead limits st kept =
    let none = subst (λ (k : ℕ). Leads limits (groups_records 0 st.groups) (parts st.boot (replicate k no_group) [])
    (parts st.boot st.groups [])) kept.all_groups
    (groups_lead limits st.boot 0 st.groups [] refl (omega (arith, kept.all_groups)) kept.groups) in
    let stripes = stripes_lead limits st.boot st.groups st.stripes [] kept.sorted kept.stripes (omega (arith, kept.within)) in
    let both = leads_append limits (groups_records 0 st.groups) (stripes_records st.stripes) (parts st.boot (replicate 64 no_group) [])
    (parts st.boot st.groups []) st none stripes in
    (parts st.boot (replicate 64 no_group) [], refl, both)

-- so they bring it back
pub records_bring_back : (limits : Limits) (st : StateOf Entry) → IsKeptState limits st → folded limits (live_records st) empty ≡ st
records_bring_back limits st kept = leads_folded limits (live_records st) empty st (records_lead limits st kept)
