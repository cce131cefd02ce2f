-- A brick counts its live records: each order stamp above the first one, and each version but the one from the start. So no log is longer than that
-- count by more than one.
use Rattle.view_laws.proofs.Syncing.{synced_of}
use Rattle.std.proofs.lemmas.Option.{same_Some}
use Rattle.std.proofs.Common.{lt-ltb, le-ltb, ◌≡◌, ◌≢◌, ℕ, zero, suc, ◌+◌, ◌-◌, ◌≤◌, ◌<◌, Bool, true, false, not, ◌&&◌, cond, List, [], ◌∷◌, ◌++◌, length, Option, Some, None, refl, sym, ap, ◌∙◌, subst, ⊎_elim, arith, length-append, replicate, ltb-false}
use Rattle.std.specs.Prelude.{slice_get, nat_eq, nat_lt, if◌then◌else◌}
use Rattle.std.proofs.lemmas.Bool.{cond_both, cond-false, cond-true, cases_Bool, cases_eq, false≢true, and_parts, ltb-true, cases_lt, eqb-false}
use Rattle.std.proofs.lemmas.List.Filters.{length-filter_both}
use Rattle.fab_base.specs.declared.identities.BrickId.{BrickId}
use Rattle.fab_base.specs.declared.stamps.Stamp.{Stamp}
use Rattle.fab_base.specs.Stamps.{stamp_below, stamp_same, first_stamp}
use Rattle.fab_base.proofs.StampOrder.{stamp_below_first, stamp_not_below_trans, stamp_neither_below, stamp_same_true, stamp_same_refl}
use Rattle.fab_base.specs.Layouts.{Layout, Group, group_of}
use Rattle.messages.specs.declared.requests.Version.{Version}
use Rattle.messages.specs.declared.requests.Request.{Request}
use Rattle.messages.specs.declared.requests.Request.TheVariants.{Read, Order, OrderRead, Write, Modify, Collect, OldRead, Prepare, Accept}
use Rattle.messages.specs.declared.replies.Reply.{Reply}
use Rattle.messages.specs.declared.replies.Reply.TheVariants.{Later, Stored, Ordered, OrderedRead}
use Rattle.protocol.specs.Settings.{Code}
use Rattle.protocol.specs.Replicas.{Replica, Reaction, top_of, is_held, is_wanted, told_version, looked_up, stays, unless_full, promised, stored, below, not_below, drops_start, collected, ignored, handle, modified_block, first_replica, fresh_replica, modified_on, newest_of}
use Rattle.messages.specs.declared.calls.Call.{Call}
use Rattle.fab_base.specs.declared.member_lists.View.{View}
use Rattle.protocol.specs.Views.{Learnt, is_later, kept_by, first_kept}
use Rattle.protocol.specs.Nodes.{Node, NodeStep, put, requested, with_replica, with_learnt, replica_at, full_at, group_at, live_before, view_at}
use Rattle.protocol.specs.Worlds.{World, Event, first_brick, first_world, run}
use Rattle.protocol.specs.Settings.{Setting}
use Rattle.protocol_laws.proofs.StampViews.{NodeViews}
use Rattle.protocol_laws.proofs.Teaching.{newly_learnt, dropped_each}
use Rattle.std.specs.Option.{option_map}
use Rattle.protocol.proofs.Served.{parts_each, request_each}
use Rattle.protocol.proofs.Tables.{put_same}
use Rattle.protocol.proofs.Puts.{put_other}
use Rattle.calm_laws.proofs.Kept.{IsLike, always_kept}
use Rattle.protocol_laws.proofs.Reactions.{top_order, modified_each}

-- one, where it is so
abbrev pub one_where : Bool → ℕ
one_where b = if b then 1 else 0

-- how many live records a part has
abbrev pub weight : Replica → ℕ
weight r = one_where (not (stamp_same r.order first_stamp)) + (length r.log - one_where r.from_start)

-- a log that still begins with the first version does
abbrev pub Begins : Replica → Type 0
Begins r = r.from_start ≡ true → (x : Version) × (rest : List Version) × (r.log ≡ x ∷ rest) × (x.stamp ≡ first_stamp)

-- what a member does with a request changes its count by what it says, and leaves the beginning of its log
pub record Weighs (r : Replica) (z : Reaction) : Type 0 where
  pub weight_is : weight z.replica + z.drops ≡ weight r + z.adds
  pub begins : Begins z.replica

stays_weighs : (r : Replica) (reply : Reply) → Begins r → Weighs r (stays r reply)
stays_weighs r reply begins = record { weight_is = refl; begins = begins }

full_weighs : (full : Option ℕ) (r : Replica) (z : Reaction) → Begins r → Weighs r z → Weighs r (unless_full full r z)
full_weighs None r z begins weighs = weighs
full_weighs (Some live) r z begins weighs =
    cond_both (nat_lt z.drops z.adds) (stays r (Reply.Full live)) z (λ (x : Reaction). Weighs r x) (λ more. stays_weighs r (Reply.Full live) begins)
    (λ same. weighs)

-- a stamp at or above one that is not the first is not the first
not_first_above : (order t : Stamp) → stamp_below t order ≡ false → stamp_same order first_stamp ≡ false → stamp_same t first_stamp ≡ false
not_first_above order t above other = ⊎_elim
    (λ (first : stamp_same t first_stamp ≡ true).
    let same : t ≡ first_stamp = stamp_same_true t first_stamp first in
    let one : order ≡ first_stamp
    = stamp_neither_below order first_stamp (stamp_below_first order) (subst (λ (z : Stamp). stamp_below z order ≡ false) same above) in
    absurd (false≢true (sym other ∙ subst (λ (z : Stamp). stamp_same z first_stamp ≡ true) (sym one) (stamp_same_refl first_stamp))))
    (λ (isnt : stamp_same t first_stamp ≡ false). isnt)
    (cases_Bool (stamp_same t first_stamp))

promised_weighs : (r : Replica) (t : Stamp) (reply : Reply) → Begins r → stamp_below t (top_of r) ≡ false → Weighs r (promised r t reply)
promised_weighs r t reply begins at = record {
  weight_is = by (stamp_same r.order first_stamp) (stamp_same t first_stamp) refl refl;
  begins = begins;
}
  where
    above : stamp_below t r.order ≡ false
    above = stamp_not_below_trans r.order (top_of r) t (top_order r) at

    rest : ℕ
    rest = length r.log - one_where r.from_start

    by : (a b : Bool) → stamp_same r.order first_stamp ≡ a → stamp_same t first_stamp ≡ b
        → one_where (not (stamp_same t first_stamp)) + (length r.log - one_where r.from_start) + 0
        ≡ one_where (not (stamp_same r.order first_stamp)) + (length r.log - one_where r.from_start)
        + (if stamp_same r.order first_stamp && not (stamp_same t first_stamp) then 1 else 0)
    by true true a_is b_is =
        ap (λ (b : Bool). one_where (not b) + (length r.log - one_where r.from_start) + 0) b_is
        ∙ (let same : 0 + (length r.log - one_where r.from_start) + 0 ≡ 0 + (length r.log - one_where r.from_start) + 0 = refl in same)
        ∙ sym (ap (λ (b : Bool). one_where (not (stamp_same r.order first_stamp)) + (length r.log - one_where r.from_start)
        + (if stamp_same r.order first_stamp && not b then 1 else 0)) b_is
        ∙ ap (λ (a : Bool). one_where (not a) + (length r.log - one_where r.from_start) + (if a && false then 1 else 0)) a_is)
    by true false a_is b_is =
        ap (λ (b : Bool). one_where (not b) + (length r.log - one_where r.from_start) + 0) b_is
        ∙ (let same : 1 + (length r.log - one_where r.from_start) + 0 ≡ 0 + (length r.log - one_where r.from_start) + 1 = omega arith in same)
        ∙ sym (ap (λ (b : Bool). one_where (not (stamp_same r.order first_stamp)) + (length r.log - one_where r.from_start)
        + (if stamp_same r.order first_stamp && not b then 1 else 0)) b_is
        ∙ ap (λ (a : Bool). one_where (not a) + (length r.log - one_where r.from_start) + (if a && true then 1 else 0)) a_is)
    by false b a_is b_is =
        ap (λ (c : Bool). one_where (not c) + (length r.log - one_where r.from_start) + 0) (not_first_above r.order t above a_is)
        ∙ sym (ap (λ (a : Bool). one_where (not a) + (length r.log - one_where r.from_start)
        + (if a && not (stamp_same t first_stamp) then 1 else 0)) a_is)

stored_weighs : (r : Replica) (t : Stamp) (block : List ℕ) → Begins r → Weighs r (stored r t block)
stored_weighs r t block begins = record {
  weight_is =
      let longer : length (r.log ++ (record { stamp = t; block = block } ∷ [])) ≡ length r.log + 1
      = length-append r.log (record { stamp = t; block = block } ∷ []) in
      by r.from_start refl longer;
  begins = λ starts. let was = begins starts in (
    was.0,
    was.1 ++ (record { stamp = t; block = block } ∷ []),
    ap (λ (l : List Version). l ++ (record { stamp = t; block = block } ∷ [])) was.2,
    was.3,
  );
}
  where
    by : (b : Bool) → r.from_start ≡ b → length (r.log ++ (record { stamp = t; block = block } ∷ [])) ≡ length r.log + 1
        → one_where (not (stamp_same r.order first_stamp)) + (length (r.log ++ (record { stamp = t; block = block } ∷ [])) - one_where r.from_start) + 0
        ≡ one_where (not (stamp_same r.order first_stamp)) + (length r.log - one_where r.from_start) + 1
    by true is longer =
        let was = begins is in
        let some : length r.log ≡ suc (length was.1) = ap (λ (l : List Version). length l) was.2 in
        let one : one_where r.from_start ≡ 1 = ap one_where is in
        omega (arith, longer, some, one)
    by false is longer = let none : one_where r.from_start ≡ 0 = ap one_where is in omega (arith, longer, none)

collected_weighs : (r : Replica) (c : Stamp) → Begins r → Weighs r (collected r c)
collected_weighs r c begins =
    cond_both (is_held c r.log) _ (ignored r) (λ (z : Reaction). Weighs r z)
    (λ held. record {
      weight_is =
          let split : length (below c r.log) + length (not_below c r.log) ≡ length r.log
          = length-filter_both (λ version. stamp_below version.stamp c) (λ version. not (stamp_below version.stamp c)) (λ x. refl) r.log in
          by r.from_start (stamp_below first_stamp c) refl refl split;
      begins = λ starts.
          let parts = and_parts r.from_start (not (stamp_below first_stamp c)) starts in
          let was = begins parts.0 in (
            was.0,
            not_below c was.1,
            ap (λ (l : List Version). not_below c l) was.2
                ∙ cond-true (not (stamp_below was.0.stamp c)) (was.0 ∷ not_below c was.1) (not_below c was.1)
                (ap (λ (t : Stamp). not (stamp_below t c)) was.3 ∙ parts.1),
            was.3,
          );
    })
    (λ isnt. record { weight_is = refl; begins = begins })
  where
    by : (a b : Bool) → r.from_start ≡ a → stamp_below first_stamp c ≡ b → length (below c r.log) + length (not_below c r.log) ≡ length r.log
        → one_where (not (stamp_same r.order first_stamp)) + (length (not_below c r.log) - one_where (r.from_start && not (stamp_below first_stamp c)))
        + (length (below c r.log) - (if drops_start r c then 1 else 0))
        ≡ one_where (not (stamp_same r.order first_stamp)) + (length r.log - one_where r.from_start) + 0
    by false b a_is b_is split =
        let none : one_where r.from_start ≡ 0 = ap one_where a_is in
        let kept : one_where (r.from_start && not (stamp_below first_stamp c)) ≡ 0
        = ap (λ (a : Bool). one_where (a && not (stamp_below first_stamp c))) a_is in
        let gone : one_where (drops_start r c) ≡ 0 = ap (λ (a : Bool). one_where (a && stamp_below first_stamp c)) a_is in
        omega (arith, none, kept, gone, split)
    by true true a_is b_is split =
        let was = begins a_is in
        let one : one_where r.from_start ≡ 1 = ap one_where a_is in
        let kept : one_where (r.from_start && not (stamp_below first_stamp c)) ≡ 0
        = ap (λ (a : Bool). one_where (a && not (stamp_below first_stamp c))) a_is ∙ ap (λ (b : Bool). one_where (true && not b)) b_is in
        let gone : one_where (drops_start r c) ≡ 1
        = ap (λ (a : Bool). one_where (a && stamp_below first_stamp c)) a_is ∙ ap (λ (b : Bool). one_where (true && b)) b_is in
        let some : length (below c r.log) ≡ suc (length (below c was.1))
        = ap (λ (l : List Version). length (below c l)) was.2
        ∙ ap (λ (l : List Version). length l) (cond-true (stamp_below was.0.stamp c) (was.0 ∷ below c was.1) (below c was.1)
        (ap (λ (t : Stamp). stamp_below t c) was.3 ∙ b_is)) in
        omega (arith, one, kept, gone, some, split)
    by true false a_is b_is split =
        let was = begins a_is in
        let one : one_where r.from_start ≡ 1 = ap one_where a_is in
        let kept : one_where (r.from_start && not (stamp_below first_stamp c)) ≡ 1
        = ap (λ (a : Bool). one_where (a && not (stamp_below first_stamp c))) a_is ∙ ap (λ (b : Bool). one_where (true && not b)) b_is in
        let gone : one_where (drops_start r c) ≡ 0
        = ap (λ (a : Bool). one_where (a && stamp_below first_stamp c)) a_is ∙ ap (λ (b : Bool). one_where (true && b)) b_is in
        let some : length (not_below c r.log) ≡ suc (length (not_below c was.1))
        = ap (λ (l : List Version). length (not_below c l)) was.2
        ∙ ap (λ (l : List Version). length l) (cond-true (not (stamp_below was.0.stamp c)) (was.0 ∷ not_below c was.1) (not_below c was.1)
        (ap (λ (t : Stamp). not (stamp_below t c)) was.3 ∙ ap not b_is)) in
        omega (arith, one, kept, gone, some, split)

-- each request is weighed
pub handle_weighs : (code : Code) (m : ℕ) (full : Option ℕ) (seat : ℕ) (r : Replica) (request : Request) → Begins r
    → Weighs r (handle code m full seat r request)
unfolding handle
handle_weighs code m full seat r (Read want) begins = record { weight_is = refl; begins = begins }
handle_weighs code m full seat r (Order t) begins =
    cond_both (stamp_below t (top_of r)) (stays r (Later (top_of r))) _ (λ (z : Reaction). Weighs r z) (λ less. stays_weighs r (Later (top_of r)) begins)
    (λ at. full_weighs full r (promised r t Ordered) begins (promised_weighs r t Ordered begins at))
handle_weighs code m full seat r (Write t block) begins =
    cond_both (is_held t r.log) (stays r Stored) _ (λ (z : Reaction). Weighs r z) (λ held. stays_weighs r Stored begins)
    (λ isnt. cond_both (stamp_below t (top_of r)) (stays r (Later (top_of r))) _ (λ (z : Reaction). Weighs r z)
    (λ less. stays_weighs r (Later (top_of r)) begins)
    (λ at. full_weighs full r (stored r t block) begins (stored_weighs r t block begins)))
handle_weighs code m full seat r (OrderRead t look want) begins =
    cond_both (stamp_below t (top_of r)) (stays r (Later (top_of r))) _ (λ (z : Reaction). Weighs r z) (λ less. stays_weighs r (Later (top_of r)) begins)
    (λ at. full_weighs full r (promised r t (OrderedRead (told_version (is_wanted want seat) (looked_up look r.log)))) begins
    (promised_weighs r t (OrderedRead (told_version (is_wanted want seat) (looked_up look r.log))) begins at))
handle_weighs code m full seat r (Modify t base j delta) begins =
    modified_each code m seat (λ (z : Reaction). Weighs r z) full r t base j delta
    (stays_weighs r Stored begins) (λ less. stays_weighs r (Later (top_of r)) begins) (λ newest. stays_weighs r (Reply.Behind newest) begins)
    (λ live is. stays_weighs r (Reply.Full live) begins)
    (λ at old is same. stored_weighs r t (modified_block code m j seat delta old.block) begins)
handle_weighs code m full seat r (Collect t) begins = collected_weighs r t begins
handle_weighs code m full seat r (OldRead bound) begins = record { weight_is = refl; begins = begins }
handle_weighs code m full seat r (Prepare ballot) begins = record { weight_is = refl; begins = begins }
handle_weighs code m full seat r (Accept ballot members) begins = record { weight_is = refl; begins = begins }

-- as many records as there may be, or fewer
abbrev Fits : ℕ → ℕ → Reaction → Type 0
Fits records live z = live + z.adds - z.drops ≤ records

full_fits : (records live : ℕ) (r : Replica) (z : Reaction) → live ≤ records → z.adds ≤ 1 → Fits records live (unless_full (full_at records live) r z)
full_fits records live r z most one =
    cond_both (nat_eq live records) (Some live) None (λ (full : Option ℕ). Fits records live (unless_full full r z))
    (λ full. cond_both (nat_lt z.drops z.adds) (stays r (Reply.Full live)) z (λ (x : Reaction). Fits records live x)
    (λ more. omega (arith, most))
    (λ less. let fewer : z.adds ≤ z.drops = ltb-false z.drops z.adds less in omega (arith, most, fewer)))
    (λ room. omega (arith, most, one, eqb-false live records room))

handle_fits : (code : Code) (m records live seat : ℕ) (r : Replica) (request : Request) → live ≤ records
    → Fits records live (handle code m (full_at records live) seat r request)
unfolding handle
handle_fits code m records live seat r (Read want) most = omega (arith, most)
handle_fits code m records live seat r (Order t) most =
    cond_both (stamp_below t (top_of r)) (stays r (Later (top_of r))) _ (λ (z : Reaction). Fits records live z) (λ less. omega (arith, most))
    (λ at. full_fits records live r (promised r t Ordered) most (one_most (stamp_same r.order first_stamp && not (stamp_same t first_stamp))))
  where
    one_most : (b : Bool) → cond b 1 0 ≤ 1
    one_most true = omega arith
    one_most false = omega arith
handle_fits code m records live seat r (Write t block) most =
    cond_both (is_held t r.log) (stays r Stored) _ (λ (z : Reaction). Fits records live z) (λ held. omega (arith, most))
    (λ isnt. cond_both (stamp_below t (top_of r)) (stays r (Later (top_of r))) _ (λ (z : Reaction). Fits records live z)
    (λ less. omega (arith, most)) (λ at. full_fits records live r (stored r t block) most (omega arith)))
handle_fits code m records live seat r (OrderRead t look want) most =
    cond_both (stamp_below t (top_of r)) (stays r (Later (top_of r))) _ (λ (z : Reaction). Fits records live z) (λ less. omega (arith, most))
    (λ at. full_fits records live r (promised r t (OrderedRead (told_version (is_wanted want seat) (looked_up look r.log)))) most
    (one_most (stamp_same r.order first_stamp && not (stamp_same t first_stamp))))
  where
    one_most : (b : Bool) → cond b 1 0 ≤ 1
    one_most true = omega arith
    one_most false = omega arith
handle_fits code m records live seat r (Modify t base j delta) most =
    cond_both (is_held t r.log) (stays r Stored) _ (λ (z : Reaction). Fits records live z) (λ held. omega (arith, most))
    (λ isnt. cond_both (stamp_below t (top_of r)) (stays r (Later (top_of r)))
    (modified_on code m (full_at records live) seat r t base j delta (newest_of r.log)) (λ (z : Reaction). Fits records live z)
    (λ less. omega (arith, most)) (λ at. on (newest_of r.log)))
  where
    on : (z : Option Version) → Fits records live (modified_on code m (full_at records live) seat r t base j delta z)
    on None = omega (arith, most)
    on (Some old) =
        cond_both (stamp_same old.stamp base) (unless_full (full_at records live) r (stored r t (modified_block code m j seat delta old.block)))
        (stays r (Reply.Behind (Some old.stamp))) (λ (z : Reaction). Fits records live z)
        (λ own. full_fits records live r (stored r t (modified_block code m j seat delta old.block)) most (omega arith))
        (λ other. omega (arith, most))
handle_fits code m records live seat r (Collect t) most =
    cond_both (is_held t r.log) _ (ignored r) (λ (z : Reaction). Fits records live z) (λ held. omega (arith, most)) (λ isnt. omega (arith, most))
handle_fits code m records live seat r (OldRead bound) most = omega (arith, most)
handle_fits code m records live seat r (Prepare ballot) most = omega (arith, most)
handle_fits code m records live seat r (Accept ballot members) most = omega (arith, most)

-- the live records of parts of the first stripes of a group
abbrev pub stripes_weight : (ℕ → Replica) → ℕ → ℕ
stripes_weight parts zero = 0
stripes_weight parts (suc s) = stripes_weight parts s + weight (parts s)

stripes_other : (parts : ℕ → Replica) (k : ℕ) (r : Replica) (n : ℕ) → n ≤ k → stripes_weight (put parts k r) n ≡ stripes_weight parts n
stripes_other parts k r zero below = refl
stripes_other parts k r (suc n) below =
    let rest : stripes_weight (put parts k r) n ≡ stripes_weight parts n = stripes_other parts k r n (omega (arith, below)) in
    let last : weight (put parts k r n) ≡ weight (parts n)
    = ap weight (put_other parts k r n (λ same. absurd (omega (arith, below, same)))) in
    omega (arith, rest, last)

stripes_put : (parts : ℕ → Replica) (k : ℕ) (r : Replica) (n : ℕ) → k < n
    → stripes_weight (put parts k r) n + weight (parts k) ≡ stripes_weight parts n + weight r
stripes_put parts k r zero within = absurd (omega (arith, within))
stripes_put parts k r (suc n) within = ⊎_elim
    (λ (own : n ≡ k).
    let rest : stripes_weight (put parts k r) n ≡ stripes_weight parts n = stripes_other parts k r n (omega (arith, own)) in
    let last : weight (put parts k r n) ≡ weight r
    = ap (λ (j : ℕ). weight (put parts k r j)) own ∙ ap weight (put_same parts k r) in
    let old : weight (parts n) ≡ weight (parts k) = ap (λ (j : ℕ). weight (parts j)) own in
    omega (arith, rest, last, old))
    (λ (other : n ≢ k).
    let rest : stripes_weight (put parts k r) n + weight (parts k) ≡ stripes_weight parts n + weight r
    = stripes_put parts k r n (le_apart n k within other) in
    let last : weight (put parts k r n) ≡ weight (parts n) = ap weight (put_other parts k r n other) in
    omega (arith, rest, last))
    (cases_eq n k)
  where
    le_apart : (n k : ℕ) → k < suc n → n ≢ k → k < n
    le_apart n k within other = ⊎_elim
        (λ (less : k < n). less) (λ (most : n ≤ k). absurd (other (omega (arith, within, most)))) (cases_lt k n)

-- one part weighs no more than all
in_stripes : (parts : ℕ → Replica) (s n : ℕ) → s < n → weight (parts s) ≤ stripes_weight parts n
in_stripes parts s zero below = absurd (omega (arith, below))
in_stripes parts s (suc n) below = ⊎_elim
    (λ (less : s < n). let rest = in_stripes parts s n less in omega (arith, rest))
    (λ (most : n ≤ s). let same : s ≡ n = omega (arith, below, most) in
    let own : weight (parts s) ≡ weight (parts n) = ap (λ (j : ℕ). weight (parts j)) same in omega (arith, own))
    (cases_lt s n)

-- what a number for each group adds up to over groups, of which the first has this number
abbrev pub groups_sum : (ℕ → ℕ) → ℕ → List Group → ℕ
groups_sum f g [] = 0
groups_sum f g (group ∷ groups) = f g + groups_sum f (suc g) groups

-- where no number from there on changes, neither does the sum
sum_same : (old new : ℕ → ℕ) (groups : List Group) (g : ℕ) → ((j : ℕ) → g ≤ j → new j ≡ old j) → groups_sum new g groups ≡ groups_sum old g groups
sum_same old new [] g same = refl
sum_same old new (group ∷ groups) g same =
    let here = same g (omega arith) in
    let rest = sum_same old new groups (suc g) (λ j above. same j (omega (arith, above))) in
    omega (arith, here, rest)

-- one of the numbers changes
sum_put : (old new : ℕ → ℕ) (k g : ℕ) (groups : List Group) (group : Group) → slice_get groups k ≡ Some group
    → ((j : ℕ) → j ≢ g + k → new j ≡ old j) → groups_sum new g groups + old (g + k) ≡ groups_sum old g groups + new (g + k)
sum_put old new k g [] group at same = let never : ⊥ = cc in absurd never
sum_put old new zero g (one ∷ groups) group at same =
    let place : g + 0 ≡ g = omega arith in
    let rest = sum_same old new groups (suc g) (λ j above. same j (λ equal. absurd (omega (arith, above, equal)))) in
    let was : old (g + 0) ≡ old g = ap old place in
    let is : new (g + 0) ≡ new g = ap new place in
    omega (arith, rest, was, is)
sum_put old new (suc k) g (one ∷ groups) group at same =
    let place : suc g + k ≡ g + suc k = omega arith in
    let rest = sum_put old new k (suc g) groups group at (λ j other. same j (λ equal. other (equal ∙ sym place))) in
    let first : new g ≡ old g = same g (λ equal. absurd (omega (arith, equal))) in
    let was : old (suc g + k) ≡ old (g + suc k) = ap old place in
    let is : new (suc g + k) ≡ new (g + suc k) = ap new place in
    omega (arith, rest, first, was, is)

-- none is more than the sum
sum_within : (f : ℕ → ℕ) (k g : ℕ) (groups : List Group) (group : Group) → slice_get groups k ≡ Some group → f (g + k) ≤ groups_sum f g groups
sum_within f k g [] group at = let never : ⊥ = cc in absurd never
sum_within f zero g (one ∷ groups) group at = let is : f (g + 0) ≡ f g = ap f (let place : g + 0 ≡ g = omega arith in place) in omega (arith, is)
sum_within f (suc k) g (one ∷ groups) group at =
    let rest = sum_within f k (suc g) groups group at in
    let is : f (suc g + k) ≡ f (g + suc k) = ap f (let place : suc g + k ≡ g + suc k = omega arith in place) in
    omega (arith, rest, is)

-- the live records of the views before one stay, where those of no such view change
before_same : (old new : ℕ → ℕ) (n : ℕ) → ((j : ℕ) → j < n → new j ≡ old j) → live_before n new ≡ live_before n old
before_same old new zero same = refl
before_same old new (suc n) same =
    let rest = before_same old new n (λ j below. same j (omega (arith, below))) in
    let last = same n (omega arith) in
    omega (arith, rest, last)

-- they change by what those of one view do
before_put : (old new : ℕ → ℕ) (e n : ℕ) → e < n → ((j : ℕ) → j ≢ e → new j ≡ old j) → live_before n new + old e ≡ live_before n old + new e
before_put old new e zero within same = absurd (omega (arith, within))
before_put old new e (suc n) within same = ⊎_elim
    (λ (own : n ≡ e).
    let rest = before_same old new n (λ j below. same j (λ equal. absurd (omega (arith, own, below, equal)))) in
    let was : old n ≡ old e = ap old own in
    let is : new n ≡ new e = ap new own in
    omega (arith, rest, was, is))
    (λ (other : n ≢ e).
    let rest = before_put old new e n (below n e within other) same in
    let last = same n other in
    omega (arith, rest, last))
    (cases_eq n e)
  where
    below : (n e : ℕ) → e < suc n → n ≢ e → e < n
    below n e within other = ⊎_elim (λ (less : e < n). less) (λ (most : n ≤ e). absurd (other (omega (arith, within, most)))) (cases_lt e n)

-- those of one view are no more than all
before_within : (f : ℕ → ℕ) (e n : ℕ) → e < n → f e ≤ live_before n f
before_within f e zero within = absurd (omega (arith, within))
before_within f e (suc n) within = ⊎_elim
    (λ (own : n ≡ e). let is : f n ≡ f e = ap f own in omega (arith, is))
    (λ (other : n ≢ e).
    let rest = before_within f e n (below n e within other) in
    omega (arith, rest))
    (cases_eq n e)
  where
    below : (n e : ℕ) → e < suc n → n ≢ e → e < n
    below n e within other = ⊎_elim (λ (less : e < n). less) (λ (most : n ≤ e). absurd (other (omega (arith, within, most)))) (cases_lt e n)

-- of views that have none there is nothing to add
before_more : (f : ℕ → ℕ) (n more : ℕ) → ((j : ℕ) → n ≤ j → f j ≡ 0) → live_before (more + n) f ≡ live_before n f
before_more f n zero none = ap (λ (k : ℕ). live_before k f) (let same : 0 + n ≡ n = omega arith in same)
before_more f n (suc more) none =
    let rest = before_more f n more none in
    let last = none (more + n) (omega arith) in
    let next : live_before (suc more + n) f ≡ live_before (more + n) f + f (more + n)
    = ap (λ (k : ℕ). live_before k f) (let same : suc more + n ≡ suc (more + n) = omega arith in same) in
    omega (arith, rest, last, next)

-- live records by view, once those of the views before one are dropped
abbrev dropped : ℕ → (ℕ → ℕ) → ℕ → ℕ
dropped first f view = if nat_lt view first then 0 else f view

-- then there are none of those views
before_none : (f : ℕ → ℕ) (first n : ℕ) → n ≤ first → live_before n (dropped first f) ≡ 0
before_none f first zero within = refl
before_none f first (suc n) within =
    let rest = before_none f first n (omega (arith, within)) in
    let last : dropped first f n ≡ 0 = cond-true (nat_lt n first) 0 (f n) (lt-ltb n first (omega (arith, within))) in
    omega (arith, rest, last)

-- and of all views those are missing that were dropped
before_dropped : (f : ℕ → ℕ) (first more : ℕ) → live_before (more + first) (dropped first f) + live_before first f ≡ live_before (more + first) f
before_dropped f first zero =
    let none = before_none f first first (omega arith) in
    let same : 0 + first ≡ first = omega arith in
    let new : live_before (0 + first) (dropped first f) ≡ live_before first (dropped first f) = ap (λ (k : ℕ). live_before k (dropped first f)) same in
    let old : live_before (0 + first) f ≡ live_before first f = ap (λ (k : ℕ). live_before k f) same in
    omega (arith, none, new, old)
before_dropped f first (suc more) =
    let rest = before_dropped f first more in
    let last : dropped first f (more + first) ≡ f (more + first)
    = cond-false (nat_lt (more + first) first) 0 (f (more + first)) (le-ltb (more + first) first (omega arith)) in
    let same : suc more + first ≡ suc (more + first) = omega arith in
    let new : live_before (suc more + first) (dropped first f) ≡ live_before (more + first) (dropped first f) + dropped first f (more + first)
    = ap (λ (k : ℕ). live_before k (dropped first f)) same in
    let old : live_before (suc more + first) f ≡ live_before (more + first) f + f (more + first) = ap (λ (k : ℕ). live_before k f) same in
    omega (arith, rest, last, new, old)

-- the live records that a brick counts of a group, up to the view that it has learnt
abbrev pub group_lives : Node → ℕ → ℕ
group_lives node g = live_before (suc (view_at node g)) (node.live_in g)

-- A brick counts its live records, of each view of each group too, none of a group that the layout has not, and none of a view that it has not learnt; and it has no more than it may.
pub record CountsLives (layout : Layout) (node : Node) : Type 0 where
  pub live_is : node.live ≡ groups_sum (group_lives node) 0 layout.groups
  pub lives : (g e : ℕ) (group : Group) → group_of layout g ≡ Some group → node.live_in g e ≡ stripes_weight (node.replicas g e) group.stripes
  pub none : (g e : ℕ) → group_of layout g ≡ None → node.live_in g e ≡ 0
  pub beyond : (g e : ℕ) → view_at node g < e → node.live_in g e ≡ 0
  pub begins : (g e s : ℕ) → Begins (node.replicas g e s)
  pub most : node.live ≤ layout.records

-- so it does where it keeps the same of parts and views
counts_same : (layout : Layout) (old new : Node) → IsLike old new → CountsLives layout old → CountsLives layout new
counts_same layout old new like counts = record {
  live_is = like.live ∙ counts.live_is
      ∙ ap (λ (f : ℕ → Learnt). groups_sum (λ g. live_before (suc (f g).view.number.0) (old.live_in g)) 0 layout.groups) (sym like.learnt)
      ∙ ap (λ (f : ℕ → ℕ → ℕ). groups_sum (λ g. live_before (suc (view_at new g)) (f g)) 0 layout.groups) (sym like.live_in);
  lives = λ g e group is.
      ap (λ (f : ℕ → ℕ → ℕ). f g e) like.live_in ∙ counts.lives g e group is
      ∙ ap (λ (f : ℕ → ℕ → ℕ → Replica). stripes_weight (f g e) group.stripes) (sym like.replicas);
  none = λ g e is. ap (λ (f : ℕ → ℕ → ℕ). f g e) like.live_in ∙ counts.none g e is;
  beyond = λ g e above.
      ap (λ (f : ℕ → ℕ → ℕ). f g e) like.live_in
      ∙ counts.beyond g e (subst (λ (f : ℕ → Learnt). (f g).view.number.0 < e) like.learnt above);
  begins = λ g e s. subst (λ (f : ℕ → ℕ → ℕ → Replica). Begins (f g e s)) (sym like.replicas) (counts.begins g e s);
  most = (let had = counts.most in let live = like.live in omega (arith, live, had));
}

-- so it does after a request
request_counts : (setting : Setting) (me from : BrickId) (node : Node) (call : Call) (request : Request) → NodeViews setting.layout node
    → CountsLives setting.layout node → CountsLives setting.layout (requested setting me from node call request).node
request_counts setting me from node call request has counts =
    request_each (λ (step : NodeStep). CountsLives setting.layout step.node) setting me from node call request counts (λ reply is. counts)
    (λ group seat here is. handled group seat (layout_stripes group here) is.view (ltb-true call.stripe.0 group.stripes is.stripe))
    (λ group ballot asks here. counts_same setting.layout node _ (record { learnt = refl; live = refl; live_in = refl; replicas = refl }) counts)
  where
    -- the layout's group has as many stripes
    layout_stripes : (group : Group) → group_at setting.layout node call.group.0 ≡ Some group
        → (own : Group) × (group_of setting.layout call.group.0 ≡ Some own) × (own.stripes ≡ group.stripes)
    layout_stripes group here = of (group_of setting.layout call.group.0) refl here
      where
        of : (z : Option Group) → group_of setting.layout call.group.0 ≡ z
            → option_map (kept_by (node.learnt call.group.0).view.members) z ≡ Some group
            → (own : Group) × (group_of setting.layout call.group.0 ≡ Some own) × (own.stripes ≡ group.stripes)
        of None none some = absurd (let never : None ≡ Some group = some in cc)
        of (Some own) is some =
            (own, is, ap (λ (z : Group). z.stripes) (same_Some (kept_by (node.learnt call.group.0).view.members own) group some))

    handled : (group : Group) (seat : ℕ)
        → (own : Group) × (group_of setting.layout call.group.0 ≡ Some own) × (own.stripes ≡ group.stripes)
        → call.view.0 ≡ view_at node call.group.0 → call.stripe.0 < group.stripes
        → CountsLives setting.layout (with_replica node call
        (handle setting.code group.m (full_at setting.layout.records node.live) seat (replica_at node call) request))
    handled group seat own view within = record {
      live_is = total;
      lives = lives;
      none = λ g e is.
          ap (λ (f : ℕ → ℕ). f e) (other_group g (λ same.
          let never : None ≡ Some own.0 = sym is ∙ ap (λ (j : ℕ). group_of setting.layout j) same ∙ own.1 in cc))
          ∙ counts.none g e is;
      beyond = beyond;
      begins = parts_each (λ g e s r. Begins r) node call reaction weighs.begins counts.begins;
      most = handle_fits setting.code group.m setting.layout.records node.live seat (replica_at node call) request counts.most;
    }
      where
        -- what it does with its part
        reaction : Reaction
        reaction = handle setting.code group.m (full_at setting.layout.records node.live) seat (replica_at node call) request

        -- the brick after it
        next : Node
        next = with_replica node call reaction

        weighs : Weighs (replica_at node call) reaction
        weighs =
            handle_weighs setting.code group.m (full_at setting.layout.records node.live) seat (replica_at node call) request
            (counts.begins call.group.0 call.view.0 call.stripe.0)

        inside : call.stripe.0 < own.0.stripes
        inside = let same = own.2 in omega (arith, within, same)

        -- the changed count, and the others
        changed : ℕ
        changed = node.live_in call.group.0 call.view.0 + reaction.adds - reaction.drops

        row : next.live_in call.group.0 ≡ put (node.live_in call.group.0) call.view.0 changed
        row = put_same node.live_in call.group.0 (put (node.live_in call.group.0) call.view.0 changed)

        own_count : next.live_in call.group.0 call.view.0 ≡ changed
        own_count = ap (λ (f : ℕ → ℕ). f call.view.0) row ∙ put_same (node.live_in call.group.0) call.view.0 changed

        other_view : (e : ℕ) → e ≢ call.view.0 → next.live_in call.group.0 e ≡ node.live_in call.group.0 e
        other_view e other = ap (λ (f : ℕ → ℕ). f e) row ∙ put_other (node.live_in call.group.0) call.view.0 changed e other

        other_group : (g : ℕ) → g ≢ call.group.0 → next.live_in g ≡ node.live_in g
        other_group g other = put_other node.live_in call.group.0 (put (node.live_in call.group.0) call.view.0 changed) g other

        -- the parts of the stripes of the view
        parts : next.replicas call.group.0 call.view.0 ≡ put (node.replicas call.group.0 call.view.0) call.stripe.0 reaction.replica
        parts =
            ap (λ (f : ℕ → ℕ → Replica). f call.view.0) (put_same node.replicas call.group.0
            (put (node.replicas call.group.0) call.view.0 (put (node.replicas call.group.0 call.view.0) call.stripe.0 reaction.replica)))
            ∙ put_same (node.replicas call.group.0) call.view.0 (put (node.replicas call.group.0 call.view.0) call.stripe.0 reaction.replica)

        other_parts : (e : ℕ) → e ≢ call.view.0 → next.replicas call.group.0 e ≡ node.replicas call.group.0 e
        other_parts e other =
            ap (λ (f : ℕ → ℕ → Replica). f e) (put_same node.replicas call.group.0
            (put (node.replicas call.group.0) call.view.0 (put (node.replicas call.group.0 call.view.0) call.stripe.0 reaction.replica)))
            ∙ put_other (node.replicas call.group.0) call.view.0 (put (node.replicas call.group.0 call.view.0) call.stripe.0 reaction.replica) e other

        group_parts : (g : ℕ) → g ≢ call.group.0 → next.replicas g ≡ node.replicas g
        group_parts g other =
            put_other node.replicas call.group.0
            (put (node.replicas call.group.0) call.view.0 (put (node.replicas call.group.0 call.view.0) call.stripe.0 reaction.replica)) g other

        -- what the view's parts weigh
        weight_now : stripes_weight (next.replicas call.group.0 call.view.0) own.0.stripes + weight (replica_at node call)
            ≡ stripes_weight (node.replicas call.group.0 call.view.0) own.0.stripes + weight reaction.replica
        weight_now =
            ap (λ (f : ℕ → Replica). stripes_weight f own.0.stripes + weight (replica_at node call)) parts
            ∙ stripes_put (node.replicas call.group.0 call.view.0) call.stripe.0 reaction.replica own.0.stripes inside

        count_was : node.live_in call.group.0 call.view.0 ≡ stripes_weight (node.replicas call.group.0 call.view.0) own.0.stripes
        count_was = counts.lives call.group.0 call.view.0 own.0 own.1

        part_most : weight (replica_at node call) ≤ stripes_weight (node.replicas call.group.0 call.view.0) own.0.stripes
        part_most = in_stripes (node.replicas call.group.0 call.view.0) call.stripe.0 own.0.stripes inside

        own_lives : next.live_in call.group.0 call.view.0 ≡ stripes_weight (next.replicas call.group.0 call.view.0) own.0.stripes
        own_lives =
            let weighed = weighs.weight_is in
            let now = weight_now in
            let was = count_was in
            let is = own_count in
            let less = part_most in
            let by : changed ≡ node.live_in call.group.0 call.view.0 + reaction.adds - reaction.drops = refl in
            omega (arith, weighed, now, was, is, less, by)

        lives : (g e : ℕ) (some : Group) → group_of setting.layout g ≡ Some some → next.live_in g e ≡ stripes_weight (next.replicas g e) some.stripes
        lives g e some there = ⊎_elim
            (λ (same : g ≡ call.group.0).
            subst (λ (j : ℕ). group_of setting.layout j ≡ Some some → next.live_in j e ≡ stripes_weight (next.replicas j e) some.stripes) (sym same)
            (λ here.
            let one : own.0 ≡ some = same_Some own.0 some (sym own.1 ∙ here) in
            subst (λ (z : Group). next.live_in call.group.0 e ≡ stripes_weight (next.replicas call.group.0 e) z.stripes) one
            (⊎_elim
            (λ (now : e ≡ call.view.0).
            subst (λ (f : ℕ). next.live_in call.group.0 f ≡ stripes_weight (next.replicas call.group.0 f) own.0.stripes) (sym now) own_lives)
            (λ (other : e ≢ call.view.0).
            other_view e other ∙ counts.lives call.group.0 e own.0 own.1
            ∙ ap (λ (f : ℕ → Replica). stripes_weight f own.0.stripes) (sym (other_parts e other)))
            (cases_eq e call.view.0)))
            there)
            (λ (other : g ≢ call.group.0).
            ap (λ (f : ℕ → ℕ). f e) (other_group g other) ∙ counts.lives g e some there
            ∙ ap (λ (f : ℕ → ℕ → Replica). stripes_weight (f e) some.stripes) (sym (group_parts g other)))
            (cases_eq g call.group.0)

        beyond : (g e : ℕ) → view_at node g < e → next.live_in g e ≡ 0
        beyond g e above = ⊎_elim
            (λ (same : g ≡ call.group.0).
            subst (λ (j : ℕ). view_at node j < e → next.live_in j e ≡ 0) (sym same)
            (λ higher. other_view e (λ equal. absurd (omega (arith, equal, higher, view))) ∙ counts.beyond call.group.0 e higher) above)
            (λ (other : g ≢ call.group.0). ap (λ (f : ℕ → ℕ). f e) (other_group g other) ∙ counts.beyond g e above)
            (cases_eq g call.group.0)

        -- what the group has
        group_now : group_lives next call.group.0 + node.live_in call.group.0 call.view.0
            ≡ group_lives node call.group.0 + next.live_in call.group.0 call.view.0
        group_now =
            before_put (node.live_in call.group.0) (next.live_in call.group.0) call.view.0 (suc (view_at node call.group.0)) (omega (arith, view)) other_view

        place : 0 + call.group.0 ≡ call.group.0
        place = omega arith

        total : next.live ≡ groups_sum (group_lives next) 0 setting.layout.groups
        total =
            let sum = sum_put (group_lives node) (group_lives next) call.group.0 0 setting.layout.groups own.0 own.1
            (λ j other. ap (λ (f : ℕ → ℕ). live_before (suc (view_at node j)) f) (other_group j (λ equal. other (equal ∙ sym place)))) in
            let was : group_lives node (0 + call.group.0) ≡ group_lives node call.group.0 = ap (group_lives node) place in
            let is : group_lives next (0 + call.group.0) ≡ group_lives next call.group.0 = ap (group_lives next) place in
            let now = group_now in
            let count = own_count in
            let old = count_was in
            let less = part_most in
            let weighed = weighs.weight_is in
            let live = counts.live_is in
            let most = before_within (node.live_in call.group.0) call.view.0 (suc (view_at node call.group.0)) (omega (arith, view)) in
            let all = sum_within (group_lives node) call.group.0 0 setting.layout.groups own.0 own.1 in
            let by : next.live ≡ node.live + reaction.adds - reaction.drops = refl in
            let change : changed ≡ node.live_in call.group.0 call.view.0 + reaction.adds - reaction.drops = refl in
            omega (arith, sum, was, is, now, count, old, less, weighed, live, most, all, by, change)

-- a fresh part has no live record
fresh_weight : (block e : ℕ) → weight (fresh_replica block e) ≡ 0
fresh_weight block e =
    cond_both (nat_eq e 1) (first_replica block) _ (λ (r : Replica). weight r ≡ 0)
    (λ one. ap (λ (b : Bool). one_where (not b) + (1 - 1)) (stamp_same_refl first_stamp))
    (λ other. ap (λ (b : Bool). one_where (not b) + (0 - 0)) (stamp_same_refl first_stamp))

-- nor have fresh parts of stripes
fresh_stripes : (block e n : ℕ) → stripes_weight (λ s. fresh_replica block e) n ≡ 0
fresh_stripes block e zero = refl
fresh_stripes block e (suc n) =
    let rest = fresh_stripes block e n in
    let own = fresh_weight block e in
    omega (arith, rest, own)

-- a fresh part that begins with the first version does so
fresh_begins : (block e : ℕ) → Begins (fresh_replica block e)
fresh_begins block e =
    cond_both (nat_eq e 1) (first_replica block) _ Begins
    (λ one starts. (record { stamp = first_stamp; block = replicate block 0 }, [], refl, refl)) (λ other starts. absurd (false≢true starts))

-- And so it does where a brick has learnt this of a view, which is not before the one that it had learnt: it keeps so many views up to that.
learnt_counts : (setting : Setting) (group : ℕ) (node : Node) (learnt : Learnt) (kept : ℕ) → view_at node group ≤ learnt.view.number.0
    → suc learnt.view.number.0 ≡ kept + first_kept learnt
    → CountsLives setting.layout node → CountsLives setting.layout (with_learnt setting.layout.block group node learnt)
learnt_counts setting group node learnt kept rises long counts = record {
  live_is = total (group_of setting.layout group) refl;
  lives = λ g e some there. ⊎_elim
      (λ (same : g ≡ group).
      subst (λ (j : ℕ). group_of setting.layout j ≡ Some some → next.live_in j e ≡ stripes_weight (next.replicas j e) some.stripes) (sym same)
      (λ here. own_lives e some here) there)
      (λ (other : g ≢ group).
      ap (λ (f : ℕ → ℕ). f e) (put_other node.live_in group kept_counts g other) ∙ counts.lives g e some there
      ∙ ap (λ (f : ℕ → ℕ → Replica). stripes_weight (f e) some.stripes) (sym (put_other node.replicas group kept_parts g other)))
      (cases_eq g group);
  none = λ g e is. ⊎_elim
      (λ (same : g ≡ group).
      subst (λ (j : ℕ). next.live_in j e ≡ 0) (sym same)
      (ap (λ (f : ℕ → ℕ). f e) (put_same node.live_in group kept_counts)
      ∙ cond_both (nat_lt e first) 0 (node.live_in group e) (λ (n : ℕ). n ≡ 0) (λ dropped_is. refl)
      (λ isnt. counts.none group e (ap (λ (j : ℕ). group_of setting.layout j) (sym same) ∙ is))))
      (λ (other : g ≢ group). ap (λ (f : ℕ → ℕ). f e) (put_other node.live_in group kept_counts g other) ∙ counts.none g e is)
      (cases_eq g group);
  beyond = λ g e above. ⊎_elim
      (λ (same : g ≡ group).
      subst (λ (j : ℕ). view_at next j < e → next.live_in j e ≡ 0) (sym same)
      (λ higher.
      ap (λ (f : ℕ → ℕ). f e) (put_same node.live_in group kept_counts)
      ∙ cond_both (nat_lt e first) 0 (node.live_in group e) (λ (n : ℕ). n ≡ 0) (λ dropped_is. refl)
      (λ isnt. counts.beyond group e (let up : learnt.view.number.0 < e = subst (λ (l : Learnt). l.view.number.0 < e) learnt_is higher in
      let low = rises in omega (arith, up, low)))) above)
      (λ (other : g ≢ group).
      ap (λ (f : ℕ → ℕ). f e) (put_other node.live_in group kept_counts g other)
      ∙ counts.beyond g e (subst (λ (l : Learnt). l.view.number.0 < e) (put_other node.learnt group learnt g other) above))
      (cases_eq g group);
  begins = dropped_each (λ g e s r. Begins r) setting.layout.block group first node counts.begins (λ e s before. fresh_begins setting.layout.block e);
  most = let had = counts.most in let by : next.live ≡ node.live - live_before first (node.live_in group) = refl in omega (arith, had, by);
}
  where
    next : Node
    next = with_learnt setting.layout.block group node learnt

    first : ℕ
    first = first_kept learnt

    kept_counts : ℕ → ℕ
    kept_counts = dropped first (node.live_in group)

    kept_parts : ℕ → ℕ → Replica
    kept_parts e s = if nat_lt e first then fresh_replica setting.layout.block e else node.replicas group e s

    learnt_is : next.learnt group ≡ learnt
    learnt_is = put_same node.learnt group learnt

    own_lives : (e : ℕ) (some : Group) → group_of setting.layout group ≡ Some some → next.live_in group e ≡ stripes_weight (next.replicas group e) some.stripes
    own_lives e some here =
        ap (λ (f : ℕ → ℕ). f e) (put_same node.live_in group kept_counts) ∙ by (nat_lt e first)
        ∙ ap (λ (f : ℕ → ℕ → Replica). stripes_weight (f e) some.stripes) (sym (put_same node.replicas group kept_parts))
      where
        by : (b : Bool) → (if b then 0 else node.live_in group e)
            ≡ stripes_weight (λ s. if b then fresh_replica setting.layout.block e else node.replicas group e s) some.stripes
        by true = sym (fresh_stripes setting.layout.block e some.stripes)
        by false = counts.lives group e some here

    -- the count of the group, without what is dropped
    group_now : group_lives next group + live_before first (node.live_in group) ≡ group_lives node group
    group_now =
        let new : group_lives next group ≡ live_before (kept + first) (dropped first (node.live_in group))
        = ap (λ (l : Learnt). live_before (suc l.view.number.0) (next.live_in group)) learnt_is
        ∙ ap (λ (f : ℕ → ℕ). live_before (suc learnt.view.number.0) f) (put_same node.live_in group kept_counts)
        ∙ ap (λ (n : ℕ). live_before n (dropped first (node.live_in group))) long in
        let whole = before_dropped (node.live_in group) first kept in
        let rest : live_before (kept + first) (node.live_in group) ≡ group_lives node group
        = ap (λ (n : ℕ). live_before n (node.live_in group))
        (let parts : kept + first ≡ (kept + first - suc (view_at node group)) + suc (view_at node group) = let low = rises in omega (arith, low, long) in parts)
        ∙ before_more (node.live_in group) (suc (view_at node group)) (kept + first - suc (view_at node group)) (λ j above. counts.beyond group j (omega (arith, above))) in
        omega (arith, new, whole, rest)

    other_now : (j : ℕ) → j ≢ group → group_lives next j ≡ group_lives node j
    other_now j other =
        ap (λ (l : Learnt). live_before (suc l.view.number.0) (next.live_in j)) (put_other node.learnt group learnt j other)
        ∙ ap (λ (f : ℕ → ℕ). live_before (suc (view_at node j)) f) (put_other node.live_in group kept_counts j other)

    place : 0 + group ≡ group
    place = omega arith

    all_none : (f : ℕ → ℕ) → ((e : ℕ) → f e ≡ 0) → (n : ℕ) → live_before n f ≡ 0
    all_none f none zero = refl
    all_none f none (suc n) =
        let rest = all_none f none n in
        let last = none n in
        omega (arith, rest, last)

    total : (z : Option Group) → group_of setting.layout group ≡ z → next.live ≡ groups_sum (group_lives next) 0 setting.layout.groups
    total None there =
        let zero_is : live_before first (node.live_in group) ≡ 0 = all_none (node.live_in group) (λ e. counts.none group e there) first in
        let now = group_now in
        let same : group_lives next group ≡ group_lives node group = omega (arith, zero_is, now) in
        let sum = sum_same (group_lives node) (group_lives next) setting.layout.groups 0 (λ j above. ⊎_elim
        (λ (own : j ≡ group). subst (λ (k : ℕ). group_lives next k ≡ group_lives node k) (sym own) same)
        (λ (other : j ≢ group). other_now j other) (cases_eq j group)) in
        let live = counts.live_is in
        let by : next.live ≡ node.live - live_before first (node.live_in group) = refl in
        omega (arith, zero_is, sum, live, by)
    total (Some own) there =
        let sum = sum_put (group_lives node) (group_lives next) group 0 setting.layout.groups own there
        (λ j other. other_now j (λ equal. other (equal ∙ sym place))) in
        let was : group_lives node (0 + group) ≡ group_lives node group = ap (group_lives node) place in
        let is : group_lives next (0 + group) ≡ group_lives next group = ap (group_lives next) place in
        let now = group_now in
        let live = counts.live_is in
        let all = sum_within (group_lives node) group 0 setting.layout.groups own there in
        let by : next.live ≡ node.live - live_before first (node.live_in group) = refl in
        omega (arith, sum, was, is, now, live, all, by)

-- so it does where it learns a view
view_counts : (setting : Setting) (group : ℕ) (node : Node) (view : View) → NodeViews setting.layout node → is_later (node.learnt group) view ≡ true
    → CountsLives setting.layout node → CountsLives setting.layout (with_learnt setting.layout.block group node (newly_learnt view))
view_counts setting group node view has later counts =
    let rises : view_at node group < view.number.0 = ltb-true (view_at node group) view.number.0 later in
    learnt_counts setting group node (newly_learnt view) 2 (omega (arith, rises)) (omega (arith, rises)) counts

-- and where it hears that the view is synced
sync_counts : (setting : Setting) (group : ℕ) (node : Node) → NodeViews setting.layout node → CountsLives setting.layout node
    → CountsLives setting.layout (with_learnt setting.layout.block group node (synced_of node group))
sync_counts setting group node has counts = learnt_counts setting group node (synced_of node group) 1 (omega arith) (omega arith) counts

-- all bricks do
abbrev pub AllCount : Setting → World → Type 0
AllCount setting w = (i : ℕ) → CountsLives setting.layout (w.nodes i)

-- a fresh brick has no live record
none_live : (n : ℕ) → live_before n (λ e. 0) ≡ 0
none_live zero = refl
none_live (suc n) = let rest = none_live n in omega (arith, rest)

-- what is 0 of each group is 0 of all
none_at_all : (f : ℕ → ℕ) (groups : List Group) (g : ℕ) → ((j : ℕ) → f j ≡ 0) → groups_sum f g groups ≡ 0
none_at_all f [] g none = refl
none_at_all f (group ∷ groups) g none =
    let here = none g in
    let rest = none_at_all f groups (suc g) none in
    omega (arith, here, rest)

pub always_count : (setting : Setting) (events : List Event) → AllCount setting (run setting events (first_world setting.layout))
always_count setting events =
    always_kept setting (CountsLives setting.layout) (counts_same setting.layout) (request_counts setting) (view_counts setting) (sync_counts setting)
    (record {
      live_is = sym (none_at_all (group_lives (first_brick setting.layout)) setting.layout.groups 0 (λ j. none_live 2));
      lives = λ g e group is. sym (fresh_stripes setting.layout.block e group.stripes);
      none = λ g e is. refl;
      beyond = λ g e above. refl;
      begins = λ g e s. fresh_begins setting.layout.block e;
      most = omega arith;
    })
    events

-- so no log of a view that a brick has learnt, or of one before, is longer than the live records by more than one
pub log_within : (layout : Layout) (node : Node) (g e s : ℕ) (group : Group) → CountsLives layout node → group_of layout g ≡ Some group
    → s < group.stripes → e ≤ view_at node g → length (node.replicas g e s).log ≤ node.live + 1
log_within layout node g e s group counts is within below =
    let place : 0 + g ≡ g = omega arith in
    let whole : group_lives node (0 + g) ≤ groups_sum (group_lives node) 0 layout.groups = sum_within (group_lives node) g 0 layout.groups group is in
    let own : group_lives node (0 + g) ≡ group_lives node g = ap (group_lives node) place in
    let view : node.live_in g e ≤ group_lives node g = before_within (node.live_in g) e (suc (view_at node g)) (omega (arith, below)) in
    let here : weight (node.replicas g e s) ≤ stripes_weight (node.replicas g e) group.stripes = in_stripes (node.replicas g e) s group.stripes within in
    let lives = counts.lives g e group is in
    let live = counts.live_is in
    let one : one_where (node.replicas g e s).from_start ≤ 1 = at_most_one (node.replicas g e s).from_start in
    omega (arith, whole, own, view, here, lives, live, one)
  where
    at_most_one : (b : Bool) → one_where b ≤ 1
    at_most_one true = omega arith
    at_most_one false = omega arith
