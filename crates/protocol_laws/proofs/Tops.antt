-- The stamp below which a brick takes nothing for a stripe: the greater of the floor of what it has learnt and accepted, and of its part's top.
use Rattle.fab_base.specs.declared.member_lists.View.{View}
use Rattle.std.proofs.Common.{◌≡◌, ◌⊎◌, inl, inr, ℕ, ◌+◌, ◌-◌, ◌≤◌, Bool, true, false, nat_lt, List, refl, sym, ap, ◌∙◌, subst, arith, ◌<◌}
use Rattle.std.specs.Prelude.{if◌then◌else◌, is_some, ◌^◌, ◌&&◌, nat_lt}
use Rattle.std.proofs.lemmas.Bool.{cond_both, false≢true, ltb-false, ltb-true}
use Rattle.std.proofs.lemmas.Bool.Decides.{nat_tests}
use Rattle.fab_base.specs.declared.identities.BrickId.{BrickId}
use Rattle.fab_base.specs.declared.stamps.Stamp.{Stamp}
use Rattle.fab_base.specs.Stamps.{stamp_below, first_stamp}
use Rattle.fab_base.proofs.StampOrder.{stamp_below_first, stamp_not_below_trans, stamp_below_irrefl, stamp_below_asym}
use Rattle.protocol.specs.Replicas.{Replica, stamp_max, top_of}
use Rattle.protocol.specs.Views.{Learnt, first_kept, view_of, floor_of}
use Rattle.protocol.specs.Nodes.{Node, view_at, has_accepted, view_floor, top_at}
use Rattle.synod_laws.specs.Synods.{Kept, last_of}
use Rattle.protocol_laws.proofs.Reactions.{max_left, max_right, max_most}

-- a brick keeps what it has learnt, what it has accepted and its parts
abbrev pub KeepsPlaces : Node → Node → Type 0
KeepsPlaces node next = (next.learnt ≡ node.learnt) × (next.ballots ≡ node.ballots) × (next.replicas ≡ node.replicas)

-- so it has come as far as before
pub top_same : (node next : Node) → KeepsPlaces node next → (g s : ℕ) → top_at next g s ≡ top_at node g s
unfolding top_at
top_same node next same g s =
    ap (λ (l : ℕ → Learnt). stamp_max (view_floor (record next { learnt = l }) g) (top_of (next.replicas g (l g).view.number.0 s))) same.0
    ∙ ap (λ (b : ℕ → Kept (List BrickId)). stamp_max (view_floor (record node { ballots = b }) g) (top_of (next.replicas g (view_at node g) s)))
    same.1
    ∙ ap (λ (r : ℕ → ℕ → ℕ → Replica). stamp_max (view_floor node g) (top_of (r g (view_at node g) s))) same.2

-- and so it has for a group of which it keeps these
pub top_by : (node next : Node) (g s : ℕ) → next.learnt g ≡ node.learnt g → next.ballots g ≡ node.ballots g
    → next.replicas g (view_at node g) s ≡ node.replicas g (view_at node g) s → top_at next g s ≡ top_at node g s
unfolding top_at
top_by node next g s learnt ballots part =
    ap (λ (l : Learnt). top_with l (next.ballots g) (next.replicas g l.view.number.0 s)) learnt
    ∙ ap (λ (b : Kept (List BrickId)). top_with (node.learnt g) b (next.replicas g (view_at node g) s)) ballots
    ∙ ap (λ (r : Replica). top_with (node.learnt g) (node.ballots g) r) part
  where
    top_with : Learnt → Kept (List BrickId) → Replica → Stamp
    top_with l b r =
        stamp_max (floor_of (if nat_lt l.view.number.0 (2 ^ 32 - 1) && is_some (last_of b) then l.view.number.0 + 1 else l.view.number.0)) (top_of r)

-- it has come no less far than its part in the view that it has learnt
pub top_above : (node : Node) (g s : ℕ) → stamp_below (top_at node g s) (top_of (node.replicas g (view_at node g) s)) ≡ false
unfolding top_at
top_above node g s = max_right (view_floor node g) (top_of (node.replicas g (view_at node g) s))

-- nor less far than what it has learnt and accepted
pub top_floor : (node : Node) (g s : ℕ) → stamp_below (top_at node g s) (view_floor node g) ≡ false
unfolding top_at
top_floor node g s = max_left (view_floor node g) (top_of (node.replicas g (view_at node g) s))

-- it is just that part's top where that is above a stamp which is not below what the brick has learnt
pub top_is_part : (node : Node) (g s : ℕ) (t : Stamp) → stamp_below t (view_floor node g) ≡ false
    → stamp_below t (top_of (node.replicas g (view_at node g) s)) ≡ true → top_at node g s ≡ top_of (node.replicas g (view_at node g) s)
unfolding top_at
top_is_part node g s t over below =
    let a : Stamp = view_floor node g in
    let b : Stamp = top_of (node.replicas g (view_at node g) s) in
    cond_both (stamp_below a b) b a (λ (z : Stamp). z ≡ b) (λ is. refl)
    (λ isnt. absurd (false≢true (sym (stamp_not_below_trans b a t isnt over) ∙ below)))

-- it is the floor of what was learnt, or that part's top
pub top_cases : (node : Node) (g s : ℕ)
    → (top_at node g s ≡ view_floor node g) ⊎ (top_at node g s ≡ top_of (node.replicas g (view_at node g) s))
unfolding top_at
top_cases node g s =
    let a : Stamp = view_floor node g in
    let b : Stamp = top_of (node.replicas g (view_at node g) s) in
    cond_both (stamp_below a b) b a (λ (z : Stamp). (z ≡ a) ⊎ (z ≡ b)) (λ is. inr refl) (λ isnt. inl refl)

-- a floor has no time
pub floor_time : (e : ℕ) → (floor_of e).time ≡ 0
floor_time e = cond_both (nat_lt 1 e) _ first_stamp (λ (z : Stamp). z.time ≡ 0) (λ later. refl) (λ one. refl)

-- what is at or above that part, and of no view before, is at or above all
pub top_most : (node : Node) (g s : ℕ) (t : Stamp) → stamp_below t (view_floor node g) ≡ false
    → stamp_below t (top_of (node.replicas g (view_at node g) s)) ≡ false → stamp_below t (top_at node g s) ≡ false
unfolding top_at
top_most node g s t = max_most (view_floor node g) (top_of (node.replicas g (view_at node g) s)) t

-- where its parts rise, it rises
pub top_rises : (node : Node) (live : ℕ) (live_in : ℕ → ℕ → ℕ) (replicas : ℕ → ℕ → ℕ → Replica) (g s : ℕ)
    → stamp_below (top_of (replicas g (view_at node g) s)) (top_of (node.replicas g (view_at node g) s)) ≡ false
    → stamp_below (top_at (record node { live = live; live_in = live_in; replicas = replicas }) g s) (top_at node g s) ≡ false
unfolding top_at
top_rises node live live_in replicas g s rises =
    let now : Stamp = top_of (replicas g (view_at node g) s) in
    let was : Stamp = top_of (node.replicas g (view_at node g) s) in
    max_most (view_floor node g) was (stamp_max (view_floor node g) now) (max_left (view_floor node g) now)
    (stamp_not_below_trans was now (stamp_max (view_floor node g) now) rises (max_right (view_floor node g) now))

-- no stamp of a view is below its floor
pub floor_least : (e : ℕ) (t : Stamp) → view_of t ≡ e → stamp_below t (floor_of e) ≡ false
unfolding stamp_below
floor_least e t view =
    cond_both (nat_lt 1 e) (record { view = record { 0 = e }; time = 0; brick = record { 0 = 0 }; boot = 0 }) first_stamp
    (λ (z : Stamp). stamp_below t z ≡ false) (λ later. grind (arith, nat_tests)) (λ one. stamp_below_first t)

-- nor is one below what a brick has come to that has learnt the view, and accepted none to follow it
pub view_above : (node : Node) (g : ℕ) (t : Stamp) → has_accepted node g ≡ false → view_of t ≡ view_at node g → stamp_below t (view_floor node g) ≡ false
view_above node g t free view =
    subst (λ (b : Bool). stamp_below t (floor_of (if b then view_at node g + 1 else view_at node g)) ≡ false) (sym free)
    (floor_least (view_at node g) t view)

-- of two stamps of a view the one that is not below has no earlier time
pub time_rises : (a b : Stamp) → a.view.0 ≡ b.view.0 → stamp_below a b ≡ false → b.time ≤ a.time
unfolding stamp_below
time_rises a b view above = grind (arith, nat_tests)

-- what is at or above a stamp of a view, and below another, is of it
pub view_between : (b d t : Stamp) (e : ℕ) → view_of b ≡ e → view_of t ≡ e → stamp_below d b ≡ false → stamp_below d t ≡ true → view_of d ≡ e
unfolding stamp_below
view_between b d t e low high above below = grind (arith, nat_tests)

-- what is above a stamp of the view before another, and below the first stamp of that, is of the view before it
pub view_before : (b d : Stamp) (e : ℕ) → 1 < e → view_of b ≡ e - 1 → stamp_below b d ≡ true → stamp_below d (floor_of e) ≡ true → view_of d ≡ e - 1
unfolding stamp_below
view_before b d e later low above =
    cond_both (nat_lt 1 e) (record { view = record { 0 = e }; time = 0; brick = record { 0 = 0 }; boot = 0 }) first_stamp
    (λ (z : Stamp). stamp_below d z ≡ true → view_of d ≡ e - 1)
    (λ is below. grind (arith, nat_tests, later, low, above, below)) (λ none. absurd (let few = ltb-false 1 e none in omega (arith, few, later)))

-- what is not below the first stamp of a later view than 1, and below one of the view, is of it
pub from_floor : (d t : Stamp) (e : ℕ) → 1 < e → view_of t ≡ e → stamp_below d (floor_of e) ≡ false → stamp_below d t ≡ true → view_of d ≡ e
unfolding stamp_below
from_floor d t e later of =
    cond_both (nat_lt 1 e) (record { view = record { 0 = e }; time = 0; brick = record { 0 = 0 }; boot = 0 }) first_stamp
    (λ (z : Stamp). stamp_below d z ≡ false → stamp_below d t ≡ true → view_of d ≡ e)
    (λ is above below. grind (arith, nat_tests, later, of, above, below)) (λ none. absurd (let few = ltb-false 1 e none in omega (arith, few, later)))

-- a stamp of a view is below all of the views after it
pub view_less : (a b : Stamp) → view_of a < view_of b → stamp_below a b ≡ true
unfolding stamp_below
view_less a b less = grind (arith, nat_tests)

-- a stamp of the view before another is below the first stamp of that
pub before_floor : (b : Stamp) (e : ℕ) → view_of b < e → stamp_below b (floor_of e) ≡ true
before_floor b e less =
    cond_both (nat_lt 1 e) (record { view = record { 0 = e }; time = 0; brick = record { 0 = 0 }; boot = 0 }) first_stamp
    (λ (z : Stamp). stamp_below b z ≡ true) (λ is. view_less b _ (omega (arith, less)))
    (λ none. absurd (let few = ltb-false 1 e none in omega (arith, few, less)))

-- views are numbered from 1
pub view_least : (t : Stamp) → 1 ≤ view_of t
view_least t = omega arith

-- and below the floor of the next
pub floor_next : (t : Stamp) → stamp_below t (floor_of (view_of t + 1)) ≡ true
floor_next t =
    cond_both (nat_lt 1 (view_of t + 1)) (record { view = record { 0 = view_of t + 1 }; time = 0; brick = record { 0 = 0 }; boot = 0 }) first_stamp
    (λ (z : Stamp). stamp_below t z ≡ true) (λ later. view_less t _ (omega arith)) (λ none. absurd (let most = ltb-false 1 (view_of t + 1) none in omega (arith, most)))

-- a brick keeps the versions of the view that it has learnt
pub kept_now : (learnt : Learnt) → first_kept learnt ≤ learnt.view.number.0
kept_now learnt =
    cond_both learnt.synced learnt.view.number.0 (learnt.view.number.0 - 1) (λ (n : ℕ). n ≤ learnt.view.number.0) (λ is. omega arith) (λ isnt. omega arith)

-- the floor of a later view is no lower
pub floor_rises : (e f : ℕ) → e ≤ f → stamp_below (floor_of f) (floor_of e) ≡ false
unfolding stamp_below
floor_rises e f most =
    cond_both (nat_lt 1 e) (record { view = record { 0 = e }; time = 0; brick = record { 0 = 0 }; boot = 0 }) first_stamp
    (λ (z : Stamp). stamp_below (floor_of f) z ≡ false)
    (λ above. cond_both (nat_lt 1 f) (record { view = record { 0 = f }; time = 0; brick = record { 0 = 0 }; boot = 0 }) first_stamp
    (λ (z : Stamp). stamp_below z (record { view = record { 0 = e }; time = 0; brick = record { 0 = 0 }; boot = 0 }) ≡ false)
    (λ later. grind (arith, nat_tests)) (λ none. absurd (let few = ltb-false 1 f none in let many = ltb-true 1 e above in omega (arith, few, many, most))))
    (λ none. stamp_below_first (floor_of f))

-- a brick that keeps its view, what it keeps of ballots and its part comes as far
pub top_views : (node next : Node) (g s : ℕ) → (next.learnt g).view ≡ (node.learnt g).view → next.ballots g ≡ node.ballots g
    → next.replicas g (view_at node g) s ≡ node.replicas g (view_at node g) s → top_at next g s ≡ top_at node g s
unfolding top_at
top_views node next g s view ballots part =
    ap (λ (v : View). come_to v (next.ballots g) (next.replicas g v.number.0 s)) view
    ∙ ap (λ (b : Kept (List BrickId)). come_to (node.learnt g).view b (next.replicas g (view_at node g) s)) ballots
    ∙ ap (λ (r : Replica). come_to (node.learnt g).view (node.ballots g) r) part
  where
    come_to : View → Kept (List BrickId) → Replica → Stamp
    come_to v kept r =
        stamp_max (floor_of (if nat_lt v.number.0 (2 ^ 32 - 1) && is_some (last_of kept) then v.number.0 + 1 else v.number.0)) (top_of r)

-- a brick that goes on having accepted, where it had, comes no less far
pub top_accepts : (node : Node) (ballots : ℕ → Kept (List BrickId)) (g s : ℕ)
    → (has_accepted node g ≡ true → has_accepted (record node { ballots = ballots }) g ≡ true)
    → stamp_below (top_at (record node { ballots = ballots }) g s) (top_at node g s) ≡ false
unfolding top_at
top_accepts node ballots g s stays =
    let next : Node = record node { ballots = ballots } in
    let part : Stamp = top_of (node.replicas g (view_at node g) s) in
    max_most (view_floor node g) part (stamp_max (view_floor next g) part)
    (stamp_not_below_trans (view_floor node g) (view_floor next g) (stamp_max (view_floor next g) part)
    (floor_rises (learnt_of (has_accepted node g)) (learnt_of (has_accepted next g)) (by (has_accepted node g) (has_accepted next g) stays))
    (max_left (view_floor next g) part))
    (max_right (view_floor next g) part)
  where
    learnt_of : Bool → ℕ
    learnt_of accepted = if accepted then view_at node g + 1 else view_at node g

    by : (was is : Bool) → (was ≡ true → is ≡ true) → learnt_of was ≤ learnt_of is
    by true true goes = omega arith
    by true false goes = absurd (false≢true (goes refl))
    by false true goes = omega arith
    by false false goes = omega arith

-- nor does one that has learnt a later view, above whose floor its part of the earlier one is not
pub top_learns : (node next : Node) (g s : ℕ) → view_at node g < view_at next g
    → stamp_below (top_of (node.replicas g (view_at node g) s)) (floor_of (view_at next g)) ≡ true → stamp_below (top_at next g s) (top_at node g s) ≡ false
unfolding top_at
top_learns node next g s later below =
    let top : Stamp = stamp_max (view_floor next g) (top_of (next.replicas g (view_at next g) s)) in
    let floor : Stamp = floor_of (view_at next g) in
    let above : stamp_below top floor ≡ false
    = stamp_not_below_trans floor (view_floor next g) top (cond_both (has_accepted next g) (view_at next g + 1) (view_at next g)
    (λ (e : ℕ). stamp_below (floor_of e) floor ≡ false) (λ accepted. floor_rises (view_at next g) (view_at next g + 1) (omega arith))
    (λ free. stamp_below_irrefl floor))
    (max_left (view_floor next g) (top_of (next.replicas g (view_at next g) s))) in
    stamp_not_below_trans (stamp_max (view_floor node g) (top_of (node.replicas g (view_at node g) s))) floor top
    (max_most (view_floor node g) (top_of (node.replicas g (view_at node g) s)) floor
    (cond_both (has_accepted node g) (view_at node g + 1) (view_at node g) (λ (e : ℕ). stamp_below floor (floor_of e) ≡ false)
    (λ accepted. floor_rises (view_at node g + 1) (view_at next g) (omega (arith, later))) (λ free. floor_rises (view_at node g) (view_at next g) (omega (arith, later))))
    (stamp_below_asym (top_of (node.replicas g (view_at node g) s)) floor below))
    above
