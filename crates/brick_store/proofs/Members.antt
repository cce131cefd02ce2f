-- No list of members that is kept is empty.
use Rattle.std.proofs.Common.{◌≡◌, ℕ, zero, suc, ◌≤◌, Bool, true, false, cond, ltb, leb, ◌&&◌, Option, Some, None, Result, Ok, Err, IsOk, List, length, refl, sym, subst}
use Rattle.std.specs.Prelude.{replicate}
use Rattle.std.specs.Result.{IfOk}
use Rattle.std.specs.List.{AllByRecursion}
use Rattle.fab_base.specs.declared.faults.NoMem.{NoMem}
use Rattle.brick_state.specs.Indexes.{Answers}
use Rattle.fab_base.specs.declared.stamps.Ballot.{Ballot}
use Rattle.fab_base.specs.declared.identities.BrickId.{BrickId}
use Rattle.fab_base.specs.declared.member_lists.View.{View}
use Rattle.stamp_store.specs.declared.kept_records.Kept.TheVariants.{Boot, Ballots, Order}
use Rattle.stamp_store.specs.declared.kept_records.Kept.TheVariants as kinds
use Rattle.stamp_store.specs.Spelling.{AcceptedHasMembers}
use Rattle.brick_state.specs.declared.groups.Group.{Group}
use Rattle.brick_state.specs.declared.records.Record.{Record}
use Rattle.brick_state.specs.declared.records.Record.TheVariants as forms
use Rattle.brick_state.specs.Entries.{Entry}
use Rattle.brick_state.specs.States.{Place, StripeOf, StateOf, stripe_at, no_group, group_at, is_numbered, with_view, with_ballots, viewed, balloted, ordered, empty}
use Rattle.brick_state.specs.Folds.{Limits, applied, placed, place, is_full, adds_order, log_changed}
use Rattle.brick_state.proofs.Keeping.{all_set, all_at}
use Rattle.brick_store.specs.Standing.{GroupHasMembers, BallotsHaveMembers}
use Rattle.brick_store.specs.Steps.{RecordHasMembers}

abbrev pub AllHaveMembers : List Group → Type 0
AllHaveMembers groups = AllByRecursion GroupHasMembers groups

group_members : (st : StateOf Entry) (g : ℕ) → AllHaveMembers st.groups → GroupHasMembers (group_at st g)
group_members st g all = all_at GroupHasMembers st.groups g no_group (tt, tt) all

pub view_members : (g : ℕ) (view : View) (synced : Bool) (st : StateOf Entry) → 1 ≤ length view.members → 1 ≤ length view.prior
    → AllHaveMembers st.groups → AllHaveMembers (viewed g view synced st).groups
view_members g view synced st members prior all =
    all_set GroupHasMembers st.groups g (with_view view synced (group_at st g))
    ((members, prior), ballots (is_numbered (group_at st g).known view.number.0)) all
  where
    ballots : (b : Bool) → BallotsHaveMembers (cond b (group_at st g).ballots None)
    ballots true = (group_members st g all).1
    ballots false = tt

pub ballots_members : (g : ℕ) (promised : Ballot) (accepted : Option (Ballot × List BrickId)) (st : StateOf Entry) → AcceptedHasMembers accepted
    → AllHaveMembers st.groups → AllHaveMembers (balloted g promised accepted st).groups
ballots_members g promised accepted st members all = all_set GroupHasMembers st.groups g (with_ballots promised accepted (group_at st g))
    ((group_members st g all).0, members) all

pub empty_members : AllHaveMembers (empty {E = Entry}).groups
empty_members = none 64
  where
    none : (n : ℕ) → AllHaveMembers (replicate n no_group)
    none zero = tt
    none (suc n) = ((tt, tt), none n)

-- ---- a record

some_same : {X : Type 0} {a b : X} → Some a ≡ Some b → a ≡ b
some_same h = cc

moved : (a next : StateOf Entry) → Some a ≡ Some next → AllHaveMembers a.groups → AllHaveMembers next.groups
moved a next h all = subst (λ (s : StateOf Entry). AllHaveMembers s.groups) (some_same h) all

tested : (b : Bool) (a next : StateOf Entry) → cond b (Some a) None ≡ Some next → AllHaveMembers a.groups → AllHaveMembers next.groups
tested true a next h all = moved a next h all
tested false a next h all = absurd cc

placed_members : (p : Place) (st next : StateOf Entry) (answer : Option (StripeOf Entry)) → placed p st answer ≡ Some next → AllHaveMembers st.groups
    → AllHaveMembers next.groups
placed_members p st next None h all = absurd cc
placed_members p st next (Some s) h all = moved _ next h all

pub applied_members : (limits : Limits) (r : Record) (st next : StateOf Entry) → RecordHasMembers r → applied limits r st ≡ Some next
    → AllHaveMembers st.groups → AllHaveMembers next.groups
unfolding applied
applied_members limits (forms.Kept (Boot count)) st next has h all = moved _ next h all
applied_members limits (forms.Kept (kinds.View g view synced)) st next has h all =
    tested (ltb g.0 64 && leb 2 view.number.0) (viewed g.0 view synced st) next h (view_members g.0 view synced st has.0 has.1 all)
applied_members limits (forms.Kept (Ballots g v promised accepted)) st next has h all =
    tested (ltb g.0 64) (balloted g.0 promised accepted st) next h (ballots_members g.0 promised accepted st has all)
applied_members limits (forms.Kept (Order g v s t)) st next has h all = by (ltb g.0 64)
    (adds_order t (stripe_at st (place g v s)) && is_full limits st) h
  where
    by : (b d : Bool) → cond b (cond d None (Some (ordered (place g v s) t st))) None ≡ Some next → AllHaveMembers next.groups
    by true true k = absurd cc
    by true false k = moved (ordered (place g v s) t st) next k all
    by false d k = absurd cc
applied_members limits (forms.Logged r) st next has h all = by (ltb r.group.0 64) h
  where
    by : (b : Bool) → cond b (placed (place r.group r.view r.stripe) st
        (log_changed limits (is_full limits st) r.change r.stamp (stripe_at st (place r.group r.view r.stripe)))) None ≡ Some next
        → AllHaveMembers next.groups
    by true k = placed_members (place r.group r.view r.stripe) st next
        (log_changed limits (is_full limits st) r.change r.stamp (stripe_at st (place r.group r.view r.stripe))) k all
    by false k = absurd cc

-- ---- an answer

pub refused_none : (now : StateOf Entry) (next : Option (StateOf Entry)) → Answers now next false → next ≡ None
refused_none now None h = refl
refused_none now (Some st) h = absurd cc

pub answered_members : (limits : Limits) (r : Record) (old new : StateOf Entry) (answer : Result Bool NoMem) → IsOk answer
    → IfOk answer (λ taken. Answers new (applied limits r old) taken) → (answer ≡ Ok false → new ≡ old)
    → RecordHasMembers r → AllHaveMembers old.groups → AllHaveMembers new.groups
answered_members limits r old new (Ok false) ok answers refused has all = subst (λ (s : StateOf Entry). AllHaveMembers s.groups)
    (sym (refused refl)) all
answered_members limits r old new (Err e) ok answers refused has all = absurd cc
answered_members limits r old new (Ok true) ok answers refused has all = by (applied limits r old) refl answers
  where
    by : (next : Option (StateOf Entry)) → applied limits r old ≡ next → Answers new next true → AllHaveMembers new.groups
    by None at h = absurd cc
    by (Some st) at h = subst (λ (s : StateOf Entry). AllHaveMembers s.groups) (sym h.1) (applied_members limits r old st has at all)
