-- Votes, over what a store keeps of ballots.
use Rattle.std.proofs.Common.{◌≡◌, ℕ, ◌<◌, Bool, true, false, cond, eqb, Option, Some, None, List, [], ◌∷◌, length, refl, sym, ap, ◌∙◌, arith, eq-eqb}
use Rattle.std.specs.Prelude.{slice_index_or, slice_set}
use Rattle.std.specs.Option.{option_map, option_and_then}
use Rattle.std.proofs.lemmas.Bool.{and_parts, and_from, eqb-true, eqb-false}
use Rattle.std.proofs.lemmas.List.{get_or-set_same, get_or-set_other}
use Rattle.fab_base.specs.declared.identities.BrickId.{BrickId}
use Rattle.fab_base.specs.declared.stamps.Ballot.{Ballot}
use Rattle.fab_base.specs.Layouts.{Layout}
use Rattle.messages.specs.declared.calls.Call.{Call}
use Rattle.messages.specs.declared.replies.Reply.{Reply}
use Rattle.version_log.specs.Versions.{Version}
use Rattle.brick_state.specs.declared.groups.Group.{Group as KeptGroup}
use Rattle.brick_state.specs.States.{StateOf, no_group, group_at, with_ballots, balloted}
use Rattle.brick_store.specs.Calls.{append_of, append_calls}
use Rattle.brick_store.specs.Sizes.{ballots_size}
use Rattle.synod_laws.specs.Synods.{Kept, last_of}
use Rattle.view_synod.specs.Acceptors.{kept_of}
use Rattle.protocol.specs.Views.{Learnt}
use Rattle.protocol.specs.Ballots.{Voted, voting, granting, unless_barred, ballot_refusal}
use Rattle.replica.specs.Parts.{ballots_in}
use Rattle.replica.specs.Reactions.{IsVoted}
use Rattle.replica.specs.Handling.{KeepsAll}
use Rattle.replica.specs.Calls.{same_ballot, same_members, same_accepted, same_promised, same_ballots, ballot_append}

differ : {A : Type 0} → false ≡ true → A
differ h = absurd cc

-- ---- what is kept, by what a store tells of it

pub kept_of_parts : (kept : Kept (List BrickId)) → kept_of (option_map (λ held. held.0) kept) (option_and_then (λ b. b.1) kept) ≡ kept
kept_of_parts None = refl
kept_of_parts (Some (promised, accepted)) = refl

pub accepted_last : (kept : Kept (List BrickId)) → option_and_then (λ b. b.1) kept ≡ last_of kept
accepted_last None = refl
accepted_last (Some (promised, accepted)) = refl

-- ---- whether it is the same

ballot_is : (a b : Ballot) → same_ballot a b ≡ true → a ≡ b
ballot_is a b h =
    let p = and_parts _ _ h in
    let q = and_parts _ _ p.1 in
    let round = eqb-true a.round b.round p.0 in
    let brick = eqb-true a.brick.0 b.brick.0 q.0 in
    let boot = eqb-true a.boot b.boot q.1 in
    λ i. record { round = round i; brick = record { 0 = brick i }; boot = boot i }

ballot_itself : (a : Ballot) → same_ballot a a ≡ true
ballot_itself a =
    and_from _ _ (eq-eqb a.round a.round refl) (and_from _ _ (eq-eqb a.brick.0 a.brick.0 refl) (eq-eqb a.boot a.boot refl))

members_are : (left right : List BrickId) → same_members left right ≡ true → left ≡ right
members_are [] [] h = refl
members_are [] (b ∷ right) h = differ h
members_are (a ∷ left) [] h = differ h
members_are (a ∷ left) (b ∷ right) h =
    let p = and_parts _ _ h in
    let first = eqb-true a.0 b.0 p.0 in
    let rest = members_are left right p.1 in
    λ i. record { 0 = first i } ∷ rest i

members_themselves : (members : List BrickId) → same_members members members ≡ true
members_themselves [] = refl
members_themselves (a ∷ members) = and_from _ _ (eq-eqb a.0 a.0 refl) (members_themselves members)

promised_is : (a b : Option Ballot) → same_promised a b ≡ true → a ≡ b
promised_is None None h = refl
promised_is None (Some b) h = differ h
promised_is (Some a) None h = differ h
promised_is (Some a) (Some b) h = ap (λ (x : Ballot). Some x) (ballot_is a b h)

promised_itself : (a : Option Ballot) → same_promised a a ≡ true
promised_itself None = refl
promised_itself (Some a) = ballot_itself a

accepted_is : (a b : Option (Ballot × List BrickId)) → same_accepted a b ≡ true → a ≡ b
accepted_is None None h = refl
accepted_is None (Some b) h = differ h
accepted_is (Some a) None h = differ h
accepted_is (Some a) (Some b) h =
    let p = and_parts _ _ h in
    let ballot = ballot_is a.0 b.0 p.0 in
    let members = members_are a.1 b.1 p.1 in
    λ i. Some (ballot i, members i)

accepted_itself : (a : Option (Ballot × List BrickId)) → same_accepted a a ≡ true
accepted_itself None = refl
accepted_itself (Some a) = and_from _ _ (ballot_itself a.0) (members_themselves a.1)

some_ballot : {a b : Ballot} → Some a ≡ Some b → a ≡ b
some_ballot e = cc

pub ballots_are : (a b : Kept (List BrickId)) → same_ballots a b ≡ true → a ≡ b
ballots_are None None h = refl
ballots_are None (Some b) h = differ (and_parts false (same_accepted None b.1) h).0
ballots_are (Some a) None h = differ (and_parts false (same_accepted a.1 None) h).0
ballots_are (Some a) (Some b) h =
    let p = and_parts _ _ h in
    let promised = ballot_is a.0 b.0 p.0 in
    let accepted = accepted_is a.1 b.1 p.1 in
    λ i. Some (promised i, accepted i)

pub ballots_themselves : (a : Kept (List BrickId)) → same_ballots a a ≡ true
ballots_themselves a = and_from _ _ (promised_itself (option_map (λ kept. kept.0) a)) (accepted_itself (last_of a))

pub ballot_append_none : (a : Kept (List BrickId)) → ballot_append a a ≡ None
ballot_append_none a = ap (λ (b : Bool). cond b None (Some (append_of (ballots_size (last_of a)) append_calls))) (ballots_themselves a)

-- ---- the vote

-- a vote that leaves something else kept is granted
pub granted : (view : ℕ) (learnt : Learnt) (kept : Kept (List BrickId)) (ballot : Ballot) (asks : Option (List BrickId))
    → same_ballots kept (voting view learnt kept ballot asks).kept ≡ false
    → (voting view learnt kept ballot asks).kept ≡ (granting kept ballot asks).kept
unfolding voting
granted view learnt kept ballot asks h = by (ballot_refusal view learnt kept ballot) h
  where
    by : (refused : Option Reply) → same_ballots kept (unless_barred refused kept (granting kept ballot asks)).kept ≡ false
        → (unless_barred refused kept (granting kept ballot asks)).kept ≡ (granting kept ballot asks).kept
    by None h' = refl
    by (Some reply) h' = differ (sym h' ∙ ballots_themselves kept)

-- ---- what a store keeps of it

-- a group of 64 that is set, and the others
pub group_put : (groups : List KeptGroup) (g : ℕ) (new : KeptGroup) (h : ℕ) → length groups ≡ 64 → g < 64
    → slice_index_or (slice_set groups g new) h no_group ≡ cond (eqb h g) new (slice_index_or groups h no_group)
group_put groups g new h long few = by (eqb h g) refl
  where
    by : (b : Bool) → eqb h g ≡ b → slice_index_or (slice_set groups g new) h no_group ≡ cond b new (slice_index_or groups h no_group)
    by true is = ap (λ (k : ℕ). slice_index_or (slice_set groups g new) k no_group) (eqb-true h g is)
        ∙ get_or-set_same groups g new no_group (omega (arith, long, few))
    by false is = get_or-set_other groups g h new no_group (eqb-false h g is)

module _ (call : Call) (st : StateOf Version) (vote : Voted) where
  abbrev here : ℕ
  here = call.group.0

  -- nothing new
  pub voted_same : ballots_in st here ≡ vote.kept → IsVoted call st vote (Some vote.reply) st
  voted_same is = record {
    told = refl;
    boot = refl;
    stripes = refl;
    known = λ g. refl;
    ballots = λ g. by g (eqb g here) refl;
  }
    where
      by : (g : ℕ) (b : Bool) → eqb g here ≡ b → ballots_in st g ≡ cond b vote.kept (ballots_in st g)
      by g true same = ap (ballots_in st) (eqb-true g here same) ∙ is
      by g false same = refl

  -- a record of ballots
  pub voted_kept : length st.groups ≡ 64 → here < 64 → (promised : Ballot) (accepted : Option (Ballot × List BrickId))
      → vote.kept ≡ Some (promised, accepted) → IsVoted call st vote (Some vote.reply) (balloted here promised accepted st)
  voted_kept long few promised accepted is = record {
    told = refl;
    boot = refl;
    stripes = refl;
    known = λ g. ap (λ (x : KeptGroup). x.known) (at g) ∙ known g (eqb g here) refl;
    ballots = λ g. ap (λ (x : KeptGroup). x.ballots) (at g) ∙ kept g (eqb g here);
  }
    where
      new : KeptGroup
      new = with_ballots promised accepted (group_at st here)

      at : (g : ℕ) → group_at (balloted here promised accepted st) g ≡ cond (eqb g here) new (group_at st g)
      at g = group_put st.groups here new g long few

      known : (g : ℕ) (b : Bool) → eqb g here ≡ b → (cond b new (group_at st g)).known ≡ (group_at st g).known
      known g true same = ap (λ (k : ℕ). (group_at st k).known) (sym (eqb-true g here same))
      known g false same = refl

      kept : (g : ℕ) (b : Bool) → (cond b new (group_at st g)).ballots ≡ cond b vote.kept (ballots_in st g)
      kept g true = sym is
      kept g false = refl

  -- where it is another than was kept, something changes
  pub vote_moves : (after : StateOf Version) → same_ballots (ballots_in st here) vote.kept ≡ false → IsVoted call st vote (Some vote.reply) after
      → (layout : Layout) (block : ℕ) → KeepsAll layout block st after → ⊥
  vote_moves after other voted layout block same =
      let now : ballots_in after here ≡ vote.kept = voted.ballots here ∙ ap (λ (b : Bool). cond b vote.kept (ballots_in st here)) (eq-eqb here here refl) in
      differ (sym other ∙ ap (same_ballots (ballots_in st here)) (sym now ∙ same.ballots here) ∙ ballots_themselves (ballots_in st here))
