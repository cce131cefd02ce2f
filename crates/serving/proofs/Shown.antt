-- A brick that the image of a disk shows, that has no operation open, and whose proposal and synchronisation are of its layout, is a brick of the layout.
use Rattle.std.proofs.Common.{◌≡◌, ℕ, ◌≤◌, Bool, true, false, List, [], ◌∷◌, length, map, take, replicate, Option, Some, None, sym, subst, ap, ⊎_elim, arith, length-take}
use Rattle.std.specs.Prelude.{◌==◌, if◌then◌else◌, unwrap_or}
use Rattle.std.specs.Option.{IfSome, option_map, option_and_then}
use Rattle.std.specs.List.{AllByRecursion, list_all}
use Rattle.std.specs.Map.{lookup}
use Rattle.std.specs.BTreeMap.{is_at}
use Rattle.std.proofs.lemmas.Bool.{cond_both, and_parts}
use Rattle.fab_base.specs.declared.identities.BrickId.{BrickId}
use Rattle.fab_base.specs.declared.member_lists.View.{View}
use Rattle.fab_base.specs.Layouts.{Layout, Group, group_of, first_view}
use Rattle.version_log.specs.Versions.{Version as Kept, version}
use Rattle.frame_store.specs.declared.frames.Frame.{Frame}
use Rattle.frame_store.specs.declared.shapes.Form.{Form}
use Rattle.frame_store.specs.declared.shapes.Form.TheVariants.{Old, New, Moved}
use Rattle.frame_store.specs.declared.shapes.Shape.{Shape}
use Rattle.frame_store.specs.Images.{block_in}
use Rattle.frame_store.specs.Layouts.{formed}
use Rattle.brick_state.specs.Entries.{Entry}
use Rattle.brick_state.specs.States.{Place, StripeOf, StateOf, place_cmp, first_stripe, stripe_at, group_at}
use Rattle.brick_store.specs.Blocks.{resolved, resolved_stripe, log_of, learnt_view, accepted_of}
use Rattle.brick_store.specs.Images.{block_at, state_by, state_in, StandsFor}
use Rattle.brick_store.specs.OldLists.{old_state_in}
use Rattle.layout.specs.Limits.{IsLayout, IsGroup}
use Rattle.synod_laws.specs.Synods.{Kept as KeptBallots, last_of}
use Rattle.protocol.specs.Views.{Learnt, members_of, first_learnt, is_view, may_be_taught}
use Rattle.protocol.specs.declared.phases.Counted.{Counted}
use Rattle.protocol.specs.Coordinators.{Coordinator}
use Rattle.protocol.specs.Proposals.{Proposal, answers_ballot}
use Rattle.protocol.specs.Jobs.{Job}
use Rattle.protocol.specs.Nodes.{Node, no_calls}
use Rattle.protocol.specs.Replicas.{Replica}
use Rattle.replica.specs.Parts.{as_version, part_in, learnt_or, may_be_accepted, IsPartsOf, ListsStand}
use Rattle.view_synod.specs.Proposers.{may_be_asked}
use Rattle.serving.specs.Spellings.{has_some}
use Rattle.serving.specs.Views.{IsViewOf, IsProposalOf, IsJobOf}
use Rattle.serving.proofs.Everywhere.{all_append, all_map}
use Rattle.serving.proofs.Fitting.{IsShort, AreShort, NamesSome, TellsSome, ViewFits, ProposalFits, NodeFits}
use Rattle.serving.proofs.Lists.{names_some, view_fits, first_fits}
use Rattle.serving.proofs.OldBlocks.{KeptShort, StripeShort, zeros_short, at_short, old_short}
use Rattle.serving.proofs.Voting.{answer_names}

-- ---- what lies in the slots of an image

front_short : (n : ℕ) (bytes : List ℕ) → length (take n bytes) ≤ n
front_short n bytes = let front = length-take n bytes in omega (arith, front)

slot_short : (shape : Shape) (image : List ℕ) (slot : ℕ) → length (block_at shape image slot) ≤ shape.block
slot_short shape image slot =
    cond_both (slot == 4294967295) (replicate shape.block 0) (block_in shape slot image) (λ bytes. length bytes ≤ shape.block)
    (λ zero. zeros_short shape.block)
    (λ other. front_short shape.block _)

added_short : (shape : Shape) (image : List ℕ) (added : List Entry)
    → AllByRecursion (KeptShort shape.block) (map (λ e. version e.stamp (block_at shape image e.block)) added)
added_short shape image [] = tt
added_short shape image (e ∷ added) = (slot_short shape image e.block, added_short shape image added)

found_short : (shape : Shape) (image : List ℕ) (test : Place → Bool) (none : StripeOf Kept) → StripeShort shape.block none
    → (stripes : List (Place × StripeOf Entry))
    → StripeShort shape.block (unwrap_or (lookup test (map (λ e. (e.0, resolved_stripe (block_at shape image) e.1)) stripes)) none)
found_short shape image test none short [] = short
found_short shape image test none short (e ∷ stripes) = by (test e.0) (found_short shape image test none short stripes)
  where
    by : (b : Bool)
        → StripeShort shape.block (unwrap_or (lookup test (map (λ e. (e.0, resolved_stripe (block_at shape image) e.1)) stripes)) none)
        → StripeShort shape.block (unwrap_or (if b then Some (resolved_stripe (block_at shape image) e.1)
        else lookup test (map (λ e. (e.0, resolved_stripe (block_at shape image) e.1)) stripes)) none)
    by true rest = added_short shape image e.1.added
    by false rest = rest

resolved_short : (shape : Shape) (image : List ℕ) (st : StateOf Entry) (p : Place)
    → StripeShort shape.block (stripe_at (resolved (block_at shape image) st) p)
unfolding resolved
resolved_short shape image st p = found_short shape image (is_at (place_cmp p)) (first_stripe p) tt st.stripes

-- and so it is of each form
stripe_short : (shape : Shape) (image : List ℕ) (form : Form) (frames : List Frame) (p : Place)
    → StripeShort shape.block (stripe_at (state_by form shape frames image) p)
stripe_short shape image Old frames p =
    at_short shape.block p (old_state_in shape.block shape.records frames).stripes (old_short shape.block shape.records frames)
stripe_short shape image New frames p = resolved_short shape image _ p
stripe_short shape image Moved frames p = resolved_short shape image _ p

-- the log of a stripe whose added versions are short
log_short : (block : ℕ) (s : StripeOf Kept) → StripeShort block s → AreShort block (map as_version (log_of block s))
log_short block s short =
    all_map (KeptShort block) (IsShort block) as_version (λ v v_short. v_short) (log_of block s)
    (all_append (KeptShort block) (if s.from_start then _ else []) s.added
    (cond_both s.from_start _ [] (AllByRecursion (KeptShort block)) (λ there. (zeros_short block, tt)) (λ gone. tt))
    short)

pub logs_short : (shape : Shape) (st : StateOf Kept) (image : List ℕ) → StandsFor shape st image → (g e s : ℕ)
    → AreShort shape.block (part_in shape.block st g e s).log
logs_short shape st image stands g e s =
    subst (λ (z : StateOf Kept). AreShort shape.block (part_in shape.block z g e s).log) stands.state
    (log_short shape.block (stripe_at (state_in (formed stands.form shape) stands.frames image) (g, e, s))
    (stripe_short (formed stands.form shape) image stands.form stands.frames (g, e, s)))

-- ---- lists of members

-- the view that a store has learnt of a group: the layout's first, or a later one whose lists may keep the group
learnt_fits : (layout : Layout) (g : ℕ) (group : Group) → IsGroup layout.block layout.bricks group → group_of layout g ≡ Some group
    → (known : Option (View × Bool)) → may_be_taught group.m layout.bricks (option_map (λ k. k.0) known) ≡ true
    → ViewFits layout (learnt_or (first_learnt layout g) known).view
learnt_fits layout g group is at None stands =
    subst (λ (o : Option Group). ViewFits layout (first_view (members_of o))) (sym at) (first_fits layout group is)
learnt_fits layout g group is at (Some known) stands = view_fits layout group.m known.0 is.limits.some_block stands

-- the list that it has accepted
accepted_names : (m bricks : ℕ) (ballots : KeptBallots (List BrickId)) → 1 ≤ m → may_be_accepted m bricks (option_and_then (λ b. b.1) ballots) ≡ true
    → NamesSome (last_of ballots)
accepted_names m bricks None some stands = tt
accepted_names m bricks (Some (promised, None)) some stands = tt
accepted_names m bricks (Some (promised, Some accepted)) some stands = names_some m bricks accepted.1 some stands

-- ---- a proposal

-- the replies that count in it
told_names : (m bricks : ℕ) (asks : Option (List BrickId)) → 1 ≤ m → (counted : List Counted)
    → list_all (λ c. answers_ballot m bricks asks c.reply) counted ≡ true → AllByRecursion TellsSome counted
told_names m bricks asks some [] all = tt
told_names m bricks asks some (c ∷ counted) all =
    let parts = and_parts (answers_ballot m bricks asks c.reply) (list_all (λ d. answers_ballot m bricks asks d.reply) counted) all in
    (answer_names m bricks asks c.reply some parts.0, told_names m bricks asks some counted parts.1)

asked_names : (m bricks : ℕ) (asks : Option (List BrickId)) → 1 ≤ m → may_be_asked m bricks asks ≡ true
    → IfSome asks (λ members. has_some members ≡ true)
asked_names m bricks None some may = tt
asked_names m bricks (Some members) some may = names_some m bricks members some may

-- a view of a group of the layout
view_of_fits : (layout : Layout) (group : Group) (view : View) → IsGroup layout.block layout.bricks group → IsViewOf layout group view → ViewFits layout view
view_of_fits layout group view is its =
    ⊎_elim (λ (first : view ≡ first_view group.members). subst (ViewFits layout) (sym first) (first_fits layout group is))
    (λ (later : is_view group.m layout.bricks view ≡ true). view_fits layout group.m view is.limits.some_block later) its

proposal_fits : (layout : Layout) → IsLayout layout → (p : Proposal) → IsProposalOf layout p → ProposalFits layout p
proposal_fits layout is p its =
    let group_is : IsGroup layout.block layout.bricks its.group = is.each p.call.group.0 its.group its.at in
    let some : 1 ≤ p.m = its.under_way.limits.some_block in
    record {
      m = some;
      view = view_of_fits layout its.group p.view group_is its.view;
      own = names_some p.m layout.bricks p.own some its.under_way.own;
      asks = asked_names p.m layout.bricks p.asks some its.under_way.asked;
      counted = told_names p.m layout.bricks p.asks some p.counted its.under_way.answers;
    }

-- ---- a brick

pub shown_fits : (layout : Layout) → IsLayout layout → (shape : Shape) → shape.block ≡ layout.block → (st : StateOf Kept) (image : List ℕ) (node : Node)
    → StandsFor shape st image → IsPartsOf layout st node → ListsStand layout st → node.calls ≡ no_calls
    → ((p : Proposal) → node.proposal ≡ Some p → IsProposalOf layout p) → ((job : Job) → node.job ≡ Some job → IsJobOf layout job) → NodeFits layout node
shown_fits layout is shape size st image node stands parts lists idle proposing syncing =
    record {
      views = λ g group at.
          subst (λ (l : Learnt). ViewFits layout l.view) (sym (parts.learnt g))
          (learnt_fits layout g group (is.each g group at) at (group_at st g).known (kept_lists g group at).0);
      accepted = λ g group at.
          subst (λ (kept : KeptBallots (List BrickId)). NamesSome (last_of kept)) (sym (parts.ballots g))
          (accepted_names group.m layout.bricks (group_at st g).ballots (is.each g group at).limits.some_block (kept_lists g group at).1);
      logs = λ g e s.
          subst (λ (r : Replica). AreShort layout.block r.log) (sym (parts.replicas g e s))
          (subst (λ (n : ℕ). AreShort n (part_in n st g e s).log) size (logs_short shape st image stands g e s));
      calls = λ k c at. let none : node.calls k ≡ None = ap (λ (calls : ℕ → Option Coordinator). calls k) idle in cc;
      proposal = λ p at. proposal_fits layout is p (proposing p at);
      job = λ job at.
          let its : IsJobOf layout job = syncing job at in
          view_of_fits layout its.group job.view (is.each job.group.0 its.group its.at) its.view;
    }
  where
    kept_lists : (g : ℕ) (group : Group) → group_of layout g ≡ Some group
        → (may_be_taught group.m layout.bricks (learnt_view (group_at st g)) ≡ true)
        × (may_be_accepted group.m layout.bricks (accepted_of (group_at st g)) ≡ true)
    kept_lists g group at =
        and_parts (may_be_taught group.m layout.bricks (learnt_view (group_at st g)))
        (may_be_accepted group.m layout.bricks (accepted_of (group_at st g))) (lists g group at)
