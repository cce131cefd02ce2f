-- What a brick takes up goes beside its synchronisation.
use Rattle.std.proofs.Common.{◌≡◌, ◌≤◌, ◌+◌, ℕ, Bool, true, false, cond, nat_eq, List, [], Option, Some, None, Result, Ok, Err, ◌∙◌, ap, subst, arith}
use Rattle.std.specs.Result.{IfOk, OnErr}
use Rattle.std.proofs.lemmas.Bool.Decides.{nat_tests}
use Rattle.fab_base.specs.declared.identities.BrickId.{BrickId}
use Rattle.fab_base.specs.declared.identities.GroupId.{GroupId}
use Rattle.fab_base.specs.Layouts.{Group, Layout}
use Rattle.quorum.specs.Memberships.{is_membership}
use Rattle.protocol.specs.Coordinators.{Coordinator}
use Rattle.protocol.specs.declared.tellings.Report.{Report}
use Rattle.protocol.specs.declared.tellings.ViewAnswer.TheVariants as answer
use Rattle.protocol.specs.Proposals.{ballot_packets}
use Rattle.protocol.specs.Nodes.{Node, NodeStep, began_in, new_proposal, proposed_in, proposing, reporting, sending}
use Rattle.stripe_code.specs.Codes.{coding}
use Rattle.node.specs.declared.jobs.OpenJob.{OpenJob}
use Rattle.node.specs.declared.open_calls.OpenCalls.{OpenCalls}
use Rattle.node.specs.declared.outs.Begun.{Begun}
use Rattle.node.specs.Jobs.{Reading, reading_in, with_reading}
use Rattle.node.specs.declared.scrubs.OpenScrub.{OpenScrub}
use Rattle.node.specs.Scrubs.{Scrubbing, scrub_seq, scrubbing_in, with_scrubbing}
use Rattle.node.specs.States.{BeginsAs}
use Rattle.node.specs.Tasks.{IsJobAt, IsJobIn, IsScrubAt, IsScrubIn, read_seq}
use Rattle.node.proofs.Beside.{ApartFrom, beside}
use Rattle.node.proofs.ScrubsBeside.{ScrubApart, beside_scrub}
use Rattle.node.proofs.Underway.{KeepsFree}

-- what follows from either end of a call follows
pub at_either : {T E Q C : Type 0} {P : T → Type 0} (r : Result T E) → IfOk r P → OnErr r Q → ((x : T) → P x → C) → (Q → C) → C
at_either (Ok x) made failed ok err = ok x made
at_either (Err e) made failed ok err = err failed

-- the next call is not that of the read
pub apart_next : (layout : Layout) (calls : OpenCalls) (job : Option OpenJob) → IsJobIn layout calls job → ApartFrom (reading_in job) (calls.seq + 1)
apart_next layout calls None is = tt
apart_next layout calls (Some held) is = let made = is.made in grind (arith, nat_tests)

module _ (layout : Layout) (me : BrickId) where
  -- a new operation gets the brick's next call, and no other
  pub began_free : (node : Node) (c : Coordinator) (seq : ℕ) → seq ≤ node.seq → c.call.seq ≡ node.seq + 1
      → KeepsFree seq node (began_in (coding layout) me node c).node
  began_free node c seq made next =
      let other : nat_eq seq c.call.seq ≡ false = grind (arith, nat_tests) in
      record { later = omega (arith, next); free = λ none. ap (λ (b : Bool). cond b (Some c) (node.calls seq)) other ∙ none }

  -- a proposal gives no operation a call
  pub proposed_free : (node : Node) (group : GroupId) (members : List BrickId) (kept : Group) (seq : ℕ)
      → KeepsFree seq node (proposed_in (coding layout) me node group members (Some kept)).node
  proposed_free node group members kept seq = either (is_membership kept.m layout.bricks members)
    where
      either : (b : Bool) → KeepsFree seq node (cond b
          (let p = new_proposal me node kept.m group members in sending (proposing node p) (ballot_packets me p))
          (reporting node [] (Report.View group None answer.BadMembers))).node
      either true = record { later = omega arith; free = λ none. none }
      either false = record { later = omega arith; free = λ none. none }

-- what begins beside a synchronisation begins as at the brick
pub begins_beside : (me : BrickId) (r : Option Reading) (state : Node) (step : NodeStep) (begun : Begun) → BeginsAs me state step begun
    → BeginsAs me (with_reading r state) (beside r step) begun
begins_beside me r state step begun begins =
    record { packets = begins.packets; seq = begins.seq; state_is = ap (with_reading r) begins.state_is }

-- the read's call is one that the brick made
pub made_before : (layout : Layout) (calls : OpenCalls) (job : Option OpenJob) (held : OpenJob) → job ≡ Some held → IsJobIn layout calls job → read_seq held ≤ calls.seq
made_before layout calls job held e is = let at : IsJobAt layout calls held = subst (IsJobIn layout calls) e is in at.made

-- so it is beside a scrub
pub begins_beside_scrub : (me : BrickId) (s : Option Scrubbing) (state : Node) (step : NodeStep) (begun : Begun) → BeginsAs me state step begun
    → BeginsAs me (with_scrubbing s state) (beside_scrub s step) begun
begins_beside_scrub me s state step begun begins =
    record { packets = begins.packets; seq = begins.seq; state_is = ap (with_scrubbing s) begins.state_is }

-- the next call is not that of the scrub
pub scrub_apart_next : (layout : Layout) (calls : OpenCalls) (job : Option OpenJob) (scrub : Option OpenScrub) → IsScrubIn layout calls job scrub
    → ScrubApart (scrubbing_in scrub) (calls.seq + 1)
scrub_apart_next layout calls job None is = tt
scrub_apart_next layout calls job (Some held) is = let made = is.made in grind (arith, nat_tests)

-- the scrub's call is one that the brick made
pub scrub_made_before : (layout : Layout) (calls : OpenCalls) (job : Option OpenJob) (scrub : Option OpenScrub) (held : OpenScrub) → scrub ≡ Some held
    → IsScrubIn layout calls job scrub → scrub_seq held ≤ calls.seq
scrub_made_before layout calls job scrub held e is =
    let at : IsScrubAt layout calls job held = subst (IsScrubIn layout calls job) e is in at.made
