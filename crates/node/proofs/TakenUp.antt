-- What a synchronisation does next is taken up by its brick.
use Rattle.std.proofs.Common.{◌≡◌, ◌≤◌, ◌+◌, ℕ, Bool, true, false, if◌then◌else◌, is_some, [], Option, Some, None, refl, ◌∙◌, ap, arith}
use Rattle.std.specs.Ordering.{nat_cmp}
use Rattle.std.specs.BTreeMap.{BTreeMap, get}
use Rattle.std.proofs.lemmas.Bool.Decides.{nat_tests}
use Rattle.fab_base.specs.declared.identities.BrickId.{BrickId}
use Rattle.fab_base.specs.declared.identities.GroupId.{GroupId}
use Rattle.fab_base.specs.declared.member_lists.View.{View}
use Rattle.fab_base.specs.Layouts.{Layout}
use Rattle.protocol.specs.declared.tellings.Report.{Report}
use Rattle.protocol.specs.Jobs.{begun_job, synced_answer}
use Rattle.protocol.specs.Views.{Learnt}
use Rattle.protocol.specs.Nodes.{Node, read_begun, reporting, synced_at}
use Rattle.stripe_code.specs.Codes.{coding}
use Rattle.node.specs.declared.jobs.OpenJob.{OpenJob}
use Rattle.node.specs.declared.open_calls.OpenCalls.{OpenCalls}
use Rattle.node.specs.declared.operations.Operation.{Operation}
use Rattle.node.specs.declared.scrubs.OpenScrub.{OpenScrub}
use Rattle.node.specs.Jobs.{IsOpenJobOf, begins_sync}
use Rattle.node.specs.Scrubs.{scrub_seq}
use Rattle.node.specs.Tasks.{IsJobAt, IsScrubIn, read_seq}
use Rattle.node.proofs.Hearing.{none_of}

-- no operation has the call of a new read, which is one of the brick
pub read_is_at : (layout : Layout) (before after : OpenCalls) (held : OpenJob) → after.operations ≡ before.operations → after.seq ≡ read_seq held
    → IsOpenJobOf layout held → read_seq held ≡ before.seq + 1 → IsJobAt layout after held
read_is_at layout before after held same last open_is next =
    record {
      open_is = open_is;
      made = omega (arith, last);
      apart = none_of (get nat_cmp after.operations (read_seq held))
          (ap (λ (operations : BTreeMap ℕ Operation). is_some (get nat_cmp operations (read_seq held))) same
          ∙ before.fresh (read_seq held) (omega (arith, next)));
    }

-- a scrub is of the brick still, and has another call than the new read
pub scrub_goes : (layout : Layout) (before after : OpenCalls) (held : OpenJob) (scrub : Option OpenScrub) → after.operations ≡ before.operations
    → before.seq ≤ after.seq → read_seq held ≡ before.seq + 1 → IsScrubIn layout before None scrub → IsScrubIn layout after (Some held) scrub
scrub_goes layout before after held None same later next is = tt
scrub_goes layout before after held (Some s) same later next is =
    let made = is.made in
    record {
      scrub_is = is.scrub_is;
      made = omega (arith, made, later);
      apart = ap (λ (operations : BTreeMap ℕ Operation). get nat_cmp operations (scrub_seq s)) same ∙ is.apart;
      aside = grind (arith, nat_tests, made, next);
    }

-- a synchronisation begins, where this is learnt
pub synced_so : (layout : Layout) (me : BrickId) (now : ℕ) (node : Node) (group : GroupId) (view : View) (synced : Bool)
    → node.learnt group.0 ≡ record { view = view; synced = synced }
    → synced_at (coding layout) me now node group ≡ begins_sync layout me now node (begun_job group view) synced
unfolding synced_at
synced_so layout me now node group view synced learns =
    ap (λ (learnt : Learnt). if learnt.synced then reporting node [] (Report.Sync group (synced_answer learnt.view.number))
    else read_begun (coding layout) me now node (begun_job group learnt.view)) learns
    ∙ either synced
  where
    either : (b : Bool) → (if b then reporting node [] (Report.Sync group (synced_answer view.number))
        else read_begun (coding layout) me now node (begun_job group view)) ≡ begins_sync layout me now node (begun_job group view) b
    either true = refl
    either false = refl
