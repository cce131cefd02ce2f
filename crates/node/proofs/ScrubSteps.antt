-- What a brick does with what the coordinator of its scrub decided, by what that is.
use Rattle.std.proofs.Common.{◌≡◌, ℕ, max, List, [], ◌∷◌, ◌++◌, Option, Some, None, refl, sym, ◌∙◌, ap}
use Rattle.std.proofs.lemmas.List.{append-nil}
use Rattle.fab_base.specs.declared.answers.Answer.{Answer}
use Rattle.fab_base.specs.declared.identities.BrickId.{BrickId}
use Rattle.fab_base.specs.declared.stamps.Stamp.{Stamp}
use Rattle.protocol.specs.Settings.{Setting}
use Rattle.protocol.specs.Coordinators.{Coordinator, Next, Ignores, Waits, Sends, Makes, Ends}
use Rattle.protocol.specs.Jobs.{abort_cause}
use Rattle.protocol.specs.Scrubs.{lagging_after, scrub_answer}
use Rattle.protocol.specs.declared.tellings.Report.{Report}
use Rattle.protocol.specs.declared.tellings.Told.TheVariants.{Made, Closed}
use Rattle.protocol.specs.Nodes.{Node, NodeStep, carried_scrub, collect_packets, members_alone, no_step, phase_packets, put, seen_told, sending, with_known}
use Rattle.node.specs.Scrubs.{Scrubbing, with_scrubbing}
use Rattle.node.proofs.Beside.{put_same, put_twice}

-- a scrub of this coordinator, of which these lagged
abbrev pub scrubbed : List BrickId → Coordinator → Scrubbing
scrubbed lagging c = record { scrub = record { seq = c.call.seq; lagging = lagging }; call = c }

module _ (setting : Setting) (me : BrickId) (node : Node) (known : ℕ) (lagging : List BrickId) (c : Coordinator) where
  -- the brick that has it under way
  abbrev pub scrubs : Node
  scrubs = with_scrubbing (Some (scrubbed lagging c)) node

  -- what it does
  abbrev pub carried : Coordinator → Next → NodeStep
  carried heard next = carried_scrub setting me scrubs known (scrubbed lagging c).scrub c heard next

  -- the brick with the scrub's coordinator changed
  changed : (later : ℕ) (who : List BrickId) (d : Coordinator) → d.call.seq ≡ c.call.seq
      → record node {
        known = later;
        calls = put (put node.calls c.call.seq (Some c)) c.call.seq (Some d);
        scrub = Some (record { seq = c.call.seq; lagging = who });
      }
      ≡ with_scrubbing (Some (scrubbed who d)) (with_known node later)
  changed later who d same =
      (λ i. record node {
        known = later;
        calls = put_twice node.calls c.call.seq (Some c) (Some d) i;
        scrub = Some (record { seq = c.call.seq; lagging = who });
      })
      ∙ (λ i. record node {
        known = later;
        calls = put node.calls (sym same i) (Some d);
        scrub = Some (record { seq = sym same i; lagging = who });
      })

  -- it leaves a reply out
  pub scrub_ignores : (heard : Coordinator) → carried heard Ignores ≡ no_step (with_scrubbing (Some (scrubbed lagging c)) (with_known node known))
  scrub_ignores heard = refl

  -- it waits
  pub scrub_waits : (heard d : Coordinator) → d.call.seq ≡ c.call.seq
      → carried heard (Waits d) ≡ no_step (with_scrubbing (Some (scrubbed lagging d)) (with_known node known))
  scrub_waits heard d same = ap no_step (changed known lagging d same)

  -- its next phase begins
  pub scrub_sends : (heard d : Coordinator) → d.call.seq ≡ c.call.seq
      → carried heard (Sends d)
      ≡ sending (with_scrubbing (Some (scrubbed (lagging_after (scrubbed lagging c).scrub heard) d)) (with_known node (max known d.stamp.time)))
      (phase_packets setting me d)
  scrub_sends heard d same =
      ap (λ (n : Node). sending n (phase_packets setting me d))
      (changed (max known d.stamp.time) (lagging_after (scrubbed lagging c).scrub heard) d same)

  -- so it does as it makes its version
  pub scrub_makes : (heard d : Coordinator) → d.call.seq ≡ c.call.seq
      → carried heard (Makes d)
      ≡ record {
        node = with_scrubbing (Some (scrubbed lagging d)) (with_known node known);
        packets = phase_packets setting me d;
        told = Made c.call.seq d.stamp d.base ∷ [];
        answers = [];
        reports = [];
      }
  scrub_makes heard d same =
      ap (λ (n : Node). record (carried heard (Makes d)) { node = n }) (changed known lagging d same)

  -- it ends
  pub scrub_ends : (heard : Coordinator) (answer : Answer) (seen stored : Option Stamp) → node.calls c.call.seq ≡ None
      → carried heard (Ends answer seen stored)
      ≡ record {
        node = with_scrubbing None (with_known node known);
        packets = collect_packets me c stored;
        told = seen_told c.call.seq seen ++ (Closed c.call.seq (abort_cause answer) ∷ []);
        answers = [];
        reports = Report.Scrub c.call (members_alone c.only) (scrub_answer lagging (abort_cause answer) stored) ∷ [];
      }
  scrub_ends heard answer seen stored free =
      λ i. record {
        node = record node {
          known = known;
          calls = (put_twice node.calls c.call.seq (Some c) None ∙ put_same node.calls c.call.seq None free) i;
          scrub = None;
        };
        packets = append-nil (collect_packets me c stored) i;
        told = append-nil (seen_told c.call.seq seen ++ (Closed c.call.seq (abort_cause answer) ∷ [])) i;
        answers = [];
        reports = Report.Scrub c.call (members_alone c.only) (scrub_answer lagging (abort_cause answer) stored) ∷ [];
      }
