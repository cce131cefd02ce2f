-- What a scrub does with a reply is what the machine's brick does.
use Rattle.std.proofs.Common.{◌≡◌, ℕ, Bool, true, false, if◌then◌else◌, List, [], ◌∷◌, ◌++◌, Option, Some, None, refl, sym, ◌∙◌, ap, subst}
use Rattle.std.specs.Option.{option_map}
use Rattle.fab_base.specs.declared.answers.Answer.{Answer}
use Rattle.fab_base.specs.declared.answers.Cause.{Cause}
use Rattle.fab_base.specs.declared.identities.BrickId.{BrickId}
use Rattle.fab_base.specs.declared.stamps.Stamp.{Stamp}
use Rattle.fab_base.specs.Layouts.{Layout}
use Rattle.messages.specs.declared.calls.Call.{Call}
use Rattle.messages.specs.declared.packets.Message.{Message}
use Rattle.messages.specs.declared.packets.Message.TheVariants as message
use Rattle.messages.specs.declared.replies.Reply.{Reply}
use Rattle.messages.specs.declared.turns.Turn.TheVariants as Turn
use Rattle.protocol.specs.declared.phases.Phase.{Phase}
use Rattle.protocol.specs.declared.phases.Phase.TheVariants.{Recovers}
use Rattle.protocol.specs.declared.tellings.Answered.{Answered}
use Rattle.protocol.specs.declared.tellings.Report.{Report}
use Rattle.protocol.specs.declared.tellings.ScrubAnswer.{ScrubAnswer}
use Rattle.protocol.specs.declared.tellings.Told.TheVariants.{Closed}
use Rattle.protocol.specs.Coordinators as machine
use Rattle.protocol.specs.Coordinators.{Coordinator, Next, counts_at, fast_version, hearing, in_phase, on_reply}
use Rattle.protocol.specs.Jobs.{abort_cause}
use Rattle.protocol.specs.Scrubs.{is_look, lagging_after, lagging_of, scrub_answer}
use Rattle.protocol.specs.Nodes.{Node, collect_packets, members_alone, phase_packets, seen_told, sending, with_known}
use Rattle.stripe_code.specs.Codes.{block_code, coding}
use Rattle.coord_phase.specs.Operations as phased
use Rattle.coord_phase.specs.Operations.{counts, heard, heard_at, seat_told}
use Rattle.coord_phase.specs.Decisions.{decided_on}
use Rattle.coord_phase.specs.Messages.{packets_from}
use Rattle.coord_phase.proofs.Answered.{heard_stays, ignored}
use Rattle.coord_recover.specs.Recoveries.{entered, is_of_recovery}
use Rattle.scrub.specs.declared.answers.ScrubNext.TheVariants as next
use Rattle.scrub.specs.Scrubs as looks
use Rattle.scrub.specs.Decisions.{Hears}
use Rattle.node.specs.declared.operations.Operation.{Operation}
use Rattle.node.specs.declared.scrubs.OpenScrub.{OpenScrub}
use Rattle.node.specs.Decisions.{CarriesOut, KeepsCall, answers_in, known_by, left_by, left_open, or_waits, packets_in, told_in}
use Rattle.node.specs.Operations.{coordinator_of, shown_of}
use Rattle.node.specs.Outcomes.{Outcome}
use Rattle.node.specs.Scrubs.{GoesOnFrom, IsScrubOf, KeepsScrub, Recovers as RecoversScrub, StepsScrub, cause_in, end_outs, left_scrub, phase_of, scrub_coordinator_of, scrub_shown, scrubbing_in, with_scrubbing}
use Rattle.node.proofs.RecoveryPhases.{OfRecovery, looks_never, recovery_decides}
use Rattle.node.proofs.Resending.{phase_sent}
use Rattle.node.proofs.ScrubSteps.{carried, scrub_ends, scrub_makes, scrub_sends, scrub_waits, scrubbed}

-- nothing is sent, told, answered or reported
abbrev pub nothing_outs : Outcome
nothing_outs = record { messages = []; told = []; answers = []; reports = [] }

-- a message changes nothing of an operation but the replies that count
call_at : (op : phased.Operation) (from : BrickId) (told : Message) (seat : Option ℕ) → (heard_at op from told seat).state.call ≡ op.state.call
call_at op from (message.Reply call reply) (Some seat) = refl
call_at op from told seat = refl

phase_at : (op : phased.Operation) (from : BrickId) (told : Message) (seat : Option ℕ) → (heard_at op from told seat).state.phase ≡ op.state.phase
phase_at op from (message.Reply call reply) (Some seat) = refl
phase_at op from told seat = refl

pub call_heard : (op : phased.Operation) (from : BrickId) (told : Message) → (heard op from told).state.call ≡ op.state.call
call_heard op from told = call_at op from told _

-- what a coordinator hears is what its operation does
hearing_at : (op : phased.Operation) (from : BrickId) (call : Call) (reply : Reply) (seat : Option ℕ)
    → hearing op.state from reply seat ≡ (heard_at op from (message.Reply call reply) seat).state
hearing_at op from call reply None = refl
hearing_at op from call reply (Some seat) = refl

pub hearing_is : (layout : Layout) (op : phased.Operation) (from : BrickId) (call : Call) (reply : Reply) → op.block ≡ layout.block
    → hearing op.state from reply (counts_at layout.block op.state from.0 call reply) ≡ (heard op from (message.Reply call reply)).state
unfolding seat_told
hearing_is layout op from call reply block =
    ap (λ (b : ℕ). hearing op.state from reply (counts_at b op.state from.0 call reply)) (sym block)
    ∙ hearing_at op from call reply (counts_at op.block op.state from.0 call reply)

-- what it decides is what the operation decides
pub decided_is : (layout : Layout) (op : phased.Operation) (from : BrickId) (call : Call) (reply : Reply) (fresh : Option Stamp) → op.block ≡ layout.block
    → on_reply layout.block (block_code layout.block) fresh op.state from call reply ≡ decided_on fresh op from (message.Reply call reply)
decided_is layout op from call reply fresh block =
    ap (λ (b : ℕ). on_reply b (block_code b) fresh op.state from call reply) (sym block)

-- the cause by which a scrub was aborted is that of its operation
cause_of : (lagging : List BrickId) (o : Option Cause) (stored : Option Stamp) → cause_in (scrub_answer lagging o stored) ≡ o
cause_of lagging (Some cause) stored = refl
cause_of lagging None None = refl
cause_of lagging None (Some stamp) = refl

-- a scrub that looks
abbrev pub looking : looks.Scrubbing → OpenScrub
looking scrub = record { scrub = scrub; recovery = None }

-- ---- the look

module _ (layout : Layout) (was now : looks.Scrubbing) (from : BrickId) (told : Message) (fresh : Option Stamp) (known : ℕ)
    (of : IsScrubOf layout (looking was)) where
  abbrev c : Coordinator
  c = was.look.state

  -- it has its call still
  seq_kept : now.look ≡ heard was.look from told → now.look.state.call.seq ≡ c.call.seq
  seq_kept is = ap (λ (op : phased.Operation). op.state.call.seq) is ∙ ap (λ (call : Call). call.seq) (call_heard was.look from told)

  -- and is of the layout still
  of_kept : now.look ≡ heard was.look from told → IsScrubOf layout (looking now)
  of_kept is =
      record {
        block = ap (λ (op : phased.Operation). op.block) is ∙ (heard_stays was.look from told).block ∙ of.block;
        goes_on = tt;
      }

  -- it waits
  pub look_waits : Hears was from told next.Wait now → StepsScrub layout (looking was) from told fresh known nothing_outs (looking now) known
  look_waits hears =
      record {
        step = λ me node call reply is free.
            let decided = decided_is layout was.look from call reply fresh of.block ∙ ap (decided_on fresh was.look from) (sym is) in
            let h = hearing was.look.state from reply (counts_at layout.block was.look.state from.0 call reply) in
            ap (carried (coding layout) me node known was.lagging c h) decided
            ∙ by me node h (counts was.look from told) refl;
        goes_on = (seq_kept hears.heard, λ of. of_kept hears.heard);
      }
    where
      by : (me : BrickId) (node : Node) (h : Coordinator) (some : Bool) → counts was.look from told ≡ some
          → carried (coding layout) me node known was.lagging c h (decided_on fresh was.look from told)
          ≡ sending (with_scrubbing (scrubbing_in (Some (looking now))) (with_known node known)) []
      by me node h false e =
          ap (carried (coding layout) me node known was.lagging c h) (ignored fresh was.look from told e).0
          ∙ (λ i. sending (with_scrubbing (scrubbing_in (Some (looking (sym (hears.ignored e) i)))) (with_known node known)) [])
      by me node h true e =
          ap (carried (coding layout) me node known was.lagging c h) (hears.stands fresh e)
          ∙ scrub_waits (coding layout) me node known was.lagging c h now.look.state (seq_kept hears.heard)
          ∙ (λ i. sending (with_scrubbing (Some (scrubbed (sym hears.kept i) now.look.state)) (with_known node known)) [])

  -- it ends
  pub look_ends : (answer : ScrubAnswer) → Hears was from told (next.End answer) now
      → StepsScrub layout (looking was) from told fresh known (end_outs (looking now) c.call [] (fast_version now.look.state.counted) answer) (looking now) known
  look_ends answer hears =
      record {
        step = λ me node call reply is free.
            let decided = decided_is layout was.look from call reply fresh of.block ∙ ap (decided_on fresh was.look from) (sym is) in
            let h = hearing was.look.state from reply (counts_at layout.block was.look.state from.0 call reply) in
            ap (carried (coding layout) me node known was.lagging c h) decided
            ∙ by me node h (counts was.look from told) refl free;
        goes_on = tt;
      }
    where
      by : (me : BrickId) (node : Node) (h : Coordinator) (some : Bool) → counts was.look from told ≡ some → node.calls c.call.seq ≡ None
          → carried (coding layout) me node known was.lagging c h (decided_on fresh was.look from told)
          ≡ record {
            node = with_scrubbing None (with_known node known);
            packets = [];
            told = seen_told c.call.seq (fast_version now.look.state.counted) ++ (Closed c.call.seq (cause_in answer) ∷ []);
            answers = [];
            reports = Report.Scrub c.call (members_alone now.look.state.only) answer ∷ [];
          }
      by me node h false e free = absurd (hears.ignored e)
      by me node h true e free =
          let stands = hears.stands fresh e in
          let given : Answer = stands.0 in
          let version = fast_version now.look.state.counted in
          let cause : abort_cause given ≡ cause_in answer = sym (cause_of now.lagging (abort_cause given) None) ∙ ap cause_in (sym stands.2) in
          let only : c.only ≡ now.look.state.only =
          sym (heard_stays was.look from told).only ∙ ap (λ (op : phased.Operation). op.state.only) (sym hears.heard) in
          let answers : scrub_answer was.lagging (abort_cause given) None ≡ answer =
          ap (λ (lagging : List BrickId). scrub_answer lagging (abort_cause given) None) (sym hears.kept) ∙ sym stands.2 in
          ap (carried (coding layout) me node known was.lagging c h) stands.1
          ∙ scrub_ends (coding layout) me node known was.lagging c h given version None free
          ∙ (λ i. record {
            node = with_scrubbing None (with_known node known);
            packets = [];
            told = seen_told c.call.seq version ++ (Closed c.call.seq (cause i) ∷ []);
            answers = [];
            reports = Report.Scrub c.call (members_alone (only i)) (answers i) ∷ [];
          })

  -- its recovery begins
  pub look_recovers : (after : OpenScrub) (later : ℕ) (outs : Outcome) → Hears was from told next.Recover now
      → RecoversScrub (looking now) after known later outs → StepsScrub layout (looking was) from told fresh known outs after later
  look_recovers after later outs hears recovers =
      record {
        step = λ me node call reply is free.
            let decided = decided_is layout was.look from call reply fresh of.block ∙ ap (decided_on fresh was.look from) (sym is) in
            let h = hearing was.look.state from reply (counts_at layout.block was.look.state from.0 call reply) in
            let heard_so : h ≡ now.look.state =
            hearing_is layout was.look from call reply of.block ∙ ap (λ (m : Message). (heard was.look from m).state) (sym is)
            ∙ ap (λ (op : phased.Operation). op.state) (sym hears.heard) in
            ap (carried (coding layout) me node known was.lagging c h) decided
            ∙ by me node h heard_so (counts was.look from told) refl;
        goes_on = subst (λ (reports : List Report). KeepsScrub layout reports (looking was) after) (sym recovers.reports) (
          ap (λ (op : phased.Operation). op.state.call.seq) recovers.shown ∙ seq_kept hears.heard,
          λ was_of. record {
            block = ap (λ (s : looks.Scrubbing). s.look.block) recovers.scrub ∙ (of_kept hears.heard).block;
            goes_on = subst (λ (look : phased.Operation). GoesOnFrom look after.recovery) (sym (ap (λ (s : looks.Scrubbing). s.look) recovers.scrub))
                (enters after.scrub.look now.look after.recovery recovers.shown);
          },
        );
      }
    where
      enters : (first look : phased.Operation) (o : Option Operation) → phase_of first o ≡ entered look Turn.Order → GoesOnFrom look o
      enters first look None e = tt
      enters first look (Some r) e = (
        ap (λ (op : phased.Operation). op.block) e,
        ap (λ (op : phased.Operation). op.state.call.seq) e,
        ap (λ (op : phased.Operation). op.state.only) e,
        ap (λ (op : phased.Operation). is_of_recovery op.state.phase) e,
      )

      by : (me : BrickId) (node : Node) (h : Coordinator) → h ≡ now.look.state → (some : Bool) → counts was.look from told ≡ some
          → carried (coding layout) me node known was.lagging c h (decided_on fresh was.look from told)
          ≡ record {
            node = with_scrubbing (scrubbing_in (left_scrub outs.reports after)) (with_known node later);
            packets = packets_from me outs.messages;
            told = outs.told;
            answers = outs.answers;
            reports = outs.reports;
          }
      by me node h heard_so false e = absurd (hears.ignored e)
      by me node h heard_so true e =
          let stands = hears.stands fresh e in
          let d : Coordinator = in_phase now.look.state Recovers in
          let who : lagging_after (scrubbed was.lagging c).scrub h ≡ after.scrub.lagging =
          ap (lagging_after (scrubbed was.lagging c).scrub) heard_so
          ∙ ap (λ (phase : Phase). if is_look phase then lagging_of now.look.state.group.members now.look.state.counted else was.lagging) stands.2
          ∙ ap (λ (s : looks.Scrubbing). s.lagging) (sym recovers.scrub) in
          let d_is : d ≡ scrub_coordinator_of after = ap (λ (op : phased.Operation). op.state) (sym recovers.shown) in
          let packets : phase_packets (coding layout) me d ≡ packets_from me outs.messages =
          ap (phase_packets (coding layout) me) d_is
          ∙ sym (phase_sent layout (scrub_shown after) me (ap (λ (op : phased.Operation). op.block) recovers.shown ∙ (of_kept hears.heard).block)
          (ap (λ (op : phased.Operation). op.state.counted) recovers.shown))
          ∙ ap (packets_from me) (sym recovers.sends) in
          ap (carried (coding layout) me node known was.lagging c h) stands.0
          ∙ scrub_sends (coding layout) me node known was.lagging c h d (seq_kept hears.heard)
          ∙ (λ i. record {
            node = with_scrubbing (Some (scrubbed (who i) (d_is i))) (with_known node (sym recovers.knows i));
            packets = packets i;
            told = sym recovers.told i;
            answers = sym recovers.answers i;
            reports = [];
          })
          ∙ (λ i. record {
            node = with_scrubbing (scrubbing_in (left_scrub (sym recovers.reports i) after)) (with_known node later);
            packets = packets_from me outs.messages;
            told = outs.told;
            answers = outs.answers;
            reports = sym recovers.reports i;
          })

-- ---- the recovery

-- what an operation decides on a message, in a phase of a recovery
decided_of : (fresh : Option Stamp) (op : phased.Operation) (from : BrickId) (told : Message) → is_of_recovery op.state.phase ≡ true
    → OfRecovery op.state (decided_on fresh op from told)
decided_of fresh op from (message.Reply call reply) is = recovery_decides op.block (block_code op.block) fresh op.state from call reply is
decided_of fresh op from (message.Request call request) is = tt
decided_of fresh op from (message.Learn group view) is = tt
decided_of fresh op from (message.Synced group view) is = tt
decided_of fresh op from (message.Client ask) is = tt
decided_of fresh op from (message.ClientReply id answer) is = tt

-- the coordinator that is left is in such a phase too
left_of : (c : Coordinator) (next : Next) (d : Coordinator) → is_of_recovery c.phase ≡ true → OfRecovery c next → left_by (or_waits c next) ≡ Some d
    → is_of_recovery d.phase ≡ true
left_of c machine.Ignores d is goes left = let same : c ≡ d = cc in subst (λ (x : Coordinator). is_of_recovery x.phase ≡ true) same is
left_of c (machine.Waits e) d is goes left = let same : e ≡ d = cc in subst (λ (x : Coordinator). is_of_recovery x.phase ≡ true) same goes
left_of c (machine.Sends e) d is goes left = let same : e ≡ d = cc in subst (λ (x : Coordinator). is_of_recovery x.phase ≡ true) same goes
left_of c (machine.Makes e) d is goes left = let same : e ≡ d = cc in subst (λ (x : Coordinator). is_of_recovery x.phase ≡ true) same goes
left_of c (machine.Ends answer seen stored) d is goes left = absurd cc

-- what a step with these answers, and one of them, ended with
ended_with : (c : Coordinator) (next : Next) (seq : ℕ) (x : Answered) → answers_in seq (or_waits c next) ≡ x ∷ []
    → (seen : Option Stamp) × (stored : Option Stamp) × (next ≡ machine.Ends x.answer seen stored)
ended_with c machine.Ignores seq x is = absurd cc
ended_with c (machine.Waits d) seq x is = absurd cc
ended_with c (machine.Sends d) seq x is = absurd cc
ended_with c (machine.Makes d) seq x is = absurd cc
ended_with c (machine.Ends answer seen stored) seq x is =
    let same : record { seq = seq; answer = answer } ≡ x = cc in
    (seen, stored, ap (λ (a : Answered). machine.Ends a.answer seen stored) same)

module _ (layout : Layout) (scrub : looks.Scrubbing) (op after : Operation) (from : BrickId) (told : Message) (fresh : Option Stamp) (known later : ℕ)
    (of : IsScrubOf layout (record { scrub = scrub; recovery = Some op })) (outs : Outcome)
    (carries : CarriesOut layout op after known later (or_waits (coordinator_of op) (decided_on fresh (shown_of op) from told)) outs) where
  abbrev r : Coordinator
  r = coordinator_of op

  abbrev held : OpenScrub
  held = record { scrub = scrub; recovery = Some op }

  abbrev left : OpenScrub
  left = record { scrub = scrub; recovery = Some after }

  block_is : (shown_of op).block ≡ layout.block
  block_is = of.goes_on.0 ∙ of.block

  goes : OfRecovery r (decided_on fresh (shown_of op) from told)
  goes = decided_of fresh (shown_of op) from told of.goes_on.3

  module _ (none : outs.answers ≡ []) where
    left_is : left_by (or_waits r (decided_on fresh (shown_of op) from told)) ≡ Some (coordinator_of after)
    left_is = carries.left ∙ ap (λ (answers : List Answered). option_map coordinator_of (left_open answers after)) none

    seq_is : (coordinator_of after).call.seq ≡ r.call.seq
    seq_is = subst (λ (answers : List Answered). KeepsCall answers op after) none carries.keeps

    -- it goes on
    pub recovery_goes : (coordinator_of after).only ≡ r.only
        → StepsScrub layout held from told fresh known (record { messages = outs.messages; told = outs.told; answers = []; reports = [] }) left later
    recovery_goes only =
        record {
          step = λ me node call reply is free.
              let h = hearing r from reply (counts_at layout.block r from.0 call reply) in
              let heard_so = hearing_is layout (shown_of op) from call reply block_is in
              let phase : is_look h.phase ≡ false =
              ap (λ (c : Coordinator). is_look c.phase) heard_so
              ∙ ap is_look (phase_at (shown_of op) from (message.Reply call reply) _)
              ∙ looks_never r.phase of.goes_on.3 in
              ap (carried (coding layout) me node known scrub.lagging r h)
              (decided_is layout (shown_of op) from call reply fresh block_is ∙ ap (decided_on fresh (shown_of op) from) (sym is))
              ∙ by me node h phase (decided_on fresh (shown_of op) from told) goes (carries.packets me) carries.told carries.knows left_is;
          goes_on = (
            seq_is,
            λ held_of. record {
              block = of.block;
              goes_on = (
                carries.block ∙ of.goes_on.0,
                seq_is ∙ of.goes_on.1,
                only ∙ of.goes_on.2,
                left_of r (decided_on fresh (shown_of op) from told) (coordinator_of after) of.goes_on.3 goes left_is,
              );
            },
          );
        }
      where
        by : (me : BrickId) (node : Node) (h : Coordinator) → is_look h.phase ≡ false → (next : Next) → OfRecovery r next
            → packets_from me outs.messages ≡ packets_in layout me r (or_waits r next) → outs.told ≡ told_in r.call.seq (or_waits r next)
            → later ≡ known_by known (or_waits r next) → left_by (or_waits r next) ≡ Some (coordinator_of after)
            → carried (coding layout) me node known scrub.lagging r h next
            ≡ record {
              node = with_scrubbing (Some (scrubbed scrub.lagging (coordinator_of after))) (with_known node later);
              packets = packets_from me outs.messages;
              told = outs.told;
              answers = [];
              reports = [];
            }
        by me node h ahead machine.Ignores of packets told knows stays =
            let same : r ≡ coordinator_of after = cc in
            (λ i. record {
              node = with_scrubbing (Some (scrubbed scrub.lagging (same i))) (with_known node (sym knows i));
              packets = sym packets i;
              told = sym told i;
              answers = [];
              reports = [];
            })
        by me node h ahead (machine.Waits d) of packets told knows stays =
            let same : d ≡ coordinator_of after = cc in
            scrub_waits (coding layout) me node known scrub.lagging r h d (ap (λ (x : Coordinator). x.call.seq) same ∙ seq_is)
            ∙ (λ i. record {
              node = with_scrubbing (Some (scrubbed scrub.lagging (same i))) (with_known node (sym knows i));
              packets = sym packets i;
              told = sym told i;
              answers = [];
              reports = [];
            })
        by me node h ahead (machine.Sends d) of packets told knows stays =
            let same : d ≡ coordinator_of after = cc in
            let who : lagging_after (scrubbed scrub.lagging r).scrub h ≡ scrub.lagging =
            ap (λ (b : Bool). if b then lagging_of h.group.members h.counted else scrub.lagging) ahead in
            scrub_sends (coding layout) me node known scrub.lagging r h d (ap (λ (x : Coordinator). x.call.seq) same ∙ seq_is)
            ∙ (λ i. record {
              node = with_scrubbing (Some (scrubbed (who i) (same i))) (with_known node (sym knows i));
              packets = sym packets i;
              told = sym told i;
              answers = [];
              reports = [];
            })
        by me node h ahead (machine.Makes d) of packets told knows stays =
            let same : d ≡ coordinator_of after = cc in
            scrub_makes (coding layout) me node known scrub.lagging r h d (ap (λ (x : Coordinator). x.call.seq) same ∙ seq_is)
            ∙ (λ i. record {
              node = with_scrubbing (Some (scrubbed scrub.lagging (same i))) (with_known node (sym knows i));
              packets = sym packets i;
              told = sym told i;
              answers = [];
              reports = [];
            })
        by me node h ahead (machine.Ends answer seen stored) of packets told knows stays = absurd cc

  -- it ends
  pub recovery_ends : (x : Answered) → outs.answers ≡ x ∷ []
      → StepsScrub layout held from told fresh known
      (end_outs left r.call outs.messages None (scrub_answer scrub.lagging (abort_cause x.answer) (Some r.stamp))) left later
  recovery_ends x one =
      record {
        step = λ me node call reply is free.
            let h = hearing r from reply (counts_at layout.block r from.0 call reply) in
            let ended = ended_with r (decided_on fresh (shown_of op) from told) r.call.seq x (sym carries.answers ∙ one) in
            ap (carried (coding layout) me node known scrub.lagging r h)
            (decided_is layout (shown_of op) from call reply fresh block_is ∙ ap (decided_on fresh (shown_of op) from) (sym is))
            ∙ by me node h free (decided_on fresh (shown_of op) from told) ended.0 ended.1 ended.2 goes (carries.packets me) carries.knows;
        goes_on = tt;
      }
    where
      answer : ScrubAnswer
      answer = scrub_answer scrub.lagging (abort_cause x.answer) (Some r.stamp)

      ends : (me : BrickId) (node : Node) (h : Coordinator) (seen stored : Option Stamp) → node.calls r.call.seq ≡ None
          → OfRecovery r (machine.Ends x.answer seen stored) → packets_from me outs.messages ≡ collect_packets me r stored → later ≡ known
          → carried (coding layout) me node known scrub.lagging r h (machine.Ends x.answer seen stored)
          ≡ record {
            node = with_scrubbing None (with_known node later);
            packets = packets_from me outs.messages;
            told = Closed r.call.seq (cause_in answer) ∷ [];
            answers = [];
            reports = Report.Scrub r.call (members_alone scrub.look.state.only) answer ∷ [];
          }
      ends me node h seen stored free goes_so packets knows =
          scrub_ends (coding layout) me node known scrub.lagging r h x.answer seen stored free
          ∙ (λ i. record {
            node = with_scrubbing None (with_known node (sym knows i));
            packets = sym packets i;
            told = seen_told r.call.seq (goes_so.0 i) ++ (Closed r.call.seq (sym (cause_of scrub.lagging (abort_cause x.answer) (Some r.stamp)) i) ∷ []);
            answers = [];
            reports = Report.Scrub r.call (members_alone (of.goes_on.2 i)) (goes_so.1 scrub.lagging i) ∷ [];
          })

      by : (me : BrickId) (node : Node) (h : Coordinator) → node.calls r.call.seq ≡ None → (next : Next) (seen stored : Option Stamp)
          → next ≡ machine.Ends x.answer seen stored → OfRecovery r next → packets_from me outs.messages ≡ packets_in layout me r (or_waits r next)
          → later ≡ known_by known (or_waits r next)
          → carried (coding layout) me node known scrub.lagging r h next
          ≡ record {
            node = with_scrubbing None (with_known node later);
            packets = packets_from me outs.messages;
            told = Closed r.call.seq (cause_in answer) ∷ [];
            answers = [];
            reports = Report.Scrub r.call (members_alone scrub.look.state.only) answer ∷ [];
          }
      by me node h free next seen stored ended goes_so packets knows =
          ap (carried (coding layout) me node known scrub.lagging r h) ended
          ∙ ends me node h seen stored free (subst (OfRecovery r) ended goes_so)
          (packets ∙ ap (λ (n : Next). packets_in layout me r (or_waits r n)) ended) (knows ∙ ap (λ (n : Next). known_by known (or_waits r n)) ended)
