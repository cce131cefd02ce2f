-- A brick hears a reply: the world that its step leaves is as if it had first kept the view that the reply teaches it.
use Rattle.std.proofs.Common.{◌≡◌, ℕ, Bool, true, false, List, [], ◌∷◌, ◌++◌, Option, Some, None, refl, sym, ap, ◌∙◌, subst, append_assoc}
use Rattle.std.specs.Prelude.{nat_eq, if◌then◌else◌, ◌||◌, length}
use Rattle.reg_model.specs.declared.marks.Mark.TheVariants.{End}
use Rattle.std.proofs.lemmas.List.{append-nil}
use Rattle.std.proofs.Math.Path.{fun_ext}
use Rattle.fab_base.specs.declared.identities.BrickId.{BrickId}
use Rattle.fab_base.specs.declared.stamps.Ballot.{Ballot}
use Rattle.fab_base.specs.declared.stamps.Stamp.{Stamp}
use Rattle.messages.specs.declared.calls.Call.{Call}
use Rattle.messages.specs.declared.packets.Packet.{Packet}
use Rattle.messages.specs.declared.replies.Reply.{Reply}
use Rattle.synod_laws.specs.Synods.{Kept, last_of, ballot_same}
use Rattle.protocol.specs.Settings.{Setting}
use Rattle.protocol.specs.declared.tellings.Told.{Told}
use Rattle.protocol.specs.declared.tellings.Told.TheVariants.{Made, Seen, Began, Closed}
use Rattle.protocol.specs.declared.tellings.Answered.{Answered}
use Rattle.protocol.specs.declared.tellings.Report.{Report}
use Rattle.protocol.specs.Views.{Learnt, view_of}
use Rattle.protocol.specs.Replicas.{Replica, is_held}
use Rattle.protocol.specs.Coordinators.{Coordinator}
use Rattle.protocol.specs.Nodes.{Node, NodeStep, put, no_step, with_known, with_round, known_after, node_taught_by, view_counted, replied_at, replied, lists_fit, heard, then_does}
use Rattle.protocol.specs.Worlds.{World, Choices, with_made, with_seen, with_content, with_answer, with_closed, mark_of, with_held, vote_with, accepted_in, with_votes, reports_of, choices_after, world_told, world_tells, world_answered, world_answers, world_stepped}
use Rattle.protocol.proofs.Tables.{put_same, put_twice}
use Rattle.protocol_laws.proofs.Left.{told_same}
use Rattle.protocol_laws.proofs.Tops.{KeepsPlaces}
use Rattle.protocol_laws.proofs.Teaching.{told_each, taught_first, replied_rests}
use Rattle.std.proofs.lemmas.Bool.{cond_both}

-- the world in which a brick keeps what it is now
abbrev pub kept_world : World → BrickId → Node → World
kept_world w me node =
    record w { nodes = put w.nodes me.0 node; held = with_held w.held me.0 node; choices = choices_after w.choices me node [] }

-- what is noted twice is noted once
held_twice : (held : ℕ → ℕ → ℕ → Stamp → Bool) (i : ℕ) (node next : Node) → next.replicas ≡ node.replicas
    → with_held (with_held held i node) i next ≡ with_held held i next
held_twice held i node next same =
    put_twice held i (λ g s t. held i g s t || is_held t (node.replicas g (view_of t) s).log)
    (λ g s t. with_held held i node i g s t || is_held t (next.replicas g (view_of t) s).log)
    ∙ ap (λ (f : ℕ → ℕ → Stamp → Bool). put held i f) (fun_ext (λ g. fun_ext (λ s. fun_ext (λ t. at g s t))))
  where
    or_twice : (a b : Bool) → ((a || b) || b) ≡ (a || b)
    or_twice true b = refl
    or_twice false true = refl
    or_twice false false = refl

    at : (g s : ℕ) (t : Stamp) → (with_held held i node i g s t || is_held t (next.replicas g (view_of t) s).log)
        ≡ (held i g s t || is_held t (next.replicas g (view_of t) s).log)
    at g s t =
        ap (λ (f : ℕ → ℕ → Stamp → Bool). f g s t || is_held t (next.replicas g (view_of t) s).log)
        (put_same held i (λ h r u. held i h r u || is_held u (node.replicas h (view_of u) r).log))
        ∙ ap (λ (r : ℕ → ℕ → ℕ → Replica). (held i g s t || is_held t (r g (view_of t) s).log) || is_held t (next.replicas g (view_of t) s).log) (sym same)
        ∙ or_twice (held i g s t) (is_held t (next.replicas g (view_of t) s).log)

votes_twice : (votes : ℕ → ℕ → ℕ → Ballot → Option (List BrickId)) (i : ℕ) (node next : Node) → next.learnt ≡ node.learnt → next.ballots ≡ node.ballots
    → with_votes (with_votes votes i node) i next ≡ with_votes votes i next
votes_twice votes i node next learnt ballots =
    put_twice votes i (λ g e b. vote_with (votes i g e b) (accepted_in node g e) b)
    (λ g e b. vote_with (with_votes votes i node i g e b) (accepted_in next g e) b)
    ∙ ap (λ (f : ℕ → ℕ → Ballot → Option (List BrickId)). put votes i f) (fun_ext (λ g. fun_ext (λ e. fun_ext (λ b. at g e b))))
  where
    same : (g e : ℕ) → accepted_in next g e ≡ accepted_in node g e
    same g e =
        ap (λ (l : ℕ → Learnt). if nat_eq e (l g).view.number.0 then last_of (next.ballots g) else None) learnt
        ∙ ap (λ (b : ℕ → Kept (List BrickId)). if nat_eq e (node.learnt g).view.number.0 then last_of (b g) else None) ballots

    choose_twice : (b : Bool) (x y : Option (List BrickId)) → (if b then x else (if b then x else y)) ≡ (if b then x else y)
    choose_twice true x y = refl
    choose_twice false x y = refl

    twice : (earlier : Option (List BrickId)) (z : Option (Ballot × List BrickId)) (b : Ballot) → vote_with (vote_with earlier z b) z b ≡ vote_with earlier z b
    twice earlier None b = refl
    twice earlier (Some (accepted, members)) b = choose_twice (ballot_same b accepted) (Some members) earlier

    at : (g e : ℕ) (b : Ballot) → vote_with (with_votes votes i node i g e b) (accepted_in next g e) b ≡ vote_with (votes i g e b) (accepted_in next g e) b
    at g e b =
        ap (λ (f : ℕ → ℕ → Ballot → Option (List BrickId)). vote_with (f g e b) (accepted_in next g e) b)
        (put_same votes i (λ h r u. vote_with (votes i h r u) (accepted_in node h r) u))
        ∙ ap (λ (z : Option (Ballot × List BrickId)). vote_with (vote_with (votes i g e b) z b) (accepted_in next g e) b) (sym (same g e))
        ∙ twice (votes i g e b) (accepted_in next g e) b

-- a world whose bricks, whose record of what was held, whose packets and whose choices are these
abbrev pub beside : World → (ℕ → Node) → (ℕ → ℕ → ℕ → Stamp → Bool) → List Packet → Choices → World
beside w nodes held packets choices = record w { nodes = nodes; held = held; packets = packets; choices = choices }

-- what a step tells leaves the bricks as they are
told_nodes : (setting : Setting) (me : BrickId) (after : ℕ → Node) (w : World) (told : Told) → (world_told setting after w me told).nodes ≡ w.nodes
told_nodes setting me after w (Made seq t base) = refl
told_nodes setting me after w (Seen seq v) = refl
told_nodes setting me after w (Began call) = refl
told_nodes setting me after w (Closed seq cause) = refl

pub tells_nodes : (setting : Setting) (me : BrickId) (after : ℕ → Node) (told : List Told) (w : World) → (world_tells setting after w me told).nodes ≡ w.nodes
tells_nodes setting me after told w = told_same setting after (λ x. x.nodes) me (told_nodes setting me after) told w

-- what a step tells and answers leaves these aside, where the brick has the boot that it had
module _ (setting : Setting) (me : BrickId) (nodes : ℕ → Node) (held : ℕ → ℕ → ℕ → Stamp → Bool) (packets : List Packet) (choices : Choices) where
  told_beside : (after : ℕ → Node) (w : World) (told : Told) → (nodes me.0).boot ≡ (w.nodes me.0).boot
      → world_told setting after (beside w nodes held packets choices) me told ≡ beside (world_told setting after w me told) nodes held packets choices
  told_beside after w (Made seq t base) same =
      ap (λ (b : ℕ). record w {
        nodes = nodes;
        held = held;
        packets = packets;
        choices = choices;
        operations = put w.operations (w.numbers me.0 b seq) (with_made t base (w.operations (w.numbers me.0 b seq)));
        contents = with_content setting.layout.block w.contents t base (w.operations (w.numbers me.0 b seq));
      }) same
  told_beside after w (Seen seq v) same =
      ap (λ (b : ℕ). record w {
        nodes = nodes;
        held = held;
        packets = packets;
        choices = choices;
        operations = put w.operations (w.numbers me.0 b seq) (with_seen v (w.operations (w.numbers me.0 b seq)));
      }) same
  told_beside after w (Began call) same = refl
  told_beside after w (Closed seq cause) same =
      ap (λ (b : ℕ). record w {
        nodes = nodes;
        held = held;
        packets = packets;
        choices = choices;
        operations = put w.operations (w.numbers me.0 b seq) (with_closed cause (w.operations (w.numbers me.0 b seq)));
      }) same

  tells_beside : (after : ℕ → Node) (told : List Told) (w : World) → (nodes me.0).boot ≡ (w.nodes me.0).boot
      → world_tells setting after (beside w nodes held packets choices) me told ≡ beside (world_tells setting after w me told) nodes held packets choices
  tells_beside after [] w same = refl
  tells_beside after (one ∷ more) w same =
      ap (λ (x : World). world_tells setting after x me more) (told_beside after w one same)
      ∙ tells_beside after more (world_told setting after w me one) (same ∙ ap (λ (f : ℕ → Node). (f me.0).boot) (sym (told_nodes setting me after w one)))

  answered_beside : (w : World) (answered : Answered) → (nodes me.0).boot ≡ (w.nodes me.0).boot
      → world_answered (beside w nodes held packets choices) me answered ≡ beside (world_answered w me answered) nodes held packets choices
  answered_beside w answered same =
      ap (λ (b : ℕ). record w {
        nodes = nodes;
        held = held;
        packets = packets;
        choices = choices;
        marks = w.marks ++ (End (length w.marks) (mark_of w (w.numbers me.0 b answered.seq)) answered.answer ∷ []);
        operations = put w.operations (w.numbers me.0 b answered.seq) (with_answer answered.answer (w.operations (w.numbers me.0 b answered.seq)));
      }) same

  answers_beside : (answers : List Answered) (w : World) → (nodes me.0).boot ≡ (w.nodes me.0).boot
      → world_answers (beside w nodes held packets choices) me answers ≡ beside (world_answers w me answers) nodes held packets choices
  answers_beside [] w same = refl
  answers_beside (one ∷ more) w same =
      ap (λ (x : World). world_answers x me more) (answered_beside w one same)
      ∙ answers_beside more (world_answered w me one) same

  spoken_beside : (after : ℕ → Node) (told : List Told) (answers : List Answered) (w : World) → (nodes me.0).boot ≡ (w.nodes me.0).boot
      → world_answers (world_tells setting after (beside w nodes held packets choices) me told) me answers
      ≡ beside (world_answers (world_tells setting after w me told) me answers) nodes held packets choices
  spoken_beside after told answers w same =
      ap (λ (x : World). world_answers x me answers) (tells_beside after told w same)
      ∙ answers_beside answers (world_tells setting after w me told) (same ∙ ap (λ (f : ℕ → Node). (f me.0).boot) (sym (tells_nodes setting me after told w)))

-- A step that leaves the places of a brick as they are, from a world in which the brick kept them before, and told of operations what this other world has. What it
-- begins has the floors that the step leaves, so it begins alike.
module _ (setting : Setting) (w told : World) (me : BrickId) (node : Node) (more : List Packet) (step : NodeStep) where
  abbrev after : ℕ → Node
  after = put w.nodes me.0 step.node

  abbrev said : World
  said = world_answers (world_tells setting after told me step.told) me step.answers

  -- the world in which the brick is this, and has sent this
  abbrev before : World
  before = beside told (put w.nodes me.0 node) (with_held w.held me.0 node) (w.packets ++ more) (choices_after w.choices me node [])

  pub stepped_beside : node.boot ≡ (told.nodes me.0).boot → KeepsPlaces node step.node
      → world_stepped setting before me step
      ≡ beside said after (with_held w.held me.0 step.node) ((w.packets ++ more) ++ step.packets) (choices_after w.choices me step.node step.reports)
  stepped_beside boot same =
      ap (λ (f : ℕ → Node). record (world_answers (world_tells setting f before me step.told) me step.answers) {
        nodes = f;
        held = with_held before.held me.0 step.node;
        packets = before.packets ++ step.packets;
        choices = choices_after before.choices me step.node step.reports;
      }) (put_twice w.nodes me.0 node step.node)
      ∙ ap (λ (x : World). record x {
        nodes = after;
        held = with_held before.held me.0 step.node;
        packets = before.packets ++ step.packets;
        choices = choices_after before.choices me step.node step.reports;
      }) (spoken_beside setting me before.nodes before.held before.packets before.choices after step.told step.answers told
      (ap (λ (n : Node). n.boot) (put_same w.nodes me.0 node) ∙ boot))
      ∙ ap (λ (f : ℕ → ℕ → ℕ → Stamp → Bool). record said {
        nodes = after;
        held = f;
        packets = before.packets ++ step.packets;
        choices = choices_after before.choices me step.node step.reports;
      }) (held_twice w.held me.0 node step.node same.2)
      ∙ ap (λ (f : ℕ → ℕ → ℕ → Ballot → Option (List BrickId)). record said {
        nodes = after;
        held = with_held w.held me.0 step.node;
        packets = before.packets ++ step.packets;
        choices = record w.choices { reports = (w.choices.reports ++ []) ++ reports_of me step.reports; votes = f };
      }) (votes_twice w.choices.votes me.0 node step.node same.0 same.1)
      ∙ ap (λ (l : List (BrickId × Report)). record said {
        nodes = after;
        held = with_held w.held me.0 step.node;
        packets = before.packets ++ step.packets;
        choices = record w.choices { reports = l ++ reports_of me step.reports; votes = with_votes w.choices.votes me.0 step.node };
      }) (append-nil w.choices.reports)

-- so a step from a world in which the brick first kept its places
pub stepped_after : (setting : Setting) (w : World) (me : BrickId) (node : Node) (step : NodeStep) → node.boot ≡ (w.nodes me.0).boot
    → KeepsPlaces node step.node → world_stepped setting (kept_world w me node) me step ≡ world_stepped setting w me step
stepped_after setting w me node step boot same =
    ap (λ (l : List Packet). world_stepped setting (record (kept_world w me node) { packets = l }) me step) (sym (append-nil w.packets))
    ∙ stepped_beside setting w w me node [] step boot same
    ∙ ap (λ (l : List Packet). record (world_stepped setting w me step) { packets = l ++ step.packets }) (append-nil w.packets)

-- what is told first, and then more, is told
tells_both : (setting : Setting) (me : BrickId) (nodes : ℕ → Node) (told more : List Told) (x : World)
    → world_tells setting nodes (world_tells setting nodes x me told) me more ≡ world_tells setting nodes x me (told ++ more)
tells_both setting me nodes [] more x = refl
tells_both setting me nodes (one ∷ told) more x = tells_both setting me nodes told more (world_told setting nodes x me one)

-- Two steps, one after the other, of which the first leaves this brick, sends this, and tells this, of which nothing begins.
pub stepped_then : (setting : Setting) (w : World) (me : BrickId) (node : Node) (more : List Packet) (told : List Told) (second : NodeStep)
    → ((one other : ℕ → Node) → world_tells setting one w me told ≡ world_tells setting other w me told) → node.boot ≡ (w.nodes me.0).boot
    → KeepsPlaces node second.node
    → (let first : NodeStep = record { node = node; packets = more; told = told; answers = []; reports = [] } in
    world_stepped setting (world_stepped setting w me first) me second ≡ world_stepped setting w me (then_does first second))
stepped_then setting w me node more told second begins_none boot same =
    let after : ℕ → Node = put w.nodes me.0 second.node in
    let x : World = world_tells setting (put w.nodes me.0 node) w me told in
    let held = with_held w.held me.0 second.node in
    let chosen : Choices = choices_after w.choices me second.node second.reports in
    stepped_beside setting w x me node more second (boot ∙ ap (λ (f : ℕ → Node). (f me.0).boot) (sym (tells_nodes setting me (put w.nodes me.0 node) told w))) same
    ∙ ap (λ (y : World). beside (world_answers (world_tells setting after y me second.told) me second.answers) after held ((w.packets ++ more) ++ second.packets) chosen)
    (begins_none (put w.nodes me.0 node) after)
    ∙ ap (λ (y : World). beside (world_answers y me second.answers) after held ((w.packets ++ more) ++ second.packets) chosen)
    (tells_both setting me after told second.told w)
    ∙ ap (λ (l : List Packet). beside (world_answers (world_tells setting after w me (told ++ second.told)) me second.answers) after held l chosen)
    (append_assoc w.packets more second.packets)

-- the brick once it was taught the view that a reply teaches it
abbrev pub taught_by : Setting → World → BrickId → BrickId → Call → Reply → Node
taught_by setting w me from call reply =
    node_taught_by setting.layout.block call.group.0 (with_round (w.nodes me.0) reply) (view_counted setting.layout from (w.nodes me.0) call reply)

-- A brick handles a reply: it does so in the world in which it was taught the view.
pub replying_each : (P : World → Type 0) (setting : Setting) (w : World) (me : BrickId) (now : ℕ) (from : BrickId) (call : Call) (reply : Reply)
    → (let x : World = kept_world w me (taught_by setting w me from call reply) in
    P (world_stepped setting x me (replied_at setting me now from (x.nodes me.0) call reply ((w.nodes me.0).calls call.seq))))
    → P (world_stepped setting w me (replied setting me now from (w.nodes me.0) call reply))
unfolding replied
replying_each P setting w me now from call reply handles =
    let node : Node = taught_by setting w me from call reply in
    let found : Option Coordinator = (w.nodes me.0).calls call.seq in
    let rests = replied_rests setting me from now call.group.0 call reply node found in
    subst (λ (step : NodeStep). P (world_stepped setting w me step))
    (sym (taught_first setting me from now call.group.0 call reply (with_round (w.nodes me.0) reply) found
    (view_counted setting.layout from (w.nodes me.0) call reply)))
    (subst P (stepped_after setting w me node (replied_at setting me now from node call reply found)
    (told_each (λ (n : Node). n.boot ≡ (w.nodes me.0).boot) setting.layout.block call.group.0 (with_round (w.nodes me.0) reply)
    (view_counted setting.layout from (w.nodes me.0) call reply) refl (λ v later. refl))
    (rests.learnt, rests.ballots, rests.replicas))
    (subst (λ (n : Node). P (world_stepped setting (kept_world w me node) me (replied_at setting me now from n call reply found)))
    (put_same w.nodes me.0 node) handles))

-- It hears a reply: it learns of a time and a round, or it handles it.
pub hearing_each : (P : World → Type 0) (setting : Setting) (w : World) (me : BrickId) (now : ℕ) (from : BrickId) (call : Call) (reply : Reply)
    → P (world_stepped setting w me (no_step (with_known (with_round (w.nodes me.0) reply) (known_after (w.nodes me.0).known reply))))
    → (lists_fit setting.layout call reply ≡ true → (let x : World = kept_world w me (taught_by setting w me from call reply) in
    P (world_stepped setting x me (replied_at setting me now from (x.nodes me.0) call reply ((w.nodes me.0).calls call.seq)))))
    → P (world_stepped setting w me (heard setting me now from (w.nodes me.0) call reply))
hearing_each P setting w me now from call reply left handles =
    cond_both (lists_fit setting.layout call reply) (replied setting me now from (w.nodes me.0) call reply)
    (no_step (with_known (with_round (w.nodes me.0) reply) (known_after (w.nodes me.0).known reply)))
    (λ (step : NodeStep). P (world_stepped setting w me step)) (λ fit. replying_each P setting w me now from call reply (handles fit)) (λ isnt. left)
