-- What an event owes to the invariant: only what is new.
use Rattle.std.proofs.lemmas.Bool.{or_left, or_cases, or_right, false≢true}
use Rattle.std.proofs.Common.{◌≡◌, ◌≢◌, ℕ, ◌+◌, ◌≤◌, ◌⊎◌, inl, inr, true, false, List, ◌++◌, length, zero, suc, Bool, Some, None, [], ◌∷◌, refl, sym, ap, ◌∙◌, subst, ⊎_elim, arith, ◌<◌}
use Rattle.std.specs.Prelude.{slice_get, ◌||◌}
use Rattle.fab_base.specs.declared.identities.BrickId.{BrickId}
use Rattle.fab_base.specs.declared.stamps.Stamp.{Stamp}
use Rattle.fab_base.specs.declared.answers.Answer.{Answer}
use Rattle.fab_base.specs.Stamps.{stamp_below, first_stamp}
use Rattle.messages.specs.declared.calls.Call.{Call}
use Rattle.messages.specs.declared.packets.Message.TheVariants as Message
use Rattle.messages.specs.declared.packets.Packet.{Packet}
use Rattle.messages.specs.declared.requests.Request.{Request}
use Rattle.messages.specs.declared.requests.Version.{Version}
use Rattle.reg_model.specs.declared.marks.Mark.{Mark}
use Rattle.reg_model.specs.declared.marks.Mark.TheVariants.{End}
use Rattle.reg_model.specs.Marks.{life_of}
use Rattle.reg_model.specs.Walk.{last_of}
use Rattle.fab_base.proofs.StampOrder.{stamp_below_irrefl}
use Rattle.protocol.specs.Settings.{Setting}
use Rattle.protocol.specs.Views.{Views, view_of, Learnt, first_kept}
use Rattle.protocol.specs.Replicas.{Replica, top_of, is_held}
use Rattle.protocol.specs.declared.phases.Counted.{Counted}
use Rattle.protocol.specs.Coordinators.{Coordinator, request_of, asked_group}
use Rattle.protocol.specs.Jobs.{Job}
use Rattle.protocol.specs.Nodes.{Node, put, to_members, phase_packets, top_at, view_at}
use Rattle.protocol.specs.Worlds.{World, Operation, with_held, choices_after, Choices}
use Rattle.protocol_laws.specs.Laws.{WasSent, part_in, top_in, first_kept_in}
use Rattle.protocol_laws.proofs.Books.{Books, IsOperation, IsCall}
use Rattle.protocol_laws.proofs.Logs.{LogAscends, IsKept, held_stands, under_held, nothing_kept}
use Rattle.protocol_laws.proofs.Blocking.{PartsStay, LogsFit, LogsStay, NewIsLogged, parts_from, was_kept}
use Rattle.protocol_laws.proofs.Said.{Stamping, Said, StampsSay, IsKnown, VersionSays, PacketSays, OperationSays, CallSays, EndShows, IsInOrder, WasCollected, IsMadeOrFirst, IsBottom, FloorsAbove, JobSays}
use Rattle.protocol.proofs.Tables.{put_each, get_kept, get_grown, get_added, put_same}
use Rattle.protocol_laws.proofs.Stampings.{StampsGrow, Ages, ages_within, stamps_same, stays_known, stamps_stay}
use Rattle.protocol_laws.proofs.Growth.{Grows, continues_same, stays_version, stays_packet, stays_operation, stays_call, stays_end, stays_job, stays_collected, stays_made}
use Rattle.protocol.proofs.Puts.{put_other}
use Rattle.protocol_laws.proofs.Tops.{KeepsPlaces, top_same}

-- call k of brick i's boot b has the stamps that it had
abbrev pub KeepsStamps : Stamping → Stamping → ℕ → ℕ → ℕ → Type 0
KeepsStamps stamps later i b k = (p : ℕ) → later i b k p ≡ stamps i b k p

-- call k of brick i was open, in the boot that the brick has now, and has the stamps that it had
abbrev pub StaysOpen : World → Stamping → Stamping → ℕ → ℕ → Coordinator → ℕ → Type 0
StaysOpen w stamps later i k c boot = IsCall w i k c × (boot ≡ (w.nodes i).boot) × KeepsStamps stamps later i (w.nodes i).boot k

-- what is new in the next world says what it should
pub record Owes (setting : Setting) (views : Views) (w next : World) (stamps later : Stamping) : Type 0 where
  pub stamps_say : StampsSay next later
  pub tops : (g e s i : ℕ) → (top_of (part_in next g e s i) ≡ top_of (part_in w g e s i)) ⊎ IsKnown later (top_of (part_in next g e s i))
  pub logs : (g e s i k : ℕ) (version : Version) → slice_get (part_in next g e s i).log k ≡ Some version
      → ((j : ℕ) × (slice_get (part_in w g e s i).log j ≡ Some version)) ⊎ VersionSays setting views next g e s i version
  pub lowest : (g e s i : ℕ) (x : Version) (log : List Version) → first_kept_in next g i ≤ e → (part_in next g e s i).log ≡ x ∷ log
      → ((more : List Version) × ((part_in w g e s i).log ≡ x ∷ more)) ⊎ (((part_in w g e s i).log ≡ []) ⊎ WasCollected next g s x.stamp)
  pub packets : (k : ℕ) (packet : Packet) → slice_get next.packets k ≡ Some packet
      → (slice_get w.packets k ≡ Some packet) ⊎ PacketSays setting views next later packet
  pub operations : (n : ℕ) (o : Operation) → IsOperation next n o → IsOperation w n o ⊎ OperationSays setting views next later n o
  pub calls : (i k : ℕ) (c : Coordinator) → IsCall next i k c
      → StaysOpen w stamps later i k c (next.nodes i).boot ⊎ CallSays setting views next later i k c
  pub jobs : (i : ℕ) (job : Job) → (next.nodes i).job ≡ Some job → ((w.nodes i).job ≡ Some job) ⊎ JobSays setting views next i job
  pub ends : (k p n : ℕ) (answer : Answer) → slice_get next.marks k ≡ Some (End p n answer)
      → (slice_get w.marks k ≡ Some (End p n answer)) ⊎ EndShows setting next n answer
  pub order : IsInOrder setting views next

-- the invariant holds after an event that pays what it owes
pub said_after : (setting : Setting) (views : Views) (w next : World) (stamps later : Stamping) → Books setting w → Said setting views w stamps
    → Grows w next stamps later → Owes setting views w next stamps later → Said setting views next later
said_after setting views w next stamps later books said grows owes = record {
  limits = said.limits;
  distinct = said.distinct;
  stamps_say = owes.stamps_say;
  first_held = λ g s i. grows.parts.held g s i first_stamp (said.first_held g s i);
  tops = λ g e s i. ⊎_elim
      (λ (same : top_of (part_in next g e s i) ≡ top_of (part_in w g e s i)).
      subst (λ (t : Stamp). IsKnown later t) (sym same) (stays_known stamps later grows.grow (top_of (part_in w g e s i)) (said.tops g e s i)))
      (λ (new : IsKnown later (top_of (part_in next g e s i))). new)
      (owes.tops g e s i);
  logs = logs;
  lowest = λ g e s i x log within is. let firsts = grows.parts.firsts i g in let before : first_kept_in w g i ≤ e = omega (arith, firsts, within) in ⊎_elim
      (λ (old : (more : List Version) × ((part_in w g e s i).log ≡ x ∷ more)). ⊎_elim
      (λ (bottom : IsBottom w g e s i x.stamp). inl (bottom_stays g e s i x log is bottom))
      (λ (was : WasCollected w g s x.stamp). inr (stays_collected w next grows.sent g s x.stamp was))
      (said.lowest g e s i x old.0 before old.1))
      (⊎_elim
      (λ (none : (part_in w g e s i).log ≡ []).
      inl (bottom_stays g e s i x log is (λ d of less was.
      nothing_kept d (subst (λ (l : List Version). IsKept d l) none (was_kept w said.logged g e s i d before of was)))))
      (λ (new : WasCollected next g s x.stamp). inr new))
      (owes.lowest g e s i x log within is);
  held_made = λ g s i t held. ⊎_elim
      (λ (was : w.held i g s t ≡ true). stays_made setting views w next stamps later books grows g s t (said.held_made g s i t was))
      (λ (new : is_held t (part_in next g (view_of t) s i).log ≡ true).
      let at = held_stands t (part_in next g (view_of t) s i).log new in
      subst (λ (z : Stamp). IsMadeOrFirst next g s z) at.3 (logs g (view_of t) s i at.0 at.1 at.2).made)
      (grows.fresh i g s t held);
  packets = λ k packet is. ⊎_elim
      (λ (old : slice_get w.packets k ≡ Some packet). stays_packet setting views w next stamps later books grows packet (said.packets k packet old))
      (λ (new : PacketSays setting views next later packet). new)
      (owes.packets k packet is);
  operations = λ n o is. ⊎_elim
      (λ (old : IsOperation w n o). stays_operation setting views w next stamps later books grows n o old (said.operations n o old))
      (λ (new : OperationSays setting views next later n o). new)
      (owes.operations n o is);
  calls = λ i k c is. ⊎_elim
      (λ (old : StaysOpen w stamps later i k c (next.nodes i).boot).
      stays_call setting views w next stamps later books grows i k c old.1 old.2 (said.calls i k c old.0))
      (λ (new : CallSays setting views next later i k c). new)
      (owes.calls i k c is);
  jobs = λ i job is. ⊎_elim
      (λ (old : (w.nodes i).job ≡ Some job). stays_job setting views w next stamps later books grows i job (said.jobs i job old))
      (λ (new : JobSays setting views next i job). new)
      (owes.jobs i job is);
  ends = λ k p n answer is. ⊎_elim
      (λ (old : slice_get w.marks k ≡ Some (End p n answer)).
      stays_end setting views w next stamps later books grows said.operations n answer (said.ends k p n answer old))
      (λ (new : EndShows setting next n answer). new)
      (owes.ends k p n answer is);
  order = owes.order;
  first = λ g s. grows.contents g s first_stamp (inl refl) ∙ said.first g s;
  logged = grows.parts.logged;
}
  where
    -- what comes to be held is in a log, and not below the lowest there
    bottom_stays : (g e s i : ℕ) (x : Version) (log : List Version) → (part_in next g e s i).log ≡ x ∷ log → IsBottom w g e s i x.stamp
        → IsBottom next g e s i x.stamp
    bottom_stays g e s i x log is bottom d of less held = ⊎_elim
        (λ (was : w.held i g s d ≡ true). bottom d of less was)
        (λ (new : is_held d (part_in next g (view_of d) s i).log ≡ true).
        let there : is_held d (x ∷ log) ≡ true = ap (λ (l : List Version). is_held d l) (sym is) ∙ ap (λ (v : ℕ). is_held d (part_in next g v s i).log) (sym of) ∙ new in
        let rises : LogAscends (x ∷ log) = subst (λ (l : List Version). LogAscends l) is (grows.parts.logged.ascends g e s i) in
        false≢true (sym (stamp_below_irrefl d) ∙ under_held d d (x ∷ log) rises less there))
        (grows.fresh i g s d held)

    logs : (g e s i k : ℕ) (version : Version) → slice_get (part_in next g e s i).log k ≡ Some version → VersionSays setting views next g e s i version
    logs g e s i k version is = ⊎_elim
        (λ (old : (j : ℕ) × (slice_get (part_in w g e s i).log j ≡ Some version)).
        stays_version setting views w next stamps later books grows g e s i version (said.logs g e s i old.0 version old.1))
        (λ (new : VersionSays setting views next g e s i version). new)
        (owes.logs g e s i k version is)

-- One brick comes no less far than before, and its logs go on ascending. In the views that it keeps it keeps what it kept, and takes nothing new below what
-- it had come to; in others nothing is new but the first version.
pub record KeepsParts (node next : Node) : Type 0 where
  pub views : (g : ℕ) → view_at node g ≤ view_at next g
  pub tops : (g s : ℕ) → stamp_below (top_at next g s) (top_at node g s) ≡ false
  pub firsts : (g : ℕ) → first_kept (node.learnt g) ≤ first_kept (next.learnt g)
  pub orders : (g e s : ℕ) → first_kept (next.learnt g) ≤ e → (node.replicas g e s).order.time ≤ (next.replicas g e s).order.time
  pub kept : (g e s : ℕ) (t : Stamp) → first_kept (next.learnt g) ≤ e → IsKept t (node.replicas g e s).log → IsKept t (next.replicas g e s).log
  pub newer : (g e s : ℕ) (t : Stamp) → first_kept (next.learnt g) ≤ e → is_held t (next.replicas g e s).log ≡ true
      → (is_held t (node.replicas g e s).log ≡ true) ⊎ (stamp_below t (top_at node g s) ≡ false)
  pub again : (g e s : ℕ) (t : Stamp) → e < first_kept (next.learnt g) → is_held t (next.replicas g e s).log ≡ true
      → (is_held t (node.replicas g e s).log ≡ true) ⊎ (t ≡ first_stamp)
  pub ascends : (g e s : ℕ) → LogAscends (node.replicas g e s).log → LogAscends (next.replicas g e s).log

-- a brick that keeps its places as they are
pub keeps_same : (node next : Node) → KeepsPlaces node next → KeepsParts node next
keeps_same node next same = record {
  views = λ g. subst (λ (l : ℕ → Learnt). view_at node g ≤ (l g).view.number.0) (sym same.0) (omega arith);
  tops = λ g s.
      subst (λ (t : Stamp). stamp_below t (top_at node g s) ≡ false) (sym (top_same node next same g s)) (stamp_below_irrefl (top_at node g s));
  firsts = λ g. subst (λ (l : ℕ → Learnt). first_kept (node.learnt g) ≤ first_kept (l g)) (sym same.0) (omega arith);
  orders = λ g e s within. subst (λ (r : ℕ → ℕ → ℕ → Replica). (node.replicas g e s).order.time ≤ (r g e s).order.time) (sym same.2) (omega arith);
  kept = λ g e s t within kept. subst (λ (r : ℕ → ℕ → ℕ → Replica). IsKept t (r g e s).log) (sym same.2) kept;
  newer = λ g e s t within held. inl (subst (λ (r : ℕ → ℕ → ℕ → Replica). is_held t (r g e s).log ≡ true) same.2 held);
  again = λ g e s t before held. inl (subst (λ (r : ℕ → ℕ → ℕ → Replica). is_held t (r g e s).log ≡ true) same.2 held);
  ascends = λ g e s ascends. subst (λ (r : ℕ → ℕ → ℕ → Replica). LogAscends (r g e s).log) (sym same.2) ascends;
}

-- and so on to one that keeps its places as they are then
pub keeps_places : (node next later : Node) → KeepsParts node next → KeepsPlaces next later → KeepsParts node later
keeps_places node next later keeps same = record {
  views = λ g. subst (λ (l : ℕ → Learnt). view_at node g ≤ (l g).view.number.0) (sym same.0) (keeps.views g);
  tops = λ g s. subst (λ (t : Stamp). stamp_below t (top_at node g s) ≡ false) (sym (top_same next later same g s)) (keeps.tops g s);
  firsts = λ g. subst (λ (l : ℕ → Learnt). first_kept (node.learnt g) ≤ first_kept (l g)) (sym same.0) (keeps.firsts g);
  orders = λ g e s.
      moved (λ l r. first_kept (l g) ≤ e → (node.replicas g e s).order.time ≤ (r g e s).order.time) (keeps.orders g e s);
  kept = λ g e s t. moved (λ l r. first_kept (l g) ≤ e → IsKept t (node.replicas g e s).log → IsKept t (r g e s).log) (keeps.kept g e s t);
  newer = λ g e s t. moved (λ l r. first_kept (l g) ≤ e → is_held t (r g e s).log ≡ true
      → (is_held t (node.replicas g e s).log ≡ true) ⊎ (stamp_below t (top_at node g s) ≡ false)) (keeps.newer g e s t);
  again = λ g e s t. moved (λ l r. e < first_kept (l g) → is_held t (r g e s).log ≡ true
      → (is_held t (node.replicas g e s).log ≡ true) ⊎ (t ≡ first_stamp)) (keeps.again g e s t);
  ascends = λ g e s. moved (λ l r. LogAscends (node.replicas g e s).log → LogAscends (r g e s).log) (keeps.ascends g e s);
}
  where
    moved : (P : (ℕ → Learnt) → (ℕ → ℕ → ℕ → Replica) → Type 0) → P next.learnt next.replicas → P later.learnt later.replicas
    moved P is = subst (λ (l : ℕ → Learnt). P l later.replicas) (sym same.0) (subst (λ (r : ℕ → ℕ → ℕ → Replica). P next.learnt r) (sym same.2) is)

-- where one brick changes, and keeps its parts as they are, all parts are as they were
pub part_same : (w next : World) (me : ℕ) (node : Node) → next.nodes ≡ put w.nodes me node → node.replicas ≡ (w.nodes me).replicas → (g e s i : ℕ)
    → part_in next g e s i ≡ part_in w g e s i
part_same w next me node nodes same g e s i =
    ap (λ (f : ℕ → Node). (f i).replicas g e s) nodes
    ∙ put_each (λ j x. x.replicas g e s ≡ (w.nodes j).replicas g e s) w.nodes me node (ap (λ (r : ℕ → ℕ → ℕ → Replica). r g e s) same) (λ j other. refl) i

-- logs stay where one brick keeps its own
logs_by : (w next : World) (me : ℕ) (node : Node) → next.nodes ≡ put w.nodes me node → KeepsParts (w.nodes me) node → LogsStay w next
logs_by w next me node nodes keeps = record {
  views = λ i g.
      subst (λ (f : ℕ → Node). view_at (w.nodes i) g ≤ view_at (f i) g) (sym nodes)
      (put_each (λ j x. view_at (w.nodes j) g ≤ view_at x g) w.nodes me node (keeps.views g) (λ j other. omega arith) i);
  tops = λ g s i.
      subst (λ (f : ℕ → Node). stamp_below (top_at (f i) g s) (top_at (w.nodes i) g s) ≡ false) (sym nodes)
      (put_each (λ j x. stamp_below (top_at x g s) (top_at (w.nodes j) g s) ≡ false) w.nodes me node (keeps.tops g s)
      (λ j other. stamp_below_irrefl (top_at (w.nodes j) g s)) i);
  firsts = λ i g.
      subst (λ (f : ℕ → Node). first_kept ((w.nodes i).learnt g) ≤ first_kept ((f i).learnt g)) (sym nodes)
      (put_each (λ j x. first_kept ((w.nodes j).learnt g) ≤ first_kept (x.learnt g)) w.nodes me node (keeps.firsts g) (λ j other. omega arith) i);
  orders = λ g e s i.
      subst (λ (f : ℕ → Node). first_kept ((f i).learnt g) ≤ e → ((w.nodes i).replicas g e s).order.time ≤ ((f i).replicas g e s).order.time) (sym nodes)
      (put_each (λ j x. first_kept (x.learnt g) ≤ e → ((w.nodes j).replicas g e s).order.time ≤ (x.replicas g e s).order.time) w.nodes me node
      (keeps.orders g e s) (λ j other within. omega arith) i);
  kept = λ g e s i t.
      subst (λ (f : ℕ → Node). first_kept ((f i).learnt g) ≤ e → IsKept t ((w.nodes i).replicas g e s).log → IsKept t ((f i).replicas g e s).log) (sym nodes)
      (put_each (λ j x. first_kept (x.learnt g) ≤ e → IsKept t ((w.nodes j).replicas g e s).log → IsKept t (x.replicas g e s).log) w.nodes me node
      (keeps.kept g e s t) (λ j other within kept. kept) i);
  newer = λ g e s i t.
      subst (λ (f : ℕ → Node). first_kept ((f i).learnt g) ≤ e → is_held t ((f i).replicas g e s).log ≡ true
      → (is_held t ((w.nodes i).replicas g e s).log ≡ true) ⊎ (stamp_below t (top_at (w.nodes i) g s) ≡ false)) (sym nodes)
      (put_each (λ j x. first_kept (x.learnt g) ≤ e → is_held t (x.replicas g e s).log ≡ true
      → (is_held t ((w.nodes j).replicas g e s).log ≡ true) ⊎ (stamp_below t (top_at (w.nodes j) g s) ≡ false)) w.nodes me node
      (keeps.newer g e s t) (λ j other within held. inl held) i);
  again = λ g e s i t.
      subst (λ (f : ℕ → Node). e < first_kept ((f i).learnt g) → is_held t ((f i).replicas g e s).log ≡ true
      → (is_held t ((w.nodes i).replicas g e s).log ≡ true) ⊎ (t ≡ first_stamp)) (sym nodes)
      (put_each (λ j x. e < first_kept (x.learnt g) → is_held t (x.replicas g e s).log ≡ true
      → (is_held t ((w.nodes j).replicas g e s).log ≡ true) ⊎ (t ≡ first_stamp)) w.nodes me node
      (keeps.again g e s t) (λ j other before held. inl held) i);
  ascends = λ g e s i.
      subst (λ (f : ℕ → Node). LogAscends ((w.nodes i).replicas g e s).log → LogAscends ((f i).replicas g e s).log) (sym nodes)
      (put_each (λ j x. LogAscends ((w.nodes j).replicas g e s).log → LogAscends (x.replicas g e s).log) w.nodes me node
      (keeps.ascends g e s) (λ j other ascends. ascends) i);
}

-- what bricks have held, with what one of them keeps now
module _ (w : World) (me : ℕ) (node : Node) where
  -- of that brick, at one stamp
  own_held : (g s : ℕ) (t : Stamp) → with_held w.held me node me g s t ≡ (w.held me g s t || is_held t (node.replicas g (view_of t) s).log)
  own_held g s t =
      ap (λ (f : ℕ → ℕ → Stamp → Bool). f g s t) (put_same w.held me (λ h r u. w.held me h r u || is_held u (node.replicas h (view_of u) r).log))

  -- of another
  other_held : (j : ℕ) → j ≢ me → (g s : ℕ) (t : Stamp) → with_held w.held me node j g s t ≡ w.held j g s t
  other_held j other g s t =
      ap (λ (f : ℕ → ℕ → Stamp → Bool). f g s t)
      (put_other w.held me (λ h r u. w.held me h r u || is_held u (node.replicas h (view_of u) r).log) j other)

  -- what was held stays so
  stays_held : (i g s : ℕ) (t : Stamp) → w.held i g s t ≡ true → with_held w.held me node i g s t ≡ true
  stays_held i g s t =
      put_each (λ j f. w.held j g s t ≡ true → f g s t ≡ true) w.held me (λ h r u. w.held me h r u || is_held u (node.replicas h (view_of u) r).log)
      (λ was. or_left (w.held me g s t) (is_held t (node.replicas g (view_of t) s).log) was) (λ j other was. was) i

  -- what is new is in the log
  new_held : (i g s : ℕ) (t : Stamp) → with_held w.held me node i g s t ≡ true
      → (w.held i g s t ≡ true) ⊎ (is_held t ((put w.nodes me node i).replicas g (view_of t) s).log ≡ true)
  new_held i g s t =
      put_each (λ j x. with_held w.held me node j g s t ≡ true → (w.held j g s t ≡ true) ⊎ (is_held t (x.replicas g (view_of t) s).log ≡ true))
      w.nodes me node
      (λ held. or_cases (w.held me g s t) (is_held t (node.replicas g (view_of t) s).log) (sym (own_held g s t) ∙ held))
      (λ j other held. inl (sym (other_held j other g s t) ∙ held)) i

  -- and what is in a log is noted
  logs_held : LogsFit w → (i g s : ℕ) (t : Stamp) → is_held t ((put w.nodes me node i).replicas g (view_of t) s).log ≡ true
      → with_held w.held me node i g s t ≡ true
  logs_held fit i g s t =
      put_each (λ j x. is_held t (x.replicas g (view_of t) s).log ≡ true → with_held w.held me node j g s t ≡ true) w.nodes me node
      (λ held. own_held g s t ∙ or_right (w.held me g s t) (is_held t (node.replicas g (view_of t) s).log) held)
      (λ j other held. other_held j other g s t ∙ fit.held j g s t held) i

-- what is new where one brick changes is in its log
pub new_by : (w next : World) (me : ℕ) (node : Node) → next.nodes ≡ put w.nodes me node → next.held ≡ with_held w.held me node → NewIsLogged w next
new_by w next me node nodes helds i g s t held =
    subst (λ (f : ℕ → Node). (w.held i g s t ≡ true) ⊎ (is_held t ((f i).replicas g (view_of t) s).log ≡ true)) (sym nodes)
    (new_held w me node i g s t (ap (λ (f : ℕ → ℕ → ℕ → Stamp → Bool). f i g s t) (sym helds) ∙ held))

-- nothing is, where nothing comes to be held
pub new_none : (w next : World) → next.held ≡ w.held → NewIsLogged w next
new_none w next helds i g s t held = inl (ap (λ (f : ℕ → ℕ → ℕ → Stamp → Bool). f i g s t) (sym helds) ∙ held)

-- parts stay where one brick keeps its own, and what it keeps is noted as held
pub parts_by : (w next : World) (me : ℕ) (node : Node) → next.nodes ≡ put w.nodes me node → next.held ≡ with_held w.held me node → LogsFit w
    → KeepsParts (w.nodes me) node → PartsStay w next
parts_by w next me node nodes helds fit keeps =
    parts_from w next (logs_by w next me node nodes keeps) fit
    (λ i g s t was. ap (λ (f : ℕ → ℕ → ℕ → Stamp → Bool). f i g s t) helds ∙ stays_held w me node i g s t was)
    (new_by w next me node nodes helds)
    (λ i g s t held. ap (λ (f : ℕ → ℕ → ℕ → Stamp → Bool). f i g s t) helds
    ∙ logs_held w me node fit i g s t (ap (λ (f : ℕ → Node). is_held t ((f i).replicas g (view_of t) s).log) (sym nodes) ∙ held))

-- and where its places are as they were
pub parts_kept : (w next : World) (me : ℕ) (node : Node) → next.nodes ≡ put w.nodes me node → next.held ≡ w.held → LogsFit w
    → KeepsPlaces (w.nodes me) node → PartsStay w next
parts_kept w next me node nodes helds fit same =
    parts_from w next (logs_by w next me node nodes (keeps_same (w.nodes me) node same)) fit
    (λ i g s t was. ap (λ (f : ℕ → ℕ → ℕ → Stamp → Bool). f i g s t) helds ∙ was) (new_none w next helds)
    (λ i g s t held. ap (λ (f : ℕ → ℕ → ℕ → Stamp → Bool). f i g s t) helds
    ∙ fit.held i g s t (sym (ap (λ (r : Replica). is_held t r.log) (part_same w next me node nodes same.2 g (view_of t) s i)) ∙ held))

-- a world whose bricks are the same
pub parts_same : (w next : World) → next.nodes ≡ w.nodes → next.held ≡ w.held → LogsFit w → PartsStay w next
parts_same w next nodes helds fit =
    parts_from w next
    (subst (λ (f : ℕ → Node). LogsStay w (record next { nodes = f })) (sym nodes) (record {
      views = λ i g. omega arith;
      tops = λ g s i. stamp_below_irrefl (top_in w g s i);
      firsts = λ i g. omega arith;
      orders = λ g e s i within. omega arith;
      kept = λ g e s i t within kept. kept;
      newer = λ g e s i t within held. inl held;
      again = λ g e s i t before held. inl held;
      ascends = λ g e s i ascends. ascends;
    })) fit
    (λ i g s t was. ap (λ (f : ℕ → ℕ → ℕ → Stamp → Bool). f i g s t) helds ∙ was) (new_none w next helds)
    (λ i g s t held. ap (λ (f : ℕ → ℕ → ℕ → Stamp → Bool). f i g s t) helds
    ∙ fit.held i g s t (ap (λ (f : ℕ → Node). is_held t ((f i).replicas g (view_of t) s).log) (sym nodes) ∙ held))

-- what was sent stays sent where packets are added
pub sent_by : (w next : World) (more : List Packet) → next.packets ≡ w.packets ++ more → (packet : Packet) → WasSent w packet → WasSent next packet
sent_by w next more packets packet sent =
    (sent.0, subst (λ (l : List Packet). slice_get l sent.0 ≡ Some packet) (sym packets) (get_kept w.packets more sent.0 packet sent.1))

-- bricks age where the one that changes does
pub ages_by : (w next : World) (me : ℕ) (node : Node) → next.nodes ≡ put w.nodes me node → Ages (w.nodes me) node → (i : ℕ)
    → Ages (w.nodes i) (next.nodes i)
ages_by w next me node nodes ages i =
    subst (λ (f : ℕ → Node). Ages (w.nodes i) (f i)) (sym nodes)
    (put_each (λ j x. Ages (w.nodes j) x) w.nodes me node ages
    (λ j other. ages_within (w.nodes j) (w.nodes j) refl (omega arith) (omega arith)) i)

-- what is owed for call k, where one brick changes within its boot
pub calls_by : (setting : Setting) (views : Views) (w next : World) (stamps later : Stamping) (me : ℕ) (node : Node) → next.nodes ≡ put w.nodes me node
    → node.boot ≡ (w.nodes me).boot → (k : ℕ) (c : Coordinator)
    → (node.calls k ≡ Some c
    → (((w.nodes me).calls k ≡ Some c) × KeepsStamps stamps later me (w.nodes me).boot k) ⊎ CallSays setting views next later me k c)
    → ((j : ℕ) → j ≢ me → KeepsStamps stamps later j (w.nodes j).boot k) → (i : ℕ) → IsCall next i k c
    → StaysOpen w stamps later i k c (next.nodes i).boot ⊎ CallSays setting views next later i k c
calls_by setting views w next stamps later me node nodes boot k c own others i =
    subst (λ (f : ℕ → Node). (f i).calls k ≡ Some c → StaysOpen w stamps later i k c (f i).boot ⊎ CallSays setting views next later i k c) (sym nodes)
    (put_each (λ j x. x.calls k ≡ Some c → StaysOpen w stamps later j k c x.boot ⊎ CallSays setting views next later j k c) w.nodes me node
    (λ is. ⊎_elim
    (λ (old : ((w.nodes me).calls k ≡ Some c) × KeepsStamps stamps later me (w.nodes me).boot k). inl (old.0, boot, old.1))
    (λ (new : CallSays setting views next later me k c). inr new)
    (own is))
    (λ j other is. inl (is, refl, others j other)) i)

-- what is owed for synchronisations, where one brick changes
pub jobs_by : (setting : Setting) (views : Views) (w next : World) (me : ℕ) (node : Node) → next.nodes ≡ put w.nodes me node
    → ((job : Job) → node.job ≡ Some job → ((w.nodes me).job ≡ Some job) ⊎ JobSays setting views next me job) → (i : ℕ) (job : Job)
    → (next.nodes i).job ≡ Some job → ((w.nodes i).job ≡ Some job) ⊎ JobSays setting views next i job
jobs_by setting views w next me node nodes own i job =
    subst (λ (f : ℕ → Node). (f i).job ≡ Some job → ((w.nodes i).job ≡ Some job) ⊎ JobSays setting views next i job) (sym nodes)
    (put_each (λ j x. x.job ≡ Some job → ((w.nodes j).job ≡ Some job) ⊎ JobSays setting views next j job) w.nodes me node (own job) (λ j other is. inl is) i)

-- where it keeps its synchronisation
pub jobs_kept : (setting : Setting) (views : Views) (w next : World) (me : ℕ) (node : Node) → next.nodes ≡ put w.nodes me node
    → node.job ≡ (w.nodes me).job → (i : ℕ) (job : Job) → (next.nodes i).job ≡ Some job → ((w.nodes i).job ≡ Some job) ⊎ JobSays setting views next i job
jobs_kept setting views w next me node nodes same = jobs_by setting views w next me node nodes (λ job is. inl (sym same ∙ is))

-- the world after a brick's step that is told of no operation
abbrev pub quiet : World → BrickId → Node → List Packet → World
quiet w me node more =
    record w {
      nodes = put w.nodes me.0 node;
      held = with_held w.held me.0 node;
      packets = w.packets ++ more;
      choices = choices_after w.choices me node [];
    }

pub quiet_grows : (w : World) (stamps later : Stamping) (me : BrickId) (node : Node) (more : List Packet) → StampsGrow stamps later
    → LogsFit w → KeepsParts (w.nodes me.0) node → Grows w (quiet w me node more) stamps later
quiet_grows w stamps later me node more grow logged keeps = record {
  parts = parts_by w (quiet w me node more) me.0 node refl refl logged keeps;
  fresh = new_by w (quiet w me node more) me.0 node refl refl;
  sent = sent_by w (quiet w me node more) more refl;
  operations = λ n o is. (o, is, continues_same o);
  contents = λ g s t made. refl;
  grow = grow;
  numbered = λ i b k within. refl;
  marks = omega arith;
}

-- what a quiet step owes
pub record QuietOwes (setting : Setting) (views : Views) (w : World) (stamps later : Stamping) (me : BrickId) (node : Node) (more : List Packet) : Type 0 where
  pub keeps : KeepsParts (w.nodes me.0) node
  pub boot : node.boot ≡ (w.nodes me.0).boot
  pub stamps_say : StampsSay (quiet w me node more) later
  pub stamps_other : (i b k : ℕ) → i ≢ me.0 → KeepsStamps stamps later i b k
  pub tops : (g e s : ℕ) → (top_of (node.replicas g e s) ≡ top_of ((w.nodes me.0).replicas g e s)) ⊎ IsKnown later (top_of (node.replicas g e s))
  pub logs : (g e s k : ℕ) (version : Version) → slice_get (node.replicas g e s).log k ≡ Some version
      → ((j : ℕ) × (slice_get ((w.nodes me.0).replicas g e s).log j ≡ Some version)) ⊎ VersionSays setting views (quiet w me node more) g e s me.0 version
  pub lowest : (g e s : ℕ) (x : Version) (log : List Version) → first_kept (node.learnt g) ≤ e → (node.replicas g e s).log ≡ x ∷ log
      → ((rest : List Version) × (((w.nodes me.0).replicas g e s).log ≡ x ∷ rest))
      ⊎ ((((w.nodes me.0).replicas g e s).log ≡ []) ⊎ WasCollected (quiet w me node more) g s x.stamp)
  pub calls : (k : ℕ) (c : Coordinator) → node.calls k ≡ Some c
      → (((w.nodes me.0).calls k ≡ Some c) × KeepsStamps stamps later me.0 (w.nodes me.0).boot k)
      ⊎ CallSays setting views (quiet w me node more) later me.0 k c
  pub jobs : (job : Job) → node.job ≡ Some job → ((w.nodes me.0).job ≡ Some job) ⊎ JobSays setting views (quiet w me node more) me.0 job
  pub packets : (k : ℕ) (packet : Packet) → slice_get more k ≡ Some packet → PacketSays setting views (quiet w me node more) later packet

pub said_quiet : (setting : Setting) (views : Views) (w : World) (stamps later : Stamping) (me : BrickId) (node : Node) (more : List Packet) → Books setting w
    → Said setting views w stamps → StampsGrow stamps later → QuietOwes setting views w stamps later me node more → Said setting views (quiet w me node more) later
said_quiet setting views w stamps later me node more books said grow owes =
    let next : World = quiet w me node more in
    said_after setting views w next stamps later books said (quiet_grows w stamps later me node more grow said.logged owes.keeps) (record {
      stamps_say = owes.stamps_say;
      tops = λ g e s i.
          put_each (λ j x. (top_of (x.replicas g e s) ≡ top_of ((w.nodes j).replicas g e s)) ⊎ IsKnown later (top_of (x.replicas g e s)))
          w.nodes me.0 node (owes.tops g e s) (λ j other. inl refl) i;
      logs = λ g e s i k version.
          put_each (λ j x. slice_get (x.replicas g e s).log k ≡ Some version
          → ((l : ℕ) × (slice_get ((w.nodes j).replicas g e s).log l ≡ Some version)) ⊎ VersionSays setting views (quiet w me node more) g e s j version)
          w.nodes me.0 node (owes.logs g e s k version) (λ j other is. inl (k, is)) i;
      lowest = λ g e s i x log.
          put_each (λ j y. first_kept (y.learnt g) ≤ e → (y.replicas g e s).log ≡ x ∷ log
          → ((rest : List Version) × (((w.nodes j).replicas g e s).log ≡ x ∷ rest))
          ⊎ ((((w.nodes j).replicas g e s).log ≡ []) ⊎ WasCollected (quiet w me node more) g s x.stamp))
          w.nodes me.0 node (owes.lowest g e s x log) (λ j other within is. inl (log, is)) i;
      packets = λ k packet is. ⊎_elim
          (λ (old : slice_get w.packets k ≡ Some packet). inl old)
          (λ (new : (j : ℕ) × (slice_get more j ≡ Some packet)). inr (owes.packets new.0 packet new.1))
          (get_grown w.packets more k packet is);
      operations = λ n o is. inl is;
      calls = λ i k c.
          calls_by setting views w next stamps later me.0 node refl owes.boot k c (owes.calls k c)
          (λ j other. owes.stamps_other j (w.nodes j).boot k other) i;
      jobs = jobs_by setting views w next me.0 node refl owes.jobs;
      ends = λ k p n answer is. inl is;
      order = said.order;
    })

-- what the stamps say where they stay, and one brick ages
pub stamps_stay_by : (setting : Setting) (views : Views) (w next : World) (stamps : Stamping) (me : ℕ) (node : Node) → Said setting views w stamps
    → next.nodes ≡ put w.nodes me node
    → Ages (w.nodes me) node → StampsSay next stamps
stamps_stay_by setting views w next stamps me node said nodes ages = stamps_stay w next stamps said.stamps_say (ages_by w next me node nodes ages)

-- each member is sent its request
pub member_sent : (me : BrickId) (call : Call) (request : ℕ → Request) (seat : ℕ) (members : List BrickId) (k : ℕ) (member : BrickId)
    → slice_get members k ≡ Some member
    → slice_get (to_members me call request seat members) k
    ≡ Some (record { from = me; to = member; message = Message.Request call (request (seat + k)) })
member_sent me call request seat [] k member at = cc
member_sent me call request seat (other ∷ members) zero member at =
    let same : other ≡ member = cc in
    let place : seat ≡ seat + 0 = omega arith in
    ap (λ (z : BrickId). Some (record { from = me; to = z; message = Message.Request call (request seat) })) same
    ∙ ap (λ (j : ℕ). Some (record { from = me; to = member; message = Message.Request call (request j) })) place
member_sent me call request seat (other ∷ members) (suc k) member at =
    let place : seat + 1 + k ≡ seat + suc k = omega arith in
    member_sent me call request (seat + 1) members k member at
    ∙ ap (λ (j : ℕ). Some (record { from = me; to = member; message = Message.Request call (request j) })) place

-- a phase that was just sent is asked of each member
pub phase_asked : (setting : Setting) (w : World) (me : BrickId) (c : Coordinator) (packets : List Packet)
    → w.packets ≡ packets ++ phase_packets setting me c → (seat : ℕ) (member : BrickId) → slice_get (asked_group c).members seat ≡ Some member
    → WasSent w (record { from = me; to = member; message = Message.Request c.call (request_of setting.code c seat) })
phase_asked setting w me c packets is seat member at =
    let packet : Packet = record { from = me; to = member; message = Message.Request c.call (request_of setting.code c (0 + seat)) } in
    let sent = get_added packets (phase_packets setting me c) seat packet
    (member_sent me c.call (request_of setting.code c) 0 (asked_group c).members seat member at) in
    let place : 0 + seat ≡ seat = omega arith in
    subst (λ (j : ℕ). WasSent w (record { from = me; to = member; message = Message.Request c.call (request_of setting.code c j) })) place
    (sent.0, subst (λ (l : List Packet). slice_get l sent.0 ≡ Some packet) (sym is) sent.1)

-- a world that sends again what was sent, and what says what it should, and whose clocks and counted replies are other, says what was said
pub said_added : (setting : Setting) (views : Views) (w : World) (stamps : Stamping) (clocks : ℕ → ℕ) (replies : ℕ → ℕ → List Counted) (reached : ℕ → Bool)
    (packets : List Packet) (choices : Choices)
    → Books setting w → Said setting views w stamps → ((packet : Packet) → WasSent w packet → WasSent (record w { packets = packets }) packet)
    → ((packet : Packet) → WasSent (record w { packets = packets }) packet → WasSent w packet
    ⊎ PacketSays setting views (record w { clocks = clocks; packets = packets; replies = replies; reached = reached; choices = choices }) stamps packet)
    → Said setting views (record w { clocks = clocks; packets = packets; replies = replies; reached = reached; choices = choices }) stamps
said_added setting views w stamps clocks replies reached packets choices books said kept old =
    let next : World = record w { clocks = clocks; packets = packets; replies = replies; reached = reached; choices = choices } in
    let grows : Grows w next stamps stamps = record {
      parts = parts_same w next refl refl said.logged;
      fresh = new_none w next refl;
      sent = kept;
      operations = λ n o is. (o, is, continues_same o);
      contents = λ g s t made. refl;
      grow = stamps_same stamps;
      numbered = λ i b k within. refl;
      marks = omega arith;
    } in
    said_after setting views w next stamps stamps books said grows (record {
      stamps_say = stamps_stay w next stamps said.stamps_say (λ i. ages_within (w.nodes i) (w.nodes i) refl (omega arith) (omega arith));
      tops = λ g e s i. inl refl;
      logs = λ g e s i k version is. inl (k, is);
      lowest = λ g e s i x log within is. inl (log, is);
      packets = λ k packet is. inr (⊎_elim
          (λ (was : WasSent w packet). stays_packet setting views w next stamps stamps books grows packet (said.packets was.0 packet was.1))
          (λ (new : PacketSays setting views next stamps packet). new)
          (old packet (k, is)));
      operations = λ n o is. inl is;
      calls = λ i k c is. inl (is, refl, (λ p. refl));
      jobs = λ i job is. inl is;
      ends = λ k p n answer is. inl is;
      order = said.order;
    })

-- other clocks, other replies that count, other messages that were delivered, and other choices change nothing of what is said
pub said_beside : (setting : Setting) (views : Views) (w : World) (stamps : Stamping) (clocks : ℕ → ℕ) (replies : ℕ → ℕ → List Counted) (reached : ℕ → Bool)
    (choices : Choices) → Books setting w → Said setting views w stamps
    → Said setting views (record w { clocks = clocks; replies = replies; reached = reached; choices = choices }) stamps
said_beside setting views w stamps clocks replies reached choices books said =
    said_added setting views w stamps clocks replies reached w.packets choices books said (λ packet sent. sent) (λ packet sent. inl sent)

-- a brick that has no operation open any more, as it stopped or was started again, changes nothing of what is said, where no operation's
-- last position comes forward
pub said_idle : (setting : Setting) (views : Views) (w : World) (stamps : Stamping) (me : ℕ) (node : Node) (after : ℕ → Node) (up : ℕ → Bool) (past : ℕ → ℕ → ℕ)
    (marks : List Mark) (reached : ℕ → Bool)
    → Books setting w → Said setting views w stamps → KeepsPlaces (w.nodes me) node → ((k : ℕ) → node.calls k ≡ None) → node.job ≡ None
    → Ages (w.nodes me) node → length w.marks ≤ length marks → ((a : ℕ) → last_of (life_of w.marks a) ≤ last_of (life_of marks a))
    → ((k p n : ℕ) (answer : Answer) → slice_get marks k ≡ Some (End p n answer) → slice_get w.marks k ≡ Some (End p n answer))
    → Said setting views (record w { nodes = put w.nodes me node; after = after; up = up; past = past; marks = marks; reached = reached }) stamps
said_idle setting views w stamps me node after up past marks reached books said same none jobless ages longer lasts ends =
    let next : World = record w { nodes = put w.nodes me node; after = after; up = up; past = past; marks = marks; reached = reached } in
    said_after setting views w next stamps stamps books said
    (record {
      parts = parts_kept w next me node refl refl said.logged same;
      fresh = new_none w next refl;
      sent = λ packet sent. sent;
      operations = λ n o is. (o, is, continues_same o);
      contents = λ g s t made. refl;
      grow = stamps_same stamps;
      numbered = λ i b k within. refl;
      marks = longer;
    })
    (record {
      stamps_say = stamps_stay_by setting views w next stamps me node said refl ages;
      tops = λ g e s i. inl (ap (λ (r : Replica). top_of r) (part_same w next me node refl same.2 g e s i));
      logs = λ g e s i k version is. inl (k, ap (λ (r : Replica). slice_get r.log k) (sym (part_same w next me node refl same.2 g e s i)) ∙ is);
      lowest = λ g e s i x log within is. inl (log, ap (λ (r : Replica). r.log) (sym (part_same w next me node refl same.2 g e s i)) ∙ is);
      packets = λ k packet is. inl is;
      operations = λ n o is. inl is;
      calls = λ i k c.
          put_each (λ j x. x.calls k ≡ Some c → StaysOpen w stamps stamps j k c x.boot ⊎ CallSays setting views next stamps j k c) w.nodes me node
          (λ is. absurd (let bad : Some c ≡ None = sym is ∙ none k in let never : ⊥ = cc in never))
          (λ j other is. inl (is, refl, (λ p. refl))) i;
      jobs = jobs_by setting views w next me node refl (λ job is. inl (absurd (let bad : None ≡ Some job = sym jobless ∙ is in let never : ⊥ = cc in never)));
      ends = λ k p n answer is. inl (ends k p n answer is);
      order = λ a b earlier later u earlier_is later_is groups stripes marked version. ⊎_elim
          (λ (floors : FloorsAbove setting views later u). inl floors)
          (λ (before : later.begin ≤ last_of (life_of w.marks earlier.mark)). inr (omega (arith, before, lasts earlier.mark)))
          (said.order a b earlier later u earlier_is later_is groups stripes marked version);
    })
