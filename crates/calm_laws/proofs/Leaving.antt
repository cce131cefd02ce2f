-- Where just a quorum of an operation's members hear one another, its Collects leave each of them its version only.
use Rattle.protocol.specs.Views.{kept_by}
use Rattle.std.proofs.Common.{◌≡◌, ℕ, suc, ◌+◌, ◌≤◌, ◌&&◌, false, true, nat_lt, List, [], ◌∷◌, ◌++◌, map, Option, Some, None, refl, sym, ap, ◌∙◌, subst, ⊎_elim, eqb-true, inl}
use Rattle.std.specs.Prelude.{is_some, nat_eq, slice_get, ◌-◌}
use Rattle.std.proofs.lemmas.Bool.{false≢true, or_cases, and_from, cond-true}
use Rattle.std.proofs.lemmas.Option.{same_Some}
use Rattle.fab_base.specs.Layouts.{Layout, Group, group_of, seat_in}
use Rattle.fab_base.specs.declared.asks.Ask.{Ask}
use Rattle.fab_base.specs.declared.identities.BrickId.{BrickId}
use Rattle.fab_base.specs.declared.stamps.Stamp.{Stamp}
use Rattle.messages.specs.declared.calls.Call.{Call}
use Rattle.messages.specs.declared.packets.Message.{Message}
use Rattle.messages.specs.declared.packets.Packet.{Packet}
use Rattle.messages.specs.declared.requests.Request.{Request}
use Rattle.messages.specs.declared.requests.Version.{Version}
use Rattle.protocol.specs.Calms.{IsCalm, may_ask_prior}
use Rattle.protocol.specs.Coordinators.{Coordinator, looks_back}
use Rattle.protocol.specs.Nodes.{Node, collect_packets, replica_at, to_members, view_at}
use Rattle.protocol.specs.Replicas.{Replica, not_below}
use Rattle.protocol.specs.Settings.{IsSound, Setting}
use Rattle.protocol.specs.Worlds.{Delivers, Event, Operation, World, first_world, is_up, run}
use Rattle.protocol.specs.declared.phases.Phase.{Phase}
use Rattle.protocol.specs.declared.phases.Phase.TheVariants.{Bases, Descends, Looks, LooksAt, Modifies, Orders, OrdersAt, Recovers, Stores, LooksBack}
use Rattle.protocol_laws.proofs.Books.{Books, CallBooks, IsMade, MadeInPhase, version_after}
use Rattle.protocol_laws.proofs.BooksEvents.{books, brick_of}
use Rattle.protocol_laws.proofs.Falls.{always_logged}
use Rattle.protocol_laws.proofs.Logs.{LogAscends}
use Rattle.protocol_laws.proofs.Outcomes.{IsLook}
use Rattle.protocol.proofs.Tables.{get_added, get_kept}
use Rattle.calm_laws.proofs.Calmness.{each_counts, finishes}
use Rattle.calm_laws.proofs.Casting.{chosen, seat_some}
use Rattle.calm_laws.proofs.Collecting.{all_leave}
use Rattle.calm_laws.proofs.Discharge.{known_of}
use Rattle.calm_laws.proofs.Finishing.{runs_once, runs_to}
use Rattle.calm_laws.proofs.Known.{Known}
use Rattle.calm_laws.proofs.Once.{IsOnce, always_once, only_newest}
use Rattle.calm_laws.proofs.Plays.{Finishes, HasEnded}
use Rattle.protocol.proofs.Events.{run-append}
use Rattle.calm_laws.proofs.Scenes.{Each, EndsAt, IsNewest, Part, Stage, view_ahead}
use Rattle.calm_laws.proofs.Shows.{IsMember}
use Rattle.calm_laws.proofs.Storing.{held_newest}
use Rattle.calm_laws.specs.Laws.{AreCollects, AreJustQuorum, CollectsLeaveOne, EncodesBlocks, HasOnly, HasStripe, IsCollect, IsMemberAmong, LeavesOne, most_records}
use Rattle.calm_laws.specs.Logs.{is_stripe, log_in}
use Rattle.quorum.specs.Quorums.{quorum_of}
use Rattle.calm_laws.proofs.Members.{counts_of}

-- an operation that has made a version has made its coordinator's
made_is : (c : Coordinator) (o : Operation) (p : Phase) → MadeInPhase c o p → o.made ≡ true → IsMade c o
made_is c o Looks unmade made = absurd (false≢true (sym unmade.1 ∙ made))
made_is c o (LooksAt j) unmade made = absurd (false≢true (sym unmade.1 ∙ made))
made_is c o Orders unmade made = absurd (false≢true (sym unmade.1 ∙ made))
made_is c o (OrdersAt j) unmade made = absurd (false≢true (sym unmade.1 ∙ made))
made_is c o Recovers unmade made = absurd (false≢true (sym unmade.1 ∙ made))
made_is c o (Descends bound) unmade made = absurd (false≢true (sym unmade.1 ∙ made))
made_is c o (LooksBack bound) unmade made = absurd (false≢true (sym unmade.1 ∙ made))
made_is c o (Modifies base j) is made = is.0
made_is c o (Bases base) is made = is.0
made_is c o Stores is made = is

-- and looks no more
made_no_look : (c : Coordinator) (o : Operation) (p : Phase) → MadeInPhase c o p → o.made ≡ true → IsLook p → ⊥
made_no_look c o Looks unmade made look = false≢true (sym unmade.1 ∙ made)
made_no_look c o (LooksAt j) unmade made look = false≢true (sym unmade.1 ∙ made)
made_no_look c o p is made look = absurd look

-- a seat that there is
seat_there : (z : Option ℕ) → is_some z ≡ true → (seat : ℕ) × (z ≡ Some seat)
seat_there None is = absurd (false≢true is)
seat_there (Some seat) is = (seat, refl)

-- each member is sent a request that is sent to all
sent_each : (me : BrickId) (call : Call) (request : Request) (seat : ℕ) (members : List BrickId) (brick : BrickId)
    → is_some (seat_in members brick.0) ≡ true
    → (k : ℕ) × (slice_get (to_members me call (λ j. request) seat members) k
    ≡ Some (record { from = me; to = brick; message = Message.Request call request }))
sent_each me call request seat [] brick seated = absurd (false≢true seated)
sent_each me call request seat (member ∷ members) brick seated = ⊎_elim
    (λ (here : nat_eq member.0 brick.0 ≡ true). (
      0,
      ap (λ (b : BrickId). Some (let packet : Packet = record { from = me; to = b; message = Message.Request call request } in packet))
          (brick_of member brick (eqb-true member.0 brick.0 here)),
    ))
    (λ (there : is_some (seat_in members brick.0) ≡ true).
    let rest = sent_each me call request (seat + 1) members brick there in (suc rest.0, rest.1))
    (or_cases (nat_eq member.0 brick.0) (is_some (seat_in members brick.0)) (sym (seat_some member members brick.0) ∙ seated))

-- a brick that serves a call shows the log that it keeps for it
shown_log : (layout : Layout) (v : World) (brick : BrickId) (group : Group) (call : Call) (g s : ℕ) → group_of layout g ≡ Some group → call.group.0 ≡ g
    → call.stripe.0 ≡ s → is_up layout v brick ≡ true → nat_lt call.stripe.0 group.stripes ≡ true → view_at (v.nodes brick.0) call.group.0 ≡ call.view.0
    → log_in layout v brick g s ≡ Some (replica_at (v.nodes brick.0) call).log
shown_log layout v brick group call g s group_is of_group of_stripe up within view =
    let there : is_stripe (group_of layout g) s ≡ true
    = ap (λ (z : Option Group). is_stripe z s) group_is ∙ ap (λ (j : ℕ). nat_lt j group.stripes) (sym of_stripe) ∙ within in
    cond-true (is_stripe (group_of layout g) s && is_up layout v brick) (Some (node.replicas g (view_at node g) s).log) None
    (and_from (is_stripe (group_of layout g) s) (is_up layout v brick) there up)
    ∙ ap (λ (i : ℕ). Some (node.replicas i (view_at node i) s).log) (sym of_group)
    ∙ ap (λ (e : ℕ). Some (node.replicas call.group.0 e s).log) view
    ∙ ap (λ (j : ℕ). Some (node.replicas call.group.0 call.view.0 j).log) (sym of_stripe)
  where
    node : Node
    node = v.nodes brick.0

-- a phase in which a version was made does not look back
made_ahead : (c : Coordinator) (o : Operation) (phase : Phase) → MadeInPhase c o phase → o.made ≡ true → looks_back phase ≡ false
made_ahead c o (LooksBack bound) its made = absurd (false≢true (sym its.1 ∙ made))
made_ahead c o phase its made = refl

-- where an operation has ended whose version is t, that was stored, and is the newest at the members whose replies count
ends_stored : (stage : Stage) (c : Coordinator) (o : Operation) (parts : ℕ → Part) (t : Stamp) (seen stored : Option Stamp)
    → MadeInPhase c o c.phase → o.made ≡ true → version_after o.version seen ≡ Some t → EndsAt stage c.phase c.stamp parts seen stored
    → (stored ≡ Some t) × Each (λ x. IsNewest t (parts x.brick.0).replica.log) stage.quorum
ends_stored stage c o parts t seen None its made version look = absurd (made_no_look c o c.phase its made look)
ends_stored stage c o parts t (Some v) (Some u) its made version ends = absurd ends
ends_stored stage c o parts t None (Some u) its made version ends =
    let same : u ≡ t = ends.0 ∙ same_Some c.stamp t (sym (made_is c o c.phase its made).0 ∙ version) in
    (ap (λ (z : Stamp). Some z) same, subst (λ (z : Stamp). Each (λ x. IsNewest z (parts x.brick.0).replica.log) stage.quorum) same ends.1)

module _ (setting : Setting) (events : List Event) (n : ℕ) (bricks : List BrickId) (sound : IsSound setting) (encodes : EncodesBlocks setting)
    (small : setting.layout.records ≤ most_records) (calm : IsCalm setting (run setting events (first_world setting.layout)) n bricks)
    (has_stripe : HasStripe setting calm.operation calm.coordinator bricks) (exactly : AreJustQuorum calm.coordinator bricks) (t : Stamp) where
  abbrev w : World
  w = run setting events (first_world setting.layout)

  abbrev c : Coordinator
  c = calm.coordinator

  known : Known setting w n calm.operation c bricks
  known = known_of setting events n bricks sound encodes small calm has_stripe

  abbrev stage : Stage
  stage = record {
    setting = setting;
    bricks = bricks;
    me = calm.operation.brick;
    now = w.clocks calm.operation.brick.0;
    call = c.call;
    group = c.group;
    quorum = counts_of c.only (quorum_of c.group) (chosen bricks 0 c.group.members);
    only = c.only;
    prior = kept_by c.prior c.group;
    may_ask = may_ask_prior w c bricks;
    old = λ i. ((w.nodes i).replicas c.call.group.0 (c.call.view.0 - 1) c.call.stripe.0).log;
  }

  module _ (finish : Finishes stage n c w) (made : finish.end.operation.made ≡ true) (version : finish.end.operation.version ≡ Some t) where
    abbrev last : World
    last = finish.last

    abbrev end : HasEnded stage n c w last
    end = finish.end

    abbrev d : Coordinator
    d = end.coordinator

    abbrev before : World
    before = run setting end.events w

    -- the books of the world before the last delivery
    its : CallBooks setting before calm.operation.brick.0 d.call.seq d
    its =
        (subst (λ (z : World). Books setting z) (run-append setting (first_world setting.layout) events end.events)
        (books setting (events ++ end.events))).calls calm.operation.brick.0 d.call.seq d end.call

    its_operation : its.operation ≡ end.before
    its_operation =
        same_Some its.operation end.before
        (sym its.operation_is ∙ ap (λ (k : ℕ). before.operations k) end.number ∙ end.was)

    -- its version was stored
    was_stored : (end.stored ≡ Some t) × Each (λ x. IsNewest t (end.parts x.brick.0).replica.log) stage.quorum
    was_stored =
        ends_stored stage d end.before end.parts t end.seen end.stored
        (subst (λ (o : Operation). MadeInPhase d o d.phase) its_operation its.made) (sym end.made ∙ made) (sym end.version ∙ version) end.ends

    -- the last phase asks the members of the operation's view
    ahead : looks_back d.phase ≡ false
    ahead = made_ahead d end.before d.phase (subst (λ (o : Operation). MadeInPhase d o d.phase) its_operation its.made) (sym end.made ∙ made)

    -- its call is of the same stripe
    last_call : d.call ≡ record c.call { phase = d.call.phase }
    last_call = λ i. record {
      boot = end.same.boot i;
      seq = end.same.seq i;
      phase = d.call.phase;
      group = end.same.of_group i;
      view = (its.call_view ∙ view_ahead d.stamp d.phase ahead ∙ end.same.view ∙ sym known.call.view) i;
      stripe = end.same.stripe i;
    }

    -- the world is a run's
    reached : run setting (events ++ finish.events) (first_world setting.layout) ≡ last
    reached =
        run-append setting (first_world setting.layout) events finish.events
        ∙ runs_to setting n bricks w finish.events last finish.alone

    module _ (brick : BrickId) (among : IsMemberAmong c bricks brick) where
      abbrev log : List Version
      log = (replica_at (last.nodes brick.0) c.call).log

      -- the version is the newest at each of the members
      newest : IsNewest t log
      newest =
          subst (λ (r : Replica). IsNewest t r.log) (sym (end.kept brick among.0))
          (each_counts setting sound encodes w n bricks calm known exactly (λ b. IsNewest t (end.parts b.0).replica.log) was_stored.1 brick among.0 among.1)

      ascends : LogAscends log
      ascends =
          subst (λ (z : World). LogAscends (replica_at (z.nodes brick.0) c.call).log) reached
          ((always_logged setting (events ++ finish.events)).ascends c.call.group.0 c.call.view.0 c.call.stripe.0 brick.0)

      once : IsOnce log
      once =
          subst (λ (z : World). IsOnce (replica_at (z.nodes brick.0) c.call).log) reached
          (always_once setting (events ++ finish.events) brick.0 c.call.group.0 c.call.view.0 c.call.stripe.0)

      -- and all that is left once a Collect of it was delivered
      only_one : (numbers : List ℕ) → AreCollects last calm.operation.brick c t bricks numbers
          → HasOnly setting.layout (run setting (map (λ number. Delivers number) numbers) last) calm.operation.ask t brick
      only_one numbers collects =
          let own = collects.all brick among in
          let seat = seat_there (seat_in c.group.members brick.0) among.1 in
          let member : IsMember stage last c.call brick = end.members brick among.0 in
          let keeps = all_leave stage c last calm.operation.brick t brick seat.0 seat.1 newest.0 log newest.2 (held_newest t log newest)
          (subst (λ (z : Stamp). not_below z log ≡ newest.0 ∷ []) newest.2 (only_newest log newest.0 ascends once newest.1))
          numbers last collects.each own.0 own.1 own.2 own.3
          (inl (record {
            member = record {
              up = member.up;
              group = member.group;
              stripe = member.stripe;
              from_one = member.from_one;
              view = member.view;
              free = member.free;
            };
            log_is = refl;
            packets = λ number packet is. is;
          })) in (
            newest.0.block,
            shown_log setting.layout (run setting (map (λ number. Delivers number) numbers) last) brick known.call.base c.call calm.operation.ask.group.0
                calm.operation.ask.stripe.0 (ap (λ (a : Ask). group_of setting.layout a.group.0) (sym known.call.ask) ∙ known.call.base_is)
                (ap (λ g. g.0) known.call.of_group ∙ ap (λ (a : Ask). a.group.0) known.call.ask)
                (ap (λ s. s.0) known.call.stripe ∙ ap (λ (a : Ask). a.stripe.0) known.call.ask) keeps.member.up
                (ap (λ (k : ℕ). nat_lt c.call.stripe.0 k) known.call.stripes ∙ keeps.member.stripe) keeps.member.view
                ∙ ap (λ (l : List Version). Some l) keeps.log_is
                ∙ ap (λ (s : Stamp). Some ((let x : Version = record { stamp = s; block = newest.0.block } in x) ∷ [])) newest.2,
          )

      -- the Collect was sent
      was_sent : (number : ℕ) × IsCollect last calm.operation.brick c t brick number
      was_sent =
          let there = sent_each calm.operation.brick d.call (Request.Collect t) 0 d.group.members brick
          (ap (λ g. is_some (seat_in g.members brick.0)) end.same.group ∙ among.1) in
          let collects : List Packet = to_members calm.operation.brick d.call (λ j. Request.Collect t) 0 d.group.members in
          let at = get_added before.packets (collects ++ end.more) there.0 _ (get_kept collects end.more there.0 _ there.1) in (
            suc at.0,
            record {
              phase = d.call.phase;
              is = ap (λ (l : List Packet). slice_get l at.0)
                  (end.packets ∙ ap (λ (z : Option Stamp). before.packets ++ (collect_packets calm.operation.brick d z ++ end.more)) was_stored.0)
                  ∙ at.1
                  ∙ ap (λ (call : Call). Some (let packet : Packet
                  = record { from = calm.operation.brick; to = brick; message = Message.Request call (Request.Collect t) } in packet))
                  last_call;
            },
          )

    -- so its Collects leave one version
    leaves_one : LeavesOne setting last calm.operation c t bricks
    leaves_one = record { sent = λ brick among. was_sent brick among; left = λ numbers collects brick among. only_one brick among numbers collects }

-- after every schedule
pub collects_leave : CollectsLeaveOne
collects_leave setting events n bricks sound encodes small calm has_stripe alone last runs exactly operation t is made version =
    let w : World = run setting events (first_world setting.layout) in
    let finish = finishes setting sound encodes w n bricks calm (known_of setting events n bricks sound encodes small calm has_stripe) in
    let same : finish.last ≡ last = (runs_once setting n bricks w finish.events finish.last finish.alone alone last runs).1 in
    let its : finish.end.operation ≡ operation
    = same_Some finish.end.operation operation (sym finish.end.is ∙ ap (λ (z : World). z.operations n) same ∙ is) in
    subst (λ (z : World). LeavesOne setting z calm.operation calm.coordinator t bricks) same
    (leaves_one setting events n bricks sound encodes small calm has_stripe exactly t finish
    (ap (λ (o : Operation). o.made) its ∙ made) (ap (λ (o : Operation). o.version) its ∙ version))
