-- Each brick is opened, and stands behind those before it for what is done next.
use Rattle.std.proofs.Common.{◌≡◌, ◌≢◌, ◌+◌, ◌<◌, false, [], ◌∷◌, ◌++◌, inl, inr, refl, sym, ap, ◌∙◌, subst, arith, rules}
use Rattle.std.specs.List.{AllByRecursion}
use Rattle.fab_base.specs.declared.identities.BrickId.{BrickId}
use Rattle.fab_base.proofs.Keeping.{Kept-refl, Kept-narrower}
use Rattle.fab_host.specs.Opening.{WhereTold}
use Rattle.hosting.specs.Hosted.{IsSound}
use Rattle.serving.specs.Ports.{ports_of, port_of}
use Rattle.brick.specs.declared.endings.Ending.TheVariants.{Memory, Disk}
use Rattle.brick.specs.declared.openings.Equipment.TheVariants as opened
use Rattle.brick.specs.Hosts.{host_seen, Has}
use Rattle.brick.specs.Locals.{disk_name, AreSame, AreRunning, HostsFrom, HostsByDisk}
use Rattle.brick.specs.Openings.{KnowsEquipment, GivesBack, OpensBrick, HoldsBrick}
use Rattle.brick.specs.Views.{views, streams}
use Rattle.brick.proofs.FromBrick.{from_next, from_last}
use Rattle.brick.proofs.Knowing.{knows_same}
use Rattle.brick.proofs.Lending.{told_same}
use Rattle.brick.proofs.MayHosting.{ends_there}
use Rattle.brick.proofs.Nesting.{refused_hosts, next_hosts, refused_known_still, brick_known_still, next_known_still, brick_holds, next_there}
use Rattle.brick.proofs.Refusing.{not_out}
use Rattle.brick.proofs.Returning.{refused_known}
use Rattle.brick.proofs.SameBricks.{same_refl, same_last, some_last, all_more, all_last}
use Rattle.brick.proofs.Starting.{left_by}
use Rattle.brick.proofs.Turning.{disk_or_not}
use Rattle.brick.proofs.locals.+host_bricks.Goals as goal

pub returns-then-id-bricks : goal.returns-then-id-bricks
returns-then-id-bricks g t c =
    let ran = c.run_by_clock.ensures in
    record {
      hosts = from_last _ _ _ _ _ _ _ _ _ _ _ _ _ (omega arith) ran.hosts;
      same = ran.same;
      runs_still = ran.runs_still (search rules);
      knows = ran.knows;
      stays = ran.stays;
      sink = ran.sink;
      done = λ s sound sink has. ran.done s sound sink (ends_there _ _ _ _ _ _ _ has);
    }

-- no memory was left for the name of the disk
pub returns-in-Err : goal.returns-in-Err
returns-in-Err g t c =
    let host = g.H.Host in
    let v = views g.H.Disk.Disk g.H.Link.Link g.H.Clock.Clock in
    let before = host_seen (host.faults c.args.host.now) (host.asked c.args.host.now) (host.holds c.args.host.now) in
    let out = g.K.Sink.told c.args.out.now in
    let first = c.args.bricks.bricks in
    record {
      hosts = from_next (streams g.H.Source.Source g.H.Input.Source g.H.Output.Sink) v c.args.layout.now c.args.prefix.now c.args.task out out Memory c.args.id first first
          before before (omega arith) (inl ((refl, told_same (λ h now. now ≡ h) _ (λ h. refl)), refl, refl));
      same = same_refl first;
      runs_still = λ not. search rules;
      knows = knows_same _;
      stays = λ s sound. (s, sound);
      sink = Kept-narrower (λ e. absurd (not_out c.args.task Memory (λ six. omega (arith, six)) e)) (Kept-refl _ _);
      done = λ s sound sink has. tt;
    }

-- ---- the brick was refused

pub give_back-requires : goal.give_back-requires
give_back-requires g t c =
    let host = g.H.Host in
    let layout = c.args.layout.now in
    let me : BrickId = record { 0 = c.args.id } in
    let name = c.as_str-name.result.now in
    let before = host_seen (host.faults c.args.host.now) (host.asked c.args.host.now) (host.holds c.args.host.now) in
    let now = host_seen (host.faults c.open_brick.new.host) (host.asked c.open_brick.new.host) (host.holds c.open_brick.new.host) in
    subst (λ p. WhereTold now.holds (KnowsEquipment name p c.in-Err-open_brick.opened)) (sym c.port_of-port.ensures.value)
    (refused_known (views g.H.Disk.Disk g.H.Link.Link g.H.Clock.Clock) layout me name before now c.in-Err-open_brick.opened c.in-Err-open_brick.ending
    c.in-Err-open_brick.ensures.refuses)

pub returns-in-Err-open_brick : goal.returns-in-Err-open_brick
returns-in-Err-open_brick g t c =
    let host = g.H.Host in
    let d = g.H.Disk.Disk in
    let v = views d g.H.Link.Link g.H.Clock.Clock in
    let layout = c.args.layout.now in
    let prefix = c.args.prefix.now in
    let me : BrickId = record { 0 = c.args.id } in
    let name = c.as_str-name.result.now in
    let out = g.K.Sink.told c.args.out.now in
    let first = c.args.bricks.bricks in
    let before = host_seen (host.faults c.args.host.now) (host.asked c.args.host.now) (host.holds c.args.host.now) in
    let now = host_seen (host.faults c.open_brick.new.host) (host.asked c.open_brick.new.host) (host.holds c.open_brick.new.host) in
    let after = host_seen (host.faults c.give_back.new.host) (host.asked c.give_back.new.host) (host.holds c.give_back.new.host) in
    let equipment = c.in-Err-open_brick.opened in
    let ending = c.in-Err-open_brick.ending in
    let said = c.in-Err-open_brick.ensures in
    let name_is : name ≡ disk_name prefix me = c.as_str-name.ensures.value ∙ c.in-Ok.ensures in
    let given = subst (λ p. GivesBack name p equipment now after) c.port_of-port.ensures.value c.give_back.ensures.gives in
    let next = HostsFrom (streams g.H.Source.Source g.H.Input.Source g.H.Output.Sink) v layout prefix c.args.task out out ending (c.args.id + 1) in
    record {
      hosts = from_next (streams g.H.Source.Source g.H.Input.Source g.H.Output.Sink) v layout prefix c.args.task out out ending c.args.id first first before after
          (omega arith)
          (subst (λ n. HostsByDisk v layout me n next before after first first out out ending) name_is
          (refused_hosts v layout me name next before now after first out equipment ending said.refuses given));
      same = same_refl first;
      runs_still = λ not. search rules;
      knows = refused_known_still v layout me name before now equipment ending after said.refuses given;
      stays = λ s sound. (let held = said.stays s in (c.give_back.ensures.stays held.1 held.0, sound));
      sink = Kept-narrower (λ e. absurd (not_out c.args.task ending said.sink e)) (Kept-refl _ _);
      done = λ s sound sink has. said.done s (subst (λ n. Has before.holds (HoldsBrick d.tells d.seen layout me n)) (sym name_is)
          (brick_holds d.tells d.seen layout prefix c.args.task c.args.id before.holds (omega arith) has));
    }

-- ---- it was opened

pub with_brick-bricks-requires-clause-runs : goal.with_brick-bricks-requires-clause-runs
with_brick-bricks-requires-clause-runs g t c = c.in-Ok-open_brick.ensures.opens.started.runs

-- there is a last brick
pub without_last-bricks-requires : goal.without_last-bricks-requires
without_last-bricks-requires g t c =
    let hosted = c.host_bricks-bricks in
    some_last c.args.bricks.bricks hosted.result.0.bricks c.with_brick-bricks.ensures.more.0
    (subst (λ bs. AreSame bs hosted.result.0.bricks) c.with_brick-bricks.ensures.more.1 hosted.ensures.same)

pub give_back-requires-2 : goal.give_back-requires-2
give_back-requires-2 g t c =
    let host = g.H.Host in
    let layout = c.args.layout.now in
    let me : BrickId = record { 0 = c.args.id } in
    let name = c.as_str-name.result.now in
    let before = host_seen (host.faults c.args.host.now) (host.asked c.args.host.now) (host.holds c.args.host.now) in
    let now = host_seen (host.faults c.open_brick.new.host) (host.asked c.open_brick.new.host) (host.holds c.open_brick.new.host) in
    let hosted = c.host_bricks-bricks in
    subst (λ p. WhereTold (host.holds hosted.new.host) (KnowsEquipment name p (opened.Linked c.into_disk.result c.without_last-bricks.result.2)))
    (sym c.port_of-port.ensures.value)
    (brick_known_still (views g.H.Disk.Disk g.H.Link.Link g.H.Clock.Clock) layout me name before now c.in-Ok-open_brick.opened.0 c.in-Ok-open_brick.opened.1
    (host.holds hosted.new.host) c.in-Ok-open_brick.ensures.opens hosted.ensures.knows)

pub returns : goal.returns
returns g t c =
    let host = g.H.Host in
    let d = g.H.Disk.Disk in
    let l = g.H.Link.Link in
    let k = g.H.Clock.Clock in
    let v = views d l k in
    let layout = c.args.layout.now in
    let prefix = c.args.prefix.now in
    let task = c.args.task in
    let id = c.args.id in
    let me : BrickId = record { 0 = id } in
    let port = port_of (ports_of layout) me in
    let name = c.as_str-name.result.now in
    let out = g.K.Sink.told c.args.out.now in
    let first = c.args.bricks.bricks in
    let opened_by = c.in-Ok-open_brick.ensures in
    let opens = opened_by.opens in
    let node = c.in-Ok-open_brick.opened.0 in
    let link = c.in-Ok-open_brick.opened.1 in
    let hosted = c.host_bricks-bricks in
    let inner = hosted.ensures in
    let ending = hosted.result.1 in
    let said = g.K.Sink.told hosted.new.out in
    let before = host_seen (host.faults c.args.host.now) (host.asked c.args.host.now) (host.holds c.args.host.now) in
    let now = host_seen (host.faults c.open_brick.new.host) (host.asked c.open_brick.new.host) (host.holds c.open_brick.new.host) in
    let ended = host_seen (host.faults hosted.new.host) (host.asked hosted.new.host) (host.holds hosted.new.host) in
    let after = host_seen (host.faults c.give_back-2.new.host) (host.asked c.give_back-2.new.host) (host.holds c.give_back-2.new.host) in
    let brick = c.with_brick-bricks.ensures.more.0 in
    let more = c.with_brick-bricks.ensures.more.1 in
    let begins = c.with_brick-bricks.ensures.more.2 in
    let last = c.without_last-bricks in
    let node_after = last.result.1 in
    let link_after = last.result.2 in
    let first_after = last.result.0.bricks in
    let brick_after = last.ensures.0 in
    let more_after = last.ensures.1 in
    let taken = last.ensures.2 in
    let kept = c.into_disk.ensures in
    let back = c.into_disk.result in
    let name_is : name ≡ disk_name prefix me = c.as_str-name.ensures.value ∙ c.in-Ok.ensures in
    let given = subst (λ p. GivesBack name p (opened.Linked back link_after) ended after) c.port_of-port.ensures.value c.give_back-2.ensures.gives in
    let from = HostsFrom (streams g.H.Source.Source g.H.Input.Source g.H.Output.Sink) v layout prefix task out said ending (id + 1) in
    let same : AreSame (first ++ (brick ∷ [])) (first_after ++ (brick_after ∷ [])) =
    subst (λ bs. AreSame (first ++ (brick ∷ [])) bs) more_after (subst (λ bs. AreSame bs hosted.result.0.bricks) more inner.same) in
    let both = same_last first first_after brick brick_after same in
    let still : ending ≢ Disk → AreRunning first_after × (brick_after.node.brick.halted ≡ false) = λ not.
    all_last (λ b. b.node.brick.halted ≡ false) first_after brick_after (subst (λ bs. AreRunning bs) more_after (inner.runs_still not)) in
    let runs : (ending ≡ Disk → node_after.brick.halted ≡ false) → node_after.brick.halted ≡ false = λ whole.
    elim (disk_or_not ending) [ inl failed ↦ whole failed | inr not ↦ subst (λ n. n.brick.halted ≡ false) (sym (ap (λ p. p.0) taken)) (still not).1 ] in
    let standing : l.sound link → AllByRecursion (IsSound d l k) first → d.sound node.brick.disk
    → AllByRecursion (IsSound d l k) c.with_brick-bricks.result.bricks = λ linked sound whole.
    subst (AllByRecursion (IsSound d l k)) (sym more) (all_more (IsSound d l k) first brick sound (record {
      runs = (all_last (λ b. b.node.brick.halted ≡ false) first brick (subst (λ bs. AreRunning bs) more c.with_brick-bricks.ensures.running)).1;
      disk = subst (λ n. d.sound n.brick.disk) (sym begins.node_is) whole;
      link = subst l.sound (sym begins.link_is) linked;
    })) in
    let there : OpensBrick v layout me (disk_name prefix me) before now node link = subst (λ n. OpensBrick v layout me n before now node link) name_is opens in
    record {
      hosts = from_next (streams g.H.Source.Source g.H.Input.Source g.H.Output.Sink) v layout prefix task out said ending id first first_after before after (omega arith)
          (subst (λ n. HostsByDisk v layout me n from before after first first_after out said ending) name_is
          (next_hosts v layout me name from before now after first out node node_after link link_after brick brick_after first_after ended back said ending
          opens begins (sym (ap (λ p. p.0) taken)) (sym (ap (λ p. p.1) taken))
          (subst (λ bs. from (first ++ (brick ∷ [])) bs now ended) more_after (subst (λ bs. from bs hosted.result.0.bricks now ended) more inner.hosts))
          (left_by v layout me node_after back (ending ≡ Disk → node_after.brick.halted ≡ false) kept.disk
          (ap (λ p. p.0.layout) taken ∙ both.1.layout ∙ ap (λ n. n.layout) begins.node_is ∙ opens.started.layout_is)
          (ap (λ p. p.0.me) taken ∙ both.1.me ∙ ap (λ n. n.me) begins.node_is ∙ opens.started.me_is)
          (λ tells whole. kept.stands tells (runs whole)))
          given));
      same = both.0;
      runs_still = λ not. (still not).0;
      knows = next_known_still v layout me name before now node link back link_after ended after opens inner.knows given;
      stays = λ s sound.
          let held = opened_by.stays s in
          let done = inner.stays held.0 (standing held.1.1 sound held.1.0) in
          let each = all_last (IsSound d l k) first_after brick_after (subst (AllByRecursion (IsSound d l k)) more_after done.1) in (
            c.give_back-2.ensures.stays (
              subst d.sound (sym kept.disk) (subst (λ n. d.sound n.brick.disk) (sym (ap (λ p. p.0) taken)) each.1.disk),
              subst l.sound (sym (ap (λ p. p.1) taken)) each.1.link,
            ) done.0,
            each.0,
          );
      sink = inner.sink;
      done = λ s sound sink has.
          let held = opened_by.stays s in
          inner.done held.0 (standing held.1.1 sound held.1.0) sink
          (next_there d.tells d.seen layout prefix task id v before now node link (omega arith) c.bricks.ensures.limits.few_bricks
          (subst (λ p. 0 < p) c.port_of-port.ensures.value c.port_of-port.ensures.some) there has);
    }
