-- A brick of `brick local` or `brick nbd` that was opened and given back, with what was done between.
use Rattle.std.proofs.Common.{◌≡◌, ℕ, ◌+◌, ◌<◌, ◌≤◌, arith, false, List, [], ◌∷◌, ◌++◌, Option, ◌⊎◌, inl, inr, refl, sym, subst}
use Rattle.fab_base.specs.declared.identities.BrickId.{BrickId}
use Rattle.fab_base.specs.Layouts.{Layout}
use Rattle.fab_host.specs.declared.hosts.Asked.TheVariants as calls
use Rattle.fab_host.specs.Held.{Held, lent, here, IsKnown}
use Rattle.fab_host.specs.Holdings.{Holdings, with_disk, with_link, with_clock}
use Rattle.fab_host.specs.Opening.{WhereTold}
use Rattle.hosting.specs.Hosted.{Hosted, Begins}
use Rattle.node.specs.Running.{Running}
use Rattle.serving.specs.Ports.{ports_of, port_of}
use Rattle.brick.specs.declared.endings.Ending.{Ending}
use Rattle.brick.specs.declared.endings.Ending.TheVariants as ends
use Rattle.brick.specs.declared.openings.Equipment.{Equipment}
use Rattle.brick.specs.declared.openings.Equipment.TheVariants as opened
use Rattle.brick_words.specs.declared.words.Task.{Task}
use Rattle.brick.specs.Hosts.{HostSeen, Told, Has, KnowsStill, IsReturned, IsRefused}
use Rattle.brick.specs.Locals.{disk_name, Deed, HostsOver, HostsByDisk, HasBricks}
use Rattle.brick.specs.Openings.{GivesLinkBack, GivesBack, OpensBrick, RefusesLink, RefusesBrick, HoldsBrick}
use Rattle.brick.specs.Serves.{IsLeft, RefusesStore}
use Rattle.brick.specs.Views.{Views}
use Rattle.brick.proofs.Knowing.{knows_disk, knows_link, knows_clock, knows_equal, knows_same}
use Rattle.brick.proofs.Lending.{told_more, told_then, where_after, has_as}
use Rattle.brick.proofs.MayHosting.{disk_lends, link_lends}
use Rattle.brick.proofs.Returning.{borrowed, left_as, brick_known, refused_told}

-- ---- what was done

module _ {S D L N C : Type 0} (v : Views D L C) (layout : Layout) (me : BrickId) (name : List ℕ) (next : Deed S D L N C) (before now after : HostSeen S D L N C)
    (bricks : List (Hosted D L)) (out : Option (List ℕ)) where
  abbrev port : ℕ
  port = port_of (ports_of layout) me

  over_refused : (disk back : D) (began : HostSeen S D L N C) (ending : Ending)
      → (RefusesStore v layout me disk back ending × (now ≡ began)) ⊎ RefusesLink v layout me disk back began now ending
      → HostsOver v layout me next disk back began now bricks bricks out out ending
  over_refused disk back began ending r =
      elim r [
        | inl store ↦ inl (store.0, store.1, refl, refl)
        | inr link ↦ inr (record {
          node = link.node;
          node_after = link.node;
          started = link.started;
          hosts = inl (link.refused, refl, refl, refl);
          left = left_as v layout me link.node back (ending ≡ ends.Disk → link.node.brick.halted ≡ false) link.left;
        })
      ]

  -- the disk, its store or the link was refused
  pub refused_hosts : (equipment : Equipment D L C) (ending : Ending) → RefusesBrick v layout me name before now ending equipment
      → GivesBack name port equipment now after → HostsByDisk v layout me name next before after bricks bricks out out ending
  refused_hosts opened.Nothing ending r back =
      inl (subst (λ (h : HostSeen S D L N C). IsRefused before h (calls.Disk name false) ending) (sym back) r, refl, refl)
  refused_hosts (opened.Disk disk) ending r back =
      inr (
        r.disk,
        disk,
        borrowed before r.between now after (calls.Disk name false) (λ h. h.disks name) (λ h. with_disk h name) r.disk disk
            (λ began ended. HostsOver v layout me next r.disk disk began ended bricks bricks out out ending) r.lends
            (over_refused r.disk disk r.between ending r.refused) back,
      )
  refused_hosts (opened.Linked disk link) ending r back = absurd r
  refused_hosts (opened.Timed disk link clock) ending r back = absurd r

  -- the brick stood behind the others for what was done next, and was given back as it was then
  pub next_hosts : (node node_after : Running D) (link link_after : L) (brick brick_after : Hosted D L) (bricks_after : List (Hosted D L))
      (ended : HostSeen S D L N C) (back : D) (said : Option (List ℕ)) (ending : Ending) → OpensBrick v layout me name before now node link
      → Begins brick node link → brick_after.node ≡ node_after → brick_after.link ≡ link_after
      → next (bricks ++ (brick ∷ [])) (bricks_after ++ (brick_after ∷ [])) now ended
      → IsLeft v layout me node_after back (ending ≡ ends.Disk → node_after.brick.halted ≡ false)
      → GivesBack name port (opened.Linked back link_after) ended after
      → HostsByDisk v layout me name next before after bricks bricks_after out said ending
  next_hosts node node_after link link_after brick brick_after bricks_after ended back said ending opens begins nodes links does left given =
      inr (
        opens.disk,
        back,
        borrowed before opens.between given.0 after (calls.Disk name false) (λ h. h.disks name) (λ h. with_disk h name) opens.disk back
            (λ began ended. HostsOver v layout me next opens.disk back began ended bricks bricks_after out said ending) opens.lends (inr (record {
              node = node;
              node_after = node_after;
              started = opens.started;
              hosts = inr (
                link,
                link_after,
                borrowed opens.between now ended given.0 (calls.Link port) (λ h. h.links port) (λ h. with_link h port) link link_after
                    (λ began ended. (one one_after : Hosted D L) × Begins one node link × (one_after.node ≡ node_after)
                    × (one_after.link ≡ link_after) × next (bricks ++ (one ∷ [])) (bricks_after ++ (one_after ∷ [])) began ended)
                    opens.links (brick, brick_after, begins, nodes, links, does) given.1,
              );
              left = left;
            })) given.2,
      )

-- ---- what the host knows still

knows_next : {S D L N C : Type 0} (a b c : Option (Holdings S D L N C)) → Told a b KnowsStill → Told b c KnowsStill → Told a c KnowsStill
knows_next a b c first then =
    told_then {P = KnowsStill} {Q = KnowsStill} {R = KnowsStill} a b c first then (λ h mid now p q. record {
      sources = λ name k. q.sources name (p.sources name k);
      disks = λ name k. q.disks name (p.disks name k);
      links = λ port k. q.links port (p.links port k);
      sessions = λ port k. q.sessions port (p.sessions port k);
      clock = λ k. q.clock (p.clock k);
    })

module _ {S D L N C T : Type 0} (with : Holdings S D L N C → Held T → Holdings S D L N C)
    (knows : (h : Holdings S D L N C) (now : Held T) → IsKnown now → KnowsStill h (with h now)) where
  -- after a thing was lent
  lent_knows : (P : Holdings S D L N C → Type 0) (before after : Option (Holdings S D L N C)) → Told before after (λ h now. P h × (now ≡ with h lent))
      → Told before after KnowsStill
  lent_knows P before after lends =
      told_more {P = λ (h now : Holdings S D L N C). P h × (now ≡ with h lent)} {Q = KnowsStill} before after lends
      (λ h now p. subst (λ (z : Holdings S D L N C). KnowsStill h z) (sym p.1) (knows h lent tt))

  -- after it was given back
  returned_knows : (before after : HostSeen S D L N C) (back : T) → IsReturned before after with back → Told before.holds after.holds KnowsStill
  returned_knows before after back given =
      told_more {P = λ (h now : Holdings S D L N C). now ≡ with h (here back)} {Q = KnowsStill} before.holds after.holds given.regains
      (λ h now is. subst (λ (z : Holdings S D L N C). KnowsStill h z) (sym is) (knows h (here back) tt))

-- after the link and the disk were given back
link_given_knows : {S D L N C : Type 0} (name : List ℕ) (port : ℕ) (disk : D) (link : L) (before after : HostSeen S D L N C)
    → GivesLinkBack name port disk link before after → Told before.holds after.holds KnowsStill
link_given_knows name port disk link before after given =
    knows_next before.holds given.0.holds after.holds (returned_knows (λ h. with_link h port) (knows_link port) before given.0 link given.1)
    (returned_knows (λ h. with_disk h name) (knows_disk name) given.0 after disk given.2)

-- after all was given back
given_knows : {S D L N C : Type 0} (name : List ℕ) (port : ℕ) (equipment : Equipment D L C) (before after : HostSeen S D L N C)
    → GivesBack name port equipment before after → Told before.holds after.holds KnowsStill
given_knows {S} {D} {L} {N} {C} name _ opened.Nothing before after given =
    subst (λ (h : HostSeen S D L N C). Told before.holds h.holds KnowsStill) (sym given) (knows_same before.holds)
given_knows name port (opened.Disk disk) before after given = returned_knows (λ h. with_disk h name) (knows_disk name) before after disk given
given_knows name port (opened.Linked disk link) before after given = link_given_knows name port disk link before after given
given_knows name port (opened.Timed disk link clock) before after given =
    knows_next before.holds given.0.holds after.holds (returned_knows with_clock knows_clock before given.0 clock given.1)
    (link_given_knows name port disk link given.0 after given.2)

module _ {S D L N C : Type 0} (v : Views D L C) (layout : Layout) (me : BrickId) (name : List ℕ) (before now : HostSeen S D L N C) where
  -- after a brick was opened
  opened_knows : (node : Running D) (link : L) → OpensBrick v layout me name before now node link → Told before.holds now.holds KnowsStill
  opened_knows node link opens =
      knows_next before.holds opens.between.holds now.holds
      (lent_knows (λ h. with_disk h name) (knows_disk name) (λ h. h.disks name ≡ here opens.disk) before.holds opens.between.holds opens.lends.told)
      (lent_knows (λ h. with_link h (port_of (ports_of layout) me)) (knows_link (port_of (ports_of layout) me))
      (λ h. h.links (port_of (ports_of layout) me) ≡ here link) opens.between.holds now.holds opens.links.told)

  -- after it was refused
  refused_knows : (equipment : Equipment D L C) (ending : Ending) → RefusesBrick v layout me name before now ending equipment
      → Told before.holds now.holds KnowsStill
  refused_knows opened.Nothing ending r = knows_equal before.holds now.holds (refused_told before now (calls.Disk name false) ending r)
  refused_knows (opened.Disk disk) ending r =
      let first = lent_knows (λ h. with_disk h name) (knows_disk name) (λ h. h.disks name ≡ here r.disk) before.holds r.between.holds r.lends.told in
      elim r.refused [
        | inl store ↦ subst (λ (h : HostSeen S D L N C). Told before.holds h.holds KnowsStill) (sym store.1) first
        | inr link ↦ knows_next before.holds r.between.holds now.holds first
            (knows_equal r.between.holds now.holds (refused_told r.between now (calls.Link (port_of (ports_of layout) me)) ending link.refused))
      ]
  refused_knows (opened.Linked disk link) ending r = absurd r
  refused_knows (opened.Timed disk link clock) ending r = absurd r

  -- and given back
  pub refused_known_still : (equipment : Equipment D L C) (ending : Ending) (after : HostSeen S D L N C) → RefusesBrick v layout me name before now ending equipment
      → GivesBack name (port_of (ports_of layout) me) equipment now after → Told before.holds after.holds KnowsStill
  refused_known_still equipment ending after r given =
      knows_next before.holds now.holds after.holds (refused_knows equipment ending r)
      (given_knows name (port_of (ports_of layout) me) equipment now after given)

  -- what was opened is known still, once the rest was done
  pub brick_known_still : (node : Running D) (link : L) (ended : Option (Holdings S D L N C)) → OpensBrick v layout me name before now node link
      → Told now.holds ended KnowsStill → WhereTold ended (λ h. IsKnown (h.disks name) × IsKnown (h.links (port_of (ports_of layout) me)))
  brick_known_still node link ended opens still =
      where_after {P = KnowsStill} {Q = λ h. IsKnown (h.disks name) × IsKnown (h.links (port_of (ports_of layout) me))}
      {R = λ h. IsKnown (h.disks name) × IsKnown (h.links (port_of (ports_of layout) me))} now.holds ended still
      (brick_known v layout me name before now node link opens)
      (λ h now k known. (k.disks name known.0, k.links (port_of (ports_of layout) me) known.1))

  -- and all that was known before is known after it was given back
  pub next_known_still : (node : Running D) (link : L) (back : D) (link_after : L) (ended after : HostSeen S D L N C)
      → OpensBrick v layout me name before now node link → Told now.holds ended.holds KnowsStill
      → GivesBack name (port_of (ports_of layout) me) (opened.Linked back link_after) ended after → Told before.holds after.holds KnowsStill
  next_known_still node link back link_after ended after opens still given =
      knows_next before.holds now.holds after.holds (opened_knows node link opens)
      (knows_next now.holds ended.holds after.holds still
      (given_knows name (port_of (ports_of layout) me) (opened.Linked back link_after) ended after given))

-- ---- what is held

module _ {S D L N C : Type 0} (tells : Type 0) (seen : D → List ℕ) (layout : Layout) (prefix : List ℕ) (task : Task) (id : ℕ) where
  -- the first of these bricks is there to be opened
  pub brick_holds : (held : Option (Holdings S D L N C)) → id < layout.bricks → Has held (HasBricks tells seen layout prefix task id)
      → Has held (HoldsBrick tells seen layout (record { 0 = id }) (disk_name prefix (record { 0 = id })))
  brick_holds held within has =
      has_as {P = HasBricks tells seen layout prefix task id} {Q = HoldsBrick tells seen layout (record { 0 = id }) (disk_name prefix (record { 0 = id }))} held has
      (λ h p. let brick = p.each id (omega arith) within in record { disk = brick.disk; held = brick.held; starts = brick.starts; link = brick.link })

  -- and once it was opened, those behind it
  pub next_there : (v : Views D L C) (before now : HostSeen S D L N C) (node : Running D) (link : L) → id < layout.bricks → layout.bricks ≤ 64
      → 0 < port_of (ports_of layout) (record { 0 = id })
      → OpensBrick v layout (record { 0 = id }) (disk_name prefix (record { 0 = id })) before now node link
      → Has before.holds (HasBricks tells seen layout prefix task id) → Has now.holds (HasBricks tells seen layout prefix task (id + 1))
  next_there v before now node link within few some opens has =
      link_lends tells seen layout prefix task (record { 0 = id }) link opens.between.holds now.holds some opens.links.told
      (disk_lends tells seen layout prefix task id opens.disk before.holds opens.between.holds within few opens.lends.told has).1
