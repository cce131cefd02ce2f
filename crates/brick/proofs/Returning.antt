-- What was opened for a brick and given back is a loan in a loan, and is known to the host until then.
use Rattle.std.proofs.Common.{◌≡◌, ◌≢◌, ℕ, false, List, Option, Some, None, ◌⊎◌, inl, inr, refl, sym, subst}
use Rattle.std.specs.Prelude.{⊤}
use Rattle.fab_base.specs.declared.identities.BrickId.{BrickId}
use Rattle.fab_base.specs.Layouts.{Layout}
use Rattle.fab_host.specs.declared.hosts.Asked.{Asked}
use Rattle.fab_host.specs.declared.hosts.Asked.TheVariants as calls
use Rattle.fab_host.specs.Held.{Held, lent, here, IsKnown, IsMissing}
use Rattle.fab_host.specs.Holdings.{Holdings, with_disk, with_link, with_clock}
use Rattle.fab_host.specs.Opening.{WhereTold}
use Rattle.fab_host.proofs.Known.{at_name-own, at_port-own}
use Rattle.node.specs.Running.{Running}
use Rattle.serving.specs.Ports.{ports_of, port_of}
use Rattle.brick.specs.declared.endings.Ending.{Ending}
use Rattle.brick.specs.declared.endings.Ending.TheVariants.{Formatted, Ended, Commanded, Served, Usage, BadLayout, LongLayout, Source, Sink, Memory, Disk, Host, NotAStore, Worn}
use Rattle.brick.specs.declared.openings.Equipment.{Equipment}
use Rattle.brick.specs.declared.openings.Equipment.TheVariants as opened
use Rattle.brick.specs.Hosts.{HostSeen, Told, Has, Borrows, IsLent, IsReturned, IsRefused}
use Rattle.brick.specs.Openings.{KnowsEquipment, GivesBack, OpensBrick, RefusesLink, RefusesBrick, HoldsBrick}
use Rattle.brick.specs.Serves.{IsLeft, RefusesStore, ServesTurns, ServesByClock, ServesOver, ServesByDisk, MayStart, HasClock, HasDisk}
use Rattle.brick.specs.Views.{Views}
use Rattle.brick.proofs.Completing.{here_same, lent_starts, link_clock}
use Rattle.brick.proofs.Lending.{where_lent, where_after, has_as}

-- a thing that was lent and given back was borrowed meanwhile
pub borrowed : {S D L N C T : Type 0} (before began ended after : HostSeen S D L N C) (call : Asked) (at : Holdings S D L N C → Held T)
    (with : Holdings S D L N C → Held T → Holdings S D L N C) (thing back : T) (meanwhile : HostSeen S D L N C → HostSeen S D L N C → Type 0)
    → IsLent before began call at with thing → meanwhile began ended → IsReturned ended after with back
    → Borrows before after call at with thing back meanwhile
borrowed before began ended after call at with thing back meanwhile lends does returns = record {
  began = began;
  ended = ended;
  lends = lends;
  does = does;
  asked = returns.asked;
  faults = returns.faults;
  regains = returns.regains;
}

-- a disk that is whole is so in weaker words
pub left_as : {D L C : Type 0} (v : Views D L C) (layout : Layout) (me : BrickId) (node : Running D) (back : D) (whole : Type 0) → IsLeft v layout me node back ⊤
    → IsLeft v layout me node back whole
left_as v layout me node back whole left =
    record { disk = left.disk; shows = λ tells still. left.shows tells tt; durable = λ tells still. left.durable tells tt }

-- ---- `brick serve`

module _ {S D L N C : Type 0} (v : Views D L C) (layout : Layout) (me : BrickId) (name : List ℕ) (turns : ℕ) (before now after : HostSeen S D L N C)
    (out : Option (List ℕ)) where
  abbrev port : ℕ
  port = port_of (ports_of layout) me

  -- what is done over a disk
  abbrev Over : D → D → Option (List ℕ) → Ending → HostSeen S D L N C → HostSeen S D L N C → Type 0
  Over disk back said ending began ended = ServesOver v layout me turns disk back began ended out said ending

  over_refused : (disk back : D) (began : HostSeen S D L N C) (ending : Ending)
      → (RefusesStore v layout me disk back ending × (now ≡ began)) ⊎ RefusesLink v layout me disk back began now ending → Over disk back out ending began now
  over_refused disk back began ending r =
      elim r [
        | inl store ↦ inl (store.0, store.1, refl)
        | inr link ↦ inr (record {
          node = link.node;
          node_after = link.node;
          started = link.started;
          serves = inl (link.refused, refl, refl);
          left = left_as v layout me link.node back (ending ≢ Disk) link.left;
        })
      ]

  -- the disk, its store or the link was refused
  pub refused_serves : (equipment : Equipment D L C) (ending : Ending) → RefusesBrick v layout me name before now ending equipment
      → GivesBack name port equipment now after → ServesByDisk v layout me turns before after name out out ending
  refused_serves opened.Nothing ending r back =
      inl (subst (λ (h : HostSeen S D L N C). IsRefused before h (calls.Disk name false) ending) (sym back) r, refl)
  refused_serves (opened.Disk disk) ending r back =
      inr (
        r.disk,
        disk,
        borrowed before r.between now after (calls.Disk name false) (λ h. h.disks name) (λ h. with_disk h name) r.disk disk
            (Over r.disk disk out ending) r.lends (over_refused r.disk disk r.between ending r.refused) back,
      )
  refused_serves (opened.Linked disk link) ending r back = absurd r
  refused_serves (opened.Timed disk link clock) ending r back = absurd r

  module _ (mid : HostSeen S D L N C) (node node_after : Running D) (link link_after : L) (said : Option (List ℕ)) (ending : Ending) (back : D)
      (opens : OpensBrick v layout me name before mid node link) (left : IsLeft v layout me node_after back (ending ≢ Disk)) where
    -- the clock was asked for, and then the link and the disk were given back
    linked : (ended : HostSeen S D L N C) → ServesByClock v turns mid ended node node_after link link_after out said ending
        → GivesBack name port (opened.Linked back link_after) ended after → ServesByDisk v layout me turns before after name out said ending
    linked ended serves given =
        inr (
          opens.disk,
          back,
          borrowed before opens.between given.0 after (calls.Disk name false) (λ h. h.disks name) (λ h. with_disk h name) opens.disk back
              (Over opens.disk back said ending) opens.lends (inr (record {
                node = node;
                node_after = node_after;
                started = opens.started;
                serves = inr (
                  link,
                  link_after,
                  borrowed opens.between mid ended given.0 (calls.Link port) (λ h. h.links port) (λ h. with_link h port) link link_after
                      (λ began ended. ServesByClock v turns began ended node node_after link link_after out said ending) opens.links serves given.1,
                );
                left = left;
              })) given.2,
        )

    -- turns were served by the clock, and then it was given back too
    pub turns_serve : (clock clock_after : C) → IsLent mid now calls.Clock (λ h. h.clock) with_clock clock
        → ServesTurns v turns node node_after link link_after clock clock_after out said ending
        → GivesBack name port (opened.Timed back link_after clock_after) now after → ServesByDisk v layout me turns before after name out said ending
    turns_serve clock clock_after lends serves given =
        linked given.0 (inr (
          clock,
          clock_after,
          borrowed mid now now given.0 calls.Clock (λ h. h.clock) with_clock clock clock_after
              (λ began ended. (ended ≡ began) × ServesTurns v turns node node_after link link_after clock clock_after out said ending) lends (refl, serves) given.1,
        ))
        given.2

  -- the clock was refused
  pub unclocked_serves : (mid : HostSeen S D L N C) (node : Running D) (link : L) (ending : Ending) (back : D)
      → OpensBrick v layout me name before mid node link → IsLeft v layout me node back ⊤ → IsRefused mid now calls.Clock ending
      → GivesBack name port (opened.Linked back link) now after → ServesByDisk v layout me turns before after name out out ending
  unclocked_serves mid node link ending back opens left refused given =
      linked mid node node link link out ending back opens (left_as v layout me node back (ending ≢ Disk) left) now (inl (refused, refl, refl, refl)) given

-- ---- what the host knows

-- of nothing there is nothing to know
where_top : {H : Type 0} (held : Option H) → WhereTold held (λ h. ⊤)
where_top None = tt
where_top (Some h) = tt

-- a call that opened nothing left what is held
pub refused_told : {S D L N C : Type 0} (before after : HostSeen S D L N C) (call : Asked) (ending : Ending) → IsRefused before after call ending
    → Told before.holds after.holds (λ h now. now ≡ h)
refused_told before after call (Formatted me) r = absurd r
refused_told before after call (Ended turns malformed) r = absurd r
refused_told before after call Commanded r = absurd r
refused_told before after call (Served end) r = absurd r
refused_told before after call Usage r = absurd r
refused_told before after call (BadLayout fault) r = absurd r
refused_told before after call LongLayout r = absurd r
refused_told before after call Source r = absurd r
refused_told before after call Sink r = absurd r
refused_told before after call Memory r = r.1
refused_told before after call Disk r = absurd r
refused_told before after call Host r = r.0.told
refused_told before after call NotAStore r = absurd r
refused_told before after call Worn r = absurd r

pub where_refused : {S D L N C : Type 0} (P : Holdings S D L N C → Type 0) (before after : HostSeen S D L N C) (call : Asked) (ending : Ending)
    → IsRefused before after call ending → WhereTold before.holds P → WhereTold after.holds P
where_refused {S} {D} {L} {N} {C} P before after call ending r known =
    where_after {P = λ (h now : Holdings S D L N C). now ≡ h} {Q = P} {R = P} before.holds after.holds (refused_told before after call ending r) known
    (λ h now is p. subst P (sym is) p)

module _ {S D L N C : Type 0} (name : List ℕ) (port : ℕ) (before after : HostSeen S D L N C) where
  -- a disk that was lent is known
  disk_known : (disk : D) → IsLent before after (calls.Disk name false) (λ h. h.disks name) (λ h. with_disk h name) disk
      → WhereTold after.holds (λ h. IsKnown (h.disks name))
  disk_known disk lends =
      where_lent {P = λ (h now : Holdings S D L N C). (h.disks name ≡ here disk) × (now ≡ with_disk h name lent)} {R = λ h. IsKnown (h.disks name)}
      before.holds after.holds lends.told
      (λ h now p. subst (λ (z : Holdings S D L N C). IsKnown (z.disks name)) (sym p.1) (subst IsKnown (sym (at_name-own h.disks name lent)) tt))

  -- and then a link
  link_known : (link : L) → WhereTold before.holds (λ h. IsKnown (h.disks name))
      → IsLent before after (calls.Link port) (λ h. h.links port) (λ h. with_link h port) link
      → WhereTold after.holds (λ h. IsKnown (h.disks name) × IsKnown (h.links port))
  link_known link known lends =
      where_after {P = λ (h now : Holdings S D L N C). (h.links port ≡ here link) × (now ≡ with_link h port lent)} {Q = λ h. IsKnown (h.disks name)}
      {R = λ h. IsKnown (h.disks name) × IsKnown (h.links port)} before.holds after.holds lends.told known
      (λ h now p k. subst (λ (z : Holdings S D L N C). IsKnown (z.disks name) × IsKnown (z.links port)) (sym p.1)
      (k, subst IsKnown (sym (at_port-own h.links port lent)) tt))

  -- and then the clock
  pub clock_known : (clock : C) → WhereTold before.holds (λ h. IsKnown (h.disks name) × IsKnown (h.links port))
      → IsLent before after calls.Clock (λ h. h.clock) with_clock clock
      → WhereTold after.holds (λ h. IsKnown (h.disks name) × IsKnown (h.links port) × IsKnown h.clock)
  clock_known clock known lends =
      where_after {P = λ (h now : Holdings S D L N C). (h.clock ≡ here clock) × (now ≡ with_clock h lent)}
      {Q = λ h. IsKnown (h.disks name) × IsKnown (h.links port)} {R = λ h. IsKnown (h.disks name) × IsKnown (h.links port) × IsKnown h.clock}
      before.holds after.holds lends.told known
      (λ h now p k. subst (λ (z : Holdings S D L N C). IsKnown (z.disks name) × IsKnown (z.links port) × IsKnown z.clock) (sym p.1) (k.0, k.1, tt))

module _ {S D L N C : Type 0} (v : Views D L C) (layout : Layout) (me : BrickId) (name : List ℕ) (before after : HostSeen S D L N C) where
  -- a brick that was opened
  pub brick_known : (node : Running D) (link : L) → OpensBrick v layout me name before after node link
      → WhereTold after.holds (λ h. IsKnown (h.disks name) × IsKnown (h.links (port_of (ports_of layout) me)))
  brick_known node link opens =
      link_known name (port_of (ports_of layout) me) opens.between after link
      (disk_known name 0 before opens.between opens.disk opens.lends) opens.links

  -- one that was not
  pub refused_known : (equipment : Equipment D L C) (ending : Ending) → RefusesBrick v layout me name before after ending equipment
      → WhereTold after.holds (KnowsEquipment name (port_of (ports_of layout) me) equipment)
  refused_known opened.Nothing ending r = where_top after.holds
  refused_known (opened.Disk disk) ending r =
      let known = disk_known name 0 before r.between r.disk r.lends in
      elim r.refused [
        | inl store ↦ subst (λ (h : HostSeen S D L N C). WhereTold h.holds (λ h. IsKnown (h.disks name))) (sym store.1) known
        | inr link ↦ where_refused (λ h. IsKnown (h.disks name)) r.between after (calls.Link (port_of (ports_of layout) me)) ending link.refused known
      ]
  refused_known (opened.Linked disk link) ending r = absurd r
  refused_known (opened.Timed disk link clock) ending r = absurd r

-- ---- what is held

-- the disk that was lent may be started, and the link is there
pub lent_starts_brick : {S D L N C : Type 0} (tells : Type 0) (seen : D → List ℕ) (layout : Layout) (me : BrickId) (before after : Option (Holdings S D L N C))
    (name : List ℕ) (thing : D) → Told before after (λ h now. (h.disks name ≡ here thing) × (now ≡ with_disk h name lent))
    → Has before (HoldsBrick tells seen layout me name)
    → MayStart tells seen layout me thing × Has after (λ h. IsMissing (h.links (port_of (ports_of layout) me)) → ⊥)
lent_starts_brick tells seen layout me None after name thing lends has = absurd has
lent_starts_brick tells seen layout me (Some h) None name thing lends has = absurd lends
lent_starts_brick tells seen layout me (Some h) (Some n) name thing (is, now) has = (
  subst (λ d. MayStart tells seen layout me d) (here_same (h.disks name) has.disk thing has.held is) has.starts,
  λ gone. has.link (subst (λ z. IsMissing (z.links (port_of (ports_of layout) me))) now gone),
)

-- what `serve` wants is there to be opened
pub disk_holds : {S D L N C : Type 0} (tells : Type 0) (seen : D → List ℕ) (layout : Layout) (me : BrickId) (name : List ℕ) (held : Option (Holdings S D L N C))
    → Has held (HasDisk tells seen layout me name) → Has held (HoldsBrick tells seen layout me name)
disk_holds tells seen layout me name held has =
    has_as {P = HasDisk tells seen layout me name} {Q = HoldsBrick tells seen layout me name} held has
    (λ h p. record { disk = p.disk; held = p.held; starts = p.starts; link = p.others.link })

-- and the clock is there still
pub clock_there : {S D L N C : Type 0} (v : Views D L C) (layout : Layout) (me : BrickId) (name : List ℕ) (before after : HostSeen S D L N C)
    (node : Running D) (link : L) (tells : Type 0) (seen : D → List ℕ) → OpensBrick v layout me name before after node link
    → Has before.holds (HasDisk tells seen layout me name) → Has after.holds HasClock
clock_there v layout me name before after node link tells seen opens has =
    link_clock opens.between.holds after.holds (port_of (ports_of layout) me) link opens.links.told
    (lent_starts tells seen layout me before.holds opens.between.holds name opens.disk opens.lends.told has).1
