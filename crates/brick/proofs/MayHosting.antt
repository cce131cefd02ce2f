-- Over a host that holds what `brick local` or `brick nbd` wants, each thing is there to be lent, and the work is done.
use Rattle.std.proofs.Common.{◌≡◌, ◌⊎◌, ℕ, ◌+◌, ◌<◌, ◌≤◌, ◌^◌, arith, List, ◌++◌, codes, Option, Some, None, IfSome, Result, Ok, Err, IsOk, inl, inr, refl, sym, ap, ◌∙◌, subst}
use Rattle.std.proofs.lemmas.Bool.{cases_Bool}
use Rattle.std.proofs.lemmas.Fmt.{decimal_injective}
use Rattle.std.proofs.lemmas.List.{append_cancel_left}
use Rattle.std.proofs.lemmas.Slice.Eq.{bytes_eq-Decides}
use Rattle.std.specs.Fmt.{decimal}
use Rattle.std.specs.Str.{bytes_eq}
use Rattle.fab_base.specs.declared.identities.BrickId.{BrickId}
use Rattle.fab_base.specs.Layouts.{Layout}
use Rattle.fab_host.specs.Held.{lent, here, IsMissing}
use Rattle.fab_host.specs.Holdings.{Holdings, with_disk, with_link, with_clock}
use Rattle.fab_host.proofs.Known.{at_name-other, at_port-other}
use Rattle.fab_io.specs.Ends.{Rose}
use Rattle.hosting.specs.declared.faults.HostFault.{HostFault}
use Rattle.hosting.specs.declared.faults.HostFault.TheVariants as faults
use Rattle.hosting.specs.Hosted.{Hosted}
use Rattle.serving.specs.Ports.{ports_of, port_of}
use Rattle.brick_words.specs.declared.words.Task.{Task}
use Rattle.brick_words.specs.declared.words.Task.TheVariants.{Commands, Session}
use Rattle.brick_words.specs.declared.words.Work.{Work}
use Rattle.brick_words.specs.declared.words.Work.TheVariants.{HostAll}
use Rattle.brick.specs.Bricks.{MayRun}
use Rattle.brick.specs.Endings.{status_of, IsDone}
use Rattle.brick.specs.Hosts.{HostSeen, Told, Has, ReturnsSource}
use Rattle.brick.specs.Layouts.{Says, ReadsSource}
use Rattle.brick.specs.Locals.{standard_input, disk_name, ending_by, AreRunning, RoseIn, RoseBy, HasCommands, HasTask, HasClient, HasEnds, HasBrick, HasBricks, HasRest}
use Rattle.brick.specs.Serves.{MayStart}
use Rattle.brick.specs.Views.{Views}
use Rattle.brick.proofs.Completing.{here_same, here_missing, layout_same}
use Rattle.brick.proofs.Lending.{has_after}

-- ---- faults of a run of commands

-- the sink is the cause of status 6 alone
pub six_is_sink : (fault : HostFault) → status_of (ending_by fault) ≡ 6 → fault ≡ faults.Sink
six_is_sink faults.Disk e = absurd (omega arith)
six_is_sink faults.Link e = absurd (omega arith)
six_is_sink faults.ClientLink e = absurd (omega arith)
six_is_sink faults.Clock e = absurd (omega arith)
six_is_sink faults.Source e = absurd (omega arith)
six_is_sink faults.Sink e = refl
six_is_sink faults.NoMemory e = absurd (omega arith)

-- what failed is counted
pub rose_by : {D L C : Type 0} (v : Views D L C) (fault : HostFault) (bricks after : List (Hosted D L)) (link link_after source source_after : ℕ)
    → (fault ≡ faults.Disk → AreRunning bricks → RoseIn v bricks after) → (fault ≡ faults.ClientLink → Rose link link_after)
    → (fault ≡ faults.Source → Rose source source_after) → RoseBy v fault bricks after link link_after source source_after
rose_by v faults.Disk bricks after a b c d at_disk at_link at_source = at_disk refl
rose_by v faults.Link bricks after a b c d at_disk at_link at_source = tt
rose_by v faults.ClientLink bricks after a b c d at_disk at_link at_source = at_link refl
rose_by v faults.Clock bricks after a b c d at_disk at_link at_source = tt
rose_by v faults.Source bricks after a b c d at_disk at_link at_source = at_source refl
rose_by v faults.Sink bricks after a b c d at_disk at_link at_source = tt
rose_by v faults.NoMemory bricks after a b c d at_disk at_link at_source = tt

-- where there is no other, no memory was left
fault_done : (fault : HostFault) → fault ≡ faults.NoMemory → IsDone (ending_by fault)
fault_done faults.Disk e = cc
fault_done faults.Link e = cc
fault_done faults.ClientLink e = cc
fault_done faults.Clock e = cc
fault_done faults.Source e = cc
fault_done faults.Sink e = cc
fault_done faults.NoMemory e = tt

pub run_done : {T : Type 0} (result : Result T HostFault) (fault : HostFault) → result ≡ Err fault → IsOk result ⊎ (result ≡ Err faults.NoMemory)
    → IsDone (ending_by fault)
run_done {T} result fault is end =
    elim end [ inl ok ↦ absurd (not_ok result fault is ok) | inr same ↦ fault_done fault (err_same result fault faults.NoMemory is same) ]
  where
    not_ok : {A B : Type 0} (r : Result A B) (b : B) → r ≡ Err b → IsOk r → ⊥
    not_ok r b is ok = cc

    err_same : {A B : Type 0} (r : Result A B) (a b : B) → r ≡ Err a → r ≡ Err b → a ≡ b
    err_same r a b is same = cc

-- ---- what is there

-- names of disks are those of different bricks
name_same : (prefix : List ℕ) (a b : ℕ) → a < 2 ^ 64 → b < 2 ^ 64 → disk_name prefix (record { 0 = a }) ≡ disk_name prefix (record { 0 = b }) → a ≡ b
name_same prefix a b small small_too same =
    decimal_injective a b small small_too
    (append_cancel_left (codes ".") (decimal a) (decimal b) (append_cancel_left prefix (codes "." ++ decimal a) (codes "." ++ decimal b) same))

-- a disk that is held is there to be lent, and so is a link
pub brick_there : {S D L N C : Type 0} (tells : Type 0) (seen : D → List ℕ) (layout : Layout) (prefix : List ℕ) (me : BrickId) (h : Holdings S D L N C)
    → HasBrick tells seen layout prefix me h → IsMissing (h.disks (disk_name prefix me)) → ⊥
brick_there tells seen layout prefix me h has gone = here_missing (h.disks (disk_name prefix me)) has.disk has.held gone

-- what a task is done with is there, where the same sources and sessions are held
task_same : {S D L N C : Type 0} (task : Task) (h now : Holdings S D L N C) → now.sources ≡ h.sources → now.sessions ≡ h.sessions → HasTask task h
    → HasTask task now
task_same (Commands turns) h now sources sessions has = λ gone. has (subst (λ s. IsMissing (s standard_input)) sources gone)
task_same (Session port turns) h now sources sessions has = λ gone. has (subst (λ s. IsMissing (s port)) sessions gone)

-- a brick whose disk another name has, and whose link another port, stays
module _ {S D L N C : Type 0} (tells : Type 0) (seen : D → List ℕ) (layout : Layout) (prefix : List ℕ) (task : Task) where
  -- the disk of the first of these bricks was lent: it may be started, and the rest is there
  pub disk_lends : (id : ℕ) (thing : D) (before began : Option (Holdings S D L N C)) → id < layout.bricks → layout.bricks ≤ 64
      → Told before began (λ h now. (h.disks (disk_name prefix (record { 0 = id })) ≡ here thing) × (now ≡ with_disk h (disk_name prefix (record { 0 = id })) lent))
      → Has before (HasBricks tells seen layout prefix task id)
      → MayStart tells seen layout (record { 0 = id }) thing × Has began (HasRest tells seen layout prefix task (record { 0 = id }))
  disk_lends id thing None began within few lends has = absurd has
  disk_lends id thing (Some h) None within few lends has = absurd lends
  disk_lends id thing (Some h) (Some n) within few lends has =
      let name = disk_name prefix (record { 0 = id }) in
      let first : HasBrick tells seen layout prefix (record { 0 = id }) h = has.each id (omega arith) within in (
        subst (λ (d : D). MayStart tells seen layout (record { 0 = id }) d) (here_same (h.disks name) first.disk thing first.held lends.0) first.starts,
        subst (HasRest tells seen layout prefix task (record { 0 = id })) (sym lends.1) (record {
          link = first.link;
          bricks = record {
            each = λ k more below. (let brick = has.each k (omega (arith, more)) below in record {
              disk = brick.disk;
              held = at_name-other h.disks name (disk_name prefix (record { 0 = k })) lent
                  (λ same. apart k more below (name_same prefix id k (omega (arith, within, few)) (omega (arith, below, few)) same)) ∙ brick.held;
              starts = brick.starts;
              link = brick.link;
            });
            ends = (has.ends.0, (has.ends.1.0, task_same task h (with_disk h name lent) refl refl has.ends.1.1));
          };
        }),
      )
    where
      apart : (k : ℕ) → id + 1 ≤ k → k < layout.bricks → id ≡ k → ⊥
      apart k more below same = omega (arith, more, same)

  -- its link was lent: the other bricks are there
  pub link_lends : (me : BrickId) (thing : L) (before began : Option (Holdings S D L N C)) → 0 < port_of (ports_of layout) me
      → Told before began (λ h now. (h.links (port_of (ports_of layout) me) ≡ here thing) × (now ≡ with_link h (port_of (ports_of layout) me) lent))
      → Has before (HasRest tells seen layout prefix task me) → Has began (HasBricks tells seen layout prefix task (me.0 + 1))
  link_lends me thing None began some lends has = absurd has
  link_lends me thing (Some h) None some lends has = absurd lends
  link_lends me thing (Some h) (Some n) some lends has =
      let port = port_of (ports_of layout) me in
      subst (HasBricks tells seen layout prefix task (me.0 + 1)) (sym lends.1) (record {
        each = λ k more below. (let brick = has.bricks.each k more below in record {
          disk = brick.disk;
          held = brick.held;
          starts = brick.starts;
          link = λ gone. brick.link (subst IsMissing (at_port-other h.links port (port_of (ports_of layout) (record { 0 = k })) lent (apart k more)) gone);
        });
        ends = (
          has.bricks.ends.0,
          (
            λ gone. has.bricks.ends.1.0 (subst IsMissing (at_port-other h.links port 0 lent (λ same. omega (arith, some, same))) gone),
            task_same task h (with_link h port lent) refl refl has.bricks.ends.1.1,
          ),
        );
      })
    where
      apart : (k : ℕ) → me.0 + 1 ≤ k → port_of (ports_of layout) me ≡ port_of (ports_of layout) (record { 0 = k }) → ⊥
      apart k more same = omega (arith, more, same)

  -- past the last brick
  pub ends_there : (id : ℕ) (held : Option (Holdings S D L N C)) → Has held (HasBricks tells seen layout prefix task id) → Has held (HasEnds task)
  ends_there id None has = has
  ends_there id (Some h) has = has.ends

-- the clock was lent: the client's link and what the task is done with are there; and that, once the link was lent
pub clock_lends : {S D L N C : Type 0} (task : Task) (thing : C) (before began : Option (Holdings S D L N C))
    → Told before began (λ h now. (h.clock ≡ here thing) × (now ≡ with_clock h lent)) → Has before (HasEnds task) → Has began (HasClient task)
clock_lends {S} {D} {L} {N} {C} task thing before began lends has =
    has_after {P = λ (h now : Holdings S D L N C). (h.clock ≡ here thing) × (now ≡ with_clock h lent)} {Q = HasEnds task} {R = HasClient task}
    before began lends has (λ h now p q. subst (HasClient task) (sym p.1) (q.1.0, task_same task h (with_clock h lent) refl refl q.1.1))

pub client_lends : {S D L N C : Type 0} (task : Task) (thing : L) (before began : Option (Holdings S D L N C))
    → Told before began (λ h now. (h.links 0 ≡ here thing) × (now ≡ with_link h 0 lent)) → Has before (HasClient task) → Has began (HasTask task)
client_lends {S} {D} {L} {N} {C} task thing before began lends has =
    has_after {P = λ (h now : Holdings S D L N C). (h.links 0 ≡ here thing) × (now ≡ with_link h 0 lent)} {Q = HasClient task} {R = HasTask task}
    before began lends has (λ h now p q. subst (HasTask task) (sym p.1) (task_same task h (with_link h 0 lent) refl refl q.1))

-- ---- once the layout was found

-- standard input is there, whichever source the layout was read from
commands_still : {S D L N C : Type 0} (h n : Holdings S D L N C) (source : List ℕ) (opened back : S) → ReturnsSource source opened back h n
    → HasCommands h → HasCommands n
commands_still h n source opened back r has =
    elim (cases_Bool (bytes_eq source standard_input)) [
      | inl hit ↦ λ gone. here_missing (n.sources source) back r.is
          (subst (λ (k : List ℕ). IsMissing (n.sources k)) (sym ((bytes_eq-Decides source standard_input).0 hit)) gone)
      | inr miss ↦ λ gone. has (subst IsMissing (r.others standard_input miss) gone)
    ]

-- and so is what the task is done with
task_still : {S D L N C : Type 0} (task : Task) (h n : Holdings S D L N C) (source : List ℕ) (opened back : S) → ReturnsSource source opened back h n
    → HasTask task h → HasTask task n
task_still (Commands turns) h n source opened back r has = commands_still h n source opened back r has
task_still (Session port turns) h n source opened back r has = λ gone. has (subst (λ s. IsMissing (s port)) r.sessions gone)

bricks_still : {S D L N C : Type 0} (tells : Type 0) (seen : D → List ℕ) (layout : Layout) (prefix : List ℕ) (task : Task) (h n : Holdings S D L N C) (source : List ℕ)
    (opened back : S) → ReturnsSource source opened back h n → HasBricks tells seen layout prefix task 0 h → HasBricks tells seen layout prefix task 0 n
bricks_still tells seen layout prefix task h n source opened back r has = record {
  each = λ k least below. (let brick = has.each k least below in record {
    disk = brick.disk;
    held = ap (λ d. d (disk_name prefix (record { 0 = k }))) r.disks ∙ brick.held;
    starts = brick.starts;
    link = λ gone. brick.link (subst (λ l. IsMissing (l (port_of (ports_of layout) (record { 0 = k })))) r.links gone);
  });
  ends = (
    λ gone. has.ends.0 (subst IsMissing r.clock gone),
    (λ gone. has.ends.1.0 (subst (λ l. IsMissing (l 0)) r.links gone), task_still task h n source opened back r has.ends.1.1),
  );
}

may_host : {S D L N C : Type 0} (told : S → Option (List ℕ)) (tells : Type 0) (seen : D → List ℕ) (holds now : Option (Holdings S D L N C))
    (source prefix : List ℕ) (task : Task) (found : Layout) (opened back : S) → Told holds now (ReturnsSource source opened back)
    → IfSome (told opened) (Says (Ok found)) → MayRun told tells seen holds (Some (record { layout = source; name = prefix; work = HostAll task }))
    → Has now (HasBricks tells seen found prefix task 0)
may_host told tells seen None now source prefix task found opened back r said m = absurd m
may_host told tells seen (Some h) None source prefix task found opened back r said m = absurd r
may_host told tells seen (Some h) (Some n) source prefix task found opened back r said m =
    let same : m.layout ≡ found = layout_same told h n source m.layout found opened back r m.holds said in
    bricks_still tells seen found prefix task h n source opened back r (subst (λ (l : Layout). HasBricks tells seen l prefix task 0 h) same m.bricks)

pub all_goes : {S D L N C : Type 0} (told : S → Option (List ℕ)) (tells : Type 0) (seen : D → List ℕ) (source_failed : S → ℕ)
    (before between : HostSeen S D L N C) (source prefix : List ℕ) (work : Work) (task : Task) (found : Layout) → work ≡ HostAll task
    → ReadsSource told source_failed before between source (Ok found)
    → MayRun told tells seen before.holds (Some (record { layout = source; name = prefix; work = work }))
    → Has between.holds (HasBricks tells seen found prefix task 0)
all_goes told tells seen source_failed before between source prefix work task found is reads m =
    may_host told tells seen before.holds between.holds source prefix task found reads.opened reads.back reads.asks.told reads.gives
    (subst (λ (w : Work). MayRun told tells seen before.holds (Some (record { layout = source; name = prefix; work = w }))) is m)
