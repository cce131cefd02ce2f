-- What is left of a brick whose disk was befallen, and what a start finds.
use Rattle.std.proofs.Common.{◌≡◌, ◌⊎◌, inl, inr, ⊎_elim, ℕ, ◌+◌, ◌-◌, ◌^◌, ◌<◌, ◌&&◌, Bool, true, false, List, Option, None, Result, Err, refl, sym, ap, ◌∙◌, subst, arith}
use Rattle.std.specs.Prelude.{nat_lt}
use Rattle.std.proofs.lemmas.Bool.Decides.{nat_tests}
use Rattle.fab_base.specs.declared.identities.BrickId.{BrickId}
use Rattle.fab_base.specs.Layouts.{Layout}
use Rattle.fab_disk.specs.Changing.{End, Whole, Cut, NotBegun, Stands, Change}
use Rattle.fab_disk.specs.Disk.{IsUntouched}
use Rattle.fab_disk.specs.MediumLaws.{fits_shown}
use Rattle.fab_disk.specs.PastLaws.{content_is_image, image_had}
use Rattle.fab_disk.specs.Plan.{IsWithin, IsRun, calls_made}
use Rattle.fab_disk.specs.MemDisk.{content_of, past_of_disk, may_be_left, certain_of, moment_of, was_left_since, is_unlisted, IsSound}
use Rattle.fab_disk.specs.MemDisk.{plan_of as plan_in}
use Rattle.fab_disk.specs.declared.disk.Plan.{Plan}
use Rattle.fab_disk.specs.declared.mem_disk.MemDisk.{MemDisk}
use Rattle.frame_store.specs.declared.shapes.Shape.{Shape}
use Rattle.frame_store.specs.declared.shapes.Form.{Form}
use Rattle.frame_store.specs.Layouts.{formed}
use Rattle.frame_store.specs.declared.shapes.Half.{Half}
use Rattle.frame_store.specs.declared.shapes.Half.TheVariants.{A, B}
use Rattle.frame_store.specs.Images.{InForce, IsNoStore, OpensAs}
use Rattle.frame_store.specs.Listed.{size_of}
use Rattle.frame_store.proofs.Openings.{opens_once, opens_in_one_form}
use Rattle.messages.specs.declared.packets.Packet.{Packet}
use Rattle.version_log.specs.Versions.{Version}
use Rattle.brick_state.specs.States.{StateOf}
use Rattle.brick_store.specs.Images.{IsFound, IsListed}
use Rattle.brick_store.specs.Calls.{Append, IsListedAfter}
use Rattle.brick_store.specs.Openings.{calls_on_opening, IsCounted, IsListedOnOpening, IsWornOut}
use Rattle.brick_store.proofs.Opened.{found_is}
use Rattle.coord_phase.specs.Messages.{packets_from}
use Rattle.replica.specs.Parts.{ListsStand}
use Rattle.node.specs.Calls.{packet_append, packet_calls}
use Rattle.node.specs.Ends.{StepChange, end_of}
use Rattle.node.specs.Openings.{OpensBrick}
use Rattle.node.specs.Outcomes.{Outcome}
use Rattle.node.specs.Running.{Running, state_of, shape_at, ImageShows, ShowsEither, IsSameBrick, reopened}
use Rattle.node.specs.States.{StepsAs}
use Rattle.node.specs.Faults.{halted_after}
use Rattle.node.specs.declared.faults.NodeFault.{NodeFault}
use Rattle.node.specs.declared.faults.NodeFault.TheVariants.{NoMemory}
use Rattle.node.proofs.Shown.{leaves_shown}
use Rattle.stripe_code.specs.Codes.{coding}
use Rattle.lines.specs.declared.forms.Fault.{Fault}
use Rattle.protocol.specs.Nodes as machine
use Rattle.protocol.specs.Worlds.{Found, Before, After}
use Rattle.world.specs.Disks.{ShowsDisk, IsUnwritten}
use Rattle.world.specs.Faults.{in_memory, plan_of, opened_more, ShowsOne, HoldsOne, LeftBy, Finds, found_of}
use Rattle.world.specs.Shown.{IsRunning, Rests, ShowsPower, TookWhole, TookPart, WasStarted, IsWorn, WasCutShort}
use Rattle.world.specs.declared.bricks.Power.TheVariants.{Up, Down}
use Rattle.world.proofs.BrickLemmas.{found_boot, stopped_shows, kept_still}

-- an image shows the same brick with as many openings, however they are counted
boot_same : (layout : Layout) (me : BrickId) (node : machine.Node) (a b : ℕ) (image : List ℕ) → a ≡ b → ImageShows layout me (record node { boot = a }) image
    → ImageShows layout me (record node { boot = b }) image
boot_same layout me node a b image same shows = subst (λ (k : ℕ). ImageShows layout me (record node { boot = k }) image) same shows

-- an image that shows just one state
shows_before : (layout : Layout) (me : BrickId) (before after : machine.Node) (image : List ℕ) → ImageShows layout me before image
    → ShowsOne layout me before after image
shows_before layout me before after image shows =
    record { openings = 0; either = inl (boot_same layout me before before.boot (before.boot + 0) image (omega arith) shows) }

shows_after : (layout : Layout) (me : BrickId) (before after : machine.Node) (image : List ℕ) → ImageShows layout me after image
    → ShowsOne layout me before after image
shows_after layout me before after image shows =
    record { openings = 0; either = inr (boot_same layout me after after.boot (after.boot + 0) image (omega arith) shows) }

-- a disk after which a crash leaves only what shows one of the two holds it
pub holds_by : (layout : Layout) (me : BrickId) (before after : machine.Node) (disk : MemDisk)
    → ((image : List ℕ) → may_be_left disk image → ShowsOne layout me before after image) → HoldsOne layout me before after disk
holds_by layout me before after disk durable = record {
  seen = durable (content_of disk) (content_is_image (past_of_disk disk) (content_of disk) (fits_shown disk.medium));
  durable = durable;
}

-- so does one that keeps one of them
pub holds_kept : (layout : Layout) (me : BrickId) (state after : machine.Node) (disk : MemDisk) → ShowsDisk layout me state disk
    → HoldsOne layout me state after disk
holds_kept layout me state after disk kept =
    holds_by layout me state after disk (λ image left. shows_before layout me state after image (leaves_shown in_memory layout me state disk kept image left))

-- and one of which a crash leaves no more than of another
pub holds_less : (layout : Layout) (me : BrickId) (before after : machine.Node) (disk left : MemDisk)
    → ((image : List ℕ) → may_be_left left image → may_be_left disk image) → HoldsOne layout me before after disk → HoldsOne layout me before after left
holds_less layout me before after disk left crash holds = holds_by layout me before after left (λ image is. holds.durable image (crash image is))

-- the disk of a brick that stops
kept_stopped : (layout : Layout) (me : BrickId) (state : machine.Node) (disk : MemDisk) → ShowsDisk layout me state disk
    → ShowsDisk layout me (machine.stopped state) disk
kept_stopped layout me state disk kept = record { only = kept.only; has = stopped_shows layout me state (content_of disk) kept.has }

pub rests_off : (layout : Layout) (me : BrickId) (state : machine.Node) (node : Running MemDisk) (disk : MemDisk) → IsRunning layout me state node
    → disk ≡ node.brick.disk → Rests layout me (machine.stopped state) (machine.stopped state) disk
rests_off layout me state node disk runs same =
    subst (λ (d : MemDisk). Rests layout me (machine.stopped state) (machine.stopped state) d) (sym same)
    (record {
      holds = holds_kept layout me (machine.stopped state) (machine.stopped state) node.brick.disk (kept_stopped layout me state node.brick.disk runs.kept);
      boots = refl;
      sound = runs.sound;
    })

-- what a disk opens as
pub finds_in : (layout : Layout) (me : BrickId) (before after : machine.Node) (disk : MemDisk) → ShowsOne layout me before after (content_of disk)
    → Finds layout me before after disk
finds_in layout me before after disk one = ⊎_elim
    (λ (is : ImageShows layout me (opened_more one.openings before) (content_of disk)). record { openings = one.openings; found = Before; shows = is })
    (λ (is : ImageShows layout me (opened_more one.openings after) (content_of disk)). record { openings = one.openings; found = After; shows = is })
    one.either

-- what was found, opened so many times, is one of the two
found_shows : (layout : Layout) (me : BrickId) (before after : machine.Node) (openings : ℕ) (found : Found) (image : List ℕ)
    → ImageShows layout me (opened_more openings (found_of before after found)) image → ShowsOne layout me before after image
found_shows layout me before after openings Before image shows = record { openings = openings; either = inl shows }
found_shows layout me before after openings After image shows = record { openings = openings; either = inr shows }

-- and so it is opened once more
either_shows : (layout : Layout) (me : BrickId) (before after : machine.Node) (openings : ℕ) (found : Found) (image : List ℕ)
    → (let node = opened_more openings (found_of before after found) in ShowsEither layout me node (reopened node) image) → ShowsOne layout me before after image
either_shows layout me before after openings found image either =
    let node : machine.Node = found_of before after found in
    ⊎_elim
    (λ (is : ImageShows layout me (opened_more openings node) image). found_shows layout me before after openings found image is)
    (λ (is : ImageShows layout me (reopened (opened_more openings node)) image).
    found_shows layout me before after (openings + 1) found image
    (boot_same layout me node ((node.boot + openings) + 1) (node.boot + (openings + 1)) image (omega arith) is))
    either

-- as often was it opened as the machine's brick
pub found_boots : (before after : machine.Node) (found : Found) → after.boot ≡ before.boot → (found_of before after found).boot ≡ before.boot
found_boots before after Before same = refl
found_boots before after After same = same

-- the disk with another plan
pub record IsArmed (plan : Plan) (disk armed : MemDisk) : Type 0 where
  pub content : content_of armed ≡ content_of disk
  pub crash : (image : List ℕ) → may_be_left armed image → may_be_left disk image
  pub planned : armed.plan ≡ plan
  pub listed : is_unlisted disk → is_unlisted armed

-- what setting a plan tells of a disk
pub armed_by : {plan asked : Plan} {disk armed : MemDisk} → content_of armed ≡ content_of disk
    → ((image : List ℕ) → may_be_left armed image → may_be_left disk image) → armed.plan ≡ asked → asked ≡ plan → (is_unlisted disk → is_unlisted armed)
    → IsArmed plan disk armed
armed_by content crash planned is listed = record { content = content; crash = crash; planned = planned ∙ is; listed = listed }

-- nothing was written on it, where a call did not touch it and its plan was taken back
pub unwritten_by : (plan : Plan) (disk armed left last : MemDisk) → IsArmed plan disk armed
    → IsUntouched content_of may_be_left moment_of was_left_since armed left → IsUnwritten left last → IsUnwritten disk last
unwritten_by plan disk armed left last arms untouched still = record {
  content = still.content ∙ untouched.content ∙ arms.content;
  crash = λ image is. arms.crash image (untouched.crash image (still.crash image is));
}

-- a store's opening reaches no call of a plan that did not befall it
both_true : (x y : Bool) → x ≡ true → y ≡ true → x && y ≡ true
both_true true y first second = second
both_true false y first second = absurd (let e : false ≡ true = first in cc)

second_false : (x y : Bool) → y ≡ false → x && y ≡ false
second_false true y second = second
second_false false y second = refl

may_open_once : (state : machine.Node) (openings boot : ℕ) → state.boot + openings ≡ boot → boot < 2 ^ 32 - 1 → machine.may_open (openings + 1) state ≡ true
may_open_once state openings boot is less =
    both_true (nat_lt 0 (openings + 1)) (nat_lt (state.boot + (openings + 1)) (2 ^ 32))
    (let e : nat_lt 0 (openings + 1) ≡ true = grind (arith, nat_tests) in e)
    (let e : nat_lt (state.boot + (openings + 1)) (2 ^ 32) ≡ true = grind (arith, nat_tests) in e)

may_open_never : (state : machine.Node) (openings boot : ℕ) → state.boot + openings ≡ boot → boot ≡ 2 ^ 32 - 1 → machine.may_open (openings + 1) state ≡ false
may_open_never state openings boot is most =
    second_false (nat_lt 0 (openings + 1)) (nat_lt (state.boot + (openings + 1)) (2 ^ 32))
    (let e : nat_lt (state.boot + (openings + 1)) (2 ^ 32) ≡ false = grind (arith, nat_tests) in e)

restarted_again : (node : machine.Node) (openings : ℕ) → machine.restarted 1 (opened_more openings node) ≡ machine.restarted (openings + 1) node
unfolding machine.restarted
restarted_again node openings =
    ap (λ (k : ℕ). record node { boot = k; seq = 0; known = 0; round = 0; busy = 0; calls = machine.no_calls; proposal = None; job = None; scrub = None }) (omega arith)

-- how long the list of a brick's disk is, by what its store says
listed_by : (layout : Layout) (me : BrickId) (node : Running MemDisk) (listed : ℕ) → node.layout ≡ layout → node.me ≡ me
    → node.brick.shape ≡ shape_at node.layout node.me → IsListed node.brick.shape node.brick.listed (content_of node.brick.disk)
    → node.brick.listed ≡ listed → IsListed (shape_at layout me) listed (content_of node.brick.disk)
listed_by layout me node listed layout_is me_is shape is long =
    subst (λ (n : ℕ). IsListed (shape_at layout me) n (content_of node.brick.disk)) long
    (subst (λ (s : Shape). IsListed s node.brick.listed (content_of node.brick.disk))
    (shape ∙ ap (λ (l : Layout). shape_at l node.me) layout_is ∙ ap (shape_at layout) me_is) is)

-- a brick that starts keeps as many live records
restarted_live : (openings : ℕ) (node : machine.Node) → (machine.restarted openings node).live ≡ node.live
unfolding machine.restarted
restarted_live openings node = refl

-- an image that is read by one half has an open header
never_none : (shape : Shape) (form : Form) (half : Half) (image : List ℕ) → InForce (formed form shape) half image → IsNoStore shape image → ⊥
never_none shape form A image force none = none.first form force.0
never_none shape form B image force none = none.second form force.0

-- A brick that is down is started over its disk, with a plan.
module _ (layout : Layout) (me : BrickId) (state after : machine.Node) (fault : Option Fault) (disk armed : MemDisk)
    (rests : Rests layout me state after disk) (arms : IsArmed (plan_of fault) disk armed) where
  abbrev pub found_there : Finds layout me state after disk
  found_there = finds_in layout me state after disk rests.holds.seen

  abbrev pub node_there : machine.Node
  node_there = opened_more found_there.openings (found_of state after found_there.found)

  pub shows_there : ImageShows layout me node_there (content_of armed)
  shows_there = subst (λ (image : List ℕ). ImageShows layout me node_there image) (sym arms.content) found_there.shows

  pub boots_there : (st : StateOf Version) → IsFound (shape_at layout me) st (content_of armed) → state.boot + found_there.openings ≡ st.boot
  boots_there st found =
      ap (λ (k : ℕ). k + found_there.openings) (sym (found_boots state after found_there.found rests.boots))
      ∙ found_boot layout me node_there st (content_of armed) found shows_there

  -- the store's shape, in the form that it has
  abbrev shape_there : Shape
  shape_there = formed found_there.shows.stands.form (shape_at layout me)

  opens_there : OpensAs shape_there found_there.shows.stands.frames true (content_of armed)
  opens_there =
      subst (λ (image : List ℕ). OpensAs shape_there found_there.shows.stands.frames true image) (sym arms.content)
      found_there.shows.stands.opens

  unlisted_there : is_unlisted armed
  unlisted_there = arms.listed rests.sound.unlisted

  -- it holds a store, and the lists that this keeps may keep their groups
  pub holds_store : (U : Type 0)
      → ((IsNoStore (shape_at layout me) (content_of armed) × U)
      ⊎ ((st : StateOf Version) × IsFound (shape_at layout me) st (content_of armed) × (ListsStand layout st → ⊥))) → ⊥
  holds_store U refused = ⊎_elim
      (λ (none : IsNoStore (shape_at layout me) (content_of armed) × U).
      never_none (shape_at layout me) found_there.shows.stands.form opens_there.half (content_of armed) opens_there.in_force none.0)
      (λ (other : (st : StateOf Version) × IsFound (shape_at layout me) st (content_of armed) × (ListsStand layout st → ⊥)).
      other.2 (subst (ListsStand layout) (sym (found_is (shape_at layout me) other.0 shows_there.st (content_of armed) other.1 shows_there.stands))
      shows_there.lists))
      refused

  -- its opening, over the frames that there are
  module _ (left : MemDisk) (end : End) (opens : OpensBrick in_memory layout me armed left end) where
    run_there : IsRun (Unit {0}) moment_of plan_in is_unlisted (calls_on_opening shape_there found_there.shows.stands.frames true)
        armed left (end ≡ Whole) (end ≡ Cut)
    run_there = opens.run tt found_there.shows.stands.form found_there.shows.stands.frames true opens_there

    -- no call of it was befallen
    pub unlisted_after : is_unlisted left
    unlisted_after = run_there.stays unlisted_there

  pub started : (node up : Running MemDisk) → node.layout ≡ layout → node.me ≡ me → node.brick.halted ≡ false
      → ((before : machine.Node) → ImageShows layout me before (content_of armed) → state_of node ≡ machine.restarted 1 before)
      → IsCounted (shape_at layout me) (content_of armed) node.brick.state → Stands in_memory (ImageShows layout me (state_of node)) node.brick.disk
      → OpensBrick in_memory layout me armed node.brick.disk Whole → IsSameBrick node up → state_of up ≡ state_of node → up.brick.halted ≡ node.brick.halted
      → IsUnwritten node.brick.disk up.brick.disk → (is_unlisted node.brick.disk → IsSound up.brick.disk)
      → IsListedOnOpening (shape_at layout me) (content_of armed) (state_of node).live node.brick.listed
      → up.brick.shape ≡ shape_at up.layout up.me → IsListed up.brick.shape up.brick.listed (content_of up.brick.disk)
      → up.brick.listed ≡ node.brick.listed → WasStarted layout me state after disk fault (Up up)
  started node up layout_is me_is runs state_is found stands opens same state_same halted still sound longer shape listed long =
      let next : machine.Node = machine.restarted (found_there.openings + 1) (found_of state after found_there.found) in
      let is : state_of node ≡ next =
      state_is node_there shows_there ∙ restarted_again (found_of state after found_there.found) found_there.openings
      in
      record {
        finds = found_there;
        may = may_open_once state found_there.openings found.before.boot (boots_there found.before found.found) found.not_worn;
        spared = λ reached.
            (opens.run tt reached.form reached.frames reached.closed
            (subst (λ (image : List ℕ). OpensAs (formed reached.form (shape_at layout me)) reached.frames reached.closed image) (sym arms.content)
            reached.opens)).spared refl
            (subst (λ (p : Plan). IsWithin (calls_on_opening (formed reached.form (shape_at layout me)) reached.frames reached.closed) p)
            (sym arms.planned) reached.within);
        on = record {
          layout_is = same.layout ∙ layout_is;
          me_is = same.me ∙ me_is;
          state_is = state_same ∙ is;
          kept = kept_still layout me next node.brick.disk up.brick.disk still
              (subst (λ (s : machine.Node). ShowsDisk layout me s node.brick.disk) is stands);
          runs = halted ∙ runs;
          sound = sound (unlisted_after node.brick.disk Whole opens);
        };
        lists = record {
          after = node.brick.listed;
          is_listed = listed_by layout me up node.brick.listed (same.layout ∙ layout_is) (same.me ∙ me_is) shape listed long;
          longer = subst (λ (image : List ℕ). IsListedOnOpening (shape_at layout me) image (found_of state after found_there.found).live node.brick.listed)
              arms.content
              (subst (λ (n : ℕ). IsListedOnOpening (shape_at layout me) (content_of armed) n node.brick.listed)
              (ap (λ (s : machine.Node). s.live) is ∙ restarted_live (found_there.openings + 1) (found_of state after found_there.found)) longer);
        };
      }

  -- its store can't be opened once more, or memory was refused
  rests_on : (left last : MemDisk) → OpensBrick in_memory layout me armed left NotBegun → ((image : List ℕ) → may_be_left last image → may_be_left left image)
      → (is_unlisted left → IsSound last) → Rests layout me state after last
  rests_on left last opens crash sound = record {
    holds = holds_less layout me state after disk last (λ image is. arms.crash image ((opens.not_begun refl).crash image (crash image is))) rests.holds;
    boots = rests.boots;
    sound = sound (unlisted_after left NotBegun opens);
  }

  pub rests_still : (left last : MemDisk) → OpensBrick in_memory layout me armed left NotBegun → IsUnwritten left last → (is_unlisted left → IsSound last)
      → ShowsPower layout me state after false (Down last) × (content_of last ≡ content_of disk)
  rests_still left last opens still sound = (
    (refl, rests_on left last opens still.crash sound),
    (unwritten_by (plan_of fault) disk armed left last arms (opens.not_begun refl) still).content,
  )

  pub worn : (left last : MemDisk) → OpensBrick in_memory layout me armed left NotBegun → IsWornOut (shape_at layout me) (content_of armed)
      → IsUnwritten left last → (is_unlisted left → IsSound last) → IsWorn layout me state after disk (Down last)
  worn left last opens found still sound = record {
    finds = found_there;
    still = unwritten_by (plan_of fault) disk armed left last arms (opens.not_begun refl) still;
    may = may_open_never state found_there.openings found.before.boot (boots_there found.before found.found) found.worn;
    off = (refl, rests_on left last opens still.crash sound);
  }

  -- a call of its disk was befallen
  pub cut_short : (left last : MemDisk) → OpensBrick in_memory layout me armed left Cut → certain_of armed ≡ certain_of disk → LeftBy fault left last
      → ((image : List ℕ) → may_be_left last image → may_be_left left image) → (IsSound left → IsSound last)
      → WasCutShort layout me state after disk fault (Down last)
  cut_short left last opens same befallen crash sound =
      let run = run_there left Cut opens in
      let stops = opens.cut refl tt unlisted_there found_there.shows.stands.form found_there.shows.stands.frames true opens_there node_there shows_there in
      let made : moment_of left ≡ moment_of armed + calls_made (plan_of fault) =
      run.stopped tt unlisted_there refl ∙ ap (λ (p : Plan). moment_of armed + calls_made p) arms.planned in
      let had : (image : List ℕ) → may_be_left left image → may_be_left disk image ⊎ ShowsEither layout me node_there (reopened node_there) image =
      λ image now. ⊎_elim
      (λ (allowed : may_be_left armed image). inl (arms.crash image allowed))
      (λ (either : ShowsEither layout me node_there (reopened node_there) image). inr either)
      ((opens.moments tt node_there shows_there).each image (image_had (past_of_disk left) (content_of left) (moment_of armed) image now))
      in
      let holds : HoldsOne layout me state after left =
      holds_by layout me state after left
      (λ image now. ⊎_elim
      (λ (allowed : may_be_left disk image). rests.holds.durable image allowed)
      (λ (either : ShowsEither layout me node_there (reopened node_there) image).
      either_shows layout me state after found_there.openings found_there.found image either)
      (had image now))
      in
      record {
        finds = found_there;
        may = may_open_once state found_there.openings node_there.boot
            (ap (λ (k : ℕ). k + found_there.openings) (sym (found_boots state after found_there.found rests.boots)))
            (opens.not_worn refl tt unlisted_there node_there shows_there);
        reached = record {
          form = found_there.shows.stands.form;
          frames = found_there.shows.stands.frames;
          closed = true;
          opens = found_there.shows.stands.opens;
          within = subst (λ (p : Plan). IsWithin (calls_on_opening shape_there found_there.shows.stands.frames true) p) arms.planned
              (run.named unlisted_there refl);
        };
        off = (
          refl,
          record {
            holds = holds_less layout me state after left last crash holds;
            boots = rests.boots;
            sound = sound (record { unplanned = run.used_up unlisted_there refl; unlisted = run.stays unlisted_there });
          },
        );
        left = record {
          was = left;
          holds = had;
          synced = ⊎_elim (λ before. inl (before ∙ same)) (λ now. inr now) stops.settled;
          reads = record {
            early = λ soon. stops.early (omega (arith, soon, made));
            late = λ late. stops.late (omega (arith, late, made));
          };
          left = befallen;
        };
      }

-- a stopped brick's store was opened as often
stopped_boots : (a b : machine.Node) → b.boot ≡ a.boot → (machine.stopped b).boot ≡ (machine.stopped a).boot
unfolding machine.stopped
stopped_boots a b same = same

-- the list of frames of an image is of one length
listed_once : (shape : Shape) (image : List ℕ) (n m : ℕ) → IsListed shape n image → IsListed shape m image → n ≡ m
listed_once shape image n m a b =
    let same : b.form ≡ a.form = opens_in_one_form shape b.form a.form image b.frames a.frames true true b.opens a.opens in
    let there : OpensAs (formed a.form shape) b.frames true image = subst (λ (f : Form). OpensAs (formed f shape) b.frames true image) same b.opens in
    sym a.bytes ∙ ap size_of (opens_once (formed a.form shape) image a.frames b.frames true true a.opens there).0 ∙ b.bytes

-- A brick that runs is handed a message, with a plan.
module _ (layout : Layout) (me : BrickId) (state : machine.Node) (time : ℕ) (packet : Packet) (fault : Option Fault) (node armed : Running MemDisk)
    (runs : IsRunning layout me state node) (same : IsSameBrick node armed) (state_same : state_of armed ≡ state_of node)
    (arms : IsArmed (plan_of fault) node.brick.disk armed.brick.disk) (shape : armed.brick.shape ≡ shape_at armed.layout armed.me)
    (listed : IsListed armed.brick.shape armed.brick.listed (content_of armed.brick.disk)) where
  -- what is so of the brick with its plan is so of it as the machine's
  as_there : (P : Layout → BrickId → machine.Node → Type 0) → P armed.layout armed.me (state_of armed) → P layout me state
  as_there P is =
      subst (λ (s : machine.Node). P layout me s) (state_same ∙ runs.state_is)
      (subst (λ (b : BrickId). P layout b (state_of armed)) (same.me ∙ runs.me_is)
      (subst (λ (l : Layout). P l armed.me (state_of armed)) (same.layout ∙ runs.layout_is) is))

  listed_there : IsListed (shape_at layout me) armed.brick.listed (content_of node.brick.disk)
  listed_there =
      subst (λ (image : List ℕ). IsListed (shape_at layout me) armed.brick.listed image) arms.content
      (subst (λ (s : Shape). IsListed s armed.brick.listed (content_of armed.brick.disk))
      (as_there (λ l b s. armed.brick.shape ≡ shape_at l b) shape) listed)

  calls_there : packet_calls armed.layout armed.me (state_of armed) packet armed.brick.listed ≡ packet_calls layout me state packet armed.brick.listed
  calls_there =
      as_there (λ l b s. packet_calls armed.layout armed.me (state_of armed) packet armed.brick.listed ≡ packet_calls l b s packet armed.brick.listed) refl

  unlisted_here : is_unlisted armed.brick.disk
  unlisted_here = arms.listed runs.sound.unlisted

  steps_there : machine.received (coding armed.layout) armed.me time (state_of armed) packet ≡ machine.received (coding layout) me time state packet
  steps_there =
      as_there (λ l b s. machine.received (coding armed.layout) armed.me time (state_of armed) packet ≡ machine.received (coding l) b time s packet) refl

  -- what its step makes of its disk
  abbrev pub Stepped : Running MemDisk → End → Type 0
  Stepped new end =
      StepChange in_memory (packet_append armed.layout armed.me (state_of armed) packet)
      (machine.absorbed (coding armed.layout) armed.me (state_of armed) packet) armed new end

  change_there : (new : Running MemDisk) (end : End) → Stepped new end
      → Change in_memory (packet_calls layout me state packet armed.brick.listed) (ImageShows layout me state)
      (ImageShows layout me (machine.absorbed (coding layout) me state packet)) armed.brick.disk new.brick.disk end
  change_there new end step =
      as_there
      (λ l b s. Change in_memory (packet_calls l b s packet armed.brick.listed) (ImageShows l b s) (ImageShows l b (machine.absorbed (coding l) b s packet))
      armed.brick.disk new.brick.disk end) step.change

  -- a brick that runs on
  on_there : (next : machine.Node) (new up : Running MemDisk) → IsSameBrick armed new → IsSameBrick new up → state_of new ≡ next → state_of up ≡ state_of new
      → ShowsDisk layout me next up.brick.disk → up.brick.halted ≡ false → IsSound up.brick.disk → IsRunning layout me next up
  on_there next new up stays_new stays_up is up_is kept halted sound = record {
    layout_is = stays_up.layout ∙ stays_new.layout ∙ same.layout ∙ runs.layout_is;
    me_is = stays_up.me ∙ stays_new.me ∙ same.me ∙ runs.me_is;
    state_is = up_is ∙ is;
    kept = kept;
    runs = halted;
    sound = sound;
  }

  pub took_whole : (new up : Running MemDisk) (outs : Outcome) → IsSameBrick armed new → IsSameBrick new up
      → StepsAs armed.me (state_of new) (machine.received (coding armed.layout) armed.me time (state_of armed) packet) outs
      → state_of up ≡ state_of new → IsUnwritten new.brick.disk up.brick.disk
      → (packet_calls armed.layout armed.me (state_of armed) packet armed.brick.listed ≡ 0 → IsUntouched content_of may_be_left moment_of was_left_since armed.brick.disk new.brick.disk)
      → Stepped new Whole → up.brick.halted ≡ false → (is_unlisted new.brick.disk → IsSound up.brick.disk)
      → up.brick.shape ≡ shape_at up.layout up.me → IsListed up.brick.shape up.brick.listed (content_of up.brick.disk)
      → up.brick.listed ≡ new.brick.listed → TookWhole layout me state time packet node.brick.disk fault (Up up) outs
  took_whole new up outs stays_new stays_up steps up_is still idle step halted sound shape_up listed_up long =
      let next : machine.Node = (machine.received (coding layout) me time state packet).node in
      let run = (change_there new Whole step).run in
      let is : state_of new ≡ next = steps.state_is ∙ ap (λ (s : machine.NodeStep). s.node) steps_there in
      let stands : Stands in_memory (ImageShows layout me next) new.brick.disk =
      subst (λ (s : machine.Node). Stands in_memory (ImageShows layout me s) new.brick.disk) is
      (as_there (λ l b s. Stands in_memory (ImageShows l b (state_of new)) new.brick.disk) (step.stands refl tt)) in
      record {
        packets =
            ap (λ (b : BrickId). packets_from b outs.messages) (sym (same.me ∙ runs.me_is)) ∙ steps.packets
            ∙ ap (λ (s : machine.NodeStep). s.packets) steps_there;
        told = steps.told ∙ ap (λ (s : machine.NodeStep). s.told) steps_there;
        answers = steps.answers ∙ ap (λ (s : machine.NodeStep). s.answers) steps_there;
        reports = steps.reports ∙ ap (λ (s : machine.NodeStep). s.reports) steps_there;
        on = on_there next new up stays_new stays_up is up_is
            (kept_still layout me next new.brick.disk up.brick.disk still stands) halted (sound (run.stays unlisted_here));
        spared = λ reached.
            let n : reached.listed ≡ armed.brick.listed =
            listed_once (shape_at layout me) (content_of node.brick.disk) reached.listed armed.brick.listed reached.is_listed listed_there
            in
            run.spared refl
            (subst (λ (k : ℕ). IsWithin (packet_calls layout me state packet k) armed.brick.disk.plan) n
            (subst (λ (p : Plan). IsWithin (packet_calls layout me state packet reached.listed) p) (sym arms.planned) reached.within));
        still = λ none.
            unwritten_by (plan_of fault) node.brick.disk armed.brick.disk new.brick.disk up.brick.disk arms (idle (calls_there ∙ none armed.brick.listed))
            still;
        lists = record {
          before = armed.brick.listed;
          after = new.brick.listed;
          was_listed = listed_there;
          is_listed = listed_by layout me up new.brick.listed (stays_up.layout ∙ stays_new.layout ∙ same.layout ∙ runs.layout_is)
              (stays_up.me ∙ stays_new.me ∙ same.me ∙ runs.me_is) shape_up listed_up long;
          longer = as_there (λ l b s. IsListedAfter (shape_at l b) s.live armed.brick.listed (packet_append l b s packet) new.brick.listed)
              (step.listed.whole refl);
        };
      }

  pub took_part : (new : Running MemDisk) (left last : MemDisk) → left ≡ new.brick.disk → armed.brick.halted ≡ false → Stepped new Cut
      → LeftBy fault left last → ((image : List ℕ) → may_be_left last image → may_be_left left image) → (IsSound left → IsSound last)
      → (machine.absorbed (coding layout) me state packet).boot ≡ state.boot
      → TookPart layout me state packet node.brick.disk fault (Down last)
  took_part new left last same_disk on step befallen crash sound boots =
      let before : machine.Node = machine.stopped state in
      let next : machine.Node = machine.absorbed (coding layout) me state packet in
      let change : Change in_memory (packet_calls layout me state packet armed.brick.listed) (ImageShows layout me state) (ImageShows layout me next)
      armed.brick.disk left Cut =
      subst (λ (d : MemDisk). Change in_memory (packet_calls layout me state packet armed.brick.listed) (ImageShows layout me state)
      (ImageShows layout me next) armed.brick.disk d Cut) (sym same_disk) (change_there new Cut step) in
      let stood = as_there (λ l b s. Stands in_memory (ImageShows l b s) armed.brick.disk) (step.stood tt on) in
      let stops = change.cut refl tt stood in
      let made : moment_of left ≡ moment_of armed.brick.disk + calls_made (plan_of fault) =
      change.run.stopped tt unlisted_here refl ∙ ap (λ (p : Plan). moment_of armed.brick.disk + calls_made p) arms.planned in
      let either : (image : List ℕ) → may_be_left left image → ShowsEither layout me before (machine.stopped next) image =
      λ image now. ⊎_elim
      (λ (is : ImageShows layout me state image). inl (stopped_shows layout me state image is))
      (λ (is : ImageShows layout me next image). inr (stopped_shows layout me next image is))
      ((change.moments tt stood).each image (image_had (past_of_disk left) (content_of left) (moment_of armed.brick.disk) image now))
      in
      let holds : HoldsOne layout me before (machine.stopped next) left =
      holds_by layout me before (machine.stopped next) left
      (λ image now. ⊎_elim
      (λ (is : ImageShows layout me before image). shows_before layout me before (machine.stopped next) image is)
      (λ (is : ImageShows layout me (machine.stopped next) image). shows_after layout me before (machine.stopped next) image is)
      (either image now))
      in
      record {
        reached = record {
          listed = armed.brick.listed;
          is_listed = listed_there;
          within = subst (λ (p : Plan). IsWithin (packet_calls layout me state packet armed.brick.listed) p) arms.planned
              (change.run.named unlisted_here refl);
        };
        off = (
          refl,
          record {
            holds = holds_less layout me before (machine.stopped next) left last crash holds;
            boots = stopped_boots state next boots;
            sound = sound (record { unplanned = change.run.used_up unlisted_here refl; unlisted = change.run.stays unlisted_here });
          },
        );
        left = record {
          was = left;
          holds = either;
          synced = stopped_shows layout me state (certain_of left) stops.settled;
          reads = record {
            early = λ soon. stopped_shows layout me state (content_of left) (stops.early (omega (arith, soon, made)));
            late = λ late. stopped_shows layout me next (content_of left) (stops.late (omega (arith, late, made)));
          };
          left = befallen;
        };
      }

  pub took_nothing : (new up : Running MemDisk) → IsSameBrick armed new → IsSameBrick new up → state_of new ≡ state_of armed → state_of up ≡ state_of new
      → IsUnwritten new.brick.disk up.brick.disk → Stepped new NotBegun → up.brick.halted ≡ false → (is_unlisted new.brick.disk → IsSound up.brick.disk)
      → IsRunning layout me state up × (content_of up.brick.disk ≡ content_of node.brick.disk)
  took_nothing new up stays_new stays_up is up_is still step halted sound =
      let change = change_there new NotBegun step in
      let alone = unwritten_by (plan_of fault) node.brick.disk armed.brick.disk new.brick.disk up.brick.disk arms (change.not_begun refl) still in (
        on_there state new up stays_new stays_up (is ∙ state_same ∙ runs.state_is) up_is
            (kept_still layout me state node.brick.disk up.brick.disk alone runs.kept) halted (sound (change.run.stays unlisted_here)),
        alone.content,
      )

-- a step that a fault ended, by what the fault is
abbrev failed : (T : Type 0) → NodeFault → Result T NodeFault
failed T fault = Err fault

pub step_by : (T : Type 0) (append : Option Append) (kept : machine.Node) (old new : Running MemDisk) (fault is : NodeFault) → fault ≡ is
    → StepChange in_memory append kept old new (end_of (failed T fault)) → StepChange in_memory append kept old new (end_of (failed T is))
step_by T append kept old new fault is same step = subst (λ (f : NodeFault). StepChange in_memory append kept old new (end_of (failed T f))) same step

-- want of memory halts no brick
pub halted_as : (T : Type 0) (halted now : Bool) (fault : NodeFault) → now ≡ halted_after {T = T} halted (Err fault) → fault ≡ NoMemory → now ≡ halted
halted_as T halted now fault is none = is ∙ ap (λ (x : NodeFault). halted_after {T = T} halted (Err x)) none
