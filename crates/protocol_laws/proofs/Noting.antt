-- As its scrub's next phase begins, a brick notes who lagged: the world that its step leaves is as if it had noted that first.
use Rattle.std.proofs.Common.{◌≡◌, ℕ, Option, Some, None, refl, sym, ap, ◌∙◌, subst, arith, true, false}
use Rattle.std.specs.Option.{option_map}
use Rattle.fab_base.specs.declared.identities.BrickId.{BrickId}
use Rattle.messages.specs.declared.calls.Call.{Call}
use Rattle.messages.specs.declared.replies.Reply.{Reply}
use Rattle.protocol.specs.Settings.{Setting}
use Rattle.protocol.specs.Coordinators.{Coordinator, Next, Ignores, Waits, Sends, Makes, Ends, hearing, counts_at, on_reply}
use Rattle.protocol.specs.Jobs.{Job}
use Rattle.protocol.specs.Scrubs.{Scrub, lagging_after, is_look, lagging_of}
use Rattle.protocol.specs.Nodes.{Node, NodeStep, with_known, known_after, fresh_stamp, with_scrub, carried_for, job_reading, scrub_of, replied_ballot, replied_at}
use Rattle.protocol.specs.Worlds.{World, world_stepped}
use Rattle.protocol.proofs.Tables.{put_same}
use Rattle.protocol_laws.proofs.Books.{Books}
use Rattle.protocol_laws.proofs.BooksKept.{KeepsCalls, keeps_itself, scrub_is, reading_is, job_seq, scrub_seq}
use Rattle.protocol_laws.proofs.Closing.{carried_noted}
use Rattle.protocol_laws.proofs.Hearing.{kept_world, stepped_after}
use Rattle.protocol_laws.proofs.Teaching.{replied_rests}
use Rattle.protocol_laws.proofs.Tops.{KeepsPlaces}
use Rattle.std.specs.Prelude.{nat_eq}
use Rattle.std.proofs.lemmas.Bool.{cond-true, cond-false, eq-eqb}
use Rattle.std.proofs.lemmas.Option.{same_Some}
use Rattle.protocol.specs.declared.phases.Phase.{Phase}
use Rattle.fab_base.specs.Layouts.{Group}
use Rattle.fab_base.specs.declared.answers.Answer.{Answer}
use Rattle.fab_base.specs.declared.stamps.Stamp.{Stamp}

-- a brick that notes who lagged by the replies of this coordinator, where this is decided, and its scrub is this
abbrev pub noting : Node → Coordinator → Next → Option Job → Option Scrub → Node
noting node heard (Sends d) None (Some scrub) = with_scrub node (Some (record scrub { lagging = lagging_after scrub heard }))
noting node heard next reading scrub = node

-- what a coordinator of a brick decides on a reply
abbrev pub decision_on : Setting → BrickId → ℕ → BrickId → Node → Call → Reply → Coordinator → Next
decision_on setting me now from node call reply c =
    on_reply setting.layout.block setting.code (fresh_stamp me c.stamp.view now node.boot (known_after node.known reply)) c from call reply

-- the coordinator once it heard the reply
abbrev pub heard_by : Setting → BrickId → Call → Reply → Coordinator → Coordinator
heard_by setting from call reply c = hearing c from reply (counts_at setting.layout.block c from.0 call reply)

-- what a brick notes that handles a reply to this open operation, if there is one
abbrev pub noted_by : Setting → BrickId → ℕ → BrickId → Node → Call → Reply → Option Coordinator → Node
noted_by setting me now from node call reply None = node
noted_by setting me now from node call reply (Some c) =
    noting node (heard_by setting from call reply c) (decision_on setting me now from node call reply c) (job_reading node.job c.call.seq) (scrub_of node.scrub c.call.seq)

-- and what it then does
abbrev pub replied_noted : Setting → BrickId → ℕ → BrickId → Node → Call → Reply → Option Coordinator → NodeStep
replied_noted setting me now from node call reply None = replied_ballot setting.layout me from (with_known node (known_after node.known reply)) call reply node.proposal
replied_noted setting me now from node call reply (Some c) =
    carried_noted setting me now node (known_after node.known reply) c (decision_on setting me now from node call reply c) (job_reading node.job c.call.seq)
    (scrub_of node.scrub c.call.seq)

module _ (setting : Setting) (me : BrickId) (now : ℕ) (from : BrickId) (node : Node) (call : Call) (reply : Reply) where
  -- it is as it was, or its scrub has other members that lagged
  pub noted_each : (P : Node → Type 0) (found : Option Coordinator) → P node
      → ((s later : Scrub) → node.scrub ≡ Some s → later.seq ≡ s.seq → P (with_scrub node (Some later)))
      → P (noted_by setting me now from node call reply found)
  noted_each P None still notes = still
  noted_each P (Some c) still notes =
      by (decision_on setting me now from node call reply c) (job_reading node.job c.call.seq) (scrub_of node.scrub c.call.seq)
      (scrub_is node.scrub c.call.seq)
    where
      heard : Coordinator
      heard = heard_by setting from call reply c

      by : (next : Next) (reading : Option Job) (scrub : Option Scrub) → ((s : Scrub) → scrub ≡ Some s → (node.scrub ≡ Some s) × (s.seq ≡ c.call.seq))
          → P (noting node heard next reading scrub)
      by Ignores reading scrub is = still
      by (Waits d) reading scrub is = still
      by (Makes d) reading scrub is = still
      by (Ends answer seen stored) reading scrub is = still
      by (Sends d) None None is = still
      by (Sends d) None (Some s) is = notes s (record s { lagging = lagging_after s heard }) (is s refl).0 refl
      by (Sends d) (Some job) scrub is = still

  -- what it does with the reply it does as well once it has noted that
  replied_is : (found : Option Coordinator)
      → replied_at setting me now from node call reply found ≡ replied_noted setting me now from (noted_by setting me now from node call reply found) call reply found
  replied_is None = refl
  replied_is (Some c) = by (decision_on setting me now from node call reply c) refl (job_reading node.job c.call.seq) refl (scrub_of node.scrub c.call.seq) refl
    where
      heard : Coordinator
      heard = heard_by setting from call reply c

      known : ℕ
      known = known_after node.known reply

      plain : (next : Next) → decision_on setting me now from node call reply c ≡ next → (reading : Option Job) → job_reading node.job c.call.seq ≡ reading
          → (scrub : Option Scrub) → scrub_of node.scrub c.call.seq ≡ scrub
          → carried_noted setting me now node known c next reading scrub
          ≡ carried_noted setting me now node known c (decision_on setting me now from node call reply c) (job_reading node.job c.call.seq)
          (scrub_of node.scrub c.call.seq)
      plain next is reading reads scrub scrubs =
          ap (λ (z : Next). carried_noted setting me now node known c z reading scrub) (sym is)
          ∙ ap (λ (z : Option Job). carried_noted setting me now node known c (decision_on setting me now from node call reply c) z scrub) (sym reads)
          ∙ ap (λ (z : Option Scrub). carried_noted setting me now node known c (decision_on setting me now from node call reply c) (job_reading node.job c.call.seq) z)
          (sym scrubs)

      -- where a phase begins, the scrub is as good as none
      begins : (next : Node) (d : Coordinator) (z : Option Scrub)
          → carried_noted setting me now next known c (Sends d) None None ≡ carried_noted setting me now next known c (Sends d) None z
      begins next d None = refl
      begins next d (Some s) = refl

      by : (next : Next) → decision_on setting me now from node call reply c ≡ next → (reading : Option Job) → job_reading node.job c.call.seq ≡ reading
          → (scrub : Option Scrub) → scrub_of node.scrub c.call.seq ≡ scrub
          → (let n : Node = noting node heard next reading scrub in
          carried_for setting me now node known c heard next reading scrub
          ≡ carried_noted setting me now n (known_after n.known reply) c (decision_on setting me now from n call reply c) (job_reading n.job c.call.seq)
          (scrub_of n.scrub c.call.seq))
      by Ignores is None reads None scrubs = plain Ignores is None reads None scrubs
      by (Waits d) is None reads None scrubs = plain (Waits d) is None reads None scrubs
      by (Sends d) is None reads None scrubs = plain (Sends d) is None reads None scrubs
      by (Makes d) is None reads None scrubs = plain (Makes d) is None reads None scrubs
      by (Ends answer seen stored) is None reads None scrubs = plain (Ends answer seen stored) is None reads None scrubs
      by Ignores is None reads (Some s) scrubs = plain Ignores is None reads (Some s) scrubs
      by (Waits d) is None reads (Some s) scrubs = plain (Waits d) is None reads (Some s) scrubs
      by (Makes d) is None reads (Some s) scrubs = plain (Makes d) is None reads (Some s) scrubs
      by (Ends answer seen stored) is None reads (Some s) scrubs = plain (Ends answer seen stored) is None reads (Some s) scrubs
      by (Sends d) is None reads (Some s) scrubs =
          let n : Node = with_scrub node (Some (record s { lagging = lagging_after s heard })) in
          begins n d (scrub_of n.scrub c.call.seq)
          ∙ ap (λ (z : Next). carried_noted setting me now n known c z None (scrub_of n.scrub c.call.seq)) (sym is)
          ∙ ap (λ (z : Option Job). carried_noted setting me now n known c (decision_on setting me now from node call reply c) z (scrub_of n.scrub c.call.seq)) (sym reads)
      by Ignores is (Some job) reads scrub scrubs = plain Ignores is (Some job) reads scrub scrubs
      by (Waits d) is (Some job) reads scrub scrubs = plain (Waits d) is (Some job) reads scrub scrubs
      by (Sends d) is (Some job) reads scrub scrubs = plain (Sends d) is (Some job) reads scrub scrubs
      by (Makes d) is (Some job) reads scrub scrubs = plain (Makes d) is (Some job) reads scrub scrubs
      by (Ends answer seen stored) is (Some job) reads scrub scrubs = plain (Ends answer seen stored) is (Some job) reads scrub scrubs

  -- its calls and its own reads are as they were, and its places
  pub noted_keeps : (found : Option Coordinator) → KeepsCalls node (noted_by setting me now from node call reply found)
  noted_keeps found =
      noted_each (λ (n : Node). KeepsCalls node n) found (keeps_itself node)
      (λ s later is seq. (
        record { boot = refl; seq = omega arith; known = omega arith },
        λ l. refl,
        refl,
        ap (λ (l : ℕ). Some l) seq ∙ sym (ap (option_map (λ (z : Scrub). z.seq)) is),
      ))

  pub noted_places : (found : Option Coordinator) → KeepsPlaces node (noted_by setting me now from node call reply found)
  noted_places found = noted_each (λ (n : Node). KeepsPlaces node n) found (refl, refl, refl) (λ s later is seq. (refl, refl, refl))

-- A brick handles a reply to an open operation, if there is one: it does so in the world in which it has noted who lagged.
pub noting_each : (P : World → Type 0) (setting : Setting) (w : World) (me : BrickId) (now : ℕ) (from : BrickId) (call : Call) (reply : Reply)
    (found : Option Coordinator)
    → (let y : World = kept_world w me (noted_by setting me now from (w.nodes me.0) call reply found) in
    P (world_stepped setting y me (replied_noted setting me now from (y.nodes me.0) call reply found)))
    → P (world_stepped setting w me (replied_at setting me now from (w.nodes me.0) call reply found))
noting_each P setting w me now from call reply found handles =
    let node : Node = w.nodes me.0 in
    let noted : Node = noted_by setting me now from node call reply found in
    let same = replied_is setting me now from node call reply found in
    let rests = replied_rests setting me from now call.group.0 call reply node found in
    let places = noted_places setting me now from node call reply found in
    subst (λ (step : NodeStep). P (world_stepped setting w me step)) (sym same)
    (subst P (stepped_after setting w me noted (replied_noted setting me now from noted call reply found)
    (noted_keeps setting me now from node call reply found).0.boot (
      ap (λ (s : NodeStep). s.node.learnt) (sym same) ∙ rests.learnt ∙ sym places.0,
      ap (λ (s : NodeStep). s.node.ballots) (sym same) ∙ rests.ballots ∙ sym places.1,
      ap (λ (s : NodeStep). s.node.replicas) (sym same) ∙ rests.replicas ∙ sym places.2,
    ))
    (subst (λ (n : Node). P (world_stepped setting (kept_world w me noted) me (replied_noted setting me now from n call reply found)))
    (put_same w.nodes me.0 noted) handles))

-- Where a scrub's next phase begins upon its look, its brick has noted who lagged by the replies of that.
abbrev pub IsNoted : Setting → BrickId → ℕ → BrickId → Node → Call → Reply → Coordinator → Type 0
IsNoted setting me now from node call reply c =
    (s : Scrub) (d : Coordinator) → decision_on setting me now from node call reply c ≡ Sends d → node.scrub ≡ Some s → s.seq ≡ c.call.seq
    → is_look c.phase ≡ true → s.lagging ≡ lagging_of c.group.members (heard_by setting from call reply c).counted

-- a coordinator that heard a reply is in its phase, and of its group
heard_same : (c : Coordinator) (from : BrickId) (reply : Reply) (z : Option ℕ)
    → ((hearing c from reply z).phase ≡ c.phase) × ((hearing c from reply z).group ≡ c.group)
heard_same c from reply None = (refl, refl)
heard_same c from reply (Some seat) = (refl, refl)

-- the scrub of this number is found by that
scrub_found : (scrub : Option Scrub) (s : Scrub) (seq : ℕ) → scrub ≡ Some s → s.seq ≡ seq → scrub_of scrub seq ≡ Some s
scrub_found None s seq is same = absurd (let never : None ≡ Some s = is in cc)
scrub_found (Some r) s seq is same =
    let one : r ≡ s = same_Some r s is in
    cond-true (nat_eq r.seq seq) (Some r) None (eq-eqb r.seq seq (ap (λ (z : Scrub). z.seq) one ∙ same)) ∙ is

module _ (setting : Setting) (w : World) (books : Books setting w) (me : BrickId) (now : ℕ) (from : BrickId) (call : Call) (reply : Reply) where
  abbrev node : Node
  node = w.nodes me.0

  -- the call of a scrub is no read of a synchronisation
  no_reading : (s : Scrub) (seq : ℕ) → (w.nodes me.0).scrub ≡ Some s → s.seq ≡ seq → (job : Job) → job_reading (w.nodes me.0).job seq ≡ Some job → ⊥
  no_reading s seq is same job reads =
      let mine = reading_is (w.nodes me.0).job seq job reads in
      books.apart me.0 seq (job_seq (w.nodes me.0).job job seq mine.0 mine.1) (scrub_seq (w.nodes me.0).scrub s seq is same)

  -- so it has noted it
  pub noted_is : (c : Coordinator) → IsNoted setting me now from (noted_by setting me now from node call reply (Some c)) call reply c
  noted_is c s d decides has seq look =
      by (decision_on setting me now from node call reply c)
      (sym (noted_each setting me now from node call reply
      (λ (n : Node). decision_on setting me now from n call reply c ≡ decision_on setting me now from node call reply c) (Some c) refl
      (λ r later is same. refl)) ∙ decides)
      (job_reading node.job c.call.seq) refl (scrub_of node.scrub c.call.seq) refl has
    where
      heard : Coordinator
      heard = heard_by setting from call reply c

      same : (heard.phase ≡ c.phase) × (heard.group ≡ c.group)
      same = heard_same c from reply (counts_at setting.layout.block c from.0 call reply)

      by : (next : Next) → next ≡ Sends d → (reading : Option Job) → job_reading node.job c.call.seq ≡ reading → (scrub : Option Scrub)
          → scrub_of node.scrub c.call.seq ≡ scrub → (noting node heard next reading scrub).scrub ≡ Some s
          → s.lagging ≡ lagging_of c.group.members heard.counted
      by (Sends e) is None reads (Some r) scrubs now' =
          ap (λ (z : Scrub). z.lagging) (sym (same_Some (record r { lagging = lagging_after r heard }) s now'))
          ∙ cond-true (is_look heard.phase) (lagging_of heard.group.members heard.counted) r.lagging (ap (λ (p : Phase). is_look p) same.0 ∙ look)
          ∙ ap (λ (g : Group). lagging_of g.members heard.counted) same.1
      by (Sends e) is None reads None scrubs now' =
          absurd (let never : None ≡ Some s = sym scrubs ∙ scrub_found node.scrub s c.call.seq now' seq in cc)
      by (Sends e) is (Some job) reads scrub scrubs now' = absurd (no_reading s c.call.seq now' seq job reads)
      by Ignores is reading reads scrub scrubs now' = absurd (let never : Ignores ≡ Sends d = is in cc)
      by (Waits e) is reading reads scrub scrubs now' = absurd (let never : Waits e ≡ Sends d = is in cc)
      by (Makes e) is reading reads scrub scrubs now' = absurd (let never : Makes e ≡ Sends d = is in cc)
      by (Ends answer seen stored) is reading reads scrub scrubs now' = absurd (let never : Ends answer seen stored ≡ Sends d = is in cc)

  -- and nothing else, where no look has ended
  pub noted_lags : (found : Option Coordinator) (c : Coordinator) → node.calls call.seq ≡ found → node.calls c.call.seq ≡ Some c
      → (s : Scrub) → (noted_by setting me now from node call reply found).scrub ≡ Some s → s.seq ≡ c.call.seq
      → (r : Scrub) × (node.scrub ≡ Some r) × (r.seq ≡ s.seq) × (is_look c.phase ≡ false → s.lagging ≡ r.lagging)
  noted_lags None c is at s has seq = (s, has, refl, λ look. refl)
  noted_lags (Some d) c is at s has seq =
      by (decision_on setting me now from node call reply d) (job_reading node.job d.call.seq) (scrub_of node.scrub d.call.seq)
      (scrub_is node.scrub d.call.seq) has
    where
      heard : Coordinator
      heard = heard_by setting from call reply d

      same : (heard.phase ≡ d.phase) × (heard.group ≡ d.group)
      same = heard_same d from reply (counts_at setting.layout.block d from.0 call reply)

      Was : Type 0
      Was = (r : Scrub) × (node.scrub ≡ Some r) × (r.seq ≡ s.seq) × (is_look c.phase ≡ false → s.lagging ≡ r.lagging)

      by : (next : Next) (reading : Option Job) (scrub : Option Scrub) → ((r : Scrub) → scrub ≡ Some r → (node.scrub ≡ Some r) × (r.seq ≡ d.call.seq))
          → (noting node heard next reading scrub).scrub ≡ Some s → Was
      by (Sends e) None (Some r) scrubs now' =
          let its = scrubs r refl in
          let one : record r { lagging = lagging_after r heard } ≡ s = same_Some (record r { lagging = lagging_after r heard }) s now' in
          let call_is : d.call.seq ≡ c.call.seq = sym its.1 ∙ ap (λ (z : Scrub). z.seq) one ∙ seq in
          let both : d ≡ c
          = same_Some d c (sym is ∙ ap (λ (k : ℕ). node.calls k) (sym (books.calls me.0 call.seq d is).call_seq ∙ call_is) ∙ at) in (
            r,
            its.0,
            ap (λ (z : Scrub). z.seq) one,
            λ look. ap (λ (z : Scrub). z.lagging) (sym one)
                ∙ cond-false (is_look heard.phase) (lagging_of heard.group.members heard.counted) r.lagging
                (ap (λ (p : Phase). is_look p) (same.0 ∙ ap (λ (z : Coordinator). z.phase) both) ∙ look),
          )
      by (Sends e) None None scrubs now' = (s, now', refl, λ look. refl)
      by (Sends e) (Some job) scrub scrubs now' = (s, now', refl, λ look. refl)
      by Ignores reading scrub scrubs now' = (s, now', refl, λ look. refl)
      by (Waits e) reading scrub scrubs now' = (s, now', refl, λ look. refl)
      by (Makes e) reading scrub scrubs now' = (s, now', refl, λ look. refl)
      by (Ends answer seen stored) reading scrub scrubs now' = (s, now', refl, λ look. refl)

-- what is decided does not depend on who lagged
pub noted_decides : (setting : Setting) (me : BrickId) (now : ℕ) (from : BrickId) (node : Node) (call : Call) (reply : Reply) (found : Option Coordinator)
    (c : Coordinator) → decision_on setting me now from (noted_by setting me now from node call reply found) call reply c
    ≡ decision_on setting me now from node call reply c
noted_decides setting me now from node call reply found c =
    noted_each setting me now from node call reply
    (λ (n : Node). decision_on setting me now from n call reply c ≡ decision_on setting me now from node call reply c) found refl (λ r later is same. refl)

-- where the operation ends nothing is noted
pub noted_end : (setting : Setting) (me : BrickId) (now : ℕ) (from : BrickId) (node : Node) (call : Call) (reply : Reply) (c : Coordinator) (answer : Answer)
    (seen stored : Option Stamp) → decision_on setting me now from node call reply c ≡ Ends answer seen stored
    → noted_by setting me now from node call reply (Some c) ≡ node
noted_end setting me now from node call reply c answer seen stored is =
    ap (λ (z : Next). noting node (heard_by setting from call reply c) z (job_reading node.job c.call.seq) (scrub_of node.scrub c.call.seq)) is
