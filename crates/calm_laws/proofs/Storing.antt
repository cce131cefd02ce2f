-- A store phase alone: every member of the quorum stores the version, so the operation is answered.
use Rattle.std.proofs.Common.{List, None, Option, Some, [], refl, ◌++◌, ◌∷◌, ap, false, inl, inr, map, subst, sym, true, ℕ, ⊎_elim, ◌+◌, ◌<◌, ◌≡◌, ◌⊎◌}
use Rattle.std.proofs.lemmas.Bool.{cases_Bool}
use Rattle.std.specs.Prelude.{◌-◌, ◌^◌}
use Rattle.calm_laws.proofs.Asking.{Gives, Keeps, Replies, told_all}
use Rattle.calm_laws.proofs.Counts.{Carries, counted_of, fresh_at}
use Rattle.calm_laws.proofs.PhaseRuns.{Cast, IsOpen, known_then, open_run_to}
use Rattle.calm_laws.proofs.Rooms.{Room, newest_within}
use Rattle.calm_laws.proofs.Scenes.{Closes, Each, Fits, IsNewest, IsSeated, Part, Scene, Seated, Stage, part_after, reaction, IsForAll}
use Rattle.fab_base.specs.Stamps.{stamp_below}
use Rattle.fab_base.specs.declared.answers.Answer.{Answer}
use Rattle.fab_base.specs.declared.stamps.Stamp.{Stamp}
use Rattle.messages.specs.declared.replies.Reply.TheVariants.{Stored}
use Rattle.messages.specs.declared.requests.Version.{Version}
use Rattle.protocol.specs.Calms.{early}
use Rattle.protocol.specs.Coordinators.{Coordinator, Ends, Next, answers_phase, decided}
use Rattle.protocol.specs.Replicas.{Reaction, Replica, is_held, newest_of, stays, stored, top_of}
use Rattle.protocol.specs.Worlds.{is_answer}
use Rattle.fab_base.proofs.StampOrder.{stamp_neither_below}
use Rattle.protocol_laws.proofs.Logs.{IsWithin, LogAscends, newest_greatest, newest_held}
use Rattle.quorum.specs.Tallies.{fits}

-- a part after a reaction
abbrev pub with_reaction : Part → Reaction → Part
with_reaction part r = record { replica = r.replica; live = part.live + r.adds - r.drops }

-- a part takes the version: it has come to nothing above that, has room, and its log has what that wants
abbrev pub Takes : Stage → Stamp → (List Version → Type 0) → Part → Type 0
Takes stage t P part =
    (stamp_below t (top_of part.replica) ≡ false) × Room stage part × LogAscends part.replica.log × P part.replica.log

-- it does so, or has the version already
abbrev pub IsStorable : Stage → Stamp → (List Version → Type 0) → Part → Type 0
IsStorable stage t P part = Takes stage t P part ⊎ IsNewest t part.replica.log

-- a version that was added is the newest
added_newest : (log : List Version) (x : Version) → newest_of (log ++ (x ∷ [])) ≡ Some x
added_newest [] x = refl
added_newest (y ∷ []) x = refl
added_newest (y ∷ (z ∷ log)) x = added_newest (z ∷ log) x

-- a newest version is held
pub held_newest : (t : Stamp) (log : List Version) → IsNewest t log → is_held t log ≡ true
held_newest t log newest = subst (λ (z : Stamp). is_held z log ≡ true) newest.2 (newest_held log newest.0 newest.1)

-- what a part holds that has come to nothing above it is the newest there
newest_tame : (t : Stamp) (replica : Replica) → stamp_below t (top_of replica) ≡ false → LogAscends replica.log → is_held t replica.log ≡ true
    → IsNewest t replica.log
newest_tame t replica tame ascends held = go (newest_of replica.log) refl (newest_greatest t replica.log ascends held)
  where
    go : (z : Option Version) → newest_of replica.log ≡ z → IsWithin z t → IsNewest t replica.log
    go None is within = absurd within
    go (Some version) is within =
        (version, is, stamp_neither_below version.stamp t within (newest_within t replica version tame is))

-- what a member does where it has the version, and where it has not
pub record StoresSo (stage : Stage) (c : Coordinator) (P : List Version → Type 0) : Type 0 where
  pub has : (y : Seated) (part : Part) → is_held c.stamp part.replica.log ≡ true → reaction stage c part y ≡ stays part.replica Stored
  pub takes : (y : Seated) (part : Part) → is_held c.stamp part.replica.log ≡ false → stamp_below c.stamp (top_of part.replica) ≡ false
      → Room stage part → P part.replica.log → (block : List ℕ) × (reaction stage c part y ≡ stored part.replica c.stamp block)

module _ (stage : Stage) (c : Coordinator) (P : List Version → Type 0) (so : StoresSo stage c P) where
  -- a member that has the version keeps it, and says so
  had : (y : Seated) (part : Part) → IsNewest c.stamp part.replica.log
      → IsNewest c.stamp (part_after stage c part y).replica.log × ((reaction stage c part y).reply ≡ Some Stored)
  had y part newest =
      let e = so.has y part (held_newest c.stamp part.replica.log newest) in
      (subst (λ (r : Reaction). IsNewest c.stamp r.replica.log) (sym e) newest, ap (λ (r : Reaction). r.reply) e)

  -- a member has the version then, and says so
  stores : (y : Seated) (part : Part) → IsStorable stage c.stamp P part
      → IsNewest c.stamp (part_after stage c part y).replica.log × ((reaction stage c part y).reply ≡ Some Stored)
  stores y part (inr newest) = had y part newest
  stores y part (inl can) = ⊎_elim
      (λ (held : is_held c.stamp part.replica.log ≡ true). had y part (newest_tame c.stamp part.replica can.0 can.2 held))
      (λ (unheld : is_held c.stamp part.replica.log ≡ false).
      let e = so.takes y part unheld can.0 can.1 can.3 in
      let x : Version = record { stamp = c.stamp; block = e.0 } in (
        subst (λ (r : Reaction). IsNewest c.stamp r.replica.log) (sym e.1) (x, added_newest part.replica.log x, refl),
        ap (λ (r : Reaction). r.reply) e.1,
      ))
      (cases_Bool (is_held c.stamp part.replica.log))

  pub stores_keep : Keeps stage c (λ i part. IsStorable stage c.stamp P part)
  stores_keep i y part storable = inr (stores y part storable).0

  pub newest_keep : Keeps stage c (λ i part. IsNewest c.stamp part.replica.log)
  newest_keep i y part newest = (stores y part (inr newest)).0

  pub stores_give : Gives stage c (λ i part. IsStorable stage c.stamp P part) (λ i part. IsNewest c.stamp part.replica.log)
  stores_give y part storable = (stores y part storable).0

  pub stores_reply : Replies stage c (λ i part. IsStorable stage c.stamp P part) (λ x. Stored)
  stores_reply x part storable = (stores x part storable).1

-- the version is stored by all, and the operation ends
pub storing_ends : (stage : Stage) (cast : Cast stage) (s : Scene) (P : List Version → Type 0) → IsOpen stage cast s → IsForAll stage s.c.phase → StoresSo stage s.c P
    → s.c.call.phase < 2 ^ 32 - 1 → ((x : Seated) → IsSeated stage x → Fits stage s.c x)
    → Each (λ x. IsStorable stage s.c.stamp P (s.parts x.brick.0)) cast.xs
    → Each (λ x. answers_phase stage.setting.layout.block s.c.stamp x.seat s.c.phase Stored ≡ true) cast.xs
    → ((fresh : Option Stamp) → (answer : Answer) × (is_answer answer ≡ true)
    × (decided stage.setting.layout.block stage.setting.code fresh (record s.c { counted = map (counted_of (λ x. Stored)) cast.xs })
    ≡ Ends answer None (Some s.c.stamp)))
    → Closes stage s
storing_ends stage cast s P open_is all so early fits storable answers ends =
    open_run_to stage cast s open_is all (λ i part. IsStorable stage s.c.stamp P part) (λ i part. IsNewest s.c.stamp part.replica.log) (λ x. Stored)
    early fits (stores_keep stage s.c P so) (stores_reply stage s.c P so) (newest_keep stage s.c P so) (stores_give stage s.c P so) storable answers
    (λ before parts newest.
    let known : ℕ = known_then stage s (λ x. Stored) cast.xs open_is.stale in
    let end = ends (fresh_at stage s.c known) in
    subst (λ (z : Next). Carries stage (record s { known = known; parts = parts; queue = told_all stage s.c open_is.others before }) z) (sym end.2) (
      end.1,
      (refl, subst (λ (xs : List Seated). Each (λ x. IsNewest s.c.stamp (parts x.brick.0).replica.log) xs) cast.counts newest),
    ))
