-- What closes on the scene finishes in each world that shows the scene; and the deliveries of an operation alone are determined.
use Rattle.messages.specs.declared.replies.Reply.TheVariants.{Old}
use Rattle.std.proofs.Common.{List, None, Option, ap, ap₂, refl, subst, sym, true, ℕ, ◌+◌, ◌∙◌, ◌∷◌, ◌≡◌, Some, [], ◌++◌}
use Rattle.std.proofs.lemmas.Bool.{false≢true}
use Rattle.std.proofs.lemmas.Option.{same_Some}
use Rattle.std.specs.Prelude.{is_some}
use Rattle.calm_laws.proofs.Hears.{answer_plays, begin_plays, count_plays, create_plays, skip_plays}
use Rattle.calm_laws.proofs.Plays.{Finishes, asked_move, asked_step, finishes_by, back_step, back_move}
use Rattle.calm_laws.proofs.Scenes.{Answers, Asks, Begins, Closes, Counts, Creates, Scene, Skips, Stage, asked, asking, heard, made, reaction, replies_from, sent, waits, AsksBack, found_back, replying}
use Rattle.calm_laws.proofs.Shows.{Shows, shows_next, world_by}
use Rattle.fab_base.specs.declared.identities.BrickId.{BrickId}
use Rattle.protocol.specs.Calms.{Ended, RunsAlone, open_call}
use Rattle.protocol.specs.Coordinators.{Coordinator}
use Rattle.protocol.specs.Nodes.{reacted, sending, reply_packets}
use Rattle.protocol.specs.Replicas.{stored}
use Rattle.protocol.specs.Settings.{Setting}
use Rattle.protocol.specs.Worlds.{Delivers, Event, World, happens, run}
use Rattle.quorum.specs.Tallies.{fits}
use Rattle.protocol.specs.Calms.{Next as Goes_on, Stuck}

-- each step of the scene is a delivery
pub plays : (stage : Stage) (n : ℕ) (s : Scene) → Closes stage s → (w : World) → Shows stage n w s → Finishes stage n s.c w
plays stage n _ (Asks s x rest queue seated fits in_view closes) w shows =
    finishes_by stage n w s s.c (asking stage s.c x) rest shows
    (record { group = refl; prior = refl; only = refl; boot = refl; seq = refl; of_group = refl; view = refl; stripe = refl }) queue (shows.members x.brick seated.1).up
    (reacted x.brick stage.me (w.nodes x.brick.0) s.c.call (reaction stage s.c (s.parts x.brick.0) x))
    (asked_step stage n w s x shows seated fits in_view)
    (λ head.
    plays stage n (asked stage s x rest) closes
    (world_by stage w (1 + head.place) (asking stage s.c x)
    (reacted x.brick stage.me (w.nodes x.brick.0) s.c.call (reaction stage s.c (s.parts x.brick.0) x)))
    (shows_next stage n w
    (world_by stage w (1 + head.place) (asking stage s.c x)
    (reacted x.brick stage.me (w.nodes x.brick.0) s.c.call (reaction stage s.c (s.parts x.brick.0) x)))
    s (asked stage s x rest) (asking stage s.c x) rest (replies_from stage s.c (s.parts x.brick.0) x) shows head
    (asked_move stage n w s x rest (1 + head.place) shows seated in_view)))
plays stage n _ (AsksBack s x rest bound queue seated back may later closes) w shows =
    finishes_by stage n w s s.c (asking stage s.c x) rest shows
    (record { group = refl; prior = refl; only = refl; boot = refl; seq = refl; of_group = refl; view = refl; stripe = refl }) queue (shows.members x.brick seated.1).up
    (sending (w.nodes x.brick.0) (reply_packets x.brick stage.me s.c.call (Some (Old (found_back stage bound x)))))
    (back_step stage n w s x bound shows seated back may later)
    (λ head.
    plays stage n (record s { queue = rest ++ (replying stage x.brick s.c.call (Old (found_back stage bound x)) ∷ []) }) closes
    (world_by stage w (1 + head.place) (asking stage s.c x)
    (sending (w.nodes x.brick.0) (reply_packets x.brick stage.me s.c.call (Some (Old (found_back stage bound x))))))
    (shows_next stage n w
    (world_by stage w (1 + head.place) (asking stage s.c x)
    (sending (w.nodes x.brick.0) (reply_packets x.brick stage.me s.c.call (Some (Old (found_back stage bound x))))))
    s (record s { queue = rest ++ (replying stage x.brick s.c.call (Old (found_back stage bound x)) ∷ []) }) (asking stage s.c x) rest
    (reply_packets x.brick stage.me s.c.call (Some (Old (found_back stage bound x)))) shows head
    (back_move stage n w s x rest (Old (found_back stage bound x)) (1 + head.place) shows seated.1)))
plays stage n _ (Skips s from call reply rest next is closes) w shows =
    skip_plays stage n w s from call reply rest shows next is (λ later shows_later. plays stage n (heard s reply rest) closes later shows_later)
plays stage n _ (Counts s from call reply rest d next is same closes) w shows =
    count_plays stage n w s from call reply rest shows next d is same
    (λ later shows_later. plays stage n (waits (heard s reply rest) d) closes later shows_later)
plays stage n _ (Begins s from call reply rest d next is same closes) w shows =
    begin_plays stage n w s from call reply rest shows next d is same
    (λ later shows_later. plays stage n (sent stage (heard s reply rest) d) closes later shows_later)
plays stage n _ (Creates s from call reply rest d next is same closes) w shows =
    create_plays stage n w s from call reply rest shows next d is same
    (λ later shows_later. plays stage n (made stage (heard s reply rest) d) closes later shows_later)
plays stage n _ (Answers s from call reply rest answer seen stored next is well ends) w shows =
    answer_plays stage n w s from call reply rest shows next answer seen stored well is ends

-- an operation that is open is not closed
not_both : (setting : Setting) (n : ℕ) (w : World) → is_some (open_call w n) ≡ true → open_call w n ≡ None → ⊥
not_both setting n w some none = false≢true (sym (ap (λ (z : Option Coordinator). is_some z) none) ∙ some)

-- An operation runs alone in one way.
pub runs_once : (setting : Setting) (n : ℕ) (bricks : List BrickId) (w : World) (events : List Event) (last : World)
    → RunsAlone setting n bricks w events last → (others : List Event) (other : World) → RunsAlone setting n bricks w others other
    → (events ≡ others) × (last ≡ other)
runs_once setting n bricks _ _ _ (Ended w closed) _ _ (Ended _ again) = (refl, refl)
runs_once setting n bricks _ _ _ (Ended w closed) _ _ (Stuck _ some none) = absurd (not_both setting n w some closed)
runs_once setting n bricks _ _ _ (Ended w closed) _ _ (Goes_on _ last number events some next runs) = absurd (not_both setting n w some closed)
runs_once setting n bricks _ _ _ (Stuck w some none) _ _ (Ended _ closed) = absurd (not_both setting n w some closed)
runs_once setting n bricks _ _ _ (Stuck w some none) _ _ (Stuck _ again still) = (refl, refl)
runs_once setting n bricks _ _ _ (Stuck w some none) _ _ (Goes_on _ last number events again next runs) = let never : ⊥ = cc in absurd never
runs_once setting n bricks _ _ _ (Goes_on w last number events some next runs) _ _ (Ended _ closed) = absurd (not_both setting n w some closed)
runs_once setting n bricks _ _ _ (Goes_on w last number events some next runs) _ _ (Stuck _ again none) = let never : ⊥ = cc in absurd never
runs_once setting n bricks _ _ _ (Goes_on w last number events some next runs) _ _ (Goes_on _ other place others again also more) =
    let same : place ≡ number = same_Some place number (sym also ∙ next) in
    let rest = runs_once setting n bricks (happens setting w (Delivers number)) events last runs others other
    (subst (λ (k : ℕ). RunsAlone setting n bricks (happens setting w (Delivers k)) others other) same more) in
    (ap₂ (λ (k : ℕ) (l : List Event). Delivers k ∷ l) (sym same) rest.0, rest.1)

-- it leads to the world of its deliveries
pub runs_to : (setting : Setting) (n : ℕ) (bricks : List BrickId) (w : World) (events : List Event) (last : World)
    → RunsAlone setting n bricks w events last → run setting events w ≡ last
runs_to setting n bricks _ _ _ (Ended w closed) = refl
runs_to setting n bricks _ _ _ (Stuck w some none) = refl
runs_to setting n bricks _ _ _ (Goes_on w last number events some next runs) =
    runs_to setting n bricks (happens setting w (Delivers number)) events last runs
